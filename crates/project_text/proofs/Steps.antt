-- A project is read one line after another, and a long text in parts.
use Rattle.std.proofs.Common.{◌≡◌, ℕ, ◌+◌, ◌<◌, ◌≤◌, Bool, List, [], ◌∷◌, ◌++◌, length, true, Option, Some, None, Result, Ok, Err, refl, sym, ap, ◌∙◌, subst, append_assoc, length-append, arith}
use Rattle.std.specs.Prelude.{IfOk, IfErr}
use Rattle.std.specs.Option.{option_to_list}
use Rattle.std.specs.List.{list_all}
use Rattle.std.proofs.lemmas.Bool.{and_from, le-ltb}
use Rattle.std.proofs.lemmas.List.Folds.{list_all-append}
use Rattle.std.proofs.lemmas.List.{append-nil}
use Rattle.std.specs.Str.Lines.{lines}
use Rattle.knx_model.specs.declared.project.Grammar.{Grammar}
use Rattle.knx_model.specs.declared.project.What.{What}
use Rattle.knx_model.specs.declared.project.Statement.{Statement}
use Rattle.knx_model.specs.declared.refusal.Refused.{Refused}
use Rattle.knx_model.specs.declared.refusal.Why.{Why}
use Rattle.knx_model.specs.declared.refusal.Why.TheVariants.{NoMemory}
use Rattle.knx_model.specs.LeastLine.{first_refusal_or, refused_from, said_from, said_in_line, text_reading}
use Rattle.knx_model.specs.Statements.{are_spelled, are_spellable, are_numbered, grammar_of, is_spellable, project_says, reading, statement}
use Rattle.knx_model.specs.Answers.{AnswersUnless}
use Rattle.knx_model.specs.Words.{is_text}
use Rattle.knx_model.proofs.LeastLine as least
use Rattle.knx_model.proofs.Plain.{first_passes, rest_pass}
use Rattle.project_text.specs.Reading.{IsJoined, IsRead, lines_say, with_line}
use Rattle.project_text.proofs.FirstLine.{read_spellable}
use Rattle.project_text.proofs.Parts.{say_both, refused_first, refused_later, one_says, one_refused}

-- ss are the statements of the lines before, none of which breaks a rule; where the text is plain, each line of the rest is text
pub record ReadsOn (g : Grammar) (is_plain : Bool) (first : ℕ) (octets : List ℕ) (ss : List Statement) (n : ℕ) (rest : List ℕ) : Type 0 where
  pub before : List (List ℕ)
  pub whole : lines octets ≡ before ++ lines rest
  pub said : lines_say g first before ≡ Ok ss
  pub next : n ≡ first + length before
  pub counted : n + length rest ≤ first + length octets
  pub short : first + length octets ≤ 4194305
  pub spelled : are_spelled g.version ss ≡ true
  pub plain : is_plain ≡ true → list_all is_text (lines rest) ≡ true

pub begins : (g : Grammar) (is_plain : Bool) (first : ℕ) (octets : List ℕ) (ss : List Statement) → ss ≡ [] → first + length octets ≤ 4194305 → (is_plain ≡ true → list_all is_text (lines octets) ≡ true) → ReadsOn g is_plain first octets ss first octets
unfolding said_from refused_from
begins g is_plain first octets ss none short plain = record {
  before = [];
  whole = refl;
  said = ap (λ (x : List Statement). Ok x) (sym none);
  next = omega arith;
  counted = omega arith;
  short = short;
  spelled = ap (are_spelled g.version) none;
  plain = plain;
}

-- the first line and the rest are text, where all lines are
lines_plain : (rest text after : List ℕ) → lines rest ≡ text ∷ lines after → list_all is_text (lines rest) ≡ true → list_all is_text (text ∷ lines after) ≡ true
lines_plain rest text after first plain = rw first at plain

pub line_is_text : (g : Grammar) (is_plain : Bool) (first : ℕ) (octets rest text after : List ℕ) (ss : List Statement) (n : ℕ) → ReadsOn g is_plain first octets ss n rest → lines rest ≡ text ∷ lines after → is_plain ≡ true → is_text text ≡ true
line_is_text g is_plain first octets rest text after ss n reads cut q = first_passes is_text text (lines after) (lines_plain rest text after cut (reads.plain q))

-- what a line adds is what it says
added_is : (n : ℕ) (ss new : List Statement) (r : Result (Option What) Why) → with_line ss n r ≡ Ok new → (said : Option What) × (r ≡ Ok said) × (ss ++ option_to_list (said_in_line statement n (Ok said)) ≡ new)
added_is n ss new (Ok None) e = let same : ss ≡ new = cc in (None, refl, append-nil ss ∙ same)
added_is n ss new (Ok (Some what)) e = let same : ss ++ statement n what ∷ [] ≡ new = cc in (Some what, refl, same)
added_is n ss new (Err why) e = absurd (cc)

-- with a line more
said_more : (g : Grammar) (first n : ℕ) (before : List (List ℕ)) (text : List ℕ) (ss new : List Statement) → lines_say g first before ≡ Ok ss → n ≡ first + length before → with_line ss n (project_says g n text) ≡ Ok new → lines_say g first (before ++ text ∷ []) ≡ Ok new
said_more g first n before text ss new said next e =
    let line = added_is n ss new (project_says g n text) e in
    let here : lines_say g (first + length before) (text ∷ []) ≡ Ok (option_to_list (said_in_line statement n (Ok line.0))) =
    ap (λ (k : ℕ). lines_say g k (text ∷ [])) (sym next) ∙ one_says statement (project_says g) n text line.0 line.1 in
    say_both statement (project_says g) first before (text ∷ []) ss (option_to_list (said_in_line statement n (Ok line.0))) said here ∙ ap (λ (x : List Statement). Ok x) line.2

pub goes_on : (g : Grammar) (is_plain : Bool) (first : ℕ) (octets rest text after : List ℕ) (ss new : List Statement) (n : ℕ) → ReadsOn g is_plain first octets ss n rest → lines rest ≡ text ∷ lines after → length after < length rest
    → with_line ss n (project_says g n text) ≡ Ok new → are_spelled g.version new ≡ true → ReadsOn g is_plain first octets new (n + 1) after
goes_on g is_plain first octets rest text after ss new n reads cut less e spelled = record {
  before = reads.before ++ text ∷ [];
  whole = reads.whole ∙ ap (λ (ls : List (List ℕ)). reads.before ++ ls) cut ∙ sym (append_assoc reads.before (text ∷ []) (lines after));
  said = said_more g first n reads.before text ss new reads.said reads.next e;
  next = omega (arith, reads.next, length-append reads.before (text ∷ []));
  counted = omega (arith, reads.counted);
  short = reads.short;
  spelled = spelled;
  plain = λ q. rest_pass is_text text (lines after) (lines_plain rest text after cut (reads.plain q));
}

-- what refuses a line is its own
refused_is : (n : ℕ) (ss : List Statement) (why : Why) (r : Result (Option What) Why) → with_line ss n r ≡ Err why → r ≡ Err why
refused_is n ss why (Ok None) e = absurd (cc)
refused_is n ss why (Ok (Some what)) e = absurd (cc)
refused_is n ss why (Err other) e = let same : other ≡ why = cc in ap (λ (x : Why). Err x) same

pub is_refused : (g : Grammar) (is_plain : Bool) (first : ℕ) (octets rest text after : List ℕ) (ss : List Statement) (n : ℕ) (why : Why) → ReadsOn g is_plain first octets ss n rest → lines rest ≡ text ∷ lines after
    → with_line ss n (project_says g n text) ≡ Err why → lines_say g first (lines octets) ≡ Err (record { line = n; why = why })
is_refused g is_plain first octets rest text after ss n why reads cut e =
    let line = one_refused statement (project_says g) n text why (refused_is n ss why (project_says g n text) e) in
    let behind = refused_first statement (project_says g) n (text ∷ []) (lines after) (record { line = n; why = why }) line in
    let here : lines_say g (first + length reads.before) (text ∷ lines after) ≡ Err (record { line = n; why = why }) = ap (λ (k : ℕ). lines_say g k (text ∷ lines after)) (sym reads.next) ∙ behind in
    ap (λ (ls : List (List ℕ)). lines_say g first ls) (reads.whole ∙ ap (λ (ls : List (List ℕ)). reads.before ++ ls) cut)
    ∙ refused_later statement (project_says g) first reads.before (text ∷ lines after) ss (record { line = n; why = why }) reads.said here

pub all_read : (g : Grammar) (is_plain : Bool) (first : ℕ) (octets rest : List ℕ) (ss : List Statement) (n : ℕ) → ReadsOn g is_plain first octets ss n rest → lines rest ≡ [] → lines_say g first (lines octets) ≡ Ok ss
all_read g is_plain first octets rest ss n reads none =
    ap (λ (ls : List (List ℕ)). lines_say g first ls) (reads.whole ∙ ap (λ (ls : List (List ℕ)). reads.before ++ ls) none ∙ append-nil reads.before) ∙ reads.said

-- ---- a text that is cut

-- the lines of a text are those of its parts, and those of the second are numbered on
pub record IsCut (first : ℕ) (octets : List ℕ) (front : List ℕ) (behind : ℕ) (back : List ℕ) : Type 0 where
  pub whole : lines octets ≡ lines front ++ lines back
  pub next : behind ≡ first + length (lines front)

-- the first part is refused
front_refused : (g : Grammar) (first : ℕ) (octets front : List ℕ) (behind : ℕ) (back : List ℕ) (e : Refused) → IsCut first octets front behind back → IsRead g first front (Err e) → IsRead g first octets (Err e)
front_refused g first octets front behind back e cut read = record {
  read = λ other. ap (λ (ls : List (List ℕ)). lines_say g first ls) cut.whole ∙ refused_first statement (project_says g) first (lines front) (lines back) e (read.read other);
  memory = read.memory;
  spelled = tt;
}

later_say : (g : Grammar) (first : ℕ) (octets front : List ℕ) (behind : ℕ) (back : List ℕ) (r : Result (List Statement) Refused) → IsCut first octets front behind back → lines_say g behind (lines back) ≡ r → lines_say g (first + length (lines front)) (lines back) ≡ r
later_say g first octets front behind back r cut e = ap (λ (k : ℕ). lines_say g k (lines back)) (sym cut.next) ∙ e

-- the second is, and the first isn't
back_refused : (g : Grammar) (first : ℕ) (octets front : List ℕ) (behind : ℕ) (back : List ℕ) (ss : List Statement) (e : Refused) → IsCut first octets front behind back → IsRead g first front (Ok ss) → IsRead g behind back (Err e) → IsRead g first octets (Err e)
back_refused g first octets front behind back ss e cut said read = record {
  read = λ other.
      ap (λ (ls : List (List ℕ)). lines_say g first ls) cut.whole
      ∙ refused_later statement (project_says g) first (lines front) (lines back) ss e said.read (later_say g first octets front behind back (Err e) cut (read.read other));
  memory = read.memory;
  spelled = tt;
}

-- neither is
both_read : (g : Grammar) (first : ℕ) (octets front : List ℕ) (behind : ℕ) (back : List ℕ) (ss later : List Statement) (result : Result (List Statement) Refused) → IsCut first octets front behind back → IsRead g first front (Ok ss) → IsRead g behind back (Ok later)
    → IfOk result (λ all. all ≡ ss ++ later) → IfErr result (λ e. e ≡ record { line = 0; why = NoMemory tt }) → IsRead g first octets result
both_read g first octets front behind back ss later (Ok all) cut said read joined none = record {
  read =
      ap (λ (ls : List (List ℕ)). lines_say g first ls) cut.whole
      ∙ say_both statement (project_says g) first (lines front) (lines back) ss later said.read (later_say g first octets front behind back (Ok later) cut read.read)
      ∙ ap (λ (x : List Statement). Ok x) (sym joined);
  memory = tt;
  spelled = ap (are_spelled g.version) joined ∙ list_all-append (λ (s : Statement). is_spellable g.version s.what) ss later ∙ and_from _ _ said.spelled read.spelled;
}
both_read g first octets front behind back ss later (Err e) cut said read joined wanted = record {
  read = λ other. absurd (other (ap (λ (x : Refused). x.why) wanted));
  memory = λ q. ap (λ (x : Refused). x.line) wanted;
  spelled = tt;
}

pub parts_read : (g : Grammar) (first : ℕ) (octets front : List ℕ) (behind : ℕ) (back : List ℕ) (said later result : Result (List Statement) Refused) → IsCut first octets front behind back → IsRead g first front said → IsRead g behind back later → IsJoined said later result
    → IsRead g first octets result
parts_read g first octets front behind back (Err e) later result cut said read joined = subst (λ (r : Result (List Statement) Refused). IsRead g first octets r) (sym joined) (front_refused g first octets front behind back e cut said)
parts_read g first octets front behind back (Ok ss) (Err e) result cut said read joined = subst (λ (r : Result (List Statement) Refused). IsRead g first octets r) (sym joined) (back_refused g first octets front behind back ss e cut said read)
parts_read g first octets front behind back (Ok ss) (Ok more) result cut said read joined = both_read g first octets front behind back ss more result cut said read joined.0 joined.1

-- ---- a whole text

-- a text that isn't too long reads as its lines do
reads_as : (g : Grammar) (octets : List ℕ) → length octets ≤ 4194304 → g ≡ grammar_of octets → reading octets ≡ lines_say g 1 (lines octets)
unfolding text_reading
reads_as g octets short by = rw (le-ltb 4194304 (length octets) short) (ap (λ (h : Grammar). lines_say h 1 (lines octets)) (sym by))

-- what is read of a whole text's lines is read of the text
pub whole_read : (g : Grammar) (octets : List ℕ) (result : Result (List Statement) Refused) → length octets ≤ 4194304 → g ≡ grammar_of octets → IsRead g 1 octets result
    → AnswersUnless (λ e. e.why ≡ NoMemory tt) (λ said. said) result (reading octets)
whole_read g octets result short by read = rw (reads_as g octets short by) read.read

-- and it can be spelled in the version that its first statement tells
pub whole_spelled : (g : Grammar) (octets : List ℕ) (ss : List Statement) → length octets ≤ 4194304 → g ≡ grammar_of octets → IsRead g 1 octets (Ok ss) → are_spellable ss ≡ true
whole_spelled g octets ss short by read = read_spellable octets ss short (reads_as g octets short by ∙ read.read) (ap (λ (h : Grammar). are_spelled h.version ss) (sym by) ∙ read.spelled)

parts_of : (rs : List Refused) (said ss : List Statement) → first_refusal_or rs said ≡ Ok ss → (rs ≡ []) × (said ≡ ss)
parts_of [] said ss e = let same : said ≡ ss = cc in (refl, same)
parts_of (r ∷ rs) said ss e = absurd (cc)

-- the lines of what is read ascend
pub numbered : (g : Grammar) (octets : List ℕ) (ss : List Statement) → length octets ≤ 4194304 → lines_say g 1 (lines octets) ≡ Ok ss → are_numbered 0 ss ≡ true
unfolding said_from refused_from
numbered g octets ss short e =
    let parts = parts_of (refused_from (project_says g) 1 (lines octets)) (said_from statement (project_says g) 1 (lines octets)) ss e in
    least.ascends statement (project_says g) (λ s. s.line) (λ n what. refl) octets [] ss 1
    (record { said = append-nil ss ∙ sym parts.1; refused = sym parts.0; counted = omega arith; short = short }) refl
