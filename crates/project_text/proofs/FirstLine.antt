-- The first line with words tells how a text is read.
use Rattle.std.proofs.Common.{◌≡◌, ℕ, zero, suc, ◌+◌, ◌<◌, ◌≤◌, Bool, true, false, cond, eqb, ltb, ◌&&◌, not, bytes_eq, codes, List, [], ◌∷◌, length, drop, Option, Some, None, Result, Ok, Err, refl, sym, ap, ◌∙◌, subst, arith}
use Rattle.std.specs.Prelude.{slice_get}
use Rattle.std.specs.List.{list_all, cons_option}
use Rattle.std.specs.Str.Lines.{lines}
use Rattle.std.proofs.lemmas.Bool.{and_from, and_parts, le-ltb, lt-ltb, ne_eqb, eq-eqb, eqb-true}
use Rattle.std.proofs.lemmas.Option.{same_Some}
use Rattle.std.proofs.lemmas.Slice.Eq.{bytes_eq-Decides}
use Rattle.knx_model.specs.declared.project.Grammar.{Grammar}
use Rattle.knx_model.specs.declared.project.Statement.{Statement}
use Rattle.knx_model.specs.declared.project.TextVersion.{TextVersion}
use Rattle.knx_model.specs.declared.project.TextVersion.TheVariants.{One, Two}
use Rattle.knx_model.specs.declared.project.What.{What}
use Rattle.knx_model.specs.declared.refusal.Refused.{Refused}
use Rattle.knx_model.specs.declared.refusal.Why.{Why}
use Rattle.knx_model.specs.declared.refusal.Why.TheVariants.{NotText, LongLine}
use Rattle.knx_model.specs.Answers.{◌>>=◌}
use Rattle.knx_model.specs.Numbers.{number_value}
use Rattle.knx_model.specs.Words.{words, without_comment, is_text}
use Rattle.knx_model.specs.LeastLine.{line_text, said_in_line, refused_in_line, said_from, refused_from, first_refusal_or, text_reading}
use Rattle.knx_model.specs.Statements.{is_2, version_told, grammar_from, grammar_of, some_what, title_says, ga_says, device_says, object_says, link_says, flags_says, param_says, send_says, version_says, words_say, line_says, project_says, statement, reading, is_version, version_of, are_spelled, are_spellable}
use Rattle.project_text.specs.Spelling.{SpellsStatement, VersionLine, TitleLine, GroupLine, DeviceLine, ObjectLine, LinkLine, SendLine, FlagsLine, ParamLine, TellsVersion2}
use Rattle.project_text.proofs.Spelling.{read_is_spelled}

-- ---- the first line with words is looked for

-- this line and those after it decide
pub record GrammarOn (octets : List ℕ) (first : ℕ) (rest : List ℕ) : Type 0 where
  pub same : grammar_from first (lines rest) ≡ grammar_of octets
  pub counted : first + length rest ≤ length octets + 1

line_without_words : (n : ℕ) (line : List ℕ) (later : List (List ℕ)) → words (without_comment line) ≡ [] → grammar_from n (line ∷ later) ≡ grammar_from (n + 1) later
unfolding grammar_from
line_without_words n line later none = rw none refl

pub line_with_words : (n : ℕ) (line w : List ℕ) (ws later : List (List ℕ)) → words (without_comment line) ≡ w ∷ ws → grammar_from n (line ∷ later) ≡ record { version = version_told (w ∷ ws); first = n }
unfolding grammar_from
line_with_words n line w ws later some = rw (some, lt-ltb 0 (length (w ∷ ws)) (omega arith)) refl

pub looks_on : (octets rest text after : List ℕ) (first : ℕ) → GrammarOn octets first rest → lines rest ≡ text ∷ lines after → length after < length rest → words (without_comment text) ≡ [] → GrammarOn octets (first + 1) after
looks_on octets rest text after first on cut less none = record {
  same = sym (line_without_words first text (lines after) none) ∙ ap (grammar_from first) (sym cut) ∙ on.same;
  counted = omega (arith, on.counted, less);
}

pub found : (octets rest text after w : List ℕ) (ws : List (List ℕ)) (first : ℕ) (version : TextVersion) → GrammarOn octets first rest → lines rest ≡ text ∷ lines after → words (without_comment text) ≡ w ∷ ws
    → version ≡ version_told (w ∷ ws) → record { version = version; first = first } ≡ grammar_of octets
found octets rest text after w ws first version on cut some told =
    ap (λ (v : TextVersion). let g : Grammar = record { version = v; first = first } in g) told ∙ sym (line_with_words first text w ws (lines after) some) ∙ ap (grammar_from first) (sym cut) ∙ on.same

no_lines : (n : ℕ) → grammar_from n [] ≡ record { version = One; first = n }
unfolding grammar_from
no_lines n = refl

pub not_found : (octets rest : List ℕ) (first : ℕ) → GrammarOn octets first rest → lines rest ≡ [] → record { version = One; first = first } ≡ grammar_of octets
not_found octets rest first on none = sym (no_lines first) ∙ ap (grammar_from first) (sym none) ∙ on.same

-- ---- only the first line with words tells a version

-- no statement tells a version
abbrev pub none_tells : List Statement → Bool
none_tells ss = list_all (λ s. not (is_version s.what)) ss

spelled_other : (version : TextVersion) (ws : List (List ℕ)) (what : What) → SpellsStatement version false ws what → is_version what ≡ false
spelled_other version _ _ (VersionLine number first e) = absurd cc
spelled_other version _ _ (TitleLine name e) = refl
spelled_other version _ _ (GroupLine address name g a e) = refl
spelled_other version _ _ (DeviceLine address model d a e) = refl
spelled_other version _ _ (ObjectLine address number size flags d n code octet a e s f) = refl
spelled_other version _ _ (LinkLine address number words d n groups a e f some few) = refl
spelled_other version _ _ (SendLine address number group d n g v a e f) = refl
spelled_other version _ _ (FlagsLine address number flags d n octet a e f) = refl
spelled_other version _ _ (ParamLine address name value d n a e f) = refl

words_of_line : (version : TextVersion) (is_first : Bool) (line : List ℕ) (r : Result (List ℕ) Why) (said : Option What) → line_text line ≡ r → (r >>= λ text. words_say version is_first (words text)) ≡ Ok said
    → words_say version is_first (words (without_comment line)) ≡ Ok said
words_of_line version is_first line (Err why) said is e = absurd cc
words_of_line version is_first line (Ok text) said is e = by (is_text line) (ltb 512 (length line)) is
  where
    by : (a b : Bool) → cond (not a) (Err NotText) (cond b (Err LongLine) (Ok (without_comment line))) ≡ Ok text → words_say version is_first (words (without_comment line)) ≡ Ok said
    by false b e = absurd cc
    by true true e = absurd cc
    by true false q = let same : without_comment line ≡ text = cc in ap (λ (t : List ℕ). words_say version is_first (words t)) same ∙ e

-- what a line says is what its words say
says_words : (version : TextVersion) (is_first : Bool) (line : List ℕ) (said : Option What) → line_says version is_first line ≡ Ok said → words_say version is_first (words (without_comment line)) ≡ Ok said
unfolding line_says
says_words version is_first line said e = words_of_line version is_first line (line_text line) said refl e

-- behind the first line with words, no line tells a version
later_none : (g : Grammar) (n : ℕ) (ls : List (List ℕ)) → g.first < n → none_tells (said_from statement (project_says g) n ls) ≡ true
unfolding said_from
later_none g n [] lt = refl
later_none g n (line ∷ ls) lt = one (project_says g n line) refl (later_none g (n + 1) ls (omega (arith, lt)))
  where
    one : (r : Result (Option What) Why) → project_says g n line ≡ r → none_tells (said_from statement (project_says g) (n + 1) ls) ≡ true → none_tells (cons_option (said_in_line statement n r) (said_from statement (project_says g) (n + 1) ls)) ≡ true
    one (Err why) e rest = rest
    one (Ok None) e rest = rest
    one (Ok (Some what)) e rest =
        let other : eqb n g.first ≡ false = ne_eqb n g.first (λ q. omega (arith, lt)) in
        let said : line_says g.version false line ≡ Ok (Some what) = ap (λ (b : Bool). line_says g.version b line) (sym other) ∙ e in
        let is = spelled_other g.version (words (without_comment line)) what (read_is_spelled g.version false (words (without_comment line)) what (says_words g.version false line (Some what) said)) in
        and_from (not (is_version what)) _ (ap not is) rest

abbrev one_or_two : Bool → TextVersion
one_or_two b = cond b Two One

-- the words of the first line tell the version that its statement tells
told_by : (version : TextVersion) (ws : List (List ℕ)) (what : What) → SpellsStatement version true ws what → one_or_two (is_version what) ≡ version_told ws
told_by version _ _ (VersionLine number first e) = rw e refl
told_by version _ _ (TitleLine name e) = refl
told_by version _ _ (GroupLine address name g a e) = refl
told_by version _ _ (DeviceLine address model d a e) = refl
told_by version _ _ (ObjectLine address number size flags d n code octet a e s f) = refl
told_by version _ _ (LinkLine address number words d n groups a e f some few) = refl
told_by version _ _ (SendLine address number group d n g v a e f) = refl
told_by version _ _ (FlagsLine address number flags d n octet a e f) = refl
told_by version _ _ (ParamLine address name value d n a e f) = refl

-- what the lines say from n on tells the version of the grammar, in its first statement alone
record Tells (g : Grammar) (ss : List Statement) : Type 0 where
  version : version_of ss ≡ g.version
  alone : none_tells (drop 1 ss) ≡ true

no_none : (b : Bool) (r : Result What Why) (y : Result (Option What) Why) → cond b (some_what r) y ≡ Ok None → (y ≡ Ok None → ⊥) → ⊥
no_none true (Ok what) y e later = absurd cc
no_none true (Err why) y e later = absurd cc
no_none false r y e later = later e

-- words say something
some_said : (version : TextVersion) (is_first : Bool) (w : List ℕ) (ws : List (List ℕ)) → words_say version is_first (w ∷ ws) ≡ Ok None → ⊥
unfolding words_say
some_said version is_first w ws e =
    no_none (bytes_eq w (codes "project")) (title_says ws) _ e (λ e.
    no_none (bytes_eq w (codes "ga")) (ga_says version ws) _ e (λ e.
    no_none (bytes_eq w (codes "device")) (device_says ws) _ e (λ e.
    no_none (bytes_eq w (codes "object")) (object_says ws) _ e (λ e.
    no_none (bytes_eq w (codes "link")) (link_says version ws) _ e (λ e.
    no_none (bytes_eq w (codes "flags")) (flags_says ws) _ e (λ e.
    no_none (bytes_eq w (codes "param")) (param_says ws) _ e (λ e.
    no_none (bytes_eq w (codes "send")) (send_says version ws) _ e (λ e.
    no_none (bytes_eq w (codes "version")) (version_says is_first ws) _ e (λ e. absurd cc)))))))))

no_words_said : (version : TextVersion) (is_first : Bool) (said : Option What) → words_say version is_first [] ≡ Ok said → said ≡ None
unfolding words_say
no_words_said version is_first None e = refl
no_words_said version is_first (Some what) e = absurd cc

tells_from : (g : Grammar) (n : ℕ) (ls : List (List ℕ)) → grammar_from n ls ≡ g → refused_from (project_says g) n ls ≡ [] → Tells g (said_from statement (project_says g) n ls)
unfolding said_from refused_from
tells_from g n [] e none = record { version = ap (λ (x : Grammar). x.version) (sym (no_lines n) ∙ e); alone = refl }
tells_from g n (line ∷ ls) e none = by (tells_from g (n + 1) ls) (words (without_comment line)) refl
  where
    quiet : (grammar_from (n + 1) ls ≡ g → refused_from (project_says g) (n + 1) ls ≡ [] → Tells g (said_from statement (project_says g) (n + 1) ls)) → words (without_comment line) ≡ [] → (r : Result (Option What) Why) → project_says g n line ≡ r → cons_option (refused_in_line n r) (refused_from (project_says g) (n + 1) ls) ≡ []
        → Tells g (cons_option (said_in_line statement n r) (said_from statement (project_says g) (n + 1) ls))
    quiet later is (Err why) said none = absurd cc
    quiet later is (Ok None) said none = later (sym (line_without_words n line ls is) ∙ e) none
    quiet later is (Ok (Some what)) said none = absurd (let no = no_words_said g.version (eqb n g.first) (Some what) (ap (words_say g.version (eqb n g.first)) (sym is) ∙ says_words g.version (eqb n g.first) line (Some what) said) in cc)

    first : (w : List ℕ) (ws : List (List ℕ)) → words (without_comment line) ≡ w ∷ ws → (r : Result (Option What) Why) → project_says g n line ≡ r → cons_option (refused_in_line n r) (refused_from (project_says g) (n + 1) ls) ≡ []
        → Tells g (cons_option (said_in_line statement n r) (said_from statement (project_says g) (n + 1) ls))
    first w ws is (Err why) said none = absurd cc
    first w ws is (Ok None) said none = absurd (some_said g.version (eqb n g.first) w ws (ap (words_say g.version (eqb n g.first)) (sym is) ∙ says_words g.version (eqb n g.first) line None said))
    first w ws is (Ok (Some what)) said none =
        let grammar : record { version = version_told (w ∷ ws); first = n } ≡ g = sym (line_with_words n line w ws ls is) ∙ e in
        let at : n ≡ g.first = ap (λ (x : Grammar). x.first) grammar in
        let here : line_says g.version true line ≡ Ok (Some what) = ap (λ (b : Bool). line_says g.version b line) (sym (eq-eqb n g.first at)) ∙ said in
        let spelled = read_is_spelled g.version true (w ∷ ws) what (ap (words_say g.version true) (sym is) ∙ says_words g.version true line (Some what) here) in
        record {
          version = told_by g.version (w ∷ ws) what spelled ∙ ap (λ (x : Grammar). x.version) grammar;
          alone = later_none g (n + 1) ls (omega (arith, at));
        }

    by : (grammar_from (n + 1) ls ≡ g → refused_from (project_says g) (n + 1) ls ≡ [] → Tells g (said_from statement (project_says g) (n + 1) ls)) → (ws : List (List ℕ)) → words (without_comment line) ≡ ws → Tells g (cons_option (said_in_line statement n (project_says g n line)) (said_from statement (project_says g) (n + 1) ls))
    by later [] is = quiet later is (project_says g n line) refl none
    by later (w ∷ ws) is = first w ws is (project_says g n line) refl none

parts : {S : Type 0} (refused : List Refused) (said ss : List S) → first_refusal_or refused said ≡ Ok ss → (refused ≡ []) × (said ≡ ss)
parts [] said ss e = (refl, cc)
parts (r ∷ rs) said ss e = absurd cc

read_parts : (octets : List ℕ) (ss : List Statement) → length octets ≤ 4194304 → reading octets ≡ Ok ss
    → (refused_from (project_says (grammar_of octets)) 1 (lines octets) ≡ []) × (said_from statement (project_says (grammar_of octets)) 1 (lines octets) ≡ ss)
unfolding text_reading
read_parts octets ss short e = parts _ _ ss (rw (le-ltb 4194304 (length octets) short) at e)

-- what is read can be spelled in the version that its first statement tells
pub read_spellable : (octets : List ℕ) (ss : List Statement) → length octets ≤ 4194304 → reading octets ≡ Ok ss → are_spelled (grammar_of octets).version ss ≡ true → are_spellable ss ≡ true
read_spellable octets ss short e spelled =
    let h = read_parts octets ss short e in
    let told : Tells (grammar_of octets) ss = subst (Tells (grammar_of octets)) h.1 (tells_from (grammar_of octets) 1 (lines octets) refl h.0) in
    and_from _ _ (rw told.version spelled) told.alone

-- ---- a text of version 2

-- a line of lines that are numbered from n tells version 2, and no earlier one has words
record TellsFrom (ls : List (List ℕ)) : Type 0 where
  at : ℕ
  line : List ℕ
  number : List ℕ
  there : slice_get ls at ≡ Some line
  told : words (without_comment line) ≡ codes "version" ∷ number ∷ []
  two : number_value number ≡ Some 2
  first : (k : ℕ) (earlier : List ℕ) → k < at → slice_get ls k ≡ Some earlier → words (without_comment earlier) ≡ []

is_number_2 : (o : Option ℕ) → is_2 o ≡ true → o ≡ Some 2
is_number_2 None e = absurd cc
is_number_2 (Some n) e = ap Some (eqb-true n 2 e)

told_two : (ws : List (List ℕ)) → version_told ws ≡ Two → (number : List ℕ) × (ws ≡ codes "version" ∷ number ∷ []) × (number_value number ≡ Some 2)
told_two [] e = absurd cc
told_two (a ∷ []) e = absurd cc
told_two (a ∷ number ∷ []) e = by (bytes_eq a (codes "version") && is_2 (number_value number)) refl e
  where
    by : (b : Bool) → (bytes_eq a (codes "version") && is_2 (number_value number)) ≡ b → one_or_two b ≡ Two → (m : List ℕ) × (a ∷ number ∷ [] ≡ codes "version" ∷ m ∷ []) × (number_value m ≡ Some 2)
    by true is e = let h = and_parts _ _ is in (number, ap (λ (w : List ℕ). w ∷ number ∷ []) ((bytes_eq-Decides a (codes "version")).0 h.0), is_number_2 (number_value number) h.1)
    by false is e = absurd cc
told_two (a ∷ b ∷ c ∷ ws) e = absurd cc

tells_later : (line : List ℕ) (ls : List (List ℕ)) → words (without_comment line) ≡ [] → TellsFrom ls → TellsFrom (line ∷ ls)
tells_later line ls is h = record { at = suc h.at; line = h.line; number = h.number; there = h.there; told = h.told; two = h.two; first = before }
  where
    before : (k : ℕ) (earlier : List ℕ) → k < suc h.at → slice_get (line ∷ ls) k ≡ Some earlier → words (without_comment earlier) ≡ []
    before zero earlier lt there = ap (λ (l : List ℕ). words (without_comment l)) (sym (same_Some line earlier there)) ∙ is
    before (suc k) earlier lt there = h.first k earlier (omega (arith, lt)) there

tells_to : (n : ℕ) (ls : List (List ℕ)) → (grammar_from n ls).version ≡ Two → TellsFrom ls
tells_to n [] e = absurd (let one : One ≡ Two = ap (λ (g : Grammar). g.version) (sym (no_lines n)) ∙ e in cc)
tells_to n (line ∷ ls) e = by (tells_to (n + 1) ls) (words (without_comment line)) refl
  where
    by : ((grammar_from (n + 1) ls).version ≡ Two → TellsFrom ls) → (ws : List (List ℕ)) → words (without_comment line) ≡ ws → TellsFrom (line ∷ ls)
    by later [] is =
        let h = later (ap (λ (g : Grammar). g.version) (sym (line_without_words n line ls is)) ∙ e) in
        tells_later line ls is h
    by later (w ∷ ws) is =
        let h = told_two (w ∷ ws) (ap (λ (g : Grammar). g.version) (sym (line_with_words n line w ws ls is)) ∙ e) in
        record { at = 0; line = line; number = h.0; there = refl; told = is ∙ h.1; two = h.2; first = λ k earlier lt. absurd (omega arith) }

pub version_2_to : (octets : List ℕ) → (grammar_of octets).version ≡ Two → TellsVersion2 octets
version_2_to octets e =
    let h = tells_to 1 (lines octets) e in
    record { at = h.at; line = h.line; number = h.number; there = h.there; told = h.told; two = h.two; first = h.first }

tells_at : (n : ℕ) (ls : List (List ℕ)) (at : ℕ) (line number : List ℕ) → slice_get ls at ≡ Some line → words (without_comment line) ≡ codes "version" ∷ number ∷ [] → number_value number ≡ Some 2
    → ((k : ℕ) (earlier : List ℕ) → k < at → slice_get ls k ≡ Some earlier → words (without_comment earlier) ≡ []) → (grammar_from n ls).version ≡ Two
tells_at n [] at line number there told two first = absurd cc
tells_at n (l ∷ ls) zero line number there told two first =
    let same : words (without_comment l) ≡ codes "version" ∷ number ∷ [] = ap (λ (x : List ℕ). words (without_comment x)) (same_Some l line there) ∙ told in
    ap (λ (g : Grammar). g.version) (line_with_words n l (codes "version") (number ∷ []) ls same) ∙ rw two refl
tells_at n (l ∷ ls) (suc at) line number there told two first =
    ap (λ (g : Grammar). g.version) (line_without_words n l ls (first 0 l (omega arith) refl)) ∙ tells_at (n + 1) ls at line number there told two (λ k earlier lt is. first (suc k) earlier (omega (arith, lt)) is)

pub version_2_from : (octets : List ℕ) → TellsVersion2 octets → (grammar_of octets).version ≡ Two
version_2_from octets h = tells_at 1 (lines octets) h.at h.line h.number h.there h.told h.two h.first
