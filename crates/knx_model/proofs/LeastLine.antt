-- A text of lines is read one line after another, and a refusal is of the least line that breaks a rule.
use Rattle.std.proofs.Common.{◌≡◌, ℕ, zero, suc, ◌+◌, ◌-◌, ◌<◌, ◌≤◌, List, [], ◌∷◌, ◌++◌, length, true, Option, Some, None, Result, Ok, Err, refl, sym, ap, ◌∙◌, subst, append_assoc, arith}
use Rattle.std.specs.Prelude.{slice_get, IsOk}
use Rattle.std.specs.List.{cons_option}
use Rattle.std.specs.Option.{option_to_list}
use Rattle.std.specs.Str.Lines.{lines}
use Rattle.std.proofs.lemmas.Bool.{lt-ltb, le-ltb, and_from}
use Rattle.std.proofs.lemmas.List.{append-nil}
use Rattle.std.proofs.lemmas.Option.{same_Some}
use Rattle.knx_model.specs.declared.refusal.Refused.{Refused}
use Rattle.knx_model.specs.declared.refusal.Why.{Why}
use Rattle.knx_model.specs.declared.refusal.Why.TheVariants.{TooMany}
use Rattle.knx_model.specs.LeastLine.{said_in_line, refused_in_line, said_from, refused_from, text_reading, IsLeastRefused, AllLinesSay, lines_ascend}

-- ---- one line after another

said_step : {W S : Type 0} (numbered : ℕ → W → S) (says : ℕ → List ℕ → Result (Option W) Why) (n : ℕ) (text : List ℕ) (ls : List (List ℕ)) (said : Option W)
    → says n text ≡ Ok said → said_from numbered says n (text ∷ ls) ≡ option_to_list (said_in_line numbered n (Ok said)) ++ said_from numbered says (n + 1) ls
unfolding said_from
said_step numbered says n text ls None e = rw e refl
said_step numbered says n text ls (Some what) e = rw e refl

passed_step : {W : Type 0} (says : ℕ → List ℕ → Result (Option W) Why) (n : ℕ) (text : List ℕ) (ls : List (List ℕ)) (said : Option W) → says n text ≡ Ok said → refused_from says n (text ∷ ls) ≡ refused_from says (n + 1) ls
unfolding refused_from
passed_step says n text ls said e = rw e refl

refused_step : {W : Type 0} (says : ℕ → List ℕ → Result (Option W) Why) (n : ℕ) (text : List ℕ) (ls : List (List ℕ)) (why : Why) → says n text ≡ Err why → refused_from says n (text ∷ ls) ≡ record { line = n; why = why } ∷ refused_from says (n + 1) ls
unfolding refused_from
refused_step says n text ls why e = rw e refl

said_none : {W S : Type 0} (numbered : ℕ → W → S) (says : ℕ → List ℕ → Result (Option W) Why) (n : ℕ) → said_from numbered says n [] ≡ []
unfolding said_from
said_none numbered says n = refl

refused_none : {W : Type 0} (says : ℕ → List ℕ → Result (Option W) Why) (n : ℕ) → refused_from says n [] ≡ []
unfolding refused_from
refused_none says n = refl

-- ss is what the lines before say, none of which breaks a rule, and line n comes next
pub record ReadsOn {W S : Type 0} (numbered : ℕ → W → S) (says : ℕ → List ℕ → Result (Option W) Why) (octets : List ℕ) (ss : List S) (n : ℕ) (rest : List ℕ) : Type 0 where
  pub said : ss ++ said_from numbered says n (lines rest) ≡ said_from numbered says 1 (lines octets)
  pub refused : refused_from says n (lines rest) ≡ refused_from says 1 (lines octets)
  pub counted : n + length rest ≤ length octets + 1
  pub short : length octets ≤ 4194304

pub goes_on : {W S : Type 0} (numbered : ℕ → W → S) (says : ℕ → List ℕ → Result (Option W) Why) (octets rest text after : List ℕ) (ss : List S) (n : ℕ) (said : Option W)
    → ReadsOn numbered says octets ss n rest → lines rest ≡ text ∷ lines after → length after < length rest → says n text ≡ Ok said
    → ReadsOn numbered says octets (ss ++ option_to_list (said_in_line numbered n (Ok said))) (n + 1) after
goes_on {S = S} numbered says octets rest text after ss n said on first less e = record {
  said = append_assoc ss (option_to_list (said_in_line numbered n (Ok said))) (said_from numbered says (n + 1) (lines after)) ∙ ap (λ (xs : List S). ss ++ xs) (sym (said_step numbered says n text (lines after) said e)) ∙ rw (← first) on.said;
  refused = sym (passed_step says n text (lines after) said e) ∙ rw (← first) on.refused;
  counted = omega (arith, on.counted);
  short = on.short;
}

pub is_refused : {W S : Type 0} (numbered : ℕ → W → S) (says : ℕ → List ℕ → Result (Option W) Why) (octets rest text after : List ℕ) (ss : List S) (n : ℕ) (why : Why)
    → ReadsOn numbered says octets ss n rest → lines rest ≡ text ∷ lines after → says n text ≡ Err why → text_reading numbered says octets ≡ Err (record { line = n; why = why })
unfolding text_reading
is_refused numbered says octets rest text after ss n why on first e =
    let all : refused_from says 1 (lines octets) ≡ record { line = n; why = why } ∷ refused_from says (n + 1) (lines after) = sym on.refused ∙ rw first (refused_step says n text (lines after) why e) in
    rw (le-ltb 4194304 (length octets) on.short, all) refl

all_said : {W S : Type 0} (numbered : ℕ → W → S) (says : ℕ → List ℕ → Result (Option W) Why) (octets rest : List ℕ) (ss : List S) (n : ℕ)
    → ReadsOn numbered says octets ss n rest → lines rest ≡ [] → said_from numbered says 1 (lines octets) ≡ ss
all_said numbered says octets rest ss n on none = sym on.said ∙ rw (none, said_none numbered says n) (append-nil ss)

pub all_read : {W S : Type 0} (numbered : ℕ → W → S) (says : ℕ → List ℕ → Result (Option W) Why) (octets rest : List ℕ) (ss : List S) (n : ℕ)
    → ReadsOn numbered says octets ss n rest → lines rest ≡ [] → text_reading numbered says octets ≡ Ok ss
unfolding text_reading
all_read numbered says octets rest ss n on none =
    let no : refused_from says 1 (lines octets) ≡ [] = sym on.refused ∙ rw none (refused_none says n) in
    rw (le-ltb 4194304 (length octets) on.short, no, all_said numbered says octets rest ss n on none) refl

pub too_long : {W S : Type 0} (numbered : ℕ → W → S) (says : ℕ → List ℕ → Result (Option W) Why) (octets : List ℕ) → 4194304 < length octets → text_reading numbered says octets ≡ Err (record { line = 0; why = TooMany 4194304 })
unfolding text_reading
too_long numbered says octets lt = rw (lt-ltb 4194304 (length octets) lt) refl

-- ---- lines that ascend

ascends_said : {W S : Type 0} (numbered : ℕ → W → S) (line : S → ℕ) → ((n : ℕ) (what : W) → line (numbered n what) ≡ n) → (k n : ℕ) (r : Result (Option W) Why) (rest : List S) → k < n
    → lines_ascend line k rest ≡ true → lines_ascend line n rest ≡ true → lines_ascend line k (cons_option (said_in_line numbered n r) rest) ≡ true
ascends_said numbered line same k n (Ok None) rest lt here after = here
ascends_said numbered line same k n (Ok (Some what)) rest lt here after = rw (same n what) (and_from _ _ (lt-ltb k n lt) after)
ascends_said numbered line same k n (Err why) rest lt here after = here

ascends_from : {W S : Type 0} (numbered : ℕ → W → S) (says : ℕ → List ℕ → Result (Option W) Why) (line : S → ℕ) → ((n : ℕ) (what : W) → line (numbered n what) ≡ n) → (k n : ℕ) (ls : List (List ℕ)) → k < n
    → lines_ascend line k (said_from numbered says n ls) ≡ true
unfolding said_from
ascends_from numbered says line same k n [] lt = refl
ascends_from numbered says line same k n (l ∷ ls) lt =
    ascends_said numbered line same k n (says n l) (said_from numbered says (n + 1) ls) lt (ascends_from numbered says line same k (n + 1) ls (omega arith)) (ascends_from numbered says line same n (n + 1) ls (omega arith))

-- the lines of what is read ascend
pub ascends : {W S : Type 0} (numbered : ℕ → W → S) (says : ℕ → List ℕ → Result (Option W) Why) (line : S → ℕ) → ((n : ℕ) (what : W) → line (numbered n what) ≡ n) → (octets rest : List ℕ) (ss : List S) (n : ℕ)
    → ReadsOn numbered says octets ss n rest → lines rest ≡ [] → lines_ascend line 0 ss ≡ true
ascends numbered says line same octets rest ss n on none = rw (← all_said numbered says octets rest ss n on none) (ascends_from numbered says line same 0 1 (lines octets) (omega arith))

-- ---- the least line

-- the same of lines that are numbered from n
record Least {W : Type 0} (says : ℕ → List ℕ → Result (Option W) Why) (n : ℕ) (ls : List (List ℕ)) (r : Refused) : Type 0 where
  text : List ℕ
  at : ℕ
  line : r.line ≡ n + at
  there : slice_get ls at ≡ Some text
  breaks : says r.line text ≡ Err r.why
  before : (k : ℕ) (earlier : List ℕ) → k < at → slice_get ls k ≡ Some earlier → IsOk (says (n + k) earlier)

says_at : {W : Type 0} (says : ℕ → List ℕ → Result (Option W) Why) (l earlier : List ℕ) (n m : ℕ) (said : Option W) → says n l ≡ Ok said → l ≡ earlier → n ≡ m → IsOk (says m earlier)
says_at {W = W} says l earlier n m said e same at = subst (λ (x : Result (Option W) Why). IsOk x) (sym (ap (λ (t : List ℕ). says m t) (sym same) ∙ ap (λ (i : ℕ). says i l) (sym at) ∙ e)) refl

here_or_later : {W : Type 0} (says : ℕ → List ℕ → Result (Option W) Why) (n : ℕ) (l : List ℕ) (ls : List (List ℕ)) (r : Refused) (rs : List Refused) (said : Result (Option W) Why) → says n l ≡ said
    → cons_option (refused_in_line n said) (refused_from says (n + 1) ls) ≡ r ∷ rs → ((rs : List Refused) → refused_from says (n + 1) ls ≡ r ∷ rs → Least says (n + 1) ls r) → Least says n (l ∷ ls) r
here_or_later says n l ls r rs (Err why) e q later =
    let is : record { line = n; why = why } ≡ r = cc in
    let at : n ≡ r.line = ap (λ (x : Refused). x.line) is in
    let broken : says n l ≡ Err r.why = e ∙ ap (λ (x : Refused). Err x.why) is in
    record { text = l; at = 0; line = sym at ∙ omega arith; there = refl; breaks = ap (λ (i : ℕ). says i l) (sym at) ∙ broken; before = λ k earlier lt. absurd (omega arith) }
here_or_later says n l ls r rs (Ok said) e q later =
    let h = later rs q in
    record { text = h.text; at = suc h.at; line = omega (arith, h.line); there = h.there; breaks = h.breaks; before = before h }
  where
    before : (h : Least says (n + 1) ls r) → (k : ℕ) (earlier : List ℕ) → k < suc h.at → slice_get (l ∷ ls) k ≡ Some earlier → IsOk (says (n + k) earlier)
    before h zero earlier lt there = says_at says l earlier n (n + 0) said e (same_Some l earlier there) (omega arith)
    before h (suc k) earlier lt there =
        let next : n + 1 + k ≡ n + suc k = omega arith in
        subst (λ (i : ℕ). IsOk (says i earlier)) next (h.before k earlier (omega arith) there)

least_from : {W : Type 0} (says : ℕ → List ℕ → Result (Option W) Why) (n : ℕ) (ls : List (List ℕ)) (r : Refused) (rs : List Refused) → refused_from says n ls ≡ r ∷ rs → Least says n ls r
unfolding refused_from
least_from says n [] r rs q = absurd cc
least_from says n (l ∷ ls) r rs q = here_or_later says n l ls r rs (says n l) refl q (least_from says (n + 1) ls r)

pub least : {W : Type 0} (says : ℕ → List ℕ → Result (Option W) Why) (octets : List ℕ) (r : Refused) (rs : List Refused) → refused_from says 1 (lines octets) ≡ r ∷ rs → IsLeastRefused says octets r
least says octets r rs q =
    let h = least_from says 1 (lines octets) r rs q in
    record {
      text = h.text;
      from_1 = omega (arith, h.line);
      there = let at : r.line - 1 ≡ h.at = omega (arith, h.line) in rw at h.there;
      breaks = h.breaks;
      before = λ k earlier lt there. let next : 1 + k ≡ k + 1 = omega arith in subst (λ (i : ℕ). IsOk (says i earlier)) next (h.before k earlier (omega (arith, h.line)) there);
    }

none_step : {W : Type 0} (says : ℕ → List ℕ → Result (Option W) Why) (n : ℕ) (l : List ℕ) (ls : List (List ℕ)) (k : ℕ) (text : List ℕ) (said : Result (Option W) Why) → says n l ≡ said
    → cons_option (refused_in_line n said) (refused_from says (n + 1) ls) ≡ [] → (refused_from says (n + 1) ls ≡ [] → (k : ℕ) (text : List ℕ) → slice_get ls k ≡ Some text → IsOk (says (n + 1 + k) text))
    → slice_get (l ∷ ls) k ≡ Some text → IsOk (says (n + k) text)
none_step says n l ls k text (Err why) e q later there = absurd cc
none_step says n l ls zero text (Ok said) e q later there = says_at says l text n (n + 0) said e (same_Some l text there) (omega arith)
none_step says n l ls (suc k) text (Ok said) e q later there =
    let next : n + 1 + k ≡ n + suc k = omega arith in
    subst (λ (i : ℕ). IsOk (says i text)) next (later q k text there)

none_from : {W : Type 0} (says : ℕ → List ℕ → Result (Option W) Why) (n : ℕ) (ls : List (List ℕ)) → refused_from says n ls ≡ [] → (k : ℕ) (text : List ℕ) → slice_get ls k ≡ Some text → IsOk (says (n + k) text)
unfolding refused_from
none_from says n [] q k text there = absurd cc
none_from says n (l ∷ ls) q k text there = none_step says n l ls k text (says n l) refl q (none_from says (n + 1) ls) there

pub none : {W : Type 0} (says : ℕ → List ℕ → Result (Option W) Why) (octets : List ℕ) → refused_from says 1 (lines octets) ≡ [] → AllLinesSay says octets
none says octets q k text there = let next : 1 + k ≡ k + 1 = omega arith in subst (λ (i : ℕ). IsOk (says i text)) next (none_from says 1 (lines octets) q k text there)
