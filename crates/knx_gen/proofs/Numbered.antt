-- Statements in numbered lines are judged by what they say.
use Rattle.std.proofs.Common.{◌≡◌, ℕ, ◌+◌, Bool, true, cond, ◌&&◌, ◌||◌, not, ltb, List, [], ◌∷◌, ◌++◌, length, take, refl, ap, ◌∙◌, arith}
use Rattle.std.specs.List.{list_any, list_all, count_by, filter_map, cons_option}
use Rattle.std.proofs.lemmas.Bool.{and_from, and_parts, not-true, lt-ltb}
use Rattle.std.proofs.lemmas.List.Sums.{sum_by-cons}
use Rattle.knx_model.specs.declared.project.Statement.{Statement}
use Rattle.knx_model.specs.declared.project.What.{What}
use Rattle.knx_model.specs.Rules.{some_line, count_lines, devices_of, device_in}
use Rattle.knx_model.specs.Statements.{statement, is_spellable, are_spelled, are_spellable, is_version, version_of, are_numbered}
use Rattle.knx_model.specs.declared.project.TextVersion.{TextVersion}
use Rattle.knx_model.specs.declared.project.TextVersion.TheVariants.{One, Two}
use Rattle.knx_gen.specs.Generated.{numbered_from}

pub any_is : (test : What → Bool) (n : ℕ) (whats : List What) → some_line test (numbered_from n whats) ≡ list_any test whats
any_is test n [] = refl
any_is test n (what ∷ whats) = ap (λ b. test what || b) (any_is test (n + 1) whats)

pub count_is : (test : What → Bool) (n : ℕ) (whats : List What) → count_lines test (numbered_from n whats) ≡ count_by test whats
count_is test n [] = refl
count_is test n (what ∷ whats) =
    omega (
      arith,
      sum_by-cons (λ (s : Statement). cond (test s.what) 1 0) (statement n what) (numbered_from (n + 1) whats),
      sum_by-cons (λ (w : What). cond (test w) 1 0) what whats,
      count_is test (n + 1) whats,
    )

pub devices_are : (n : ℕ) (whats : List What) → devices_of (numbered_from n whats) ≡ filter_map device_in whats
devices_are n [] = refl
devices_are n (what ∷ whats) = ap (cons_option (device_in what)) (devices_are (n + 1) whats)

pub before_is : (n : ℕ) (before after : List What) → take (length before) (numbered_from n (before ++ after)) ≡ numbered_from n before
before_is n [] after = refl
before_is n (what ∷ before) after = ap (λ (ss : List Statement). statement n what ∷ ss) (before_is (n + 1) before after)

spelled_is : (version : TextVersion) (n : ℕ) (whats : List What) → are_spelled version (numbered_from n whats) ≡ list_all (is_spellable version) whats
spelled_is version n [] = refl
spelled_is version n (what ∷ whats) = ap (λ b. is_spellable version what && b) (spelled_is version (n + 1) whats)

none_tells : (n : ℕ) (whats : List What) → list_all (λ w. not (is_version w)) whats ≡ true → list_all (λ s. not (is_version s.what)) (numbered_from n whats) ≡ true
none_tells n [] none = refl
none_tells n (what ∷ whats) none = let h = and_parts (not (is_version what)) (list_all (λ w. not (is_version w)) whats) none in and_from (not (is_version what)) _ h.0 (none_tells (n + 1) whats h.1)

-- lines that can be spelled in version 1, and of which none tells a version
pub spellable_is : (n : ℕ) (whats : List What) → list_all (is_spellable One) whats ≡ true → list_all (λ w. not (is_version w)) whats ≡ true → are_spellable (numbered_from n whats) ≡ true
spellable_is n [] spelled none = refl
spellable_is n (what ∷ whats) spelled none =
    let h = and_parts (not (is_version what)) (list_all (λ w. not (is_version w)) whats) none in
    let one : version_of (numbered_from n (what ∷ whats)) ≡ One = ap (λ (b : Bool). cond b Two One) (not-true (is_version what) h.0) in
    and_from _ _ (ap (λ (v : TextVersion). are_spelled v (numbered_from n (what ∷ whats))) one ∙ spelled_is One n (what ∷ whats) ∙ spelled) (none_tells (n + 1) whats h.1)

pub numbered_so : (n : ℕ) (whats : List What) → are_numbered n (numbered_from (n + 1) whats) ≡ true
numbered_so n [] = refl
numbered_so n (what ∷ whats) = and_from (ltb n (n + 1)) _ (lt-ltb n (n + 1) (omega arith)) (numbered_so (n + 1) whats)
