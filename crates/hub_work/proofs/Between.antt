-- The moments after one place, up to another, where the record grows.
use Rattle.std.proofs.Common.{◌≡◌, ℕ, ◌<◌, ◌≤◌, cond, true, false, List, [], ◌∷◌, refl, ap, ◌∙◌, arith}
use Rattle.std.specs.Prelude.{nat_lt, nat_le, ◌&&◌}
use Rattle.std.proofs.lemmas.Bool.Decides.{nat_tests}
use Rattle.line_model.specs.Moments.{Moment, between}
use Rattle.line_model.specs.Signs.{Every}

abbrev pub UpTo : ℕ → List Moment → Type 0
UpTo at l = Every (λ m. m.at ≤ at) l

pub up_to_later : (at later : ℕ) (l : List Moment) → at ≤ later → UpTo at l → UpTo later l
up_to_later at later [] le e = tt
up_to_later at later (m ∷ l) le e = (let n : m.at ≤ at = e.0 in omega arith, up_to_later at later l le e.1)

is_in : (since upto k : ℕ) → since < k → k ≤ upto → (nat_lt since k && nat_le k upto) ≡ true
is_in since upto k lt le = grind (arith, nat_tests)

same_test : (since at later k : ℕ) → k ≤ at → at ≤ later → (nat_lt since k && nat_le k later) ≡ (nat_lt since k && nat_le k at)
same_test since at later k up le = grind (arith, nat_tests)

isnt_after : (at later k : ℕ) → k ≤ at → (nat_lt at k && nat_le k later) ≡ false
isnt_after at later k up = grind (arith, nat_tests)

-- there are no later ones than at the first place
pub same_up_to : (since at later : ℕ) (l : List Moment) → at ≤ later → UpTo at l → between since later l ≡ between since at l
same_up_to since at later [] le e = refl
same_up_to since at later (m ∷ l) le e =
    let up : m.at ≤ at = e.0 in
    ap (λ b. cond b (m ∷ between since later l) (between since later l)) (same_test since at later m.at up le)
    ∙ ap (λ (x : List Moment). cond (nat_lt since m.at && nat_le m.at at) (m ∷ x) x) (same_up_to since at later l le e.1)

-- one more
pub one_more : (since at later : ℕ) (m : Moment) (l : List Moment) → since ≤ at → at < m.at → m.at ≤ later → UpTo at l → between since later (m ∷ l) ≡ m ∷ between since at l
one_more since at later m l from lt to e =
    ap (λ b. cond b (m ∷ between since later l) (between since later l)) (is_in since later m.at (omega arith) to)
    ∙ ap (λ (x : List Moment). m ∷ x) (same_up_to since at later l (omega arith) e)

-- none after the last
pub none_since : (at later : ℕ) (l : List Moment) → UpTo at l → between at later l ≡ []
none_since at later [] e = refl
none_since at later (m ∷ l) e =
    let up : m.at ≤ at = e.0 in
    ap (λ b. cond b (m ∷ between at later l) (between at later l)) (isnt_after at later m.at up) ∙ none_since at later l e.1
