-- Moments between two places.
use Rattle.std.proofs.Common.{◌≡◌, ℕ, ◌<◌, List, ◌∷◌, Bool, true, false, ◌&&◌, cond, refl, arith}
use Rattle.std.specs.Prelude.{nat_lt, nat_le}
use Rattle.line_model.specs.Moments.{Moment, between}

pub not_yet : (since upto : ℕ) (m : Moment) (l : List Moment) → upto < m.at → between since upto (m ∷ l) ≡ between since upto l
not_yet since upto m l h = by_test (nat_lt since m.at) (nat_le m.at upto) (grind (arith, h)) where
  by_test : (b c : Bool) → c ≡ false → ◌≡◌ {A = List Moment} (cond (b && c) (m ∷ between since upto l) (between since upto l)) (between since upto l)
  by_test true true e = absurd (cc)
  by_test true false e = refl
  by_test false c e = refl
