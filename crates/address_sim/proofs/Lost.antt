-- The lines that say what is lost, and the places of the units that they name.
use Rattle.std.proofs.Common.{◌≡◌, ℕ, suc, ◌-◌, Bool, true, false, ◌&&◌, ◌||◌, ◌==◌, List, [], ◌∷◌, refl, ap, sym, ◌∙◌, arith}
use Rattle.std.specs.Prelude.{nat_lt}
use Rattle.std.specs.List.{cons_option}
use Rattle.line_model.specs.World.{is_among}
use Rattle.address_world.specs.declared.unit.UnitLoss.{UnitLoss}
use Rattle.address_sim.specs.Losses.{is_loss, loses_read, place_without, without}

same_unit : (unit place : ℕ) → (nat_lt 0 unit && ((unit - 1) == place)) ≡ (unit == suc place)
same_unit unit place = grind arith

-- one line
one_line : (loss : UnitLoss) (n place : ℕ) (places : List ℕ) → is_among (cons_option (place_without n loss) places) place ≡ (is_loss false place n loss || is_among places place)
one_line loss n place places = by_answer loss.answer (nat_lt 0 loss.unit) (loss.n == n) refl refl refl
  where
    by_answer : (a s m : Bool) → loss.answer ≡ a → nat_lt 0 loss.unit ≡ s → (loss.n == n) ≡ m → is_among (cons_option (place_without n loss) places) place ≡ (is_loss false place n loss || is_among places place)
    by_answer true s m e f h = rw e refl
    by_answer false false m e f h = let none : (loss.unit == suc place) ≡ false = sym (same_unit loss.unit place) ∙ ap (λ (b : Bool). b && ((loss.unit - 1) == place)) f in rw (e, f, none) refl
    by_answer false true false e f h = rw (e, f, h) (by_none (loss.unit == suc place))
      where
        by_none : (b : Bool) → is_among places place ≡ ((b && false) || is_among places place)
        by_none true = refl
        by_none false = refl
    by_answer false true true e f h =
        let here : ((loss.unit - 1) == place) ≡ (loss.unit == suc place) = ap (λ (b : Bool). b && ((loss.unit - 1) == place)) (sym f) ∙ same_unit loss.unit place in
        rw (e, f, h, here) (by_here (loss.unit == suc place))
      where
        by_here : (b : Bool) → (b || is_among places place) ≡ ((b && true) || is_among places place)
        by_here true = refl
        by_here false = refl

pub lost_at : (losses : List UnitLoss) (n place : ℕ) → is_among (without losses n) place ≡ loses_read losses place n
lost_at [] n place = refl
lost_at (loss ∷ losses) n place = one_line loss n place (without losses n) ∙ ap (λ (b : Bool). is_loss false place n loss || b) (lost_at losses n place)
