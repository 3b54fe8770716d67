-- The confirmations on their way to the client are those of the frame put last.
use Rattle.std.proofs.Common.{◌≡◌, ℕ, ◌+◌, List, [], ◌∷◌, ◌++◌, Bool, true, false, not, ◌||◌, Option, refl, sym, ap, ◌∙◌, arith}
use Rattle.knx_model.specs.declared.frames.cemi.Ldata.{Ldata}
use Rattle.knx_model.specs.Cemi.{Written as cemi_octets}
use Rattle.line_model.specs.ChannelLost.{is_confirmation_of}
use Rattle.line_model.specs.Reading.{ldata_in}
use Rattle.line_law.proofs.Alike.{none_of}
use Rattle.calm_law.proofs.State.{is_con_frame, one_if, cons_in, IsItsOwn, AreItsOwn}

pub own_append : (last : Option Ldata) (q more : List Ldata) → AreItsOwn last q → AreItsOwn last more → AreItsOwn last (q ++ more)
own_append last [] more h g = g
own_append last (y ∷ q) more h g = (h.0, own_append last q more h.1 g)

no_con : (b : Bool) (n : ℕ) → one_if b + n ≡ 0 → b ≡ false
no_con true n e = absurd (let z : 1 + n ≡ 0 = e in omega (arith, z))
no_con false n e = refl

later : (b : Bool) (n : ℕ) → one_if b + n ≡ 0 → n ≡ 0
later true n e = absurd (let z : 1 + n ≡ 0 = e in omega (arith, z))
later false n e = let z : 0 + n ≡ 0 = e in omega (arith, z)

-- where there are none
pub own_none : (last : Option Ldata) (q : List Ldata) → cons_in q ≡ 0 → AreItsOwn last q
own_none last [] e = tt
own_none last (y ∷ q) e = (λ is. absurd (let z : true ≡ false = sym is ∙ no_con (is_con_frame y) (cons_in q) e in cc), own_none last q (later (is_con_frame y) (cons_in q) e))

by_con : (b : Bool) (last : Option Ldata) (y : Ldata) → is_con_frame y ≡ b → IsItsOwn last y → is_confirmation_of last (ldata_in (cemi_octets y)) ≡ b
by_con true last y e own = own e
by_con false last y e own = none_of last (ldata_in (cemi_octets y)) e

pub same_con : (last : Option Ldata) (y : Ldata) → IsItsOwn last y → is_confirmation_of last (ldata_in (cemi_octets y)) ≡ is_con_frame y
same_con last y own = by_con (is_con_frame y) last y refl own

pub not_or : (b : Bool) → (not b || b) ≡ true
not_or true = refl
not_or false = refl

pub own_counts : (last : Option Ldata) (y : Ldata) → IsItsOwn last y → (not (is_con_frame y) || is_confirmation_of last (ldata_in (cemi_octets y))) ≡ true
own_counts last y own = ap (λ b. not (is_con_frame y) || b) (same_con last y own) ∙ not_or (is_con_frame y)
