-- A confirmation with the destination and the TPDU of a frame is that frame's own.
use Rattle.std.proofs.Common.{◌≡◌, ℕ, Bool, true, false, ◌&&◌, Option, Some, None, refl, sym, ◌∙◌, ap}
use Rattle.std.proofs.lemmas.Bool.{eq-eqb}
use Rattle.std.proofs.lemmas.Cmp.{nat_list_eq_equiv}
use Rattle.std.specs.Bool.{beq}
use Rattle.std.specs.Cmp.{bool_eq_equiv}
use Rattle.std.specs.Prelude.{◌==◌, bytes_eq}
use Rattle.knx_model.specs.declared.frames.cemi.Ldata.{Ldata}
use Rattle.line_model.specs.ChannelLost.{is_alike, is_confirmation, is_confirmation_of}
use Rattle.line_model.specs.Reading.{is_con}

all_three : (a b c : Bool) → a ≡ true → b ≡ true → c ≡ true → ((a && b) && c) ≡ true
all_three a b c p q s = rw (p, q, s) refl

pub alike : (frame con : Ldata) → con.group ≡ frame.group → con.destination ≡ frame.destination → con.tpdu ≡ frame.tpdu → is_alike frame con ≡ true
alike frame con group destination tpdu =
    all_three (beq con.group frame.group) (con.destination == frame.destination) (bytes_eq con.tpdu frame.tpdu) (ap (λ z. beq con.group z) (sym group) ∙ bool_eq_equiv.refl con.group)
    (eq-eqb con.destination frame.destination destination) (ap (λ z. bytes_eq con.tpdu z) (sym tpdu) ∙ nat_list_eq_equiv.refl con.tpdu)

pub its_own : (last : Option Ldata) (frame con : Ldata) → last ≡ Some frame → is_con con.code ≡ true → con.group ≡ frame.group → con.destination ≡ frame.destination → con.tpdu ≡ frame.tpdu → is_confirmation_of last (Some con) ≡ true
its_own last frame con is code group destination tpdu = ap (λ z. is_confirmation_of z (Some con)) is ∙ ap (λ b. b && is_alike frame con) code ∙ alike frame con group destination tpdu

-- what is no confirmation is none of a frame
pub none_of : (last o : Option Ldata) → is_confirmation o ≡ false → is_confirmation_of last o ≡ false
none_of None o h = refl
none_of (Some f) None h = refl
none_of (Some f) (Some con) h = ap (λ b. b && is_alike f con) h
