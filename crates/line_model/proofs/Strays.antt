-- An indication to another device than the tunnel: a confirmation is none, and a group telegram is none.
use Rattle.std.proofs.Common.{◌≡◌, ◌&&◌, Bool, true, false, not, Option, Some, None, refl, ap, ◌∙◌}
use Rattle.std.proofs.lemmas.Bool.{eq-eqb}
use Rattle.knx_model.specs.declared.address.IndAddr.{IndAddr}
use Rattle.knx_model.specs.declared.frames.cemi.Ldata.{Ldata}
use Rattle.knx_model.specs.declared.frames.cemi.LdataCode.{LdataCode}
use Rattle.knx_model.specs.declared.frames.cemi.LdataCode.TheVariants.{Req, Con, Ind}
use Rattle.line_model.specs.ChannelLost.{is_confirmation}
use Rattle.line_model.specs.ClientView.{is_to, is_stray}
use Rattle.line_model.specs.Reading.{is_con, is_ind}

by_code : (code : LdataCode) (group to : Bool) → is_con code ≡ true → (is_ind code && not group && not to) ≡ false
by_code Req group to h = refl
by_code Con group to h = refl
by_code Ind group to h = absurd (let z : false ≡ true = h in cc)

pub con_stray : (own : Option IndAddr) (o : Option Ldata) → is_confirmation o ≡ true → is_stray own o ≡ false
con_stray own None h = refl
con_stray own (Some frame) h = by_code frame.code frame.group (is_to own frame) h

by_group : (ind to : Bool) → (ind && false && to) ≡ false
by_group true to = refl
by_group false to = refl

pub group_stray : (own : Option IndAddr) (frame : Ldata) → frame.group ≡ true → is_stray own (Some frame) ≡ false
group_stray own frame h = ap (λ b. is_ind frame.code && not b && not (is_to own frame)) h ∙ by_group (is_ind frame.code) (not (is_to own frame))

by_address : (ind group : Bool) → (ind && group && false) ≡ false
by_address true true = refl
by_address true false = refl
by_address false group = refl

pub own_stray : (own : IndAddr) (frame : Ldata) → frame.destination ≡ own.raw → is_stray (Some own) (Some frame) ≡ false
own_stray own frame h = ap (λ b. is_ind frame.code && not frame.group && not b) (eq-eqb frame.destination own.raw h) ∙ by_address (is_ind frame.code) (not frame.group)
