-- What a gateway's channel and the client's counts keep to.
use Rattle.std.proofs.Common.{ap, ◌∙◌, ◌≡◌, ℕ, ◌+◌, ◌<◌, ◌≤◌, Bool, true, false, ◌&&◌, ◌||◌, ◌==◌, refl, arith, List, [], ◌∷◌, Some, None}
use Rattle.std.proofs.lemmas.Bool.{and_parts, eqb-true, eq-eqb}
use Rattle.knx_model.specs.Connection.{has_passed}
use Rattle.knx_model.specs.declared.frames.cemi.Ldata.{Ldata}
use Rattle.knx_model.specs.declared.frames.ip.IpFrame.TheVariants.{ConnectResponse, DisconnectRequest, DisconnectResponse, TunnellingAck}
use Rattle.line_model.specs.ChannelLost.{Own, expected, acknowledges}
use Rattle.line_model.specs.Gateway.{Gateway, Channel, Request, Nothing, Closing, is_put, next_number, connects, answers, next_put, request_expired, channel_expired, client_wait, closed, closed_if_open, names, took}
use Rattle.line_model.specs.Reading.{RequestFrame, AckFrame}
use Rattle.line_model.specs.Record.{Entry}
use Rattle.line_model.specs.Renews.{is_acknowledged, calls_for}
use Rattle.line_model.proofs.Tests.{is_left, is_right}

pub same : (g : Gateway) (c : Channel) (now : ℕ) → connects g c.endpoint now (Some c) ≡ answers (ConnectResponse c.number 0 (Some g.tunnel)) g
same g c now = is_left (c.endpoint == c.endpoint) _ _ (eq-eqb c.endpoint c.endpoint refl)

pub one : (c : Channel) (r : Request) (frames : List Ldata) → c.outstanding ≡ Some r → next_put (Some c) frames ≡ None
one c r [] e = refl
one c r (frame ∷ frames) e = is_left (is_put c.outstanding) _ _ (cc e)

passed : (since now : ℕ) → since + 120000 ≤ now → has_passed client_wait since now ≡ true
passed since now h = grind arith

not_passed : (since now : ℕ) → now < since + 120000 → has_passed client_wait since now ≡ false
not_passed since now h = grind arith

pub waits : (c : Channel) (now : ℕ) → c.outstanding ≡ None → now < c.heard + 120000 → channel_expired (Some c) now ≡ Nothing
waits c now none early = is_right (has_passed client_wait c.heard now) _ _ (not_passed c.heard now early) ∙ ap (λ r. request_expired c r now) none

pub closes : (c : Channel) (now : ℕ) → c.heard + 120000 ≤ now → channel_expired (Some c) now ≡ Closing (DisconnectRequest c.number)
closes c now late = is_left (has_passed client_wait c.heard now) _ _ (passed c.heard now late)

pub drops : (g : Gateway) (c : Channel) → g.channel ≡ Some c → ((closed g).bus ≡ []) × ((closed g).waiting ≡ [])
drops g c e = (ap (λ ch. (closed_if_open g ch).bus) e, ap (λ ch. (closed_if_open g ch).waiting) e)

pub unknown : (g : Gateway) (from now number : ℕ) → names from number g.channel ≡ false → took g from now (DisconnectRequest number) ≡ answers (DisconnectResponse number 0x21) g
unknown g from now number h = is_right (names from number g.channel) _ _ h

either : (a b d : Bool) → a ≡ true → d ≡ true → (a && (b || d)) ≡ true
either true true d p q = refl
either true false d p q = q
either false b d p q = cc

pub again : (c : ℕ) (l : List Entry) (r : RequestFrame) → r.channel ≡ c → next_number r.number ≡ expected c l → calls_for c l (Some r) ≡ Some (TunnellingAck r.channel r.number 0)
again c l r e n = is_left (is_acknowledged c l r) _ _ (either (r.channel == c) (r.number == expected c l) (next_number r.number == expected c l) (eq-eqb _ _ e) (eq-eqb _ _ n))

pub agreed : (c : ℕ) (o : Own) (ack : AckFrame) → acknowledges c o (Some ack) ≡ true → ack.status ≡ 0
agreed c o ack e = eqb-true _ _ (and_parts _ _ (and_parts _ _ e).1).0
