-- A calm tunnel: no datagram is lost, late or refused, each is delivered once, in order, and the gateway repeats and closes only when its wait has
-- passed; what comes of the bus is the confirmation of the frame that went over it, and indications that fit a tunnelling request; and time passes
-- only where nothing is under way. And what is asked of the client beside its discipline: each of its requests is an L_Data.req that is put where
-- the one before is acknowledged and confirmed.
use Rattle.std.specs.Prelude.{◌≡◌, ℕ, suc, ◌≤◌, Bool, true, List, [], ◌∷◌, length, Some}
use Rattle.std.specs.List.{AllByRecursion}
use Rattle.knx_model.specs.declared.address.IndAddr.{IndAddr}
use Rattle.knx_model.specs.declared.frames.cemi.Ldata.{Ldata}
use Rattle.knx_model.specs.declared.frames.cemi.LdataCode.TheVariants.{Con, Ind}
use Rattle.knx_model.specs.Apdu.{most_octets}
use Rattle.line_model.specs.Reading.{ldata_in, is_req}
use Rattle.line_model.specs.Tunnel.{Tunnel, TunnelEvent, Send, From, Renew, Up, UpRefused, Down, LoseUp, LoseDown, Carried, Heard, Repeat, Close, Pass, Elsewhere, Commissions, replay}
use Rattle.line_model.specs.World.{on_bus}
use Rattle.line_model.specs.Deliveries.{next_up, next_down}
use Rattle.line_model.specs.Fresh.{TunnelSettled}
use Rattle.line_model.specs.Follows.{IsGatewayRepeat, IsGatewayClosing, gateway_due}
use Rattle.line_model.specs.Record.{Entry, tunnel_record}
use Rattle.line_model.specs.ClientView.{ClientChannel, Fresh, Sought, RefusedBy, Unanswered, Open, Lost, Deed, Puts, channel, deed}
use Rattle.line_model.specs.Asks.{HasPlace}
use Rattle.line_model.specs.Leaves.{StaysOpen}
use Rattle.line_model.specs.Undisturbed.{AwaitsNothing}

-- ---- the bus

-- the confirmation of the oldest frame that waits, with error or without
abbrev pub Confirms : IndAddr → List Ldata → Ldata → Type 0
Confirms me [] confirmation = ⊥
Confirms me (frame ∷ frames) confirmation = (error : Bool) × (confirmation ≡ record (on_bus me frame) { code = Con; error = error })

-- an indication with a TPDU that is sent
pub record IsIndication (frame : Ldata) : Type 0 where
  pub code : frame.code ≡ Ind
  pub fits : length frame.tpdu ≤ most_octets

-- ---- which events are calm

abbrev pub IsCalm : Tunnel → TunnelEvent → Type 0
IsCalm t (Send octets) = Unit {0}
IsCalm t (From endpoint octets) = ⊥
IsCalm t Renew = Unit {0}
IsCalm t (Up age) = next_up t ≡ Some age
IsCalm t (UpRefused age status) = ⊥
IsCalm t (Down age) = next_down Commissions t ≡ Some age
IsCalm t (LoseUp age) = ⊥
IsCalm t (LoseDown age) = ⊥
IsCalm t (Carried confirmation) = Confirms t.gateway.tunnel t.gateway.bus confirmation
IsCalm t (Heard frames) = AllByRecursion IsIndication frames
IsCalm t Repeat = IsGatewayRepeat (gateway_due t)
IsCalm t Close = IsGatewayClosing (gateway_due t)
IsCalm t (Pass ms) = TunnelSettled Commissions t
IsCalm t Elsewhere = Unit {0}

abbrev pub AreCalm : Tunnel → List TunnelEvent → Type 0
AreCalm start [] = Unit {0}
AreCalm start (e ∷ events) = IsCalm (replay start events) e × AreCalm start events

-- ---- what the client puts

-- an L_Data.req, where the place in flight is free
pub record PutsFree (ch : ClientChannel) (octets : List ℕ) : Type 0 where
  pub frame : Ldata
  pub reads : ldata_in octets ≡ Some frame
  pub request : is_req frame.code ≡ true
  pub place : HasPlace ch

abbrev pub PutsSo : ClientChannel → Deed → Type 0
PutsSo ch (Puts octets) = PutsFree ch octets
PutsSo ch _ = Unit {0}

abbrev pub PutsRightly : List Entry → Type 0
PutsRightly [] = Unit {0}
PutsRightly (x ∷ r) = PutsSo (channel r) (deed (channel r) x) × PutsRightly r

-- ---- time passes only where nothing is awaited

abbrev pub PassesSo : ClientChannel → TunnelEvent → Type 0
PassesSo ch (Pass (suc ms)) = AwaitsNothing ch
PassesSo ch _ = Unit {0}

abbrev pub PassesIdly : Tunnel → List TunnelEvent → Type 0
PassesIdly start [] = Unit {0}
PassesIdly start (e ∷ past) = PassesSo (channel (tunnel_record start past)) e × PassesIdly start past

-- ---- no wait ends a channel or the search for one: it is lost only where the client asked for its end

abbrev pub IsKept : ClientChannel → Type 0
IsKept Fresh = Unit {0}
IsKept (Sought since) = Unit {0}
IsKept (RefusedBy status) = ⊥
IsKept Unanswered = ⊥
IsKept (Open c l) = Unit {0}
IsKept (Lost c) = ⊥

abbrev pub KeepsItsChannel : List Entry → Type 0
KeepsItsChannel r = StaysOpen r → IsKept (channel r)
