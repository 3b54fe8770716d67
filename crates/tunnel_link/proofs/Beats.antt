-- An awaited answer to a heartbeat is told so.
use Rattle.std.proofs.Common.{◌≡◌, ℕ, List, Bool, true, false, cond, Some, None, refl, sym, subst, ap, ◌∙◌}
use Rattle.std.specs.Prelude.{not, ◌&&◌, ◌==◌}
use Rattle.knx_model.specs.declared.frames.ip.IpFrame.{IpFrame}
use Rattle.knx_model.specs.declared.frames.ip.IpFrame.TheVariants.{ConnectRequest, ConnectResponse, StateRequest, StateResponse, DisconnectRequest, DisconnectResponse, TunnellingRequest, TunnellingAck}
use Rattle.knx_model.specs.Connection.{has_passed}
use Rattle.line_model.specs.declared.client_end.ChannelTook.TheVariants as took
use Rattle.line_model.specs.Reading.{datagram_in, state_response_in}
use Rattle.line_model.specs.Record.{Got, Entry, entry}
use Rattle.line_model.specs.ClientView as seen
use Rattle.line_model.specs.ClientView.{ClientChannel, channel}
use Rattle.line_model.specs.ChannelLost.{answer_wait, has_lapsed}
use Rattle.line_model.specs.Dropped.{is_dropped}
use Rattle.line_model.specs.Faults as fault
use Rattle.line_model.specs.ClientEnd.{ClientEnd, Idle, Seeking, Open, Leaving, JustLost, is_over}
use Rattle.line_model.specs.ClientFrames.{is_awaited, channel_took}
use Rattle.tunnel_channel.specs.Fits.{HasNone}
use Rattle.tunnel_channel.specs.Follows.{is_told_dropped}
use Rattle.tunnel_link.specs.Kept.{answers_heartbeat}
use Rattle.tunnel_link.specs.Rights.{FitsNow}

-- what this end answers to a connection state response
state_told : (over here ok : Bool) → (let told = cond over took.Dropped (cond here (cond ok took.Alive (took.Gone None)) took.Dropped) in (channel status : ℕ) → answers_heartbeat (StateResponse channel status) told ≡ not (is_told_dropped told))
state_told true here ok channel status = refl
state_told false true true channel status = refl
state_told false true false channel status = refl
state_told false false ok channel status = refl

response_told : (end : ClientEnd) (ch status now : ℕ) → answers_heartbeat (StateResponse ch status) (channel_took end (StateResponse ch status) now) ≡ not (is_told_dropped (channel_took end (StateResponse ch status) now))
unfolding channel_took
response_told Idle ch status now = refl
response_told (Seeking since) ch status now = state_told (has_passed answer_wait since now) false false ch status
response_told (Open e) ch status now = state_told (is_over (Open e) now) ((ch == e.channel) && is_awaited e now) (status == 0) ch status
response_told (Leaving e) ch status now = state_told (is_over (Leaving e) now) ((ch == e.channel) && is_awaited e now) (status == 0) ch status
response_told (JustLost c) ch status now = refl

not_not : (b : Bool) → not (not b) ≡ b
not_not true = refl
not_not false = refl

and_true : (b : Bool) → (b && true) ≡ b
and_true true = refl
and_true false = refl

-- what the record says of it
open_says : (c : ℕ) (l : List Entry) (r : List Entry) (octets : List ℕ) (now ch status : ℕ) → channel r ≡ seen.Open c l → has_lapsed c l now ≡ false → datagram_in octets ≡ Some (StateResponse ch status)
    → fault.answers_heartbeat (seen.Open c l) (entry (Got octets) now) ≡ not (is_dropped r (entry (Got octets) now))
open_says c l r octets now ch status at lapsed is = rw (at, is, lapsed) (and_true _ ∙ sym (not_not _))

none_says : (ch : ClientChannel) (r : List Entry) (octets : List ℕ) (now n status : ℕ) → channel r ≡ ch → HasNone ch → datagram_in octets ≡ Some (StateResponse n status)
    → fault.answers_heartbeat ch (entry (Got octets) now) ≡ not (is_dropped r (entry (Got octets) now))
none_says seen.Fresh r octets now n status at h is = rw (at, is) refl
none_says (seen.Sought since) r octets now n status at h is = absurd h
none_says (seen.RefusedBy s) r octets now n status at h is = rw (at, is) refl
none_says seen.Unanswered r octets now n status at h is = rw (at, is) refl
none_says (seen.Open c l) r octets now n status at h is = absurd h
none_says (seen.Lost c) r octets now n status at h is = rw (at, is) refl

-- nothing has lapsed in the open channel
abbrev pub InTimeAt : ClientChannel → ℕ → Type 0
InTimeAt (seen.Open c l) now = has_lapsed c l now ≡ false
InTimeAt _ now = Unit {0}

says : (end : ClientEnd) (r : List Entry) (octets : List ℕ) (now n status : ℕ) → FitsNow end (channel r) → InTimeAt (channel r) now → datagram_in octets ≡ Some (StateResponse n status)
    → fault.answers_heartbeat (channel r) (entry (Got octets) now) ≡ not (is_dropped r (entry (Got octets) now))
says Idle r octets now n status f t is = none_says (channel r) r octets now n status refl f is
says (Seeking since) r octets now n status f t is = rw (f, is) refl
says (Open e) r octets now n status f t is = ap (λ (ch : ClientChannel). fault.answers_heartbeat ch (entry (Got octets) now)) f.is ∙ open_says f.c f.l r octets now n status f.is (subst (λ (ch : ClientChannel). InTimeAt ch now) f.is t) is
says (Leaving e) r octets now n status f t is = ap (λ (ch : ClientChannel). fault.answers_heartbeat ch (entry (Got octets) now)) f.is ∙ open_says f.c f.l r octets now n status f.is (subst (λ (ch : ClientChannel). InTimeAt ch now) f.is t) is
says (JustLost c) r octets now n status f t is = absurd f

no_response : (ch : ClientChannel) (octets : List ℕ) (now : ℕ) → state_response_in (datagram_in octets) ≡ None → fault.answers_heartbeat ch (entry (Got octets) now) ≡ false
no_response seen.Fresh octets now h = refl
no_response (seen.Sought since) octets now h = refl
no_response (seen.RefusedBy status) octets now h = refl
no_response seen.Unanswered octets now h = refl
no_response (seen.Open c l) octets now h = rw h refl
no_response (seen.Lost c) octets now h = refl

pub beat_told : (end : ClientEnd) (r : List Entry) (octets : List ℕ) (frame : IpFrame) (now : ℕ) → FitsNow end (channel r) → InTimeAt (channel r) now → datagram_in octets ≡ Some frame
    → is_dropped r (entry (Got octets) now) ≡ is_told_dropped (channel_took end frame now)
    → fault.answers_heartbeat (channel r) (entry (Got octets) now) ≡ answers_heartbeat frame (channel_took end frame now)
beat_told end r octets ConnectRequest now f t is d = no_response (channel r) octets now (rw is refl)
beat_told end r octets (ConnectResponse ch status tunnel) now f t is d = no_response (channel r) octets now (rw is refl)
beat_told end r octets (StateRequest ch) now f t is d = no_response (channel r) octets now (rw is refl)
beat_told end r octets (StateResponse ch status) now f t is d = says end r octets now ch status f t is ∙ ap not d ∙ sym (response_told end ch status now)
beat_told end r octets (DisconnectRequest ch) now f t is d = no_response (channel r) octets now (rw is refl)
beat_told end r octets (DisconnectResponse ch status) now f t is d = no_response (channel r) octets now (rw is refl)
beat_told end r octets (TunnellingRequest ch number cemi) now f t is d = no_response (channel r) octets now (rw is refl)
beat_told end r octets (TunnellingAck ch number status) now f t is d = no_response (channel r) octets now (rw is refl)
