-- Each datagram that this end gives to be sent is written as the codecs write it. A request that goes again has the octets of the one that was put last in the
-- channel, and those are in the record.
use Rattle.std.proofs.Common.{◌≡◌, ℕ, List, [], ◌∷◌, Bool, true, false, Option, Some, None, refl, sym, subst, ap, ◌∙◌}
use Rattle.std.specs.Prelude.{◌&&◌, ◌==◌, if◌then◌else◌}
use Rattle.knx_model.specs.declared.frames.ip.IpFrame.{IpFrame}
use Rattle.knx_model.specs.declared.frames.ip.IpFrame.TheVariants.{ConnectRequest, ConnectResponse, StateRequest, StateResponse, DisconnectRequest, DisconnectResponse, TunnellingRequest, TunnellingAck}
use Rattle.knx_model.specs.KnxNetIp.{Written}
use Rattle.knx_model.specs.Connection.{has_passed}
use Rattle.line_model.specs.declared.client_end.ChannelExpired.{ChannelExpired}
use Rattle.line_model.specs.declared.client_end.ChannelExpired.TheVariants as due
use Rattle.line_model.specs.declared.client_end.ChannelTook.{ChannelTook}
use Rattle.line_model.specs.declared.client_end.ChannelTook.TheVariants as took
use Rattle.line_model.specs.Gateway.{next_number, acknowledgement_wait}
use Rattle.line_model.specs.Reading.{is_connect_request, disconnect_response_in}
use Rattle.line_model.specs.Record.{Item, Put, Renewed, Got, Quiet, Entry, put_in, got_in, is_renewal, is_poll}
use Rattle.line_model.specs.ChannelLost.{answer_wait, heartbeat_pause, own, is_new_request, is_lost, is_for}
use Rattle.line_model.specs.ClientView as seen
use Rattle.line_model.specs.ClientView.{ClientChannel, channel, goes_on, sought_got, after_entry}
use Rattle.line_model.specs.Sendings.{octets_put, last_request}
use Rattle.line_model.specs.Written.{CarriesRequest, IsWritten, IsWrittenItem, AllWritten}
use Rattle.line_model.specs.ClientEnd.{ClientEnd, Idle, Seeking, Open, Leaving, JustLost, OpenEnd, IsCemi, is_given_up, is_dead, is_over, is_free, repeat_due, repeat_or_beat, open_expired, request_of, put_octets, channel_put, channel_expired}
use Rattle.line_model.specs.ClientFrames.{seeking_took, is_awaited, is_acknowledged, acknowledgement, by_number, open_took, took_in_time, channel_took}
use Rattle.tunnel_channel.specs.Fits.{KnowsOpen, IsSentRightly, octets_of, outstanding_of}
use Rattle.tunnel_channel.specs.Follows.{answer_in, sent_by}
use Rattle.tunnel_link.specs.Rights.{FitsNow}

-- ---- the entries of the open channel are the newest of the record

abbrev pub WrittenIn : ClientChannel → Type 0
WrittenIn seen.Fresh = Unit {0}
WrittenIn (seen.Sought since) = Unit {0}
WrittenIn (seen.RefusedBy status) = Unit {0}
WrittenIn seen.Unanswered = Unit {0}
WrittenIn (seen.Open c l) = AllWritten l
WrittenIn (seen.Lost c) = Unit {0}

either_channel : (b : Bool) (one other : ClientChannel) → WrittenIn one → WrittenIn other → WrittenIn (if b then one else other)
either_channel true one other w v = w
either_channel false one other w v = v

got_written : (since : ℕ) (x : Entry) (o : Option IpFrame) → IsWrittenItem x.what → WrittenIn (sought_got since x o)
got_written since x None w = tt
got_written since x (Some ConnectRequest) w = tt
got_written since x (Some (ConnectResponse c status tunnel)) w = either_channel (status == 0) (seen.Open c (x ∷ [])) (seen.RefusedBy status) (w, tt) tt
got_written since x (Some (StateRequest c)) w = tt
got_written since x (Some (StateResponse c status)) w = tt
got_written since x (Some (DisconnectRequest c)) w = tt
got_written since x (Some (DisconnectResponse c status)) w = tt
got_written since x (Some (TunnellingRequest c number cemi)) w = tt
got_written since x (Some (TunnellingAck c number status)) w = tt

next_written : (ch : ClientChannel) (x : Entry) → WrittenIn ch → IsWrittenItem x.what → WrittenIn (goes_on ch x)
next_written seen.Fresh x h w = either_channel (is_connect_request (put_in x.what)) (seen.Sought x.now) seen.Fresh tt tt
next_written (seen.Sought since) x h w = either_channel (is_poll x.what && has_passed answer_wait since x.now) seen.Unanswered (sought_got since x (got_in x.what)) tt (got_written since x (got_in x.what) w)
next_written (seen.RefusedBy status) x h w = tt
next_written seen.Unanswered x h w = tt
next_written (seen.Open c l) x h w = either_channel (is_lost c l x) (seen.Lost c) (seen.Open c (x ∷ l)) tt (w, h)
next_written (seen.Lost c) x h w = tt

pub channel_written : (r : List Entry) → AllWritten r → WrittenIn (channel r)
unfolding after_entry
channel_written [] w = tt
channel_written (x ∷ r) w = either_channel (is_renewal x.what) seen.Fresh (goes_on (channel r) x) tt (next_written (channel r) x (channel_written r w.1) w.0)

-- ---- the request that was put last

item_written : (what : Item) (octets : List ℕ) → IsWrittenItem what → octets_put what ≡ Some octets → IsWritten octets
item_written (Put other) octets w h = subst IsWritten (let same : (other ≡ octets) = (cc) in same) w
item_written Renewed octets w h = absurd (cc)
item_written (Got other) octets w h = absurd (cc)
item_written Quiet octets w h = absurd (cc)

either_put : (b : Bool) (one other : Option (List ℕ)) (octets : List ℕ) → (one ≡ Some octets → IsWritten octets) → (other ≡ Some octets → IsWritten octets) → (if b then one else other) ≡ Some octets → IsWritten octets
either_put true one other octets f g h = f h
either_put false one other octets f g h = g h

last_written : (c : ℕ) (l : List Entry) (octets : List ℕ) → AllWritten l → last_request c l ≡ Some octets → IsWritten octets
last_written c [] octets w h = absurd (cc)
last_written c (x ∷ l) octets w h = either_put (is_new_request c l x) (octets_put x.what) (last_request c l) octets (item_written x.what octets w.0) (last_written c l octets w.1) h

-- ---- what is due

given_if : (b : Bool) (one other : List ℕ) → (if b then Some one else None) ≡ Some other → one ≡ other
given_if true one other h = cc
given_if false one other h = absurd (cc)

again_written : (c number : ℕ) (sent : List ℕ) (last : Option (List ℕ)) (now : ℕ) (octets : List ℕ) → IsSentRightly c number sent last → ((o : List ℕ) → last ≡ Some o → IsWritten o) → repeat_due (outstanding_of sent last) now ≡ Some octets → IsWritten octets
again_written c number [] last now octets s w h = absurd (cc)
again_written c number (t ∷ []) last now octets s w h =
    subst IsWritten (given_if (has_passed acknowledgement_wait t now) (octets_of last) octets h) (w (octets_of last) (s.is ∙ ap (λ (o : Option (List ℕ)). Some (octets_of o)) (sym s.is)))
again_written c number (t ∷ u ∷ ts) last now octets s w h = absurd (cc)

either_due : (b : Bool) (one other : ChannelExpired) (octets : List ℕ) → (sent_by one ≡ Some octets → IsWritten octets) → (sent_by other ≡ Some octets → IsWritten octets) → sent_by (if b then one else other) ≡ Some octets → IsWritten octets
either_due true one other octets f g h = f h
either_due false one other octets f g h = g h

written_as : (frame : IpFrame) (octets : List ℕ) → CarriesRequest frame → Some (Written frame) ≡ Some octets → IsWritten octets
written_as frame octets carries h = record { frame = frame; carries = carries; is = cc }

repeat_written : (o : Option (List ℕ)) (e : OpenEnd) (now : ℕ) (octets : List ℕ) → (o ≡ Some octets → IsWritten octets) → sent_by (repeat_or_beat o e now) ≡ Some octets → IsWritten octets
repeat_written (Some other) e now octets w h = w h
repeat_written None e now octets w h =
    either_due (has_passed heartbeat_pause e.beat now) (due.Beat (Written (StateRequest e.channel))) due.Nothing octets (written_as (StateRequest e.channel) octets tt) (λ g. absurd (cc)) h

open_written : (e : OpenEnd) (left : Bool) (ch : ClientChannel) (now : ℕ) (octets : List ℕ) → KnowsOpen e left ch → WrittenIn ch → sent_by (open_expired e now) ≡ Some octets → IsWritten octets
open_written e left ch now octets k w h =
    let repeats : (repeat_due e.request now ≡ Some octets → IsWritten octets) = λ g.
    again_written k.c (own k.c k.l).number (own k.c k.l).sent (last_request k.c k.l) now octets k.knows.sendings (λ o. last_written k.c k.l o (subst WrittenIn k.is w))
    (subst (λ (d : OpenEnd). repeat_due d.request now ≡ Some octets) k.knows.is g) in
    either_due (is_given_up e.request now) due.Lost (if is_dead e now then due.Dead else repeat_or_beat (repeat_due e.request now) e now) octets (λ g. absurd (cc))
    (either_due (is_dead e now) due.Dead (repeat_or_beat (repeat_due e.request now) e now) octets (λ g. absurd (cc)) (repeat_written (repeat_due e.request now) e now octets repeats)) h

pub due_written : (end : ClientEnd) (ch : ClientChannel) (now : ℕ) (octets : List ℕ) → FitsNow end ch → WrittenIn ch → sent_by (channel_expired end now) ≡ Some octets → IsWritten octets
unfolding channel_expired
due_written Idle ch now octets f w h = absurd (cc)
due_written (Seeking since) ch now octets f w h = either_due (has_passed answer_wait since now) due.NoAnswer due.Nothing octets (λ g. absurd (cc)) (λ g. absurd (cc)) h
due_written (Open e) ch now octets f w h = open_written e false ch now octets f w h
due_written (Leaving e) ch now octets f w h = open_written e true ch now octets f w h
due_written (JustLost c) ch now octets f w h = absurd f

-- ---- a request

open_put : (e : OpenEnd) (cemi octets : List ℕ) → IsCemi cemi → put_octets (Some e) cemi ≡ Some octets → IsWritten octets
open_put e cemi octets i h = written_as (request_of e cemi) octets i.is (ap (λ (o : List ℕ). Some o) (given_if (is_free e.request) (Written (request_of e cemi)) octets h))

pub put_written : (end : ClientEnd) (cemi octets : List ℕ) → IsCemi cemi → channel_put end cemi ≡ Some octets → IsWritten octets
put_written Idle cemi octets i h = absurd (cc)
put_written (Seeking since) cemi octets i h = absurd (cc)
put_written (Open e) cemi octets i h = open_put e cemi octets i h
put_written (Leaving e) cemi octets i h = open_put e cemi octets i h
put_written (JustLost c) cemi octets i h = absurd (cc)

-- ---- the answer to a frame

abbrev Answers : ChannelTook → Type 0
Answers told = (answer : List ℕ) → answer_in told ≡ Some answer → IsWritten answer

either_answers : (b : Bool) (one other : ChannelTook) → Answers one → Answers other → Answers (if b then one else other)
either_answers true one other f g = f
either_answers false one other f g = g

silent : (told : ChannelTook) → answer_in told ≡ None → Answers told
silent told none answer h = absurd (cc)

acknowledgement_written : (channel number : ℕ) (told : ChannelTook) → answer_in told ≡ Some (acknowledgement channel number) → Answers told
acknowledgement_written channel number told is answer h = written_as (TunnellingAck channel number 0) answer tt (sym is ∙ h)

open_answers : (e : OpenEnd) (now : ℕ) (frame : IpFrame) → Answers (open_took e now frame)
open_answers e now ConnectRequest = silent took.Dropped refl
open_answers e now (ConnectResponse channel status tunnel) = silent took.Dropped refl
open_answers e now (StateRequest channel) = silent took.Dropped refl
open_answers e now (StateResponse channel status) =
    either_answers ((channel == e.channel) && is_awaited e now) (if status == 0 then took.Alive else took.Gone None) took.Dropped
    (either_answers (status == 0) took.Alive (took.Gone None) (silent took.Alive refl) (silent (took.Gone None) refl)) (silent took.Dropped refl)
open_answers e now (DisconnectRequest channel) =
    either_answers (channel == e.channel) (took.Gone (Some (Written (DisconnectResponse channel 0)))) took.Dropped (λ answer h. written_as (DisconnectResponse channel 0) answer tt h) (silent took.Dropped refl)
open_answers e now (DisconnectResponse channel status) = silent took.Dropped refl
open_answers e now (TunnellingRequest channel number cemi) =
    let ack : List ℕ = acknowledgement channel number in
    either_answers (channel == e.channel) (by_number e number (took.Cemi cemi ack) (took.Again ack)) took.Dropped
    (either_answers (number == e.expected) (took.Cemi cemi ack) (if next_number number == e.expected then took.Again ack else took.Dropped) (acknowledgement_written channel number (took.Cemi cemi ack) refl)
    (either_answers (next_number number == e.expected) (took.Again ack) took.Dropped (acknowledgement_written channel number (took.Again ack) refl) (silent took.Dropped refl))) (silent took.Dropped refl)
open_answers e now (TunnellingAck channel number status) = either_answers (is_acknowledged e channel number status) took.Acked took.Dropped (silent took.Acked refl) (silent took.Dropped refl)

seeking_answers : (frame : IpFrame) → Answers (seeking_took frame)
seeking_answers ConnectRequest = silent took.Dropped refl
seeking_answers (ConnectResponse channel status None) = silent (took.RefusedBy status) refl
seeking_answers (ConnectResponse channel status (Some tunnel)) = silent (took.Up tunnel) refl
seeking_answers (StateRequest channel) = silent took.Dropped refl
seeking_answers (StateResponse channel status) = silent took.Dropped refl
seeking_answers (DisconnectRequest channel) = silent took.Dropped refl
seeking_answers (DisconnectResponse channel status) = silent took.Dropped refl
seeking_answers (TunnellingRequest channel number cemi) = silent took.Dropped refl
seeking_answers (TunnellingAck channel number status) = silent took.Dropped refl

timely_answers : (end : ClientEnd) (frame : IpFrame) (now : ℕ) → Answers (took_in_time end frame now)
timely_answers Idle frame now = silent took.Dropped refl
timely_answers (Seeking since) frame now = seeking_answers frame
timely_answers (Open e) frame now = open_answers e now frame
timely_answers (Leaving e) frame now = either_answers (is_for e.channel (disconnect_response_in (Some frame))) (took.Gone None) (open_took e now frame) (silent (took.Gone None) refl) (open_answers e now frame)
timely_answers (JustLost c) frame now = silent took.Dropped refl

pub answer_written : (end : ClientEnd) (frame : IpFrame) (now : ℕ) (told : ChannelTook) → channel_took end frame now ≡ told → (answer : List ℕ) → answer_in told ≡ Some answer → IsWritten answer
unfolding channel_took
answer_written end frame now told q = subst Answers q (either_answers (is_over end now) took.Dropped (took_in_time end frame now) (silent took.Dropped refl) (timely_answers end frame now))
