-- A fault to which a call comes itself is one of the link, or that three tries failed.
use Rattle.std.proofs.Common.{◌≡◌, inl, inr, ℕ, List, Bool, true, false, cond, Option, Some, None, Result, Ok, Err, IfErr, refl, subst}
use Rattle.knx_model.specs.declared.frames.cemi.Ldata.{Ldata}
use Rattle.knx_model.specs.declared.frames.ip.IpFrame.{IpFrame}
use Rattle.line_model.specs.declared.client_end.ChannelExpired.{ChannelExpired}
use Rattle.line_model.specs.declared.client_end.ChannelExpired.TheVariants as due
use Rattle.line_model.specs.declared.client_end.ChannelTook.{ChannelTook}
use Rattle.line_model.specs.declared.client_end.ChannelTook.TheVariants as took
use Rattle.line_model.specs.declared.fault.HubFault.{HubFault}
use Rattle.line_model.specs.declared.fault.HubFault.TheVariants.{NoMemory, LinkFailed, GatewayRefused, Flooded, WrongLine}
use Rattle.line_model.specs.Reading.{datagram_in, ldata_in, is_con}
use Rattle.line_model.specs.ChannelLost.{is_confirmation_of}
use Rattle.line_model.specs.Record.{Item, Put, Renewed, Got, Quiet}
use Rattle.line_model.specs.LinkStory.{Story}
use Rattle.line_model.specs.ClientEnd.{lost, is_over, channel_expired}
use Rattle.line_model.specs.ClientFrames.{channel_took}
use Rattle.tunnel_link.specs.declared.came.Came.{Came}
use Rattle.tunnel_link.specs.declared.known.Known.{Known}
use Rattle.tunnel_link.specs.declared.tries.Tries.{Tries}
use Rattle.tunnel_link.specs.declared.tries.Tries.TheVariants.{Zero, One, Two, Three}
use Rattle.tunnel_link.specs.Calls.{SendsSo, ConnectsSo, AnswersSo, ListensSo, after_item}
use Rattle.tunnel_link.specs.Kept.{refused, left, is_unconfirmed_now, lapsed, after_expiry, with_due, confirmed_if, with_heard, after_told, counted, with_channel_of, taken, dropped_as_unread, read_or_dropped, answers_heartbeat}
use Rattle.tunnel_link.specs.Rights.{IsOfLink, IsOfTries, IsOfTunnel}

tries_of_tunnel : (fault : HubFault) → IsOfTries (Some fault) → IsOfTunnel fault
tries_of_tunnel (NoMemory want) h = tt
tries_of_tunnel LinkFailed h = tt
tries_of_tunnel (GatewayRefused three) h = tt
tries_of_tunnel Flooded h = h
tries_of_tunnel (WrongLine device tunnel) h = h

link_of : (fault : HubFault) → IsOfLink fault → IsOfTunnel fault
link_of (NoMemory want) h = tt
link_of LinkFailed h = tt
link_of (GatewayRefused three) h = tt
link_of Flooded h = h
link_of (WrongLine device tunnel) h = h

refused_of : (t : Tries) → IsOfTries (refused t)
refused_of Zero = tt
refused_of (One a) = tt
refused_of (Two a b) = tt
refused_of (Three a b c) = tt

either_of : (t : Bool) (a b : Known) → IsOfTries a.fault → IsOfTries b.fault → IsOfTries (cond t a b).fault
either_of true a b x y = x
either_of false a b x y = y

calm_of : (k : Known) → k.fault ≡ None → IsOfTries k.fault
calm_of k c = rw c tt

expiry_of : (told : ChannelExpired) (k : Known) → k.fault ≡ None → IsOfTries (after_expiry told k).fault
expiry_of due.Nothing k c = calm_of k c
expiry_of (due.Repeat octets) k c = calm_of k c
expiry_of due.Lost k c = calm_of k c
expiry_of due.NoAnswer k c = refused_of _
expiry_of (due.Beat octets) k c = calm_of k c
expiry_of due.Dead k c = calm_of k c

lapsed_of : (k : Known) (now : ℕ) → k.fault ≡ None → IsOfTries (lapsed k now).fault
unfolding lapsed
lapsed_of k now c =
    either_of (is_unconfirmed_now k now) (left (record k { channel = lost k.channel })) (cond (is_over k.channel now) (after_expiry (channel_expired k.channel now) (with_due k now)) k) (calm_of k c)
    (either_of (is_over k.channel now) (after_expiry (channel_expired k.channel now) (with_due k now)) k (expiry_of (channel_expired k.channel now) (with_due k now) c) (calm_of k c))

heard_of : (o : Option Ldata) (k : Known) → k.fault ≡ None → IsOfTries (with_heard o k).fault
heard_of None k c = calm_of k c
heard_of (Some frame) k c =
    either_of (is_con frame.code) (confirmed_if (is_confirmation_of k.put (Some frame)) k) k (either_of (is_confirmation_of k.put (Some frame)) (record k { flight = record k.flight { confirmed = true } }) k (calm_of k c) (calm_of k c)) (calm_of k c)

told_of : (now : ℕ) (told : ChannelTook) (k : Known) → k.fault ≡ None → IsOfTries (after_told now told k).fault
told_of now took.Dropped k c = calm_of k c
told_of now (took.Up tunnel) k c = calm_of k c
told_of now (took.RefusedBy status) k c = refused_of _
told_of now took.Acked k c = calm_of k c
told_of now (took.Cemi octets ack) k c = heard_of (ldata_in octets) k c
told_of now (took.Again ack) k c = calm_of k c
told_of now (took.Gone None) k c = calm_of k c
told_of now (took.Gone (Some answer)) k c = calm_of k c
told_of now took.Alive k c = calm_of k c

counted_calm : (b : Bool) (frame : IpFrame) (told : ChannelTook) (k : Known) → answers_heartbeat frame told ≡ b → k.fault ≡ None → (counted frame told k).fault ≡ None
counted_calm true frame told k q c = rw q c
counted_calm false frame told k q c = rw q c

taken_of : (k : Known) (frame : IpFrame) (now : ℕ) → k.fault ≡ None → IsOfTries (taken k frame now).fault
unfolding taken
taken_of k frame now c = told_of now (channel_took k.channel frame now) (counted frame (channel_took k.channel frame now) (with_channel_of k frame now)) (counted_calm _ frame (channel_took k.channel frame now) (with_channel_of k frame now) refl c)

read_of : (k : Known) (now : ℕ) (o : Option IpFrame) → k.fault ≡ None → IsOfTries (read_or_dropped k now o).fault
read_of k now None c = calm_of (dropped_as_unread k) c
read_of k now (Some frame) c = taken_of k frame now c

pub item_of : (k : Known) (what : Item) (now : ℕ) → k.fault ≡ None → IsOfTries (after_item k what now).fault
item_of k (Put octets) now c = calm_of k c
item_of k Renewed now c = calm_of k c
item_of k (Got octets) now c = either_of _ (lapsed (dropped_as_unread k) now) (read_or_dropped k now (datagram_in octets)) (lapsed_of (dropped_as_unread k) now c) (read_of k now (datagram_in octets) c)
item_of k Quiet now c = lapsed_of k now c

-- ---- the calls

pub sends_of : {X : Type 0} (r : Result X HubFault) (octets : List ℕ) (next new : Known) (before after : Story) → SendsSo r octets next new before after → IfErr r IsOfTunnel
sends_of (Ok x) octets next new before after s = tt
sends_of (Err fault) octets next new before after s = link_of fault s.0.of_link

err_of : {X : Type 0} (r : Result X HubFault) (fault : HubFault) → r ≡ Err fault → IsOfTunnel fault → IfErr r IsOfTunnel
err_of r fault e h = rw e h

pub connects_of : {X : Type 0} (r : Result X HubFault) (k new : Known) (before after : Story) → ConnectsSo r k new before after → IfErr r IsOfTunnel
connects_of r k new before after (inl c) = sends_of r _ _ new c.between after c.sends
connects_of r k new before after (inr u) = err_of r u.fault u.answer (link_of u.fault u.fails.of_link)

answers_of : {X : Type 0} (r : Result X HubFault) (sends : Option (List ℕ)) (k new : Known) (before after : Story) → IsOfTries k.fault → AnswersSo r sends k new before after → IfErr r IsOfTunnel
answers_of (Ok x) sends k new before after h s = tt
answers_of (Err fault) None k new before after h u = tries_of_tunnel fault (subst IsOfTries u.stands h)
answers_of (Err fault) (Some octets) k new before after h (inl s) = tries_of_tunnel fault (subst IsOfTries s.stands h)
answers_of (Err fault) (Some octets) k new before after h (inr f) = err_of (Err fault) f.fault f.answer (link_of f.fault f.fails.of_link)

pub listens_of : (r : Result Came HubFault) (wait : ℕ) (k new : Known) (before after : Story) → k.fault ≡ None → ListensSo r wait k new before after → IfErr r IsOfTunnel
listens_of r wait k new before after c (inl l) = answers_of r l.answer.sends l.known new l.between after (rw l.polled.known (item_of k l.polled.what l.polled.now c)) l.answers
listens_of r wait k new before after c (inr u) = err_of r u.fault u.answer (link_of u.fault u.fails.of_link)

-- a fault that is passed on
pub passed_on : {X Y : Type 0} (r : Result X HubFault) (s : Result Y HubFault) (fault : HubFault) → r ≡ Err fault → s ≡ Err fault → IfErr r IsOfTunnel → IfErr s IsOfTunnel
passed_on {X} r s fault p q h = err_of s fault q (let g : IfErr {T = X} (Err fault) IsOfTunnel = subst (λ (x : Result X HubFault). IfErr x IsOfTunnel) p h in g)
