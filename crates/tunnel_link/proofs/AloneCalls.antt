-- Which calls leave the open channel alone, and which seek none.
use Rattle.std.proofs.Common.{◌≡◌, inl, inr, ℕ, List, [], ◌∷◌, Some, None, Result, Ok, Err, refl, subst, arith}
use Rattle.knx_model.specs.declared.frames.ip.IpFrame.TheVariants.{ConnectRequest}
use Rattle.knx_model.specs.KnxNetIp.{Written}
use Rattle.line_model.specs.declared.fault.HubFault.{HubFault}
use Rattle.line_model.specs.Reading.{datagram_in, disconnect_request_in}
use Rattle.line_model.specs.Record.{Put, Renewed, Entry, entry, Placed, entries}
use Rattle.line_model.specs.LinkStory.{Story, places_in, newest_time, IsTime, Renews, RenewsOrNot}
use Rattle.line_model.specs.ClientEnd.{IsCemi, channel_put, channel_expired, channel_left}
use Rattle.tunnel_channel.specs.Follows.{sent_by}
use Rattle.tunnel_channel.proofs.Frames.{connect_read}
use Rattle.tunnel_link.specs.declared.came.Came.{Came}
use Rattle.tunnel_link.specs.declared.known.Known.{Known}
use Rattle.tunnel_link.specs.Goes.{Keeps, KeepsAll}
use Rattle.tunnel_link.specs.Kept.{with_connect}
use Rattle.tunnel_link.specs.Adds.{place_of, Growing}
use Rattle.tunnel_link.specs.Alone.{Each, EndsNone, SeeksNone, LeavesAlone, SendsOnce, Nothing, Once}
use Rattle.tunnel_link.specs.Calls.{SendsSo, ConnectsSo, ListensSo}
use Rattle.tunnel_link.proofs.Alone.{both_each, sends_each, settled, seeks_none, ends_not, alone, put_asks_not}
use Rattle.tunnel_link.proofs.CallAnswers.{sends_go_on}
use Rattle.tunnel_link.proofs.CallsKept.{time_is, put_may, due_may, leave_may}
use Rattle.tunnel_link.proofs.Growth.{renews_it, adds_more}
use Rattle.tunnel_link.proofs.Places.{added_of, unmoved, one_sent, sent_grows, sent_or_grows}
use Rattle.tunnel_link.proofs.PollKept.{HasTunnels, of_places}
use Rattle.tunnel_link.proofs.Steps.{expires}
use Rattle.tunnel_link.proofs.Stories.{renews_goes}

-- ---- a new endpoint, and its connect request

-- P of both
module _ (P : List Entry → Entry → Type 0) (renewed : (r : List Entry) → P r (entry Renewed (newest_time r))) (connects : (r : List Entry) → P r (entry (Put (Written ConnectRequest)) (newest_time r))) where
  renews_each : (before after : Story) → Keeps before → Renews before after → Growing (Each P) before after
  renews_each before after legal s old p =
      let m = adds_more Renewed _ renews_it before after old legal s p in
      record {
        new = record { at = place_of after; what = entry Renewed (newest_time (entries old)) } ∷ old;
        told = m.told;
        added = record { at = place_of after; what = entry Renewed (newest_time (entries old)) } ∷ [];
        grown = added_of (place_of before) (place_of after) old (record { at = place_of after; what = entry Renewed (newest_time (entries old)) } ∷ []) ((let up = m.up in omega arith), tt) (omega arith, tt);
        is = (renewed (entries old), tt);
      }

  renews_or_each : (before after : Story) → Keeps before → RenewsOrNot before after → Growing (Each P) before after
  renews_or_each before after legal (inl s) = renews_each before after legal s
  renews_or_each before after legal (inr same) = λ old p. (unmoved (Each P) before after old same p tt)

  pub connects_each : {X : Type 0} (r : Result X HubFault) (k new : Known) (before after : Story) → Keeps before → ConnectsSo r k new before after → Growing (Each P) before after
  connects_each r k new before after legal (inl c) =
      let goes = renews_goes before c.between c.renews in
      both_each P before c.between after goes.on (sends_go_on r (Written ConnectRequest) (with_connect k c.now) new c.between after c.sends).on (renews_each before c.between legal c.renews)
      (sends_each P r (Written ConnectRequest) (with_connect k c.now) new c.between after (goes.keeps legal) (λ old p. connects (entries old)) c.sends)
  connects_each r k new before after legal (inr u) = renews_or_each before after legal u.renews

connect_asks_not : disconnect_request_in (datagram_in (Written ConnectRequest)) ≡ None
connect_asks_not = rw connect_read refl

pub connects_ends_none : {X : Type 0} (r : Result X HubFault) (k new : Known) (before after : Story) → Keeps before → ConnectsSo r k new before after → Growing (Each EndsNone) before after
connects_ends_none = connects_each EndsNone (λ r asks. absurd (cc)) (λ r. ends_not r (Written ConnectRequest) (newest_time r) connect_asks_not)

-- ---- a request, what is due, and the end of the channel

module _ (k next new : Known) (before after : Story) (all : KeepsAll k before) (calm : k.fault ≡ None) where
  pub put_alone : {X : Type 0} (r : Result X HubFault) (now : ℕ) (cemi octets : List ℕ) → IsTime now before → IsCemi cemi → channel_put k.channel cemi ≡ Some octets → SendsSo r octets next new before after → Growing (Each LeavesAlone) before after
  put_alone r now cemi octets t i q s = sends_each LeavesAlone r octets next new before after all.legal (λ old p.
      alone (entries old) octets (newest_time (entries old)) (put_may k before all calm now cemi octets t i q old p).renews (settled k (entries old) ((all.kept old p).fits calm)) (put_asks_not k.channel cemi octets i q)) s

  pub due_alone : {X : Type 0} (r : Result X HubFault) (now : ℕ) (octets : List ℕ) → IsTime now before → sent_by (channel_expired k.channel now) ≡ Some octets → SendsSo r octets next new before after → Growing (Each LeavesAlone) before after
  due_alone r now octets t q s = sends_each LeavesAlone r octets next new before after all.legal (λ old p.
      let same : (now ≡ newest_time (entries old)) = time_is now before old all.legal t p in
      alone (entries old) octets (newest_time (entries old)) (due_may k before all calm now octets t q old p).renews (settled k (entries old) ((all.kept old p).fits calm))
      ((expires k (entries old) ((all.kept old p).fits calm)).asks_not octets (subst (λ (m : ℕ). sent_by (channel_expired k.channel m) ≡ Some octets) same q))) s

  -- one that seeks none
  seeks_not : (octets : List ℕ) → channel_left k.channel ≡ Some octets → (old : List Placed) → places_in before ≡ Some old → SeeksNone (entries old) (entry (Put octets) (newest_time (entries old)))
  seeks_not octets q old p = seeks_none (entries old) octets (newest_time (entries old)) (leave_may k before all calm octets q old p).renews (settled k (entries old) ((all.kept old p).fits calm))

  pub leave_once : {X : Type 0} (r : Result X HubFault) (octets : List ℕ) → channel_left k.channel ≡ Some octets → SendsSo r octets next new before after → Growing SendsOnce before after
  leave_once (Ok x) octets q s old p = sent_grows SendsOnce octets before after old all.legal s.1 p (Once (one_sent octets (place_of after) old) refl (seeks_not octets q old p))
  leave_once (Err fault) octets q s old p = sent_or_grows SendsOnce octets before after old all.legal s.1 p Nothing (Once (one_sent octets (place_of after) old) refl (seeks_not octets q old p))

pub leave_none : (story : Story) → Growing SendsOnce story story
leave_none story old p = unmoved SendsOnce story story old refl p Nothing

-- ---- a poll

pub poll_alone : (result : Result Came HubFault) (wait : ℕ) (k new : Known) (before after : Story) → HasTunnels → KeepsAll k before → k.fault ≡ None → ListensSo result wait k new before after → Growing (Each LeavesAlone) before after
poll_alone result wait k new before after tunnels all calm l old p =
    let x = of_places result wait k new before after tunnels all calm l old p in
    record { new = x.grows.new; told = x.grows.told; added = x.grows.added; grown = x.grows.grown; is = x.alone }
