-- The calls over a link, as their code makes them.
use Rattle.std.proofs.Common.{◌≡◌, ℕ, List, [], ◌∷◌, Bool, true, false, Option, Some, None, Result, Ok, Err, refl, sym, subst}
use Rattle.std.specs.Prelude.{is_some}
use Rattle.line_model.specs.declared.fault.HubFault.{HubFault}
use Rattle.line_model.specs.Reading.{datagram_in, disconnect_request_in}
use Rattle.line_model.specs.Record.{Put, entry, Placed, entries}
use Rattle.line_model.specs.LinkStory.{Story, places_in, newest_time, IsTime}
use Rattle.line_model.specs.ClientView.{channel, Puts, Nothing}
use Rattle.line_model.specs.Closing.{is_open}
use Rattle.line_model.specs.ClientEnd.{IsCemi, MayConnect, channel_put, channel_expired, channel_left}
use Rattle.tunnel_channel.specs.Follows.{sent_by}
use Rattle.tunnel_link.specs.declared.known.Known.{Known}
use Rattle.tunnel_link.specs.Goes.{Goes, KeepsAll}
use Rattle.tunnel_link.specs.Kept.{with_due, with_put, with_leave}
use Rattle.tunnel_link.specs.Rights.{WhereTold}
use Rattle.tunnel_link.specs.Adds.{place_of, Grows, Growing, PutsOne, AllNothing, Leaves, LeavesSo, Seeks, SeeksSo, Dues, DuesOne, asks_end}
use Rattle.tunnel_link.specs.Calls.{SendsSo, ConnectsSo}
use Rattle.tunnel_link.proofs.MaySend.{Sending}
use Rattle.tunnel_link.proofs.Steps.{left_asks, asks_read, expires}
use Rattle.tunnel_link.proofs.DueLate.{due_late}
use Rattle.tunnel_link.proofs.Places.{unmoved, sent_grows, one_sent}
use Rattle.tunnel_link.proofs.Stories.{sends_goes, sends_or_goes}
use Rattle.tunnel_link.proofs.CallsKept.{time_is, due_may, due_keeps, put_may, leave_may, open_is, put_adds, sends_keeps, nothing_adds}
use Rattle.tunnel_link.proofs.SeekKept.{grows_as, SeekAdds, are_polls, seek_adds}

pub sends_go_on : {X : Type 0} (r : Result X HubFault) (octets : List ℕ) (next new : Known) (before after : Story) → SendsSo r octets next new before after → Goes before after
sends_go_on (Ok x) octets next new before after s = sends_goes octets before after s.1
sends_go_on (Err fault) octets next new before after s = sends_or_goes octets before after s.1

module _ (k next new : Known) (before after : Story) (all : KeepsAll k before) (calm : k.fault ≡ None) where
  -- ---- a request

  module _ {X : Type 0} (r : Result X HubFault) (now : ℕ) (cemi octets : List ℕ) (t : IsTime now before) (i : IsCemi cemi) (q : channel_put k.channel cemi ≡ Some octets) (n : next ≡ with_put k cemi now) (s : SendsSo r octets next new before after) where
    put_so : WhereTold (λ old. Sending next octets (Puts cemi) (entries old)) before
    put_so = subst (λ (x : Known). WhereTold (λ old. Sending x octets (Puts cemi) (entries old)) before) (sym n) (put_may k before all calm now cemi octets t i q)

    pub put_call_keeps : KeepsAll new after
    put_call_keeps = sends_keeps next new octets (Puts cemi) before after all.legal put_so r s

    pub put_call_adds : Growing (PutsOne r cemi (place_of after)) before after
    put_call_adds = put_adds r next new octets cemi before after all.legal put_so r s

  -- ---- the end of the channel

  module _ {X : Type 0} (r : Result X HubFault) (octets : List ℕ) (q : channel_left k.channel ≡ Some octets) (n : next ≡ with_leave k) (s : SendsSo r octets next new before after) where
    leave_so : WhereTold (λ old. Sending next octets Nothing (entries old)) before
    leave_so = subst (λ (x : Known). WhereTold (λ old. Sending x octets Nothing (entries old)) before) (sym n) (leave_may k before all calm octets q)

    pub leave_call_keeps : KeepsAll new after
    leave_call_keeps = sends_keeps next new octets Nothing before after all.legal leave_so r s

    one_asks : (at : ℕ) (old : List Placed) → asks_end (record { at = at; what = entry (Put octets) (newest_time (entries old)) } ∷ []) ≡ true
    one_asks at old = rw (asks_read octets (left_asks k.channel octets q)) refl

    asked_open : (old : List Placed) → places_in before ≡ Some old → true ≡ is_open (channel (entries old))
    asked_open old p = subst (λ (o : Option (List ℕ)). is_some o ≡ is_open (channel (entries old))) q (open_is k before all calm old p)

    pub leave_call_adds : Growing (λ old added. AllNothing old added × (are_polls added ≡ false)) before after
    leave_call_adds = nothing_adds r (λ old added. AllNothing old added × (are_polls added ≡ false)) next new octets before after all.legal leave_so (λ old p d. ((d, tt), refl)) (λ old p. (tt, refl)) s

    pub leave_call_err : (answer : Result Bool HubFault) (fault : HubFault) → answer ≡ Err fault → Growing (Leaves answer) before after
    leave_call_err answer fault e = grows_as _ (Leaves answer) before after (λ old added h. record { nothing = h.0; so = subst (λ (x : Result Bool HubFault). LeavesSo x old added) (sym e) tt }) leave_call_adds

    pub leave_call_ok : (x : X) → r ≡ Ok x → Growing (Leaves (Ok true)) before after
    leave_call_ok x e old p = by_sent (subst (λ (y : Result X HubFault). SendsSo y octets next new before after) e s)
      where
        by_sent : SendsSo (Ok x) octets next new before after → Grows (Leaves (Ok true)) (place_of before) (place_of after) old after
        by_sent h = sent_grows (Leaves (Ok true)) octets before after old all.legal h.1 p (record { nothing = ((leave_so old p).did, tt); so = (asked_open old p, one_asks (place_of after) old, refl, (λ g. absurd (cc))) })

  -- ---- what is due

  module _ {X : Type 0} (r : Result X HubFault) (now : ℕ) (octets : List ℕ) (t : IsTime now before) (q : sent_by (channel_expired k.channel now) ≡ Some octets) (n : next ≡ with_due k now) (s : SendsSo r octets next new before after) where
    due_so : WhereTold (λ old. Sending next octets Nothing (entries old)) before
    due_so = subst (λ (x : Known). WhereTold (λ old. Sending x octets Nothing (entries old)) before) (sym n) (due_may k before all calm now octets t q)

    pub due_call_keeps : KeepsAll new after
    due_call_keeps = sends_keeps next new octets Nothing before after all.legal due_so r s

-- ---- where nothing is sent

module _ (k : Known) (before : Story) (all : KeepsAll k before) (calm : k.fault ≡ None) where
  pub due_none_keeps : (next : Known) (now : ℕ) → IsTime now before → sent_by (channel_expired k.channel now) ≡ None → next ≡ with_due k now → KeepsAll next before
  due_none_keeps next now t q n = subst (λ (x : Known). KeepsAll x before) (sym n) (due_keeps k before all calm now t q)

  pub unleft_adds : channel_left k.channel ≡ None → Growing (Leaves (Ok false)) before before
  unleft_adds q old p = unmoved (Leaves (Ok false)) before before old refl p (record { nothing = tt; so = (unasked, refl, refl, (λ h. refl)) })
    where
      unasked : false ≡ is_open (channel (entries old))
      unasked = subst (λ (o : Option (List ℕ)). is_some o ≡ is_open (channel (entries old))) q (open_is k before all calm old p)

-- ---- a new endpoint

module _ (k new : Known) (before after : Story) (all : KeepsAll k before) (calm : k.fault ≡ None) where
  module _ (m : MayConnect k.channel) where
    pub sought_err : {X : Type 0} (r : Result X HubFault) (answer : Result Bool HubFault) (fault : HubFault) → answer ≡ Err fault → r ≡ Err fault → ConnectsSo r k new before after → Growing (Seeks answer) before after
    sought_err {X} r answer fault e d s = grows_as (SeekAdds r) (Seeks answer) before after
        (λ old added h. record { nothing = nothing_of old added (subst (λ (x : Result X HubFault). SeekAdds x old added) d h); so = subst (λ (x : Result Bool HubFault). SeeksSo x old added) (sym e) tt }) (seek_adds r k new before after all calm m s)
      where
        nothing_of : (old added : List Placed) → SeekAdds {X = X} (Err fault) old added → AllNothing old added
        nothing_of old added h = h

    pub sought_ok : {X : Type 0} (r : Result X HubFault) (x : X) → r ≡ Ok x → ConnectsSo r k new before after → Growing (Seeks (Ok true)) before after
    sought_ok {X} r x d s = grows_as (SeekAdds r) (Seeks (Ok true)) before after (λ old added h. so_of old added (subst (λ (y : Result X HubFault). SeekAdds y old added) d h)) (seek_adds r k new before after all calm m s)
      where
        so_of : (old added : List Placed) → SeekAdds (Ok x) old added → Seeks (Ok true) old added
        so_of old added h = record { nothing = h.0; so = (h.1, h.2) }

-- ---- what is due adds

module _ (k next new : Known) (before after : Story) (all : KeepsAll k before) (calm : k.fault ≡ None) where
  module _ {X : Type 0} (r : Result X HubFault) (now : ℕ) (octets : List ℕ) (t : IsTime now before) (q : sent_by (channel_expired k.channel now) ≡ Some octets) (n : next ≡ with_due k now) (s : SendsSo r octets next new before after) where
    may_due : WhereTold (λ old. Sending next octets Nothing (entries old)) before
    may_due = subst (λ (x : Known). WhereTold (λ old. Sending x octets Nothing (entries old)) before) (sym n) (due_may k before all calm now octets t q)

    not_asked : (old : List Placed) → places_in before ≡ Some old → disconnect_request_in (datagram_in octets) ≡ None
    not_asked old p =
        let same : (now ≡ newest_time (entries old)) = time_is now before old all.legal t p in
        (expires k (entries old) ((all.kept old p).fits calm)).asks_not octets (subst (λ (m : ℕ). sent_by (channel_expired k.channel m) ≡ Some octets) same q)

    one_due : (old : List Placed) (p : places_in before ≡ Some old) → DuesOne old (one_sent octets (place_of after) old ∷ [])
    one_due old p = record { nothing = ((may_due old p).did, tt); only_sends = refl; asks_no_end = rw (not_asked old p) refl; some = λ h. absurd (cc) }

    pub due_ok : (x : X) → r ≡ Ok x → Growing (Dues (Ok true)) before after
    due_ok x e old p = by_ok (subst (λ (y : Result X HubFault). SendsSo y octets next new before after) e s)
      where
        by_ok : SendsSo (Ok x) octets next new before after → Grows (Dues (Ok true)) (place_of before) (place_of after) old after
        by_ok h = sent_grows (Dues (Ok true)) octets before after old all.legal h.1 p (one_due old p)

    pub due_err : (answer : Result Bool HubFault) (fault : HubFault) → answer ≡ Err fault → Growing (Dues answer) before after
    due_err answer fault e = grows_as AllNothing (Dues answer) before after (λ old added h. subst (λ (x : Result Bool HubFault). Dues x old added) (sym e) h)
        (nothing_adds r AllNothing next new octets before after all.legal may_due (λ old p d. (d, tt)) (λ old p. tt) s)

module _ (k : Known) (before : Story) (all : KeepsAll k before) (calm : k.fault ≡ None) where
  pub due_none : (now : ℕ) → IsTime now before → sent_by (channel_expired k.channel now) ≡ None → Growing (Dues (Ok false)) before before
  due_none now t q old p =
      let same : (now ≡ newest_time (entries old)) = time_is now before old all.legal t p in
      unmoved (Dues (Ok false)) before before old refl p (record { none = refl; in_time = due_late k (entries old) ((all.kept old p).fits calm) (subst (λ (m : ℕ). sent_by (channel_expired k.channel m) ≡ None) same q) })
