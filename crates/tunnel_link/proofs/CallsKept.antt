-- What is due, a request, the end of the channel and a new endpoint over a link: what each call adds to the places, and that what is kept is kept.
use Rattle.std.proofs.Common.{◌≡◌, inl, inr, ℕ, List, [], ◌∷◌, Some, None, Result, Ok, Err, refl, sym, subst, ap, ◌∙◌}
use Rattle.std.specs.Prelude.{is_some}
use Rattle.line_model.specs.declared.fault.HubFault.{HubFault}
use Rattle.line_model.specs.Record.{Put, entry, Placed, placed, counted, entries}
use Rattle.line_model.specs.LinkStory.{Story, Untold, Recorded, Full, places_in, newest_time, IsTime}
use Rattle.line_model.specs.ClientView.{channel, Deed, Puts, Nothing, deed}
use Rattle.line_model.specs.Closing.{is_open}
use Rattle.line_model.specs.ClientEnd.{IsCemi, channel_put, channel_expired, channel_left}
use Rattle.tunnel_channel.specs.Follows.{sent_by}
use Rattle.tunnel_link.specs.declared.known.Known.{Known}
use Rattle.tunnel_link.specs.Goes.{Goes, Keeps, KeepsAll}
use Rattle.tunnel_link.specs.Kept.{with_due, with_put, with_leave}
use Rattle.tunnel_link.specs.Rights.{IsRight, FitsRecord, IsKept, WhereTold}
use Rattle.tunnel_link.specs.Adds.{place_of, Growing, PutsOne}
use Rattle.tunnel_link.specs.Calls.{SendsSo}
use Rattle.tunnel_link.proofs.Clock.{newest_is_now, newest_counted}
use Rattle.tunnel_link.proofs.MaySend.{Sending}
use Rattle.tunnel_link.proofs.Steps.{due_sends, due_rests, put_sends, place_puts, leave_sends, is_left_open}
use Rattle.tunnel_link.proofs.Places.{some_is, sent_grows, sent_or_grows, unmoved, after_sent, after_failed}
use Rattle.tunnel_link.proofs.Stories.{sends_goes, sends_or_goes}

-- ---- the time of a story that tells places is that of the newest

pub time_is : (now : ℕ) (story : Story) (old : List Placed) → Keeps story → IsTime now story → places_in story ≡ Some old → now ≡ newest_time (entries old)
time_is now Untold old k t p = absurd (cc)
time_is now (Recorded clock r) old k t p = t ∙ sym (newest_counted r) ∙ ap (λ (l : List Placed). newest_time (entries l)) (some_is (counted r) old p)
time_is now (Full start events) old k t p = t ∙ sym (newest_is_now start events k.fresh) ∙ ap (λ (l : List Placed). newest_time (entries l)) (some_is (placed start events) old p)

module _ (k : Known) (before : Story) (all : KeepsAll k before) (calm : k.fault ≡ None) where
  fits : (old : List Placed) → places_in before ≡ Some old → FitsRecord k (entries old)
  fits old p = (all.kept old p).fits calm

  right : (old : List Placed) → places_in before ≡ Some old → IsRight k (entries old)
  right old p = (all.kept old p).right

  -- ---- what is due

  pub due_may : (now : ℕ) (octets : List ℕ) → IsTime now before → sent_by (channel_expired k.channel now) ≡ Some octets → WhereTold (λ old. Sending (with_due k now) octets Nothing (entries old)) before
  due_may now octets t h old p =
      let same : (now ≡ newest_time (entries old)) = time_is now before old all.legal t p in
      subst (λ (n : ℕ). Sending (with_due k n) octets Nothing (entries old)) (sym same)
      (due_sends k (entries old) (fits old p) octets (right old p) (subst (λ (n : ℕ). sent_by (channel_expired k.channel n) ≡ Some octets) same h))

  pub due_keeps : (now : ℕ) → IsTime now before → sent_by (channel_expired k.channel now) ≡ None → KeepsAll (with_due k now) before
  due_keeps now t h = record {
    legal = all.legal;
    kept = λ old p.
        (let same : (now ≡ newest_time (entries old)) = time_is now before old all.legal t p in
        subst (λ (n : ℕ). IsKept (with_due k n) (entries old)) (sym same)
        (subst (λ (x : Known). IsKept x (entries old)) (sym (due_rests k (entries old) (fits old p) (subst (λ (n : ℕ). sent_by (channel_expired k.channel n) ≡ None) same h))) (all.kept old p)));
  }

  -- ---- a request

  pub put_may : (now : ℕ) (cemi octets : List ℕ) → IsTime now before → IsCemi cemi → channel_put k.channel cemi ≡ Some octets → WhereTold (λ old. Sending (with_put k cemi now) octets (Puts cemi) (entries old)) before
  put_may now cemi octets t i h old p =
      let same : (now ≡ newest_time (entries old)) = time_is now before old all.legal t p in
      subst (λ (n : ℕ). Sending (with_put k cemi n) octets (Puts cemi) (entries old)) (sym same) (put_sends k (entries old) cemi octets (fits old p) (right old p) i h)

  pub unput_adds : {X : Type 0} (x : X) (cemi : List ℕ) → channel_put k.channel cemi ≡ None → Growing (PutsOne (Ok x) cemi (place_of before)) before before
  unput_adds x cemi h old p =
      unmoved (PutsOne (Ok x) cemi (place_of before)) before before old refl p (λ place. absurd (place_puts k.channel (channel (entries old)) cemi (fits old p).end place h))

  -- ---- the end of the channel

  pub leave_may : (octets : List ℕ) → channel_left k.channel ≡ Some octets → WhereTold (λ old. Sending (with_leave k) octets Nothing (entries old)) before
  leave_may octets h old p = leave_sends k (entries old) octets (fits old p) (right old p) h

  pub open_is : (old : List Placed) → places_in before ≡ Some old → is_some (channel_left k.channel) ≡ is_open (channel (entries old))
  open_is old p = is_left_open k.channel (channel (entries old)) (fits old p).end

-- ---- a sending, by its answer

module _ {X : Type 0} (result : Result X HubFault) (next new : Known) (octets cemi : List ℕ) (before after : Story) (legal : Keeps before) (may : WhereTold (λ old. Sending next octets (Puts cemi) (entries old)) before) where
  pub put_adds : (r : Result X HubFault) → SendsSo r octets next new before after → Growing (PutsOne r cemi (place_of after)) before after
  put_adds (Ok x) s old p = sent_grows (PutsOne (Ok x) cemi (place_of after)) octets before after old legal s.1 p (λ place. rw (may old p).did refl)
  put_adds (Err fault) s old p = sent_or_grows (PutsOne {X = X} (Err fault) cemi (place_of after)) octets before after old legal s.1 p (λ place. inl refl) (λ place. inr (rw (may old p).did refl))

module _ {X : Type 0} (next new : Known) (octets : List ℕ) (does : Deed) (before after : Story) (legal : Keeps before) (may : WhereTold (λ old. Sending next octets does (entries old)) before) where
  pub sends_keeps : (r : Result X HubFault) → SendsSo r octets next new before after → KeepsAll new after
  sends_keeps (Ok x) s = subst (λ (n : Known). KeepsAll n after) (sym s.0) (after_sent next octets does before after legal may s.1)
  sends_keeps (Err fault) s = after_failed next octets does before after legal may fault new s.0 s.1

  pub sends_go : (r : Result X HubFault) → SendsSo r octets next new before after → Goes before after
  sends_go (Ok x) s = sends_goes octets before after s.1
  sends_go (Err fault) s = sends_or_goes octets before after s.1

-- nothing is done but a sending of nothing
pub nothing_adds : {X : Type 0} (r : Result X HubFault) (P : List Placed → List Placed → Type 0) (next new : Known) (octets : List ℕ) (before after : Story) → Keeps before → WhereTold (λ old. Sending next octets Nothing (entries old)) before
    → ((old : List Placed) → places_in before ≡ Some old → (n : deed (channel (entries old)) (entry (Put octets) (newest_time (entries old))) ≡ Nothing) → P old (record { at = place_of after; what = entry (Put octets) (newest_time (entries old)) } ∷ []))
    → ((old : List Placed) → places_in before ≡ Some old → P old []) → SendsSo r octets next new before after → Growing P before after
nothing_adds (Ok x) P next new octets before after legal may one none s old p = sent_grows P octets before after old legal s.1 p (one old p (may old p).did)
nothing_adds (Err fault) P next new octets before after legal may one none s old p = sent_or_grows P octets before after old legal s.1 p (none old p) (one old p (may old p).did)
