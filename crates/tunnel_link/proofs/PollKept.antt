-- A poll over a link keeps what is kept of the record, and adds what it says.
use Rattle.std.proofs.Common.{◌≡◌, inl, inr, ℕ, ◌≤◌, List, [], ◌∷◌, ◌++◌, Option, Some, None, Result, refl, sym, subst, ap, ◌∙◌, arith}
use Rattle.knx_model.specs.declared.frames.ip.IpFrame.{IpFrame}
use Rattle.line_model.specs.declared.fault.HubFault.{HubFault}
use Rattle.line_model.specs.Reading.{datagram_in}
use Rattle.line_model.specs.Record.{entry, Placed, entries}
use Rattle.line_model.specs.LinkStory.{Story, clock_of, places_in, newest_time}
use Rattle.line_model.specs.ClientFrames.{HasTunnelIfUp}
use Rattle.tunnel_link.specs.declared.came.Answer.{Answer}
use Rattle.tunnel_link.specs.declared.came.Came.{Came}
use Rattle.tunnel_link.specs.declared.known.Known.{Known}
use Rattle.tunnel_link.specs.Goes.{Goes, Keeps, KeepsAll}
use Rattle.tunnel_link.specs.Rights.{IsRight, IsKept}
use Rattle.tunnel_link.specs.Adds.{place_of, Growing, PollAdds}
use Rattle.tunnel_link.specs.Paces.{NoPoll}
use Rattle.tunnel_link.specs.Calls.{Polled, AnswersSo, Listening, Unpolled, ListensSo, after_item, item_answer}
use Rattle.tunnel_link.proofs.Alone.{waits_alone}
use Rattle.tunnel_link.proofs.Growth.{Polling, exact_in_time, waits_in_time, running_at_once, polls_more, Failing, fails_more}
use Rattle.tunnel_link.proofs.MaySend.{failed_kept}
use Rattle.tunnel_link.proofs.Places.{added_of, where_after}
use Rattle.tunnel_link.proofs.Stories.{goes_then, stays, sends_goes, sends_or_goes, polls_goes, nothing_goes}
use Rattle.tunnel_link.proofs.Polls.{newest_last, waits_all, waits_right}
use Rattle.tunnel_link.proofs.PollEnds.{Comes, comes}
use Rattle.tunnel_link.proofs.PollCalls.{PollOf, by_answer, waited_fails}

-- every datagram that is a connect response has a tunnel's address where it is one
abbrev pub HasTunnels : Type 0
HasTunnels = (octets : List ℕ) (frame : IpFrame) → datagram_in octets ≡ Some frame → HasTunnelIfUp frame

answers_go : {X : Type 0} (result : Result X HubFault) (sends : Option (List ℕ)) (k new : Known) (before after : Story) → AnswersSo result sends k new before after → Goes before after
answers_go result None k new before after u = stays before after u.story
answers_go result (Some octets) k new before after (inl s) = sends_goes octets before after s.story
answers_go result (Some octets) k new before after (inr f) = sends_or_goes octets before after f.story

pub listens_go : (result : Result Came HubFault) (wait : ℕ) (k new : Known) (before after : Story) → ListensSo result wait k new before after → Goes before after
listens_go result wait k new before after (inl l) =
    goes_then before l.between after (polls_goes l.polled.what wait l.polled.now before l.between l.polled.poll l.polled.polls) (answers_go result l.answer.sends l.known new l.between after l.answers)
listens_go result wait k new before after (inr u) = nothing_goes wait before after u.nothing

module _ (result : Result Came HubFault) (wait : ℕ) (k new : Known) (before after : Story) (tunnels : HasTunnels) (all : KeepsAll k before) (calm : k.fault ≡ None) where
  listening : (l : Listening result wait k new before after) (old : List Placed) → places_in before ≡ Some old → PollOf result wait new before after old
  listening l old p =
      let q : Polled l.answer wait k l.known before l.between = l.polled in
      let kept : IsKept k (entries old) = all.kept old p in
      let legal : Keeps l.between = (polls_goes q.what wait q.now before l.between q.poll q.polls).keeps all.legal in
      let g : Polling q.what wait q.now before l.between old = polls_more q.what wait q.now before l.between old q.poll all.legal q.polls q.time p in
      let ws : List Placed = g.waits.waits in
      let le : (newest_time (entries (g.waits.waits ++ old)) ≤ q.now) = (let h = newest_last old g.waits.waits in let e = g.waits.later in omega arith) in
      let c : Comes (after_item k q.what q.now) (item_answer k q.what q.now) old g.waits.waits (record { at = place_of l.between; what = entry q.what q.now })
      = comes k old g.waits.waits calm (kept.fits calm) kept.right g.waits.times (place_of l.between) q.now le q.what q.poll tunnels in
      let d : Comes l.known l.answer old g.waits.waits (record { at = place_of l.between; what = entry q.what q.now })
      = subst (λ (n : Known). Comes n l.answer old g.waits.waits (record { at = place_of l.between; what = entry q.what q.now })) (sym q.known)
      (subst (λ (a : Answer). Comes (after_item k q.what q.now) a old g.waits.waits (record { at = place_of l.between; what = entry q.what q.now })) (sym q.is) c) in
      let told : (places_in l.between ≡ Some (record { at = place_of l.between; what = entry q.what q.now } ∷ (g.waits.waits ++ old))) = subst (λ (m : List Placed). places_in l.between ≡ Some (record { at = place_of l.between; what = entry q.what q.now } ∷ m)) g.waits.all g.told in
      by_answer result wait new before l.between after old g.waits.waits legal l.known l.answer (record { at = place_of l.between; what = entry q.what q.now }) q.poll g.waits.times (let h = newest_last old g.waits.waits in let e = waits_in_time (clock_of before) q.what wait (newest_time (entries old)) q.now (entries g.waits.waits) g.ends g.waits.later in omega (arith, h, e)) (exact_in_time (clock_of before) q.what wait (newest_time (entries old)) q.now (entries g.waits.waits) g.ends) (running_at_once (clock_of before) q.what wait (newest_time (entries old)) q.now g.waits.waits g.ends) d told (g.up, g.waits.above) (omega arith, g.waits.upto) (let h = g.up in omega arith)
      l.answer.sends d.answers.so d.answers.tells l.gives l.answers

  unpolled : (u : Unpolled result wait k new before after) (old : List Placed) → places_in before ≡ Some old → PollOf result wait new before after old
  unpolled u old p =
      let kept : IsKept k (entries old) = all.kept old p in
      let g : Failing wait before after old = fails_more wait before after old all.legal u.nothing p in
      let right : IsRight k (entries (g.waits.waits ++ old)) = waits_right k old g.waits.waits calm (kept.fits calm) g.waits.times kept.right in
      let told : (places_in after ≡ Some (g.waits.waits ++ old)) = g.told ∙ ap (λ (l : List Placed). Some l) g.waits.all in
      record {
        polling = record { rest = []; waits = g.waits.waits; parts = refl; once = NoPoll; times = g.waits.times; in_time = let h = newest_last old g.waits.waits in let e = g.waits.later in let i = g.in_time in omega arith; ends = λ exact. let h = newest_last old g.waits.waits in let e = g.waits.later in let i = g.in_time in omega arith; at_once = g.at_once };
        alone = waits_alone (newest_time (entries old)) old g.waits.waits g.waits.times;
        is = record { new = g.waits.waits ++ old; told = told; is = rw u.fails.known (failed_kept k (entries (g.waits.waits ++ old)) u.fault u.fails.by_link right) };
        grows = record {
          new = g.waits.waits ++ old;
          told = told;
          added = g.waits.waits;
          grown = added_of (place_of before) (place_of after) old g.waits.waits g.waits.above g.waits.upto;
          is = subst (λ (x : Result Came HubFault). PollAdds x old g.waits.waits) (sym u.answer) (waited_fails k old g.waits.waits (waits_all k old g.waits.waits (kept.fits calm) g.waits.times));
        };
      }

  pub of_places : ListensSo result wait k new before after → (old : List Placed) → places_in before ≡ Some old → PollOf result wait new before after old
  of_places (inl l) old p = listening l old p
  of_places (inr u) old p = unpolled u old p

  pub poll_keeps : ListensSo result wait k new before after → KeepsAll new after
  poll_keeps l = record {
    legal = (listens_go result wait k new before after l).keeps all.legal;
    kept = where_after (λ places. IsKept new (entries places)) before after (listens_go result wait k new before after l).on (λ old p. (of_places l old p).is);
  }

  pub poll_adds : ListensSo result wait k new before after → Growing (PollAdds result) before after
  poll_adds l old p = (of_places l old p).grows
