-- How long a poll lasts, by what it adds.
use Rattle.std.proofs.Common.{◌≡◌, inl, inr, ℕ, ◌+◌, ◌<◌, ◌≤◌, List, [], ◌∷◌, ◌++◌, Option, Some, None, Result, Ok, Err, refl, sym, subst, ap, ◌∙◌, arith}
use Rattle.std.specs.Prelude.{IfSome, OnOk, min}
use Rattle.line_model.specs.declared.fault.HubFault.{HubFault}
use Rattle.line_model.specs.Record.{Put, entry, Placed, entries}
use Rattle.line_model.specs.LinkStory.{Story, clock_of, places_in, newest_time, IsTime}
use Rattle.line_model.specs.Waiting.{PollEnds}
use Rattle.tunnel_link.specs.declared.came.Came.{Came}
use Rattle.tunnel_link.specs.declared.known.Known.{Known}
use Rattle.tunnel_link.specs.Goes.{Keeps, KeepsAll}
use Rattle.tunnel_link.specs.Kept.{next_due}
use Rattle.tunnel_link.specs.Adds.{place_of, Added, Grows, Growing, HasActed}
use Rattle.tunnel_link.specs.Calls.{Polled, AnswersSo, Listening, ListensSo}
use Rattle.tunnel_link.specs.Lasts.{PollsFor, LastsRightly}
use Rattle.knx_model.specs.Connection.{last_time}
use Rattle.tunnel_link.proofs.CallsKept.{time_is}
use Rattle.tunnel_link.proofs.Growth.{Polling, polls_more, sends_it, adds_more, upto_more}
use Rattle.tunnel_link.proofs.Nearest.{lasts_until}
use Rattle.tunnel_link.proofs.Places.{added_of, one_sent}
use Rattle.tunnel_link.proofs.Polls.{newest_last}
use Rattle.tunnel_link.proofs.Stories.{polls_goes}

isnt_err : (came : Came) (fault : HubFault) (result : Result Came HubFault) → result ≡ Ok came → result ≡ Err fault → ⊥
isnt_err came fault result is fails = let isnt : Ok came ≡ Err fault = sym is ∙ fails in cc

module _ (result : Result Came HubFault) (came : Came) (is : result ≡ Ok came) (wait : ℕ) (k new : Known) (before after : Story) (legal : Keeps before) (old : List Placed) (told : places_in before ≡ Some old) where
  abbrev Lasted : Type 0
  Lasted = Grows (PollsFor (clock_of before) wait) (place_of before) (place_of after) old after

  listening : Listening result wait k new before after → Lasted
  listening l = by_answer l.answer.sends l.answers
    where
      q : Polled l.answer wait k l.known before l.between
      q = l.polled

      g : Polling q.what wait q.now before l.between old
      g = polls_more q.what wait q.now before l.between old q.poll legal q.polls q.time told

      ws : List Placed
      ws = g.waits.waits

      last : Placed
      last = record { at = place_of l.between; what = entry q.what q.now }

      between_is : places_in l.between ≡ Some (last ∷ (ws ++ old))
      between_is = subst (λ (m : List Placed). places_in l.between ≡ Some (last ∷ m)) g.waits.all g.told

      later : newest_time (entries (ws ++ old)) ≤ q.now
      later = let h = newest_last old ws in let e = g.waits.later in omega (arith, h, e)

      up : place_of before < place_of l.between
      up = g.up

      by_answer : (sends : Option (List ℕ)) → AnswersSo result sends l.known new l.between after → Lasted
      by_answer None u = record {
        new = last ∷ (ws ++ old);
        told = ap places_in u.story ∙ between_is;
        added = last ∷ ws;
        grown = subst (λ (z : Story). Added (place_of before) (place_of z) old (last ∷ ws) (last ∷ (ws ++ old))) (sym u.story) (added_of (place_of before) (place_of l.between) old (last ∷ ws) (up, g.waits.above) (omega arith, g.waits.upto));
        is = record { waits = ws; last = last; sent = []; parts = refl; times = g.waits.times; later = later; polls = q.poll; ends = g.ends; sends = refl };
      }
      by_answer (Some octets) (inl s) =
          let m = adds_more (Put octets) _ (sends_it octets) l.between after (last ∷ (ws ++ old)) ((polls_goes q.what wait q.now before l.between q.poll q.polls).keeps legal) s.story between_is in
          let answer : Placed = one_sent octets (place_of after) (last ∷ (ws ++ old)) in
          record {
            new = one_sent octets (place_of after) (last ∷ (ws ++ old)) ∷ last ∷ (ws ++ old);
            told = m.told;
            added = one_sent octets (place_of after) (last ∷ (ws ++ old)) ∷ last ∷ ws;
            grown = added_of (place_of before) (place_of after) old (one_sent octets (place_of after) (last ∷ (ws ++ old)) ∷ last ∷ ws) ((let h = m.up in let u = up in omega (arith, h, u)), (up, g.waits.above))
                (omega arith, upto_more (place_of l.between) (place_of after) (last ∷ ws) (let h = m.up in omega (arith, h)) (omega arith, g.waits.upto));
            is = record { waits = ws; last = last; sent = one_sent octets (place_of after) (last ∷ (ws ++ old)) ∷ []; parts = refl; times = g.waits.times; later = later; polls = q.poll; ends = g.ends; sends = refl };
          }
      by_answer (Some octets) (inr f) = absurd (isnt_err came f.fault result is f.answer)

  pub lasted : ListensSo result wait k new before after → Lasted
  lasted (inl l) = listening l
  lasted (inr u) = absurd (isnt_err came u.fault result is u.answer)

-- the whole of a poll that nothing is late for
pub poll_lasts : (result : Result Came HubFault) (longest wait now : ℕ) (k new : Known) (before after : Story) → KeepsAll k before → k.fault ≡ None → ListensSo result wait k new before after → IsTime now before → wait ≤ min longest 100
    → IfSome (next_due k) (λ time. now < time → now + wait ≤ time) → now + wait ≤ last_time → PollEnds (min longest 100) (λ time. next_due k ≡ Some time) now wait → HasActed k before → OnOk result (Growing (LastsRightly (clock_of before) longest) before after)
poll_lasts (Err fault) longest wait now k new before after all calm l t most in_time in_range ends acted = tt
poll_lasts (Ok came) longest wait now k new before after all calm l t most in_time in_range ends acted = λ old told.
    let x : Grows (PollsFor (clock_of before) wait) (place_of before) (place_of after) old after = lasted (Ok came) came refl wait k new before after all.legal old told l in
    let same : (now ≡ newest_time (entries old)) = time_is now before old all.legal t told in
    record {
      new = x.new;
      told = x.told;
      added = x.added;
      grown = x.grown;
      is = record {
        wait = wait;
        until = lasts_until (min longest 100) k (entries old) wait ((all.kept old told).fits calm) (acted calm old told) most (subst (λ (n : ℕ). IfSome (next_due k) (λ time. n < time → n + wait ≤ time)) same in_time)
            (subst (λ (n : ℕ). n + wait ≤ last_time) same in_range) (subst (λ (n : ℕ). PollEnds (min longest 100) (λ time. next_due k ≡ Some time) n wait) same ends);
        polls = x.is;
      };
    }
