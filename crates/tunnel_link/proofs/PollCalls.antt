-- A poll over a link: what it adds to the places, and that what is kept of the record is kept.
use Rattle.std.proofs.Common.{◌≡◌, inl, inr, ℕ, ◌+◌, ◌≤◌, List, [], ◌∷◌, ◌++◌, Bool, true, false, Option, Some, None, Result, Ok, Err, IfOk, refl, sym, subst, ap, ◌∙◌, arith}
use Rattle.std.specs.Prelude.{◌||◌}
use Rattle.line_model.specs.declared.fault.HubFault.{HubFault}
use Rattle.line_model.specs.Record.{Put, entry, is_poll, Placed, entries}
use Rattle.line_model.specs.LinkStory.{Story, Exact, Running, clock_of, places_in, newest_time, AreWaits, SendsOrNot}
use Rattle.line_model.specs.ClientView.{channel, Puts, Takes, Loses, Nothing, deed}
use Rattle.line_model.specs.Moments.{Moment}
use Rattle.line_model.specs.Signs.{Every}
use Rattle.tunnel_link.specs.declared.came.Answer.{Answer}
use Rattle.tunnel_link.specs.declared.came.Came.{Came}
use Rattle.tunnel_link.specs.declared.came.Loss.{Loss}
use Rattle.tunnel_link.specs.declared.came.Loss.TheVariants as loss
use Rattle.tunnel_link.specs.declared.came.What.{What}
use Rattle.tunnel_link.specs.declared.came.What.TheVariants as came
use Rattle.tunnel_link.specs.declared.known.Known.{Known}
use Rattle.tunnel_link.specs.Goes.{Keeps}
use Rattle.tunnel_link.specs.Rights.{IsRight, IsKept}
use Rattle.tunnel_link.specs.Adds.{place_of, Grows, IsNothing, PutsNone, One, AtMostOne, Fails, DoesSo, OrLoses, PollAdds, moments_on, is_told}
use Rattle.tunnel_link.specs.Alone.{Each, LeavesAlone}
use Rattle.tunnel_link.specs.Calls.{AnswersSo, is_there}
use Rattle.tunnel_link.specs.Paces.{Polls, PollsAndSends}
use Rattle.tunnel_link.proofs.Alone.{is_alone, waits_alone, answer_alone}
use Rattle.tunnel_link.proofs.Growth.{IsAbove, IsUpto, upto_more, quiet_places, sends_it, adds_more}
use Rattle.tunnel_link.proofs.MaySend.{sent_right, sent_kept, failed_kept}
use Rattle.tunnel_link.proofs.Places.{added_of, After, one_sent}
use Rattle.tunnel_link.proofs.Waited.{Waited, InTime, Lapsed, Unheard, IsLoss}
use Rattle.tunnel_link.proofs.Lapses.{Outcome, asks_to_leave}
use Rattle.tunnel_link.proofs.PollEnds.{Comes}
use Rattle.tunnel_link.proofs.PollParts.{IsPolling}

-- ---- nothing is put

nothing_puts : (l : List Moment) → Every IsNothing l → Every PutsNone l
nothing_puts [] a = tt
nothing_puts (m ∷ l) a = ((λ octets h. absurd (let e : (Nothing ≡ Puts octets) = sym a.0 ∙ h in cc)), nothing_puts l a.1)

every_append : (P : Moment → Type 0) (a : List Moment) (m : Moment) (b : List Moment) → Every P a → P m → Every P b → Every P (a ++ m ∷ b)
every_append P [] m b x y z = (y, z)
every_append P (n ∷ a) m b x y z = (x.0, every_append P a m b x.1 y z)

one_puts : (P : Moment → Type 0) (l : List Moment) → ((m : Moment) → P m → PutsNone m) → One P l → Every PutsNone l
one_puts P l h o = subst (λ (x : List Moment). Every PutsNone x) (sym o.all) (every_append PutsNone o.newer o.m o.older (nothing_puts o.newer o.newer_nothing) (h o.m o.is) (nothing_puts o.older o.older_nothing))

loses_puts : (loss : Loss) (l : List Moment) → OrLoses loss l → Every PutsNone l
loses_puts loss.Stays l o = nothing_puts l o
loses_puts loss.Ended l o = one_puts _ l (λ m h octets p. absurd (let e : (Loses ≡ Puts octets) = sym h ∙ p in cc)) o
loses_puts loss.Told l o = one_puts _ l (λ m h octets p. absurd (let e : (Loses ≡ Puts octets) = sym h ∙ p in cc)) o

does_puts : (what : What) (loss : Loss) (now : ℕ) (l : List Moment) → DoesSo what loss now l → Every PutsNone l
does_puts came.Quiet loss now l d = loses_puts loss l d
does_puts came.Dropped loss now l (inl d) = loses_puts loss l d
does_puts came.Dropped loss now l (inr d) = one_puts _ l (λ m h octets p. absurd (let e : (Takes h.octets ≡ Puts octets) = sym h.takes ∙ p in cc)) d.0
does_puts came.Tunnel loss now l d = loses_puts loss l d
does_puts (came.Up tunnel) loss now l d = loses_puts loss l d.0
does_puts (came.Frame frame) loss now l d = one_puts _ l (λ m h octets p. absurd (let e : (Takes h.octets ≡ Puts octets) = sym h.takes ∙ p in cc)) d.0

-- ---- and one thing at most is taken or lost

that_one : (P : Moment → Type 0) (l : List Moment) → ((m : Moment) → P m → PutsNone m) → One P l → One PutsNone l
that_one P l h o = record { newer = o.newer; m = o.m; older = o.older; all = o.all; is = h o.m o.is; newer_nothing = o.newer_nothing; older_nothing = o.older_nothing }

loss_puts : (m : Moment) → m.what ≡ Loses → PutsNone m
loss_puts m h octets p = absurd (let e : (Loses ≡ Puts octets) = sym h ∙ p in cc)

take_puts : (m : Moment) (taken : List ℕ) → m.what ≡ Takes taken → PutsNone m
take_puts m taken h octets p = absurd (let e : (Takes taken ≡ Puts octets) = sym h ∙ p in cc)

one_loss : (loss : Loss) (l : List Moment) → OrLoses loss l → AtMostOne l
one_loss loss.Stays l o = inl o
one_loss loss.Ended l o = inr (that_one _ l loss_puts o)
one_loss loss.Told l o = inr (that_one _ l loss_puts o)

at_most_one : (what : What) (loss : Loss) (now : ℕ) (l : List Moment) → DoesSo what loss now l → AtMostOne l
at_most_one came.Quiet loss now l d = one_loss loss l d
at_most_one came.Dropped loss now l (inl d) = one_loss loss l d
at_most_one came.Dropped loss now l (inr d) = inr (that_one _ l (λ m h. take_puts m h.octets h.takes) d.0)
at_most_one came.Tunnel loss now l d = one_loss loss l d
at_most_one (came.Up tunnel) loss now l d = one_loss loss l d.0
at_most_one (came.Frame frame) loss now l d = inr (that_one _ l (λ m h. take_puts m h.octets h.takes) d.0)

fails_so : (what : What) (loss : Loss) (now : ℕ) (old added : List Placed) → DoesSo what loss now (moments_on old added) → Fails old added
fails_so what loss now old added d = record { puts_none = does_puts what loss now (moments_on old added) d; at_most_one = at_most_one what loss now (moments_on old added) d }

-- nothing more at a moment at which nothing is done
one_still : (m : Moment) (l : List Moment) → IsNothing m → AtMostOne l → AtMostOne (m ∷ l)
one_still m l n (inl a) = inl (n, a)
one_still m l n (inr o) = inr (record { newer = m ∷ o.newer; m = o.m; older = o.older; all = ap (λ (x : List Moment). m ∷ x) o.all; is = o.is; newer_nothing = (n, o.newer_nothing); older_nothing = o.older_nothing })

pub waited_fails : (k : Known) (old ws : List Placed) → Waited k old ws → Fails old ws
waited_fails k old ws (InTime f a) = record { puts_none = nothing_puts (moments_on old ws) a; at_most_one = inl a }
waited_fails k old ws (Lapsed h one) = record { puts_none = one_puts IsLoss (moments_on old ws) loss_puts one; at_most_one = inr (that_one IsLoss (moments_on old ws) loss_puts one) }
waited_fails k old ws (Unheard h a) = record { puts_none = nothing_puts (moments_on old ws) a; at_most_one = inl a }

-- ---- a sending after it is nothing

one_more : (P : Moment → Type 0) (m : Moment) (l : List Moment) → IsNothing m → One P l → One P (m ∷ l)
one_more P m l n o = record { newer = m ∷ o.newer; m = o.m; older = o.older; all = ap (λ (x : List Moment). m ∷ x) o.all; is = o.is; newer_nothing = (n, o.newer_nothing); older_nothing = o.older_nothing }

loses_more : (loss : Loss) (m : Moment) (l : List Moment) → IsNothing m → OrLoses loss l → OrLoses loss (m ∷ l)
loses_more loss.Stays m l n o = (n, o)
loses_more loss.Ended m l n o = one_more _ m l n o
loses_more loss.Told m l n o = one_more _ m l n o

does_more : (what : What) (loss : Loss) (now : ℕ) (m : Moment) (l : List Moment) → IsNothing m → DoesSo what loss now l → DoesSo what loss now (m ∷ l)
does_more came.Quiet loss now m l n d = loses_more loss m l n d
does_more came.Dropped loss now m l n (inl d) = inl (loses_more loss m l n d)
does_more came.Dropped loss now m l n (inr d) = inr (one_more _ m l n d.0, d.1)
does_more came.Tunnel loss now m l n d = loses_more loss m l n d
does_more (came.Up tunnel) loss now m l n d = (loses_more loss m l n d.0, d.1)
does_more (came.Frame frame) loss now m l n d = (one_more _ m l n d.0, d.1)

or_false : (a : Bool) → (a || false) ≡ a
or_false true = refl
or_false false = refl

-- ---- what it adds

module _ (result : Result Came HubFault) (next : Known) (a : Answer) (old ws : List Placed) (p : Placed) (poll : is_poll p.what.what ≡ true) (times : AreWaits (newest_time (entries old)) (entries ws)) (c : Comes next a old ws p) where
  adds_none : (r : Result Came HubFault) → IfOk r (λ (x : Came). x ≡ record { what = a.what; loss = a.loss; sent = false }) → asks_to_leave None ≡ is_told a.loss → PollAdds r old (p ∷ ws)
  adds_none (Ok x) g tells = rw g (record {
    waits = ws;
    last = p;
    sent = [];
    parts = refl;
    quiet = quiet_places (newest_time (entries old)) ws times;
    at_end = refl;
    polls = poll;
    got = c.got;
    sends = refl;
    tells = tells;
    answered = refl;
    does = c.answers.does;
  })
  adds_none (Err fault) g tells = fails_so a.what a.loss _ old (p ∷ ws) c.answers.does

  adds_one : (r : Result Came HubFault) (octets : List ℕ) (at : ℕ) → IfOk r (λ (x : Came). x ≡ record { what = a.what; loss = a.loss; sent = true }) → asks_to_leave (Some octets) ≡ is_told a.loss → deed (channel (entries ((p ∷ ws) ++ old))) (entry (Put octets) p.what.now) ≡ Nothing
      → PollAdds r old (record { at = at; what = entry (Put octets) p.what.now } ∷ p ∷ ws)
  adds_one (Ok x) octets at g tells n = rw g (record {
    waits = ws;
    last = p;
    sent = record { at = at; what = entry (Put octets) p.what.now } ∷ [];
    parts = refl;
    quiet = quiet_places (newest_time (entries old)) ws times;
    at_end = refl;
    polls = poll;
    got = c.got;
    sends = refl;
    tells = or_false _ ∙ tells;
    answered = refl;
    does = does_more a.what a.loss _ _ (moments_on old (p ∷ ws)) n c.answers.does;
  })
  adds_one (Err fault) octets at g tells n = record {
    puts_none = ((λ o h. absurd (let e : (Nothing ≡ Puts o) = sym n ∙ h in cc)), does_puts a.what a.loss _ (moments_on old (p ∷ ws)) c.answers.does);
    at_most_one = one_still _ (moments_on old (p ∷ ws)) n (at_most_one a.what a.loss _ (moments_on old (p ∷ ws)) c.answers.does);
  }

-- ---- after it

-- of old places
pub record PollOf (result : Result Came HubFault) (wait : ℕ) (new : Known) (before after : Story) (old : List Placed) : Type 0 where
  pub is : After (λ places. IsKept new (entries places)) after
  pub grows : Grows (PollAdds result) (place_of before) (place_of after) old after
  pub polling : IsPolling (clock_of before) wait old grows.added
  pub alone : Each LeavesAlone old grows.added

module _ (result : Result Came HubFault) (wait : ℕ) (new : Known) (before between after : Story) (old ws : List Placed) (legal : Keeps between) (next : Known) (a : Answer) (p : Placed) (poll : is_poll p.what.what ≡ true)
    (times : AreWaits (newest_time (entries old)) (entries ws)) (in_time : newest_time (entries (ws ++ old)) ≤ newest_time (entries old) + wait) (ends : clock_of before ≡ Exact → p.what.now ≤ newest_time (entries old) + wait) (at_once : clock_of before ≡ Running → ws ≡ []) (c : Comes next a old ws p) (told : places_in between ≡ Some (p ∷ (ws ++ old))) (above : IsAbove (place_of before) (p ∷ ws)) (upto : IsUpto (place_of between) (p ∷ ws)) (up : place_of before ≤ place_of between) where
  polls_alone : Each LeavesAlone old (p ∷ ws)
  polls_alone = (is_alone (entries (ws ++ old)) p.what poll, waits_alone (newest_time (entries old)) old ws times)

  pub by_answer : (sends : Option (List ℕ)) → Outcome next sends (entries ((p ∷ ws) ++ old)) → asks_to_leave sends ≡ is_told a.loss → IfOk result (λ (x : Came). x ≡ record { what = a.what; loss = a.loss; sent = is_there sends }) → AnswersSo result sends next new between after
      → PollOf result wait new before after old
  by_answer None kept tells gives u = record {
    polling = record { rest = p ∷ []; waits = ws; parts = refl; once = Polls p; times = times; in_time = in_time; ends = ends; at_once = at_once };
    alone = polls_alone;
    is = record { new = p ∷ (ws ++ old); told = ap places_in u.story ∙ told; is = rw u.known kept };
    grows = record {
      new = p ∷ (ws ++ old);
      told = ap places_in u.story ∙ told;
      added = p ∷ ws;
      grown = rw u.story (added_of (place_of before) (place_of between) old (p ∷ ws) above upto);
      is = adds_none result next a old ws p poll times c result gives tells;
    };
  }
  by_answer (Some octets) may tells gives (inl s) =
      let m = adds_more (Put octets) _ (sends_it octets) between after (p ∷ (ws ++ old)) legal s.story told in record {
        polling = record { rest = one_sent octets (place_of after) (p ∷ (ws ++ old)) ∷ p ∷ []; waits = ws; parts = refl; once = PollsAndSends (one_sent octets (place_of after) (p ∷ (ws ++ old))) p refl; times = times; in_time = in_time; ends = ends; at_once = at_once };
        alone = (answer_alone a.what a.loss (newest_time (entries old)) (newest_time (entries ((p ∷ ws) ++ old))) old ws p octets poll times tells c.answers.does may.renews, polls_alone);
        is = record { new = one_sent octets (place_of after) (p ∷ (ws ++ old)) ∷ p ∷ (ws ++ old); told = m.told; is = rw s.known (sent_kept next octets Nothing (entries ((p ∷ ws) ++ old)) may) };
        grows = record {
          new = one_sent octets (place_of after) (p ∷ (ws ++ old)) ∷ p ∷ (ws ++ old);
          told = m.told;
          added = one_sent octets (place_of after) (p ∷ (ws ++ old)) ∷ p ∷ ws;
          grown = added_of (place_of before) (place_of after) old (one_sent octets (place_of after) (p ∷ (ws ++ old)) ∷ p ∷ ws) ((let h = m.up in omega arith), above) (omega arith, upto_more (place_of between) (place_of after) (p ∷ ws) (let h = m.up in omega arith) upto);
          is = adds_one result next a old ws p poll times c result octets (place_of after) gives tells may.did;
        };
      }
  by_answer (Some octets) may tells gives (inr (f)) = failed f.story
    where
      bad : IsRight next (entries ((p ∷ ws) ++ old)) → IsKept new (entries ((p ∷ ws) ++ old))
      bad right = rw f.fails.known (failed_kept next (entries ((p ∷ ws) ++ old)) f.fault f.fails.by_link right)

      err_gives : (x : Result Came HubFault) (sent : Bool) → x ≡ Err f.fault → IfOk x (λ (y : Came). y ≡ record { what = a.what; loss = a.loss; sent = sent })
      err_gives (Ok y) sent h = absurd (cc)
      err_gives (Err e) sent h = tt

      failed : SendsOrNot octets between after → PollOf result wait new before after old
      failed (inl s) =
          let m = adds_more (Put octets) _ (sends_it octets) between after (p ∷ (ws ++ old)) legal s told in record {
            polling = record { rest = one_sent octets (place_of after) (p ∷ (ws ++ old)) ∷ p ∷ []; waits = ws; parts = refl; once = PollsAndSends (one_sent octets (place_of after) (p ∷ (ws ++ old))) p refl; times = times; in_time = in_time; ends = ends; at_once = at_once };
            alone = (answer_alone a.what a.loss (newest_time (entries old)) (newest_time (entries ((p ∷ ws) ++ old))) old ws p octets poll times tells c.answers.does may.renews, polls_alone);
            is = record { new = one_sent octets (place_of after) (p ∷ (ws ++ old)) ∷ p ∷ (ws ++ old); told = m.told; is = rw f.fails.known (failed_kept next _ f.fault f.fails.by_link (sent_right next octets Nothing (entries ((p ∷ ws) ++ old)) may)) };
            grows = record {
              new = one_sent octets (place_of after) (p ∷ (ws ++ old)) ∷ p ∷ (ws ++ old);
              told = m.told;
              added = one_sent octets (place_of after) (p ∷ (ws ++ old)) ∷ p ∷ ws;
              grown = added_of (place_of before) (place_of after) old (one_sent octets (place_of after) (p ∷ (ws ++ old)) ∷ p ∷ ws) ((let h = m.up in omega arith), above) (omega arith, upto_more (place_of between) (place_of after) (p ∷ ws) (let h = m.up in omega arith) upto);
              is = adds_one result next a old ws p poll times c result octets (place_of after) (err_gives result true f.answer) tells may.did;
            };
          }
      failed (inr e) = record {
        polling = record { rest = p ∷ []; waits = ws; parts = refl; once = Polls p; times = times; in_time = in_time; ends = ends; at_once = at_once };
        alone = polls_alone;
        is = record { new = p ∷ (ws ++ old); told = ap places_in e ∙ told; is = bad may.right };
        grows = record {
          new = p ∷ (ws ++ old);
          told = ap places_in e ∙ told;
          added = p ∷ ws;
          grown = rw e (added_of (place_of before) (place_of between) old (p ∷ ws) above upto);
          is = subst (λ (x : Result Came HubFault). PollAdds x old (p ∷ ws)) (sym f.answer) (fails_so a.what a.loss _ old (p ∷ ws) c.answers.does);
        };
      }
