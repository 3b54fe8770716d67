-- A call's step from the places before it to those after it.
use Rattle.std.proofs.Common.{◌≡◌, ℕ, suc, ◌<◌, ◌≤◌, List, ◌++◌, true, false, Some, None, refl, sym, ◌∙◌, ap, subst, arith}
use Rattle.std.specs.List.{list_any}
use Rattle.knx_model.specs.declared.address.IndAddr.{IndAddr}
use Rattle.line_model.specs.Record.{Placed, placed, counted, entries, is_poll}
use Rattle.line_model.specs.Leaves.{StaysOpen}
use Rattle.line_model.specs.LinkStory.{Story, Clock, Untold, Recorded, Full, Exact, clock_of, newest_time, places_in}
use Rattle.line_model.specs.Faults.{datagrams_taken, flood}
use Rattle.line_model.specs.Moments.{Moment, moments}
use Rattle.tunnel_link.specs.declared.came.Came.{Came}
use Rattle.tunnel_link.specs.declared.came.Loss.{Loss}
use Rattle.tunnel_link.specs.declared.came.Loss.TheVariants.{Stays}
use Rattle.tunnel_link.specs.Adds.{Growing, moments_on, AllNothing, Brings}
use Rattle.tunnel_link.specs.Goes.{GoesOn}
use Rattle.address_talk.specs.Rounds.{rounds, quiet_since, has_lost, GoOn, SameRounds}
use Rattle.address_talk.specs.Talk.{TalksRightly}
use Rattle.address_talk.specs.Pace.{Paced}
use Rattle.address_commission.specs.Listening.{HearsRounds, Hears, HearsWhat, Listens}
use Rattle.address_commission.specs.declared.ear.Ear.{Ear}
use Rattle.address_commission.proofs.Folds.{nothing_rounds, nothing_lost, nothing_puts, talks_on, NoGot, sends_no_got, quiet_no_got, quiet_on, count_on, poll_quiet, poll_count}
use Rattle.address_commission.proofs.Heard.{go_same, Hearing, poll_heard, poll_since}

pub some_is : {X : Type 0} (x y : X) → Some x ≡ Some y → x ≡ y
some_is x y e = cc

-- what tells places told them before
pub told_before : (s t : Story) (new : List Placed) → GoesOn s t → places_in t ≡ Some new → (old : List Placed) × (places_in s ≡ Some old)
told_before Untold t new g e = absurd (let z : None ≡ Some new = sym (ap places_in g) ∙ e in cc)
told_before (Recorded clock r) t new g e = (counted r, refl)
told_before (Full start events) t new g e = (placed start events, refl)

pub same_clock : (s t : Story) → GoesOn s t → clock_of t ≡ clock_of s
same_clock Untold t g = ap clock_of g
same_clock (Recorded clock r) t g = ap clock_of g.1
same_clock (Full start events) t g = ap clock_of g.1

-- these places come from those before by what was added, of which P holds
pub record Step (P : List Placed → List Placed → Type 0) (before after : Story) (new : List Placed) : Type 0 where
  pub old : List Placed
  pub told : places_in before ≡ Some old
  pub clock : clock_of after ≡ clock_of before
  pub added : List Placed
  pub grow : new ≡ added ++ old
  pub moments_grow : moments new ≡ moments_on old added ++ moments old
  pub is : P old added

pub step_of : (P : List Placed → List Placed → Type 0) (s t : Story) (new : List Placed) → GoesOn s t → Growing P s t → places_in t ≡ Some new → Step P s t new
step_of P s t new g h e =
    let b = told_before s t new g e in
    let r = h b.0 b.1 in
    let same : r.new ≡ new = some_is r.new new (sym r.told ∙ e) in
    record {
      old = b.0;
      told = b.1;
      clock = same_clock s t g;
      added = r.added;
      grow = sym same ∙ r.grown.grow;
      moments_grow = ap moments (sym same) ∙ r.grown.moments_grow;
      is = r.is;
    }

-- ---- nothing was put, taken or lost, and no datagram came

module _ (wanted : IndAddr) (e : Ear) (old added new : List Placed) (grow : new ≡ added ++ old) (more : moments new ≡ moments_on old added ++ moments old) where
  pub nothing_talks : AllNothing old added → TalksRightly wanted old → TalksRightly wanted new
  nothing_talks n t = subst (TalksRightly wanted) (sym grow) (talks_on wanted old added (nothing_puts (moments_on old added) n) t)

  pub nothing_same : AllNothing old added → SameRounds old new
  nothing_same n = subst (GoOn (rounds (moments old))) (sym (ap rounds more ∙ nothing_rounds (moments_on old added) (moments old) n)) (go_same (rounds (moments old)))

  pub nothing_listens : (clock : Clock) → AllNothing old added → list_any (λ (p : Placed). is_poll p.what.what) added ≡ false → StaysOpen (entries new) → (clock ≡ Exact → Paced wanted new) → Listens wanted e clock old → Listens wanted e clock new
  nothing_listens clock n q stays paced l =
      let none : NoGot added = sends_no_got added q in
      let same : rounds (moments new) ≡ rounds (moments old) = ap rounds more ∙ nothing_rounds (moments_on old added) (moments old) n in
      let count : datagrams_taken (entries new) ≡ datagrams_taken (entries old) = ap (λ (z : List Placed). datagrams_taken (entries z)) grow ∙ count_on added old none in
      let quiet : quiet_since (entries new) ≡ quiet_since (entries old) = ap (λ (z : List Placed). quiet_since (entries z)) grow ∙ quiet_on added old none in
      record {
        stands = record {
          rightly = nothing_talks n l.stands.rightly;
          kept = ap has_lost more ∙ nothing_lost (moments_on old added) (moments old) n ∙ l.stands.kept;
          few = subst (λ (z : ℕ). z < flood) (sym count) l.stands.few;
          stays_open = stays;
          paced = paced;
        };
        hears = record { rounds_so = subst (HearsRounds e) (sym same) l.hears.rounds_so; since = l.hears.since ∙ sym quiet };
      }

-- ---- a poll

-- what a poll leaves, where its channel stays or is lost
pub record Polled (wanted : IndAddr) (f : Ear) (loss : Loss) (old new : List Placed) : Type 0 where
  pub rightly : TalksRightly wanted new
  pub same : SameRounds old new
  pub hears : Hears f new
  pub stays : loss ≡ Stays → has_lost (moments new) ≡ false
  pub lost : (loss ≡ Stays → ⊥) → has_lost (moments new) ≡ true
  pub at_most : datagrams_taken (entries new) ≤ flood

pub poll_step : (wanted : IndAddr) (e f : Ear) (clock : Clock) (came : Came) (now : ℕ) (old added new : List Placed) → new ≡ added ++ old → moments new ≡ moments_on old added ++ moments old → Brings came old added → HearsWhat came.what now e f
    → now ≡ newest_time (entries new) → Listens wanted e clock old → Polled wanted f came.loss old new
poll_step wanted e f clock came now old added new grow more b w t l =
    let heard : Hearing f came.loss (moments_on old added) (moments old) = poll_heard e f came.what came.loss _ now (moments_on old added) (moments old) b.does w l.hears.rounds_so in
    let sent : NoGot b.sent = sends_no_got b.sent b.sends in
    let waits : NoGot b.waits = quiet_no_got b.waits b.quiet in
    let at : now ≡ b.last.what.now = t ∙ ap (λ (z : List Placed). newest_time (entries z)) grow ∙ sym b.at_end in
    let quiet : quiet_since (entries new) ≡ _ = ap (λ (z : List Placed). quiet_since (entries z)) (grow ∙ ap (λ (z : List Placed). z ++ old) b.parts) ∙ poll_quiet b.sent b.last b.waits old sent waits in
    let count : datagrams_taken (entries new) ≤ suc (datagrams_taken (entries old)) =
    subst (λ (z : List Placed). datagrams_taken (entries z) ≤ suc (datagrams_taken (entries old))) (sym (grow ∙ ap (λ (z : List Placed). z ++ old) b.parts)) (poll_count b.sent b.last b.waits old sent waits) in
    record {
      rightly = subst (TalksRightly wanted) (sym grow) (talks_on wanted old added heard.puts l.stands.rightly);
      same = subst (λ (z : List Moment). GoOn (rounds (moments old)) (rounds z)) (sym more) heard.goes;
      hears = record {
        rounds_so = subst (λ (z : List Moment). HearsRounds f (rounds z)) (sym more) heard.hears;
        since = poll_since e f came.what now (quiet_since (entries old)) (entries (b.waits ++ old)) b.last.what b.got w at l.hears.since ∙ sym quiet;
      };
      stays = λ s. ap has_lost more ∙ heard.stays s ∙ l.stands.kept;
      lost = λ s. ap has_lost more ∙ heard.lost s;
      at_most = omega (arith, count, l.stands.few);
    }

pub polled_listens : (wanted : IndAddr) (f : Ear) (clock : Clock) (loss : Loss) (old new : List Placed) → Polled wanted f loss old new → loss ≡ Stays → datagrams_taken (entries new) < flood → StaysOpen (entries new) → (clock ≡ Exact → Paced wanted new) → Listens wanted f clock new
polled_listens wanted f clock loss old new p s few stays paced = record { stands = record { rightly = p.rightly; kept = p.stays s; few = few; stays_open = stays; paced = paced }; hears = p.hears }
