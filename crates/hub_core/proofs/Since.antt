-- How a hub goes on by one call, and by two.
use Rattle.std.proofs.Common.{◌≡◌, ℕ, Bool, Option, Some, None, Result, Ok, Err, IfErr, OnOk, refl, sym, ap, subst, ◌∙◌}
use Rattle.line_model.specs.declared.fault.HubFault.{HubFault}
use Rattle.line_model.specs.declared.fault.HubFault.TheVariants.{NoMemory, LinkFailed, GatewayRefused, Flooded, WrongLine}
use Rattle.line_model.specs.declared.outside.fault_counts.FaultCounts.{FaultCounts}
use Rattle.line_model.specs.Lines.{Script}
use Rattle.line_model.specs.LinkStory.{Story}
use Rattle.line_model.specs.Polled.{after_fault}
use Rattle.tunnel_link.specs.Goes.{GoesOn}
use Rattle.tunnel_link.specs.Rights.{after_result}
use Rattle.tunnel_link.proofs.Stories.{goes_again, stays}
use Rattle.tunnel_link.specs.declared.came.What.{What}
use Rattle.hub_work.specs.declared.work.Work.{Work}
use Rattle.hub_core.specs.Seen.{Seen, SameRun}
use Rattle.hub_core.specs.Since.{Since}
use Rattle.hub_core.specs.Taking.{EndsSo}

-- ---- a call of the hub

-- of one that had no fault
unfailed : (fault : Option HubFault) (now before : FaultCounts) → fault ≡ None → now ≡ after_fault fault before → now ≡ before
unfailed fault now before none was = subst (λ (f : Option HubFault). now ≡ after_fault f before) none was

by_result : {X : Type 0} (result : Result X HubFault) (fault : Option HubFault) (old new before : FaultCounts) → old ≡ before → new ≡ after_result result old → OnOk result (fault ≡ None) → IfErr result (λ why. fault ≡ Some why) → new ≡ after_fault fault before
by_result (Ok x) fault old new before was counts stands tells = subst (λ (f : Option HubFault). new ≡ after_fault f before) (sym stands) (counts ∙ was)
by_result (Err why) fault old new before was counts stands tells = subst (λ (f : Option HubFault). new ≡ after_fault f before) (sym tells) (counts ∙ ap (after_fault (Some why)) was)

-- a poll ends no run for a failure of the link, or its want of memory
pub own_counts : (w : Work) (met after : Bool) (what : What) (taken : ℕ) (why : HubFault) (counts : FaultCounts) → EndsSo w met after what taken (Some why) → counts ≡ after_fault (Some why) counts
own_counts w met after what taken (NoMemory want) counts h = absurd h
own_counts w met after what taken LinkFailed counts h = absurd h
own_counts w met after what taken (GatewayRefused three) counts h = refl
own_counts w met after what taken Flooded counts h = refl
own_counts w met after what taken (WrongLine device tunnel) counts h = refl

-- ---- how it goes on

module _ {L : Type 0} {story_of : L → Story} {script_of : L → Script} {faults_of : L → FaultCounts} where
  -- a call of a hub that had no fault
  pub call_since : {X : Type 0} (result : Result X HubFault) {old new : Seen L} → old.fault ≡ None → GoesOn (story_of old.link) (story_of new.link) → script_of new.link ≡ script_of old.link → SameRun old new
      → faults_of new.link ≡ after_result result (faults_of old.link) → OnOk result (new.fault ≡ None) → IfErr result (λ why. new.fault ≡ Some why) → Since story_of script_of faults_of old new
  call_since result {old = old} {new = new} none grows script run counts stands tells = record {
    grows = grows;
    script = script;
    run = run;
    counts = λ before was. by_result result new.fault (faults_of old.link) (faults_of new.link) before (unfailed old.fault (faults_of old.link) before none was) counts stands tells;
  }

  -- one after which the hub has a fault that isn't its answer's
  pub ended_since : {old new : Seen L} (why : HubFault) → old.fault ≡ None → GoesOn (story_of old.link) (story_of new.link) → script_of new.link ≡ script_of old.link → SameRun old new
      → faults_of new.link ≡ after_fault (Some why) (faults_of old.link) → new.fault ≡ Some why → Since story_of script_of faults_of old new
  ended_since {old = old} {new = new} why none grows script run counts ended = record {
    grows = grows;
    script = script;
    run = run;
    counts = λ before was. subst (λ (f : Option HubFault). faults_of new.link ≡ after_fault f before) (sym ended) (counts ∙ ap (after_fault (Some why)) (unfailed old.fault (faults_of old.link) before none was));
  }

  -- one that does nothing on the link, and gives no fault
  pub still_since : {old new : Seen L} → new.link ≡ old.link → new.fault ≡ old.fault → SameRun old new → Since story_of script_of faults_of old new
  still_since {old = old} {new = new} link fault run = record {
    grows = subst (λ (l : L). GoesOn (story_of old.link) (story_of l)) (sym link) (stays (story_of old.link) (story_of old.link) refl).on;
    script = ap script_of link;
    run = run;
    counts = λ before was. subst (λ (f : Option HubFault). faults_of new.link ≡ after_fault f before) (sym fault) (ap faults_of link ∙ was);
  }

  pub since_again : {a b c : Seen L} → Since story_of script_of faults_of a b → Since story_of script_of faults_of b c → Since story_of script_of faults_of a c
  since_again {a = a} {b = b} {c = c} first then = record {
    grows = goes_again (story_of a.link) (story_of b.link) (story_of c.link) first.grows then.grows;
    script = then.script ∙ first.script;
    run = record { tasks = then.run.tasks ∙ first.run.tasks; devices = then.run.devices ∙ first.run.devices; turns = then.run.turns ∙ first.run.turns; workers = then.run.workers ∙ first.run.workers; missed = then.run.missed ∙ first.run.missed };
    counts = λ before was. then.counts before (first.counts before was);
  }

  pub since_itself : {a : Seen L} → Since story_of script_of faults_of a a
  since_itself {a = a} = record {
    grows = (stays (story_of a.link) (story_of a.link) refl).on;
    script = refl;
    run = record { tasks = refl; devices = refl; turns = refl; workers = refl; missed = refl };
    counts = λ before was. was;
  }
