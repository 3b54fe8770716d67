-- Valid input to `sim` whose run nothing disturbs is served, and its report told whole, or there was no memory.
use Rattle.std.proofs.Common.{◌≡◌, ◌<◌, ◌⊎◌, ℕ, Bool, true, false, cond, List, [], ◌∷◌, Option, Some, None, inl, inr, refl, sym, ap, subst, ◌∙◌, arith}
use Rattle.std.specs.List.{AllByRecursion}
use Rattle.call_words.specs.declared.job_word.JobWord.{JobWord}
use Rattle.call_words.specs.declared.status.Status.{Status}
use Rattle.call_words.specs.declared.status.Status.TheVariants as status
use Rattle.knx_model.specs.declared.address.IndAddr.{IndAddr}
use Rattle.knx_model.specs.Meaning.{Installation}
use Rattle.knx_model.specs.Outside.{SinkNow}
use Rattle.line_model.specs.declared.fault.HubFault.{HubFault}
use Rattle.line_model.specs.declared.fault.HubFault.TheVariants.{NoMemory, LinkFailed, GatewayRefused, Flooded, WrongLine}
use Rattle.line_model.specs.declared.log.Report.{Report}
use Rattle.line_model.specs.Faults.{flood}
use Rattle.line_model.specs.Log.{Job}
use Rattle.line_model.specs.StartOf.{is_on_bus}
use Rattle.report_text.specs.LineStatus.{has_failure, status_of}
use Rattle.knx_top.specs.Complete.{IsReportedWhole, IsRunServed, IsRunTold, IsWithinBounds, NothingDisturbs}
use Rattle.call_parts.specs.Jobs.{ArePlanned}
use Rattle.hub_core.specs.Commissioned.{log_of}
use Rattle.knx_top.specs.Ran.{Commission, Left, Ran}
use Rattle.knx_top.specs.Undisturbed.{EndsSo, IsUndisturbed}
use Rattle.call_parts.specs.declared.ending.End.TheVariants as ends

-- ---- the jobs are those that the words name

pub on_line : (new old : Installation) (jobs : List Job) (words : List JobWord) → ArePlanned new jobs words → AllByRecursion (λ (job : JobWord). is_on_bus new old job.device.raw ≡ true) words → AllByRecursion (λ (job : Job). is_on_bus new old job.device.raw ≡ true) jobs
on_line new old [] [] h on = tt
on_line new old [] (w ∷ ws) h on = absurd h
on_line new old (j ∷ js) [] h on = absurd h
on_line new old (j ∷ js) (w ∷ ws) h on = (subst (λ (d : IndAddr). is_on_bus new old d.raw ≡ true) (sym h.0.device) on.0, on_line new old js ws h.1 on.1)

-- ---- its status

plain : (failed : Bool) (ending : Status) → ending ≡ cond failed status.SomeFailed status.Done → (ending ≡ status.Done) ⊎ (ending ≡ status.SomeFailed)
plain true ending is = inr is
plain false ending is = inl is

never_more : (n : ℕ) → n ≡ flood → n < flood → ⊥
never_more n is few = let less : flood < flood = subst (λ (k : ℕ). k < flood) is few in omega (arith, less)

-- ---- all of it

module _ (c : Commission) (after : Left) (out out' : SinkNow) (ending : Status) (quiet : NothingDisturbs c) (within : IsWithinBounds c.turns after.line.run) where
  module _ (whole : IsReportedWhole (λ told. ends.Reports told) c after out out' ending) where
    abbrev report : Report
    report = whole.told.report

    ran : Ran c after.line.run report whole.told.jobs
    ran = whole.reported.ran

    undisturbed : IsUndisturbed c.project c.before c.script ran.jobs
    undisturbed = record { says = quiet.says; devices = on_line c.project c.before ran.jobs whole.told.jobs ran.planned (quiet.devices whole.told.jobs ran.words_are) }

    by_fault : (o : Option HubFault) → report.fault ≡ o → EndsSo ran.jobs c.turns after.line.run (log_of report) o → IsRunServed c after out out' ending
    by_fault None none served = inr (record {
      whole = whole;
      served = record { words = whole.told.jobs; are = ran.words_are; jobs = ran.jobs; planned = ran.planned; holds = served };
      passes = plain (has_failure report.log) ending (whole.status_is ∙ ap (λ (o : Option HubFault). status_of o report.log) none);
    })
    by_fault (Some (NoMemory want)) is served = inl (whole.status_is ∙ ap (λ (o : Option HubFault). status_of o report.log) is)
    by_fault (Some Flooded) is flooded = absurd (never_more _ flooded.1.count (within.unflooded flooded.0))
    by_fault (Some LinkFailed) is last = absurd (within.early last)
    by_fault (Some (GatewayRefused tries)) is never = absurd never
    by_fault (Some (WrongLine device tunnel)) is never = absurd never

    whole_served : IsRunServed c after out out' ending
    whole_served = by_fault report.fault refl (ran.undisturbed undisturbed).ends

  pub run_served : IsRunTold (λ told. ends.Reports told) c after out out' ending → IsRunServed c after out out' ending
  run_served (inl want) = inl want
  run_served (inr whole) = whole_served whole
