-- Valid input to `sim` is run and its report told whole, and so are the sums of `big`, or there was no memory.
use Rattle.std.proofs.Common.{◌≡◌, true, List, [], ◌∷◌, Option, Some, None, refl, sym, ap, ◌∙◌, subst, inl, inr, ◌⊎◌, ℕ}
use Rattle.bus_sim.specs.Loaded.{BusNow}
use Rattle.call_words.specs.declared.status.Status.{Status}
use Rattle.call_words.specs.declared.stop.Stop.{Stop}
use Rattle.call_words.specs.declared.stop.Stop.TheVariants as stop
use Rattle.call_words.specs.ReportText.{stop_status}
use Rattle.knx_model.specs.declared.counts.Counts.{Counts}
use Rattle.knx_model.specs.Counts.{counts_of}
use Rattle.knx_model.specs.Outside.{FilesNow, SinkNow, Rose}
use Rattle.knx_top.specs.Complete.{IsRunTold, IsValidRun, NoneRose, sim_texts_told}
use Rattle.call_parts.specs.Ending.{Replies, report_in}
use Rattle.call_parts.specs.Input.{fault_in, failed, first_some, goes_on}
use Rattle.knx_top.specs.Ran.{Commission, Left}
use Rattle.knx_top.specs.commands.big.{BigWords, RunsMade, commission_made, made, summed}
use Rattle.knx_top.specs.commands.sim.{Runs, RunsScript, SimWords, commission_told, failed_of_sim, sim_tests}
use Rattle.knx_top.specs.declared.commands.sim.SimTexts.{SimTexts}
use Rattle.call_parts.specs.declared.ending.End.{End}
use Rattle.call_parts.specs.declared.ending.End.TheVariants as ends
use Rattle.call_parts.specs.declared.input.Reading.{Reading}
use Rattle.knx_top.proofs.Completeness.{ended, memory_told, named_read, no_fault, none_failed, one_read, wanting}

-- ---- what was written of a run

run_told : (c : Commission) (before : BusNow) (after : Left) (end : End) (out out' : SinkNow) (ending : Status) → ¬ Rose out.faults out'.faults → Runs c before after.line end → after.report ≡ report_in end → Replies out out' ending end
    → IsRunTold (λ told. ends.Reports told) c after out out' ending
run_told c before after (ends.Stops told) out out' ending still runs report replied = inl (ended (ends.Stops told) out out' ending still replied ∙ ap stop_status runs.0)
run_told c before after (ends.Tells text) out out' ending still runs report replied = absurd runs
run_told c before after ends.NotOpened out out' ending still runs report replied = absurd runs
run_told c before after (ends.BreaksOff told want) out out' ending still runs report replied = inl (ended (ends.BreaksOff told want) out out' ending still replied)
run_told c before after (ends.Reports told) out out' ending still runs report (inl wrote) = inr (record { told = told; is = report; reported = runs; written = wrote.1; status_is = wrote.0 })
run_told c before after (ends.Reports told) out out' ending still runs report (inr refused) = absurd (still refused.2)
run_told c before after (ends.Sums told counts) out out' ending still runs report replied = absurd runs
run_told c before after (ends.Serves served) out out' ending still runs report replied = absurd runs
run_told c before after (ends.Finds searched) out out' ending still runs report replied = absurd runs
run_told c before after (ends.Assigns given) out out' ending still runs report replied = absurd runs

sums_told : (counts : Counts) (c : Commission) (before : BusNow) (after : Left) (end : End) (out out' : SinkNow) (ending : Status) → ¬ Rose out.faults out'.faults → Runs c before after.line end → after.report ≡ report_in end
    → Replies out out' ending (summed counts end) → IsRunTold (λ told. ends.Sums told counts) c after out out' ending
sums_told counts c before after (ends.Stops told) out out' ending still runs report replied = inl (ended (ends.Stops told) out out' ending still replied ∙ ap stop_status runs.0)
sums_told counts c before after (ends.Tells text) out out' ending still runs report replied = absurd runs
sums_told counts c before after ends.NotOpened out out' ending still runs report replied = absurd runs
sums_told counts c before after (ends.BreaksOff told want) out out' ending still runs report replied = inl (ended (ends.BreaksOff told want) out out' ending still replied)
sums_told counts c before after (ends.Reports told) out out' ending still runs report (inl wrote) = inr (record { told = told; is = report; reported = runs; written = wrote.1; status_is = wrote.0 })
sums_told counts c before after (ends.Reports told) out out' ending still runs report (inr refused) = absurd (still refused.2)
sums_told counts c before after (ends.Sums told counted) out out' ending still runs report replied = absurd runs
sums_told counts c before after (ends.Serves served) out out' ending still runs report replied = absurd runs
sums_told counts c before after (ends.Finds searched) out out' ending still runs report replied = absurd runs
sums_told counts c before after (ends.Assigns given) out out' ending still runs report replied = absurd runs

pub made_told : (words : BigWords) (before : BusNow) (after : Left) (out out' : SinkNow) (ending : Status) → ¬ Rose out.faults out'.faults → RunsMade words before after (Replies out out' ending)
    → IsRunTold (λ told. ends.Sums told (counts_of (made words))) (commission_made words) after out out' ending
made_told words before after out out' ending still t = sums_told (counts_of (made words)) (commission_made words) before after t.end out out' ending still t.runs t.report t.replied

-- ---- the first test that wants memory

pub wants_now : (test : Option Stop) (tests : List (Option Stop)) → test ≡ Some (stop.NoMemory tt) → first_some (test ∷ tests) ≡ Some (stop.NoMemory tt)
wants_now None tests e = absurd cc
wants_now (Some why) tests e = e

pub wants_later : (test : Option Stop) (tests : List (Option Stop)) → test ≡ None → first_some tests ≡ Some (stop.NoMemory tt) → first_some (test ∷ tests) ≡ Some (stop.NoMemory tt)
wants_later None tests e later = later
wants_later (Some why) tests e later = absurd cc

pub one_none : {A : Type 0} (one : Option A) (others : List (Option A)) → first_some (one ∷ others) ≡ None → (one ≡ None) × (first_some others ≡ None)
one_none None others e = (refl, e)
one_none (Some x) others e = absurd cc

-- ---- by what came of each file

same_texts : (a b c d e f g h : Reading) → a ≡ b → c ≡ d → e ≡ f → g ≡ h
    → (let one : SimTexts = record { catalogue = a; new = c; old = e; script = g } in let other : SimTexts = record { catalogue = b; new = d; old = f; script = h } in one ≡ other)
same_texts a b c d e f g h first second third fourth = rw (first, second, third, fourth) refl

module _ (words : SimWords) (files files' : FilesNow) (before : BusNow) (after : Left) (out out' : SinkNow) (ending : Status) (valid : IsValidRun files.file words) (still : NoneRose files files' out out') (t : RunsScript words files files' before after (Replies out out' ending)) where
  abbrev told : SimTexts
  told = sim_texts_told files.file words

  abbrev IsWhole : SimTexts → Type 0
  IsWhole texts = IsRunTold (λ told. ends.Reports told) (commission_told words texts) after out out' ending

  abbrev CameOf : Reading → Reading → Type 0
  CameOf reading whole = (reading ≡ whole) ⊎ (reading ≡ wanting)

  none : failed_of_sim words t.texts ≡ None
  none = none_failed _ files.faults files'.faults still.reads t.counts

  -- no read failed, of the last file and of the files before
  abbrev script_failed : List (Option (List ℕ))
  script_failed = failed (Some words.script) t.texts.script ∷ []

  abbrev old_failed : List (Option (List ℕ))
  old_failed = failed (Some words.old) t.texts.old ∷ script_failed

  abbrev new_failed : List (Option (List ℕ))
  new_failed = failed (Some words.new) t.texts.new ∷ old_failed

  none_catalogue : (failed words.options.catalogue t.texts.catalogue ≡ None) × (first_some new_failed ≡ None)
  none_catalogue = one_none (failed words.options.catalogue t.texts.catalogue) new_failed none

  none_new : (failed (Some words.new) t.texts.new ≡ None) × (first_some old_failed ≡ None)
  none_new = one_none (failed (Some words.new) t.texts.new) old_failed none_catalogue.1

  none_old : (failed (Some words.old) t.texts.old ≡ None) × (first_some script_failed ≡ None)
  none_old = one_none (failed (Some words.old) t.texts.old) script_failed none_new.1

  none_script : failed (Some words.script) t.texts.script ≡ None
  none_script = (one_none (failed (Some words.script) t.texts.script) [] none_old.1).0

  no_memory : first_some (sim_tests words t.texts) ≡ Some (stop.NoMemory tt) → IsWhole told
  no_memory e = inl (ended t.end out out' ending still.writes t.replied ∙ memory_told t.end (t.stops (stop.NoMemory tt) e).0)

  ran : t.texts ≡ told → IsWhole told
  ran same =
      let passes : first_some (sim_tests words t.texts) ≡ None = subst (λ (texts : SimTexts). first_some (sim_tests words texts) ≡ None) (sym same) valid.passes in
      subst IsWhole same (run_told (commission_told words t.texts) before after t.end out out' ending still.writes (t.runs passes) t.report t.replied)

  read_on : (name : Option (List ℕ)) (reading whole : Reading) → reading ≡ whole → goes_on whole ≡ true → fault_in name reading ≡ None
  read_on name reading whole is on = no_fault name reading (ap goes_on is ∙ on)

  by_script : t.texts.catalogue ≡ told.catalogue → t.texts.new ≡ told.new → t.texts.old ≡ told.old → CameOf t.texts.script told.script → IsWhole told
  by_script catalogue new old (inr wants) =
      no_memory
      (wants_later (fault_in words.options.catalogue t.texts.catalogue) _ (read_on words.options.catalogue t.texts.catalogue told.catalogue catalogue valid.catalogue)
      (wants_later (fault_in (Some words.new) t.texts.new) _ (read_on (Some words.new) t.texts.new told.new new valid.new)
      (wants_later (fault_in (Some words.old) t.texts.old) _ (read_on (Some words.old) t.texts.old told.old old valid.old)
      (wants_now (fault_in (Some words.script) t.texts.script) _ (ap (fault_in (Some words.script)) wants)))))
  by_script catalogue new old (inl script) = ran (same_texts t.texts.catalogue told.catalogue t.texts.new told.new t.texts.old told.old t.texts.script told.script catalogue new old script)

  by_old : t.texts.catalogue ≡ told.catalogue → t.texts.new ≡ told.new → CameOf t.texts.old told.old → IsWhole told
  by_old catalogue new (inr wants) =
      no_memory
      (wants_later (fault_in words.options.catalogue t.texts.catalogue) _ (read_on words.options.catalogue t.texts.catalogue told.catalogue catalogue valid.catalogue)
      (wants_later (fault_in (Some words.new) t.texts.new) _ (read_on (Some words.new) t.texts.new told.new new valid.new)
      (wants_now (fault_in (Some words.old) t.texts.old) _ (ap (fault_in (Some words.old)) wants))))
  by_old catalogue new (inl old) =
      by_script catalogue new old
      (one_read files.file (goes_on t.texts.old) words.script t.texts.script (ap goes_on old ∙ valid.old) valid.script t.is_read.script none_script)

  by_new : t.texts.catalogue ≡ told.catalogue → CameOf t.texts.new told.new → IsWhole told
  by_new catalogue (inr wants) =
      no_memory
      (wants_later (fault_in words.options.catalogue t.texts.catalogue) _ (read_on words.options.catalogue t.texts.catalogue told.catalogue catalogue valid.catalogue)
      (wants_now (fault_in (Some words.new) t.texts.new) _ (ap (fault_in (Some words.new)) wants)))
  by_new catalogue (inl new) = by_old catalogue new (one_read files.file (goes_on t.texts.new) words.old t.texts.old (ap goes_on new ∙ valid.new) valid.old t.is_read.old none_old.0)

  by_catalogue : CameOf t.texts.catalogue told.catalogue → IsWhole told
  by_catalogue (inr wants) = no_memory (wants_now (fault_in words.options.catalogue t.texts.catalogue) _ (ap (fault_in words.options.catalogue) wants))
  by_catalogue (inl catalogue) = by_new catalogue (one_read files.file (goes_on t.texts.catalogue) words.new t.texts.new (ap goes_on catalogue ∙ valid.catalogue) valid.new t.is_read.new none_new.0)

  pub script_told : IsRunTold (λ told. ends.Reports told) (commission_told words (sim_texts_told files.file words)) after out out' ending
  script_told = by_catalogue (named_read files.file words.options.catalogue t.texts.catalogue valid.catalogue t.is_read.catalogue none_catalogue.0)
