-- Valid input to `download` and to `gateway` is dialled or bound, and what came of it told whole, or there was no memory.
use Rattle.std.proofs.Common.{◌≡◌, true, List, [], ◌∷◌, Option, Some, None, refl, sym, ap, ◌∙◌, subst, inl, inr, ◌⊎◌, ℕ}
use Rattle.bus_sim.specs.Loaded.{BusNow}
use Rattle.call_words.specs.declared.status.Status.{Status}
use Rattle.call_words.specs.declared.stop.Stop.TheVariants as stop
use Rattle.call_words.specs.ReportText.{stop_status}
use Rattle.knx_model.specs.Outside.{FilesNow, SinkNow, Rose}
use Rattle.line_model.specs.Dialled.{DialerNow}
use Rattle.line_model.specs.declared.log.Report.{Report}
use Rattle.knx_top.specs.Complete.{IsDownloadTold, IsGatewayTold, IsValidDownload, IsValidGateway, NoneRose, gateway_texts_told, texts_told}
use Rattle.call_parts.specs.Ending.{Replies, report_in}
use Rattle.call_parts.specs.Input.{fault_in, failed, first_some, goes_on}
use Rattle.knx_top.specs.commands.download.{Dials, Download, DownloadWords, RunsDialled, download_tests, download_told, project_named}
use Rattle.knx_top.specs.commands.gateway.{GatewayWords, RunsGateway, Serves, Service, failed_of_gateway, gateway_tests, gateway_told}
use Rattle.call_parts.specs.Project.{failed_of_project}
use Rattle.knx_top.specs.declared.commands.gateway.GatewayTexts.{GatewayTexts}
use Rattle.call_parts.specs.declared.ending.End.{End}
use Rattle.call_parts.specs.declared.ending.End.TheVariants as ends
use Rattle.call_parts.specs.declared.input.Reading.{Reading}
use Rattle.call_parts.specs.declared.project.ProjectTexts.{ProjectTexts}
use Rattle.knx_top.proofs.Completeness.{ended, memory_told, named_read, no_fault, none_failed, one_read, wanting}
use Rattle.knx_top.proofs.RunsTold.{one_none, wants_later, wants_now}

-- ---- what was written

dialled_told : (d : Download) (before after : DialerNow) (report : Option Report) (end : End) (out out' : SinkNow) (ending : Status) → ¬ Rose out.faults out'.faults → Dials d before after end → report ≡ report_in end → Replies out out' ending end
    → IsDownloadTold d before after report out out' ending
dialled_told d before after report (ends.Stops told) out out' ending still dials is replied = inl (ended (ends.Stops told) out out' ending still replied ∙ ap stop_status dials.0)
dialled_told d before after report (ends.Tells text) out out' ending still dials is replied = absurd dials
dialled_told d before after report ends.NotOpened out out' ending still dials is (inl wrote) = inr (inl (record { fails = dials; written = wrote.1; status_is = wrote.0 }))
dialled_told d before after report ends.NotOpened out out' ending still dials is (inr refused) = absurd (still refused.2)
dialled_told d before after report (ends.BreaksOff told want) out out' ending still dials is replied = inl (ended (ends.BreaksOff told want) out out' ending still replied)
dialled_told d before after report (ends.Reports told) out out' ending still dials is (inl wrote) = inr (inr (record { told = told; is = is; ran = dials.0; written = wrote.1; status_is = wrote.0 }))
dialled_told d before after report (ends.Reports told) out out' ending still dials is (inr refused) = absurd (still refused.2)
dialled_told d before after report (ends.Sums told counts) out out' ending still dials is replied = absurd dials
dialled_told d before after report (ends.Serves served) out out' ending still dials is replied = absurd dials
dialled_told d before after report (ends.Finds searched) out out' ending still dials is replied = absurd dials
dialled_told d before after report (ends.Assigns given) out out' ending still dials is replied = absurd dials

served_told : (s : Service) (before after : DialerNow) (line line' : BusNow) (end : End) (out out' : SinkNow) (ending : Status) → ¬ Rose out.faults out'.faults → Serves s before after line line' end → Replies out out' ending end
    → IsGatewayTold s before after line' out out' ending
served_told s before after line line' (ends.Stops told) out out' ending still serves replied = inl (ended (ends.Stops told) out out' ending still replied ∙ ap stop_status serves.0)
served_told s before after line line' (ends.Tells text) out out' ending still serves replied = absurd serves
served_told s before after line line' ends.NotOpened out out' ending still serves (inl wrote) = inr (inl (record { fails = serves.0; written = wrote.1; status_is = wrote.0 }))
served_told s before after line line' ends.NotOpened out out' ending still serves (inr refused) = absurd (still refused.2)
served_told s before after line line' (ends.BreaksOff told want) out out' ending still serves replied = absurd serves
served_told s before after line line' (ends.Reports told) out out' ending still serves replied = absurd serves
served_told s before after line line' (ends.Sums told counts) out out' ending still serves replied = absurd serves
served_told s before after line line' (ends.Serves served) out out' ending still serves (inl wrote) = inr (inr (record { end = served; served = serves; written = wrote.1; status_is = wrote.0 }))
served_told s before after line line' (ends.Serves served) out out' ending still serves (inr refused) = absurd (still refused.2)
served_told s before after line line' (ends.Finds searched) out out' ending still serves replied = absurd serves
served_told s before after line line' (ends.Assigns given) out out' ending still serves replied = absurd serves

read_on : (name : Option (List ℕ)) (reading whole : Reading) → reading ≡ whole → goes_on whole ≡ true → fault_in name reading ≡ None
read_on name reading whole is on = no_fault name reading (ap goes_on is ∙ on)

abbrev CameOf : Reading → Reading → Type 0
CameOf reading whole = (reading ≡ whole) ⊎ (reading ≡ wanting)

-- ---- `download`, by what came of each file

both_texts : (a b c d : Reading) → a ≡ b → c ≡ d → (let one : ProjectTexts = record { catalogue = a; project = c } in let other : ProjectTexts = record { catalogue = b; project = d } in one ≡ other)
both_texts a b c d first second = rw (first, second) refl

module _ (words : DownloadWords) (files files' : FilesNow) (before after : DialerNow) (report : Option Report) (out out' : SinkNow) (ending : Status) (valid : IsValidDownload files.file words) (still : NoneRose files files' out out')
    (t : RunsDialled words files files' before after report (Replies out out' ending)) where
  abbrev told : ProjectTexts
  told = texts_told files.file (project_named words)

  abbrev IsTold : ProjectTexts → Type 0
  IsTold texts = IsDownloadTold (download_told words texts) before after report out out' ending

  none : failed_of_project (project_named words) t.texts ≡ None
  none = none_failed _ files.faults files'.faults still.reads t.counts

  none_both : (failed words.options.catalogue t.texts.catalogue ≡ None) × (first_some (failed (Some words.new) t.texts.project ∷ []) ≡ None)
  none_both = one_none (failed words.options.catalogue t.texts.catalogue) (failed (Some words.new) t.texts.project ∷ []) none

  none_new : failed (Some words.new) t.texts.project ≡ None
  none_new = (one_none (failed (Some words.new) t.texts.project) [] none_both.1).0

  no_memory : first_some (download_tests words t.texts) ≡ Some (stop.NoMemory tt) → IsTold told
  no_memory e = inl (ended t.end out out' ending still.writes t.replied ∙ memory_told t.end (t.stops (stop.NoMemory tt) e).0)

  dialled : t.texts ≡ told → IsTold told
  dialled same =
      let passes : first_some (download_tests words t.texts) ≡ None = subst (λ (texts : ProjectTexts). first_some (download_tests words texts) ≡ None) (sym same) valid.passes in
      subst IsTold same (dialled_told (download_told words t.texts) before after report t.end out out' ending still.writes (t.dials passes) t.report_is t.replied)

  by_new : t.texts.catalogue ≡ told.catalogue → CameOf t.texts.project told.project → IsTold told
  by_new catalogue (inr wants) =
      no_memory
      (wants_later (fault_in words.options.catalogue t.texts.catalogue) _ (read_on words.options.catalogue t.texts.catalogue told.catalogue catalogue valid.catalogue)
      (wants_now (fault_in (Some words.new) t.texts.project) _ (ap (fault_in (Some words.new)) wants)))
  by_new catalogue (inl new) = dialled (both_texts t.texts.catalogue told.catalogue t.texts.project told.project catalogue new)

  by_catalogue : CameOf t.texts.catalogue told.catalogue → IsTold told
  by_catalogue (inr wants) = no_memory (wants_now (fault_in words.options.catalogue t.texts.catalogue) _ (ap (fault_in words.options.catalogue) wants))
  by_catalogue (inl catalogue) = by_new catalogue (one_read files.file (goes_on t.texts.catalogue) words.new t.texts.project (ap goes_on catalogue ∙ valid.catalogue) valid.new t.is_read.project none_new)

  pub download_is_told : IsDownloadTold (download_told words (texts_told files.file (project_named words))) before after report out out' ending
  download_is_told = by_catalogue (named_read files.file words.options.catalogue t.texts.catalogue valid.catalogue t.is_read.catalogue none_both.0)

-- ---- `gateway`, by what came of each file

three_texts : (a b c d e f : Reading) → a ≡ b → c ≡ d → e ≡ f
    → (let one : GatewayTexts = record { catalogue = a; old = c; script = e } in let other : GatewayTexts = record { catalogue = b; old = d; script = f } in one ≡ other)
three_texts a b c d e f first second third = rw (first, second, third) refl

module _ (words : GatewayWords) (files files' : FilesNow) (before after : DialerNow) (line line' : BusNow) (out out' : SinkNow) (ending : Status) (valid : IsValidGateway files.file words) (still : NoneRose files files' out out')
    (t : RunsGateway words files files' before after line line' (Replies out out' ending)) where
  abbrev told_texts : GatewayTexts
  told_texts = gateway_texts_told files.file words

  abbrev IsServed : GatewayTexts → Type 0
  IsServed texts = IsGatewayTold (gateway_told words texts) before after line' out out' ending

  none_fails : failed_of_gateway words t.texts ≡ None
  none_fails = none_failed _ files.faults files'.faults still.reads t.counts

  abbrev script_failed : List (Option (List ℕ))
  script_failed = failed (Some words.script) t.texts.script ∷ []

  abbrev old_failed : List (Option (List ℕ))
  old_failed = failed (Some words.old) t.texts.old ∷ script_failed

  none_catalogue : (failed words.catalogue t.texts.catalogue ≡ None) × (first_some old_failed ≡ None)
  none_catalogue = one_none (failed words.catalogue t.texts.catalogue) old_failed none_fails

  none_old : (failed (Some words.old) t.texts.old ≡ None) × (first_some script_failed ≡ None)
  none_old = one_none (failed (Some words.old) t.texts.old) script_failed none_catalogue.1

  none_script : failed (Some words.script) t.texts.script ≡ None
  none_script = (one_none (failed (Some words.script) t.texts.script) [] none_old.1).0

  wants : first_some (gateway_tests words t.texts) ≡ Some (stop.NoMemory tt) → IsServed told_texts
  wants e = inl (ended t.end out out' ending still.writes t.replied ∙ memory_told t.end (t.stops (stop.NoMemory tt) e).0)

  served : t.texts ≡ told_texts → IsServed told_texts
  served same =
      let passes : first_some (gateway_tests words t.texts) ≡ None = subst (λ (texts : GatewayTexts). first_some (gateway_tests words texts) ≡ None) (sym same) valid.passes in
      subst IsServed same (served_told (gateway_told words t.texts) before after line line' t.end out out' ending still.writes (t.serves passes) t.replied)

  by_script : t.texts.catalogue ≡ told_texts.catalogue → t.texts.old ≡ told_texts.old → CameOf t.texts.script told_texts.script → IsServed told_texts
  by_script catalogue old (inr none) =
      wants
      (wants_later (fault_in words.catalogue t.texts.catalogue) _ (read_on words.catalogue t.texts.catalogue told_texts.catalogue catalogue valid.catalogue)
      (wants_later (fault_in (Some words.old) t.texts.old) _ (read_on (Some words.old) t.texts.old told_texts.old old valid.old)
      (wants_now (fault_in (Some words.script) t.texts.script) _ (ap (fault_in (Some words.script)) none))))
  by_script catalogue old (inl script) = served (three_texts t.texts.catalogue told_texts.catalogue t.texts.old told_texts.old t.texts.script told_texts.script catalogue old script)

  by_old : t.texts.catalogue ≡ told_texts.catalogue → CameOf t.texts.old told_texts.old → IsServed told_texts
  by_old catalogue (inr none) =
      wants
      (wants_later (fault_in words.catalogue t.texts.catalogue) _ (read_on words.catalogue t.texts.catalogue told_texts.catalogue catalogue valid.catalogue)
      (wants_now (fault_in (Some words.old) t.texts.old) _ (ap (fault_in (Some words.old)) none)))
  by_old catalogue (inl old) = by_script catalogue old (one_read files.file (goes_on t.texts.old) words.script t.texts.script (ap goes_on old ∙ valid.old) valid.script t.is_read.script none_script)

  by_first : CameOf t.texts.catalogue told_texts.catalogue → IsServed told_texts
  by_first (inr none) = wants (wants_now (fault_in words.catalogue t.texts.catalogue) _ (ap (fault_in words.catalogue) none))
  by_first (inl catalogue) = by_old catalogue (one_read files.file (goes_on t.texts.catalogue) words.old t.texts.old (ap goes_on catalogue ∙ valid.catalogue) valid.old t.is_read.old none_old.0)

  pub gateway_is_told : IsGatewayTold (gateway_told words (gateway_texts_told files.file words)) before after line' out out' ending
  gateway_is_told = by_first (named_read files.file words.catalogue t.texts.catalogue valid.catalogue t.is_read.catalogue none_catalogue.0)
