-- A command of one project: its tests, the counts of faults over its reads, and what it tells.
use Rattle.std.proofs.Common.{refl, List, None, Ok, Option, Result, Some, ℕ, ◌≡◌, ◌⊎◌, ◌∷◌, false, sym, subst, inl, inr, []}
use Rattle.call_parts.specs.declared.ending.End.{End}
use Rattle.knx_model.specs.Outside.{FileContent, FilesNow}
use Rattle.knx_model.specs.Meaning.{Installation}
use Rattle.call_parts.specs.Ending.{Is, StopsFor, TellsOf, TellsText, report_in, wanting}
use Rattle.knx_model.specs.declared.catalogue.model.NamedModel.{NamedModel}
use Rattle.call_parts.specs.Input.{OnlyRose, fault_in, first_some, goes_on, octets_of, failed}
use Rattle.call_parts.specs.declared.project.ProjectTexts.{ProjectTexts}
use Rattle.call_words.specs.declared.stop.Stop.{Stop}
use Rattle.call_parts.proofs.Stops.{broken_step, models_step, read_step, stopped_by, stopped_by_none, text_step, unless_stopped, step}
use Rattle.call_parts.specs.Stops.{catalogue_refused, given_or, models_in, rule_broken, text_refused}
use Rattle.knx_model.specs.Rules.{first_broken}
use Rattle.call_parts.specs.Judged.{models_of, read_of, unless_refused, sound, installed}
use Rattle.call_parts.proofs.Counts.{rose_then, tail_of, alone}
use Rattle.call_parts.proofs.Ends.{stop_wants}
use Rattle.call_words.specs.declared.input_file.InputFile.TheVariants as file
use Rattle.call_parts.specs.declared.ending.End.TheVariants as ends
use Rattle.call_parts.specs.Project.{ProjectIsRead, failed_of_project, ProjectWords, TellsOfProject, project_tests, project_told, judged_project, project_of, project_of_catalogue, project_of_models, project_of_text}
use Rattle.knx_model.specs.Statements.{reading}

-- ---- the tests

pub judged_project_is : (words : ProjectWords) (texts : ProjectTexts) → judged_project words texts ≡ unless_stopped (project_tests words texts) (project_told texts)
judged_project_is words texts =
    let project : List ℕ = octets_of texts.project in
    let models : List NamedModel = models_in texts.catalogue in
    let t1 : Option Stop = fault_in words.catalogue texts.catalogue in
    let t2 : Option Stop = fault_in (Some words.project) texts.project in
    let t3 : Option Stop = catalogue_refused texts.catalogue in
    let t4 : Option Stop = text_refused file.New (reading project) in
    let t5 : Option Stop = rule_broken file.New (project_told texts) in
    let read_it : project_of words texts ≡ unless_stopped (t1 ∷ t2 ∷ t3 ∷ t4 ∷ []) (project_told texts) =
    step (t1 ∷ []) (t2 ∷ t3 ∷ t4 ∷ []) (read_of words.catalogue texts.catalogue) (octets_of texts.catalogue) (project_of_catalogue words texts) (project_told texts) (read_step words.catalogue texts.catalogue)
    (step (t2 ∷ []) (t3 ∷ t4 ∷ []) (read_of (Some words.project) texts.project) project (project_of_text texts) (project_told texts) (read_step (Some words.project) texts.project)
    (step (t3 ∷ []) (t4 ∷ []) (models_of texts.catalogue) models (project_of_models texts project) (project_told texts) (models_step texts.catalogue)
    (step (t4 ∷ []) [] (unless_refused file.New (reading project)) (given_or [] (reading project)) (λ ss. Ok (installed models ss)) (project_told texts) (text_step file.New [] (reading project)) refl))) in
    step (t1 ∷ t2 ∷ t3 ∷ t4 ∷ []) (t5 ∷ []) (project_of words texts) (project_told texts) (sound file.New) (project_told texts) read_it (broken_step file.New (first_broken (project_told texts).catalogue (project_told texts).statements) (project_told texts))

-- ---- the reads

pub project_rose : (file : List ℕ → FileContent) (words : ProjectWords) (texts : ProjectTexts) (a b c : List ℕ → ℕ) → ProjectIsRead file words texts
    → OnlyRose (failed words.catalogue texts.catalogue) a b → OnlyRose (failed (Some words.project) texts.project) b c → OnlyRose (failed_of_project words texts) a c
project_rose file words texts a b c is first second =
    let project : List (Option (List ℕ)) = failed (Some words.project) texts.project ∷ [] in
    let behind : goes_on texts.catalogue ≡ false → first_some project ≡ None = tail_of (goes_on texts.catalogue) file (Some words.project) texts.project [] is.project (λ _. refl) in
    rose_then words.catalogue texts.catalogue project a b c behind first (subst (λ (o : Option (List ℕ)). OnlyRose o b c) (sym (alone (failed (Some words.project) texts.project))) second)

-- ---- what it tells

pub tells_so : (IsText : Installation → List ℕ → Type 0) (words : ProjectWords) (files files' : FilesNow) (texts : ProjectTexts) (end : End)
    → ProjectIsRead files.file words texts → OnlyRose (failed_of_project words texts) files.faults files'.faults → TellsOf IsText (judged_project words texts) end → TellsOfProject IsText words files files' (Is end)
tells_so IsText words files files' texts end is counts tells =
    let told : TellsOf IsText (unless_stopped (project_tests words texts) (project_told texts)) end = subst (λ (r : Result Installation Stop). TellsOf IsText r end) (judged_project_is words texts) tells in
    record {
      texts = texts;
      is_read = is;
      counts = counts;
      end = end;
      stops = λ why e. subst (λ (r : Result Installation Stop). TellsOf IsText r end) (stopped_by (project_tests words texts) (project_told texts) why e) told;
      tells = λ e. subst (λ (r : Result Installation Stop). TellsOf IsText r end) (stopped_by_none (project_tests words texts) (project_told texts) e) told;
      replied = refl;
    }

-- ---- what is written of it

pub text_wants : (IsText : List ℕ → Type 0) (end : End) → TellsText IsText end → TellsText IsText (wanting end)
text_wants IsText (ends.Stops told) h = refl
text_wants IsText (ends.Tells text) h = refl
text_wants IsText ends.NotOpened h = absurd h
text_wants IsText (ends.BreaksOff report want) h = absurd h
text_wants IsText (ends.Reports told) h = absurd h
text_wants IsText (ends.Sums told counts) h = absurd h
text_wants IsText (ends.Serves served) h = absurd h
text_wants IsText (ends.Finds searched) h = absurd h
text_wants IsText (ends.Assigns given) h = absurd h

pub project_written : (IsText : Installation → List ℕ → Type 0) (words : ProjectWords) (files files' : FilesNow) (end : End) (Replied : End → Type 0) → TellsOfProject IsText words files files' (Is end) → Replied end ⊎ Replied (wanting end)
    → TellsOfProject IsText words files files' Replied
project_written IsText words files files' end Replied t (inl replied) = record {
  texts = t.texts;
  is_read = t.is_read;
  counts = t.counts;
  end = t.end;
  stops = t.stops;
  tells = t.tells;
  replied = subst Replied (sym t.replied) replied;
}
project_written IsText words files files' end Replied t (inr replied) = record {
  texts = t.texts;
  is_read = t.is_read;
  counts = t.counts;
  end = wanting t.end;
  stops = λ why e. stop_wants why t.end (t.stops why e);
  tells = λ e. text_wants (IsText (project_told t.texts)) t.end (t.tells e);
  replied = subst (λ (told : End). Replied (wanting told)) (sym t.replied) replied;
}

-- ---- it is of no run

pub stop_no_run : (why : Stop) (end : End) → StopsFor why end → report_in end ≡ None
stop_no_run why (ends.Stops told) h = refl
stop_no_run why (ends.Tells text) h = absurd h
stop_no_run why ends.NotOpened h = absurd h
stop_no_run why (ends.BreaksOff report want) h = absurd h
stop_no_run why (ends.Reports told) h = absurd h
stop_no_run why (ends.Sums told counts) h = absurd h
stop_no_run why (ends.Serves served) h = absurd h
stop_no_run why (ends.Finds searched) h = absurd h
stop_no_run why (ends.Assigns given) h = absurd h

pub text_no_run : (IsText : List ℕ → Type 0) (end : End) → TellsText IsText end → report_in end ≡ None
text_no_run IsText (ends.Stops told) h = refl
text_no_run IsText (ends.Tells text) h = refl
text_no_run IsText ends.NotOpened h = absurd h
text_no_run IsText (ends.BreaksOff report want) h = absurd h
text_no_run IsText (ends.Reports told) h = absurd h
text_no_run IsText (ends.Sums told counts) h = absurd h
text_no_run IsText (ends.Serves served) h = absurd h
text_no_run IsText (ends.Finds searched) h = absurd h
text_no_run IsText (ends.Assigns given) h = absurd h

pub project_no_run : (IsText : Installation → List ℕ → Type 0) (words : ProjectWords) (files files' : FilesNow) (end : End) → TellsOfProject IsText words files files' (Is end) → report_in end ≡ None
project_no_run IsText words files files' end t = subst (λ (told : End). report_in told ≡ None) t.replied (by_tests (first_some (project_tests words t.texts)) refl) where
  by_tests : (o : Option Stop) → first_some (project_tests words t.texts) ≡ o → report_in t.end ≡ None
  by_tests None e = text_no_run (IsText (project_told t.texts)) t.end (t.tells e)
  by_tests (Some why) e = stop_no_run why t.end (t.stops why e)
