-- `sim`: its tests, the counts of faults over its reads, its run, and what is written of it.
use Rattle.std.proofs.Common.{refl, Err, List, None, Ok, Option, Result, Some, ℕ, ◌≡◌, ◌≢◌, ◌⊎◌, ◌∙◌, ◌∷◌, false, sym, ap, subst, inl, inr, []}
use Rattle.bus_sim.specs.Loaded.{BusNow}
use Rattle.call_parts.specs.Stops.{catalogue_refused, given_or, is_known, models_in, rule_broken, stranger_named, text_refused, unless_known}
use Rattle.call_parts.specs.declared.ending.End.{End}
use Rattle.knx_model.specs.Outside.{FileContent, FilesNow}
use Rattle.knx_model.specs.Meaning.{Installation}
use Rattle.call_parts.specs.Ending.{Is, report_in, wanting}
use Rattle.knx_top.specs.Begun.{IsOrder, OrderFor}
use Rattle.knx_model.specs.declared.catalogue.model.NamedModel.{NamedModel}
use Rattle.call_parts.specs.Input.{OnlyRose, fault_in, first_some, goes_on, octets_of, failed}
use Rattle.knx_top.specs.declared.commands.sim.judge.Order.{Order}
use Rattle.knx_model.specs.declared.script.ScriptLine.{ScriptLine}
use Rattle.knx_top.specs.declared.commands.sim.SimTexts.{SimTexts}
use Rattle.call_words.specs.declared.job_word.JobWord.{JobWord}
use Rattle.call_words.specs.declared.stop.Stop.{Stop}
use Rattle.call_parts.specs.Judged.{known_jobs, models_of, read_of, unless_refused, unless_strange, sound}
use Rattle.call_parts.proofs.Stops.{broken_step, does_by, failed_step, models_step, read_step, stops_by, text_step, unless_stopped, passed, step, stopped}
use Rattle.knx_model.specs.Rules.{first_broken}
use Rattle.knx_model.specs.ScriptText.{first_stranger, script_reading}
use Rattle.std.specs.List.{list_all}
use Rattle.call_parts.specs.OnLine.{on_bus}
use Rattle.call_parts.proofs.Ends.{report_wants, stop_wants}
use Rattle.call_parts.proofs.Counts.{rose_then, tail_of, alone}
use Rattle.call_words.specs.declared.input_file.InputFile.TheVariants as file
use Rattle.call_words.specs.declared.stop.Stop.TheVariants as stop
use Rattle.call_parts.specs.declared.ending.End.TheVariants as ends
use Rattle.knx_top.specs.commands.sim.{Comes, Runs, commission_told, sim_tests, RunsScript, SimIsRead, failed_of_sim, SimWords, after_new, with_known, with_new, after_catalogue, after_old, after_script, with_before, with_lines, with_models, with_old, with_project, judged}
use Rattle.knx_top.specs.Ran.{Commission, commission_of, Left}
use Rattle.call_parts.specs.declared.options.SimOptions.{SimOptions}
use Rattle.knx_model.specs.Statements.{reading}

-- ---- the tests

-- the tests of a script and of the devices that it and the jobs name
pub script_is : (options : SimOptions) (project before : Installation) (ls : List ScriptLine)
    → with_lines options project before ls ≡ unless_stopped (stranger_named (first_stranger (on_bus project before) ls) ∷ unless_known (list_all (is_known project) options.jobs) ∷ [])
    (commission_of project before ls options)
script_is options project before ls =
    let c : Commission = commission_of project before ls options in
    let t1 : Option Stop = stranger_named (first_stranger (on_bus project before) ls) in
    let t2 : Option Stop = unless_known (list_all (is_known project) options.jobs) in
    step (t1 ∷ []) (t2 ∷ []) (unless_strange project before ls) ls (with_known options project before) c (failed_step t1 ls)
    (step (t2 ∷ []) [] (known_jobs project options.jobs) options.jobs (λ (jobs : List JobWord). Ok c) c (failed_step t2 options.jobs) refl)

pub judged_is : (words : SimWords) (texts : SimTexts) → judged words texts ≡ unless_stopped (sim_tests words texts) (commission_told words texts)
judged_is words texts =
    let c : Commission = commission_told words texts in
    let options : SimOptions = words.options in
    let new : List ℕ = octets_of texts.new in
    let old : List ℕ = octets_of texts.old in
    let script : List ℕ = octets_of texts.script in
    let models : List NamedModel = models_in texts.catalogue in
    let t1 : Option Stop = fault_in words.options.catalogue texts.catalogue in
    let t2 : Option Stop = fault_in (Some words.new) texts.new in
    let t3 : Option Stop = fault_in (Some words.old) texts.old in
    let t4 : Option Stop = fault_in (Some words.script) texts.script in
    let t5 : Option Stop = catalogue_refused texts.catalogue in
    let t6 : Option Stop = text_refused file.New (reading new) in
    let t7 : Option Stop = rule_broken file.New c.project in
    let t8 : Option Stop = text_refused file.Old (reading old) in
    let t9 : Option Stop = rule_broken file.Old c.before in
    let t10 : Option Stop = text_refused file.Script (script_reading script) in
    let rest : List (Option Stop) = stranger_named (first_stranger (on_bus c.project c.before) c.script) ∷ unless_known (list_all (is_known c.project) c.options.jobs) ∷ [] in
    step (t1 ∷ []) (t2 ∷ t3 ∷ t4 ∷ t5 ∷ t6 ∷ t7 ∷ t8 ∷ t9 ∷ t10 ∷ rest) (read_of words.options.catalogue texts.catalogue) (octets_of texts.catalogue) (after_catalogue words texts) c (read_step words.options.catalogue texts.catalogue)
    (step (t2 ∷ []) (t3 ∷ t4 ∷ t5 ∷ t6 ∷ t7 ∷ t8 ∷ t9 ∷ t10 ∷ rest) (read_of (Some words.new) texts.new) new (after_new words texts) c (read_step (Some words.new) texts.new)
    (step (t3 ∷ []) (t4 ∷ t5 ∷ t6 ∷ t7 ∷ t8 ∷ t9 ∷ t10 ∷ rest) (read_of (Some words.old) texts.old) old (after_old words texts new) c (read_step (Some words.old) texts.old)
    (step (t4 ∷ []) (t5 ∷ t6 ∷ t7 ∷ t8 ∷ t9 ∷ t10 ∷ rest) (read_of (Some words.script) texts.script) script (after_script options texts new old) c (read_step (Some words.script) texts.script)
    (step (t5 ∷ []) (t6 ∷ t7 ∷ t8 ∷ t9 ∷ t10 ∷ rest) (models_of texts.catalogue) models (with_models options new old script) c (models_step texts.catalogue)
    (step (t6 ∷ []) (t7 ∷ t8 ∷ t9 ∷ t10 ∷ rest) (unless_refused file.New (reading new)) (given_or [] (reading new)) (with_new options models old script) c (text_step file.New [] (reading new))
    (step (t7 ∷ []) (t8 ∷ t9 ∷ t10 ∷ rest) (sound file.New c.project) c.project (with_project options models old script) c (broken_step file.New (first_broken c.project.catalogue c.project.statements) c.project)
    (step (t8 ∷ []) (t9 ∷ t10 ∷ rest) (unless_refused file.Old (reading old)) (given_or [] (reading old)) (with_old options models script c.project) c (text_step file.Old [] (reading old))
    (step (t9 ∷ []) (t10 ∷ rest) (sound file.Old c.before) c.before (with_before options script c.project) c (broken_step file.Old (first_broken c.before.catalogue c.before.statements) c.before)
    (step (t10 ∷ []) rest (unless_refused file.Script (script_reading script)) c.script (with_lines options c.project c.before) c (text_step file.Script [] (script_reading script))
    (script_is options c.project c.before c.script))))))))))

-- ---- the reads

pub sim_rose : (file : List ℕ → FileContent) (words : SimWords) (texts : SimTexts) (a b c d e : List ℕ → ℕ) → SimIsRead file words texts
    → OnlyRose (failed words.options.catalogue texts.catalogue) a b → OnlyRose (failed (Some words.new) texts.new) b c → OnlyRose (failed (Some words.old) texts.old) c d → OnlyRose (failed (Some words.script) texts.script) d e
    → OnlyRose (failed_of_sim words texts) a e
sim_rose file words texts a b c d e is first second third fourth =
    let script : List (Option (List ℕ)) = failed (Some words.script) texts.script ∷ [] in
    let old : List (Option (List ℕ)) = failed (Some words.old) texts.old ∷ script in
    let new : List (Option (List ℕ)) = failed (Some words.new) texts.new ∷ old in
    let behind_old : goes_on texts.old ≡ false → first_some script ≡ None = tail_of (goes_on texts.old) file (Some words.script) texts.script [] is.script (λ _. refl) in
    let behind_new : goes_on texts.new ≡ false → first_some old ≡ None = tail_of (goes_on texts.new) file (Some words.old) texts.old script is.old behind_old in
    let behind_catalogue : goes_on texts.catalogue ≡ false → first_some new ≡ None = tail_of (goes_on texts.catalogue) file (Some words.new) texts.new old is.new behind_new in
    let scripted : OnlyRose (first_some script) d e = subst (λ (o : Option (List ℕ)). OnlyRose o d e) (sym (alone (failed (Some words.script) texts.script))) fourth in
    rose_then words.options.catalogue texts.catalogue new a b e behind_catalogue first
    (rose_then (Some words.new) texts.new old b c e behind_new second
    (rose_then (Some words.old) texts.old script c d e behind_old third scripted))

-- ---- where the call stops before a run

pub decided_stop : (j : Result Commission Stop) (told : Stop) (line : BusNow) → (told ≢ stop.NoMemory tt → j ≡ Err told) → Comes j line line (ends.Stops told)
decided_stop j told line h = stopped (line ≡ line) (λ (c : Commission). Runs c line line) j told h refl (λ c memory. (memory, refl))

-- ---- where it is run

-- of what an order is for
pub of_order : (P : Type 0) (j : Result Commission Stop) (order : Order) → OrderFor j order → ((c : Commission) → IsOrder c order → P) → P
of_order P (Err why) order o h = absurd o
of_order P (Ok c) order o h = h c o

-- what was judged has the options of the words
its_options : (words : SimWords) (texts : SimTexts) (c : Commission) → judged words texts ≡ Ok c → c.options ≡ words.options
its_options words texts c e = ap (λ (told : Commission). told.options) (passed (sim_tests words texts) (commission_told words texts) c (sym (judged_is words texts) ∙ e))

decided : (j : Result Commission Stop) (options : SimOptions) (order : Order) (before after : BusNow) (end : End) → ((c : Commission) → j ≡ Ok c → c.options ≡ options) → OrderFor j order
    → ((c : Commission) → IsOrder c order → c.options ≡ options → Runs c before after end) → Comes j before after end
decided (Err why) options order before after end has o runs = absurd o
decided (Ok c) options order before after end has o runs = runs c o (has c refl)

pub decided_run : (words : SimWords) (texts : SimTexts) (order : Order) (before after : BusNow) (end : End) → OrderFor (judged words texts) order
    → ((c : Commission) → IsOrder c order → c.options ≡ words.options → Runs c before after end) → Comes (judged words texts) before after end
decided_run words texts order before after end o runs = decided (judged words texts) words.options order before after end (its_options words texts) o runs

-- ---- the whole of it

pub runs_script : (words : SimWords) (files files' : FilesNow) (before : BusNow) (after : Left) (texts : SimTexts) (end : End)
    → SimIsRead files.file words texts → OnlyRose (failed_of_sim words texts) files.faults files'.faults → Comes (judged words texts) before after.line end → after.report ≡ report_in end → RunsScript words files files' before after (Is end)
runs_script words files files' before after texts end is counts comes report = record {
  texts = texts;
  is_read = is;
  counts = counts;
  end = end;
  stops = stops_by (after.line ≡ before) (λ (c : Commission). Runs c before after.line) (sim_tests words texts) (commission_told words texts) (judged words texts) end (judged_is words texts) comes;
  runs = does_by (after.line ≡ before) (λ (c : Commission). Runs c before after.line) (sim_tests words texts) (commission_told words texts) (judged words texts) end (judged_is words texts) comes;
  report = report;
  replied = refl;
}

-- ---- what is written of it

pub run_wants : (c : Commission) (before after : BusNow) (end : End) → Runs c before after end → Runs c before after (wanting end)
run_wants c before after (ends.Stops told) h = (refl, h.1)
run_wants c before after (ends.Tells text) h = absurd h
run_wants c before after ends.NotOpened h = absurd h
run_wants c before after (ends.BreaksOff report want) h = h
run_wants c before after (ends.Reports told) h = (told.jobs, h.ran)
run_wants c before after (ends.Sums told counts) h = absurd h
run_wants c before after (ends.Serves served) h = absurd h
run_wants c before after (ends.Finds searched) h = absurd h
run_wants c before after (ends.Assigns given) h = absurd h

pub script_written : (words : SimWords) (files files' : FilesNow) (before : BusNow) (after : Left) (end : End) (Replied : End → Type 0) → RunsScript words files files' before after (Is end) → Replied end ⊎ Replied (wanting end)
    → RunsScript words files files' before after Replied
script_written words files files' before after end Replied t (inl replied) = record {
  texts = t.texts;
  is_read = t.is_read;
  counts = t.counts;
  end = t.end;
  stops = t.stops;
  runs = t.runs;
  report = t.report;
  replied = subst Replied (sym t.replied) replied;
}
script_written words files files' before after end Replied t (inr replied) = record {
  texts = t.texts;
  is_read = t.is_read;
  counts = t.counts;
  end = wanting t.end;
  stops = λ why e. (stop_wants why t.end (t.stops why e).0, (t.stops why e).1);
  runs = λ e. run_wants (commission_told words t.texts) before after.line t.end (t.runs e);
  report = t.report ∙ sym (report_wants t.end);
  replied = subst (λ (told : End). Replied (wanting told)) (sym t.replied) replied;
}
