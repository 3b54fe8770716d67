-- Valid input is told whole, or there was no memory.
use Rattle.std.proofs.Common.{◌≡◌, Bool, true, false, List, [], ◌∷◌, Option, Some, None, Ok, Err, refl, sym, ap, ◌∙◌, subst, inl, inr, ◌⊎◌, ℕ}
use Rattle.frame_text.specs.FrameText.{IsFrameText, hex_word}
use Rattle.call_words.specs.declared.stop.Stop.{Stop}
use Rattle.call_words.specs.declared.stop.Stop.TheVariants as stop
use Rattle.knx_model.specs.declared.outside.files.FileFault.TheVariants as fault
use Rattle.call_words.specs.declared.status.Status.{Status}
use Rattle.call_words.specs.declared.status.Status.TheVariants as status
use Rattle.knx_model.specs.Meaning.{Installation}
use Rattle.knx_model.specs.Outside.{FileContent, FilesNow, SinkNow, Untold, Absent, Holds, MayRead, Rose}
use Rattle.call_words.specs.ReportText.{stop_status}
use Rattle.call_parts.specs.Input.{limit, goes_on, IsRead, failed, first_some, OnlyRose, fault_in}
use Rattle.call_parts.specs.Ending.{StopsFor, Replies, end_status, TellsText, TellsOf}
use Rattle.knx_top.specs.Complete.{reading_told, named_told, texts_told, IsValid, NoneRose, IsToldWhole}
use Rattle.call_parts.specs.declared.project.ProjectTexts.{ProjectTexts}
use Rattle.call_parts.specs.declared.input.Reading.{Reading}
use Rattle.call_parts.specs.declared.input.Reading.TheVariants as read
use Rattle.call_parts.specs.declared.ending.End.{End}
use Rattle.call_parts.specs.declared.ending.End.TheVariants as ends
use Rattle.call_parts.specs.Project.{ProjectWords, failed_of_project, project_tests, project_told, TellsOfProject}
use Rattle.knx_top.specs.commands.decode.{TellsOfFrame, octets_or_usage}

-- ---- what was read

abbrev pub wanting : Reading
wanting = read.Fault (fault.NoMemory tt)

whole_of : (content : FileContent) (octets : List ℕ) → goes_on (reading_told content) ≡ true → MayRead content limit (Ok octets) → read.Whole octets ≡ reading_told content
whole_of Untold octets there may = absurd cc
whole_of Absent octets there may = absurd may
whole_of (Holds content) octets there may = ap (λ (l : List ℕ). read.Whole l) may

not_there : (content : FileContent) → goes_on (reading_told content) ≡ true → MayRead content limit (Err fault.NotThere) → ⊥
not_there Untold there may = cc
not_there Absent there may = cc
not_there (Holds content) there may = may

pub one_read : (file : List ℕ → FileContent) (turn : Bool) (name : List ℕ) (reading : Reading) → turn ≡ true → goes_on (reading_told (file name)) ≡ true → IsRead file turn (Some name) reading → failed (Some name) reading ≡ None
    → (reading ≡ reading_told (file name)) ⊎ (reading ≡ wanting)
one_read file turn name read.Unnamed on there is none = absurd (let e : Some name ≡ None = is.1 in cc)
one_read file turn name read.Unread on there is none = absurd (let e : true ≡ false = sym on ∙ is in cc)
one_read file turn name (read.Whole octets) on there is none = inl (whole_of (file name) octets there is.1)
one_read file turn name (read.Fault fault.NotThere) on there is none = absurd (not_there (file name) there is.1)
one_read file turn name (read.Fault fault.Failed) on there is none = absurd cc
one_read file turn name (read.Fault (fault.NoMemory want)) on there is none = inr refl

pub named_read : (file : List ℕ → FileContent) (name : Option (List ℕ)) (reading : Reading) → goes_on (named_told file name) ≡ true → IsRead file true name reading → failed name reading ≡ None → (reading ≡ named_told file name) ⊎ (reading ≡ wanting)
named_read file None read.Unnamed there is none = inl refl
named_read file None read.Unread there is none = absurd (let e : true ≡ false = is in cc)
named_read file None (read.Whole octets) there is none = absurd is
named_read file None (read.Fault why) there is none = absurd is
named_read file (Some name) reading there is none = one_read file true name reading refl there is none

pub none_failed : (one : Option (List ℕ)) (faults faults' : List ℕ → ℕ) → ((name : List ℕ) → ¬ Rose (faults name) (faults' name)) → OnlyRose one faults faults' → one ≡ None
none_failed None faults faults' still h = refl
none_failed (Some name) faults faults' still h = absurd (still name h.0)

first_none : (one other : Option (List ℕ)) → first_some (one ∷ other ∷ []) ≡ None → one ≡ None
first_none None other e = refl
first_none (Some name) other e = absurd cc

second_none : (one other : Option (List ℕ)) → first_some (one ∷ other ∷ []) ≡ None → other ≡ None
second_none None None e = refl
second_none None (Some name) e = absurd cc
second_none (Some name) other e = absurd cc

pub no_fault : (name : Option (List ℕ)) (reading : Reading) → goes_on reading ≡ true → fault_in name reading ≡ None
no_fault name read.Unnamed on = refl
no_fault name read.Unread on = refl
no_fault name (read.Whole octets) on = refl
no_fault name (read.Fault why) on = absurd (let e : false ≡ true = on in cc)

-- ---- the first test

first_wants : (words : ProjectWords) (catalogue project : Reading) → catalogue ≡ wanting → first_some (project_tests words (record { catalogue = catalogue; project = project })) ≡ Some (stop.NoMemory tt)
first_wants words catalogue project e = subst (λ (r : Reading). first_some (project_tests words (record { catalogue = r; project = project })) ≡ Some (stop.NoMemory tt)) (sym e) refl

some_then : (one other : Option Stop) (others : List (Option Stop)) (why : Stop) → one ≡ None → other ≡ Some why → first_some (one ∷ other ∷ others) ≡ Some why
some_then None (Some told) others why e f = f
some_then None None others why e f = absurd cc
some_then (Some told) other others why e f = absurd cc

second_wants : (words : ProjectWords) (catalogue project : Reading) → goes_on catalogue ≡ true → project ≡ wanting → first_some (project_tests words (record { catalogue = catalogue; project = project })) ≡ Some (stop.NoMemory tt)
second_wants words catalogue project on e =
    some_then (fault_in words.catalogue catalogue) (fault_in (Some words.project) project) _ (stop.NoMemory tt) (no_fault words.catalogue catalogue on) (ap (fault_in (Some words.project)) e)

-- ---- what is told

pub memory_told : (end : End) → StopsFor (stop.NoMemory tt) end → end_status end ≡ status.NoMemory tt
memory_told (ends.Stops told) (inl e) = ap stop_status e
memory_told (ends.Stops told) (inr e) = ap stop_status e
memory_told (ends.Tells text) h = absurd h
memory_told ends.NotOpened h = absurd h
memory_told (ends.BreaksOff report want) h = absurd h
memory_told (ends.Reports told) h = absurd h
memory_told (ends.Sums told counts) h = absurd h
memory_told (ends.Serves served) h = absurd h
memory_told (ends.Finds searched) h = absurd h
memory_told (ends.Assigns given) h = absurd h

pub ended : (end : End) (out out' : SinkNow) (ending : Status) → ¬ Rose out.faults out'.faults → Replies out out' ending end → ending ≡ end_status end
ended end out out' ending still (inl wrote) = wrote.0
ended end out out' ending still (inr refused) = absurd (still refused.2)

told_whole : (IsText : List ℕ → Type 0) (end : End) (out out' : SinkNow) (ending : Status) → ¬ Rose out.faults out'.faults → TellsText IsText end → Replies out out' ending end → IsToldWhole IsText out out' ending
told_whole IsText (ends.Stops told) out out' ending still h replied = inl (ended (ends.Stops told) out out' ending still replied ∙ ap stop_status h)
told_whole IsText (ends.Tells text) out out' ending still h (inl wrote) = inr (wrote.0, (text, (h, wrote.1)))
told_whole IsText (ends.Tells text) out out' ending still h (inr refused) = absurd (still refused.2)
told_whole IsText ends.NotOpened out out' ending still h replied = absurd h
told_whole IsText (ends.BreaksOff report want) out out' ending still h replied = absurd h
told_whole IsText (ends.Reports told) out out' ending still h replied = absurd h
told_whole IsText (ends.Sums told counts) out out' ending still h replied = absurd h
told_whole IsText (ends.Serves served) out out' ending still h replied = absurd h
told_whole IsText (ends.Finds searched) out out' ending still h replied = absurd h
told_whole IsText (ends.Assigns given) out out' ending still h replied = absurd h

-- by what came of both files
by_readings : (IsText : Installation → List ℕ → Type 0) (words : ProjectWords) (files files' : FilesNow) (out out' : SinkNow) (ending : Status)
    → (valid : IsValid files.file words) → ¬ Rose out.faults out'.faults → (t : TellsOfProject IsText words files files' (Replies out out' ending))
    → (t.texts.catalogue ≡ named_told files.file words.catalogue) ⊎ (t.texts.catalogue ≡ wanting)
    → (goes_on t.texts.catalogue ≡ true → (t.texts.project ≡ reading_told (files.file words.project)) ⊎ (t.texts.project ≡ wanting))
    → IsToldWhole (IsText (project_told (texts_told files.file words))) out out' ending
by_readings IsText words files files' out out' ending valid still t (inr none) project =
    inl (ended t.end out out' ending still t.replied ∙ memory_told t.end (t.stops (stop.NoMemory tt) (first_wants words t.texts.catalogue t.texts.project none)))
by_readings IsText words files files' out out' ending valid still t (inl read) project =
    let on : goes_on t.texts.catalogue ≡ true = ap goes_on read ∙ valid.catalogue in
    by_project (project on)
  where
    both : (a b c d : Reading) → a ≡ b → c ≡ d → (let one : ProjectTexts = record { catalogue = a; project = c } in let other : ProjectTexts = record { catalogue = b; project = d } in one ≡ other)
    both a b c d e f = rw (e, f) refl

    by_project : (t.texts.project ≡ reading_told (files.file words.project)) ⊎ (t.texts.project ≡ wanting) → IsToldWhole (IsText (project_told (texts_told files.file words))) out out' ending
    by_project (inr none) =
        inl (ended t.end out out' ending still t.replied ∙ memory_told t.end (t.stops (stop.NoMemory tt) (second_wants words t.texts.catalogue t.texts.project (ap goes_on read ∙ valid.catalogue) none)))
    by_project (inl whole) =
        let same : texts_told files.file words ≡ t.texts = sym (both t.texts.catalogue (named_told files.file words.catalogue) t.texts.project (reading_told (files.file words.project)) read whole) in
        let passes : first_some (project_tests words t.texts) ≡ None = subst (λ (x : ProjectTexts). first_some (project_tests words x) ≡ None) same valid.passes in
        let told : TellsText (IsText (project_told (texts_told files.file words))) t.end = subst (λ (x : ProjectTexts). TellsText (IsText (project_told x)) t.end) (sym same) (t.tells passes) in
        told_whole (IsText (project_told (texts_told files.file words))) t.end out out' ending still told t.replied

pub complete : (IsText : Installation → List ℕ → Type 0) (words : ProjectWords) (files files' : FilesNow) (out out' : SinkNow) (ending : Status)
    → IsValid files.file words → NoneRose files files' out out' → TellsOfProject IsText words files files' (Replies out out' ending) → IsToldWhole (IsText (project_told (texts_told files.file words))) out out' ending
complete IsText words files files' out out' ending valid still t =
    let none : failed_of_project words t.texts ≡ None = none_failed _ files.faults files'.faults still.reads t.counts in
    by_readings IsText words files files' out out' ending valid still.writes t
    (named_read files.file words.catalogue t.texts.catalogue valid.catalogue t.is_read.catalogue (first_none _ _ none))
    (λ on. one_read files.file (goes_on t.texts.catalogue) words.project t.texts.project on valid.project t.is_read.project (second_none _ _ none))

-- ---- `decode`

pub decoded : (word octets : List ℕ) (out out' : SinkNow) (ending : Status) → hex_word word ≡ Some octets → ¬ Rose out.faults out'.faults → TellsOfFrame word (Replies out out' ending) → IsToldWhole (IsFrameText octets) out out' ending
decoded word octets out out' ending is still t =
    told_whole (IsFrameText octets) t.end out out' ending still (subst (λ (found : Option (List ℕ)). TellsOf IsFrameText (octets_or_usage found) t.end) is t.tells) t.replied
