-- The text of a run in sections: lines that begin with one word. A section is found again by its word.
use Rattle.std.proofs.Common.{◌≡◌, ℕ, Bool, true, false, ◌&&◌, List, [], ◌∷◌, ◌++◌, map, Option, Some, None, if◌then◌else◌, refl, sym, ap, ap₂, ◌∙◌, append-nil, codes}
use Rattle.std.specs.Fmt.{decimal}
use Rattle.std.specs.List.{list_all, filter_map, flat_map, enumerate_from, range_with_len}
use Rattle.std.proofs.lemmas.Bool.{and_from, and_parts}
use Rattle.std.proofs.lemmas.List.Concat.{flat_map-append}
use Rattle.std.proofs.lemmas.List.Elements.{filter_map-append}
use Rattle.std.proofs.lemmas.List.Folds.{list_all-append, flat_map-map}
use Rattle.call_words.specs.declared.job_word.JobWord.{JobWord}
use Rattle.knx_model.specs.Addresses.{device_text, group_text}
use Rattle.call_words.specs.ReportText.{job_word, case_word, first_or_open}
use Rattle.knx_model.specs.TextLines.{line}
use Rattle.line_model.specs.declared.fault.HubFault.{HubFault}
use Rattle.line_model.specs.declared.fault.HubFault.TheVariants.{NoMemory, LinkFailed, GatewayRefused, Flooded, WrongLine}
use Rattle.line_model.specs.declared.group.Indication.{Indication}
use Rattle.line_model.specs.declared.log.LogEntry.{LogEntry}
use Rattle.line_model.specs.declared.log.Report.{Report}
use Rattle.call_words.specs.Printed.{DeviceShown, is_told_alone, run_lines, log_lines, fault_line, line_report_text, end_of, end_of_turn, service_words, value_word, what_words, try_word}
use Rattle.report_text.specs.ReadBack.{Told, text_of}
use Rattle.report_text.proofs.Cuts.{Words, is_word, is_line, same_lines}
use Rattle.report_text.proofs.Plain.{are_words, each, decimal_plain, device_plain, group_plain, job_plain, case_plain, try_plain, shown_plain, service_plain, what_plain, end_plain, turn_end_plain}

-- a word, and what stands behind it on each line
abbrev pub Section : Type 0
Section = List ℕ × List Words

abbrev pub lines_of : Section → List Words
lines_of s = map (λ (ws : Words). s.0 ∷ ws) s.1

-- ---- found again

abbrev pub behind_word : (List ℕ → Bool) → Words → Option Words
behind_word p [] = None
behind_word p (w ∷ ws) = if p w then Some ws else None

abbrev pub those_of : (List ℕ → Bool) → List Section → List Words
those_of p sections = flat_map (λ (s : Section). if p s.0 then s.1 else []) sections

found_by : (p : List ℕ → Bool) (w : List ℕ) (b : Bool) → p w ≡ b → (tails : List Words) → filter_map (behind_word p) (map (λ (ws : Words). w ∷ ws) tails) ≡ (if b then tails else [])
found_by p w true e [] = refl
found_by p w false e [] = refl
found_by p w true e (ws ∷ tails) = rw e (ap (λ (xs : List Words). ws ∷ xs) (found_by p w true e tails))
found_by p w false e (ws ∷ tails) = rw e (found_by p w false e tails)

pub found : (p : List ℕ → Bool) (sections : List Section) → filter_map (behind_word p) (flat_map lines_of sections) ≡ those_of p sections
found p [] = refl
found p (s ∷ sections) =
    filter_map-append (behind_word p) (lines_of s) (flat_map lines_of sections)
    ∙ ap₂ (λ (a b : List Words). a ++ b) (found_by p s.0 (p s.0) refl s.1) (found p sections)

-- ---- what has no space in it

abbrev is_plain : Section → Bool
is_plain s = is_word s.0 && list_all are_words s.1

plain_section : (w : List ℕ) → is_word w ≡ true → (tails : List Words) → list_all are_words tails ≡ true → list_all is_line (map (λ (ws : Words). w ∷ ws) tails) ≡ true
plain_section w e [] f = refl
plain_section w e (ws ∷ tails) f =
    let h = and_parts (are_words ws) (list_all are_words tails) f in
    and_from (is_word w && are_words ws) _ (and_from (is_word w) (are_words ws) e h.0) (plain_section w e tails h.1)

plain_lines : (sections : List Section) → list_all is_plain sections ≡ true → list_all is_line (flat_map lines_of sections) ≡ true
plain_lines [] e = refl
plain_lines (s ∷ sections) e =
    let h = and_parts (is_plain s) (list_all is_plain sections) e in
    let k = and_parts (is_word s.0) (list_all are_words s.1) h.0 in
    list_all-append is_line (lines_of s) (flat_map lines_of sections) ∙ and_from _ _ (plain_section s.0 k.0 s.1 k.1) (plain_lines sections h.1)

-- ---- the sections of a run

abbrev pub job_tail : List LogEntry → ℕ × JobWord → Words
job_tail log p = decimal p.0 ∷ job_word p.1.kind ∷ device_text p.1.device ∷ first_or_open (filter_map (λ entry. end_of p.0 entry.what) log)

abbrev pub turn_tail : List LogEntry → ℕ → Words
turn_tail log k = decimal k ∷ first_or_open (filter_map (λ entry. end_of_turn k entry.what) log)

abbrev pub heard_tail : Indication → Words
heard_tail heard = group_text heard.group ∷ device_text heard.from ∷ service_words heard.service

abbrev pub device_tail : DeviceShown → Words
device_tail d = device_text d.device ∷ case_word d.case ∷ map value_word d.values

abbrev pub entry_tail : LogEntry → Words
entry_tail entry = decimal entry.at ∷ decimal entry.worker ∷ what_words entry.what

abbrev pub log_sections : Bool → Report → List Section
log_sections true report = (codes "log", map entry_tail report.log) ∷ (codes "dropped", (decimal report.dropped ∷ []) ∷ []) ∷ []
log_sections false report = []

abbrev pub run_sections : Told → Bool → List Section
run_sections told with_log =
    (codes "job", map (job_tail told.report.log) (enumerate_from 1 told.jobs))
    ∷ (codes "group", map (turn_tail told.report.log) (range_with_len 1 told.turns))
    ∷ (codes "heard", map heard_tail told.report.heard)
    ∷ (codes "device", map device_tail told.devices)
    ∷ (codes "missed", (decimal told.report.missed ∷ []) ∷ [])
    ∷ log_sections with_log told.report

abbrev pub fault_sections : Option HubFault → List Section
fault_sections None = []
fault_sections (Some (NoMemory want)) = (codes "no", (codes "memory" ∷ []) ∷ []) ∷ []
fault_sections (Some LinkFailed) = (codes "link", (codes "fault" ∷ []) ∷ []) ∷ []
fault_sections (Some (GatewayRefused tries)) = (codes "gateway", (codes "refused" ∷ map try_word tries) ∷ []) ∷ []
fault_sections (Some Flooded) = (codes "flooded", [] ∷ []) ∷ []
fault_sections (Some (WrongLine device tunnel)) = (codes "wrong", (codes "line" ∷ device_text device ∷ codes "tunnel" ∷ device_text tunnel ∷ []) ∷ []) ∷ []

abbrev pub sections_by : Told → Bool → Bool → List Section
sections_by told with_log alone = (if alone then [] else run_sections told with_log) ++ fault_sections told.report.fault

abbrev pub sections_of : Told → Bool → List Section
sections_of told with_log = sections_by told with_log (is_told_alone told.report.fault)

-- ---- they are the text

abbrev text : List Section → List ℕ
text sections = flat_map line (flat_map lines_of sections)

section_text : {X : Type 0} (w : List ℕ) (f : X → Words) (xs : List X) → flat_map (λ x. line (w ∷ f x)) xs ≡ flat_map line (lines_of (w, map f xs))
section_text w f xs = sym (flat_map-map line (λ (ws : Words). w ∷ ws) (map f xs) ∙ flat_map-map (λ (ws : Words). line (w ∷ ws)) f xs)

joined : (front back : List Section) → text (front ++ back) ≡ text front ++ text back
joined front back = ap (flat_map line) (flat_map-append lines_of front back) ∙ flat_map-append line (flat_map lines_of front) (flat_map lines_of back)

first_of_all : (s : Section) (a : List ℕ) → a ≡ flat_map line (lines_of s) → a ≡ text (s ∷ [])
first_of_all s a e = e ∙ ap (flat_map line) (sym (append-nil (lines_of s)))

next : (front back : List Section) (a b : List ℕ) → a ≡ text front → b ≡ text back → a ++ b ≡ text (front ++ back)
next front back a b e f = ap₂ (λ (x y : List ℕ). x ++ y) e f ∙ sym (joined front back)

log_text : (with_log : Bool) (report : Report) → log_lines with_log report ≡ text (log_sections with_log report)
log_text false report = refl
log_text true report =
    next ((codes "log", map entry_tail report.log) ∷ []) ((codes "dropped", (decimal report.dropped ∷ []) ∷ []) ∷ []) _ _
    (first_of_all (codes "log", map entry_tail report.log) _ (section_text (codes "log") entry_tail report.log)) (sym (append-nil _))

fault_text : (fault : Option HubFault) → fault_line fault ≡ text (fault_sections fault)
fault_text None = refl
fault_text (Some (NoMemory want)) = sym (append-nil _)
fault_text (Some LinkFailed) = sym (append-nil _)
fault_text (Some (GatewayRefused tries)) = sym (append-nil _)
fault_text (Some Flooded) = sym (append-nil _)
fault_text (Some (WrongLine device tunnel)) = sym (append-nil _)

run_text : (told : Told) (with_log : Bool) → run_lines told.report told.jobs told.turns told.devices with_log ≡ text (run_sections told with_log)
run_text told with_log =
    let log : List LogEntry = told.report.log in
    let jobs : Section = (codes "job", map (job_tail log) (enumerate_from 1 told.jobs)) in
    let turns : Section = (codes "group", map (turn_tail log) (range_with_len 1 told.turns)) in
    let heard : Section = (codes "heard", map heard_tail told.report.heard) in
    let devices : Section = (codes "device", map device_tail told.devices) in
    let missed : Section = (codes "missed", (decimal told.report.missed ∷ []) ∷ []) in
    let a = first_of_all jobs _ (section_text (codes "job") (job_tail log) (enumerate_from 1 told.jobs)) in
    let b = next (jobs ∷ []) (turns ∷ []) _ _ a (first_of_all turns _ (section_text (codes "group") (turn_tail log) (range_with_len 1 told.turns))) in
    let c = next (jobs ∷ turns ∷ []) (heard ∷ []) _ _ b (first_of_all heard _ (section_text (codes "heard") heard_tail told.report.heard)) in
    let d = next (jobs ∷ turns ∷ heard ∷ []) (devices ∷ []) _ _ c (first_of_all devices _ (section_text (codes "device") device_tail told.devices)) in
    let e = next (jobs ∷ turns ∷ heard ∷ devices ∷ []) (missed ∷ []) _ _ d (sym (append-nil (line (codes "missed" ∷ decimal told.report.missed ∷ [])))) in
    next (jobs ∷ turns ∷ heard ∷ devices ∷ missed ∷ []) (log_sections with_log told.report) _ _ e (log_text with_log told.report)

text_by : (told : Told) (with_log alone : Bool)
    → (if alone then [] else run_lines told.report told.jobs told.turns told.devices with_log) ++ fault_line told.report.fault ≡ text (sections_by told with_log alone)
text_by told with_log true = fault_text told.report.fault
text_by told with_log false = next (run_sections told with_log) (fault_sections told.report.fault) _ _ (run_text told with_log) (fault_text told.report.fault)

text_is : (told : Told) (with_log : Bool) → text_of told with_log ≡ text (sections_of told with_log)
unfolding line_report_text
text_is told with_log = text_by told with_log (is_told_alone told.report.fault)

-- ---- none has a space in it

all_plain : {X : Type 0} (f : X → Words) → ((x : X) → are_words (f x) ≡ true) → (xs : List X) → list_all are_words (map f xs) ≡ true
all_plain f h [] = refl
all_plain f h (x ∷ xs) = and_from (are_words (f x)) _ (h x) (all_plain f h xs)

log_plain : (with_log : Bool) (report : Report) → list_all is_plain (log_sections with_log report) ≡ true
log_plain false report = refl
log_plain true report =
    and_from _ _ (all_plain entry_tail (λ entry. and_from _ _ (decimal_plain entry.at) (and_from _ _ (decimal_plain entry.worker) (what_plain entry.what))) report.log)
    (and_from _ true (and_from _ true (and_from _ true (decimal_plain report.dropped) refl) refl) refl)

fault_plain : (fault : Option HubFault) → list_all is_plain (fault_sections fault) ≡ true
fault_plain None = refl
fault_plain (Some (NoMemory want)) = refl
fault_plain (Some LinkFailed) = refl
fault_plain (Some (GatewayRefused tries)) = and_from _ true (and_from _ true (each try_word try_plain tries) refl) refl
fault_plain (Some Flooded) = refl
fault_plain (Some (WrongLine device tunnel)) = and_from _ true (and_from _ true (and_from _ _ (device_plain device) (and_from _ true (device_plain tunnel) refl)) refl) refl

run_plain : (told : Told) (with_log : Bool) → list_all is_plain (run_sections told with_log) ≡ true
run_plain told with_log =
    let log : List LogEntry = told.report.log in
    and_from _ _ (all_plain (job_tail log) (λ p. and_from _ _ (decimal_plain p.0) (and_from _ _ (job_plain p.1.kind) (and_from _ _ (device_plain p.1.device) (end_plain p.0 log)))) (enumerate_from 1 told.jobs))
    (and_from _ _ (all_plain (turn_tail log) (λ k. and_from _ _ (decimal_plain k) (turn_end_plain k log)) (range_with_len 1 told.turns))
    (and_from _ _ (all_plain heard_tail (λ heard. and_from _ _ (group_plain heard.group) (and_from _ _ (device_plain heard.from) (service_plain heard.service))) told.report.heard)
    (and_from _ _ (all_plain device_tail (λ d. and_from _ _ (device_plain d.device) (and_from _ _ (case_plain d.case) (each value_word shown_plain d.values))) told.devices)
    (and_from _ _ (and_from _ true (and_from _ true (decimal_plain told.report.missed) refl) refl) (log_plain with_log told.report)))))

plain_by : (told : Told) (with_log alone : Bool) → list_all is_plain (sections_by told with_log alone) ≡ true
plain_by told with_log true = fault_plain told.report.fault
plain_by told with_log false = list_all-append is_plain (run_sections told with_log) (fault_sections told.report.fault) ∙ and_from _ _ (run_plain told with_log) (fault_plain told.report.fault)

-- ---- two texts that are the same have the same sections

pub same_sections : (one other : Told) (with_log with_its_log : Bool) → text_of one with_log ≡ text_of other with_its_log → (p : List ℕ → Bool)
    → those_of p (sections_of one with_log) ≡ those_of p (sections_of other with_its_log)
same_sections one other with_log with_its_log e p =
    let lines : flat_map lines_of (sections_of one with_log) ≡ flat_map lines_of (sections_of other with_its_log) =
    same_lines _ _ (plain_lines (sections_of one with_log) (plain_by one with_log (is_told_alone one.report.fault))) (plain_lines (sections_of other with_its_log) (plain_by other with_its_log (is_told_alone other.report.fault)))
    (sym (text_is one with_log) ∙ (e ∙ text_is other with_its_log)) in
    sym (found p (sections_of one with_log)) ∙ (ap (filter_map (behind_word p)) lines ∙ found p (sections_of other with_its_log))
