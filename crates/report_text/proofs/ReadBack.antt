-- What the text of a run tells: its sections are found again, and what they tell is the same where the text is.
use Rattle.std.proofs.Common.{◌≡◌, ℕ, Bool, true, false, List, [], ◌∷◌, ◌++◌, length, map, bytes_eq, Option, Some, None, if◌then◌else◌, refl, sym, ap, ap₂, ◌∙◌, append-nil, arith, codes}
use Rattle.std.specs.Fmt.{decimal}
use Rattle.std.specs.List.{list_any, enumerate_from, range_with_len}
use Rattle.std.proofs.lemmas.Fmt.{decimal_injective}
use Rattle.std.proofs.lemmas.List.Concat.{flat_map-append}
use Rattle.std.proofs.lemmas.Bool.{or_parts}
use Rattle.line_model.specs.declared.fault.HubFault.{HubFault}
use Rattle.line_model.specs.declared.fault.HubFault.TheVariants.{NoMemory, LinkFailed, GatewayRefused, Flooded, WrongLine}
use Rattle.line_model.specs.declared.log.LogEntry.{LogEntry}
use Rattle.line_model.specs.declared.log.Report.{Report}
use Rattle.call_words.specs.Printed.{is_told_alone}
use Rattle.report_text.specs.ReadBack.{Told, NumbersFit, FitsEntry, FitsHeard, FitsDevice, Fits, text_of, untimed_entry, TellAlike, FaultIsTold, WholeIsTold, LogIsTold}
use Rattle.report_text.proofs.Cuts.{Words}
use Rattle.report_text.proofs.OneEnd.{EndsInLine, end_in_line, all_both}
use Rattle.report_text.proofs.ReadEnds.{end_same, sent_same}
use Rattle.report_text.proofs.ReadLines.{fault_tails, fault_same, jobs_same, ends_same, turns_same, heard_same, device_same, entry_same}
use Rattle.report_text.proofs.ReadWords.{images, lists}
use Rattle.report_text.proofs.Sections.{Section, those_of, log_sections, run_sections, fault_sections, sections_by, same_sections, job_tail, turn_tail, heard_tail, device_tail, entry_tail}

abbrev is : List ℕ → List ℕ → Bool
is v w = bytes_eq v w

-- ---- sections that begin with other words

none_by : (b : Bool) (tails : List Words) → b ≡ false → (if b then tails else []) ++ [] ≡ []
none_by b tails e = rw e refl

abbrev faults : List (List ℕ)
faults = codes "no" ∷ codes "link" ∷ codes "gateway" ∷ codes "flooded" ∷ codes "wrong" ∷ []

fault_none : (p : List ℕ → Bool) → list_any p faults ≡ false → (fault : Option HubFault) → those_of p (fault_sections fault) ≡ []
fault_none p e fault =
    let a = or_parts (p (codes "no")) (list_any p (codes "link" ∷ codes "gateway" ∷ codes "flooded" ∷ codes "wrong" ∷ [])) e in
    let b = or_parts (p (codes "link")) (list_any p (codes "gateway" ∷ codes "flooded" ∷ codes "wrong" ∷ [])) a.1 in
    let c = or_parts (p (codes "gateway")) (list_any p (codes "flooded" ∷ codes "wrong" ∷ [])) b.1 in
    let d = or_parts (p (codes "flooded")) (list_any p (codes "wrong" ∷ [])) c.1 in
    let f = or_parts (p (codes "wrong")) false d.1 in
    by_fault a.0 b.0 c.0 d.0 f.0 fault
  where
    by_fault : p (codes "no") ≡ false → p (codes "link") ≡ false → p (codes "gateway") ≡ false → p (codes "flooded") ≡ false → p (codes "wrong") ≡ false → (why : Option HubFault) → those_of p (fault_sections why) ≡ []
    by_fault a b c d f None = refl
    by_fault a b c d f (Some (NoMemory want)) = none_by (p (codes "no")) _ a
    by_fault a b c d f (Some LinkFailed) = none_by (p (codes "link")) _ b
    by_fault a b c d f (Some (GatewayRefused tries)) = none_by (p (codes "gateway")) _ c
    by_fault a b c d f (Some Flooded) = none_by (p (codes "flooded")) _ d
    by_fault a b c d f (Some (WrongLine device tunnel)) = none_by (p (codes "wrong")) _ f

log_none : (p : List ℕ → Bool) → p (codes "log") ≡ false → p (codes "dropped") ≡ false → (with_log : Bool) (report : Report) → those_of p (log_sections with_log report) ≡ []
log_none p e f false report = refl
log_none p e f true report = rw (e, f) refl

joined : (p : List ℕ → Bool) (front back : List Section) (a b : List Words) → those_of p front ≡ a → those_of p back ≡ b → those_of p (front ++ back) ≡ a ++ b
joined p front back a b e f = flat_map-append (λ (s : Section). if p s.0 then s.1 else []) front back ∙ ap₂ (λ (x y : List Words). x ++ y) e f

only : (p : List ℕ → Bool) (w : List ℕ) (tails : List Words) (front back : List Section) → those_of p front ≡ [] → those_of p back ≡ [] → p w ≡ true → those_of p (front ++ (w, tails) ∷ back) ≡ tails
only p w tails front back e f t = joined p front ((w, tails) ∷ back) [] tails e (ap₂ (λ (b : Bool) (xs : List Words). (if b then tails else []) ++ xs) t f ∙ append-nil tails)

-- ---- the sections of a run that isn't told alone

module _ (told : Told) (with_log : Bool) where
  abbrev jobs : Section
  jobs = (codes "job", map (job_tail told.report.log) (enumerate_from 1 told.jobs))

  abbrev turns : Section
  turns = (codes "group", map (turn_tail told.report.log) (range_with_len 1 told.turns))

  abbrev heard : Section
  heard = (codes "heard", map heard_tail told.report.heard)

  abbrev shown : Section
  shown = (codes "device", map device_tail told.devices)

  abbrev missed : Section
  missed = (codes "missed", (decimal told.report.missed ∷ []) ∷ [])

  abbrev rest : List Section
  rest = log_sections with_log told.report ++ fault_sections told.report.fault

  rest_none : (p : List ℕ → Bool) → p (codes "log") ≡ false → p (codes "dropped") ≡ false → list_any p faults ≡ false → those_of p rest ≡ []
  rest_none p e f g =
      joined p (log_sections with_log told.report) (fault_sections told.report.fault) [] [] (log_none p e f with_log told.report) (fault_none p g told.report.fault)

  jobs_found : those_of (is (codes "job")) (sections_by told with_log false) ≡ jobs.1
  jobs_found = only (is (codes "job")) (codes "job") jobs.1 [] (turns ∷ heard ∷ shown ∷ missed ∷ rest) refl (rest_none (is (codes "job")) refl refl refl) refl

  turns_found : those_of (is (codes "group")) (sections_by told with_log false) ≡ turns.1
  turns_found = only (is (codes "group")) (codes "group") turns.1 (jobs ∷ []) (heard ∷ shown ∷ missed ∷ rest) refl (rest_none (is (codes "group")) refl refl refl) refl

  heard_found : those_of (is (codes "heard")) (sections_by told with_log false) ≡ heard.1
  heard_found = only (is (codes "heard")) (codes "heard") heard.1 (jobs ∷ turns ∷ []) (shown ∷ missed ∷ rest) refl (rest_none (is (codes "heard")) refl refl refl) refl

  shown_found : those_of (is (codes "device")) (sections_by told with_log false) ≡ shown.1
  shown_found = only (is (codes "device")) (codes "device") shown.1 (jobs ∷ turns ∷ heard ∷ []) (missed ∷ rest) refl (rest_none (is (codes "device")) refl refl refl) refl

  missed_found : those_of (is (codes "missed")) (sections_by told with_log false) ≡ missed.1
  missed_found = only (is (codes "missed")) (codes "missed") missed.1 (jobs ∷ turns ∷ heard ∷ shown ∷ []) rest refl (rest_none (is (codes "missed")) refl refl refl) refl

abbrev dropped_tails : Bool → Report → List Words
dropped_tails true report = (decimal report.dropped ∷ []) ∷ []
dropped_tails false report = []

dropped_found : (told : Told) (with_log : Bool) → those_of (is (codes "dropped")) (sections_by told with_log false) ≡ dropped_tails with_log told.report
dropped_found told true =
    only (is (codes "dropped")) (codes "dropped") (dropped_tails true told.report)
    (jobs told true ∷ turns told true ∷ heard told true ∷ shown told true ∷ missed told true ∷ (codes "log", map entry_tail told.report.log) ∷ []) (fault_sections told.report.fault)
    refl (fault_none (is (codes "dropped")) refl told.report.fault) refl
dropped_found told false = fault_none (is (codes "dropped")) refl told.report.fault

log_found : (told : Told) → those_of (is (codes "log")) (sections_by told true false) ≡ map entry_tail told.report.log
log_found told =
    only (is (codes "log")) (codes "log") (map entry_tail told.report.log)
    (jobs told true ∷ turns told true ∷ heard told true ∷ shown told true ∷ missed told true ∷ []) ((codes "dropped", dropped_tails true told.report) ∷ fault_sections told.report.fault)
    refl (fault_none (is (codes "log")) refl told.report.fault) refl

-- ---- why a run ended

is_fault : List ℕ → Bool
is_fault w = list_any (is w) faults

fault_only : (fault : Option HubFault) → those_of is_fault (fault_sections fault) ≡ fault_tails fault
unfolding is_fault
fault_only None = refl
fault_only (Some (NoMemory want)) = refl
fault_only (Some LinkFailed) = refl
fault_only (Some (GatewayRefused tries)) = refl
fault_only (Some Flooded) = refl
fault_only (Some (WrongLine device tunnel)) = refl

run_has_none : (told : Told) (with_log : Bool) → those_of is_fault (run_sections told with_log) ≡ []
unfolding is_fault
run_has_none told true = refl
run_has_none told false = refl

fault_found : (told : Told) (with_log alone : Bool) → those_of is_fault (sections_by told with_log alone) ≡ fault_tails told.report.fault
fault_found told with_log true = fault_only told.report.fault
fault_found told with_log false =
    joined is_fault (run_sections told with_log) (fault_sections told.report.fault) [] (fault_tails told.report.fault) (run_has_none told with_log) (fault_only told.report.fault)

pub fault_is_told : FaultIsTold
fault_is_told one other with_log with_its_log p q e =
    fault_same one.report.fault other.report.fault p.fault q.fault
    (sym (fault_found one with_log (is_told_alone one.report.fault)) ∙ (same_sections one other with_log with_its_log e is_fault
    ∙ fault_found other with_its_log (is_told_alone other.report.fault)))

-- ---- the whole, and the log

options_same : (a b : Bool) (one other : Report) → dropped_tails a one ≡ dropped_tails b other → a ≡ b
options_same true true one other e = refl
options_same true false one other e = absurd (let z : (decimal one.dropped ∷ []) ∷ [] ≡ [] = e in cc)
options_same false true one other e = absurd (let z : [] ≡ (decimal other.dropped ∷ []) ∷ [] = e in cc)
options_same false false one other e = refl

number_same : (m n : ℕ) → Fits m → Fits n → (decimal m ∷ []) ∷ [] ≡ (decimal n ∷ []) ∷ [] → m ≡ n
number_same m n p q e = let z : decimal m ≡ decimal n = cc in decimal_injective m n p q z

module _ (one other : Told) (with_log with_its_log : Bool) (p : NumbersFit one) (q : NumbersFit other) (whole : is_told_alone one.report.fault ≡ false) (e : text_of one with_log ≡ text_of other with_its_log) where
  its_whole : is_told_alone other.report.fault ≡ false
  its_whole = ap is_told_alone (sym (fault_is_told one other with_log with_its_log p q e)) ∙ whole

  same : (w : List ℕ) (a b : List Words) → those_of (is w) (sections_by one with_log false) ≡ a → those_of (is w) (sections_by other with_its_log false) ≡ b → a ≡ b
  same w a b f g =
      sym (ap (λ (alone : Bool). those_of (is w) (sections_by one with_log alone)) whole ∙ f)
      ∙ (same_sections one other with_log with_its_log e (is w) ∙ (ap (λ (alone : Bool). those_of (is w) (sections_by other with_its_log alone)) its_whole ∙ g))

  job_lines : map (job_tail one.report.log) (enumerate_from 1 one.jobs) ≡ map (job_tail other.report.log) (enumerate_from 1 other.jobs)
  job_lines = same (codes "job") _ _ (jobs_found one with_log) (jobs_found other with_its_log)

  turn_lines : map (turn_tail one.report.log) (range_with_len 1 one.turns) ≡ map (turn_tail other.report.log) (range_with_len 1 other.turns)
  turn_lines = same (codes "group") _ _ (turns_found one with_log) (turns_found other with_its_log)

  dropped_lines : dropped_tails with_log one.report ≡ dropped_tails with_its_log other.report
  dropped_lines = same (codes "dropped") _ _ (dropped_found one with_log) (dropped_found other with_its_log)

  tell_alike : TellAlike one other with_log with_its_log
  tell_alike = record {
    jobs = jobs_same one.report.log other.report.log 1 one.jobs other.jobs p.jobs q.jobs job_lines;
    ends = λ job from to. end_same job one.report.log other.report.log p.log q.log (ends_same one.report.log other.report.log 1 one.jobs other.jobs job_lines job from (omega arith));
    turns = turns_same one.report.log other.report.log 1 one.turns other.turns turn_lines;
    sent = λ turn from to. sent_same one.report.log other.report.log 1 one.turns other.turns turn_lines turn from (omega arith);
    heard = lists heard_tail FitsHeard heard_same one.report.heard other.report.heard p.heard q.heard (same (codes "heard") _ _ (heard_found one with_log) (heard_found other with_its_log));
    missed = number_same one.report.missed other.report.missed p.missed q.missed (same (codes "missed") _ _ (missed_found one with_log) (missed_found other with_its_log));
    devices = lists device_tail FitsDevice device_same one.devices other.devices p.devices q.devices (same (codes "device") _ _ (shown_found one with_log) (shown_found other with_its_log));
    log = options_same with_log with_its_log one.report other.report dropped_lines;
  }

pub whole_is_told : WholeIsTold
whole_is_told = tell_alike

pub log_is_told : LogIsTold
log_is_told one other p q it its whole e =
    let lines = job_lines one other true true p q whole e in
    let entries : map entry_tail one.report.log ≡ map entry_tail other.report.log = same one other true true p q whole e (codes "log") _ _ (log_found one) (log_found other) in
    let log : List LogEntry = one.report.log in
    let logs : List LogEntry = other.report.log in (
      images entry_tail untimed_entry (λ x. FitsEntry x × EndsInLine log (length one.jobs) x) (λ y. FitsEntry y × EndsInLine logs (length other.jobs) y)
          (entry_same log logs (length one.jobs) (length other.jobs) (λ k from to. ends_same log logs 1 one.jobs other.jobs lines k from to))
          log logs (all_both FitsEntry (EndsInLine log (length one.jobs)) log p.log (end_in_line one it)) (all_both FitsEntry (EndsInLine logs (length other.jobs)) logs q.log (end_in_line other its)) entries,
      number_same one.report.dropped other.report.dropped p.dropped q.dropped (dropped_lines one other true true p q whole e),
    )
