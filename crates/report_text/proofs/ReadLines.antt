-- Lines of a report that are the same tell the same.
use Rattle.std.proofs.Common.{◌≡◌, ℕ, zero, suc, ◌+◌, ◌<◌, ◌≤◌, ◌⊎◌, inl, inr, true, false, eqb, List, [], ◌∷◌, get_or, length, map, map-id, Some, None, Option, if◌then◌else◌, refl, sym, ap, ◌∙◌, arith, eq-eqb, codes}
use Rattle.std.specs.Prelude.{◌==◌}
use Rattle.std.specs.Fmt.{decimal}
use Rattle.std.specs.List.{AllByRecursion, enumerate_from, range_with_len}
use Rattle.std.proofs.lemmas.Bool.{cases_lt}
use Rattle.std.proofs.lemmas.Fmt.{decimal_injective}
use Rattle.call_words.specs.declared.job_word.JobWord.{JobWord}
use Rattle.knx_model.specs.Addresses.{device_text, group_text}
use Rattle.call_words.specs.ReportText.{sign_word, job_word, case_word, first_or_open}
use Rattle.knx_model.specs.TextLines.{octets_text}
use Rattle.line_model.specs.declared.fault.HubFault.{HubFault}
use Rattle.line_model.specs.declared.fault.HubFault.TheVariants.{NoMemory, LinkFailed, GatewayRefused, Flooded, WrongLine}
use Rattle.line_model.specs.declared.fault.Try.{Try}
use Rattle.line_model.specs.declared.group.Indication.{Indication}
use Rattle.line_model.specs.declared.log.LogEntry.{LogEntry}
use Rattle.line_model.specs.declared.log.LogWhat.{LogWhat}
use Rattle.line_model.specs.declared.log.LogWhat.TheVariants.{Took, Done, Failed, Refused, Sent, Lost}
use Rattle.call_words.specs.Printed.{DeviceShown, end_of, value_word, service_words, what_words, try_word}
use Rattle.report_text.specs.ReadBack.{Fits, FitsWhat, FitsEntry, FitsHeard, FitsDevice, FitsFault, untimed, untimed_what, untimed_entry}
use Rattle.report_text.proofs.Cuts.{Words}
use Rattle.report_text.proofs.OneEnd.{ends, EndsInLine}
use Rattle.report_text.proofs.ReadWords.{lists, free_images, octets, devices, groups, shown, services, kinds, cases, signs, tries}
use Rattle.report_text.proofs.Sections.{job_tail, turn_tail, heard_tail, device_tail, entry_tail}

pub eq_or_more : (n k : ℕ) → n ≤ k → (n ≡ k) ⊎ (n + 1 ≤ k)
eq_or_more n k h = elim (cases_lt n k) [ inl lt ↦ inr (omega arith) | inr le ↦ inl (omega arith) ]

-- ---- jobs

abbrev FitsJob : JobWord → Type 0
FitsJob job = Fits job.device.raw

module _ (log logs : List LogEntry) where
  pub jobs_same : (n : ℕ) (xs ys : List JobWord) → AllByRecursion FitsJob xs → AllByRecursion FitsJob ys → map (job_tail log) (enumerate_from n xs) ≡ map (job_tail logs) (enumerate_from n ys) → xs ≡ ys
  jobs_same n [] [] p q e = refl
  jobs_same n [] (y ∷ ys) p q e = absurd (let z : [] ≡ job_tail logs (n, y) ∷ map (job_tail logs) (enumerate_from (n + 1) ys) = e in cc)
  jobs_same n (x ∷ xs) [] p q e = absurd (let z : job_tail log (n, x) ∷ map (job_tail log) (enumerate_from (n + 1) xs) ≡ [] = e in cc)
  jobs_same n (x ∷ xs) (y ∷ ys) p q e =
      let z : (decimal n ∷ job_word x.kind ∷ device_text x.device ∷ first_or_open (ends n log)) ∷ map (job_tail log) (enumerate_from (n + 1) xs)
      ≡ (decimal n ∷ job_word y.kind ∷ device_text y.device ∷ first_or_open (ends n logs)) ∷ map (job_tail logs) (enumerate_from (n + 1) ys) =
      e in
      let word : job_word x.kind ≡ job_word y.kind = cc in
      let text : device_text x.device ≡ device_text y.device = cc in
      let rest : map (job_tail log) (enumerate_from (n + 1) xs) ≡ map (job_tail logs) (enumerate_from (n + 1) ys) = cc in
      let kind = kinds x.kind y.kind word in
      let device = devices x.device y.device p.0 q.0 text in
      let others = jobs_same (n + 1) xs ys p.1 q.1 rest in
      λ i. record { device = device i; kind = kind i } ∷ others i

  -- each job's line tells the same end
  pub ends_same : (n : ℕ) (xs ys : List JobWord) → map (job_tail log) (enumerate_from n xs) ≡ map (job_tail logs) (enumerate_from n ys) → (k : ℕ) → n ≤ k → k < n + length xs → first_or_open (ends k log) ≡ first_or_open (ends k logs)
  ends_same n [] ys e k from to = absurd (omega arith)
  ends_same n (x ∷ xs) [] e k from to = absurd (let z : job_tail log (n, x) ∷ map (job_tail log) (enumerate_from (n + 1) xs) ≡ [] = e in cc)
  ends_same n (x ∷ xs) (y ∷ ys) e k from to =
      let z : (decimal n ∷ job_word x.kind ∷ device_text x.device ∷ first_or_open (ends n log)) ∷ map (job_tail log) (enumerate_from (n + 1) xs)
      ≡ (decimal n ∷ job_word y.kind ∷ device_text y.device ∷ first_or_open (ends n logs)) ∷ map (job_tail logs) (enumerate_from (n + 1) ys) =
      e in
      let here : first_or_open (ends n log) ≡ first_or_open (ends n logs) = cc in
      let rest : map (job_tail log) (enumerate_from (n + 1) xs) ≡ map (job_tail logs) (enumerate_from (n + 1) ys) = cc in
      elim (eq_or_more n k from) [
        | inl is ↦ ap (λ (m : ℕ). first_or_open (ends m log)) (sym is) ∙ (here ∙ ap (λ (m : ℕ). first_or_open (ends m logs)) is)
        | inr above ↦ ends_same (n + 1) xs ys rest k above (omega arith)
      ]

-- ---- telegrams

pub turns_same : (log logs : List LogEntry) (n s t : ℕ) → map (turn_tail log) (range_with_len n s) ≡ map (turn_tail logs) (range_with_len n t) → s ≡ t
turns_same log logs n zero zero e = refl
turns_same log logs n zero (suc t) e = absurd (let z : [] ≡ turn_tail logs n ∷ map (turn_tail logs) (range_with_len (n + 1) t) = e in cc)
turns_same log logs n (suc s) zero e = absurd (let z : turn_tail log n ∷ map (turn_tail log) (range_with_len (n + 1) s) ≡ [] = e in cc)
turns_same log logs n (suc s) (suc t) e =
    let z : turn_tail log n ∷ map (turn_tail log) (range_with_len (n + 1) s) ≡ turn_tail logs n ∷ map (turn_tail logs) (range_with_len (n + 1) t) = e in
    let rest : map (turn_tail log) (range_with_len (n + 1) s) ≡ map (turn_tail logs) (range_with_len (n + 1) t) = cc in
    ap suc (turns_same log logs (n + 1) s t rest)

pub heard_same : (x y : Indication) → FitsHeard x → FitsHeard y → heard_tail x ≡ heard_tail y → x ≡ y
heard_same x y p q e =
    let z : group_text x.group ∷ device_text x.from ∷ service_words x.service ≡ group_text y.group ∷ device_text y.from ∷ service_words y.service = e in
    let one : group_text x.group ≡ group_text y.group = cc in
    let two : device_text x.from ≡ device_text y.from = cc in
    let rest : service_words x.service ≡ service_words y.service = cc in
    let group = groups x.group y.group p.0 q.0 one in
    let device = devices x.from y.from p.1 q.1 two in
    let service = services x.service y.service rest in
    λ i. record { from = device i; group = group i; service = service i }

-- ---- devices

pub device_same : (x y : DeviceShown) → FitsDevice x → FitsDevice y → device_tail x ≡ device_tail y → x ≡ y
device_same x y p q e =
    let z : device_text x.device ∷ case_word x.case ∷ map value_word x.values ≡ device_text y.device ∷ case_word y.case ∷ map value_word y.values = e in
    let one : device_text x.device ≡ device_text y.device = cc in
    let two : case_word x.case ≡ case_word y.case = cc in
    let rest : map value_word x.values ≡ map value_word y.values = cc in
    let device = devices x.device y.device p.device q.device one in
    let case = cases x.case y.case two in
    let values = lists value_word (λ value. Fits value.0) shown x.values y.values p.objects q.objects rest in
    λ i. record { device = device i; case = case i; values = values i }

-- ---- the log

number : (w : List ℕ) (m n : ℕ) → Fits m → Fits n → w ∷ decimal m ∷ [] ≡ w ∷ decimal n ∷ [] → m ≡ n
number w m n p q e = let z : decimal m ≡ decimal n = cc in decimal_injective m n p q z

abbrev letter : LogWhat → ℕ
letter what = get_or (get_or (what_words what) 0 []) 0 0

apart : (x y : LogWhat) → eqb (letter x) (letter y) ≡ false → what_words x ≡ what_words y → ⊥
apart x y other e = let z : true ≡ false = sym (eq-eqb (letter x) (letter y) (ap (λ (ws : Words). get_or (get_or ws 0 []) 0 0) e)) ∙ other in cc

-- what both tell of a job's end is the same
abbrev Agree : LogWhat → LogWhat → Type 0
Agree x y = (k : ℕ) (vs ws : Words) → end_of k x ≡ Some vs → end_of k y ≡ Some ws → vs ≡ ws

ended : (j k : ℕ) (ws : Words) → j ≡ k → (if j == k then Some ws else None) ≡ Some ws
ended j k ws e = rw (eq-eqb j k e) refl

what_same : (x y : LogWhat) → FitsWhat x → FitsWhat y → Agree x y → what_words x ≡ what_words y → untimed_what x ≡ untimed_what y
what_same (Took j) (Took k) p q a e = ap Took (number (codes "took") j k p q e)
what_same (Done j) (Done k) p q a e = ap Done (number (codes "done") j k p q e)
what_same (Failed j ss) (Failed k ts) p q a e =
    let job = number (codes "failed") j k p q e in
    let z : codes "failed" ∷ map sign_word ss ≡ codes "failed" ∷ map sign_word ts = a j _ _ (ended j j (codes "failed" ∷ map sign_word ss) refl) (ended k j (codes "failed" ∷ map sign_word ts) (sym job)) in
    let words : map sign_word ss ≡ map sign_word ts = cc in
    let told = free_images sign_word untimed signs ss ts words in
    λ i. Failed (job i) (told i)
what_same (Refused j o g x) (Refused k o' g' x') p q a e =
    let job = number (codes "refused") j k p.0 q.0 e in
    let one : Words = codes "refused" ∷ decimal o ∷ codes "got" ∷ octets_text g ∷ codes "expected" ∷ octets_text x ∷ [] in
    let other : Words = codes "refused" ∷ decimal o' ∷ codes "got" ∷ octets_text g' ∷ codes "expected" ∷ octets_text x' ∷ [] in
    let z : one ≡ other = a j _ _ (ended j j one refl) (ended k j other (sym job)) in
    let number : decimal o ≡ decimal o' = ap (λ (ws : Words). get_or ws 1 []) z in
    let first : octets_text g ≡ octets_text g' = ap (λ (ws : Words). get_or ws 3 []) z in
    let last : octets_text x ≡ octets_text x' = ap (λ (ws : Words). get_or ws 5 []) z in
    let op = decimal_injective o o' p.1 q.1 number in
    let got = octets g g' first in
    let expected = octets x x' last in
    λ i. Refused (job i) (op i) (got i) (expected i)
what_same (Sent s) (Sent t) p q a e = ap Sent (number (codes "sent") s t p q e)
what_same (Lost s) (Lost t) p q a e = ap Lost (number (codes "lost") s t p q e)
what_same x y p q a e = absurd (apart x y refl e)

module _ (log logs : List LogEntry) (lines others : ℕ) (same : (k : ℕ) → 1 ≤ k → k < 1 + lines → first_or_open (ends k log) ≡ first_or_open (ends k logs)) where
  agree : (x y : LogEntry) → EndsInLine log lines x → EndsInLine logs others y → Agree x.what y.what
  agree x y p q k vs ws one other =
      let h = p k vs one in
      sym h.0 ∙ (same k h.1 h.2 ∙ (q k ws other).0)

  pub entry_same : (x y : LogEntry) → FitsEntry x × EndsInLine log lines x → FitsEntry y × EndsInLine logs others y → entry_tail x ≡ entry_tail y → untimed_entry x ≡ untimed_entry y
  entry_same x y p q e =
      let z : decimal x.at ∷ decimal x.worker ∷ what_words x.what ≡ decimal y.at ∷ decimal y.worker ∷ what_words y.what = e in
      let one : decimal x.at ≡ decimal y.at = cc in
      let two : decimal x.worker ≡ decimal y.worker = cc in
      let rest : what_words x.what ≡ what_words y.what = cc in
      let at = decimal_injective x.at y.at p.0.at q.0.at one in
      let worker = decimal_injective x.worker y.worker p.0.worker q.0.worker two in
      let what = what_same x.what y.what p.0.what q.0.what (agree x y p.1 q.1) rest in
      λ i. record { at = at i; worker = worker i; what = what i }

-- ---- why it ended

-- what stands behind the first word of its line
abbrev pub why_tail : HubFault → Words
why_tail (NoMemory want) = codes "memory" ∷ []
why_tail LinkFailed = codes "fault" ∷ []
why_tail (GatewayRefused tries) = codes "refused" ∷ map try_word tries
why_tail Flooded = []
why_tail (WrongLine device tunnel) = codes "line" ∷ device_text device ∷ codes "tunnel" ∷ device_text tunnel ∷ []

abbrev pub fault_tails : Option HubFault → List Words
fault_tails None = []
fault_tails (Some why) = why_tail why ∷ []

abbrev first : HubFault → ℕ
first why = get_or (get_or (why_tail why) 0 []) 0 0

unlike : (f g : HubFault) → eqb (first f) (first g) ≡ false → why_tail f ≡ why_tail g → ⊥
unlike f g other e = let z : true ≡ false = sym (eq-eqb (first f) (first g) (ap (λ (ws : Words). get_or (get_or ws 0 []) 0 0) e)) ∙ other in cc

tries_same : (ss ts : List Try) → map try_word ss ≡ map try_word ts → ss ≡ ts
tries_same ss ts e = sym (map-id ss) ∙ (free_images try_word (λ t. t) tries ss ts e ∙ map-id ts)

why_same : (f g : HubFault) → FitsFault (Some f) → FitsFault (Some g) → why_tail f ≡ why_tail g → f ≡ g
why_same (NoMemory want) (NoMemory other) p q e = refl
why_same LinkFailed LinkFailed p q e = refl
why_same (GatewayRefused ss) (GatewayRefused ts) p q e =
    let z : codes "refused" ∷ map try_word ss ≡ codes "refused" ∷ map try_word ts = e in
    let words : map try_word ss ≡ map try_word ts = cc in
    ap GatewayRefused (tries_same ss ts words)
why_same Flooded Flooded p q e = refl
why_same (WrongLine d t) (WrongLine d' t') p q e =
    let z : codes "line" ∷ device_text d ∷ codes "tunnel" ∷ device_text t ∷ [] ≡ codes "line" ∷ device_text d' ∷ codes "tunnel" ∷ device_text t' ∷ [] = e in
    let one : device_text d ≡ device_text d' = ap (λ (ws : Words). get_or ws 1 []) z in
    let two : device_text t ≡ device_text t' = ap (λ (ws : Words). get_or ws 3 []) z in
    let device = devices d d' p.0 q.0 one in
    let tunnel = devices t t' p.1 q.1 two in
    λ i. WrongLine (device i) (tunnel i)
why_same f g p q e = absurd (unlike f g refl e)

pub fault_same : (f g : Option HubFault) → FitsFault f → FitsFault g → fault_tails f ≡ fault_tails g → f ≡ g
fault_same None None p q e = refl
fault_same None (Some g) p q e = absurd (let z : [] ≡ why_tail g ∷ [] = e in cc)
fault_same (Some f) None p q e = absurd (let z : why_tail f ∷ [] ≡ [] = e in cc)
fault_same (Some f) (Some g) p q e = let z : why_tail f ≡ why_tail g = cc in ap Some (why_same f g p q z)
