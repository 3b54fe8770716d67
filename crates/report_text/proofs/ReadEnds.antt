-- How a job ended, and whether a telegram was sent or lost, is read from its line.
use Rattle.std.proofs.Common.{◌≡◌, ℕ, zero, suc, ◌+◌, ◌<◌, ◌≤◌, inl, inr, Bool, true, false, eqb, eqb-true, List, [], ◌∷◌, get_or, map, Option, Some, None, option_map, refl, sym, ap, ◌∙◌, arith, codes}
use Rattle.std.specs.Prelude.{◌==◌}
use Rattle.std.specs.Fmt.{decimal}
use Rattle.std.specs.List.{AllByRecursion, filter_map, cons_option, range_with_len}
use Rattle.std.proofs.lemmas.Fmt.{decimal_injective}
use Rattle.call_words.specs.ReportText.{sign_word, first_or_open}
use Rattle.knx_model.specs.TextLines.{octets_text}
use Rattle.line_model.specs.declared.log.LogEntry.{LogEntry}
use Rattle.line_model.specs.declared.log.LogWhat.{LogWhat}
use Rattle.line_model.specs.declared.log.LogWhat.TheVariants.{Took, Done, Failed, Refused, Sent, Lost}
use Rattle.line_model.specs.Log.{ends_it, is_turn}
use Rattle.call_words.specs.Printed.{end_of, end_of_turn}
use Rattle.report_text.specs.ReadBack.{FitsWhat, FitsEntry, untimed, untimed_what, end_in, turn_in}
use Rattle.report_text.proofs.Cuts.{Words}
use Rattle.report_text.proofs.OneEnd.{ends, none_where}
use Rattle.report_text.proofs.ReadLines.{eq_or_more}
use Rattle.report_text.proofs.ReadWords.{free_images, letters, octets, signs}
use Rattle.report_text.proofs.Sections.{turn_tail}

-- ---- the words of an end

abbrev last_words : LogWhat → Words
last_words (Done j) = codes "done" ∷ []
last_words (Failed j ss) = codes "failed" ∷ map sign_word ss
last_words (Refused j op got expected) = codes "refused" ∷ decimal op ∷ codes "got" ∷ octets_text got ∷ codes "expected" ∷ octets_text expected ∷ []
last_words (Sent turn) = codes "sent" ∷ []
last_words (Lost turn) = codes "lost" ∷ []
last_words (Took j) = []

abbrev words_of : Option LogWhat → Words
words_of None = codes "open" ∷ []
words_of (Some what) = last_words what

abbrev first_letter : Words → ℕ
first_letter ws = get_or (get_or ws 0 []) 0 0

unlike : (vs ws : Words) → eqb (first_letter vs) (first_letter ws) ≡ false → vs ≡ ws → ⊥
unlike vs ws other e = letters (get_or vs 0 []) (get_or ws 0 []) other (ap (λ (us : Words). get_or us 0 []) e)

-- ---- the end of a job

ending_words : (k : ℕ) (what : LogWhat) → ends_it k what ≡ true → end_of k what ≡ Some (last_words what)
ending_words k (Took j) e = absurd (let z : false ≡ true = e in cc)
ending_words k (Done j) e = let z : (j == k) ≡ true = e in rw z refl
ending_words k (Failed j ss) e = let z : (j == k) ≡ true = e in rw z refl
ending_words k (Refused j op got expected) e = let z : (j == k) ≡ true = e in rw z refl
ending_words k (Sent turn) e = absurd (let z : false ≡ true = e in cc)
ending_words k (Lost turn) e = absurd (let z : false ≡ true = e in cc)

-- one end of a job, if any, and the words that tell it
abbrev Ends : ℕ → Option LogWhat → Type 0
Ends k None = Unit {0}
Ends k (Some what) = (ends_it k what ≡ true) × FitsWhat what

record Ended (k : ℕ) (log : List LogEntry) : Type 0 where
  what : Option LogWhat
  is : end_in k log ≡ option_map untimed_what what
  words : first_or_open (ends k log) ≡ words_of what
  ends_it : Ends k what

ended_by : (k : ℕ) (e : LogEntry) (log : List LogEntry) (b : Bool) → ends_it k e.what ≡ b → FitsEntry e → Ended k log → Ended k (e ∷ log)
ended_by k e log true q fits older = record {
  what = Some e.what;
  is = rw q refl;
  words = ap (λ (o : Option Words). first_or_open (cons_option o (ends k log))) (ending_words k e.what q);
  ends_it = (q, fits.what);
}
ended_by k e log false q fits older = record {
  what = older.what;
  is = rw q older.is;
  words = ap (λ (o : Option Words). first_or_open (cons_option o (ends k log))) (none_where k e.what q) ∙ older.words;
  ends_it = older.ends_it;
}

ended : (k : ℕ) (log : List LogEntry) → AllByRecursion FitsEntry log → Ended k log
ended k [] h = record { what = None; is = refl; words = refl; ends_it = tt }
ended k (e ∷ log) h = ended_by k e log (ends_it k e.what) refl h.0 (ended k log h.1)

what_same : (k : ℕ) (x y : LogWhat) → ends_it k x ≡ true → ends_it k y ≡ true → FitsWhat x → FitsWhat y → last_words x ≡ last_words y → untimed_what x ≡ untimed_what y
what_same k (Took j) y p q f g e = absurd (let z : false ≡ true = p in cc)
what_same k (Sent turn) y p q f g e = absurd (let z : false ≡ true = p in cc)
what_same k (Lost turn) y p q f g e = absurd (let z : false ≡ true = p in cc)
what_same k x (Took j) p q f g e = absurd (let z : false ≡ true = q in cc)
what_same k x (Sent turn) p q f g e = absurd (let z : false ≡ true = q in cc)
what_same k x (Lost turn) p q f g e = absurd (let z : false ≡ true = q in cc)
what_same k (Done i) (Done j) p q f g e = ap Done (eqb-true i k p ∙ sym (eqb-true j k q))
what_same k (Failed i ss) (Failed j ts) p q f g e =
    let job = eqb-true i k p ∙ sym (eqb-true j k q) in
    let z : codes "failed" ∷ map sign_word ss ≡ codes "failed" ∷ map sign_word ts = e in
    let words : map sign_word ss ≡ map sign_word ts = cc in
    let told = free_images sign_word untimed signs ss ts words in
    λ l. Failed (job l) (told l)
what_same k (Refused i o g x) (Refused j o' g' x') p q f f' e =
    let job = eqb-true i k p ∙ sym (eqb-true j k q) in
    let number : decimal o ≡ decimal o' = ap (λ (ws : Words). get_or ws 1 []) e in
    let first : octets_text g ≡ octets_text g' = ap (λ (ws : Words). get_or ws 3 []) e in
    let last : octets_text x ≡ octets_text x' = ap (λ (ws : Words). get_or ws 5 []) e in
    let op = decimal_injective o o' f.1 f'.1 number in
    let got = octets g g' first in
    let expected = octets x x' last in
    λ l. Refused (job l) (op l) (got l) (expected l)
what_same k x y p q f g e = absurd (unlike (last_words x) (last_words y) refl e)

isnt_open : (k : ℕ) (y : LogWhat) → ends_it k y ≡ true → codes "open" ∷ [] ≡ last_words y → ⊥
isnt_open k (Took j) q e = let z : false ≡ true = q in cc
isnt_open k (Sent turn) q e = let z : false ≡ true = q in cc
isnt_open k (Lost turn) q e = let z : false ≡ true = q in cc
isnt_open k (Done j) q e = unlike (codes "open" ∷ []) (last_words (Done j)) refl e
isnt_open k (Failed j ss) q e = unlike (codes "open" ∷ []) (last_words (Failed j ss)) refl e
isnt_open k (Refused j op got expected) q e = unlike (codes "open" ∷ []) (last_words (Refused j op got expected)) refl e

ends_alike : (k : ℕ) (x y : Option LogWhat) → Ends k x → Ends k y → words_of x ≡ words_of y → option_map untimed_what x ≡ option_map untimed_what y
ends_alike k None None p q e = refl
ends_alike k None (Some y) p q e = absurd (isnt_open k y q.0 e)
ends_alike k (Some x) None p q e = absurd (isnt_open k x p.0 (sym e))
ends_alike k (Some x) (Some y) p q e = ap Some (what_same k x y p.0 q.0 p.1 q.1 e)

pub end_same : (k : ℕ) (log logs : List LogEntry) → AllByRecursion FitsEntry log → AllByRecursion FitsEntry logs → first_or_open (ends k log) ≡ first_or_open (ends k logs) → end_in k log ≡ end_in k logs
end_same k log logs p q e =
    let one = ended k log p in
    let other = ended k logs q in
    one.is ∙ (ends_alike k one.what other.what one.ends_it other.ends_it (sym one.words ∙ (e ∙ other.words)) ∙ sym other.is)

-- ---- a telegram

abbrev turn_ends : ℕ → List LogEntry → List Words
turn_ends k log = filter_map (λ entry. end_of_turn k entry.what) log

telegram_words : (k : ℕ) (what : LogWhat) → is_turn k what ≡ true → end_of_turn k what ≡ Some (last_words what)
telegram_words k (Took j) e = absurd (let z : false ≡ true = e in cc)
telegram_words k (Done j) e = absurd (let z : false ≡ true = e in cc)
telegram_words k (Failed j ss) e = absurd (let z : false ≡ true = e in cc)
telegram_words k (Refused j op got expected) e = absurd (let z : false ≡ true = e in cc)
telegram_words k (Sent turn) e = let z : (turn == k) ≡ true = e in rw z refl
telegram_words k (Lost turn) e = let z : (turn == k) ≡ true = e in rw z refl

no_telegram : (k : ℕ) (what : LogWhat) → is_turn k what ≡ false → end_of_turn k what ≡ None
no_telegram k (Took j) e = refl
no_telegram k (Done j) e = refl
no_telegram k (Failed j ss) e = refl
no_telegram k (Refused j op got expected) e = refl
no_telegram k (Sent turn) e = let z : (turn == k) ≡ false = e in rw z refl
no_telegram k (Lost turn) e = let z : (turn == k) ≡ false = e in rw z refl

abbrev Tells : ℕ → Option LogWhat → Type 0
Tells k None = Unit {0}
Tells k (Some what) = is_turn k what ≡ true

record Gone (k : ℕ) (log : List LogEntry) : Type 0 where
  what : Option LogWhat
  is : turn_in k log ≡ what
  words : first_or_open (turn_ends k log) ≡ words_of what
  tells_it : Tells k what

gone_by : (k : ℕ) (e : LogEntry) (log : List LogEntry) (b : Bool) → is_turn k e.what ≡ b → Gone k log → Gone k (e ∷ log)
gone_by k e log true q older = record {
  what = Some e.what;
  is = rw q refl;
  words = ap (λ (o : Option Words). first_or_open (cons_option o (turn_ends k log))) (telegram_words k e.what q);
  tells_it = q;
}
gone_by k e log false q older = record {
  what = older.what;
  is = rw q older.is;
  words = ap (λ (o : Option Words). first_or_open (cons_option o (turn_ends k log))) (no_telegram k e.what q) ∙ older.words;
  tells_it = older.tells_it;
}

gone : (k : ℕ) (log : List LogEntry) → Gone k log
gone k [] = record { what = None; is = refl; words = refl; tells_it = tt }
gone k (e ∷ log) = gone_by k e log (is_turn k e.what) refl (gone k log)

telegram_same : (k : ℕ) (x y : LogWhat) → is_turn k x ≡ true → is_turn k y ≡ true → last_words x ≡ last_words y → x ≡ y
telegram_same k (Took j) y p q e = absurd (let z : false ≡ true = p in cc)
telegram_same k (Done j) y p q e = absurd (let z : false ≡ true = p in cc)
telegram_same k (Failed j ss) y p q e = absurd (let z : false ≡ true = p in cc)
telegram_same k (Refused j op got expected) y p q e = absurd (let z : false ≡ true = p in cc)
telegram_same k x (Took j) p q e = absurd (let z : false ≡ true = q in cc)
telegram_same k x (Done j) p q e = absurd (let z : false ≡ true = q in cc)
telegram_same k x (Failed j ss) p q e = absurd (let z : false ≡ true = q in cc)
telegram_same k x (Refused j op got expected) p q e = absurd (let z : false ≡ true = q in cc)
telegram_same k (Sent s) (Sent t) p q e = ap Sent (eqb-true s k p ∙ sym (eqb-true t k q))
telegram_same k (Lost s) (Lost t) p q e = ap Lost (eqb-true s k p ∙ sym (eqb-true t k q))
telegram_same k x y p q e = absurd (unlike (last_words x) (last_words y) refl e)

isnt_open_turn : (k : ℕ) (y : LogWhat) → is_turn k y ≡ true → codes "open" ∷ [] ≡ last_words y → ⊥
isnt_open_turn k (Took j) q e = let z : false ≡ true = q in cc
isnt_open_turn k (Done j) q e = let z : false ≡ true = q in cc
isnt_open_turn k (Failed j ss) q e = let z : false ≡ true = q in cc
isnt_open_turn k (Refused j op got expected) q e = let z : false ≡ true = q in cc
isnt_open_turn k (Sent turn) q e = unlike (codes "open" ∷ []) (last_words (Sent turn)) refl e
isnt_open_turn k (Lost turn) q e = unlike (codes "open" ∷ []) (last_words (Lost turn)) refl e

telegrams_alike : (k : ℕ) (x y : Option LogWhat) → Tells k x → Tells k y → words_of x ≡ words_of y → x ≡ y
telegrams_alike k None None p q e = refl
telegrams_alike k None (Some y) p q e = absurd (isnt_open_turn k y q e)
telegrams_alike k (Some x) None p q e = absurd (isnt_open_turn k x p (sym e))
telegrams_alike k (Some x) (Some y) p q e = ap Some (telegram_same k x y p q e)

module _ (log logs : List LogEntry) where
  turn_same : (k : ℕ) → first_or_open (turn_ends k log) ≡ first_or_open (turn_ends k logs) → turn_in k log ≡ turn_in k logs
  turn_same k e =
      let one = gone k log in
      let other = gone k logs in
      one.is ∙ (telegrams_alike k one.what other.what one.tells_it other.tells_it (sym one.words ∙ (e ∙ other.words)) ∙ sym other.is)

  -- each telegram's line tells the same
  pub sent_same : (n s t : ℕ) → map (turn_tail log) (range_with_len n s) ≡ map (turn_tail logs) (range_with_len n t) → (k : ℕ) → n ≤ k → k < n + s → turn_in k log ≡ turn_in k logs
  sent_same n zero t e k from to = absurd (omega arith)
  sent_same n (suc s) zero e k from to = absurd (let z : turn_tail log n ∷ map (turn_tail log) (range_with_len (n + 1) s) ≡ [] = e in cc)
  sent_same n (suc s) (suc t) e k from to =
      let z : (decimal n ∷ first_or_open (turn_ends n log)) ∷ map (turn_tail log) (range_with_len (n + 1) s) ≡ (decimal n ∷ first_or_open (turn_ends n logs)) ∷ map (turn_tail logs) (range_with_len (n + 1) t) = e in
      let here : first_or_open (turn_ends n log) ≡ first_or_open (turn_ends n logs) = cc in
      let rest : map (turn_tail log) (range_with_len (n + 1) s) ≡ map (turn_tail logs) (range_with_len (n + 1) t) = cc in
      elim (eq_or_more n k from) [
        | inl is ↦ ap (λ (m : ℕ). turn_in m log) (sym is) ∙ (turn_same n here ∙ ap (λ (m : ℕ). turn_in m logs) is)
        | inr above ↦ sent_same (n + 1) s t rest k above (omega arith)
      ]
