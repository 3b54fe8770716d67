-- What is kept of a list after a sending and after a change of one datagram.
use Rattle.std.proofs.Common.{◌≡◌, ℕ, zero, suc, ◌+◌, ◌-◌, ◌^◌, min, Bool, true, false, not, ◌&&◌, ◌==◌, ◌<◌, ◌≤◌, List, [], ◌∷◌, map, take, length, refl, sym, ap, ◌∙◌, inl, inr, arith, Some, None}
use Rattle.std.specs.Prelude.{slice_get, slice_set, option_map}
use Rattle.std.proofs.lemmas.Bool.{cases_lt}
use Rattle.std.proofs.lemmas.List.{take-take, take-map, length-take, length-map}
use Rattle.std.proofs.lemmas.Option.{same_Some, slice_get-map, slice_get_past}
use Rattle.circular_buffer.specs.Buffer.{Buffer, buffer}
use Rattle.line_model.specs.Network.{Sent, changed_at, once_more, gone}
use Rattle.network_sim.specs.Window.{capped, Window, window_of, at_sent, is_waiting, kept_of, sent_too, changed_there}

-- ---- one more

front_of_more : (n : ℕ) (s : Sent) (sent : List Sent) → map kept_of (take n (s ∷ sent)) ≡ take n (kept_of s ∷ map kept_of (take n sent))
front_of_more zero s sent = refl
front_of_more (suc n) s sent =
    ap (λ (rest : List Sent). kept_of s ∷ rest) (ap (map kept_of) (sym (take-take n (suc n) sent (omega arith))) ∙ sym (take-map kept_of n (take (suc n) sent)))

one_more : (n : ℕ) → capped (suc n) ≡ capped (suc (capped n))
one_more n = omega arith

pub sent_one : (sent : List Sent) (s : Sent) (w : Window) → window_of sent ≡ w → window_of (s ∷ sent) ≡ sent_too (kept_of s) w
sent_one sent s w same =
    let count : capped (suc (length sent)) ≡ capped (suc (capped (length sent))) = one_more (length sent) in
    let kept : map kept_of (take 128 (s ∷ sent)) ≡ take 128 (kept_of s ∷ map kept_of (take 128 sent)) = front_of_more 128 s sent in
    cc

-- ---- one changed

length-changed : (age : ℕ) (change : Sent → Sent) (sent : List Sent) → length (changed_at age change sent) ≡ length sent
length-changed age change [] = refl
length-changed zero change (s ∷ rest) = refl
length-changed (suc age) change (s ∷ rest) = ap suc (length-changed age change rest)

front_of_changed : (change : Sent → Sent) → ((s : Sent) → kept_of (change s) ≡ change (kept_of s))
    → (n age : ℕ) (sent : List Sent) → map kept_of (take n (changed_at age change sent)) ≡ changed_at age change (map kept_of (take n sent))
front_of_changed change law zero age sent = refl
front_of_changed change law (suc n) age [] = refl
front_of_changed change law (suc n) zero (s ∷ rest) = ap (λ (t : Sent). t ∷ map kept_of (take n rest)) (law s)
front_of_changed change law (suc n) (suc age) (s ∷ rest) = ap (λ (all : List Sent). kept_of s ∷ all) (front_of_changed change law n age rest)

changed_one : (change : Sent → Sent) → ((s : Sent) → kept_of (change s) ≡ change (kept_of s))
    → (sent : List Sent) (age : ℕ) (w : Window) → window_of sent ≡ w → window_of (changed_at age change sent) ≡ changed_there age change w
changed_one change law sent age w same =
    let count : capped (length (changed_at age change sent)) ≡ capped (length sent) = ap capped (length-changed age change sent) in
    let kept : map kept_of (take 128 (changed_at age change sent)) ≡ changed_at age change (map kept_of (take 128 sent)) = front_of_changed change law 128 age sent in
    cc

pub delivered_one : (sent : List Sent) (age : ℕ) (w : Window) → window_of sent ≡ w → window_of (changed_at age once_more sent) ≡ changed_there age once_more w
delivered_one = changed_one once_more (λ s. refl)

pub lost_one : (sent : List Sent) (age : ℕ) (w : Window) → window_of sent ≡ w → window_of (changed_at age gone sent) ≡ changed_there age gone w
lost_one = changed_one gone (λ s. refl)

-- the place of a change is where it is read
set_there : (change : Sent → Sent) (kept : List Sent) (age : ℕ) (s : Sent) → slice_get kept age ≡ Some s → slice_set kept age (change s) ≡ changed_at age change kept
set_there change [] age s e = refl
set_there change (x ∷ rest) zero s e = let same : x ≡ s = same_Some x s e in rw same refl
set_there change (x ∷ rest) (suc age) s e = ap (λ (all : List Sent). x ∷ all) (set_there change rest age s e)

none_there : (change : Sent → Sent) (kept : List Sent) (age : ℕ) → slice_get kept age ≡ None → changed_at age change kept ≡ kept
none_there change [] age e = refl
none_there change (x ∷ rest) zero e = cc
none_there change (x ∷ rest) (suc age) e = ap (λ (all : List Sent). x ∷ all) (none_there change rest age e)

pub set_delivered : (kept : List Sent) (age : ℕ) (s : Sent) → slice_get kept age ≡ Some s → slice_set kept age (once_more s) ≡ changed_at age once_more kept
set_delivered = set_there once_more

pub set_lost : (kept : List Sent) (age : ℕ) (s : Sent) → slice_get kept age ≡ Some s → slice_set kept age (gone s) ≡ changed_at age gone kept
set_lost = set_there gone

pub none_lost : (kept : List Sent) (age : ℕ) → slice_get kept age ≡ None → changed_at age gone kept ≡ kept
none_lost = none_there gone

-- what didn't wait doesn't wait then
still_none : (change : Sent → Sent) → ((s : Sent) → is_waiting s ≡ false → is_waiting (change s) ≡ false)
    → (kept : List Sent) (age k : ℕ) → at_sent is_waiting (slice_get kept k) ≡ false → at_sent is_waiting (slice_get (changed_at age change kept) k) ≡ false
still_none change law [] age k e = refl
still_none change law (x ∷ rest) zero zero e = law x e
still_none change law (x ∷ rest) zero (suc k) e = e
still_none change law (x ∷ rest) (suc age) zero e = e
still_none change law (x ∷ rest) (suc age) (suc k) e = still_none change law rest age k e

no_wait_delivered : (lost : Bool) (delivered : ℕ) → (not lost && (delivered == 0)) ≡ false → (not lost && (suc delivered == 0)) ≡ false
no_wait_delivered true delivered e = refl
no_wait_delivered false delivered e = grind arith

-- what is seen of the sender after a sending
pub sent_is : (s : Sent) (items : List Sent) (count total capacity : ℕ) (after : Buffer Sent) → capacity ≡ 128 → total ≡ min (count + 1) (2 ^ 64 - 1) → after ≡ buffer (take capacity (s ∷ items)) capacity
    → sent_too s (record { count = count; kept = items }) ≡ record { count = total; kept = after.items }
sent_is s items count total capacity after room counted pushed =
    let sum : capped (suc count) ≡ total = omega arith in
    let kept : take 128 (s ∷ items) ≡ after.items = sym (ap (λ (b : Buffer Sent). b.items) pushed ∙ ap (λ (n : ℕ). take n (s ∷ items)) room) in
    cc

-- and after a change
pub changed_is : (age : ℕ) (change : Sent → Sent) (items : List Sent) (count capacity : ℕ) (after : Buffer Sent) → after ≡ buffer (changed_at age change items) capacity
    → changed_there age change (record { count = count; kept = items }) ≡ record { count = count; kept = after.items }
changed_is age change items count capacity after changed =
    let kept : changed_at age change items ≡ after.items = sym (ap (λ (b : Buffer Sent). b.items) changed) in
    cc

-- what holds of what is kept: its room, how many there are, and that none waits from the place on that is remembered
abbrev pub IsKept : Buffer Sent → ℕ → Type 0
IsKept b waiting = (b.capacity ≡ 128) × (length b.items ≤ 128) × (waiting ≤ 128) × ((k : ℕ) → waiting ≤ k → at_sent is_waiting (slice_get b.items k) ≡ false)

still_kept : (change : Sent → Sent) → ((s : Sent) → is_waiting s ≡ false → is_waiting (change s) ≡ false)
    → (b after : Buffer Sent) (age waiting fewer : ℕ) → IsKept b waiting → after ≡ buffer (changed_at age change b.items) b.capacity → fewer ≤ waiting
    → ((k : ℕ) → fewer ≤ k → k < waiting → at_sent is_waiting (slice_get after.items k) ≡ false) → IsKept after fewer
still_kept change law b after age waiting fewer h changed less none =
    let items : after.items ≡ changed_at age change b.items = ap (λ (x : Buffer Sent). x.items) changed in
    let room : after.capacity ≡ b.capacity = ap (λ (x : Buffer Sent). x.capacity) changed in
    let as_many : length after.items ≡ length b.items = ap length items ∙ length-changed age change b.items in (
      room ∙ h.0,
      omega (arith, h.1),
      omega (arith, h.2),
      λ k past.
          elim (cases_lt k waiting) [
            | inl younger ↦ none k past younger
            | inr older ↦ ap (λ (all : List Sent). at_sent is_waiting (slice_get all k)) items ∙ still_none change law b.items age k (h.3 k older)
          ],
    )

pub still_kept_delivered : (b after : Buffer Sent) (age waiting fewer : ℕ) → IsKept b waiting → after ≡ buffer (changed_at age once_more b.items) b.capacity → fewer ≤ waiting
    → ((k : ℕ) → fewer ≤ k → k < waiting → at_sent is_waiting (slice_get after.items k) ≡ false) → IsKept after fewer
still_kept_delivered = still_kept once_more (λ s e. no_wait_delivered s.lost s.delivered e)

pub still_kept_lost : (b after : Buffer Sent) (age waiting fewer : ℕ) → IsKept b waiting → after ≡ buffer (changed_at age gone b.items) b.capacity → fewer ≤ waiting
    → ((k : ℕ) → fewer ≤ k → k < waiting → at_sent is_waiting (slice_get after.items k) ≡ false) → IsKept after fewer
still_kept_lost = still_kept gone (λ s e. refl)

-- ---- one got

get_of_front : (n : ℕ) (sent : List Sent) (age : ℕ) → age < n → slice_get (take n sent) age ≡ slice_get sent age
get_of_front zero sent age h = absurd (omega arith)
get_of_front (suc n) [] age h = refl
get_of_front (suc n) (s ∷ rest) zero h = refl
get_of_front (suc n) (s ∷ rest) (suc age) h = get_of_front n rest age (omega arith)

pub got_kept : (sent : List Sent) (age : ℕ) (w : Window) → window_of sent ≡ w → age < 128 → slice_get w.kept age ≡ option_map kept_of (slice_get sent age)
got_kept sent age w same young =
    let kept : w.kept ≡ map kept_of (take 128 sent) = ap (λ (x : Window). x.kept) (sym same) in
    ap (λ (all : List Sent). slice_get all age) kept ∙ slice_get-map kept_of (take 128 sent) age ∙ ap (option_map kept_of) (get_of_front 128 sent age young)

pub kept_length : (sent : List Sent) (w : Window) → window_of sent ≡ w → length w.kept ≤ 128
kept_length sent w same =
    let kept : w.kept ≡ map kept_of (take 128 sent) = ap (λ (x : Window). x.kept) (sym same) in
    rw (kept, length-map, length-take) (omega arith)

pub none_kept : (kept : List Sent) (age : ℕ) → length kept ≤ 128 → 128 ≤ age → slice_get kept age ≡ None
none_kept kept age few old = slice_get_past kept age (omega arith)
