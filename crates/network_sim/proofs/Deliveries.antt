-- Which datagram is the oldest one that goes, in a whole list and in what is kept of it.
use Rattle.std.proofs.Common.{◌≡◌, ℕ, zero, suc, ◌+◌, ◌<◌, ◌≤◌, Bool, true, false, not, ◌&&◌, ◌==◌, List, [], ◌∷◌, map, take, length, refl, sym, ap, subst, ◌∙◌, inl, inr, arith, Option, Some, None}
use Rattle.std.specs.Prelude.{nat_lt, slice_get, IfSome, IfNone}
use Rattle.std.proofs.lemmas.Bool.{cases_lt}
use Rattle.std.proofs.lemmas.Option.{same_Some, slice_get_within}
use Rattle.line_model.specs.Deliveries.{or_here, oldest, goes_down, next_down}
use Rattle.line_model.specs.Network.{Sent}
use Rattle.line_model.specs.Tunnel.{Tunnel, Mode, Commissions, Serves, made}
use Rattle.network_sim.specs.declared.place.Reach.{Reach}
use Rattle.network_sim.specs.declared.place.Reach.TheVariants.{Every, To}
use Rattle.network_sim.specs.Arriving.{passes, goes_first}
use Rattle.network_sim.specs.Window.{Window, window_of, at_sent, is_waiting, kept_of}

-- ---- one that goes

-- the test of the definition
abbrev pub goes : (ℕ → Sent → Bool) → ℕ → Sent → Bool
goes test age s = test age s && (s.delivered == 0)

under_way : (lost : Bool) (delivered age made since : ℕ) → age < 128
    → (not lost && nat_lt delivered 2 && nat_lt age 128 && nat_lt made (since + 255) && (delivered == 0)) ≡ (not lost && (delivered == 0) && nat_lt made (since + 255))
under_way true delivered age made since young = refl
under_way false zero age made since young = grind arith
under_way false (suc n) age made since young = grind arith

under_way_at : (lost here : Bool) (delivered age made since : ℕ) → age < 128
    → (not lost && nat_lt delivered 2 && nat_lt age 128 && nat_lt made (since + 255) && here && (delivered == 0)) ≡ (not lost && (delivered == 0) && (here && nat_lt made (since + 255)))
under_way_at true here delivered age made since young = refl
under_way_at false true zero age made since young = grind arith
under_way_at false false zero age made since young = grind arith
under_way_at false true (suc n) age made since young = grind arith
under_way_at false false (suc n) age made since young = grind arith

-- of a datagram that is kept it needn't be looked at how old it is
pub goes_kept : (reach : Reach) (made age : ℕ) (s : Sent) → age < 128 → goes (passes reach made) age s ≡ goes_first reach made s
goes_kept Every made age s young = under_way s.lost s.delivered age made s.made young
goes_kept (To endpoint) made age s young = under_way_at s.lost (s.endpoint == endpoint) s.delivered age made s.made young

pub none_goes_older : (reach : Reach) (made age : ℕ) (s : Sent) → 128 ≤ age → goes (passes reach made) age s ≡ false
none_goes_older Every made age s old = grind arith
none_goes_older (To endpoint) made age s old = grind arith

-- ---- none goes

pub none_oldest : (test : ℕ → Sent → Bool) (age : ℕ) (sent : List Sent) → ((k : ℕ) (s : Sent) → slice_get sent k ≡ Some s → goes test (age + k) s ≡ false) → oldest test age sent ≡ None
none_oldest test age [] none = refl
none_oldest test age (s ∷ rest) none =
    let here : goes test age s ≡ false = subst (λ (n : ℕ). goes test n s ≡ false) (omega arith) (none 0 s refl) in
    let older : oldest test (suc age) rest ≡ None = none_oldest test (suc age) rest (λ k t e. subst (λ (n : ℕ). goes test n t ≡ false) (omega arith) (none (suc k) t e)) in
    rw (older, here) refl

-- ---- what is kept is enough

-- none is there from age 128 on
none_past : (reach : Reach) (made age : ℕ) (sent : List Sent) → 128 ≤ age → oldest (passes reach made) age sent ≡ None
none_past reach made age sent old = none_oldest (passes reach made) age sent (λ k s e. none_goes_older reach made (age + k) s (omega arith))

kept_passes : (reach : Reach) (made age : ℕ) (s : Sent) → goes (passes reach made) age (kept_of s) ≡ goes (passes reach made) age s
kept_passes Every made age s = refl
kept_passes (To endpoint) made age s = refl

oldest_of_front : (reach : Reach) (made n age : ℕ) (sent : List Sent) → age + n ≡ 128 → oldest (passes reach made) age sent ≡ oldest (passes reach made) age (map kept_of (take n sent))
oldest_of_front reach made zero age sent e = none_past reach made age sent (omega arith)
oldest_of_front reach made (suc n) age [] e = refl
oldest_of_front reach made (suc n) age (s ∷ rest) e =
    let older : oldest (passes reach made) (suc age) rest ≡ oldest (passes reach made) (suc age) (map kept_of (take n rest)) = oldest_of_front reach made n (suc age) rest (omega arith) in
    ap (or_here (goes (passes reach made) age s) age) older
    ∙ ap (λ (b : Bool). or_here b age (oldest (passes reach made) (suc age) (map kept_of (take n rest)))) (sym (kept_passes reach made age s))

pub oldest_kept : (reach : Reach) (made : ℕ) (sent : List Sent) (w : Window) → window_of sent ≡ w → oldest (passes reach made) 0 sent ≡ oldest (passes reach made) 0 w.kept
oldest_kept reach made sent w same =
    oldest_of_front reach made 128 0 sent refl ∙ ap (λ (x : Window). oldest (passes reach made) 0 x.kept) same

-- ---- the one that is found

found : (test : Sent → Bool) (o : Option Sent) → at_sent test o ≡ true → (s : Sent) × (o ≡ Some s) × (test s ≡ true)
found test None e = cc
found test (Some s) e = (s, refl, e)

-- what a test of all says of one
said : (test : Sent → Bool) (b : Bool) (o : Option Sent) (s : Sent) → o ≡ Some s → at_sent test o ≡ b → test s ≡ b
said test b o s there e = sym (ap (at_sent test) there) ∙ e

one_at : (test : ℕ → Sent → Bool) (base : ℕ) (kept : List Sent) (age : ℕ) (s : Sent) → slice_get kept age ≡ Some s → goes test (base + age) s ≡ true
    → ((k : ℕ) (t : Sent) → age < k → slice_get kept k ≡ Some t → goes test (base + k) t ≡ false) → oldest test base kept ≡ Some (base + age)
one_at test base [] age s there here older = cc
one_at test base (x ∷ rest) zero s there here older =
    let same : x ≡ s = same_Some x s there in
    let now : goes test base x ≡ true = rw same (subst (λ (n : ℕ). goes test n s ≡ true) (omega arith) here) in
    let none : oldest test (suc base) rest ≡ None = none_oldest test (suc base) rest (λ k t e. subst (λ (n : ℕ). goes test n t ≡ false) (omega arith) (older (suc k) t (omega arith) e)) in
    rw (none, now) (ap (λ (n : ℕ). Some n) (omega arith))
one_at test base (x ∷ rest) (suc age) s there here older =
    let one : oldest test (suc base) rest ≡ Some (suc base + age) =
    one_at test (suc base) rest age s there (subst (λ (n : ℕ). goes test n s ≡ true) (omega arith) here)
    (λ k t more e. subst (λ (n : ℕ). goes test n t ≡ false) (omega arith) (older (suc k) t (omega arith) e)) in
    rw one (ap (λ (n : ℕ). Some n) (omega arith))

-- ---- in what is kept, where none waits from an age on

pub record Kept (kept : List Sent) (waiting : ℕ) : Type 0 where
  pub few : length kept ≤ 128
  pub none : (k : ℕ) → waiting ≤ k → at_sent is_waiting (slice_get kept k) ≡ false

-- what doesn't wait doesn't go first
not_first : (reach : Reach) (made : ℕ) (o : Option Sent) → at_sent is_waiting o ≡ false → at_sent (goes_first reach made) o ≡ false
not_first reach made None e = refl
not_first reach made (Some s) e = rw e refl

none_first : (reach : Reach) (made : ℕ) (kept : List Sent) (waiting from : ℕ) → Kept kept waiting
    → ((k : ℕ) → from ≤ k → k < waiting → at_sent (goes_first reach made) (slice_get kept k) ≡ false)
    → (k : ℕ) (s : Sent) → from ≤ k → slice_get kept k ≡ Some s → goes (passes reach made) k s ≡ false
none_first reach made kept waiting from h none k s past there =
    let young : k < 128 = omega (arith, h.few, slice_get_within kept k s there) in
    let first : at_sent (goes_first reach made) (slice_get kept k) ≡ false =
    elim (cases_lt k waiting) [ inl less ↦ none k past less | inr more ↦ not_first reach made (slice_get kept k) (h.none k more) ] in
    goes_kept reach made k s young ∙ said (goes_first reach made) false (slice_get kept k) s there first

pub next_none : (reach : Reach) (made : ℕ) (kept : List Sent) (waiting : ℕ) → Kept kept waiting
    → ((k : ℕ) → k < waiting → at_sent (goes_first reach made) (slice_get kept k) ≡ false) → oldest (passes reach made) 0 kept ≡ None
next_none reach made kept waiting h none =
    none_oldest (passes reach made) 0 kept (λ k s e. subst (λ (n : ℕ). goes (passes reach made) n s ≡ false) (omega arith) (none_first reach made kept waiting 0 h (λ j _ l. none j l) k s (omega arith) e))

pub next_some : (reach : Reach) (made : ℕ) (kept : List Sent) (waiting age : ℕ) → Kept kept waiting → at_sent (goes_first reach made) (slice_get kept age) ≡ true
    → ((k : ℕ) → age < k → k < waiting → at_sent (goes_first reach made) (slice_get kept k) ≡ false) → oldest (passes reach made) 0 kept ≡ Some age
next_some reach made kept waiting age h here older =
    let f : (s : Sent) × (slice_get kept age ≡ Some s) × (goes_first reach made s ≡ true) = found (goes_first reach made) (slice_get kept age) here in
    let young : age < 128 = omega (arith, h.few, slice_get_within kept age f.0 f.1) in
    let one : oldest (passes reach made) 0 kept ≡ Some (0 + age) =
    one_at (passes reach made) 0 kept age f.0 f.1 (subst (λ (n : ℕ). goes (passes reach made) n f.0 ≡ true) (omega arith) (goes_kept reach made age f.0 young ∙ f.2))
    (λ k t more e. subst (λ (n : ℕ). goes (passes reach made) n t ≡ false) (omega arith) (none_first reach made kept waiting (suc age) h (λ j p l. older j (omega arith) l) k t (omega arith) e)) in
    one ∙ ap (λ (n : ℕ). Some n) (omega arith)

pub next_is : (reach : Reach) (made : ℕ) (kept : List Sent) (waiting : ℕ) → Kept kept waiting → (r : Option ℕ)
    → IfSome r (λ age. at_sent (goes_first reach made) (slice_get kept age) ≡ true)
    → IfSome r (λ age. (k : ℕ) → age < k → k < waiting → at_sent (goes_first reach made) (slice_get kept k) ≡ false)
    → IfNone r ((k : ℕ) → k < waiting → at_sent (goes_first reach made) (slice_get kept k) ≡ false)
    → r ≡ oldest (passes reach made) 0 kept
next_is reach made kept waiting h None here older none = sym (next_none reach made kept waiting h none)
next_is reach made kept waiting h (Some age) here older none = sym (next_some reach made kept waiting age h here older)

-- ---- down

pub down_kept : (mode : Mode) (t : Tunnel) (kept : Window) → window_of t.network.down ≡ kept → next_down mode t ≡ oldest (goes_down mode t) 0 kept.kept
down_kept Commissions t kept same = oldest_kept (To t.present) (made t) t.network.down kept same
down_kept Serves t kept same = oldest_kept Every (made t) t.network.down kept same
