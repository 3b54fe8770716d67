-- What the network lets through and what it doesn't.
use Rattle.std.proofs.Common.{◌≡◌, ℕ, ◌+◌, ◌<◌, ◌≤◌, refl, subst, sym, arith, List, [], ◌∷◌, ◌++◌, length, Option, Some, None}
use Rattle.std.specs.Prelude.{slice_get}
use Rattle.line_model.specs.Gateway.{number_of}
use Rattle.line_model.specs.Network.{Sent, IsUnderWay, OfSent, MayArrive, new_datagram}

-- ---- what isn't

none_of : (P : Sent → Type 0) → ((s : Sent) → P s → ⊥) → (o : Option Sent) → OfSent P o → ⊥
none_of P never None h = h
none_of P never (Some s) h = never s h

pub none_older : (made : ℕ) (sent : List Sent) (age : ℕ) → 128 ≤ age → MayArrive made sent age → ⊥
none_older made sent age old h = none_of (IsUnderWay made age) (λ s u. omega (arith, u.young)) (slice_get sent age) h

found : (P : Sent → Type 0) (o : Option Sent) (s : Sent) → o ≡ Some s → OfSent P o → P s
found P o s e h = let Q : Option Sent → Type 0 = OfSent P in subst Q e h

pub none_third : (made : ℕ) (sent : List Sent) (age : ℕ) (s : Sent) → slice_get sent age ≡ Some s → 2 ≤ s.delivered → MayArrive made sent age → ⊥
none_third made sent age s e twice h = omega (arith, (found (IsUnderWay made age) (slice_get sent age) s e h).twice)

pub none_later : (made : ℕ) (sent : List Sent) (age : ℕ) (s : Sent) → slice_get sent age ≡ Some s → s.made + 255 ≤ made → MayArrive made sent age → ⊥
none_later made sent age s e late h = omega (arith, (found (IsUnderWay made age) (slice_get sent age) s e h).soon)

-- ---- what is

at_length : (younger : List Sent) (s : Sent) (older : List Sent) → slice_get (younger ++ s ∷ older) (length younger) ≡ Some s
at_length [] s older = refl
at_length (y ∷ younger) s older = at_length younger s older

new_passes : (made age : ℕ) (octets : List ℕ) (endpoint : ℕ) → age < 128 → IsUnderWay made age (new_datagram octets endpoint made)
new_passes made age octets endpoint young = record { kept = refl; twice = omega arith; young = young; soon = omega arith }

pub younger_pass : (made : ℕ) (younger older : List Sent) (octets : List ℕ) (endpoint : ℕ) → length younger ≡ 127 → MayArrive made (younger ++ new_datagram octets endpoint made ∷ older) 127
younger_pass made younger older octets endpoint e =
    let s = new_datagram octets endpoint made in
    let at : slice_get (younger ++ s ∷ older) 127 ≡ Some s = subst (λ (n : ℕ). slice_get (younger ++ s ∷ older) n ≡ Some s) e (at_length younger s older) in
    let Q : Option Sent → Type 0 = OfSent (IsUnderWay made 127) in
    subst Q (sym at) (new_passes made 127 octets endpoint (omega arith))

-- ---- channel numbers

pub comes_again : (place : ℕ) → number_of (place + 255) ≡ number_of place
comes_again place = omega arith

pub not_before : (place later : ℕ) → 0 < later → later < 255 → number_of (place + later) ≡ number_of place → ⊥
not_before place later some few e = omega arith

pub never_zero : (place : ℕ) → (1 ≤ number_of place) × (number_of place ≤ 255)
never_zero place = (omega arith, omega arith)
