-- Lists of what is called for.
use Rattle.std.proofs.Common.{◌≡◌, Bool, true, false, List, [], ◌∷◌, ◌++◌, map, refl, ap, if◌then◌else◌, ℕ, ◌<◌, ◌-◌, ◌^◌, inr, length, arith}
use Rattle.std.specs.List.{filter}
use Rattle.line_model.specs.Network.{Sent}
use Rattle.network_sim.specs.Window.{CanTell}
use Rattle.bus_sim.specs.declared.owed.Owed.{Owed as Held}
use Rattle.bus_sim.specs.declared.owed.Owed.TheVariants as held
use Rattle.bus_sim.specs.Owing.{LetsClient, meant}

pub map_filtered : {A B : Type 0} (f : A → B) (test : B → Bool) (xs : List A) → map f (filter (λ x. test (f x)) xs) ≡ filter test (map f xs)
map_filtered f test [] = refl
map_filtered f test (x ∷ xs) = by_test (test (f x)) (map_filtered f test xs)
  where
    by_test : (t : Bool) → map f (filter (λ x. test (f x)) xs) ≡ filter test (map f xs) → map f (if t then x ∷ filter (λ x. test (f x)) xs else filter (λ x. test (f x)) xs) ≡ (if t then f x ∷ filter test (map f xs) else filter test (map f xs))
    by_test true e = ap (λ l. f x ∷ l) e
    by_test false e = e

pub map_joined : {A B : Type 0} (f : A → B) (xs ys : List A) → map f (xs ++ ys) ≡ map f xs ++ map f ys
map_joined f [] ys = refl
map_joined f (x ∷ xs) ys = ap (λ l. f x ∷ l) (map_joined f xs ys)

pub and_nothing : {A : Type 0} (xs : List A) → xs ++ [] ≡ xs
and_nothing [] = refl
and_nothing (x ∷ xs) = ap (λ l. x ∷ l) (and_nothing xs)

-- of few datagrams the age of each number can be told
pub can_tell : (number : ℕ) (sent : List Sent) → length sent < 2 ^ 64 - 1 → CanTell number sent
can_tell number sent few = inr (omega (arith, few))

-- what is held lets the client go before it
pub lets_client : (items : List Held) → LetsClient (map meant items)
lets_client [] = tt
lets_client (held.DeliverAgain number ∷ rest) = refl
lets_client (held.ReachAgain number ∷ rest) = refl
lets_client (held.BringAgain device ∷ rest) = refl
lets_client (held.ConnectionCloses device ∷ rest) = refl
lets_client (held.ChannelCloses ∷ rest) = refl
