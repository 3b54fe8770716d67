-- What a caller with a seat at a site's cell has done in one call that takes many turns.
use Rattle.std.specs.Prelude.{◌≡◌, ◌⊎◌, ℕ, ◌≤◌, ◌++◌, true, false, List, [], ◌∷◌, length, Some}
use mathlib.Core.Option.{some}
use mathlib.Core.List.{IsPrefix}
use lib.ListN.{get_elem?}
use Rattle.atomic_table.specs.Seated.{TableId}
use Rattle.turn_cell.specs.Seats.{Seated}
use Rattle.hub_core.specs.Seen.{Seen}
use Rattle.shared_hub.specs.declared.item.Item.{Item}
use Rattle.shared_hub.specs.declared.site.Step.{Step}
use Rattle.shared_hub.specs.declared.site.Step.TheVariants.{Ready, Failed}
use Rattle.shared_hub.specs.Items.{opening_in, relay_in, has_ended, HasFinished, IsOf}

module _ {L W : Type 0} where
  -- the list begins with a hub that has at least so many workers, and with this relay
  pub record Leads (workers : ℕ) (relay : TableId) (items : List (Item L W)) : Type 0 where
    pub hub : Seen L
    pub opens : opening_in items ≡ Some hub
    pub enough : workers ≤ length hub.crew
    pub relays : relay_in items ≡ Some relay

  -- the seat has no turn, as many parts, and sees what it saw
  pub record Stays (old new : Seated (Item L W)) : Type 0 where
    pub cell : new.cell ≡ old.cell
    pub free : new.turn ≡ false
    pub parts : new.parts ≡ old.parts
    pub olds : new.olds ≡ old.olds
    pub sees : IsPrefix old.seen new.seen

  -- the same of a seat that came back, whatever it got
  pub record Sees (old new : Seated (Item L W)) : Type 0 where
    pub cell : new.cell ≡ old.cell
    pub free : new.turn ≡ false
    pub parts : new.parts ≡ old.parts
    pub sees : IsPrefix old.seen new.seen

  -- at each of these places stands an item of this worker, or the end
  abbrev pub AllAt : ℕ → List (Item L W) → List ℕ → Type 0
  AllAt worker items [] = Unit {0}
  AllAt worker items (place ∷ places) = ((x : Item L W) × (get_elem? items place ≡ some x) × IsOf worker x) × AllAt worker items places

  -- the places that the seat got are of this worker's entries, or of the end
  pub record Got (worker : ℕ) (old new : Seated (Item L W)) : Type 0 where
    pub places : List ℕ
    pub more : new.mine ≡ old.mine ++ places
    pub his : AllAt worker new.seen places

  -- it has ended, or he has done all that is his
  abbrev pub IsDone : (List (Item L W) → Type 0) → List (Item L W) → Type 0
  IsDone is_through items = (has_ended items ≡ true) ⊎ is_through items

  -- it is so since the list was shorter, which began with a hub then
  pub record WasDone (is_through : List (Item L W) → Type 0) (items : List (Item L W)) : Type 0 where
    pub before : List (Item L W)
    pub begins : IsPrefix before items
    pub hub : Seen L
    pub opens : opening_in before ≡ Some hub
    pub done : IsDone is_through before

  -- of each worker from 1 on
  abbrev pub AllDone : ℕ → List (Item L W) → Type 0
  AllDone workers items = (worker : ℕ) → 1 ≤ worker → worker ≤ workers → WasDone (HasFinished worker) items

  -- where a turn came to an end, he is done
  abbrev pub ComesTo : (List (Item L W) → Type 0) → Step → List (Item L W) → Type 0
  ComesTo is_through Ready items = is_through items
  ComesTo is_through Failed items = has_ended items ≡ true
  ComesTo is_through _ items = Unit {0}
