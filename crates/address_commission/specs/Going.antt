-- How the places of a link's story go on in a call, where the story tells them.
use Rattle.std.specs.Prelude.{◌≡◌, List, [], ◌∷◌, Some}
use Rattle.knx_model.specs.declared.address.IndAddr.{IndAddr}
use Rattle.line_model.specs.Record.{Placed}
use Rattle.line_model.specs.LinkStory.{Story, clock_of, places_in}
use Rattle.line_model.specs.Moments.{moments}
use Rattle.tunnel_link.specs.Rights.{WhereTold}
use Rattle.address_world.specs.declared.asked.Asked.{Asked}
use Rattle.address_talk.specs.Rounds.{Round, rounds}
use Rattle.address_talk.specs.Talk.{AsksFor}
use Rattle.address_commission.specs.Exact.{WhereExact}

-- these places come from those that the story before told, by the same clock, and P holds of both
pub record ComesFrom (P : List Placed → List Placed → Type 0) (before after : Story) (new : List Placed) : Type 0 where
  pub old : List Placed
  pub told : places_in before ≡ Some old
  pub clock : clock_of after ≡ clock_of before
  pub is : P old new

abbrev pub Going : (List Placed → List Placed → Type 0) → Story → Story → Type 0
Going P before after = WhereTold (ComesFrom P before after) after

-- where the clock is exact
abbrev pub GoingExact : (List Placed → List Placed → Type 0) → Story → Story → Type 0
GoingExact P before after = WhereExact (ComesFrom P before after) after

-- one request was put: the newest round asks for this, and those before it are the same
abbrev pub OneMore : IndAddr → Asked → List Round → List Round → Type 0
OneMore wanted asked old [] = ⊥
OneMore wanted asked old (r ∷ rs) = AsksFor wanted asked r × (rs ≡ old)

abbrev pub AsksOne : IndAddr → Asked → List Placed → List Placed → Type 0
AsksOne wanted asked old new = OneMore wanted asked (rounds (moments old)) (rounds (moments new))
