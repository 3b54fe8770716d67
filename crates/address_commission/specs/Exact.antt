-- What is said of a link's places by its clock: with one that runs a poll lasts as long as it likes, and so does a listening. So bounds on time need an
-- exact one.
use Rattle.std.specs.Prelude.{◌≡◌, List, Some}
use Rattle.line_model.specs.Record.{Placed}
use Rattle.line_model.specs.LinkStory.{Story, Clock, Exact, clock_of, places_in}

-- wherever it tells them
abbrev pub WhereClock : (Clock → List Placed → Type 0) → Story → Type 0
WhereClock P story = (places : List Placed) → places_in story ≡ Some places → P (clock_of story) places

-- where its clock is exact
abbrev pub WhereExact : (List Placed → Type 0) → Story → Type 0
WhereExact P story = (places : List Placed) → places_in story ≡ Some places → clock_of story ≡ Exact → P places
