-- Looking for gateways over a link (ISO 22510, Core, search and self description), by the link's record: the request is sent once, or once more where
-- nothing was found until it was quiet; datagrams are taken until it is quiet, 64 gateways are found or 65,536 datagrams are taken. By an exact clock it is
-- quiet where for 3,000 ms in turn nothing came; by one that runs, where a poll brought nothing, however long it lasted. The newest entry first.
use Rattle.std.specs.Prelude.{◌≡◌, ℕ, ◌+◌, ◌<◌, ◌≤◌, ◌⊎◌, Bool, true, false, List, [], ◌∷◌, ◌++◌, length, Result, Ok, if◌then◌else◌}
use Rattle.line_model.specs.declared.outside.link.LinkFault.{LinkFault}
use Rattle.line_model.specs.LinkStory.{Clock, Story, Untold, Recorded, Full, Exact, Running, newest_time}
use Rattle.line_model.specs.Record.{Item, Put, Renewed, Got, Quiet, Entry, is_poll, record_of}
use Rattle.discovery.specs.declared.about.About.{About}
use Rattle.discovery.specs.declared.inquiry.Inquiry.{Inquiry}
use Rattle.discovery.specs.Discovery.{Written}
use Rattle.discovery.specs.Finding.{Finds, request_of, most_found}

abbrev pub quiet_ms : ℕ
quiet_ms = 3000

abbrev pub most_datagrams : ℕ
most_datagrams = 65536

-- ---- the datagrams that were got, the oldest first

abbrev pub got_in : Item → List (List ℕ)
got_in (Put octets) = []
got_in Renewed = []
got_in (Got octets) = octets ∷ []
got_in Quiet = []

abbrev pub datagrams_in : List Entry → List (List ℕ)
datagrams_in [] = []
datagrams_in (x ∷ older) = datagrams_in older ++ got_in x.what

-- ---- how long it was quiet

abbrev pub is_quiet : Item → Bool
is_quiet (Put octets) = false
is_quiet Renewed = false
is_quiet (Got octets) = false
is_quiet Quiet = true

-- up to what was sent or got last
abbrev pub before_quiet : List Entry → List Entry
before_quiet [] = []
before_quiet (x ∷ older) = if is_quiet x.what then before_quiet older else x ∷ older

-- the last poll brought nothing
abbrev pub EndsQuiet : List Entry → Type 0
EndsQuiet [] = ⊥
EndsQuiet (x ∷ older) = x.what ≡ Quiet

-- so long nothing was sent or got, by an exact clock
abbrev pub IsQuietFor : Clock → ℕ → List Entry → Type 0
IsQuietFor Exact ms r = newest_time r ≡ newest_time (before_quiet r) + ms
IsQuietFor Running ms r = EndsQuiet r

-- ---- one sending of the request, and the polls behind it. By an exact clock it was quiet for 3,000 ms at most in each; by one that runs each comes just behind
-- what was sent or got

abbrev pub IsInTime : Clock → ℕ → List Entry → Type 0
IsInTime Exact now r = now ≤ newest_time (before_quiet r) + quiet_ms
IsInTime Running now r = before_quiet r ≡ r

abbrev pub Listens : Clock → List Entry → List Entry → Type 0
Listens clock before [] = Unit {0}
Listens clock before (x ∷ polls) = (is_poll x.what ≡ true) × IsInTime clock x.now (polls ++ before) × Listens clock before polls

pub record Round (clock : Clock) (inquiry : Inquiry) (before after : List Entry) (got : List (List ℕ)) : Type 0 where
  pub request : Entry
  pub put : request.what ≡ Put (Written (request_of inquiry))
  pub polls : List Entry
  pub listens : Listens clock (request ∷ before) polls
  pub all : after ≡ polls ++ request ∷ before
  pub got_in_it : got ≡ datagrams_in polls

-- how many times the request was sent, and the datagrams that were got. It is sent once more only where the first quiet has found none
pub data Rounds (clock : Clock) (inquiry : Inquiry) (before : List Entry) : ℕ → List Entry → List (List ℕ) → Type 0 where
  Unsent : Rounds clock inquiry before 0 before []
  Once : {after : List Entry} {got : List (List ℕ)} → Round clock inquiry before after got → Rounds clock inquiry before 1 after got
  Twice : {between after : List Entry} {first second : List (List ℕ)} → Round clock inquiry before between first → IsQuietFor clock quiet_ms between → Finds inquiry first []
      → Round clock inquiry between after second → Rounds clock inquiry before 2 after (first ++ second)

-- ---- what is found, where nothing is taken any more once 64 were found

pub record Takes (inquiry : Inquiry) (got : List (List ℕ)) (found : List About) : Type 0 where
  pub finds : Finds inquiry got found
  pub room : (front : List (List ℕ)) (last : List ℕ) (earlier : List About) → got ≡ front ++ last ∷ [] → Finds inquiry front earlier → length earlier < most_found
  pub few : length got ≤ most_datagrams

-- ---- how it ends: where none was found, the request was sent twice, unless all datagrams were taken

abbrev pub Ends : Clock → ℕ → List Entry → List (List ℕ) → List About → Type 0
Ends clock sent r got found = (length found ≡ most_found) ⊎ (length got ≡ most_datagrams) ⊎ (IsQuietFor clock quiet_ms r × (found ≡ [] → sent ≡ 2))

pub record Searched (clock : Clock) (inquiry : Inquiry) (before after : List Entry) (found : List About) (ended : Result (Unit {0}) LinkFault) : Type 0 where
  pub sent : ℕ
  pub got : List (List ℕ)
  pub rounds : Rounds clock inquiry before sent after got
  pub takes : Takes inquiry got found
  pub ends : ended ≡ Ok tt → Ends clock sent after got found

-- a link's story by its record alone, whether or not it tells its events
abbrev pub recorded : Story → Story
recorded Untold = Untold
recorded (Recorded clock r) = Recorded clock r
recorded (Full start events) = Recorded Exact (record_of start events)

-- by its stories before and after it
abbrev pub Searches : Inquiry → Story → Story → List About → Result (Unit {0}) LinkFault → Type 0
Searches inquiry before after found ended =
    (clock : Clock) (r : List Entry) → recorded before ≡ Recorded clock r → (r' : List Entry) × (recorded after ≡ Recorded clock r') × Searched clock inquiry r r' found ended

-- by the story after it, of a link that was new: all that its record has is of the search
abbrev pub SearchesNew : Inquiry → Story → List About → Result (Unit {0}) LinkFault → Type 0
SearchesNew inquiry after found ended = (clock : Clock) (r : List Entry) → recorded after ≡ Recorded clock r → Searched clock inquiry [] r found ended
