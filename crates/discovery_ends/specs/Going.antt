-- How a search goes on, by the link's record.
use Rattle.std.specs.Prelude.{◌≡◌, ℕ, ◌+◌, ◌⊎◌, List, [], ◌∷◌, ◌++◌, length, Result, Ok, Err}
use Rattle.line_model.specs.declared.outside.link.LinkFault.{LinkFault}
use Rattle.line_model.specs.LinkStory.{Clock, Story, Untold, Recorded, Full, newest_time}
use Rattle.line_model.specs.Record.{Entry}
use Rattle.line_model.specs.World.{now, replay}
use Rattle.discovery.specs.declared.about.About.{About}
use Rattle.discovery.specs.declared.inquiry.Inquiry.{Inquiry}
use Rattle.discovery.specs.Finding.{Finds, most_found}
use Rattle.discovery_ends.specs.declared.listening.Heard.{Heard}
use Rattle.discovery_ends.specs.declared.listening.Heard.TheVariants as heard
use Rattle.discovery_ends.specs.declared.listening.Listened.{Listened}
use Rattle.discovery_ends.specs.declared.listening.Listened.TheVariants as listened
use Rattle.discovery_ends.specs.Searching.{quiet_ms, most_datagrams, datagrams_in, before_quiet, IsQuietFor, Listens, Round, Takes, Searched, recorded}

-- ---- a link on which something was sent or got just now

abbrev pub IsAt : Story → ℕ → Type 0
IsAt Untold time = Unit {0}
IsAt (Recorded clock r) time = newest_time r ≡ time
IsAt (Full start events) time = now (replay start events) ≡ time

pub record Awake (clock : Clock) (story : Story) (r : List Entry) : Type 0 where
  pub told : recorded story ≡ Recorded clock r
  pub time : IsAt story (newest_time r)
  pub newest : before_quiet r ≡ r

-- polls were added to its record
pub record Grew (clock : Clock) (r polls : List Entry) (after : Story) : Type 0 where
  pub told : recorded after ≡ Recorded clock (polls ++ r)
  pub listens : Listens clock r polls

-- ---- a poll

pub record Came (clock : Clock) (octets : List ℕ) (r : List Entry) (after : Story) : Type 0 where
  pub polls : List Entry
  pub grew : Grew clock r polls after
  pub awake : Awake clock after (polls ++ r)
  pub got : datagrams_in polls ≡ octets ∷ []

pub record NoneCame (clock : Clock) (r : List Entry) (after : Story) : Type 0 where
  pub polls : List Entry
  pub grew : Grew clock r polls after
  pub got : datagrams_in polls ≡ []

pub record Taken (clock : Clock) (inquiry : Inquiry) (r : List Entry) (after : Story) (old new : List About) : Type 0 where
  pub octets : List ℕ
  pub came : Came clock octets r after
  pub finds : (earlier : List (List ℕ)) → Finds inquiry earlier old → Finds inquiry (earlier ++ octets ∷ []) new

pub record WasQuiet (clock : Clock) (r : List Entry) (after : Story) (old new : List About) : Type 0 where
  pub none : NoneCame clock r after
  pub quiet : IsQuietFor clock quiet_ms (none.polls ++ r)
  pub same : new ≡ old

abbrev pub PolledSo : Clock → Result Heard LinkFault → Inquiry → List Entry → Story → List About → List About → Type 0
PolledSo clock (Ok heard.Datagram) inquiry r after old new = Taken clock inquiry r after old new
PolledSo clock (Ok heard.Quiet) inquiry r after old new = WasQuiet clock r after old new
PolledSo clock (Err fault) inquiry r after old new = NoneCame clock r after × (new ≡ old)

-- ---- polls, one after another

-- nothing more is taken
abbrev pub IsOver : List (List ℕ) → List About → Type 0
IsOver got found = (length found ≡ most_found) ⊎ (length got ≡ most_datagrams)

pub record HeardOut (clock : Clock) (inquiry : Inquiry) (r : List Entry) (got : List (List ℕ)) (after : Story) (found : List About) : Type 0 where
  pub polls : List Entry
  pub grew : Grew clock r polls after
  pub takes : Takes inquiry (got ++ datagrams_in polls) found

abbrev pub ListenedSo : Clock → Result Listened LinkFault → Inquiry → List Entry → List (List ℕ) → Story → List About → Type 0
ListenedSo clock (Ok (listened.Quiet left)) inquiry r got after found =
    (h : HeardOut clock inquiry r got after found) × IsQuietFor clock quiet_ms (h.polls ++ r) × (length (got ++ datagrams_in h.polls) + left ≡ most_datagrams)
ListenedSo clock (Ok listened.Over) inquiry r got after found = (h : HeardOut clock inquiry r got after found) × IsOver (got ++ datagrams_in h.polls) found
ListenedSo clock (Err fault) inquiry r got after found = HeardOut clock inquiry r got after found

-- between two polls: so many datagrams more may be taken
pub record Goes (clock : Clock) (inquiry : Inquiry) (r : List Entry) (got : List (List ℕ)) (story : Story) (found : List About) (left : ℕ) : Type 0 where
  pub polls : List Entry
  pub awake : Awake clock story (polls ++ r)
  pub listens : Listens clock r polls
  pub takes : Takes inquiry (got ++ datagrams_in polls) found
  pub count : length (got ++ datagrams_in polls) + left ≡ most_datagrams

-- ---- a round

pub record WentRound (clock : Clock) (inquiry : Inquiry) (r : List Entry) (got : List (List ℕ)) (after : Story) (found : List About) : Type 0 where
  pub now : List Entry
  pub told : recorded after ≡ Recorded clock now
  pub more : List (List ℕ)
  pub round : Round clock inquiry r now more
  pub takes : Takes inquiry (got ++ more) found

abbrev pub RoundSo : Clock → Result Listened LinkFault → Inquiry → List Entry → List (List ℕ) → Story → List About → List About → Type 0
RoundSo clock (Ok (listened.Quiet left)) inquiry r got after old found =
    (w : WentRound clock inquiry r got after found) × IsQuietFor clock quiet_ms w.now × (length (got ++ w.more) + left ≡ most_datagrams)
RoundSo clock (Ok listened.Over) inquiry r got after old found = (w : WentRound clock inquiry r got after found) × IsOver (got ++ w.more) found
RoundSo clock (Err fault) inquiry r got after old found = ((recorded after ≡ Recorded clock r) × (found ≡ old)) ⊎ WentRound clock inquiry r got after found

-- ---- what is done behind a first round, which ended in quiet

abbrev pub AgainSo : Result (Unit {0}) LinkFault → Inquiry → ℕ → Story → Story → List About → List About → Type 0
AgainSo result inquiry left before after old found =
    (clock : Clock) (r between : List Entry) (first : List (List ℕ)) → recorded before ≡ Recorded clock between → Round clock inquiry r between first → IsQuietFor clock quiet_ms between → Takes inquiry first old
    → length first + left ≡ most_datagrams → (r' : List Entry) × (recorded after ≡ Recorded clock r') × Searched clock inquiry r r' found result
