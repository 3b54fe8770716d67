-- A gateway's port at which requests of discovery are answered (ISO 22510, Core, search and self description). By the record of the port below it,
-- each answered request stands as a datagram without octets, and its answer is left out. Once an answer has failed nothing more is done at
-- the port below; where a request was taken last it is left out then, with its answer where that went out nevertheless.
use Rattle.std.specs.Prelude.{◌≡◌, ℕ, ◌+◌, ◌<◌, ◌≤◌, Bool, false, ◌&&◌, ◌==◌, min, List, [], ◌∷◌, ◌++◌, length, drop, Option, Some, None, if◌then◌else◌, is_some}
use Rattle.std.specs.List.{AllByRecursion}
use Rattle.std.specs.Str.{bytes_eq}
use Rattle.knx_model.specs.Octets.{word_at}
use Rattle.knx_model.specs.Outside.{greatest_count, one_more}
use Rattle.line_model.specs.declared.outside.port.PortFault.{PortFault}
use Rattle.line_model.specs.declared.outside.port.PortFault.TheVariants as fault
use Rattle.line_model.specs.PortStory.{PortItem, Took, Quiet, Gave, PortStory, Untold, Recorded, Adds, GivesOrNot}
use Rattle.line_model.specs.Reading.{has_header, has_endpoint}
use Rattle.discovery.specs.declared.about.About.{About}
use Rattle.discovery.specs.declared.inquiry.Inquiry.{Inquiry}
use Rattle.discovery.specs.declared.inquiry.Inquiry.TheVariants.{Search, Description}
use Rattle.discovery.specs.Discovery.{Written, blocks_of, octets_of}
use Rattle.discovery.specs.Finding.{response_of}
use Rattle.discovery_ends.specs.Naming.{Naming, named_story}

-- ---- requests and their answers

-- a request of this service is an endpoint
abbrev pub is_request : ℕ → List ℕ → Bool
is_request service octets = has_header octets && (word_at octets 2 == service) && (length (drop 6 octets) == 8) && has_endpoint (drop 6 octets) 0

-- which request a datagram is. A law of this crate says that this function is the relation `Reads`
abbrev pub request_in : List ℕ → Option Inquiry
request_in octets =
    if is_request 0x0201 octets then Some Search
    else (if is_request 0x0203 octets then Some Description
    else None)

-- its answer tells of the gateway
abbrev pub answer_of : About → Inquiry → List ℕ
answer_of about inquiry = Written (response_of inquiry about)

abbrev pub is_answer_to : About → Option Inquiry → List ℕ → Bool
is_answer_to about None octets = false
is_answer_to about (Some inquiry) octets = bytes_eq octets (answer_of about inquiry)

-- ---- the record of the port below, the newest first, as it is shown

-- an item that answers the request before it: it is given to the client that asked
abbrev pub is_answer : About → PortItem → List PortItem → Bool
is_answer about (Gave to octets) (Took from request ∷ older) = (to == from) && is_answer_to about (request_in request) octets
is_answer about item older = false

-- the newest was a request, which stands without octets
abbrev pub emptied : List PortItem → List PortItem
emptied (Took from request ∷ older) = Took from [] ∷ older
emptied items = items

abbrev pub shown : About → List PortItem → List PortItem
shown about [] = []
shown about (item ∷ older) = if is_answer about item older then emptied (shown about older) else item ∷ shown about older

-- without a request that was taken last, and its answer where that went out
abbrev pub without_last : About → List PortItem → List PortItem
without_last about (Gave to octets ∷ Took from request ∷ older) =
    if is_answer about (Gave to octets) (Took from request ∷ older) then older else Gave to octets ∷ Took from request ∷ older
without_last about (Took from request ∷ older) = if is_some (request_in request) then older else Took from request ∷ older
without_last about items = items

-- where no answer failed; or where one did
abbrev pub shown_where : About → Option PortFault → List PortItem → List PortItem
shown_where about None items = shown about items
shown_where about (Some kept) items = shown about (without_last about items)

abbrev pub shown_story : About → Option PortFault → PortStory → PortStory
shown_story about failed Untold = Untold
shown_story about failed (Recorded items) = Recorded (shown_where about failed items)

-- ---- what an answerer tells: that, over the record with the endpoints that are named

-- Before all else stands what the gateway names and tells, as if it had been given to client 0: its own address and port, and its blocks. Who serves at the
-- port knows nothing of it but that its record grows, and so keeps both.
abbrev pub identity : List ℕ → About → List PortItem
identity own about = Gave 0 (octets_of (blocks_of about)) ∷ Gave 0 own ∷ []

abbrev pub behind : List PortItem → PortStory → PortStory
behind first Untold = Untold
behind first (Recorded items) = Recorded (items ++ first)

abbrev pub answerer_story : List ℕ → About → Option PortFault → PortStory → PortStory
answerer_story own about failed below = behind (identity own about) (shown_story about failed (named_story own below))

-- ---- each request is answered at once, before anything else is done at the port below: so none is left in what is shown

-- a datagram that was taken is no request
abbrev pub IsntRequest : PortItem → Type 0
IsntRequest (Took from octets) = request_in octets ≡ None
IsntRequest (Quiet ms) = Unit {0}
IsntRequest (Gave to octets) = Unit {0}

abbrev pub HasNoRequest : PortStory → Type 0
HasNoRequest Untold = Unit {0}
HasNoRequest (Recorded items) = AllByRecursion IsntRequest items

-- each was answered, but the last where its answer failed so
abbrev pub AllAnswered : About → Option PortFault → PortStory → Type 0
AllAnswered about failed story = HasNoRequest (shown_story about failed story)

-- ---- how a taking fails

-- a request was taken, and its answer failed
pub record AnswerFails (about : About) (before after : PortStory) : Type 0 where
  pub from : ℕ
  pub request : List ℕ
  pub inquiry : Inquiry
  pub is : request_in request ≡ Some inquiry
  pub between : PortStory
  pub took : Adds (Took from request) before between
  pub given : GivesOrNot from (answer_of about inquiry) between after

-- nothing was taken; or an answer failed so
abbrev pub FailsFor : PortFault → About → Option PortFault → PortStory → PortStory → Type 0
FailsFor why about None before after = after ≡ before
FailsFor why about (Some kept) before after = (kept ≡ why) × AnswerFails about before after

-- ---- what contracts see

pub record Answering (P : Type 0) : Type 0 where
  pub port : Naming P
  pub about : About
  pub failed : Option PortFault  -- how an answer failed
  pub refused : ℕ  -- how many calls were refused since

-- how many calls failed, those of the port below among them
abbrev pub faults_with : ℕ → ℕ → ℕ
faults_with below refused = min (below + refused) greatest_count

-- a call that is refused since an answer found the port failed counts as one that failed; for want of memory none does
abbrev pub refused_for : PortFault → ℕ → ℕ
refused_for (fault.NoMemory want) refused = refused
refused_for fault.Failed refused = one_more refused

-- what is kept of the gateway, and of the port below and its count of failed calls
pub record Keeps (about : About) (failed : Option PortFault) (refused below : ℕ) (story : PortStory) : Type 0 where
  pub few : length about.families ≤ 64
  pub answered : AllAnswered about failed story
  -- a call of the port below failed where an answer found that, and where a call was refused for it
  pub broke : failed ≡ Some fault.Failed → 0 < below
  pub refuses : 0 < refused → 0 < below
