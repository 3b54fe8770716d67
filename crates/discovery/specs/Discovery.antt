-- Which octets are which frame of discovery (ISO 22510, Core, search and self description): the header `06 10`, the service, the total length,
-- and the body of that service: an endpoint, or blocks that tell of a gateway, or both. Octets are named by their place.
use Rattle.std.specs.Prelude.{◌≡◌, ◌≢◌, ℕ, Bool, ◌+◌, ◌≤◌, ◌<◌, ◌==◌, ◌&&◌, List, [], ◌∷◌, ◌++◌, length, take, drop, slice_index, map, filter}
use Rattle.std.specs.List.{flat_map}
use Rattle.knx_model.specs.declared.frames.ip.IpRefused.{IpRefused}
use Rattle.knx_model.specs.declared.frames.ip.IpRefused.TheVariants as refused
use Rattle.knx_model.specs.Apdu.{word}
use Rattle.knx_model.specs.Octets.{word_at}
use Rattle.knx_model.specs.KnxNetIp.{HasHeader, IsEndpointAt, endpoint, refusal_number}
use Rattle.discovery.specs.declared.about.About.{About}
use Rattle.discovery.specs.declared.find_frame.FindFrame.{FindFrame}
use Rattle.discovery.specs.declared.find_frame.FindFrame.TheVariants.{SearchRequest, SearchResponse, DescriptionRequest, DescriptionResponse}

-- ---- blocks

-- a description information block (DIB)
pub record Block : Type 0 where
  pub kind : ℕ
  pub content : List ℕ

-- its length, which counts itself and the type, its type and its content
abbrev pub block_octets : Block → List ℕ
block_octets block = (2 + length block.content) ∷ block.kind ∷ block.content

-- one after another
abbrev pub octets_of : List Block → List ℕ
octets_of blocks = flat_map block_octets blocks

-- the device information, `36 01`
abbrev pub is_information : Block → Bool
is_information block = (block.kind == 0x01) && (length block.content == 52)

-- the supported service families
abbrev pub is_families : Block → Bool
is_families block = block.kind == 0x02

-- the contents of the blocks of a sort, in order
abbrev pub contents : (Block → Bool) → List Block → List (List ℕ)
contents is_of blocks = map (λ (block : Block). block.content) (filter is_of blocks)

-- octets that are blocks, of which just one is of a sort, and its content
pub record HasOnly (is_of : Block → Bool) (octets content : List ℕ) : Type 0 where
  pub blocks : List Block
  pub all : octets ≡ octets_of blocks
  pub one : contents is_of blocks ≡ content ∷ []

-- ---- what a gateway tells of itself

-- so many octets from a place on
abbrev pub octets_at : List ℕ → ℕ → ℕ → List ℕ
octets_at octets place count = take count (drop place octets)

-- the content of the device information
pub record IsInformation (content : List ℕ) (about : About) : Type 0 where
  pub medium : about.medium ≡ slice_index content 0
  pub status : about.status ≡ slice_index content 1
  pub address : about.address.raw ≡ word_at content 2
  pub project : about.project ≡ word_at content 4
  pub serial : about.serial ≡ octets_at content 6 6
  pub multicast : about.multicast ≡ octets_at content 12 4
  pub mac : about.mac ≡ octets_at content 16 6
  pub name : about.name ≡ octets_at content 22 30

-- each family and its version
abbrev pub pair_octets : List (ℕ × ℕ) → List ℕ
pair_octets pairs = flat_map (λ (p : ℕ × ℕ). p.0 ∷ p.1 ∷ []) pairs

-- blocks that tell of a gateway: just one device information and just one block of service families; all others are skipped
pub record HasAbout (octets : List ℕ) (about : About) : Type 0 where
  pub content : List ℕ
  pub information : HasOnly is_information octets content
  pub fields : IsInformation content about
  pub families : HasOnly is_families octets (pair_octets about.families)

-- ---- the table: the service, and its body

-- an endpoint (HPAI), with any address and port
abbrev pub BeginsWithEndpoint : List ℕ → Type 0
BeginsWithEndpoint body = (8 ≤ length body) × IsEndpointAt body 0

-- a request is an endpoint; a response of a search is an endpoint and blocks, and a response of a description is blocks alone
abbrev pub ReadsBody : ℕ → List ℕ → FindFrame → Type 0
ReadsBody service body SearchRequest = (service ≡ 0x0201) × BeginsWithEndpoint body × (length body ≡ 8)
ReadsBody service body (SearchResponse about) = (service ≡ 0x0202) × BeginsWithEndpoint body × HasAbout (drop 8 body) about
ReadsBody service body DescriptionRequest = (service ≡ 0x0203) × BeginsWithEndpoint body × (length body ≡ 8)
ReadsBody service body (DescriptionResponse about) = (service ≡ 0x0204) × HasAbout body about

-- header, service, total length, body
pub record Reads (octets : List ℕ) (frame : FindFrame) : Type 0 where
  pub header : HasHeader octets
  pub total : word_at octets 4 ≡ length octets
  pub body : ReadsBody (word_at octets 2) (drop 6 octets) frame

-- ---- the refusals

-- a service of the table
abbrev pub IsService : ℕ → Type 0
IsService service = (0x0201 ≤ service) × (service ≤ 0x0204)

-- what the table wants of a service's body
pub record IsBody (service : ℕ) (body : List ℕ) : Type 0 where
  pub search_request : service ≡ 0x0201 → BeginsWithEndpoint body × (length body ≡ 8)
  pub search_response : service ≡ 0x0202 → BeginsWithEndpoint body × ((about : About) × HasAbout (drop 8 body) about)
  pub description_request : service ≡ 0x0203 → BeginsWithEndpoint body × (length body ≡ 8)
  pub description_response : service ≡ 0x0204 → (about : About) × HasAbout body about

-- what a refusal says of the octets
abbrev pub Breaks : IpRefused → List ℕ → Type 0
Breaks refused.Header octets = ¬ HasHeader octets
Breaks refused.Service octets = ¬ IsService (word_at octets 2)
Breaks refused.Length octets = word_at octets 4 ≢ length octets
Breaks refused.Body octets = ¬ IsBody (word_at octets 2) (drop 6 octets)

-- the least number whose rule the octets break
pub record IsLeastBroken (why : IpRefused) (octets : List ℕ) : Type 0 where
  pub broken : Breaks why octets
  pub least : (other : IpRefused) → refusal_number other < refusal_number why → ¬ Breaks other octets

-- ---- what is written

abbrev pub information_octets : About → List ℕ
information_octets about =
    about.medium ∷ about.status ∷ (word about.address.raw ++ (word about.project ++ (about.serial ++ (about.multicast ++ (about.mac ++ about.name)))))

abbrev pub information_of : About → Block
information_of about = record { kind = 0x01; content = information_octets about }

abbrev pub families_of : List (ℕ × ℕ) → Block
families_of pairs = record { kind = 0x02; content = pair_octets pairs }

-- the two blocks that are written, in this order
abbrev pub blocks_of : About → List Block
blocks_of about = information_of about ∷ families_of about.families ∷ []

abbrev pub service_of : FindFrame → ℕ
service_of SearchRequest = 0x0201
service_of (SearchResponse about) = 0x0202
service_of DescriptionRequest = 0x0203
service_of (DescriptionResponse about) = 0x0204

-- an endpoint of zeros asks for an answer to the sender's address
abbrev pub body_of : FindFrame → List ℕ
body_of SearchRequest = endpoint
body_of (SearchResponse about) = endpoint ++ octets_of (blocks_of about)
body_of DescriptionRequest = endpoint
body_of (DescriptionResponse about) = octets_of (blocks_of about)

abbrev pub Written : FindFrame → List ℕ
Written frame = 0x06 ∷ 0x10 ∷ (word (service_of frame) ++ word (6 + length (body_of frame)) ++ body_of frame)

-- the frames that are written
abbrev pub FitsADatagram : FindFrame → Type 0
FitsADatagram (SearchResponse about) = length about.families ≤ 64
FitsADatagram (DescriptionResponse about) = length about.families ≤ 64
FitsADatagram _ = Unit {0}

-- the values of the type: how many octets the fields of `About` have
pub record HasFields (about : About) : Type 0 where
  pub serial : length about.serial ≡ 6
  pub multicast : length about.multicast ≡ 4
  pub mac : length about.mac ≡ 6
  pub name : length about.name ≡ 30

abbrev pub IsFrame : FindFrame → Type 0
IsFrame (SearchResponse about) = HasFields about
IsFrame (DescriptionResponse about) = HasFields about
IsFrame _ = Unit {0}
