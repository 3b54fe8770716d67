-- What is found of gateways (ISO 22510, Core, search and self description): those that the awaited responses tell of, in the order in which these
-- came, each different one once, and of these the first 64.
use Rattle.std.specs.Prelude.{◌≡◌, ℕ, ◌<◌, ◌≤◌, List, [], ◌∷◌, ◌++◌, length, Contains}
use Rattle.discovery.specs.declared.about.About.{About}
use Rattle.discovery.specs.declared.find_frame.FindFrame.{FindFrame}
use Rattle.discovery.specs.declared.find_frame.FindFrame.TheVariants.{SearchRequest, SearchResponse, DescriptionRequest, DescriptionResponse}
use Rattle.discovery.specs.declared.inquiry.Inquiry.{Inquiry}
use Rattle.discovery.specs.declared.inquiry.Inquiry.TheVariants.{Search, Description}
use Rattle.discovery.specs.Discovery.{Reads}

-- ---- what is asked, and the responses that it awaits

abbrev pub request_of : Inquiry → FindFrame
request_of Search = SearchRequest
request_of Description = DescriptionRequest

abbrev pub response_of : Inquiry → About → FindFrame
response_of Search about = SearchResponse about
response_of Description about = DescriptionResponse about

-- the octets are an awaited response, which tells of this gateway
abbrev pub Tells : Inquiry → List ℕ → About → Type 0
Tells inquiry octets about = Reads octets (response_of inquiry about)

abbrev pub TellsNothing : Inquiry → List ℕ → Type 0
TellsNothing inquiry octets = (about : About) → ¬ Tells inquiry octets about

-- ---- what datagrams tell, in order: each tells of one gateway or of none

pub data TellAll (inquiry : Inquiry) : List (List ℕ) → List About → Type 0 where
  NoMore : TellAll inquiry [] []
  One : {octets : List ℕ} {about : About} {others : List (List ℕ)} {abouts : List About} → Tells inquiry octets about → TellAll inquiry others abouts
      → TellAll inquiry (octets ∷ others) (about ∷ abouts)
  Other : {octets : List ℕ} {others : List (List ℕ)} {abouts : List About} → TellsNothing inquiry octets → TellAll inquiry others abouts → TellAll inquiry (octets ∷ others) abouts

-- ---- what is found: each different one once, where it is told first, behind those that were found before, until there are 64

abbrev pub most_found : ℕ
most_found = 64

pub data Firsts : List About → List About → List About → Type 0 where
  Ended : {before : List About} → Firsts before [] []
  First : {before : List About} {about : About} {others firsts : List About} → length before < most_found → ¬ Contains before about → Firsts (before ++ about ∷ []) others firsts
      → Firsts before (about ∷ others) (about ∷ firsts)
  Again : {before : List About} {about : About} {others firsts : List About} → Contains before about → Firsts before others firsts → Firsts before (about ∷ others) firsts
  Full : {before others : List About} → most_found ≤ length before → Firsts before others []

pub record Finds (inquiry : Inquiry) (datagrams : List (List ℕ)) (found : List About) : Type 0 where
  pub told : List About
  pub tell : TellAll inquiry datagrams told
  pub firsts : Firsts [] told found

-- what contracts see of a finder
pub record Finding : Type 0 where
  pub inquiry : Inquiry
  pub found : List About

-- ---- one datagram more

-- a gateway that it tells of is added where there is room, unless it was found before; otherwise all stays
pub record Adds (inquiry : Inquiry) (octets : List ℕ) (old new : List About) : Type 0 where
  pub adds : (about : About) → Tells inquiry octets about → ¬ Contains old about → length old < most_found → new ≡ old ++ about ∷ []
  pub again : (about : About) → Tells inquiry octets about → Contains old about → new ≡ old
  pub full : most_found ≤ length old → new ≡ old
  pub other : TellsNothing inquiry octets → new ≡ old
