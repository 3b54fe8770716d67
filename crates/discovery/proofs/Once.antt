-- Octets are read as one frame, and what is read breaks no rule.
use Rattle.std.proofs.Common.{◌≡◌, ℕ, List, refl, ap, sym, ◌∙◌, arith}
use Rattle.std.specs.Prelude.{IfOk, IfErr, Result, Ok, Err, drop}
use Rattle.knx_model.specs.declared.address.IndAddr.{IndAddr}
use Rattle.knx_model.specs.declared.frames.ip.IpRefused.{IpRefused}
use Rattle.knx_model.specs.declared.frames.ip.IpRefused.TheVariants.{Header, Service, Length, Body}
use Rattle.knx_model.specs.Octets.{word_at}
use Rattle.discovery.specs.declared.about.About.{About}
use Rattle.discovery.specs.declared.find_frame.FindFrame.{FindFrame}
use Rattle.discovery.specs.declared.find_frame.FindFrame.TheVariants.{SearchRequest, SearchResponse, DescriptionRequest, DescriptionResponse}
use Rattle.discovery.specs.Discovery.{Reads, ReadsBody, IsBody, IsService, IsInformation, HasAbout, Breaks, IsLeastBroken, is_information, is_families, pair_octets}
use Rattle.discovery.proofs.Parting.{only_once}
use Rattle.discovery.proofs.Pairs.{pairs_once}

address_once : (a b : IndAddr) → a.raw ≡ b.raw → a ≡ b
address_once a b e = λ i. record { raw = e i }

-- a device information and its families are of one gateway
fields_once : (content : List ℕ) (a b : About) → IsInformation content a → IsInformation content b → a.families ≡ b.families → a ≡ b
fields_once content a b p q families =
    let address : a.address ≡ b.address = address_once a.address b.address (p.address ∙ sym q.address) in
    λ i. record {
      medium = (p.medium ∙ sym q.medium) i;
      status = (p.status ∙ sym q.status) i;
      address = address i;
      project = (p.project ∙ sym q.project) i;
      serial = (p.serial ∙ sym q.serial) i;
      multicast = (p.multicast ∙ sym q.multicast) i;
      mac = (p.mac ∙ sym q.mac) i;
      name = (p.name ∙ sym q.name) i;
      families = families i;
    }

pub about_once : (octets : List ℕ) (a b : About) → HasAbout octets a → HasAbout octets b → a ≡ b
about_once octets a b p q =
    let same : p.content ≡ q.content = only_once is_information octets p.content q.content p.information q.information in
    let pairs : a.families ≡ b.families = pairs_once a.families b.families (only_once is_families octets (pair_octets a.families) (pair_octets b.families) p.families q.families) in
    let fields : IsInformation p.content b = rw same q.fields in
    fields_once p.content a b p.fields fields pairs

body_once : (service : ℕ) (body : List ℕ) (a b : FindFrame) → ReadsBody service body a → ReadsBody service body b → a ≡ b
body_once service body SearchRequest SearchRequest p q = refl
body_once service body SearchRequest (SearchResponse b) p q = absurd (omega (arith, p.0, q.0))
body_once service body SearchRequest DescriptionRequest p q = absurd (omega (arith, p.0, q.0))
body_once service body SearchRequest (DescriptionResponse b) p q = absurd (omega (arith, p.0, q.0))
body_once service body (SearchResponse a) SearchRequest p q = absurd (omega (arith, p.0, q.0))
body_once service body (SearchResponse a) (SearchResponse b) p q = ap SearchResponse (about_once (drop 8 body) a b p.2 q.2)
body_once service body (SearchResponse a) DescriptionRequest p q = absurd (omega (arith, p.0, q.0))
body_once service body (SearchResponse a) (DescriptionResponse b) p q = absurd (omega (arith, p.0, q.0))
body_once service body DescriptionRequest SearchRequest p q = absurd (omega (arith, p.0, q.0))
body_once service body DescriptionRequest (SearchResponse b) p q = absurd (omega (arith, p.0, q.0))
body_once service body DescriptionRequest DescriptionRequest p q = refl
body_once service body DescriptionRequest (DescriptionResponse b) p q = absurd (omega (arith, p.0, q.0))
body_once service body (DescriptionResponse a) SearchRequest p q = absurd (omega (arith, p.0, q.0))
body_once service body (DescriptionResponse a) (SearchResponse b) p q = absurd (omega (arith, p.0, q.0))
body_once service body (DescriptionResponse a) DescriptionRequest p q = absurd (omega (arith, p.0, q.0))
body_once service body (DescriptionResponse a) (DescriptionResponse b) p q = ap DescriptionResponse (about_once body a b p.1 q.1)

pub reads_once : (octets : List ℕ) (a b : FindFrame) → Reads octets a → Reads octets b → a ≡ b
reads_once octets a b p q = body_once (word_at octets 2) (drop 6 octets) a b p.body q.body

body_service : (service : ℕ) (body : List ℕ) (a : FindFrame) → ReadsBody service body a → IsService service
body_service service body SearchRequest p = (omega (arith, p.0), omega (arith, p.0))
body_service service body (SearchResponse a) p = (omega (arith, p.0), omega (arith, p.0))
body_service service body DescriptionRequest p = (omega (arith, p.0), omega (arith, p.0))
body_service service body (DescriptionResponse a) p = (omega (arith, p.0), omega (arith, p.0))

body_is : (service : ℕ) (body : List ℕ) (a : FindFrame) → ReadsBody service body a → IsBody service body
body_is service body SearchRequest p = record {
  search_request = λ _. (p.1, p.2);
  search_response = λ e. absurd (omega (arith, p.0, e));
  description_request = λ e. absurd (omega (arith, p.0, e));
  description_response = λ e. absurd (omega (arith, p.0, e));
}
body_is service body (SearchResponse a) p = record {
  search_request = λ e. absurd (omega (arith, p.0, e));
  search_response = λ _. (p.1, (a, p.2));
  description_request = λ e. absurd (omega (arith, p.0, e));
  description_response = λ e. absurd (omega (arith, p.0, e));
}
body_is service body DescriptionRequest p = record {
  search_request = λ e. absurd (omega (arith, p.0, e));
  search_response = λ e. absurd (omega (arith, p.0, e));
  description_request = λ _. (p.1, p.2);
  description_response = λ e. absurd (omega (arith, p.0, e));
}
body_is service body (DescriptionResponse a) p = record {
  search_request = λ e. absurd (omega (arith, p.0, e));
  search_response = λ e. absurd (omega (arith, p.0, e));
  description_request = λ e. absurd (omega (arith, p.0, e));
  description_response = λ _. (a, p.1);
}

pub reads_breaks : (octets : List ℕ) (why : IpRefused) (frame : FindFrame) → Reads octets frame → Breaks why octets → ⊥
reads_breaks octets Header frame p h = h p.header
reads_breaks octets Service frame p h = h (body_service _ _ frame p.body)
reads_breaks octets Length frame p h = h p.total
reads_breaks octets Body frame p h = h (body_is _ _ frame p.body)

pub only_frame : (octets : List ℕ) (r : Result FindFrame IpRefused) → IfOk r (λ f. Reads octets f) → IfErr r (λ why. IsLeastBroken why octets) → (frame : FindFrame) → Reads octets frame → r ≡ Ok frame
only_frame octets (Ok f) ok err frame p = ap Ok (reads_once octets f frame ok p)
only_frame octets (Err why) ok err frame p = absurd (reads_breaks octets why frame p err.broken)
