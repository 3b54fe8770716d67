-- Which request a datagram is, as a function, is the one that it reads as.
use Rattle.std.proofs.Common.{◌≡◌, ℕ, Bool, true, false, List, drop, length, refl, sym, ◌∙◌, subst, arith, Option, Some, None, Ok, Err}
use Rattle.std.specs.Prelude.{◌↔◌, if◌then◌else◌}
use Rattle.std.proofs.lemmas.Bool.{and_parts, and_from, eqb-true, eq-eqb, leb-true, le-leb}
use Rattle.knx_model.specs.KnxNetIp.{HasHeader, IsEndpointAt}
use Rattle.knx_model.specs.Octets.{word_at}
use Rattle.line_model.specs.Reading.{has_header, has_endpoint}
use Rattle.knx_model.specs.declared.frames.ip.IpRefused.{IpRefused}
use Rattle.discovery.specs.declared.about.About.{About}
use Rattle.discovery.specs.declared.inquiry.Inquiry.{Inquiry}
use Rattle.discovery.specs.declared.inquiry.Inquiry.TheVariants.{Search, Description}
use Rattle.discovery.specs.declared.find_frame.FindFrame.{FindFrame}
use Rattle.discovery.specs.declared.find_frame.FindFrame.TheVariants.{SearchRequest, SearchResponse, DescriptionRequest, DescriptionResponse}
use Rattle.discovery.specs.Discovery.{Reads}
use Rattle.discovery.specs.Finding.{request_of}
use Rattle.discovery.proofs.Once.{reads_once}
use Rattle.discovery_ends.specs.Answering.{is_request, request_in}

-- ---- tests

branch : {X : Type 0} (P : Type 0) (b : Bool) (x y : Option X) (z : X) → (b ≡ true → x ≡ Some z → P) → (b ≡ false → y ≡ Some z → P) → (if b then x else y) ≡ Some z → P
branch P true x y z left right e = left refl e
branch P false x y z left right e = right refl e

is_left : {X : Type 0} (b : Bool) (x y : X) → b ≡ true → (if b then x else y) ≡ x
is_left true x y e = refl
is_left false x y e = cc

is_right : {X : Type 0} (b : Bool) (x y : X) → b ≡ false → (if b then x else y) ≡ y
is_right true x y e = cc
is_right false x y e = refl

-- ---- parts

endpoint_is : (body : List ℕ) → has_endpoint body 0 ≡ true → IsEndpointAt body 0
endpoint_is body e = let p = and_parts _ _ e in (eqb-true _ _ p.0, eqb-true _ _ p.1)

is_endpoint : (body : List ℕ) → IsEndpointAt body 0 → has_endpoint body 0 ≡ true
is_endpoint body h = and_from _ _ (eq-eqb _ _ h.0) (eq-eqb _ _ h.1)

header_is : (octets : List ℕ) → has_header octets ≡ true → HasHeader octets × (word_at octets 4 ≡ length octets)
header_is octets e =
    let p = and_parts _ _ e in let q = and_parts _ _ p.0 in let r = and_parts _ _ q.0 in
    ((leb-true _ _ r.0, eqb-true _ _ r.1, eqb-true _ _ q.1), eqb-true _ _ p.1)

is_header : (octets : List ℕ) → HasHeader octets → word_at octets 4 ≡ length octets → has_header octets ≡ true
is_header octets h total = and_from _ _ (and_from _ _ (and_from _ _ (le-leb _ _ h.0) (eq-eqb _ _ h.1)) (eq-eqb _ _ h.2)) (eq-eqb _ _ total)

record IsRequest (service : ℕ) (octets : List ℕ) : Type 0 where
  header : HasHeader octets
  total : word_at octets 4 ≡ length octets
  service_is : word_at octets 2 ≡ service
  length_is : length (drop 6 octets) ≡ 8
  endpoint : IsEndpointAt (drop 6 octets) 0

request_is : (service : ℕ) (octets : List ℕ) → is_request service octets ≡ true → IsRequest service octets
request_is service octets e =
    let p = and_parts _ _ e in let q = and_parts _ _ p.0 in let r = and_parts _ _ q.0 in let h = header_is octets r.0 in
    record { header = h.0; total = h.1; service_is = eqb-true _ _ r.1; length_is = eqb-true _ _ q.1; endpoint = endpoint_is (drop 6 octets) p.1 }

is_one : (service : ℕ) (octets : List ℕ) → IsRequest service octets → is_request service octets ≡ true
is_one service octets r =
    and_from _ _ (and_from _ _ (and_from _ _ (is_header octets r.header r.total) (eq-eqb _ _ r.service_is)) (eq-eqb _ _ r.length_is)) (is_endpoint (drop 6 octets) r.endpoint)

-- ---- each request

reads_search : (octets : List ℕ) → IsRequest 0x0201 octets → Reads octets SearchRequest
reads_search octets r = record { header = r.header; total = r.total; body = (r.service_is, (let n = r.length_is in omega arith, r.endpoint), r.length_is) }

reads_description : (octets : List ℕ) → IsRequest 0x0203 octets → Reads octets DescriptionRequest
reads_description octets r = record { header = r.header; total = r.total; body = (r.service_is, (let n = r.length_is in omega arith, r.endpoint), r.length_is) }

search_reads : (octets : List ℕ) → Reads octets SearchRequest → IsRequest 0x0201 octets
search_reads octets h = record { header = h.header; total = h.total; service_is = h.body.0; length_is = h.body.2; endpoint = h.body.1.1 }

description_reads : (octets : List ℕ) → Reads octets DescriptionRequest → IsRequest 0x0203 octets
description_reads octets h = record { header = h.header; total = h.total; service_is = h.body.0; length_is = h.body.2; endpoint = h.body.1.1 }

not_true : (b : Bool) → (b ≡ true → ⊥) → b ≡ false
not_true true h = absurd (h refl)
not_true false h = refl

some_same : (a b : Inquiry) → Some a ≡ Some b → a ≡ b
some_same a b e = cc

-- ---- the function is the relation

reads : (octets : List ℕ) (inquiry : Inquiry) → request_in octets ≡ Some inquiry → Reads octets (request_of inquiry)
reads octets inquiry =
    let P : Inquiry → Type 0 = λ q. Reads octets (request_of q) in
    branch (P inquiry) (is_request 0x0201 octets) _ _ inquiry
    (λ t e. subst P (some_same Search inquiry e) (reads_search octets (request_is 0x0201 octets t)))
    (λ _. branch (P inquiry) (is_request 0x0203 octets) _ _ inquiry
    (λ t e. subst P (some_same Description inquiry e) (reads_description octets (request_is 0x0203 octets t)))
    (λ _ e. cc))

is_read : (octets : List ℕ) (inquiry : Inquiry) → Reads octets (request_of inquiry) → request_in octets ≡ Some inquiry
is_read octets Search h = is_left (is_request 0x0201 octets) _ _ (is_one 0x0201 octets (search_reads octets h))
is_read octets Description h =
    let r = description_reads octets h in
    is_right (is_request 0x0201 octets) _ _ (not_true (is_request 0x0201 octets) (λ t. let s = (request_is 0x0201 octets t).service_is in let d = r.service_is in absurd (omega arith)))
    ∙ is_left (is_request 0x0203 octets) _ _ (is_one 0x0203 octets r)

pub requests_read : (octets : List ℕ) (inquiry : Inquiry) → (request_in octets ≡ Some inquiry) ↔ Reads octets (request_of inquiry)
requests_read octets inquiry = (reads octets inquiry, is_read octets inquiry)

-- ---- what else is read is no request

none_is : {X : Type 0} (o wanted : Option X) → o ≡ wanted → ((x : X) → o ≡ Some x → ⊥) → None ≡ o
none_is o None e none = sym e
none_is o (Some x) e none = absurd (none x e)

other_than : (about : About) (inquiry : Inquiry) → (SearchResponse about ≡ request_of inquiry → ⊥) × (DescriptionResponse about ≡ request_of inquiry → ⊥)
other_than about Search = ((λ e. cc), (λ e. cc))
other_than about Description = ((λ e. cc), (λ e. cc))

pub no_search_request : (octets : List ℕ) (about : About) → Reads octets (SearchResponse about) → None ≡ request_in octets
no_search_request octets about h = none_is (request_in octets) _ refl (λ q e. (other_than about q).0 (reads_once octets (SearchResponse about) (request_of q) h (reads octets q e)))

pub no_description_request : (octets : List ℕ) (about : About) → Reads octets (DescriptionResponse about) → None ≡ request_in octets
no_description_request octets about h = none_is (request_in octets) _ refl (λ q e. (other_than about q).1 (reads_once octets (DescriptionResponse about) (request_of q) h (reads octets q e)))

pub nothing_read : (octets : List ℕ) (why : IpRefused) → ((frame : FindFrame) → Reads octets frame → Err why ≡ Ok frame) → None ≡ request_in octets
nothing_read octets why only = none_is (request_in octets) _ refl (λ q e. refuted (request_of q) (only (request_of q) (reads octets q e)))
  where
    refuted : (frame : FindFrame) → Err why ≡ Ok frame → ⊥
    refuted frame e = cc
