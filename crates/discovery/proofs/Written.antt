-- What is written is read as the frame that was written.
use Rattle.std.proofs.Common.{◌≡◌, ℕ, true, List, [], ◌∷◌, ◌++◌, length, take, drop, refl, sym, ap, ◌∙◌, arith}
use Rattle.std.proofs.lemmas.Grind.{common_steps}
use Rattle.std.proofs.lemmas.List.{append-nil, length-append, take_at, drop_at}
use Rattle.knx_model.specs.Apdu.{word}
use Rattle.discovery.specs.declared.about.About.{About}
use Rattle.discovery.specs.declared.find_frame.FindFrame.{FindFrame}
use Rattle.discovery.specs.declared.find_frame.FindFrame.TheVariants.{SearchRequest, SearchResponse, DescriptionRequest, DescriptionResponse}
use Rattle.discovery.specs.Discovery.{is_information, octets_of, octets_at, HasAbout, IsInformation, HasFields, information_octets, information_of, blocks_of, Reads, Written, IsFrame, FitsADatagram}

-- so many octets behind others
at_part : (front part behind octets : List ℕ) (place count : ℕ) → octets ≡ front ++ (part ++ behind) → length front ≡ place → length part ≡ count → part ≡ octets_at octets place count
at_part front part behind octets place count e n m =
    sym (ap (λ (l : List ℕ). take count (drop place l)) e ∙ ap (take count) (drop_at front (part ++ behind) place n) ∙ take_at part behind count m)

pub length-information_octets : (about : About) → HasFields about → length (information_octets about) ≡ 52
length-information_octets about h =
    omega (
      arith,
      h.serial,
      h.multicast,
      h.mac,
      h.name,
      length-append about.serial (about.multicast ++ (about.mac ++ about.name)),
      length-append about.multicast (about.mac ++ about.name),
      length-append about.mac about.name,
    )

fields_again : (about : About) → HasFields about → IsInformation (information_octets about) about
fields_again about h =
    let multicast_on = about.multicast ++ (about.mac ++ about.name) in
    record {
      medium = refl;
      status = refl;
      address = omega arith;
      project = omega arith;
      serial = at_part (about.medium ∷ about.status ∷ (word about.address.raw ++ word about.project)) about.serial multicast_on (information_octets about) 6 6 refl refl h.serial;
      multicast = at_part (about.medium ∷ about.status ∷ (word about.address.raw ++ (word about.project ++ about.serial))) about.multicast (about.mac ++ about.name) (information_octets about) 12 4 refl (omega (arith, h.serial)) h.multicast;
      mac = at_part (about.medium ∷ about.status ∷ (word about.address.raw ++ (word about.project ++ (about.serial ++ about.multicast)))) about.mac about.name (information_octets about) 16 6 (grind (arith, common_steps)) (omega (arith, h.serial, h.multicast, length-append about.serial about.multicast)) h.mac;
      name = at_part (about.medium ∷ about.status ∷ (word about.address.raw ++ (word about.project ++ (about.serial ++ (about.multicast ++ about.mac))))) about.name [] (information_octets about) 22 30 (grind (arith, common_steps, append-nil)) (omega (arith, h.serial, h.multicast, h.mac, length-append about.serial (about.multicast ++ about.mac), length-append about.multicast about.mac)) h.name;
    }

-- the written information is one
is_one : (about : About) → HasFields about → is_information (information_of about) ≡ true
is_one about h = let n = length-information_octets about h in grind (arith, common_steps, n)

about_again : (about : About) → HasFields about → HasAbout (octets_of (blocks_of about)) about
about_again about h =
    let one = is_one about h in
    record {
      content = information_octets about;
      information = record { blocks = blocks_of about; all = refl; one = rw one refl };
      fields = fields_again about h;
      families = record { blocks = blocks_of about; all = refl; one = refl };
    }

pub written_reads : (frame : FindFrame) → IsFrame frame → FitsADatagram frame → Reads (Written frame) frame
written_reads SearchRequest is fits = grind (arith, common_steps)
written_reads (SearchResponse about) is fits = record {
  header = grind (arith, common_steps);
  total = grind (arith, common_steps);
  body = (refl, (omega arith, (refl, refl)), about_again about is);
}
written_reads DescriptionRequest is fits = grind (arith, common_steps)
written_reads (DescriptionResponse about) is fits = record {
  header = grind (arith, common_steps);
  total = grind (arith, common_steps);
  body = (refl, about_again about is);
}
