-- What a gateway tells of itself, as words of a line: its individual address, serial number, MAC address, service families and name. A family is two
-- hexadecimal digits and its version decimal. The name ends at its first 00, and what is not printed in ASCII stands there as `?`.
use Rattle.std.specs.Prelude.{ℕ, ◌&&◌, ◌==◌, nat_le, codes, map, List, [], ◌∷◌, ◌++◌, if◌then◌else◌}
use Rattle.std.specs.Fmt.{decimal}
use Rattle.std.specs.List.{flat_map}
use Rattle.knx_model.specs.Addresses.{device_text}
use Rattle.knx_model.specs.TextLines.{line, hex_octet, octets_text}
use Rattle.discovery.specs.declared.about.About.{About}
use Rattle.discovery.specs.declared.find_frame.FindFrame.{FindFrame}
use Rattle.discovery.specs.declared.find_frame.FindFrame.TheVariants.{SearchRequest, SearchResponse, DescriptionRequest, DescriptionResponse}

-- ---- words

-- `?` for an octet outside 20 to 7E
abbrev pub printed_octet : ℕ → ℕ
printed_octet octet = if nat_le 0x20 octet && nat_le octet 0x7E then octet else 63

abbrev pub printed : List ℕ → List ℕ
printed [] = []
printed (octet ∷ others) = if octet == 0 then [] else printed_octet octet ∷ printed others

-- `-` for none
abbrev pub or_dash : List ℕ → List ℕ
or_dash [] = codes "-"
or_dash (first ∷ others) = first ∷ others

abbrev pub name_text : List ℕ → List ℕ
name_text name = or_dash (printed name)

abbrev pub family_text : ℕ × ℕ → List ℕ
family_text pair = hex_octet pair.0 ++ 46 ∷ decimal pair.1

abbrev pub family_words : List (ℕ × ℕ) → List (List ℕ)
family_words [] = codes "-" ∷ []
family_words (first ∷ others) = map family_text (first ∷ others)

abbrev pub address_words : About → List (List ℕ)
address_words about = device_text about.address ∷ codes "serial" ∷ octets_text about.serial ∷ codes "mac" ∷ octets_text about.mac ∷ []

abbrev pub service_words : About → List (List ℕ)
service_words about = codes "families" ∷ family_words about.families ++ codes "name" ∷ name_text about.name ∷ []

unfoldable pub about_words : About → List (List ℕ)
about_words about = address_words about ++ service_words about

-- ---- lines

-- a gateway that was found
abbrev pub found_line : About → List ℕ
found_line about = line (codes "found" ∷ about_words about)

-- all that were found, in order
abbrev pub found_text : List About → List ℕ
found_text found = flat_map found_line found

-- a frame of discovery
abbrev pub find_words : FindFrame → List (List ℕ)
find_words SearchRequest = codes "search-request" ∷ []
find_words (SearchResponse about) = codes "search-response" ∷ about_words about
find_words DescriptionRequest = codes "description-request" ∷ []
find_words (DescriptionResponse about) = codes "description-response" ∷ about_words about

abbrev pub find_line : FindFrame → List ℕ
find_line frame = line (codes "ip" ∷ find_words frame)
