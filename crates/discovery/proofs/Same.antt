-- Two that tell alike are the same.
use Rattle.std.proofs.Common.{◌≡◌}
use Rattle.discovery.specs.declared.about.About.{About}
use Rattle.discovery.specs.Same.{HasSameNumbers, HasSameOctets}

pub same_about : (a b : About) → HasSameNumbers a b → HasSameOctets a b → a.families ≡ b.families → a ≡ b
same_about a b numbers octets families = λ i. record {
  medium = numbers.medium i;
  status = numbers.status i;
  address = record { raw = numbers.address i };
  project = numbers.project i;
  serial = octets.serial i;
  multicast = octets.multicast i;
  mac = octets.mac i;
  name = octets.name i;
  families = families i;
}
