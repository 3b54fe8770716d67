-- What two gateways tell alike.
use Rattle.std.specs.Prelude.{◌≡◌}
use Rattle.discovery.specs.declared.about.About.{About}

pub record HasSameNumbers (one other : About) : Type 0 where
  pub medium : one.medium ≡ other.medium
  pub status : one.status ≡ other.status
  pub address : one.address.raw ≡ other.address.raw
  pub project : one.project ≡ other.project

pub record HasSameOctets (one other : About) : Type 0 where
  pub serial : one.serial ≡ other.serial
  pub multicast : one.multicast ≡ other.multicast
  pub mac : one.mac ≡ other.mac
  pub name : one.name ≡ other.name
