-- What the simulated gateway names and tells of itself at a port: the address and port number that the port is bound to, or 0.0.0.0:0 where that is each
-- address of its host; and its device information and service families (ISO 22510, Core).
use Rattle.std.specs.Prelude.{ℕ, codes, List, [], ◌∷◌, ◌++◌, replicate, if◌then◌else◌}
use Rattle.std.specs.Str.{bytes_eq}
use Rattle.discovery.specs.declared.about.About.{About}
use Rattle.discovery_ends.specs.Naming.{nowhere}
use Rattle.knx_model.specs.Apdu.{word}
use Rattle.knx_model.specs.declared.address.IndAddr.{IndAddr}
use Rattle.line_model.specs.Dialled.{Address}

-- its serial number, and its MAC address
abbrev pub number : List ℕ
number = 0 ∷ 0 ∷ 0 ∷ 0 ∷ 0 ∷ 1 ∷ []

-- a device on twisted pair with the tunnel's address, the multicast group 224.0.23.12, and core, device management and tunnelling in version 1
abbrev pub about_gateway : IndAddr → About
about_gateway tunnel = record {
  medium = 0x02;
  status = 0x00;
  address = tunnel;
  project = 0;
  serial = number;
  multicast = 0xE0 ∷ 0x00 ∷ 0x17 ∷ 0x0C ∷ [];
  mac = number;
  name = codes "knx" ++ replicate 27 0;
  families = (0x02, 1) ∷ (0x03, 1) ∷ (0x04, 1) ∷ [];
}

abbrev pub own_endpoint : Address → List ℕ
own_endpoint at = if bytes_eq at.host (0 ∷ 0 ∷ 0 ∷ 0 ∷ []) then nowhere else at.host ++ word at.port
