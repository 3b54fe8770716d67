-- What giving an address keeps of the units: at every moment each has the address that it began with, or is in programming mode and has the wanted
-- one. It holds of every legal list of events of a client that puts four frames alone: a broadcast read of addresses, a T_Connect and a T_Disconnect
-- to the wanted address, and a broadcast write of it.
use Rattle.std.specs.Prelude.{◌≡◌, ℕ, ◌⊎◌, Bool, true, false, List, [], ◌∷◌, Some}
use Rattle.knx_model.specs.declared.address.IndAddr.{IndAddr}
use Rattle.knx_model.specs.declared.frames.cemi.Ldata.{Ldata}
use Rattle.knx_model.specs.declared.frames.cemi.LdataCode.TheVariants.{Req}
use Rattle.knx_model.specs.declared.frames.ip.IpFrame.TheVariants.{TunnellingRequest}
use Rattle.knx_model.specs.declared.frames.tpdu.Apdu.TheVariants.{AddressWrite, AddressRead}
use Rattle.knx_model.specs.declared.frames.tpdu.Tpdu.TheVariants.{Connect, Disconnect}
use Rattle.knx_model.specs.Apdu.{Written}
use Rattle.knx_model.specs.ApduReading.{apdu_octets}
use Rattle.line_model.specs.Reading.{datagram_in, ldata_in}
use Rattle.line_model.specs.ClientView.{Deed, Puts, channel, deed}
use Rattle.line_model.specs.Record.{Item, Put, Entry}
use Rattle.address_world.specs.declared.asked.Asked.{Asked}
use Rattle.address_world.specs.declared.asked.Asked.TheVariants as asked
use Rattle.address_world.specs.AddressWorld.{AddressWorld, AddressEvent, UnitState, replay}
use Rattle.address_world.specs.AddressLegal.{AtEveryMoment}

-- ---- the frames

-- a request of low priority
abbrev pub request : Bool → ℕ → List ℕ → Ldata
request group destination tpdu = record { code = Req; error = false; group = group; priority = 3; hops = 6; source = 0; destination = destination; tpdu = tpdu }

abbrev pub frame_of : IndAddr → Asked → Ldata
frame_of wanted asked.Read = request true 0 (apdu_octets AddressRead)
frame_of wanted asked.Connect = request false wanted.raw (Written Connect)
frame_of wanted asked.Disconnect = request false wanted.raw (Written Disconnect)
frame_of wanted asked.Write = request true 0 (apdu_octets (AddressWrite wanted))

abbrev pub IsAsked : IndAddr → Ldata → Type 0
IsAsked wanted frame = (asked : Asked) × (frame ≡ frame_of wanted asked)

-- a tunnelling request whose frame reads has one of them
abbrev pub AsksOnly : IndAddr → List ℕ → Type 0
AsksOnly wanted octets =
    (channel number : ℕ) (cemi : List ℕ) (frame : Ldata) → datagram_in octets ≡ Some (TunnellingRequest channel number cemi) → ldata_in cemi ≡ Some frame
    → IsAsked wanted frame

-- of all that was sent
abbrev pub SendsSo : IndAddr → Item → Type 0
SendsSo wanted (Put octets) = AsksOnly wanted octets
SendsSo wanted _ = Unit {0}

abbrev pub PutsOnly : IndAddr → List Entry → Type 0
PutsOnly wanted [] = Unit {0}
PutsOnly wanted (x ∷ r) = SendsSo wanted x.what × PutsOnly wanted r

-- of each request that was put for the first time in its channel
abbrev pub AsksFirst : IndAddr → Deed → Type 0
AsksFirst wanted (Puts cemi) = (frame : Ldata) → ldata_in cemi ≡ Some frame → IsAsked wanted frame
AsksFirst wanted _ = Unit {0}

abbrev pub AllAskFirst : IndAddr → List Entry → Type 0
AllAskFirst wanted [] = Unit {0}
AllAskFirst wanted (x ∷ r) = AsksFirst wanted (deed (channel r) x) × AllAskFirst wanted r

-- ---- the units

pub record KeepsUnit (wanted : IndAddr) (start now : UnitState) : Type 0 where
  pub mode : now.programming ≡ start.programming
  pub address : (now.address ≡ start.address) ⊎ ((start.programming ≡ true) × (now.address ≡ wanted))

-- one after another
abbrev pub KeepsUnits : IndAddr → List UnitState → List UnitState → Type 0
KeepsUnits wanted [] [] = Unit {0}
KeepsUnits wanted (s ∷ start) (n ∷ now) = KeepsUnit wanted s n × KeepsUnits wanted start now
KeepsUnits wanted _ _ = ⊥

abbrev pub AlwaysKeepsUnits : IndAddr → AddressWorld → List AddressEvent → Type 0
AlwaysKeepsUnits wanted start events = AtEveryMoment (λ past. KeepsUnits wanted start.units (replay start past).units) events
