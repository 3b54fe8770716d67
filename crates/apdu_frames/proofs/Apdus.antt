-- A service that is written without a number is an APDU that can be sent.
use Rattle.std.proofs.Common.{Some, None, arith}
use Rattle.knx_model.specs.declared.frames.value.Value.TheVariants.{Short, Long}
use Rattle.knx_model.specs.declared.frames.tpdu.Apdu.{Apdu}
use Rattle.knx_model.specs.declared.frames.tpdu.Apdu.TheVariants.{GroupRead, GroupResponse, GroupWrite, AddressWrite, AddressRead, AddressResponse, MemoryRead, MemoryResponse, MemoryWrite, DescriptorRead, DescriptorResponse, PropertyRead, PropertyResponse, PropertyWrite}
use Rattle.knx_model.specs.Apdu.{IsApduInRange}
use Rattle.knx_model.specs.ApduReading.{apdu_octets}
use Rattle.knx_model.specs.Connection.{IsApdu}

pub written_apdu : (apdu : Apdu) → IsApduInRange apdu → IsApdu (apdu_octets apdu)
written_apdu GroupRead h = (omega arith, omega arith, omega arith)
written_apdu (GroupResponse (Short value)) h = (omega (arith, h), omega arith, omega arith)
written_apdu (GroupResponse (Long octets)) h = (omega arith, omega arith, omega (arith, h.1))
written_apdu (GroupWrite (Short value)) h = (omega (arith, h), omega arith, omega arith)
written_apdu (GroupWrite (Long octets)) h = (omega arith, omega arith, omega (arith, h.1))
written_apdu (AddressWrite address) h = (omega arith, omega arith, omega arith)
written_apdu AddressRead h = (omega arith, omega arith, omega arith)
written_apdu AddressResponse h = (omega arith, omega arith, omega arith)
written_apdu (MemoryRead count address) h = (omega (arith, h.1), omega arith, omega arith)
written_apdu (MemoryResponse address octets) h = (omega (arith, h), omega arith, omega (arith, h))
written_apdu (MemoryWrite address octets) h = (omega (arith, h.1), omega arith, omega (arith, h.1))
written_apdu (DescriptorRead kind) h = (omega (arith, h), omega arith, omega arith)
written_apdu (DescriptorResponse kind None) h = (omega (arith, h), omega arith, omega arith)
written_apdu (DescriptorResponse kind (Some value)) h = (omega (arith, h), omega arith, omega arith)
written_apdu (PropertyRead object property count start) h = (omega arith, omega arith, omega arith)
written_apdu (PropertyResponse object property count start octets) h = (omega arith, omega arith, omega (arith, h.2))
written_apdu (PropertyWrite object property count start octets) h = (omega arith, omega arith, omega (arith, h.2))
