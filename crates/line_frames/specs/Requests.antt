-- The requests that a client puts (KNX standard 3/6/3, common EMI).
use Rattle.std.specs.Prelude.{ℕ, Bool, false, List}
use Rattle.knx_model.specs.declared.frames.cemi.Ldata.{Ldata}
use Rattle.knx_model.specs.declared.frames.cemi.LdataCode.TheVariants.{Req}

-- a request of low priority with this TPDU, to a device or to a group
abbrev pub request_with : Bool → ℕ → List ℕ → Ldata
request_with group destination tpdu = record { code = Req; error = false; group = group; priority = 3; hops = 6; source = 0; destination = destination; tpdu = tpdu }
