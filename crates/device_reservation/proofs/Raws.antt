-- The device of a job as a number, and when two jobs have one.
use Rattle.std.proofs.Common.{◌≡◌, ℕ, ◌≤◌, List, length, Option, Some, None, refl, sym, ap, ◌∙◌}
use Rattle.knx_model.specs.declared.address.IndAddr.{IndAddr}
use Rattle.line_model.specs.Log.{numbered_from_one}
use Rattle.device_reservation.specs.Chains.{OneDevice}
use Rattle.device_reservation.specs.Reservation.{AreOneDevice}
use Rattle.device_reservation.proofs.Numbered.{from_1, within}

abbrev pub raw_in : Option IndAddr → Option ℕ
raw_in None = None
raw_in (Some device) = Some device.raw

abbrev pub raw_of : List IndAddr → ℕ → Option ℕ
raw_of devices job = raw_in (numbered_from_one devices job)

pub record OfOne (a b : Option IndAddr) : Type 0 where
  pub raw : ℕ
  pub one : raw_in a ≡ Some raw
  pub other : raw_in b ≡ Some raw

pub of_one : (a b : Option IndAddr) → AreOneDevice a b → OfOne a b
of_one None b e = absurd e
of_one (Some a) None e = absurd e
of_one (Some a) (Some b) e = record { raw = a.raw; one = refl; other = ap Some (sym e) }

pub as_one : (a b : Option IndAddr) (q : ℕ) → raw_in a ≡ Some q → raw_in b ≡ Some q → AreOneDevice a b
as_one None b q e f = absurd (cc)
as_one (Some a) None q e f = absurd (cc)
as_one (Some a) (Some b) q e f = let first : a.raw ≡ q = cc in let second : b.raw ≡ q = cc in first ∙ sym second

pub is_there : (o : Option IndAddr) (q : ℕ) → raw_in o ≡ Some q → (device : IndAddr) × (o ≡ Some device)
is_there None q e = absurd (cc)
is_there (Some device) q e = (device, refl)

pub job_from_1 : (devices : List IndAddr) (job q : ℕ) → raw_of devices job ≡ Some q → 1 ≤ job
job_from_1 devices job q e = let there : (device : IndAddr) × (numbered_from_one devices job ≡ Some device) = is_there (numbered_from_one devices job) q e in from_1 devices job there.0 there.1

pub job_within : (devices : List IndAddr) (job q : ℕ) → raw_of devices job ≡ Some q → job ≤ length devices
job_within devices job q e = let there : (device : IndAddr) × (numbered_from_one devices job ≡ Some device) = is_there (numbered_from_one devices job) q e in within devices job there.0 there.1

pub one_to : (devices : List IndAddr) (j k q : ℕ) → OneDevice devices j k → raw_of devices j ≡ Some q → raw_of devices k ≡ Some q
one_to devices j k q one e =
    let o : OfOne (numbered_from_one devices j) (numbered_from_one devices k) = of_one (numbered_from_one devices j) (numbered_from_one devices k) one in
    let first : raw_in (numbered_from_one devices j) ≡ Some o.raw = o.one in
    let other : raw_in (numbered_from_one devices k) ≡ Some o.raw = o.other in
    let same : o.raw ≡ q = cc in
    other ∙ ap Some same

pub one_from : (devices : List IndAddr) (j k q : ℕ) → OneDevice devices j k → raw_of devices k ≡ Some q → raw_of devices j ≡ Some q
one_from devices j k q one e =
    let o : OfOne (numbered_from_one devices j) (numbered_from_one devices k) = of_one (numbered_from_one devices j) (numbered_from_one devices k) one in
    let first : raw_in (numbered_from_one devices j) ≡ Some o.raw = o.one in
    let other : raw_in (numbered_from_one devices k) ≡ Some o.raw = o.other in
    let same : o.raw ≡ q = cc in
    first ∙ ap Some same
