-- The devices of a text in ascending order.
use Rattle.std.specs.Prelude.{◌≡◌, ℕ, List, None, map, IsPermutation}
use Rattle.std.specs.List.Sorted.{IsSorted, IsStrictlyIncreasing}
use Rattle.std.specs.Ordering.{nat_cmp}
use Rattle.std.specs.declared.cmp.Ordering.{Ordering}
use Rattle.knx_model.specs.declared.address.IndAddr.{IndAddr}
use Rattle.knx_model.specs.declared.catalogue.model.NamedModel.{NamedModel}
use Rattle.knx_model.specs.declared.project.Statement.{Statement}
use Rattle.knx_model.specs.Rules.{first_broken, devices_of}

abbrev pub device_order : IndAddr → IndAddr → Ordering
device_order a b = nat_cmp a.raw b.raw

abbrev pub raw_of : IndAddr → ℕ
raw_of a = a.raw

-- these are the devices of a text, ascending
pub record AreDevices (devices : List IndAddr) (ss : List Statement) : Type 0 where
  pub all : IsPermutation (devices_of ss) devices
  pub sorted : IsSorted device_order devices

-- no rule is broken, and these are the devices, ascending
pub record IsChecked (statements : List Statement) (catalogue : List NamedModel) (devices : List IndAddr) : Type 0 where
  pub sound : first_broken catalogue statements ≡ None
  pub all : IsPermutation (devices_of statements) devices
  pub ascending : IsStrictlyIncreasing (map raw_of devices)
