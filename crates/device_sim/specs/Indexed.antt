-- The index that a device has of its tables while it runs.
use Rattle.std.specs.Prelude.{◌≡◌, ℕ, true, List}
use Rattle.knx_model.specs.Loading.{octets_of}
use Rattle.knx_model.specs.Device.{NonVolatile, all_loaded}
use Rattle.device_tables.specs.Index.{IsIndexOf}

-- where all four objects are Loaded, the pairs are an index of the two tables
pub record IsIndexed (kept : NonVolatile) (pairs : List (ℕ × ℕ)) : Type 0 where
  pub running : all_loaded kept ≡ true → IsIndexOf (octets_of kept.address_table) (octets_of kept.association_table) pairs
