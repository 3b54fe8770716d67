-- What the load machine keeps of the four loadable objects of a device.
use Rattle.knx_model.specs.declared.loading.LoadState.TheVariants.{Unloaded}
use Rattle.knx_model.specs.declared.loading.LoadableObject.{LoadableObject}
use Rattle.knx_model.specs.declared.loading.LoadableObject.TheVariants.{AddressTable, AssociationTable, GroupObjects, Application}
use Rattle.knx_model.specs.Loading.{Machine}

pub record Machines : Type 0 where
  pub address_table : Machine
  pub association_table : Machine
  pub group_objects : Machine
  pub application : Machine

abbrev pub machine : Machines → LoadableObject → Machine
machine ms AddressTable = ms.address_table
machine ms AssociationTable = ms.association_table
machine ms GroupObjects = ms.group_objects
machine ms Application = ms.application

abbrev pub with_machine : Machines → LoadableObject → Machine → Machines
with_machine ms AddressTable m = record ms { address_table = m }
with_machine ms AssociationTable m = record ms { association_table = m }
with_machine ms GroupObjects m = record ms { group_objects = m }
with_machine ms Application m = record ms { application = m }

abbrev pub unloaded : Machine
unloaded = record { state = Unloaded; len = 0 }

abbrev pub all_unloaded : Machines
all_unloaded = record { address_table = unloaded; association_table = unloaded; group_objects = unloaded; application = unloaded }
