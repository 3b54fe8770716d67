-- One of the four loadable objects of a device, lent to be changed.
use Rattle.std.specs.Borrow.{Lends, MutBor, Fml}
use Rattle.knx_model.specs.declared.loading.LoadableObject.{LoadableObject}
use Rattle.knx_model.specs.Device.{NonVolatile, with_loadable}
use Rattle.knx_model.specs.Loading.{Loadable}
use Rattle.device_sim.specs.contracts.loadable.Loadable as loadable
use Rattle.device_sim.specs.contracts.non_volatile.NonVolatile as non_volatile

-- the object becomes what is left behind r, and the others stay
abbrev pub LendsObject : MutBor NonVolatile → LoadableObject → MutBor Loadable → Fml
LendsObject kept object r = Lends non_volatile.the_row loadable.the_row kept r (with_loadable kept.now object)
