-- The four load states, as this crate's code holds them.
use Rattle.std.specs.Prelude.{Bool, ◌&&◌}
use Rattle.device_sim.specs.declared.non_volatile.LoadStates.{LoadStates}
use Rattle.knx_model.specs.Device.{NonVolatile}
use Rattle.knx_model.specs.DeviceState.{same_state}

abbrev pub states_of : NonVolatile → LoadStates
states_of kept = record {
  address_table = kept.address_table.state;
  association_table = kept.association_table.state;
  group_objects = kept.group_objects.state;
  application = kept.application.state;
}

abbrev pub has_states : LoadStates → NonVolatile → Bool
has_states states kept =
    same_state states.address_table kept.address_table.state
    && same_state states.association_table kept.association_table.state
    && same_state states.group_objects kept.group_objects.state
    && same_state states.application kept.application.state
