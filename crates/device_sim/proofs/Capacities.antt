-- Whatever is done to a device, each object's memory keeps its capacity.
use Rattle.std.proofs.Common.{ℕ, ◌≡◌, ◌-◌, Bool, List, sym, ap, subst, ◌∙◌}
use Rattle.std.proofs.lemmas.List.{length-replicate}
use Rattle.knx_model.specs.Loading.{Loadable, capacity_of}
use Rattle.knx_model.specs.Device.{NonVolatile, Effect, torn, effect_in, HasCapacities}
use Rattle.knx_model.specs.DeviceState.{blank_object}
use Rattle.knx_model.proofs.Capacities.{torn_capacities, kept_capacities}
use Rattle.device_sim.specs.declared.wear.Memory.{Memory}
use Rattle.device_sim.specs.Wear.{outcome, served_kept}

-- the same of what a service leaves
pub served_capacities : (nv new : NonVolatile) (octets : List ℕ) (memory : Memory) → new ≡ served_kept nv octets memory → HasCapacities nv → HasCapacities new
served_capacities nv new octets memory e h = subst HasCapacities (sym e) (kept_capacities nv (effect_in octets) (outcome memory (effect_in octets)) h)

pub cut_capacities : (nv new : NonVolatile) (e : Effect) (fresh : Bool) (octets : List ℕ) → new ≡ torn nv e fresh octets → HasCapacities nv → HasCapacities new
cut_capacities nv new e fresh octets is h = subst HasCapacities (sym is) (torn_capacities nv e fresh octets h)

pub blank_capacity : (p : Loadable) (n m : ℕ) → p ≡ blank_object n → n ≡ m → capacity_of p ≡ m
unfolding blank_object
blank_capacity p n m e f = ap capacity_of e ∙ (length-replicate {A = ℕ} n 0 ∙ f)
