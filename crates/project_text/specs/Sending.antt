-- What is kept of `link` and `send` lines, by the place of their object in the row of all objects.
use Rattle.std.specs.Prelude.{◌≡◌, ℕ, ◌<◌, List, IsSome, unwrap_or}
use Rattle.std.specs.Ordering.{nat_cmp}
use Rattle.std.specs.BTreeMap.{BTreeMap, get, is_at}
use Rattle.std.specs.Map.{lookup}
use Rattle.knx_model.specs.declared.address.GroupAddr.{GroupAddr}
use Rattle.knx_model.specs.declared.project.Statement.{Statement}
use Rattle.knx_model.specs.declared.project.What.{What}
use Rattle.knx_model.specs.declared.project.What.TheVariants.{Send}
use Rattle.knx_model.specs.Meaning.{link_lines, last_send, first_group}
use Rattle.project_text.specs.Migrated.{device_at, object_at}

-- the group of the first link of each object
abbrev pub KeepsFirst : BTreeMap ℕ GroupAddr → List Statement → Type 0
KeepsFirst m ss = (k : ℕ) → get nat_cmp m k ≡ first_group (link_lines (device_at k) ss) (object_at k)

-- the group of the last `send` line of each object
abbrev pub KeepsLast : BTreeMap ℕ GroupAddr → List Statement → Type 0
KeepsLast m ss = (k : ℕ) → get nat_cmp m k ≡ last_send (device_at k) ss (object_at k)

-- each place is that of an object of a device up to 65,535
abbrev pub ArePlaces : List (ℕ × GroupAddr) → Type 0
ArePlaces entries = (k : ℕ) → IsSome (lookup (is_at (nat_cmp k)) entries) → k < 16777216

-- the `send` line of the object whose first link is kept
abbrev pub kept_send : BTreeMap ℕ GroupAddr → ℕ × GroupAddr → What
kept_send last first = Send (device_at first.0) (object_at first.0) (unwrap_or (get nat_cmp last first.0) first.1)
