-- A project as one of version 2: the line `version 2`; the other statements in their order without `version` and `send` lines, each `link`
-- line with one group; then for each object that has links a `send` line of its sending address, by device and object ascending. The
-- lines are numbered anew. The project language is this project's own.
use Rattle.std.specs.Prelude.{ℕ, ◌+◌, ◌/◌, ◌%◌, List, [], ◌∷◌, ◌++◌, length, map, Option}
use Rattle.std.specs.List.{filter_map, flat_map, range_with_len}
use Rattle.std.specs.Option.{option_map, option_and_then}
use Rattle.knx_model.specs.declared.address.GroupAddr.{GroupAddr}
use Rattle.knx_model.specs.declared.address.IndAddr.{IndAddr}
use Rattle.knx_model.specs.declared.project.Statement.{Statement}
use Rattle.knx_model.specs.declared.project.What.{What}
use Rattle.knx_model.specs.declared.project.What.TheVariants.{Version, Title, Group, Device, Object, Link, Send, Flags, Param}
use Rattle.knx_model.specs.Meaning.{link_lines, last_send, first_group, sending_group}
use Rattle.knx_model.specs.Statements.{statement}

-- ---- the statements that stay

abbrev pub link_to_one : IndAddr → ℕ → GroupAddr → What
link_to_one device object group = Link device object (group ∷ [])

-- what a statement becomes: a `link` line one for each of its groups, in order
abbrev pub one_by_one : What → List What
one_by_one Version = []
one_by_one (Title name) = Title name ∷ []
one_by_one (Group group name) = Group group name ∷ []
one_by_one (Device device model) = Device device model ∷ []
one_by_one (Object device n size flags) = Object device n size flags ∷ []
one_by_one (Link device object groups) = map (link_to_one device object) groups
one_by_one (Send device object group) = []
one_by_one (Flags device object flags) = Flags device object flags ∷ []
one_by_one (Param device name value) = Param device name value ∷ []

unfoldable pub kept : List Statement → List What
kept ss = flat_map (λ s. one_by_one s.what) ss

-- ---- the sending addresses

-- the `send` line of object n of the device: of its sending address, where it has links
abbrev pub send_of : List Statement → IndAddr → ℕ → Option What
send_of ss device n =
    option_and_then (λ first. option_map (λ group. Send device n group) (sending_group (last_send device ss) (link_lines device ss) n)) (first_group (link_lines device ss) n)

-- all objects in a row, by device and object ascending: number k is object k % 256 of device k / 256
abbrev pub device_at : ℕ → IndAddr
device_at k = record { raw = k / 256 }

abbrev pub object_at : ℕ → ℕ
object_at k = k % 256

-- the `send` lines of the objects below number n
unfoldable pub sends_below : ℕ → List Statement → List What
sends_below n ss = filter_map (λ k. send_of ss (device_at k) (object_at k)) (range_with_len 0 n)

-- those of all objects of the devices up to 65,535
unfoldable pub sends : List Statement → List What
sends ss = sends_below 16777216 ss

-- ---- the whole

-- statements in lines that are numbered from n
abbrev pub numbered_from : ℕ → List What → List Statement
numbered_from n [] = []
numbered_from n (what ∷ whats) = statement n what ∷ numbered_from (n + 1) whats

-- these behind lines, numbered on from their count
abbrev pub numbered_after : List Statement → List What → List Statement
numbered_after before whats = before ++ numbered_from (length before + 1) whats

unfoldable pub migrated : List Statement → List Statement
migrated ss = numbered_from 1 ((Version ∷ kept ss) ++ sends ss)
