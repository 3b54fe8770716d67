-- The project that a number makes: the groups with the raw addresses 1 to 2,003, and on line 1.1 devices of eight objects. Each object is
-- linked to four groups in a row; which they are, the numbers say that are drawn. It is this project's own.
use Rattle.std.specs.Prelude.{ℕ, ◌+◌, ◌-◌, ◌*◌, ◌%◌, codes, List, [], ◌∷◌, ◌++◌, map}
use Rattle.std.specs.List.{range_with_len, flat_map}
use Rattle.std.specs.Fmt.{decimal}
use Rattle.knx_model.specs.declared.address.GroupAddr.{GroupAddr}
use Rattle.knx_model.specs.declared.address.IndAddr.{IndAddr}
use Rattle.knx_model.specs.declared.project.Statement.{Statement}
use Rattle.knx_model.specs.declared.project.What.{What}
use Rattle.knx_model.specs.declared.project.What.TheVariants.{Group, Device, Object, Link}
use Rattle.knx_model.specs.Statements.{statement}
use Rattle.knx_gen.specs.Draws.{state_at, number_at}

-- ---- groups

abbrev pub group_at : ℕ → GroupAddr
group_at raw = record { raw = raw }

-- `g` and the number
abbrev pub group_name : ℕ → List ℕ
group_name raw = codes "g" ++ decimal raw

-- the names of the groups from 1 on
unfoldable pub group_names : ℕ → List (List ℕ)
group_names count = map group_name (range_with_len 1 count)

-- `ga GA NAME`
abbrev pub group_line : ℕ → What
group_line raw = Group (group_at raw) (group_name raw)

unfoldable pub group_lines : ℕ → List What
group_lines count = map group_line (range_with_len 1 count)

-- ---- the objects of a device, and their links

-- 1.1.d
abbrev pub device_at : ℕ → IndAddr
device_at d = record { raw = 0x1100 + d }

-- one bit
abbrev pub object_size : ℕ
object_size = 0

-- CRWTU
abbrev pub object_flags : ℕ
object_flags = 0xDF

-- `object IA N SIZE FLAGS`
abbrev pub object_line : IndAddr → ℕ → What
object_line device n = Object device n object_size object_flags

-- the objects from 1 on
unfoldable pub object_lines : IndAddr → ℕ → List What
object_lines device count = map (object_line device) (range_with_len 1 count)

-- `link IA N GA`
abbrev pub link_line : IndAddr → ℕ → ℕ → What
link_line device n raw = Link device n (group_at raw ∷ [])

-- an object's links to the groups from a first one on
unfoldable pub link_lines : IndAddr → ℕ → ℕ → ℕ → List What
link_lines device n first count = map (link_line device n) (range_with_len first count)

-- the first group that a number chooses, 1 to 2,000
abbrev pub first_group : ℕ → ℕ
first_group number = 1 + number % 2000

-- the links of object n: the n-th number that is drawn from this state on chooses
abbrev pub chosen_links : ℕ → IndAddr → ℕ → List What
chosen_links state device n = link_lines device n (first_group (number_at state n)) 4

-- those of the objects from 1 on
unfoldable pub object_links : ℕ → IndAddr → ℕ → List What
object_links state device count = flat_map (chosen_links state device) (range_with_len 1 count)

-- ---- the whole

-- a device, its eight objects, and their links
abbrev pub device_lines : ℕ → IndAddr → List What
device_lines state device = Device device (codes "inline") ∷ (object_lines device 8 ++ object_links state device 8)

-- device 1.1.d, when the devices before it have drawn eight numbers each
abbrev pub nth_device_lines : ℕ → ℕ → List What
nth_device_lines start d = device_lines (state_at start (8 * (d - 1))) (device_at d)

-- the devices from 1.1.1 on
unfoldable pub all_device_lines : ℕ → ℕ → List What
all_device_lines start count = flat_map (nth_device_lines start) (range_with_len 1 count)

-- the lines of the project of n devices that a number makes
unfoldable pub project_lines : ℕ → ℕ → List What
project_lines n start = group_lines 2003 ++ all_device_lines start n

-- the statements of lines that are numbered from n
abbrev pub numbered_from : ℕ → List What → List Statement
numbered_from n [] = []
numbered_from n (what ∷ whats) = statement n what ∷ numbered_from (n + 1) whats

unfoldable pub generated : ℕ → ℕ → List Statement
generated n start = numbered_from 1 (project_lines n start)
