-- The text that prints statements: one in a line, its words apart by one space. Numbers are decimal without leading zeros, groups in
-- three levels, and sizes numbers of bits.
use Rattle.std.specs.Prelude.{ℕ, ◌+◌, codes, List, [], ◌∷◌, map}
use Rattle.std.specs.List.{flat_map}
use Rattle.std.specs.Fmt.{decimal}
use Rattle.knx_model.specs.declared.project.Statement.{Statement}
use Rattle.knx_model.specs.declared.project.What.{What}
use Rattle.knx_model.specs.declared.project.What.TheVariants.{Version, Title, Group, Device, Object, Link, Send, Flags, Param}
use Rattle.knx_model.specs.Addresses.{device_text, group_text}
use Rattle.knx_model.specs.Flags.{flags_text}
use Rattle.knx_model.specs.TextLines.{line}
use Rattle.knx_model.specs.Sizes.{bits_of}

-- the words of a statement
abbrev pub words_of : What → List (List ℕ)
words_of Version = codes "version" ∷ codes "2" ∷ []
words_of (Title name) = codes "project" ∷ name ∷ []
words_of (Group group name) = codes "ga" ∷ group_text group ∷ name ∷ []
words_of (Device device model) = codes "device" ∷ device_text device ∷ model ∷ []
words_of (Object device n size flags) = codes "object" ∷ device_text device ∷ decimal n ∷ decimal (bits_of size) ∷ flags_text flags ∷ []
words_of (Link device object groups) = codes "link" ∷ device_text device ∷ decimal object ∷ map group_text groups
words_of (Send device object group) = codes "send" ∷ device_text device ∷ decimal object ∷ group_text group ∷ []
words_of (Flags device object flags) = codes "flags" ∷ device_text device ∷ decimal object ∷ flags_text flags ∷ []
words_of (Param device name value) = codes "param" ∷ device_text device ∷ name ∷ decimal value ∷ []

-- a statement's line
unfoldable pub line_text : What → List ℕ
line_text what = line (words_of what)

-- the lines of all statements
unfoldable pub printed : List Statement → List ℕ
printed ss = flat_map (λ s. line_text s.what) ss

-- the same statements, in lines that are numbered from n
abbrev pub renumbered_from : ℕ → List Statement → List Statement
renumbered_from n [] = []
renumbered_from n (s ∷ ss) = record { line = n; what = s.what } ∷ renumbered_from (n + 1) ss
