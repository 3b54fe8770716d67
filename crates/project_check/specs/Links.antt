-- The links of the `link` lines of a text, and the first line that repeats a link of an earlier one.
use Rattle.std.specs.Prelude.{◌≡◌, ℕ, ◌+◌, ◌<◌, ◌≤◌, ◌==◌, nat_lt, Bool, false, ◌&&◌, List, [], ◌∷◌, ◌++◌, length, map, take, get_or, Option, Some, None, IfSome, IsPermutation, min}
use Rattle.std.specs.Bool.{nat_eq}
use Rattle.std.specs.List.Sorted.{IsSorted}
use Rattle.std.specs.Ordering.{nat_cmp, ordering_then}
use Rattle.std.specs.declared.cmp.Ordering.{Ordering}
use Rattle.knx_model.specs.declared.address.GroupAddr.{GroupAddr}
use Rattle.knx_model.specs.declared.address.IndAddr.{IndAddr}
use Rattle.knx_model.specs.declared.project.Statement.{Statement}
use Rattle.knx_model.specs.declared.project.What.{What}
use Rattle.knx_model.specs.declared.project.What.TheVariants.{Link as LinkStated}
use Rattle.knx_model.specs.Rules.{links_again}
use Rattle.project_check.specs.declared.links.Link.{Link}
use Rattle.project_check.specs.declared.links.LinkLine.{LinkLine}
use Rattle.project_check.specs.declared.links.SortedLinks.{SortedLinks}

-- the link of a device's object to a group
abbrev pub link_to : IndAddr → ℕ → GroupAddr → Link
link_to device object group = record { device = device.raw; object = object; group = group.raw }

-- the links of a `link` line, one for each of its groups
abbrev pub links_in_line : What → List Link
links_in_line (LinkStated device object groups) = map (link_to device object) groups
links_in_line _ = []

-- a link at its place
abbrev pub at_place : ℕ → Link → LinkLine
at_place place link = record { link = link; place = place }

-- the links of a line at this place
abbrev pub lines_of : ℕ → What → List LinkLine
lines_of place what = map (at_place place) (links_in_line what)

-- the links of statements of which the first has this place, in the order of the text
abbrev pub links_from : ℕ → List Statement → List LinkLine
links_from place [] = []
links_from place (s ∷ ss) = lines_of place s.what ++ links_from (place + 1) ss

-- the links of a text
abbrev pub link_lines : List Statement → List LinkLine
link_lines ss = links_from 0 ss

abbrev pub link_eq : Link → Link → Bool
link_eq a b = nat_eq a.device b.device && (nat_eq a.object b.object && nat_eq a.group b.group)

-- a link comes again in a later line
abbrev pub comes_again : LinkLine → LinkLine → Bool
comes_again a b = link_eq a.link b.link && nat_lt a.place b.place

-- the links at places k and k + 1 of the list are the same, of an earlier line and of a later one
abbrev pub IsRepeat : List LinkLine → ℕ → LinkLine → Type 0
IsRepeat links k l = ((get_or links k l).link ≡ (get_or links (k + 1) l).link) × ((get_or links k l).place < (get_or links (k + 1) l).place)

-- the lesser of two places, where there are two
abbrev pub lesser : Option ℕ → ℕ → ℕ
lesser None place = place
lesser (Some least) place = min least place

-- this is the least place of the links that come right after the same link of an earlier line, up to place i of the list
pub record IsLeastRepeat (links : List LinkLine) (least : Option ℕ) (i : ℕ) : Type 0 where
  pub found : IfSome least (λ place. (k : ℕ) × (k + 1 < i) × ((l : LinkLine) → IsRepeat links k l × ((get_or links (k + 1) l).place ≡ place)))
  pub reached : (k : ℕ) (l : LinkLine) → k + 1 < i → IsRepeat links k l → (place : ℕ) × (least ≡ Some place) × (place ≤ (get_or links (k + 1) l).place)

-- a place isn't after the first repeat
abbrev pub IsUpTo : Option ℕ → ℕ → Type 0
IsUpTo None k = Unit {0}
IsUpTo (Some first) k = k ≤ first

abbrev pub is_at : Option ℕ → ℕ → Bool
is_at None k = false
is_at (Some first) k = first == k

-- up to the first repeat, a line repeats a link of an earlier one just where it is that one
abbrev pub IsFirstRepeat : List Statement → Option ℕ → Type 0
IsFirstRepeat ss first = (k : ℕ) (s : Statement) → k < length ss → IsUpTo first k → links_again (take k ss) (get_or ss k s).what ≡ is_at first k

-- ---- the links in ascending order: by device, object, group and place

abbrev pub link_cmp : Link → Link → Ordering
link_cmp a b = ordering_then (nat_cmp a.device b.device) (ordering_then (nat_cmp a.object b.object) (nat_cmp a.group b.group))

abbrev pub line_cmp : LinkLine → LinkLine → Ordering
line_cmp a b = ordering_then (link_cmp a.link b.link) (nat_cmp a.place b.place)

-- the links of a text, ascending
pub record AreAscending (links : List LinkLine) (ss : List Statement) : Type 0 where
  pub all : IsPermutation (link_lines ss) links
  pub sorted : IsSorted line_cmp links

-- the same with the first line that repeats a link of an earlier one
pub record AreSorted (sorted : SortedLinks) (ss : List Statement) : Type 0 where
  pub links : AreAscending sorted.links.items ss
  pub first_repeat : IsFirstRepeat ss sorted.first_repeat
