-- When the tables and the parameter memory of a device stand for a configuration (KNX standard 3/5/1, resources, System B: address
-- table, association table, group objects). A configuration has at most one image. Numbers of two octets have the high octet first.
use Rattle.std.specs.Prelude.{◌≡◌, ◌⊎◌, ℕ, zero, suc, ◌<◌, ◌↔◌, List, [], ◌∷◌, ◌++◌, length, map, filter, slice_get, Contains, Option, Some, None}
use Rattle.std.specs.Int.{w16, to_be_bytes}
use Rattle.std.specs.List.{AllPairs, flat_map}
use Rattle.std.specs.List.Sorted.{IsStrictlyIncreasing}
use Rattle.knx_model.specs.declared.config.Config.{Config}
use Rattle.knx_model.specs.declared.config.Image.{Image}
use Rattle.knx_model.specs.declared.config.LinkSpec.{LinkSpec}
use Rattle.knx_model.specs.declared.config.ObjSpec.{ObjSpec}
use Rattle.knx_model.specs.Parameters.{HoldsParameters}

-- ---- the octets of the tables

-- a number of two octets
abbrev pub two : ℕ → List ℕ
two n = to_be_bytes w16 n

-- a count, and the groups
abbrev pub address_list : List ℕ → List ℕ
address_list groups = two (length groups) ++ flat_map two groups

-- a pair of the association table: the place of a group in the address table, from 1, and the number of an object
abbrev pub pair : ℕ × ℕ → List ℕ
pair x = two x.0 ++ two x.1

-- a count, and the pairs
abbrev pub association_list : List (ℕ × ℕ) → List ℕ
association_list pairs = two (length pairs) ++ flat_map pair pairs

-- a count, which is the greatest object number, and the flag octet and size code of each number
abbrev pub object_octets : ObjSpec → List ℕ
object_octets o = o.flags ∷ o.size ∷ []

abbrev pub object_list : List ObjSpec → List ℕ
object_list objects = two (length objects) ++ flat_map object_octets objects

-- ---- the pairs of a configuration's links

abbrev pub raw_of : LinkSpec → ℕ
raw_of l = l.group.raw

-- the entry at a place of a table, from 1
abbrev pub at_place : {X : Type 0} → List X → ℕ → Option X
at_place xs zero = None
at_place xs (suc i) = slice_get xs i

-- the p-th group is linked to object o
pub record IsLinked (groups : List ℕ) (links : List LinkSpec) (p o : ℕ) : Type 0 where
  pub link : LinkSpec
  pub member : Contains links link
  pub object : link.object ≡ o
  pub group : at_place groups p ≡ Some (raw_of link)

-- the pair's group is linked to its object by a link by which the object sends
abbrev pub Sends : List ℕ → List LinkSpec → ℕ × ℕ → Type 0
Sends groups links x = IsLinked groups (filter (λ l. l.sending) links) x.0 x.1

-- a pair stands before another: by object; in an object the sending one first; then by place
abbrev pub IsBefore : List ℕ → List LinkSpec → ℕ × ℕ → ℕ × ℕ → Type 0
IsBefore groups links x y =
    (x.1 < y.1)
    ⊎ ((x.1 ≡ y.1) × ((Sends groups links x × ¬ Sends groups links y)
    ⊎ ((Sends groups links x ↔ Sends groups links y) × (x.0 < y.0))))

-- ---- when an image stands for a configuration

pub record StandsFor (image : Image) (config : Config) : Type 0 where
  -- exactly the groups of the links, each once, ascending
  pub groups : List ℕ
  pub exactly : (g : ℕ) → Contains groups g ↔ Contains (map raw_of config.links) g
  pub groups_ascend : IsStrictlyIncreasing groups
  pub addresses : image.addr ≡ address_list groups
  -- exactly the pairs of a place and an object whose group is linked to the object, each once, in their order
  pub pairs : List (ℕ × ℕ)
  pub each_pair : (p o : ℕ) → Contains pairs (p, o) ↔ IsLinked groups config.links p o
  pub pairs_ascend : AllPairs (IsBefore groups config.links) pairs
  pub associations : image.assoc ≡ association_list pairs
  -- the objects by number
  pub objects : image.objs ≡ object_list config.objects
  -- the parameter memory
  pub parameters : HoldsParameters image.params config.param_len config.params
