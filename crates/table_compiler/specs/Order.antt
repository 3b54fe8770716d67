-- The order of links, and the pair of the association table that each makes.
use Rattle.std.specs.Prelude.{◌≡◌, ◌⊎◌, ℕ, ◌+◌, ◌<◌, ◌==◌, true, false, List}
use Rattle.std.specs.List.{position_or_len}
use Rattle.knx_model.specs.declared.config.LinkSpec.{LinkSpec}
use Rattle.knx_model.specs.Tables.{raw_of}

-- the object has one octet, and the group two
abbrev pub IsLink : LinkSpec → Type 0
IsLink l = (l.object < 256) × (raw_of l < 65536)

-- they aren't of one object and one group
abbrev pub AreApart : LinkSpec → LinkSpec → Type 0
AreApart l m = l.object ≡ m.object → raw_of l ≡ raw_of m → ⊥

-- a link stands before another: by object; in an object the sending one first; then by group
abbrev pub StandsBefore : LinkSpec → LinkSpec → Type 0
StandsBefore l m =
    (l.object < m.object)
    ⊎ ((l.object ≡ m.object) × (((l.sending ≡ true) × (m.sending ≡ false))
    ⊎ ((l.sending ≡ m.sending) × (raw_of l < raw_of m))))

-- the place of a group, from 1
abbrev pub place : List ℕ → ℕ → ℕ
place groups g = position_or_len (λ x. x == g) groups + 1

-- the pair of a link: the place of its group, and its object
abbrev pub pair_of : List ℕ → LinkSpec → ℕ × ℕ
pair_of groups l = (place groups (raw_of l), l.object)
