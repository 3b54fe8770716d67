-- The pieces of a list, of either size: where they begin, how long they are, and how many there are.
use Rattle.std.proofs.Common.{ℕ, ◌≡◌, ◌+◌, ◌-◌, ◌<◌, ◌≤◌, List, length, length-take, length-drop, drop, min, refl, arith}
use Rattle.knx_model.specs.declared.plan.PieceSize.{PieceSize}
use Rattle.knx_model.specs.declared.plan.PieceSize.TheVariants.{Twelve, Sixty}
use Rattle.knx_model.specs.Operations.{piece_octets, piece_start, piece, piece_count}

pub octets_some : (size : PieceSize) → 1 ≤ piece_octets size
octets_some Twelve = omega arith
octets_some Sixty = omega arith

pub octets_few : (size : PieceSize) → piece_octets size ≤ 60
octets_few Twelve = omega arith
octets_few Sixty = omega arith

pub start_zero : (size : PieceSize) → piece_start size 0 ≡ 0
unfolding piece_start
start_zero Twelve = refl
start_zero Sixty = refl

pub start_next : (size : PieceSize) (k : ℕ) → piece_start size (k + 1) ≡ piece_start size k + piece_octets size
unfolding piece_start
start_next Twelve k = omega arith
start_next Sixty k = omega arith

-- a piece that is counted begins within the list
pub start_within : (size : PieceSize) (list : List ℕ) (k : ℕ) → k < piece_count size list → piece_start size k < length list
unfolding piece_start piece_count
start_within Twelve list k h = omega (arith, h)
start_within Sixty list k h = omega (arith, h)

-- all pieces are the whole list
pub start_after : (size : PieceSize) (list : List ℕ) (k : ℕ) → k ≡ piece_count size list → length list ≤ piece_start size k
unfolding piece_start piece_count
start_after Twelve list k h = omega (arith, h)
start_after Sixty list k h = omega (arith, h)

-- a list of at most 8192 octets has at most 683 pieces
pub count_few : (size : PieceSize) (list : List ℕ) → length list ≤ 0x2000 → piece_count size list ≤ 683
unfolding piece_count
count_few Twelve list h = omega (arith, h)
count_few Sixty list h = omega (arith, h)

pub piece_length : (size : PieceSize) (list : List ℕ) (k : ℕ) → length (piece size list k) ≡ min (piece_octets size) (length list - piece_start size k)
unfolding piece
piece_length size list k = omega (arith, length-take (piece_octets size) (drop (piece_start size k) list), length-drop (piece_start size k) list)

pub piece_some : (size : PieceSize) (list : List ℕ) (k : ℕ) → k < piece_count size list → 1 ≤ length (piece size list k)
piece_some size list k h = omega (arith, piece_length size list k, start_within size list k h, octets_some size)

pub piece_few : (size : PieceSize) (list : List ℕ) (k : ℕ) → length (piece size list k) ≤ piece_octets size
piece_few size list k = omega (arith, piece_length size list k)

pub piece_short : (size : PieceSize) (list : List ℕ) (k : ℕ) → length (piece size list k) ≤ 60
piece_short size list k = omega (arith, piece_few size list k, octets_few size)

pub piece_fits : (size : PieceSize) (list : List ℕ) (k : ℕ) → piece_start size k ≤ length list → piece_start size k + length (piece size list k) ≤ length list
piece_fits size list k h = omega (arith, piece_length size list k, h)
