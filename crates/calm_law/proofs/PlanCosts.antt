-- What the plan of a load and that of a check bring at most, by the lengths of the image's lists.
use Rattle.std.proofs.Common.{◌≡◌, ℕ, zero, suc, ◌+◌, ◌*◌, ◌/◌, ◌≤◌, Bool, true, false, List, [], ◌∷◌, ◌++◌, length, map, refl, subst, arith}
use Rattle.std.specs.Prelude.{nat_lt, if◌then◌else◌}
use Rattle.std.specs.List.{range_with_len}
use Rattle.knx_model.specs.declared.config.Image.{Image}
use Rattle.knx_model.specs.declared.loading.LoadableObject.{LoadableObject}
use Rattle.knx_model.specs.declared.loading.LoadableObject.TheVariants.{AddressTable, AssociationTable, GroupObjects, Application}
use Rattle.knx_model.specs.declared.loading.LoadEvent.TheVariants.{LoadCompleted}
use Rattle.knx_model.specs.declared.loading.LoadState.TheVariants.{Loaded}
use Rattle.knx_model.specs.declared.frames.tpdu.Apdu.TheVariants.{MemoryRead, MemoryResponse}
use Rattle.knx_model.specs.declared.plan.PieceSize.{PieceSize}
use Rattle.knx_model.specs.declared.plan.PieceSize.TheVariants.{Twelve, Sixty}
use Rattle.knx_model.specs.Device.{capacity, segment_base}
use Rattle.knx_model.specs.LoadPlan.{list_of, each_object, opened, size_by, load_operations, check_operations, load_plan, check_plan}
use Rattle.knx_model.specs.Operations.{Operation, expecting, expect_of, event_then, listed, writes_piece, reads_piece, piece_count, each_piece, filling, loading, reads_end, checking}
use Rattle.calm_law.specs.CalmCounts.{CostsAtMost, op_cost, pieces, pieces_of, load_cost, check_cost}

-- ---- lists of operations

total : List Operation → ℕ
total [] = 0
total (x ∷ xs) = op_cost (expect_of x.expected) + total xs

total_append : (xs ys : List Operation) → total (xs ++ ys) ≡ total xs + total ys
unfolding total
total_append [] ys = omega arith
total_append (x ∷ xs) ys = let rest = total_append xs ys in omega (arith, rest)

listed_costs : (place : ℕ) (ops : List Operation) (n : ℕ) → total ops ≤ n → CostsAtMost (listed place ops) n
unfolding total
listed_costs place [] n few = tt
listed_costs place (x ∷ xs) n few = (total xs, omega (arith, few), λ o fits. listed_costs (suc place) xs (total xs) (omega arith))

each_total : (f : ℕ → Operation) (c : ℕ) → ((k : ℕ) → op_cost (expect_of (f k).expected) ≡ c) → (a n : ℕ) → total (map f (range_with_len a n)) ≡ n * c
unfolding total
each_total f c h a zero = omega arith
each_total f c h a (suc n) = let first = h a in let rest = each_total f c h (a + 1) n in omega (arith, first, rest)

-- ---- pieces

few_pieces : (size : PieceSize) (list : List ℕ) → piece_count size list ≤ pieces (length list)
unfolding piece_count
few_pieces Twelve list = omega arith
few_pieces Sixty list = let z : (length list + 59) / 60 ≤ (length list + 11) / 12 = omega arith in z

module _ (size : PieceSize) (o : LoadableObject) (list : List ℕ) where
  abbrev n : ℕ
  n = piece_count size list

  writes_total : total (each_piece (writes_piece size o list) n) ≡ n * 3
  writes_total = each_total (writes_piece size o list) 3 (λ k. refl) 0 n

  reads_total : total (each_piece (reads_piece size o list) n) ≡ n * 6
  reads_total = each_total (reads_piece size o list) 6 (λ k. refl) 0 n

  filling_total : total (filling size o list) ≡ 24 + (n * 3 + n * 6)
  unfolding filling total
  filling_total =
      let both = total_append (each_piece (writes_piece size o list) n) (each_piece (reads_piece size o list) n) in
      let w = writes_total in
      let r = reads_total in
      omega (arith, both, w, r)

  loading_total : total (loading size o list) ≡ 30 + 9 * n
  unfolding loading total
  loading_total =
      let f = filling_total in
      let both = total_append (filling size o list) (event_then o LoadCompleted Loaded ∷ []) in
      omega (arith, f, both)

  end_total : total (reads_end o list) ≤ 6
  unfolding total
  end_total = by_test (nat_lt (length list) (capacity o)) where
    by_test : (b : Bool) → total (if b then expecting (MemoryRead 1 (segment_base o + length list)) (MemoryResponse (segment_base o + length list) []) ∷ [] else []) ≤ 6
    by_test true = omega arith
    by_test false = omega arith

  checking_total : total (checking size o list) ≤ 18 + 6 * n
  unfolding checking total
  checking_total =
      let both = total_append (each_piece (reads_piece size o list) n) (reads_end o list) in
      let r = reads_total in
      let e = end_total in
      omega (arith, both, r, e)

objects_total : (f : LoadableObject → List Operation) → total (each_object f) ≡ total (f AddressTable) + (total (f AssociationTable) + (total (f GroupObjects) + total (f Application)))
objects_total f =
    let a = total_append (f AddressTable) (f AssociationTable ++ (f GroupObjects ++ f Application)) in
    let b = total_append (f AssociationTable) (f GroupObjects ++ f Application) in
    let c = total_append (f GroupObjects) (f Application) in
    omega (arith, a, b, c)

load_total : (image : Image) (size : PieceSize) → total (load_operations image size) ≤ 126 + 9 * pieces_of image
unfolding load_operations total
load_total image size =
    let all = objects_total (λ o. loading size o (list_of image o)) in
    let a = loading_total size AddressTable image.addr in
    let b = loading_total size AssociationTable image.assoc in
    let c = loading_total size GroupObjects image.objs in
    let d = loading_total size Application image.params in
    let p = few_pieces size image.addr in
    let q = few_pieces size image.assoc in
    let r = few_pieces size image.objs in
    let s = few_pieces size image.params in
    omega (arith, all, a, b, c, d, p, q, r, s)

check_total : (image : Image) (size : PieceSize) → total (check_operations image size) ≤ 72 + 6 * pieces_of image
unfolding check_operations total
check_total image size =
    let all = objects_total (λ o. checking size o (list_of image o)) in
    let a = checking_total size AddressTable image.addr in
    let b = checking_total size AssociationTable image.assoc in
    let c = checking_total size GroupObjects image.objs in
    let d = checking_total size Application image.params in
    let p = few_pieces size image.addr in
    let q = few_pieces size image.assoc in
    let r = few_pieces size image.objs in
    let s = few_pieces size image.params in
    omega (arith, all, a, b, c, d, p, q, r, s)

-- ---- the plans

opened_costs : (operations : PieceSize → List Operation) (cost : ℕ) → ((size : PieceSize) → total (operations size) ≤ cost) → CostsAtMost (opened operations) (12 + cost)
opened_costs operations cost few = (6 + cost, omega arith, λ o fits. (cost, omega arith, λ answer wanted. listed_costs 2 (operations (size_by answer)) cost (few (size_by answer))))

pub load_costs : (image : Image) → CostsAtMost (load_plan image) (load_cost image)
unfolding load_plan
load_costs image = let all : 12 + (126 + 9 * pieces_of image) ≡ load_cost image = omega arith in subst (CostsAtMost (opened (load_operations image))) all (opened_costs (load_operations image) (126 + 9 * pieces_of image) (load_total image))

pub check_costs : (image : Image) → CostsAtMost (check_plan image) (check_cost image)
unfolding check_plan
check_costs image = let all : 12 + (72 + 6 * pieces_of image) ≡ check_cost image = omega arith in subst (CostsAtMost (opened (check_operations image))) all (opened_costs (check_operations image) (72 + 6 * pieces_of image) (check_total image))
