-- The plan that is left at a position: which operation is its head, what follows it, and what a note changes.
use Rattle.std.proofs.Common.{ℕ, zero, suc, ◌≡◌, ◌≢◌, ◌+◌, ◌-◌, ◌≤◌, List, [], ◌∷◌, map, length, drop, Option, Some, None, refl, sym, ◌∙◌, ap, subst, arith}
use Rattle.std.specs.List.{slice_get}
use Rattle.std.proofs.lemmas.List.{drop_all}
use Rattle.knx_model.specs.declared.config.Image.{Image}
use Rattle.knx_model.specs.declared.frames.tpdu.Apdu.{Apdu}
use Rattle.knx_model.specs.declared.frames.tpdu.Apdu.TheVariants.{DescriptorRead, DescriptorResponse}
use Rattle.knx_model.specs.declared.loading.LoadState.TheVariants.{Unloaded}
use Rattle.knx_model.specs.declared.loading.LoadEvent.TheVariants.{Unload}
use Rattle.knx_model.specs.declared.loading.LoadableObject.TheVariants.{Application}
use Rattle.knx_model.specs.declared.plan.Op.{Op}
use Rattle.knx_model.specs.declared.plan.PieceSize.{PieceSize}
use Rattle.knx_model.specs.ApduReading.{apdu_octets}
use Rattle.knx_model.specs.Plans.{Plan, Over, Asks, IsHead, IsNoted, followed}
use Rattle.knx_model.specs.Operations.{Operation, expecting, expect_of, event_then, listed}
use Rattle.knx_model.specs.LoadPlan.{size_by, opened, noting, load_operations, check_operations}
use Rattle.download_plan.specs.Step.{op_of, length_noted}
use Rattle.download_plan.specs.Left.{Listening, left_of, load_left, check_left, load_count, check_count}
use Rattle.download_plan.proofs.Places.{load_begins}

-- ---- lists

head_by : (place : ℕ) (apdu : List ℕ) (expected : Option Apdu) (rest : Plan) → IsHead place apdu (expect_of expected) (Asks place apdu (expect_of expected) (λ _. rest)) rest
head_by place apdu None rest = refl
head_by place apdu (Some answer) rest = refl

same_op : (x y : Op) → Some x ≡ Some y → x ≡ y
same_op x y e = cc

listed_head : (place : ℕ) (ops : List Operation) (j : ℕ) (op : Op) → slice_get (map op_of ops) j ≡ Some op → IsHead place op.apdu op.expect (listed place (drop j ops)) (listed (suc place) (drop (suc j) ops))
listed_head place [] zero op e = absurd (cc)
listed_head place [] (suc j) op e = absurd (cc)
listed_head place (x ∷ xs) zero op e =
    subst (λ (y : Op). IsHead place y.apdu y.expect (listed place (x ∷ xs)) (listed (suc place) xs)) (same_op (op_of x) op e) (head_by place (apdu_octets x.service) x.expected (listed (suc place) xs))
listed_head place (x ∷ xs) (suc j) op e = listed_head place xs j op e

expected_unnoted : (place : ℕ) (apdu : List ℕ) (expected : Option Apdu) (next : Option (List ℕ) → Plan) → ¬ IsNoted (Asks place apdu (expect_of expected) next)
expected_unnoted place apdu None next h = h
expected_unnoted place apdu (Some answer) next h = h

listed_unnoted : (place : ℕ) (ops : List Operation) → ¬ IsNoted (listed place ops)
listed_unnoted place [] h = h
listed_unnoted place (x ∷ xs) h = expected_unnoted place (apdu_octets x.service) x.expected (λ _. listed (suc place) xs) h

-- ---- positions

left_first : (operations : PieceSize → List Operation) (size : PieceSize) (k : ℕ) (op : Op) → k ≡ 0 → op ≡ op_of (expecting (DescriptorRead 0) (DescriptorResponse 0 (Some 0x07B0))) → IsHead k op.apdu op.expect (left_of operations size k) (left_of operations size (k + 1))
left_first operations size k op e f =
    subst (λ (j : ℕ). IsHead j op.apdu op.expect (left_of operations size j) (left_of operations size (j + 1))) (sym e)
    (subst (λ (y : Op). IsHead 0 y.apdu y.expect (opened operations) (noting operations)) (sym f) refl)

left_second : (operations : PieceSize → List Operation) (size : PieceSize) (k : ℕ) (op : Op) → k ≡ 1 → op ≡ length_noted → IsHead k op.apdu op.expect (left_of operations size k) (left_of operations size (k + 1))
left_second operations size k op e f =
    subst (λ (j : ℕ). IsHead j op.apdu op.expect (left_of operations size j) (left_of operations size (j + 1))) (sym e)
    (subst (λ (y : Op). IsHead 1 y.apdu y.expect (noting operations) (left_of operations size 2)) (sym f) (λ answer. listed 2 (operations (size_by answer)), refl))

left_from : (operations : PieceSize → List Operation) (size : PieceSize) (j k : ℕ) (op : Op) → k ≡ j + 2 → slice_get (map op_of (operations size)) j ≡ Some op → IsHead k op.apdu op.expect (left_of operations size k) (left_of operations size (k + 1))
left_from operations size j k op e f =
    let one : k ≡ suc (suc j) = omega (arith, e) in
    let two : k + 1 ≡ suc (suc (suc j)) = omega (arith, e) in
    subst (λ (i : ℕ). IsHead i op.apdu op.expect (left_of operations size i) (left_of operations size (k + 1))) (sym one)
    (subst (λ (i : ℕ). IsHead (suc (suc j)) op.apdu op.expect (listed (suc (suc j)) (drop j (operations size))) (left_of operations size i)) (sym two) (listed_head (suc (suc j)) (operations size) j op f))

left_over : (operations : PieceSize → List Operation) (size : PieceSize) (k : ℕ) → 2 + length (operations size) ≤ k → left_of operations size k ≡ Over
left_over operations size zero h = absurd (omega (arith, h))
left_over operations size (suc zero) h = absurd (omega (arith, h))
left_over operations size (suc (suc k)) h = ap (listed (suc (suc k))) (drop_all k (operations size) (omega (arith, h)))

left_noted : (operations : PieceSize → List Operation) (old new : PieceSize) (k : ℕ) (got : List ℕ) → k ≡ 1 → new ≡ size_by (Some got) → left_of operations new (k + 1) ≡ followed (left_of operations old k) got
left_noted operations old new k got e f =
    subst (λ (j : ℕ). left_of operations new (j + 1) ≡ followed (left_of operations old j) got) (sym e) (ap (λ (size : PieceSize). listed 2 (operations size)) f)

-- only the second operation is noted
left_unnoted : (operations : PieceSize → List Operation) (size : PieceSize) (k : ℕ) → IsNoted (left_of operations size k) → k ≡ 1
left_unnoted operations size zero h = absurd h
left_unnoted operations size (suc zero) h = refl
left_unnoted operations size (suc (suc k)) h = absurd (listed_unnoted (suc (suc k)) (drop k (operations size)) h)

-- up to the noted operation the size doesn't matter
left_before : (operations : PieceSize → List Operation) (old new : PieceSize) (j : ℕ) → j ≤ 1 → left_of operations new j ≡ left_of operations old j
left_before operations old new zero h = refl
left_before operations old new (suc zero) h = refl
left_before operations old new (suc (suc j)) h = absurd (omega (arith, h))

-- up to the k-th operation nothing changes where only the second is noted
left_before_each : (operations : PieceSize → List Operation) (old new : PieceSize) (j k : ℕ) → j ≤ k → (k ≢ 1 → new ≡ old) → left_of operations new j ≡ left_of operations old j
left_before_each operations old new j zero h f = ap (λ (size : PieceSize). left_of operations size j) (f (λ e. absurd (omega (arith, e))))
left_before_each operations old new j (suc zero) h f = left_before operations old new j h
left_before_each operations old new j (suc (suc k)) h f = ap (λ (size : PieceSize). left_of operations size j) (f (λ e. absurd (omega (arith, e))))

left_is_noted : (operations : PieceSize → List Operation) (size : PieceSize) (k : ℕ) → k ≡ 1 → IsNoted (left_of operations size k)
left_is_noted operations size k e = subst (λ (j : ℕ). IsNoted (left_of operations size j)) (sym e) tt

-- ---- the load plan

pub load_first : (p : Listening) (k : ℕ) (op : Op) → k ≡ 0 → op ≡ op_of (expecting (DescriptorRead 0) (DescriptorResponse 0 (Some 0x07B0))) → IsHead k op.apdu op.expect (load_left p k) (load_left p (k + 1))
unfolding load_left
load_first p k op e f = left_first (load_operations p.image) p.size k op e f

pub load_second : (p : Listening) (k : ℕ) (op : Op) → k ≡ 1 → op ≡ length_noted → IsHead k op.apdu op.expect (load_left p k) (load_left p (k + 1))
unfolding load_left
load_second p k op e f = left_second (load_operations p.image) p.size k op e f

pub load_third : (p : Listening) (k : ℕ) (op : Op) → k ≡ 2 → op ≡ op_of (event_then Application Unload Unloaded) → IsHead k op.apdu op.expect (load_left p k) (load_left p (k + 1))
unfolding load_left
load_third p k op e f = left_from (load_operations p.image) p.size 0 k op (omega (arith, e)) (load_begins p.image p.size ∙ ap Some (sym f))

pub load_from : (p : Listening) (k : ℕ) (op : Op) → 3 ≤ k → slice_get (map op_of (load_operations p.image p.size)) (k - 3 + 1) ≡ Some op → IsHead k op.apdu op.expect (load_left p k) (load_left p (k + 1))
unfolding load_left
load_from p k op h e = left_from (load_operations p.image) p.size (k - 3 + 1) k op (omega (arith, h)) e

pub load_over : (p : Listening) (k : ℕ) → load_count p ≤ k → load_left p k ≡ Over
unfolding load_left load_count
load_over p k h = left_over (load_operations p.image) p.size k h

pub load_noted : (old new : Listening) (k : ℕ) (got : List ℕ) → new.image ≡ old.image → (k ≡ 1 → new.size ≡ size_by (Some got)) → IsNoted (load_left old k) → load_left new (k + 1) ≡ followed (load_left old k) got
unfolding load_left
load_noted old new k got i f n =
    let second : k ≡ 1 = left_unnoted (load_operations old.image) old.size k n in
    subst (λ (image : Image). left_of (load_operations image) new.size (k + 1) ≡ followed (left_of (load_operations old.image) old.size k) got) (sym i)
    (left_noted (load_operations old.image) old.size new.size k got second (f second))

pub load_before : (old new : Listening) (k : ℕ) → new.image ≡ old.image → (k ≢ 1 → new.size ≡ old.size) → (j : ℕ) → j ≤ k → load_left new j ≡ load_left old j
unfolding load_left
load_before old new k i f j h = ap (λ (image : Image). left_of (load_operations image) new.size j) i ∙ left_before_each (load_operations old.image) old.size new.size j k h f

pub load_ignored : (old new : Listening) (k : ℕ) → new.image ≡ old.image → (k ≢ 1 → new.size ≡ old.size) → ¬ IsNoted (load_left old k) → (j : ℕ) → load_left new j ≡ load_left old j
unfolding load_left
load_ignored old new k i f unnoted j =
    ap (λ (image : Image). left_of (load_operations image) new.size j) i
    ∙ ap (λ (size : PieceSize). left_of (load_operations old.image) size j) (f (λ e. unnoted (left_is_noted (load_operations old.image) old.size k e)))

-- ---- the check plan

pub check_first : (p : Listening) (k : ℕ) (op : Op) → k ≡ 0 → op ≡ op_of (expecting (DescriptorRead 0) (DescriptorResponse 0 (Some 0x07B0))) → IsHead k op.apdu op.expect (check_left p k) (check_left p (k + 1))
unfolding check_left
check_first p k op e f = left_first (check_operations p.image) p.size k op e f

pub check_second : (p : Listening) (k : ℕ) (op : Op) → k ≡ 1 → op ≡ length_noted → IsHead k op.apdu op.expect (check_left p k) (check_left p (k + 1))
unfolding check_left
check_second p k op e f = left_second (check_operations p.image) p.size k op e f

pub check_from : (p : Listening) (k : ℕ) (op : Op) → 2 ≤ k → slice_get (map op_of (check_operations p.image p.size)) (k - 2) ≡ Some op → IsHead k op.apdu op.expect (check_left p k) (check_left p (k + 1))
unfolding check_left
check_from p k op h e = left_from (check_operations p.image) p.size (k - 2) k op (omega (arith, h)) e

pub check_over : (p : Listening) (k : ℕ) → check_count p ≤ k → check_left p k ≡ Over
unfolding check_left check_count
check_over p k h = left_over (check_operations p.image) p.size k h

pub check_noted : (old new : Listening) (k : ℕ) (got : List ℕ) → new.image ≡ old.image → (k ≡ 1 → new.size ≡ size_by (Some got)) → IsNoted (check_left old k) → check_left new (k + 1) ≡ followed (check_left old k) got
unfolding check_left
check_noted old new k got i f n =
    let second : k ≡ 1 = left_unnoted (check_operations old.image) old.size k n in
    subst (λ (image : Image). left_of (check_operations image) new.size (k + 1) ≡ followed (left_of (check_operations old.image) old.size k) got) (sym i)
    (left_noted (check_operations old.image) old.size new.size k got second (f second))

pub check_before : (old new : Listening) (k : ℕ) → new.image ≡ old.image → (k ≢ 1 → new.size ≡ old.size) → (j : ℕ) → j ≤ k → check_left new j ≡ check_left old j
unfolding check_left
check_before old new k i f j h = ap (λ (image : Image). left_of (check_operations image) new.size j) i ∙ left_before_each (check_operations old.image) old.size new.size j k h f

pub check_ignored : (old new : Listening) (k : ℕ) → new.image ≡ old.image → (k ≢ 1 → new.size ≡ old.size) → ¬ IsNoted (check_left old k) → (j : ℕ) → check_left new j ≡ check_left old j
unfolding check_left
check_ignored old new k i f unnoted j =
    ap (λ (image : Image). left_of (check_operations image) new.size j) i
    ∙ ap (λ (size : PieceSize). left_of (check_operations old.image) size j) (f (λ e. unnoted (left_is_noted (check_operations old.image) old.size k e)))
