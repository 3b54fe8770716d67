use Rattle.std.proofs.Common.{ℕ, zero, suc, ◌≡◌, ◌+◌, ◌-◌, ◌≤◌, List, [], ◌∷◌, ◌++◌, length, take, drop, refl, sym, ◌∙◌, ap, arith, length-take, length-take-le, length-drop, length-append, append_assoc, append-nil, subst, inl, inr}
use Rattle.std.proofs.lemmas.List.{take_all, drop_all, take-append-drop, take-append-le, drop-append-le}
use Rattle.std.proofs.lemmas.Bool.{cases_lt}
use Rattle.std.proofs.lemmas.Grind.{common_steps}
use Rattle.std.proofs.Math.Seq.{take-add, take-append-add, take-append_seam}
use Rattle.knx_model.specs.Loading.{overlaid}

pub take_length : (k : ℕ) (ys zs : List ℕ) → length ys ≡ length zs → take (length (take k zs)) ys ≡ take k ys
take_length zero ys zs e = refl
take_length (suc k) [] [] e = refl
take_length (suc k) [] (z ∷ zs) e = refl
take_length (suc k) (y ∷ ys) [] e = absurd (omega (arith, e))
take_length (suc k) (y ∷ ys) (z ∷ zs) e = ap (λ w. y ∷ w) (take_length k ys zs (omega (arith, e)))

-- laying octets over keeps the length, also where they have no room
pub length-overlaid : (old : List ℕ) (at : ℕ) (octets : List ℕ) → length (overlaid old at octets) ≡ length old
length-overlaid old at octets = grind (arith, common_steps)

-- one more piece of k
pub take_piece : (k : ℕ) (xs ys : List ℕ) (at : ℕ) → take at xs ≡ take at ys → take k (drop at xs) ≡ take k (drop at ys) → take (at + k) xs ≡ take (at + k) ys
take_piece k xs ys at e f = take-add at k xs ∙ (ap (λ w. w ++ take k (drop at xs)) e ∙ (ap (λ w. take at ys ++ w) f ∙ sym (take-add at k ys)))

pub piece_room : (k : ℕ) (list : List ℕ) (at : ℕ) → at ≤ length list → at + length (take k (drop at list)) ≤ length list
piece_room k list at h = omega (arith, length-take {A = ℕ}, length-drop {A = ℕ})

-- what is laid over a list where it fits
pub overlaid_fits : (old : List ℕ) (at : ℕ) (octets : List ℕ) → at + length octets ≤ length old → overlaid old at octets ≡ take at old ++ (octets ++ drop (at + length octets) old)
overlaid_fits old at octets h = ap (λ (w : List ℕ). take at old ++ (w ++ drop (at + length octets) old)) (take_all (length old - at) octets (omega arith))

front_long : (xs ps rest : List ℕ) (n : ℕ) → n ≡ length xs + length ps → take n (xs ++ (ps ++ rest)) ≡ xs ++ ps
front_long xs ps rest n e = rw e (take-append-add xs (ps ++ rest) (length ps) ∙ ap (λ (w : List ℕ). xs ++ w) (take-append_seam ps rest))

-- the front of a list after one more piece is written
pub written_front : (k : ℕ) (old list : List ℕ) (at : ℕ) → length old ≡ length list → at ≤ length list → take at old ≡ take at list → take (at + k) (overlaid old at (take k (drop at list))) ≡ take (at + k) list
written_front k old list at l h e =
    let ps : List ℕ = take k (drop at list) in
    let fits : at + length ps ≤ length old = omega (arith, piece_room k list at h, l) in
    let rest : List ℕ = drop (at + length ps) old in
    let step : overlaid old at ps ≡ take at list ++ (ps ++ rest) = overlaid_fits old at ps fits ∙ ap (λ (w : List ℕ). w ++ (ps ++ rest)) e in
    let n : length (take at list) ≡ at = length-take-le at list h in
    elim (cases_lt (length list) (at + k)) as (λ _. take (at + k) (overlaid old at ps) ≡ take (at + k) list) [
      | inr m ↦ let q : length ps ≡ k = omega (arith, length-take {A = ℕ}, length-drop {A = ℕ}, m) in
          rw step (front_long (take at list) ps rest (at + k) (omega (arith, n, q)) ∙ sym (take-add at k list))
      | inl m ↦ let all : ps ≡ drop at list = take_all k (drop at list) (omega (arith, length-drop {A = ℕ}, m)) in
          let whole : take at list ++ ps ≡ list = ap (λ (w : List ℕ). take at list ++ w) all ∙ take-append-drop at list in
          let q : at + length ps ≡ length list = rw all (omega (arith, length-drop {A = ℕ})) in
          let none : rest ≡ [] = rw q (drop_all (length list) old (omega (arith, l))) in
          let end : overlaid old at ps ≡ list = step ∙ (ap (λ (w : List ℕ). take at list ++ (ps ++ w)) none ∙ (ap (λ (w : List ℕ). take at list ++ w) (append-nil ps) ∙ whole)) in
          ap (λ (w : List ℕ). take (at + k) w) end
    ]

-- laying over within the front of a list
overlaid_front : (xs ys : List ℕ) (at : ℕ) (octets : List ℕ) → at + length octets ≤ length xs → overlaid (xs ++ ys) at octets ≡ overlaid xs at octets ++ ys
overlaid_front xs ys at octets h =
    let l : at + length octets ≤ length (xs ++ ys) = omega (arith, length-append {A = ℕ}) in
    let t : take at (xs ++ ys) ≡ take at xs = take-append-le at xs ys (omega arith) in
    let d : drop (at + length octets) (xs ++ ys) ≡ drop (at + length octets) xs ++ ys = drop-append-le (at + length octets) xs ys h in
    let e : overlaid (xs ++ ys) at octets ≡ take at xs ++ (octets ++ (drop (at + length octets) xs ++ ys)) = overlaid_fits (xs ++ ys) at octets l ∙ (ap (λ (w : List ℕ). w ++ (octets ++ drop (at + length octets) (xs ++ ys))) t ∙ ap (λ (w : List ℕ). take at xs ++ (octets ++ w)) d) in
    let f : overlaid xs at octets ++ ys ≡ (take at xs ++ (octets ++ drop (at + length octets) xs)) ++ ys = ap (λ (w : List ℕ). w ++ ys) (overlaid_fits xs at octets h) in
    e ∙ sym (f ∙ simp append_assoc)

pub overlaid_within : (old : List ℕ) (n at : ℕ) (octets : List ℕ) → at + length octets ≤ n → n ≤ length old → take n (overlaid old at octets) ≡ overlaid (take n old) at octets
overlaid_within old n at octets h l =
    let xs : List ℕ = take n old in
    let m : length xs ≡ n = length-take-le n old l in
    let k : at + length octets ≤ length xs = omega (arith, m, h) in
    let e : overlaid old at octets ≡ overlaid xs at octets ++ drop n old = ap (λ (w : List ℕ). overlaid w at octets) (sym (take-append-drop n old)) ∙ overlaid_front xs (drop n old) at octets k in
    let q : length (overlaid xs at octets) ≡ n = length-overlaid xs at octets ∙ m in
    ap (take n) e ∙ subst (λ (j : ℕ). take j (overlaid xs at octets ++ drop n old) ≡ overlaid xs at octets) q (take-append_seam (overlaid xs at octets) (drop n old))
