-- The oldest of what was put and isn't taken.
use Rattle.std.proofs.Common.{◌≡◌, ℕ, suc, ◌+◌, ◌≤◌, ◌⊎◌, List, [], ◌∷◌, ◌++◌, length, Bool, true, false, cond, refl, sym, ◌∙◌, ap, inl, inr, arith, append_assoc, length-append}
use Rattle.std.specs.Prelude.{◌==◌}
use Rattle.knx_model.specs.declared.frames.cemi.Ldata.{Ldata}
use Rattle.knx_model.specs.Cemi.{Written as cemi_octets}
use Rattle.line_model.specs.ActedOnce.{in_channel}
use Rattle.tunnel_law.proofs.Inside.{Every}
use Rattle.line_law.proofs.Queue.{Items, puts_of}
use Rattle.line_law.proofs.Coupled.{IsLow, IsSorted}

-- ---- lists

pub in_append : (k : ℕ) (l m : List (ℕ × List ℕ)) → in_channel k (l ++ m) ≡ in_channel k l ++ in_channel k m
in_append k [] m = refl
in_append k (x ∷ l) m = by_place (x.0 == k) (in_append k l m) where
  by_place : (b : Bool) → in_channel k (l ++ m) ≡ in_channel k l ++ in_channel k m → ◌≡◌ {A = List (List ℕ)} (cond b (x.1 ∷ in_channel k (l ++ m)) (in_channel k (l ++ m))) (cond b (x.1 ∷ in_channel k l) (in_channel k l) ++ in_channel k m)
  by_place true e = ap (λ z. x.1 ∷ z) e
  by_place false e = e

same_front : (xs ys zs : List (List ℕ)) → xs ++ zs ≡ ys ++ zs → xs ≡ ys
same_front [] [] zs e = refl
same_front [] (y ∷ ys) zs e = absurd (let h : length zs ≡ suc (length ys + length zs) = ap (λ (l : List (List ℕ)). length l) e ∙ ap (λ n. suc n) (length-append ys zs) in omega arith)
same_front (x ∷ xs) [] zs e = absurd (let h : suc (length xs + length zs) ≡ length zs = sym (ap (λ n. suc n) (length-append xs zs)) ∙ ap (λ (l : List (List ℕ)). length l) e in omega arith)
same_front (x ∷ xs) (y ∷ ys) zs e =
    let first : x ≡ y = cc in
    let rest : xs ++ zs ≡ ys ++ zs = cc in
    ap (λ z. z ∷ xs) first ∙ ap (λ z. y ∷ z) (same_front xs ys zs rest)

-- one more of them was taken
pub one_more : (puts takes newer : List (List ℕ)) (content : List ℕ) → puts ++ takes ≡ newer ++ content ∷ takes → puts ≡ newer ++ content ∷ []
one_more puts takes newer content e = same_front puts (newer ++ content ∷ []) takes (e ∙ sym (append_assoc newer (content ∷ []) takes))

-- ---- it is the oldest of all

pub record Oldest (base : ℕ) (items : Items) (content : List ℕ) : Type 0 where
  pub newer : Items
  pub frame : Ldata
  pub is : items ≡ newer ++ (base, frame) ∷ []
  pub octets : cemi_octets frame ≡ content

empty_isnt : (newer : List (List ℕ)) (content : List ℕ) → [] ≡ newer ++ content ∷ [] → ⊥
empty_isnt [] content e = cc
empty_isnt (x ∷ newer) content e = cc

first_or : (x : List ℕ) (l newer : List (List ℕ)) (content : List ℕ) → x ∷ l ≡ newer ++ content ∷ [] → ((l ≡ []) × (x ≡ content)) ⊎ ((k : List (List ℕ)) × (l ≡ k ++ content ∷ []))
first_or x l [] content e = inl (let a : l ≡ [] = cc in let b : x ≡ content = cc in (a, b))
first_or x l (y ∷ newer) content e = inr (newer, (let a : l ≡ newer ++ content ∷ [] = cc in a))

pub oldest : (base : ℕ) (items : Items) (newer : List (List ℕ)) (content : List ℕ) → IsSorted items → Every (IsLow base) items → in_channel base (puts_of items) ≡ newer ++ content ∷ [] → Oldest base items content
oldest base [] newer content sorted low e = absurd (empty_isnt newer content e)
oldest base (x ∷ []) newer content sorted low e = by_place (x.0 == base) refl e where
  by_place : (b : Bool) → (x.0 == base) ≡ b → ◌≡◌ {A = List (List ℕ)} (cond b (cemi_octets x.1 ∷ []) []) (newer ++ content ∷ []) → Oldest base (x ∷ []) content
  by_place true q k =
      let at : x.0 ≡ base = grind (arith, q) in
      elim (first_or (cemi_octets x.1) [] newer content k) [
        | inl one ↦ record { newer = []; frame = x.1; is = ap (λ z. (z, x.1) ∷ []) at; octets = one.1 }
        | inr more ↦ absurd (empty_isnt more.0 content more.1)
      ]
  by_place false q k = absurd (empty_isnt newer content k)
oldest base (x ∷ y ∷ l) newer content sorted low e =
    elim (by_place (x.0 == base) refl e) [
      | inl none ↦ absurd (empty_rest none.0 none.1)
      | inr more ↦
          (let o : Oldest base (y ∷ l) content = oldest base (y ∷ l) more.0 content sorted.1 low.1 more.1 in
          record { newer = x ∷ o.newer; frame = o.frame; is = ap (λ z. x ∷ z) o.is; octets = o.octets })
    ]
  where
    rest : List (List ℕ)
    rest = in_channel base (puts_of (y ∷ l))

    by_place : (b : Bool) → (x.0 == base) ≡ b → ◌≡◌ {A = List (List ℕ)} (cond b (cemi_octets x.1 ∷ rest) rest) (newer ++ content ∷ []) → ((x.0 ≡ base) × (rest ≡ [])) ⊎ ((k : List (List ℕ)) × (rest ≡ k ++ content ∷ []))
    by_place true q k =
        let at : x.0 ≡ base = grind (arith, q) in
        elim (first_or (cemi_octets x.1) rest newer content k) [ inl one ↦ inl (at, one.0) | inr more ↦ inr more ]
    by_place false q k = inr (newer, k)

    full : (b : Bool) → b ≡ true → ◌≡◌ {A = List (List ℕ)} (cond b (cemi_octets y.1 ∷ in_channel base (puts_of l)) (in_channel base (puts_of l))) [] → ⊥
    full true q k = let z : cemi_octets y.1 ∷ in_channel base (puts_of l) ≡ [] = k in cc
    full false q k = let z : false ≡ true = q in cc

    empty_rest : x.0 ≡ base → rest ≡ [] → ⊥
    empty_rest at none =
        let high : y.0 ≤ x.0 = sorted.0.0 in
        let least : base ≤ y.0 = low.1.0 in
        let same : (y.0 == base) ≡ true = grind (arith, at, high, least) in
        full (y.0 == base) same none
