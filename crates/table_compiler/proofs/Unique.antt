-- Two lists with the same elements, each in the same strict order, are one.
use Rattle.std.proofs.Common.{◌≡◌, ℕ, zero, suc, ◌<◌, ◌⊎◌, inl, inr, List, [], ◌∷◌, length, get_or, map, refl, sym, ap, ◌∙◌, subst, arith}
use Rattle.std.specs.Prelude.{Contains, IsPermutation}
use Rattle.std.specs.List.{AllByRecursion, AllPairs}
use Rattle.std.specs.List.Sorted.{IsStrictlyIncreasing}
use Rattle.std.proofs.lemmas.List.{get_or-map, length-map}
use Rattle.std.proofs.lemmas.List.Kept.{AllPairs-from_increasing}
use Rattle.std.proofs.lemmas.List.Sorted.{Contains-permutation, IsPermutation-sym}
use Rattle.knx_model.specs.declared.address.IndAddr.{IndAddr}
use Rattle.knx_model.specs.declared.config.Config.{Config}
use Rattle.knx_model.specs.declared.config.Image.{Image}
use Rattle.knx_model.specs.declared.config.LinkSpec.{LinkSpec}
use Rattle.project_check.specs.Devices.{raw_of}
use Rattle.parameter_memory.proofs.One.{one as one_memory}
use Rattle.knx_model.specs.Tables.{StandsFor, IsLinked, IsBefore, address_list, association_list}

module _ {X : Type 0} (Less : X → X → Type 0) (apart : (x y : X) → Less x y → Less y x → ⊥) where
  -- each is less than all later ones
  Rises : List X → Type 0
  Rises [] = Unit {0}
  Rises (x ∷ xs) = AllByRecursion (λ y. Less x y) xs × Rises xs

  abbrev In : X → List X → Type 0
  In x [] = ⊥
  In x (y ∷ ys) = (x ≡ y) ⊎ In x ys

  above : (x : X) (xs : List X) (y : X) → AllByRecursion (λ z. Less x z) xs → In y xs → Less x y
  above x [] y all is = absurd is
  above x (z ∷ zs) y all (inl same) = subst (λ (w : X). Less x w) (sym same) all.0
  above x (z ∷ zs) y all (inr more) = above x zs y all.1 more

  heads : (x y : X) (xs ys : List X) → AllByRecursion (λ z. Less x z) xs → AllByRecursion (λ z. Less y z) ys → (x ≡ y) ⊎ In x ys → (y ≡ x) ⊎ In y xs → x ≡ y
  heads x y xs ys up vp (inl e) other = e
  heads x y xs ys up vp (inr h) (inl e) = sym e
  heads x y xs ys up vp (inr h) (inr h') = absurd (apart x y (above x xs y up h') (above y ys x vp h))

  below_itself : (x y : X) → Less x y → y ≡ x → ⊥
  below_itself x y lt same = let h : Less x x = subst (λ (z : X). Less x z) same lt in apart x x h h

  -- what is in a list that begins with x is x, or stands after it
  same_tail : (x : X) (xs ys : List X) → AllByRecursion (λ z. Less x z) xs → ((y : X) → In y (x ∷ xs) → In y (x ∷ ys)) → (y : X) → In y xs → In y ys
  same_tail x xs ys all to y is = elim (to y (inr is)) [
    | inl same ↦ absurd (below_itself x y (above x xs y all is) same)
    | inr more ↦ more
  ]

  same_list : (xs ys : List X) → Rises xs → Rises ys → ((y : X) → In y xs → In y ys) → ((y : X) → In y ys → In y xs) → xs ≡ ys
  unfolding Rises
  same_list [] [] up vp to from = refl
  same_list [] (y ∷ ys) up vp to from = absurd (from y (inl refl))
  same_list (x ∷ xs) [] up vp to from = absurd (to x (inl refl))
  same_list (x ∷ xs) (y ∷ ys) up vp to from =
      let e : x ≡ y = heads x y xs ys up.0 vp.0 (to x (inl refl)) (from y (inl refl)) in
      let to' : (w : X) → In w (x ∷ xs) → In w (x ∷ ys) = subst (λ (z : X). (w : X) → In w (x ∷ xs) → In w (z ∷ ys)) (sym e) to in
      let from' : (w : X) → In w (x ∷ ys) → In w (x ∷ xs) = subst (λ (z : X). (w : X) → In w (z ∷ ys) → In w (x ∷ xs)) (sym e) from in
      let vp' : AllByRecursion (λ z. Less x z) ys = subst (λ (z : X). AllByRecursion (λ w. Less z w) ys) (sym e) vp.0 in
      subst (λ (z : X). (x ∷ xs) ≡ (z ∷ ys)) e (ap (λ (zs : List X). x ∷ zs) (same_list xs ys up.1 vp.1 (same_tail x xs ys up.0 to') (same_tail x ys xs vp' from')))

  in_at : (xs : List X) (x : X) (k : ℕ) → k < length xs → get_or xs k x ≡ x → In x xs
  in_at [] x k lt e = absurd (omega arith)
  in_at (y ∷ ys) x zero lt e = inl (sym e)
  in_at (y ∷ ys) x (suc k) lt e = inr (in_at ys x k (omega arith) e)

  contains : (xs : List X) (x : X) → In x xs → Contains xs x
  contains [] x is = absurd is
  contains (y ∷ ys) x (inl e) = (0, omega arith, sym e)
  contains (y ∷ ys) x (inr more) = let h = contains ys x more in (suc h.0, omega (arith, h.1), h.2)

  each_above : (x : X) (xs : List X) → ((j : ℕ) (d : X) → j < length xs → Less x (get_or xs j d)) → AllByRecursion (λ y. Less x y) xs
  each_above x [] h = tt
  each_above x (y ∷ ys) h = (h 0 y (omega arith), each_above x ys (λ j d lt. h (suc j) d (omega arith)))

  rises : (xs : List X) → AllPairs Less xs → Rises xs
  unfolding Rises
  rises [] h = tt
  rises (x ∷ xs) h = (each_above x xs (λ j d lt. h 0 (suc j) d (omega arith) (omega arith)), rises xs (λ i j d below lt. h (suc i) (suc j) d (omega arith) (omega arith)))

  -- two lists with the same elements, each in order
  pub one_list : (xs ys : List X) → AllPairs Less xs → AllPairs Less ys → ((x : X) → Contains xs x → Contains ys x) → ((x : X) → Contains ys x → Contains xs x) → xs ≡ ys
  one_list xs ys up vp to from =
      same_list xs ys (rises xs up) (rises ys vp) (λ x is. let h = to x (contains xs x is) in in_at ys x h.0 h.1 h.2) (λ x is. let h = from x (contains ys x is) in in_at xs x h.0 h.1 h.2)

-- ---- a configuration has one image

lower : ℕ → ℕ → Type 0
lower x y = x < y

never_both : (x y : ℕ) → lower x y → lower y x → ⊥
unfolding lower
never_both x y h k = omega arith

same_groups : (one other : List ℕ) → IsStrictlyIncreasing one → IsStrictlyIncreasing other → ((g : ℕ) → Contains one g → Contains other g) → ((g : ℕ) → Contains other g → Contains one g) → one ≡ other
unfolding lower
same_groups one other up vp to from = one_list lower never_both one other (AllPairs-from_increasing one up) (AllPairs-from_increasing other vp) to from

-- no two pairs stand before each other
in_order_once : (groups : List ℕ) (links : List LinkSpec) (x y : ℕ × ℕ) → IsBefore groups links x y → IsBefore groups links y x → ⊥
in_order_once groups links x y (inl h) (inl k) = omega arith
in_order_once groups links x y (inl h) (inr (same, k)) = omega arith
in_order_once groups links x y (inr (same, h)) (inl k) = omega arith
in_order_once groups links x y (inr (same, inl (does, doesnt))) (inr (back, inl (also, not_also))) = doesnt also
in_order_once groups links x y (inr (same, inl (does, doesnt))) (inr (back, inr (alike, k))) = doesnt (alike.1 does)
in_order_once groups links x y (inr (same, inr (alike, h))) (inr (back, inl (does, doesnt))) = doesnt (alike.1 does)
in_order_once groups links x y (inr (same, inr (alike, h))) (inr (back, inr (also, k))) = omega arith

pub one_image : (config : Config) (one other : Image) → StandsFor one config → StandsFor other config → one ≡ other
one_image config one other s t =
    let groups : s.groups ≡ t.groups = same_groups s.groups t.groups s.groups_ascend t.groups_ascend (λ g h. (t.exactly g).1 ((s.exactly g).0 h)) (λ g h. (s.exactly g).1 ((t.exactly g).0 h)) in
    let to : (p o : ℕ) → IsLinked s.groups config.links p o → IsLinked t.groups config.links p o = λ p o h. subst (λ (gs : List ℕ). IsLinked gs config.links p o) groups h in
    let from : (p o : ℕ) → IsLinked t.groups config.links p o → IsLinked s.groups config.links p o = λ p o h. subst (λ (gs : List ℕ). IsLinked gs config.links p o) (sym groups) h in
    let up : AllPairs (IsBefore s.groups config.links) t.pairs = subst (λ (gs : List ℕ). AllPairs (IsBefore gs config.links) t.pairs) (sym groups) t.pairs_ascend in
    let pairs : s.pairs ≡ t.pairs = one_list (IsBefore s.groups config.links) (in_order_once s.groups config.links) s.pairs t.pairs s.pairs_ascend up
    (λ x h. (t.each_pair x.0 x.1).1 (to x.0 x.1 ((s.each_pair x.0 x.1).0 h)))
    (λ x h. (s.each_pair x.0 x.1).1 (from x.0 x.1 ((t.each_pair x.0 x.1).0 h))) in
    let addr : one.addr ≡ other.addr = s.addresses ∙ ap address_list groups ∙ sym t.addresses in
    let assoc : one.assoc ≡ other.assoc = s.associations ∙ ap association_list pairs ∙ sym t.associations in
    let objs : one.objs ≡ other.objs = s.objects ∙ sym t.objects in
    let params : one.params ≡ other.params = one_memory config.param_len config.params one.params other.params s.parameters t.parameters in
    λ i. record { addr = addr i; assoc = assoc i; objs = objs i; params = params i }

-- ---- the devices of a text have one ascending list

lower_device : IndAddr → IndAddr → Type 0
lower_device d e = raw_of d < raw_of e

device_once : (d e : IndAddr) → lower_device d e → lower_device e d → ⊥
unfolding lower_device
device_once d e h k = omega arith

devices_rise : (devices : List IndAddr) → IsStrictlyIncreasing (map raw_of devices) → AllPairs lower_device devices
unfolding lower_device
devices_rise devices up i j d below lt =
    let less : i < length devices = omega (arith, below, lt) in
    let within : j < length (map raw_of devices) = omega (arith, lt, length-map devices raw_of) in
    omega (arith, AllPairs-from_increasing (map raw_of devices) up i j 0 below within, get_or-map raw_of devices i d 0 less, get_or-map raw_of devices j d 0 lt)

pub one_order : (devices one other : List IndAddr) → IsPermutation devices one → IsPermutation devices other → IsStrictlyIncreasing (map raw_of one) → IsStrictlyIncreasing (map raw_of other) → one ≡ other
one_order devices one other p q up vp = one_list lower_device device_once one other (devices_rise one up) (devices_rise other vp)
    (λ d h. Contains-permutation devices other d q (Contains-permutation one devices d (IsPermutation-sym devices one p) h))
    (λ d h. Contains-permutation devices one d p (Contains-permutation other devices d (IsPermutation-sym devices other q) h))
