-- Lists of which some elements have places that go up by 0 or 1.
use Rattle.std.proofs.Common.{◌≡◌, ℕ, zero, suc, ◌+◌, ◌<◌, ◌≤◌, ◌⊎◌, List, [], ◌∷◌, ◌++◌, length, Some, refl, sym, ◌∙◌, ap, subst, arith, inl, inr, length-append}
use Rattle.std.specs.Prelude.{slice_get}
use Rattle.line_model.specs.Network.{Sent, changed_at}
use Rattle.line_model.specs.ActedOnce.{Has, IsPrefix}
use Rattle.tunnel_law.proofs.Numbers.{Near}

pub data CountedIn {A : Type 0} (P : ℕ → A → Type 0) (Out : A → Type 0) : List A → ℕ → Type 0 where
  Nothing : CountedIn P Out [] 0
  Next : {a : ℕ} {s : A} {l : List A} → P a s → CountedIn P Out l a → CountedIn P Out (s ∷ l) (suc a)
  Again : {a : ℕ} {s : A} {l : List A} → P a s → CountedIn P Out l (suc a) → CountedIn P Out (s ∷ l) (suc a)
  Other : {n : ℕ} {s : A} {l : List A} → Out s → CountedIn P Out l n → CountedIn P Out (s ∷ l) n

pub near_in : {A : Type 0} (P : ℕ → A → Type 0) (Out : A → Type 0) {l : List A} {n : ℕ} → CountedIn P Out l n → (d : ℕ) (s : A) → slice_get l d ≡ Some s → Near P n d s ⊎ Out s
near_in P Out Nothing d s e = absurd (cc)
near_in P Out (Next {a} {s = t} p c) zero s e = let h : t ≡ s = cc in inl (record { place = a; below = omega arith; close = omega arith; is = subst (P a) h p })
near_in P Out (Next {a} p c) (suc d) s e =
    elim (near_in P Out c d s e) [ inl r ↦ inl (record { place = r.place; below = omega (arith, r.below); close = omega (arith, r.close); is = r.is }) | inr o ↦ inr o ]
near_in P Out (Again {a} {s = t} p c) zero s e = let h : t ≡ s = cc in inl (record { place = a; below = omega arith; close = omega arith; is = subst (P a) h p })
near_in P Out (Again {a} p c) (suc d) s e =
    elim (near_in P Out c d s e) [ inl r ↦ inl (record { place = r.place; below = r.below; close = omega (arith, r.close); is = r.is }) | inr o ↦ inr o ]
near_in P Out (Other {s = t} o c) zero s e = let h : t ≡ s = cc in inr (subst Out h o)
near_in P Out (Other {n} o c) (suc d) s e =
    elim (near_in P Out c d s e) [ inl r ↦ inl (record { place = r.place; below = r.below; close = omega (arith, r.close); is = r.is }) | inr o ↦ inr o ]

pub inside_map : {A : Type 0} (P Q : ℕ → A → Type 0) (Out : A → Type 0) → ((a : ℕ) (s : A) → P a s → Q a s) → {l : List A} {n : ℕ} → CountedIn P Out l n → CountedIn Q Out l n
inside_map P Q Out f Nothing = Nothing
inside_map P Q Out f (Next {a} {s} p c) = Next (f a s p) (inside_map P Q Out f c)
inside_map P Q Out f (Again {a} {s} p c) = Again (f a s p) (inside_map P Q Out f c)
inside_map P Q Out f (Other o c) = Other o (inside_map P Q Out f c)

pub again_at : {A : Type 0} (P : ℕ → A → Type 0) (Out : A → Type 0) (l : List A) (s : A) (a n : ℕ) → a + 1 ≡ n → P a s → CountedIn P Out l n → CountedIn P Out (s ∷ l) n
again_at P Out l s a n e p c =
    let h : n ≡ suc a = omega arith in
    subst (λ m. CountedIn P Out (s ∷ l) m) (sym h) (Again p (subst (λ m. CountedIn P Out l m) h c))

-- each element
abbrev pub Every : {A : Type 0} → (A → Type 0) → List A → Type 0
Every Q [] = Unit {0}
Every Q (x ∷ l) = Q x × Every Q l

pub every_map : {A : Type 0} (P Q : A → Type 0) → ((x : A) → P x → Q x) → (l : List A) → Every P l → Every Q l
every_map P Q f [] h = tt
every_map P Q f (x ∷ l) h = (f x h.0, every_map P Q f l h.1)

pub every_at : {A : Type 0} (P : A → Type 0) (l : List A) (d : ℕ) (s : A) → slice_get l d ≡ Some s → Every P l → P s
every_at P [] d s e h = absurd (cc)
every_at P (x ∷ l) zero s e h = let g : x ≡ s = cc in subst P g h.0
every_at P (x ∷ l) (suc d) s e h = every_at P l d s e h.1

pub none_inside : {A : Type 0} (P : ℕ → A → Type 0) (Out : A → Type 0) (l : List A) → Every Out l → CountedIn P Out l 0
none_inside P Out [] h = Nothing
none_inside P Out (x ∷ l) h = Other h.0 (none_inside P Out l h.1)

pub has_below : {A : Type 0} (l : List A) (a : ℕ) (x : A) → Has l a x → a < length l
has_below [] a x h = absurd h
has_below (y ∷ l) a x (inl h) = let e : a ≡ length l = h.0 in omega arith
has_below (y ∷ l) a x (inr h) = omega (arith, has_below l a x h)

pub has_newest : {A : Type 0} (y : A) (l : List A) (a : ℕ) (x : A) → a ≡ length l → Has (y ∷ l) a x → y ≡ x
has_newest y l a x e (inl h) = h.1
has_newest y l a x e (inr h) = absurd (omega (arith, has_below l a x h))

pub has_one : {A : Type 0} (l : List A) (a : ℕ) (x y : A) → Has l a x → Has l a y → x ≡ y
has_one [] a x y h k = absurd h
has_one (z ∷ l) a x y (inl h) (inl k) = sym h.1 ∙ k.1
has_one (z ∷ l) a x y (inl h) (inr k) = absurd (let e : a ≡ length l = h.0 in omega (arith, has_below l a y k))
has_one (z ∷ l) a x y (inr h) (inl k) = absurd (let e : a ≡ length l = k.0 in omega (arith, has_below l a x h))
has_one (z ∷ l) a x y (inr h) (inr k) = has_one l a x y h k

pub split : (a n : ℕ) → a ≤ n → (a ≡ n) ⊎ (a < n)
split a n le = grind arith

-- there is an element at each place
pub record Found {A : Type 0} (l : List A) (a : ℕ) : Type 0 where
  pub what : A
  pub at : Has l a what

pub has_at : {A : Type 0} (l : List A) (a : ℕ) → a < length l → Found l a
has_at [] a lt = absurd (omega arith)
has_at (y ∷ l) a lt =
    elim (split a (length l) (omega arith)) [ inl e ↦ record { what = y; at = inl (e, refl) } | inr below ↦ let f : Found l a = has_at l a below in record { what = f.what; at = inr f.at } ]

pub tail_length : (xs ys : List (List ℕ)) → IsPrefix xs ys → length xs ≤ length ys
tail_length xs ys t = let e : length ys ≡ length t.0 + length xs = ap (λ l. length l) t.1 ∙ length-append t.0 xs in omega arith

one_newer : (newer xs ys : List (List ℕ)) → ys ≡ newer ++ xs → length ys ≡ suc (length xs) → (y : List ℕ) × (ys ≡ y ∷ xs)
one_newer [] xs ys e len = absurd (let h : length ys ≡ length xs = ap (λ l. length l) e in omega arith)
one_newer (y ∷ []) xs ys e len = (y, e)
one_newer (y ∷ z ∷ newer) xs ys e len = absurd (let h : length ys ≡ suc (suc (length newer + length xs)) = ap (λ l. length l) e ∙ ap (λ n. suc (suc n)) (length-append newer xs) in omega arith)

pub tail_by_one : (xs ys : List (List ℕ)) → IsPrefix xs ys → length ys ≡ suc (length xs) → (y : List ℕ) × (ys ≡ y ∷ xs)
tail_by_one xs ys t len = one_newer t.0 xs ys t.1 len

-- a datagram that is delivered or lost keeps its octets
pub inside_changed : (P : ℕ → Sent → Type 0) (Out : Sent → Type 0) (f : Sent → Sent) → ((a : ℕ) (s : Sent) → P a s → P a (f s)) → ((s : Sent) → Out s → Out (f s))
    → (age : ℕ) {l : List Sent} {n : ℕ} → CountedIn P Out l n → CountedIn P Out (changed_at age f l) n
inside_changed P Out f p o age Nothing = Nothing
inside_changed P Out f p o zero (Next {a} {s} q c) = Next (p a s q) c
inside_changed P Out f p o zero (Again {a} {s} q c) = Again (p a s q) c
inside_changed P Out f p o zero (Other {s} q c) = Other (o s q) c
inside_changed P Out f p o (suc age) (Next q c) = Next q (inside_changed P Out f p o age c)
inside_changed P Out f p o (suc age) (Again q c) = Again q (inside_changed P Out f p o age c)
inside_changed P Out f p o (suc age) (Other q c) = Other q (inside_changed P Out f p o age c)

pub every_changed : (P : Sent → Type 0) (f : Sent → Sent) → ((s : Sent) → P s → P (f s)) → (age : ℕ) (l : List Sent) → Every P l → Every P (changed_at age f l)
every_changed P f p age [] h = tt
every_changed P f p zero (s ∷ l) h = (p s h.0, h.1)
every_changed P f p (suc age) (s ∷ l) h = (h.0, every_changed P f p age l h.1)
