-- Lists in which some stand for places, in order.
use Rattle.std.proofs.Common.{◌≡◌, ℕ, suc, ◌%◌, ◌<◌, ◌≤◌, ◌⊎◌, List, [], ◌∷◌, ◌++◌, sym, subst, arith, inl, inr, append_assoc, append-nil}
use Rattle.knx_model.specs.declared.connection.TransportFrame.TheVariants.{Ack, Numbered}
use Rattle.session_law.proofs.Arrivals.{Arrival, Frame, NotAck, NotAnswer, Plain, NoData}

abbrev pub AckAt : ℕ → Arrival → Type 0
AckAt a x = x ≡ Frame (Ack (a % 16))

pub record AnswerAt (R : ℕ → List ℕ → Type 0) (a : ℕ) (x : Arrival) : Type 0 where
  pub value : List ℕ
  pub is : x ≡ Frame (Numbered (a % 16) value)
  pub right : R a value

-- some are of places from low on, below n, in order; the others are Out
abbrev pub Placed : (P : ℕ → Arrival → Type 0) (Out : Arrival → Type 0) → ℕ → List Arrival → ℕ → Type 0
Placed P Out low [] n = Unit {0}
Placed P Out low (x ∷ l) n = (Out x × Placed P Out low l n) ⊎ ((a : ℕ) × (low ≤ a) × (a < n) × P a x × Placed P Out a l n)

module _ (P : ℕ → Arrival → Type 0) (Out : Arrival → Type 0) where
  pub placed_low : (low low' : ℕ) (l : List Arrival) (n : ℕ) → low' ≤ low → Placed P Out low l n → Placed P Out low' l n
  placed_low low low' [] n le h = tt
  placed_low low low' (x ∷ l) n le (inl h) = inl (h.0, placed_low low low' l n le h.1)
  placed_low low low' (x ∷ l) n le (inr h) = inr (h.0, (let g : low ≤ h.0 = h.1 in omega arith), h.2, h.3, h.4)

  pub placed_more : (low : ℕ) (l : List Arrival) (n n' : ℕ) → n ≤ n' → Placed P Out low l n → Placed P Out low l n'
  placed_more low [] n n' le h = tt
  placed_more low (x ∷ l) n n' le (inl h) = inl (h.0, placed_more low l n n' le h.1)
  placed_more low (x ∷ l) n n' le (inr h) = inr (h.0, h.1, (let g : h.0 < n = h.2 in omega arith), h.3, placed_more h.0 l n n' le h.4)

  pub placed_insert : (low : ℕ) (l u : List Arrival) (x : Arrival) (n : ℕ) → Out x → Placed P Out low (l ++ u) n → Placed P Out low (l ++ x ∷ u) n
  placed_insert low [] u x n q h = inl (q, h)
  placed_insert low (y ∷ l) u x n q (inl h) = inl (h.0, placed_insert low l u x n q h.1)
  placed_insert low (y ∷ l) u x n q (inr h) = inr (h.0, h.1, h.2, h.3, placed_insert h.0 l u x n q h.4)

  pub placed_skip : (low : ℕ) (x : Arrival) (u : List Arrival) (n : ℕ) → Placed P Out low (x ∷ u) n → Placed P Out low u n
  placed_skip low x u n (inl h) = h.1
  placed_skip low x u n (inr h) = placed_low h.0 low u n h.1 h.4

  pub placed_remove : (low : ℕ) (l u : List Arrival) (x : Arrival) (n : ℕ) → Placed P Out low (l ++ x ∷ u) n → Placed P Out low (l ++ u) n
  placed_remove low [] u x n h = placed_skip low x u n h
  placed_remove low (y ∷ l) u x n (inl h) = inl (h.0, placed_remove low l u x n h.1)
  placed_remove low (y ∷ l) u x n (inr h) = inr (h.0, h.1, h.2, h.3, placed_remove h.0 l u x n h.4)

  pub placed_front : (low : ℕ) (l u : List Arrival) (n : ℕ) → Placed P Out low (l ++ u) n → Placed P Out low (l ++ []) n
  placed_front low [] u n h = tt
  placed_front low (y ∷ l) u n (inl h) = inl (h.0, placed_front low l u n h.1)
  placed_front low (y ∷ l) u n (inr h) = inr (h.0, h.1, h.2, h.3, placed_front h.0 l u n h.4)

  -- one comes twice
  pub placed_twice : (low : ℕ) (l u : List Arrival) (x : Arrival) (n : ℕ) → Placed P Out low (l ++ x ∷ u) n → Placed P Out low (l ++ x ∷ x ∷ u) n
  placed_twice low [] u x n (inl h) = inl (h.0, inl h)
  placed_twice low [] u x n (inr h) = inr (h.0, h.1, h.2, h.3, inr (h.0, omega arith, h.2, h.3, h.4))
  placed_twice low (y ∷ l) u x n (inl h) = inl (h.0, placed_twice low l u x n h.1)
  placed_twice low (y ∷ l) u x n (inr h) = inr (h.0, h.1, h.2, h.3, placed_twice h.0 l u x n h.4)

  -- what stands in the middle is dropped
  pub placed_middle : (low : ℕ) (l k u : List Arrival) (n : ℕ) → Placed P Out low ((l ++ k) ++ u) n → Placed P Out low (l ++ u) n
  placed_middle low [] [] u n h = h
  placed_middle low [] (x ∷ k) u n h = placed_middle low [] k u n (placed_skip low x (k ++ u) n h)
  placed_middle low (y ∷ l) k u n (inl h) = inl (h.0, placed_middle low l k u n h.1)
  placed_middle low (y ∷ l) k u n (inr h) = inr (h.0, h.1, h.2, h.3, placed_middle h.0 l k u n h.4)

  -- what stands before is dropped
  pub placed_back : (low : ℕ) (l u : List Arrival) (n : ℕ) → Placed P Out low (l ++ u) n → Placed P Out low u n
  placed_back low [] u n h = h
  placed_back low (y ∷ l) u n h = placed_back low l u n (placed_skip low y (l ++ u) n h)

  -- the last place stands behind all others
  pub placed_snoc : (low : ℕ) (l : List Arrival) (x : Arrival) (a n : ℕ) → low ≤ a → suc a ≡ n → P a x → Placed P Out low l n → Placed P Out low (l ++ x ∷ []) n
  placed_snoc low [] x a n le e is h = inr (a, le, omega arith, is, tt)
  placed_snoc low (y ∷ l) x a n le e is (inl h) = inl (h.0, placed_snoc low l x a n le e is h.1)
  placed_snoc low (y ∷ l) x a n le e is (inr h) = inr (h.0, h.1, h.2, h.3, placed_snoc h.0 l x a n (let g : h.0 < n = h.2 in omega arith) e is h.4)

  pub placed_end : (low : ℕ) (l : List Arrival) (x : Arrival) (n : ℕ) → Out x → Placed P Out low l n → Placed P Out low (l ++ x ∷ []) n
  placed_end low [] x n q h = inl (q, tt)
  placed_end low (y ∷ l) x n q (inl h) = inl (h.0, placed_end low l x n q h.1)
  placed_end low (y ∷ l) x n q (inr h) = inr (h.0, h.1, h.2, h.3, placed_end h.0 l x n q h.4)

  pub placed_map : (Q : ℕ → Arrival → Type 0) (low : ℕ) (l : List Arrival) (n : ℕ) → ((a : ℕ) (x : Arrival) → a < n → P a x → Q a x) → Placed P Out low l n → Placed Q Out low l n
  placed_map Q low [] n f h = tt
  placed_map Q low (x ∷ l) n f (inl h) = inl (h.0, placed_map Q low l n f h.1)
  placed_map Q low (x ∷ l) n f (inr h) = inr (h.0, h.1, h.2, f h.0 x h.2 h.3, placed_map Q h.0 l n f h.4)

-- plain frames join
pub acks_plain : (low : ℕ) (l k : List Arrival) (n : ℕ) → Plain k → Placed AckAt NotAck low l n → Placed AckAt NotAck low (l ++ k) n
acks_plain low l [] n q h = subst (λ z. Placed AckAt NotAck low z n) (sym (append-nil l)) h
acks_plain low l (x ∷ k) n q h =
    subst (λ z. Placed AckAt NotAck low z n) (append_assoc l (x ∷ []) k) (acks_plain low (l ++ x ∷ []) k n q.1 (placed_end AckAt NotAck low l x n q.0.0 h))

pub answers_plain : (R : ℕ → List ℕ → Type 0) (low : ℕ) (l k : List Arrival) (n : ℕ) → Plain k → Placed (AnswerAt R) NotAnswer low l n → Placed (AnswerAt R) NotAnswer low (l ++ k) n
answers_plain R low l [] n q h = subst (λ z. Placed (AnswerAt R) NotAnswer low z n) (sym (append-nil l)) h
answers_plain R low l (x ∷ k) n q h =
    subst (λ z. Placed (AnswerAt R) NotAnswer low z n) (append_assoc l (x ∷ []) k) (answers_plain R low (l ++ x ∷ []) k n q.1 (placed_end (AnswerAt R) NotAnswer low l x n q.0.1 h))

pub acks_none : (low : ℕ) (l u : List Arrival) (n : ℕ) → NoData l → NoData u → Placed AckAt NotAck low (l ++ u) n
acks_none low [] [] n h g = tt
acks_none low [] (x ∷ u) n h g = inl (g.0.0, acks_none low [] u n h g.1)
acks_none low (x ∷ l) u n h g = inl (h.0.0, acks_none low l u n h.1 g)

pub answers_none : (R : ℕ → List ℕ → Type 0) (low : ℕ) (l u : List Arrival) (n : ℕ) → NoData l → NoData u → Placed (AnswerAt R) NotAnswer low (l ++ u) n
answers_none R low [] [] n h g = tt
answers_none R low [] (x ∷ u) n h g = inl (g.0.1, answers_none R low [] u n h g.1)
answers_none R low (x ∷ l) u n h g = inl (h.0.1, answers_none R low l u n h.1 g)
