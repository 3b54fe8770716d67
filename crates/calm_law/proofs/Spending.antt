-- One device of a calm line: what a job's attempt has brought, with what it may still bring, is within what its plan costs.
use Rattle.std.proofs.Common.{◌≡◌, ◌≢◌, ℕ, suc, ◌+◌, ◌*◌, ◌≤◌, ◌⊎◌, List, [], ◌∷◌, Bool, true, false, Option, Some, None, refl, sym, ◌∙◌, ap, subst, inl, inr, arith}
use Rattle.std.specs.Prelude.{is_some}
use Rattle.knx_model.specs.declared.connection.TransportFrame.{TransportFrame}
use Rattle.knx_model.specs.declared.connection.TransportFrame.TheVariants.{Connect, Disconnect, Ack, Numbered}
use Rattle.knx_model.specs.declared.plan.Expect.{Expect}
use Rattle.knx_model.specs.declared.plan.Expect.TheVariants.{AckOnly, Is, Note}
use Rattle.knx_model.specs.Connection.{next_number}
use Rattle.knx_model.specs.Plans.{Plan, Over, Asks, Suits}
use Rattle.line_model.specs.Progress.{suits}
use Rattle.line_model.specs.Moments.{Moment, heard_from}
use Rattle.calm_law.specs.CalmCounts.{CostsAtMost, brought, one_for, op_cost}
use Rattle.calm_law.proofs.Phases.{Phase, Rests, Opens, Ready, Sends, Served, Awaits, Owes, Acks, Leaves}
use Rattle.calm_law.proofs.Books.{Says, One, IsLeft, Decided, IsntOpening, Books, books_more}
use Rattle.calm_law.proofs.BooksMoves.{begins_books, asks_books, ack_books, leave_books, opened_books, served_books, acks_books, leaves_books, lacks_books, next_books, wanted_books, refused_books}

-- ---- what may still come

abbrev op_left : Expect → ℕ
op_left AckOnly = 2
op_left (Is wanted) = 5
op_left Note = 5

abbrev pub AfterIt : List ℕ → Expect → (Option (List ℕ) → Plan) → ℕ → Type 0
AfterIt apdu expect next m = (o : Option (List ℕ)) → Suits apdu expect o → CostsAtMost (next o) m

abbrev Room : Plan → ℕ → Phase → ℕ → Type 0
Room plan k Rests n = k ≡ 0 → (m : ℕ) × (m + 4 ≤ n) × CostsAtMost plan m
Room plan k (Opens fly) n = (m : ℕ) × (m + 2 ≤ n) × CostsAtMost plan m
Room plan k (Ready left closing) n = (m : ℕ) × (m + 2 ≤ n) × (closing ≡ false → CostsAtMost left m)
Room plan k (Sends place apdu expect next) n = (m : ℕ) × (m + suc (op_left expect) ≤ n) × AfterIt apdu expect next m
Room plan k (Served told place apdu expect next o) n = (m : ℕ) × (m + suc (op_left expect) ≤ n) × AfterIt apdu expect next m
Room plan k (Awaits place apdu expect next v) n = (m : ℕ) × (m + op_left expect ≤ n) × AfterIt apdu expect next m
Room plan k (Owes left closing v j) n = (m : ℕ) × (m + 4 ≤ n) × (closing ≡ false → CostsAtMost left m)
Room plan k (Acks fly left closing v j) n = (m : ℕ) × (m + 2 ≤ n) × (closing ≡ false → CostsAtMost left m)
Room plan k (Leaves fly left) n = k ≡ 0 → ⊥

-- what was brought, and what may still come
abbrev pub Spends : ℕ → Plan → ℕ → Phase → List Moment → ℕ → Type 0
Spends a plan k phase l full = (left : ℕ) × (brought a l + left ≤ full + 4) × Room plan k phase left

abbrev pub Ledger : Type 0 → ℕ → Plan → ℕ → ℕ → ℕ → Phase → List Moment → Type 0
Ledger W a plan k n e phase l = Books W a plan k n e phase l × ((full : ℕ) → CostsAtMost plan full → Spends a plan k phase l full)

-- so what was brought is within it
pub spent_within : (W : Type 0) (a : ℕ) (plan : Plan) (k n e : ℕ) (phase : Phase) (l : List Moment) → Ledger W a plan k n e phase l → (full : ℕ) → CostsAtMost plan full → brought a l ≤ full + 4
spent_within W a plan k n e phase l h full costs = let w = (h.1 full costs).1 in omega (arith, w)

pub nothing_spent : (W : Type 0) (a : ℕ) (plan : Plan) (n e : ℕ) → Books W a plan 0 n e Rests [] → Ledger W a plan 0 n e Rests []
nothing_spent W a plan n e books = (books, λ full costs. (full + 4, omega arith, λ z. (full, omega arith, costs)))

-- ---- a moment

abbrev pub Less : Plan → ℕ → Phase → ℕ → Phase → ℕ → Type 0
Less plan k phase j next cost = (n : ℕ) → Room plan k phase n → (rest : ℕ) × (rest + cost ≤ n) × Room plan j next rest

module _ (a : ℕ) (plan : Plan) (m : Moment) (l : List Moment) (p : Option TransportFrame) (c : Option Bool) (h : Option TransportFrame) (says : Says a m p c h) where
  abbrev cost_of : ℕ
  cost_of = 2 * one_for (is_some p) + one_for (is_some h)

  spent_more : brought a (m ∷ l) ≡ cost_of + brought a l
  spent_more = ap (λ z. (2 * one_for (is_some z) + one_for (is_some (heard_from a m.what))) + brought a l) says.put ∙ ap (λ z. (2 * one_for (is_some p) + one_for (is_some z)) + brought a l) says.heard

  spends_more : (k j : ℕ) (phase next : Phase) → Less plan k phase j next cost_of → ((full : ℕ) → CostsAtMost plan full → Spends a plan k phase l full) → (full : ℕ) → CostsAtMost plan full → Spends a plan j next (m ∷ l) full
  spends_more k j phase next less s full costs =
      let old = s full costs in
      let x = less old.0 old.2 in
      let w = old.1 in
      let u = x.1 in
      let more = spent_more in
      (x.0, omega (arith, w, u, more), x.2)

-- ---- each move

module _ (W : Type 0) (a : ℕ) (plan : Plan) (m : Moment) (l : List Moment) (k n e : ℕ) where
  abbrev Before : Phase → Type 0
  Before phase = Ledger W a plan k n e phase l

  none_begun : (One a l (IsLeft (Decided W a plan)) → ⊥) → Books W a plan k n e Rests l → k ≡ 0
  none_begun undecided (inl b) = b.0
  none_begun undecided (inr (one, o)) = absurd (undecided o)

  pub begins_ledger : Says a m (Some Connect) None None → (One a l (IsLeft (Decided W a plan)) → ⊥) → Before Rests → Ledger W a plan (suc k) n e (Opens true) (m ∷ l)
  begins_ledger says undecided h = (
    begins_books W a plan m l k n e says undecided h.0,
    spends_more a plan m l (Some Connect) None None says k (suc k) Rests (Opens true) (less (none_begun undecided h.0)) h.1,
  ) where
    less : k ≡ 0 → Less plan k Rests (suc k) (Opens true) (cost_of a plan m l (Some Connect) None None says)
    less zero r room = let x = room zero in let u = x.1 in (x.0 + 2, omega (arith, u), (x.0, omega arith, x.2))

  pub asks_ledger : (j place : ℕ) (apdu : List ℕ) (expect : Expect) (next : Option (List ℕ) → Plan) (left : Plan) (closing : Bool) → Says a m (Some (Numbered j apdu)) None None → j ≡ n → closing ≡ false → left ≡ Asks place apdu expect next
      → Before (Ready left closing) → Ledger W a plan k n e (Sends place apdu expect next) (m ∷ l)
  asks_ledger j place apdu expect next left closing says same on head h = (
    asks_books W a plan m l k n e j place apdu expect next left closing says same on head h.0,
    spends_more a plan m l (Some (Numbered j apdu)) None None says k k (Ready left closing) (Sends place apdu expect next) less h.1,
  ) where
    by_cost : (expect : Expect) (x y : ℕ) → x + op_cost expect ≤ y → x + suc (op_left expect) ≤ y
    by_cost AckOnly x y u = u
    by_cost (Is wanted) x y u = u
    by_cost Note x y u = u

    less : Less plan k (Ready left closing) k (Sends place apdu expect next) (cost_of a plan m l (Some (Numbered j apdu)) None None says)
    less r room =
        let c : CostsAtMost (Asks place apdu expect next) room.0 = subst (λ z. CostsAtMost z room.0) head (room.2 on) in
        let u = room.1 in
        (room.0, omega (arith, u), (c.0, by_cost expect c.0 room.0 c.1, c.2))

  pub ack_ledger : (left : Plan) (closing : Bool) (v : List ℕ) (j : ℕ) → Says a m (Some (Ack j)) None None → Before (Owes left closing v j) → Ledger W a plan k n e (Acks true left closing v j) (m ∷ l)
  ack_ledger left closing v j says h = (ack_books W a plan m l k n e left closing v j says h.0, spends_more a plan m l (Some (Ack j)) None None says k k (Owes left closing v j) (Acks true left closing v j) less h.1) where
    less : Less plan k (Owes left closing v j) k (Acks true left closing v j) (cost_of a plan m l (Some (Ack j)) None None says)
    less r room = let u = room.1 in (room.0 + 2, omega (arith, u), (room.0, omega arith, room.2))

  one_begun : (left : Plan) (closing : Bool) → Books W a plan k n e (Ready left closing) l → k ≡ 1
  one_begun left closing (inl b) = absurd b
  one_begun left closing (inr h) = h.0

  pub leave_ledger : (left : Plan) (closing : Bool) → Says a m (Some Disconnect) None None → (closing ≡ true) ⊎ (left ≡ Over) → (W → closing ≡ false) → Before (Ready left closing) → Ledger W a plan k n e (Leaves true left) (m ∷ l)
  leave_ledger left closing says why wants h = (
    leave_books W a plan m l k n e left closing says why wants h.0,
    spends_more a plan m l (Some Disconnect) None None says k k (Ready left closing) (Leaves true left) (less (one_begun left closing h.0)) h.1,
  ) where
    less : k ≡ 1 → Less plan k (Ready left closing) k (Leaves true left) (cost_of a plan m l (Some Disconnect) None None says)
    less one r room = let u = room.1 in (0, omega (arith, u), λ zero. (let z : 1 ≡ 0 = sym one ∙ zero in cc))

  -- ---- confirmations

  pub opened_ledger : Says a m None (Some false) None → Before (Opens false) → Ledger W a plan k 0 0 (Ready plan false) (m ∷ l)
  opened_ledger says h = (opened_books W a plan m l k n e says h.0, spends_more a plan m l None (Some false) None says k k (Opens false) (Ready plan false) less h.1) where
    less : Less plan k (Opens false) k (Ready plan false) (cost_of a plan m l None (Some false) None says)
    less r room = (r, omega arith, (room.0, room.1, λ z. room.2))

  pub served_ledger : (place : ℕ) (apdu : List ℕ) (expect : Expect) (next : Option (List ℕ) → Plan) (o : Option (List ℕ)) → Says a m None (Some false) None → Before (Served true place apdu expect next o) → Ledger W a plan k n e (Served false place apdu expect next o) (m ∷ l)
  served_ledger place apdu expect next o says h = (
    served_books W a plan m l k n e place apdu expect next o says h.0,
    spends_more a plan m l None (Some false) None says k k (Served true place apdu expect next o) (Served false place apdu expect next o) less h.1,
  ) where
    less : Less plan k (Served true place apdu expect next o) k (Served false place apdu expect next o) (cost_of a plan m l None (Some false) None says)
    less r room = (r, omega arith, room)

  pub acks_ledger : (left : Plan) (closing : Bool) (v : List ℕ) (j : ℕ) → Says a m None (Some false) None → Before (Acks false left closing v j) → Ledger W a plan k n e (Ready left closing) (m ∷ l)
  acks_ledger left closing v j says h = (acks_books W a plan m l k n e left closing v j says h.0, spends_more a plan m l None (Some false) None says k k (Acks false left closing v j) (Ready left closing) less h.1) where
    less : Less plan k (Acks false left closing v j) k (Ready left closing) (cost_of a plan m l None (Some false) None says)
    less r room = (r, omega arith, room)

  pub leaves_ledger : (left : Plan) → Says a m None (Some false) None → Before (Leaves false left) → Ledger W a plan k n e Rests (m ∷ l)
  leaves_ledger left says h = (leaves_books W a plan m l k n e left says h.0, spends_more a plan m l None (Some false) None says k k (Leaves false left) Rests less h.1) where
    less : Less plan k (Leaves false left) k Rests (cost_of a plan m l None (Some false) None says)
    less r room = (r, omega arith, λ zero. absurd (room zero))

  -- ---- frames of the device

  pub lacks_ledger : (place : ℕ) (apdu : List ℕ) (expect : Expect) (next : Option (List ℕ) → Plan) (v : List ℕ) → Says a m None None (Some (Ack n)) → Before (Served false place apdu expect next (Some v)) → Ledger W a plan k (next_number n) e (Awaits place apdu expect next v) (m ∷ l)
  lacks_ledger place apdu expect next v says h = (
    lacks_books W a plan m l k n e place apdu expect next v says h.0,
    spends_more a plan m l None None (Some (Ack n)) says k k (Served false place apdu expect next (Some v)) (Awaits place apdu expect next v) less h.1,
  ) where
    less : Less plan k (Served false place apdu expect next (Some v)) k (Awaits place apdu expect next v) (cost_of a plan m l None None (Some (Ack n)) says)
    less r room = let u = room.1 in (room.0 + op_left expect, omega (arith, u), (room.0, omega arith, room.2))

  pub next_ledger : (place : ℕ) (apdu : List ℕ) (next : Option (List ℕ) → Plan) → Says a m None None (Some (Ack n)) → Before (Served false place apdu AckOnly next None) → Ledger W a plan k (next_number n) e (Ready (next None) false) (m ∷ l)
  next_ledger place apdu next says h = (
    next_books W a plan m l k n e place apdu next says h.0,
    spends_more a plan m l None None (Some (Ack n)) says k k (Served false place apdu AckOnly next None) (Ready (next None) false) less h.1,
  ) where
    less : Less plan k (Served false place apdu AckOnly next None) k (Ready (next None) false) (cost_of a plan m l None None (Some (Ack n)) says)
    less r room = let u = room.1 in (room.0 + 2, omega (arith, u), (room.0, omega arith, λ z. room.2 None tt))

  five : (apdu : List ℕ) (expect : Expect) (v : List ℕ) (x y : ℕ) → Suits apdu expect (Some v) → x + op_left expect ≤ y → x + 5 ≤ y
  five apdu AckOnly v x y fits u = absurd fits
  five apdu (Is wanted) v x y fits u = u
  five apdu Note v x y fits u = u

  pub wanted_ledger : (place : ℕ) (apdu : List ℕ) (expect : Expect) (next : Option (List ℕ) → Plan) (v : List ℕ) → Says a m None None (Some (Numbered e v)) → Suits apdu expect (Some v) → Before (Awaits place apdu expect next v) → Ledger W a plan k n (next_number e) (Owes (next (Some v)) false v e) (m ∷ l)
  wanted_ledger place apdu expect next v says fits h = (
    wanted_books W a plan m l k n e place apdu expect next v says fits h.0,
    spends_more a plan m l None None (Some (Numbered e v)) says k k (Awaits place apdu expect next v) (Owes (next (Some v)) false v e) less h.1,
  ) where
    less : Less plan k (Awaits place apdu expect next v) k (Owes (next (Some v)) false v e) (cost_of a plan m l None None (Some (Numbered e v)) says)
    less r room = let u = five apdu expect v room.0 r fits room.1 in (room.0 + 4, omega (arith, u), (room.0, omega arith, λ z. room.2 (Some v) fits))

  not_ack : (expect : Expect) (x y : ℕ) → expect ≢ AckOnly → x + op_left expect ≤ y → x + 5 ≤ y
  not_ack AckOnly x y some u = absurd (some refl)
  not_ack (Is wanted) x y some u = u
  not_ack Note x y some u = u

  pub refused_ledger : (place : ℕ) (apdu : List ℕ) (expect : Expect) (next : Option (List ℕ) → Plan) (v : List ℕ) → Says a m None None (Some (Numbered e v)) → expect ≢ AckOnly → suits (Asks place apdu expect next) v ≡ false
      → Before (Awaits place apdu expect next v) → Ledger W a plan k n (next_number e) (Owes (Asks place apdu expect next) true v e) (m ∷ l)
  refused_ledger place apdu expect next v says some unfit h = (
    refused_books W a plan m l k n e place apdu expect next v says some unfit h.0,
    spends_more a plan m l None None (Some (Numbered e v)) says k k (Awaits place apdu expect next v) (Owes (Asks place apdu expect next) true v e) less h.1,
  ) where
    less : Less plan k (Awaits place apdu expect next v) k (Owes (Asks place apdu expect next) true v e) (cost_of a plan m l None None (Some (Numbered e v)) says)
    less r room = let u = not_ack expect room.0 r some room.1 in (room.0 + 4, omega (arith, u), (room.0, omega arith, λ z. (let y : true ≡ false = z in absurd (cc))))

-- ---- a moment that is nothing to it, or another's confirmation

pub ledger_more : (W : Type 0) (a : ℕ) (plan : Plan) (m : Moment) (c : Option Bool) → Says a m None c None → (n e k : ℕ) (phase : Phase) (l : List Moment) → (c ≡ None) ⊎ IsntOpening phase → Ledger W a plan k n e phase l → Ledger W a plan k n e phase (m ∷ l)
ledger_more W a plan m c says n e k phase l why h = (books_more W a plan m c says n e k phase l why h.0, spends_more a plan m l None c None says k k phase phase less h.1) where
  less : Less plan k phase k phase (cost_of a plan m l None c None says)
  less r room = (r, omega arith, room)
