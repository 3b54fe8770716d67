-- How far a plan reaches by its answers: only to one place, on by one operation at a time, and not further than the answers go. And the number of the
-- operation that was sent last.
use Rattle.std.proofs.Common.{◌≡◌, ◌<◌, ℕ, zero, suc, Bool, true, false, List, [], ◌∷◌, ◌++◌, reverse, Option, Some, None, refl, ap, sym, subst, ◌∙◌, arith, append-nil}
use Rattle.std.proofs.lemmas.Grind.{reverse_onto}
use Rattle.std.proofs.lemmas.List.{reverse-append}
use Rattle.knx_model.specs.declared.plan.Expect.{Expect}
use Rattle.knx_model.specs.declared.plan.Expect.TheVariants.{AckOnly, Is, Note}
use Rattle.knx_model.specs.Plans.{Plan, Over, Asks, Suits}
use Rattle.line_model.specs.Progress.{Reaches, last_of, Differs}
use Rattle.download_core.specs.Fits.{HasAnswer}

-- ---- only to one place

pub same_place : (p : Plan) (k : ℕ) (xs : List (List ℕ)) (q r : Plan) → Reaches p k xs q → Reaches p k xs r → q ≡ r
same_place p zero [] q r h g = sym h ∙ g
same_place p zero (x ∷ xs) q r h g = absurd h
same_place Over (suc k) xs q r h g = absurd h
same_place (Asks place apdu AckOnly next) (suc k) xs q r h g = same_place (next None) k xs q r h g
same_place (Asks place apdu (Is wanted) next) (suc k) [] q r h g = absurd h
same_place (Asks place apdu (Is wanted) next) (suc k) (x ∷ xs) q r h g = same_place (next (Some x)) k xs q r h.1 g.1
same_place (Asks place apdu Note next) (suc k) [] q r h g = absurd h
same_place (Asks place apdu Note next) (suc k) (x ∷ xs) q r h g = same_place (next (Some x)) k xs q r h.1 g.1

-- ---- with more answers it reaches further

none_left : (p : Plan) (xs : List (List ℕ)) (y : List ℕ) (ys : List (List ℕ)) (r : Plan) → Reaches p zero (xs ++ y ∷ ys) r → ⊥
none_left p [] y ys r g = g
none_left p (x ∷ xs) y ys r g = g

pub reaches_more : (p : Plan) (j k : ℕ) (xs : List (List ℕ)) (y : List ℕ) (ys : List (List ℕ)) (q r : Plan) → Reaches p j xs q → Reaches p k (xs ++ y ∷ ys) r → j < k
reaches_more p j zero xs y ys q r h g = absurd (none_left p xs y ys r g)
reaches_more p zero (suc k) xs y ys q r h g = omega arith
reaches_more Over (suc j) (suc k) xs y ys q r h g = absurd h
reaches_more (Asks place apdu AckOnly next) (suc j) (suc k) xs y ys q r h g = let e = reaches_more (next None) j k xs y ys q r h g in omega arith
reaches_more (Asks place apdu (Is wanted) next) (suc j) (suc k) [] y ys q r h g = absurd h
reaches_more (Asks place apdu (Is wanted) next) (suc j) (suc k) (x ∷ xs) y ys q r h g = let e = reaches_more (next (Some x)) j k xs y ys q r h.1 g.1 in omega arith
reaches_more (Asks place apdu Note next) (suc j) (suc k) [] y ys q r h g = absurd h
reaches_more (Asks place apdu Note next) (suc j) (suc k) (x ∷ xs) y ys q r h g = let e = reaches_more (next (Some x)) j k xs y ys q r h.1 g.1 in omega arith

-- ---- not beyond its end

pub past_over : (p : Plan) (k : ℕ) (xs : List (List ℕ)) (r : Plan) → Reaches p k xs Over → Reaches p (suc k) xs r → ⊥
past_over p zero [] r h g = absurd (subst (λ (u : Plan). Reaches u 1 [] r) h g)
past_over p zero (x ∷ xs) r h g = h
past_over Over (suc k) xs r h g = h
past_over (Asks place apdu AckOnly next) (suc k) xs r h g = past_over (next None) k xs r h g
past_over (Asks place apdu (Is wanted) next) (suc k) [] r h g = h
past_over (Asks place apdu (Is wanted) next) (suc k) (x ∷ xs) r h g = past_over (next (Some x)) k xs r h.1 g.1
past_over (Asks place apdu Note next) (suc k) [] r h g = h
past_over (Asks place apdu Note next) (suc k) (x ∷ xs) r h g = past_over (next (Some x)) k xs r h.1 g.1

-- ---- nor beyond an operation whose answer is missing

no_answer : (q r : Plan) → HasAnswer q → Reaches q 1 [] r → ⊥
no_answer Over r a g = a
no_answer (Asks place apdu AckOnly next) r a g = a
no_answer (Asks place apdu (Is wanted) next) r a g = g
no_answer (Asks place apdu Note next) r a g = g

pub past_missing : (p : Plan) (k : ℕ) (xs : List (List ℕ)) (q r : Plan) → Reaches p k xs q → HasAnswer q → Reaches p (suc k) xs r → ⊥
past_missing p zero [] q r h a g = no_answer q r a (subst (λ (u : Plan). Reaches u 1 [] r) h g)
past_missing p zero (x ∷ xs) q r h a g = h
past_missing Over (suc k) xs q r h a g = h
past_missing (Asks place apdu AckOnly next) (suc k) xs q r h a g = past_missing (next None) k xs q r h a g
past_missing (Asks place apdu (Is wanted) next) (suc k) [] q r h a g = h
past_missing (Asks place apdu (Is wanted) next) (suc k) (x ∷ xs) q r h a g = past_missing (next (Some x)) k xs q r h.1 a g.1
past_missing (Asks place apdu Note next) (suc k) [] q r h a g = h
past_missing (Asks place apdu Note next) (suc k) (x ∷ xs) q r h a g = past_missing (next (Some x)) k xs q r h.1 a g.1

-- ---- nor beyond an answer that differs

abbrev Takes : Plan → List ℕ → Type 0
Takes Over y = ⊥
Takes (Asks place apdu AckOnly next) y = ⊥
Takes (Asks place apdu (Is wanted) next) y = y ≡ wanted
Takes (Asks place apdu Note next) y = Suits apdu Note (Some y)

takes_first : (q r : Plan) (y : List ℕ) (ys : List (List ℕ)) → Reaches q 1 (y ∷ ys) r → Takes q y
takes_first Over r y ys g = absurd g
takes_first (Asks place apdu AckOnly next) r y ys g = absurd g
takes_first (Asks place apdu (Is wanted) next) r y ys g = g.0
takes_first (Asks place apdu Note next) r y ys g = g.0

takes_next : (p : Plan) (k : ℕ) (xs : List (List ℕ)) (y : List ℕ) (ys : List (List ℕ)) (q r : Plan) → Reaches p k xs q → Reaches p (suc k) (xs ++ y ∷ ys) r → Takes q y
takes_next p zero [] y ys q r h g = takes_first q r y ys (subst (λ (u : Plan). Reaches u 1 (y ∷ ys) r) h g)
takes_next p zero (x ∷ xs) y ys q r h g = absurd h
takes_next Over (suc k) xs y ys q r h g = absurd h
takes_next (Asks place apdu AckOnly next) (suc k) xs y ys q r h g = takes_next (next None) k xs y ys q r h g
takes_next (Asks place apdu (Is wanted) next) (suc k) [] y ys q r h g = absurd h
takes_next (Asks place apdu (Is wanted) next) (suc k) (x ∷ xs) y ys q r h g = takes_next (next (Some x)) k xs y ys q r h.1 g.1
takes_next (Asks place apdu Note next) (suc k) [] y ys q r h g = absurd h
takes_next (Asks place apdu Note next) (suc k) (x ∷ xs) y ys q r h g = takes_next (next (Some x)) k xs y ys q r h.1 g.1

true_false : (b : Bool) → b ≡ true → b ≡ false → ⊥
true_false true t f = cc f
true_false false t f = cc t

differs_not : (q : Plan) (op : ℕ) (y wanted : List ℕ) → Takes q y → Differs q op y wanted → ⊥
differs_not Over op y wanted t d = t
differs_not (Asks place apdu AckOnly next) op y wanted t d = t
differs_not (Asks place apdu (Is w) next) op y wanted t d = d.1 t
differs_not (Asks place apdu Note next) op y wanted t d = true_false _ t d.1

pub past_wrong : (p : Plan) (k : ℕ) (xs : List (List ℕ)) (y : List ℕ) (ys : List (List ℕ)) (q r : Plan) (op : ℕ) (wanted : List ℕ) → Reaches p k xs q → Differs q op y wanted → Reaches p (suc k) (xs ++ y ∷ ys) r → ⊥
past_wrong p k xs y ys q r op wanted h d g = differs_not q op y wanted (takes_next p k xs y ys q r h g) d

-- ---- one operation more

first_reaches : (place : ℕ) (apdu : List ℕ) (expect : Expect) (next : Option (List ℕ) → Plan) (y : List ℕ) → Suits apdu expect (Some y) → Reaches (Asks place apdu expect next) 1 (y ∷ []) (next (Some y))
first_reaches place apdu AckOnly next y s = absurd s
first_reaches place apdu (Is wanted) next y s = (s, refl)
first_reaches place apdu Note next y s = (s, refl)

pub reaches_answered : (p : Plan) (k : ℕ) (xs : List (List ℕ)) (place : ℕ) (apdu : List ℕ) (expect : Expect) (next : Option (List ℕ) → Plan) (y : List ℕ) → Reaches p k xs (Asks place apdu expect next) → Suits apdu expect (Some y) → Reaches p (suc k) (xs ++ y ∷ []) (next (Some y))
reaches_answered p zero [] place apdu expect next y h s = subst (λ (u : Plan). Reaches u 1 (y ∷ []) (next (Some y))) (sym h) (first_reaches place apdu expect next y s)
reaches_answered p zero (x ∷ xs) place apdu expect next y h s = absurd h
reaches_answered Over (suc k) xs place apdu expect next y h s = absurd h
reaches_answered (Asks j a AckOnly n) (suc k) xs place apdu expect next y h s = reaches_answered (n None) k xs place apdu expect next y h s
reaches_answered (Asks j a (Is w) n) (suc k) [] place apdu expect next y h s = absurd h
reaches_answered (Asks j a (Is w) n) (suc k) (x ∷ xs) place apdu expect next y h s = (h.0, reaches_answered (n (Some x)) k xs place apdu expect next y h.1 s)
reaches_answered (Asks j a Note n) (suc k) [] place apdu expect next y h s = absurd h
reaches_answered (Asks j a Note n) (suc k) (x ∷ xs) place apdu expect next y h s = (h.0, reaches_answered (n (Some x)) k xs place apdu expect next y h.1 s)

pub reaches_acknowledged : (p : Plan) (k : ℕ) (xs : List (List ℕ)) (place : ℕ) (apdu : List ℕ) (next : Option (List ℕ) → Plan) → Reaches p k xs (Asks place apdu AckOnly next) → Reaches p (suc k) xs (next None)
reaches_acknowledged p zero [] place apdu next h = subst (λ (u : Plan). Reaches u 1 [] (next None)) (sym h) refl
reaches_acknowledged p zero (x ∷ xs) place apdu next h = absurd h
reaches_acknowledged Over (suc k) xs place apdu next h = absurd h
reaches_acknowledged (Asks j a AckOnly n) (suc k) xs place apdu next h = reaches_acknowledged (n None) k xs place apdu next h
reaches_acknowledged (Asks j a (Is w) n) (suc k) [] place apdu next h = absurd h
reaches_acknowledged (Asks j a (Is w) n) (suc k) (x ∷ xs) place apdu next h = (h.0, reaches_acknowledged (n (Some x)) k xs place apdu next h.1)
reaches_acknowledged (Asks j a Note n) (suc k) [] place apdu next h = absurd h
reaches_acknowledged (Asks j a Note n) (suc k) (x ∷ xs) place apdu next h = (h.0, reaches_acknowledged (n (Some x)) k xs place apdu next h.1)

-- ---- the number of the operation sent last, with the answers to those before it and whatever comes then

first_last : (op place : ℕ) (apdu : List ℕ) (expect : Expect) (next : Option (List ℕ) → Plan) (ys : List (List ℕ)) → last_of op (Asks place apdu expect next) 1 ys ≡ place
first_last op place apdu AckOnly next ys = refl
first_last op place apdu (Is wanted) next [] = refl
first_last op place apdu (Is wanted) next (y ∷ ys) = refl
first_last op place apdu Note next [] = refl
first_last op place apdu Note next (y ∷ ys) = refl

pub last_answered : (op : ℕ) (p : Plan) (k : ℕ) (xs ys : List (List ℕ)) (place : ℕ) (apdu : List ℕ) (expect : Expect) (next : Option (List ℕ) → Plan) → Reaches p k xs (Asks place apdu expect next) → last_of op p (suc k) (xs ++ ys) ≡ place
last_answered op p zero [] ys place apdu expect next h = subst (λ (u : Plan). last_of op u 1 ys ≡ place) (sym h) (first_last op place apdu expect next ys)
last_answered op p zero (x ∷ xs) ys place apdu expect next h = absurd h
last_answered op Over (suc k) xs ys place apdu expect next h = absurd h
last_answered op (Asks j a AckOnly n) (suc k) xs ys place apdu expect next h = last_answered j (n None) k xs ys place apdu expect next h
last_answered op (Asks j a (Is w) n) (suc k) [] ys place apdu expect next h = absurd h
last_answered op (Asks j a (Is w) n) (suc k) (x ∷ xs) ys place apdu expect next h = last_answered j (n (Some x)) k xs ys place apdu expect next h.1
last_answered op (Asks j a Note n) (suc k) [] ys place apdu expect next h = absurd h
last_answered op (Asks j a Note n) (suc k) (x ∷ xs) ys place apdu expect next h = last_answered j (n (Some x)) k xs ys place apdu expect next h.1

pub last_asked : (op : ℕ) (p : Plan) (k : ℕ) (xs : List (List ℕ)) (place : ℕ) (apdu : List ℕ) (expect : Expect) (next : Option (List ℕ) → Plan) → Reaches p k xs (Asks place apdu expect next) → last_of op p (suc k) xs ≡ place
last_asked op p k xs place apdu expect next h = subst (λ (zs : List (List ℕ)). last_of op p (suc k) zs ≡ place) (append-nil xs) (last_answered op p k xs [] place apdu expect next h)

-- ---- answers are kept the newest first

pub reverse_one : (y : List ℕ) (xs : List (List ℕ)) → reverse (y ∷ xs) ≡ reverse xs ++ y ∷ []
reverse_one y xs = reverse_onto xs y []

assoc : (xs : List (List ℕ)) (y : List ℕ) (zs : List (List ℕ)) → (xs ++ y ∷ []) ++ zs ≡ xs ++ y ∷ zs
assoc [] y zs = refl
assoc (x ∷ xs) y zs = ap (λ (l : List (List ℕ)). x ∷ l) (assoc xs y zs)

pub reverse_split : (later : List (List ℕ)) (y : List ℕ) (before : List (List ℕ)) → reverse (later ++ y ∷ before) ≡ reverse before ++ y ∷ reverse later
reverse_split later y before = reverse-append later (y ∷ before) ∙ ap (λ (l : List (List ℕ)). l ++ reverse later) (reverse_one y before) ∙ assoc (reverse before) y (reverse later)
