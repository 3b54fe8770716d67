-- How far a plan has gone is settled by the answers.
use Rattle.std.proofs.Common.{◌≡◌, ℕ, zero, suc, ◌≤◌, List, [], ◌∷◌, ◌++◌, true, false, Option, Some, None, refl, sym, ◌∙◌, subst, arith}
use Rattle.knx_model.specs.declared.plan.Expect.{Expect}
use Rattle.knx_model.specs.declared.plan.Expect.TheVariants.{AckOnly, Is, Note}
use Rattle.knx_model.specs.GoodPlan.{awaits_answer}
use Rattle.knx_model.specs.Plans.{Plan, Over, Asks, Suits}
use Rattle.line_model.specs.Progress.{Reaches}

abbrev pub Texts : Type 0
Texts = List (List ℕ)

-- one more answer than are taken
pub too_many : (plan : Plan) (n k : ℕ) (answers later : Texts) (got : List ℕ) (x y : Plan) → k ≤ n → Reaches plan n answers x → Reaches plan k (answers ++ got ∷ later) y → ⊥
too_many plan zero zero [] later got x y le h g = g
too_many plan zero zero (one ∷ answers) later got x y le h g = h
too_many plan zero (suc k) answers later got x y le h g = omega (arith, le)
too_many plan (suc n) zero [] later got x y le h g = g
too_many plan (suc n) zero (one ∷ answers) later got x y le h g = g
too_many Over (suc n) (suc k) answers later got x y le h g = h
too_many (Asks place apdu AckOnly next) (suc n) (suc k) [] later got x y le h g = too_many (next None) n k [] later got x y (omega (arith, le)) h g
too_many (Asks place apdu AckOnly next) (suc n) (suc k) (one ∷ answers) later got x y le h g = too_many (next None) n k (one ∷ answers) later got x y (omega (arith, le)) h g
too_many (Asks place apdu (Is wanted) next) (suc n) (suc k) [] later got x y le h g = h
too_many (Asks place apdu (Is wanted) next) (suc n) (suc k) (one ∷ answers) later got x y le h g = too_many (next (Some one)) n k answers later got x y (omega (arith, le)) h.1 g.1
too_many (Asks place apdu Note next) (suc n) (suc k) [] later got x y le h g = h
too_many (Asks place apdu Note next) (suc n) (suc k) (one ∷ answers) later got x y le h g = too_many (next (Some one)) n k answers later got x y (omega (arith, le)) h.1 g.1

-- as many operations with the same answers lead to the same plan
pub same_left : (plan : Plan) (n : ℕ) (answers : Texts) (x y : Plan) → Reaches plan n answers x → Reaches plan n answers y → x ≡ y
same_left plan zero [] x y h g = sym h ∙ g
same_left plan zero (one ∷ answers) x y h g = absurd h
same_left Over (suc n) answers x y h g = absurd h
same_left (Asks place apdu AckOnly next) (suc n) [] x y h g = same_left (next None) n [] x y h g
same_left (Asks place apdu AckOnly next) (suc n) (one ∷ answers) x y h g = same_left (next None) n (one ∷ answers) x y h g
same_left (Asks place apdu (Is wanted) next) (suc n) [] x y h g = absurd h
same_left (Asks place apdu (Is wanted) next) (suc n) (one ∷ answers) x y h g = same_left (next (Some one)) n answers x y h.1 g.1
same_left (Asks place apdu Note next) (suc n) [] x y h g = absurd h
same_left (Asks place apdu Note next) (suc n) (one ∷ answers) x y h g = same_left (next (Some one)) n answers x y h.1 g.1

-- the plan that is left asks for an operation whose answer is to come, or is over: no further without an answer
abbrev pub Stops : Plan → Type 0
Stops Over = Unit {0}
Stops (Asks place apdu expect next) = awaits_answer expect ≡ true

stops_here : (x : Plan) (y : Plan) → Stops x → Reaches x 1 [] y → ⊥
stops_here Over y s g = g
stops_here (Asks place apdu AckOnly next) y s g = let z : false ≡ true = s in cc
stops_here (Asks place apdu (Is wanted) next) y s g = g
stops_here (Asks place apdu Note next) y s g = g

pub no_further : (plan : Plan) (n : ℕ) (answers : Texts) (x y : Plan) → Stops x → Reaches plan n answers x → Reaches plan (suc n) answers y → ⊥
no_further plan zero [] x y s h g = stops_here x y s (subst (λ z. Reaches z 1 [] y) h g)
no_further plan zero (one ∷ answers) x y s h g = h
no_further Over (suc n) answers x y s h g = h
no_further (Asks place apdu AckOnly next) (suc n) [] x y s h g = no_further (next None) n [] x y s h g
no_further (Asks place apdu AckOnly next) (suc n) (one ∷ answers) x y s h g = no_further (next None) n (one ∷ answers) x y s h g
no_further (Asks place apdu (Is wanted) next) (suc n) [] x y s h g = h
no_further (Asks place apdu (Is wanted) next) (suc n) (one ∷ answers) x y s h g = no_further (next (Some one)) n answers x y s h.1 g.1
no_further (Asks place apdu Note next) (suc n) [] x y s h g = h
no_further (Asks place apdu Note next) (suc n) (one ∷ answers) x y s h g = no_further (next (Some one)) n answers x y s h.1 g.1

-- one operation more
one_acknowledged : (x : Plan) (place : ℕ) (apdu : List ℕ) (next : Option (List ℕ) → Plan) → x ≡ Asks place apdu AckOnly next → Reaches x 1 [] (next None)
one_acknowledged x place apdu next e = subst (λ z. Reaches z 1 [] (next None)) (sym e) refl

pub acknowledged_one : (plan : Plan) (n : ℕ) (answers : Texts) (place : ℕ) (apdu : List ℕ) (next : Option (List ℕ) → Plan) → Reaches plan n answers (Asks place apdu AckOnly next) → Reaches plan (suc n) answers (next None)
acknowledged_one plan zero [] place apdu next h = one_acknowledged plan place apdu next h
acknowledged_one plan zero (one ∷ answers) place apdu next h = absurd h
acknowledged_one Over (suc n) answers place apdu next h = absurd h
acknowledged_one (Asks j op AckOnly more) (suc n) [] place apdu next h = acknowledged_one (more None) n [] place apdu next h
acknowledged_one (Asks j op AckOnly more) (suc n) (one ∷ answers) place apdu next h = acknowledged_one (more None) n (one ∷ answers) place apdu next h
acknowledged_one (Asks j op (Is wanted) more) (suc n) [] place apdu next h = absurd h
acknowledged_one (Asks j op (Is wanted) more) (suc n) (one ∷ answers) place apdu next h = (h.0, acknowledged_one (more (Some one)) n answers place apdu next h.1)
acknowledged_one (Asks j op Note more) (suc n) [] place apdu next h = absurd h
acknowledged_one (Asks j op Note more) (suc n) (one ∷ answers) place apdu next h = (h.0, acknowledged_one (more (Some one)) n answers place apdu next h.1)

answered_first : (x : Plan) (place : ℕ) (apdu got : List ℕ) (expect : Expect) (next : Option (List ℕ) → Plan) → x ≡ Asks place apdu expect next → Suits apdu expect (Some got) → Reaches x 1 (got ∷ []) (next (Some got))
answered_first x place apdu got AckOnly next e s = absurd s
answered_first x place apdu got (Is wanted) next e s = subst (λ z. Reaches z 1 (got ∷ []) (next (Some got))) (sym e) (s, refl)
answered_first x place apdu got Note next e s = subst (λ z. Reaches z 1 (got ∷ []) (next (Some got))) (sym e) (s, refl)

pub answered_one : (plan : Plan) (n : ℕ) (answers : Texts) (place : ℕ) (apdu got : List ℕ) (expect : Expect) (next : Option (List ℕ) → Plan) → Suits apdu expect (Some got) → Reaches plan n answers (Asks place apdu expect next) → Reaches plan (suc n) (answers ++ got ∷ []) (next (Some got))
answered_one plan zero [] place apdu got expect next s h = answered_first plan place apdu got expect next h s
answered_one plan zero (one ∷ answers) place apdu got expect next s h = absurd h
answered_one Over (suc n) answers place apdu got expect next s h = absurd h
answered_one (Asks j op AckOnly more) (suc n) [] place apdu got expect next s h = answered_one (more None) n [] place apdu got expect next s h
answered_one (Asks j op AckOnly more) (suc n) (one ∷ answers) place apdu got expect next s h = answered_one (more None) n (one ∷ answers) place apdu got expect next s h
answered_one (Asks j op (Is wanted) more) (suc n) [] place apdu got expect next s h = absurd h
answered_one (Asks j op (Is wanted) more) (suc n) (one ∷ answers) place apdu got expect next s h = (h.0, answered_one (more (Some one)) n answers place apdu got expect next s h.1)
answered_one (Asks j op Note more) (suc n) [] place apdu got expect next s h = absurd h
answered_one (Asks j op Note more) (suc n) (one ∷ answers) place apdu got expect next s h = (h.0, answered_one (more (Some one)) n answers place apdu got expect next s h.1)

-- the next answer is the wanted one
suits_first : (x : Plan) (place : ℕ) (apdu got : List ℕ) (expect : Expect) (next : Option (List ℕ) → Plan) (later : Texts) (y : Plan) → x ≡ Asks place apdu expect next → awaits_answer expect ≡ true → Reaches x 1 (got ∷ later) y → Suits apdu expect (Some got)
suits_first x place apdu got AckOnly next later y e s g = absurd (let z : false ≡ true = s in cc)
suits_first x place apdu got (Is wanted) next later y e s g = (subst (λ z. Reaches z 1 (got ∷ later) y) e g).0
suits_first x place apdu got Note next later y e s g = (subst (λ z. Reaches z 1 (got ∷ later) y) e g).0

pub suits_next : (plan : Plan) (n : ℕ) (answers : Texts) (place : ℕ) (apdu got : List ℕ) (expect : Expect) (next : Option (List ℕ) → Plan) (later : Texts) (y : Plan) → awaits_answer expect ≡ true → Reaches plan n answers (Asks place apdu expect next) → Reaches plan (suc n) (answers ++ got ∷ later) y → Suits apdu expect (Some got)
suits_next plan zero [] place apdu got expect next later y s h g = suits_first plan place apdu got expect next later y h s g
suits_next plan zero (one ∷ answers) place apdu got expect next later y s h g = absurd h
suits_next Over (suc n) answers place apdu got expect next later y s h g = absurd h
suits_next (Asks j op AckOnly more) (suc n) [] place apdu got expect next later y s h g = suits_next (more None) n [] place apdu got expect next later y s h g
suits_next (Asks j op AckOnly more) (suc n) (one ∷ answers) place apdu got expect next later y s h g = suits_next (more None) n (one ∷ answers) place apdu got expect next later y s h g
suits_next (Asks j op (Is wanted) more) (suc n) [] place apdu got expect next later y s h g = absurd h
suits_next (Asks j op (Is wanted) more) (suc n) (one ∷ answers) place apdu got expect next later y s h g = suits_next (more (Some one)) n answers place apdu got expect next later y s h.1 g.1
suits_next (Asks j op Note more) (suc n) [] place apdu got expect next later y s h g = absurd h
suits_next (Asks j op Note more) (suc n) (one ∷ answers) place apdu got expect next later y s h g = suits_next (more (Some one)) n answers place apdu got expect next later y s h.1 g.1
