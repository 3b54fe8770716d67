-- What a function that reads or judges answers, beside what is defined.
use Rattle.std.specs.Prelude.{◌≡◌, Result, Ok, Err}

-- a step, and what follows where it isn't refused
infixl 10 ◌>>=◌
abbrev pub ◌>>=◌ : {A B E : Type 0} → Result A E → (A → Result B E) → Result B E
(Ok x) >>= next = next x
(Err why) >>= next = Err why

-- what it returned, seen by view, is what is defined
abbrev pub Answers : {X Y E : Type 0} → (X → Y) → Result X E → Result Y E → Type 0
Answers view (Ok x) defined = defined ≡ Ok (view x)
Answers view (Err why) defined = defined ≡ Err why

-- the same, unless it returned a refusal of one kind, as want of memory, of which no definition tells
abbrev pub AnswersUnless : {X Y E : Type 0} → (E → Type 0) → (X → Y) → Result X E → Result Y E → Type 0
AnswersUnless Excepted view (Ok x) defined = defined ≡ Ok (view x)
AnswersUnless Excepted view (Err why) defined = ¬ Excepted why → defined ≡ Err why
