-- What an attempt that runs knows of the session of its connection, by the moments of it (ISO/IEC 14543-3-2, transport layer), the newest first: the
-- numbers of its connection and what is outstanding there, how often it was put and when it was confirmed, when the answer that is awaited began to
-- be awaited, and how far its plan has come.
use Rattle.std.specs.Prelude.{◌≡◌, ◌≤◌, ◌⊎◌, ℕ, suc, ◌%◌, Bool, true, List, ◌∷◌, ◌++◌, length, reverse, Option, Some, None}
use Rattle.knx_model.specs.declared.connection.TransportFrame.TheVariants.{Numbered}
use Rattle.knx_model.specs.Connection.{Session, frame_in, most_repeats}
use Rattle.knx_model.specs.ClientConnection.{ClientEnd, Asked, Up, Asking, Awaiting, Ended, Question, has_answer}
use Rattle.knx_model.specs.Plans.{Plan}
use Rattle.line_model.specs.Moments.{Moment, confirmation_in, put_to, Next as NextNumber, Outstanding, number, acknowledged, answers, services}
use Rattle.line_model.specs.Signs.{Every, IsntAck, IsntConfirmation, SentInVain, IsAwaited, IsStill}
use Rattle.line_model.specs.Progress.{Reaches, last_of}
use Rattle.line_model.specs.Attempts.{awaits}
use Rattle.line_model.specs.Told.{AnsweredWrong, Unawaited}
use Rattle.download_core.specs.declared.flight.Flight.{Flight}
use Rattle.download_core.specs.declared.flight.Flight.TheVariants.{Frame}
use Rattle.download_core.specs.declared.outcome.Refusal.{Refusal}
use Rattle.download_core.specs.Attempt.{Standing, Next, AnswerOf, Attempt}

-- ---- the connection: the device's next number, by the answers that were accepted

abbrev pub Expects : ℕ → ℕ → List Moment → Type 0
Expects device expected l = expected ≡ length (answers device l) % 16

-- nothing is outstanding, and every service was acknowledged
pub record UpFits (device : ℕ) (s : Session) (sent : ℕ) (l : List Moment) : Type 0 where
  pub own : number device l ≡ NextNumber s.number
  pub expects : Expects device s.expected l
  pub over : acknowledged device l ≡ sent

-- a service was put so many times in vain, and was put once more, which isn't confirmed
pub record Flying (device n : ℕ) (apdu : List ℕ) (repeats : ℕ) (flight : Flight) (l : List Moment) : Type 0 where
  pub flies : flight ≡ Frame
  pub flown : List Moment
  pub put : Moment
  pub before : List Moment
  pub split : l ≡ flown ++ put ∷ before
  pub put_is : put_to device put.what ≡ Some (Numbered n apdu)
  pub first : Every IsntConfirmation flown
  pub unheard : Every (IsntAck device n) flown
  pub rest : SentInVain device n apdu repeats before

-- or was confirmed at this time
pub record Waiting (device n : ℕ) (apdu : List ℕ) (repeats since : ℕ) (l : List Moment) : Type 0 where
  pub waited : List Moment
  pub con : Moment
  pub flown : List Moment
  pub put : Moment
  pub before : List Moment
  pub split : l ≡ waited ++ con ∷ (flown ++ put ∷ before)
  pub put_is : put_to device put.what ≡ Some (Numbered n apdu)
  pub error : Bool
  pub con_is : confirmation_in con.what ≡ Some error
  pub at : con.now ≡ since
  pub first : Every IsntConfirmation flown
  pub unheard : Every (IsntAck device n) flown
  pub unheard_later : Every (IsntAck device n) waited
  pub rest : SentInVain device n apdu repeats before

abbrev pub Tried : ℕ → ℕ → List ℕ → ℕ → Option ℕ → Flight → List Moment → Type 0
Tried device n apdu repeats None flight l = Flying device n apdu repeats flight l
Tried device n apdu repeats (Some since) flight l = Waiting device n apdu repeats since l

-- where it was put for the first time; and where its answer is awaited, no answer was accepted since
pub record FirstPut (device n : ℕ) (apdu : List ℕ) (awaits : Bool) (l : List Moment) : Type 0 where
  pub flown : List Moment
  pub put : Moment
  pub before : List Moment
  pub split : l ≡ flown ++ put ∷ before
  pub put_is : put_to device put.what ≡ Some (Numbered n apdu)
  pub fresh : number device before ≡ NextNumber n
  pub answer : awaits ≡ true → (has_answer apdu ≡ true) × (answers device l ≡ answers device before)

-- one is outstanding, and every service before it was acknowledged
pub record AskingFits (device : ℕ) (s : Session) (q : Question) (flight : Flight) (sent : ℕ) (l : List Moment) : Type 0 where
  pub own : number device l ≡ Outstanding s.number
  pub expects : Expects device s.expected l
  pub over : suc (acknowledged device l) ≡ sent
  pub apdu : List ℕ
  pub carries : frame_in q.frame ≡ Numbered s.number apdu
  pub repeats : q.repeats ≤ most_repeats
  pub tried : Tried device s.number apdu q.repeats q.confirmed flight l
  pub first_put : FirstPut device s.number apdu q.awaits l

-- the answer of the last one is awaited, and since its last moment nothing was put to the device or taken of it
pub record AwaitingFits (device : ℕ) (s : Session) (sent : ℕ) (l : List Moment) : Type 0 where
  pub own : number device l ≡ NextNumber s.number
  pub expects : Expects device s.expected l
  pub over : acknowledged device l ≡ sent
  pub awaited : IsAwaited device l
  pub quiet : List Moment
  pub moment : Moment
  pub older : List Moment
  pub split : l ≡ quiet ++ moment ∷ older
  pub then_awaited : IsAwaited device (moment ∷ older)
  pub then_own : number device (moment ∷ older) ≡ NextNumber s.number
  pub still : Every (IsStill device s.number) quiet
  pub since : moment.now ≤ s.last

abbrev pub ConnFits : ℕ → ClientEnd → Flight → ℕ → List Moment → Type 0
ConnFits device (Asked to) flight sent l = ⊥
ConnFits device (Up s) flight sent l = UpFits device s sent l
ConnFits device (Asking s q) flight sent l = AskingFits device s q flight sent l
ConnFits device (Awaiting s) flight sent l = AwaitingFits device s sent l
ConnFits device Ended flight sent l = ⊥

-- ---- the plan, by the answers

-- the operations that were sent reach so far; where the answer of the last one is awaited, those before it do
abbrev pub StandsAt : Plan → Standing → ℕ → List (List ℕ) → Type 0
StandsAt plan (Next left) sent got = Reaches plan sent (reverse got) left
StandsAt plan (AnswerOf left) sent got = (k : ℕ) × (sent ≡ suc k) × Reaches plan k (reverse got) left

-- the first answer that isn't the expected one
pub record WentWrong (device : ℕ) (plan : Plan) (wrong : Refusal) (l : List Moment) : Type 0 where
  pub later : List (List ℕ)
  pub before : List (List ℕ)
  pub taken : answers device l ≡ later ++ wrong.got ∷ before
  pub why : AnsweredWrong device plan wrong.op wrong.got wrong.expected before l ⊎ Unawaited device plan wrong.op wrong.expected before l

abbrev pub PlanFits : ℕ → Plan → Option Refusal → Standing → ℕ → List Moment → Type 0
PlanFits device plan None standing sent l = StandsAt plan standing sent (answers device l)
PlanFits device plan (Some wrong) standing sent l = WentWrong device plan wrong l

-- the number of the operation sent last
abbrev pub LastFits : ℕ → Plan → Attempt → List Moment → Type 0
LastFits device plan a l = a.wrong ≡ None → a.last ≡ last_of 0 plan a.sent (reverse (answers device l))

-- ---- all of it: an answer is still to come only where none was wrong

pub record SessionFits (device : ℕ) (plan : Plan) (a : Attempt) (l : List Moment) : Type 0 where
  pub conn : ConnFits device a.conn a.flight a.sent l
  pub sent : length (services device l) ≡ a.sent
  pub stands : PlanFits device plan a.wrong a.standing a.sent l
  pub last : LastFits device plan a l
  pub right : awaits a.conn ≡ true → a.wrong ≡ None
