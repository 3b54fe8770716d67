-- The downloader of a job knows what the line's view says of the attempts of its job: how many began, and of the one that runs the client's
-- end of its connection, what is left of its plan, what is owed to the device, and what was put and isn't confirmed. While it is to put
-- T_Disconnect it has come to its end in the line's view too.
use Rattle.std.specs.Prelude.{◌≡◌, ℕ, suc, Bool, true, false, is_some, List, [], ◌∷◌, map, Option, Some, None}
use Rattle.knx_model.specs.declared.connection.TransportFrame.{TransportFrame}
use Rattle.knx_model.specs.declared.connection.TransportFrame.TheVariants as frame
use Rattle.knx_model.specs.declared.plan.Expect.TheVariants.{AckOnly}
use Rattle.knx_model.specs.Connection.{frame_in}
use Rattle.knx_model.specs.ClientConnection.{ClientEnd, Asked, Up, Asking, Awaiting, Ended as NoConnection, IsClientEnd}
use Rattle.knx_model.specs.Plans.{Plan, Over, Asks}
use Rattle.knx_model.specs.GoodPlan.{IsSendable}
use Rattle.line_model.specs.Attempts as line
use Rattle.line_model.specs.Attempts.{Attempts, awaits}
use Rattle.download_core.specs.declared.flight.Flight.{Flight}
use Rattle.download_core.specs.declared.flight.Flight.TheVariants.{Nothing, Frame, Reply}
use Rattle.download_core.specs.declared.signs.Signs.{Signs}
use Rattle.download_core.specs.declared.signs.Signs.TheVariants.{Zero, One, Two}
use Rattle.download_core.specs.Attempt.{Standing, Next, AnswerOf, Attempt, Phase, Resting, Running, Closing, Leaving, Ended, DownloaderState}

-- how many attempts ended before the last one
abbrev pub earlier : Signs → ℕ
earlier Zero = 0
earlier (One first) = 1
earlier (Two first second) = 2

-- ---- what is in flight

-- the frame that a connection awaits the confirmation of
abbrev pub IsFrame : ClientEnd → Option TransportFrame → Type 0
IsFrame (Asked device) flying = flying ≡ Some frame.Connect
IsFrame (Up s) flying = (n : ℕ) × (apdu : List ℕ) × (flying ≡ Some (frame.Numbered n apdu))
IsFrame (Asking s q) flying = (n : ℕ) × (apdu : List ℕ) × (flying ≡ Some (frame.Numbered n apdu))
IsFrame (Awaiting s) flying = (n : ℕ) × (apdu : List ℕ) × (flying ≡ Some (frame.Numbered n apdu))
IsFrame NoConnection flying = (n : ℕ) × (apdu : List ℕ) × (flying ≡ Some (frame.Numbered n apdu))

pub data IsReply (flying : Option TransportFrame) : Type 0 where
  IsAck : (n : ℕ) → flying ≡ Some (frame.Ack n) → IsReply flying
  IsNak : (n : ℕ) → flying ≡ Some (frame.Nak n) → IsReply flying

abbrev pub IsFlight : Flight → ClientEnd → Option TransportFrame → Type 0
IsFlight Nothing conn flying = flying ≡ None
IsFlight Frame conn flying = IsFrame conn flying
IsFlight Reply conn flying = IsReply flying

-- ---- what is owed

abbrev pub one_octet : ℕ → List ℕ
one_octet x = x ∷ []

abbrev pub AreReplies : List ℕ → Type 0
AreReplies [] = Unit {0}
AreReplies (x ∷ xs) = IsReply (Some (frame_in (x ∷ []))) × AreReplies xs

-- ---- the plan

abbrev pub plan_of : Standing → Plan
plan_of (Next plan) = plan
plan_of (AnswerOf plan) = plan

abbrev pub HasAnswer : Plan → Type 0
HasAnswer Over = ⊥
HasAnswer (Asks place apdu AckOnly next) = ⊥
HasAnswer (Asks place apdu expect next) = Unit {0}

-- the plan awaits an answer exactly where the connection does
abbrev pub StandsWith : Bool → Standing → Type 0
StandsWith awaited (Next plan) = awaited ≡ false
StandsWith awaited (AnswerOf plan) = (awaited ≡ true) × HasAnswer plan

-- ---- the connection: its numbers have four bits, and what it would send again is numbered data

abbrev pub IsEnd : ClientEnd → Type 0
IsEnd (Asked device) = Unit {0}
IsEnd (Up s) = Unit {0}
IsEnd (Asking s q) = (n : ℕ) × (apdu : List ℕ) × (frame_in q.frame ≡ frame.Numbered n apdu)
IsEnd (Awaiting s) = Unit {0}
IsEnd NoConnection = Unit {0}

-- ---- an attempt that runs

pub record Knows (a : Attempt) (x : line.Attempt) : Type 0 where
  pub end : x.end ≡ a.conn
  pub owed : x.owed ≡ map one_octet a.owed
  pub replies : AreReplies a.owed
  pub flying : IsFlight a.flight a.conn x.flying
  pub closing : x.closing ≡ is_some a.wrong
  pub left : a.wrong ≡ None → x.left ≡ plan_of a.standing
  pub stands : a.wrong ≡ None → StandsWith (awaits a.conn) a.standing
  pub sendable : IsSendable (plan_of a.standing)
  pub numbers : IsClientEnd a.conn
  pub repeats : IsEnd a.conn

-- ---- an attempt that has come to its end: a wrong T_ACK closed its connection

pub record Closes (flight : Flight) (x : line.Attempt) : Type 0 where
  pub end : x.end ≡ NoConnection
  pub owes_nothing : x.owed ≡ []
  pub closing : x.closing ≡ true
  pub flying : IsFlight flight NoConnection x.flying

pub record Leaves (x : line.Attempt) : Type 0 where
  pub end : x.end ≡ NoConnection
  pub flying : x.flying ≡ Some frame.Disconnect

-- ---- the whole

abbrev pub OfLast : Signs → (line.Attempt → Type 0) → Attempts → Type 0
OfLast signs P t = (x : line.Attempt) × (t ≡ line.Running (suc (earlier signs)) x) × P x

abbrev pub FitsPhase : Signs → Phase → Attempts → Type 0
FitsPhase signs Resting t = (signs ≡ Zero) × (t ≡ line.Resting 0)
FitsPhase signs (Running a) t = OfLast signs (Knows a) t
FitsPhase signs (Closing flight outcome) t = OfLast signs (Closes flight) t
FitsPhase signs (Leaving outcome) t = OfLast signs Leaves t
FitsPhase signs (Ended outcome) t = t ≡ line.Resting (suc (earlier signs))

abbrev pub Fits : DownloaderState → Attempts → Type 0
Fits s t = FitsPhase s.signs s.phase t
