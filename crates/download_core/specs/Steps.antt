-- What a downloader does next, and what it knows once that is done. It puts nothing while a frame of it has no confirmation; then it puts
-- T_Disconnect where the attempt is silent; else what is owed to the device, then an operation that is due again, then the next one, and
-- T_Disconnect where the attempt is done or refused.
use Rattle.std.specs.Prelude.{ℕ, ◌+◌, Bool, true, false, List, [], ◌∷◌, drop, Option, Some, None, if◌then◌else◌}
use Rattle.knx_model.specs.declared.frames.tpdu.Tpdu.TheVariants as tpdu
use Rattle.knx_model.specs.declared.plan.Expect.TheVariants.{AckOnly}
use Rattle.knx_model.specs.declared.connection.ClientExpired.{ClientExpired}
use Rattle.knx_model.specs.declared.connection.ClientExpired.TheVariants as due
use Rattle.knx_model.specs.Apdu.{Written}
use Rattle.knx_model.specs.Connection.{disconnect}
use Rattle.knx_model.specs.ClientConnection.{ClientEnd, awaits_nothing, client_stayed, client_sent, after_send, client_expired, after_overdue}
use Rattle.knx_model.specs.Plans.{Plan, Over, Asks}
use Rattle.download_core.specs.declared.did.Did.{Did}
use Rattle.download_core.specs.declared.did.Did.TheVariants as did
use Rattle.download_core.specs.declared.flight.Flight.{Flight}
use Rattle.download_core.specs.declared.flight.Flight.TheVariants.{Nothing, Frame, Reply}
use Rattle.download_core.specs.declared.outcome.Refusal.{Refusal}
use Rattle.download_core.specs.declared.outcome.Outcome.{Outcome}
use Rattle.download_core.specs.declared.outcome.Outcome.TheVariants.{Failed, Done, Refused}
use Rattle.download_core.specs.declared.signs.Signs.{Signs}
use Rattle.download_core.specs.declared.signs.Signs.TheVariants.{Two}
use Rattle.knx_model.specs.declared.log.Sign.{Sign}
use Rattle.knx_model.specs.declared.log.Sign.TheVariants as sign
use Rattle.download_core.specs.Attempt.{Standing, Next, AnswerOf, Attempt, Phase, Resting, Running, Closing, Leaving, Ended, DownloaderState, first_attempt, with_sign}
use Rattle.download_core.specs.Calls.{in_phase}

abbrev pub connect : List ℕ
connect = Written tpdu.Connect

-- ---- what is to be done

abbrev pub sends : Option (List ℕ) → Did
sends None = did.Wait
sends (Some frame) = did.Send frame

-- the next operation, or T_Disconnect where all are over
abbrev pub standing_did : ClientEnd → Standing → Did
standing_did conn (Next Over) = did.Send disconnect
standing_did conn (Next (Asks place apdu expect next)) = sends (client_sent conn apdu)
standing_did conn (AnswerOf plan) = did.Wait

-- T_Disconnect where an answer was wrong
abbrev pub free_did : Attempt → Option Refusal → Did
free_did a None = standing_did a.conn a.standing
free_did a (Some wrong) = did.Send disconnect

-- the outstanding operation again, where it is due
abbrev pub due_did : ClientExpired → Did
due_did due.Nothing = did.Wait
due_did (due.Repeat frame) = did.Send frame
due_did (due.Silent ms) = did.Wait

abbrev pub paid_did : Attempt → List ℕ → ClientExpired → Did
paid_did a [] over = if awaits_nothing a.conn then free_did a a.wrong else due_did over
paid_did a (reply ∷ rest) over = did.Send (reply ∷ [])

-- T_Disconnect where a wait has passed that ends the attempt
abbrev pub timed_did : Attempt → ClientExpired → Did
timed_did a (due.Silent ms) = did.Send disconnect
timed_did a over = paid_did a a.owed over

abbrev pub attempt_did : Attempt → Flight → ℕ → Did
attempt_did a Nothing now = timed_did a (client_expired a.conn now)
attempt_did a _ now = did.Wait

abbrev pub closing_did : Flight → Did
closing_did Nothing = did.Send disconnect
closing_did _ = did.Wait

-- the third failed attempt ends the job
abbrev pub failed_did : Signs → Sign → Did
failed_did (Two first second) third = did.Failed (first ∷ second ∷ third ∷ [])
failed_did _ why = did.Send connect

abbrev pub ended_did : Signs → Outcome → Did
ended_did signs (Failed why) = failed_did signs why
ended_did signs Done = did.Done
ended_did signs (Refused wrong) = did.Refused wrong.op wrong.got wrong.expected

abbrev pub phase_did : Signs → Phase → ℕ → Did
phase_did signs Resting now = did.Send connect
phase_did signs (Running a) now = attempt_did a a.flight now
phase_did signs (Closing flight outcome) now = closing_did flight
phase_did signs (Leaving outcome) now = did.Wait
phase_did signs (Ended outcome) now = ended_did signs outcome

-- what a step answers at this time
abbrev pub next_did : DownloaderState → ℕ → Did
next_did s now = phase_did s.signs s.phase now

-- ---- after what was to be sent was put

abbrev pub stands_after : Plan → Standing
stands_after Over = Next Over
stands_after (Asks place apdu AckOnly next) = Next (next None)
stands_after (Asks place apdu expect next) = AnswerOf (Asks place apdu expect next)

-- the number of the plan's next operation, 0 where all are over
abbrev pub place_of : Plan → ℕ
place_of Over = 0
place_of (Asks place apdu expect next) = place

abbrev pub asked : Attempt → Plan → List ℕ → ℕ → Attempt
asked a plan apdu now = record a { conn = after_send a.conn apdu now; standing = stands_after plan; sent = a.sent + 1; last = place_of plan; flight = Frame }

abbrev pub standing_sent : Attempt → Standing → ℕ → Phase
standing_sent a (Next Over) now = Leaving Done
standing_sent a (Next (Asks place apdu expect next)) now = Running (asked a (Asks place apdu expect next) apdu now)
standing_sent a (AnswerOf plan) now = Running a

abbrev pub free_sent : Attempt → Option Refusal → ℕ → Phase
free_sent a None now = standing_sent a a.standing now
free_sent a (Some wrong) now = Leaving (Refused wrong)

abbrev pub due_sent : Attempt → ClientExpired → ℕ → Attempt
due_sent a due.Nothing now = a
due_sent a (due.Repeat frame) now = record a { conn = after_overdue a.conn now (due.Repeat frame); flight = Frame }
due_sent a (due.Silent ms) now = a

-- a T_ACK or T_NAK begins the wait for an answer anew
abbrev pub replied : Attempt → ℕ → Attempt
replied a now = record a { conn = client_stayed a.conn now; owed = drop 1 a.owed; flight = Reply }

abbrev pub paid_sent : Attempt → List ℕ → ClientExpired → ℕ → Phase
paid_sent a [] over now = if awaits_nothing a.conn then free_sent a a.wrong now else Running (due_sent a over now)
paid_sent a (reply ∷ rest) over now = Running (replied a now)

abbrev pub timed_sent : Attempt → ClientExpired → ℕ → Phase
timed_sent a (due.Silent ms) now = Leaving (Failed (sign.Silent ms))
timed_sent a over now = paid_sent a a.owed over now

abbrev pub attempt_sent : Attempt → ℕ → Phase
attempt_sent a now = timed_sent a (client_expired a.conn now) now

abbrev pub begins : DownloaderState → Signs → DownloaderState
begins s signs = record s { signs = signs; phase = Running (first_attempt s.device s.plan) }

abbrev pub ended_sent : DownloaderState → Outcome → DownloaderState
ended_sent s (Failed why) = begins s (with_sign s.signs why)
ended_sent s Done = s
ended_sent s (Refused wrong) = s

abbrev pub phase_sent : DownloaderState → Phase → ℕ → DownloaderState
phase_sent s Resting now = begins s s.signs
phase_sent s (Running a) now = in_phase s (attempt_sent a now)
phase_sent s (Closing flight outcome) now = in_phase s (Leaving outcome)
phase_sent s (Leaving outcome) now = s
phase_sent s (Ended outcome) now = ended_sent s outcome

abbrev pub sent : DownloaderState → ℕ → DownloaderState
sent s now = phase_sent s s.phase now

abbrev pub is_send : Did → Bool
is_send (did.Send tpdu) = true
is_send did.Wait = false
is_send did.Done = false
is_send (did.Failed signs) = false
is_send (did.Refused op got expected) = false

-- after a step at this time
abbrev pub stepped : DownloaderState → ℕ → DownloaderState
stepped s now = if is_send (next_did s now) then sent s now else s
