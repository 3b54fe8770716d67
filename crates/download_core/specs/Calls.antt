-- What a downloader knows after it was told a confirmation, a frame of the device, or that the channel was lost.
use Rattle.std.specs.Prelude.{ℕ, Bool, List, Option, Some, None}
use Rattle.knx_model.specs.declared.log.Sign.TheVariants as sign
use Rattle.knx_model.specs.declared.connection.ClientConfirmed.{ClientConfirmed}
use Rattle.knx_model.specs.declared.connection.ClientConfirmed.TheVariants as told
use Rattle.knx_model.specs.declared.connection.ClientTook.{ClientTook}
use Rattle.knx_model.specs.declared.connection.ClientTook.TheVariants as heard
use Rattle.knx_model.specs.declared.connection.TransportFrame.{TransportFrame}
use Rattle.knx_model.specs.Connection.{frame_in}
use Rattle.knx_model.specs.ClientConnection.{ClientEnd, client_confirmed, after_confirmed, client_took, client_after, client_deadline}
use Rattle.download_core.specs.declared.flight.Flight.{Flight}
use Rattle.download_core.specs.declared.flight.Flight.TheVariants.{Nothing, Frame, Reply}
use Rattle.download_core.specs.declared.outcome.Outcome.TheVariants.{Failed}
use Rattle.download_core.specs.Attempt.{Attempt, Phase, Resting, Running, Closing, Leaving, Ended, DownloaderState, with_reply, answered, comes_to}

-- ---- a confirmation: of what is in flight

abbrev pub landed : Attempt → ClientEnd → Attempt
landed a conn = record a { conn = conn; flight = Nothing }

-- that of T_Connect with error ends the attempt
abbrev pub connected : Attempt → ClientConfirmed → ClientEnd → Phase
connected a told.Up conn = Running (landed a conn)
connected a told.NoCon conn = Ended (Failed sign.NoCon)
connected a told.Timed conn = Running (landed a conn)

abbrev pub attempt_confirmed : Attempt → Flight → Bool → ℕ → Phase
attempt_confirmed a Nothing error now = Running a
attempt_confirmed a Frame error now = connected a (client_confirmed a.conn error) (after_confirmed a.conn error now)
attempt_confirmed a Reply error now = Running (landed a a.conn)

abbrev pub phase_confirmed : Phase → Bool → ℕ → Phase
phase_confirmed Resting error now = Resting
phase_confirmed (Running a) error now = attempt_confirmed a a.flight error now
phase_confirmed (Closing flight outcome) error now = Closing Nothing outcome
phase_confirmed (Leaving outcome) error now = Ended outcome
phase_confirmed (Ended outcome) error now = Ended outcome

abbrev pub in_phase : DownloaderState → Phase → DownloaderState
in_phase s phase = record s { phase = phase }

abbrev pub confirmed : DownloaderState → Bool → ℕ → DownloaderState
confirmed s error now = in_phase s (phase_confirmed s.phase error now)

-- ---- a frame of the device

abbrev pub owing : Attempt → ClientEnd → List ℕ → Attempt
owing a conn reply = record a { conn = conn; owed = with_reply a.owed reply }

-- a T_Disconnect of the device ends the attempt; after a wrong T_ACK the client's own is to be put
abbrev pub attempt_heard : Attempt → ClientEnd → ClientTook → Phase
attempt_heard a conn heard.Dropped = Running (record a { conn = conn })
attempt_heard a conn heard.Acked = Running (record a { conn = conn })
attempt_heard a conn (heard.Answer apdu ack) = Running (owing (answered a apdu) conn ack)
attempt_heard a conn (heard.Again ack) = Running (owing a conn ack)
attempt_heard a conn (heard.Nak nak) = Running (owing a conn nak)
attempt_heard a conn (heard.Closed None) = Ended (comes_to a sign.Closed)
attempt_heard a conn (heard.Closed (Some disconnect)) = Closing a.flight (comes_to a sign.Closed)

abbrev pub phase_heard : Phase → TransportFrame → ℕ → Phase
phase_heard Resting frame now = Resting
phase_heard (Running a) frame now = attempt_heard a (client_after a.conn now (client_took a.conn frame)) (client_took a.conn frame)
phase_heard (Closing flight outcome) frame now = Closing flight outcome
phase_heard (Leaving outcome) frame now = Leaving outcome
phase_heard (Ended outcome) frame now = Ended outcome

abbrev pub taken : DownloaderState → List ℕ → ℕ → DownloaderState
taken s tpdu now = in_phase s (phase_heard s.phase (frame_in tpdu) now)

-- ---- the loss of the channel: an attempt that was done or refused keeps its result

abbrev pub phase_lost : Phase → Phase
phase_lost Resting = Resting
phase_lost (Running a) = Ended (comes_to a sign.TunnelLost)
phase_lost (Closing flight outcome) = Ended outcome
phase_lost (Leaving outcome) = Ended outcome
phase_lost (Ended outcome) = Ended outcome

abbrev pub lost : DownloaderState → DownloaderState
lost s = in_phase s (phase_lost s.phase)

-- ---- the time: nothing is settled by it alone, since a frame that is taken late still counts until T_Disconnect is put

-- the nearest time at which a wait of the connection has passed
abbrev pub phase_deadline : Phase → Option ℕ
phase_deadline Resting = None
phase_deadline (Running a) = client_deadline a.conn
phase_deadline (Closing flight outcome) = None
phase_deadline (Leaving outcome) = None
phase_deadline (Ended outcome) = None
