-- Events that ask nothing follow whichever plans there are.
use Rattle.std.proofs.Common.{List, [], ◌∷◌}
use Rattle.knx_model.specs.Plans.{Plan}
use Rattle.session_law.specs.World.{World as SessionWorld}
use Rattle.session_law.specs.Events as event
use Rattle.session_law.specs.Events.{Event as SessionEvent, replay}
use Rattle.load_law.specs.Download.{MayAsk, Follows, IsSilent, AsksNothing}

pub silent_asks : (IsJob : Plan → Type 0) (z : SessionWorld) (y : SessionEvent) → IsSilent y → MayAsk IsJob z y
silent_asks IsJob z event.Connects i = tt
silent_asks IsJob z (event.Asks apdu) i = absurd i
silent_asks IsJob z event.Waits i = tt
silent_asks IsJob z event.Replies i = tt
silent_asks IsJob z event.Leaves i = tt
silent_asks IsJob z event.Takes i = tt
silent_asks IsJob z event.Loses i = tt
silent_asks IsJob z (event.Joins j) i = tt
silent_asks IsJob z (event.Drops j) i = tt
silent_asks IsJob z (event.Bus outcome) i = tt
silent_asks IsJob z event.BusLost i = tt
silent_asks IsJob z event.BusAgain i = tt
silent_asks IsJob z (event.Group f) i = tt
silent_asks IsJob z event.Elsewhere i = tt
silent_asks IsJob z (event.DevSend g) i = tt
silent_asks IsJob z (event.DevRepeat g) i = tt
silent_asks IsJob z event.DevClose i = tt
silent_asks IsJob z event.GwAgain i = tt
silent_asks IsJob z event.Cut i = tt
silent_asks IsJob z event.On i = tt
silent_asks IsJob z (event.Pass ms) i = tt

pub silent_follows : (IsJob : Plan → Type 0) (z : SessionWorld) (y : List SessionEvent) → AsksNothing y → Follows IsJob z y
silent_follows IsJob z [] i = tt
silent_follows IsJob z (q ∷ y) i = (silent_asks IsJob (replay z y) q i.0, silent_follows IsJob z y i.1)
