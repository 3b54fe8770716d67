-- When a worker's turn waits, by record and log: exactly where nothing that came waits for it, its job's end isn't to be told, and it has nothing to
-- send or there is no place. And when the next group telegram is held back: exactly where it stands after the jobs and one is unfinished.
use Rattle.std.specs.Prelude.{◌≡◌, ◌↔◌, ℕ, ◌+◌, ◌-◌, Bool, true, List, Some}
use Rattle.line_model.specs.declared.group.GroupTurn.{GroupTurn}
use Rattle.line_model.specs.Record.{Placed, entries}
use Rattle.line_model.specs.ClientView.{channel}
use Rattle.line_model.specs.Moments.{moments}
use Rattle.line_model.specs.Log.{Job, JobUnfinished, turn_of}
use Rattle.line_model.specs.Asks.{HasPlace}
use Rattle.line_model.specs.Waiting.{TurnWaits}
use Rattle.hub_work.specs.declared.answers.Turned.TheVariants as answer
use Rattle.hub_work.specs.declared.crew.Held.{Held}
use Rattle.hub_work.specs.declared.work.Work.{Work}
use Rattle.hub_work.specs.declared.work.turn.Turn.{Turn}
use Rattle.hub_work.specs.declared.work.turn.Turn.TheVariants.{Did}
use Rattle.hub_work.specs.Books.{AreJobsOf, held_at}
use Rattle.hub_work.specs.Fits.{Fits}
use Rattle.hub_work.specs.Works.{KeepsBooks}

-- of a worker that holds this, of which so much waits for it, where it is told rightly whether there is a place
abbrev pub WaitsFor : ℕ → ℕ → Bool → Work → Held → ℕ → Turn → Type 0
WaitsFor now at has_place w held came did =
    (jobs : List Job) (places : List Placed) → KeepsBooks at w → Fits jobs w now at (moments places) → (has_place ≡ true) ↔ HasPlace (channel (entries places))
    → (did ≡ Did answer.Wait) ↔ TurnWaits jobs w.telegrams.turns w.journal.entries places at now held.job came

abbrev pub WaitsExactly : ℕ → ℕ → Bool → ℕ → Work → Turn → Type 0
WaitsExactly now at has_place worker w did = (held : Held) → Some held ≡ held_at w.crew (worker - 1) → WaitsFor now at has_place w held held.came did

-- whether it is held back
abbrev pub HoldsBack : Work → Bool → Type 0
HoldsBack w held =
    (jobs : List Job) (at : ℕ) (turn : GroupTurn) → KeepsBooks at w → AreJobsOf w.reservation.devices jobs → turn_of w.telegrams.turns (w.telegrams.told + 1) ≡ Some turn
    → (held ≡ true) ↔ ((turn.after ≡ true) × JobUnfinished jobs w.journal.entries)
