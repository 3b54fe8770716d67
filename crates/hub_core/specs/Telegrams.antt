-- What the step of a group telegram tells in the log, the newest entry first.
use Rattle.std.specs.Prelude.{◌≡◌, ℕ, List}
use Rattle.line_model.specs.declared.log.LogEntry.{LogEntry}
use Rattle.line_model.specs.declared.log.LogWhat.TheVariants.{Sent, Lost}
use Rattle.hub_work.specs.Turns.{Adds}
use Rattle.hub_core.specs.declared.answers.GroupDid.{GroupDid}
use Rattle.hub_core.specs.declared.answers.GroupDid.TheVariants as did

-- telegram k, by the group thread, when there were so many events: it answers so exactly where it made this entry
abbrev pub GroupTells : ℕ → ℕ → GroupDid → List LogEntry → List LogEntry → Type 0
GroupTells at k did.Put old new = new ≡ old
GroupTells at k did.Wait old new = new ≡ old
GroupTells at k did.Sent old new = Adds at 0 (Sent k) old new
GroupTells at k did.Lost old new = Adds at 0 (Lost k) old new
