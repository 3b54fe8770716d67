-- What the type of a hub keeps says how thorough it is in what it ends.
use Rattle.std.proofs.Common.{ℕ, List, [], ◌∷◌, length, refl}
use Rattle.line_model.specs.declared.group.GroupTurn.{GroupTurn}
use Rattle.line_model.specs.declared.log.LogEntry.{LogEntry}
use Rattle.line_model.specs.Record.{Placed, entries, placed, counted}
use Rattle.line_model.specs.LinkStory.{Story, Untold, Recorded, Full}
use Rattle.line_model.specs.Log.{Job}
use Rattle.line_model.specs.Ends.{BeginsUndecided}
use Rattle.tunnel_link.specs.declared.known.Known.{Known}
use Rattle.tunnel_link.specs.Rights.{IsKept, KeepsRecord}
use Rattle.hub_core.specs.Discipline.{EachSo, Asks, TellsAndAsks}
use Rattle.hub_core.specs.Promises.{TellsIn}
use Rattle.hub_core.specs.Thorough.{IsThorough, IsThoroughOver}

each_begins : (jobs : List Job) (turns : List GroupTurn) (log : List LogEntry) (places : List Placed) → EachSo (Asks jobs turns) log places → BeginsUndecided jobs log places
each_begins jobs turns log [] h = tt
each_begins jobs turns log (p ∷ older) h = (h.0.begins, each_begins jobs turns log older h.1)

thorough_of : (jobs : List Job) (turns : List GroupTurn) (log : List LogEntry) (k : Known) (n : ℕ) (places : List Placed) → TellsAndAsks jobs turns log n places → IsKept k (entries places) → IsThorough jobs places log
thorough_of jobs turns log k n places told kept = record { ends = told.rests; begins = each_begins jobs turns log places told.asks; parts = kept.right.parts }

pub thorough_over : (jobs : List Job) (turns : List GroupTurn) (log : List LogEntry) (story : Story) (k : Known) → TellsIn jobs turns log story → KeepsRecord k story → IsThoroughOver jobs story log
thorough_over jobs turns log Untold k tells kept = tt
thorough_over jobs turns log (Recorded clock r) k tells kept = thorough_of jobs turns log k (length r) (counted r) (tells (counted r) refl) (kept (counted r) refl)
thorough_over jobs turns log (Full start events) k tells kept = thorough_of jobs turns log k (length events) (placed start events) (tells (placed start events) refl) (kept (placed start events) refl)
