-- What the hub keeps to is a run that the lemmas are about.
use Rattle.std.proofs.Common.{List, subst}
use Rattle.line_model.specs.declared.group.GroupTurn.{GroupTurn}
use Rattle.line_model.specs.declared.log.LogEntry.{LogEntry}
use Rattle.line_law.specs.Safe.{KeepsSafe}
use Rattle.line_model.specs.Log.{Job}
use Rattle.line_model.specs.Record.{record_of}
use Rattle.line_model.specs.Renews.{RenewsRightly}
use Rattle.line_model.specs.Sendings.{SendsRightly}
use Rattle.line_model.specs.World.{World, Event}
use Rattle.line_model.proofs.Entries.{entries_placed}
use Rattle.tunnel_law.proofs.Line.{line_once}
use Rattle.line_law.proofs.RunsBefore.{IsRun}

pub is_run : (jobs : List Job) (turns : List GroupTurn) (start : World) (events : List Event) (log : List LogEntry) → KeepsSafe jobs turns start events log → IsRun jobs turns log start events
is_run jobs turns start events log k =
    let renews : RenewsRightly (record_of start events) = subst RenewsRightly (entries_placed start events) k.safe.renews in
    let sends : SendsRightly (record_of start events) = subst SendsRightly (entries_placed start events) k.safe.sends in
    record { begins = k.fresh; legal = k.legal; renews = renews; sends = sends; asks = k.safe.asks; once = line_once start events k.fresh k.legal renews sends }
