-- What a hub keeps of what its link tells is the discipline of the headline.
use Rattle.std.proofs.Common.{◌≡◌, ℕ, List, sym, subst}
use Rattle.line_model.specs.declared.group.GroupTurn.{GroupTurn}
use Rattle.line_model.specs.declared.log.LogEntry.{LogEntry}
use Rattle.line_model.specs.Record.{Entry, Placed, entries}
use Rattle.line_model.specs.Log.{Job, OneDownloaderPerDevice}
use Rattle.line_model.specs.Renews.{RenewsRightly, AcknowledgesRightly}
use Rattle.line_model.specs.Sendings.{SendsRightly}
use Rattle.line_model.specs.Written.{AllWritten}
use Rattle.line_model.specs.Headline.{IsDisciplined}
use Rattle.line_model.specs.LinkStory.{Clock}
use Rattle.hub_core.specs.Discipline.{EachSo, Hastens, TellsAndAsks}
use Rattle.hub_core.proofs.Telling.{each_right}

pub disciplined : (clock : Clock) (jobs : List Job) (turns : List GroupTurn) (count : ℕ) (places : List Placed) (log : List LogEntry) (r : List Entry) → entries places ≡ r → TellsAndAsks jobs turns log count places → EachSo (Hastens clock jobs turns) log places → OneDownloaderPerDevice jobs log
    → RenewsRightly r → SendsRightly r → AllWritten r → AcknowledgesRightly r → IsDisciplined jobs turns count places log
disciplined clock jobs turns count places log r e told hastens alone renews sends writes acknowledges = record {
  form = told.form;
  alone = alone;
  truly = told.truly;
  renews = subst RenewsRightly (sym e) renews;
  sends = subst SendsRightly (sym e) sends;
  writes = subst AllWritten (sym e) writes;
  asks = record { each = each_right clock jobs turns log places told.asks hastens; acknowledges = subst AcknowledgesRightly (sym e) acknowledges };
}
