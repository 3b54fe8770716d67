-- What the promises of the line need of the client: all that it keeps to but promptness, and that it acknowledges requests. Whether a deadline of the channel
-- is acted on in time never makes a device run the wrong thing.
use Rattle.std.specs.Prelude.{ℕ, List, [], ◌∷◌, length}
use Rattle.std.specs.List.{AllByRecursion}
use Rattle.line_model.specs.declared.group.GroupTurn.{GroupTurn}
use Rattle.line_model.specs.declared.log.LogEntry.{LogEntry}
use Rattle.line_model.specs.Tunnel.{Commissions}
use Rattle.line_model.specs.World.{World, Event}
use Rattle.line_model.specs.Legal.{IsLegal}
use Rattle.line_model.specs.Fresh.{IsFresh}
use Rattle.line_model.specs.Record.{Placed, entries, placed}
use Rattle.line_model.specs.Log.{Job, log_before, IsLog, OneDownloaderPerDevice}
use Rattle.line_model.specs.Told.{ToldTruly}
use Rattle.line_model.specs.Renews.{RenewsRightly}
use Rattle.line_model.specs.Sendings.{SendsRightly}
use Rattle.line_model.specs.Asks.{IsRightDeed, moment_of}
use Rattle.line_model.specs.Headline.{IsGoodJob, IsRight}

-- what an entry puts may be put, by the entries before it and the log then
abbrev pub IsAsked : List Job → List GroupTurn → List LogEntry → List Placed → Placed → Type 0
IsAsked jobs turns log older p = IsRightDeed jobs turns log older (moment_of older p) (moment_of older p).what

abbrev pub EachAsked : List Job → List GroupTurn → List LogEntry → List Placed → Type 0
EachAsked jobs turns log [] = Unit {0}
EachAsked jobs turns log (p ∷ older) = IsAsked jobs turns (log_before p.at log) older p × EachAsked jobs turns log older

pub record IsSafe (jobs : List Job) (turns : List GroupTurn) (count : ℕ) (places : List Placed) (log : List LogEntry) : Type 0 where
  pub form : IsLog jobs turns count log
  pub alone : OneDownloaderPerDevice jobs log
  pub truly : ToldTruly jobs turns places log
  pub renews : RenewsRightly (entries places)
  pub sends : SendsRightly (entries places)
  pub asks : EachAsked jobs turns log places

pub record KeepsSafe (jobs : List Job) (turns : List GroupTurn) (start : World) (events : List Event) (log : List LogEntry) : Type 0 where
  pub fresh : IsFresh start
  pub legal : IsLegal Commissions start events
  pub safe : IsSafe jobs turns (length events) (placed start events) log

-- every interleaving is right where so much is kept
abbrev pub EverySafeInterleaving : Type 0
EverySafeInterleaving =
    (jobs : List Job) (turns : List GroupTurn) (start : World) (events : List Event) (log : List LogEntry)
    → AllByRecursion IsGoodJob jobs → KeepsSafe jobs turns start events log → IsRight jobs start events log
