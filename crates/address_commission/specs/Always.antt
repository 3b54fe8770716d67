-- What giving an address keeps wherever the link tells its record: the channel is kept as it should be.
use Rattle.std.specs.Prelude.{List}
use Rattle.line_model.specs.Leaves.{PartsRightly}
use Rattle.line_model.specs.Record.{Placed, entries}
use Rattle.line_model.specs.Renews.{AcknowledgesRightly, RenewsRightly}
use Rattle.line_model.specs.Sendings.{SendsRightly}
use Rattle.line_model.specs.Written.{AllWritten}

-- A new endpoint is taken only where the channel was lost or the last try failed; a request is sent only where none is unacknowledged, or again; each one
-- that came is acknowledged; and the gateway is told of each loss. All that is sent is written as the codecs write it.
pub record KeepsChannel (places : List Placed) : Type 0 where
  pub renews : RenewsRightly (entries places)
  pub sends : SendsRightly (entries places)
  pub writes : AllWritten (entries places)
  pub acknowledges : AcknowledgesRightly (entries places)
  pub parts : PartsRightly (entries places)
