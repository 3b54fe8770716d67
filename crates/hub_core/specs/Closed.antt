-- That the closing of a run is over, by its log and record. It began with the last entry of the log. Since then the client listened long enough and, where
-- it still had a channel, asked to end it and waited long enough, or until the channel was lost, as by the response; and no longer than it should. Of a
-- channel that was lost the gateway was told.
use Rattle.std.specs.Prelude.{◌≡◌, true, List, None}
use Rattle.line_model.specs.declared.log.LogEntry.{LogEntry}
use Rattle.line_model.specs.Record.{Placed, entries}
use Rattle.line_model.specs.LinkStory.{newest_time}
use Rattle.line_model.specs.ClientView.{channel}
use Rattle.line_model.specs.Closing.{closing, is_over, WaitsRightly}
use Rattle.line_model.specs.Leaves.{up_to_last, since_last, parting_of}

-- each entry since then came while it was to wait
abbrev pub WaitsSince : List LogEntry → List Placed → Type 0
WaitsSince log places = WaitsRightly (newest_time (entries (up_to_last log places))) (entries (up_to_last log places)) (entries (since_last log places))

pub record HasClosed (log : List LogEntry) (places : List Placed) : Type 0 where
  pub over : is_over (channel (entries places)) (closing (newest_time (entries (up_to_last log places))) (entries (since_last log places))) (newest_time (entries places)) ≡ true
  pub in_time : WaitsSince log places
  pub parted : parting_of (entries places) ≡ None
