-- The laws of a downloader, all together: it fits the record of a link, whatever that is, something of it is in flight only from a sending
-- on, and it tells an end exactly where the record shows one.
use Rattle.download_core.specs.Follows.{BeginsRightly, AsideFollows, ConfirmedFollows, OthersFollow, HeardFollows, LostFollows, SendsRightly, SentFollows, FlightsAreKnown}
use Rattle.download_core.specs.Tells.{EndsExactly}
use Rattle.download_core.specs.Turns.{LogsTruly, TurnWaitsExactly}

pub record Laws : Type 0 where
  pub begins : BeginsRightly
  pub aside : AsideFollows
  pub confirmation : ConfirmedFollows
  pub others : OthersFollow
  pub hearing : HeardFollows
  pub loss : LostFollows
  pub sends : SendsRightly
  pub sending : SentFollows
  pub flights : FlightsAreKnown
  pub logs : LogsTruly
  pub waits : TurnWaitsExactly
  pub ends : EndsExactly
