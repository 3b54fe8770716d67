-- How a run closes, by the record since then (this project's own): after the last job and group telegram the client listens until 1,000 ms in
-- turn were quiet or 64 datagrams came, those that are dropped among them. Then it asks to end its channel and waits for the response at most
-- 10,000 ms or 64 datagrams. From the beginning on it sends no connect request. Where it has no channel after the listening it sends nothing,
-- and the closing is over; so it is where the channel is lost while it waits.
use Rattle.std.specs.Prelude.{◌≡◌, ℕ, suc, ◌<◌, Bool, true, false, not, ◌&&◌, ◌||◌, nat_le, is_some, List, [], ◌∷◌, ◌++◌, if◌then◌else◌}
use Rattle.knx_model.specs.Connection.{has_passed}
use Rattle.line_model.specs.Reading.{is_connect_request, disconnect_request_in}
use Rattle.line_model.specs.Record.{Entry, put_in, is_got, is_poll, is_renewal}
use Rattle.line_model.specs.LinkStory.{newest_time}
use Rattle.line_model.specs.ChannelLost.{answer_wait}
use Rattle.line_model.specs.ClientView.{ClientChannel, Open, channel}

-- ---- waits, in milliseconds, and a number of datagrams

abbrev pub listening_wait : ℕ
listening_wait = 1000

abbrev pub most_datagrams : ℕ
most_datagrams = 64

-- ---- how far it is, by the entries since it began, the newest first

pub data Closing : Type 0 where
  Listening : ℕ → ℕ → Closing  -- nothing was got since this time; so many datagrams came
  Leaving : ℕ → ℕ → Closing  -- it asked to end the channel at this time; so many datagrams came since

abbrev pub asks_to_end : Entry → Bool
asks_to_end x = is_some (disconnect_request_in (put_in x.what))

abbrev pub goes_on : Entry → Closing → Closing
goes_on x (Listening since n) = if is_got x.what then Listening x.now (suc n) else Listening since n
goes_on x (Leaving since n) = if is_got x.what then Leaving since (suc n) else Leaving since n

abbrev pub after_entry : Entry → Closing → Closing
after_entry x s = if asks_to_end x then Leaving x.now 0 else goes_on x s

abbrev pub closing : ℕ → List Entry → Closing
closing began [] = Listening began 0
closing began (x ∷ l) = after_entry x (closing began l)

-- ---- when it has waited enough, and when it is over

abbrev pub came : Closing → ℕ
came (Listening since n) = n
came (Leaving since n) = n

abbrev pub has_waited : Closing → ℕ → Bool
has_waited (Listening since n) now = has_passed listening_wait since now || nat_le most_datagrams n
has_waited (Leaving since n) now = has_passed answer_wait since now || nat_le most_datagrams n

abbrev pub is_open : ClientChannel → Bool
is_open (Open c l) = true
is_open _ = false

abbrev pub is_over : ClientChannel → Closing → ℕ → Bool
is_over ch (Listening since n) now = has_waited (Listening since n) now && not (is_open ch)
is_over ch (Leaving since n) now = has_waited (Leaving since n) now || not (is_open ch)

-- ---- what is sent meanwhile

abbrev pub is_listening : Closing → Bool
is_listening (Listening since n) = true
is_listening (Leaving since n) = false

-- no connect request is sent, no new endpoint is taken, and the open channel is asked to end once, after the listening
pub record ClosesSo (r : List Entry) (s : Closing) (x : Entry) : Type 0 where
  pub connects_not : is_connect_request (put_in x.what) ≡ false
  pub renews_not : is_renewal x.what ≡ false
  pub ends : asks_to_end x ≡ true → is_open (channel r) ≡ true → (is_listening s && has_waited s x.now) ≡ true

-- it waits no longer than it should: a poll takes time only where it hasn't waited enough yet, and of the datagrams that end a wait none more is got
pub record WaitsSo (r : List Entry) (s : Closing) (x : Entry) : Type 0 where
  pub polls : is_poll x.what ≡ true → newest_time r < x.now → has_waited s (newest_time r) ≡ false
  pub gets : is_got x.what ≡ true → came s < most_datagrams

-- each of the entries since the closing began, at this time, behind those before, by the record and how far it was then
abbrev pub EachSince : (List Entry → Closing → Entry → Type 0) → ℕ → List Entry → List Entry → Type 0
EachSince P began before [] = Unit {0}
EachSince P began before (x ∷ l) = P (l ++ before) (closing began l) x × EachSince P began before l

abbrev pub ClosesRightly : ℕ → List Entry → List Entry → Type 0
ClosesRightly began before l = EachSince ClosesSo began before l

abbrev pub WaitsRightly : ℕ → List Entry → List Entry → Type 0
WaitsRightly began before l = EachSince WaitsSo began before l
