-- What the calls on the link did, one after another, to its story and to what the client knows.
use Rattle.std.specs.Prelude.{◌≡◌, ℕ, ◌⊎◌, Bool, true, false, List, Option, Some, None, Result, Ok, Err, IfOk}
use Rattle.line_model.specs.declared.fault.HubFault.{HubFault}
use Rattle.knx_model.specs.declared.frames.ip.IpFrame.TheVariants.{ConnectRequest}
use Rattle.knx_model.specs.KnxNetIp.{Written}
use Rattle.line_model.specs.Record.{Item, Put, Renewed, Got, Quiet, is_poll}
use Rattle.line_model.specs.LinkStory.{Story, IsTime, Sends, SendsOrNot, Renews, RenewsOrNot, Polls, PollsNothing}
use Rattle.tunnel_link.specs.declared.came.Answer.{Answer}
use Rattle.tunnel_link.specs.declared.came.Came.{Came}
use Rattle.tunnel_link.specs.declared.came.What.TheVariants as came
use Rattle.tunnel_link.specs.declared.known.Known.{Known}
use Rattle.tunnel_link.specs.Kept.{with_connect, after_got, got_answer, lapsed, lapse_answer, only}
use Rattle.tunnel_link.specs.Rights.{IsntRefusal, IsOfLink}

-- the link failed
pub record Fails (k : Known) (fault : HubFault) (new : Known) : Type 0 where
  pub known : new ≡ record k { fault = Some fault }
  pub by_link : IsntRefusal fault
  pub of_link : IsOfLink fault

-- ---- a sending

abbrev pub SendsSo : {X : Type 0} → Result X HubFault → List ℕ → Known → Known → Story → Story → Type 0
SendsSo (Ok x) octets k new before after = (new ≡ k) × Sends octets before after
SendsSo (Err fault) octets k new before after = Fails k fault new × SendsOrNot octets before after

-- ---- a new endpoint, and the connect request there

pub record Connecting {X : Type 0} (result : Result X HubFault) (k new : Known) (before after : Story) : Type 0 where
  pub between : Story
  pub renews : Renews before between
  pub now : ℕ
  pub time : IsTime now between
  pub sends : SendsSo result (Written ConnectRequest) (with_connect k now) new between after

-- the new endpoint couldn't be taken
pub record Unrenewed {X : Type 0} (result : Result X HubFault) (k new : Known) (before after : Story) : Type 0 where
  pub fault : HubFault
  pub answer : result ≡ Err fault
  pub fails : Fails k fault new
  pub renews : RenewsOrNot before after

abbrev pub ConnectsSo : {X : Type 0} → Result X HubFault → Known → Known → Story → Story → Type 0
ConnectsSo result k new before after = Connecting result k new before after ⊎ Unrenewed result k new before after

-- ---- a poll

abbrev pub after_item : Known → Item → ℕ → Known
after_item k (Got octets) now = after_got k octets now
after_item k Quiet now = lapsed k now
after_item k (Put octets) now = k
after_item k Renewed now = k

abbrev pub item_answer : Known → Item → ℕ → Answer
item_answer k (Got octets) now = got_answer k octets now
item_answer k Quiet now = lapse_answer came.Quiet k now
item_answer k (Put octets) now = only came.Quiet
item_answer k Renewed now = only came.Quiet

pub record Polled (answer : Answer) (wait : ℕ) (k new : Known) (before after : Story) : Type 0 where
  pub what : Item
  pub poll : is_poll what ≡ true
  pub now : ℕ
  pub polls : Polls what wait now before after
  pub time : IsTime now after
  pub known : new ≡ after_item k what now
  pub is : answer ≡ item_answer k what now

abbrev pub PollsSo : Result Answer HubFault → ℕ → Known → Known → Story → Story → Type 0
PollsSo (Ok answer) wait k new before after = Polled answer wait k new before after
PollsSo (Err fault) wait k new before after = Fails k fault new × PollsNothing wait before after

-- ---- the answer is sent, where there is one; a client that has ended then tells why

abbrev pub Stands : {X : Type 0} → Result X HubFault → Known → Type 0
Stands (Ok x) k = k.fault ≡ None
Stands (Err fault) k = k.fault ≡ Some fault

pub record Unsent {X : Type 0} (result : Result X HubFault) (k new : Known) (before after : Story) : Type 0 where
  pub known : new ≡ k
  pub story : after ≡ before
  pub stands : Stands result k

-- it was sent, or the link failed in it
pub record Sent {X : Type 0} (result : Result X HubFault) (octets : List ℕ) (k new : Known) (before after : Story) : Type 0 where
  pub known : new ≡ k
  pub story : Sends octets before after
  pub stands : Stands result k

pub record Failed {X : Type 0} (result : Result X HubFault) (octets : List ℕ) (k new : Known) (before after : Story) : Type 0 where
  pub fault : HubFault
  pub answer : result ≡ Err fault
  pub fails : Fails k fault new
  pub story : SendsOrNot octets before after

abbrev pub AnswersSo : {X : Type 0} → Result X HubFault → Option (List ℕ) → Known → Known → Story → Story → Type 0
AnswersSo result None k new before after = Unsent result k new before after
AnswersSo result (Some octets) k new before after = Sent result octets k new before after ⊎ Failed result octets k new before after

-- ---- a poll and its answer

abbrev pub is_there : Option (List ℕ) → Bool
is_there None = false
is_there (Some octets) = true

pub record Listening (result : Result Came HubFault) (wait : ℕ) (k new : Known) (before after : Story) : Type 0 where
  pub answer : Answer
  pub known : Known
  pub between : Story
  pub polled : Polled answer wait k known before between
  pub answers : AnswersSo result answer.sends known new between after
  pub gives : IfOk result (λ (came : Came). came ≡ record { what = answer.what; loss = answer.loss; sent = is_there answer.sends })

-- the link failed in the poll
pub record Unpolled (result : Result Came HubFault) (wait : ℕ) (k new : Known) (before after : Story) : Type 0 where
  pub fault : HubFault
  pub answer : result ≡ Err fault
  pub fails : Fails k fault new
  pub nothing : PollsNothing wait before after

abbrev pub ListensSo : Result Came HubFault → ℕ → Known → Known → Story → Story → Type 0
ListensSo result wait k new before after = Listening result wait k new before after ⊎ Unpolled result wait k new before after
