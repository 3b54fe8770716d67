-- What a hub's answer to a poll means, by the link's record before the call and after it: that nothing came, that something moved, and that a
-- group telegram was heard.
use Rattle.std.specs.Prelude.{◌≡◌, ◌⊎◌, Bool, true, false, not, ◌&&◌, ◌||◌, List, [], ◌∷◌, ◌++◌}
use Rattle.std.specs.List.{list_all}
use Rattle.line_model.specs.declared.group.Indication.{Indication}
use Rattle.line_model.specs.Record.{Entry, is_got, is_poll}
use Rattle.line_model.specs.ClientView.{channel, indications}
use Rattle.line_model.specs.Dropped.{is_dropped}
use Rattle.line_model.specs.LinkStory.{newest_time}
use Rattle.line_model.specs.Renews.{is_left, is_late}

-- the entries of one call, the newest first
pub record Adds (before after added : List Entry) : Type 0 where
  pub all : after ≡ added ++ before

-- it sent nothing and took no new endpoint
abbrev pub sends_nothing : List Entry → Bool
sends_nothing added = list_all (λ (x : Entry). is_poll x.what) added

-- each datagram that it got was dropped
abbrev pub drops_all : List Entry → List Entry → Bool
drops_all before [] = true
drops_all before (x ∷ added) = (not (is_got x.what) || is_dropped (added ++ before) x) && drops_all before added

-- a deadline of the channel was reached when the call began; once the closing has begun no new endpoint is to be taken
abbrev pub was_due : Bool → List Entry → Bool
was_due closing before = is_late (channel before) (newest_time before) || (not closing && is_left (channel before))

-- only where the poll was quiet or what was got was dropped, and the call sent nothing and no deadline was reached
pub record IsNothing (closing : Bool) (before added : List Entry) : Type 0 where
  pub silent : sends_nothing added ≡ true
  pub got_nothing : drops_all before added ≡ true
  pub no_deadline : was_due closing before ≡ false

-- only where it got a datagram that wasn't dropped, or sent one, or a deadline was reached
abbrev pub IsMoved : Bool → List Entry → List Entry → Type 0
IsMoved closing before added = (sends_nothing added ≡ false) ⊎ ((drops_all before added ≡ false) ⊎ (was_due closing before ≡ true))

-- exactly where it took this group indication
abbrev pub HasHeard : List Entry → List Entry → Indication → Type 0
HasHeard before added heard = indications (added ++ before) ≡ heard ∷ indications before
