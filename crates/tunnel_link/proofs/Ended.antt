-- The event that ends a poll comes within its wait, and a quiet poll ends with it.
use Rattle.std.proofs.Common.{◌≡◌, ℕ, true}
use Rattle.line_model.specs.World.{Event, Send, From, Renew, Up, UpRefused, Down, LoseUp, LoseDown, Bus, BusTorn, BusWorn, BusAgain, DevSend, DevRepeat, DevClose, GwAgain, GwRepeat, GwClose, Cut, On, Pass}
use Rattle.line_model.specs.Record.{Item, Put, Renewed, Got, Quiet, is_poll}
use Rattle.line_model.specs.LinkStory.{EndsSo, EndsAt}

pub ends_full : (what : Item) (wait since until : ℕ) (e : Event) → is_poll what ≡ true → EndsSo what wait since until e → EndsAt what wait since until
ends_full (Put octets) wait since until e p h = absurd (cc)
ends_full Renewed wait since until e p h = absurd (cc)
ends_full (Got gotten) wait since until (Send octets) p h = absurd h
ends_full (Got gotten) wait since until (From endpoint octets) p h = absurd h
ends_full (Got gotten) wait since until Renew p h = absurd h
ends_full (Got gotten) wait since until (Up age) p h = absurd h
ends_full (Got gotten) wait since until (UpRefused age status) p h = absurd h
ends_full (Got gotten) wait since until (Down age) p h = h
ends_full (Got gotten) wait since until (LoseUp age) p h = absurd h
ends_full (Got gotten) wait since until (LoseDown age) p h = absurd h
ends_full (Got gotten) wait since until (Bus left_out) p h = absurd h
ends_full (Got gotten) wait since until (BusTorn fresh octets) p h = absurd h
ends_full (Got gotten) wait since until (BusWorn octets) p h = absurd h
ends_full (Got gotten) wait since until (BusAgain device) p h = absurd h
ends_full (Got gotten) wait since until (DevSend device gateway left_out) p h = absurd h
ends_full (Got gotten) wait since until (DevRepeat device gateway) p h = absurd h
ends_full (Got gotten) wait since until (DevClose device) p h = absurd h
ends_full (Got gotten) wait since until GwAgain p h = absurd h
ends_full (Got gotten) wait since until GwRepeat p h = absurd h
ends_full (Got gotten) wait since until GwClose p h = absurd h
ends_full (Got gotten) wait since until (Cut device) p h = absurd h
ends_full (Got gotten) wait since until (On device) p h = absurd h
ends_full (Got gotten) wait since until (Pass ms) p h = absurd h
ends_full Quiet wait since until (Send octets) p h = absurd h
ends_full Quiet wait since until (From endpoint octets) p h = absurd h
ends_full Quiet wait since until Renew p h = absurd h
ends_full Quiet wait since until (Up age) p h = absurd h
ends_full Quiet wait since until (UpRefused age status) p h = absurd h
ends_full Quiet wait since until (Down age) p h = absurd h
ends_full Quiet wait since until (LoseUp age) p h = absurd h
ends_full Quiet wait since until (LoseDown age) p h = absurd h
ends_full Quiet wait since until (Bus left_out) p h = absurd h
ends_full Quiet wait since until (BusTorn fresh octets) p h = absurd h
ends_full Quiet wait since until (BusWorn octets) p h = absurd h
ends_full Quiet wait since until (BusAgain device) p h = absurd h
ends_full Quiet wait since until (DevSend device gateway left_out) p h = absurd h
ends_full Quiet wait since until (DevRepeat device gateway) p h = absurd h
ends_full Quiet wait since until (DevClose device) p h = absurd h
ends_full Quiet wait since until GwAgain p h = absurd h
ends_full Quiet wait since until GwRepeat p h = absurd h
ends_full Quiet wait since until GwClose p h = absurd h
ends_full Quiet wait since until (Cut device) p h = absurd h
ends_full Quiet wait since until (On device) p h = absurd h
ends_full Quiet wait since until (Pass ms) p h = h
