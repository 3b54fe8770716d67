-- What happens on its own in a poll is nothing to the record, or a quiet wait.
use Rattle.std.proofs.Common.{◌≡◌, ◌⊎◌, inl, inr, ℕ, ◌+◌, ◌<◌, List, [], true, Option, Some, None, refl, arith}
use Rattle.std.specs.Prelude.{nat_lt}
use Rattle.std.proofs.lemmas.Bool.Decides.{nat_tests}
use Rattle.knx_model.specs.declared.frames.cemi.Ldata.{Ldata}
use Rattle.line_model.specs.Record.{Quiet, item_of, item_at}
use Rattle.line_model.specs.World.{World, Event, AtGateway, Comes, IsLost, Send, From, Renew, Up, UpRefused, Down, LoseUp, LoseDown, Bus, BusTorn, BusWorn, BusAgain, DevSend, DevRepeat, DevClose, GwAgain, GwRepeat, GwClose, Cut, On, Pass, next_frame, waiting_at, repeat_at, carried, heard, now, step}
use Rattle.line_model.specs.LinkStory.{is_foreign}
use Rattle.tunnel_link.proofs.Clock.{next_now}

-- time may go on, by more than 0 ms, and then that is a quiet wait
abbrev pub Passes : World → Event → Type 0
Passes w e = (item_at w e ≡ None) ⊎ ((item_at w e ≡ Some Quiet) × (now w < now (step w e)))

carried_item : (w : World) (left_out : List ℕ) (o : Option Ldata) → item_of w.tunnel (carried w left_out o) ≡ None
carried_item w left_out None = refl
carried_item w left_out (Some frame) = refl

heard_item : (w : World) (g : AtGateway) (o : Option Ldata) → item_of w.tunnel (heard g o) ≡ None
heard_item w Comes None = refl
heard_item w Comes (Some frame) = refl
heard_item w IsLost o = refl

later : (a b ms : ℕ) → b ≡ a + ms → nat_lt 0 ms ≡ true → a < b
later a b ms h q = grind (arith, nat_tests)

pub passes : (w : World) (e : Event) → is_foreign e ≡ true → Passes w e
passes w (Send octets) h = absurd (cc)
passes w (From endpoint octets) h = absurd (cc)
passes w Renew h = absurd (cc)
passes w (Up age) h = inl refl
passes w (UpRefused age status) h = inl refl
passes w (Down age) h = absurd (cc)
passes w (LoseUp age) h = inl refl
passes w (LoseDown age) h = inl refl
passes w (Bus left_out) h = inl (carried_item w left_out (next_frame w))
passes w (BusTorn fresh octets) h = inl (carried_item w [] (next_frame w))
passes w (BusWorn octets) h = inl (carried_item w [] (next_frame w))
passes w (BusAgain device) h = inl refl
passes w (DevSend device gateway left_out) h = inl (heard_item w gateway (waiting_at w device))
passes w (DevRepeat device gateway) h = inl (heard_item w gateway (repeat_at w device))
passes w (DevClose device) h = inl refl
passes w GwAgain h = inl (heard_item w Comes w.echo)
passes w GwRepeat h = inl refl
passes w GwClose h = inl refl
passes w (Cut device) h = inl refl
passes w (On device) h = inl refl
passes w (Pass ms) h = inr (refl, later (now w) (now (step w (Pass ms))) ms (next_now _) h)
