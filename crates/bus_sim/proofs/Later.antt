-- Neither time nor the number of events falls while a line goes on.
use Rattle.std.proofs.Common.{◌≡◌, ℕ, suc, ◌+◌, ◌≤◌, List, ◌∷◌, length, take, refl, sym, subst, arith}
use Rattle.line_model.specs.declared.outside.link.Polled.{Polled}
use Rattle.line_model.specs.declared.outside.link.Polled.TheVariants as answer
use Rattle.line_model.specs.LinkStory.{Story, Untold, Recorded, Full, GoesOn, Same, More, Polls, PollsFull}
use Rattle.line_model.specs.Polled.{PollsAs}
use Rattle.line_model.specs.Record.{Item, Got, Quiet}
use Rattle.line_model.specs.World.{World, Event, Pass, now, replay, step}
use Rattle.bus_sim.proofs.Grows.{timeless, passes}

-- ---- one event

as_late : (a b : ℕ) → b ≡ a → a ≤ b
as_late a b e = omega (arith, e)

later_by : (a b ms : ℕ) → b ≡ a + ms → a ≤ b
later_by a b ms e = omega (arith, e)

one_later : (w : World) (e : Event) → now w ≤ now (step w e)
one_later w (Pass ms) = later_by (now w) (now (step w (Pass ms))) ms (passes w ms)
one_later w e = as_late (now w) (now (step w e)) (timeless w e refl)

-- ---- a story

abbrev pub time_of : Story → ℕ
time_of Untold = 0
time_of (Recorded clock r) = 0
time_of (Full start events) = now (replay start events)

abbrev pub place_of : Story → ℕ
place_of Untold = 0
place_of (Recorded clock r) = 0
place_of (Full start events) = length events

pub record IsLater (before after : Story) : Type 0 where
  pub time : time_of before ≤ time_of after
  pub events : place_of before ≤ place_of after

longer : (a b c : ℕ) → a ≤ b → b ≤ c → a ≤ c
longer a b c h k = omega (arith, h, k)

one_more : (a b : ℕ) → a ≤ b → a ≤ suc b
one_more a b h = omega (arith, h)

pub same_later : (s : Story) → IsLater s s
same_later s = record { time = as_late (time_of s) (time_of s) refl; events = as_late (place_of s) (place_of s) refl }

pub adds_later : (before : Story) (start : World) (e : Event) (events : List Event) → IsLater before (Full start events) → IsLater before (Full start (e ∷ events))
adds_later before start e events h = record {
  time = longer (time_of before) (now (replay start events)) (now (replay start (e ∷ events))) h.time (one_later (replay start events) e);
  events = one_more (place_of before) (length events) h.events;
}

pub goes_later : (start : World) (before events : List Event) → GoesOn start before events → IsLater (Full start before) (Full start events)
goes_later start before events Same = same_later (Full start before)
goes_later start before events (More {events = rest} e foreign may g) = adds_later (Full start before) start e rest (goes_later start before rest g)

full_later : (what : Item) (wait : ℕ) (start : World) (before after : List Event) → PollsFull what wait start before after → IsLater (Full start before) (Full start after)
full_later what wait start before after p =
    let P : List Event → Type 0 = λ es. IsLater (Full start before) (Full start es) in
    subst P (sym p.all) (adds_later (Full start before) start p.last p.events (goes_later start before p.events p.foreign))

-- ---- a poll of a link that tells its events

polls_later : (what : Item) (wait clock : ℕ) (before : Story) (start : World) (events : List Event) → Polls what wait clock before (Full start events) → IsLater before (Full start events)
polls_later what wait clock before start events h =
    let P : Story → Type 0 = λ s. IsLater s (Full start events) in
    subst P (sym h.1) (full_later what wait start h.0 events h.2)

pub polled_later : (what : Polled) (into : List ℕ) (wait clock : ℕ) (before : Story) (start : World) (events : List Event) → PollsAs what into wait clock before (Full start events) → IsLater before (Full start events)
polled_later (answer.Got n) into wait clock before start events h = polls_later (Got (take n into)) wait clock before start events h.1
polled_later answer.Quiet into wait clock before start events h = polls_later Quiet wait clock before start events h
