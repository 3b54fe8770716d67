-- A run as a link: what a call of the run is to the story that the link tells.
use Rattle.std.proofs.Common.{◌≡◌, ℕ, ◌+◌, ◌≤◌, List, length, Result, Ok, Err, OnErr, IfOk, true, refl, ap, sym, subst, ◌∙◌, arith}
use Rattle.line_model.specs.declared.outside.link.Polled.{Polled}
use Rattle.line_model.specs.LinkStory.{Full, Adds, FailsFull, PollsNothing, Same}
use Rattle.line_model.specs.Polled.{PollsAs}
use Rattle.line_model.specs.Record.{Item}
use Rattle.line_model.specs.World.{World, Event, now, replay}
use Rattle.bus_sim.specs.declared.beginning.Beginning.{Beginning}
use Rattle.bus_sim.specs.declared.clients.Clients.{Clients}
use Rattle.bus_sim.specs.declared.clients.Clients.TheVariants.{One, Any}
use Rattle.bus_sim.specs.Begun.{start_of}
use Rattle.bus_sim.specs.Polls.{StopsRun, StopsWithin}
use Rattle.bus_sim.specs.RunNow.{RunNow, RunState, happened, seen, start, story, story_of, time, world}
use Rattle.bus_sim.proofs.Grows.{timeless, is_still}
use Rattle.bus_sim.proofs.Later.{IsLater, goes_later, polled_later}
use Rattle.bus_sim.proofs.Polling.{one_story}

-- neither its time nor the number of its events falls
pub record RunsLater (old new : RunNow) : Type 0 where
  pub time : time old ≤ time new
  pub events : length old.events ≤ length new.events

-- ---- one event of the client

pub added : (what : Item) (e : Event) (old new : RunNow) → old.begun.clients ≡ One → new ≡ happened old e → Adds what e (story old) (story new)
added what e old new one same =
    let told : Adds what e (Full (start old) old.events) (story (happened old e)) = subst (λ s. Adds what e (Full (start old) old.events) s) (sym (one_story (happened old e) one)) (old.events, refl, refl) in
    subst (λ r. Adds what e (story old) (story r)) (sym same) (subst (λ s. Adds what e s (story (happened old e))) (sym (one_story old one)) told)

-- which takes no time
pub added_still : (e : Event) (old new : RunNow) → is_still e ≡ true → new ≡ happened old e → time new ≡ time old
added_still e old new still same = ap time same ∙ timeless (world old) e still

pub stayed_still : (old new : RunNow) → new ≡ old → time new ≡ time old
stayed_still old new same = ap time same

-- ---- a poll

pub polled_from : {E : Type 0} (result : Result Polled E) (into : List ℕ) (wait : ℕ) (mid old new : RunNow) → mid ≡ old → IfOk result (λ polled. PollsAs polled into wait (time new) (story mid) (story new))
    → IfOk result (λ polled. PollsAs polled into wait (time new) (story old) (story new))
polled_from result into wait mid old new same h = subst (λ r. IfOk result (λ polled. PollsAs polled into wait (time new) (story r) (story new))) same h

pub polled_run_later : (what : Polled) (into : List ℕ) (wait : ℕ) (old new : RunNow) → old.begun.clients ≡ One → new.begun ≡ old.begun → PollsAs what into wait (time new) (story old) (story new) → RunsLater old new
polled_run_later what into wait old new one same h =
    let now_one : new.begun.clients ≡ One = ap (λ (b : Beginning). b.clients) same ∙ one in
    let to : PollsAs what into wait (time new) (story old) (Full (start new) new.events) = subst (λ s. PollsAs what into wait (time new) (story old) s) (one_story new now_one) h in
    let told : PollsAs what into wait (time new) (Full (start old) old.events) (Full (start new) new.events) = subst (λ s. PollsAs what into wait (time new) s (Full (start new) new.events)) (one_story old one) to in
    let later : IsLater (Full (start old) old.events) (Full (start new) new.events) = polled_later what into wait (time new) (Full (start old) old.events) (start new) new.events told in
    record { time = later.time; events = later.events }

-- ---- one that stops

nothing_more : (now wait : ℕ) → now ≤ now + wait
nothing_more now wait = omega arith

pub nothing_polled : (wait : ℕ) (old new : RunNow) → new ≡ old → StopsRun wait old new
nothing_polled wait old new same = subst (λ r. StopsRun wait old r) (sym same) (record { same = refl; goes = Same; in_time = nothing_more (time old) wait })

pub stopped_from : {E : Type 0} (result : Result Polled E) (wait : ℕ) (mid new : RunState) (old : RunNow) → seen mid ≡ old → OnErr result (StopsWithin wait mid new) → OnErr result (StopsRun wait old (seen new))
stopped_from (Ok polled) wait mid new old same h = tt
stopped_from (Err why) wait mid new old same h = subst (λ r. StopsRun wait r (seen new)) same (record { same = h.goes.same; goes = h.goes.goes; in_time = h.in_time })

nothing_of : (wait : ℕ) (clients : Clients) (start : World) (before after : List Event) → FailsFull wait start before after → PollsNothing wait (story_of clients start before) (story_of clients start after)
nothing_of wait One start before after h = (before, refl, h)
nothing_of wait Any start before after h = refl

told_stopped : (wait : ℕ) (old new : RunNow) → StopsRun wait old new → PollsNothing wait (story old) (story new)
told_stopped wait old new h =
    let in_time : now (replay (start old) new.events) ≤ time old + wait = subst (λ (b : Beginning). now (replay (start_of b) new.events) ≤ time old + wait) h.same h.in_time in
    subst (λ (b : Beginning). PollsNothing wait (story old) (story_of b.clients (start_of b) new.events)) (sym h.same)
    (nothing_of wait old.begun.clients (start old) old.events new.events (record { foreign = h.goes; in_time = in_time }))

pub still_nothing : (wait : ℕ) (old mid new : RunNow) → new ≡ mid → StopsRun wait old mid → PollsNothing wait (story old) (story new)
still_nothing wait old mid new same h = subst (λ r. PollsNothing wait (story old) (story r)) (sym same) (told_stopped wait old mid h)

pub stops_later : (wait : ℕ) (old new : RunNow) → StopsRun wait old new → RunsLater old new
stops_later wait old new h =
    let later : IsLater (Full (start old) old.events) (Full (start old) new.events) = goes_later (start old) old.events new.events h.goes in
    record { time = subst (λ (b : Beginning). time old ≤ now (replay (start_of b) new.events)) (sym h.same) later.time; events = later.events }

pub stopped_later : (wait : ℕ) (old mid new : RunNow) → new ≡ mid → StopsRun wait old mid → RunsLater old new
stopped_later wait old mid new same h = subst (λ r. RunsLater old r) (sym same) (stops_later wait old mid h)
