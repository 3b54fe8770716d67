-- How a poll goes on from turn to turn, and how it ends.
use Rattle.std.proofs.Common.{◌≡◌, ℕ, suc, ◌+◌, ◌-◌, ◌^◌, ◌<◌, ◌≤◌, ◌∷◌, length, take, Option, Some, None, Result, Ok, Err, OnErr, refl, ap, sym, subst, ◌∙◌, arith}
use Rattle.std.specs.Prelude.{slice_get}
use Rattle.std.proofs.lemmas.List.{take_all}
use Rattle.line_model.specs.Fresh.{Settled}
use Rattle.line_model.specs.Legal.{MayHappen}
use Rattle.line_model.specs.LinkStory.{Full, GoesOn, Polls, PollsFull}
use Rattle.line_model.specs.Network.{Sent, OfSent}
use Rattle.line_model.specs.Record.{Item, Got, Quiet, got}
use Rattle.line_model.specs.Tunnel.{Commissions}
use Rattle.line_model.specs.World.{World, Event, Down, Pass, now, replay}
use Rattle.bus_sim.specs.declared.beginning.Beginning.{Beginning}
use Rattle.bus_sim.specs.declared.clients.Clients.TheVariants.{One}
use Rattle.tunnel_sim.specs.declared.gateway.Letter.{Letter}
use Rattle.bus_sim.specs.Begun.{mode_of, start_of}
use Rattle.bus_sim.specs.Polls.{EndedSo, GoesOnFrom, StopsWithin}
use Rattle.bus_sim.specs.RunNow.{RunNow, RunState, mode, seen, start, story, story_of, time, world as world_of}
use Rattle.bus_sim.specs.Turns.{Gets, Happens, Once, Passes, PassesQuietly, Twice}
use Rattle.bus_sim.specs.Went.{Went, world}
use Rattle.bus_sim.proofs.Grows.{timeless, passes}
use Rattle.bus_sim.proofs.Turning.{goes_more, goes_past, happens_at_once}

pub OnErrAny : {X E : Type 0} (result : Result X E) (P : Type 0) → P → OnErr result P
OnErrAny (Ok x) P p = tt
OnErrAny (Err e) P p = p

-- one event more
pub one_more : (n m : ℕ) → n < 2 ^ 63 → m ≡ suc n → 2 ^ 63 - m < 2 ^ 63 - n
one_more n m few e = omega (arith, few, e)

pub smaller : (old new : RunState) (e : Event) → length old.events < 2 ^ 63 → Went old e new → 2 ^ 63 - length new.events < 2 ^ 63 - length old.events
smaller old new e few went = one_more (length old.events) (length new.events) few (ap (λ (r : RunNow). length r.events) went)

two_more : (n m : ℕ) → n < 2 ^ 63 → m ≡ suc (suc n) → 2 ^ 63 - m < 2 ^ 63 - n
two_more n m few e = omega (arith, few, e)

pub happens_smaller : (old new : RunState) → length old.events < 2 ^ 63 → Happens old new → 2 ^ 63 - length new.events < 2 ^ 63 - length old.events
happens_smaller old new few (Once h) = smaller old new h.event few h.went
happens_smaller old new few (Twice mid h k) = two_more (length old.events) (length new.events) few (ap (λ (r : RunNow). length r.events) k.went ∙ ap (λ (r : RunNow). suc (length r.events)) h.went)

-- ---- it goes on

went_on : (a b left c wait : ℕ) → a + left ≡ c + wait → b ≡ a → b + left ≡ c + wait
went_on a b left c wait h e = omega (arith, h, e)

past_on : (a b left ms c wait : ℕ) → a + left ≡ c + wait → b ≡ a + ms → ms ≤ left → b + (left - ms) ≡ c + wait
past_on a b left ms c wait h e le = omega (arith, h, e, le)

pub goes_on : (old mid new : RunState) (left wait : ℕ) → old.begun.clients ≡ One → GoesOnFrom old mid × (now (world mid) + left ≡ now (world old) + wait) → Happens mid new → GoesOnFrom old new × (now (world new) + left ≡ now (world old) + wait)
goes_on old mid new left wait one before h = (goes_more old mid new one before.0 h, went_on (now (world mid)) (now (world new)) left (now (world old)) wait before.1 (happens_at_once mid new h))

passed : (mid new : RunState) (ms : ℕ) → Passes ms mid new → now (world new) ≡ now (world mid) + ms
passed mid new ms h = ap (λ (r : RunNow). now (world_of r)) h.went ∙ passes (world mid) ms

pub time_goes : (old mid new : RunState) (left ms wait : ℕ) → old.begun.clients ≡ One → GoesOnFrom old mid × (now (world mid) + left ≡ now (world old) + wait) → 0 < ms → ms ≤ left → Passes ms mid new → GoesOnFrom old new × (now (world new) + (left - ms) ≡ now (world old) + wait)
time_goes old mid new left ms wait one before some le h = (goes_past old mid new ms one before.0 some h, past_on (now (world mid)) (now (world new)) left ms (now (world old)) wait before.1 (passed mid new ms h) le)

pub stays_so : (old mid new : RunState) → GoesOnFrom old mid → seen new ≡ seen mid → GoesOnFrom old new
stays_so old mid new before same = record {
  same = ap (λ (r : RunNow). r.begun) same ∙ before.same;
  goes = subst (λ l. GoesOn (start (seen old)) old.events l) (sym (ap (λ (r : RunNow). r.events) same)) before.goes;
}

in_wait : (a b left c wait : ℕ) → a + left ≡ c + wait → b ≡ a → b ≤ c + wait
in_wait a b left c wait h e = omega (arith, h, e)

no_later : (b c wait longer : ℕ) → b ≤ c + wait → wait ≤ longer → b ≤ c + longer
no_later b c wait longer h le = omega (arith, h, le)

-- it stops where nothing more has happened
pub stops : (old mid new : RunState) (left wait : ℕ) → GoesOnFrom old mid × (now (world mid) + left ≡ now (world old) + wait) → seen new ≡ seen mid → StopsWithin wait old new
stops old mid new left wait before same = record {
  goes = stays_so old mid new before.0 same;
  in_time = in_wait (now (world mid)) (now (world new)) left (now (world old)) wait before.1 (ap (λ (r : RunNow). now (world_of r)) same);
}

-- ---- it ends

got_so : (letter : Letter) (o : Option Sent) → length letter.octets ≤ 300 → OfSent (λ s. (s.endpoint ≡ letter.to) × (s.octets ≡ letter.octets)) o → got o ≡ Some (Got letter.octets)
got_so letter None short h = absurd h
got_so letter (Some s) short h = ap (λ l. Some (Got (take 512 l))) h.1 ∙ ap (λ l. Some (Got l)) (take_all 512 letter.octets (far (length letter.octets) short))
  where
    far : (n : ℕ) → n ≤ 300 → n ≤ 512
    far n few = omega (arith, few)

-- the run of one client tells its events
pub one_story : (r : RunNow) → r.begun.clients ≡ One → story r ≡ Full (start r) r.events
one_story r one = ap (λ c. story_of c (start r) r.events) one

-- with the start of the run as it is after
ended : (old mid new : RunState) (e : Event) (what : Item) (wait : ℕ) → old.begun.clients ≡ One → GoesOnFrom old mid → Went mid e new → PollsFull what wait (start (seen old)) old.events (e ∷ mid.events)
    → Polls what wait (time (seen new)) (story (seen old)) (story (seen new))
ended old mid new e what wait one before went h =
    let last : RunNow = record { begun = old.begun; events = e ∷ mid.events } in
    let told : Polls what wait (time last) (Full (start (seen old)) old.events) (Full (start last) (e ∷ mid.events)) = (old.events, refl, h) in
    let from : Polls what wait (time last) (story (seen old)) (Full (start last) (e ∷ mid.events)) = subst (λ s. Polls what wait (time last) s (Full (start last) (e ∷ mid.events))) (sym (one_story (seen old) one)) told in
    let to : Polls what wait (time last) (story (seen old)) (story last) = subst (λ s. Polls what wait (time last) (story (seen old)) s) (sym (one_story last one)) from in
    let same : seen new ≡ last = went ∙ ap (λ b. record { begun = b; events = e ∷ mid.events }) before.same in
    subst (λ (r : RunNow). Polls what wait (time r) (story (seen old)) (story r)) (sym same) to

-- what may happen in the run of one client
may_one : (old mid : RunState) (e : Event) → old.begun.clients ≡ One → mid.begun ≡ old.begun → MayHappen (mode (seen mid)) (world mid) e → MayHappen Commissions (replay (start (seen old)) mid.events) e
may_one old mid e one same may = subst (λ c. MayHappen (mode_of c) (replay (start_of old.begun) mid.events) e) one (subst (λ b. MayHappen (mode_of b.clients) (replay (start_of b) mid.events) e) same may)

pub ends_got : (old mid new : RunState) (letter : Letter) (left wait longer : ℕ) → old.begun.clients ≡ One → GoesOnFrom old mid × (now (world mid) + left ≡ now (world old) + wait) → Gets letter mid new → wait ≤ longer → EndedSo (Some letter.octets) longer old new
ends_got old mid new letter left wait longer one before h le =
    let sameworld : world mid ≡ replay (start (seen old)) mid.events = ap (λ b. replay (start_of b) mid.events) before.0.same in (
      h.short,
      ended old mid new (Down h.age) (Got letter.octets) longer one before.0 h.went (record {
        events = mid.events;
        foreign = before.0.goes;
        last = Down h.age;
        legal = may_one old mid (Down h.age) one before.0.same h.may;
        brings = subst (λ (w : World). got (slice_get w.tunnel.network.down h.age) ≡ Some (Got letter.octets)) sameworld (got_so letter (slice_get (world mid).tunnel.network.down h.age) h.short h.got);
        all = refl;
        ends = no_later (now (replay (start (seen old)) (Down h.age ∷ mid.events))) (now (world old)) wait longer
            (in_wait (now (world mid)) (now (replay (start (seen old)) (Down h.age ∷ mid.events))) left (now (world old)) wait before.1
            (timeless (replay (start (seen old)) mid.events) (Down h.age) refl ∙ sym (ap now sameworld))) le;
        settled = tt;
      }),
    )

-- the line that one client sees is settled
settled_one : (old mid new : RunState) (e : Event) → old.begun.clients ≡ One → mid.begun ≡ old.begun → Went mid e new → Settled (mode (seen mid)) (world new) → Settled Commissions (replay (start (seen old)) (e ∷ mid.events))
settled_one old mid new e one same went settled =
    let here : Settled (mode (seen mid)) (replay (start (seen mid)) (e ∷ mid.events)) = subst (λ (r : RunNow). Settled (mode (seen mid)) (world_of r)) went settled in
    subst (λ c. Settled (mode_of c) (replay (start_of old.begun) (e ∷ mid.events))) one (subst (λ (b : Beginning). Settled (mode_of b.clients) (replay (start_of b) (e ∷ mid.events))) same here)

pub ends_quiet : (old mid new : RunState) (left wait : ℕ) → old.begun.clients ≡ One → GoesOnFrom old mid × (now (world mid) + left ≡ now (world old) + wait) → PassesQuietly left mid new → EndedSo None wait old new
ends_quiet old mid new left wait one before h =
    let sameworld : world mid ≡ replay (start (seen old)) mid.events = ap (λ b. replay (start_of b) mid.events) before.0.same in
    ended old mid new (Pass left) Quiet wait one before.0 h.passes.went (record {
      events = mid.events;
      foreign = before.0.goes;
      last = Pass left;
      legal = may_one old mid (Pass left) one before.0.same h.passes.may;
      brings = refl;
      all = refl;
      ends = passes (replay (start (seen old)) mid.events) left ∙ sym (ap (λ w. now w + left) sameworld) ∙ before.1;
      settled = settled_one old mid new (Pass left) one before.0.same h.passes.went h.ends;
    })

-- ---- a run that has come to its end

pub over_at : (old mid new : RunState) (left wait : ℕ) → old.begun.clients ≡ One → GoesOnFrom old mid × (now (world mid) + left ≡ now (world old) + wait) → 0 < left → PassesQuietly left mid new
    → GoesOnFrom old new × (now (world new) + 0 ≡ now (world old) + wait)
over_at old mid new left wait one before some h =
    let goes : GoesOnFrom old new × (now (world new) + (left - left) ≡ now (world old) + wait) = time_goes old mid new left left wait one before some (as_many left) h.passes in
    (goes.0, let e = goes.1 in omega arith)
  where
    as_many : (n : ℕ) → n ≤ n
    as_many n = omega arith
