-- A run that serves at a port goes on, and the port is given what its clients get.
use Rattle.std.proofs.Common.{◌≡◌, ℕ, ◌+◌, ◌-◌, ◌≤◌, inl, inr, true, false, List, [], ◌∷◌, ◌++◌, Option, Some, None, refl, ap, sym, subst, ◌∙◌, arith}
use Rattle.std.specs.Prelude.{slice_get}
use Rattle.line_model.specs.Fresh.{Settled}
use Rattle.line_model.specs.LinkStory.{is_foreign}
use Rattle.line_model.specs.Network.{Sent, OfSent}
use Rattle.line_model.specs.Owed.{is_clients}
use Rattle.line_model.specs.PortStory.{PortItem, Gave, PortStory, Untold, Recorded, Adds, GivesOrNot}
use Rattle.line_model.specs.Tunnel as tunnel
use Rattle.line_model.specs.World.{World, Event, Send, From, Renew, Down, Pass, now, replay}
use Rattle.bus_sim.specs.declared.beginning.Beginning.{Beginning}
use Rattle.bus_sim.specs.declared.clients.Clients.TheVariants.{Any}
use Rattle.tunnel_sim.specs.declared.gateway.Letter.{Letter}
use Rattle.bus_sim.specs.Begun.{mode_of, start_of}
use Rattle.bus_sim.specs.RunNow.{RunNow, RunState, seen, start, world as world_of}
use Rattle.bus_sim.specs.Serving.{AddsAll, EndsSettled, GoesOn, Same, More, gave, given}
use Rattle.bus_sim.specs.Turned.{PlaysFor, PlaysOn, PlaysUngiven, StopsPlaying}
use Rattle.bus_sim.specs.Turns.{Gets, Happens, HappensOnce, Once, Passes, Twice}
use Rattle.bus_sim.specs.Went.{Went, world}
use Rattle.bus_sim.proofs.Grows.{passes, timeless}

-- ---- what the port tells

pub joined_so : {A : Type 0} (a b c : List A) → (a ++ b) ++ c ≡ a ++ (b ++ c)
joined_so [] b c = refl
joined_so (x ∷ a) b c = ap (λ l. x ∷ l) (joined_so a b c)

pub adds_none : (s : PortStory) → AddsAll [] s s
adds_none Untold = refl
adds_none (Recorded all) = (all, refl, refl)

pub adds_one : (item : PortItem) (s t : PortStory) → Adds item s t → AddsAll (item ∷ []) s t
adds_one item s Untold h = h
adds_one item s (Recorded all) h = h

pub adds_more : (a b : List PortItem) (s t u : PortStory) → AddsAll a s t → AddsAll b t u → AddsAll (b ++ a) s u
adds_more a b s t Untold h k = subst (AddsAll a s) k h
adds_more a b s t (Recorded all) h k =
    let first : AddsAll a s (Recorded k.0) = subst (AddsAll a s) k.1 h in
    (first.0, first.1, k.2 ∙ ap (λ l. b ++ l) first.2 ∙ sym (joined_so b a first.0))

-- ---- the line goes on

pub plays_same : (old new : RunState) (s : PortStory) → seen new ≡ seen old → PlaysOn old new s s
plays_same old new s same = record {
  same = ap (λ (r : RunNow). r.begun) same;
  added = [];
  told = adds_none s;
  goes = λ items. subst (λ l. GoesOn (start (seen old)) old.events items l items) (sym (ap (λ (r : RunNow). r.events) same)) Same;
}

-- one event more, of which the port has this
one_more : (old mid new : RunState) (s t : PortStory) (h : PlaysOn old mid s t) (e : Event) (more items : List PortItem) → is_clients e ≡ false → Went mid e new → given (world mid) e ≡ more
    → GoesOn (start (seen old)) old.events items new.events (more ++ (h.added ++ items))
one_more old mid new s t h e more items own went is =
    let here : given (replay (start (seen old)) mid.events) e ≡ more = ap (λ (b : Beginning). given (replay (start_of b) mid.events) e) (sym h.same) ∙ is in
    subst (λ l. GoesOn (start (seen old)) old.events items l (more ++ (h.added ++ items))) (sym (ap (λ (r : RunNow). r.events) went))
    (subst (λ l. GoesOn (start (seen old)) old.events items (e ∷ mid.events) (l ++ (h.added ++ items))) here (More e own (h.goes items)))

pub plays_event : (old mid new : RunState) (s t : PortStory) (e : Event) → PlaysOn old mid s t → Went mid e new → is_clients e ≡ false → given (world mid) e ≡ [] → PlaysOn old new s t
plays_event old mid new s t e h went own none = record {
  same = ap (λ (r : RunNow). r.begun) went ∙ h.same;
  added = h.added;
  told = h.told;
  goes = λ items. one_more old mid new s t h e [] items own went none;
}

gave_so : (letter : Letter) (o : Option Sent) → OfSent (λ s. (s.endpoint ≡ letter.to) × (s.octets ≡ letter.octets)) o → gave o ≡ Gave letter.to letter.octets ∷ []
gave_so letter None h = absurd h
gave_so letter (Some s) h = ap (λ to. Gave to s.octets ∷ []) h.0 ∙ ap (λ octets. Gave letter.to octets ∷ []) h.1

-- and the port is given it
pub plays_given : (old mid new : RunState) (s t u : PortStory) (letter : Letter) → PlaysOn old mid s t → Gets letter mid new → Adds (Gave letter.to letter.octets) t u → PlaysOn old new s u
plays_given old mid new s t u letter h gets adds = record {
  same = ap (λ (r : RunNow). r.begun) gets.went ∙ h.same;
  added = Gave letter.to letter.octets ∷ h.added;
  told = adds_more h.added (Gave letter.to letter.octets ∷ []) s t u h.told (adds_one (Gave letter.to letter.octets) t u adds);
  goes = λ items. one_more old mid new s t h (Down gets.age) (Gave letter.to letter.octets ∷ []) items refl gets.went (gave_so letter (slice_get (world mid).tunnel.network.down gets.age) gets.got);
}

-- or it isn't
pub plays_ungiven : (old mid new : RunState) (s t u : PortStory) (letter : Letter) → PlaysOn old mid s t → Gets letter mid new → u ≡ t → PlaysUngiven old new s u
plays_ungiven old mid new s t u letter h gets same = record {
  same = ap (λ (r : RunNow). r.begun) gets.went ∙ h.same;
  age = gets.age;
  events = mid.events;
  last = ap (λ (r : RunNow). r.events) gets.went;
  added = h.added;
  told = subst (AddsAll h.added s) (sym same) h.told;
  goes = h.goes;
}

-- nothing more happened
pub plays_still : (old mid new : RunState) (s t u : PortStory) → PlaysOn old mid s t → seen new ≡ seen mid → u ≡ t → PlaysOn old new s u
plays_still old mid new s t u h same told = record {
  same = ap (λ (r : RunNow). r.begun) same ∙ h.same;
  added = h.added;
  told = subst (AddsAll h.added s) (sym told) h.told;
  goes = λ items. subst (λ l. GoesOn (start (seen old)) old.events items l (h.added ++ items)) (sym (ap (λ (r : RunNow). r.events) same)) (h.goes items);
}

-- ---- what isn't a client's, and isn't got by one, gives the port nothing

foreign_own : (e : Event) → is_foreign e ≡ true → is_clients e ≡ false
foreign_own (Send octets) f = cc
foreign_own (From endpoint octets) f = cc
foreign_own Renew f = cc
foreign_own e f = refl

foreign_gives : (w : World) (e : Event) → is_foreign e ≡ true → given w e ≡ []
foreign_gives w (Down age) f = cc
foreign_gives w e f = refl

-- ---- for so long

-- it went on, and so many milliseconds are left
pub record PlaysUntil (left wait : ℕ) (old new : RunState) (before after : PortStory) : Type 0 where
  pub plays : PlaysOn old new before after
  pub time : now (world new) + left ≡ now (world old) + wait

as_before : (a b left c wait : ℕ) → a + left ≡ c + wait → b ≡ a → b + left ≡ c + wait
as_before a b left c wait h e = omega (arith, h, e)

less_left : (a b left ms c wait : ℕ) → a + left ≡ c + wait → b ≡ a + ms → ms ≤ left → b + (left - ms) ≡ c + wait
less_left a b left ms c wait h e le = omega (arith, h, e, le)

pub until_begins : (old : RunState) (wait : ℕ) (s : PortStory) → PlaysUntil wait wait old old s s
until_begins old wait s = record { plays = plays_same old old s refl; time = refl }

until_once : (old mid new : RunState) (left wait : ℕ) (s t : PortStory) → PlaysUntil left wait old mid s t → HappensOnce mid new → PlaysUntil left wait old new s t
until_once old mid new left wait s t h turn = record {
  plays = plays_event old mid new s t turn.event h.plays turn.went (foreign_own turn.event turn.foreign) (foreign_gives (world mid) turn.event turn.foreign);
  time = as_before (now (world mid)) (now (world new)) left (now (world old)) wait h.time turn.at_once;
}

pub until_happens : (old mid new : RunState) (left wait : ℕ) (s t : PortStory) → PlaysUntil left wait old mid s t → Happens mid new → PlaysUntil left wait old new s t
until_happens old mid new left wait s t h (Once turn) = until_once old mid new left wait s t h turn
until_happens old mid new left wait s t h (Twice between first second) = until_once old between new left wait s t (until_once old mid between left wait s t h first) second

passed : (mid new : RunState) (ms : ℕ) → Passes ms mid new → now (world new) ≡ now (world mid) + ms
passed mid new ms h = ap (λ (r : RunNow). now (world_of r)) h.went ∙ passes (world mid) ms

pub until_passes : (old mid new : RunState) (left ms wait : ℕ) (s t : PortStory) → PlaysUntil left wait old mid s t → ms ≤ left → Passes ms mid new → PlaysUntil (left - ms) wait old new s t
until_passes old mid new left ms wait s t h le turn = record {
  plays = plays_event old mid new s t (Pass ms) h.plays turn.went refl refl;
  time = less_left (now (world mid)) (now (world new)) left ms (now (world old)) wait h.time (passed mid new ms turn) le;
}

got_at_once : (mid new : RunState) (letter : Letter) → Gets letter mid new → now (world new) ≡ now (world mid)
got_at_once mid new letter h = ap (λ (r : RunNow). now (world_of r)) h.went ∙ timeless (world mid) (Down h.age) refl

pub until_given : (old mid new : RunState) (left wait : ℕ) (s t u : PortStory) (letter : Letter) (to : ℕ) (octets : List ℕ) → PlaysUntil left wait old mid s t → Gets letter mid new → to ≡ letter.to → octets ≡ letter.octets → Adds (Gave to octets) t u → PlaysUntil left wait old new s u
until_given old mid new left wait s t u letter to octets h gets same_to same_octets adds = record {
  plays = plays_given old mid new s t u letter h.plays gets (subst (λ k. Adds (Gave k letter.octets) t u) same_to (subst (λ l. Adds (Gave to l) t u) same_octets adds));
  time = as_before (now (world mid)) (now (world new)) left (now (world old)) wait h.time (got_at_once mid new letter gets);
}

pub until_ends : (old mid new : RunState) (left wait : ℕ) (s t : PortStory) → old.begun.clients ≡ Any → PlaysUntil left wait old mid s t → Passes left mid new → PlaysFor wait old new s t
until_ends old mid new left wait s t any h turn =
    let settled : Settled tunnel.Serves (replay (start (seen old)) mid.events) = subst (λ c. Settled (mode_of c) (replay (start_of old.begun) mid.events)) any
    (subst (λ (b : Beginning). Settled (mode_of b.clients) (replay (start_of b) mid.events)) h.plays.same turn.settled) in
    record {
      plays = plays_event old mid new s t (Pass left) h.plays turn.went refl refl;
      settled = subst (EndsSettled (start (seen old))) (sym (ap (λ (r : RunNow). r.events) turn.went)) settled;
      lasts = passed mid new left turn ∙ h.time;
    }

-- the port fails
pub gives_or_not : (old mid new : RunState) (left wait : ℕ) (s t u : PortStory) (letter : Letter) (to : ℕ) (octets : List ℕ) → PlaysUntil left wait old mid s t → Gets letter mid new → to ≡ letter.to → octets ≡ letter.octets → GivesOrNot to octets t u
    → StopsPlaying old new s u
gives_or_not old mid new left wait s t u letter to octets h gets same_to same_octets (inl adds) = inl (until_given old mid new left wait s t u letter to octets h gets same_to same_octets adds).plays
gives_or_not old mid new left wait s t u letter to octets h gets same_to same_octets (inr same) = inr (plays_ungiven old mid new s t u letter h.plays gets same)
