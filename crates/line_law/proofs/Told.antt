-- Where a log tells done: which job was held, and since when; and the moments up to there.
use Rattle.std.proofs.Common.{◌≡◌, ℕ, suc, ◌<◌, ◌≤◌, List, [], ◌∷◌, ◌++◌, length, Bool, true, false, ◌&&◌, cond, Option, Some, None, refl, sym, ◌∙◌, ap, subst, arith}
use Rattle.std.specs.Prelude.{nat_lt, nat_le, replicate}
use Rattle.std.proofs.lemmas.List.{length-replicate}
use Rattle.knx_model.specs.declared.device.FrameSupport.{FrameSupport}
use Rattle.knx_model.specs.declared.loading.LoadState.TheVariants.{Unloaded}
use Rattle.knx_model.specs.declared.loading.LoadableObject.{LoadableObject}
use Rattle.knx_model.specs.declared.loading.LoadableObject.TheVariants.{AddressTable, AssociationTable, GroupObjects, Application}
use Rattle.knx_model.specs.Device.{NonVolatile, HasCapacities, capacity, runs, answer_in}
use Rattle.knx_model.specs.GoodPlan.{WholeRun, AtEnd}
use Rattle.knx_model.specs.Loading.{Loadable, capacity_of}
use Rattle.knx_model.specs.Plans.{Over as Ended}
use Rattle.line_model.specs.declared.group.GroupTurn.{GroupTurn}
use Rattle.line_model.specs.declared.log.LogEntry.{LogEntry}
use Rattle.line_model.specs.Headline.{IsGoodJob}
use Rattle.line_model.specs.Log.{Job, Held, log_before, takes_it, ends_it, state_after, state_of, latest, IsLog}
use Rattle.line_model.specs.Moments.{Moment, moments, between}
use Rattle.line_model.specs.OldStoppedOrNew.{first_events}
use Rattle.line_model.specs.Record.{Item, Placed, placed_if, placed, item_at}
use Rattle.line_model.specs.Told.{ToldTruly, IsTrue}
use Rattle.line_model.specs.World as line
use Rattle.line_model.specs.World.{World, Event, now}
use Rattle.line_model.proofs.Moments.{not_yet}
use Rattle.line_law.proofs.Logs.{IsTo, TakesIt, EndsIt, Else, is_to, took_state, ended_state, after_other, before_in, AreUpto, after, moments_upto, between_after}

-- ---- the job was held before the moment

pub held_then : (k n worker since : ℕ) (log : List LogEntry) → state_of k log ≡ Held worker since → since ≤ n → state_of k (log_before (suc n) log) ≡ Held worker since
held_then k n worker since [] h le = h
held_then k n worker since (e ∷ log) h le = by_entry (is_to k e) (held_then k n worker since log) where
  in_time : since ≡ e.at → nat_lt e.at (suc n) ≡ true
  in_time q = grind (arith, q, le)

  by_test : (b : Bool) → nat_lt e.at (suc n) ≡ b → takes_it k e.what ≡ false → ends_it k e.what ≡ false → state_of k (log_before (suc n) log) ≡ Held worker since → state_of k (log_before (suc n) (e ∷ log)) ≡ Held worker since
  by_test true q t d f = ap (state_of k) (before_in (suc n) e log true q) ∙ after_other k e _ t d ∙ f
  by_test false q t d f = ap (state_of k) (before_in (suc n) e log false q) ∙ f

  by_entry : IsTo k e → (state_of k log ≡ Held worker since → since ≤ n → state_of k (log_before (suc n) log) ≡ Held worker since) → state_of k (log_before (suc n) (e ∷ log)) ≡ Held worker since
  by_entry (TakesIt t) f =
      let at : since ≡ e.at = took_state k e _ worker since t h in
      let was : Held e.worker e.at ≡ Held worker since = sym (let y : state_after k e (state_of k log) ≡ Held e.worker e.at = rw t refl in y) ∙ h in
      ap (state_of k) (before_in (suc n) e log true (in_time at)) ∙ (let y : state_after k e (state_of k (log_before (suc n) log)) ≡ Held e.worker e.at = rw t refl in y) ∙ was
  by_entry (EndsIt t d) f = absurd (ended_state k e _ worker since t d h)
  by_entry (Else t d) f = by_test (nat_lt e.at (suc n)) refl t d (f (sym (after_other k e _ t d) ∙ h) le)

-- ---- the entries before one

pub form_at : (jobs : List Job) (turns : List GroupTurn) (count : ℕ) (newer rest : List LogEntry) → IsLog jobs turns count (newer ++ rest) → IsLog jobs turns count rest
form_at jobs turns count [] rest h = h
form_at jobs turns count (x ∷ newer) rest h = form_at jobs turns count newer rest h.1

pub true_at : (jobs : List Job) (turns : List GroupTurn) (places : List Placed) (newer older : List LogEntry) (e : LogEntry) → ToldTruly jobs turns places (newer ++ e ∷ older) → IsTrue jobs turns places older e.at e.what
true_at jobs turns places [] older e h = h.0
true_at jobs turns places (x ∷ newer) older e h = true_at jobs turns places newer older e h.1

least_at : (jobs : List Job) (turns : List GroupTurn) (count : ℕ) (newer older : List LogEntry) (e : LogEntry) → IsLog jobs turns count (newer ++ e ∷ older) → e.at ≤ latest (newer ++ e ∷ older)
least_at jobs turns count [] older e h = omega arith
least_at jobs turns count (x ∷ newer) older e h = (let f = least_at jobs turns count newer older e h.1 in let g = h.0.later in omega (arith, f, g))

-- those before the moment of an entry are older
pub before_at : (jobs : List Job) (turns : List GroupTurn) (count : ℕ) (newer older : List LogEntry) (e : LogEntry) → IsLog jobs turns count (newer ++ e ∷ older) → log_before e.at (newer ++ e ∷ older) ≡ log_before e.at older
before_at jobs turns count [] older e h = before_in e.at e older false (grind arith)
before_at jobs turns count (x ∷ newer) older e h =
    let le : e.at ≤ latest (newer ++ e ∷ older) = least_at jobs turns count newer older e h.1 in
    let f = h.0.later in
    before_in e.at x (newer ++ e ∷ older) false (grind (arith, le, f)) ∙ before_at jobs turns count newer older e h.1

-- ---- the moments up to a place

pub none_between : (since upto : ℕ) (l : List Moment) → upto ≤ since → between since upto l ≡ []
none_between since upto [] h = refl
none_between since upto (m ∷ l) h = by_test (nat_lt since m.at && nat_le m.at upto) (outside (nat_lt since m.at) (nat_le m.at upto) refl refl) (none_between since upto l h) where
  outside : (b c : Bool) → nat_lt since m.at ≡ b → nat_le m.at upto ≡ c → (b && c) ≡ false
  outside true true p q = absurd (let x : m.at ≤ upto = grind (arith, q) in let y : since < m.at = grind (arith, p) in omega (arith, x, y, h))
  outside true false p q = refl
  outside false c p q = refl

  by_test : (b : Bool) → b ≡ false → between since upto l ≡ [] → ◌≡◌ {A = List Moment} (cond b (m ∷ between since upto l) (between since upto l)) []
  by_test true e q = absurd (cc)
  by_test false e q = q

upto_least : (n k : ℕ) (l : List Moment) → n ≤ k → AreUpto n l → AreUpto k l
upto_least n k [] le h = tt
upto_least n k (m ∷ l) le h = (let f = h.0 in omega (arith, le, f), upto_least n k l le h.1)

pub between_first : (since k : ℕ) (start : World) (events : List Event) → between since k (moments (placed start events)) ≡ after since (moments (placed start (first_events k events)))
between_first since k start [] = refl
between_first since k start (e ∷ events) = by_length (nat_le (length (e ∷ events)) k) refl (between_first since k start events) where
  later_item : (o : Option Item) → k < suc (length events) → between since k (moments (placed_if (length (e ∷ events)) (now (line.replay start (e ∷ events))) o (placed start events))) ≡ between since k (moments (placed start events))
  later_item None lt = refl
  later_item (Some what) lt = not_yet since k _ (moments (placed start events)) lt

  by_length : (b : Bool) → nat_le (length (e ∷ events)) k ≡ b → between since k (moments (placed start events)) ≡ after since (moments (placed start (first_events k events)))
      → between since k (moments (placed start (e ∷ events))) ≡ after since (moments (placed start (cond {A = List Event} b (e ∷ events) (first_events k events))))
  by_length true q f = between_after since k (moments (placed start (e ∷ events))) (upto_least (length (e ∷ events)) k (moments (placed start (e ∷ events))) (grind (arith, q)) (moments_upto start (e ∷ events)))
  by_length false q f = later_item (item_at (line.replay start events) e) (grind (arith, q)) ∙ f

-- ---- the first so many events

pub first_full : (k : ℕ) (events : List Event) → k ≤ length events → length (first_events k events) ≡ k
first_full k [] le = omega (arith, le)
first_full k (e ∷ events) le = by_length (nat_le (length (e ∷ events)) k) refl (first_full k events) where
  by_length : (b : Bool) → nat_le (length (e ∷ events)) k ≡ b → (k ≤ length events → length (first_events k events) ≡ k) → length (cond {A = List Event} b (e ∷ events) (first_events k events)) ≡ k
  by_length true q f = (let x : suc (length events) ≤ k = grind (arith, q) in omega (arith, x, le))
  by_length false q f = f (let x : k < suc (length events) = grind (arith, q) in omega (arith, x))

pub first_first : (j k : ℕ) (events : List Event) → j ≤ k → first_events j (first_events k events) ≡ first_events j events
first_first j k [] le = refl
first_first j k (e ∷ events) le = by_length (nat_le (length (e ∷ events)) k) refl (first_first j k events le) where
  by_length : (b : Bool) → nat_le (length (e ∷ events)) k ≡ b → first_events j (first_events k events) ≡ first_events j events → first_events j (cond {A = List Event} b (e ∷ events) (first_events k events)) ≡ first_events j (e ∷ events)
  by_length true q f = refl
  by_length false q f = f ∙ (let x : nat_le (length (e ∷ events)) j ≡ false = grind (arith, q, le) in sym (ap (λ b. cond {A = List Event} b (e ∷ events) (first_events j events)) x))

-- ---- a plan that is over from the beginning is no good job's

unfoldable pub empty_object : LoadableObject → Loadable
empty_object o = record { state = Unloaded; len = 0; memory = replicate (capacity o) 0 }

abbrev pub empty_device : NonVolatile
empty_device = record { address_table = empty_object AddressTable; association_table = empty_object AssociationTable; group_objects = empty_object GroupObjects; application = empty_object Application }

pub unloaded : runs empty_device ≡ None
unfolding empty_object
unloaded = refl

empty_capacity : (o : LoadableObject) → capacity_of (empty_object o) ≡ capacity o
unfolding empty_object
empty_capacity o = length-replicate {A = ℕ} (capacity o) 0

pub has_memories : HasCapacities empty_device
has_memories = record { addr = empty_capacity AddressTable; assoc = empty_capacity AssociationTable; objs = empty_capacity GroupObjects; params = empty_capacity Application }

pub not_over : (job : Job) (frames : FrameSupport) → IsGoodJob job → job.plan ≡ Ended → ⊥
not_over job frames good e =
    let r : WholeRun (answer_in frames) job.plan empty_device empty_device = subst (λ z. WholeRun (answer_in frames) z empty_device empty_device) (sym e) (AtEnd empty_device) in
    by_load job.loads refl r
  where
    by_load : (b : Bool) → job.loads ≡ b → WholeRun (answer_in frames) job.plan empty_device empty_device → ⊥
    by_load true l r = let q : None ≡ Some job.image = sym unloaded ∙ (good.load l).whole_runs frames empty_device empty_device r in cc
    by_load false l r = let q : None ≡ Some job.image = sym unloaded ∙ (good.check l).tells frames empty_device empty_device has_memories r in cc
