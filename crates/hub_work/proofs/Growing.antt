-- What entries that come later leave of the old ones: the moments up to a place, and what was told.
use Rattle.std.proofs.Common.{◌≡◌, ℕ, suc, ◌<◌, ◌≤◌, List, [], ◌∷◌, ◌++◌, length, true, Option, Some, None, refl, sym, ◌∙◌, ap, subst, arith}
use Rattle.std.specs.Prelude.{nat_lt}
use Rattle.std.specs.List.{AllByRecursion}
use Rattle.line_model.specs.declared.group.GroupTurn.{GroupTurn}
use Rattle.line_model.specs.declared.log.LogEntry.{LogEntry}
use Rattle.line_model.specs.declared.log.LogWhat.{LogWhat}
use Rattle.line_model.specs.declared.log.LogWhat.TheVariants.{Took, Done, Failed, Refused, Sent, Lost}
use Rattle.line_model.specs.Record.{Item, Entry, Placed, placed_if, placed, counted, item_at}
use Rattle.line_model.specs.World.{World, Event, now, replay}
use Rattle.line_model.specs.Moments.{moments, between}
use Rattle.line_model.specs.Log.{Job, JobState, Untaken, Held, Over, job_of, turn_of, state_of, log_before, IsLog}
use Rattle.line_model.specs.Told.{ToldTruly, IsTrue, OfJob, OfTurn, session_since, WentThrough, IsRefused, PutOnce, IsConfirmed, IsLoss}
use Rattle.line_model.specs.Signs.{SignsHold}
use Rattle.line_model.proofs.Moments.{not_yet}

-- ---- places

abbrev pub AreAbove : ℕ → List Placed → Type 0
AreAbove n places = AllByRecursion (λ (p : Placed). n < p.at) places

abbrev pub AreUpto : ℕ → List Placed → Type 0
AreUpto n places = AllByRecursion (λ (p : Placed). p.at ≤ n) places

pub above_less : (n m : ℕ) (places : List Placed) → n ≤ m → AreAbove m places → AreAbove n places
above_less n m [] le h = tt
above_less n m (p ∷ places) le h = (let f = h.0 in omega (arith, le, f), above_less n m places le h.1)

pub upto_more : (n m : ℕ) (places : List Placed) → n ≤ m → AreUpto n places → AreUpto m places
upto_more n m [] le h = tt
upto_more n m (p ∷ places) le h = (let f = h.0 in omega (arith, le, f), upto_more n m places le h.1)

-- ---- of a link that tells something, each place is at most its number of events or of entries

pub placed_upto : (start : World) (events : List Event) → AreUpto (length events) (placed start events)
placed_upto start [] = tt
placed_upto start (e ∷ events) = by_item (item_at (replay start events) e) (upto_more (length events) (suc (length events)) (placed start events) (omega arith) (placed_upto start events)) where
  by_item : (o : Option Item) → AreUpto (suc (length events)) (placed start events) → AreUpto (suc (length events)) (placed_if (length (e ∷ events)) (now (replay start (e ∷ events))) o (placed start events))
  by_item None q = q
  by_item (Some what) q = (omega arith, q)

pub counted_upto : (r : List Entry) → AreUpto (length r) (counted r)
counted_upto [] = tt
counted_upto (x ∷ r) = (omega arith, upto_more (length r) (suc (length r)) (counted r) (omega arith) (counted_upto r))

-- ---- the moments up to a place stay

pub between_grown : (since upto : ℕ) (added old : List Placed) → AreAbove upto added → between since upto (moments (added ++ old)) ≡ between since upto (moments old)
between_grown since upto [] old h = refl
between_grown since upto (p ∷ added) old h = not_yet since upto _ (moments (added ++ old)) h.0 ∙ between_grown since upto added old h.1

-- ---- what was told stays true

pub of_job : (P Q : Job → ℕ → Type 0) (o : Option Job) (s : JobState) → ((j : Job) (since : ℕ) → P j since → Q j since) → OfJob P o s → OfJob Q o s
of_job P Q None s f h = absurd h
of_job P Q (Some j) Untaken f h = absurd h
of_job P Q (Some j) (Held worker since) f h = f j since h
of_job P Q (Some j) Over f h = absurd h

of_turn : (P Q : GroupTurn → Type 0) (o : Option GroupTurn) → ((t : GroupTurn) → P t → Q t) → OfTurn P o → OfTurn Q o
of_turn P Q None f h = absurd h
of_turn P Q (Some t) f h = f t h

module _ (jobs : List Job) (turns : List GroupTurn) (added old : List Placed) where
  session_grown : (device since at : ℕ) → AreAbove at added → session_since device since at old ≡ session_since device since at (added ++ old)
  session_grown device since at h = rw (between_grown since at added old h) refl

  moments_grown : (since at : ℕ) → AreAbove at added → between since at (moments old) ≡ between since at (moments (added ++ old))
  moments_grown since at h = sym (between_grown since at added old h)

  pub true_grown : (log : List LogEntry) (at : ℕ) (what : LogWhat) → AreAbove at added → IsTrue jobs turns old log at what → IsTrue jobs turns (added ++ old) log at what
  true_grown log at (Took job) h t = tt
  true_grown log at (Done job) h t = of_job _ _ (job_of jobs job) (state_of job log) (λ j since. subst (WentThrough j.device.raw j.plan) (session_grown j.device.raw since at h)) t
  true_grown log at (Failed job signs) h t = of_job _ _ (job_of jobs job) (state_of job log) (λ j since. subst (SignsHold j.device.raw signs) (moments_grown since at h)) t
  true_grown log at (Refused job op got expected) h t = of_job _ _ (job_of jobs job) (state_of job log) (λ j since. subst (IsRefused j.device.raw j.plan op got expected) (session_grown j.device.raw since at h)) t
  true_grown log at (Sent k) h t = of_turn _ _ (turn_of turns k) (λ turn. subst (PutOnce turn IsConfirmed) (moments_grown _ at h)) t
  true_grown log at (Lost k) h t = of_turn _ _ (turn_of turns k) (λ turn. subst (PutOnce turn IsLoss) (moments_grown _ at h)) t

  pub told_grown : (n : ℕ) (log : List LogEntry) → IsLog jobs turns n log → AreAbove n added → ToldTruly jobs turns old log → ToldTruly jobs turns (added ++ old) log
  told_grown n [] is h t = tt
  told_grown n (e ∷ log) is h t = (true_grown log e.at e.what (above_less e.at n added is.0.so_far h) t.0, told_grown n log is.1 h t.1)

-- ---- the entries of the log before a place

pub before_new : (jobs : List Job) (turns : List GroupTurn) (n at : ℕ) (log : List LogEntry) → IsLog jobs turns n log → n < at → log_before at log ≡ log
before_new jobs turns n at [] is lt = refl
before_new jobs turns n at (e ∷ log) is lt =
    let le : e.at ≤ n = is.0.so_far in
    let first : nat_lt e.at at ≡ true = grind (arith, le, lt) in
    rw first (ap (λ z. e ∷ z) (before_new jobs turns n at log is.1 lt))
