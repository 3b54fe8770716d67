-- What was reported stays shown, and its place has been, however the link's story goes on.
use Rattle.std.proofs.Common.{◌≡◌, ℕ, ◌≤◌, List, [], ◌∷◌, ◌++◌, length, reverse, Option, Some, None, refl, sym, ap, subst, arith}
use Rattle.line_model.specs.declared.outside.watcher.JobProgress.{JobProgress}
use Rattle.line_model.specs.LinkStory.{Story, Untold, Recorded, Full, places_in}
use Rattle.line_model.specs.Log.{Job, job_of, state_of}
use Rattle.line_model.specs.Moments.{Moment, answers, course, session, stretches}
use Rattle.line_model.specs.Progress.{Reaches}
use Rattle.line_model.specs.Record.{Entry, Item, Placed, counted, item_at, placed, placed_if}
use Rattle.line_model.specs.Told.{last_stretch}
use Rattle.line_model.specs.Watched.{EachShown, Logged, Notice, Reported, ShowsProgress, entries_in}
use Rattle.line_model.specs.World.{Event, World, now, replay}
use Rattle.tunnel_link.specs.Adds.{place_of}
use Rattle.tunnel_link.specs.Goes.{GoesOn}
use Rattle.tunnel_link.specs.Rights.{WhereTold}
use Rattle.hub_work.proofs.Growing.{AreAbove, above_less, between_grown, of_job}
use Rattle.shared_hub.specs.Watchers.{EachUpto}

-- ---- what a story adds lies above the places that were

pub record Added (before after : ℕ) (old new : List Placed) : Type 0 where
  pub added : List Placed
  pub grown : new ≡ added ++ old
  pub above : AreAbove before added
  pub later : before ≤ after

counted_more : (more r : List Entry) → Added (length r) (length (more ++ r)) (counted r) (counted (more ++ r))
counted_more [] r = record { added = []; grown = refl; above = tt; later = omega arith }
counted_more (x ∷ more) r =
    let a : Added (length r) (length (more ++ r)) (counted r) (counted (more ++ r)) = counted_more more r in
    let le : length r ≤ length (more ++ r) = a.later in
    record { added = record { at = length (x ∷ more ++ r); what = x } ∷ a.added; grown = ap (λ (l : List Placed). record { at = length (x ∷ more ++ r); what = x } ∷ l) a.grown; above = (omega (arith, le), a.above); later = omega (arith, le) }

placed_more : (start : World) (more events : List Event) → Added (length events) (length (more ++ events)) (placed start events) (placed start (more ++ events))
placed_more start [] events = record { added = []; grown = refl; above = tt; later = omega arith }
placed_more start (e ∷ more) events = by_item (item_at (replay start (more ++ events)) e) (placed_more start more events) where
  by_item : (o : Option Item) → Added (length events) (length (more ++ events)) (placed start events) (placed start (more ++ events))
      → Added (length events) (length (e ∷ more ++ events)) (placed start events) (placed_if (length (e ∷ more ++ events)) (now (replay start (e ∷ more ++ events))) o (placed start (more ++ events)))
  by_item None a = let le : length events ≤ length (more ++ events) = a.later in record { added = a.added; grown = a.grown; above = a.above; later = omega (arith, le) }
  by_item (Some what) a =
      let le : length events ≤ length (more ++ events) = a.later in
      let p : Placed = record { at = length (e ∷ more ++ events); what = record { what = what; now = now (replay start (e ∷ more ++ events)) } } in
      record { added = p ∷ a.added; grown = ap (λ (l : List Placed). p ∷ l) a.grown; above = (omega (arith, le), a.above); later = omega (arith, le) }

-- ---- one report, and all

shows_more : (jobs : List Job) (added old : List Placed) (p : JobProgress) (notices : List Notice) → AreAbove p.at added → ShowsProgress jobs old (entries_in notices) p → ShowsProgress jobs (added ++ old) (entries_in notices) p
shows_more jobs added old p notices above h = of_job _ _ (job_of jobs p.job) (state_of p.job (entries_in notices))
    (λ j since g. (g.0, subst (λ (l : List Moment). Reaches j.plan p.done (reverse (answers j.device.raw (session (course j.device.raw (last_stretch (stretches j.device.raw l)))))) g.0) (sym (between_grown since p.at added old above)) g.1)) h

shown_more : (jobs : List Job) (n : ℕ) (added old : List Placed) (notices : List Notice) → AreAbove n added → EachUpto n notices → EachShown jobs old notices → EachShown jobs (added ++ old) notices
shown_more jobs n added old [] above upto h = tt
shown_more jobs n added old (Logged e ∷ notices) above upto h = shown_more jobs n added old notices above upto h
shown_more jobs n added old (Reported p ∷ notices) above upto h = (shows_more jobs added old p notices (above_less p.at n added upto.0 above) h.0, shown_more jobs n added old notices above upto.1 h.1)

upto_later : (n m : ℕ) (notices : List Notice) → n ≤ m → EachUpto n notices → EachUpto m notices
upto_later n m [] le h = tt
upto_later n m (Logged e ∷ notices) le h = upto_later n m notices le h
upto_later n m (Reported p ∷ notices) le h = (let f = h.0 in omega (arith, le, f), upto_later n m notices le h.1)

-- ---- of a story that goes on

some_is : {X : Type 0} (x y : X) → Some x ≡ Some y → x ≡ y
some_is x y e = cc

module _ (notices : List Notice) where
  -- what holds of the places that were holds of those that are told now
  told_more : (P Q : List Placed → Type 0) (s t : Story) → GoesOn s t → WhereTold P s → ((old new : List Placed) → Added (place_of s) (place_of t) old new → P old → Q new) → WhereTold Q t
  told_more P Q Untold t goes h more places e = absurd (let z : None ≡ Some places = subst (λ (x : Story). places_in x ≡ Some places) goes e in cc)
  told_more P Q (Recorded clock r) t goes h more places e =
      let is : counted (goes.0 ++ r) ≡ places = some_is (counted (goes.0 ++ r)) places (subst (λ (x : Story). places_in x ≡ Some places) goes.1 e) in
      let a : Added (length r) (place_of t) (counted r) (counted (goes.0 ++ r)) = subst (λ (x : Story). Added (length r) (place_of x) (counted r) (counted (goes.0 ++ r))) (sym goes.1) (counted_more goes.0 r) in
      subst Q is (more (counted r) (counted (goes.0 ++ r)) a (h (counted r) refl))
  told_more P Q (Full start events) t goes h more places e =
      let is : placed start (goes.0 ++ events) ≡ places = some_is (placed start (goes.0 ++ events)) places (subst (λ (x : Story). places_in x ≡ Some places) goes.1 e) in
      let a : Added (length events) (place_of t) (placed start events) (placed start (goes.0 ++ events)) = subst (λ (x : Story). Added (length events) (place_of x) (placed start events) (placed start (goes.0 ++ events))) (sym goes.1) (placed_more start goes.0 events) in
      subst Q is (more (placed start events) (placed start (goes.0 ++ events)) a (h (placed start events) refl))

  pub upto_grown : (s t : Story) → GoesOn s t → WhereTold (λ places. EachUpto (place_of s) notices) s → WhereTold (λ places. EachUpto (place_of t) notices) t
  upto_grown s t goes h = told_more (λ places. EachUpto (place_of s) notices) (λ places. EachUpto (place_of t) notices) s t goes h (λ old new a u. upto_later (place_of s) (place_of t) notices a.later u)

  pub shown_grown : (jobs : List Job) (s t : Story) → GoesOn s t → WhereTold (λ places. EachUpto (place_of s) notices) s → WhereTold (λ places. EachShown jobs places notices) s → WhereTold (λ places. EachShown jobs places notices) t
  shown_grown jobs s t goes upto h =
      told_more (λ places. EachUpto (place_of s) notices × EachShown jobs places notices) (λ places. EachShown jobs places notices) s t goes (λ places e. (upto places e, h places e))
      (λ old new a both. subst (λ (l : List Placed). EachShown jobs l notices) (sym a.grown) (shown_more jobs (place_of s) a.added old notices a.above both.0 both.1))
