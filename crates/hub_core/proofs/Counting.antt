-- The number of events of a story that goes on, and the places that it tells.
use Rattle.std.proofs.Common.{◌≡◌, ℕ, ◌≤◌, List, [], ◌∷◌, ◌++◌, length, Some, None, refl, sym, subst, ap, ◌∙◌, arith}
use Rattle.line_model.specs.Record.{Placed, placed, counted}
use Rattle.line_model.specs.LinkStory.{Story, Untold, Recorded, Full, places_in, IsPlace}
use Rattle.tunnel_link.specs.Adds.{place_of}
use Rattle.tunnel_link.specs.Goes.{GoesOn}
use Rattle.hub_work.proofs.Growing.{AreUpto, placed_upto, counted_upto}
use Rattle.hub_core.proofs.Ascending.{Ascend, placed_ascend, counted_ascend}

pub some_is : {X : Type 0} (x y : X) → Some x ≡ Some y → x ≡ y
some_is x y e = cc

-- what places are told of a story
pub places_upto : (s : Story) (places : List Placed) → places_in s ≡ Some places → AreUpto (place_of s) places
places_upto Untold places e = absurd (let z : None ≡ Some places = e in cc)
places_upto (Recorded clock r) places e = subst (AreUpto (length r)) (some_is _ _ e) (counted_upto r)
places_upto (Full start events) places e = subst (AreUpto (length events)) (some_is _ _ e) (placed_upto start events)

pub places_ascend : (s : Story) (places : List Placed) → places_in s ≡ Some places → Ascend places
places_ascend Untold places e = absurd (let z : None ≡ Some places = e in cc)
places_ascend (Recorded clock r) places e = subst Ascend (some_is _ _ e) (counted_ascend r)
places_ascend (Full start events) places e = subst Ascend (some_is _ _ e) (placed_ascend start events)

-- the place that a link tells is that number
pub place_counts : (at : ℕ) (s : Story) (places : List Placed) → places_in s ≡ Some places → IsPlace at s → at ≡ place_of s
place_counts at Untold places e h = absurd (let z : None ≡ Some places = e in cc)
place_counts at (Recorded clock r) places e h = h
place_counts at (Full start events) places e h = h

-- ---- it goes on

longer : {X : Type 0} (more old : List X) → length old ≤ length (more ++ old)
longer [] old = omega arith
longer (x ∷ more) old = (let h = longer more old in omega (arith, h))

pub place_grows : (s t : Story) → GoesOn s t → place_of s ≤ place_of t
place_grows Untold t g = omega arith
place_grows (Recorded clock r) t g = let h : length r ≤ length (g.0 ++ r) = longer g.0 r in subst (λ (z : Story). length r ≤ place_of z) (sym g.1) h
place_grows (Full start events) t g = let h : length events ≤ length (g.0 ++ events) = longer g.0 events in subst (λ (z : Story). length events ≤ place_of z) (sym g.1) h

-- what tells places told them before
pub told_before : (s t : Story) (new : List Placed) → GoesOn s t → places_in t ≡ Some new → (old : List Placed) × (places_in s ≡ Some old)
told_before Untold t new g e = absurd (let z : None ≡ Some new = sym (ap places_in g) ∙ e in cc)
told_before (Recorded clock r) t new g e = (counted r, refl)
told_before (Full start events) t new g e = (placed start events, refl)
