-- What follows one moment after another follows all that a call adds.
use Rattle.std.proofs.Common.{◌≡◌, ℕ, ◌<◌, List, [], ◌∷◌, ◌++◌, append_assoc, refl, sym, ap, subst, ◌∙◌}
use Rattle.line_model.specs.Record.{Placed, entries}
use Rattle.line_model.specs.Moments.{Moment, moments, time}
use Rattle.line_model.specs.Signs.{Every}
use Rattle.line_model.specs.LinkStory.{newest_time}
use Rattle.tunnel_link.specs.Adds.{moments_on, IsNothing, One}
use Rattle.hub_work.specs.Follows.{IsAside, Does}
use Rattle.hub_work.proofs.Growing.{AreAbove}
use Rattle.hub_core.specs.Taking.{place_or, Rise}
use Rattle.hub_core.proofs.Ascending.{Ascend}

pub every : (P Q : Moment → Type 0) (l : List Moment) → ((m : Moment) → P m → Q m) → Every P l → Every Q l
every P Q [] f h = tt
every P Q (m ∷ l) f h = (f m h.0, every P Q l f h.1)

pub rising : (since : ℕ) (added old : List Placed) → AreAbove since added → Ascend (added ++ old) → Rise since (moments_on old added)
rising since [] old above up = tt
rising since (p ∷ added) old above up = (behind added above up, rising since added old above.1 up.1) where
  behind : (added : List Placed) → AreAbove since (p ∷ added) → Ascend (p ∷ (added ++ old)) → place_or since (moments_on old added) < p.at
  behind [] above up = above.0
  behind (q ∷ added) above up = up.0.0

pub newest : (places : List Placed) → newest_time (entries places) ≡ time (moments places)
newest [] = refl
newest (p ∷ places) = refl

pub rise_parts : (since : ℕ) (newer older : List Moment) (m : Moment) → Rise since (newer ++ m ∷ older) → Rise m.at newer × (place_or since older < m.at) × Rise since older
rise_parts since [] older m h = (tt, h.0, h.1)
rise_parts since (x ∷ newer) older m h =
    let rest : Rise m.at newer × (place_or since older < m.at) × Rise since older = rise_parts since newer older m h.1 in
    ((first newer h, rest.0), rest.1, rest.2)
  where
    first : (newer : List Moment) → Rise since ((x ∷ newer) ++ m ∷ older) → place_or m.at newer < x.at
    first [] h = h.0
    first (y ∷ newer) h = h.0

-- P of time, place and moments goes on by a moment aside
module _ (P : ℕ → ℕ → List Moment → Type 0) (aside : (before at : ℕ) (m : Moment) (l : List Moment) → P before at l → at < m.at → IsAside m.what → P m.now m.at (m ∷ l)) where
  pub asides : (since : ℕ) (added l : List Moment) → Rise since added → Every (λ m. IsAside m.what) added → P (time l) since l → P (time (added ++ l)) (place_or since added) (added ++ l)
  asides since [] l rise each h = h
  asides since (m ∷ added) l rise each h = aside (time (added ++ l)) (place_or since added) m (added ++ l) (asides since added l rise.1 each.1 h) rise.0 each.0

-- P before one moment and Q from it on, with nothing around it
module _ (P Q : ℕ → ℕ → List Moment → Type 0) (It : Moment → Type 0)
    (aside_p : (before at : ℕ) (m : Moment) (l : List Moment) → P before at l → at < m.at → IsAside m.what → P m.now m.at (m ∷ l))
    (aside_q : (before at : ℕ) (m : Moment) (l : List Moment) → Q before at l → at < m.at → IsAside m.what → Q m.now m.at (m ∷ l))
    (step : (before at : ℕ) (m : Moment) (l : List Moment) → P before at l → at < m.at → It m → Q m.now m.at (m ∷ l)) where
  pub around : (since : ℕ) (added l : List Moment) → Rise since added → One It added → P (time l) since l → Q (time (added ++ l)) (place_or since added) (added ++ l)
  around since added l rise one h =
      let parts : Rise one.m.at one.newer × (place_or since one.older < one.m.at) × Rise since one.older = rise_parts since one.newer one.older one.m (subst (Rise since) one.all rise) in
      let first : P (time (one.older ++ l)) (place_or since one.older) (one.older ++ l) = asides P aside_p since one.older l parts.2 (nothings one.older one.older_nothing) h in
      let second : Q one.m.now one.m.at (one.m ∷ (one.older ++ l)) = step (time (one.older ++ l)) (place_or since one.older) one.m (one.older ++ l) first parts.1 one.is in
      let third : Q (time (one.newer ++ (one.m ∷ (one.older ++ l)))) (place_or one.m.at one.newer) (one.newer ++ (one.m ∷ (one.older ++ l))) =
      asides Q aside_q one.m.at one.newer (one.m ∷ (one.older ++ l)) parts.0 (nothings one.newer one.newer_nothing) second in
      let joined : one.newer ++ (one.m ∷ (one.older ++ l)) ≡ added ++ l = sym (ap (λ z. z ++ l) one.all ∙ append_assoc one.newer (one.m ∷ one.older) l) in
      subst (λ (n : ℕ). Q (time (added ++ l)) n (added ++ l)) (sym (ap (place_or since) one.all ∙ place_there one.newer))
      (subst (λ (z : List Moment). Q (time z) (place_or one.m.at one.newer) z) joined third)
    where
      nothings : (xs : List Moment) → Every IsNothing xs → Every (λ m. IsAside m.what) xs
      nothings xs h = every IsNothing (λ m. IsAside m.what) xs (λ m e. Does e) h

      place_there : (newer : List Moment) → place_or since (newer ++ one.m ∷ one.older) ≡ place_or one.m.at newer
      place_there [] = refl
      place_there (x ∷ newer) = refl
