-- Each entry that a call adds is right: it puts nothing, or one right request.
use Rattle.std.proofs.Common.{◌≡◌, ◌≢◌, ℕ, List, [], ◌∷◌, ◌++◌, refl, sym, subst, ◌∙◌}
use Rattle.line_model.specs.declared.group.GroupTurn.{GroupTurn}
use Rattle.line_model.specs.declared.log.LogEntry.{LogEntry}
use Rattle.line_model.specs.Record.{Placed}
use Rattle.line_model.specs.ClientView.{Deed, Puts, Takes, Loses, Nothing}
use Rattle.line_model.specs.Moments.{Moment}
use Rattle.line_model.specs.Log.{Job}
use Rattle.line_model.specs.Signs.{Every}
use Rattle.line_model.specs.Asks.{IsRightDeed, IsRightRequest, moment_of}
use Rattle.line_model.specs.Ends.{BeginsSo}
use Rattle.hub_core.proofs.AtRest.{begins_none}
use Rattle.hub_core.specs.Discipline.{Asks}
use Rattle.tunnel_link.specs.Adds.{moments_on, IsNothing, One, PutsNone}

-- P of each entry that was added, and of what was before it
abbrev pub Each : (List Placed → Placed → Type 0) → List Placed → List Placed → Type 0
Each P [] old = Unit {0}
Each P (p ∷ added) old = P (added ++ old) p × Each P added old

pub nothing_put : (m : Moment) → IsNothing m → PutsNone m
nothing_put m e octets put = let z : Nothing ≡ Puts octets = sym e ∙ put in cc

pub loses_put : (m : Moment) → m.what ≡ Loses → PutsNone m
loses_put m e octets put = let z : Loses ≡ Puts octets = sym e ∙ put in cc

pub takes_put : (m : Moment) (got : List ℕ) → m.what ≡ Takes got → PutsNone m
takes_put m got e octets put = let z : Takes got ≡ Puts octets = sym e ∙ put in cc

-- of all but one nothing is put
pub one_puts : (P : Moment → Type 0) (l : List Moment) → ((m : Moment) → P m → PutsNone m) → One P l → Every PutsNone l
one_puts P l none one = subst (Every PutsNone) (sym one.all) (there one.newer one.newer_nothing) where
  all : (xs : List Moment) → Every IsNothing xs → Every PutsNone xs
  all [] h = tt
  all (m ∷ xs) h = (nothing_put m h.0, all xs h.1)

  there : (newer : List Moment) → Every IsNothing newer → Every PutsNone (newer ++ one.m ∷ one.older)
  there [] h = (none one.m one.is, all one.older one.older_nothing)
  there (x ∷ newer) h = (nothing_put x h.0, there newer h.1)

pub nothings_put : (l : List Moment) → Every IsNothing l → Every PutsNone l
nothings_put [] h = tt
nothings_put (m ∷ l) h = (nothing_put m h.0, nothings_put l h.1)

module _ (jobs : List Job) (turns : List GroupTurn) (log : List LogEntry) where
  puts_none : (older : List Placed) (m : Moment) (what : Deed) → ((octets : List ℕ) → what ≢ Puts octets) → IsRightDeed jobs turns log older m what
  puts_none older m (Puts octets) none = absurd (none octets refl)
  puts_none older m (Takes octets) none = tt
  puts_none older m Loses none = tt
  puts_none older m Nothing none = tt

  pub quiet_right : (added old : List Placed) → Every PutsNone (moments_on old added) → Each (Asks jobs turns log) added old
  quiet_right [] old none = tt
  quiet_right (p ∷ added) old none = (
    record {
      right = puts_none (added ++ old) (moment_of (added ++ old) p) (moment_of (added ++ old) p).what none.0;
      begins = begins_none jobs log (added ++ old) (moment_of (added ++ old) p) none.0;
    },
    quiet_right added old none.1,
  )

  pub request_right : (older : List Placed) (p : Placed) (octets : List ℕ) → (moment_of older p).what ≡ Puts octets → IsRightRequest jobs turns log older (moment_of older p) octets → BeginsSo jobs log older (moment_of older p)
      → Asks jobs turns log older p
  request_right older p octets puts right begins = record { right = subst (IsRightDeed jobs turns log older (moment_of older p)) (sym puts) right; begins = begins }

-- the only one
pub record Single (old added : List Placed) (m : Moment) : Type 0 where
  pub p : Placed
  pub added_is : added ≡ p ∷ []
  pub is : moment_of old p ≡ m

pub single : (old added : List Placed) (m : Moment) → moments_on old added ≡ m ∷ [] → Single old added m
single old [] m e = absurd (cc)
single old (p ∷ []) m e = record { p = p; added_is = refl; is = cc }
single old (p ∷ q ∷ added) m e = absurd (let rest : moments_on old (q ∷ added) ≡ [] = cc in cc)
