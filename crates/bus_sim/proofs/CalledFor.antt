-- What the script calls for is what happens next, and what goes next happens where nothing is called for.
use Rattle.std.proofs.Common.{◌≡◌, ◌≢◌, inr, Bool, true, false, is_some, List, [], ◌∷◌, Option, Some, None, refl, ap, sym, subst, ◌∙◌, if◌then◌else◌}
use Rattle.std.specs.List.{filter}
use Rattle.knx_model.specs.declared.frames.cemi.Ldata.{Ldata}
use Rattle.knx_model.specs.DeviceState.{DeviceState}
use Rattle.line_model.specs.Follows.{IsNext, IsInPlace}
use Rattle.line_model.specs.Legal.{MayHappen, OfDevice}
use Rattle.line_model.specs.Owed.{Owed, owed, met, is_possible}
use Rattle.line_model.specs.World.{Event, frame_by, replay}
use Rattle.bus_sim.specs.Owing.{first_of}
use Rattle.bus_sim.specs.RunNow.{RunNow, Calls, NothingCalled, IsRight, mode, owed_in, script, start, world as world_of}

-- ---- what is called for

pub no_some : {A : Type 0} {x : A} → None ≡ Some x → ⊥
no_some e = cc

pub some_no : {A : Type 0} {x : A} → Some x ≡ None → ⊥
some_no e = cc

pub untrue : false ≡ true → ⊥
untrue e = cc

first_is : (x what : Owed) → Some x ≡ Some what → x ≡ what
first_is x what e = cc

pub called_next : (r : RunNow) (what : Owed) → Calls r what → IsNext (script r) (mode r) (start r) r.events (owed_in r) (met (script r) (start r) r.events what)
called_next r what f = by_list (owed_in r) f
  where
    by_list : (l : List Owed) → first_of l ≡ Some what → IsNext (script r) (mode r) (start r) r.events l (met (script r) (start r) r.events what)
    by_list [] f = absurd (no_some f)
    by_list (x ∷ l) f = inr (ap (met (script r) (start r) r.events) (sym (first_is x what f)))

pub free_next : (r : RunNow) (e : Event) → NothingCalled r → IsInPlace (script r) (mode r) (start r) r.events e → IsNext (script r) (mode r) (start r) r.events (owed_in r) e
free_next r e f place = by_list (owed_in r) f
  where
    by_list : (l : List Owed) → first_of l ≡ None → IsNext (script r) (mode r) (start r) r.events l e
    by_list [] f = place
    by_list (x ∷ l) f = absurd (some_no f)

first_passes : (test : Owed → Bool) (l : List Owed) (what : Owed) → first_of (filter test l) ≡ Some what → test what ≡ true
first_passes test [] what f = absurd (no_some f)
first_passes test (x ∷ l) what f = by_test (test x) refl f (first_passes test l what)
  where
    by_test : (t : Bool) → test x ≡ t → first_of (if t then x ∷ filter test l else filter test l) ≡ Some what → (first_of (filter test l) ≡ Some what → test what ≡ true) → test what ≡ true
    by_test true e f rest = ap test (sym (first_is x what f)) ∙ e
    by_test false e f rest = rest f

pub called_possible : (r : RunNow) (what : Owed) → Calls r what → is_possible (mode r) (world_of r) what ≡ true
called_possible r what f = by_events r.events f
  where
    by_events : (es : List Event) → first_of (owed (script r) (mode r) (start r) es) ≡ Some what → is_possible (mode r) (replay (start r) es) what ≡ true
    by_events [] f = absurd (no_some f)
    by_events (e ∷ es) f = first_passes (is_possible (mode r) (replay (start r) (e ∷ es))) _ what f

pub called_right : (r : RunNow) (what : Owed) (e : Event) → Calls r what → e ≡ met (script r) (start r) r.events what → MayHappen (mode r) (world_of r) e → IsRight r e
called_right r what e f same may = record { may = may; next = subst (λ x. IsNext (script r) (mode r) (start r) r.events (owed_in r) x) (sym same) (called_next r what f) }

pub free_right : (r : RunNow) (e : Event) → NothingCalled r → IsInPlace (script r) (mode r) (start r) r.events e → MayHappen (mode r) (world_of r) e → IsRight r e
free_right r e f place may = record { may = may; next = free_next r e f place }

-- a device that got a frame
pub has_last : (o : Option DeviceState) → is_some (frame_by (λ d. d.last) o) ≡ true → OfDevice (λ d. d.last ≢ None) o
has_last None e = absurd (untrue e)
has_last (Some d) e = λ none. some_not_none d.last e none
  where
    some_not_none : (o : Option Ldata) → is_some o ≡ true → o ≢ None
    some_not_none None e = absurd (untrue e)
    some_not_none (Some f) e = λ none. some_no none
