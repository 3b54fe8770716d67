-- What the entries of several calls are together: what was sent, got and heard.
use Rattle.std.proofs.Common.{◌≡◌, ℕ, Bool, true, false, List, [], ◌∷◌, ◌++◌, Option, Some, None, refl, sym, ap, ◌∙◌, append_assoc}
use Rattle.std.specs.Prelude.{◌&&◌, ◌||◌, not, filter_map}
use Rattle.std.specs.List.{cons_option}
use Rattle.knx_model.specs.declared.frames.cemi.Ldata.{Ldata}
use Rattle.line_model.specs.declared.group.Indication.{Indication}
use Rattle.line_model.specs.Reading.{ldata_in}
use Rattle.line_model.specs.Record.{Entry, Placed, entries, is_got, is_poll}
use Rattle.line_model.specs.ClientView.{Deed, Puts, Takes, Loses, Nothing, and_takes, channel, deed, all_taken, group_indication, indication_of, indications}
use Rattle.line_model.specs.Dropped.{is_dropped}
use Rattle.line_model.specs.Moments.{Moment, moments}
use Rattle.line_model.specs.Pumped.{sends_nothing, drops_all}
use Rattle.line_model.specs.Signs.{Every}
use Rattle.tunnel_link.specs.Adds.{IsNothing, One}

and_assoc : (a b c : Bool) → ((a && b) && c) ≡ (a && (b && c))
and_assoc true b c = refl
and_assoc false b c = refl

pub sends_both : (later earlier : List Entry) → sends_nothing (later ++ earlier) ≡ (sends_nothing later && sends_nothing earlier)
sends_both [] earlier = refl
sends_both (x ∷ later) earlier = ap (λ z. is_poll x.what && z) (sends_both later earlier) ∙ sym (and_assoc (is_poll x.what) (sends_nothing later) (sends_nothing earlier))

abbrev drops_one : List Entry → Entry → Bool
drops_one r x = not (is_got x.what) || is_dropped r x

pub drops_both : (before later earlier : List Entry) → drops_all before (later ++ earlier) ≡ (drops_all (earlier ++ before) later && drops_all before earlier)
drops_both before [] earlier = refl
drops_both before (x ∷ later) earlier =
    ap (λ (l : List Entry). drops_one l x && drops_all before (later ++ earlier)) (append_assoc later earlier before)
    ∙ (ap (λ z. drops_one (later ++ (earlier ++ before)) x && z) (drops_both before later earlier)
    ∙ sym (and_assoc (drops_one (later ++ (earlier ++ before)) x) (drops_all (earlier ++ before) later) (drops_all before earlier)))

-- ---- what is heard, by the moments

abbrev taken_in : List Moment → List (List ℕ)
taken_in [] = []
taken_in (m ∷ l) = and_takes m.what (taken_in l)

abbrev pub heard_in : List Moment → List Indication
heard_in l = filter_map group_indication (taken_in l)

taken_is : (places : List Placed) → all_taken (entries places) ≡ taken_in (moments places)
taken_is [] = refl
taken_is (p ∷ places) = ap (and_takes (deed (channel (entries places)) p.what)) (taken_is places)

pub heard_is : (places : List Placed) → indications (entries places) ≡ heard_in (moments places)
heard_is places = ap (filter_map group_indication) (taken_is places)

-- nothing is taken by it that reads as a frame
abbrev pub IsUnheard : Deed → Type 0
IsUnheard (Puts octets) = Unit {0}
IsUnheard (Takes octets) = ldata_in octets ≡ None
IsUnheard Loses = Unit {0}
IsUnheard Nothing = Unit {0}

unheard_taken : (what : Deed) (taken : List (List ℕ)) → IsUnheard what → filter_map group_indication (and_takes what taken) ≡ filter_map group_indication taken
unheard_taken (Puts octets) taken h = refl
unheard_taken (Takes octets) taken h = let none : group_indication octets ≡ None = ap indication_of h in rw none refl
unheard_taken Loses taken h = refl
unheard_taken Nothing taken h = refl

pub unheard : (added l : List Moment) → Every (λ m. IsUnheard m.what) added → heard_in (added ++ l) ≡ heard_in l
unheard [] l h = refl
unheard (m ∷ added) l h = unheard_taken m.what (taken_in (added ++ l)) h.0 ∙ unheard added l h.1

nothing_heard : (what : Deed) → what ≡ Nothing → IsUnheard what
nothing_heard (Puts octets) e = tt
nothing_heard (Takes octets) e = absurd (cc)
nothing_heard Loses e = tt
nothing_heard Nothing e = tt

pub nothings : (added l : List Moment) → Every IsNothing added → heard_in (added ++ l) ≡ heard_in l
nothings added l h = unheard added l (all added h) where
  all : (xs : List Moment) → Every IsNothing xs → Every (λ m. IsUnheard m.what) xs
  all [] h = tt
  all (m ∷ xs) h = (nothing_heard m.what h.0, all xs h.1)

-- this one alone may tell something
pub one_heard : (P : Moment → Type 0) (heard : Option Indication) (added l : List Moment) → ((m : Moment) (taken : List (List ℕ)) → P m → filter_map group_indication (and_takes m.what taken) ≡ cons_option heard (filter_map group_indication taken)) → One P added
    → heard_in (added ++ l) ≡ cons_option heard (heard_in l)
one_heard P heard added l tells one =
    let joined : added ++ l ≡ one.newer ++ (one.m ∷ (one.older ++ l)) = ap (λ z. z ++ l) one.all ∙ append_assoc one.newer (one.m ∷ one.older) l in
    ap heard_in joined ∙ (nothings one.newer (one.m ∷ (one.older ++ l)) one.newer_nothing
    ∙ (tells one.m (taken_in (one.older ++ l)) one.is ∙ ap (cons_option heard) (nothings one.older l one.older_nothing)))

pub takes_heard : (frame : Ldata) (octets : List ℕ) (m : Moment) (taken : List (List ℕ)) → m.what ≡ Takes octets → ldata_in octets ≡ Some frame → filter_map group_indication (and_takes m.what taken) ≡ cons_option (indication_of (Some frame)) (filter_map group_indication taken)
takes_heard frame octets m taken does reads = rw does (rw reads refl)

pub loses_heard : (m : Moment) (taken : List (List ℕ)) → m.what ≡ Loses → filter_map group_indication (and_takes m.what taken) ≡ cons_option None (filter_map group_indication taken)
loses_heard m taken does = rw does refl
