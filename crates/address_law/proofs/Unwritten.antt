-- Where no write was put, each unit has the address that it began with; and one that was given the wanted address keeps it.
use Rattle.std.proofs.Common.{◌≡◌, ℕ, zero, suc, ◌⊎◌, inl, inr, List, [], ◌∷◌, map, Bool, true, false, cond, Option, Some, None, refl, sym, ◌∙◌, ap, subst}
use Rattle.knx_model.specs.declared.address.IndAddr.{IndAddr}
use Rattle.knx_model.specs.declared.frames.cemi.Ldata.{Ldata}
use Rattle.knx_model.specs.declared.frames.tpdu.Apdu.{Apdu}
use Rattle.knx_model.specs.declared.frames.tpdu.Apdu.TheVariants.{AddressRead}
use Rattle.knx_model.specs.ApduReading.{apdu_in, tpdu_in, service_in}
use Rattle.line_model.specs.Reading.{ldata_in}
use Rattle.line_model.specs.Record.{Entry}
use Rattle.line_model.specs.Sendings.{SendsRightly}
use Rattle.line_model.specs.World.{is_among, on_bus}
use Rattle.line_model.specs.ClientView.{Deed, Puts, Takes, Loses, Nothing, channel, deed}
use Rattle.address_world.specs.declared.asked.Asked.{Asked}
use Rattle.address_world.specs.declared.asked.Asked.TheVariants.{Read, Connect, Disconnect, Write}
use Rattle.address_world.specs.declared.unit.Unit.{Unit as BusUnit}
use Rattle.address_world.specs.AddressWorld.{AddressWorld, AddressEvent, UnitState, broadcast, gets, gets_broadcast, all_get, changed, sends, replay}
use Rattle.address_world.specs.AddressLegal.{IsFresh}
use Rattle.address_world.specs.AddressStory.{record_of}
use Rattle.address_world.specs.Keeps.{KeepsUnit, KeepsUnits, frame_of}
use Rattle.address_world.proofs.Always.{Keeping, holds}
use Rattle.address_world.proofs.Requests.{FirstSo, AllFirst, sends_only}
use Rattle.address_talk.specs.Rounds.{Round, on_newest, with_frame, after_deed, GoOn}
use Rattle.address_world.specs.Shown.{shown}
use Rattle.address_law.proofs.Programmed.{given}
use Rattle.address_law.proofs.Units.{IsAs, AreAs}
use Rattle.address_law.proofs.Rides.{is_write, write_is}
use Rattle.address_law.proofs.Talks.{rounds_of, DoesSo, TalksSo}

-- ---- the units by a frame that isn't a write

abbrev AsksNothing : Option Apdu → Type 0
AsksNothing o = (o ≡ None) ⊎ (o ≡ Some AddressRead)

shows_gets : (u : UnitState) (o : Option Apdu) → AsksNothing o → shown (gets u o) ≡ shown u
shows_gets u o (inl e) = ap (λ x. shown (gets u x)) e
shows_gets u o (inr e) = ap (λ x. shown (gets u x)) e

shows_if : (b : Bool) (u v : UnitState) → shown v ≡ shown u → shown (cond b v u) ≡ shown u
shows_if true u v e = e
shows_if false u v e = refl

shows_unless : (b : Bool) (u v : UnitState) → shown v ≡ shown u → shown (cond b u v) ≡ shown u
shows_unless true u v e = refl
shows_unless false u v e = e

shows_all : (at : ℕ) (left_out : List ℕ) (frame : Ldata) (units : List UnitState) → AsksNothing (broadcast frame) → map shown (all_get at left_out frame units) ≡ map shown units
shows_all at left_out frame [] asks = refl
shows_all at left_out frame (u ∷ units) asks =
    let here : shown (cond (is_among left_out at) u (gets_broadcast frame u)) ≡ shown u = shows_unless (is_among left_out at) u (gets_broadcast frame u) (shows_if u.programming u (gets u (broadcast frame)) (shows_gets u (broadcast frame) asks)) in
    ap (λ (x : BusUnit). x ∷ map shown (all_get (suc at) left_out frame units)) here ∙ ap (λ (l : List BusUnit). shown u ∷ l) (shows_all (suc at) left_out frame units asks)

shows_sends : (at : ℕ) (units : List UnitState) → map shown (changed at sends units) ≡ map shown units
shows_sends at [] = refl
shows_sends zero (u ∷ units) = refl
shows_sends (suc at) (u ∷ units) = ap (λ (l : List BusUnit). shown u ∷ l) (shows_sends at units)

-- ---- no write was put

module _ (wanted : IndAddr) where
  record IsOther (f : Ldata) : Type 0 where
    asked : Asked
    is : f ≡ frame_of wanted asked
    other : asked ≡ Write → ⊥

  asks_nothing : (address : IndAddr) (asked : Asked) → (asked ≡ Write → ⊥) → AsksNothing (broadcast (on_bus address (frame_of wanted asked)))
  unfolding service_in tpdu_in apdu_in
  asks_nothing address Read other = inr refl
  asks_nothing address Connect other = inl refl
  asks_nothing address Disconnect other = inl refl
  asks_nothing address Write other = absurd (other refl)

  other_asks : (address : IndAddr) (f : Ldata) → IsOther f → AsksNothing (broadcast (on_bus address f))
  other_asks address f h = subst (λ z. AsksNothing (broadcast (on_bus address z))) (sym h.is) (asks_nothing address h.asked h.other)

  shows : (units : List BusUnit) → Keeping IsOther (λ now. map shown now ≡ units)
  shows units = record {
    carries = λ address left_out f now is k. shows_all 0 left_out (on_bus address f) now (other_asks address f is) ∙ k;
    responds = λ at now k. shows_sends at now ∙ k;
  }

  -- ---- the rounds

  abbrev pub NoWrites : List Round → Type 0
  NoWrites [] = Unit {0}
  NoWrites (r ∷ rs) = (is_write r.frame ≡ false) × NoWrites rs

  same_frame : (o : Option Ldata) (r : Round) → (with_frame o r).frame ≡ r.frame
  same_frame None r = refl
  same_frame (Some frame) r = refl

  newest_before : (o : Option Ldata) (rs : List Round) → NoWrites (on_newest (with_frame o) rs) → NoWrites rs
  newest_before o [] h = h
  newest_before o (r ∷ rs) h = (ap is_write (sym (same_frame o r)) ∙ h.0, h.1)

  writes_before : (what : Deed) (rs : List Round) → NoWrites (after_deed what rs) → NoWrites rs
  writes_before (Puts cemi) rs h = h.1
  writes_before (Takes cemi) rs h = newest_before (ldata_in cemi) rs h
  writes_before Loses rs h = h
  writes_before Nothing rs h = h

  first_by : (r : List Entry) (what : Deed) → DoesSo wanted r what → NoWrites (after_deed what (rounds_of r)) → FirstSo IsOther what
  first_by r (Puts cemi) h none = λ frame e. record {
    asked = h.asked;
    is = (let a : ldata_in cemi ≡ Some (frame_of wanted h.asked) = h.reads in let z : Some frame ≡ Some (frame_of wanted h.asked) = sym e ∙ a in cc);
    other = λ w. (let a : ldata_in cemi ≡ Some (frame_of wanted Write) = h.reads ∙ ap (λ asked. Some (frame_of wanted asked)) w in let y : true ≡ false = sym (write_is wanted) ∙ (ap is_write (sym a) ∙ none.0) in cc);
  }
  first_by r (Takes cemi) h none = tt
  first_by r Loses h none = tt
  first_by r Nothing h none = tt

  first_of : (r : List Entry) → TalksSo wanted r → NoWrites (rounds_of r) → AllFirst IsOther r
  first_of [] h none = tt
  first_of (x ∷ r) h none = (first_by r (deed (channel r) x) h.0 none, first_of r h.1 (writes_before (deed (channel r) x) (rounds_of r) none))

  pub writes_on : (old new : List Round) → GoOn old new → NoWrites old → NoWrites new
  writes_on [] [] g h = tt
  writes_on [] (s ∷ ss) g h = absurd g
  writes_on (r ∷ rs) [] g h = absurd g
  writes_on (r ∷ rs) (s ∷ ss) g h = (ap is_write g.0 ∙ h.0, subst NoWrites (sym g.1) h.1)

  pub unwritten : (start : AddressWorld) (events : List AddressEvent) → IsFresh start → SendsRightly (record_of start events) → TalksSo wanted (record_of start events) → NoWrites (rounds_of (record_of start events))
      → map shown (replay start events).units ≡ map shown start.units
  unwritten start events f sent talks none =
      (holds IsOther (λ now. map shown now ≡ map shown start.units) (shows (map shown start.units)) start events f (sends_only IsOther (record_of start events) sent (first_of (record_of start events) talks none)) refl).units

  -- ---- once it was given

  given_address : (b : UnitState) (t : Bool) → b.programming ≡ t → (given wanted b).programming ≡ true → (given wanted b).address ≡ wanted
  given_address b true p h = ap (λ t. (cond t (record b { address = wanted }) b).address) p
  given_address b false p h =
      let same : given wanted b ≡ b = ap (λ t. cond t (record b { address = wanted }) b) p in
      let on : b.programming ≡ true = sym (ap (λ (u : UnitState). u.programming) same) ∙ h in
      absurd (cc)

  shows_alike : (n b : UnitState) → n.address ≡ b.address → n.programming ≡ b.programming → shown n ≡ shown b
  shows_alike n b a p =
      let one : shown n ≡ record { address = b.address; prog = n.programming } = ap (λ (x : IndAddr). let z : BusUnit = record { address = x; prog = n.programming } in z) a in
      one ∙ ap (λ (x : Bool). let z : BusUnit = record { address = b.address; prog = x } in z) p

  kept_one : (b u n : UnitState) → IsAs (given wanted b) u → KeepsUnit wanted u n → shown n ≡ shown (given wanted b)
  kept_one b u n h k = shows_alike n (given wanted b) (by_address k.address) (k.mode ∙ h.mode) where
    by_address : (n.address ≡ u.address) ⊎ ((u.programming ≡ true) × (n.address ≡ wanted)) → n.address ≡ (given wanted b).address
    by_address (inl e) = e ∙ h.address
    by_address (inr e) = e.1 ∙ sym (given_address b b.programming refl (sym h.mode ∙ e.0))

  pub kept_given : (base units now : List UnitState) → AreAs (map (given wanted) base) units → KeepsUnits wanted units now → map shown now ≡ map shown (map (given wanted) base)
  kept_given [] [] [] h k = refl
  kept_given [] [] (n ∷ now) h k = absurd k
  kept_given [] (u ∷ units) now h k = absurd h
  kept_given (b ∷ base) [] now h k = absurd h
  kept_given (b ∷ base) (u ∷ units) [] h k = absurd k
  kept_given (b ∷ base) (u ∷ units) (n ∷ now) h k =
      ap (λ (x : BusUnit). x ∷ map shown now) (kept_one b u n h.0 k.0) ∙ ap (λ (l : List BusUnit). shown (given wanted b) ∷ l) (kept_given base units now h.1 k.1)
