-- The talk by the record alone, without the places: the rounds, and that each request is what may be asked for next.
use Rattle.std.proofs.Common.{◌≡◌, ℕ, List, [], ◌∷◌, true, Option, Some, None, refl, ap, subst}
use Rattle.knx_model.specs.declared.address.IndAddr.{IndAddr}
use Rattle.line_model.specs.Asks.{HasPlace}
use Rattle.line_model.specs.Reading.{ldata_in, is_req}
use Rattle.line_model.specs.Record.{Item, Entry, Placed, entries, noted}
use Rattle.line_model.specs.ClientView.{Deed, Puts, Takes, Loses, Nothing, channel, deed}
use Rattle.line_model.specs.Moments.{moments}
use Rattle.address_world.specs.declared.asked.Asked.{Asked}
use Rattle.address_world.specs.declared.asked.Asked.TheVariants.{Read, Connect, Disconnect, Write}
use Rattle.address_world.specs.Keeps.{frame_of}
use Rattle.address_talk.specs.Rounds.{Round, after_deed, rounds}
use Rattle.address_talk.specs.Talk.{MayAsk, HeardOut, DoesRightly, TalksRightly}
use Rattle.calm_law.specs.CalmTunnel.{PutsSo, PutsRightly}

abbrev pub rounds_of : List Entry → List Round
rounds_of [] = []
rounds_of (x ∷ r) = after_deed (deed (channel r) x) (rounds_of r)

pub rounds_are : (places : List Placed) → rounds (moments places) ≡ rounds_of (entries places)
rounds_are [] = refl
rounds_are (p ∷ older) = ap (λ rs. after_deed (deed (channel (entries older)) p.what) rs) (rounds_are older)

-- ---- each request

pub record AsksSo (wanted : IndAddr) (r : List Entry) (cemi : List ℕ) : Type 0 where
  pub asked : Asked
  pub reads : ldata_in cemi ≡ Some (frame_of wanted asked)
  pub may : MayAsk wanted (rounds_of r) asked
  pub heard_out : HeardOut wanted (rounds_of r) r
  pub place : HasPlace (channel r)

abbrev pub DoesSo : IndAddr → List Entry → Deed → Type 0
DoesSo wanted r (Puts cemi) = AsksSo wanted r cemi
DoesSo wanted r _ = Unit {0}

abbrev pub TalksSo : IndAddr → List Entry → Type 0
TalksSo wanted [] = Unit {0}
TalksSo wanted (x ∷ r) = DoesSo wanted r (deed (channel r) x) × TalksSo wanted r

does_so : (wanted : IndAddr) (older : List Placed) (what : Deed) → DoesRightly wanted older what → DoesSo wanted (entries older) what
does_so wanted older (Puts cemi) h =
    record {
      asked = h.asked;
      reads = h.reads;
      may = subst (λ (rs : List Round). MayAsk wanted rs h.asked) (rounds_are older) h.may;
      heard_out = subst (λ (rs : List Round). HeardOut wanted rs (entries older)) (rounds_are older) h.heard_out;
      place = h.place;
    }
does_so wanted older (Takes cemi) h = tt
does_so wanted older Loses h = tt
does_so wanted older Nothing h = tt

pub talks_so : (wanted : IndAddr) (places : List Placed) → TalksRightly wanted places → TalksSo wanted (entries places)
talks_so wanted [] h = tt
talks_so wanted (p ∷ older) h = (does_so wanted older (deed (channel (entries older)) p.what) h.0, talks_so wanted older h.1)

pub talks_before : (wanted : IndAddr) (o : Option Item) (now : ℕ) (r : List Entry) → TalksSo wanted (noted o now r) → TalksSo wanted r
talks_before wanted None now r h = h
talks_before wanted (Some what) now r h = h.1

-- ---- it is put rightly

is_request : (wanted : IndAddr) (asked : Asked) → is_req (frame_of wanted asked).code ≡ true
is_request wanted Read = refl
is_request wanted Connect = refl
is_request wanted Disconnect = refl
is_request wanted Write = refl

puts_so : (wanted : IndAddr) (r : List Entry) (what : Deed) → DoesSo wanted r what → PutsSo (channel r) what
puts_so wanted r (Puts cemi) h = record { frame = frame_of wanted h.asked; reads = h.reads; request = is_request wanted h.asked; place = h.place }
puts_so wanted r (Takes cemi) h = tt
puts_so wanted r Loses h = tt
puts_so wanted r Nothing h = tt

pub puts_rightly : (wanted : IndAddr) (r : List Entry) → TalksSo wanted r → PutsRightly r
puts_rightly wanted [] h = tt
puts_rightly wanted (x ∷ r) h = (puts_so wanted r (deed (channel r) x) h.0, puts_rightly wanted r h.1)
