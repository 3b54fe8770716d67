-- Each request that was put is one of the four, and all of them were put rightly.
use Rattle.std.proofs.Common.{◌≡◌, List, [], ◌∷◌, Some, Result, Ok, Err, sym, ◌∙◌, inl, inr}
use Rattle.knx_model.specs.declared.address.IndAddr.{IndAddr}
use Rattle.line_model.specs.LinkStory.{Clock}
use Rattle.line_model.specs.Record.{Placed, entries}
use Rattle.line_model.specs.ClientView.{Deed, Puts, Takes, Loses, Nothing, channel, deed}
use Rattle.address_world.specs.Keeps.{AsksFirst, AllAskFirst}
use Rattle.address_talk.specs.declared.assigned.Assigned.{Assigned}
use Rattle.address_talk.specs.declared.assigned.AssignFault.{AssignFault}
use Rattle.address_talk.specs.Talk.{DoesRightly, TalksRightly}
use Rattle.address_talk.specs.Ends.{EndsSo}

-- ---- each request that was put is one of the three

first_by : (wanted : IndAddr) (older : List Placed) (d : Deed) → DoesRightly wanted older d → AsksFirst wanted d
first_by wanted older (Puts cemi) h = λ frame e. (h.asked, let q : Some frame ≡ Some _ = sym e ∙ h.reads in cc)
first_by wanted older (Takes cemi) h = tt
first_by wanted older Loses h = tt
first_by wanted older Nothing h = tt

pub all_first : (wanted : IndAddr) (places : List Placed) → TalksRightly wanted places → AllAskFirst wanted (entries places)
all_first wanted [] h = tt
all_first wanted (p ∷ older) h = (first_by wanted older (deed (channel (entries older)) p.what) h.0, all_first wanted older h.1)

-- ---- how it ends

pub ends_rightly : (wanted : IndAddr) (result : Result Assigned AssignFault) (clock : Clock) (places : List Placed) → EndsSo wanted result clock places → TalksRightly wanted places
ends_rightly wanted (Ok assigned) clock places h = h.rightly
ends_rightly wanted (Err fault) clock places (inl h) = h.rightly
ends_rightly wanted (Err fault) clock places (inr h) = h.answered.rightly
