-- That no request is left in the record that is shown, where none was taken.
use Rattle.std.proofs.Common.{ℕ, Bool, true, false, List, [], ◌∷◌, map, refl, None}
use Rattle.std.specs.Prelude.{if◌then◌else◌}
use Rattle.std.specs.List.{AllByRecursion}
use Rattle.line_model.specs.PortStory.{PortItem, Took, Quiet, Gave, PortStory, Untold, Recorded}
use Rattle.discovery.specs.declared.about.About.{About}
use Rattle.discovery_ends.specs.Answering.{AllAnswered, HasNoRequest, IsntRequest, emptied, is_answer, shown}
use Rattle.discovery_ends.specs.Naming.{named_item, named_story}

abbrev NoneLeft : List PortItem → Type 0
NoneLeft items = AllByRecursion IsntRequest items

-- ---- where no request was taken

named_none : (own : List ℕ) (items : List PortItem) → NoneLeft items → NoneLeft (map (named_item own) items)
named_none own [] h = tt
named_none own (Took from octets ∷ older) h = (h.0, named_none own older h.1)
named_none own (Quiet ms ∷ older) h = (tt, named_none own older h.1)
named_none own (Gave to octets ∷ older) h = (tt, named_none own older h.1)

emptied_none : (items : List PortItem) → NoneLeft items → NoneLeft (emptied items)
emptied_none [] h = tt
emptied_none (Took from octets ∷ older) h = (refl, h.1)
emptied_none (Quiet ms ∷ older) h = h
emptied_none (Gave to octets ∷ older) h = h

either_none : (is : Bool) (item : PortItem) (rest : List PortItem) → IsntRequest item → NoneLeft rest → NoneLeft (if is then emptied rest else item ∷ rest)
either_none true item rest i h = emptied_none rest h
either_none false item rest i h = (i, h)

shown_none : (about : About) (items : List PortItem) → NoneLeft items → NoneLeft (shown about items)
shown_none about [] h = tt
shown_none about (item ∷ older) h = either_none (is_answer about item older) item (shown about older) h.0 (shown_none about older h.1)

pub none_at_first : (about : About) (own : List ℕ) (story : PortStory) → HasNoRequest story → AllAnswered about None (named_story own story)
none_at_first about own Untold h = tt
none_at_first about own (Recorded items) h = shown_none about (map (named_item own) items) (named_none own items h)
