-- Which group indications a call took, by the records before it and after it, where the link tells them.
use Rattle.std.specs.Prelude.{◌≡◌, List, Option, Some, None}
use Rattle.std.specs.List.{cons_option}
use Rattle.line_model.specs.declared.group.Indication.{Indication}
use Rattle.line_model.specs.Record.{Placed, entries}
use Rattle.line_model.specs.LinkStory.{Story, places_in}
use Rattle.line_model.specs.ClientView.{indications}
use Rattle.hub_core.specs.declared.answers.Pumped.{Pumped}
use Rattle.hub_core.specs.declared.answers.Pumped.TheVariants as pump
use Rattle.hub_core.specs.declared.answers.Finished.{Finished}
use Rattle.hub_core.specs.declared.answers.Finished.TheVariants as end

-- it took just this one, or none
abbrev pub HearsSo : Option Indication → Story → Story → Type 0
HearsSo heard s t = (old new : List Placed) → places_in s ≡ Some old → places_in t ≡ Some new → indications (entries new) ≡ cons_option heard (indications (entries old))

-- it took one at most
abbrev pub HearsFew : Story → Story → Type 0
HearsFew s t = (heard : Option Indication) × HearsSo heard s t

abbrev pub heard_of : Pumped → Option Indication
heard_of pump.Nothing = None
heard_of pump.Moved = None
heard_of (pump.Heard heard) = Some heard

abbrev pub heard_at_end : Finished → Option Indication
heard_at_end (end.Heard heard) = Some heard
heard_at_end end.Over = None
heard_at_end end.Going = None
