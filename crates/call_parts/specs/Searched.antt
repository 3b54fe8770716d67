-- How a search for gateways ends, its text and its status: the gateways that were found, one line each, or that there is none; where the link failed, those
-- that were found until then, and that it failed; or that there was no memory.
use Rattle.std.specs.Prelude.{codes, List, [], ◌∷◌, ◌++◌, Some, ℕ}
use Rattle.call_words.specs.declared.status.Status.{Status}
use Rattle.call_words.specs.declared.status.Status.TheVariants as status
use Rattle.call_words.specs.declared.stop.Stop.TheVariants as stop
use Rattle.call_words.specs.Printed.{fault_line}
use Rattle.call_words.specs.ReportText.{stop_text}
use Rattle.knx_model.specs.TextLines.{line}
use Rattle.line_model.specs.declared.fault.HubFault.TheVariants.{LinkFailed}
use Rattle.discovery.specs.declared.about.About.{About}
use Rattle.frame_text.specs.GatewayText.{found_text}
use Rattle.call_parts.specs.declared.searched.SearchEnd.{SearchEnd}
use Rattle.call_parts.specs.declared.searched.SearchEnd.TheVariants as search

abbrev pub found_or_none : List About → List ℕ
found_or_none [] = line (codes "nothing" ∷ codes "found" ∷ [])
found_or_none (first ∷ others) = found_text (first ∷ others)

abbrev pub found_before_fault : List About → List ℕ
found_before_fault found = found_text found ++ fault_line (Some LinkFailed)

abbrev pub found_status : List About → Status
found_status [] = status.NothingFound
found_status (first ∷ others) = status.Done

abbrev pub search_text : SearchEnd → List ℕ
search_text (search.Ended finder) = found_or_none finder.found
search_text (search.Failed finder) = found_before_fault finder.found
search_text (search.Untold want) = stop_text (stop.NoMemory tt)

abbrev pub search_status : SearchEnd → Status
search_status (search.Ended finder) = found_status finder.found
search_status (search.Failed finder) = status.Link
search_status (search.Untold want) = status.NoMemory tt
