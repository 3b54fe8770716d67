-- `find ADDR` and `find ADDR describe`. It dials the host that its words name. Where that fails, a link fault is told, and nothing else. Else it asks over the
-- link that was dialled who is there, or with `describe` what the gateway is, takes the responses, and hands the link back: all that is told is told of what
-- that link told last.
use Rattle.std.specs.Prelude.{ℕ, ◌≡◌, bytes_eq, codes, List, [], ◌∷◌, None, Option, Some, Result, Ok, Err, option_and_then, if◌then◌else◌}
use Rattle.std.specs.Option.{option_map}
use Rattle.call_words.specs.declared.stop.Stop.TheVariants as stop
use Rattle.discovery.specs.declared.about.About.{About}
use Rattle.discovery.specs.declared.inquiry.Inquiry.{Inquiry}
use Rattle.discovery.specs.declared.inquiry.Inquiry.TheVariants.{Search, Description}
use Rattle.discovery_ends.specs.Looking.{LookedOver}
use Rattle.line_model.specs.Dialled.{Address, DialerNow, FailsToOpen}
use Rattle.line_model.specs.declared.outside.link.LinkFault.{LinkFault}
use Rattle.line_model.specs.declared.outside.link.LinkFault.TheVariants as fault
use Rattle.call_parts.specs.Host.{address_value}
use Rattle.call_parts.specs.Names.{address_of}
use Rattle.knx_top.specs.declared.commands.find.FindNames.{FindNames}
use Rattle.call_parts.specs.declared.ending.End.{End}
use Rattle.call_parts.specs.declared.ending.End.TheVariants as ends
use Rattle.call_parts.specs.declared.searched.SearchEnd.{SearchEnd}
use Rattle.call_parts.specs.declared.searched.SearchEnd.TheVariants as search

-- ADDR [describe]
pub record FindWords : Type 0 where
  pub at : Address
  pub inquiry : Inquiry

-- what the words behind the address ask
abbrev pub inquiry_value : List (List ℕ) → Option Inquiry
inquiry_value [] = Some Search
inquiry_value (word ∷ []) = if bytes_eq word (codes "describe") then Some Description else None
inquiry_value _ = None

abbrev pub find_words : List (List ℕ) → Option FindWords
find_words (address ∷ others) =
    option_and_then (λ (at : Address). option_map (λ (inquiry : Inquiry). let w : FindWords = record { at = at; inquiry = inquiry } in w) (inquiry_value others)) (address_value address)
find_words _ = None

-- ---- what comes of it

-- The link that was dialled by one call was searched over and handed back: to its end, and these gateways were found; or until it failed; or memory is
-- wanting, to go on or to tell what was found.
abbrev pub SearchesTo : FindWords → DialerNow → DialerNow → SearchEnd → Type 0
SearchesTo words before after (search.Ended finder) = LookedOver words.at words.inquiry before after finder.found (Ok tt)
SearchesTo words before after (search.Failed finder) = LookedOver words.at words.inquiry before after finder.found (Err fault.Failed)
SearchesTo words before after (search.Untold want) = (found : List About) × (ended : Result (Unit {0}) LinkFault) × LookedOver words.at words.inquiry before after found ended

-- memory is wanting before anything is dialled; or the dial failed; or a link was searched over
abbrev pub Finds : FindWords → DialerNow → DialerNow → End → Type 0
Finds words before after (ends.Stops told) = (told ≡ stop.NoMemory tt) × (after ≡ before)
Finds words before after ends.NotOpened = FailsToOpen words.at before after
Finds words before after (ends.Finds end) = SearchesTo words before after end
Finds words before after end = ⊥

-- ---- a call, where the dialer told `before` and tells `after`, and `Replied` says what was written

-- `find ADDR [describe]`
pub record RunsFind (words : FindWords) (before after : DialerNow) (Replied : End → Type 0) : Type 0 where
  pub end : End
  pub finds : Finds words before after end
  pub replied : Replied end

-- ---- the words, and how a search ends, in the code

abbrev pub find_words_of : FindNames → FindWords
find_words_of names = record { at = address_of names.at; inquiry = names.inquiry }

-- the end of a search that has found these and ended so
abbrev pub EndsFor : List About → Result (Unit {0}) LinkFault → SearchEnd → Type 0
EndsFor found ended (search.Ended finder) = (finder.found ≡ found) × (ended ≡ Ok tt)
EndsFor found ended (search.Failed finder) = (finder.found ≡ found) × (ended ≡ Err fault.Failed)
EndsFor found ended (search.Untold want) = Unit {0}
