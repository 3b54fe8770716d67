-- `big N START`: the line of N devices that the number START makes is commissioned: a run of `sim`, with nothing before it and a script in which nothing happens.
-- It is told in one line, and nothing is refused.
use Rattle.std.specs.Prelude.{ℕ, List, None, Option, ◌≡◌, ◌∷◌, ◌^◌, ◌-◌, [], option_and_then, Result}
use Rattle.bus_sim.specs.Loaded.{BusNow}
use Rattle.call_words.specs.declared.stop.Stop.{Stop}
use Rattle.knx_gen.specs.Generated.{generated}
use Rattle.knx_model.specs.Counts.{counts_of}
use Rattle.knx_model.specs.Meaning.{Installation}
use Rattle.knx_model.specs.Numbers.{numeral, up_to}
use Rattle.knx_model.specs.declared.counts.Counts.{Counts}
use Rattle.call_parts.specs.Ending.{report_in}
use Rattle.call_parts.specs.Options.{no_options}
use Rattle.call_parts.specs.OptionValues.{from_1_to}
use Rattle.knx_top.specs.Ran.{Commission, Left, commission_of}
use Rattle.knx_top.specs.commands.sim.{Runs, with_new}
use Rattle.call_parts.specs.declared.ending.End.{End}
use Rattle.call_parts.specs.declared.ending.End.TheVariants as ends
use Rattle.std.specs.Option.{option_map}

-- N START
pub record BigWords : Type 0 where
  pub devices : ℕ
  pub start : ℕ

abbrev pub most_devices : ℕ
most_devices = 254

-- 1 to 20 decimal digits, of a number below 2^64
abbrev pub start_value : List ℕ → Option ℕ
start_value word = up_to (2 ^ 64 - 1) (numeral 10 20 word)

abbrev pub big_words : List (List ℕ) → Option BigWords
big_words (devices ∷ start ∷ []) =
    option_and_then (λ (n : ℕ). option_map (λ (x : ℕ). let w : BigWords = record { devices = n; start = x } in w) (start_value start)) (from_1_to most_devices devices)
big_words _ = None

-- ---- what it asks for

-- the project that the number makes, without a catalogue
abbrev pub made : BigWords → Installation
made words = record { statements = generated words.devices words.start; catalogue = [] }

abbrev pub nothing : Installation
nothing = record { statements = []; catalogue = [] }

-- that it is loaded over a line of blank devices
abbrev pub commission_made : BigWords → Commission
commission_made words = commission_of (made words) nothing [] no_options

-- ---- what comes of it

-- the end of a run of `sim`, with the sums in place of its report
abbrev pub summed : Counts → End → End
summed counts (ends.Reports told) = ends.Sums told counts
summed counts end = end

-- ---- a call, where `Replied` says what was written

-- `big N START`
pub record RunsMade (words : BigWords) (before : BusNow) (after : Left) (Replied : End → Type 0) : Type 0 where
  -- how the run of `sim` ends; it stops for want of memory alone
  pub end : End
  pub runs : Runs (commission_made words) before after.line end
  pub report : after.report ≡ report_in end
  pub replied : Replied (summed (counts_of (made words)) end)

-- ---- the tests of `sim` behind the statements of NEW: what the code does

abbrev pub judged_made : BigWords → Result Commission Stop
judged_made words = with_new no_options [] [] [] (generated words.devices words.start)
