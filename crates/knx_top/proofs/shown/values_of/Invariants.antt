use Rattle.std.proofs.Common.{◌≡◌}
use Rattle.std.specs.List.{filter_map, range_with_len}
use Rattle.knx_model.specs.DeviceState.{value_of}
use Rattle.call_words.specs.Printed.{shown}
use Rattle.knx_top.proofs.shown.values_of.Given as goal

-- the values of the objects so far
abbrev pub invariant-loop-before : goal.invariant-loop-before
invariant-loop-before l = l.values ≡ filter_map (λ o. shown o (value_of l.device o)) (range_with_len 1 l.before)
