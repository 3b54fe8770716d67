-- The first rule that a line breaks.
use Rattle.std.specs.Prelude.{Bool, List, [], ◌∷◌, Option, Some, None, if◌then◌else◌}
use Rattle.knx_model.specs.declared.refusal.Why.{Why}

-- of rules, each with whether it is broken, the first broken one
abbrev pub first_broken_rule : List (Bool × Why) → Option Why
first_broken_rule [] = None
first_broken_rule (rule ∷ rules) = if rule.0 then Some rule.1 else first_broken_rule rules
