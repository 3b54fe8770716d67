-- The first statement of a part of a text that breaks a rule.
use Rattle.std.specs.Prelude.{◌≡◌, ℕ, ◌-◌, List, take, drop, Option, None}
use Rattle.knx_model.specs.declared.catalogue.model.NamedModel.{NamedModel}
use Rattle.knx_model.specs.declared.project.Statement.{Statement}
use Rattle.knx_model.specs.declared.refusal.Refused.{Refused}
use Rattle.knx_model.specs.LeastLine.{first_refused}
use Rattle.knx_model.specs.Rules.{broken_from}
use Rattle.project_check.specs.Knowing.{DeclaresAll}
use Rattle.project_check.specs.declared.rules.Whole.{Whole}

-- the first statement from one place up to another that breaks a rule
abbrev pub first_broken_between : List NamedModel → List Statement → ℕ → ℕ → Option Refused
first_broken_between catalogue ss from to = first_refused (broken_from catalogue ss from (take (to - from) (drop from ss)))

-- this is the first statement of a part of a text that breaks a rule, where no statement before the part breaks one
abbrev pub IsFirstBetween : Whole → List Statement → ℕ → ℕ → Option Refused → Type 0
IsFirstBetween whole ss from to found = (catalogue : List NamedModel) → DeclaresAll catalogue whole ss → first_broken_between catalogue ss 0 from ≡ None → found ≡ first_broken_between catalogue ss from to
