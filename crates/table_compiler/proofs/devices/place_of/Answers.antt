use Rattle.std.proofs.Common.{◌≡◌, ℕ, false, eqb, Option, IfNone, sym, subst}
use Rattle.std.specs.List.{list_any}
use Rattle.table_compiler.proofs.Searched.{not_found}
use Rattle.table_compiler.proofs.devices.place_of.Goals as goal

pub returns-clause-none : goal.returns-clause-none
returns-clause-none c =
    let ds = c.args.devices.now in
    subst (λ (o : Option ℕ). IfNone o (list_any (λ d. eqb d.raw c.args.device.raw) ds ≡ false)) (sym c.ok.ensures.value) (not_found ds c.args.device c.binary_search.result c.binary_search.ensures.position c.requires)
