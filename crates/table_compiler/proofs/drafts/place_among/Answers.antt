use Rattle.std.proofs.Common.{get_or}
use Rattle.std.proofs.lemmas.List.Folds.{list_any_none}
use Rattle.knx_model.specs.declared.address.IndAddr.{IndAddr}
use Rattle.table_compiler.specs.Drafts.{names}
use Rattle.table_compiler.proofs.Searched.{if_none}
use Rattle.table_compiler.proofs.drafts.place_among.Goals as goal

pub returns-in_err-device_of-clause-none : goal.returns-in_err-device_of-clause-none
returns-in_err-device_of-clause-none c =
    if_none c.from_residual.result (list_any_none (λ (d : IndAddr). names d.raw c.args.what.now) c.args.devices.now (λ k d lt. c.in_err-device_of.ensures.none (get_or c.args.devices.now k d).raw))
