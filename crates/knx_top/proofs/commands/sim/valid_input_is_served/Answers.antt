use Rattle.knx_top.proofs.CalmRuns.{run_served}
use Rattle.knx_top.proofs.RunsTold.{script_told}
use Rattle.knx_top.specs.Complete.{sim_texts_told}
use Rattle.knx_top.specs.commands.sim.{commission_told}
use Rattle.knx_top.proofs.commands.sim.valid_input_is_served.Goals as goal

pub returns : goal.returns
returns c =
    λ words files files' before after out out' ending valid quiet still within t.
    run_served (commission_told words (sim_texts_told files.file words)) after out out' ending quiet within (script_told words files files' before after out out' ending valid still t)
