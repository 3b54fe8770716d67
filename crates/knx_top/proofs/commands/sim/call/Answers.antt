use Rattle.std.proofs.Common.{refl}
use Rattle.call_parts.specs.Ending.{report_in}
use Rattle.knx_top.specs.commands.sim.{sim_words_of}
use Rattle.knx_top.proofs.Watches.{sim_read}
use Rattle.knx_top.proofs.Calls.Sims.{runs_script}
use Rattle.knx_top.proofs.commands.sim.call.Goals as goal

pub returns-clause-told : goal.returns-clause-told
returns-clause-told g c =
    runs_script (sim_words_of c.args.names.now) _ _ _ _ c.read_sim_texts-texts.result c.commission.result c.read_sim_texts-texts.ensures.read c.read_sim_texts-texts.ensures.counts c.commission.ensures.comes refl

pub returns-clause-watched : goal.returns-clause-watched
returns-clause-watched g c =
    sim_read (g.F.Files.now c.args.files.now).file (sim_words_of c.args.names.now) c.read_sim_texts-texts.result _ _ c.read_sim_texts-texts.ensures.read (report_in c.commission.result) c.commission.ensures.watched
