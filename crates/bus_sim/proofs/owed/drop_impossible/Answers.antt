use Rattle.std.proofs.Common.{map, ap, ◌∙◌, rules}
use Rattle.std.proofs.lemmas.Fn.{filter_same}
use Rattle.line_model.specs.Owed.{is_possible}
use Rattle.bus_sim.specs.Begun.{mode_of}
use Rattle.bus_sim.specs.Owing.{meant}
use Rattle.bus_sim.proofs.Owings.{map_filtered}
use Rattle.bus_sim.proofs.owed.drop_impossible.Goals as goal

pub returns : goal.returns
returns c = λ w is counted. ap (map meant) (filter_same _ (λ o. is_possible (mode_of c.args.clients) w (meant o)) _ (λ x b f' k. search (rules, is, counted)) _ _ c.retain.ensures.filtered) ∙ map_filtered meant (is_possible (mode_of c.args.clients) w) c.args.items.now.items
