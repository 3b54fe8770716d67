use Rattle.std.proofs.Common.{List, ap, ◌∙◌}
use Rattle.std.specs.List.{flat_map, zip}
use Rattle.knx_model.specs.declared.config.Image.{Image}
use Rattle.call_words.specs.ReportText.{tables_lines}
use Rattle.knx_top.proofs.commands.tables.tables_text.Goals as goal

pub returns : goal.returns
returns g c = record {
  devices = c.devices.result.now;
  all = c.devices.ensures.all;
  ascending = c.devices.ensures.ascending;
  images = c.in_ok-images.images;
  stand = c.in_ok-images.ensures.stands c.devices.result.now c.devices.ensures.all c.devices.ensures.ascending;
  lines = c.in_ok-text.ensures ∙ ap (λ (images : List Image). flat_map (λ p. tables_lines p.0 p.1) (zip c.devices.result.now images)) c.as_slice.ensures;
}
