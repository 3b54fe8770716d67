use Rattle.toml.specs.View.{table_view}
use Rattle.catalogue.specs.FirstRefusal.{entries}
use Rattle.catalogue.proofs.FirstRefusal.{taken}
use Rattle.catalogue.proofs.Sound.{models_good}
use Rattle.catalogue.proofs.read.read_catalogue.Goals as goal

pub of-requires : goal.of-requires
of-requires c =
    let document = table_view c.in_ok-table.table in
    let models = c.in_ok-models.models in
    models_good (entries document) models (taken document models c.in_ok-models.ensures.stated)
