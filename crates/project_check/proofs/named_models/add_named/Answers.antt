use Rattle.std.proofs.Common.{◌≡◌, ap, ◌∙◌}
use Rattle.std.specs.Prelude.{bytes_eq, is_some}
use Rattle.std.specs.HashMap.{get_by}
use Rattle.std.proofs.lemmas.Map.Text.{hash_map_updates_str}
use Rattle.std.proofs.lemmas.Slice.Eq.{bytes_eq-Decides}
use Rattle.knx_model.specs.Models.{model_named}
use Rattle.project_check.specs.Knowing.{IndexesNamed}
use Rattle.project_check.proofs.Named.{put_some, put_right}
use Rattle.project_check.proofs.named_models.add_named.Goals as goal

pub returns-in_ok-insert-clause-present : goal.returns-in_ok-insert-clause-present
returns-in_ok-insert-clause-present c = λ name.
    let old = c.args.models.now in
    let mine = c.args.name.now in
    ap is_some (hash_map_updates_str mine old c.insert.new.self _ c.in_ok-insert.ensures.updates name)
    ∙ put_some (bytes_eq mine name) (get_by (λ key. bytes_eq name key.now) old) c.in_ok-index.index

pub returns-in_ok-insert-clause-right : goal.returns-in_ok-insert-clause-right
returns-in_ok-insert-clause-right c = λ before name.
    let old = c.args.models.now in
    let mine = c.args.name.now in
    rw (hash_map_updates_str mine old c.insert.new.self _ c.in_ok-insert.ensures.updates name)
    (put_right (λ index. IndexesNamed index (model_named c.args.catalogue.now name)) (bytes_eq mine name) (get_by (λ key. bytes_eq name key.now) old) c.in_ok-index.index
    (λ same. let is : mine ≡ name = (bytes_eq-Decides mine name).0 same in rw (← is) c.in_ok-index.ensures) (before name))
