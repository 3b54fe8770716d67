use Rattle.std.proofs.Common.{◌∙◌}
use Rattle.std.specs.Prelude.{bytes_eq}
use Rattle.std.specs.HashMap.{get_by}
use Rattle.std.proofs.lemmas.Map.Text.{hash_map_updates_str}
use Rattle.project_check.specs.Keys.{range_of}
use Rattle.project_check.proofs.Named.{put_first, absent}
use Rattle.project_check.proofs.models.add_range.Goals as goal

pub returns-in_ok-insert : goal.returns-in_ok-insert
returns-in_ok-insert c = λ name.
    let old = c.args.ranges.now in
    let mine = c.as_slice-name.result.now in
    rw (← c.as_slice-name.ensures) (hash_map_updates_str mine old c.insert.new.self _ c.in_ok-insert.ensures.updates name
    ∙ put_first (bytes_eq mine name) (get_by (λ key. bytes_eq name key.now) old) (range_of c.args.field.now) (absent mine name old c.if-not-contains_key.ensures))
