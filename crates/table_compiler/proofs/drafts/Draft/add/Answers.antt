use Rattle.std.proofs.Common.{◌∙◌, ap, cond, bytes_eq, ℕ, List, Some}
use Rattle.std.proofs.lemmas.Map.Text.{btree_map_updates_str}
use Rattle.table_compiler.specs.Settings.{value_in}
use Rattle.table_compiler.proofs.Drafted.{adds_value}
use Rattle.table_compiler.proofs.drafts.Draft.add.Goals as goal

pub returns-in_ok-insert-in-Param : goal.returns-in_ok-insert-in-Param
returns-in_ok-insert-in-Param c = λ device named.
    let old = c.args.self.now.values in
    rw c.in-Param.is (adds_value device _ c.in-Param.name c.in-Param.value c.args.self.now c.insert.new.self (rw c.in-Param.is at named) (λ q.
    btree_map_updates_str c.as_slice-in-Param.result.now old c.insert.new.self _ c.in_ok-insert-in-Param.ensures.updates q
    ∙ ap (λ (text : List ℕ). cond (bytes_eq text q) (Some c.in-Param.value) (value_in old q)) c.as_slice-in-Param.ensures))
