use Rattle.std.proofs.Common.{Some, List, sym, ap, ◌∙◌}
use Rattle.std.specs.Prelude.{bytes_eq, is_some}
use Rattle.std.specs.Option.{option_map}
use Rattle.std.specs.HashMap.{get_by}
use Rattle.std.proofs.lemmas.Bool.{false≢true}
use Rattle.knx_model.specs.declared.catalogue.model.NamedModel.{NamedModel}
use Rattle.knx_model.specs.declared.project.Statement.{Statement}
use Rattle.knx_model.specs.Models.{model_named}
use Rattle.project_check.specs.Keys.{index_of}
use Rattle.project_check.specs.Knowing.{AreNamed, IndexesNamed}
use Rattle.project_check.proofs.Named.{right_at, none_then, indexed_found, indexed_nothing, known_is}
use Rattle.project_check.proofs.named_models.NamedModels.named.Goals as goal

-- what is kept of the name is the index of its model
kept : (c : goal.After-as_ref) (catalogue : List NamedModel) (ss : List Statement) → AreNamed catalogue c.args.self.now ss → IndexesNamed (option_map index_of c.as_ref.result) (model_named catalogue c.args.name.now)
kept c catalogue ss h =
    let name = c.args.name.now in
    right_at (λ index. IndexesNamed index (model_named catalogue name)) (get_by (λ key. bytes_eq name key.now) c.args.self.now.models) (option_map index_of c.as_ref.result) (sym c.in_ok-get.ensures.value ∙ ap Some (sym c.as_ref.ensures.value)) (h.right name)

pub returns-in_err-get-clause-none : goal.returns-in_err-get-clause-none
returns-in_err-get-clause-none c = rw c.from_residual.ensures (λ catalogue ss h named. absurd (false≢true (ap is_some c.in_err-get.ensures.value ∙ h.present c.args.name.now ∙ named)))

pub returns-in_err-get-clause-known : goal.returns-in_err-get-clause-known
returns-in_err-get-clause-known c = λ catalogue ss h named. absurd (false≢true (ap is_some c.in_err-get.ensures.value ∙ h.present c.args.name.now ∙ named))

pub returns-clause-some : goal.returns-clause-some
returns-clause-some c = indexed_found (λ catalogue ss. model_named catalogue c.args.name.now) c.as_ref.result (kept c)

pub returns-clause-none : goal.returns-clause-none
returns-clause-none c = none_then c.as_ref.result (indexed_nothing (λ catalogue ss. model_named catalogue c.args.name.now) c.as_ref.result (kept c)) (λ nothing catalogue ss h named. nothing catalogue ss h)

pub returns-clause-known : goal.returns-clause-known
returns-clause-known c = λ catalogue ss h named. known_is c.as_ref.result (model_named catalogue c.args.name.now) (kept c catalogue ss h)
