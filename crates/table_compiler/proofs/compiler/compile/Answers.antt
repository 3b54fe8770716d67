use Rattle.std.proofs.Common.{◌≡◌, IfOk, None, subst}
use Rattle.knx_model.specs.Meaning.{Installation}
use Rattle.knx_model.specs.Rules.{first_broken}
use Rattle.table_compiler.specs.Images.{IsImage}
use Rattle.table_compiler.proofs.Compiled.{if_ok}
use Rattle.table_compiler.proofs.compiler.compile.Goals as goal

pub compile_draft-requires : goal.compile_draft-requires
compile_draft-requires c = record {
  device = c.args.device;
  whole = c.statements.result.now;
  is = c.in_ok-draft.ensures;
  sound = rw (c.catalogue.ensures.value, c.statements.ensures.value) c.statements.ensures.sound;
}

is : (c : goal.After-drop-draft-3) → IfOk c.compile_draft.result (λ image. IsImage c.args.checked.now c.args.device image)
is c =
    let same : record { statements = c.statements.result.now; catalogue = c.catalogue.result.now } ≡ c.args.checked.now = λ i. record { statements = c.statements.ensures.value i; catalogue = c.catalogue.ensures.value i } in
    let sound : first_broken c.catalogue.result.now c.statements.result.now ≡ None = rw (c.catalogue.ensures.value, c.statements.ensures.value) c.statements.ensures.sound in
    let here : Installation = record { statements = c.statements.result.now; catalogue = c.catalogue.result.now } in
    let compiled : IfOk c.compile_draft.result (λ image. IsImage here c.args.device image) = if_ok c.compile_draft.result (λ image h. h.is_image c.args.device c.statements.result.now c.in_ok-draft.ensures sound) c.compile_draft.ensures in
    subst (λ (i : Installation). IfOk c.compile_draft.result (λ image. IsImage i c.args.device image)) same compiled

pub returns-clause-stands : goal.returns-clause-stands
returns-clause-stands c = if_ok {P = λ image. IsImage c.args.checked.now c.args.device image} c.compile_draft.result (λ image h. h.stands) (is c)

pub returns-clause-fits : goal.returns-clause-fits
returns-clause-fits c = if_ok {P = λ image. IsImage c.args.checked.now c.args.device image} c.compile_draft.result (λ image h. h.fits) (is c)

pub returns-clause-few_objects : goal.returns-clause-few_objects
returns-clause-few_objects c = if_ok {P = λ image. IsImage c.args.checked.now c.args.device image} c.compile_draft.result (λ image h. h.few_objects) (is c)

pub returns-clause-in_range : goal.returns-clause-in_range
returns-clause-in_range c = if_ok {P = λ image. IsImage c.args.checked.now c.args.device image} c.compile_draft.result (λ image h. h.in_range) (is c)
