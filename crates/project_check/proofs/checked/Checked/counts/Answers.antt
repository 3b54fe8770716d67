use Rattle.std.proofs.Common.{◌≡◌, length, refl, sym, ap, ◌∙◌, arith}
use Rattle.std.specs.Prelude.{sum_by}
use Rattle.std.proofs.lemmas.List.Sorted.{length_permutation}
use Rattle.knx_model.specs.Counts.{model_objects}
use Rattle.knx_model.specs.Meaning.{Installation}
use Rattle.knx_model.specs.Rules.{count_lines, devices_of, is_object_line, links_in}
use Rattle.project_check.specs.Counting.{line_objects}
use Rattle.project_check.proofs.Limits.{few_devices, links_fit, objects_fit}
use Rattle.project_check.proofs.Totals.{devices_counted, models_counted}
use Rattle.project_check.proofs.checked.Checked.counts.Goals as goal

pub totals_of-totals-requires-clause-devices : goal.totals_of-totals-requires-clause-devices
totals_of-totals-requires-clause-devices c = rw c.as_slice.ensures (few_devices c.self.inside.catalogue.now c.self.inside.project.now.statements c.self.invariant.sound)

pub totals_of-totals-requires-clause-links : goal.totals_of-totals-requires-clause-links
totals_of-totals-requires-clause-links c = rw c.as_slice.ensures (links_fit c.self.inside.catalogue.now c.self.inside.project.now.statements c.self.invariant.sound c.self.inside.project.now.spelled)

pub overflow_cast-result : goal.overflow_cast-result
overflow_cast-result c =
    let ss = c.self.inside.project.now.statements in
    omega (arith, c.len.ensures, length_permutation (devices_of ss) c.self.inside.devices.items c.self.invariant.all, devices_counted ss, few_devices c.self.inside.catalogue.now ss c.self.invariant.sound)

pub overflow_cast-result-2 : goal.overflow_cast-result-2
overflow_cast-result-2 c =
    let ss = c.self.inside.project.now.statements in
    let lines : c.totals_of-totals.result.object_lines ≡ count_lines is_object_line ss = c.totals_of-totals.ensures.objects ∙ ap (count_lines is_object_line) c.as_slice.ensures in
    omega (arith, lines, objects_fit c.self.inside.catalogue.now ss c.self.invariant.sound c.self.inside.project.now.spelled)

pub overflow_add-result : goal.overflow_add-result
overflow_add-result c =
    let ss = c.self.inside.project.now.statements in
    let lines : c.totals_of-totals.result.object_lines ≡ count_lines is_object_line ss = c.totals_of-totals.ensures.objects ∙ ap (count_lines is_object_line) c.as_slice.ensures in
    omega (arith, lines, objects_fit c.self.inside.catalogue.now ss c.self.invariant.sound c.self.inside.project.now.spelled, c.totals_of-totals.ensures.few)

pub overflow_cast-result-3 : goal.overflow_cast-result-3
overflow_cast-result-3 c =
    let ss = c.self.inside.project.now.statements in
    let lines : c.totals_of-totals.result.links ≡ sum_by (λ s. links_in s.what) ss = c.totals_of-totals.ensures.links ∙ ap (sum_by (λ s. links_in s.what)) c.as_slice.ensures in
    omega (arith, lines, links_fit c.self.inside.catalogue.now ss c.self.invariant.sound c.self.inside.project.now.spelled)

pub returns : goal.returns
returns c =
    let ss = c.self.inside.project.now.statements in
    let i : Installation = record { statements = ss; catalogue = c.self.inside.catalogue.now } in
    let devices : c.len.result ≡ length (devices_of ss) = omega (arith, c.len.ensures, length_permutation (devices_of ss) c.self.inside.devices.items c.self.invariant.all) in
    let objects : c.totals_of-totals.result.object_lines ≡ count_lines is_object_line ss = c.totals_of-totals.ensures.objects ∙ ap (count_lines is_object_line) c.as_slice.ensures in
    let models : c.totals_of-totals.result.model_objects ≡ sum_by (model_objects i) (devices_of ss) =
    c.totals_of-totals.ensures.models ∙ ap (sum_by (λ s. line_objects i.catalogue s.what)) c.as_slice.ensures ∙ sym (models_counted i c.self.invariant.sound) in
    let links : c.totals_of-totals.result.links ≡ sum_by (λ s. links_in s.what) ss = c.totals_of-totals.ensures.links ∙ ap (sum_by (λ s. links_in s.what)) c.as_slice.ensures in
    record { value = rw (← c.self.view_is, devices, objects, models, links) refl }
