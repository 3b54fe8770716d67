use Rattle.std.proofs.Common.{◌≡◌, ◌∙◌, ap, sym, subst, length, All, List, arith}
use Rattle.knx_model.specs.declared.config.Config.{Config}
use Rattle.knx_model.specs.declared.config.LinkSpec.{LinkSpec}
use Rattle.knx_model.specs.Device.{Fits}
use Rattle.knx_model.specs.Meaning.{link_lines, last_send, links_of, flagged_objects, objects_of, or_inline, meaning}
use Rattle.knx_model.specs.Parameters.{HoldsParameters}
use Rattle.knx_model.specs.declared.address.IndAddr.{IndAddr}
use Rattle.knx_model.specs.declared.project.Statement.{Statement}
use Rattle.table_compiler.specs.Drafts.{IsDraft}
use Rattle.knx_model.specs.Rules.{model_of, named_model}
use Rattle.knx_model.specs.Tables.{StandsFor}
use Rattle.table_compiler.specs.Order.{IsLink}
use Rattle.table_compiler.proofs.Compiled.{if_both, few_links, few_range, once, settings_are, memory_holds}
use Rattle.table_compiler.proofs.compiler.compile_draft.Goals as goal

-- the links are those of the lines
links_are : (c : goal.After-as_slice-4) (device : IndAddr) (ss : List Statement) → IsDraft device c.args.draft.now ss → c.as_slice-3.result.now ≡ links_of (last_send device ss) (link_lines device ss)
links_are c device ss is = c.as_slice-3.ensures.value ∙ c.in_ok-links.ensures.links (last_send device ss) is.sends ∙ ap (links_of (last_send device ss)) (c.as_slice.ensures.value ∙ is.links)

pub lay-requires-clause-settings : goal.lay-requires-clause-settings
lay-requires-clause-settings c =
    let r = c.requires in
    settings_are c.args.catalogue.now r.device r.whole _ _ r.sound (c.model_of-model.ensures.model ∙ ap (λ o. or_inline (named_model c.args.catalogue.now o)) r.is.model) c.model_of-model.ensures.sound
    (c.as_slice-2.ensures.value ∙ c.in_ok-settings.ensures r.device r.whole r.is.values)

pub image_of-requires-clause-few_links : goal.image_of-requires-clause-few_links
image_of-requires-clause-few_links c =
    few_links c.args.catalogue.now c.requires.device c.requires.whole _ c.requires.sound (links_are c c.requires.device c.requires.whole c.requires.is)

pub image_of-requires-clause-links : goal.image_of-requires-clause-links
image_of-requires-clause-links c = rw c.as_slice-3.ensures.value c.in_ok-links.ensures.small

pub image_of-requires-clause-once : goal.image_of-requires-clause-once
image_of-requires-clause-once c =
    once c.args.catalogue.now c.requires.device c.requires.whole _ c.requires.sound (links_are c c.requires.device c.requires.whole c.requires.is)

pub returns : goal.returns
returns c = if_both {P = λ image. (config : Config) → config.links ≡ c.as_slice-3.result.now → config.objects ≡ c.as_slice-4.result.now → HoldsParameters c.in_ok-params.params config.param_len config.params → StandsFor image config} {Q = Fits} c.image_of.result
    (λ image stands fits. record {
      is_image = λ device ss is sound.
          let catalogue = c.args.catalogue.now in
          let config = meaning (record { statements = ss; catalogue = catalogue }) device in
          let model : c.model_of-model.result.now ≡ or_inline (model_of catalogue ss device.raw) = c.model_of-model.ensures.model ∙ ap (λ o. or_inline (named_model catalogue o)) is.model in
          let links : c.as_slice-3.result.now ≡ links_of (last_send device ss) (link_lines device ss) = c.as_slice-3.ensures.value ∙ c.in_ok-links.ensures.links (last_send device ss) is.sends ∙ ap (links_of (last_send device ss)) (c.as_slice.ensures.value ∙ is.links) in
          let small : All IsLink c.as_slice-3.result.now = rw c.as_slice-3.ensures.value c.in_ok-links.ensures.small in
          let each : All IsLink (links_of (last_send device ss) (link_lines device ss)) = subst (λ (ls : List LinkSpec). All IsLink ls) links small in
          let objects : objects_of (flagged_objects (or_inline (model_of catalogue ss device.raw)) device ss) ≡ c.as_slice-4.result.now =
          sym (c.as_slice-4.ensures.value ∙ c.in_ok-objects.ensures.objects device ss is ∙ ap (λ m. objects_of (flagged_objects m device ss)) model) in
          let holds = memory_holds catalogue device ss _ _ _ model c.model_of-model.ensures.sound (c.as_slice-2.ensures.value ∙ c.in_ok-settings.ensures device ss is.values) c.in_ok-params.ensures in
          record {
            stands = stands config (sym links) objects holds;
            fits = fits;
            in_range = record {
              few_links = few_range catalogue device ss sound;
              few_objects = omega (arith, ap length objects, ap length c.as_slice-4.ensures.value, c.in_ok-objects.ensures.few);
              each_group = λ k d lt. (each k d lt).1;
              each_object = λ k d lt. omega (arith, (each k d lt).0);
            };
            few_objects = omega (arith, ap length objects, ap length c.as_slice-4.ensures.value, c.in_ok-objects.ensures.few);
          };
    })
    c.image_of.ensures.stands c.image_of.ensures.fits
