-- The models of a catalogue break no rule.
use Rattle.std.proofs.Common.{◌≡◌, ℕ, true, ◌&&◌, List, [], ◌∷◌, map, All, Some, refl, ap, subst, arith}
use Rattle.std.proofs.lemmas.Bool.{and_parts}
use Rattle.std.proofs.lemmas.Bool.Decides.{nat_tests}
use Rattle.std.proofs.lemmas.List.Elements.{All-nil, All-cons, All-head, All-tail}
use Rattle.knx_model.specs.declared.catalogue.model.ModelField.{ModelField}
use Rattle.knx_model.specs.declared.catalogue.model.NamedModel.{NamedModel}
use Rattle.knx_model.specs.Models.{name_of, IsField, IsNamedModel}
use Rattle.knx_model.specs.Numbers.{is_name}
use Rattle.toml.specs.Data.{Data}
use Rattle.catalogue.specs.declared.stated.FieldRange.{FieldRange}
use Rattle.catalogue.specs.declared.stated.StatedField.{StatedField}
use Rattle.catalogue.specs.Shapes.{stated_name}
use Rattle.catalogue.specs.Catalogue.{natural, is_place, is_span, range_of, with_name, field_of}
use Rattle.catalogue.specs.FirstRefusal.{IsModelOf, AreModelsOf}
use Rattle.catalogue.proofs.Judged.{range_good}
use Rattle.catalogue.proofs.Cases.{map_parts}
use Rattle.catalogue.proofs.SoundShapes.{HasName, model_good}

field_in : (params : ℕ) (name : List ℕ) (r : FieldRange) → is_name name ≡ true → (is_place params r.bit r.width && is_span r.width r.min r.max r.default) ≡ true → IsField params (with_name name r)
field_in params name r named h =
    let (place, span) = and_parts (is_place params r.bit r.width) (is_span r.width r.min r.max r.default) h in
    record {
      name = named;
      some = grind (arith, nat_tests, place);
      short = grind (arith, nat_tests, place);
      within = grind (arith, nat_tests, place);
      least = grind (arith, nat_tests, span);
      greatest = grind (arith, nat_tests, span);
      holds = grind (arith, nat_tests, span);
    }

field_good : (params : ℕ) (s : StatedField) (f : ModelField) → HasName s → field_of params s ≡ Some f → IsField params f × (stated_name s ≡ name_of f)
unfolding range_of
field_good params s f named e =
    let (r, is, same) = map_parts (with_name s.name) (range_of params s.numbers) f e in
    (subst (IsField params) same (field_in params s.name r named (range_good params (natural s.numbers.bit) (natural s.numbers.width) (natural s.numbers.min) (natural s.numbers.max) (natural s.numbers.default) r is)), ap name_of same)

fields_good : (params : ℕ) (ss : List StatedField) (fs : List ModelField) → All HasName ss → map (field_of params) ss ≡ map Some fs → All (IsField params) fs × (map stated_name ss ≡ map name_of fs)
fields_good params [] [] named e = (All-nil (IsField params), refl)
fields_good params (s ∷ ss) (f ∷ fs) named e =
    let here : field_of params s ≡ Some f = cc in
    let rest : map (field_of params) ss ≡ map Some fs = cc in
    let (good, name) = field_good params s f (All-head HasName s ss named) here in
    let (all, names) = fields_good params ss fs (All-tail HasName s ss named) rest in
    (All-cons (IsField params) f fs good all, rw (name, names) refl)
fields_good params [] (f ∷ fs) named e = cc
fields_good params (s ∷ ss) [] named e = cc

model_named : (name : List ℕ) (value : Data) (m : NamedModel) → IsModelOf name value m → IsNamedModel m
model_named name value m of =
    let stated = model_good value of.stated of.shape.states in
    let (fields, names) = fields_good of.stated.params of.stated.parameters m.model.parameters stated.parameters of.sound.ranges in (
      rw of.name_is of.shape.named,
      record {
        params = rw of.params stated.params;
        objects = rw of.objects stated.objects;
        numbers = rw of.objects stated.numbers;
        fields = rw of.params fields;
        names = rw (← names) stated.names;
        apart = of.sound.apart;
      },
    )

pub models_good : (es : List (List ℕ × Data)) (ms : List NamedModel) → AreModelsOf es ms → All IsNamedModel ms
models_good [] [] all = All-nil IsNamedModel
models_good (e ∷ es) (m ∷ ms) all = All-cons IsNamedModel m ms (model_named e.0 e.1 m all.0) (models_good es ms all.1)
models_good [] (m ∷ ms) all = absurd all
models_good (e ∷ es) [] all = absurd all
