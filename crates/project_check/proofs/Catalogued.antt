-- The models of a catalogue have at most 256 objects.
use Rattle.std.proofs.Common.{◌≡◌, ℕ, suc, ◌<◌, ◌≤◌, Bool, true, false, cond, eqb, List, [], ◌∷◌, length, map, Option, Some, refl, ap, inl, inr, arith}
use Rattle.std.specs.Prelude.{All, bytes_eq}
use Rattle.std.specs.List.{list_any}
use Rattle.std.proofs.lemmas.Bool.{eqb-true, or_cases, false≢true}
use Rattle.std.proofs.lemmas.List.Elements.{All-head, All-tail}
use Rattle.std.proofs.lemmas.Map.Steps.{length-le_from_distinct_below}
use Rattle.std.proofs.lemmas.Option.{same_Some}
use Rattle.knx_model.specs.declared.catalogue.model.Model.{Model}
use Rattle.knx_model.specs.declared.catalogue.model.ModelObject.{ModelObject}
use Rattle.knx_model.specs.declared.catalogue.model.NamedModel.{NamedModel}
use Rattle.knx_model.specs.Models.{IsModel, IsNamedModel, IsObject, in_catalogue, number_of}

found_in : (b : Bool) (named : NamedModel) (rest : Option Model) (m : Model) → IsModel named.model → (rest ≡ Some m → IsModel m) → cond b (Some named.model) rest ≡ Some m → IsModel m
found_in true named rest m here later e = let same : named.model ≡ m = same_Some named.model m e in rw (← same) here
found_in false named rest m here later e = later e

-- a model of a catalogue breaks no rule
pub model_sound : (ms : List NamedModel) (name : List ℕ) (m : Model) → All IsNamedModel ms → in_catalogue ms name ≡ Some m → IsModel m
model_sound [] name m all e = absurd (cc)
model_sound (named ∷ ms) name m all e = found_in (bytes_eq named.name name) named (in_catalogue ms name) m (All-head IsNamedModel named ms all).1 (model_sound ms name m (All-tail IsNamedModel named ms all)) e

numbers_small : (os : List ModelObject) → All IsObject os → (q : ℕ) → list_any (eqb q) (map number_of os) ≡ true → q < 256
numbers_small [] all q e = absurd (false≢true e)
numbers_small (o ∷ os) all q e = elim (or_cases (eqb q o.n) (list_any (eqb q) (map number_of os)) e) as (λ _. q < 256) [
  | inl here ↦ (let same : q ≡ o.n = eqb-true q o.n here in let small : o.n ≤ 255 = (All-head IsObject o os all).up_to_255 in omega arith)
  | inr there ↦ numbers_small os (All-tail IsObject o os all) q there
]

length_numbers : (os : List ModelObject) → length (map number_of os) ≡ length os
length_numbers [] = refl
length_numbers (o ∷ os) = ap (λ n. suc n) (length_numbers os)

pub few_of_model : (m : Model) → IsModel m → length m.objects ≤ 256
few_of_model m is = omega (arith, length_numbers m.objects, length-le_from_distinct_below (map number_of m.objects) 256 is.numbers (numbers_small m.objects is.objects))
