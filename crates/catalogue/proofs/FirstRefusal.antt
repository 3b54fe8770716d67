-- What is refused is refused for its first fault, and what is taken has none.
use Rattle.std.proofs.Common.{◌≡◌, ◌≢◌, ℕ, ◌≤◌, ◌⊎◌, inl, inr, max, Bool, true, false, not, ◌&&◌, cond, bytes_eq, codes, List, [], ◌∷◌, ◌++◌, All, Option, Some, None, Result, Ok, Err, refl, sym, subst, append_assoc, arith}
use Rattle.std.specs.List.{list_any, Any}
use Rattle.std.proofs.lemmas.Bool.{and_parts}
use Rattle.std.proofs.lemmas.Bool.Decides.{nat_tests}
use Rattle.std.proofs.lemmas.List.{append-nil, map_push}
use Rattle.std.proofs.lemmas.List.Elements.{All-nil, All-push}
use Rattle.std.proofs.lemmas.List.Folds.{Any-from_list_any}
use Rattle.std.proofs.lemmas.Slice.Eq.{bytes_eq-Decides}
use Rattle.knx_model.specs.declared.catalogue.model.ModelField.{ModelField}
use Rattle.knx_model.specs.declared.catalogue.model.NamedModel.{NamedModel}
use Rattle.knx_model.specs.declared.catalogue.refused.CatRefused.{CatRefused}
use Rattle.knx_model.specs.declared.catalogue.refused.CatRefused.TheVariants.{Shape, Overlap, Range}
use Rattle.knx_model.specs.Numbers.{is_name}
use Rattle.toml.specs.Data.{Data, Members, no_members, member}
use Rattle.catalogue.specs.declared.stated.StatedField.{StatedField}
use Rattle.catalogue.specs.declared.stated.StatedModel.{StatedModel}
use Rattle.catalogue.specs.Catalogue.{natural, is_place, is_span, range_of, with_name, field_of, shares_bit, judged_field, judged, fields_after, with_fields, judged_model, named_model, models_after, models_of}
use Rattle.catalogue.specs.FirstRefusal.{SharesBit, AreSound, IsOutOfRange, IsOverlapping, IsFirstAtFault, IsShaped, IsModelOf, IsMisshapen, HasFault, entries, AreModelsOf, IsFirstRefused}
use Rattle.catalogue.specs.Shapes.{model_of}
use Rattle.catalogue.specs.Taken.{HasBits}
use Rattle.catalogue.proofs.Apart.{at_greater}
use Rattle.catalogue.proofs.Cases.{fine, same_ok, err_ok, map_parts, then_parts, same_err, ok_err, then_refused}
use Rattle.catalogue.proofs.Judged.{range_good, judged_parts, apart_push, named_if}

-- ---- parameters

wide : (params : ℕ) (s : StatedField) (f : ModelField) → field_of params s ≡ Some f → HasBits f
unfolding range_of
wide params s f e =
    let (r, is, same) = map_parts (with_name s.name) (range_of params s.numbers) f e in
    let good = range_good params (natural s.numbers.bit) (natural s.numbers.width) (natural s.numbers.min) (natural s.numbers.max) (natural s.numbers.default) r is in
    let (place, _) = and_parts (is_place params r.bit r.width) (is_span r.width r.min r.max r.default) good in
    let some : 1 ≤ r.width = grind (arith, nat_tests, place) in
    subst HasBits same some

-- the parameters so far, and that each has a bit
record AreBegun (params : ℕ) (done : List StatedField) (earlier : List ModelField) : Type 0 where
  sound : AreSound params done earlier
  widths : All HasBits earlier

none_begun : (params : ℕ) → AreBegun params [] []
none_begun params = record { sound = record { ranges = refl; apart = tt }; widths = All-nil HasBits }

one_more : (params : ℕ) (done : List StatedField) (earlier : List ModelField) (s : StatedField) (f : ModelField) → AreBegun params done earlier → field_of params s ≡ Some f → list_any (shares_bit f) earlier ≡ false → AreBegun params (done ++ s ∷ []) (earlier ++ f ∷ [])
one_more params done earlier s f begun of free = record {
  sound = record {
    ranges = rw (map_push (field_of params) done s, map_push (λ f. Some f) earlier f, begun.sound.ranges, of) refl;
    apart = apart_push earlier f begun.sound.apart free;
  };
  widths = All-push HasBits earlier f begun.widths (wide params s f of);
}

fields_sound : (model : List ℕ) (params : ℕ) (done : List StatedField) (earlier : List ModelField) (ss : List StatedField) (fs : List ModelField) → AreBegun params done earlier → fields_after model params earlier ss ≡ Ok fs → AreSound params (done ++ ss) fs
unfolding judged
fields_sound model params done earlier [] fs begun e = subst (AreSound params (done ++ [])) (same_ok earlier fs e) (rw (append-nil done) begun.sound)
fields_sound model params done earlier (s ∷ ss) fs begun e =
    let (f, first, rest) = then_parts (judged model params earlier s) (λ f. fields_after model params (earlier ++ f ∷ []) ss) fs e in
    let (of, free) = judged_parts model s.name earlier (field_of params s) f first in
    subst (λ l. AreSound params l fs) (append_assoc done (s ∷ []) ss) (fields_sound model params (done ++ s ∷ []) (earlier ++ f ∷ []) ss fs (one_more params done earlier s f begun of free) rest)

any_shared : (f : ModelField) (gs : List ModelField) → HasBits f → All HasBits gs → list_any (shares_bit f) gs ≡ true → Any (SharesBit f) gs
any_shared f gs some widths h =
    let (k, g, lt, is, both) = Any-from_list_any (shares_bit f) gs h in
    let more : HasBits g = subst HasBits is (widths k g lt) in
    let (low, high, of) = at_greater f g both some more in
    (k, g, lt, is, (max f.bit g.bit, grind (arith, nat_tests, low, high), of))

overlapped : (t : Bool) (f : ModelField) (x why : CatRefused) → cond t (Err x) (fine f) ≡ Err why → (t ≡ true) × (x ≡ why)
overlapped true f x why e = (refl, same_err ModelField x why e)
overlapped false f x why e = absurd (ok_err f why e)

abbrev IsFault : List ℕ → ℕ → List ModelField → StatedField → CatRefused → Type 0
IsFault model params earlier s why = IsOutOfRange model params s why ⊎ IsOverlapping model params earlier s why

fault_of : (model : List ℕ) (params : ℕ) (earlier : List ModelField) (s : StatedField) (o : Option ModelField) (why : CatRefused) → All HasBits earlier → field_of params s ≡ o → judged_field model s.name earlier o ≡ Err why → IsFault model params earlier s why
fault_of model params earlier s None why widths is e = inl (record { numbers = is; told = sym (same_err ModelField (Range model s.name) why e) })
fault_of model params earlier s (Some f) why widths is e =
    let (shared, told) = overlapped (list_any (shares_bit f) earlier) f (Overlap model s.name) why e in
    inr (record { field = f; in_range = is; shared = any_shared f earlier (wide params s f is) widths shared; told = sym told })

fields_refused : (model : List ℕ) (params : ℕ) (done : List StatedField) (earlier : List ModelField) (ss : List StatedField) (why : CatRefused) → AreBegun params done earlier → fields_after model params earlier ss ≡ Err why → IsFirstAtFault model params (done ++ ss) why
unfolding judged
fields_refused model params done earlier [] why begun e = absurd (ok_err earlier why e)
fields_refused model params done earlier (s ∷ ss) why begun e = elim (then_refused (judged model params earlier s) (λ f. fields_after model params (earlier ++ f ∷ []) ss) why e) [
  | inl here ↦ record { earlier = done; parameter = s; later = ss; order = refl; fields = earlier; sound = begun.sound; fault = fault_of model params earlier s (field_of params s) why begun.widths refl here }
  | inr on ↦
      let (f, first, rest) = on in
      let (of, free) = judged_parts model s.name earlier (field_of params s) f first in
      subst (λ l. IsFirstAtFault model params l why) (append_assoc done (s ∷ []) ss) (fields_refused model params (done ++ s ∷ []) (earlier ++ f ∷ []) ss why (one_more params done earlier s f begun of free) rest)
]

-- ---- models

not_same : (name : List ℕ) → not (bytes_eq name (codes "inline")) ≡ true → name ≢ codes "inline"
not_same name h same = let is : bytes_eq name (codes "inline") ≡ true = (bytes_eq-Decides name (codes "inline")).1 same in grind (arith, h, is)

model_sound : (name : List ℕ) (d : Data) (o : Option StatedModel) (m : NamedModel) → model_of d ≡ o → is_name name ≡ true → name ≢ codes "inline" → judged_model name o ≡ Ok m → IsModelOf name d m
model_sound name d None m is named other e = absurd (err_ok (Shape name) m e)
model_sound name d (Some s) m is named other e =
    let (fs, first, rest) = then_parts (fields_after name s.params [] s.parameters) (λ fields. Ok (with_fields name s fields)) m e in
    let shape : IsShaped name d s = record { named = named; not_inline = other; states = is } in
    let made : IsModelOf name d (with_fields name s fs) = record { stated = s; shape = shape; sound = fields_sound name s.params [] [] s.parameters fs (none_begun s.params) first; name_is = refl; params = refl; objects = refl } in
    subst (IsModelOf name d) (same_ok (with_fields name s fs) m rest) made

named_sound : (name : List ℕ) (d : Data) (m : NamedModel) → named_model name d ≡ Ok m → IsModelOf name d m
unfolding named_model
named_sound name d m e =
    let (is, of) = named_if _ _ _ m e in
    let (named, other) = and_parts (is_name name) (not (bytes_eq name (codes "inline"))) is in
    model_sound name d (model_of d) m refl named (not_same name other) of

model_refused : (name : List ℕ) (d : Data) (o : Option StatedModel) (why : CatRefused) → model_of d ≡ o → is_name name ≡ true → name ≢ codes "inline" → judged_model name o ≡ Err why → IsMisshapen name d why ⊎ HasFault name d why
model_refused name d None why is named other e = inl (record { fault = inr is; told = sym (same_err NamedModel (Shape name) why e) })
model_refused name d (Some s) why is named other e = elim (then_refused (fields_after name s.params [] s.parameters) (λ fields. Ok (with_fields name s fields)) why e) [
  | inl first ↦ inr (record {
    stated = s;
    shape = record { named = named; not_inline = other; states = is };
    first = fields_refused name s.params [] [] s.parameters why (none_begun s.params) first;
  })
  | inr on ↦ let (fs, _, rest) = on in absurd (ok_err (with_fields name s fs) why rest)
]

misnamed : (a b : Bool) (r : Result NamedModel CatRefused) (x why : CatRefused) → cond (a && not b) r (Err x) ≡ Err why → (((a ≡ false) ⊎ (b ≡ true)) × (x ≡ why)) ⊎ ((a ≡ true) × (not b ≡ true) × (r ≡ Err why))
misnamed false b r x why e = inl (inl refl, same_err NamedModel x why e)
misnamed true true r x why e = inl (inr refl, same_err NamedModel x why e)
misnamed true false r x why e = inr (refl, refl, e)

named_refused : (name : List ℕ) (d : Data) (why : CatRefused) → named_model name d ≡ Err why → IsMisshapen name d why ⊎ HasFault name d why
unfolding named_model
named_refused name d why e = elim (misnamed (is_name name) (bytes_eq name (codes "inline")) (judged_model name (model_of d)) (Shape name) why e) [
  | inl wrong ↦
      let (which, told) = wrong in
      let fault : (is_name name ≡ false) ⊎ (name ≡ codes "inline") = elim which [ inl unnamed ↦ inl unnamed | inr same ↦ inr ((bytes_eq-Decides name (codes "inline")).0 same) ] in
      inl (record { fault = inl fault; told = sym told })
  | inr on ↦ let (named, other, rest) = on in model_refused name d (model_of d) why refl named (not_same name other) rest
]

-- ---- documents

models_push : (es : List (List ℕ × Data)) (ms : List NamedModel) (name : List ℕ) (d : Data) (m : NamedModel) → AreModelsOf es ms → IsModelOf name d m → AreModelsOf (es ++ (name, d) ∷ []) (ms ++ m ∷ [])
models_push [] [] name d m all one = (one, tt)
models_push (e ∷ es) (n ∷ ns) name d m all one = (all.0, models_push es ns name d m all.1 one)
models_push [] (n ∷ ns) name d m all one = absurd all
models_push (e ∷ es) [] name d m all one = absurd all

models_sound : (done : List (List ℕ × Data)) (earlier : List NamedModel) (ms : Members) (models : List NamedModel) → AreModelsOf done earlier → models_after earlier ms ≡ Ok models → AreModelsOf (done ++ entries ms) models
models_sound done earlier no_members models begun e = subst (AreModelsOf (done ++ [])) (same_ok earlier models e) (rw (append-nil done) begun)
models_sound done earlier (member name d ms) models begun e =
    let (m, first, rest) = then_parts (named_model name d) (λ m. models_after (earlier ++ m ∷ []) ms) models e in
    subst (λ l. AreModelsOf l models) (append_assoc done ((name, d) ∷ []) (entries ms)) (models_sound (done ++ (name, d) ∷ []) (earlier ++ m ∷ []) ms models (models_push done earlier name d m begun (named_sound name d m first)) rest)

models_refused : (done : List (List ℕ × Data)) (earlier : List NamedModel) (ms : Members) (why : CatRefused) → AreModelsOf done earlier → models_after earlier ms ≡ Err why → IsFirstRefused (done ++ entries ms) why
models_refused done earlier no_members why begun e = absurd (ok_err earlier why e)
models_refused done earlier (member name d ms) why begun e = elim (then_refused (named_model name d) (λ m. models_after (earlier ++ m ∷ []) ms) why e) [
  | inl here ↦ record { earlier = done; name = name; value = d; later = entries ms; order = refl; models = earlier; sound = begun; refused = named_refused name d why here }
  | inr on ↦
      let (m, first, rest) = on in
      subst (λ l. IsFirstRefused l why) (append_assoc done ((name, d) ∷ []) (entries ms)) (models_refused (done ++ (name, d) ∷ []) (earlier ++ m ∷ []) ms why (models_push done earlier name d m begun (named_sound name d m first)) rest)
]

pub taken : (document : Members) (models : List NamedModel) → models_of document ≡ Ok models → AreModelsOf (entries document) models
taken document models e = models_sound [] [] document models tt e

pub first : (document : Members) (why : CatRefused) → models_of document ≡ Err why → IsFirstRefused (entries document) why
first document why e = models_refused [] [] document why tt e
