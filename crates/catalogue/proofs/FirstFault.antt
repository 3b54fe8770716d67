-- What has a first fault is refused for it, and what has none is taken.
use Rattle.std.proofs.Common.{◌≡◌, ◌≢◌, ℕ, ◌⊎◌, inl, inr, Bool, true, false, not, ◌&&◌, cond, bytes_eq, codes, List, [], ◌∷◌, ◌++◌, map, All, Option, Some, None, Result, Ok, Err, refl, sym, ap, ◌∙◌, subst, append_assoc, arith}
use Rattle.std.specs.List.{list_any, Any}
use Rattle.std.proofs.lemmas.Bool.{false_from_ne_true}
use Rattle.std.proofs.lemmas.Bool.Decides.{nat_tests}
use Rattle.std.proofs.lemmas.List.{append-nil}
use Rattle.std.proofs.lemmas.List.Elements.{All-head, All-tail}
use Rattle.std.proofs.lemmas.List.Folds.{list_any-from_Any}
use Rattle.std.proofs.lemmas.Slice.Eq.{bytes_eq-Decides}
use Rattle.knx_model.specs.declared.catalogue.model.ModelField.{ModelField}
use Rattle.knx_model.specs.declared.catalogue.model.NamedModel.{NamedModel}
use Rattle.knx_model.specs.declared.catalogue.refused.CatRefused.{CatRefused}
use Rattle.knx_model.specs.declared.catalogue.refused.CatRefused.TheVariants.{Shape, Overlap, Range}
use Rattle.knx_model.specs.Answers.{◌>>=◌}
use Rattle.knx_model.specs.Models.{AreApart, AllApart}
use Rattle.knx_model.specs.Numbers.{is_name}
use Rattle.toml.specs.Data.{Data, Members, no_members, member}
use Rattle.catalogue.specs.declared.stated.StatedField.{StatedField}
use Rattle.catalogue.specs.declared.stated.StatedModel.{StatedModel}
use Rattle.catalogue.specs.Catalogue.{field_of, shares_bit, judged_field, judged, fields_after, with_fields, judged_model, named_model, models_after, models_of}
use Rattle.catalogue.specs.FirstRefusal.{SharesBit, AreSound, IsOutOfRange, IsOverlapping, IsFirstAtFault, IsShaped, IsModelOf, IsMisshapen, HasFault, entries, AreModelsOf, IsFirstRefused}
use Rattle.catalogue.specs.Shapes.{model_of}

on_ok : {X Y : Type 0} (r : Result X CatRefused) (x : X) (next : X → Result Y CatRefused) (z : Result Y CatRefused) → r ≡ Ok x → next x ≡ z → (r >>= next) ≡ z
on_ok r x next z is e = rw is e

on_err : {X Y : Type 0} (r : Result X CatRefused) (next : X → Result Y CatRefused) (why : CatRefused) → r ≡ Err why → (r >>= next) ≡ Err why
on_err r next why is = rw is refl

-- ---- parameters

middle : {X : Type 0} (P : X → Type 0) (xs : List X) (y : X) (ys : List X) → All P (xs ++ y ∷ ys) → P y
middle P [] y ys all = All-head P y ys all
middle P (x ∷ xs) y ys all = middle P xs y ys (All-tail P x (xs ++ y ∷ ys) all)

unshared : (f g : ModelField) → AreApart g f → shares_bit f g ≡ false
unshared f g apart = elim apart [ inl before ↦ grind (arith, nat_tests, before) | inr after ↦ grind (arith, nat_tests, after) ]

free_of : (gs : List ModelField) (f : ModelField) (fs : List ModelField) → AllApart (gs ++ f ∷ fs) → list_any (shares_bit f) gs ≡ false
free_of [] f fs all = refl
free_of (g ∷ gs) f fs all = rw (unshared f g (middle (AreApart g) gs f fs all.0), free_of gs f fs all.1) refl

any_of : (f : ModelField) (gs : List ModelField) → Any (SharesBit f) gs → list_any (shares_bit f) gs ≡ true
any_of f gs any =
    let (k, g, lt, is, (b, of_f, of_g)) = any in
    let shared : shares_bit f g ≡ true = grind (arith, nat_tests, of_f, of_g) in
    list_any-from_Any (shares_bit f) gs (k, g, lt, is, shared)

field_ok : (model name : List ℕ) (earlier : List ModelField) (o : Option ModelField) (f : ModelField) → o ≡ Some f → list_any (shares_bit f) earlier ≡ false → judged_field model name earlier o ≡ Ok f
field_ok model name earlier o f is free = rw (is, free) refl

field_out : (model name : List ℕ) (earlier : List ModelField) (o : Option ModelField) → o ≡ None → judged_field model name earlier o ≡ Err (Range model name)
field_out model name earlier o is = rw is refl

field_shared : (model name : List ℕ) (earlier : List ModelField) (o : Option ModelField) (f : ModelField) → o ≡ Some f → list_any (shares_bit f) earlier ≡ true → judged_field model name earlier o ≡ Err (Overlap model name)
field_shared model name earlier o f is shared = rw (is, shared) refl

passed : (model : List ℕ) (params : ℕ) (earlier : List ModelField) (ss : List StatedField) (gs : List ModelField) (later : List StatedField) → map (field_of params) ss ≡ map Some gs → AllApart (earlier ++ gs)
    → fields_after model params earlier (ss ++ later) ≡ fields_after model params (earlier ++ gs) later
unfolding judged
passed model params earlier [] [] later e all = rw (append-nil earlier) refl
passed model params earlier (s ∷ ss) (g ∷ gs) later e all =
    let here : field_of params s ≡ Some g = cc in
    let rest : map (field_of params) ss ≡ map Some gs = cc in
    let same : (earlier ++ g ∷ []) ++ gs ≡ earlier ++ g ∷ gs = append_assoc earlier (g ∷ []) gs in
    let first : judged model params earlier s ≡ Ok g = field_ok model s.name earlier (field_of params s) g here (free_of earlier g gs all) in
    let next : fields_after model params (earlier ++ g ∷ []) (ss ++ later) ≡ fields_after model params ((earlier ++ g ∷ []) ++ gs) later = passed model params (earlier ++ g ∷ []) ss gs later rest (subst AllApart (sym same) all) in
    on_ok (judged model params earlier s) g (λ f. fields_after model params (earlier ++ f ∷ []) (ss ++ later)) (fields_after model params (earlier ++ g ∷ gs) later) first (next ∙ ap (λ l. fields_after model params l later) same)
passed model params earlier [] (g ∷ gs) later e all = cc
passed model params earlier (s ∷ ss) [] later e all = cc

fields_taken : (model : List ℕ) (params : ℕ) (ss : List StatedField) (fs : List ModelField) → AreSound params ss fs → fields_after model params [] ss ≡ Ok fs
fields_taken model params ss fs sound = subst (λ l. fields_after model params [] l ≡ Ok fs) (append-nil ss) (passed model params [] ss fs [] sound.ranges sound.apart)

fault_told : (model : List ℕ) (params : ℕ) (earlier : List ModelField) (s : StatedField) (why : CatRefused) → IsOutOfRange model params s why ⊎ IsOverlapping model params earlier s why → judged model params earlier s ≡ Err why
unfolding judged
fault_told model params earlier s why fault = elim fault [
  | inl out ↦ field_out model s.name earlier (field_of params s) out.numbers ∙ ap (λ w. Err w) (sym out.told)
  | inr over ↦ field_shared model s.name earlier (field_of params s) over.field over.in_range (any_of over.field earlier over.shared) ∙ ap (λ w. Err w) (sym over.told)
]

fields_told : (model : List ℕ) (params : ℕ) (ss : List StatedField) (why : CatRefused) → IsFirstAtFault model params ss why → fields_after model params [] ss ≡ Err why
fields_told model params ss why at =
    let judgement = judged model params at.fields at.parameter in
    let told = on_err judgement (λ f. fields_after model params (at.fields ++ f ∷ []) at.later) why (fault_told model params at.fields at.parameter why at.fault) in
    rw at.order (passed model params [] at.earlier at.fields (at.parameter ∷ at.later) at.sound.ranges at.sound.apart ∙ told)

-- ---- models

named_as : (a b : Bool) (r : Result NamedModel CatRefused) (x : CatRefused) → a ≡ true → b ≡ false → cond (a && not b) r (Err x) ≡ r
named_as a b r x is no_inline = rw (is, no_inline) refl

other_name : (name : List ℕ) → name ≢ codes "inline" → bytes_eq name (codes "inline") ≡ false
other_name name other = false_from_ne_true _ (λ e. other ((bytes_eq-Decides name (codes "inline")).0 e))

stated_as : (name : List ℕ) (o : Option StatedModel) (s : StatedModel) (z : Result NamedModel CatRefused) → o ≡ Some s → (fields_after name s.params [] s.parameters >>= (λ fields. Ok (with_fields name s fields))) ≡ z → judged_model name o ≡ z
stated_as name o s z is e = rw is e

shaped : (name : List ℕ) (value : Data) (s : StatedModel) (z : Result NamedModel CatRefused) → IsShaped name value s → (fields_after name s.params [] s.parameters >>= (λ fields. Ok (with_fields name s fields))) ≡ z → named_model name value ≡ z
unfolding named_model
shaped name value s z shape e = named_as (is_name name) (bytes_eq name (codes "inline")) (judged_model name (model_of value)) (Shape name) shape.named (other_name name shape.not_inline) ∙ stated_as name (model_of value) s z shape.states e

same_model : (name : List ℕ) (s : StatedModel) (m : NamedModel) → m.name ≡ name → m.model.params ≡ s.params → m.model.objects ≡ s.objects → with_fields name s m.model.parameters ≡ m
same_model name s m e f g = rw (← e, ← f, ← g) refl

model_taken : (name : List ℕ) (value : Data) (m : NamedModel) → IsModelOf name value m → named_model name value ≡ Ok m
model_taken name value m of =
    let s = of.stated in
    let same = same_model name s m of.name_is of.params of.objects in
    shaped name value s (Ok m) of.shape (on_ok (fields_after name s.params [] s.parameters) m.model.parameters (λ fields. Ok (with_fields name s fields)) (Ok m) (fields_taken name s.params s.parameters m.model.parameters of.sound) (ap (λ n. Ok n) same))

unnamed : (a b : Bool) (r : Result NamedModel CatRefused) (x : CatRefused) → (a ≡ false) ⊎ (b ≡ true) → cond (a && not b) r (Err x) ≡ Err x
unnamed false b r x wrong = refl
unnamed true true r x wrong = refl
unnamed true false r x wrong = elim wrong [ inl e ↦ cc | inr e ↦ cc ]

unstated : (t : Bool) (name : List ℕ) (o : Option StatedModel) → o ≡ None → cond t (judged_model name o) (Err (Shape name)) ≡ Err (Shape name)
unstated true name o is = rw is refl
unstated false name o is = refl

misshapen_told : (name : List ℕ) (value : Data) (why : CatRefused) → IsMisshapen name value why → named_model name value ≡ Err why
unfolding named_model
misshapen_told name value why wrong =
    let named = is_name name in
    let inline = bytes_eq name (codes "inline") in
    let shape : named_model name value ≡ Err (Shape name) = elim wrong.fault [
      | inl which ↦
          let either : (named ≡ false) ⊎ (inline ≡ true) = elim which [ inl e ↦ inl e | inr e ↦ inr ((bytes_eq-Decides name (codes "inline")).1 e) ] in
          unnamed named inline (judged_model name (model_of value)) (Shape name) either
      | inr e ↦ unstated (named && not inline) name (model_of value) e
    ] in
    shape ∙ ap (λ w. Err w) (sym wrong.told)

model_told : (name : List ℕ) (value : Data) (why : CatRefused) → IsMisshapen name value why ⊎ HasFault name value why → named_model name value ≡ Err why
model_told name value why refused = elim refused [
  | inl wrong ↦ misshapen_told name value why wrong
  | inr fault ↦
      let s = fault.stated in
      shaped name value s (Err why) fault.shape (on_err (fields_after name s.params [] s.parameters) (λ fields. Ok (with_fields name s fields)) why (fields_told name s.params s.parameters why fault.first))
]

-- ---- documents

models_taken : (earlier : List NamedModel) (document : Members) (models : List NamedModel) → AreModelsOf (entries document) models → models_after earlier document ≡ Ok (earlier ++ models)
models_taken earlier no_members [] all = rw (append-nil earlier) refl
models_taken earlier (member name value more) (m ∷ ms) all =
    let next = models_taken (earlier ++ m ∷ []) more ms all.1 in
    on_ok (named_model name value) m (λ m. models_after (earlier ++ m ∷ []) more) (Ok (earlier ++ m ∷ ms)) (model_taken name value m all.0) (next ∙ ap (λ l. Ok l) (append_assoc earlier (m ∷ []) ms))
models_taken earlier no_members (m ∷ ms) all = absurd all
models_taken earlier (member name value more) [] all = absurd all

models_told : (earlier : List NamedModel) (document : Members) (es : List (List ℕ × Data)) (models : List NamedModel) (name : List ℕ) (value : Data) (later : List (List ℕ × Data)) (why : CatRefused)
    → entries document ≡ es ++ (name, value) ∷ later → AreModelsOf es models → named_model name value ≡ Err why → models_after earlier document ≡ Err why
models_told earlier no_members [] models name value later why order all told = cc
models_told earlier no_members (e ∷ es) models name value later why order all told = cc
models_told earlier (member n d more) [] [] name value later why order all told =
    let here : List ℕ × Data = (n, d) in
    let there : List ℕ × Data = (name, value) in
    let same : here ≡ there = cc in
    on_err (named_model n d) (λ m. models_after (earlier ++ m ∷ []) more) why (ap (λ e. named_model e.0 e.1) same ∙ told)
models_told earlier (member n d more) (e ∷ es) (m ∷ ms) name value later why order all told =
    let here : List ℕ × Data = (n, d) in
    let same : here ≡ e = cc in
    let rest : entries more ≡ es ++ (name, value) ∷ later = cc in
    on_ok (named_model n d) m (λ m. models_after (earlier ++ m ∷ []) more) (Err why) (ap (λ e. named_model e.0 e.1) same ∙ model_taken e.0 e.1 m all.0) (models_told (earlier ++ m ∷ []) more es ms name value later why rest all.1 told)
models_told earlier (member n d more) [] (m ∷ ms) name value later why order all told = absurd all
models_told earlier (member n d more) (e ∷ es) [] name value later why order all told = absurd all

pub is_taken : (document : Members) (models : List NamedModel) → AreModelsOf (entries document) models → models_of document ≡ Ok models
is_taken document models all = models_taken [] document models all

pub is_refused : (document : Members) (why : CatRefused) → IsFirstRefused (entries document) why → models_of document ≡ Err why
is_refused document why at = models_told [] document at.earlier at.models at.name at.value at.later why at.order at.sound (model_told at.name at.value why at.refused)
