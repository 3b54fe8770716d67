-- The tests one after another come to the first of the list that fails.
use Rattle.std.proofs.Common.{◌≡◌, ◌≢◌, List, [], ◌∷◌, ◌++◌, Option, Some, None, Result, Ok, Err, refl, ap, ◌∙◌, subst, inl, inr, ◌⊎◌, ℕ}
use Rattle.std.specs.Option.{option_map}
use Rattle.catalogue.specs.Catalogue.{catalogue_of}
use Rattle.knx_model.specs.declared.catalogue.model.NamedModel.{NamedModel}
use Rattle.knx_model.specs.declared.catalogue.refused.CatRefused.{CatRefused}
use Rattle.call_words.specs.declared.input_file.InputFile.{InputFile}
use Rattle.call_words.specs.declared.stop.Stop.{Stop}
use Rattle.call_words.specs.declared.stop.Stop.TheVariants as stop
use Rattle.knx_model.specs.declared.refusal.Refused.{Refused}
use Rattle.knx_model.specs.Answers.{◌>>=◌}
use Rattle.call_parts.specs.Ending.{StopsFor}
use Rattle.call_parts.specs.Input.{fault_in, octets_of, first_some}
use Rattle.call_parts.specs.Judged.{ComesTo, read_of, models_or, models_of, unless_refused, unless_broken, unless_failed}
use Rattle.call_parts.specs.Stops.{refusal_of, given_or, catalogue_refused, models_in, text_refused}
use Rattle.call_parts.specs.declared.ending.End.{End}
use Rattle.call_parts.specs.declared.ending.End.TheVariants as ends
use Rattle.call_parts.specs.declared.input.Reading.{Reading}
use Rattle.call_parts.specs.declared.input.Reading.TheVariants as read

-- the first of some tests that fails, or else a value
abbrev pub unless_stopped : {A : Type 0} → List (Option Stop) → A → Result A Stop
unless_stopped [] x = Ok x
unless_stopped (None ∷ tests) x = unless_stopped tests x
unless_stopped (Some why ∷ tests) x = Err why

pub stopped_by : {A : Type 0} (tests : List (Option Stop)) (x : A) (why : Stop) → first_some tests ≡ Some why → unless_stopped tests x ≡ Err why
stopped_by [] x why e = absurd cc
stopped_by (None ∷ tests) x why e = stopped_by tests x why e
stopped_by (Some told ∷ tests) x why e = ap (λ (s : Stop). Err s) (same told why e)
  where
    same : (told why : Stop) → Some told ≡ Some why → told ≡ why
    same told why e = cc

pub stopped_by_none : {A : Type 0} (tests : List (Option Stop)) (x : A) → first_some tests ≡ None → unless_stopped tests x ≡ Ok x
stopped_by_none [] x e = refl
stopped_by_none (None ∷ tests) x e = stopped_by_none tests x e
stopped_by_none (Some told ∷ tests) x e = absurd cc

-- where none failed, it is that value
pub passed : {A : Type 0} (tests : List (Option Stop)) (x y : A) → unless_stopped tests x ≡ Ok y → y ≡ x
passed [] x y e = same x y e
  where
    same : {A : Type 0} (x y : A) → (let answer : Result A Stop = Ok x in answer) ≡ Ok y → y ≡ x
    same x y e = cc
passed (None ∷ tests) x y e = passed tests x y e
passed (Some told ∷ tests) x y e = absurd cc

-- some tests, and those of the step that follows
bind_tests : {A B : Type 0} (tests rest : List (Option Stop)) (x : A) (next : A → Result B Stop) (v : B) → next x ≡ unless_stopped rest v → (unless_stopped tests x >>= next) ≡ unless_stopped (tests ++ rest) v
bind_tests [] rest x next v e = e
bind_tests (None ∷ tests) rest x next v e = bind_tests tests rest x next v e
bind_tests (Some why ∷ tests) rest x next v e = refl

pub step : {A B : Type 0} (tests rest : List (Option Stop)) (r : Result A Stop) (x : A) (next : A → Result B Stop) (v : B) → r ≡ unless_stopped tests x → next x ≡ unless_stopped rest v → (r >>= next) ≡ unless_stopped (tests ++ rest) v
step tests rest r x next v is e = ap (λ (q : Result _ Stop). q >>= next) is ∙ bind_tests tests rest x next v e

-- ---- each step

pub read_step : (name : Option (List ℕ)) (reading : Reading) → read_of name reading ≡ unless_stopped (fault_in name reading ∷ []) (octets_of reading)
read_step name read.Unnamed = refl
read_step name read.Unread = refl
read_step name (read.Whole octets) = refl
read_step name (read.Fault why) = refl

models_of_answer : (answer : Result (List NamedModel) CatRefused) → models_or answer ≡ unless_stopped (option_map (λ why. let s : Stop = stop.CatalogueRefused why in s) (refusal_of answer) ∷ []) (given_or [] answer)
models_of_answer (Ok models) = refl
models_of_answer (Err why) = refl

pub models_step : (reading : Reading) → models_of reading ≡ unless_stopped (catalogue_refused reading ∷ []) (models_in reading)
models_step read.Unnamed = refl
models_step read.Unread = refl
models_step (read.Whole octets) = models_of_answer (catalogue_of octets)
models_step (read.Fault why) = refl

pub text_step : {A : Type 0} (place : InputFile) (default : A) (answer : Result A Refused) → unless_refused place answer ≡ unless_stopped (text_refused place answer ∷ []) (given_or default answer)
text_step place default (Ok x) = refl
text_step place default (Err why) = refl

pub broken_step : {A : Type 0} (place : InputFile) (broken : Option Refused) (x : A) → unless_broken place broken x ≡ unless_stopped (option_map (λ refused. let s : Stop = stop.Refused place refused in s) broken ∷ []) x
broken_step place None x = refl
broken_step place (Some why) x = refl

pub failed_step : {A : Type 0} (failed : Option Stop) (x : A) → unless_failed failed x ≡ unless_stopped (failed ∷ []) x
failed_step None x = refl
failed_step (Some why) x = refl

-- ---- what comes of what was judged

pub stops_by : {A : Type 0} (Stays : Type 0) (Does : A → End → Type 0) (tests : List (Option Stop)) (asked : A) (j : Result A Stop) (end : End) → j ≡ unless_stopped tests asked → ComesTo Stays Does j end
    → (why : Stop) → first_some tests ≡ Some why → StopsFor why end × Stays
stops_by {A} Stays Does tests asked j end is comes why e = subst (λ (r : Result A Stop). ComesTo Stays Does r end) (is ∙ stopped_by tests asked why e) comes

pub does_by : {A : Type 0} (Stays : Type 0) (Does : A → End → Type 0) (tests : List (Option Stop)) (asked : A) (j : Result A Stop) (end : End) → j ≡ unless_stopped tests asked → ComesTo Stays Does j end
    → first_some tests ≡ None → Does asked end
does_by {A} Stays Does tests asked j end is comes e = subst (λ (r : Result A Stop). ComesTo Stays Does r end) (is ∙ stopped_by_none tests asked e) comes

-- ---- where the call stops before anything is begun

is_memory : (told : Stop) → (told ≡ stop.NoMemory tt) ⊎ (told ≢ stop.NoMemory tt)
is_memory (stop.NoMemory want) = inl refl
is_memory stop.Usage = inr (λ q. cc)
is_memory (stop.NotThere name) = inr (λ q. cc)
is_memory (stop.ReadFailed name) = inr (λ q. cc)
is_memory (stop.CatalogueRefused refused) = inr (λ q. cc)
is_memory (stop.Refused place refused) = inr (λ q. cc)

same_stop : (A : Type 0) (why told : Stop) → (let one : Result A Stop = Err why in one) ≡ Err told → told ≡ why
same_stop A why told e = cc

no_stop : (A : Type 0) (asked : A) (told : Stop) → (let one : Result A Stop = Ok asked in one) ≡ Err told → ⊥
no_stop A asked told e = cc

pub stopped : {A : Type 0} (Stays : Type 0) (Does : A → End → Type 0) (j : Result A Stop) (told : Stop) → (told ≢ stop.NoMemory tt → j ≡ Err told) → Stays
    → ((asked : A) → told ≡ stop.NoMemory tt → Does asked (ends.Stops told)) → ComesTo Stays Does j (ends.Stops told)
stopped {A} Stays Does (Err why) told h stays wants = elim (is_memory told) [
  | inl memory ↦ (inr memory, stays)
  | inr other ↦ (inl (same_stop A why told (h other)), stays)
]
stopped {A} Stays Does (Ok asked) told h stays wants = elim (is_memory told) [
  | inl memory ↦ wants asked memory
  | inr other ↦ absurd (no_stop A asked told (h other))
]
