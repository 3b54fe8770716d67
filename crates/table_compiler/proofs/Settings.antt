-- The settings of a device, and the fields that they are laid into.
use Rattle.std.proofs.Common.{◌≡◌, ℕ, inl, inr, false, List, [], ◌∷◌, get_or, map, eqb, bytes_eq, ltb, All, Option, Some, None, unwrap_or, refl, ◌∙◌, subst, arith}
use Rattle.std.specs.Prelude.{Contains}
use Rattle.std.specs.Option.{option_map}
use Rattle.std.specs.List.{AllByRecursion, IsDistinct, cons_option, filter_map}
use Rattle.std.proofs.lemmas.Bool.{eq-eqb, ne_eqb, ltb-false, or_parts}
use Rattle.std.proofs.lemmas.List.{get_or_default}
use Rattle.std.proofs.lemmas.List.Elements.{All-from_recursion, recursion_from_All}
use Rattle.std.proofs.lemmas.Slice.Eq.{bytes_eq-Decides}
use Rattle.knx_model.specs.declared.catalogue.model.Model.{Model}
use Rattle.knx_model.specs.declared.catalogue.model.ModelField.{ModelField}
use Rattle.knx_model.specs.declared.config.ParamValue.{ParamValue}
use Rattle.knx_model.specs.declared.address.IndAddr.{IndAddr}
use Rattle.knx_model.specs.declared.project.Statement.{Statement}
use Rattle.knx_model.specs.Meaning.{last_value, param_value, params_of}
use Rattle.knx_model.specs.Models.{field_in, name_of, IsField, IsModel, AreApart, AllApart}
use Rattle.knx_model.specs.Parameters.{set_value, laid, laid_field, first_bit, IsSetting, AreSettings}
use Rattle.knx_model.specs.Rules.{is_out_of}
use Rattle.table_compiler.specs.Settings.{valued, settings}
use Rattle.table_compiler.proofs.GroupPlaces.{eqb_sym}

abbrev bit_of : ModelField → ℕ
bit_of f = f.bit

-- ---- no two fields begin at one bit

other_bits : (len : ℕ) (f : ModelField) (fs : List ModelField) → IsField len f → AllByRecursion (AreApart f) fs → AllByRecursion (IsField len) fs → AllByRecursion (λ b. eqb f.bit b ≡ false) (map bit_of fs)
other_bits len f [] here apart fields = tt
other_bits len f (g ∷ fs) here apart fields = (ne_eqb f.bit g.bit (λ e. one f g here fields.0 apart.0 e), other_bits len f fs here apart.1 fields.1)
  where
    one : (f g : ModelField) → IsField len f → IsField len g → AreApart f g → f.bit ≡ g.bit → ⊥
    one f g here there (inl before) e = let some = here.some in omega arith
    one f g here there (inr after) e = let some = there.some in omega arith

pub bits_differ : (len : ℕ) (fs : List ModelField) → AllByRecursion (IsField len) fs → AllApart fs → IsDistinct eqb (map bit_of fs)
unfolding IsDistinct
bits_differ len [] fields apart = tt
bits_differ len (f ∷ fs) fields apart = (other_bits len f fs fields.0 (recursion_from_All (AreApart f) fs apart.0) fields.1, bits_differ len fs fields.1 apart.1)

-- ---- the settings of fields, each of which may have a value

-- the setting of another field
passed_by : (f g : ModelField) (v : Option ℕ) (ps : List ParamValue) → eqb f.bit g.bit ≡ false → set_value (cons_option (option_map (valued g) v) ps) f ≡ set_value ps f
passed_by f g None ps apart = refl
passed_by f g (Some v) ps apart = rw (eqb_sym g.bit f.bit, apart) refl

its_own : (f : ModelField) (v : Option ℕ) (ps : List ParamValue) → set_value ps f ≡ f.default → set_value (cons_option (option_map (valued f) v) ps) f ≡ unwrap_or v f.default
its_own f None ps unset = unset
its_own f (Some v) ps unset = rw (eq-eqb f.bit f.bit refl, eq-eqb f.width f.width refl) refl

beside : (f g : ModelField) (v : Option ℕ) (ps : List ParamValue) → eqb f.bit g.bit ≡ false → AllByRecursion (λ b. eqb f.bit b ≡ false) (map first_bit ps) → AllByRecursion (λ b. eqb f.bit b ≡ false) (map first_bit (cons_option (option_map (valued g) v) ps))
beside f g None ps apart all = all
beside f g (Some v) ps apart all = (apart, all)

still_distinct : (f : ModelField) (v : Option ℕ) (ps : List ParamValue) → AllByRecursion (λ b. eqb f.bit b ≡ false) (map first_bit ps) → IsDistinct eqb (map first_bit ps) → IsDistinct eqb (map first_bit (cons_option (option_map (valued f) v) ps))
unfolding IsDistinct
still_distinct f None ps apart distinct = distinct
still_distinct f (Some v) ps apart distinct = (apart, distinct)

one_setting : (m : Model) (f : ModelField) (v : Option ℕ) (ps : List ParamValue) → Contains m.parameters f → ((n : ℕ) → v ≡ Some n → is_out_of (Some f) n ≡ false) → AllByRecursion (IsSetting m) ps → AllByRecursion (IsSetting m) (cons_option (option_map (valued f) v) ps)
one_setting m f None ps member range all = all
one_setting m f (Some v) ps member range all =
    let within = or_parts (ltb v f.min) (ltb f.max v) (range v refl) in
    (record { field = f; member = member; same = rw (eq-eqb f.bit f.bit refl, eq-eqb f.width f.width refl) refl; least = ltb-false v f.min within.0; greatest = ltb-false f.max v within.1 }, all)

module _ (value : ModelField → Option ℕ) where
  abbrev pub set_fields : List ModelField → List ParamValue
  set_fields fs = filter_map (λ f. option_map (valued f) (value f)) fs

  others_unset : (f : ModelField) (fs : List ModelField) → AllByRecursion (λ b. eqb f.bit b ≡ false) (map bit_of fs) → set_value (set_fields fs) f ≡ f.default
  others_unset f [] apart = refl
  others_unset f (g ∷ fs) apart = passed_by f g (value g) (set_fields fs) apart.0 ∙ others_unset f fs apart.1

  later_set : (f : ModelField) (fs gs : List ModelField) → AllByRecursion (λ b. eqb f.bit b ≡ false) (map bit_of gs) → AllByRecursion (λ g. set_value (set_fields fs) g ≡ unwrap_or (value g) g.default) gs
      → AllByRecursion (λ g. set_value (set_fields (f ∷ fs)) g ≡ unwrap_or (value g) g.default) gs
  later_set f fs [] apart h = tt
  later_set f fs (g ∷ gs) apart h = (passed_by g f (value f) (set_fields fs) (eqb_sym g.bit f.bit ∙ apart.0) ∙ h.0, later_set f fs gs apart.1 h.1)

  pub each_set : (fs : List ModelField) → IsDistinct eqb (map bit_of fs) → AllByRecursion (λ f. set_value (set_fields fs) f ≡ unwrap_or (value f) f.default) fs
  unfolding IsDistinct
  each_set [] distinct = tt
  each_set (f ∷ fs) distinct = (its_own f (value f) (set_fields fs) (others_unset f fs distinct.0), later_set f fs fs distinct.0 (each_set fs distinct.1))

  other_settings : (f : ModelField) (fs : List ModelField) → AllByRecursion (λ b. eqb f.bit b ≡ false) (map bit_of fs) → AllByRecursion (λ b. eqb f.bit b ≡ false) (map first_bit (set_fields fs))
  other_settings f [] apart = tt
  other_settings f (g ∷ fs) apart = beside f g (value g) (set_fields fs) apart.0 (other_settings f fs apart.1)

  pub once : (fs : List ModelField) → IsDistinct eqb (map bit_of fs) → IsDistinct eqb (map first_bit (set_fields fs))
  unfolding IsDistinct
  once [] distinct = tt
  once (f ∷ fs) distinct = still_distinct f (value f) (set_fields fs) (other_settings f fs distinct.0) (once fs distinct.1)

  -- each setting is one of the model's fields with a value in its range
  pub each_setting : (m : Model) (fs : List ModelField) → AllByRecursion (λ f. Contains m.parameters f × ((n : ℕ) → value f ≡ Some n → is_out_of (Some f) n ≡ false)) fs → AllByRecursion (IsSetting m) (set_fields fs)
  each_setting m [] all = tt
  each_setting m (f ∷ fs) all = one_setting m f (value f) (set_fields fs) all.0.0 all.0.1 (each_setting m fs all.1)

-- ---- the field of a name

later_named : (f : ModelField) (fs gs : List ModelField) → AllByRecursion (λ n. bytes_eq f.name n ≡ false) (map name_of gs) → AllByRecursion (λ g. field_in fs g.name ≡ Some g) gs → AllByRecursion (λ g. field_in (f ∷ fs) g.name ≡ Some g) gs
later_named f fs [] apart h = tt
later_named f fs (g ∷ gs) apart h = (rw apart.0 h.0, later_named f fs gs apart.1 h.1)

pub each_named : (fs : List ModelField) → IsDistinct bytes_eq (map name_of fs) → AllByRecursion (λ f. field_in fs f.name ≡ Some f) fs
unfolding IsDistinct
each_named [] distinct = tt
each_named (f ∷ fs) distinct = (rw ((bytes_eq-Decides f.name f.name).1 refl) refl, later_named f fs fs distinct.0 (each_named fs distinct.1))

-- ---- the settings of a device

same_map : {X Y : Type 0} (f g : X → Y) (xs : List X) → AllByRecursion (λ x. f x ≡ g x) xs → map f xs ≡ map g xs
same_map f g [] all = refl
same_map f g (x ∷ xs) all = λ i. all.0 i ∷ same_map f g xs all.1 i

bits_of_model : (m : Model) → IsModel m → IsDistinct eqb (map bit_of m.parameters)
bits_of_model m model = bits_differ m.params m.parameters (recursion_from_All (IsField m.params) m.parameters model.fields) model.apart

pub laid_are : (m : Model) (device : IndAddr) (ss : List Statement) → IsModel m → laid m (settings m device ss) ≡ params_of m device ss
unfolding laid params_of
laid_are m device ss model =
    let value : ModelField → Option ℕ = λ f. last_value device ss f.name in
    let set : AllByRecursion (λ f. set_value (settings m device ss) f ≡ unwrap_or (value f) f.default) m.parameters = each_set value m.parameters (bits_of_model m model) in
    same_map (laid_field (settings m device ss)) (param_value device ss) m.parameters (valued_alike m.parameters set)
  where
    valued_alike : (fs : List ModelField) → AllByRecursion (λ f. set_value (settings m device ss) f ≡ unwrap_or (last_value device ss f.name) f.default) fs → AllByRecursion (λ f. laid_field (settings m device ss) f ≡ param_value device ss f) fs
    valued_alike [] all = tt
    valued_alike (f ∷ fs) all = ((λ i. record { bit = f.bit; width = f.width; value = all.0 i }), valued_alike fs all.1)

pub are_settings : (m : Model) (device : IndAddr) (ss : List Statement) → IsModel m → ((name : List ℕ) (n : ℕ) → last_value device ss name ≡ Some n → is_out_of (field_in m.parameters name) n ≡ false) → AreSettings m (settings m device ss)
are_settings m device ss model range =
    let value : ModelField → Option ℕ = λ f. last_value device ss f.name in
    let named : All (λ f. field_in m.parameters f.name ≡ Some f) m.parameters = All-from_recursion (λ f. field_in m.parameters f.name ≡ Some f) m.parameters (each_named m.parameters model.names) in
    let each : All (λ f. Contains m.parameters f × ((n : ℕ) → value f ≡ Some n → is_out_of (Some f) n ≡ false)) m.parameters =
    λ k d lt. ((k, lt, get_or_default m.parameters k (get_or m.parameters k d) d lt), λ n e. subst (λ (o : Option ModelField). is_out_of o n ≡ false) (named k d lt) (range (get_or m.parameters k d).name n e)) in
    record {
      each = All-from_recursion (IsSetting m) (settings m device ss) (each_setting value m m.parameters (recursion_from_All (λ f. Contains m.parameters f × ((n : ℕ) → value f ≡ Some n → is_out_of (Some f) n ≡ false)) m.parameters each));
      once = once value m.parameters (bits_of_model m model);
    }
