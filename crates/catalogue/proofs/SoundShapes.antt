-- What a table states breaks no rule, but for the ranges of its parameters.
use Rattle.std.proofs.Common.{◌≡◌, ℕ, ℤ, pos, negsuc, ◌+◌, ◌*◌, ◌%◌, ◌<◌, ◌≤◌, Bool, true, false, ◌&&◌, ◌||◌, cond, nat_eq, eqb, ltb, bytes_eq, codes, List, [], ◌∷◌, length, map, All, Option, Some, None, refl, subst, arith}
use Rattle.std.specs.List.{list_any, AllByRecursion, IsDistinct}
use Rattle.std.specs.Option.{option_and_then}
use Rattle.std.proofs.lemmas.Bool.{or_parts}
use Rattle.std.proofs.lemmas.Bool.Decides.{nat_tests}
use Rattle.std.proofs.lemmas.List.Elements.{All-nil, All-cons}
use Rattle.std.proofs.lemmas.Option.{same_Some, none-some}
use Rattle.knx_model.specs.declared.catalogue.model.ModelObject.{ModelObject}
use Rattle.knx_model.specs.Flags.{times, flags_value}
use Rattle.knx_model.specs.Models.{number_of, IsObject}
use Rattle.knx_model.specs.Numbers.{is_name}
use Rattle.knx_model.specs.Sizes.{size_code}
use Rattle.toml.specs.Data.{Data, Items, no_items, item}
use Rattle.catalogue.specs.declared.stated.FieldNumbers.{FieldNumbers}
use Rattle.catalogue.specs.declared.stated.StatedField.{StatedField}
use Rattle.catalogue.specs.declared.stated.StatedModel.{StatedModel}
use Rattle.catalogue.specs.declared.stated.TableKind.TheVariants as kind
use Rattle.catalogue.specs.Shapes.{between, integer_at, number_at, named, list_at, text_at, is_table, each, object_from, object_of, parameter_from, parameter_of, numbers_of, stated_name, repeats, model_from, model_of}
use Rattle.catalogue.proofs.Cases.{if_parts, bind_parts, cons_parts}

between_within : (least most : ℕ) (z : ℤ) (n : ℕ) → between least most z ≡ Some n → (least ≤ n) × (n ≤ most)
between_within least most (pos m) n e = (grind (arith, nat_tests), grind (arith, nat_tests))
between_within least most (negsuc m) n e = absurd (none-some n e)

number_within : (least most : ℕ) (z : Option ℤ) (n : ℕ) → option_and_then (between least most) z ≡ Some n → (least ≤ n) × (n ≤ most)
number_within least most z n e = let (x, _, is) = bind_parts (between least most) z n e in between_within least most x n is

size_fits : (bits code : ℕ) → size_code bits ≡ Some code → code < 15
size_fits bits code e = grind (arith, nat_tests)

size_within : (bits : Option ℕ) (code : ℕ) → option_and_then size_code bits ≡ Some code → code < 15
size_within bits code e = let (b, _, is) = bind_parts size_code bits code e in size_fits b code is

octet : (dash twice known : Bool) (c r w i t u f : ℕ) → twice ≡ (ltb 1 c || ltb 1 r || ltb 1 w || ltb 1 t || ltb 1 u || ltb 1 i) → cond {A = Option ℕ} dash (Some 3) (cond twice None (cond known (Some (3 + c * 4 + r * 8 + w * 16 + i * 32 + t * 64 + u * 128)) None)) ≡ Some f → (f < 256) × (f % 4 ≡ 3)
octet true twice known c r w i t u f s e = let is = same_Some 3 f e in (omega (arith, is), omega (arith, is))
octet false true known c r w i t u f s e = absurd (none-some f e)
octet false false true c r w i t u f s e =
    let is = same_Some (3 + c * 4 + r * 8 + w * 16 + i * 32 + t * 64 + u * 128) f e in
    let few : (c ≤ 1) × (r ≤ 1) × (w ≤ 1) × (t ≤ 1) × (u ≤ 1) × (i ≤ 1) = (grind (arith, nat_tests, s), grind (arith, nat_tests, s), grind (arith, nat_tests, s), grind (arith, nat_tests, s), grind (arith, nat_tests, s), grind (arith, nat_tests, s)) in
    (omega (arith, is, few.0, few.1, few.2, few.3, few.4, few.5), omega (arith, is))
octet false false false c r w i t u f s e = absurd (none-some f e)

flags_fit : (word : List ℕ) (f : ℕ) → flags_value word ≡ Some f → (f < 256) × (f % 4 ≡ 3)
unfolding flags_value
flags_fit word f e =
    let c = times 67 word in
    let r = times 82 word in
    let w = times 87 word in
    let t = times 84 word in
    let u = times 85 word in
    let i = times 73 word in
    let twice = ltb 1 c || ltb 1 r || ltb 1 w || ltb 1 t || ltb 1 u || ltb 1 i in
    let known = ltb 0 (length word) && eqb (c + r + w + t + u + i) (length word) in
    octet (bytes_eq word (codes "-")) twice known c r w i t u f refl e

flags_within : (text : Option (List ℕ)) (f : ℕ) → option_and_then flags_value text ≡ Some f → (f < 256) × (f % 4 ≡ 3)
flags_within text f e = let (word, _, is) = bind_parts flags_value text f e in flags_fit word f is

object_parts : (n size flags : Option ℕ) (o : ModelObject) → object_from n size flags ≡ Some o → (n ≡ Some o.n) × (size ≡ Some o.size) × (flags ≡ Some o.flags)
object_parts (Some n) (Some size) (Some flags) o e = let is = same_Some _ o e in (rw (← is) refl, rw (← is) refl, rw (← is) refl)
object_parts None size flags o e = absurd (none-some o e)
object_parts (Some n) None flags o e = absurd (none-some o e)
object_parts (Some n) (Some size) None o e = absurd (none-some o e)

object_good : (d : Data) (o : ModelObject) → object_of d ≡ Some o → IsObject o
unfolding object_of
object_good d o e =
    let n = integer_at (codes "n") d in
    let bits = number_at 1 112 (codes "size") d in
    let text = text_at (codes "flags") d in
    let (_, from) = if_parts (is_table kind.Object d) (object_from (option_and_then (between 1 255) n) (option_and_then size_code bits) (option_and_then flags_value text)) o e in
    let (n_is, size_is, flags_are) = object_parts (option_and_then (between 1 255) n) (option_and_then size_code bits) (option_and_then flags_value text) o from in
    let (least, most) = number_within 1 255 n o.n n_is in
    let (octet, priority) = flags_within text o.flags flags_are in
    record { from_1 = least; up_to_255 = most; size = size_within bits o.size size_is; flags = octet; priority = priority }

each_good : {A : Type 0} (P : A → Type 0) (f : Data → Option A) (good : (d : Data) (x : A) → f d ≡ Some x → P x) (ds : Items) (xs : List A) → each f ds ≡ Some xs → All P xs
each_good P f good no_items xs e = subst (All P) (same_Some [] xs e) (All-nil P)
each_good P f good (item d ds) xs e =
    let (y, ys, here, rest, is) = cons_parts (f d) (each f ds) xs e in
    subst (All P) is (All-cons P y ys (good d y here) (each_good P f good ds ys rest))

list_good : {A : Type 0} (P : A → Type 0) (f : Data → Option A) (good : (d : Data) (x : A) → f d ≡ Some x → P x) (ds : Option Items) (xs : List A) → option_and_then (each f) ds ≡ Some xs → All P xs
list_good P f good ds xs e = let (items, _, is) = bind_parts (each f) ds xs e in each_good P f good items xs is

abbrev pub HasName : StatedField → Type 0
HasName s = is_name s.name ≡ true

parameter_parts : (name : Option (List ℕ)) (numbers : Option FieldNumbers) (s : StatedField) → parameter_from name numbers ≡ Some s → name ≡ Some s.name
parameter_parts (Some name) (Some numbers) s e = let is = same_Some _ s e in rw (← is) refl
parameter_parts None numbers s e = absurd (none-some s e)
parameter_parts (Some name) None s e = absurd (none-some s e)

named_good : (text name : List ℕ) → named text ≡ Some name → is_name name ≡ true
named_good text name e = let (is, same) = if_parts (is_name text) (Some text) name e in subst (λ n. is_name n ≡ true) (same_Some text name same) is

parameter_good : (d : Data) (s : StatedField) → parameter_of d ≡ Some s → HasName s
unfolding parameter_of
parameter_good d s e =
    let name = option_and_then named (text_at (codes "name") d) in
    let (_, from) = if_parts (is_table kind.Parameter d) (parameter_from name (numbers_of d)) s e in
    let (text, _, is) = bind_parts named (text_at (codes "name") d) s.name (parameter_parts name (numbers_of d) s from) in
    named_good text s.name is

none_equal : {X : Type 0} (p : X → Bool) (xs : List X) → list_any p xs ≡ false → AllByRecursion (λ y. p y ≡ false) xs
none_equal p [] h = tt
none_equal p (x ∷ xs) h = let (here, rest) = or_parts (p x) (list_any p xs) h in (here, none_equal p xs rest)

pub distinct : {X : Type 0} (eq : X → X → Bool) (xs : List X) → repeats eq xs ≡ false → IsDistinct eq xs
unfolding repeats IsDistinct
distinct eq [] h = tt
distinct eq (x ∷ xs) h = let (here, rest) = or_parts (list_any (eq x) xs) (repeats eq xs) h in (none_equal (eq x) xs here, distinct eq xs rest)

pub record IsStated (s : StatedModel) : Type 0 where
  pub params : s.params ≤ 8192
  pub objects : All IsObject s.objects
  pub numbers : IsDistinct nat_eq (map number_of s.objects)
  pub parameters : All HasName s.parameters
  pub names : IsDistinct bytes_eq (map stated_name s.parameters)

record IsFrom (params : Option ℕ) (objects : Option (List ModelObject)) (parameters : Option (List StatedField)) (s : StatedModel) : Type 0 where
  params_is : params ≡ Some s.params
  objects_is : objects ≡ Some s.objects
  parameters_is : parameters ≡ Some s.parameters
  numbers : repeats nat_eq (map number_of s.objects) ≡ false
  names : repeats bytes_eq (map stated_name s.parameters) ≡ false

unrepeated : (a b : Bool) (made s : StatedModel) → cond (a || b) None (Some made) ≡ Some s → (a ≡ false) × (b ≡ false) × (made ≡ s)
unrepeated true b made s e = absurd (none-some s e)
unrepeated false true made s e = absurd (none-some s e)
unrepeated false false made s e = (refl, refl, same_Some made s e)

model_parts : (params : Option ℕ) (objects : Option (List ModelObject)) (parameters : Option (List StatedField)) (s : StatedModel) → model_from params objects parameters ≡ Some s → IsFrom params objects parameters s
model_parts (Some params) (Some objects) (Some parameters) s e =
    let (numbers, names, is) = unrepeated _ _ _ s e in
    subst (IsFrom (Some params) (Some objects) (Some parameters)) is (record { params_is = refl; objects_is = refl; parameters_is = refl; numbers = numbers; names = names })
model_parts None objects parameters s e = absurd (none-some s e)
model_parts (Some params) None parameters s e = absurd (none-some s e)
model_parts (Some params) (Some objects) None s e = absurd (none-some s e)

pub model_good : (d : Data) (s : StatedModel) → model_of d ≡ Some s → IsStated s
unfolding model_of
model_good d s e =
    let number = integer_at (codes "params") d in
    let objects = list_at (codes "object") d in
    let parameters = list_at (codes "parameter") d in
    let (_, from) = if_parts (is_table kind.Model d) (model_from (option_and_then (between 0 8192) number) (option_and_then (each object_of) objects) (option_and_then (each parameter_of) parameters)) s e in
    let parts = model_parts (option_and_then (between 0 8192) number) (option_and_then (each object_of) objects) (option_and_then (each parameter_of) parameters) s from in
    record {
      params = (number_within 0 8192 number s.params parts.params_is).1;
      objects = list_good IsObject object_of object_good objects s.objects parts.objects_is;
      numbers = distinct nat_eq (map number_of s.objects) parts.numbers;
      parameters = list_good HasName parameter_of parameter_good parameters s.parameters parts.parameters_is;
      names = distinct bytes_eq (map stated_name s.parameters) parts.names;
    }
