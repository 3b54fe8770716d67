-- One object or parameter more of a model.
use Rattle.std.proofs.Common.{◌≡◌, ℕ, Bool, true, false, cond, List, [], ◌∷◌, ◌++◌, Option, Some, None, refl, eqb}
use Rattle.std.specs.Prelude.{bytes_eq}
use Rattle.std.specs.Option.{option_map, option_or}
use Rattle.knx_model.specs.declared.catalogue.model.ModelField.{ModelField}
use Rattle.knx_model.specs.declared.catalogue.model.ModelObject.{ModelObject}
use Rattle.knx_model.specs.Models.{object_in, field_in}
use Rattle.project_check.specs.Keys.{range_of}
use Rattle.project_check.specs.Knowing.{code_of, code_at, range_at}

-- what is found at a test, mapped
pub mapped : {A B : Type 0} (f : A → B) (b : Bool) (x : A) → option_map f (cond b (Some x) None) ≡ cond b (Some (f x)) None
mapped f true x = refl
mapped f false x = refl

mapped_or : {A B : Type 0} (f : A → B) (b : Bool) (x : A) (r : Option A) (o : Option B) (s : Option A) → option_map f r ≡ option_or (option_map f s) o
    → option_map f (cond b (Some x) r) ≡ option_or (option_map f (cond b (Some x) s)) o
mapped_or f true x r o s e = refl
mapped_or f false x r o s e = e

pub size_more : (os : List ModelObject) (o : ModelObject) (n : ℕ) → option_map code_of (object_in (os ++ o ∷ []) n) ≡ option_or (option_map code_of (object_in os n)) (code_at n o)
size_more [] o n = mapped code_of (eqb o.n n) o
size_more (p ∷ os) o n = mapped_or code_of (eqb p.n n) p (object_in (os ++ o ∷ []) n) (code_at n o) (object_in os n) (size_more os o n)

pub range_more : (fs : List ModelField) (f : ModelField) (name : List ℕ) → option_map range_of (field_in (fs ++ f ∷ []) name) ≡ option_or (option_map range_of (field_in fs name)) (range_at name f)
range_more [] f name = mapped range_of (bytes_eq f.name name) f
range_more (g ∷ fs) f name = mapped_or range_of (bytes_eq g.name name) g (field_in (fs ++ f ∷ []) name) (range_at name f) (field_in fs name) (range_more fs f name)
