-- What was judged of a parameter and of a model where nothing was refused.
use Rattle.std.proofs.Common.{◌≡◌, ℕ, ◌+◌, inl, inr, Bool, true, false, ◌&&◌, cond, nat_lt, List, [], ◌∷◌, ◌++◌, Option, Some, None, Result, Ok, Err, refl, subst, arith}
use Rattle.std.specs.List.{list_any}
use Rattle.std.proofs.lemmas.Bool.{or_parts, cases_Bool}
use Rattle.std.proofs.lemmas.Bool.Decides.{nat_tests}
use Rattle.std.proofs.lemmas.List.Elements.{All-nil, All-push}
use Rattle.std.proofs.lemmas.Option.{same_Some, none-some}
use Rattle.knx_model.specs.declared.catalogue.model.ModelField.{ModelField}
use Rattle.knx_model.specs.declared.catalogue.model.NamedModel.{NamedModel}
use Rattle.knx_model.specs.declared.catalogue.refused.CatRefused.{CatRefused}
use Rattle.knx_model.specs.declared.catalogue.refused.CatRefused.TheVariants.{Overlap}
use Rattle.knx_model.specs.Models.{AreApart, AllApart}
use Rattle.catalogue.specs.declared.stated.FieldRange.{FieldRange}
use Rattle.catalogue.specs.Catalogue.{is_place, is_span, range_from, shares_bit, judged_field}
use Rattle.catalogue.proofs.Cases.{fine, same_ok, err_ok}

-- ---- parameters

ranged : (t : Bool) (made r : FieldRange) → cond t (Some made) None ≡ Some r → (t ≡ true) × (made ≡ r)
ranged true made r e = (refl, same_Some made r e)
ranged false made r e = absurd (none-some r e)

pub range_good : (params : ℕ) (bit width min max default : Option ℕ) (r : FieldRange) → range_from params bit width min max default ≡ Some r → (is_place params r.bit r.width && is_span r.width r.min r.max r.default) ≡ true
range_good params (Some bit) (Some width) (Some min) (Some max) (Some default) r e =
    let (is, same) = ranged _ _ r e in
    subst (λ r. (is_place params r.bit r.width && is_span r.width r.min r.max r.default) ≡ true) same is
range_good params None width min max default r e = absurd (none-some r e)
range_good params (Some bit) None min max default r e = absurd (none-some r e)
range_good params (Some bit) (Some width) None max default r e = absurd (none-some r e)
range_good params (Some bit) (Some width) (Some min) None default r e = absurd (none-some r e)
range_good params (Some bit) (Some width) (Some min) (Some max) None r e = absurd (none-some r e)

chosen : (t : Bool) (g f : ModelField) (x : CatRefused) → cond t (Err x) (fine g) ≡ Ok f → (t ≡ false) × (g ≡ f)
chosen true g f x e = absurd (err_ok x f e)
chosen false g f x e = (refl, same_ok g f e)

pub judged_parts : (model name : List ℕ) (earlier : List ModelField) (o : Option ModelField) (f : ModelField) → judged_field model name earlier o ≡ Ok f → (o ≡ Some f) × (list_any (shares_bit f) earlier ≡ false)
judged_parts model name earlier None f e = absurd (err_ok _ f e)
judged_parts model name earlier (Some g) f e =
    let (free, is) = chosen (list_any (shares_bit g) earlier) g f (Overlap model name) e in
    subst (λ f. (Some g ≡ Some f) × (list_any (shares_bit f) earlier ≡ false)) is (refl, free)

apart : (f g : ModelField) → shares_bit f g ≡ false → AreApart g f
apart f g h = elim (cases_Bool (nat_lt f.bit (g.bit + g.width))) [ inl before ↦ inr (grind (arith, nat_tests)) | inr after ↦ inl (grind (arith, nat_tests)) ]

pub apart_push : (gs : List ModelField) (f : ModelField) → AllApart gs → list_any (shares_bit f) gs ≡ false → AllApart (gs ++ f ∷ [])
apart_push [] f all h = (All-nil (AreApart f), tt)
apart_push (g ∷ gs) f all h =
    let (here, rest) = or_parts (shares_bit f g) (list_any (shares_bit f) gs) h in
    (All-push (AreApart g) gs f all.0 (apart f g here), apart_push gs f all.1 rest)

-- ---- models

pub named_if : (t : Bool) (r : Result NamedModel CatRefused) (x : CatRefused) (m : NamedModel) → cond t r (Err x) ≡ Ok m → (t ≡ true) × (r ≡ Ok m)
named_if true r x m e = (refl, e)
named_if false r x m e = absurd (err_ok x m e)
