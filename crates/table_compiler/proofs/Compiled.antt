-- What the parts of a device's image need of a text that breaks no rule.
use Rattle.std.proofs.Common.{◌≡◌, ℕ, ◌<◌, ◌≤◌, false, List, length, Option, None, Some, Result, Ok, Err, refl, sym, ap, ◌∙◌, subst, arith}
use Rattle.std.specs.Prelude.{IfOk}
use Rattle.std.specs.List.{AllPairs, IsDistinct}
use Rattle.knx_model.specs.declared.address.IndAddr.{IndAddr}
use Rattle.knx_model.specs.declared.catalogue.model.Model.{Model}
use Rattle.knx_model.specs.declared.catalogue.model.NamedModel.{NamedModel}
use Rattle.knx_model.specs.declared.config.ParamValue.{ParamValue}
use Rattle.knx_model.specs.declared.project.Statement.{Statement}
use Rattle.knx_model.specs.declared.config.LinkSpec.{LinkSpec}
use Rattle.knx_model.specs.Meaning.{link_lines, last_send, links_of, last_value, params_of, or_inline}
use Rattle.knx_model.specs.Models.{inline, field_in, IsModel}
use Rattle.knx_model.specs.Parameters.{HoldsParameters, laid, AreSettings}
use Rattle.knx_model.specs.Rules.{first_broken, model_of, is_out_of}
use Rattle.table_compiler.specs.Order.{AreApart}
use Rattle.table_compiler.specs.Settings.{settings}
use Rattle.table_compiler.proofs.LinkLists as lists
use Rattle.table_compiler.proofs.Settings.{laid_are, are_settings}
use Rattle.table_compiler.proofs.Sound.{value_in_range}

pub if_ok : {X E : Type 0} {P Q : X → Type 0} (r : Result X E) → ((x : X) → P x → Q x) → IfOk r P → IfOk r Q
if_ok (Ok x) f h = f x h
if_ok (Err e) f h = h

pub if_both : {X E : Type 0} {P Q R : X → Type 0} (r : Result X E) → ((x : X) → P x → Q x → R x) → IfOk r P → IfOk r Q → IfOk r R
if_both (Ok x) f h k = f x h k
if_both (Err e) f h k = h

-- what holds of an answer for each device and each text
pub ok_always : {X E D S : Type 0} (H : D → S → Type 0) (Q : X → D → S → Type 0) (r : Result X E) → ((d : D) (s : S) → H d s → IfOk r (λ x. Q x d s)) → IfOk r (λ x. (d : D) (s : S) → H d s → Q x d s)
ok_always H Q (Ok x) f = f
ok_always H Q (Err e) f = tt

-- ---- models break no rule

pub inline_sound : IsModel inline
unfolding IsDistinct
inline_sound = record {
  params = omega arith;
  objects = λ k d lt. absurd (omega arith);
  numbers = tt;
  fields = λ k d lt. absurd (omega arith);
  names = tt;
  apart = tt;
}

-- ---- the links of the lines

pub few_links : (catalogue : List NamedModel) (device : IndAddr) (ss : List Statement) (links : List LinkSpec) → first_broken catalogue ss ≡ None → links ≡ links_of (last_send device ss) (link_lines device ss) → length links ≤ 2047
few_links catalogue device ss links sound are = subst (λ (ls : List LinkSpec). length ls ≤ 2047) (sym are) (lists.few_links catalogue device ss sound)

pub few_range : (catalogue : List NamedModel) (device : IndAddr) (ss : List Statement) → first_broken catalogue ss ≡ None → length (links_of (last_send device ss) (link_lines device ss)) < 65536
few_range catalogue device ss sound = omega (arith, lists.few_links catalogue device ss sound)

pub once : (catalogue : List NamedModel) (device : IndAddr) (ss : List Statement) (links : List LinkSpec) → first_broken catalogue ss ≡ None → links ≡ links_of (last_send device ss) (link_lines device ss) → AllPairs AreApart links
once catalogue device ss links sound are = subst (λ (ls : List LinkSpec). AllPairs AreApart ls) (sym are) (lists.once catalogue device ss sound)

-- ---- the settings of the lines

in_range : (catalogue : List NamedModel) (device : IndAddr) (ss : List Statement) → first_broken catalogue ss ≡ None → (o : Option Model) → model_of catalogue ss device.raw ≡ o
    → (name : List ℕ) (n : ℕ) → last_value device ss name ≡ Some n → is_out_of (field_in (or_inline o).parameters name) n ≡ false
in_range catalogue device ss sound None is name n e = refl
in_range catalogue device ss sound (Some m) is name n e = value_in_range catalogue ss device m name n sound is e

pub settings_are : (catalogue : List NamedModel) (device : IndAddr) (ss : List Statement) (m : Model) (ps : List ParamValue) → first_broken catalogue ss ≡ None
    → m ≡ or_inline (model_of catalogue ss device.raw) → IsModel m → ps ≡ settings m device ss → AreSettings m ps
settings_are catalogue device ss m ps sound is model set =
    let range = in_range catalogue device ss sound (model_of catalogue ss device.raw) refl in
    subst (λ (ps : List ParamValue). AreSettings m ps) (sym set) (are_settings m device ss model (λ name n e. subst (λ (m : Model). is_out_of (field_in m.parameters name) n ≡ false) (sym is) (range name n e)))

pub memory_holds : (catalogue : List NamedModel) (device : IndAddr) (ss : List Statement) (m : Model) (ps : List ParamValue) (memory : List ℕ)
    → m ≡ or_inline (model_of catalogue ss device.raw) → IsModel m → ps ≡ settings m device ss → HoldsParameters memory m.params (laid m ps)
    → HoldsParameters memory (or_inline (model_of catalogue ss device.raw)).params (params_of (or_inline (model_of catalogue ss device.raw)) device ss)
memory_holds catalogue device ss m ps memory is model set holds =
    let same : laid m ps ≡ params_of m device ss = ap (laid m) set ∙ laid_are m device ss model in
    subst (λ (m : Model). HoldsParameters memory m.params (params_of m device ss)) is (subst (λ (all : List ParamValue). HoldsParameters memory m.params all) same holds)
