-- The first line that names a device which isn't listed.
use Rattle.std.proofs.Common.{◌≡◌, ℕ, zero, suc, ◌<◌, Bool, cond, true, false, List, [], ◌∷◌, Option, Some, None, refl, sym, ap, ◌∙◌, subst, arith}
use Rattle.std.specs.Prelude.{slice_get}
use Rattle.std.specs.List.{cons_option}
use Rattle.std.proofs.lemmas.Option.{same_Some, none-some}
use Rattle.knx_model.specs.declared.address.IndAddr.{IndAddr}
use Rattle.knx_model.specs.declared.refusal.Refused.{Refused}
use Rattle.knx_model.specs.declared.refusal.Why.TheVariants.{NoDevice}
use Rattle.knx_model.specs.declared.script.ScriptLine.{ScriptLine}
use Rattle.knx_model.specs.LeastLine.{first_refused}
use Rattle.knx_model.specs.ScriptText.{device_named, is_listed, refused_unless_listed, strangers, first_stranger, IsStranger, IsFirstStranger}

abbrev told : ScriptLine → Refused
told l = record { line = l.line; why = NoDevice }

record Told (devices : List IndAddr) (l : ScriptLine) (r : Refused) : Type 0 where
  stranger : IsStranger devices l
  refused : r ≡ told l

told_by : (devices : List IndAddr) (l : ScriptLine) (d : IndAddr) (b : Bool) (r : Refused) → device_named l.what ≡ Some d → is_listed devices d ≡ b → cond b None (Some (told l)) ≡ Some r → Told devices l r
told_by devices l d true r named listed e = absurd (none-some r e)
told_by devices l d false r named listed e = record { stranger = record { device = d; named = named; unlisted = listed }; refused = sym (same_Some (told l) r e) }

told_of : (devices : List IndAddr) (l : ScriptLine) (o : Option IndAddr) (r : Refused) → device_named l.what ≡ o → refused_unless_listed devices l.line o ≡ Some r → Told devices l r
told_of devices l None r named e = absurd (none-some r e)
told_of devices l (Some d) r named e = told_by devices l d (is_listed devices d) r named refl e

passed_by : (devices : List IndAddr) (l : ScriptLine) (d : IndAddr) (b : Bool) → device_named l.what ≡ Some d → is_listed devices d ≡ b → cond b None (Some (told l)) ≡ None → ¬ IsStranger devices l
passed_by devices l d true named listed e = λ h. let same : d ≡ h.device = same_Some d h.device (sym named ∙ h.named) in let un : is_listed devices d ≡ false = ap (is_listed devices) same ∙ h.unlisted in absurd cc
passed_by devices l d false named listed e = λ h. absurd (none-some (told l) (sym e))

passed_of : (devices : List IndAddr) (l : ScriptLine) (o : Option IndAddr) → device_named l.what ≡ o → refused_unless_listed devices l.line o ≡ None → ¬ IsStranger devices l
passed_of devices l None named e = λ h. none-some h.device (sym named ∙ h.named)
passed_of devices l (Some d) named e = passed_by devices l d (is_listed devices d) named refl e

first_step : (devices : List IndAddr) (l : ScriptLine) (ls : List ScriptLine) (o : Option Refused) (r : Refused) (rs : List Refused) → refused_unless_listed devices l.line (device_named l.what) ≡ o
    → cons_option o (strangers devices ls) ≡ r ∷ rs → (strangers devices ls ≡ r ∷ rs → IsFirstStranger devices ls r) → IsFirstStranger devices (l ∷ ls) r
first_step devices l ls (Some x) r rs here e later =
    let same : x ≡ r = cc in
    let t = told_of devices l (device_named l.what) r refl (here ∙ ap (λ (y : Refused). Some y) same) in
    record { at = 0; here = l; there = refl; stranger = t.stranger; refused = t.refused; before = λ k earlier lt. absurd (omega arith) }
first_step devices l ls None r rs here e later =
    let h = later e in
    record { at = suc h.at; here = h.here; there = h.there; stranger = h.stranger; refused = h.refused; before = before h }
  where
    before : (h : IsFirstStranger devices ls r) → (k : ℕ) (earlier : ScriptLine) → k < suc h.at → slice_get (l ∷ ls) k ≡ Some earlier → ¬ IsStranger devices earlier
    before h zero earlier lt there = subst (λ (x : ScriptLine). ¬ IsStranger devices x) (same_Some l earlier there) (passed_of devices l (device_named l.what) refl here)
    before h (suc k) earlier lt there = h.before k earlier (omega arith) there

first_from : (devices : List IndAddr) (ls : List ScriptLine) (r : Refused) (rs : List Refused) → strangers devices ls ≡ r ∷ rs → IsFirstStranger devices ls r
unfolding strangers
first_from devices [] r rs e = absurd cc
first_from devices (l ∷ ls) r rs e = first_step devices l ls (refused_unless_listed devices l.line (device_named l.what)) r rs refl e (first_from devices ls r rs)

first_of : (devices : List IndAddr) (ls : List ScriptLine) (all : List Refused) (r : Refused) → strangers devices ls ≡ all → first_refused all ≡ Some r → IsFirstStranger devices ls r
first_of devices ls [] r is e = absurd (none-some r e)
first_of devices ls (x ∷ xs) r is e = first_from devices ls r xs (is ∙ ap (λ (y : Refused). y ∷ xs) (same_Some x r e))

pub first : (devices : List IndAddr) (ls : List ScriptLine) (r : Refused) → first_stranger devices ls ≡ Some r → IsFirstStranger devices ls r
first devices ls r e = first_of devices ls (strangers devices ls) r refl e

none_step : (devices : List IndAddr) (l : ScriptLine) (ls : List ScriptLine) (o : Option Refused) → refused_unless_listed devices l.line (device_named l.what) ≡ o → cons_option o (strangers devices ls) ≡ []
    → (strangers devices ls ≡ [] → (k : ℕ) (x : ScriptLine) → slice_get ls k ≡ Some x → ¬ IsStranger devices x) → (k : ℕ) (x : ScriptLine) → slice_get (l ∷ ls) k ≡ Some x → ¬ IsStranger devices x
none_step devices l ls (Some r) here e later k x there = absurd cc
none_step devices l ls None here e later zero x there = subst (λ (y : ScriptLine). ¬ IsStranger devices y) (same_Some l x there) (passed_of devices l (device_named l.what) refl here)
none_step devices l ls None here e later (suc k) x there = later e k x there

none_from : (devices : List IndAddr) (ls : List ScriptLine) → strangers devices ls ≡ [] → (k : ℕ) (x : ScriptLine) → slice_get ls k ≡ Some x → ¬ IsStranger devices x
unfolding strangers
none_from devices [] e k x there = absurd cc
none_from devices (l ∷ ls) e k x there = none_step devices l ls (refused_unless_listed devices l.line (device_named l.what)) refl e (none_from devices ls) k x there

none_of : (devices : List IndAddr) (ls : List ScriptLine) (all : List Refused) → strangers devices ls ≡ all → first_refused all ≡ None → strangers devices ls ≡ []
none_of devices ls [] is e = is
none_of devices ls (x ∷ xs) is e = absurd (none-some x (sym e))

pub none : (devices : List IndAddr) (ls : List ScriptLine) → first_stranger devices ls ≡ None → (k : ℕ) (x : ScriptLine) → slice_get ls k ≡ Some x → ¬ IsStranger devices x
none devices ls e = none_from devices ls (none_of devices ls (strangers devices ls) refl e)
