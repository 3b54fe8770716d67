-- What is found at a place is what the script says of it.
use Rattle.std.proofs.Common.{◌≡◌, ℕ, Bool, true, false, ◌&&◌, ◌||◌, eqb, [], ◌∷◌, Option, Some, None, cond, refl, ◌∙◌}
use Rattle.std.specs.Prelude.{is_some}
use Rattle.knx_model.specs.declared.script.ScriptWhat.{ScriptWhat}
use Rattle.knx_model.specs.declared.script.ScriptWhat.TheVariants.{LoseUp, LoseDown, RepeatUp, RepeatDown, LoseTo, LoseFrom, RepeatTo, Cut, Worn, CloseAfter, DropChannel, Off, Standard}
use Rattle.line_model.specs.Lines as lines
use Rattle.line_model.specs.Lines.{Script, or_later, first_said, cut_at, is_line, has_line}
use Rattle.script_index.specs.declared.place.Kind.TheVariants as kinds
use Rattle.script_index.specs.declared.place.Place.{Place}
use Rattle.script_index.specs.Places.{place, placed, value_in, value_at}

some_cond : (b : Bool) (v : ℕ) → is_some (cond b (Some v) None) ≡ b
some_cond true v = refl
some_cond false v = refl

or_some : (a b : Option ℕ) → is_some (or_later a b) ≡ (is_some a || is_some b)
or_some None b = refl
or_some (Some x) b = refl

and_true : (b : Bool) → (b && true) ≡ b
and_true true = refl
and_true false = refl

any_said : (line : ScriptWhat) (q : Place) → ((what : ScriptWhat) → is_some (value_in q (placed what)) ≡ is_line line what) → (script : Script) → is_some (value_at q script) ≡ has_line line script
any_said line q alike [] = refl
any_said line q alike (what ∷ script) =
    or_some (value_in q (placed what)) (value_at q script) ∙ (λ i. alike what i || any_said line q alike script i)

lose_up_alike : (n : ℕ) (what : ScriptWhat) → is_some (value_in (place kinds.LoseUp 0 n) (placed what)) ≡ is_line (LoseUp n) what
lose_up_alike n (LoseUp k) = some_cond (eqb k n) 0
lose_up_alike n _ = refl

pub lose_up : (n : ℕ) (script : Script) → is_some (value_at (place kinds.LoseUp 0 n) script) ≡ lines.loses_up script n
lose_up n script = any_said (LoseUp n) (place kinds.LoseUp 0 n) (lose_up_alike n) script

lose_down_alike : (n : ℕ) (what : ScriptWhat) → is_some (value_in (place kinds.LoseDown 0 n) (placed what)) ≡ is_line (LoseDown n) what
lose_down_alike n (LoseDown k) = some_cond (eqb k n) 0
lose_down_alike n _ = refl

pub lose_down : (n : ℕ) (script : Script) → is_some (value_at (place kinds.LoseDown 0 n) script) ≡ lines.loses_down script n
lose_down n script = any_said (LoseDown n) (place kinds.LoseDown 0 n) (lose_down_alike n) script

repeat_up_alike : (n : ℕ) (what : ScriptWhat) → is_some (value_in (place kinds.RepeatUp 0 n) (placed what)) ≡ is_line (RepeatUp n) what
repeat_up_alike n (RepeatUp k) = some_cond (eqb k n) 0
repeat_up_alike n _ = refl

pub repeat_up : (n : ℕ) (script : Script) → is_some (value_at (place kinds.RepeatUp 0 n) script) ≡ lines.repeats_up script n
repeat_up n script = any_said (RepeatUp n) (place kinds.RepeatUp 0 n) (repeat_up_alike n) script

repeat_down_alike : (n : ℕ) (what : ScriptWhat) → is_some (value_in (place kinds.RepeatDown 0 n) (placed what)) ≡ is_line (RepeatDown n) what
repeat_down_alike n (RepeatDown k) = some_cond (eqb k n) 0
repeat_down_alike n _ = refl

pub repeat_down : (n : ℕ) (script : Script) → is_some (value_at (place kinds.RepeatDown 0 n) script) ≡ lines.repeats_down script n
repeat_down n script = any_said (RepeatDown n) (place kinds.RepeatDown 0 n) (repeat_down_alike n) script

drop_alike : (n : ℕ) (what : ScriptWhat) → is_some (value_in (place kinds.DropChannel 0 n) (placed what)) ≡ is_line (DropChannel n) what
drop_alike n (DropChannel k) = some_cond (eqb k n) 0
drop_alike n _ = refl

pub drop : (n : ℕ) (script : Script) → is_some (value_at (place kinds.DropChannel 0 n) script) ≡ lines.drops script n
drop n script = any_said (DropChannel n) (place kinds.DropChannel 0 n) (drop_alike n) script

lose_to_alike : (device n : ℕ) (what : ScriptWhat) → is_some (value_in (place kinds.LoseTo device n) (placed what)) ≡ is_line (LoseTo (record { raw = device }) n) what
lose_to_alike device n (LoseTo d k) = some_cond (eqb d.raw device && eqb k n) 0
lose_to_alike device n _ = refl

pub lose_to : (device n : ℕ) (script : Script) → is_some (value_at (place kinds.LoseTo device n) script) ≡ lines.loses_to script device n
lose_to device n script = any_said (LoseTo (record { raw = device }) n) (place kinds.LoseTo device n) (lose_to_alike device n) script

lose_from_alike : (device n : ℕ) (what : ScriptWhat) → is_some (value_in (place kinds.LoseFrom device n) (placed what)) ≡ is_line (LoseFrom (record { raw = device }) n) what
lose_from_alike device n (LoseFrom d k) = some_cond (eqb d.raw device && eqb k n) 0
lose_from_alike device n _ = refl

pub lose_from : (device n : ℕ) (script : Script) → is_some (value_at (place kinds.LoseFrom device n) script) ≡ lines.loses_from script device n
lose_from device n script = any_said (LoseFrom (record { raw = device }) n) (place kinds.LoseFrom device n) (lose_from_alike device n) script

repeat_to_alike : (device n : ℕ) (what : ScriptWhat) → is_some (value_in (place kinds.RepeatTo device n) (placed what)) ≡ is_line (RepeatTo (record { raw = device }) n) what
repeat_to_alike device n (RepeatTo d k) = some_cond (eqb d.raw device && eqb k n) 0
repeat_to_alike device n _ = refl

pub repeat_to : (device n : ℕ) (script : Script) → is_some (value_at (place kinds.RepeatTo device n) script) ≡ lines.repeats_to script device n
repeat_to device n script = any_said (RepeatTo (record { raw = device }) n) (place kinds.RepeatTo device n) (repeat_to_alike device n) script

worn_alike : (device n : ℕ) (what : ScriptWhat) → is_some (value_in (place kinds.Worn device n) (placed what)) ≡ is_line (Worn (record { raw = device }) n) what
worn_alike device n (Worn d k) = some_cond (eqb d.raw device && eqb k n) 0
worn_alike device n _ = refl

pub worn : (device n : ℕ) (script : Script) → is_some (value_at (place kinds.Worn device n) script) ≡ lines.wears script device n
worn device n script = any_said (Worn (record { raw = device }) n) (place kinds.Worn device n) (worn_alike device n) script

close_alike : (device n : ℕ) (what : ScriptWhat) → is_some (value_in (place kinds.CloseAfter device n) (placed what)) ≡ is_line (CloseAfter (record { raw = device }) n) what
close_alike device n (CloseAfter d k) = some_cond (eqb d.raw device && eqb k n) 0
close_alike device n _ = refl

pub close : (device n : ℕ) (script : Script) → is_some (value_at (place kinds.CloseAfter device n) script) ≡ lines.closes script device n
close device n script = any_said (CloseAfter (record { raw = device }) n) (place kinds.CloseAfter device n) (close_alike device n) script

off_alike : (device : ℕ) (what : ScriptWhat) → is_some (value_in (place kinds.Off device 0) (placed what)) ≡ is_line (Off (record { raw = device })) what
off_alike device (Off d) = some_cond (eqb d.raw device && true) 0 ∙ and_true (eqb d.raw device)
off_alike device _ = refl

pub off : (device : ℕ) (script : Script) → is_some (value_at (place kinds.Off device 0) script) ≡ lines.is_off script device
off device script = any_said (Off (record { raw = device })) (place kinds.Off device 0) (off_alike device) script

standard_alike : (device : ℕ) (what : ScriptWhat) → is_some (value_in (place kinds.Standard device 0) (placed what)) ≡ is_line (Standard (record { raw = device })) what
standard_alike device (Standard d) = some_cond (eqb d.raw device && true) 0 ∙ and_true (eqb d.raw device)
standard_alike device _ = refl

pub standard : (device : ℕ) (script : Script) → is_some (value_at (place kinds.Standard device 0) script) ≡ lines.is_standard script device
standard device script = any_said (Standard (record { raw = device })) (place kinds.Standard device 0) (standard_alike device) script

cut_alike : (device n : ℕ) (what : ScriptWhat) → value_in (place kinds.Cut device n) (placed what) ≡ cut_at device n what
cut_alike device n (Cut d k octets) = refl
cut_alike device n _ = refl

pub cut : (device n : ℕ) (script : Script) → value_at (place kinds.Cut device n) script ≡ lines.cuts script device n
cut device n [] = refl
cut device n (what ∷ script) = λ i. or_later (cut_alike device n what i) (cut device n script i)
