-- No line of the script speaks of an address off the line.
use Rattle.std.proofs.Common.{◌≡◌, ◌≢◌, ℕ, suc, ◌==◌, Bool, true, false, ◌&&◌, ◌||◌, List, [], ◌∷◌, Option, Some, refl, ap, sym, ◌∙◌, arith}
use Rattle.std.specs.Prelude.{slice_get}
use Rattle.std.specs.List.{list_any}
use Rattle.knx_model.specs.declared.address.IndAddr.{IndAddr}
use Rattle.knx_model.specs.declared.config.Image.{Image}
use Rattle.knx_model.specs.declared.script.ScriptLine.{ScriptLine}
use Rattle.knx_model.specs.declared.script.ScriptWhat.{ScriptWhat}
use Rattle.knx_model.specs.declared.script.ScriptWhat.TheVariants.{LoseTo, LoseFrom}
use Rattle.knx_model.specs.ScriptText.{IsStranger, device_named, is_listed}
use Rattle.line_model.specs.Lines.{loses_from, loses_to, is_line, script_of}
use Rattle.line_model.specs.StartOf.{line_of}
use Rattle.script_text.proofs.Strangers.{none}
use Rattle.bus_sim.specs.declared.beginning.Beginning.{Beginning}
use Rattle.bus_sim.specs.Begun.{CanLoad, addresses, said}
use Rattle.bus_sim.specs.Held.{IsLoaded}

decide : (P : Type 0) (t : Bool) → (t ≡ true → P) → (t ≡ false → P) → P
decide P true this that = this refl
decide P false this that = that refl

same_number : (a b : ℕ) → (a == b) ≡ true → a ≡ b
same_number a b e = grind arith

both : (s t : Bool) → (s && t) ≡ true → s ≡ true
both true t e = refl
both false t e = cc

neither : (s t : Bool) → s ≡ false → t ≡ false → (s || t) ≡ false
neither false t e f = f
neither true t e f = cc

-- a listed device is on the tunnel's line
listed_on : (tunnel : IndAddr) (devices : List (IndAddr × Option Image)) (device : IndAddr) → CanLoad tunnel devices → is_listed (addresses devices) device ≡ true → line_of device.raw ≡ line_of tunnel.raw
listed_on tunnel [] device can e = cc
listed_on tunnel (x ∷ devices) device can e = decide (line_of device.raw ≡ line_of tunnel.raw) (x.0.raw == device.raw)
    (λ y. ap line_of (sym (same_number x.0.raw device.raw y)) ∙ can.0.line)
    (λ n. listed_on tunnel devices device can.1 (later (x.0.raw == device.raw) (is_listed (addresses devices) device) n e))
  where
    later : (s t : Bool) → s ≡ false → (s || t) ≡ true → t ≡ true
    later false t n e = e
    later true t n e = cc

-- a test that is true only of lines that name a device at an address
abbrev Names : ℕ → (ScriptWhat → Bool) → Type 0
Names a test = (what : ScriptWhat) → test what ≡ true → (d : IndAddr) × (device_named what ≡ Some d) × (d.raw ≡ a)

none_says : (tunnel : IndAddr) (devices : List (IndAddr × Option Image)) (a : ℕ) (test : ScriptWhat → Bool) → CanLoad tunnel devices → line_of a ≢ line_of tunnel.raw → Names a test
    → (ls : List ScriptLine) → ((k : ℕ) (l : ScriptLine) → slice_get ls k ≡ Some l → ¬ IsStranger (addresses devices) l) → list_any test (script_of ls) ≡ false
none_says tunnel devices a test can off names [] known = refl
none_says tunnel devices a test can off names (l ∷ ls) known =
    neither (test l.what) (list_any test (script_of ls)) (decide (test l.what ≡ false) (test l.what) (λ y. absurd (found (names l.what y))) (λ n. n)) (none_says tunnel devices a test can off names ls (λ k x at. known (suc k) x at))
  where
    found : (d : IndAddr) × (device_named l.what ≡ Some d) × (d.raw ≡ a) → ⊥
    found (d, named, raw) = decide ⊥ (is_listed (addresses devices) d)
        (λ y. off (ap line_of (sym raw) ∙ listed_on tunnel devices d can y))
        (λ n. known 0 l refl (record { device = d; named = named; unlisted = n }))

names_lost_to : (a n : ℕ) → Names a (is_line (LoseTo (record { raw = a }) n))
names_lost_to a n (LoseTo d k) e = (d, refl, same_number d.raw a (both (d.raw == a) (k == n) e))
names_lost_to a n _ e = cc

names_lost_from : (a n : ℕ) → Names a (is_line (LoseFrom (record { raw = a }) n))
names_lost_from a n (LoseFrom d k) e = (d, refl, same_number d.raw a (both (d.raw == a) (k == n) e))
names_lost_from a n _ e = cc

pub nothing_to : (b : Beginning) (a n : ℕ) → IsLoaded b → line_of a ≢ line_of b.tunnel.raw → loses_to (said b) a n ≡ false
nothing_to b a n loaded off = none_says b.tunnel b.devices a (is_line (LoseTo (record { raw = a }) n)) loaded.can off (names_lost_to a n) b.script (none (addresses b.devices) b.script loaded.known)

pub nothing_from : (b : Beginning) (a n : ℕ) → IsLoaded b → line_of a ≢ line_of b.tunnel.raw → loses_from (said b) a n ≡ false
nothing_from b a n loaded off = none_says b.tunnel b.devices a (is_line (LoseFrom (record { raw = a }) n)) loaded.can off (names_lost_from a n) b.script (none (addresses b.devices) b.script loaded.known)
