-- The simulated line begins as it is stated.
use Rattle.std.proofs.Common.{ℕ, ◌≡◌, ◌≢◌, Bool, true, false, List, [], ◌∷◌, filter, Option, Some, None, Err, refl, sym, ap, ◌∙◌, subst, inl, inr}
use Rattle.std.specs.Prelude.{◌&&◌, ◌||◌, ◌==◌}
use Rattle.std.specs.List.{AllByRecursion, list_any}
use Rattle.std.proofs.lemmas.Bool.Decides.{nat_tests}
use Rattle.std.proofs.Common.{arith}
use Rattle.bus_sim.specs.declared.clients.Clients.TheVariants.{One}
use Rattle.bus_sim.specs.Begun.{CanBegin, CanLoad, addresses, begins, device_begun, loaded_or_blank}
use Rattle.bus_sim.specs.Loaded.{IsRefusedFor, IsWant}
use Rattle.bus_sim.specs.RunNow.{RunNow}
use Rattle.knx_model.specs.declared.address.IndAddr.{IndAddr}
use Rattle.call_words.specs.declared.input_file.InputFile.TheVariants as file
use Rattle.call_words.specs.declared.stop.Stop.{Stop}
use Rattle.call_words.specs.declared.stop.Stop.TheVariants as stop
use Rattle.knx_model.specs.declared.config.Image.{Image}
use Rattle.knx_model.specs.declared.refusal.Refused.{Refused}
use Rattle.knx_model.specs.declared.refusal.Why.{Why}
use Rattle.knx_model.specs.declared.refusal.Why.TheVariants as why
use Rattle.knx_model.specs.declared.script.ScriptLine.{ScriptLine}
use Rattle.knx_model.specs.Acts.{IsInRange}
use Rattle.knx_model.specs.Meaning.{Installation, meaning}
use Rattle.knx_model.specs.Promises.{StartOf, BeginsLoaded, BeginsBlank}
use Rattle.knx_model.specs.Rules.{has_device}
use Rattle.knx_model.specs.ScriptText.{first_stranger}
use Rattle.line_model.specs.Lines.{Script, script_of}
use Rattle.line_model.specs.StartOf.{BeginsAs, DeviceBegins, line_of, tunnel_address, is_on_bus}
use Rattle.knx_top.specs.Begun.{BeginsLine, IsOldInRange}
use Rattle.call_parts.specs.Judged.{unless_strange}
use Rattle.call_parts.specs.OnLine.{AreCompiled, IsCompiled, IsImageWhere, addresses_of_line, on_bus}
use Rattle.knx_top.proofs.OnBus.{any_on_bus}

-- ---- one device

starts : (old : Installation) (device : IndAddr) (image : Option Image) → IsImageWhere old device image → StartOf old device (loaded_or_blank device image)
starts old device None h = BeginsBlank h refl
starts old device (Some image) h = BeginsLoaded h.0 image h.1.stands refl

begins_listed : (old : Installation) (script : Script) (d : IndAddr × Option Image) (a : IndAddr) → IsCompiled old d a → BeginsAs old script d.0.raw None (begins script d.0 d.1)
begins_listed old script d a is = record {
  loaded = loaded_or_blank d.0 d.1;
  start = starts old d.0 d.1 (subst (λ (device : IndAddr). IsImageWhere old device d.1) (sym is.device) is.image);
  is = refl;
}

same_number : (x y : ℕ) → (x == y) ≡ true → x ≡ y
same_number x y h = grind (arith, nat_tests)

turned : (x y : ℕ) → (y == x) ≡ (x == y)
turned x y = grind (arith, nat_tests)

at_head : (b : Bool) (old : Installation) (script : Script) (d : IndAddr × Option Image) (ds : List (IndAddr × Option Image)) (a : IndAddr) (listed : List IndAddr) (address : ℕ) → (address == d.0.raw) ≡ b → IsCompiled old d a
    → DeviceBegins old script address None (list_any (λ (x : IndAddr). x.raw == address) listed) (device_begun script ds address)
    → DeviceBegins old script address None (list_any (λ (x : IndAddr). x.raw == address) (a ∷ listed)) (device_begun script (d ∷ ds) address)
at_head true old script d ds a listed address e is rest =
    let same : (a.raw == address) ≡ true = turned address a.raw ∙ ap (λ (x : IndAddr). address == x.raw) (sym is.device) ∙ e in
    rw (e, same) (subst (λ (n : ℕ). BeginsAs old script n None (begins script d.0 d.1)) (sym (same_number address d.0.raw e)) (begins_listed old script d a is))
at_head false old script d ds a listed address e is rest =
    let other : (a.raw == address) ≡ false = turned address a.raw ∙ ap (λ (x : IndAddr). address == x.raw) (sym is.device) ∙ e in
    rw (e, other) rest

begun_at : (old : Installation) (script : Script) (devices : List (IndAddr × Option Image)) (listed : List IndAddr) (address : ℕ) → AreCompiled old devices listed
    → DeviceBegins old script address None (list_any (λ (x : IndAddr). x.raw == address) listed) (device_begun script devices address)
begun_at old script [] [] address h = refl
begun_at old script [] (a ∷ listed) address h = absurd h
begun_at old script (d ∷ ds) [] address h = absurd h
begun_at old script (d ∷ ds) (a ∷ listed) address h = at_head (address == d.0.raw) old script d ds a listed address refl h.0 (begun_at old script ds listed address h.1)

-- ---- all of them

addresses_are : (old : Installation) (devices : List (IndAddr × Option Image)) (listed : List IndAddr) → AreCompiled old devices listed → addresses devices ≡ listed
addresses_are old [] [] h = refl
addresses_are old [] (a ∷ listed) h = absurd h
addresses_are old (d ∷ ds) [] h = absurd h
addresses_are old (d ∷ ds) (a ∷ listed) h = rw (h.0.device, addresses_are old ds listed h.1) refl

-- ---- what the old project says of them has numbers of two octets

image_in_range : (old : Installation) (a : IndAddr) (image : Option Image) → IsImageWhere old a image → has_device old.statements a.raw ≡ true → IsInRange (meaning old a)
image_in_range old a None none has = absurd (let no : false ≡ true = sym none ∙ has in cc)
image_in_range old a (Some image) is has = is.1.in_range

listed_in_range : (old : Installation) (devices : List (IndAddr × Option Image)) (listed : List IndAddr) (device : ℕ) → AreCompiled old devices listed → list_any (λ (x : IndAddr). x.raw == device) listed ≡ true → has_device old.statements device ≡ true
    → IsInRange (meaning old (record { raw = device }))
listed_in_range old [] [] device h on has = absurd cc
listed_in_range old [] (a ∷ listed) device h on has = absurd h
listed_in_range old (d ∷ ds) [] device h on has = absurd h
listed_in_range old (d ∷ ds) (a ∷ listed) device h on has = by_test (a.raw == device) refl on (λ later. listed_in_range old ds listed device h.1 later has)
  where
    by_test : (b : Bool) → (a.raw == device) ≡ b → (b || list_any (λ (x : IndAddr). x.raw == device) listed) ≡ true → (list_any (λ (x : IndAddr). x.raw == device) listed ≡ true → IsInRange (meaning old (record { raw = device })))
        → IsInRange (meaning old (record { raw = device }))
    by_test true e on rest =
        let same : a.raw ≡ device = same_number a.raw device e in
        subst (λ (raw : ℕ). IsInRange (meaning old (record { raw = raw }))) same (image_in_range old a d.1 h.0.image (subst (λ (raw : ℕ). has_device old.statements raw ≡ true) (sym same) has))
    by_test false e on rest = rest on

old_in_range : (new old : Installation) (devices : List (IndAddr × Option Image)) → AreCompiled old devices (on_bus new old) → IsOldInRange new old
old_in_range new old devices are device on has = listed_in_range old devices (on_bus new old) device are (any_on_bus new old device ∙ on) has

-- ---- the line

abbrev begun : IndAddr → List (IndAddr × Option Image) → List ScriptLine → RunNow
begun tunnel devices lines = record { begun = record { clients = One; tunnel = tunnel; devices = devices; script = lines }; events = [] }

pub begins_line : (new old : Installation) (lines : List ScriptLine) (tunnel : IndAddr) (devices : List (IndAddr × Option Image)) (r : RunNow) → r ≡ begun tunnel devices lines → tunnel ≡ tunnel_address new → AreCompiled old devices (on_bus new old)
    → first_stranger (addresses devices) lines ≡ None → BeginsLine new old lines r
begins_line new old lines tunnel devices r e at are known = subst (BeginsLine new old lines) (sym e) (record {
  begins = record {
    tunnel = rw at refl;
    echo = refl;
    devices = λ device. subst (λ (b : Bool). DeviceBegins old (script_of lines) device None b (device_begun (script_of lines) devices device)) (any_on_bus new old device) (begun_at old (script_of lines) devices (on_bus new old) device are);
  };
  says = refl;
  one = refl;
  nothing = refl;
  known = subst (λ (listed : List IndAddr). first_stranger listed lines ≡ None) (addresses_are old devices (on_bus new old) are) known;
  in_range = old_in_range new old devices are;
})

-- ---- it can be loaded

image_fits : (old : Installation) (device : IndAddr) (image : Option Image) → IsImageWhere old device image → CanBegin (record { raw = device.raw }) (device, image)
image_fits old device None h = record { line = refl; image = tt }
image_fits old device (Some image) h = record { line = refl; image = h.1.fits }

on_its_line : (new old : Installation) (listed : List IndAddr) → AllByRecursion (λ (a : IndAddr). line_of a.raw ≡ line_of (tunnel_address new).raw) (filter (λ (d : IndAddr). is_on_bus new old d.raw) listed)
on_its_line new old [] = tt
on_its_line new old (a ∷ listed) = where_on (is_on_bus new old a.raw) new old a listed refl (on_its_line new old listed)
  where
    first_true : (a b : Bool) → (a && b) ≡ true → a ≡ true
    first_true true b h = refl
    first_true false b h = h

    where_on : (b : Bool) (new old : Installation) (a : IndAddr) (listed : List IndAddr) → is_on_bus new old a.raw ≡ b → AllByRecursion (λ (a : IndAddr). line_of a.raw ≡ line_of (tunnel_address new).raw) (filter (λ (d : IndAddr). is_on_bus new old d.raw) listed)
        → AllByRecursion (λ (a : IndAddr). line_of a.raw ≡ line_of (tunnel_address new).raw) (filter (λ (d : IndAddr). is_on_bus new old d.raw) (a ∷ listed))
    where_on true new old a listed e rest = rw e (same_number (line_of a.raw) (line_of (tunnel_address new).raw) (first_true (line_of a.raw == line_of (tunnel_address new).raw) _ e), rest)
    where_on false new old a listed e rest = rw e rest

loadable : (new old : Installation) (devices : List (IndAddr × Option Image)) (listed : List IndAddr) → AreCompiled old devices listed → AllByRecursion (λ (a : IndAddr). line_of a.raw ≡ line_of (tunnel_address new).raw) listed → CanLoad (tunnel_address new) devices
loadable new old [] [] h lines = tt
loadable new old [] (a ∷ listed) h lines = absurd h
loadable new old (d ∷ ds) [] h lines = absurd h
loadable new old (d ∷ ds) (a ∷ listed) h lines =
    (record { line = ap (λ (x : IndAddr). line_of x.raw) h.0.device ∙ lines.0; image = (image_fits old a d.1 h.0.image).image }, loadable new old ds listed h.1 lines.1)

pub can_load : (new old : Installation) (devices : List (IndAddr × Option Image)) → AreCompiled old devices (on_bus new old) → CanLoad (tunnel_address new) devices
unfolding on_bus
can_load new old devices are = loadable new old devices _ are (on_its_line new old (addresses_of_line (line_of (tunnel_address new).raw)))

-- ---- a stranger, or want of memory

want_of : (refused : Refused) (w : Why) → IsWant refused w → w ≡ why.NoMemory tt
want_of refused (why.NoMemory want) h = refl
want_of refused w h = absurd h

pub strange : (new old : Installation) (lines : List ScriptLine) (devices : List (IndAddr × Option Image)) (refused : Refused) (told : Stop) → AreCompiled old devices (on_bus new old)
    → IsRefusedFor (first_stranger (addresses devices) lines) refused → (refused.why ≡ why.NoMemory tt → told ≡ stop.NoMemory tt) → (refused.why ≢ why.NoMemory tt → told ≡ stop.Refused file.Script refused)
    → told ≢ stop.NoMemory tt → unless_strange new old lines ≡ Err told
strange new old lines devices refused told are (inl e) memory other not_wanting =
    let here : first_stranger (on_bus new old) lines ≡ Some refused = subst (λ (listed : List IndAddr). first_stranger listed lines ≡ Some refused) (addresses_are old devices (on_bus new old) are) e in
    rw (here, other (λ wants. not_wanting (memory wants))) refl
strange new old lines devices refused told are (inr want) memory other not_wanting = absurd (not_wanting (memory (want_of refused refused.why want)))
