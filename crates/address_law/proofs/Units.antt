-- The units: what a read, a write and a response make of them.
use Rattle.std.proofs.Common.{◌≡◌, ℕ, zero, suc, ◌+◌, ◌*◌, ◌/◌, ◌%◌, ◌⊎◌, inl, inr, List, [], ◌∷◌, ◌++◌, length, map, Bool, true, false, cond, Some, None, refl, sym, ◌∙◌, ap, subst, arith}
use Rattle.std.specs.List.{AllByRecursion}
use Rattle.knx_model.specs.declared.address.IndAddr.{IndAddr}
use Rattle.knx_model.specs.declared.frames.cemi.Ldata.{Ldata}
use Rattle.knx_model.specs.ApduReading.{apdu_in, tpdu_in, service_in}
use Rattle.line_model.specs.World.{on_bus}
use Rattle.address_world.specs.declared.asked.Asked.TheVariants.{Read, Connect, Disconnect, Write}
use Rattle.address_world.specs.AddressWorld.{UnitState, all_get, changed, oldest_at, response, sends}
use Rattle.address_world.specs.Keeps.{frame_of}
use Rattle.address_law.proofs.Programmed.{programmed, given}

-- ---- units as these, with responses that aren't sent yet

pub record IsAs (b u : UnitState) : Type 0 where
  pub address : u.address ≡ b.address
  pub mode : u.programming ≡ b.programming
  pub owes : AllByRecursion (λ (s : IndAddr). (s ≡ b.address) × (b.programming ≡ true)) u.unsent

abbrev pub AreAs : List UnitState → List UnitState → Type 0
AreAs [] [] = Unit {0}
AreAs (b ∷ base) (u ∷ units) = IsAs b u × AreAs base units
AreAs _ _ = ⊥

-- how many
abbrev pub todo : List UnitState → ℕ
todo [] = 0
todo (u ∷ units) = length u.unsent + todo units

abbrev pub IsIn : IndAddr → List IndAddr → Type 0
IsIn s [] = ⊥
IsIn s (x ∷ l) = (s ≡ x) ⊎ IsIn s l

none_left : (l : List IndAddr) (n : ℕ) → length l + n ≡ 0 → l ≡ []
none_left [] n h = refl
none_left (x ∷ l) n h = absurd (let z : ⊥ = omega (arith, h) in z)

rest_left : (l : List IndAddr) (n : ℕ) → length l + n ≡ 0 → n ≡ 0
rest_left l n h = omega (arith, h)

-- ---- a read

abbrev pub reads : UnitState → UnitState
reads u = cond u.programming (record u { unsent = u.unsent ++ u.address ∷ [] }) u

pub get_read : (me wanted : IndAddr) (at : ℕ) (units : List UnitState) → all_get at [] (on_bus me (frame_of wanted Read)) units ≡ map reads units
unfolding service_in tpdu_in apdu_in
get_read me wanted at [] = refl
get_read me wanted at (u ∷ units) = ap (λ l. reads u ∷ l) (get_read me wanted (suc at) units)

-- the address that is read of a write
abbrev read_back : IndAddr → IndAddr
read_back wanted = record { raw = 256 * (wanted.raw / 256) + wanted.raw % 256 }

same_back : (wanted : IndAddr) → read_back wanted ≡ wanted
same_back wanted = ap (λ (n : ℕ). record { raw = n }) (let e : 256 * (wanted.raw / 256) + wanted.raw % 256 ≡ wanted.raw = omega arith in e)

back_write : (me wanted : IndAddr) (at : ℕ) (units : List UnitState) → all_get at [] (on_bus me (frame_of wanted Write)) units ≡ map (given (read_back wanted)) units
unfolding service_in tpdu_in apdu_in
back_write me wanted at [] = refl
back_write me wanted at (u ∷ units) = ap (λ l. given (read_back wanted) u ∷ l) (back_write me wanted (suc at) units)

pub get_write : (me wanted : IndAddr) (at : ℕ) (units : List UnitState) → all_get at [] (on_bus me (frame_of wanted Write)) units ≡ map (given wanted) units
get_write me wanted at units = back_write me wanted at units ∙ ap (λ w. map (given w) units) (same_back wanted)

one_same : (b : Bool) (u : UnitState) → cond b u u ≡ u
one_same true u = refl
one_same false u = refl

pub get_connect : (me wanted : IndAddr) (at : ℕ) (units : List UnitState) → all_get at [] (on_bus me (frame_of wanted Connect)) units ≡ units
get_connect me wanted at [] = refl
get_connect me wanted at (u ∷ units) = ap (λ x. x ∷ all_get (suc at) [] (on_bus me (frame_of wanted Connect)) units) (one_same u.programming u) ∙ ap (λ l. u ∷ l) (get_connect me wanted (suc at) units)

pub get_disconnect : (me wanted : IndAddr) (at : ℕ) (units : List UnitState) → all_get at [] (on_bus me (frame_of wanted Disconnect)) units ≡ units
get_disconnect me wanted at [] = refl
get_disconnect me wanted at (u ∷ units) = ap (λ x. x ∷ all_get (suc at) [] (on_bus me (frame_of wanted Disconnect)) units) (one_same u.programming u) ∙ ap (λ l. u ∷ l) (get_disconnect me wanted (suc at) units)

-- one unit
abbrev Owes : UnitState → List IndAddr → Type 0
Owes b l = AllByRecursion (λ (s : IndAddr). (s ≡ b.address) × (b.programming ≡ true)) l

reads_on : (u : UnitState) (t : Bool) → u.programming ≡ t → reads u ≡ cond t (record u { unsent = u.unsent ++ u.address ∷ [] }) u
reads_on u t e = ap (λ b. cond b (record u { unsent = u.unsent ++ u.address ∷ [] }) u) e

read_one : (b u : UnitState) (t : Bool) → b.programming ≡ t → IsAs b u → u.unsent ≡ [] → IsAs b (reads u)
read_one b u true e h none = subst (IsAs b) (sym (reads_on u true (h.mode ∙ e))) (record { address = h.address; mode = h.mode; owes = subst (λ l. Owes b (l ++ u.address ∷ [])) (sym none) ((h.address, e), tt) })
read_one b u false e h none = subst (IsAs b) (sym (reads_on u false (h.mode ∙ e))) h

read_todo : (b u : UnitState) (t : Bool) (n : ℕ) (l : List IndAddr) → b.programming ≡ t → IsAs b u → u.unsent ≡ [] → n ≡ length l → length (reads u).unsent + n ≡ length (cond b.programming (b.address ∷ l) l)
read_todo b u true n l e h none is =
    let one : length (reads u).unsent ≡ 1 = ap (λ (x : UnitState). length x.unsent) (reads_on u true (h.mode ∙ e)) ∙ ap (λ z. length (z ++ u.address ∷ [])) none in
    let all : length (cond b.programming (b.address ∷ l) l) ≡ suc (length l) = ap (λ t. length (cond t (b.address ∷ l) l)) e in
    omega (arith, one, all, is)
read_todo b u false n l e h none is =
    let no : length (reads u).unsent ≡ 0 = ap (λ (x : UnitState). length x.unsent) (reads_on u false (h.mode ∙ e)) ∙ ap length none in
    let all : length (cond b.programming (b.address ∷ l) l) ≡ length l = ap (λ t. length (cond t (b.address ∷ l) l)) e in
    omega (arith, no, all, is)

pub read_as : (base units : List UnitState) → AreAs base units → todo units ≡ 0 → AreAs base (map reads units) × (todo (map reads units) ≡ length (programmed base))
read_as [] [] h z = (tt, refl)
read_as [] (u ∷ units) h z = absurd h
read_as (b ∷ base) [] h z = absurd h
read_as (b ∷ base) (u ∷ units) h z =
    let none : u.unsent ≡ [] = none_left u.unsent (todo units) z in
    let rest = read_as base units h.1 (rest_left u.unsent (todo units) z) in
    ((read_one b u b.programming refl h.0 none, rest.0), read_todo b u b.programming (todo (map reads units)) (programmed base) refl h.0 none rest.1)

-- ---- a write

given_on : (wanted : IndAddr) (u : UnitState) (t : Bool) → u.programming ≡ t → given wanted u ≡ cond t (record u { address = wanted }) u
given_on wanted u t e = ap (λ b. cond b (record u { address = wanted }) u) e

abbrev Both : UnitState → UnitState → Type 0
Both b u = IsAs b u × (u.unsent ≡ [])

write_one : (wanted : IndAddr) (b u : UnitState) (t : Bool) → b.programming ≡ t → IsAs b u → u.unsent ≡ [] → Both (given wanted b) (given wanted u)
write_one wanted b u true e h none =
    let w : UnitState = record b { address = wanted } in
    let there : Both w (record u { address = wanted }) = (record { address = refl; mode = h.mode; owes = subst (Owes w) (sym none) tt }, none) in
    subst (λ z. Both z (given wanted u)) (sym (given_on wanted b true e)) (subst (Both w) (sym (given_on wanted u true (h.mode ∙ e))) there)
write_one wanted b u false e h none = subst (λ z. Both z (given wanted u)) (sym (given_on wanted b false e)) (subst (Both b) (sym (given_on wanted u false (h.mode ∙ e))) (h, none))

pub write_as : (wanted : IndAddr) (base units : List UnitState) → AreAs base units → todo units ≡ 0 → AreAs (map (given wanted) base) (map (given wanted) units) × (todo (map (given wanted) units) ≡ 0)
write_as wanted [] [] h z = (tt, refl)
write_as wanted [] (u ∷ units) h z = absurd h
write_as wanted (b ∷ base) [] h z = absurd h
write_as wanted (b ∷ base) (u ∷ units) h z =
    let none : u.unsent ≡ [] = none_left u.unsent (todo units) z in
    let rest = write_as wanted base units h.1 (rest_left u.unsent (todo units) z) in
    let one = write_one wanted b u b.programming refl h.0 none in
    let no : length (given wanted u).unsent ≡ 0 = ap length one.1 in
    let later = rest.1 in
    ((one.0, rest.0), omega (arith, no, later))

-- ---- a response

pub record Responds (base units after : List UnitState) (f : Ldata) : Type 0 where
  pub source : IndAddr
  pub is : f ≡ response source
  pub among : IsIn source (programmed base)
  pub held : AreAs base after
  pub fewer : todo units ≡ suc (todo after)

in_one : (b : UnitState) (s : IndAddr) (l : List IndAddr) → s ≡ b.address → b.programming ≡ true → IsIn s (cond b.programming (b.address ∷ l) l)
in_one b s l e m = rw m (inl e)

in_more : (b : UnitState) (t : Bool) (s : IndAddr) (l : List IndAddr) → b.programming ≡ t → IsIn s l → IsIn s (cond b.programming (b.address ∷ l) l)
in_more b true s l e h = rw e (inr h)
in_more b false s l e h = rw e h

respond_here : (b u : UnitState) (base units : List UnitState) (f : Ldata) (l : List IndAddr) → u.unsent ≡ l → IsAs b u → AreAs base units → oldest_at 0 (u ∷ units) ≡ Some f → Responds (b ∷ base) (u ∷ units) (sends u ∷ units) f
respond_here b u base units f [] is h a o = absurd (let z : None ≡ Some f = ap (λ (l : List IndAddr). oldest_at 0 (record u { unsent = l } ∷ units)) (sym is) ∙ o in cc)
respond_here b u base units f (s ∷ l) is h a o =
    let owes = subst (λ (z : List IndAddr). AllByRecursion (λ (s : IndAddr). (s ≡ b.address) × (b.programming ≡ true)) z) is h.owes in
    let same : Some (response s) ≡ Some f = ap (λ (l : List IndAddr). oldest_at 0 (record u { unsent = l } ∷ units)) (sym is) ∙ o in
    record {
      source = s;
      is = cc;
      among = in_one b s (programmed base) owes.0.0 owes.0.1;
      held = (record { address = h.address; mode = h.mode; owes = rw is owes.1 }, a);
      fewer = rw is (omega arith);
    }

pub responds : (at : ℕ) (base units : List UnitState) (f : Ldata) → AreAs base units → oldest_at at units ≡ Some f → Responds base units (changed at sends units) f
responds at [] [] f h o = absurd (let z : None ≡ Some f = o in cc)
responds at [] (u ∷ units) f h o = absurd h
responds at (b ∷ base) [] f h o = absurd h
responds zero (b ∷ base) (u ∷ units) f h o = respond_here b u base units f u.unsent refl h.0 h.1 o
responds (suc at) (b ∷ base) (u ∷ units) f h o =
    let x = responds at base units f h.1 o in
    record { source = x.source; is = x.is; among = in_more b b.programming x.source (programmed base) refl x.among; held = (h.0, x.held); fewer = (let n = x.fewer in omega (arith, n)) }

-- ---- the only one

pub the_only : (l : List IndAddr) (s : IndAddr) → length l ≡ 1 → IsIn s l → l ≡ s ∷ []
the_only [] s n h = absurd h
the_only (x ∷ []) s n (inl e) = ap (λ z. z ∷ []) (sym e)
the_only (x ∷ []) s n (inr h) = absurd h
the_only (x ∷ y ∷ l) s n h = absurd (let z : ⊥ = omega (arith, n) in z)
