-- What the rounds give is what the units determine, where the newest round is heard out.
use Rattle.std.proofs.Common.{◌≡◌, ℕ, suc, ◌≤◌, List, [], ◌∷◌, ◌++◌, length, map, Bool, true, false, not, cond, Some, refl, sym, ◌∙◌, ap, subst, inl, inr, arith, get_or}
use Rattle.std.specs.Prelude.{Contains, ◌==◌, ◌||◌}
use Rattle.knx_model.specs.declared.address.IndAddr.{IndAddr}
use Rattle.knx_model.specs.declared.frames.cemi.Ldata.{Ldata}
use Rattle.knx_model.specs.ApduReading.{apdu_in, tpdu_in, service_in}
use Rattle.address_world.specs.declared.asked.Asked.{Asked}
use Rattle.address_world.specs.declared.asked.Asked.TheVariants.{Read, Connect, Disconnect, Write}
use Rattle.address_world.specs.AddressWorld.{UnitState, has_address}
use Rattle.address_world.specs.Keeps.{frame_of}
use Rattle.address_talk.specs.Rounds.{Round, is_read, answers}
use Rattle.address_talk.specs.Talk.{AllSilent, AsksFor, Searches, SeveralAnswer, MayAsk, Writes, Gives, NobodyAnswers, HasItAlready, ManyAnswer, ManyAnswerLate, AnotherHasIt, HasItNow, IsntSure}
use Rattle.address_talk.specs.declared.assigned.Assigned.{Assigned}
use Rattle.address_talk.specs.declared.assigned.Assigned.TheVariants.{Done, Several}
use Rattle.address_world.specs.declared.unit.Unit.{Unit as BusUnit}
use Rattle.address_world.specs.Shown.{shown}
use Rattle.address_law.specs.Determined.{Determines, NobodyIs, SeveralAre, HasIt, GetsIt, AnotherHasIt as HasAnother, programmed as programmed_units, is_there}
use Rattle.address_law.proofs.Programmed.{programmed, given}
use Rattle.address_law.proofs.Units.{AreAs, IsIn, the_only}
use Rattle.address_law.proofs.Rides.{AllIn, Past, Whole, base, base_on, silent_base, written_base}

-- ---- what was asked is told by the frame

abbrev first_octet : Ldata → ℕ
first_octet f = get_or f.tpdu 0 99

abbrev number : Asked → ℕ
number Read = 1
number Connect = 128
number Disconnect = 129
number Write = 0

abbrev asked_of : ℕ → Asked
asked_of n = cond (n == 1) Read (cond (n == 128) Connect (cond (n == 129) Disconnect Write))

first_is : (wanted : IndAddr) (asked : Asked) → first_octet (frame_of wanted asked) ≡ number asked
first_is wanted Read = refl
first_is wanted Connect = refl
first_is wanted Disconnect = refl
first_is wanted Write = refl

asked_back : (asked : Asked) → asked_of (number asked) ≡ asked
asked_back Read = refl
asked_back Connect = refl
asked_back Disconnect = refl
asked_back Write = refl

back : (wanted : IndAddr) (asked : Asked) → asked_of (first_octet (frame_of wanted asked)) ≡ asked
back wanted asked = ap asked_of (first_is wanted asked) ∙ asked_back asked

pub same_asked : (wanted : IndAddr) (a b : Asked) (r : Round) → AsksFor wanted a r → AsksFor wanted b r → a ≡ b
same_asked wanted a b r x y =
    let same : frame_of wanted a ≡ frame_of wanted b = (let z : Some (frame_of wanted a) ≡ Some (frame_of wanted b) = sym x ∙ y in cc) in
    sym (back wanted a) ∙ (ap (λ f. asked_of (first_octet f)) same ∙ back wanted b)

-- ---- a read is one, and a T_Connect and a T_Disconnect are none

read_is : (wanted : IndAddr) → is_read (Some (frame_of wanted Read)) ≡ true
unfolding service_in tpdu_in apdu_in
read_is wanted = refl

answers_read : (wanted : IndAddr) (r : Round) (rs : List Round) → AsksFor wanted Read r → answers (r ∷ rs) ≡ r.answers
answers_read wanted r rs asks = ap (λ o. cond (is_read o) r.answers (answers rs ++ r.answers)) asks ∙ ap (λ b. cond b r.answers (answers rs ++ r.answers)) (read_is wanted)

end_none : (l : List IndAddr) → l ++ [] ≡ l
end_none [] = refl
end_none (x ∷ l) = ap (λ z. x ∷ z) (end_none l)

answers_more : (r : Round) (rs : List Round) → is_read r.frame ≡ false → r.answers ≡ [] → answers (r ∷ rs) ≡ answers rs
answers_more r rs isnt none = ap (λ b. cond b r.answers (answers rs ++ r.answers)) isnt ∙ (ap (λ l. answers rs ++ l) none ∙ end_none (answers rs))

connect_not : (wanted : IndAddr) (r : Round) → AsksFor wanted Connect r → is_read r.frame ≡ false
connect_not wanted r asks = ap is_read asks

disconnect_not : (wanted : IndAddr) (r : Round) → AsksFor wanted Disconnect r → is_read r.frame ≡ false
disconnect_not wanted r asks = ap is_read asks

-- ---- lists of addresses

contains : (s : IndAddr) (l : List IndAddr) → IsIn s l → Contains l s
contains s [] h = absurd h
contains s (x ∷ l) (inl e) = (0, omega arith, sym e)
contains s (x ∷ l) (inr h) = let c = contains s l h in let lt = c.1 in (suc c.0, omega (arith, lt), c.2)

none_is : (l : List IndAddr) → length l ≡ 0 → l ≡ []
none_is [] h = refl
none_is (x ∷ l) h = absurd (let z : ⊥ = omega (arith, h) in z)

-- all units in programming mode have it
abbrev AllOf : IndAddr → List IndAddr → Type 0
AllOf wanted [] = Unit {0}
AllOf wanted (x ∷ l) = (x ≡ wanted) × AllOf wanted l

given_one : (wanted : IndAddr) (u : UnitState) (t : Bool) → u.programming ≡ t → (t ≡ true → u.address ≡ wanted) → given wanted u ≡ u
given_one wanted u true p h = ap (λ b. cond b (record u { address = wanted }) u) p ∙ ap (λ (a : IndAddr). record u { address = a }) (sym (h refl))
given_one wanted u false p h = ap (λ b. cond b (record u { address = wanted }) u) p

heads : (wanted : IndAddr) (b : Bool) (x : IndAddr) (l : List IndAddr) → AllOf wanted (cond b (x ∷ l) l) → (b ≡ true → x ≡ wanted) × AllOf wanted l
heads wanted true x l h = ((λ e. h.0), h.1)
heads wanted false x l h = ((λ e. absurd (cc)), h)

given_same : (wanted : IndAddr) (units : List UnitState) → AllOf wanted (programmed units) → map (given wanted) units ≡ units
given_same wanted [] h = refl
given_same wanted (u ∷ units) h =
    let x = heads wanted u.programming u.address (programmed units) h in
    let here : given wanted u ≡ u = given_one wanted u u.programming refl x.0 in
    ap (λ z. z ∷ map (given wanted) units) here ∙ ap (λ l. u ∷ l) (given_same wanted units x.1)

-- as many are in programming mode, each with the address then
given_on : (wanted : IndAddr) (u : UnitState) (t : Bool) → u.programming ≡ t → given wanted u ≡ cond t (record u { address = wanted }) u
given_on wanted u t p = ap (λ b. cond b (record u { address = wanted }) u) p

-- of the units given the address, one more in programming mode is one more with it
programmed_on : (wanted : IndAddr) (u : UnitState) (rest : List IndAddr) (t : Bool) → u.programming ≡ t → cond (given wanted u).programming ((given wanted u).address ∷ rest) rest ≡ cond t (wanted ∷ rest) rest
programmed_on wanted u rest true p = ap (λ (z : UnitState). cond z.programming (z.address ∷ rest) rest) (given_on wanted u true p) ∙ ap (λ b. cond b (wanted ∷ rest) rest) p
programmed_on wanted u rest false p = ap (λ (z : UnitState). cond z.programming (z.address ∷ rest) rest) (given_on wanted u false p) ∙ ap (λ b. cond b (u.address ∷ rest) rest) p

count_by : (t : Bool) (a b : IndAddr) (l m : List IndAddr) → length l ≡ length m → length (cond t (a ∷ l) l) ≡ length (cond t (b ∷ m) m)
count_by true a b l m h = ap suc h
count_by false a b l m h = h

count_given : (wanted : IndAddr) (units : List UnitState) → length (programmed (map (given wanted) units)) ≡ length (programmed units)
count_given wanted [] = refl
count_given wanted (u ∷ units) =
    ap length (programmed_on wanted u (programmed (map (given wanted) units)) u.programming refl) ∙ count_by u.programming wanted u.address (programmed (map (given wanted) units)) (programmed units) (count_given wanted units)

all_by : (wanted : IndAddr) (t : Bool) (l : List IndAddr) → AllOf wanted l → AllOf wanted (cond t (wanted ∷ l) l)
all_by wanted true l h = (refl, h)
all_by wanted false l h = h

all_given : (wanted : IndAddr) (units : List UnitState) → AllOf wanted (programmed (map (given wanted) units))
all_given wanted [] = tt
all_given wanted (u ∷ units) =
    subst (AllOf wanted) (sym (programmed_on wanted u (programmed (map (given wanted) units)) u.programming refl)) (all_by wanted u.programming (programmed (map (given wanted) units)) (all_given wanted units))

in_all : (wanted s : IndAddr) (l : List IndAddr) → AllOf wanted l → IsIn s l → s ≡ wanted
in_all wanted s [] a h = absurd h
in_all wanted s (x ∷ l) a (inl e) = e ∙ a.0
in_all wanted s (x ∷ l) a (inr h) = in_all wanted s l a.1 h

only_wanted : (wanted : IndAddr) (l heard : List IndAddr) → AllOf wanted l → length l ≡ 1 → length heard ≡ length l → AllIn l heard → heard ≡ wanted ∷ []
only_wanted wanted l [] a one n among = absurd (let z : ⊥ = omega (arith, one, n) in z)
only_wanted wanted l (s ∷ []) a one n among = ap (λ z. z ∷ []) (in_all wanted s l a among.0)
only_wanted wanted l (s ∷ s2 ∷ heard) a one n among = absurd (let z : ⊥ = omega (arith, one, n) in z)

same_one : (l : List IndAddr) (s : IndAddr) (heard : List IndAddr) → heard ≡ s ∷ [] → length heard ≡ length l → AllIn l heard → l ≡ s ∷ []
same_one l s heard e n among =
    let among2 : AllIn l (s ∷ []) = subst (AllIn l) e among in
    let one : length heard ≡ 1 = ap length e in
    the_only l s (omega (arith, one, n)) among2.0

-- ---- what was found

-- an address of one other unit
module _ (wanted : IndAddr) (start : List UnitState) where
  abbrev B : List Round → List UnitState
  B = base wanted start

  whole_of : (asked : Asked) (r : Round) (rs : List Round) → Past wanted start (r ∷ rs) → AsksFor wanted asked r → Whole wanted start asked (B (r ∷ rs)) r
  whole_of asked r rs p asks = subst (λ a. Whole wanted start a (B (r ∷ rs)) r) (same_asked wanted p.0.0.asked asked r p.0.0.asks asks) p.0.1

  -- a read by which the units are as they were
  pub record Found (heard : List IndAddr) : Type 0 where
    pub count : length heard ≡ length (programmed start)
    pub among : AllIn (programmed start) heard

  found_at : (r : Round) (rs : List Round) → Past wanted start (r ∷ rs) → AsksFor wanted Read r → B (r ∷ rs) ≡ start → Found r.answers
  found_at r rs p asks is =
      let w : Whole wanted start Read start r = subst (λ z. Whole wanted start Read z r) is (whole_of Read r rs p asks) in
      record { count = w.0; among = w.1 }

  search_base : (r : Round) (before : List Round) → Searches wanted r before → B (r ∷ before) ≡ start
  search_base r before s = base_on wanted start Read r before (λ e. cc) s.reads ∙ silent_base wanted start before s.silent

  searched : (r : Round) (before : List Round) → Past wanted start (r ∷ before) → Searches wanted r before → Found (answers (r ∷ before))
  searched r before p s = subst Found (sym (answers_read wanted r before s.reads)) (found_at r before p s.reads (search_base r before s))

  -- a search, a T_Connect and a T_Disconnect
  pub record Tried (d c r : Round) (before : List Round) : Type 0 where
    pub past : Past wanted start (d ∷ c ∷ r ∷ before)
    pub searches : Searches wanted r before
    pub connects : AsksFor wanted Connect c
    pub disconnects : AsksFor wanted Disconnect d

  connect_base : (c r : Round) (before : List Round) → Searches wanted r before → AsksFor wanted Connect c → B (c ∷ r ∷ before) ≡ start
  connect_base c r before s asks = base_on wanted start Connect c (r ∷ before) (λ e. cc) asks ∙ search_base r before s

  tried_base : (d c r : Round) (before : List Round) → Tried d c r before → B (d ∷ c ∷ r ∷ before) ≡ start
  tried_base d c r before t = base_on wanted start Disconnect d (c ∷ r ∷ before) (λ e. cc) t.disconnects ∙ connect_base c r before t.searches t.connects

  connect_whole : (d c r : Round) (before : List Round) → Tried d c r before → Whole wanted start Connect start c
  connect_whole d c r before t = subst (λ z. Whole wanted start Connect z c) (connect_base c r before t.searches t.connects) (whole_of Connect c (r ∷ before) t.past.1 t.connects)

  tried_found : (d c r : Round) (before : List Round) → Tried d c r before → Found (answers (d ∷ c ∷ r ∷ before))
  tried_found d c r before t =
      let none_d : d.answers ≡ [] = whole_of Disconnect d (c ∷ r ∷ before) t.past t.disconnects in
      let none_c : c.answers ≡ [] = (connect_whole d c r before t).1 in
      subst Found (sym (answers_more d (c ∷ r ∷ before) (disconnect_not wanted d t.disconnects) none_d ∙ answers_more c (r ∷ before) (connect_not wanted c t.connects) none_c)) (searched r before t.past.1.1 t.searches)

  -- whether a unit has the wanted address is told by the confirmation
  told_there : (d c r : Round) (before : List Round) → Tried d c r before → (error : Bool) → c.confirmed ≡ Some error → not (has_address wanted.raw start) ≡ error
  told_there d c r before t error e =
      let w = (connect_whole d c r before t).0 in
      let z : Some (not (has_address wanted.raw start)) ≡ Some error = sym w ∙ e in cc

  -- ---- what is given

  abbrev S : List BusUnit
  S = map shown start

  programmed_shown : (units : List UnitState) → programmed_units (map shown units) ≡ programmed units
  programmed_shown [] = refl
  programmed_shown (u ∷ units) = ap (λ l. cond u.programming (u.address ∷ l) l) (programmed_shown units)

  there_shown : (units : List UnitState) → is_there wanted (map shown units) ≡ has_address wanted.raw units
  there_shown [] = refl
  there_shown (u ∷ units) = ap (λ b. (u.address.raw == wanted.raw) || b) (there_shown units)

  abbrev pub left_units : Assigned → List UnitState
  left_units Done = map (given wanted) start
  left_units _ = start

  pub record Ended (units : List UnitState) (assigned : Assigned) : Type 0 where
    pub determined : Determines wanted S assigned
    pub held : AreAs (left_units assigned) units

  several : (first second : IndAddr) (heard : List IndAddr) → Found heard → SeveralAnswer first second heard → Determines wanted S (Several first second)
  several first second heard f s =
      let among : AllIn (programmed start) (first ∷ second ∷ s.more) = subst (AllIn (programmed start)) s.several f.among in
      let count : length heard ≡ suc (suc (length s.more)) = ap length s.several in
      let all = f.count in
      let same = programmed_shown start in
      let many : 2 ≤ length (programmed start) = omega (arith, count, all) in
      SeveralAre (subst (λ l. 2 ≤ length l) (sym same) many) (subst (λ l. Contains l first) (sym same) (contains first (programmed start) among.0)) (subst (λ l. Contains l second) (sym same) (contains second (programmed start) among.1.0))

  one : (source : IndAddr) (heard : List IndAddr) → Found heard → heard ≡ source ∷ [] → programmed_units S ≡ source ∷ []
  one source heard f e = programmed_shown start ∙ same_one (programmed start) source heard e f.count f.among

  done_held : (units : List UnitState) → programmed start ≡ wanted ∷ [] → AreAs start units → AreAs (map (given wanted) start) units
  done_held units e held = subst (λ b. AreAs b units) (sym (given_same wanted start (subst (AllOf wanted) (sym e) (refl, tt)))) held

  not_of : (b c : Bool) → not b ≡ c → b ≡ not c
  not_of true c e = ap not e
  not_of false c e = ap not e

  -- by the write, whose turn had come
  record Wrote (rs : List Round) : Type 0 where
    source : IndAddr
    single : programmed start ≡ source ∷ []
    nobody : has_address wanted.raw start ≡ false

  wrote : (rs : List Round) → MayAsk wanted rs Write → Past wanted start rs → Wrote rs
  wrote [] h p = elim h [ ]
  wrote (d ∷ []) h p = elim h [ ]
  wrote (d ∷ (c ∷ [])) h p = elim h [ ]
  wrote (d ∷ c ∷ r ∷ before) (Writes searches asks ends ok other) p =
      let t : Tried d c r before = record { past = p; searches = searches; connects = asks; disconnects = ends } in
      let f = tried_found d c r before t in
      record { source = other.source; single = same_one (programmed start) other.source (answers (d ∷ c ∷ r ∷ before)) other.one f.count f.among; nobody = not_of (has_address wanted.raw start) true (told_there d c r before t true ok) }

  -- the read after the write
  record Sure (v w : Round) (rs : List Round) : Type 0 where
    by : Wrote rs
    heard : v.answers ≡ wanted ∷ []
    answered : answers (v ∷ w ∷ rs) ≡ wanted ∷ []
    base_is : B (v ∷ w ∷ rs) ≡ map (given wanted) start

  sure : (v w : Round) (rs : List Round) → AsksFor wanted Read v → AsksFor wanted Write w → Past wanted start (v ∷ w ∷ rs) → Sure v w rs
  sure v w rs reads writes p =
      let asked : p.1.0.0.asked ≡ Write = same_asked wanted p.1.0.0.asked Write w p.1.0.0.asks writes in
      let by : Wrote rs = wrote rs (subst (λ a. MayAsk wanted rs a) asked p.1.0.0.may) p.1.1 in
      let is : B (v ∷ w ∷ rs) ≡ map (given wanted) start = base_on wanted start Read v (w ∷ rs) (λ e. cc) reads ∙ written_base wanted start w rs writes in
      let whole : Whole wanted start Read (map (given wanted) start) v = subst (λ z. Whole wanted start Read z v) is (whole_of Read v (w ∷ rs) p reads) in
      let count : length (programmed (map (given wanted) start)) ≡ 1 = count_given wanted start ∙ ap length by.single in
      let heard : v.answers ≡ wanted ∷ [] = only_wanted wanted (programmed (map (given wanted) start)) v.answers (all_given wanted start) count whole.0 whole.1 in
      record { by = by; heard = heard; answered = answers_read wanted v (w ∷ rs) reads ∙ heard; base_is = is }

  tried : (d c r : Round) (before : List Round) → Past wanted start (d ∷ c ∷ r ∷ before) → Searches wanted r before → AsksFor wanted Connect c → AsksFor wanted Disconnect d → Tried d c r before
  tried d c r before p s asks ends = record { past = p; searches = s; connects = asks; disconnects = ends }

  silent : (rs : List Round) → AllSilent wanted rs → length rs ≡ 3 → Past wanted start rs → programmed start ≡ []
  silent [] s n p = absurd (let z : ⊥ = omega (arith, n) in z)
  silent (r ∷ before) s n p =
      let f = found_at r before p s.0.reads (silent_base wanted start (r ∷ before) s) in
      let none : length r.answers ≡ 0 = ap length s.0.silent in
      let count = f.count in
      none_is (programmed start) (omega (arith, none, count))

  as_start : (rs : List Round) (units : List UnitState) → B rs ≡ start → AreAs (B rs) units → AreAs start units
  as_start rs units e held = subst (λ b. AreAs b units) e held

  pub gives : (rs : List Round) (units : List UnitState) (assigned : Assigned) → Gives wanted rs assigned → Past wanted start rs → AreAs (B rs) units → Ended units assigned
  gives rs units _ (NobodyAnswers all n) p held = record { determined = NobodyIs (programmed_shown start ∙ silent rs all n p); held = as_start rs units (silent_base wanted start rs all) held }
  gives (r ∷ before) units _ (HasItAlready s e) p held =
      let f = searched r before p s in
      record { determined = HasIt (one wanted (answers (r ∷ before)) f e); held = done_held units (same_one (programmed start) wanted (answers (r ∷ before)) e f.count f.among) (as_start (r ∷ before) units (search_base r before s) held) }
  gives (r ∷ before) units _ (ManyAnswer first second s more) p held =
      record { determined = several first second (answers (r ∷ before)) (searched r before p s) more; held = as_start (r ∷ before) units (search_base r before s) held }
  gives (d ∷ c ∷ r ∷ before) units _ (ManyAnswerLate first second s asks ends more) p held =
      let t = tried d c r before p s asks ends in
      record { determined = several first second (answers (d ∷ c ∷ r ∷ before)) (tried_found d c r before t) more; held = as_start (d ∷ c ∷ r ∷ before) units (tried_base d c r before t) held }
  gives (d ∷ c ∷ r ∷ before) units _ (AnotherHasIt s asks ends clear other) p held =
      let t = tried d c r before p s asks ends in
      record {
        determined = HasAnother (one other.source (answers (d ∷ c ∷ r ∷ before)) (tried_found d c r before t) other.one) other.other (there_shown start ∙ not_of (has_address wanted.raw start) false (told_there d c r before t false clear));
        held = as_start (d ∷ c ∷ r ∷ before) units (tried_base d c r before t) held;
      }
  gives (v ∷ w ∷ rs) units _ (HasItNow reads writes e) p held =
      let s = sure v w rs reads writes p in
      record { determined = GetsIt (programmed_shown start ∙ s.by.single) (there_shown start ∙ s.by.nobody); held = subst (λ b. AreAs b units) s.base_is held }
  gives (v ∷ w ∷ rs) units _ (IsntSure reads writes isnt) p held = absurd (isnt (sure v w rs reads writes p).answered)
