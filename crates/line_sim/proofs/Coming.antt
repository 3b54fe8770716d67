-- For whom a frame comes: one for a device alone changes no other, and what is brought to each place comes to all.
use Rattle.std.proofs.Common.{◌≡◌, ◌≢◌, ℕ, ◌+◌, ◌-◌, ◌<◌, ◌≤◌, ◌==◌, ◌⊎◌, inl, inr, Bool, true, false, not, ◌&&◌, ◌||◌, List, [], ◌∷◌, ◌++◌, length, take, Option, Some, None, refl, ap, sym, subst, ◌∙◌, arith, if◌then◌else◌, slice_index_or, option_to_list, nat_eq}
use Rattle.std.specs.Option.{option_eq}
use Rattle.std.proofs.lemmas.Bool.{cases_lt}
use Rattle.std.proofs.lemmas.List.{get_or_push, take_more}
use Rattle.std.proofs.Math.ListN.{get_or-append}
use Rattle.knx_model.specs.declared.device.Took.TheVariants.{Taken, NotMine, TooLong, Off}
use Rattle.knx_model.specs.declared.frames.cemi.Ldata.{Ldata}
use Rattle.knx_model.specs.ApduReading.{option_map}
use Rattle.knx_model.specs.DeviceState.{DeviceState}
use Rattle.knx_model.specs.DeviceFrames.{Whole, is_too_long, takes, took_of}
use Rattle.device_sim.proofs.Taken.{not_taken}
use Rattle.device_sim.specs.declared.brought.Brought.{Brought}
use Rattle.device_sim.specs.declared.brought.Brought.TheVariants.{NotTaken}
use Rattle.line_model.specs.World.{is_among}
use Rattle.line_sim.specs.Group.{IsBroughtAt, brought_there}
use Rattle.line_sim.specs.Places.{DevicesNow, ComesTo, device_at, device_in}

-- ---- a frame for one device alone

untaken : (d : DeviceState) (frame : Ldata) → frame.group ≡ false → d.address.raw ≢ frame.destination → ¬ (took_of d frame ≡ Taken)
untaken d frame alone other e = by_power d.power (frame.destination == d.address.raw) (grind arith) (ap (λ (g : Bool). if not d.power then Off else (if not g && not (frame.destination == d.address.raw) then NotMine else (if is_too_long d.frames frame then TooLong else Taken))) (sym alone) ∙ e)
  where
    by_power : (p t : Bool) → t ≡ false → (if not p then Off else (if not false && not t then NotMine else (if is_too_long d.frames frame then TooLong else Taken))) ≡ Taken → ⊥
    by_power false t e h = cc
    by_power true true e h = cc
    by_power true false e h = cc

pub not_for : (d : DeviceState) (frame : Ldata) (now : ℕ) → frame.group ≡ false → d.address.raw ≢ frame.destination → takes d frame now Whole ≡ d
not_for d frame now alone other = not_taken d frame now Whole (untaken d frame alone other)

-- the devices of a line that are named by their addresses
abbrev pub AreNamed : DevicesNow → Type 0
AreNamed n = (a : ℕ) (d : DeviceState) → device_at n a ≡ Some d → d.address.raw ≡ a

only_its : (n : DevicesNow) (now : ℕ) (frame : Ldata) (a : ℕ) → AreNamed n → frame.group ≡ false → a ≢ frame.destination → option_map (λ (d : DeviceState). takes d frame now Whole) (device_at n a) ≡ device_at n a
only_its n now frame a named alone other = by_there (device_at n a) refl
  where
    by_there : (o : Option DeviceState) → device_at n a ≡ o → option_map (λ (d : DeviceState). takes d frame now Whole) o ≡ o
    by_there None e = refl
    by_there (Some d) e =
        let not_it : d.address.raw ≢ frame.destination = λ is. other (sym (named a d e) ∙ is) in
        ap (λ (x : DeviceState). Some x) (not_for d frame now alone not_it)

same_or_other : (a b : ℕ) → (a ≡ b) ⊎ (a ≢ b)
same_or_other a b = decide (a == b) refl
  where
    decide : (t : Bool) → (a == b) ≡ t → (a ≡ b) ⊎ (a ≢ b)
    decide true e = inl (grind arith)
    decide false e = inr (grind arith)

pick : {X : Type 0} (t : Bool) (x y z : X) → (t ≡ true → x ≡ z) → (t ≡ false → y ≡ z) → (if t then x else y) ≡ z
pick true x y z this that = this refl
pick false x y z this that = that refl

clash : (b : Bool) → b ≡ true → b ≡ false → ⊥
clash b p q = cc

-- where it is lost for the device that it is for, nothing changes
pub comes_to_none : (n : DevicesNow) (now : ℕ) (left_out : List ℕ) (frame : Ldata) → AreNamed n → frame.group ≡ false → is_among left_out frame.destination ≡ true → ComesTo n now left_out frame n
comes_to_none n now left_out frame named alone lost devices are a = pick (is_among left_out a) _ _ _ (λ out. are a)
    (λ in_it. ap (option_map (λ (d : DeviceState). takes d frame now Whole)) (are a) ∙ only_its n now frame a named alone (λ is. clash (is_among left_out a) (ap (is_among left_out) is ∙ lost) in_it))

-- where it is lost for others alone, it is as if for none
pub comes_to_it : (n m : DevicesNow) (now : ℕ) (left_out : List ℕ) (frame : Ldata) → AreNamed n → frame.group ≡ false → is_among left_out frame.destination ≡ false → ComesTo n now [] frame m → ComesTo n now left_out frame m
comes_to_it n m now left_out frame named alone lost comes devices are a = pick (is_among left_out a) _ _ _
    (λ out. sym (ap (option_map (λ (d : DeviceState). takes d frame now Whole)) (are a) ∙ only_its n now frame a named alone (λ is. clash (is_among left_out a) out (ap (is_among left_out) is ∙ lost)) ∙ sym (are a)) ∙ comes devices are a)
    (λ in_it. comes devices are a)

-- ---- what is brought to each place

pub brought_more : (n : DevicesNow) (left_out : List ℕ) (frame : Ldata) (part : ℕ) (all more : List Brought) (one : Brought) → more ≡ all ++ one ∷ [] → length all ≡ part
    → ((k : ℕ) → k < part → IsBroughtAt n left_out frame k (slice_index_or all k NotTaken)) → IsBroughtAt n left_out frame part one
    → (k : ℕ) → k < part + 1 → IsBroughtAt n left_out frame k (slice_index_or more k NotTaken)
brought_more n left_out frame part all more one is long before here k h = elim (cases_lt k part) [
  | inl less ↦
      let within : k < length all = omega (arith, less, long) in
      subst (IsBroughtAt n left_out frame k) (sym (ap (λ (xs : List Brought). slice_index_or xs k NotTaken) is ∙ get_or-append all (one ∷ []) NotTaken k within)) (before k less)
  | inr more_than ↦
      let at : k ≡ part = omega (arith, h, more_than) in
      let there : slice_index_or more k NotTaken ≡ one = ap (λ (xs : List Brought). slice_index_or xs k NotTaken) is ∙ get_or_push all one NotTaken k (long ∙ sym at) in
      subst (IsBroughtAt n left_out frame k) (sym there) (subst (λ (i : ℕ). IsBroughtAt n left_out frame i one) (sym at) here)
]

-- ---- the last of those that are left

pub last_left : (all left less : List Brought) (part : ℕ) (one : Brought) → 0 < part → part ≤ length all → left ≡ take part all → left ≡ less ++ one ∷ [] → (less ≡ take (part - 1) all) × (one ≡ slice_index_or all (part - 1) NotTaken)
last_left all left less part one some within is pops =
    let next : (part - 1) + 1 ≡ part = omega arith in
    let inside : part - 1 < length all = omega arith in
    let split : less ++ one ∷ [] ≡ take (part - 1) all ++ slice_index_or all (part - 1) NotTaken ∷ []
    = sym pops ∙ is ∙ ap (λ (k : ℕ). take k all) (sym next) ∙ take_more all (part - 1) NotTaken inside in
    last_same less (take (part - 1) all) one (slice_index_or all (part - 1) NotTaken) split
  where
    last_same : (xs ys : List Brought) (x y : Brought) → xs ++ x ∷ [] ≡ ys ++ y ∷ [] → (xs ≡ ys) × (x ≡ y)
    last_same [] [] x y e = (refl, cc)
    last_same [] (b ∷ []) x y e = cc
    last_same [] (b ∷ (c ∷ ys)) x y e = cc
    last_same (a ∷ []) [] x y e = cc
    last_same (a ∷ (c ∷ xs)) [] x y e = cc
    last_same (a ∷ xs) (b ∷ ys) x y e =
        let rest : xs ++ x ∷ [] ≡ ys ++ y ∷ [] = cc in
        let head : a ≡ b = cc in
        let both : (xs ≡ ys) × (x ≡ y) = last_same xs ys x y rest in
        (ap (λ (h : Brought). h ∷ xs) head ∙ ap (λ (t : List Brought). b ∷ t) both.0, both.1)

-- one place more has got what was brought to it
pub behind_more : (old mid new : List (Option DeviceState)) (frame : Ldata) (brought : List Brought) (part : ℕ) (one : Brought) → 0 < part → one ≡ slice_index_or brought (part - 1) NotTaken
    → ((k : ℕ) → k < part → device_in mid k ≡ device_in old k) → ((k : ℕ) → part ≤ k → k < 256 → device_in mid k ≡ brought_there frame (device_in old k) (slice_index_or brought k NotTaken))
    → device_in new (part - 1) ≡ brought_there frame (device_in mid (part - 1)) one → ((k : ℕ) → k ≢ part - 1 → device_in new k ≡ device_in mid k)
    → (k : ℕ) → part - 1 ≤ k → k < 256 → device_in new k ≡ brought_there frame (device_in old k) (slice_index_or brought k NotTaken)
behind_more old mid new frame brought part one some is before behind here others k h lt = elim (same_or_other k (part - 1)) [
  | inl e ↦
      let less : part - 1 < part = omega arith in
      ap (device_in new) e ∙ here ∙ ap (λ (o : Option DeviceState). brought_there frame o one) (before (part - 1) less) ∙ ap (brought_there frame (device_in old (part - 1))) is
      ∙ ap (λ (i : ℕ). brought_there frame (device_in old i) (slice_index_or brought i NotTaken)) (sym e)
  | inr ne ↦ let more : part ≤ k = omega (arith, h, ne) in others k ne ∙ behind k more lt
]

-- ---- one that is left out, or none

pub among_one : (one : Option ℕ) (a : ℕ) → is_among (option_to_list one) a ≡ option_eq nat_eq one (Some a)
among_one None a = refl
among_one (Some b) a = or_nothing (b == a)
  where
    or_nothing : (t : Bool) → (t || false) ≡ t
    or_nothing true = refl
    or_nothing false = refl
