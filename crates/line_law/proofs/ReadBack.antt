-- What the gateway writes of a frame is read as that frame, or not at all where the TPDU is none that is sent.
use Rattle.std.proofs.Common.{◌≡◌, ℕ, suc, ◌+◌, ◌*◌, ◌-◌, ◌/◌, ◌%◌, ◌<◌, ◌≤◌, ◌⊎◌, List, [], ◌∷◌, drop, length, Bool, true, false, ◌&&◌, ◌||◌, Option, Some, None, refl, sym, ◌∙◌, ap, subst, arith, inl, inr, if◌then◌else◌}
use Rattle.std.specs.Prelude.{◌==◌, nat_le, nat_lt, slice_index}
use Rattle.knx_model.specs.declared.connection.TransportFrame.TheVariants.{Other}
use Rattle.knx_model.specs.declared.frames.cemi.Ldata.{Ldata}
use Rattle.knx_model.specs.declared.frames.cemi.LdataCode.{LdataCode}
use Rattle.knx_model.specs.declared.frames.cemi.LdataCode.TheVariants.{Req, Con, Ind}
use Rattle.knx_model.specs.Apdu.{most_octets, most_standard_octets}
use Rattle.knx_model.specs.ApduReading.{where_it}
use Rattle.knx_model.specs.Cemi.{Written, first_written, second_written}
use Rattle.knx_model.specs.Connection.{frame_in}
use Rattle.line_model.specs.Reading.{is_con, code_in, is_standard, most_tpdu, is_ldata, ldata_of, ldata_with, ldata_in}
use Rattle.line_law.proofs.Coupled.{IsOwn}

-- ---- the frames in question

abbrev pub low : LdataCode → Bool → Bool → ℕ → ℕ → List ℕ → Ldata
low code error group source destination tpdu = record { code = code; error = error; group = group; priority = 3; hops = 6; source = source; destination = destination; tpdu = tpdu }

abbrev body : Bool → Bool → Bool → ℕ → ℕ → List ℕ → List ℕ
body extended error group source destination tpdu =
    first_written extended error ∷ second_written group ∷ source / 256 ∷ source % 256 ∷ destination / 256 ∷ destination % 256 ∷ (length tpdu - 1) ∷ tpdu

abbrev is_long : List ℕ → Bool
is_long tpdu = nat_lt most_standard_octets (length tpdu)

abbrev Tells : LdataCode → Bool → Type 0
Tells Req error = error ≡ false
Tells Con error = Unit {0}
Tells Ind error = error ≡ false

-- ---- its parts

format_by : (standard group : Bool) → (standard || (second_written group % 16 == 0)) ≡ true
format_by true group = refl
format_by false true = refl
format_by false false = refl

standard_is : (extended error : Bool) → nat_le 0x80 (first_written extended error) ≡ (if extended then false else true)
standard_is true true = refl
standard_is true false = refl
standard_is false true = refl
standard_is false false = refl

fits_by : (n : ℕ) (t : Bool) → nat_lt most_standard_octets n ≡ t → n ≤ 64 → nat_le n (if (if t then false else true) then most_standard_octets else most_octets) ≡ true
fits_by n true e h = grind (arith, h)
fits_by n false e h = grind (arith, e)

all_true : (a b c d : Bool) → a ≡ true → b ≡ true → c ≡ true → d ≡ true → (a && b && c && d) ≡ true
all_true a b c d p q r s = cc

abbrev test_long : List ℕ → Bool
test_long b = nat_le 8 (length b)

abbrev test_format : List ℕ → Bool
test_format b = is_standard b || (slice_index b 1 % 16 == 0)

abbrev test_length : List ℕ → Bool
test_length b = length (drop 7 b) == slice_index b 6 + 1

abbrev test_most : List ℕ → Bool
test_most b = nat_le (length (drop 7 b)) (most_tpdu b)

most_is : (extended error group : Bool) (source destination : ℕ) (tpdu : List ℕ) → test_most (body extended error group source destination tpdu) ≡ nat_le (length tpdu) (if (if extended then false else true) then most_standard_octets else most_octets)
most_is extended error group source destination tpdu = ap (λ (t : Bool). nat_le (length tpdu) (if t then most_standard_octets else most_octets)) (standard_is extended error)

eight : (n : ℕ) → 1 ≤ n → nat_le 8 (suc (suc (suc (suc (suc (suc (suc n))))))) ≡ true
eight n h = grind (arith, h)

minus_one : (n : ℕ) → 1 ≤ n → (n == n - 1 + 1) ≡ true
minus_one n h = grind (arith, h)

passes : (error group : Bool) (source destination : ℕ) (tpdu : List ℕ) → 1 ≤ length tpdu → length tpdu ≤ 64 → is_ldata (body (is_long tpdu) error group source destination tpdu) ≡ true
passes error group source destination tpdu some fits =
    let b : List ℕ = body (is_long tpdu) error group source destination tpdu in
    all_true (test_long b) (test_format b) (test_length b) (test_most b) (eight (length tpdu) some) (format_by (is_standard b) group) (minus_one (length tpdu) some)
    (most_is (is_long tpdu) error group source destination tpdu ∙ fits_by (length tpdu) (is_long tpdu) refl fits)

too_long : (a b c d : Bool) → d ≡ false → (a && b && c && d) ≡ false
too_long true true true d e = e
too_long true true false d e = refl
too_long true false c d e = refl
too_long false b c d e = refl

long_by : (n : ℕ) (t : Bool) → nat_lt most_standard_octets n ≡ t → 64 < n → nat_le n (if (if t then false else true) then most_standard_octets else most_octets) ≡ false
long_by n true e h = grind (arith, h)
long_by n false e h = grind (arith, e, h)

fails : (error group : Bool) (source destination : ℕ) (tpdu : List ℕ) → 64 < length tpdu → is_ldata (body (is_long tpdu) error group source destination tpdu) ≡ false
fails error group source destination tpdu h =
    let b : List ℕ = body (is_long tpdu) error group source destination tpdu in
    too_long (test_long b) (test_format b) (test_length b) (test_most b) (most_is (is_long tpdu) error group source destination tpdu ∙ long_by (length tpdu) (is_long tpdu) refl h)

error_is : (code : LdataCode) (extended error : Bool) → Tells code error → (is_con code && (first_written extended error % 2 == 1)) ≡ error
error_is Req extended error h = sym h
error_is Con true true h = refl
error_is Con true false h = refl
error_is Con false true h = refl
error_is Con false false h = refl
error_is Ind extended error h = sym h

group_is : (group : Bool) → (second_written group / 128 == 1) ≡ group
group_is true = refl
group_is false = refl

priority_is : (extended error : Bool) → first_written extended error / 4 % 4 ≡ 3
priority_is true true = refl
priority_is true false = refl
priority_is false true = refl
priority_is false false = refl

hops_is : (group : Bool) → second_written group / 16 % 8 ≡ 6
hops_is true = refl
hops_is false = refl

word_is : (n : ℕ) → 256 * (n / 256) + n % 256 ≡ n
word_is n = omega arith

alike : {A B C D E F R : Type 0} (f : A → B → C → D → E → F → R) (a a' : A) (b b' : B) (c c' : C) (d d' : D) (e e' : E) (p p' : F) → a ≡ a' → b ≡ b' → c ≡ c' → d ≡ d' → e ≡ e' → p ≡ p' → f a b c d e p ≡ f a' b' c' d' e' p'
alike f a a' b b' c c' d d' e e' p p' ha hb hc hd he hp = cc

same_frame : (code : LdataCode) (error group : Bool) (source destination : ℕ) (tpdu : List ℕ) → Tells code error → ldata_of code (body (is_long tpdu) error group source destination tpdu) ≡ low code error group source destination tpdu
same_frame code error group source destination tpdu h =
    alike (λ (e g : Bool) (p k s d : ℕ). let x : Ldata = record { code = code; error = e; group = g; priority = p; hops = k; source = s; destination = d; tpdu = tpdu } in x) _ _ _ _ _ _ _ _ _ _ _ _
    (error_is code (is_long tpdu) error h) (group_is group) (priority_is (is_long tpdu) error) (hops_is group) (word_is source) (word_is destination)

-- ---- all of it

where_true : (a b : Bool) (x y : Ldata) → a ≡ true → b ≡ true → x ≡ y → ◌≡◌ {A = Option Ldata} (if a then where_it b x else None) (Some y)
where_true true true x y p q e = ap (λ z. Some z) e
where_true true false x y p q e = absurd (cc)
where_true false b x y p q e = absurd (cc)

where_false : (a b : Bool) (x : Ldata) → (a ≡ false) ⊎ (b ≡ false) → ◌≡◌ {A = Option Ldata} (if a then where_it b x else None) None
where_false true true x h = absurd (elim h [ inl e ↦ cc | inr e ↦ cc ])
where_false true false x h = refl
where_false false b x h = refl

long_enough : (tpdu : List ℕ) → 1 ≤ length tpdu → nat_le 10 (suc (suc (suc (suc (suc (suc (suc (suc (suc (length tpdu)))))))))) ≡ true
long_enough tpdu h = grind (arith, h)

pub written_in : (code : LdataCode) (error group : Bool) (source destination : ℕ) (tpdu : List ℕ) → 1 ≤ length tpdu → length tpdu ≤ 64 → Tells code error → ldata_in (Written (low code error group source destination tpdu)) ≡ Some (low code error group source destination tpdu)
unfolding ldata_in
written_in Req error group source destination tpdu some fits h =
    where_true (nat_le 10 (suc (suc (suc (suc (suc (suc (suc (suc (suc (length tpdu))))))))))) (is_ldata (body (is_long tpdu) error group source destination tpdu)) (ldata_of Req (body (is_long tpdu) error group source destination tpdu)) _ (long_enough tpdu some) (passes error group source destination tpdu some fits)
    (same_frame Req error group source destination tpdu h)
written_in Con error group source destination tpdu some fits h =
    where_true (nat_le 10 (suc (suc (suc (suc (suc (suc (suc (suc (suc (length tpdu))))))))))) (is_ldata (body (is_long tpdu) error group source destination tpdu)) (ldata_of Con (body (is_long tpdu) error group source destination tpdu)) _ (long_enough tpdu some) (passes error group source destination tpdu some fits)
    (same_frame Con error group source destination tpdu h)
written_in Ind error group source destination tpdu some fits h =
    where_true (nat_le 10 (suc (suc (suc (suc (suc (suc (suc (suc (suc (length tpdu))))))))))) (is_ldata (body (is_long tpdu) error group source destination tpdu)) (ldata_of Ind (body (is_long tpdu) error group source destination tpdu)) _ (long_enough tpdu some) (passes error group source destination tpdu some fits)
    (same_frame Ind error group source destination tpdu h)

unwritten_in : (error group : Bool) (source destination : ℕ) (tpdu : List ℕ) → (nat_le 10 (suc (suc (suc (suc (suc (suc (suc (suc (suc (length tpdu)))))))))) ≡ false) ⊎ (is_ldata (body (is_long tpdu) error group source destination tpdu) ≡ false) → ldata_in (Written (low Ind error group source destination tpdu)) ≡ None
unfolding ldata_in
unwritten_in error group source destination tpdu h =
    where_false (nat_le 10 (suc (suc (suc (suc (suc (suc (suc (suc (suc (length tpdu))))))))))) (is_ldata (body (is_long tpdu) error group source destination tpdu)) (ldata_of Ind (body (is_long tpdu) error group source destination tpdu)) h

other_long : (a b : Bool) (n : ℕ) → 64 < suc (suc n) → (a && b && nat_le (2 + n) most_octets) ≡ false
other_long true true n h = grind (arith, h)
other_long true false n h = refl
other_long false b n h = refl

other_by : {X : Type 0} (t : Bool) (x y : X) → t ≡ false → (if t then x else y) ≡ y
other_by true x y e = absurd (cc)
other_by false x y e = refl

pub none_is_other : (tpdu : List ℕ) → 64 < length tpdu → frame_in tpdu ≡ Other
unfolding frame_in
none_is_other [] h = refl
none_is_other (first ∷ []) h = absurd (omega (arith, h))
none_is_other (first ∷ second ∷ rest) h = other_by (nat_le 0x40 first && nat_lt first 0x80 && nat_le (2 + length rest) most_octets) _ Other (other_long (nat_le 0x40 first) (nat_lt first 0x80) (length rest) h)

-- a device's frame is read, or its TPDU is none of a connection
pub data IsRead (f : Ldata) : Type 0 where
  Read : ldata_in (Written f) ≡ Some f → IsRead f
  Unread : ldata_in (Written f) ≡ None → frame_in f.tpdu ≡ Other → IsRead f

empty_other : (tpdu : List ℕ) → length tpdu ≡ 0 → frame_in tpdu ≡ Other
unfolding frame_in
empty_other [] h = refl
empty_other (first ∷ rest) h = absurd (omega (arith, h))

read_by : (group : Bool) (source destination : ℕ) (tpdu : List ℕ) → (length tpdu ≡ 0) ⊎ (((1 ≤ length tpdu) × (length tpdu ≤ 64)) ⊎ (64 < length tpdu)) → IsRead (low Ind false group source destination tpdu)
read_by group source destination tpdu (inl none) = Unread (unwritten_in false group source destination tpdu (inl (grind (arith, none)))) (empty_other tpdu none)
read_by group source destination tpdu (inr (inl fits)) = Read (written_in Ind false group source destination tpdu fits.0 fits.1 refl)
read_by group source destination tpdu (inr (inr long)) = Unread (unwritten_in false group source destination tpdu (inr (fails false group source destination tpdu long))) (none_is_other tpdu long)

lengths : (n : ℕ) → (n ≡ 0) ⊎ (((1 ≤ n) × (n ≤ 64)) ⊎ (64 < n))
lengths n = grind arith

pub own_read : (f : Ldata) → IsOwn f → IsRead f
own_read f e = subst IsRead (sym e) (read_by f.group f.source f.destination f.tpdu (lengths (length f.tpdu)))

-- ---- what is read has a TPDU that can be sent

bools : (a b c d : Bool) → (a && b && c && d) ≡ true → (c ≡ true) × (d ≡ true)
bools true true true true h = (refl, refl)
bools true true true false h = absurd (cc)
bools true true false d h = absurd (cc)
bools true false c d h = absurd (cc)
bools false b c d h = absurd (cc)

most_by : (t : Bool) (n : ℕ) → nat_le n (if t then most_standard_octets else most_octets) ≡ true → n ≤ 64
most_by true n h = grind (arith, h)
most_by false n h = grind (arith, h)

tpdu_by : (k : LdataCode) (b : List ℕ) (f : Ldata) (t : Bool) → is_ldata b ≡ t → where_it t (ldata_of k b) ≡ Some f → (1 ≤ length f.tpdu) × (length f.tpdu ≤ 64)
tpdu_by k b f true e h =
    let q = bools (test_long b) (test_format b) (test_length b) (test_most b) e in
    let same : ldata_of k b ≡ f = cc in
    let len : length (drop 7 b) ≡ length f.tpdu = ap (λ (x : Ldata). length x.tpdu) same in
    let some : length (drop 7 b) ≡ slice_index b 6 + 1 = grind (arith, q.0) in
    let most : length (drop 7 b) ≤ 64 = most_by (is_standard b) (length (drop 7 b)) q.1 in
    (omega (arith, len, some), omega (arith, len, most))
tpdu_by k b f false e h = absurd (cc)

tpdu_of : (k : LdataCode) (b : List ℕ) (f : Ldata) → where_it (is_ldata b) (ldata_of k b) ≡ Some f → (1 ≤ length f.tpdu) × (length f.tpdu ≤ 64)
tpdu_of k b f h = tpdu_by k b f (is_ldata b) refl h

with_code : (o : Option LdataCode) (b : List ℕ) (f : Ldata) → ldata_with o b ≡ Some f → (1 ≤ length f.tpdu) × (length f.tpdu ≤ 64)
with_code None b f h = absurd (cc)
with_code (Some k) b f h = tpdu_of k b f h

read_range_by : (t : Bool) (o : Option LdataCode) (b : List ℕ) (f : Ldata) → (if t then ldata_with o b else None) ≡ Some f → (1 ≤ length f.tpdu) × (length f.tpdu ≤ 64)
read_range_by true o b f h = with_code o b f h
read_range_by false o b f h = absurd (cc)

pub read_range : (octets : List ℕ) (f : Ldata) → ldata_in octets ≡ Some f → (1 ≤ length f.tpdu) × (length f.tpdu ≤ 64)
unfolding ldata_in
read_range octets f h = read_range_by (nat_le (10 + slice_index octets 1) (length octets)) (code_in (slice_index octets 0)) (drop (2 + slice_index octets 1) octets) f h
