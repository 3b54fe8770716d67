-- Hexadecimal digits, two an octet.
use Rattle.std.proofs.Common.{◌≡◌, ◌≢◌, ℕ, ◌+◌, ◌*◌, ◌<◌, ◌≤◌, Bool, true, false, cond, ◌&&◌, eqb, leb, List, [], ◌∷◌, ◌++◌, length, get_or, take, drop, Option, Some, None, refl, sym, ap, ◌∙◌, arith, append_assoc}
use Rattle.std.specs.Char.{digit_value}
use Rattle.std.proofs.lemmas.Bool.{lt-leb, eqb-false}
use Rattle.std.proofs.lemmas.Option.{same_Some, none-some}
use Rattle.std.proofs.lemmas.List.{append-nil}
use Rattle.knx_model.specs.declared.frames.value.Value.{Value}
use Rattle.knx_model.specs.declared.frames.value.Value.TheVariants.{Short, Long}
use Rattle.knx_model.specs.Numbers.{is_digit}
use Rattle.knx_model.specs.Values.{octet_before, hex_octets, short_of, long_of}

-- octets before those that digits write
abbrev pub before : List ℕ → Option (List ℕ) → Option (List ℕ)
before octets None = None
before octets (Some more) = Some (octets ++ more)

abbrev pub octet_of : ℕ → ℕ → Option ℕ
octet_of high below = cond (is_digit 16 high && is_digit 16 below) (Some (digit_value high * 16 + digit_value below)) None

one_more : (b : Bool) (n o : ℕ) (os : List ℕ) (more : Option (List ℕ)) → cond b (Some n) None ≡ Some o → before os (cond b (octet_before n more) None) ≡ before (os ++ o ∷ []) more
one_more false n o os more e = absurd (none-some o e)
one_more true n o os None e = refl
one_more true n o os (Some xs) e = let same : n ≡ o = same_Some n o e in rw same (ap (λ (l : List ℕ). Some l) (sym (append_assoc os (o ∷ []) xs)))

pub octets_go_on : (digits os rest after : List ℕ) (high below o : ℕ) → hex_octets digits ≡ before os (hex_octets rest) → rest ≡ high ∷ (below ∷ after) → octet_of high below ≡ Some o → hex_octets digits ≡ before (os ++ o ∷ []) (hex_octets after)
octets_go_on digits os rest after high below o so_far cut e = so_far ∙ rw cut (one_more (is_digit 16 high && is_digit 16 below) (digit_value high * 16 + digit_value below) o os (hex_octets after) e)

no_more : (b : Bool) (n : ℕ) (os : List ℕ) (more : Option (List ℕ)) → cond b (Some n) None ≡ None → before os (cond b (octet_before n more) None) ≡ None
no_more false n os more e = refl
no_more true n os more e = absurd (none-some n (sym e))

pub octets_break : (digits os rest after : List ℕ) (high below : ℕ) → hex_octets digits ≡ before os (hex_octets rest) → rest ≡ high ∷ (below ∷ after) → octet_of high below ≡ None → hex_octets digits ≡ None
octets_break digits os rest after high below so_far cut e = so_far ∙ rw cut (no_more (is_digit 16 high && is_digit 16 below) (digit_value high * 16 + digit_value below) os (hex_octets after) e)

pub two_first : (digits : List ℕ) → 2 ≤ length digits → digits ≡ get_or (take 2 digits) 0 0 ∷ (get_or (take 2 digits) 1 0 ∷ drop 2 digits)
two_first [] some = absurd (omega (arith, some))
two_first (d ∷ []) some = absurd (omega (arith, some))
two_first (d ∷ e ∷ ds) some = refl

pub octets_end : (digits os rest : List ℕ) → hex_octets digits ≡ before os (hex_octets rest) → length rest ≡ 0 → hex_octets digits ≡ Some os
octets_end digits os [] so_far e = so_far ∙ ap (λ (l : List ℕ). Some l) (append-nil os)
octets_end digits os (d ∷ ds) so_far e = absurd (omega (arith, e))

pub octets_odd : (digits os rest : List ℕ) → hex_octets digits ≡ before os (hex_octets rest) → length rest ≢ 0 → length rest < 2 → hex_octets digits ≡ None
octets_odd digits os [] so_far some few = absurd (some refl)
octets_odd digits os (d ∷ []) so_far some few = so_far
octets_odd digits os (d ∷ e ∷ ds) so_far some few = absurd (omega arith)

length_step : (b : Bool) (n : ℕ) (more : Option (List ℕ)) (rest os : List ℕ) → ((xs : List ℕ) → more ≡ Some xs → length rest ≡ length xs * 2) → cond b (octet_before n more) None ≡ Some os → length rest + 2 ≡ length os * 2
length_step false n more rest os later e = absurd (none-some os e)
length_step true n None rest os later e = absurd (none-some os e)
length_step true n (Some xs) rest os later e = omega (arith, later xs refl, ap (λ (l : List ℕ). length l) (same_Some (n ∷ xs) os e))

-- as many octets as half the digits
pub hex_length : (digits os : List ℕ) → hex_octets digits ≡ Some os → length digits ≡ length os * 2
hex_length [] os e = ap (λ (l : List ℕ). length l * 2) (same_Some [] os e)
hex_length (high ∷ []) os e = absurd (none-some os e)
hex_length (high ∷ below ∷ rest) os e = omega (arith, length_step (is_digit 16 high && is_digit 16 below) (digit_value high * 16 + digit_value below) (hex_octets rest) rest os (hex_length rest) e)

not_one : (o : Option (List ℕ)) → ((os : List ℕ) → o ≡ Some os → length os ≢ 1) → short_of o ≡ None
not_one None other = refl
not_one (Some []) other = refl
not_one (Some (x ∷ [])) other = absurd (other (x ∷ []) refl refl)
not_one (Some (x ∷ y ∷ ys)) other = refl

short_has_2 : (digits : List ℕ) → length digits ≢ 2 → short_of (hex_octets digits) ≡ None
short_has_2 digits other = not_one (hex_octets digits) (λ os e one. other (omega (arith, hex_length digits os e)))

pub short_few : (digits : List ℕ) → length digits < 2 → short_of (hex_octets digits) ≡ None
short_few digits few = short_has_2 digits (λ two. omega arith)

pub short_many : (digits after : List ℕ) (high below : ℕ) → digits ≡ high ∷ (below ∷ after) → eqb (length after) 0 ≡ false → short_of (hex_octets digits) ≡ None
short_many digits after high below cut some = short_has_2 digits (λ two. eqb-false (length after) 0 some (omega (arith, ap (λ (l : List ℕ). length l) cut)))

abbrev pub short_octet : Option ℕ → Option Value
short_octet None = None
short_octet (Some octet) = cond (leb octet 0x3F) (Some (Short octet)) None

one_short : (b : Bool) (n : ℕ) (o : Option ℕ) → cond b (Some n) None ≡ o → short_of (cond b (octet_before n (Some [])) None) ≡ short_octet o
one_short true n o e = rw (← e) refl
one_short false n o e = rw (← e) refl

pub short_one : (digits after : List ℕ) (high below : ℕ) (o : Option ℕ) → digits ≡ high ∷ (below ∷ after) → length after ≡ 0 → octet_of high below ≡ o → short_of (hex_octets digits) ≡ short_octet o
short_one digits [] high below o cut none e = rw cut (one_short (is_digit 16 high && is_digit 16 below) (digit_value high * 16 + digit_value below) o e)
short_one digits (d ∷ ds) high below o cut none e = absurd (omega (arith, none))

too_many : (o : Option (List ℕ)) → ((os : List ℕ) → o ≡ Some os → 14 < length os) → long_of o ≡ None
too_many None more = refl
too_many (Some os) more = rw (lt-leb (length os) 14 (more os refl)) (cond_false (leb 1 (length os)) (Some (Long os)))
  where
    cond_false : (b : Bool) (v : Option Value) → cond (b && false) v None ≡ None
    cond_false true v = refl
    cond_false false v = refl

pub long_within_28 : (digits : List ℕ) → 28 < length digits → long_of (hex_octets digits) ≡ None
long_within_28 digits more = too_many (hex_octets digits) (λ os e. omega (arith, hex_length digits os e))
