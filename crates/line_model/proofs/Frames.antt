-- The frame of the link layer that a request's octets are, as a function, is the one that they read as.
use Rattle.std.proofs.Common.{◌≡◌, ℕ, ◌+◌, ◌%◌, ◌≤◌, Bool, true, false, ◌&&◌, ◌||◌, ◌==◌, List, drop, length, refl, sym, ap, subst, ◌∙◌, arith, Option, Some, None, if◌then◌else◌}
use Rattle.std.specs.Prelude.{slice_index, nat_le, ◌↔◌}
use Rattle.std.proofs.lemmas.Bool.{and_parts, and_from, eqb-true, eq-eqb, leb-true, le-leb}
use Rattle.knx_model.specs.declared.frames.cemi.Ldata.{Ldata}
use Rattle.knx_model.specs.declared.frames.cemi.LdataCode.{LdataCode}
use Rattle.knx_model.specs.declared.frames.cemi.LdataCode.TheVariants.{Req, Con, Ind}
use Rattle.knx_model.specs.Apdu.{most_octets, most_standard_octets}
use Rattle.knx_model.specs.Cemi.{code_octet, IsStandard, HasNoFormat, ReadsBody, Reads}
use Rattle.line_model.specs.Reading.{code_in, is_con, is_standard, is_ldata, ldata_of, ldata_with, ldata_in}
use Rattle.line_model.proofs.Tests.{where_is, is_where, branch, is_left}

-- ---- codes

code_is : (octet : ℕ) (code : LdataCode) → code_in octet ≡ Some code → octet ≡ code_octet code
code_is octet code =
    branch (octet ≡ code_octet code) (octet == 0x11) _ _ code (λ s e. of_code octet Req code (eqb-true _ _ s) e) (λ n.
    branch (octet ≡ code_octet code) (octet == 0x2E) _ _ code (λ s e. of_code octet Con code (eqb-true _ _ s) e) (λ n.
    branch (octet ≡ code_octet code) (octet == 0x29) _ _ code (λ s e. of_code octet Ind code (eqb-true _ _ s) e) (λ n e. cc)))
  where
    of_code : (octet : ℕ) (one code : LdataCode) → octet ≡ code_octet one → Some one ≡ Some code → octet ≡ code_octet code
    of_code octet one code s e = let same : one ≡ code = cc in s ∙ ap code_octet same

is_code : (code : LdataCode) → code_in (code_octet code) ≡ Some code
is_code Req = refl
is_code Con = refl
is_code Ind = refl

con_is : (code : LdataCode) → is_con code ≡ (code_octet code == 0x2E)
con_is Req = refl
con_is Con = refl
con_is Ind = refl

con_at : (first : ℕ) (code : LdataCode) → first ≡ code_octet code → is_con code ≡ (first == 0x2E)
con_at first code e = con_is code ∙ ap (λ (n : ℕ). n == 0x2E) (sym e)

-- ---- lengths and formats

format_is : (a b : Bool) (body : List ℕ) → nat_le 0x80 (slice_index body 0) ≡ a → (slice_index body 1 % 16 == 0) ≡ b → (a || b) ≡ true → ¬ IsStandard (slice_index body 0) → HasNoFormat (slice_index body 1)
format_is true b body s f e no_standard = absurd (no_standard (leb-true _ _ s))
format_is false b body s f e no_standard = eqb-true _ _ (f ∙ e)

is_format : (a : Bool) (body : List ℕ) → nat_le 0x80 (slice_index body 0) ≡ a → (¬ IsStandard (slice_index body 0) → HasNoFormat (slice_index body 1)) → (a || (slice_index body 1 % 16 == 0)) ≡ true
is_format true body s h = refl
is_format false body s h = eq-eqb _ _ (h (λ standard. not_both _ _ (le-leb _ _ standard) s))
  where
    not_both : (a : Bool) (P : Type 0) → a ≡ true → a ≡ false → P
    not_both a P p q = cc

short_is : (a : Bool) (body : List ℕ) (n : ℕ) → nat_le 0x80 (slice_index body 0) ≡ a → n ≤ (if a then most_standard_octets else most_octets) → IsStandard (slice_index body 0) → n ≤ most_standard_octets
short_is true body n s h standard = h
short_is false body n s h standard = not_both _ _ (le-leb _ _ standard) s
  where
    not_both : (a : Bool) (P : Type 0) → a ≡ true → a ≡ false → P
    not_both a P p q = cc

fits_is : (a : Bool) (n : ℕ) → n ≤ (if a then most_standard_octets else most_octets) → n ≤ most_octets
fits_is true n h = omega arith
fits_is false n h = h

is_short : (a : Bool) (body : List ℕ) (n : ℕ) → nat_le 0x80 (slice_index body 0) ≡ a → (IsStandard (slice_index body 0) → n ≤ most_standard_octets) → n ≤ most_octets → n ≤ (if a then most_standard_octets else most_octets)
is_short true body n s short fits = short (leb-true _ _ s)
is_short false body n s short fits = fits

-- ---- from the function to the relation

ldata_reads : (first : ℕ) (code : LdataCode) (body : List ℕ) → first ≡ code_octet code → is_ldata body ≡ true → ReadsBody first body (ldata_of code body)
ldata_reads first code body s t =
    let a = and_parts _ _ t in let b = and_parts _ _ a.0 in let c = and_parts _ _ b.0 in
    record {
      long = leb-true _ _ c.0;
      code = s;
      format = format_is (is_standard body) (slice_index body 1 % 16 == 0) body refl refl c.1;
      error = ap (λ (x : Bool). x && (slice_index body 0 % 2 == 1)) (con_at first code s);
      priority = refl;
      group = refl;
      hops = refl;
      source = refl;
      destination = refl;
      length_octet = eqb-true _ _ b.1;
      short = short_is (is_standard body) body (length (drop 7 body)) refl (leb-true _ _ a.1);
      fits = fits_is (is_standard body) (length (drop 7 body)) (leb-true _ _ a.1);
      tpdu = refl;
    }

with_reads : (first : ℕ) (body : List ℕ) (o : Option LdataCode) (frame : Ldata) → code_in first ≡ o → ldata_with o body ≡ Some frame → ReadsBody first body frame
with_reads first body None frame c e = cc
with_reads first body (Some code) frame c e = let w = where_is _ _ _ e in subst (ReadsBody first body) w.1 (ldata_reads first code body (code_is first code c) w.0)

reads : (octets : List ℕ) (frame : Ldata) → ldata_in octets ≡ Some frame → Reads octets frame
unfolding ldata_in
reads octets frame =
    branch (Reads octets frame) (nat_le (10 + slice_index octets 1) (length octets)) _ _ frame
    (λ long e. record { long = leb-true _ _ long; body = with_reads (slice_index octets 0) (drop (2 + slice_index octets 1) octets) (code_in (slice_index octets 0)) frame refl e }) (λ n e. cc)

-- ---- from the relation to the function

alike : {A B C D E F G R : Type 0} (f : A → B → C → D → E → F → G → R) (a a' : A) (b b' : B) (c c' : C) (d d' : D) (e e' : E) (p p' : F) (q q' : G)
    → a ≡ a' → b ≡ b' → c ≡ c' → d ≡ d' → e ≡ e' → p ≡ p' → q ≡ q' → f a b c d e p q ≡ f a' b' c' d' e' p' q'
alike f a a' b b' c c' d d' e e' p p' q q' ha hb hc hd he hp hq = cc

is_ldata_of : (first : ℕ) (body : List ℕ) (frame : Ldata) → ReadsBody first body frame → ldata_of frame.code body ≡ frame
is_ldata_of first body frame r =
    alike (λ (error group : Bool) (priority hops source destination : ℕ) (tpdu : List ℕ).
    let x : Ldata = record { code = frame.code; error = error; group = group; priority = priority; hops = hops; source = source; destination = destination; tpdu = tpdu } in x)
    _ _ _ _ _ _ _ _ _ _ _ _ _ _
    (ap (λ (x : Bool). x && (slice_index body 0 % 2 == 1)) (con_at first frame.code r.code) ∙ sym r.error) (sym r.group) (sym r.priority) (sym r.hops) (sym r.source) (sym r.destination) (sym r.tpdu)

is_body : (first : ℕ) (body : List ℕ) (frame : Ldata) → ReadsBody first body frame → is_ldata body ≡ true
is_body first body frame r =
    let n : length (drop 7 body) ≡ length frame.tpdu = ap length (sym r.tpdu) in
    and_from _ _ (and_from _ _ (and_from _ _ (le-leb _ _ r.long) (is_format (is_standard body) body refl r.format)) (eq-eqb _ _ (n ∙ r.length_octet)))
    (le-leb _ _ (is_short (is_standard body) body (length (drop 7 body)) refl (λ standard. omega (arith, n, r.short standard)) (omega (arith, n, r.fits))))

is_with : (first : ℕ) (body : List ℕ) (frame : Ldata) → ReadsBody first body frame → ldata_with (code_in first) body ≡ Some frame
is_with first body frame r =
    let code : code_in first ≡ Some frame.code = ap code_in r.code ∙ is_code frame.code in
    ap (λ (o : Option LdataCode). ldata_with o body) code ∙ is_where (is_ldata body) (ldata_of frame.code body) (is_body first body frame r)
    ∙ ap (λ (x : Ldata). Some x) (is_ldata_of first body frame r)

is_read : (octets : List ℕ) (frame : Ldata) → Reads octets frame → ldata_in octets ≡ Some frame
unfolding ldata_in
is_read octets frame r =
    is_left (nat_le (10 + slice_index octets 1) (length octets)) _ _ (le-leb _ _ r.long) ∙ is_with (slice_index octets 0) (drop (2 + slice_index octets 1) octets) frame r.body

pub frame_reads : (octets : List ℕ) (frame : Ldata) → (ldata_in octets ≡ Some frame) ↔ Reads octets frame
frame_reads octets frame = (reads octets frame, is_read octets frame)
