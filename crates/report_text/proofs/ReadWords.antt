-- Words of a report that are the same tell the same.
use Rattle.std.proofs.Common.{◌≡◌, ℕ, ◌+◌, ◌/◌, ◌%◌, ◌<◌, ◌≤◌, Bool, true, false, eqb, List, [], ◌∷◌, ◌++◌, get_or, map, All, map-id, if◌then◌else◌, refl, sym, ap, ◌∙◌, arith, lit≤, ltb-true, ltb-false, ne_eqb, eq-eqb, codes, append_assoc}
use Rattle.std.specs.Prelude.{nat_lt}
use Rattle.std.specs.Char.{digit_value}
use Rattle.std.specs.Fmt.{decimal}
use Rattle.std.specs.List.{AllByRecursion, slice_split, join_with_byte}
use Rattle.std.specs.Str.Parse.{AllDigits}
use Rattle.std.proofs.lemmas.Fmt.{decimal_is_IsNumeral, decimal_injective}
use Rattle.std.proofs.lemmas.List.{append_cancel_left}
use Rattle.std.proofs.lemmas.List.Elements.{All-from_recursion}
use Rattle.std.proofs.lemmas.List.Splits.{slice_split_at, slice_split_none}
use Rattle.knx_model.specs.declared.address.GroupAddr.{GroupAddr}
use Rattle.knx_model.specs.declared.address.IndAddr.{IndAddr}
use Rattle.knx_model.specs.declared.frames.value.Value.{Value}
use Rattle.knx_model.specs.declared.frames.value.Value.TheVariants.{Short, Long}
use Rattle.call_words.specs.declared.case.Case.{Case}
use Rattle.call_words.specs.declared.case.Case.TheVariants.{New, Old, Stopped}
use Rattle.call_words.specs.declared.job_word.JobKind.{JobKind}
use Rattle.call_words.specs.declared.job_word.JobKind.TheVariants.{Load, Check}
use Rattle.knx_model.specs.declared.log.Sign.{Sign}
use Rattle.knx_model.specs.declared.log.Sign.TheVariants.{Silent, Closed, NoCon, TunnelLost}
use Rattle.knx_model.specs.declared.script.GroupService.{GroupService}
use Rattle.knx_model.specs.declared.script.GroupService.TheVariants.{Read, Write, Response}
use Rattle.knx_model.specs.Addresses.{device_text, group_text}
use Rattle.call_words.specs.ReportText.{sign_word, job_word, case_word}
use Rattle.knx_model.specs.TextLines.{hex_digit, hex_octet, hex_text, octets_text, value_text}
use Rattle.line_model.specs.declared.fault.Try.{Try}
use Rattle.line_model.specs.declared.fault.Try.TheVariants.{Status, NoAnswer}
use Rattle.call_words.specs.Printed.{value_word, service_words, try_word}
use Rattle.report_text.specs.ReadBack.{Fits, untimed}

-- ---- lists whose images are the same

module _ {X Y Z : Type 0} (f : X → Y) (g : X → Z) (P Q : X → Type 0) (same : (x y : X) → P x → Q y → f x ≡ f y → g x ≡ g y) where
  pub images : (xs ys : List X) → AllByRecursion P xs → AllByRecursion Q ys → map f xs ≡ map f ys → map g xs ≡ map g ys
  images [] [] p q e = refl
  images [] (y ∷ ys) p q e = absurd (let z : [] ≡ f y ∷ map f ys = e in cc)
  images (x ∷ xs) [] p q e = absurd (let z : f x ∷ map f xs ≡ [] = e in cc)
  images (x ∷ xs) (y ∷ ys) p q e =
      let z : f x ∷ map f xs ≡ f y ∷ map f ys = e in
      let head : f x ≡ f y = cc in
      let tail : map f xs ≡ map f ys = cc in
      let a = same x y p.0 q.0 head in
      let b = images xs ys p.1 q.1 tail in
      λ i. a i ∷ b i

pub lists : {X Y : Type 0} (f : X → Y) (P : X → Type 0) → ((x y : X) → P x → P y → f x ≡ f y → x ≡ y) → (xs ys : List X) → AllByRecursion P xs → AllByRecursion P ys → map f xs ≡ map f ys → xs ≡ ys
lists f P same xs ys p q e = sym (map-id xs) ∙ (images f (λ x. x) P P same xs ys p q e ∙ map-id ys)

anything : {X : Type 0} (xs : List X) → AllByRecursion (λ (x : X). Unit {0}) xs
anything [] = tt
anything (x ∷ xs) = (tt, anything xs)

pub free_images : {X Y Z : Type 0} (f : X → Y) (g : X → Z) → ((x y : X) → f x ≡ f y → g x ≡ g y) → (xs ys : List X) → map f xs ≡ map f ys → map g xs ≡ map g ys
free_images f g same xs ys e = images f g (λ x. Unit {0}) (λ x. Unit {0}) (λ x y p q h. same x y h) xs ys (anything xs) (anything ys) e

-- ---- octets

hex_by : (m n : ℕ) (a b : Bool) → nat_lt m 10 ≡ a → nat_lt n 10 ≡ b → (if a then 48 + m else 55 + m) ≡ (if b then 48 + n else 55 + n) → m ≡ n
hex_by m n true true p q e = let z : 48 + m ≡ 48 + n = e in omega arith
hex_by m n true false p q e = let z : 48 + m ≡ 55 + n = e in let l : m < 10 = ltb-true m 10 p in let h : 10 ≤ n = ltb-false n 10 q in omega arith
hex_by m n false true p q e = let z : 55 + m ≡ 48 + n = e in let l : 10 ≤ m = ltb-false m 10 p in let h : n < 10 = ltb-true n 10 q in omega arith
hex_by m n false false p q e = let z : 55 + m ≡ 55 + n = e in omega arith

digits : (m n : ℕ) → hex_digit m ≡ hex_digit n → m ≡ n
digits m n e = hex_by m n (nat_lt m 10) (nat_lt n 10) refl refl e

parts : (a b : ℕ) → a / 16 ≡ b / 16 → a % 16 ≡ b % 16 → a ≡ b
parts a b p q = omega arith

first_octets : (a b : ℕ) (s t : List ℕ) → hex_octet a ++ s ≡ hex_octet b ++ t → (a ≡ b) × (s ≡ t)
first_octets a b s t e =
    let z : hex_digit (a / 16) ∷ hex_digit (a % 16) ∷ s ≡ hex_digit (b / 16) ∷ hex_digit (b % 16) ∷ t = e in
    let h : hex_digit (a / 16) ≡ hex_digit (b / 16) = cc in
    let l : hex_digit (a % 16) ≡ hex_digit (b % 16) = cc in
    let r : s ≡ t = cc in
    (parts a b (digits (a / 16) (b / 16) h) (digits (a % 16) (b % 16) l), r)

octet : (a b : ℕ) → hex_octet a ≡ hex_octet b → a ≡ b
octet a b e = (first_octets a b [] [] e).0

hexes : (xs ys : List ℕ) → hex_text xs ≡ hex_text ys → xs ≡ ys
hexes [] [] e = refl
hexes [] (y ∷ ys) e = absurd (let z : [] ≡ hex_digit (y / 16) ∷ hex_digit (y % 16) ∷ hex_text ys = e in cc)
hexes (x ∷ xs) [] e = absurd (let z : hex_digit (x / 16) ∷ hex_digit (x % 16) ∷ hex_text xs ≡ [] = e in cc)
hexes (x ∷ xs) (y ∷ ys) e =
    let h = first_octets x y (hex_text xs) (hex_text ys) e in
    let a = h.0 in
    let b = hexes xs ys h.1 in
    λ i. a i ∷ b i

pub octets : (xs ys : List ℕ) → octets_text xs ≡ octets_text ys → xs ≡ ys
octets [] [] e = refl
octets [] (y ∷ ys) e = absurd (let z : 45 ∷ [] ≡ hex_digit (y / 16) ∷ hex_digit (y % 16) ∷ hex_text ys = e in cc)
octets (x ∷ xs) [] e = absurd (let z : hex_digit (x / 16) ∷ hex_digit (x % 16) ∷ hex_text xs ≡ 45 ∷ [] = e in cc)
octets (x ∷ xs) (y ∷ ys) e = hexes (x ∷ xs) (y ∷ ys) e

-- three letters are no octets
odd : (n : ℕ) (xs : List ℕ) → 115 ∷ hex_octet n ≡ octets_text xs → ⊥
odd n [] e = let z : 115 ∷ hex_digit (n / 16) ∷ hex_digit (n % 16) ∷ [] ≡ 45 ∷ [] = e in cc
odd n (x ∷ []) e = let z : 115 ∷ hex_digit (n / 16) ∷ hex_digit (n % 16) ∷ [] ≡ hex_digit (x / 16) ∷ hex_digit (x % 16) ∷ [] = e in cc
odd n (x ∷ y ∷ xs) e =
    let z : 115 ∷ hex_digit (n / 16) ∷ hex_digit (n % 16) ∷ [] ≡ hex_digit (x / 16) ∷ hex_digit (x % 16) ∷ hex_digit (y / 16) ∷ hex_digit (y % 16) ∷ hex_text xs = e in cc

pub values : (v w : Value) → value_text v ≡ value_text w → v ≡ w
values (Short m) (Short n) e = ap Short (octet m n (let z : 115 ∷ hex_octet m ≡ 115 ∷ hex_octet n = e in cc))
values (Short m) (Long ys) e = absurd (odd m ys e)
values (Long xs) (Short n) e = absurd (odd n xs (sym e))
values (Long xs) (Long ys) e = ap Long (octets xs ys e)

-- ---- addresses

no_such : (c : ℕ) → 10 ≤ digit_value c → (ds : List ℕ) → AllDigits 10 ds → AllByRecursion (λ b. eqb b c ≡ false) ds
no_such c h [] all = tt
no_such c h (d ∷ ds) all = (ne_eqb d c (λ e. let same : digit_value d ≡ digit_value c = ap digit_value e in omega (arith, all.0)), no_such c h ds all.1)

none_in : (c : ℕ) → 10 ≤ digit_value c → (n : ℕ) → Fits n → All (λ x. eqb x c ≡ false) (decimal n)
none_in c h n fits = All-from_recursion (λ x. eqb x c ≡ false) (decimal n) (no_such c h (decimal n) ((decimal_is_IsNumeral n fits).0).1)

module _ (c : ℕ) (h : 10 ≤ digit_value c) where
  cut : (a b d : ℕ) → Fits a → Fits b → Fits d → slice_split (λ x. eqb x c) (join_with_byte c (decimal a ∷ decimal b ∷ decimal d ∷ [])) ≡ decimal a ∷ decimal b ∷ decimal d ∷ []
  cut a b d la lb ld =
      slice_split_at (λ x. eqb x c) (decimal a) c (decimal b ++ (c ∷ decimal d)) (none_in c h a la) (eq-eqb c c refl)
      ∙ ap (λ (ws : List (List ℕ)). decimal a ∷ ws) (slice_split_at (λ x. eqb x c) (decimal b) c (decimal d) (none_in c h b lb) (eq-eqb c c refl)
      ∙ ap (λ (ws : List (List ℕ)). decimal b ∷ ws) (slice_split_none (λ x. eqb x c) (decimal d) (none_in c h d ld)))

  three : (a b d a' b' d' : ℕ) → Fits a → Fits b → Fits d → Fits a' → Fits b' → Fits d'
      → join_with_byte c (decimal a ∷ decimal b ∷ decimal d ∷ []) ≡ join_with_byte c (decimal a' ∷ decimal b' ∷ decimal d' ∷ []) → (a ≡ a') × (b ≡ b') × (d ≡ d')
  three a b d a' b' d' la lb ld la' lb' ld' e =
      let z : decimal a ∷ decimal b ∷ decimal d ∷ [] ≡ decimal a' ∷ decimal b' ∷ decimal d' ∷ [] =
      sym (cut a b d la lb ld) ∙ (ap (slice_split (λ x. eqb x c)) e ∙ cut a' b' d' la' lb' ld') in
      let one : decimal a ≡ decimal a' = cc in
      let two : decimal b ≡ decimal b' = cc in
      let last : decimal d ≡ decimal d' = cc in
      (decimal_injective a a' la la' one, decimal_injective b b' lb lb' two, decimal_injective d d' ld ld' last)

pub devices : (d e : IndAddr) → Fits d.raw → Fits e.raw → device_text d ≡ device_text e → d ≡ e
devices d e p q same =
    let m : ℕ = d.raw in
    let n : ℕ = e.raw in
    let h = three 46 (lit≤ tt) (m / 4096) (m / 256 % 16) (m % 256) (n / 4096) (n / 256 % 16) (n % 256) (omega arith) (omega arith) (omega arith) (omega arith) (omega arith) (omega arith) same in
    let a : m / 4096 ≡ n / 4096 = h.0 in
    let b : m / 256 % 16 ≡ n / 256 % 16 = h.1 in
    let c : m % 256 ≡ n % 256 = h.2 in
    let raw : m ≡ n = omega arith in
    ap (λ (r : ℕ). record { raw = r }) raw

pub groups : (g h : GroupAddr) → Fits g.raw → Fits h.raw → group_text g ≡ group_text h → g ≡ h
groups g h p q same =
    let m : ℕ = g.raw in
    let n : ℕ = h.raw in
    let k = three 47 (lit≤ tt) (m / 2048) (m / 256 % 8) (m % 256) (n / 2048) (n / 256 % 8) (n % 256) (omega arith) (omega arith) (omega arith) (omega arith) (omega arith) (omega arith) same in
    let a : m / 2048 ≡ n / 2048 = k.0 in
    let b : m / 256 % 8 ≡ n / 256 % 8 = k.1 in
    let c : m % 256 ≡ n % 256 = k.2 in
    let raw : m ≡ n = omega arith in
    ap (λ (r : ℕ). record { raw = r }) raw

-- ---- a value of an object

number_first : (n : ℕ) (v : List ℕ) → Fits n → slice_split (λ x. eqb x 61) (decimal n ++ codes "=" ++ v) ≡ decimal n ∷ slice_split (λ x. eqb x 61) v
number_first n v fits = ap (slice_split (λ x. eqb x 61)) (append_assoc (decimal n) (codes "=") v) ∙ slice_split_at (λ x. eqb x 61) (decimal n) 61 v (none_in 61 (lit≤ tt) n fits) refl

pub shown : (one other : ℕ × Value) → Fits one.0 → Fits other.0 → value_word one ≡ value_word other → one ≡ other
shown one other p q e =
    let v : List ℕ = value_text one.1 in
    let w : List ℕ = value_text other.1 in
    let z : decimal one.0 ∷ slice_split (λ x. eqb x 61) v ≡ decimal other.0 ∷ slice_split (λ x. eqb x 61) w = sym (number_first one.0 v p) ∙ (ap (slice_split (λ x. eqb x 61)) e ∙ number_first other.0 w q) in
    let y : decimal one.0 ≡ decimal other.0 = cc in
    let number : one.0 ≡ other.0 = decimal_injective one.0 other.0 p q y in
    let text : v ≡ w = append_cancel_left (decimal one.0 ++ codes "=") v w (e ∙ ap (λ (n : ℕ). decimal n ++ codes "=" ++ w) (sym number)) in
    let value : one.1 ≡ other.1 = values one.1 other.1 text in
    λ i. (number i, value i)

-- ---- the other words

-- words with other first letters
pub letters : (v w : List ℕ) → eqb (get_or v 0 0) (get_or w 0 0) ≡ false → v ≡ w → ⊥
letters v w other e = let z : true ≡ false = sym (eq-eqb (get_or v 0 0) (get_or w 0 0) (ap (λ (l : List ℕ). get_or l 0 0) e)) ∙ other in cc

pub first_word : {X : Type 0} (v w : X) (vs ws : List X) → v ∷ vs ≡ w ∷ ws → v ≡ w
first_word v w vs ws e = cc

pub services : (s t : GroupService) → service_words s ≡ service_words t → s ≡ t
services Read Read e = refl
services Read (Write w) e = absurd (let z : codes "read" ∷ [] ≡ codes "write" ∷ value_text w ∷ [] = e in cc)
services Read (Response w) e = absurd (let z : codes "read" ∷ [] ≡ codes "response" ∷ value_text w ∷ [] = e in cc)
services (Write v) Read e = absurd (let z : codes "write" ∷ value_text v ∷ [] ≡ codes "read" ∷ [] = e in cc)
services (Write v) (Write w) e = ap Write (values v w (let z : codes "write" ∷ value_text v ∷ [] ≡ codes "write" ∷ value_text w ∷ [] = e in cc))
services (Write v) (Response w) e = absurd (letters (codes "write") (codes "response") refl (first_word (codes "write") (codes "response") (value_text v ∷ []) (value_text w ∷ []) e))
services (Response v) Read e = absurd (let z : codes "response" ∷ value_text v ∷ [] ≡ codes "read" ∷ [] = e in cc)
services (Response v) (Write w) e = absurd (letters (codes "response") (codes "write") refl (first_word (codes "response") (codes "write") (value_text v ∷ []) (value_text w ∷ []) e))
services (Response v) (Response w) e = ap Response (values v w (let z : codes "response" ∷ value_text v ∷ [] ≡ codes "response" ∷ value_text w ∷ [] = e in cc))

pub kinds : (k l : JobKind) → job_word k ≡ job_word l → k ≡ l
kinds Load Load e = refl
kinds Check Check e = refl
kinds k l e = absurd (letters (job_word k) (job_word l) refl e)

pub cases : (c d : Case) → case_word c ≡ case_word d → c ≡ d
cases New New e = refl
cases Old Old e = refl
cases Stopped Stopped e = refl
cases c d e = absurd (letters (case_word c) (case_word d) refl e)

-- the milliseconds aside
pub signs : (s t : Sign) → sign_word s ≡ sign_word t → untimed s ≡ untimed t
signs (Silent m) (Silent n) e = refl
signs Closed Closed e = refl
signs NoCon NoCon e = refl
signs TunnelLost TunnelLost e = refl
signs s t e = absurd (letters (sign_word s) (sign_word t) refl e)

pub tries : (s t : Try) → try_word s ≡ try_word t → s ≡ t
tries (Status m) (Status n) e = ap Status (octet m n e)
tries (Status m) NoAnswer e = absurd (let z : hex_digit (m / 16) ∷ hex_digit (m % 16) ∷ [] ≡ 45 ∷ [] = e in cc)
tries NoAnswer (Status n) e = absurd (let z : 45 ∷ [] ≡ hex_digit (n / 16) ∷ hex_digit (n % 16) ∷ [] = e in cc)
tries NoAnswer NoAnswer e = refl
