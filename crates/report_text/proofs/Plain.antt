-- What stands in a word of a report: nothing that is a space or below.
use Rattle.std.proofs.Common.{◌≡◌, ℕ, zero, suc, ◌+◌, ◌/◌, ◌%◌, ◌<◌, Bool, true, false, ltb, List, [], ◌∷◌, ◌++◌, map, Option, Some, None, if◌then◌else◌, refl, ◌∙◌, arith, lt-ltb, codes}
use Rattle.std.specs.Prelude.{◌==◌, nat_lt}
use Rattle.std.specs.Fmt.{decimal, digits, digits_onto, digit_glyph}
use Rattle.std.specs.List.{list_all, filter_map, join_with_byte, cons_option}
use Rattle.std.proofs.lemmas.Bool.{and_from}
use Rattle.std.proofs.lemmas.List.Folds.{list_all-append}
use Rattle.knx_model.specs.declared.address.GroupAddr.{GroupAddr}
use Rattle.knx_model.specs.declared.address.IndAddr.{IndAddr}
use Rattle.knx_model.specs.declared.frames.value.Value.{Value}
use Rattle.knx_model.specs.declared.frames.value.Value.TheVariants.{Short, Long}
use Rattle.call_words.specs.declared.case.Case.{Case}
use Rattle.call_words.specs.declared.case.Case.TheVariants.{New, Old, Stopped}
use Rattle.call_words.specs.declared.job_word.JobKind.{JobKind}
use Rattle.call_words.specs.declared.job_word.JobKind.TheVariants.{Load, Check}
use Rattle.knx_model.specs.declared.log.Sign.{Sign}
use Rattle.knx_model.specs.declared.log.Sign.TheVariants.{Silent, Closed, NoCon, TunnelLost}
use Rattle.knx_model.specs.declared.script.GroupService.{GroupService}
use Rattle.knx_model.specs.declared.script.GroupService.TheVariants.{Read, Write, Response}
use Rattle.knx_model.specs.Addresses.{device_text, group_text}
use Rattle.call_words.specs.ReportText.{sign_word, job_word, case_word, first_or_open}
use Rattle.knx_model.specs.TextLines.{hex_digit, hex_octet, hex_text, octets_text, value_text}
use Rattle.line_model.specs.declared.fault.Try.{Try}
use Rattle.line_model.specs.declared.fault.Try.TheVariants.{Status, NoAnswer}
use Rattle.line_model.specs.declared.log.LogEntry.{LogEntry}
use Rattle.line_model.specs.declared.log.LogWhat.{LogWhat}
use Rattle.line_model.specs.declared.log.LogWhat.TheVariants.{Took, Done, Failed, Refused, Sent, Lost}
use Rattle.call_words.specs.Printed.{end_of, end_of_turn, value_word, service_words, what_words, try_word}
use Rattle.report_text.proofs.Cuts.{Words, is_word}

abbrev pub are_words : Words → Bool
are_words ws = list_all is_word ws

pub either : {X : Type 0} (p : X → Bool) (b : Bool) (x y : X) → p x ≡ true → p y ≡ true → p (if b then x else y) ≡ true
either p true x y e f = e
either p false x y e f = f

pub more : (w : List ℕ) (ws : Words) → is_word w ≡ true → are_words ws ≡ true → are_words (w ∷ ws) ≡ true
more w ws e f = and_from (is_word w) (are_words ws) e f

pub alone : (w : List ℕ) → is_word w ≡ true → are_words (w ∷ []) ≡ true
alone w e = more w [] e refl

pub each : {X : Type 0} (f : X → List ℕ) → ((x : X) → is_word (f x) ≡ true) → (xs : List X) → are_words (map f xs) ≡ true
each f h [] = refl
each f h (x ∷ xs) = more (f x) (map f xs) (h x) (each f h xs)

pub both : (v w : List ℕ) → is_word v ≡ true → is_word w ≡ true → is_word (v ++ w) ≡ true
both v w e f = list_all-append (ltb 32) v w ∙ and_from (is_word v) (is_word w) e f

-- ---- numbers

glyph : (d : ℕ) → d < 10 → ltb 32 (digit_glyph false d) ≡ true
glyph d h = either (ltb 32) (nat_lt d 10) (48 + d) (87 + d) (lt-ltb 32 (48 + d) (omega arith)) (lt-ltb 32 (87 + d) (omega arith))

digits_plain : (k n : ℕ) (acc : List ℕ) → is_word acc ≡ true → is_word (digits_onto k 10 false n acc) ≡ true
digits_plain zero n acc e = e
digits_plain (suc k) n acc e =
    let now : is_word (digit_glyph false (n % 10) ∷ acc) ≡ true = and_from (ltb 32 (digit_glyph false (n % 10))) (is_word acc) (glyph (n % 10) (omega arith)) e in
    either is_word (n / 10 == 0) (digit_glyph false (n % 10) ∷ acc) (digits_onto k 10 false (n / 10) (digit_glyph false (n % 10) ∷ acc)) now (digits_plain k (n / 10) (digit_glyph false (n % 10) ∷ acc) now)

pub decimal_plain : (n : ℕ) → is_word (decimal n) ≡ true
unfolding digits
decimal_plain n = digits_plain 64 n [] refl

-- ---- octets

hex_digit_plain : (n : ℕ) → ltb 32 (hex_digit n) ≡ true
hex_digit_plain n = either (ltb 32) (nat_lt n 10) (48 + n) (55 + n) (lt-ltb 32 (48 + n) (omega arith)) (lt-ltb 32 (55 + n) (omega arith))

pub octet_plain : (octet : ℕ) → is_word (hex_octet octet) ≡ true
octet_plain octet = and_from _ _ (hex_digit_plain (octet / 16)) (and_from _ true (hex_digit_plain (octet % 16)) refl)

hex_plain : (octets : List ℕ) → is_word (hex_text octets) ≡ true
hex_plain [] = refl
hex_plain (x ∷ xs) = both (hex_octet x) (hex_text xs) (octet_plain x) (hex_plain xs)

pub octets_plain : (octets : List ℕ) → is_word (octets_text octets) ≡ true
octets_plain [] = refl
octets_plain (x ∷ xs) = hex_plain (x ∷ xs)

-- ---- addresses, and the other words

three_plain : (c : ℕ) → ltb 32 c ≡ true → (a b d : ℕ) → is_word (join_with_byte c (decimal a ∷ decimal b ∷ decimal d ∷ [])) ≡ true
three_plain c e a b d =
    both (decimal a) (c ∷ (decimal b ++ (c ∷ decimal d))) (decimal_plain a)
    (and_from (ltb 32 c) _ e (both (decimal b) (c ∷ decimal d) (decimal_plain b) (and_from (ltb 32 c) _ e (decimal_plain d))))

pub device_plain : (d : IndAddr) → is_word (device_text d) ≡ true
device_plain d = three_plain 46 refl (d.raw / 4096) (d.raw / 256 % 16) (d.raw % 256)

pub group_plain : (g : GroupAddr) → is_word (group_text g) ≡ true
group_plain g = three_plain 47 refl (g.raw / 2048) (g.raw / 256 % 8) (g.raw % 256)

pub job_plain : (kind : JobKind) → is_word (job_word kind) ≡ true
job_plain Load = refl
job_plain Check = refl

pub case_plain : (case : Case) → is_word (case_word case) ≡ true
case_plain New = refl
case_plain Old = refl
case_plain Stopped = refl

sign_plain : (sign : Sign) → is_word (sign_word sign) ≡ true
sign_plain (Silent ms) = refl
sign_plain Closed = refl
sign_plain NoCon = refl
sign_plain TunnelLost = refl

pub try_plain : (it : Try) → is_word (try_word it) ≡ true
try_plain (Status status) = octet_plain status
try_plain NoAnswer = refl

value_plain : (value : Value) → is_word (value_text value) ≡ true
value_plain (Short value) = both (codes "s") (hex_octet value) refl (octet_plain value)
value_plain (Long octets) = octets_plain octets

pub shown_plain : (value : ℕ × Value) → is_word (value_word value) ≡ true
shown_plain value = both (decimal value.0 ++ codes "=") (value_text value.1) (both (decimal value.0) (codes "=") (decimal_plain value.0) refl) (value_plain value.1)

pub service_plain : (service : GroupService) → are_words (service_words service) ≡ true
service_plain Read = refl
service_plain (Write value) = alone (value_text value) (value_plain value)
service_plain (Response value) = alone (value_text value) (value_plain value)

pub what_plain : (what : LogWhat) → are_words (what_words what) ≡ true
what_plain (Took job) = alone (decimal job) (decimal_plain job)
what_plain (Done job) = alone (decimal job) (decimal_plain job)
what_plain (Failed job signs) = alone (decimal job) (decimal_plain job)
what_plain (Refused job op got expected) = alone (decimal job) (decimal_plain job)
what_plain (Sent turn) = alone (decimal turn) (decimal_plain turn)
what_plain (Lost turn) = alone (decimal turn) (decimal_plain turn)

-- ---- how a job and a telegram end

abbrev is_end : Option Words → Bool
is_end None = true
is_end (Some ws) = are_words ws

first_plain : (o : Option Words) (ends : List Words) → is_end o ≡ true → are_words (first_or_open ends) ≡ true → are_words (first_or_open (cons_option o ends)) ≡ true
first_plain None ends e f = f
first_plain (Some ws) ends e f = e

ending_plain : (k : ℕ) (what : LogWhat) → is_end (end_of k what) ≡ true
ending_plain k (Took job) = refl
ending_plain k (Done job) = either is_end (job == k) (Some (codes "done" ∷ [])) None refl refl
ending_plain k (Failed job signs) = either is_end (job == k) (Some (codes "failed" ∷ map sign_word signs)) None (each sign_word sign_plain signs) refl
ending_plain k (Refused job op got expected) =
    either is_end (job == k) (Some (codes "refused" ∷ decimal op ∷ codes "got" ∷ octets_text got ∷ codes "expected" ∷ octets_text expected ∷ [])) None
    (more (decimal op) (codes "got" ∷ octets_text got ∷ codes "expected" ∷ octets_text expected ∷ []) (decimal_plain op)
    (more (octets_text got) (codes "expected" ∷ octets_text expected ∷ []) (octets_plain got) (alone (octets_text expected) (octets_plain expected)))) refl
ending_plain k (Sent turn) = refl
ending_plain k (Lost turn) = refl

pub end_plain : (k : ℕ) (log : List LogEntry) → are_words (first_or_open (filter_map (λ entry. end_of k entry.what) log)) ≡ true
end_plain k [] = refl
end_plain k (e ∷ log) = first_plain (end_of k e.what) (filter_map (λ entry. end_of k entry.what) log) (ending_plain k e.what) (end_plain k log)

turn_ending_plain : (k : ℕ) (what : LogWhat) → is_end (end_of_turn k what) ≡ true
turn_ending_plain k (Took job) = refl
turn_ending_plain k (Done job) = refl
turn_ending_plain k (Failed job signs) = refl
turn_ending_plain k (Refused job op got expected) = refl
turn_ending_plain k (Sent turn) = either is_end (turn == k) (Some (codes "sent" ∷ [])) None refl refl
turn_ending_plain k (Lost turn) = either is_end (turn == k) (Some (codes "lost" ∷ [])) None refl refl

pub turn_end_plain : (k : ℕ) (log : List LogEntry) → are_words (first_or_open (filter_map (λ entry. end_of_turn k entry.what) log)) ≡ true
turn_end_plain k [] = refl
turn_end_plain k (e ∷ log) = first_plain (end_of_turn k e.what) (filter_map (λ entry. end_of_turn k entry.what) log) (turn_ending_plain k e.what) (turn_end_plain k log)
