-- What is printed is read again.
use Rattle.std.proofs.Common.{◌≡◌, ◌≢◌, ℕ, ◌+◌, ◌-◌, ◌*◌, ◌%◌, ◌<◌, ◌≤◌, Bool, true, false, not, codes, ◌&&◌, eqb, ltb, leb, List, [], ◌∷◌, ◌++◌, length, map, get_or, All, Ok, Option, Some, None, refl, sym, ap, ◌∙◌, arith, lit≤, lit<, cond, length-append, append_assoc, inl, inr}
use Rattle.std.specs.List.{list_all, join_with_byte, position_or_len}
use Rattle.std.specs.Str.{IsAscii}
use Rattle.std.specs.Str.Lines.{lines}
use Rattle.std.specs.Fmt.{decimal}
use Rattle.std.proofs.Math.Seq.{take-length}
use Rattle.std.proofs.lemmas.Bool.{and_from, and_parts, or_from, or_left, le-ltb, le-leb, leb-true, ltb-true, ne_eqb, eqb-true, not-true, not_from_false, cases_lt}
use Rattle.std.proofs.lemmas.List.{get_or_past}
use Rattle.std.proofs.lemmas.List.Concat.{flat_map-cons}
use Rattle.std.proofs.lemmas.List.Elements.{All-weaker, All-get_or}
use Rattle.std.proofs.lemmas.List.Folds.{list_all-append}
use Rattle.std.proofs.lemmas.List.Sums.{AllPass-from_list_all, position_or_len_is}
use Rattle.std.proofs.lemmas.Str.{IsUtf8-from_ascii, is_utf8-from_IsUtf8}
use Rattle.knx_model.specs.Words.{words, is_feed, is_blank}
use Rattle.knx_model.specs.declared.address.GroupAddr.{GroupAddr}
use Rattle.knx_model.specs.declared.address.IndAddr.{IndAddr}
use Rattle.knx_model.specs.Numbers.{is_name, numeral, number_value}
use Rattle.knx_model.proofs.Joined.{IsWordText, AreWords, words-join, lines_then}
use Rattle.knx_model.proofs.Spelled.{group_again, device_again, number_again}
use Rattle.knx_model.proofs.FlagWords.{flags_again}
use Rattle.knx_model.proofs.SpelledNumbers.{bits_fit, size_again}
use Rattle.knx_model.specs.Addresses.{device_text, group_text, group_value, group_by, ind_value}
use Rattle.knx_model.specs.Sizes.{bits_of}
use Rattle.knx_model.specs.declared.project.Grammar.{Grammar}
use Rattle.knx_model.specs.declared.project.TextVersion.{TextVersion}
use Rattle.knx_model.specs.declared.project.TextVersion.TheVariants.{One, Two}
use Rattle.knx_model.specs.declared.project.What.{What}
use Rattle.knx_model.specs.declared.project.What.TheVariants.{Version, Title, Group, Device, Object, Link, Send, Flags, Param}
use Rattle.knx_model.specs.declared.project.Statement.{Statement}
use Rattle.knx_model.specs.Words.{is_text, is_text_octet, without_comment}
use Rattle.knx_model.specs.LeastLine.{said_from, refused_from, text_reading}
use Rattle.knx_model.specs.Statements.{grammar_from, grammar_of, project_says, statement, most_groups, version_says, title_says, ga_says, device_says, object_says, link_says, send_says, flags_says, param_says, words_say, line_says, version_told, name_value, object_value, reading, is_spellable, are_spelled, are_spellable, is_version, version_of, is_group, are_groups, is_device, is_object}
use Rattle.project_text.specs.Printing.{words_of, line_text, printed, renumbered_from}
use Rattle.project_text.proofs.FirstLine.{none_tells, line_with_words}
use Rattle.project_text.proofs.Spelling.{some_read}
use Rattle.project_text.proofs.Plain.{is_plain, is_printed, list_all_weaker, printed_from_plain, IsShortWord, group_word, short_group_text, device_word, number_word, name_word, flags_word}

-- all_of a line's octets, from its words
AreShort : List (List ℕ) → Type 0
AreShort [] = Unit {0}
AreShort (w ∷ ws) = IsShortWord 32 w × AreShort ws

printed_octet : (b : ℕ) → is_printed b ≡ true → (32 ≤ b) × (b ≤ 126) × (b ≢ 35)
printed_octet b e =
    let h = and_parts _ _ e in
    let k = and_parts _ _ h.0 in
    (leb-true 32 b k.0, leb-true b 126 k.1, λ q. cc (not-true _ h.1, ap (λ (x : ℕ). eqb x 35) q))

word_text : (w : List ℕ) → IsShortWord 32 w → IsWordText w
word_text w is = record {
  some = is.some;
  letters = All-weaker (λ b. is_plain b ≡ true) (λ b. is_blank b ≡ false) (λ b e.
      let h = and_parts _ _ e in
      let low : 33 ≤ b = leb-true 33 b (and_parts _ _ h.0).0 in
      or_from _ _ (ne_eqb b 32 (λ q. omega arith)) (ne_eqb b 9 (λ q. omega arith))) w (AllPass-from_list_all is_plain w is.plain);
}

are_words : (ws : List (List ℕ)) → AreShort ws → AreWords ws
unfolding AreShort
are_words [] are = tt
are_words (w ∷ ws) are = (word_text w are.0, are_words ws are.1)

printed_line : (ws : List (List ℕ)) → AreShort ws → list_all is_printed (join_with_byte 32 ws) ≡ true
unfolding AreShort
printed_line [] are = refl
printed_line (w ∷ []) are = list_all_weaker is_plain is_printed printed_from_plain w (are.0).plain
printed_line (w ∷ v ∷ ws) are = list_all-append is_printed w (32 ∷ join_with_byte 32 (v ∷ ws)) ∙ and_from _ _ (list_all_weaker is_plain is_printed printed_from_plain w (are.0).plain) (and_from (is_printed 32) _ refl (printed_line (v ∷ ws) are.1))

short_line : (ws : List (List ℕ)) → AreShort ws → length (join_with_byte 32 ws) ≤ length ws * 33
unfolding AreShort
short_line [] are = omega arith
short_line (w ∷ []) are = omega (arith, (are.0).short)
short_line (w ∷ v ∷ ws) are = omega (arith, (are.0).short, short_line (v ∷ ws) are.1, length-append w (32 ∷ join_with_byte 32 (v ∷ ws)))

record DeviceParts (device : IndAddr) : Type 0 where
  fits : device.raw < 65536
  some : 0 < device.raw % 256
  most : device.raw % 256 < 255

device_parts : (device : IndAddr) → is_device device ≡ true → DeviceParts device
device_parts device e =
    let h = and_parts (ltb device.raw 65536 && ltb 0 (device.raw % 256)) (ltb (device.raw % 256) 255) e in
    let k = and_parts (ltb device.raw 65536) (ltb 0 (device.raw % 256)) h.0 in
    record { fits = ltb-true _ _ k.0; some = ltb-true _ _ k.1; most = ltb-true _ _ h.1 }

short_device : (device : IndAddr) → is_device device ≡ true → IsShortWord 32 (device_text device)
short_device device e = device_word device (device_parts device e).fits

device_read : (device : IndAddr) → is_device device ≡ true → ind_value (device_text device) ≡ Some device
device_read device e = let h = device_parts device e in device_again device h.fits h.some h.most

short_group : (group : GroupAddr) → is_group group ≡ true → IsShortWord 32 (group_text group)
short_group group e = group_word group (ltb-true _ _ (and_parts (ltb 0 group.raw) (ltb group.raw 65536) e).1)

group_read : (group : GroupAddr) → is_group group ≡ true → group_value (group_text group) ≡ Some group
group_read group e = let h = and_parts (ltb 0 group.raw) (ltb group.raw 65536) e in group_again group (ltb-true _ _ h.0) (ltb-true _ _ h.1)

by_read : (version : TextVersion) (group : GroupAddr) → is_group group ≡ true → group_by version (group_text group) ≡ Some group
by_read One group e = group_read group e
by_read Two group e = rw (group_read group e) refl

groups_by_read : (version : TextVersion) (groups : List GroupAddr) → list_all is_group groups ≡ true → map (group_by version) (map group_text groups) ≡ map Some groups
groups_by_read version [] e = refl
groups_by_read version (g ∷ groups) e = let h = and_parts (is_group g) (list_all is_group groups) e in rw (by_read version g h.0, groups_by_read version groups h.1) refl

short_groups : (groups : List GroupAddr) → list_all is_group groups ≡ true → AreShort (map group_text groups)
unfolding AreShort
short_groups [] e = tt
short_groups (g ∷ groups) e = let h = and_parts (is_group g) (list_all is_group groups) e in (short_group g h.0, short_groups groups h.1)

join_front : (w : List ℕ) (ws : List (List ℕ)) → length (join_with_byte 32 (w ∷ ws)) ≤ length w + 1 + length (join_with_byte 32 ws)
join_front w [] = omega arith
join_front w (v ∷ ws) = omega (arith, length-append w (32 ∷ join_with_byte 32 (v ∷ ws)))

few_octets : (groups : List GroupAddr) → list_all is_group groups ≡ true → length (join_with_byte 32 (map group_text groups)) ≤ length groups * 12
few_octets [] e = omega arith
few_octets (g ∷ groups) e =
    let h = and_parts (is_group g) (list_all is_group groups) e in
    let small : g.raw < 65536 = ltb-true _ _ (and_parts (ltb 0 g.raw) (ltb g.raw 65536) h.0).1 in
    omega (arith, join_front (group_text g) (map group_text groups), short_group_text g small, few_octets groups h.1)

short_object : (n : ℕ) → is_object n ≡ true → IsShortWord 32 (decimal n)
short_object n e = let h = and_parts (ltb 0 n) (ltb n 256) e in let lt : n < 256 = ltb-true _ _ h.1 in number_word n (omega arith)

object_read : (n : ℕ) → is_object n ≡ true → object_value (decimal n) ≡ Some n
object_read n e =
    let h = and_parts (ltb 0 n) (ltb n 256) e in
    let some : 0 < n = ltb-true _ _ h.0 in
    let lt : n < 256 = ltb-true _ _ h.1 in
    rw (number_again n (omega arith)) (ap (λ (b : Bool). cond {A = Option ℕ} b None (Some n)) (or_from _ _ (ne_eqb n 0 (λ q. omega arith)) (le-ltb 255 n (omega arith))))

name_read : (name : List ℕ) → is_name name ≡ true → name_value name ≡ Some name
name_read name e = ap (λ (b : Bool). cond {A = Option (List ℕ)} b (Some name) None) e

record ObjectParts (device : IndAddr) (n size flags : ℕ) : Type 0 where
  device_is : is_device device ≡ true
  n_is : is_object n ≡ true
  size_is : size < 15
  flags_fit : flags < 256
  priority : flags % 4 ≡ 3

object_parts : (version : TextVersion) (device : IndAddr) (n size flags : ℕ) → is_spellable version (Object device n size flags) ≡ true → ObjectParts device n size flags
object_parts version device n size flags e =
    let h = and_parts (is_device device && is_object n && ltb size 15 && ltb flags 256) (eqb (flags % 4) 3) e in
    let k = and_parts (is_device device && is_object n && ltb size 15) (ltb flags 256) h.0 in
    let j = and_parts (is_device device && is_object n) (ltb size 15) k.0 in
    let i = and_parts (is_device device) (is_object n) j.0 in
    record { device_is = i.0; n_is = i.1; size_is = ltb-true _ _ j.1; flags_fit = ltb-true _ _ k.1; priority = eqb-true _ _ h.1 }

record FlagsParts (device : IndAddr) (object flags : ℕ) : Type 0 where
  device_is : is_device device ≡ true
  object_is : is_object object ≡ true
  flags_fit : flags < 256
  priority : flags % 4 ≡ 3

flags_parts : (version : TextVersion) (device : IndAddr) (object flags : ℕ) → is_spellable version (Flags device object flags) ≡ true → FlagsParts device object flags
flags_parts version device object flags e =
    let h = and_parts (is_device device && is_object object && ltb flags 256) (eqb (flags % 4) 3) e in
    let k = and_parts (is_device device && is_object object) (ltb flags 256) h.0 in
    let j = and_parts (is_device device) (is_object object) k.0 in
    record { device_is = j.0; object_is = j.1; flags_fit = ltb-true _ _ k.1; priority = eqb-true _ _ h.1 }

record LinkParts (version : TextVersion) (device : IndAddr) (object : ℕ) (groups : List GroupAddr) : Type 0 where
  device_is : is_device device ≡ true
  object_is : is_object object ≡ true
  groups_are : list_all is_group groups ≡ true
  some : 0 < length groups
  few : length groups ≤ most_groups version

link_parts : (version : TextVersion) (device : IndAddr) (object : ℕ) (groups : List GroupAddr) → is_spellable version (Link device object groups) ≡ true → LinkParts version device object groups
link_parts version device object groups e =
    let h = and_parts (is_device device && is_object object) (are_groups version groups) e in
    let k = and_parts (is_device device) (is_object object) h.0 in
    let g = and_parts (ltb 0 (length groups) && leb (length groups) (most_groups version)) (list_all is_group groups) h.1 in
    let n = and_parts (ltb 0 (length groups)) (leb (length groups) (most_groups version)) g.0 in
    record { device_is = k.0; object_is = k.1; groups_are = g.1; some = ltb-true _ _ n.0; few = leb-true _ _ n.1 }

record SendParts (version : TextVersion) (device : IndAddr) (object : ℕ) (group : GroupAddr) : Type 0 where
  second : version ≡ Two
  device_is : is_device device ≡ true
  object_is : is_object object ≡ true
  group_is : is_group group ≡ true

send_parts : (version : TextVersion) (device : IndAddr) (object : ℕ) (group : GroupAddr) → is_spellable version (Send device object group) ≡ true → SendParts version device object group
send_parts One device object group e = absurd cc
send_parts Two device object group e =
    let h = and_parts (is_device device && is_object object) (is_group group) e in
    let k = and_parts (is_device device) (is_object object) h.0 in
    record { second = refl; device_is = k.0; object_is = k.1; group_is = h.1 }

record ParamParts (device : IndAddr) (name : List ℕ) (value : ℕ) : Type 0 where
  device_is : is_device device ≡ true
  name_is : is_name name ≡ true
  value_fits : value < 4294967296

param_parts : (version : TextVersion) (device : IndAddr) (name : List ℕ) (value : ℕ) → is_spellable version (Param device name value) ≡ true → ParamParts device name value
param_parts version device name value e =
    let h = and_parts (is_device device && is_name name) (ltb value 4294967296) e in
    let k = and_parts (is_device device) (is_name name) h.0 in
    record { device_is = k.0; name_is = k.1; value_fits = ltb-true _ _ h.1 }

-- a statement's own word
abbrev keyword : (w : List ℕ) → list_all is_plain w ≡ true → 0 < length w → length w ≤ 32 → IsShortWord 32 w
keyword w plain some short = record { plain = plain; some = some; short = short }

are_short : (version : TextVersion) (what : What) → is_spellable version what ≡ true → AreShort (words_of what)
unfolding AreShort
are_short version Version e = (keyword (codes "version") refl (lit< tt) (lit≤ tt), (keyword (codes "2") refl (lit< tt) (lit≤ tt), tt))
are_short version (Title name) e = (keyword (codes "project") refl (lit< tt) (lit≤ tt), (name_word name e, tt))
are_short version (Group group name) e =
    let h = and_parts (is_group group) (is_name name) e in
    (keyword (codes "ga") refl (lit< tt) (lit≤ tt), (short_group group h.0, (name_word name h.1, tt)))
are_short version (Device device model) e =
    let h = and_parts (is_device device) (is_name model) e in
    (keyword (codes "device") refl (lit< tt) (lit≤ tt), (short_device device h.0, (name_word model h.1, tt)))
are_short version (Object device n size flags) e =
    let h = object_parts version device n size flags e in
    let bits : bits_of size < 256 = bits_fit size h.size_is in
    (keyword (codes "object") refl (lit< tt) (lit≤ tt), (short_device device h.device_is, (short_object n h.n_is, (number_word (bits_of size) (omega arith), (flags_word flags h.flags_fit h.priority, tt)))))
are_short version (Link device object groups) e =
    let h = link_parts version device object groups e in
    (keyword (codes "link") refl (lit< tt) (lit≤ tt), (short_device device h.device_is, (short_object object h.object_is, short_groups groups h.groups_are)))
are_short version (Send device object group) e =
    let h = send_parts version device object group e in
    (keyword (codes "send") refl (lit< tt) (lit≤ tt), (short_device device h.device_is, (short_object object h.object_is, (short_group group h.group_is, tt))))
are_short version (Flags device object flags) e =
    let h = flags_parts version device object flags e in
    (keyword (codes "flags") refl (lit< tt) (lit≤ tt), (short_device device h.device_is, (short_object object h.object_is, (flags_word flags h.flags_fit h.priority, tt))))
are_short version (Param device name value) e =
    let h = param_parts version device name value e in
    (keyword (codes "param") refl (lit< tt) (lit≤ tt), (short_device device h.device_is, (name_word name h.name_is, (number_word value (omega (arith, h.value_fits)), tt))))

few_of_groups : (version : TextVersion) → most_groups version ≤ 32
few_of_groups One = omega arith
few_of_groups Two = omega arith

-- a statement's line has at most 512 octets
short_text : (version : TextVersion) (what : What) → is_spellable version what ≡ true → length (join_with_byte 32 (words_of what)) ≤ 512
short_text version Version e = omega (arith, short_line (words_of Version) (are_short version Version e))
short_text version (Title name) e = omega (arith, short_line (words_of (Title name)) (are_short version (Title name) e))
short_text version (Group group name) e = omega (arith, short_line (words_of (Group group name)) (are_short version (Group group name) e))
short_text version (Device device model) e = omega (arith, short_line (words_of (Device device model)) (are_short version (Device device model) e))
short_text version (Object device n size flags) e = omega (arith, short_line (words_of (Object device n size flags)) (are_short version (Object device n size flags) e))
short_text version (Link device object groups) e =
    let h = link_parts version device object groups e in
    let d = short_device device h.device_is in
    let n = short_object object h.object_is in
    let gs = map group_text groups in
    let word : length (codes "link") ≡ 4 = refl in
    omega (arith, word, d.short, n.short, h.few, few_of_groups version, few_octets groups h.groups_are, join_front (codes "link") (device_text device ∷ decimal object ∷ gs), join_front (device_text device) (decimal object ∷ gs), join_front (decimal object) gs)
short_text version (Send device object group) e = omega (arith, short_line (words_of (Send device object group)) (are_short version (Send device object group) e))
short_text version (Flags device object flags) e = omega (arith, short_line (words_of (Flags device object flags)) (are_short version (Flags device object flags) e))
short_text version (Param device name value) e = omega (arith, short_line (words_of (Param device name value)) (are_short version (Param device name value) e))

two_read : number_value (codes "2") ≡ Some 2
unfolding number_value numeral
two_read = refl

words_again : (version : TextVersion) (is_first : Bool) (what : What) → is_spellable version what ≡ true → (is_version what ≡ true → is_first ≡ true) → words_say version is_first (words_of what) ≡ Ok (Some what)
unfolding words_say version_says title_says ga_says device_says object_says link_says send_says flags_says param_says
words_again version is_first Version e told = rw (two_read, told refl) refl
words_again version is_first (Title name) e told = rw (name_read name e) refl
words_again version is_first (Group group name) e told =
    let h = and_parts (is_group group) (is_name name) e in
    rw (by_read version group h.0, name_read name h.1) refl
words_again version is_first (Device device model) e told =
    let h = and_parts (is_device device) (is_name model) e in
    rw (device_read device h.0, name_read model h.1) refl
words_again version is_first (Object device n size flags) e told =
    let h = object_parts version device n size flags e in
    rw (device_read device h.device_is, object_read n h.n_is, size_again size h.size_is, flags_again flags h.flags_fit h.priority) refl
words_again version is_first (Link device object groups) e told =
    let h = link_parts version device object groups e in
    rw (device_read device h.device_is, object_read object h.object_is, some_read version (map group_text groups) groups (groups_by_read version groups h.groups_are) h.some h.few) refl
words_again One is_first (Send device object group) e told = absurd cc
words_again Two is_first (Send device object group) e told =
    let h = send_parts Two device object group e in
    rw (device_read device h.device_is, object_read object h.object_is, by_read Two group h.group_is) refl
words_again version is_first (Flags device object flags) e told =
    let h = flags_parts version device object flags e in
    rw (device_read device h.device_is, object_read object h.object_is, flags_again flags h.flags_fit h.priority) refl
words_again version is_first (Param device name value) e told =
    let h = param_parts version device name value e in
    rw (device_read device h.device_is, name_read name h.name_is, number_again value (omega (arith, h.value_fits))) refl

-- printed octets are no comment
no_comment : (l : List ℕ) → list_all is_printed l ≡ true → without_comment l ≡ l
no_comment l e =
    let all : All (λ b. is_printed b ≡ true) l = AllPass-from_list_all is_printed l e in
    let len : position_or_len (λ b. eqb b 35) l ≡ length l = position_or_len_is (λ b. eqb b 35) l (length l) 0 (omega arith) (λ k lt. ne_eqb (get_or l k 0) 35 (printed_octet (get_or l k 0) (All-get_or (λ b. is_printed b ≡ true) l k 0 lt all)).2) (λ lt. absurd (omega arith)) in
    rw len (take-length l)

-- a line of printed octets is text, without comment
line_is : (version : TextVersion) (is_first : Bool) (l : List ℕ) → list_all is_printed l ≡ true → length l ≤ 512 → line_says version is_first l ≡ words_say version is_first (words l)
unfolding line_says
line_is version is_first l e short =
    let all : All (λ b. is_printed b ≡ true) l = AllPass-from_list_all is_printed l e in
    let ascii : IsAscii l = λ i. elim (cases_lt i (length l)) [
      | inl lt ↦ let h = printed_octet (get_or l i 0) (All-get_or (λ b. is_printed b ≡ true) l i 0 lt all) in omega (arith, h.1)
      | inr le ↦ omega (arith, get_or_past l i 0 le)
    ] in
    let text : is_text l ≡ true = and_from _ _ (is_utf8-from_IsUtf8 l (IsUtf8-from_ascii l ascii)) (list_all_weaker is_printed is_text_octet (λ b p. let h = printed_octet b p in or_left _ _ (and_from _ _ (le-leb 32 b h.0) (not_from_false _ (ne_eqb b 127 (λ q. omega (arith, h.1)))))) l e) in
    rw (text, le-ltb 512 (length l) short, no_comment l e) refl

-- the words of a statement's line
line_words : (version : TextVersion) (what : What) → is_spellable version what ≡ true → words (join_with_byte 32 (words_of what)) ≡ words_of what
line_words version what e = words-join (words_of what) (are_words (words_of what) (are_short version what e))

pub line_again : (version : TextVersion) (is_first : Bool) (what : What) → is_spellable version what ≡ true → (is_version what ≡ true → is_first ≡ true) → line_says version is_first (join_with_byte 32 (words_of what)) ≡ Ok (Some what)
line_again version is_first what e told =
    line_is version is_first (join_with_byte 32 (words_of what)) (printed_line (words_of what) (are_short version what e)) (short_text version what e) ∙ ap (words_say version is_first) (line_words version what e) ∙ words_again version is_first what e told

-- no line feed, and no carriage return
pub line_cut : (version : TextVersion) (what : What) (rest : List ℕ) → is_spellable version what ≡ true → lines (line_text what ++ rest) ≡ join_with_byte 32 (words_of what) ∷ lines rest
unfolding line_text
line_cut version what rest e =
    let l : List ℕ = join_with_byte 32 (words_of what) in
    let all : All (λ b. is_printed b ≡ true) l = AllPass-from_list_all is_printed l (printed_line (words_of what) (are_short version what e)) in
    let none : All (λ b. is_feed b ≡ false) l = All-weaker (λ b. is_printed b ≡ true) (λ b. is_feed b ≡ false) (λ b p. let h = printed_octet b p in ne_eqb b 10 (λ q. omega (arith, h.0))) l all in
    let end : get_or l (length l - 1) 0 ≢ 13 = elim (cases_lt (length l - 1) (length l)) [
      | inl lt ↦ λ q. let h = printed_octet (get_or l (length l - 1) 0) (All-get_or (λ b. is_printed b ≡ true) l (length l - 1) 0 lt all) in omega (arith, h.0)
      | inr le ↦ λ q. omega (arith, get_or_past l (length l - 1) 0 le)
    ] in
    ap lines (append_assoc l (10 ∷ []) rest) ∙ lines_then l rest none end

-- the text of a statement, and of those after it
text_cut : (version : TextVersion) (s : Statement) (ss : List Statement) → is_spellable version s.what ≡ true → lines (printed (s ∷ ss)) ≡ join_with_byte 32 (words_of s.what) ∷ lines (printed ss)
unfolding printed
text_cut version s ss e = rw flat_map-cons (line_cut version s.what (printed ss) e)

no_text : lines (printed []) ≡ []
unfolding printed
no_text = refl

-- what is said of each line is its statement
record AreSaid (g : Grammar) (n : ℕ) (ss : List Statement) : Type 0 where
  said : said_from statement (project_says g) n (lines (printed ss)) ≡ renumbered_from n ss
  refused : refused_from (project_says g) n (lines (printed ss)) ≡ []

none_said : (g : Grammar) (n : ℕ) → AreSaid g n []
unfolding said_from refused_from
none_said g n = record { said = ap (said_from statement (project_says g) n) no_text; refused = ap (refused_from (project_says g) n) no_text }

one_said : (g : Grammar) (n : ℕ) (s : Statement) (ss : List Statement) → is_spellable g.version s.what ≡ true → (is_version s.what ≡ true → eqb n g.first ≡ true) → AreSaid g (n + 1) ss → AreSaid g n (s ∷ ss)
unfolding said_from refused_from
one_said g n s ss e told later =
    let cut = text_cut g.version s ss e in
    let again = line_again g.version (eqb n g.first) s.what e told in
    record {
      said = ap (said_from statement (project_says g) n) cut ∙ rw again (ap (λ (xs : List Statement). record { line = n; what = s.what } ∷ xs) later.said);
      refused = ap (refused_from (project_says g) n) cut ∙ rw again later.refused;
    }

-- of statements that tell no version
others_said : (g : Grammar) (n : ℕ) (ss : List Statement) → are_spelled g.version ss ≡ true → none_tells ss ≡ true → AreSaid g n ss
others_said g n [] e none = none_said g n
others_said g n (s ∷ ss) e none =
    let h = and_parts (is_spellable g.version s.what) (are_spelled g.version ss) e in
    let k = and_parts (not (is_version s.what)) (none_tells ss) none in
    one_said g n s ss h.0 (λ told. absurd (cc (not-true (is_version s.what) k.0, told))) (others_said g (n + 1) ss h.1 k.1)

told_words : (version : TextVersion) (what : What) → is_spellable version what ≡ true → version_told (words_of what) ≡ (cond (is_version what) Two One)
told_words version Version e = rw two_read refl
told_words version (Title name) e = refl
told_words version (Group group name) e = refl
told_words version (Device device model) e = refl
told_words version (Object device n size flags) e = refl
told_words version (Link device object []) e = refl
told_words version (Link device object (g ∷ groups)) e = refl
told_words version (Send device object group) e = refl
told_words version (Flags device object flags) e = refl
told_words version (Param device name value) e = refl

some_words : (what : What) → (w : List ℕ) × (ws : List (List ℕ)) × (words_of what ≡ w ∷ ws)
some_words Version = (_, _, refl)
some_words (Title name) = (_, _, refl)
some_words (Group group name) = (_, _, refl)
some_words (Device device model) = (_, _, refl)
some_words (Object device n size flags) = (_, _, refl)
some_words (Link device object groups) = (_, _, refl)
some_words (Send device object group) = (_, _, refl)
some_words (Flags device object flags) = (_, _, refl)
some_words (Param device name value) = (_, _, refl)

-- the first statement's line tells the version
grammar_again : (version : TextVersion) (s : Statement) (ss : List Statement) → is_spellable version s.what ≡ true → grammar_of (printed (s ∷ ss)) ≡ record { version = version_of (s ∷ ss); first = 1 }
grammar_again version s ss e =
    let l = join_with_byte 32 (words_of s.what) in
    let some = some_words s.what in
    let is : words (without_comment l) ≡ words_of s.what = ap words (no_comment l (printed_line (words_of s.what) (are_short version s.what e))) ∙ line_words version s.what e in
    ap (grammar_from 1) (text_cut version s ss e)
    ∙ line_with_words 1 l some.0 some.1 (lines (printed ss)) (is ∙ some.2)
    ∙ ap (λ (v : TextVersion). let g : Grammar = record { version = v; first = 1 } in g) (ap version_told (sym some.2) ∙ told_words version s.what e)

reading_by : (g : Grammar) (ss : List Statement) → AreSaid g 1 ss → grammar_of (printed ss) ≡ g → length (printed ss) ≤ 4194304 → reading (printed ss) ≡ Ok (renumbered_from 1 ss)
unfolding text_reading
reading_by g ss are is short = rw (le-ltb 4194304 (length (printed ss)) short, is, are.refused, are.said) refl

-- reading what is printed gives the same statements, numbered anew
pub reading_again : (ss : List Statement) → are_spellable ss ≡ true → length (printed ss) ≤ 4194304 → reading (printed ss) ≡ Ok (renumbered_from 1 ss)
reading_again [] e short = reading_by (grammar_of (printed [])) [] (none_said (grammar_of (printed [])) 1) refl short
reading_again (s ∷ ss) e short =
    let version = version_of (s ∷ ss) in
    let h = and_parts (are_spelled version (s ∷ ss)) (none_tells ss) e in
    let k = and_parts (is_spellable version s.what) (are_spelled version ss) h.0 in
    let g : Grammar = record { version = version; first = 1 } in
    reading_by g (s ∷ ss) (one_said g 1 s ss k.0 (λ told. refl) (others_said g (1 + 1) ss k.1 h.1)) (grammar_again version s ss k.0) short
