-- The flags of an object as a word, and the flag octet that it spells (ISO/IEC 14543-3-3, user process, group objects): 80 update, 40
-- transmit, 20 read at start, 10 write, 08 read, 04 communicate (hexadecimal), and the priority in the lower two bits, always 3.
use Rattle.std.specs.Prelude.{ℕ, ◌+◌, ◌*◌, ◌/◌, ◌%◌, Bool, ◌&&◌, ◌||◌, ◌==◌, nat_lt, bytes_eq, codes, List, [], ◌∷◌, ◌++◌, length, count_by, Option, Some, None, if◌then◌else◌}

abbrev pub times : ℕ → List ℕ → ℕ
times letter word = count_by (λ x. x == letter) word

-- distinct letters of C R W T U I, at least one, or a dash
unfoldable pub flags_value : List ℕ → Option ℕ
flags_value word =
    let c = times 67 word in let r = times 82 word in let w = times 87 word in let t = times 84 word in let u = times 85 word in let i = times 73 word in
    if bytes_eq word (codes "-") then Some 3
    else (if nat_lt 1 c || nat_lt 1 r || nat_lt 1 w || nat_lt 1 t || nat_lt 1 u || nat_lt 1 i then None
    else (if nat_lt 0 (length word) && (c + r + w + t + u + i == length word) then Some (3 + c * 4 + r * 8 + w * 16 + i * 32 + t * 64 + u * 128)
    else None))

-- the bit that a letter sets
abbrev pub flag_bit : ℕ → ℕ
flag_bit letter =
    if letter == 67 then 4
    else (if letter == 82 then 8
    else (if letter == 87 then 16
    else (if letter == 73 then 32
    else (if letter == 84 then 64
    else (if letter == 85 then 128
    else 0)))))

abbrev pub letter_if : Bool → ℕ → List ℕ
letter_if is_set letter = if is_set then letter ∷ [] else []

-- the letters of the bits that are set, in the order C R W T U I, or a dash where none is
unfoldable pub flags_text : ℕ → List ℕ
flags_text octet =
    if nat_lt octet 4 then codes "-"
    else letter_if (octet / 4 % 2 == 1) 67 ++ letter_if (octet / 8 % 2 == 1) 82 ++ letter_if (octet / 16 % 2 == 1) 87 ++ letter_if (octet / 64 % 2 == 1) 84 ++ letter_if (octet / 128 % 2 == 1) 85 ++ letter_if (octet / 32 % 2 == 1) 73
