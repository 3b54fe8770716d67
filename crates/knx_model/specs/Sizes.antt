-- The size of an object as a word, a number of bits, and the size code that it stands for (KNX standard 3/5/1, resources, group objects of System B).
use Rattle.std.specs.Prelude.{ℕ, ◌-◌, ◌&&◌, ◌==◌, nat_le, List, [], ◌∷◌, get_or, Option, Some, None, if◌then◌else◌}
use Rattle.knx_model.specs.Numbers.{number_value}

-- the bits of each size code, from 0
abbrev pub sizes : List ℕ
sizes = 1 ∷ 2 ∷ 3 ∷ 4 ∷ 5 ∷ 6 ∷ 7 ∷ 8 ∷ 16 ∷ 24 ∷ 32 ∷ 48 ∷ 64 ∷ 80 ∷ 112 ∷ []

-- 1 to 7 bits have the codes 0 to 6; 1, 2, 3, 4, 6, 8, 10 and 14 octets the codes 7 to 14
abbrev pub size_code : ℕ → Option ℕ
size_code bits =
    if nat_le 1 bits && nat_le bits 7 then Some (bits - 1)
    else (if bits == 8 then Some 7
    else (if bits == 16 then Some 8
    else (if bits == 24 then Some 9
    else (if bits == 32 then Some 10
    else (if bits == 48 then Some 11
    else (if bits == 64 then Some 12
    else (if bits == 80 then Some 13
    else (if bits == 112 then Some 14
    else None))))))))

-- the bits that a size code stands for; 0 for what is no size code
abbrev pub bits_of : ℕ → ℕ
bits_of code = get_or sizes code 0

abbrev pub size_at : Option ℕ → Option ℕ
size_at None = None
size_at (Some bits) = size_code bits

unfoldable pub size_value : List ℕ → Option ℕ
size_value word = size_at (number_value word)
