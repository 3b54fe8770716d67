-- The priority in a flag octet.
use Rattle.std.proofs.Common.{◌≡◌, ℕ, ◌+◌, ◌*◌, ◌%◌, Bool, true, false, ◌&&◌, ◌||◌, cond, eqb, ltb, bytes_eq, codes, List, length, Option, Some, None, sym, ap, arith}
use Rattle.std.proofs.lemmas.Option.{same_Some, none-some}
use Rattle.knx_model.specs.Flags.{times, flags_value}

octet : (dash twice known : Bool) (c r w i t u f : ℕ) → cond {A = Option ℕ} dash (Some 3) (cond twice None (cond known (Some (3 + c * 4 + r * 8 + w * 16 + i * 32 + t * 64 + u * 128)) None)) ≡ Some f → f % 4 ≡ 3
octet true twice known c r w i t u f e = ap (λ (n : ℕ). n % 4) (sym (same_Some 3 f e))
octet false true known c r w i t u f e = absurd (none-some f e)
octet false false true c r w i t u f e = omega (arith, same_Some (3 + c * 4 + r * 8 + w * 16 + i * 32 + t * 64 + u * 128) f e)
octet false false false c r w i t u f e = absurd (none-some f e)

pub priority : (word : List ℕ) (f : ℕ) → flags_value word ≡ Some f → f % 4 ≡ 3
unfolding flags_value
priority word f e =
    let c = times 67 word in
    let r = times 82 word in
    let w = times 87 word in
    let t = times 84 word in
    let u = times 85 word in
    let i = times 73 word in
    let twice = ltb 1 c || ltb 1 r || ltb 1 w || ltb 1 t || ltb 1 u || ltb 1 i in
    let known = ltb 0 (length word) && eqb (c + r + w + t + u + i) (length word) in
    octet (bytes_eq word (codes "-")) twice known c r w i t u f e
