-- The tunnel's address, by a project's first device; and the addresses of a line.
use Rattle.std.proofs.Common.{ℕ, zero, suc, ◌≡◌, ◌+◌, ◌*◌, ◌/◌, List, [], ◌∷◌, ◌++◌, map, filter, slice_get, Some, None, refl, sym, ap, ◌∙◌, Bool, arith}
use Rattle.std.specs.Prelude.{if◌then◌else◌}
use Rattle.std.specs.List.{range_with_len}
use Rattle.std.proofs.lemmas.List.{map-append}
use Rattle.std.proofs.lemmas.List.Elements.{filter-append}
use Rattle.knx_model.specs.declared.address.IndAddr.{IndAddr}
use Rattle.line_model.specs.StartOf.{default_tunnel, on_line_of_first}
use Rattle.call_parts.specs.OnLine.{address_at}

abbrev beside : IndAddr → IndAddr
beside first = record { raw = first.raw / 256 * 256 + 255 }

some_address : (one other : IndAddr) → Some one ≡ Some other → one ≡ other
some_address one other e = cc

pub tunnel_some : (devices : List IndAddr) (first : IndAddr) → slice_get devices 0 ≡ Some first → beside first ≡ on_line_of_first devices
tunnel_some [] first e = absurd cc
tunnel_some (d ∷ ds) first e = ap beside (sym (some_address d first e))

pub tunnel_none : (devices : List IndAddr) → slice_get devices 0 ≡ None → default_tunnel ≡ on_line_of_first devices
tunnel_none [] e = refl
tunnel_none (d ∷ ds) e = absurd cc

-- ---- the addresses of a line, one more

pub range_more : (a n : ℕ) → range_with_len a (suc n) ≡ range_with_len a n ++ (a + n) ∷ []
range_more a zero = ap (λ (k : ℕ). k ∷ []) (omega arith)
range_more a (suc n) = ap (λ (l : List ℕ). a ∷ l) (range_more (a + 1) n ∙ ap (λ (k : ℕ). range_with_len (a + 1) n ++ k ∷ []) (omega arith))

pub bus_more : (p : IndAddr → Bool) (line k : ℕ) → filter p (map (address_at line) (range_with_len 0 (suc k))) ≡ filter p (map (address_at line) (range_with_len 0 k)) ++ (if p (address_at line k) then address_at line k ∷ [] else [])
bus_more p line k =
    ap (λ (l : List ℕ). filter p (map (address_at line) l)) (range_more 0 k ∙ ap (λ (n : ℕ). range_with_len 0 k ++ n ∷ []) (omega arith))
    ∙ ap (λ (l : List IndAddr). filter p l) (map-append (address_at line) (range_with_len 0 k) (k ∷ []))
    ∙ filter-append p (map (address_at line) (range_with_len 0 k)) (address_at line k ∷ [])
