-- The values that are shown of a device, one object after the other.
use Rattle.std.proofs.Common.{ℕ, suc, ◌≡◌, ◌+◌, List, [], ◌∷◌, ◌++◌, sym, ap, ◌∙◌, arith}
use Rattle.std.specs.List.{filter_map, range_with_len}
use Rattle.std.proofs.lemmas.List.Elements.{filter_map-append}
use Rattle.knx_model.specs.declared.frames.value.Value.{Value}
use Rattle.knx_model.specs.DeviceState.{DeviceState, value_of}
use Rattle.call_words.specs.Printed.{shown}
use Rattle.knx_top.proofs.Tunnels.{range_more}

pub one_value_more : (d : DeviceState) (before : ℕ) (old new : List (ℕ × Value)) → old ≡ filter_map (λ o. shown o (value_of d o)) (range_with_len 1 before) → new ≡ old ++ filter_map (λ o. shown o (value_of d o)) ((before + 1) ∷ [])
    → new ≡ filter_map (λ o. shown o (value_of d o)) (range_with_len 1 (before + 1))
one_value_more d before old new so_far more =
    let one : suc before ≡ before + 1 = omega arith in
    let same : 1 + before ≡ before + 1 = omega arith in
    more ∙ ap (λ (l : List (ℕ × Value)). l ++ filter_map (λ o. shown o (value_of d o)) ((before + 1) ∷ [])) so_far
    ∙ ap (λ (n : ℕ). filter_map (λ o. shown o (value_of d o)) (range_with_len 1 before) ++ filter_map (λ o. shown o (value_of d o)) (n ∷ [])) (sym same)
    ∙ sym (filter_map-append (λ o. shown o (value_of d o)) (range_with_len 1 before) ((1 + before) ∷ []))
    ∙ ap (λ (l : List ℕ). filter_map (λ o. shown o (value_of d o)) l) (sym (range_more 1 before))
    ∙ ap (λ (n : ℕ). filter_map (λ o. shown o (value_of d o)) (range_with_len 1 n)) one
