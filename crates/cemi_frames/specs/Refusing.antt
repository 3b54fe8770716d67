-- Why what follows the additional information is no frame, in the order in which the rules are tried.
use Rattle.std.specs.Prelude.{◌≡◌, ◌≢◌, ℕ, ◌+◌, ◌≤◌, ◌⊎◌, List, length, drop, slice_index}
use Rattle.knx_model.specs.declared.frames.cemi.CemiRefused.{CemiRefused}
use Rattle.knx_model.specs.declared.frames.cemi.CemiRefused.TheVariants as refused
use Rattle.knx_model.specs.Apdu.{most_octets, most_standard_octets}
use Rattle.knx_model.specs.Cemi.{IsCode, IsStandard, HasNoFormat}

abbrev pub RefusesBody : CemiRefused → ℕ → List ℕ → Type 0
RefusesBody refused.Short code body = ⊥
RefusesBody refused.Code code body = ¬ IsCode code
RefusesBody refused.Extended code body = IsCode code × ¬ IsStandard (slice_index body 0) × ¬ HasNoFormat (slice_index body 1)
RefusesBody refused.Length code body =
    IsCode code × (¬ IsStandard (slice_index body 0) → HasNoFormat (slice_index body 1))
    × ((length (drop 7 body) ≢ slice_index body 6 + 1) ⊎ (IsStandard (slice_index body 0) × (most_standard_octets ≤ slice_index body 6)))
RefusesBody refused.Long code body =
    IsCode code × ¬ IsStandard (slice_index body 0) × HasNoFormat (slice_index body 1)
    × (length (drop 7 body) ≡ slice_index body 6 + 1) × (most_octets ≤ slice_index body 6)
