-- Why no service is read, in the order in which the rules are tried.
use Rattle.std.specs.Prelude.{ℕ, List, length}
use Rattle.knx_model.specs.declared.frames.tpdu.TpduRefused.{TpduRefused}
use Rattle.knx_model.specs.declared.frames.tpdu.TpduRefused.TheVariants as refused
use Rattle.knx_model.specs.Apdu.{IsService, AllowsLength, AllowsCount}

abbrev pub RefusesApdu : ℕ → List ℕ → TpduRefused → Type 0
RefusesApdu code rest refused.Empty = ⊥
RefusesApdu code rest refused.Code = ¬ IsService code
RefusesApdu code rest refused.Length = IsService code × ¬ AllowsLength code (length rest)
RefusesApdu code rest refused.Count = IsService code × AllowsLength code (length rest) × ¬ AllowsCount code (length rest)
