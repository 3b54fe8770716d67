-- `tables P`: the tables of the devices of a project.
use Rattle.std.specs.Prelude.{ℕ, IsPermutation, List, ◌≡◌, map}
use Rattle.std.specs.List.{AllZip, flat_map, zip}
use Rattle.knx_model.specs.declared.config.Image.{Image}
use Rattle.knx_model.specs.declared.address.IndAddr.{IndAddr}
use Rattle.knx_model.specs.Meaning.{Installation, meaning}
use Rattle.std.specs.List.Sorted.{IsStrictlyIncreasing}
use Rattle.knx_model.specs.Tables.{StandsFor}
use Rattle.knx_model.specs.Rules.{devices_of}
use Rattle.call_words.specs.ReportText.{tables_lines}

-- `tables`: the devices, ascending, each with the tables of an image that stands for what the project says of it
pub record IsTablesText (i : Installation) (text : List ℕ) : Type 0 where
  pub devices : List IndAddr
  pub all : IsPermutation (devices_of i.statements) devices
  pub ascending : IsStrictlyIncreasing (map (λ d. d.raw) devices)
  pub images : List Image
  pub stand : AllZip (λ image device. StandsFor image (meaning i device)) images devices
  pub lines : text ≡ flat_map (λ c. tables_lines c.0 c.1) (zip devices images)
