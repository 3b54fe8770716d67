-- What it is for a line of a project to break a rule, and for a refusal to be that of the least line, by the rule of the least number.
use Rattle.std.specs.Prelude.{◌≡◌, ℕ, ◌<◌, ◌⊎◌, IsTrue, List, take, slice_get, Some}
use Rattle.knx_model.specs.declared.catalogue.model.NamedModel.{NamedModel}
use Rattle.knx_model.specs.declared.project.Statement.{Statement}
use Rattle.knx_model.specs.declared.project.What.{What}
use Rattle.knx_model.specs.declared.refusal.Refused.{Refused}
use Rattle.knx_model.specs.declared.refusal.Why.{Why}
use Rattle.knx_model.specs.declared.refusal.Why.TheVariants.{DuplicateDevice, DuplicateGroup, UnknownGroup, UnknownModel, DuplicateObject, UnknownObject, DuplicateLink, UnknownParameter, OutOfRange, SizeDiffers, TooMany, NoDevice, NotLinked}
use Rattle.knx_model.specs.Refusal.{why_number}
use Rattle.knx_model.specs.Rules.{duplicate_device, duplicate_group, unknown_group, unknown_model, duplicate_object, unknown_object, duplicate_link, unknown_parameter, out_of_range, size_differs, too_many_devices, too_many_links, no_device, not_linked}

-- the line breaks this rule, judged by the catalogue, the lines before it and all lines; what else is refused isn't a rule of a whole text
abbrev pub Breaks : List NamedModel → List Statement → List Statement → What → Why → Type 0
Breaks catalogue before all what DuplicateDevice = IsTrue (duplicate_device before what)
Breaks catalogue before all what DuplicateGroup = IsTrue (duplicate_group before what)
Breaks catalogue before all what UnknownGroup = IsTrue (unknown_group all what)
Breaks catalogue before all what UnknownModel = IsTrue (unknown_model catalogue what)
Breaks catalogue before all what DuplicateObject = IsTrue (duplicate_object catalogue before all what)
Breaks catalogue before all what UnknownObject = IsTrue (unknown_object catalogue all what)
Breaks catalogue before all what DuplicateLink = IsTrue (duplicate_link before what)
Breaks catalogue before all what UnknownParameter = IsTrue (unknown_parameter catalogue all what)
Breaks catalogue before all what OutOfRange = IsTrue (out_of_range catalogue all what)
Breaks catalogue before all what SizeDiffers = IsTrue (size_differs catalogue all what)
Breaks catalogue before all what (TooMany limit) = ((limit ≡ 255) × IsTrue (too_many_devices before what)) ⊎ ((limit ≡ 2047) × IsTrue (too_many_links before what))
Breaks catalogue before all what NoDevice = IsTrue (no_device all what)
Breaks catalogue before all what NotLinked = IsTrue (not_linked all what)
Breaks catalogue before all what _ = ⊥

-- the statement at this place of the text breaks this rule
abbrev pub BreaksAt : List NamedModel → List Statement → ℕ → Statement → Why → Type 0
BreaksAt catalogue ss place s why = Breaks catalogue (take place ss) ss s.what why

-- the line is that of a statement that breaks the rule and none of a smaller number, and no earlier statement breaks any
pub record IsLeastBroken (catalogue : List NamedModel) (ss : List Statement) (r : Refused) : Type 0 where
  pub place : ℕ
  pub statement : Statement
  pub there : slice_get ss place ≡ Some statement
  pub line : r.line ≡ statement.line
  pub breaks : BreaksAt catalogue ss place statement r.why
  pub number : ℕ
  pub numbered : why_number r.why ≡ Some number
  pub least : (why : Why) (n : ℕ) → why_number why ≡ Some n → n < number → ¬ BreaksAt catalogue ss place statement why
  pub before : (k : ℕ) (earlier : Statement) (why : Why) → k < place → slice_get ss k ≡ Some earlier → ¬ BreaksAt catalogue ss k earlier why

-- no statement breaks a rule
abbrev pub NoneBreaks : List NamedModel → List Statement → Type 0
NoneBreaks catalogue ss = (k : ℕ) (s : Statement) (why : Why) → slice_get ss k ≡ Some s → ¬ BreaksAt catalogue ss k s why
