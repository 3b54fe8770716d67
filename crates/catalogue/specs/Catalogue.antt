-- The catalogue that octets are, or why they are refused: too long, no document, or the first model, ascending by the octets of its name,
-- that isn't as it must be; in a model its shape, then its parameters in order, each its ranges and then its overlap with earlier ones.
use Rattle.std.specs.Prelude.{◌≡◌, ℕ, ◌+◌, ◌*◌, ◌^◌, ◌&&◌, not, nat_le, nat_lt, Bool, ℤ, pos, negsuc, List, [], ◌∷◌, ◌++◌, length, bytes_eq, codes, Option, Some, None, option_map, Result, Ok, Err, if◌then◌else◌}
use Rattle.std.specs.List.{list_any}
use Rattle.std.specs.Str.{is_utf8}
use Rattle.knx_model.specs.declared.catalogue.model.ModelField.{ModelField}
use Rattle.knx_model.specs.declared.catalogue.model.NamedModel.{NamedModel}
use Rattle.knx_model.specs.declared.catalogue.refused.CatRefused.{CatRefused}
use Rattle.knx_model.specs.declared.catalogue.refused.CatRefused.TheVariants.{NoMemory, Toml, Shape, Overlap, Range, Long}
use Rattle.knx_model.specs.Answers.{◌>>=◌, AnswersUnless}
use Rattle.knx_model.specs.Numbers.{is_name}
use Rattle.toml.specs.Data.{Data, Members, no_members, member}
use Rattle.toml.specs.Parse.{parse_document}
use Rattle.catalogue.specs.declared.stated.FieldNumbers.{FieldNumbers}
use Rattle.catalogue.specs.declared.stated.FieldRange.{FieldRange}
use Rattle.catalogue.specs.declared.stated.StatedField.{StatedField}
use Rattle.catalogue.specs.declared.stated.StatedModel.{StatedModel}
use Rattle.catalogue.specs.Shapes.{model_of}

-- what a function returned is what the document states, unless memory ran out
abbrev pub Gives : {Y : Type 0} → Result Y CatRefused → Result Y CatRefused → Type 0
Gives returned stated = AnswersUnless (λ why. why ≡ NoMemory tt) (λ x. x) returned stated

-- ---- parameters

abbrev pub natural : ℤ → Option ℕ
natural (pos n) = Some n
natural (negsuc n) = None

-- a width of 1 to 32 bits, within the parameter memory
abbrev pub is_place : ℕ → ℕ → ℕ → Bool
is_place params bit width = (nat_le 1 width && nat_le width 32) && nat_le (bit + width) (8 * params)

-- min up to default up to max, which the width holds
abbrev pub is_span : ℕ → ℕ → ℕ → ℕ → Bool
is_span width min max default = (nat_le min default && nat_le default max) && nat_lt max (2 ^ width)

abbrev pub range_from : ℕ → Option ℕ → Option ℕ → Option ℕ → Option ℕ → Option ℕ → Option FieldRange
range_from params (Some bit) (Some width) (Some min) (Some max) (Some default) =
    if is_place params bit width && is_span width min max default
    then Some (record { bit = bit; width = width; min = min; max = max; default = default })
    else None
range_from params _ _ _ _ _ = None

unfoldable pub range_of : ℕ → FieldNumbers → Option FieldRange
range_of params n = range_from params (natural n.bit) (natural n.width) (natural n.min) (natural n.max) (natural n.default)

abbrev pub with_name : List ℕ → FieldRange → ModelField
with_name name n = record { name = name; bit = n.bit; width = n.width; min = n.min; max = n.max; default = n.default }

-- a parameter whose numbers are in their ranges
abbrev pub field_of : ℕ → StatedField → Option ModelField
field_of params s = option_map (with_name s.name) (range_of params s.numbers)

-- a bit is of both
abbrev pub shares_bit : ModelField → ModelField → Bool
shares_bit f g = nat_lt f.bit (g.bit + g.width) && nat_lt g.bit (f.bit + f.width)

-- a parameter after earlier ones
abbrev pub judged_field : List ℕ → List ℕ → List ModelField → Option ModelField → Result ModelField CatRefused
judged_field model name earlier None = Err (Range model name)
judged_field model name earlier (Some f) = if list_any (shares_bit f) earlier then Err (Overlap model name) else Ok f

unfoldable pub judged : List ℕ → ℕ → List ModelField → StatedField → Result ModelField CatRefused
judged model params earlier s = judged_field model s.name earlier (field_of params s)

-- the fields of parameters, after earlier ones
abbrev pub fields_after : List ℕ → ℕ → List ModelField → List StatedField → Result (List ModelField) CatRefused
fields_after model params earlier [] = Ok earlier
fields_after model params earlier (s ∷ ss) = judged model params earlier s >>= (λ f. fields_after model params (earlier ++ f ∷ []) ss)

-- ---- models

abbrev pub with_fields : List ℕ → StatedModel → List ModelField → NamedModel
with_fields name s fields = record { name = name; model = record { params = s.params; objects = s.objects; parameters = fields } }

abbrev pub judged_model : List ℕ → Option StatedModel → Result NamedModel CatRefused
judged_model name None = Err (Shape name)
judged_model name (Some s) = fields_after name s.params [] s.parameters >>= (λ fields. Ok (with_fields name s fields))

-- a model of a name, which isn't `inline`
unfoldable pub named_model : List ℕ → Data → Result NamedModel CatRefused
named_model name d = if is_name name && not (bytes_eq name (codes "inline")) then judged_model name (model_of d) else Err (Shape name)

-- the models of a document, in the order in which it lists its members
abbrev pub models_after : List NamedModel → Members → Result (List NamedModel) CatRefused
models_after earlier no_members = Ok earlier
models_after earlier (member name d ms) = named_model name d >>= (λ m. models_after (earlier ++ m ∷ []) ms)

abbrev pub models_of : Members → Result (List NamedModel) CatRefused
models_of ms = models_after [] ms

-- ---- the whole

abbrev pub document_of : List ℕ → Option Members
document_of octets = if is_utf8 octets then parse_document octets else None

abbrev pub read_document : Option Members → Result (List NamedModel) CatRefused
read_document None = Err Toml
read_document (Some ms) = models_of ms

-- the models that octets state, or the first refusal
unfoldable pub catalogue_of : List ℕ → Result (List NamedModel) CatRefused
catalogue_of octets = if nat_lt 4194304 (length octets) then Err Long else read_document (document_of octets)
