-- The numbers and words of refusals.
use Rattle.std.specs.Prelude.{ℕ, codes, List, Option, Some, None}
use Rattle.knx_model.specs.declared.catalogue.refused.CatRefused.{CatRefused}
use Rattle.knx_model.specs.declared.catalogue.refused.CatRefused.TheVariants as cat
use Rattle.knx_model.specs.declared.refusal.Why.{Why}
use Rattle.knx_model.specs.declared.refusal.Why.TheVariants as why

-- its number, from 1; want of memory has none
abbrev pub why_number : Why → Option ℕ
why_number (why.NoMemory want) = None
why_number why.NotText = Some 1
why_number why.LongLine = Some 2
why_number why.UnknownWord = Some 3
why_number why.BadAddress = Some 4
why_number why.BadNumber = Some 5
why_number why.BadName = Some 6
why_number why.MissingWord = Some 7
why_number why.ExtraWord = Some 8
why_number why.DuplicateDevice = Some 9
why_number why.DuplicateGroup = Some 10
why_number why.UnknownGroup = Some 11
why_number why.UnknownModel = Some 12
why_number why.DuplicateObject = Some 13
why_number why.UnknownObject = Some 14
why_number why.DuplicateLink = Some 15
why_number why.UnknownParameter = Some 16
why_number why.OutOfRange = Some 17
why_number why.SizeDiffers = Some 18
why_number (why.TooMany limit) = Some 19
why_number why.NoDevice = Some 20
why_number why.NotLinked = Some 22
why_number why.BadVersion = Some 23

-- its word, as it is printed
abbrev pub why_word : Why → List ℕ
why_word (why.NoMemory want) = codes "NoMemory"
why_word why.NotText = codes "NotText"
why_word why.LongLine = codes "LongLine"
why_word why.UnknownWord = codes "UnknownWord"
why_word why.BadAddress = codes "BadAddress"
why_word why.BadNumber = codes "BadNumber"
why_word why.BadName = codes "BadName"
why_word why.MissingWord = codes "MissingWord"
why_word why.ExtraWord = codes "ExtraWord"
why_word why.DuplicateDevice = codes "DuplicateDevice"
why_word why.DuplicateGroup = codes "DuplicateGroup"
why_word why.UnknownGroup = codes "UnknownGroup"
why_word why.UnknownModel = codes "UnknownModel"
why_word why.DuplicateObject = codes "DuplicateObject"
why_word why.UnknownObject = codes "UnknownObject"
why_word why.DuplicateLink = codes "DuplicateLink"
why_word why.UnknownParameter = codes "UnknownParameter"
why_word why.OutOfRange = codes "OutOfRange"
why_word why.SizeDiffers = codes "SizeDiffers"
why_word (why.TooMany limit) = codes "TooMany"
why_word why.NoDevice = codes "NoDevice"
why_word why.NotLinked = codes "NotLinked"
why_word why.BadVersion = codes "BadVersion"

-- the same of a catalogue's refusal
abbrev pub catalogue_number : CatRefused → Option ℕ
catalogue_number (cat.NoMemory want) = None
catalogue_number cat.Toml = Some 1
catalogue_number (cat.Shape model) = Some 2
catalogue_number (cat.Overlap model parameter) = Some 3
catalogue_number (cat.Range model parameter) = Some 4
catalogue_number cat.Long = Some 5

abbrev pub catalogue_word : CatRefused → List ℕ
catalogue_word (cat.NoMemory want) = codes "NoMemory"
catalogue_word cat.Toml = codes "Toml"
catalogue_word (cat.Shape model) = codes "Shape"
catalogue_word (cat.Overlap model parameter) = codes "Overlap"
catalogue_word (cat.Range model parameter) = codes "Range"
catalogue_word cat.Long = codes "Long"
