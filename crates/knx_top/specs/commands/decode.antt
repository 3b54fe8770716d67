-- `decode HEX`: the frame of the octets that a word of hexadecimal digits writes.
use Rattle.std.specs.Prelude.{ℕ, Err, List, None, Ok, Option, Result, Some, ◌∷◌, []}
use Rattle.call_parts.specs.declared.ending.End.{End}
use Rattle.frame_text.specs.FrameText.{IsFrameText, hex_word}
use Rattle.call_words.specs.declared.stop.Stop.{Stop}
use Rattle.call_parts.specs.Ending.{TellsOf}
use Rattle.call_words.specs.declared.stop.Stop.TheVariants as stop

abbrev pub decode_word : List (List ℕ) → Option (List ℕ)
decode_word (word ∷ []) = Some word
decode_word _ = None

-- `decode`: the octets of a word of hexadecimal digits; another word is usage
abbrev pub octets_or_usage : Option (List ℕ) → Result (List ℕ) Stop
octets_or_usage None = Err stop.Usage
octets_or_usage (Some octets) = Ok octets

-- ---- a call, where `Replied` says what was written

-- `decode HEX`
pub record TellsOfFrame (word : List ℕ) (Replied : End → Type 0) : Type 0 where
  pub end : End
  pub tells : TellsOf IsFrameText (octets_or_usage (hex_word word)) end
  pub replied : Replied end
