-- Lines and words: the lines of a text are std's `lines` (cut at each line feed, a carriage return before it left out, a last line
-- counts where it isn't empty), and the words of a line stand between spaces and tabs. They are the same in all texts of this project.
use Rattle.std.specs.Prelude.{ℕ, Bool, List, length, ◌==◌, ◌&&◌, ◌||◌, nat_lt, nat_le, filter, not}
use Rattle.std.specs.List.{list_all, slice_split, before_first}
use Rattle.std.specs.Str.{is_utf8}

abbrev pub is_feed : ℕ → Bool
is_feed b = b == 10

-- a space or a tab
abbrev pub is_blank : ℕ → Bool
is_blank b = (b == 32) || (b == 9)

abbrev pub is_not_blank : ℕ → Bool
is_not_blank b = not (is_blank b)

-- what stands between spaces and tabs, where it isn't empty
unfoldable pub words : List ℕ → List (List ℕ)
words line = filter (λ w. nat_lt 0 (length w)) (slice_split is_blank line)

-- an octet of a text: none below 20 (hexadecimal) but tab, and not 7F
abbrev pub is_text_octet : ℕ → Bool
is_text_octet b = (nat_le 32 b && not (b == 127)) || (b == 9)

-- an octet of a text that is plain: printable ASCII, a tab or a line feed
abbrev pub is_plain_octet : ℕ → Bool
is_plain_octet b = (nat_le 32 b && nat_lt b 127) || (b == 9) || (b == 10)

abbrev pub is_text : List ℕ → Bool
is_text line = is_utf8 line && list_all is_text_octet line

-- from the first # on a line is comment
abbrev pub without_comment : List ℕ → List ℕ
without_comment line = before_first (λ b. b == 35) line
