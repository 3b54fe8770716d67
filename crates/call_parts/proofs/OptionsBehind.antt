-- The name in `catalogue=F`.
use Rattle.std.proofs.Common.{ℕ, ◌≡◌, true, false, cond, eqb, List, drop, length, Option, Some, None, refl, ap, ◌∙◌}
use Rattle.std.specs.Prelude.{MatchOption}
use Rattle.std.specs.Borrow.{Bor}
use Rattle.std.specs.List.{starts_with}
use Rattle.std.specs.Option.{option_map}
use Rattle.std.specs.Str.Pattern.{FindsTextPrefix, StripsPrefix}
use Rattle.std.proofs.lemmas.Str.Pattern.{starts_text}
use Rattle.call_parts.specs.Names.{the_word}

-- what is left of a word behind a text that it begins with
pub stripped : (text word : List ℕ) (rest : Option (Bor (List ℕ))) → MatchOption rest (FindsTextPrefix text word None) (λ x. StripsPrefix (FindsTextPrefix text) word x.now)
    → option_map the_word rest ≡ cond (starts_with eqb word text) (Some (drop (length text) word)) None
stripped text word None none = rw (← starts_text false text word none) refl
stripped text word (Some rest) h =
    rw (← starts_text true text word (h.0, h.1, rw h.1.0 h.1.2)) (ap (λ (l : List ℕ). Some l) (h.2 ∙ ap (λ (k : ℕ). drop k word) h.1.0))
