-- Lines that are appended one after another are numbered on.
use Rattle.std.proofs.Common.{◌≡◌, ℕ, ◌+◌, ◌<◌, List, [], ◌∷◌, ◌++◌, length, map, take, get_or, refl, sym, ap, ◌∙◌, arith, append_assoc, length-append}
use Rattle.std.proofs.lemmas.List.{append-nil, take_more, map-append}
use Rattle.std.proofs.lemmas.List.Concat.{flat_map-append}
use Rattle.std.specs.List.{flat_map}
use Rattle.knx_model.specs.declared.project.Statement.{Statement}
use Rattle.knx_model.specs.declared.project.What.{What}
use Rattle.knx_model.specs.Statements.{statement}
use Rattle.project_text.specs.Migrated.{numbered_from, numbered_after}

pub length_numbered : (n : ℕ) (ws : List What) → length (numbered_from n ws) ≡ length ws
length_numbered n [] = refl
length_numbered n (w ∷ ws) = omega (arith, length_numbered (n + 1) ws)

pub numbered_append : (n : ℕ) (ws vs : List What) → numbered_from n (ws ++ vs) ≡ numbered_from n ws ++ numbered_from (n + length ws) vs
numbered_append n [] vs = ap (λ (k : ℕ). numbered_from k vs) (omega arith)
numbered_append n (w ∷ ws) vs = ap (λ (t : List Statement). statement n w ∷ t) (numbered_append (n + 1) ws vs ∙ ap (λ (k : ℕ). numbered_from (n + 1) ws ++ numbered_from k vs) (omega arith))

pub after_nothing : (before : List Statement) → numbered_after before [] ≡ before
after_nothing before = append-nil before

-- these and those behind them
pub after_both : (before : List Statement) (ws vs : List What) → numbered_after (numbered_after before ws) vs ≡ numbered_after before (ws ++ vs)
after_both before ws vs =
    let count : length (before ++ numbered_from (length before + 1) ws) + 1 ≡ length before + 1 + length ws = omega (arith, length-append before (numbered_from (length before + 1) ws), length_numbered (length before + 1) ws) in
    ap (λ (k : ℕ). (before ++ numbered_from (length before + 1) ws) ++ numbered_from k vs) count
    ∙ append_assoc before (numbered_from (length before + 1) ws) (numbered_from (length before + 1 + length ws) vs)
    ∙ ap (λ (t : List Statement). before ++ t) (sym (numbered_append (length before + 1) ws vs))

pub after_first : (ws : List What) → numbered_after [] ws ≡ numbered_from 1 ws
after_first ws = refl

-- a loop's step: what item i becomes, behind what those before it become
pub step : {X : Type 0} (f : X → List What) (xs : List X) (i : ℕ) (x : X) (start old new : List Statement) → i < length xs → x ≡ get_or xs i x → old ≡ numbered_after start (flat_map f (take i xs)) → new ≡ numbered_after old (f x)
    → new ≡ numbered_after start (flat_map f (take (i + 1) xs))
step {X = X} f xs i x start old new lt is before now =
    now ∙ ap (λ (t : List Statement). numbered_after t (f x)) before ∙ after_both start (flat_map f (take i xs)) (f x)
    ∙ ap (numbered_after start) (sym (ap (flat_map f) (take_more xs i x lt ∙ ap (λ (y : X). take i xs ++ y ∷ []) (sym is)) ∙ flat_map-append f (take i xs) (x ∷ []) ∙ ap (λ (t : List What). flat_map f (take i xs) ++ t) (append-nil (f x))))

-- the same where each item becomes one
pub map_step : {X : Type 0} (f : X → What) (xs : List X) (i : ℕ) (d : X) (start old new : List Statement) → i < length xs → old ≡ numbered_after start (map f (take i xs)) → new ≡ numbered_after old (f (get_or xs i d) ∷ [])
    → new ≡ numbered_after start (map f (take (i + 1) xs))
map_step f xs i d start old new lt before now =
    now ∙ ap (λ (t : List Statement). numbered_after t (f (get_or xs i d) ∷ [])) before ∙ after_both start (map f (take i xs)) (f (get_or xs i d) ∷ [])
    ∙ ap (numbered_after start) (sym (ap (map f) (take_more xs i d lt) ∙ map-append f (take i xs) (get_or xs i d ∷ [])))

-- what is left of a map's entries, one entry on
pub sends_step : {X : Type 0} (f : X → What) (old new start : List Statement) (x : X) (rest left all : List X) → left ≡ x ∷ rest → numbered_after old (map f left) ≡ numbered_after start (map f all) → new ≡ numbered_after old (f x ∷ [])
    → numbered_after new (map f rest) ≡ numbered_after start (map f all)
sends_step {X = X} f old new start x rest left all is before now =
    ap (λ (t : List Statement). numbered_after t (map f rest)) now ∙ after_both old (f x ∷ []) (map f rest) ∙ ap (λ (t : List X). numbered_after old (map f t)) (sym is) ∙ before
