-- Four lists, one appended after another, and the first eight of a list.
use Rattle.std.proofs.Common.{◌≡◌, ℕ, List, [], ◌∷◌, ◌++◌, length, get_or, take, drop, ◌-◌, ◌≤◌, refl, sym, ap, arith, append_assoc, ◌∙◌, Result, Ok, Err}
use Rattle.std.specs.Prelude.{OnOk}
use Rattle.std.proofs.lemmas.List.{drop_more, drop_all, take_all, length-drop, length-take, take-append-le}
use Rattle.knx_model.specs.TextLines.{hex_text}

pub four_more : {A E : Type 0} (result : Result A E) (out one two three four a b c d : List ℕ) → one ≡ out ++ a → two ≡ one ++ b → three ≡ two ++ c → OnOk result (four ≡ three ++ d) → OnOk result (four ≡ out ++ (a ++ (b ++ (c ++ d))))
four_more (Ok x) out one two three four a b c d e f g h = rw (h, g, f, e) (append_assoc ((out ++ a) ++ b) c d ∙ (append_assoc (out ++ a) b (c ++ d) ∙ append_assoc out a (b ++ (c ++ d))))
four_more (Err x) out one two three four a b c d e f g h = tt

-- the first eight, and what follows them
first_eight : (xs ys : List ℕ) → 8 ≤ length xs → drop 8 xs ≡ ys → xs ≡ get_or xs 0 0 ∷ get_or xs 1 0 ∷ get_or xs 2 0 ∷ get_or xs 3 0 ∷ get_or xs 4 0 ∷ get_or xs 5 0 ∷ get_or xs 6 0 ∷ get_or xs 7 0 ∷ ys
first_eight xs ys long e = drop_more xs 0 0 (omega arith) ∙ ap (λ (zs : List ℕ). get_or xs 0 0 ∷ zs) (drop_more xs 1 0 (omega arith) ∙ ap (λ (zs : List ℕ). get_or xs 1 0 ∷ zs) (drop_more xs 2 0 (omega arith) ∙ ap (λ (zs : List ℕ). get_or xs 2 0 ∷ zs) (drop_more xs 3 0 (omega arith) ∙ ap (λ (zs : List ℕ). get_or xs 3 0 ∷ zs) (drop_more xs 4 0 (omega arith) ∙ ap (λ (zs : List ℕ). get_or xs 4 0 ∷ zs) (drop_more xs 5 0 (omega arith) ∙ ap (λ (zs : List ℕ). get_or xs 5 0 ∷ zs) (drop_more xs 6 0 (omega arith) ∙ ap (λ (zs : List ℕ). get_or xs 6 0 ∷ zs) (drop_more xs 7 0 (omega arith) ∙ ap (λ (zs : List ℕ). get_or xs 7 0 ∷ zs) (e))))))))

pub eight : (xs : List ℕ) → length xs ≡ 8 → xs ≡ get_or xs 0 0 ∷ get_or xs 1 0 ∷ get_or xs 2 0 ∷ get_or xs 3 0 ∷ get_or xs 4 0 ∷ get_or xs 5 0 ∷ get_or xs 6 0 ∷ get_or xs 7 0 ∷ []
eight xs long = first_eight xs [] (omega arith) (drop_all 8 xs (omega arith))

-- the digits of eight octets more
pub eight_more : (out now all xs : List ℕ) → 8 ≤ length xs → now ≡ out ++ hex_text (get_or xs 0 0 ∷ get_or xs 1 0 ∷ get_or xs 2 0 ∷ get_or xs 3 0 ∷ get_or xs 4 0 ∷ get_or xs 5 0 ∷ get_or xs 6 0 ∷ get_or xs 7 0 ∷ []) → out ++ hex_text xs ≡ all → now ++ hex_text (take (length xs - 8) (drop 8 xs)) ≡ all
eight_more out now all xs long is before =
    let eights : List ℕ = get_or xs 0 0 ∷ get_or xs 1 0 ∷ get_or xs 2 0 ∷ get_or xs 3 0 ∷ get_or xs 4 0 ∷ get_or xs 5 0 ∷ get_or xs 6 0 ∷ get_or xs 7 0 ∷ [] in
    let rest : take (length xs - 8) (drop 8 xs) ≡ drop 8 xs = take_all (length xs - 8) (drop 8 xs) (omega (arith, length-drop 8 xs)) in
    rw (rest, is) (append_assoc out (hex_text eights) (hex_text (drop 8 xs))) ∙ ap (λ (ys : List ℕ). out ++ hex_text ys) (sym (first_eight xs (drop 8 xs) long refl)) ∙ before

-- what stood before stays where more is appended
pub stood_more : (old now more new : List ℕ) → take (length old) now ≡ old → new ≡ now ++ more → take (length old) new ≡ old
stood_more old now more new stood is =
    let below : length old ≤ length now = omega (arith, ap length stood, length-take {A = ℕ}) in
    rw (is, take-append-le) stood
