-- Groups behind words, joined by spaces.
use Rattle.std.proofs.Common.{◌≡◌, ℕ, codes, List, [], ◌∷◌, ◌++◌, map, sym, ap, ◌∙◌, append_assoc}
use Rattle.std.specs.List.{join_with_byte, flat_map}
use Rattle.std.proofs.lemmas.List.{append-nil}
use Rattle.std.proofs.lemmas.List.Concat.{flat_map-cons}
use Rattle.knx_model.specs.declared.address.GroupAddr.{GroupAddr}
use Rattle.knx_model.specs.Addresses.{group_text}

pub joined_groups : (w : List ℕ) (groups : List GroupAddr) → join_with_byte 32 (w ∷ map group_text groups) ≡ w ++ flat_map (λ g. 32 ∷ group_text g) groups
joined_groups w [] = sym (append-nil w)
joined_groups w (g ∷ groups) = ap (λ (l : List ℕ). w ++ 32 ∷ l) (joined_groups (group_text g) groups) ∙ ap (λ (l : List ℕ). w ++ l) (sym (flat_map-cons (λ (g : GroupAddr). 32 ∷ group_text g) g groups))

-- the words of a `link` line, appended one after another
pub link_words : (before device number groups joined one two three all : List ℕ) → one ≡ before ++ codes "link" → two ≡ one ++ 32 ∷ device → three ≡ two ++ 32 ∷ number → all ≡ three ++ groups → joined ≡ number ++ groups
    → all ≡ before ++ (codes "link" ++ 32 ∷ (device ++ 32 ∷ joined))
link_words before device number groups joined one two three all e1 e2 e3 e4 j =
    e4 ∙ ap (λ (l : List ℕ). l ++ groups) (e3 ∙ ap (λ (l : List ℕ). l ++ 32 ∷ number) (e2 ∙ ap (λ (l : List ℕ). l ++ 32 ∷ device) e1))
    ∙ append_assoc ((before ++ codes "link") ++ 32 ∷ device) (32 ∷ number) groups
    ∙ append_assoc (before ++ codes "link") (32 ∷ device) (32 ∷ (number ++ groups))
    ∙ append_assoc before (codes "link") (32 ∷ (device ++ 32 ∷ (number ++ groups)))
    ∙ ap (λ (l : List ℕ). before ++ (codes "link" ++ 32 ∷ (device ++ 32 ∷ l))) (sym j)
