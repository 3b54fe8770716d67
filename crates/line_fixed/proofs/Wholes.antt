-- Stretches that are added to, and the record that they stand for.
use Rattle.std.proofs.Common.{◌≡◌, ◌<◌, ℕ, suc, zero, ◌+◌, List, [], ◌∷◌, ◌++◌, length, take, add-one, append_assoc, refl, ap, sym, ◌∙◌, slice_set, slice_index_or, slice_get, arith, length-append}
use Rattle.std.proofs.lemmas.List.{append-nil, length-replicate}
use Rattle.std.specs.Prelude.{replicate, Some}
use Rattle.line_model.specs.LinkStory.{newest_time}
use Rattle.line_model.specs.Record.{Entry}
use Rattle.line_fixed.specs.declared.item.Stretch.{Stretch}
use Rattle.line_fixed.specs.Entries.{whole, entry_of}

-- the entries of one stretch
abbrev pub entries_of : Stretch → List Entry
entries_of stretch = entry_of stretch ∷ replicate stretch.more (entry_of stretch)

-- what stands behind is newer
pub whole_newest : (older : List Stretch) (newest : Stretch) → whole (older ++ newest ∷ []) ≡ entries_of newest ++ whole older
whole_newest [] newest = sym (append-nil (entries_of newest))
whole_newest (stretch ∷ older) newest = ap (λ entries. entries ++ entries_of stretch) (whole_newest older newest) ∙ append_assoc (entries_of newest) (whole older) (entries_of stretch)

-- the last of some stretches, and another in its place
pub record Last (stretches : List Stretch) (last : Stretch) (at : ℕ) : Type 0 where
  pub got : slice_get stretches at ≡ Some last
  pub is : stretches ≡ take at stretches ++ last ∷ []
  pub other : (new : Stretch) → slice_set stretches at new ≡ take at stretches ++ new ∷ []

pub last_of : (stretches : List Stretch) (last : Stretch) (at : ℕ) → suc at ≡ length stretches → last ≡ slice_index_or stretches at last → Last stretches last at
last_of [] last at e h = absurd (omega (arith, e))
last_of (stretch ∷ []) last zero e h = record { got = ap Some (sym h); is = ap (λ s. s ∷ []) (sym h); other = λ new. refl }
last_of (stretch ∷ []) last (suc at) e h = absurd (omega (arith, e))
last_of (stretch ∷ next ∷ stretches) last zero e h = absurd (omega (arith, e))
last_of (stretch ∷ next ∷ stretches) last (suc at) e h =
    let rest : Last (next ∷ stretches) last at = last_of (next ∷ stretches) last at (omega (arith, e)) h in
    record { got = rest.got; is = ap (λ s. stretch ∷ s) rest.is; other = λ new. ap (λ s. stretch ∷ s) (rest.other new) }

-- what the last stretch says of the whole
pub whole_last : (stretches : List Stretch) (last : Stretch) (at : ℕ) → Last stretches last at → whole stretches ≡ entries_of last ++ whole (take at stretches)
whole_last stretches last at l = ap whole l.is ∙ whole_newest (take at stretches) last

pub newest_time_is : (stretches : List Stretch) (last : Stretch) (at : ℕ) → Last stretches last at → last.now ≡ newest_time (whole stretches)
newest_time_is stretches last at l = sym (ap newest_time (whole_last stretches last at l))

-- it has no more entries than all
pub more_fits : (stretches : List Stretch) (last : Stretch) (at : ℕ) → Last stretches last at → last.more < length (whole stretches)
more_fits stretches last at l =
    let whole_is : length (whole stretches) ≡ length (entries_of last ++ whole (take at stretches)) = ap length (whole_last stretches last at l) in
    omega (arith, whole_is, length-append (entries_of last) (whole (take at stretches)), length-replicate last.more (entry_of last))

-- one more of the last stretch is a new entry
pub lengthened : (stretches : List Stretch) (last : Stretch) (at : ℕ) → Last stretches last at → whole (slice_set stretches at (record last { more = last.more + 1 })) ≡ entry_of last ∷ whole stretches
lengthened stretches last at l =
    let new : Stretch = record last { more = last.more + 1 } in
    ap whole (l.other new) ∙ whole_newest (take at stretches) new ∙ ap (λ n. entry_of last ∷ (replicate n (entry_of last) ++ whole (take at stretches))) (add-one last.more) ∙ ap (λ entries. entry_of last ∷ entries) (sym (whole_last stretches last at l))
