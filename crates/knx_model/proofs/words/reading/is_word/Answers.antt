use Rattle.std.proofs.Common.{◌≡◌, ◌∙◌, ℕ, List, length, take, sym, arith}
use Rattle.std.proofs.Math.Seq.{take-length}
use Rattle.std.proofs.lemmas.Slice.Eq.{bytes_eq-Decides}
use Rattle.knx_model.proofs.words.reading.is_word.Goals as goal

all_taken : (xs ys : List ℕ) (n : ℕ) → n ≡ length xs → n ≡ length ys → take n xs ≡ take n ys → xs ≡ ys
all_taken xs ys n ex ey e =
    let front : take (length xs) xs ≡ take (length ys) ys = rw (← ex, ← ey) e in
    sym (take-length xs) ∙ front ∙ take-length ys

-- all octets are the same
pub returns : goal.returns
returns c =
    let equal = all_taken c.args.word.now c.args.keyword.now c.loop-i.i (omega (arith, c.loop-i-test.false, c.loop-i.auto.i-end)) (omega (arith, c.loop-i-test.false, c.loop-i.auto.i-end, c.if-word-keyword.false)) c.loop-i.invariant in
    sym ((bytes_eq-Decides c.args.word.now c.args.keyword.now).1 equal)
