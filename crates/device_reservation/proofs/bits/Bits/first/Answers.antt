use Rattle.std.proofs.Common.{◌≡◌, ℕ, ◌+◌, ◌*◌, ◌<◌, inl, inr, List, length, get_or, sym, ◌∙◌, ap, subst, arith}
use Rattle.std.proofs.lemmas.Bool.{cases_lt}
use Rattle.std.proofs.lemmas.List.{get_or_default}
use Rattle.std.specs.Int.{w64, trailing_zeros}
use Rattle.device_reservation.specs.Bits.{IsLeast}
use Rattle.device_reservation.proofs.Words.{least}
use Rattle.device_reservation.proofs.bits.Bits.first.Goals as goal

pub returns-clause-least : goal.returns-clause-least
returns-clause-least c =
    let empty : (k : ℕ) → k < c.next_word-at.result → get_or c.self.inside.words.items k 0 ≡ 0
    = λ k below. elim (cases_lt k c.self.inside.from) [
      | inl before ↦ c.self.invariant.empty k before
      | inr from ↦ ap (λ words. get_or words k 0) (sym c.deref.ensures.value) ∙ c.next_word-at.ensures.empty k from below
    ] in
    let whole : length c.deref.result.now ≡ length c.self.inside.words.items = ap length c.deref.ensures.value in
    let within : c.next_word-at.result < length c.self.inside.words.items = omega arith in
    let same : get_or c.deref.result.now c.next_word-at.result 0 ≡ c.index.result.now
    = ap (λ words. get_or words c.next_word-at.result 0) c.deref.ensures.value ∙ sym (c.index.ensures ∙ get_or_default c.self.inside.words.items c.next_word-at.result c.index.result.now 0 within) in
    let some : 0 < get_or c.deref.result.now c.next_word-at.result 0 = c.next_word-at.ensures.found (omega arith) in
    let found : IsLeast c.self.inside.words.items (64 * c.next_word-at.result + trailing_zeros w64 c.index.result.now)
    = least c.self.inside.words.items c.next_word-at.result c.index.result.now empty within c.index.ensures (omega arith) (omega arith) in
    let P : List ℕ → Type 0 = λ words. IsLeast words (64 * c.next_word-at.result + trailing_zeros w64 c.index.result.now) in
    subst P c.self.view_is found
