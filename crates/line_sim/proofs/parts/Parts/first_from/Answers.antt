use Rattle.std.proofs.Common.{◌≡◌, ◌≤◌, ◌<◌, ◌+◌, ◌*◌, ℕ, List, slice_index, subst, arith}
use Rattle.std.specs.Int.{bit_at}
use Rattle.line_sim.proofs.Bits.{NoneFrom, none_up_to}
use Rattle.line_sim.proofs.parts.Parts.first_from.Goals as goal

pub returns-in-Some-clause-none_between : goal.returns-in-Some-clause-none_between
returns-in-Some-clause-none_between c =
    let none : List ℕ → Type 0 = λ words. (i : ℕ) → c.start_in.result ≤ i → i < c.in-Some.bit → bit_at (slice_index words c.loop-word.word) i ≡ 0 in
    none_up_to c.args.self.now c.args.from c.loop-word.word c.start_in.result c.in-Some.bit (omega (arith, c.in-Some.ensures.within.1)) c.start_in.ensures.before (subst none c.self.view_is c.in-Some.ensures.none_between)
    c.loop-word.invariant

pub loop-word-preserved : goal.loop-word-preserved
loop-word-preserved c =
    let next : c.loop-word.word * 64 + 64 ≡ (c.loop-word.word + 1) * 64 = omega arith in
    let none : List ℕ → Type 0 = λ words. (i : ℕ) → c.start_in.result ≤ i → i < 64 → bit_at (slice_index words c.loop-word.word) i ≡ 0 in
    subst (λ (end : ℕ). NoneFrom c.args.self.now c.args.from end) next
    (none_up_to c.args.self.now c.args.from c.loop-word.word c.start_in.result 64 (omega arith) c.start_in.ensures.before (subst none c.self.view_is c.in_default.ensures.none) c.loop-word.invariant)
