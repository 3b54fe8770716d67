use Rattle.std.proofs.Common.{◌≤◌, List, length, inr, arith, sym, subst}
use Rattle.line_model.specs.declared.group.Indication.{Indication}
use Rattle.shared_hub.proofs.heard.Heard.keep_next.Goals as goal

pub returns-in_default-clause-stops : goal.returns-in_default-clause-stops
returns-in_default-clause-stops g c = λ none. inr
    (let len = c.self.inside.items.ok.0 in
    let full = c.in_default.ensures.full in
    let room = c.self.invariant in
    subst (λ (l : List Indication). 4096 ≤ length l) (sym c.reserve.ensures.items) (omega (arith, len, full, room)))
