use Rattle.std.proofs.Common.{◌≡◌, true, false, Option, sym, subst, ◌∙◌, arith}
use Rattle.line_model.specs.declared.fault.HubFault.{HubFault}
use Rattle.hub_core.specs.Taking.{MeetsSo}
use Rattle.hub_core.proofs.hub.taking.ending.Goals as goal
use Rattle.hub_core.proofs.hub.taking.ending.Goals.{else-is_unfinished-via-then-is_unfinished+else-taken-ge-FLOOD, else-is_unfinished-via-else-is_unfinished}

pub returns-then-taken-ge-FLOOD : goal.returns-then-taken-ge-FLOOD
returns-then-taken-ge-FLOOD c = (
  subst (λ (o : Option HubFault). MeetsSo c.args.work.now c.args.met.now c.wrong_line.new.met c.args.what.now o) c.in_default.is c.wrong_line.ensures,
  omega (arith, c.if-taken-ge-FLOOD.true),
  λ jobs at books of. (c.is_unfinished.ensures jobs at books of).0 c.if-is_unfinished.true,
)

pub returns : goal.returns
returns c = (
  subst (λ (o : Option HubFault). MeetsSo c.args.work.now c.args.met.now c.wrong_line.new.met c.args.what.now o) c.in_default.is c.wrong_line.ensures,
  λ jobs at books of u. elim c.else-is_unfinished.branch [
    | else-is_unfinished-via-then-is_unfinished+else-taken-ge-FLOOD w ↦ omega (arith, w.if-taken-ge-FLOOD.false)
    | else-is_unfinished-via-else-is_unfinished w ↦ absurd (let t : c.is_unfinished.result ≡ true = (c.is_unfinished.ensures jobs at books of).1 u in let z : true ≡ false = sym t ∙ w.if-is_unfinished.false in cc)
  ],
)
