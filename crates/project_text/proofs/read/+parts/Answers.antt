use Rattle.std.proofs.Common.{◌+◌, ap, sym}
use Rattle.project_text.proofs.Steps.{parts_read}
use Rattle.project_text.proofs.read.+parts.Goals as goal

pub returns : goal.returns
returns g t c =
    parts_read c.args.grammar c.args.first c.args.octets.now c.in-Some.front.now _ c.in-Some.back.now _ _ _
    (record { whole = c.in-Some.ensures.lines; next = ap (λ n. c.args.first + n) (sym c.in-Some.ensures.feeds) })
    c.join-said.ensures.first c.join-said.ensures.second c.joined.ensures
