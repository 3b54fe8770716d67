use Rattle.std.proofs.Common.{ℕ, ◌+◌, List, length, ap, ◌∙◌}
use Rattle.knx_model.specs.declared.address.GroupAddr.{GroupAddr}
use Rattle.project_check.specs.Knowing.{capped}
use Rattle.project_check.proofs.Tables.{holds_new}
use Rattle.project_check.proofs.earlier.count_links.Goals as goal

pub returns-in-Link-clause-counted : goal.returns-in-Link-clause-counted
returns-in-Link-clause-counted c = λ f held.
    let d = c.in-Link.device.raw in
    rw c.in-Link.is (holds_new c.args.links.now c.set.new.self f (λ (n : ℕ). capped (n + length c.in-Link.groups)) d c.more_links-count.result c.set.ensures
    (c.more_links-count.ensures ∙ ap (λ (n : ℕ). capped (n + length c.as_slice.result.now)) (held d c.get.result c.get.ensures) ∙ ap (λ (gs : List GroupAddr). capped (f d + length gs)) c.as_slice.ensures) held)
