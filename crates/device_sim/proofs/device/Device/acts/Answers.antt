use Rattle.std.proofs.Common.{◌≡◌, ℕ, true, sym, ap, subst, ◌∙◌}
use Rattle.knx_model.specs.Acts.{is_written, answerer}
use Rattle.knx_model.specs.Loading.{octets_of}
use Rattle.knx_model.specs.Device.{all_loaded, segments}
use Rattle.knx_model.specs.DeviceState.{DeviceState}
use Rattle.device_tables.specs.Objects.{holds}
use Rattle.device_sim.proofs.device.Device.acts.Goals as goal

pub returns-clause-written : goal.returns-clause-written
returns-clause-written c =
    let running : all_loaded c.self.inside.kept ≡ true = ap (λ (d : DeviceState). all_loaded d.kept) c.self.view_is ∙ c.requires in
    let objs : octets_of c.self.inside.kept.group_objects ≡ c.octets-objs.result.now = sym c.octets-objs.ensures in
    subst (λ (d : DeviceState). (o : ℕ) → holds c.acts.result.written o ≡ is_written (segments d.kept) c.args.group.raw c.args.service.now o) c.self.view_is (c.acts.ensures.written (segments c.self.inside.kept) (c.self.invariant.1.running running) objs)

pub returns-clause-answers : goal.returns-clause-answers
returns-clause-answers c =
    let running : all_loaded c.self.inside.kept ≡ true = ap (λ (d : DeviceState). all_loaded d.kept) c.self.view_is ∙ c.requires in
    let objs : octets_of c.self.inside.kept.group_objects ≡ c.octets-objs.result.now = sym c.octets-objs.ensures in
    c.acts.ensures.answers (segments c.self.inside.kept) (c.self.invariant.1.running running) objs
    ∙ ap (λ (d : DeviceState). answerer (segments d.kept) c.args.group.raw c.args.service.now) c.self.view_is
