use Rattle.std.proofs.Common.{◌≡◌, None, refl, sym, ◌∙◌, inl, inr}
use Rattle.knx_model.specs.Rules.{rule_of}
use Rattle.std.proofs.lemmas.Slice.Eq.{bytes_eq-Decides}
use Rattle.project_check.proofs.rules.Whole.first_rule.Goals as goal

pub returns-in-Device : goal.returns-in-Device
returns-in-Device c = λ catalogue before all h named k repeats.
    let line = rw c.in-Device.is at k in
    let stands = rw c.in-Device.is at (named c.as_slice.result.now) in
    rw (c.in-Device.is, ← c.as_slice.ensures)
    ((c.device_broken.ensures c.in-Device.device catalogue before all h (stands ((bytes_eq-Decides c.in-Device.model c.as_slice.result.now).1 (sym c.as_slice.ensures))) line))

pub returns-in-Object : goal.returns-in-Object
returns-in-Object c = λ catalogue before all h named k repeats.
    rw c.in-Object.is ((c.object_broken.ensures c.in-Object.size c.in-Object.flags catalogue before all h (rw c.in-Object.is at k)))

pub returns-in-Link : goal.returns-in-Link
returns-in-Link c = λ catalogue before all h named k repeats.
    rw (c.in-Link.is, ← c.as_slice-in-Link.ensures) ((c.link_broken.ensures catalogue before all h (rw (c.in-Link.is, ← c.as_slice-in-Link.ensures) at k) (rw (c.in-Link.is, ← c.as_slice-in-Link.ensures) at repeats)))

pub returns-in-Send : goal.returns-in-Send
returns-in-Send c = λ catalogue before all h named k repeats. rw c.in-Send.is (c.send_broken.ensures catalogue before all h)

pub returns-in-Flags : goal.returns-in-Flags
returns-in-Flags c = λ catalogue before all h named k repeats. rw c.in-Flags.is ((c.flags_broken.ensures c.in-Flags.flags catalogue before all h))

pub returns-in-Param : goal.returns-in-Param
returns-in-Param c = λ catalogue before all h named k repeats.
    rw (c.in-Param.is, ← c.as_slice-in-Param.ensures) ((c.param_broken.ensures catalogue before all h))

pub returns-in-Version : goal.returns-in-Version
unfolding rule_of
returns-in-Version c = λ catalogue before all h named k repeats. elim c.in-Version.is as (λ _. None ≡ rule_of catalogue before all c.args.what.now) [ inl is ↦ rw is refl | inr title ↦ rw title.1 refl ]

pub returns-in-Group : goal.returns-in-Group
unfolding rule_of
returns-in-Group c = λ catalogue before all h named k repeats.
    let line = rw c.in-Group.is at k in
    rw c.in-Group.is (c.first_broken_rule.ensures ∙ rw line refl)
