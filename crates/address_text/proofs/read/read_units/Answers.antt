use Rattle.std.proofs.Common.{◌≡◌, inl, inr, Err, sym, ap, ◌∙◌}
use Rattle.knx_model.specs.declared.refusal.Refused.{Refused}
use Rattle.knx_model.specs.declared.refusal.Why.{Why}
use Rattle.knx_model.specs.declared.refusal.Why.TheVariants.{NoMemory, TooMany}
use Rattle.address_text.proofs.Reading.{begins, one_more, refused, too_many, whole}
use Rattle.address_text.proofs.read.read_units.Goals as goal

pub loop-text-init : goal.loop-text-init
loop-text-init c = begins c.args.octets.now _ _ c.in_ok-fits.ensures.fits c.new.ensures c.new-2.ensures

pub returns-in-Err-clause-read : goal.returns-in-Err-clause-read
returns-in-Err-clause-read c = λ other.
    let known : ¬ (c.in-Err.why ≡ NoMemory tt) = λ q. other (c.refused_at.ensures.why ∙ q) in
    refused c.args.octets.now c.loop-text.rest.now c.in-Some.text.now c.in-Some.after.now _ _ _ c.in-Err.why c.loop-text.invariant c.in-Some.ensures.first c.in-Err.ensures ∙ ap (λ (x : Refused). Err x) (sym (c.refused_at.ensures.line known))

pub returns-in-Err-add-clause-read : goal.returns-in-Err-add-clause-read
returns-in-Err-add-clause-read c = λ other. elim c.in-Err-add.ensures.cause [
  | inl memory ↦ absurd (other (c.refused_at-in-Err-add.ensures.why ∙ memory))
  | inr many ↦
      let known : ¬ (c.in-Err-add.why ≡ NoMemory tt) = λ q. other (c.refused_at-in-Err-add.ensures.why ∙ q) in
      too_many c.args.octets.now c.loop-text.rest.now c.in-Some.text.now c.in-Some.after.now _ _ _ c.in-Ok.said c.loop-text.invariant c.in-Some.ensures.first c.in-Ok.ensures many.1 many.2
      ∙ ap (λ (w : Why). Err (record { line = c.loop-text.number; why = w })) (sym many.0) ∙ ap (λ (x : Refused). Err x) (sym (c.refused_at-in-Err-add.ensures.line known))
]

pub loop-text-preserved : goal.loop-text-preserved
loop-text-preserved c = one_more c.args.octets.now c.loop-text.rest.now c.in-Some.text.now c.in-Some.after.now _ _ _ _ _ c.in-Ok.said c.loop-text.invariant c.in-Some.ensures.first c.in-Some.ensures.less c.in-Ok.ensures
    c.in_default-add.ensures.units c.in_default-add.ensures.losses c.in_default-add.ensures.room

pub returns-clause-read : goal.returns-clause-read
returns-clause-read c = whole c.args.octets.now c.loop-text.rest.now _ _ _ c.loop-text.invariant c.in_default.ensures.first
