use Rattle.std.proofs.Common.{ℕ, Some, None, arith, eqb, cond, sym, ap, ◌∙◌, nat_cmp}
use Rattle.std.specs.Option.{option_or}
use Rattle.std.specs.BTreeMap.{get}
use Rattle.std.proofs.lemmas.Result.{on_ok_weaker}
use Rattle.project_text.proofs.SendsKept.{first_said, kept_none}
use Rattle.project_text.proofs.migration.add_link.Goals as goal

pub returns-in-Some : goal.returns-in-Some
returns-in-Some c = on_ok_weaker c.keep_first.result (λ kept k.
    kept k ∙ ap (λ (place : ℕ). option_or (get nat_cmp c.args.first.now k) (cond (eqb place k) (Some c.in-Some.group.now) None)) c.place.ensures
    ∙ ap (option_or (get nat_cmp c.args.first.now k)) (sym (first_said c.args.device c.args.object k c.args.groups.now (Some c.in-Some.group.now) (omega arith) c.in-Some.ensures.value)))
    c.keep_first.ensures

pub returns-in-None : goal.returns-in-None
returns-in-None c = λ k. kept_none (get nat_cmp c.args.first.now k) c.args.device c.args.object k c.args.groups.now (omega arith) c.in-None.ensures.value
