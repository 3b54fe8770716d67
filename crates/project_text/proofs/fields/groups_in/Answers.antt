use Rattle.std.proofs.Common.{◌≡◌, ◌<◌, ◌≤◌, Some, None, Err, sym, ap, ◌∙◌, subst, length, arith, rules}
use Rattle.std.specs.Option.{ok_or}
use Rattle.std.proofs.lemmas.Bool.{and_from, lt-ltb}
use Rattle.knx_model.specs.Words.{words}
use Rattle.knx_model.specs.Addresses.{group_by}
use Rattle.knx_model.specs.Statements.{some_groups, is_group, most_groups}
use Rattle.knx_model.specs.declared.refusal.Why.{Why}
use Rattle.knx_model.specs.declared.refusal.Why.TheVariants.{BadAddress}
use Rattle.project_text.proofs.LinkGroups.{GroupsTo, first_refused, starts, group_more, bad_group, extra_group, all_groups}
use Rattle.project_text.proofs.fields.groups_in.Goals as goal

pub returns-in_err-first-clause-read : goal.returns-in_err-first-clause-read
returns-in_err-first-clause-read c =
    let e : some_groups c.args.version (words c.args.all.now) ≡ Err c.in_err-first.field-0.0 = first_refused c.args.version (words c.args.all.now) _ c.in_err-first.ensures.read in
    search (rules, e)

pub loop-word-init : goal.loop-word-init
loop-word-init c =
    let g = c.in_ok-first.first in
    let small : g.raw < 65536 = search rules in
    rw c.one-groups.ensures (starts c.args.version (words c.args.all.now) (words c.in_ok-first.rest.now) g c.in_ok-first.ensures.read (and_from _ _ (lt-ltb 0 g.raw c.in_ok-first.ensures.fits) (lt-ltb g.raw 65536 small)))

pub returns-then-as_slice-most_groups-clause-read : goal.returns-then-as_slice-most_groups-clause-read
returns-then-as_slice-most_groups-clause-read c = λ other.
    extra_group c.args.version (words c.args.all.now) (words c.in-Some.after.now) (words c.loop-word.rest.now) c.loop-word.groups c.in-Some.word.now c.loop-word.invariant c.in-Some.ensures
    (omega (arith, c.most_groups.ensures, ap length c.as_slice.ensures, c.if-as_slice-most_groups.true))

pub returns-in_err-group-clause-read : goal.returns-in_err-group-clause-read
returns-in_err-group-clause-read c =
    let less : length c.loop-word.groups < most_groups c.args.version = omega (arith, c.most_groups.ensures, ap length c.as_slice.ensures, c.if-as_slice-most_groups.false) in
    let bad : some_groups c.args.version (words c.args.all.now) ≡ Err BadAddress =
    bad_group c.args.version (words c.args.all.now) (words c.in-Some.after.now) (words c.loop-word.rest.now) c.loop-word.groups c.in-Some.word.now c.loop-word.invariant c.in-Some.ensures less (sym c.group_by.ensures.value ∙ c.in_err-group.ensures.ok_part) in
    let told = c.in_err-group.ensures.value ∙ ap (λ o. ok_or o BadAddress) c.in_err-group.ensures.ok_part in
    let same : c.in_err-group.field-0.0 ≡ BadAddress = cc in
    let e : some_groups c.args.version (words c.args.all.now) ≡ Err c.in_err-group.field-0.0 = bad ∙ ap (λ (why : Why). Err why) (sym same) in
    search (rules, e)

pub loop-word-preserved : goal.loop-word-preserved
loop-word-preserved c =
    let g = c.in_ok-group.group in
    let small : g.raw < 65536 = search rules in
    let less : length c.loop-word.groups < most_groups c.args.version = omega (arith, c.most_groups.ensures, ap length c.as_slice.ensures, c.if-as_slice-most_groups.false) in
    let is : group_by c.args.version c.in-Some.word.now ≡ Some g = sym c.group_by.ensures.value ∙ c.in_ok-group.ensures.ok_part in
    let some : 0 < g.raw = search rules in
    rw c.in_ok-push.ensures.ok (group_more c.args.version (words c.args.all.now) (words c.in-Some.after.now) (words c.loop-word.rest.now) c.loop-word.groups c.in-Some.word.now g c.loop-word.invariant c.in-Some.ensures less is (and_from _ _ (lt-ltb 0 g.raw some) (lt-ltb g.raw 65536 small)))

pub returns-clause-read : goal.returns-clause-read
returns-clause-read c = all_groups c.args.version _ _ _ c.loop-word.invariant c.in_default.ensures
