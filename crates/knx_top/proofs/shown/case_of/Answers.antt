use Rattle.std.proofs.Common.{◌≡◌, true, false, refl, sym, ◌∙◌}
use Rattle.knx_top.proofs.Cases.{case_stopped, case_new, case_old}
use Rattle.knx_top.proofs.shown.case_of.Goals as goal

pub returns-in-None : goal.returns-in-None
returns-in-None c = λ project address _. case_stopped project address _ (sym c.in-None.is ∙ c.in_ok-image.ensures)

pub returns-then-is_meant : goal.returns-then-is_meant
returns-then-is_meant c = λ project address where_it. case_new project address _ c.in-Some.running c.args.meant.now (sym c.in-Some.is ∙ c.in_ok-image.ensures) (c.if-is_meant.ensures.0 refl) where_it

pub returns : goal.returns
returns c = λ project address where_it. case_old project address _ c.in-Some.running c.args.meant.now c.one_image.ensures (sym c.in-Some.is ∙ c.in_ok-image.ensures) (λ same. let h : false ≡ true = c.if-is_meant.ensures.1 same in cc) where_it
