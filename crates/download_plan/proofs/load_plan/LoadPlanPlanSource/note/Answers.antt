use Rattle.std.proofs.Common.{◌≡◌, ◌≢◌, ◌∙◌, ap}
use Rattle.download_plan.specs.Left.{Listening}
use Rattle.download_plan.proofs.Lefts.{load_noted, load_before, load_ignored}
use Rattle.download_plan.proofs.load_plan.LoadPlanPlanSource.note.Goals as goal

pub returns-clause-noted : goal.returns-clause-noted
returns-clause-noted c =
    load_noted c.args.self.now (record { image = c.self.inside.image; size = c.size_after-self-inside.result }) c.args.k c.args.got.now
    (ap (λ (p : Listening). p.image) c.self.view_is) c.size_after-self-inside.ensures.noted

pub returns-clause-before : goal.returns-clause-before
returns-clause-before c =
    let stays : c.args.k ≢ 1 → c.size_after-self-inside.result ≡ c.args.self.now.size = λ other. c.size_after-self-inside.ensures.stays other ∙ ap (λ (p : Listening). p.size) c.self.view_is in
    load_before c.args.self.now (record { image = c.self.inside.image; size = c.size_after-self-inside.result }) c.args.k (ap (λ (p : Listening). p.image) c.self.view_is) stays

pub returns-clause-ignored : goal.returns-clause-ignored
returns-clause-ignored c =
    let stays : c.args.k ≢ 1 → c.size_after-self-inside.result ≡ c.args.self.now.size = λ other. c.size_after-self-inside.ensures.stays other ∙ ap (λ (p : Listening). p.size) c.self.view_is in
    load_ignored c.args.self.now (record { image = c.self.inside.image; size = c.size_after-self-inside.result }) c.args.k (ap (λ (p : Listening). p.image) c.self.view_is) stays
