use Rattle.std.proofs.Common.{List, ℕ, refl, arith, subst}
use Rattle.std.proofs.lemmas.Grind.{common_steps}
use Rattle.discovery.specs.declared.about.About.{About}
use Rattle.discovery.specs.Discovery.{BeginsWithEndpoint, HasAbout}
use Rattle.discovery.proofs.Telling.{no_search}
use Rattle.discovery.proofs.Walking.{if_none}
use Rattle.discovery.proofs.services.search.read_response.Goals as goal

pub returns-in_err-about-clause-none : goal.returns-in_err-about-clause-none
returns-in_err-about-clause-none c =
    if_none c.from_residual.result _ (no_search c.args.body.now (subst (λ (l : List ℕ). ¬ ((about : About) × HasAbout l about)) c.behind.ensures c.in_err-about.ensures.none))

pub returns-clause-some : goal.returns-clause-some
returns-clause-some c =
    let begins : BeginsWithEndpoint c.args.body.now = grind (arith, common_steps) in
    (refl, begins, subst (λ (l : List ℕ). HasAbout l c.in_ok-about.about) c.behind.ensures c.in_ok-about.ensures.some)
