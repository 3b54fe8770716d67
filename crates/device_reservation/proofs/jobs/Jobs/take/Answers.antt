use Rattle.std.proofs.Common.{◌≡◌, length, refl, ap, subst, ◌∙◌}
use Rattle.device_reservation.specs.declared.taken.Taken.TheVariants.{Job}
use Rattle.device_reservation.specs.Bits.{holds}
use Rattle.device_reservation.specs.Reservation.{Reservation, IsFirstFree, AllWait, AllTaken}
use Rattle.device_reservation.proofs.Taking.{kept_after_take}
use Rattle.device_reservation.proofs.Waiting.{first_free, one_first, all_wait, all_taken, free_waits_not, waits_taken_not, some_untaken, job_fits}
use Rattle.device_reservation.proofs.jobs.Jobs.take.Goals as goal

pub invariant_of-self : goal.invariant_of-self
invariant_of-self c =
    kept_after_take _ _ c.self.inside.free _ _ c.in-Some.job c.args.worker c.self.invariant c.in-Some.ensures.least.itself (c.remove.ensures.limit ∙ ap length c.first.ensures.same) c.remove.ensures.itself
    (λ n apart. c.remove.ensures.others n apart ∙ ap (λ words. holds words n) c.first.ensures.same)

pub overflow_sub-self : goal.overflow_sub-self
overflow_sub-self c = some_untaken _ _ c.self.inside.free _ c.in-Some.job c.self.invariant c.in-Some.ensures.least.itself

pub overflow_cast-result : goal.overflow_cast-result
overflow_cast-result c = record { fits = job_fits _ _ c.self.inside.free _ c.in-Some.job c.self.invariant c.in-Some.ensures.least.itself }

pub returns-in-Some-clause-job : goal.returns-in-Some-clause-job
returns-in-Some-clause-job c =
    let P : Reservation → Type 0 = λ r. IsFirstFree r c.in-Some.job in
    let found : IsFirstFree c.args.self.now c.in-Some.job = subst P c.self.view_is (first_free _ _ c.self.inside.free _ c.in-Some.job c.self.invariant c.in-Some.ensures.least) in
    λ k. (λ is. let same : c.in-Some.job ≡ k = cc in subst (λ k. IsFirstFree c.args.self.now k) same found, λ other. ap Job (one_first c.args.self.now c.in-Some.job k found other))

pub returns-in-Some-clause-later : goal.returns-in-Some-clause-later
returns-in-Some-clause-later c =
    let P : Reservation → Type 0 = λ r. IsFirstFree r c.in-Some.job in
    let found : IsFirstFree c.args.self.now c.in-Some.job = subst P c.self.view_is (first_free _ _ c.self.inside.free _ c.in-Some.job c.self.invariant c.in-Some.ensures.least) in
    (λ is. absurd (cc), λ all. absurd (free_waits_not c.args.self.now c.in-Some.job found.free all))

pub returns-in-None-clause-later : goal.returns-in-None-clause-later
returns-in-None-clause-later c =
    let all : AllWait c.args.self.now = subst AllWait c.self.view_is (all_wait _ _ c.self.inside.free _ c.self.invariant c.in-None.ensures.empty c.if-self-gt0.true) in
    (λ _. all, λ _. refl)

pub returns-in-None-clause-no_more : goal.returns-in-None-clause-no_more
returns-in-None-clause-no_more c =
    let all : AllWait c.args.self.now = subst AllWait c.self.view_is (all_wait _ _ c.self.inside.free _ c.self.invariant c.in-None.ensures.empty c.if-self-gt0.true) in
    (λ is. absurd (cc), λ taken. absurd (waits_taken_not c.args.self.now all taken))

pub returns-in-None-2-clause-later : goal.returns-in-None-2-clause-later
returns-in-None-2-clause-later c =
    let taken : AllTaken c.args.self.now = subst AllTaken c.self.view_is (all_taken _ _ c.self.inside.free _ c.self.invariant c.if-self-gt0.false) in
    (λ is. absurd (cc), λ all. absurd (waits_taken_not c.args.self.now all taken))

pub returns-in-None-2-clause-no_more : goal.returns-in-None-2-clause-no_more
returns-in-None-2-clause-no_more c =
    let taken : AllTaken c.args.self.now = subst AllTaken c.self.view_is (all_taken _ _ c.self.inside.free _ c.self.invariant c.if-self-gt0.false) in
    (λ _. taken, λ _. refl)
