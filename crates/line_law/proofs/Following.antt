-- The session with a device follows the line, event by event.
use Rattle.std.proofs.Common.{◌≡◌, ℕ, suc, ◌≤◌, ◌⊎◌, List, [], ◌∷◌, Bool, true, false, cond, Option, Some, None, refl, sym, ◌∙◌, ap, subst, inl, inr, arith, if◌then◌else◌}
use Rattle.std.proofs.lemmas.Bool.{or_right, cases_eq}
use Rattle.knx_model.specs.declared.frames.cemi.Ldata.{Ldata}
use Rattle.line_model.specs.declared.group.GroupTurn.{GroupTurn}
use Rattle.line_model.specs.declared.log.LogEntry.{LogEntry}
use Rattle.line_model.specs.Attempts.{attempts}
use Rattle.line_model.specs.ClientView.{ClientChannel, Fresh, Sought, RefusedBy, Unanswered, Open, Lost, channel, deed, after_entry, goes_on}
use Rattle.line_model.specs.ClientView as view
use Rattle.line_model.specs.Gateway.{Channel, next_put}
use Rattle.line_model.specs.Log.{Job, Held, job_of, log_before, state_of, IsLog, SameDevice, OneDownloaderPerDevice}
use Rattle.line_model.specs.Moments.{Moment}
use Rattle.line_model.specs.Reading.{is_connect_request}
use Rattle.line_model.specs.Record.{Renewed, Entry, entry, is_renewal, put_in}
use Rattle.line_model.specs.Renews.{RenewsRightly, has_renewed, is_just_renewed, MayLeave}
use Rattle.line_model.specs.Tunnel.{Tunnel, puts, puts_next}
use Rattle.session_law.specs.World.{Client}
use Rattle.line_law.proofs.Coupled.{is_open}
use Rattle.line_law.proofs.Attempting.{AttemptIs}
use Rattle.line_law.proofs.Logs.{AreUpto, held_before, held_later, one_held, after_last, after_more}
use Rattle.line_law.proofs.Logs as logs
use Rattle.line_law.proofs.HeldJobs.{HeldJob, Attempted, AllAttempted, AttemptedOn}

-- ---- the gateway's next frame leaves the rest of the tunnel

next_present : (t : Tunnel) (o : Option (Channel × Ldata)) → (puts t o).present ≡ t.present
next_present t None = refl
next_present t (Some (c, f)) = refl

pub stays_present : (t : Tunnel) → (puts_next t).present ≡ t.present
stays_present t = next_present t (next_put t.gateway.channel t.gateway.waiting)

-- ---- an endpoint is renewed

pub renewed_fresh : (c : ClientChannel) (t : ℕ) → after_entry c (entry Renewed t) ≡ Fresh
unfolding after_entry
renewed_fresh c t = refl

pub renewed_nothing : (c : ClientChannel) (t : ℕ) → is_open c ≡ false → deed c (entry Renewed t) ≡ view.Nothing
unfolding deed
renewed_nothing Fresh t h = refl
renewed_nothing (Sought since) t h = refl
renewed_nothing (RefusedBy status) t h = refl
renewed_nothing Unanswered t h = refl
renewed_nothing (Open c l) t h = absurd (cc)
renewed_nothing (Lost c) t h = refl

-- something came only after an endpoint was taken
abbrev NotFresh : ClientChannel → Type 0
NotFresh Fresh = ⊥
NotFresh _ = Unit {0}

just_has : (r : List Entry) → is_just_renewed r ≡ true → has_renewed r ≡ true
just_has [] h = absurd (cc)
just_has (x ∷ r) h = rw h refl

fresh_by : (x : Entry) (b : Bool) → is_connect_request (put_in x.what) ≡ b → NotFresh (if b then Sought x.now else Fresh) → is_connect_request (put_in x.what) ≡ true
fresh_by x true e h = e
fresh_by x false e h = absurd h

goes_not_fresh : (c : ClientChannel) (x : Entry) (r : List Entry) → NotFresh (goes_on c x) → (is_connect_request (put_in x.what) ≡ true → has_renewed r ≡ true) → (NotFresh c → has_renewed r ≡ true) → has_renewed r ≡ true
goes_not_fresh Fresh x r h f g = f (fresh_by x (is_connect_request (put_in x.what)) refl h)
goes_not_fresh (Sought since) x r h f g = g tt
goes_not_fresh (RefusedBy status) x r h f g = g tt
goes_not_fresh Unanswered x r h f g = g tt
goes_not_fresh (Open c l) x r h f g = g tt
goes_not_fresh (Lost c) x r h f g = g tt

entry_not_fresh : (c : ClientChannel) (x : Entry) → is_renewal x.what ≡ false → NotFresh (after_entry c x) → NotFresh (goes_on c x)
unfolding after_entry
entry_not_fresh c x n h = subst (λ b. NotFresh (cond b Fresh (goes_on c x))) n h

renewed_before : (r : List Entry) → RenewsRightly r → NotFresh (channel r) → has_renewed r ≡ true
renewed_before [] a h = absurd h
renewed_before (x ∷ r) a h = by_renewal (is_renewal x.what) refl (renewed_before r a.1) where
  by_renewal : (b : Bool) → is_renewal x.what ≡ b → (NotFresh (channel r) → has_renewed r ≡ true) → has_renewed (x ∷ r) ≡ true
  by_renewal true e f = rw e refl
  by_renewal false e f = or_right (is_renewal x.what) (has_renewed r) (goes_not_fresh (channel r) x r (entry_not_fresh (channel r) x e h) (λ q. just_has r (a.0.connects q)) f)

-- an open channel isn't left
pub shut_by : (r : List Entry) (c : ClientChannel) → channel r ≡ c → RenewsRightly r → (has_renewed r ≡ true → MayLeave c) → is_open c ≡ false
shut_by r Fresh e a f = refl
shut_by r (Sought since) e a f = refl
shut_by r (RefusedBy status) e a f = refl
shut_by r Unanswered e a f = refl
shut_by r (Open c l) e a f = absurd (f (renewed_before r a (subst NotFresh (sym e) tt)))
shut_by r (Lost c) e a f = refl

-- ---- one job of a device at a time

module _ (jobs : List Job) (turns : List GroupTurn) (count : ℕ) (log : List LogEntry) (form : IsLog jobs turns count log) (alone : OneDownloaderPerDevice jobs log) (a : ℕ) where
  same_device : (o p : Option Job) (j k : Job) → o ≡ Some j → p ≡ Some k → j.device.raw ≡ a → k.device.raw ≡ a → SameDevice o p
  same_device None p j k e f x y = absurd (cc)
  same_device (Some u) None j k e f x y = absurd (cc)
  same_device (Some u) (Some v) j k e f x y = let p : u ≡ j = cc in let q : v ≡ k = cc in ap (λ (z : Job). z.device.raw) p ∙ x ∙ sym y ∙ sym (ap (λ (z : Job). z.device.raw) q)

  pub one_job : (n : ℕ) (p q : HeldJob jobs (log_before n log) a) → (p.job ≡ q.job) × (p.since ≡ q.since)
  one_job n p q =
      elim (cases_eq p.number q.number) [
        | inl e ↦
            (let job : Some p.job ≡ Some q.job = sym p.there ∙ ap (job_of jobs) e ∙ q.there in
            let held : Held p.worker p.since ≡ Held q.worker q.since = sym p.held ∙ ap (λ z. state_of z (log_before n log)) e ∙ q.held in
            let x : p.job ≡ q.job = cc in
            let y : p.since ≡ q.since = cc in
            (x, y))
        | inr other ↦
            absurd (one_held jobs turns count n p.number q.number p.worker p.since q.worker q.since log form alone (same_device (job_of jobs p.number) (job_of jobs q.number) p.job q.job p.there q.there p.of_device q.of_device)
            (same_device (job_of jobs q.number) (job_of jobs p.number) q.job p.job q.there p.there q.of_device p.of_device) other p.held q.held)
      ]

  -- a job that is held at the next moment was held, or is taken just then
  pub later_job : (n : ℕ) (p : HeldJob jobs (log_before (suc (suc n)) log) a) → (p.since ≡ suc n) ⊎ ((q : HeldJob jobs (log_before (suc n) log) a) × (q.job ≡ p.job) × (q.since ≡ p.since))
  later_job n p =
      elim (held_later p.number n p.worker p.since log p.held) [
        | inl at ↦ inl at
        | inr was ↦ inr (record { number = p.number; job = p.job; worker = p.worker; since = p.since; there = p.there; of_device = p.of_device; held = was }, refl, refl)
      ]

  -- the attempts go on
  pub attempted_same : (n : ℕ) (l : List Moment) (c d : Client) → AreUpto (suc n) l → d ≡ c → AllAttempted jobs (log_before (suc n) log) a l c → AllAttempted jobs (log_before (suc (suc n)) log) a l d
  attempted_same n l c d upto e h p =
      elim (later_job n p) [
        | inl at ↦ (let none : logs.after p.since l ≡ [] = ap (λ z. logs.after z l) at ∙ after_last (suc n) l upto in subst (λ z. AttemptIs a p.job.plan (attempts p.job.device p.job.plan z) d) (sym none) tt)
        | inr (q, job, since) ↦
            subst (Attempted a l p.job p.since) (sym e) (subst (λ z. Attempted a l z p.since c) job (subst (λ z. Attempted a l q.job z c) since (h q)))
      ]

  pub attempted_more : (n : ℕ) (m : Moment) (l : List Moment) (d : Client) → m.at ≡ suc n → AreUpto (suc n) (m ∷ l) → ((q : HeldJob jobs (log_before (suc n) log) a) → AttemptedOn a l m q.job q.since d) → AllAttempted jobs (log_before (suc (suc n)) log) a (m ∷ l) d
  attempted_more n m l d at upto h p =
      elim (later_job n p) [
        | inl now_ ↦ (let none : logs.after p.since (m ∷ l) ≡ [] = ap (λ z. logs.after z (m ∷ l)) now_ ∙ after_last (suc n) (m ∷ l) upto in subst (λ z. AttemptIs a p.job.plan (attempts p.job.device p.job.plan z) d) (sym none) tt)
        | inr (q, job, since) ↦
            (let le : q.since ≤ n = held_before q.number n q.worker q.since log q.held in
            let more : logs.after q.since (m ∷ l) ≡ m ∷ logs.after q.since l = after_more q.since m l (omega (arith, le, at)) in
            let here : Attempted a (m ∷ l) q.job q.since d = subst (λ z. AttemptIs a q.job.plan (attempts q.job.device q.job.plan z) d) (sym more) (h q) in
            subst (λ z. Attempted a (m ∷ l) z p.since d) job (subst (λ z. Attempted a (m ∷ l) q.job z d) since here))
      ]

  -- and so far, of one that was held
  pub attempted_late : (n : ℕ) (m : Moment) (l : List Moment) (d : Client) → m.at ≡ suc n → ((q : HeldJob jobs (log_before (suc n) log) a) → AttemptedOn a l m q.job q.since d) → AllAttempted jobs (log_before (suc n) log) a (m ∷ l) d
  attempted_late n m l d at h q =
      let le : q.since ≤ n = held_before q.number n q.worker q.since log q.held in
      let more : logs.after q.since (m ∷ l) ≡ m ∷ logs.after q.since l = after_more q.since m l (omega (arith, le, at)) in
      subst (λ z. AttemptIs a q.job.plan (attempts q.job.device q.job.plan z) d) (sym more) (h q)
