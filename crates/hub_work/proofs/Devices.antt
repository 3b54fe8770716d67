-- The device of a job, by its number.
use Rattle.std.proofs.Common.{◌≡◌, ℕ, zero, suc, ◌-◌, ◌≤◌, List, [], ◌∷◌, map, Some, sym, ap, ◌∙◌}
use Rattle.std.specs.Prelude.{slice_get}
use Rattle.std.proofs.lemmas.Option.{same_Some}
use Rattle.knx_model.specs.declared.address.IndAddr.{IndAddr}
use Rattle.line_model.specs.Log.{Job, numbered_from_one, job_of}
use Rattle.device_reservation.specs.Reserved.{device_of_job}
use Rattle.device_reservation.proofs.Numbered.{by_place, from_1}

device_at : (jobs : List Job) (i : ℕ) (b : Job) → slice_get jobs i ≡ Some b → slice_get (map device_of_job jobs) i ≡ Some b.device
device_at [] i b e = absurd (cc)
device_at (x ∷ jobs) zero b e = ap (λ (y : Job). Some y.device) (same_Some x b e)
device_at (x ∷ jobs) (suc i) b e = device_at jobs i b e

device_numbered : (jobs : List Job) (k : ℕ) (b : Job) → job_of jobs k ≡ Some b → numbered_from_one (map device_of_job jobs) k ≡ Some b.device
device_numbered jobs k b e =
    let from : 1 ≤ k = from_1 jobs k b e in
    by_place (map device_of_job jobs) k from ∙ device_at jobs (k - 1) b (sym (by_place jobs k from) ∙ e)

pub is_its_device : (jobs : List Job) (devices : List IndAddr) (k : ℕ) (b : Job) (d : IndAddr) → map device_of_job jobs ≡ devices → numbered_from_one devices k ≡ Some d → job_of jobs k ≡ Some b → d ≡ b.device
is_its_device jobs devices k b d of e there = same_Some d b.device (sym e ∙ (ap (λ (ds : List IndAddr). numbered_from_one ds k) (sym of) ∙ device_numbered jobs k b there))
