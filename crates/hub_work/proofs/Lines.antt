-- The first device that isn't on the tunnel's line is that of the first job whose device isn't.
use Rattle.std.proofs.Common.{◌≡◌, Bool, true, false, cond, List, [], ◌∷◌, map, Some, refl, sym, ap, ◌∙◌}
use Rattle.std.specs.Prelude.{option_map, ◌==◌, ◌/◌, not}
use Rattle.std.specs.List.{find}
use Rattle.knx_model.specs.declared.address.IndAddr.{IndAddr}
use Rattle.line_model.specs.Log.{Job}
use Rattle.line_model.specs.Faults.{first_elsewhere, is_elsewhere}
use Rattle.device_reservation.specs.Reserved.{device_of_job}

abbrev off : IndAddr → IndAddr → Bool
off tunnel d = not (d.raw / 256 == tunnel.raw / 256)

found_of : (jobs : List Job) (tunnel : IndAddr) → find (off tunnel) (map device_of_job jobs) ≡ option_map device_of_job (find (is_elsewhere tunnel) jobs)
found_of [] tunnel = refl
found_of (x ∷ jobs) tunnel = by_test (off tunnel x.device) (found_of jobs tunnel)
  where
    by_test : (b : Bool) → find (off tunnel) (map device_of_job jobs) ≡ option_map device_of_job (find (is_elsewhere tunnel) jobs)
        → cond b (Some x.device) (find (off tunnel) (map device_of_job jobs)) ≡ option_map device_of_job (cond b (Some x) (find (is_elsewhere tunnel) jobs))
    by_test true rest = refl
    by_test false rest = rest

pub found_elsewhere : (jobs : List Job) (devices : List IndAddr) (tunnel : IndAddr) → map device_of_job jobs ≡ devices → find (off tunnel) devices ≡ option_map device_of_job (first_elsewhere jobs (Some tunnel))
found_elsewhere jobs devices tunnel of = ap (find (off tunnel)) (sym of) ∙ found_of jobs tunnel
