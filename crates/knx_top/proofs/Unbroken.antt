-- Why a run that nothing disturbs isn't broken off: no try to get a channel fails, and each job's device is on the tunnel's line.
use Rattle.std.proofs.Common.{◌≡◌, true, false, not, List, [], ◌∷◌, length, reverse, Option, Some, None, refl, sym, ap, subst, ◌∙◌, arith}
use Rattle.std.specs.Prelude.{IfSome, ◌||◌, ◌==◌}
use Rattle.std.specs.List.{AllByRecursion, find}
use Rattle.std.proofs.lemmas.Bool.{and_parts}
use Rattle.std.proofs.lemmas.List.{length-reverse}
use Rattle.knx_model.specs.declared.address.IndAddr.{IndAddr}
use Rattle.knx_model.specs.Meaning.{Installation}
use Rattle.knx_model.specs.Rules.{has_device}
use Rattle.line_model.specs.declared.fault.Try.{Try}
use Rattle.line_model.specs.Faults.{IsWrongLine, first_elsewhere, first_tunnel, is_elsewhere}
use Rattle.line_model.specs.Log.{Job}
use Rattle.line_model.specs.Record.{Entry}
use Rattle.line_model.specs.StartOf.{is_on_bus, line_of, tunnel_address}

-- ---- three tries are some

pub no_three : (three failed : List Try) → length three ≡ 3 → failed ≡ [] → failed ≡ reverse three → ⊥
no_three three failed are none is = let nothing : length (reverse three) ≡ 0 = ap (λ (l : List Try). length l) (sym is ∙ none) in omega (arith, are, length-reverse three, nothing)

-- ---- each job's device is on the line

is_here : (new old : Installation) (job : Job) → is_on_bus new old job.device.raw ≡ true → is_elsewhere (tunnel_address new) job ≡ false
is_here new old job on = ap not (and_parts (line_of job.device.raw == line_of (tunnel_address new).raw) (has_device new.statements job.device.raw || has_device old.statements job.device.raw) on).0

none_found : (new old : Installation) (jobs : List Job) → AllByRecursion (λ (job : Job). is_on_bus new old job.device.raw ≡ true) jobs → find (is_elsewhere (tunnel_address new)) jobs ≡ None
none_found new old [] on = refl
none_found new old (job ∷ jobs) on = rw (is_here new old job on.0) (none_found new old jobs on.1)

pub none_elsewhere : (new old : Installation) (jobs : List Job) → AllByRecursion (λ (job : Job). is_on_bus new old job.device.raw ≡ true) jobs → (told : Option IndAddr) → IfSome told (λ tunnel. tunnel ≡ tunnel_address new) → first_elsewhere jobs told ≡ None
none_elsewhere new old jobs on None is = refl
none_elsewhere new old jobs on (Some tunnel) is = subst (λ (a : IndAddr). find (is_elsewhere a) jobs ≡ None) (sym is) (none_found new old jobs on)

pub none_wrong : (jobs : List Job) (r : List Entry) (device tunnel : IndAddr) → first_elsewhere jobs (first_tunnel r) ≡ None → IsWrongLine jobs r device tunnel → ⊥
none_wrong jobs r device tunnel none wrong = let z : Some wrong.job ≡ None = sym wrong.first ∙ (ap (first_elsewhere jobs) (sym wrong.told) ∙ none) in cc
