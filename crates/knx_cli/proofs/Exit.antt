-- A status is that of its number.
use Rattle.std.proofs.Common.{◌≡◌, ℕ, refl, ◌∙◌, ap}
use Rattle.call_words.specs.Statuses.{status_number}
use Rattle.call_words.specs.declared.status.Status.{Status}
use Rattle.call_words.specs.declared.status.Status.TheVariants as status
use Rattle.knx_cli.specs.Exit.{status_of}

same_status : (s : Status) → status_of (status_number s) ≡ s
same_status status.Done = refl
same_status status.SomeFailed = refl
same_status status.Usage = refl
same_status status.Project = refl
same_status status.Catalogue = refl
same_status status.Script = refl
same_status status.Read = refl
same_status status.Write = refl
same_status (status.NoMemory want) = refl
same_status status.Link = refl
same_status status.GatewayRefused = refl
same_status status.Flooded = refl
same_status status.WrongLine = refl
same_status status.OpenTurns = refl
same_status status.NothingFound = refl
same_status status.NoUnit = refl
same_status status.Several = refl
same_status status.Taken = refl
same_status status.Unconfirmed = refl
same_status status.TunnelLost = refl

-- what is told as a number is the status of that number
pub told : (s : Status) (number : ℕ) → number ≡ status_number s → status_of number ≡ s
told s number e = ap status_of e ∙ same_status s

-- a number that is a status's is that of its own status
pub numbered : (s : Status) (number : ℕ) → number ≡ status_number s → number ≡ status_number (status_of number)
numbered s number e = rw (told s number e) e
