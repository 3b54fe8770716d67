-- Each end that was told stands where no attempt of its job ran, whatever comes later; and what puts nothing begins no attempt.
use Rattle.std.proofs.Common.{◌≡◌, ◌≢◌, ℕ, List, [], ◌∷◌, ◌++◌, Some, None, refl, sym, ◌∙◌, subst}
use Rattle.knx_model.specs.declared.connection.TransportFrame.TheVariants.{Connect}
use Rattle.line_model.specs.declared.group.GroupTurn.{GroupTurn}
use Rattle.line_model.specs.declared.log.LogEntry.{LogEntry}
use Rattle.line_model.specs.declared.log.LogWhat.{LogWhat}
use Rattle.line_model.specs.declared.log.LogWhat.TheVariants.{Took, Done, Failed, Refused, Sent, Lost}
use Rattle.line_model.specs.Record.{Placed}
use Rattle.line_model.specs.ClientView.{Deed, Puts, Takes, Loses, Nothing}
use Rattle.line_model.specs.Moments.{Moment, put_to}
use Rattle.line_model.specs.Log.{Job, job_of, state_of, IsLog}
use Rattle.line_model.specs.Attempts.{attempts}
use Rattle.line_model.specs.Waiting.{IsResting}
use Rattle.line_model.specs.Ends.{IsAtRest, EndsSo, EndsAtRest, BeginsSo}
use Rattle.tunnel_link.specs.Adds.{PutsNone}
use Rattle.hub_work.proofs.Growing.{AreAbove, above_less, between_grown, of_job}

module _ (jobs : List Job) (added old : List Placed) where
  rest_grown : (log : List LogEntry) (at k : ℕ) → AreAbove at added → IsAtRest jobs old log at k → IsAtRest jobs (added ++ old) log at k
  rest_grown log at k above h = of_job _ _ (job_of jobs k) (state_of k log) (λ j since. subst (λ l. IsResting (attempts j.device j.plan l)) (sym (between_grown since at added old above))) h

  so_grown : (log : List LogEntry) (at : ℕ) (what : LogWhat) → AreAbove at added → EndsSo jobs old log at what → EndsSo jobs (added ++ old) log at what
  so_grown log at (Took k) above h = tt
  so_grown log at (Done k) above h = rest_grown log at k above h
  so_grown log at (Failed k signs) above h = rest_grown log at k above h
  so_grown log at (Refused k op got expected) above h = rest_grown log at k above h
  so_grown log at (Sent k) above h = tt
  so_grown log at (Lost k) above h = tt

  pub rests_grown : (turns : List GroupTurn) (n : ℕ) (log : List LogEntry) → IsLog jobs turns n log → AreAbove n added → EndsAtRest jobs old log → EndsAtRest jobs (added ++ old) log
  rests_grown turns n [] is above h = tt
  rests_grown turns n (e ∷ log) is above h = (so_grown log e.at e.what (above_less e.at n added is.0.so_far above) h.0, rests_grown turns n log is.1 above h.1)

-- ---- what puts nothing

nothing_to : (device : ℕ) (what : Deed) → ((octets : List ℕ) → what ≢ Puts octets) → put_to device what ≡ None
nothing_to device (Puts octets) none = absurd (none octets refl)
nothing_to device (Takes octets) none = refl
nothing_to device Loses none = refl
nothing_to device Nothing none = refl

pub begins_none : (jobs : List Job) (log : List LogEntry) (older : List Placed) (m : Moment) → PutsNone m → BeginsSo jobs log older m
begins_none jobs log older m none k since job held connects = absurd (let z : None ≡ Some Connect = sym (nothing_to job.device.raw m.what none) ∙ connects in cc)
