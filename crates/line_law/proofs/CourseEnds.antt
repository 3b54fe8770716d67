-- The end of an attempt stays ended.
use Rattle.std.proofs.Common.{◌≡◌, ℕ, Bool, true, false, Option, Some, None, ap}
use Rattle.knx_model.specs.declared.address.IndAddr.{IndAddr}
use Rattle.knx_model.specs.declared.connection.ClientTook.TheVariants as heard
use Rattle.knx_model.specs.declared.connection.TransportFrame.{TransportFrame}
use Rattle.knx_model.specs.declared.connection.TransportFrame.TheVariants.{Connect, Disconnect, Ack, Nak, Numbered, Other}
use Rattle.knx_model.specs.ClientConnection.{ClientEnd, Asked, Ended, client_took, after_confirmed}
use Rattle.line_model.specs.Attempts.{Attempt, confirmed_attempt}
use Rattle.line_law.proofs.Courses.{Idle}

-- ---- the end of an attempt stays ended

pub ended_confirmed : (t : Attempt) (k now : ℕ) (error : Bool) (flying : Option TransportFrame) → t.end ≡ Ended → Idle (confirmed_attempt k t now error flying)
unfolding after_confirmed
ended_confirmed t k now error None e = e
ended_confirmed t k now true (Some Connect) e = tt
ended_confirmed t k now false (Some Connect) e = ap (λ z. after_confirmed z false now) e
ended_confirmed t k now error (Some Disconnect) e = tt
ended_confirmed t k now error (Some (Numbered n apdu)) e = ap (λ z. after_confirmed z error now) e
ended_confirmed t k now error (Some (Ack n)) e = e
ended_confirmed t k now error (Some (Nak n)) e = e
ended_confirmed t k now error (Some Other) e = e

pub ended_took : (end : ClientEnd) (y : TransportFrame) → end ≡ Ended → client_took end y ≡ heard.Dropped
unfolding client_took
ended_took end y e = ap (λ z. client_took z y) e

pub asked_took : (end : ClientEnd) (device : IndAddr) (y : TransportFrame) → end ≡ Asked device → client_took end y ≡ heard.Dropped
unfolding client_took
asked_took end device y e = ap (λ z. client_took z y) e
