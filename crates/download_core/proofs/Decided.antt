-- Each answer of a step is told exactly where the record says so.
use Rattle.std.proofs.Common.{◌≡◌, ℕ, true, List, None, ap, sym, ◌∙◌}
use Rattle.knx_model.specs.declared.address.IndAddr.{IndAddr}
use Rattle.knx_model.specs.ClientConnection.{ClientEnd, Ended as NoConnection, client_deadline}
use Rattle.knx_model.specs.Plans.{Plan}
use Rattle.line_model.specs.Attempts as line
use Rattle.line_model.specs.Attempts.{Attempts, attempts}
use Rattle.line_model.specs.Moments.{Moment}
use Rattle.line_model.specs.Waiting.{attempt_deadline}
use Rattle.download_core.specs.declared.did.Did.{Did}
use Rattle.download_core.specs.declared.did.Did.TheVariants as did
use Rattle.download_core.specs.declared.signs.Signs.{Signs}
use Rattle.download_core.specs.Attempt.{Phase, Resting, Running, Closing, Leaving, Ended}
use Rattle.download_core.specs.Calls.{phase_deadline}
use Rattle.download_core.specs.Steps.{next_did, is_send}
use Rattle.download_core.specs.Fits.{FitsPhase}
use Rattle.download_core.specs.Tells.{IsAtEnd, is_end, EndsExactly, HasToSendNow, SendsExactly, HasToWait, WaitsExactly, DeadlineIsExact}
use Rattle.download_core.proofs.Exactly.{Answers, AnEnd, ASending, AWait, answers}

-- no answer is two of them
not_both : (d : Did) → is_end d ≡ true → is_send d ≡ true → ⊥
not_both (did.Send tpdu) e s = cc e
not_both did.Wait e s = cc e
not_both did.Done e s = cc s
not_both (did.Failed signs) e s = cc s
not_both (did.Refused op got expected) e s = cc s

end_by : (device : IndAddr) (plan : Plan) (now : ℕ) (l : List Moment) (d : Did) → Answers device plan now l d → is_end d ≡ true → IsAtEnd device plan l
end_by device plan now l d (AnEnd e h) i = h
end_by device plan now l d (ASending s n h) i = absurd (not_both d i s)
end_by device plan now l d (AWait w n h) i = absurd (cc (sym (ap is_end w) ∙ i))

end_so : (device : IndAddr) (plan : Plan) (now : ℕ) (l : List Moment) (d : Did) → Answers device plan now l d → IsAtEnd device plan l → is_end d ≡ true
end_so device plan now l d (AnEnd e h) i = e
end_so device plan now l d (ASending s n h) i = absurd (h i)
end_so device plan now l d (AWait w n h) i = absurd (h i)

pub ends_exactly : EndsExactly
ends_exactly s now l f = (end_by s.device s.plan now l (next_did s now) (answers s now l f), end_so s.device s.plan now l (next_did s now) (answers s now l f))

send_by : (device : IndAddr) (plan : Plan) (now : ℕ) (l : List Moment) (d : Did) → Answers device plan now l d → is_send d ≡ true → HasToSendNow device plan now l
send_by device plan now l d (AnEnd e h) i = absurd (not_both d e i)
send_by device plan now l d (ASending s n h) i = record { next = n; goes_on = h }
send_by device plan now l d (AWait w n h) i = absurd (cc (sym (ap is_send w) ∙ i))

send_so : (device : IndAddr) (plan : Plan) (now : ℕ) (l : List Moment) (d : Did) → Answers device plan now l d → HasToSendNow device plan now l → is_send d ≡ true
send_so device plan now l d (AnEnd e h) i = absurd (i.goes_on h)
send_so device plan now l d (ASending s n h) i = s
send_so device plan now l d (AWait w n h) i = absurd (n i.next)

pub sends_exactly : SendsExactly
sends_exactly s now l f = (send_by s.device s.plan now l (next_did s now) (answers s now l f), send_so s.device s.plan now l (next_did s now) (answers s now l f))

wait_by : (device : IndAddr) (plan : Plan) (now : ℕ) (l : List Moment) (d : Did) → Answers device plan now l d → d ≡ did.Wait → HasToWait device plan now l
wait_by device plan now l d (AnEnd e h) i = absurd (cc (sym (ap is_end i) ∙ e))
wait_by device plan now l d (ASending s n h) i = absurd (cc (sym (ap is_send i) ∙ s))
wait_by device plan now l d (AWait w n h) i = record { goes_on = h; sends_nothing = n }

wait_so : (device : IndAddr) (plan : Plan) (now : ℕ) (l : List Moment) (d : Did) → Answers device plan now l d → HasToWait device plan now l → d ≡ did.Wait
wait_so device plan now l d (AnEnd e h) i = absurd (i.goes_on h)
wait_so device plan now l d (ASending s n h) i = absurd (i.sends_nothing n)
wait_so device plan now l d (AWait w n h) i = w

pub waits_exactly : WaitsExactly
waits_exactly s now l f = (wait_by s.device s.plan now l (next_did s now) (answers s now l f), wait_so s.device s.plan now l (next_did s now) (answers s now l f))

-- ---- the deadline

running_deadline : (t : Attempts) (k : ℕ) (x : line.Attempt) (conn : ClientEnd) → t ≡ line.Running k x → x.end ≡ conn → client_deadline conn ≡ attempt_deadline t
running_deadline t k x conn e c = sym (ap attempt_deadline e ∙ ap client_deadline c)

ended_deadline : (t : Attempts) (k : ℕ) (x : line.Attempt) → t ≡ line.Running k x → x.end ≡ NoConnection → None ≡ attempt_deadline t
unfolding client_deadline
ended_deadline t k x e c = sym (ap attempt_deadline e ∙ ap client_deadline c)

deadline_at : (signs : Signs) (phase : Phase) (t : Attempts) → FitsPhase signs phase t → phase_deadline phase ≡ attempt_deadline t
deadline_at signs Resting t f = sym (ap attempt_deadline f.1)
deadline_at signs (Running a) t f = running_deadline t _ f.0 a.conn f.1 f.2.end
deadline_at signs (Closing flight outcome) t f = ended_deadline t _ f.0 f.1 f.2.end
deadline_at signs (Leaving outcome) t f = ended_deadline t _ f.0 f.1 f.2.end
deadline_at signs (Ended outcome) t f = sym (ap attempt_deadline f)

pub deadline_is_exact : DeadlineIsExact
deadline_is_exact s now l f = deadline_at s.signs s.phase (attempts s.device s.plan l) f.job
