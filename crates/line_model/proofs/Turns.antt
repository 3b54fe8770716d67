-- A worker waits for the confirmation of its T_Connect, and a poll lasts its longest; once it has come, the worker has an operation to send.
use Rattle.std.proofs.Common.{ℕ, zero, suc, ◌≡◌, ◌≤◌, ◌-◌, ◌==◌, false, [], ◌∷◌, Some, None, refl, sym, subst, arith, inl, inr}
use Rattle.std.specs.Prelude.{Contains}
use Rattle.knx_model.specs.ApduReading.{apdu_in, tpdu_in, service_in}
use Rattle.knx_model.specs.ClientConnection.{after_confirmed, client_sent, after_send, client_took, client_after, client_expired, after_overdue, client_deadline}
use Rattle.knx_model.specs.Connection.{frame_in}
use Rattle.knx_model.specs.Device.{NonVolatile}
use Rattle.knx_model.specs.DeviceConnection.{device_took, device_after, device_answered, after_answer}
use Rattle.line_model.specs.Asks.{HasPlace}
use Rattle.line_model.specs.ClientView.{channel, after_entry, deed}
use Rattle.line_model.specs.Gateway.{gateway_took}
use Rattle.line_model.specs.Log.{Job, Held, job_of, state_of}
use Rattle.line_model.specs.Reading.{datagram_in, ldata_in}
use Rattle.line_model.specs.Record.{placed, entries}
use Rattle.line_model.specs.Runs.{begin, connecting, connected, job, told_taken}
use Rattle.line_model.proofs.Tests.{is_unequal}
use Rattle.line_model.specs.Waiting.{attempts_of, attempt_deadline, NextIsSending, TurnWaits, HasWork, IsDeadline, OfChannel, OfJob, OfClosing, ToAsk, AsLongAsItMay, PollsSo}

pub waits : (kept : NonVolatile) → TurnWaits (job ∷ []) [] told_taken (placed (begin kept) connecting) 5 0 1 0
unfolding datagram_in ldata_in gateway_took frame_in device_took device_after device_answered after_answer apdu_in tpdu_in service_in after_entry deed after_confirmed client_sent after_send client_took client_after client_expired after_overdue
waits kept = record {
  job = job;
  since = 4;
  holds = record { there = refl; worker = 1; held = refl };
  all_taken_in = refl;
  goes_on = λ e. e.rests;
  sends_nothing = λ s. absurd (let flying : Some _ ≡ None = s.0 in cc);
}

-- ---- the only job is held since the place 4

same_job : (j : Job) → Some job ≡ Some j → job ≡ j
same_job j e = cc

same_since : (worker since : ℕ) → Held 1 4 ≡ Held worker since → 4 ≡ since
same_since worker since e = cc

only_job : (k : ℕ) (j : Job) → job_of (job ∷ []) k ≡ Some j → (1 ≡ k) × (job ≡ j)
only_job zero j e = absurd (let none : None ≡ Some j = e in cc)
only_job (suc zero) j e = (refl, same_job j e)
only_job (suc (suc k)) j e =
    let not_first : (suc (suc k) == 0) ≡ false = is_unequal (suc (suc k)) 0 (λ q. cc) in
    let beyond : suc (suc k) - 1 ≡ suc k = omega arith in
    absurd (let none : None ≡ Some j = rw (not_first, beyond) at e in cc)

only_since : (k worker since : ℕ) → 1 ≡ k → state_of k told_taken ≡ Held worker since → 4 ≡ since
only_since k worker since one held = same_since worker since (subst (λ (n : ℕ). state_of n told_taken ≡ Held worker since) (sym one) held)

-- ---- it waits

idle : (kept : NonVolatile) (k : ℕ) → HasWork (job ∷ []) [] told_taken (placed (begin kept) connecting) 5 0 k 0 → ⊥
idle kept k w = elim w.why as (λ _. ⊥) [
  | inl came ↦ came refl
  | inr runs ↦ runs.1 (subst (λ (n : ℕ). TurnWaits (job ∷ []) [] told_taken (placed (begin kept) connecting) 5 0 n 0) (only_job k w.job w.holds.there).0 (waits kept))
]

of_two : (one other deadline : ℕ) → 100 ≤ one → 100 ≤ other → Contains (one ∷ other ∷ []) deadline → 100 ≤ deadline
of_two one other deadline a b (zero, less, is) = rw (← is) a
of_two one other deadline a b (suc zero, less, is) = rw (← is) b
of_two one other deadline a b (suc (suc k), less, is) = absurd (omega (arith, less))

no_deadline : (kept : NonVolatile) (deadline : ℕ) → attempt_deadline (attempts_of job 4 5 (placed (begin kept) connecting)) ≡ Some deadline → ⊥
unfolding datagram_in ldata_in gateway_took frame_in device_took device_after device_answered after_answer apdu_in tpdu_in service_in after_entry deed after_confirmed client_sent after_send client_took client_after client_expired after_overdue client_deadline
no_deadline kept deadline is = absurd (let none : None ≡ Some deadline = is in cc)

later : (kept : NonVolatile) (deadline : ℕ) → IsDeadline (job ∷ []) told_taken (placed (begin kept) connecting) 5 None deadline → 100 ≤ deadline
unfolding datagram_in ldata_in gateway_took frame_in device_took device_after device_answered after_answer apdu_in tpdu_in service_in after_entry deed
later kept deadline (OfChannel c) = of_two 1000 60000 deadline (omega arith) (omega arith) c
later kept deadline (OfJob k since j holds is) =
    let only : (1 ≡ k) × (job ≡ j) = only_job k j holds.there in
    let four : 4 ≡ since = only_since k holds.worker since only.0 holds.held in
    let Is : Job → ℕ → Type 0 = λ j since. attempt_deadline (attempts_of j since 5 (placed (begin kept) connecting)) ≡ Some deadline in
    absurd (no_deadline kept deadline (subst (λ (j : Job). Is j 4) (sym only.1) (subst (Is j) (sym four) is)))
later kept deadline (OfClosing is) = absurd (let none : None ≡ Some deadline = is in cc)

pub polls : (kept : NonVolatile) → PollsSo (job ∷ []) [] told_taken (placed (begin kept) connecting) 5 0 None (λ k. 0) 100
polls kept = record {
  looks = λ k w. absurd (idle kept k w);
  waits = λ none. record { at_most = omega arith; in_range = omega arith; no_longer = λ deadline is more. omega (arith, later kept deadline is); as_long = AsLongAsItMay refl };
}

-- ---- and goes on

can_send : (kept : NonVolatile) → (NextIsSending (attempts_of job 4 11 (placed (begin kept) connected)) 0 → ¬ HasPlace (channel (entries (placed (begin kept) connected)))) → ⊥
unfolding datagram_in ldata_in gateway_took frame_in device_took device_after device_answered after_answer apdu_in tpdu_in service_in after_entry deed after_confirmed client_sent after_send client_took client_after client_expired after_overdue
can_send kept blocked =
    blocked (refl, ToAsk (3 ∷ 0 ∷ []) (0x43 ∷ 0 ∷ []) (record { owes_nothing = refl; which = inl (record { session = _; up = refl; goes_on = refl; place = _; expect = _; next = _; head = refl; as_sent = refl }) }))
    (record { acknowledged = refl; has_confirmation = refl })

pub goes_on : (kept : NonVolatile) → TurnWaits (job ∷ []) [] told_taken (placed (begin kept) connected) 11 0 1 0 → ⊥
goes_on kept t =
    let only : (1 ≡ 1) × (job ≡ t.job) = only_job 1 t.job t.holds.there in
    let four : 4 ≡ t.since = only_since 1 t.holds.worker t.since refl t.holds.held in
    let Blocked : Job → ℕ → Type 0 = λ j since. NextIsSending (attempts_of j since 11 (placed (begin kept) connected)) 0 → ¬ HasPlace (channel (entries (placed (begin kept) connected))) in
    can_send kept (subst (λ (j : Job). Blocked j 4) (sym only.1) (subst (Blocked t.job) (sym four) t.sends_nothing))
