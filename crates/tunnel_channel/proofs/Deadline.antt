-- Something becomes due exactly when the deadline is reached.
use Rattle.std.proofs.Common.{◌≡◌, ◌≢◌, ℕ, ◌<◌, ◌≤◌, ◌⊎◌, inl, inr, List, Bool, true, false, cond, Option, Some, None, refl, arith}
use Rattle.std.specs.Prelude.{nat_le, is_some}
use Rattle.std.proofs.lemmas.Bool.Decides.{nat_tests}
use Rattle.knx_model.specs.Connection.{has_passed, wait_end, last_time}
use Rattle.knx_model.specs.ConnectionLaws.{Reached}
use Rattle.line_model.specs.declared.client_end.ChannelExpired.{ChannelExpired}
use Rattle.line_model.specs.declared.client_end.ChannelExpired.TheVariants as due
use Rattle.line_model.specs.Gateway.{acknowledgement_wait}
use Rattle.line_model.specs.ChannelLost.{answer_wait, heartbeat_pause}
use Rattle.tunnel_channel.proofs.Times.{passed_alike}
use Rattle.line_model.specs.ClientEnd.{Outstanding, Free, Once, Again, OpenEnd, ClientEnd, Idle, Seeking, Open, Leaving, JustLost, is_given_up, is_dead, repeat_due, repeat_or_beat, open_expired, channel_expired, request_end, beat_end, earlier_of, channel_deadline, most_unanswered}

end_reached : (wait since now : ℕ) → 0 < wait → now < last_time → (wait_end wait since ≤ now → has_passed wait since now ≡ true) × (has_passed wait since now ≡ true → wait_end wait since ≤ now)
end_reached wait since now p l = (λ h. grind (arith, nat_tests), λ h. grind (arith, nat_tests))

-- the wait for an acknowledgement has passed
abbrev pub request_passed : Outstanding → ℕ → Bool
request_passed Free now = false
request_passed (Once octets since) now = has_passed acknowledgement_wait since now
request_passed (Again since) now = has_passed acknowledgement_wait since now

-- and that of the heartbeat
abbrev pub beat_wait : OpenEnd → ℕ
beat_wait e = cond (nat_le most_unanswered e.unanswered) answer_wait heartbeat_pause

beat_positive : (b : Bool) → 0 < cond b answer_wait heartbeat_pause
beat_positive true = omega arith
beat_positive false = omega arith

earlier_reached : (one other now : ℕ) → (earlier_of (Some one) other ≤ now → (one ≤ now) ⊎ (other ≤ now)) × ((one ≤ now) ⊎ (other ≤ now) → earlier_of (Some one) other ≤ now)
earlier_reached one other now = (there (nat_le one other) refl, back (nat_le one other) refl)
  where
    there : (t : Bool) → nat_le one other ≡ t → earlier_of (Some one) other ≤ now → (one ≤ now) ⊎ (other ≤ now)
    there true q h = inl (rw q at h)
    there false q h = inr (rw q at h)

    back : (t : Bool) → nat_le one other ≡ t → (one ≤ now) ⊎ (other ≤ now) → earlier_of (Some one) other ≤ now
    back true q (inl h) = rw q h
    back true q (inr h) = rw q (let le : one ≤ other = grind (arith, nat_tests) in omega arith)
    back false q (inl h) = rw q (let le : other ≤ one = grind (arith, nat_tests) in omega arith)
    back false q (inr h) = rw q h

-- ---- the deadline of an open channel is reached where one of both has passed

abbrev pub Passed : Outstanding → OpenEnd → ℕ → Type 0
Passed o e now = (request_passed o now ≡ true) ⊎ (has_passed (beat_wait e) e.beat now ≡ true)

module _ (e : OpenEnd) (now : ℕ) (l : now < last_time) where
  one_reached : (since : ℕ) → (earlier_of (Some (wait_end acknowledgement_wait since)) (beat_end e) ≤ now → (has_passed acknowledgement_wait since now ≡ true) ⊎ (has_passed (beat_wait e) e.beat now ≡ true))
      × ((has_passed acknowledgement_wait since now ≡ true) ⊎ (has_passed (beat_wait e) e.beat now ≡ true) → earlier_of (Some (wait_end acknowledgement_wait since)) (beat_end e) ≤ now)
  one_reached since =
      let a = end_reached acknowledgement_wait since now (omega arith) l in
      let b = end_reached (beat_wait e) e.beat now (beat_positive (nat_le most_unanswered e.unanswered)) l in
      let x = earlier_reached (wait_end acknowledgement_wait since) (beat_end e) now in
      (λ h. there a.0 b.0 (x.0 h), λ h. x.1 (back a.1 b.1 h))
    where
      there : (wait_end acknowledgement_wait since ≤ now → has_passed acknowledgement_wait since now ≡ true) → (beat_end e ≤ now → has_passed (beat_wait e) e.beat now ≡ true)
          → (wait_end acknowledgement_wait since ≤ now) ⊎ (beat_end e ≤ now) → (has_passed acknowledgement_wait since now ≡ true) ⊎ (has_passed (beat_wait e) e.beat now ≡ true)
      there a b (inl h) = inl (a h)
      there a b (inr h) = inr (b h)

      back : (has_passed acknowledgement_wait since now ≡ true → wait_end acknowledgement_wait since ≤ now) → (has_passed (beat_wait e) e.beat now ≡ true → beat_end e ≤ now)
          → (has_passed acknowledgement_wait since now ≡ true) ⊎ (has_passed (beat_wait e) e.beat now ≡ true) → (wait_end acknowledgement_wait since ≤ now) ⊎ (beat_end e ≤ now)
      back a b (inl h) = inl (a h)
      back a b (inr h) = inr (b h)

  reached_passed : (o : Outstanding) → earlier_of (request_end o) (beat_end e) ≤ now → Passed o e now
  reached_passed Free h = inr ((end_reached (beat_wait e) e.beat now (beat_positive (nat_le most_unanswered e.unanswered)) l).0 h)
  reached_passed (Once octets since) h = (one_reached since).0 h
  reached_passed (Again since) h = (one_reached since).0 h

  passed_reached : (o : Outstanding) → Passed o e now → earlier_of (request_end o) (beat_end e) ≤ now
  passed_reached Free (inl h) = absurd (cc)
  passed_reached Free (inr h) = (end_reached (beat_wait e) e.beat now (beat_positive (nat_le most_unanswered e.unanswered)) l).1 h
  passed_reached (Once octets since) h = (one_reached since).1 h
  passed_reached (Again since) h = (one_reached since).1 h

-- ---- and then something becomes due, and not before

abbrev pub told_with : Outstanding → OpenEnd → ℕ → ChannelExpired
told_with o e now = cond (is_given_up o now) due.Lost (cond (is_dead e now) due.Dead (repeat_or_beat (repeat_due o now) e now))

request_told : (o : Outstanding) (now : ℕ) → request_passed o now ≡ true → (is_given_up o now ≡ true) ⊎ (is_some (repeat_due o now) ≡ true)
request_told Free now h = absurd (cc)
request_told (Once octets since) now h = inr (rw h refl)
request_told (Again since) now h = inl h

request_rests : (o : Outstanding) (now : ℕ) → request_passed o now ≡ false → (is_given_up o now ≡ false) × (repeat_due o now ≡ None)
request_rests Free now h = (refl, refl)
request_rests (Once octets since) now h = (refl, rw h refl)
request_rests (Again since) now h = (h, refl)

module _ (e : OpenEnd) (now : ℕ) where
  beat_told : (m : Bool) → nat_le most_unanswered e.unanswered ≡ m → has_passed (beat_wait e) e.beat now ≡ true → (is_dead e now ≡ true) ⊎ (has_passed heartbeat_pause e.beat now ≡ true)
  beat_told true q h = let passed : (has_passed answer_wait e.beat now ≡ true) = rw q at h in inl (rw (q, passed) refl)
  beat_told false q h = inr (rw q at h)

  pause_rests : (p : Bool) → has_passed heartbeat_pause e.beat now ≡ p → has_passed answer_wait e.beat now ≡ false → has_passed heartbeat_pause e.beat now ≡ false
  pause_rests true q h = absurd (let a : (has_passed answer_wait e.beat now ≡ true) = passed_alike answer_wait heartbeat_pause e.beat now (omega arith) q in cc)
  pause_rests false q h = q

  beat_rests : (m : Bool) → nat_le most_unanswered e.unanswered ≡ m → has_passed (beat_wait e) e.beat now ≡ false → (is_dead e now ≡ false) × (has_passed heartbeat_pause e.beat now ≡ false)
  beat_rests true q h = let rests : (has_passed answer_wait e.beat now ≡ false) = rw q at h in (rw (q, rests) refl, pause_rests (has_passed heartbeat_pause e.beat now) refl rests)
  beat_rests false q h = (rw q refl, rw q at h)

  by_pause : (p : Bool) → has_passed heartbeat_pause e.beat now ≡ p → p ≡ true → repeat_or_beat None e now ≢ due.Nothing
  by_pause true q h = rw q (λ n. absurd (cc))
  by_pause false q h = absurd (cc)

  due_rest : (r : Option (List ℕ)) → (is_some r ≡ true) ⊎ (has_passed heartbeat_pause e.beat now ≡ true) → repeat_or_beat r e now ≢ due.Nothing
  due_rest None (inl h) = absurd (cc)
  due_rest None (inr h) = by_pause true h refl
  due_rest (Some octets) h = λ n. absurd (cc)

  told_lost : (g : Bool) (x : ChannelExpired) → g ≡ true → cond g due.Lost x ≢ due.Nothing
  told_lost true x h = λ n. absurd (cc)
  told_lost false x h = absurd (cc)

  told_later : (g : Bool) (x : ChannelExpired) → x ≢ due.Nothing → cond g due.Lost x ≢ due.Nothing
  told_later true x h = λ n. absurd (cc)
  told_later false x h = h

  told_dead : (d : Bool) (x : ChannelExpired) → d ≡ true → cond d due.Dead x ≢ due.Nothing
  told_dead true x h = λ n. absurd (cc)
  told_dead false x h = absurd (cc)

  told_last : (d : Bool) (x : ChannelExpired) → x ≢ due.Nothing → cond d due.Dead x ≢ due.Nothing
  told_last true x h = λ n. absurd (cc)
  told_last false x h = h

  passed_due : (o : Outstanding) → Passed o e now → told_with o e now ≢ due.Nothing
  passed_due o (inl h) = by_request (request_told o now h)
    where
      by_request : (is_given_up o now ≡ true) ⊎ (is_some (repeat_due o now) ≡ true) → told_with o e now ≢ due.Nothing
      by_request (inl g) = told_lost (is_given_up o now) (cond (is_dead e now) due.Dead (repeat_or_beat (repeat_due o now) e now)) g
      by_request (inr r) = told_later (is_given_up o now) (cond (is_dead e now) due.Dead (repeat_or_beat (repeat_due o now) e now)) (told_last (is_dead e now) (repeat_or_beat (repeat_due o now) e now) (due_rest (repeat_due o now) (inl r)))
  passed_due o (inr h) = by_beat (beat_told (nat_le most_unanswered e.unanswered) refl h)
    where
      by_beat : (is_dead e now ≡ true) ⊎ (has_passed heartbeat_pause e.beat now ≡ true) → told_with o e now ≢ due.Nothing
      by_beat (inl d) = told_later (is_given_up o now) (cond (is_dead e now) due.Dead (repeat_or_beat (repeat_due o now) e now)) (told_dead (is_dead e now) (repeat_or_beat (repeat_due o now) e now) d)
      by_beat (inr p) = told_later (is_given_up o now) (cond (is_dead e now) due.Dead (repeat_or_beat (repeat_due o now) e now)) (told_last (is_dead e now) (repeat_or_beat (repeat_due o now) e now) (due_rest (repeat_due o now) (inr p)))

  nothing_due : (o : Outstanding) → request_passed o now ≡ false → has_passed (beat_wait e) e.beat now ≡ false → told_with o e now ≡ due.Nothing
  nothing_due o h b =
      let r = request_rests o now h in
      let d = beat_rests (nat_le most_unanswered e.unanswered) refl b in
      rw (r.0, d.0, r.1, d.1) refl

  due_passed : (o : Outstanding) (t b : Bool) → request_passed o now ≡ t → has_passed (beat_wait e) e.beat now ≡ b → told_with o e now ≢ due.Nothing → Passed o e now
  due_passed o true b q s h = inl q
  due_passed o false true q s h = inr s
  due_passed o false false q s h = absurd (h (nothing_due o q s))

  open_reached : now < last_time → (Reached (Some (earlier_of (request_end e.request) (beat_end e))) now → open_expired e now ≢ due.Nothing) × (open_expired e now ≢ due.Nothing → Reached (Some (earlier_of (request_end e.request) (beat_end e))) now)
  open_reached l = (
    λ h. passed_due e.request (reached_passed e now l e.request h),
    λ h. passed_reached e now l e.request (due_passed e.request (request_passed e.request now) (has_passed (beat_wait e) e.beat now) refl refl h),
  )

-- ---- each state

sought_told : (since now : ℕ) (t : Bool) → has_passed answer_wait since now ≡ t → t ≡ true → channel_expired (Seeking since) now ≢ due.Nothing
unfolding channel_expired
sought_told since now true q h = rw q (λ n. absurd (cc))
sought_told since now false q h = absurd (cc)

sought_passed : (since now : ℕ) (t : Bool) → has_passed answer_wait since now ≡ t → channel_expired (Seeking since) now ≢ due.Nothing → has_passed answer_wait since now ≡ true
unfolding channel_expired
sought_passed since now true q h = q
sought_passed since now false q h = absurd (h (rw q refl))

pub nearest : (end : ClientEnd) (now : ℕ) → now < last_time → (Reached (channel_deadline end) now → channel_expired end now ≢ due.Nothing) × (channel_expired end now ≢ due.Nothing → Reached (channel_deadline end) now)
unfolding channel_expired channel_deadline
nearest Idle now l = (λ h. absurd h, λ h. absurd (h refl))
nearest (Seeking since) now l =
    let w = end_reached answer_wait since now (omega arith) l in
    (λ h. sought_told since now true (w.0 h) refl, λ h. w.1 (sought_passed since now (has_passed answer_wait since now) refl h))
nearest (Open e) now l = open_reached e now l
nearest (Leaving e) now l = open_reached e now l
nearest (JustLost c) now l = (λ h. absurd h, λ h. absurd (h refl))
