-- Before its deadline nothing is over and nothing late; and where nothing is over and nothing late, the deadline isn't reached.
use Rattle.std.proofs.Common.{◌≡◌, ◌≢◌, ℕ, ◌<◌, ◌≤◌, List, Bool, true, false, Option, Some, None, refl, sym, ◌∙◌, arith}
use Rattle.std.specs.Prelude.{◌||◌, is_some, nat_lt, IfSome}
use Rattle.std.proofs.lemmas.Bool.Decides.{nat_tests}
use Rattle.std.proofs.lemmas.Bool.{or_parts}
use Rattle.knx_model.specs.KnxNetIp.{Written}
use Rattle.knx_model.specs.declared.frames.ip.IpFrame.TheVariants.{StateRequest}
use Rattle.knx_model.specs.Connection.{has_passed, wait_end, last_time, nearer}
use Rattle.knx_model.specs.ConnectionLaws.{Reached}
use Rattle.line_model.specs.declared.client_end.ChannelExpired.{ChannelExpired}
use Rattle.line_model.specs.declared.client_end.ChannelExpired.TheVariants as due
use Rattle.line_model.specs.Record.{Entry}
use Rattle.line_model.specs.LinkStory.{newest_time}
use Rattle.line_model.specs.ClientView.{channel}
use Rattle.line_model.specs.ChannelLost.{answer_wait, heartbeat_pause, is_unconfirmed}
use Rattle.line_model.specs.Renews.{is_late}
use Rattle.line_model.specs.ClientEnd.{ClientEnd, Idle, Seeking, Open, Leaving, JustLost, OpenEnd, is_given_up, is_dead, is_over, repeat_due, open_expired, channel_expired, request_end, beat_end, earlier_of, channel_deadline}
use Rattle.tunnel_channel.proofs.Deadline.{nearest}
use Rattle.tunnel_link.specs.declared.known.Known.{Known}
use Rattle.tunnel_link.specs.Kept as kept
use Rattle.tunnel_link.specs.Kept.{confirmation_end, next_due, is_over_for}
use Rattle.tunnel_link.specs.Rights.{FitsRecord}
use Rattle.tunnel_link.specs.Adds.{IsBefore, TimelyBefore}
use Rattle.tunnel_link.proofs.Late.{late_open, late_end, late_same}
use Rattle.tunnel_link.proofs.MaySend.{not_over, not_late}

-- ---- nothing is due exactly where nothing is over and nothing late

none_of : (o : Option (List ℕ)) → is_some o ≡ false → o ≡ None
none_of None h = refl
none_of (Some octets) h = absurd (cc)

module _ (e : OpenEnd) (now : ℕ) where
  open_rests : (g d : Bool) (o : Option (List ℕ)) (p : Bool) → is_given_up e.request now ≡ g → is_dead e now ≡ d → repeat_due e.request now ≡ o → has_passed heartbeat_pause e.beat now ≡ p → open_expired e now ≡ due.Nothing
      → ((is_given_up e.request now || is_dead e now) ≡ false) × (late_open (Some e) now ≡ false)
  open_rests true d o p q r u v h = absurd (let x : (open_expired e now ≡ due.Lost) = rw q refl in cc)
  open_rests false true o p q r u v h = absurd (let x : (open_expired e now ≡ due.Dead) = rw (q, r) refl in cc)
  open_rests false false (Some octets) p q r u v h = absurd (let x : (open_expired e now ≡ due.Repeat octets) = rw (q, r, u) refl in cc)
  open_rests false false None true q r u v h = absurd (let x : (open_expired e now ≡ due.Beat (Written (StateRequest e.channel))) = rw (q, r, u, v) refl in cc)
  open_rests false false None false q r u v h = (rw (q, r) refl, rw (u, v) refl)

  open_nothing : (is_given_up e.request now || is_dead e now) ≡ false → late_open (Some e) now ≡ false → open_expired e now ≡ due.Nothing
  open_nothing over late =
      let o = or_parts (is_given_up e.request now) (is_dead e now) over in
      let l = or_parts (is_some (repeat_due e.request now)) (has_passed heartbeat_pause e.beat now) late in
      let none : (repeat_due e.request now ≡ None) = none_of (repeat_due e.request now) l.0 in
      rw (o.0, o.1, none, l.1) refl

sought_rests : (since now : ℕ) (b : Bool) → has_passed answer_wait since now ≡ b → channel_expired (Seeking since) now ≡ due.Nothing → b ≡ false
unfolding channel_expired
sought_rests since now true q h = absurd (let x : (channel_expired (Seeking since) now ≡ due.NoAnswer) = rw q refl in cc)
sought_rests since now false q h = refl

rests : (end : ClientEnd) (now : ℕ) → channel_expired end now ≡ due.Nothing → (is_over end now ≡ false) × (late_end end now ≡ false)
unfolding channel_expired
rests Idle now h = (refl, refl)
rests (Seeking since) now h = (sought_rests since now (has_passed answer_wait since now) refl h, refl)
rests (Open e) now h = open_rests e now _ _ _ _ refl refl refl refl h
rests (Leaving e) now h = open_rests e now _ _ _ _ refl refl refl refl h
rests (JustLost c) now h = (refl, refl)

nothing : (end : ClientEnd) (now : ℕ) → is_over end now ≡ false → late_end end now ≡ false → channel_expired end now ≡ due.Nothing
unfolding channel_expired
nothing Idle now over late = refl
nothing (Seeking since) now over late = rw over refl
nothing (Open e) now over late = open_nothing e now over late
nothing (Leaving e) now over late = open_nothing e now over late
nothing (JustLost c) now over late = refl

-- ---- the deadline of the channel

not_reached : (d : Option ℕ) (t : ℕ) → IsBefore t d → Reached d t → ⊥
not_reached None t b r = r
not_reached (Some time) t b r = absurd (omega arith)

before_unreached : (d : Option ℕ) (t : ℕ) → (Reached d t → ⊥) → IsBefore t d
before_unreached None t n = tt
before_unreached (Some time) t n = below (nat_lt t time) refl
  where
    below : (b : Bool) → nat_lt t time ≡ b → t < time
    below true q = grind (arith, nat_tests)
    below false q = absurd (n (grind (arith, nat_tests)))

is_nothing : (told : ChannelExpired) → (told ≢ due.Nothing → ⊥) → told ≡ due.Nothing
is_nothing due.Nothing n = refl
is_nothing (due.Repeat octets) n = absurd (n (λ h. absurd (cc)))
is_nothing due.Lost n = absurd (n (λ h. absurd (cc)))
is_nothing due.NoAnswer n = absurd (n (λ h. absurd (cc)))
is_nothing (due.Beat octets) n = absurd (n (λ h. absurd (cc)))
is_nothing due.Dead n = absurd (n (λ h. absurd (cc)))

wait_most : (wait since : ℕ) → wait_end wait since ≤ last_time
wait_most wait since = grind (arith, nat_tests)

earlier_most : (o : Option ℕ) (time : ℕ) → earlier_of o time ≤ time
earlier_most None time = omega arith
earlier_most (Some other) time = grind (arith, nat_tests)

open_in_range : (e : OpenEnd) (t : ℕ) → t < earlier_of (request_end e.request) (beat_end e) → t < last_time
open_in_range e t h =
    let a : earlier_of (request_end e.request) (beat_end e) ≤ beat_end e = earlier_most (request_end e.request) (beat_end e) in
    let b : beat_end e ≤ last_time = wait_most _ e.beat in
    omega arith

by_nearest : (end : ClientEnd) (t : ℕ) → IsBefore t (channel_deadline end) → t < last_time → (is_over end t ≡ false) × (late_end end t ≡ false)
by_nearest end t b lt = rests end t (is_nothing (channel_expired end t) (λ n. not_reached (channel_deadline end) t b ((nearest end t lt).1 n)))

end_timely : (end : ClientEnd) (t : ℕ) → IsBefore t (channel_deadline end) → (is_over end t ≡ false) × (late_end end t ≡ false)
unfolding channel_deadline
end_timely Idle t b = (refl, refl)
end_timely (Seeking since) t b = by_nearest (Seeking since) t b (let m = wait_most answer_wait since in omega arith)
end_timely (Open e) t b = by_nearest (Open e) t b (open_in_range e t b)
end_timely (Leaving e) t b = by_nearest (Leaving e) t b (open_in_range e t b)
end_timely (JustLost c) t b = (refl, refl)

end_before : (end : ClientEnd) (t : ℕ) → t < last_time → is_over end t ≡ false → late_end end t ≡ false → IsBefore t (channel_deadline end)
end_before end t lt over late = before_unreached (channel_deadline end) t (λ r. (nearest end t lt).0 r (nothing end t over late))

-- ---- the end of the wait for a confirmation

flight_timely : (acknowledged : Option ℕ) (confirmed : Bool) (t : ℕ) → IsBefore t (confirmation_end acknowledged confirmed) → is_unconfirmed acknowledged confirmed t ≡ false
flight_timely None confirmed t b = refl
flight_timely (Some since) true t b = refl
flight_timely (Some since) false t b = grind (arith, nat_tests)

flight_before : (acknowledged : Option ℕ) (confirmed : Bool) (t : ℕ) → t < last_time → is_unconfirmed acknowledged confirmed t ≡ false → IsBefore t (confirmation_end acknowledged confirmed)
flight_before None confirmed t lt h = tt
flight_before (Some since) true t lt h = tt
flight_before (Some since) false t lt h = grind (arith, nat_tests)

-- ---- the nearer one

before_both : (one other : Option ℕ) (t : ℕ) → IsBefore t (nearer one other) → IsBefore t one × IsBefore t other
before_both None other t b = (tt, b)
before_both (Some x) None t b = (b, tt)
before_both (Some x) (Some y) t b = (omega arith, omega arith)

before_nearer : (one other : Option ℕ) (t : ℕ) → IsBefore t one → IsBefore t other → IsBefore t (nearer one other)
before_nearer None other t a b = b
before_nearer (Some x) None t a b = a
before_nearer (Some x) (Some y) t a b = omega arith

pub timely : (k : Known) (t : ℕ) → IsBefore t (next_due k) → (is_over_for k t ≡ false) × (late_end k.channel t ≡ false)
timely k t b =
    let both = before_both (channel_deadline k.channel) (confirmation_end k.flight.acknowledged k.flight.confirmed) t b in
    let end = end_timely k.channel t both.0 in
    let flight : (kept.is_late k.flight t ≡ false) = flight_timely k.flight.acknowledged k.flight.confirmed t both.1 in
    (rw flight end.0, end.1)

pub timely_before : (k : Known) (r : List Entry) → FitsRecord k r → TimelyBefore (next_due k) r
timely_before k r f t le b = late_same k.channel (channel r) t f.end ∙ (timely k t b).1

-- ---- a wait that isn't longer ends no later

pub before_now : (k : Known) (r : List Entry) → FitsRecord k r → newest_time r < last_time → is_late (channel r) (newest_time r) ≡ false → IsBefore (newest_time r) (next_due k)
before_now k r f lt late =
    before_nearer (channel_deadline k.channel) (confirmation_end k.flight.acknowledged k.flight.confirmed) (newest_time r)
    (end_before k.channel (newest_time r) lt (not_over k r f) (sym (late_same k.channel (channel r) (newest_time r) f.end) ∙ late))
    (flight_before k.flight.acknowledged k.flight.confirmed (newest_time r) lt (not_late k r f))

-- how long is waited at a time
pub record WaitsUntil (deadline : Option ℕ) (now until : ℕ) : Type 0 where
  pub in_time : IfSome deadline (λ time. now < time → until ≤ time)
  pub in_range : until ≤ last_time

until_before : (deadline : Option ℕ) (now until t : ℕ) → IsBefore now deadline → IfSome deadline (λ time. now < time → until ≤ time) → t < until → IsBefore t deadline
until_before None now until t b h lt = tt
until_before (Some time) now until t b h lt = let le : until ≤ time = h b in omega arith

pub waits_before : (k : Known) (r : List Entry) (until : ℕ) → FitsRecord k r → is_late (channel r) (newest_time r) ≡ false → WaitsUntil (next_due k) (newest_time r) until → (t : ℕ) → newest_time r ≤ t → t < until → IsBefore t (next_due k)
waits_before k r until f late w t le lt =
    let range : until ≤ last_time = w.in_range in
    let first : newest_time r < last_time = omega arith in
    until_before (next_due k) (newest_time r) until t (before_now k r f first late) w.in_time lt
