-- What is late is a matter of what this end knows. It stays late, and two calls of what is due leave nothing late.
use Rattle.std.proofs.Common.{◌≡◌, ℕ, ◌<◌, ◌≤◌, List, [], ◌∷◌, Bool, true, false, cond, Option, Some, None, refl, arith}
use Rattle.std.specs.Prelude.{◌||◌, is_some}
use Rattle.std.proofs.lemmas.Bool.Decides.{nat_tests}
use Rattle.std.proofs.lemmas.Bool.{or_parts}
use Rattle.knx_model.specs.KnxNetIp.{Written}
use Rattle.knx_model.specs.declared.frames.ip.IpFrame.TheVariants.{StateRequest}
use Rattle.knx_model.specs.Connection.{has_passed}
use Rattle.line_model.specs.declared.client_end.ChannelExpired.{ChannelExpired}
use Rattle.line_model.specs.declared.client_end.ChannelExpired.TheVariants as due
use Rattle.line_model.specs.Gateway.{acknowledgement_wait}
use Rattle.line_model.specs.Record.{Quiet, Entry, entry}
use Rattle.line_model.specs.ClientView as seen
use Rattle.line_model.specs.ClientView.{ClientChannel, channel, after_entry}
use Rattle.line_model.specs.ChannelLost.{answer_wait, heartbeat_pause, own, is_lost}
use Rattle.line_model.specs.Renews.{is_repeat_due, is_beat_due, is_late}
use Rattle.line_model.specs.ClientEnd.{ClientEnd, Idle, Seeking, Open, Leaving, JustLost, OpenEnd, open_end, is_given_up, is_dead, repeat_due, open_expired, channel_expired, after_expired, repeated, beaten}
use Rattle.tunnel_channel.specs.Fits.{HasNone, KnowsOpen, outstanding_of}
use Rattle.tunnel_link.specs.Rights.{FitsNow}

-- the outstanding request is to be sent again
abbrev pub repeats_open : Option OpenEnd → ℕ → Bool
repeats_open None now = false
repeats_open (Some e) now = is_some (repeat_due e.request now)

-- that, or a heartbeat is to be sent
abbrev pub late_open : Option OpenEnd → ℕ → Bool
late_open None now = false
late_open (Some e) now = is_some (repeat_due e.request now) || has_passed heartbeat_pause e.beat now

abbrev pub late_end : ClientEnd → ℕ → Bool
late_end end now = late_open (open_end end) now

-- ---- the record's test is this one

repeat_if : (b : Bool) (octets : List ℕ) → is_some (cond b (Some octets) None) ≡ b
repeat_if true octets = refl
repeat_if false octets = refl

same_repeat : (s : List ℕ) (last : Option (List ℕ)) (now : ℕ) → is_some (repeat_due (outstanding_of s last) now) ≡ is_repeat_due s now
same_repeat [] last now = refl
same_repeat (t ∷ []) last now = repeat_if _ _
same_repeat (s ∷ t ∷ ts) last now = refl

open_late : (e : OpenEnd) (left : Bool) (ch : ClientChannel) (now : ℕ) → KnowsOpen e left ch → is_late ch now ≡ late_open (Some e) now
open_late e left ch now k = rw (k.is, k.knows.is, same_repeat) refl

none_late : (ch : ClientChannel) (now : ℕ) → HasNone ch → is_late ch now ≡ false
none_late seen.Fresh now n = refl
none_late (seen.Sought since) now n = refl
none_late (seen.RefusedBy status) now n = refl
none_late seen.Unanswered now n = refl
none_late (seen.Open c l) now n = absurd n
none_late (seen.Lost c) now n = refl

pub late_same : (end : ClientEnd) (ch : ClientChannel) (now : ℕ) → FitsNow end ch → is_late ch now ≡ late_end end now
late_same Idle ch now f = none_late ch now f
late_same (Seeking since) ch now f = rw f refl
late_same (Open e) ch now f = open_late e false ch now f
late_same (Leaving e) ch now f = open_late e true ch now f
late_same (JustLost c) ch now f = absurd f

-- ---- what isn't late wasn't before, and a quiet wait makes nothing late at a time before its end

passed_before : (wait since t now : ℕ) → t ≤ now → has_passed wait since now ≡ false → has_passed wait since t ≡ false
passed_before wait since t now le h = grind (arith, nat_tests)

repeat_before : (s : List ℕ) (t now : ℕ) → t ≤ now → is_repeat_due s now ≡ false → is_repeat_due s t ≡ false
repeat_before [] t now le h = refl
repeat_before (x ∷ []) t now le h = passed_before acknowledgement_wait x t now le h
repeat_before (x ∷ y ∷ s) t now le h = refl

pub late_before : (ch : ClientChannel) (t now : ℕ) → t ≤ now → is_late ch now ≡ false → is_late ch t ≡ false
late_before seen.Fresh t now le h = refl
late_before (seen.Sought since) t now le h = refl
late_before (seen.RefusedBy status) t now le h = refl
late_before seen.Unanswered t now le h = refl
late_before (seen.Open c l) t now le h =
    let both = or_parts (is_repeat_due (own c l).sent now) (is_beat_due c l now) h in
    let again : (is_repeat_due (own c l).sent t ≡ false) = repeat_before (own c l).sent t now le both.0 in
    let beat : (is_beat_due c l t ≡ false) = passed_before heartbeat_pause _ t now le both.1 in
    rw again beat
late_before (seen.Lost c) t now le h = refl

not_yet : (wait since t : ℕ) → 0 < wait → t ≤ since → has_passed wait since t ≡ false
not_yet wait since t p le = grind (arith, nat_tests)

quiet_beat : (c : ℕ) (l : List Entry) (at t : ℕ) → t ≤ at → is_beat_due c l t ≡ false → is_beat_due c (entry Quiet at ∷ l) t ≡ false
quiet_beat c [] at t le h = not_yet heartbeat_pause at t (omega arith) le
quiet_beat c (y ∷ l) at t le h = h

quiet_open : (c : ℕ) (l : List Entry) (at t : ℕ) → t ≤ at → is_late (seen.Open c l) t ≡ false → (b : Bool) → is_late (cond b (seen.Lost c) (seen.Open c (entry Quiet at ∷ l))) t ≡ false
quiet_open c l at t le h true = refl
quiet_open c l at t le h false =
    let both = or_parts (is_repeat_due (own c l).sent t) (is_beat_due c l t) h in
    rw both.0 (quiet_beat c l at t le both.1)

quiet_sought : (since t : ℕ) (b : Bool) → is_late (cond b seen.Unanswered (seen.Sought since)) t ≡ false
quiet_sought since t true = refl
quiet_sought since t false = refl

pub quiet_late : (ch : ClientChannel) (at t : ℕ) → t ≤ at → is_late ch t ≡ false → is_late (after_entry ch (entry Quiet at)) t ≡ false
unfolding after_entry
quiet_late seen.Fresh at t le h = refl
quiet_late (seen.Sought since) at t le h = quiet_sought since t (has_passed answer_wait since at)
quiet_late (seen.RefusedBy status) at t le h = refl
quiet_late seen.Unanswered at t le h = refl
quiet_late (seen.Open c l) at t le h = quiet_open c l at t le h (is_lost c l (entry Quiet at))
quiet_late (seen.Lost c) at t le h = refl

-- ---- what is due, twice: first the request again or the heartbeat, and then the heartbeat

abbrev open_after : OpenEnd → ℕ → ChannelExpired → Option OpenEnd
open_after e now due.Nothing = Some e
open_after e now (due.Repeat octets) = Some (repeated now e)
open_after e now due.Lost = None
open_after e now due.NoAnswer = None
open_after e now (due.Beat octets) = Some (beaten now e)
open_after e now due.Dead = None

opened_after : (e : OpenEnd) (now : ℕ) (told : ChannelExpired) → (open_end (after_expired (Open e) now told) ≡ open_after e now told) × (open_end (after_expired (Leaving e) now told) ≡ open_after e now told)
unfolding after_expired
opened_after e now due.Nothing = (refl, refl)
opened_after e now (due.Repeat octets) = (refl, refl)
opened_after e now due.Lost = (refl, refl)
opened_after e now due.NoAnswer = (refl, refl)
opened_after e now (due.Beat octets) = (refl, refl)
opened_after e now due.Dead = (refl, refl)

module _ (e : OpenEnd) (now : ℕ) where
  abbrev told_by : Bool → Bool → Option (List ℕ) → Bool → ChannelExpired
  told_by true d o p = due.Lost
  told_by false true o p = due.Dead
  told_by false false (Some octets) p = due.Repeat octets
  told_by false false None true = due.Beat (Written (StateRequest e.channel))
  told_by false false None false = due.Nothing

  told_is : (g d : Bool) (o : Option (List ℕ)) (p : Bool) → is_given_up e.request now ≡ g → is_dead e now ≡ d → repeat_due e.request now ≡ o → has_passed heartbeat_pause e.beat now ≡ p → open_expired e now ≡ told_by g d o p
  told_is true d o p q r u v = rw q refl
  told_is false true o p q r u v = rw (q, r) refl
  told_is false false (Some octets) p q r u v = rw (q, r, u) refl
  told_is false false None true q r u v = rw (q, r, u, v) refl
  told_is false false None false q r u v = rw (q, r, u, v) refl

  repeats_none : (g d : Bool) (o : Option (List ℕ)) (p : Bool) → repeat_due e.request now ≡ o → repeats_open (open_after e now (told_by g d o p)) now ≡ false
  repeats_none true d o p u = refl
  repeats_none false true o p u = refl
  repeats_none false false (Some octets) p u = refl
  repeats_none false false None true u = rw u refl
  repeats_none false false None false u = rw u refl

  late_none : (g d : Bool) (o : Option (List ℕ)) (p : Bool) → repeat_due e.request now ≡ o → has_passed heartbeat_pause e.beat now ≡ p → is_some o ≡ false → late_open (open_after e now (told_by g d o p)) now ≡ false
  late_none true d o p u v n = refl
  late_none false true o p u v n = refl
  late_none false false (Some octets) p u v n = absurd (cc)
  late_none false false None true u v n = rw u (not_yet heartbeat_pause now now (omega arith) (omega arith))
  late_none false false None false u v n = rw (u, v) refl

  open_first : repeats_open (open_after e now (open_expired e now)) now ≡ false
  open_first = rw (told_is _ _ _ _ refl refl refl refl) (repeats_none (is_given_up e.request now) (is_dead e now) (repeat_due e.request now) (has_passed heartbeat_pause e.beat now) refl)

  open_second : is_some (repeat_due e.request now) ≡ false → late_open (open_after e now (open_expired e now)) now ≡ false
  open_second n = rw (told_is _ _ _ _ refl refl refl refl) (late_none (is_given_up e.request now) (is_dead e now) (repeat_due e.request now) (has_passed heartbeat_pause e.beat now) refl refl n)

abbrev pub expired_end : ClientEnd → ℕ → ClientEnd
expired_end end now = after_expired end now (channel_expired end now)

sought_end : (since now : ℕ) (b : Bool) → open_end (after_expired (Seeking since) now (cond b due.NoAnswer due.Nothing)) ≡ None
unfolding after_expired
sought_end since now true = refl
sought_end since now false = refl

none_end : (end : ClientEnd) (now : ℕ) → open_end end ≡ None → open_end (expired_end end now) ≡ None
unfolding channel_expired after_expired
none_end Idle now h = refl
none_end (Seeking since) now h = sought_end since now (has_passed answer_wait since now)
none_end (Open e) now h = absurd (cc)
none_end (Leaving e) now h = absurd (cc)
none_end (JustLost c) now h = refl

some_end : (end : ClientEnd) (e : OpenEnd) (now : ℕ) → open_end end ≡ Some e → open_end (expired_end end now) ≡ open_after e now (open_expired e now)
unfolding channel_expired
some_end Idle e now h = absurd (cc)
some_end (Seeking since) e now h = absurd (cc)
some_end (Open d) e now h = let same : (d ≡ e) = (cc) in rw same ((opened_after e now (open_expired e now)).0)
some_end (Leaving d) e now h = let same : (d ≡ e) = (cc) in rw same ((opened_after e now (open_expired e now)).1)
some_end (JustLost c) e now h = absurd (cc)

first : (end : ClientEnd) (now : ℕ) (o : Option OpenEnd) → open_end end ≡ o → repeats_open (open_end (expired_end end now)) now ≡ false
first end now None h = rw (none_end end now h) refl
first end now (Some e) h = rw (some_end end e now h) (open_first e now)

second : (end : ClientEnd) (now : ℕ) (o : Option OpenEnd) → open_end end ≡ o → repeats_open o now ≡ false → late_end (expired_end end now) now ≡ false
second end now None h r = rw (none_end end now h) refl
second end now (Some e) h r = rw (some_end end e now h) (open_second e now r)

pub twice : (end : ClientEnd) (now : ℕ) → late_end (expired_end (expired_end end now) now) now ≡ false
twice end now = second (expired_end end now) now (open_end (expired_end end now)) refl (first end now (open_end end) refl)
