-- The time that a client's end gives as its deadline is the nearest one of the record's, or the last time that there is.
use Rattle.std.proofs.Common.{◌≡◌, ◌⊎◌, inl, inr, ℕ, zero, suc, ◌+◌, ◌<◌, ◌≤◌, List, [], ◌∷◌, ◌++◌, length, min, Bool, true, false, Option, Some, None, refl, sym, subst, ap, ◌∙◌, arith}
use Rattle.std.specs.Prelude.{Contains, nat_le, if◌then◌else◌, IfSome}
use Rattle.std.proofs.lemmas.Bool.Decides.{nat_tests}
use Rattle.std.proofs.lemmas.List.Elements.{Contains-append_left, Contains-append_right, Contains-append_cases}
use Rattle.knx_model.specs.Connection.{wait_end, last_time, earlier_time, nearer}
use Rattle.line_model.specs.Gateway.{acknowledgement_wait}
use Rattle.line_model.specs.Record.{Entry}
use Rattle.line_model.specs.LinkStory.{newest_time}
use Rattle.line_model.specs.ChannelLost.{answer_wait, confirmation_wait, heartbeat_pause, own, acknowledged, confirmed, beats}
use Rattle.line_model.specs.ClientView as seen
use Rattle.line_model.specs.ClientView.{ClientChannel, channel}
use Rattle.line_model.specs.ClientEnd.{ClientEnd, Idle, Seeking, Open, Leaving, JustLost, OpenEnd, request_end, beat_end, earlier_of, channel_deadline}
use Rattle.line_model.specs.Renews.{is_late, last_beat}
use Rattle.line_model.specs.Sendings.{last_request}
use Rattle.line_model.specs.Waiting.{request_deadlines, confirmation_deadlines, death_deadlines, channel_deadlines, PollEnds, AsLongAsItMay, AtDeadline, AtLastTime, LastsUntil}
use Rattle.tunnel_channel.specs.Fits.{HasNone, Knows, IsBeatenRightly, outstanding_of, acknowledged_in, confirmed_in}
use Rattle.tunnel_link.specs.declared.known.Known.{Known}
use Rattle.tunnel_link.specs.Adds.{IsBefore}
use Rattle.tunnel_link.specs.Kept.{confirmation_end, next_due}
use Rattle.tunnel_link.specs.Rights.{FitsNow, FitsRecord}
use Rattle.tunnel_link.proofs.Deadlines.{before_now}

-- ---- it is at most each of these times, and one of them

abbrev IsUpto : Option ℕ → ℕ → Type 0
IsUpto None t = ⊥
IsUpto (Some x) t = x ≤ t

record Nearest (times : List ℕ) (deadline : Option ℕ) : Type 0 where
  pub least : (t : ℕ) → Contains times t → IsUpto deadline t
  pub there : (x : ℕ) → deadline ≡ Some x → Contains times x ⊎ (x ≡ last_time)

some_is : (x y : ℕ) → Some x ≡ Some y → x ≡ y
some_is x y e = cc

in_none : (t : ℕ) → Contains [] t → ⊥
in_none t (k, less, is) = omega (arith, less)

in_one : (x t : ℕ) → Contains (x ∷ []) t → x ≡ t
in_one x t (zero, less, is) = is
in_one x t (suc k, less, is) = absurd (omega (arith, less))

one_in : (x : ℕ) → Contains (x ∷ []) x
one_in x = (0, omega arith, refl)

-- ---- none, one, and both

none_nearest : Nearest [] None
none_nearest = record { least = λ t c. in_none t c; there = λ x e. absurd (let isnt : None ≡ Some x = e in cc) }

ends_by : (wait since : ℕ) → wait_end wait since ≤ since + wait
ends_by wait since = grind (arith, nat_tests)

end_is : (wait since : ℕ) → (since + wait ≡ wait_end wait since) ⊎ (wait_end wait since ≡ last_time)
end_is wait since = by_range (nat_le (since + wait) last_time) refl
  where
    by_range : (b : Bool) → nat_le (since + wait) last_time ≡ b → (since + wait ≡ wait_end wait since) ⊎ (wait_end wait since ≡ last_time)
    by_range true e = inl (rw e refl)
    by_range false e = inr (rw e refl)

one_nearest : (wait since : ℕ) → Nearest ((since + wait) ∷ []) (Some (wait_end wait since))
one_nearest wait since = record {
  least = λ t c. let is : since + wait ≡ t = in_one (since + wait) t c in let le = ends_by wait since in omega (arith, is, le);
  there = λ x e. by_end x (some_is (wait_end wait since) x e) (end_is wait since);
}
  where
    by_end : (x : ℕ) → wait_end wait since ≡ x → (since + wait ≡ wait_end wait since) ⊎ (wait_end wait since ≡ last_time) → Contains ((since + wait) ∷ []) x ⊎ (x ≡ last_time)
    by_end x e (inl is) = inl (subst (λ (n : ℕ). Contains ((since + wait) ∷ []) n) (is ∙ e) (one_in (since + wait)))
    by_end x e (inr is) = inr (sym e ∙ is)

upto_both : (one other : Option ℕ) (t : ℕ) → IsUpto one t ⊎ IsUpto other t → IsUpto (nearer one other) t
upto_both None other t (inl le) = absurd le
upto_both None other t (inr le) = le
upto_both (Some x) None t (inl le) = le
upto_both (Some x) None t (inr le) = absurd le
upto_both (Some x) (Some y) t (inl le) = omega (arith, le)
upto_both (Some x) (Some y) t (inr le) = omega (arith, le)

one_of : (one other : Option ℕ) (x : ℕ) → nearer one other ≡ Some x → (one ≡ Some x) ⊎ (other ≡ Some x)
one_of None other x e = inr e
one_of (Some a) None x e = inl e
one_of (Some a) (Some b) x e = by_less (nat_le a b) refl
  where
    is : min a b ≡ x
    is = some_is (min a b) x e

    by_less : (t : Bool) → nat_le a b ≡ t → (Some a ≡ Some x) ⊎ (Some b ≡ Some x)
    by_less true q = inl (ap Some (let le : a ≤ b = grind (arith, nat_tests) in omega (arith, le, is)))
    by_less false q = inr (ap Some (let le : b ≤ a = grind (arith, nat_tests) in omega (arith, le, is)))

both_nearest : (a b : List ℕ) (one other : Option ℕ) → Nearest a one → Nearest b other → Nearest (a ++ b) (nearer one other)
both_nearest a b one other na nb = record {
  least = λ t c. upto_both one other t (by_part t (Contains-append_cases a b t c));
  there = λ x e. there_in x (one_of one other x e);
}
  where
    by_part : (t : ℕ) → Contains a t ⊎ Contains b t → IsUpto one t ⊎ IsUpto other t
    by_part t (inl c) = inl (na.least t c)
    by_part t (inr c) = inr (nb.least t c)

    put_left : (x : ℕ) → Contains a x ⊎ (x ≡ last_time) → Contains (a ++ b) x ⊎ (x ≡ last_time)
    put_left x (inl c) = inl (Contains-append_left a b x c)
    put_left x (inr e) = inr e

    put_right : (x : ℕ) → Contains b x ⊎ (x ≡ last_time) → Contains (a ++ b) x ⊎ (x ≡ last_time)
    put_right x (inl c) = inl (Contains-append_right a b x c)
    put_right x (inr e) = inr e

    there_in : (x : ℕ) → (one ≡ Some x) ⊎ (other ≡ Some x) → Contains (a ++ b) x ⊎ (x ≡ last_time)
    there_in x (inl e) = put_left x (na.there x e)
    there_in x (inr e) = put_right x (nb.there x e)

-- ---- of an open channel

request_nearest : (sent : List ℕ) (last : Option (List ℕ)) → Nearest (request_deadlines sent) (request_end (outstanding_of sent last))
request_nearest [] last = none_nearest
request_nearest (t ∷ []) last = one_nearest acknowledgement_wait t
request_nearest (s ∷ t ∷ ts) last = one_nearest acknowledgement_wait s

confirmation_nearest : (since : Option ℕ) (has_come : Bool) → Nearest (confirmation_deadlines since has_come) (confirmation_end since has_come)
confirmation_nearest None has_come = none_nearest
confirmation_nearest (Some since) true = none_nearest
confirmation_nearest (Some since) false = one_nearest confirmation_wait since

-- after three heartbeats the answer's end comes before that of the pause
dead_nearest : (last : ℕ) → Nearest ((last + answer_wait) ∷ (last + heartbeat_pause) ∷ []) (Some (wait_end answer_wait last))
dead_nearest last = record {
  least = λ t c. upto_first t (Contains-append_cases ((last + answer_wait) ∷ []) ((last + heartbeat_pause) ∷ []) t c);
  there = λ x e. in_first x ((one_nearest answer_wait last).there x e);
}
  where
    upto_first : (t : ℕ) → Contains ((last + answer_wait) ∷ []) t ⊎ Contains ((last + heartbeat_pause) ∷ []) t → wait_end answer_wait last ≤ t
    upto_first t (inl c) = (one_nearest answer_wait last).least t c
    upto_first t (inr c) = let le = ends_by answer_wait last in let is : last + heartbeat_pause ≡ t = in_one (last + heartbeat_pause) t c in omega (arith, le, is)

    in_first : (x : ℕ) → Contains ((last + answer_wait) ∷ []) x ⊎ (x ≡ last_time) → Contains ((last + answer_wait) ∷ (last + heartbeat_pause) ∷ []) x ⊎ (x ≡ last_time)
    in_first x (inl c) = inl (Contains-append_left ((last + answer_wait) ∷ []) ((last + heartbeat_pause) ∷ []) x c)
    in_first x (inr e) = inr e

beat_nearest : (sent : List ℕ) (last : ℕ) → IsBeatenRightly sent last → Nearest (death_deadlines sent ++ (last + heartbeat_pause) ∷ []) (Some (wait_end (if nat_le 3 (length sent) then answer_wait else heartbeat_pause) last))
beat_nearest [] last h = one_nearest heartbeat_pause last
beat_nearest (t ∷ []) last h = one_nearest heartbeat_pause last
beat_nearest (s ∷ t ∷ []) last h = one_nearest heartbeat_pause last
beat_nearest (s ∷ t ∷ u ∷ []) last h = subst (λ (n : ℕ). Nearest ((n + answer_wait) ∷ (last + heartbeat_pause) ∷ []) (Some (wait_end answer_wait last))) h.0 (dead_nearest last)
beat_nearest (s ∷ t ∷ u ∷ v ∷ ts) last h = absurd h

-- in the order of the record's list
nearest_of_three : (a c b : List ℕ) (one other third : Option ℕ) → Nearest a one → Nearest c other → Nearest b third → Nearest (a ++ (c ++ b)) (nearer (nearer one third) other)
nearest_of_three a c b one other third na nc nb =
    subst (λ (d : Option ℕ). Nearest (a ++ (c ++ b)) d) (same one other third) (both_nearest a (c ++ b) one (nearer other third) na (both_nearest c b other third nc nb))
  where
    same : (x y z : Option ℕ) → nearer x (nearer y z) ≡ nearer (nearer x z) y
    same None None None = refl
    same None None (Some z) = refl
    same None (Some y) None = refl
    same None (Some y) (Some z) = ap Some (omega arith)
    same (Some x) None None = refl
    same (Some x) None (Some z) = refl
    same (Some x) (Some y) None = refl
    same (Some x) (Some y) (Some z) = ap Some (omega arith)

earlier_is : (o : Option ℕ) (t : ℕ) → nearer o (Some t) ≡ Some (earlier_of o t)
earlier_is None t = refl
earlier_is (Some x) t = ap Some (least_is (nat_le x t) refl)
  where
    least_is : (b : Bool) → nat_le x t ≡ b → min x t ≡ earlier_time x t
    least_is true q = rw q (let le : x ≤ t = grind (arith, nat_tests) in omega (arith, le))
    least_is false q = rw q (let le : t ≤ x = grind (arith, nat_tests) in omega (arith, le))

open_nearest : (e : OpenEnd) (left : Bool) (c : ℕ) (l : List Entry) → Knows e left c l → Nearest (channel_deadlines (seen.Open c l)) (nearer (Some (earlier_of (request_end e.request) (beat_end e))) (confirmation_end (acknowledged c l) (confirmed c l)))
open_nearest e left c l k =
    rw k.is (subst (λ (d : Option ℕ). Nearest (channel_deadlines (seen.Open c l)) (nearer d (confirmation_end (acknowledged c l) (confirmed c l)))) (earlier_is (request_end (outstanding_of (own c l).sent (last_request c l))) (wait_end (if nat_le 3 (length (beats c l)) then answer_wait else heartbeat_pause) (last_beat c l)))
    (nearest_of_three (request_deadlines (own c l).sent) (confirmation_deadlines (acknowledged c l) (confirmed c l)) (death_deadlines (beats c l) ++ (last_beat c l + heartbeat_pause) ∷ []) (request_end (outstanding_of (own c l).sent (last_request c l))) (confirmation_end (acknowledged c l) (confirmed c l))
    (Some (wait_end (if nat_le 3 (length (beats c l)) then answer_wait else heartbeat_pause) (last_beat c l))) (request_nearest (own c l).sent (last_request c l)) (confirmation_nearest (acknowledged c l) (confirmed c l)) (beat_nearest (beats c l) (last_beat c l) k.heartbeats)))

-- ---- of what has come of the present endpoint

none_due : (ch : ClientChannel) → HasNone ch → Nearest (channel_deadlines ch) (nearer None (confirmation_end (acknowledged_in ch) (confirmed_in ch)))
none_due seen.Fresh n = none_nearest
none_due (seen.Sought since) n = absurd n
none_due (seen.RefusedBy status) n = none_nearest
none_due seen.Unanswered n = none_nearest
none_due (seen.Open c l) n = absurd n
none_due (seen.Lost c) n = none_nearest

end_nearest : (end : ClientEnd) (ch : ClientChannel) → FitsNow end ch → Nearest (channel_deadlines ch) (nearer (channel_deadline end) (confirmation_end (acknowledged_in ch) (confirmed_in ch)))
unfolding channel_deadline
end_nearest Idle ch f = none_due ch f
end_nearest (Seeking since) ch f = rw f (one_nearest answer_wait since)
end_nearest (Open e) ch f = rw f.is (open_nearest e false f.c f.l f.knows)
end_nearest (Leaving e) ch f = rw f.is (open_nearest e true f.c f.l f.knows)
end_nearest (JustLost c) ch f = absurd f

due_nearest : (k : Known) (r : List Entry) → FitsRecord k r → Nearest (channel_deadlines (channel r)) (next_due k)
due_nearest k r f = rw (f.acknowledged, f.confirmed) (end_nearest k.channel (channel r) f.end)

-- ---- how long is waited

module _ (longest : ℕ) (k : Known) (r : List Entry) (wait : ℕ) (f : FitsRecord k r) (acted : is_late (channel r) (newest_time r) ≡ false) (most : wait ≤ longest) (in_time : IfSome (next_due k) (λ time. newest_time r < time → newest_time r + wait ≤ time))
    (in_range : newest_time r + wait ≤ last_time) where
  abbrev Due : ℕ → Type 0
  Due = Contains (channel_deadlines (channel r))

  upto : (d : Option ℕ) (t : ℕ) → (newest_time r < last_time → IsBefore (newest_time r) d) → IfSome d (λ time. newest_time r < time → newest_time r + wait ≤ time) → IsUpto d t → newest_time r < t → newest_time r + wait ≤ t
  upto None t before waits le lt = absurd le
  upto (Some x) t before waits le lt = by_now (nat_le last_time (newest_time r)) refl
    where
      by_now : (b : Bool) → nat_le last_time (newest_time r) ≡ b → newest_time r + wait ≤ t
      by_now true q = let last : last_time ≤ newest_time r = grind (arith, nat_tests) in omega (arith, last, in_range, lt)
      by_now false q = let first : newest_time r < last_time = grind (arith, nat_tests) in let now : newest_time r < x = before first in let ends : newest_time r + wait ≤ x = waits now in omega (arith, ends, le)

  ends_so : PollEnds longest (λ time. next_due k ≡ Some time) (newest_time r) wait → PollEnds longest Due (newest_time r) wait
  ends_so (AsLongAsItMay is) = AsLongAsItMay is
  ends_so (AtDeadline deadline due lt is) = at_one ((due_nearest k r f).there deadline due)
    where
      at_one : Due deadline ⊎ (deadline ≡ last_time) → PollEnds longest Due (newest_time r) wait
      at_one (inl c) = AtDeadline deadline c lt is
      at_one (inr last) = AtLastTime (is ∙ last)
  ends_so (AtLastTime is) = AtLastTime is

  pub lasts_until : PollEnds longest (λ time. next_due k ≡ Some time) (newest_time r) wait → LastsUntil longest Due (newest_time r) wait
  lasts_until ends = record {
    at_most = most;
    in_range = in_range;
    no_longer = λ deadline c lt. upto (next_due k) deadline (λ first. before_now k r f first acted) in_time ((due_nearest k r f).least deadline c) lt;
    as_long = ends_so ends;
  }
