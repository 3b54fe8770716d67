-- In a poll what this end knows stays, while waits go by: the record shows that nothing has lapsed yet, that its channel is lost by the time, or
-- that its try failed.
use Rattle.std.proofs.Common.{◌≡◌, ◌≢◌, ◌⊎◌, inl, inr, ℕ, ◌<◌, ◌≤◌, List, [], ◌∷◌, ◌++◌, length, Bool, true, false, Option, Some, None, refl, sym, subst, ap, ◌∙◌}
use Rattle.std.specs.Prelude.{◌||◌}
use Rattle.std.proofs.lemmas.Bool.{or_parts}
use Rattle.knx_model.specs.declared.frames.ip.IpFrame.TheVariants.{DisconnectRequest}
use Rattle.knx_model.specs.Connection.{has_passed}
use Rattle.line_model.specs.declared.fault.Try.{Try}
use Rattle.line_model.specs.declared.fault.Try.TheVariants as try
use Rattle.line_model.specs.Record.{Item, Put, Renewed, Got, Quiet, Entry, entry, got_in, is_poll, Placed, entries}
use Rattle.line_model.specs.LinkStory.{newest_time}
use Rattle.line_model.specs.ClientView as seen
use Rattle.line_model.specs.ClientView.{ClientChannel, channel, after_entry, Nothing, Loses, deed}
use Rattle.line_model.specs.ChannelLost.{answer_wait, confirmation_wait, own, acknowledged, confirmed, beats, is_given_up, is_unconfirmed, is_dead, has_lapsed}
use Rattle.line_model.specs.Renews.{has_renewed, owed}
use Rattle.line_model.specs.Faults.{tries}
use Rattle.line_model.specs.Leaves.{parting_of}
use Rattle.line_model.specs.Moments.{Moment}
use Rattle.line_model.specs.ClientEnd.{ClientEnd, Idle, Seeking, Open, Leaving, JustLost, OpenEnd, open_end, is_over}
use Rattle.tunnel_channel.specs.Fits.{FitsChannel, Fits, HasNone, Knows, KnowsOpen, end_of}
use Rattle.tunnel_channel.specs.Follows.{is_confirmation_late}
use Rattle.tunnel_channel.proofs.Times.{passed_later, over_later}
use Rattle.tunnel_channel.proofs.Take.{lapsed_alike}
use Rattle.tunnel_channel.proofs.Quiet.{quiet_follows}
use Rattle.tunnel_channel.proofs.Current.{polls_are_current}
use Rattle.tunnel_link.specs.declared.known.Known.{Known}
use Rattle.tunnel_link.specs.Kept.{is_late, is_over_for}
use Rattle.tunnel_link.specs.Rights.{FitsNow, FitsRecord, tries_of}
use Rattle.tunnel_link.specs.Adds.{IsNothing, One, AllNothing, moments_on}
use Rattle.tunnel_link.proofs.MaySend.{fits_of, same_late}
use Rattle.tunnel_link.proofs.PutLast.{poll_put, unread_opens}
use Rattle.tunnel_link.proofs.Partings.{undone_parted, lapsed_parting, still_parting, unheard_parted}
use Rattle.tunnel_link.proofs.Seeks.{none_flies}
use Rattle.tunnel_link.proofs.Quiet.{unread_owes, Rests, open_rests, sought_rests, none_rests, Ends, open_ends, sought_ends, lost_ends, unanswered_ends}

-- ---- what the record shows

pub record HasLapsed (k : Known) (r : List Entry) : Type 0 where
  pub e : OpenEnd
  pub is : open_end k.channel ≡ Some e
  pub lost : channel r ≡ seen.Lost e.channel
  pub over : is_over_for k (newest_time r) ≡ true
  pub failed : tries r ≡ tries_of k.tries
  pub few : length (tries_of k.tries) < 3
  pub paid : owed r ≡ None
  pub parting : parting_of r ≡ Some (DisconnectRequest e.channel)

pub record IsUnheard (k : Known) (r : List Entry) : Type 0 where
  pub since : ℕ
  pub is : k.channel ≡ Seeking since
  pub unanswered : channel r ≡ seen.Unanswered
  pub over : has_passed answer_wait since (newest_time r) ≡ true
  pub acknowledged : k.flight.acknowledged ≡ None
  pub confirmed : k.flight.confirmed ≡ true
  pub failed : tries r ≡ try.NoAnswer ∷ tries_of k.tries
  pub few : length (tries_of k.tries) < 3
  pub paid : owed r ≡ None
  pub parted : parting_of r ≡ None

abbrev pub IsLoss : Moment → Type 0
IsLoss m = m.what ≡ Loses

pub data Waited (k : Known) (old added : List Placed) : Type 0 where
  InTime : FitsRecord k (entries (added ++ old)) → AllNothing old added → Waited k old added
  Lapsed : HasLapsed k (entries (added ++ old)) → One IsLoss (moments_on old added) → Waited k old added
  Unheard : IsUnheard k (entries (added ++ old)) → AllNothing old added → Waited k old added

-- ---- what is over stays so

pub late_later : (o : Option ℕ) (b : Bool) (t now : ℕ) → t ≤ now → is_unconfirmed o b t ≡ true → is_unconfirmed o b now ≡ true
late_later None b t now le h = h
late_later (Some since) true t now le h = h
late_later (Some since) false t now le h = passed_later confirmation_wait since t now le h

up_later : (end : ClientEnd) (e : OpenEnd) (t now : ℕ) → open_end end ≡ Some e → t ≤ now → is_over end t ≡ true → is_over end now ≡ true
up_later Idle e t now is le h = absurd (cc)
up_later (Seeking since) e t now is le h = absurd (cc)
up_later (Open d) e t now is le h = over_later d t now le h
up_later (Leaving d) e t now is le h = over_later d t now le h
up_later (JustLost c) e t now is le h = absurd (cc)

either : (a b c d : Bool) → (a ≡ true → c ≡ true) → (b ≡ true → d ≡ true) → (a || b) ≡ true → (c || d) ≡ true
either true b c d f g h = rw (f refl) refl
either false b true d f g h = refl
either false b false d f g h = g h

pub over_for_later : (k : Known) (e : OpenEnd) (t now : ℕ) → open_end k.channel ≡ Some e → t ≤ now → is_over_for k t ≡ true → is_over_for k now ≡ true
over_for_later k e t now is le h =
    either (is_late k.flight t) (is_over k.channel t) (is_late k.flight now) (is_over k.channel now)
    (late_later k.flight.acknowledged k.flight.confirmed t now le) (up_later k.channel e t now is le) h

-- ---- the end after a poll in which nothing lapsed

pub over_now : (end : ClientEnd) (t : ℕ) (ch before : ClientChannel) → FitsNow end before → FitsChannel end t ch → is_over end t ≡ false → FitsNow end ch
over_now Idle t ch before b f o = f
over_now (Seeking since) t ch before b (inl f) o = f
over_now (Seeking since) t ch before b (inr f) o = absurd (let h = f.over in cc)
over_now (Open e) t ch before b (inl f) o = f
over_now (Open e) t ch before b (inr f) o = absurd (let h = f.over in cc)
over_now (Leaving e) t ch before b (inl f) o = f
over_now (Leaving e) t ch before b (inr f) o = absurd (let h = f.over in cc)
over_now (JustLost c) t ch before b f o = absurd b

pub none_stays : (ch : ClientChannel) (what : Item) (now : ℕ) → is_poll what ≡ true → HasNone ch → after_entry ch (entry what now) ≡ ch
unfolding after_entry
none_stays ch (Put octets) now p n = absurd (cc)
none_stays ch Renewed now p n = absurd (cc)
none_stays seen.Fresh (Got octets) now p n = refl
none_stays (seen.Sought since) (Got octets) now p n = absurd n
none_stays (seen.RefusedBy status) (Got octets) now p n = refl
none_stays seen.Unanswered (Got octets) now p n = refl
none_stays (seen.Open c l) (Got octets) now p n = absurd n
none_stays (seen.Lost c) (Got octets) now p n = refl
none_stays seen.Fresh Quiet now p n = refl
none_stays (seen.Sought since) Quiet now p n = absurd n
none_stays (seen.RefusedBy status) Quiet now p n = refl
none_stays seen.Unanswered Quiet now p n = refl
none_stays (seen.Open c l) Quiet now p n = absurd n
none_stays (seen.Lost c) Quiet now p n = refl

same_renewed : (r : List Entry) (what : Item) (now : ℕ) → is_poll what ≡ true → has_renewed (entry what now ∷ r) ≡ has_renewed r
same_renewed r (Put octets) now p = absurd (cc)
same_renewed r Renewed now p = absurd (cc)
same_renewed r (Got octets) now p = refl
same_renewed r Quiet now p = refl

-- an endpoint without connect request is still the first one
pub still_first : (before end : ClientEnd) (r : List Entry) (what : Item) (now : ℕ) → is_poll what ≡ true → FitsNow before (channel r) → FitsNow end (channel (entry what now ∷ r)) → (channel r ≡ seen.Fresh → has_renewed r ≡ false)
    → (before ≡ Idle) ⊎ (channel (entry what now ∷ r) ≢ seen.Fresh) → channel (entry what now ∷ r) ≡ seen.Fresh → has_renewed (entry what now ∷ r) ≡ false
still_first before end r what now p b f first (inl idle) h =
    let none : HasNone (channel r) = subst (λ (e : ClientEnd). FitsNow e (channel r)) idle b in
    same_renewed r what now p ∙ first (sym (none_stays (channel r) what now p none) ∙ h)
still_first before end r what now p b f first (inr n) h = absurd (n h)

pub idle_or : (end : ClientEnd) (ch : ClientChannel) → FitsNow end ch → (end ≡ Idle) ⊎ (ch ≢ seen.Fresh)
idle_or Idle ch f = inl refl
idle_or (Seeking since) ch f = inr (λ h. absurd (let e : (seen.Sought since ≡ seen.Fresh) = sym f ∙ h in cc))
idle_or (Open e) ch f = inr (λ h. absurd (let g : (seen.Open f.c f.l ≡ seen.Fresh) = sym f.is ∙ h in cc))
idle_or (Leaving e) ch f = inr (λ h. absurd (let g : (seen.Open f.c f.l ≡ seen.Fresh) = sym f.is ∙ h in cc))
idle_or (JustLost c) ch f = absurd f

-- ---- one more entry, which reads as nothing or comes when the time has ended what it would act on

or_second : (a u b : Bool) → u ≡ true → (a || u || b) ≡ true
or_second true u b h = refl
or_second false true b h = refl
or_second false false b h = absurd (cc)

pub late_or_over : (a b : Bool) → (a || b) ≡ true → a ≡ false → b ≡ true
late_or_over true b h n = absurd (cc)
late_or_over false b h n = h

module _ (k : Known) (r : List Entry) (f : FitsRecord k r) (what : Item) (now : ℕ) (poll : is_poll what ≡ true) (le : newest_time r ≤ now) where
  pub late_is : is_late k.flight now ≡ is_confirmation_late (channel r) now
  late_is = same_late k r now f

  pub open_lapsed : (e : OpenEnd) (left : Bool) (o : KnowsOpen e left (channel r)) → (t : Bool) → is_late k.flight now ≡ t → is_over (Open e) now ≡ true ⊎ (t ≡ true) → has_lapsed o.c o.l now ≡ true
  open_lapsed e left o true q over = or_second (is_given_up (own o.c o.l).sent now) (is_unconfirmed (acknowledged o.c o.l) (confirmed o.c o.l) now) (is_dead (beats o.c o.l) now) (sym (ap (λ (ch : ClientChannel). is_confirmation_late ch now) o.is) ∙ sym late_is ∙ q)
  open_lapsed e left o false q (inr t) = absurd (cc)
  open_lapsed e left o false q (inl over) =
      let timely : (is_unconfirmed (acknowledged o.c o.l) (confirmed o.c o.l) now ≡ false) = sym (ap (λ (ch : ClientChannel). is_confirmation_late ch now) o.is) ∙ sym late_is ∙ q in
      let same : (e ≡ end_of o.c o.l) = o.knows.is in
      let knows : Knows (end_of o.c o.l) left o.c o.l = subst (λ (d : OpenEnd). Knows d left o.c o.l) same o.knows in
      lapsed_alike o.c o.l left now knows timely ∙ subst (λ (d : OpenEnd). is_over (Open d) now ≡ true) same over

  pub open_timely : (e : OpenEnd) (left : Bool) (o : KnowsOpen e left (channel r)) → is_late k.flight now ≡ false → is_over (Open e) now ≡ false → has_lapsed o.c o.l now ≡ false
  open_timely e left o q over =
      let timely : (is_unconfirmed (acknowledged o.c o.l) (confirmed o.c o.l) now ≡ false) = sym (ap (λ (ch : ClientChannel). is_confirmation_late ch now) o.is) ∙ sym late_is ∙ q in
      let same : (e ≡ end_of o.c o.l) = o.knows.is in
      let knows : Knows (end_of o.c o.l) left o.c o.l = subst (λ (d : OpenEnd). Knows d left o.c o.l) same o.knows in
      lapsed_alike o.c o.l left now knows timely ∙ subst (λ (d : OpenEnd). is_over (Open d) now ≡ false) same over

  -- it stays in time
  rests_so : (end : ClientEnd) → FitsNow end (channel r) → got_in what ≡ None → is_late k.flight now ≡ false → is_over end now ≡ false → Rests (channel r) (entry what now)
  rests_so Idle g n q over = none_rests (channel r) what now poll g
  rests_so (Seeking since) g n q over = subst (λ (ch : ClientChannel). Rests ch (entry what now)) (sym g) (sought_rests since what now poll n over)
  rests_so (Open e) g n q over = subst (λ (ch : ClientChannel). Rests ch (entry what now)) (sym g.is) (open_rests g.c g.l what now poll n (open_timely e false g q over))
  rests_so (Leaving e) g n q over = subst (λ (ch : ClientChannel). Rests ch (entry what now)) (sym g.is) (open_rests g.c g.l what now poll n (open_timely e true g q over))
  rests_so (JustLost c) g n q over = absurd g

  stays_fit : got_in what ≡ None → is_over_for k now ≡ false → FitsRecord k (entry what now ∷ r) × (deed (channel r) (entry what now) ≡ Nothing)
  stays_fit n o =
      let both = or_parts (is_late k.flight now) (is_over k.channel now) o in
      let rests = rests_so k.channel f.end n both.0 both.1 in
      let fits : Fits k.channel (entry what now ∷ r) = quiet_follows k.channel r what now (fits_of k.channel (newest_time r) (channel r) f.end) le (sym late_is ∙ both.0) poll n in
      let end : FitsNow k.channel (channel (entry what now ∷ r)) = over_now k.channel now (channel (entry what now ∷ r)) (channel r) f.end fits both.1 in (
        record {
          end = end;
          current = polls_are_current r what now poll;
          acknowledged = f.acknowledged ∙ sym rests.still.acked;
          confirmed = f.confirmed ∙ sym rests.still.confirms;
          counts = poll_put k.tunnel k.put (channel r) what now poll (unread_opens (channel r) what now poll n) f.counts;
          failed = f.failed ∙ sym (rests.failed (tries r));
          few = rw (rests.failed (tries r)) f.few;
          paid = unread_owes r (entry what now) n;
          parted = undone_parted r what now poll rests.did f.parted;
          first = still_first k.channel k.channel r what now poll f.end end f.first (idle_or k.channel (channel (entry what now ∷ r)) end);
        },
        rests.did,
      )

  pub few_of : length (tries_of k.tries) < 3
  few_of = rw f.failed f.few

  abbrev Ending : Type 0
  Ending = (HasLapsed k (entry what now ∷ r) × (deed (channel r) (entry what now) ≡ Loses)) ⊎ (IsUnheard k (entry what now ∷ r) × (deed (channel r) (entry what now) ≡ Nothing))

  lapses_so : (e : OpenEnd) (left : Bool) → open_end k.channel ≡ Some e → (o : KnowsOpen e left (channel r)) → is_over_for k now ≡ true → is_over (Open e) now ≡ true ⊎ (is_late k.flight now ≡ true) → Ending
  lapses_so e left is o over why =
      let ends : Ends (channel r) (entry what now) (seen.Lost o.c) Loses (λ t. t) = subst (λ (ch : ClientChannel). Ends ch (entry what now) (seen.Lost o.c) Loses (λ t. t)) (sym o.is) (open_ends o.c o.l what now poll (open_lapsed e left o (is_late k.flight now) refl why)) in
      let same : (e.channel ≡ o.c) = ap (λ (d : OpenEnd). d.channel) o.knows.is in
      let parting : (parting_of (entry what now ∷ r) ≡ Some (DisconnectRequest o.c)) = lapsed_parting r (entry what now) o.c o.l o.c o.is ends.after_is (open_lapsed e left o (is_late k.flight now) refl why) in
      inl (
        record {
          e = e;
          is = is;
          lost = ends.after_is ∙ ap (λ (n : ℕ). seen.Lost n) (sym same);
          over = over;
          failed = ends.failed (tries r) ∙ sym f.failed;
          few = few_of;
          paid = ends.owes;
          parting = parting ∙ ap (λ (n : ℕ). Some (DisconnectRequest n)) (sym same);
        },
        ends.did_is,
      )

  ended_so : (end : ClientEnd) → k.channel ≡ end → FitsNow end (channel r) → is_over_for k now ≡ true → Ending
  ended_so Idle is g over =
      let none = none_flies (channel r) g in
      let late : (is_late k.flight now ≡ false) = rw (f.acknowledged, f.confirmed, none.0) refl in
      absurd (let o : (is_over_for k now ≡ false) = rw (late, is) refl in cc)
  ended_so (Seeking since) is g over =
      let late : (is_late k.flight now ≡ false) = late_is ∙ rw g refl in
      let passed : (has_passed answer_wait since now ≡ true) = sym (ap (λ (end : ClientEnd). is_over end now) is) ∙ late_or_over (is_late k.flight now) (is_over k.channel now) over late in
      let ends : Ends (channel r) (entry what now) seen.Unanswered Nothing (λ t. try.NoAnswer ∷ t) = subst (λ (ch : ClientChannel). Ends ch (entry what now) seen.Unanswered Nothing (λ t. try.NoAnswer ∷ t)) (sym g) (sought_ends since what now poll passed) in
      inr (
        record {
          since = since;
          is = is;
          unanswered = ends.after_is;
          over = passed;
          acknowledged = f.acknowledged ∙ rw g refl;
          confirmed = f.confirmed ∙ rw g refl;
          failed = ends.failed (tries r) ∙ ap (λ (t : List Try). try.NoAnswer ∷ t) (sym f.failed);
          few = few_of;
          paid = ends.owes;
          parted = unheard_parted r (entry what now) ends.after_is;
        },
        ends.did_is,
      )
  ended_so (Open e) is g over = lapses_so e false (rw is refl) g over (by_late (is_late k.flight now) refl)
    where
      by_late : (t : Bool) → is_late k.flight now ≡ t → is_over (Open e) now ≡ true ⊎ (is_late k.flight now ≡ true)
      by_late true q = inr q
      by_late false q = inl (sym (ap (λ (end : ClientEnd). is_over end now) is) ∙ late_or_over (is_late k.flight now) (is_over k.channel now) over q)
  ended_so (Leaving e) is g over = lapses_so e true (rw is refl) g over (by_late (is_late k.flight now) refl)
    where
      by_late : (t : Bool) → is_late k.flight now ≡ t → is_over (Open e) now ≡ true ⊎ (is_late k.flight now ≡ true)
      by_late true q = inr q
      by_late false q = inl (sym (ap (λ (end : ClientEnd). is_over end now) is) ∙ late_or_over (is_late k.flight now) (is_over k.channel now) over q)
  ended_so (JustLost c) is g over = absurd g

-- ---- the waits of a poll, one after another

nothing_more : (m : Moment) (l : List Moment) → IsNothing m → One IsLoss l → One IsLoss (m ∷ l)
nothing_more m l n o = record { newer = m ∷ o.newer; m = o.m; older = o.older; all = ap (λ (x : List Moment). m ∷ x) o.all; is = o.is; newer_nothing = (n, o.newer_nothing); older_nothing = o.older_nothing }

module _ (k : Known) (old added : List Placed) (p : Placed) (poll : is_poll p.what.what ≡ true) (le : newest_time (entries (added ++ old)) ≤ p.what.now) where
  abbrev so_far : List Entry
  so_far = entries (added ++ old)

  pub by_over : (t : Bool) → is_over_for k p.what.now ≡ t → (got_in p.what.what ≡ None) ⊎ (is_over_for k p.what.now ≡ true) → FitsRecord k so_far → AllNothing old added → Waited k old (p ∷ added)
  by_over true q n f a = by_end (ended_so k so_far f p.what.what p.what.now poll le k.channel refl f.end q)
    where
      by_end : Ending k so_far f p.what.what p.what.now poll le → Waited k old (p ∷ added)
      by_end (inl h) = Lapsed h.0 (record { newer = []; m = _; older = moments_on old added; all = refl; is = h.1; newer_nothing = tt; older_nothing = a })
      by_end (inr h) = Unheard h.0 (h.1, a)
  by_over false q (inl n) f a = let g = stays_fit k so_far f p.what.what p.what.now poll le n q in InTime g.0 (g.1, a)
  by_over false q (inr o) f a = absurd (cc)

  pub waited_more : (got_in p.what.what ≡ None) ⊎ (is_over_for k p.what.now ≡ true) → Waited k old added → Waited k old (p ∷ added)
  waited_more n (InTime f a) = by_over (is_over_for k p.what.now) refl n f a
  waited_more n (Lapsed h one) =
      let ends : Ends (channel so_far) p.what (seen.Lost h.e.channel) Nothing (λ t. t) = subst (λ (ch : ClientChannel). Ends ch p.what (seen.Lost h.e.channel) Nothing (λ t. t)) (sym h.lost) (lost_ends h.e.channel p.what.what p.what.now poll) in
      Lapsed (record { e = h.e; is = h.is; lost = ends.after_is; over = over_for_later k h.e (newest_time so_far) p.what.now h.is le h.over; failed = ends.failed (tries so_far) ∙ h.failed; few = h.few; paid = ends.owes; parting = still_parting so_far p.what h.e.channel h.e.channel h.lost ends.after_is poll ∙ h.parting })
      (nothing_more _ (moments_on old added) ends.did_is one)
  waited_more n (Unheard h a) =
      let ends : Ends (channel so_far) p.what seen.Unanswered Nothing (λ t. t) = subst (λ (ch : ClientChannel). Ends ch p.what seen.Unanswered Nothing (λ t. t)) (sym h.unanswered) (unanswered_ends p.what.what p.what.now poll) in
      Unheard (record {
        since = h.since;
        is = h.is;
        unanswered = ends.after_is;
        over = passed_later answer_wait h.since (newest_time so_far) p.what.now le h.over;
        acknowledged = h.acknowledged;
        confirmed = h.confirmed;
        failed = ends.failed (tries so_far) ∙ h.failed;
        few = h.few;
        paid = ends.owes;
        parted = unheard_parted so_far p.what ends.after_is;
      }) (ends.did_is, a)
