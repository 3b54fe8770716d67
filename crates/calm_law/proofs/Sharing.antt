-- What comes on a calm line is shared out among the jobs: each request and each frame of a device belongs to a job that is held, group telegrams and strangers aside.
use Rattle.std.proofs.Common.{◌≡◌, ◌≢◌, ℕ, zero, suc, ◌+◌, ◌*◌, ◌<◌, ◌≤◌, ◌⊎◌, List, [], ◌∷◌, length, Bool, true, false, not, ◌&&◌, cond, Option, Some, None, refl, sym, ◌∙◌, ap, subst, inl, inr, arith}
use Rattle.std.specs.Prelude.{is_some, nat_le}
use Rattle.std.proofs.lemmas.Bool.{cases_order, eq-eqb, eqb-true}
use Rattle.std.proofs.lemmas.Bool.Decides.{nat_tests}
use Rattle.knx_model.specs.declared.frames.cemi.Ldata.{Ldata}
use Rattle.line_model.specs.declared.group.GroupTurn.{GroupTurn}
use Rattle.line_model.specs.declared.log.LogEntry.{LogEntry}
use Rattle.line_model.specs.Asks.{IsTurn, IsOfJob, IsRightRequest, IsRightDeed, moment_of}
use Rattle.line_model.specs.ChannelLost.{is_confirmation}
use Rattle.line_model.specs.ClientView.{Deed, Puts, Takes, Loses, Nothing, channel, deed}
use Rattle.line_model.specs.Leaves.{StaysOpen}
use Rattle.line_model.specs.declared.log.LogWhat.{LogWhat}
use Rattle.line_model.specs.declared.log.LogWhat.TheVariants.{Took, Done, Failed, Refused, Sent, Lost}
use Rattle.line_model.specs.Log.{Job, JobState, Untaken, Held, Over, EndsHeld, IsLog, MayFollow, ends_it, job_of, state_of}
use Rattle.line_model.specs.Moments.{Moment, heard_from, is_from, is_to, moments, put_frame, put_to, transport_of, where_is}
use Rattle.line_model.specs.Reading.{is_ind, is_req, ldata_in}
use Rattle.line_model.specs.Record.{Entry, Placed, entries}
use Rattle.line_model.specs.Told.{is_group}
use Rattle.line_model.specs.World.{World}
use Rattle.calm_law.specs.CalmCounts.{HeardSo, NoneHeld, brought, frames_taken, group_requests, is_of_device, is_of_line, is_put, is_stranger, one_for, requests_put, strangers}
use Rattle.calm_law.proofs.Held.{AreUpto, IsTo, TakesIt, EndsIt, Else, after, after_last, after_more, after_other, after_took, ended_not, is_to as is_to_entry, taken_is, took_since}
use Rattle.calm_law.proofs.Numbered.{within}
use Rattle.calm_law.proofs.LogParts.{form_below, taken_split, untaken_before}

-- ---- sums over the jobs

pub sum_upto : ℕ → (ℕ → ℕ) → ℕ
sum_upto zero f = 0
sum_upto (suc n) f = f (suc n) + sum_upto n f

pub sum_le : (n : ℕ) (f g : ℕ → ℕ) → ((k : ℕ) → f k ≤ g k) → sum_upto n f ≤ sum_upto n g
unfolding sum_upto
sum_le zero f g le = omega arith
sum_le (suc n) f g le = let head = le (suc n) in let rest = sum_le n f g le in omega (arith, head, rest)

pub sum_more : (n : ℕ) (f g : ℕ → ℕ) (k w : ℕ) → ((j : ℕ) → f j ≤ g j) → 1 ≤ k → k ≤ n → f k + w ≤ g k → sum_upto n f + w ≤ sum_upto n g
unfolding sum_upto
sum_more zero f g k w le low high gain = absurd (omega (arith, low, high))
sum_more (suc n) f g k w le low high gain = elim (cases_order k (suc n)) [
  | inl same ↦ (let here : f (suc n) + w ≤ g (suc n) = subst (λ z. f z + w ≤ g z) same gain in let rest = sum_le n f g le in omega (arith, here, rest))
  | inr (inl less) ↦ (let rest = sum_more n f g k w le low (omega (arith, less)) gain in let head = le (suc n) in omega (arith, head, rest))
  | inr (inr more) ↦ absurd (omega (arith, more, high))
]

pub sum_bound : (n : ℕ) (f : ℕ → ℕ) (c : ℕ) → ((k : ℕ) → f k ≤ c) → sum_upto n f ≤ n * c
unfolding sum_upto
sum_bound zero f c le = omega arith
sum_bound (suc n) f c le = let head = le (suc n) in let rest = sum_bound n f c le in let all : suc n * c ≡ c + n * c = omega arith in omega (arith, head, rest, all)

-- ---- the shares

pub record Shared (jobs : List Job) (start : World) (log : List LogEntry) (places : List Placed) (most : ℕ) : Type 0 where
  pub shares : ℕ → ℕ
  pub sum : StaysOpen (entries places) → 2 * requests_put (entries places) + frames_taken (entries places) ≤ sum_upto (length jobs) shares + (2 * group_requests (entries places) + strangers start (entries places))
  pub held : (k worker since : ℕ) (job : Job) → job_of jobs k ≡ Some job → state_of k log ≡ Held worker since → shares k ≡ brought job.device.raw (after since (moments places))
  pub over : (k : ℕ) → state_of k log ≡ Over → shares k ≤ most
  pub untaken : (k : ℕ) → state_of k log ≡ Untaken → shares k ≡ 0

-- ---- a moment more

abbrev grown_by : ℕ → Moment → List Moment → JobState → Option Job → ℕ
grown_by old m l (Held worker since) (Some job) = brought job.device.raw (after since (m ∷ l))
grown_by old m l (Held worker since) None = old
grown_by old m l Untaken o = old
grown_by old m l Over o = old

suc_by : (b : Bool) (n : ℕ) → cond b (suc n) n ≡ one_for b + n
suc_by true n = omega arith
suc_by false n = omega arith

module _ (jobs : List Job) (turns : List GroupTurn) (start : World) (log : List LogEntry) (places : List Placed) (most n : ℕ) (p : Placed) (at : p.at ≡ suc n) (upto : AreUpto n (moments places)) (early : (k worker since : ℕ) (job : Job) → job_of jobs k ≡ Some job → state_of k log ≡ Held worker since → since ≤ n) (s : Shared jobs start log places most) where
  abbrev m : Moment
  m = moment_of places p

  abbrev r : List Entry
  r = entries places

  abbrev what : Deed
  what = deed (channel r) p.what

  shares : ℕ → ℕ
  shares k = grown_by (s.shares k) m (moments places) (state_of k log) (job_of jobs k)

  abbrev weight : ℕ → ℕ
  weight a = 2 * one_for (is_some (put_to a what)) + one_for (is_some (heard_from a what))

  grows : (k worker since : ℕ) (job : Job) → job_of jobs k ≡ Some job → state_of k log ≡ Held worker since → shares k ≡ weight job.device.raw + s.shares k
  unfolding shares
  grows k worker since job there held =
      let lt : since < m.at = (let le = early k worker since job there held in omega (arith, le, at)) in
      let old = s.held k worker since job there held in
      let new : shares k ≡ brought job.device.raw (after since (m ∷ moments places)) = ap (λ z. grown_by (s.shares k) m (moments places) z (job_of jobs k)) held ∙ ap (λ z. grown_by (s.shares k) m (moments places) (Held worker since) z) there in
      new ∙ ap (brought job.device.raw) (after_more since m (moments places) lt) ∙ ap (λ z. weight job.device.raw + z) (sym old)

  no_less : (k : ℕ) → s.shares k ≤ shares k
  unfolding shares
  no_less k = by_state (state_of k log) (job_of jobs k) refl refl where
    by_state : (x : JobState) (o : Option Job) → state_of k log ≡ x → job_of jobs k ≡ o → s.shares k ≤ shares k
    by_state (Held worker since) (Some job) held there = let g = grows k worker since job there held in omega (arith, g)
    by_state (Held worker since) None held there = let e : shares k ≡ s.shares k = ap (λ z. grown_by (s.shares k) m (moments places) z (job_of jobs k)) held ∙ ap (λ z. grown_by (s.shares k) m (moments places) (Held worker since) z) there in omega (arith, e)
    by_state Untaken o held there = let e : shares k ≡ s.shares k = ap (λ z. grown_by (s.shares k) m (moments places) z (job_of jobs k)) held in omega (arith, e)
    by_state Over o held there = let e : shares k ≡ s.shares k = ap (λ z. grown_by (s.shares k) m (moments places) z (job_of jobs k)) held in omega (arith, e)

  abbrev Gains : ℕ → Type 0
  Gains w = sum_upto (length jobs) s.shares + w ≤ sum_upto (length jobs) shares

  gains_none : Gains 0
  gains_none = let le = sum_le (length jobs) s.shares shares no_less in omega (arith, le)

  gains_of : (k worker since w : ℕ) (job : Job) → job_of jobs k ≡ Some job → state_of k log ≡ Held worker since → w ≤ weight job.device.raw → Gains w
  gains_of k worker since w job there held le =
      let numbered = within jobs k job there in
      let g = grows k worker since job there held in
      sum_more (length jobs) s.shares shares k w no_less numbered.0 numbered.1 (omega (arith, g, le))

  -- what this entry brings is shared out
  abbrev Fair : Deed → Type 0
  Fair d = sum_upto (length jobs) s.shares + (2 * one_for (is_put d) + one_for (is_of_device d)) ≤ sum_upto (length jobs) shares + (2 * one_for (is_group (put_frame d)) + one_for (is_stranger start d))

  put_fair : (octets : List ℕ) → what ≡ Puts octets → IsRightRequest jobs turns log places m octets → Fair (Puts octets)
  put_fair octets is right = by_why right.why where
    by_why : IsTurn jobs turns log places m ⊎ IsOfJob jobs log places m right.frame → Fair (Puts octets)
    by_why (inl turn) =
        let group : one_for (is_group (put_frame (Puts octets))) ≡ 1 = ap (λ d. one_for (is_group (put_frame d))) (sym is) ∙ ap (λ o. one_for (is_group o)) turn.is_its.put ∙ ap one_for turn.is_its.group in
        let none = gains_none in
        omega (arith, group, none)
    by_why (inr job) =
        let a = job.job.device.raw in
        let to : is_to a right.frame ≡ true = rw (job.alone) (eq-eqb right.frame.destination a job.to) in
        let put : put_to a (Puts octets) ≡ transport_of (Some right.frame) = ap (λ o. transport_of (where_is (is_to a) (where_is (λ (f : Ldata). is_req f.code) o))) right.reads ∙ ap (λ b. transport_of (where_is (is_to a) (cond b (Some right.frame) None))) right.request ∙ ap (λ b. transport_of (cond b (Some right.frame) None)) to in
        let two : one_for (is_some (put_to a what)) ≡ 1 = ap (λ d. one_for (is_some (put_to a d))) is ∙ ap (λ o. one_for (is_some o)) put in
        let gains : Gains 2 = gains_of job.k job.worker job.since 2 job.job job.there job.held (omega (arith, two)) in
        omega (arith, gains)

  take_fair : (octets : List ℕ) → what ≡ Takes octets → HeardSo jobs start log places p → StaysOpen (p.what ∷ r) → Fair (Takes octets)
  take_fair octets is heard stays = by_con (is_confirmation (ldata_in octets)) refl where
    of_line : (f : Ldata) → ldata_in octets ≡ Some f → is_of_line start (Some f) ≡ true → sum_upto (length jobs) s.shares + 1 ≤ sum_upto (length jobs) shares
    of_line f reads line = by_test (nat_le (sum_upto (length jobs) s.shares + 1) (sum_upto (length jobs) shares)) refl where
      three : (a b c : Bool) → (a && b && c) ≡ true → (a ≡ true) × (b ≡ true) × (c ≡ true)
      three true true true h = (refl, refl, refl)
      three true true false h = absurd (cc)
      three true false c h = absurd (cc)
      three false b c h = absurd (cc)

      parts : (is_ind f.code ≡ true) × (not f.group ≡ true) × (is_some (start.devices f.source) ≡ true)
      parts = three (is_ind f.code) (not f.group) (is_some (start.devices f.source)) line

      there : start.devices f.source ≢ None
      there e = let z : is_some (start.devices f.source) ≡ false = ap is_some e in let y = parts.2 in cc

      from : is_from f.source f ≡ true
      from = rw (parts.1) (eq-eqb f.source f.source refl)

      heard_is : heard_from f.source what ≡ transport_of (Some f)
      heard_is = ap (heard_from f.source) is ∙ ap (λ o. transport_of (where_is (is_from f.source) (where_is (λ (x : Ldata). is_ind x.code) o))) reads ∙ ap (λ b. transport_of (where_is (is_from f.source) (cond b (Some f) None))) parts.0 ∙ ap (λ b. transport_of (cond b (Some f) None)) from

      some : heard_from f.source what ≢ None
      some e = let z : transport_of (Some f) ≡ None = sym heard_is ∙ e in cc

      one : one_for (is_some (heard_from f.source what)) ≡ 1
      one = ap (λ o. one_for (is_some o)) heard_is

      none_held : (sum_upto (length jobs) s.shares + 1 ≤ sum_upto (length jobs) shares → ⊥) → NoneHeld jobs log f.source
      none_held not_ k worker since job there_is of held = not_ (gains_of k worker since 1 job there_is held (subst (λ a. 1 ≤ 2 * one_for (is_some (put_to a what)) + one_for (is_some (heard_from a what))) (sym of) (let o = one in omega (arith, o))))

      by_test : (b : Bool) → nat_le (sum_upto (length jobs) s.shares + 1) (sum_upto (length jobs) shares) ≡ b → sum_upto (length jobs) s.shares + 1 ≤ sum_upto (length jobs) shares
      by_test true e = grind (arith, nat_tests)
      by_test false e = absurd (heard stays f.source some there (none_held (λ le. (let z : nat_le (sum_upto (length jobs) s.shares + 1) (sum_upto (length jobs) shares) ≡ true = grind (arith, nat_tests) in let y : false ≡ true = sym e ∙ z in cc))))

    by_line : is_confirmation (ldata_in octets) ≡ false → (o : Option Ldata) → ldata_in octets ≡ o → (b : Bool) → is_of_line start o ≡ b → Fair (Takes octets)
    by_line no_con o reads false line =
        let stranger : is_stranger start (Takes octets) ≡ true = ap (λ b. not b && not (is_of_line start (ldata_in octets))) no_con ∙ ap (λ z. not (is_of_line start z)) reads ∙ ap not line in
        let device : is_of_device (Takes octets) ≡ true = ap not no_con in
        let one : one_for (is_stranger start (Takes octets)) ≡ 1 = ap one_for stranger in
        let two : one_for (is_of_device (Takes octets)) ≡ 1 = ap one_for device in
        let none = gains_none in
        omega (arith, none, one, two)
    by_line no_con None reads true line = absurd (cc)
    by_line no_con (Some f) reads true line =
        let device : is_of_device (Takes octets) ≡ true = ap not no_con in
        let two : one_for (is_of_device (Takes octets)) ≡ 1 = ap one_for device in
        let gains = of_line f reads line in
        omega (arith, gains, two)

    by_con : (b : Bool) → is_confirmation (ldata_in octets) ≡ b → Fair (Takes octets)
    by_con true con =
        let device : is_of_device (Takes octets) ≡ false = ap not con in
        let two : one_for (is_of_device (Takes octets)) ≡ 0 = ap one_for device in
        let none = gains_none in
        omega (arith, none, two)
    by_con false con = by_line con (ldata_in octets) refl (is_of_line start (ldata_in octets)) refl

  fair : (d : Deed) → what ≡ d → IsRightDeed jobs turns log places m d → HeardSo jobs start log places p → StaysOpen (p.what ∷ r) → Fair d
  fair (Puts octets) is right heard stays = put_fair octets is right
  fair (Takes octets) is right heard stays = take_fair octets is heard stays
  fair Loses is right heard stays = let none = gains_none in omega (arith, none)
  fair Nothing is right heard stays = let none = gains_none in omega (arith, none)

  pub shared_more : IsRightDeed jobs turns log places m m.what → HeardSo jobs start log places p → Shared jobs start log (p ∷ places) most
  unfolding shares
  shared_more right heard = record {
    shares = shares;
    sum = λ stays.
        (let old = s.sum stays.1 in
        let new = fair what refl right heard stays in
        let puts : requests_put (p.what ∷ r) ≡ one_for (is_put what) + requests_put r = suc_by (is_put what) (requests_put r) in
        let frames : frames_taken (p.what ∷ r) ≡ one_for (is_of_device what) + frames_taken r = suc_by (is_of_device what) (frames_taken r) in
        let groups : group_requests (p.what ∷ r) ≡ one_for (is_group (put_frame what)) + group_requests r = suc_by (is_group (put_frame what)) (group_requests r) in
        let strange : strangers start (p.what ∷ r) ≡ one_for (is_stranger start what) + strangers start r = suc_by (is_stranger start what) (strangers start r) in
        omega (arith, old, new, puts, frames, groups, strange));
    held = λ k worker since job there held. ap (λ z. grown_by (s.shares k) m (moments places) z (job_of jobs k)) held ∙ ap (λ z. grown_by (s.shares k) m (moments places) (Held worker since) z) there;
    over = λ k is. (let old = s.over k is in let e : shares k ≡ s.shares k = ap (λ z. grown_by (s.shares k) m (moments places) z (job_of jobs k)) is in omega (arith, old, e));
    untaken = λ k is. ap (λ z. grown_by (s.shares k) m (moments places) z (job_of jobs k)) is ∙ s.untaken k is;
  }

-- ---- an entry of the log

ends_of : (jobs : List Job) (turns : List GroupTurn) (worker k : ℕ) (log : List LogEntry) (what : LogWhat) → ends_it k what ≡ true → MayFollow jobs turns worker log what → EndsHeld worker (state_of k log)
ends_of jobs turns worker k log (Took j) h may = absurd (cc)
ends_of jobs turns worker k log (Done j) h may = subst (λ z. EndsHeld worker (state_of z log)) (eqb-true j k h) may
ends_of jobs turns worker k log (Failed j signs) h may = subst (λ z. EndsHeld worker (state_of z log)) (eqb-true j k h) may
ends_of jobs turns worker k log (Refused j op got expected) h may = subst (λ z. EndsHeld worker (state_of z log)) (eqb-true j k h) may
ends_of jobs turns worker k log (Sent j) h may = absurd (cc)
ends_of jobs turns worker k log (Lost j) h may = absurd (cc)

pub there_where_held : (jobs : List Job) (turns : List GroupTurn) (count k worker since : ℕ) (log : List LogEntry) → IsLog jobs turns count log → state_of k log ≡ Held worker since → job_of jobs k ≢ None
there_where_held jobs turns count k worker since log form held =
    let s = taken_split jobs turns count k worker since log form held in
    let form_there : IsLog jobs turns count (s.e ∷ s.older) = form_below jobs turns count s.newer (s.e ∷ s.older) (subst (IsLog jobs turns count) s.all form) in
    (subst (λ (what : LogWhat). MayFollow jobs turns s.e.worker s.older what) s.is.0 form_there.0.follows).0

module _ (jobs : List Job) (turns : List GroupTurn) (start : World) (places : List Placed) (most n count : ℕ) (upto : AreUpto n (moments places)) (older : List LogEntry) (e : LogEntry) (at : e.at ≡ n) (form : IsLog jobs turns count (e ∷ older)) (s : Shared jobs start older places most)
    (bound : (k worker since : ℕ) (job : Job) → job_of jobs k ≡ Some job → state_of k older ≡ Held worker since → brought job.device.raw (after since (moments places)) ≤ most) where
  may : MayFollow jobs turns e.worker older e.what
  may = form.0.follows

  by_job : (k worker since : ℕ) → state_of k older ≡ Held worker since → (o : Option Job) → job_of jobs k ≡ o → s.shares k ≤ most
  by_job k worker since held None there = absurd (there_where_held jobs turns count k worker since older form.1 held there)
  by_job k worker since held (Some job) there = let b = bound k worker since job there held in let e2 = s.held k worker since job there held in omega (arith, b, e2)

  ended : (k : ℕ) → EndsHeld e.worker (state_of k older) → s.shares k ≤ most
  ended k ends = by_state (state_of k older) refl ends where
    by_state : (x : JobState) → state_of k older ≡ x → EndsHeld e.worker x → s.shares k ≤ most
    by_state Untaken is h = absurd h
    by_state (Held by since) is h = by_job k by since is (job_of jobs k) refl
    by_state Over is h = absurd h

  held_after : (k worker since : ℕ) (job : Job) → job_of jobs k ≡ Some job → state_of k (e ∷ older) ≡ Held worker since → IsTo k e → s.shares k ≡ brought job.device.raw (after since (moments places))
  held_after k worker since job there held (TakesIt t) =
      let since_is : since ≡ n = took_since k e (state_of k older) worker since t held ∙ at in
      let untaken : state_of k older ≡ Untaken = (subst (MayFollow jobs turns e.worker older) (taken_is k e.what t) may).1 in
      let none : after since (moments places) ≡ [] = ap (λ z. after z (moments places)) since_is ∙ after_last n (moments places) upto in
      s.untaken k untaken ∙ sym (ap (brought job.device.raw) none)
  held_after k worker since job there held (EndsIt t d) = absurd (ended_not k e (state_of k older) worker since t d held)
  held_after k worker since job there held (Else t d) = s.held k worker since job there (sym (after_other k e (state_of k older) t d) ∙ held)

  over_after_it : (k : ℕ) → state_of k (e ∷ older) ≡ Over → IsTo k e → s.shares k ≤ most
  over_after_it k is (TakesIt t) = absurd (let z : Held e.worker e.at ≡ Over = sym (after_took k e (state_of k older) t) ∙ is in cc)
  over_after_it k is (EndsIt t d) = ended k (ends_of jobs turns e.worker k older e.what d may)
  over_after_it k is (Else t d) = s.over k (sym (after_other k e (state_of k older) t d) ∙ is)

  pub shared_logged : Shared jobs start (e ∷ older) places most
  shared_logged = record {
    shares = s.shares;
    sum = s.sum;
    held = λ k worker since job there held. held_after k worker since job there held (is_to_entry k e);
    over = λ k is. over_after_it k is (is_to_entry k e);
    untaken = λ k is. s.untaken k (untaken_before k e older is);
  }

-- ---- at the beginning, and in the end

pub shared_first : (jobs : List Job) (start : World) (most : ℕ) → Shared jobs start [] [] most
shared_first jobs start most = record {
  shares = λ k. 0;
  sum = λ stays. omega arith;
  held = λ k worker since job there held. absurd (let z : Untaken ≡ Held worker since = held in cc);
  over = λ k is. absurd (let z : Untaken ≡ Over = is in cc);
  untaken = λ k is. refl;
}

pub shared_all : (jobs : List Job) (turns : List GroupTurn) (count : ℕ) (start : World) (log : List LogEntry) (places : List Placed) (most : ℕ) → IsLog jobs turns count log → (s : Shared jobs start log places most)
    → ((k worker since : ℕ) (job : Job) → job_of jobs k ≡ Some job → state_of k log ≡ Held worker since → brought job.device.raw (after since (moments places)) ≤ most) → sum_upto (length jobs) s.shares ≤ length jobs * most
shared_all jobs turns count start log places most form s bound = sum_bound (length jobs) s.shares most each where
  by_job : (k worker since : ℕ) → state_of k log ≡ Held worker since → (o : Option Job) → job_of jobs k ≡ o → s.shares k ≤ most
  by_job k worker since held None there = absurd (there_where_held jobs turns count k worker since log form held there)
  by_job k worker since held (Some job) there = let b = bound k worker since job there held in let e2 = s.held k worker since job there held in omega (arith, b, e2)

  by_state : (k : ℕ) (x : JobState) → state_of k log ≡ x → s.shares k ≤ most
  by_state k Untaken is = let z = s.untaken k is in omega (arith, z)
  by_state k (Held worker since) is = by_job k worker since is (job_of jobs k) refl
  by_state k Over is = s.over k is

  each : (k : ℕ) → s.shares k ≤ most
  each k = by_state k (state_of k log) refl
