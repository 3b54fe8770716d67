-- Time passes on a calm line: no attempt runs where the channel has place, and none has begun, so that what rides goes on.
use Rattle.std.proofs.Common.{◌≡◌, ◌≢◌, ◌⊎◌, ℕ, suc, ◌+◌, ◌<◌, ◌≤◌, List, [], ◌∷◌, ◌++◌, length, Bool, true, false, Option, Some, None, refl, sym, ◌∙◌, ap, subst, arith, inl, inr}
use Rattle.std.specs.Prelude.{nat_lt}
use Rattle.knx_model.specs.declared.address.IndAddr.{IndAddr}
use Rattle.knx_model.specs.declared.connection.DeviceExpired.{DeviceExpired}
use Rattle.knx_model.specs.declared.frames.cemi.Ldata.{Ldata}
use Rattle.knx_model.specs.DeviceConnection.{device_expired}
use Rattle.knx_model.specs.DeviceState.{DeviceState}
use Rattle.knx_model.specs.DeviceSending.{next_sending, sending_of}
use Rattle.knx_model.specs.Plans.{Plan}
use Rattle.line_model.specs.declared.log.LogEntry.{LogEntry}
use Rattle.line_model.specs.Tunnel as tunnel
use Rattle.line_model.specs.Tunnel.{Tunnel}
use Rattle.line_model.specs.Record.{Entry, Quiet, Placed, entry, entries}
use Rattle.line_model.specs.ClientView.{Fresh, Nothing, channel}
use Rattle.line_model.specs.Attempts.{Attempts, Resting, Running, begun, attempts}
use Rattle.line_model.specs.Asks.{HasPlace, moment_of}
use Rattle.line_model.specs.Haste.{has_just_waited, HasSent}
use Rattle.line_model.specs.LinkStory.{newest_time}
use Rattle.line_model.specs.Log.{Job, job_of}
use Rattle.line_model.specs.Moments.{Moment, moments, between, stretches, is_connect}
use Rattle.line_model.specs.Waiting.{IsResting, NextIsSending, attempts_of}
use Rattle.line_model.specs.World.{World}
use Rattle.calm_law.proofs.Law.{RidesOn}
use Rattle.calm_law.proofs.Phases.{items_of, Phase, Rests, Opens, Ready, Sends, Served, Awaits, Owes, Acks, Leaves, fly_at, stream_at, attempts_at, Wants, Line}
use Rattle.calm_law.proofs.SessionRests.{rests}
use Rattle.calm_law.proofs.Books.{tried, NotBegun, Books, none_more}
use Rattle.calm_law.proofs.Spending.{Ledger}
use Rattle.calm_law.proofs.Rows.{Devices, Willing, Row, items_in, more, row_nothing}
use Rattle.calm_law.proofs.Held.{HeldJob, AreUpto, between_after, after_more}
use Rattle.calm_law.proofs.Moves.{says_nothing}
use Rattle.calm_law.proofs.Sessions.{OfHeld, Whole, rests_more}

-- ---- a phase in which no attempt runs

pub phase_rests : (me device : IndAddr) (plan : Plan) (k n e now : ℕ) (phase : Phase) → IsResting (attempts_at me device plan k n e now phase) → phase ≡ Rests
phase_rests me device plan k n e now Rests h = refl
phase_rests me device plan k n e now (Opens fly) h = absurd h
phase_rests me device plan k n e now (Ready left closing) h = absurd h
phase_rests me device plan k n e now (Sends place apdu expect next) h = absurd h
phase_rests me device plan k n e now (Served told place apdu expect next o) h = absurd h
phase_rests me device plan k n e now (Awaits place apdu expect next v) h = absurd h
phase_rests me device plan k n e now (Owes left closing v m) h = absurd h
phase_rests me device plan k n e now (Acks fly left closing v m) h = absurd h
phase_rests me device plan k n e now (Leaves fly left) h = absurd h

unsent_none : (l : List Ldata) (due : DeviceExpired) → sending_of l due ≡ None → l ≡ []
unsent_none [] due h = refl
unsent_none (f ∷ l) due h = absurd (cc)

module _ (me : IndAddr) (a : ℕ) (plan : Plan) (old : Option DeviceState) (since : List Moment) (q : List Ldata) (d : DeviceState) (now : ℕ) where
  -- no attempt runs: it waits on for any time
  row_later : (at : ℕ) → Row me a plan old since None q d now → IsResting (tried a plan since) → Row me a plan old since None q d at
  row_later at row is = rested row.phase (phase_rests me d.address plan row.k row.n row.e now row.phase (subst IsResting row.line.attempts_are is)) row.line row.books row.wants where
    rested : (phase : Phase) → phase ≡ Rests → Line me d.address plan row.k row.n row.e phase (tried a plan since) (items_in a q ++ items_of d.unsent) d.connection d.frames d.kept now → Ledger (Willing plan old) a plan row.k row.n row.e phase since → Wants (Willing plan old) plan row.k phase d.frames d.kept → Row me a plan old since None q d at
    rested phase e l b wants =
        let m : Line me d.address plan row.k row.n row.e Rests (tried a plan since) (items_in a q ++ items_of d.unsent) d.connection d.frames d.kept now
        = subst (λ z. Line me d.address plan row.k row.n row.e z (tried a plan since) (items_in a q ++ items_of d.unsent) d.connection d.frames d.kept now) e l in
        record {
          k = row.k;
          n = row.n;
          e = row.e;
          phase = Rests;
          flies = refl;
          line = record { attempts_are = m.attempts_are; stream_is = m.stream_is; connection_is = m.connection_is; good = tt; numbers = m.numbers };
          books = subst (λ z. Ledger (Willing plan old) a plan row.k row.n row.e z since) e b;
          wants = subst (λ z. Wants (Willing plan old) plan row.k z d.frames d.kept) e wants;
          address = row.address;
          power = row.power;
        }

-- ---- whether an attempt has begun

begun_at : (me device : IndAddr) (plan : Plan) (k n e now : ℕ) (phase : Phase) → begun (attempts_at me device plan k n e now phase) ≡ k
begun_at me device plan k n e now Rests = refl
begun_at me device plan k n e now (Opens fly) = refl
begun_at me device plan k n e now (Ready left closing) = refl
begun_at me device plan k n e now (Sends place apdu expect next) = refl
begun_at me device plan k n e now (Served told place apdu expect next o) = refl
begun_at me device plan k n e now (Awaits place apdu expect next v) = refl
begun_at me device plan k n e now (Owes left closing v m) = refl
begun_at me device plan k n e now (Acks fly left closing v m) = refl
begun_at me device plan k n e now (Leaves fly left) = refl

none_begun : (me device : IndAddr) (plan : Plan) (a k n e now : ℕ) (phase : Phase) (l : List Moment) → NotBegun a k phase l → (stretches a l ≡ []) × IsResting (attempts_at me device plan k n e now phase)
none_begun me device plan a k n e now Rests l h = (h.1, tt)
none_begun me device plan a k n e now (Opens fly) l h = absurd h
none_begun me device plan a k n e now (Ready left closing) l h = absurd h
none_begun me device plan a k n e now (Sends place apdu expect next) l h = absurd h
none_begun me device plan a k n e now (Served told place apdu expect next o) l h = absurd h
none_begun me device plan a k n e now (Awaits place apdu expect next v) l h = absurd h
none_begun me device plan a k n e now (Owes left closing v m) l h = absurd h
none_begun me device plan a k n e now (Acks fly left closing v m) l h = absurd h
none_begun me device plan a k n e now (Leaves fly left) l h = absurd h

rest_sends : (t : Attempts) (now : ℕ) → IsResting t → begun t ≡ 1 → NextIsSending t now
rest_sends (Resting k) now h one = omega (arith, one)
rest_sends (Running k x) now h one = absurd h

module _ (me : IndAddr) (a : ℕ) (plan : Plan) (old : Option DeviceState) (since : List Moment) (fly : Option Ldata) (q : List Ldata) (d : DeviceState) (now : ℕ) (row : Row me a plan old since fly q d now) where
  -- none began, or just one
  begun_or_not : (stretches a since ≡ []) ⊎ (begun (tried a plan since) ≡ 1)
  begun_or_not = by_books row.books.0 where
    by_books : Books (Willing plan old) a plan row.k row.n row.e row.phase since → (stretches a since ≡ []) ⊎ (begun (tried a plan since) ≡ 1)
    by_books (inl b) = inl (none_begun me d.address plan a row.k row.n row.e now row.phase since b).0
    by_books (inr (one, o)) = inr (ap begun row.line.attempts_are ∙ begun_at me d.address plan row.k row.n row.e now row.phase ∙ one)

  pub few_began : length (stretches a since) ≤ 1
  few_began = by_books row.books.0 where
    by_books : Books (Willing plan old) a plan row.k row.n row.e row.phase since → length (stretches a since) ≤ 1
    by_books (inl b) = let e = ap (λ (z : List (List Moment)). length z) (none_begun me d.address plan a row.k row.n row.e now row.phase since b).0 in omega (arith, e)
    by_books (inr (one, o)) = let e = ap (λ (z : List (List Moment)). length z) o.is in omega (arith, e)

  -- where none began none runs
  pub unbegun_rests : stretches a since ≡ [] → IsResting (tried a plan since)
  unbegun_rests none = by_books row.books.0 where
    by_books : Books (Willing plan old) a plan row.k row.n row.e row.phase since → IsResting (tried a plan since)
    by_books (inl b) = subst IsResting (sym row.line.attempts_are) (none_begun me d.address plan a row.k row.n row.e now row.phase since b).1
    by_books (inr (one, o)) = absurd (let e : [] ≡ o.stretch ∷ [] = sym none ∙ o.is in cc)

-- where nothing is on its way and nothing is to be sent, no attempt runs
row_rests : (me : IndAddr) (a : ℕ) (plan : Plan) (old : Option DeviceState) (since : List Moment) (d : DeviceState) (now : ℕ) → Row me a plan old since None [] d now → next_sending d now ≡ None → (NextIsSending (tried a plan since) now → IsResting (tried a plan since)) → IsResting (tried a plan since)
row_rests me a plan old since d now row quiet busy =
    let l = row.line in
    let unsent : d.unsent ≡ [] = unsent_none d.unsent (device_expired d.connection now) quiet in
    let stream : stream_at row.n row.e row.phase ≡ [] = sym l.stream_is ∙ ap items_of unsent in
    let so : NextIsSending (attempts_at me d.address plan row.k row.n row.e now row.phase) now → IsResting (attempts_at me d.address plan row.k row.n row.e now row.phase) = subst (λ z. NextIsSending z now → IsResting z) l.attempts_are busy in
    subst IsResting (sym l.attempts_are) (by_phase row.phase (λ s. so s) row.flies stream)
  where
    running : (phase : Phase) → (IsResting (attempts_at me d.address plan row.k row.n row.e now phase) → ⊥) → (NextIsSending (attempts_at me d.address plan row.k row.n row.e now phase) now → IsResting (attempts_at me d.address plan row.k row.n row.e now phase)) → fly_at row.n phase ≡ None → stream_at row.n row.e phase ≡ [] → (phase ≡ Rests → ⊥)
        → IsResting (attempts_at me d.address plan row.k row.n row.e now phase)
    running phase not so f s apart = absurd (apart (rests me d.address plan row.n row.e now row.k phase f s (λ h. not (so h))))

    by_phase : (phase : Phase) → (NextIsSending (attempts_at me d.address plan row.k row.n row.e now phase) now → IsResting (attempts_at me d.address plan row.k row.n row.e now phase)) → fly_at row.n phase ≡ None → stream_at row.n row.e phase ≡ [] → IsResting (attempts_at me d.address plan row.k row.n row.e now phase)
    by_phase Rests so f s = tt
    by_phase (Opens fly) so f s = running (Opens fly) (λ h. h) so f s (λ e. cc)
    by_phase (Ready left closing) so f s = running (Ready left closing) (λ h. h) so f s (λ e. cc)
    by_phase (Sends place apdu expect next) so f s = running (Sends place apdu expect next) (λ h. h) so f s (λ e. cc)
    by_phase (Served told place apdu expect next o) so f s = running (Served told place apdu expect next o) (λ h. h) so f s (λ e. cc)
    by_phase (Awaits place apdu expect next v) so f s = running (Awaits place apdu expect next v) (λ h. h) so f s (λ e. cc)
    by_phase (Owes left closing v m) so f s = running (Owes left closing v m) (λ h. h) so f s (λ e. cc)
    by_phase (Acks fly left closing v m) so f s = running (Acks fly left closing v m) (λ h. h) so f s (λ e. cc)
    by_phase (Leaves fly left) so f s = running (Leaves fly left) (λ h. h) so f s (λ e. cc)

-- and where the job's next frame can be sent, none began
pub row_unbegun : (me : IndAddr) (a : ℕ) (plan : Plan) (old : Option DeviceState) (since : List Moment) (d : DeviceState) (now : ℕ) → Row me a plan old since None [] d now → next_sending d now ≡ None → (1 ≤ begun (tried a plan since) → NextIsSending (tried a plan since) now → ⊥) → stretches a since ≡ []
row_unbegun me a plan old since d now row quiet busy = by_begun (begun_or_not me a plan old since None [] d now row) where
  by_begun : (stretches a since ≡ []) ⊎ (begun (tried a plan since) ≡ 1) → stretches a since ≡ []
  by_begun (inl none) = none
  by_begun (inr one) =
      let not : NextIsSending (tried a plan since) now → ⊥ = busy (omega (arith, one)) in
      let rest : IsResting (tried a plan since) = row_rests me a plan old since d now row quiet (λ s. absurd (not s)) in
      absurd (not (rest_sends (tried a plan since) now rest one))

-- ---- all that rides

-- whether a job of the device is held or none
pub rest_of_both : (Held : Type 0) (t : Attempts) → (Held → IsResting t) → ((Held → ⊥) → IsResting t) → IsResting t
rest_of_both Held (Resting k) held free = tt
rest_of_both Held (Running k x) held free = free held

module _ (jobs : List Job) (then : ℕ → Devices) (start : World) (on_line : (k : ℕ) (job : Job) → job_of jobs k ≡ Some job → start.devices job.device.raw ≢ None) (me : IndAddr) (n : ℕ) (log : List LogEntry) (places : List Placed) (upto_next : AreUpto (suc n) (moments places)) (early : (a : ℕ) (h : HeldJob jobs log a) → h.since ≤ n)
    (devices : Devices) (present : (a : ℕ) → start.devices a ≢ None → devices a ≢ None) (t : Tunnel) (newest : newest_time (entries places) ≡ t.now) where
  abbrev r : List Entry
  r = entries places

  -- nothing is sent by a device, and the client has sent what it can
  module _ (quiet : (a : ℕ) (d : DeviceState) → devices a ≡ Some d → next_sending d t.now ≡ None) (busy : has_just_waited r ≡ false → HasSent jobs log places (suc n)) where
    sent_all : (a : ℕ) (h : HeldJob jobs log a) (plan : Plan) (old : Option DeviceState) (l : List Moment) → OfHeld jobs then log places a h plan old l → HasPlace (channel r) → has_just_waited r ≡ false → 1 ≤ begun (tried a plan l) → NextIsSending (tried a plan l) t.now → ⊥
    sent_all a h plan old l of place idle one sends =
        let l_is : l ≡ between h.since (suc n) (moments places) = of.since_is ∙ sym (between_after h.since (suc n) (moments places) upto_next) in
        let same : tried a plan l ≡ attempts_of h.job h.since (suc n) places
        = ap (λ z. tried a plan z) l_is ∙ ap (λ z. tried a z (between h.since (suc n) (moments places))) of.plan_is ∙ ap (λ (z : ℕ). attempts (record { raw = z }) h.job.plan (between h.since (suc n) (moments places))) (sym h.of_device) in
        busy idle h.number h.since h.job (record { there = h.there; worker = h.worker; held = h.held }) (subst (λ z. 1 ≤ begun z) same one) (subst (λ z. NextIsSending z (newest_time r)) same (subst (λ z. NextIsSending (tried a plan l) z) (sym newest) sends)) place

    -- so no attempt of a job that is held has begun
    pub unbegun : Whole jobs then me log places devices t.now None [] → HasPlace (channel r) → (a : ℕ) (h : HeldJob jobs log a) (since : List Moment) → (plan : Plan) (old : Option DeviceState) → OfHeld jobs then log places a h plan old since
        → ((d : DeviceState) → devices a ≡ Some d → Row me a plan old since None [] d t.now) → (has_just_waited r ≡ true → stretches a since ≡ []) → stretches a since ≡ []
    unbegun w place a h since plan old of rows waited = by_waited (has_just_waited r) refl where
      there : devices a ≢ None
      there = present a (subst (λ z. start.devices z ≢ None) h.of_device (on_line h.number h.job h.there))

      by_device : (o : Option DeviceState) → devices a ≡ o → has_just_waited r ≡ false → stretches a since ≡ []
      by_device None is idle = absurd (there is)
      by_device (Some d) is idle = row_unbegun me a plan old since d t.now (rows d is) (quiet a d is) (sent_all a h plan old since of place idle)

      by_waited : (b : Bool) → has_just_waited r ≡ b → stretches a since ≡ []
      by_waited true e = waited e
      by_waited false e = by_device (devices a) refl e

    pub none_began : (q : List Ldata) → (channel r ≡ Fresh) ⊎ ((q ≡ []) × HasPlace (channel r)) → (w : Whole jobs then me log places devices t.now None q) → (a : ℕ) → HeldJob jobs log a → stretches a (w.since a) ≡ []
    none_began q (inl fresh) w a h = w.fresh fresh a
    none_began q (inr x) w a h =
        unbegun (subst (λ z. Whole jobs then me log places devices t.now None z) x.0 w) x.1 a h (w.since a) (w.plans a) (w.olds a) (w.held a h) (λ d is. subst (λ z. Row me a (w.plans a) (w.olds a) (w.since a) None z d t.now) x.0 (w.riders.rows a d is)) (λ e. w.waited e a h)

  -- ---- time passes

  module _ (ms : ℕ) where
    abbrev x : Entry
    x = entry Quiet (t.now + ms)

    abbrev place : Placed
    place = record { at = suc n; what = x }

    abbrev m : Moment
    m = moment_of places place

    module _ (nothing : m.what ≡ Nothing) (back : channel (x ∷ r) ≡ Fresh → channel r ≡ Fresh) where
      whole_later : (q : List Ldata) (w : Whole jobs then me log places devices t.now None q) → (ms ≡ 0) ⊎ ((a : ℕ) → HeldJob jobs log a → stretches a (w.since a) ≡ []) → Whole jobs then me log (place ∷ places) devices (t.now + ms) None q
      whole_later q w idle =
          record {
            plans = w.plans;
            olds = w.olds;
            since = more m w.since;
            riders = record {
              rows = λ a d is. row_nothing me a (w.plans a) (w.olds a) (w.since a) m (t.now + ms) refl None q d (says_nothing a m nothing) (row_at a d (w.riders.rows a d is) idle);
              told = w.riders.told;
              one = w.riders.one;
            };
            held = λ a h. (let le : h.since ≤ n = early a h in record { plan_is = (w.held a h).plan_is; old_is = (w.held a h).old_is; since_is = ap (λ z. m ∷ z) (w.held a h).since_is ∙ sym (after_more h.since m (moments places) (omega (arith, le))) });
            free = λ a none. rests_more a (w.plans a) m (w.since a) None None (says_nothing a m nothing) (w.free a none);
            lands = tt;
            fresh = λ e a. none_more a m (w.since a) (ap is_connect (says_nothing a m nothing).put) (w.fresh (back e) a);
            waited = λ e a h. none_more a m (w.since a) (ap is_connect (says_nothing a m nothing).put) (by_idle e a h idle);
          }
        where
          row_at : (a : ℕ) (d : DeviceState) → Row me a (w.plans a) (w.olds a) (w.since a) None q d t.now → (ms ≡ 0) ⊎ ((b : ℕ) → HeldJob jobs log b → stretches b (w.since b) ≡ []) → Row me a (w.plans a) (w.olds a) (w.since a) None q d (t.now + ms)
          row_at a d row (inl zero_is) = (let e : t.now ≡ t.now + ms = omega (arith, zero_is) in subst (λ z. Row me a (w.plans a) (w.olds a) (w.since a) None q d z) e row)
          row_at a d row (inr none) =
              row_later me a (w.plans a) (w.olds a) (w.since a) q d t.now (t.now + ms) row
              (rest_of_both (HeldJob jobs log a) (tried a (w.plans a) (w.since a)) (λ h. unbegun_rests me a (w.plans a) (w.olds a) (w.since a) None q d t.now row (none a h)) (w.free a))

          by_idle : nat_lt (newest_time r) (t.now + ms) ≡ true → (a : ℕ) → HeldJob jobs log a → (ms ≡ 0) ⊎ ((b : ℕ) → HeldJob jobs log b → stretches b (w.since b) ≡ []) → stretches a (w.since a) ≡ []
          by_idle e a h (inl zero_is) = absurd (let lt : newest_time r < t.now + ms = grind (arith, e) in omega (arith, lt, newest, zero_is))
          by_idle e a h (inr none) = none a h

      pub pass_rides : ((a : ℕ) (d : DeviceState) → devices a ≡ Some d → next_sending d t.now ≡ None) → (ms ≡ 0) ⊎ (has_just_waited r ≡ false → HasSent jobs log places (suc n))
          → RidesOn (Whole jobs then me log places devices t.now) (Whole jobs then me log (place ∷ places) devices (t.now + ms)) r t (tunnel.Pass ms)
      pass_rides quiet (inl zero_is) = λ q way w. whole_later q w (inl zero_is)
      pass_rides quiet (inr busy) = λ q way w. whole_later q w (inr (λ a h. none_began quiet busy q way w a h))
