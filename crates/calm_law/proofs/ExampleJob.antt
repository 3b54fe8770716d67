-- The calm run of a job is one: the premises of the law can be met.
use Rattle.std.proofs.Common.{◌≡◌, ℕ, zero, suc, ◌+◌, ◌<◌, List, [], ◌∷◌, ◌++◌, Bool, true, false, cond, Option, Some, None, refl, sym, ◌∙◌, ap, subst, arith, inl, inr, drop}
use Rattle.std.specs.Prelude.{◌==◌}
use Rattle.std.specs.List.{AllByRecursion}
use Rattle.std.proofs.lemmas.Bool.{eqb-true}
use Rattle.knx_model.specs.declared.connection.TransportFrame.TheVariants.{Connect}
use Rattle.knx_model.specs.declared.device.FrameSupport.{FrameSupport}
use Rattle.knx_model.specs.declared.device.FrameSupport.TheVariants.{Standard, Extended}
use Rattle.knx_model.specs.declared.frames.cemi.Ldata.{Ldata}
use Rattle.knx_model.specs.declared.plan.Expect.TheVariants.{Is}
use Rattle.knx_model.specs.ApduReading.{apdu_in, tpdu_in, service_in}
use Rattle.knx_model.specs.ClientConnection.{after_confirmed, client_sent, after_send, client_took, client_after, client_expired, after_overdue}
use Rattle.knx_model.specs.Connection.{frame_in}
use Rattle.knx_model.specs.Device.{NonVolatile, HasCapacities}
use Rattle.knx_model.specs.DeviceConnection.{device_took, device_after, device_answered, after_answer, device_expired}
use Rattle.knx_model.specs.DeviceSending.{next_sending}
use Rattle.knx_model.specs.DeviceState.{DeviceState, device_with}
use Rattle.knx_model.specs.Plans.{Over}
use Rattle.knx_model.specs.Served.{FitsInto}
use Rattle.line_model.specs.Asks.{moment_of}
use Rattle.line_model.specs.Calm.{AreCalm}
use Rattle.line_model.specs.ClientView.{Deed, after_entry, deed}
use Rattle.line_model.specs.Ends.{EndsAtRest, IsUndecided, BeginsSo, BeginsUndecided}
use Rattle.line_model.specs.Fresh.{IsFresh, IsAtRest, HasNothingToSend, SettledFor}
use Rattle.line_model.specs.Gateway.{Nothing, gateway_took, gateway_expired}
use Rattle.line_model.specs.Haste.{LosesNoTimes}
use Rattle.line_model.specs.Legal.{IsLegal}
use Rattle.line_model.specs.Log.{Job, Untaken, Held, Over as Ended, SameDevice, job_of, state_of, log_before, IsLog, OneDownloaderPerDevice}
use Rattle.line_model.specs.Moments.{transport_of, where_is, is_to, put_frame, put_to}
use Rattle.line_model.specs.Reading.{datagram_in, ldata_in}
use Rattle.line_model.specs.Record.{Placed, placed, entries}
use Rattle.line_model.specs.Renews.{RenewsRightly, AcknowledgesRightly}
use Rattle.line_model.specs.Runs.{device, begin, to_device, job, up, told_taken}
use Rattle.line_model.specs.Sendings.{SendsRightly}
use Rattle.line_model.specs.Told.{ToldTruly}
use Rattle.line_model.specs.Tunnel.{Commissions}
use Rattle.line_model.specs.Undisturbed.{HasDevices, IsServedJob}
use Rattle.line_model.specs.Waiting.{IsHeldJob}
use Rattle.line_model.specs.World.{World, now, replay}
use Rattle.line_law.specs.Safe.{EachAsked}
use Rattle.calm_law.specs.CalmJobs.{HavePower, IsPromptClient}
use Rattle.calm_law.specs.CalmLine.{FitsResponse, HaveShortValues}
use Rattle.calm_law.proofs.ShortValues.{zeros_fit}
use Rattle.calm_law.specs.CalmSession.{calm_session, told}
use Rattle.calm_law.proofs.Absent.{all_absent}
use Rattle.calm_law.proofs.Example.{all_over, apart, renews_not, paces_not}
use Rattle.calm_law.proofs.Numbered.{each_of}
use Rattle.calm_law.proofs.LegalCalm.{all_carry, calm_legal}

-- ---- the line and the job

pub served : AllByRecursion IsServedJob (job ∷ [])
unfolding service_in apdu_in tpdu_in
served = (record { sendable = ((omega arith, omega arith, omega arith), refl, λ answer. tt); served = λ frames nv c. (fits frames, refl, λ s. tt) }, tt) where
  fits : (frames : FrameSupport) → FitsInto frames (3 ∷ 0 ∷ [])
  fits Standard = omega arith
  fits Extended = tt

pub devices : (kept : NonVolatile) → HasDevices (job ∷ []) (begin kept)
devices kept = (refl, tt)

pub power : (kept : NonVolatile) → HavePower (begin kept)
power kept a d is = by_address (a == 0x1105) is where
  by_address : (b : Bool) → cond b (Some (device_with device kept)) None ≡ Some d → d.power ≡ true
  by_address true h = let same : device_with device kept ≡ d = cc in ap (λ (x : DeviceState). x.power) (sym same)
  by_address false h = absurd (cc)

fresh : (kept : NonVolatile) → HasCapacities kept → IsFresh (begin kept)
fresh kept c = record { tunnel = refl; echo = refl; devices = λ a d is. by_address a d (a == 0x1105) refl is } where
  first : IsAtRest 0x1105 (device_with device kept)
  first = record { capacities = c; named = refl; unconnected = refl; nothing_unsent = refl; nothing_got = refl }

  by_address : (a : ℕ) (d : DeviceState) (b : Bool) → (a == 0x1105) ≡ b → cond b (Some (device_with device kept)) None ≡ Some d → IsAtRest a d
  by_address a d true e h = (let same : device_with device kept ≡ d = cc in subst (λ n. IsAtRest n d) (sym (eqb-true a 0x1105 e)) (subst (IsAtRest 0x1105) same first))
  by_address a d false e h = absurd (cc)

-- ---- the events

calm_before : (kept : NonVolatile) → AreCalm (begin kept) (drop 1 calm_session)
unfolding datagram_in ldata_in gateway_took frame_in device_took device_after device_answered after_answer apdu_in tpdu_in service_in
calm_before kept = (refl, (tt, (refl, (refl, (refl, (refl, (tt, (refl, (tt, (refl, (refl, (refl, (refl, (tt, (refl, (tt, (refl, ((refl, refl), (refl, (tt, (refl, ((refl, refl), (refl, (tt, (refl, (refl, (refl, (refl, (tt, (refl, (tt, (refl, (refl, (refl, (refl, (tt, (refl, (refl, (tt, (tt, tt))))))))))))))))))))))))))))))))))))))))

-- the last millisecond
abbrev last : NonVolatile → World
last kept = replay (begin kept) (drop 1 calm_session)

abbrev IsQuiet : Option DeviceState → Type 0
IsQuiet None = Unit {0}
IsQuiet (Some d) = next_sending d 0 ≡ None

quiet_device : (kept : NonVolatile) → IsQuiet ((last kept).devices 0x1105)
unfolding datagram_in ldata_in gateway_took frame_in device_took device_after device_answered after_answer apdu_in tpdu_in service_in device_expired
quiet_device kept = refl

quiet_gateway : (kept : NonVolatile) → gateway_expired (last kept).tunnel.gateway 0 ≡ Nothing
unfolding datagram_in ldata_in gateway_took frame_in device_took device_after device_answered after_answer apdu_in tpdu_in service_in gateway_expired
quiet_gateway kept = refl

quiet_devices : (kept : NonVolatile) (a : ℕ) (d : DeviceState) → (last kept).devices a ≡ Some d → next_sending d 0 ≡ None
quiet_devices kept a d is = by_address (a == 0x1105) refl where
  by_address : (b : Bool) → (a == 0x1105) ≡ b → next_sending d 0 ≡ None
  by_address true e = subst IsQuiet (ap (λ n. (last kept).devices n) (sym (eqb-true a 0x1105 e)) ∙ is) (quiet_device kept)
  by_address false e =
      let none : (last kept).devices a ≡ None = all_absent (begin kept) a (ap (λ b. cond b (Some (device_with device kept)) None) e) (drop 1 calm_session) (calm_before kept) in
      absurd (let x : None ≡ Some d = sym none ∙ is in cc)

nothing_due : (kept : NonVolatile) → HasNothingToSend (last kept) 0
nothing_due kept = record { devices = quiet_devices kept; gateway = quiet_gateway kept }

now_is : (kept : NonVolatile) → now (last kept) ≡ 0
unfolding datagram_in ldata_in gateway_took frame_in device_took device_after device_answered after_answer apdu_in tpdu_in service_in
now_is kept = refl

later : {n : ℕ} (t : ℕ) → t < 1 → n ≡ 0 → 0 ≡ n + t
later t lt e = omega (arith, lt, e)

settled_for : (kept : NonVolatile) → SettledFor Commissions (last kept) 1
unfolding datagram_in ldata_in gateway_took frame_in device_took device_after device_answered after_answer apdu_in tpdu_in service_in
settled_for kept = record {
  settled = record {
    tunnel = record {
      up = λ age s e. inl (all_over (last kept).tunnel.network.up (omega arith, (omega arith, (omega arith, (omega arith, (omega arith, (omega arith, (omega arith, (omega arith, (omega arith, (omega arith, (omega arith, tt))))))))))) age s e);
      down = λ age s e. inl (all_over (last kept).tunnel.network.down (omega arith, (omega arith, (omega arith, (omega arith, (omega arith, (omega arith, (omega arith, (omega arith, (omega arith, (omega arith, (omega arith, tt))))))))))) age s e);
      bus = refl;
    };
    nothing_to_send = nothing_due kept;
  };
  still = λ t lt. (let z : 0 ≡ now (last kept) + t = later t lt (now_is kept) in subst (λ n. HasNothingToSend (last kept) n) z (nothing_due kept));
}

pub calm : (kept : NonVolatile) → AreCalm (begin kept) calm_session
calm kept = (settled_for kept, calm_before kept)

carry_all : (kept : NonVolatile) → all_carry (begin kept) calm_session ≡ true
unfolding datagram_in ldata_in gateway_took frame_in device_took device_after device_answered after_answer apdu_in tpdu_in service_in
carry_all kept = refl

legal : (kept : NonVolatile) → IsLegal Commissions (begin kept) calm_session
legal kept = calm_legal (begin kept) calm_session (calm kept) (carry_all kept)

pub values : (kept : NonVolatile) → HaveShortValues (begin kept)
values kept a d is = by_address (a == 0x1105) is where
  by_address : (b : Bool) → cond b (Some (device_with device kept)) None ≡ Some d → AllByRecursion FitsResponse d.values
  by_address true h = let same : device_with device kept ≡ d = cc in subst (λ (x : DeviceState). AllByRecursion FitsResponse x.values) same zeros_fit
  by_address false h = absurd (cc)

-- ---- the client

renews : (kept : NonVolatile) → RenewsRightly (entries (placed (begin kept) calm_session))
unfolding datagram_in ldata_in gateway_took frame_in device_took device_after device_answered after_answer apdu_in tpdu_in service_in after_entry deed
renews kept = (renews_not _ _ refl refl, (renews_not _ _ refl refl, (renews_not _ _ refl refl, (renews_not _ _ refl refl, (renews_not _ _ refl refl, (renews_not _ _ refl refl, (renews_not _ _ refl refl, (renews_not _ _ refl refl, (renews_not _ _ refl refl, (renews_not _ _ refl refl, (renews_not _ _ refl refl, (renews_not _ _ refl refl, (renews_not _ _ refl refl, (renews_not _ _ refl refl, (renews_not _ _ refl refl, (renews_not _ _ refl refl, (renews_not _ _ refl refl, (renews_not _ _ refl refl, (renews_not _ _ refl refl, (renews_not _ _ refl refl, (renews_not _ _ refl refl, (renews_not _ _ refl refl, (record { connects = λ e. refl; leaves = λ e h. cc; tries_left = λ e. cc }, (record { connects = λ e. cc; leaves = λ e h. cc; tries_left = λ e. omega arith }, tt))))))))))))))))))))))))

sends : (kept : NonVolatile) → SendsRightly (entries (placed (begin kept) calm_session))
unfolding datagram_in ldata_in gateway_took frame_in device_took device_after device_answered after_answer apdu_in tpdu_in service_in after_entry deed
sends kept = (tt, (refl, (tt, (tt, (record { in_it = refl; numbered = refl; one_at_a_time = inl refl }, (refl, (tt, (tt, (record { in_it = refl; numbered = refl; one_at_a_time = inl refl }, (refl, (tt, (refl, (tt, (refl, (tt, (tt, (record { in_it = refl; numbered = refl; one_at_a_time = inl refl }, (refl, (tt, (tt, (record { in_it = refl; numbered = refl; one_at_a_time = inl refl }, (tt, (tt, (tt, tt))))))))))))))))))))))))

acknowledges : (kept : NonVolatile) → AcknowledgesRightly (entries (placed (begin kept) calm_session))
unfolding datagram_in ldata_in gateway_took frame_in device_took device_after device_answered after_answer apdu_in tpdu_in service_in after_entry deed
acknowledges kept = (tt, (refl, (tt, (tt, (tt, (refl, (tt, (tt, (tt, (refl, (tt, (refl, (tt, (refl, (tt, (tt, (tt, (refl, (tt, (tt, (tt, (tt, (tt, (tt, tt))))))))))))))))))))))))

asks : (kept : NonVolatile) → EachAsked (job ∷ []) [] told (placed (begin kept) calm_session)
unfolding datagram_in ldata_in gateway_took frame_in device_took device_after device_answered after_answer apdu_in tpdu_in service_in after_entry deed client_sent after_send client_took client_after client_expired after_overdue after_confirmed
asks kept = (tt, (tt, (tt, (tt, (record { frame = to_device (0x81 ∷ []); reads = refl; request = refl; place = record { acknowledged = refl; has_confirmation = refl }; why = inr (record { k = 1; job = job; there = refl; worker = 1; since = 4; held = refl; alone = refl; to = refl; may = inl (record { acknowledged = refl; owes_nothing = refl; which = inr (record { session = record { partner = device; expected = 1; number = 1; last = 0 }; up = refl; all = refl }) }) }) }, (tt, (tt, (tt, (record { frame = to_device (0xC2 ∷ []); reads = refl; request = refl; place = record { acknowledged = refl; has_confirmation = refl }; why = inr (record { k = 1; job = job; there = refl; worker = 1; since = 4; held = refl; alone = refl; to = refl; may = ([], refl) }) }, (tt, (tt, (tt, (tt, (tt, (tt, (tt, (record { frame = to_device (0x43 ∷ 0x00 ∷ []); reads = refl; request = refl; place = record { acknowledged = refl; has_confirmation = refl }; why = inr (record { k = 1; job = job; there = refl; worker = 1; since = 4; held = refl; alone = refl; to = refl; may = record { owes_nothing = refl; which = inl (record { session = record { partner = device; expected = 0; number = 0; last = 0 }; up = refl; goes_on = refl; place = 0; expect = Is (0x03 ∷ 0x40 ∷ 0x07 ∷ 0xB0 ∷ []); next = λ answer. Over; head = refl; as_sent = refl }) } }) }, (tt, (tt, (tt, (record { frame = to_device (0x80 ∷ []); reads = refl; request = refl; place = record { acknowledged = refl; has_confirmation = refl }; why = inr (record { k = 1; job = job; there = refl; worker = 1; since = 4; held = refl; alone = refl; to = refl; may = omega arith }) }, (tt, (tt, (tt, tt))))))))))))))))))))))))

-- ---- its log

before_it : (other : ℕ) → other < 1 → SameDevice (Some job) (job_of (job ∷ []) other) → ⊥
before_it zero less same = same
before_it (suc other) less same = omega (arith, less)

is_log : IsLog (job ∷ []) [] 41 told
is_log = (record { so_far = omega arith; later = omega arith; follows = refl }, (record { so_far = omega arith; later = omega arith; follows = (λ e. cc, refl, omega arith, λ other since e. cc) }, tt))

alone : OneDownloaderPerDevice (job ∷ []) told
alone = (tt, (record { alone = λ other worker since same e. cc; in_order = λ other less same e. before_it other less same }, tt))

truly : (kept : NonVolatile) → ToldTruly (job ∷ []) [] (placed (begin kept) calm_session) told
unfolding datagram_in ldata_in gateway_took frame_in device_took device_after device_answered after_answer apdu_in tpdu_in service_in after_entry deed
truly kept = ((refl, refl), (tt, tt))

ends : (kept : NonVolatile) → EndsAtRest (job ∷ []) (placed (begin kept) calm_session) told
unfolding datagram_in ldata_in gateway_took frame_in device_took device_after device_answered after_answer apdu_in tpdu_in service_in after_entry deed client_sent after_send client_took client_after client_expired after_overdue after_confirmed
ends kept = (tt, (tt, tt))

-- ---- no attempt begins but the first

is_the_job : (k : ℕ) (j : Job) → job_of (job ∷ []) k ≡ Some j → j ≡ job
is_the_job k j h = each_of (λ j. j ≡ job) (job ∷ []) (refl, tt) k j h

held_since : (b : Bool) (worker since : ℕ) → cond b (Held 1 4) Untaken ≡ Held worker since → since ≡ 4
held_since true worker since h = cc
held_since false worker since h = absurd (cc)

none_held_last : (k worker since : ℕ) → state_of k told ≡ Held worker since → ⊥
none_held_last k worker since h = by_number (1 == k) h where
  by_number : (b : Bool) → cond b Ended (cond b (Held 1 4) Untaken) ≡ Held worker since → ⊥
  by_number true h = cc
  by_number false h = cc

no_frame : (a : ℕ) (what : Deed) → put_frame what ≡ None → put_to a what ≡ Some Connect → ⊥
no_frame a what none e = let x : None ≡ Some Connect = sym (ap (λ z. transport_of (where_is (is_to a) z)) none) ∙ e in cc

frame_not : (a : ℕ) (what : Deed) (f : Ldata) → put_frame what ≡ Some f → (frame_in f.tpdu ≡ Connect → ⊥) → put_to a what ≡ Some Connect → ⊥
frame_not a what f is other e = by_to (is_to a f) (sym (ap (λ z. transport_of (where_is (is_to a) z)) is) ∙ e) where
  by_to : (b : Bool) → transport_of (cond b (Some f) None) ≡ Some Connect → ⊥
  by_to true h = other (let x : Some (frame_in f.tpdu) ≡ Some Connect = h in cc)
  by_to false h = cc

-- an entry puts nothing, or no T_Connect, or the first one
data Begins (older : List Placed) (p : Placed) : Type 0 where
  NoFrame : put_frame (moment_of older p).what ≡ None → Begins older p
  Else : (f : Ldata) → put_frame (moment_of older p).what ≡ Some f → (frame_in f.tpdu ≡ Connect → ⊥) → Begins older p
  First : BeginsSo (job ∷ []) (log_before p.at told) older (moment_of older p) → Begins older p

abbrev AllBegin : List Placed → Type 0
AllBegin [] = Unit {0}
AllBegin (p ∷ older) = Begins older p × AllBegin older

begins_so : (older : List Placed) (p : Placed) → Begins older p → BeginsSo (job ∷ []) (log_before p.at told) older (moment_of older p)
begins_so older p (NoFrame none) = λ k since j h e. absurd (no_frame j.device.raw (moment_of older p).what none e)
begins_so older p (Else f is other) = λ k since j h e. absurd (frame_not j.device.raw (moment_of older p).what f is other e)
begins_so older p (First h) = h

begins_by : (places : List Placed) → AllBegin places → BeginsUndecided (job ∷ []) told places
begins_by [] h = tt
begins_by (p ∷ older) h = (begins_so older p h.0, begins_by older h.1)

service_not : frame_in (0x43 ∷ 0x00 ∷ []) ≡ Connect → ⊥
unfolding frame_in
service_not e = cc

tack_not : frame_in (0xC2 ∷ []) ≡ Connect → ⊥
unfolding frame_in
tack_not e = cc

leave_not : frame_in (0x81 ∷ []) ≡ Connect → ⊥
unfolding frame_in
leave_not e = cc

undecided : (kept : NonVolatile) → IsUndecided job 4 5 (placed (begin kept) up)
unfolding datagram_in ldata_in gateway_took frame_in device_took device_after device_answered after_answer apdu_in tpdu_in service_in after_entry deed
undecided kept = record { not_through = λ w. cc; not_refused = λ op got expected r. none_answered got r.before r.later r.taken } where
  none_answered : (got : List ℕ) (before later : List (List ℕ)) → [] ≡ later ++ got ∷ before → ⊥
  none_answered got before [] e = cc
  none_answered got before (x ∷ later) e = cc

first_undecided : (kept : NonVolatile) (k since : ℕ) (j : Job) → IsHeldJob (job ∷ []) told_taken k j since → IsUndecided j since 5 (placed (begin kept) up)
first_undecided kept k since j h =
    subst (λ z. IsUndecided z since 5 (placed (begin kept) up)) (sym (is_the_job k j h.there)) (subst (λ z. IsUndecided job z 5 (placed (begin kept) up)) (sym (held_since (1 == k) h.worker since h.held)) (undecided kept))

all_begin : (kept : NonVolatile) → AllBegin (placed (begin kept) calm_session)
unfolding datagram_in ldata_in gateway_took frame_in device_took device_after device_answered after_answer apdu_in tpdu_in service_in after_entry deed
all_begin kept = (NoFrame refl, (NoFrame refl, (NoFrame refl, (NoFrame refl, (Else (to_device (0x81 ∷ [])) refl leave_not, (NoFrame refl, (NoFrame refl, (NoFrame refl, (Else (to_device (0xC2 ∷ [])) refl tack_not, (NoFrame refl, (NoFrame refl, (NoFrame refl, (NoFrame refl, (NoFrame refl, (NoFrame refl, (NoFrame refl, (Else (to_device (0x43 ∷ 0x00 ∷ [])) refl service_not, (NoFrame refl, (NoFrame refl, (NoFrame refl, (First (λ k since j h e. first_undecided kept k since j h), (NoFrame refl, (NoFrame refl, (NoFrame refl, tt))))))))))))))))))))))))

begins : (kept : NonVolatile) → BeginsUndecided (job ∷ []) told (placed (begin kept) calm_session)
begins kept = begins_by (placed (begin kept) calm_session) (all_begin kept)

hastens : (kept : NonVolatile) → LosesNoTimes (job ∷ []) [] told (placed (begin kept) calm_session)
unfolding datagram_in ldata_in gateway_took frame_in device_took device_after device_answered after_answer apdu_in tpdu_in service_in after_entry deed
hastens kept = (record { busy = λ e f k since j h one s. absurd (none_held_last k h.worker since h.held); ends = λ e f. absurd (apart e); pace = paces_not _ _ (omega arith) refl refl refl }, (record { busy = λ e f. absurd (apart e); ends = λ e f. absurd (apart e); pace = paces_not _ _ (omega arith) refl refl refl }, (record { busy = λ e f. absurd (apart e); ends = λ e f. absurd (apart e); pace = paces_not _ _ (omega arith) refl refl refl }, (record { busy = λ e f. absurd (apart e); ends = λ e f. absurd (apart e); pace = paces_not _ _ (omega arith) refl refl refl }, (record { busy = λ e f. absurd (apart e); ends = λ e f. absurd (apart e); pace = paces_not _ _ (omega arith) refl refl refl }, (record { busy = λ e f. absurd (apart e); ends = λ e f. absurd (apart e); pace = paces_not _ _ (omega arith) refl refl refl }, (record { busy = λ e f. absurd (apart e); ends = λ e f. absurd (apart e); pace = paces_not _ _ (omega arith) refl refl refl }, (record { busy = λ e f. absurd (apart e); ends = λ e f. absurd (apart e); pace = paces_not _ _ (omega arith) refl refl refl }, (record { busy = λ e f. absurd (apart e); ends = λ e f. absurd (apart e); pace = paces_not _ _ (omega arith) refl refl refl }, (record { busy = λ e f. absurd (apart e); ends = λ e f. absurd (apart e); pace = paces_not _ _ (omega arith) refl refl refl }, (record { busy = λ e f. absurd (apart e); ends = λ e f. absurd (apart e); pace = paces_not _ _ (omega arith) refl refl refl }, (record { busy = λ e f. absurd (apart e); ends = λ e f. absurd (apart e); pace = paces_not _ _ (omega arith) refl refl refl }, (record { busy = λ e f. absurd (apart e); ends = λ e f. absurd (apart e); pace = paces_not _ _ (omega arith) refl refl refl }, (record { busy = λ e f. absurd (apart e); ends = λ e f. absurd (apart e); pace = paces_not _ _ (omega arith) refl refl refl }, (record { busy = λ e f. absurd (apart e); ends = λ e f. absurd (apart e); pace = paces_not _ _ (omega arith) refl refl refl }, (record { busy = λ e f. absurd (apart e); ends = λ e f. absurd (apart e); pace = paces_not _ _ (omega arith) refl refl refl }, (record { busy = λ e f. absurd (apart e); ends = λ e f. absurd (apart e); pace = paces_not _ _ (omega arith) refl refl refl }, (record { busy = λ e f. absurd (apart e); ends = λ e f. absurd (apart e); pace = paces_not _ _ (omega arith) refl refl refl }, (record { busy = λ e f. absurd (apart e); ends = λ e f. absurd (apart e); pace = paces_not _ _ (omega arith) refl refl refl }, (record { busy = λ e f. absurd (apart e); ends = λ e f. absurd (apart e); pace = paces_not _ _ (omega arith) refl refl refl }, (record { busy = λ e f. absurd (apart e); ends = λ e f. absurd (apart e); pace = paces_not _ _ (omega arith) refl refl refl }, (record { busy = λ e f. absurd (apart e); ends = λ e f. absurd (apart e); pace = paces_not _ _ (omega arith) refl refl refl }, (record { busy = λ e f. absurd (apart e); ends = λ e f. absurd (apart e); pace = paces_not _ _ (omega arith) refl refl refl }, (record { busy = λ e f. absurd (apart e); ends = λ e f. absurd (apart e); pace = record { short = omega arith; beats = λ e. refl; ends_once = λ e f. absurd (apart e); seeks = λ e. tt } }, tt))))))))))))))))))))))))

pub client : (kept : NonVolatile) → HasCapacities kept → IsPromptClient (job ∷ []) [] (begin kept) calm_session told
client kept c =
    record {
      safe = record {
        fresh = fresh kept c;
        legal = legal kept;
        safe = record { form = is_log; alone = alone; truly = truly kept; renews = renews kept; sends = sends kept; asks = asks kept };
      };
      ends = ends kept;
      begins = begins kept;
      acknowledges = acknowledges kept;
      hastens = hastens kept;
    }
