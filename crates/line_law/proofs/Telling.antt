-- What an attempt makes of what is taken is what the session's client makes of it.
use Rattle.std.proofs.Common.{◌≡◌, ℕ, List, Bool, true, false, not, ◌&&◌, cond, Option, Some, None, refl, sym, ◌∙◌, ap, subst, if◌then◌else◌}
use Rattle.std.specs.Prelude.{◌==◌, is_some}
use Rattle.knx_model.specs.declared.address.IndAddr.{IndAddr}
use Rattle.knx_model.specs.declared.connection.ClientTook.TheVariants as heard
use Rattle.knx_model.specs.declared.connection.TransportFrame.{TransportFrame}
use Rattle.knx_model.specs.declared.connection.TransportFrame.TheVariants.{Other}
use Rattle.knx_model.specs.declared.frames.cemi.Ldata.{Ldata}
use Rattle.knx_model.specs.declared.frames.cemi.LdataCode.{LdataCode}
use Rattle.knx_model.specs.declared.frames.cemi.LdataCode.TheVariants.{Req, Con, Ind}
use Rattle.knx_model.specs.ClientConnection.{ClientEnd, Asked, Up, Asking, Awaiting, Ended, device_of, client_took, up_took, asking_took}
use Rattle.knx_model.specs.Connection.{frame_in}
use Rattle.knx_model.specs.Plans.{Plan}
use Rattle.line_model.specs.Attempts.{Attempt, Attempts, Resting, Running, confirmed_so, confirmed_attempt, heard_so, heard_attempt, attempts_after}
use Rattle.line_model.specs.ClientView as view
use Rattle.line_model.specs.Moments.{where_is, error_of, transport_of, is_from}
use Rattle.line_model.specs.Reading.{ldata_in, is_con, is_ind}
use Rattle.session_law.specs.World.{Client}
use Rattle.session_law.specs.Client.{hears, confirmed, frame_from}
use Rattle.line_law.proofs.Queue.{is_its, is_by}
use Rattle.line_law.proofs.TakesAny.{client_told}
use Rattle.line_law.proofs.Attempting.{IsWith, Runs, AttemptIs, con_attempt}
use Rattle.line_law.proofs.Hearing.{hears_nothing, hear_attempt}
use Rattle.line_law.proofs.Requests.{heard_none}

-- ---- what is told

-- a confirmation
told_con : (a : ℕ) (plan : Plan) (k : ℕ) (t : Attempt) (c : Client) (now : ℕ) (error b : Bool) (flying : Option TransportFrame) → t.flying ≡ flying → Runs a plan t c → (c.pending ≡ true → b ≡ true) → AttemptIs a plan (confirmed_attempt k t now error flying) (cond {A = Client} b (confirmed c error now) c)
told_con a plan k t c now error true flying e h its = con_attempt a plan k t c error now flying e h
told_con a plan k t c now error false None e h its = h
told_con a plan k t c now error false (Some x) e h its = absurd (let z : false ≡ true = its (sym h.flies ∙ ap is_some e) in cc)

-- a frame of the device
from_by : (a : ℕ) (f : Ldata) (partner : IndAddr) (b : Bool) → partner.raw ≡ a → is_from a f ≡ b → frame_from (Some partner) f ≡ (if b then frame_in f.tpdu else Other)
from_by a f partner b e h = ap (λ z. cond {A = TransportFrame} z (frame_in f.tpdu) Other) (ap (λ z. not f.group && (f.source == z)) e ∙ h)

took_from : (a : ℕ) (f : Ldata) (end : ClientEnd) → IsWith a end → is_from a f ≡ true → client_took end (frame_from (device_of end) f) ≡ client_took end (frame_in f.tpdu)
unfolding client_took
took_from a f (Asked device) w h = refl
took_from a f (Up s) w h = ap (up_took s) (from_by a f s.partner true w h)
took_from a f (Asking s q) w h = ap (asking_took s) (from_by a f s.partner true w h)
took_from a f (Awaiting s) w h = ap (up_took s) (from_by a f s.partner true w h)
took_from a f Ended w h = refl

took_other : (a : ℕ) (f : Ldata) (end : ClientEnd) → IsWith a end → is_from a f ≡ false → client_took end (frame_from (device_of end) f) ≡ heard.Dropped
unfolding client_took
took_other a f (Asked device) w h = refl
took_other a f (Up s) w h = ap (up_took s) (from_by a f s.partner false w h)
took_other a f (Asking s q) w h = ap (asking_took s) (from_by a f s.partner false w h)
took_other a f (Awaiting s) w h = ap (up_took s) (from_by a f s.partner false w h)
took_other a f Ended w h = refl

asked_took : (end : ClientEnd) (device : IndAddr) (frame : TransportFrame) → end ≡ Asked device → client_took end frame ≡ heard.Dropped
unfolding client_took
asked_took end device frame e = ap (λ z. client_took z frame) e

by_second : (x y : Bool) → (x && y) ≡ true → y ≡ true
by_second true y h = h
by_second false y h = absurd (cc)

told_ind : (a : ℕ) (plan : Plan) (k : ℕ) (t : Attempt) (c : Client) (now : ℕ) (f : Ldata) (from by : Bool) → is_from a f ≡ from → is_by a f ≡ by → Runs a plan t c
    → AttemptIs a plan (heard_so now (Running k t) (transport_of (cond {A = Option Ldata} from (Some f) None))) (cond {A = Client} by (hears c now (client_took c.end (frame_from (device_of c.end) f))) c)
told_ind a plan k t c now f true true e b h =
    let took : client_took c.end (frame_from (device_of c.end) f) ≡ client_took t.end (frame_in f.tpdu)
    = took_from a f c.end (subst (IsWith a) h.end_is h.with_it) e ∙ ap (λ z. client_took z (frame_in f.tpdu)) (sym h.end_is) in
    subst (λ z. AttemptIs a plan (heard_attempt k t now (client_took t.end (frame_in f.tpdu))) (hears c now z)) (sym took) (hear_attempt a plan k t c now h (client_took t.end (frame_in f.tpdu)) (λ device q. asked_took t.end device (frame_in f.tpdu) q))
told_ind a plan k t c now f true false e b h = absurd (let z : false ≡ true = sym b ∙ by_second (not f.group) (f.source == a) e in cc)
told_ind a plan k t c now f false true e b h =
    let same : hears c now (client_took c.end (frame_from (device_of c.end) f)) ≡ c = ap (hears c now) (took_other a f c.end (subst (IsWith a) h.end_is h.with_it) e) ∙ hears_nothing c now in
    subst (AttemptIs a plan (Running k t)) (sym same) h
told_ind a plan k t c now f false false e b h = h

told_frame : (a : ℕ) (plan : Plan) (k : ℕ) (t : Attempt) (c : Client) (now : ℕ) (f : Ldata) (code : LdataCode) → f.code ≡ code → Runs a plan t c → (c.pending ≡ true → is_con f.code ≡ true → is_its a f ≡ true)
    → AttemptIs a plan (heard_so now (confirmed_so now (Running k t) (error_of (where_is (λ (x : Ldata). is_con code) (Some f)))) (transport_of (where_is (is_from a) (where_is (λ (x : Ldata). is_ind code) (Some f)))))
    (if is_con code then (if is_its a f then confirmed c f.error now else c) else (if is_ind code && is_by a f then hears c now (client_took c.end (frame_from (device_of c.end) f)) else c))
told_frame a plan k t c now f Req e h its = h
told_frame a plan k t c now f Con e h its =
    subst (λ z. AttemptIs a plan z (cond {A = Client} (is_its a f) (confirmed c f.error now) c)) (sym (heard_none now (confirmed_attempt k t now f.error t.flying)))
    (told_con a plan k t c now f.error (is_its a f) t.flying refl h (λ p. its p (ap is_con e)))
told_frame a plan k t c now f Ind e h its = told_ind a plan k t c now f (is_from a f) (is_by a f) refl refl h

told_by : (a : ℕ) (plan : Plan) (k : ℕ) (t : Attempt) (c : Client) (now : ℕ) (o : Option Ldata) → Runs a plan t c → (c.pending ≡ true → (f : Ldata) → o ≡ Some f → is_con f.code ≡ true → is_its a f ≡ true)
    → AttemptIs a plan (heard_so now (confirmed_so now (Running k t) (error_of (where_is (λ (x : Ldata). is_con x.code) o))) (transport_of (where_is (is_from a) (where_is (λ (x : Ldata). is_ind x.code) o)))) (client_told a now c o)
told_by a plan k t c now None h its = h
told_by a plan k t c now (Some f) h its = told_frame a plan k t c now f f.code refl h (λ p i. its p f refl i)

-- what is taken
pub take_attempt : (a : ℕ) (device : IndAddr) (plan : Plan) (t : Attempts) (c : Client) (content : List ℕ) (now at : ℕ) → device.raw ≡ a → AttemptIs a plan t c → (c.pending ≡ true → (f : Ldata) → ldata_in content ≡ Some f → is_con f.code ≡ true → is_its a f ≡ true)
    → AttemptIs a plan (attempts_after device plan (record { what = view.Takes content; now = now; at = at }) t) (client_told a now c (ldata_in content))
take_attempt a device plan (Resting k) c content now at e h its = tt
take_attempt a device plan (Running k t) c content now at e h its =
    let older : Runs a plan t c = h in
    let P : ℕ → Type 0 = λ z. AttemptIs a plan (heard_so now (confirmed_so now (Running k t) (error_of (where_is (λ (x : Ldata). is_con x.code) (ldata_in content))))
    (transport_of (where_is (is_from z) (where_is (λ (x : Ldata). is_ind x.code) (ldata_in content))))) (client_told a now c (ldata_in content)) in
    subst P (sym e) (told_by a plan k t c now (ldata_in content) older its)

-- nothing comes or goes, or the channel is lost
pub still_attempt : (a : ℕ) (device : IndAddr) (plan : Plan) (t : Attempts) (c : Client) (now at : ℕ) → AttemptIs a plan t c → AttemptIs a plan (attempts_after device plan (record { what = view.Nothing; now = now; at = at }) t) c
still_attempt a device plan (Resting k) c now at h = tt
still_attempt a device plan (Running k t) c now at h = h

pub lost_attempt : (a : ℕ) (device : IndAddr) (plan : Plan) (t : Attempts) (c : Client) (now at : ℕ) → AttemptIs a plan (attempts_after device plan (record { what = view.Loses; now = now; at = at }) t) c
lost_attempt a device plan t c now at = tt

-- without a channel no attempt runs
pub none_runs : (a : ℕ) (plan : Plan) (t : Attempts) (c d : Client) → c.joined ≡ false → AttemptIs a plan t c → AttemptIs a plan t d
none_runs a plan (Resting k) c d e h = tt
none_runs a plan (Running k t) c d e h = absurd (let z : false ≡ true = sym e ∙ h.joined in cc)
