-- How a datagram of the client is delivered to the gateway.
use Rattle.std.proofs.Common.{◌≡◌, ◌≢◌, ℕ, suc, ◌==◌, Bool, true, false, ◌&&◌, List, [], ◌∷◌, Option, Some, None, refl, ap, sym, subst, ◌∙◌, if◌then◌else◌}
use Rattle.std.specs.Prelude.{slice_get, nat_lt, nat_le}
use Rattle.std.specs.List.{list_all}
use Rattle.knx_model.specs.declared.frames.ip.IpFrame.{IpFrame}
use Rattle.knx_model.specs.declared.frames.ip.IpFrame.TheVariants as ip
use Rattle.knx_model.specs.declared.script.ScriptLine.{ScriptLine}
use Rattle.knx_model.specs.declared.script.ScriptWhat.{ScriptWhat}
use Rattle.knx_model.specs.declared.script.ScriptWhat.TheVariants as line
use Rattle.knx_model.specs.ScriptText.{are_script_lines, is_script_line, is_script_what, is_count}
use Rattle.line_model.specs.Counts.{asks_connect, is_connect_at, connects_reached}
use Rattle.line_model.specs.Deliveries.{delivery, refused_if}
use Rattle.line_model.specs.Follows.{IsInPlace, IsNextUp}
use Rattle.line_model.specs.Legal.{MayHappen}
use Rattle.line_model.specs.Lines.{Script, script_of, first_said, or_later, status_at, refuses}
use Rattle.line_model.specs.Network.{Sent, OfSent}
use Rattle.line_model.specs.Reading.{datagram_in, is_connect_request}
use Rattle.line_model.specs.Tunnel.{IsConnectRequest}
use Rattle.line_model.specs.World.{World, Event, Up, UpRefused, replay}
use Rattle.bus_sim.specs.RunNow.{RunNow, mode, script, start, world as world_of}
use Rattle.bus_sim.proofs.CalledFor.{no_some, untrue}
use Rattle.bus_sim.proofs.Modes.{up_refused}

-- ---- how a datagram is delivered

pub of_delivery : (P : Event → Type 0) (s : Script) (start : World) (past : List Event) (age : ℕ) → P (Up age) → ((status : ℕ) → P (UpRefused age status)) → P (delivery s start past age)
of_delivery P s start past age up refused = by_test (is_connect_at (replay start past).tunnel.network.up age)
  where
    by_status : (o : Option ℕ) → P (refused_if age o)
    by_status None = up
    by_status (Some status) = refused status

    by_test : (t : Bool) → P (if t then refused_if age (refuses s (suc (connects_reached start past))) else Up age)
    by_test true = by_status (refuses s (suc (connects_reached start past)))
    by_test false = up

is_request : (o : Option IpFrame) → is_connect_request o ≡ true → o ≡ Some ip.ConnectRequest
is_request None e = absurd (untrue e)
is_request (Some ip.ConnectRequest) e = refl
is_request (Some (ip.ConnectResponse c s t)) e = absurd (untrue e)
is_request (Some (ip.StateRequest c)) e = absurd (untrue e)
is_request (Some (ip.StateResponse c s)) e = absurd (untrue e)
is_request (Some (ip.DisconnectRequest c)) e = absurd (untrue e)
is_request (Some (ip.DisconnectResponse c s)) e = absurd (untrue e)
is_request (Some (ip.TunnellingRequest c n f)) e = absurd (untrue e)
is_request (Some (ip.TunnellingAck c n s)) e = absurd (untrue e)

asked : (o : Option Sent) → asks_connect o ≡ true → OfSent IsConnectRequest o
asked None e = absurd (untrue e)
asked (Some s) e = is_request (datagram_in s.octets) e

-- a refused request has a status
both_left : (a b : Bool) → (a && b) ≡ true → a ≡ true
both_left true b e = refl
both_left false b e = absurd (untrue e)

both_right : (a b : Bool) → (a && b) ≡ true → b ≡ true
both_right true b e = e
both_right false b e = absurd (untrue e)

line_status : (what : ScriptWhat) (n s : ℕ) → is_script_what what ≡ true → status_at n what ≡ Some s → s ≢ 0
line_status (line.LoseUp k) n s lines e = absurd (no_some e)
line_status (line.LoseDown k) n s lines e = absurd (no_some e)
line_status (line.RepeatUp k) n s lines e = absurd (no_some e)
line_status (line.RepeatDown k) n s lines e = absurd (no_some e)
line_status (line.LoseTo device k) n s lines e = absurd (no_some e)
line_status (line.LoseFrom device k) n s lines e = absurd (no_some e)
line_status (line.RepeatTo device k) n s lines e = absurd (no_some e)
line_status (line.Cut device k j) n s lines e = absurd (no_some e)
line_status (line.Worn device k) n s lines e = absurd (no_some e)
line_status (line.CloseAfter device k) n s lines e = absurd (no_some e)
line_status (line.DropChannel k) n s lines e = absurd (no_some e)
line_status (line.Off device) n s lines e = absurd (no_some e)
line_status (line.Standard device) n s lines e = absurd (no_some e)
line_status (line.Group after group service) n s lines e = absurd (no_some e)
line_status (line.Refuse k status) n s lines e = by_test (k == n) e
  where
    positive : (x : ℕ) → nat_lt 0 x ≡ true → x ≢ 0
    positive x f none = untrue (sym (ap (λ y. nat_lt 0 y) none) ∙ f)

    by_test : (t : Bool) → (if t then Some status else None) ≡ Some s → s ≢ 0
    by_test true e = let same : status ≡ s = cc in
        subst (λ x. x ≢ 0) same (positive status (both_right (is_count k) (nat_lt 0 status) (both_left (is_count k && nat_lt 0 status) (nat_lt status 256) lines)))
    by_test false e = absurd (no_some e)

pub refused_status : (ls : List ScriptLine) (n status : ℕ) → are_script_lines ls ≡ true → refuses (script_of ls) n ≡ Some status → status ≢ 0
refused_status [] n status lines e = absurd (no_some e)
refused_status (l ∷ ls) n status lines e = by_line (status_at n l.what) refl e (refused_status ls n status (both_right (is_script_line l) (list_all is_script_line ls) lines))
  where
    by_line : (o : Option ℕ) → status_at n l.what ≡ o → or_later o (first_said (status_at n) (script_of ls)) ≡ Some status → (first_said (status_at n) (script_of ls) ≡ Some status → status ≢ 0) → status ≢ 0
    by_line None f e rest = rest e
    by_line (Some s) f e rest = let same : s ≡ status = cc in
        subst (λ x. x ≢ 0) same (line_status l.what n s (both_left (is_script_what l.what) (nat_le l.line 65536) (both_left (is_script_line l) (list_all is_script_line ls) lines)) f)

pub delivered_may : (r : RunNow) (age : ℕ) → are_script_lines r.begun.script ≡ true → MayHappen (mode r) (world_of r) (Up age) → MayHappen (mode r) (world_of r) (delivery (script r) (start r) r.events age)
delivered_may r age lines may = by_test (is_connect_at (world_of r).tunnel.network.up age) refl
  where
    by_status : is_connect_at (world_of r).tunnel.network.up age ≡ true → (o : Option ℕ) → refuses (script r) (suc (connects_reached (start r) r.events)) ≡ o → MayHappen (mode r) (world_of r) (refused_if age o)
    by_status e None f = may
    by_status e (Some status) f = record { tunnel = up_refused (mode r) (world_of r).tunnel age status may.tunnel (asked (slice_get (world_of r).tunnel.network.up age) e) (refused_status r.begun.script (suc (connects_reached (start r) r.events)) status lines f); devices = tt }

    by_test : (t : Bool) → is_connect_at (world_of r).tunnel.network.up age ≡ t → MayHappen (mode r) (world_of r) (if t then refused_if age (refuses (script r) (suc (connects_reached (start r) r.events))) else Up age)
    by_test true e = by_status e (refuses (script r) (suc (connects_reached (start r) r.events))) refl
    by_test false e = may

pub delivered_place : (r : RunNow) (age : ℕ) → IsNextUp (script r) (world_of r) age false → IsInPlace (script r) (mode r) (start r) r.events (delivery (script r) (start r) r.events age)
delivered_place r age next =
    of_delivery (λ e. delivery (script r) (start r) r.events age ≡ e → IsInPlace (script r) (mode r) (start r) r.events e) (script r) (start r) r.events age (λ so. record { next = next; so = so }) (λ status so. record { next = next; so = so }) refl
