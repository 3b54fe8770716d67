-- A session by which a device's descriptor is read, computed.
use Rattle.std.proofs.Common.{ℕ, zero, suc, [], ◌∷◌, ◌<◌, refl, arith, inl, inr, Some}
use Rattle.knx_model.specs.declared.plan.Expect.TheVariants.{Is}
use Rattle.knx_model.specs.ApduReading.{apdu_in, tpdu_in, service_in}
use Rattle.knx_model.specs.ClientConnection.{after_confirmed, client_sent, after_send, client_took, client_after, client_expired, after_overdue}
use Rattle.knx_model.specs.Connection.{frame_in}
use Rattle.knx_model.specs.Device.{NonVolatile}
use Rattle.knx_model.specs.DeviceConnection.{device_took, device_after, device_answered, after_answer}
use Rattle.knx_model.specs.Plans.{Over}
use Rattle.line_model.specs.Asks.{AsksRightly}
use Rattle.line_model.specs.ClientView.{after_entry, deed}
use Rattle.line_model.specs.Follows.{Follows}
use Rattle.line_model.specs.Gateway.{gateway_took}
use Rattle.line_model.specs.Headline.{IsDisciplined}
use Rattle.line_model.specs.Legal.{IsLegal}
use Rattle.line_model.specs.Log.{SameDevice, job_of, IsLog, OneDownloaderPerDevice}
use Rattle.line_model.specs.Reading.{datagram_in, ldata_in}
use Rattle.line_model.specs.Record.{placed, entries}
use Rattle.line_model.specs.Renews.{RenewsRightly, AcknowledgesRightly}
use Rattle.line_model.specs.Runs.{device, begin, whole, job, other_job, told_done, told_refused, to_device}
use Rattle.line_model.specs.Sendings.{SendsRightly}
use Rattle.line_model.specs.Told.{ToldTruly}
use Rattle.line_model.specs.Tunnel.{Commissions}
use Rattle.line_model.specs.Written.{AllWritten}
use Rattle.line_model.proofs.Passes.{legal_by}
use Rattle.line_model.proofs.Writings.{connect_written, ack_written, request_written}

pub legal : (kept : NonVolatile) → IsLegal Commissions (begin kept) whole
unfolding datagram_in ldata_in gateway_took frame_in device_took device_after device_answered after_answer apdu_in tpdu_in service_in
legal kept = legal_by (begin kept) whole refl

pub follows : (kept : NonVolatile) → Follows [] Commissions (begin kept) whole
unfolding datagram_in ldata_in gateway_took frame_in device_took device_after device_answered after_answer apdu_in tpdu_in service_in
follows kept = (record { next = record { next = refl; says = refl }; so = refl }, (tt, (record { next = refl; says = refl }, (record { next = refl; says = refl }, (refl, (record { next = record { next = refl; says = refl }; so = refl }, (tt, (record { next = record { next = refl; says = refl }; so = refl }, (tt, (record { next = refl; says = refl }, ((refl, refl), (record { next = record { next = refl; says = refl }; so = refl }, (tt, (record { next = refl; says = refl }, ((refl, refl), (record { next = record { next = refl; says = refl }; so = refl }, (tt, (record { next = refl; says = refl }, (record { next = refl; says = refl }, (refl, (record { next = record { next = refl; says = refl }; so = refl }, (tt, (record { next = record { next = refl; says = refl }; so = refl }, (tt, (record { next = refl; says = refl }, (record { next = refl; says = refl }, (refl, (record { next = record { next = refl; says = refl }; so = refl }, (tt, (record { next = refl; says = refl }, (record { next = record { next = refl; says = refl }; so = refl }, (tt, (tt, tt)))))))))))))))))))))))))))))))))

-- ---- a hub that does this keeps the discipline, and tells truly

-- there is no job before the first
before_it : (other : ℕ) → other < 1 → SameDevice (Some job) (job_of (job ∷ []) other) → ⊥
before_it zero less same = same
before_it (suc other) less same = omega arith

is_log : (kept : NonVolatile) → IsLog (job ∷ []) [] 33 told_done
is_log kept = (record { so_far = omega arith; later = omega arith; follows = refl }, (record { so_far = omega arith; later = omega arith; follows = (λ e. cc, refl, omega arith, λ other since e. cc) }, tt))

alone : OneDownloaderPerDevice (job ∷ []) told_done
alone = (tt, (record { alone = λ other worker since same e. cc; in_order = λ other less same e. before_it other less same }, tt))

truly : (kept : NonVolatile) → ToldTruly (job ∷ []) [] (placed (begin kept) whole) told_done
unfolding datagram_in ldata_in gateway_took frame_in device_took device_after device_answered after_answer apdu_in tpdu_in service_in after_entry deed
truly kept = ((refl, refl), (tt, tt))

pub refused : (kept : NonVolatile) → ToldTruly (other_job ∷ []) [] (placed (begin kept) whole) told_refused
unfolding datagram_in ldata_in gateway_took frame_in device_took device_after device_answered after_answer apdu_in tpdu_in service_in after_entry deed
refused kept = (record { n = 1; judged = refl; later = []; before = []; taken = refl; why = inl (record { earlier = 0; last = refl; left = other_job.plan; so_far = refl; differs = (refl, λ e. cc, refl) }) }, (tt, tt))

renews : (kept : NonVolatile) → RenewsRightly (entries (placed (begin kept) whole))
unfolding datagram_in ldata_in gateway_took frame_in device_took device_after device_answered after_answer apdu_in tpdu_in service_in after_entry deed
renews kept = (record { connects = λ e. cc; leaves = λ e h. cc; tries_left = λ e. cc }, (record { connects = λ e. cc; leaves = λ e h. cc; tries_left = λ e. cc }, (record { connects = λ e. cc; leaves = λ e h. cc; tries_left = λ e. cc }, (record { connects = λ e. cc; leaves = λ e h. cc; tries_left = λ e. cc }, (record { connects = λ e. cc; leaves = λ e h. cc; tries_left = λ e. cc }, (record { connects = λ e. cc; leaves = λ e h. cc; tries_left = λ e. cc }, (record { connects = λ e. cc; leaves = λ e h. cc; tries_left = λ e. cc }, (record { connects = λ e. cc; leaves = λ e h. cc; tries_left = λ e. cc }, (record { connects = λ e. cc; leaves = λ e h. cc; tries_left = λ e. cc }, (record { connects = λ e. cc; leaves = λ e h. cc; tries_left = λ e. cc }, (record { connects = λ e. cc; leaves = λ e h. cc; tries_left = λ e. cc }, (record { connects = λ e. cc; leaves = λ e h. cc; tries_left = λ e. cc }, (record { connects = λ e. cc; leaves = λ e h. cc; tries_left = λ e. cc }, (record { connects = λ e. cc; leaves = λ e h. cc; tries_left = λ e. cc }, (record { connects = λ e. cc; leaves = λ e h. cc; tries_left = λ e. cc }, (record { connects = λ e. cc; leaves = λ e h. cc; tries_left = λ e. cc }, (record { connects = λ e. cc; leaves = λ e h. cc; tries_left = λ e. cc }, (record { connects = λ e. refl; leaves = λ e h. cc; tries_left = λ e. cc }, (record { connects = λ e. cc; leaves = λ e h. cc; tries_left = λ e. omega arith }, tt)))))))))))))))))))

acknowledges : (kept : NonVolatile) → AcknowledgesRightly (entries (placed (begin kept) whole))
unfolding datagram_in ldata_in gateway_took frame_in device_took device_after device_answered after_answer apdu_in tpdu_in service_in after_entry deed
acknowledges kept = (refl, (tt, (tt, (tt, (refl, (tt, (refl, (tt, (refl, (tt, (tt, (tt, (refl, (tt, (tt, (tt, (tt, (tt, (tt, tt)))))))))))))))))))

sends : (kept : NonVolatile) → SendsRightly (entries (placed (begin kept) whole))
unfolding datagram_in ldata_in gateway_took frame_in device_took device_after device_answered after_answer apdu_in tpdu_in service_in after_entry deed
sends kept = (refl, (tt, (tt, (record { in_it = refl; numbered = refl; one_at_a_time = inl refl }, (refl, (tt, (refl, (tt, (refl, (tt, (tt, (record { in_it = refl; numbered = refl; one_at_a_time = inl refl }, (refl, (tt, (tt, (record { in_it = refl; numbered = refl; one_at_a_time = inl refl }, (tt, (tt, (tt, tt)))))))))))))))))))

writes : (kept : NonVolatile) → AllWritten (entries (placed (begin kept) whole))
unfolding datagram_in ldata_in gateway_took frame_in device_took device_after device_answered after_answer apdu_in tpdu_in service_in after_entry deed
writes kept = (ack_written 4, (tt, (tt, (request_written 2 (0xC2 ∷ []), (ack_written 3, (tt, (ack_written 2, (tt, (ack_written 1, (tt, (tt, (request_written 1 (0x43 ∷ 0x00 ∷ []), (ack_written 0, (tt, (tt, (request_written 0 (0x80 ∷ []), (tt, (connect_written, (tt, tt)))))))))))))))))))

asks : (kept : NonVolatile) → AsksRightly (job ∷ []) [] told_done (placed (begin kept) whole)
unfolding datagram_in ldata_in gateway_took frame_in device_took device_after device_answered after_answer apdu_in tpdu_in service_in after_entry deed client_sent after_send client_took client_after client_expired after_overdue after_confirmed
asks kept = record { acknowledges = acknowledges kept; each = (record { asks = tt; prompt = λ u e. refl }, (record { asks = tt; prompt = λ u e. refl }, (record { asks = tt; prompt = λ u e. refl }, (record { asks = record { frame = to_device (0xC2 ∷ []); reads = refl; request = refl; place = record { acknowledged = refl; has_confirmation = refl }; why = inr (record { k = 1; job = job; there = refl; worker = 1; since = 4; held = refl; alone = refl; to = refl; may = ([], refl) }) }; prompt = λ u e. refl }, (record { asks = tt; prompt = λ u e. refl }, (record { asks = tt; prompt = λ u e. refl }, (record { asks = tt; prompt = λ u e. refl }, (record { asks = tt; prompt = λ u e. refl }, (record { asks = tt; prompt = λ u e. refl }, (record { asks = tt; prompt = λ u e. refl }, (record { asks = tt; prompt = λ u e. refl }, (record { asks = record { frame = to_device (0x43 ∷ 0x00 ∷ []); reads = refl; request = refl; place = record { acknowledged = refl; has_confirmation = refl }; why = inr (record { k = 1; job = job; there = refl; worker = 1; since = 4; held = refl; alone = refl; to = refl; may = record { owes_nothing = refl; which = inl (record { session = record { partner = device; expected = 0; number = 0; last = 0 }; up = refl; goes_on = refl; place = 0; expect = Is (0x03 ∷ 0x40 ∷ 0x07 ∷ 0xB0 ∷ []); next = λ answer. Over; head = refl; as_sent = refl }) } }) }; prompt = λ u e. refl }, (record { asks = tt; prompt = λ u e. refl }, (record { asks = tt; prompt = λ u e. refl }, (record { asks = tt; prompt = λ u e. refl }, (record { asks = record { frame = to_device (0x80 ∷ []); reads = refl; request = refl; place = record { acknowledged = refl; has_confirmation = refl }; why = inr (record { k = 1; job = job; there = refl; worker = 1; since = 4; held = refl; alone = refl; to = refl; may = omega arith }) }; prompt = λ u e. refl }, (record { asks = tt; prompt = λ u e. refl }, (record { asks = tt; prompt = λ u e. refl }, (record { asks = tt; prompt = λ u e. refl }, tt))))))))))))))))))) }

pub disciplined : (kept : NonVolatile) → IsDisciplined (job ∷ []) [] 33 (placed (begin kept) whole) told_done
disciplined kept = record { form = is_log kept; alone = alone; truly = truly kept; renews = renews kept; sends = sends kept; writes = writes kept; asks = asks kept }
