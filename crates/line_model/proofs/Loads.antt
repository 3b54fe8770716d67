-- The last operation of a load, computed: the job is told done, and the device runs its image.
use Rattle.std.proofs.Common.{ℕ, zero, suc, [], ◌∷◌, ◌<◌, ◌≡◌, Option, None, subst, refl, arith, inl, inr, true, false, Some}
use Rattle.knx_model.specs.declared.plan.Expect.TheVariants.{Is}
use Rattle.knx_model.specs.ApduReading.{apdu_in, tpdu_in, service_in}
use Rattle.knx_model.specs.ClientConnection.{after_confirmed, client_sent, after_send, client_took, client_after, client_expired, after_overdue}
use Rattle.knx_model.specs.Connection.{frame_in}
use Rattle.knx_model.specs.Device.{runs}
use Rattle.knx_model.specs.DeviceConnection.{device_took, device_after, device_answered, after_answer}
use Rattle.knx_model.specs.Plans.{Over}
use Rattle.line_model.specs.Asks.{AsksRightly}
use Rattle.line_model.specs.ClientView.{after_entry, deed}
use Rattle.line_model.specs.Follows.{Follows}
use Rattle.line_model.specs.Gateway.{gateway_took}
use Rattle.line_model.specs.Headline.{IsDisciplined}
use Rattle.line_model.specs.Legal.{OfDevice, IsLegal}
use Rattle.line_model.specs.Log.{Job, SameDevice, job_of, IsLog, OneDownloaderPerDevice}
use Rattle.line_model.specs.OldStoppedOrNew.{world_at, RunsWhereDone}
use Rattle.line_model.specs.Reading.{datagram_in, ldata_in}
use Rattle.line_model.specs.Record.{placed, entries}
use Rattle.line_model.specs.Renews.{RenewsRightly, AcknowledgesRightly}
use Rattle.line_model.specs.Runs.{device, begin, nearly, loads, completion, load, told_done, to_device}
use Rattle.line_model.specs.Sendings.{SendsRightly}
use Rattle.line_model.specs.Told.{ToldTruly}
use Rattle.line_model.specs.Tunnel.{Commissions}
use Rattle.line_model.specs.World.{replay}
use Rattle.line_model.specs.Written.{AllWritten}
use Rattle.line_model.proofs.Passes.{legal_by}
use Rattle.line_model.proofs.Writings.{connect_written, ack_written, request_written}

pub legal : IsLegal Commissions (begin nearly) loads
unfolding datagram_in ldata_in gateway_took frame_in device_took device_after device_answered after_answer apdu_in tpdu_in service_in
legal = legal_by (begin nearly) loads refl

pub follows : Follows [] Commissions (begin nearly) loads
unfolding datagram_in ldata_in gateway_took frame_in device_took device_after device_answered after_answer apdu_in tpdu_in service_in
follows = (record { next = record { next = refl; says = refl }; so = refl }, (tt, (record { next = refl; says = refl }, (record { next = refl; says = refl }, (refl, (record { next = record { next = refl; says = refl }; so = refl }, (tt, (record { next = record { next = refl; says = refl }; so = refl }, (tt, (record { next = refl; says = refl }, ((refl, refl), (record { next = record { next = refl; says = refl }; so = refl }, (tt, (record { next = refl; says = refl }, ((refl, refl), (record { next = record { next = refl; says = refl }; so = refl }, (tt, (record { next = refl; says = refl }, (record { next = refl; says = refl }, (refl, (record { next = record { next = refl; says = refl }; so = refl }, (tt, (record { next = record { next = refl; says = refl }; so = refl }, (tt, (record { next = refl; says = refl }, (record { next = refl; says = refl }, (refl, (record { next = record { next = refl; says = refl }; so = refl }, (tt, (record { next = refl; says = refl }, (record { next = record { next = refl; says = refl }; so = refl }, (tt, (tt, tt)))))))))))))))))))))))))))))))))

-- ---- a hub that does this keeps the discipline, and tells truly

-- there is no job before the first
before_it : (other : ℕ) → other < 1 → SameDevice (Some load) (job_of (load ∷ []) other) → ⊥
before_it zero less same = same
before_it (suc other) less same = omega arith

is_log : IsLog (load ∷ []) [] 33 told_done
is_log = (record { so_far = omega arith; later = omega arith; follows = refl }, (record { so_far = omega arith; later = omega arith; follows = (λ e. cc, refl, omega arith, λ other since e. cc) }, tt))

alone : OneDownloaderPerDevice (load ∷ []) told_done
alone = (tt, (record { alone = λ other worker since same e. cc; in_order = λ other less same e. before_it other less same }, tt))

truly : ToldTruly (load ∷ []) [] (placed (begin nearly) loads) told_done
unfolding datagram_in ldata_in gateway_took frame_in device_took device_after device_answered after_answer apdu_in tpdu_in service_in after_entry deed
truly = ((refl, refl), (tt, tt))

never : {P : Type 0} → false ≡ true → P
never e = cc

renews : RenewsRightly (entries (placed (begin nearly) loads))
unfolding datagram_in ldata_in gateway_took frame_in device_took device_after device_answered after_answer apdu_in tpdu_in service_in after_entry deed
renews = (record { connects = λ e. never e; leaves = λ e h. never e; tries_left = λ e. never e }, (record { connects = λ e. never e; leaves = λ e h. never e; tries_left = λ e. never e }, (record { connects = λ e. never e; leaves = λ e h. never e; tries_left = λ e. never e }, (record { connects = λ e. never e; leaves = λ e h. never e; tries_left = λ e. never e }, (record { connects = λ e. never e; leaves = λ e h. never e; tries_left = λ e. never e }, (record { connects = λ e. never e; leaves = λ e h. never e; tries_left = λ e. never e }, (record { connects = λ e. never e; leaves = λ e h. never e; tries_left = λ e. never e }, (record { connects = λ e. never e; leaves = λ e h. never e; tries_left = λ e. never e }, (record { connects = λ e. never e; leaves = λ e h. never e; tries_left = λ e. never e }, (record { connects = λ e. never e; leaves = λ e h. never e; tries_left = λ e. never e }, (record { connects = λ e. never e; leaves = λ e h. never e; tries_left = λ e. never e }, (record { connects = λ e. never e; leaves = λ e h. never e; tries_left = λ e. never e }, (record { connects = λ e. never e; leaves = λ e h. never e; tries_left = λ e. never e }, (record { connects = λ e. never e; leaves = λ e h. never e; tries_left = λ e. never e }, (record { connects = λ e. never e; leaves = λ e h. never e; tries_left = λ e. never e }, (record { connects = λ e. never e; leaves = λ e h. never e; tries_left = λ e. never e }, (record { connects = λ e. never e; leaves = λ e h. never e; tries_left = λ e. never e }, (record { connects = λ e. refl; leaves = λ e h. never e; tries_left = λ e. never e }, (record { connects = λ e. never e; leaves = λ e h. never h; tries_left = λ e. omega arith }, tt)))))))))))))))))))

acknowledges : AcknowledgesRightly (entries (placed (begin nearly) loads))
unfolding datagram_in ldata_in gateway_took frame_in device_took device_after device_answered after_answer apdu_in tpdu_in service_in after_entry deed
acknowledges = (refl, (tt, (tt, (tt, (refl, (tt, (refl, (tt, (refl, (tt, (tt, (tt, (refl, (tt, (tt, (tt, (tt, (tt, (tt, tt)))))))))))))))))))

sends : SendsRightly (entries (placed (begin nearly) loads))
unfolding datagram_in ldata_in gateway_took frame_in device_took device_after device_answered after_answer apdu_in tpdu_in service_in after_entry deed
sends = (refl, (tt, (tt, (record { in_it = refl; numbered = refl; one_at_a_time = inl refl }, (refl, (tt, (refl, (tt, (refl, (tt, (tt, (record { in_it = refl; numbered = refl; one_at_a_time = inl refl }, (refl, (tt, (tt, (record { in_it = refl; numbered = refl; one_at_a_time = inl refl }, (tt, (tt, (tt, tt)))))))))))))))))))

writes : AllWritten (entries (placed (begin nearly) loads))
unfolding datagram_in ldata_in gateway_took frame_in device_took device_after device_answered after_answer apdu_in tpdu_in service_in after_entry deed
writes = (ack_written 4, (tt, (tt, (request_written 2 (0xC2 ∷ []), (ack_written 3, (tt, (ack_written 2, (tt, (ack_written 1, (tt, (tt, (request_written 1 (0x43 ∷ completion), (ack_written 0, (tt, (tt, (request_written 0 (0x80 ∷ []), (tt, (connect_written, (tt, tt)))))))))))))))))))

asks : AsksRightly (load ∷ []) [] told_done (placed (begin nearly) loads)
unfolding datagram_in ldata_in gateway_took frame_in device_took device_after device_answered after_answer apdu_in tpdu_in service_in after_entry deed client_sent after_send client_took client_after client_expired after_overdue after_confirmed
asks = record { acknowledges = acknowledges; each = (record { asks = tt; prompt = λ u e. refl }, (record { asks = tt; prompt = λ u e. refl }, (record { asks = tt; prompt = λ u e. refl }, (record { asks = record { frame = to_device (0xC2 ∷ []); reads = refl; request = refl; place = record { acknowledged = refl; has_confirmation = refl }; why = inr (record { k = 1; job = load; there = refl; worker = 1; since = 4; held = refl; alone = refl; to = refl; may = ([], refl) }) }; prompt = λ u e. refl }, (record { asks = tt; prompt = λ u e. refl }, (record { asks = tt; prompt = λ u e. refl }, (record { asks = tt; prompt = λ u e. refl }, (record { asks = tt; prompt = λ u e. refl }, (record { asks = tt; prompt = λ u e. refl }, (record { asks = tt; prompt = λ u e. refl }, (record { asks = tt; prompt = λ u e. refl }, (record { asks = record { frame = to_device (0x43 ∷ completion); reads = refl; request = refl; place = record { acknowledged = refl; has_confirmation = refl }; why = inr (record { k = 1; job = load; there = refl; worker = 1; since = 4; held = refl; alone = refl; to = refl; may = record { owes_nothing = refl; which = inl (record { session = record { partner = device; expected = 0; number = 0; last = 0 }; up = refl; goes_on = refl; place = 0; expect = Is (0x03 ∷ 0xD6 ∷ 4 ∷ 5 ∷ 0x10 ∷ 1 ∷ 1 ∷ []); next = λ answer. Over; head = refl; as_sent = refl }) } }) }; prompt = λ u e. refl }, (record { asks = tt; prompt = λ u e. refl }, (record { asks = tt; prompt = λ u e. refl }, (record { asks = tt; prompt = λ u e. refl }, (record { asks = record { frame = to_device (0x80 ∷ []); reads = refl; request = refl; place = record { acknowledged = refl; has_confirmation = refl }; why = inr (record { k = 1; job = load; there = refl; worker = 1; since = 4; held = refl; alone = refl; to = refl; may = omega arith }) }; prompt = λ u e. refl }, (record { asks = tt; prompt = λ u e. refl }, (record { asks = tt; prompt = λ u e. refl }, (record { asks = tt; prompt = λ u e. refl }, tt))))))))))))))))))) }

pub disciplined : IsDisciplined (load ∷ []) [] 33 (placed (begin nearly) loads) told_done
disciplined = record { form = is_log; alone = alone; truly = truly; renews = renews; sends = sends; writes = writes; asks = asks }

-- ---- what the device runs then

runs_new : OfDevice (λ d. runs d.kept ≡ Some load.image) ((replay (begin nearly) loads).devices 0x1105)
unfolding datagram_in ldata_in gateway_took frame_in device_took device_after device_answered after_answer apdu_in tpdu_in service_in
runs_new = refl

abbrev OfJob : (Job → Type 0) → Option Job → Type 0
OfJob P None = Unit {0}
OfJob P (Some j) = P j

at_end : (one : Job) → Some load ≡ Some one → OfDevice (λ d. runs d.kept ≡ Some one.image) ((world_at (begin nearly) loads 33).devices one.device.raw)
at_end one e =
    let P : Option Job → Type 0 = λ o. OfJob (λ (j : Job). OfDevice (λ d. runs d.kept ≡ Some j.image) ((world_at (begin nearly) loads 33).devices j.device.raw)) o in
    subst P e runs_new

pub done_runs : RunsWhereDone (load ∷ []) (begin nearly) loads told_done
done_runs = (at_end, (tt, tt))
