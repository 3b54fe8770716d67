-- Runs in which something is lost, comes twice, is torn or worn, or ends: they are legal, they follow their script where it says so, and
-- what is told of them is true.
use Rattle.std.proofs.Common.{◌≡◌, ◌⊎◌, ◌<◌, arith, ℕ, List, [], ◌∷◌, Some, true, false, inl, inr, refl}
use Rattle.knx_model.specs.declared.frames.cemi.LdataCode.TheVariants.{Con}
use Rattle.knx_model.specs.declared.script.ScriptWhat.TheVariants.{LoseDown, LoseTo, RepeatUp, RepeatTo, Cut, Worn}
use Rattle.knx_model.specs.ApduReading.{option_map, apdu_in, tpdu_in, service_in}
use Rattle.knx_model.specs.Cemi.{Written as cemi_octets}
use Rattle.knx_model.specs.ClientConnection.{after_confirmed, client_sent, after_send, client_took, client_after, client_expired, after_overdue}
use Rattle.knx_model.specs.Connection.{frame_in}
use Rattle.knx_model.specs.Device.{NonVolatile}
use Rattle.knx_model.specs.DeviceState.{DeviceState}
use Rattle.knx_model.specs.DeviceConnection.{device_took, device_after, device_answered, after_answer}
use Rattle.line_model.specs.ActedOnce.{in_channel}
use Rattle.line_model.specs.Attempts.{attempts, Resting}
use Rattle.line_model.specs.ClientView.{Deed, Puts, Takes, Nothing, Open, Lost, channel, after_entry, deed}
use Rattle.line_model.specs.Follows.{Follows}
use Rattle.line_model.specs.Gateway.{gateway_took}
use Rattle.line_model.specs.Legal.{MayHappen, IsLegal}
use Rattle.line_model.specs.Moments.{Moment, moments, between}
use Rattle.line_model.specs.Reading.{datagram_in, ldata_in}
use Rattle.line_model.specs.Record.{Entry, placed, entries}
use Rattle.line_model.specs.Renews.{RenewsRightly}
use Rattle.line_model.specs.Runs.{device, begin, job, reading, unheard, told_failed, turn, telegram, nobody, telegram_sent, told_sent, unloads, cut_off, torn, filling, writes, worn, response_lost, comes_twice, second, quiet_until, to_device, acknowledged, heard_again, t_ack_heard}
use Rattle.line_model.specs.Told.{ToldTruly}
use Rattle.line_model.specs.Tunnel.{Commissions}
use Rattle.line_model.specs.World.{On, Renew, Up, replay}
use Rattle.line_model.proofs.Passes.{legal_by}

-- ---- three attempts, each confirmed with error

pub unheard_legal : (kept : NonVolatile) → IsLegal Commissions (begin kept) unheard
unfolding datagram_in ldata_in gateway_took frame_in device_took device_after device_answered after_answer apdu_in tpdu_in service_in
unheard_legal kept = legal_by (begin kept) unheard refl

pub unheard_follows : (kept : NonVolatile) → Follows (LoseTo device 1 ∷ LoseTo device 2 ∷ LoseTo device 3 ∷ []) Commissions (begin kept) unheard
unfolding datagram_in ldata_in gateway_took frame_in device_took device_after device_answered after_answer apdu_in tpdu_in service_in
unheard_follows kept = (record { next = record { next = refl; says = refl }; so = refl }, (tt, (record { next = refl; says = refl }, (record { next = refl; says = refl }, (refl, (record { next = record { next = refl; says = refl }; so = refl }, (tt, (record { next = record { next = refl; says = refl }; so = refl }, (tt, (record { next = refl; says = refl }, (record { next = refl; says = refl }, (refl, (record { next = record { next = refl; says = refl }; so = refl }, (tt, (record { next = record { next = refl; says = refl }; so = refl }, (tt, (record { next = refl; says = refl }, (record { next = refl; says = refl }, (refl, (record { next = record { next = refl; says = refl }; so = refl }, (tt, (record { next = refl; says = refl }, (record { next = record { next = refl; says = refl }; so = refl }, (tt, (tt, tt)))))))))))))))))))))))))

pub unheard_told : (kept : NonVolatile) → ToldTruly (job ∷ []) [] (placed (begin kept) unheard) told_failed
unfolding datagram_in ldata_in gateway_took frame_in device_took device_after device_answered after_answer apdu_in tpdu_in service_in after_entry deed
unheard_told kept = (record { three = refl; each = (refl, (refl, (refl, tt))) }, (tt, tt))

pub gives_up : (kept : NonVolatile) → attempts device reading (between 4 25 (moments (placed (begin kept) unheard))) ≡ Resting 3
unfolding datagram_in ldata_in gateway_took frame_in device_took device_after device_answered after_answer apdu_in tpdu_in service_in after_entry deed client_sent after_send client_took client_after client_expired after_overdue after_confirmed
gives_up kept = refl

-- ---- a group telegram

abbrev moment : Deed → ℕ → Moment
moment what at = record { what = what; now = 0; at = at }

pub telegram_legal : IsLegal Commissions nobody telegram_sent
unfolding datagram_in ldata_in gateway_took frame_in device_took device_after device_answered after_answer apdu_in tpdu_in service_in
telegram_legal = legal_by nobody telegram_sent refl

pub telegram_told : ToldTruly [] (turn ∷ []) (placed nobody telegram_sent) told_sent
unfolding datagram_in ldata_in gateway_took frame_in device_took device_after device_answered after_answer apdu_in tpdu_in service_in after_entry deed
telegram_told = (
  record {
    later = moment Nothing 10 ∷ [];
    end = moment (Takes (cemi_octets (record { code = Con; error = false; group = true; priority = 3; hops = 6; source = 0x11FF; destination = 0x0A03; tpdu = 0 ∷ 0 ∷ [] }))) 9;
    flown = moment Nothing 8 ∷ [];
    put = moment (Puts (cemi_octets telegram)) 5;
    before = moment Nothing 4 ∷ moment Nothing 2 ∷ moment Nothing 1 ∷ [];
    split = refl;
    put_is = record { frame = telegram; put = refl; group = refl; to = refl; service = refl };
    once = (refl, (refl, (refl, tt)));
    first = (refl, (refl, (refl, tt)));
    unlost = (λ e. cc, tt);
    unconfirmed = (refl, tt);
    ends = (false, refl);
  },
  tt,
)

-- ---- power goes in a write and returns

pub torn_legal : (kept : NonVolatile) → IsLegal Commissions (begin kept) torn
unfolding datagram_in ldata_in gateway_took frame_in device_took device_after device_answered after_answer apdu_in tpdu_in service_in
torn_legal kept = (record { tunnel = tt; devices = λ e. cc }, (record { tunnel = λ e. cc; devices = record { alone = refl; device = (refl, tt) } }, legal_by (begin kept) unloads refl))

pub torn_follows : (kept : NonVolatile) → Follows (Cut device 1 1 ∷ []) Commissions (begin kept) torn
unfolding datagram_in ldata_in gateway_took frame_in device_took device_after device_answered after_answer apdu_in tpdu_in service_in
torn_follows kept = (inr refl, (refl, (record { next = record { next = refl; says = refl }; so = refl }, (tt, (record { next = record { next = refl; says = refl }; so = refl }, (tt, (record { next = refl; says = refl }, (record { next = refl; says = refl }, (refl, (record { next = record { next = refl; says = refl }; so = refl }, (tt, (record { next = refl; says = refl }, (record { next = record { next = refl; says = refl }; so = refl }, (tt, (tt, tt)))))))))))))))

-- nothing that the client does comes between
pub power_first : (kept : NonVolatile) → ¬ Follows (Cut device 1 1 ∷ []) Commissions (begin kept) (Renew ∷ cut_off)
unfolding datagram_in ldata_in gateway_took frame_in device_took device_after device_answered after_answer apdu_in tpdu_in service_in
power_first kept f = neither f.0
  where
    neither : (false ≡ true) ⊎ (Renew ≡ On device.raw) → ⊥
    neither (inl e) = cc
    neither (inr e) = cc

-- ---- a write over worn memory

pub worn_legal : IsLegal Commissions (begin filling) worn
unfolding datagram_in ldata_in gateway_took frame_in device_took device_after device_answered after_answer apdu_in tpdu_in service_in
worn_legal = (record { tunnel = λ e. cc; devices = record { alone = refl; device = record { write = refl; each = refl; eight_bits = (omega arith, (omega arith, tt)) } } }, legal_by (begin filling) writes refl)

pub worn_follows : Follows (Worn device 1 ∷ []) Commissions (begin filling) worn
unfolding datagram_in ldata_in gateway_took frame_in device_took device_after device_answered after_answer apdu_in tpdu_in service_in
worn_follows = (refl, (record { next = record { next = refl; says = refl }; so = refl }, (tt, (record { next = record { next = refl; says = refl }; so = refl }, (tt, (record { next = refl; says = refl }, (record { next = refl; says = refl }, (refl, (record { next = record { next = refl; says = refl }; so = refl }, (tt, (record { next = refl; says = refl }, (record { next = record { next = refl; says = refl }; so = refl }, (tt, (tt, tt))))))))))))))

pub worn_memory_keeps : option_map (λ (d : DeviceState). d.kept.application.memory) ((replay (begin filling) worn).devices 0x1105) ≡ Some (254 ∷ 253 ∷ [])
unfolding datagram_in ldata_in gateway_took frame_in device_took device_after device_answered after_answer apdu_in tpdu_in service_in
worn_memory_keeps = refl

-- ---- a frame comes to the gateway again

pub again_legal : (kept : NonVolatile) → IsLegal Commissions (begin kept) heard_again
unfolding datagram_in ldata_in gateway_took frame_in device_took device_after device_answered after_answer apdu_in tpdu_in service_in
again_legal kept = legal_by (begin kept) heard_again refl

pub again_waits : (kept : NonVolatile) → (replay (begin kept) heard_again).tunnel.gateway.waiting ≡ t_ack_heard ∷ []
unfolding datagram_in ldata_in gateway_took frame_in device_took device_after device_answered after_answer apdu_in tpdu_in service_in
again_waits kept = refl

pub first_on_its_way : (kept : NonVolatile) → (replay (begin kept) acknowledged).tunnel.gateway.waiting ≡ []
unfolding datagram_in ldata_in gateway_took frame_in device_took device_after device_answered after_answer apdu_in tpdu_in service_in
first_on_its_way kept = refl

-- ---- a loss, and repeats

pub lost_legal : (kept : NonVolatile) → IsLegal Commissions (begin kept) response_lost
unfolding datagram_in ldata_in gateway_took frame_in device_took device_after device_answered after_answer apdu_in tpdu_in service_in
lost_legal kept = legal_by (begin kept) response_lost refl

pub lost_follows : (kept : NonVolatile) → Follows (LoseDown 1 ∷ []) Commissions (begin kept) response_lost
unfolding datagram_in ldata_in gateway_took frame_in device_took device_after device_answered after_answer apdu_in tpdu_in service_in
lost_follows kept = (record { next = refl; says = refl }, (record { next = record { next = refl; says = refl }; so = refl }, (tt, (tt, tt))))

pub twice_legal : (kept : NonVolatile) → IsLegal Commissions (begin kept) comes_twice
unfolding datagram_in ldata_in gateway_took frame_in device_took device_after device_answered after_answer apdu_in tpdu_in service_in
twice_legal kept = legal_by (begin kept) comes_twice refl

pub twice_follows : (kept : NonVolatile) → Follows (RepeatUp 2 ∷ RepeatTo device 1 ∷ []) Commissions (begin kept) comes_twice
unfolding datagram_in ldata_in gateway_took frame_in device_took device_after device_answered after_answer apdu_in tpdu_in service_in
twice_follows kept = (inr refl, (refl, (inr refl, (record { next = record { next = refl; says = refl }; so = refl }, (tt, (record { next = refl; says = refl }, (record { next = record { next = refl; says = refl }; so = refl }, (tt, (tt, tt)))))))))

-- ---- the next channel

pub second_legal : (kept : NonVolatile) → IsLegal Commissions (begin kept) second
unfolding datagram_in ldata_in gateway_took frame_in device_took device_after device_answered after_answer apdu_in tpdu_in service_in
second_legal kept = legal_by (begin kept) second refl

pub second_renews : (kept : NonVolatile) → RenewsRightly (entries (placed (begin kept) second))
unfolding datagram_in ldata_in gateway_took frame_in device_took device_after device_answered after_answer apdu_in tpdu_in service_in after_entry deed
second_renews kept = (record { connects = λ e. cc; leaves = λ e h. cc; tries_left = λ e. cc }, (record { connects = λ e. cc; leaves = λ e h. cc; tries_left = λ e. cc }, (record { connects = λ e. refl; leaves = λ e h. cc; tries_left = λ e. cc }, (record { connects = λ e. cc; leaves = λ e h. tt; tries_left = λ e. omega arith }, (record { connects = λ e. cc; leaves = λ e h. cc; tries_left = λ e. cc }, (record { connects = λ e. cc; leaves = λ e h. cc; tries_left = λ e. cc }, (record { connects = λ e. cc; leaves = λ e h. cc; tries_left = λ e. cc }, (record { connects = λ e. cc; leaves = λ e h. cc; tries_left = λ e. cc }, (record { connects = λ e. cc; leaves = λ e h. cc; tries_left = λ e. cc }, (record { connects = λ e. cc; leaves = λ e h. cc; tries_left = λ e. cc }, (record { connects = λ e. cc; leaves = λ e h. cc; tries_left = λ e. cc }, (record { connects = λ e. refl; leaves = λ e h. cc; tries_left = λ e. cc }, (record { connects = λ e. cc; leaves = λ e h. cc; tries_left = λ e. omega arith }, tt)))))))))))))

-- ---- three heartbeats without answer

pub dies : channel (quiet_until 190005) ≡ Lost 1
unfolding datagram_in ldata_in after_entry
dies = refl

pub lives : (l : List Entry) × (channel (quiet_until 190004) ≡ Open 1 l)
unfolding datagram_in ldata_in after_entry
lives = (_, refl)

pub acts_once : (kept : NonVolatile) → in_channel 0 (replay (begin kept) comes_twice).tunnel.gateway.acted ≡ cemi_octets (to_device (0x80 ∷ [])) ∷ []
unfolding datagram_in ldata_in gateway_took frame_in device_took device_after device_answered after_answer apdu_in tpdu_in service_in
acts_once kept = refl

-- a third delivery isn't possible
pub no_third : (kept : NonVolatile) → MayHappen Commissions (replay (begin kept) comes_twice) (Up 0) → ⊥
unfolding datagram_in ldata_in gateway_took frame_in device_took device_after device_answered after_answer apdu_in tpdu_in service_in
no_third kept h = absurd (let few : 2 < 2 = h.tunnel.twice in omega arith)
