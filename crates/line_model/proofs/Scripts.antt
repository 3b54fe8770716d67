-- Each of the other lines of a script has its event, and a device begins as the script says.
use Rattle.std.proofs.Common.{◌≡◌, ◌≢◌, ℕ, [], ◌∷◌, not, true, Option, Some, None, inl, inr, refl, sym, ap, ◌∙◌, subst}
use Rattle.knx_model.specs.declared.config.Image.{Image}
use Rattle.knx_model.specs.declared.device.FrameSupport.TheVariants.{Extended}
use Rattle.knx_model.specs.declared.script.GroupService.{GroupService}
use Rattle.knx_model.specs.declared.script.ScriptWhat.TheVariants.{LoseUp, RepeatDown, LoseFrom, CloseAfter, Refuse, DropChannel}
use Rattle.knx_model.specs.ApduReading.{apdu_in, tpdu_in, service_in}
use Rattle.knx_model.specs.Connection.{frame_in}
use Rattle.knx_model.specs.Device.{NonVolatile}
use Rattle.knx_model.specs.DeviceConnection.{device_took, device_after, device_answered, after_answer}
use Rattle.knx_model.specs.DeviceState.{DeviceState, framed}
use Rattle.knx_model.specs.Meaning.{Installation, meaning}
use Rattle.knx_model.specs.Promises.{StartOf, BeginsLoaded, BeginsBlank}
use Rattle.line_model.specs.Follows.{Follows}
use Rattle.line_model.specs.Gateway.{gateway_took}
use Rattle.line_model.specs.Lines.{Script, is_off, is_standard}
use Rattle.line_model.specs.Reading.{datagram_in, ldata_in}
use Rattle.line_model.specs.Runs.{device, begin, request_lost, try_refused, response_twice, confirmation_twice, channel_dropped, connection_closed, answer_lost}
use Rattle.line_model.specs.StartOf.{BeginsAs, frames_for, powered}
use Rattle.line_model.specs.Telegrams.{ActsAsBegun, ActsByConfig, ActsByProject}
use Rattle.line_model.specs.Tunnel.{Commissions}

pub loses_up : (kept : NonVolatile) → Follows (LoseUp 1 ∷ []) Commissions (begin kept) request_lost
unfolding datagram_in ldata_in gateway_took frame_in device_took device_after device_answered after_answer apdu_in tpdu_in service_in
loses_up kept = (record { next = refl; says = refl }, (tt, (tt, tt)))

pub refuses : (kept : NonVolatile) → Follows (Refuse 1 0x24 ∷ []) Commissions (begin kept) try_refused
unfolding datagram_in ldata_in gateway_took frame_in device_took device_after device_answered after_answer apdu_in tpdu_in service_in
refuses kept = (record { next = record { next = refl; says = refl }; so = refl }, (tt, (tt, tt)))

pub repeats_down : (kept : NonVolatile) → Follows (RepeatDown 1 ∷ []) Commissions (begin kept) response_twice
unfolding datagram_in ldata_in gateway_took frame_in device_took device_after device_answered after_answer apdu_in tpdu_in service_in
repeats_down kept = (inr refl, (record { next = refl; says = refl }, (record { next = record { next = refl; says = refl }; so = refl }, (tt, (tt, tt)))))

pub confirms_twice : (kept : NonVolatile) → Follows (RepeatDown 3 ∷ []) Commissions (begin kept) confirmation_twice
unfolding datagram_in ldata_in gateway_took frame_in device_took device_after device_answered after_answer apdu_in tpdu_in service_in
confirms_twice kept = (tt, (inr refl, (inl refl, (record { next = refl; says = refl }, (record { next = refl; says = refl }, (refl, (record { next = record { next = refl; says = refl }; so = refl }, (tt, (record { next = refl; says = refl }, (record { next = record { next = refl; says = refl }; so = refl }, (tt, (tt, tt))))))))))))

pub drops_channel : (kept : NonVolatile) → Follows (DropChannel 1 ∷ []) Commissions (begin kept) channel_dropped
unfolding datagram_in ldata_in gateway_took frame_in device_took device_after device_answered after_answer apdu_in tpdu_in service_in
drops_channel kept = (inr refl, (record { next = record { next = refl; says = refl }; so = refl }, (tt, (record { next = refl; says = refl }, (record { next = record { next = refl; says = refl }; so = refl }, (tt, (tt, tt)))))))

pub closes_after : (kept : NonVolatile) → Follows (CloseAfter device 1 ∷ []) Commissions (begin kept) connection_closed
unfolding datagram_in ldata_in gateway_took frame_in device_took device_after device_answered after_answer apdu_in tpdu_in service_in
closes_after kept = (inr refl, (refl, (record { next = record { next = refl; says = refl }; so = refl }, (tt, (record { next = refl; says = refl }, (record { next = record { next = refl; says = refl }; so = refl }, (tt, (tt, tt))))))))

pub loses_from : (kept : NonVolatile) → Follows (LoseFrom device 1 ∷ []) Commissions (begin kept) answer_lost
unfolding datagram_in ldata_in gateway_took frame_in device_took device_after device_answered after_answer apdu_in tpdu_in service_in
loses_from kept = ((refl, refl), (record { next = record { next = refl; says = refl }; so = refl }, (tt, (record { next = refl; says = refl }, (record { next = refl; says = refl }, (refl, (record { next = record { next = refl; says = refl }; so = refl }, (tt, (record { next = record { next = refl; says = refl }; so = refl }, (tt, (record { next = refl; says = refl }, (record { next = refl; says = refl }, (refl, (record { next = record { next = refl; says = refl }; so = refl }, (tt, (record { next = refl; says = refl }, (record { next = record { next = refl; says = refl }; so = refl }, (tt, (tt, tt)))))))))))))))))))

-- ---- how a device begins

-- it is powered as the script says
pub power_is : (old : Installation) (script : Script) (a : ℕ) (had : Option NonVolatile) (d : DeviceState) → BeginsAs old script a had d → d.power ≡ not (is_off script a)
power_is old script a had d b = ap (λ (x : DeviceState). x.power) b.is

pub frames_are : (old : Installation) (script : Script) (a : ℕ) (had : Option NonVolatile) (d : DeviceState) → BeginsAs old script a had d → d.frames ≡ frames_for (is_standard script a)
frames_are old script a had d b = ap (λ (x : DeviceState). x.frames) b.is

-- where it is told what it kept, it keeps that, at its own address
pub kept_is : (old : Installation) (script : Script) (a : ℕ) (kept : NonVolatile) (d : DeviceState) → BeginsAs old script a (Some kept) d → (d.kept ≡ kept) × (d.address.raw ≡ a)
kept_is old script a kept d b =
    (ap (λ (x : DeviceState). x.kept) b.is ∙ ap (λ (x : DeviceState). x.kept) b.start, ap (λ (x : DeviceState). x.address.raw) b.is ∙ ap (λ (x : DeviceState). x.address.raw) b.start)

-- else it is loaded or blank, but for its power and its frames
begun_whole : (old : Installation) (a : ℕ) (d : DeviceState) → StartOf old (record { raw = a }) d → framed Extended (powered true d) ≡ d
begun_whole old a d (BeginsLoaded has image stands is) = subst (λ (x : DeviceState). framed Extended (powered true x) ≡ x) (sym is) refl
begun_whole old a d (BeginsBlank has is) = subst (λ (x : DeviceState). framed Extended (powered true x) ≡ x) (sym is) refl

pub loaded_is : (old : Installation) (script : Script) (a : ℕ) (d : DeviceState) → BeginsAs old script a None d → StartOf old (record { raw = a }) (framed Extended (powered true d))
loaded_is old script a d b =
    subst (StartOf old (record { raw = a })) (sym (ap (λ (x : DeviceState). framed Extended (powered true x)) b.is ∙ begun_whole old a b.loaded b.start)) b.start

-- ---- by what a device acts that began so

-- one that keeps something else by now acts by its new project
pub acts_by_new : (had : ℕ → Option NonVolatile) (before after : Installation) (group : ℕ) (service : GroupService) (image : Image) (kept : NonVolatile) (old new : DeviceState)
    → had old.address.raw ≡ Some kept → old.kept ≢ kept → ActsByProject had before after group (Some service) (Some image) old new → ActsByConfig (meaning after old.address) image group service old new
acts_by_new had before after group service image kept old new told other (inl begun) =
    absurd (other (subst (λ (k : Option NonVolatile). ActsAsBegun before k image group service old new) told begun).keeps)
acts_by_new had before after group service image kept old new told other (inr new_one) = new_one
