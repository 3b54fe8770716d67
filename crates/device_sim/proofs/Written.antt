-- A frame that asks for a write of the device: it is taken, and it delivers a service.
use Rattle.std.proofs.Common.{ℕ, ◌≡◌, List, Bool, true, false, not, ◌&&◌, Some, None, refl, sym, ap, ◌∙◌, if◌then◌else◌}
use Rattle.std.specs.Prelude.{is_some}
use Rattle.std.proofs.lemmas.Bool.{false≢true}
use Rattle.knx_model.specs.declared.device.Took.{Took}
use Rattle.knx_model.specs.declared.device.Took.TheVariants.{NotMine, TooLong, Taken, Off}
use Rattle.knx_model.specs.declared.device.WriteKind.{WriteKind}
use Rattle.knx_model.specs.declared.frames.cemi.Ldata.{Ldata}
use Rattle.knx_model.specs.Device.{NonVolatile, Effect, Nothing, torn, is_write}
use Rattle.knx_model.specs.DeviceState.{DeviceState, cut}
use Rattle.knx_model.specs.DeviceFrames.{Outcome, Torn, Worn, took_of, takes, takes_so, after_outcome, after_frame, taken_alone, connection_took, is_taken, effect_delivered, effect_of_frame, write_kind, would_write, worn_octets}
use Rattle.device_sim.proofs.Taken.{alone_fixed, after_alone, cut_is}

-- nothing is no write
written_taken : (nv : NonVolatile) (taken : Bool) (effect : Effect) → is_some (if is_write nv (if taken then effect else Nothing) then write_kind (if taken then effect else Nothing) else None) ≡ true → taken ≡ true
written_taken nv true effect h = refl
written_taken nv false effect h = absurd (false≢true h)

both_left : (a b : Bool) → (a && b) ≡ true → a ≡ true
both_left true b h = refl
both_left false b h = absurd (false≢true h)

both_right : (a b : Bool) → (a && not b) ≡ true → b ≡ false
both_right true false h = refl
both_right true true h = absurd (false≢true h)
both_right false b h = absurd (false≢true h)

taken_so : (d : DeviceState) (frame : Ldata) (now : ℕ) (outcome : Outcome) (t : Took) → is_taken t ≡ true → takes_so d frame now outcome t ≡ after_outcome (after_frame d frame now outcome) outcome
taken_so d frame now outcome Taken h = refl
taken_so d frame now outcome NotMine h = absurd (false≢true h)
taken_so d frame now outcome TooLong h = absurd (false≢true h)
taken_so d frame now outcome Off h = absurd (false≢true h)

chosen : (b : Bool) (effect : Effect) → b ≡ true → (if b then effect else Nothing) ≡ effect
chosen true effect h = refl
chosen false effect h = absurd (false≢true h)

-- what is known of a frame that asks for a write: it is taken, alone, and its effect is the one delivered
record Asks (d : DeviceState) (frame : Ldata) : Type 0 where
  taken : is_taken (took_of d frame) ≡ true
  alone : frame.group ≡ false
  effect : effect_of_frame d frame ≡ effect_delivered (connection_took d frame)

asks : (d : DeviceState) (frame : Ldata) → is_some (would_write d frame) ≡ true → Asks d frame
asks d frame h =
    let b : (is_taken (took_of d frame) && not frame.group) ≡ true = written_taken d.kept (is_taken (took_of d frame) && not frame.group) (effect_delivered (connection_took d frame)) h in
    record {
      taken = both_left (is_taken (took_of d frame)) (not frame.group) b;
      alone = both_right (is_taken (took_of d frame)) frame.group b;
      effect = chosen (is_taken (took_of d frame) && not frame.group) (effect_delivered (connection_took d frame)) b;
    }

pub takes_torn : (d : DeviceState) (frame : Ldata) (now : ℕ) (fresh : Bool) (octets : List ℕ) → is_some (would_write d frame) ≡ true → takes d frame now (Torn fresh octets) ≡ cut (record d { kept = torn d.kept (effect_of_frame d frame) fresh octets })
takes_torn d frame now fresh octets h =
    let a : Asks d frame = asks d frame h in
    taken_so d frame now (Torn fresh octets) (took_of d frame) a.taken
    ∙ (ap cut (after_alone d frame now (Torn fresh octets) a.alone)
    ∙ (cut_is d (taken_alone d frame now (Torn fresh octets)) (torn d.kept (effect_delivered (connection_took d frame)) fresh octets) (alone_fixed d frame now (Torn fresh octets))
    ∙ ap (λ (e : Effect). cut (record d { kept = torn d.kept e fresh octets })) (sym a.effect)))

pub takes_worn : (d : DeviceState) (frame : Ldata) (now : ℕ) (kind : WriteKind) → would_write d frame ≡ Some kind → takes d frame now (Worn (worn_octets (effect_of_frame d frame))) ≡ record (taken_alone d frame now (Worn (worn_octets (effect_delivered (connection_took d frame))))) { last = Some frame }
takes_worn d frame now kind h =
    let a : Asks d frame = asks d frame (ap is_some h) in
    taken_so d frame now (Worn (worn_octets (effect_of_frame d frame))) (took_of d frame) a.taken
    ∙ (after_alone d frame now (Worn (worn_octets (effect_of_frame d frame))) a.alone
    ∙ ap (λ (e : Effect). record (taken_alone d frame now (Worn (worn_octets e))) { last = Some frame }) a.effect)
