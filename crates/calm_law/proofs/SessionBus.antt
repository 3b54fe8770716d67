-- One device of a calm line: it takes the client's frame.
use Rattle.std.proofs.Common.{◌≡◌, ℕ, ◌<◌, ◌≤◌, List, [], ◌∷◌, ◌++◌, length, Bool, true, false, cond, Option, Some, None, refl, sym, ◌∙◌, ap, subst, arith, nat_lt, is_some, ◌%◌, ◌/◌, ◌-◌}
use Rattle.std.proofs.lemmas.Bool.{eq-eqb}
use Rattle.knx_model.specs.declared.address.IndAddr.{IndAddr}
use Rattle.knx_model.specs.declared.connection.TransportFrame.{TransportFrame}
use Rattle.knx_model.specs.declared.connection.TransportFrame.TheVariants.{Connect, Disconnect, Ack, Nak, Numbered, Other}
use Rattle.knx_model.specs.declared.device.FrameSupport.{FrameSupport}
use Rattle.knx_model.specs.declared.device.FrameSupport.TheVariants.{Standard, Extended}
use Rattle.knx_model.specs.declared.device.Took.TheVariants.{Taken}
use Rattle.knx_model.specs.declared.frames.cemi.Ldata.{Ldata}
use Rattle.knx_model.specs.declared.frames.tpdu.Tpdu.{Tpdu}
use Rattle.knx_model.specs.declared.frames.tpdu.Tpdu.TheVariants as tpdus
use Rattle.knx_model.specs.declared.frames.value.Value.{Value}
use Rattle.knx_model.specs.declared.plan.Expect.{Expect}
use Rattle.knx_model.specs.Apdu.{Written}
use Rattle.knx_model.specs.ApduReading.{control_in}
use Rattle.knx_model.specs.Connection.{IsApdu, frame_in, control_frame, next_number, numbered_data}
use Rattle.knx_model.specs.Device.{NonVolatile, answer_in, effect_in, whole}
use Rattle.knx_model.specs.DeviceConnection.{DeviceEnd, Closed, Idle, Answering, device_took, device_after, device_answered, after_answer, first_answer}
use Rattle.knx_model.specs.DeviceState.{DeviceState, moved}
use Rattle.knx_model.specs.DeviceFrames.{Whole, own_frame, took_of, is_too_long, takes, takes_so, taken_alone}
use Rattle.knx_model.specs.GoodPlan.{AnswersAll}
use Rattle.knx_model.specs.Plans.{Plan, Asks, Suits}
use Rattle.knx_model.specs.Served.{FitsInto, IsServed}
use Rattle.session_law.proofs.Frames.{numbered_read, ack_read}
use Rattle.session_law.proofs.Apdus.{answer_is_apdu}
use Rattle.line_model.specs.Moments.{Moment}
use Rattle.calm_law.proofs.Spending.{Ledger}
use Rattle.calm_law.proofs.Phases.{Told, Heard, items_if, items_of, Phase, Rests, Opens, Ready, Sends, Served, Awaits, Owes, Acks, Leaves, fly_at, stream_at, attempts_at, answering_at, connection_at, device_at, Goes, Wants, Follows, IsGood}

-- ---- frames that the device takes

-- of a T_Connect, T_Disconnect or T_ACK there is one octet, and numbered data is as long as its service
abbrev ShortAs : TransportFrame → List ℕ → Type 0
ShortAs (Numbered n apdu) tpdu = length tpdu ≡ length apdu
ShortAs Other tpdu = Unit {0}
ShortAs f tpdu = length tpdu ≤ 1

one_octet : (f : TransportFrame) (first : ℕ) (c : Option Tpdu) → control_frame c ≡ f → ShortAs f (first ∷ [])
one_octet Connect first c h = omega arith
one_octet Disconnect first c h = omega arith
one_octet (Ack n) first c h = omega arith
one_octet (Nak n) first c h = omega arith
one_octet Other first c h = tt
one_octet (Numbered n apdu) first None h = absurd (cc)
one_octet (Numbered n apdu) first (Some tpdus.Connect) h = absurd (cc)
one_octet (Numbered n apdu) first (Some tpdus.Disconnect) h = absurd (cc)
one_octet (Numbered n apdu) first (Some (tpdus.Ack k)) h = absurd (cc)
one_octet (Numbered n apdu) first (Some (tpdus.Nak k)) h = absurd (cc)
one_octet (Numbered n apdu) first (Some (tpdus.Unnumbered a)) h = absurd (cc)
one_octet (Numbered n apdu) first (Some (tpdus.Numbered k a)) h = absurd (cc)

abbrev as_read : ℕ → ℕ → List ℕ → ℕ → Bool → TransportFrame
as_read first second rest number t = cond t (Numbered number (first ∷ second ∷ rest)) Other

more_octets : (f : TransportFrame) (x y first second number : ℕ) (rest : List ℕ) (t : Bool) → as_read first second rest number t ≡ f → ShortAs f (x ∷ y ∷ rest)
more_octets Connect x y first second number rest true h = absurd (cc)
more_octets Connect x y first second number rest false h = absurd (cc)
more_octets Disconnect x y first second number rest true h = absurd (cc)
more_octets Disconnect x y first second number rest false h = absurd (cc)
more_octets (Ack n) x y first second number rest true h = absurd (cc)
more_octets (Ack n) x y first second number rest false h = absurd (cc)
more_octets (Nak n) x y first second number rest true h = absurd (cc)
more_octets (Nak n) x y first second number rest false h = absurd (cc)
more_octets Other x y first second number rest t h = tt
more_octets (Numbered n apdu) x y first second number rest true h = (let same : first ∷ second ∷ rest ≡ apdu = cc in ap (λ (l : List ℕ). length l) same)
more_octets (Numbered n apdu) x y first second number rest false h = absurd (cc)

none_octets : (f : TransportFrame) → Other ≡ f → ShortAs f []
none_octets Connect h = omega arith
none_octets Disconnect h = omega arith
none_octets (Ack n) h = omega arith
none_octets (Nak n) h = omega arith
none_octets Other h = tt
none_octets (Numbered n apdu) h = absurd (cc)

short_as : (f : TransportFrame) (tpdu : List ℕ) → frame_in tpdu ≡ f → ShortAs f tpdu
unfolding frame_in
short_as f [] h = none_octets f h
short_as f (first ∷ []) h = one_octet f first (control_in first) h
short_as f (first ∷ second ∷ rest) h = more_octets f first second (first % 4) second (first / 4 - 16) rest _ h

-- what fits is short enough
abbrev FitsAs : FrameSupport → TransportFrame → Type 0
FitsAs frames (Numbered n apdu) = FitsInto frames apdu
FitsAs frames f = Unit {0}

not_longer : (n : ℕ) → n ≤ 16 → nat_lt 16 n ≡ false
not_longer n h = grind (arith, h)

abbrev IsSent : TransportFrame → Type 0
IsSent Other = ⊥
IsSent _ = Unit {0}

fits_frame : (frames : FrameSupport) (me : IndAddr) (destination : ℕ) (f : TransportFrame) (tpdu : List ℕ) → frame_in tpdu ≡ f → IsSent f → FitsAs frames f → is_too_long frames (own_frame me false destination tpdu) ≡ false
fits_frame Extended me destination f tpdu h s fits = refl
fits_frame Standard me destination Connect tpdu h s fits = not_longer (length tpdu) (let a : length tpdu ≤ 1 = short_as Connect tpdu h in omega (arith, a))
fits_frame Standard me destination Disconnect tpdu h s fits = not_longer (length tpdu) (let a : length tpdu ≤ 1 = short_as Disconnect tpdu h in omega (arith, a))
fits_frame Standard me destination (Ack n) tpdu h s fits = not_longer (length tpdu) (let a : length tpdu ≤ 1 = short_as (Ack n) tpdu h in omega (arith, a))
fits_frame Standard me destination (Nak n) tpdu h s fits = not_longer (length tpdu) (let a : length tpdu ≤ 1 = short_as (Nak n) tpdu h in omega (arith, a))
fits_frame Standard me destination (Numbered n apdu) tpdu h s fits = not_longer (length tpdu) (let a : length tpdu ≡ length apdu = short_as (Numbered n apdu) tpdu h in omega (arith, a, fits))
fits_frame Standard me destination Other tpdu h s fits = absurd s

-- ---- what joins the unsent frames

pub items_append : (l k : List Ldata) → items_of (l ++ k) ≡ items_of l ++ items_of k
items_append [] k = refl
items_append (f ∷ l) k = by_group f.group (items_append l k) where
  by_group : (b : Bool) → items_of (l ++ k) ≡ items_of l ++ items_of k → items_if b (frame_in f.tpdu) (items_of (l ++ k)) ≡ items_if b (frame_in f.tpdu) (items_of l) ++ items_of k
  by_group true h = h
  by_group false h = ap (λ z. Heard (frame_in f.tpdu) ∷ z) h

module _ (me device : IndAddr) (plan : Plan) (n e now : ℕ) (small : (n < 16) × (e < 16)) (frames : FrameSupport) (kept : NonVolatile) (values : List (Option Value)) (unsent : List Ldata) (last : Option Ldata) (W : Type 0) where
  -- the device, and the client's frame to it
  abbrev pub the_device : DeviceEnd → DeviceState
  the_device connection = record { address = device; frames = frames; kept = kept; power = true; connection = connection; values = values; unsent = unsent; last = last }

  abbrev pub to_it : List ℕ → Ldata
  to_it tpdu = own_frame me false device.raw tpdu

  is_taken : (connection : DeviceEnd) (f : TransportFrame) (tpdu : List ℕ) → frame_in tpdu ≡ f → IsSent f → FitsAs frames f → took_of (the_device connection) (to_it tpdu) ≡ Taken
  is_taken connection f tpdu read s fits = rw (eq-eqb device.raw device.raw refl, fits_frame frames me device.raw f tpdu read s fits) refl

  -- what comes of it
  pub record TakesIt (phase : Phase) (tpdu : List ℕ) : Type 0 where
    pub next : Phase
    pub lands : fly_at n next ≡ None
    pub attempts : (k : ℕ) → attempts_at me device plan k n e now next ≡ attempts_at me device plan k n e now phase
    pub taken : took_of (the_device (connection_at me device plan n e now phase)) (to_it tpdu) ≡ Taken
    pub after : DeviceState
    pub is : takes (the_device (connection_at me device plan n e now phase)) (to_it tpdu) now Whole ≡ after
    pub connection : after.connection ≡ connection_at me device plan n e now next
    pub stream : Told ∷ items_of after.unsent ≡ stream_at n e next
    pub good : IsGood plan e next frames after.kept
    pub same : (after.frames ≡ frames) × (after.power ≡ true) × (after.address ≡ device)
    pub books : (k a : ℕ) (l : List Moment) → Ledger W a plan k n e phase l → Ledger W a plan k n e next l
    pub wants : (k : ℕ) → Wants W plan k phase frames kept → Wants W plan k next frames after.kept

  -- it takes it by itself
  alone : (connection : DeviceEnd) (f : TransportFrame) (tpdu : List ℕ) → frame_in tpdu ≡ f → IsSent f → FitsAs frames f
      → takes (the_device connection) (to_it tpdu) now Whole ≡ record (taken_alone (the_device connection) (to_it tpdu) now Whole) { last = Some (to_it tpdu) }
  alone connection f tpdu read s fits = ap (takes_so (the_device connection) (to_it tpdu) now Whole) (is_taken connection f tpdu read s fits)

  -- the T_Connect
  connect_taken : (tpdu : List ℕ) → frame_in tpdu ≡ Connect → Goes plan false frames kept → TakesIt (Opens true) tpdu
  unfolding device_took device_after
  connect_taken tpdu read good =
      let a : DeviceState = record (the_device (Idle (device_at me 0 0 now))) { unsent = []; last = Some (to_it tpdu) } in
      record {
        next = Opens false;
        lands = refl;
        attempts = λ k. refl;
        taken = is_taken Closed Connect tpdu read tt tt;
        after = a;
        is = alone Closed Connect tpdu read tt tt ∙ rw read refl;
        connection = refl;
        stream = refl;
        good = good;
        same = (refl, refl, refl);
        books = λ k a l h. h;
        wants = λ k h. h;
      }

  -- the T_ACK of its answer
  ack_taken : (left : Plan) (closing : Bool) (v : List ℕ) (m : ℕ) (tpdu : List ℕ) → frame_in tpdu ≡ Ack m → items_of unsent ≡ [] → Goes left closing frames kept × Follows m e → TakesIt (Acks true left closing v m) tpdu
  unfolding device_took device_after
  ack_taken left closing v m tpdu read none good =
      let a : DeviceState = record (the_device (Idle (device_at me n (next_number m) now))) { last = Some (to_it tpdu) } in
      record {
        next = Acks false left closing v m;
        lands = refl;
        attempts = λ k. refl;
        taken = is_taken (answering_at me device plan n m now (Some v)) (Ack m) tpdu read tt tt;
        after = a;
        is = alone (answering_at me device plan n m now (Some v)) (Ack m) tpdu read tt tt ∙ rw (read, eq-eqb me.raw me.raw refl, eq-eqb m m refl) refl;
        connection = ap (λ z. Idle (device_at me n z now)) (sym good.1.1);
        stream = ap (λ z. Told ∷ z) none;
        good = good;
        same = (refl, refl, refl);
        books = λ k a l h. h;
        wants = λ k h. h;
      }

  -- the T_Disconnect
  leave_taken : (left : Plan) (tpdu : List ℕ) → frame_in tpdu ≡ Disconnect → items_of unsent ≡ [] → TakesIt (Leaves true left) tpdu
  unfolding device_took device_after
  leave_taken left tpdu read none =
      let a : DeviceState = record (the_device Closed) { last = Some (to_it tpdu) } in
      record {
        next = Leaves false left;
        lands = refl;
        attempts = λ k. refl;
        taken = is_taken (Idle (device_at me n e now)) Disconnect tpdu read tt tt;
        after = a;
        is = alone (Idle (device_at me n e now)) Disconnect tpdu read tt tt ∙ rw (read, eq-eqb me.raw me.raw refl) (rw (eq-eqb me.raw me.raw refl) refl);
        connection = refl;
        stream = ap (λ z. Told ∷ z) none;
        good = tt;
        same = (refl, refl, refl);
        books = λ k a l h. h;
        wants = λ k h. h;
      }

  -- a service
  abbrev acked : DeviceState
  acked = record (the_device (Idle (device_at me (next_number n) e now))) { unsent = unsent ++ own_frame device false me.raw (Written (tpdus.Ack n)) ∷ [] }

  acked_items : items_of unsent ≡ [] → items_of (unsent ++ own_frame device false me.raw (Written (tpdus.Ack n)) ∷ []) ≡ Heard (Ack n) ∷ []
  acked_items none =
      items_append unsent (own_frame device false me.raw (Written (tpdus.Ack n)) ∷ []) ∙ ap (λ z. z ++ Heard (frame_in (Written (tpdus.Ack n))) ∷ []) none ∙ ap (λ z. Heard z ∷ []) (ack_read n small.0)

  answered_items : (v : List ℕ) → items_of unsent ≡ [] → IsApdu v
      → items_of ((unsent ++ own_frame device false me.raw (Written (tpdus.Ack n)) ∷ []) ++ own_frame device false me.raw (numbered_data e v) ∷ []) ≡ Heard (Ack n) ∷ Heard (Numbered e v) ∷ []
  answered_items v none is =
      items_append (unsent ++ own_frame device false me.raw (Written (tpdus.Ack n)) ∷ []) (own_frame device false me.raw (numbered_data e v) ∷ [])
      ∙ ap (λ z. z ++ Heard (frame_in (numbered_data e v)) ∷ []) (acked_items none) ∙ ap (λ z. Heard (Ack n) ∷ Heard z ∷ []) (numbered_read e v small.1 is)

  service_taken : (place : ℕ) (apdu : List ℕ) (expect : Expect) (next : Option (List ℕ) → Plan) (tpdu : List ℕ) → frame_in tpdu ≡ Numbered n apdu → items_of unsent ≡ [] → Goes (Asks place apdu expect next) false frames kept → TakesIt (Sends place apdu expect next) tpdu
  unfolding device_took device_after device_answered after_answer
  service_taken place apdu expect next tpdu read none good = by_answer (answer_in frames kept apdu) refl where
    it : IsServed frames (Asks place apdu expect next) kept
    it = good.served refl

    by_answer : (o : Option (List ℕ)) → answer_in frames kept apdu ≡ o → TakesIt (Sends place apdu expect next) tpdu
    by_answer None is =
        let d : DeviceState = moved acked (whole kept (effect_in apdu)) in
        let a : DeviceState = record d { last = Some (to_it tpdu) } in
        record {
          next = Served true place apdu expect next None;
          lands = refl;
          attempts = λ k. refl;
          taken = is_taken (Idle (device_at me n e now)) (Numbered n apdu) tpdu read tt it.0;
          after = a;
          is = alone (Idle (device_at me n e now)) (Numbered n apdu) tpdu read tt it.0 ∙ rw (read, eq-eqb me.raw me.raw refl, eq-eqb n n refl, is) refl;
          connection = refl;
          stream = ap (λ z. Told ∷ z) (acked_items none);
          good = record {
            sendable = good.sendable;
            exactly = ap (λ (z : Option (List ℕ)). is_some z) (sym is) ∙ it.1;
            served = λ suits. subst (λ z. IsServed frames (next z) (whole kept (effect_in apdu))) is (it.2 (subst (λ z. Suits apdu expect z) (sym is) suits));
          };
          same = (refl, refl, refl);
          books = λ k a l h. h;
          wants = λ k h w. (subst (λ z. Suits apdu expect z) is (h w).0, subst (λ z. AnswersAll (answer_in frames) (next z) (whole kept (effect_in apdu))) is (h w).1);
        }
    by_answer (Some v) is =
        let d : DeviceState = moved acked (whole kept (effect_in apdu)) in
        let a : DeviceState = record d { connection = Answering (device_at me (next_number n) e now) (first_answer (numbered_data e v) now); unsent = (unsent ++ own_frame device false me.raw (Written (tpdus.Ack n)) ∷ []) ++ own_frame device false me.raw (numbered_data e v) ∷ []; last = Some (to_it tpdu) } in
        record {
          next = Served true place apdu expect next (Some v);
          lands = refl;
          attempts = λ k. refl;
          taken = is_taken (Idle (device_at me n e now)) (Numbered n apdu) tpdu read tt it.0;
          after = a;
          is = alone (Idle (device_at me n e now)) (Numbered n apdu) tpdu read tt it.0 ∙ rw (read, eq-eqb me.raw me.raw refl, eq-eqb n n refl, is) refl;
          connection = refl;
          stream = ap (λ z. Told ∷ z) (answered_items v none (answer_is_apdu frames kept apdu v is));
          good = record {
            sendable = good.sendable;
            exactly = ap (λ (z : Option (List ℕ)). is_some z) (sym is) ∙ it.1;
            served = λ suits. subst (λ z. IsServed frames (next z) (whole kept (effect_in apdu))) is (it.2 (subst (λ z. Suits apdu expect z) (sym is) suits));
          };
          same = (refl, refl, refl);
          books = λ k a l h. h;
          wants = λ k h w. (subst (λ z. Suits apdu expect z) is (h w).0, subst (λ z. AnswersAll (answer_in frames) (next z) (whole kept (effect_in apdu))) is (h w).1);
        }

  -- each of them
  pub taken : (phase : Phase) (f : TransportFrame) (tpdu : List ℕ) → fly_at n phase ≡ Some f → frame_in tpdu ≡ f → items_of unsent ≡ [] → IsGood plan e phase frames kept → TakesIt phase tpdu
  taken Rests f tpdu flies read none good = absurd (cc)
  taken (Opens true) f tpdu flies read none good = connect_taken tpdu (read ∙ (let same : Connect ≡ f = cc in sym same)) good
  taken (Opens false) f tpdu flies read none good = absurd (cc)
  taken (Ready left closing) f tpdu flies read none good = absurd (cc)
  taken (Sends place apdu expect next) f tpdu flies read none good = service_taken place apdu expect next tpdu (read ∙ (let same : Numbered n apdu ≡ f = cc in sym same)) none good
  taken (Served told place apdu expect next o) f tpdu flies read none good = absurd (cc)
  taken (Awaits place apdu expect next v) f tpdu flies read none good = absurd (cc)
  taken (Owes left closing v m) f tpdu flies read none good = absurd (cc)
  taken (Acks true left closing v m) f tpdu flies read none good = ack_taken left closing v m tpdu (read ∙ (let same : Ack m ≡ f = cc in sym same)) none good
  taken (Acks false left closing v m) f tpdu flies read none good = absurd (cc)
  taken (Leaves true left) f tpdu flies read none good = leave_taken left tpdu (read ∙ (let same : Disconnect ≡ f = cc in sym same)) none
  taken (Leaves false left) f tpdu flies read none good = absurd (cc)
