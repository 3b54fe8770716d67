-- From a done attempt on, what the device keeps stays until a service is sent.
use Rattle.std.proofs.Common.{◌≡◌, ℕ, suc, ◌%◌, List, [], ◌∷◌, ◌++◌, length, Bool, true, false, cond, Option, Some, None, refl, sym, ◌∙◌, ap, subst, arith, inl, inr, if◌then◌else◌}
use Rattle.knx_model.specs.declared.address.IndAddr.{IndAddr}
use Rattle.knx_model.specs.declared.frames.cemi.Ldata.{Ldata}
use Rattle.knx_model.specs.declared.connection.TransportFrame.{TransportFrame}
use Rattle.knx_model.specs.declared.connection.TransportFrame.TheVariants.{Numbered, Other}
use Rattle.knx_model.specs.declared.connection.ClientExpired.{ClientExpired}
use Rattle.knx_model.specs.declared.connection.ClientExpired.TheVariants as over
use Rattle.knx_model.specs.Connection.{frame_in}
use Rattle.knx_model.specs.ClientConnection.{client_expired}
use Rattle.knx_model.specs.DeviceState.{DeviceState}
use Rattle.knx_model.specs.DeviceFrames.{Outcome, Whole, took_of, is_taken}
use Rattle.knx_model.specs.Device.{NonVolatile}
use Rattle.knx_model.specs.Plans.{Plan, Over}
use Rattle.session_law.specs.World.{Message, Con, Ind, World, fresh}
use Rattle.session_law.specs.Client.{waits_so, replies_so, takes_oldest}
use Rattle.session_law.specs.Device.{gets, carries, carries_lost, gets_again}
use Rattle.session_law.specs.Events.{Event, Connects, Asks, Waits, Replies, Leaves, Takes, Loses, Joins, Drops, Bus, BusLost, BusAgain, Group, Elsewhere, DevSend, DevRepeat, DevClose, GwAgain, Cut, On, Pass, step, MayHappen, replay, IsLegal}
use Rattle.session_law.proofs.Arrivals.{transport_if}
use Rattle.session_law.proofs.Seen.{Seen}
use Rattle.session_law.proofs.Taken.{seen_of, Hears, HOpens, HDelivers, HAnswers, HAgain, HSpeaks, HAcked, HCloses, Got, GNot, GWhole, GTorn, GotIs, got_mine, got_group}
use Rattle.session_law.proofs.Spoken.{Shuts, ShSame, ShCloses, ShCut, LastMine, shut_seen, on_seen}
use Rattle.session_law.proofs.Invariant.{LastIs, Ready, FlyIs}
use Rattle.session_law.proofs.Sides.{fly_ready, next_one, ready_numbered}
use Rattle.session_law.proofs.Books.{Books, empty, carries_book, gets_book, again_book, books_after, books}
use Rattle.session_law.proofs.Steps.{FlyMine, WorldInv, fly_small, ready_small, transport_alone, fresh_inv, always}
use Rattle.load_law.specs.Download.{Follows, IsDone, IsSilent, AsksNothing}
use Rattle.load_law.proofs.Answers.{Texts}
use Rattle.load_law.proofs.Walked.{AllGoodFor}
use Rattle.load_law.proofs.Follows.{again_opens, opens_other, over_at, load_always, fresh_load}

-- what a frame leaves where nothing else was asked
pub record Still (b : Bool) (o n : Seen) : Type 0 where
  pub kept : n.kept ≡ o.kept
  pub ds : n.delivered ≡ (if b then [] else o.delivered)

module _ (me : IndAddr) (asked : Texts) (s : TransportFrame) (o : Seen) (r : Ready s asked o.delivered) (quiet : asked ≡ o.delivered) where
  pub nothing_new : (apdu : List ℕ) → s ≡ Numbered (length o.delivered % 16) apdu → ⊥
  nothing_new apdu se =
      let e : asked ≡ apdu ∷ o.delivered = next_one asked o.delivered apdu (ready_numbered s _ apdu asked o.delivered se r) in
      let g : length o.delivered ≡ suc (length o.delivered) = ap (λ (z : Texts). length z) (sym quiet ∙ e) in
      omega arith

  still_heard : {outcome : Outcome} → (b : Bool) (n : Seen) → Hears me outcome s o b n → Still b o n
  still_heard b n (HOpens t se ci) = record { kept = refl; ds = refl }
  still_heard b n (HDelivers u apdu l ex se ci le ai) = absurd (nothing_new apdu se)
  still_heard b n (HAnswers u a apdu v l ex se ci le ai) = absurd (nothing_new apdu se)
  still_heard b n (HAgain c k apdu l se ne nx ex ci le st) = record { kept = refl; ds = refl }
  still_heard b n (HSpeaks c k l sc pl ex ci le st) = record { kept = refl; ds = refl }
  still_heard b n (HAcked u v older ex ge se ci nc) = record { kept = refl; ds = refl }
  still_heard b n (HCloses k l sc pl le) = record { kept = refl; ds = refl }

  still_got : {outcome : Outcome} → (b taken : Bool) (n : Seen) → Got me outcome s o b taken n → Still b o n
  still_got b taken n GNot = record { kept = refl; ds = refl }
  still_got b taken n (GWhole b2 n2 h w) = still_heard b n h
  still_got b taken n (GTorn b2 m h) = record { kept = (still_heard b m h).kept; ds = refl }

shut_still : (o n : Seen) → Shuts o n → n.kept ≡ o.kept
shut_still o n ShSame = refl
shut_still o n (ShCloses k l pl le) = refl
shut_still o n ShCut = refl

-- nothing is asked that wasn't delivered, and what is kept stays
pub record Quiet (old new : World) (b : Books) : Type 0 where
  pub quiet : b.asked ≡ b.delivered
  pub kept : new.device.kept ≡ old.device.kept

abbrev IsQuiet : Books → Type 0
IsQuiet b = b.asked ≡ b.delivered

waits_quiet : (w : World) (b : Books) (x : ClientExpired) → IsQuiet b → Quiet w (waits_so w x) b
waits_quiet w b over.Nothing q = record { quiet = q; kept = refl }
waits_quiet w b (over.Repeat tpdu) q = record { quiet = q; kept = refl }
waits_quiet w b (over.Silent ms) q = record { quiet = q; kept = refl }

replies_quiet : (w : World) (b : Books) (l : Texts) → IsQuiet b → Quiet w (replies_so w l) b
replies_quiet w b [] q = record { quiet = q; kept = refl }
replies_quiet w b (x ∷ l) q = record { quiet = q; kept = refl }

takes_quiet : (w : World) (b : Books) (l : List Message) → IsQuiet b → Quiet w (takes_oldest w l) b
takes_quiet w b [] q = record { quiet = q; kept = refl }
takes_quiet w b (Con error ∷ l) q = record { quiet = q; kept = refl }
takes_quiet w b (Ind frame ∷ l) q = record { quiet = q; kept = refl }

both_anew : (t : Bool) (asked delivered : Texts) → asked ≡ delivered → cond t [] asked ≡ cond t [] delivered
both_anew true asked delivered e = refl
both_anew false asked delivered e = e

bus_quiet : (w : World) (b : Books) (fl : Option Ldata) (outcome : Outcome) → w.flying ≡ fl → WorldInv w b → IsQuiet b → Quiet w (carries w fl outcome) (carries_book w b fl outcome)
bus_quiet w b None outcome e h q = record { quiet = q; kept = refl }
bus_quiet w b (Some frame) outcome e h q =
    let mine : (frame.group ≡ false) × (frame.source ≡ w.me.raw) = subst (λ (z : Option Ldata). FlyMine w.me z) e h.flying in
    let o : Seen = seen_of w.device b.delivered b.given in
    let s : TransportFrame = frame_in frame.tpdu in
    let at : transport_if w.flying ≡ Some s = ap transport_if e ∙ ap (λ (z : TransportFrame). Some z) (transport_alone frame mine.0) in
    let fly : FlyIs (Some s) b.asked = subst (λ (z : Option TransportFrame). FlyIs z b.asked) at h.inv.side.fly_is in
    let got : GotIs w.me w.device frame w.now outcome b.delivered b.given s = got_mine w.me w.device frame w.now outcome b.delivered b.given mine.0 mine.1 (fly_small s b.asked fly) h.inv.side.connection in
    let t = still_got w.me b.asked s o (fly_ready s b.asked b.delivered h.inv.side.prefix h.inv.side.one fly) q got.0 (is_taken (took_of w.device frame)) _ got.1 in
    record { quiet = got.2 b.asked ∙ both_anew got.0 b.asked b.delivered q ∙ sym t.ds; kept = t.kept }

lost_quiet : (w : World) (b : Books) (fl : Option Ldata) → IsQuiet b → Quiet w (carries_lost w fl) b
lost_quiet w b None q = record { quiet = q; kept = refl }
lost_quiet w b (Some frame) q = record { quiet = q; kept = refl }

-- a frame that comes again opens only where nothing was delivered
opened_none : (t : Bool) (ds n : Texts) → n ≡ cond t [] ds → (t ≡ true → ds ≡ []) → ds ≡ n
opened_none true ds n e f = f refl ∙ sym e
opened_none false ds n e f = sym e

group_quiet : (w : World) (b : Books) (frame : Ldata) → frame.group ≡ true → WorldInv w b → IsQuiet b → Quiet w (gets w frame Whole) (gets_book w b frame Whole)
group_quiet w b frame g h q =
    let o : Seen = seen_of w.device b.delivered b.given in
    let got : GotIs w.me w.device frame w.now Whole b.delivered b.given Other = got_group w.me w.device frame w.now b.delivered b.given g h.inv.side.connection in
    let t = still_got w.me b.asked Other o tt q got.0 (is_taken (took_of w.device frame)) _ got.1 in
    record { quiet = q ∙ opened_none got.0 b.delivered _ t.ds (λ z. absurd (opens_other w.me Whole o got.0 _ _ got.1 z)); kept = t.kept }

again_quiet : (w : World) (b : Books) (r : Option Ldata) → w.device.last ≡ r → LastMine w.me r → WorldInv w b → IsQuiet b → Quiet w (gets_again w r) (again_book w b r)
again_quiet w b None e mine h q = record { quiet = q; kept = refl }
again_quiet w b (Some frame) e (inl g) h q = group_quiet w b frame g h q
again_quiet w b (Some frame) e (inr mine) h q =
    let o : Seen = seen_of w.device b.delivered b.given in
    let s : TransportFrame = frame_in frame.tpdu in
    let at : transport_if w.device.last ≡ Some s = ap transport_if e ∙ ap (λ (z : TransportFrame). Some z) (transport_alone frame mine.0) in
    let last : LastIs (Some s) b.asked b.delivered b.given = subst (λ (z : Option TransportFrame). LastIs z b.asked b.delivered b.given) at h.inv.side.last_is in
    let got : GotIs w.me w.device frame w.now Whole b.delivered b.given s = got_mine w.me w.device frame w.now Whole b.delivered b.given mine.0 mine.1 (ready_small s b.asked b.delivered last.0) h.inv.side.connection in
    let t = still_got w.me b.asked s o last.0 q got.0 (is_taken (took_of w.device frame)) _ got.1 in
    record { quiet = q ∙ opened_none got.0 b.delivered _ t.ds (λ z. (again_opens w.me Whole s o b.asked got.0 (is_taken (took_of w.device frame)) _ last got.1 z).0); kept = t.kept }

quiet_step : (w : World) (b : Books) (e : Event) → MayHappen w e → IsSilent e → WorldInv w b → IsQuiet b → Quiet w (step w e) (books_after w b e)
quiet_step w b Connects may na h q = record { quiet = q; kept = refl }
quiet_step w b (Asks apdu) may na h q = absurd na
quiet_step w b Waits may na h q = waits_quiet w b (client_expired w.client.end w.now) q
quiet_step w b Replies may na h q = replies_quiet w b w.client.owed q
quiet_step w b Leaves may na h q = record { quiet = q; kept = refl }
quiet_step w b Takes may na h q = takes_quiet w b w.coming q
quiet_step w b Loses may na h q = record { quiet = q; kept = refl }
quiet_step w b (Joins n) may na h q = record { quiet = q; kept = refl }
quiet_step w b (Drops n) may na h q = record { quiet = q; kept = refl }
quiet_step w b (Bus outcome) may na h q = bus_quiet w b w.flying outcome refl h q
quiet_step w b BusLost may na h q = lost_quiet w b w.flying q
quiet_step w b BusAgain may na h q = again_quiet w b w.device.last refl h.last h q
quiet_step w b (Group frame) may na h q = let r : Quiet w (gets w frame Whole) (gets_book w b frame Whole) = group_quiet w b frame may h q in record { quiet = r.quiet; kept = r.kept }
quiet_step w b Elsewhere may na h q = record { quiet = q; kept = refl }
quiet_step w b (DevSend gateway) may na h q = record { quiet = q; kept = refl }
quiet_step w b (DevRepeat gateway) may na h q = record { quiet = q; kept = refl }
quiet_step w b DevClose may na h q = record { quiet = q; kept = shut_still (seen_of w.device b.delivered b.given) _ (shut_seen w.device b.delivered b.given) }
quiet_step w b GwAgain may na h q = record { quiet = q; kept = refl }
quiet_step w b Cut may na h q = record { quiet = q; kept = refl }
quiet_step w b On may na h q = record { quiet = q; kept = shut_still (seen_of w.device b.delivered b.given) _ (on_seen w.device b.delivered b.given) }
quiet_step w b (Pass ms) may na h q = record { quiet = q; kept = refl }

-- over a run
front_legal : (start : World) (later earlier : List Event) → IsLegal start (later ++ earlier) → IsLegal start earlier
front_legal start [] earlier h = h
front_legal start (e ∷ later) earlier h = front_legal start later earlier h.1

stays : (start : World) (later earlier : List Event) → WorldInv start empty → IsLegal start (later ++ earlier) → AsksNothing later → IsQuiet (books start earlier) → Quiet (replay start earlier) (replay start (later ++ earlier)) (books start (later ++ earlier))
stays start [] earlier h legal na q = record { quiet = q; kept = refl }
stays start (e ∷ later) earlier h legal na q =
    let t : Quiet (replay start earlier) (replay start (later ++ earlier)) (books start (later ++ earlier)) = stays start later earlier h legal.1 na.1 q in
    let u : Quiet (replay start (later ++ earlier)) (replay start (e ∷ (later ++ earlier))) (books start (e ∷ (later ++ earlier)))
    = quiet_step (replay start (later ++ earlier)) (books start (later ++ earlier)) e legal.0 na.0 (always start (later ++ earlier) h legal.1) t.quiet in
    record { quiet = u.quiet; kept = u.kept ∙ t.kept }

pub done_stays : (IsJob : Plan → Type 0) (Holds Case : NonVolatile → Type 0) (Ends : Plan → NonVolatile → Type 0) (plan : Plan) (me : IndAddr) (d : DeviceState) (later earlier : List Event) → AllGoodFor IsJob Holds Case Ends → Holds d.kept → Case d.kept → IsJob plan → IsLegal (fresh me d) (later ++ earlier)
    → Follows IsJob (fresh me d) earlier → IsDone plan (replay (fresh me d) earlier) → AsksNothing later → (replay (fresh me d) (later ++ earlier)).device.kept ≡ (replay (fresh me d) earlier).device.kept
done_stays IsJob Holds Case Ends plan me d later earlier good holds case job legal f done na =
    let start : World = fresh me d in
    let w : World = replay start earlier in
    let b : Books = books start earlier in
    let h : WorldInv w b = always start earlier (fresh_inv me d) (front_legal start later earlier legal) in
    let l = load_always IsJob Holds Case Ends d.frames good start earlier (fresh_inv me d) (fresh_load IsJob Holds Case Ends d.frames good me d refl case holds) (front_legal start later earlier legal) f in
    let all = over_at IsJob Holds Case Ends d.frames good w b plan Over job h l done.over done.all in
    (stays start later earlier (fresh_inv me d) legal na (all.sent_is ∙ sym all.delivered_is)).kept
