-- An entry of the record that is no renewal: the session follows it, and so do the attempts of the job that is held.
use Rattle.std.proofs.Common.{◌≡◌, ℕ, suc, ◌⊎◌, List, [], ◌∷◌, Bool, true, false, not, ◌&&◌, cond, Option, Some, None, refl, sym, ◌∙◌, ap, subst, inl, inr}
use Rattle.std.specs.Prelude.{◌==◌, is_some}
use Rattle.std.proofs.lemmas.Bool.{eqb-true}
use Rattle.knx_model.specs.declared.address.IndAddr.{IndAddr}
use Rattle.knx_model.specs.declared.frames.cemi.Ldata.{Ldata}
use Rattle.knx_model.specs.Connection.{frame_in}
use Rattle.knx_model.specs.GoodPlan.{IsSendable}
use Rattle.knx_model.specs.Plans.{Plan}
use Rattle.line_model.specs.declared.group.GroupTurn.{GroupTurn}
use Rattle.line_model.specs.declared.log.LogEntry.{LogEntry}
use Rattle.line_model.specs.ActedOnce.{IsActedOnce}
use Rattle.line_model.specs.Asks.{IsRightRequest, IsRightDeed, IsOfJob, IsQuiet, HasPlace}
use Rattle.line_model.specs.Attempts.{Attempts, Resting, Running, attempts, attempts_after, MayPut}
use Rattle.line_model.specs.ChannelLost.{confirmed, is_new_request, last_frame, is_confirmation}
use Rattle.line_model.specs.ClientView.{ClientChannel, Open, Lost, Deed, or_number, channel, traffic, deed, views}
use Rattle.line_model.specs.ClientView as view
use Rattle.line_model.specs.Log.{Job}
use Rattle.line_model.specs.Moments.{moments, where_is, put_frame}
use Rattle.line_model.specs.Reading.{ldata_in, is_req}
use Rattle.line_model.specs.Record.{Entry, Placed, entries, is_renewal}
use Rattle.line_model.specs.Told.{PutsTurn}
use Rattle.line_model.specs.World.{World, me}
use Rattle.session_law.specs.World.{World as SessionWorld, Client}
use Rattle.session_law.specs.Events.{Event as SessionEvent, step, replay}
use Rattle.session_law.specs.Events as event
use Rattle.load_law.specs.Download.{IsSilent, AsksNothing}
use Rattle.tunnel_law.proofs.Fits.{books}
use Rattle.tunnel_law.proofs.Took.{InvT}
use Rattle.line_law.proofs.Queue.{is_its}
use Rattle.line_law.proofs.Coupled.{IsOut, is_open, Coupled}
use Rattle.line_law.proofs.Entries.{HeadView, still_kept, lost_kept}
use Rattle.line_law.proofs.Entering.{last_of, own_of, counted_is, number_by, Brings, views_stay, UpPlace, up_place, Still, Turn, IsStill, IsLost, Joins, Puts, Takes}
use Rattle.line_law.proofs.Turning.{turn}
use Rattle.line_law.proofs.Joining.{joins_kept}
use Rattle.line_law.proofs.Opened.{PutsSo, put_kept, is_free}
use Rattle.tunnel_law.proofs.Inside.{Every}
use Rattle.line_law.proofs.OwnAddress.{KnowsOwn, PutReaches, own_taken, taken_reaches}
use Rattle.line_law.proofs.Takes.{take_kept}
use Rattle.line_law.proofs.TakesAny.{client_told, TakesGoes}
use Rattle.knx_model.specs.declared.connection.TransportFrame.{TransportFrame}
use Rattle.knx_model.specs.declared.connection.TransportFrame.TheVariants.{Connect, Disconnect, Ack, Nak, Numbered, Other}
use Rattle.line_model.specs.Moments.{put_to, transport_of, is_to}
use Rattle.line_law.proofs.Attempting.{IsService, AttemptIs}
use Rattle.line_law.proofs.Courses.{NotService}
use Rattle.line_law.proofs.Landing.{Free, PutsSo as PutsAllowed}
use Rattle.line_law.proofs.Telling.{take_attempt, still_attempt, lost_attempt, none_runs}
use Rattle.line_law.proofs.Asking.{asks_kept}
use Rattle.line_law.proofs.Requests.{PutsGoes, other_step}
use Rattle.line_law.proofs.Logs.{AreUpto, after, upto_more, between_after}
use Rattle.line_law.proofs.HeldJobs.{HeldJob, HeldPlan, AllAttempted, AttemptedOn, EntryGoes, moves_number, its_is}
use Rattle.line_law.proofs.NothingAsked.{silent_follows}

module _ (jobs : List Job) (turns : List GroupTurn) (log : List LogEntry) (a : ℕ) (w : World) (r : List Entry) (older : List Placed) (x : Entry) (at : ℕ) (s : SessionWorld) (same : entries older ≡ r) (kept : is_renewal x.what ≡ false) (h : HeadView r w.tunnel.present)
    (inv : InvT (books (x ∷ r)) w.tunnel) (own : IndAddr) (knows : KnowsOwn own (channel r)) (reaches : Every (PutReaches own) w.tunnel.gateway.puts) (once : IsActedOnce w.tunnel.gateway (x ∷ r)) (named : s.device.address.raw ≡ a) (time : s.now ≡ x.now) (upto : AreUpto at (moments older)) (one : (p q : HeldJob jobs log a) → (p.job ≡ q.job) × (p.since ≡ q.since))
    (can : (p : HeldJob jobs log a) → IsSendable p.job.plan) (c : Coupled a w r s) (before : AllAttempted jobs log a (moments older) s.client) where
  abbrev Next : Type 0
  Next = EntryGoes jobs log a w (x ∷ r) (moments older) (record { what = deed (channel r) x; now = x.now; at = suc at }) s

  views_same : or_number (channel (x ∷ r)) h.view.number ≡ h.view.number → (Brings (traffic (channel r) x) → ⊥) → views (x ∷ r) ≡ views r
  views_same number none = views_stay r w.tunnel.present x h kept number none

  -- what came and went, as it counts
  counted : (d : Deed) → traffic (channel r) x ≡ d → deed (channel r) x ≡ view.as_counted (own_of (channel r)) (last_of (channel r)) d
  counted d e = counted_is (channel r) x ∙ ap (view.as_counted (own_of (channel r)) (last_of (channel r))) e

  no_deed : (d : Deed) → traffic (channel r) x ≡ d → (Brings d → ⊥) → Brings (traffic (channel r) x) → ⊥
  no_deed d e f q = f (subst Brings e q)

  with_deed : (d : Deed) → deed (channel r) x ≡ d → (n : Client) → ((p : HeldJob jobs log a) → AttemptedOn a (moments older) (record { what = d; now = x.now; at = suc at }) p.job p.since n)
      → (p : HeldJob jobs log a) → AttemptedOn a (moments older) (record { what = deed (channel r) x; now = x.now; at = suc at }) p.job p.since n
  with_deed d e n f p = subst (λ z. AttemptedOn a (moments older) (record { what = z; now = x.now; at = suc at }) p.job p.since n) (sym e) (f p)

  -- nothing is put to the device
  no_put : (d : Deed) → deed (channel r) x ≡ d → put_to a d ≡ None → (y : TransportFrame) → put_to a (deed (channel r) x) ≡ Some y → ⊥
  no_put d e none y z = let k : None ≡ Some y = sym none ∙ ap (put_to a) (sym e) ∙ z in cc

  put_is : (content : List ℕ) (f : Ldata) → ldata_in content ≡ Some f → is_req f.code ≡ true → put_to a (view.Puts content) ≡ transport_of (cond {A = Option Ldata} (is_to a f) (Some f) None)
  put_is content f reads req = ap (λ o. transport_of (where_is (is_to a) (where_is (λ (y : Ldata). is_req y.code) o))) reads ∙ rw req refl

  free_now : (plan : Plan) (u : Attempts) → AttemptIs a plan u s.client → s.client.pending ≡ false → Free u
  free_now plan (Resting k) q e = tt
  free_now plan (Running k u) q e = none_flying u.flying (q.flies ∙ e) where
    none_flying : (o : Option TransportFrame) → is_some o ≡ false → o ≡ None
    none_flying None z = refl
    none_flying (Some y) z = absurd (cc)

  service_or : (e : SessionEvent) (y : TransportFrame) → y ≡ y → (NotService (Some y) → IsSilent e) → put_to a (deed (channel r) x) ≡ Some y → AsksNothing (e ∷ []) ⊎ IsService (put_to a (deed (channel r) x))
  service_or e y z f g = by_frame y f g where
    by_frame : (u : TransportFrame) → (NotService (Some u) → IsSilent e) → put_to a (deed (channel r) x) ≡ Some u → AsksNothing (e ∷ []) ⊎ IsService (put_to a (deed (channel r) x))
    by_frame (Numbered n apdu) h k = inr (subst IsService (sym k) tt)
    by_frame Connect h k = inl (h tt, tt)
    by_frame Disconnect h k = inl (h tt, tt)
    by_frame (Ack n) h k = inl (h tt, tt)
    by_frame (Nak n) h k = inl (h tt, tt)
    by_frame Other h k = inl (h tt, tt)

  still_next : Still r x → Next
  still_next q =
      record {
        more = [];
        legal = tt;
        follows = tt;
        coupled = still_kept a w r (x ∷ r) s
            (views_same (moves_number q.moves h.view.number (λ n l e. number_by a w r s n l c.items c.older c.last h e c.by)) (no_deed view.Nothing q.none (λ z. z))) q.moves c;
        attempted = with_deed view.Nothing (counted view.Nothing q.none) s.client (λ p. still_attempt a p.job.device p.job.plan _ s.client x.now (suc at) (before p));
        asks = inl tt;
        puts = λ p y z. absurd (no_put view.Nothing (counted view.Nothing q.none) refl y z);
      }

  lost_next : (n : ℕ) (l : List Entry) → channel r ≡ Open n l → channel (x ∷ r) ≡ Lost n → traffic (channel r) x ≡ view.Loses → Next
  lost_next n l e k d =
      record {
        more = event.Loses ∷ [];
        legal = (tt, tt);
        follows = (tt, tt);
        coupled = lost_kept a w r (x ∷ r) s n l (views_same (ap (λ z. or_number z h.view.number) k) (no_deed view.Loses d (λ z. z))) e k c;
        attempted = with_deed view.Loses (counted view.Loses d) (step s event.Loses).client (λ p. lost_attempt a p.job.device p.job.plan (attempts p.job.device p.job.plan (after p.since (moments older))) (step s event.Loses).client x.now (suc at));
        asks = inl (tt, tt);
        puts = λ p y z. absurd (no_put view.Loses (counted view.Loses d) refl y z);
      }

  joins_next : (n : ℕ) → IsOut (channel r) → is_open (channel r) ≡ false → channel (x ∷ r) ≡ Open n (x ∷ []) → traffic (channel r) x ≡ view.Nothing → Next
  joins_next n out shut k d =
      let u : UpPlace (x ∷ r) w.tunnel n = up_place (x ∷ r) w.tunnel n (x ∷ []) k inv in
      let q = joins_kept a w r x s n u.place (x ∷ []) h kept out d k u.made u.number u.one (record { up = once.up; alone = once.alone }) c in
      record {
        more = event.Joins q.0 ∷ [];
        legal = (q.1, tt);
        follows = (tt, tt);
        coupled = q.2;
        attempted = with_deed view.Nothing (counted view.Nothing d) (step s (event.Joins q.0)).client (λ p.
            none_runs a p.job.plan (attempts_after p.job.device p.job.plan (record { what = view.Nothing; now = x.now; at = suc at }) (attempts p.job.device p.job.plan (after p.since (moments older)))) s.client (step s (event.Joins q.0)).client (c.by.joined ∙ shut)
            (still_attempt a p.job.device p.job.plan (attempts p.job.device p.job.plan (after p.since (moments older))) s.client x.now (suc at) (before p)));
        asks = inl (tt, tt);
        puts = λ p y z. absurd (no_put view.Nothing (counted view.Nothing d) refl y z);
      }

  takes_next : (n : ℕ) (l : List Entry) (content : List ℕ) → channel r ≡ Open n l → channel (x ∷ r) ≡ Open n (x ∷ l) → traffic (channel r) x ≡ view.Takes content → (is_confirmation (ldata_in content) ≡ false → confirmed n (x ∷ l) ≡ confirmed n l) → last_frame n (x ∷ l) ≡ last_frame n l → Next
  takes_next n l content e k d stays last =
      let t : TakesGoes a w (x ∷ r) s (view.own_address l) (last_frame n l) content = take_kept a w r x s n l content h (record { kept = kept; is_up = e; next = k; takes = d; stays = stays; last = last }) once.down
      (λ k takes p. own_taken own (channel r) n l content e knows (taken_reaches own k takes content w.tunnel.gateway.puts reaches p)) c in
      let did : deed (channel r) x ≡ view.Takes content
      = counted (view.Takes content) d ∙ ap (λ z. view.as_counted (own_of z) (last_of z) (view.Takes content)) e ∙ ap (λ b. cond {A = Deed} b (view.Takes content) view.Nothing) t.counts in
      record {
        more = t.more;
        legal = t.legal;
        follows = silent_follows (HeldPlan jobs log a) s t.more t.silent;
        coupled = t.coupled;
        attempted = with_deed (view.Takes content) did (replay s t.more).client (λ p.
            subst (λ z. AttemptedOn a (moments older) (record { what = view.Takes content; now = x.now; at = suc at }) p.job p.since z) (sym (t.client ∙ ap (λ z. client_told a z s.client (ldata_in content)) time))
            (take_attempt a p.job.device p.job.plan (attempts p.job.device p.job.plan (after p.since (moments older))) s.client content x.now (suc at) p.of_device (before p) t.its));
        asks = inl t.silent;
        puts = λ p y z. absurd (no_put (view.Takes content) did refl y z);
      }

  -- ---- a request is put

  quiet_place : (n : ℕ) (l : List Entry) (ch : ClientChannel) → ch ≡ Open n l → HasPlace ch → confirmed n l ≡ true
  quiet_place n l ch e p = let q : IsQuiet n l = subst HasPlace e p in q.has_confirmation

  taken_place : (n : ℕ) (l : List Entry) → is_new_request n l x ≡ true → confirmed n (x ∷ l) ≡ false
  taken_place n l new = rw new refl

  -- the frame of a group telegram is for no device
  turn_frame : (content : List ℕ) (f : Ldata) (turn_ : GroupTurn) → ldata_in content ≡ Some f → is_req f.code ≡ true → PutsTurn turn_ (record { what = view.Puts content; now = x.now; at = suc at }) → is_its a f ≡ false
  turn_frame content f turn_ reads req t =
      let put : put_frame (view.Puts content) ≡ Some f = ap (where_is (λ (y : Ldata). is_req y.code)) reads ∙ rw req refl in
      let equal : Some f ≡ Some t.frame = sym put ∙ t.put in
      let same_frame : f ≡ t.frame = cc in
      ap (λ (z : Ldata). not z.group && (z.destination == a)) same_frame ∙ ap (λ z. not z && (t.frame.destination == a)) t.group

  -- it isn't for this device
  apart : (n : ℕ) (l : List Entry) (content : List ℕ) (f : Ldata) → PutsSo r x n l content f → is_its a f ≡ false → Next
  apart n l content f p its =
      record {
        more = [];
        legal = tt;
        follows = tt;
        coupled = put_kept a w r x s s n l content f h p
            (record { device = refl; same_me = refl; same_now = refl; echo = refl; coming = refl; joined = refl; flying = λ q. (let z : false ≡ true = sym its ∙ q in cc); pending = λ q. inl q }) c;
        attempted = with_deed (view.Puts content) (counted (view.Puts content) p.puts) s.client (λ q.
            subst (λ z. AttemptIs a q.job.plan z s.client)
            (sym (other_step a q.job.device q.job.plan (attempts q.job.device q.job.plan (after q.since (moments older))) content f x.now (suc at) q.of_device p.reads p.request its))
            (before q));
        asks = inl tt;
        puts = λ k y z. absurd (no_put (view.Puts content) (counted (view.Puts content) p.puts) (put_is content f p.reads p.request ∙ ap (λ b. transport_of (cond {A = Option Ldata} b (Some f) None)) its) y z);
      }

  -- it is
  mine : (n : ℕ) (l : List Entry) (content : List ℕ) (f : Ldata) → PutsSo r x n l content f → is_its a f ≡ true → (q : HeldJob jobs log a) → f.group ≡ false → f.destination ≡ a → MayPut (attempts q.job.device q.job.plan (after q.since (moments older))) x.now f.tpdu (frame_in f.tpdu) → Next
  mine n l content f p its q group to may =
      let free = is_free a w r s n l p.is_up p.free c in
      let t : Attempts = attempts q.job.device q.job.plan (after q.since (moments older)) in
      let g : PutsGoes a (me w) (HeldPlan jobs log a) q.job.device q.job.plan f s (attempts_after q.job.device q.job.plan (record { what = view.Puts content; now = x.now; at = suc at }) t)
      = asks_kept a (me w) (HeldPlan jobs log a) q.job.device q.job.plan (q, refl) (can q) f x.now s q.of_device c.by.side.same_me time named group to its free.1 free.0 t content (suc at) p.reads p.request (before q) may in
      record {
        more = g.event ∷ [];
        legal = (g.may, tt);
        follows = (g.asks, tt);
        coupled = subst (Coupled a w (x ∷ r)) (sym g.is) (put_kept a w r x s g.after n l content f h p g.by c);
        attempted = with_deed (view.Puts content) (counted (view.Puts content) p.puts) (step s g.event).client (λ k.
            (let e = one q k in
            let P : Job → ℕ → Type 0 = λ job since. AttemptedOn a (moments older) (record { what = view.Puts content; now = x.now; at = suc at }) job since (step s g.event).client in
            let own : P q.job q.since = subst (λ (z : SessionWorld). AttemptedOn a (moments older) (record { what = view.Puts content; now = x.now; at = suc at }) q.job q.since z.client) (sym g.is) g.attempt in
            subst (λ z. P k.job z) e.1 (subst (λ z. P z q.since) e.0 own)));
        asks = service_or g.event (frame_in f.tpdu) refl g.quiet (ap (put_to a) (counted (view.Puts content) p.puts) ∙ put_is content f p.reads p.request ∙ ap (λ b. transport_of (cond {A = Option Ldata} b (Some f) None)) its);
        puts = λ k y z.
            (let e = one q k in
            let P : Job → ℕ → Type 0 = λ job since. PutsAllowed (attempts job.device job.plan (after since (moments older))) x.now y in
            let got : Some (frame_in f.tpdu) ≡ Some y = sym (ap (put_to a) (counted (view.Puts content) p.puts) ∙ put_is content f p.reads p.request ∙ ap (λ b. transport_of (cond {A = Option Ldata} b (Some f) None)) its) ∙ z in
            let same_frame : frame_in f.tpdu ≡ y = cc in
            let own : P q.job q.since = record { octets = f.tpdu; reads = same_frame; may = subst (MayPut t x.now f.tpdu) same_frame may; free = free_now q.job.plan t (before q) free.1 } in
            subst (λ u. P k.job u) e.1 (subst (λ u. P u q.since) e.0 own));
      }

  job_next : (n : ℕ) (l : List Entry) (content : List ℕ) (f : Ldata) → PutsSo r x n l content f → IsOfJob jobs log older (record { what = view.Puts content; now = x.now; at = suc at }) f → (b : Bool) → is_its a f ≡ b → Next
  job_next n l content f p q false its = apart n l content f p its
  job_next n l content f p q true its =
      let to : f.destination ≡ a = eqb-true f.destination a (its_is f.group (f.destination == a) its) in
      let k : HeldJob jobs log a = record { number = q.k; job = q.job; worker = q.worker; since = q.since; there = q.there; of_device = sym q.to ∙ to; held = q.held } in
      mine n l content f p its k q.alone to (subst (λ z. MayPut (attempts q.job.device q.job.plan z) x.now f.tpdu (frame_in f.tpdu)) (between_after q.since (suc at) (moments older) (upto_more at (moments older) upto)) q.may)

  puts_next : (n : ℕ) (l : List Entry) (content : List ℕ) → channel r ≡ Open n l → channel (x ∷ r) ≡ Open n (x ∷ l) → traffic (channel r) x ≡ view.Puts content → is_new_request n l x ≡ true → last_frame n (x ∷ l) ≡ ldata_in content
      → IsRightRequest jobs turns log older (record { what = view.Puts content; now = x.now; at = suc at }) content → Next
  puts_next n l content e k d new last q =
      let free : confirmed n l ≡ true = quiet_place n l (channel r) e (subst (λ z. HasPlace (channel z)) same q.place) in
      let p : PutsSo r x n l content q.frame = record { kept = kept; is_up = e; next = k; puts = d; reads = q.reads; request = q.request; free = free; taken = taken_place n l new; last = last ∙ q.reads } in
      elim q.why [
        | inl t ↦ apart n l content q.frame p (turn_frame content q.frame t.turn q.reads q.request t.is_its)
        | inr j ↦ job_next n l content q.frame p j (is_its a q.frame) refl
      ]

  -- ---- whichever it is

  turn_next : Turn r x → IsRightDeed jobs turns log older (record { what = deed (channel r) x; now = x.now; at = suc at }) (deed (channel r) x) → Next
  turn_next (IsStill q) asks = still_next q
  turn_next (IsLost n l e k d) asks = lost_next n l e k d
  turn_next (Joins n out shut k d) asks = joins_next n out shut k d
  turn_next (Puts n l content e k d new last) asks =
      puts_next n l content e k d new last (subst (λ z. IsRightDeed jobs turns log older (record { what = z; now = x.now; at = suc at }) z) (counted (view.Puts content) d) asks)
  turn_next (Takes n l content e k d stays last) asks = takes_next n l content e k d stays last

  pub entry_next : IsRightDeed jobs turns log older (record { what = deed (channel r) x; now = x.now; at = suc at }) (deed (channel r) x) → Next
  entry_next asks = turn_next (turn r x kept) asks
