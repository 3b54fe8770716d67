-- By record and log, what is for a worker's job is counted.
use Rattle.std.proofs.Common.{◌≡◌, inl, inr, ℕ, suc, ◌+◌, ◌<◌, eqb, Bool, true, false, List, [], ◌∷◌, Option, Some, None, refl, sym, ap, subst, ◌∙◌, arith}
use Rattle.std.proofs.lemmas.Option.{same_Some}
use Rattle.std.specs.Prelude.{◌&&◌, is_some, not, option_map}
use Rattle.std.proofs.lemmas.Bool.{cases_eq, eq-eqb, ne_eqb}
use Rattle.knx_model.specs.declared.address.IndAddr.{IndAddr}
use Rattle.knx_model.specs.declared.connection.TransportFrame.{TransportFrame}
use Rattle.knx_model.specs.declared.connection.TransportFrame.TheVariants as frame
use Rattle.knx_model.specs.declared.frames.cemi.Ldata.{Ldata}
use Rattle.knx_model.specs.declared.frames.cemi.LdataCode.{LdataCode}
use Rattle.knx_model.specs.declared.frames.cemi.LdataCode.TheVariants.{Req, Con, Ind}
use Rattle.knx_model.specs.ClientConnection.{ClientEnd, Ended as NoConnection}
use Rattle.knx_model.specs.Connection.{frame_in}
use Rattle.line_model.specs.Reading.{is_con, is_ind}
use Rattle.line_model.specs.ClientView.{Loses, Nothing}
use Rattle.line_model.specs.Moments.{Moment, between, is_loss, heard_from, confirmation_in}
use Rattle.line_model.specs.Log.{Job, Held}
use Rattle.line_model.specs.Attempts as line
use Rattle.line_model.specs.Attempts.{Attempts, attempts, MayPut}
use Rattle.line_model.specs.Waiting.{IsResting}
use Rattle.download_core.specs.declared.did.Did.{Did}
use Rattle.download_core.specs.declared.did.Did.TheVariants as did
use Rattle.download_core.specs.declared.flight.Flight.{Flight}
use Rattle.download_core.specs.declared.flight.Flight.TheVariants as flight
use Rattle.download_core.specs.declared.signs.Signs.{Signs}
use Rattle.download_core.specs.Attempt.{Phase, Resting, Running, Closing, Leaving, Ended, DownloaderState}
use Rattle.download_core.specs.Fits.{FitsPhase, IsFlight}
use Rattle.download_core.specs.Follows.{IsMoment, flies, is_in_flight}
use Rattle.download_core.specs.Record.{FitsRecord}
use Rattle.download_core.specs.Tells.{is_end}
use Rattle.download_core.specs.Steps.{next_did}
use Rattle.hub_work.specs.declared.crew.Held.{Held as Holds}
use Rattle.hub_work.specs.declared.work.Work.{Work}
use Rattle.hub_work.specs.Books.{held_at, is_of_device}
use Rattle.hub_work.specs.Came.{waiting_at, holds_at, after_coming, RisesWhere}
use Rattle.hub_work.specs.CameFor.{ComesFrom, ForHolder, ForNobody, FrameComes, Comes, has_put, is_connect, runs, runs_in, runs_at, LossComes, IsFor, OfDevice, OfConfirmation, OfLoss, IsForHolder, Counts, CountsFrame}
use Rattle.hub_work.specs.Closes.{counted}
use Rattle.hub_work.specs.Comes.{Confirms, Hears, IsNothing}
use Rattle.hub_work.specs.Downloaders.{states}
use Rattle.hub_work.specs.Fits.{Fits, FitsJob}
use Rattle.hub_work.specs.Laws.{Laws}
use Rattle.hub_work.specs.Works.{KeepsBooks}
use Rattle.hub_work.proofs.Between.{same_up_to}
use Rattle.hub_work.proofs.CameFor.{held_once}
use Rattle.hub_work.proofs.Crews.{IsHeldSo, held_so}
use Rattle.hub_work.proofs.Deeds.{confirms, hears, nothing, nothing_of_req, nothing_of_group}
use Rattle.hub_work.proofs.Heard.{one_job, of_it}

-- ---- by the phase of a downloader

-- a frame of it is in flight
in_flight_by : (f : Flight) (a : line.Attempt) (x : TransportFrame) (conn : ClientEnd) → IsFlight f conn a.flying → a.flying ≡ Some x → is_in_flight f ≡ true
in_flight_by flight.Nothing a x conn none e = let isnt : None ≡ Some x = sym none ∙ e in absurd (cc)
in_flight_by flight.Frame a x conn f e = refl
in_flight_by flight.Reply a x conn f e = refl

same_attempt : (k n : ℕ) (a b : line.Attempt) → line.Running k a ≡ line.Running n b → a ≡ b
same_attempt k n a b e = cc

flies_then : (signs : Signs) (phase : Phase) (t : Attempts) (k : ℕ) (a : line.Attempt) (x : TransportFrame) → FitsPhase signs phase t → t ≡ line.Running k a → a.flying ≡ Some x → flies phase ≡ true
flies_then signs Resting t k a x f is e = let isnt : line.Resting 0 ≡ line.Running k a = sym f.1 ∙ is in absurd (cc)
flies_then signs (Running b) t k a x f is e = in_flight_by b.flight f.0 x b.conn f.2.flying (ap (λ (y : line.Attempt). y.flying) (same_attempt _ k f.0 a (sym f.1 ∙ is)) ∙ e)
flies_then signs (Closing fl outcome) t k a x f is e = in_flight_by fl f.0 x NoConnection f.2.flying (ap (λ (y : line.Attempt). y.flying) (same_attempt _ k f.0 a (sym f.1 ∙ is)) ∙ e)
flies_then signs (Leaving outcome) t k a x f is e = refl
flies_then signs (Ended outcome) t k a x f is e = let isnt : line.Resting _ ≡ line.Running k a = sym f ∙ is in absurd (cc)

-- ---- by its next step

reads_connect : frame_in (128 ∷ []) ≡ frame.Connect
unfolding frame_in
reads_connect = refl

-- what is sent while an attempt runs is no T_Connect
sends_no_connect : (t : Attempts) (k now : ℕ) (a : line.Attempt) (tpdu : List ℕ) → t ≡ line.Running k a → MayPut t now tpdu (frame_in tpdu) → not (is_connect tpdu) ≡ true
sends_no_connect t k now a [] is may = refl
sends_no_connect t k now a (x ∷ y ∷ tpdu) is may = refl
sends_no_connect t k now a (x ∷ []) is may = elim (cases_eq x 128) [
  | inl eq ↦
      let begins : MayPut (line.Running k a) now (128 ∷ []) frame.Connect = subst (λ f. MayPut (line.Running k a) now (128 ∷ []) f) reads_connect (subst (λ n. MayPut (line.Running k a) now (n ∷ []) (frame_in (n ∷ []))) eq (subst (λ u. MayPut u now (x ∷ []) (frame_in (x ∷ []))) is may)) in
      absurd begins
  | inr apart ↦ let b : eqb x 128 ≡ false = ne_eqb x 128 apart in ap not b
]

-- whenever it is
module _ (laws : Laws) (s : DownloaderState) (then now : ℕ) (l : List Moment) (f : FitsRecord s then l) (k : ℕ) (a : line.Attempt) (is : attempts s.device s.plan l ≡ line.Running k a) where
  abbrev nothing_now : Moment
  nothing_now = record { what = Nothing; now = now; at = 0 }

  still_fits : FitsRecord s now (nothing_now ∷ l)
  still_fits = laws.aside s then nothing_now l f (record { lasts = refl; put_is = refl; heard_is = refl; confirmed_is = refl })

  still_runs : attempts s.device s.plan (nothing_now ∷ l) ≡ line.Running k a
  still_runs = ap (line.attempts_after s.device s.plan nothing_now) is

  not_ended : is_end (next_did s now) ≡ true → ⊥
  not_ended e = subst IsResting still_runs ((laws.ends s now (nothing_now ∷ l) still_fits).0 e).rests

  by_did : (d : Did) → next_did s now ≡ d → runs (Some d) ≡ true
  by_did did.Wait e = refl
  by_did (did.Send tpdu) e = sends_no_connect _ k now a tpdu still_runs (laws.sends s now tpdu (nothing_now ∷ l) still_fits e)
  by_did did.Done e = absurd (not_ended (ap is_end e))
  by_did (did.Failed signs) e = absurd (not_ended (ap is_end e))
  by_did (did.Refused op got expected) e = absurd (not_ended (ap is_end e))

  pub runs_then : runs (Some (next_did s now)) ≡ true
  runs_then = by_did (next_did s now) refl

-- ---- who holds the job

same_state : (a b s t : ℕ) → Held a s ≡ Held b t → (a ≡ b) × (s ≡ t)
same_state a b s t e = (cc, cc)

and_true : (a b : Bool) → a ≡ true → b ≡ true → (a && b) ≡ true
and_true a b ea eb = ap (λ x. x && b) ea ∙ eb

by_place : (f : ℕ → Bool) (old new : List (Option Holds)) (place : ℕ) → RisesWhere f old new → f place ≡ true → waiting_at new place ≡ counted (waiting_at old place)
by_place f old new place r there = r place ∙ ap (λ b. after_coming b (waiting_at old place)) there

-- to whom a moment is nothing it isn't for
module _ (device : IndAddr) (t : Attempts) (heard : Option TransportFrame) (confirmation : Option Bool) (m : Moment) (is : IsMoment device None heard confirmation m) where
  unheard : (x : TransportFrame) → heard ≡ None → heard_from device.raw m.what ≡ Some x → ⊥
  unheard x none e = let isnt : Some x ≡ None = sym e ∙ (is.heard_is ∙ none) in cc

  unconfirmed : (error : Bool) → confirmation ≡ None → confirmation_in m.what ≡ Some error → ⊥
  unconfirmed error none e = let isnt : Some error ≡ None = sym e ∙ (is.confirmed_is ∙ none) in cc

  unlost : m.what ≡ Loses → ⊥
  unlost e = let isnt : true ≡ false = sym (ap is_loss e) ∙ is.lasts in cc

  for_nobody : heard ≡ None → confirmation ≡ None → IsFor device.raw t m.what → ⊥
  for_nobody h c (OfDevice x e) = unheard x h e
  for_nobody h c (OfConfirmation k a x error e flying conf) = unconfirmed error c conf
  for_nobody h c (OfLoss k a e lost) = unlost lost

module _ (laws : Laws) (old : Work) (jobs : List Job) (before at place : ℕ) (m : Moment) (l : List Moment) (books : KeepsBooks at old) (f : Fits jobs old before at l) (lt : at < m.at) (i : IsForHolder jobs old.journal.entries old.crew place m l) where
  its : IsHeldSo jobs old at place i.held
  its = held_so jobs old before at l place i.held books f i.there

  number : i.holds.worker ≡ suc place
  number = (same_state i.holds.worker (suc place) i.since its.since (sym i.holds.held ∙ its.held)).0

  its_device : its.job.device.raw ≡ i.job.device.raw
  its_device = ap (λ (j : Job). j.device.raw) (same_Some its.job i.job (sym its.there ∙ i.holds.there))

  j : FitsJob old before (between i.since at l) i.held.job i.holds.worker i.job
  j = f.held i.held.job i.holds.worker i.since i.job i.holds.there i.holds.held

  abbrev Before : Attempts
  Before = attempts i.job.device i.job.plan (between i.since m.at l)

  attempts_are : attempts j.state.device j.state.plan (between i.since at l) ≡ Before
  attempts_are = rw (j.device, j.plan) (ap (attempts i.job.device i.job.plan) (sym (same_up_to i.since at m.at l (omega (arith, lt)) f.so_far)))

  -- a confirmation
  pub put_last : (k : ℕ) (a : line.Attempt) (x : TransportFrame) → Before ≡ line.Running k a → a.flying ≡ Some x → (has_put old.sender place && holds_at old.crew place) ≡ true
  put_last k a x is flying = and_true (has_put old.sender place) (holds_at old.crew place)
      (ap (λ s. has_put s place) (j.flight (flies_then j.state.signs j.state.phase _ k a x j.fits.job (attempts_are ∙ is) flying)) ∙ eq-eqb (place + 1) i.holds.worker (omega (arith, number)))
      (sym (ap is_some i.there))

  -- the loss of the channel
  pub ran_at : (now k : ℕ) (a : line.Attempt) → Before ≡ line.Running k a → runs_at old now place ≡ true
  ran_at now k a is =
      sym (ap (runs_in (states old.downloaders) now) i.there)
      ∙ (ap (λ (o : Option DownloaderState). runs (option_map (λ (s : DownloaderState). next_did s now) o)) j.there
      ∙ runs_then laws j.state before now (between i.since at l) j.fits k a (attempts_are ∙ is))

  -- a frame of its device
  module _ (source : ℕ) (of : i.job.device.raw ≡ source) where
    held_of : is_of_device (record { raw = source }) (held_at old.crew place) ≡ true
    held_of = sym (ap (is_of_device (record { raw = source })) i.there) ∙ eq-eqb i.held.device.raw source (sym (ap (λ (d : IndAddr). d.raw) its.device) ∙ (its_device ∙ of))

    its_place : (holder : ℕ) (o : Option Holds) → o ≡ held_at old.crew holder → is_of_device (record { raw = source }) o ≡ true → holder ≡ place
    its_place holder None e is = let isnt : false ≡ true = is in absurd (cc)
    its_place holder (Some g) e is =
        let other : IsHeldSo jobs old at holder g = held_so jobs old before at l holder g books f e in
        let raw : other.job.device.raw ≡ its.job.device.raw = ap (λ (d : IndAddr). d.raw) other.device ∙ (of_it (record { raw = source }) g is ∙ (sym of ∙ sym its_device)) in
        held_once old at holder place g i.held books e i.there
        (one_job jobs old before at l g.job i.held.job (suc holder) other.since (suc place) its.since other.job its.job books f other.there its.there raw other.held its.held)

    pub came_from : (new : List (Option Holds)) → ComesFrom (record { raw = source }) old.crew new → waiting_at new place ≡ counted (waiting_at old.crew place)
    came_from new (ForHolder holder is r) = by_place _ old.crew new place r (eq-eqb place holder (sym (its_place holder (held_at old.crew holder) refl is)))
    came_from new (ForNobody none same) = let isnt : true ≡ false = sym held_of ∙ none place in absurd (cc)

-- ---- the calls

pub frame_counts : (laws : Laws) (old : Work) (new : List (Option Holds)) (frame : Ldata) → Comes frame old new → CountsFrame old new frame
frame_counts laws old new frame came octets reads jobs before at place m l books f is lt i = by_code frame.code refl frame.group refl came where
  nothing_came : IsNothing m → waiting_at new place ≡ counted (waiting_at old.crew place)
  nothing_came n = absurd (for_nobody i.job.device _ None None m (n.to i.job.device) refl refl i.is_for)

  confirmed_came : Confirms frame.error m → RisesWhere (λ p. has_put old.sender p && holds_at old.crew p) old.crew new → IsFor i.job.device.raw (attempts i.job.device i.job.plan (between i.since m.at l)) m.what → waiting_at new place ≡ counted (waiting_at old.crew place)
  confirmed_came c r (OfDevice x e) = absurd (unheard i.job.device (attempts i.job.device i.job.plan (between i.since m.at l)) None (Some frame.error) m (c.to i.job.device) x refl e)
  confirmed_came c r (OfConfirmation k a x error e flying conf) = by_place _ old.crew new place r (put_last laws old jobs before at place m l books f lt i k a x e flying)
  confirmed_came c r (OfLoss k a e lost) = absurd (unlost i.job.device (attempts i.job.device i.job.plan (between i.since m.at l)) None (Some frame.error) m (c.to i.job.device) lost)

  heard_came : Hears frame.source frame.tpdu m → ComesFrom (record { raw = frame.source }) old.crew new → waiting_at new place ≡ counted (waiting_at old.crew place)
  heard_came h r = elim (cases_eq i.job.device.raw frame.source) [
    | inl same ↦ came_from laws old jobs before at place m l books f lt i frame.source same new r
    | inr apart ↦ absurd (for_nobody i.job.device _ None None m (h.others i.job.device apart) refl refl i.is_for)
  ]

  by_code : (c : LdataCode) → frame.code ≡ c → (g : Bool) → frame.group ≡ g → FrameComes old.sender c g frame.source old.crew new → waiting_at new place ≡ counted (waiting_at old.crew place)
  by_code Req ec g eg r = nothing_came (nothing m octets is frame reads (ap is_con ec) (nothing_of_req frame (ap is_ind ec)))
  by_code Con ec g eg r = confirmed_came (confirms m octets is frame reads (ap is_con ec)) r i.is_for
  by_code Ind ec true eg r = nothing_came (nothing m octets is frame reads (ap is_con ec) (nothing_of_group frame eg))
  by_code Ind ec false eg r = heard_came (hears m octets is frame reads (ap is_ind ec) eg) r

pub loss_counts : (laws : Laws) (old : Work) (new : List (Option Holds)) (now : ℕ) → LossComes now old new → Counts old new Loses
loss_counts laws old new now came jobs before at place m l books f is lt i = by_kind i.is_for where
  by_kind : IsFor i.job.device.raw (attempts i.job.device i.job.plan (between i.since m.at l)) m.what → waiting_at new place ≡ counted (waiting_at old.crew place)
  by_kind (OfDevice x e) = let isnt : None ≡ Some x = sym (ap (heard_from i.job.device.raw) is) ∙ e in absurd (cc)
  by_kind (OfConfirmation k a x error e flying conf) = let isnt : None ≡ Some error = sym (ap confirmation_in is) ∙ conf in absurd (cc)
  by_kind (OfLoss k a e lost) = by_place _ old.crew new place (came at books) (ran_at laws old jobs before at place m l books f lt i now k a e)
