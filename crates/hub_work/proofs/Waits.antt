-- A worker's turn waits exactly where the record says so.
use Rattle.std.proofs.Common.{◌≡◌, ◌≢◌, ◌⊎◌, inl, inr, ◌↔◌, ℕ, suc, ◌-◌, ◌<◌, ◌≤◌, Bool, true, false, List, [], ◌∷◌, length, Option, Some, None, refl, sym, ap, subst, ◌∙◌, arith}
use Rattle.std.specs.Prelude.{option_map, IsTrue}
use Rattle.std.proofs.lemmas.Option.{same_Some}
use Rattle.knx_model.specs.declared.connection.TransportFrame.TheVariants.{Other}
use Rattle.knx_model.specs.Connection.{frame_in}
use Rattle.line_model.specs.Record.{Placed, entries}
use Rattle.line_model.specs.ClientView.{channel}
use Rattle.line_model.specs.Moments.{moments, between}
use Rattle.line_model.specs.Log.{Job}
use Rattle.line_model.specs.Attempts.{Attempts, attempts, MayPut}
use Rattle.line_model.specs.Asks.{HasPlace}
use Rattle.line_model.specs.Waiting.{TurnWaits}
use Rattle.download_core.specs.declared.did.Did.{Did}
use Rattle.download_core.specs.declared.did.Did.TheVariants as did
use Rattle.download_core.specs.Attempt.{DownloaderState}
use Rattle.download_core.specs.Steps.{next_did, is_send}
use Rattle.download_core.specs.Tells.{is_end}
use Rattle.download_core.specs.Turns.{IsDownloaderOf, StepWaits}
use Rattle.hub_work.specs.declared.answers.Turned.{Turned}
use Rattle.hub_work.specs.declared.answers.Turned.TheVariants as answer
use Rattle.hub_work.specs.declared.crew.Held.{Held as Holds}
use Rattle.hub_work.specs.declared.work.Work.{Work}
use Rattle.hub_work.specs.declared.work.turn.Turn.{Turn}
use Rattle.hub_work.specs.declared.work.turn.Turn.TheVariants as turn
use Rattle.hub_work.specs.Books.{held_at}
use Rattle.hub_work.specs.Downloaders.{states, downloader_of}
use Rattle.hub_work.specs.Fits.{Fits, FitsJob}
use Rattle.hub_work.specs.Laws.{Laws}
use Rattle.hub_work.specs.Came.{waiting_at, waiting_in}
use Rattle.hub_work.specs.Turns.{IsEnd, TurnSuits}
use Rattle.hub_work.specs.Waits.{WaitsFor, WaitsExactly}
use Rattle.hub_work.specs.Works.{KeepsBooks}
use Rattle.hub_work.proofs.Crews.{IsHeldSo, held_so}

none_isnt_some : (d : Did) (o : Option DownloaderState) (s : DownloaderState) (now : ℕ) → o ≡ Some s → None ≡ option_map (λ (x : DownloaderState). next_did x now) o → ⊥
none_isnt_some d o s now there e = let isnt : None ≡ Some (next_did s now) = e ∙ ap (λ (p : Option DownloaderState). option_map (λ (x : DownloaderState). next_did x now) p) there in cc

-- octets that may be put are some
nothing_read : frame_in [] ≡ Other
unfolding frame_in
nothing_read = refl

some_octets : (t : Attempts) (now : ℕ) (tpdu : List ℕ) → tpdu ≡ [] → MayPut t now tpdu (frame_in tpdu) → ⊥
some_octets t now tpdu e may = subst (λ f. MayPut t now [] f) nothing_read (subst (λ x. MayPut t now x (frame_in x)) e may)

module _ (laws : Laws) (old : Work) (worker now at : ℕ) (has_place : Bool) (h : Holds) (holds : Some h ≡ held_at old.crew (worker - 1)) where
  module _ (jobs : List Job) (places : List Placed) (books : KeepsBooks at old) (f : Fits jobs old now at (moments places)) where
    its : IsHeldSo jobs old at (worker - 1) h
    its = held_so jobs old now at (moments places) (worker - 1) h books f holds

    j : FitsJob old now (between its.since at (moments places)) h.job (suc (worker - 1)) its.job
    j = f.held h.job (suc (worker - 1)) its.since its.job its.there its.held

    is_downloader : IsDownloaderOf j.state now jobs old.journal.entries places at h.job
    is_downloader = record {
      job = its.job;
      since = its.since;
      holds = record { there = its.there; worker = suc (worker - 1); held = its.held };
      device = j.device;
      plan = j.plan;
      fits = j.fits;
    }

    abbrev Place : Type 0
    Place = HasPlace (channel (entries places))

    exactly : TurnWaits jobs old.telegrams.turns old.journal.entries places at now h.job 0 ↔ StepWaits (next_did j.state now) Place
    exactly = laws.waits j.state now jobs old.telegrams.turns old.journal.entries places at h.job is_downloader

    next_is : (d : Did) → Some d ≡ option_map (λ (x : DownloaderState). next_did x now) (downloader_of (states old.downloaders) h.job) → next_did j.state now ≡ d
    next_is d next = sym (same_Some d (next_did j.state now) (next ∙ ap (λ (p : Option DownloaderState). option_map (λ (x : DownloaderState). next_did x now) p) j.there))

  -- it waits
  pub waits_so : (d : Did) (result : Turn) → Some d ≡ option_map (λ (x : DownloaderState). next_did x now) (downloader_of (states old.downloaders) h.job) → result ≡ turn.Did answer.Wait → is_end d ≡ false → (is_send d ≡ true → has_place ≡ false) → WaitsFor now at has_place old h 0 result
  waits_so d result next it_waits goes_on unplaced jobs places books f place = (
    λ e. (exactly jobs places books f).1 (subst (λ (x : Did). StepWaits x (HasPlace (channel (entries places)))) (sym (next_is jobs places books f d next))
        (record { no_end = goes_on; cannot_send = λ s p. let isnt : true ≡ false = sym (place.1 p) ∙ unplaced s in cc })),
    λ w. it_waits,
  )

  -- it does something
  pub moves_so : (d : Did) (result : Turn) → Some d ≡ option_map (λ (x : DownloaderState). next_did x now) (downloader_of (states old.downloaders) h.job) → result ≢ turn.Did answer.Wait → (is_end d ≡ true) ⊎ ((is_send d ≡ true) × (has_place ≡ true)) → WaitsFor now at has_place old h 0 result
  moves_so d result next moves why jobs places books f place =
      (λ e. absurd (moves e), λ w. absurd (refuse why (subst (λ (x : Did). StepWaits x (HasPlace (channel (entries places)))) (next_is jobs places books f d next) ((exactly jobs places books f).0 w))))
    where
      refuse : (is_end d ≡ true) ⊎ ((is_send d ≡ true) × (has_place ≡ true)) → StepWaits d (HasPlace (channel (entries places))) → ⊥
      refuse (inl e) s = let isnt : true ≡ false = sym e ∙ s.no_end in cc
      refuse (inr e) s = s.cannot_send e.0 (place.0 e.1)

  -- there is no such downloader, or it sends no octets: neither is so
  pub never_none : (result : Turn) → None ≡ option_map (λ (x : DownloaderState). next_did x now) (downloader_of (states old.downloaders) h.job) → WaitsFor now at has_place old h 0 result
  never_none result e jobs places books f place = absurd (none_isnt_some did.Wait (downloader_of (states old.downloaders) h.job) (j jobs places books f).state now (j jobs places books f).there e)

  pub never_empty : (tpdu : List ℕ) (result : Turn) → Some (did.Send tpdu) ≡ option_map (λ (x : DownloaderState). next_did x now) (downloader_of (states old.downloaders) h.job) → tpdu ≡ [] → WaitsFor now at has_place old h 0 result
  never_empty tpdu result next e jobs places books f place =
      absurd (some_octets (attempts (j jobs places books f).state.device (j jobs places books f).state.plan (between (its jobs places books f).since at (moments places))) now tpdu e
      (laws.sends (j jobs places books f).state now tpdu (between (its jobs places books f).since at (moments places)) (j jobs places books f).fits (next_is jobs places books f (did.Send tpdu) next)))

-- ---- what isn't to wait

pub puts_isnt_wait : (cemi : List ℕ) → turn.Puts cemi ≢ turn.Did answer.Wait
puts_isnt_wait cemi e = cc

pub moved_isnt_wait : turn.Did answer.Moved ≢ turn.Did answer.Wait
moved_isnt_wait e = cc

did_is : (a b : Turned) → turn.Did a ≡ turn.Did b → a ≡ b
did_is a b e = cc

pub end_isnt_wait : (result : Turn) (turned : Turned) → result ≡ turn.Did turned → IsEnd turned → result ≢ turn.Did answer.Wait
end_isnt_wait result turned is ends w = subst IsEnd (did_is turned answer.Wait (sym is ∙ w)) ends

-- a worker that took or holds a job isn't told that there are no more
pub took_isnt_no_more : (result : Turn) (job : ℕ) → result ≡ turn.Did (answer.Took job) → result ≢ turn.Did answer.NoMore
took_isnt_no_more result job is e = let z : turn.Did (answer.Took job) ≡ turn.Did answer.NoMore = sym is ∙ e in cc

pub holder_isnt_done : (result : Turn) (h : Holds) → TurnSuits result (Some h) → result ≢ turn.Did answer.NoMore
holder_isnt_done result h suits e = subst (λ (r : Turn). TurnSuits r (Some h)) e suits

pub unsent : (has_place : Bool) → is_send did.Wait ≡ true → has_place ≡ false
unsent has_place e = absurd (cc)

pub no_octets : (tpdu : List ℕ) (b : Bool) → (IsTrue b → length tpdu ≡ 0) → b ≡ true → tpdu ≡ []
no_octets tpdu b none e = empty tpdu (none e)
  where
    empty : (xs : List ℕ) → length xs ≡ 0 → xs ≡ []
    empty [] e = refl
    empty (x ∷ xs) e = absurd (omega (arith, e))

-- ---- the whole turn

pub nothing_held : (old : Work) (worker now at : ℕ) (has_place : Bool) (result : Turn) → None ≡ held_at old.crew (worker - 1) → WaitsExactly now at has_place worker old result
nothing_held old worker now at has_place result none h e = absurd (let isnt : None ≡ Some h = none ∙ sym e in cc)

pub something_came : (old : Work) (worker now at : ℕ) (has_place : Bool) (held : Holds) (result : Turn) → Some held ≡ held_at old.crew (worker - 1) → held.came ≢ 0 → result ≢ turn.Did answer.Wait → WaitsExactly now at has_place worker old result
something_came old worker now at has_place held result holds came moves h e jobs places books f place =
    (λ w. absurd (moves w), λ w. absurd (came (ap (λ (x : Holds). x.came) (same_Some held h (holds ∙ sym e)) ∙ w.all_taken_in)))

pub all_taken : (old : Work) (worker now at : ℕ) (has_place : Bool) (held : Holds) (result : Turn) → Some held ≡ held_at old.crew (worker - 1) → held.came ≡ 0 → WaitsFor now at has_place old held 0 result → WaitsExactly now at has_place worker old result
all_taken old worker now at has_place held result holds came waits h e =
    subst (λ (x : Holds). WaitsFor now at has_place old x x.came result) (same_Some held h (holds ∙ sym e)) (subst (λ n. WaitsFor now at has_place old held n result) (sym came) waits)

-- whether it takes something in: where it holds no job, where something came, and where nothing did
pub none_taken_in : (crew : List (Option Holds)) (place : ℕ) (result : Turn) → None ≡ held_at crew place → TurnSuits result None → (1 ≤ waiting_at crew place) ↔ (result ≡ turn.Did answer.Moved)
none_taken_in crew place result none suits = (λ h. let nothing : waiting_at crew place ≡ 0 = ap waiting_in (sym none) in absurd (omega (arith, h, nothing)), λ is. absurd (subst (λ (r : Turn). TurnSuits r None) is suits))

pub one_taken_in : (crew : List (Option Holds)) (place : ℕ) (h : Holds) → Some h ≡ held_at crew place → 0 < h.came → (1 ≤ waiting_at crew place) ↔ (turn.Did answer.Moved ≡ turn.Did answer.Moved)
one_taken_in crew place h holds some = (λ k. refl, λ e. let here : waiting_at crew place ≡ h.came = ap waiting_in (sym holds) in omega (arith, some, here))

pub nothing_taken_in : (crew : List (Option Holds)) (place : ℕ) (h : Holds) (result : Turn) → Some h ≡ held_at crew place → h.came ≤ 0 → result ≢ turn.Did answer.Moved → (1 ≤ waiting_at crew place) ↔ (result ≡ turn.Did answer.Moved)
nothing_taken_in crew place h result holds none moves_not = (λ k. let here : waiting_at crew place ≡ h.came = ap waiting_in (sym holds) in absurd (omega (arith, k, none, here)), λ is. absurd (moves_not is))

pub is_some_number : (n : ℕ) → 0 < n → n ≢ 0
is_some_number n lt e = omega (arith, lt, e)

pub none_came : (n : ℕ) → n ≤ 0 → n ≡ 0
none_came n le = omega arith
