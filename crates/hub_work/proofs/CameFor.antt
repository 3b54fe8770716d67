-- For which workers something came.
use Rattle.std.proofs.Common.{◌≡◌, ◌≢◌, ◌⊎◌, inl, inr, ℕ, zero, suc, ◌+◌, ◌-◌, ◌<◌, ◌≤◌, eqb, Bool, true, false, List, [], ◌∷◌, length, Option, Some, None, refl, sym, ap, subst, ◌∙◌, arith}
use Rattle.std.proofs.lemmas.Option.{same_Some}
use Rattle.std.specs.Prelude.{◌&&◌, is_some, nat_lt, slice_get, option_map}
use Rattle.std.proofs.lemmas.Bool.{cases_eq, cases_lt, eq-eqb, ne_eqb}
use Rattle.std.proofs.lemmas.Bool.Decides.{nat_tests}
use Rattle.knx_model.specs.declared.address.IndAddr.{IndAddr}
use Rattle.knx_model.specs.declared.frames.cemi.Ldata.{Ldata}
use Rattle.knx_model.specs.declared.frames.cemi.LdataCode.{LdataCode}
use Rattle.knx_model.specs.declared.frames.cemi.LdataCode.TheVariants.{Req, Con, Ind}
use Rattle.device_reservation.specs.Reservation.{stage_of}
use Rattle.device_reservation.specs.declared.stage.Stage.TheVariants.{Held as IsHeldBy}
use Rattle.download_core.specs.Attempt.{DownloaderState}
use Rattle.download_core.specs.Calls.{lost}
use Rattle.download_core.specs.Steps.{next_did}
use Rattle.hub_work.specs.declared.crew.Held.{Held}
use Rattle.hub_work.specs.declared.work.Sender.{Sender}
use Rattle.hub_work.specs.declared.work.Sender.TheVariants.{Nobody, Worker, GroupThread}
use Rattle.hub_work.specs.declared.work.Work.{Work}
use Rattle.hub_work.specs.Books.{held_at, is_of_device}
use Rattle.hub_work.specs.Came.{waiting_at, holds_at, after_coming, RisesBy, RisesWhere, OneEach}
use Rattle.hub_work.specs.CameFor.{ComesFrom, ForHolder, ForNobody, FrameComes, Comes, IsConfirmed, has_put, runs, runs_in, runs_at, LossComes}
use Rattle.hub_work.specs.Closes.{counted}
use Rattle.hub_work.specs.Comes.{lost_for}
use Rattle.hub_work.specs.Crew.{holdings}
use Rattle.hub_work.specs.Downloaders.{states, downloader_of}
use Rattle.hub_work.specs.Polls.{next_of_job}
use Rattle.hub_work.specs.Works.{KeepsBooks}
use Rattle.hub_work.proofs.Came.{same_where, nowhere}
use Rattle.hub_work.proofs.Changed.{changed_elsewhere}
use Rattle.hub_work.proofs.Crews.{holding_at, job_at}
use Rattle.hub_work.proofs.Lost.{at_holding}

-- ---- a worker by its number

by_number : (worker place other : ℕ) → 1 ≤ worker → place ≡ worker - 1 → eqb other place ≡ eqb (other + 1) worker
by_number worker place other from is = elim (cases_eq other place) [
  | inl here ↦ eq-eqb other place here ∙ sym (eq-eqb (other + 1) worker (omega (arith, from, is, here)))
  | inr apart ↦ ne_eqb other place apart ∙ sym (ne_eqb (other + 1) worker (λ e. apart (omega (arith, from, is, e))))
]

pub for_worker : (crew new : List (Option Held)) (worker place : ℕ) → 1 ≤ worker → place ≡ worker - 1 → RisesWhere (λ other. eqb other place && holds_at crew other) crew new → RisesWhere (λ other. eqb (other + 1) worker && holds_at crew other) crew new
for_worker crew new worker place from is r = same_where _ _ crew new (λ other. ap (λ b. b && holds_at crew other) (by_number worker place other from is)) r

pub for_worker_0 : (crew : List (Option Held)) (worker : ℕ) → worker ≡ 0 → RisesWhere (λ other. eqb (other + 1) worker && holds_at crew other) crew crew
for_worker_0 crew worker none = nowhere _ crew (λ other. ap (λ b. b && holds_at crew other) (ne_eqb (other + 1) worker (λ e. omega (arith, none, e))))

-- ---- a frame of a device

pub for_holder : (device : IndAddr) (crew new : List (Option Held)) (place : ℕ) (h : Held) → Some h ≡ held_at crew place → is_of_device device (held_at crew place) ≡ true → RisesWhere (λ other. eqb other place && holds_at crew other) crew new → ComesFrom device crew new
for_holder device crew new place h holds of r = ForHolder place of (same_where _ _ crew new there r) where
  there : (other : ℕ) → (eqb other place && holds_at crew other) ≡ eqb other place
  there other = elim (cases_eq other place) [
    | inl here ↦ ap (λ b. b && holds_at crew other) (eq-eqb other place here) ∙ (ap (λ p. is_some (held_at crew p)) here ∙ (sym (ap is_some holds) ∙ sym (eq-eqb other place here)))
    | inr apart ↦ ap (λ b. b && holds_at crew other) (ne_eqb other place apart) ∙ sym (ne_eqb other place apart)
  ]

pub not_of_none : (device : IndAddr) (o : Option Held) → None ≡ o → is_of_device device o ≡ true → ⊥
not_of_none device o none of = let isnt : is_of_device device o ≡ false = sym (ap (is_of_device device) none) in let e : true ≡ false = sym of ∙ isnt in absurd (cc)

-- ---- a frame, by its code

pub heard_comes : (old new : Work) (frame : Ldata) → frame.code ≡ Ind → frame.group ≡ false → ComesFrom (record { raw = frame.source }) old.crew new.crew → Comes frame old new.crew
heard_comes old new frame code group h =
    subst (λ (c : LdataCode). FrameComes old.sender c frame.group frame.source old.crew new.crew) (sym code) (subst (λ (b : Bool). FrameComes old.sender Ind b frame.source old.crew new.crew) (sym group) h)

pub group_comes : (old : Work) (frame : Ldata) → frame.code ≡ Ind → frame.group ≡ true → Comes frame old old.crew
group_comes old frame code group =
    subst (λ (c : LdataCode). FrameComes old.sender c frame.group frame.source old.crew old.crew) (sym code) (subst (λ (b : Bool). FrameComes old.sender Ind b frame.source old.crew old.crew) (sym group) refl)

-- for each worker as before, or one more
pub where_each : (f : ℕ → Bool) (old new : List (Option Held)) → RisesWhere f old new → OneEach old new
where_each f old new r place = by_test (f place) (r place) where
  by_test : (b : Bool) → waiting_at new place ≡ after_coming b (waiting_at old place) → (waiting_at new place ≡ waiting_at old place) ⊎ (waiting_at new place ≡ counted (waiting_at old place))
  by_test true is = inr is
  by_test false is = inl is

pub same_each : (old new : List (Option Held)) → new ≡ old → OneEach old new
same_each old new same place = inl (ap (λ crew. waiting_at crew place) same)

frame_each : (sender : Sender) (code : LdataCode) (group : Bool) (source : ℕ) (old new : List (Option Held)) → FrameComes sender code group source old new → OneEach old new
frame_each sender Req group source old new same = same_each old new same
frame_each sender Con group source old new r = where_each _ old new r
frame_each sender Ind false source old new (ForHolder holder of r) = where_each _ old new r
frame_each sender Ind false source old new (ForNobody none same) = same_each old new same
frame_each sender Ind true source old new same = same_each old new same

pub comes_each : (frame : Ldata) (old : Work) (new : List (Option Held)) → Comes frame old new → OneEach old.crew new
comes_each frame old new h = frame_each old.sender frame.code frame.group frame.source old.crew new h

pub each_at_most : (old new : List (Option Held)) → OneEach old new → RisesBy 1 old new
each_at_most old new each place = elim (each place) [
  | inl same ↦ omega (arith, same)
  | inr more ↦ omega (arith, more)
]

-- ---- a confirmation

pub of_nobody : (sender : Sender) (crew : List (Option Held)) → Nobody ≡ sender → IsConfirmed sender crew crew
of_nobody sender crew is = nowhere _ crew (λ place. ap (λ s. has_put s place && holds_at crew place) (sym is))

pub of_group : (sender : Sender) (crew : List (Option Held)) → GroupThread ≡ sender → IsConfirmed sender crew crew
of_group sender crew is = nowhere _ crew (λ place. ap (λ s. has_put s place && holds_at crew place) (sym is))

-- its job has ended
pub of_none : (sender : Sender) (crew : List (Option Held)) (by : ℕ) → Worker by ≡ sender → (1 ≤ by → None ≡ held_at crew (by - 1)) → IsConfirmed sender crew crew
of_none sender crew by is none = nowhere _ crew (λ place. ap (λ s. has_put s place && holds_at crew place) (sym is) ∙ at place) where
  at : (place : ℕ) → (eqb (place + 1) by && holds_at crew place) ≡ false
  at place = elim (cases_eq (place + 1) by) [
    | inl here ↦
        let its : by - 1 ≡ place = omega (arith, here) in
        ap (λ b. b && holds_at crew place) (eq-eqb (place + 1) by here) ∙ (ap (λ p. is_some (held_at crew p)) (sym its) ∙ sym (ap is_some (none (omega (arith, here)))))
    | inr apart ↦ ap (λ b. b && holds_at crew place) (ne_eqb (place + 1) by apart)
  ]

-- ---- the loss, for the worker at a place

module _ (all : List DownloaderState) (now : ℕ) (crew : List (Option Held)) (place : ℕ) where
  lost_there : (other : ℕ) → (eqb other place && runs_in all now (held_at crew other)) ≡ (eqb other place && runs_in all now (held_at crew place))
  lost_there other = elim (cases_eq other place) [
    | inl here ↦ ap (λ p. eqb other place && runs_in all now (held_at crew p)) here
    | inr apart ↦ ap (λ b. b && runs_in all now (held_at crew other)) (ne_eqb other place apart) ∙ sym (ap (λ b. b && runs_in all now (held_at crew place)) (ne_eqb other place apart))
  ]

  never : (other : ℕ) → (eqb other place && false) ≡ false
  never other = elim (cases_eq other place) [
    | inl here ↦ ap (λ b. b && false) (eq-eqb other place here)
    | inr apart ↦ ap (λ b. b && false) (ne_eqb other place apart)
  ]

  pub lost_for_nobody : None ≡ held_at crew place → RisesWhere (λ other. eqb other place && runs_in all now (held_at crew other)) crew crew
  lost_for_nobody none = nowhere _ crew (λ other. lost_there other ∙ (ap (λ o. eqb other place && runs_in all now o) (sym none) ∙ never other))

  pub lost_at_rest : (h : Held) → Some h ≡ held_at crew place → runs (next_of_job all now h.job) ≡ false → RisesWhere (λ other. eqb other place && runs_in all now (held_at crew other)) crew crew
  lost_at_rest h holds rests = nowhere _ crew (λ other. lost_there other ∙ (ap (λ o. eqb other place && runs_in all now o) (sym holds) ∙ (ap (λ b. eqb other place && b) rests ∙ never other)))

  pub lost_running : (h : Held) (new : List (Option Held)) → Some h ≡ held_at crew place → runs (next_of_job all now h.job) ≡ true → RisesWhere (λ other. eqb other place && holds_at crew other) crew new
      → RisesWhere (λ other. eqb other place && runs_in all now (held_at crew other)) crew new
  lost_running h new holds ran r = same_where _ _ crew new there r where
    there : (other : ℕ) → (eqb other place && holds_at crew other) ≡ (eqb other place && runs_in all now (held_at crew other))
    there other = elim (cases_eq other place) [
      | inl here ↦
          ap (λ p. eqb other place && holds_at crew p) here
          ∙ (ap (λ o. eqb other place && is_some o) (sym holds)
          ∙ (sym (ap (λ b. eqb other place && b) ran)
          ∙ (ap (λ o. eqb other place && runs_in all now o) holds
          ∙ sym (lost_there other))))
      | inr apart ↦ ap (λ b. b && holds_at crew other) (ne_eqb other place apart) ∙ sym (ap (λ b. b && runs_in all now (held_at crew other)) (ne_eqb other place apart))
    ]

-- ---- one worker after another

-- the jobs that no worker before a place holds are as they were
abbrev pub LeavesOthers : ℕ → Work → Work → Type 0
LeavesOthers n old new = (k : ℕ) → ((place : ℕ) (h : Held) → place < n → Some h ≡ held_at old.crew place → h.job ≢ k) → downloader_of (states new.downloaders) k ≡ downloader_of (states old.downloaders) k

abbrev pub RisenSoFar : ℕ → ℕ → Work → Work → Type 0
RisenSoFar n now old new = (at : ℕ) → KeepsBooks at old → RisesWhere (λ place. nat_lt place n && runs_at old now place) old.crew new.crew

-- a job is held by one worker
pub held_once : (w : Work) (at p q : ℕ) (g h : Held) → KeepsBooks at w → Some g ≡ held_at w.crew p → Some h ≡ held_at w.crew q → g.job ≡ h.job → p ≡ q
held_once w at p q g h books eg eh same = by_stage ((books.live.holds p g.job).0 (job_at w.crew p g eg)) (subst (λ k. stage_of w.reservation k ≡ Some (IsHeldBy (suc q))) (sym same) ((books.live.holds q h.job).0 (job_at w.crew q h eh))) where
  by_stage : stage_of w.reservation g.job ≡ Some (IsHeldBy (suc p)) → stage_of w.reservation g.job ≡ Some (IsHeldBy (suc q)) → p ≡ q
  by_stage a b = let e : Some (IsHeldBy (suc p)) ≡ Some (IsHeldBy (suc q)) = sym a ∙ b in cc

-- who holds the same holds the same job
held_before : (old cur : List (Option Held)) (place : ℕ) (g : Held) → holdings cur ≡ holdings old → Some g ≡ held_at cur place → (h : Held) × (Some h ≡ held_at old place) × (h.job ≡ g.job)
held_before old cur place g same e =
    let x = at_holding old place (record { job = g.job; device = g.device; begun = g.begun }) (ap (λ hs. slice_get hs place) (sym same) ∙ holding_at cur place g e) in
    (x.0, sym x.1, x.2)

module _ (n : ℕ) (old cur new : Work) (same : holdings cur.crew ≡ holdings old.crew) (others : LeavesOthers n old cur) where
  pub leaves_others : states new.downloaders ≡ lost_for (held_at cur.crew n) (states cur.downloaders) → LeavesOthers (n + 1) old new
  leaves_others is k apart = ap (λ all. downloader_of all k) is ∙ (by_holder (held_at cur.crew n) refl ∙ others k (λ place h lt e. apart place h (omega (arith, lt)) e)) where
    by_holder : (o : Option Held) → o ≡ held_at cur.crew n → downloader_of (lost_for o (states cur.downloaders)) k ≡ downloader_of (states cur.downloaders) k
    by_holder None e = refl
    by_holder (Some g) e =
        let x = held_before old.crew cur.crew n g same e in
        changed_elsewhere lost g.job k (states cur.downloaders) (λ its. apart n x.0 (omega arith) x.1 (x.2 ∙ sym its))

  module _ (at now : ℕ) (books : KeepsBooks at old) where
    -- the job of the worker whose turn it is
    as_before : (o p : Option Held) → o ≡ held_at cur.crew n → p ≡ held_at old.crew n → runs_in (states cur.downloaders) now o ≡ runs_in (states old.downloaders) now p
    as_before None None eo ep = refl
    as_before None (Some h) eo ep = let x = held_before cur.crew old.crew n h (sym same) ep in let isnt : Some x.0 ≡ None = x.1 ∙ sym eo in absurd (cc)
    as_before (Some g) None eo ep = let x = held_before old.crew cur.crew n g same eo in let isnt : Some x.0 ≡ None = x.1 ∙ sym ep in absurd (cc)
    as_before (Some g) (Some h) eo ep =
        let x = held_before old.crew cur.crew n g same eo in
        let one : x.0 ≡ h = same_Some x.0 h (x.1 ∙ sym ep) in
        let job : h.job ≡ g.job = sym (ap (λ (y : Held). y.job) one) ∙ x.2 in
        let there : downloader_of (states cur.downloaders) g.job ≡ downloader_of (states old.downloaders) g.job =
        others g.job (λ place y lt e its. let here : place ≡ n = held_once old at place n y h books e ep (its ∙ sym job) in omega (arith, lt, here)) in
        ap (λ (o : Option DownloaderState). runs (option_map (λ (s : DownloaderState). next_did s now) o)) there ∙ ap (λ k. runs (next_of_job (states old.downloaders) now k)) (sym job)

    one_more_place : RisesWhere (λ place. nat_lt place n && runs_at old now place) old.crew cur.crew → RisesWhere (λ other. eqb other n && runs_at cur now other) cur.crew new.crew → RisesWhere (λ place. nat_lt place (n + 1) && runs_at old now place) old.crew new.crew
    one_more_place so_far this place = this place ∙ (ap (after_coming (eqb place n && runs_at cur now place)) (so_far place) ∙ at_place (cases_eq place n)) where
      at_place : (place ≡ n) ⊎ (place ≢ n) → after_coming (eqb place n && runs_at cur now place) (after_coming (nat_lt place n && runs_at old now place) (waiting_at old.crew place)) ≡ after_coming (nat_lt place (n + 1) && runs_at old now place) (waiting_at old.crew place)
      at_place (inl here) =
          let a : eqb place n ≡ true = eq-eqb place n here in
          let b : nat_lt place n ≡ false = grind (arith, nat_tests) in
          let c : nat_lt place (n + 1) ≡ true = grind (arith, nat_tests) in
          let r : runs_at cur now place ≡ runs_at old now place = subst (λ p. runs_at cur now p ≡ runs_at old now p) (sym here) (as_before (held_at cur.crew n) (held_at old.crew n) refl refl) in
          rw (a, b, c, r) refl
      at_place (inr apart) =
          let a : eqb place n ≡ false = ne_eqb place n apart in
          let c : nat_lt place (n + 1) ≡ nat_lt place n = grind (arith, nat_tests) in
          rw (a, c) refl

  pub one_more_came : (now : ℕ) → RisenSoFar n now old cur → RisesWhere (λ other. eqb other n && runs_at cur now other) cur.crew new.crew → RisenSoFar (n + 1) now old new
  one_more_came now so_far this at books = one_more_place at now books (so_far at books) this

pub none_came : (now : ℕ) (old new : Work) → new.crew ≡ old.crew → RisenSoFar 0 now old new
none_came now old new same at books = subst (λ crew. RisesWhere (λ place. nat_lt place 0 && runs_at old now place) old.crew crew) (sym same) (nowhere _ old.crew (λ place. let b : nat_lt place 0 ≡ false = grind (arith, nat_tests) in ap (λ x. x && runs_at old now place) b))

nobody_beyond : (crew : List (Option Held)) (place : ℕ) → length crew ≤ place → held_at crew place ≡ None
nobody_beyond [] place le = refl
nobody_beyond (x ∷ crew) zero le = absurd (omega (arith, le))
nobody_beyond (x ∷ crew) (suc place) le = nobody_beyond crew place (omega (arith, le))

pub all_came : (now n end : ℕ) (old new : Work) → end ≡ length old.crew → end ≤ n → RisenSoFar n now old new → LossComes now old new.crew
all_came now n end old new crew all so_far at books = same_where _ _ old.crew new.crew (λ place. each place (cases_lt place n)) (so_far at books) where
  each : (place : ℕ) → (place < n) ⊎ (n ≤ place) → (nat_lt place n && runs_at old now place) ≡ runs_at old now place
  each place (inl lt) = let b : nat_lt place n ≡ true = grind (arith, nat_tests) in ap (λ x. x && runs_at old now place) b
  each place (inr le) =
      let b : nat_lt place n ≡ false = grind (arith, nat_tests) in
      ap (λ x. x && runs_at old now place) b ∙ sym (ap (runs_in (states old.downloaders) now) (nobody_beyond old.crew place (omega (arith, crew, all, le))))
