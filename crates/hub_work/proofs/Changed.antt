-- The downloaders of a run's jobs after one of them was changed.
use Rattle.std.proofs.Common.{◌≡◌, ◌≢◌, ℕ, zero, suc, ◌-◌, ◌<◌, ◌≤◌, cond, get_or, List, [], ◌∷◌, length, map, set, Some, None, refl, sym, ap, subst, ◌∙◌, arith}
use Rattle.std.specs.Prelude.{slice_get}
use Rattle.std.proofs.lemmas.Bool.{ne_eqb}
use Rattle.std.proofs.lemmas.Option.{slice_get-get_or}
use Rattle.line_model.specs.Log.{numbered_from_one}
use Rattle.download_core.specs.Attempt.{DownloaderState}
use Rattle.device_reservation.proofs.Numbered.{by_place, from_1}
use Rattle.hub_work.specs.Downloaders.{downloader_of, changed, changed_at, task_of_state}

abbrev pub Change : Type 0
Change = DownloaderState → DownloaderState

there_at : (f : Change) (i : ℕ) (all : List DownloaderState) (s : DownloaderState) → slice_get all i ≡ Some s → slice_get (changed_at f i all) i ≡ Some (f s)
there_at f i [] s e = absurd (cc)
there_at f zero (x ∷ all) s e = ap Some (ap f (some_is x s e))
  where
    some_is : (x s : DownloaderState) → Some x ≡ Some s → x ≡ s
    some_is x s e = cc
there_at f (suc i) (x ∷ all) s e = there_at f i all s e

elsewhere_at : (f : Change) (i j : ℕ) (all : List DownloaderState) → j ≢ i → slice_get (changed_at f i all) j ≡ slice_get all j
elsewhere_at f i j [] apart = refl
elsewhere_at f zero zero (x ∷ all) apart = absurd (apart refl)
elsewhere_at f zero (suc j) (x ∷ all) apart = refl
elsewhere_at f (suc i) zero (x ∷ all) apart = refl
elsewhere_at f (suc i) (suc j) (x ∷ all) apart = elsewhere_at f i j all (λ e. apart (ap suc e))

-- by the number of its job
numbered : (f : Change) (k : ℕ) (all : List DownloaderState) → 1 ≤ k → changed f k all ≡ changed_at f (k - 1) all
numbered f k all from = ap (λ b. cond b all (changed_at f (k - 1) all)) (ne_eqb k 0 (λ e. omega arith))

pub changed_there : (f : Change) (k : ℕ) (all : List DownloaderState) (s : DownloaderState) → downloader_of all k ≡ Some s → downloader_of (changed f k all) k ≡ Some (f s)
changed_there f k all s e =
    let from : 1 ≤ k = from_1 all k s e in
    ap (λ (xs : List DownloaderState). numbered_from_one xs k) (numbered f k all from)
    ∙ (by_place (changed_at f (k - 1) all) k from ∙ there_at f (k - 1) all s (sym (by_place all k from) ∙ e))

pub changed_elsewhere : (f : Change) (k j : ℕ) (all : List DownloaderState) → j ≢ k → downloader_of (changed f k all) j ≡ downloader_of all j
changed_elsewhere f zero j all apart = refl
changed_elsewhere f (suc k) zero all apart = refl
changed_elsewhere f (suc k) (suc j) all apart =
    ap (λ (xs : List DownloaderState). numbered_from_one xs (suc j)) (numbered f (suc k) all (omega arith))
    ∙ (by_place (changed_at f (suc k - 1) all) (suc j) (omega arith) ∙ (elsewhere_at f (suc k - 1) (suc j - 1) all (λ e. apart (omega arith)) ∙ sym (by_place all (suc j) (omega arith))))

-- the jobs stay
tasks_at : (f : Change) → ((s : DownloaderState) → task_of_state (f s) ≡ task_of_state s) → (i : ℕ) (all : List DownloaderState) → map task_of_state (changed_at f i all) ≡ map task_of_state all
tasks_at f same i [] = refl
tasks_at f same zero (x ∷ all) = ap (λ t. t ∷ map task_of_state all) (same x)
tasks_at f same (suc i) (x ∷ all) = ap (λ ts. task_of_state x ∷ ts) (tasks_at f same i all)

pub tasks_stay : (f : Change) → ((s : DownloaderState) → task_of_state (f s) ≡ task_of_state s) → (k : ℕ) (all : List DownloaderState) → map task_of_state (changed f k all) ≡ map task_of_state all
tasks_stay f same zero all = refl
tasks_stay f same (suc k) all = ap (λ (xs : List DownloaderState). map task_of_state xs) (numbered f (suc k) all (omega arith)) ∙ tasks_at f same (suc k - 1) all

-- ---- as it is kept

module _ {X : Type 0} (seen : X → DownloaderState) (f : Change) where
  written_at : (i : ℕ) (xs : List X) (x y : X) → slice_get xs i ≡ Some x → seen y ≡ f (seen x) → map seen (set xs i y) ≡ changed_at f i (map seen xs)
  written_at i [] x y e h = absurd (cc)
  written_at zero (z ∷ xs) x y e h = ap (λ s. s ∷ map seen xs) (h ∙ ap (λ (x : X). f (seen x)) (let is : z ≡ x = cc in sym is))
  written_at (suc i) (z ∷ xs) x y e h = ap (λ ss. seen z ∷ ss) (written_at i xs x y e h)

-- the kept one at the place of job k is written
pub changed_by : {X : Type 0} (seen : X → DownloaderState) (f : Change) (k i : ℕ) (xs ys : List X) (x y : X) → ys ≡ xs → (1 ≤ k) × (i ≡ k - 1) × (i < length ys) → x ≡ get_or xs i x → seen y ≡ f (seen x) → map seen (set xs i y) ≡ changed f k (map seen ys)
changed_by seen f k i xs ys x y same at is h =
    let from : 1 ≤ k = at.0 in
    let lt : i < length xs = subst (λ (zs : List _). i < length zs) same at.2 in
    written_at seen f i xs x y (slice_get-get_or xs i x lt ∙ ap Some (sym is)) h
    ∙ (ap (λ n. changed_at f n (map seen xs)) at.1
    ∙ (sym (numbered f k (map seen xs) from)
    ∙ ap (λ (zs : List _). changed f k (map seen zs)) (sym same)))

none_changed : (f : Change) (i : ℕ) (all : List DownloaderState) → slice_get all i ≡ None → changed_at f i all ≡ all
none_changed f i [] e = refl
none_changed f zero (z ∷ all) e = absurd (cc)
none_changed f (suc i) (z ∷ all) e = ap (λ ss. z ∷ ss) (none_changed f i all e)

-- there is no such job
pub changed_none : (f : Change) (k : ℕ) (all : List DownloaderState) → downloader_of all k ≡ None → all ≡ changed f k all
changed_none f zero all e = refl
changed_none f (suc k) all e = sym (numbered f (suc k) all (omega arith) ∙ none_changed f (suc k - 1) all (sym (by_place all (suc k) (omega arith)) ∙ e))
