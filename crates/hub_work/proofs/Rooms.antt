-- How many jobs are unfinished, and that there is room for each entry still to come, after an entry.
use Rattle.std.proofs.Common.{◌≡◌, ℕ, zero, suc, ◌+◌, ◌-◌, ◌≤◌, cond, get_or, length, List, set, replicate, Some, refl, sym, ap, subst, ◌∙◌, arith}
use Rattle.std.specs.Prelude.{slice_get}
use Rattle.std.specs.List.{sum_by, count_by}
use Rattle.std.proofs.lemmas.List.Sums.{sum_by-set, sum_by-cons, get_or-le-sum_by}
use Rattle.std.proofs.lemmas.Option.{slice_get-get_or, slice_get_within, same_Some}
use Rattle.knx_model.specs.declared.address.IndAddr.{IndAddr}
use Rattle.line_model.specs.declared.group.GroupTurn.{GroupTurn}
use Rattle.device_reservation.specs.declared.stage.Stage.{Stage}
use Rattle.device_reservation.specs.declared.stage.Stage.TheVariants.{Untaken, Held, Over}
use Rattle.device_reservation.specs.Reservation.{Reservation, stage_of, with_stage}
use Rattle.device_reservation.proofs.Numbered.{by_place, from_1}
use Rattle.hub_work.specs.declared.work.Work.{Work}
use Rattle.hub_work.specs.Counts.{is_unfinished, entries_to_come}
use Rattle.hub_work.specs.Works.{Counts, IsTaking, BeginsWith}

-- a sum after one element was written
its_place : {X : Type 0} (xs : List X) (i : ℕ) (x : X) → slice_get xs i ≡ Some x → get_or xs i x ≡ x
its_place xs i x e = same_Some (get_or xs i x) x (sym (slice_get-get_or xs i x (slice_get_within xs i x e)) ∙ e)

sum_set : {X : Type 0} (f : X → ℕ) (xs : List X) (i : ℕ) (x y : X) → slice_get xs i ≡ Some x → sum_by f (set xs i y) + f x ≡ sum_by f xs + f y
sum_set f xs i x y e = subst (λ z. sum_by f (set xs i y) + f z ≡ sum_by f xs + f y) (its_place xs i x e) (sum_by-set f xs i y x (slice_get_within xs i x e))

pub at_least : {X : Type 0} (f : X → ℕ) (xs : List X) (i : ℕ) (x : X) → slice_get xs i ≡ Some x → f x ≤ sum_by f xs
at_least f xs i x e = subst (λ z. f z ≤ sum_by f xs) (its_place xs i x e) (get_or-le-sum_by f xs i x (slice_get_within xs i x e))

abbrev pub one_if : Stage → ℕ
one_if s = cond (is_unfinished s) 1 0

there : (r : Reservation) (job : ℕ) (s : Stage) → stage_of r job ≡ Some s → slice_get r.stages (job - 1) ≡ Some s
there r job s e = sym (by_place r.stages job (from_1 r.stages job s e)) ∙ e

-- ---- a job is taken

pub room_to_take : (w : Work) (at worker job : ℕ) → IsTaking w at worker job → 1 ≤ w.journal.room
room_to_take w at worker job t =
    let left : 2 ≤ sum_by entries_to_come t.before.stages = at_least entries_to_come t.before.stages (job - 1) Untaken (there t.before job Untaken t.first.free.untaken) in
    let room : sum_by entries_to_come t.before.stages + (length w.telegrams.turns - w.telegrams.told) ≤ w.journal.room = t.room in
    omega (arith, left, room)

pub take_counts : (w v : Work) (at worker job : ℕ) → IsTaking w at worker job → v.reservation ≡ w.reservation → v.telegrams ≡ w.telegrams → v.unfinished ≡ w.unfinished → w.journal.room ≤ v.journal.room + 1 → Counts v
take_counts w v at worker job t er et eu room =
    let here : slice_get t.before.stages (job - 1) ≡ Some Untaken = there t.before job Untaken t.first.free.untaken in
    let ones : count_by is_unfinished (set t.before.stages (job - 1) (Held worker)) + 1 ≡ count_by is_unfinished t.before.stages + 1 = sum_set one_if t.before.stages (job - 1) Untaken (Held worker) here in
    let left : sum_by entries_to_come (set t.before.stages (job - 1) (Held worker)) + 2 ≡ sum_by entries_to_come t.before.stages + 1 = sum_set entries_to_come t.before.stages (job - 1) Untaken (Held worker) here in
    let stages : v.reservation.stages ≡ set t.before.stages (job - 1) (Held worker) = ap (λ (r : Reservation). r.stages) (er ∙ t.taken) in
    record {
      unfinished = eu ∙ (t.unfinished ∙ (omega (arith, ones) ∙ ap (count_by is_unfinished) (sym stages)));
      room =
          subst (λ (ss : List Stage). sum_by entries_to_come ss + (length v.telegrams.turns - v.telegrams.told) ≤ v.journal.room) (sym stages)
          (subst (λ x. sum_by entries_to_come (set t.before.stages (job - 1) (Held worker)) + (length x.turns - x.told) ≤ v.journal.room) (sym et) (let r : sum_by entries_to_come t.before.stages + (length w.telegrams.turns - w.telegrams.told) ≤ w.journal.room = t.room in omega (arith, left, r, room)));
    }

-- ---- a job has ended

pub room_to_end : (w : Work) (job worker : ℕ) → Counts w → stage_of w.reservation job ≡ Some (Held worker) → 1 ≤ w.journal.room
room_to_end w job worker c e =
    let left : 1 ≤ sum_by entries_to_come w.reservation.stages = at_least entries_to_come w.reservation.stages (job - 1) (Held worker) (there w.reservation job (Held worker) e) in
    let room : sum_by entries_to_come w.reservation.stages + (length w.telegrams.turns - w.telegrams.told) ≤ w.journal.room = c.room in
    omega (arith, left, room)

pub end_counts : (w v : Work) (job worker : ℕ) → Counts w → stage_of w.reservation job ≡ Some (Held worker) → v.reservation ≡ with_stage w.reservation job Over → v.telegrams ≡ w.telegrams → v.unfinished ≡ w.unfinished - 1 → w.journal.room ≤ v.journal.room + 1 → Counts v
end_counts w v job worker c e er et eu room =
    let here : slice_get w.reservation.stages (job - 1) ≡ Some (Held worker) = there w.reservation job (Held worker) e in
    let ones : count_by is_unfinished (set w.reservation.stages (job - 1) Over) + 1 ≡ count_by is_unfinished w.reservation.stages + 0 = sum_set one_if w.reservation.stages (job - 1) (Held worker) Over here in
    let left : sum_by entries_to_come (set w.reservation.stages (job - 1) Over) + 1 ≡ sum_by entries_to_come w.reservation.stages + 0 = sum_set entries_to_come w.reservation.stages (job - 1) (Held worker) Over here in
    let stages : v.reservation.stages ≡ set w.reservation.stages (job - 1) Over = ap (λ (r : Reservation). r.stages) er in
    let count : w.unfinished ≡ count_by is_unfinished w.reservation.stages = c.unfinished in
    record {
      unfinished = (let u : v.unfinished ≡ count_by is_unfinished (set w.reservation.stages (job - 1) Over) = omega (arith, ones, count, eu) in u) ∙ ap (count_by is_unfinished) (sym stages);
      room =
          subst (λ (ss : List Stage). sum_by entries_to_come ss + (length v.telegrams.turns - v.telegrams.told) ≤ v.journal.room) (sym stages)
          (subst (λ x. sum_by entries_to_come (set w.reservation.stages (job - 1) Over) + (length x.turns - x.told) ≤ v.journal.room) (sym et) (let r : sum_by entries_to_come w.reservation.stages + (length w.telegrams.turns - w.telegrams.told) ≤ w.journal.room = c.room in omega (arith, left, r, room)));
    }

-- ---- at the beginning

ones_of_all : (n : ℕ) → sum_by one_if (replicate n Untaken) ≡ n
ones_of_all zero = refl
ones_of_all (suc n) = sum_by-cons one_if Untaken (replicate n Untaken) ∙ (let ih : sum_by one_if (replicate n Untaken) ≡ n = ones_of_all n in omega (arith, ih))

twos_of_all : (n : ℕ) → sum_by entries_to_come (replicate n Untaken) ≡ n + n
twos_of_all zero = refl
twos_of_all (suc n) = sum_by-cons entries_to_come Untaken (replicate n Untaken) ∙ (let ih : sum_by entries_to_come (replicate n Untaken) ≡ n + n = twos_of_all n in omega (arith, ih))

pub begins_counts : (workers : ℕ) (devices : List IndAddr) (turns : List GroupTurn) (w : Work) → BeginsWith workers devices turns w → Counts w
begins_counts workers devices turns w b =
    let ones : count_by is_unfinished (replicate (length devices) Untaken) ≡ length devices = ones_of_all (length devices) in
    let twos : sum_by entries_to_come (replicate (length devices) Untaken) ≡ length devices + length devices = twos_of_all (length devices) in
    let stages : w.reservation.stages ≡ replicate (length devices) Untaken = ap (λ (r : Reservation). r.stages) b.reservation in
    let room : length devices + length devices + length turns ≤ w.journal.room = b.room in
    record {
      unfinished = b.unfinished ∙ ((let e : length devices ≡ count_by is_unfinished (replicate (length devices) Untaken) = omega (arith, ones) in e) ∙ ap (count_by is_unfinished) (sym stages));
      room =
          subst (λ (ss : List Stage). sum_by entries_to_come ss + (length w.telegrams.turns - w.telegrams.told) ≤ w.journal.room) (sym stages)
          (subst (λ (ts : List GroupTurn). sum_by entries_to_come (replicate (length devices) Untaken) + (length ts - w.telegrams.told) ≤ w.journal.room) (sym b.turns_are) (omega (arith, twos, room)));
    }
