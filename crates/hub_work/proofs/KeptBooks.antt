-- All that a hub's work keeps of its books, after a job was taken, after it ended, after a group telegram was told, and at the beginning.
use Rattle.std.proofs.Common.{◌≡◌, ℕ, ◌+◌, ◌-◌, ◌<◌, ◌≤◌, min, length, List, ◌∷◌, set, Some, None, sym, ap, subst, ◌∙◌, arith}
use Rattle.std.specs.List.{sum_by, count_by}
use Rattle.knx_model.specs.declared.address.IndAddr.{IndAddr}
use Rattle.line_model.specs.declared.group.GroupTurn.{GroupTurn}
use Rattle.line_model.specs.declared.log.LogWhat.{LogWhat}
use Rattle.line_model.specs.declared.log.LogWhat.TheVariants.{Took}
use Rattle.line_model.specs.Log.{IsNextTurn}
use Rattle.device_reservation.specs.Reservation.{job_ended}
use Rattle.hub_work.specs.declared.crew.Held.{Held}
use Rattle.hub_work.specs.declared.work.Work.{Work}
use Rattle.hub_work.specs.Books.{jobs_held, held_at}
use Rattle.hub_work.specs.Turns.{EndsJob, TellsTurn}
use Rattle.hub_work.specs.Works.{KeepsBooks, SameRun, SameBooks, IsHolder, IsTaking, BeginsWith}
use Rattle.hub_work.specs.Counts.{is_unfinished, entries_to_come}
use Rattle.hub_work.proofs.Crews.{as_many}
use Rattle.hub_work.proofs.Rooms.{room_to_end, take_counts, end_counts, begins_counts}
use Rattle.hub_work.proofs.Books.{told_written, told_live, holds_it}
use Rattle.hub_work.proofs.Works.{entry_of, written_as, live_as, telling_as, turn_within, next_is, take_written, take_telling, take_live, end_written, end_telling, end_live, tell_telling, begins_written, begins_telling, begins_live}

-- ---- all of it

pub take_books : (w v : Work) (at worker job : ℕ) (held : Held) → held.job ≡ job → IsTaking w at worker job → 1 ≤ worker → worker ≤ length w.crew → None ≡ held_at w.crew (worker - 1)
    → v.reservation ≡ w.reservation → v.telegrams ≡ w.telegrams → v.unfinished ≡ w.unfinished → v.crew ≡ set w.crew (worker - 1) (Some held) → v.journal.entries ≡ entry_of at worker (Took job) ∷ w.journal.entries → w.journal.room ≤ v.journal.room + 1 → KeepsBooks at v
take_books w v at worker job held same t from within empty er et eu ec el room = record {
  written = take_written w v at worker job t from empty er (ap (λ x. x.turns) et) el;
  telling = take_telling w v at worker job (ap (λ x. x.told) et) (ap (λ x. x.turns) et) el t.telling;
  live = take_live w v at worker job held same t from within empty er ec el;
  counts = take_counts w v at worker job t er et eu room;
}

pub end_books : (w v : Work) (at worker : ℕ) (held : Held) (what : LogWhat) → KeepsBooks at w → 1 ≤ worker → IsHolder w worker held → EndsJob held.job what
    → v.reservation ≡ job_ended held.job w.reservation → v.telegrams ≡ w.telegrams → v.unfinished ≡ w.unfinished - 1 → v.crew ≡ set w.crew (worker - 1) None → v.journal.entries ≡ entry_of at worker what ∷ w.journal.entries → w.journal.room ≤ v.journal.room + 1 → KeepsBooks at v
end_books w v at worker held what b from holder ends er et eu ec el room = record {
  written = end_written w v at worker held what b.live b.written from holder ends er (ap (λ x. x.turns) et) el;
  telling = end_telling w v at worker held.job what ends (ap (λ x. x.told) et) (ap (λ x. x.turns) et) el b.telling;
  live = end_live w v at worker held what b.live from holder ends er ec el;
  counts = end_counts w v held.job worker b.counts (holds_it w.reservation w.crew w.journal.entries worker held b.live from holder) er et eu room;
}

pub room_for_end : (w : Work) (at worker : ℕ) (held : Held) → KeepsBooks at w → 1 ≤ worker → IsHolder w worker held → 1 ≤ w.journal.room
room_for_end w at worker held b from holder = room_to_end w held.job worker b.counts (holds_it w.reservation w.crew w.journal.entries worker held b.live from holder)

-- a call that leaves the books
pub same_run : (w v : Work) → SameBooks w v → SameRun w v
same_run w v s = record { devices = ap (λ r. r.devices) s.reservation; tasks_are = s.tasks_are; closing = s.closing; turns = s.turns; workers = as_many w.crew v.crew s.held }

pub same_keeps : (at : ℕ) (w v : Work) → SameBooks w v → KeepsBooks at w → KeepsBooks at v
same_keeps at w v s b = record {
  written = written_as v w.reservation (jobs_held w.crew) w.journal.entries w.telegrams.turns at s.reservation s.turns (ap (λ j. j.entries) s.journal) b.written;
  telling = telling_as v w.telegrams.told w.telegrams.turns w.journal.entries s.told s.turns (ap (λ j. j.entries) s.journal) b.telling;
  live = live_as v w.reservation (jobs_held w.crew) w.journal.entries w.telegrams.turns at s.reservation s.turns (ap (λ j. j.entries) s.journal) s.held b.live;
  counts = record {
    unfinished = s.unfinished ∙ (b.counts.unfinished ∙ ap (λ r. count_by is_unfinished r.stages) (sym s.reservation));
    room =
        subst (λ r. sum_by entries_to_come r.stages + (length v.telegrams.turns - v.telegrams.told) ≤ v.journal.room) (sym s.reservation)
        (subst (λ (ts : List GroupTurn). sum_by entries_to_come w.reservation.stages + (length ts - v.telegrams.told) ≤ v.journal.room) (sym s.turns)
        (subst (λ n. sum_by entries_to_come w.reservation.stages + (length w.telegrams.turns - n) ≤ v.journal.room) (sym s.told)
        (subst (λ j. sum_by entries_to_come w.reservation.stages + (length w.telegrams.turns - w.telegrams.told) ≤ j.room) (sym s.journal) b.counts.room)));
  };
}

-- ---- a group telegram is told

pub room_to_tell : (w : Work) (at k : ℕ) → KeepsBooks at w → IsNextTurn w.telegrams.turns w.journal.entries k → 1 ≤ w.journal.room
room_to_tell w at k b next =
    let within : (1 ≤ k) × (k ≤ length w.telegrams.turns) = turn_within w.telegrams.turns k next.there in
    let is : k ≡ w.telegrams.told + 1 = next_is w.telegrams.told w.telegrams.turns w.journal.entries k b.telling next in
    let to : k ≤ length w.telegrams.turns = within.1 in
    let room : sum_by entries_to_come w.reservation.stages + (length w.telegrams.turns - w.telegrams.told) ≤ w.journal.room = b.counts.room in
    omega (arith, is, to, room)

-- just one more is told
pub one_more_told : (w : Work) (at k told : ℕ) → KeepsBooks at w → IsNextTurn w.telegrams.turns w.journal.entries k → length w.telegrams.turns < 4294967296 → told ≡ min (w.telegrams.told + 1) 4294967295 → told ≡ k
one_more_told w at k told b next few e =
    let within : (1 ≤ k) × (k ≤ length w.telegrams.turns) = turn_within w.telegrams.turns k next.there in
    let is : k ≡ w.telegrams.told + 1 = next_is w.telegrams.told w.telegrams.turns w.journal.entries k b.telling next in
    let to : k ≤ length w.telegrams.turns = within.1 in
    omega (arith, is, to, e)

pub tell_books : (w v : Work) (at k : ℕ) (what : LogWhat) → KeepsBooks at w → TellsTurn k what → IsNextTurn w.telegrams.turns w.journal.entries k → length w.telegrams.turns < 4294967296
    → v.reservation ≡ w.reservation → v.crew ≡ w.crew → v.unfinished ≡ w.unfinished → v.telegrams.told ≡ min (w.telegrams.told + 1) 4294967295 → v.telegrams.turns ≡ w.telegrams.turns → v.journal.entries ≡ entry_of at 0 what ∷ w.journal.entries → w.journal.room ≤ v.journal.room + 1 → KeepsBooks at v
tell_books w v at k what b tells next few er ec eu en et el room = record {
  written = written_as v w.reservation (jobs_held v.crew) (entry_of at 0 what ∷ w.journal.entries) w.telegrams.turns at er et el (told_written w.reservation w.telegrams.turns at k what w.journal.entries tells b.written next);
  telling = tell_telling w v at k what tells next few en et el b.telling;
  live = live_as v w.reservation (jobs_held w.crew) (entry_of at 0 what ∷ w.journal.entries) w.telegrams.turns at er et el (ap jobs_held ec) (told_live w.reservation (jobs_held w.crew) at k what w.journal.entries tells b.live);
  counts = record {
    unfinished = eu ∙ (b.counts.unfinished ∙ ap (λ r. count_by is_unfinished r.stages) (sym er));
    room =
        let told : v.telegrams.told ≡ k = one_more_told w at k v.telegrams.told b next few en in
        let is : k ≡ w.telegrams.told + 1 = next_is w.telegrams.told w.telegrams.turns w.journal.entries k b.telling next in
        let within : k ≤ length w.telegrams.turns = (turn_within w.telegrams.turns k next.there).1 in
        let old : sum_by entries_to_come w.reservation.stages + (length w.telegrams.turns - w.telegrams.told) ≤ w.journal.room = b.counts.room in
        subst (λ r. sum_by entries_to_come r.stages + (length v.telegrams.turns - v.telegrams.told) ≤ v.journal.room) (sym er)
        (subst (λ (ts : List GroupTurn). sum_by entries_to_come w.reservation.stages + (length ts - v.telegrams.told) ≤ v.journal.room) (sym et) (omega (arith, told, is, within, old, room)));
  };
}

-- ---- the beginning, all of it

pub begins_books : (workers : ℕ) (devices : List IndAddr) (turns : List GroupTurn) (w : Work) (at : ℕ) → BeginsWith workers devices turns w → KeepsBooks at w
begins_books workers devices turns w at b = record { written = begins_written workers devices turns w at b; telling = begins_telling workers devices turns w b; live = begins_live workers devices turns w b; counts = begins_counts workers devices turns w b }
