use Rattle.std.proofs.Common.{◌≡◌, map}
use Rattle.project_text.specs.Migrated.{numbered_after}
use Rattle.project_text.specs.Sending.{ArePlaces, kept_send}
use Rattle.project_text.proofs.migration.put_sends.Given as goal

abbrev pub invariant-loop-place : goal.invariant-loop-place
invariant-loop-place l = record {
  made : numbered_after l.out (map (kept_send l.last) l.place-iterator) ≡ numbered_after l.initial.out (map (kept_send l.last) l.first.entries);
  places : ArePlaces l.place-iterator;
}
