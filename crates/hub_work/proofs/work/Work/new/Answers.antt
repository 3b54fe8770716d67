use Rattle.std.proofs.Common.{refl, ap, map, arith, ◌∙◌}
use Rattle.std.proofs.lemmas.List.{length-map}
use Rattle.device_reservation.specs.Reservation.{none_taken}
use Rattle.hub_work.specs.declared.job.HubJob.{HubJob}
use Rattle.hub_work.specs.Downloaders.{task_of_state}
use Rattle.hub_work.specs.Telegrams.{Telling}
use Rattle.hub_work.proofs.Beginning.{begins_rightly, tasks_of_new}
use Rattle.hub_work.proofs.KeptBooks.{begins_books}
use Rattle.hub_work.proofs.work.Work.new.Goals as goal

pub returns-clause-tasks : goal.returns-clause-tasks
returns-clause-tasks c = ap (map task_of_state) c.in_ok-downloaders.ensures ∙ tasks_of_new c.args.jobs

pub returns-clause-fits : goal.returns-clause-fits
returns-clause-fits c =
    begins_rightly c.args.jobs _ c.each_operation_can_be_sent.ensures.sendable c.each_operation_can_be_sent.ensures.begins (ap (λ r. r.devices) c.in_ok-reservation.ensures ∙ (c.deref.ensures.value ∙ (c.in_ok-devices.ensures ∙ ap (map (λ (j : HubJob). j.device)) c.as_slice.ensures))) c.in_ok-downloaders.ensures
    (ap (λ (t : Telling). t.stage) c.new-4.ensures) refl c.in_ok-journal.ensures.empty

pub returns-clause-books : goal.returns-clause-books
returns-clause-books c = λ at. begins_books c.args.workers (map (λ (j : HubJob). j.device) c.args.jobs) c.args.groups _ at (record {
  reservation = c.in_ok-reservation.ensures ∙ ap none_taken (c.deref.ensures.value ∙ (c.in_ok-devices.ensures ∙ ap (map (λ (j : HubJob). j.device)) c.as_slice.ensures));
  turns_are = ap (λ (t : Telling). t.turns) c.new-4.ensures;
  none_told = ap (λ (t : Telling). t.told) c.new-4.ensures;
  crew = c.in_ok-crew.ensures;
  journal = c.in_ok-journal.ensures.empty;
  room = omega (arith, c.in_ok-journal.ensures.room, c.len.ensures, c.len-2.ensures, c.len-3.ensures, length-map c.args.jobs (λ (j : HubJob). j.device));
  unfinished = omega (arith, c.len-unfinished.ensures, length-map c.args.jobs (λ (j : HubJob). j.device));
})
