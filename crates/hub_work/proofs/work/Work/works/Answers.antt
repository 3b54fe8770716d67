use Rattle.std.proofs.Common.{refl, ap, sym, inl, inr, Some, ◌∙◌}
use Rattle.line_model.specs.declared.log.LogWhat.TheVariants as log
use Rattle.download_core.specs.declared.did.Did.TheVariants as did
use Rattle.hub_work.specs.declared.work.turn.Turn.TheVariants as turn
use Rattle.hub_work.specs.declared.answers.Turned.TheVariants as answer
use Rattle.hub_work.proofs.KeptBooks.{same_run}
use Rattle.hub_work.proofs.OneTurn.{puts_follows, ends_follow}
use Rattle.hub_work.proofs.Waits.{waits_so, moves_so, never_none, never_empty, puts_isnt_wait, end_isnt_wait, unsent, no_octets}
use Rattle.hub_work.proofs.work.Work.works.Goals.{then-has_place+else-not-is_empty, else-has_place}
use Rattle.hub_work.proofs.Came.{takes_none, none_taken_in, holder_waits}
use Rattle.hub_work.proofs.work.Work.works.Goals as goal

pub returns-in-Send-clause-follows : goal.returns-in-Send-clause-follows
returns-in-Send-clause-follows c =
    puts_follows c.of_a_downloader.ensures c.args.self.now c.puts.new.self c.args.worker c.args.now c.args.at c.args.held c.in-Send.tpdu c.puts.result c.requires.books c.requires.worker c.requires.holder (ap Some (sym c.in-Send.is) ∙ c.in-Some.ensures)
    c.puts.ensures.reads c.puts.ensures.books c.puts.ensures.downloaders c.puts.ensures.held c.puts.ensures.sender c.puts.ensures.telegrams

pub returns-in-Done-clause-follows : goal.returns-in-Done-clause-follows
returns-in-Done-clause-follows c =
    ends_follow c.of_a_downloader.ensures c.args.self.now c.tells_end.new.self c.args.worker c.args.now c.args.at c.args.held did.Done (log.Done c.args.held.job) (answer.Done c.args.held.job) c.tells_end.result c.tells_end.ensures.answer
    c.requires.books c.requires.worker c.requires.holder (ap Some (sym c.in-Done.is) ∙ c.in-Some.ensures) refl c.tells_end.ensures.follows

pub returns-in-Failed-clause-follows : goal.returns-in-Failed-clause-follows
returns-in-Failed-clause-follows c =
    ends_follow c.of_a_downloader.ensures c.args.self.now c.tells_end-in-Failed.new.self c.args.worker c.args.now c.args.at c.args.held (did.Failed c.in-Failed.signs) (log.Failed c.args.held.job c.in-Failed.signs) (answer.Failed c.args.held.job) c.tells_end-in-Failed.result c.tells_end-in-Failed.ensures.answer
    c.requires.books c.requires.worker c.requires.holder (ap Some (sym c.in-Failed.is) ∙ c.in-Some.ensures) refl c.tells_end-in-Failed.ensures.follows

pub returns-in-Refused-clause-follows : goal.returns-in-Refused-clause-follows
returns-in-Refused-clause-follows c =
    ends_follow c.of_a_downloader.ensures c.args.self.now c.tells_end-in-Refused.new.self c.args.worker c.args.now c.args.at c.args.held (did.Refused c.in-Refused.op c.in-Refused.got c.in-Refused.expected) (log.Refused c.args.held.job c.in-Refused.op c.in-Refused.got c.in-Refused.expected)
    (answer.Refused c.args.held.job) c.tells_end-in-Refused.result c.tells_end-in-Refused.ensures.answer c.requires.books c.requires.worker c.requires.holder (ap Some (sym c.in-Refused.is) ∙ c.in-Some.ensures) refl c.tells_end-in-Refused.ensures.follows

pub returns-in-Send-clause-run : goal.returns-in-Send-clause-run
returns-in-Send-clause-run c = same_run c.args.self.now c.puts.new.self c.puts.ensures.books

pub returns-in_default-clause-waits : goal.returns-in_default-clause-waits
returns-in_default-clause-waits c = never_none c.of_a_downloader.ensures c.args.self.now c.args.worker c.args.now c.args.at c.args.has_place c.args.held c.requires.holder (turn.Did answer.Wait) c.in_default.ensures

pub returns-in-Send-clause-waits : goal.returns-in-Send-clause-waits
returns-in-Send-clause-waits c =
    moves_so c.of_a_downloader.ensures c.args.self.now c.args.worker c.args.now c.args.at c.args.has_place c.args.held c.requires.holder (did.Send c.in-Send.tpdu) (turn.Puts c.puts.result) (ap Some (sym c.in-Send.is) ∙ c.in-Some.ensures)
    (puts_isnt_wait c.puts.result) (inr (refl, c.if-has_place.true))

pub returns-in-Send-2-clause-waits : goal.returns-in-Send-2-clause-waits
returns-in-Send-2-clause-waits c = elim c.if-has_place.branch [
  | then-has_place+else-not-is_empty w ↦
      never_empty c.of_a_downloader.ensures c.args.self.now c.args.worker c.args.now c.args.at c.args.has_place c.args.held c.requires.holder c.in-Send.tpdu (turn.Did answer.Wait) (ap Some (sym c.in-Send.is) ∙ c.in-Some.ensures)
      (no_octets c.in-Send.tpdu w.is_empty.result w.is_empty.ensures.0 w.if-not-is_empty.false)
  | else-has_place w ↦
      waits_so c.of_a_downloader.ensures c.args.self.now c.args.worker c.args.now c.args.at c.args.has_place c.args.held c.requires.holder (did.Send c.in-Send.tpdu) (turn.Did answer.Wait) (ap Some (sym c.in-Send.is) ∙ c.in-Some.ensures)
      refl refl (λ sends. w.if-has_place.false)
]

pub returns-in-Wait-clause-waits : goal.returns-in-Wait-clause-waits
returns-in-Wait-clause-waits c =
    waits_so c.of_a_downloader.ensures c.args.self.now c.args.worker c.args.now c.args.at c.args.has_place c.args.held c.requires.holder did.Wait (turn.Did answer.Wait) (ap Some (sym c.in-Wait.is) ∙ c.in-Some.ensures) refl refl (unsent c.args.has_place)

pub returns-in-Done-clause-waits : goal.returns-in-Done-clause-waits
returns-in-Done-clause-waits c =
    moves_so c.of_a_downloader.ensures c.args.self.now c.args.worker c.args.now c.args.at c.args.has_place c.args.held c.requires.holder did.Done c.tells_end.result (ap Some (sym c.in-Done.is) ∙ c.in-Some.ensures)
    (end_isnt_wait c.tells_end.result (answer.Done c.args.held.job) c.tells_end.ensures.answer tt) (inl refl)

pub returns-in-Failed-clause-waits : goal.returns-in-Failed-clause-waits
returns-in-Failed-clause-waits c =
    moves_so c.of_a_downloader.ensures c.args.self.now c.args.worker c.args.now c.args.at c.args.has_place c.args.held c.requires.holder (did.Failed c.in-Failed.signs) c.tells_end-in-Failed.result (ap Some (sym c.in-Failed.is) ∙ c.in-Some.ensures)
    (end_isnt_wait c.tells_end-in-Failed.result (answer.Failed c.args.held.job) c.tells_end-in-Failed.ensures.answer tt) (inl refl)

pub returns-in-Refused-clause-waits : goal.returns-in-Refused-clause-waits
returns-in-Refused-clause-waits c =
    moves_so c.of_a_downloader.ensures c.args.self.now c.args.worker c.args.now c.args.at c.args.has_place c.args.held c.requires.holder (did.Refused c.in-Refused.op c.in-Refused.got c.in-Refused.expected) c.tells_end-in-Refused.result
    (ap Some (sym c.in-Refused.is) ∙ c.in-Some.ensures) (end_isnt_wait c.tells_end-in-Refused.result (answer.Refused c.args.held.job) c.tells_end-in-Refused.ensures.answer tt) (inl refl)

pub returns-in-Send-clause-came : goal.returns-in-Send-clause-came
returns-in-Send-clause-came c = none_taken_in c.args.self.now.crew c.puts.new.self.crew c.args.worker c.puts.ensures.came (holder_waits c.args.self.now.crew _ c.args.held c.requires.holder c.requires.taken_in)

pub returns-in-Send-2-clause-came : goal.returns-in-Send-2-clause-came
returns-in-Send-2-clause-came c = takes_none c.args.self.now.crew c.args.worker (holder_waits c.args.self.now.crew _ c.args.held c.requires.holder c.requires.taken_in)

pub returns-in-Wait-clause-came : goal.returns-in-Wait-clause-came
returns-in-Wait-clause-came c = takes_none c.args.self.now.crew c.args.worker (holder_waits c.args.self.now.crew _ c.args.held c.requires.holder c.requires.taken_in)

pub returns-in_default-clause-came : goal.returns-in_default-clause-came
returns-in_default-clause-came c = takes_none c.args.self.now.crew c.args.worker (holder_waits c.args.self.now.crew _ c.args.held c.requires.holder c.requires.taken_in)
