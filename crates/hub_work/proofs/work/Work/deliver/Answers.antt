use Rattle.std.proofs.Common.{refl, sym, subst, inl, inr, ap}
use Rattle.knx_model.specs.declared.frames.cemi.LdataCode.{LdataCode}
use Rattle.line_model.specs.Reading.{is_con, is_ind}
use Rattle.hub_work.specs.declared.work.Work.{Work}
use Rattle.hub_work.specs.Follows.{FrameFollows}
use Rattle.hub_work.proofs.Moments.{frame_of_none, frame_confirms, frame_is_heard}
use Rattle.hub_work.proofs.work.Work.deliver.Goals.{in-Con, in-Ind, in-Ind+else-not-frame, in-Req}
use Rattle.hub_work.specs.CameFor.{Comes, FrameComes}
use Rattle.hub_work.proofs.CameFor.{heard_comes, group_comes}
use Rattle.hub_work.proofs.Counted.{frame_counts}
use Rattle.hub_work.proofs.work.Work.deliver.Goals as goal

pub returns-clause-follows : goal.returns-clause-follows
returns-clause-follows c = elim c.match-frame.branch [
  | in-Con w ↦ subst (λ (v : Work). FrameFollows c.args.self.now v c.args.frame.now c.args.now) (sym w.self-is) (frame_confirms c.args.self.now w.confirmed.new.self c.args.frame.now c.args.now (ap is_con w.in-Con.is) w.confirmed.ensures.follows)
  | in-Ind w ↦ subst (λ (v : Work). FrameFollows c.args.self.now v c.args.frame.now c.args.now) (sym w.self-is)
      (frame_is_heard c.args.self.now w.heard.new.self c.args.frame.now c.args.now (ap is_ind w.in-Ind.is) w.if-not-frame.true w.heard.ensures.follows)
  | in-Ind+else-not-frame w ↦ subst (λ (v : Work). FrameFollows c.args.self.now v c.args.frame.now c.args.now) (sym w.self-is)
      (frame_of_none c.of_a_downloader.ensures c.args.self.now c.args.frame.now c.args.now (ap is_con w.in-Ind.is) (inr w.if-not-frame.false))
  | in-Req w ↦ subst (λ (v : Work). FrameFollows c.args.self.now v c.args.frame.now c.args.now) (sym w.self-is)
      (frame_of_none c.of_a_downloader.ensures c.args.self.now c.args.frame.now c.args.now (ap is_con w.in-Req.is) (inl (ap is_ind w.in-Req.is)))
]

pub returns-clause-came : goal.returns-clause-came
returns-clause-came c = elim c.match-frame.branch [
  | in-Con w ↦ subst (λ (v : Work). Comes c.args.frame.now c.args.self.now v.crew) (sym w.self-is)
      (subst (λ (code : LdataCode). FrameComes c.args.self.now.sender code c.args.frame.now.group c.args.frame.now.source c.args.self.now.crew w.confirmed.new.self.crew) (sym w.in-Con.is) w.confirmed.ensures.came)
  | in-Ind w ↦ subst (λ (v : Work). Comes c.args.frame.now c.args.self.now v.crew) (sym w.self-is)
      (heard_comes c.args.self.now w.heard.new.self c.args.frame.now w.in-Ind.is w.if-not-frame.true w.heard.ensures.came)
  | in-Ind+else-not-frame w ↦ subst (λ (v : Work). Comes c.args.frame.now c.args.self.now v.crew) (sym w.self-is) (group_comes c.args.self.now c.args.frame.now w.in-Ind.is w.if-not-frame.false)
  | in-Req w ↦ subst (λ (v : Work). Comes c.args.frame.now c.args.self.now v.crew) (sym w.self-is)
      (subst (λ (code : LdataCode). FrameComes c.args.self.now.sender code c.args.frame.now.group c.args.frame.now.source c.args.self.now.crew c.args.self.now.crew) (sym w.in-Req.is) refl)
]

pub returns-clause-counts : goal.returns-clause-counts
returns-clause-counts c = frame_counts c.of_a_downloader.ensures c.args.self.now c.match-frame.self.crew c.args.frame.now (returns-clause-came c)
