use Rattle.shared_hub.proofs.Watched.{place_been, report_watched}
use Rattle.shared_hub.proofs.watching.Watching.tell_progress.Goals as goal

pub returns-in-Some : goal.returns-in-Some
returns-in-Some g c = λ before w.
    report_watched _ _ _ _ c.in-Some.progress before _ _ c.in-Some.ensures.running (c.in-Some.ensures.shown, place_been _ _ _ c.in-Some.ensures.place c.keeps.ensures.place) c.progress-in-Some.ensures w
