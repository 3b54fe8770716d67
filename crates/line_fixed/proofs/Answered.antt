-- A poll that brings the next datagram, or none, is one that a link and a port may answer.
use Rattle.std.proofs.Common.{◌≤◌, ◌+◌, ℕ, List, [], ◌∷◌, refl, subst, sym, arith}
use Rattle.std.specs.Prelude.{Option, Some, None, slice_get, take}
use Rattle.line_model.specs.declared.outside.link.Polled.{Polled}
use Rattle.line_model.specs.declared.outside.link.Polled.TheVariants as link_answer
use Rattle.line_model.specs.declared.outside.port.PortPolled.{PortPolled}
use Rattle.line_model.specs.declared.outside.port.PortPolled.TheVariants as port_answer
use Rattle.line_model.specs.LinkStory.{Recorded, newest_time, EndsBy, Polls}
use Rattle.line_model.specs.Polled.{PollsAs}
use Rattle.line_model.specs.PortStory as of_port
use Rattle.line_model.specs.PortStory.{PortItem, TakesAs}
use Rattle.line_model.specs.Record.{Item, Entry, Got, Quiet, entry, longest_got}
use Rattle.line_fixed.specs.Fixed.{Answers, AnswersPort, brought, clock_by, lasts, took}

-- of links that are told how long their polls last, and of those that aren't
once : (what : Item) (wait until : ℕ) (lasting : List ℕ) (old : List Entry) → newest_time old ≤ until → EndsBy (clock_by lasting) what wait (newest_time old) until []
    → Polls what wait until (Recorded (clock_by lasting) old) (Recorded (clock_by lasting) (entry what until ∷ old))
once what wait until lasting old later ends = (old, refl, record { waits = []; are = tt; later = later; ends = ends; all = refl })

got_ends : (got octets : List ℕ) (wait since : ℕ) (lasting : List ℕ) (answered : ℕ) → EndsBy (clock_by lasting) (Got got) wait since (since + lasts (slice_get lasting answered) (Some octets) wait) []
got_ends got octets wait since [] answered = omega arith
got_ends got octets wait since (ms ∷ lasting) answered = refl

quiet_ends : (wait since : ℕ) (lasting : List ℕ) (answered : ℕ) → EndsBy (clock_by lasting) Quiet wait since (since + lasts (slice_get lasting answered) None wait) []
quiet_ends wait since [] answered = refl
quiet_ends wait since (ms ∷ lasting) answered = refl

pub polled_so : (polled : Polled) (into : List ℕ) (next : Option (List ℕ)) (wait : ℕ) (lasting : List ℕ) (answered : ℕ) (old : List Entry) → Answers polled into next →
    let until = newest_time old + lasts (slice_get lasting answered) next wait in
    PollsAs polled into wait (newest_time (brought next until ∷ old)) (Recorded (clock_by lasting) old) (Recorded (clock_by lasting) (brought next until ∷ old))
polled_so (link_answer.Got n) into (Some octets) wait lasting answered old a =
    let until : ℕ = newest_time old + lasts (slice_get lasting answered) (Some octets) wait in (
      omega (arith, a.0),
      subst (λ (got : List ℕ). Polls (Got got) wait until (Recorded (clock_by lasting) old) (Recorded (clock_by lasting) (entry (Got (take longest_got octets)) until ∷ old))) (sym a.1)
          (once (Got (take longest_got octets)) wait until lasting old (omega arith) (got_ends (take longest_got octets) octets wait (newest_time old) lasting answered)),
    )
polled_so link_answer.Quiet into None wait lasting answered old a =
    once Quiet wait (newest_time old + lasts (slice_get lasting answered) None wait) lasting old (omega arith) (quiet_ends wait (newest_time old) lasting answered)
polled_so (link_answer.Got n) into None wait lasting answered old a = absurd a
polled_so link_answer.Quiet into (Some octets) wait lasting answered old a = absurd a

pub taken_so : (polled : PortPolled) (into : List ℕ) (next : Option (ℕ × List ℕ)) (wait : ℕ) (old : List PortItem) → AnswersPort polled into next →
    TakesAs polled into wait (of_port.Recorded old) (of_port.Recorded (took next wait ∷ old))
taken_so (port_answer.Got n from) into (Some given) wait old a =
    (omega (arith, a.1), (old, refl, rw (a.0, a.2) refl))
taken_so port_answer.Quiet into None wait old a = (old, refl, refl)
taken_so (port_answer.Got n from) into None wait old a = absurd a
taken_so port_answer.Quiet into (Some given) wait old a = absurd a
