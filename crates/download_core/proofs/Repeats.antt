-- The outstanding operation, put again: it may be put, and is then what the line's view has of it.
use Rattle.std.proofs.Common.{◌≡◌, inr, ℕ, suc, Bool, List, [], map, Option, Some, None, refl, ap, sym, subst, ◌∙◌, arith}
use Rattle.std.proofs.lemmas.Grind.{common_steps}
use Rattle.knx_model.specs.declared.address.IndAddr.{IndAddr}
use Rattle.knx_model.specs.declared.connection.TransportFrame.TheVariants as frame
use Rattle.knx_model.specs.declared.connection.ClientExpired.{ClientExpired}
use Rattle.knx_model.specs.declared.connection.ClientExpired.TheVariants as due
use Rattle.knx_model.specs.Connection.{Session, frame_in}
use Rattle.knx_model.specs.ConnectionLaws.{Waits}
use Rattle.knx_model.specs.ClientConnection.{ClientEnd, Asked, Up, Asking, Awaiting, Ended as NoConnection, Question, IsClientEnd, client_sent, client_expired, after_overdue, question_expired}
use Rattle.knx_model.specs.Plans.{Plan}
use Rattle.transport_conn.proofs.Numbers.{client_numbers}
use Rattle.line_model.specs.Attempts as line
use Rattle.line_model.specs.Attempts.{Attempts, MayPut, MayAsk, IsNext, IsRepeat, IsOver, IsDone, is_asking, is_silent, awaits, sent_of, sends_numbered, put_attempt, first, most_attempts}
use Rattle.download_core.specs.declared.flight.Flight.TheVariants.{Frame}
use Rattle.download_core.specs.declared.signs.Signs.{Signs}
use Rattle.download_core.specs.Attempt.{Attempt, Running}
use Rattle.download_core.specs.Fits.{Knows, IsFrame, one_octet, StandsWith, IsEnd, earlier}
use Rattle.download_core.proofs.Goes.{Goes}

-- ---- an operation again

due_frame : (s : Session) (q : Question) (o : Option ℕ) (now : ℕ) (g : List ℕ) → question_expired q o now ≡ due.Repeat g → g ≡ q.frame
due_frame s q None now g h = absurd (cc h)
due_frame s q (Some since) now g h = grind (arith, common_steps)

-- what is put again is numbered data, of a connection that asks
pub record Repeats (e : ClientEnd) (g : List ℕ) (now : ℕ) : Type 0 where
  pub n : ℕ
  pub apdu : List ℕ
  pub reads : frame_in g ≡ frame.Numbered n apdu
  pub unsent : client_sent e apdu ≡ None
  pub flies : IsFrame (after_overdue e now (due.Repeat g)) (Some (frame.Numbered n apdu))
  pub ends : IsEnd (after_overdue e now (due.Repeat g))
  pub awaited : awaits (after_overdue e now (due.Repeat g)) ≡ awaits e

repeats_at : (e : ClientEnd) (now : ℕ) (g : List ℕ) → client_expired e now ≡ due.Repeat g → IsEnd e → Repeats e g now
unfolding client_expired after_overdue client_sent
repeats_at (Asked d) now g h k = absurd (cc h)
repeats_at (Up s) now g h k = absurd (cc h)
repeats_at (Asking s q) now g h k = record { n = k.0; apdu = k.1; reads = ap frame_in (due_frame s q q.confirmed now g h) ∙ k.2; unsent = refl; flies = (k.0, k.1, refl); ends = k; awaited = refl }
repeats_at (Awaiting s) now g h k = grind (arith, common_steps)
repeats_at NoConnection now g h k = absurd (cc h)

any_frame : (e : ClientEnd) (now : ℕ) (f g : List ℕ) → after_overdue e now (due.Repeat f) ≡ after_overdue e now (due.Repeat g)
unfolding after_overdue
any_frame e now f g = refl

abbrev repeated : Attempt → List ℕ → ℕ → Attempt
repeated a g now = record a { conn = after_overdue a.conn now (due.Repeat g); flight = Frame }

put_repeated : (x : line.Attempt) (apdu : List ℕ) (n now : ℕ) → client_sent x.end apdu ≡ None → put_attempt x now (frame.Numbered n apdu) ≡ record x { end = after_overdue x.end now (due.Repeat []); flying = Some (frame.Numbered n apdu) }
put_repeated x apdu n now e = ap (λ (o : Option (List ℕ)). record (sends_numbered x apdu now o) { flying = Some (frame.Numbered n apdu) }) e

knows_repeated : (a : Attempt) (x : line.Attempt) (g : List ℕ) (now : ℕ) (r : Repeats a.conn g now) → client_expired a.conn now ≡ due.Repeat g → Knows a x
    → Knows (repeated a g now) (record x { end = after_overdue x.end now (due.Repeat []); flying = Some (frame.Numbered r.n r.apdu) })
knows_repeated a x g now r h k = record {
  end = ap (λ (e : ClientEnd). after_overdue e now (due.Repeat [])) k.end ∙ any_frame a.conn now [] g;
  owed = k.owed;
  replies = k.replies;
  flying = r.flies;
  closing = k.closing;
  left = k.left;
  stands = λ e. subst (λ (b : Bool). StandsWith b a.standing) (sym r.awaited) (k.stands e);
  sendable = k.sendable;
  numbers = subst (λ (d : ClientExpired). IsClientEnd (after_overdue a.conn now d)) h (client_numbers a.conn (Waits now) k.numbers);
  repeats = r.ends;
}

pub repeat_goes : (device : IndAddr) (plan : Plan) (signs : Signs) (a : Attempt) (x : line.Attempt) (now : ℕ) (g : List ℕ) → client_expired a.conn now ≡ due.Repeat g → a.owed ≡ [] → Knows a x
    → Goes device plan signs (Running (repeated a g now)) now g (line.Running (suc (earlier signs)) x) (frame_in g)
repeat_goes device plan signs a x now g h o k =
    let r = repeats_at a.conn now g h k.repeats in
    let unsent : client_sent x.end r.apdu ≡ None = ap (λ (e : ClientEnd). client_sent e r.apdu) k.end ∙ r.unsent in
    subst (Goes device plan signs (Running (repeated a g now)) now g (line.Running (suc (earlier signs)) x)) (sym r.reads)
    (record {
      may = record { owes_nothing = k.owed ∙ ap (map one_octet) o; which = inr (ap (λ (e : ClientEnd). client_expired e now) k.end ∙ h) };
      fits = (
        put_attempt x now (frame.Numbered r.n r.apdu),
        refl,
        subst (Knows (repeated a g now)) (sym (put_repeated x r.apdu r.n now unsent)) (knows_repeated a x g now r h k),
      );
    })
