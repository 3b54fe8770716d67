-- Where a hub tells that its closing is over, it is over by its log and record.
use Rattle.std.proofs.Common.{◌≡◌, ℕ, Bool, true, List, Option, Some, None, sym, ap, subst, ◌∙◌, arith}
use Rattle.std.proofs.lemmas.Bool.Decides.{nat_tests}
use Rattle.std.specs.Prelude.{◌&&◌, ◌||◌, not, nat_le, min}
use Rattle.knx_model.specs.Connection.{has_passed}
use Rattle.line_model.specs.declared.log.LogEntry.{LogEntry}
use Rattle.line_model.specs.Record.{Placed, entries}
use Rattle.line_model.specs.ChannelLost.{answer_wait}
use Rattle.line_model.specs.ClientView.{ClientChannel, channel}
use Rattle.line_model.specs.Closing as line
use Rattle.line_model.specs.LinkStory.{Story, newest_time}
use Rattle.line_model.specs.Leaves.{up_to_last, since_last, parting_of}
use Rattle.tunnel_link.specs.Rights.{WhereTold}
use Rattle.hub_work.specs.declared.closing.Closing.{Closing}
use Rattle.hub_core.specs.Closes.{capped, IsOver}
use Rattle.hub_core.specs.Promises.{HasParted}
use Rattle.hub_core.specs.Seen.{Seen}
use Rattle.hub_core.specs.Closed.{HasClosed, WaitsSince}
use Rattle.shared_hub.specs.Leaving.{IsAt, KnowsHowFar}

-- a hub's count of datagrams, which stands still at the end of its type, tells whether enough came
enough : (n : ℕ) → nat_le 64 (min n 4294967295) ≡ nat_le 64 n
enough n = grind (arith, nat_tests)

capped_over : (ch : ClientChannel) (s : line.Closing) (now : ℕ) → line.is_over ch (capped s) now ≡ line.is_over ch s now
capped_over ch (line.Listening since n) now = ap (λ (b : Bool). (has_passed line.listening_wait since now || b) && not (line.is_open ch)) (enough n)
capped_over ch (line.Leaving since n) now = ap (λ (b : Bool). (has_passed answer_wait since now || b) || not (line.is_open ch)) (enough n)

over_at : (c : Option Closing) (log : List LogEntry) (places : List Placed) → IsAt c log places → WaitsSince log places → IsOver c (entries places) → parting_of (entries places) ≡ None → HasClosed log places
over_at None log places at waits over parted = absurd over
over_at (Some c) log places at waits over parted =
    let s : line.Closing = line.closing (newest_time (entries (up_to_last log places))) (entries (since_last log places)) in
    record {
      over = sym (capped_over (channel (entries places)) s (newest_time (entries places)))
          ∙ subst (λ (z : line.Closing). line.is_over (channel (entries places)) z (newest_time (entries places)) ≡ true) at over;
      in_time = waits;
      parted = parted;
    }

pub over_closed : {L : Type 0} (hub : Seen L) (s : Story) → KnowsHowFar hub s → WhereTold (λ places. IsOver hub.closing (entries places)) s → HasParted s → WhereTold (HasClosed hub.log) s
over_closed hub s far over parted places e = over_at hub.closing hub.log places (far places e).0 (far places e).1 (over places e) (parted places e)
