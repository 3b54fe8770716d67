use Rattle.std.proofs.Common.{◌≡◌, ◌<◌, ◌≤◌, ◌+◌, ℕ, Option, Some, sym, subst, ap, ◌∙◌, arith}
use Rattle.std.specs.Prelude.{IfSome}
use Rattle.tunnel_link.specs.Kept.{next_due}
use Rattle.tunnel_link.proofs.Deadlines.{WaitsUntil}
use Rattle.tunnel_link.proofs.PollKept.{listens_go, poll_keeps, poll_adds}
use Rattle.line_frames.proofs.Read.{has_tunnels}
use Rattle.tunnel_link.proofs.Faulted.{listens_of}
use Rattle.tunnel_link.proofs.Prompts.{none_within, poll_beats, poll_prompt, poll_tries, poll_within}
use Rattle.tunnel_link.proofs.AloneCalls.{poll_alone}
use Rattle.tunnel_link.proofs.Lasting.{poll_lasts}
use Rattle.line_model.specs.Waiting.{PollEnds}
use Rattle.line_model.proofs.Deadlines.{upto_deadline}
use Rattle.tunnel_link.proofs.tunnel.Tunnel.poll.Goals as goal

pub invariant_of-self : goal.invariant_of-self
invariant_of-self g c = poll_keeps _ _ _ _ _ _ (has_tunnels c.frames_are_read.ensures.datagrams) c.self.invariant c.in_ok-standing.ensures.stands c.listened.ensures.so

pub returns-clause-grows : goal.returns-clause-grows
returns-clause-grows g c = rw (← ap (λ v. v.link) c.self.view_is) (listens_go _ _ _ _ _ _ c.listened.ensures.so).on

pub returns-clause-adds : goal.returns-clause-adds
returns-clause-adds g c = rw (← ap (λ v. v.link) c.self.view_is) (poll_adds _ _ _ _ _ _ (has_tunnels c.frames_are_read.ensures.datagrams) c.self.invariant c.in_ok-standing.ensures.stands c.listened.ensures.so)

pub returns-clause-by_tunnel : goal.returns-clause-by_tunnel
returns-clause-by_tunnel g c = λ u. (listens_of _ _ _ _ _ _ c.in_ok-standing.ensures.stands c.listened.ensures.so)

pub returns-clause-prompt : goal.returns-clause-prompt
returns-clause-prompt g c =
    let same : (c.deadline.result ≡ next_due c.self.inside.known) = c.deadline.ensures.value ∙ ap (λ v. next_due v.known) (sym c.self.view_is) in
    let w : WaitsUntil (next_due c.self.inside.known) c.now-now.result (c.now-now.result + c.until-wait_ms.result) = record {
      in_time = subst (λ (d : Option ℕ). IfSome d (λ time. c.now-now.result < time → c.now-now.result + c.until-wait_ms.result ≤ time)) same (upto_deadline _ _ _ _ c.until-wait_ms.ensures);
      in_range = c.until-wait_ms.ensures.in_range;
    } in
    rw (← c.self.view_is) (λ ready. (poll_prompt _ c.until-wait_ms.result c.now-now.result _ _ _ _ (has_tunnels c.frames_are_read.ensures.datagrams) c.self.invariant c.in_ok-standing.ensures.stands c.listened.ensures.so c.now-now.ensures.told w (omega arith) ready))

pub returns-clause-beats : goal.returns-clause-beats
returns-clause-beats g c =
    let same : (c.deadline.result ≡ next_due c.self.inside.known) = c.deadline.ensures.value ∙ ap (λ v. next_due v.known) (sym c.self.view_is) in
    let w : WaitsUntil (next_due c.self.inside.known) c.now-now.result (c.now-now.result + c.until-wait_ms.result) = record {
      in_time = subst (λ (d : Option ℕ). IfSome d (λ time. c.now-now.result < time → c.now-now.result + c.until-wait_ms.result ≤ time)) same (upto_deadline _ _ _ _ c.until-wait_ms.ensures);
      in_range = c.until-wait_ms.ensures.in_range;
    } in
    rw (← c.self.view_is) (λ acted. (poll_beats _ c.until-wait_ms.result c.now-now.result _ _ _ _ (has_tunnels c.frames_are_read.ensures.datagrams) c.self.invariant c.in_ok-standing.ensures.stands c.listened.ensures.so c.now-now.ensures.told w acted))

pub returns-clause-tries : goal.returns-clause-tries
returns-clause-tries g c =
    let same : (c.deadline.result ≡ next_due c.self.inside.known) = c.deadline.ensures.value ∙ ap (λ v. next_due v.known) (sym c.self.view_is) in
    let w : WaitsUntil (next_due c.self.inside.known) c.now-now.result (c.now-now.result + c.until-wait_ms.result) = record {
      in_time = subst (λ (d : Option ℕ). IfSome d (λ time. c.now-now.result < time → c.now-now.result + c.until-wait_ms.result ≤ time)) same (upto_deadline _ _ _ _ c.until-wait_ms.ensures);
      in_range = c.until-wait_ms.ensures.in_range;
    } in
    rw (← c.self.view_is) (λ acted. (poll_tries _ c.until-wait_ms.result c.now-now.result _ _ _ _ (has_tunnels c.frames_are_read.ensures.datagrams) c.self.invariant c.in_ok-standing.ensures.stands c.listened.ensures.so c.now-now.ensures.told w acted))

pub returns-clause-within : goal.returns-clause-within
returns-clause-within g c = rw (← ap (λ v. v.link) c.self.view_is) (poll_within _ c.until-wait_ms.result c.now-now.result _ _ _ _ (has_tunnels c.frames_are_read.ensures.datagrams) c.self.invariant c.in_ok-standing.ensures.stands c.listened.ensures.so c.args.longest_ms (omega arith))

pub returns-clause-alone : goal.returns-clause-alone
returns-clause-alone g c = rw (← ap (λ v. v.link) c.self.view_is) (poll_alone _ _ _ _ _ _ (has_tunnels c.frames_are_read.ensures.datagrams) c.self.invariant c.in_ok-standing.ensures.stands c.listened.ensures.so)

pub returns-clause-lasts : goal.returns-clause-lasts
returns-clause-lasts g c =
    let same : (c.deadline.result ≡ next_due c.self.inside.known) = c.deadline.ensures.value ∙ ap (λ v. next_due v.known) (sym c.self.view_is) in
    rw (← c.self.view_is) (λ acted. (poll_lasts _ c.args.longest_ms c.until-wait_ms.result c.now-now.result _ _ _ _ c.self.invariant c.in_ok-standing.ensures.stands c.listened.ensures.so c.now-now.ensures.told (omega arith)
    (subst (λ (d : Option ℕ). IfSome d (λ time. c.now-now.result < time → c.now-now.result + c.until-wait_ms.result ≤ time)) same (upto_deadline _ _ _ _ c.until-wait_ms.ensures)) c.until-wait_ms.ensures.in_range
    (subst (λ (m : ℕ). PollEnds m (λ time. next_due c.self.inside.known ≡ Some time) c.now-now.result c.until-wait_ms.result) c.min.ensures (subst (λ (d : Option ℕ). PollEnds c.min.result (λ time. d ≡ Some time) c.now-now.result c.until-wait_ms.result) same c.until-wait_ms.ensures.as_long)) acted))

pub returns-in_err-standing-clause-within : goal.returns-in_err-standing-clause-within
returns-in_err-standing-clause-within g c = none_within c.args.longest_ms (g.L.Link.story c.args.self.now.link)
