use Rattle.std.proofs.Common.{ℕ, get_or, ap, subst, rules, arith, nat_cmp}
use Rattle.std.specs.BTreeMap.{get, is_at}
use Rattle.std.specs.Map.{lookup}
use Rattle.device_reservation.proofs.Chained.{Chained, none_chained, one_more, all_chained, raw_at, may_link, another_key}
use Rattle.device_reservation.proofs.chains.Chains.of.Goals as goal

pub loop-index-init : goal.loop-index-init
loop-index-init c =
    none_chained c.args.devices.now _ _ _ (c.in_ok-from_elem.ensures.items_if_clones_equal (λ y. search rules)) (omega (arith, c.in_ok-none.ensures.room)) c.in_ok-none.ensures.empty (λ q. ap (λ entries. lookup (is_at (nat_cmp q)) entries) c.new-last.ensures.empty)

pub link-requires-clause-behind : goal.link-requires-clause-behind
link-requires-clause-behind c =
    may_link c.args.devices.now c.loop-index.index (get_or c.args.devices.now c.loop-index.index (record { raw = 0 })).raw _ _ _ c.in_ok-before.before c.loop-index.invariant c.in_ok-before.ensures.old

pub link-requires-clause-room : goal.link-requires-clause-room
link-requires-clause-room c = omega (arith, c.loop-index.invariant.room)

pub loop-index-preserved : goal.loop-index-preserved
loop-index-preserved c =
    let device : ℕ = (get_or c.args.devices.now c.loop-index.index (record { raw = 0 })).raw in
    one_more c.args.devices.now c.loop-index.index device c.in_ok-before.before _ _ _ _ (λ q. get nat_cmp c.loop-index.last q) (λ q. get nat_cmp c.insert.new.self q) c.loop-index.invariant (raw_at c.args.devices.now c.loop-index.index (omega arith))
    c.in_ok-before.ensures.old c.link.ensures.next c.link.ensures.limit c.link.ensures.first c.in_ok-before.ensures.updates.1 (λ r apart. c.in_ok-before.ensures.updates.2 r (another_key device r apart))

pub returns-clause-next : goal.returns-clause-next
returns-clause-next c =
    let P : ℕ → Type 0 = λ n. Chained c.args.devices.now n c.loop-index.chains.next.items c.loop-index.chains.first (λ q. get nat_cmp c.loop-index.last q) in
    all_chained c.args.devices.now _ _ (λ q. get nat_cmp c.loop-index.last q) (subst P (omega arith) c.loop-index.invariant)

pub returns-clause-room : goal.returns-clause-room
returns-clause-room c = c.loop-index.invariant.room

pub returns-clause-first_are : goal.returns-clause-first_are
returns-clause-first_are c = λ job h. (c.loop-index.invariant.first_is job h).0

pub returns-clause-are_first : goal.returns-clause-are_first
returns-clause-are_first c = λ job f. c.loop-index.invariant.is_first job f (omega (arith, f.within))
