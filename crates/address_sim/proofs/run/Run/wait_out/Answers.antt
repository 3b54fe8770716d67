use Rattle.std.proofs.Common.{◌+◌, ◌-◌, ◌*◌, ◌≤◌, arith}
use Rattle.address_sim.specs.Turns.{IsQuiet, NothingComes, NothingDue, Gets, seen}
use Rattle.address_sim.proofs.Polling.{WaitsSo, ends_got, gets_one, same_stays, waits_same}
use Rattle.address_sim.proofs.Waiting.{carried, less_room, part_over, some_left, wait_over}
use Rattle.address_sim.proofs.run.Run.wait_out.Goals as goal

pub returns-then-left-eq0-clause-ended : goal.returns-then-left-eq0-clause-ended
returns-then-left-eq0-clause-ended c =
    wait_over c.args.self.now c.loop-left.self c.pass.new.self c.loop-left.left c.still_for-ms.result c.args.wait_ms c.loop-left.invariant.waits c.still_for-ms.ensures.few c.if-left-eq0.true c.pass.ensures.happens

pub expire-requires : goal.expire-requires
expire-requires c =
    let one : 1 ≤ c.still_for-ms.result = some_left c.loop-left.left c.still_for-ms.result c.still_for-ms.ensures.some c.if-left-eq0.false in
    c.pass.ensures.room 1 (less_room (3 * c.loop-left.left + 1) 2 c.loop-left.self (omega (arith, one, c.still_for-ms.ensures.few)) c.loop-left.invariant.room)

pub down-requires : goal.down-requires
down-requires c =
    let one : 1 ≤ c.still_for-ms.result = some_left c.loop-left.left c.still_for-ms.result c.still_for-ms.ensures.some c.if-left-eq0.false in
    c.expire.ensures.room 1 (c.pass.ensures.room 2 (less_room (3 * c.loop-left.left + 1) 3 c.loop-left.self (omega (arith, one, c.still_for-ms.ensures.few)) c.loop-left.invariant.room))

pub returns-in-Some-clause-ended : goal.returns-in-Some-clause-ended
returns-in-Some-clause-ended c =
    let one : 1 ≤ c.still_for-ms.result = some_left c.loop-left.left c.still_for-ms.result c.still_for-ms.ensures.some c.if-left-eq0.false in
    let gets : Gets c.in-Some.octets c.expire.new.self c.down.new.self = c.in-Some.ensures.got in
    let part : WaitsSo (seen c.args.self.now) (seen c.expire.new.self) (c.loop-left.left - c.still_for-ms.result) c.args.wait_ms
    = part_over c.args.self.now c.loop-left.self c.pass.new.self c.expire.new.self c.loop-left.left c.still_for-ms.result c.args.wait_ms c.expire.result c.loop-left.invariant.waits one c.still_for-ms.ensures.few c.pass.ensures.happens c.expire.ensures.did c.expire.ensures.none in
    ends_got c.in-Some.octets (seen c.args.self.now) (seen c.expire.new.self) (seen c.down.new.self) (c.loop-left.left - c.still_for-ms.result) c.args.wait_ms part (gets_one c.in-Some.octets c.expire.new.self c.down.new.self gets) gets.short

pub loop-left-preserved : goal.loop-left-preserved
loop-left-preserved c =
    let one : 1 ≤ c.still_for-ms.result = some_left c.loop-left.left c.still_for-ms.result c.still_for-ms.ensures.some c.if-left-eq0.false in
    let part : WaitsSo (seen c.args.self.now) (seen c.expire.new.self) (c.loop-left.left - c.still_for-ms.result) c.args.wait_ms
    = part_over c.args.self.now c.loop-left.self c.pass.new.self c.expire.new.self c.loop-left.left c.still_for-ms.result c.args.wait_ms c.expire.result c.loop-left.invariant.waits one c.still_for-ms.ensures.few c.pass.ensures.happens c.expire.ensures.did c.expire.ensures.none in
    let none = c.in_default.ensures.none in
    record {
      waits = waits_same (seen c.args.self.now) (seen c.expire.new.self) (seen c.down.new.self) (c.loop-left.left - c.still_for-ms.result) c.args.wait_ms part (same_stays (seen c.expire.new.self) (seen c.down.new.self) none.0);
      calm = record {
        quiet = carried IsQuiet c.expire.new.self c.down.new.self none.0 (c.expire.ensures.quiet (c.pass.ensures.quiet c.loop-left.invariant.calm.quiet));
        comes = carried NothingComes c.expire.new.self c.down.new.self none.0 none.1;
        due = carried NothingDue c.expire.new.self c.down.new.self none.0 c.expire.ensures.after;
      };
      room = c.down.ensures.room (3 * (c.loop-left.left - c.still_for-ms.result) + 1) (c.expire.ensures.room (3 * (c.loop-left.left - c.still_for-ms.result) + 1 + 1) (c.pass.ensures.room (3 * (c.loop-left.left - c.still_for-ms.result) + 1 + 1 + 1)
          (less_room (3 * c.loop-left.left + 1) (3 * (c.loop-left.left - c.still_for-ms.result) + 1 + 1 + 1 + 1) c.loop-left.self (omega (arith, one, c.still_for-ms.ensures.few)) c.loop-left.invariant.room)));
    }
