use Rattle.std.proofs.Common.{refl}
use Rattle.knx_top.specs.commands.assign.{assign_words_of}
use Rattle.knx_top.proofs.Calls.Assigns.{given_dialled}
use Rattle.knx_top.proofs.commands.assign.call.Goals as goal

pub returns-in-Ok : goal.returns-in-Ok
returns-in-Ok g c = record {
  end = _;
  gives = given_dialled (assign_words_of c.args.names) _ _ _ _ _ c.give_over.result c.in-Ok.ensures.counts c.in-Ok.ensures.tells c.in-Ok.ensures.dials c.give_over.ensures.given c.give_over.ensures.dials c.give_over.ensures.tells;
  replied = refl;
}

pub returns-in-Err : goal.returns-in-Err
returns-in-Err g c = record {
  end = _;
  gives = record {
    given = c.in-Err.ensures.tells;
    once = c.in-Err.ensures.dials;
    counts = c.in-Err.ensures.counts;
    link_back = c.in-Err.ensures.link_stays;
    port_back = c.in-Err.ensures.port_stays;
  };
  replied = refl;
}
