use Rattle.std.proofs.Common.{None, get_or}
use Rattle.std.specs.Prelude.{slice_index_or}
use Rattle.std.proofs.lemmas.List.{get_or_default}
use Rattle.table_compiler.proofs.LinkLists.{no_line, first_to}
use Rattle.table_compiler.proofs.links.sending_groups.Goals as goal

pub loop-line-preserved : goal.loop-line-preserved
loop-line-preserved c =
    let lines = c.args.lines.now in
    let i = c.loop-line.line-index in
    let line = get_or lines i no_line in
    record {
      whole = c.keep_first.ensures.whole;
      each = λ n lt. first_to lines i n line (slice_index_or c.args.sends.now n None) (slice_index_or c.loop-line.sending n None) (slice_index_or c.keep_first.new.kept n None) c.loop-line-test.true
          (get_or_default lines i no_line line c.loop-line-test.true) (c.loop-line.invariant.each n lt) (c.keep_first.ensures.each n lt);
    }
