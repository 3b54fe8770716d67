use Rattle.std.specs.List.{AllZip}
use Rattle.std.proofs.lemmas.Result.{IfOk-at_ok}
use Rattle.rayon.proofs.ListFacts.{AllZip-append}
use Rattle.table_compiler.specs.Images.{IsImage}
use Rattle.table_compiler.proofs.pieces.+halves.Goals as goal

pub returns : goal.returns
returns g t c =
    let project = g.C.Compiles.project c.args.compiler.now in
    let front = c.halves.result.0.now in
    let back = c.halves.result.1.now in
    let images = IfOk-at_ok (λ images. AllZip (IsImage project) front images.items) {r = c.join-images.result.0} c.in_ok-all.was c.join-images.ensures.first in
    let later = IfOk-at_ok (λ images. AllZip (IsImage project) back images.items) {r = c.join-images.result.1} c.in_ok-more.was c.join-images.ensures.second in
    rw (c.in_ok-append.ensures.items, c.halves.ensures.all) (AllZip-append (IsImage project) front back c.in_ok-all.all.items c.in_ok-more.more.items images later)
