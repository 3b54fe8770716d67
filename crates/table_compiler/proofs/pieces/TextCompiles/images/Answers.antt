use Rattle.std.proofs.Common.{◌≡◌, sym, subst, List}
use Rattle.knx_model.specs.declared.address.IndAddr.{IndAddr}
use Rattle.knx_model.specs.declared.project.Statement.{Statement}
use Rattle.table_compiler.specs.Drafts.{AreDrafts}
use Rattle.table_compiler.specs.declared.drafts.Draft.{Draft}
use Rattle.table_compiler.proofs.Compiled.{if_ok}
use Rattle.table_compiler.proofs.Zipped.{all_images, all_sound}
use Rattle.table_compiler.proofs.pieces.TextCompiles.images.Goals as goal

same : (devices : List IndAddr) (drafts drafts' : List Draft) (ss : List Statement) → drafts' ≡ drafts → AreDrafts devices drafts ss → AreDrafts devices drafts' ss
same devices drafts drafts' ss e are = subst (λ (ds : List Draft). AreDrafts devices ds ss) (sym e) are

pub compile_drafts-requires : goal.compile_drafts-requires
compile_drafts-requires c =
    record { sound = all_sound c.args.self.now.catalogue.now c.args.devices.now c.as_slice.result.now c.args.self.now.statements.now (same _ _ _ _ c.as_slice.ensures.value c.in_ok-drafts.ensures) c.requires.sound }

pub returns : goal.returns
returns c =
    let text = c.args.self.now in
    if_ok c.compile_drafts.result (λ images all. all_images text.catalogue.now c.args.devices.now c.as_slice.result.now images.items text.statements.now (same _ _ _ _ c.as_slice.ensures.value c.in_ok-drafts.ensures) c.requires.sound all) c.compile_drafts.ensures
