use Rattle.std.proofs.Common.{◌≡◌, ◌<◌, ◌≤◌, ◌+◌, ◌++◌, ◌∷◌, [], List, length, take, ap, sym, subst, ◌∙◌}
use Rattle.std.specs.List.{AllZip}
use Rattle.std.proofs.lemmas.List.{take_more, take_all}
use Rattle.rayon.proofs.ListFacts.{AllZip-append}
use Rattle.table_compiler.specs.Images.{IsImageOfDraft}
use Rattle.table_compiler.specs.declared.drafts.Draft.{Draft}
use Rattle.table_compiler.proofs.pieces.compile_drafts.Goals as goal

pub loop-draft-init : goal.loop-draft-init
loop-draft-init c = rw c.in_ok-images.ensures.items tt

pub loop-draft-preserved : goal.loop-draft-preserved
loop-draft-preserved c =
    let drafts = c.args.drafts.now in
    let i = c.loop-draft.draft-index in
    let draft = c.draft-item.result in
    let lt : i < length drafts = c.loop-draft-test.true in
    let more : take (i + 1) drafts ≡ take i drafts ++ draft ∷ [] = take_more drafts i draft lt ∙ ap (λ (x : Draft). take i drafts ++ x ∷ []) (sym c.draft-item.is) in
    rw (c.in_ok-push.ensures.items, more) (AllZip-append (IsImageOfDraft c.args.catalogue.now) (take i drafts) (draft ∷ []) c.loop-draft.images.items (c.in_ok-image.image ∷ []) c.loop-draft.invariant (c.in_ok-image.ensures, tt))

pub returns : goal.returns
returns c =
    let drafts = c.args.drafts.now in
    let le : length drafts ≤ c.loop-draft.draft-index = c.loop-draft-test.false in
    subst (λ (xs : List Draft). AllZip (IsImageOfDraft c.args.catalogue.now) xs c.loop-draft.images.items) (take_all c.loop-draft.draft-index drafts le) c.loop-draft.invariant
