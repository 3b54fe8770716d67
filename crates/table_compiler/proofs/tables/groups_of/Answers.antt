use Rattle.std.proofs.Common.{◌≡◌, IfOk, map, rules, tests}
use Rattle.std.proofs.lemmas.Iterator.{items_from_collect, YieldsList-from_slice, YieldsList-from_map}
use Rattle.std.proofs.lemmas.List.Filters.{dedup_is}
use Rattle.std.proofs.lemmas.List.Kept.{Contains-dedup_nat, Contains-from_dedup}
use Rattle.std.proofs.lemmas.List.Sorted.{Contains-permutation, IsPermutation-sym}
use Rattle.std.proofs.lemmas.Map.Keys.{IsStrictlyIncreasing-dedup}
use Rattle.knx_model.specs.Tables.{raw_of}
use Rattle.table_compiler.proofs.tables.groups_of.Goals as goal

pub returns-clause-ascending : goal.returns-clause-ascending
returns-clause-ascending c = rw (dedup_is _ _ _ c.dedup.ensures.filtered) (IsStrictlyIncreasing-dedup _ c.sort_unstable.ensures.sorted)

-- the groups of all links
collected : (c : goal.After-dedup) → c.in_ok-groups.groups.items ≡ map raw_of c.args.links.now
collected c =
    let all : IfOk c.collect.result (λ v. v.items ≡ map raw_of c.args.links.now) = items_from_collect _ c.collect.ensures.ran (YieldsList-from_map _ raw_of (YieldsList-from_slice c.args.links.now cc) c.map.ensures.closure (λ x r q k. search (rules, tests))) in
    rw c.in_ok-groups.was at all

pub returns-clause-exactly : goal.returns-clause-exactly
returns-clause-exactly c = λ g.
    let is = dedup_is _ _ _ c.dedup.ensures.filtered in
    let moved = c.sort_unstable.ensures.permutation in
    rw (← collected c) (
      λ h. Contains-permutation _ _ g (IsPermutation-sym _ _ moved) (Contains-from_dedup _ _ g (rw is at h)),
      λ h. rw is (Contains-dedup_nat _ g (Contains-permutation _ _ g moved h)),
    )
