use Rattle.std.proofs.Common.{◌≡◌, ℕ, ◌<◌, All, Option, None, take}
use Rattle.std.specs.Prelude.{slice_index_or}
use Rattle.knx_model.specs.declared.address.GroupAddr.{GroupAddr}
use Rattle.knx_model.specs.Meaning.{links_of}
use Rattle.table_compiler.specs.Order.{IsLink}
use Rattle.table_compiler.proofs.links.links_of.Given as goal

abbrev pub invariant-loop-line : goal.invariant-loop-line
invariant-loop-line l = record {
  made : (last : ℕ → Option GroupAddr) → ((n : ℕ) → n < 256 → slice_index_or l.sends n None ≡ last n) → l.links.items ≡ take l.line-index (links_of last l.lines);
  small : All IsLink l.links.items;
}
