-- The sorts of blocks that are read.
use Rattle.std.specs.Prelude.{Bool}
use Rattle.discovery.specs.declared.blocks.sort.Sort.{Sort}
use Rattle.discovery.specs.declared.blocks.sort.Sort.TheVariants.{Information, Families}
use Rattle.discovery.specs.Discovery.{Block, is_information, is_families}

abbrev pub sort_of : Sort → Block → Bool
sort_of Information block = is_information block
sort_of Families block = is_families block
