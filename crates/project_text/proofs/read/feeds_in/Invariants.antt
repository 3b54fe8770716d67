use Rattle.std.proofs.Common.{◌≡◌, take}
use Rattle.std.specs.List.{count_by}
use Rattle.knx_model.specs.Words.{is_feed}
use Rattle.project_text.proofs.read.feeds_in.Given as goal

abbrev pub invariant-loop-octet : goal.invariant-loop-octet
invariant-loop-octet l = l.feeds ≡ count_by is_feed (take l.octet-index l.octets)
