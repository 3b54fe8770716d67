-- What a run counts of the devices of its line and of connect requests, beside the counts of the events themselves.
use Rattle.std.specs.Prelude.{◌≡◌, ℕ, ◌%◌, ◌==◌, Bool, List, replicate, slice_index_or, slice_set, if◌then◌else◌}
use Rattle.line_model.specs.Counts.{frames_to, frames_from, frames_taken, writes, connects_reached}
use Rattle.network_sim.specs.Window.{capped}
use Rattle.tunnel_sim.specs.Gateways.{and_one}
use Rattle.line_model.specs.StartOf.{line_of}
use Rattle.line_model.specs.World.{World, Event}
use Rattle.bus_sim.specs.declared.counts.DeviceCounts.{DeviceCounts}
use Rattle.bus_sim.specs.declared.counts.Met.{Met}

pub record CountsNow : Type 0 where
  pub line : ℕ
  pub places : List DeviceCounts
  pub connects : ℕ

abbrev pub none_counted : DeviceCounts
none_counted = record { to = 0; from = 0; taken = 0; writes = 0 }

abbrev pub nothing_counted : ℕ → CountsNow
nothing_counted line = record { line = line; places = replicate 256 none_counted; connects = 0 }

abbrev pub counts_in : List DeviceCounts → ℕ → DeviceCounts
counts_in places part = slice_index_or places part none_counted

abbrev pub counts_at : CountsNow → ℕ → DeviceCounts
counts_at n address = if line_of address == n.line then counts_in n.places (address % 256) else none_counted

-- ---- one event more

-- a count stands still at the greatest number of 64 bits
abbrev pub and_if : Bool → ℕ → ℕ
and_if more n = capped (and_one more n)

abbrev pub and_met : Met → DeviceCounts → DeviceCounts
and_met m c = record { to = and_if m.to c.to; from = and_if m.from c.from; taken = and_if m.taken c.taken; writes = and_if m.wrote c.writes }

abbrev pub added : ℕ → Met → CountsNow → CountsNow
added address m n = if line_of address == n.line then record n { places = slice_set n.places (address % 256) (and_met m (counts_in n.places (address % 256))) } else n

abbrev pub connected : Bool → CountsNow → CountsNow
connected more n = record n { connects = and_if more n.connects }

-- ---- what is counted is what the events count

abbrev pub counts_of : World → List Event → ℕ → DeviceCounts
counts_of start events address = record {
  to = frames_to address start events;
  from = frames_from address start events;
  taken = frames_taken address start events;
  writes = writes address start events;
}

pub record AreCounts (n : CountsNow) (start : World) (events : List Event) : Type 0 where
  pub devices : (address : ℕ) → line_of address ≡ n.line → counts_at n address ≡ counts_of start events address
  pub connects : n.connects ≡ connects_reached start events
