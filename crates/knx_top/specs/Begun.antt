-- What a run is begun with in the code, and the commission of the definitions that it stands for.
use Rattle.std.specs.Prelude.{◌≡◌, ℕ, ◌≤◌, true, List, [], length, map, None, Result, Ok, Err}
use Rattle.std.specs.List.{AllByRecursion}
use Rattle.bus_sim.specs.declared.clients.Clients.TheVariants.{One}
use Rattle.bus_sim.specs.RunNow.{RunNow, script, start}
use Rattle.call_words.specs.declared.stop.Stop.{Stop}
use Rattle.call_words.specs.declared.job_word.JobWord.{JobWord}
use Rattle.knx_model.specs.declared.script.ScriptLine.{ScriptLine}
use Rattle.knx_model.specs.Acts.{IsInRange}
use Rattle.knx_model.specs.Meaning.{Installation, meaning}
use Rattle.knx_model.specs.Rules.{has_device}
use Rattle.knx_model.specs.ScriptText.{first_stranger}
use Rattle.hub_work.specs.Requests.{IsTurnInRange}
use Rattle.line_model.specs.Lines.{script_of}
use Rattle.line_model.specs.Headline.{IsGoodJob}
use Rattle.line_model.specs.Polled.{none_failed}
use Rattle.line_model.specs.StartOf.{BusOf, is_on_bus, nothing_kept}
use Rattle.call_parts.specs.Jobs.{AreJobs, ArePlanned, seen_job}
use Rattle.call_parts.specs.OnLine.{AreCompiled, on_bus}
use Rattle.call_parts.specs.Options.{workers_of}
use Rattle.call_parts.specs.OptionValues.{most_jobs}
use Rattle.call_parts.specs.Turns.{most_turns, turns_of}
use Rattle.knx_top.specs.Ran.{Commission}
use Rattle.knx_top.specs.declared.commands.sim.judge.Order.{Order}

-- what the old project says of each device on the bus that it has is of two octets
abbrev pub IsOldInRange : Installation → Installation → Type 0
IsOldInRange new old = (device : ℕ) → is_on_bus new old device ≡ true → has_device old.statements device ≡ true → IsInRange (meaning old (record { raw = device }))

-- a line as a run of these projects and this script begins, of one client, to which nothing was done
pub record BeginsLine (new old : Installation) (lines : List ScriptLine) (r : RunNow) : Type 0 where
  pub begins : BusOf new old (script_of lines) nothing_kept (start r)
  pub says : script r ≡ script_of lines
  pub one : r.begun.clients ≡ One
  pub nothing : r.events ≡ []
  pub known : first_stranger (on_bus new old) lines ≡ None
  pub in_range : IsOldInRange new old

-- the jobs, the group telegrams and the devices of a run, by the jobs that words name and the lines of the script
pub record IsPrepared (new old : Installation) (lines : List ScriptLine) (named : List JobWord) (order : Order) : Type 0 where
  pub jobs : AreJobs named new order.jobs
  pub few : length order.plans ≤ most_jobs
  pub plans : ArePlanned new (map seen_job order.plans) order.jobs
  pub good : AllByRecursion IsGoodJob (map seen_job order.plans)
  pub turns : order.turns ≡ turns_of lines
  pub few_turns : length order.turns ≤ most_turns
  pub sendable : AllByRecursion IsTurnInRange order.turns
  pub devices : AreCompiled new order.devices (on_bus new old)

pub record IsOrder (c : Commission) (order : Order) : Type 0 where
  pub line : BeginsLine c.project c.before c.script order.line.run
  -- no call of the line has failed
  pub sound : order.line.faults ≡ none_failed
  pub prepared : IsPrepared c.project c.before c.script c.options.jobs order
  -- the workers of its words drive it, and the group telegrams of its script are sent
  pub workers : c.workers ≡ workers_of c.options
  pub turns : c.turns ≡ turns_of c.script

-- what was judged was compiled, and a line with its devices has begun
abbrev pub OrderFor : Result Commission Stop → Order → Type 0
OrderFor (Ok c) order = IsOrder c order
OrderFor (Err why) order = ⊥
