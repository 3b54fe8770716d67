-- The last tests of `sim`, and what a run is begun with.
use Rattle.line_model.specs.Polled.{none_failed}
use Rattle.std.proofs.Common.{◌≡◌, ◌≢◌, true, false, List, Err, refl, ap, ◌∙◌, subst, sym}
use Rattle.std.specs.List.{list_all}
use Rattle.bus_sim.specs.Loaded.{BusNow}
use Rattle.call_words.specs.declared.stop.Stop.{Stop}
use Rattle.call_words.specs.declared.stop.Stop.TheVariants as stop
use Rattle.call_words.specs.declared.job_word.JobWord.{JobWord}
use Rattle.knx_model.specs.declared.script.ScriptLine.{ScriptLine}
use Rattle.knx_model.specs.Meaning.{Installation}
use Rattle.knx_top.specs.Begun.{BeginsLine, IsPrepared, OrderFor}
use Rattle.call_parts.specs.Judged.{unless_strange}
use Rattle.call_parts.specs.Stops.{is_known, unknown_job}
use Rattle.knx_top.specs.declared.commands.sim.judge.Order.{Order}
use Rattle.call_parts.specs.declared.options.SimOptions.{SimOptions}
use Rattle.knx_top.specs.commands.sim.{with_lines}

pub strange_ends : (o : SimOptions) (new old : Installation) (lines : List ScriptLine) (why : Stop) → (why ≢ stop.NoMemory tt → unless_strange new old lines ≡ Err why) → why ≢ stop.NoMemory tt → with_lines o new old lines ≡ Err why
strange_ends o new old lines why h w = rw (h w) refl

pub unknown_ends : (o : SimOptions) (new old : Installation) (lines : List ScriptLine) (named : List JobWord) (line : BusNow) → BeginsLine new old lines line.run → named ≡ o.jobs → list_all (is_known new) named ≡ false → with_lines o new old lines ≡ Err unknown_job
unknown_ends o new old lines named line begins are all =
    let these : list_all (is_known new) o.jobs ≡ false = subst (λ (jobs : List JobWord). list_all (is_known new) jobs ≡ false) are all in
    rw (begins.known, these) refl

pub ordered : (o : SimOptions) (new old : Installation) (lines : List ScriptLine) (named : List JobWord) (line : BusNow) (order : Order) → BeginsLine new old lines line.run → named ≡ o.jobs → list_all (is_known new) named ≡ true
    → line.faults ≡ none_failed → order.line ≡ line → IsPrepared new old lines named order → OrderFor (with_lines o new old lines) order
ordered o new old lines named line order begins are all sound is prepared =
    let these : list_all (is_known new) o.jobs ≡ true = subst (λ (jobs : List JobWord). list_all (is_known new) jobs ≡ true) are all in
    rw (begins.known, these) (record {
      line = subst (λ (l : BusNow). BeginsLine new old lines l.run) (sym is) begins;
      sound = ap (λ (l : BusNow). l.faults) is ∙ sound;
      prepared = subst (λ (jobs : List JobWord). IsPrepared new old lines jobs order) are prepared;
      workers = refl;
      turns = refl;
    })
