-- `big`: it refuses nothing, what its run comes to, and what is written of that.
use Rattle.std.proofs.Common.{◌≡◌, ◌≢◌, ◌⊎◌, [], None, Result, Ok, Err, refl, sym, ap, subst, inl, inr, ◌∙◌}
use Rattle.bus_sim.specs.Loaded.{BusNow}
use Rattle.call_words.specs.declared.stop.Stop.{Stop}
use Rattle.call_words.specs.declared.stop.Stop.TheVariants as stop
use Rattle.knx_gen.specs.Generated.{generated}
use Rattle.knx_model.specs.Counts.{counts_of}
use Rattle.knx_model.specs.LeastLine.{refused_from, said_from, text_reading}
use Rattle.knx_model.specs.Rules.{broken_from, first_broken}
use Rattle.knx_model.specs.ScriptText.{strangers}
use Rattle.knx_model.specs.declared.counts.Counts.{Counts}
use Rattle.call_parts.proofs.Ends.{report_wants}
use Rattle.knx_top.proofs.Calls.Sims.{run_wants}
use Rattle.knx_top.specs.Begun.{IsOrder, OrderFor}
use Rattle.call_parts.specs.Ending.{Is, report_in, wanting}
use Rattle.knx_top.specs.Ran.{Commission, Left}
use Rattle.knx_top.specs.commands.big.{BigWords, RunsMade, commission_made, judged_made, made, summed}
use Rattle.knx_top.specs.commands.sim.{Runs}
use Rattle.knx_top.specs.declared.commands.sim.judge.Order.{Order}
use Rattle.call_parts.specs.declared.ending.End.{End}
use Rattle.call_parts.specs.declared.ending.End.TheVariants as ends

-- ---- nothing is refused

pub judged_made_is : (words : BigWords) → first_broken [] (generated words.devices words.start) ≡ None → judged_made words ≡ Ok (commission_made words)
unfolding text_reading refused_from said_from broken_from strangers
judged_made_is words sound = rw sound refl

ordered_is : (j : Result Commission Stop) (c : Commission) (order : Order) → j ≡ Ok c → OrderFor j order → IsOrder c order
ordered_is j c order e o = subst (λ (q : Result Commission Stop). OrderFor q order) e o

pub order_made : (words : BigWords) (order : Order) → first_broken [] (generated words.devices words.start) ≡ None → OrderFor (judged_made words) order → IsOrder (commission_made words) order
order_made words order sound o = ordered_is (judged_made words) (commission_made words) order (judged_made_is words sound) o

one_answer : (j : Result Commission Stop) (c : Commission) (why : Stop) → j ≡ Ok c → j ≡ Err why → ⊥
one_answer j c why e f = absurd cc

only_memory : (why : Stop) → ¬ (why ≢ stop.NoMemory tt) → why ≡ stop.NoMemory tt
only_memory stop.Usage h = absurd (h (λ e. cc))
only_memory (stop.NotThere name) h = absurd (h (λ e. cc))
only_memory (stop.ReadFailed name) h = absurd (h (λ e. cc))
only_memory (stop.CatalogueRefused refused) h = absurd (h (λ e. cc))
only_memory (stop.Refused place refused) h = absurd (h (λ e. cc))
only_memory (stop.NoMemory want) h = refl

-- it stops for want of memory alone, and then no run was begun
pub stops_wanting : (words : BigWords) (why : Stop) (line : BusNow) → first_broken [] (generated words.devices words.start) ≡ None → (why ≢ stop.NoMemory tt → judged_made words ≡ Err why) → Runs (commission_made words) line line (ends.Stops why)
stops_wanting words why line sound h = (only_memory why (λ other. one_answer (judged_made words) (commission_made words) why (judged_made_is words sound) (h other)), refl)

-- ---- the whole of it

pub report_summed : (counts : Counts) (end : End) → report_in (summed counts end) ≡ report_in end
report_summed counts (ends.Stops told) = refl
report_summed counts (ends.Tells text) = refl
report_summed counts ends.NotOpened = refl
report_summed counts (ends.BreaksOff report want) = refl
report_summed counts (ends.Reports told) = refl
report_summed counts (ends.Sums told counted) = refl
report_summed counts (ends.Serves served) = refl
report_summed counts (ends.Finds searched) = refl
report_summed counts (ends.Assigns given) = refl

-- a run of which the sums are told
pub runs_made : (words : BigWords) (before : BusNow) (after : Left) (counts : Counts) (ran told : End) → counts ≡ counts_of (made words) → told ≡ summed counts ran → Runs (commission_made words) before after.line ran → after.report ≡ report_in told
    → RunsMade words before after (Is told)
runs_made words before after counts ran told are is runs report = record {
  end = ran;
  runs = runs;
  report = report ∙ (ap report_in is ∙ report_summed counts ran);
  replied = ap (λ (n : Counts). summed n ran) (sym are) ∙ sym is;
}

-- ---- what is written of it

wanting_summed : (counts : Counts) (end : End) → wanting (summed counts end) ≡ summed counts (wanting end)
wanting_summed counts (ends.Stops told) = refl
wanting_summed counts (ends.Tells text) = refl
wanting_summed counts ends.NotOpened = refl
wanting_summed counts (ends.BreaksOff report want) = refl
wanting_summed counts (ends.Reports told) = refl
wanting_summed counts (ends.Sums told counted) = refl
wanting_summed counts (ends.Serves served) = refl
wanting_summed counts (ends.Finds searched) = refl
wanting_summed counts (ends.Assigns given) = refl

pub made_written : (words : BigWords) (before : BusNow) (after : Left) (end : End) (Replied : End → Type 0) → RunsMade words before after (Is end) → Replied end ⊎ Replied (wanting end) → RunsMade words before after Replied
made_written words before after end Replied t (inl replied) = record {
  end = t.end;
  runs = t.runs;
  report = t.report;
  replied = subst Replied (sym t.replied) replied;
}
made_written words before after end Replied t (inr replied) = record {
  end = wanting t.end;
  runs = run_wants (commission_made words) before after.line t.end t.runs;
  report = t.report ∙ sym (report_wants t.end);
  replied = subst Replied (ap wanting (sym t.replied) ∙ wanting_summed _ t.end) replied;
}
