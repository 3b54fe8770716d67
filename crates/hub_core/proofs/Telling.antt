-- What a hub keeps of what its link tells is kept where the link goes on by right entries; and each entry of the record stays right where the log
-- tells one thing more.
use Rattle.std.proofs.Common.{◌≡◌, ℕ, ◌≤◌, List, [], ◌∷◌, ◌++◌, false, refl, sym, subst, arith}
use Rattle.std.specs.Prelude.{nat_lt}
use Rattle.line_model.specs.declared.group.GroupTurn.{GroupTurn}
use Rattle.line_model.specs.declared.log.LogEntry.{LogEntry}
use Rattle.line_model.specs.Record.{Placed}
use Rattle.line_model.specs.Log.{Job, IsLog, log_before}
use Rattle.line_model.specs.Asks.{EachRight}
use Rattle.line_model.specs.Haste.{HastenBy, LosesNoTimes, ActInOrder, GoOnRightly}
use Rattle.line_model.specs.LinkStory.{Clock, Exact, Running}
use Rattle.hub_work.proofs.Growing.{AreAbove, AreUpto, told_grown, before_new}
use Rattle.hub_core.proofs.AtRest.{rests_grown}
use Rattle.hub_core.proofs.Requests.{Each}
use Rattle.hub_core.specs.Discipline.{EachSo, Asks, Hastens, TellsAndAsks}

before_later : (at : ℕ) (e : LogEntry) (log : List LogEntry) → at ≤ e.at → log_before at log ≡ log_before at (e ∷ log)
before_later at e log le = let not : nat_lt e.at at ≡ false = grind (arith, le) in rw not refl

-- ---- of each entry of the record

-- a later entry of the log isn't before it
pub each_logged : (P : List LogEntry → List Placed → Placed → Type 0) (n : ℕ) (e : LogEntry) (log : List LogEntry) (places : List Placed) → AreUpto n places → n ≤ e.at → EachSo P log places → EachSo P (e ∷ log) places
each_logged P n e log [] u le h = tt
each_logged P n e log (p ∷ older) u le h =
    let at : p.at ≤ e.at = (let f = u.0 in omega (arith, f, le)) in
    (subst (λ (l : List LogEntry). P l older p) (before_later p.at e log at) h.0, each_logged P n e log older u.1 le h.1)

-- those that come after all entries of the log
pub each_added : (P : List LogEntry → List Placed → Placed → Type 0) (jobs : List Job) (turns : List GroupTurn) (n : ℕ) (log : List LogEntry) (added old : List Placed) → IsLog jobs turns n log → AreAbove n added → Each (P log) added old → EachSo P log old
    → EachSo P log (added ++ old)
each_added P jobs turns n log [] old is above right h = h
each_added P jobs turns n log (p ∷ added) old is above right h =
    (subst (λ (l : List LogEntry). P l (added ++ old) p) (sym (before_new jobs turns n p.at log is above.0)) right.0, each_added P jobs turns n log added old is above.1 right.1 h)

-- what is asked rightly, and promptly
pub each_right : (clock : Clock) (jobs : List Job) (turns : List GroupTurn) (log : List LogEntry) (places : List Placed) → EachSo (Asks jobs turns) log places → EachSo (Hastens clock jobs turns) log places → EachRight jobs turns log places
each_right clock jobs turns log [] asks hastens = tt
each_right clock jobs turns log (p ∷ older) asks hastens = (record { asks = asks.0.right; prompt = hastens.0.prompt }, each_right clock jobs turns log older asks.1 hastens.1)

-- without a loss of time, and only while there was no cause to end
loses_no_time : (jobs : List Job) (turns : List GroupTurn) (log : List LogEntry) (places : List Placed) → EachSo (Hastens Exact jobs turns) log places → LosesNoTimes jobs turns log places
loses_no_time jobs turns log [] hastens = tt
loses_no_time jobs turns log (p ∷ older) hastens = (hastens.0.loses_none, loses_no_time jobs turns log older hastens.1)

acts_in_order : (jobs : List Job) (turns : List GroupTurn) (log : List LogEntry) (places : List Placed) → EachSo (Hastens Running jobs turns) log places → ActInOrder jobs turns log places
acts_in_order jobs turns log [] hastens = tt
acts_in_order jobs turns log (p ∷ older) hastens = (hastens.0.loses_none, acts_in_order jobs turns log older hastens.1)

goes_on_rightly : (clock : Clock) (jobs : List Job) (turns : List GroupTurn) (log : List LogEntry) (places : List Placed) → EachSo (Hastens clock jobs turns) log places → GoOnRightly clock jobs log places
goes_on_rightly clock jobs turns log [] hastens = tt
goes_on_rightly clock jobs turns log (p ∷ older) hastens = (hastens.0.goes_on, goes_on_rightly clock jobs turns log older hastens.1)

pub all_hasten : (clock : Clock) (jobs : List Job) (turns : List GroupTurn) (log : List LogEntry) (places : List Placed) → EachSo (Hastens clock jobs turns) log places → HastenBy clock jobs turns log places
all_hasten Exact jobs turns log places hastens = (loses_no_time jobs turns log places hastens, goes_on_rightly Exact jobs turns log places hastens)
all_hasten Running jobs turns log places hastens = (acts_in_order jobs turns log places hastens, goes_on_rightly Running jobs turns log places hastens)

-- ---- all of it

more : (jobs : List Job) (turns : List GroupTurn) (n m : ℕ) (log : List LogEntry) → n ≤ m → IsLog jobs turns n log → IsLog jobs turns m log
more jobs turns n m [] le h = tt
more jobs turns n m (e ∷ log) le h = (record { so_far = (let f = h.0.so_far in omega (arith, f, le)); later = h.0.later; follows = h.0.follows }, more jobs turns n m log le h.1)

-- the link went on
pub goes_on : (jobs : List Job) (turns : List GroupTurn) (log : List LogEntry) (n m : ℕ) (added old : List Placed) → n ≤ m → AreAbove n added → Each (Asks jobs turns log) added old → TellsAndAsks jobs turns log n old
    → TellsAndAsks jobs turns log m (added ++ old)
goes_on jobs turns log n m added old le above right h = record {
  form = more jobs turns n m log le h.form;
  truly = told_grown jobs turns added old n log h.form above h.truly;
  rests = rests_grown jobs added old turns n log h.form above h.rests;
  asks = each_added (Asks jobs turns) jobs turns n log added old h.form above right h.asks;
}
