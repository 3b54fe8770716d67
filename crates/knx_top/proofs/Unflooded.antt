-- A run that nothing disturbs and whose group telegrams ask for no values isn't flooded: its jobs and its telegrams bring fewer datagrams.
use Rattle.std.proofs.Common.{ℕ, ◌≤◌, List, [], ◌∷◌, length, sym, ap, subst, ◌∙◌, arith}
use Rattle.bus_sim.specs.RunNow.{RunNow, start}
use Rattle.call_words.specs.declared.job_word.JobKind.{JobKind}
use Rattle.call_words.specs.declared.job_word.JobKind.TheVariants.{Load, Check}
use Rattle.call_words.specs.declared.job_word.JobWord.{JobWord}
use Rattle.calm_law.specs.CalmCounts.{AllCost, ComeForWrites, CostsAtMost, check_cost, load_cost}
use Rattle.calm_law.proofs.Numbered.{each_of}
use Rattle.knx_model.specs.declared.config.Image.{Image}
use Rattle.knx_model.specs.LoadPlan.{check_plan, load_plan}
use Rattle.knx_model.specs.Meaning.{Installation, meaning}
use Rattle.knx_model.specs.Plans.{Plan, Over, Asks}
use Rattle.line_model.specs.declared.log.LogEntry.{LogEntry}
use Rattle.line_model.specs.declared.group.GroupTurn.{GroupTurn}
use Rattle.line_model.specs.Faults.{IsFlooded}
use Rattle.line_model.specs.Leaves.{LeavesRightly, StaysOpen}
use Rattle.line_model.specs.Log.{Job}
use Rattle.line_model.specs.Record.{placed, record_of}
use Rattle.line_model.proofs.Entries.{entries_placed}
use Rattle.table_compiler.proofs.Lengths.{length-object_list}
use Rattle.table_compiler.specs.Images.{IsImage}
use Rattle.call_parts.specs.Jobs.{ArePlanned, IsPlanned, plan_of}
use Rattle.call_parts.specs.OptionValues.{most_jobs}
use Rattle.call_parts.specs.Turns.{most_turns}
use Rattle.std.specs.List.{AllByRecursion}

-- ---- what a job brings at most

abbrev pub LoadsCost : Type 0
LoadsCost = (image : Image) → CostsAtMost (load_plan image) (load_cost image)

abbrev pub ChecksCost : Type 0
ChecksCost = (image : Image) → CostsAtMost (check_plan image) (check_cost image)

-- the plan of the longest image
abbrev most : ℕ
most = 15897

costs_less : (plan : Plan) (n m : ℕ) → n ≤ m → CostsAtMost plan n → CostsAtMost plan m
costs_less Over n m le h = tt
costs_less (Asks place apdu expect next) n m le h = (let within = h.1 in (h.0, omega (arith, within, le), h.2))

few_objects : (project : Installation) (job : Job) (word : JobWord) → IsPlanned project job word → length job.image.objs ≤ 512
few_objects project job word p =
    let is : IsImage project word.device job.image = p.image in
    let long = ap (λ (octets : List ℕ). length octets) is.stands.objects ∙ length-object_list (meaning project word.device).objects in
    let few = is.few_objects in
    omega (arith, long, few)

module _ (loads : LoadsCost) (checks : ChecksCost) where
  by_kind : (project : Installation) (job : Job) (word : JobWord) (kind : JobKind) → IsPlanned project job word → CostsAtMost (plan_of kind job.image) most
  by_kind project job word Load p =
      let f = p.image.fits in
      let a = f.addr in
      let b = f.assoc in
      let c = few_objects project job word p in
      let d = f.params in
      costs_less (load_plan job.image) (load_cost job.image) most (omega (arith, a, b, c, d)) (loads job.image)
  by_kind project job word Check p =
      let f = p.image.fits in
      let a = f.addr in
      let b = f.assoc in
      let c = few_objects project job word p in
      let d = f.params in
      costs_less (check_plan job.image) (check_cost job.image) most (omega (arith, a, b, c, d)) (checks job.image)

  each_costs : (project : Installation) (jobs : List Job) (words : List JobWord) → ArePlanned project jobs words → AllByRecursion (λ (job : Job). CostsAtMost job.plan most) jobs
  each_costs project [] [] h = tt
  each_costs project [] (w ∷ ws) h = absurd h
  each_costs project (j ∷ js) [] h = absurd h
  each_costs project (j ∷ js) (w ∷ ws) h = (subst (λ (plan : Plan). CostsAtMost plan most) (sym h.0.plan) (by_kind project j w w.kind h.0), each_costs project js ws h.1)

-- ---- all of them

module _ (project : Installation) (jobs : List Job) (words : List JobWord) (turns : List GroupTurn) (r : RunNow) (log : List LogEntry) (planned : ArePlanned project jobs words) (few_jobs : length jobs ≤ most_jobs) (few_turns : length turns ≤ most_turns) (leaves : LeavesRightly jobs turns log (placed (start r) r.events)) where
  -- while a job has no end, the channel isn't asked to end
  stays : IsFlooded jobs log (record_of (start r) r.events) → StaysOpen (record_of (start r) r.events)
  stays flooded = subst StaysOpen (entries_placed (start r) r.events) (leaves.unfinished (λ finished. flooded.early.2 (finished.jobs_over flooded.early.0 flooded.early.1)))

  pub unflooded : LoadsCost → ChecksCost → ComeForWrites jobs turns (record_of (start r) r.events) → IsFlooded jobs log (record_of (start r) r.events) → ⊥
  unflooded loads checks come flooded =
      let costs : AllCost jobs most = λ k job is. each_of (λ (j : Job). CostsAtMost j.plan most) jobs (each_costs loads checks project jobs words planned) k job is in
      let few = come most costs (stays flooded) in
      let all = flooded.count in
      omega (arith, few, all, few_jobs, few_turns)
