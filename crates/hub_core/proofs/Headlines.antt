-- What the type of a hub keeps is the headline's, and its fault has its cause.
use Rattle.std.proofs.Common.{◌≡◌, ℕ, Bool, List, [], ◌∷◌, length, Option, Some, None, refl, subst}
use Rattle.std.specs.List.{AllByRecursion}
use Rattle.line_model.specs.declared.fault.HubFault.{HubFault}
use Rattle.line_model.specs.declared.fault.HubFault.TheVariants.{NoMemory, LinkFailed, GatewayRefused, Flooded, WrongLine}
use Rattle.line_model.specs.declared.group.GroupTurn.{GroupTurn}
use Rattle.line_model.specs.declared.log.LogEntry.{LogEntry}
use Rattle.line_model.specs.Record.{Entry, Placed, entries, placed, counted}
use Rattle.line_model.specs.LinkStory.{Story, Untold, Recorded, Full, Exact, clock_of, record_in}
use Rattle.line_model.specs.Log.{Job, OneDownloaderPerDevice}
use Rattle.line_model.specs.Dropped.{dropped}
use Rattle.line_model.specs.Faults.{tries, FaultRight}
use Rattle.line_model.specs.Headline.{Keeps, IsGoodJob}
use Rattle.line_model.proofs.Entries.{entries_placed, entries_counted}
use Rattle.line_law.specs.Safe.{EachAsked, IsSafe, EverySafeInterleaving}
use Rattle.hub_core.specs.Discipline.{EachSo, Asks, Hastens, TellsAndAsks}
use Rattle.tunnel_link.specs.declared.known.Known.{Known}
use Rattle.tunnel_link.specs.Adds.{place_of}
use Rattle.tunnel_link.specs.Goes as tunnel
use Rattle.tunnel_link.specs.Rights.{WhereTold, FitsFault, IsKept, KeepsRecord, at_most_64_bits}
use Rattle.hub_work.specs.declared.work.Work.{Work}
use Rattle.hub_core.specs.Keeps.{KeepsTold}
use Rattle.hub_core.specs.Promises.{DropsIn, FaultRightIn, IsRightOver, IsSafeOver, TellsIn}
use Rattle.hub_core.proofs.Disciplines.{disciplined}

-- ---- the discipline

pub headline : (jobs : List Job) (turns : List GroupTurn) (log : List LogEntry) (story : Story) (k : Known) → OneDownloaderPerDevice jobs log → TellsIn jobs turns log story → KeepsRecord k story → tunnel.Keeps story → WhereTold (EachSo (Hastens (clock_of story) jobs turns) log) story → Keeps jobs turns story log
headline jobs turns log Untold k alone tells kept legal hastens = tt
headline jobs turns log (Recorded clock r) k alone tells kept legal hastens =
    let right = (kept (counted r) refl).right in
    disciplined clock jobs turns (length r) (counted r) log (entries (counted r)) refl (tells (counted r) refl) (hastens (counted r) refl) alone right.renews right.sends right.writes right.acknowledges
headline jobs turns log (Full start events) k alone tells kept legal hastens =
    let right = (kept (placed start events) refl).right in
    record {
      fresh = legal.fresh;
      legal = legal.legal;
      disciplined = disciplined Exact jobs turns (length events) (placed start events) log (entries (placed start events)) refl (tells (placed start events) refl) (hastens (placed start events) refl) alone right.renews right.sends right.writes right.acknowledges;
    }

-- ---- and what the line's law asks of it, without promptness

each_asked : (jobs : List Job) (turns : List GroupTurn) (log : List LogEntry) (places : List Placed) → EachSo (Asks jobs turns) log places → EachAsked jobs turns log places
each_asked jobs turns log [] h = tt
each_asked jobs turns log (p ∷ older) h = (h.0.right, each_asked jobs turns log older h.1)

safe_of : (jobs : List Job) (turns : List GroupTurn) (log : List LogEntry) (k : Known) (n : ℕ) (places : List Placed) → OneDownloaderPerDevice jobs log → TellsAndAsks jobs turns log n places → IsKept k (entries places) → IsSafe jobs turns n places log
safe_of jobs turns log k n places alone told kept = record {
  form = told.form;
  alone = alone;
  truly = told.truly;
  renews = kept.right.renews;
  sends = kept.right.sends;
  asks = each_asked jobs turns log places told.asks;
}

pub safe_over : (jobs : List Job) (turns : List GroupTurn) (log : List LogEntry) (story : Story) (k : Known) → OneDownloaderPerDevice jobs log → TellsIn jobs turns log story → KeepsRecord k story → tunnel.Keeps story → IsSafeOver jobs turns story log
safe_over jobs turns log Untold k alone tells kept legal = tt
safe_over jobs turns log (Recorded clock r) k alone tells kept legal = safe_of jobs turns log k (length r) (counted r) alone (tells (counted r) refl) (kept (counted r) refl)
safe_over jobs turns log (Full start events) k alone tells kept legal = record {
  fresh = legal.fresh;
  legal = legal.legal;
  safe = safe_of jobs turns log k (length events) (placed start events) alone (tells (placed start events) refl) (kept (placed start events) refl);
}

pub right_over : (jobs : List Job) (turns : List GroupTurn) (log : List LogEntry) (story : Story) → EverySafeInterleaving → AllByRecursion IsGoodJob jobs → IsSafeOver jobs turns story log → IsRightOver jobs story log
right_over jobs turns log Untold law good safe = tt
right_over jobs turns log (Recorded clock r) law good safe = tt
right_over jobs turns log (Full start events) law good safe = law jobs turns start events log good safe

-- ---- the fault

module _ (jobs : List Job) (w : Work) (met : Bool) (k : Known) (n : ℕ) (places : List Placed) (told : KeepsTold jobs w met k.fault n places) (kept : IsKept k (entries places)) where
  by_fault : (o : Option HubFault) → k.fault ≡ o → FaultRight jobs w.journal.entries (entries places) o
  by_fault None e = record { tries_left = (kept.fits e).few; no_flood = (told.runs e).no_flood; right_line = (told.runs e).right_line }
  by_fault (Some (NoMemory want)) e = tt
  by_fault (Some LinkFailed) e = tt
  by_fault (Some (GatewayRefused three)) e = subst (λ (o : Option HubFault). FitsFault o (tries (entries places))) e kept.right.fault
  by_fault (Some Flooded) e = told.cause Flooded e
  by_fault (Some (WrongLine device tunnel)) e = told.cause (WrongLine device tunnel) e

  fault_right : FaultRight jobs w.journal.entries (entries places) k.fault
  fault_right = by_fault k.fault refl

pub fault_in : (jobs : List Job) (w : Work) (met : Bool) (k : Known) (story : Story) → WhereTold (KeepsTold jobs w met k.fault (place_of story)) story → KeepsRecord k story → FaultRightIn jobs w.journal.entries k.fault (record_in story)
fault_in jobs w met k Untold told kept = tt
fault_in jobs w met k (Recorded clock r) told kept =
    subst (λ (x : List Entry). FaultRight jobs w.journal.entries x k.fault) (entries_counted r) (fault_right jobs w met k (length r) (counted r) (told (counted r) refl) (kept (counted r) refl))
fault_in jobs w met k (Full start events) told kept =
    subst (λ (x : List Entry). FaultRight jobs w.journal.entries x k.fault) (entries_placed start events) (fault_right jobs w met k (length events) (placed start events) (told (placed start events) refl) (kept (placed start events) refl))

-- ---- what was dropped

pub dropped_in : (k : Known) (story : Story) → KeepsRecord k story → DropsIn k.dropped (record_in story)
dropped_in k Untold kept = tt
dropped_in k (Recorded clock r) kept = subst (λ (x : List Entry). k.dropped ≡ at_most_64_bits (dropped x)) (entries_counted r) (kept (counted r) refl).right.drops
dropped_in k (Full start events) kept = subst (λ (x : List Entry). k.dropped ≡ at_most_64_bits (dropped x)) (entries_placed start events) (kept (placed start events) refl).right.drops
