-- A run is done exactly where it ended without a fault and its log tells done of each job.
use Rattle.std.proofs.Common.{◌≡◌, Bool, true, false, ◌||◌, List, [], ◌∷◌, reverse, Option, Some, None, if◌then◌else◌, refl, sym, ◌∙◌, ap}
use Rattle.std.specs.List.{list_any}
use Rattle.std.proofs.lemmas.List.Folds.{list_any-append}
use Rattle.call_words.specs.declared.status.Status.TheVariants as status
use Rattle.line_model.specs.declared.fault.HubFault.{HubFault}
use Rattle.line_model.specs.declared.fault.HubFault.TheVariants as fault
use Rattle.line_model.specs.declared.log.LogEntry.{LogEntry}
use Rattle.report_text.specs.LineStatus.{has_failure, is_failure, is_done, fault_status, status_of, EachDone, DoneExactly}
use Rattle.report_text.proofs.Ends.{done_where_over, failure}
use mathlib.Core.List.{reverse-cons}

last : (a b : Bool) → (a || (b || false)) ≡ (b || a)
last true true = refl
last true false = refl
last false true = refl
last false false = refl

-- in either order of the log
any_reversed : {X : Type 0} (p : X → Bool) (xs : List X) → list_any p (reverse xs) ≡ list_any p xs
any_reversed p [] = refl
any_reversed p (x ∷ xs) =
    ap (list_any p) (reverse-cons x xs) ∙ (list_any-append p (reverse xs) (x ∷ []) ∙ (last (list_any p (reverse xs)) (p x) ∙ ap (λ (b : Bool). p x || b) (any_reversed p xs)))

-- a fault's status is another
faulty : (why : HubFault) → fault_status why ≡ status.Done → ⊥
faulty (fault.NoMemory want) e = let z : status.NoMemory want ≡ status.Done = e in cc
faulty fault.LinkFailed e = let z : status.Link ≡ status.Done = e in cc
faulty (fault.GatewayRefused tries) e = let z : status.GatewayRefused ≡ status.Done = e in cc
faulty fault.Flooded e = let z : status.Flooded ≡ status.Done = e in cc
faulty (fault.WrongLine device tunnel) e = let z : status.WrongLine ≡ status.Done = e in cc

fine_where_done : (why : Option HubFault) (log : List LogEntry) → status_of why log ≡ status.Done → (why ≡ None) × (has_failure log ≡ false)
fine_where_done (Some why) log e = absurd (faulty why e)
fine_where_done None log e = (refl, by_log (has_failure log) refl)
  where
    by_log : (b : Bool) → has_failure log ≡ b → has_failure log ≡ false
    by_log true f = absurd (let z : status.SomeFailed ≡ status.Done = sym (let y : (if has_failure log then status.SomeFailed else status.Done) ≡ status.SomeFailed = rw f refl in y) ∙ e in cc)
    by_log false f = f

done_where_fine : (why : Option HubFault) (log : List LogEntry) → why ≡ None → has_failure log ≡ false → status_of why log ≡ status.Done
done_where_fine why log e f = rw e (rw f refl)

pub done_exactly : DoneExactly
done_exactly jobs turns count log report is form over = (there, back)
  where
    any_in : (p : LogEntry → Bool) → list_any p report.log ≡ list_any p log
    any_in p = ap (list_any p) is ∙ any_reversed p log

    there : status_of report.fault report.log ≡ status.Done → (report.fault ≡ None) × EachDone jobs report.log
    there e =
        let fine : (report.fault ≡ None) × (has_failure report.log ≡ false) = fine_where_done report.fault report.log e in
        let unfailed : has_failure log ≡ false = sym (any_in (λ (e : LogEntry). is_failure e.what)) ∙ fine.1 in
        (fine.0, λ k is_job. any_in (λ (e : LogEntry). is_done k e.what) ∙ done_where_over k log unfailed (over fine.0 k is_job))

    back : (report.fault ≡ None) × EachDone jobs report.log → status_of report.fault report.log ≡ status.Done
    back h = by_log (has_failure log) refl
      where
        by_log : (b : Bool) → has_failure log ≡ b → status_of report.fault report.log ≡ status.Done
        by_log false f = done_where_fine report.fault report.log h.0 (any_in (λ (e : LogEntry). is_failure e.what) ∙ f)
        by_log true f =
            let failed = failure jobs turns count log form f in
            absurd (let z : true ≡ false = sym (h.1 failed.0 failed.1.there) ∙ (any_in (λ (e : LogEntry). is_done failed.0 e.what) ∙ failed.1.untold) in cc)
