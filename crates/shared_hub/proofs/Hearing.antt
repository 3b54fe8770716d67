-- What is told heard after a call: what was told before it and what the call heard.
use Rattle.std.proofs.Common.{◌≡◌, ℕ, List, [], ◌∷◌, ◌++◌, Option, Some, None, reverse, refl, sym, ap, subst, ◌∙◌}
use Rattle.std.specs.List.{cons_option}
use Rattle.std.proofs.lemmas.List.{reverse-append}
use Rattle.line_model.specs.declared.fault.HubFault.{HubFault}
use Rattle.line_model.specs.declared.group.Indication.{Indication}
use Rattle.line_model.specs.ClientView.{indications}
use Rattle.line_model.specs.declared.outside.fault_counts.FaultCounts.{FaultCounts}
use Rattle.line_model.specs.Lines.{Script}
use Rattle.line_model.specs.LinkStory.{Story, Untold, Recorded, Full, IsNewLink, record_in, places_in}
use Rattle.line_model.specs.Record.{Entry, entries, counted, placed, record_of}
use Rattle.line_model.specs.World.{Event}
use Rattle.line_model.proofs.Entries.{entries_placed, entries_counted}
use Rattle.tunnel_link.specs.Goes.{GoesOn}
use Rattle.hub_core.specs.Hears.{HearsFew, HearsSo}
use Rattle.hub_core.specs.Heard.{LeftOut, HeardOf, HeardIn}
use Rattle.hub_core.specs.Seen.{Seen}
use Rattle.hub_core.specs.Since.{Since}
use Rattle.shared_hub.specs.Relays.{KeepsOrMisses, KeepsFirst, SameButMissed}
use Rattle.shared_hub.proofs.Missing.{broken_off, failed_then, keeps_one, kept_first, none_yet}

-- ---- a call that answered

-- where the record's indications became so, what is told follows
module _ (fault then : Option HubFault) (m n : ℕ) (before after : List Indication) (heard : Option Indication) (follows : (is : List Indication) → HeardOf fault m before (reverse is) → HeardOf then n after (reverse (cons_option heard is))) where
  by_record : (old new : List Entry) → indications new ≡ cons_option heard (indications old) → HeardIn fault m before (Some old) → HeardIn then n after (Some new)
  by_record old new e told = subst (λ (l : List Indication). HeardOf then n after (reverse l)) (sym e) (follows (indications old) told)

  by_story : (s t : Story) → GoesOn s t → HearsSo heard s t → HeardIn fault m before (record_in s) → HeardIn then n after (record_in t)
  by_story Untold t goes hears told = subst (λ t. HeardIn then n after (record_in t)) (sym goes) tt
  by_story (Recorded clock r) t goes hears told =
      let new : List Entry = goes.0 ++ r in
      let e : indications (entries (counted new)) ≡ cons_option heard (indications (entries (counted r))) = hears (counted r) (counted new) refl (ap places_in goes.1) in
      subst (λ t. HeardIn then n after (record_in t)) (sym goes.1) (by_record r new (sym (ap indications (entries_counted new)) ∙ (e ∙ ap (λ x. cons_option heard (indications x)) (entries_counted r))) told)
  by_story (Full start events) t goes hears told =
      let new : List Event = goes.0 ++ events in
      let e : indications (entries (placed start new)) ≡ cons_option heard (indications (entries (placed start events))) = hears (placed start events) (placed start new) refl (ap places_in goes.1) in
      subst (λ t. HeardIn then n after (record_in t)) (sym goes.1)
      (by_record (record_of start events) (record_of start new) (sym (ap indications (entries_placed start new)) ∙ (e ∙ ap (λ x. cons_option heard (indications x)) (entries_placed start events))) told)

-- nothing more
pub hears_none : (fault : Option HubFault) (m : ℕ) (told : List Indication) (heard : Option Indication) (s t : Story) → heard ≡ None → GoesOn s t → HearsSo heard s t → HeardIn fault m told (record_in s) → HeardIn fault m told (record_in t)
hears_none fault m told heard s t none = by_story fault fault m m told told heard (λ is h. rw none h) s t

-- one more, which was kept or missed
pub hears_one : (m n : ℕ) (told now : List Indication) (one : Indication) (heard : Option Indication) (s t : Story) → heard ≡ Some one → KeepsOrMisses one told now m n → GoesOn s t → HearsSo heard s t → HeardIn None m told (record_in s) → HeardIn None n now (record_in t)
hears_one m n told now one heard s t some keeps = by_story None None m n told now heard (λ is h. rw some (subst (LeftOut n now) (sym (reverse-append (one ∷ []) is)) (keeps_one m n told now (reverse is) one h keeps))) s t

-- ---- a call that failed

pub hears_failed : (why : HubFault) (m : ℕ) (told : List Indication) (s t : Story) → GoesOn s t → HearsFew s t → HeardIn None m told (record_in s) → HeardIn (Some why) m told (record_in t)
hears_failed why m told s t goes few = by_story None (Some why) m m told told few.0 (λ is h. failed_then why m told is few.0 h) s t goes few.1

-- ---- by a call of a hub that had no fault

module _ {L : Type 0} (old new : Seen L) (told : List Indication) (story_of : L → Story) where
  before : old.fault ≡ None → HeardIn old.fault old.missed told (record_in (story_of old.link)) → HeardIn None old.missed told (record_in (story_of old.link))
  before stood h = subst (λ (f : Option HubFault). HeardIn f old.missed told (record_in (story_of old.link))) stood h

  pub hears_none_so : (one : Option Indication) → one ≡ None → {script_of : L → Script} {faults_of : L → FaultCounts} → Since story_of script_of faults_of old new → old.fault ≡ None → new.fault ≡ None → HearsSo one (story_of old.link) (story_of new.link)
      → HeardIn old.fault old.missed told (record_in (story_of old.link)) → HeardIn new.fault new.missed told (record_in (story_of new.link))
  hears_none_so one is since stood stands hears h =
      subst (λ (f : Option HubFault). HeardIn f new.missed told (record_in (story_of new.link))) (sym stands)
      (subst (λ (n : ℕ). HeardIn None n told (record_in (story_of new.link))) (sym since.run.missed) (hears_none None old.missed told one (story_of old.link) (story_of new.link) is since.grows hears (before stood h)))

  pub hears_failed_so : (why : HubFault) → new.fault ≡ Some why → HearsFew (story_of old.link) (story_of new.link) → {script_of : L → Script} {faults_of : L → FaultCounts} → Since story_of script_of faults_of old new → old.fault ≡ None → HeardIn old.fault old.missed told (record_in (story_of old.link)) → HeardIn new.fault new.missed told (record_in (story_of new.link))
  hears_failed_so why failed few since stood h =
      subst (λ (f : Option HubFault). HeardIn f new.missed told (record_in (story_of new.link))) (sym failed)
      (subst (λ (n : ℕ). HeardIn (Some why) n told (record_in (story_of new.link))) (sym since.run.missed) (hears_failed why old.missed told (story_of old.link) (story_of new.link) since.grows few (before stood h)))

-- what it heard was then kept, or counted as missed
pub hears_one_so : {L : Type 0} (old new after : Seen L) (told now : List Indication) (story_of : L → Story) (one : Indication) (heard : Option Indication) → heard ≡ Some one → {script_of : L → Script} {faults_of : L → FaultCounts} → Since story_of script_of faults_of old new → old.fault ≡ None → new.fault ≡ None
    → HearsSo heard (story_of old.link) (story_of new.link) → SameButMissed new after → KeepsOrMisses one told now new.missed after.missed → HeardIn old.fault old.missed told (record_in (story_of old.link)) → HeardIn after.fault after.missed now (record_in (story_of after.link))
hears_one_so {L = L} old new after told now story_of one heard is since stood stands hears same keeping h =
    subst (λ (f : Option HubFault). HeardIn f after.missed now (record_in (story_of after.link))) (sym (same.fault ∙ stands))
    (subst (λ (l : L). HeardIn None after.missed now (record_in (story_of l))) (sym same.link)
    (hears_one old.missed after.missed told now one heard (story_of old.link) (story_of new.link) is (subst (λ (n : ℕ). KeepsOrMisses one told now n after.missed) since.run.missed keeping) since.grows hears (before old new told story_of stood h)))

-- ---- at the beginning, and in the end

none_told : (fault : Option HubFault) → HeardOf fault 0 [] []
none_told None = none_yet
none_told (Some why) = broken_off why 0 [] [] none_yet

pub new_hears_none : (fault : Option HubFault) (s : Story) → IsNewLink s → HeardIn fault 0 [] (record_in s)
new_hears_none fault Untold new = tt
new_hears_none fault (Recorded clock r) new = subst (λ r. HeardIn fault 0 [] (Some r)) (sym new) (none_told fault)
new_hears_none fault (Full start events) new = subst (λ es. HeardIn fault 0 [] (record_in (Full start es))) (sym new.0) (none_told fault)

-- what was kept of it, and the rest is missed
pub keeps_heard : (fault : Option HubFault) (m n : ℕ) (kept told : List Indication) (r : Option (List Entry)) → KeepsFirst kept told m n → HeardIn fault m told r → HeardIn fault n kept r
keeps_heard fault m n kept told None k h = tt
keeps_heard fault m n kept told (Some r) k h = kept_first fault m n kept told (reverse (indications r)) k h

-- of a run that was broken off before its first turn
pub broken_heard : (why : HubFault) (m : ℕ) (told : List Indication) (r : Option (List Entry)) → HeardIn None m told r → HeardIn (Some why) m told r
broken_heard why m told None h = tt
broken_heard why m told (Some r) h = broken_off why m told (reverse (indications r)) h
