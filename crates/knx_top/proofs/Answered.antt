-- A line that was served with an answerer in front of its port, by what the port below told.
use Rattle.std.proofs.Common.{◌≡◌, ◌<◌, ◌+◌, ℕ, zero, suc, Bool, List, [], ◌∷◌, ◌++◌, length, take, drop, map, Option, Some, None, Result, Ok, Err, refl, sym, ap, ◌∙◌, subst, inl, inr, arith}
use Rattle.std.specs.Prelude.{IfOk, OnErr, ◌&&◌, ◌==◌, if◌then◌else◌}
use Rattle.std.specs.List.{AllByRecursion}
use Rattle.std.specs.Str.{bytes_eq}
use Rattle.std.proofs.lemmas.List.{append-nil, length-append}
use Rattle.std.proofs.Math.Seq.{drop-append_seam, take-append_seam}
use Rattle.bus_sim.specs.RunNow.{RunNow}
use Rattle.bus_sim.specs.Serving.{AddsAll, BreaksOff, CountsServing, ServedSo}
use Rattle.bus_sim.specs.declared.serve.Served.{Served}
use Rattle.discovery.specs.Discovery.{blocks_of, octets_of}
use Rattle.discovery.specs.declared.about.About.{About}
use Rattle.discovery.specs.declared.inquiry.Inquiry.{Inquiry}
use Rattle.discovery.specs.declared.inquiry.Inquiry.TheVariants.{Search, Description}
use Rattle.discovery_ends.specs.Answering.{HasNoRequest, IsntRequest, answer_of, answerer_story, emptied, faults_with, identity, is_answer, is_answer_to, request_in, shown, shown_story, shown_where, without_last}
use Rattle.discovery_ends.specs.Naming.{named_item, named_story}
use Rattle.knx_model.specs.Apdu.{word}
use Rattle.knx_model.specs.KnxNetIp.{endpoint}
use Rattle.line_model.specs.PortStory.{Gave, IsNewPort, PortItem, PortStory, Quiet, Recorded, Took, Untold}
use Rattle.line_model.specs.declared.outside.fault_counts.FaultCounts.{FaultCounts}
use Rattle.line_model.specs.declared.outside.port.PortFault.{PortFault}
use Rattle.line_model.specs.declared.outside.port.PortFault.TheVariants as fault

-- ---- two lists whose ends are as long

same_ends : {A : Type 0} (xs ys s t : List A) → length s ≡ length t → xs ++ s ≡ ys ++ t → (xs ≡ ys) × (s ≡ t)
same_ends xs ys s t long e =
    let n : length xs ≡ length ys = (let whole = ap length e in let one = length-append xs s in let other = length-append ys t in omega (arith, whole, one, other, long)) in (
      sym (take-append_seam xs s) ∙ ap (take (length xs)) e ∙ ap (λ (k : ℕ). take k (ys ++ t)) n ∙ take-append_seam ys t,
      sym (drop-append_seam xs s) ∙ ap (drop (length xs)) e ∙ ap (λ (k : ℕ). drop k (ys ++ t)) n ∙ drop-append_seam ys t,
    )

-- ---- what answers alike is shown alike

module _ (a b : About) (same : (inquiry : Inquiry) → answer_of a inquiry ≡ answer_of b inquiry) where
  answers_alike : (o : Option Inquiry) (octets : List ℕ) → is_answer_to a o octets ≡ is_answer_to b o octets
  answers_alike None octets = refl
  answers_alike (Some inquiry) octets = ap (bytes_eq octets) (same inquiry)

  answers_so : (item : PortItem) (older : List PortItem) → is_answer a item older ≡ is_answer b item older
  answers_so (Took from octets) older = refl
  answers_so (Quiet ms) older = refl
  answers_so (Gave to octets) [] = refl
  answers_so (Gave to octets) (Took from request ∷ older) = ap (λ (is : Bool). (to == from) && is) (answers_alike (request_in request) octets)
  answers_so (Gave to octets) (Quiet ms ∷ older) = refl
  answers_so (Gave to octets) (Gave other more ∷ older) = refl

  shown_alike : (items : List PortItem) → shown a items ≡ shown b items
  shown_alike [] = refl
  shown_alike (item ∷ older) =
      ap (λ (is : Bool). if is then emptied (shown a older) else item ∷ shown a older) (answers_so item older)
      ∙ ap (λ (rest : List PortItem). if is_answer b item older then emptied rest else item ∷ rest) (shown_alike older)

  left_alike : (items : List PortItem) → without_last a items ≡ without_last b items
  left_alike [] = refl
  left_alike (Took from request ∷ older) = refl
  left_alike (Quiet ms ∷ older) = refl
  left_alike (Gave to octets ∷ []) = refl
  left_alike (Gave to octets ∷ Took from request ∷ older) =
      ap (λ (is : Bool). if is then older else Gave to octets ∷ Took from request ∷ older) (answers_so (Gave to octets) (Took from request ∷ older))
  left_alike (Gave to octets ∷ Quiet ms ∷ older) = refl
  left_alike (Gave to octets ∷ Gave other more ∷ older) = refl

  where_alike : (failed : Option PortFault) (items : List PortItem) → shown_where a failed items ≡ shown_where b failed items
  where_alike None items = shown_alike items
  where_alike (Some kept) items = shown_alike (without_last a items) ∙ ap (shown b) (left_alike items)

with_body : ℕ → List ℕ → List ℕ
with_body service body = 0x06 ∷ 0x10 ∷ (word service ++ word (6 + length body) ++ body)

same_blocks : (a b : About) → octets_of (blocks_of a) ≡ octets_of (blocks_of b) → (inquiry : Inquiry) → answer_of a inquiry ≡ answer_of b inquiry
unfolding with_body
same_blocks a b e Search = ap (λ (blocks : List ℕ). with_body 0x0202 (endpoint ++ blocks)) e
same_blocks a b e Description = ap (λ (blocks : List ℕ). with_body 0x0204 blocks) e

-- ---- what was added at the answerer was added below, as it is shown

module _ (own own' : List ℕ) (about about' : About) (failed : Option PortFault) where
  same_records : (xs ys : List PortItem) → Recorded xs ≡ Recorded ys → xs ≡ ys
  same_records xs ys e = cc

  same_own : identity own' about' ≡ identity own about → own' ≡ own
  same_own e = cc

  same_told : identity own' about' ≡ identity own about → octets_of (blocks_of about') ≡ octets_of (blocks_of about)
  same_told e = cc

  same_shown : (items all : List PortItem) → AddsAll items (answerer_story own about None (Recorded [])) (answerer_story own' about' failed (Recorded all))
      → (shown_where about failed (map (named_item own) all) ≡ shown_where about' failed (map (named_item own') all)) × (shown_where about' failed (map (named_item own') all) ≡ items)
  same_shown items all h =
      let first : identity own about ≡ h.0 = same_records (identity own about) h.0 h.1 in
      let both = same_ends (shown_where about' failed (map (named_item own') all)) items (identity own' about') (identity own about) refl (h.2 ∙ ap (λ (rest : List PortItem). items ++ rest) (sym first)) in (
        ap (λ (o : List ℕ). shown_where about failed (map (named_item o) all)) (sym (same_own both.1))
            ∙ where_alike about about' (same_blocks about about' (sym (same_told both.1))) failed (map (named_item own') all),
        both.0,
      )

  pub added_below : (items : List PortItem) (new_port port : PortStory) → IsNewPort new_port → AddsAll items (answerer_story own about None new_port) (answerer_story own' about' failed port)
      → AddsAll items new_port (shown_story about failed (named_story own port))
  added_below items Untold Untold new h = refl
  added_below items Untold (Recorded all) new h = absurd (let e : Untold ≡ Recorded h.0 = h.1 in cc)
  added_below items (Recorded (item ∷ older)) port new h = absurd cc
  added_below items (Recorded []) Untold new h = absurd (let e : Recorded (identity own about) ≡ Untold = h in cc)
  added_below items (Recorded []) (Recorded all) new h = let is = same_shown items all h in ([], refl, is.0 ∙ is.1 ∙ sym (append-nil items))

  -- and no request is left below where none is at the answerer
  pub none_below : (items : List PortItem) (new_port port : PortStory) → IsNewPort new_port → AddsAll items (answerer_story own about None new_port) (answerer_story own' about' failed port)
      → HasNoRequest (shown_story about' failed (named_story own' port)) → HasNoRequest (shown_story about failed (named_story own port))
  none_below items new_port Untold new h none = tt
  none_below items Untold (Recorded all) new h none = absurd (let e : Untold ≡ Recorded h.0 = h.1 in cc)
  none_below items (Recorded (item ∷ older)) (Recorded all) new h none = absurd cc
  none_below items (Recorded []) (Recorded all) new h none = subst (AllByRecursion IsntRequest) (sym (same_shown items all h).0) none

-- ---- the serving, by what was added

nothing_added : (before after : PortStory) → after ≡ before → AddsAll [] before after
nothing_added before Untold e = sym e
nothing_added before (Recorded all) e = (all, sym e, refl)

none_added : (before after : PortStory) → AddsAll [] before after → after ≡ before
none_added before Untold h = sym h
none_added before (Recorded all) h = ap Recorded h.2 ∙ sym h.1

module _ (turns : ℕ) (began r : RunNow) (before after before' after' : PortStory) (added : (items : List PortItem) → AddsAll items before after → AddsAll items before' after') where
  served_below : (as_served : Served) → ServedSo as_served turns began r before after → ServedSo as_served turns began r before' after'
  served_below as_served h = record { begun = h.begun; items = h.items; told = added h.items h.told; whole = h.whole; few = h.few; ends = h.ends }

  broken_below : BreaksOff turns began r before after → BreaksOff turns began r before' after'
  broken_below (inl h) = inl (h.0, none_added before' after' (added [] (nothing_added before after h.1)))
  broken_below (inr h) = inr (record {
    begun = h.begun;
    items = h.items;
    told = added h.items h.told;
    whole_events = h.whole_events;
    whole_items = h.whole_items;
    whole = h.whole;
    breaks = h.breaks;
    few = h.few;
  })

  pub so_below : (result : Result Served PortFault) → IfOk result (λ as_served. ServedSo as_served turns began r before after) → IfOk result (λ as_served. ServedSo as_served turns began r before' after')
  so_below (Ok as_served) h = served_below as_served h
  so_below (Err why) h = h

  pub breaks_below : (result : Result Served PortFault) → OnErr result (BreaksOff turns began r before after) → OnErr result (BreaksOff turns began r before' after')
  breaks_below (Ok as_served) h = h
  breaks_below (Err why) h = broken_below h

-- what holds of all that was added holds of the serving
module _ (turns : ℕ) (began r : RunNow) (before after : PortStory) (P : Type 0) (by : (items : List PortItem) → AddsAll items before after → P) where
  by_broken : BreaksOff turns began r before after → P
  by_broken (inl h) = by [] (nothing_added before after h.1)
  by_broken (inr h) = by h.items h.told

  pub by_added : (result : Result Served PortFault) → IfOk result (λ as_served. ServedSo as_served turns began r before after) → OnErr result (BreaksOff turns began r before after) → P
  by_added (Ok as_served) so broken = by so.items so.told
  by_added (Err why) so broken = by_broken broken

-- ---- how many calls failed: one was refused only where one had failed below

no_fault_below : (below refused : ℕ) → faults_with below refused ≡ 0 → below ≡ 0
no_fault_below below refused none = omega (arith, none)

one_fault_below : (below refused : ℕ) → (0 < refused → 0 < below) → faults_with below refused ≡ 1 → below ≡ 1
one_fault_below below zero refuses one = omega (arith, one)
one_fault_below below (suc n) refuses one = let failed : 0 < below = refuses (omega arith) in omega (arith, one, failed)

pub counts_below : (result : Result Served PortFault) (below refused : ℕ) (old line : FaultCounts) (r : RunNow) → (0 < refused → 0 < below) → CountsServing result 0 (faults_with below refused) old line r → CountsServing result 0 below old line r
counts_below (Ok as_served) below refused old line r refuses h = (no_fault_below below refused h.0, h.1)
counts_below (Err (fault.NoMemory want)) below refused old line r refuses h = (no_fault_below below refused h.0, h.1)
counts_below (Err fault.Failed) below refused old line r refuses (inl port) = inl (one_fault_below below refused refuses port.0, port.1)
counts_below (Err fault.Failed) below refused old line r refuses (inr end) = inr (no_fault_below below refused end.0, end.1, end.2)

-- ---- at a new port no request was taken

pub none_taken : (story : PortStory) → IsNewPort story → HasNoRequest story
none_taken Untold new = tt
none_taken (Recorded []) new = tt
none_taken (Recorded (item ∷ older)) new = absurd cc
