-- A step of the next group telegram waits exactly where the record says so, and so does a worker's turn.
use Rattle.std.proofs.Common.{◌≡◌, ◌≢◌, ◌↔◌, ◌⊎◌, inl, inr, ℕ, Bool, true, false, List, map, Option, Some, None, refl, sym, subst, ap, ◌∙◌}
use Rattle.line_model.specs.declared.fault.HubFault.{HubFault}
use Rattle.line_model.specs.declared.group.GroupTurn.{GroupTurn}
use Rattle.line_model.specs.Asks.{HasPlace}
use Rattle.line_model.specs.ClientView.{channel}
use Rattle.line_model.specs.Record.{Placed, entries}
use Rattle.line_model.specs.LinkStory.{Story, places_in, IsPlace, newest_time}
use Rattle.line_model.specs.Moments.{moments, time}
use Rattle.line_model.specs.Log.{Job, JobUnfinished, IsNextTurn, turn_of}
use Rattle.line_model.specs.Waiting.{GroupWaits, TurnWaits}
use Rattle.tunnel_link.specs.Adds.{place_of}
use Rattle.tunnel_link.specs.Rights.{WhereTold}
use Rattle.hub_core.specs.declared.answers.GroupDid.{GroupDid}
use Rattle.hub_core.specs.declared.answers.GroupDid.TheVariants as did
use Rattle.hub_work.specs.declared.answers.Turned.{Turned}
use Rattle.hub_work.specs.declared.answers.Turned.TheVariants as answer
use Rattle.hub_work.specs.declared.crew.Held.{Held}
use Rattle.hub_work.specs.declared.work.turn.Turn.{Turn}
use Rattle.hub_work.specs.declared.work.turn.Turn.TheVariants as turn
use Rattle.hub_work.specs.declared.telegrams.Stage.TheVariants as stage
use Rattle.hub_work.specs.declared.work.Work.{Work}
use Rattle.hub_work.specs.Downloaders.{Task, AreJobsWith}
use Rattle.hub_work.specs.Fits.{Fits}
use Rattle.hub_work.specs.Turns.{Suits}
use Rattle.hub_work.specs.Waits.{HoldsBack, WaitsExactly as WaitsExactlyOf}
use Rattle.hub_work.proofs.GroupWaits.{k_is, under_way_waits, unput_waits, confirmed_waits_not, unput_waits_not}
use Rattle.hub_work.proofs.GroupWaits as group
use Rattle.hub_core.specs.Keeps.{Keeps}
use Rattle.hub_core.specs.Seen.{hub_job_of}
use Rattle.hub_core.specs.Waits.{WaitsExactly, TurnWaitsExactly}
use Rattle.hub_core.proofs.Counting.{place_counts}
use Rattle.hub_core.proofs.Following.{newest}
use Rattle.hub_core.proofs.View.{seen_tasks}

module _ (p k : ℕ) (s : Story) (w : Work) (met : Bool) (f : Option HubFault) (none : f ≡ None) (at : IsPlace p s) (keeps : Keeps p s w met f) (next : IsNextTurn w.telegrams.turns w.journal.entries k) where
  abbrev Exactly : GroupDid → Type 0
  Exactly d = WaitsExactly (map hub_job_of w.downloaders) w.telegrams.turns w.journal.entries p k d s

  module _ (jobs : List Job) (places : List Placed) (fits : Fits jobs w (time (moments places)) p (moments places)) where
    abbrev Waits : Type 0
    Waits = GroupWaits jobs w.telegrams.turns w.journal.entries places p k

    held_is : (held : Bool) (turn : GroupTurn) → HoldsBack w held → turn_of w.telegrams.turns k ≡ Some turn → (held ≡ true) ↔ ((turn.after ≡ true) × JobUnfinished jobs w.journal.entries)
    held_is held turn holds there =
        holds jobs p turn keeps.books fits.devices (subst (λ (n : ℕ). turn_of w.telegrams.turns n ≡ Some turn) (k_is jobs w (time (moments places)) p k places keeps.books fits next) there)

    waits_here : w.telegrams.stage ≡ stage.UnderWay ⊎ ((w.telegrams.stage ≡ stage.Unput) × ((HasPlace (channel (entries places)) → ⊥) ⊎ HoldsBack w true)) → Waits
    waits_here (inl is) = under_way_waits jobs w (time (moments places)) p k places keeps.books fits next is
    waits_here (inr (is, inl unplaced)) = unput_waits jobs w (time (moments places)) p k places keeps.books fits next is (λ turn there. inl unplaced)
    waits_here (inr (is, inr holds)) = unput_waits jobs w (time (moments places)) p k places keeps.books fits next is (λ turn there. inr ((held_is true turn holds there).0 refl))

    put_here : w.telegrams.stage ≡ stage.Unput → HasPlace (channel (entries places)) → HoldsBack w false → Waits → ⊥
    put_here is place holds = unput_waits_not jobs w (time (moments places)) p k places keeps.books fits next is place (λ turn there after u. let isnt : false ≡ true = (held_is false turn holds there).1 (after, u) in cc)

  by_record : (d : GroupDid) → ((jobs : List Job) (places : List Placed) → places_in s ≡ Some places → Fits jobs w (time (moments places)) p (moments places) → (d ≡ did.Wait) ↔ GroupWaits jobs w.telegrams.turns w.journal.entries places p k) → Exactly d
  by_record d h jobs of places e =
      h jobs places e (subst (λ (n : ℕ). Fits jobs w (time (moments places)) n (moments places)) (sym (place_counts p s places e at)) ((keeps.told jobs (subst (λ (ts : List Task). AreJobsWith ts jobs) (seen_tasks w) of) places e).runs none).fits)

  pub waits_under_way : w.telegrams.stage ≡ stage.UnderWay → Exactly did.Wait
  waits_under_way is = by_record did.Wait (λ jobs places e fits. (λ same. waits_here jobs places fits (inl is), λ waits. refl))

  pub waits_unplaced : w.telegrams.stage ≡ stage.Unput → WhereTold (λ places. HasPlace (channel (entries places)) → ⊥) s → Exactly did.Wait
  waits_unplaced is unplaced = by_record did.Wait (λ jobs places e fits. (λ same. waits_here jobs places fits (inr (is, inl (unplaced places e))), λ waits. refl))

  pub waits_held : w.telegrams.stage ≡ stage.Unput → HoldsBack w true → Exactly did.Wait
  waits_held is holds = by_record did.Wait (λ jobs places e fits. (λ same. waits_here jobs places fits (inr (is, inr holds)), λ waits. refl))

  pub sent_waits_not : w.telegrams.stage ≡ stage.Confirmed → Exactly did.Sent
  sent_waits_not is = by_record did.Sent (λ jobs places e fits. (λ same. absurd (cc), λ waits. absurd (confirmed_waits_not jobs w (time (moments places)) p k places keeps.books fits next is waits)))

  pub lost_waits_not : w.telegrams.stage ≡ stage.Lost → Exactly did.Lost
  lost_waits_not is = by_record did.Lost (λ jobs places e fits. (λ same. absurd (cc), λ waits. absurd (group.lost_waits_not jobs w (time (moments places)) p k places keeps.books fits next is waits)))

  pub put_waits_not : w.telegrams.stage ≡ stage.Unput → WhereTold (λ places. HasPlace (channel (entries places))) s → HoldsBack w false → Exactly did.Put
  put_waits_not is place holds = by_record did.Put (λ jobs places e fits. (λ same. absurd (cc), λ waits. absurd (put_here jobs places fits is (place places e) holds waits)))

-- ---- a worker's turn

module _ (p : ℕ) (s : Story) (w : Work) (met : Bool) (f : Option HubFault) (none : f ≡ None) (at : IsPlace p s) (keeps : Keeps p s w met f) (worker now : ℕ) (told : WhereTold (λ places. now ≡ newest_time (entries places)) s) (has_place : Bool)
    (placed : WhereTold (λ places. (has_place ≡ true) ↔ HasPlace (channel (entries places))) s) where
  pub turn_waits : (result : Turn) (turned : Turned) → WaitsExactlyOf now p has_place worker w result → ((result ≡ turn.Did answer.Wait) ↔ (turned ≡ answer.Wait)) → TurnWaitsExactly (map hub_job_of w.downloaders) w.telegrams.turns w.journal.entries w.crew p worker turned s
  turn_waits result turned waits same held is jobs of places e =
      let there : p ≡ place_of s = place_counts p s places e at in
      let fits : Fits jobs w (time (moments places)) p (moments places) = subst (λ (n : ℕ). Fits jobs w (time (moments places)) n (moments places)) (sym there) ((keeps.told jobs (subst (λ (ts : List Task). AreJobsWith ts jobs) (seen_tasks w) of) places e).runs none).fits in
      let then : now ≡ time (moments places) = told places e ∙ newest places in
      let exactly : (result ≡ turn.Did answer.Wait) ↔ TurnWaits jobs w.telegrams.turns w.journal.entries places p now held.job held.came =
      waits held is jobs places keeps.books (subst (λ (n : ℕ). Fits jobs w n p (moments places)) (sym then) fits) (placed places e) in
      let by_time : (result ≡ turn.Did answer.Wait) ↔ TurnWaits jobs w.telegrams.turns w.journal.entries places p (newest_time (entries places)) held.job held.came =
      subst (λ (n : ℕ). (result ≡ turn.Did answer.Wait) ↔ TurnWaits jobs w.telegrams.turns w.journal.entries places p n held.job held.came) (told places e) exactly in
      ((λ t. by_time.0 (same.1 t)), (λ h. same.0 (by_time.1 h)))

did_is : (a b : Turned) → turn.Did a ≡ turn.Did b → a ≡ b
did_is a b e = cc

pub did_same : (result : Turn) (turned : Turned) → result ≡ turn.Did turned → (result ≡ turn.Did answer.Wait) ↔ (turned ≡ answer.Wait)
did_same result turned is = ((λ e. did_is turned answer.Wait (sym is ∙ e)), (λ e. is ∙ ap turn.Did e))

-- a turn's answer as its worker's work gave it
pub did_takes_in : (P : Type 0) (turned : Turned) → (P ↔ (turn.Did turned ≡ turn.Did answer.Moved)) → P → turned ≡ answer.Moved
did_takes_in P turned is p = did_is turned answer.Moved (is.0 p)

pub did_moves : (P : Type 0) (turned : Turned) → (P ↔ (turn.Did turned ≡ turn.Did answer.Moved)) → turned ≡ answer.Moved → P
did_moves P turned is e = is.1 (ap turn.Did e)

pub puts_takes_none_in : {X : Type 0} (P : Type 0) (cemi : List ℕ) → (P ↔ (turn.Puts cemi ≡ turn.Did answer.Moved)) → P → X
puts_takes_none_in P cemi is p = absurd (let isnt : turn.Puts cemi ≡ turn.Did answer.Moved = is.0 p in cc)

pub holder_moves : (held : Option Held) → held ≢ None → Suits held answer.Moved
holder_moves None some = absurd (some refl)
holder_moves (Some held) some = tt

pub puts_same : (result : Turn) (cemi : List ℕ) → result ≡ turn.Puts cemi → (result ≡ turn.Did answer.Wait) ↔ (answer.Moved ≡ answer.Wait)
puts_same result cemi is = ((λ e. absurd (let isnt : turn.Puts cemi ≡ turn.Did answer.Wait = sym is ∙ e in cc)), (λ e. absurd (cc)))
