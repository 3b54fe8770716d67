-- The next group telegram: its request is right, the work fits once it is put, and what is told of it is true.
use Rattle.std.proofs.Common.{◌≡◌, ◌≢◌, inl, ℕ, ◌+◌, ◌-◌, ◌≤◌, Bool, true, false, List, [], ◌∷◌, length, map, Option, Some, None, refl, sym, ap, subst, ◌∙◌, arith}
use Rattle.std.specs.Prelude.{nat_lt, IfSome, if◌then◌else◌}
use Rattle.std.proofs.lemmas.Bool.{eq-eqb}
use Rattle.line_model.specs.declared.group.GroupTurn.{GroupTurn}
use Rattle.line_model.specs.declared.log.LogEntry.{LogEntry}
use Rattle.line_model.specs.declared.log.LogWhat.{LogWhat}
use Rattle.line_model.specs.declared.log.LogWhat.TheVariants.{Took, Done, Failed, Refused, Sent, Lost}
use Rattle.line_model.specs.Record.{Placed}
use Rattle.line_model.specs.Moments.{Moment, moments, between}
use Rattle.line_model.specs.Signs.{Every}
use Rattle.line_model.specs.Log.{Job, AllOver, turn_of, state_of, turn_place}
use Rattle.line_model.specs.Told.{IsTrue, ToldTruly, OfTurn, PutOnce, PutsNoGroup, IsConfirmed, IsLoss}
use Rattle.line_model.specs.Ends.{EndsAtRest}
use Rattle.device_reservation.specs.Reserved.{device_of_job}
use Rattle.device_reservation.proofs.Numbered.{within}
use Rattle.hub_work.specs.declared.telegrams.Stage.{Stage}
use Rattle.hub_work.specs.declared.telegrams.Stage.TheVariants as stage
use Rattle.hub_work.specs.declared.work.Sender.TheVariants.{Nobody, Worker, GroupThread}
use Rattle.hub_work.specs.declared.work.Work.{Work}
use Rattle.hub_work.specs.Fits.{Fits, FitsJob, FitsTelegram, FitsStage}
use Rattle.hub_work.specs.Follows.{TelegramIsRight, TelegramFollows, TellingFollows, IsToldOf, WasSent, WasLost}
use Rattle.hub_work.specs.Journals.{Written}
use Rattle.hub_work.specs.Laws.{Laws}
use Rattle.hub_work.specs.Telegrams.{Telling, IsNextRequest, IsInTime}
use Rattle.hub_work.specs.Turns.{TellsTurn}
use Rattle.hub_work.specs.Works.{KeepsBooks}
use Rattle.hub_work.proofs.Between.{same_up_to, none_since}
use Rattle.hub_work.proofs.Deeds.{puts_group, puts_turn, put_flies}
use Rattle.hub_work.proofs.Events.{fits_on}
use Rattle.hub_work.proofs.JobEvents.{job_on, aside_becomes}
use Rattle.hub_work.proofs.Undecided.{telegram_rests}
use Rattle.hub_work.proofs.Stages.{put_telegram}
use Rattle.hub_work.proofs.Works.{is_next}

-- ---- its request

module _ (w : Work) (cemi : List ℕ) (r : IsNextRequest w.telegrams cemi) (in_time : IsInTime (nat_lt 0 w.unfinished) w.telegrams) (over : (jobs : List Job) (at : ℕ) → KeepsBooks at w → map device_of_job jobs ≡ w.reservation.devices → nat_lt 0 w.unfinished ≡ false → AllOver jobs w.journal.entries) where
  pub telegram_is_right : TelegramIsRight w cemi
  telegram_is_right jobs places now at m books f unput e le place = record {
    frame = r.its.frame;
    reads = r.its.reads;
    request = r.its.request;
    place = place;
    why = inl (record {
      k = w.telegrams.told + 1;
      turn = r.turn;
      there = r.there;
      next = is_next w.telegrams.told w.telegrams.turns w.journal.entries books.telling (let to : w.telegrams.told + 1 ≤ length w.telegrams.turns = within w.telegrams.turns (w.telegrams.told + 1) r.turn r.there in omega arith);
      in_time = λ after. over jobs at books f.devices (in_time r.turn r.there after);
      is_its = puts_turn m cemi r.turn e r.its;
      once = subst (λ n. Every PutsNoGroup (between (turn_place n w.journal.entries) m.at (moments places))) (let same : w.telegrams.told ≡ w.telegrams.told + 1 - 1 = omega arith in same) once;
    });
  }
    where
      unput_so : (o : Option GroupTurn) (s : Stage) (x : List Moment) → o ≡ Some r.turn → s ≡ stage.Unput → FitsTelegram o s x → Every PutsNoGroup x
      unput_so o s x there unput f = subst (λ (t : Stage). FitsStage r.turn t x) unput (subst (λ (p : Option GroupTurn). FitsTelegram p s x) there f)

      once : Every PutsNoGroup (between (turn_place w.telegrams.told w.journal.entries) m.at (moments places))
      once = subst (Every PutsNoGroup) (sym (same_up_to (turn_place w.telegrams.told w.journal.entries) at m.at (moments places) le f.so_far))
          (unput_so (turn_of w.telegrams.turns (w.telegrams.told + 1)) w.telegrams.stage (between (turn_place w.telegrams.told w.journal.entries) at (moments places)) r.there unput f.telegram)

pub some_telegram : (w : Work) (o : Option (List ℕ)) → IfSome o (IsNextRequest w.telegrams) → IfSome o (λ cemi. IsInTime (nat_lt 0 w.unfinished) w.telegrams)
    → ((jobs : List Job) (at : ℕ) → KeepsBooks at w → map device_of_job jobs ≡ w.reservation.devices → nat_lt 0 w.unfinished ≡ false → AllOver jobs w.journal.entries) → IfSome o (TelegramIsRight w)
some_telegram w None next time over = tt
some_telegram w (Some cemi) next time over = telegram_is_right w cemi next time over

-- ---- it is put

pub telegram_follows : (laws : Laws) (old : Work) (t : Telling) → t ≡ record old.telegrams { stage = stage.UnderWay } → TelegramFollows old (record old { telegrams = t; sender = GroupThread })
telegram_follows laws old t is jobs now at later cemi m l books f free unput r e n = fits_on jobs old (record old { telegrams = t; sender = GroupThread }) now now at later m l books f n (record {
  same = record { reservation = refl; turns = ap (λ (x : Telling). x.turns) is; told = ap (λ (x : Telling). x.told) is; held = refl; journal = refl; unfinished = refl; tasks_are = refl; closing = refl };
  untaken = λ k job there u d. d;
  held = λ k worker since job there log j.
      job_on old (record old { telegrams = t; sender = GroupThread }) now now k worker m (between since at l) job j j.state j.there
      (aside_becomes laws j.state now now m (between since at l) j.fits n.time (puts_group m cemi r.turn e r.its j.state.device)) (puts_group m cemi r.turn e r.its job.device).put_is refl
      (λ moves. absurd (let s : Nobody ≡ Worker worker = sym (f.free free) ∙ j.flight moves in cc));
  telegram = λ o x is_next p. put_so o x is_next p;
  group = (λ g. ap (λ (x : Telling). x.stage) is, λ u. refl);
  free = λ none. absurd (let isnt : true ≡ false = sym (put_flies m cemi e l) ∙ none in cc);
})
  where
    put_so : (o : Option GroupTurn) (x : List Moment) → o ≡ turn_of old.telegrams.turns (old.telegrams.told + 1) → FitsTelegram o old.telegrams.stage x → FitsTelegram o t.stage (m ∷ x)
    put_so o x is_it p =
        subst (λ (q : Option GroupTurn). FitsTelegram q t.stage (m ∷ x)) (sym (is_it ∙ r.there))
        (subst (λ (s : Stage). FitsStage r.turn s (m ∷ x)) (sym (ap (λ (y : Telling). y.stage) is))
        (put_telegram r.turn m x (puts_turn m cemi r.turn e r.its) (subst (λ (s : Stage). FitsStage r.turn s x) unput (subst (λ (q : Option GroupTurn). FitsTelegram q old.telegrams.stage x) (is_it ∙ r.there) p))))

-- ---- it is told

told_state : (job k at : ℕ) (what : LogWhat) (log : List LogEntry) → TellsTurn k what → state_of job (record { at = at; worker = 0; what = what } ∷ log) ≡ state_of job log
told_state job k at (Took i) log tells = absurd tells
told_state job k at (Done i) log tells = absurd tells
told_state job k at (Failed i signs) log tells = absurd tells
told_state job k at (Refused i op got expected) log tells = absurd tells
told_state job k at (Sent i) log tells = refl
told_state job k at (Lost i) log tells = refl

told_place : (k at : ℕ) (what : LogWhat) (log : List LogEntry) → TellsTurn k what → turn_place k (record { at = at; worker = 0; what = what } ∷ log) ≡ at
told_place k at (Took i) log tells = absurd tells
told_place k at (Done i) log tells = absurd tells
told_place k at (Failed i signs) log tells = absurd tells
told_place k at (Refused i op got expected) log tells = absurd tells
told_place k at (Sent i) log tells = ap (λ (b : Bool). if b then at else turn_place k log) (eq-eqb i k tells)
told_place k at (Lost i) log tells = ap (λ (b : Bool). if b then at else turn_place k log) (eq-eqb i k tells)

pub nothing_yet : (o : Option GroupTurn) → FitsTelegram o stage.Unput []
nothing_yet None = refl
nothing_yet (Some turn) = tt

was_sent : (o : Option GroupTurn) (s : Stage) (x : List Moment) → s ≡ stage.Confirmed → FitsTelegram o s x → OfTurn (λ turn. PutOnce turn IsConfirmed x) o
was_sent None s x e f = absurd (let isnt : stage.Confirmed ≡ stage.Unput = sym e ∙ f in cc)
was_sent (Some turn) s x e f = subst (λ (t : Stage). FitsStage turn t x) e f

was_lost : (o : Option GroupTurn) (s : Stage) (x : List Moment) → s ≡ stage.Lost → FitsTelegram o s x → OfTurn (λ turn. PutOnce turn IsLoss x) o
was_lost None s x e f = absurd (let isnt : stage.Lost ≡ stage.Unput = sym e ∙ f in cc)
was_lost (Some turn) s x e f = subst (λ (t : Stage). FitsStage turn t x) e f

module _ (old : Work) (jn : Written) (t : Telling) (at k : ℕ) (what : LogWhat) (tells : TellsTurn k what) (next : k ≡ old.telegrams.told + 1) (told_is : t.told ≡ k) (turns_are : t.turns ≡ old.telegrams.turns) (unput : t.stage ≡ stage.Unput)
    (journal : jn.entries ≡ record { at = at; worker = 0; what = what } ∷ old.journal.entries) where
  abbrev new : Work
  new = record old { journal = jn; telegrams = t }

  job_same : (now i worker : ℕ) (job : Job) (x : List Moment) → FitsJob old now x i worker job → FitsJob new now x i worker job
  job_same now i worker job x j = record { state = j.state; there = j.there; device = j.device; plan = j.plan; from_1 = j.from_1; fits = j.fits; flight = j.flight; holds = j.holds }

  module _ (jobs : List Job) (places : List Placed) (now : ℕ) (f : Fits jobs old now at (moments places)) where
    state_stays : (i : ℕ) → state_of i jn.entries ≡ state_of i old.journal.entries
    state_stays i = ap (state_of i) journal ∙ told_state i k at what old.journal.entries tells

    told_fits : old.telegrams.stage ≢ stage.UnderWay → Fits jobs new now at (moments places)
    told_fits settled = record {
      devices = f.devices;
      tasks = f.tasks;
      sendable = f.sendable;
      so_far = f.so_far;
      untaken = λ i job there e. f.untaken i job there (sym (state_stays i) ∙ e);
      held = λ i worker since job there e. job_same now i worker job (between since at (moments places)) (f.held i worker since job there (sym (state_stays i) ∙ e));
      telegram =
          subst (λ (s : Stage). FitsTelegram (turn_of t.turns (t.told + 1)) s (between (turn_place t.told jn.entries) at (moments places))) (sym unput)
          (subst (λ (x : List Moment). FitsTelegram (turn_of t.turns (t.told + 1)) stage.Unput x) (sym (ap (λ n. between n at (moments places)) place ∙ none_since at at (moments places) f.so_far)) (nothing_yet (turn_of t.turns (t.told + 1))));
      group = (λ g. absurd (settled (f.group.0 g)), λ u. absurd (let isnt : stage.Unput ≡ stage.UnderWay = sym unput ∙ u in cc));
      free = f.free;
    }
      where
        place : turn_place t.told jn.entries ≡ at
        place = ap (λ n. turn_place n jn.entries) told_is ∙ (ap (turn_place k) journal ∙ told_place k at what old.journal.entries tells)

    as_k : (P : Option GroupTurn → List Moment → Type 0) → P (turn_of old.telegrams.turns (old.telegrams.told + 1)) (between (turn_place old.telegrams.told old.journal.entries) at (moments places)) → P (turn_of old.telegrams.turns k) (between (turn_place (k - 1) old.journal.entries) at (moments places))
    as_k P p =
        subst (λ n. P (turn_of old.telegrams.turns n) (between (turn_place (k - 1) old.journal.entries) at (moments places))) (sym next)
        (subst (λ n. P (turn_of old.telegrams.turns (old.telegrams.told + 1)) (between (turn_place n old.journal.entries) at (moments places))) (let same : old.telegrams.told ≡ k - 1 = omega (arith, next) in same) p)

    told_true : IsToldOf k old.telegrams.stage what → IsTrue jobs old.telegrams.turns places old.journal.entries at what
    told_true (WasSent s e) = subst (IsTrue jobs old.telegrams.turns places old.journal.entries at) (sym e) (as_k (λ o x. OfTurn (λ turn. PutOnce turn IsConfirmed x) o) (was_sent (turn_of old.telegrams.turns (old.telegrams.told + 1)) old.telegrams.stage (between (turn_place old.telegrams.told old.journal.entries) at (moments places)) s f.telegram))
    told_true (WasLost s e) = subst (IsTrue jobs old.telegrams.turns places old.journal.entries at) (sym e) (as_k (λ o x. OfTurn (λ turn. PutOnce turn IsLoss x) o) (was_lost (turn_of old.telegrams.turns (old.telegrams.told + 1)) old.telegrams.stage (between (turn_place old.telegrams.told old.journal.entries) at (moments places)) s f.telegram))

  settled_so : (s : Stage) → IsToldOf k s what → s ≢ stage.UnderWay
  settled_so s (WasSent e is) u = let isnt : stage.Confirmed ≡ stage.UnderWay = sym e ∙ u in cc
  settled_so s (WasLost e is) u = let isnt : stage.Lost ≡ stage.UnderWay = sym e ∙ u in cc

  pub telling_follows : TellingFollows at k what old new
  telling_follows jobs places now f is_told = (
    told_fits jobs places now f (settled_so old.telegrams.stage is_told),
    record {
      truly = λ told.
          subst (λ (ts : List GroupTurn). ToldTruly jobs ts places jn.entries) (sym turns_are) (subst (λ (l : List LogEntry). ToldTruly jobs old.telegrams.turns places l) (sym journal) (told_true jobs places now f is_told, told));
      rests = λ rests. subst (λ (l : List LogEntry). EndsAtRest jobs places l) (sym journal) (telegram_rests jobs places old.journal.entries at k what tells, rests);
    },
  )
