-- How far the next group telegram is, with one more moment.
use Rattle.std.proofs.Common.{◌≢◌, List, [], ◌∷◌, Option, Some, None, refl, ap}
use Rattle.line_model.specs.declared.group.GroupTurn.{GroupTurn}
use Rattle.line_model.specs.ClientView.{Loses}
use Rattle.line_model.specs.Moments.{Moment}
use Rattle.line_model.specs.Signs.{IsntConfirmation}
use Rattle.line_model.specs.Told.{PutsTurn, PutsNoGroup, PutOnce, IsConfirmed, IsLoss}
use Rattle.hub_work.specs.declared.telegrams.Stage.{Stage}
use Rattle.hub_work.specs.declared.telegrams.Stage.TheVariants.{Unput, UnderWay, Confirmed, Lost}
use Rattle.hub_work.specs.Telegrams.{after_confirmation, after_loss}
use Rattle.hub_work.specs.Fits.{IsPut, FitsStage, FitsTelegram}

module _ (turn : GroupTurn) (m : Moment) (l : List Moment) (alone : PutsNoGroup m) where
  later_once : (End : Moment → Type 0) → PutOnce turn End l → PutOnce turn End (m ∷ l)
  later_once End q = record {
    later = m ∷ q.later;
    end = q.end;
    flown = q.flown;
    put = q.put;
    before = q.before;
    split = ap (λ (x : List Moment). m ∷ x) q.split;
    put_is = q.put_is;
    once = (alone, q.once);
    first = q.first;
    unlost = q.unlost;
    unconfirmed = q.unconfirmed;
    ends = q.ends;
  }

  ends_now : (End : Moment → Type 0) → End m → IsPut turn l → PutOnce turn End (m ∷ l)
  ends_now End e p = record {
    later = [];
    end = m;
    flown = p.under_way.flown;
    put = p.under_way.put;
    before = p.under_way.before;
    split = ap (λ (x : List Moment). m ∷ x) p.under_way.split;
    put_is = p.under_way.put_is;
    once = (alone, p.once);
    first = p.first;
    unlost = p.under_way.unlost;
    unconfirmed = p.under_way.unconfirmed;
    ends = e;
  }

  aside_stage : (s : Stage) → m.what ≢ Loses → IsntConfirmation m → FitsStage turn s l → FitsStage turn s (m ∷ l)
  aside_stage Unput lasts unconfirmed f = (alone, f)
  aside_stage UnderWay lasts unconfirmed f = record {
    under_way = record {
      flown = m ∷ f.under_way.flown;
      put = f.under_way.put;
      before = f.under_way.before;
      split = ap (λ (x : List Moment). m ∷ x) f.under_way.split;
      put_is = f.under_way.put_is;
      unlost = (lasts, f.under_way.unlost);
      unconfirmed = (unconfirmed, f.under_way.unconfirmed);
    };
    once = (alone, f.once);
    first = f.first;
  }
  aside_stage Confirmed lasts unconfirmed f = later_once IsConfirmed f
  aside_stage Lost lasts unconfirmed f = later_once IsLoss f

  settled_stage : (s : Stage) → s ≢ UnderWay → FitsStage turn s l → FitsStage turn s (m ∷ l)
  settled_stage Unput not f = (alone, f)
  settled_stage UnderWay not f = absurd (not refl)
  settled_stage Confirmed not f = later_once IsConfirmed f
  settled_stage Lost not f = later_once IsLoss f

  confirmed_stage : (s : Stage) → IsConfirmed m → FitsStage turn s l → FitsStage turn (after_confirmation s) (m ∷ l)
  confirmed_stage Unput c f = (alone, f)
  confirmed_stage UnderWay c f = ends_now IsConfirmed c f
  confirmed_stage Confirmed c f = later_once IsConfirmed f
  confirmed_stage Lost c f = later_once IsLoss f

  lost_stage : (s : Stage) → IsLoss m → FitsStage turn s l → FitsStage turn (after_loss s) (m ∷ l)
  lost_stage Unput e f = (alone, f)
  lost_stage UnderWay e f = ends_now IsLoss e f
  lost_stage Confirmed e f = later_once IsConfirmed f
  lost_stage Lost e f = later_once IsLoss f

-- ---- there may be none left

pub aside_telegram : (o : Option GroupTurn) (s : Stage) (m : Moment) (l : List Moment) → PutsNoGroup m → m.what ≢ Loses → IsntConfirmation m → FitsTelegram o s l → FitsTelegram o s (m ∷ l)
aside_telegram None s m l alone lasts unconfirmed f = f
aside_telegram (Some turn) s m l alone lasts unconfirmed f = aside_stage turn m l alone s lasts unconfirmed f

pub settled_telegram : (o : Option GroupTurn) (s : Stage) (m : Moment) (l : List Moment) → PutsNoGroup m → s ≢ UnderWay → FitsTelegram o s l → FitsTelegram o s (m ∷ l)
settled_telegram None s m l alone not f = f
settled_telegram (Some turn) s m l alone not f = settled_stage turn m l alone s not f

pub confirmed_telegram : (o : Option GroupTurn) (s : Stage) (m : Moment) (l : List Moment) → PutsNoGroup m → IsConfirmed m → FitsTelegram o s l → FitsTelegram o (after_confirmation s) (m ∷ l)
confirmed_telegram None s m l alone c f = ap after_confirmation f
confirmed_telegram (Some turn) s m l alone c f = confirmed_stage turn m l alone s c f

pub lost_telegram : (o : Option GroupTurn) (s : Stage) (m : Moment) (l : List Moment) → PutsNoGroup m → IsLoss m → FitsTelegram o s l → FitsTelegram o (after_loss s) (m ∷ l)
lost_telegram None s m l alone e f = ap after_loss f
lost_telegram (Some turn) s m l alone e f = lost_stage turn m l alone s e f

pub put_telegram : (turn : GroupTurn) (m : Moment) (l : List Moment) → PutsTurn turn m → FitsStage turn Unput l → FitsStage turn UnderWay (m ∷ l)
put_telegram turn m l p f = record {
  under_way = record { flown = []; put = m; before = l; split = refl; put_is = p; unlost = tt; unconfirmed = tt };
  once = tt;
  first = f;
}

-- ---- after a confirmation, and after a loss, none is under way

pub not_under_way : (s : Stage) → after_confirmation s ≢ UnderWay
not_under_way Unput e = cc
not_under_way UnderWay e = cc
not_under_way Confirmed e = cc
not_under_way Lost e = cc

pub not_after_loss : (s : Stage) → after_loss s ≢ UnderWay
not_after_loss Unput e = cc
not_after_loss UnderWay e = cc
not_after_loss Confirmed e = cc
not_after_loss Lost e = cc
