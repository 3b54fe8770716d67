-- What a poll brought, and the loss of the channel in it, is told to the work at the time that the link told last; then it fits as it did before.
use Rattle.std.proofs.Common.{◌≡◌, ℕ, ◌<◌, ◌≤◌, ◌⊎◌, inl, inr, List, [], ◌∷◌, ◌++◌, Option, sym, subst, arith}
use Rattle.knx_model.specs.declared.frames.cemi.Ldata.{Ldata}
use Rattle.line_model.specs.Moments.{Moment, time}
use Rattle.line_model.specs.Signs.{Every}
use Rattle.line_model.specs.Told.{IsLoss}
use Rattle.line_model.specs.Log.{Job}
use Rattle.tunnel_link.specs.declared.came.Loss.{Loss}
use Rattle.tunnel_link.specs.declared.came.Loss.TheVariants.{Stays, Ended, Told}
use Rattle.tunnel_link.specs.declared.came.What.{What}
use Rattle.tunnel_link.specs.declared.came.What.TheVariants as came
use Rattle.tunnel_link.specs.Adds.{IsNothing, One, TakesAt, TakesUnread, OrLoses, DoesSo}
use Rattle.hub_work.specs.declared.work.Work.{Work}
use Rattle.hub_work.specs.declared.closing.Closing.{Closing}
use Rattle.hub_work.specs.Fits.{Fits, FitsJob}
use Rattle.hub_work.specs.Follows.{IsAside, Does, Unread, AsideFollows, FrameFollows, LossFollows}
use Rattle.hub_work.specs.Works.{KeepsBooks}
use Rattle.hub_core.specs.Taking.{SameWork, place_or, Rise, FollowsAll, AsideOrLost, LosesIn, DeliversIn}
use Rattle.hub_core.proofs.Following.{around}
use Rattle.hub_core.proofs.Keeps.{books_same, books_later}
use Rattle.hub_core.proofs.Quiet.{Asides, FitsThen, aside_fits, nothing_aside}

-- ---- one moment that the work is told of

module _ (w v : Work) (now : ℕ) (s : SameWork w v) (law : AsideFollows) (It : Moment → Type 0) where
  pub one_follows : ((jobs : List Job) (before at : ℕ) (m : Moment) (l : List Moment) → KeepsBooks at w → Fits jobs w before at l → at < m.at → It m → Fits jobs v m.now m.at (m ∷ l)) → FollowsAll (One It) now w v
  one_follows it jobs at added l books fits rise one then =
      let all : FitsThen jobs v (time (added ++ l)) (place_or at added) (added ++ l) = around (FitsThen jobs w) (FitsThen jobs v) It (aside_fits jobs w law) (aside_fits jobs v law) step at added l rise one (books, fits) in
      subst (λ (t : ℕ). Fits jobs v t (place_or at added) (added ++ l)) then all.1
    where
      step : (before at : ℕ) (m : Moment) (l : List Moment) → FitsThen jobs w before at l → at < m.at → It m → FitsThen jobs v m.now m.at (m ∷ l)
      step before at m l h lt is = (books_same w v s m.at (books_later at m.at w (omega (arith, lt)) h.0), it jobs before at m l h.0 h.1 lt is)

pub loss_follows : (w v : Work) (now : ℕ) → SameWork w v → AsideFollows → ((then : ℕ) → LossFollows w v then) → FollowsAll (One IsLoss) now w v
loss_follows w v now s law f = one_follows w v now s law IsLoss (λ jobs before at m l books fits lt is. f m.now jobs before at m.at m l books fits (record { time = λ i. m.now; after = lt; within = omega arith }) is)

pub frame_follows : (w v : Work) (frame : Ldata) (now : ℕ) → SameWork w v → AsideFollows → FrameFollows w v frame now → FollowsAll (One (TakesAt frame now)) now w v
frame_follows w v frame now s law f = one_follows w v now s law (TakesAt frame now) (λ jobs before at m l books fits lt is.
    subst (λ (t : ℕ). Fits jobs v t m.at (m ∷ l)) (sym is.then) (f jobs before at m.at is.octets m l books fits (record { time = is.then; after = lt; within = omega arith }) is.takes is.reads))

-- the closing is nothing to what fits
pub closing_fits : (jobs : List Job) (v : Work) (x : Option Closing) (now at : ℕ) (l : List Moment) → Fits jobs v now at l → Fits jobs (record v { closing = x }) now at l
closing_fits jobs v x now at l f = record {
  devices = f.devices;
  tasks = f.tasks;
  sendable = f.sendable;
  so_far = f.so_far;
  untaken = f.untaken;
  held = λ k worker since job there is. held_fits k worker job (f.held k worker since job there is);
  telegram = f.telegram;
  group = f.group;
  free = f.free;
}
  where
    held_fits : {ms : List Moment} (k worker : ℕ) (job : Job) → FitsJob v now ms k worker job → FitsJob (record v { closing = x }) now ms k worker job
    held_fits k worker job h = record { from_1 = h.from_1; state = h.state; there = h.there; device = h.device; plan = h.plan; fits = h.fits; flight = h.flight; holds = h.holds }

pub closing_follows : (AreSo : List Moment → Type 0) (now : ℕ) (w v : Work) (x : Option Closing) → FollowsAll AreSo now w v → FollowsAll AreSo now w (record v { closing = x })
closing_follows AreSo now w v x f jobs at added l books fits rise so then = closing_fits jobs v x now (place_or at added) (added ++ l) (f jobs at added l books fits rise so then)

place_above : (at : ℕ) (added : List Moment) → Rise at added → at ≤ place_or at added
place_above at [] rise = omega arith
place_above at (m ∷ added) rise = (let f = rise.0 in let g = place_above at added rise.1 in omega (arith, f, g))

-- ---- what a poll brought, and then the loss

one_aside : (P : Moment → Type 0) (l : List Moment) → ((m : Moment) → P m → IsAside m.what) → One P l → Asides l
one_aside P l is one = subst Asides (sym one.all) (there one.newer one.newer_nothing) where
  there : (newer : List Moment) → Every IsNothing newer → Asides (newer ++ one.m ∷ one.older)
  there [] h = (is one.m one.is, nothing_aside one.older one.older_nothing)
  there (x ∷ newer) h = (Does h.0, there newer h.1)

or_lost : (loss : Loss) (l : List Moment) → OrLoses loss l → AsideOrLost loss l
or_lost Stays l h = nothing_aside l h
or_lost Ended l h = h
or_lost Told l h = h

unread_or_lost : (loss : Loss) (l : List Moment) → OrLoses loss l ⊎ (One TakesUnread l × (loss ≡ Stays)) → AsideOrLost loss l
unread_or_lost loss l (inl h) = or_lost loss l h
unread_or_lost loss l (inr h) = subst (λ (x : Loss). AsideOrLost x l) (sym h.1) (one_aside TakesUnread l (λ m u. Unread u.octets u.takes u.unread) h.0)

module _ (old between new : Work) (loss : Loss) (now : ℕ) (lost : LosesIn loss now between new) where
  -- nothing was told before
  from_same : (AreSo : List Moment → Type 0) → ((l : List Moment) → AreSo l → AsideOrLost loss l) → between ≡ old → FollowsAll AreSo now old new
  from_same AreSo is e jobs at added l books fits rise so then =
      lost jobs at added l (subst (KeepsBooks at) (sym e) books) (subst (λ (w : Work). Fits jobs w (time l) at l) (sym e) fits) rise (is added so) then

  -- a frame was told, and then no loss
  from_frame : (frame : Ldata) → SameWork old between → FollowsAll (One (TakesAt frame now)) now old between → FollowsAll (λ l. One (TakesAt frame now) l × (loss ≡ Stays)) now old new
  from_frame frame s first jobs at added l books fits rise so then =
      let fitted : Fits jobs between now (place_or at added) (added ++ l) = first jobs at added l books fits rise so.0 then in
      let there : Fits jobs between (time (added ++ l)) (place_or at added) (added ++ l) = subst (λ (t : ℕ). Fits jobs between t (place_or at added) (added ++ l)) (sym then) fitted in
      let kept : KeepsBooks (place_or at added) between = books_same old between s (place_or at added) (books_later at (place_or at added) old (place_above at added rise) books) in
      let none : AsideOrLost loss [] = subst (λ (x : Loss). AsideOrLost x []) (sym so.1) tt in
      lost jobs (place_or at added) [] (added ++ l) kept there tt none then

  pub taken_follows : (what : What) → SameWork old between → DeliversIn what now old between → FollowsAll (DoesSo what loss now) now old new
  taken_follows came.Quiet s d = from_same (OrLoses loss) (or_lost loss) d
  taken_follows came.Dropped s d = from_same (λ l. OrLoses loss l ⊎ (One TakesUnread l × (loss ≡ Stays))) (unread_or_lost loss) d
  taken_follows came.Tunnel s d = from_same (OrLoses loss) (or_lost loss) d
  taken_follows (came.Up tunnel) s d = from_same (λ l. OrLoses loss l × (loss ≡ Stays)) (λ l h. or_lost loss l h.0) d
  taken_follows (came.Frame frame) s d = from_frame frame s d
