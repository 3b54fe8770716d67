-- What is kept of the talk is what the record says, after what a poll brought.
use Rattle.std.proofs.Common.{◌≡◌, ℕ, ◌⊎◌, inl, inr, List, [], ◌∷◌, ◌++◌, Bool, true, false, cond, ◌||◌, Option, Some, None, refl, sym, ◌∙◌, ap, subst, append_assoc}
use Rattle.knx_model.specs.declared.address.IndAddr.{IndAddr}
use Rattle.knx_model.specs.declared.frames.cemi.Ldata.{Ldata}
use Rattle.line_model.specs.Reading.{ldata_in}
use Rattle.line_model.specs.Record.{Entry, is_got}
use Rattle.line_model.specs.ClientView.{Deed, Takes, Loses}
use Rattle.line_model.specs.Moments.{Moment, is_loss}
use Rattle.line_model.specs.Signs.{Every}
use Rattle.tunnel_link.specs.declared.came.Loss.{Loss}
use Rattle.tunnel_link.specs.declared.came.Loss.TheVariants.{Stays, Ended, Told}
use Rattle.tunnel_link.specs.declared.came.What.{What}
use Rattle.tunnel_link.specs.declared.came.What.TheVariants as came
use Rattle.tunnel_link.specs.Adds.{IsNothing, One, OrLoses, TakesAt, TakesUnread, DoesSo, GotSo}
use Rattle.address_talk.specs.Rounds.{Round, and_answer, answer_in, confirmed_by, with_frame, on_newest, after_deed, rounds, is_read, answers, has_lost, GoOn}
use Rattle.address_commission.specs.Listening.{HeardSo, HearsRounds, TakesFrame, HearsWhat}
use Rattle.address_commission.specs.declared.ear.Ear.{Ear}
use Rattle.address_commission.proofs.Folds.{nothing_rounds, nothing_lost, one_rounds, one_lost, PutsNo, nothing_puts, one_puts}

-- ---- the rounds go on

pub go_same : (rs : List Round) → GoOn rs rs
go_same [] = tt
go_same (r ∷ rs) = (refl, refl)

pub go_on : (rs ss ts : List Round) → GoOn rs ss → GoOn ss ts → GoOn rs ts
go_on [] [] [] g h = tt
go_on [] [] (t ∷ ts) g h = absurd h
go_on [] (s ∷ ss) ts g h = absurd g
go_on (r ∷ rs) [] ts g h = absurd g
go_on (r ∷ rs) (s ∷ ss) [] g h = absurd h
go_on (r ∷ rs) (s ∷ ss) (t ∷ ts) g h = (h.0 ∙ g.0, h.1 ∙ g.1)

pub go_frame : (o : Option Ldata) (rs : List Round) → GoOn rs (on_newest (with_frame o) rs)
go_frame o [] = tt
go_frame None (r ∷ rs) = (refl, refl)
go_frame (Some frame) (r ∷ rs) = (refl, refl)

-- ---- what was heard

answers_with : (t : Bool) (older own : List IndAddr) (o : Option IndAddr) → cond t (and_answer own o) (older ++ and_answer own o) ≡ and_answer (cond t own (older ++ own)) o
answers_with true older own o = refl
answers_with false older own None = refl
answers_with false older own (Some s) = sym (append_assoc older own (s ∷ []))

hears_frame : (e f : Ear) (frame : Ldata) (now : ℕ) (rs : List Round) → TakesFrame frame now e f → HearsRounds e rs → HearsRounds f (on_newest (with_frame (Some frame)) rs)
hears_frame e f frame now [] t h = tt
hears_frame e f frame now (r ∷ rs) t h = (
  subst (λ (l : List IndAddr). HeardSo f.heard l) (sym (answers_with (is_read r.frame) (answers rs) r.answers (answer_in frame))) (t.heard (answers (r ∷ rs)) h.0),
  t.confirmed ∙ ap (λ (c : Option Bool). confirmed_by c frame) h.1,
)

hears_unread : (e : Ear) (rs : List Round) → HearsRounds e rs → HearsRounds e (on_newest (with_frame None) rs)
hears_unread e [] h = tt
hears_unread e (r ∷ rs) h = h

hears_later : (e : Ear) (n : ℕ) (rs : List Round) → HearsRounds e rs → HearsRounds (record e { since = n }) rs
hears_later e n [] h = tt
hears_later e n (r ∷ rs) h = h

-- ---- of a poll's moments, before which were these

pub record Hearing (f : Ear) (loss : Loss) (l ms : List Moment) : Type 0 where
  pub hears : HearsRounds f (rounds (l ++ ms))
  pub goes : GoOn (rounds ms) (rounds (l ++ ms))
  pub puts : Every PutsNo l
  pub stays : loss ≡ Stays → has_lost (l ++ ms) ≡ has_lost ms
  pub lost : (loss ≡ Stays → ⊥) → has_lost (l ++ ms) ≡ true

still : (f : Ear) (l ms : List Moment) → Every IsNothing l → HearsRounds f (rounds ms) → Hearing f Stays l ms
still f l ms n h = record {
  hears = subst (HearsRounds f) (sym (nothing_rounds l ms n)) h;
  goes = subst (GoOn (rounds ms)) (sym (nothing_rounds l ms n)) (go_same (rounds ms));
  puts = nothing_puts l n;
  stays = λ e. nothing_lost l ms n;
  lost = λ e. absurd (e refl);
}

loses : (f : Ear) (loss : Loss) (l ms : List Moment) → (loss ≡ Stays → ⊥) → One (λ (m : Moment). m.what ≡ Loses) l → HearsRounds f (rounds ms) → Hearing f loss l ms
loses f loss l ms other o h =
    let same : rounds (l ++ ms) ≡ rounds ms = one_rounds (λ (m : Moment). m.what ≡ Loses) l ms o ∙ ap (λ (d : Deed). after_deed d (rounds ms)) o.is in
    record {
      hears = subst (HearsRounds f) (sym same) h;
      goes = subst (GoOn (rounds ms)) (sym same) (go_same (rounds ms));
      puts = one_puts (λ (m : Moment). m.what ≡ Loses) l o (rw o.is tt);
      stays = λ e. absurd (other e);
      lost = λ e. one_lost (λ (m : Moment). m.what ≡ Loses) l ms o ∙ ap (λ (d : Deed). is_loss d || has_lost ms) o.is;
    }

or_loses : (f : Ear) (loss : Loss) (l ms : List Moment) → OrLoses loss l → HearsRounds f (rounds ms) → Hearing f loss l ms
or_loses f Stays l ms n h = still f l ms n h
or_loses f Ended l ms o h = loses f Ended l ms (λ e. cc) o h
or_loses f Told l ms o h = loses f Told l ms (λ e. cc) o h

taking : (f : Ear) (P : Moment → Type 0) (l ms : List Moment) (o : One P l) (octets : List ℕ) → o.m.what ≡ Takes octets → HearsRounds f (on_newest (with_frame (ldata_in octets)) (rounds ms)) → Hearing f Stays l ms
taking f P l ms o octets is h =
    let now : rounds (l ++ ms) ≡ on_newest (with_frame (ldata_in octets)) (rounds ms) = one_rounds P l ms o ∙ ap (λ (d : Deed). after_deed d (rounds ms)) is in
    record {
      hears = subst (HearsRounds f) (sym now) h;
      goes = subst (GoOn (rounds ms)) (sym now) (go_frame (ldata_in octets) (rounds ms));
      puts = one_puts P l o (rw is tt);
      stays = λ e. one_lost P l ms o ∙ ap (λ (d : Deed). is_loss d || has_lost ms) is;
      lost = λ e. absurd (e refl);
    }

unread : (f : Ear) (loss : Loss) (l ms : List Moment) → One TakesUnread l → loss ≡ Stays → HearsRounds f (rounds ms) → Hearing f loss l ms
unread f loss l ms o s h =
    rw s (taking f TakesUnread l ms o o.is.octets o.is.takes (subst (λ (z : Option Ldata). HearsRounds f (on_newest (with_frame z) (rounds ms))) (sym o.is.unread) (hears_unread f (rounds ms) h)))

dropped : (f : Ear) (loss : Loss) (l ms : List Moment) → OrLoses loss l ⊎ (One TakesUnread l × (loss ≡ Stays)) → HearsRounds f (rounds ms) → Hearing f loss l ms
dropped f loss l ms (inl o) h = or_loses f loss l ms o h
dropped f loss l ms (inr u) h = unread f loss l ms u.0 u.1 h

pub poll_heard : (e f : Ear) (what : What) (loss : Loss) (then now : ℕ) (l ms : List Moment) → DoesSo what loss then l → HearsWhat what now e f → HearsRounds e (rounds ms) → Hearing f loss l ms
poll_heard e f came.Quiet loss then now l ms d w h = rw w (or_loses e loss l ms d h)
poll_heard e f came.Dropped loss then now l ms d w h = rw w (dropped (record e { since = now }) loss l ms d (hears_later e now (rounds ms) h))
poll_heard e f came.Tunnel loss then now l ms d w h = rw w (or_loses (record e { since = now }) loss l ms d (hears_later e now (rounds ms) h))
poll_heard e f (came.Up tunnel) loss then now l ms d w h = rw w (or_loses (record e { since = now }) loss l ms d.0 (hears_later e now (rounds ms) h))
poll_heard e f (came.Frame frame) loss then now l ms d w h =
    let o = d.0 in
    rw d.1 (taking f (TakesAt frame then) l ms o o.is.octets o.is.takes (subst (λ (z : Option Ldata). HearsRounds f (on_newest (with_frame z) (rounds ms))) (sym o.is.reads) (hears_frame e f frame now (rounds ms) w h)))

-- ---- when a datagram came last

pub poll_since : (e f : Ear) (what : What) (now quiet : ℕ) (r : List Entry) (x : Entry) → GotSo what r x → HearsWhat what now e f → now ≡ x.now → e.since ≡ quiet → f.since ≡ cond (is_got x.what) x.now quiet
poll_since e f came.Quiet now quiet r x g w t s = rw (g, w) s
poll_since e f came.Dropped now quiet r x g w t s = rw (g.0.got, w) t
poll_since e f came.Tunnel now quiet r x g w t s = rw (g.0.got, w) t
poll_since e f (came.Up tunnel) now quiet r x g w t s = rw (g.0.got, w) t
poll_since e f (came.Frame frame) now quiet r x g w t s = rw g.0.got (w.since ∙ t)
