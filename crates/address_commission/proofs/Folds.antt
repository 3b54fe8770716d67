-- What is read off moments and entries, over those that a call adds.
use Rattle.std.proofs.Common.{◌≡◌, ℕ, suc, ◌≤◌, List, [], ◌∷◌, ◌++◌, Bool, true, false, cond, ◌||◌, refl, sym, ◌∙◌, ap, subst, arith}
use Rattle.std.specs.List.{AllByRecursion, list_any}
use Rattle.knx_model.specs.declared.address.IndAddr.{IndAddr}
use Rattle.line_model.specs.Record.{Item, Put, Renewed, Got, Quiet, Placed, entries, is_got, is_poll}
use Rattle.line_model.specs.ClientView.{Deed, Puts, Takes, Loses, Nothing, channel, deed}
use Rattle.line_model.specs.Faults.{is_counted, datagrams_taken}
use Rattle.line_model.specs.Moments.{Moment, is_loss}
use Rattle.line_model.specs.Signs.{Every}
use Rattle.tunnel_link.specs.Adds.{IsNothing, PutsNone, One, moments_on}
use Rattle.address_talk.specs.Rounds.{Round, after_deed, rounds, quiet_since, has_lost}
use Rattle.address_talk.specs.Talk.{DoesRightly, TalksRightly}

-- ---- rounds, and losses

pub nothing_rounds : (l ms : List Moment) → Every IsNothing l → rounds (l ++ ms) ≡ rounds ms
nothing_rounds [] ms h = refl
nothing_rounds (m ∷ l) ms h = rw h.0 (nothing_rounds l ms h.1)

pub nothing_lost : (l ms : List Moment) → Every IsNothing l → has_lost (l ++ ms) ≡ has_lost ms
nothing_lost [] ms h = refl
nothing_lost (m ∷ l) ms h = rw h.0 (nothing_lost l ms h.1)

split_rounds : (newer : List Moment) (m : Moment) (older ms : List Moment) → Every IsNothing newer → Every IsNothing older → rounds ((newer ++ m ∷ older) ++ ms) ≡ after_deed m.what (rounds ms)
split_rounds [] m older ms n o = ap (λ (rs : List Round). after_deed m.what rs) (nothing_rounds older ms o)
split_rounds (x ∷ newer) m older ms n o = rw n.0 (split_rounds newer m older ms n.1 o)

pub one_rounds : (P : Moment → Type 0) (l ms : List Moment) (o : One P l) → rounds (l ++ ms) ≡ after_deed o.m.what (rounds ms)
one_rounds P l ms o = ap (λ (z : List Moment). rounds (z ++ ms)) o.all ∙ split_rounds o.newer o.m o.older ms o.newer_nothing o.older_nothing

split_lost : (newer : List Moment) (m : Moment) (older ms : List Moment) → Every IsNothing newer → Every IsNothing older → has_lost ((newer ++ m ∷ older) ++ ms) ≡ is_loss m.what || has_lost ms
split_lost [] m older ms n o = ap (λ (b : Bool). is_loss m.what || b) (nothing_lost older ms o)
split_lost (x ∷ newer) m older ms n o = rw n.0 (split_lost newer m older ms n.1 o)

pub one_lost : (P : Moment → Type 0) (l ms : List Moment) (o : One P l) → has_lost (l ++ ms) ≡ is_loss o.m.what || has_lost ms
one_lost P l ms o = ap (λ (z : List Moment). has_lost (z ++ ms)) o.all ∙ split_lost o.newer o.m o.older ms o.newer_nothing o.older_nothing

-- ---- no request is put

abbrev pub NotPuts : Deed → Type 0
NotPuts (Puts cemi) = ⊥
NotPuts _ = Unit {0}

abbrev pub PutsNo : Moment → Type 0
PutsNo m = NotPuts m.what

pub nothing_puts : (l : List Moment) → Every IsNothing l → Every PutsNo l
nothing_puts [] h = tt
nothing_puts (m ∷ l) h = (rw h.0 tt, nothing_puts l h.1)

split_puts : (newer : List Moment) (m : Moment) (older : List Moment) → Every IsNothing newer → PutsNo m → Every IsNothing older → Every PutsNo (newer ++ m ∷ older)
split_puts [] m older n p o = (p, nothing_puts older o)
split_puts (x ∷ newer) m older n p o = (rw n.0 tt, split_puts newer m older n.1 p o)

pub one_puts : (P : Moment → Type 0) (l : List Moment) (o : One P l) → PutsNo o.m → Every PutsNo l
one_puts P l o p = rw o.all (split_puts o.newer o.m o.older o.newer_nothing p o.older_nothing)

pub not_puts : (d : Deed) → ((octets : List ℕ) → d ≡ Puts octets → ⊥) → NotPuts d
not_puts (Puts cemi) h = h cemi refl
not_puts (Takes cemi) h = tt
not_puts Loses h = tt
not_puts Nothing h = tt

pub puts_none : (l : List Moment) → Every PutsNone l → Every PutsNo l
puts_none [] h = tt
puts_none (m ∷ l) h = (not_puts m.what h.0, puts_none l h.1)

does_so : (wanted : IndAddr) (older : List Placed) (d : Deed) → NotPuts d → DoesRightly wanted older d
does_so wanted older (Puts cemi) h = absurd h
does_so wanted older (Takes cemi) h = tt
does_so wanted older Loses h = tt
does_so wanted older Nothing h = tt

pub talks_on : (wanted : IndAddr) (old added : List Placed) → Every PutsNo (moments_on old added) → TalksRightly wanted old → TalksRightly wanted (added ++ old)
talks_on wanted old [] n t = t
talks_on wanted old (p ∷ added) n t = (does_so wanted (added ++ old) (deed (channel (entries (added ++ old))) p.what) n.0, talks_on wanted old added n.1 t)

-- ---- datagrams

abbrev pub NoGot : List Placed → Type 0
NoGot [] = Unit {0}
NoGot (p ∷ l) = (is_got p.what.what ≡ false) × NoGot l

pub not_got : (what : Item) → is_poll what ≡ false → is_got what ≡ false
not_got (Put octets) h = refl
not_got Renewed h = refl
not_got (Got octets) h = absurd (cc)
not_got Quiet h = refl

pub left_false : (a b : Bool) → (a || b) ≡ false → a ≡ false
left_false true b h = h
left_false false b h = refl

pub right_false : (a b : Bool) → (a || b) ≡ false → b ≡ false
right_false true b h = absurd (cc)
right_false false b h = h

pub sends_no_got : (l : List Placed) → list_any (λ (p : Placed). is_poll p.what.what) l ≡ false → NoGot l
sends_no_got [] h = tt
sends_no_got (p ∷ l) h = (
  not_got p.what.what (left_false (is_poll p.what.what) (list_any (λ (p : Placed). is_poll p.what.what) l) h),
  sends_no_got l (right_false (is_poll p.what.what) (list_any (λ (p : Placed). is_poll p.what.what) l) h),
)

pub quiet_no_got : (l : List Placed) → AllByRecursion (λ (p : Placed). p.what.what ≡ Quiet) l → NoGot l
quiet_no_got [] h = tt
quiet_no_got (p ∷ l) h = (rw h.0 refl, quiet_no_got l h.1)

pub quiet_on : (l old : List Placed) → NoGot l → quiet_since (entries (l ++ old)) ≡ quiet_since (entries old)
quiet_on [] old h = refl
quiet_on (p ∷ l) old h = rw h.0 (quiet_on l old h.1)

pub count_on : (l old : List Placed) → NoGot l → datagrams_taken (entries (l ++ old)) ≡ datagrams_taken (entries old)
count_on [] old h = refl
count_on (p ∷ l) old h = rw h.0 (count_on l old h.1)

pub poll_quiet : (sent : List Placed) (last : Placed) (waits old : List Placed) → NoGot sent → NoGot waits → quiet_since (entries ((sent ++ (last ∷ waits)) ++ old)) ≡ cond (is_got last.what.what) last.what.now (quiet_since (entries old))
poll_quiet [] last waits old s w = ap (λ (n : ℕ). cond (is_got last.what.what) last.what.now n) (quiet_on waits old w)
poll_quiet (p ∷ sent) last waits old s w = rw s.0 (poll_quiet sent last waits old s.1 w)

one_more : (t : Bool) (n : ℕ) → cond t (suc n) n ≤ suc n
one_more true n = omega arith
one_more false n = omega arith

pub poll_count : (sent : List Placed) (last : Placed) (waits old : List Placed) → NoGot sent → NoGot waits → datagrams_taken (entries ((sent ++ (last ∷ waits)) ++ old)) ≤ suc (datagrams_taken (entries old))
poll_count [] last waits old s w =
    subst (λ (n : ℕ). cond (is_counted (entries (waits ++ old)) last.what) (suc n) n ≤ suc (datagrams_taken (entries old))) (sym (count_on waits old w))
    (one_more (is_counted (entries (waits ++ old)) last.what) (datagrams_taken (entries old)))
poll_count (p ∷ sent) last waits old s w = rw s.0 (poll_count sent last waits old s.1 w)
