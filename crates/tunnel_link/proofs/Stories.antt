-- Each call of a link lets its story go on, legally, and lets time move in polls alone.
use Rattle.std.proofs.Common.{◌≡◌, inl, inr, ℕ, List, [], ◌∷◌, ◌++◌, Bool, true, false, refl, sym, subst, ap, append_assoc, arith}
use Rattle.line_model.specs.Tunnel.{Commissions}
use Rattle.line_model.specs.World.{World, Event, Send, Renew, replay}
use Rattle.line_model.specs.Legal.{MayHappen}
use Rattle.line_model.specs.Record.{Item, Put, Renewed, Entry, entry, is_poll}
use Rattle.line_model.specs.LinkStory as told
use Rattle.line_model.specs.LinkStory.{Story, Untold, Recorded, Full, clock_of, Adds, Sends, Renews, SendsOrNot, RenewsOrNot, Polls, PollsNothing, PollsFull, Same, More, AreWaits, last_wait}
use Rattle.tunnel_link.specs.Goes.{GoesOn, Goes, MovesSo, TimesMove, IsLegalRun}

-- ---- one after another

pub goes_again : (a b c : Story) → GoesOn a b → GoesOn b c → GoesOn a c
goes_again Untold b c e f = let P : Story → Type 0 = λ s. GoesOn s c in let h : c ≡ Untold = subst P e f in h
goes_again (Recorded clock r) b c g f =
    let P : Story → Type 0 = λ s. GoesOn s c in
    let h : (more : List Entry) × (c ≡ Recorded clock (more ++ (g.0 ++ r))) = subst P g.1 f in
    (h.0 ++ g.0, rw append_assoc h.1)
goes_again (Full start events) b c g f =
    let P : Story → Type 0 = λ s. GoesOn s c in
    let h : (more : List Event) × (c ≡ Full start (more ++ (g.0 ++ events))) = subst P g.1 f in
    (h.0 ++ g.0, rw append_assoc h.1)

pub goes_same : (a : Story) → GoesOn a a
goes_same Untold = refl
goes_same (Recorded clock r) = ([], refl)
goes_same (Full start events) = ([], refl)

-- its clock stays what it was
pub same_clock : (a b : Story) → GoesOn a b → clock_of b ≡ clock_of a
same_clock Untold b e = ap clock_of e
same_clock (Recorded clock r) b g = ap clock_of g.1
same_clock (Full start events) b g = ap clock_of g.1

pub goes_then : (a b c : Story) → Goes a b → Goes b c → Goes a c
goes_then a b c g h = record { on = goes_again a b c g.on h.on; keeps = λ k. h.keeps (g.keeps k) }

pub stays : (a b : Story) → b ≡ a → Goes a b
stays a b e = let P : Story → Type 0 = λ s. Goes a s in subst P (sym e) (record { on = goes_same a; keeps = λ k. k })

-- ---- times

stays_now : (b : Bool) (now : ℕ) → MovesSo b now now
stays_now true now = omega arith
stays_now false now = refl

newest_waits : (ws r : List Entry) → told.newest_time (ws ++ r) ≡ last_wait (told.newest_time r) ws
newest_waits [] r = refl
newest_waits (x ∷ ws) r = refl

waits_move : (ws r : List Entry) → AreWaits (told.newest_time r) ws → TimesMove r → TimesMove (ws ++ r)
waits_move [] r h m = m
waits_move (x ∷ ws) r h m = (rw (h.0, newest_waits ws r) (let up = h.1 in omega arith), waits_move ws r h.2 m)

-- ---- a sending and a new endpoint

legal_more : (start : World) (events : List Event) (e : Event) → MayHappen Commissions (replay start events) e → IsLegalRun start events → IsLegalRun start (e ∷ events)
legal_more start events e may k = record { fresh = k.fresh; legal = (may, k.legal) }

adds : (what : Item) (e : Event) (before after : Story) → ((w : World) → MayHappen Commissions w e) → Adds what e before after → Goes before after
adds what e before Untold may h = let P : Story → Type 0 = λ s. Goes s Untold in subst P (sym h) (record { on = refl; keeps = λ k. tt })
adds what e before (Recorded clock r) may h =
    let P : Story → Type 0 = λ s. Goes s (Recorded clock r) in
    subst P (sym h.1) (record { on = (entry what (told.newest_time h.0) ∷ [], ap (Recorded clock) h.2); keeps = λ k. subst TimesMove (sym h.2) (stays_now (is_poll what) (told.newest_time h.0), k) })
adds what e before (Full start events) may h =
    let P : Story → Type 0 = λ s. Goes s (Full start events) in
    let Q : List Event → Type 0 = λ es. IsLegalRun start es in
    subst P (sym h.1) (record { on = (e ∷ [], ap (Full start) h.2); keeps = λ k. subst Q (sym h.2) (legal_more start h.0 e (may (replay start h.0)) k) })

pub sends_goes : (octets : List ℕ) (before after : Story) → Sends octets before after → Goes before after
sends_goes octets before after h = adds (Put octets) (Send octets) before after (λ w. record { tunnel = tt; devices = tt }) h

pub sends_or_goes : (octets : List ℕ) (before after : Story) → SendsOrNot octets before after → Goes before after
sends_or_goes octets before after (inl h) = sends_goes octets before after h
sends_or_goes octets before after (inr e) = stays before after e

pub renews_goes : (before after : Story) → Renews before after → Goes before after
renews_goes before after h = adds Renewed Renew before after (λ w. record { tunnel = tt; devices = tt }) h

pub renews_or_goes : (before after : Story) → RenewsOrNot before after → Goes before after
renews_or_goes before after (inl h) = renews_goes before after h
renews_or_goes before after (inr e) = stays before after e

-- ---- a poll

foreign_goes : (start : World) (before events : List Event) → told.GoesOn start before events → Goes (Full start before) (Full start events)
foreign_goes start before events Same = stays (Full start before) (Full start before) refl
foreign_goes start before events (More {events = rest} e foreign may g) =
    goes_then (Full start before) (Full start rest) (Full start (e ∷ rest)) (foreign_goes start before rest g)
    (record { on = (e ∷ [], refl); keeps = λ k. legal_more start rest e may k })

full_goes : (what : Item) (wait : ℕ) (start : World) (before after : List Event) → PollsFull what wait start before after → Goes (Full start before) (Full start after)
full_goes what wait start before after p =
    let P : List Event → Type 0 = λ es. Goes (Full start before) (Full start es) in
    subst P (sym p.all)
    (goes_then (Full start before) (Full start p.events) (Full start (p.last ∷ p.events)) (foreign_goes start before p.events p.foreign)
    (record { on = (p.last ∷ [], refl); keeps = λ k. legal_more start p.events p.last p.legal k }))

pub polls_goes : (what : Item) (wait until : ℕ) (before after : Story) → is_poll what ≡ true → Polls what wait until before after → Goes before after
polls_goes what wait until before Untold poll h = let P : Story → Type 0 = λ s. Goes s Untold in subst P (sym h) (record { on = refl; keeps = λ k. tt })
polls_goes what wait until before (Recorded clock r) poll h =
    let P : Story → Type 0 = λ s. Goes s (Recorded clock r) in
    let all : r ≡ entry what until ∷ (h.2.waits ++ h.0) = h.2.all in
    subst P (sym h.1) (record {
      on = (entry what until ∷ h.2.waits, ap (Recorded clock) all);
      keeps = λ k. subst TimesMove (sym all) (rw (poll, newest_waits h.2.waits h.0) h.2.later, waits_move h.2.waits h.0 h.2.are k);
    })
polls_goes what wait until before (Full start events) poll h =
    let P : Story → Type 0 = λ s. Goes s (Full start events) in
    subst P (sym h.1) (full_goes what wait start h.0 events h.2)

pub nothing_goes : (wait : ℕ) (before after : Story) → PollsNothing wait before after → Goes before after
nothing_goes wait before Untold h = let P : Story → Type 0 = λ s. Goes s Untold in subst P (sym h) (record { on = refl; keeps = λ k. tt })
nothing_goes wait before (Recorded clock r) h = stays before (Recorded clock r) (sym h)
nothing_goes wait before (Full start events) h =
    let P : Story → Type 0 = λ s. Goes s (Full start events) in
    subst P (sym h.1) (foreign_goes start h.0 events h.2.foreign)
