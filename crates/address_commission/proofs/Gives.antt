-- The search, and what comes of the talk.
use Rattle.std.proofs.Common.{◌≡◌, ◌≢◌, ℕ, suc, ◌<◌, List, [], ◌∷◌, ◌++◌, length, Bool, true, false, Option, Some, None, Result, Ok, Err, refl, sym, ◌∙◌, ap, subst, append_assoc, arith}
use Rattle.std.specs.Prelude.{OnOk}
use Rattle.knx_model.specs.declared.address.IndAddr.{IndAddr}
use Rattle.line_model.specs.Record.{Placed}
use Rattle.line_model.specs.LinkStory.{Story, Clock, clock_of}
use Rattle.line_model.specs.Moments.{moments}
use Rattle.address_world.specs.declared.asked.Asked.TheVariants.{Read, Connect, Disconnect, Write}
use Rattle.address_talk.specs.declared.assigned.AssignFault.{AssignFault}
use Rattle.address_talk.specs.declared.assigned.Assigned.{Assigned}
use Rattle.address_talk.specs.declared.assigned.Assigned.TheVariants.{Done, NoUnit, Several, Taken, Unconfirmed}
use Rattle.address_commission.specs.declared.ear.Ear.{Ear}
use Rattle.address_commission.specs.declared.ear.Heard.{Heard}
use Rattle.address_commission.specs.declared.ear.Heard.TheVariants as ear
use Rattle.address_talk.specs.Rounds.{Round, rounds, answers}
use Rattle.address_talk.specs.Talk.{AsksFor, AllSilent, Searches, OneOther, MayAsk, ReadsFirst, Connects, Disconnects, Writes, ReadsLast, Gives, NobodyAnswers, HasItAlready, ManyAnswer, ManyAnswerLate, AnotherHasIt, HasItNow, IsntSure}
use Rattle.address_commission.specs.Going.{Going, OneMore, AsksOne}
use Rattle.address_commission.specs.Listening.{HeardSo, HearsRounds, Begins, IsTurnTo, IsOut, SearchedSo, FoundSo, TriedBy, SureSo}
use Rattle.address_talk.specs.Ends.{AnsweredBy}
use Rattle.address_commission.proofs.Asks.{read_is}
use Rattle.address_commission.specs.Exact.{WhereClock}
use Rattle.tunnel_link.specs.Rights.{WhereTold}

-- ---- so many reads that nobody answered before the newest one

abbrev pub HasRead : IndAddr → ℕ → List Round → Type 0
HasRead wanted n [] = ⊥
HasRead wanted n (r ∷ before) = AsksFor wanted Read r × AllSilent wanted before × (length before ≡ n)

pub has_read : (wanted : IndAddr) (n : ℕ) (old new : List Round) → OneMore wanted Read old new → AllSilent wanted old → length old ≡ n → HasRead wanted n new
has_read wanted n old [] m s e = absurd m
has_read wanted n old (r ∷ rs) m s e = (m.0, subst (AllSilent wanted) (sym m.1) s, ap length m.1 ∙ e)

-- what a read was answered
read_answers : (wanted : IndAddr) (r : Round) (before : List Round) → AsksFor wanted Read r → answers (r ∷ before) ≡ r.answers
read_answers wanted r before reads = rw (reads, read_is wanted) refl

nobody_by : (wanted : IndAddr) (n : ℕ) (e : Ear) (rs : List Round) → HasRead wanted n rs → HearsRounds e rs → e.heard ≡ ear.Nobody → AllSilent wanted rs × (length rs ≡ suc n)
nobody_by wanted n e [] h l none = absurd h
nobody_by wanted n e (r ∷ before) h l none =
    let silent : answers (r ∷ before) ≡ [] = subst (λ (x : Heard). HeardSo x (answers (r ∷ before))) none l.0 in
    ((record { reads = h.0; silent = sym (read_answers wanted r before h.0) ∙ silent }, h.1), ap suc h.2)

pub begin_read : (wanted : IndAddr) (s : Story) → WhereTold Begins s → WhereTold (IsTurnTo wanted Read) s
begin_read wanted s h p e =
    let b = h p e in
    record { may = subst (λ (rs : List Round). MayAsk wanted rs Read) (sym b.nothing) (ReadsFirst tt (omega arith)); heard_out = rw b.nothing tt; place = b.place }

pub first_read : (wanted : IndAddr) (s t : Story) → WhereTold Begins s → Going (AsksOne wanted Read) s t → WhereTold (λ places. HasRead wanted 0 (rounds (moments places))) t
first_read wanted s t h m new p =
    let x = m new p in
    let b = h x.old x.told in
    has_read wanted 0 (rounds (moments x.old)) (rounds (moments new)) x.is (rw b.nothing tt) (rw b.nothing refl)

-- nobody answered, and there is a read left
pub read_again : (wanted : IndAddr) (n : ℕ) (e : Ear) (s : Story) → n < 2 → WhereTold (λ places. HasRead wanted n (rounds (moments places))) s → WhereClock (IsOut wanted e) s → e.heard ≡ ear.Nobody → WhereTold (IsTurnTo wanted Read) s
read_again wanted n e s less h out none p q =
    let o = out p q in
    let k = nobody_by wanted n e (rounds (moments p)) (h p q) o.listens.hears.rounds_so none in
    record { may = ReadsFirst k.0 (omega (arith, k.1)); heard_out = o.heard_out; place = o.place }

pub next_read : (wanted : IndAddr) (n : ℕ) (e : Ear) (s t : Story) → WhereTold (λ places. HasRead wanted n (rounds (moments places))) s → WhereClock (IsOut wanted e) s → e.heard ≡ ear.Nobody → Going (AsksOne wanted Read) s t
    → WhereTold (λ places. HasRead wanted (suc n) (rounds (moments places))) t
next_read wanted n e s t h out none m new p =
    let x = m new p in
    let k = nobody_by wanted n e (rounds (moments x.old)) (h x.old x.told) (out x.old x.told).listens.hears.rounds_so none in
    has_read wanted (suc n) (rounds (moments x.old)) (rounds (moments new)) x.is k.0 k.1

searches_by : (wanted : IndAddr) (n : ℕ) (heard : Heard) (rs : List Round) → n < 3 → HasRead wanted n rs → (heard ≡ ear.Nobody → ⊥) → SearchedSo wanted heard rs
searches_by wanted n ear.Nobody rs less h some = absurd (some refl)
searches_by wanted n (ear.One source) [] less h some = absurd h
searches_by wanted n (ear.Several a b) [] less h some = absurd h
searches_by wanted n (ear.One source) (r ∷ before) less h some = record { reads = h.0; silent = h.1; few = omega (arith, h.2) }
searches_by wanted n (ear.Several a b) (r ∷ before) less h some = record { reads = h.0; silent = h.1; few = omega (arith, h.2) }

pub somebody : (wanted : IndAddr) (n : ℕ) (e : Ear) (s : Story) → n < 3 → WhereTold (λ places. HasRead wanted n (rounds (moments places))) s → (e.heard ≡ ear.Nobody → ⊥) → WhereTold (λ places. SearchedSo wanted e.heard (rounds (moments places))) s
somebody wanted n e s less h some p q = searches_by wanted n e.heard (rounds (moments p)) less (h p q) some

last_by : (wanted : IndAddr) (e : Ear) (heard : Heard) (rs : List Round) → e.heard ≡ heard → HasRead wanted 2 rs → HearsRounds e rs → SearchedSo wanted heard rs
last_by wanted e ear.Nobody rs is h l = nobody_by wanted 2 e rs h l is
last_by wanted e (ear.One source) rs is h l = searches_by wanted 2 (ear.One source) rs (omega arith) h (λ z. cc)
last_by wanted e (ear.Several a b) rs is h l = searches_by wanted 2 (ear.Several a b) rs (omega arith) h (λ z. cc)

pub anybody : (wanted : IndAddr) (e : Ear) (s : Story) → WhereTold (λ places. HasRead wanted 2 (rounds (moments places))) s → WhereClock (IsOut wanted e) s → WhereTold (λ places. SearchedSo wanted e.heard (rounds (moments places))) s
anybody wanted e s h out p q = last_by wanted e e.heard (rounds (moments p)) refl (h p q) (out p q).listens.hears.rounds_so

-- ---- what came of the search

answer : (wanted : IndAddr) (assigned : Assigned) (e : Ear) (clock : Clock) (places : List Placed) → IsOut wanted e clock places → Gives wanted (rounds (moments places)) assigned → AnsweredBy wanted assigned clock places
answer wanted assigned e clock places o g = record { stands = o.listens.stands; place = o.place; heard_out = o.heard_out; gives = g }

found_by : (wanted : IndAddr) (assigned : Assigned) (heard : Heard) (e : Ear) (rs : List Round) → e.heard ≡ heard → FoundSo wanted heard (Some assigned) → SearchedSo wanted heard rs → HearsRounds e rs → Gives wanted rs assigned
found_by wanted assigned ear.Nobody e rs is f s l = let q : NoUnit ≡ assigned = sym (cc) in subst (Gives wanted rs) q (NobodyAnswers s.0 s.1)
found_by wanted assigned (ear.One source) e [] is f s l = absurd s
found_by wanted assigned (ear.One source) e (r ∷ before) is f s l =
    subst (Gives wanted (r ∷ before)) (sym f.1) (HasItAlready s (subst (λ (x : IndAddr). answers (r ∷ before) ≡ x ∷ []) f.0 (subst (λ (x : Heard). HeardSo x (answers (r ∷ before))) is l.0)))
found_by wanted assigned (ear.Several first second) e [] is f s l = absurd s
found_by wanted assigned (ear.Several first second) e (r ∷ before) is f s l =
    let q : Several first second ≡ assigned = sym (cc) in
    subst (Gives wanted (r ∷ before)) q (ManyAnswer first second s (subst (λ (x : Heard). HeardSo x (answers (r ∷ before))) is l.0))

pub found_gives : (wanted : IndAddr) (assigned : Assigned) (e : Ear) (s : Story) → FoundSo wanted e.heard (Some assigned) → WhereTold (λ places. SearchedSo wanted e.heard (rounds (moments places))) s → WhereClock (IsOut wanted e) s → WhereClock (AnsweredBy wanted assigned) s
found_gives wanted assigned e s f h out p q = let o = out p q in answer wanted assigned e (clock_of s) p o (found_by wanted assigned e.heard e (rounds (moments p)) refl f (h p q) o.listens.hears.rounds_so)

-- ---- one unit answered, and not from the wanted address

abbrev pub FoundOther : IndAddr → List Round → Type 0
FoundOther wanted [] = ⊥
FoundOther wanted (r ∷ before) = Searches wanted r before × OneOther wanted (answers (r ∷ before))

other_by : (wanted : IndAddr) (heard : Heard) (e : Ear) (rs : List Round) → e.heard ≡ heard → FoundSo wanted heard None → SearchedSo wanted heard rs → HearsRounds e rs → FoundOther wanted rs
other_by wanted ear.Nobody e rs is f s l = absurd (cc)
other_by wanted (ear.Several first second) e rs is f s l = absurd (cc)
other_by wanted (ear.One source) e [] is f s l = absurd s
other_by wanted (ear.One source) e (r ∷ before) is f s l = (s, record { source = source; one = subst (λ (x : Heard). HeardSo x (answers (r ∷ before))) is l.0; other = f })

pub found_other : (wanted : IndAddr) (e : Ear) (s : Story) → FoundSo wanted e.heard None → WhereTold (λ places. SearchedSo wanted e.heard (rounds (moments places))) s → WhereClock (IsOut wanted e) s → WhereTold (λ places. FoundOther wanted (rounds (moments places))) s
found_other wanted e s f h out p q = other_by wanted e.heard e (rounds (moments p)) refl f (h p q) (out p q).listens.hears.rounds_so

may_connect : (wanted : IndAddr) (rs : List Round) → FoundOther wanted rs → MayAsk wanted rs Connect
may_connect wanted [] h = absurd h
may_connect wanted (r ∷ before) h = Connects h.0 h.1

pub connect_turn : (wanted : IndAddr) (e : Ear) (s : Story) → WhereTold (λ places. FoundOther wanted (rounds (moments places))) s → WhereClock (IsOut wanted e) s → WhereTold (IsTurnTo wanted Connect) s
connect_turn wanted e s h out p q = let o = out p q in record { may = may_connect wanted (rounds (moments p)) (h p q); heard_out = o.heard_out; place = o.place }

-- ---- the T_Connect was put

abbrev pub HasConnected : IndAddr → List Round → Type 0
HasConnected wanted [] = ⊥
HasConnected wanted (c ∷ []) = ⊥
HasConnected wanted (c ∷ r ∷ before) = AsksFor wanted Connect c × Searches wanted r before × OneOther wanted (answers (r ∷ before))

connected_by : (wanted : IndAddr) (old new : List Round) → OneMore wanted Connect old new → FoundOther wanted old → HasConnected wanted new
connected_by wanted old [] m h = absurd m
connected_by wanted [] (c ∷ rs) m h = absurd h
connected_by wanted (r ∷ before) (c ∷ rs) m h = subst (λ (z : List Round). HasConnected wanted (c ∷ z)) (sym m.1) (m.0, h.0, h.1)

pub has_connected : (wanted : IndAddr) (s t : Story) → WhereTold (λ places. FoundOther wanted (rounds (moments places))) s → Going (AsksOne wanted Connect) s t → WhereTold (λ places. HasConnected wanted (rounds (moments places))) t
has_connected wanted s t h m new p = let x = m new p in connected_by wanted (rounds (moments x.old)) (rounds (moments new)) x.is (h x.old x.told)

-- the one that answered before is the first
still_other : (wanted : IndAddr) (heard own both : List IndAddr) (source : IndAddr) → OneOther wanted heard → both ≡ heard ++ own → both ≡ source ∷ [] → OneOther wanted both
still_other wanted heard own both source o e is =
    let all : o.source ∷ own ≡ source ∷ [] = sym (e ∙ ap (λ (z : List IndAddr). z ++ own) o.one) ∙ is in
    let same : o.source ≡ source = cc in
    record { source = source; one = is; other = λ w. o.other (same ∙ w) }

not_none : (wanted : IndAddr) (heard own both : List IndAddr) → OneOther wanted heard → both ≡ heard ++ own → both ≡ [] → ⊥
not_none wanted heard own both o e is = let all : o.source ∷ own ≡ [] = sym (e ∙ ap (λ (z : List IndAddr). z ++ own) o.one) ∙ is in cc

-- ---- the T_Disconnect was put, where the T_Connect was confirmed so

may_disconnect : (wanted : IndAddr) (rs : List Round) → HasConnected wanted rs → MayAsk wanted rs Disconnect
may_disconnect wanted [] h = absurd h
may_disconnect wanted (c ∷ []) h = absurd h
may_disconnect wanted (c ∷ r ∷ before) h = Disconnects h.0

pub disconnect_turn : (wanted : IndAddr) (e : Ear) (s : Story) → WhereTold (λ places. HasConnected wanted (rounds (moments places))) s → WhereClock (IsOut wanted e) s → WhereTold (IsTurnTo wanted Disconnect) s
disconnect_turn wanted e s h out p q = let o = out p q in record { may = may_disconnect wanted (rounds (moments p)) (h p q); heard_out = o.heard_out; place = o.place }

pub record Tried (wanted : IndAddr) (connected : Option Bool) (d c r : Round) (before : List Round) : Type 0 where
  pub ends : AsksFor wanted Disconnect d
  pub asks : AsksFor wanted Connect c
  pub confirmed : c.confirmed ≡ connected
  pub some : connected ≢ None
  pub searches : Searches wanted r before
  pub one : OneOther wanted (answers (r ∷ before))

abbrev pub HasDisconnected : IndAddr → Option Bool → List Round → Type 0
HasDisconnected wanted connected [] = ⊥
HasDisconnected wanted connected (d ∷ []) = ⊥
HasDisconnected wanted connected (d ∷ c ∷ []) = ⊥
HasDisconnected wanted connected (d ∷ c ∷ r ∷ before) = Tried wanted connected d c r before

disconnected_by : (wanted : IndAddr) (e : Ear) (old new : List Round) → OneMore wanted Disconnect old new → HasConnected wanted old → HearsRounds e old → e.confirmed ≢ None → HasDisconnected wanted e.confirmed new
disconnected_by wanted e old [] m h l some = absurd m
disconnected_by wanted e [] (d ∷ rs) m h l some = absurd h
disconnected_by wanted e (c ∷ []) (d ∷ rs) m h l some = absurd h
disconnected_by wanted e (c ∷ r ∷ before) (d ∷ rs) m h l some =
    subst (λ (z : List Round). HasDisconnected wanted e.confirmed (d ∷ z)) (sym m.1) (record { ends = m.0; asks = h.0; confirmed = sym l.1; some = some; searches = h.1; one = h.2 })

pub has_disconnected : (wanted : IndAddr) (e : Ear) (s t : Story) → WhereTold (λ places. HasConnected wanted (rounds (moments places))) s → WhereClock (IsOut wanted e) s → Going (AsksOne wanted Disconnect) s t
    → WhereTold (λ places. HasDisconnected wanted e.confirmed (rounds (moments places))) t
has_disconnected wanted e s t h out m new p =
    let x = m new p in
    let o = out x.old x.told in
    disconnected_by wanted e (rounds (moments x.old)) (rounds (moments new)) x.is (h x.old x.told) o.listens.hears.rounds_so o.confirmed

-- what was heard in both rounds comes behind what was heard before them
tried_answers : (wanted : IndAddr) (d c : Round) (rs : List Round) → AsksFor wanted Disconnect d → AsksFor wanted Connect c → answers (d ∷ c ∷ rs) ≡ answers rs ++ (c.answers ++ d.answers)
tried_answers wanted d c rs ends asks = rw (ends, asks) (append_assoc (answers rs) c.answers d.answers)

tried_by : (wanted : IndAddr) (assigned : Assigned) (heard : Heard) (connected : Option Bool) (e : Ear) (d c r : Round) (before : List Round) → e.heard ≡ heard → TriedBy heard connected (Some assigned) → Tried wanted connected d c r before → HeardSo e.heard (answers (d ∷ c ∷ r ∷ before))
    → Gives wanted (d ∷ c ∷ r ∷ before) assigned
tried_by wanted assigned (ear.Several first second) connected e d c r before is t h l =
    let q : Several first second ≡ assigned = sym (cc) in
    subst (Gives wanted (d ∷ c ∷ r ∷ before)) q (ManyAnswerLate first second h.searches h.asks h.ends (subst (λ (x : Heard). HeardSo x (answers (d ∷ c ∷ r ∷ before))) is l))
tried_by wanted assigned ear.Nobody connected e d c r before is t h l =
    absurd (not_none wanted (answers (r ∷ before)) (c.answers ++ d.answers) (answers (d ∷ c ∷ r ∷ before)) h.one (tried_answers wanted d c (r ∷ before) h.ends h.asks) (subst (λ (x : Heard). HeardSo x (answers (d ∷ c ∷ r ∷ before))) is l))
tried_by wanted assigned (ear.One source) (Some false) e d c r before is t h l =
    let q : Taken ≡ assigned = sym (cc) in
    subst (Gives wanted (d ∷ c ∷ r ∷ before)) q
    (AnotherHasIt h.searches h.asks h.ends h.confirmed
    (still_other wanted (answers (r ∷ before)) (c.answers ++ d.answers) (answers (d ∷ c ∷ r ∷ before)) source h.one (tried_answers wanted d c (r ∷ before) h.ends h.asks) (subst (λ (x : Heard). HeardSo x (answers (d ∷ c ∷ r ∷ before))) is l)))
tried_by wanted assigned (ear.One source) (Some true) e d c r before is t h l = absurd (cc)
tried_by wanted assigned (ear.One source) None e d c r before is t h l = absurd (cc)

tried_rounds : (wanted : IndAddr) (assigned : Assigned) (connected : Option Bool) (e : Ear) (rs : List Round) → TriedBy e.heard connected (Some assigned) → HasDisconnected wanted connected rs → HearsRounds e rs → Gives wanted rs assigned
tried_rounds wanted assigned connected e [] t h l = absurd h
tried_rounds wanted assigned connected e (d ∷ []) t h l = absurd h
tried_rounds wanted assigned connected e (d ∷ c ∷ []) t h l = absurd h
tried_rounds wanted assigned connected e (d ∷ c ∷ r ∷ before) t h l = tried_by wanted assigned e.heard connected e d c r before refl t h l.0

pub tried_gives : (wanted : IndAddr) (assigned : Assigned) (connected : Option Bool) (e : Ear) (s : Story) → TriedBy e.heard connected (Some assigned) → WhereTold (λ places. HasDisconnected wanted connected (rounds (moments places))) s → WhereClock (IsOut wanted e) s
    → WhereClock (AnsweredBy wanted assigned) s
tried_gives wanted assigned connected e s t h out p q = let o = out p q in answer wanted assigned e (clock_of s) p o (tried_rounds wanted assigned connected e (rounds (moments p)) t (h p q) o.listens.hears.rounds_so)

may_write : (wanted : IndAddr) (heard : Heard) (connected : Option Bool) (e : Ear) (d c r : Round) (before : List Round) → e.heard ≡ heard → TriedBy heard connected None → Tried wanted connected d c r before → HeardSo e.heard (answers (d ∷ c ∷ r ∷ before))
    → MayAsk wanted (d ∷ c ∷ r ∷ before) Write
may_write wanted (ear.Several first second) connected e d c r before is t h l = absurd (cc)
may_write wanted ear.Nobody connected e d c r before is t h l =
    absurd (not_none wanted (answers (r ∷ before)) (c.answers ++ d.answers) (answers (d ∷ c ∷ r ∷ before)) h.one (tried_answers wanted d c (r ∷ before) h.ends h.asks) (subst (λ (x : Heard). HeardSo x (answers (d ∷ c ∷ r ∷ before))) is l))
may_write wanted (ear.One source) (Some true) e d c r before is t h l =
    Writes h.searches h.asks h.ends h.confirmed
    (still_other wanted (answers (r ∷ before)) (c.answers ++ d.answers) (answers (d ∷ c ∷ r ∷ before)) source h.one (tried_answers wanted d c (r ∷ before) h.ends h.asks) (subst (λ (x : Heard). HeardSo x (answers (d ∷ c ∷ r ∷ before))) is l))
may_write wanted (ear.One source) (Some false) e d c r before is t h l = absurd (cc)
may_write wanted (ear.One source) None e d c r before is t h l = absurd (h.some refl)

write_rounds : (wanted : IndAddr) (connected : Option Bool) (e : Ear) (rs : List Round) → TriedBy e.heard connected None → HasDisconnected wanted connected rs → HearsRounds e rs → MayAsk wanted rs Write
write_rounds wanted connected e [] t h l = absurd h
write_rounds wanted connected e (d ∷ []) t h l = absurd h
write_rounds wanted connected e (d ∷ c ∷ []) t h l = absurd h
write_rounds wanted connected e (d ∷ c ∷ r ∷ before) t h l = may_write wanted e.heard connected e d c r before refl t h l.0

pub write_turn : (wanted : IndAddr) (connected : Option Bool) (e : Ear) (s : Story) → TriedBy e.heard connected None → WhereTold (λ places. HasDisconnected wanted connected (rounds (moments places))) s → WhereClock (IsOut wanted e) s → WhereTold (IsTurnTo wanted Write) s
write_turn wanted connected e s t h out p q =
    let o = out p q in
    record { may = write_rounds wanted connected e (rounds (moments p)) t (h p q) o.listens.hears.rounds_so; heard_out = o.heard_out; place = o.place }

-- ---- the write was put, and addresses are read once more

abbrev pub HasWritten : IndAddr → List Round → Type 0
HasWritten wanted [] = ⊥
HasWritten wanted (w ∷ rs) = AsksFor wanted Write w

written_by : (wanted : IndAddr) (old new : List Round) → OneMore wanted Write old new → HasWritten wanted new
written_by wanted old [] m = absurd m
written_by wanted old (w ∷ rs) m = m.0

may_read : (wanted : IndAddr) (rs : List Round) → HasWritten wanted rs → MayAsk wanted rs Read
may_read wanted [] h = absurd h
may_read wanted (w ∷ rs) h = ReadsLast h

pub has_written : (wanted : IndAddr) (s t : Story) → Going (AsksOne wanted Write) s t → WhereTold (λ places. HasWritten wanted (rounds (moments places))) t
has_written wanted s t m new p = let x = m new p in written_by wanted (rounds (moments x.old)) (rounds (moments new)) x.is

pub last_turn : (wanted : IndAddr) (e : Ear) (s : Story) → WhereTold (λ places. HasWritten wanted (rounds (moments places))) s → WhereClock (IsOut wanted e) s → WhereTold (IsTurnTo wanted Read) s
last_turn wanted e s h out p q = let o = out p q in record { may = may_read wanted (rounds (moments p)) (h p q); heard_out = o.heard_out; place = o.place }

sure_by : (wanted : IndAddr) (assigned : Assigned) (heard : Heard) (e : Ear) (v w : Round) (rs : List Round) → e.heard ≡ heard → SureSo wanted heard assigned → AsksFor wanted Read v → AsksFor wanted Write w → HeardSo heard (answers (v ∷ w ∷ rs)) → Gives wanted (v ∷ w ∷ rs) assigned
sure_by wanted Done (ear.One source) e v w rs is s a b l = HasItNow a b (subst (λ (x : IndAddr). answers (v ∷ w ∷ rs) ≡ x ∷ []) s l)
sure_by wanted Unconfirmed (ear.One source) e v w rs is s a b l = IsntSure a b (λ q. s (let z : source ∷ [] ≡ wanted ∷ [] = sym l ∙ q in cc))
sure_by wanted Unconfirmed ear.Nobody e v w rs is s a b l = IsntSure a b (λ q. let z : [] ≡ wanted ∷ [] = sym l ∙ q in cc)
sure_by wanted Unconfirmed (ear.Several x y) e v w rs is s a b l = IsntSure a b (λ q. let z : x ∷ y ∷ l.more ≡ wanted ∷ [] = sym l.several ∙ q in cc)
sure_by wanted NoUnit heard e v w rs is s a b l = absurd (none heard s) where
  none : (heard : Heard) → SureSo wanted heard NoUnit → ⊥
  none ear.Nobody s = s
  none (ear.One source) s = s
  none (ear.Several x y) s = s
sure_by wanted Taken heard e v w rs is s a b l = absurd (none heard s) where
  none : (heard : Heard) → SureSo wanted heard Taken → ⊥
  none ear.Nobody s = s
  none (ear.One source) s = s
  none (ear.Several x y) s = s
sure_by wanted (Several p q) heard e v w rs is s a b l = absurd (none heard s) where
  none : (heard : Heard) → SureSo wanted heard (Several p q) → ⊥
  none ear.Nobody s = s
  none (ear.One source) s = s
  none (ear.Several x y) s = s
sure_by wanted Done ear.Nobody e v w rs is s a b l = absurd s
sure_by wanted Done (ear.Several x y) e v w rs is s a b l = absurd s

last_rounds : (wanted : IndAddr) (assigned : Assigned) (e : Ear) (old new : List Round) → OneMore wanted Read old new → HasWritten wanted old → HearsRounds e new → SureSo wanted e.heard assigned → Gives wanted new assigned
last_rounds wanted assigned e old [] m h l s = absurd m
last_rounds wanted assigned e [] (v ∷ rs) m h l s = absurd h
last_rounds wanted assigned e (w ∷ ws) (v ∷ rs) m h l s =
    let heard : HeardSo e.heard (answers (v ∷ w ∷ ws)) = subst (λ (z : List Round). HeardSo e.heard (answers (v ∷ z))) m.1 l.0 in
    subst (λ (z : List Round). Gives wanted (v ∷ z) assigned) (sym m.1) (sure_by wanted assigned e.heard e v w ws refl s m.0 h heard)

pub sure_gives : (wanted : IndAddr) (assigned : Assigned) (e : Ear) (s t : Story) → WhereTold (λ places. HasWritten wanted (rounds (moments places))) s → Going (AsksOne wanted Read) s t → WhereClock (IsOut wanted e) t → SureSo wanted e.heard assigned → WhereClock (AnsweredBy wanted assigned) t
sure_gives wanted assigned e s t h m out sure p q =
    let x = m p q in
    let o = out p q in
    answer wanted assigned e (clock_of t) p o (last_rounds wanted assigned e (rounds (moments x.old)) (rounds (moments p)) x.is (h x.old x.told) o.listens.hears.rounds_so sure)

-- ---- the third read, by its answer

pub third_searched : (wanted : IndAddr) (e f : Ear) (s t : Story) (result : Result (Unit {0}) AssignFault) → WhereTold (λ places. HasRead wanted 1 (rounds (moments places))) s → WhereClock (IsOut wanted e) s → e.heard ≡ ear.Nobody → OnOk result (Going (AsksOne wanted Read) s t) → OnOk result (WhereClock (IsOut wanted f) t)
    → OnOk result (WhereTold (λ places. SearchedSo wanted f.heard (rounds (moments places))) t)
third_searched wanted e f s t (Ok done) h out none m o = anybody wanted f t (next_read wanted 1 e s t h out none m) o
third_searched wanted e f s t (Err why) h out none m o = tt
