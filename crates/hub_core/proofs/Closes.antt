-- How far a closing is after the entries of a call.
use Rattle.std.proofs.Common.{◌≡◌, ℕ, suc, ◌+◌, Bool, true, false, List, [], ◌∷◌, ◌++◌, Option, Some, None, refl, sym, ap, subst, ◌∙◌, append_assoc, arith}
use Rattle.std.specs.Prelude.{◌||◌, min, is_some, if◌then◌else◌}
use Rattle.std.specs.List.{AllByRecursion, list_any}
use Rattle.line_model.specs.Reading.{disconnect_request_in}
use Rattle.line_model.specs.Record.{Item, Put, Renewed, Got, Quiet, Entry, Placed, entries, put_in, is_got, is_poll}
use Rattle.line_model.specs.LinkStory.{newest_time}
use Rattle.line_model.specs.Closing as line
use Rattle.tunnel_link.specs.declared.came.Came.{Came}
use Rattle.tunnel_link.specs.declared.came.Loss.{Loss}
use Rattle.tunnel_link.specs.declared.came.What.{What}
use Rattle.tunnel_link.specs.declared.came.What.TheVariants as came
use Rattle.tunnel_link.specs.Adds.{GotSo, Brings, asks_end, is_told}
use Rattle.tunnel_link.specs.Goes.{MovesSo, TimesMove}
use Rattle.tunnel_link.proofs.Growth.{entries_append}
use Rattle.hub_work.specs.declared.closing.Closing.{Closing}
use Rattle.hub_work.specs.Closes.{after_datagram}
use Rattle.hub_core.specs.Closes.{capped, HasCome, resumed, Resumes, after_poll, ClosesBy}
use Rattle.hub_core.specs.Taking.{is_got as got_one}

-- ---- one entry more

abbrev pub counting : ℕ → line.Closing → line.Closing
counting now (line.Listening since n) = line.Listening now (suc n)
counting now (line.Leaving since n) = line.Leaving since (suc n)

abbrev pub poll_after : Bool → Loss → ℕ → line.Closing → line.Closing
poll_after got loss now s = if is_told loss then line.Leaving now 0 else (if got then counting now s else s)

pub quiet_after : (x : Entry) (s : line.Closing) → x.what ≡ Quiet → line.after_entry x s ≡ s
quiet_after x (line.Listening since n) e = rw e refl
quiet_after x (line.Leaving since n) e = rw e refl

pub poll_not_got : (what : Item) → is_poll what ≡ false → is_got what ≡ false
poll_not_got (Put octets) h = refl
poll_not_got Renewed h = refl
poll_not_got (Got octets) h = h
poll_not_got Quiet h = refl

sent_after : (x : Entry) (s : line.Closing) → is_poll x.what ≡ false → line.asks_to_end x ≡ false → line.after_entry x s ≡ s
sent_after x (line.Listening since n) sent asks = rw asks (rw (poll_not_got x.what sent) refl)
sent_after x (line.Leaving since n) sent asks = rw asks (rw (poll_not_got x.what sent) refl)

asked_after : (x : Entry) (s : line.Closing) → line.asks_to_end x ≡ true → line.after_entry x s ≡ line.Leaving x.now 0
asked_after x s asks = rw asks refl

got_asks_not : (what : Item) → is_got what ≡ true → is_some (disconnect_request_in (put_in what)) ≡ false
got_asks_not (Put octets) e = absurd (cc)
got_asks_not Renewed e = absurd (cc)
got_asks_not (Got octets) e = refl
got_asks_not Quiet e = absurd (cc)

got_after : (x : Entry) (s : line.Closing) → is_got x.what ≡ true → line.after_entry x s ≡ counting x.now s
got_after x (line.Listening since n) e = rw (got_asks_not x.what e) (rw e refl)
got_after x (line.Leaving since n) e = rw (got_asks_not x.what e) (rw e refl)

is_quiet : (what : Item) → is_poll what ≡ true → is_got what ≡ false → what ≡ Quiet
is_quiet (Put octets) p g = absurd (cc)
is_quiet Renewed p g = absurd (cc)
is_quiet (Got octets) p g = absurd (cc)
is_quiet Quiet p g = refl

-- ---- several

pub resumed_both : (s : line.Closing) (later earlier : List Entry) → resumed s (later ++ earlier) ≡ resumed (resumed s earlier) later
resumed_both s [] earlier = refl
resumed_both s (x ∷ later) earlier = ap (line.after_entry x) (resumed_both s later earlier)

pub closing_is : (began : ℕ) (l : List Entry) → line.closing began l ≡ resumed (line.Listening began 0) l
closing_is began [] = refl
closing_is began (x ∷ l) = ap (line.after_entry x) (closing_is began l)

resumed_quiet : (s : line.Closing) (waits : List Placed) → AllByRecursion (λ (p : Placed). p.what.what ≡ Quiet) waits → resumed s (entries waits) ≡ s
resumed_quiet s [] h = refl
resumed_quiet s (p ∷ waits) h = quiet_after p.what (resumed s (entries waits)) h.0 ∙ resumed_quiet s waits h.1

abbrev polls_in : List Placed → Bool
polls_in added = list_any (λ (p : Placed). is_poll p.what.what) added

pub or_false : (a b : Bool) → (a || b) ≡ false → (a ≡ false) × (b ≡ false)
or_false true b e = absurd (cc)
or_false false b e = (refl, e)

pub resumed_sent : (s : line.Closing) (sent : List Placed) → polls_in sent ≡ false → asks_end sent ≡ false → resumed s (entries sent) ≡ s
resumed_sent s [] none asks = refl
resumed_sent s (p ∷ sent) none asks =
    let n : (is_poll p.what.what ≡ false) × (polls_in sent ≡ false) = or_false (is_poll p.what.what) (polls_in sent) none in
    let a : (line.asks_to_end p.what ≡ false) × (asks_end sent ≡ false) = or_false (line.asks_to_end p.what) (asks_end sent) asks in
    sent_after p.what (resumed s (entries sent)) n.0 a.0 ∙ resumed_sent s sent n.1 a.1

-- a sending takes no time
time_of_sent : (p : Placed) (r : List Entry) → is_poll p.what.what ≡ false → TimesMove (p.what ∷ r) → p.what.now ≡ newest_time r
time_of_sent p r none m = subst (λ (b : Bool). MovesSo b (newest_time r) p.what.now) none m.0

pub sent_time : (sent : List Placed) (before : List Entry) → polls_in sent ≡ false → TimesMove (entries sent ++ before) → newest_time (entries sent ++ before) ≡ newest_time before
sent_time [] before none m = refl
sent_time (p ∷ sent) before none m =
    let n : (is_poll p.what.what ≡ false) × (polls_in sent ≡ false) = or_false (is_poll p.what.what) (polls_in sent) none in
    time_of_sent p (entries sent ++ before) n.0 m ∙ sent_time sent before n.1 m.1

pub resumed_asked : (s : line.Closing) (now : ℕ) (sent : List Placed) (before : List Entry) → polls_in sent ≡ false → asks_end sent ≡ true → TimesMove (entries sent ++ before) → newest_time before ≡ now → resumed s (entries sent) ≡ line.Leaving now 0
resumed_asked s now [] before none asks m is = absurd (cc)
resumed_asked s now (p ∷ sent) before none asks m is = by_entry (line.asks_to_end p.what) refl asks (λ h. resumed_asked s now sent before n.1 h m.1 is) where
  n : (is_poll p.what.what ≡ false) × (polls_in sent ≡ false)
  n = or_false (is_poll p.what.what) (polls_in sent) none

  by_entry : (b : Bool) → line.asks_to_end p.what ≡ b → (b || asks_end sent) ≡ true → (asks_end sent ≡ true → resumed s (entries sent) ≡ line.Leaving now 0) → line.after_entry p.what (resumed s (entries sent)) ≡ line.Leaving now 0
  by_entry true e h older = asked_after p.what (resumed s (entries sent)) e ∙ ap (λ (t : ℕ). line.Leaving t 0) (time_of_sent p (entries sent ++ before) n.0 m ∙ (sent_time sent before n.1 m.1 ∙ is))
  by_entry false e h older = sent_after p.what (resumed s (entries sent)) n.0 e ∙ older h

-- ---- a poll

got_is : (what : What) (r : List Entry) (x : Entry) → GotSo what r x → is_got x.what ≡ got_one what
got_is came.Quiet r x h = ap is_got h
got_is came.Dropped r x h = h.0.got
got_is came.Tunnel r x h = h.0.got
got_is (came.Up tunnel) r x h = h.0.got
got_is (came.Frame frame) r x h = h.0.got

last_after : (x : Entry) (s : line.Closing) (b : Bool) → is_poll x.what ≡ true → is_got x.what ≡ b → line.after_entry x s ≡ (if b then counting x.now s else s)
last_after x s true p g = got_after x s g
last_after x s false p g = quiet_after x s (is_quiet x.what p g)

module _ (c : Came) (now : ℕ) (old added : List Placed) (b : Brings c old added) (m : TimesMove (entries added ++ entries old)) (is : now ≡ newest_time (entries added ++ entries old)) (s : line.Closing) where
  parts : entries added ≡ entries b.sent ++ (b.last.what ∷ entries b.waits)
  parts = ap entries b.parts ∙ entries_append b.sent (b.last ∷ b.waits)

  last_time : b.last.what.now ≡ now
  last_time = b.at_end ∙ (ap newest_time (entries_append added old) ∙ sym is)

  listened : resumed s (b.last.what ∷ entries b.waits) ≡ (if got_one c.what then counting now s else s)
  listened =
      ap (line.after_entry b.last.what) (resumed_quiet s b.waits b.quiet)
      ∙ (last_after b.last.what s (got_one c.what) b.polls (got_is c.what (entries (b.waits ++ old)) b.last.what b.got) ∙ ap (λ (t : ℕ). if got_one c.what then counting t s else s) last_time)

  moves : TimesMove (entries b.sent ++ ((b.last.what ∷ entries b.waits) ++ entries old))
  moves = subst TimesMove (append_assoc (entries b.sent) (b.last.what ∷ entries b.waits) (entries old)) (subst (λ (l : List Entry). TimesMove (l ++ entries old)) parts m)

  told_so : (told : Bool) → asks_end b.sent ≡ told → resumed (resumed s (b.last.what ∷ entries b.waits)) (entries b.sent) ≡ (if told then line.Leaving now 0 else (if got_one c.what then counting now s else s))
  told_so true asks = resumed_asked (resumed s (b.last.what ∷ entries b.waits)) now b.sent ((b.last.what ∷ entries b.waits) ++ entries old) b.sends asks moves last_time
  told_so false asks = resumed_sent (resumed s (b.last.what ∷ entries b.waits)) b.sent b.sends asks ∙ listened

  pub brings_after : resumed s (entries added) ≡ poll_after (got_one c.what) c.loss now s
  brings_after = ap (resumed s) parts ∙ (resumed_both s (entries b.sent) (b.last.what ∷ entries b.waits) ∙ told_so (is_told c.loss) b.tells)

-- ---- the count that stands still is enough

least_more : (n : ℕ) → min (min n 4294967295 + 1) 4294967295 ≡ min (suc n) 4294967295
least_more n = omega arith

none_counted : min 0 4294967295 ≡ 0
none_counted = omega arith

capped_got : (now : ℕ) (s : line.Closing) → after_datagram now (capped s) ≡ capped (counting now s)
capped_got now (line.Listening since n) = ap (line.Listening now) (least_more n)
capped_got now (line.Leaving since n) = ap (line.Leaving since) (least_more n)

pub capped_asked : (now : ℕ) → line.Leaving now 0 ≡ capped (line.Leaving now 0)
capped_asked now = ap (line.Leaving now) (sym none_counted)

pub capped_began : (now : ℕ) → line.Listening now 0 ≡ capped (line.Listening now 0)
capped_began now = ap (line.Listening now) (sym none_counted)

capped_after : (told got : Bool) (now : ℕ) (s : line.Closing)
    → (if told then line.Leaving now 0 else (if got then after_datagram now (capped s) else capped s)) ≡ capped (if told then line.Leaving now 0 else (if got then counting now s else s))
capped_after true got now s = capped_asked now
capped_after false true now s = capped_got now s
capped_after false false now s = refl

-- so a hub's closing goes on as the line's
pub closes_by : (got : Bool) (loss : Loss) (now : ℕ) (old new : Option Closing) (before added : List Entry) → ClosesBy got loss now old new → ((s : line.Closing) → resumed s added ≡ poll_after got loss now s) → Resumes old new before added
closes_by got loss now None new before added h after s come = absurd come
closes_by got loss now (Some c) new before added h after s come =
    subst (λ (o : Option Closing). HasCome o (resumed s added)) (sym h.1)
    (h.2 ∙ (ap (after_poll got loss now) come ∙ (capped_after (is_told loss) got now s ∙ ap capped (sym (after s)))))

pub begun_by : (got : Bool) (loss : Loss) (now : ℕ) (old new : Option Closing) → ClosesBy got loss now old new → is_some new ≡ is_some old
begun_by got loss now None new h = ap is_some h
begun_by got loss now (Some c) new h = ap is_some h.1
