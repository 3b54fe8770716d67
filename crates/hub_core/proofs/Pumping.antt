-- What the answer of a pump says, from what each of its three calls adds.
use Rattle.std.proofs.Common.{◌≡◌, ◌⊎◌, inl, inr, Bool, true, false, List, [], ◌∷◌, ◌++◌, Some, Result, Ok, Err, IfOk, refl, sym, ap, subst, ◌∙◌, append_assoc}
use Rattle.std.specs.Prelude.{◌&&◌, ◌||◌, not}
use Rattle.std.specs.List.{AllByRecursion, list_any, cons_option}
use Rattle.line_model.specs.declared.fault.HubFault.{HubFault}
use Rattle.line_model.specs.Record.{Quiet, Entry, Placed, entries, is_got, is_poll}
use Rattle.line_model.specs.LinkStory.{Story, places_in}
use Rattle.line_model.specs.ClientView.{indications}
use Rattle.line_model.specs.Dropped.{is_dropped}
use Rattle.line_model.specs.Pumped.{Adds, sends_nothing, drops_all}
use Rattle.tunnel_link.specs.declared.came.Came.{Came}
use Rattle.tunnel_link.specs.declared.came.What.{What}
use Rattle.tunnel_link.specs.declared.came.What.TheVariants as came
use Rattle.tunnel_link.specs.Adds.{place_of, Grows, Growing, GotSo, Acts, Seeks, Brings, PollAdds, is_any}
use Rattle.tunnel_link.specs.Goes.{GoesOn}
use Rattle.tunnel_link.proofs.Growth.{entries_append}
use Rattle.hub_core.specs.declared.answers.Pumped.{Pumped}
use Rattle.hub_core.specs.declared.answers.Pumped.TheVariants as pump
use Rattle.hub_core.specs.Hears.{HearsSo, heard_of}
use Rattle.hub_core.specs.Pumps.{AddsSo, AnswersSo, Says, PumpsSo, Does, is_late_now, is_left_now, Moves}
use Rattle.hub_core.specs.Taking.{is_taken}
use Rattle.hub_core.proofs.Counting.{some_is, told_before}
use Rattle.hub_core.proofs.Hearing.{sends_both, drops_both}
use Rattle.hub_core.proofs.Taking.{NoneGot, sent_not_got, quiet_not_got}

and_true : (b : Bool) → (b && true) ≡ b
and_true true = refl
and_true false = refl

and_none : (b : Bool) → (b && false) ≡ false
and_none true = refl
and_none false = refl

pub adds_by : (s t : Story) (P : List Placed → List Placed → Type 0) (Q : List Entry → List Entry → Type 0) → Growing P s t → ((old added : List Placed) → P old added → Q (entries old) (entries added)) → AddsSo Q s t
adds_by s t P Q grows h old new es et =
    let g : Grows P (place_of s) (place_of t) old t = grows old es in
    let same : new ≡ g.new = sym (some_is g.new new (sym g.told ∙ et)) in
    (entries g.added, record { all = ap entries same ∙ g.grown.entries_grow }, h old g.added g.is)

-- ---- of what was sent, and of what was got

polled_none : (added : List Placed) → list_any (λ (p : Placed). is_poll p.what.what) added ≡ false → (added ≡ [] → ⊥) → sends_nothing (entries added) ≡ false
polled_none [] none some = absurd (some refl)
polled_none (p ∷ added) none some = by_poll (is_poll p.what.what) refl none where
  by_poll : (b : Bool) → is_poll p.what.what ≡ b → (b || list_any (λ (q : Placed). is_poll q.what.what) added) ≡ false → sends_nothing (entries (p ∷ added)) ≡ false
  by_poll true e h = absurd (cc)
  by_poll false e h = rw e refl

got_none : (before : List Entry) (added : List Placed) → NoneGot added → drops_all before (entries added) ≡ true
got_none before [] h = refl
got_none before (p ∷ added) h = rw h.0 (got_none before added h.1)

quiet_polls : (added : List Placed) → AllByRecursion (λ (p : Placed). p.what.what ≡ Quiet) added → sends_nothing (entries added) ≡ true
quiet_polls [] h = refl
quiet_polls (p ∷ added) h = rw h.0 (quiet_polls added h.1)

-- ---- what is due, and a new endpoint

pub acts_so : (s t : Story) (acted : Bool) → Growing (Acts (Ok acted)) s t → AddsSo (Does is_late_now acted) s t
acts_so s t acted grows = adds_by s t (Acts (Ok acted)) (Does is_late_now acted) grows (λ old added h. record {
  sends = λ e. polled_none added h.1.only_sends (h.1.sent e);
  nothing = λ e. ap entries (h.1.unsent e).0;
  got_nothing = got_none (entries old) added (sent_not_got added h.1.only_sends);
  no_cause = λ e. (h.1.unsent e).1;
})

seeks_does : (sought : Bool) (old added : List Placed) → Seeks (Ok sought) old added → Does (is_left_now false) sought (entries old) (entries added)
seeks_does true old added h = record {
  sends = λ e. polled_none added h.so.0 h.so.1;
  nothing = λ e. absurd (cc);
  got_nothing = got_none (entries old) added (sent_not_got added h.so.0);
  no_cause = λ e. absurd (cc);
}
seeks_does false old added h = record {
  sends = λ e. absurd (cc);
  nothing = λ e. ap entries h.so.0;
  got_nothing = rw h.so.0 refl;
  no_cause = λ e. h.so.1;
}

pub seeks_answer : (s t : Story) (result : Result Bool HubFault) → Growing (Seeks result) s t → IfOk result (λ did. AddsSo (Does (is_left_now false) did) s t)
seeks_answer s t (Ok sought) grows = adds_by s t (Seeks (Ok sought)) (Does (is_left_now false) sought) grows (seeks_does sought)
seeks_answer s t (Err fault) grows = tt

pub seeks_none : (s : Story) → AddsSo (Does (is_left_now true) false) s s
seeks_none s old new es et = ([], record { all = ap entries (sym (some_is old new (sym es ∙ et))) }, record { sends = λ e. absurd (cc); nothing = λ e. refl; got_nothing = refl; no_cause = λ e. refl })

-- ---- a poll

neither : (a b x y : Bool) → x ≡ not a → y ≡ not b → (x && y) ≡ not (a || b)
neither true b x y ex ey = rw ex refl
neither false b x y ex ey = rw ex ey

sent_any : (sent : List Placed) → list_any (λ (p : Placed). is_poll p.what.what) sent ≡ false → sends_nothing (entries sent) ≡ not (is_any sent)
sent_any [] h = refl
sent_any (p ∷ sent) h = polled_none (p ∷ sent) h (λ e. cc)

got_drops : (got dropped wanted : Bool) → got ≡ true → dropped ≡ wanted → (not got || dropped) ≡ wanted
got_drops true dropped wanted e is = is
got_drops false dropped wanted e is = absurd (cc)

drops_one : (what : What) (r : List Entry) (x : Entry) → GotSo what r x → (not (is_got x.what) || is_dropped r x) ≡ not (is_taken what)
drops_one came.Quiet r x h = rw h refl
drops_one came.Dropped r x h = got_drops (is_got x.what) (is_dropped r x) true h.0.got h.0.drops
drops_one came.Tunnel r x h = got_drops (is_got x.what) (is_dropped r x) false h.0.got h.0.drops
drops_one (came.Up tunnel) r x h = got_drops (is_got x.what) (is_dropped r x) false h.0.got h.0.drops
drops_one (came.Frame frame) r x h = got_drops (is_got x.what) (is_dropped r x) false h.0.got h.0.drops

module _ (c : Came) (old added : List Placed) (b : Brings c old added) where
  abbrev before : List Entry
  before = entries old

  parts : entries added ≡ entries b.sent ++ (b.last.what ∷ entries b.waits)
  parts = ap entries b.parts ∙ entries_append b.sent (b.last ∷ b.waits)

  sends : sends_nothing (entries added) ≡ not c.sent
  sends =
      ap sends_nothing parts ∙ (sends_both (entries b.sent) (b.last.what ∷ entries b.waits)
      ∙ rw b.polls (rw (quiet_polls b.waits b.quiet) (rw (sent_any b.sent b.sends) (rw b.answered (and_true (not (is_any b.sent)))))))

  drops : drops_all before (entries added) ≡ not (is_taken c.what)
  drops =
      ap (drops_all before) parts ∙ (drops_both before (entries b.sent) (b.last.what ∷ entries b.waits)
      ∙ rw (got_none ((b.last.what ∷ entries b.waits) ++ before) b.sent (sent_not_got b.sent b.sends)) (rw (got_none before b.waits (quiet_not_got b.waits b.quiet)) (last_alone (last_drops))))
    where
      last_drops : (not (is_got b.last.what.what) || is_dropped (entries b.waits ++ before) b.last.what) ≡ not (is_taken c.what)
      last_drops = subst (λ (r : List Entry). (not (is_got b.last.what.what) || is_dropped r b.last.what) ≡ not (is_taken c.what)) (entries_append b.waits old) (drops_one c.what (entries (b.waits ++ old)) b.last.what b.got)

      last_alone : {x y : Bool} → x ≡ y → (x && true) ≡ y
      last_alone {x} {y} e = and_true x ∙ e

  brings_moves : Moves (c.sent || is_taken c.what) (entries old) (entries added)
  brings_moves = neither c.sent (is_taken c.what) (sends_nothing (entries added)) (drops_all before (entries added)) sends drops

pub polls_so : (s t : Story) (c : Came) → Growing (PollAdds (Ok c)) s t → AddsSo (Moves (c.sent || is_taken c.what)) s t
polls_so s t c grows = adds_by s t (PollAdds (Ok c)) (Moves (c.sent || is_taken c.what)) grows (brings_moves c)

-- ---- one after another

and_false : (a b : Bool) → (a && b) ≡ false → (a ≡ false) ⊎ (b ≡ false)
and_false true b e = inr e
and_false false b e = inl refl

-- of a record before, what was due (x), a new endpoint (y) and the poll (z)
module _ (closing acted sought moved : Bool) (before x y z : List Entry) (acts : Does is_late_now acted before x) (seeks : Does (is_left_now closing) sought (x ++ before) y) (polls : Moves moved (y ++ (x ++ before)) z) where
  silent : sends_nothing z ≡ true → y ≡ [] → x ≡ [] → sends_nothing (z ++ (y ++ x)) ≡ true
  silent ez ey ex = sends_both z (y ++ x) ∙ rw ez (rw ey (rw ex refl))

  polled : drops_all before (z ++ (y ++ x)) ≡ drops_all (y ++ (x ++ before)) z
  polled =
      drops_both before z (y ++ x) ∙ (ap (λ (r : List Entry). drops_all r z && drops_all before (y ++ x)) (append_assoc y x before)
      ∙ rw (drops_both before y x) (rw seeks.got_nothing (rw acts.got_nothing (and_true (drops_all (y ++ (x ++ before)) z)))))

  nothing_said : acted ≡ false → sought ≡ false → moved ≡ false → Says closing pump.Nothing before (z ++ (y ++ x))
  nothing_said ea es em = record {
    silent = silent (both (sends_nothing z) _ moves).0 (seeks.nothing es) (acts.nothing ea);
    got_nothing = polled ∙ (both (sends_nothing z) _ moves).1;
    no_deadline = rw (acts.no_cause ea) (subst (λ (l : List Entry). is_left_now closing (l ++ before) ≡ false) (acts.nothing ea) (seeks.no_cause es));
  }
    where
      moves : (sends_nothing z && drops_all (y ++ (x ++ before)) z) ≡ true
      moves = polls ∙ ap not em

      both : (a b : Bool) → (a && b) ≡ true → (a ≡ true) × (b ≡ true)
      both true b e = (refl, e)
      both false b e = absurd (cc)

  sent_said : sends_nothing (y ++ x) ≡ false → Says closing pump.Moved before (z ++ (y ++ x))
  sent_said e = inl (sends_both z (y ++ x) ∙ rw e (and_none (sends_nothing z)))

  acted_said : acted ≡ true → Says closing pump.Moved before (z ++ (y ++ x))
  acted_said e = sent_said (sends_both y x ∙ rw (acts.sends e) (and_none (sends_nothing y)))

  sought_said : sought ≡ true → Says closing pump.Moved before (z ++ (y ++ x))
  sought_said e = sent_said (sends_both y x ∙ rw (seeks.sends e) refl)

  moved_said : moved ≡ true → Says closing pump.Moved before (z ++ (y ++ x))
  moved_said e = by_poll (and_false (sends_nothing z) _ (polls ∙ ap not e)) where
    by_poll : (sends_nothing z ≡ false) ⊎ (drops_all (y ++ (x ++ before)) z ≡ false) → Says closing pump.Moved before (z ++ (y ++ x))
    by_poll (inl h) = inl (sends_both z (y ++ x) ∙ rw h refl)
    by_poll (inr h) = inr (inl (polled ∙ h))

  said : (p : Pumped) → AnswersSo (acted || sought) moved p → indications ((z ++ (y ++ x)) ++ before) ≡ cons_option (heard_of p) (indications before) → Says closing p before (z ++ (y ++ x))
  said pump.Nothing answers heard = nothing_said (or_false acted sought answers.0).0 (or_false acted sought answers.0).1 answers.1 where
    or_false : (a b : Bool) → (a || b) ≡ false → (a ≡ false) × (b ≡ false)
    or_false true b e = absurd (cc)
    or_false false b e = (refl, e)
  said pump.Moved (inl did) heard = by_did acted sought refl refl did where
    by_did : (a b : Bool) → acted ≡ a → sought ≡ b → (a || b) ≡ true → Says closing pump.Moved before (z ++ (y ++ x))
    by_did true b ea eb e = acted_said ea
    by_did false b ea eb e = sought_said (eb ∙ e)
  said pump.Moved (inr e) heard = moved_said e
  said (pump.Heard h) answers heard = heard

pub pumps_so : (closing acted sought moved : Bool) (p : Pumped) (a b c d : Story) → GoesOn b c → GoesOn c d → AddsSo (Does is_late_now acted) a b → AddsSo (Does (is_left_now closing) sought) b c → AddsSo (Moves moved) c d → AnswersSo (acted || sought) moved p → HearsSo (heard_of p) a d → PumpsSo closing p a d
pumps_so closing acted sought moved p a b c d goes last acts seeks polls answers hears old new ea ed = by_third (told_before c d new last ed) where
  by_places : (second third : List Placed) → places_in b ≡ Some second → places_in c ≡ Some third → (added : List Entry) × Adds (entries old) (entries new) added × Says closing p (entries old) added
  by_places second third eb ec = by_adds (acts old second ea eb) (seeks second third eb ec) (polls third new ec ed) where
    by_adds : (x : List Entry) × Adds (entries old) (entries second) x × Does is_late_now acted (entries old) x → (y : List Entry) × Adds (entries second) (entries third) y × Does (is_left_now closing) sought (entries second) y
        → (z : List Entry) × Adds (entries third) (entries new) z × Moves moved (entries third) z → (added : List Entry) × Adds (entries old) (entries new) added × Says closing p (entries old) added
    by_adds (x, ex, ax) (y, ey, ay) (z, ez, az) =
        let up : entries third ≡ y ++ (x ++ entries old) = ey.all ∙ ap (λ (l : List Entry). y ++ l) ex.all in
        let all : entries new ≡ (z ++ (y ++ x)) ++ entries old = ez.all ∙ (ap (λ (l : List Entry). z ++ l) (up ∙ sym (append_assoc y x (entries old))) ∙ sym (append_assoc z (y ++ x) (entries old))) in
        (z ++ (y ++ x), record { all = all }, said closing acted sought moved (entries old) x y z ax (subst (λ (l : List Entry). Does (is_left_now closing) sought l y) ex.all ay) (subst (λ (l : List Entry). Moves moved l z) up az) p answers (ap indications (sym all) ∙ hears old new ea ed))

  by_third : (third : List Placed) × (places_in c ≡ Some third) → (added : List Entry) × Adds (entries old) (entries new) added × Says closing p (entries old) added
  by_third third = by_second (told_before b c third.0 goes third.1) where
    by_second : (second : List Placed) × (places_in b ≡ Some second) → (added : List Entry) × Adds (entries old) (entries new) added × Says closing p (entries old) added
    by_second second = by_places second.0 third.0 second.1 third.1
