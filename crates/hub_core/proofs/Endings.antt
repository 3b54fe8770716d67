-- How far a closing is after each call of a hub, and what a step of the closing answers.
use Rattle.std.proofs.Common.{◌≡◌, ℕ, Bool, true, false, List, [], ◌∷◌, ◌++◌, Option, Some, None, Result, Ok, Err, IfOk, refl, sym, ap, subst, ◌∙◌, append_assoc}
use Rattle.std.specs.Prelude.{◌&&◌, ◌||◌, OnOk}
use Rattle.line_model.specs.declared.fault.HubFault.{HubFault}
use Rattle.line_model.specs.Record.{Entry, Placed, entries, is_poll}
use Rattle.line_model.specs.LinkStory.{Story, places_in, newest_time}
use Rattle.line_model.specs.ClientView.{ClientChannel, channel}
use Rattle.line_model.specs.Closing as line
use Rattle.line_model.specs.Pumped.{Adds}
use Rattle.tunnel_link.specs.declared.came.Came.{Came}
use Rattle.tunnel_link.specs.Adds.{place_of, Grows, Growing, Acts, Leaves, Brings, PollAdds, asks_end}
use Rattle.tunnel_link.specs.Goes as tunnel
use Rattle.tunnel_link.specs.Rights.{WhereTold}
use Rattle.tunnel_link.proofs.Growth.{entries_append}
use Rattle.tunnel_link.proofs.Times.{times_told}
use Rattle.hub_core.specs.declared.answers.Finished.{Finished}
use Rattle.hub_core.specs.declared.answers.Finished.TheVariants as end
use Rattle.hub_work.specs.declared.closing.Closing.{Closing}
use Rattle.hub_work.specs.Closes.{closing_of, Begins}
use Rattle.hub_core.specs.Closes.{capped, HasCome, resumed, Resumes, Closes, ClosesBy, IsOver, HasListened, AsksNow, has_done, HasDone, GoesSo}
use Rattle.hub_core.specs.Pumps.{AddsSo}
use Rattle.hub_core.specs.Taking.{is_got as got_one}
use Rattle.hub_core.proofs.Closes.{resumed_both, closing_is, resumed_sent, resumed_asked, sent_time, brings_after, capped_asked, capped_began, closes_by}
use Rattle.hub_core.proofs.Counting.{some_is, told_before}
use Rattle.hub_core.proofs.Pumping.{adds_by}

-- ---- by what a call added, and the times of the record after it

resumes_by : (s t : Story) (now : ℕ) (P : List Placed → List Placed → Type 0) (Q : List Entry → List Entry → Type 0) → tunnel.Keeps t → WhereTold (λ places. now ≡ newest_time (entries places)) t → Growing P s t
    → ((old added : List Placed) → P old added → tunnel.TimesMove (entries added ++ entries old) → now ≡ newest_time (entries added ++ entries old) → Q (entries old) (entries added)) → AddsSo Q s t
resumes_by s t now P Q keeps told grows h old new es et =
    let g : Grows P (place_of s) (place_of t) old t = grows old es in
    let same : new ≡ g.new = sym (some_is g.new new (sym g.told ∙ et)) in (
      entries g.added,
      record { all = ap entries same ∙ g.grown.entries_grow },
      h old g.added g.is (subst tunnel.TimesMove g.grown.entries_grow (times_told t g.new keeps g.told)) (told g.new g.told ∙ ap newest_time g.grown.entries_grow),
    )

pub polls_resume : (s t : Story) (c : Came) (now : ℕ) (old new : Option Closing) → tunnel.Keeps t → WhereTold (λ places. now ≡ newest_time (entries places)) t → Growing (PollAdds (Ok c)) s t → ClosesBy (got_one c.what) c.loss now old new → AddsSo (Resumes old new) s t
polls_resume s t c now old new keeps told grows closes =
    resumes_by s t now (PollAdds (Ok c)) (Resumes old new) keeps told grows (λ was added b m is. closes_by (got_one c.what) c.loss now old new (entries was) (entries added) closes (brings_after c now was added b m is))

pub acts_resume : (s t : Story) (acted : Bool) (closing : Option Closing) → Growing (Acts (Ok acted)) s t → AddsSo (Resumes closing closing) s t
acts_resume s t acted closing grows = adds_by s t (Acts (Ok acted)) (Resumes closing closing) grows (λ was added h z come. subst (HasCome closing) (sym (resumed_sent z added h.1.only_sends h.1.asks_no_end)) come)

-- ---- the end of the channel is asked for, or there is none

pub asked_resumes : (s t : Story) (asked : Bool) (now : ℕ) (old : Option Closing) (d : Closing) → tunnel.Keeps t → WhereTold (λ places. now ≡ newest_time (entries places)) t → Growing (Leaves (Ok asked)) s t → asked ≡ true → closing_of d ≡ line.Leaving now 0 → AddsSo (Resumes old (Some d)) s t
asked_resumes s t asked now old d keeps told grows is leaving =
    resumes_by s t now (Leaves (Ok asked)) (Resumes old (Some d)) keeps told grows (λ was added h m then z come.
    leaving ∙ (capped_asked now ∙ ap capped (sym (resumed_asked z now added (entries was) h.so.2 (h.so.1 ∙ is) m (sym (then ∙ sent_time added (entries was) h.so.2 m))))))

pub unasked_resumes : (s t : Story) (asked : Bool) (old : Option Closing) → Growing (Leaves (Ok asked)) s t → asked ≡ false → AddsSo (Resumes old old) s t
unasked_resumes s t asked old grows is = adds_by s t (Leaves (Ok asked)) (Resumes old old) grows (λ was added h. subst (λ (l : List Entry). Resumes old old (entries was) l) (sym (ap entries (h.so.3 is))) (λ z come. come))

-- ---- one call after another

pub adds_then : (P Q R : List Entry → List Entry → Type 0) (a b c : Story) → tunnel.GoesOn b c → AddsSo P a b → AddsSo Q b c → ((before x y : List Entry) → P before x → Q (x ++ before) y → R before (y ++ x)) → AddsSo R a c
adds_then P Q R a b c goes first second both old new ea ec = by_middle (told_before b c new goes ec) where
  by_middle : (mid : List Placed) × (places_in b ≡ Some mid) → (added : List Entry) × Adds (entries old) (entries new) added × R (entries old) added
  by_middle mid = by_adds (first old mid.0 ea mid.1) (second mid.0 new mid.1 ec) where
    by_adds : (x : List Entry) × Adds (entries old) (entries mid.0) x × P (entries old) x → (y : List Entry) × Adds (entries mid.0) (entries new) y × Q (entries mid.0) y → (added : List Entry) × Adds (entries old) (entries new) added × R (entries old) added
    by_adds (x, ex, px) (y, ey, qy) =
        (y ++ x, record { all = ey.all ∙ (ap (λ (l : List Entry). y ++ l) ex.all ∙ sym (append_assoc y x (entries old))) }, both (entries old) x y px (subst (λ (l : List Entry). Q l y) ex.all qy))

begun_closes : (old began new : Option Closing) (before added : List Entry) → Begins (newest_time before) old began → Resumes began new before added → Closes old new before added
begun_closes None began new before added b resumes =
    subst (HasCome new) (sym (closing_is (newest_time before) added)) (resumes (line.Listening (newest_time before) 0) (subst (λ (o : Option Closing). HasCome o (line.Listening (newest_time before) 0)) (sym b.1) (b.2 ∙ capped_began (newest_time before))))
begun_closes (Some c) began new before added b resumes = subst (λ (o : Option Closing). Resumes o new before added) b resumes

-- it begins, and goes on
pub closes_after : (old began new : Option Closing) (s t : Story) → WhereTold (λ places. Begins (newest_time (entries places)) old began) s → AddsSo (Resumes began new) s t → AddsSo (Closes old new) s t
closes_after old began new s t begins resumes was now es et =
    let a : (added : List Entry) × Adds (entries was) (entries now) added × Resumes began new (entries was) added = resumes was now es et in
    (a.0, a.1, begun_closes old began new (entries was) a.0 (begins was es) a.2)

-- and no more
pub closes_now : (old new : Option Closing) (s : Story) → WhereTold (λ places. Begins (newest_time (entries places)) old new) s → AddsSo (Closes old new) s s
closes_now old new s begins = closes_after old new new s s begins (λ was now es et. ([], record { all = ap entries (sym (some_is was now (sym es ∙ et))) }, λ z come. come))

-- a step that begins it or goes on, after a call in which it went on
pub resumes_closes : (o m n : Option Closing) (a b c : Story) → tunnel.GoesOn b c → AddsSo (Resumes o m) a b → AddsSo (Closes m n) b c → AddsSo (Resumes o n) a c
resumes_closes o m n a b c goes first second =
    adds_then (Resumes o m) (Closes m n) (Resumes o n) a b c goes first second (λ before x y f g z come. subst (HasCome n) (sym (resumed_both z y x)) (come_on m (x ++ before) y (resumed z x) (f z come) g)) where
      come_on : (m : Option Closing) (before added : List Entry) (s : line.Closing) → HasCome m s → Closes m n before added → HasCome n (resumed s added)
      come_on None before added s come h = absurd come
      come_on (Some c) before added s come h = h s come

pub some_begun : (c : Closing) → Some c ≡ None → ⊥
some_begun c e = let z : Some c ≡ None = e in cc

-- once it has begun a step begins no other
pub resumes_stays : (o p n : Option Closing) (s t : Story) → AddsSo (Resumes o p) s t → WhereTold (λ places. Begins (newest_time (entries places)) p n) t → AddsSo (Resumes o n) s t
resumes_stays o p n s t resumes begins was now es et =
    let a : (added : List Entry) × Adds (entries was) (entries now) added × Resumes o p (entries was) added = resumes was now es et in
    (a.0, a.1, λ z come. stays_on p (resumed z a.0) (a.2 z come) (begins now et))
  where
    stays_on : (p : Option Closing) (r : line.Closing) → HasCome p r → Begins (newest_time (entries now)) p n → HasCome n r
    stays_on None r come b = absurd come
    stays_on (Some c) r come b = subst (λ (x : Option Closing). HasCome x r) (sym b) come

pub closes_ok : {X : Type 0} (result : Result X HubFault) (o b n : Option Closing) (s t : Story) → WhereTold (λ places. Begins (newest_time (entries places)) o b) s → OnOk result (AddsSo (Resumes b n) s t) → OnOk result (AddsSo (Closes o n) s t)
closes_ok (Ok x) o b n s t begins resumes = closes_after o b n s t begins resumes
closes_ok (Err fault) o b n s t begins resumes = tt

pub closes_all : {X : Type 0} (result : Result X HubFault) (o b m n : Option Closing) (s a t : Story) → WhereTold (λ places. Begins (newest_time (entries places)) o b) s → AddsSo (Resumes b m) s a → tunnel.GoesOn a t → OnOk result (AddsSo (Closes m n) a t) → OnOk result (AddsSo (Closes o n) s t)
closes_all (Ok x) o b m n s a t begins first goes second = closes_after o b n s t begins (resumes_closes b m n s a t goes first second)
closes_all (Err fault) o b m n s a t begins first goes second = tt

-- ---- whether it is over

-- where the listening is over and there is no channel
listened_over : (ch : ClientChannel) (s : line.Closing) (now : ℕ) → (line.is_listening s && line.has_waited s now) ≡ true → line.is_open ch ≡ false → line.is_over ch s now ≡ true
listened_over ch (line.Listening since n) now waited closed = rw closed (stays_true (line.has_waited (line.Listening since n) now) waited) where
  stays_true : (b : Bool) → b ≡ true → (b && true) ≡ true
  stays_true true e = refl
  stays_true false e = e
listened_over ch (line.Leaving since n) now waited closed = absurd (cc)

is_over_so : (closing : Option Closing) (ch : ClientChannel) (r : List Entry) → channel r ≡ ch → HasListened closing (newest_time r) → line.is_open ch ≡ false → IsOver closing r
is_over_so None ch r is waited closed = absurd waited
is_over_so (Some c) ch r is waited closed = listened_over (channel r) (closing_of c) (newest_time r) waited (ap line.is_open is ∙ closed)

pub unasked_over : (s t : Story) (asked : Bool) (closing : Option Closing) → tunnel.GoesOn s t → Growing (Leaves (Ok asked)) s t → asked ≡ false → AsksNow closing s → WhereTold (λ places. IsOver closing (entries places)) t
unasked_over s t asked closing goes grows is waited new et = by_old (told_before s t new goes et) where
  by_old : (old : List Placed) × (places_in s ≡ Some old) → IsOver closing (entries new)
  by_old was =
      let g : Grows (Leaves (Ok asked)) (place_of s) (place_of t) was.0 t = grows was.0 was.1 in
      let same : new ≡ was.0 = sym (some_is g.new new (sym g.told ∙ et)) ∙ (g.grown.grow ∙ ap (λ (l : List Placed). l ++ was.0) (g.is.so.3 is)) in
      subst (λ (l : List Placed). IsOver closing (entries l)) (sym same) (is_over_so closing (channel (entries was.0)) (entries was.0) refl (waited was.0 was.1) (sym g.is.so.0 ∙ is))

-- ---- what was done

abbrev does_one : Entry → Bool
does_one x = is_poll x.what || line.asks_to_end x

or_true : (a b : Bool) → b ≡ true → (a || b) ≡ true
or_true true b e = refl
or_true false b e = e

true_or : (a b : Bool) → a ≡ true → (a || b) ≡ true
true_or true b e = refl
true_or false b e = absurd (cc)

done_after : (later : List Entry) (x : Entry) (earlier : List Entry) → does_one x ≡ true → has_done (later ++ (x ∷ earlier)) ≡ true
done_after [] x earlier e = true_or (does_one x) (has_done earlier) e
done_after (y ∷ later) x earlier e = or_true (does_one y) (has_done (later ++ (x ∷ earlier))) (done_after later x earlier e)

done_more : (later earlier : List Entry) → has_done later ≡ true → has_done (later ++ earlier) ≡ true
done_more [] earlier e = absurd (cc)
done_more (y ∷ later) earlier e = by_one (does_one y) refl e (done_more later earlier) where
  by_one : (b : Bool) → does_one y ≡ b → (b || has_done later) ≡ true → (has_done later ≡ true → has_done (later ++ earlier) ≡ true) → has_done (y ∷ (later ++ earlier)) ≡ true
  by_one true is h more = true_or (does_one y) (has_done (later ++ earlier)) is
  by_one false is h more = or_true (does_one y) (has_done (later ++ earlier)) (more h)

asked_done : (added : List Placed) → asks_end added ≡ true → has_done (entries added) ≡ true
asked_done [] e = absurd (cc)
asked_done (p ∷ added) e = by_one (line.asks_to_end p.what) refl e (asked_done added) where
  by_one : (b : Bool) → line.asks_to_end p.what ≡ b → (b || asks_end added) ≡ true → (asks_end added ≡ true → has_done (entries added) ≡ true) → has_done (entries (p ∷ added)) ≡ true
  by_one true is h more = true_or (does_one p.what) (has_done (entries added)) (or_true (is_poll p.what.what) (line.asks_to_end p.what) is)
  by_one false is h more = or_true (does_one p.what) (has_done (entries added)) (more h)

brings_done : (c : Came) (old added : List Placed) → Brings c old added → has_done (entries added) ≡ true
brings_done c old added b =
    subst (λ (l : List Entry). has_done l ≡ true) (sym (ap entries b.parts ∙ entries_append b.sent (b.last ∷ b.waits))) (done_after (entries b.sent) b.last.what (entries b.waits) (true_or (is_poll b.last.what.what) (line.asks_to_end b.last.what) b.polls))

pub polls_done : (s t : Story) (c : Came) → Growing (PollAdds (Ok c)) s t → AddsSo HasDone s t
polls_done s t c grows = adds_by s t (PollAdds (Ok c)) HasDone grows (brings_done c)

pub asked_did : (s t : Story) (asked : Bool) → Growing (Leaves (Ok asked)) s t → asked ≡ true → AddsSo HasDone s t
asked_did s t asked grows is = adds_by s t (Leaves (Ok asked)) HasDone grows (λ old added h. asked_done added (h.so.1 ∙ is))

-- and before it other calls
pub done_then : (P : List Entry → List Entry → Type 0) (a b c : Story) → tunnel.GoesOn b c → AddsSo P a b → AddsSo HasDone b c → AddsSo HasDone a c
done_then P a b c goes first second = adds_then P HasDone HasDone a b c goes first second (λ before x y p d. done_more y x d)

pub goes_by : (done : Finished) (s t : Story) → AddsSo HasDone s t → GoesSo done s t
goes_by (end.Heard heard) s t did = tt
goes_by end.Over s t did = tt
goes_by end.Going s t did = did

pub goes_after : (result : Result Finished HubFault) (P : List Entry → List Entry → Type 0) (a b c : Story) → tunnel.GoesOn b c → AddsSo P a b → IfOk result (λ done. GoesSo done b c) → IfOk result (λ done. GoesSo done a c)
goes_after (Ok (end.Heard heard)) P a b c goes first h = tt
goes_after (Ok end.Over) P a b c goes first h = tt
goes_after (Ok end.Going) P a b c goes first h = done_then P a b c goes first h
goes_after (Err fault) P a b c goes first h = tt
