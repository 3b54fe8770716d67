-- Where the client asked for the end of its open channel all is finished, and stays so; and where it didn't, no channel was lost.
use Rattle.std.proofs.Common.{◌≡◌, ◌≢◌, ℕ, ◌≤◌, ◌⊎◌, List, [], ◌∷◌, ◌++◌, length, Bool, true, false, ◌&&◌, ◌||◌, cond, Option, Some, None, refl, sym, ◌∙◌, ap, subst, inl, inr, arith}
use Rattle.std.specs.Prelude.{nat_lt, nat_le, reverse}
use Rattle.std.proofs.lemmas.Bool.{and_parts}
use Rattle.std.proofs.lemmas.List.{length-reverse}
use Rattle.knx_model.specs.declared.address.IndAddr.{IndAddr}
use Rattle.knx_model.specs.declared.log.Sign.{Sign}
use Rattle.line_model.specs.declared.group.GroupTurn.{GroupTurn}
use Rattle.line_model.specs.declared.log.LogEntry.{LogEntry}
use Rattle.line_model.specs.declared.log.LogWhat.TheVariants.{Took}
use Rattle.line_model.specs.ChannelLost.{delivers, expected, is_new_request, last_frame, has_lapsed, is_ended_by, is_lost}
use Rattle.line_model.specs.ClientView.{ClientChannel, Fresh, Sought, RefusedBy, Unanswered, Open, Lost, Deed, Puts, Takes, Loses, Nothing, own_address, as_counted, counts, deed_of, or_takes, deed_in, after_entry, channel, deed}
use Rattle.line_model.specs.Closing.{asks_to_end, is_open}
use Rattle.line_model.specs.Leaves.{StaysOpen, IsFinished}
use Rattle.line_model.specs.Log.{Job, Untaken, Held, Over, job_of, state_of, has_entry, is_turn, MayFollow, IsNextTurn}
use Rattle.line_model.specs.Moments.{Moment, put_to, is_connect, grown, stretches, between}
use Rattle.knx_model.specs.declared.frames.cemi.Ldata.{Ldata}
use Rattle.line_model.specs.Reading.{ldata_in, RequestFrame, request_in}
use Rattle.line_model.specs.Record.{Item, Put, Renewed, Got, Quiet, Entry, put_in, got_in, is_renewal, is_poll}
use Rattle.line_model.specs.Signs.{EachHolds, SignsHold}
use Rattle.line_model.specs.Told.{PutOnce, IsLoss}
use Rattle.tunnel_law.proofs.Inside.{Every}
use Rattle.calm_law.proofs.Held.{IsTo, TakesIt, EndsIt, Else, is_to, taken_is, after_other, after_end, after}

-- ---- asked for

pub asked_or_not : (r : List Entry) → StaysOpen r ⊎ (StaysOpen r → ⊥)
asked_or_not [] = inl tt
asked_or_not (x ∷ r) = by_both (asked_or_not r) (asks_to_end x) (is_open (channel r)) refl refl where
  by_both : StaysOpen r ⊎ (StaysOpen r → ⊥) → (a b : Bool) → asks_to_end x ≡ a → is_open (channel r) ≡ b → StaysOpen (x ∷ r) ⊎ (StaysOpen (x ∷ r) → ⊥)
  by_both (inr asked) a b e f = inr (λ s. asked s.1)
  by_both (inl s) true true e f = inr (λ z. let c : false ≡ true = sym (z.0 e) ∙ f in cc)
  by_both (inl s) true false e f = inl ((λ a. f), s)
  by_both (inl s) false b e f = inl ((λ a. absurd (let c : false ≡ true = sym e ∙ a in cc)), s)

-- all is finished
abbrev pub WhereAsked : List Job → List GroupTurn → List LogEntry → List Entry → Type 0
WhereAsked jobs turns log r = (StaysOpen r → ⊥) → IsFinished jobs turns log

-- after one more entry of the record
pub asked_more : (jobs : List Job) (turns : List GroupTurn) (log : List LogEntry) (x : Entry) (r : List Entry) → (asks_to_end x ≡ true → is_open (channel r) ≡ true → IsFinished jobs turns log) → WhereAsked jobs turns log r → WhereAsked jobs turns log (x ∷ r)
asked_more jobs turns log x r ends before asked = by_both (asked_or_not r) (asks_to_end x) (is_open (channel r)) refl refl where
  by_both : StaysOpen r ⊎ (StaysOpen r → ⊥) → (a b : Bool) → asks_to_end x ≡ a → is_open (channel r) ≡ b → IsFinished jobs turns log
  by_both (inr earlier) a b e f = before earlier
  by_both (inl s) true true e f = ends e f
  by_both (inl s) true false e f = absurd (asked ((λ a. f), s))
  by_both (inl s) false b e f = absurd (asked ((λ a. absurd (let c : false ≡ true = sym e ∙ a in cc)), s))

-- ---- what is finished stays so

module _ (jobs : List Job) (turns : List GroupTurn) (e : LogEntry) (log : List LogEntry) (may : MayFollow jobs turns e.worker log e.what) where
  over_stays : (k : ℕ) → state_of k log ≡ Over → state_of k (e ∷ log) ≡ Over
  over_stays k over = by_entry (is_to k e) where
    by_entry : IsTo k e → state_of k (e ∷ log) ≡ Over
    by_entry (TakesIt t) =
        let m : MayFollow jobs turns e.worker log (Took k) = subst (MayFollow jobs turns e.worker log) (taken_is k e.what t) may in
        absurd (let c : Over ≡ Untaken = sym over ∙ m.1 in cc)
    by_entry (EndsIt t d) = after_end k e (state_of k log) t d
    by_entry (Else t d) = after_other k e (state_of k log) t d ∙ over

  untold_before : (k : ℕ) → has_entry k (e ∷ log) ≡ false → has_entry k log ≡ false
  untold_before k h = by_turn (is_turn k e.what) h where
    by_turn : (b : Bool) → (b || has_entry k log) ≡ false → has_entry k log ≡ false
    by_turn true h = absurd (cc)
    by_turn false h = h

  pub finished_stays : IsFinished jobs turns log → IsFinished jobs turns (e ∷ log)
  finished_stays f = record { jobs_over = λ k there. over_stays k (f.jobs_over k there); turns_told = λ t. f.turns_told (t.0, t.1, untold_before t.0 t.2) }

-- so no job is held, and no group telegram is next
pub none_held : (jobs : List Job) (turns : List GroupTurn) (log : List LogEntry) (k worker since : ℕ) (job : Job) → IsFinished jobs turns log → job_of jobs k ≡ Some job → state_of k log ≡ Held worker since → ⊥
none_held jobs turns log k worker since job f there held = let c : Over ≡ Held worker since = sym (f.jobs_over k (λ none. let d : Some job ≡ None = sym there ∙ none in cc)) ∙ held in cc

pub none_next : (jobs : List Job) (turns : List GroupTurn) (log : List LogEntry) (k : ℕ) → IsFinished jobs turns log → IsNextTurn turns log k → ⊥
none_next jobs turns log k f next = f.turns_told (k, next.there, next.untold)

-- ---- one attempt has no three signs

each_not : (device : ℕ) (signs : List Sign) (ss : List (List Moment)) → length signs ≡ 3 → length ss ≤ 1 → EachHolds device signs ss → ⊥
each_not device [] ss three few h = omega (arith, three)
each_not device (x ∷ []) ss three few h = omega (arith, three)
each_not device (x ∷ y ∷ signs) [] three few h = h
each_not device (x ∷ y ∷ signs) (s ∷ []) three few h = h.1
each_not device (x ∷ y ∷ signs) (s ∷ u ∷ ss) three few h = omega (arith, few)

pub signs_not : (device : ℕ) (signs : List Sign) (l : List Moment) → length (stretches device l) ≤ 1 → SignsHold device signs l → ⊥
signs_not device signs l few h = each_not device (reverse signs) (stretches device l) (length-reverse signs ∙ h.three) few h.each

-- ---- where no channel was lost no group telegram was

abbrev pub NotLost : Moment → Type 0
NotLost m = m.what ≢ Loses

pub lost_after : (since : ℕ) (l : List Moment) → Every NotLost l → Every NotLost (after since l)
lost_after since [] h = tt
lost_after since (m ∷ l) h = by_test (nat_lt since m.at) (lost_after since l h.1) where
  by_test : (b : Bool) → Every NotLost (after since l) → Every NotLost (cond b (m ∷ after since l) (after since l))
  by_test true q = (h.0, q)
  by_test false q = q

in_later : (later : List Moment) (end : Moment) (rest : List Moment) → Every NotLost (later ++ end ∷ rest) → NotLost end
in_later [] end rest h = h.0
in_later (m ∷ later) end rest h = in_later later end rest h.1

pub put_not_lost : (turn : GroupTurn) (l : List Moment) → Every NotLost l → PutOnce turn IsLoss l → ⊥
put_not_lost turn l h p = in_later p.later p.end (p.flown ++ p.put ∷ p.before) (subst (Every NotLost) p.split h) p.ends

-- ---- a deed that loses the channel leaves it lost

puts_or_takes : (a b : Bool) (x y : Option RequestFrame) → or_takes (deed_of Puts a x) (deed_of Takes b y) ≡ Loses → ⊥
puts_or_takes true b (Some f) y h = cc
puts_or_takes false true (Some f) (Some g) h = cc
puts_or_takes false false (Some f) (Some g) h = cc
puts_or_takes false b (Some f) None h = cc
puts_or_takes a true None (Some g) h = cc
puts_or_takes a false None (Some g) h = cc
puts_or_takes a b None None h = cc

poll_not_renewed : (i : Item) → is_poll i ≡ true → is_renewal i ≡ false
poll_not_renewed (Put octets) h = absurd (cc)
poll_not_renewed Renewed h = absurd (cc)
poll_not_renewed (Got octets) h = refl
poll_not_renewed Quiet h = refl

lost_by : (c : ℕ) (l : List Entry) (x : Entry) → is_lost c l x ≡ true → after_entry (Open c l) x ≡ Lost c
unfolding after_entry
lost_by c l x h =
    let poll : is_poll x.what ≡ true = (and_parts (is_poll x.what) (has_lapsed c l x.now || is_ended_by c l x.now (got_in x.what)) h).0 in
    rw (poll_not_renewed x.what poll) (rw h refl)

counted_loses : (address : Option IndAddr) (last : Option Ldata) (what : Deed) → as_counted address last what ≡ Loses → what ≡ Loses
counted_loses address last (Puts octets) h = absurd (cc)
counted_loses address last (Takes octets) h = absurd (by_count (counts address last (ldata_in octets)) h) where
  by_count : (b : Bool) → cond {A = Deed} b (Takes octets) Nothing ≡ Loses → ⊥
  by_count true e = cc
  by_count false e = cc
counted_loses address last Loses h = refl
counted_loses address last Nothing h = absurd (cc)

pub lost_deed : (c : ClientChannel) (x : Entry) → deed c x ≡ Loses → (d : ℕ) × (after_entry c x ≡ Lost d)
unfolding deed
lost_deed Fresh x h = absurd (let e : Nothing ≡ Loses = h in cc)
lost_deed (Sought since) x h = absurd (let e : Nothing ≡ Loses = h in cc)
lost_deed (RefusedBy status) x h = absurd (let e : Nothing ≡ Loses = h in cc)
lost_deed Unanswered x h = absurd (let e : Nothing ≡ Loses = h in cc)
lost_deed (Lost d) x h = absurd (let e : Nothing ≡ Loses = h in cc)
lost_deed (Open c l) x h = by_lost (is_lost c l x) refl h where
  by_lost : (b : Bool) → is_lost c l x ≡ b → cond b Loses (as_counted (own_address l) (last_frame c l) (deed_in c l x)) ≡ Loses → (d : ℕ) × (after_entry (Open c l) x ≡ Lost d)
  by_lost true e g = (c, lost_by c l x e)
  by_lost false e g =
      absurd (puts_or_takes (is_new_request c l x) (delivers c (expected c l) (request_in (got_in x.what))) (request_in (put_in x.what)) (request_in (got_in x.what)) (counted_loses (own_address l) (last_frame c l) (deed_in c l x) g))

-- ---- none put before none up to a place

pub none_between : (a since upto : ℕ) (l : List Moment) → stretches a (after since l) ≡ [] → stretches a (between since upto l) ≡ []
none_between a since upto [] h = refl
none_between a since upto (m ∷ l) h = by_test (nat_lt since m.at) (nat_le m.at upto) (λ q. none_between a since upto l q) h where
  grown_none : (ss : List (List Moment)) → grown m ss ≡ [] → ss ≡ []
  grown_none [] g = refl
  grown_none (s ∷ ss) g = absurd (cc)

  by_put : (b : Bool) → cond {A = List (List Moment)} b ([] ∷ stretches a (after since l)) (grown m (stretches a (after since l))) ≡ [] → (b ≡ false) × (stretches a (after since l) ≡ [])
  by_put true g = absurd (cc)
  by_put false g = (refl, grown_none (stretches a (after since l)) g)

  with_it : (b : Bool) → is_connect (put_to a m.what) ≡ b → b ≡ false → stretches a (between since upto l) ≡ [] → stretches a (m ∷ between since upto l) ≡ []
  with_it b e f g = ap (λ z. cond {A = List (List Moment)} z ([] ∷ stretches a (between since upto l)) (grown m (stretches a (between since upto l)))) (e ∙ f) ∙ ap (grown m) g

  by_test : (t c : Bool) → (stretches a (after since l) ≡ [] → stretches a (between since upto l) ≡ []) → stretches a (cond t (m ∷ after since l) (after since l)) ≡ [] → stretches a (cond (t && c) (m ∷ between since upto l) (between since upto l)) ≡ []
  by_test true true f g = let two = by_put (is_connect (put_to a m.what)) g in with_it (is_connect (put_to a m.what)) refl two.0 (f two.1)
  by_test true false f g = f (by_put (is_connect (put_to a m.what)) g).1
  by_test false c f g = f g
