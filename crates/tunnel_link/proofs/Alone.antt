-- Which entries leave the open channel alone, and seek none.
use Rattle.std.proofs.Common.{◌≡◌, inl, inr, ℕ, List, [], ◌∷◌, ◌++◌, Bool, true, false, Some, None, Result, Ok, Err, refl, sym, subst, ap, ◌∙◌, append_assoc}
use Rattle.std.specs.Prelude.{is_some, if◌then◌else◌}
use Rattle.knx_model.specs.declared.frames.ip.IpFrame.TheVariants.{TunnellingRequest}
use Rattle.knx_model.specs.KnxNetIp.{Written}
use Rattle.line_model.specs.declared.fault.HubFault.{HubFault}
use Rattle.line_model.specs.Reading.{datagram_in, ldata_in, is_connect_request, disconnect_request_in}
use Rattle.line_model.specs.Record.{Item, Put, Renewed, Got, Quiet, Entry, entry, is_poll, is_renewal, Placed, entries}
use Rattle.line_model.specs.LinkStory.{Story, places_in, newest_time, AreWaits}
use Rattle.line_model.specs.ChannelLost as lose
use Rattle.line_model.specs.ClientView as seen
use Rattle.line_model.specs.ClientView.{ClientChannel, channel, after_entry, Deed, Loses, Nothing, as_counted, counts, deed}
use Rattle.line_model.specs.Moments.{Moment}
use Rattle.line_model.specs.Renews.{RenewsSo, has_renewed, is_just_renewed}
use Rattle.line_model.specs.Closing.{is_open}
use Rattle.line_model.specs.ClientEnd.{ClientEnd, Idle, Seeking, Open, Leaving, JustLost, OpenEnd, IsCemi, is_free, request_of, put_octets, channel_put}
use Rattle.tunnel_channel.specs.Fits.{last_in, own_in}
use Rattle.tunnel_channel.proofs.Frames.{request_read}
use Rattle.tunnel_link.specs.declared.came.Loss.{Loss}
use Rattle.tunnel_link.specs.declared.came.Loss.TheVariants as loss
use Rattle.tunnel_link.specs.declared.came.What.{What}
use Rattle.tunnel_link.specs.declared.came.What.TheVariants as came
use Rattle.tunnel_link.specs.declared.known.Known.{Known}
use Rattle.tunnel_link.specs.Goes.{GoesOn, Keeps}
use Rattle.tunnel_link.specs.Rights.{FitsRecord}
use Rattle.tunnel_link.specs.Adds.{Growing, One, DoesSo, moments_on, is_told}
use Rattle.tunnel_link.specs.Alone.{Each, EndsNone, SeeksNone, LeavesAlone}
use Rattle.tunnel_link.specs.Calls.{SendsSo}
use Rattle.tunnel_link.proofs.Acting.{grows_then}
use Rattle.tunnel_link.proofs.Entries.{renewed_is}
use Rattle.tunnel_link.proofs.Partings.{IsEnding, ending}
use Rattle.tunnel_link.proofs.PutLast.{deed_is}
use Rattle.tunnel_link.proofs.Heard.{GotDeed, IsLost, IsTaken, IsNone, got_deed}
use Rattle.tunnel_link.proofs.Places.{unmoved, sent_grows, sent_or_grows}

-- ---- one call after another

each_then : (P : List Entry → Entry → Type 0) (old one two : List Placed) → Each P old one → Each P (one ++ old) two → Each P old (two ++ one)
each_then P old one [] x y = x
each_then P old one (p ∷ two) x y = (subst (λ (l : List Placed). P (entries l) p.what) (sym (append_assoc two one old)) y.0, each_then P old one two x y.1)

pub both_each : (P : List Entry → Entry → Type 0) (a b c : Story) → GoesOn a b → GoesOn b c → Growing (Each P) a b → Growing (Each P) b c → Growing (Each P) a c
both_each P a b c g h f e = grows_then (Each P) (Each P) (Each P) a b c g h (each_then P) f e

pub none_each : (P : List Entry → Entry → Type 0) (story : Story) → Growing (Each P) story story
none_each P story old p = unmoved (Each P) story story old refl p tt

-- ---- a sending

pub sends_each : (P : List Entry → Entry → Type 0) {X : Type 0} (r : Result X HubFault) (octets : List ℕ) (k new : Known) (before after : Story) → Keeps before
    → ((old : List Placed) → places_in before ≡ Some old → P (entries old) (entry (Put octets) (newest_time (entries old)))) → SendsSo r octets k new before after → Growing (Each P) before after
sends_each P (Ok x) octets k new before after legal is s old p = sent_grows (Each P) octets before after old legal s.1 p (is old p, tt)
sends_each P (Err fault) octets k new before after legal is s old p = sent_or_grows (Each P) octets before after old legal s.1 p tt (is old p, tt)

-- between calls the newest entry is no new endpoint
settled_by : (r : List Entry) (x : Entry) (what : Item) → x ≡ entry what x.now → (channel (x ∷ r) ≡ seen.Fresh → has_renewed (x ∷ r) ≡ false) → is_renewal what ≡ false
settled_by r x (Put octets) is first = refl
settled_by r x (Got octets) is first = refl
settled_by r x Quiet is first = refl
settled_by r x Renewed is first =
    let fresh : (channel (x ∷ r) ≡ seen.Fresh) = subst (λ (y : Entry). channel (y ∷ r) ≡ seen.Fresh) (sym is) (renewed_is r x.now) in
    let none : (has_renewed (entry Renewed x.now ∷ r) ≡ false) = subst (λ (y : Entry). has_renewed (y ∷ r) ≡ false) is (first fresh) in
    absurd (let z : true ≡ false = none in cc)

pub settled : (k : Known) (r : List Entry) → FitsRecord k r → is_just_renewed r ≡ false
settled k [] f = refl
settled k (x ∷ r) f = settled_by r x x.what refl f.first

no_connect : (b : Bool) → (b ≡ true → true ≡ false) → b ≡ false
no_connect true h = h refl
no_connect false h = refl

pub seeks_none : (r : List Entry) (octets : List ℕ) (now : ℕ) → RenewsSo r (entry (Put octets) now) → is_just_renewed r ≡ false → SeeksNone r (entry (Put octets) now)
seeks_none r octets now renews just = record { connects_not = no_connect (is_connect_request (datagram_in octets)) (λ h. sym (renews.connects h) ∙ just); renews_not = refl }

pub ends_not : (r : List Entry) (octets : List ℕ) (now : ℕ) → disconnect_request_in (datagram_in octets) ≡ None → EndsNone r (entry (Put octets) now)
ends_not r octets now none = λ asks. absurd (let z : (is_some (disconnect_request_in (datagram_in octets)) ≡ false) = rw none refl in let t : true ≡ false = sym asks ∙ z in cc)

pub alone : (r : List Entry) (octets : List ℕ) (now : ℕ) → RenewsSo r (entry (Put octets) now) → is_just_renewed r ≡ false → disconnect_request_in (datagram_in octets) ≡ None → LeavesAlone r (entry (Put octets) now)
alone r octets now renews just none = record { ends_none = ends_not r octets now none; seeks_none = seeks_none r octets now renews just }

-- a request
put_of : (e : OpenEnd) (cemi octets : List ℕ) (b : Bool) → is_free e.request ≡ b → IsCemi cemi → put_octets (Some e) cemi ≡ Some octets → disconnect_request_in (datagram_in octets) ≡ None
put_of e cemi octets true q i h =
    let s : (put_octets (Some e) cemi ≡ Some (Written (request_of e cemi))) = rw q refl in
    let same : (Written (request_of e cemi) ≡ octets) = (let z : (Some (Written (request_of e cemi)) ≡ Some octets) = sym s ∙ h in cc) in
    let reads : (datagram_in octets ≡ Some (TunnellingRequest e.channel e.number cemi)) = subst (λ (o : List ℕ). datagram_in o ≡ Some (TunnellingRequest e.channel e.number cemi)) same (request_read e.channel e.number cemi i) in
    rw reads refl
put_of e cemi octets false q i h = absurd (let s : (put_octets (Some e) cemi ≡ None) = rw q refl in let z : (None ≡ Some octets) = sym s ∙ h in cc)

pub put_asks_not : (end : ClientEnd) (cemi octets : List ℕ) → IsCemi cemi → channel_put end cemi ≡ Some octets → disconnect_request_in (datagram_in octets) ≡ None
put_asks_not Idle cemi octets i h = absurd (cc)
put_asks_not (Seeking since) cemi octets i h = absurd (cc)
put_asks_not (Open e) cemi octets i h = put_of e cemi octets (is_free e.request) refl i h
put_asks_not (Leaving e) cemi octets i h = put_of e cemi octets (is_free e.request) refl i h
put_asks_not (JustLost c) cemi octets i h = absurd (cc)

-- ---- a poll

poll_alone : (r : List Entry) (x : Entry) (what : Item) → x ≡ entry what x.now → is_poll what ≡ true → LeavesAlone r x
poll_alone r x (Put octets) is p = absurd (cc)
poll_alone r x Renewed is p = absurd (cc)
poll_alone r x (Got octets) is p = subst (λ (y : Entry). LeavesAlone r y) (sym is) (record { ends_none = λ asks. absurd (cc); seeks_none = record { connects_not = refl; renews_not = refl } })
poll_alone r x Quiet is p = subst (λ (y : Entry). LeavesAlone r y) (sym is) (record { ends_none = λ asks. absurd (cc); seeks_none = record { connects_not = refl; renews_not = refl } })

pub is_alone : (r : List Entry) (x : Entry) → is_poll x.what ≡ true → LeavesAlone r x
is_alone r x p = poll_alone r x x.what refl p

pub waits_alone : (since : ℕ) (old ws : List Placed) → AreWaits since (entries ws) → Each LeavesAlone old ws
waits_alone since old [] h = tt
waits_alone since old (p ∷ ws) h = (is_alone (entries (ws ++ old)) p.what (rw h.0 refl), waits_alone since old ws h.2)

-- what is sent after it asks only a lost channel to end
pub record IsLostNow (ch : ClientChannel) : Type 0 where
  pub c : ℕ
  pub is : ch ≡ seen.Lost c

ended_lost : (ch after : ClientChannel) → IsEnding ch after → IsLostNow after
ended_lost ch after e = record { c = e.d; is = e.lost }

lost_in_got : (ch : ClientChannel) (octets : List ℕ) (now : ℕ) → GotDeed ch (entry (Got octets) now) (after_entry ch (entry (Got octets) now)) → deed ch (entry (Got octets) now) ≡ Loses → IsLostNow (after_entry ch (entry (Got octets) now))
lost_in_got ch octets now (IsLost d c) h = ended_lost ch (after_entry ch (entry (Got octets) now)) (ending ch (after_entry ch (entry (Got octets) now)) c)
lost_in_got ch octets now (IsTaken o d c) h = absurd (not_lost (counts (own_in ch) (last_in ch) (ldata_in o)) (sym (deed_is ch (entry (Got octets) now) ∙ ap (as_counted (own_in ch) (last_in ch)) d) ∙ h))
  where
    not_lost : (b : Bool) → ◌≡◌ {A = seen.Deed} (if b then seen.Takes o else Nothing) Loses → ⊥
    not_lost true e = cc
    not_lost false e = cc
lost_in_got ch octets now (IsNone d c) h = absurd (let z : (Nothing ≡ Loses) = sym (deed_is ch (entry (Got octets) now) ∙ ap (as_counted (own_in ch) (last_in ch)) d) ∙ h in cc)

quiet_lost : (c : ℕ) (l : List Entry) (now : ℕ) (b : Bool) → lose.is_lost c l (entry Quiet now) ≡ b → deed (seen.Open c l) (entry Quiet now) ≡ Loses → IsLostNow (after_entry (seen.Open c l) (entry Quiet now))
unfolding deed after_entry
quiet_lost c l now true q h = record { c = c; is = rw q refl }
quiet_lost c l now false q h = absurd (let e : (deed (seen.Open c l) (entry Quiet now) ≡ Nothing) = rw q refl in let z : (Nothing ≡ Loses) = sym e ∙ h in cc)

lost_in_quiet : (ch : ClientChannel) (now : ℕ) → deed ch (entry Quiet now) ≡ Loses → IsLostNow (after_entry ch (entry Quiet now))
unfolding deed
lost_in_quiet seen.Fresh now h = absurd (cc)
lost_in_quiet (seen.Sought since) now h = absurd (cc)
lost_in_quiet (seen.RefusedBy status) now h = absurd (cc)
lost_in_quiet seen.Unanswered now h = absurd (cc)
lost_in_quiet (seen.Open c l) now h = quiet_lost c l now (lose.is_lost c l (entry Quiet now)) refl h
lost_in_quiet (seen.Lost c) now h = absurd (cc)

lost_in : (ch : ClientChannel) (what : Item) (now : ℕ) → is_poll what ≡ true → deed ch (entry what now) ≡ Loses → IsLostNow (after_entry ch (entry what now))
lost_in ch (Put octets) now p h = absurd (cc)
lost_in ch Renewed now p h = absurd (cc)
lost_in ch (Got octets) now p h = lost_in_got ch octets now (got_deed ch octets now) h
lost_in ch Quiet now p h = lost_in_quiet ch now h

lost_before : (c : ℕ) (what : Item) (now : ℕ) → is_poll what ≡ true → after_entry (seen.Lost c) (entry what now) ≡ seen.Lost c
unfolding after_entry
lost_before c (Put octets) now p = absurd (cc)
lost_before c Renewed now p = absurd (cc)
lost_before c (Got octets) now p = refl
lost_before c Quiet now p = refl

lost_still : (ch : ClientChannel) (what : Item) (now : ℕ) → is_poll what ≡ true → IsLostNow ch → IsLostNow (after_entry ch (entry what now))
lost_still ch what now p l = record { c = l.c; is = ap (λ (a : ClientChannel). after_entry a (entry what now)) l.is ∙ lost_before l.c what now p }

abbrev ArePolls : List Placed → Type 0
ArePolls [] = Unit {0}
ArePolls (p ∷ added) = (is_poll p.what.what ≡ true) × ArePolls added

at_head : (a b : Moment) (x y : List Moment) → a ∷ x ≡ b ∷ y → (a ≡ b) × (x ≡ y)
at_head a b x y e = (cc, cc)

lost_after : (old added : List Placed) → ArePolls added → (newer : List Moment) (m : Moment) (older : List Moment) → moments_on old added ≡ newer ++ m ∷ older → m.what ≡ Loses → IsLostNow (channel (entries (added ++ old)))
lost_after old [] polls [] m older e is = absurd (cc)
lost_after old [] polls (n ∷ newer) m older e is = absurd (cc)
lost_after old (p ∷ added) polls [] m older e is =
    lost_in (channel (entries (added ++ old))) p.what.what p.what.now polls.0 (ap (λ (n : Moment). n.what) (at_head _ m (moments_on old added) older e).0 ∙ is)
lost_after old (p ∷ added) polls (n ∷ newer) m older e is =
    lost_still (channel (entries (added ++ old))) p.what.what p.what.now polls.0 (lost_after old added polls.1 newer m older (at_head _ n (moments_on old added) (newer ++ m ∷ older) e).1 is)

one_lost : (old added : List Placed) → ArePolls added → One (λ (m : Moment). m.what ≡ Loses) (moments_on old added) → IsLostNow (channel (entries (added ++ old)))
one_lost old added polls o = lost_after old added polls o.newer o.m o.older o.all o.is

told_lost : (what : What) (l : Loss) (now : ℕ) (old added : List Placed) → ArePolls added → is_told l ≡ true → DoesSo what l now (moments_on old added) → IsLostNow (channel (entries (added ++ old)))
told_lost what loss.Stays now old added polls t d = absurd (cc)
told_lost what loss.Ended now old added polls t d = absurd (cc)
told_lost came.Quiet loss.Told now old added polls t d = one_lost old added polls d
told_lost came.Dropped loss.Told now old added polls t (inl d) = one_lost old added polls d
told_lost came.Dropped loss.Told now old added polls t (inr d) = absurd (let z : (loss.Told ≡ loss.Stays) = d.1 in cc)
told_lost came.Tunnel loss.Told now old added polls t d = one_lost old added polls d
told_lost (came.Up tunnel) loss.Told now old added polls t d = absurd (let z : (loss.Told ≡ loss.Stays) = d.1 in cc)
told_lost (came.Frame frame) loss.Told now old added polls t d = absurd (let z : (loss.Told ≡ loss.Stays) = d.1 in cc)

are_polls : (since : ℕ) (ws : List Placed) → AreWaits since (entries ws) → ArePolls ws
are_polls since [] h = tt
are_polls since (p ∷ ws) h = (rw h.0 refl, are_polls since ws h.2)

is_shut : (ch : ClientChannel) → IsLostNow ch → is_open ch ≡ false
is_shut ch l = rw l.is refl

polled_not : (x : Entry) (what : Item) → x ≡ entry what x.now → is_poll what ≡ true → is_renewal x.what ≡ false
polled_not x (Put octets) is p = absurd (cc)
polled_not x Renewed is p = absurd (cc)
polled_not x (Got octets) is p = rw is refl
polled_not x Quiet is p = rw is refl

-- the answer to what a poll brought
pub answer_alone : (what : What) (l : Loss) (since now : ℕ) (old ws : List Placed) (p : Placed) (octets : List ℕ) → is_poll p.what.what ≡ true → AreWaits since (entries ws) → is_some (disconnect_request_in (datagram_in octets)) ≡ is_told l → DoesSo what l now (moments_on old (p ∷ ws))
    → RenewsSo (entries ((p ∷ ws) ++ old)) (entry (Put octets) p.what.now) → LeavesAlone (entries ((p ∷ ws) ++ old)) (entry (Put octets) p.what.now)
answer_alone what l since now old ws p octets poll times tells does renews = record {
  ends_none = λ asks. is_shut (channel (entries ((p ∷ ws) ++ old))) (told_lost what l now old (p ∷ ws) (poll, are_polls since ws times) (sym tells ∙ asks) does);
  seeks_none = seeks_none (entries ((p ∷ ws) ++ old)) octets p.what.now renews (polled_not p.what p.what.what refl poll);
}
