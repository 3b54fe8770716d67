-- Where the place in flight is free, no request is unconfirmed.
use Rattle.std.proofs.Common.{◌≡◌, ℕ, Bool, true, false, List, [], ◌∷◌, Option, Some, None, refl, sym, ap, subst, ◌∙◌}
use Rattle.std.specs.Prelude.{if◌then◌else◌, not, is_some, ◌&&◌, ◌||◌, ◌==◌}
use Rattle.knx_model.specs.declared.address.IndAddr.{IndAddr}
use Rattle.knx_model.specs.declared.frames.cemi.Ldata.{Ldata}
use Rattle.knx_model.specs.declared.frames.ip.IpFrame.{IpFrame}
use Rattle.knx_model.specs.declared.frames.ip.IpFrame.TheVariants.{ConnectRequest, ConnectResponse, StateRequest, StateResponse, DisconnectRequest, DisconnectResponse, TunnellingRequest, TunnellingAck}
use Rattle.knx_model.specs.Connection.{has_passed}
use Rattle.line_model.specs.Reading.{RequestFrame, request_in, ldata_in, is_con, is_connect_request}
use Rattle.line_model.specs.Record.{Entry, Placed, entries, put_in, got_in, is_renewal, is_poll}
use Rattle.line_model.specs.ChannelLost.{confirmed, confirms, last_frame, is_confirmation, is_alike, is_confirmation_of, is_new_request, delivers, expected, is_lost, answer_wait}
use Rattle.line_model.specs.ClientView.{ClientChannel, Fresh, Sought, RefusedBy, Unanswered, Open, Lost, Puts, Takes, Loses, Nothing, own_address, is_stray, as_counted, channel, after_entry, after_fresh, after_sought, sought_got, goes_on, deed, deed_in, deed_of, or_takes}
use Rattle.line_model.specs.Moments.{moments, error_of, where_is}
use Rattle.line_model.specs.Renews.{RenewsRightly, RenewsSo, has_renewed, is_just_renewed, MayLeave}
use Rattle.line_model.specs.Asks.{HasPlace}
use Rattle.line_model.proofs.Strays.{con_stray}
use Rattle.hub_work.specs.Fits.{in_flight, flies_after}
use Rattle.hub_work.specs.Follows.{PlaceIsFree}

-- a confirmation is one to both
same_confirmation : (o : Option Ldata) → is_some (error_of (where_is (λ (f : Ldata). is_con f.code) o)) ≡ is_confirmation o
same_confirmation None = refl
same_confirmation (Some f) = by_code (is_con f.code)
  where
    by_code : (b : Bool) → is_some (error_of (if b then Some f else None)) ≡ b
    by_code true = refl
    by_code false = refl

-- what the channel says of the request that is unconfirmed, if one is
abbrev Lands : ClientChannel → Bool → Type 0
Lands (Open c l) b = confirmed c l ≡ true → b ≡ false
Lands Fresh b = b ≡ false
Lands (Sought since) b = b ≡ false
Lands (RefusedBy status) b = b ≡ false
Lands Unanswered b = b ≡ false
Lands (Lost c) b = b ≡ false

none_flies : (ch : ClientChannel) (b : Bool) → b ≡ false → Lands ch b
none_flies (Open c l) b e = λ t. e
none_flies Fresh b e = e
none_flies (Sought since) b e = e
none_flies (RefusedBy status) b e = e
none_flies Unanswered b e = e
none_flies (Lost c) b e = e

-- ---- in an open channel

-- one that is its own is a confirmation
own_is : (last o : Option Ldata) → is_confirmation_of last o ≡ true → is_confirmation o ≡ true
own_is None o e = absurd (cc)
own_is (Some f) None e = absurd (cc)
own_is (Some f) (Some con) e = by_code (is_con con.code) e
  where
    by_code : (b : Bool) → (b && is_alike f con) ≡ true → b ≡ true
    by_code true e = refl
    by_code false e = absurd (cc)

took : (c n : ℕ) (l : List Entry) (b : Bool) (address : Option IndAddr) (last : Option Ldata) (o : Option RequestFrame) → (confirmed c l ≡ true → b ≡ false) → (if confirms c n last o then true else confirmed c l) ≡ true → flies_after (as_counted address last (deed_of Takes (delivers c n o) o)) b ≡ false
took c n l b address last None lands e = lands e
took c n l b address last (Some r) lands e = by_delivery (delivers c n (Some r)) e
  where
    flown : Bool → Bool
    flown t = if t then false else b

    -- it counts: it is no indication to another device than the tunnel, and no confirmation or its own
    by_counting : (stray own con : Bool) → is_stray address (ldata_in r.cemi) ≡ stray → is_confirmation_of last (ldata_in r.cemi) ≡ own → is_confirmation (ldata_in r.cemi) ≡ con → (if own then true else confirmed c l) ≡ true
        → flies_after (if not stray && (not con || own) then Takes r.cemi else Nothing) b ≡ false
    by_counting true true con s p q e = absurd (let z : false ≡ true = sym (con_stray address (ldata_in r.cemi) (own_is last (ldata_in r.cemi) p)) ∙ s in cc)
    by_counting true false con s p q e = lands e
    by_counting false true true s p q e = ap flown (same_confirmation (ldata_in r.cemi) ∙ q)
    by_counting false true false s p q e = absurd (let z : false ≡ true = sym q ∙ own_is last (ldata_in r.cemi) p in cc)
    by_counting false false true s p q e = lands e
    by_counting false false false s p q e = ap flown (same_confirmation (ldata_in r.cemi) ∙ q) ∙ lands e

    by_delivery : (d : Bool) → (if d && is_confirmation_of last (ldata_in r.cemi) then true else confirmed c l) ≡ true → flies_after (as_counted address last (if d then Takes r.cemi else Nothing)) b ≡ false
    by_delivery true e = by_counting (is_stray address (ldata_in r.cemi)) (is_confirmation_of last (ldata_in r.cemi)) (is_confirmation (ldata_in r.cemi)) refl refl refl e
    by_delivery false e = lands e

unput : (o : Option RequestFrame) → deed_of Puts false o ≡ Nothing
unput None = refl
unput (Some r) = refl

in_open : (c : ℕ) (l : List Entry) (x : Entry) (b : Bool) → (confirmed c l ≡ true → b ≡ false) → confirmed c (x ∷ l) ≡ true → flies_after (as_counted (own_address l) (last_frame c l) (deed_in c l x)) b ≡ false
in_open c l x b lands e = by_request (is_new_request c l x) e
  where
    by_request : (t : Bool) → (if t then false else (if confirms c (expected c l) (last_frame c l) (request_in (got_in x.what)) then true else confirmed c l)) ≡ true
        → flies_after (as_counted (own_address l) (last_frame c l) (or_takes (deed_of Puts t (request_in (put_in x.what))) (deed_of Takes (delivers c (expected c l) (request_in (got_in x.what))) (request_in (got_in x.what))))) b ≡ false
    by_request true e = absurd (cc)
    by_request false e =
        ap (λ d. flies_after (as_counted (own_address l) (last_frame c l) (or_takes d (deed_of Takes (delivers c (expected c l) (request_in (got_in x.what))) (request_in (got_in x.what))))) b) (unput (request_in (put_in x.what)))
        ∙ took c (expected c l) l b (own_address l) (last_frame c l) (request_in (got_in x.what)) lands e

-- ---- a channel is sought and open only at an endpoint that was taken

abbrev IsAt : ClientChannel → List Entry → Type 0
IsAt (Open c l) r = has_renewed r ≡ true
IsAt (Sought since) r = has_renewed r ≡ true
IsAt Fresh r = Unit {0}
IsAt (RefusedBy status) r = Unit {0}
IsAt Unanswered r = Unit {0}
IsAt (Lost c) r = Unit {0}

renewed_more : (x : Entry) (r : List Entry) → has_renewed r ≡ true → has_renewed (x ∷ r) ≡ true
renewed_more x r e = rw e (or_true (is_renewal x.what))
  where
    or_true : (b : Bool) → (b || true) ≡ true
    or_true true = refl
    or_true false = refl

just_is : (r : List Entry) → is_just_renewed r ≡ true → has_renewed r ≡ true
just_is [] e = e
just_is (x ∷ r) e = rw e refl

fresh_at : (r : List Entry) (x : Entry) → RenewsSo r x → IsAt (after_fresh x) (x ∷ r)
fresh_at r x s = by_request (is_connect_request (put_in x.what)) refl
  where
    by_request : (b : Bool) → is_connect_request (put_in x.what) ≡ b → IsAt (if b then Sought x.now else Fresh) (x ∷ r)
    by_request true e = renewed_more x r (just_is r (s.connects e))
    by_request false e = tt

sought_at : (r : List Entry) (x : Entry) (since : ℕ) → has_renewed r ≡ true → IsAt (after_sought since x) (x ∷ r)
sought_at r x since e = by_time (is_poll x.what && has_passed answer_wait since x.now)
  where
    by_status : (channel status : ℕ) (b : Bool) → IsAt (if b then Open channel (x ∷ []) else RefusedBy status) (x ∷ r)
    by_status channel status true = renewed_more x r e
    by_status channel status false = tt

    by_frame : (o : Option IpFrame) → IsAt (sought_got since x o) (x ∷ r)
    by_frame None = renewed_more x r e
    by_frame (Some (ConnectResponse channel status tunnel)) = by_status channel status (status == 0)
    by_frame (Some ConnectRequest) = renewed_more x r e
    by_frame (Some (StateRequest channel)) = renewed_more x r e
    by_frame (Some (StateResponse channel status)) = renewed_more x r e
    by_frame (Some (DisconnectRequest channel)) = renewed_more x r e
    by_frame (Some (DisconnectResponse channel status)) = renewed_more x r e
    by_frame (Some (TunnellingRequest channel number cemi)) = renewed_more x r e
    by_frame (Some (TunnellingAck channel number status)) = renewed_more x r e

    by_time : (b : Bool) → IsAt (if b then Unanswered else sought_got since x (got_in x.what)) (x ∷ r)
    by_time true = tt
    by_time false = by_frame (got_in x.what)

goes_at : (r : List Entry) (x : Entry) (ch : ClientChannel) → RenewsSo r x → IsAt ch r → IsAt (goes_on ch x) (x ∷ r)
goes_at r x Fresh s at = fresh_at r x s
goes_at r x (Sought since) s at = sought_at r x since at
goes_at r x (RefusedBy status) s at = tt
goes_at r x Unanswered s at = tt
goes_at r x (Open c l) s at = by_loss (is_lost c l x)
  where
    by_loss : (b : Bool) → IsAt (if b then Lost c else Open c (x ∷ l)) (x ∷ r)
    by_loss true = tt
    by_loss false = renewed_more x r at
goes_at r x (Lost c) s at = tt

-- ---- entry by entry

after_so : (ch : ClientChannel) (x : Entry) → after_entry ch x ≡ (if is_renewal x.what then Fresh else goes_on ch x)
unfolding after_entry
after_so ch x = refl

pub is_at : (r : List Entry) → RenewsRightly r → IsAt (channel r) r
is_at [] s = tt
is_at (x ∷ r) s = subst (λ ch. IsAt ch (x ∷ r)) (sym (after_so (channel r) x)) (by_renewal (is_renewal x.what) (is_at r s.1))
  where
    by_renewal : (b : Bool) → IsAt (channel r) r → IsAt (if b then Fresh else goes_on (channel r) x) (x ∷ r)
    by_renewal true at = tt
    by_renewal false at = goes_at r x (channel r) s.0 at

goes_lands : (x : Entry) (ch : ClientChannel) (b : Bool) → Lands ch b → Lands (goes_on ch x) (flies_after (deed ch x) b)
unfolding deed
goes_lands x Fresh b e = none_flies (goes_on Fresh x) b e
goes_lands x (Sought since) b e = none_flies (goes_on (Sought since) x) b e
goes_lands x (RefusedBy status) b e = e
goes_lands x Unanswered b e = e
goes_lands x (Open c l) b e = by_loss (is_lost c l x)
  where
    by_loss : (t : Bool) → Lands (if t then Lost c else Open c (x ∷ l)) (flies_after (if t then Loses else as_counted (own_address l) (last_frame c l) (deed_in c l x)) b)
    by_loss true = refl
    by_loss false = λ q. in_open c l x b e q
goes_lands x (Lost c) b e = e

renewal_lands : (r : List Entry) (x : Entry) (ch : ClientChannel) (b : Bool) → IsAt ch r → (has_renewed r ≡ true → MayLeave ch) → Lands ch b → flies_after (deed ch x) b ≡ false
unfolding deed
renewal_lands r x Fresh b at may e = e
renewal_lands r x (Sought since) b at may e = e
renewal_lands r x (RefusedBy status) b at may e = e
renewal_lands r x Unanswered b at may e = e
renewal_lands r x (Open c l) b at may e = absurd (may at)
renewal_lands r x (Lost c) b at may e = e

pub lands : (places : List Placed) → RenewsRightly (entries places) → Lands (channel (entries places)) (in_flight (moments places))
lands [] s = refl
lands (p ∷ older) s = subst (λ ch. Lands ch (flies_after (deed (channel (entries older)) p.what) (in_flight (moments older)))) (sym (after_so (channel (entries older)) p.what)) (by_renewal (is_renewal p.what.what) refl (lands older s.1))
  where
    by_renewal : (b : Bool) → is_renewal p.what.what ≡ b → Lands (channel (entries older)) (in_flight (moments older))
        → Lands (if b then Fresh else goes_on (channel (entries older)) p.what) (flies_after (deed (channel (entries older)) p.what) (in_flight (moments older)))
    by_renewal true e so_far = renewal_lands (entries older) p.what (channel (entries older)) (in_flight (moments older)) (is_at (entries older) s.1) (s.0.leaves e) so_far
    by_renewal false e so_far = goes_lands p.what (channel (entries older)) (in_flight (moments older)) so_far

free_so : (ch : ClientChannel) (b : Bool) → HasPlace ch → Lands ch b → b ≡ false
free_so Fresh b place e = absurd place
free_so (Sought since) b place e = absurd place
free_so (RefusedBy status) b place e = absurd place
free_so Unanswered b place e = absurd place
free_so (Open c l) b place e = e place.has_confirmation
free_so (Lost c) b place e = absurd place

pub place_is_free : PlaceIsFree
place_is_free places renews place = free_so (channel (entries places)) (in_flight (moments places)) place (lands places renews)
