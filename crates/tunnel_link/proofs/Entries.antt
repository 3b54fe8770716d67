-- What one more entry of the record leaves as it was, and what it keeps right.
use Rattle.std.proofs.Common.{◌≡◌, ℕ, List, ◌∷◌, Bool, true, false, Option, Some, None, refl, sym, subst}
use Rattle.line_model.specs.declared.fault.HubFault.{HubFault}
use Rattle.line_model.specs.declared.fault.HubFault.TheVariants.{NoMemory, LinkFailed, GatewayRefused, Flooded, WrongLine}
use Rattle.line_model.specs.declared.fault.Try.{Try}
use Rattle.line_model.specs.Reading.{datagram_in, is_connect_request, RequestFrame, request_in}
use Rattle.line_model.specs.Record.{Item, Put, Renewed, Got, Quiet, Entry, entry, is_poll}
use Rattle.line_model.specs.ChannelLost.{is_new_request}
use Rattle.line_model.specs.ClientView as seen
use Rattle.line_model.specs.ClientView.{ClientChannel, channel, after_entry, Puts, Nothing, deed}
use Rattle.line_model.specs.Renews.{RenewsSo, IsOwed, owed, owed_in}
use Rattle.line_model.specs.Sendings.{IsRightItem}
use Rattle.line_model.specs.Written.{IsWritten, IsWrittenItem}
use Rattle.line_model.specs.Leaves.{PartsSo, parting_of}
use Rattle.line_model.specs.Dropped as drop
use Rattle.line_model.specs.Faults.{tries, tries_after, datagrams_taken}
use Rattle.tunnel_channel.specs.Fits.{acknowledged_in, confirmed_in}
use Rattle.tunnel_link.specs.declared.known.Known.{Known}
use Rattle.tunnel_link.specs.Rights.{IsRight, FitsFault, IsntRefusal, at_most_64_bits}
use Rattle.tunnel_link.proofs.Partings.{renewed_parts, poll_parts}

-- ---- a sending: the tries, and nothing is owed after it

put_tries_by : (ch : ClientChannel) (octets : List ℕ) (now : ℕ) (t : List Try) → tries_after ch (after_entry ch (entry (Put octets) now)) t ≡ t
unfolding after_entry
put_tries_by seen.Fresh octets now t = refl
put_tries_by (seen.Sought since) octets now t = refl
put_tries_by (seen.RefusedBy status) octets now t = refl
put_tries_by seen.Unanswered octets now t = refl
put_tries_by (seen.Open c l) octets now t = refl
put_tries_by (seen.Lost c) octets now t = refl

pub put_tries : (r : List Entry) (octets : List ℕ) (now : ℕ) → tries (entry (Put octets) now ∷ r) ≡ tries r
put_tries r octets now = put_tries_by (channel r) octets now (tries r)

put_owes_by : (ch : ClientChannel) (octets : List ℕ) (now : ℕ) → owed_in ch (entry (Put octets) now) (after_entry ch (entry (Put octets) now)) ≡ None
unfolding after_entry
put_owes_by seen.Fresh octets now = refl
put_owes_by (seen.Sought since) octets now = refl
put_owes_by (seen.RefusedBy status) octets now = refl
put_owes_by seen.Unanswered octets now = refl
put_owes_by (seen.Open c l) octets now = refl
put_owes_by (seen.Lost c) octets now = refl

pub put_owes : (r : List Entry) (octets : List ℕ) (now : ℕ) → owed (entry (Put octets) now ∷ r) ≡ None
put_owes r octets now = put_owes_by (channel r) octets now

-- ---- what is in flight, where no request is put for the first time

pub record Still (before after : ClientChannel) : Type 0 where
  pub acked : acknowledged_in after ≡ acknowledged_in before
  pub confirms : confirmed_in after ≡ confirmed_in before

open_still : (c : ℕ) (l : List Entry) (octets : List ℕ) (now : ℕ) (q : Option RequestFrame) → request_in (datagram_in octets) ≡ q → (t : Bool) → is_new_request c l (entry (Put octets) now) ≡ t
    → deed (seen.Open c l) (entry (Put octets) now) ≡ Nothing → Still (seen.Open c l) (after_entry (seen.Open c l) (entry (Put octets) now))
unfolding after_entry deed
open_still c l octets now None q t n h = record { acked = rw q refl; confirms = rw q refl }
open_still c l octets now (Some request) q true n h = absurd (let e : (deed (seen.Open c l) (entry (Put octets) now) ≡ Puts request.cemi) = rw (n, q) refl in cc)
open_still c l octets now (Some request) q false n h = record { acked = rw n refl; confirms = rw n refl }

fresh_still : (octets : List ℕ) (now : ℕ) (t : Bool) → is_connect_request (datagram_in octets) ≡ t → Still seen.Fresh (after_entry seen.Fresh (entry (Put octets) now))
unfolding after_entry
fresh_still octets now true q = record { acked = rw q refl; confirms = rw q refl }
fresh_still octets now false q = record { acked = rw q refl; confirms = rw q refl }

put_still_by : (ch : ClientChannel) (octets : List ℕ) (now : ℕ) → deed ch (entry (Put octets) now) ≡ Nothing → Still ch (after_entry ch (entry (Put octets) now))
unfolding after_entry
put_still_by seen.Fresh octets now h = fresh_still octets now _ refl
put_still_by (seen.Sought since) octets now h = record { acked = refl; confirms = refl }
put_still_by (seen.RefusedBy status) octets now h = record { acked = refl; confirms = refl }
put_still_by seen.Unanswered octets now h = record { acked = refl; confirms = refl }
put_still_by (seen.Open c l) octets now h = open_still c l octets now _ refl _ refl h
put_still_by (seen.Lost c) octets now h = record { acked = refl; confirms = refl }

pub put_still : (r : List Entry) (octets : List ℕ) (now : ℕ) → deed (channel r) (entry (Put octets) now) ≡ Nothing → Still (channel r) (channel (entry (Put octets) now ∷ r))
put_still r octets now h = put_still_by (channel r) octets now h

-- ---- always right

pub put_right : (k : Known) (r : List Entry) (octets : List ℕ) (now : ℕ) → IsRight k r → IsWritten octets → IsOwed (owed r) (entry (Put octets) now) → IsRightItem r (entry (Put octets) now) (Put octets) → RenewsSo r (entry (Put octets) now)
    → PartsSo r (entry (Put octets) now) → IsRight k (entry (Put octets) now ∷ r)
put_right k r octets now right written owes may renews parts = record {
  renews = (renews, right.renews);
  sends = (may, right.sends);
  writes = (written, right.writes);
  acknowledges = (owes, right.acknowledges);
  parts = (parts, right.parts);
  drops = right.drops;
  takes = right.takes;
  fault = subst (λ (t : List Try). FitsFault k.fault t) (sym (put_tries r octets now)) right.fault;
}

renewed_tries : (ch : ClientChannel) (t : List Try) → tries_after ch seen.Fresh t ≡ t
renewed_tries seen.Fresh t = refl
renewed_tries (seen.Sought since) t = refl
renewed_tries (seen.RefusedBy status) t = refl
renewed_tries seen.Unanswered t = refl
renewed_tries (seen.Open c l) t = refl
renewed_tries (seen.Lost c) t = refl

pub renewed_is : (r : List Entry) (now : ℕ) → channel (entry Renewed now ∷ r) ≡ seen.Fresh
unfolding after_entry
renewed_is r now = refl

pub same_tries : (r : List Entry) (now : ℕ) → tries (entry Renewed now ∷ r) ≡ tries r
unfolding after_entry
same_tries r now = renewed_tries (channel r) (tries r)

pub renewed_right : (k : Known) (r : List Entry) (now : ℕ) → IsRight k r → owed r ≡ None → parting_of r ≡ None → RenewsSo r (entry Renewed now) → IsRight k (entry Renewed now ∷ r)
renewed_right k r now right paid parted renews = record {
  renews = (renews, right.renews);
  sends = (tt, right.sends);
  writes = (tt, right.writes);
  acknowledges = (rw paid tt, right.acknowledges);
  parts = (renewed_parts r now parted, right.parts);
  drops = right.drops;
  takes = right.takes;
  fault = subst (λ (t : List Try). FitsFault k.fault t) (sym (same_tries r now)) right.fault;
}

pub poll_renews : (r : List Entry) (what : Item) (now : ℕ) → is_poll what ≡ true → RenewsSo r (entry what now)
poll_renews r (Put octets) now p = absurd (cc)
poll_renews r Renewed now p = absurd (cc)
poll_renews r (Got octets) now p = record { connects = λ h. absurd (cc); leaves = λ h n. absurd (cc); tries_left = λ h. absurd (cc) }
poll_renews r Quiet now p = record { connects = λ h. absurd (cc); leaves = λ h n. absurd (cc); tries_left = λ h. absurd (cc) }

poll_may : (r : List Entry) (what : Item) (now : ℕ) → is_poll what ≡ true → IsRightItem r (entry what now) what
poll_may r (Put octets) now p = absurd (cc)
poll_may r Renewed now p = absurd (cc)
poll_may r (Got octets) now p = tt
poll_may r Quiet now p = tt

poll_written : (what : Item) → is_poll what ≡ true → IsWrittenItem what
poll_written (Put octets) p = absurd (cc)
poll_written Renewed p = absurd (cc)
poll_written (Got octets) p = tt
poll_written Quiet p = tt

pub poll_right : (k next : Known) (r : List Entry) (what : Item) (now : ℕ) → is_poll what ≡ true → owed r ≡ None → IsRight k r → next.dropped ≡ at_most_64_bits (drop.dropped (entry what now ∷ r))
    → next.taken ≡ at_most_64_bits (datagrams_taken (entry what now ∷ r)) → FitsFault next.fault (tries (entry what now ∷ r)) → IsRight next (entry what now ∷ r)
poll_right k next r what now p paid right d t f = record {
  renews = (poll_renews r what now p, right.renews);
  sends = (poll_may r what now p, right.sends);
  writes = (poll_written what p, right.writes);
  acknowledges = (rw paid tt, right.acknowledges);
  parts = (poll_parts r what now p, right.parts);
  drops = d;
  takes = t;
  fault = f;
}

-- ---- after a fault that isn't by the tries

isnt_by_tries : (fault : HubFault) (t : List Try) → IsntRefusal fault → FitsFault (Some fault) t
isnt_by_tries (NoMemory want) t h = tt
isnt_by_tries LinkFailed t h = tt
isnt_by_tries (GatewayRefused three) t h = absurd h
isnt_by_tries Flooded t h = tt
isnt_by_tries (WrongLine device tunnel) t h = tt

pub failed_right : (k : Known) (r : List Entry) (fault : HubFault) → IsntRefusal fault → IsRight k r → IsRight (record k { fault = Some fault }) r
failed_right k r fault n right = record {
  renews = right.renews;
  sends = right.sends;
  writes = right.writes;
  acknowledges = right.acknowledges;
  parts = right.parts;
  drops = right.drops;
  takes = right.takes;
  fault = isnt_by_tries fault (tries r) n;
}
