-- A new endpoint may be taken, and the connect request sent there.
use Rattle.std.proofs.Common.{◌≡◌, inl, inr, ℕ, List, ◌∷◌, true, false, None, refl, sym, ◌∙◌, arith}
use Rattle.std.specs.Prelude.{is_some}
use Rattle.std.proofs.lemmas.Bool.Decides.{nat_tests}
use Rattle.knx_model.specs.declared.frames.ip.IpFrame.TheVariants.{ConnectRequest}
use Rattle.knx_model.specs.KnxNetIp.{Written}
use Rattle.knx_model.specs.Connection.{has_passed}
use Rattle.line_model.specs.Reading.{datagram_in, disconnect_request_in}
use Rattle.line_model.specs.Record.{Put, Renewed, Entry, entry}
use Rattle.line_model.specs.LinkStory.{newest_time}
use Rattle.line_model.specs.ClientView as seen
use Rattle.line_model.specs.ClientView.{ClientChannel, channel, Nothing, deed}
use Rattle.line_model.specs.ChannelLost.{answer_wait}
use Rattle.line_model.specs.Renews.{RenewsSo, has_renewed, is_left, owed, owed_in}
use Rattle.line_model.specs.ClientEnd.{ClientEnd, Idle, Seeking, Open, Leaving, JustLost, MayConnect}
use Rattle.tunnel_channel.specs.Fits.{FitsChannel, HasNone, acknowledged_in, confirmed_in}
use Rattle.tunnel_channel.specs.Follows.{Connects}
use Rattle.tunnel_channel.proofs.Calls.{connect_follows}
use Rattle.tunnel_channel.proofs.Frames.{connect_read}
use Rattle.tunnel_channel.proofs.Current.{sendings_stay_current}
use Rattle.tunnel_link.specs.declared.known.Known.{Known}
use Rattle.tunnel_link.specs.Kept.{with_connect}
use Rattle.tunnel_link.specs.Rights.{IsRight, FitsNow, FitsRecord}
use Rattle.tunnel_link.proofs.Entries.{put_tries, put_owes, renewed_is, same_tries, renewed_right}
use Rattle.tunnel_link.proofs.MaySend.{fits_of, Sending}
use Rattle.tunnel_link.proofs.Steps.{right_with}
use Rattle.tunnel_link.proofs.Partings.{put_parts, put_parted, renewed_parted}

pub none_flies : (ch : ClientChannel) → HasNone ch → (acknowledged_in ch ≡ None) × (confirmed_in ch ≡ true)
none_flies seen.Fresh n = (refl, refl)
none_flies (seen.Sought since) n = absurd n
none_flies (seen.RefusedBy status) n = (refl, refl)
none_flies seen.Unanswered n = (refl, refl)
none_flies (seen.Open c l) n = absurd n
none_flies (seen.Lost c) n = (refl, refl)

has_none : (end : ClientEnd) (ch : ClientChannel) → MayConnect end → FitsNow end ch → HasNone ch
has_none Idle ch m f = f
has_none (Seeking since) ch m f = absurd m
has_none (Open e) ch m f = absurd m
has_none (Leaving e) ch m f = absurd m
has_none (JustLost c) ch m f = absurd f

-- where none may be sought, none is left to be sought for
pub unsought : (end : ClientEnd) (ch : ClientChannel) → FitsNow end ch → ¬ MayConnect end → is_left ch ≡ false
unsought Idle ch f n = absurd (n tt)
unsought (Seeking since) ch f n = rw f refl
unsought (Open e) ch f n = rw f.is refl
unsought (Leaving e) ch f n = rw f.is refl
unsought (JustLost c) ch f n = absurd f

renewed_owes : (ch : ClientChannel) (now : ℕ) → owed_in ch (entry Renewed now) seen.Fresh ≡ None
renewed_owes seen.Fresh now = refl
renewed_owes (seen.Sought since) now = refl
renewed_owes (seen.RefusedBy status) now = refl
renewed_owes seen.Unanswered now = refl
renewed_owes (seen.Open c l) now = refl
renewed_owes (seen.Lost c) now = refl

pub renewed_paid : (r : List Entry) (now : ℕ) → owed (entry Renewed now ∷ r) ≡ None
renewed_paid r now = rw (renewed_is r now) (renewed_owes (channel r) now)

not_passed : (now : ℕ) → has_passed answer_wait now now ≡ false
not_passed now = grind (arith, nat_tests)

sought_now : (now : ℕ) (ch : ClientChannel) → FitsChannel (Seeking now) now ch → ch ≡ seen.Sought now
sought_now now ch (inl is) = is
sought_now now ch (inr u) = absurd (let h = not_passed now in let o : (has_passed answer_wait now now ≡ true) = u.over in cc)

module _ (k : Known) (r : List Entry) (f : FitsRecord k r) (right : IsRight k r) (m : MayConnect k.channel) where
  pub may_renew : RenewsSo r (entry Renewed (newest_time r))
  may_renew =
      let c : Connects k.channel (newest_time r) r = connect_follows k.channel (newest_time r) m r in
      record {
        connects = λ h. absurd (cc);
        leaves = λ h renewed. c.leaves (fits_of k.channel (newest_time r) (channel r) f.end) (λ fresh. absurd (let e : (has_renewed r ≡ false) = f.first fresh in cc));
        tries_left = λ h. f.few;
      }

  pub renewed_so : IsRight k (entry Renewed (newest_time r) ∷ r)
  renewed_so = renewed_right k r (newest_time r) right f.paid f.parted may_renew

  pub connects_so : Sending (with_connect k (newest_time r)) (Written ConnectRequest) Nothing (entry Renewed (newest_time r) ∷ r)
  unfolding deed
  connects_so =
      let now : ℕ = newest_time r in
      let more : List Entry = entry Renewed now ∷ r in
      let all : List Entry = entry (Put (Written ConnectRequest)) now ∷ more in
      let c : Connects k.channel now more = connect_follows k.channel now m more in
      let none : HasNone (channel r) = has_none k.channel (channel r) m f.end in
      let flies = none_flies (channel r) none in
      let sought : (channel all ≡ seen.Sought now) = sought_now now (channel all) (c.sends refl).fits in
      let failed : (Rattle.line_model.specs.Faults.tries all ≡ Rattle.line_model.specs.Faults.tries r) = put_tries more (Written ConnectRequest) now ∙ same_tries r now in
      record {
        right = right_with k (with_connect k now) more refl refl refl renewed_so;
        written = record { frame = ConnectRequest; carries = tt; is = refl };
        owes = rw (renewed_paid r now) tt;
        may = (c.sends refl).may;
        renews = c.right refl;
        parts = put_parts more (Written ConnectRequest) now (renewed_parted r now) (λ asks. absurd (let none : (is_some (disconnect_request_in (datagram_in (Written ConnectRequest))) ≡ false) = rw connect_read refl in let z : true ≡ false = sym asks ∙ none in cc));
        fits = λ u. record {
          end = sought;
          current = sendings_stay_current more (Written ConnectRequest) now (rw (renewed_is r now) tt);
          acknowledged = rw sought (f.acknowledged ∙ flies.0);
          confirmed = rw sought (f.confirmed ∙ flies.1);
          counts = rw sought tt;
          failed = f.failed ∙ sym failed;
          few = rw failed f.few;
          paid = put_owes more (Written ConnectRequest) now;
          parted = put_parted more (Written ConnectRequest) now;
          first = λ h. absurd (let e : (seen.Sought now ≡ seen.Fresh) = sym sought ∙ h in cc);
        };
        did = rw (renewed_is r now) refl;
      }
