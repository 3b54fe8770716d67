-- A request can be put exactly where the place in flight is free by the record.
use Rattle.std.proofs.Common.{◌≡◌, ℕ, List, [], ◌∷◌, Bool, true, false, Some, refl, sym, subst, ap, ◌∙◌, ◌↔◌}
use Rattle.line_model.specs.Record.{entries}
use Rattle.line_model.specs.LinkStory.{Story}
use Rattle.line_model.specs.ClientView as seen
use Rattle.line_model.specs.ClientView.{ClientChannel, channel}
use Rattle.line_model.specs.ChannelLost.{own, confirmed}
use Rattle.line_model.specs.ChannelLost as lapse
use Rattle.line_model.specs.Sendings.{last_request}
use Rattle.line_model.specs.Asks.{HasPlace}
use Rattle.line_model.specs.ClientEnd.{ClientEnd, Idle, Seeking, Open, Leaving, JustLost, OpenEnd, is_free, put_refused, put_in_channel}
use Rattle.tunnel_channel.specs.Fits.{KnowsOpen, confirmed_in}
use Rattle.tunnel_channel.proofs.Times.{same_free}
use Rattle.tunnel_link.specs.declared.known.Known.{Known}
use Rattle.tunnel_link.specs.Goes.{KeepsAll}
use Rattle.tunnel_link.specs.Rights.{FitsNow, FitsRecord, WhileFits, has_place}
use Rattle.tunnel_link.proofs.Steps.{none_places}

no_sent : (s : List ℕ) → lapse.is_none s ≡ true → s ≡ []
no_sent [] h = refl
no_sent (t ∷ ts) h = absurd (cc)

open_place : (k : Known) (e : OpenEnd) (left : Bool) (ch : ClientChannel) → put_refused k.channel ≡ put_in_channel (Some e) → (o : KnowsOpen e left ch) → k.flight.confirmed ≡ confirmed_in ch
    → (t : Bool) → is_free e.request ≡ t → (b : Bool) → k.flight.confirmed ≡ b → (has_place k ≡ true) ↔ HasPlace ch
open_place k e left ch is o c true q true p = (
  λ h. (subst HasPlace (sym o.is) (record {
    acknowledged = no_sent (own o.c o.l).sent (sym (same_free (own o.c o.l).sent (last_request o.c o.l)) ∙ sym (ap (λ (d : OpenEnd). is_free d.request) o.knows.is) ∙ q);
    has_confirmation = sym (ap confirmed_in o.is) ∙ sym c ∙ p;
  })),
  λ h. rw (is, q, p) refl,
)
open_place k e left ch is o c true q false p = (
  λ h. absurd (let g : (has_place k ≡ false) = rw (is, q, p) refl in cc),
  λ h. absurd (let place : HasPlace (seen.Open o.c o.l) = subst HasPlace o.is h in let g : (confirmed o.c o.l ≡ false) = sym (ap confirmed_in o.is) ∙ sym c ∙ p in let f : (confirmed o.c o.l ≡ true) = place.has_confirmation in cc),
)
open_place k e left ch is o c false q b p = (
  λ h. absurd (let g : (has_place k ≡ false) = rw (is, q) refl in cc),
  λ h. absurd (let place : HasPlace (seen.Open o.c o.l) = subst HasPlace o.is h in let g : (is_free e.request ≡ true) = ap (λ (d : OpenEnd). is_free d.request) o.knows.is ∙ same_free (own o.c o.l).sent (last_request o.c o.l) ∙ rw place.acknowledged refl in cc),
)

place_by : (k : Known) (end : ClientEnd) (ch : ClientChannel) → k.channel ≡ end → FitsNow end ch → k.flight.confirmed ≡ confirmed_in ch → (has_place k ≡ true) ↔ HasPlace ch
place_by k Idle ch is f c = (λ h. absurd (let g : (has_place k ≡ false) = rw is refl in cc), λ h. absurd (none_places ch f h))
place_by k (Seeking since) ch is f c = (λ h. absurd (let g : (has_place k ≡ false) = rw is refl in cc), λ h. absurd (subst HasPlace f h))
place_by k (Open e) ch is f c = open_place k e false ch (rw is refl) f c (is_free e.request) refl k.flight.confirmed refl
place_by k (Leaving e) ch is f c = open_place k e true ch (rw is refl) f c (is_free e.request) refl k.flight.confirmed refl
place_by k (JustLost c) ch is f d = absurd f

-- the answer of the code
pub told_place : (k : Known) (story : Story) (b : Bool) → b ≡ has_place k → KeepsAll k story → WhileFits (λ r. (b ≡ true) ↔ HasPlace (channel r)) k story
told_place k story b e all calm old p =
    let f : FitsRecord k (entries old) = (all.kept old p).fits calm in
    let h = place_by k k.channel (channel (entries old)) refl f.end f.confirmed in
    (λ i. h.0 (sym e ∙ i), λ place. e ∙ h.1 place)
