-- A new endpoint and its connect request over a link: what they add to the places, and that what is kept is kept.
use Rattle.std.proofs.Common.{◌≡◌, ◌≢◌, inl, inr, ℕ, List, [], ◌∷◌, Bool, false, Some, None, Result, Ok, Err, refl, sym, subst, ap, ◌∙◌, arith}
use Rattle.std.specs.List.{list_any}
use Rattle.knx_model.specs.declared.frames.ip.IpFrame.TheVariants.{ConnectRequest}
use Rattle.knx_model.specs.KnxNetIp.{Written}
use Rattle.line_model.specs.declared.fault.HubFault.{HubFault}
use Rattle.line_model.specs.Record.{Put, Renewed, entry, is_poll, Placed, entries}
use Rattle.line_model.specs.LinkStory.{Story, places_in, newest_time, RenewsOrNot, Sends, SendsOrNot}
use Rattle.line_model.specs.ClientView as seen
use Rattle.line_model.specs.ClientView.{ClientChannel, channel, Nothing, deed}
use Rattle.line_model.specs.ClientEnd.{MayConnect}
use Rattle.tunnel_link.specs.declared.known.Known.{Known}
use Rattle.tunnel_link.specs.Goes.{Goes, Keeps, KeepsAll}
use Rattle.tunnel_link.specs.Kept.{with_connect}
use Rattle.tunnel_link.specs.Rights.{FitsRecord, IsKept, WhereTold}
use Rattle.tunnel_link.specs.Adds.{place_of, Grows, Growing, AllNothing}
use Rattle.tunnel_link.specs.Calls.{SendsSo, Connecting, Unrenewed, ConnectsSo}
use Rattle.tunnel_link.proofs.Growth.{OneMore, renews_it, sends_it, adds_more}
use Rattle.tunnel_link.proofs.MaySend.{Sending, failed_kept}
use Rattle.tunnel_link.proofs.Seeks.{renewed_so, connects_so}
use Rattle.tunnel_link.proofs.Places.{added_of, After, where_after, one_sent, unmoved}
use Rattle.tunnel_link.proofs.Stories.{goes_then, renews_goes, renews_or_goes}
use Rattle.tunnel_link.proofs.CallsKept.{time_is, sends_keeps, sends_go}

pub grows_as : (P Q : List Placed → List Placed → Type 0) (s t : Story) → ((old added : List Placed) → P old added → Q old added) → Growing P s t → Growing Q s t
grows_as P Q s t h g old p = let x = g old p in record { new = x.new; told = x.told; added = x.added; grown = x.grown; is = h old x.added x.is }

renewed_did : (ch : ClientChannel) (now : ℕ) → deed ch (entry Renewed now) ≡ Nothing
unfolding deed
renewed_did seen.Fresh now = refl
renewed_did (seen.Sought since) now = refl
renewed_did (seen.RefusedBy status) now = refl
renewed_did seen.Unanswered now = refl
renewed_did (seen.Open c l) now = refl
renewed_did (seen.Lost c) now = refl

abbrev pub are_polls : List Placed → Bool
are_polls added = list_any (λ (p : Placed). is_poll p.what.what) added

-- both entries where it did, and all of them nothing
abbrev pub SeekAdds : {X : Type 0} → Result X HubFault → List Placed → List Placed → Type 0
SeekAdds (Ok x) old added = AllNothing old added × (are_polls added ≡ false) × (added ≢ [])
SeekAdds (Err fault) old added = AllNothing old added

abbrev renewed_at : ℕ → List Placed → Placed
renewed_at at old = record { at = at; what = entry Renewed (newest_time (entries old)) }

module _ {X : Type 0} (result : Result X HubFault) (k new : Known) (before after : Story) (all : KeepsAll k before) (calm : k.fault ≡ None) (m : MayConnect k.channel) where
  fits : (old : List Placed) → places_in before ≡ Some old → FitsRecord k (entries old)
  fits old p = (all.kept old p).fits calm

  module _ (c : Connecting result k new before after) where
    legal_then : Keeps c.between
    legal_then = (renews_goes before c.between c.renews).keeps all.legal

    renewed : (old : List Placed) → places_in before ≡ Some old → OneMore Renewed before c.between old
    renewed old p = adds_more Renewed _ renews_it before c.between old all.legal c.renews p

    may_of : (old : List Placed) (p : places_in before ≡ Some old) → Sending (with_connect k c.now) (Written ConnectRequest) Nothing (entry Renewed (newest_time (entries old)) ∷ entries old)
    may_of old p =
        let same : (c.now ≡ newest_time (entries old)) = time_is c.now c.between (renewed_at (place_of c.between) old ∷ old) legal_then c.time (renewed old p).told in
        subst (λ (n : ℕ). Sending (with_connect k n) (Written ConnectRequest) Nothing (entry Renewed (newest_time (entries old)) ∷ entries old)) (sym same) (connects_so k (entries old) (fits old p) (all.kept old p).right m)

    may : WhereTold (λ places. Sending (with_connect k c.now) (Written ConnectRequest) Nothing (entries places)) c.between
    may = where_after (λ places. Sending (with_connect k c.now) (Written ConnectRequest) Nothing (entries places)) before c.between (renews_goes before c.between c.renews).on (λ old p.
        record { new = renewed_at (place_of c.between) old ∷ old; told = (renewed old p).told; is = may_of old p })

    connecting_keeps : KeepsAll new after
    connecting_keeps = sends_keeps (with_connect k c.now) new (Written ConnectRequest) Nothing c.between after legal_then may result c.sends

    connecting_goes : Goes before after
    connecting_goes = goes_then before c.between after (renews_goes before c.between c.renews) (sends_go (with_connect k c.now) new (Written ConnectRequest) Nothing c.between after legal_then may result c.sends)

    both : (old : List Placed) → places_in before ≡ Some old → Sends (Written ConnectRequest) c.between after → (P : List Placed → List Placed → Type 0)
        → P old (one_sent (Written ConnectRequest) (place_of after) (renewed_at (place_of c.between) old ∷ old) ∷ renewed_at (place_of c.between) old ∷ []) → Grows P (place_of before) (place_of after) old after
    both old p s P h =
        let y = renewed old p in
        let x = adds_more (Put (Written ConnectRequest)) _ (sends_it (Written ConnectRequest)) c.between after (renewed_at (place_of c.between) old ∷ old) legal_then s y.told in
        record {
          new = one_sent (Written ConnectRequest) (place_of after) (renewed_at (place_of c.between) old ∷ old) ∷ renewed_at (place_of c.between) old ∷ old;
          told = x.told;
          added = one_sent (Written ConnectRequest) (place_of after) (renewed_at (place_of c.between) old ∷ old) ∷ renewed_at (place_of c.between) old ∷ [];
          grown = added_of (place_of before) (place_of after) old (one_sent (Written ConnectRequest) (place_of after) (renewed_at (place_of c.between) old ∷ old) ∷ renewed_at (place_of c.between) old ∷ [])
              ((let a = x.up in let b = y.up in omega arith), ((let b = y.up in omega arith), tt)) (omega arith, ((let a = x.up in omega arith), tt));
          is = h;
        }

    one : (old : List Placed) → places_in before ≡ Some old → after ≡ c.between → (P : List Placed → List Placed → Type 0) → P old (renewed_at (place_of c.between) old ∷ []) → Grows P (place_of before) (place_of after) old after
    one old p e P h =
        let y = renewed old p in
        record {
          new = renewed_at (place_of c.between) old ∷ old;
          told = ap places_in e ∙ y.told;
          added = renewed_at (place_of c.between) old ∷ [];
          grown = rw e (added_of (place_of before) (place_of c.between) old (renewed_at (place_of c.between) old ∷ []) ((let b = y.up in omega arith), tt) (omega arith, tt));
          is = h;
        }

    did : (old : List Placed) (p : places_in before ≡ Some old) → AllNothing old (one_sent (Written ConnectRequest) (place_of after) (renewed_at (place_of c.between) old ∷ old) ∷ renewed_at (place_of c.between) old ∷ [])
    did old p = ((may_of old p).did, (renewed_did (channel (entries old)) (newest_time (entries old)), tt))

    connecting_adds : (r : Result X HubFault) → SendsSo r (Written ConnectRequest) (with_connect k c.now) new c.between after → Growing (SeekAdds r) before after
    connecting_adds (Ok x) s old p = both old p s.1 (SeekAdds (Ok x)) (did old p, refl, (λ h. absurd (cc)))
    connecting_adds (Err fault) s old p = by_sending s.1
      where
        by_sending : SendsOrNot (Written ConnectRequest) c.between after → Grows AllNothing (place_of before) (place_of after) old after
        by_sending (inl h) = both old p h AllNothing (did old p)
        by_sending (inr e) = one old p e AllNothing (renewed_did (channel (entries old)) (newest_time (entries old)), tt)

  module _ (u : Unrenewed result k new before after) where
    unrenewed_of : (old : List Placed) → places_in before ≡ Some old → After (λ places. IsKept new (entries places)) after
    unrenewed_of old p = by_renewal u.renews
      where
        by_renewal : RenewsOrNot before after → After (λ places. IsKept new (entries places)) after
        by_renewal (inl h) =
            let y = adds_more Renewed _ renews_it before after old all.legal h p in
            record { new = renewed_at (place_of after) old ∷ old; told = y.told; is = rw u.fails.known (failed_kept k _ u.fault u.fails.by_link (renewed_so k (entries old) (fits old p) (all.kept old p).right m)) }
        by_renewal (inr e) = record { new = old; told = ap places_in e ∙ p; is = rw u.fails.known (failed_kept k (entries old) u.fault u.fails.by_link (all.kept old p).right) }

    unrenewed_keeps : KeepsAll new after
    unrenewed_keeps = record { legal = (renews_or_goes before after u.renews).keeps all.legal; kept = where_after (λ places. IsKept new (entries places)) before after (renews_or_goes before after u.renews).on unrenewed_of }

    unrenewed_adds : Growing (SeekAdds result) before after
    unrenewed_adds old p = subst (λ (r : Result X HubFault). Grows (SeekAdds r) (place_of before) (place_of after) old after) (sym u.answer) (by_renewal u.renews)
      where
        by_renewal : RenewsOrNot before after → Grows AllNothing (place_of before) (place_of after) old after
        by_renewal (inl h) =
            let y = adds_more Renewed _ renews_it before after old all.legal h p in
            record {
              new = renewed_at (place_of after) old ∷ old;
              told = y.told;
              added = renewed_at (place_of after) old ∷ [];
              grown = added_of (place_of before) (place_of after) old (renewed_at (place_of after) old ∷ []) ((let b = y.up in omega arith), tt) (omega arith, tt);
              is = (renewed_did (channel (entries old)) (newest_time (entries old)), tt);
            }
        by_renewal (inr e) = unmoved AllNothing before after old e p tt

  pub seek_keeps : ConnectsSo result k new before after → KeepsAll new after
  seek_keeps (inl c) = connecting_keeps c
  seek_keeps (inr u) = unrenewed_keeps u

  pub seek_goes : ConnectsSo result k new before after → Goes before after
  seek_goes (inl c) = connecting_goes c
  seek_goes (inr u) = renews_or_goes before after u.renews

  pub seek_adds : ConnectsSo result k new before after → Growing (SeekAdds result) before after
  seek_adds (inl c) = connecting_adds c result c.sends
  seek_adds (inr u) = unrenewed_adds u
