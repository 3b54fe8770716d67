-- What was added to the places of a story, and what is known where these are told.
use Rattle.std.proofs.Common.{◌≡◌, inl, inr, ℕ, List, [], ◌∷◌, ◌++◌, Some, None, refl, sym, subst, ap, ◌∙◌, arith}
use Rattle.line_model.specs.declared.fault.HubFault.{HubFault}
use Rattle.line_model.specs.Record.{Put, entry, Placed, placed, counted, entries}
use Rattle.line_model.specs.LinkStory.{Story, Untold, Recorded, Full, places_in, newest_time, Sends, SendsOrNot}
use Rattle.line_model.specs.ClientView.{Deed}
use Rattle.line_model.specs.Moments.{Moment, moments}
use Rattle.line_model.specs.Asks.{moment_of}
use Rattle.tunnel_link.specs.declared.known.Known.{Known}
use Rattle.tunnel_link.specs.Goes.{GoesOn, Keeps, KeepsAll}
use Rattle.tunnel_link.specs.Rights.{IsKept, WhereTold}
use Rattle.tunnel_link.specs.Adds.{place_of, Added, Grows, moments_on}
use Rattle.tunnel_link.specs.Calls.{Fails}
use Rattle.tunnel_link.proofs.Growth.{IsAbove, IsUpto, entries_append, OneMore, sends_it, adds_more}
use Rattle.tunnel_link.proofs.MaySend.{Sending, sent_right, sent_kept, failed_kept}
use Rattle.tunnel_link.proofs.Stories.{sends_goes, stays}

-- ---- moments

pub moments_append : (old added : List Placed) → moments (added ++ old) ≡ moments_on old added ++ moments old
moments_append old [] = refl
moments_append old (p ∷ added) = ap (λ (l : List Moment). moment_of (added ++ old) p ∷ l) (moments_append old added)

pub added_of : (before after : ℕ) (old added : List Placed) → IsAbove before added → IsUpto after added → Added before after old added (added ++ old)
added_of before after old added above upto = record { grow = refl; entries_grow = entries_append added old; moments_grow = moments_append old added; above = above; upto = upto }

-- ---- a story that tells places told them before

pub told_before : (before after : Story) (places : List Placed) → GoesOn before after → places_in after ≡ Some places → (old : List Placed) × (places_in before ≡ Some old)
told_before Untold after places g p = absurd (let e : (places_in after ≡ None) = rw g refl in cc)
told_before (Recorded clock r) after places g p = (counted r, refl)
told_before (Full start events) after places g p = (placed start events, refl)

pub some_is : (a b : List Placed) → Some a ≡ Some b → a ≡ b
some_is a b h = cc

-- P of its places after a call
pub record After (P : List Placed → Type 0) (after : Story) : Type 0 where
  pub new : List Placed
  pub told : places_in after ≡ Some new
  pub is : P new

pub where_after : (P : List Placed → Type 0) (before after : Story) → GoesOn before after → ((old : List Placed) → places_in before ≡ Some old → After P after) → WhereTold P after
where_after P before after g h places p =
    let o = told_before before after places g p in
    let a = h o.0 o.1 in
    subst P (some_is a.new places (sym a.told ∙ p)) a.is

-- ---- a sending

abbrev pub one_sent : List ℕ → ℕ → List Placed → Placed
one_sent octets at old = record { at = at; what = entry (Put octets) (newest_time (entries old)) }

pub one_added : (octets : List ℕ) (before after : Story) (old : List Placed) → OneMore (Put octets) before after old → Added (place_of before) (place_of after) old (one_sent octets (place_of after) old ∷ []) (one_sent octets (place_of after) old ∷ old)
one_added octets before after old m = added_of (place_of before) (place_of after) old (one_sent octets (place_of after) old ∷ []) ((let h = m.up in omega arith), tt) (omega arith, tt)

pub none_added : (before after : ℕ) (old : List Placed) → Added before after old [] old
none_added before after old = added_of before after old [] tt tt

-- nothing was added
pub unmoved : (P : List Placed → List Placed → Type 0) (before after : Story) (old : List Placed) → after ≡ before → places_in before ≡ Some old → P old [] → Grows P (place_of before) (place_of after) old after
unmoved P before after old same p h = record { new = old; told = ap places_in same ∙ p; added = []; grown = none_added (place_of before) (place_of after) old; is = h }

pub sent_grows : (P : List Placed → List Placed → Type 0) (octets : List ℕ) (before after : Story) (old : List Placed) → Keeps before → Sends octets before after → places_in before ≡ Some old → P old (one_sent octets (place_of after) old ∷ [])
    → Grows P (place_of before) (place_of after) old after
sent_grows P octets before after old k s p h =
    let m = adds_more (Put octets) _ (sends_it octets) before after old k s p in
    record { new = one_sent octets (place_of after) old ∷ old; told = m.told; added = one_sent octets (place_of after) old ∷ []; grown = one_added octets before after old m; is = h }

pub sent_or_grows : (P : List Placed → List Placed → Type 0) (octets : List ℕ) (before after : Story) (old : List Placed) → Keeps before → SendsOrNot octets before after → places_in before ≡ Some old → P old [] → P old (one_sent octets (place_of after) old ∷ [])
    → Grows P (place_of before) (place_of after) old after
sent_or_grows P octets before after old k (inl s) p none one = sent_grows P octets before after old k s p one
sent_or_grows P octets before after old k (inr e) p none one = unmoved P before after old e p none

-- ---- what is known after it

module _ (k : Known) (octets : List ℕ) (does : Deed) (before after : Story) (legal : Keeps before) (may : WhereTold (λ old. Sending k octets does (entries old)) before) where
  pub after_sent : Sends octets before after → KeepsAll k after
  after_sent s = record {
    legal = (sends_goes octets before after s).keeps legal;
    kept = where_after (λ places. IsKept k (entries places)) before after (sends_goes octets before after s).on (λ old p.
        let m = adds_more (Put octets) _ (sends_it octets) before after old legal s p in
        record { new = one_sent octets (place_of after) old ∷ old; told = m.told; is = sent_kept k octets does (entries old) (may old p) });
  }

  -- or the link failed in it
  pub after_failed : (fault : HubFault) (new : Known) → Fails k fault new → SendsOrNot octets before after → KeepsAll new after
  after_failed fault new f (inl s) = record {
    legal = (sends_goes octets before after s).keeps legal;
    kept = where_after (λ places. IsKept new (entries places)) before after (sends_goes octets before after s).on (λ old p.
        let m = adds_more (Put octets) _ (sends_it octets) before after old legal s p in
        record { new = one_sent octets (place_of after) old ∷ old; told = m.told; is = rw f.known (failed_kept k _ fault f.by_link (sent_right k octets does (entries old) (may old p))) });
  }
  after_failed fault new f (inr e) = record {
    legal = (stays before after e).keeps legal;
    kept = where_after (λ places. IsKept new (entries places)) before after (stays before after e).on (λ old p.
        record { new = old; told = ap places_in e ∙ p; is = rw f.known (failed_kept k (entries old) fault f.by_link (may old p).right) });
  }
