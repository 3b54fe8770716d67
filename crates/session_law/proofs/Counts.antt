-- What is counted since the client's session began, against what the device counts since its own.
use Rattle.std.proofs.Common.{◌≡◌, ℕ, ◌⊎◌, List, [], ◌∷◌, ◌++◌, Bool, true, false, Option, Some, None, refl, sym, ◌∙◌, ap, subst, inl, inr, append-nil}
use Rattle.std.proofs.lemmas.Bool.{false≢true}
use Rattle.knx_model.specs.declared.connection.ClientTook.{ClientTook}
use Rattle.knx_model.specs.declared.connection.ClientTook.TheVariants as brought
use Rattle.knx_model.specs.declared.connection.DeviceTook.{DeviceTook}
use Rattle.knx_model.specs.declared.connection.DeviceTook.TheVariants as took
use Rattle.knx_model.specs.declared.connection.TransportFrame.{TransportFrame}
use Rattle.knx_model.specs.ClientConnection.{ClientEnd, Asked, Up, Asking, Awaiting, Ended, client_took, client_after, client_confirmed, after_confirmed, client_sent}
use Rattle.knx_model.specs.Device.{answer_in}
use Rattle.knx_model.specs.DeviceState.{DeviceState}
use Rattle.knx_model.specs.DeviceFrames.{Outcome, Whole, Torn, Worn}
use Rattle.session_law.specs.Client.{since, and_answer}
use Rattle.session_law.specs.Device.{service_of, answer_of, counted}
use Rattle.session_law.specs.Promises.{IsFirstOf}
use Rattle.session_law.proofs.Arrivals.{Arrival, Confirmation}
use Rattle.session_law.proofs.Seen.{Seen}
use Rattle.session_law.proofs.Taken.{is_torn, and_delivered, and_given, and_octets}
use Rattle.session_law.proofs.Invariant.{PhaseIs, AskedIs}

abbrev pub Texts : Type 0
Texts = List (List ℕ)

-- the client isn't in a session
abbrev pub IsOut : ClientEnd → Type 0
IsOut (Asked device) = Unit {0}
IsOut (Up s) = ⊥
IsOut (Asking s q) = ⊥
IsOut (Awaiting s) = ⊥
IsOut Ended = Unit {0}

-- the device is in the session that the client counts
abbrev pub IsInIt : Texts → Texts → Texts → Texts → Type 0
IsInIt delivered given ds gs = (ds ≡ delivered) × (gs ≡ given)

-- it has begun a new one, in which nothing was asked
abbrev pub HasBegun : ClientEnd → Texts → Texts → Texts → Type 0
HasBegun end asked ds gs = (asked ≡ []) × (ds ≡ []) × (gs ≡ []) × IsOut end

pub record Counts (end : ClientEnd) (sent accepted delivered given asked ds gs : Texts) : Type 0 where
  pub delivered_first : IsFirstOf delivered sent
  pub accepted_first : IsFirstOf accepted given
  pub which : IsInIt delivered given ds gs ⊎ HasBegun end asked ds gs

pub first_none : (xs : Texts) → IsFirstOf xs [] → xs ≡ []
first_none xs t = none_by t.0 xs t.1 where
  none_by : (newer xs : Texts) → [] ≡ newer ++ xs → xs ≡ []
  none_by [] xs e = sym e
  none_by (x ∷ newer) xs e = absurd (cc)

none_first : (all : Texts) → IsFirstOf [] all
none_first all = (all, sym (append-nil all))

-- what was asked is what was sent, or nothing
pub whole_first : (asked sent ds : Texts) → (asked ≡ sent) ⊎ (asked ≡ []) → IsFirstOf ds asked → IsFirstOf ds sent
whole_first asked sent ds (inl e) t = subst (λ (z : Texts). IsFirstOf ds z) e t
whole_first asked sent ds (inr e) t =
    let none : ds ≡ [] = first_none ds (subst (λ (z : Texts). IsFirstOf ds z) e t) in
    subst (λ (z : Texts). IsFirstOf z sent) (sym none) (none_first sent)

-- ---- the device gets a frame

counted_all : (outcome : Outcome) (o : Option (List ℕ)) (history : Texts) → is_torn outcome ≡ false → counted outcome o history ≡ and_octets o history
counted_all Whole None history e = refl
counted_all Whole (Some v) history e = refl
counted_all (Torn fresh octets) o history e = absurd (false≢true (sym e))
counted_all (Worn octets) None history e = refl
counted_all (Worn octets) (Some v) history e = refl

-- what a T_Connect that it takes comes to: a new session, in which nothing was asked; or the same again, in which nothing was delivered
abbrev pub Opens : DeviceTook → ClientEnd → Texts → Texts → Texts → Texts → Type 0
Opens took.Connected end asked asked' ds gs = ((asked' ≡ []) × IsOut end) ⊎ ((asked' ≡ asked) × (ds ≡ []) × (gs ≡ []))
Opens _ end asked asked' ds gs = asked' ≡ asked

module _ (d : DeviceState) (end : ClientEnd) (sent accepted delivered given asked asked' ds gs : Texts) (c : Counts end sent accepted delivered given asked ds gs) where
  opened : ((asked' ≡ []) × IsOut end) ⊎ ((asked' ≡ asked) × (ds ≡ []) × (gs ≡ [])) → Counts end sent accepted delivered given asked' [] []
  opened (inl h) = record { delivered_first = c.delivered_first; accepted_first = c.accepted_first; which = inr (h.0, refl, refl, h.1) }
  opened (inr h) =
      record {
        delivered_first = c.delivered_first;
        accepted_first = c.accepted_first;
        which = elim c.which [ inl w ↦ inl (sym h.1 ∙ w.0, sym h.2 ∙ w.1) | inr w ↦ inr (h.0 ∙ w.0, refl, refl, w.3) ];
      }

  same : asked' ≡ asked → Counts end sent accepted delivered given asked' ds gs
  same e = record { delivered_first = c.delivered_first; accepted_first = c.accepted_first; which = elim c.which [ inl w ↦ inl w | inr w ↦ inr (e ∙ w.0, w.1, w.2, w.3) ] }

  one_more : (apdu : List ℕ) (o : Option (List ℕ)) → (asked' ≡ sent) ⊎ (asked' ≡ []) → asked' ≡ asked → IsFirstOf (apdu ∷ ds) asked' → IsInIt delivered given ds gs ⊎ HasBegun end asked ds gs
      → Counts end sent accepted (apdu ∷ delivered) (and_octets o given) asked' (apdu ∷ ds) (and_octets o gs)
  one_more apdu o whole e first (inr w) =
      absurd (let f : IsFirstOf (apdu ∷ ds) [] = subst (λ (z : Texts). IsFirstOf (apdu ∷ ds) z) (e ∙ w.0) first in let g : apdu ∷ ds ≡ [] = first_none (apdu ∷ ds) f in cc)
  one_more apdu o whole e first (inl w) =
      record {
        delivered_first = subst (λ (z : Texts). IsFirstOf (apdu ∷ z) sent) w.0 (whole_first asked' sent (apdu ∷ ds) whole first);
        accepted_first = given_more o;
        which = inl (ap (λ (z : Texts). apdu ∷ z) w.0, ap (λ (z : Texts). and_octets o z) w.1);
      } where
        given_more : (o : Option (List ℕ)) → IsFirstOf accepted (and_octets o given)
        given_more None = c.accepted_first
        given_more (Some v) = (v ∷ c.accepted_first.0, ap (λ (z : Texts). v ∷ z) c.accepted_first.1)

  pub taken : (k : DeviceTook) (outcome : Outcome) → (asked' ≡ sent) ⊎ (asked' ≡ []) → Opens k end asked asked' ds gs → IsFirstOf (and_delivered (is_torn outcome) k ds) asked'
      → Counts end sent accepted (counted outcome (service_of k) delivered) (counted outcome (answer_of d (service_of k)) given) asked' (and_delivered (is_torn outcome) k ds) (and_given (is_torn outcome) d.frames d.kept k gs)
  taken took.Dropped Whole whole o first = same o
  taken took.Dropped (Torn fresh octets) whole o first = same o
  taken took.Dropped (Worn octets) whole o first = same o
  taken (took.Again ack) Whole whole o first = same o
  taken (took.Again ack) (Torn fresh octets) whole o first = same o
  taken (took.Again ack) (Worn octets) whole o first = same o
  taken (took.Nak nak) Whole whole o first = same o
  taken (took.Nak nak) (Torn fresh octets) whole o first = same o
  taken (took.Nak nak) (Worn octets) whole o first = same o
  taken took.Acked Whole whole o first = same o
  taken took.Acked (Torn fresh octets) whole o first = same o
  taken took.Acked (Worn octets) whole o first = same o
  taken (took.Closed answer) Whole whole o first = same o
  taken (took.Closed answer) (Torn fresh octets) whole o first = same o
  taken (took.Closed answer) (Worn octets) whole o first = same o
  taken took.Connected Whole whole o first = opened o
  taken took.Connected (Torn fresh octets) whole o first = opened o
  taken took.Connected (Worn octets) whole o first = opened o
  taken (took.Apdu apdu ack) (Torn fresh octets) whole o first = same o
  taken (took.Apdu apdu ack) Whole whole o first =
      subst (λ (z : Texts). Counts end sent accepted (apdu ∷ delivered) z asked' (apdu ∷ ds) (and_octets (answer_in d.frames d.kept apdu) gs)) (sym (counted_all Whole (answer_in d.frames d.kept apdu) given refl)) (one_more apdu (answer_in d.frames d.kept apdu) whole o first c.which)
  taken (took.Apdu apdu ack) (Worn octets) whole o first =
      subst (λ (z : Texts). Counts end sent accepted (apdu ∷ delivered) z asked' (apdu ∷ ds) (and_octets (answer_in d.frames d.kept apdu) gs)) (sym (counted_all (Worn octets) (answer_in d.frames d.kept apdu) given refl)) (one_more apdu (answer_in d.frames d.kept apdu) whole o first c.which)

-- ---- the client takes a message

-- the session begins: nothing was asked, delivered or given
begun : (error : Bool) (asked : Texts) (fly : Option TransportFrame) (rest : List Arrival) (o : Seen) → error ≡ false → AskedIs asked fly (Confirmation error ∷ rest) o → (asked ≡ []) × (o.delivered ≡ []) × (o.given ≡ [])
begun error asked fly rest o e (inl h) = absurd h.1.0
begun error asked fly rest o e (inr (inr h)) = absurd h.1.0
begun error asked fly rest o e (inr (inl (false, newer, f, split, fresh))) = (fresh.none, fresh.ds, fresh.gs)
begun error asked fly rest o e (inr (inl (true, newer, f, split, opened))) = absurd (false≢true (sym e ∙ split.0))

module _ (joined pending : Bool) (owed sent accepted delivered given asked : Texts) (fly : Option TransportFrame) (rest : List Arrival) (o : Seen) (now : ℕ) where
  abbrev Confirms : ClientEnd → Bool → Type 0
  Confirms end error =
      Counts (after_confirmed end error now) (since (client_confirmed end error) sent) (since (client_confirmed end error) accepted) (since (client_confirmed end error) delivered) (since (client_confirmed end error) given) asked o.delivered o.given

  pub confirms : (end : ClientEnd) (error : Bool) → PhaseIs end joined pending owed sent accepted asked fly (Confirmation error ∷ rest) o → Counts end sent accepted delivered given asked o.delivered o.given → Confirms end error
  unfolding client_confirmed after_confirmed
  confirms (Asked device) true h c = record { delivered_first = c.delivered_first; accepted_first = c.accepted_first; which = elim c.which [ inl w ↦ inl w | inr w ↦ inr w ] }
  confirms (Asked device) false h c = let b = begun false asked fly rest o refl h.2 in record { delivered_first = ([], refl); accepted_first = ([], refl); which = inl (b.1, b.2) }
  confirms (Up s) error h c = c
  confirms (Asking s q) error h c = record { delivered_first = c.delivered_first; accepted_first = c.accepted_first; which = c.which }
  confirms (Awaiting s) error h c = c
  confirms Ended error h c = c

-- the answers that it accepted are those that were given, in a session
module _ (joined pending : Bool) (owed sent accepted delivered given asked : Texts) (fly : Option TransportFrame) (rest : List Arrival) (o : Seen) (now : ℕ) where
  abbrev After : ClientEnd → ClientTook → Type 0
  After end k = Counts (client_after end now k) sent (and_answer k accepted) delivered given asked o.delivered o.given

  abbrev Holds : ClientEnd → ClientTook → Type 0
  Holds end k = PhaseIs (client_after end now k) joined pending owed sent (and_answer k accepted) asked fly rest o

  in_it : (end : ClientEnd) → (IsOut end → ⊥) → Counts end sent accepted delivered given asked o.delivered o.given → o.given ≡ given
  in_it end out c = elim c.which [ inl w ↦ w.1 | inr w ↦ absurd (out w.3) ]

  stays : (end after : ClientEnd) → (IsOut end → IsOut after) → Counts end sent accepted delivered given asked o.delivered o.given → Counts after sent accepted delivered given asked o.delivered o.given
  stays end after f c = record { delivered_first = c.delivered_first; accepted_first = c.accepted_first; which = elim c.which [ inl w ↦ inl w | inr w ↦ inr (w.0, w.1, w.2, f w.3) ] }

  accepts : (end after : ClientEnd) (apdu : List ℕ) → (IsOut end → ⊥) → IsFirstOf (apdu ∷ accepted) o.given → Counts end sent accepted delivered given asked o.delivered o.given → Counts after sent (apdu ∷ accepted) delivered given asked o.delivered o.given
  accepts end after apdu out first c =
      record {
        delivered_first = c.delivered_first;
        accepted_first = subst (λ (z : Texts). IsFirstOf (apdu ∷ accepted) z) (in_it end out c) first;
        which = elim c.which [ inl w ↦ inl w | inr w ↦ absurd (out w.3) ];
      }

  hears_by : (end : ClientEnd) (k : ClientTook) → (IsOut end → ⊥) → ((apdu ack : List ℕ) → k ≡ brought.Answer apdu ack → IsFirstOf (apdu ∷ accepted) o.given) → Counts end sent accepted delivered given asked o.delivered o.given → After end k
  hears_by end brought.Dropped out f c = stays end (client_after end now brought.Dropped) (λ w. absurd (out w)) c
  hears_by end brought.Acked out f c = stays end (client_after end now brought.Acked) (λ w. absurd (out w)) c
  hears_by end (brought.Answer apdu ack) out f c = accepts end (client_after end now (brought.Answer apdu ack)) apdu out (f apdu ack refl) c
  hears_by end (brought.Again ack) out f c = stays end (client_after end now (brought.Again ack)) (λ w. absurd (out w)) c
  hears_by end (brought.Nak nak) out f c = stays end (client_after end now (brought.Nak nak)) (λ w. absurd (out w)) c
  hears_by end (brought.Closed answer) out f c = stays end (client_after end now (brought.Closed answer)) (λ w. absurd (out w)) c

  answer_first : (end : ClientEnd) (apdu ack : List ℕ) → (IsOut end → ⊥) → Holds end (brought.Answer apdu ack) → IsFirstOf (apdu ∷ accepted) o.given
  unfolding client_after
  answer_first (Asked device) apdu ack out h = absurd (out tt)
  answer_first (Up s) apdu ack out h = h.1.heard_is
  answer_first (Asking s q) apdu ack out h = h.1.heard_is
  answer_first (Awaiting s) apdu ack out h = h.1.heard_is
  answer_first Ended apdu ack out h = absurd (out tt)

  first_by : (end : ClientEnd) (k : ClientTook) → (IsOut end → ⊥) → Holds end k → (apdu ack : List ℕ) → k ≡ brought.Answer apdu ack → IsFirstOf (apdu ∷ accepted) o.given
  first_by end k out h apdu ack e = answer_first end apdu ack out (subst (λ (z : ClientTook). Holds end z) e h)

  nothing_heard : (end : ClientEnd) → IsOut end → Counts end sent accepted delivered given asked o.delivered o.given → After end brought.Dropped
  unfolding client_after
  nothing_heard end out c = c

  pub hears : (end : ClientEnd) (t : TransportFrame) → Holds end (client_took end t) → Counts end sent accepted delivered given asked o.delivered o.given → After end (client_took end t)
  unfolding client_took
  hears (Asked device) t h c = nothing_heard (Asked device) tt c
  hears (Up s) t h c = hears_by (Up s) (client_took (Up s) t) (λ w. w) (first_by (Up s) (client_took (Up s) t) (λ w. w) h) c
  hears (Asking s q) t h c = hears_by (Asking s q) (client_took (Asking s q) t) (λ w. w) (first_by (Asking s q) (client_took (Asking s q) t) (λ w. w) h) c
  hears (Awaiting s) t h c = hears_by (Awaiting s) (client_took (Awaiting s) t) (λ w. w) (first_by (Awaiting s) (client_took (Awaiting s) t) (λ w. w) h) c
  hears Ended t h c = nothing_heard Ended tt c

-- ---- what the client puts, and its end

not_out : (end : ClientEnd) (apdu tpdu : List ℕ) → client_sent end apdu ≡ Some tpdu → (IsOut end → ⊥)
unfolding client_sent
not_out (Asked device) apdu tpdu e out = cc
not_out (Up s) apdu tpdu e out = out
not_out (Asking s q) apdu tpdu e out = out
not_out (Awaiting s) apdu tpdu e out = out
not_out Ended apdu tpdu e out = cc

-- a service
pub asks : (end after : ClientEnd) (apdu tpdu : List ℕ) (sent accepted delivered given asked ds gs : Texts) → client_sent end apdu ≡ Some tpdu → Counts end sent accepted delivered given asked ds gs → Counts after (apdu ∷ sent) accepted delivered given (apdu ∷ asked) ds gs
asks end after apdu tpdu sent accepted delivered given asked ds gs e c =
    record {
      delivered_first = (apdu ∷ c.delivered_first.0, ap (λ (z : Texts). apdu ∷ z) c.delivered_first.1);
      accepted_first = c.accepted_first;
      which = elim c.which [ inl w ↦ inl w | inr w ↦ absurd (not_out end apdu tpdu e w.3) ];
    }

-- it is out of the session, or goes on in it
pub goes_on : (end after : ClientEnd) (sent accepted delivered given asked ds gs : Texts) → (IsOut end → IsOut after) → Counts end sent accepted delivered given asked ds gs → Counts after sent accepted delivered given asked ds gs
goes_on end after sent accepted delivered given asked ds gs f c =
    record { delivered_first = c.delivered_first; accepted_first = c.accepted_first; which = elim c.which [ inl w ↦ inl w | inr w ↦ inr (w.0, w.1, w.2, f w.3) ] }
