-- The events up to a moment of the record.
use Rattle.std.proofs.Common.{◌≡◌, ℕ, List, [], ◌∷◌, ◌++◌, Option, Some, None, refl, ◌∙◌, ap}
use Rattle.line_model.specs.Record.{Item, Entry, Placed, entry, entries, item_of, noted}
use Rattle.address_world.specs.AddressWorld.{AddressWorld, AddressEvent, tunnel_event, replay}
use Rattle.address_world.specs.AddressLegal.{IsLegal}
use Rattle.address_law.specs.Calm.{AreCalm}
use Rattle.address_law.proofs.Living.{record_at}

pub record Part (start : AddressWorld) (events : List AddressEvent) (r : List Entry) : Type 0 where
  pub later : List AddressEvent
  pub past : List AddressEvent
  pub whole : events ≡ later ++ past
  pub is : record_at start past ≡ r

entries_join : (added talk : List Placed) → entries (added ++ talk) ≡ entries added ++ entries talk
entries_join [] talk = refl
entries_join (p ∷ added) talk = ap (λ l. p.what ∷ l) (entries_join added talk)

module _ (start : AddressWorld) where
  part : (events : List AddressEvent) (l m : List Entry) → record_at start events ≡ l ++ m → Part start events m
  part events [] m e = record { later = []; past = events; whole = refl; is = e }
  part [] (x ∷ l) m e = absurd (cc)
  part (e ∷ events) (x ∷ l) m is = by_item (item_of (replay start events).tunnel (tunnel_event (replay start events) e)) (λ g. part events (x ∷ l) m g) (λ g. part events l m g) is where
    now : ℕ
    now = (replay start (e ∷ events)).tunnel.now

    more : Part start events m → Part start (e ∷ events) m
    more p = record { later = e ∷ p.later; past = p.past; whole = ap (λ z. e ∷ z) p.whole; is = p.is }

    by_item : (o : Option Item) → (record_at start events ≡ (x ∷ l) ++ m → Part start events m) → (record_at start events ≡ l ++ m → Part start events m) → noted o now (record_at start events) ≡ (x ∷ l) ++ m → Part start (e ∷ events) m
    by_item None same fewer g = more (same g)
    by_item (Some what) same fewer g = more (fewer (let z : record_at start events ≡ l ++ m = cc in z))

  pub part_of : (events : List AddressEvent) (added talk : List Placed) → record_at start events ≡ entries (added ++ talk) → Part start events (entries talk)
  part_of events added talk e = part events (entries added) (entries talk) (e ∙ entries_join added talk)

  -- ---- what holds of the past

  pub legal_before : (later past : List AddressEvent) → IsLegal start (later ++ past) → IsLegal start past
  legal_before [] past h = h
  legal_before (e ∷ later) past h = legal_before later past h.1

  pub calm_before : (later past : List AddressEvent) → AreCalm start (later ++ past) → AreCalm start past
  calm_before [] past h = h
  calm_before (e ∷ later) past h = calm_before later past h.1

  entry_before : (P : List Entry → Type 0) → ((x : Entry) (r : List Entry) → P (x ∷ r) → P r) → (o : Option Item) (now : ℕ) (r : List Entry) → P (noted o now r) → P r
  entry_before P rest None now r h = h
  entry_before P rest (Some what) now r h = rest (entry what now) r h

  pub so_before : (P : List Entry → Type 0) → ((x : Entry) (r : List Entry) → P (x ∷ r) → P r) → (later past : List AddressEvent) → P (record_at start (later ++ past)) → P (record_at start past)
  so_before P rest [] past h = h
  so_before P rest (e ∷ later) past h =
      so_before P rest later past (entry_before P rest (item_of (replay start (later ++ past)).tunnel (tunnel_event (replay start (later ++ past)) e)) (replay start (e ∷ (later ++ past))).tunnel.now (record_at start (later ++ past)) h)
