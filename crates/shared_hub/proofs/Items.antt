-- A site's list by its log and its fault.
use Rattle.std.proofs.Common.{◌≡◌, true, false, List, [], ◌∷◌, ◌++◌, map, reverse, Option, Some, None, refl, sym, ap, subst, ◌∙◌}
use Rattle.std.specs.Prelude.{is_some}
use Rattle.std.proofs.lemmas.List.{append-nil, reverse-reverse, reverse-append}
use mathlib.Core.List.{IsPrefix}
use Rattle.atomic_table.specs.Seated.{TableId}
use Rattle.line_model.specs.declared.fault.HubFault.{HubFault}
use Rattle.line_model.specs.declared.log.LogEntry.{LogEntry}
use Rattle.hub_core.specs.Seen.{Seen}
use Rattle.shared_hub.specs.declared.item.Item.{Item}
use Rattle.shared_hub.specs.declared.item.Item.TheVariants.{Origin, Told, Ended}
use Rattle.shared_hub.specs.Items.{opening_in, relay_in, watcher_in, entries_in, log_in, has_ended}
use Rattle.shared_hub.specs.Sites.{SiteSeen, ended, items_of}

no_entries : (L W : Type 0) (f : Option HubFault) → entries_in {L = L} {W = W} (ended f) ≡ []
no_entries L W None = refl
no_entries L W (Some why) = refl

ends_by : (L W : Type 0) (f : Option HubFault) → has_ended {L = L} {W = W} (ended f) ≡ is_some f
ends_by L W None = refl
ends_by L W (Some why) = refl

module _ {L W : Type 0} where
  pub entries-append : (xs ys : List (Item L W)) → entries_in (xs ++ ys) ≡ entries_in xs ++ entries_in ys
  entries-append [] ys = refl
  entries-append (Origin hub relay watcher ∷ xs) ys = entries-append xs ys
  entries-append (Told e ∷ xs) ys = ap (λ (l : List LogEntry). e ∷ l) (entries-append xs ys)
  entries-append (Ended why ∷ xs) ys = entries-append xs ys

  told_entries : (es : List LogEntry) (rest : List (Item L W)) → entries_in (map Told es ++ rest) ≡ es ++ entries_in rest
  told_entries [] rest = refl
  told_entries (e ∷ es) rest = ap (λ (l : List LogEntry). e ∷ l) (told_entries es rest)

  pub log_is : (s : SiteSeen L W) → log_in (items_of s) ≡ s.hub.log
  log_is s =
      let all : entries_in (map Told (reverse s.hub.log) ++ ended {L = L} {W = W} s.hub.fault) ≡ reverse s.hub.log = told_entries (reverse s.hub.log) (ended s.hub.fault) ∙ (ap (λ (l : List LogEntry). reverse s.hub.log ++ l) (no_entries L W s.hub.fault) ∙ append-nil (reverse s.hub.log)) in
      ap reverse all ∙ reverse-reverse s.hub.log

  told_ends : (es : List LogEntry) (rest : List (Item L W)) → has_ended (map Told es ++ rest) ≡ has_ended rest
  told_ends [] rest = refl
  told_ends (e ∷ es) rest = told_ends es rest

  pub ended_is : (s : SiteSeen L W) → has_ended (items_of s) ≡ is_some s.hub.fault
  ended_is s = told_ends (reverse s.hub.log) (ended s.hub.fault) ∙ ends_by L W s.hub.fault

  -- ---- one item more, or none

  module _ (old new : SiteSeen L W) (opening : new.opening ≡ old.opening) (relay : new.relay ≡ old.relay) (watched : new.watched ≡ old.watched) where
    pub items_same : new.hub.log ≡ old.hub.log → new.hub.fault ≡ old.hub.fault → items_of new ≡ items_of old
    items_same log fault = rw (opening, relay, watched, log, fault) refl

    map_more : (es : List LogEntry) (e : LogEntry) → map {B = Item L W} Told (es ++ e ∷ []) ≡ map Told es ++ Told e ∷ []
    map_more [] e = refl
    map_more (x ∷ es) e = ap (λ (l : List (Item L W)). Told x ∷ l) (map_more es e)

    pub items_told : (e : LogEntry) → new.hub.log ≡ e ∷ old.hub.log → old.hub.fault ≡ None → new.hub.fault ≡ None → items_of new ≡ items_of old ++ Told e ∷ []
    items_told e log was is =
        let told : map {B = Item L W} Told (reverse new.hub.log) ≡ map Told (reverse old.hub.log) ++ Told e ∷ [] = ap (λ (l : List LogEntry). map Told (reverse l)) log ∙ (ap (map Told) (reverse-append (e ∷ []) old.hub.log) ∙ map_more (reverse old.hub.log) e) in
        let rest : map {B = Item L W} Told (reverse new.hub.log) ++ ended new.hub.fault ≡ (map Told (reverse old.hub.log) ++ ended old.hub.fault) ++ Told e ∷ [] = rw (is, was) (append-nil (map Told (reverse new.hub.log)) ∙ (told ∙ ap (λ (l : List (Item L W)). l ++ Told e ∷ []) (sym (append-nil (map Told (reverse old.hub.log)))))) in
        rw (opening, relay, watched) (ap (λ (l : List (Item L W)). Origin old.opening old.relay old.watched ∷ l) rest)

    pub items_ended : (why : HubFault) → new.hub.log ≡ old.hub.log → old.hub.fault ≡ None → new.hub.fault ≡ Some why → items_of new ≡ items_of old ++ Ended why ∷ []
    items_ended why log was is =
        let rest : map {B = Item L W} Told (reverse new.hub.log) ++ ended new.hub.fault ≡ (map Told (reverse old.hub.log) ++ ended old.hub.fault) ++ Ended why ∷ [] = rw (is, was, log) (ap (λ (l : List (Item L W)). l ++ Ended why ∷ []) (sym (append-nil (map Told (reverse old.hub.log))))) in
        rw (opening, relay, watched) (ap (λ (l : List (Item L W)). Origin old.opening old.relay old.watched ∷ l) rest)

  -- ---- what is so of a list is so of one that begins with it

  ended_more : (xs ys : List (Item L W)) → has_ended xs ≡ true → has_ended (xs ++ ys) ≡ true
  ended_more [] ys h = absurd (let z : false ≡ true = h in cc)
  ended_more (Origin hub relay watcher ∷ xs) ys h = ended_more xs ys h
  ended_more (Told e ∷ xs) ys h = ended_more xs ys h
  ended_more (Ended why ∷ xs) ys h = refl

  pub ended_after : (xs ys : List (Item L W)) → IsPrefix xs ys → has_ended xs ≡ true → has_ended ys ≡ true
  ended_after xs ys p h = subst (λ (l : List (Item L W)). has_ended l ≡ true) p.1 (ended_more xs p.0 h)

  opens_more : (xs ys : List (Item L W)) (hub : Seen L) → opening_in xs ≡ Some hub → opening_in (xs ++ ys) ≡ Some hub
  opens_more [] ys hub e = absurd (let z : None ≡ Some hub = e in cc)
  opens_more (Origin h relay watcher ∷ xs) ys hub e = e
  opens_more (Told t ∷ xs) ys hub e = absurd (let z : None ≡ Some hub = e in cc)
  opens_more (Ended why ∷ xs) ys hub e = absurd (let z : None ≡ Some hub = e in cc)

  pub opens_after : (xs ys : List (Item L W)) (hub : Seen L) → IsPrefix xs ys → opening_in xs ≡ Some hub → opening_in ys ≡ Some hub
  opens_after xs ys hub p e = subst (λ (l : List (Item L W)). opening_in l ≡ Some hub) p.1 (opens_more xs p.0 hub e)

  relays_more : (xs ys : List (Item L W)) (relay : TableId) → relay_in xs ≡ Some relay → relay_in (xs ++ ys) ≡ Some relay
  relays_more [] ys relay e = absurd (let z : None ≡ Some relay = e in cc)
  relays_more (Origin h r watcher ∷ xs) ys relay e = e
  relays_more (Told t ∷ xs) ys relay e = absurd (let z : None ≡ Some relay = e in cc)
  relays_more (Ended why ∷ xs) ys relay e = absurd (let z : None ≡ Some relay = e in cc)

  pub relays_after : (xs ys : List (Item L W)) (relay : TableId) → IsPrefix xs ys → relay_in xs ≡ Some relay → relay_in ys ≡ Some relay
  relays_after xs ys relay p e = subst (λ (l : List (Item L W)). relay_in l ≡ Some relay) p.1 (relays_more xs p.0 relay e)

  watches_more : (xs ys : List (Item L W)) (watcher : W) → watcher_in xs ≡ Some watcher → watcher_in (xs ++ ys) ≡ Some watcher
  watches_more [] ys watcher e = absurd (let z : None ≡ Some watcher = e in cc)
  watches_more (Origin h r w ∷ xs) ys watcher e = e
  watches_more (Told t ∷ xs) ys watcher e = absurd (let z : None ≡ Some watcher = e in cc)
  watches_more (Ended why ∷ xs) ys watcher e = absurd (let z : None ≡ Some watcher = e in cc)

  pub watches_after : (xs ys : List (Item L W)) (watcher : W) → IsPrefix xs ys → watcher_in xs ≡ Some watcher → watcher_in ys ≡ Some watcher
  watches_after xs ys watcher p e = subst (λ (l : List (Item L W)). watcher_in l ≡ Some watcher) p.1 (watches_more xs p.0 watcher e)

  pub log_after : (xs ys : List (Item L W)) → IsPrefix xs ys → (more : List LogEntry) × (log_in ys ≡ more ++ log_in xs)
  log_after xs ys p = (reverse (entries_in p.0), ap log_in (sym p.1) ∙ (ap reverse (entries-append xs p.0) ∙ reverse-append (entries_in xs) (entries_in p.0)))
