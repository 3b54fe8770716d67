-- Polls, one after another.
use Rattle.std.proofs.Common.{◌≡◌, inl, inr, ℕ, ◌+◌, ◌-◌, ◌<◌, ◌⊎◌, List, [], ◌∷◌, ◌++◌, length, take, Ok, refl, sym, subst, ap, ◌∙◌, append_assoc, arith}
use Rattle.std.proofs.lemmas.List.{append-nil, length-append, take_at}
use Rattle.line_model.specs.Record.{Entry}
use Rattle.line_model.specs.LinkStory.{Clock, Story, Recorded}
use Rattle.discovery.specs.declared.about.About.{About}
use Rattle.discovery.specs.declared.inquiry.Inquiry.{Inquiry}
use Rattle.discovery.specs.Finding.{Finds, most_found}
use Rattle.discovery.proofs.Adding.{finds_once}
use Rattle.discovery_ends.specs.declared.listening.Heard.{Heard}
use Rattle.discovery_ends.specs.declared.listening.Heard.TheVariants as heard
use Rattle.discovery_ends.specs.Searching.{quiet_ms, most_datagrams, datagrams_in, got_in, IsQuietFor, Listens, Takes}
use Rattle.discovery_ends.specs.Going.{PolledSo, Awake, NoneCame, Taken, WasQuiet, IsOver, HeardOut, Goes}

-- ---- lists

listens_more : (clock : Clock) (r polls more : List Entry) → Listens clock r polls → Listens clock (polls ++ r) more → Listens clock r (more ++ polls)
listens_more clock r polls [] h k = h
listens_more clock r polls (x ∷ more) h k = (k.0, rw (append_assoc more polls r) k.1, listens_more clock r polls more h k.2)

datagrams_more : (polls more : List Entry) → datagrams_in (more ++ polls) ≡ datagrams_in polls ++ datagrams_in more
datagrams_more polls [] = sym (append-nil (datagrams_in polls))
datagrams_more polls (x ∷ more) = ap (λ (l : List (List ℕ)). l ++ got_in x.what) (datagrams_more polls more) ∙ append_assoc (datagrams_in polls) (datagrams_in more) (got_in x.what)

same_fronts : (a b : List (List ℕ)) (x y : List ℕ) → a ++ x ∷ [] ≡ b ++ y ∷ [] → a ≡ b
same_fronts a b x y e =
    let n : length (a ++ x ∷ []) ≡ length (b ++ y ∷ []) = ap length e in
    let same : length a ≡ length b = (let p = length-append a (x ∷ []) in let q = length-append b (y ∷ []) in omega arith) in
    sym (take_at a (x ∷ []) (length a) refl) ∙ ap (take (length a)) e ∙ take_at b (y ∷ []) (length a) (sym same)

-- ---- one datagram more is taken

takes_more : (inquiry : Inquiry) (got : List (List ℕ)) (octets : List ℕ) (old new : List About) → Takes inquiry got old → length old < most_found → length got < most_datagrams
    → Finds inquiry (got ++ octets ∷ []) new → Takes inquiry (got ++ octets ∷ []) new
takes_more inquiry got octets old new t few room f = record {
  finds = f;
  room = λ front last earlier e g. (let same : got ≡ front = same_fronts got front octets last e in
      let found : old ≡ earlier = finds_once inquiry got old earlier t.finds (rw same g) in
      let n : length old ≡ length earlier = ap length found in omega arith);
  few = let n = length-append got (octets ∷ []) in omega arith;
}

module _ (clock : Clock) (inquiry : Inquiry) (r : List Entry) (got : List (List ℕ)) where
  pub begins : (story : Story) (found : List About) (left : ℕ) → Awake clock story r → Takes inquiry got found → length got + left ≡ most_datagrams → Goes clock inquiry r got story found left
  begins story found left a t n = record { polls = []; awake = a; listens = tt; takes = rw (append-nil got) t; count = rw (append-nil got) n }

  pub goes_on : (before after : Story) (old new : List About) (left : ℕ) → Goes clock inquiry r got before old left → length old < most_found → 0 < left
      → ((at : List Entry) → Awake clock before at → Taken clock inquiry at after old new) → Goes clock inquiry r got after new (left - 1)
  goes_on before after old new left g few room so =
      let t = so (g.polls ++ r) g.awake in
      let more = t.came.polls in
      let same : datagrams_in (more ++ g.polls) ≡ datagrams_in g.polls ++ t.octets ∷ [] = datagrams_more g.polls more ∙ ap (λ (l : List (List ℕ)). datagrams_in g.polls ++ l) t.came.got in
      let all : got ++ datagrams_in (more ++ g.polls) ≡ (got ++ datagrams_in g.polls) ++ t.octets ∷ [] = ap (λ (l : List (List ℕ)). got ++ l) same ∙ sym (append_assoc got (datagrams_in g.polls) (t.octets ∷ [])) in
      let taken : Takes inquiry ((got ++ datagrams_in g.polls) ++ t.octets ∷ []) new
      = takes_more inquiry (got ++ datagrams_in g.polls) t.octets old new g.takes few (let n = g.count in omega arith) (t.finds (got ++ datagrams_in g.polls) g.takes.finds) in
      record {
        polls = more ++ g.polls;
        awake = rw (append_assoc more g.polls r) t.came.awake;
        listens = listens_more clock r g.polls more g.listens t.came.grew.listens;
        takes = subst (λ (l : List (List ℕ)). Takes inquiry l new) (sym all) taken;
        count = let k : length (got ++ datagrams_in (more ++ g.polls)) ≡ length ((got ++ datagrams_in g.polls) ++ t.octets ∷ []) = ap length all in let n = length-append (got ++ datagrams_in g.polls) (t.octets ∷ []) in let c = g.count in omega arith;
      }

  -- polls that bring none
  none_more : (before after : Story) (found : List About) (left : ℕ) (g : Goes clock inquiry r got before found left) (n : NoneCame clock (g.polls ++ r) after) → HeardOut clock inquiry r got after found
  none_more before after found left g n =
      let same : datagrams_in (n.polls ++ g.polls) ≡ datagrams_in g.polls = datagrams_more g.polls n.polls ∙ ap (λ (l : List (List ℕ)). datagrams_in g.polls ++ l) n.got ∙ append-nil (datagrams_in g.polls) in
      record {
        polls = n.polls ++ g.polls;
        grew = record { told = n.grew.told ∙ ap (λ (l : List Entry). Recorded clock l) (sym (append_assoc n.polls g.polls r)); listens = listens_more clock r g.polls n.polls g.listens n.grew.listens };
        takes = subst (λ (l : List (List ℕ)). Takes inquiry (got ++ l) found) (sym same) g.takes;
      }

  pub goes_quiet : (before after : Story) (old new : List About) (left : ℕ) → Goes clock inquiry r got before old left → ((at : List Entry) → Awake clock before at → WasQuiet clock at after old new)
      → (h : HeardOut clock inquiry r got after new) × IsQuietFor clock quiet_ms (h.polls ++ r) × (length (got ++ datagrams_in h.polls) + left ≡ most_datagrams)
  unfolding none_more
  goes_quiet before after old new left g so =
      let w = so (g.polls ++ r) g.awake in
      let h : Goes clock inquiry r got before new left = subst (λ (l : List About). Goes clock inquiry r got before l left) (sym w.same) g in
      let out : HeardOut clock inquiry r got after old = none_more before after old left g w.none in
      let same : datagrams_in (w.none.polls ++ g.polls) ≡ datagrams_in g.polls = datagrams_more g.polls w.none.polls ∙ ap (λ (l : List (List ℕ)). datagrams_in g.polls ++ l) w.none.got ∙ append-nil (datagrams_in g.polls) in (
        record { polls = w.none.polls ++ g.polls; grew = out.grew; takes = subst (λ (l : List About). Takes inquiry (got ++ datagrams_in (w.none.polls ++ g.polls)) l) (sym w.same) out.takes },
        rw (append_assoc w.none.polls g.polls r) w.quiet,
        rw same g.count,
      )

  pub goes_wrong : (before after : Story) (old new : List About) (left : ℕ) → Goes clock inquiry r got before old left → ((at : List Entry) → Awake clock before at → NoneCame clock at after × (new ≡ old)) → HeardOut clock inquiry r got after new
  goes_wrong before after old new left g so =
      let w = so (g.polls ++ r) g.awake in
      subst (λ (l : List About). HeardOut clock inquiry r got after l) (sym w.1) (none_more before after old left g w.0)

  pub goes_over : (story : Story) (found : List About) (left : ℕ) → Goes clock inquiry r got story found left → (length found ≡ most_found) ⊎ (left ≡ 0) → (h : HeardOut clock inquiry r got story found) × IsOver (got ++ datagrams_in h.polls) found
  goes_over story found left g (inl full) = (record { polls = g.polls; grew = record { told = g.awake.told; listens = g.listens }; takes = g.takes }, inl full)
  goes_over story found left g (inr none) = (record { polls = g.polls; grew = record { told = g.awake.told; listens = g.listens }; takes = g.takes }, inr (let n = g.count in omega arith))

-- ---- what a poll answers, of the inquiry that was begun with

module _ (what : Heard) (asked inquiry : Inquiry) (same : asked ≡ inquiry) (before after : Story) (old new : List About) (so : (clock : Clock) (at : List Entry) → Awake clock before at → PolledSo clock (Ok what) asked at after old new) where
  pub datagram_came : what ≡ heard.Datagram → (clock : Clock) (at : List Entry) → Awake clock before at → Taken clock inquiry at after old new
  datagram_came is clock at a = subst (λ (q : Inquiry). Taken clock q at after old new) same (subst (λ (w : Heard). PolledSo clock (Ok w) asked at after old new) is (so clock at a))

  pub was_quiet : what ≡ heard.Quiet → (clock : Clock) (at : List Entry) → Awake clock before at → WasQuiet clock at after old new
  was_quiet is clock at a = subst (λ (w : Heard). PolledSo clock (Ok w) asked at after old new) is (so clock at a)
