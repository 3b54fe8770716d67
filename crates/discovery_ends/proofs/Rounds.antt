-- One round, or two.
use Rattle.std.proofs.Common.{◌≡◌, ◌≢◌, inl, inr, ℕ, ◌+◌, ◌⊎◌, List, [], ◌∷◌, ◌++◌, length, Ok, Err, Result, refl, sym, subst, ap, ◌∙◌, arith}
use Rattle.std.proofs.lemmas.List.{append-nil}
use Rattle.line_model.specs.declared.outside.link.LinkFault.{LinkFault}
use Rattle.line_model.specs.Record.{Entry, Put, record_of}
use Rattle.line_model.specs.LinkStory.{Clock, Exact, Story, Untold, Recorded, Full, IsNewLink, Sends, SendsOrNot}
use Rattle.discovery.specs.declared.about.About.{About}
use Rattle.discovery.specs.declared.inquiry.Inquiry.{Inquiry}
use Rattle.discovery.specs.Discovery.{Written}
use Rattle.discovery.specs.Finding.{Finds, NoMore, Ended, request_of}
use Rattle.discovery_ends.specs.declared.listening.Listened.{Listened}
use Rattle.discovery_ends.specs.declared.listening.Listened.TheVariants as listened
use Rattle.discovery_ends.specs.Searching.{quiet_ms, most_datagrams, datagrams_in, IsQuietFor, Round, Unsent, Once, Twice, Takes, Ends, Searched, Searches, SearchesNew, recorded}
use Rattle.discovery_ends.specs.Going.{Awake, HeardOut, IsOver, ListenedSo, WentRound, RoundSo, AgainSo}
use Rattle.discovery_ends.proofs.Polling.{none_told, same_clock, same_record, sent_one}

-- ---- a round

module _ (clock : Clock) (inquiry : Inquiry) (r : List Entry) (got : List (List ℕ)) (old : List About) where
  went : (x : Entry) (after : Story) (found : List About) → x.what ≡ Put (Written (request_of inquiry)) → HeardOut clock inquiry (x ∷ r) got after found → WentRound clock inquiry r got after found
  went x after found put h = record {
    now = h.polls ++ x ∷ r;
    told = h.grew.told;
    more = datagrams_in h.polls;
    round = record { request = x; put = put; polls = h.polls; listens = h.grew.listens; all = refl; got_in_it = refl };
    takes = h.takes;
  }

  listened_so : (result : Result Listened LinkFault) (x : Entry) (after : Story) (found : List About) → x.what ≡ Put (Written (request_of inquiry)) → ListenedSo clock result inquiry (x ∷ r) got after found
      → RoundSo clock result inquiry r got after old found
  unfolding went
  listened_so (Ok (listened.Quiet left)) x after found put h = (went x after found put h.0, h.1, h.2)
  listened_so (Ok listened.Over) x after found put h = (went x after found put h.0, h.1)
  listened_so (Err fault) x after found put h = inr (went x after found put h)

  pub round_so : (result : Result Listened LinkFault) (before between after : Story) (found : List About) (most : ℕ) → recorded before ≡ Recorded clock r → Takes inquiry got old → length got + most ≡ most_datagrams
      → Sends (Written (request_of inquiry)) before between
      → ((at : List Entry) (earlier : List (List ℕ)) → Awake clock between at → Takes inquiry earlier old → length earlier + most ≡ most_datagrams → ListenedSo clock result inquiry at earlier after found)
      → RoundSo clock result inquiry r got after old found
  round_so result before between after found most told t n sends so =
      let s = sent_one clock (Written (request_of inquiry)) before between r told sends in
      listened_so result s.request after found s.put (so (s.request ∷ r) got s.awake t n)

  pub unsent_so : (fault : LinkFault) (before after : Story) → recorded before ≡ Recorded clock r → Takes inquiry got old → SendsOrNot (Written (request_of inquiry)) before after
      → ((recorded after ≡ Recorded clock r) × (old ≡ old)) ⊎ WentRound clock inquiry r got after old
  unsent_so fault before after told t (inl sends) =
      let s = sent_one clock (Written (request_of inquiry)) before after r told sends in
      inr (went s.request after old s.put (record { polls = []; grew = record { told = s.awake.told; listens = tt }; takes = rw (append-nil got) t }))
  unsent_so fault before after told t (inr same) = inl (ap recorded same ∙ told, refl)

-- ---- the search

pub nothing_taken : (inquiry : Inquiry) → Takes inquiry [] []
nothing_taken inquiry = record {
  finds = record { told = []; tell = NoMore; firsts = Ended };
  room = λ front last earlier e _. none front last e;
  few = omega arith;
}
  where
    none : {P : Type 0} (front : List (List ℕ)) (last : List ℕ) → [] ≡ front ++ last ∷ [] → P
    none [] last e = cc
    none (x ∷ front) last e = cc

abbrev pub Found : Clock → Inquiry → List Entry → Story → List About → Result (Unit {0}) LinkFault → Type 0
Found clock inquiry r after found result = (r' : List Entry) × (recorded after ≡ Recorded clock r') × Searched clock inquiry r r' found result

not_ok : {P : Type 0} (fault : LinkFault) → ◌≡◌ {A = Result (Unit {0}) LinkFault} (Err fault) (Ok tt) → P
not_ok fault e = cc

over_ends : (clock : Clock) (sent : ℕ) (r : List Entry) (got : List (List ℕ)) (found : List About) → IsOver got found → Ends clock sent r got found
over_ends clock sent r got found (inl full) = inl full
over_ends clock sent r got found (inr all) = inr (inl all)

-- one that failed in its first round
pub first_failed : (clock : Clock) (inquiry : Inquiry) (r : List Entry) (fault : LinkFault) (after : Story) (old found : List About) → old ≡ [] → RoundSo clock (Err fault) inquiry r [] after old found → Found clock inquiry r after found (Err fault)
first_failed clock inquiry r fault after old found none (inl h) =
    (r, h.0, record { sent = 0; got = []; rounds = Unsent; takes = rw (h.1, none) (nothing_taken inquiry); ends = not_ok fault })
first_failed clock inquiry r fault after old found none (inr w) = (w.now, w.told, record { sent = 1; got = w.more; rounds = Once w.round; takes = w.takes; ends = not_ok fault })

pub first_over : (clock : Clock) (inquiry : Inquiry) (r : List Entry) (after : Story) (old found : List About) → RoundSo clock (Ok listened.Over) inquiry r [] after old found → Found clock inquiry r after found (Ok tt)
first_over clock inquiry r after old found h = (h.0.now, h.0.told, record { sent = 1; got = h.0.more; rounds = Once h.0.round; takes = h.0.takes; ends = λ _. over_ends clock 1 h.0.now h.0.more found h.1 })

-- a first round that ended in quiet
module _ (clock : Clock) (inquiry : Inquiry) (r between : List Entry) (first : List (List ℕ)) (round : Round clock inquiry r between first) (quiet : IsQuietFor clock quiet_ms between) where
  pub some_found : (before : Story) (found : List About) → recorded before ≡ Recorded clock between → Takes inquiry first found → found ≢ [] → Found clock inquiry r before found (Ok tt)
  some_found before found told t some = (between, told, record { sent = 1; got = first; rounds = Once round; takes = t; ends = λ _. inr (inr (quiet, λ e. absurd (some e))) })

  pub second_failed : (fault : LinkFault) (after : Story) (old found : List About) → old ≡ [] → Takes inquiry first old → RoundSo clock (Err fault) inquiry between first after old found → Found clock inquiry r after found (Err fault)
  second_failed fault after old found none t (inl h) = (between, h.0, record { sent = 1; got = first; rounds = Once round; takes = rw h.1 t; ends = not_ok fault })
  second_failed fault after old found none t (inr w) =
      let finds : Finds inquiry first [] = subst (Finds inquiry first) none t.finds in
      (w.now, w.told, record { sent = 2; got = first ++ w.more; rounds = Twice round quiet finds w.round; takes = w.takes; ends = not_ok fault })

  pub second_went : (how : Listened) (after : Story) (old found : List About) → old ≡ [] → Takes inquiry first old → RoundSo clock (Ok how) inquiry between first after old found → Found clock inquiry r after found (Ok tt)
  second_went (listened.Quiet left) after old found none t h =
      let finds : Finds inquiry first [] = subst (Finds inquiry first) none t.finds in
      (h.0.now, h.0.told, record { sent = 2; got = first ++ h.0.more; rounds = Twice round quiet finds h.0.round; takes = h.0.takes; ends = λ _. inr (inr (h.1, λ _. refl)) })
  second_went listened.Over after old found none t h =
      let finds : Finds inquiry first [] = subst (Finds inquiry first) none t.finds in
      (h.0.now, h.0.told, record { sent = 2; got = first ++ h.0.more; rounds = Twice round quiet finds h.0.round; takes = h.0.takes; ends = λ _. over_ends clock 2 h.0.now (first ++ h.0.more) found h.1 })

pub over_at : (clock : Clock) (how : Listened) → how ≡ listened.Over → (inquiry : Inquiry) (r : List Entry) (after : Story) (old found : List About) → RoundSo clock (Ok how) inquiry r [] after old found → Found clock inquiry r after found (Ok tt)
over_at clock how is inquiry r after old found h = first_over clock inquiry r after old found (subst (λ (l : Listened). RoundSo clock (Ok l) inquiry r [] after old found) is h)

pub quiet_at : (clock : Clock) (how : Listened) (left : ℕ) → how ≡ listened.Quiet left → (inquiry asked : Inquiry) → asked ≡ inquiry → (r : List Entry) (between after : Story) (old found now : List About) (result : Result (Unit {0}) LinkFault)
    → RoundSo clock (Ok how) inquiry r [] between old found → AgainSo result asked left between after found now → Found clock inquiry r after now result
quiet_at clock how left is inquiry asked same r between after old found now result h again =
    let q : RoundSo clock (Ok (listened.Quiet left)) inquiry r [] between old found = subst (λ (l : Listened). RoundSo clock (Ok l) inquiry r [] between old found) is h in
    let second : AgainSo result inquiry left between after found now = subst (λ (a : Inquiry). AgainSo result a left between after found now) same again in
    second clock r q.0.now q.0.more q.0.told q.0.round q.1 q.0.takes q.2

pub taken_none : (inquiry : Inquiry) (found : List About) → found ≡ [] → Takes inquiry [] found
taken_none inquiry found none = subst (Takes inquiry []) (sym none) (nothing_taken inquiry)

-- ---- over a link that was new

new_so : (inquiry : Inquiry) (own : Clock) (older : List Entry) (after : Story) (found : List About) (ended : Result (Unit {0}) LinkFault) → older ≡ [] → Found own inquiry older after found ended → SearchesNew inquiry after found ended
new_so inquiry own older after found ended none f = λ clock r told.
    (let both : Recorded own f.0 ≡ Recorded clock r = sym f.1 ∙ told in
    let of : Searched own inquiry [] f.0 found ended = subst (λ (l : List Entry). Searched own inquiry l f.0 found ended) none f.2 in
    subst (λ (c : Clock). Searched c inquiry [] r found ended) (same_clock own clock f.0 r both) (subst (λ (l : List Entry). Searched own inquiry [] l found ended) (same_record own clock f.0 r both) of))

pub new_searched : (inquiry : Inquiry) (began after : Story) (found : List About) (ended : Result (Unit {0}) LinkFault) → IsNewLink began → Searches inquiry began after found ended → (began ≡ Untold → after ≡ Untold)
    → SearchesNew inquiry after found ended
new_searched inquiry Untold after found ended new so untold = λ clock r told. none_told after clock r (untold refl) told
new_searched inquiry (Recorded own older) after found ended new so untold = new_so inquiry own older after found ended new (so own older refl)
new_searched inquiry (Full start events) after found ended new so untold = new_so inquiry Exact (record_of start events) after found ended (ap (record_of start) new.0) (so Exact (record_of start events) refl)
