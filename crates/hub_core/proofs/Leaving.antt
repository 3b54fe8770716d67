-- What holds of each entry of a step of the closing, of which first one part is added and then another; and that each is right where it stands.
use Rattle.std.proofs.Common.{◌≡◌, ℕ, Bool, true, false, List, [], ◌∷◌, ◌++◌, Option, Some, None, refl, sym, ap, subst, ◌∙◌, append_assoc, arith}
use Rattle.std.proofs.lemmas.Bool.Decides.{nat_tests}
use Rattle.std.proofs.lemmas.List.{append_cancel_right}
use Rattle.std.specs.Prelude.{◌&&◌, ◌||◌, min, nat_le}
use Rattle.knx_model.specs.Connection.{has_passed}
use Rattle.line_model.specs.Record.{Entry, Placed, entries}
use Rattle.line_model.specs.LinkStory.{Story, places_in, newest_time}
use Rattle.line_model.specs.ChannelLost.{answer_wait}
use Rattle.line_model.specs.ClientView.{channel}
use Rattle.line_model.specs.Closing as line
use Rattle.tunnel_link.specs.Adds.{place_of, Grows, Growing}
use Rattle.tunnel_link.specs.Alone.{Each, EndsNone, LeavesAlone, SendsOnce, Nothing, Once}
use Rattle.tunnel_link.specs.Goes.{GoesOn}
use Rattle.tunnel_link.specs.Rights.{WhereTold}
use Rattle.tunnel_link.proofs.Acting.{grows_then}
use Rattle.tunnel_link.proofs.Growth.{entries_append}
use Rattle.tunnel_link.proofs.Places.{unmoved}
use Rattle.tunnel_link.proofs.SeekKept.{grows_as}
use Rattle.hub_work.specs.declared.closing.Closing.{Closing}
use Rattle.hub_work.specs.Closes.{Begins}
use Rattle.hub_core.specs.Closes.{capped, HasCome, resumed, Resumes, HasListened, AsksNow}
use Rattle.hub_core.specs.Leaving.{EachFrom, EachOn, ClosesOn}
use Rattle.hub_core.specs.Pumps.{AddsSo}
use Rattle.hub_core.proofs.Closes.{resumed_both, closing_is, capped_began}

-- ---- before the closing

alone_ends_none : (old added : List Placed) → Each LeavesAlone old added → Each EndsNone old added
alone_ends_none old [] h = tt
alone_ends_none old (p ∷ added) h = (h.0.ends_none, alone_ends_none old added h.1)

pub ends_none_of : (s t : Story) → Growing (Each LeavesAlone) s t → Growing (Each EndsNone) s t
ends_none_of s t g = grows_as (Each LeavesAlone) (Each EndsNone) s t alone_ends_none g

-- ---- a step of the closing, and what holds of each of its entries

-- what a call adds in which the closing goes on
record GoesBy (A : List Placed → List Placed → Type 0) (o m : Option Closing) (old added : List Placed) : Type 0 where
  pub adds : A old added
  pub resumes : Resumes o m (entries old) (entries added)

goes_by : (A : List Placed → List Placed → Type 0) (o m : Option Closing) (s t : Story) → Growing A s t → AddsSo (Resumes o m) s t → Growing (GoesBy A o m) s t
goes_by A o m s t g adds old p =
    let x = g old p in
    let y = adds old x.new p x.told in
    let same : (y.0 ≡ entries x.added) = append_cancel_right y.0 (entries x.added) (entries old) (sym y.1.all ∙ x.grown.entries_grow) in
    record { new = x.new; told = x.told; added = x.added; grown = x.grown; is = record { adds = x.is; resumes = subst (λ (l : List Entry). Resumes o m (entries old) l) same y.2 } }

module _ (P : List Entry → line.Closing → Entry → Type 0) where
  pub since_from : (began : ℕ) (before l : List Entry) → EachFrom P (line.Listening began 0) before l → line.EachSince P began before l
  since_from began before [] h = tt
  since_from began before (x ∷ l) h = (subst (λ (s : line.Closing). P (l ++ before) s x) (sym (closing_is began l)) h.0, since_from began before l h.1)

  pub from_since : (began : ℕ) (before l : List Entry) → line.EachSince P began before l → EachFrom P (line.Listening began 0) before l
  from_since began before [] h = tt
  from_since began before (x ∷ l) h = (subst (λ (s : line.Closing). P (l ++ before) s x) (closing_is began l) h.0, from_since began before l h.1)

  pub from_then : (s : line.Closing) (before one two : List Entry) → EachFrom P s before one → EachFrom P (resumed s one) (one ++ before) two → EachFrom P s before (two ++ one)
  from_then s before one [] h k = h
  from_then s before one (x ∷ two) h k =
      (subst (λ (r : List Entry). P r (resumed s (two ++ one)) x) (sym (append_assoc two one before)) (subst (λ (z : line.Closing). P (two ++ (one ++ before)) z x) (sym (resumed_both s two one)) k.0), from_then s before one two h k.1)

  nothing_on : (c : Option Closing) (old : List Placed) → EachOn P c old []
  nothing_on None old = tt
  nothing_on (Some c) old = λ s come. tt

  pub on_none : (c : Option Closing) (s : Story) → Growing (EachOn P c) s s
  on_none c s old p = unmoved (EachOn P c) s s old refl p (nothing_on c old)

  -- it begins
  begins_on : (o b : Option Closing) (old added : List Placed) → Begins (newest_time (entries old)) o b → EachOn P b old added → EachOn P o old added
  begins_on None b old added begins h =
      let on : EachOn P (Some begins.0) old added = subst (λ (c : Option Closing). EachOn P c old added) begins.1 h in
      since_from (newest_time (entries old)) (entries old) (entries added) (on (line.Listening (newest_time (entries old)) 0) (begins.2 ∙ capped_began (newest_time (entries old))))
  begins_on (Some c) b old added begins h = subst (λ (z : Option Closing). EachOn P z old added) begins h

  pub on_begun : (o b : Option Closing) (s t : Story) → WhereTold (λ places. Begins (newest_time (entries places)) o b) s → Growing (EachOn P b) s t → Growing (EachOn P o) s t
  on_begun o b s t begins g old p = let x = g old p in record { new = x.new; told = x.told; added = x.added; grown = x.grown; is = begins_on o b old x.added (begins old p) x.is }

  on_from : (m : Option Closing) (old added : List Placed) (s : line.Closing) → HasCome m s → EachOn P m old added → EachFrom P s (entries old) (entries added)
  on_from None old added s come h = absurd come
  on_from (Some c) old added s come h = h s come

  -- what is right anywhere in the closing
  module _ (A : List Placed → List Placed → Type 0) (anywhere : (s : line.Closing) (old added : List Placed) → A old added → EachFrom P s (entries old) (entries added)) where
    anywhere_on : (c : Option Closing) (old added : List Placed) → A old added → EachOn P c old added
    anywhere_on None old added h = since_from (newest_time (entries old)) (entries old) (entries added) (anywhere (line.Listening (newest_time (entries old)) 0) old added h)
    anywhere_on (Some c) old added h = λ s come. anywhere s old added h

    pub on_anywhere : (c : Option Closing) (s t : Story) → Growing A s t → Growing (EachOn P c) s t
    on_anywhere c s t g = grows_as A (EachOn P c) s t (anywhere_on c) g

    some_then : (c : Closing) (m : Option Closing) (old one two : List Placed) → GoesBy A (Some c) m old one → EachOn P m (one ++ old) two → EachOn P (Some c) old (two ++ one)
    some_then c m old one two a h = λ s come.
        subst (λ (l : List Entry). EachFrom P s (entries old) l) (sym (entries_append two one))
        (from_then s (entries old) (entries one) (entries two) (anywhere s old one a.adds)
        (subst (λ (r : List Entry). EachFrom P (resumed s (entries one)) r (entries two)) (entries_append one old) (on_from m (one ++ old) two (resumed s (entries one)) (a.resumes s come) h)))

    on_then : (c : Closing) (m : Option Closing) (a b t : Story) → GoesOn a b → GoesOn b t → Growing A a b → AddsSo (Resumes (Some c) m) a b → Growing (EachOn P m) b t → Growing (EachOn P (Some c)) a t
    on_then c m a b t g h first resumes second = grows_then (GoesBy A (Some c) m) (EachOn P m) (EachOn P (Some c)) a b t g h (some_then c m) (goes_by A (Some c) m a b first resumes) second

    -- it begins, does that, and goes on
    with_begun : (o c m : Option Closing) (a b t : Story) → GoesOn a b → GoesOn b t → Growing A a b → AddsSo (Resumes c m) a b → Growing (EachOn P m) b t → (old : List Placed) → places_in a ≡ Some old → Begins (newest_time (entries old)) o c
        → Grows (EachOn P o) (place_of a) (place_of t) old t
    with_begun None c m a b t g h first resumes second old p begins =
        let x = on_then begins.0 m a b t g h first (subst (λ (z : Option Closing). AddsSo (Resumes z m) a b) begins.1 resumes) second old p in
        record { new = x.new; told = x.told; added = x.added; grown = x.grown; is = begins_on None c old x.added begins (subst (λ (z : Option Closing). EachOn P z old x.added) (sym begins.1) x.is) }
    with_begun (Some d) c m a b t g h first resumes second old p begins = on_then d m a b t g h first (subst (λ (z : Option Closing). AddsSo (Resumes z m) a b) begins resumes) second old p

    pub on_with : (o c m : Option Closing) (a b t : Story) → GoesOn a b → GoesOn b t → WhereTold (λ places. Begins (newest_time (entries places)) o c) a → Growing A a b → AddsSo (Resumes c m) a b → Growing (EachOn P m) b t → Growing (EachOn P o) a t
    on_with o c m a b t g h begins first resumes second old p = with_begun o c m a b t g h first resumes second old p (begins old p)

-- ---- what is sent

-- what leaves the open channel alone, and seeks none, is right anywhere
pub alone_right : (s : line.Closing) (old added : List Placed) → Each LeavesAlone old added → EachFrom line.ClosesSo s (entries old) (entries added)
alone_right s old [] h = tt
alone_right s old (p ∷ added) h =
    let shut : (line.asks_to_end p.what ≡ true → line.is_open (channel (entries added ++ entries old)) ≡ false) = subst (λ (r : List Entry). line.asks_to_end p.what ≡ true → line.is_open (channel r) ≡ false) (entries_append added old) h.0.ends_none in (
      record {
        connects_not = h.0.seeks_none.connects_not;
        renews_not = h.0.seeks_none.renews_not;
        ends = λ asks up. absurd (let z : true ≡ false = sym up ∙ shut asks in cc);
      },
      alone_right s old added h.1,
    )

pub closes_alone : (c : Option Closing) (s t : Story) → Growing (Each LeavesAlone) s t → Growing (ClosesOn c) s t
closes_alone c s t g = on_anywhere line.ClosesSo (Each LeavesAlone) alone_right c s t g

-- the end of the channel is asked for

enough : (n : ℕ) → nat_le 64 (min n 4294967295) ≡ nat_le 64 n
enough n = grind (arith, nat_tests)

pub capped_waited : (s : line.Closing) (now : ℕ) → line.has_waited (capped s) now ≡ line.has_waited s now
capped_waited (line.Listening since n) now = ap (λ (b : Bool). has_passed line.listening_wait since now || b) (enough n)
capped_waited (line.Leaving since n) now = ap (λ (b : Bool). has_passed answer_wait since now || b) (enough n)

capped_listens : (s : line.Closing) → line.is_listening (capped s) ≡ line.is_listening s
capped_listens (line.Listening since n) = refl
capped_listens (line.Leaving since n) = refl

has_listened : (c : Option Closing) (s : line.Closing) (now : ℕ) → HasCome c s → HasListened c now → (line.is_listening s && line.has_waited s now) ≡ true
has_listened None s now come waited = absurd come
has_listened (Some c) s now come waited =
    subst (λ (b : Bool). (b && line.has_waited s now) ≡ true) (capped_listens s)
    (subst (λ (b : Bool). (line.is_listening (capped s) && b) ≡ true) (capped_waited s now) (subst (λ (z : line.Closing). (line.is_listening z && line.has_waited z now) ≡ true) come waited))

once_closes : (c : Option Closing) (old added : List Placed) → HasListened c (newest_time (entries old)) → SendsOnce old added → ClosesOn c old added
once_closes None old added waited h = absurd waited
once_closes (Some c) old [] waited Nothing = λ s come. tt
once_closes (Some c) old (p ∷ (q ∷ added)) waited h = elim h [ ]
once_closes (Some c) old (p ∷ []) waited (Once q at seeks) = λ s come. (
  record {
    connects_not = seeks.connects_not;
    renews_not = seeks.renews_not;
    ends = λ asks up. subst (λ (t : ℕ). (line.is_listening s && line.has_waited s t) ≡ true) (sym at) (has_listened (Some c) s (newest_time (entries old)) come waited);
  },
  tt,
)

pub leave_closes : (c : Option Closing) (s t : Story) → AsksNow c s → Growing SendsOnce s t → Growing (ClosesOn c) s t
leave_closes c s t waited g old p = let x = g old p in record { new = x.new; told = x.told; added = x.added; grown = x.grown; is = once_closes c old x.added (waited old p) x.is }
