-- The record of the port below, as it is shown: with one item more.
use Rattle.std.proofs.Common.{◌≡◌, inl, inr, ℕ, Bool, true, false, List, [], ◌∷◌, refl, sym, ap, ◌∙◌, subst, Option, Some, None, Result, Ok, Err}
use Rattle.std.specs.Prelude.{IsErr, is_some, if◌then◌else◌, ◌&&◌, ◌==◌}
use Rattle.std.specs.Str.{bytes_eq}
use Rattle.std.proofs.lemmas.Bool.{eq-eqb, and_from}
use Rattle.std.proofs.lemmas.Slice.Eq.{bytes_eq-Decides}
use Rattle.line_model.specs.declared.outside.port.PortFault.{PortFault}
use Rattle.line_model.specs.declared.outside.port.PortPolled.{PortPolled}
use Rattle.line_model.specs.PortStory.{PortItem, Took, Quiet, Gave, PortStory, Untold, Recorded, Adds, GivesOrNot, TakesSo}
use Rattle.discovery.specs.declared.about.About.{About}
use Rattle.discovery.specs.declared.inquiry.Inquiry.{Inquiry}
use Rattle.discovery_ends.specs.Answering.{AllAnswered, HasNoRequest, request_in, answer_of, is_answer_to, is_answer, shown, without_last, shown_story}

-- ---- no request is open: the newest item of the record is none

abbrev is_open : List PortItem → Bool
is_open (Took from octets ∷ older) = is_some (request_in octets)
is_open items = false

abbrev pub NoneOpen : PortStory → Type 0
NoneOpen Untold = Unit {0}
NoneOpen (Recorded items) = is_open items ≡ false

pub none_open : (about : About) (story : PortStory) → HasNoRequest (shown_story about None story) → NoneOpen story
none_open about Untold h = tt
none_open about (Recorded []) h = refl
none_open about (Recorded (Took from octets ∷ older)) h = ap is_some h.0
none_open about (Recorded (Quiet ms ∷ older)) h = refl
none_open about (Recorded (Gave to octets ∷ older)) h = refl

-- ---- one item more

if_false : {X : Type 0} (b : Bool) (x y : X) → b ≡ false → (if b then x else y) ≡ y
if_false true x y e = cc
if_false false x y e = refl

if_true : {X : Type 0} (b : Bool) (x y : X) → b ≡ true → (if b then x else y) ≡ x
if_true true x y e = refl
if_true false x y e = cc

and_false : (a b : Bool) → b ≡ false → (a && b) ≡ false
and_false true b e = e
and_false false b e = refl

-- what is no request has no answer
no_answer_to : (about : About) (o : Option Inquiry) (octets : List ℕ) → is_some o ≡ false → is_answer_to about o octets ≡ false
no_answer_to about None octets e = refl
no_answer_to about (Some inquiry) octets e = cc

answers_none : (about : About) (to : ℕ) (octets : List ℕ) (older : List PortItem) → is_open older ≡ false → is_answer about (Gave to octets) older ≡ false
answers_none about to octets [] e = refl
answers_none about to octets (Took from request ∷ older) e = and_false (to == from) _ (no_answer_to about (request_in request) octets e)
answers_none about to octets (Quiet ms ∷ older) e = refl
answers_none about to octets (Gave other answer ∷ older) e = refl

shown_gave : (about : About) (to : ℕ) (octets : List ℕ) (older : List PortItem) → is_open older ≡ false → shown about (Gave to octets ∷ older) ≡ Gave to octets ∷ shown about older
shown_gave about to octets older e = if_false (is_answer about (Gave to octets) older) _ _ (answers_none about to octets older e)

answers_it : (about : About) (o : Option Inquiry) (inquiry : Inquiry) → o ≡ Some inquiry → is_answer_to about o (answer_of about inquiry) ≡ true
answers_it about o inquiry e =
    let same : bytes_eq (answer_of about inquiry) (answer_of about inquiry) ≡ true = (bytes_eq-Decides (answer_of about inquiry) (answer_of about inquiry)).1 refl in
    subst (λ (p : Option Inquiry). is_answer_to about p (answer_of about inquiry) ≡ true) (sym e) same

is_answered : (about : About) (from : ℕ) (request : List ℕ) (inquiry : Inquiry) (older : List PortItem) → request_in request ≡ Some inquiry
    → is_answer about (Gave from (answer_of about inquiry)) (Took from request ∷ older) ≡ true
is_answered about from request inquiry older e = and_from _ _ (eq-eqb from from refl) (answers_it about (request_in request) inquiry e)

shown_answered : (about : About) (from : ℕ) (request : List ℕ) (inquiry : Inquiry) (older : List PortItem) → request_in request ≡ Some inquiry
    → shown about (Gave from (answer_of about inquiry) ∷ Took from request ∷ older) ≡ Took from [] ∷ shown about older
shown_answered about from request inquiry older e =
    if_true (is_answer about (Gave from (answer_of about inquiry)) (Took from request ∷ older)) _ _ (is_answered about from request inquiry older e)

-- ---- the stories

adds_shown : (about : About) (item : PortItem) (before after : PortStory) → ((older : List PortItem) → shown about (item ∷ older) ≡ item ∷ shown about older) → Adds item before after
    → Adds item (shown_story about None before) (shown_story about None after)
adds_shown about item before Untold step h = ap (shown_story about None) h
adds_shown about item before (Recorded items) step h =
    (shown about h.0, ap (shown_story about None) h.1, ap (shown about) h.2 ∙ step h.0)

pub took_shown : (about : About) (from : ℕ) (octets : List ℕ) (before after : PortStory) → Adds (Took from octets) before after → Adds (Took from octets) (shown_story about None before) (shown_story about None after)
took_shown about from octets before after = adds_shown about (Took from octets) before after (λ older. refl)

pub quiet_shown : (about : About) (ms : ℕ) (before after : PortStory) → Adds (Quiet ms) before after → Adds (Quiet ms) (shown_story about None before) (shown_story about None after)
quiet_shown about ms before after = adds_shown about (Quiet ms) before after (λ older. refl)

pub gave_shown : (about : About) (to : ℕ) (octets : List ℕ) (before after : PortStory) → NoneOpen before → Adds (Gave to octets) before after
    → Adds (Gave to octets) (shown_story about None before) (shown_story about None after)
gave_shown about to octets before Untold none h = ap (shown_story about None) h
gave_shown about to octets before (Recorded items) none h =
    let closed : is_open h.0 ≡ false = subst NoneOpen h.1 none in
    (shown about h.0, ap (shown_story about None) h.1, ap (shown about) h.2 ∙ shown_gave about to octets h.0 closed)

pub gave_or_not_shown : (about : About) (to : ℕ) (octets : List ℕ) (before after : PortStory) → NoneOpen before → GivesOrNot to octets before after
    → GivesOrNot to octets (shown_story about None before) (shown_story about None after)
gave_or_not_shown about to octets before after none (inl h) = inl (gave_shown about to octets before after none h)
gave_or_not_shown about to octets before after none (inr h) = inr (ap (shown_story about None) h)

-- ---- a request, and its answer

module _ (about : About) (from : ℕ) (request : List ℕ) (inquiry : Inquiry) (is : request_in request ≡ Some inquiry) where
  same_records : (a b : List PortItem) → Recorded a ≡ Recorded b → a ≡ b
  same_records a b e = cc

  pub answered_shown : (before between after : PortStory) → Adds (Took from request) before between → Adds (Gave from (answer_of about inquiry)) between after
      → Adds (Took from []) (shown_story about None before) (shown_story about None after)
  answered_shown before between Untold h k = ap (shown_story about None) (let g : Adds (Took from request) before Untold = subst (Adds (Took from request) before) k h in g)
  answered_shown before between (Recorded items) h k =
      let g : Adds (Took from request) before (Recorded k.0) = subst (Adds (Took from request) before) k.1 h in (
        shown about g.0,
        ap (shown_story about None) g.1,
        ap (shown about) (k.2 ∙ ap (λ (l : List PortItem). Gave from (answer_of about inquiry) ∷ l) g.2) ∙ shown_answered about from request inquiry g.0 is,
      )

  without_request : (older : List PortItem) → without_last about (Took from request ∷ older) ≡ older
  without_request older = if_true (is_some (request_in request)) older (Took from request ∷ older) (ap is_some is)

  without_answered : (older : List PortItem) → without_last about (Gave from (answer_of about inquiry) ∷ Took from request ∷ older) ≡ older
  without_answered older =
      if_true (is_answer about (Gave from (answer_of about inquiry)) (Took from request ∷ older)) older (Gave from (answer_of about inquiry) ∷ Took from request ∷ older) (is_answered about from request inquiry older is)

  not_given : (fault : PortFault) (before after : PortStory) → Adds (Took from request) before after → shown_story about (Some fault) after ≡ shown_story about None before
  not_given fault before Untold h = sym (ap (shown_story about None) h)
  not_given fault before (Recorded items) h =
      ap (λ (l : List PortItem). Recorded (shown about l)) (ap (without_last about) h.2 ∙ without_request h.0) ∙ sym (ap (shown_story about None) h.1)

  pub failed_shown : (fault : PortFault) (before between after : PortStory) → Adds (Took from request) before between → GivesOrNot from (answer_of about inquiry) between after
      → shown_story about (Some fault) after ≡ shown_story about None before
  failed_shown fault before between Untold h (inl k) = not_given fault before Untold (subst (Adds (Took from request) before) k h)
  failed_shown fault before between (Recorded items) h (inl k) =
      let g : Adds (Took from request) before (Recorded k.0) = subst (Adds (Took from request) before) k.1 h in
      let all : items ≡ Gave from (answer_of about inquiry) ∷ Took from request ∷ g.0 = k.2 ∙ ap (λ (l : List PortItem). Gave from (answer_of about inquiry) ∷ l) g.2 in
      ap (λ (l : List PortItem). Recorded (shown about l)) (ap (without_last about) all ∙ without_answered g.0) ∙ sym (ap (shown_story about None) g.1)
  failed_shown fault before between after h (inr k) = not_given fault before after (subst (Adds (Took from request) before) (sym k) h)

  module _ (fault : PortFault) (failed : Option PortFault) (kept : failed ≡ Some fault) (before between after : PortStory) (took : Adds (Took from request) before between) (given : GivesOrNot from (answer_of about inquiry) between after) where
    not_shown : shown_story about failed after ≡ shown_story about None before
    not_shown = ap (λ (o : Option PortFault). shown_story about o after) kept ∙ failed_shown fault before between after took given

    -- so nothing was taken, by what is shown
    pub failed_taken : (result : Result PortPolled PortFault) (into : List ℕ) (wait : ℕ) → IsErr result → TakesSo result into wait (shown_story about None before) (shown_story about failed after)
    failed_taken (Ok polled) into wait e = absurd cc
    failed_taken (Err why) into wait e = not_shown

    pub failed_answered : AllAnswered about None before → AllAnswered about failed after
    failed_answered none = subst HasNoRequest (sym not_shown) none
