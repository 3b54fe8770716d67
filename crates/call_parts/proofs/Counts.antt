-- The counts of faults over the reads of a call: only the read that failed is counted.
use Rattle.std.proofs.Common.{◌≡◌, Bool, true, false, List, [], ◌∷◌, Option, Some, None, Ok, Err, refl, sym, ◌∙◌, subst, inl, inr, ◌⊎◌, ℕ}
use Rattle.knx_model.specs.Outside.{FileContent, MayRead, Rose}
use Rattle.call_parts.specs.Input.{limit, goes_on, IsRead, failed, first_some, OnlyRose}
use Rattle.call_parts.specs.declared.input.Reading.{Reading}
use Rattle.call_parts.specs.declared.input.Reading.TheVariants as read

-- nothing failed in a file that isn't read
unread_failed : (file : List ℕ → FileContent) (name : Option (List ℕ)) (reading : Reading) → IsRead file false name reading → failed name reading ≡ None
unread_failed file None read.Unnamed h = refl
unread_failed file None read.Unread h = refl
unread_failed file None (read.Whole octets) h = refl
unread_failed file None (read.Fault why) h = refl
unread_failed file (Some name) read.Unnamed h = refl
unread_failed file (Some name) read.Unread h = refl
unread_failed file (Some name) (read.Whole octets) h = refl
unread_failed file (Some name) (read.Fault why) h = absurd (let e : false ≡ true = h.0 in cc)

-- nothing failed in a file behind which the reading goes on
on_failed : (name : Option (List ℕ)) (reading : Reading) → goes_on reading ≡ true → failed name reading ≡ None
on_failed None reading e = refl
on_failed (Some name) read.Unnamed e = refl
on_failed (Some name) read.Unread e = refl
on_failed (Some name) (read.Whole octets) e = refl
on_failed (Some name) (read.Fault why) e = absurd (let h : false ≡ true = e in cc)

still_then : (other : Option (List ℕ)) (a b c : List ℕ → ℕ) → OnlyRose None a b → OnlyRose other b c → OnlyRose other a c
still_then None a b c still next = λ name. next name ∙ still name
still_then (Some rose) a b c still next = (subst (λ (n : ℕ). Rose n (c rose)) (still rose) next.0, λ name apart. next.1 name apart ∙ still name)

then_still : (one : Option (List ℕ)) (a b c : List ℕ → ℕ) → OnlyRose one a b → OnlyRose None b c → OnlyRose one a c
then_still None a b c next still = λ name. still name ∙ next name
then_still (Some rose) a b c next still = (subst (λ (n : ℕ). Rose (a rose) n) (sym (still rose)) next.0, λ name apart. still name ∙ next.1 name apart)

-- the counts over the reads before, and over one more
pub rose_more : (before rest all : Option (List ℕ)) (a b c : List ℕ → ℕ) → (before ≡ None) ⊎ (rest ≡ None) → OnlyRose before a b → OnlyRose rest b c → (before ≡ None → all ≡ rest) → (rest ≡ None → all ≡ before) → OnlyRose all a c
rose_more before rest all a b c (inl none) first next e f =
    subst (λ (o : Option (List ℕ)). OnlyRose o a c) (sym (e none)) (still_then rest a b c (subst (λ (o : Option (List ℕ)). OnlyRose o a b) none first) next)
rose_more before rest all a b c (inr none) first next e f =
    subst (λ (o : Option (List ℕ)). OnlyRose o a c) (sym (f none)) (then_still before a b c first (subst (λ (o : Option (List ℕ)). OnlyRose o b c) none next))

head_none : (one : Option (List ℕ)) (others : List (Option (List ℕ))) → one ≡ None → first_some (one ∷ others) ≡ first_some others
head_none None others e = refl
head_none (Some name) others e = absurd cc

rest_none : (one : Option (List ℕ)) (others : List (Option (List ℕ))) → first_some others ≡ None → first_some (one ∷ others) ≡ one
rest_none None others e = e
rest_none (Some name) others e = refl

-- nothing failed in the files behind one at which the reading ended
rest_failed : (file : List ℕ → FileContent) (name : Option (List ℕ)) (reading : Reading) (others : List (Option (List ℕ))) → IsRead file false name reading → first_some others ≡ None → first_some (failed name reading ∷ others) ≡ None
rest_failed file name reading others h e = head_none (failed name reading) others (unread_failed file name reading h) ∙ e

unread_goes : (file : List ℕ → FileContent) (name : Option (List ℕ)) (reading : Reading) → IsRead file false name reading → goes_on reading ≡ false
unread_goes file None read.Unnamed h = absurd (let e : false ≡ true = h.0 in cc)
unread_goes file None read.Unread h = refl
unread_goes file None (read.Whole octets) h = absurd h
unread_goes file None (read.Fault why) h = absurd h
unread_goes file (Some name) read.Unnamed h = absurd (let e : false ≡ true = h.0 in cc)
unread_goes file (Some name) read.Unread h = refl
unread_goes file (Some name) (read.Whole octets) h = absurd (let e : false ≡ true = h.0 in cc)
unread_goes file (Some name) (read.Fault why) h = refl

pub tail_of : (turn : Bool) (file : List ℕ → FileContent) (name : Option (List ℕ)) (reading : Reading) (others : List (Option (List ℕ))) → IsRead file turn name reading → (goes_on reading ≡ false → first_some others ≡ None) → turn ≡ false → first_some (failed name reading ∷ others) ≡ None
tail_of true file name reading others h behind off = absurd cc
tail_of false file name reading others h behind off = rest_failed file name reading others h (behind (unread_goes file name reading h))

goes_step : (turn : Bool) (name : Option (List ℕ)) (reading : Reading) (others : List (Option (List ℕ))) → goes_on reading ≡ turn → (goes_on reading ≡ false → first_some others ≡ None) → (failed name reading ≡ None) ⊎ (first_some others ≡ None)
goes_step true name reading others e behind = inl (on_failed name reading e)
goes_step false name reading others e behind = inr (behind e)

-- one read, and those behind it
pub rose_then : (name : Option (List ℕ)) (reading : Reading) (others : List (Option (List ℕ))) (a b c : List ℕ → ℕ) → (goes_on reading ≡ false → first_some others ≡ None)
    → OnlyRose (failed name reading) a b → OnlyRose (first_some others) b c → OnlyRose (first_some (failed name reading ∷ others)) a c
rose_then name reading others a b c behind first next =
    rose_more (failed name reading) (first_some others) (first_some (failed name reading ∷ others)) a b c (goes_step (goes_on reading) name reading others refl behind) first next
    (λ none. head_none (failed name reading) others none) (λ none. rest_none (failed name reading) others none)

pub alone : (one : Option (List ℕ)) → first_some (one ∷ []) ≡ one
alone None = refl
alone (Some name) = refl

-- ---- what the files tell stays, so that later reads are of the same files

pub read_still : (file later : List ℕ → FileContent) (turn : Bool) (name : Option (List ℕ)) (reading : Reading) → ((other : List ℕ) → later other ≡ file other) → IsRead later turn name reading → IsRead file turn name reading
read_still file later turn None read.Unnamed same h = h
read_still file later turn None read.Unread same h = h
read_still file later turn None (read.Whole octets) same h = h
read_still file later turn None (read.Fault why) same h = h
read_still file later turn (Some name) read.Unnamed same h = h
read_still file later turn (Some name) read.Unread same h = h
read_still file later turn (Some name) (read.Whole octets) same h = (h.0, subst (λ (content : FileContent). MayRead content limit (Ok octets)) (same name) h.1)
read_still file later turn (Some name) (read.Fault why) same h = (h.0, subst (λ (content : FileContent). MayRead content limit (Err why)) (same name) h.1)
