-- What has passed stays so; and this end's tests of the time are those of the record.
use Rattle.std.proofs.Common.{◌≡◌, ℕ, ◌≤◌, List, [], ◌∷◌, length, Bool, true, false, Option, refl, arith}
use Rattle.std.specs.Prelude.{not, ◌&&◌, ◌||◌, ◌==◌, nat_le}
use Rattle.std.proofs.lemmas.Bool.Decides.{nat_tests}
use Rattle.knx_model.specs.Connection.{has_passed}
use Rattle.line_model.specs.ChannelLost as lapse
use Rattle.line_model.specs.ChannelLost.{answer_wait, is_none}
use Rattle.line_model.specs.ClientEnd.{Outstanding, Free, Once, Again, OpenEnd, Open, is_given_up, is_dead, is_over, is_free, most_unanswered}
use Rattle.tunnel_channel.specs.Fits.{outstanding_of, IsSentRightly, IsBeatenRightly}

pub passed_later : (wait since t now : ℕ) → t ≤ now → has_passed wait since t ≡ true → has_passed wait since now ≡ true
passed_later wait since t now le h = grind (arith, nat_tests)

pub passed_alike : (wait more since now : ℕ) → wait ≤ more → has_passed more since now ≡ true → has_passed wait since now ≡ true
passed_alike wait more since now le h = grind (arith, nat_tests)

given_up_later : (o : Outstanding) (t now : ℕ) → t ≤ now → is_given_up o t ≡ true → is_given_up o now ≡ true
given_up_later Free t now le h = h
given_up_later (Once octets since) t now le h = h
given_up_later (Again since) t now le h = passed_later 1000 since t now le h

either_later : (a b c d : Bool) → (a ≡ true → c ≡ true) → (b ≡ true → d ≡ true) → (a || b) ≡ true → (c || d) ≡ true
either_later true b c d f g h = grind (arith, nat_tests, f refl)
either_later false b c d f g h = grind (arith, nat_tests, g h)

both_later : (a b d : Bool) → (b ≡ true → d ≡ true) → (a && b) ≡ true → (a && d) ≡ true
both_later true b d g h = g h
both_later false b d g h = h

pub over_later : (e : OpenEnd) (t now : ℕ) → t ≤ now → is_over (Open e) t ≡ true → is_over (Open e) now ≡ true
over_later e t now le h =
    either_later (is_given_up e.request t) (is_dead e t) (is_given_up e.request now) (is_dead e now)
    (given_up_later e.request t now le)
    (both_later (nat_le most_unanswered e.unanswered) (has_passed answer_wait e.beat t) (has_passed answer_wait e.beat now) (passed_later answer_wait e.beat t now le))
    h

-- ---- the same tests

pub same_given_up : (c number : ℕ) (s : List ℕ) (last : Option (List ℕ)) (now : ℕ) → IsSentRightly c number s last → is_given_up (outstanding_of s last) now ≡ lapse.is_given_up s now
same_given_up c number [] last now h = refl
same_given_up c number (t ∷ []) last now h = refl
same_given_up c number (s ∷ t ∷ []) last now h = rw h refl
same_given_up c number (s ∷ t ∷ u ∷ ts) last now h = absurd h

pub same_dead : (b : List ℕ) (last now : ℕ) → IsBeatenRightly b last → (nat_le most_unanswered (length b) && has_passed answer_wait last now) ≡ lapse.is_dead b now
same_dead [] last now h = refl
same_dead (t ∷ []) last now h = refl
same_dead (s ∷ t ∷ []) last now h = refl
same_dead (s ∷ t ∷ u ∷ []) last now h = rw (h.0, h.1, h.2) refl
same_dead (s ∷ t ∷ u ∷ v ∷ ts) last now h = absurd h

pub same_awaited : (b : List ℕ) (last now : ℕ) → IsBeatenRightly b last → (not (length b == 0) && not (has_passed answer_wait last now)) ≡ lapse.is_awaited b now
same_awaited [] last now h = refl
same_awaited (t ∷ []) last now h = rw h refl
same_awaited (s ∷ t ∷ []) last now h = rw h.0 refl
same_awaited (s ∷ t ∷ u ∷ []) last now h = rw h.0 refl
same_awaited (s ∷ t ∷ u ∷ v ∷ ts) last now h = absurd h

pub same_free : (s : List ℕ) (last : Option (List ℕ)) → is_free (outstanding_of s last) ≡ is_none s
same_free [] last = refl
same_free (t ∷ []) last = refl
same_free (s ∷ t ∷ ts) last = refl
