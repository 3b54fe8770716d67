-- The network by what is under way: of each list the datagrams that weren't delivered, before those that were.
use Rattle.std.proofs.Common.{◌≡◌, ℕ, suc, ◌+◌, ◌<◌, ◌≤◌, List, [], ◌∷◌, ◌++◌, length, Bool, true, false, ◌&&◌, Option, Some, None, refl, sym, ◌∙◌, ap, subst, arith, inl, inr}
use Rattle.std.specs.Prelude.{slice_get, ◌==◌}
use Rattle.std.proofs.lemmas.Bool.{eq-eqb}
use Rattle.knx_model.specs.declared.frames.ip.IpFrame.{IpFrame}
use Rattle.line_model.specs.Network.{Sent, changed_at, once_more}
use Rattle.line_model.specs.Deliveries.{or_here, oldest}
use Rattle.line_model.specs.Fresh.{IsOver}

-- a datagram that was sent at endpoint 1 or to it, reads so, and wasn't delivered
pub record IsNew (read : List ℕ → Option IpFrame) (frame : IpFrame) (s : Sent) : Type 0 where
  pub reads : read s.octets ≡ Some frame
  pub from : s.endpoint ≡ 1
  pub undelivered : s.delivered ≡ 0
  pub kept : s.lost ≡ false

abbrev pub AllCame : List Sent → Type 0
AllCame [] = Unit {0}
AllCame (s ∷ sent) = (1 ≤ s.delivered) × AllCame sent

module _ (A : Type 0) (read : List ℕ → Option IpFrame) (frame : A → IpFrame) where
  -- just these are under way, the newest first
  abbrev pub Way : List A → List Sent → Type 0
  Way [] sent = AllCame sent
  Way (a ∷ xs) [] = ⊥
  Way (a ∷ xs) (s ∷ sent) = IsNew read (frame a) s × Way xs sent

  -- the oldest of them is delivered
  pub record Took (xs : List A) (sent : List Sent) (start age : ℕ) : Type 0 where
    pub before : List A
    pub last : A
    pub split : xs ≡ before ++ last ∷ []
    pub i : ℕ
    pub is : age ≡ start + i
    pub s : Sent
    pub there : slice_get sent i ≡ Some s
    pub new : IsNew read (frame last) s
    pub rest : Way before (changed_at i once_more sent)

  -- nothing that is under way is over
  pub settled : (May : List Sent → ℕ → Type 0) → ((a : A) (s : Sent) (l : List Sent) → IsNew read (frame a) s → May (s ∷ l) 0) → (xs : List A) (sent : List Sent) → Way xs sent
      → ((age : ℕ) (s : Sent) → slice_get sent age ≡ Some s → IsOver (May sent age) s) → xs ≡ []
  settled May may [] sent w h = refl
  settled May may (a ∷ xs) [] w h = absurd w
  settled May may (a ∷ xs) (s ∷ sent) w h = absurd (not_over (h 0 s refl)) where
    not_over : IsOver (May (s ∷ sent) 0) s → ⊥
    not_over (inl d) = let u : s.delivered ≡ 0 = w.0.undelivered in omega arith
    not_over (inr (inl l)) = let k : s.lost ≡ false = w.0.kept in cc
    not_over (inr (inr n)) = n (may a s sent w.0)

  and_false : (a b : Bool) → b ≡ false → (a && b) ≡ false
  and_false true b h = h
  and_false false b h = refl

  here_none : (b : Bool) (start : ℕ) (o : Option ℕ) → b ≡ false → o ≡ None → or_here b start o ≡ None
  here_none b start o h e = rw (h, e) refl

  pub none_left : (test : ℕ → Sent → Bool) (sent : List Sent) (start : ℕ) → AllCame sent → oldest test start sent ≡ None
  none_left test [] start h = refl
  none_left test (s ∷ sent) start h =
      let came : (s.delivered == 0) ≡ false = grind (arith, h.0) in
      here_none (test start s && (s.delivered == 0)) start (oldest test (suc start) sent) (and_false (test start s) (s.delivered == 0) came) (none_left test sent (suc start) h.1)

  module _ (test : ℕ → Sent → Bool) (passes : (age : ℕ) (a : A) (s : Sent) → age < 128 → IsNew read (frame a) s → test age s ≡ true) where
    is_next : (start : ℕ) (a : A) (s : Sent) → start < 128 → IsNew read (frame a) s → (test start s && (s.delivered == 0)) ≡ true
    is_next start a s lim new = rw (passes start a s lim new, eq-eqb s.delivered 0 new.undelivered) refl

    here_some : (b : Bool) (start : ℕ) (o : Option ℕ) → b ≡ true → or_here b start o ≡ None → ⊥
    here_some b start None h e = let g : or_here true start None ≡ None = subst (λ (z : Bool). or_here z start None ≡ None) h e in cc
    here_some b start (Some older) h e = cc

    some_left : (a : A) (xs : List A) (sent : List Sent) (start : ℕ) → start < 128 → Way (a ∷ xs) sent → oldest test start sent ≡ None → ⊥
    some_left a xs [] start lim w e = w
    some_left a xs (s ∷ sent) start lim w e = here_some (test start s && (s.delivered == 0)) start (oldest test (suc start) sent) (is_next start a s lim w.0) e

    pub taken : (xs : List A) (sent : List Sent) (start age : ℕ) → start + length xs ≤ 128 → Way xs sent → oldest test start sent ≡ Some age → Took xs sent start age
    taken [] sent start age lim w e = absurd (let g : None ≡ Some age = sym (none_left test sent start w) ∙ e in cc)
    taken (a ∷ xs) [] start age lim w e = absurd w
    taken (a ∷ xs) (s ∷ sent) start age lim w e = by_rest (λ q. taken xs sent (suc start) age (omega arith) w.1 q) (oldest test (suc start) sent) refl e where
      one : (l : List A) → Way l sent → suc start + length l ≤ 128 → oldest test (suc start) sent ≡ None → start ≡ age → Took (a ∷ l) (s ∷ sent) start age
      one [] v lim2 q at = record { before = []; last = a; split = refl; i = 0; is = omega arith; s = s; there = refl; new = w.0; rest = ((let u : s.delivered ≡ 0 = w.0.undelivered in omega arith), v) }
      one (b ∷ l) v lim2 q at = absurd (some_left b l sent (suc start) (omega arith) v q)

      first : (t : Bool) → t ≡ true → or_here t start None ≡ Some age → start ≡ age
      first true h g = let k : Some start ≡ Some age = g in cc
      first false h g = cc

      by_rest : (oldest test (suc start) sent ≡ Some age → Took xs sent (suc start) age) → (o : Option ℕ) → oldest test (suc start) sent ≡ o → or_here (test start s && (s.delivered == 0)) start o ≡ Some age → Took (a ∷ xs) (s ∷ sent) start age
      by_rest older_one (Some older) q g =
          let same : older ≡ age = (let k : Some older ≡ Some age = g in cc) in
          let t : Took xs sent (suc start) age = older_one (q ∙ ap (λ z. Some z) same) in
          record { before = a ∷ t.before; last = t.last; split = ap (λ l. a ∷ l) t.split; i = suc t.i; is = (let h : age ≡ suc start + t.i = t.is in omega arith); s = t.s; there = t.there; new = t.new; rest = (w.0, t.rest) }
      by_rest older_one None q g = one xs w.1 (omega arith) q (first (test start s && (s.delivered == 0)) (is_next start a s (omega arith) w.0) g)
