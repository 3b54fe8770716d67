-- What is due, one after another, adds what each adds.
use Rattle.std.proofs.Common.{◌≡◌, ◌≢◌, ℕ, ◌≤◌, List, [], ◌∷◌, ◌++◌, Bool, true, false, Some, Result, Ok, Err, refl, sym, subst, ap, ◌∙◌, arith}
use Rattle.std.proofs.lemmas.List.{append_assoc, length-append}
use Rattle.std.specs.Prelude.{◌||◌}
use Rattle.std.specs.List.{list_any}
use Rattle.std.proofs.lemmas.Bool.{or_parts}
use Rattle.line_model.specs.declared.fault.HubFault.{HubFault}
use Rattle.line_model.specs.Record.{Placed, entries, is_poll}
use Rattle.line_model.specs.LinkStory.{Story, Untold, Recorded, Full, places_in, newest_time}
use Rattle.line_model.specs.ClientView.{channel, Nothing, deed}
use Rattle.line_model.specs.Closing.{asks_to_end}
use Rattle.line_model.specs.Renews.{is_late}
use Rattle.tunnel_link.specs.Goes.{GoesOn}
use Rattle.tunnel_link.specs.Adds.{place_of, Growing, AllNothing, Dues, DuesOne, Acts}
use Rattle.tunnel_link.proofs.Growth.{IsAbove, IsUpto, upto_more}
use Rattle.tunnel_link.proofs.Places.{added_of}
use Rattle.tunnel_link.proofs.SeekKept.{grows_as}

-- ---- one call after another

goes_up : (s t : Story) (old : List Placed) → GoesOn s t → places_in s ≡ Some old → place_of s ≤ place_of t
goes_up Untold t old g p = absurd (cc)
goes_up (Recorded clock r) t old g p = rw g.1 (let h = length-append g.0 r in omega arith)
goes_up (Full start events) t old g p = rw g.1 (let h = length-append g.0 events in omega arith)

above_more : (m n : ℕ) (l : List Placed) → m ≤ n → IsAbove n l → IsAbove m l
above_more m n [] le h = tt
above_more m n (p ∷ l) le h = (omega (arith, le, h.0), above_more m n l le h.1)

above_append : (n : ℕ) (a b : List Placed) → IsAbove n a → IsAbove n b → IsAbove n (a ++ b)
above_append n [] b x y = y
above_append n (p ∷ a) b x y = (x.0, above_append n a b x.1 y)

upto_append : (n : ℕ) (a b : List Placed) → IsUpto n a → IsUpto n b → IsUpto n (a ++ b)
upto_append n [] b x y = y
upto_append n (p ∷ a) b x y = (x.0, upto_append n a b x.1 y)

pub grows_then : (P Q R : List Placed → List Placed → Type 0) (s t u : Story) → GoesOn s t → GoesOn t u → ((old one two : List Placed) → P old one → Q (one ++ old) two → R old (two ++ one)) → Growing P s t → Growing Q t u → Growing R s u
grows_then P Q R s t u g h both f e old p =
    let x = f old p in
    let y = e x.new x.told in
    let first : (place_of s ≤ place_of t) = goes_up s t old g p in
    let second : (place_of t ≤ place_of u) = goes_up t u x.new h x.told in
    let more : (y.new ≡ (y.added ++ x.added) ++ old) = y.grown.grow ∙ ap (λ (l : List Placed). y.added ++ l) x.grown.grow ∙ sym (append_assoc y.added x.added old) in
    record {
      new = (y.added ++ x.added) ++ old;
      told = y.told ∙ ap (λ (l : List Placed). Some l) more;
      added = y.added ++ x.added;
      grown = added_of (place_of s) (place_of u) old (y.added ++ x.added) (above_append (place_of s) y.added x.added (above_more (place_of s) (place_of t) y.added first y.grown.above) x.grown.above)
          (upto_append (place_of u) y.added x.added y.grown.upto (upto_more (place_of t) (place_of u) x.added second x.grown.upto));
      is = both old x.added y.added x.is (subst (λ (l : List Placed). Q l y.added) x.grown.grow y.is);
    }

-- ---- nothing after nothing

pub nothing_two : (old one two : List Placed) → AllNothing old one → AllNothing (one ++ old) two → AllNothing old (two ++ one)
nothing_two old one [] x y = x
nothing_two old one (p ∷ two) x y = (subst (λ (l : List Placed). deed (channel (entries l)) p.what ≡ Nothing) (sym (append_assoc two one old)) y.0, nothing_two old one two x y.1)

none_two : (f : Placed → Bool) (two one : List Placed) → list_any f two ≡ false → list_any f one ≡ false → list_any f (two ++ one) ≡ false
none_two f [] one x y = y
none_two f (p ∷ two) one x y = let h = or_parts (f p) (list_any f two) x in rw h.0 (none_two f two one h.1 y)

-- the request again, and the heartbeat
pub record TwoDue (again beat : Bool) (old added : List Placed) : Type 0 where
  pub nothing : AllNothing old added
  pub only_sends : list_any (λ (p : Placed). is_poll p.what.what) added ≡ false
  pub asks_no_end : list_any (λ (p : Placed). asks_to_end p.what) added ≡ false
  pub unsent : (again || beat) ≡ false → (added ≡ []) × (is_late (channel (entries old)) (newest_time (entries old)) ≡ false)
  pub sent : (again || beat) ≡ true → added ≢ []

some_two : (two one : List Placed) → one ≢ [] → two ++ one ≢ []
some_two [] one n h = n h
some_two (p ∷ two) one n h = absurd (cc)

dues_two : (again beat : Bool) (old one two : List Placed) → Dues (Ok again) old one → Dues (Ok beat) (one ++ old) two → TwoDue again beat old (two ++ one)
dues_two true true old one two x y = record {
  nothing = nothing_two old one two x.nothing y.nothing;
  only_sends = none_two _ two one y.only_sends x.only_sends;
  asks_no_end = none_two _ two one y.asks_no_end x.asks_no_end;
  unsent = λ h. absurd (cc);
  sent = λ h. (some_two two one x.some);
}
dues_two true false old one two x y = rw y.none (record { nothing = x.nothing; only_sends = x.only_sends; asks_no_end = x.asks_no_end; unsent = λ h. absurd (cc); sent = λ h. x.some })
dues_two false true old one two x y =
    let none : (one ≡ []) = x.none in
    let z : DuesOne old two = subst (λ (l : List Placed). DuesOne (l ++ old) two) none y in
    rw none (subst (λ (l : List Placed). TwoDue false true old l) (two_nil two) (record { nothing = z.nothing; only_sends = z.only_sends; asks_no_end = z.asks_no_end; unsent = λ h. absurd (cc); sent = λ h. z.some }))
  where
    two_nil : (l : List Placed) → l ≡ l ++ []
    two_nil [] = refl
    two_nil (p ∷ l) = ap (λ (m : List Placed). p ∷ m) (two_nil l)
dues_two false false old one two x y = rw (y.none, x.none) (record { nothing = tt; only_sends = refl; asks_no_end = refl; unsent = λ h. (refl, x.in_time); sent = λ h. absurd (cc) })

-- ---- all of it

as_err : (answer : Result Bool HubFault) (fault : HubFault) → answer ≡ Err fault → (s t : Story) → Growing AllNothing s t → Growing (Acts answer) s t
as_err answer fault e s t = grows_as AllNothing (Acts answer) s t (λ old added h. subst (λ (a : Result Bool HubFault). Acts a old added) (sym e) h)

as_dues : (s t : Story) (r q : Result Bool HubFault) → r ≡ q → Growing (Dues r) s t → Growing (Dues q) s t
as_dues s t r q e x = subst (λ (a : Result Bool HubFault). Growing (Dues a) s t) e x

pub act_first : (s t : Story) (answer : Result Bool HubFault) (fault : HubFault) → answer ≡ Err fault → (again : Result Bool HubFault) → again ≡ Err fault → Growing (Dues again) s t → Growing (Acts answer) s t
act_first s t answer fault e again q f = as_err answer fault e s t (as_dues s t again (Err fault) q f)

module _ (s t u : Story) (r1 r2 : Result Bool HubFault) (g : GoesOn s t) (h : GoesOn t u) (f : Growing (Dues r1) s t) (d : Growing (Dues r2) t u) where
  nothing_of : (b : Bool) (old added : List Placed) → Dues (Ok b) old added → AllNothing old added
  nothing_of true old added x = x.nothing
  nothing_of false old added x = rw x.none tt

  pub act_second : (answer : Result Bool HubFault) (fault : HubFault) → answer ≡ Err fault → (again : Bool) → r1 ≡ Ok again → r2 ≡ Err fault → Growing (Acts answer) s u
  act_second answer fault e again p q =
      as_err answer fault e s u (grows_then (Dues (Ok again)) (Dues (Err fault)) AllNothing s t u g h (λ old one two x y. (nothing_two old one two (nothing_of again old one x) y))
      (as_dues s t r1 (Ok again) p f) (as_dues t u r2 (Err fault) q d))

  pub act_all : (again beat sent : Bool) → r1 ≡ Ok again → r2 ≡ Ok beat → sent ≡ (again || beat) → Growing (Acts (Ok sent)) s u
  act_all again beat sent p q e =
      rw e (grows_then (Dues (Ok again)) (Dues (Ok beat)) (Acts (Ok (again || beat))) s t u g h
      (λ old one two x y. (let due = dues_two again beat old one two x y in (due.nothing, record { unsent = due.unsent; sent = due.sent; only_sends = due.only_sends; asks_no_end = due.asks_no_end })))
      (as_dues s t r1 (Ok again) p f) (as_dues t u r2 (Ok beat) q d))
