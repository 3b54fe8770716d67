-- What is found with one datagram more.
use Rattle.std.proofs.Common.{◌≡◌, ℕ, ◌<◌, ◌≤◌, List, [], ◌∷◌, ◌++◌, length, append_assoc, arith}
use Rattle.std.specs.Prelude.{Contains}
use Rattle.std.proofs.lemmas.List.{append-nil, length-append}
use Rattle.discovery.specs.declared.about.About.{About}
use Rattle.discovery.specs.declared.inquiry.Inquiry.{Inquiry}
use Rattle.discovery.specs.Finding.{Tells, TellsNothing, TellAll, NoMore, One, Other, Firsts, Ended, First, Again, Full, Finds, most_found}

-- ---- what is told

tells_more : {inquiry : Inquiry} {datagrams : List (List ℕ)} {told : List About} (octets : List ℕ) (about : About) → TellAll inquiry datagrams told → Tells inquiry octets about
    → TellAll inquiry (datagrams ++ octets ∷ []) (told ++ about ∷ [])
tells_more octets about NoMore h = One h NoMore
tells_more octets about (One t others) h = One t (tells_more octets about others h)
tells_more octets about (Other t others) h = Other t (tells_more octets about others h)

tells_no_more : {inquiry : Inquiry} {datagrams : List (List ℕ)} {told : List About} (octets : List ℕ) → TellAll inquiry datagrams told → TellsNothing inquiry octets
    → TellAll inquiry (datagrams ++ octets ∷ []) told
tells_no_more octets NoMore h = Other h NoMore
tells_no_more octets (One t others) h = One t (tells_no_more octets others h)
tells_no_more octets (Other t others) h = Other t (tells_no_more octets others h)

-- ---- which are told first

behind : (before firsts : List About) (a : About) → (before ++ a ∷ []) ++ firsts ≡ before ++ (a ∷ firsts)
behind before firsts a = append_assoc before (a ∷ []) firsts

first_more : {before told firsts : List About} (about : About) → Firsts before told firsts → length (before ++ firsts) < most_found → ¬ Contains (before ++ firsts) about
    → Firsts before (told ++ about ∷ []) (firsts ++ about ∷ [])
first_more {before} about Ended few h = First (rw (append-nil before) at few) (λ c. h (rw (append-nil before) c)) Ended
first_more {before} about (First {about = a} {firsts = fs} room n others) few h = First room n (first_more about others (rw (behind before fs a) few) (λ c. h (rw (behind before fs a) at c)))
first_more about (Again c others) few h = Again c (first_more about others few h)
first_more {before} about (Full full) few h = absurd (let m = length-append before [] in omega arith)

again_more : {before told firsts : List About} (about : About) → Firsts before told firsts → Contains (before ++ firsts) about → Firsts before (told ++ about ∷ []) firsts
again_more {before} about Ended h = Again (rw (append-nil before) at h) Ended
again_more {before} about (First {about = a} {firsts = fs} room n others) h = First room n (again_more about others (rw (behind before fs a) h))
again_more about (Again c others) h = Again c (again_more about others h)
again_more about (Full full) h = Full full

full_more : {before told firsts : List About} (about : About) → Firsts before told firsts → most_found ≤ length (before ++ firsts) → Firsts before (told ++ about ∷ []) firsts
full_more {before} about Ended full = Full (rw (append-nil before) at full)
full_more {before} about (First {about = a} {firsts = fs} room n others) full = First room n (full_more about others (rw (behind before fs a) full))
full_more about (Again c others) full = Again c (full_more about others full)
full_more about (Full f) full = Full f

-- ---- one datagram more

pub finds_no_more : (inquiry : Inquiry) (octets : List ℕ) (datagrams : List (List ℕ)) (found : List About) → TellsNothing inquiry octets → Finds inquiry datagrams found → Finds inquiry (datagrams ++ octets ∷ []) found
finds_no_more inquiry octets datagrams found h f = record { told = f.told; tell = tells_no_more octets f.tell h; firsts = f.firsts }

module _ (inquiry : Inquiry) (octets : List ℕ) (about : About) (t : Tells inquiry octets about) (datagrams : List (List ℕ)) (found : List About) (f : Finds inquiry datagrams found) where
  -- it is new, and there is room
  pub finds_added : length found < most_found → ¬ Contains found about → Finds inquiry (datagrams ++ octets ∷ []) (found ++ about ∷ [])
  finds_added few new = record { told = f.told ++ about ∷ []; tell = tells_more octets about f.tell t; firsts = first_more about f.firsts few new }

  -- it was found before
  pub finds_again : Contains found about → Finds inquiry (datagrams ++ octets ∷ []) found
  finds_again old = record { told = f.told ++ about ∷ []; tell = tells_more octets about f.tell t; firsts = again_more about f.firsts old }

  -- there is no room
  pub finds_full : most_found ≤ length found → Finds inquiry (datagrams ++ octets ∷ []) found
  finds_full full = record { told = f.told ++ about ∷ []; tell = tells_more octets about f.tell t; firsts = full_more about f.firsts full }
