-- What a datagram adds to what was found.
use Rattle.std.proofs.Common.{◌≡◌, ℕ, ◌<◌, ◌≤◌, List, [], ◌∷◌, ◌++◌, length, refl, sym, ap, ◌∙◌, subst, arith}
use Rattle.std.specs.Prelude.{Contains}
use Rattle.discovery.specs.declared.about.About.{About}
use Rattle.discovery.specs.declared.inquiry.Inquiry.{Inquiry}
use Rattle.discovery.specs.declared.inquiry.Inquiry.TheVariants.{Search, Description}
use Rattle.discovery.specs.declared.find_frame.FindFrame.TheVariants.{SearchResponse, DescriptionResponse}
use Rattle.discovery.specs.Finding.{Tells, TellAll, NoMore, One, Other, Firsts, Ended, First, Again, Full, Finds, Adds, most_found}
use Rattle.discovery.proofs.Once.{reads_once}

search_once : (a b : About) → SearchResponse a ≡ SearchResponse b → a ≡ b
search_once a b e = cc

description_once : (a b : About) → DescriptionResponse a ≡ DescriptionResponse b → a ≡ b
description_once a b e = cc

-- octets tell of one gateway
pub tells_once : (inquiry : Inquiry) (octets : List ℕ) (a b : About) → Tells inquiry octets a → Tells inquiry octets b → a ≡ b
tells_once Search octets a b s t = search_once a b (reads_once octets (SearchResponse a) (SearchResponse b) s t)
tells_once Description octets a b s t = description_once a b (reads_once octets (DescriptionResponse a) (DescriptionResponse b) s t)

module _ (inquiry : Inquiry) (octets : List ℕ) (about : About) (t : Tells inquiry octets about) (old : List About) where
  pub adds_new : (new : List About) → length old < most_found → ¬ Contains old about → new ≡ old ++ about ∷ [] → Adds inquiry octets old new
  adds_new new few n e = record {
    adds = λ other told _ _. e ∙ ap (λ (a : About). old ++ a ∷ []) (tells_once inquiry octets about other t told);
    again = λ other told c. absurd (n (subst (Contains old) (tells_once inquiry octets other about told t) c));
    full = λ full. absurd (omega arith);
    other = λ none. absurd (none about t);
  }

  pub adds_again : Contains old about → Adds inquiry octets old old
  adds_again c = record {
    adds = λ other told n _. absurd (n (subst (Contains old) (tells_once inquiry octets about other t told) c));
    again = λ other told _. refl;
    full = λ _. refl;
    other = λ _. refl;
  }

  pub adds_full : most_found ≤ length old → Adds inquiry octets old old
  adds_full full = record { adds = λ other told n few. absurd (omega arith); again = λ other told _. refl; full = λ _. refl; other = λ _. refl }

-- ---- datagrams tell one list, of which one is found

told_once : {inquiry : Inquiry} {datagrams : List (List ℕ)} {a b : List About} → TellAll inquiry datagrams a → TellAll inquiry datagrams b → a ≡ b
told_once NoMore NoMore = refl
told_once {inquiry} (One {octets = o} {about = x} s more) (One {about = y} t more') =
    let same = tells_once inquiry o x y s t in
    let rest = told_once more more' in
    λ i. same i ∷ rest i
told_once (One {about = x} s more) (Other n more') = absurd (n x s)
told_once (Other n more) (One {about = y} t more') = absurd (n y t)
told_once (Other n more) (Other m more') = told_once more more'

firsts_once : {before told a b : List About} → Firsts before told a → Firsts before told b → a ≡ b
firsts_once Ended Ended = refl
firsts_once Ended (Full g) = refl
firsts_once (First {about = x} room n more) (First room' n' more') = ap (λ (l : List About). x ∷ l) (firsts_once more more')
firsts_once (First room n more) (Again c more') = absurd (n c)
firsts_once (First room n more) (Full g) = absurd (omega arith)
firsts_once (Again c more) (First room n more') = absurd (n c)
firsts_once (Again c more) (Again d more') = firsts_once more more'
firsts_once (Again c more) (Full g) = firsts_once more (Full g)
firsts_once (Full f) Ended = refl
firsts_once (Full f) (First room n more) = absurd (omega arith)
firsts_once (Full f) (Again c more) = firsts_once (Full f) more
firsts_once (Full f) (Full g) = refl

pub finds_once : (inquiry : Inquiry) (datagrams : List (List ℕ)) (a b : List About) → Finds inquiry datagrams a → Finds inquiry datagrams b → a ≡ b
finds_once inquiry datagrams a b f g =
    let same : f.told ≡ g.told = told_once f.tell g.tell in
    firsts_once f.firsts (subst (λ (l : List About). Firsts [] l b) (sym same) g.firsts)
