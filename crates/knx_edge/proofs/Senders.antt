-- Datagrams of others are passed over, one by one.
use Rattle.std.proofs.Common.{◌≡◌, ℕ, List, [], ◌∷◌, ◌++◌, Option, None, Some, refl, sym, subst, ◌∙◌}
use Rattle.std.specs.List.{AllByRecursion}
use Rattle.std.specs.declared.net.socket_addr.SocketAddr.{SocketAddr}
use Rattle.std.proofs.lemmas.List.{append_assoc}
use Rattle.knx_edge.specs.declared.socket.Senders.{Senders}
use Rattle.knx_edge.specs.Datagrams.{Datagram, Brings, IsOf, PassesOver}

-- none yet
pub none : (senders : Senders) (a : Option (List Datagram)) → PassesOver senders a a
none senders None = refl
none senders (Some coming) = ([], coming, refl, tt, refl)

-- nothing is brought
pub quiet : (into : List ℕ) (a : Option (List Datagram)) → Brings None into a a
quiet into None = refl
quiet into (Some coming) = refl

one_behind : (P : Datagram → Type 0) (others : List Datagram) (first : Datagram) → AllByRecursion P others → P first → AllByRecursion P (others ++ first ∷ [])
one_behind P [] first all p = (p, tt)
one_behind P (other ∷ others) first (q, all) p = (q, one_behind P others first all p)

behind : (senders : Senders) (n : ℕ) (from : SocketAddr) (into : List ℕ) (coming others rest : List Datagram) (c : Option (List Datagram)) → coming ≡ others ++ rest
    → AllByRecursion (λ other. IsOf senders other.peer → ⊥) others → Brings (Some (n, from)) into (Some rest) c → (IsOf senders from → ⊥) → PassesOver senders (Some coming) c
behind senders n from into coming others [] c same all brings another = absurd brings
behind senders n from into coming others (first ∷ rest) c same all (octets, peer, after) another = (
  others ++ first ∷ [],
  rest,
  same ∙ sym (append_assoc others (first ∷ []) rest),
  one_behind (λ other. IsOf senders other.peer → ⊥) others first all (subst (λ x. IsOf senders x → ⊥) peer another),
  after,
)

-- one more
pub more : (senders : Senders) (n : ℕ) (from : SocketAddr) (into : List ℕ) (a b c : Option (List Datagram)) → PassesOver senders a b → Brings (Some (n, from)) into b c → (IsOf senders from → ⊥)
    → PassesOver senders a c
more senders n from into None b c passed brings another = rw passed at brings
more senders n from into (Some coming) b c (others, rest, same, all, there) brings another = behind senders n from into coming others rest c same all (rw there at brings) another
