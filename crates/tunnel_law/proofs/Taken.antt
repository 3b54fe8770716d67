-- The client gets a datagram.
use Rattle.std.proofs.Common.{◌≡◌, ℕ, ◌-◌, ◌%◌, ◌<◌, List, ◌∷◌, length, Option, Some, None, refl, sym, ◌∙◌, subst, inl, inr}
use Rattle.std.specs.Prelude.{slice_get, take}
use Rattle.knx_model.specs.declared.frames.ip.IpFrame.{IpFrame}
use Rattle.knx_model.specs.declared.frames.ip.IpFrame.TheVariants.{TunnellingRequest}
use Rattle.line_model.specs.Network.{Sent}
use Rattle.line_model.specs.Gateway.{Channel, number_of}
use Rattle.line_model.specs.Record.{Got, entry}
use Rattle.line_model.specs.ActedOnce.{Has, in_channel}
use Rattle.tunnel_law.proofs.Numbers.{Near}
use Rattle.tunnel_law.proofs.Read.{seen_of}
use Rattle.tunnel_law.proofs.Inside.{near_in}
use Rattle.tunnel_law.proofs.Fits.{Book, book_after, IsTell}
use Rattle.tunnel_law.proofs.Down.{ReqIs, NotReq, IsThis, request_this}
use Rattle.tunnel_law.proofs.Mirror.{Ends, Dn}
use Rattle.tunnel_law.proofs.Gets.{Asked}
use Rattle.tunnel_law.proofs.Books.{EndsOf, NextOf, got_by}

this_is : (g : Option IpFrame) (c n m a : ℕ) (p q : List ℕ) → IsThis c n q g → g ≡ Some (TunnellingRequest m a p) → Some (TunnellingRequest m a p) ≡ Some (TunnellingRequest c n q)
this_is g c n m a p q (inl none) is = absurd (let h : None ≡ Some (TunnellingRequest m a p) = sym none ∙ is in cc)
this_is g c n m a p q (inr some) is = sym is ∙ some

asked_near : (makers : List ℕ) (puts : List (ℕ × List ℕ)) (k e d c n : ℕ) (p : List ℕ) (s : Sent) → s.endpoint ≡ e → Near (ReqIs makers puts k) (length (in_channel k puts)) d s → seen_of s.octets ≡ Some (TunnellingRequest c n p) → Asked makers puts e d c n p
asked_near makers puts k e d c n p s to near is =
    let this : IsThis (number_of k) (near.place % 256) near.is.content (seen_of s.octets)
    = subst (λ o. IsThis (number_of k) (near.place % 256) near.is.content (seen_of o)) (sym near.is.is) (request_this (number_of k) (near.place % 256) near.is.content) in
    let same : Some (TunnellingRequest c n p) ≡ Some (TunnellingRequest (number_of k) (near.place % 256) near.is.content) = this_is (seen_of s.octets) (number_of k) (near.place % 256) c n p near.is.content this is in
    record {
      k = k;
      octets = s.octets;
      made = s.made;
      near = record { place = near.place; below = near.below; close = near.close; is = record { content = near.is.content; is = near.is.is; place = near.is.place; maker = subst (λ z. Has makers k z) to near.is.maker; put = near.is.put } };
      channel = cc;
      number = cc;
      content = cc;
    }

module _ (b : Book) (rest : List Book) (up down : List Sent) (makers : List ℕ) (channel : Option Channel) (puts : List (ℕ × List ℕ)) (dn : Dn (b ∷ rest) up down makers channel puts)
    (unique : (j k : ℕ) → Has makers j (length rest) → Has makers k (length rest) → number_of j ≡ number_of k → j ≡ k)
    (d now : ℕ) (s : Sent) (at : slice_get down d ≡ Some s) (young : d < 128) (to : s.endpoint ≡ length rest) where
  pub next : NextOf up makers channel puts (length rest) b (entry (Got (take 512 s.octets)) now)
  next =
      got_by up makers channel puts (length rest) d young unique (take 512 s.octets) now
      (λ c n p is. elim (near_in (ReqIs makers puts (s.made - 1)) (NotReq (s.made - 1)) (dn.requests (s.made - 1)) d s at) [
        | inl near ↦ asked_near makers puts (s.made - 1) (length rest) d c n p s to near is
        | inr other ↦ absurd (other (subst IsTell (sym is) tt) refl)
      ])
      b.view b.state (dn.ends (length rest) b (inl (refl, refl)))

  got_ends : (e : ℕ) (x : Book) → Has (book_after b (entry (Got (take 512 s.octets)) now) ∷ rest) e x → Ends up makers channel puts e x.view.number x.view.takes x.state
  got_ends e x (inl q) =
      let P : ℕ → Type 0 = λ a. EndsOf up makers channel puts a (book_after b (entry (Got (take 512 s.octets)) now)) in
      subst (λ y. EndsOf up makers channel puts e y) q.1 (subst P (sym q.0) next.0)
  got_ends e x (inr q) = dn.ends e x (inr q)

  pub dn_got : Dn (book_after b (entry (Got (take 512 s.octets)) now) ∷ rest) up down makers channel puts
  dn_got = record { requests = dn.requests; ends = got_ends; unmade = dn.unmade }
