-- The gateway puts a request, and repeats it.
use Rattle.std.proofs.Common.{◌≡◌, ℕ, suc, ◌+◌, ◌-◌, ◌%◌, List, ◌∷◌, length, Option, Some, None, refl, sym, ◌∙◌, ap, subst, arith, inl, inr}
use Rattle.std.proofs.lemmas.Bool.{ne_eqb, eqb-false}
use Rattle.knx_model.specs.declared.frames.ip.IpFrame.TheVariants.{TunnellingRequest}
use Rattle.knx_model.specs.KnxNetIp.{Written}
use Rattle.line_model.specs.Network.{Sent, new_datagram}
use Rattle.line_model.specs.Gateway.{Channel, Request, number_of}
use Rattle.line_model.specs.ActedOnce.{Has, in_channel}
use Rattle.tunnel_law.proofs.Inside.{CountedIn, Next, Other, inside_map, again_at}
use Rattle.tunnel_law.proofs.Fits.{Book}
use Rattle.tunnel_law.proofs.Acts.{acted_same, acted_other}
use Rattle.tunnel_law.proofs.Makes.{dec}
use Rattle.tunnel_law.proofs.Down.{ReqOf, ReqIs, NotReq, put_next}
use Rattle.tunnel_law.proofs.Mirror.{Gate, At, Ends, Dn, Names}

module _ (bs : List Book) (up down : List Sent) (makers : List ℕ) (c : Channel) (puts : List (ℕ × List ℕ)) (dn : Dn bs up down makers (Some c) puts) (nm : Names makers c) (made : ℕ) (made_is : made - 1 ≡ nm.k) where
  module _ (none : c.outstanding ≡ None) (r : Request) (own_is : c.own ≡ length (in_channel nm.k puts) % 256) where
    abbrev the : Sent
    the = new_datagram (Written (TunnellingRequest c.number c.own r.frame)) c.endpoint made

    abbrev now_put : List (ℕ × List ℕ)
    now_put = (nm.k, r.frame) ∷ puts

    put_requests : (k : ℕ) → CountedIn (ReqIs makers now_put k) (NotReq k) (the ∷ down) (length (in_channel k now_put))
    put_requests k =
        elim (dec nm.k k) [
          | inl k_is ↦
              (let same : in_channel nm.k now_put ≡ r.frame ∷ in_channel nm.k puts = acted_same nm.k r.frame puts in
              let P : List (List ℕ) → Type 0 = λ xs. CountedIn (λ a (s : Sent). ReqOf makers xs nm.k a s.octets s.made s.endpoint) (NotReq nm.k) (the ∷ down) (length xs) in
              let first : ReqOf makers (r.frame ∷ in_channel nm.k puts) nm.k (length (in_channel nm.k puts)) the.octets made c.endpoint
              = record { content = r.frame; is = ap (λ z. Written (TunnellingRequest z c.own r.frame)) nm.number ∙ ap (λ z. Written (TunnellingRequest (number_of nm.k) z r.frame)) own_is; place = made_is; maker = nm.maker; put = inl (refl, refl) } in
              let here : P (r.frame ∷ in_channel nm.k puts)
              = Next first (inside_map (ReqIs makers puts nm.k) (λ a (s : Sent). ReqOf makers (r.frame ∷ in_channel nm.k puts) nm.k a s.octets s.made s.endpoint) (NotReq nm.k)
              (λ a s g. record { content = g.content; is = g.is; place = g.place; maker = g.maker; put = inr g.put }) (dn.requests nm.k)) in
              let Q : ℕ → Type 0 = λ z. CountedIn (ReqIs makers now_put z) (NotReq z) (the ∷ down) (length (in_channel z now_put)) in
              subst Q k_is (subst P (sym same) here))
          | inr apart ↦
              (let same : in_channel k puts ≡ in_channel k now_put = sym (acted_other nm.k k r.frame puts apart) in
              let P : List (List ℕ) → Type 0 = λ xs. CountedIn (λ a (s : Sent). ReqOf makers xs k a s.octets s.made s.endpoint) (NotReq k) (the ∷ down) (length xs) in
              subst P same (Other (λ i f. eqb-false nm.k k apart (sym made_is ∙ f)) (dn.requests k)))
        ]

    put_at : (number : Option ℕ) (takes : List (List ℕ)) (acks k : ℕ) → At makers (Some c) number takes (in_channel k puts) k acks → At makers (Some (record c { outstanding = Some r })) number takes (in_channel k now_put) k acks
    put_at number takes acks k a =
        elim (dec nm.k k) [
          | inl k_is ↦
              (let same : r.frame ∷ in_channel k puts ≡ in_channel k now_put = subst (λ z. r.frame ∷ in_channel z puts ≡ in_channel z now_put) k_is (sym (acted_same nm.k r.frame puts)) in
              let newest : suc nm.k ≡ length makers = nm.newest in
              let last : suc k ≡ length makers = omega arith in
              let P : Option Request → Type 0 = λ o. Gate c.own o a.settled (in_channel k puts) in
              let g : (c.own ≡ a.settled % 256) × (length (in_channel k puts) ≡ a.settled) = subst P none (a.gate last) in
              let Q : List (List ℕ) → Type 0 = λ xs. At makers (Some (record c { outstanding = Some r })) number takes xs k acks in
              let len : length (in_channel k puts) ≡ a.settled = g.1 in
              let here : Q (r.frame ∷ in_channel k puts)
              = record {
                settled = a.settled;
                joined = λ j. put_next takes (in_channel k puts) acks a.settled r.frame (a.joined j) len;
                other = a.other;
                one = omega arith;
                gate = λ i. (g.0, (in_channel k puts, refl, len));
              } in
              subst Q same here)
          | inr apart ↦
              (let same : in_channel k puts ≡ in_channel k now_put = sym (acted_other nm.k k r.frame puts apart) in
              let Q : List (List ℕ) → Type 0 = λ xs. At makers (Some (record c { outstanding = Some r })) number takes xs k acks in
              let newest : suc nm.k ≡ length makers = nm.newest in
              let here : Q (in_channel k puts)
              = record { settled = a.settled; joined = a.joined; other = a.other; one = a.one; gate = λ i. absurd (eqb-false nm.k k apart (omega arith)) } in
              subst Q same here)
        ]

    pub dn_put : Dn bs up (the ∷ down) makers (Some (record c { outstanding = Some r })) now_put
    dn_put =
        let newest : suc nm.k ≡ length makers = nm.newest in
        record {
          requests = put_requests;
          ends = λ e b h. let n : Ends up makers (Some c) puts e b.view.number b.view.takes b.state = dn.ends e b h in
              record { acks = n.acks; sent = n.sent; acked = n.acked; owes = n.owes; none = n.none; each = λ k g. put_at b.view.number b.view.takes n.acks k (n.each k g); expects = n.expects };
          unmade = λ k le. acted_other nm.k k r.frame puts (ne_eqb nm.k k (λ q. omega arith)) ∙ dn.unmade k le;
        }

  -- the outstanding one again
  pub dn_repeat : (r r2 : Request) → c.outstanding ≡ Some r → r2.frame ≡ r.frame → (settled : ℕ) → Gate c.own (Some r) settled (in_channel nm.k puts)
      → Dn bs up (new_datagram (Written (TunnellingRequest c.number c.own r.frame)) c.endpoint made ∷ down) makers (Some (record c { outstanding = Some r2 })) puts
  dn_repeat r r2 out same settled g =
      let s : Sent = new_datagram (Written (TunnellingRequest c.number c.own r.frame)) c.endpoint made in
      let count : length g.1.0 ≡ settled = g.1.2 in
      let len : settled + 1 ≡ length (in_channel nm.k puts) = (let h : length (in_channel nm.k puts) ≡ suc (length g.1.0) = ap (λ l. length l) g.1.1 in omega arith) in
      let req : ReqIs makers puts nm.k settled s
      = record {
        content = r.frame;
        is = ap (λ z. Written (TunnellingRequest z c.own r.frame)) nm.number ∙ ap (λ z. Written (TunnellingRequest (number_of nm.k) z r.frame)) g.0;
        place = made_is;
        maker = nm.maker;
        put = subst (λ l. Has l settled r.frame) (sym g.1.1) (inl (sym count, refl));
      } in
      record {
        requests = λ k. elim (dec nm.k k) [
          | inl k_is ↦
              (let Q : ℕ → Type 0 = λ z. CountedIn (ReqIs makers puts z) (NotReq z) (s ∷ down) (length (in_channel z puts)) in
              subst Q k_is (again_at (ReqIs makers puts nm.k) (NotReq nm.k) down s settled (length (in_channel nm.k puts)) len req (dn.requests nm.k)))
          | inr apart ↦ Other (λ i f. eqb-false nm.k k apart (sym made_is ∙ f)) (dn.requests k)
        ];
        ends = λ e b h. let n : Ends up makers (Some c) puts e b.view.number b.view.takes b.state = dn.ends e b h in
            record {
              acks = n.acks;
              sent = n.sent;
              acked = n.acked;
              owes = n.owes;
              none = n.none;
              each = λ k m. (let a : At makers (Some c) b.view.number b.view.takes (in_channel k puts) k n.acks = n.each k m in
                  record {
                    settled = a.settled;
                    joined = a.joined;
                    other = a.other;
                    one = a.one;
                    gate = λ i. (let P : Option Request → Type 0 = λ o. Gate c.own o a.settled (in_channel k puts) in
                        let x : Gate c.own (Some r) a.settled (in_channel k puts) = subst P out (a.gate i) in
                        (x.0, (x.1.0, x.1.1 ∙ ap (λ z. z ∷ x.1.0) (sym same), x.1.2)));
                  });
              expects = n.expects;
            };
        unmade = dn.unmade;
      }
