-- What the client sends keeps the invariant.
use Rattle.std.proofs.Common.{◌≡◌, ℕ, suc, ◌+◌, ◌%◌, ◌≤◌, ◌⊎◌, List, [], ◌∷◌, length, cond, Option, Some, None, refl, sym, ◌∙◌, ap, subst, arith, inl, inr}
use Rattle.knx_model.specs.declared.frames.ip.IpFrame.{IpFrame}
use Rattle.knx_model.specs.declared.frames.ip.IpFrame.TheVariants.{ConnectRequest, TunnellingRequest}
use Rattle.line_model.specs.Reading.{request_in, datagram_in}
use Rattle.line_model.specs.Network.{Sent, new_datagram}
use Rattle.line_model.specs.Gateway.{number_of}
use Rattle.line_model.specs.ChannelLost.{is_none}
use Rattle.line_model.specs.ClientView.{Puts, Nothing, or_takes, and_puts}
use Rattle.line_model.specs.ActedOnce.{Has, in_channel}
use Rattle.tunnel_law.proofs.Inside.{Next, Other, inside_map, again_at, Every}
use Rattle.tunnel_law.proofs.Fits.{IsAsk, IsTell, TellIs, NotTell, AskIs, Member, BookFits, LastIs, IsUp, content_in, cemi_in}

-- a datagram that is neither a request nor a connect request
pub other_fits : (up : List Sent) (makers : List ℕ) (acted : List (ℕ × List ℕ)) (e : ℕ) (joined : Option ℕ) (puts : List (List ℕ)) (asked : Option ℕ) (octets : List ℕ) (from made : ℕ)
    → (IsTell (datagram_in octets) → from ≡ e → ⊥) → (IsAsk (datagram_in octets) → from ≡ e → ⊥)
    → BookFits up makers acted e joined puts asked → BookFits (new_datagram octets from made ∷ up) makers acted e joined puts asked
other_fits up makers acted e joined puts asked octets from made t a old =
    record { tells = Other t old.tells; asks = ((λ i f. absurd (a i f)), old.asks); range = old.range; member = old.member; alone = old.alone }

-- a connect request
pub ask_fits : (up : List Sent) (makers : List ℕ) (acted : List (ℕ × List ℕ)) (e : ℕ) (joined : Option ℕ) (puts : List (List ℕ)) (asked : Option ℕ) (octets : List ℕ) (made : ℕ)
    → datagram_in octets ≡ Some ConnectRequest → asked ≡ None
    → BookFits up makers acted e joined puts asked → BookFits (new_datagram octets e made ∷ up) makers acted e joined puts (Some made)
ask_fits up makers acted e joined puts (Some a) octets made is none old = absurd (cc)
ask_fits up makers acted e joined puts None octets made is none old =
    record {
      tells = Other (λ t f. subst IsTell is t) old.tells;
      asks = ((λ i f. refl), every_none up old.asks);
      range = λ k h. absurd (old.range k h);
      member = old.member;
      alone = old.alone;
    }
  where
    every_none : (l : List Sent) → Every (AskIs e None) l → Every (AskIs e (Some made)) l
    every_none [] h = tt
    every_none (s ∷ l) h = ((λ i f. absurd (let g : None ≡ Some s.made = h.0 i f in cc)), every_none l h.1)

-- a request
module _ (up : List Sent) (makers : List ℕ) (acted : List (ℕ × List ℕ)) (e : ℕ) (octets : List ℕ) (made now c : ℕ) (p : List ℕ) where
  content_is : (number : ℕ) → datagram_in octets ≡ Some (TunnellingRequest c number p) → content_in (Some octets) ≡ Some p
  content_is number is = ap (λ (g : Option IpFrame). cemi_in (request_in g)) is

  pub tell_fits : (joined asked : Option ℕ) (puts : List (List ℕ)) (number : ℕ) (sent : List ℕ) (last : Option (List ℕ))
      → datagram_in octets ≡ Some (TunnellingRequest c number p) → (sent ≡ []) ⊎ (last ≡ Some octets)
      → BookFits up makers acted e joined puts asked → IsUp acted joined puts c number sent (content_in last)
      → BookFits (new_datagram octets e made ∷ up) makers acted e joined (and_puts (or_takes (cond (is_none sent) (Puts p) Nothing) Nothing) puts) asked
      × IsUp acted joined (and_puts (or_takes (cond (is_none sent) (Puts p) Nothing) Nothing) puts) c number (now ∷ sent) (content_in (cond (is_none sent) (Some octets) last))
  tell_fits None asked puts number sent last is content old u = absurd (let h : None ≡ Some u.place = u.joined_is in cc)
  tell_fits (Some j) asked puts number [] last is content old u =
      let at : j ≡ u.place = (let h : Some j ≡ Some u.place = u.joined_is in cc) in
      let m : Member makers acted e j puts = old.member in
      let len : length puts ≡ u.done = u.last_is in
      let told : u.done ≤ length (in_channel j acted) = subst (λ z. u.done ≤ length (in_channel z acted)) (sym at) u.told in (
        record {
          tells = Next (record { channel = c; content = p; is = is ∙ ap (λ x. Some (TunnellingRequest c x p)) (u.number_is ∙ ap (λ x. x % 256) (sym len)); sender = refl; to_joined = u.numbered ∙ ap number_of (sym at); put = inl (refl, refl) })
              (inside_map (TellIs e (Some j) puts) (TellIs e (Some j) (p ∷ puts)) (NotTell e) (λ a s g. record { channel = g.channel; content = g.content; is = g.is; sender = g.sender; to_joined = g.to_joined; put = inr g.put }) old.tells);
          asks = ((λ i f. absurd (subst IsAsk is i)), old.asks);
          range = old.range;
          member = record { maker = m.maker; tail = (p ∷ m.tail.0, ap (λ l. p ∷ l) m.tail.1); one = omega arith };
          alone = old.alone;
        },
        record { place = u.place; joined_is = u.joined_is; numbered = u.numbered; done = u.done; number_is = u.number_is; told = u.told; last_is = record { newest = p; older = puts; is = content_is number is; puts_are = refl; count = len } },
      )
  tell_fits (Some j) asked puts number (t ∷ ts) last is (inl none) old u = absurd (cc)
  tell_fits (Some j) asked puts number (t ∷ ts) last is (inr same) old u =
      let at : j ≡ u.place = (let h : Some j ≡ Some u.place = u.joined_is in cc) in
      let li : LastIs (content_in last) puts u.done = u.last_is in
      let p_is : li.newest ≡ p = (let h : Some li.newest ≡ Some p = sym li.is ∙ ap content_in same ∙ content_is number is in cc) in
      let count : length li.older ≡ u.done = li.count in
      let len : u.done + 1 ≡ length puts = (let h : length puts ≡ suc (length li.older) = ap (λ l. length l) li.puts_are in omega arith) in (
        record {
          tells = again_at (TellIs e (Some j) puts) (NotTell e) up (new_datagram octets e made) u.done (length puts) len
              (record {
                channel = c;
                content = p;
                is = is ∙ ap (λ x. Some (TunnellingRequest c x p)) u.number_is;
                sender = refl;
                to_joined = u.numbered ∙ ap number_of (sym at);
                put = subst (λ l. Has l u.done p) (sym li.puts_are) (inl (sym count, p_is));
              })
              old.tells;
          asks = ((λ i f. absurd (subst IsAsk is i)), old.asks);
          range = old.range;
          member = old.member;
          alone = old.alone;
        },
        record { place = u.place; joined_is = u.joined_is; numbered = u.numbered; done = u.done; number_is = u.number_is; told = u.told; last_is = li },
      )
