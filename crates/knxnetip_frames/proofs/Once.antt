-- Octets are read as one frame, and what is read breaks no rule.
use Rattle.std.proofs.Common.{◌≡◌, ℕ, List, refl, ap, sym, ◌∙◌, Option, Some, None, arith}
use Rattle.std.specs.Prelude.{IfOk, IfErr, Result, Ok, Err, drop, slice_index}
use Rattle.std.proofs.lemmas.Grind.{common_steps}
use Rattle.knx_model.specs.declared.address.IndAddr.{IndAddr}
use Rattle.knx_model.specs.declared.frames.ip.IpFrame.{IpFrame}
use Rattle.knx_model.specs.declared.frames.ip.IpRefused.{IpRefused}
use Rattle.knx_model.specs.declared.frames.ip.IpRefused.TheVariants.{Header, Service, Length, Body}
use Rattle.knx_model.specs.Octets.{word_at}
use Rattle.knx_model.specs.KnxNetIp.{Reads, ReadsBody, IsTunnel, HasTunnel, IsBody, IsService, Breaks, IsLeastBroken}

address_once : (a b : IndAddr) (n : ℕ) → a.raw ≡ n → b.raw ≡ n → a ≡ b
address_once a b n p q = λ i. record { raw = (p ∙ sym q) i }

tunnel_once : (body : List ℕ) (a b : Option IndAddr) → IsTunnel body a → IsTunnel body b → a ≡ b
tunnel_once body None None p q = refl
tunnel_once body None (Some b) p q = absurd (p q.0)
tunnel_once body (Some a) None p q = absurd (q p.0)
tunnel_once body (Some a) (Some b) p q = ap Some (address_once a b (word_at body 12) p.2 q.2)

body_once : (service : ℕ) (body : List ℕ) (a b : IpFrame) → ReadsBody service body a → ReadsBody service body b → a ≡ b
body_once service body a b p q = grind (arith, common_steps, tunnel_once)

pub reads_once : (octets : List ℕ) (a b : IpFrame) → Reads octets a → Reads octets b → a ≡ b
reads_once octets a b p q = body_once (word_at octets 2) (drop 6 octets) a b p.body q.body

tunnel_is : (body : List ℕ) (a : Option IndAddr) → IsTunnel body a → slice_index body 1 ≡ 0 → HasTunnel body
tunnel_is body None p e = absurd (p e)
tunnel_is body (Some a) p e = p.1

body_service : (service : ℕ) (body : List ℕ) (a : IpFrame) → ReadsBody service body a → IsService service
body_service service body a p = grind (arith, common_steps)

body_is : (service : ℕ) (body : List ℕ) (a : IpFrame) → ReadsBody service body a → IsBody service body
body_is service body a p = grind (arith, common_steps, tunnel_is)

pub reads_breaks : (octets : List ℕ) (why : IpRefused) (frame : IpFrame) → Reads octets frame → Breaks why octets → ⊥
reads_breaks octets Header frame p h = h p.header
reads_breaks octets Service frame p h = h (body_service _ _ frame p.body)
reads_breaks octets Length frame p h = h p.total
reads_breaks octets Body frame p h = h (body_is _ _ frame p.body)

pub only_frame : (octets : List ℕ) (r : Result IpFrame IpRefused) → IfOk r (λ f. Reads octets f) → IfErr r (λ why. IsLeastBroken why octets) → (frame : IpFrame) → Reads octets frame → r ≡ Ok frame
only_frame octets (Ok f) ok err frame p = ap Ok (reads_once octets f frame ok p)
only_frame octets (Err why) ok err frame p = absurd (reads_breaks octets why frame p err.broken)
