-- Octets are read as one frame, and what is read breaks no rule.
use Rattle.std.proofs.Common.{◌≡◌, ℕ, ◌+◌, List, refl, arith, ap, sym, ◌∙◌}
use Rattle.std.specs.Prelude.{IfOk, IfErr, Result, Ok, Err, drop, slice_index}
use Rattle.std.proofs.lemmas.Grind.{common_steps}
use Rattle.knx_model.specs.declared.frames.cemi.Ldata.{Ldata}
use Rattle.knx_model.specs.declared.frames.cemi.LdataCode.{LdataCode}
use Rattle.knx_model.specs.declared.frames.cemi.LdataCode.TheVariants.{Req, Con, Ind}
use Rattle.knx_model.specs.declared.frames.cemi.CemiRefused.{CemiRefused}
use Rattle.knx_model.specs.declared.frames.cemi.CemiRefused.TheVariants.{Short, Code, Extended, Length, Long}
use Rattle.knx_model.specs.Cemi.{Reads, ReadsBody, code_octet, Breaks, IsLeastBroken}

code_once : (a b : LdataCode) → code_octet a ≡ code_octet b → a ≡ b
code_once Req Req e = refl
code_once Req Con e = absurd (omega arith)
code_once Req Ind e = absurd (omega arith)
code_once Con Req e = absurd (omega arith)
code_once Con Con e = refl
code_once Con Ind e = absurd (omega arith)
code_once Ind Req e = absurd (omega arith)
code_once Ind Con e = absurd (omega arith)
code_once Ind Ind e = refl

-- frames of equal fields are equal
same_frame : (a b : Ldata) → a.code ≡ b.code → a.error ≡ b.error → a.group ≡ b.group → a.priority ≡ b.priority → a.hops ≡ b.hops → a.source ≡ b.source → a.destination ≡ b.destination → a.tpdu ≡ b.tpdu → a ≡ b
same_frame a b code error group priority hops source destination tpdu = λ i. record { code = code i; error = error i; group = group i; priority = priority i; hops = hops i; source = source i; destination = destination i; tpdu = tpdu i }

body_once : (first : ℕ) (body : List ℕ) (a b : Ldata) → ReadsBody first body a → ReadsBody first body b → a ≡ b
body_once first body a b p q =
    same_frame a b (code_once a.code b.code (sym p.code ∙ q.code)) (p.error ∙ sym q.error) (p.group ∙ sym q.group) (p.priority ∙ sym q.priority) (p.hops ∙ sym q.hops) (p.source ∙ sym q.source) (p.destination ∙ sym q.destination) (p.tpdu ∙ sym q.tpdu)

pub reads_once : (octets : List ℕ) (a b : Ldata) → Reads octets a → Reads octets b → a ≡ b
reads_once octets a b p q = body_once (slice_index octets 0) (drop (2 + slice_index octets 1) octets) a b p.body q.body

pub reads_breaks : (octets : List ℕ) (why : CemiRefused) (frame : Ldata) → Reads octets frame → Breaks why octets → ⊥
reads_breaks octets Short frame p h = grind (arith, p.long)
reads_breaks octets Code frame p h = grind (arith, common_steps, p.body)
reads_breaks octets Extended frame p h = grind (arith, common_steps, p.body.format)
reads_breaks octets Length frame p h = grind (arith, common_steps, p.long, p.body.length_octet, p.body.short, p.body.tpdu)
reads_breaks octets Long frame p h = grind (arith, common_steps, p.body.length_octet, p.body.fits)

pub only_frame : (octets : List ℕ) (r : Result Ldata CemiRefused) → IfOk r (λ f. Reads octets f) → IfErr r (λ why. IsLeastBroken why octets) → (frame : Ldata) → Reads octets frame → r ≡ Ok frame
only_frame octets (Ok f) ok err frame p = ap Ok (reads_once octets f frame ok p)
only_frame octets (Err why) ok err frame p = absurd (reads_breaks octets why frame p err.broken)
