-- The text of octets, from what they were read as.
use Rattle.std.proofs.Common.{◌≡◌, ℕ, List, [], ◌++◌, refl, ap, sym, subst, ◌∙◌, append_assoc, Result, Ok, Err, OnOk, inl, inr}
use Rattle.knx_model.specs.declared.frames.tpdu.Tpdu.{Tpdu}
use Rattle.knx_model.specs.declared.frames.tpdu.TpduRefused.{TpduRefused}
use Rattle.knx_model.specs.declared.frames.cemi.Ldata.{Ldata}
use Rattle.knx_model.specs.declared.frames.cemi.CemiRefused.{CemiRefused}
use Rattle.knx_model.specs.declared.frames.ip.IpFrame.{IpFrame}
use Rattle.knx_model.specs.declared.frames.ip.IpRefused.{IpRefused}
use Rattle.knx_model.specs.declared.frames.ip.IpFrame.TheVariants.{ConnectRequest, ConnectResponse, StateRequest, StateResponse, DisconnectRequest, DisconnectResponse, TunnellingRequest, TunnellingAck}
use Rattle.knx_model.specs.Apdu as tpdu
use Rattle.knx_model.specs.Cemi as cemi
use Rattle.knx_model.specs.KnxNetIp as ip
use Rattle.frame_text.specs.FrameText.{GrowsBy, tpdu_line, tpdu_refusal_line, cemi_line, cemi_refusal_line, ip_line, ip_refusal_line, IsTpduText, IsTextOfLdata, IsCemiText, IsTextOfIpFrame, IsTunnelText, IsRefusedText, IsFrameText}
use Rattle.frame_text.specs.GatewayText.{find_line}
use Rattle.discovery.specs.declared.find_frame.FindFrame.{FindFrame}
use Rattle.discovery.specs.Discovery as find

pub tpdu_read : {T E : Type 0} (r : Result T E) (octets old new : List ℕ) (frame : Tpdu) → tpdu.Reads octets frame → OnOk r (new ≡ old ++ tpdu_line frame) → OnOk r (GrowsBy (IsTpduText octets) old new)
unfolding IsTpduText
tpdu_read (Ok done) octets old new frame read e = (tpdu_line frame, inr (frame, read, refl), e)
tpdu_read (Err why) octets old new frame read e = e

pub tpdu_refused : {T E : Type 0} (r : Result T E) (octets old new : List ℕ) (why : TpduRefused) → tpdu.IsLeastBroken why octets → OnOk r (new ≡ old ++ tpdu_refusal_line why) → OnOk r (GrowsBy (IsTpduText octets) old new)
unfolding IsTpduText
tpdu_refused (Ok done) octets old new why least e = (tpdu_refusal_line why, inl (why, least, refl), e)
tpdu_refused (Err error) octets old new why least e = e

-- a line, and behind it a text
behind : (old first inner begun new : List ℕ) → begun ≡ old ++ first → new ≡ begun ++ inner → new ≡ old ++ (first ++ inner)
behind old first inner begun new b n = n ∙ (ap (λ (l : List ℕ). l ++ inner) b ∙ append_assoc old first inner)

pub ldata_put : {T E : Type 0} (r : Result T E) (frame : Ldata) (old begun new : List ℕ) → begun ≡ old ++ cemi_line frame → OnOk r (GrowsBy (IsTpduText frame.tpdu) begun new) → OnOk r (GrowsBy (IsTextOfLdata frame) old new)
ldata_put (Ok done) frame old begun new b g = (cemi_line frame ++ g.0, (g.0, g.1, refl), behind old (cemi_line frame) g.0 begun new b g.2)
ldata_put (Err why) frame old begun new b g = g

pub cemi_read : {T E : Type 0} (r : Result T E) (octets old new : List ℕ) (frame : Ldata) → cemi.Reads octets frame → OnOk r (GrowsBy (IsTextOfLdata frame) old new) → OnOk r (GrowsBy (IsCemiText octets) old new)
unfolding IsCemiText
cemi_read (Ok done) octets old new frame read g = (g.0, inr (frame, read, g.1), g.2)
cemi_read (Err why) octets old new frame read g = g

pub cemi_refused : {T E : Type 0} (r : Result T E) (octets old new : List ℕ) (why : CemiRefused) → cemi.IsLeastBroken why octets → OnOk r (new ≡ old ++ cemi_refusal_line why) → OnOk r (GrowsBy (IsCemiText octets) old new)
unfolding IsCemiText
cemi_refused (Ok done) octets old new why least e = (cemi_refusal_line why, inl (why, least, refl), e)
cemi_refused (Err error) octets old new why least e = e

pub request_put : {T E : Type 0} (r : Result T E) (frame : IpFrame) (channel number : ℕ) (octets old begun new : List ℕ) → frame ≡ TunnellingRequest channel number octets → begun ≡ old ++ ip_line frame → OnOk r (GrowsBy (IsCemiText octets) begun new) → OnOk r (GrowsBy (IsTextOfIpFrame frame) old new)
request_put (Ok done) frame channel number octets old begun new e b g =
    subst (λ (f : IpFrame). GrowsBy (IsTextOfIpFrame f) old new) (sym e)
    (ip_line (TunnellingRequest channel number octets) ++ g.0, (g.0, g.1, refl), behind old (ip_line (TunnellingRequest channel number octets)) g.0 begun new (b ∙ ap (λ (f : IpFrame). old ++ ip_line f) e) g.2)
request_put (Err why) frame channel number octets old begun new e b g = g

-- a frame that carries none
abbrev pub CarriesNone : IpFrame → Type 0
CarriesNone (TunnellingRequest channel number octets) = ⊥
CarriesNone frame = Unit {0}

pub other_put : (frame : IpFrame) (old new : List ℕ) → CarriesNone frame → new ≡ old ++ ip_line frame → GrowsBy (IsTextOfIpFrame frame) old new
other_put ConnectRequest old new n e = (ip_line ConnectRequest, refl, e)
other_put (ConnectResponse channel status tunnel) old new n e = (ip_line (ConnectResponse channel status tunnel), refl, e)
other_put (StateRequest channel) old new n e = (ip_line (StateRequest channel), refl, e)
other_put (StateResponse channel status) old new n e = (ip_line (StateResponse channel status), refl, e)
other_put (DisconnectRequest channel) old new n e = (ip_line (DisconnectRequest channel), refl, e)
other_put (DisconnectResponse channel status) old new n e = (ip_line (DisconnectResponse channel status), refl, e)
other_put (TunnellingRequest channel number octets) old new n e = absurd n
other_put (TunnellingAck channel number status) old new n e = (ip_line (TunnellingAck channel number status), refl, e)

pub ip_read : {T E : Type 0} (r : Result T E) (octets old new : List ℕ) (frame : IpFrame) → ip.Reads octets frame → OnOk r (GrowsBy (IsTextOfIpFrame frame) old new) → OnOk r (GrowsBy (IsTunnelText octets) old new)
unfolding IsTunnelText
ip_read (Ok done) octets old new frame read g = (g.0, inr (frame, read, g.1), g.2)
ip_read (Err why) octets old new frame read g = g

pub ip_refused : {T E : Type 0} (r : Result T E) (octets old new : List ℕ) (why : IpRefused) → ip.IsLeastBroken why octets → OnOk r (new ≡ old ++ ip_refusal_line why) → OnOk r (GrowsBy (IsTunnelText octets) old new)
unfolding IsTunnelText
ip_refused (Ok done) octets old new why least e = (ip_refusal_line why, inl (why, least, refl), e)
ip_refused (Err error) octets old new why least e = e

pub find_read : {T E : Type 0} (r : Result T E) (octets old new : List ℕ) (frame : FindFrame) → find.Reads octets frame → OnOk r (new ≡ old ++ find_line frame) → OnOk r (GrowsBy (IsFrameText octets) old new)
unfolding IsFrameText
find_read (Ok done) octets old new frame read e = (find_line frame, inr (frame, read, refl), e)
find_read (Err error) octets old new frame read e = e

pub find_refused : {T E : Type 0} (r : Result T E) (octets old new : List ℕ) (why : IpRefused) → find.IsLeastBroken why octets → OnOk r (GrowsBy (IsRefusedText why octets) old new) → OnOk r (GrowsBy (IsFrameText octets) old new)
unfolding IsFrameText
find_refused (Ok done) octets old new why least g = (g.0, inl (why, least, g.1), g.2)
find_refused (Err error) octets old new why least g = g

-- a text that stands alone
pub whole : (octets old new : List ℕ) → old ≡ [] → GrowsBy (IsFrameText octets) old new → IsFrameText octets new
whole octets old new none g = subst (λ (l : List ℕ). IsFrameText octets l) (sym (g.2 ∙ ap (λ (l : List ℕ). l ++ g.0) none)) g.1

-- one line alone
pub alone : {T E : Type 0} (r : Result T E) (old new text : List ℕ) → OnOk r (new ≡ old ++ text) → OnOk r (GrowsBy (λ (l : List ℕ). l ≡ text) old new)
alone (Ok done) old new text e = (text, refl, e)
alone (Err why) old new text e = e
