-- On a calm line no try to get a channel fails: the gateway doesn't refuse, and it answers before time passes.
use Rattle.std.proofs.Common.{◌≡◌, ℕ, List, [], ◌∷◌, Option, Some, None, inl, inr, refl, sym, subst}
use Rattle.knx_model.specs.declared.address.IndAddr.{IndAddr}
use Rattle.knx_model.specs.declared.frames.cemi.Ldata.{Ldata}
use Rattle.line_model.specs.declared.fault.Try.{Try}
use Rattle.line_model.specs.ClientView.{ClientChannel, Fresh, Sought, RefusedBy, Unanswered, Open, Lost, channel}
use Rattle.line_model.specs.Faults.{tries, tries_after}
use Rattle.line_model.specs.Record.{Item, Entry, entry, item_of, noted, tunnel_record}
use Rattle.line_model.specs.Tunnel.{Tunnel, TunnelEvent, Commissions, IsLegal, fresh, replay, step}
use Rattle.calm_law.specs.CalmTunnel.{AreCalm}
use Rattle.calm_law.proofs.Tokens.{Fall}
use Rattle.calm_law.proofs.State.{Door, Shut, Knocked, Replied, Ajar, Stage, Under, Pulse, Nums, DoorIs, Going}
use Rattle.calm_law.proofs.Law.{Inv, Keeps, always, keeps_before}

-- neither refused nor left without an answer
abbrev IsntFailed : ClientChannel → Type 0
IsntFailed Fresh = Unit {0}
IsntFailed (Sought since) = Unit {0}
IsntFailed (RefusedBy status) = ⊥
IsntFailed Unanswered = ⊥
IsntFailed (Open c l) = Unit {0}
IsntFailed (Lost c) = Unit {0}

opened_not : (ch : ClientChannel) (l : List Entry) → ch ≡ Open 1 l → IsntFailed ch
opened_not ch l e = subst IsntFailed (sym e) tt

lost_not : (ch : ClientChannel) (c : ℕ) → ch ≡ Lost c → IsntFailed ch
lost_not ch c e = subst IsntFailed (sym e) tt

by_door : (r : List Entry) (door : Door) (stage : Stage) (under : Under) (pulse : Pulse) (m : Nums) (present : ℕ) (downs : List Fall) (now : ℕ) → DoorIs door stage under pulse m r present downs now → IsntFailed (channel r)
by_door r Shut stage under pulse m present downs now d = subst IsntFailed (sym d.0) tt
by_door r Knocked stage under pulse m present downs now d = subst IsntFailed (sym d.0.is) tt
by_door r Replied stage under pulse m present downs now d = subst IsntFailed (sym d.0.is) tt
by_door r (Ajar leaves) stage under pulse m present downs now d = opened_not (channel r) (d.open_.first ∷ d.open_.rest) d.open_.is

isnt_failed : (E : Option Ldata → List Ldata → Type 0) (r : List Entry) (t : Tunnel) → Inv E r t → IsntFailed (channel r)
isnt_failed E r t (inl l) = let g : Going E r t = l.going in by_door r g.door g.stage g.under g.pulse g.m g.present g.downs g.now g.goes.door_is
isnt_failed E r t (inr (inl p)) = opened_not (channel r) (p.up.open_.first ∷ p.up.open_.rest) p.up.open_.is
isnt_failed E r t (inr (inr g)) = lost_not (channel r) g.number g.lost

still_none : (before after : ClientChannel) (l : List Try) → IsntFailed after → l ≡ [] → tries_after before after l ≡ []
still_none Fresh after l isnt none = none
still_none (Sought since) Fresh l isnt none = none
still_none (Sought since) (Sought again) l isnt none = none
still_none (Sought since) (RefusedBy status) l isnt none = absurd isnt
still_none (Sought since) Unanswered l isnt none = absurd isnt
still_none (Sought since) (Open c m) l isnt none = refl
still_none (Sought since) (Lost c) l isnt none = none
still_none (RefusedBy status) after l isnt none = none
still_none Unanswered after l isnt none = none
still_none (Open c m) after l isnt none = none
still_none (Lost c) after l isnt none = none

one_more : (o : Option Item) (now : ℕ) (r : List Entry) → IsntFailed (channel (noted o now r)) → tries r ≡ [] → tries (noted o now r) ≡ []
one_more None now r isnt none = none
one_more (Some what) now r isnt none = still_none (channel r) (channel (entry what now ∷ r)) (tries r) isnt none

pub none_fails : (me : IndAddr) (events : List TunnelEvent) → IsLegal Commissions (fresh me) events → AreCalm (fresh me) events → Keeps (tunnel_record (fresh me) events) → tries (tunnel_record (fresh me) events) ≡ []
none_fails me [] l c k = refl
none_fails me (e ∷ events) l c k =
    let r : List Entry = tunnel_record (fresh me) events in
    let t : Tunnel = replay (fresh me) events in
    let o : Option Item = item_of t e in
    one_more o (step t e).now r (isnt_failed _ (noted o (step t e).now r) (step t e) (always me (e ∷ events) l c k)) (none_fails me events l.1 c.1 (keeps_before o (step t e).now r k))
