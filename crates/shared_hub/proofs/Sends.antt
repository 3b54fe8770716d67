-- A site may go to another thread, and so may a seat at its cell, a `&` to the cell, and a closure that has these.
use mathlib.Core.List.{List, [], ◌∷◌}
use Prim.Native.Nat.{ℕ}
use mir.Syntax.{Lifetime, Sym, Ty, w8}
use base.Fml.{Lft}
use denote.Exit.{Kept, no}
use denote.Plain.{UInt}
use denote.Ref.{ShrRef}
use denote.RattleType.{RattleType}
use denote.Param.{param, arg}
use denote.Param.Send.{AllSend, IsSend, IsSync, sendable, arg_send, param_send, recorded_send, shr_send, struct_send}
use denote.Param.SendFields.{FieldsHave, as_row_send, declared_send}
use denote.Struct.Field.{row_field}
use denote.Struct.Tuple.{TupleAt, parts, type_at}
use denote.Struct.Declared.{shape}
use Rattle.std.proofs.Crossing.{crosses, Box-send}
use Rattle.std.specs.contracts.alloc.Global as heap
use Rattle.std.specs.contracts.boxed.Box as Box
use Rattle.std.specs.contracts.impls.GlobalAllocator.TheImpl.{ghosts}
use Rattle.line_model.specs.declared.outside.link.Link.{Ghosts}
use Rattle.line_model.specs.declared.outside.watcher.Watcher.{Ghosts as Watching}
use Rattle.hub_core.proofs.hub.Hub.TheSendSync as hub
use Rattle.telegram_router.proofs.ends.Feed.TheSendSync as feed
use Rattle.turn_cell.proofs.seat.Seat.TheSendSync as seat
use Rattle.turn_cell.proofs.turn.Turn.TheSendSync as turn
use Rattle.turn_cell.specs.declared.logged.Logged.{Ghosts as Logged}
use Rattle.turn_cell.specs.contracts.logged.BoxLogged.TheImpl as boxed
use Rattle.turn_cell.specs.contracts.seat.Seat as Seat
use Rattle.turn_cell.specs.contracts.turn.Turn as Turn
use Rattle.shared_hub.proofs.listener.Listener.TheSendSync as listener
use Rattle.shared_hub.proofs.relay.Relay.TheSendSync as relay
use Rattle.shared_hub.proofs.watching.Watching.TheSendSync as watching
use Rattle.shared_hub.specs.contracts.item.Item as Item
use Rattle.shared_hub.specs.contracts.listener.Listener as Listener
use Rattle.shared_hub.specs.contracts.relay.Relay as Relay
use Rattle.shared_hub.specs.contracts.site.Site.{the_row}
use Rattle.shared_hub.specs.contracts.site.SiteLogged.TheImpl as logged
use Rattle.shared_hub.specs.contracts.site.Site.TheInside as inside

pub fields_send : (T V : RattleType) (g : Ghosts T.Denot) (h : Watching V.Denot) → IsSend T → IsSend V → IsSend (inside.the_row T V g h)
fields_send T V g h s u = recorded_send (inside.the_field T V g h).row _ _ (inside.the_type T V g h).to_one (struct_send (shape (inside.the_type T V g h)) (hub.the_send T g s, (search (sendable, crosses, feed.the_send), (watching.the_send V h u, (search (sendable, crosses), (search (sendable, crosses), (search (sendable, crosses), tt)))))))

pub site_send : (T V : RattleType) (g : Ghosts T.Denot) (h : Watching V.Denot) → IsSend T → IsSend V → IsSend (the_row T V g h)
site_send T V g h s u = search (sendable, fields_send T V g h s u)

-- in a box
abbrev pub box_row : (T V : RattleType) → Ghosts T.Denot → Watching V.Denot → RattleType
box_row T V g h = Box.the_row (the_row T V g h) heap.the_row ghosts

pub box_send : (T V : RattleType) (g : Ghosts T.Denot) (h : Watching V.Denot) → IsSend T → IsSend V → IsSend (box_row T V g h)
box_send T V g h s u = Box-send (the_row T V g h) (site_send T V g h s u)

abbrev pub in_box : (T V : RattleType) (g : Ghosts T.Denot) (h : Watching V.Denot) → Logged (box_row T V g h).Denot (Item.the_row T V g).Denot
in_box T V g h = boxed.ghosts (the_row T V g h) (Item.the_row T V g) (logged.ghosts T V g logged.no_dict h logged.no_dict logged.no_dict logged.no_dict) boxed.no_dict boxed.no_dict

-- its cell, and a seat at the cell
abbrev pub cell_row : (T V : RattleType) → Ghosts T.Denot → Watching V.Denot → RattleType
cell_row T V g h = Turn.the_row (box_row T V g h) (Item.the_row T V g) (in_box T V g h)

abbrev pub seat_row : (T V : RattleType) → Ghosts T.Denot → Watching V.Denot → RattleType
seat_row T V g h = Seat.the_row (box_row T V g h) (Item.the_row T V g) (in_box T V g h)

pub cell_sync : (T V : RattleType) (g : Ghosts T.Denot) (h : Watching V.Denot) → IsSend T → IsSend V → IsSync (cell_row T V g h)
cell_sync T V g h s u = turn.the_sync (box_row T V g h) (Item.the_row T V g) (in_box T V g h) (box_send T V g h s u)

pub seat_send : (T V : RattleType) (g : Ghosts T.Denot) (h : Watching V.Denot) → IsSend T → IsSend V → IsSend (seat_row T V g h)
seat_send T V g h s u = seat.the_send (box_row T V g h) (Item.the_row T V g) (in_box T V g h) (box_send T V g h s u)

each_send : (Ts : List RattleType) → AllSend Ts → FieldsHave IsSend (parts Ts)
each_send [] s = tt
each_send (T ∷ Ts) s = (as_row_send (row_field T) s.0, each_send Ts s.1)

-- a closure goes where all that it captures goes
closure_send : (i : ℕ) (layout : Ty) (kept : Kept) (name : Sym) (Ts : List RattleType) → AllSend Ts → IsSend (param i (arg layout kept (TupleAt name Ts)))
closure_send i layout kept name Ts s = param_send i _ (arg_send layout kept _ (declared_send (type_at name Ts) (each_send Ts s)))

octet_send : IsSend (UInt w8)
octet_send = search sendable

-- so the workers' goes, which has the runtime, the cell, the relay, a seat, a count and the gate
pub workers_send : (R T V G : RattleType) (g : Ghosts T.Denot) (h : Watching V.Denot) → IsSync R → IsSend T → IsSend V → IsSync G → (layout : Ty) (name : Sym) (ℓ ℓ' ℓ'' ℓ''' : Lifetime) (κ κ' κ'' κ''' : Lft)
    → IsSend (param 1 (arg layout no (TupleAt name (ShrRef ℓ κ R ∷ ShrRef ℓ' κ' (cell_row T V g h) ∷ ShrRef ℓ''' κ''' Relay.the_row ∷ seat_row T V g h ∷ UInt w8 ∷ ShrRef ℓ'' κ'' G ∷ []))))
workers_send R T V G g h r t u e layout name ℓ ℓ' ℓ'' ℓ''' κ κ' κ'' κ''' =
    closure_send 1 layout no name (ShrRef ℓ κ R ∷ ShrRef ℓ' κ' (cell_row T V g h) ∷ ShrRef ℓ''' κ''' Relay.the_row ∷ seat_row T V g h ∷ UInt w8 ∷ ShrRef ℓ'' κ'' G ∷ [])
    (shr_send ℓ κ R r, (shr_send ℓ' κ' (cell_row T V g h) (cell_sync T V g h t u), (shr_send ℓ''' κ''' Relay.the_row relay.the_sync, (seat_send T V g h t u, (octet_send, (shr_send ℓ'' κ'' G e, tt))))))

-- and the seat that it comes to
pub back_send : (T V : RattleType) (g : Ghosts T.Denot) (h : Watching V.Denot) → IsSend T → IsSend V → (layout : Ty) → IsSend (param 3 (arg layout no (seat_row T V g h)))
back_send T V g h s u layout = param_send 3 _ (arg_send layout no _ (seat_send T V g h s u))

-- so the group thread's goes, which has the runtime, the cell, the relay, a seat and the listener
pub group_send : (R T V : RattleType) (g : Ghosts T.Denot) (h : Watching V.Denot) → IsSync R → IsSend T → IsSend V → (layout : Ty) (name : Sym) (ℓ ℓ' ℓ'' : Lifetime) (κ κ' κ'' : Lft)
    → IsSend (param 1 (arg layout no (TupleAt name (ShrRef ℓ κ R ∷ ShrRef ℓ' κ' (cell_row T V g h) ∷ ShrRef ℓ'' κ'' Relay.the_row ∷ seat_row T V g h ∷ Listener.the_row ∷ []))))
group_send R T V g h r t u layout name ℓ ℓ' ℓ'' κ κ' κ'' =
    closure_send 1 layout no name (ShrRef ℓ κ R ∷ ShrRef ℓ' κ' (cell_row T V g h) ∷ ShrRef ℓ'' κ'' Relay.the_row ∷ seat_row T V g h ∷ Listener.the_row ∷ [])
    (shr_send ℓ κ R r, (shr_send ℓ' κ' (cell_row T V g h) (cell_sync T V g h t u), (shr_send ℓ'' κ'' Relay.the_row relay.the_sync, (seat_send T V g h t u, (listener.the_send, tt)))))

-- and the seat and the listener that it comes to
pub both_send : (T V : RattleType) (g : Ghosts T.Denot) (h : Watching V.Denot) → IsSend T → IsSend V → (layout : Ty) (name : Sym) → IsSend (param 3 (arg layout no (TupleAt name (seat_row T V g h ∷ Listener.the_row ∷ []))))
both_send T V g h s u layout name = closure_send 3 layout no name (seat_row T V g h ∷ Listener.the_row ∷ []) (seat_send T V g h s u, (listener.the_send, tt))
