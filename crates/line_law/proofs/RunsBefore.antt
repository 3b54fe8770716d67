-- What is known of a run, and of what was before.
use Rattle.std.proofs.Common.{◌≡◌, ℕ, List, ◌∷◌, length, Option, Some, None, refl}
use Rattle.knx_model.specs.declared.frames.cemi.Ldata.{Ldata}
use Rattle.line_model.specs.declared.group.GroupTurn.{GroupTurn}
use Rattle.line_model.specs.declared.log.LogEntry.{LogEntry}
use Rattle.line_model.specs.ActedOnce.{ActedOnce}
use Rattle.line_law.specs.Safe.{EachAsked}
use Rattle.line_model.specs.Fresh.{IsFresh}
use Rattle.line_model.specs.Legal.{IsLegal}
use Rattle.line_model.specs.Log.{Job}
use Rattle.line_model.specs.Record.{Item, Placed, placed, placed_if, item_at, record_of}
use Rattle.line_model.specs.Renews.{RenewsRightly}
use Rattle.line_model.specs.Sendings.{SendsRightly}
use Rattle.line_model.specs.Tunnel.{Commissions}
use Rattle.line_model.specs.World as line
use Rattle.line_model.specs.World.{World, Event, now}
use Rattle.tunnel_law.proofs.Law.{renews_before, sends_before}
use Rattle.line_model.specs.Record.{item_of}
use Rattle.line_model.specs.World.{AtGateway, Comes, IsLost, carried, heard}

-- ---- what is known of a run

pub record IsRun (jobs : List Job) (turns : List GroupTurn) (log : List LogEntry) (start : World) (events : List Event) : Type 0 where
  pub begins : IsFresh start
  pub legal : IsLegal Commissions start events
  pub renews : RenewsRightly (record_of start events)
  pub sends : SendsRightly (record_of start events)
  pub asks : EachAsked jobs turns log (placed start events)
  pub once : ActedOnce start events

pub asks_by : (jobs : List Job) (turns : List GroupTurn) (log : List LogEntry) (n t : ℕ) (o : Option Item) (older : List Placed) → EachAsked jobs turns log (placed_if n t o older) → EachAsked jobs turns log older
asks_by jobs turns log n t None older h = h
asks_by jobs turns log n t (Some item) older h = h.1

pub run_before : (jobs : List Job) (turns : List GroupTurn) (log : List LogEntry) (start : World) (e : Event) (events : List Event) → IsRun jobs turns log start (e ∷ events) → IsRun jobs turns log start events
run_before jobs turns log start e events h =
    let w : World = line.replay start events in
    let t : ℕ = now (line.replay start (e ∷ events)) in
    record {
      begins = h.begins;
      legal = h.legal.1;
      renews = renews_before (item_at w e) t (record_of start events) h.renews;
      sends = sends_before (item_at w e) t (record_of start events) h.sends;
      asks = asks_by jobs turns log (length (e ∷ events)) t (item_at w e) (placed start events) h.asks;
      once = h.once.1;
    }

pub carried_none : (w : World) (left_out : List ℕ) (o : Option Ldata) → item_of w.tunnel (carried w left_out o) ≡ None
carried_none w left_out None = refl
carried_none w left_out (Some f) = refl

pub heard_none : (gateway : AtGateway) (w : World) (o : Option Ldata) → item_of w.tunnel (heard gateway o) ≡ None
heard_none Comes w None = refl
heard_none IsLost w None = refl
heard_none Comes w (Some f) = refl
heard_none IsLost w (Some f) = refl
