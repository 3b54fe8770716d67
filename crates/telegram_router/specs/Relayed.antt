-- The rule of a router's queue, and what each call tells. What was pushed is what was popped and then what the queue holds. One end at most may push, and knows what was pushed; one at most may
-- pop, and knows what was popped.
use Rattle.std.specs.Prelude.{◌≡◌, ℕ, ◌+◌, ◌<◌, ◌≤◌, true, false, cond, List, [], ◌∷◌, ◌++◌, length, Some, None}
use mathlib.Core.Option.{some}
use mathlib.Core.List.{IsPrefix}
use lib.ListN.{get_elem?}
use Rattle.atomic_table.specs.Seated.{TableId}
use Rattle.line_model.specs.declared.group.Indication.{Indication}
use Rattle.telegram_router.specs.declared.view.View.{View}
use Rattle.telegram_router.specs.Ends.{Feeding, Hearing}

abbrev pub feeding : TableId → View Indication → Feeding
feeding router v = record { router = router; put = v.put; popped = v.popped }

abbrev pub hearing : TableId → View Indication → Hearing
hearing router v = record { router = router; got = v.got; pushed = cond v.pushes (Some v.put) None }

module _ {T : Type 0} where
  abbrev pub first_view : View T
  first_view = record { pushes = true; pops = true; put = []; popped = 0; got = [] }

  abbrev pub left : View T → View T
  left v = record v { pops = false; got = [] }

  abbrev pub right : View T → View T
  right v = record { pushes = false; pops = v.pops; put = []; popped = 0; got = v.got }

  -- an ear takes a feed in
  abbrev pub both : View T → View T → View T
  both v w = record { pushes = true; pops = true; put = w.put; popped = w.popped; got = v.got }

  abbrev pub spent : View T
  spent = record { pushes = false; pops = false; put = []; popped = 0; got = [] }

  pub record Writes (writer : ℕ) (put got : List T) (port : ℕ) (v : View T) : Type 0 where
    pub port_is : port ≡ writer
    pub put_is : v.put ≡ put
    pub popped_then : v.popped ≤ length got

  pub record Reads (reader : ℕ) (got : List T) (port : ℕ) (v : View T) : Type 0 where
    pub port_is : port ≡ reader
    pub got_is : v.got ≡ got

  pub record Fits (writer reader : ℕ) (put got : List T) (port : ℕ) (v : View T) : Type 0 where
    pub feed : v.pushes ≡ true → Writes writer put got port v
    pub ear : v.pops ≡ true → Reads reader got port v

  pub record Relayed (items : List T) (views : List (View T)) : Type 0 where
    pub writer : ℕ
    pub reader : ℕ
    pub put : List T
    pub got : List T
    pub all : put ≡ got ++ items
    pub each : (port : ℕ) (v : View T) → get_elem? views port ≡ some v → Fits writer reader put got port v

  -- x was pushed, where so many had been popped and fewer than 4,096 waited
  pub record Pushed (v : View T) (x : T) (w : View T) : Type 0 where
    pub after : w ≡ record v { put = v.put ++ x ∷ []; popped = w.popped }
    pub later : v.popped ≤ w.popped
    pub room : length v.put < w.popped + 4096

  abbrev pub pushed : View T → T → View T → Type 0
  pushed v x w = Pushed v x w

  -- x was popped, and where all that was pushed is known, it was the next of that
  abbrev pub popped : View T → T → View T → Type 0
  popped v x w = (w ≡ record v { got = v.got ++ x ∷ [] }) × (v.pushes ≡ true → IsPrefix (v.got ++ x ∷ []) v.put)

  -- what waits is what was pushed and not popped, seen from a feed, and from an ear that has the feed
  pub record Waiting (v : View T) (items : List T) : Type 0 where
    pub feed : v.pushes ≡ true → (n : ℕ) × (v.popped ≤ n) × (n + length items ≡ length v.put)
    pub ear : v.pushes ≡ true → v.pops ≡ true → (v.put ≡ v.got ++ items) × (v.popped ≤ length v.got)

  abbrev pub waiting : View T → List T → Type 0
  waiting v items = Waiting v items
