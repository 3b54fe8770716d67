-- What the device delivered and gave since its own last T_Connect, beside the run.
use Rattle.std.specs.Prelude.{ℕ, List, [], ◌∷◌, Option, Some, None}
use Rattle.knx_model.specs.declared.frames.cemi.Ldata.{Ldata}
use Rattle.knx_model.specs.ClientConnection.{client_sent}
use Rattle.knx_model.specs.DeviceFrames.{Outcome, Whole}
use Rattle.session_law.specs.World.{World}
use Rattle.session_law.specs.Device.{took_alone}
use Rattle.session_law.specs.Events.{Event, Asks, Bus, BusAgain, Group, replay}
use Rattle.session_law.proofs.Taken.{is_torn, and_delivered, and_given, or_anew}

pub record Books : Type 0 where
  pub asked : List (List ℕ)  -- the services that the client sent since the last T_Connect that the device got over the bus
  pub delivered : List (List ℕ)  -- those that the device delivered since then, without the one that a power cut tore
  pub given : List (List ℕ)  -- its answers since then

abbrev pub empty : Books
empty = record { asked = []; delivered = []; given = [] }

abbrev pub asks_book : Books → List ℕ → Option (List ℕ) → Books
asks_book b apdu None = b
asks_book b apdu (Some tpdu) = record b { asked = apdu ∷ b.asked }

abbrev pub gets_book : World → Books → Ldata → Outcome → Books
gets_book w b frame outcome = record b {
  delivered = and_delivered (is_torn outcome) (took_alone w.device frame) b.delivered;
  given = and_given (is_torn outcome) w.device.frames w.device.kept (took_alone w.device frame) b.given;
}

abbrev pub carries_book : World → Books → Option Ldata → Outcome → Books
carries_book w b None outcome = b
carries_book w b (Some frame) outcome = record (gets_book w b frame outcome) { asked = or_anew (took_alone w.device frame) b.asked }

abbrev pub again_book : World → Books → Option Ldata → Books
again_book w b None = b
again_book w b (Some frame) = gets_book w b frame Whole

abbrev pub books_after : World → Books → Event → Books
books_after w b (Asks apdu) = asks_book b apdu (client_sent w.client.end apdu)
books_after w b (Bus outcome) = carries_book w b w.flying outcome
books_after w b BusAgain = again_book w b w.device.last
books_after w b (Group frame) = gets_book w b frame Whole
books_after w b _ = b

abbrev pub books : World → List Event → Books
books start [] = empty
books start (e ∷ events) = books_after (replay start events) (books start events) e
