-- What a client that gives an address put and heard, by the moments of its link's record (KNX standard 3/6/3, common EMI; ISO/IEC 14543-3-1, application
-- layer): a round for each request that it put, with the frame, its confirmation, the first one that was taken after it, and the responses that were
-- taken until the next one was put. The newest round first; its responses the oldest first.
use Rattle.std.specs.Prelude.{ℕ, Bool, true, false, ◌||◌, List, [], ◌∷◌, ◌++◌, Option, Some, None, if◌then◌else◌, ◌≡◌}
use Rattle.knx_model.specs.declared.address.IndAddr.{IndAddr}
use Rattle.knx_model.specs.declared.frames.cemi.Ldata.{Ldata}
use Rattle.knx_model.specs.declared.frames.tpdu.Apdu.{Apdu}
use Rattle.knx_model.specs.declared.frames.tpdu.Apdu.TheVariants.{AddressRead, AddressResponse}
use Rattle.line_model.specs.Reading.{ldata_in, is_con, is_ind}
use Rattle.line_model.specs.Record.{Entry, is_got, Placed}
use Rattle.line_model.specs.ClientView.{Deed, Puts, Takes, Loses, Nothing}
use Rattle.line_model.specs.Moments.{Moment, is_loss, moments}
use Rattle.address_world.specs.AddressWorld.{broadcast}

pub record Round : Type 0 where
  pub frame : Option Ldata
  pub confirmed : Option Bool  -- with an error, or without
  pub answers : List IndAddr  -- the sources of the responses

-- ---- a frame that is taken

-- who responds by it
abbrev pub responder : Ldata → Option Apdu → Option IndAddr
responder frame (Some AddressResponse) = Some (record { raw = frame.source })
responder frame _ = None

abbrev pub answer_in : Ldata → Option IndAddr
answer_in frame = if is_ind frame.code then responder frame (broadcast frame) else None

abbrev pub and_answer : List IndAddr → Option IndAddr → List IndAddr
and_answer answers None = answers
and_answer answers (Some source) = answers ++ source ∷ []

abbrev pub confirmed_by : Option Bool → Ldata → Option Bool
confirmed_by None frame = if is_con frame.code then Some frame.error else None
confirmed_by (Some error) frame = Some error

abbrev pub with_frame : Option Ldata → Round → Round
with_frame None r = r
with_frame (Some frame) r = record { frame = r.frame; confirmed = confirmed_by r.confirmed frame; answers = and_answer r.answers (answer_in frame) }

-- ---- the rounds

abbrev pub begun : List ℕ → Round
begun cemi = record { frame = ldata_in cemi; confirmed = None; answers = [] }

abbrev pub on_newest : (Round → Round) → List Round → List Round
on_newest change [] = []
on_newest change (r ∷ rs) = change r ∷ rs

abbrev pub after_deed : Deed → List Round → List Round
after_deed (Puts cemi) rs = begun cemi ∷ rs
after_deed (Takes cemi) rs = on_newest (with_frame (ldata_in cemi)) rs
after_deed Loses rs = rs
after_deed Nothing rs = rs

abbrev pub rounds : List Moment → List Round
rounds [] = []
rounds (m ∷ l) = after_deed m.what (rounds l)

-- ---- what was heard: a response belongs to the last read that was put before it

abbrev pub is_read_service : Option Apdu → Bool
is_read_service (Some AddressRead) = true
is_read_service _ = false

abbrev pub is_read : Option Ldata → Bool
is_read None = false
is_read (Some frame) = is_read_service (broadcast frame)

abbrev pub answers : List Round → List IndAddr
answers [] = []
answers (r ∷ rs) = if is_read r.frame then r.answers else answers rs ++ r.answers

-- ---- when it is quiet, and whether the channel was lost

-- when a datagram came last
abbrev pub quiet_since : List Entry → ℕ
quiet_since [] = 0
quiet_since (x ∷ r) = if is_got x.what then x.now else quiet_since r

abbrev pub has_lost : List Moment → Bool
has_lost [] = false
has_lost (m ∷ l) = is_loss m.what || has_lost l

-- ---- no request is put

-- no request was put: the newest round has the same frame, and the others are the same
abbrev pub GoOn : List Round → List Round → Type 0
GoOn [] [] = Unit {0}
GoOn (r ∷ rs) (s ∷ ss) = (s.frame ≡ r.frame) × (ss ≡ rs)
GoOn _ _ = ⊥

abbrev pub SameRounds : List Placed → List Placed → Type 0
SameRounds old new = GoOn (rounds (moments old)) (rounds (moments new))

-- what was added to the places, in which no request is put
pub record GoesOnFrom (old new : List Placed) : Type 0 where
  pub added : List Placed
  pub all : new ≡ added ++ old
  pub rounds_go_on : SameRounds old new
