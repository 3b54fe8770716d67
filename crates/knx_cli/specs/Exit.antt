-- The exit status of the program is the number of the status that its call answers.
use Rattle.std.specs.Prelude.{ℕ, List, [], ◌∷◌, slice_index_or}
use Rattle.call_words.specs.declared.status.Status.{Status}
use Rattle.call_words.specs.declared.status.Status.TheVariants as status

-- the statuses by their numbers, from 0
abbrev pub statuses : List Status
statuses =
    status.Done ∷ status.SomeFailed ∷ status.Usage ∷ status.Project ∷ status.Catalogue ∷ status.Script ∷ status.Read ∷ status.Write
    ∷ status.NoMemory tt ∷ status.Link ∷ status.GatewayRefused ∷ status.Flooded ∷ status.WrongLine ∷ status.OpenTurns
    ∷ status.NothingFound ∷ status.NoUnit ∷ status.Several ∷ status.Taken ∷ status.Unconfirmed ∷ status.TunnelLost ∷ []

-- the status of a number
abbrev pub status_of : ℕ → Status
status_of number = slice_index_or statuses number status.NothingFound
