-- What a poll of so many milliseconds is made of, whatever comes of it.
use Rattle.std.proofs.Common.{◌≡◌, ℕ, ◌+◌, ◌≤◌, List, [], ◌∷◌, ◌++◌, arith}
use Rattle.std.specs.Prelude.{min}
use Rattle.std.specs.List.{AllByRecursion}
use Rattle.line_model.specs.Record.{Placed, entries}
use Rattle.line_model.specs.LinkStory.{Clock, Exact, Running, newest_time, AreWaits}
use Rattle.tunnel_link.specs.Alone.{Each}
use Rattle.tunnel_link.specs.Goes.{TimesMove}
use Rattle.tunnel_link.specs.Paces.{PollsOnce, PollsWithin}
use Rattle.tunnel_link.proofs.Times.{moves_up}

pub record IsPolling (clock : Clock) (wait : ℕ) (old added : List Placed) : Type 0 where
  pub rest : List Placed
  pub waits : List Placed
  pub parts : added ≡ rest ++ waits
  pub once : PollsOnce rest
  pub times : AreWaits (newest_time (entries old)) (entries waits)
  pub in_time : newest_time (entries (waits ++ old)) ≤ newest_time (entries old) + wait
  pub ends : clock ≡ Exact → newest_time (entries (added ++ old)) ≤ newest_time (entries old) + wait
  pub at_once : clock ≡ Running → waits ≡ []

-- ---- none of its entries comes later than it ends

before_it : (old : List Placed) (p : Placed) (added : List Placed) → TimesMove (entries ((p ∷ added) ++ old)) → newest_time (entries (added ++ old)) ≤ p.what.now
before_it old p added moves = moves_up _ (newest_time (entries (added ++ old))) p.what.now moves.0

goes_up : (old added : List Placed) → TimesMove (entries (added ++ old)) → newest_time (entries old) ≤ newest_time (entries (added ++ old))
goes_up old [] moves = omega arith
goes_up old (p ∷ added) moves = let rest = goes_up old added moves.1 in let up = before_it old p added moves in omega (arith, rest, up)

all_until : (until : ℕ) (old added : List Placed) → TimesMove (entries (added ++ old)) → newest_time (entries (added ++ old)) ≤ until → AllByRecursion (λ (p : Placed). p.what.now ≤ until) added
all_until until old [] moves le = tt
all_until until old (p ∷ added) moves le = (le, all_until until old added moves.1 (let up = before_it old p added moves in omega (arith, up, le)))

each_short : (old added : List Placed) → TimesMove (entries (added ++ old)) → newest_time (entries (added ++ old)) ≤ newest_time (entries old) + 100 → Each (λ r x. x.now ≤ newest_time r + 100) old added
each_short old [] moves le = tt
each_short old (p ∷ added) moves le =
    let up = before_it old p added moves in
    let since = goes_up old added moves.1 in
    (omega (arith, since, le), each_short old added moves.1 (omega (arith, up, le)))

pub polls_within : (clock : Clock) (longest wait : ℕ) (old added : List Placed) → wait ≤ min longest 100 → TimesMove (entries (added ++ old)) → IsPolling clock wait old added → PollsWithin clock longest old added
polls_within clock longest wait old added most moves p = record {
  rest = p.rest;
  waits = p.waits;
  parts = p.parts;
  once = p.once;
  times = p.times;
  in_time = λ exact. all_until (newest_time (entries old) + min longest 100) old added moves (let e = p.ends exact in omega (arith, e, most));
  short = λ exact. each_short old added moves (let e = p.ends exact in omega (arith, e, most));
}
