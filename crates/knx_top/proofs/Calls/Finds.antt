-- `find`: what it comes to, and what is written of it.
use Rattle.std.proofs.Common.{◌≡◌, ◌⊎◌, None, List, Result, refl, sym, subst, inl, inr}
use Rattle.discovery.specs.declared.about.About.{About}
use Rattle.discovery.specs.declared.inquiry.Inquiry.{Inquiry}
use Rattle.discovery_ends.specs.Looking.{LookedOver}
use Rattle.line_model.specs.Dialled.{DialerNow}
use Rattle.line_model.specs.declared.outside.link.LinkFault.{LinkFault}
use Rattle.call_parts.specs.Ending.{Is, report_in, wanting}
use Rattle.knx_top.specs.commands.find.{EndsFor, Finds, FindWords, RunsFind, SearchesTo}
use Rattle.call_parts.specs.declared.ending.End.{End}
use Rattle.call_parts.specs.declared.ending.End.TheVariants as ends
use Rattle.call_parts.specs.declared.searched.SearchEnd.{SearchEnd}
use Rattle.call_parts.specs.declared.searched.SearchEnd.TheVariants as search

-- ---- what was dialled and searched over

pub searched : (words : FindWords) (before after : DialerNow) (found : List About) (ended : Result (Unit {0}) LinkFault) (asked : Inquiry) (end : SearchEnd) → EndsFor found ended end → (asked ≡ words.inquiry)
    → LookedOver words.at words.inquiry before after found ended → SearchesTo words before after end
searched words before after found ended asked (search.Ended finder) is same over = rw (is.0, ← is.1) over
searched words before after found ended asked (search.Failed finder) is same over = rw (is.0, ← is.1) over
searched words before after found ended asked (search.Untold want) is same over = (found, ended, over)

-- ---- it is of no run

no_run : (words : FindWords) (before after : DialerNow) (end : End) → Finds words before after end → report_in end ≡ None
no_run words before after (ends.Stops told) h = refl
no_run words before after (ends.Tells text) h = absurd h
no_run words before after ends.NotOpened h = refl
no_run words before after (ends.BreaksOff report want) h = absurd h
no_run words before after (ends.Reports told) h = absurd h
no_run words before after (ends.Sums told counts) h = absurd h
no_run words before after (ends.Serves served) h = absurd h
no_run words before after (ends.Finds searched) h = refl
no_run words before after (ends.Assigns given) h = absurd h

pub find_no_run : (words : FindWords) (before after : DialerNow) (end : End) → RunsFind words before after (Is end) → report_in end ≡ None
find_no_run words before after end t = subst (λ (told : End). report_in told ≡ None) t.replied (no_run words before after t.end t.finds)

-- ---- what is written of it

untold_so : (words : FindWords) (before after : DialerNow) (end : SearchEnd) → SearchesTo words before after end → SearchesTo words before after (search.Untold tt)
untold_so words before after (search.Ended finder) h = (_, _, h)
untold_so words before after (search.Failed finder) h = (_, _, h)
untold_so words before after (search.Untold want) h = h

finds_wants : (words : FindWords) (before after : DialerNow) (end : End) → Finds words before after end → Finds words before after (wanting end)
finds_wants words before after (ends.Stops told) h = (refl, h.1)
finds_wants words before after (ends.Tells text) h = absurd h
finds_wants words before after ends.NotOpened h = h
finds_wants words before after (ends.BreaksOff report want) h = absurd h
finds_wants words before after (ends.Reports told) h = absurd h
finds_wants words before after (ends.Sums told counts) h = absurd h
finds_wants words before after (ends.Serves served) h = absurd h
finds_wants words before after (ends.Finds searched) h = untold_so words before after searched h
finds_wants words before after (ends.Assigns given) h = absurd h

pub find_written : (words : FindWords) (before after : DialerNow) (end : End) (Replied : End → Type 0) → RunsFind words before after (Is end) → Replied end ⊎ Replied (wanting end) → RunsFind words before after Replied
find_written words before after end Replied t (inl replied) = record { end = t.end; finds = t.finds; replied = subst Replied (sym t.replied) replied }
find_written words before after end Replied t (inr replied) = record {
  end = wanting t.end;
  finds = finds_wants words before after t.end t.finds;
  replied = subst (λ (told : End). Replied (wanting told)) (sym t.replied) replied;
}
