-- `decode`, and what is written of it.
use Rattle.call_parts.specs.declared.ending.End.{End}
use Rattle.call_parts.specs.Ending.{Is, wanting, TellsOf, report_in}
use Rattle.frame_text.specs.FrameText.{IsFrameText, hex_word}
use Rattle.call_words.specs.declared.stop.Stop.{Stop}
use Rattle.std.proofs.Common.{◌≡◌, inl, inr, sym, ◌⊎◌, Err, List, None, Ok, Result, ℕ, subst}
use Rattle.call_parts.proofs.Ends.{stop_wants}
use Rattle.call_parts.proofs.Projects.{text_wants, text_no_run, stop_no_run}
use Rattle.knx_top.specs.commands.decode.{TellsOfFrame, octets_or_usage}

word_wants : (found : Result (List ℕ) Stop) (end : End) → TellsOf IsFrameText found end → TellsOf IsFrameText found (wanting end)
word_wants (Err why) end h = stop_wants why end h
word_wants (Ok octets) end h = text_wants (IsFrameText octets) end h

pub frame_written : (word : List ℕ) (end : End) (Replied : End → Type 0) → TellsOfFrame word (Is end) → Replied end ⊎ Replied (wanting end) → TellsOfFrame word Replied
frame_written word end Replied t (inl replied) = record { end = t.end; tells = t.tells; replied = subst Replied (sym t.replied) replied }
frame_written word end Replied t (inr replied) = record {
  end = wanting t.end;
  tells = word_wants (octets_or_usage (hex_word word)) t.end t.tells;
  replied = subst (λ (told : End). Replied (wanting told)) (sym t.replied) replied;
}

word_no_run : (found : Result (List ℕ) Stop) (end : End) → TellsOf IsFrameText found end → report_in end ≡ None
word_no_run (Err why) end h = stop_no_run why end h
word_no_run (Ok octets) end h = text_no_run (IsFrameText octets) end h

-- it is of no run
pub frame_no_run : (word : List ℕ) (end : End) → TellsOfFrame word (Is end) → report_in end ≡ None
frame_no_run word end t = subst (λ (told : End). report_in told ≡ None) t.replied (word_no_run (octets_or_usage (hex_word word)) t.end t.tells)
