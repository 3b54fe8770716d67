-- A script is read one line after another.
use Rattle.std.proofs.Common.{◌≡◌, ℕ, ◌+◌, ◌<◌, List, [], ◌∷◌, ◌++◌, length, true, Option, Ok, Err, refl}
use Rattle.std.specs.Option.{option_to_list}
use Rattle.std.specs.Str.Lines.{lines}
use Rattle.knx_model.specs.declared.refusal.Why.{Why}
use Rattle.knx_model.specs.declared.script.ScriptLine.{ScriptLine}
use Rattle.knx_model.specs.declared.script.ScriptWhat.{ScriptWhat}
use Rattle.knx_model.specs.LeastLine.{said_in_line}
use Rattle.knx_model.specs.ScriptText.{script_line, script_says, script_reading, are_script_lines, script_lines_ascend}
use Rattle.knx_model.proofs.LeastLine.{ReadsOn, goes_on, is_refused, all_read, ascends}

-- the lines so far are what the text says before line n, and each can be spelled
pub record Reads (octets : List ℕ) (ls : List ScriptLine) (n : ℕ) (rest : List ℕ) : Type 0 where
  pub on : ReadsOn script_line script_says octets ls n rest
  pub spelled : are_script_lines ls ≡ true

pub one_more : (octets rest text after : List ℕ) (ls : List ScriptLine) (n : ℕ) (said : Option ScriptWhat) → Reads octets ls n rest → lines rest ≡ text ∷ lines after → length after < length rest
    → script_says n text ≡ Ok said → are_script_lines (ls ++ option_to_list (said_in_line script_line n (Ok said))) ≡ true → Reads octets (ls ++ option_to_list (said_in_line script_line n (Ok said))) (n + 1) after
one_more octets rest text after ls n said reads first less e spelled = record { on = goes_on script_line script_says octets rest text after ls n said reads.on first less e; spelled = spelled }

pub refused : (octets rest text after : List ℕ) (ls : List ScriptLine) (n : ℕ) (why : Why) → Reads octets ls n rest → lines rest ≡ text ∷ lines after → script_says n text ≡ Err why
    → script_reading octets ≡ Err (record { line = n; why = why })
refused octets rest text after ls n why reads first e = is_refused script_line script_says octets rest text after ls n why reads.on first e

pub whole : (octets rest : List ℕ) (ls : List ScriptLine) (n : ℕ) → Reads octets ls n rest → lines rest ≡ [] → script_reading octets ≡ Ok ls
whole octets rest ls n reads none = all_read script_line script_says octets rest ls n reads.on none

pub numbered : (octets rest : List ℕ) (ls : List ScriptLine) (n : ℕ) → Reads octets ls n rest → lines rest ≡ [] → script_lines_ascend ls ≡ true
numbered octets rest ls n reads none = ascends script_line script_says (λ l. l.line) (λ n what. refl) octets rest ls n reads.on none
