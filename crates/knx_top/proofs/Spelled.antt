-- What words ask for is just what is read of them.
use Rattle.std.proofs.Common.{ℕ, ◌≡◌, ◌↔◌, Bool, true, false, codes, List, [], ◌∷◌, Option, Some, None, refl, sym, subst, ◌∙◌}
use Rattle.std.specs.Prelude.{bytes_eq, if◌then◌else◌, option_and_then}
use Rattle.std.specs.Option.{option_map}
use Rattle.std.proofs.lemmas.Slice.Eq.{bytes_eq-Decides}
use Rattle.knx_top.specs.commands.{WordsAsk, Command, Check, Tables, Migrate, Sim, Decode, SpellsCommand, SpellsCheck, SpellsTables, SpellsMigrate, SpellsSim, SpellsDecode, SpellsDownload, SpellsGateway, SpellsSearch, SpellsDescription, SpellsAssign, SpellsAssignSim, SpellsBig, Assign, AssignSim, Big, Download, Find, Gateway, asked, assign_asked, other_asked}
use Rattle.line_model.specs.Dialled.{Address}
use Rattle.call_parts.specs.Fronts.{Spells, SpellsAll}
use Rattle.call_parts.specs.Host.{address_value}
use Rattle.knx_top.proofs.ReadBy.{AreApart, all_from, all_to, fronts, none_begins_another, reads_spelled, spells_read}
use Rattle.call_parts.specs.Project.{ProjectWords, project_words}
use Rattle.call_parts.specs.declared.options.SimOptions.{SimOptions}
use Rattle.call_parts.specs.Options.{no_options, project_options, project_rows, run_rows, sim_options}
use Rattle.call_parts.specs.OptionValues.{from_1_to}
use Rattle.knx_top.specs.commands.sim.{SimWords, sim_words}
use Rattle.knx_model.specs.Addresses.{ind_value}
use Rattle.knx_model.specs.declared.address.IndAddr.{IndAddr}
use Rattle.knx_top.specs.commands.assign.{AssignSimWords, AssignWords, assign_sim_words}
use Rattle.knx_top.specs.commands.big.{BigWords, big_words, most_devices, start_value}
use Rattle.knx_top.specs.commands.download.{DownloadWords, download_words}
use Rattle.discovery.specs.declared.inquiry.Inquiry.{Inquiry}
use Rattle.discovery.specs.declared.inquiry.Inquiry.TheVariants.{Search, Description}
use Rattle.knx_top.specs.commands.find.{FindWords, find_words}
use Rattle.knx_top.specs.commands.gateway.{GatewayWords, gateway_words, turns_rows, turns_value}
use Rattle.knx_top.specs.commands.decode.{decode_word}

-- ---- in each table no front begins another

project_apart : AreApart project_rows
project_apart so_far = refl

run_apart : AreApart run_rows
run_apart so_far = refl

turns_apart : none_begins_another (fronts turns_rows) ≡ true
turns_apart = refl

-- ---- from the words that spell it

project_from : (others : List (List ℕ)) (options : SimOptions) → SpellsAll project_rows others no_options options → project_options others ≡ Some options
project_from others options s = all_from project_rows others no_options options project_apart s

run_from : (others : List (List ℕ)) (options : SimOptions) → SpellsAll run_rows others no_options options → sim_options others ≡ Some options
run_from others options s = all_from run_rows others no_options options run_apart s

turns_from : (word : List ℕ) (turns : ℕ) → Spells turns_rows word turns → turns_value word ≡ Some turns
turns_from word turns s = reads_spelled turns_rows word turns turns_apart s

asked_from : (words : List (List ℕ)) (command : Command) → SpellsCommand words command → asked words ≡ Some command
asked_from words command (SpellsCheck project others options o) = rw (project_from others options o) refl
asked_from words command (SpellsTables project others options o) = rw (project_from others options o) refl
asked_from words command (SpellsMigrate project others options o) = rw (project_from others options o) refl
asked_from words command (SpellsSim new old script others options o) = rw (run_from others options o) refl
asked_from words command (SpellsDecode word) = refl
asked_from words command (SpellsDownload address new others at options is o) = rw (is, run_from others options o) refl
asked_from words command (SpellsGateway address old script number others at turns options is number_is o) = rw (is, turns_from number turns number_is, project_from others options o) refl
asked_from words command (SpellsSearch address at is) = rw is refl
asked_from words command (SpellsDescription address at is) = rw is refl
asked_from words command (SpellsAssign address wanted at ia is ia_is) = rw (is, ia_is) refl
asked_from words command (SpellsAssignSim units wanted ia ia_is) = rw ia_is refl
asked_from words command (SpellsBig number start devices from is start_is) = rw (is, start_is) refl

-- ---- from the command that is asked

some_command : (one other : Command) → Some one ≡ Some other → one ≡ other
some_command one other e = cc

-- a command of one project
check_to : (o : Option SimOptions) (project : List ℕ) (others : List (List ℕ)) (command : Command) → project_options others ≡ o
    → option_map Check (option_map (λ (options : SimOptions). let w : ProjectWords = record { project = project; catalogue = options.catalogue } in w) o) ≡ Some command → SpellsCommand (codes "check" ∷ project ∷ others) command
check_to None project others command is e = absurd cc
check_to (Some options) project others command is e =
    subst (λ (c : Command). SpellsCommand (codes "check" ∷ project ∷ others) c) (some_command (Check (record { project = project; catalogue = options.catalogue })) command e) (SpellsCheck project others options (all_to project_rows others no_options options is))

tables_to : (o : Option SimOptions) (project : List ℕ) (others : List (List ℕ)) (command : Command) → project_options others ≡ o
    → option_map Tables (option_map (λ (options : SimOptions). let w : ProjectWords = record { project = project; catalogue = options.catalogue } in w) o) ≡ Some command → SpellsCommand (codes "tables" ∷ project ∷ others) command
tables_to None project others command is e = absurd cc
tables_to (Some options) project others command is e =
    subst (λ (c : Command). SpellsCommand (codes "tables" ∷ project ∷ others) c) (some_command (Tables (record { project = project; catalogue = options.catalogue })) command e) (SpellsTables project others options (all_to project_rows others no_options options is))

migrate_to : (o : Option SimOptions) (project : List ℕ) (others : List (List ℕ)) (command : Command) → project_options others ≡ o
    → option_map Migrate (option_map (λ (options : SimOptions). let w : ProjectWords = record { project = project; catalogue = options.catalogue } in w) o) ≡ Some command → SpellsCommand (codes "migrate" ∷ project ∷ others) command
migrate_to None project others command is e = absurd cc
migrate_to (Some options) project others command is e =
    subst (λ (c : Command). SpellsCommand (codes "migrate" ∷ project ∷ others) c) (some_command (Migrate (record { project = project; catalogue = options.catalogue })) command e) (SpellsMigrate project others options (all_to project_rows others no_options options is))

sim_to : (o : Option SimOptions) (new old script : List ℕ) (others : List (List ℕ)) (command : Command) → sim_options others ≡ o
    → option_map Sim (option_map (λ (options : SimOptions). let w : SimWords = record { new = new; old = old; script = script; options = options } in w) o) ≡ Some command → SpellsCommand (codes "sim" ∷ new ∷ old ∷ script ∷ others) command
sim_to None new old script others command is e = absurd cc
sim_to (Some options) new old script others command is e =
    subst (λ (c : Command). SpellsCommand (codes "sim" ∷ new ∷ old ∷ script ∷ others) c) (some_command (Sim (record { new = new; old = old; script = script; options = options })) command e) (SpellsSim new old script others options (all_to run_rows others no_options options is))

check_words : (words : List (List ℕ)) (command : Command) → option_map Check (project_words words) ≡ Some command → SpellsCommand (codes "check" ∷ words) command
check_words [] command e = absurd cc
check_words (project ∷ others) command e = check_to (project_options others) project others command refl e

tables_words : (words : List (List ℕ)) (command : Command) → option_map Tables (project_words words) ≡ Some command → SpellsCommand (codes "tables" ∷ words) command
tables_words [] command e = absurd cc
tables_words (project ∷ others) command e = tables_to (project_options others) project others command refl e

migrate_words : (words : List (List ℕ)) (command : Command) → option_map Migrate (project_words words) ≡ Some command → SpellsCommand (codes "migrate" ∷ words) command
migrate_words [] command e = absurd cc
migrate_words (project ∷ others) command e = migrate_to (project_options others) project others command refl e

sim_of_words : (words : List (List ℕ)) (command : Command) → option_map Sim (sim_words words) ≡ Some command → SpellsCommand (codes "sim" ∷ words) command
sim_of_words [] command e = absurd cc
sim_of_words (new ∷ []) command e = absurd cc
sim_of_words (new ∷ old ∷ []) command e = absurd cc
sim_of_words (new ∷ old ∷ script ∷ others) command e = sim_to (sim_options others) new old script others command refl e

decode_words : (words : List (List ℕ)) (command : Command) → option_map Decode (decode_word words) ≡ Some command → SpellsCommand (codes "decode" ∷ words) command
decode_words [] command e = absurd cc
decode_words (word ∷ []) command e = subst (λ (c : Command). SpellsCommand (codes "decode" ∷ word ∷ []) c) (some_command (Decode word) command e) (SpellsDecode word)
decode_words (word ∷ more ∷ others) command e = absurd cc

abbrev with_options : Address → List ℕ → Option SimOptions → Option DownloadWords
with_options at new o = option_map (λ (options : SimOptions). let w : DownloadWords = record { at = at; new = new; options = options } in w) o

download_to : (at : Option Address) (o : Option SimOptions) (address new : List ℕ) (others : List (List ℕ)) (command : Command) → address_value address ≡ at → sim_options others ≡ o
    → option_map Download (option_and_then (λ (to : Address). with_options to new o) at) ≡ Some command → SpellsCommand (codes "download" ∷ address ∷ new ∷ others) command
download_to None o address new others command is_at is e = absurd cc
download_to (Some at) None address new others command is_at is e = absurd cc
download_to (Some at) (Some options) address new others command is_at is e =
    subst (λ (c : Command). SpellsCommand (codes "download" ∷ address ∷ new ∷ others) c) (some_command (Download (record { at = at; new = new; options = options })) command e) (SpellsDownload address new others at options is_at (all_to run_rows others no_options options is))

download_of_words : (words : List (List ℕ)) (command : Command) → option_map Download (download_words words) ≡ Some command → SpellsCommand (codes "download" ∷ words) command
download_of_words [] command e = absurd cc
download_of_words (address ∷ []) command e = absurd cc
download_of_words (address ∷ new ∷ others) command e = download_to (address_value address) (sim_options others) address new others command refl refl e

abbrev gateway_with : Address → ℕ → List ℕ → List ℕ → Option SimOptions → Option GatewayWords
gateway_with at turns old script o = option_map (λ (options : SimOptions). let w : GatewayWords = record { at = at; old = old; script = script; turns = turns; catalogue = options.catalogue } in w) o

gateway_to : (at : Option Address) (turns : Option ℕ) (o : Option SimOptions) (address old script word : List ℕ) (others : List (List ℕ)) (command : Command) → address_value address ≡ at → turns_value word ≡ turns → project_options others ≡ o
    → option_map Gateway (option_and_then (λ (to : Address). option_and_then (λ (n : ℕ). gateway_with to n old script o) turns) at) ≡ Some command → SpellsCommand (codes "gateway" ∷ address ∷ old ∷ script ∷ word ∷ others) command
gateway_to None turns o address old script word others command is_at is_turns is e = absurd cc
gateway_to (Some at) None o address old script word others command is_at is_turns is e = absurd cc
gateway_to (Some at) (Some turns) None address old script word others command is_at is_turns is e = absurd cc
gateway_to (Some at) (Some turns) (Some options) address old script word others command is_at is_turns is e =
    subst (λ (c : Command). SpellsCommand (codes "gateway" ∷ address ∷ old ∷ script ∷ word ∷ others) c) (some_command (Gateway (record { at = at; old = old; script = script; turns = turns; catalogue = options.catalogue })) command e)
    (SpellsGateway address old script word others at turns options is_at (spells_read turns_rows word turns is_turns) (all_to project_rows others no_options options is))

gateway_of_words : (words : List (List ℕ)) (command : Command) → option_map Gateway (gateway_words words) ≡ Some command → SpellsCommand (codes "gateway" ∷ words) command
gateway_of_words [] command e = absurd cc
gateway_of_words (address ∷ []) command e = absurd cc
gateway_of_words (address ∷ old ∷ []) command e = absurd cc
gateway_of_words (address ∷ old ∷ script ∷ []) command e = absurd cc
gateway_of_words (address ∷ old ∷ script ∷ word ∷ others) command e = gateway_to (address_value address) (turns_value word) (project_options others) address old script word others command refl refl refl e

abbrev find_with : Address → Option Inquiry → Option FindWords
find_with at asks = option_map (λ (inquiry : Inquiry). let w : FindWords = record { at = at; inquiry = inquiry } in w) asks

find_to : (at : Option Address) (address : List ℕ) (command : Command) → address_value address ≡ at → option_map Find (option_and_then (λ (to : Address). find_with to (Some Search)) at) ≡ Some command
    → SpellsCommand (codes "find" ∷ address ∷ []) command
find_to None address command is e = absurd cc
find_to (Some at) address command is e = subst (λ (c : Command). SpellsCommand (codes "find" ∷ address ∷ []) c) (some_command (Find (record { at = at; inquiry = Search })) command e) (SpellsSearch address at is)

describe_to : (at : Option Address) (address : List ℕ) (command : Command) → address_value address ≡ at → option_map Find (option_and_then (λ (to : Address). find_with to (Some Description)) at) ≡ Some command
    → SpellsCommand (codes "find" ∷ address ∷ codes "describe" ∷ []) command
describe_to None address command is e = absurd cc
describe_to (Some at) address command is e = subst (λ (c : Command). SpellsCommand (codes "find" ∷ address ∷ codes "describe" ∷ []) c) (some_command (Find (record { at = at; inquiry = Description })) command e) (SpellsDescription address at is)

no_inquiry : (at : Option Address) (command : Command) → option_map Find (option_and_then (λ (to : Address). find_with to None) at) ≡ Some command → ⊥
no_inquiry None command e = absurd cc
no_inquiry (Some at) command e = absurd cc

word_to : (is : Bool) (address word : List ℕ) (command : Command) → bytes_eq word (codes "describe") ≡ is
    → option_map Find (option_and_then (λ (to : Address). find_with to (if is then Some Description else None)) (address_value address)) ≡ Some command → SpellsCommand (codes "find" ∷ address ∷ word ∷ []) command
word_to false address word command same e = absurd (no_inquiry (address_value address) command e)
word_to true address word command same e =
    subst (λ (w : List ℕ). SpellsCommand (codes "find" ∷ address ∷ w ∷ []) command) (sym ((bytes_eq-Decides word (codes "describe")).0 same)) (describe_to (address_value address) address command refl e)

find_of_words : (words : List (List ℕ)) (command : Command) → option_map Find (find_words words) ≡ Some command → SpellsCommand (codes "find" ∷ words) command
find_of_words [] command e = absurd cc
find_of_words (address ∷ []) command e = find_to (address_value address) address command refl e
find_of_words (address ∷ word ∷ []) command e = word_to (bytes_eq word (codes "describe")) address word command refl e
find_of_words (address ∷ word ∷ more ∷ others) command e = absurd (no_inquiry (address_value address) command e)

abbrev assign_with : Address → Option IndAddr → Option AssignWords
assign_with at ia = option_map (λ (x : IndAddr). let w : AssignWords = record { at = at; wanted = x } in w) ia

assign_to : (at : Option Address) (ia : Option IndAddr) (address wanted : List ℕ) (command : Command) → address_value address ≡ at → ind_value wanted ≡ ia
    → option_map Assign (option_and_then (λ (to : Address). assign_with to ia) at) ≡ Some command → SpellsCommand (codes "assign" ∷ address ∷ wanted ∷ []) command
assign_to None ia address wanted command is ia_is e = absurd cc
assign_to (Some at) None address wanted command is ia_is e = absurd cc
assign_to (Some at) (Some ia) address wanted command is ia_is e =
    subst (λ (c : Command). SpellsCommand (codes "assign" ∷ address ∷ wanted ∷ []) c) (some_command (Assign (record { at = at; wanted = ia })) command e) (SpellsAssign address wanted at ia is ia_is)

assign_sim_to : (ia : Option IndAddr) (units wanted : List ℕ) (command : Command) → ind_value wanted ≡ ia
    → option_map AssignSim (option_map (λ (x : IndAddr). let w : AssignSimWords = record { units = units; wanted = x } in w) ia) ≡ Some command → SpellsCommand (codes "assign" ∷ codes "sim" ∷ units ∷ wanted ∷ []) command
assign_sim_to None units wanted command ia_is e = absurd cc
assign_sim_to (Some ia) units wanted command ia_is e =
    subst (λ (c : Command). SpellsCommand (codes "assign" ∷ codes "sim" ∷ units ∷ wanted ∷ []) c) (some_command (AssignSim (record { units = units; wanted = ia })) command e) (SpellsAssignSim units wanted ia ia_is)

sim_word_to : (is : Bool) (sim units wanted : List ℕ) (command : Command) → bytes_eq sim (codes "sim") ≡ is
    → (if is then option_map AssignSim (assign_sim_words units wanted) else None) ≡ Some command → SpellsCommand (codes "assign" ∷ sim ∷ units ∷ wanted ∷ []) command
sim_word_to false sim units wanted command same e = absurd cc
sim_word_to true sim units wanted command same e =
    subst (λ (w : List ℕ). SpellsCommand (codes "assign" ∷ w ∷ units ∷ wanted ∷ []) command) (sym ((bytes_eq-Decides sim (codes "sim")).0 same)) (assign_sim_to (ind_value wanted) units wanted command refl e)

assign_of_words : (words : List (List ℕ)) (command : Command) → assign_asked words ≡ Some command → SpellsCommand (codes "assign" ∷ words) command
assign_of_words [] command e = absurd cc
assign_of_words (address ∷ []) command e = absurd cc
assign_of_words (address ∷ wanted ∷ []) command e = assign_to (address_value address) (ind_value wanted) address wanted command refl refl e
assign_of_words (sim ∷ units ∷ wanted ∷ []) command e = sim_word_to (bytes_eq sim (codes "sim")) sim units wanted command refl e
assign_of_words (sim ∷ units ∷ wanted ∷ more ∷ others) command e = absurd cc

abbrev big_with : ℕ → Option ℕ → Option BigWords
big_with devices from = option_map (λ (x : ℕ). let w : BigWords = record { devices = devices; start = x } in w) from

big_to : (devices from : Option ℕ) (number start : List ℕ) (command : Command) → from_1_to most_devices number ≡ devices → start_value start ≡ from
    → option_map Big (option_and_then (λ (n : ℕ). big_with n from) devices) ≡ Some command → SpellsCommand (codes "big" ∷ number ∷ start ∷ []) command
big_to None from number start command is start_is e = absurd cc
big_to (Some devices) None number start command is start_is e = absurd cc
big_to (Some devices) (Some from) number start command is start_is e =
    subst (λ (c : Command). SpellsCommand (codes "big" ∷ number ∷ start ∷ []) c) (some_command (Big (record { devices = devices; start = from })) command e) (SpellsBig number start devices from is start_is)

big_of_words : (words : List (List ℕ)) (command : Command) → option_map Big (big_words words) ≡ Some command → SpellsCommand (codes "big" ∷ words) command
big_of_words [] command e = absurd cc
big_of_words (number ∷ []) command e = absurd cc
big_of_words (number ∷ start ∷ []) command e = big_to (from_1_to most_devices number) (start_value start) number start command refl refl e
big_of_words (number ∷ start ∷ more ∷ others) command e = absurd cc

headed : (first text : List ℕ) (words : List (List ℕ)) (command : Command) → bytes_eq first text ≡ true → SpellsCommand (text ∷ words) command → SpellsCommand (first ∷ words) command
headed first text words command is s = subst (λ (w : List ℕ). SpellsCommand (w ∷ words) command) (sym ((bytes_eq-Decides first text).0 is)) s

asked_to : (a b m c d f g i h : Bool) (first : List ℕ) (words : List (List ℕ)) (command : Command) → bytes_eq first (codes "check") ≡ a → bytes_eq first (codes "tables") ≡ b → bytes_eq first (codes "migrate") ≡ m → bytes_eq first (codes "sim") ≡ c → bytes_eq first (codes "decode") ≡ d → bytes_eq first (codes "download") ≡ f → bytes_eq first (codes "gateway") ≡ g → bytes_eq first (codes "find") ≡ i → bytes_eq first (codes "big") ≡ h
    → (if a then option_map Check (project_words words) else (if b then option_map Tables (project_words words) else (if m then option_map Migrate (project_words words) else (if c then option_map Sim (sim_words words) else (if d then option_map Decode (decode_word words) else (if f then option_map Download (download_words words) else (if g then option_map Gateway (gateway_words words) else (if i then option_map Find (find_words words) else (if h then option_map Big (big_words words) else None))))))))) ≡ Some command
    → SpellsCommand (first ∷ words) command
asked_to true b m c d f g i h first words command is _ _ _ _ _ _ _ _ e = headed first (codes "check") words command is (check_words words command e)
asked_to false true m c d f g i h first words command _ is _ _ _ _ _ _ _ e = headed first (codes "tables") words command is (tables_words words command e)
asked_to false false true c d f g i h first words command _ _ is _ _ _ _ _ _ e = headed first (codes "migrate") words command is (migrate_words words command e)
asked_to false false false true d f g i h first words command _ _ _ is _ _ _ _ _ e = headed first (codes "sim") words command is (sim_of_words words command e)
asked_to false false false false true f g i h first words command _ _ _ _ is _ _ _ _ e = headed first (codes "decode") words command is (decode_words words command e)
asked_to false false false false false true g i h first words command _ _ _ _ _ is _ _ _ e = headed first (codes "download") words command is (download_of_words words command e)
asked_to false false false false false false true i h first words command _ _ _ _ _ _ is _ _ e = headed first (codes "gateway") words command is (gateway_of_words words command e)
asked_to false false false false false false false true h first words command _ _ _ _ _ _ _ is _ e = headed first (codes "find") words command is (find_of_words words command e)
asked_to false false false false false false false false true first words command _ _ _ _ _ _ _ _ is e = headed first (codes "big") words command is (big_of_words words command e)
asked_to false false false false false false false false false first words command _ _ _ _ _ _ _ _ _ e = absurd cc

spelled_to : (words : List (List ℕ)) (command : Command) → asked words ≡ Some command → SpellsCommand words command
spelled_to [] command e = absurd cc
spelled_to (first ∷ words) command e = assign_or_other (bytes_eq first (codes "assign")) first words command refl e
  where
    other_to : (first : List ℕ) (words : List (List ℕ)) (command : Command) → other_asked first words ≡ Some command → SpellsCommand (first ∷ words) command
    other_to first words command e =
        asked_to (bytes_eq first (codes "check")) (bytes_eq first (codes "tables")) (bytes_eq first (codes "migrate")) (bytes_eq first (codes "sim")) (bytes_eq first (codes "decode")) (bytes_eq first (codes "download")) (bytes_eq first (codes "gateway")) (bytes_eq first (codes "find")) (bytes_eq first (codes "big")) first words command refl refl refl refl refl refl refl refl refl e

    assign_or_other : (is : Bool) (first : List ℕ) (words : List (List ℕ)) (command : Command) → bytes_eq first (codes "assign") ≡ is → (if is then assign_asked words else other_asked first words) ≡ Some command → SpellsCommand (first ∷ words) command
    assign_or_other true first words command is e = headed first (codes "assign") words command is (assign_of_words words command e)
    assign_or_other false first words command is e = other_to first words command e

-- what words ask for is what is read of them
pub asks_is : (words : List (List ℕ)) (asks : Option Command) → WordsAsk words asks → asked words ≡ asks
asks_is words (Some command) s = asked_from words command s
asks_is words None none = by_read (asked words) refl
  where
    by_read : (read : Option Command) → asked words ≡ read → asked words ≡ None
    by_read None e = e
    by_read (Some command) e = absurd (none command (spelled_to words command e))

asks_read : (words : List (List ℕ)) (asks : Option Command) → asked words ≡ asks → WordsAsk words asks
asks_read words (Some command) e = spelled_to words command e
asks_read words None e = λ command s. absurd (let same : None ≡ Some command = sym e ∙ asked_from words command s in cc)

pub asks_just : (words : List (List ℕ)) (asks : Option Command) → WordsAsk words asks ↔ (asked words ≡ asks)
asks_just words asks = (asks_is words asks, asks_read words asks)
