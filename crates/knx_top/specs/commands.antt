-- The commands: what the words of a call ask for, a command with the names of its files, its options and its jobs, or nothing; and what such a call reaches, reads
-- and does. A file for each has its words, what it reads, its tests, and what a call of it comes to.
pub mod assign
pub mod big
pub mod check
pub mod decode
pub mod download
pub mod find
pub mod gateway
pub mod migrate
pub mod sim
pub mod tables
use Rattle.std.specs.Prelude.{ℕ, List, None, Option, Some, bytes_eq, ◌≡◌, ◌∷◌, codes, [], if◌then◌else◌, Bool, true, false}
use Rattle.line_model.specs.Dialled.{Address, DialerNow}
use Rattle.knx_top.specs.commands.assign.{AssignSimWords, AssignWords, assign_sim_words, assign_sim_words_of, assign_words, assign_words_of, RunsAssign, RunsAssignSim}
use Rattle.knx_model.specs.Addresses.{ind_value}
use Rattle.knx_model.specs.declared.address.IndAddr.{IndAddr}
use Rattle.knx_top.specs.commands.big.{BigWords, big_words, most_devices, start_value, RunsMade}
use Rattle.knx_top.specs.commands.download.{DownloadWords, download_words, download_words_of, RunsDialled, files_of_download}
use Rattle.discovery.specs.declared.inquiry.Inquiry.TheVariants.{Search, Description}
use Rattle.knx_top.specs.commands.find.{FindWords, find_words, find_words_of, RunsFind}
use Rattle.knx_top.specs.commands.gateway.{GatewayWords, gateway_words, gateway_words_of, turns_rows, RunsGateway, files_of_gateway}
use Rattle.call_parts.specs.Project.{ProjectWords, project_words, project_words_of, TellsOfProject, files_of_project}
use Rattle.call_parts.specs.declared.options.SimOptions.{SimOptions}
use Rattle.call_parts.specs.Options.{no_options, project_rows, run_rows}
use Rattle.call_parts.specs.OptionValues.{from_1_to}
use Rattle.knx_top.specs.commands.sim.{SimWords, sim_words, sim_words_of, RunsScript, files_of_sim}
use Rattle.call_parts.specs.Fronts.{Spells, SpellsAll}
use Rattle.call_parts.specs.Host.{address_value}
use Rattle.knx_top.specs.commands.decode.{decode_word, TellsOfFrame}
use Rattle.std.specs.Option.{option_map}
use Rattle.knx_top.specs.declared.commands.Command.{Command as Parsed}
use Rattle.bus_sim.specs.Loaded.{BusNow}
use Rattle.address_sim.specs.Driven.{BusNow as UnitsNow}
use Rattle.knx_top.specs.Ran.{FaultsOfLine, Left}
use Rattle.call_parts.specs.declared.ending.End.{End}
use Rattle.knx_model.specs.Outside.{FilesNow}
use Rattle.knx_top.specs.commands.check.{IsCountsText}
use Rattle.knx_top.specs.commands.migrate.{IsMigratedText}
use Rattle.knx_top.specs.commands.tables.{IsTablesText}
use Rattle.call_parts.specs.Input.{OnlyRose}
use Rattle.line_model.specs.declared.log.Report.{Report}
use Rattle.knx_top.specs.declared.commands.Command.TheVariants as parsed
use Rattle.call_words.specs.declared.stop.Stop.TheVariants as stop
use Rattle.call_parts.specs.declared.ending.End.TheVariants as ends

pub data Command : Type 0 where
  Check : ProjectWords → Command
  Tables : ProjectWords → Command
  Migrate : ProjectWords → Command
  Sim : SimWords → Command
  Decode : List ℕ → Command
  Download : DownloadWords → Command
  Gateway : GatewayWords → Command
  Find : FindWords → Command
  Assign : AssignWords → Command
  AssignSim : AssignSimWords → Command
  Big : BigWords → Command

-- ---- the words that spell a command

-- `check P`, `tables P`, `migrate P`, each with its option behind, `sim NEW OLD SCRIPT` with options and jobs, `decode HEX`, `download ADDR NEW` with options and jobs,
-- `gateway ADDR OLD SCRIPT turns=N` with its option behind, `find ADDR`, `find ADDR describe`, `assign ADDR IA`, `assign sim UNITS IA`, and `big N START`
pub data SpellsCommand : List (List ℕ) → Command → Type 0 where
  SpellsCheck : (project : List ℕ) (others : List (List ℕ)) (options : SimOptions) → SpellsAll project_rows others no_options options
      → SpellsCommand (codes "check" ∷ project ∷ others) (Check (record { project = project; catalogue = options.catalogue }))
  SpellsTables : (project : List ℕ) (others : List (List ℕ)) (options : SimOptions) → SpellsAll project_rows others no_options options
      → SpellsCommand (codes "tables" ∷ project ∷ others) (Tables (record { project = project; catalogue = options.catalogue }))
  SpellsMigrate : (project : List ℕ) (others : List (List ℕ)) (options : SimOptions) → SpellsAll project_rows others no_options options
      → SpellsCommand (codes "migrate" ∷ project ∷ others) (Migrate (record { project = project; catalogue = options.catalogue }))
  SpellsSim : (new old script : List ℕ) (others : List (List ℕ)) (options : SimOptions) → SpellsAll run_rows others no_options options
      → SpellsCommand (codes "sim" ∷ new ∷ old ∷ script ∷ others) (Sim (record { new = new; old = old; script = script; options = options }))
  SpellsDecode : (word : List ℕ) → SpellsCommand (codes "decode" ∷ word ∷ []) (Decode word)
  SpellsDownload : (address new : List ℕ) (others : List (List ℕ)) (at : Address) (options : SimOptions) → address_value address ≡ Some at → SpellsAll run_rows others no_options options
      → SpellsCommand (codes "download" ∷ address ∷ new ∷ others) (Download (record { at = at; new = new; options = options }))
  SpellsGateway : (address old script number : List ℕ) (others : List (List ℕ)) (at : Address) (turns : ℕ) (options : SimOptions) → address_value address ≡ Some at → Spells turns_rows number turns → SpellsAll project_rows others no_options options
      → SpellsCommand (codes "gateway" ∷ address ∷ old ∷ script ∷ number ∷ others) (Gateway (record { at = at; old = old; script = script; turns = turns; catalogue = options.catalogue }))
  SpellsSearch : (address : List ℕ) (at : Address) → address_value address ≡ Some at → SpellsCommand (codes "find" ∷ address ∷ []) (Find (record { at = at; inquiry = Search }))
  SpellsDescription : (address : List ℕ) (at : Address) → address_value address ≡ Some at → SpellsCommand (codes "find" ∷ address ∷ codes "describe" ∷ []) (Find (record { at = at; inquiry = Description }))
  SpellsAssign : (address wanted : List ℕ) (at : Address) (ia : IndAddr) → address_value address ≡ Some at → ind_value wanted ≡ Some ia → SpellsCommand (codes "assign" ∷ address ∷ wanted ∷ []) (Assign (record { at = at; wanted = ia }))
  SpellsAssignSim : (units wanted : List ℕ) (ia : IndAddr) → ind_value wanted ≡ Some ia → SpellsCommand (codes "assign" ∷ codes "sim" ∷ units ∷ wanted ∷ []) (AssignSim (record { units = units; wanted = ia }))
  SpellsBig : (number start : List ℕ) (devices from : ℕ) → from_1_to most_devices number ≡ Some devices → start_value start ≡ Some from
      → SpellsCommand (codes "big" ∷ number ∷ start ∷ []) (Big (record { devices = devices; start = from }))

-- what words ask for: the command that they spell; and nothing, where they spell none
abbrev pub WordsAsk : List (List ℕ) → Option Command → Type 0
WordsAsk words (Some command) = SpellsCommand words command
WordsAsk words None = (command : Command) → ¬ SpellsCommand words command

-- ---- what it reaches and reads

-- it reaches a network
abbrev pub reaches_network : Option Command → Bool
reaches_network (Some (Download words)) = true
reaches_network (Some (Gateway words)) = true
reaches_network (Some (Find words)) = true
reaches_network (Some (Assign words)) = true
reaches_network _ = false

-- it begins the simulated bus of units anew
abbrev pub begins_units : Option Command → Bool
begins_units (Some (AssignSim words)) = true
begins_units _ = false

-- it begins a run of the hub
abbrev pub begins_run : Option Command → Bool
begins_run (Some (Sim words)) = true
begins_run (Some (Download words)) = true
begins_run (Some (Big words)) = true
begins_run _ = false

-- the files that the words name, in the order in which they are read
abbrev pub files_of : Option Command → List (List ℕ)
files_of None = []
files_of (Some (Check words)) = files_of_project words
files_of (Some (Tables words)) = files_of_project words
files_of (Some (Migrate words)) = files_of_project words
files_of (Some (Sim words)) = files_of_sim words
files_of (Some (Decode word)) = []
files_of (Some (Download words)) = files_of_download words
files_of (Some (Gateway words)) = files_of_gateway words
files_of (Some (Find words)) = []
files_of (Some (Assign words)) = []
files_of (Some (AssignSim words)) = words.units ∷ []
files_of (Some (Big words)) = []

-- ---- what it does

-- what a call finds outside, and leaves there: what the files tell, the simulated line, the simulated bus of units, what the dialer tells, and the report of
-- the run, where one was begun
pub record Outside : Type 0 where
  pub files : FilesNow
  pub line : BusNow
  pub units : UnitsNow
  pub dialer : DialerNow
  pub report : Option Report

-- what a run leaves of it
abbrev pub left_in : Outside → Left
left_in o = record { line = o.line; report = o.report }

-- no run was begun
pub record HasNoRun (before after : Outside) : Type 0 where
  pub line : after.line ≡ before.line
  pub report : after.report ≡ None

-- What each command does, by what it finds outside, what it leaves there, and what is written of it: it tells the first test that fails, or exactly the text
-- that the definitions give for what was read. `Replied end` says that this end is written, with its status.
abbrev pub Does : Option Command → Outside → Outside → (End → Type 0) → Type 0
-- other words than a command's are told so
Does None before after Replied = Replied (ends.Stops stop.Usage) × OnlyRose None before.files.faults after.files.faults × HasNoRun before after
Does (Some (Check words)) before after Replied = TellsOfProject IsCountsText words before.files after.files Replied × HasNoRun before after
Does (Some (Tables words)) before after Replied = TellsOfProject IsTablesText words before.files after.files Replied × HasNoRun before after
-- the text of the project in version 2, which means for each device what the project means
Does (Some (Migrate words)) before after Replied = TellsOfProject IsMigratedText words before.files after.files Replied × HasNoRun before after
-- One run keeps the whole headline (`Ran`): whatever is lost, repeated or cut, at every moment each device keeps its starting content, or is stopped, or runs
-- what the project says; each group telegram acts on exactly the objects that the running configuration links; done is told only where what the project says
-- runs; no tunnelling request acts twice; and so on, sentence by sentence. That the link failed, or had no memory, is told exactly where one call of the simulated
-- line did so, which fails only at the last time of 64 bits; or there was no memory before the run's first turn.
Does (Some (Sim words)) before after Replied = RunsScript words before.files after.files before.line (left_in after) Replied × FaultsOfLine after.report after.line
-- the frame of the octets that the word writes
Does (Some (Decode word)) before after Replied = TellsOfFrame word Replied × OnlyRose None before.files.faults after.files.faults × HasNoRun before after
-- the same run over a link that is dialled, so far as that tells of itself
Does (Some (Download words)) before after Replied = RunsDialled words before.files after.files before.dialer after.dialer after.report Replied × (after.line ≡ before.line)
-- the simulated line is served at a port
Does (Some (Gateway words)) before after Replied = RunsGateway words before.files after.files before.dialer after.dialer before.line after.line Replied × (after.report ≡ None)
-- what answers a search, or describes itself
Does (Some (Find words)) before after Replied = RunsFind words before.dialer after.dialer Replied × OnlyRose None before.files.faults after.files.faults × HasNoRun before after
-- an address is given to the one unit in programming mode, over a link that is dialled, or on the simulated bus of units: there each unit has at every moment
-- its start's address, or is in programming mode and has the wanted one; and where nothing was lost, its units determine what is told
Does (Some (Assign words)) before after Replied = RunsAssign words before.dialer after.dialer Replied × OnlyRose None before.files.faults after.files.faults × HasNoRun before after
Does (Some (AssignSim words)) before after Replied = RunsAssignSim words before.files after.files before.units after.units Replied × HasNoRun before after
-- the line that the words make is run as by `sim`, and nothing is refused
Does (Some (Big words)) before after Replied = RunsMade words before.line (left_in after) Replied × OnlyRose None before.files.faults after.files.faults × FaultsOfLine after.report after.line

-- ---- the command that words spell, as it is read

-- the command of the words behind `assign`
abbrev pub assign_asked : List (List ℕ) → Option Command
assign_asked (address ∷ wanted ∷ []) = option_map Assign (assign_words address wanted)
assign_asked (sim ∷ units ∷ wanted ∷ []) = if bytes_eq sim (codes "sim") then option_map AssignSim (assign_sim_words units wanted) else None
assign_asked _ = None

-- the command of the words behind another first word
abbrev pub other_asked : List ℕ → List (List ℕ) → Option Command
other_asked command words =
    if bytes_eq command (codes "check") then option_map Check (project_words words)
    else (if bytes_eq command (codes "tables") then option_map Tables (project_words words)
    else (if bytes_eq command (codes "migrate") then option_map Migrate (project_words words)
    else (if bytes_eq command (codes "sim") then option_map Sim (sim_words words)
    else (if bytes_eq command (codes "decode") then option_map Decode (decode_word words)
    else (if bytes_eq command (codes "download") then option_map Download (download_words words)
    else (if bytes_eq command (codes "gateway") then option_map Gateway (gateway_words words)
    else (if bytes_eq command (codes "find") then option_map Find (find_words words)
    else (if bytes_eq command (codes "big") then option_map Big (big_words words)
    else None))))))))

-- the command of the words; other words are no command
abbrev pub asked : List (List ℕ) → Option Command
asked [] = None
asked (command ∷ words) = if bytes_eq command (codes "assign") then assign_asked words else other_asked command words

-- ---- the command in the code

abbrev pub command_of : Parsed → Command
command_of (parsed.Check names) = Check (project_words_of names)
command_of (parsed.Tables names) = Tables (project_words_of names)
command_of (parsed.Migrate names) = Migrate (project_words_of names)
command_of (parsed.Sim names) = Sim (sim_words_of names)
command_of (parsed.Decode word) = Decode word.now
command_of (parsed.Download names) = Download (download_words_of names)
command_of (parsed.Gateway names) = Gateway (gateway_words_of names)
command_of (parsed.Find names) = Find (find_words_of names)
command_of (parsed.Assign names) = Assign (assign_words_of names)
command_of (parsed.AssignSim names) = AssignSim (assign_sim_words_of names)
command_of (parsed.Big words) = Big words
