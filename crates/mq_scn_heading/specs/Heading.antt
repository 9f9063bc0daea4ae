-- What the lines of the heading say, and those with which sections, scripts and monitors begin.
use Rattle.std.specs.Prelude.{ℕ, ◌==◌, false, List, [], ◌∷◌, codes, if◌then◌else◌, Option, Some, None, Result, Ok, Err, position}
use Rattle.std.specs.Str.{bytes_eq}
use Rattle.mq_cable.specs.declared.fault.Fault.{Fault}
use Rattle.mq_history.specs.declared.scenario.Scenario.{Scenario}
use Rattle.mq_history.specs.declared.scenario.ManagerLine.{ManagerLine}
use Rattle.mq_history.specs.declared.scenario.CableLine.{CableLine}
use Rattle.mq_scn_lines.specs.declared.fault.Limit.TheVariants as limits
use Rattle.mq_scn_lines.specs.declared.fault.LineFault.{LineFault}
use Rattle.mq_scn_lines.specs.declared.fault.LineFault.TheVariants as faults
use Rattle.mq_scn_lines.specs.Faults.{both}
use Rattle.mq_scn_lines.specs.Words.{is_open, words_of}
use Rattle.mq_scn_lines.specs.Numbers.{ranged}
use Rattle.mq_scn_lines.specs.Operands.{bracketed, name_in}
use Rattle.mq_scn_heading.specs.declared.parts.PartWord.{PartWord}
use Rattle.mq_scn_heading.specs.declared.parts.PartWord.TheVariants as parts
use Rattle.mq_scn_heading.specs.declared.parts.Stage.{Stage}
use Rattle.mq_scn_heading.specs.declared.heading.PartLine.{PartLine}
use Rattle.mq_scn_heading.specs.declared.heading.PartLine.TheVariants as lines
use Rattle.mq_scn_heading.specs.Parts.{allowed}
use Rattle.mq_scn_heading.specs.Lookup.{manager_place, manager_at, new_label}
use Rattle.mq_scn_heading.specs.Cables.{cable_faults}

abbrev pub alone : PartLine → List (List ℕ) → Result PartLine LineFault
alone line [] = Ok line
alone line (word ∷ words) = Err faults.Form

-- ---- MOMENT n

abbrev pub at_moment : Result ℕ LineFault → Result PartLine LineFault
at_moment (Ok moment) = Ok (lines.Moment moment)
at_moment (Err fault) = Err fault

abbrev pub moment_line : List (List ℕ) → Result PartLine LineFault
moment_line [] = Err faults.Form
moment_line (word ∷ []) = at_moment (ranged faults.Number 0 253300000000000 word)
moment_line (word ∷ other ∷ words) = Err faults.Form

-- ---- QMGR name [LOGMAX(n)]

abbrev pub unless_there : List ℕ → Option ℕ → Result (List ℕ) LineFault
unless_there name None = Ok name
unless_there name (Some place) = Err faults.Twice

abbrev pub new_name : List ManagerLine → Result (List ℕ) LineFault → Result (List ℕ) LineFault
new_name managers (Ok name) = unless_there name (manager_place name managers)
new_name managers (Err fault) = Err fault

-- a name that no manager has yet
abbrev pub new_manager : List ManagerLine → List ℕ → Result (List ℕ) LineFault
new_manager managers word = new_name managers (name_in 48 word)

abbrev pub log_number : Option (List ℕ) → Result ℕ LineFault
log_number None = Err faults.Form
log_number (Some text) = ranged (faults.Limit limits.LogMax) 4096 268435456 text

abbrev pub log_max_in : List ℕ → Result ℕ LineFault
log_max_in word = log_number (bracketed (codes "LOGMAX(") word)

abbrev pub log_max : List (List ℕ) → Result ℕ LineFault
log_max [] = Ok 268435456
log_max (word ∷ []) = log_max_in word
log_max (word ∷ other ∷ words) = Err faults.Form

abbrev pub managed : Result (List ℕ × ℕ) LineFault → Result PartLine LineFault
managed (Ok p) = Ok (lines.Manager (record { name = p.0; log_max = p.1 }))
managed (Err fault) = Err fault

abbrev pub manager_line : List ManagerLine → List (List ℕ) → Result PartLine LineFault
manager_line managers [] = Err faults.Form
manager_line managers (word ∷ words) = managed (both (new_manager managers word) (log_max words))

-- ---- CABLE channel sender receiver [OUT faults] [BACK faults]

abbrev pub channel_place : List ℕ → List CableLine → Option ℕ
channel_place channel cables = position (λ (c : CableLine). bytes_eq c.channel channel) cables

abbrev pub new_channel_name : List CableLine → Result (List ℕ) LineFault → Result (List ℕ) LineFault
new_channel_name cables (Ok channel) = unless_there channel (channel_place channel cables)
new_channel_name cables (Err fault) = Err fault

-- a name of a channel that no cable has yet
abbrev pub new_channel : List CableLine → List ℕ → Result (List ℕ) LineFault
new_channel cables word = new_channel_name cables (name_in 20 word)

abbrev pub apart : Result (ℕ × ℕ) LineFault → Result (ℕ × ℕ) LineFault
apart (Ok p) = if p.0 == p.1 then Err faults.Twice else Ok (p.0, p.1)
apart (Err fault) = Err fault

-- the sender and the receiver, which differ
abbrev pub ends_of : List ManagerLine → List ℕ → List ℕ → Result (ℕ × ℕ) LineFault
ends_of managers sender receiver = apart (both (manager_at managers sender) (manager_at managers receiver))

abbrev pub cabled : Result ((List ℕ × (ℕ × ℕ)) × (List Fault × List Fault)) LineFault → Result PartLine LineFault
cabled (Ok p) = Ok (lines.Cable (record { channel = p.0.0; sender = p.0.1.0; receiver = p.0.1.1; out = p.1.0; back = p.1.1 }))
cabled (Err fault) = Err fault

-- the channel, and its two ends
unfoldable pub connected : Scenario → List ℕ → List ℕ → List ℕ → Result (List ℕ × (ℕ × ℕ)) LineFault
connected s channel sender receiver = both (new_channel s.cables channel) (ends_of s.managers sender receiver)

-- a cable, with the words behind its ends
unfoldable pub cable_with : Scenario → List ℕ → List ℕ → List ℕ → List (List ℕ) → Result PartLine LineFault
cable_with s channel sender receiver words = cabled (both (connected s channel sender receiver) (cable_faults words))

abbrev pub cable_line : Scenario → List (List ℕ) → Result PartLine LineFault
cable_line s [] = Err faults.Form
cable_line s (channel ∷ []) = Err faults.Form
cable_line s (channel ∷ sender ∷ []) = Err faults.Form
cable_line s (channel ∷ sender ∷ receiver ∷ words) = cable_with s channel sender receiver words

-- ---- MQSC, RULES and SCRIPT, each with a label and a manager

-- a label that is new, and a manager
unfoldable pub owned : Scenario → List ℕ → List ℕ → Result (List ℕ × ℕ) LineFault
owned s label manager = both (new_label s label) (manager_at s.managers manager)

abbrev pub labelled : Scenario → List (List ℕ) → Result (List ℕ × ℕ) LineFault
labelled s [] = Err faults.Form
labelled s (label ∷ []) = Err faults.Form
labelled s (label ∷ manager ∷ []) = owned s label manager
labelled s (label ∷ manager ∷ other ∷ words) = Err faults.Form

abbrev pub mqsc_of : Result (List ℕ × ℕ) LineFault → Result PartLine LineFault
mqsc_of (Ok p) = Ok (lines.Mqsc p.0 p.1)
mqsc_of (Err fault) = Err fault

abbrev pub mqsc_line : Scenario → List (List ℕ) → Result PartLine LineFault
mqsc_line s words = mqsc_of (labelled s words)

abbrev pub rules_of : Result (List ℕ × ℕ) LineFault → Result PartLine LineFault
rules_of (Ok p) = Ok (lines.Rules p.0 p.1)
rules_of (Err fault) = Err fault

abbrev pub rules_line : Scenario → List (List ℕ) → Result PartLine LineFault
rules_line s words = rules_of (labelled s words)

abbrev pub script_of : Result (List ℕ × ℕ) LineFault → Result PartLine LineFault
script_of (Ok p) = Ok (lines.Script p.0 p.1)
script_of (Err fault) = Err fault

abbrev pub script_line : Scenario → List (List ℕ) → Result PartLine LineFault
script_line s words = script_of (labelled s words)

-- ---- MONITOR label manager QUEUE(name)

abbrev pub needed_queue : Option (List ℕ) → Result (List ℕ) LineFault
needed_queue None = Err faults.Form
needed_queue (Some text) = name_in 48 text

abbrev pub queue_in : List ℕ → Result (List ℕ) LineFault
queue_in word = needed_queue (bracketed (codes "QUEUE(") word)

abbrev pub monitored : Result ((List ℕ × ℕ) × List ℕ) LineFault → Result PartLine LineFault
monitored (Ok p) = Ok (lines.Monitor (record { label = p.0.0; manager = p.0.1; queue = p.1 }))
monitored (Err fault) = Err fault

-- a monitor of a queue
unfoldable pub monitor_with : Scenario → List ℕ → List ℕ → List ℕ → Result PartLine LineFault
monitor_with s label manager queue = monitored (both (owned s label manager) (queue_in queue))

abbrev pub monitor_line : Scenario → List (List ℕ) → Result PartLine LineFault
monitor_line s [] = Err faults.Form
monitor_line s (label ∷ []) = Err faults.Form
monitor_line s (label ∷ manager ∷ []) = Err faults.Form
monitor_line s (label ∷ manager ∷ queue ∷ []) = monitor_with s label manager queue
monitor_line s (label ∷ manager ∷ queue ∷ other ∷ words) = Err faults.Form

-- ---- all of them

unfoldable pub part_line : Scenario → PartWord → List (List ℕ) → Result PartLine LineFault
part_line s parts.Network words = alone lines.Network words
part_line s parts.Moment words = moment_line words
part_line s parts.Manager words = manager_line s.managers words
part_line s parts.Cable words = cable_line s words
part_line s parts.Mqsc words = mqsc_line s words
part_line s parts.Rules words = rules_line s words
part_line s parts.Script words = script_line s words
part_line s parts.Monitor words = monitor_line s words
part_line s parts.Steps words = alone lines.Steps words

-- what the line says with which a part begins, and the stage behind it
unfoldable pub part_read : Scenario → Stage → PartWord → List ℕ → Result (Stage × PartLine) LineFault
part_read s stage word rest = if is_open false rest then Err faults.Form else both (allowed s stage word) (part_line s word (words_of rest))
