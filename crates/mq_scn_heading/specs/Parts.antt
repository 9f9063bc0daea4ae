-- The parts of a scenario: their words and their order.
use Rattle.std.specs.Prelude.{ℕ, ◌+◌, nat_lt, ◌||◌, List, [], ◌∷◌, codes, length, if◌then◌else◌, Option, Some, None, Result, Ok, Err, find}
use Rattle.std.specs.Str.{bytes_eq}
use Rattle.mq_history.specs.declared.scenario.Scenario.{Scenario}
use Rattle.mq_scn_lines.specs.declared.fault.Limit.{Limit}
use Rattle.mq_scn_lines.specs.declared.fault.Limit.TheVariants as limits
use Rattle.mq_scn_lines.specs.declared.fault.LineFault.{LineFault}
use Rattle.mq_scn_lines.specs.declared.fault.LineFault.TheVariants as faults
use Rattle.mq_scn_heading.specs.declared.parts.PartWord.{PartWord}
use Rattle.mq_scn_heading.specs.declared.parts.PartWord.TheVariants as parts
use Rattle.mq_scn_heading.specs.declared.parts.Stage.{Stage}
use Rattle.mq_scn_heading.specs.declared.parts.Stage.TheVariants as stages

abbrev pub part_words : List PartWord
part_words = parts.Network ∷ parts.Moment ∷ parts.Manager ∷ parts.Cable ∷ parts.Mqsc ∷ parts.Rules ∷ parts.Script ∷ parts.Monitor ∷ parts.Steps ∷ []

abbrev pub part_text : PartWord → List ℕ
part_text parts.Network = codes "NETWORK"
part_text parts.Moment = codes "MOMENT"
part_text parts.Manager = codes "QMGR"
part_text parts.Cable = codes "CABLE"
part_text parts.Mqsc = codes "MQSC"
part_text parts.Rules = codes "RULES"
part_text parts.Script = codes "SCRIPT"
part_text parts.Monitor = codes "MONITOR"
part_text parts.Steps = codes "STEPS"

-- the part that begins with a word
unfoldable pub part_word_of : List ℕ → Option PartWord
part_word_of word = find (λ part. bytes_eq (part_text part) word) part_words

-- The order: NETWORK, MOMENT or none, managers, cables, then sections, scripts and monitors, then the steps.
abbrev pub stage_rank : Stage → ℕ
stage_rank stages.Start = 0
stage_rank stages.Network = 1
stage_rank stages.Moment = 2
stage_rank stages.Managers = 3
stage_rank stages.Cables = 4
stage_rank stages.Sections = 5
stage_rank stages.Steps = 6

-- the first and the last stage at which a part may stand
abbrev pub from_stage : PartWord → Stage
from_stage parts.Network = stages.Start
from_stage parts.Moment = stages.Network
from_stage parts.Manager = stages.Network
from_stage _ = stages.Managers

abbrev pub up_to_stage : PartWord → Stage
up_to_stage parts.Network = stages.Start
up_to_stage parts.Moment = stages.Network
up_to_stage parts.Manager = stages.Managers
up_to_stage parts.Cable = stages.Cables
up_to_stage _ = stages.Sections

-- the stage behind it
abbrev pub stage_behind : PartWord → Stage
stage_behind parts.Network = stages.Network
stage_behind parts.Moment = stages.Moment
stage_behind parts.Manager = stages.Managers
stage_behind parts.Cable = stages.Cables
stage_behind parts.Steps = stages.Steps
stage_behind _ = stages.Sections

abbrev pub room_of : ℕ → ℕ → Limit → Option Limit
room_of count most limit = if nat_lt count most then None else Some limit

-- the limit that one more such part would pass
abbrev pub is_full : Scenario → PartWord → Option Limit
is_full s parts.Manager = room_of (length s.managers) 8 limits.Managers
is_full s parts.Cable = room_of (length s.cables) 32 limits.Cables
is_full s parts.Script = room_of (length s.scripts) 64 limits.Scripts
is_full s parts.Mqsc = room_of (length s.sections + length s.rules) 64 limits.Sections
is_full s parts.Rules = room_of (length s.sections + length s.rules) 64 limits.Sections
is_full s parts.Monitor = room_of (length s.monitors) 16 limits.Monitors
is_full s _ = None

abbrev pub in_order : Stage → PartWord → Result Stage LineFault
in_order stage word = if nat_lt (stage_rank stage) (stage_rank (from_stage word)) || nat_lt (stage_rank (up_to_stage word)) (stage_rank stage) then Err faults.Order else Ok (stage_behind word)

abbrev pub unless_full : Option Limit → Result Stage LineFault → Result Stage LineFault
unless_full None next = next
unless_full (Some limit) next = Err (faults.Limit limit)

-- the stage behind a part, where there is room for it and it may stand here
abbrev pub allowed : Scenario → Stage → PartWord → Result Stage LineFault
allowed s stage word = unless_full (is_full s word) (in_order stage word)
