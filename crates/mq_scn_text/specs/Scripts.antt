-- Scripts whose end wasn't read yet.
use Rattle.std.specs.Prelude.{ℕ, nat_lt, Bool, true, false, ◌&&◌, List, [], ◌∷◌, ◌++◌, length, if◌then◌else◌, Result, Ok, Err}
use Rattle.mq_history.specs.declared.scripts.ScriptLine.{ScriptLine}
use Rattle.mq_history.specs.declared.scripts.ScriptLine.TheVariants as lines
use Rattle.mq_scn_lines.specs.declared.fault.Limit.TheVariants as limits
use Rattle.mq_scn_lines.specs.declared.fault.LineFault.{LineFault}
use Rattle.mq_scn_lines.specs.declared.fault.LineFault.TheVariants as faults
use Rattle.mq_scn_lines.specs.Faults.{both}
use Rattle.mq_scn_heading.specs.from_scn_script.Bodies.{body_len}
use Rattle.mq_scn_heading.specs.from_scn_script.Lines.{script_line}
use Rattle.mq_scn_text.specs.declared.scripts.Script.{Script}

-- a script without lines
abbrev pub new_script : List ℕ → ℕ → Script
new_script label manager = record { connected = false; part = record { label = label; manager = manager; lines = [] } }

-- how many bytes of body a line puts
abbrev pub put_len : ScriptLine → ℕ
put_len (lines.Mqput handle body options) = body_len body
put_len (lines.Mqput1 name qmgr body options) = body_len body
put_len (lines.Reply body options) = body_len body
put_len _ = 0

abbrev pub connects : ScriptLine → Bool
connects (lines.Mqconn name) = true
connects _ = false

-- an MQCONN has no MQDISC behind it yet
abbrev pub connected_after : Bool → ScriptLine → Bool
connected_after connected (lines.Mqconn name) = true
connected_after connected lines.Mqdisc = false
connected_after connected _ = connected

-- 25,000 lines of one script
abbrev pub room : ℕ → Result (Unit {0}) LineFault
room count = if nat_lt count 25000 then Ok tt else Err (faults.Limit limits.ScriptLines)

-- an MQCONN stands only where the one before it has an MQDISC behind it
abbrev pub in_order : Bool → ScriptLine → Result ScriptLine LineFault
in_order connected line = if connected && connects line then Err faults.Order else Ok line

abbrev pub ordered : Bool → Result (Unit {0} × ScriptLine) LineFault → Result ScriptLine LineFault
ordered connected (Ok p) = in_order connected p.1
ordered connected (Err fault) = Err fault

-- what the next line of a script says
unfoldable pub script_read : ℕ → List ℕ → Script → Result ScriptLine LineFault
script_read left line s = ordered s.connected (both (room (length s.part.lines)) (script_line left line))

-- the script with one more line
abbrev pub script_added : ScriptLine → Script → Script
script_added line s = record { connected = connected_after s.connected line; part = record s.part { lines = s.part.lines ++ line ∷ [] } }
