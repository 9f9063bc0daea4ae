-- Values that commands give: what a run's ledger has of definitions, and the commands of its histories.
use Rattle.std.specs.Prelude.{◌≡◌, ℕ, List, [], ◌∷◌, map, Option, Some, None, slice_get}
use Rattle.mq_base.specs.Members.{Mem}
use Rattle.mq_objects.specs.declared.object.Definitions.{Definitions}
use Rattle.mq_sc_parse.specs.declared.command.Command.{Command}
use Rattle.mq_sc_parse.specs.declared.command.Command.TheVariants as lines
use Rattle.mq_history.specs.declared.acts.Act.TheVariants as acts
use Rattle.mq_history.specs.declared.calls.Call.{Call}
use Rattle.mq_history.specs.declared.calls.Call.TheVariants as calls
use Rattle.mq_history.specs.declared.calls.Entry.{Entry}
use Rattle.mq_history.specs.declared.history.History.{History}
use Rattle.mq_history.specs.declared.scenario.Scenario.{Scenario}
use Rattle.mq_history.specs.declared.scripts.ScriptLine.{ScriptLine}
use Rattle.mq_history.specs.declared.story.ManagerPlaces.{ManagerPlaces}
use Rattle.mq_spec_node.specs.Replays.{opening_node}
use Rattle.mq_spec_network.specs.Given.{surroundings}
use Rattle.mq_spec_network.specs.Ledger.{Ledger, Stopped, Users}
use Rattle.mq_spec_network.specs.Story.{entries_at}
use Rattle.mq_spec_network.specs.Tasks.{Task, Trying}
use Rattle.mq_spec_network.specs.Tasks.Task.{Ask, Script, Lines, Phase}
use Rattle.mq_nodes.specs.Texts.{LineFits}
use Rattle.mq_law_image.specs.Values.{AreObjectTexts, IsCommandText}

-- a command on objects has values such as a text gives
abbrev pub IsTextOf : Command → Type 0
IsTextOf (lines.Objects c) = IsCommandText c
IsTextOf _ = Unit {0}

abbrev pub IsTextCall : Call → Type 0
IsTextCall (calls.Act (acts.Obey c)) = IsTextOf c
IsTextCall _ = Unit {0}

-- so have all of a run, and the definitions with which its managers begin
abbrev pub AreTextCalls : List History → Type 0
AreTextCalls hs = (m : ℕ) (e : Entry) → Mem e (entries_at hs m) → IsTextCall e.call

abbrev pub OpenTexts : Scenario → List History → Type 0
OpenTexts s hs = (m : ℕ) (h : History) → slice_get hs m ≡ Some h → AreObjectTexts (opening_node (surroundings s m) h).manager.definitions

-- the definitions of all managers, and the calls whose writes were stopped
abbrev pub defined_in : Ledger → List Definitions
defined_in l = map (λ (p : ManagerPlaces). p.definitions) l.places

abbrev pub cut_in : Ledger → List (Option Stopped)
cut_in l = map (λ (u : Users). u.cut) l.users

abbrev pub AllTexts : List Definitions → Type 0
AllTexts [] = Unit {0}
AllTexts (d ∷ ds) = AreObjectTexts d × AllTexts ds

abbrev pub IsCutText : Option Stopped → Type 0
IsCutText None = Unit {0}
IsCutText (Some s) = IsTextCall s.entry.call

abbrev pub AllCutTexts : List (Option Stopped) → Type 0
AllCutTexts [] = Unit {0}
AllCutTexts (o ∷ os) = IsCutText o × AllCutTexts os

pub record IsTextual (l : Ledger) : Type 0 where
  pub texts : AllTexts (defined_in l)
  pub cuts : AllCutTexts (cut_in l)

-- neither changes
pub record LeavesTexts (l k : Ledger) : Type 0 where
  pub texts : defined_in k ≡ defined_in l
  pub cuts : cut_in k ≡ cut_in l

-- tasks ask no other commands
abbrev pub AllLineTexts : List ScriptLine → Type 0
AllLineTexts [] = Unit {0}
AllLineTexts (l ∷ ls) = LineFits IsTextOf l × AllLineTexts ls

-- so have the scripts of a phase
abbrev pub ArePartTexts : List Trying → Type 0
ArePartTexts [] = Unit {0}
ArePartTexts (t ∷ ts) = AllLineTexts t.part.lines × ArePartTexts ts

abbrev pub IsTextTask : Task → Type 0
IsTextTask (Ask m actor call) = IsTextCall call
IsTextTask (Script k p tried most) = AllLineTexts p.lines
IsTextTask (Lines k p tried ls) = AllLineTexts ls
IsTextTask (Phase ts) = ArePartTexts ts
IsTextTask _ = Unit {0}

abbrev pub AllTextTasks : List Task → Type 0
AllTextTasks [] = Unit {0}
AllTextTasks (t ∷ ts) = IsTextTask t × AllTextTasks ts

abbrev pub AllCallTexts : List Entry → Type 0
AllCallTexts [] = Unit {0}
AllCallTexts (e ∷ es) = IsTextCall e.call × AllCallTexts es
