-- Tasks that fit what a network has done: of each script the lines that they ask are those that come next.
use Rattle.std.specs.Prelude.{◌≡◌, ◌⊎◌, ℕ, false, List, [], ◌∷◌, Some, take, slice_get}
use Rattle.mq_history.specs.declared.calls.Actor.{Actor}
use Rattle.mq_history.specs.declared.calls.Actor.TheVariants as actors
use Rattle.mq_history.specs.declared.calls.Call.{Call}
use Rattle.mq_history.specs.declared.calls.Entry.{Entry}
use Rattle.mq_history.specs.declared.scenario.Scenario.{Scenario}
use Rattle.mq_history.specs.declared.scenario.ScriptPart.{ScriptPart}
use Rattle.mq_history.specs.declared.scripts.ScriptLine.{ScriptLine}
use Rattle.mq_spec_node.specs.Doers.{is_script}
use Rattle.mq_spec_node.specs.Scripts.{AreLines, IsDeadline, fresh, until_of, wait_of}
use Rattle.mq_spec_node.specs.Lines.{lines_by}
use Rattle.mq_spec_network.specs.Turns.{Network}
use Rattle.mq_spec_network.specs.ScriptLines.{lines_left, call_next}
use Rattle.mq_spec_network.specs.Tasks.{Task, Trying}
use Rattle.mq_spec_network.specs.Tasks.Task.{Ask, Script, Lines, Phase}

-- each script's entries are its lines
abbrev pub AllLines : Network → Type 0
AllLines w = (k : ℕ) (p : ScriptPart) → slice_get w.scenario.scripts k ≡ Some p → AreLines p.label fresh p.lines (lines_by k (w.done p.manager))

-- An entry that is a script's next line.
pub record IsDone (w : Network) (k : ℕ) (p : ScriptPart) (m : ℕ) (e : Entry) : Type 0 where
  pub part : slice_get w.scenario.scripts k ≡ Some p
  pub at : m ≡ p.manager
  pub who : e.actor ≡ actors.Script k
  pub line : ScriptLine
  pub rest : List ScriptLine
  pub left : lines_left w k p ≡ line ∷ rest
  pub made : e.call ≡ call_next w k p (until_of e.call) line
  pub due : IsDeadline (wait_of line) (until_of e.call)

-- Tasks that ask no line yet: those of a script, of a phase are the scenario's.
abbrev pub NoScript : Actor → Type 0
NoScript actor = (k : ℕ) → is_script k actor ≡ false

abbrev pub AllTried : Scenario → List Trying → Type 0
AllTried s [] = Unit {0}
AllTried s (t ∷ ts) = (slice_get s.scripts t.script ≡ Some t.part) × AllTried s ts

abbrev pub IsPlain : Scenario → Task → Type 0
IsPlain s (Ask m actor call) = NoScript actor
IsPlain s (Script k p tried most) = slice_get s.scripts k ≡ Some p
IsPlain s (Lines k p tried ls) = ⊥
IsPlain s (Phase ts) = AllTried s ts
IsPlain s _ = Unit {0}

abbrev pub AllPlain : Scenario → List Task → Type 0
AllPlain s [] = Unit {0}
AllPlain s (t ∷ ts) = IsPlain s t × AllPlain s ts

-- Lines that are asked are the first of those that are left.
pub record AreNext (w : Network) (k : ℕ) (p : ScriptPart) (ls : List ScriptLine) (ts : List Task) : Type 0 where
  pub part : slice_get w.scenario.scripts k ≡ Some p
  pub some : ℕ
  pub first : ls ≡ take some (lines_left w k p)
  pub plain : AllPlain w.scenario ts

-- A line for which clocks advance first, and those behind it.
pub record IsWaited (w : Network) (m : ℕ) (actor : Actor) (call : Call) (k : ℕ) (p : ScriptPart) (ls : List ScriptLine) (ts : List Task) : Type 0 where
  pub part : slice_get w.scenario.scripts k ≡ Some p
  pub at : m ≡ p.manager
  pub who : actor ≡ actors.Script k
  pub line : ScriptLine
  pub rest : List ScriptLine
  pub left : lines_left w k p ≡ line ∷ rest
  pub made : call ≡ call_next w k p (until_of call) line
  pub due : IsDeadline (wait_of line) (until_of call)
  pub some : ℕ
  pub behind : ls ≡ take some rest
  pub plain : AllPlain w.scenario ts

abbrev pub IsAwaited : Network → ℕ → Actor → Call → List Task → Type 0
IsAwaited w m actor call [] = ⊥
IsAwaited w m actor call (Lines k p tried ls ∷ ts) = IsWaited w m actor call k p ls ts
IsAwaited w m actor call (t ∷ ts) = ⊥

abbrev pub Fits : Network → List Task → Type 0
Fits w [] = Unit {0}
Fits w (Ask m actor call ∷ ts) = (NoScript actor × Fits w ts) ⊎ IsAwaited w m actor call ts
Fits w (Lines k p tried ls ∷ ts) = AreNext w k p ls ts
Fits w (t ∷ ts) = IsPlain w.scenario t × AllPlain w.scenario ts
