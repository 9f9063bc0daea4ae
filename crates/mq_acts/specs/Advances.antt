-- What the next line of a script comes to.
use Rattle.std.specs.Prelude.{◌≡◌, ℕ, Option, Some, None, Result, Ok, Err, slice_get}
use Rattle.mq_base.specs.declared.want.NoMemory.{NoMemory}
use Rattle.mq_history.specs.declared.calls.Actor.TheVariants as actors
use Rattle.mq_history.specs.declared.scripts.ScriptLine.TheVariants as lines
use Rattle.mq_spec_node.specs.Terms.{Entry, ScriptLine, ScriptPart}
use Rattle.mq_spec_node.specs.Lines.Next.{Waits, Makes}
use Rattle.mq_progress.specs.Course.{Course, Finished, call_in, next_in}
use Rattle.mq_events.specs.States.{NodeState, node_in}
use Rattle.mq_events.specs.Events.{Adds, Stays}
use Rattle.mq_events.specs.Texts.{IsTextCommand}
use Rattle.mq_acts.specs.declared.advancing.Advanced.{Advanced}
use Rattle.mq_acts.specs.declared.advancing.Advanced.TheVariants as advances

-- a line whose command, if it has one, is such as a text of commands gives
abbrev pub IsTextLine : ScriptLine → Type 0
IsTextLine (lines.Mqsc command) = IsTextCommand command
IsTextLine _ = Unit {0}

-- a deadline is kept of a get alone
abbrev pub Keeps : Option ℕ → ScriptLine → Type 0
Keeps until lines.Crash = until ≡ None
Keeps until lines.Restart = until ≡ None
Keeps until (lines.Cut k) = until ≡ None
Keeps until _ = Unit {0}

-- The line is done: its call, which is what comes next, is an event, and its answer is remembered.
pub record LineDone (k : ℕ) (p : ScriptPart) (c d : Course) (old new : NodeState) : Type 0 where
  pub line : ScriptLine
  pub is : slice_get p.lines c.done ≡ Some line
  pub next : next_in k p c (Some line) (node_in old) ≡ Makes (call_in p c old.manager.plain.moment line)
  pub entry : Entry
  pub adds : Adds (actors.Script k) (call_in p c old.manager.plain.moment line) entry old new
  pub finished : Finished line entry.reply c d

-- its get is to wait
pub record LineWaits (k : ℕ) (p : ScriptPart) (until : ℕ) (c d : Course) (old new : NodeState) : Type 0 where
  pub line : ScriptLine
  pub is : slice_get p.lines c.done ≡ Some line
  pub next : next_in k p c (Some line) (node_in old) ≡ Waits until
  pub stays : Stays old new
  pub course : d ≡ record c { room = d.room; until = Some until }

-- nothing was done
pub record NoLine (c d : Course) (old new : NodeState) : Type 0 where
  pub stays : Stays old new
  pub course : d ≡ record c { room = d.room }

abbrev pub Advances : ℕ → ScriptPart → Course → NodeState → Result Advanced NoMemory → Course → NodeState → Type 0
Advances k p c old (Ok advances.Done) d new = LineDone k p c d old new
Advances k p c old (Ok (advances.Waiting until)) d new = LineWaits k p until c d old new
Advances k p c old (Ok advances.Ended) d new = (slice_get p.lines c.done ≡ None) × NoLine c d old new
Advances k p c old (Err e) d new = NoLine c d old new
