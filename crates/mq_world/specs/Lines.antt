-- A script's next line at its node, with the trigger turns behind it.
use Rattle.std.specs.Prelude.{◌≡◌, ◌⊎◌, ℕ, true, None, Some, Result, Ok, Err, slice_get}
use Rattle.mq_history.specs.declared.calls.Actor.TheVariants as actors
use Rattle.mq_spec_node.specs.Terms.{Entry, ScriptLine, ScriptPart}
use Rattle.mq_spec_node.specs.Lines.Next.{Makes}
use Rattle.mq_spec_node.specs.Words.{is_spent}
use Rattle.mq_progress.specs.Course.{Course, Finished, call_in, next_in}
use Rattle.mq_watch.specs.from_events.States.{NodeState, IsServed, node_in, value_of}
use Rattle.mq_watch.specs.from_events.Events.{MayAct}
use Rattle.mq_shared.specs.from_acts.Advances.{LineWaits, NoLine}
use Rattle.mq_nodes.specs.declared.nodes.Advanced.{Advanced}
use Rattle.mq_nodes.specs.declared.nodes.Advanced.TheVariants as advances
use Rattle.mq_nodes.specs.declared.nodes.Stop.{Stop}
use Rattle.mq_nodes.specs.declared.nodes.Stop.TheVariants as stops
use Rattle.mq_world.specs.Settling.{IsOf, NodeDid}

-- the entry of a line, and how far its script is then
abbrev pub IsLineOf : ℕ → ScriptPart → ScriptLine → Course → Course → NodeState → Entry → Type 0
IsLineOf k p l c d old e = IsOf (actors.Script k) (call_in p c old.manager.plain.moment l) e × Finished l e.reply c d

pub record LineDid (k : ℕ) (p : ScriptPart) (c d : Course) (old new : NodeState) : Type 0 where
  pub line : ScriptLine
  pub is : slice_get p.lines c.done ≡ Some line
  pub next : next_in k p c (Some line) (node_in old) ≡ Makes (call_in p c old.manager.plain.moment line)
  pub did : NodeDid (IsLineOf k p line c d old) old new

abbrev pub LineBroke : ℕ → ScriptPart → ℕ → Course → NodeState → Stop → Course → NodeState → Type 0
LineBroke k p m c old stops.NoMemory d new = NoLine c d old new ⊎ LineDid k p c d old new
LineBroke k p m c old (stops.Spent j) d new = (j ≡ m) × LineDid k p c d old new × (is_spent (value_of new) ≡ true)

abbrev pub LineOn : ℕ → ScriptPart → ℕ → Course → NodeState → Result Advanced Stop → Course → NodeState → Type 0
LineOn k p m c old (Ok advances.Done) d new = LineDid k p c d old new × IsServed new × MayAct new
LineOn k p m c old (Ok (advances.Waiting until)) d new = LineWaits k p until c d old new
LineOn k p m c old (Ok advances.Ended) d new = (slice_get p.lines c.done ≡ None) × NoLine c d old new
LineOn k p m c old (Err stop) d new = LineBroke k p m c old stop d new
