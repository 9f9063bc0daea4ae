-- What a try of a script's line, a turn of an end and a timeout come to, with the trigger turns behind them.
use Rattle.std.specs.Prelude.{◌≡◌, ◌⊎◌, ℕ, List, [], ◌∷◌, Some, Result, Ok, Err, slice_get}
use Rattle.mq_base.specs.declared.want.NoMemory.{NoMemory}
use Rattle.mq_cable.specs.declared.item.Item.{Item}
use Rattle.mq_history.specs.declared.calls.Actor.TheVariants as actors
use Rattle.mq_history.specs.declared.calls.Call.TheVariants as calls
use Rattle.mq_spec_node.specs.Terms.{Actor, Call, Entry, ScriptLine}
use Rattle.mq_spec_node.specs.Words.{Grows, deadline, line_call, wait_of}
use Rattle.mq_progress.specs.Course.{Finished}
use Rattle.mq_acts.specs.from_events.States.{NodeState, value_of}
use Rattle.mq_acts.specs.Serving.{AreTurns, IsDone}
use Rattle.mq_takes.specs.from_turn_parts.{Turn}
use Rattle.mq_takes.specs.from_turn_parts.TurnVariants as turns
use Rattle.mq_takes.specs.from_turn_parts.Wired.{Offered, Popped}
use Rattle.mq_wires.specs.Wires.{OffersNone}
use Rattle.mq_ruled.specs.Ends.{PipeTook, PipeWrote}
use Rattle.mq_split.specs.Took.{EndState}
use Rattle.mq_split.specs.Ends.{end_actor}
use Rattle.mq_shared.specs.Held.{ScriptState}
use Rattle.mq_shared.specs.declared.trying.Tried.{Tried}
use Rattle.mq_shared.specs.declared.trying.Tried.TheVariants as tries

-- these entries more, and no mark
pub record Went (old : NodeState) (es : List Entry) (new : NodeState) : Type 0 where
  pub grows : Grows (value_of old) es (value_of new)
  pub marks : new.marks ≡ old.marks

-- none, and the node is as it was
pub record Stayed (old new : NodeState) : Type 0 where
  pub same : value_of new ≡ value_of old
  pub marks : new.marks ≡ old.marks

-- An event of this actor's call, with trigger turns behind it.
pub record Made (who : Actor) (what : Call) (old new : NodeState) : Type 0 where
  pub entry : Entry
  pub behind : List Entry
  pub actor : entry.actor ≡ who
  pub call : entry.call ≡ what
  pub turns : AreTurns behind
  pub went : Went old (entry ∷ behind) new

-- the same script
pub record SameScript (s t : ScriptState) : Type 0 where
  pub script : t.script ≡ s.script
  pub part : t.part ≡ s.part
  pub moment : t.moment ≡ s.moment

-- the line of a script was done
pub record LineMade (s t : ScriptState) (old new : NodeState) : Type 0 where
  pub line : ScriptLine
  pub is : slice_get s.part.lines s.course.done ≡ Some line
  pub made : Made (actors.Script s.script) (line_call s.part.label s.course.memory (deadline s.moment (wait_of line)) line) old new
  pub same : SameScript s t
  pub finished : Finished line made.entry.reply s.course t.course

-- none was done; a get may wait
pub record LineNot (s t : ScriptState) (old new : NodeState) : Type 0 where
  pub stayed : Stayed old new
  pub same : SameScript s t
  pub memory : t.course.memory ≡ s.course.memory
  pub done : t.course.done ≡ s.course.done
  pub until : (t.course.until ≡ s.course.until) ⊎ ((l : ScriptLine) × (slice_get s.part.lines s.course.done ≡ Some l) × (t.course.until ≡ deadline s.moment (wait_of l)))

abbrev pub LineTried : ScriptState → NodeState → Result Tried NoMemory → ScriptState → NodeState → Type 0
LineTried s old (Ok tries.Done) t new = LineMade s t old new × IsDone new
LineTried s old (Ok tries.Waits) t new = LineNot s t old new
LineTried s old (Ok tries.Ended) t new = LineNot s t old new
LineTried s old (Err e) t new = LineNot s t old new ⊎ LineMade s t old new

-- the same end
pub record SameEnd (a b : EndState) : Type 0 where
  pub cable : b.cable ≡ a.cable
  pub sends : b.sends ≡ a.sends

-- a turn of an end was taken: what it popped, and what it offered
pub record TurnMade (none full : Type 0) (a b : EndState) (old new : NodeState) : Type 0 where
  pub made : Made (end_actor a.cable a.sends) calls.Turn old new
  pub same : SameEnd a b
  pub popped : Popped (λ (xs : List Item). PipeTook a.wire xs b.wire) none old.stamp made.entry.effect.popped made.entry.stamp
  pub offered : Offered (λ (xs : List Item). PipeWrote a.wire xs b.wire) full a.offers made.entry.effect.pushed made.entry.effect.extras b.offers

-- none was
pub record TurnNot (a b : EndState) (old new : NodeState) : Type 0 where
  pub stayed : Stayed old new
  pub same : SameEnd a b
  pub read : PipeTook a.wire [] b.wire
  pub offers : OffersNone (λ (xs : List Item). PipeWrote a.wire xs b.wire) a.offers b.offers

abbrev pub TurnTried : (none full : Type 0) → EndState → NodeState → Result Turn NoMemory → EndState → NodeState → Type 0
TurnTried none full a old (Ok turns.Changed) b new = TurnMade none full a b old new × IsDone new
TurnTried none full a old (Ok turns.Still) b new = TurnNot a b old new
TurnTried none full a old (Err e) b new = TurnNot a b old new ⊎ TurnMade none full a b old new

-- a timeout
abbrev pub TimeTried : ℕ → NodeState → Turn → NodeState → Type 0
TimeTried cable old turns.Changed new = Made (actors.Sender cable) calls.Timeout old new
TimeTried cable old turns.Still new = Stayed old new
