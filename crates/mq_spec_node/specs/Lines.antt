-- The lines of a script that are done, what it remembers of them, and the next.
use Rattle.std.specs.Prelude.{ℕ, Bool, true, false, List, [], ◌∷◌, Option, Some, None, length, drop}
use Rattle.mq_spec_node.specs.Terms.{Call, Entry, ScriptPart, ScriptLine}
use Rattle.mq_history.specs.from_frame.SeenVariants as items
use Rattle.mq_history.specs.declared.calls.Actor.TheVariants as actors
use Rattle.mq_spec_node.specs.Node.{Node}
use Rattle.mq_spec_node.specs.Deeds.{Deed}
use Rattle.mq_spec_node.specs.Happens.{deed_of}
use Rattle.mq_spec_node.specs.Doers.{is_script, by, mains}
use Rattle.mq_spec_node.specs.Scripts.{Memory, fresh, line_call, remembers, deadline, wait_of}

-- what a script did, of these entries
abbrev pub lines_by : ℕ → List Entry → List Entry
lines_by k es = by (is_script k) (mains es)

abbrev pub lines_done : ℕ → List Entry → ℕ
lines_done k es = length (lines_by k es)

-- what it remembers after entries that are its first lines
abbrev pub memory_after : Memory → List ScriptLine → List Entry → Memory
memory_after m [] es = m
memory_after m (l ∷ ls) [] = m
memory_after m (l ∷ ls) (e ∷ es) = memory_after (remembers l e.reply m) ls es

-- With what its manager did so far: what it remembers, the lines that are left, and the call of the next one, which is
-- this, with this deadline.
abbrev pub memory_by : ℕ → ScriptPart → List Entry → Memory
memory_by k p es = memory_after fresh p.lines (lines_by k es)

abbrev pub left_after : ℕ → ScriptPart → List Entry → List ScriptLine
left_after k p es = drop (lines_done k es) p.lines

abbrev pub call_after : ℕ → ScriptPart → List Entry → Option ℕ → ScriptLine → Call
call_after k p es until l = line_call p.label (memory_by k p es) until l

-- A get that would still wait is no event.
abbrev pub is_none : Option Deed → Bool
is_none None = true
is_none (Some d) = false

abbrev pub waits_at : ℕ → Call → Node → Bool
waits_at k call n = is_none (deed_of 0 (actors.Script k) call items.Nothing n)

-- What comes next of a script at its manager: nothing, where it is at its end; its get would still wait, until this
-- moment; or this call.
pub data Next : Type 0 where
  Ends : Next
  Waits : (until : ℕ) → Next
  Makes : (call : Call) → Next

-- the deadline of a get that was tried before is kept until the line is done
abbrev pub deadline_kept : Option ℕ → ℕ → Option ℕ → Option ℕ
deadline_kept None moment wait = deadline moment wait
deadline_kept (Some until) moment wait = Some until

abbrev pub next_if : Bool → Option ℕ → Call → Next
next_if true None call = Makes call
next_if true (Some until) call = Waits until
next_if false until call = Makes call

abbrev pub next_until : ℕ → ScriptPart → List Entry → Option ℕ → ScriptLine → Node → Next
next_until k p es until l n = next_if (waits_at k (call_after k p es until l) n) until (call_after k p es until l)

abbrev pub next_of : ℕ → ScriptPart → List Entry → Option ℕ → List ScriptLine → Node → Next
next_of k p es kept [] n = Ends
next_of k p es kept (l ∷ ls) n = next_until k p es (deadline_kept kept n.manager.moment (wait_of l)) l n

abbrev pub next_by : ℕ → ScriptPart → List Entry → Option ℕ → Node → Next
next_by k p es kept n = next_of k p es kept (left_after k p es) n
