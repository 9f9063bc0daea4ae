-- How far a script is, and that a history says so.
use Rattle.std.specs.Prelude.{◌≡◌, ℕ, ◌+◌, List, Option, Some, None}
use Rattle.mq_spec_node.specs.Terms.{Call, Entry, Reply, ScriptLine, ScriptPart}
use Rattle.mq_spec_node.specs.Words.{Memory, Next, Node, deadline_kept, line_call, lines_done, memory_by, next_if, remembers, wait_of, waits_at}
use Rattle.mq_spec_node.specs.Lines.Next.{Ends}

-- what it remembers, with room for so many labels more; the number of lines that are done; the deadline of a get that was tried
pub record Course : Type 0 where
  pub memory : Memory
  pub room : ℕ
  pub done : ℕ
  pub until : Option ℕ

-- these entries say so
pub record Stands (k : ℕ) (p : ScriptPart) (es : List Entry) (c : Course) : Type 0 where
  pub memory : c.memory ≡ memory_by k p es
  pub done : c.done ≡ lines_done k es

-- a line is done, and answered so
pub record Finished (l : ScriptLine) (reply : Reply) (old new : Course) : Type 0 where
  pub memory : new.memory ≡ remembers l reply old.memory
  pub done : new.done ≡ old.done + 1
  pub until : new.until ≡ None

-- the call of its next line, where that is a get until the deadline that it keeps
abbrev pub until_in : Course → ℕ → ScriptLine → Option ℕ
until_in c moment l = deadline_kept c.until moment (wait_of l)

abbrev pub call_in : ScriptPart → Course → ℕ → ScriptLine → Call
call_in p c moment l = line_call p.label c.memory (until_in c moment l) l

-- what comes next of it
abbrev pub next_in : ℕ → ScriptPart → Course → Option ScriptLine → Node → Next
next_in k p c None n = Ends
next_in k p c (Some l) n = next_if (waits_at k (call_in p c n.manager.moment l) n) (until_in c n.manager.moment l) (call_in p c n.manager.moment l)
