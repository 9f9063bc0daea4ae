-- The lines of a script in a network: those that are left, the next call, and whether its get would still wait.
use Rattle.std.specs.Prelude.{◌≡◌, ℕ, Bool, List, Option, Some, None, take}
use Rattle.mq_spec_network.specs.Terms.{Call, ScriptPart, ScriptLine, deadline, left_after, call_after, is_none}
use Rattle.mq_spec_node.specs.from_frame.SeenVariants as items
use Rattle.mq_spec_node.specs.from_history.ActorVariants as actors
use Rattle.mq_spec_network.specs.Turns.{Network, node_at, deed_at}

abbrev pub lines_left : Network → ℕ → ScriptPart → List ScriptLine
lines_left w k p = left_after k p (w.done p.manager)

abbrev pub call_next : Network → ℕ → ScriptPart → Option ℕ → ScriptLine → Call
call_next w k p until l = call_after k p (w.done p.manager) until l

abbrev pub at_most : Option ℕ → List ScriptLine → List ScriptLine
at_most None ls = ls
at_most (Some n) ls = take n ls

-- The moment of a line's first try: that at which it was tried before, else this one.
abbrev pub moment_of_try : Option ℕ → ℕ → ℕ
moment_of_try None moment = moment
moment_of_try (Some before) moment = before

-- The deadline of a get counts from its first try.
abbrev pub IsUntil : Option ℕ → ℕ → Option ℕ → Option ℕ → Type 0
IsUntil tried moment wait until = until ≡ deadline (moment_of_try tried moment) wait

-- A get that would still wait is no event.
abbrev pub still_waits : Network → ℕ → ScriptPart → Call → Bool
still_waits w k p call = is_none (deed_at (actors.Script k) call items.Nothing (node_at w p.manager))
