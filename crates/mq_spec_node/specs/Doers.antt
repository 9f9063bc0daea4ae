-- Whose entries are whose.
use Rattle.std.specs.Prelude.{ℕ, ◌==◌, Bool, true, false, not, List, filter}
use Rattle.mq_spec_node.specs.Terms.{Actor, Call, Entry}
use Rattle.mq_history.specs.declared.calls.Actor.TheVariants as actors
use Rattle.mq_history.specs.declared.calls.Call.TheVariants as calls

-- the sender end of a cable, the receiver end, a script
abbrev pub is_sender : ℕ → Actor → Bool
is_sender cable (actors.Sender c) = c == cable
is_sender cable _ = false

abbrev pub is_receiver : ℕ → Actor → Bool
is_receiver cable (actors.Receiver c) = c == cable
is_receiver cable _ = false

abbrev pub is_script : ℕ → Actor → Bool
is_script k (actors.Script n) = n == k
is_script k _ = false

-- the entries of who passes a test
abbrev pub by : (Actor → Bool) → List Entry → List Entry
by test es = filter (λ (e : Entry). test e.actor) es

-- all entries but trigger turns, which have the actor of the entry that they follow
abbrev pub is_trigger : Call → Bool
is_trigger calls.Trigger = true
is_trigger _ = false

abbrev pub mains : List Entry → List Entry
mains es = filter (λ (e : Entry). not (is_trigger e.call)) es
