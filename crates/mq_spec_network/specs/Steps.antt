-- How a step goes on, entry by entry: what may come next, and what is left of it then.
use Rattle.std.specs.Prelude.{◌≡◌, ◌⊎◌, ℕ, zero, suc, ◌+◌, Bool, true, false, not, List, [], ◌∷◌, ◌++◌, Option, Some, None, slice_get, is_some}
use Rattle.mq_spec_network.specs.Terms.{Hconn, Actor, Call, Reply, Entry, MonitorLine, ScriptPart, Scenario, ScriptLine, Node, OwnScript, Frame, Seen, CableLine, trigger_deed, script_appl, deadline, wait_of, until_of, left_after, call_after, is_none, shared, is_opened, begins, monitor_next, monitor_idle, monitor_live}
use Rattle.mq_spec_node.specs.from_calls.AnswerVariants as answers
use Rattle.mq_spec_node.specs.from_calls.RestartFaultVariants as faults
use Rattle.mq_spec_node.specs.from_frame.SeenVariants as items
use Rattle.mq_spec_node.specs.from_history.ActVariants as acts
use Rattle.mq_spec_node.specs.from_history.ActedVariants as acted
use Rattle.mq_spec_node.specs.from_history.ActorVariants as actors
use Rattle.mq_spec_node.specs.from_history.CallVariants as calls
use Rattle.mq_spec_node.specs.from_history.ReplyVariants as replies
use Rattle.mq_spec_node.specs.Deeds.{Deed}
use Rattle.mq_spec_network.specs.Story.{Mem}
use Rattle.mq_spec_network.specs.Turns.{Network, Direction, node_at, does, is_up_at, where_there, deed_at, out_of, back_of, out_way, back_way, waiting, extras_of, changes, sender_turn, receiver_turn, timeout_turn, is_idle}
use Rattle.mq_spec_network.specs.ScriptLines.{lines_left, at_most, call_next, IsUntil, still_waits}
use Rattle.mq_spec_network.specs.Tasks.{Slot, Task, Trying, clocks, moment_of, run_script}
use Rattle.mq_spec_network.specs.Tasks.Slot.{Sends, Receives, TimesOut}
use Rattle.mq_spec_network.specs.Tasks.Task.{Ask, Script, Lines, Phase, Pump, Handle, Serve, Watch, Open, Restart}

-- this call, by this actor, at this manager
abbrev pub Is : ℕ → Actor → Call → ℕ → Entry → Type 0
Is at actor call m e = (m ≡ at) × (e.actor ≡ actor) × (e.call ≡ call)

-- RUN, and what a monitor or a phase has of it: the next line. A get that is tried has its deadline.
pub record IsNext (w : Network) (k : ℕ) (p : ScriptPart) (tried : Option ℕ) (l : ScriptLine) (m : ℕ) (e : Entry) : Type 0 where
  pub until : IsUntil tried (moment_of (node_at w p.manager)) (wait_of l) (until_of e.call)
  pub is : Is p.manager (actors.Script k) (call_next w k p (until_of e.call) l) m e

-- One that would still wait: the clocks advance to its deadline, and then it comes.
pub record Waits (w : Network) (k : ℕ) (p : ScriptPart) (tried : Option ℕ) (l : ScriptLine) (ls : List ScriptLine) (next : List Task) : Type 0 where
  pub until : ℕ
  pub by : ℕ
  pub tried_then : IsUntil tried (moment_of (node_at w p.manager)) (wait_of l) (Some until)
  pub waits : still_waits w k p (call_next w k p (Some until) l) ≡ true
  pub left : until ≡ moment_of (node_at w p.manager) + by
  pub behind : next ≡ clocks w.scenario by ++ Ask p.manager (actors.Script k) (call_next w k p (Some until) l) ∷ Lines k p None ls ∷ []

-- PHASE: the next line of one of its scripts, each get first tried at the phase's first moment; turns and timeouts of
-- channel ends. No clock advances. Only what this manager did so far counts: a phase's entries have no other order.
abbrev pub PhaseLine : ℕ → Trying → List Entry → List ScriptLine → ℕ → Entry → Type 0
PhaseLine k t done [] m e = ⊥
PhaseLine k t done (l ∷ ls) m e =
    (t.script ≡ k) × Is t.part.manager (actors.Script k) (call_after k t.part done (deadline t.moment (wait_of l)) l) m e

abbrev pub InPhase : List Trying → List Entry → ℕ → Entry → Actor → Type 0
InPhase ts done m e (actors.Script k) = (t : Trying) × Mem t ts × PhaseLine k t done (left_after k t.part done) m e
InPhase ts done m e (actors.Sender cable) = (e.call ≡ calls.Turn) ⊎ (e.call ≡ calls.Timeout)
InPhase ts done m e (actors.Receiver cable) = e.call ≡ calls.Turn
InPhase ts done m e _ = ⊥

-- what one manager did in a phase, after what it had done before
abbrev pub AllInPhase : List Trying → ℕ → List Entry → List Entry → Type 0
AllInPhase ts m done [] = Unit {0}
AllInPhase ts m done (e ∷ es) = (InPhase ts done m e e.actor ⊎ (e.call ≡ calls.Trigger)) × AllInPhase ts m (done ++ e ∷ []) es

-- PUMP: turns in rounds, cable by cable, the sender's and then the receiver's; after a round of none, timeouts.
pub record Turn : Type 0 where
  pub manager : ℕ
  pub actor : Actor
  pub call : Call
  pub seen : Seen
  pub way : Direction
  pub deed : Option Deed

abbrev pub turn_in : Network → Slot → ℕ → CableLine → Turn
turn_in w Sends cable c = record {
  manager = c.sender;
  actor = actors.Sender cable;
  call = calls.Turn;
  seen = waiting (back_of w cable c);
  way = out_way w cable c;
  deed = sender_turn w cable c;
}
turn_in w Receives cable c = record {
  manager = c.receiver;
  actor = actors.Receiver cable;
  call = calls.Turn;
  seen = waiting (out_of w cable c);
  way = back_way w cable c;
  deed = receiver_turn w cable c;
}
turn_in w TimesOut cable c = record {
  manager = c.sender;
  actor = actors.Sender cable;
  call = calls.Timeout;
  seen = items.Nothing;
  way = out_way w cable c;
  deed = timeout_turn w cable c;
}

abbrev pub pushed_of : Option Deed → Option Frame
pushed_of None = None
pushed_of (Some deed) = deed.pushed

-- a turn that pushes pops nothing
abbrev pub popped_by : Seen → Option Frame → Seen
popped_by seen None = seen
popped_by seen (Some f) = items.Nothing

-- a turn that changes something, with the item that waited, and so many extra items as find room
pub record TakesTurn (t : Turn) (m : ℕ) (e : Entry) : Type 0 where
  pub changes : changes t.way t.deed ≡ true
  pub is : Is t.manager t.actor t.call m e
  pub popped : e.effect.popped ≡ popped_by t.seen (pushed_of t.deed)
  pub extras : e.effect.extras ≡ extras_of t.way (pushed_of t.deed)

abbrev pub PumpTakes : Network → Slot → ℕ → Option CableLine → ℕ → Entry → Type 0
PumpTakes w slot cable None m e = ⊥
PumpTakes w slot cable (Some c) m e = TakesTurn (turn_in w slot cable c) m e

abbrev pub pump_on : ℕ → Slot → ℕ → Bool → List Task
pump_on left Sends cable any = Pump left Receives cable any ∷ []
pump_on left Receives cable any = Pump left Sends (suc cable) any ∷ []
pump_on left TimesOut cable any = Pump left TimesOut (suc cable) any ∷ []

-- after the last cable comes the next round, or, where no turn of this one was taken, the timeouts
abbrev pub next_round : ℕ → Slot → Bool → List Task
next_round left Sends true = Pump left Sends 0 false ∷ []
next_round left Sends false = Pump left TimesOut 0 false ∷ []
next_round left _ any = Pump left Sends 0 false ∷ []

abbrev pub PumpSkips : Network → ℕ → Slot → ℕ → Bool → Option CableLine → List Task → Type 0
PumpSkips w left slot cable any None next = next ≡ next_round left slot any
PumpSkips w left slot cable any (Some c) next = (changes (turn_in w slot cable c).way (turn_in w slot cable c).deed ≡ false) × (next ≡ pump_on left slot cable any)

-- HANDLE: turns of the handler until so many, or until the next would be idle.
abbrev pub handler_idle : ℕ → Option Node → Bool
handler_idle k n = is_none (deed_at (actors.Handler k) calls.Turn items.Nothing n)

-- SERVE: turns of the monitor, each a get without wait; where the message's ApplId names a script of this manager of which
-- no line was done, all its lines follow, as a RUN has them.
abbrev pub serves_nothing : ℕ → Option Node → Bool
serves_nothing k n = where_there true (monitor_idle k) n

abbrev pub MonitorGets : ℕ → MonitorLine → Network → ℕ → Entry → Type 0
MonitorGets k l w m e =
    (serves_nothing k (node_at w l.manager) ≡ false) × (m ≡ l.manager) × (e.actor ≡ actors.Monitor k) × (Some e.call ≡ where_there None (monitor_next k) (node_at w l.manager))

abbrev pub scripts_at : Option Node → List OwnScript
scripts_at n = where_there [] (λ (x : Node). x.own.scripts) n

abbrev pub begun : Scenario → Option ℕ → List Task
begun s None = []
begun s (Some k) = run_script k None (slice_get s.scripts k)

-- WATCH: the monitor connects and opens its queue; where that fails it disconnects; where it is connected, nothing.
abbrev pub is_watching : ℕ → Option Node → Bool
is_watching k n = where_there false (monitor_live k) n

abbrev pub opens : ℕ → MonitorLine → Reply → List Task
opens k l (replies.Connected (answers.Ok hc)) = Open k l hc ∷ []
opens k l _ = []

abbrev pub gives_up : ℕ → MonitorLine → Hconn → Bool → List Task
gives_up k l hc true = []
gives_up k l hc false = Ask l.manager (actors.Monitor k) (calls.Mqdisc hc) ∷ []

-- A restart that a cut stops is done once more.
abbrev pub is_cut : Reply → Bool
is_cut (replies.Acted (acted.Start faults.Cut)) = true
is_cut _ = false

abbrev pub once_more : ℕ → Bool → List Task
once_more m true = Ask m actors.Operator (calls.Act acts.Restart) ∷ []
once_more m false = []

-- The entry that a task may have next,
abbrev pub Moves : Network → Task → ℕ → Entry → Type 0
Moves w (Ask at actor call) m e = Is at actor call m e
Moves w (Script k p tried most) m e = ⊥
Moves w (Lines k p tried []) m e = ⊥
Moves w (Lines k p tried (l ∷ ls)) m e = IsNext w k p tried l m e
Moves w (Phase ts) m e = InPhase ts (w.done m) m e e.actor
Moves w (Pump zero slot cable any) m e = ⊥
Moves w (Pump (suc left) slot cable any) m e = PumpTakes w slot cable (slice_get w.scenario.cables cable) m e
Moves w (Handle k at zero) m e = ⊥
Moves w (Handle k at (suc left)) m e = Is at (actors.Handler k) calls.Turn m e
Moves w (Serve k l zero) m e = ⊥
Moves w (Serve k l (suc left)) m e = MonitorGets k l w m e
Moves w (Watch k l) m e = (is_watching k (node_at w l.manager) ≡ false) × Is l.manager (actors.Monitor k) (calls.Mqconn [] (script_appl l.label)) m e
Moves w (Open k l hc) m e = Is l.manager (actors.Monitor k) (calls.Mqopen hc l.queue [] shared) m e
Moves w (Restart at) m e = (is_up_at (node_at w at) ≡ false) × Is at actors.Operator (calls.Act acts.Restart) m e

-- and what is left of the task after it.
abbrev pub left_by : Network → Task → Entry → List Task
left_by w (Ask at actor call) e = []
left_by w (Script k p tried most) e = []
left_by w (Lines k p tried []) e = []
left_by w (Lines k p tried (l ∷ ls)) e = Lines k p None ls ∷ []
left_by w (Phase ts) e = Phase ts ∷ []
left_by w (Pump zero slot cable any) e = []
left_by w (Pump (suc left) slot cable any) e = pump_on left slot cable true
left_by w (Handle k at zero) e = []
left_by w (Handle k at (suc left)) e = Handle k at left ∷ []
left_by w (Serve k l zero) e = []
left_by w (Serve k l (suc left)) e = begun w.scenario (begins (scripts_at (node_at w l.manager)) (w.done l.manager) e.reply) ++ Serve k l left ∷ []
left_by w (Watch k l) e = opens k l e.reply
left_by w (Open k l hc) e = gives_up k l hc (is_opened e.reply)
left_by w (Restart at) e = once_more at (is_cut e.reply)

-- What takes a task's place where none comes: nothing, where it is at its end.
abbrev pub Passes : Network → Task → List Task → Type 0
Passes w (Ask at actor call) next = ⊥
Passes w (Script k p tried most) next = next ≡ Lines k p tried (at_most most (lines_left w k p)) ∷ []
Passes w (Lines k p tried []) next = next ≡ []
Passes w (Lines k p tried (l ∷ ls)) next = Waits w k p tried l ls next
Passes w (Phase ts) next = next ≡ []
Passes w (Pump zero slot cable any) next = next ≡ []
Passes w (Pump (suc left) slot cable any) next =
    ((is_idle w ≡ true) × (next ≡ [])) ⊎ PumpSkips w (suc left) slot cable any (slice_get w.scenario.cables cable) next
Passes w (Handle k at zero) next = next ≡ []
Passes w (Handle k at (suc left)) next = (handler_idle k (node_at w at) ≡ true) × (next ≡ [])
Passes w (Serve k l zero) next = next ≡ []
Passes w (Serve k l (suc left)) next = (serves_nothing k (node_at w l.manager) ≡ true) × (next ≡ [])
Passes w (Watch k l) next = (is_watching k (node_at w l.manager) ≡ true) × (next ≡ [])
Passes w (Open k l hc) next = ⊥
Passes w (Restart at) next = (is_up_at (node_at w at) ≡ true) × (next ≡ [])

-- no trigger is due at a manager
abbrev pub none_due : Option Node → Bool
none_due None = true
none_due (Some n) = not (is_some (trigger_deed n))

abbrev pub Served : Network → Type 0
Served w = (m : ℕ) → none_due (node_at w m) ≡ true

-- From a network with these tasks to another, with those that are left: entry by entry, in the order in which they were
-- done. Each such list is a part of what the tasks ask; where none is left, it is the whole.
pub data Goes (w0 : Network) (all : List Task) : Network → List Task → Type 0 where
  stays : Goes w0 all w0 all
  moves : (w : Network) (t : Task) (ts : List Task) (m : ℕ) (e : Entry) → Goes w0 all w (t ∷ ts) → Moves w t m e → Goes w0 all (does m (e ∷ []) w) (left_by w t e ++ ts)
  serves : (w : Network) (ts : List Task) (m : ℕ) (e : Entry) → Goes w0 all w ts → e.call ≡ calls.Trigger → Goes w0 all (does m (e ∷ []) w) ts
  passes : (w : Network) (t : Task) (next ts : List Task) → Goes w0 all w (t ∷ ts) → Served w → Passes w t next → Goes w0 all w (next ++ ts)

-- trigger turns, behind the entry after which they are due
abbrev pub AreTriggers : List Entry → Type 0
AreTriggers [] = Unit {0}
AreTriggers (e ∷ es) = (e.call ≡ calls.Trigger) × AreTriggers es
