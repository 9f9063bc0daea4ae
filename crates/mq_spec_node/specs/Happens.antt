-- What each event does at a node, and which events there are.
use Rattle.std.specs.Prelude.{◌≡◌, ◌≤◌, ◌+◌, ℕ, Bool, true, false, List, [], Option, Some, None}
use Rattle.mq_spec_node.specs.Terms.{Seen, Choice, Return, Fails, Runs, RestartFault, Kept, Did, Actor, Call, Chance, Reply, Image, Plain, Noted, Running, Up, Down, Outcome, After, Answered, Refused, Wanting, Broken, lasting, raised, stop, restart, cut, advance_clock, redone_if, grown, started_need, calls_of_restart, Spent, CanBeKept, CanReturn}
use Rattle.mq_history.specs.from_calls.AnswerVariants as answers
use Rattle.mq_history.specs.from_calls.RestartFaultVariants as faults
use Rattle.mq_history.specs.declared.acts.Act.TheVariants as acts
use Rattle.mq_history.specs.declared.acts.Acted.TheVariants as acted
use Rattle.mq_history.specs.declared.calls.Actor.TheVariants as actors
use Rattle.mq_history.specs.declared.calls.Call.TheVariants as calls
use Rattle.mq_history.specs.declared.calls.Chance.TheVariants as chances
use Rattle.mq_history.specs.declared.calls.Reply.TheVariants as replies
use Rattle.mq_spec_node.specs.Node.{Node, Own, Monitor, change_monitor}
use Rattle.mq_spec_node.specs.Deeds.{Deed, Done, node_of, own_at_rest, begun_anew, quiet, done, CanCome}
use Rattle.mq_spec_node.specs.Openings.{resumed, most_restart_calls}
pub use Rattle.mq_spec_node.specs.Calls.{get_done, got_deed, get_deed, command_deed, obey_deed, trigger_deed_of, where_up, trigger_deed, sender_turn, receiver_turn, handler_turn, turn_up, timeout_of, timeout_by, deed_of}

-- A monitor remembers its connection and its handle.
abbrev pub connected_by : Reply → Monitor → Monitor
connected_by (replies.Connected (answers.Ok hc)) m = record m { connection = Some hc }
connected_by (replies.Opened (answers.Ok ho)) m = record m { handle = Some ho }
connected_by _ m = m

abbrev pub disconnected_by : Call → Monitor → Monitor
disconnected_by (calls.Mqdisc hc) m = record m { connection = None; handle = None }
disconnected_by _ m = m

abbrev pub remembered : Actor → Call → Reply → Own → Own
remembered (actors.Monitor number) call reply own = change_monitor number (λ m. connected_by reply (disconnected_by call m)) own
remembered _ call reply own = own

abbrev pub remembering : Actor → Call → Done → Done
remembering actor call d = record d { next = record d.next { own = remembered actor call d.reply d.next.own } }

-- what never happens, since no such event is possible
abbrev pub nothing : Node → Done
nothing n = quiet replies.Changed [] n

abbrev pub done_or : Option Deed → Choice → Node → Done
done_or None choice n = nothing n
done_or (Some d) choice n = done d choice n

-- A stop.
abbrev pub crash_reply : Outcome RestartFault Bool → Reply
crash_reply (Answered true) = replies.Acted acted.Done
crash_reply (Answered false) = replies.Acted acted.Down
crash_reply (Refused fault) = replies.Acted (acted.Start fault)
crash_reply Wanting = replies.Acted acted.Done
crash_reply (Broken by) = replies.Stopped by

abbrev pub own_crashed : Outcome RestartFault Bool → Own → Own
own_crashed (Answered true) own = own_at_rest own
own_crashed _ own = own

abbrev pub crashed : After RestartFault Bool → Node → Done
crashed a n = quiet (crash_reply a.outcome) a.delta (node_of a.next (own_crashed a.outcome n.own))

-- A restart: its ends begin with what is hardened.
abbrev pub restarted_as : Outcome RestartFault Kept → List Did → Plain → Node → Done
restarted_as (Answered kept) delta p n = quiet (replies.Acted acted.Done) delta (begun_anew p n.own)
restarted_as (Refused fault) delta p n = quiet (replies.Acted (acted.Start fault)) delta (record n { manager = p })
restarted_as Wanting delta p n = nothing n
restarted_as (Broken by) delta p n = nothing n

abbrev pub restarted : After RestartFault Kept → Node → Done
restarted a n = restarted_as a.outcome a.delta a.next n

-- The restart of an image that is none of those which the history allows goes on from it.
abbrev pub restarted_from : Image → (length left : ℕ) → Node → Done
restarted_from image length left n = quiet (replies.Acted acted.Done) [] (begun_anew (resumed image length left n.manager) n.own)

abbrev pub restart_event : Chance → Node → Done
restart_event (chances.Call choice) n = nothing n
restart_event (chances.Restart choice) n = restarted (restart choice n.manager) n
restart_event (chances.Foreign image length left) n = restarted_from image length left n

abbrev pub choice_event : Chance → Option Deed → Node → Done
choice_event (chances.Call choice) d n = done_or d choice n
choice_event (chances.Restart choice) d n = nothing n
choice_event (chances.Foreign image length left) d n = nothing n

-- The event, at this stamp, by this actor, with what came from outside and what waited on the cable.
abbrev pub event : ℕ → Actor → Call → Chance → Seen → Node → Done
event stamp actor (calls.Act acts.Crash) chance seen n = crashed (stop n.manager) n
event stamp actor (calls.Act acts.Restart) chance seen n = restart_event chance n
event stamp actor (calls.Act (acts.Cut k)) chance seen n = quiet (replies.Acted acted.Done) [] (record n { manager = cut k n.manager })
event stamp actor (calls.Act (acts.Clock by)) chance seen n = quiet (replies.Acted acted.Done) [] (record n { manager = advance_clock by n.manager })
event stamp actor call chance seen n = remembering actor call (choice_event chance (deed_of stamp actor call seen n) n)

-- Which chances there are.
abbrev pub IsDeed : Option Deed → Chance → Node → Type 0
IsDeed None chance n = ⊥
IsDeed (Some d) (chances.Call choice) n = CanCome d choice n
IsDeed (Some d) (chances.Restart choice) n = ⊥
IsDeed (Some d) (chances.Foreign image length left) n = ⊥

abbrev pub RunsAlone : Chance → Type 0
RunsAlone (chances.Call choice) = choice ≡ Runs
RunsAlone (chances.Restart choice) = ⊥
RunsAlone (chances.Foreign image length left) = ⊥

-- a restart that finds no memory is no event
abbrev pub IsToldReturn : Return → Type 0
IsToldReturn (Fails faults.NoMemory in_write left) = ⊥
IsToldReturn _ = Unit {0}

-- A log is foreign where it is none of those which the manager's history allows: with the noted write or without it, and
-- with any of the Started records of restarts that were stopped.
pub record IsAllowed (image : Image) (length : ℕ) (kept : Bool) (started : ℕ) (noted : Option Noted) (p : Plain) : Type 0 where
  pub read : raised 0 image ≡ raised started (lasting (redone_if kept noted p))
  pub long : length + started_need p.given ≡ (grown started (redone_if kept noted p)).length

abbrev pub IsForeign : Image → (length : ℕ) → Option Noted → (starts : ℕ) → Plain → Type 0
IsForeign image length noted starts p = (kept : Bool) (started : ℕ) → CanBeKept kept noted → started ≤ starts → IsAllowed image length kept started noted p → ⊥

-- A restart of a manager that is up is refused and is nothing else; one of a manager that is down ends as it can.
abbrev pub IsReturn : Chance → Running → Plain → Type 0
IsReturn (chances.Call choice) running p = ⊥
IsReturn (chances.Restart choice) Up p = choice ≡ Fails faults.Up false p.log.armed
IsReturn (chances.Restart choice) (Down noted starts) p = CanReturn choice noted starts p.log.armed × IsToldReturn choice
IsReturn (chances.Foreign image length left) Up p = ⊥
IsReturn (chances.Foreign image length left) (Down noted starts) p = IsForeign image length noted starts p × Spent calls_of_restart most_restart_calls p.log.armed left

abbrev pub IsEvent : ℕ → Actor → Call → Chance → Seen → Node → Type 0
IsEvent stamp actor (calls.Act acts.Crash) chance seen n = RunsAlone chance
IsEvent stamp actor (calls.Act acts.Restart) chance seen n = IsReturn chance n.manager.running n.manager
IsEvent stamp actor (calls.Act (acts.Cut k)) chance seen n = RunsAlone chance
IsEvent stamp actor (calls.Act (acts.Clock by)) chance seen n = RunsAlone chance
IsEvent stamp actor call chance seen n = IsDeed (deed_of stamp actor call seen n) chance n
