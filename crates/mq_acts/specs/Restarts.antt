-- Restarts, as events of a node.
use Rattle.std.specs.Prelude.{◌≡◌, ℕ, ◌≤◌, Bool, true, false, List, [], Option, Some, None, Result, Ok, Err}
use Rattle.mq_base.specs.Outside.{Rose}
use Rattle.mq_base.specs.declared.want.NoMemory.{NoMemory as Want}
use Rattle.mq_calls.specs.declared.commands.RestartFault.{RestartFault}
use Rattle.mq_calls.specs.declared.commands.RestartFault.TheVariants as faults
use Rattle.mq_calls.specs.declared.choices.Return.TheVariants.{Comes, Fails}
use Rattle.mq_history.specs.declared.acts.Act.TheVariants as acts
use Rattle.mq_history.specs.declared.acts.Acted.TheVariants as acted
use Rattle.mq_history.specs.declared.calls.Chance.TheVariants as chances
use Rattle.mq_history.specs.declared.calls.Call.TheVariants as calls
use Rattle.mq_history.specs.declared.calls.Reply.TheVariants as replies
use Rattle.mq_frame.specs.declared.frame.Seen.TheVariants as items
use Rattle.mq_events.specs.from_restart.Returned.{IsOfImage}
use Rattle.mq_events.specs.from_restart.{Unreturned}
use Rattle.mq_events.specs.from_restarts.{Back}
use Rattle.mq_events.specs.from_restarts.BackVariants as backs
use Rattle.mq_operate.specs.from_core.Values.{CoreValue}
use Rattle.mq_spec_node.specs.Terms.{Act, Acted, Actor, Call, Chance, Did, Entry, Plain}
use Rattle.mq_spec_node.specs.Words.{Own, node_of, begun_anew, quiet, restart_event, answer_of, IsReturn, IsOwn, NoneForeign}
use Rattle.mq_events.specs.Counts.{AreBelow, HasFewRows}
use Rattle.mq_events.specs.Events.{Adds, Stays}
use Rattle.mq_events.specs.States.{NodeState}
use Rattle.mq_acts.specs.declared.restarting.Restarted.{Restarted}

-- the node's own behind it: as it begins, where the manager came up
abbrev pub own_behind : Option RestartFault → Plain → Own → Own
own_behind None p own = (begun_anew p own).own
own_behind (Some fault) p own = own

-- its counters: those of a manager that begins, or as before
abbrev pub CountsBehind : Option RestartFault → Plain → Plain → Type 0
CountsBehind None old new = IsOfImage new
CountsBehind (Some fault) old new = (most : ℕ) → AreBelow most old → AreBelow most new

-- how it is answered
abbrev pub acted_by : Option RestartFault → Acted
acted_by None = acted.Done
acted_by (Some fault) = acted.Start fault

-- It is a restart that there is, and did this.
pub record IsRestart (tells : Type 0) (old : CoreValue) (r : Restarted) (new : CoreValue) : Type 0 where
  pub can : IsReturn r.chance old.plain.running old.plain
  pub does : (own : Own) → restart_event r.chance (node_of old.plain own) ≡ quiet (replies.Acted (acted_by r.refused)) r.delta (node_of new.plain (own_behind r.refused new.plain own))
  pub own : tells → IsOwn r.chance
  pub counts : CountsBehind r.refused old.plain new.plain
  pub later : old.faults ≤ new.faults
  pub rose : r.refused ≡ Some faults.Disk → Rose old.faults new.faults

-- or there was no memory, and nothing has changed
pub record IsUnchanged (old new : CoreValue) : Type 0 where
  pub same : new.plain ≡ old.plain
  pub later : old.faults ≤ new.faults

abbrev pub RestartsAs : Type 0 → CoreValue → Result Restarted Want → CoreValue → Type 0
RestartsAs tells old (Ok r) new = IsRestart tells old r new
RestartsAs tells old (Err e) new = IsUnchanged old new

-- the entry of a restart
abbrev pub restart_entry : ℕ → Actor → Restarted → Entry
restart_entry stamp who r = record {
  stamp = stamp;
  actor = who;
  call = calls.Act acts.Restart;
  chance = r.chance;
  reply = replies.Acted (acted_by r.refused);
  effect = record { delta = r.delta; pushed = None; extras = 0; popped = items.Nothing; received = [] };
}

-- What is added, with its answer; over a disk that tells its bytes no restart is from a log that was changed from outside.
pub record TellsActed (tells : Type 0) (who : Actor) (what : Call) (e : Entry) (old : NodeState) (acted : Acted) (new : NodeState) : Type 0 where
  pub adds : Adds who what e old new
  pub answer : answer_of what e.reply ≡ replies.Acted acted
  pub own : tells → IsOwn e.chance

abbrev pub TellsAs : Type 0 → Actor → Call → NodeState → Result Acted Want → NodeState → Type 0
TellsAs tells who what old (Ok acted) new = (e : Entry) × TellsActed tells who what e old acted new
TellsAs tells who what old (Err e) new = Stays old new

-- a restart by how it ended
abbrev pub chance_of : Back → Chance
chance_of (backs.Own kept started) = chances.Restart (Comes kept started)
chance_of (backs.Foreign image length left) = chances.Foreign image length left

abbrev pub came_as : Back → List Did → Restarted
came_as back delta = record { chance = chance_of back; refused = None; delta = delta }

abbrev pub is_wanting : RestartFault → Bool
is_wanting faults.NoMemory = true
is_wanting faults.Up = false
is_wanting faults.Disk = false
is_wanting faults.Cut = false
is_wanting (faults.BadLog place) = false

abbrev pub refused_as : Unreturned → Restarted
refused_as e = record { chance = chances.Restart (Fails e.fault e.in_write e.left); refused = Some e.fault; delta = [] }

abbrev pub StayedAs : Unreturned → Result Restarted Want → Type 0
StayedAs e (Ok r) = (r ≡ refused_as e) × (is_wanting e.fault ≡ false)
StayedAs e (Err x) = is_wanting e.fault ≡ true

-- where it came up its rows were counted, else it is as it was
abbrev pub BeganFew : Option RestartFault → NodeState → NodeState → Type 0
BeganFew None old new = new.spare.few ≡ true → HasFewRows new.manager.plain
BeganFew (Some fault) old new = new.spare.few ≡ old.spare.few

-- where no restart before was from a log that was changed from outside, this one is none
abbrev pub RestartIsOwn : Act → List Entry → List Entry → Type 0
RestartIsOwn acts.Restart old new = NoneForeign old → NoneForeign new
RestartIsOwn _ old new = Unit {0}

-- the same whatever was asked
abbrev pub StaysOwn : List Entry → List Entry → Type 0
StaysOwn old new = NoneForeign old → NoneForeign new
