-- What holds of a node's deeds, given by their kinds; and what holds of its ends and its manager, wherever that is up.
use Rattle.std.specs.Prelude.{◌≡◌, ℕ, List, [], map, Option, Some, None}
use Rattle.mq_frame.specs.declared.frame.Seen.{Seen}
use Rattle.mq_sc_parse.specs.declared.command.Command.TheVariants as commands
use Rattle.mq_sc_parse.specs.declared.command.Op.{Op}
use Rattle.mq_history.specs.declared.acts.Act.TheVariants as acts
use Rattle.mq_history.specs.declared.calls.Actor.{Actor}
use Rattle.mq_history.specs.declared.calls.Actor.TheVariants as actors
use Rattle.mq_history.specs.declared.calls.Call.{Call}
use Rattle.mq_history.specs.declared.calls.Call.TheVariants as calls
use Rattle.mq_calls.specs.State.{Plain}
use Rattle.mq_calls.specs.State.Running.{Up}
use Rattle.mq_calls.specs.Steps.{do_all}
use Rattle.mq_spec_manager.specs.Stops.{advance_clock, cut}
use Rattle.mq_spec_node.specs.Node.{ChannelEnd, Node, receiver_end, sender_end}
use Rattle.mq_spec_node.specs.Deeds.{Deed, end_begun}
use Rattle.mq_spec_node.specs.Operators.{operate}
use Rattle.mq_spec_node.specs.Happens.{deed_of, receiver_turn, sender_turn, timeout_of}
use Rattle.mq_law_node.specs.Quiet.{IsOrdinary}

-- a deed is of no end, of an end's turn, of a sender's timeout, or of a command on ends; or there is none
pub record DeedHas (has : Option Deed → Type 0) (stamp : ℕ) (actor : Actor) (call : Call) (seen : Seen) (n : Node) : Type 0 where
  pub none : has None
  pub ordinary : IsOrdinary actor call → has (deed_of stamp actor call seen n)
  pub sends : (cable : ℕ) → actor ≡ actors.Sender cable → call ≡ calls.Turn → has (sender_turn stamp (sender_end cable n.own) seen n)
  pub takes : (cable : ℕ) → actor ≡ actors.Receiver cable → call ≡ calls.Turn → has (receiver_turn stamp (receiver_end cable n.own) seen n)
  pub times : (cable : ℕ) → actor ≡ actors.Sender cable → call ≡ calls.Timeout → has (timeout_of (sender_end cable n.own) n)
  pub operates : (op : Op) → call ≡ calls.Act (acts.Obey (commands.Operate op)) → has (Some (operate op n))

-- it holds where the manager is up, and behind a deed
abbrev pub HoldsUp : (List ChannelEnd → Plain → Type 0) → Node → Type 0
HoldsUp holds n = n.manager.running ≡ Up → holds n.own.ends n.manager

abbrev pub HoldsBehind : (List ChannelEnd → Plain → Type 0) → Node → Option Deed → Type 0
HoldsBehind holds n None = Unit {0}
HoldsBehind holds n (Some d) = holds d.own.ends (do_all d.parts n.manager)

-- neither the log nor the clock bears on it, and it holds as a manager starts
pub record IsLasting (holds : List ChannelEnd → Plain → Type 0) : Type 0 where
  pub cuts : (es : List ChannelEnd) (k : ℕ) (p : Plain) → holds es p → holds es (cut k p)
  pub clocks : (es : List ChannelEnd) (by_ : ℕ) (p : Plain) → holds es p → holds es (advance_clock by_ p)
  pub begins : (es : List ChannelEnd) (p : Plain) → p.channels.seizures ≡ [] → p.channels.batches ≡ [] → p.connections ≡ [] → holds (map (end_begun p) es) p
