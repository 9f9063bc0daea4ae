-- What is known of a network whose histories replay, and whose managers are up.
use Rattle.std.specs.Prelude.{◌≡◌, ◌≤◌, ◌<◌, ℕ, suc, true, List, [], ◌++◌, Some, None, is_some}
use Rattle.mq_history.specs.declared.calls.Entry.{Entry}
use Rattle.mq_queue.specs.Queues.{AreDistinct}
use Rattle.mq_sender.specs.Table.{is_sending}
use Rattle.mq_sender.specs.States.{is_running}
use Rattle.mq_spec_manager.specs.Agents.{HasSeized, batch_row, queue_of_sender}
use Rattle.mq_calls.specs.declared.state.Batch.{Batch}
use Rattle.mq_calls.specs.Reads.{batch_of, stored}
use Rattle.mq_calls.specs.State.Running.{Up}
use Rattle.mq_spec_node.specs.Node.{Node, SenderEnd, end_in}
use Rattle.mq_spec_node.specs.Node.ChannelEnd.{Sends}
use Rattle.mq_spec_node.specs.Replays.{Follows, after}
use Rattle.mq_spec_network.specs.Turns.{Network}
use Rattle.mq_law_idle.specs.Counts.{held_in}
use Rattle.mq_law_unshared.specs.from_law_keys.Keys.{IsKeyed}
use Rattle.mq_law_seized.specs.Seized.{AreSeized}
use Rattle.mq_law_pump.specs.Rows.{rows_of}

-- A sender's end that sends a batch has the rows that it counts, which its queue holds; a batch is of that queue; one that runs has its queue
-- open, and sends batches of at least one message.
pub record FitsSender (e : SenderEnd) (n : Node) : Type 0 where
  pub there : is_sending e.machine.state ≡ true → (i : ℕ) → i < e.machine.count → is_some (batch_row e.channel (suc i) n.manager) ≡ true
  pub held : is_sending e.machine.state ≡ true → e.machine.count ≤ held_in (rows_of e.channel n.manager)
  pub queue : (b : Batch) → batch_of e.channel n.manager.channels.batches ≡ Some b → b.queue ≡ queue_of_sender e.channel n.manager
  pub open_ : is_running e.machine.state ≡ true → HasSeized e.channel n.manager
  pub some : is_running e.machine.state ≡ true → 1 ≤ e.machine.limits.batch_size

-- a node that is up: its ends are told apart, its senders have their queues alone, and idents stand once on a queue
pub record IsFit (n : Node) : Type 0 where
  pub keyed : IsKeyed n
  pub seized : AreSeized n.manager
  pub distinct : (name : List ℕ) → AreDistinct (stored name n.manager).rows
  pub senders : (k : ℕ) (e : SenderEnd) → end_in k n.own.ends ≡ Some (Sends e) → FitsSender e n

-- The histories replay; each node on the way fits, where it is up; and all are up now.
pub record Good (w : Network) : Type 0 where
  pub there : (m : ℕ) → w.first m ≡ None → w.done m ≡ []
  pub replays : (m : ℕ) (n : Node) → w.first m ≡ Some n → Follows n 0 (w.done m)
  pub fit : (m : ℕ) (n : Node) (front back : List Entry) → w.first m ≡ Some n → w.done m ≡ front ++ back → (after n front).manager.running ≡ Up → IsFit (after n front)
  pub up : (m : ℕ) (n : Node) → w.first m ≡ Some n → (after n (w.done m)).manager.running ≡ Up
