-- What each history keeps of a node whose manager is up, of which it follows that the node fits.
use Rattle.std.specs.Prelude.{◌≡◌, ◌≤◌, true, Some, length}
use Rattle.mq_base.specs.Members.{AreDistinct, Mem}
use Rattle.mq_sender.specs.States.{is_running}
use Rattle.mq_sender.specs.Table.{is_sending}
use Rattle.mq_calls.specs.declared.state.Batch.{Batch}
use Rattle.mq_calls.specs.Reads.{batch_of}
use Rattle.mq_spec_manager.specs.Agents.{queue_of_sender}
use Rattle.mq_spec_node.specs.Node.{Node, SenderEnd}
use Rattle.mq_spec_node.specs.Node.ChannelEnd.{Sends}
use Rattle.mq_law_unshared.specs.from_law_keys.Keys.{IsKeyed}
use Rattle.mq_law_manager.specs.Facts.{Sound}
use Rattle.mq_law_unshared.specs.Unshared.{IsUnshared}

-- a batch that is being sent lists no fewer rows than its sender counts, each once
pub record SendsBatch (e : SenderEnd) (n : Node) : Type 0 where
  pub batch : Batch
  pub is : batch_of e.channel n.manager.channels.batches ≡ Some batch
  pub many : e.machine.count ≤ length batch.idents
  pub once : AreDistinct batch.idents

pub record IsKeptNode (n : Node) : Type 0 where
  pub keyed : IsKeyed n
  pub unshared : IsUnshared n
  pub sound : Sound n.manager
  pub queued : (e : SenderEnd) → Mem (Sends e) n.own.ends → (b : Batch) → batch_of e.channel n.manager.channels.batches ≡ Some b → b.queue ≡ queue_of_sender e.channel n.manager
  pub sends : (e : SenderEnd) → Mem (Sends e) n.own.ends → is_sending e.machine.state ≡ true → SendsBatch e n
  pub some : (e : SenderEnd) → Mem (Sends e) n.own.ends → is_running e.machine.state ≡ true → 1 ≤ e.machine.limits.batch_size
