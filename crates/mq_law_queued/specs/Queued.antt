-- The batch of a sender is of the queue that it has open, and lists each row once; where it sends none, it has none; and where it runs, it
-- may send batches of one message at least.
use Rattle.std.specs.Prelude.{◌≡◌, ◌≤◌, ℕ, Bool, true, false, not, List, Option, Some, None}
use Rattle.std.specs.Str.{bytes_eq}
use Rattle.mq_base.specs.Members.{AreDistinct, Mem}
use Rattle.mq_objects.specs.Names.{channel_of}
use Rattle.mq_objects.specs.declared.object.Channel.{Channel}
use Rattle.mq_objects.specs.declared.object.ChannelKind.{ChannelKind}
use Rattle.mq_objects.specs.declared.object.ChannelKind.TheVariants as kinds
use Rattle.mq_objects.specs.declared.object.Definitions.{Definitions}
use Rattle.mq_sender.specs.States.{is_running}
use Rattle.mq_sender.specs.Table.{is_sending}
use Rattle.mq_calls.specs.declared.state.Batch.{Batch}
use Rattle.mq_calls.specs.State.{Change, Plain}
use Rattle.mq_calls.specs.State.Change.{AddBatch, DropBatch, ForgetAll, Seize, Unseize}
use Rattle.mq_calls.specs.State.Running.{Up}
use Rattle.mq_calls.specs.Reads.{batch_of}
use Rattle.mq_calls.specs.Steps.{Part, Step}
use Rattle.mq_spec_manager.specs.Agents.{queue_of_sender}
use Rattle.mq_law_seized.specs.Each.{all_of, parts_of_all, step_of_all}
use Rattle.mq_spec_node.specs.Node.{ChannelEnd, Node, Own, SenderEnd}
use Rattle.mq_spec_node.specs.Node.ChannelEnd.{Sends}
use Rattle.mq_spec_node.specs.Deeds.{Deed}

-- what changes no sender's queue and no batch
abbrev pub is_calm : Change → Bool
is_calm (Seize s) = false
is_calm (Unseize channel) = false
is_calm (AddBatch b) = false
is_calm (DropBatch channel) = false
is_calm ForgetAll = false
is_calm _ = true

abbrev pub all_calm : List Change → Bool
all_calm cs = all_of is_calm cs

abbrev pub parts_calm : List Part → Bool
parts_calm parts = parts_of_all is_calm parts

abbrev pub step_calm : {F T : Type 0} → Step F T → Bool
step_calm s = step_of_all is_calm s

-- or at least none of this channel
abbrev pub is_calm_for : List ℕ → Change → Bool
is_calm_for channel (Seize s) = not (bytes_eq channel s.channel)
is_calm_for channel (Unseize other) = not (bytes_eq channel other)
is_calm_for channel (AddBatch b) = not (bytes_eq channel b.channel)
is_calm_for channel (DropBatch other) = not (bytes_eq channel other)
is_calm_for channel ForgetAll = false
is_calm_for channel _ = true

abbrev pub all_calm_for : List ℕ → List Change → Bool
all_calm_for channel cs = all_of (is_calm_for channel) cs

abbrev pub parts_calm_for : List ℕ → List Part → Bool
parts_calm_for channel parts = parts_of_all (is_calm_for channel) parts

-- a channel without a batch has none behind it
abbrev pub is_bare : Change → Bool
is_bare (AddBatch b) = false
is_bare _ = true

abbrev pub all_bare : List Change → Bool
all_bare cs = all_of is_bare cs

abbrev pub parts_bare : List Part → Bool
parts_bare parts = parts_of_all is_bare parts

-- a deed that is calm, and leaves the ends of channels as they are
pub record IsCalmDeed (own : Own) (d : Deed) : Type 0 where
  pub parts : parts_calm d.parts ≡ true
  pub ends : d.own.ends ≡ own.ends

abbrev pub EachCalm : Own → Option Deed → Type 0
EachCalm own None = Unit {0}
EachCalm own (Some d) = IsCalmDeed own d

-- BATCHSZ of each channel that is defined as a sender's is 1 at least
abbrev pub IsKindSome : ChannelKind → Type 0
IsKindSome (kinds.Sender batch retry xmitq) = 1 ≤ batch
IsKindSome (kinds.Receiver dead) = Unit {0}

abbrev pub HaveSome : Definitions → Type 0
HaveSome d = (name : List ℕ) (c : Channel) → channel_of name d ≡ Some c → IsKindSome c.kind

pub record IsQueued (e : SenderEnd) (p : Plain) : Type 0 where
  pub none : is_sending e.machine.state ≡ false → batch_of e.channel p.channels.batches ≡ None
  pub of : (b : Batch) → batch_of e.channel p.channels.batches ≡ Some b → b.queue ≡ queue_of_sender e.channel p
  pub once : (b : Batch) → batch_of e.channel p.channels.batches ≡ Some b → AreDistinct b.idents
  pub some : is_running e.machine.state ≡ true → 1 ≤ e.machine.limits.batch_size

-- so each sender of a node, where its manager is up
abbrev pub AreQueued : List ChannelEnd → Plain → Type 0
AreQueued es p = (e : SenderEnd) → Mem (Sends e) es → IsQueued e p

abbrev pub QueuedUp : Node → Type 0
QueuedUp n = n.manager.running ≡ Up → AreQueued n.own.ends n.manager
