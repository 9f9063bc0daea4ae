-- What holds of each sender of a node, and which changes of its manager leave it.
use Rattle.std.specs.Prelude.{◌≡◌, ℕ, Bool, true, List}
use Rattle.mq_base.specs.Members.{Mem}
use Rattle.mq_sender.specs.States.{is_running}
use Rattle.mq_calls.specs.State.{Change, Plain}
use Rattle.mq_calls.specs.Steps.{Part, do_all}
use Rattle.mq_spec_manager.specs.Agents.{HasSeized}
use Rattle.mq_spec_node.specs.Node.{ChannelEnd, SenderEnd}
use Rattle.mq_spec_node.specs.Node.ChannelEnd.{Sends}
use Rattle.mq_law_seized.specs.Each.{is_common, is_written, parts_of_all}

abbrev pub AreEach : (SenderEnd → Plain → Type 0) → List ChannelEnd → Plain → Type 0
AreEach holds es p = (e : SenderEnd) → Mem (Sends e) es → holds e p

-- Changes of a kind leave it of all senders, and those that may be for a channel leave it of that channel's sender. Common changes and those of forced
-- writes are of the kind.
pub record IsLeftBy (holds : SenderEnd → Plain → Type 0) (is : Change → Bool) (may : List ℕ → Change → Bool) : Type 0 where
  pub wider : (c : List ℕ) (x : Change) → is x ≡ true → may c x ≡ true
  pub kept : (e : SenderEnd) (parts : List Part) (p : Plain) → parts_of_all (may e.channel) parts ≡ true → holds e p → holds e (do_all parts p)
  pub common : (x : Change) → is_common x ≡ true → is x ≡ true
  pub written : (x : Change) → is_written x ≡ true → is x ≡ true

-- that it has its queue open, where it runs
abbrev pub IsOpen : SenderEnd → Plain → Type 0
IsOpen e p = is_running e.machine.state ≡ true → HasSeized e.channel p
