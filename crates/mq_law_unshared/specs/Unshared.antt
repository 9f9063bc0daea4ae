-- Behind each part of a deed, the queues that senders have open are theirs alone; and a sender that runs has its queue open.
use Rattle.std.specs.Prelude.{◌≡◌, Bool, true, false, not, List, Option, ℕ}
use Rattle.std.specs.Str.{bytes_eq}
use Rattle.mq_sender.specs.States.{is_running}
use Rattle.mq_calls.specs.State.{Change, Plain}
use Rattle.mq_calls.specs.State.Change.{ForgetAll, Unseize}
use Rattle.mq_calls.specs.State.Running.{Up}
use Rattle.mq_calls.specs.Steps.{Part, Step}
use Rattle.mq_spec_manager.specs.Agents.{HasSeized}
use Rattle.mq_spec_node.specs.Node.{ChannelEnd, Node, SenderEnd}
use Rattle.mq_spec_node.specs.Node.ChannelEnd.{Sends}
use Rattle.mq_spec_node.specs.Deeds.{Deed}
use Rattle.mq_base.specs.Members.{Mem}
use Rattle.mq_law_seized.specs.Each.{all_of, parts_of_all, step_of_all}
use Rattle.mq_law_manager.specs.Kept.{AllKeep}
use Rattle.mq_law_seized.specs.Seized.{AreSeized}
use Rattle.mq_law_unshared.specs.Ordinary.{EachHas}

abbrev pub EachLeaves : Plain → Option Deed → Type 0
EachLeaves p o = EachHas (λ parts. AllKeep AreSeized parts p) o

-- what leaves all queues open that senders have open
abbrev pub is_still : Change → Bool
is_still (Unseize channel) = false
is_still ForgetAll = false
is_still _ = true

abbrev pub all_still : List Change → Bool
all_still cs = all_of is_still cs

abbrev pub parts_still : List Part → Bool
parts_still parts = parts_of_all is_still parts

abbrev pub step_still : {F T : Type 0} → Step F T → Bool
step_still s = step_of_all is_still s

-- or at least this channel's
abbrev pub is_still_for : List ℕ → Change → Bool
is_still_for channel (Unseize other) = not (bytes_eq channel other)
is_still_for channel ForgetAll = false
is_still_for channel _ = true

abbrev pub all_still_for : List ℕ → List Change → Bool
all_still_for channel cs = all_of (is_still_for channel) cs

abbrev pub parts_still_for : List ℕ → List Part → Bool
parts_still_for channel parts = parts_of_all (is_still_for channel) parts

-- each sender that runs has its queue open
abbrev pub AreOpen : List ChannelEnd → Plain → Type 0
AreOpen es p = (e : SenderEnd) → Mem (Sends e) es → is_running e.machine.state ≡ true → HasSeized e.channel p

-- so it is at a manager that is up, and each such queue is its sender's alone
pub record IsUnshared (n : Node) : Type 0 where
  pub seized : AreSeized n.manager
  pub open_ : AreOpen n.own.ends n.manager

abbrev pub WhereUp : Node → Type 0
WhereUp n = n.manager.running ≡ Up → IsUnshared n
