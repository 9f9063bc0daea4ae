-- What a PUMP leaves at a manager: its definitions; and of a channel's sender that runs on, its queue, to whose rows none comes.
use Rattle.std.specs.Prelude.{◌≡◌, ℕ, Bool, true, false, not, List, Option, Some, None}
use Rattle.std.specs.Str.{bytes_eq}
use Rattle.mq_sender.specs.States.{is_running}
use Rattle.mq_sender.specs.declared.state.Sender.{Sender}
use Rattle.mq_calls.specs.State.{Change}
use Rattle.mq_calls.specs.State.Change.{ChangeObjects, ForgetAll, Place, Seize, Unseize}
use Rattle.mq_calls.specs.Steps.{Part}
use Rattle.mq_spec_node.specs.Deeds.{Deed}
use Rattle.mq_spec_node.specs.Node.{SenderEnd, end_in}
use Rattle.mq_spec_node.specs.Node.ChannelEnd.{Sends}
use Rattle.mq_law_seized.specs.Each.{all_of, parts_of_all}

abbrev pub defines_none : Change → Bool
defines_none (ChangeObjects change) = false
defines_none _ = true

abbrev pub all_define_none : List Change → Bool
all_define_none cs = all_of defines_none cs

abbrev pub parts_define_none : List Part → Bool
parts_define_none parts = parts_of_all defines_none parts

abbrev pub EachDefinesNone : Option Deed → Type 0
EachDefinesNone None = Unit {0}
EachDefinesNone (Some d) = parts_define_none d.parts ≡ true

-- a change that leaves the channel's queue open, and places no row there
abbrev pub leaves : (channel queue : List ℕ) → Change → Bool
leaves channel queue (Place other m) = not (bytes_eq queue other)
leaves channel queue (Seize s) = false
leaves channel queue (Unseize other) = not (bytes_eq channel other)
leaves channel queue ForgetAll = false
leaves channel queue _ = true

abbrev pub all_leave : (channel queue : List ℕ) → List Change → Bool
all_leave channel queue cs = all_of (leaves channel queue) cs

abbrev pub parts_leave : (channel queue : List ℕ) → List Part → Bool
parts_leave channel queue parts = parts_of_all (leaves channel queue) parts

-- a deed of a sender's own end leaves its queue so, where the sender runs behind it
abbrev pub EachLeavesOwn : (queue : List ℕ) → SenderEnd → Option Deed → Type 0
EachLeavesOwn queue e None = Unit {0}
EachLeavesOwn queue e (Some d) = (m : Sender) → end_in e.cable d.own.ends ≡ Some (Sends (record e { machine = m })) → is_running m.state ≡ true → parts_leave e.channel queue d.parts ≡ true
