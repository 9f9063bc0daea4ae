-- Messages that don't come to the queue of a sender that runs, at the manager to which their channel leads; and what stays of that manager.
use Rattle.std.specs.Prelude.{◌≡◌, ℕ, true, false, List, [], ◌∷◌, Option, Some, None, Ok}
use Rattle.std.specs.Str.{bytes_eq}
use Rattle.mq_frame.specs.declared.frame.Frame.{Frame}
use Rattle.mq_frame.specs.declared.frame.FrameKind.{FrameKind}
use Rattle.mq_frame.specs.declared.frame.FrameKind.TheVariants.{Msg}
use Rattle.mq_frame.specs.declared.frame.Seen.{Seen}
use Rattle.mq_frame.specs.declared.frame.Seen.TheVariants as items
use Rattle.mq_message.specs.declared.message.Dest.{Dest}
use Rattle.mq_message.specs.declared.message.Message.{Message}
use Rattle.mq_queue.specs.declared.row.Row.{Row}
use Rattle.mq_resolve.specs.Resolved.{resolve}
use Rattle.mq_resolve.specs.declared.route.Route.{Route}
use Rattle.mq_sender.specs.States.{is_running}
use Rattle.mq_calls.specs.State.{Plain}
use Rattle.mq_spec_manager.specs.Agents.{names_of, queue_of_sender}
use Rattle.mq_spec_manager.specs.Put.{queue_at}
use Rattle.mq_spec_node.specs.Deeds.{Deed}
use Rattle.mq_spec_node.specs.Node.{Node, ReceiverEnd, SenderEnd, end_in}
use Rattle.mq_spec_node.specs.Node.ChannelEnd.{Receives, Sends}

-- the queue of a sender that runs at this node
pub record RunsOn (n : Node) (queue : List ℕ) : Type 0 where
  pub cable : ℕ
  pub sender : SenderEnd
  pub here : end_in cable n.own.ends ≡ Some (Sends sender)
  pub runs : is_running sender.machine.state ≡ true
  pub is : queue_of_sender sender.channel n.manager ≡ queue

-- these names resolve to no such queue there
abbrev pub IsAway : Node → Dest → Type 0
IsAway n dest = (queue : List ℕ) → RunsOn n queue → (route : Route) → resolve n.manager.definitions n.manager.given.name dest.queue dest.qmgr ≡ Ok route → bytes_eq queue (queue_at route.end) ≡ false

-- messages, rows, and what lies on a cable
abbrev pub AllAway : Node → List Message → Type 0
AllAway n [] = Unit {0}
AllAway n (m ∷ ms) = IsAway n (names_of m.route) × AllAway n ms

abbrev pub RowsAway : Node → List Row → Type 0
RowsAway n [] = Unit {0}
RowsAway n (r ∷ rs) = IsAway n (names_of r.message.route) × RowsAway n rs

abbrev pub KindAway : Node → FrameKind → Type 0
KindAway n (Msg k index number dest message) = IsAway n dest
KindAway n _ = Unit {0}

abbrev pub SeenAway : Node → Seen → Type 0
SeenAway n (items.Frame f) = KindAway n f.kind
SeenAway n _ = Unit {0}

abbrev pub WayAway : Node → List Seen → Type 0
WayAway n [] = Unit {0}
WayAway n (x ∷ xs) = SeenAway n x × WayAway n xs

-- what a deed offers, and what it leaves a receiver of the messages that it keeps
abbrev pub FrameAway : Node → Option Frame → Type 0
FrameAway n None = Unit {0}
FrameAway n (Some f) = KindAway n f.kind

abbrev pub EachPushesAway : Node → Option Deed → Type 0
EachPushesAway n None = Unit {0}
EachPushesAway n (Some d) = FrameAway n d.pushed

abbrev pub EachKeepsAway : Node → ReceiverEnd → Option Deed → Type 0
EachKeepsAway n e None = Unit {0}
EachKeepsAway n e (Some d) = (r : ReceiverEnd) → end_in e.cable d.own.ends ≡ Some (Receives r) → AllAway n r.kept

-- nothing was defined, and the manager is called as it was
pub record IsAsBegun (now begun : Plain) : Type 0 where
  pub definitions : now.definitions ≡ begun.definitions
  pub given : now.given ≡ begun.given
