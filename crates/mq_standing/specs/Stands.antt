-- How a network stands, by its nodes.
use Rattle.std.specs.Prelude.{ℕ, suc, Bool, true, false, List, [], ◌∷◌, Option, None, Some, map, slice_get}
use Rattle.mq_objects.specs.declared.object.LocalQueue.{LocalQueue}
use Rattle.mq_objects.specs.Names.{locals_of}
use Rattle.mq_sync.specs.declared.data.InDoubt.{InDoubt}
use Rattle.mq_sync.specs.declared.data.ReceiverData.{ReceiverData}
use Rattle.mq_sync.specs.declared.data.SenderData.{SenderData}
use Rattle.mq_sync.specs.declared.unit.Unit.{Unit as Luw}
use Rattle.mq_sync.specs.Settlement.{sender_or, receiver_or}
use Rattle.mq_history.specs.declared.scenario.CableLine.{CableLine}
use Rattle.mq_history.specs.declared.scenario.Scenario.{Scenario}
use Rattle.mq_calls.specs.State.{Plain}
use Rattle.mq_calls.specs.Reads.{depth, is_up, receiver_data, sender_data, stored}
use Rattle.mq_spec_node.specs.Node.{Node, ReceiverEnd, SenderEnd, receiver_end, sender_end}
use Rattle.mq_net_stands.specs.declared.standing.CableStanding.{CableStanding}
use Rattle.mq_net_stands.specs.declared.standing.ManagerStanding.{ManagerStanding}
use Rattle.mq_net_stands.specs.declared.standing.QueueStanding.{QueueStanding}
use Rattle.mq_net_stands.specs.declared.standing.ReceiverStanding.{ReceiverStanding}
use Rattle.mq_net_stands.specs.declared.standing.SenderStanding.{SenderStanding}
use Rattle.mq_net_stands.specs.declared.standing.Standing.{Standing}

-- a local queue: its depth, and its committed rows, held ones too
abbrev pub queue_standing : Plain → LocalQueue → QueueStanding
queue_standing p q = record { name = q.name; depth = depth q.name p; rows = (stored q.name p).rows }

-- in order of definition; none of a manager that is down
abbrev pub queues_if : Bool → Plain → List QueueStanding
queues_if true p = map (queue_standing p) (locals_of p.definitions)
queues_if false p = []

abbrev pub queues_standing : Plain → List QueueStanding
queues_standing p = queues_if (is_up p.running) p

abbrev pub manager_standing : Plain → ManagerStanding
manager_standing p = record { name = p.given.name; is_up = is_up p.running; queues = queues_standing p }

-- The ends of a cable, each at its manager; none of one that is down.
abbrev pub unit_of : Option InDoubt → Option Luw
unit_of None = None
unit_of (Some d) = Some d.unit

abbrev pub sender_told : SenderEnd → SenderData → SenderStanding
sender_told e d = record { state = e.machine.state; session = d.session; last = d.last; in_doubt = unit_of d.in_doubt }

abbrev pub sender_if : Bool → Option SenderEnd → SenderData → Option SenderStanding
sender_if true (Some e) d = Some (sender_told e d)
sender_if _ _ d = None

abbrev pub sender_standing : ℕ → List ℕ → Option Node → Option SenderStanding
sender_standing cable channel None = None
sender_standing cable channel (Some n) = sender_if (is_up n.manager.running) (sender_end cable n.own) (sender_or (sender_data channel n.manager))

abbrev pub receiver_told : ReceiverEnd → ReceiverData → ReceiverStanding
receiver_told e d = record { state = e.machine.state; session = d.session; last = d.last; unit = d.unit }

abbrev pub receiver_if : Bool → Option ReceiverEnd → ReceiverData → Option ReceiverStanding
receiver_if true (Some e) d = Some (receiver_told e d)
receiver_if _ _ d = None

abbrev pub receiver_standing : ℕ → List ℕ → Option Node → Option ReceiverStanding
receiver_standing cable channel None = None
receiver_standing cable channel (Some n) = receiver_if (is_up n.manager.running) (receiver_end cable n.own) (receiver_or (receiver_data channel n.manager))

abbrev pub cable_standing : List Node → ℕ → CableLine → CableStanding
cable_standing ns cable c = record {
  channel = c.channel;
  sender = sender_standing cable c.channel (slice_get ns c.sender);
  receiver = receiver_standing cable c.channel (slice_get ns c.receiver);
}

abbrev pub cables_standing : List Node → ℕ → List CableLine → List CableStanding
cables_standing ns cable [] = []
cables_standing ns cable (c ∷ cs) = cable_standing ns cable c ∷ cables_standing ns (suc cable) cs

-- of all managers and cables, in the scenario's order
abbrev pub standing_of : Scenario → List Node → Standing
standing_of s ns = record { managers = map (λ (n : Node). manager_standing n.manager) ns; cables = cables_standing ns 0 s.cables }
