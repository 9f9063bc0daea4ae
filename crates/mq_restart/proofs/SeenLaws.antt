-- The plain manager of parts that were built from an image is the one that begins with it.
use Rattle.std.proofs.Common.{◌≡◌, ℕ, ◌+◌, List, [], ◌∷◌, refl, ap, arith, ◌∙◌}
use Rattle.std.specs.Prelude.{map}
use Rattle.mq_objects.specs.declared.object.Definitions.{Definitions}
use Rattle.mq_calls.specs.State.{Plain, Queue, Given, LogState as PlainLog}
use Rattle.mq_calls.specs.declared.state.SenderSide.{SenderSide}
use Rattle.mq_calls.specs.declared.state.ReceiverSide.{ReceiverSide}
use Rattle.mq_calls.specs.State.Running.{Up}
use Rattle.mq_calls.specs.Images.{queue_on, begun, raised}
use Rattle.mq_calls.specs.declared.image.Image.{Image}
use Rattle.mq_calls.specs.declared.image.Shelf.{Shelf}
use Rattle.mq_log.specs.State.{LogState, log_length}
use Rattle.mq_rebuild.specs.from_place.States.{QueueState, queues_of}
use Rattle.mq_rebuild.specs.declared.building.Built.{Built}
use Rattle.mq_rebuild.specs.Rebuilt.{state_on, IsBuilt}
use Rattle.mq_redo.specs.from_core.Views.{plain_of}
use Rattle.mq_restart.specs.Begun.{given_by, begun_parts}

pub queues_seen : (d : Definitions) (shelves : List Shelf) → queues_of (map (state_on d) shelves) ≡ map queue_on shelves
queues_seen d [] = refl
queues_seen d (s ∷ ss) = ap (λ (qs : List Queue). queue_on s ∷ qs) (queues_seen d ss)

-- a manager that is up, by what it has
abbrev up_with : List (List ℕ) → Given → Definitions → List Queue → List SenderSide → List ReceiverSide → ℕ → ℕ → PlainLog → Plain
up_with bound g d qs senders receivers incarnation moment log = record {
  given = g;
  running = Up;
  definitions = d;
  queues = qs;
  connections = [];
  channels = record { senders = senders; receivers = receivers; seizures = []; batches = []; bound = bound };
  moment = moment;
  numbers = record { incarnation = incarnation; idents = 0; connections = 0 };
  log = log;
}

abbrev log_seen : LogState → PlainLog
log_seen log = record { length = log_length log.bodies; armed = log.armed }

pub begun_seen : (number : ℕ) (name : List ℕ) (moment : ℕ) (i : Image) (b : Built) (log : LogState) → IsBuilt i b
    → plain_of (begun_parts number name moment b log) ≡ begun (given_by number name log.max) (raised 0 i) (log_seen log) moment
begun_seen number name moment i b log h =
    let next : b.incarnation + 1 ≡ i.incarnation + 0 + 1 = let e = h.incarnation in omega (arith, e) in
    let g = given_by number name log.max in
    ap (λ (ns : List (List ℕ)). up_with ns g b.defs.definitions (queues_of b.queues.states) b.senders b.receivers (b.incarnation + 1) moment (log_seen log)) h.bound
    ∙ ap (λ (d : Definitions). up_with [] g d (queues_of b.queues.states) b.senders b.receivers (b.incarnation + 1) moment (log_seen log)) h.defs
    ∙ ap (λ (ss : List QueueState). up_with [] g i.definitions (queues_of ss) b.senders b.receivers (b.incarnation + 1) moment (log_seen log)) h.queues
    ∙ ap (λ (qs : List Queue). up_with [] g i.definitions qs b.senders b.receivers (b.incarnation + 1) moment (log_seen log)) (queues_seen i.definitions i.shelves)
    ∙ ap (λ (s : List SenderSide). up_with [] g i.definitions (map queue_on i.shelves) s b.receivers (b.incarnation + 1) moment (log_seen log)) h.senders
    ∙ ap (λ (r : List ReceiverSide). up_with [] g i.definitions (map queue_on i.shelves) i.senders r (b.incarnation + 1) moment (log_seen log)) h.receivers
    ∙ ap (λ (n : ℕ). up_with [] g i.definitions (map queue_on i.shelves) i.senders i.receivers n moment (log_seen log)) next
