-- A trigger turn: what its parts read of it, and how its answer meets the plain manager's step.
use Rattle.std.specs.Prelude.{◌≡◌, ℕ, ◌+◌, true, false, List, [], ◌∷◌, nat_lt, Option, Some, None, Result, Ok, Err, IsSome}
use Rattle.mq_base.specs.declared.want.NoMemory.{NoMemory}
use Rattle.mq_calls.specs.declared.deltas.Did.TheVariants as did
use Rattle.mq_calls.specs.declared.commands.Halt.TheVariants as halts
use Rattle.mq_calls.specs.Words.{Message, Plain, Part, Do, say, silent, stored, local_of}
use Rattle.mq_calls.specs.declared.commands.Halt.{Halt}
use Rattle.mq_calls.specs.State.Change.{Place, CountIdent, Serve}
use Rattle.mq_spec_manager.specs.Triggers.{Never, trigger_turn}
use Rattle.mq_spec_manager.specs.Words.{next_ident}
use Rattle.mq_place.specs.States.{change_state, on_queue, served}
use Rattle.mq_core.specs.Views.{PartsValue}
use Rattle.mq_core.specs.Placing.{with_states}
use Rattle.mq_steer.specs.declared.triggers.Sending.{Sending}
use Rattle.mq_steer.specs.declared.triggers.Serving.{Serving}

-- the trigger is served, and its message is put
abbrev pub sent_part : List ℕ → List ℕ → Message → Part
sent_part from to m = record { forced = None; changes = Serve from ∷ CountIdent ∷ Place to m ∷ []; delta = did.Placed to m.ident None ∷ [] }

-- a trigger of the queue is due
abbrev pub IsDue : List ℕ → Plain → Type 0
IsDue from p = nat_lt 0 (stored from p).due ≡ true

-- the message has the next ident, and its queue is there
pub record CanSend (to : List ℕ) (m : Message) (p : Plain) : Type 0 where
  pub ident : m.ident ≡ next_ident p
  pub there : IsSome (local_of to p.definitions)

-- what is done with the trigger of a queue
abbrev pub ServesBy : Part → Plain → List ℕ → Option Sending → Type 0
ServesBy part p from None = part ≡ silent (Serve from ∷ [])
ServesBy part p from (Some sending) = (part ≡ sent_part from sending.to sending.message) × CanSend sending.to sending.message p

abbrev pub Serves : List ℕ → Part → Plain → Result Serving NoMemory → Type 0
Serves from part p (Ok serving) = (serving.from ≡ from) × ServesBy part p from serving.sending
Serves from part p (Err _) = Unit {0}

-- what a turn does
abbrev pub IsServedBy : Plain → List ℕ → Option Sending → Type 0
IsServedBy p from None = trigger_turn p ≡ Do true (silent (Serve from ∷ []) ∷ [])
IsServedBy p from (Some sending) = (trigger_turn p ≡ Do true (sent_part from sending.to sending.message ∷ [])) × CanSend sending.to sending.message p

abbrev pub IsServed : Plain → Serving → Type 0
IsServed p serving = IsDue serving.from p × IsServedBy p serving.from serving.sending

abbrev pub IsServedOr : Plain → Result Serving NoMemory → Type 0
IsServedOr p (Ok serving) = IsServed p serving
IsServedOr p (Err _) = Unit {0}

abbrev pub IsTurn : Plain → Result (Option Serving) NoMemory → Type 0
IsTurn p (Ok None) = trigger_turn p ≡ say false
IsTurn p (Ok (Some serving)) = IsServed p serving
IsTurn p (Err _) = Unit {0}

-- a trigger of a queue is served
abbrev pub served_at : List ℕ → PartsValue → PartsValue
served_at from x = with_states (change_state from (on_queue served) x.queues.states) x

-- the next ident is given
abbrev pub numbered : PartsValue → PartsValue
numbered x = record x { idents = x.idents + 1 }

-- want of memory is how such a call halts, and nothing else
abbrev pub halted : {T : Type 0} → Result T NoMemory → Result T (Halt Never)
halted (Ok value) = Ok value
halted (Err _) = Err halts.NoMemory
