-- How idents stand, as the code has it, and behind the messages of a batch that have landed.
use Rattle.std.specs.Prelude.{◌≡◌, Bool, List, [], ◌∷◌, if◌then◌else◌, flat_map, IsSome}
use Rattle.std.specs.List.{list_any}
use Rattle.mq_calls.specs.Words.{Ident, Message, Plain, same_ident, local_of, apply_all}
use Rattle.mq_spec_manager.specs.Agents.{Standing, Absent, InDoubtAt, Present, standing_at}
use Rattle.mq_law_manager.specs.Facts.{AreNamed}
use Rattle.mq_core.specs.declared.parts.Arrival.{Arrival}
use Rattle.mq_receive.specs.declared.idents.Found.{Found}
use Rattle.mq_receive.specs.declared.idents.Found.TheVariants as found
use Rattle.mq_core.specs.Writes.{standing_of, arrival_changes}

abbrev pub standing_as : Found → Standing
standing_as found.Absent = Absent
standing_as (found.InDoubt queue) = InDoubtAt queue
standing_as found.Present = Present

-- a message of the ident has landed
abbrev pub is_landed : Ident → Arrival → Bool
is_landed ident a = same_ident ident a.message.ident

abbrev pub has_landed : Ident → List Arrival → Bool
has_landed ident landed = list_any (is_landed ident) landed

-- how an ident stands behind those that have landed: those are present, any other stands as before
abbrev pub standing_among : List Arrival → Message → Plain → Standing
standing_among landed m p = if has_landed m.ident landed then Present else standing_at m p

-- a message can land so: its ident stands so, and its queue is defined
pub record FitsAt (a : Arrival) (p : Plain) : Type 0 where
  pub standing : standing_at a.message p ≡ standing_of a.dropped
  pub defined : IsSome (local_of a.queue p.definitions)
  pub named : AreNamed p.queues

-- all of them, one behind the other
abbrev pub AreFitting : List Arrival → Plain → Type 0
AreFitting [] p = Unit {0}
AreFitting (a ∷ landed) p = FitsAt a p × AreFitting landed (apply_all (arrival_changes a) p)

-- the state behind them
abbrev pub behind_all : List Arrival → Plain → Plain
behind_all landed p = apply_all (flat_map arrival_changes landed) p
