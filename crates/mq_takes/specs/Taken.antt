-- The messages of a batch that a commit places, told by how their idents stand before it.
use Rattle.std.specs.Prelude.{◌≡◌, ℕ, Bool, ◌||◌, List, [], ◌∷◌, ◌++◌, if◌then◌else◌}
use Rattle.std.specs.List.{list_any}
use Rattle.mq_sync.specs.declared.unit.Unit.{Unit as Luw}
use Rattle.mq_calls.specs.Words.{Ident, Message, Plain, Reason, Step, Refuse, Do, same_ident}
use Rattle.mq_spec_manager.specs.Agents.{is_present, messages_taken, receive, standing_at}

-- one of these has the ident
abbrev pub has_ident_of : Ident → Message → Bool
has_ident_of ident m = same_ident ident m.ident

abbrev pub is_among : Ident → List Message → Bool
is_among ident ms = list_any (has_ident_of ident) ms

-- a message is kept out behind those that were taken
abbrev pub is_out : List Message → Message → Plain → Bool
is_out done m p = is_among m.ident done || is_present (standing_at m p)

abbrev pub taken_behind : List Message → List Message → Plain → List Message
taken_behind done [] p = []
taken_behind done (m ∷ ms) p = if is_out done m p then taken_behind done ms p else m ∷ taken_behind (done ++ m ∷ []) ms p

-- these are taken where the batch is placed
abbrev pub IsDone : Step Reason (Unit {0}) → Type 0
IsDone (Refuse reason) = ⊥
IsDone (Do reply parts) = Unit {0}

abbrev pub TakesAll : List Message → Plain → List Message → Type 0
TakesAll batch p ms = (channel : List ℕ) (unit : Luw) (last : ℕ) → IsDone (receive channel unit last batch p) → ms ≡ messages_taken channel batch p
