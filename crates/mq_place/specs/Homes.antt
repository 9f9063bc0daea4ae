-- Where idents stand: what a map from idents to names of queues says of the rows.
use Rattle.std.specs.Prelude.{◌≡◌, ℕ, ◌+◌, Bool, false, List, [], ◌∷◌, Option, Some, None}
use Rattle.std.specs.List.{AllByRecursion}
use Rattle.std.specs.Str.{bytes_eq}
use Rattle.indexmap.specs.IndexMap.{IndexMap, get}
use Rattle.mq_message.specs.declared.message.Ident.{Ident}
use Rattle.mq_queue.specs.declared.row.Row.{Row}
use Rattle.mq_queue.specs.Rows.{same_ident}
use Rattle.mq_place.specs.States.{QueueState}

-- the queue that an ident was noted for
abbrev pub home_of : {S : Type 0} → IndexMap Ident (List ℕ) S → Ident → Option (List ℕ)
home_of homes ident = get same_ident homes ident

abbrev pub is_home : List ℕ → Option (List ℕ) → Bool
is_home name None = false
is_home name (Some home) = bytes_eq name home

-- each row of a queue was noted for it
abbrev pub IsHome : (Ident → Option (List ℕ)) → QueueState → Type 0
IsHome home s = AllByRecursion (λ (row : Row). home row.message.ident ≡ Some s.queue.name) s.queue.rows

abbrev pub AreHome : (Ident → Option (List ℕ)) → List QueueState → Type 0
AreHome home states = AllByRecursion (IsHome home) states

-- all uncommitted puts
abbrev pub all_pending : List QueueState → ℕ
all_pending [] = 0
all_pending (s ∷ ss) = s.pending + all_pending ss
