-- Keys of an index: a lane, and an id of a message.
use Rattle.std.specs.Prelude.{◌==◌, ◌&&◌, Bool, List, Option, None, Some, [], ◌∷◌, ℕ, replicate}
use Rattle.std.specs.Str.{bytes_eq}
use Rattle.std.specs.HashMap.{HashMap, get}
use Rattle.mq_queue.specs.declared.row.Row.{Row}
use Rattle.mq_index.specs.declared.keys.Key.{Key}
use Rattle.mq_index.specs.declared.keys.Ends.{Ends}
use Rattle.mq_index.specs.declared.keys.Kind.{Kind}
use Rattle.mq_index.specs.declared.keys.Kind.TheVariants.{Lane, MsgId, CorrelId}

abbrev pub same_key : Key → Key → Bool
same_key a b = a.lane == b.lane && bytes_eq a.id b.id

-- where a key stands first and last, as a map has it
abbrev pub ends_in : {S : Type 0} → HashMap Key Ends S → Key → Option Ends
ends_in m key = get same_key m key

-- the id by which rows are indexed: none, but zeros, for lanes alone
abbrev pub id_by : Kind → Row → List ℕ
id_by Lane row = replicate 24 0
id_by MsgId row = row.message.md.msg_id
id_by CorrelId row = row.message.md.correl_id

abbrev pub key_by : Kind → Row → Key
key_by kind row = record { lane = row.place.lane; id = id_by kind row }

-- the key of each slot that has a row
abbrev pub keyed : Kind → List (Option Row) → List (Option Key)
keyed kind [] = []
keyed kind (None ∷ slots) = None ∷ keyed kind slots
keyed kind (Some row ∷ slots) = Some (key_by kind row) ∷ keyed kind slots
