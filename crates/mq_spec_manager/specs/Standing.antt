-- How the ident of a message that a channel brings stands at the manager already.
use Rattle.std.specs.List.{list_any}
use Rattle.std.specs.Prelude.{ℕ, nat_lt, Bool, true, false, not, ◌&&◌, ◌||◌, List, [], ◌∷◌, ◌++◌, if◌then◌else◌, Option, Some, None, find, ◌==◌}
use Rattle.mq_sc_apply.specs.from_calls.Words.{Ident, Message, Holder, InDoubt, sender_data, is_persistent, in_doubt_of, Plain, Change, Queue, Among, same_ident, has_ident, Row}
use Rattle.mq_sc_apply.specs.from_calls.{Connection, Did, Item}
use Rattle.mq_heads.specs.from_message.HolderVariants as holders
use Rattle.mq_sc_apply.specs.from_calls.DidVariants as did
use Rattle.mq_sc_apply.specs.from_calls.WhyVariants as whys
use Rattle.mq_sc_apply.specs.from_calls.ItemVariants.{Put as ItemPut, Take as ItemTake}
use Rattle.mq_sc_apply.specs.from_calls.State.Change.{Leave, Undoubt}

-- How an ident stands at the manager. A message that comes back to the row of a unit in doubt drops that row, where both
-- last or neither does; one that stands otherwise is kept out.
pub data Standing : Type 0 where
  Absent : Standing
  InDoubtAt : (queue : List ℕ) → Standing
  Present : Standing

-- a row with the queue on which it stands
pub record RowAt : Type 0 where
  pub queue : List ℕ
  pub row : Row

abbrev pub row_found : Option Row → List ℕ → Option RowAt → Option RowAt
row_found None name rest = rest
row_found (Some row) name rest = Some (record { queue = name; row = row })

abbrev pub row_of : Ident → List Queue → Option RowAt
row_of ident [] = None
row_of ident (q ∷ qs) = row_found (find (has_ident ident) q.rows) q.name (row_of ident qs)

-- a unit in doubt names the ident, and holds the row
abbrev pub doubts : Ident → Option InDoubt → Bool
doubts ident None = false
doubts ident (Some d) = list_any (same_ident ident) d.idents

abbrev pub is_doubted_by : Ident → Option Holder → Plain → Bool
is_doubted_by ident None p = false
is_doubted_by ident (Some (holders.Unit n)) p = false
is_doubted_by ident (Some (holders.Batch c)) p = doubts ident (in_doubt_of (sender_data c p))

-- an uncommitted put has the ident; it is one of this manager that was not given yet
abbrev pub has_put : Ident → Item → Bool
has_put ident (ItemPut queue message) = same_ident ident message.ident
has_put ident (ItemTake queue other persistent) = false

abbrev pub is_pending : Ident → Plain → Bool
is_pending ident p = list_any (λ (c : Connection). list_any (has_put ident) c.unit) p.connections

abbrev pub is_unborn : Ident → Plain → Bool
is_unborn ident p =
    ident.manager == p.given.number
    && (nat_lt p.numbers.incarnation ident.incarnation || (ident.incarnation == p.numbers.incarnation && nat_lt p.numbers.idents ident.number))

abbrev pub same_flag : Bool → Bool → Bool
same_flag true b = b
same_flag false b = not b

-- how the ident of a message stands
abbrev pub standing_by : Message → Option RowAt → Plain → Standing
standing_by m None p = if is_pending m.ident p || is_unborn m.ident p then Present else Absent
standing_by m (Some at) p =
    if is_doubted_by m.ident at.row.by p && same_flag (is_persistent m) (is_persistent at.row.message) then InDoubtAt at.queue else Present

abbrev pub standing_at : Message → Plain → Standing
standing_at m p = standing_by m (row_of m.ident p.queues) p

abbrev pub is_present : Standing → Bool
is_present Absent = false
is_present (InDoubtAt queue) = false
is_present Present = true

-- what goes for a message that is placed: the row of the unit in doubt, and, for good, its ident from all such units
abbrev pub drop_row : Ident → Standing → List Change
drop_row ident Absent = []
drop_row ident (InDoubtAt queue) = Leave (Among queue (ident ∷ [])) ∷ []
drop_row ident Present = []

abbrev pub undoubted : (persistent : Bool) → Ident → List Change
undoubted true ident = Undoubt ident ∷ []
undoubted false ident = []

abbrev pub drop_changes : Message → Standing → List Change
drop_changes m s = drop_row m.ident s ++ undoubted (is_persistent m) m.ident

abbrev pub drop_did : Message → Standing → List Did
drop_did m Absent = []
drop_did m (InDoubtAt queue) = did.Removed queue m.ident whys.CameBack ∷ []
drop_did m Present = []
