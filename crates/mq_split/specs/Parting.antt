-- The ends of cables at their managers, as a phase begins and once it is over.
use Rattle.std.specs.Prelude.{◌≡◌, ◌≤◌, ◌<◌, ◌+◌, ◌==◌, if◌then◌else◌, ℕ, suc, zero, Bool, true, false, List, [], ◌∷◌, ◌++◌, Some, map, slice_get, slice_set}
use Rattle.atomic_table.specs.Seated.{TableId}
use Rattle.mq_history.specs.declared.scenario.CableLine.{CableLine}
use Rattle.mq_spec_node.specs.Terms.{Entry}
use Rattle.mq_ways.specs.Ways.{CableState}
use Rattle.mq_split.specs.declared.opening.Pipes.{Pipes}
use Rattle.mq_split.specs.Facing.{IsJoined}
use Rattle.mq_split.specs.Ends.{AreFree, EachIs, IsEndAt, Parted, end_name}
use Rattle.mq_split.specs.Took.{EndState}

-- the queues of the cables' directions by name
abbrev pub out_queue : Pipes → TableId
out_queue p = p.out.table.shared.table_id

abbrev pub back_queue : Pipes → TableId
back_queue p = p.back.table.shared.table_id

abbrev pub outs_of : List Pipes → List TableId
outs_of ps = map out_queue ps

abbrev pub backs_of : List Pipes → List TableId
backs_of ps = map back_queue ps

-- a phase began with these lines and queues
pub record IsBegunOver (b : Parted) (ps : List Pipes) (ls : List CableLine) : Type 0 where
  pub lines : b.lines ≡ ls
  pub outs : b.outs ≡ outs_of ps
  pub backs : b.backs ≡ backs_of ps

-- both managers of a cable are among so many
abbrev pub IsAmong : ℕ → CableLine → Type 0
IsAmong n l = (l.sender < n) × (l.receiver < n)

-- The names of the ends at a manager, in the order in which they stand there: from the last cable to the first, of the cables from
-- place k on.
abbrev pub named_at : ℕ → ℕ → ℕ → Bool → List (ℕ × Bool)
named_at at m k side = if at == m then (k, side) ∷ [] else []

abbrev pub names_from : ℕ → List CableLine → ℕ → List (ℕ × Bool)
names_from k [] m = []
names_from k (l ∷ ls) m = names_from (suc k) ls m ++ named_at l.receiver m k false ++ named_at l.sender m k true

abbrev pub ends_named : List CableLine → ℕ → List (ℕ × Bool)
ends_named ls m = names_from 0 ls m

-- of so many managers from place m on
abbrev pub ends_by : List CableLine → (m n : ℕ) → List (List (ℕ × Bool))
ends_by ls m zero = []
ends_by ls m (suc n) = ends_named ls m ∷ ends_by ls (suc m) n

-- The ends of a manager, and the room for more.
pub record EndRowState : Type 0 where
  pub ends : List EndState
  pub room : ℕ

-- The ends at a manager have these names, and each is as its lock keeps it.
pub record AreEndsAt (b : Parted) (since : ℕ → List Entry) (names : ℕ → List (ℕ × Bool)) (m : ℕ) (es : List EndState) : Type 0 where
  pub names_are : map end_name es ≡ names m
  pub each : EachIs (IsEndAt b m (b.done m) (since m)) es

-- at each manager
abbrev pub AreEnds : Parted → (ℕ → List Entry) → (ℕ → List (ℕ × Bool)) → List (List EndState) → Type 0
AreEnds b since names rows = (m : ℕ) (es : List EndState) → slice_get rows m ≡ Some es → AreEndsAt b since names m es

-- no end holds an item that it did not take
abbrev pub AllFree : List (List EndState) → Type 0
AllFree rows = (m : ℕ) (es : List EndState) → slice_get rows m ≡ Some es → AreFree es

abbrev pub none_since : ℕ → List Entry
none_since m = []

-- as a phase begins, with room for so many more
pub record IsRow (b : Parted) (names : ℕ → List (ℕ × Bool)) (room m : ℕ) (r : EndRowState) : Type 0 where
  pub ends : AreEndsAt b none_since names m r.ends
  pub free : AreFree r.ends
  pub room_is : room ≤ r.room

abbrev pub AreRows : Parted → (ℕ → List (ℕ × Bool)) → ℕ → List EndRowState → Type 0
AreRows b names room rows = (m : ℕ) (r : EndRowState) → slice_get rows m ≡ Some r → IsRow b names room m r

-- an end more at a manager, of which there is room
pub record IsAdded (m : ℕ) (e : EndState) (old new : List EndRowState) : Type 0 where
  pub row : EndRowState
  pub there : slice_get old m ≡ Some row
  pub room : ℕ
  pub left : room + 1 ≡ row.room
  pub is : new ≡ slice_set old m (record { ends = row.ends ++ e ∷ []; room = room })

-- the last end of a manager went out
pub record IsTaken (m : ℕ) (e : EndState) (old new : List (List EndState)) : Type 0 where
  pub rest : List EndState
  pub there : slice_get old m ≡ Some (rest ++ e ∷ [])
  pub is : new ≡ slice_set old m rest

-- the names of ends so far, and the room for more
pub record Placing : Type 0 where
  pub begun : Parted
  pub names : ℕ → List (ℕ × Bool)
  pub room : ℕ

-- with what a phase began, and what each manager did in it
pub record Passed : Type 0 where
  pub begun : Parted
  pub since : ℕ → List Entry

abbrev pub done_in : Passed → ℕ → List Entry
done_in p m = p.begun.done m ++ p.since m

-- and the names of the ends that are left
pub record Leaving : Type 0 where
  pub passed : Passed
  pub names : ℕ → List (ℕ × Bool)

-- the cable at a place is joined again
pub record IsJoinedAt (p : Passed) (at : ℕ) (l : CableLine) (old new : List CableState) : Type 0 where
  pub cable : CableState
  pub is : new ≡ slice_set old at cable
  pub joined : IsJoined at l (done_in p) cable
