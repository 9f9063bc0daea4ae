-- What a contract sees of an end's wire over two directions that threads share, and what happens to it.
use Rattle.std.specs.Prelude.{◌≡◌, ℕ, ◌-◌, ◌≤◌, List, ◌++◌, Option, None, Some, length, take}
use Rattle.atomic_table.specs.Seated.{TableId}
use Rattle.mq_base.specs.Outside.{Rose}
use Rattle.mq_cable.specs.declared.item.Item.{Item}

-- the directions by name, what was sent, what was taken, the item that is fetched and not yet taken, and the counts
pub record PipeEnds : Type 0 where
  pub out : TableId
  pub from : TableId
  pub sent : List Item
  pub taken : List Item
  pub fetched : Option Item
  pub fulls : ℕ
  pub empties : ℕ

-- a list without the fetched item, which is its last one
abbrev pub without : Option Item → List Item → List Item
without None xs = xs
without (Some x) xs = take (length xs - 1) xs

-- these items were pushed
pub record PipeWrote (old : PipeEnds) (xs : List Item) (new : PipeEnds) : Type 0 where
  pub whole : new.sent ≡ old.sent ++ xs
  pub same : new.out ≡ old.out
  pub count : old.fulls ≤ new.fulls

-- these items were popped
pub record PipeTook (old : PipeEnds) (xs : List Item) (new : PipeEnds) : Type 0 where
  pub whole : new.taken ≡ old.taken ++ xs
  pub same : new.from ≡ old.from
  pub count : old.empties ≤ new.empties

-- a push found 64 items: of what was sent the last 64 were still there
pub record PipeFull (old new : PipeEnds) : Type 0 where
  pub gone : List Item
  pub held : List Item
  pub among : new.sent ≡ gone ++ held
  pub most : length held ≡ 64
  pub rose : Rose old.fulls new.fulls

-- a fetch found no item
pub record PipeEmpty (old new : PipeEnds) : Type 0 where
  pub none : new.fetched ≡ None
  pub rose : Rose old.empties new.empties
