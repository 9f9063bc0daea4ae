-- What happens to the two directions in one thread, each seen with its count.
use Rattle.std.specs.Prelude.{◌≡◌, ◌⊎◌, ℕ, ◌≤◌, List, [], ◌++◌, length}
use Rattle.mq_message.specs.from_base.Outside.{Rose}
use Rattle.mq_cable.specs.declared.item.Item.{Item}

-- these items were pushed; a push was taken only where fewer than 64 items were there
pub record Wrote (old : List Item) (before : ℕ) (xs : List Item) (new : List Item) (now : ℕ) : Type 0 where
  pub whole : new ≡ old ++ xs
  pub room : (xs ≡ []) ⊎ (length new ≤ 64)
  pub count : before ≤ now

-- these items were popped
pub record Took (old : List Item) (before : ℕ) (xs : List Item) (new : List Item) (now : ℕ) : Type 0 where
  pub whole : old ≡ xs ++ new
  pub count : before ≤ now

-- a push found 64 items or more
pub record FoundFull (before : ℕ) (new : List Item) (now : ℕ) : Type 0 where
  pub most : 64 ≤ length new
  pub rose : Rose before now

-- a fetch found no item
pub record FoundEmpty (before : ℕ) (new : List Item) (now : ℕ) : Type 0 where
  pub none : new ≡ []
  pub rose : Rose before now
