-- Rows that move into another store.
use Rattle.std.specs.Prelude.{◌≡◌, ◌+◌, ◌<◌, [], ◌∷◌, ◌++◌, Option, None, Some}
use Rattle.mq_queue.specs.declared.row.Row.{Row}
use Rattle.mq_index.specs.Slots.{NoRow}
use Rattle.mq_index.specs.Stores.{StoreState}

-- a row may come
pub record MayCome (row : Row) (s : StoreState) : Type 0 where
  pub room : 0 < s.room
  pub fresh : NoRow row.message.ident s.slots
  pub lane : row.place.lane < 10
  pub later : s.arrivals < row.place.arrival

-- the row of a slot, where it has one, came
abbrev pub HasCome : Option Row → (old new : StoreState) → Type 0
HasCome None old new = (new.slots ≡ old.slots) × (new.arrivals ≡ old.arrivals) × (new.room ≡ old.room)
HasCome (Some row) old new = (new.slots ≡ old.slots ++ Some row ∷ []) × (new.arrivals ≡ row.place.arrival) × (new.room + 1 ≡ old.room)
