-- Which slot an ident stands in, as a map has it.
use Rattle.std.specs.Prelude.{ℕ, Option}
use Rattle.indexmap.specs.IndexMap.{IndexMap, get}
use Rattle.mq_message.specs.declared.message.Ident.{Ident}
use Rattle.mq_queue.specs.Rows.{same_ident}

-- the slot that was noted of an ident
abbrev pub home_of : {S : Type 0} → IndexMap Ident ℕ S → Ident → Option ℕ
home_of homes ident = get same_ident homes ident
