-- Idents that are found in a map.
use Rattle.std.specs.Prelude.{◌≡◌, ℕ, List, Option, is_some}
use Rattle.std.specs.List.{list_any}
use Rattle.mq_message.specs.declared.message.Ident.{Ident}
use Rattle.mq_queue.specs.Rows.{same_ident}

-- an ident is found where it is one of them
abbrev pub AreKnown : (Ident → Option ℕ) → List Ident → Type 0
AreKnown home idents = (ident : Ident) → is_some (home ident) ≡ list_any (same_ident ident) idents
