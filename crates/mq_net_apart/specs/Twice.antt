-- Idents that stand once or more, and those that stand twice or more.
use Rattle.std.specs.Prelude.{Bool, true, false, ◌||◌, List, count_by, nat_lt}
use Rattle.mq_message.specs.declared.message.Ident.{Ident}
use Rattle.mq_queue.specs.Rows.{same_ident}

abbrev pub met_in : List Ident → Ident → Bool
met_in xs k = nat_lt 0 (count_by (same_ident k) xs)

abbrev pub twice_in : List Ident → Ident → Bool
twice_in xs k = nat_lt 1 (count_by (same_ident k) xs)

-- an ident that came again joins those that stand twice
abbrev pub again_in : Bool → Ident → Ident → Bool → Bool
again_in true ident k before = same_ident ident k || before
again_in false ident k before = before
