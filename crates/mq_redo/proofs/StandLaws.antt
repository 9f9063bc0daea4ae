-- Where a row of an ident stands.
use Rattle.std.proofs.Common.{◌≡◌, Bool, true, false, List, [], ◌∷◌, refl, ap, ◌∙◌}
use Rattle.std.specs.Prelude.{Option, Some, None, is_some, option_map, find, ◌||◌, if◌then◌else◌}
use Rattle.std.specs.List.{list_any}
use Rattle.mq_message.specs.declared.message.Ident.{Ident}
use Rattle.mq_queue.specs.declared.row.Row.{Row}
use Rattle.mq_queue.specs.Rows.{has_ident}
use Rattle.mq_calls.specs.State.{Queue}
use Rattle.mq_core.specs.from_place.States.{QueueState, Located, row_at, row_found, queues_of}

found_any : (ident : Ident) (rows : List Row) → is_some (find (has_ident ident) rows) ≡ list_any (has_ident ident) rows
found_any ident [] = refl
found_any ident (r ∷ rs) = by (has_ident ident r) (found_any ident rs)
  where
    by : (b : Bool) → is_some (find (has_ident ident) rs) ≡ list_any (has_ident ident) rs → is_some (if b then Some r else find (has_ident ident) rs) ≡ (b || list_any (has_ident ident) rs)
    by true e = refl
    by false e = e

pub stands_home : (ident : Ident) (ss : List QueueState) → is_some (option_map (λ (r : Located). r.name) (row_at ident ss)) ≡ list_any (λ (q : Queue). list_any (has_ident ident) q.rows) (queues_of ss)
stands_home ident [] = refl
stands_home ident (s ∷ ss) = by (find (has_ident ident) s.queue.rows) (list_any (has_ident ident) s.queue.rows) (found_any ident s.queue.rows) (stands_home ident ss)
  where
    by : (o : Option Row) (b : Bool) → is_some o ≡ b → is_some (option_map (λ (r : Located). r.name) (row_at ident ss)) ≡ list_any (λ (q : Queue). list_any (has_ident ident) q.rows) (queues_of ss)
        → is_some (option_map (λ (r : Located). r.name) (row_found o s.queue.name (row_at ident ss))) ≡ (b || list_any (λ (q : Queue). list_any (has_ident ident) q.rows) (queues_of ss))
    by None b e rest = rest ∙ ap (λ (c : Bool). c || list_any (λ (q : Queue). list_any (has_ident ident) q.rows) (queues_of ss)) e
    by (Some r) b e rest = ap (λ (c : Bool). c || list_any (λ (q : Queue). list_any (has_ident ident) q.rows) (queues_of ss)) e
