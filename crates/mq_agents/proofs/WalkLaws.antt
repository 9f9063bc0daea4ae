-- Rows that are looked for on a queue.
use Rattle.std.proofs.Common.{◌≡◌, ℕ, zero, suc, ◌+◌, ◌-◌, ◌<◌, ◌≤◌, Bool, true, false, cond, List, [], ◌∷◌, ◌++◌, length, refl, ap, arith, sym, ◌∙◌}
use Rattle.std.specs.Prelude.{ℤ, pos, negsuc, Option, Some, None, is_some, find, filter, map, take, count_by, nat_lt, slice_get, ◌&&◌, ◌||◌}
use Rattle.std.specs.List.{list_any}
use Rattle.std.proofs.lemmas.Bool.Decides.{nat_tests}
use Rattle.std.proofs.lemmas.List.Sums.{length-filter}
use Rattle.mq_message.specs.declared.message.Ident.{Ident}
use Rattle.mq_queue.specs.declared.row.Row.{Row}
use Rattle.mq_queue.specs.Rows.{is_free, has_priority}
use Rattle.mq_queue.specs.Queues.{AreInOrder, count_waiting}
use Rattle.mq_message.specs.declared.place.Place.{Place}
use Rattle.mq_message.specs.declared.place.Holder.{Holder}
use Rattle.mq_calls.specs.declared.records.Remove.{Remove}
use Rattle.mq_calls.specs.State.{Queue}
use Rattle.mq_place.specs.States.{QueueState, holds, named_row, queues_of, rows_after, state_in}
use Rattle.mq_place.specs.Held.{held_left}
use Rattle.mq_place.specs.Deadlines.{NonePast}
use Rattle.mq_place.proofs.HeldLaws.{none_passed, passed_next}
use Rattle.mq_calls.specs.Reads.{is_past, queue_in}
use Rattle.mq_spec_manager.specs.Agents.{at_number, held_on}
use Rattle.mq_core.proofs.ReadLaws.{queue_none}
use Rattle.mq_agents.specs.Ends.{is_free_past}

pub any_found : (test : Row → Bool) (rows : List Row) → is_some (find test rows) ≡ list_any test rows
any_found test [] = refl
any_found test (row ∷ rows) = by (test row) (any_found test rows)
  where
    by : (b : Bool) → is_some (find test rows) ≡ list_any test rows → is_some (cond b (Some row) (find test rows)) ≡ (b || list_any test rows)
    by true rest = refl
    by false rest = rest

pub some_past : (moment : ℕ) (rows : List Row) → is_some (find (is_free_past moment) rows) ≡ nat_lt 0 (length (filter (λ (row : Row). is_past moment row.message.deadline) (filter is_free rows)))
some_past moment [] = refl
some_past moment (row ∷ rows) = by (is_free row) (some_past moment rows)
  where
    inner : (t : Bool) → is_some (find (is_free_past moment) rows) ≡ nat_lt 0 (length (filter (λ (row : Row). is_past moment row.message.deadline) (filter is_free rows)))
        → is_some (cond t (Some row) (find (is_free_past moment) rows)) ≡ nat_lt 0 (length (cond t (row ∷ filter (λ (row : Row). is_past moment row.message.deadline) (filter is_free rows)) (filter (λ (row : Row). is_past moment row.message.deadline) (filter is_free rows))))
    inner true rest = grind (arith, nat_tests)
    inner false rest = rest

    by : (f : Bool) → is_some (find (is_free_past moment) rows) ≡ nat_lt 0 (length (filter (λ (row : Row). is_past moment row.message.deadline) (filter is_free rows)))
        → is_some (cond (f && is_past moment row.message.deadline) (Some row) (find (is_free_past moment) rows)) ≡ nat_lt 0 (length (filter (λ (row : Row). is_past moment row.message.deadline) (cond f (row ∷ filter is_free rows) (filter is_free rows))))
    by true rest = inner (is_past moment row.message.deadline) rest
    by false rest = rest

pub none_past : (moment : ℕ) (rows : List Row) → NonePast moment rows → filter (λ (row : Row). is_past moment row.message.deadline) (filter is_free rows) ≡ []
none_past moment [] all = refl
none_past moment (row ∷ rows) all = by (is_free row) (none_past moment rows all.1)
  where
    by : (f : Bool) → filter (λ (row : Row). is_past moment row.message.deadline) (filter is_free rows) ≡ [] → filter (λ (row : Row). is_past moment row.message.deadline) (cond f (row ∷ filter is_free rows) (filter is_free rows)) ≡ []
    by true rest = ap (λ (b : Bool). cond b (row ∷ filter (λ (row : Row). is_past moment row.message.deadline) (filter is_free rows)) (filter (λ (row : Row). is_past moment row.message.deadline) (filter is_free rows))) all.0 ∙ rest
    by false rest = rest

-- the number of an ident in a batch, from 1
pub at_number_less : (n : ℕ) (idents : List Ident) → 0 < n → at_number n idents ≡ slice_get idents (n - 1)
at_number_less zero idents lt = absurd (omega (arith, lt))
at_number_less (suc n) idents lt = let e : suc n - 1 ≡ n = omega arith in sym (ap (slice_get idents) e)

any_priority : (priority : ℤ) → has_priority 0 priority ≡ true
any_priority (pos n) = grind (arith, nat_tests)
any_priority (negsuc n) = refl

and_true : (a b : Bool) → b ≡ true → (a && b) ≡ a
and_true true b e = e
and_true false b e = refl

-- free rows are counted
pub waiting_rows : (rows : List Row) → count_waiting 0 rows ≡ length (filter is_free rows)
waiting_rows rows = (λ i. count_by (λ (row : Row). and_true (is_free row) (has_priority 0 row.message.md.priority) (any_priority row.message.md.priority) i) rows) ∙ sym (length-filter is_free rows)

-- the first rows that a holder has behind a place: from one to the next

take_none : {A : Type 0} (n : ℕ) → take {A = A} n [] ≡ []
take_none zero = refl
take_none (suc n) = refl

nothing_more : (xs : List Remove) → xs ++ [] ≡ xs
nothing_more [] = refl
nothing_more (x ∷ xs) = ap (λ (zs : List Remove). x ∷ zs) (nothing_more xs)

joined : (xs ys : List Remove) (x : Remove) → (xs ++ x ∷ []) ++ ys ≡ xs ++ x ∷ ys
joined [] ys x = refl
joined (y ∷ xs) ys x = ap (λ (zs : List Remove). y ∷ zs) (joined xs ys x)

pub few_none : (so_far : List Remove) (n : ℕ) (by : Holder) (after : Option Place) (q : Queue) → None ≡ find (holds by) (rows_after after q.rows) → so_far ++ take n (held_left by after q) ≡ so_far
few_none so_far n by after q e =
    ap (λ (rs : List Row). so_far ++ take n (map (named_row q.name) rs)) (none_passed (holds by) (rows_after after q.rows) (sym e))
    ∙ ap (λ (rs : List Remove). so_far ++ rs) (take_none n) ∙ nothing_more so_far

pub few_next : (so_far : List Remove) (most n : ℕ) (by : Holder) (after : Option Place) (q : Queue) (row : Row) → AreInOrder q.rows → n < most → Some row ≡ find (holds by) (rows_after after q.rows)
    → (so_far ++ named_row q.name row ∷ []) ++ take (most - (n + 1)) (held_left by (Some row.place) q) ≡ so_far ++ take (most - n) (held_left by after q)
few_next so_far most n by after q row order lt e =
    let one : most - n ≡ suc (most - (n + 1)) = omega (arith, lt) in
    joined so_far (take (most - (n + 1)) (held_left by (Some row.place) q)) (named_row q.name row)
    ∙ ap (λ (rs : List Remove). so_far ++ rs)
    (sym (ap (λ (rs : List Row). take (most - n) (map (named_row q.name) rs)) (passed_next (holds by) after q.rows row order e)
    ∙ ap (λ (k : ℕ). take k (named_row q.name row ∷ held_left by (Some row.place) q)) one))

pub few_done : (so_far : List Remove) (most n : ℕ) (by : Holder) (after : Option Place) (q : Queue) → most ≤ n → so_far ++ take (most - n) (held_left by after q) ≡ so_far
few_done so_far most n by after q le =
    let none : most - n ≡ 0 = omega (arith, le) in ap (λ (k : ℕ). so_far ++ take k (held_left by after q)) none ∙ nothing_more so_far

-- where no queue has the name
pub none_held : (so_far : List Remove) (most : ℕ) (by : Holder) (name : List ℕ) (qs : List QueueState) → state_in name qs ≡ None → so_far ≡ so_far ++ take most (held_on by (queue_in name (queues_of qs)))
none_held so_far most by name qs e =
    sym (ap (λ (q : Queue). so_far ++ take most (held_on by q)) (queue_none name qs e) ∙ ap (λ (rs : List Remove). so_far ++ rs) (take_none most) ∙ nothing_more so_far)
