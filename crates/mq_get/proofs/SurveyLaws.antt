-- What a survey counts: the expired rows that last.
use Rattle.std.proofs.Common.{◌≡◌, ℕ, ◌+◌, ◌*◌, ◌<◌, ◌≤◌, Bool, true, false, cond, List, [], ◌∷◌, length, refl, ap, arith, sym, ◌∙◌}
use Rattle.std.specs.Prelude.{Option, Some, None}
use Rattle.std.proofs.lemmas.Bool.Decides.{nat_tests}
use Rattle.mq_message.specs.declared.place.Place.{Place}
use Rattle.mq_calls.specs.declared.answers.Take.{Take}
use Rattle.mq_calls.specs.declared.answers.Take.TheVariants as takes
use Rattle.mq_calls.specs.State.{Queue as StateQueue}
use Rattle.mq_calls.specs.Words.{Row, Plain, is_persistent, is_full}
use Rattle.mq_calls.specs.declared.answers.Get.{Get}
use Rattle.mq_calls.specs.declared.state.Connection.{Connection}
use Rattle.mq_spec_manager.specs.Words.{Scan, looked_at, asked, scan, persistent_rows, expired_need, found_need, scan_need}
use Rattle.mq_core.specs.from_place.States.{QueueState, state_in}
use Rattle.mq_scan.specs.Scans.{scan_of}
use Rattle.mq_core.specs.Views.{PartsValue, plain_of}
use Rattle.mq_core.proofs.PlaceLaws.{queue_in_state}
use Rattle.mq_core.proofs.ReadLaws.{queue_none}
use Rattle.mq_get.specs.declared.refusals.Aim.{Aim}
use Rattle.mq_get.specs.Gets.{look}

-- one by one
pub count_cons : (row : Row) (rows : List Row) → length (persistent_rows (row ∷ rows)) ≡ length (persistent_rows (row ∷ [])) + length (persistent_rows rows)
count_cons row rows = by (is_persistent row.message)
  where
    by : (b : Bool) → length (cond b (row ∷ persistent_rows rows) (persistent_rows rows)) ≡ length (cond b (row ∷ []) []) + length (persistent_rows rows)
    by true = omega arith
    by false = omega arith

pub count_one : (row : Row) → length (persistent_rows (row ∷ [])) ≤ 1
count_one row = by (is_persistent row.message)
  where
    by : (b : Bool) → length (cond b (row ∷ []) []) ≤ 1
    by true = omega arith
    by false = omega arith

pub count_next : (now next rest all : ℕ) (row : Row) (rows whole : List Row) → whole ≡ row ∷ rows → next ≡ now + length (persistent_rows (row ∷ [])) → now + length (persistent_rows whole) ≡ all → next + length (persistent_rows rows) ≡ all
count_next now next rest all row rows whole is more count = let w = ap (λ (rs : List Row). length (persistent_rows rs)) is in let one = count_cons row rows in omega (arith, w, one, more, count)

-- where no queue has the name nothing is found
looked_none : (take : Take) (cursor : Option Place) → looked_at take cursor [] ≡ []
looked_none takes.Next cursor = refl
looked_none takes.BrowseFirst cursor = refl
looked_none takes.BrowseNext cursor = refl
looked_none takes.UnderCursor cursor = refl
looked_none takes.BrowseUnder cursor = refl

pub look_none : (get : Get) (aim : Aim) (x : PartsValue) → state_in aim.queue x.queues.states ≡ None → look get aim (plain_of x) ≡ record { expired = []; found = None }
look_none get aim x none =
    ap (λ (q : StateQueue). scan_of get aim.cursor (plain_of x) q.rows) (queue_none aim.queue x.queues.states none)
    ∙ ap (λ (rows : List Row). scan (asked get) (plain_of x) rows) (looked_none get.take aim.cursor)

full_by : Get → Connection → Plain → Scan → Bool
full_by get c p s = is_full (scan_need get c s) p

pub none_full : (get : Get) (aim : Aim) (c : Connection) (x : PartsValue) → state_in aim.queue x.queues.states ≡ None → is_full (scan_need get c (look get aim (plain_of x))) (plain_of x) ≡ false
unfolding full_by
none_full get aim c x none = ap (full_by get c (plain_of x)) (look_none get aim x none)

pub look_some : (get : Get) (aim : Aim) (x : PartsValue) (s : QueueState) → state_in aim.queue x.queues.states ≡ Some s → look get aim (plain_of x) ≡ scan_of get aim.cursor (plain_of x) s.queue.rows
look_some get aim x s some = ap (λ (q : StateQueue). scan_of get aim.cursor (plain_of x) q.rows) (queue_in_state aim.queue x.queues.states s some)

-- many rows need more than the log has
many_need : (rows : List Row) → 65 * length rows ≤ expired_need rows
many_need [] = omega arith
many_need (row ∷ rows) = omega arith

over : (n : ℕ) (p : Plain) → p.given.log_max < n → is_full n p ≡ true
over n p lt = grind (arith, nat_tests, lt)

pub many_full : (get : Get) (c : Connection) (p : Plain) (s : Scan) → p.given.log_max < 4294967296 → 100000000 ≤ length (persistent_rows s.expired) → is_full (scan_need get c s) p ≡ true
many_full get c p s max many = let need = many_need (persistent_rows s.expired) in over (scan_need get c s) p (omega (arith, max, many, need))

need_by : (a b : ℕ) (s : Scan) (get : Get) (c : Connection) (o : Option Row) → a ≡ expired_need (persistent_rows s.expired) → b ≡ found_need get c o → o ≡ s.found → a + b ≡ scan_need get c s
need_by a b s get c o ea eb found = let f = ap (found_need get c) found in omega (arith, ea, eb, f)

pub full_is : (result : Bool) (a b : ℕ) (get : Get) (c : Connection) (p : Plain) (s t : Scan) (o : Option Row) → result ≡ is_full (a + b) p → a ≡ expired_need (persistent_rows s.expired) → b ≡ found_need get c o → o ≡ s.found → t ≡ s → result ≡ is_full (scan_need get c t) p
unfolding full_by
full_is result a b get c p s t o e ea eb found same = e ∙ ap (λ (n : ℕ). is_full n p) (need_by a b s get c o ea eb found) ∙ ap (full_by get c p) (sym same)

pub many_by : (get : Get) (aim : Aim) (c : Connection) (x : PartsValue) (s : Scan) → look get aim (plain_of x) ≡ s → x.log.max < 4294967296 → 100000000 ≤ length (persistent_rows s.expired) → is_full (scan_need get c (look get aim (plain_of x))) (plain_of x) ≡ true
unfolding full_by
many_by get aim c x s same max many = ap (full_by get c (plain_of x)) same ∙ many_full get c (plain_of x) s max many
