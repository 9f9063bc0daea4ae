-- MQGET leaves the definitions as they are.
use Rattle.std.proofs.Common.{◌≡◌, ◌≤◌, ℕ, Bool, true, false, cond, List, [], ◌∷◌, ◌++◌, sym, subst}
use Rattle.std.specs.Prelude.{Option, Some, None}
use Rattle.mq_calls.specs.declared.deltas.Why.{Why}
use Rattle.mq_calls.specs.declared.deltas.Why.TheVariants as whys
use Rattle.mq_calls.specs.State.Change.{SetCursor}
use Rattle.mq_calls.specs.Words.{Row, Plain, Part, Definitions, do_part, do_all, handle_at, silent}
use Rattle.mq_calls.specs.declared.answers.Get.{Get}
use Rattle.mq_calls.specs.declared.answers.Hconn.{Hconn}
use Rattle.mq_calls.specs.declared.answers.Hobj.{Hobj}
use Rattle.mq_calls.specs.declared.state.Handle.{Handle}
use Rattle.mq_calls.specs.declared.state.Connection.{Connection}
use Rattle.mq_spec_manager.specs.Handles.{connected}
use Rattle.mq_spec_manager.specs.Put.{queue_at}
use Rattle.mq_spec_manager.specs.Get.{mqget, get_up, get_handle, get_scanned, get_found, get_tests, room_tests, scanned, with_row, without_row, is_waiting, is_under, is_left, is_destructive, found_part, taking_part, removal_part, removal_parts, expired_parts}
use Rattle.mq_law_manager.specs.Kept.{AllKeep, StepKeeps}
use Rattle.mq_law_manager.proofs.Shelves.{logged_definitions}
use Rattle.mq_law_manager.proofs.Stocks.{live_on, open_on, tested_on}
use Rattle.mq_manager.specs.Facts.{HasLimit}

limit_by : (p q : Plain) → q.definitions ≡ p.definitions → HasLimit p → HasLimit q
limit_by p q e h = subst (λ (d : Definitions). d.manager.max_message_length ≤ 4194304) (sym e) h

removal_limit : (why : Why) (q : List ℕ) (rows : List Row) (p : Plain) → HasLimit p → HasLimit (do_part (removal_part why q rows) p)
removal_limit why q rows p h = limit_by p (do_part (removal_part why q rows) p) (logged_definitions (removal_part why q rows).forced p) h

pub removals_limit : (why : Why) (q : List ℕ) (rows : List Row) (p : Plain) → HasLimit p → AllKeep HasLimit (removal_parts why q rows) p
removals_limit why q [] p h = tt
removals_limit why q (r ∷ rows) p h = (removal_limit why q (r ∷ rows) p h, tt)

found_limit : (get : Get) (c : Connection) (h : Handle) (q : List ℕ) (r : Row) (p : Plain) → HasLimit p → HasLimit (do_part (found_part get c h q r) p)
found_limit get c h q r p l = by (is_destructive get.take) get.sync
  where
    by : (b sync : Bool) → HasLimit (do_part (cond b (taking_part sync c q r) (silent (SetCursor c.number h.number r.place ∷ []))) p)
    by true true = l
    by true false = removal_limit whys.Got q (r ∷ []) p l
    by false sync = l

all_append : (xs ys : List Part) (p : Plain) → AllKeep HasLimit xs p → AllKeep HasLimit ys (do_all xs p) → AllKeep HasLimit (xs ++ ys) p
all_append [] ys p a b = b
all_append (x ∷ xs) ys p a b = (a.0, all_append xs ys (do_part x p) a.1 b)

all_last : (xs : List Part) (p : Plain) → HasLimit p → AllKeep HasLimit xs p → HasLimit (do_all xs p)
all_last [] p h k = h
all_last (x ∷ xs) p h k = all_last xs (do_part x p) k.0 k.1

with_limit : (cut : Bool) (get : Get) (c : Connection) (h : Handle) (q : List ℕ) (r : Row) (rows : List Row) (p : Plain) → HasLimit p → StepKeeps HasLimit (with_row cut get c h q r (expired_parts q rows)) p
with_limit true get c h q r rows p l = removals_limit whys.Expired q rows p l
with_limit false get c h q r rows p l =
    let gone = removals_limit whys.Expired q rows p l in
    all_append (expired_parts q rows) (found_part get c h q r ∷ []) p gone (found_limit get c h q r (do_all (expired_parts q rows) p) (all_last (expired_parts q rows) p l gone), tt)

without_limit : (under waiting : Bool) (q : List ℕ) (rows : List Row) (p : Plain) → HasLimit p → StepKeeps HasLimit (without_row under waiting (expired_parts q rows)) p
without_limit true waiting q rows p l = removals_limit whys.Expired q rows p l
without_limit false true q rows p l = tt
without_limit false false q rows p l = removals_limit whys.Expired q rows p l

get_found_limit : (get : Get) (until : Option ℕ) (p : Plain) (c : Connection) (h : Handle) (rows : List Row) (o : Option Row) → HasLimit p → StepKeeps HasLimit (get_found get until p c h (expired_parts (queue_at h.leads) rows) o) p
get_found_limit get until p c h rows None l = without_limit (is_under get.take) (is_waiting until p) (queue_at h.leads) rows p l
get_found_limit get until p c h rows (Some r) l = with_limit (is_left get r.message) get c h (queue_at h.leads) r rows p l

pub get_limit : (hc : Hconn) (ho : Hobj) (get : Get) (until : Option ℕ) (p : Plain) → HasLimit p → StepKeeps HasLimit (mqget hc ho get until p) p
get_limit hc ho get until p l = live_on HasLimit (connected hc p) (get_up ho get until p) p (λ c e. open_on HasLimit (handle_at ho.number c.handles) (get_handle get until p c) p
    (λ x. tested_on HasLimit (get_tests get p c x) (get_scanned get until p c x (scanned get x p)) p
    (λ z. tested_on HasLimit (room_tests get c (scanned get x p) p) (get_found get until p c x (expired_parts (queue_at x.leads) (scanned get x p).expired) (scanned get x p).found) p
    (λ y. get_found_limit get until p c x (scanned get x p).expired (scanned get x p).found l))))
