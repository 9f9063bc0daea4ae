-- What a route's tests come to, and the step of a move by them.
use Rattle.std.proofs.Common.{◌≡◌, ℕ, ◌+◌, ◌≤◌, Bool, true, false, cond, List, [], ◌∷◌, ◌++◌, length, refl, ap, arith, sym, ◌∙◌}
use Rattle.std.specs.Prelude.{Option, Some, None, Result, Ok, Err, IsSome, nat_le, nat_lt, is_ok, codes, find}
use Rattle.std.proofs.lemmas.Bool.Decides.{nat_tests}
use Rattle.mq_codes.specs.declared.reason.Reason.TheVariants as reasons
use Rattle.mq_resolve.specs.Resolved.{resolve}
use Rattle.mq_resolve.specs.declared.route.RouteEnd.{RouteEnd}
use Rattle.mq_calls.specs.Words.{Reason, Message, Dest, Ident, Route, LocalQueue, Plain, Test, Step, Refuse, refusal, when, local_of, depth, stored, Row, has_ident, is_full, need, put_bytes}
use Rattle.mq_calls.specs.Steps.{refused_or}
use Rattle.mq_spec_manager.specs.Words.{queue_at, max_depth, is_dead}
use Rattle.mq_message.specs.declared.head.HeadFault.{HeadFault}
use Rattle.mq_message.specs.Descriptor.{id_fault, or_short, unless}
use Rattle.mq_heads.specs.Headers.{dlh_read, dlh_in}
use Rattle.mq_heads.specs.declared.headers.Dlh.{Dlh}
use Rattle.std.specs.Option.{option_map}
use Rattle.mq_calls.specs.declared.records.LogRecord.TheVariants as records
use Rattle.mq_agents.proofs.RemoveLaws.{ident_of_row}
use Rattle.mq_moves.proofs.MoveLaws.{need_moved}
use Rattle.mq_spec_manager.specs.Agents.{CanMove, bare_if, row_with, route_tests, move_full, move_found, move_resolved, move_landing, move_row}
use Rattle.mq_moves.specs.Moving.{moved_step}
use Rattle.mq_moves.specs.Landed.{at_end, message_moved}

-- where none applies, the queue is defined
pub defined_at : (route : Route) (bytes : ℕ) (p : Plain) → refusal (route_tests route bytes p) ≡ None → IsSome (local_of (queue_at route.end) p.definitions)
defined_at route bytes p e = by (local_of (queue_at route.end) p.definitions) (full_passes _ _ _ _ _ e)
  where
    full_passes : (a b d f h : Bool) → cond a (Some reasons.OptionNotValidForType) (cond b (Some reasons.PutInhibited) (cond d (Some reasons.MessageTooBigForQueue) (cond f (Some reasons.MessageTooBigForQueueManager) (cond h (Some reasons.QueueFull) None)))) ≡ None → h ≡ false
    full_passes true b d f h e = absurd cc
    full_passes false true d f h e = absurd cc
    full_passes false false true f h e = absurd cc
    full_passes false false false true h e = absurd cc
    full_passes false false false false true e = absurd cc
    full_passes false false false false false e = refl

    by : (o : Option LocalQueue) → nat_le (max_depth o) (depth (queue_at route.end) p) ≡ false → IsSome o
    by None e = absurd (grind (arith, nat_tests, e))
    by (Some q) e = refl

stopped_at_first : (xs ys : List (Test Reason)) (r : Reason) → refusal xs ≡ Some r → refusal (xs ++ ys) ≡ Some r
stopped_at_first [] ys r e = absurd cc
stopped_at_first (x ∷ xs) ys r e = by x.applies e (stopped_at_first xs ys r)
  where
    by : (b : Bool) → cond b (Some x.reason) (refusal xs) ≡ Some r → (refusal xs ≡ Some r → refusal (xs ++ ys) ≡ Some r) → cond b (Some x.reason) (refusal (xs ++ ys)) ≡ Some r
    by true e rest = e
    by false e rest = rest e

passed_first : (xs ys : List (Test Reason)) → refusal xs ≡ None → refusal (xs ++ ys) ≡ refusal ys
passed_first [] ys e = refl
passed_first (x ∷ xs) ys e = by x.applies e (passed_first xs ys)
  where
    by : (b : Bool) → cond b (Some x.reason) (refusal xs) ≡ None → (refusal xs ≡ None → refusal (xs ++ ys) ≡ refusal ys) → cond b (Some x.reason) (refusal (xs ++ ys)) ≡ refusal ys
    by true e rest = absurd cc
    by false e rest = rest e

-- the message of the row
found_at : (bare : Bool) (end : RouteEnd) (o : Option Message) (m : Message) → message_moved bare end o ≡ Some m → IsSome o
found_at bare end None m e = absurd cc
found_at bare end (Some k) m e = refl

some_is : (a b : Message) → Some a ≡ Some b → a ≡ b
some_is a b e = grind (arith, e)

-- the step of a move whose row is there
move_by : List ℕ → Dest → Bool → Option Message → Plain → Step Reason (Unit {0})
move_by from to bare o p = move_found from to bare o p

resolved_by : List ℕ → Dest → Bool → Result Route Reason → Message → Plain → Step Reason (Unit {0})
resolved_by from to bare r m p = move_resolved from to bare r m p

-- a route that is not found
by_row : (from : List ℕ) (to : Dest) (bare : Bool) (o : Option Message) (p : Plain) (reason : Reason) → IsSome o → resolve p.definitions p.given.name to.queue to.qmgr ≡ Err reason → move_found from to bare o p ≡ Refuse reason
unfolding resolved_by
by_row from to bare None p reason some e = absurd cc
by_row from to bare (Some m) p reason some e = ap (λ (r : Result Route Reason). resolved_by from to bare r (bare_if bare m) p) e

pub unresolved : (from : List ℕ) (ident : Ident) (to : Dest) (bare : Bool) (p : Plain) (reason : Reason) → IsSome (row_with (Some ident) (stored from p).rows) → resolve p.definitions p.given.name to.queue to.qmgr ≡ Err reason
    → move_row from ident to bare p ≡ Refuse reason
unresolved from ident to bare p reason some e = by_row from to bare (row_with (Some ident) (stored from p).rows) p reason some e

-- its landing, by its message there
step_at : List ℕ → Dest → Bool → Route → Message → Plain → Step Reason (Unit {0})
step_at from to bare route m p = move_landing from to bare route (record { queue = queue_at route.end; message = m; dead = None }) p

landed_row : (from : List ℕ) (to : Dest) (bare : Bool) (o : Option Message) (route : Route) (m : Message) (p : Plain) → message_moved bare route.end o ≡ Some m → resolve p.definitions p.given.name to.queue to.qmgr ≡ Ok route
    → move_found from to bare o p ≡ move_landing from to bare route (record { queue = queue_at route.end; message = m; dead = None }) p
unfolding resolved_by step_at
landed_row from to bare None route m p e r = absurd cc
landed_row from to bare (Some k) route m p e r =
    ap (λ (r : Result Route Reason). resolved_by from to bare r (bare_if bare k) p) r ∙ ap (λ (m : Message). step_at from to bare route m p) (some_is (at_end route.end (bare_if bare k)) m e)

-- and by what its tests come to
step_by : Option Reason → List ℕ → Dest → Bool → List ℕ → Message → Step Reason (Unit {0})
step_by o from to bare queue m = refused_or o (moved_step from to bare queue m)

last_test : Bool → List (Test Reason)
last_test b = when b reasons.ResourceProblem ∷ []

pub move_refused : (from : List ℕ) (ident : Ident) (to : Dest) (bare : Bool) (route : Route) (m : Message) (p : Plain) (reason : Reason) → message_moved bare route.end (row_with (Some ident) (stored from p).rows) ≡ Some m
    → resolve p.definitions p.given.name to.queue to.qmgr ≡ Ok route → refusal (route_tests route (length m.body) p) ≡ Some reason → move_row from ident to bare p ≡ Refuse reason
unfolding step_by last_test
move_refused from ident to bare route m p reason found r e =
    landed_row from to bare (row_with (Some ident) (stored from p).rows) route m p found r
    ∙ ap (λ (o : Option Reason). step_by o from to bare (queue_at route.end) m)
    (stopped_at_first (route_tests route (length m.body) p) (last_test (move_full from (record { queue = queue_at route.end; message = m; dead = None }) p)) reason e)

pub move_at_last : (from : List ℕ) (ident : Ident) (to : Dest) (bare : Bool) (route : Route) (m : Message) (p : Plain) (b : Bool) → message_moved bare route.end (row_with (Some ident) (stored from p).rows) ≡ Some m
    → resolve p.definitions p.given.name to.queue to.qmgr ≡ Ok route → refusal (route_tests route (length m.body) p) ≡ None → move_full from (record { queue = queue_at route.end; message = m; dead = None }) p ≡ b
    → move_row from ident to bare p ≡ refused_or (cond b (Some reasons.ResourceProblem) None) (moved_step from to bare (queue_at route.end) m)
unfolding step_by last_test
move_at_last from ident to bare route m p b found r e full =
    landed_row from to bare (row_with (Some ident) (stored from p).rows) route m p found r
    ∙ ap (λ (o : Option Reason). step_by o from to bare (queue_at route.end) m)
    (passed_first (route_tests route (length m.body) p) (last_test (move_full from (record { queue = queue_at route.end; message = m; dead = None }) p)) e
    ∙ ap (λ (b : Bool). cond b (Some reasons.ResourceProblem) None) full)

-- a body that begins with the header of a dead letter has its 172 bytes
pub dead_long : (body : List ℕ) → is_dead body ≡ true → 172 ≤ length body
unfolding dlh_read
dead_long body e = by (nat_lt (length body) 172) (id_fault (codes "DLH ") 0 body) refl e
  where
    by : (b : Bool) (f : Option HeadFault) → nat_lt (length body) 172 ≡ b → is_ok (unless (or_short b f) (dlh_in body)) ≡ true → 172 ≤ length body
    by true f h e = absurd cc
    by false f h e = grind (arith, nat_tests, h)

-- and is read as this
pub dead_head_is : (body : List ℕ) (h : Dlh) → dlh_read body ≡ Ok h → h ≡ dlh_in body
unfolding dlh_read
dead_head_is body h e = by (nat_lt (length body) 172) (id_fault (codes "DLH ") 0 body) e
  where
    by : (b : Bool) (f : Option HeadFault) → unless (or_short b f) (dlh_in body) ≡ Ok h → h ≡ dlh_in body
    by true f e = absurd cc
    by false None e = cc
    by false (Some f) e = absurd cc

-- what the record of a move takes of the log
pub full_moved : (from to : List ℕ) (m : Message) (p : Plain) → is_full (71 + put_bytes m) p ≡ is_full (need (records.Moved from m.ident to m)) p
full_moved from to m p = ap (λ (n : ℕ). is_full n p) (need_moved from to m)

-- the message of a row that is found
pub row_message : (i : Ident) (rows : List Row) (row : Row) → find (has_ident i) rows ≡ Some row → row_with (Some i) rows ≡ Some row.message
row_message i rows row e = ap (λ (o : Option Row). option_map (λ (row : Row). row.message) o) e

is_there : (o : Option Message) (m : Message) → o ≡ Some m → IsSome o
is_there None m e = absurd cc
is_there (Some k) m e = refl

pub message_there : (from : List ℕ) (i : Ident) (bare : Bool) (p : Plain) → CanMove from i bare p → IsSome (row_with (Some i) (stored from p).rows)
message_there from i bare p c = is_there (row_with (Some i) (stored from p).rows) c.free.row.message (row_message i (stored from p).rows c.free.row c.free.found)

-- whose header goes only where it has one
pub bare_dead : (from : List ℕ) (i : Ident) (bare : Bool) (p : Plain) (m : Message) → CanMove from i bare p → row_with (Some i) (stored from p).rows ≡ Some m → bare ≡ true → is_dead m.body ≡ true
bare_dead from i bare p m c e b =
    ap (λ (k : Message). is_dead k.body) (some_is m c.free.row.message (sym e ∙ row_message i (stored from p).rows c.free.row c.free.found)) ∙ c.dead b

-- a message keeps its ident
bare_ident : (bare : Bool) (m : Message) → (bare_if bare m).ident ≡ m.ident
bare_ident true m = refl
bare_ident false m = refl

ident_kept : (bare : Bool) (end : RouteEnd) (o : Option Message) (k m : Message) → o ≡ Some k → message_moved bare end o ≡ Some m → m.ident ≡ k.ident
ident_kept bare end None k m is e = absurd cc
ident_kept bare end (Some n) k m is e =
    ap (λ (m : Message). m.ident) (sym (some_is (at_end end (bare_if bare n)) m e)) ∙ bare_ident bare n ∙ ap (λ (m : Message). m.ident) (some_is n k is)

pub same_ident_there : (from : List ℕ) (i : Ident) (bare : Bool) (p : Plain) (end : RouteEnd) (m : Message) → CanMove from i bare p → message_moved bare end (row_with (Some i) (stored from p).rows) ≡ Some m → m.ident ≡ i
same_ident_there from i bare p end m c e =
    ident_kept bare end (row_with (Some i) (stored from p).rows) c.free.row.message m (row_message i (stored from p).rows c.free.row c.free.found) e
    ∙ ident_of_row i (stored from p).rows c.free.row c.free.found
