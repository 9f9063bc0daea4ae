-- Expired rows that are gone through, and that leave.
use Rattle.std.proofs.Common.{◌≡◌, ℕ, ◌+◌, ◌<◌, ◌≤◌, ◌^◌, Bool, true, false, cond, List, [], ◌∷◌, ◌++◌, length, refl, ap, arith, sym, subst, ◌∙◌}
use Rattle.std.specs.Prelude.{Option, Some, None, Result, Ok, Err, IfOk, find, filter, map}
use Rattle.mq_message.specs.declared.place.Place.{Place}
use Rattle.mq_queue.specs.declared.row.Row.{Row}
use Rattle.mq_queue.specs.Rows.{is_free}
use Rattle.mq_queue.specs.Queues.{AreInOrder}
use Rattle.mq_calls.specs.declared.commands.Halt.TheVariants as halts
use Rattle.mq_disk.specs.declared.cutter.Stop.TheVariants as stops
use Rattle.mq_calls.specs.declared.deltas.Why.TheVariants as whys
use Rattle.mq_calls.specs.Words.{Reason, Part, ManagerValue, MeetsOrWants, Do}
use Rattle.mq_calls.specs.declared.commands.Halt.{Halt}
use Rattle.mq_calls.specs.declared.records.Remove.{Remove}
use Rattle.mq_spec_manager.specs.Words.{Never}
use Rattle.mq_get.specs.from_scan.{Met}
use Rattle.mq_get.specs.from_scan.Scans.{met_of}
use Rattle.mq_base.specs.declared.want.NoMemory.{NoMemory}
use Rattle.mq_calls.specs.State.{Queue as StateQueue}
use Rattle.mq_spec_manager.specs.Agents.{expired_rows}
use Rattle.mq_place.specs.States.{QueueState, state_in, rows_after, is_free_after}
use Rattle.mq_core.proofs.PlaceLaws.{queue_in_state}
use Rattle.mq_place.proofs.AfterLaws.{free_next, free_none, rows_from_front}
use Rattle.mq_core.specs.Values.{CoreValue, manager_of, begun_call, WritesLog}
use Rattle.mq_core.specs.Views.{PartsValue, plain_of}
use Rattle.mq_get.specs.from_unit.Told.{Telling}
use Rattle.mq_get.specs.Does.{seen, IsCleared, Halts}
use Rattle.mq_get.specs.Leaving.{gone_parts, leaving_need, removes_met}
use Rattle.mq_get.proofs.DoesLaws.{run_meets, broken_meets}
use Rattle.mq_get.proofs.PathLaws.{wanting_meets}
use Rattle.mq_agents.specs.Ends.{halt_of}
use Rattle.mq_agents.specs.Expiring.{agent_of_halt, is_past_row, stop_of_halt}

-- those that are left behind a place
abbrev pub past_left : ℕ → Option Place → List Row → List Met
past_left moment after rows = map met_of (filter (is_past_row moment) (filter is_free (rows_after after rows)))

abbrev pub free_left : Option Place → List Row → ℕ
free_left after rows = length (filter is_free (rows_after after rows))

pub past_start : (moment : ℕ) (rows : List Row) → past_left moment None rows ≡ map met_of (filter (is_past_row moment) (filter is_free rows))
past_start moment rows = ap (λ (rs : List Row). map met_of (filter (is_past_row moment) (filter is_free rs))) (rows_from_front rows)

free_fewer : (rows : List Row) → length (filter is_free rows) ≤ length rows
free_fewer [] = omega arith
free_fewer (x ∷ xs) = at (is_free x) (free_fewer xs)
  where
    at : (b : Bool) → length (filter is_free xs) ≤ length xs → length (cond b (x ∷ filter is_free xs) (filter is_free xs)) ≤ length (x ∷ xs)
    at true le = omega (arith, le)
    at false le = omega (arith, le)

pub left_start : (rows : List Row) → free_left None rows + 0 ≤ length rows
left_start rows = let front = ap (λ (rs : List Row). length (filter is_free rs)) (rows_from_front rows) in omega (arith, front, free_fewer rows)

joined : (xs ys : List Met) (x : Met) → (xs ++ x ∷ []) ++ ys ≡ xs ++ x ∷ ys
joined [] ys x = refl
joined (y ∷ xs) ys x = ap (λ (zs : List Met). y ∷ zs) (joined xs ys x)

nothing_more : (xs : List Met) → xs ++ [] ≡ xs
nothing_more [] = refl
nothing_more (x ∷ xs) = ap (λ (zs : List Met). x ∷ zs) (nothing_more xs)

one_more : (so_far : List Met) (moment : ℕ) (row : Row) (rest : List Row)
    → (so_far ++ map met_of (filter (is_past_row moment) (row ∷ []))) ++ map met_of (filter (is_past_row moment) rest) ≡ so_far ++ map met_of (filter (is_past_row moment) (row ∷ rest))
one_more so_far moment row rest = at (is_past_row moment row)
  where
    at : (b : Bool) → (so_far ++ map met_of (cond b (row ∷ []) [])) ++ map met_of (filter (is_past_row moment) rest)
        ≡ so_far ++ map met_of (cond b (row ∷ filter (is_past_row moment) rest) (filter (is_past_row moment) rest))
    at true = joined so_far (map met_of (filter (is_past_row moment) rest)) (met_of row)
    at false = ap (λ (xs : List Met). xs ++ map met_of (filter (is_past_row moment) rest)) (nothing_more so_far)

pub past_next : (so_far now : List Met) (moment : ℕ) (after : Option Place) (rows : List Row) (row : Row) → AreInOrder rows → Some row ≡ find (is_free_after after) rows
    → now ≡ so_far ++ map met_of (filter (is_past_row moment) (row ∷ [])) → now ++ past_left moment (Some row.place) rows ≡ so_far ++ past_left moment after rows
past_next so_far now moment after rows row order e pushed =
    ap (λ (xs : List Met). xs ++ past_left moment (Some row.place) rows) pushed
    ∙ one_more so_far moment row (filter is_free (rows_after (Some row.place) rows))
    ∙ ap (λ (rs : List Row). so_far ++ map met_of (filter (is_past_row moment) rs)) (sym (free_next after rows row order e))

pub left_next : (after : Option Place) (rows : List Row) (row : Row) → AreInOrder rows → Some row ≡ find (is_free_after after) rows → free_left after rows ≡ free_left (Some row.place) rows + 1
left_next after rows row order e = let next = ap length (free_next after rows row order e) in omega (arith, next)

pub past_none : (so_far : List Met) (moment : ℕ) (after : Option Place) (rows : List Row) → None ≡ find (is_free_after after) rows → so_far ++ past_left moment after rows ≡ so_far
past_none so_far moment after rows e =
    ap (λ (rs : List Row). so_far ++ map met_of (filter (is_past_row moment) rs)) (free_none after rows e) ∙ nothing_more so_far

no_rows : (rows : List Row) → length rows ≤ 0 → rows ≡ []
no_rows [] le = refl
no_rows (x ∷ xs) le = absurd (omega (arith, le))

pub past_end : (so_far : List Met) (moment : ℕ) (after : Option Place) (rows : List Row) (n : ℕ) → free_left after rows + n ≤ length rows → length rows ≤ n → so_far ++ past_left moment after rows ≡ so_far
past_end so_far moment after rows n left all =
    ap (λ (rs : List Row). so_far ++ map met_of (filter (is_past_row moment) rs)) (no_rows (filter is_free (rows_after after rows)) (omega (arith, left, all))) ∙ nothing_more so_far

-- one that is pushed, or not
pub pushed_past : (so_far now : List Met) (moment : ℕ) (row : Row) → is_past_row moment row ≡ true → now ≡ so_far ++ met_of row ∷ [] → now ≡ so_far ++ map met_of (filter (is_past_row moment) (row ∷ []))
pushed_past so_far now moment row e is = is ∙ ap (λ (b : Bool). so_far ++ map met_of (cond b (row ∷ []) [])) (sym e)

pub pushed_none : (so_far : List Met) (moment : ℕ) (row : Row) → is_past_row moment row ≡ false → so_far ≡ so_far ++ map met_of (filter (is_past_row moment) (row ∷ []))
pushed_none so_far moment row e = sym (nothing_more so_far) ∙ ap (λ (b : Bool). so_far ++ map met_of (cond b (row ∷ []) [])) (sym e)

-- their record is short enough
removes_fewer : (queue : List ℕ) (mets : List Met) → length (removes_met queue mets) ≤ length mets
removes_fewer queue [] = omega arith
removes_fewer queue (m ∷ ms) = at m.persistent (removes_fewer queue ms)
  where
    at : (b : Bool) → length (removes_met queue ms) ≤ length ms → length (cond b (record { queue = queue; ident = m.ident } ∷ removes_met queue ms) (removes_met queue ms)) ≤ length (m ∷ ms)
    at true le = omega (arith, le)
    at false le = omega (arith, le)

short_need : (rs : List Remove) → length rs ≤ 66076419 → leaving_need rs < 2 ^ 32
short_need [] le = omega arith
short_need (r ∷ rs) le = omega (arith, le)

pub short_few : (queue : List ℕ) (mets : List Met) → length mets ≤ 66076419 → leaving_need (removes_met queue mets) < 2 ^ 32
short_few queue mets le = short_need (removes_met queue mets) (omega (arith, le, removes_fewer queue mets))

-- the expired rows of a queue that is there
pub past_in : (queue : List ℕ) (x : PartsValue) (s : QueueState) (r : Result (List Met) NoMemory) → Some s ≡ state_in queue x.queues.states
    → IfOk r (λ mets. mets ≡ map met_of (filter (is_past_row x.moment) (filter is_free s.queue.rows))) → IfOk r (λ mets. mets ≡ map met_of (expired_rows queue (plain_of x)))
past_in queue x s r e h =
    let same = ap (λ (q : StateQueue). map met_of (filter (is_past_row x.moment) (filter is_free q.rows))) (sym (queue_in_state queue x.queues.states s (sym e))) in
    subst (λ (ms : List Met). IfOk r (λ mets. mets ≡ ms)) same h

-- How the call ends.

abbrev pub nothing : Unit {0}
nothing = tt

pub begun_meets : (parts : List Part) (v : CoreValue) (w : ManagerValue) (r : Result (Unit {0}) (Halt Never)) → MeetsOrWants (manager_of (begun_call v)) (Do nothing parts) r w → MeetsOrWants (manager_of v) (Do nothing parts) r w
begun_meets parts v w (Ok value) m = m
begun_meets parts v w (Err (halts.Refused reason)) m = m
begun_meets parts v w (Err halts.NoMemory) m = m
begun_meets parts v w (Err (halts.Stopped by)) m = record { part = m.part; write = m.write; stop = m.stop; next = m.next; later = m.later; rose = m.rose }

pub begun_told : (parts : List Part) (v w : CoreValue) (r : Result (Unit {0}) (Halt Never)) → WritesLog (begun_call v) (Do nothing parts) r w → WritesLog v (Do nothing parts) r w
begun_told parts v w (Ok value) m = m
begun_told parts v w (Err (halts.Refused reason)) m = m
begun_told parts v w (Err halts.NoMemory) m = m
begun_told parts v w (Err (halts.Stopped by)) m = record { part = m.part; write = m.write; records = m.records; plain = m.plain; log = m.log }

pub cleared_meets : (queue : List ℕ) (mets : List Met) (x y : PartsValue) (u : Telling) → IsCleared queue mets x y u
    → MeetsOrWants {F = Never} (manager_of (seen x [] None)) (Do nothing (gone_parts whys.Expired queue mets)) (Ok nothing) (manager_of (seen y u.dids None))
cleared_meets queue mets x y u c = (run_meets (gone_parts whys.Expired queue mets) nothing (seen x [] None) (seen y u.dids None) refl refl c.run).meets

pub cleared_told : (queue : List ℕ) (mets : List Met) (x y : PartsValue) (u : Telling) → IsCleared queue mets x y u
    → WritesLog {F = Never} (seen x [] None) (Do nothing (gone_parts whys.Expired queue mets)) (Ok nothing) (seen y u.dids None)
cleared_told queue mets x y u c = (c.run.log, c.run.records)

pub halted_meets : (parts : List Part) (x y : PartsValue) (u : Telling) (halt : Halt Reason) → Halts parts x halt y u
    → MeetsOrWants {F = Never} (manager_of (seen x [] None)) (Do nothing parts) (Err (halt_of (agent_of_halt halt))) (manager_of (seen y u.dids (stop_of_halt halt)))
halted_meets parts x y u (halts.Refused reason) h = absurd h
halted_meets parts x y u halts.NoMemory h = (wanting_meets x y u parts nothing h).meets
halted_meets parts x y u (halts.Stopped stops.Cut) h = (broken_meets stops.Cut parts nothing (seen x [] None) (seen y u.dids (Some stops.Cut)) refl refl h.broken).meets
halted_meets parts x y u (halts.Stopped stops.Disk) h = (broken_meets stops.Disk parts nothing (seen x [] None) (seen y u.dids (Some stops.Disk)) refl refl h.broken).meets

pub halted_told : (parts : List Part) (x y : PartsValue) (u : Telling) (halt : Halt Reason) → Halts parts x halt y u
    → WritesLog {F = Never} (seen x [] None) (Do nothing parts) (Err (halt_of (agent_of_halt halt))) (seen y u.dids (stop_of_halt halt))
halted_told parts x y u (halts.Refused reason) h = absurd h
halted_told parts x y u halts.NoMemory h = (wanting_meets x y u parts nothing h).told
halted_told parts x y u (halts.Stopped stops.Cut) h = (broken_meets stops.Cut parts nothing (seen x [] None) (seen y u.dids (Some stops.Cut)) refl refl h.broken).told
halted_told parts x y u (halts.Stopped stops.Disk) h = (broken_meets stops.Disk parts nothing (seen x [] None) (seen y u.dids (Some stops.Disk)) refl refl h.broken).told
