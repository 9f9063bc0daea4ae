-- Parts, calls, stops and restarts raise counters by no more than what they do.
use Rattle.std.proofs.Common.{ℕ, zero, suc, ◌≡◌, ◌+◌, ◌*◌, ◌<◌, ◌≤◌, ◌^◌, Bool, true, false, List, [], ◌∷◌, ◌++◌, length, refl, ap, sym, subst, ◌∙◌, arith, map, inl, inr}
use Rattle.std.specs.Prelude.{Option, Some, None, if◌then◌else◌, nat_lt}
use Rattle.std.specs.Str.{bytes_eq}
use Rattle.std.proofs.lemmas.Bool.Decides.{nat_tests}
use Rattle.mq_queue.specs.declared.row.Row.{Row}
use Rattle.mq_queue.specs.Rows.{insert_row}
use Rattle.mq_queue.proofs.QueueLaws.{length_placed, length_kept, length_retagged}
use Rattle.mq_objects.specs.Names.{local_of}
use Rattle.mq_calls.specs.declared.records.LogRecord.{LogRecord}
use Rattle.mq_calls.specs.declared.choices.Choice.{Choice}
use Rattle.mq_calls.specs.declared.choices.Choice.TheVariants.{Runs, NoMemory, Stopped}
use Rattle.mq_calls.specs.declared.commands.RestartFault.{RestartFault}
use Rattle.mq_calls.specs.declared.commands.RestartFault.TheVariants as faults
use Rattle.mq_calls.specs.State.{Plain, Given, Queue, Change, Noted, Running, fresh_queue}
use Rattle.mq_calls.specs.declared.state.Batch.{Batch}
use Rattle.mq_calls.specs.State.Running.{Up, Down}
use Rattle.mq_calls.specs.State.Which.{Nonpersistent}
use Rattle.mq_calls.specs.State.Change.{Place as Places, Try, Leave, Hold, Release, Renew, DropQueue, SwitchOn, Serve, SetBound, ForgetAll}
use Rattle.mq_calls.specs.Condition.{condition}
use Rattle.mq_calls.specs.Reads.{stored, queue_in, puts_to, reserved, is_persistent}
use Rattle.mq_calls.specs.Changes.{apply, apply_all, set_queue, placed_in, lane_of, kept_in, held_in, released_in, made_due, depth_type, try_if, forgotten, new_row}
use Rattle.mq_calls.specs.Counts.{starts_of, IsCounted, AreAtMost}
use Rattle.mq_calls.specs.Sizes.{need}
use Rattle.mq_calls.specs.Images.{lasting_rows, lasting_row, shelves_of, queue_on}
use Rattle.mq_calls.specs.declared.image.Image.{Image}
use Rattle.mq_calls.specs.declared.image.Shelf.{Shelf}
use Rattle.mq_calls.specs.Steps.{Part, Step, after, do_part, do_all, logged, stands_in, freeze, stopped_at, note_of, volatile_gone}
use Rattle.mq_calls.specs.Steps.Step.{Refuse, Do}
use Rattle.mq_law_log.specs.from_spec_manager.Stops.{advance_clock, cut, first_start, stop, stop_at, stop_changes, at_rest, release_batch, redone, redone_if, restarted, next_started, started_need, failed}
use Rattle.mq_law_log.specs.from_spec_log.Applies.{is_in_bounds}
use Rattle.mq_law_log.specs.from_spec_log.Applies.Start.{Later}
use Rattle.mq_law_log.specs.from_law_manager.Facts.{Mem, AreNamed, IsFrozen, IsSound}
use Rattle.mq_law_log.proofs.from_law_manager.Lists.{bool_case}
use Rattle.mq_law_log.proofs.from_law_manager.Named.{queue_set, queue_mapped, queue_dropped}
use Rattle.mq_law_log.proofs.from_law_manager.Untouched.{changes_untouched}
use Rattle.mq_law_log.proofs.Bridge.{all_of}
pub use Rattle.mq_law_log.proofs.Bridge.{entry_found}
use Rattle.mq_law_image.specs.Bounds.{IsBounded, all_growth, need_of, part_growth, parts_growth, step_growth, noted_growth, restart_growth, HaveArrived}
use Rattle.mq_law_image.proofs.Growing.{Rises, bounded_by, rise_on, all_rise, still_rises, mapped_rise, handles_more, le_self, le_refl}

-- ---- parts and calls

logged_rises : (r : Option LogRecord) (p : Plain) → Rises (need_of r) p (logged r p)
logged_rises None p = still_rises 0 p p refl refl refl refl refl
logged_rises (Some r) p = record {
  incarnation = le_self (p.numbers.incarnation + starts_of p.running) (need r);
  idents = le_self p.numbers.idents (need r);
  connections = le_self p.numbers.connections (need r);
  handles = λ m h. handles_more m (m + need r) p.connections (le_self m (need r)) h;
  arrivals = λ name. le_self ((stored name p).arrivals + puts_to name p.connections) (need r);
  due = λ name. le_self ((stored name p).due + puts_to name p.connections) (need r);
  log = longer p.log.length (reserved p) (need r);
}
  where
    longer : (a b n : ℕ) → a + n + b ≤ a + b + n
    longer a b n = omega arith

part_rises : (part : Part) (p : Plain) → Rises (part_growth part) p (do_part part p)
part_rises part p = rise_on (need_of part.forced) (all_growth part.changes) p (logged part.forced p) (do_part part p) (logged_rises part.forced p) (all_rise part.changes (logged part.forced p))

parts_rise : (parts : List Part) (p : Plain) → Rises (parts_growth parts) p (do_all parts p)
parts_rise [] p = still_rises 0 p p refl refl refl refl refl
parts_rise (part ∷ parts) p = rise_on (part_growth part) (parts_growth parts) p (do_part part p) (do_all parts (do_part part p)) (part_rises part p) (parts_rise parts (do_part part p))

-- (a stop or a stopped write: counters stand or fall)
down_rises : (noted : Option Noted) (q : Plain) → Rises 0 q (record q { running = Down noted 0 })
down_rises noted q = record {
  incarnation = fewer q.numbers.incarnation (starts_of q.running);
  idents = le_self q.numbers.idents 0;
  connections = le_self q.numbers.connections 0;
  handles = λ m h. handles_more m (m + 0) q.connections (le_self m 0) h;
  arrivals = λ name. le_self ((stored name q).arrivals + puts_to name q.connections) 0;
  due = λ name. le_self ((stored name q).due + puts_to name q.connections) 0;
  log = le_self (q.log.length + reserved q) 0;
}
  where
    fewer : (a b : ℕ) → a + 0 ≤ a + b + 0
    fewer a b = omega arith

armed_rises : (left : ℕ) (q : Plain) → Rises 0 q (record q { log = record q.log { armed = left } })
armed_rises left q = record {
  incarnation = le_self (q.numbers.incarnation + starts_of q.running) 0;
  idents = le_self q.numbers.idents 0;
  connections = le_self q.numbers.connections 0;
  handles = λ m h. handles_more m (m + 0) q.connections (le_self m 0) h;
  arrivals = λ name. le_self ((stored name q).arrivals + puts_to name q.connections) 0;
  due = λ name. le_self ((stored name q).due + puts_to name q.connections) 0;
  log = le_self (q.log.length + reserved q) 0;
}

freeze_rises : (note : Option Noted) (left : ℕ) (p : Plain) → Rises 0 p (freeze note left p)
freeze_rises note left p =
    rise_on 0 0 p (volatile_gone p) (freeze note left p) (mapped_rise (kept_in Nonpersistent) p (λ q. refl) (λ n. refl) (λ q. le_self q.arrivals 0) (λ q. le_self q.due 0))
    (rise_on 0 0 (volatile_gone p) (record (volatile_gone p) { running = Down note 0 }) (freeze note left p) (down_rises note (volatile_gone p)) (armed_rises left (record (volatile_gone p) { running = Down note 0 })))

rise_less : (m n : ℕ) (p q : Plain) → m ≤ n → Rises m p q → Rises n p q
rise_less m n p q le r = record {
  incarnation = on (q.numbers.incarnation + starts_of q.running) (p.numbers.incarnation + starts_of p.running) r.incarnation;
  idents = on q.numbers.idents p.numbers.idents r.idents;
  connections = on q.numbers.connections p.numbers.connections r.connections;
  handles = λ k h. handles_more (k + m) (k + n) q.connections (plus k) (r.handles k h);
  arrivals = λ name. on ((stored name q).arrivals + puts_to name q.connections) ((stored name p).arrivals + puts_to name p.connections) (r.arrivals name);
  due = λ name. on ((stored name q).due + puts_to name q.connections) ((stored name p).due + puts_to name p.connections) (r.due name);
  log = on (q.log.length + reserved q) (p.log.length + reserved p) r.log;
}
  where
    on : (a b : ℕ) → a ≤ b + m → a ≤ b + n
    on a b h = omega (arith, h, le)

    plus : (k : ℕ) → k + m ≤ k + n
    plus k = omega (arith, le)

stopped_rises : (n left : ℕ) (parts : List Part) (p : Plain) → Rises (parts_growth parts) p (stopped_at n parts left p)
stopped_rises n left [] p = still_rises 0 p p refl refl refl refl refl
stopped_rises zero left (part ∷ parts) p = rise_less 0 (part_growth part + parts_growth parts) p (freeze (note_of part part.forced) left p) (none (part_growth part + parts_growth parts)) (freeze_rises (note_of part part.forced) left p)
  where
    none : (a : ℕ) → 0 ≤ a
    none a = omega arith
stopped_rises (suc n) left (part ∷ parts) p = rise_on (part_growth part) (parts_growth parts) p (do_part part p) (stopped_at n parts left (do_part part p)) (part_rises part p) (stopped_rises n left parts (do_part part p))

chosen_rises : {F T : Type 0} (s : Step F T) (choice : Choice) (p : Plain) → Rises (step_growth s) p (after s choice p).next
chosen_rises (Refuse reason) choice p = still_rises 0 p p refl refl refl refl refl
chosen_rises (Do reply parts) Runs p = parts_rise parts p
chosen_rises (Do reply parts) NoMemory p = still_rises (parts_growth parts) p p refl refl refl refl refl
chosen_rises (Do reply parts) (Stopped by n left) p = stopped_rises n left parts p

pub call_bounded : {F T : Type 0} (most : ℕ) (s : Step F T) (choice : Choice) (p : Plain) → IsBounded most p → IsBounded (most + step_growth s) (after s choice p).next
call_bounded most s choice p b = bounded_by (step_growth s) most p (after s choice p).next (chosen_rises s choice p) b

pub part_bounded : (most : ℕ) (part : Part) (p : Plain) → IsBounded most p → IsBounded (most + part_growth part) (do_part part p)
part_bounded most part p b = bounded_by (part_growth part) most p (do_part part p) (part_rises part p) b

-- ---- a stop

stop_growth : (bs : List Batch) → all_growth (map release_batch bs ++ Leave Nonpersistent ∷ ForgetAll ∷ []) ≡ 0
stop_growth [] = refl
stop_growth (b ∷ bs) = none (all_growth (map release_batch bs ++ Leave Nonpersistent ∷ ForgetAll ∷ [])) (stop_growth bs)
  where
    none : (n : ℕ) → n ≡ 0 → 0 + n ≡ 0
    none n e = omega (arith, e)

stop_all : (p : Plain) → all_growth (stop_changes p) ≡ 0
stop_all p = none (all_growth (map release_batch p.channels.batches ++ Leave Nonpersistent ∷ ForgetAll ∷ [])) (stop_growth p.channels.batches)
  where
    none : (n : ℕ) → n ≡ 0 → 0 + n ≡ 0
    none n e = omega (arith, e)

stop_bounded_at : (most : ℕ) (r : Running) (p : Plain) → IsBounded most p → IsBounded most (stop_at r p).next
stop_bounded_at most Up p b = subst (λ (n : ℕ). IsBounded n (record (at_rest p) { running = Down None 0 })) (same most)
    (bounded_by 0 (most + 0) (at_rest p) (record (at_rest p) { running = Down None 0 }) (down_rises None (at_rest p))
    (bounded_by 0 most p (at_rest p) (subst (λ (n : ℕ). Rises n p (at_rest p)) (stop_all p) (all_rise (stop_changes p) p)) b))
  where
    same : (m : ℕ) → m + 0 + 0 ≡ m
    same m = omega arith
stop_bounded_at most (Down noted starts) p b = b

pub stop_bounded : (most : ℕ) (p : Plain) → IsBounded most p → IsBounded most (stop p).next
stop_bounded most p b = stop_bounded_at most p.running p b

-- ---- rows that have arrived

arrived_set : (new : Queue) (qs : List Queue) → length new.rows ≤ new.arrivals → ((name : List ℕ) → length (queue_in name qs).rows ≤ (queue_in name qs).arrivals) → (name : List ℕ) → length (queue_in name (set_queue new qs)).rows ≤ (queue_in name (set_queue new qs)).arrivals
arrived_set new qs h all name = subst (λ (q : Queue). length q.rows ≤ q.arrivals) (sym (queue_set name new qs)) (bool_case (bytes_eq name new.name) (λ b. length (if b then new else queue_in name qs).rows ≤ (if b then new else queue_in name qs).arrivals) (λ e. h) (λ e. all name))

arrived_mapped : (f : Queue → Queue) (qs : List Queue) → ((q : Queue) → (f q).name ≡ q.name) → ((name : List ℕ) → f (fresh_queue name) ≡ fresh_queue name) → ((q : Queue) → length (f q).rows ≤ length q.rows) → ((q : Queue) → (f q).arrivals ≡ q.arrivals)
    → ((name : List ℕ) → length (queue_in name qs).rows ≤ (queue_in name qs).arrivals) → (name : List ℕ) → length (queue_in name (map f qs)).rows ≤ (queue_in name (map f qs)).arrivals
arrived_mapped f qs same fresh rows arrivals all name = subst (λ (q : Queue). length q.rows ≤ q.arrivals) (sym (queue_mapped f name qs same (fresh name)))
    (on (length (f (queue_in name qs)).rows) (length (queue_in name qs).rows) (queue_in name qs).arrivals (f (queue_in name qs)).arrivals (rows (queue_in name qs)) (all name) (arrivals (queue_in name qs)))
  where
    on : (a b c d : ℕ) → a ≤ b → b ≤ c → d ≡ c → a ≤ d
    on a b c d x y e = omega (arith, x, y, e)

same_length : (a b : ℕ) → a ≡ b → a ≤ b
same_length a b e = omega (arith, e)

arrived_placed : (lane n : ℕ) (row : Row) (rows : List Row) → length rows ≤ n → length (insert_row row rows) ≤ n + 1
arrived_placed lane n row rows h = on (length (insert_row row rows)) (length rows) n (length_placed row rows) h
  where
    on : (a b n : ℕ) → a ≡ b + 1 → b ≤ n → a ≤ n + 1
    on a b n e le = omega (arith, e, le)

arrived_tried : (b : Bool) (name : List ℕ) (p : Plain) → HaveArrived p → HaveArrived (try_if b name p)
arrived_tried true name p h = arrived_set (made_due (depth_type (local_of name p.definitions)) p.moment (stored name p)) p.queues (h name) h
arrived_tried false name p h = h

none_left : (a : ℕ) → 0 ≤ a
none_left a = omega arith

pub arrived_kept : (c : Change) (p : Plain) → HaveArrived p → HaveArrived (apply c p)
arrived_kept (Places name m) p h = arrived_set (placed_in (lane_of (local_of name p.definitions) m.md.priority) m (stored name p)) p.queues
    (arrived_placed 0 (stored name p).arrivals (new_row (lane_of (local_of name p.definitions) m.md.priority) ((stored name p).arrivals + 1) m) (stored name p).rows (h name)) h
arrived_kept (Try name priority) p h = arrived_tried (condition (local_of name p.definitions) priority p) name p h
arrived_kept (Leave which) p h = arrived_mapped (kept_in which) p.queues (λ q. refl) (λ n. refl) (λ q. length_kept _ q.rows) (λ q. refl) h
arrived_kept (Hold which by) p h = arrived_mapped (held_in which by) p.queues (λ q. refl) (λ n. refl) (λ q. same_length (length (held_in which by q).rows) (length q.rows) (length_retagged _ q.rows)) (λ q. refl) h
arrived_kept (Release which counted) p h = arrived_mapped (released_in which counted) p.queues (λ q. refl) (λ n. refl) (λ q. same_length (length (released_in which counted q).rows) (length q.rows) (length_retagged _ q.rows)) (λ q. refl) h
arrived_kept (Renew name) p h = arrived_set (fresh_queue name) p.queues (none_left 0) h
arrived_kept (DropQueue name) p h = λ other. subst (λ (q : Queue). length q.rows ≤ q.arrivals) (sym (queue_dropped other name p.queues)) (bool_case (bytes_eq other name) (λ b. length (if b then fresh_queue other else queue_in other p.queues).rows ≤ (if b then fresh_queue other else queue_in other p.queues).arrivals) (λ e. none_left 0) (λ e. h other))
arrived_kept (SwitchOn name) p h = arrived_set (record (stored name p) { switched_off = false }) p.queues (h name) h
arrived_kept (Serve name) p h = arrived_set _ p.queues (h name) h
arrived_kept (SetBound channel true) p h = h
arrived_kept (SetBound channel false) p h = h
arrived_kept ForgetAll p h = arrived_mapped forgotten p.queues (λ q. refl) (λ n. refl) (λ q. le_refl (length q.rows)) (λ q. refl) h
arrived_kept c p h = h

all_arrived : (cs : List Change) (p : Plain) → HaveArrived p → HaveArrived (apply_all cs p)
all_arrived [] p h = h
all_arrived (c ∷ cs) p h = all_arrived cs (apply c p) (arrived_kept c p h)

redone_arrived : (kept : Bool) (noted : Option Noted) (p : Plain) → HaveArrived p → HaveArrived (redone_if kept noted p)
redone_arrived true (Some n) p h = all_arrived n.changes (record p { log = stands_in n.written p.log }) h
redone_arrived true None p h = h
redone_arrived false noted p h = h

-- ---- a restart

redone_running : (kept : Bool) (noted : Option Noted) (p : Plain) → (redone_if kept noted p).running ≡ p.running
redone_running true (Some n) p = (changes_untouched n.changes (record p { log = stands_in n.written p.log })).running
redone_running true None p = refl
redone_running false noted p = refl

redone_rises : (kept : Bool) (noted : Option Noted) (p : Plain) → Rises (noted_growth kept noted) p (redone_if kept noted p)
redone_rises true (Some n) p = rise_on (need n.written) (all_growth n.changes) p (record p { log = stands_in n.written p.log }) (redone n p) longer (all_rise n.changes (record p { log = stands_in n.written p.log }))
  where
    more : (a b k : ℕ) → a + k + b ≤ a + b + k
    more a b k = omega arith

    longer : Rises (need n.written) p (record p { log = stands_in n.written p.log })
    longer = record {
      incarnation = le_self (p.numbers.incarnation + starts_of p.running) (need n.written);
      idents = le_self p.numbers.idents (need n.written);
      connections = le_self p.numbers.connections (need n.written);
      handles = λ m h. handles_more m (m + need n.written) p.connections (le_self m (need n.written)) h;
      arrivals = λ name. le_self ((stored name p).arrivals + puts_to name p.connections) (need n.written);
      due = λ name. le_self ((stored name p).due + puts_to name p.connections) (need n.written);
      log = more p.log.length (reserved p) (need n.written);
    }
redone_rises true None p = still_rises 0 p p refl refl refl refl refl
redone_rises false noted p = still_rises 0 p p refl refl refl refl refl

lasting_fewer : (bs : List Batch) (rows : List Row) → length (lasting_rows bs rows) ≤ length rows
lasting_fewer bs [] = le_refl 0
lasting_fewer bs (row ∷ rows) = bool_case (is_persistent row.message) (λ b. length (if b then lasting_row bs row ∷ lasting_rows bs rows else lasting_rows bs rows) ≤ suc (length rows))
    (λ e. one (length (lasting_rows bs rows)) (length rows) (lasting_fewer bs rows)) (λ e. less (length (lasting_rows bs rows)) (length rows) (lasting_fewer bs rows))
  where
    one : (a b : ℕ) → a ≤ b → suc a ≤ suc b
    one a b le = omega (arith, le)

    less : (a b : ℕ) → a ≤ b → a ≤ suc b
    less a b le = omega (arith, le)

begun_arrivals : (name : List ℕ) (bs : List Batch) (qs : List Queue) → (queue_in name (map queue_on (shelves_of bs qs))).arrivals ≤ length (queue_in name qs).rows
begun_arrivals name bs [] = none_left 0
begun_arrivals name bs (q ∷ qs) = bool_case (bytes_eq name q.name)
    (λ b. (if b then queue_on (record { name = q.name; rows = lasting_rows bs q.rows }) else queue_in name (map queue_on (shelves_of bs qs))).arrivals ≤ length (if b then q else queue_in name qs).rows)
    (λ e. lasting_fewer bs q.rows) (λ e. begun_arrivals name bs qs)

begun_due : (name : List ℕ) (bs : List Batch) (qs : List Queue) → (queue_in name (map queue_on (shelves_of bs qs))).due ≡ 0
begun_due name bs [] = refl
begun_due name bs (q ∷ qs) = bool_case (bytes_eq name q.name) (λ b. (if b then queue_on (record { name = q.name; rows = lasting_rows bs q.rows }) else queue_in name (map queue_on (shelves_of bs qs))).due ≡ 0) (λ e. refl) (λ e. begun_due name bs qs)

pub restart_bounded : (most : ℕ) (kept : Bool) (started starts : ℕ) (noted : Option Noted) (p : Plain) → p.running ≡ Down noted starts → started ≤ starts → HaveArrived p → IsBounded most p → IsBounded (most + restart_growth kept started noted p) (restarted kept started noted p)
restart_bounded most kept started starts noted p down le h b = record {
  incarnation = up q.numbers.incarnation started starts (most + noted_growth kept noted) ((started + 1) * started_need p.given) (subst (λ (r : Running). q.numbers.incarnation + starts_of r ≤ most + noted_growth kept noted) (redone_running kept noted p ∙ down) k.incarnation) le most (noted_growth kept noted) refl;
  idents = none_left (most + restart_growth kept started noted p);
  connections = none_left (most + restart_growth kept started noted p);
  handles = tt;
  arrivals = λ name. rows (queue_in name (map queue_on (shelves_of q.channels.batches q.queues))).arrivals (length (stored name q).rows) (stored name q).arrivals (puts_to name q.connections) most (noted_growth kept noted) ((started + 1) * started_need p.given)
      (begun_arrivals name q.channels.batches q.queues) (redone_arrived kept noted p h name) (k.arrivals name);
  due = λ name. nothing (queue_in name (map queue_on (shelves_of q.channels.batches q.queues))).due (most + restart_growth kept started noted p) (begun_due name q.channels.batches q.queues);
  log = longer q.log.length (reserved q) most (noted_growth kept noted) ((started + 1) * started_need p.given) k.log;
}
  where
    q : Plain
    q = redone_if kept noted p

    k : IsBounded (most + noted_growth kept noted) q
    k = bounded_by (noted_growth kept noted) most p q (redone_rises kept noted p) b

    up : (i s t m x : ℕ) → i + t ≤ m → s ≤ t → (a g : ℕ) → m ≡ a + g → i + s + 1 + 0 ≤ a + (g + x + 1)
    up i s t m x e f a g z = omega (arith, e, f, z)

    rows : (a l r u m g x : ℕ) → a ≤ l → l ≤ r → r + u ≤ m + g → a + 0 ≤ m + (g + x + 1)
    rows a l r u m g x e f z = omega (arith, e, f, z)

    nothing : (a m : ℕ) → a ≡ 0 → a + 0 ≤ m
    nothing a m e = omega (arith, e)

    longer : (a u m g x : ℕ) → a + u ≤ m + g → a + x + 0 ≤ m + (g + x + 1)
    longer a u m g x e = omega (arith, e)

pub failed_bounded : (most : ℕ) (fault : RestartFault) (in_write : Bool) (left : ℕ) (noted : Option Noted) (starts : ℕ) (p : Plain) → p.running ≡ Down noted starts → IsBounded most p → IsBounded (most + 1) (failed fault in_write left noted starts p).next
failed_bounded most fault in_write left noted starts p down b = at fault in_write
  where
    wider : IsBounded (most + 1) p
    wider = bounded_by 1 most p p (still_rises 1 p p refl refl refl refl refl) b

    one : (i s m : ℕ) → i + s ≤ m → i + (s + 1) ≤ m + 1
    one i s m e = omega (arith, e)

    in_it : IsBounded (most + 1) (record p { running = Down noted (starts + 1); log = record p.log { armed = left } })
    in_it = record {
      incarnation = one p.numbers.incarnation starts most (subst (λ (r : Running). p.numbers.incarnation + starts_of r ≤ most) down b.incarnation);
      idents = wider.idents;
      connections = wider.connections;
      handles = wider.handles;
      arrivals = wider.arrivals;
      due = wider.due;
      log = wider.log;
    }

    before : IsBounded (most + 1) (record p { log = record p.log { armed = left } })
    before = record {
      incarnation = wider.incarnation;
      idents = wider.idents;
      connections = wider.connections;
      handles = wider.handles;
      arrivals = wider.arrivals;
      due = wider.due;
      log = wider.log;
    }

    at : (fault : RestartFault) (in_write : Bool) → IsBounded (most + 1) (failed fault in_write left noted starts p).next
    at faults.NoMemory in_write = wider
    at faults.Up true = in_it
    at faults.Up false = before
    at faults.Cut true = in_it
    at faults.Cut false = before
    at faults.Disk true = in_it
    at faults.Disk false = before
    at (faults.BadLog place) true = in_it
    at (faults.BadLog place) false = before

-- a restart's own record is within the bounds of a later start
pub started_within : (most : ℕ) (kept : Bool) (started starts : ℕ) (noted : Option Noted) (p : Plain) → p.running ≡ Down noted starts → started ≤ starts → IsBounded most p → most + noted_growth kept noted + 1 < 2 ^ 61 → is_in_bounds Later (next_started started (redone_if kept noted p)) ≡ true
started_within most kept started starts noted p down le b room = within q.numbers.incarnation started starts (most + noted_growth kept noted) (subst (λ (r : Running). q.numbers.incarnation + starts_of r ≤ most + noted_growth kept noted) (redone_running kept noted p ∙ down) (bounded_by (noted_growth kept noted) most p q (redone_rises kept noted p) b).incarnation) le room
  where
    q : Plain
    q = redone_if kept noted p

    less : (a b : ℕ) → a < b → nat_lt a b ≡ true
    less a b e = grind (arith, nat_tests)

    sum : (i s t m z : ℕ) → i + t ≤ m → s ≤ t → m + 1 < z → i + s + 1 < z
    sum i s t m z e f g = omega (arith, e, f, g)

    within : (i s t m : ℕ) → i + t ≤ m → s ≤ t → m + 1 < 2 ^ 61 → nat_lt (i + s + 1) (2 ^ 61) ≡ true
    within i s t m e f g = less (i + s + 1) (2 ^ 61) (sum i s t m (2 ^ 61) e f g)

-- ---- the same, queue by queue

pub arrived_sound : (p : Plain) → IsSound p → HaveArrived p
arrived_sound p s = s.facts.ordered.fits

pub arrived_frozen : (p : Plain) → IsFrozen p → HaveArrived p
arrived_frozen p s = s.still.ordered.fits

-- ---- a cut that is armed, a clock that moves

pub cut_bounded : (most k : ℕ) (p : Plain) → IsBounded most p → IsBounded most (cut k p)
cut_bounded most k p h = record { incarnation = h.incarnation; idents = h.idents; connections = h.connections; handles = h.handles; arrivals = h.arrivals; due = h.due; log = h.log }

pub clock_bounded : (most by : ℕ) (p : Plain) → IsBounded most p → IsBounded most (advance_clock by p)
clock_bounded most by p h = record { incarnation = h.incarnation; idents = h.idents; connections = h.connections; handles = h.handles; arrivals = h.arrivals; due = h.due; log = h.log }

pub at_most : (most : ℕ) (p : Plain) → AreNamed p.queues → IsBounded most p → AreAtMost most p
at_most most p named b = record {
  incarnation = b.incarnation;
  idents = b.idents;
  connections = b.connections;
  handles = b.handles;
  queues = all_of (IsCounted most p) p.queues (λ q m. record {
    arrivals = subst (λ (x : Queue). x.arrivals + puts_to q.name p.connections ≤ most) (entry_found p.queues named q m) (b.arrivals q.name);
    due = subst (λ (x : Queue). x.due + puts_to q.name p.connections ≤ most) (entry_found p.queues named q m) (b.due q.name);
  });
  log = b.log;
}

-- a manager begins with as many arrivals as it has rows

pub first_arrivals : (most : ℕ) (name : List ℕ) (ss : List Shelf) → ((s : Shelf) → Mem s ss → length s.rows ≤ most) → (queue_in name (map queue_on ss)).arrivals + 0 ≤ most
first_arrivals most name [] h = none_left most
first_arrivals most name (s ∷ ss) h = bool_case (bytes_eq name s.name) (λ b. (if b then queue_on s else queue_in name (map queue_on ss)).arrivals + 0 ≤ most) (λ e. on (length s.rows) (h s (inl refl))) (λ e. first_arrivals most name ss (λ t m. h t (inr m)))
  where
    on : (a : ℕ) → a ≤ most → a + 0 ≤ most
    on a le = omega (arith, le)

first_due : (name : List ℕ) (ss : List Shelf) → (queue_in name (map queue_on ss)).due ≡ 0
first_due name [] = refl
first_due name (s ∷ ss) = bool_case (bytes_eq name s.name) (λ b. (if b then queue_on s else queue_in name (map queue_on ss)).due ≡ 0) (λ e. refl) (λ e. first_due name ss)

pub first_bounded : (most : ℕ) (given : Given) (image : Image) (long moment : ℕ) → image.incarnation + 1 ≤ most → long + started_need given ≤ most → ((s : Shelf) → Mem s image.shelves → length s.rows ≤ most) → IsBounded most (first_start given image long moment)
first_bounded most given image long moment incarnation room rows = record {
  incarnation = on image.incarnation incarnation;
  idents = none_left most;
  connections = none_left most;
  handles = tt;
  arrivals = λ name. first_arrivals most name image.shelves rows;
  due = λ name. zero_is (queue_in name (map queue_on image.shelves)).due (first_due name image.shelves);
  log = zero_more (long + started_need given) room;
}
  where
    on : (a : ℕ) → a + 1 ≤ most → a + 0 + 1 + 0 ≤ most
    on a le = omega (arith, le)

    zero_is : (a : ℕ) → a ≡ 0 → a + 0 ≤ most
    zero_is a e = omega (arith, e)

    zero_more : (a : ℕ) → a ≤ most → a + 0 ≤ most
    zero_more a le = omega (arith, le)
