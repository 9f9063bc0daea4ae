-- What a forced write leaves: the view after it, and what ties the parts.
use Rattle.std.proofs.Common.{◌≡◌, ℕ, ◌+◌, ◌<◌, ◌≤◌, Bool, true, false, cond, List, [], ◌∷◌, ◌++◌, length, refl, ap, arith, sym, subst, ◌∙◌}
use Rattle.std.specs.Prelude.{◌^◌, Option, Some, Result, Ok, Err, map, not, IsErrOf, OnOk}
use Rattle.std.specs.Str.{bytes_eq}
use Rattle.mq_base.specs.Outside.{Rose}
use Rattle.mq_disk.specs.declared.cutter.Stop.{Stop}
use Rattle.mq_disk.specs.declared.cutter.Stop.TheVariants as stops
use Rattle.mq_calls.specs.State.{Queue as StateQueue, LogState as PlainLog}
use Rattle.mq_calls.specs.Words.{Ident, Row, Plain, Nonpersistent, keep, kept_in, need, record_size, freeze, logged, StopsAt, has_ident, selects}
use Rattle.mq_calls.specs.declared.state.Item.{Item}
use Rattle.mq_calls.specs.declared.records.LogRecord.{LogRecord}
use Rattle.mq_log.specs.State.{LogState, log_length, Appended}
use Rattle.mq_log.specs.Force.{Stops}
use Rattle.mq_log.proofs.Logs.{log_length-push}
use Rattle.mq_sides.specs.from_record.Records.{record_bytes}
use Rattle.mq_sides.specs.from_record.Room.{Buffered}
use Rattle.mq_place.specs.States.{QueueState, queues_of, state_in, on_queue, on_queues}
use Rattle.mq_core.specs.declared.parts.ChannelEnds.{ChannelEnds}
use Rattle.mq_core.specs.declared.parts.StoppedWrite.{StoppedWrite}
use Rattle.mq_core.specs.declared.parts.Mode.{Mode}
use Rattle.mq_core.specs.declared.parts.Mode.TheVariants as modes
use Rattle.mq_core.specs.Views.{PartsValue, plain_of, frozen_of, noted, length_of}
use Rattle.mq_core.specs.Ties.{TiedBut, TiedWith, TiedUp, mode_is_up, needs, state_lanes, pending_at, times_in_rows, times_in_queues, one_if}
use Rattle.mq_core.specs.Placing.{with_states}
use Rattle.mq_core.specs.Forced.{IsForced, downed}
use Rattle.mq_core.specs.Writes.{FitsRecord}

true_false : true ≡ false → ⊥
true_false e = absurd cc

-- while it is up, the log is as long as its bodies
pub length_up : (m : Mode) → mode_is_up m ≡ true → (long : ℕ) → length_of m long ≡ long
length_up modes.Up e long = refl
length_up (modes.Down write starts read) e long = absurd cc

-- queues changed one by one
pub queues_on : (f : StateQueue → StateQueue) (qs : List QueueState) → queues_of (on_queues f qs) ≡ map f (queues_of qs)
queues_on f [] = refl
queues_on f (s ∷ ss) = ap (λ (ks : List StateQueue). f s.queue ∷ ks) (queues_on f ss)

module _ {A : Type 0} (f : StateQueue → StateQueue) (named : (q : StateQueue) → (f q).name ≡ q.name) (g : Option QueueState → A) (same : (s : QueueState) → g (Some (on_queue f s)) ≡ g (Some s)) where
  pub seen_on : (name : List ℕ) (qs : List QueueState) → g (state_in name (on_queues f qs)) ≡ g (state_in name qs)
  seen_on name [] = refl
  seen_on name (s ∷ ss) = ap (λ (n : List ℕ). g (cond (bytes_eq name n) (Some (on_queue f s)) (state_in name (on_queues f ss)))) (named s.queue) ∙ by (bytes_eq name s.queue.name) (seen_on name ss)
    where
      by : (b : Bool) → g (state_in name (on_queues f ss)) ≡ g (state_in name ss) → g (cond b (Some (on_queue f s)) (state_in name (on_queues f ss))) ≡ g (cond b (Some s) (state_in name ss))
      by true rest = same s
      by false rest = rest

-- rows that are kept are no more often
pub times_keep : (i : Ident) (test : Row → Bool) (rows : List Row) → times_in_rows i (keep test rows) ≤ times_in_rows i rows
times_keep i test [] = omega arith
times_keep i test (row ∷ rows) = by (test row) (times_keep i test rows)
  where
    by : (b : Bool) → times_in_rows i (keep test rows) ≤ times_in_rows i rows → times_in_rows i (cond b (row ∷ keep test rows) (keep test rows)) ≤ one_if (has_ident i row) + times_in_rows i rows
    by true le = omega (arith, le)
    by false le = omega (arith, le)

pub times_on : (i : Ident) (f : StateQueue → StateQueue) → ((q : StateQueue) → times_in_rows i (f q).rows ≤ times_in_rows i q.rows) → (qs : List QueueState) → times_in_queues i (queues_of (on_queues f qs)) ≤ times_in_queues i (queues_of qs)
times_on i f le [] = omega arith
times_on i f le (s ∷ ss) = let one = le s.queue in let more = times_on i f le ss in omega (arith, one, more)

-- what is asked of ends, log, body and mode is asked while it is up, but for the longest record; the rest looks at none of them
pub tied_where : (waiting standing : List Item) (e : ChannelEnds) (l : LogState) (b : Buffered) (m : Mode) (x : PartsValue) → (mode_is_up m ≡ true → TiedUp (record x { mode = m; ends = e; log = l; body = b }))
    → (mode_is_up m ≡ true → l.reserved ≡ needs x.desk.live) → (mode_is_up m ≡ true → l.reserved ≤ l.max) → l.max < 2 ^ 32 → TiedWith waiting standing x → TiedWith waiting standing (record x { mode = m; ends = e; log = l; body = b })
tied_where waiting standing e l b m x up reserved within max t = record {
  up = up;
  reserved = reserved;
  within = within;
  queues = record { lanes = t.queues.lanes; pending = t.queues.pending };
  idents = record { once = t.idents.once; given = t.idents.given };
  forced = t.forced;
  max = max;
  moment = t.moment;
}

-- all queues changed alike, so that no ident is there more often: what tied the parts still does
pub tied_on : (f : StateQueue → StateQueue) → ((q : StateQueue) → (f q).name ≡ q.name) → ((i : Ident) (q : StateQueue) → times_in_rows i (f q).rows ≤ times_in_rows i q.rows) → (waiting standing : List Item) (x : PartsValue)
    → TiedWith waiting standing x → TiedWith waiting standing (with_states (on_queues f x.queues.states) x)
tied_on f named fewer waiting standing x t = record {
  up = λ u. let w = t.up u in record { live = w.live; settled = w.settled; ends = w.ends; room = w.room; body = w.body };
  reserved = t.reserved;
  within = t.within;
  queues = record {
    lanes = λ name. seen_on f named state_lanes (λ s. refl) name x.queues.states ∙ t.queues.lanes name;
    pending = λ name. seen_on f named pending_at (λ s. refl) name x.queues.states ∙ t.queues.pending name;
  };
  idents = record {
    once = λ i. let less = times_on i f (fewer i) x.queues.states in let old = t.idents.once i in omega (arith, less, old);
    given = λ i a b c. let less = times_on i f (fewer i) x.queues.states in let old = t.idents.given i a b c in omega (arith, less, old);
  };
  forced = t.forced;
  max = t.max;
  moment = t.moment;
}

-- the view of a manager that a stopped write took down
with_queues : Plain → List StateQueue → Plain
with_queues p qs = record p { queues = qs }

downed_log : StoppedWrite → PartsValue → LogState → PartsValue
downed_log write x log = downed write (record x { log = log })

freeze_long : StoppedWrite → PartsValue → ℕ → ℕ → Plain
freeze_long write x left long = freeze (noted (frozen_of x) (Some write)) left (record (plain_of x) { log = record { length = long; armed = x.log.armed } })

frozen : (write : StoppedWrite) (x : PartsValue) (log : LogState) (body : Buffered) (bytes : List ℕ) (stop : Stop) → mode_is_up x.mode ≡ true → Appended x.log bytes (Err stop) log
    → plain_of (downed write (record x { log = log; body = body })) ≡ freeze (noted (frozen_of x) (Some write)) log.armed (plain_of x)
unfolding with_queues downed_log freeze_long
frozen write x log body bytes stop up e =
    ap (λ (l : LogState). plain_of (downed_log write x (record l { armed = log.armed }))) e
    ∙ ap (with_queues (freeze_long write x log.armed (log_length x.log.bodies))) (queues_on (kept_in Nonpersistent) x.queues.states)
    ∙ ap (freeze_long write x log.armed) (sym (length_up x.mode up (log_length x.log.bodies)))

downed_by : StoppedWrite → PartsValue → Plain
downed_by write y = plain_of (downed write y)

pub frozen_view : (write : StoppedWrite) (r : LogRecord) (x y : PartsValue) (stop : Stop) → mode_is_up x.mode ≡ true → IsForced r x (Err stop) y → plain_of (downed write y) ≡ freeze (noted (frozen_of x) (Some write)) y.log.armed (plain_of x)
unfolding downed_by
frozen_view write r x y stop up f = ap (downed_by write) f.same ∙ frozen write x y.log y.body (record_bytes r) stop up f.log

-- and what ties its parts
pub tied_downed : (write : StoppedWrite) (r : LogRecord) (items : List Item) (x y : PartsValue) (stop : Stop) → IsForced r x (Err stop) y → TiedBut items x → TiedBut items (downed write y)
unfolding downed_by
tied_downed write r items x y stop f t = subst (λ (z : PartsValue). TiedBut items (downed write z)) (sym f.same) (record {
  up = λ u. absurd (true_false (sym u));
  reserved = λ u. absurd (true_false (sym u));
  within = λ u. absurd (true_false (sym u));
  queues = record {
    lanes = λ name. seen_on (kept_in Nonpersistent) (λ q. refl) state_lanes (λ s. refl) name x.queues.states ∙ t.queues.lanes name;
    pending = λ name. seen_on (kept_in Nonpersistent) (λ q. refl) pending_at (λ s. refl) name x.queues.states ∙ t.queues.pending name;
  };
  idents = record {
    once = λ i. let less = times i in let old = t.idents.once i in omega (arith, less, old);
    given = λ i a b c. let less = times i in let old = t.idents.given i a b c in omega (arith, less, old);
  };
  forced = t.forced;
  max = let b = ap (λ (l : LogState). l.max) f.log in omega (arith, b, t.max);
  moment = t.moment;
})
  where
    times : (i : Ident) → times_in_queues i (queues_of (on_queues (kept_in Nonpersistent) x.queues.states)) ≤ times_in_queues i (queues_of x.queues.states)
    times i = times_on i (kept_in Nonpersistent) (λ q. times_keep i (λ (row : Row). not (selects Nonpersistent q.name row)) q.rows) x.queues.states

-- the view of a record that is written
with_log : Plain → PlainLog → Plain
with_log p log = record p { log = log }

plain_with : PartsValue → LogState → Plain
plain_with x log = plain_of (record x { log = log })

pub forced_view : (r : LogRecord) (x y : PartsValue) → mode_is_up x.mode ≡ true → IsForced r x (Ok tt) y → plain_of y ≡ logged (Some r) (plain_of x)
unfolding with_log plain_with
forced_view r x y up f =
    ap plain_of f.same
    ∙ ap (λ (l : LogState). plain_with x (record l { armed = y.log.armed })) f.log
    ∙ ap (λ (n : ℕ). let l : PlainLog = record { length = n; armed = y.log.armed } in with_log (plain_of x) l) (length_up x.mode up (log_length (x.log.bodies ++ record_bytes r ∷ [])) ∙ log_length-push x.log.bodies (record_bytes r) ∙ ap (λ (n : ℕ). log_length x.log.bodies + (5 + n)) f.size ∙ ap (λ (n : ℕ). n + need r) (sym (length_up x.mode up (log_length x.log.bodies))))
    ∙ ap (λ (n : ℕ). let l : PlainLog = record { length = length_of x.mode (log_length x.log.bodies) + need r; armed = n } in with_log (plain_of x) l) f.ends.0

-- how a forced write ends
pub stops_at : (stop : Stop) (armed left : ℕ) → Stops armed (Err stop) left → StopsAt stop 4 armed 0 left
stops_at stops.Cut armed left h = (h.0, omega (arith, h.1), h.2)
stops_at stops.Disk armed left h = ((λ some. (some, h.1 some, omega (arith, h.0, some))), omega (arith, h.2), (λ none. omega (arith, h.0, none)))

-- The bytes of a record were forced; the parts stood so before its bytes were written.
pub forced_body : (r : LogRecord) (x : PartsValue) (log : LogState) (result : Result (Unit {0}) Stop) → x.body.bytes ≡ record_bytes r → FitsRecord r → length (record_bytes r) ≡ record_size r → Appended x.log x.body.bytes result log
    → Stops x.log.armed result log.armed → OnOk result (x.log.room ≤ log.room + (5 + length x.body.bytes)) → x.log.faults ≤ log.faults → (IsErrOf result stops.Disk → Rose x.log.faults log.faults) → IsForced r x result (record x { log = log })
forced_body r x log result is fits size appended ends room later disk = record {
  same = refl;
  log = subst (λ (b : List ℕ). Appended x.log b result log) is appended;
  fits = fits;
  size = size;
  ends = ends;
  room = let needs : 5 + length x.body.bytes ≡ need r = ap (λ (b : List ℕ). 5 + length b) is ∙ ap (λ (n : ℕ). 5 + n) size in subst (λ (n : ℕ). OnOk result (x.log.room ≤ log.room + n)) needs room;
  body = omega arith;
  later = later;
  disk = disk;
}

with_log_body : PartsValue → LogState → Buffered → PartsValue
with_log_body x log body = record x { log = log; body = body }

pub forced_from : (r : LogRecord) (x z y : PartsValue) (result : Result (Unit {0}) Stop) → z ≡ record x { body = z.body } → x.body.room + length x.body.bytes ≤ z.body.room + length z.body.bytes → IsForced r z result y → IsForced r x result y
unfolding with_log_body
forced_from r x z y result e body f =
    let log : z.log ≡ x.log = ap (λ (w : PartsValue). w.log) e in
    record {
      same = f.same ∙ ap (λ (w : PartsValue). with_log_body w y.log y.body) e;
      log = subst (λ (l : LogState). Appended l (record_bytes r) result y.log) log f.log;
      fits = f.fits;
      size = f.size;
      ends = subst (λ (l : LogState). Stops l.armed result y.log.armed) log f.ends;
      room = subst (λ (l : LogState). OnOk result (l.room ≤ y.log.room + need r)) log f.room;
      body = omega (arith, body, f.body);
      later = subst (λ (l : LogState). l.faults ≤ y.log.faults) log f.later;
      disk = λ d. subst (λ (l : LogState). Rose l.faults y.log.faults) log (f.disk d);
    }
