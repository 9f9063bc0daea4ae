-- The end of a unit: what ties the parts on the way.
use Rattle.std.proofs.Common.{◌≡◌, ℕ, ◌+◌, ◌-◌, ◌<◌, ◌≤◌, ◌^◌, Bool, true, false, cond, List, [], ◌∷◌, length, refl, ap, arith, sym, subst, ◌∙◌}
use Rattle.std.specs.Prelude.{Option, Some, None, Ok, IsSome, count_by, filter, not, ◌==◌}
use Rattle.std.specs.List.{AllByRecursion}
use Rattle.std.specs.Str.{bytes_eq}
use Rattle.std.proofs.lemmas.List.Sums.{sum_by-cons}
use Rattle.std.proofs.lemmas.List.Recursion.{is_count_by}
use Rattle.std.proofs.lemmas.Bool.Decides.{nat_tests}
use Rattle.mq_calls.specs.Words.{Ident, Message, Row, Among, retag, kept_in, released_in, release_if, selects, need, puts_to, unit_need, connection_at, change_connection, logged, has_ident}
use Rattle.mq_calls.specs.declared.state.Connection.{Connection}
use Rattle.mq_calls.specs.declared.state.Item.{Item}
use Rattle.mq_calls.specs.declared.records.LogRecord.{LogRecord}
use Rattle.mq_core.specs.Counting.{CanCount}
use Rattle.mq_calls.specs.Reads.{is_put_to}
use Rattle.mq_calls.specs.declared.state.Item.TheVariants.{Put, Take}
use Rattle.mq_log.specs.State.{LogState}
use Rattle.mq_spec_manager.specs.Units.{adds_of, removes_of, record_of}
use Rattle.mq_core.specs.from_unit.Forced.{need_of}
use Rattle.mq_core.proofs.from_unit.UnitLaws.{unit_needs}
use Rattle.mq_core.specs.from_handles.Rising.{AreRising, connection_number}
use Rattle.mq_core.specs.from_handles.Seats.{emptied}
use Rattle.mq_core.specs.from_place.States.{QueueState, state_in, unpended}
use Rattle.mq_core.specs.Views.{PartsValue, plain_of}
use Rattle.mq_core.specs.Ties.{TiedBut, Tied, EndsReady, mode_is_up, SameUnits, AreCounted, waits, one_if, pending_at, state_lanes, times_in_rows, times_in_queues}
use Rattle.mq_core.specs.Placing.{put_in_place, put_each, take_each, removed_from, arrived_at, due_if}
use Rattle.mq_core.specs.Forced.{IsForced}
use Rattle.mq_core.specs.Values.{bodies_in}
use Rattle.mq_core.proofs.PlaceLaws.{waits_less, same_name, ready, tied_placed, tied_take, counts_placed, seen_kept, pending_changed}
use Rattle.mq_core.proofs.ForceLaws.{seen_on, times_on, times_keep, tied_on, forced_view}
use Rattle.mq_core.proofs.PutLaws.{queues_same, counts_low}
use Rattle.mq_core.proofs.PendLaws.{unit_le, sum_changed, times_units_changed, forced_changed}
use Rattle.mq_core.proofs.SeatLaws.{tied_desk}
use Rattle.mq_ends.specs.Ends.{IfForced, HasRoom, ended_unit, AreReady, left_if, settled, unpended_at, freed_at, backed_each, backed}

-- a record was forced, or none was
pub record Wrote (n : ℕ) (x y : PartsValue) : Type 0 where
  pub same : y ≡ record x { log = y.log; body = y.body }
  pub live : y.log.live ≡ x.log.live
  pub settled : y.log.pending ≡ x.log.pending
  pub spare : y.log.spare ≡ x.log.spare
  pub reserved : y.log.reserved ≡ x.log.reserved
  pub max : y.log.max ≡ x.log.max
  pub room : x.log.room ≤ y.log.room + n
  pub body : x.body.room + length x.body.bytes ≤ y.body.room + length y.body.bytes

wrote_forced : (r : LogRecord) (x y : PartsValue) → IsForced r x (Ok tt) y → Wrote (need r) x y
wrote_forced r x y f =
    let wrote = f.log in
    record {
      same = f.same;
      live = ap (λ (l : LogState). l.live) wrote;
      settled = ap (λ (l : LogState). l.pending) wrote;
      spare = ap (λ (l : LogState). l.spare) wrote;
      reserved = ap (λ (l : LogState). l.reserved) wrote;
      max = ap (λ (l : LogState). l.max) wrote;
      room = f.room;
      body = f.body;
    }

pub wrote_none : (x y : PartsValue) → y ≡ x → Wrote 0 x y
wrote_none x y e = subst (Wrote 0 x) (sym e) (record { same = refl; live = refl; settled = refl; spare = refl; reserved = refl; max = refl; room = omega arith; body = omega arith })

pub wrote_if : (o : Option LogRecord) (x y : PartsValue) → IfForced o x (Ok tt) y → Wrote (need_of o) x y
wrote_if None x y h = wrote_none x y h.1
wrote_if (Some r) x y f = wrote_forced r x y f

pub wrote_view : (o : Option LogRecord) (x y : PartsValue) → mode_is_up x.mode ≡ true → IfForced o x (Ok tt) y → plain_of y ≡ logged o (plain_of x)
wrote_view None x y up h = ap plain_of h.1
wrote_view (Some r) x y up f = forced_view r x y up f

-- puts of the items, counted either way
waits_step : (name : List ℕ) (item : Item) (items : List Item) → waits name (item ∷ items) ≡ cond (is_put_to name item) (1 + waits name items) (waits name items)
waits_step name (Put queue m) items = by (bytes_eq name queue)
  where
    by : (b : Bool) → one_if b + waits name items ≡ cond b (1 + waits name items) (waits name items)
    by true = refl
    by false = omega arith
waits_step name (Take queue ident persistent) items = refl

waits_count : (name : List ℕ) (items : List Item) → waits name items ≡ count_by (is_put_to name) items
waits_count name items = is_count_by (waits name) (is_put_to name) refl (waits_step name) items

-- a unit that has just ended is on the way
pub tied_ended : (number n : ℕ) (c : Connection) (x y : PartsValue) → n ≤ unit_need c.unit → connection_at number x.desk.live ≡ Some c → Wrote n x y → Tied x → TiedBut c.unit (ended_unit number c y)
tied_ended number n c x y most found w t =
    let sums = sum_changed unit_need number emptied x.desk.live c found in
    subst (λ (z : PartsValue). TiedBut c.unit (ended_unit number c z)) (sym w.same) (record {
      up = λ u. let old = t.up u in record { live = w.live ∙ old.live; settled = w.settled ∙ old.settled; ends = subst (EndsReady x.ends) (sym w.spare) old.ends; room = let a = old.room in omega (arith, a, w.reserved, w.room, most); body = let a = old.body in omega (arith, a, w.reserved, w.body) };
      reserved = λ u. let r = t.reserved u in omega (arith, r, sums, w.reserved);
      within = λ u. let most = t.within u in omega (arith, most, w.reserved, w.max);
      queues = record {
        lanes = t.queues.lanes;
        pending = λ name.
            let old = t.queues.pending name in
            let puts = sum_changed (count_by (is_put_to name)) number emptied x.desk.live c found in
            let counted = waits_count name c.unit in
            omega (arith, old, puts, counted);
      };
      idents = record {
        once = λ i. let units = times_units_changed i number emptied x.desk.live c found in let old = t.idents.once i in omega (arith, units, old);
        given = λ i a b d. let units = times_units_changed i number emptied x.desk.live c found in let old = t.idents.given i a b d in omega (arith, units, old);
      };
      forced = forced_changed number emptied x.desk.live c found (λ f. tt) t.forced;
      max = omega (arith, w.max, t.max);
      moment = t.moment;
    })

-- rows that go leave all tied
tied_removed : (queue : List ℕ) (ident : Ident) (items : List Item) (x : PartsValue) → TiedBut items x → TiedBut items (removed_from queue ident x)
tied_removed queue ident items x t =
    tied_on (kept_in (Among queue (ident ∷ []))) (λ q. refl) (λ i q. times_keep i (λ (row : Row). not (selects (Among queue (ident ∷ [])) q.name row)) q.rows) items items x t

pub tied_taken : (taken items : List Item) (x : PartsValue) → TiedBut items x → TiedBut items (take_each taken x)
tied_taken [] items x t = t
tied_taken (Put queue m ∷ taken) items x t = tied_taken taken items x t
tied_taken (Take queue ident persistent ∷ taken) items x t = tied_taken taken items (removed_from queue ident x) (tied_removed queue ident items x t)

-- arrivals and triggers may be counted as before
arrivals_at : Option QueueState → ℕ
arrivals_at None = 0
arrivals_at (Some s) = s.queue.arrivals + s.pending

due_at : Option QueueState → ℕ
due_at None = 0
due_at (Some s) = s.queue.due + s.pending

low_at : (most : ℕ) (name : List ℕ) (x : PartsValue) → AreCounted most x → (arrivals_at (state_in name x.queues.states) ≤ most) × (due_at (state_in name x.queues.states) ≤ most)
unfolding arrivals_at due_at
low_at most name x h = by (state_in name x.queues.states) refl
  where
    by : (o : Option QueueState) → state_in name x.queues.states ≡ o → (arrivals_at o ≤ most) × (due_at o ≤ most)
    by None is = (omega arith, omega arith)
    by (Some s) is = let c = h name s is in (c.arrivals, c.due)

counts_removed : (most : ℕ) (queue : List ℕ) (ident : Ident) (x : PartsValue) → AreCounted most x → AreCounted most (removed_from queue ident x)
unfolding arrivals_at due_at
counts_removed most queue ident x h name s is =
    let f = kept_in (Among queue (ident ∷ [])) in
    let low = low_at most name x h in
    let arrivals : s.queue.arrivals + s.pending ≡ arrivals_at (state_in name x.queues.states) = ap arrivals_at (sym is) ∙ seen_on f (λ q. refl) arrivals_at (λ s. refl) name x.queues.states in
    let due : s.queue.due + s.pending ≡ due_at (state_in name x.queues.states) = ap due_at (sym is) ∙ seen_on f (λ q. refl) due_at (λ s. refl) name x.queues.states in
    record { arrivals = omega (arith, arrivals, low.0); due = omega (arith, due, low.1) }

pub counts_taken : (most : ℕ) (taken : List Item) (x : PartsValue) → AreCounted most x → AreCounted most (take_each taken x)
counts_taken most [] x h = h
counts_taken most (Put queue m ∷ taken) x h = counts_taken most taken x h
counts_taken most (Take queue ident persistent ∷ taken) x h = counts_taken most taken (removed_from queue ident x) (counts_removed most queue ident x h)

pub counts_ended : (most number n : ℕ) (c : Connection) (x y : PartsValue) → Wrote n x y → AreCounted most x → AreCounted most (ended_unit number c y)
counts_ended most number n c x y w h = subst (λ (z : PartsValue). AreCounted most (ended_unit number c z)) (sym w.same) h

-- the puts are ready, and placed they are tied
pub ready_each : (most : ℕ) (items : List Item) (x : PartsValue) → most + 1 < 2 ^ 64 → AreCounted most x → TiedBut items x → AreReady items x
ready_each most [] x small counts t = tt
ready_each most (Put queue m ∷ items) x small counts t =
    let r = ready most queue m items x small counts t in
    (r, ready_each most items (put_in_place queue m x) small (counts_placed most queue m x r counts) (tied_placed queue m items x r t))
ready_each most (Take queue ident persistent ∷ items) x small counts t = ready_each most items x small counts (tied_take queue ident persistent items x t)

pub tied_each : (items : List Item) (x : PartsValue) → AreReady items x → TiedBut items x → Tied (put_each items x)
tied_each [] x r t = t
tied_each (Put queue m ∷ items) x r t = tied_each items (put_in_place queue m x) r.1 (tied_placed queue m items x r.0 t)
tied_each (Take queue ident persistent ∷ items) x r t = tied_each items x r (tied_take queue ident persistent items x t)

-- only the queues have changed
due_rest : (b : Bool) (queue : List ℕ) (x : PartsValue) → due_if b queue x ≡ record x { queues = (due_if b queue x).queues }
due_rest true queue x = refl
due_rest false queue x = refl

with_queues_of : PartsValue → PartsValue → PartsValue
with_queues_of q x = record x { queues = q.queues }

pub put_rest : (items : List Item) (x : PartsValue) → put_each items x ≡ record x { queues = (put_each items x).queues }
unfolding with_queues_of
put_rest [] x = refl
put_rest (Put queue m ∷ items) x = put_rest items (put_in_place queue m x) ∙ ap (with_queues_of (put_each items (put_in_place queue m x))) (due_rest _ queue (arrived_at queue m x))
put_rest (Take queue ident persistent ∷ items) x = put_rest items x

pub take_rest : (items : List Item) (x : PartsValue) → take_each items x ≡ record x { queues = (take_each items x).queues }
take_rest [] x = refl
take_rest (Put queue m ∷ items) x = take_rest items x
take_rest (Take queue ident persistent ∷ items) x = take_rest items (removed_from queue ident x)

-- a connection less, whose unit is empty
gone : ℕ → List Connection → List Connection
gone number cs = filter (λ (c : Connection). not (c.number == number)) cs

same_cons : (d : Connection) (old new : List Connection) → SameUnits old new → SameUnits (d ∷ old) (d ∷ new)
same_cons d old new s = record {
  need = let a = s.need in let o = sum_by-cons (λ (c : Connection). unit_need c.unit) d old in let n = sum_by-cons (λ (c : Connection). unit_need c.unit) d new in omega (arith, a, o, n);
  puts = λ name. let a = s.puts name in let o = sum_by-cons (λ (c : Connection). count_by (is_put_to name) c.unit) d old in let n = sum_by-cons (λ (c : Connection). count_by (is_put_to name) c.unit) d new in omega (arith, a, o, n);
  times = λ i. let a = s.times i in omega (arith, a);
  forced = λ h. (h.0, s.forced h.1);
}

same_less : (d : Connection) (ds : List Connection) → SameUnits (emptied d ∷ ds) ds
same_less d ds = record {
  need = let o = sum_by-cons (λ (c : Connection). unit_need c.unit) (emptied d) ds in omega (arith, o);
  puts = λ name. let o = sum_by-cons (λ (c : Connection). count_by (is_put_to name) c.unit) (emptied d) ds in omega (arith, o);
  times = λ i. omega arith;
  forced = λ h. h.1;
}

none_goes : (number : ℕ) (d : ℕ) (cs : List Connection) → (d == number) ≡ true → AllByRecursion (λ (c : Connection). d < connection_number c) cs → gone number cs ≡ cs
unfolding gone
none_goes number d [] e h = refl
none_goes number d (c ∷ cs) e h = by (c.number == number) refl (none_goes number d cs e h.1)
  where
    by : (b : Bool) → (c.number == number) ≡ b → gone number cs ≡ cs → cond (not b) (c ∷ gone number cs) (gone number cs) ≡ c ∷ cs
    by true is rest = let above : d < c.number = h.0 in absurd (grind (arith, nat_tests, e, is, above))
    by false is rest = ap (λ (k : List Connection). c ∷ k) rest

same_gone : (number : ℕ) (cs : List Connection) → AreRising connection_number cs → IsSome (connection_at number cs) → SameUnits (change_connection number emptied cs) (gone number (change_connection number emptied cs))
unfolding gone
same_gone number [] rising there = absurd cc
same_gone number (d ∷ ds) rising there = by (d.number == number) refl there (same_gone number ds rising.1)
  where
    by : (b : Bool) → (d.number == number) ≡ b → IsSome (cond b (Some d) (connection_at number ds)) → (IsSome (connection_at number ds) → SameUnits (change_connection number emptied ds) (gone number (change_connection number emptied ds)))
        → SameUnits (cond b (emptied d ∷ ds) (d ∷ change_connection number emptied ds)) (gone number (cond b (emptied d ∷ ds) (d ∷ change_connection number emptied ds)))
    by true e there rest =
        subst (λ (k : Bool). SameUnits (emptied d ∷ ds) (cond (not k) (emptied d ∷ gone number ds) (gone number ds))) (sym e)
        (subst (SameUnits (emptied d ∷ ds)) (sym (none_goes number d.number ds e rising.0)) (same_less d ds))
    by false e there rest =
        subst (λ (k : Bool). SameUnits (d ∷ change_connection number emptied ds) (cond (not k) (d ∷ gone number (change_connection number emptied ds)) (gone number (change_connection number emptied ds)))) (sym e)
        (same_cons d _ _ (rest there))

pub tied_left : (ends : Bool) (number : ℕ) (cs : List Connection) (x : PartsValue) → AreRising connection_number cs → IsSome (connection_at number cs) → x.desk.live ≡ change_connection number emptied cs → Tied x → Tied (left_if ends number x)
unfolding gone
tied_left false number cs x rising there is t = t
tied_left true number cs x rising there is t = tied_desk x _ (subst (λ (k : List Connection). SameUnits k (gone number k)) (sym is) (same_gone number cs rising there)) t

-- a backout: a put waits no longer
waiting_there : (n : ℕ) (o : Option QueueState) → pending_at o ≡ n + 1 → (s : QueueState) × (o ≡ Some s)
waiting_there n None e = absurd (omega (arith, e))
waiting_there n (Some s) e = (s, refl)

tied_unpended : (queue : List ℕ) (m : Message) (items : List Item) (x : PartsValue) → TiedBut (Put queue m ∷ items) x → TiedBut items (unpended_at queue x)
tied_unpended queue m items x t =
    let here : one_if (bytes_eq queue queue) ≡ 1 = ap one_if (same_name queue) in
    let waiting = t.queues.pending queue in
    let s = waiting_there (puts_to queue x.desk.live + waits queue items) (state_in queue x.queues.states) (omega (arith, waiting, here)) in
    let same = queues_same queue unpended (λ s. refl) x.queues.states in
    record {
      up = λ u. let w = t.up u in record { live = w.live; settled = w.settled; ends = w.ends; room = w.room; body = w.body };
      reserved = t.reserved;
      within = t.within;
      queues = record {
        lanes = λ name. seen_kept queue unpended (λ s. refl) state_lanes (λ s. refl) name x.queues.states s.0 s.1 ∙ t.queues.lanes name;
        pending = λ name. pending_changed queue unpended (λ s. refl) (λ n. n - 1) (λ s. refl) name x.queues.states s.0 s.1 ∙ waits_less (bytes_eq name queue) (puts_to name x.desk.live) (waits name items) _ (t.queues.pending name);
      };
      idents = record {
        once = λ i. let times = ap (times_in_queues i) same in let old = t.idents.once i in omega (arith, times, old);
        given = λ i a b c. let times = ap (times_in_queues i) same in let old = t.idents.given i a b c in omega (arith, times, old);
      };
      forced = t.forced;
      max = t.max;
      moment = t.moment;
    }

-- a row that is free again has its ident
release_ident : (i : Ident) (b : Bool) (row : Row) → has_ident i (release_if b true row) ≡ has_ident i row
release_ident i true row = refl
release_ident i false row = refl

times_retag : (i : Ident) (f : Row → Row) → ((row : Row) → has_ident i (f row) ≡ has_ident i row) → (rows : List Row) → times_in_rows i (retag f rows) ≤ times_in_rows i rows
times_retag i f same [] = omega arith
times_retag i f same (row ∷ rows) = let one = ap one_if (same row) in let more = times_retag i f same rows in omega (arith, one, more)

tied_freed : (queue : List ℕ) (ident : Ident) (items : List Item) (x : PartsValue) → TiedBut items x → TiedBut items (freed_at queue ident x)
tied_freed queue ident items x t =
    let f = released_in (Among queue (ident ∷ [])) true in
    let times = λ (i : Ident). times_on i f (λ q. times_retag i _ (λ row. release_ident i _ row) q.rows) x.queues.states in
    record {
      up = λ u. let w = t.up u in record { live = w.live; settled = w.settled; ends = w.ends; room = w.room; body = w.body };
      reserved = t.reserved;
      within = t.within;
      queues = record {
        lanes = λ name. seen_on f (λ q. refl) state_lanes (λ s. refl) name x.queues.states ∙ t.queues.lanes name;
        pending = λ name. seen_on f (λ q. refl) pending_at (λ s. refl) name x.queues.states ∙ t.queues.pending name;
      };
      idents = record {
        once = λ i. let less = times i in let old = t.idents.once i in omega (arith, less, old);
        given = λ i a b c. let less = times i in let old = t.idents.given i a b c in omega (arith, less, old);
      };
      forced = t.forced;
      max = t.max;
      moment = t.moment;
    }

pub tied_backed : (items : List Item) (x : PartsValue) → TiedBut items x → Tied (backed_each items x)
tied_backed [] x t = t
tied_backed (Put queue m ∷ items) x t = tied_backed items (unpended_at queue x) (tied_unpended queue m items x t)
tied_backed (Take queue ident persistent ∷ items) x t = tied_backed items (freed_at queue ident x) (tied_freed queue ident items (x) (tied_take queue ident persistent items x t))

-- what is told of the log stays
pub backed_faults : (items : List Item) (x : PartsValue) → (backed_each items x).log ≡ x.log
backed_faults [] x = refl
backed_faults (Put queue m ∷ items) x = backed_faults items (unpended_at queue x)
backed_faults (Take queue ident persistent ∷ items) x = backed_faults items (freed_at queue ident x)

left_log : (ends : Bool) (number : ℕ) (x : PartsValue) → (left_if ends number x).log ≡ x.log
left_log true number x = refl
left_log false number x = refl

pub settled_faults : (number : ℕ) (ends : Bool) (c : Connection) (x : PartsValue) → (settled number ends c x).log.faults ≡ x.log.faults
settled_faults number ends c x =
    let e = ended_unit number c x in
    ap (λ (l : LogState). l.faults) (left_log ends number (put_each c.unit (take_each c.unit e)))
    ∙ ap (λ (z : PartsValue). z.log.faults) (put_rest c.unit (take_each c.unit e)) ∙ ap (λ (z : PartsValue). z.log.faults) (take_rest c.unit e)

pub settled_bodies : (number : ℕ) (ends : Bool) (c : Connection) (x : PartsValue) → bodies_in (settled number ends c x).log ≡ bodies_in x.log
settled_bodies number ends c x =
    let e = ended_unit number c x in
    ap bodies_in (left_log ends number (put_each c.unit (take_each c.unit e)))
    ∙ ap (λ (z : PartsValue). bodies_in z.log) (put_rest c.unit (take_each c.unit e)) ∙ ap (λ (z : PartsValue). bodies_in z.log) (take_rest c.unit e)

-- the connection ends too
pub left_true : (ends : Bool) (number : ℕ) (x : PartsValue) → ends ≡ true → record x { desk = record { live = filter (λ (c : Connection). not (c.number == number)) x.desk.live; last = x.desk.last } } ≡ left_if ends number x
left_true true number x e = refl
left_true false number x e = absurd cc

-- a commit whose record was forced, or that has none
module _ (number : ℕ) (c : Connection) (x y : PartsValue) (found : connection_at number x.desk.live ≡ Some c) (f : IfForced (record_of (adds_of c.unit) (removes_of c.unit)) x (Ok tt) y) (t : Tied x) where
  most : need_of (record_of (adds_of c.unit) (removes_of c.unit)) ≤ unit_need c.unit
  most = let same = unit_needs c.unit in omega (arith, same)

  pub found_then : connection_at number y.desk.live ≡ Some c
  found_then = ap (λ (z : PartsValue). connection_at number z.desk.live) (wrote_if (record_of (adds_of c.unit) (removes_of c.unit)) x y f).same ∙ found

  on_way : TiedBut c.unit (take_each c.unit (ended_unit number c y))
  on_way = tied_taken c.unit c.unit (ended_unit number c y) (tied_ended number _ c x y most found (wrote_if (record_of (adds_of c.unit) (removes_of c.unit)) x y f) t)

  pub commit_ready : CanCount (plain_of x) → AreReady c.unit (take_each c.unit (ended_unit number c y))
  commit_ready low = ready_each (2 ^ 63) c.unit _ (omega arith) (counts_taken (2 ^ 63) c.unit (ended_unit number c y) (counts_ended (2 ^ 63) number _ c x y (wrote_if (record_of (adds_of c.unit) (removes_of c.unit)) x y f) (counts_low x t low))) on_way

  pub commit_tied : (ends : Bool) → AreRising connection_number y.desk.live → CanCount (plain_of x) → Tied (settled number ends c y)
  commit_tied ends rising low =
      let e = ended_unit number c y in
      tied_left ends number y.desk.live (put_each c.unit (take_each c.unit e)) rising (subst IsSome (sym found_then) refl)
      (ap (λ (z : PartsValue). z.desk.live) (put_rest c.unit (take_each c.unit e)) ∙ ap (λ (z : PartsValue). z.desk.live) (take_rest c.unit e))
      (tied_each c.unit (take_each c.unit e) (commit_ready low) on_way)

  pub commit_room : mode_is_up x.mode ≡ true → HasRoom c y
  commit_room up =
      let w = wrote_if (record_of (adds_of c.unit) (removes_of c.unit)) x y f in
      let le = unit_le number x.desk.live c found in
      let taken = (t.up up).body in
      let r = t.reserved up in
      record { log = omega (arith, le, r, w.reserved); body = omega (arith, le, r, taken, w.body) }

  pub commit_mode : y.mode ≡ x.mode
  commit_mode = ap (λ (z : PartsValue). z.mode) (wrote_if (record_of (adds_of c.unit) (removes_of c.unit)) x y f).same

-- a backout
pub back_room : (number : ℕ) (c : Connection) (x : PartsValue) → connection_at number x.desk.live ≡ Some c → Tied x → mode_is_up x.mode ≡ true → HasRoom c x
back_room number c x found t up = let le = unit_le number x.desk.live c found in let taken = (t.up up).body in let r = t.reserved up in record { log = omega (arith, le, r); body = omega (arith, le, r, taken) }

pub back_tied : (number : ℕ) (c : Connection) (x : PartsValue) → connection_at number x.desk.live ≡ Some c → Tied x → Tied (backed number c x)
back_tied number c x found t = tied_backed c.unit (ended_unit number c x) (tied_ended number 0 c x x (omega arith) found (wrote_none x x refl) t)
