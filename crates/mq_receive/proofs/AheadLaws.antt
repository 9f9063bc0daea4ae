-- Where a message lands is told by the depths of the queues alone, and these by the messages of its batch that landed before it.
use Rattle.std.proofs.Common.{◌≡◌, length, inl, inr, ℕ, ◌+◌, Bool, true, false, cond, List, [], ◌∷◌, ◌++◌, refl, ap, arith, sym, subst, ◌∙◌}
use Rattle.std.specs.Prelude.{Option, Some, None, Result, Ok, Err, not, ◌&&◌, if◌then◌else◌, nat_le, count_by}
use Rattle.std.specs.Str.{bytes_eq}
use Rattle.mq_queue.specs.Rows.{insert_row, keep, is_free}
use Rattle.mq_message.specs.declared.place.Holder.TheVariants as holders
use Rattle.mq_calls.specs.State.{Queue}
use Rattle.mq_calls.specs.Words.{Holder, Ident, LocalQueue, Message, Test, when, refusal, channel_of, PathStep, Reason, Route, Row, Plain, set_queue, Among, depth, stored, queue_in, is_persistent, puts_to, selects, kept_in, placed_in, place, lane_of, new_row, local_of, made_due, depth_type, condition, try_if, apply, apply_all}
use Rattle.mq_calls.specs.declared.agents.PlaceFault.{PlaceFault}
use Rattle.mq_calls.specs.State.Change.{Leave}
use Rattle.std.proofs.lemmas.List.Sums.{sum_by-cons, sum_by_push}
use Rattle.mq_codes.specs.declared.reason.Reason.TheVariants as reasons
use Rattle.mq_resolve.specs.Resolved.{resolve}
use Rattle.mq_resolve.specs.declared.route.RouteEnd.TheVariants as ends
use Rattle.mq_spec_manager.specs.Words.{placed, inhibited_tests, is_unfit, length_tests, max_depth, output_only, queue_at}
use Rattle.mq_spec_manager.specs.Agents.{Landing, dead_or, land, land_resolved, land_tested, dead_letter, can_take_dead, route_tests, names_of, uses_dead, Standing, Absent, InDoubtAt, Present, drop_row, undoubted, drop_changes, land_changes}
use Rattle.mq_law_manager.specs.Facts.{Mem, Sound}
use Rattle.mq_law_manager.proofs.Lists.{bool_case, any_mem, one_row}
use Rattle.mq_law_manager.proofs.Named.{name_is, found_name, queue_set, queue_mapped}
use Rattle.mq_law_manager.proofs.Units.{behind}
use Rattle.mq_law_manager.proofs.Receiving.{IsStanding}
use Rattle.mq_core.specs.declared.parts.Arrival.{Arrival}
use Rattle.mq_core.specs.Writes.{landing_of, standing_of}
use Rattle.mq_calls.specs.declared.agents.PlaceFault.TheVariants as place_faults
use Rattle.mq_resolve.specs.declared.route.RouteEnd.{RouteEnd}
use Rattle.mq_moves.specs.Landed.{route_by, tests_at}
use Rattle.mq_receive.specs.Arriving.{Lands}
use Rattle.mq_receive.specs.Ahead.{IsBeside, IsAhead, times_on, depth_ahead, can_take_at, may_be_dead, dead_at, tested_at, resolved_at, land_at, is_on}

-- free rows, where a row is put in and where held rows go
counted : (r : Row) (rows : List Row) → count_by is_free (r ∷ rows) ≡ cond (is_free r) 1 0 + count_by is_free rows
counted r rows = sum_by-cons (λ (x : Row). cond (is_free x) 1 0) r rows

plus_none : (n : ℕ) → n ≡ n + 0
plus_none n = omega arith

in_front : (x : Row) (rows : List Row) → is_free x ≡ true → count_by is_free (x ∷ rows) ≡ count_by is_free rows + 1
in_front x rows e = let c = counted x rows in let one : cond (is_free x) 1 0 ≡ 1 = ap {B = ℕ} (λ (b : Bool). cond b 1 0) e in omega (arith, c, one)

held_front : (x : Row) (rows : List Row) → is_free x ≡ false → count_by is_free rows ≡ count_by is_free (x ∷ rows)
held_front x rows e = let c = counted x rows in let none : cond (is_free x) 1 0 ≡ 0 = ap {B = ℕ} (λ (b : Bool). cond b 1 0) e in omega (arith, c, none)

one_behind : (r : Row) (rows : List Row) → cond (is_free r) 1 0 + (count_by is_free rows + 1) ≡ count_by is_free (r ∷ rows) + 1
one_behind r rows = let c = counted r rows in omega (arith, c)

free_inserted : (x : Row) (rows : List Row) → is_free x ≡ true → count_by is_free (insert_row x rows) ≡ count_by is_free rows + 1
free_inserted x [] e = in_front x [] e
free_inserted x (r ∷ rows) e = bool_case (nat_le r.place.lane x.place.lane)
    (λ b. count_by is_free (if b then r ∷ insert_row x rows else x ∷ r ∷ rows) ≡ count_by is_free (r ∷ rows) + 1)
    (λ w. counted r (insert_row x rows) ∙ ap (λ (n : ℕ). cond (is_free r) 1 0 + n) (free_inserted x rows e) ∙ one_behind r rows) (λ w. in_front x (r ∷ rows) e)

free_kept : (f : Row → Bool) (rows : List Row) → ((x : Row) → Mem x rows → f x ≡ false → is_free x ≡ false) → count_by is_free (keep f rows) ≡ count_by is_free rows
free_kept f [] h = refl
free_kept f (r ∷ rows) h = bool_case (f r) (λ b. f r ≡ b → count_by is_free (if b then r ∷ keep f rows else keep f rows) ≡ count_by is_free (r ∷ rows))
    (λ w e. counted r (keep f rows) ∙ ap (λ (n : ℕ). cond (is_free r) 1 0 + n) (free_kept f rows (λ x m. h x (inr m))) ∙ sym (counted r rows))
    (λ w e. free_kept f rows (λ x m. h x (inr m)) ∙ held_front r rows (h r (inl refl) e)) refl

-- the depth of a queue after each change of a landing
depth_by : List ℕ → Plain → Queue → ℕ
depth_by name p q = count_by is_free q.rows + puts_to name p.connections

both_true : (a b : Bool) → not (a && b) ≡ false → (a ≡ true) × (b ≡ true)
both_true true true e = (refl, refl)
both_true true false e = absurd cc
both_true false b e = absurd cc

only_one : (a b : Ident) → Mem a (b ∷ []) → a ≡ b
only_one a b (inl e) = e
only_one a b (inr m) = absurd m

depth_left : (from name : List ℕ) (i : Ident) (p : Plain) → ((x : Row) → Mem x (stored from p).rows → x.message.ident ≡ i → is_free x ≡ false) → depth name (apply (Leave (Among from (i ∷ []))) p) ≡ depth name p
unfolding depth_by
depth_left from name i p held =
    let q : Queue = stored name p in
    ap (depth_by name p) (queue_mapped (kept_in (Among from (i ∷ []))) name p.queues (λ q. refl) refl)
    ∙ ap (λ (n : ℕ). n + puts_to name p.connections) (free_kept (λ (row : Row). not (selects (Among from (i ∷ [])) q.name row)) q.rows (λ x m e.
    let is = both_true (bytes_eq q.name from) _ e in
    let here : name ≡ from = sym (found_name name p.queues) ∙ name_is q.name from is.0 in
    held x (subst (λ (k : List ℕ). Mem x (stored k p).rows) here m) (only_one x.message.ident i (any_mem x.message.ident (i ∷ []) is.1))))

depth_set : (name : List ℕ) (new : Queue) (queue : List ℕ) (n : ℕ) (p : Plain) → new.name ≡ queue → (bytes_eq name queue ≡ true → count_by is_free new.rows ≡ count_by is_free (stored name p).rows + n)
    → count_by is_free (queue_in name (set_queue new p.queues)).rows ≡ count_by is_free (stored name p).rows + cond (bytes_eq name queue) n 0
depth_set name new queue n p named more =
    ap (λ (q : Queue). count_by is_free q.rows) (queue_set name new p.queues ∙ ap (λ (k : List ℕ). if bytes_eq name k then new else queue_in name p.queues) named)
    ∙ bool_case (bytes_eq name queue) (λ b. bytes_eq name queue ≡ b → count_by is_free (if b then new else queue_in name p.queues).rows ≡ count_by is_free (stored name p).rows + cond b n 0)
    (λ w e. more e) (λ w e. plus_none (count_by is_free (queue_in name p.queues).rows)) refl

depth_placed : (name queue : List ℕ) (m : Message) (p : Plain) → depth name (place queue m p) ≡ depth name p + cond (bytes_eq name queue) 1 0
depth_placed name queue m p =
    let row : Row = new_row (lane_of (local_of queue p.definitions) m.md.priority) ((stored queue p).arrivals + 1) m in
    let new : Queue = placed_in (lane_of (local_of queue p.definitions) m.md.priority) m (stored queue p) in
    let count = depth_set name new queue 1 p (found_name queue p.queues) (λ e.
    free_inserted row (stored queue p).rows refl ∙ ap (λ (k : List ℕ). count_by is_free (stored k p).rows + 1) (sym (name_is name queue e))) in
    omega (arith, count)

depth_tried : (b : Bool) (name queue : List ℕ) (p : Plain) → depth name (try_if b queue p) ≡ depth name p
depth_tried false name queue p = refl
depth_tried true name queue p =
    let new : Queue = made_due (depth_type (local_of queue p.definitions)) p.moment (stored queue p) in
    let count = depth_set name new queue 0 p (found_name queue p.queues) (λ e.
    ap (λ (k : List ℕ). count_by is_free (stored k p).rows) (sym (name_is name queue e)) ∙ plus_none (count_by is_free (stored name p).rows)) in
    let none = same_both (bytes_eq name queue) 0 in
    omega (arith, count, none)
  where
    same_both : (b : Bool) (n : ℕ) → cond b n n ≡ n
    same_both true n = refl
    same_both false n = refl

-- a batch changes rows, and lists of units in doubt
unfoldable pub with_both : Plain → Plain → Plain
with_both q x = record x { queues = q.queues; channels = q.channels }

beside_then : (x p q : Plain) → IsBeside x p → IsBeside p q → IsBeside x q
unfolding with_both
beside_then x p q e f = f ∙ ap (with_both q) e

beside_tried : (b : Bool) (queue : List ℕ) (p : Plain) → IsBeside p (try_if b queue p)
beside_tried true queue p = refl
beside_tried false queue p = refl

pub beside_placed : (queue : List ℕ) (m : Message) (p : Plain) → IsBeside p (apply_all (placed queue m) p)
beside_placed queue m p =
    let q : Plain = place queue m p in
    let b : Bool = condition (local_of queue q.definitions) m.md.priority q in
    beside_then p q (try_if b queue q) refl (beside_tried b queue q)

beside_forgot : (b : Bool) (i : Ident) (p : Plain) → IsBeside p (apply_all (undoubted b i) p)
beside_forgot true i p = refl
beside_forgot false i p = refl

beside_row : (s : Standing) (i : Ident) (p : Plain) → IsBeside p (apply_all (drop_row i s) p)
beside_row Absent i p = refl
beside_row (InDoubtAt queue) i p = refl
beside_row Present i p = refl

pub dropped_as : (m : Message) (s : Standing) (queue : List ℕ) (p : Plain) → apply_all (drop_changes m s ++ placed queue m) p ≡ apply_all (placed queue m) (apply_all (undoubted (is_persistent m) m.ident) (apply_all (drop_row m.ident s) p))
dropped_as m s queue p = behind (drop_changes m s) (placed queue m) p ∙ ap (λ (q : Plain). apply_all (placed queue m) q) (behind (drop_row m.ident s) (undoubted (is_persistent m) m.ident) p)

pub beside_landed : (m : Message) (s : Standing) (queue : List ℕ) (p : Plain) → IsBeside p (apply_all (drop_changes m s ++ placed queue m) p)
beside_landed m s queue p =
    let a : Plain = apply_all (drop_row m.ident s) p in
    let b : Plain = apply_all (undoubted (is_persistent m) m.ident) a in
    let d : Plain = apply_all (placed queue m) b in
    subst (IsBeside p) (sym (dropped_as m s queue p)) (beside_then p b d (beside_then p a b (beside_row s m.ident p) (beside_forgot (is_persistent m) m.ident a)) (beside_placed queue m b))

depth_row : (s : Standing) (i : Ident) (name : List ℕ) (p : Plain) → Sound p → IsStanding s i p → depth name (apply_all (drop_row i s) p) ≡ depth name p
depth_row Absent i name p h st = refl
depth_row Present i name p h st = refl
depth_row (InDoubtAt queue) i name p h st = depth_left queue name i p (λ x m e. held x (ap (λ (r : Row). r.by) (one_row (stored queue p).rows x st.row (h.apart.once queue) m st.there (e ∙ sym st.is)) ∙ st.by))
  where
    held : (x : Row) → x.by ≡ Some (holders.Batch st.channel) → is_free x ≡ false
    held x e = ap (λ (o : Option Holder). elim o as (λ h. Bool) [ None ↦ true | Some h ↦ false ]) e

depth_forgot : (b : Bool) (i : Ident) (name : List ℕ) (p : Plain) → depth name (apply_all (undoubted b i) p) ≡ depth name p
depth_forgot true i name p = refl
depth_forgot false i name p = refl

depth_landed : (m : Message) (s : Standing) (queue name : List ℕ) (p : Plain) → Sound p → IsStanding s m.ident p → depth name (apply_all (drop_changes m s ++ placed queue m) p) ≡ depth name p + cond (bytes_eq name queue) 1 0
depth_landed m s queue name p h st =
    let a : Plain = apply_all (drop_row m.ident s) p in
    let b : Plain = apply_all (undoubted (is_persistent m) m.ident) a in
    let q : Plain = place queue m b in
    let first = depth_row s m.ident name p h st in
    let second = depth_forgot (is_persistent m) m.ident name a in
    let third = depth_placed name queue m b in
    let fourth = depth_tried (condition (local_of queue q.definitions) m.md.priority q) name queue q in
    ap (depth name) (dropped_as m s queue p) ∙ fourth ∙ third ∙ ap (λ (n : ℕ). n + cond (bytes_eq name queue) 1 0) (second ∙ first)

-- one message more
times_more : (name : List ℕ) (landed : List Arrival) (a : Arrival) → times_on name (landed ++ a ∷ []) ≡ times_on name landed + cond (bytes_eq name a.queue) 1 0
times_more name landed a = sum_by_push (λ (x : Arrival). cond (is_on name x) 1 0) landed a

pub ahead_first : (x : Plain) → IsAhead [] x x
ahead_first x = record { beside = refl; depths = λ name. plus_none (depth name x) }

pub ahead_more : (landed : List Arrival) (a : Arrival) (x p : Plain) → IsAhead landed x p → Sound p → IsStanding (standing_of a.dropped) a.message.ident p
    → IsAhead (landed ++ a ∷ []) x (apply_all (land_changes (landing_of a) (standing_of a.dropped)) p)
ahead_more landed a x p h sound st = record {
  beside = beside_then x p (apply_all (land_changes (landing_of a) (standing_of a.dropped)) p) h.beside (beside_landed a.message (standing_of a.dropped) a.queue p);
  depths = λ name.
      let before = h.depths name in
      let here = depth_landed a.message (standing_of a.dropped) a.queue name p sound st in
      let times = times_more name landed a in
      omega (arith, before, here, times);
}

-- what is told of a landing by the state alone is the same beside
unfit_same : (end : RouteEnd) (q x : Plain) → is_unfit output_only end (with_both q x) ≡ is_unfit output_only end x
unfolding with_both
unfit_same (ends.Local queue) q x = refl
unfit_same (ends.Via xq rq rqm) q x = refl

tests_with : Bool → Route → ℕ → Plain → ℕ → List (Test Reason)
tests_with b route bytes p depth =
    when b reasons.OptionNotValidForType
    ∷ inhibited_tests route.path p ++ length_tests (queue_at route.end) bytes p ++ when (nat_le (max_depth (local_of (queue_at route.end) p.definitions)) depth) reasons.QueueFull
    ∷ []

tests_same : (route : Route) (bytes : ℕ) (q x : Plain) (n : ℕ) → tests_at route bytes (with_both q x) n ≡ tests_at route bytes x n
unfolding with_both tests_with
tests_same route bytes q x n = ap (λ (b : Bool). tests_with b route bytes x n) (unfit_same route.end q x)

take_same : (o : Option LocalQueue) (bytes : ℕ) (q x : Plain) (d : List ℕ → ℕ) → can_take_at o bytes (with_both q x) d ≡ can_take_at o bytes x d
unfolding with_both
take_same None bytes q x d = refl
take_same (Some l) bytes q x d = refl

or_same : (b : Bool) (channel : List ℕ) (reason : Reason) (m : Message) (q x : Plain) → dead_or b channel reason m (with_both q x) ≡ dead_or b channel reason m x
unfolding with_both
or_same true channel reason m q x = refl
or_same false channel reason m q x = refl

dead_by : Bool → Bool → List ℕ → Reason → Message → Plain → Result Landing Reason
dead_by a b channel reason m p = dead_or (a && b) channel reason m p

dead_same : (channel : List ℕ) (reason : Reason) (m : Message) (q x : Plain) (d : List ℕ → ℕ) → dead_at channel reason m (with_both q x) d ≡ dead_at channel reason m x d
unfolding with_both dead_by
dead_same channel reason m q x d =
    ap (λ (b : Bool). dead_by (uses_dead (channel_of channel x.definitions)) b channel reason m (with_both q x)) (take_same (local_of x.definitions.manager.dead_letter_queue x.definitions) (length m.body) q x d)
    ∙ or_same (may_be_dead channel (length m.body) x d) channel reason m q x

tested_same : (o : Option Reason) (route : Route) (channel : List ℕ) (m : Message) (q x : Plain) (d : List ℕ → ℕ) → tested_at o route channel m (with_both q x) d ≡ tested_at o route channel m x d
tested_same None route channel m q x d = refl
tested_same (Some reason) route channel m q x d = dead_same channel reason m q x d

resolved_same : (r : Result Route Reason) (channel : List ℕ) (m : Message) (q x : Plain) (d : List ℕ → ℕ) → resolved_at r channel m (with_both q x) d ≡ resolved_at r channel m x d
resolved_same (Err reason) channel m q x d = dead_same channel reason m q x d
resolved_same (Ok route) channel m q x d =
    ap (λ (ts : List (Test Reason)). tested_at (refusal ts) route channel m (with_both q x) d) (tests_same route (length m.body) q x (d (queue_at route.end)))
    ∙ tested_same (refusal (tests_at route (length m.body) x (d (queue_at route.end)))) route channel m q x d

beside_same : (channel : List ℕ) (m : Message) (q x : Plain) (d : List ℕ → ℕ) → land_at channel m (with_both q x) d ≡ land_at channel m x d
unfolding with_both
beside_same channel m q x d = resolved_same (resolve x.definitions x.given.name (names_of m.route).queue (names_of m.route).qmgr) channel m q x d

-- a landing, by the depths that there are
take_as : (o : Option LocalQueue) (bytes : ℕ) (p : Plain) → can_take_dead o bytes p ≡ can_take_at o bytes p (λ name. depth name p)
take_as None bytes p = refl
take_as (Some l) bytes p = refl

dead_as : (channel : List ℕ) (reason : Reason) (m : Message) (p : Plain) → dead_letter channel reason m p ≡ dead_at channel reason m p (λ name. depth name p)
unfolding dead_by
dead_as channel reason m p = ap (λ (b : Bool). dead_by (uses_dead (channel_of channel p.definitions)) b channel reason m p) (take_as (local_of p.definitions.manager.dead_letter_queue p.definitions) (length m.body) p)

tested_as : (o : Option Reason) (route : Route) (channel : List ℕ) (m : Message) (p : Plain) → land_tested o route channel m p ≡ tested_at o route channel m p (λ name. depth name p)
tested_as None route channel m p = refl
tested_as (Some reason) route channel m p = dead_as channel reason m p

resolved_as : (r : Result Route Reason) (channel : List ℕ) (m : Message) (p : Plain) → land_resolved r channel m p ≡ resolved_at r channel m p (λ name. depth name p)
resolved_as (Err reason) channel m p = dead_as channel reason m p
resolved_as (Ok route) channel m p = tested_as (refusal (route_tests route (length m.body) p)) route channel m p

-- where a message lands, with those before it
pub land_ahead : (landed : List Arrival) (x p : Plain) (channel : List ℕ) (m : Message) → IsAhead landed x p → land channel m p ≡ land_at channel m x (depth_ahead landed x)
unfolding with_both
land_ahead landed x p channel m h =
    resolved_as (resolve p.definitions p.given.name (names_of m.route).queue (names_of m.route).qmgr) channel m p
    ∙ ap (λ (q : Plain). land_at channel m q (λ name. depth name p)) h.beside ∙ beside_same channel m p x (λ name. depth name p) ∙ (λ i. land_at channel m x (λ name. h.depths name i))

-- a message that may not be a dead letter, and one that may
pub lands_refused : (b : Bool) (channel : List ℕ) (reason : Reason) (m : Message) (p : Plain) (dropped : Option (List ℕ)) → b ≡ false → Lands (dead_or b channel reason m p) dropped (Err (place_faults.Refused reason))
lands_refused true channel reason m p dropped e = absurd cc
lands_refused false channel reason m p dropped e = refl

pub lands_dead : (b : Bool) (channel : List ℕ) (reason : Reason) (m : Message) (p : Plain) (dropped : Option (List ℕ)) (result : Result Arrival PlaceFault) → b ≡ true → Lands (dead_or true channel reason m p) dropped result → Lands (dead_or b channel reason m p) dropped result
lands_dead true channel reason m p dropped result e h = h
lands_dead false channel reason m p dropped result e h = absurd cc

-- a route that is found
unfoldable pub found_route : RouteEnd → List PathStep → Result Route Reason
found_route end path = Ok (route_by end path)
