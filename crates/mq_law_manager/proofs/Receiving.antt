-- What a receiver's end commits keeps what holds of a manager's rows.
use Rattle.std.proofs.Common.{ℕ, ◌≡◌, ◌≢◌, Bool, true, false, List, [], ◌∷◌, ◌++◌, refl, ap, sym, subst, ◌∙◌, length, arith, inl, inr}
use Rattle.std.specs.Prelude.{Option, Some, None, Result, Ok, Err, is_some, cond, ◌==◌, if◌then◌else◌, not, ◌&&◌, ◌||◌, filter, find, nat_lt, nat_le, ◌+◌, ℤ}
use Rattle.std.specs.List.{list_any}
use Rattle.std.specs.Str.{bytes_eq}
use Rattle.std.proofs.lemmas.Bool.Decides.{nat_tests}
use Rattle.mq_codes.specs.declared.reason.Reason.{Reason}
use Rattle.mq_codes.specs.declared.reason.Reason.TheVariants as reasons
use Rattle.mq_message.specs.declared.message.Ident.{Ident}
use Rattle.mq_message.specs.declared.message.Message.{Message}
use Rattle.mq_message.specs.declared.place.Holder.{Holder}
use Rattle.mq_message.specs.declared.place.Holder.TheVariants as holders
use Rattle.mq_queue.specs.declared.row.Row.{Row}
use Rattle.mq_queue.specs.Rows.{same_ident, has_ident}
use Rattle.mq_objects.specs.declared.object.LocalQueue.{LocalQueue}
use Rattle.mq_objects.specs.Names.{local_of, channel_of, process_of, is_transmission}
use Rattle.mq_calls.specs.Recovery.{routes}
use Rattle.mq_calls.specs.from_resolve.{Route}
use Rattle.mq_calls.specs.from_resolve.Resolved.{resolve}
use Rattle.mq_sync.specs.declared.unit.Unit.{Unit as Luw}
use Rattle.mq_sync.specs.declared.data.InDoubt.{InDoubt}
use Rattle.mq_sync.specs.declared.data.ReceiverData.{ReceiverData}
use Rattle.mq_calls.specs.declared.records.Add.{Add}
use Rattle.mq_calls.specs.declared.records.LogRecord.{LogRecord}
use Rattle.mq_calls.specs.State.{Plain, Change, LogState, Queue}
use Rattle.mq_calls.specs.declared.state.Connection.{Connection}
use Rattle.mq_calls.specs.declared.state.Item.{Item}
use Rattle.mq_calls.specs.declared.state.Batch.{Batch}
use Rattle.mq_calls.specs.declared.state.Item.TheVariants.{Put, Take}
use Rattle.mq_calls.specs.State.Which.{Among}
use Rattle.mq_calls.specs.State.Change.{Try, Leave, SetReceiver, Undoubt, SetBound}
use Rattle.mq_calls.specs.Reads.{stored, queue_in, connection_at, receiver_data, is_persistent, is_full, depth, has_priority}
use Rattle.mq_calls.specs.Condition.{condition, by_type, is_served}
use Rattle.mq_objects.specs.declared.object.TriggerType.{TriggerType}
use Rattle.mq_objects.specs.declared.object.TriggerType.TheVariants as triggers
use Rattle.mq_calls.specs.Changes.{apply, apply_all, try_if, less_ident}
use Rattle.mq_calls.specs.Sizes.{need}
use Rattle.mq_calls.specs.Steps.{Test, when, refusal, logged, written}
use Rattle.mq_calls.specs.Steps.Step.{Do}
use Rattle.mq_spec_manager.specs.Put.{placed, queue_at, max_depth, full_tests, placing_tests, inhibited_tests, length_tests, output_only}
use Rattle.mq_spec_manager.specs.Handles.{is_unfit}
use Rattle.mq_sync.specs.Settlement.{receiver_or}
use Rattle.mq_spec_manager.specs.Agents.{RowAt, row_found, row_of, doubts, is_doubted_by, Standing, Absent, InDoubtAt, Present, same_flag, standing_by, has_put, is_pending, is_unborn, standing_at, is_present, undoubted, drop_changes, Landing, route_tests, can_take_dead, dead_or, dead_letter, uses_dead, landing, land, land_resolved, land_tested, names_of, Landed, before, landed_by, landed_unless, landed, land_changes, received_record, received_part, receive, receive_landed}
use Rattle.mq_law_manager.specs.View.{View, view, puts_in, items_of}
use Rattle.mq_law_manager.specs.Facts.{Mem, ident_of, IsOf, Sound, Holds, AreNamed, IsFit}
use Rattle.mq_law_manager.specs.Seen.{goes_if}
use Rattle.mq_law_manager.specs.Kept.{Keeps}
use Rattle.mq_law_manager.proofs.Lists.{bool_case, ident_yes, same_self, one_row}
use Rattle.mq_law_manager.proofs.Apart.{IsNew}
use Rattle.mq_law_manager.proofs.Named as named
use Rattle.mq_law_manager.proofs.Named.{name_turned}
use Rattle.mq_law_manager.proofs.QueueNames.{all_named}
use Rattle.mq_law_manager.proofs.Resolving.{route_fits}
use Rattle.mq_law_manager.proofs.SeenLaws.{applied}
use Rattle.mq_law_manager.proofs.Steps.{goes, among_other}
use Rattle.mq_law_manager.proofs.Units.{sound_placed, behind, tested_keeps}
use Rattle.mq_law_manager.proofs.Handling.{find_mem, left_new}

-- A row is looked for by its ident

find_none : (i : Ident) (rows : List Row) (h : Row) → find (has_ident i) rows ≡ None → Mem h rows → h.message.ident ≢ i
find_none i [] h e m = absurd m
find_none i (x ∷ xs) h e m = bool_case (has_ident i x) (λ b. has_ident i x ≡ b → cond b (Some x) (find (has_ident i) xs) ≡ None → h.message.ident ≢ i)
    (λ z w f. absurd cc) (λ z w f. at w (λ k. find_none i xs h f k) m) refl e
  where
    at : has_ident i x ≡ false → (Mem h xs → h.message.ident ≢ i) → Mem h (x ∷ xs) → h.message.ident ≢ i
    at w f (inl k) = λ y. cc (w, ap (λ (r : Row). same_ident r.message.ident i) k, ap (λ (j : Ident). same_ident j i) y, same_self i)
    at w f (inr k) = f k

row_absent : (i : Ident) (qs : List Queue) → row_of i qs ≡ None → (d : List ℕ) (h : Row) → Mem h (queue_in d qs).rows → i ≢ h.message.ident
row_absent i [] e d h m = absurd m
row_absent i (q ∷ qs) e d h m = at (λ f n. row_absent i qs f d h n) (find (has_ident i) q.rows) refl e
  where
    at : (row_of i qs ≡ None → Mem h (queue_in d qs).rows → i ≢ h.message.ident) → (o : Option Row) → find (has_ident i) q.rows ≡ o → row_found o q.name (row_of i qs) ≡ None → i ≢ h.message.ident
    at rest (Some r) w f = absurd cc
    at rest None w f = bool_case (bytes_eq d q.name) (λ b. Mem h (if b then q else queue_in d qs).rows → i ≢ h.message.ident)
        (λ z n y. find_none i q.rows h w n (sym y)) (λ z n. rest f n) m

abbrev found_at : RowAt → Option RowAt → RowAt
found_at d None = d
found_at d (Some at) = at

-- a row that is found is of a queue that is there
row_named : (i : Ident) (qs : List Queue) (at : RowAt) → row_of i qs ≡ Some at → (q : Queue) × Mem q qs × (q.name ≡ at.queue)
row_named i [] at e = absurd cc
row_named i (q ∷ qs) at e = by (λ f. row_named i qs at f) (find (has_ident i) q.rows) e
  where
    by : (row_of i qs ≡ Some at → (x : Queue) × Mem x qs × (x.name ≡ at.queue)) → (o : Option Row) → row_found o q.name (row_of i qs) ≡ Some at → (x : Queue) × Mem x (q ∷ qs) × (x.name ≡ at.queue)
    by rest (Some r) f = (q, inl refl, ap (λ (o : Option RowAt). (found_at at o).queue) f)
    by rest None f = let k = rest f in (k.0, inr k.1, k.2)

pub row_there : (i : Ident) (qs : List Queue) (at : RowAt) → AreNamed qs → row_of i qs ≡ Some at → Mem at.row (queue_in at.queue qs).rows × (at.row.message.ident ≡ i)
row_there i [] at n e = absurd cc
row_there i (q ∷ qs) at n e = by (λ f. row_there i qs at n.1 f) (find (has_ident i) q.rows) refl e
  where
    by : (row_of i qs ≡ Some at → Mem at.row (queue_in at.queue qs).rows × (at.row.message.ident ≡ i)) → (o : Option Row) → find (has_ident i) q.rows ≡ o → row_found o q.name (row_of i qs) ≡ Some at → Mem at.row (queue_in at.queue (q ∷ qs)).rows × (at.row.message.ident ≡ i)
    by rest (Some r) w f =
        let k = find_mem i q.rows r w in
        let here : q.name ≡ at.queue = ap (λ (o : Option RowAt). (found_at at o).queue) f in
        let row : r ≡ at.row = ap (λ (o : Option RowAt). (found_at at o).row) f in (
          subst (λ (x : Row). Mem x (queue_in at.queue (q ∷ qs)).rows) row (subst (λ (b : Bool). Mem r (if b then q else queue_in at.queue qs).rows) (sym (named.name_yes at.queue q.name (sym here))) k.0),
          sym (ap ident_of row) ∙ k.1,
        )
    by rest None w f =
        let k = rest f in
        let x = row_named i qs at f in
        (subst (λ (b : Bool). Mem at.row (if b then q else queue_in at.queue qs).rows) (sym (name_turned at.queue q.name ∙ ap (bytes_eq q.name) (sym x.2) ∙ n.0 x.0 x.1)) k.0, k.1)

-- Uncommitted puts are looked for

pub or_none : (a b : Bool) → (a || b) ≡ false → (a ≡ false) × (b ≡ false)
or_none false false e = (refl, refl)
or_none false true e = absurd cc
or_none true b e = absurd cc

put_absent : (i : Ident) (items : List Item) (a : Add) → list_any (has_put i) items ≡ false → Mem a (puts_in items) → i ≢ a.message.ident
put_absent i [] a e m = absurd m
put_absent i (Put queue message ∷ items) a e (inl m) = λ y. cc ((or_none (same_ident i message.ident) (list_any (has_put i) items) e).0, same_self i, ap (same_ident i) (y ∙ ap (λ (x : Add). x.message.ident) m))
put_absent i (Put queue message ∷ items) a e (inr m) = put_absent i items a (or_none (same_ident i message.ident) (list_any (has_put i) items) e).1 m
put_absent i (Take queue ident persistent ∷ items) a e m = put_absent i items a e m

pending_absent : (i : Ident) (n : ℕ) (cs : List Connection) (a : Add) → list_any (λ (c : Connection). list_any (has_put i) c.unit) cs ≡ false → Mem a (puts_in (items_of (connection_at n cs))) → i ≢ a.message.ident
pending_absent i n [] a e = λ m. absurd m
pending_absent i n (c ∷ cs) a e = let z = or_none (list_any (has_put i) c.unit) (list_any (λ (c : Connection). list_any (has_put i) c.unit) cs) e in
    bool_case (c.number == n) (λ b. Mem a (puts_in (items_of (if b then Some c else connection_at n cs))) → i ≢ a.message.ident) (λ w m. put_absent i c.unit a z.0 m) (λ w m. pending_absent i n cs a z.1 m)

-- What a standing says

pub record IsDoubted (q : List ℕ) (i : Ident) (p : Plain) : Type 0 where
  pub row : Row
  pub there : Mem row ((view p).rows q)
  pub is : row.message.ident ≡ i
  pub channel : List ℕ
  pub by : row.by ≡ Some (holders.Batch channel)
  pub doubted : doubts i ((view p).doubt channel) ≡ true

abbrev pub IsStanding : Standing → Ident → Plain → Type 0
IsStanding Absent i p = IsNew i (view p).rows (view p).puts (view p).unborn
IsStanding (InDoubtAt q) i p = IsDoubted q i p
IsStanding Present i p = Unit {0}

left_of : (a b : Bool) → (a && b) ≡ true → a ≡ true
left_of true b e = refl
left_of false b e = absurd cc

doubted_by : (i : Ident) (p : Plain) (d : List ℕ) (r : Row) (b : Option Holder) → r.by ≡ b → Mem r ((view p).rows d) → r.message.ident ≡ i → is_doubted_by i b p ≡ true → IsDoubted d i p
doubted_by i p d r None e m is w = absurd cc
doubted_by i p d r (Some (holders.Unit n)) e m is w = absurd cc
doubted_by i p d r (Some (holders.Batch c)) e m is w = record { row = r; there = m; is = is; channel = c; by = e; doubted = w }

pub standing_is : (m : Message) (p : Plain) → AreNamed p.queues → IsStanding (standing_at m p) m.ident p
standing_is m p names = at (row_of m.ident p.queues) refl
  where
    at : (o : Option RowAt) → row_of m.ident p.queues ≡ o → IsStanding (standing_by m o p) m.ident p
    at (Some z) e =
        let k = row_there m.ident p.queues z names e in
        let same : Bool = same_flag (is_persistent m) (is_persistent z.row.message) in
        bool_case (is_doubted_by m.ident z.row.by p && same) (λ b. (is_doubted_by m.ident z.row.by p && same) ≡ b → IsStanding (if b then InDoubtAt z.queue else Present) m.ident p)
        (λ y w. doubted_by m.ident p z.queue z.row z.row.by refl k.0 k.1 (left_of (is_doubted_by m.ident z.row.by p) same w)) (λ y w. tt) refl
    at None e = bool_case (is_pending m.ident p || is_unborn m.ident p) (λ b. (is_pending m.ident p || is_unborn m.ident p) ≡ b → IsStanding (if b then Present else Absent) m.ident p) (λ z w. tt)
        (λ z w. let n = or_none (is_pending m.ident p) (is_unborn m.ident p) w in record {
          given = n.1;
          no_row = λ q h k. row_absent m.ident p.queues e q h k;
          no_put = λ n a k. pending_absent m.ident n p.connections a (or_none (is_pending m.ident p) (is_unborn m.ident p) w).0 k;
        }) refl

-- A message that came back to a row of a unit in doubt: the row goes, and the unit may forget it

doubted_alone : (q : List ℕ) (i : Ident) (p : Plain) → Sound p → (s : IsDoubted q i p) → (d : List ℕ) (x : Row) → Mem x ((view p).rows d) → x.message.ident ≡ i → x.by ≡ Some (holders.Batch s.channel)
doubted_alone q i p h s d x m e =
    let same : x.message.ident ≡ s.row.message.ident = e ∙ sym s.is in
    let queue : d ≡ q = h.apart.alone d q x s.row m s.there same in
    ap (λ (r : Row). r.by) (one_row ((view p).rows q) x s.row (h.apart.once q) (subst (λ (n : List ℕ). Mem x ((view p).rows n)) queue m) s.there same) ∙ s.by

abbrev the_channel : Option Holder → List ℕ
the_channel None = []
the_channel (Some (holders.Unit n)) = []
the_channel (Some (holders.Batch c)) = c

no_batch_of : (c : List ℕ) (i : Ident) (p : Plain) → Sound p → doubts i ((view p).doubt c) ≡ true → (b : Batch) → (view p).batch c ≡ Some b → ⊥
no_batch_of c i p h e b is = cc (ap (doubts i) (h.batched.one c b is), e)

doubt_left : (q : List ℕ) (i : Ident) (p : Plain) → Sound p → IsDoubted q i p → Sound (apply (Leave (Among q (i ∷ []))) p)
doubt_left q i p h s = subst Holds (sym (applied (Leave (Among q (i ∷ []))) p tt)) (goes (view p) (goes_if (Among q (i ∷ []))) h
    (λ d x n m by. ap not (among_other q i d x (λ e. cc (by, doubted_alone q i p h s d x m e))))
    (λ d x k b m by is. ap not (among_other q i d x (λ e.
    let same : k ≡ s.channel = ap the_channel (sym by ∙ doubted_alone q i p h s d x m e) in
    no_batch_of s.channel i p h s.doubted b (ap (view p).batch (sym same) ∙ is)))))

less_of : (q : List ℕ) (i j : Ident) (b : Option Batch) (o : Option InDoubt) → j ≢ i → IsOf q j b o → IsOf q j b (less_ident i o)
less_of q i j (Some b) o ne s = s
less_of q i j None None ne s = s
less_of q i j None (Some d) ne s = left d.idents s
  where
    left : (is : List Ident) → Mem j is → Mem j (filter (λ other. not (same_ident i other)) is)
    left [] m = absurd m
    left (x ∷ xs) m = bool_case (same_ident i x) (λ b. same_ident i x ≡ b → Mem j (cond (not b) (x ∷ filter (λ other. not (same_ident i other)) xs) (filter (λ other. not (same_ident i other)) xs)))
        (λ z w. elim m [ inl e ↦ absurd (ne (e ∙ sym (ident_yes i x w))) | inr k ↦ left xs k ])
        (λ z w. elim m [ inl e ↦ inl e | inr k ↦ inr (left xs k) ]) refl

less_none : (i : Ident) (o : Option InDoubt) → o ≡ None → less_ident i o ≡ None
less_none i None e = refl
less_none i (Some d) e = absurd cc

-- no unit in doubt has an ident any more that stands in no row
sound_undoubted : (i : Ident) (p : Plain) → Sound p → ((q : List ℕ) (x : Row) → Mem x ((view p).rows q) → i ≢ x.message.ident) → Sound (apply (Undoubt i) p)
sound_undoubted i p h gone =
    let v : View = view p in
    subst Holds (sym (applied (Undoubt i) p tt)) (record {
      apart = h.apart;
      taken = h.taken;
      batched = record {
        of = λ q x k m e. less_of q i x.message.ident (v.batch k) (v.doubt k) (λ z. gone q x m (sym z)) (h.batched.of q x k m e);
        full = h.batched.full;
        one = λ k b e. less_none i (v.doubt k) (h.batched.one k b e);
      };
      ordered = h.ordered;
    })

-- a message is placed that is new: it is off all lists, where it lasts
new_lands : (b : Bool) (q : List ℕ) (m : Message) (p : Plain) → Sound p → IsNew m.ident (view p).rows (view p).puts (view p).unborn → Sound (apply_all (undoubted b m.ident ++ placed q m) p)
new_lands true q m p h new = sound_placed q m (apply (Undoubt m.ident) p) (sound_undoubted m.ident p h new.no_row) new
new_lands false q m p h new = sound_placed q m p h new

-- a message lands where it stands nowhere, or after its row was dropped
pub land_sound : (q : List ℕ) (m : Message) (s : Standing) (p : Plain) → Sound p → IsStanding s m.ident p → is_present s ≡ false → Sound (apply_all (drop_changes m s ++ placed q m) p)
land_sound q m Absent p h s e = new_lands (is_persistent m) q m p h s
land_sound q m Present p h s e = absurd cc
land_sound q m (InDoubtAt from) p h s e = new_lands (is_persistent m) q m (apply (Leave (Among from (m.ident ∷ []))) p) (doubt_left from m.ident p h s)
    (subst (λ (i : Ident). IsNew i (view (apply (Leave (Among from (i ∷ []))) p)).rows (view p).puts (view p).unborn) s.is (left_new p from s.row h s.there))

-- Where a message lands, the queue is defined

pub refusal_behind : (xs ys : List (Test Reason)) → refusal (xs ++ ys) ≡ None → refusal ys ≡ None
refusal_behind [] ys e = e
refusal_behind (x ∷ xs) ys e = bool_case x.applies (λ b. (if b then Some x.reason else refusal (xs ++ ys)) ≡ None → refusal ys ≡ None) (λ z f. absurd cc) (λ z f. refusal_behind xs ys f) e

-- a test that comes first does not apply
pub first_passes : (b : Bool) (reason : Reason) (ts : List (Test Reason)) → refusal (when b reason ∷ ts) ≡ None → b ≡ false
first_passes true reason ts e = absurd cc
first_passes false reason ts e = refl

pub has_depth : (o : Option LocalQueue) (n : ℕ) → refusal (when (nat_le (max_depth o) n) reasons.QueueFull ∷ []) ≡ None → is_some o ≡ true
has_depth (Some l) n e = refl
has_depth None n e = absurd (cc (ap (λ (b : Bool). if b then Some reasons.QueueFull else None) (zero_le n), e))
  where
    zero_le : (n : ℕ) → nat_le 0 n ≡ true
    zero_le n = grind (arith, nat_tests)

pub placing_defined : (route : Route) (bytes : ℕ) (p : Plain) → refusal (placing_tests route bytes p) ≡ None → is_some (local_of (queue_at route.end) p.definitions) ≡ true
placing_defined route bytes p e = has_depth (local_of (queue_at route.end) p.definitions) (depth (queue_at route.end) p)
    (refusal_behind (inhibited_tests route.path p ++ length_tests (queue_at route.end) bytes p) (full_tests (queue_at route.end) p) e)

-- what a landing is: of that message's ident and persistence, on a queue that is defined and that it fits
abbrev pub IsLanding : Message → Plain → Result Landing Reason → Type 0
IsLanding m p (Err reason) = Unit {0}
IsLanding m p (Ok l) = (l.message.ident ≡ m.ident) × IsFit (local_of l.queue p.definitions) l.message × (is_persistent l.message ≡ is_persistent m)

dead_defined : (o : Option LocalQueue) (bytes : ℕ) (p : Plain) → can_take_dead o bytes p ≡ true → (is_some o ≡ true) × (routes o ≡ false)
dead_defined None bytes p e = absurd cc
dead_defined (Some l) bytes p e = (
  refl,
  bool_case (is_transmission l.usage)
      (λ t. (not t && l.put_enabled && nat_lt (depth l.name p) l.max_depth && nat_le (bytes + 172) l.max_message_length && nat_le (bytes + 172) p.definitions.manager.max_message_length) ≡ true → t ≡ false)
      (λ z w. absurd cc) (λ z w. refl) e,
)

right_of : (a b : Bool) → (a && b) ≡ true → b ≡ true
right_of true b e = e
right_of false b e = absurd cc

dead_is : (channel : List ℕ) (reason : Reason) (m : Message) (p : Plain) → IsLanding m p (dead_letter channel reason m p)
dead_is channel reason m p =
    let o : Option LocalQueue = local_of p.definitions.manager.dead_letter_queue p.definitions in
    let uses : Bool = uses_dead (channel_of channel p.definitions) in
    let takes : Bool = can_take_dead o (length m.body) p in
    bool_case (uses && takes) (λ b. (uses && takes) ≡ b → IsLanding m p (dead_or b channel reason m p)) (λ z w. let k = dead_defined o (length m.body) p (right_of uses takes w) in (refl, (k.0, sym k.1), refl)) (λ z w. tt) refl

pub land_is : (channel : List ℕ) (m : Message) (p : Plain) → IsLanding m p (land channel m p)
land_is channel m p = at (resolve p.definitions p.given.name (names_of m.route).queue (names_of m.route).qmgr) refl
  where
    tests : (route : Route) (o : Option Reason) → resolve p.definitions p.given.name (names_of m.route).queue (names_of m.route).qmgr ≡ Ok route → refusal (route_tests route (length m.body) p) ≡ o → IsLanding m p (land_tested o route channel m p)
    tests route None is e = (refl, route_fits output_only route p (names_of m.route).queue (names_of m.route).qmgr is (first_passes (is_unfit output_only route.end p) reasons.OptionNotValidForType (placing_tests route (length m.body) p) e) refl (landing route m).message refl, refl)
    tests route (Some reason) is e = dead_is channel reason m p

    at : (r : Result Route Reason) → resolve p.definitions p.given.name (names_of m.route).queue (names_of m.route).qmgr ≡ r → IsLanding m p (land_resolved r channel m p)
    at (Err reason) is = dead_is channel reason m p
    at (Ok route) is = tests route (refusal (route_tests route (length m.body) p)) is refl

-- The batch, message by message

abbrev pub EachLanded : Plain → Result Landed Reason → Type 0
EachLanded p (Err reason) = Unit {0}
EachLanded p (Ok l) = Sound (apply_all l.changes p)

before_keeps : (m : Message) (l : Landing) (s : Standing) (p : Plain) (rest : Result Landed Reason) → EachLanded (apply_all (land_changes l s) p) rest → EachLanded p (before m l s rest)
before_keeps m l s p (Err reason) h = tt
before_keeps m l s p (Ok rest) h = subst Sound (sym (behind (land_changes l s) rest.changes p)) h

abbrev AllLand : (Plain → Result Landed Reason) → Type 0
AllLand rest = (q : Plain) → Sound q → AreNamed q.queues → EachLanded q (rest q)

by_keeps : (o : Result Landing Reason) (m : Message) (s : Standing) (p : Plain) (rest : Plain → Result Landed Reason) → Sound p → AreNamed p.queues → AllLand rest → IsLanding m p o → IsStanding s m.ident p → is_present s ≡ false
    → EachLanded p (landed_by o m s p rest)
by_keeps (Err reason) m s p rest h names all is st e = tt
by_keeps (Ok l) m s p rest h names all is st e =
    let q : Plain = apply_all (land_changes l s) p in
    before_keeps m l s p (rest q) (all q (land_sound l.queue l.message s p h (subst (λ (i : Ident). IsStanding s i p) (sym is.0) st) e) (all_named (land_changes l s) p names))

unless_keeps : (b : Bool) (channel : List ℕ) (m : Message) (s : Standing) (p : Plain) (rest : Plain → Result Landed Reason) → Sound p → AreNamed p.queues → AllLand rest → IsStanding s m.ident p → is_present s ≡ b
    → EachLanded p (landed_unless b channel m s p rest)
unless_keeps true channel m s p rest h names all st e = all p h names
unless_keeps false channel m s p rest h names all st e = by_keeps (land channel m p) m s p rest h names all (land_is channel m p) st e

pub landed_keeps : (channel : List ℕ) (ms : List Message) (p : Plain) → Sound p → AreNamed p.queues → EachLanded p (landed channel ms p)
landed_keeps channel [] p h names = h
landed_keeps channel (m ∷ ms) p h names = unless_keeps (is_present (standing_at m p)) channel m (standing_at m p) p (λ q. landed channel ms q) h names (λ q k n. landed_keeps channel ms q k n) (standing_is m p names) refl

-- What the log has says nothing of rows

abbrev pub with_log : LogState → Plain → Plain
with_log l p = record p { log = l }

log_tried : (b : Bool) (name : List ℕ) (l : LogState) (p : Plain) → try_if b name (with_log l p) ≡ with_log l (try_if b name p)
log_tried true name l p = refl
log_tried false name l p = refl

log_type : (t : TriggerType) (q : LocalQueue) (l : LogState) (p : Plain) → by_type t q (with_log l p) ≡ by_type t q p
log_type triggers.First q l p = refl
log_type triggers.Every q l p = refl
log_type triggers.Depth q l p = refl
log_type triggers.Never q l p = refl

log_served : (o : Option LocalQueue) (l : LogState) (p : Plain) → is_served o (with_log l p) ≡ is_served o p
log_served None l p = refl
log_served (Some q) l p = refl

log_condition : (o : Option LocalQueue) (priority : ℤ) (l : LogState) (p : Plain) → condition o priority (with_log l p) ≡ condition o priority p
log_condition None priority l p = refl
log_condition (Some q) priority l p =
    ap (λ (b : Bool). q.trigger && not (stored q.name p).switched_off && has_priority q.trigger_priority priority && b && is_served (local_of q.initiation_queue p.definitions) (with_log l p) && is_some (process_of q.process p.definitions)) (log_type q.trigger_type q l p)
    ∙ ap (λ (b : Bool). q.trigger && not (stored q.name p).switched_off && has_priority q.trigger_priority priority && by_type q.trigger_type q p && b && is_some (process_of q.process p.definitions)) (log_served (local_of q.initiation_queue p.definitions) l p)

log_apart : (c : Change) (l : LogState) (p : Plain) → apply c (with_log l p) ≡ with_log l (apply c p)
log_apart (Try name priority) l p = ap (λ (b : Bool). try_if b name (with_log l p)) (log_condition (local_of name p.definitions) priority l p) ∙ log_tried (condition (local_of name p.definitions) priority p) name l p
log_apart (SetBound channel true) l p = refl
log_apart (SetBound channel false) l p = refl
log_apart c l p = refl

pub log_aside : (cs : List Change) (l : LogState) (p : Plain) → apply_all cs (with_log l p) ≡ with_log l (apply_all cs p)
log_aside [] l p = refl
log_aside (c ∷ cs) l p = ap (apply_all cs) (log_apart c l p) ∙ log_aside cs l (apply c p)

receive_keeps_of : (channel : List ℕ) (unit : Luw) (last : ℕ) (o : Result Landed Reason) (p : Plain) → EachLanded p o → Keeps (receive_landed channel unit last o p) p
receive_keeps_of channel unit last (Err reason) p h = tt
receive_keeps_of channel unit last (Ok l) p h =
    let r : LogRecord = received_record channel unit last l in
    let x : ReceiverData = record (receiver_or (receiver_data channel p)) { unit = unit; last = last } in
    let q : Plain = logged (Some r) p in
    tested_keeps (when (is_full (need r) p) reasons.ResourceProblem ∷ [])
    (Do tt (received_part channel unit last l p ∷ [])) p
    (λ e. (subst Sound (sym (behind l.changes (SetReceiver channel x ∷ []) q)) (subst Sound (sym (log_aside l.changes (written r p.log) p)) h), tt))

pub receive_keeps : (channel : List ℕ) (unit : Luw) (last : ℕ) (batch : List Message) (p : Plain) → AreNamed p.queues → Sound p → Keeps (receive channel unit last batch p) p
receive_keeps channel unit last batch p n h = receive_keeps_of channel unit last (landed channel batch p) p (landed_keeps channel batch p h n)
