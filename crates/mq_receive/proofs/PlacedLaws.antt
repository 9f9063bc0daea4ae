-- The messages of a batch take their places: each can, all is tied behind them, and the plain manager has done what they do.
use Rattle.std.proofs.Common.{◌≡◌, ℕ, ◌+◌, ◌<◌, ◌≤◌, ◌^◌, Bool, true, false, cond, List, [], ◌∷◌, length, refl, ap, arith, sym, subst, ◌∙◌, inl, inr}
use Rattle.std.specs.Prelude.{Option, Some, None, find, filter, not, sum_by, ◌&&◌, ◌||◌, if◌then◌else◌, flat_map}
use Rattle.std.specs.List.{list_any}
use Rattle.std.specs.Str.{bytes_eq}
use Rattle.std.proofs.lemmas.Bool.Decides.{nat_tests}
use Rattle.std.proofs.lemmas.List.Sums.{sum_by-cons}
use Rattle.mq_calls.specs.declared.state.Item.TheVariants.{Put, Take}
use Rattle.mq_calls.specs.State.{Queue as StateQueue}
use Rattle.mq_calls.specs.Words.{Ident, InDoubt, Message, comes_before, less_ident, Row, Plain, Among, has_ident, same_ident, kept_in, selects, queue_in, local_of, is_persistent, off_list, off_lists, puts_to, condition, apply_all}
use Rattle.mq_calls.specs.declared.state.Item.{Item}
use Rattle.mq_calls.specs.declared.state.Connection.{Connection}
use Rattle.mq_spec_manager.specs.Words.{placed}
use Rattle.mq_spec_manager.specs.Agents.{RowAt, row_found, row_of, is_pending, is_unborn, has_put, is_doubted_by, same_flag, Standing, Absent, InDoubtAt, Present, standing_by, drop_row, undoubted}
use Rattle.mq_core.specs.from_place.States.{QueueState, queues_of, state_in, arrived}
use Rattle.mq_core.specs.declared.parts.Arrival.{Arrival}
use Rattle.mq_core.specs.Views.{PartsValue, plain_of}
use Rattle.mq_calls.specs.Recovery.{listed}
use Rattle.mq_calls.specs.declared.state.SenderSide.{SenderSide}
use Rattle.mq_core.specs.from_sides.Places.{AreByName}
use Rattle.mq_core.specs.declared.parts.ChannelEnds.{ChannelEnds}
use Rattle.mq_core.specs.Ties.{EndsReady, doubt_bytes, TiedIdents, IsReady, AreCounted, HasCounts, mode_is_up, one_if, times_in_rows, times_in_queues, times_in_unit, times_in_units, waits, pending_at}
use Rattle.mq_core.specs.Placing.{arrived_at, due_if, put_in_place}
use Rattle.mq_core.specs.Writes.{standing_of, arrival_changes}
use Rattle.mq_core.proofs.PlaceLaws.{same_name, times_changed, times_insert, placed_view, arrived_there, arrived_but, ready_by, tied_due, counts_placed}
use Rattle.mq_core.proofs.ForceLaws.{seen_on, times_keep, tied_where, tied_on}
use Rattle.mq_core.proofs.WriteLaws.{placed_log}
use Rattle.mq_moves.proofs.from_agents.RemoveLaws.{removed_view}
use Rattle.mq_moves.proofs.from_agents.EndLaws.{with_ends, ends_view}
use Rattle.mq_moves.proofs.MoveLaws.{left_out}
use Rattle.mq_law_manager.specs.Facts.{Mem, AreNamed}
use Rattle.mq_law_manager.proofs.Lists.{ident_yes, same_self}
use Rattle.mq_law_manager.proofs.Receiving.{row_there, or_none}
use Rattle.mq_law_manager.proofs.Units.{behind}
use Rattle.mq_receive.specs.Standings.{FitsAt, AreFitting, behind_all}
use Rattle.mq_receive.specs.Placed.{dropped_at, undoubted_at, cleared_for, landed_at, landed_all, AreLanding, TiedOnWay, puts_of}
use Rattle.mq_receive.proofs.AheadLaws.{dropped_as}
use Rattle.mq_queue.proofs.Edits.{same_turned}

-- How often an ident stands, as its standing tells

no_times : (i : Ident) (rows : List Row) → find (has_ident i) rows ≡ None → times_in_rows i rows ≡ 0
no_times i [] e = refl
no_times i (r ∷ rows) e = by (has_ident i r) e (no_times i rows)
  where
    by : (b : Bool) → cond b (Some r) (find (has_ident i) rows) ≡ None → (find (has_ident i) rows ≡ None → times_in_rows i rows ≡ 0) → one_if b + times_in_rows i rows ≡ 0
    by true e rest = absurd cc
    by false e rest = let none = rest e in omega (arith, none)

no_row_times : (i : Ident) (qs : List StateQueue) → row_of i qs ≡ None → times_in_queues i qs ≡ 0
no_row_times i [] e = refl
no_row_times i (q ∷ qs) e = by (find (has_ident i) q.rows) refl e (no_row_times i qs)
  where
    by : (o : Option Row) → find (has_ident i) q.rows ≡ o → row_found o q.name (row_of i qs) ≡ None → (row_of i qs ≡ None → times_in_queues i qs ≡ 0) → times_in_rows i q.rows + times_in_queues i qs ≡ 0
    by (Some r) w f rest = absurd cc
    by None w f rest = let here = no_times i q.rows w in let more = rest f in omega (arith, here, more)

no_put_times : (i : Ident) (items : List Item) → list_any (has_put i) items ≡ false → times_in_unit i items ≡ 0
no_put_times i [] e = refl
no_put_times i (Put queue m ∷ items) e =
    let z = or_none (same_ident i m.ident) (list_any (has_put i) items) e in
    let here : one_if (same_ident m.ident i) ≡ 0 = ap one_if (same_turned m.ident i ∙ z.0) in
    let rest = no_put_times i items z.1 in
    omega (arith, here, rest)
no_put_times i (Take queue ident persistent ∷ items) e = no_put_times i items e

no_unit_times : (i : Ident) (cs : List Connection) → list_any (λ (c : Connection). list_any (has_put i) c.unit) cs ≡ false → times_in_units i cs ≡ 0
no_unit_times i [] e = refl
no_unit_times i (c ∷ cs) e =
    let z = or_none (list_any (has_put i) c.unit) (list_any (λ (c : Connection). list_any (has_put i) c.unit) cs) e in
    let here = no_put_times i c.unit z.0 in
    let rest = no_unit_times i cs z.1 in
    omega (arith, here, rest)

mem_times : (i : Ident) (rows : List Row) (h : Row) → Mem h rows → h.message.ident ≡ i → 1 ≤ times_in_rows i rows
mem_times i [] h m e = absurd m
mem_times i (r ∷ rows) h (inl is) e =
    let one : one_if (has_ident i r) ≡ 1 = ap one_if (ap (λ (x : Row). same_ident x.message.ident i) (sym is) ∙ ap (λ (j : Ident). same_ident j i) e ∙ same_self i) in
    omega (arith, one)
mem_times i (r ∷ rows) h (inr m) e = let rest = mem_times i rows h m e in omega (arith, rest)

-- An ident that stands nowhere once its row is dropped, and that was given

pub record IsFresh (i : Ident) (dropped : Option (List ℕ)) (x : PartsValue) : Type 0 where
  pub none : times_in_queues i (queues_of (dropped_at dropped i x).queues.states) + times_in_units i x.desk.live ≡ 0
  pub born : i.manager ≡ x.number → i.incarnation ≡ x.incarnation → x.idents < i.number → ⊥

unborn_as : (i : Ident) (x : PartsValue) → is_unborn i (plain_of x) ≡ false → i.manager ≡ x.number → i.incarnation ≡ x.incarnation → x.idents < i.number → ⊥
unborn_as i x e a b c = grind (arith, nat_tests, e, a, b, c)

not_absent : (b : Bool) (queue : List ℕ) → (if b then InDoubtAt queue else Present) ≡ Absent → ⊥
not_absent true queue e = absurd cc
not_absent false queue e = absurd cc

is_absent : (b : Bool) → (if b then Present else Absent) ≡ Absent → b ≡ false
is_absent true e = absurd cc
is_absent false e = refl

not_doubt : (b : Bool) (queue : List ℕ) → (if b then Present else Absent) ≡ InDoubtAt queue → ⊥
not_doubt true queue e = absurd cc
not_doubt false queue e = absurd cc

doubt_queue : List ℕ → Standing → List ℕ
doubt_queue d Absent = d
doubt_queue d (InDoubtAt queue) = queue
doubt_queue d Present = d

is_doubt : (b : Bool) (at queue : List ℕ) → (if b then InDoubtAt at else Present) ≡ InDoubtAt queue → at ≡ queue
unfolding doubt_queue
is_doubt true at queue e = ap (doubt_queue queue) e
is_doubt false at queue e = absurd cc

fresh_by : (m : Message) (dropped : Option (List ℕ)) (x : PartsValue) (o : Option RowAt) → row_of m.ident (queues_of x.queues.states) ≡ o → standing_by m o (plain_of x) ≡ standing_of dropped → AreNamed (queues_of x.queues.states) → TiedIdents [] x → IsFresh m.ident dropped x
fresh_by m None x None w e named t =
    let z = or_none (is_pending m.ident (plain_of x)) (is_unborn m.ident (plain_of x)) (is_absent (is_pending m.ident (plain_of x) || is_unborn m.ident (plain_of x)) e) in
    let rows = no_row_times m.ident (queues_of x.queues.states) w in
    let units = no_unit_times m.ident x.desk.live z.0 in
    record { none = omega (arith, rows, units); born = unborn_as m.ident x z.1 }
fresh_by m None x (Some at) w e named t = absurd (not_absent (is_doubted_by m.ident at.row.by (plain_of x) && same_flag (is_persistent m) (is_persistent at.row.message)) at.queue e)
fresh_by m (Some queue) x None w e named t = absurd (not_doubt (is_pending m.ident (plain_of x) || is_unborn m.ident (plain_of x)) queue e)
fresh_by m (Some queue) x (Some at) w e named t =
    let i : Ident = m.ident in
    let is : at.queue ≡ queue = is_doubt (is_doubted_by m.ident at.row.by (plain_of x) && same_flag (is_persistent m) (is_persistent at.row.message)) at.queue queue e in
    let there = row_there i (queues_of x.queues.states) at named w in
    let one = mem_times i (queue_in at.queue (queues_of x.queues.states)).rows at.row there.0 there.1 in
    let here = ap (λ (n : List ℕ). times_in_rows i (queue_in n (queues_of x.queues.states)).rows) is in
    let out = left_out queue i x.queues.states in
    let once = t.once i in
    record {
      none = omega (arith, one, here, out, once);
      born = λ a b c. let zero = t.given i a b c in omega (arith, one, here, out, zero);
    }

pub fresh_ident : (a : Arrival) (x : PartsValue) → FitsAt a (plain_of x) → TiedIdents [] x → IsFresh a.message.ident a.dropped x
fresh_ident a x f t = fresh_by a.message a.dropped x (row_of a.message.ident (queues_of x.queues.states)) refl f.standing f.named t

-- Its row is dropped, its ident is off the lists

dropped_log : (dropped : Option (List ℕ)) (i : Ident) (x : PartsValue) → (dropped_at dropped i x).log ≡ x.log
dropped_log None i x = refl
dropped_log (Some queue) i x = refl

undoubted_log : (b : Bool) (i : Ident) (x : PartsValue) → (undoubted_at b i x).log ≡ x.log
undoubted_log true i x = refl
undoubted_log false i x = refl

undoubted_queues : (b : Bool) (i : Ident) (x : PartsValue) → (undoubted_at b i x).queues ≡ x.queues
undoubted_queues true i x = refl
undoubted_queues false i x = refl

up_dropped : (dropped : Option (List ℕ)) (i : Ident) (x : PartsValue) → mode_is_up (dropped_at dropped i x).mode ≡ mode_is_up x.mode
up_dropped None i x = refl
up_dropped (Some queue) i x = refl

up_undoubted : (b : Bool) (i : Ident) (x : PartsValue) → mode_is_up (undoubted_at b i x).mode ≡ mode_is_up x.mode
up_undoubted true i x = refl
up_undoubted false i x = refl

up_due : (b : Bool) (queue : List ℕ) (x : PartsValue) → mode_is_up (due_if b queue x).mode ≡ mode_is_up x.mode
up_due true queue x = refl
up_due false queue x = refl

up_cleared : (a : Arrival) (x : PartsValue) → mode_is_up x.mode ≡ true → mode_is_up (cleared_for a x).mode ≡ true
up_cleared a x up =
    let y = dropped_at a.dropped a.message.ident x in
    up_undoubted (is_persistent a.message) a.message.ident y ∙ up_dropped a.dropped a.message.ident x ∙ up

up_landed : (a : Arrival) (x : PartsValue) → mode_is_up x.mode ≡ true → mode_is_up (landed_at a x).mode ≡ true
up_landed a x up =
    let z = cleared_for a x in
    let y = arrived_at a.queue a.message z in
    up_due (condition (local_of a.queue y.defs.definitions) a.message.md.priority (plain_of y)) a.queue y ∙ up_cleared a x up

log_landed : (a : Arrival) (x : PartsValue) → (landed_at a x).log ≡ x.log
log_landed a x =
    let y = dropped_at a.dropped a.message.ident x in
    placed_log a.queue a.message (cleared_for a x) ∙ undoubted_log (is_persistent a.message) a.message.ident y ∙ dropped_log a.dropped a.message.ident x

tied_dropped : (landed : List Arrival) (dropped : Option (List ℕ)) (i : Ident) (x : PartsValue) → TiedOnWay landed x → TiedOnWay landed (dropped_at dropped i x)
tied_dropped landed None i x t = t
tied_dropped landed (Some queue) i x t =
    tied_on (kept_in (Among queue (i ∷ []))) (λ q. refl) (λ k q. times_keep k (λ (row : Row). not (selects (Among queue (i ∷ [])) q.name row)) q.rows) (puts_of landed) [] x t

-- what is set aside is enough where an ident goes off the lists
off_need : (i : Ident) (o : Option InDoubt) → doubt_bytes (less_ident i o) ≡ doubt_bytes o
off_need i None = refl
off_need i (Some d) = refl

filter_fewer : {A : Type 0} (p : A → Bool) (xs : List A) → length (filter p xs) ≤ length xs
filter_fewer p [] = omega arith
filter_fewer {A} p (x ∷ xs) = by (p x) (filter_fewer p xs)
  where
    by : (b : Bool) → length (filter p xs) ≤ length xs → length (cond b (x ∷ filter p xs) (filter p xs)) ≤ length (x ∷ xs)
    by true less = omega (arith, less)
    by false less = omega (arith, less)

off_rows : (i : Ident) (o : Option InDoubt) → length (listed (less_ident i o)) ≤ length (listed o)
off_rows i None = omega arith
off_rows i (Some d) = filter_fewer (λ (other : Ident). not (same_ident i other)) d.idents

off_needs : (i : Ident) (ss : List SenderSide) → sum_by (λ (s : SenderSide). doubt_bytes s.hardened.in_doubt) (off_lists i ss) ≡ sum_by (λ (s : SenderSide). doubt_bytes s.hardened.in_doubt) ss
off_needs i [] = refl
off_needs i (s ∷ ss) =
    let here : doubt_bytes (off_list i s).hardened.in_doubt ≡ doubt_bytes s.hardened.in_doubt = off_need i s.hardened.in_doubt in
    let rest = off_needs i ss in
    let new = sum_by-cons (λ (k : SenderSide). doubt_bytes k.hardened.in_doubt) (off_list i s) (off_lists i ss) in
    let old = sum_by-cons (λ (k : SenderSide). doubt_bytes k.hardened.in_doubt) s ss in
    new ∙ (λ j. here j + rest j) ∙ sym old

off_all_rows : (i : Ident) (ss : List SenderSide) → sum_by (λ (s : SenderSide). length (listed s.hardened.in_doubt)) (off_lists i ss) ≤ sum_by (λ (s : SenderSide). length (listed s.hardened.in_doubt)) ss
off_all_rows i [] = omega arith
off_all_rows i (s ∷ ss) =
    let here : length (listed (off_list i s).hardened.in_doubt) ≤ length (listed s.hardened.in_doubt) = off_rows i s.hardened.in_doubt in
    let rest = off_all_rows i ss in
    let new : sum_by (λ (k : SenderSide). length (listed k.hardened.in_doubt)) (off_lists i (s ∷ ss)) ≡ length (listed (off_list i s).hardened.in_doubt) + sum_by (λ (k : SenderSide). length (listed k.hardened.in_doubt)) (off_lists i ss)
    = sum_by-cons (λ (k : SenderSide). length (listed k.hardened.in_doubt)) (off_list i s) (off_lists i ss) in
    let old = sum_by-cons (λ (k : SenderSide). length (listed k.hardened.in_doubt)) s ss in
    omega (arith, here, rest, new, old)

off_mem : (i : Ident) (name : List ℕ) (ss : List SenderSide) (t : SenderSide) → ((s : SenderSide) → Mem s ss → comes_before name s.channel ≡ true) → Mem t (off_lists i ss) → comes_before name t.channel ≡ true
off_mem i name [] t h m = absurd m
off_mem i name (s ∷ ss) t h (inl e) = ap (λ (k : SenderSide). comes_before name k.channel) e ∙ h s (inl refl)
off_mem i name (s ∷ ss) t h (inr m) = off_mem i name ss t (λ k n. h k (inr n)) m

off_sorted : (i : Ident) (ss : List SenderSide) → AreByName (λ (s : SenderSide). s.channel) ss → AreByName (λ (s : SenderSide). s.channel) (off_lists i ss)
off_sorted i [] h = tt
off_sorted i (s ∷ ss) h = (λ t m. off_mem i s.channel ss t h.0 m, off_sorted i ss h.1)

off_ready : (i : Ident) (e : ChannelEnds) (spare : ℕ) → EndsReady e spare → EndsReady (record e { senders = off_lists i e.senders }) spare
off_ready i e spare w =
    let bytes = off_needs i e.senders in
    let rows = off_all_rows i e.senders in
    let a = w.log in
    let b = w.rows in
    record { log = omega (arith, bytes, a); rows = omega (arith, rows, b); senders = off_sorted i e.senders w.senders; receivers = w.receivers; seats = w.seats }

tied_undoubted : (landed : List Arrival) (b : Bool) (i : Ident) (x : PartsValue) → TiedOnWay landed x → TiedOnWay landed (undoubted_at b i x)
tied_undoubted landed false i x t = t
tied_undoubted landed true i x t = tied_where (puts_of landed) [] (undoubted_at true i x).ends x.log x.body x.mode x
    (λ u. let w = t.up u in record { live = w.live; settled = w.settled; ends = off_ready i x.ends x.log.spare w.ends; room = w.room; body = w.body }) t.reserved t.within t.max t

tied_cleared : (landed : List Arrival) (a : Arrival) (x : PartsValue) → TiedOnWay landed x → TiedOnWay landed (cleared_for a x)
tied_cleared landed a x t = tied_undoubted landed (is_persistent a.message) a.message.ident (dropped_at a.dropped a.message.ident x) (tied_dropped landed a.dropped a.message.ident x t)

-- counters stay
abbrev arrivals_at : Option QueueState → ℕ
arrivals_at None = 0
arrivals_at (Some s) = s.queue.arrivals

abbrev due_at : Option QueueState → ℕ
due_at None = 0
due_at (Some s) = s.queue.due

few : (most : ℕ) (o : Option QueueState) → ((s : QueueState) → o ≡ Some s → HasCounts most s) → (arrivals_at o + pending_at o ≤ most) × (due_at o + pending_at o ≤ most)
few most None h = (omega arith, omega arith)
few most (Some s) h = let c = h s refl in (c.arrivals, c.due)

counts_dropped : (most : ℕ) (dropped : Option (List ℕ)) (i : Ident) (x : PartsValue) → AreCounted most x → AreCounted most (dropped_at dropped i x)
counts_dropped most None i x h = h
counts_dropped most (Some queue) i x h = λ name s is.
    let f : StateQueue → StateQueue = kept_in (Among queue (i ∷ [])) in
    let old = few most (state_in name x.queues.states) (h name) in
    let arrivals = ap arrivals_at (sym is) ∙ seen_on f (λ q. refl) arrivals_at (λ s. refl) name x.queues.states in
    let due = ap due_at (sym is) ∙ seen_on f (λ q. refl) due_at (λ s. refl) name x.queues.states in
    let pending = ap pending_at (sym is) ∙ seen_on f (λ q. refl) pending_at (λ s. refl) name x.queues.states in
    record { arrivals = omega (arith, arrivals, pending, old.0); due = omega (arith, due, pending, old.1) }

counts_undoubted : (most : ℕ) (b : Bool) (i : Ident) (x : PartsValue) → AreCounted most x → AreCounted most (undoubted_at b i x)
counts_undoubted most true i x h = h
counts_undoubted most false i x h = h

counts_cleared : (most : ℕ) (a : Arrival) (x : PartsValue) → AreCounted most x → AreCounted most (cleared_for a x)
counts_cleared most a x h = counts_undoubted most (is_persistent a.message) a.message.ident (dropped_at a.dropped a.message.ident x) (counts_dropped most a.dropped a.message.ident x h)

-- It can be placed then

-- an ident that stands nowhere, and was given
pub record IsApart (i : Ident) (x : PartsValue) : Type 0 where
  pub none : times_in_queues i (queues_of x.queues.states) + times_in_units i x.desk.live ≡ 0
  pub born : i.manager ≡ x.number → i.incarnation ≡ x.incarnation → x.idents < i.number → ⊥

fresh_undoubted : (b : Bool) (i : Ident) (dropped : Option (List ℕ)) (x : PartsValue) → IsFresh i dropped x → IsApart i (undoubted_at b i (dropped_at dropped i x))
fresh_undoubted true i None x f = record { none = f.none; born = f.born }
fresh_undoubted false i None x f = record { none = f.none; born = f.born }
fresh_undoubted true i (Some queue) x f = record { none = f.none; born = f.born }
fresh_undoubted false i (Some queue) x f = record { none = f.none; born = f.born }

ready_one : (most : ℕ) (queue : List ℕ) (m : Message) (landed : List Arrival) (a : Arrival) (x : PartsValue) → a.queue ≡ queue → most + 1 < 2 ^ 64 → AreCounted most x → IsApart m.ident x → TiedOnWay (a ∷ landed) x → IsReady queue m x
ready_one most queue m landed a x same small counts apart t =
    let here : one_if (bytes_eq queue a.queue) ≡ 1 = ap (λ (n : List ℕ). one_if (bytes_eq queue n)) same ∙ ap one_if (same_name queue) in
    let pending = t.queues.pending queue in
    let none = apart.none in
    ready_by most queue m x (puts_to queue x.desk.live + waits queue (puts_of landed)) small counts (omega (arith, none)) (state_in queue x.queues.states) refl (omega (arith, pending, here)) (t.queues.lanes queue)

-- and all is tied behind it
once_more : (b : Bool) (n k : ℕ) → (b ≡ true → n + k ≡ 0) → n + k + 0 ≤ 1 → one_if b + n + k + 0 ≤ 1
once_more true n k none old = let zero = none refl in omega (arith, zero)
once_more false n k none old = omega (arith, old)

none_more : (b : Bool) (n k : ℕ) → (b ≡ true → ⊥) → n + k + 0 ≡ 0 → one_if b + n + k + 0 ≡ 0
none_more true n k never old = absurd (never refl)
none_more false n k never old = omega (arith, old)

tied_arrived : (a : Arrival) (landed : List Arrival) (x : PartsValue) → IsReady a.queue a.message x → IsApart a.message.ident x → TiedOnWay (a ∷ landed) x → TiedOnWay landed (arrived_at a.queue a.message x)
tied_arrived a landed x r apart t =
    let m : Message = a.message in
    let times = λ (i : Ident). times_changed a.queue (arrived m) (λ s. refl) i (one_if (same_ident m.ident i)) (λ s. times_insert i _ s.queue.rows) x.queues.states r.state r.is in
    arrived_but a.queue m (puts_of landed) [] [] x r (record {
      once = λ i.
          let more = times i in
          let old = t.idents.once i in
          let one = once_more (same_ident m.ident i) (times_in_queues i (queues_of x.queues.states)) (times_in_units i x.desk.live)
          (λ e. subst (λ (j : Ident). times_in_queues j (queues_of x.queues.states) + times_in_units j x.desk.live ≡ 0) (ident_yes m.ident i e) apart.none) old in
          omega (arith, more, one);
      given = λ i k b c.
          let more = times i in
          let old = t.idents.given i k b c in
          let none = none_more (same_ident m.ident i) (times_in_queues i (queues_of x.queues.states)) (times_in_units i x.desk.live)
          (λ e. let is = ident_yes m.ident i e in apart.born (ap (λ (j : Ident). j.manager) is ∙ k) (ap (λ (j : Ident). j.incarnation) is ∙ b) (let n = ap (λ (j : Ident). j.number) is in omega (arith, n, c))) old in
          omega (arith, more, none);
    }) t

tied_placed : (a : Arrival) (landed : List Arrival) (x : PartsValue) → IsReady a.queue a.message x → IsApart a.message.ident x → TiedOnWay (a ∷ landed) x → TiedOnWay landed (put_in_place a.queue a.message x)
tied_placed a landed x r apart t =
    let y = arrived_at a.queue a.message x in
    tied_due (condition (local_of a.queue y.defs.definitions) a.message.md.priority (plain_of y)) a.queue (puts_of landed) [] y (arrived a.message r.state) (arrived_there a.queue a.message x r) (tied_arrived a landed x r apart t)

-- What the plain manager sees of it

drop_view : (dropped : Option (List ℕ)) (i : Ident) (x : PartsValue) → mode_is_up x.mode ≡ true → plain_of (dropped_at dropped i x) ≡ apply_all (drop_row i (standing_of dropped)) (plain_of x)
drop_view None i x up = refl
drop_view (Some queue) i x up = removed_view queue i x up

undoubt_view : (b : Bool) (i : Ident) (x : PartsValue) → mode_is_up x.mode ≡ true → plain_of (undoubted_at b i x) ≡ apply_all (undoubted b i) (plain_of x)
unfolding with_ends
undoubt_view true i x up = ends_view (record x.ends { senders = off_lists i x.ends.senders }) x up
undoubt_view false i x up = refl

off_by : Bool → Ident → Plain → Plain
off_by b i p = apply_all (undoubted b i) p

place_by : List ℕ → Message → Plain → Plain
place_by queue m p = apply_all (placed queue m) p

pub landed_view : (a : Arrival) (x : PartsValue) → mode_is_up x.mode ≡ true → IsReady a.queue a.message (cleared_for a x) → plain_of (landed_at a x) ≡ apply_all (arrival_changes a) (plain_of x)
unfolding off_by place_by
landed_view a x up r =
    let i : Ident = a.message.ident in
    let b = is_persistent a.message in
    let y = dropped_at a.dropped i x in
    placed_view a.queue a.message (cleared_for a x) r
    ∙ ap (place_by a.queue a.message) (undoubt_view b i y (up_dropped a.dropped i x ∙ up) ∙ ap (off_by b i) (drop_view a.dropped i x up))
    ∙ sym (dropped_as a.message (standing_of a.dropped) a.queue (plain_of x))

-- All of them, one behind the other

pub record HasLanded (landed : List Arrival) (x : PartsValue) : Type 0 where
  pub ready : AreLanding landed x
  pub tied : TiedOnWay [] (landed_all landed x)
  pub view : plain_of (landed_all landed x) ≡ behind_all landed (plain_of x)
  pub log : (landed_all landed x).log ≡ x.log

rest_of : List Arrival → Plain → Plain
rest_of landed p = behind_all landed p

lands_next : (most : ℕ) (landed : List Arrival) (a : Arrival) (x : PartsValue) → most + 1 < 2 ^ 64 → mode_is_up x.mode ≡ true → AreCounted most x → AreFitting (a ∷ landed) (plain_of x) → TiedOnWay (a ∷ landed) x
    → ((z : PartsValue) → mode_is_up z.mode ≡ true → AreCounted most z → AreFitting landed (plain_of z) → TiedOnWay landed z → HasLanded landed z) → HasLanded (a ∷ landed) x
unfolding rest_of
lands_next most landed a x small up counts fits t rest =
    let y : PartsValue = cleared_for a x in
    let apart : IsApart a.message.ident y = fresh_undoubted (is_persistent a.message) a.message.ident a.dropped x (fresh_ident a x fits.0 t.idents) in
    let tied : TiedOnWay (a ∷ landed) y = tied_cleared (a ∷ landed) a x t in
    let counted : AreCounted most y = counts_cleared most a x counts in
    let r : IsReady a.queue a.message y = ready_one most a.queue a.message landed a y refl small counted apart tied in
    let view : plain_of (landed_at a x) ≡ apply_all (arrival_changes a) (plain_of x) = landed_view a x up r in
    let more : HasLanded landed (landed_at a x) = rest (landed_at a x) (up_landed a x up) (counts_placed most a.queue a.message y r counted) (subst (AreFitting landed) (sym view) fits.1) (tied_placed a landed y r apart tied) in
    record {
      ready = (r, more.ready);
      tied = more.tied;
      view = more.view ∙ ap (rest_of landed) view ∙ sym (behind (arrival_changes a) (flat_map arrival_changes landed) (plain_of x));
      log = more.log ∙ log_landed a x;
    }

pub lands_all : (most : ℕ) (landed : List Arrival) (x : PartsValue) → most + 1 < 2 ^ 64 → mode_is_up x.mode ≡ true → AreCounted most x → AreFitting landed (plain_of x) → TiedOnWay landed x → HasLanded landed x
lands_all most [] x small up counts fits t = record { ready = tt; tied = t; view = refl; log = refl }
lands_all most (a ∷ landed) x small up counts fits t = lands_next most landed a x small up counts fits t (λ z. lands_all most landed z small)
