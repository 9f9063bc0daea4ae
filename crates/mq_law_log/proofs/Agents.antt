-- Triggers, channel ends and the handler make a crash harmless, at each of their writes, in a sound manager.
use Rattle.std.proofs.Common.{ℕ, ◌≡◌, ◌≤◌, Bool, true, false, List, [], ◌∷◌, refl, ap, sym, ◌∙◌, subst, arith, take, inl, inr}
use Rattle.std.specs.Prelude.{Option, Some, None, is_some, nat_lt, nat_le, not, ◌&&◌, ◌||◌, if◌then◌else◌, filter}
use Rattle.std.specs.List.{AllByRecursion, list_any}
use Rattle.std.specs.Str.{bytes_eq}
use Rattle.std.proofs.lemmas.Bool.Decides.{nat_tests}
use Rattle.mq_codes.specs.declared.reason.Reason.{Reason}
use Rattle.mq_message.specs.declared.message.Ident.{Ident}
use Rattle.mq_message.specs.declared.place.Holder.{Holder}
use Rattle.mq_queue.specs.declared.row.Row.{Row}
use Rattle.mq_queue.specs.Rows.{same_ident, has_ident, is_free}
use Rattle.mq_objects.specs.declared.object.LocalQueue.{LocalQueue}
use Rattle.mq_objects.specs.declared.object.Process.{Process}
use Rattle.mq_objects.specs.Names.{local_of, locals_of, channel_of, process_of, is_transmission}
use Rattle.mq_sync.specs.declared.unit.Unit.{Unit as Luw}
use Rattle.mq_sync.specs.Settlement.{sender_or}
use Rattle.mq_calls.specs.declared.agents.Note.{Note}
use Rattle.mq_calls.specs.declared.agents.PrepareFault.TheVariants as prepare_faults
use Rattle.mq_calls.specs.declared.agents.SeizeFault.TheVariants as seize_faults
use Rattle.mq_calls.specs.declared.deltas.Did.TheVariants as did
use Rattle.mq_calls.specs.declared.deltas.Why.TheVariants as whys
use Rattle.mq_calls.specs.State.{Plain, Queue}
use Rattle.mq_calls.specs.declared.state.Batch.{Batch}
use Rattle.mq_calls.specs.State.Change.{Place as Places, Serve, CountIdent, Seize, Unseize, SetBound}
use Rattle.mq_calls.specs.Reads.{stored, queue_in, is_persistent, free_rows, batch_of, sender_data, is_up, is_full, is_open_for_input, has_held_by_other, is_expired}
use Rattle.mq_calls.specs.Changes.{apply}
use Rattle.mq_calls.specs.Sizes.{need}
use Rattle.mq_calls.specs.Steps.{when}
use Rattle.mq_calls.specs.Images.{has_batch, rests_by, lasting, lasting_row, lasting_rows, shelves_of}
use Rattle.mq_calls.specs.declared.image.Shelf.{Shelf}
use Rattle.mq_spec_manager.specs.Handles.{is_transmission_queue}
use Rattle.mq_spec_manager.specs.Put.{next_ident}
use Rattle.mq_spec_manager.specs.Get.{idents_of}
use Rattle.mq_spec_manager.specs.Triggers.{trigger_turn, trigger_at, serve, serve_by, serve_into, put_trigger, takes_it, first_due, route_to, trigger_message}
use Rattle.mq_spec_manager.specs.Agents.{CanHarden, CanHold, CanPrepare, IsPreparable, HasFreeRow, NoneInDoubt, is_row_in_doubt, seize, leave, set_bound, channel_queue, expire, expired_rows, queue_of_sender, hold_batch, release_batch, release_of, prepare, prepare_of, prepared_record, prepared_changes, harden, discard}
use Rattle.mq_spec_log.specs.Applies.{can_prepare, are_distinct, is_held_among, is_elsewhere}
use Rattle.mq_law_manager.specs.View.{view}
use Rattle.mq_law_manager.specs.Facts.{Mem, Chain, ident_of, IsSound}
use Rattle.mq_law_manager.proofs.Lists.{bool_case, is_false, any_mem}
use Rattle.mq_law_manager.proofs.Named.{name_is, name_self}
use Rattle.mq_law_manager.proofs.Beginning.{pairs_chain}
use Rattle.mq_law_manager.proofs.Removals.{mem_filter, differ_filter}
use Rattle.mq_law_manager.proofs.Handling.{is_loose}
use Rattle.mq_law_manager.proofs.Lists.{ident_yes}
use Rattle.mq_law_manager.proofs.Receiving.{placing_defined}
use Rattle.mq_law_log.specs.Keeps.{has_queue}
use Rattle.mq_law_log.specs.Restarts.{IsHarmless, IsGivenIn, StepHarmless}
use Rattle.mq_law_log.proofs.Shelves.{shelves_set, shelf_again}
use Rattle.mq_law_log.proofs.Changes.{placed_aside, aside_lasts}
use Rattle.mq_law_log.proofs.Batches.{holding_aside, releasing_aside}
use Rattle.mq_law_log.proofs.Placings.{has_set}
use Rattle.mq_law_log.proofs.Harmless.{prepare_harmless}
use Rattle.mq_law_log.proofs.Hardenings.{harden_harmless, sender_doubt}
use Rattle.mq_law_log.proofs.Bridge.{sound_logs, rows_of}
use Rattle.mq_law_log.proofs.Givens.{batch_given, note_given}
use Rattle.mq_law_log.proofs.Applications.{unforced, tested_h, are_free, is_free_of, removals_harmless}

-- Triggers

due_there : (name : List ℕ) (qs : List Queue) → nat_lt 0 (queue_in name qs).due ≡ true → has_queue name qs ≡ true
due_there name [] e = absurd cc
due_there name (q ∷ qs) e = bool_case (bytes_eq name q.name) (λ b. nat_lt 0 (if b then q else queue_in name qs).due ≡ true → (b || has_queue name qs) ≡ true) (λ z w. refl) (λ z w. due_there name qs w) e

first_is_due : (qs : List LocalQueue) (p : Plain) (q : LocalQueue) → first_due qs p ≡ Some q → nat_lt 0 (stored q.name p).due ≡ true
first_is_due [] p q e = absurd cc
first_is_due (x ∷ xs) p q e = bool_case (nat_lt 0 (stored x.name p).due) (λ b. nat_lt 0 (stored x.name p).due ≡ b → (if b then Some x else first_due xs p) ≡ Some q → nat_lt 0 (stored q.name p).due ≡ true)
    (λ z w f. let is : x ≡ q = cc f in ap (λ (y : LocalQueue). nat_lt 0 (stored y.name p).due) (sym is) ∙ w) (λ z w f. first_is_due xs p q f) refl e

served_lasts : (name : List ℕ) (p : Plain) → has_queue name p.queues ≡ true → lasting (apply (Serve name) p) ≡ lasting p
served_lasts name p h = ap (λ (x : List Shelf). record (lasting p) { shelves = x })
    (shelves_set p.channels.batches (record (stored name p) { due = _ }) p.queues ∙ shelf_again p.channels.batches name p.queues h)

served : (name : List ℕ) (p : Plain) → has_queue name p.queues ≡ true → IsHarmless (record { forced = None; changes = Serve name ∷ []; delta = [] }) p
served name p h = unforced (Serve name ∷ []) [] p (served_lasts name p h)

put_trigger_h : (q : LocalQueue) (process : Process) (i : LocalQueue) (p : Plain) (o : Option Reason) → takes_it i p ≡ o → IsSound p → has_queue q.name p.queues ≡ true → IsHarmless (put_trigger o q process i p) p
put_trigger_h q process i p (Some reason) e h there = served q.name p there
put_trigger_h q process i p None e h there =
    let m = trigger_message (next_ident p) q process i p.moment in
    unforced (Serve q.name ∷ CountIdent ∷ Places i.name m ∷ []) (did.Placed i.name (next_ident p) None ∷ []) p
    (placed_aside i.name m (apply CountIdent (apply (Serve q.name) p)) (has_set i.name _ p.queues (h.stocked.placed i.name (placing_defined (route_to i.name) 684 p e))) refl ∙ served_lasts q.name p there)

serve_h : (q : LocalQueue) (process : Option Process) (i : Option LocalQueue) (p : Plain) → IsSound p → has_queue q.name p.queues ≡ true → IsHarmless (serve_by q process i p) p
serve_h q None i p h there = served q.name p there
serve_h q (Some process) None p h there = served q.name p there
serve_h q (Some process) (Some i) p h there = bool_case (is_transmission i.usage) (λ b. IsHarmless (serve_into b q process i p) p) (λ e. served q.name p there) (λ e. put_trigger_h q process i p (takes_it i p) refl h there)

trigger_given : (o : Option Reason) (q : LocalQueue) (process : Process) (i : LocalQueue) (p : Plain) → IsGivenIn (put_trigger o q process i p).forced p
trigger_given None q process i p = tt
trigger_given (Some reason) q process i p = tt

serve_given : (q : LocalQueue) (process : Option Process) (i : Option LocalQueue) (p : Plain) → IsGivenIn (serve_by q process i p).forced p
serve_given q None i p = tt
serve_given q (Some process) None p = tt
serve_given q (Some process) (Some i) p = bool_case (is_transmission i.usage) (λ b. IsGivenIn (serve_into b q process i p).forced p) (λ e. tt) (λ e. trigger_given (takes_it i p) q process i p)

turn_h : (o : Option LocalQueue) (p : Plain) → IsSound p → first_due (locals_of p.definitions) p ≡ o → StepHarmless (serve o p) p
turn_h None p h e = tt
turn_h (Some q) p h e = (serve_h q (process_of q.process p.definitions) (local_of q.initiation_queue p.definitions) p h (due_there q.name p.queues (first_is_due (locals_of p.definitions) p q e)), serve_given q (process_of q.process p.definitions) (local_of q.initiation_queue p.definitions) p, tt)

pub trigger_harmless : (p : Plain) → IsSound p → StepHarmless (trigger_turn p) p
trigger_harmless p h = bool_case (is_up p.running) (λ b. StepHarmless (trigger_at b p) p) (λ e. turn_h (first_due (locals_of p.definitions) p) p h refl) (λ e. tt)

-- Ends of channels

pub seize_harmless : (channel : List ℕ) (p : Plain) → StepHarmless (seize channel p) p
seize_harmless channel p =
    let queue : List ℕ = channel_queue (channel_of channel p.definitions) in
    tested_h (when (not (is_transmission_queue (local_of queue p.definitions))) seize_faults.BadQueue ∷ when (is_open_for_input queue p || has_held_by_other channel queue p) seize_faults.QueueInUse ∷ []) _ p
    (λ e. (unforced (Seize (record { channel = channel; queue = queue }) ∷ []) [] p refl, tt, tt))

pub leave_harmless : (channel : List ℕ) (p : Plain) → StepHarmless (leave channel p) p
leave_harmless channel p = (unforced (Unseize channel ∷ []) [] p refl, tt, tt)

pub bound_harmless : (channel : List ℕ) (bound : Bool) (p : Plain) → StepHarmless (set_bound channel bound p) p
bound_harmless channel bound p = (unforced (SetBound channel bound ∷ []) [] p (aside_lasts (SetBound channel bound) p refl), tt, tt)

pub expire_harmless : (channel : List ℕ) (p : Plain) → IsSound p → StepHarmless (expire channel p) p
expire_harmless channel p h =
    let q : List ℕ = queue_of_sender channel p in
    removals_harmless whys.Expired q (expired_rows q p) p h (are_free q (expired_rows q p) p
    (λ r m.
    let a = mem_filter r (is_expired p) (free_rows q p) m in
    mem_filter r is_free ((view p).rows q) a.0)
    (differ_filter ident_of (is_expired p) (free_rows q p) (differ_filter ident_of is_free ((view p).rows q) (h.facts.apart.once q))))

pub hold_harmless : (channel : List ℕ) (unit : Luw) (most : ℕ) (p : Plain) → CanHold channel p → StepHarmless (hold_batch channel unit most p) p
hold_harmless channel unit most p can =
    let q : List ℕ = queue_of_sender channel p in
    let b : Batch = record { channel = channel; unit = unit; queue = q; idents = idents_of (take most (free_rows q p)) } in
    (unforced _ _ p (holding_aside b p can.rows), tt, tt)

found_batch : (channel : List ℕ) (bs : List Batch) (b : Batch) → batch_of channel bs ≡ Some b → (has_batch channel bs ≡ true) × (channel ≡ b.channel)
found_batch channel [] b e = absurd cc
found_batch channel (x ∷ xs) b e = bool_case (bytes_eq channel x.channel) (λ t. bytes_eq channel x.channel ≡ t → (if t then Some x else batch_of channel xs) ≡ Some b → ((t || has_batch channel xs) ≡ true) × (channel ≡ b.channel))
    (λ z w f. let is : x ≡ b = cc f in (refl, name_is channel x.channel w ∙ ap (λ (y : Batch). y.channel) is)) (λ z w f. found_batch channel xs b f) refl e

release_h : (channel : List ℕ) (o : Option Batch) (p : Plain) → batch_of channel p.channels.batches ≡ o → StepHarmless (release_of channel o) p
release_h channel None p e = tt
release_h channel (Some b) p e = (unforced _ _ p (releasing_aside channel p (found_batch channel p.channels.batches b e).0), tt, tt)

pub release_harmless : (channel : List ℕ) (p : Plain) → StepHarmless (release_batch channel p) p
release_harmless channel p = release_h channel (batch_of channel p.channels.batches) p refl

-- A batch that can be a unit in doubt can be prepared

above_zero : (n : ℕ) → 1 ≤ n → nat_lt 0 n ≡ true
above_zero n le = grind (arith, nat_tests)

upto : (a b : ℕ) → a ≤ b → nat_le a b ≡ true
upto a b le = grind (arith, nat_tests)

none_among : (i : Ident) (is : List Ident) → ((j : Ident) → Mem j is → same_ident i j ≡ false) → list_any (same_ident i) is ≡ false
none_among i [] f = refl
none_among i (x ∷ xs) f = ap (λ (b : Bool). b || list_any (same_ident i) xs) (f x (inl refl)) ∙ none_among i xs (λ j m. f j (inr m))

distinct : (is : List Ident) → Chain (λ (x y : Ident). same_ident x y ≡ false) is → are_distinct is ≡ true
distinct [] h = refl
distinct (i ∷ is) h = ap (λ (b : Bool). not b && are_distinct is) (none_among i is h.0) ∙ distinct is h.1

held_row : (bs : List Batch) (idents : List Ident) (row : Row) → is_row_in_doubt bs idents row ≡ false → is_held_among idents (record row { by = rests_by bs row.by }) ≡ false
held_row bs idents row e = at (rests_by bs row.by) e
  where
    at : (o : Option Holder) → (is_some o && list_any (same_ident row.message.ident) idents) ≡ false → is_held_among idents (record row { by = o }) ≡ false
    at None e = refl
    at (Some x) e = e

held_rows : (bs : List Batch) (idents : List Ident) (rows : List Row) → AllByRecursion (λ (row : Row). is_row_in_doubt bs idents row ≡ false) rows → list_any (is_held_among idents) (lasting_rows bs rows) ≡ false
held_rows bs idents [] h = refl
held_rows bs idents (row ∷ rows) h = bool_case (is_persistent row.message) (λ b. list_any (is_held_among idents) (if b then lasting_row bs row ∷ lasting_rows bs rows else lasting_rows bs rows) ≡ false)
    (λ e. ap (λ (b : Bool). b || list_any (is_held_among idents) (lasting_rows bs rows)) (held_row bs idents row h.0) ∙ held_rows bs idents rows h.1) (λ e. held_rows bs idents rows h.1)

held_shelves : (bs : List Batch) (idents : List Ident) (qs : List Queue) → AllByRecursion (NoneInDoubt bs idents) qs → list_any (λ (s : Shelf). list_any (is_held_among idents) s.rows) (shelves_of bs qs) ≡ false
held_shelves bs idents [] h = refl
held_shelves bs idents (q ∷ qs) h = ap (λ (b : Bool). b || list_any (λ (s : Shelf). list_any (is_held_among idents) s.rows) (shelves_of bs qs)) (held_rows bs idents q.rows h.0) ∙ held_shelves bs idents qs h.1

-- no row of another queue has an ident of a batch: the row that it holds stands on its queue, and an ident is on one queue

none_there : (idents : List Ident) (bs : List Batch) (rows : List Row) → ((x : Row) → Mem x rows → list_any (same_ident x.message.ident) idents ≡ false)
    → list_any (λ (row : Row). list_any (same_ident row.message.ident) idents) (lasting_rows bs rows) ≡ false
none_there idents bs [] f = refl
none_there idents bs (row ∷ rows) f = bool_case (is_persistent row.message) (λ t. list_any (λ (x : Row). list_any (same_ident x.message.ident) idents) (if t then lasting_row bs row ∷ lasting_rows bs rows else lasting_rows bs rows) ≡ false)
    (λ e. ap (λ (t : Bool). t || list_any (λ (x : Row). list_any (same_ident x.message.ident) idents) (lasting_rows bs rows)) (f row (inl refl)) ∙ none_there idents bs rows (λ x m. f x (inr m)))
    (λ e. none_there idents bs rows (λ x m. f x (inr m)))

no_shelf : (queue : List ℕ) (idents : List Ident) (bs : List Batch) (qs : List Queue)
    → ((q : Queue) (x : Row) → Mem q qs → Mem x q.rows → bytes_eq queue q.name ≡ false → list_any (same_ident x.message.ident) idents ≡ false) → list_any (is_elsewhere queue idents) (shelves_of bs qs) ≡ false
no_shelf queue idents bs [] f = refl
no_shelf queue idents bs (q ∷ qs) f =
    ap (λ (t : Bool). t || list_any (is_elsewhere queue idents) (shelves_of bs qs))
    (bool_case (bytes_eq queue q.name) (λ t. bytes_eq queue q.name ≡ t → (not t && list_any (λ (x : Row). list_any (same_ident x.message.ident) idents) (lasting_rows bs q.rows)) ≡ false)
    (λ z e. refl) (λ z e. none_there idents bs q.rows (λ x m. f q x (inl refl) m e)) refl)
    ∙ no_shelf queue idents bs qs (λ d x m. f d x (inr m))

alone : (b : Batch) (p : Plain) → batch_of b.channel p.channels.batches ≡ Some b → IsSound p → list_any (is_elsewhere b.queue b.idents) (lasting p).shelves ≡ false
alone b p e h = no_shelf b.queue b.idents p.channels.batches p.queues (λ q x m n apart. is_false (list_any (same_ident x.message.ident) b.idents) (λ t.
    let full = h.facts.batched.full b.channel b x.message.ident e (any_mem x.message.ident b.idents t) in
    let one : b.queue ≡ q.name = h.facts.apart.alone b.queue q.name full.row x full.there (subst (λ (rows : List Row). Mem x rows) (sym (rows_of p h.named q m)) n) full.is in
    cc (sym apart ∙ ap (bytes_eq b.queue) (sym one) ∙ name_self b.queue)))

preparable : (b : Batch) (channel : List ℕ) (p : Plain) → IsPreparable b channel p → list_any (is_elsewhere b.queue b.idents) (lasting p).shelves ≡ false
    → can_prepare b.unit b.queue b.idents (sender_or (sender_data channel p)) (lasting p).shelves ≡ true
preparable b channel p h elsewhere =
    let session = above_zero b.unit.session h.unit.session in
    let number = above_zero b.unit.n h.unit.number in
    let none : is_some (sender_or (sender_data channel p)).in_doubt ≡ false = ap is_some (sym (sender_doubt (sender_data channel p)) ∙ h.doubt) in
    let le = upto b.unit.session (sender_or (sender_data channel p)).session h.session in
    let apart = distinct b.idents (pairs_chain (λ (x y : Ident). same_ident x y ≡ false) b.idents h.apart) in
    let held = held_shelves p.channels.batches b.idents p.queues h.rows in
    λ i. (session i && number i) && not (none i) && le i && apart i && not (held i) && not (elsewhere i)

abbrev batch_or : Batch → Option Batch → Batch
batch_or b None = b
batch_or b (Some x) = x

prepare_h : (channel : List ℕ) (last : ℕ) (o : Option Batch) (p : Plain) → batch_of channel p.channels.batches ≡ o → CanPrepare channel p → IsSound p → StepHarmless (prepare_of channel last o p) p
prepare_h channel last None p e can h = tt
prepare_h channel last (Some b) p e can h = tested_h (when (is_full (need (prepared_record channel last b)) p) prepare_faults.NoRoom ∷ []) _ p (λ z. (part, batch_given channel b p h e, tt))
  where
    own : b.channel ≡ channel
    own = sym (found_batch channel p.channels.batches b e).1

    found : batch_of b.channel p.channels.batches ≡ Some b
    found = ap (λ (c : List ℕ). batch_of c p.channels.batches) own ∙ e

    fits : IsPreparable b b.channel p
    fits = subst (λ (c : List ℕ). IsPreparable b c p) (sym own) (subst (λ (x : Batch). IsPreparable x channel p) (ap (batch_or b) (sym can.own ∙ e)) can.fits)

    part : IsHarmless (record { forced = Some (prepared_record channel last b); changes = prepared_changes channel last b (sender_or (sender_data channel p)); delta = did.Prepared channel b.unit ∷ [] }) p
    part = subst (λ (c : List ℕ). IsHarmless (record { forced = Some (prepared_record c last b); changes = prepared_changes c last b (sender_or (sender_data c p)); delta = did.Prepared c b.unit ∷ [] }) p) own
        (prepare_harmless b last p (found_batch b.channel p.channels.batches b found).0 ((sound_logs p h).batches b found) (preparable b b.channel p fits (alone b p found h)))

pub prepare_harmless_whole : (channel : List ℕ) (last : ℕ) (p : Plain) → CanPrepare channel p → IsSound p → StepHarmless (prepare channel last p) p
prepare_harmless_whole channel last p can h = prepare_h channel last (batch_of channel p.channels.batches) p refl can h

pub harden_harmless_whole : (channel : List ℕ) (note : Note) (p : Plain) → CanHarden channel note p → StepHarmless (harden channel note p) p
harden_harmless_whole channel note p can = (harden_harmless channel note p can, note_given channel note p, tt)

-- The handler

pub discard_harmless : (queue : List ℕ) (ident : Ident) (p : Plain) → HasFreeRow queue ident p → IsSound p → StepHarmless (discard queue ident p) p
discard_harmless queue ident p free h = removals_harmless whys.Discarded queue (filter (has_ident ident) (stored queue p).rows) p h (are_free queue (filter (has_ident ident) (stored queue p).rows) p
    (λ r m.
    let a = mem_filter r (has_ident ident) ((view p).rows queue) m in
    (a.0, is_free_of r (is_loose queue ident p h.facts free r a.0 (ident_yes r.message.ident ident a.1))))
    (differ_filter ident_of (has_ident ident) ((view p).rows queue) (h.facts.apart.once queue)))
