-- Trigger turns and the handler's discards: the ledger follows.
use Rattle.std.proofs.Common.{ℕ, ◌≡◌, Bool, true, false, List, [], ◌∷◌, refl, ap, sym, subst, ◌∙◌}
use Rattle.std.specs.Prelude.{Option, Some, None, filter}
use Rattle.mq_message.specs.declared.message.Ident.{Ident}
use Rattle.mq_message.specs.declared.message.Message.{Message}
use Rattle.mq_codes.specs.declared.reason.Reason.{Reason}
use Rattle.mq_queue.specs.declared.row.Row.{Row}
use Rattle.mq_queue.specs.Rows.{has_ident}
use Rattle.mq_objects.specs.declared.object.LocalQueue.{LocalQueue}
use Rattle.mq_objects.specs.declared.object.Process.{Process}
use Rattle.mq_objects.specs.Names.{local_of, process_of, is_transmission}
use Rattle.mq_calls.specs.declared.deltas.Did.{Did}
use Rattle.mq_calls.specs.declared.deltas.Why.TheVariants as whys
use Rattle.mq_calls.specs.declared.records.LogRecord.{LogRecord}
use Rattle.mq_calls.specs.State.{Plain}
use Rattle.mq_calls.specs.State.Change.{Serve, CountIdent}
use Rattle.mq_calls.specs.State.Change.{Place as Places}
use Rattle.mq_calls.specs.Reads.{stored}
use Rattle.mq_calls.specs.Changes.{apply, apply_all}
use Rattle.mq_calls.specs.Steps.{logged, do_part, do_all, delta_of}
use Rattle.mq_spec_manager.specs.Get.{removal_record, removal_parts, persistent_rows}
use Rattle.mq_spec_manager.specs.Put.{next_ident}
use Rattle.mq_spec_manager.specs.Triggers.{trigger_message, put_trigger, serve_into, serve_by, takes_it}
use Rattle.mq_law_seen.specs.from_spec_network.Ledger as ledgers
use Rattle.mq_law_seen.specs.from_spec_network.Ledger.{Ledger, places_or, users_or, take_all_gone}
use Rattle.mq_law_seen.specs.from_spec_network.Story.{Mem}
use Rattle.mq_law_seen.specs.from_law_rows.World.{ident_of}
use Rattle.mq_law_seen.proofs.from_law_rows.Lists.{ident_yes}
use Rattle.mq_law_manager.specs.Facts.{Differ}
use Rattle.mq_law_manager.proofs.Removals.{mem_filter, differ_filter}
use Rattle.mq_law_events.specs.Tied.{IsTold, IsFresh, Follow}
use Rattle.mq_law_events.specs.Posting.{IsTimed}
use Rattle.mq_law_events.proofs.Putting.{rows_after, place_follows}
use Rattle.mq_law_events.proofs.Taking.{removed_all, many_follow}
use Rattle.mq_law_events.proofs.Calling.{calm_follows, calm_none, serve_calm}
use Rattle.mq_law_events.proofs.Events.{from_logged, fresh_logged, told_logged}
use Rattle.mq_law_events.proofs.Getting.{follow_then, none_behind, rows_logged}

-- What is removed by a rule, as what has expired.
pub removed_follow : (m : ℕ) (given : Ident → Bool) (p : Plain) (l : Ledger) (q : List ℕ) (xs : List Row) → IsFresh given p → IsTold m p l → ((x : Row) → Mem x xs → Mem x (stored q p).rows × (x.by ≡ None)) → Differ ident_of xs
    → Follow m given p l (do_all (removal_parts whys.Discarded q xs) p) (take_all_gone m (delta_of (removal_parts whys.Discarded q xs)) l)
removed_follow m given p l q [] f t each once = calm_follows m given p p l f t (calm_none p) refl
removed_follow m given p l q (x ∷ xs) f t each once =
    let r : Option LogRecord = removal_record q (persistent_rows (x ∷ xs)) in
    subst (λ ds. Follow m given p l (do_all (removal_parts whys.Discarded q (x ∷ xs)) p) (take_all_gone m ds l)) (sym (none_behind (removed_all whys.Discarded q (x ∷ xs))))
    (from_logged m given r p _ l _ (many_follow m given (logged r p) l q whys.Discarded (x ∷ xs) (fresh_logged given r p f) (told_logged m r p l t) refl
    (λ y n. let k = each y n in (subst (λ rows. Mem y rows) (sym (rows_logged r p q)) k.0, k.1)) once))

-- A discard: the rows of the ident, each of them free.
pub discard_follows : (m : ℕ) (given : Ident → Bool) (p : Plain) (l : Ledger) (q : List ℕ) (i : Ident) → IsFresh given p → IsTold m p l → Differ ident_of (stored q p).rows
    → ((x : Row) → Mem x (stored q p).rows → x.message.ident ≡ i → x.by ≡ None)
    → Follow m given p l (do_all (removal_parts whys.Discarded q (filter (has_ident i) (stored q p).rows)) p) (take_all_gone m (delta_of (removal_parts whys.Discarded q (filter (has_ident i) (stored q p).rows))) l)
discard_follows m given p l q i f t once free = removed_follow m given p l q (filter (has_ident i) (stored q p).rows) f t
    (λ x n. let k = mem_filter x (has_ident i) (stored q p).rows n in (k.0, free x k.0 (ident_yes x.message.ident i k.1))) (differ_filter ident_of (has_ident i) (stored q p).rows once)

-- A trigger turn serves the queue q.

trigger_place : (m : ℕ) (given : Ident → Bool) (p : Plain) (l : Ledger) (q : LocalQueue) (message : Message) (name : List ℕ) → IsFresh given p → IsTold m p l → message.ident ≡ next_ident p
    → Follow m given p l (apply_all (Serve q.name ∷ CountIdent ∷ Places name message ∷ []) p) (ledgers.place m name message l)
trigger_place m given p l q message name f t is =
    let p1 : Plain = apply (Serve q.name) p in
    let first = calm_follows m given p p1 l f t (serve_calm q.name p) refl in
    let r : Plain = apply_all (CountIdent ∷ Places name message ∷ []) p1 in
    let second = place_follows m first.now p1 r l name message first.fresh first.told is (λ d. rows_after (Places name message) (apply CountIdent p1) d tt)
    (record { given = refl; definitions = refl; connections = refl; channels = refl; moment = refl; numbers = refl }) in
    follow_then m given p p1 r l l (ledgers.place m name message l) first second

-- what the ledger posts of it, where it finds the queue
abbrev pub post_served : ℕ → LocalQueue → List Did → Ledger → Ledger
post_served m q ds l = ledgers.trigger_for m (ledgers.first_placed ds) (Some q) l

post_by : (m : ℕ) (p : Plain) (l : Ledger) (q : LocalQueue) (i : Ident) → IsTold m p l → ledgers.trigger_for m (Some i) (Some q) l ≡ ledgers.trigger_by m i q (process_of q.process p.definitions) (local_of q.initiation_queue p.definitions) l
post_by m p l q i t =
    let d : (ledgers.places_at m l).definitions ≡ p.definitions = ap (λ o. (places_or o).definitions) t.placed ∙ t.definitions in
    λ z. ledgers.trigger_by m i q (process_of q.process (d z)) (local_of q.initiation_queue (d z)) l

pub serves : (m : ℕ) (given : Ident → Bool) (p : Plain) (l : Ledger) (q : LocalQueue) → IsFresh given p → IsTold m p l → IsTimed m p l
    → Follow m given p l (do_part (serve_by q (process_of q.process p.definitions) (local_of q.initiation_queue p.definitions) p) p)
    (post_served m q (serve_by q (process_of q.process p.definitions) (local_of q.initiation_queue p.definitions) p).delta l)
serves m given p l q f t w = go (process_of q.process p.definitions) (local_of q.initiation_queue p.definitions) refl refl
  where
    calm : Follow m given p l (apply (Serve q.name) p) l
    calm = calm_follows m given p (apply (Serve q.name) p) l f t (serve_calm q.name p) refl

    into : (process : Process) (i : LocalQueue) → process_of q.process p.definitions ≡ Some process → local_of q.initiation_queue p.definitions ≡ Some i → (o : Option Reason)
        → Follow m given p l (do_part (put_trigger o q process i p) p) (post_served m q (put_trigger o q process i p).delta l)
    into process i a b (Some reason) = calm
    into process i a b None =
        let message : Message = trigger_message (next_ident p) q process i p.moment in
        let posted : post_served m q (put_trigger None q process i p).delta l ≡ ledgers.place m i.name message l =
        post_by m p l q (next_ident p) t ∙ (λ z. ledgers.trigger_by m (next_ident p) q (a z) (b z) l) ∙ ap (λ x. ledgers.place m i.name (trigger_message (next_ident p) q process i x) l) (ap (λ o. (users_or o).moment) w.used ∙ w.moment) in
        subst (λ k. Follow m given p l (do_part (put_trigger None q process i p) p) k) (sym posted) (trigger_place m given p l q message i.name f t refl)

    by_usage : (process : Process) (i : LocalQueue) → process_of q.process p.definitions ≡ Some process → local_of q.initiation_queue p.definitions ≡ Some i → (b : Bool)
        → Follow m given p l (do_part (serve_into b q process i p) p) (post_served m q (serve_into b q process i p).delta l)
    by_usage process i a c true = calm
    by_usage process i a c false = into process i a c (takes_it i p)

    go : (o : Option Process) (i : Option LocalQueue) → process_of q.process p.definitions ≡ o → local_of q.initiation_queue p.definitions ≡ i
        → Follow m given p l (do_part (serve_by q o i p) p) (post_served m q (serve_by q o i p).delta l)
    go None i a b = calm
    go (Some process) None a b = calm
    go (Some process) (Some i) a b = by_usage process i a b (is_transmission i.usage)
