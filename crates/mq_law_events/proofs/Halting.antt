-- Calls whose write is stopped: the manager freezes, and the ledger loses what the manager does.
use Rattle.std.proofs.Common.{ℕ, zero, suc, ◌≡◌, Bool, true, false, List, [], ◌∷◌, ◌++◌, subst}
use Rattle.std.specs.Prelude.{Option, Some, None}
use Rattle.mq_message.specs.declared.message.Ident.{Ident}
use Rattle.mq_codes.specs.declared.reason.Reason.{Reason}
use Rattle.mq_queue.specs.declared.row.Row.{Row}
use Rattle.mq_calls.specs.declared.answers.Get.{Get}
use Rattle.mq_calls.specs.declared.answers.Answer.TheVariants as answers
use Rattle.mq_calls.specs.declared.answers.GetAnswer.{GetAnswer}
use Rattle.mq_calls.specs.declared.answers.GetAnswer.TheVariants as get_answers
use Rattle.mq_codes.specs.declared.reason.Reason.TheVariants as reasons
use Rattle.mq_calls.specs.declared.answers.Hconn.{Hconn}
use Rattle.mq_calls.specs.declared.answers.Hobj.{Hobj}
use Rattle.mq_calls.specs.declared.deltas.Why.TheVariants as whys
use Rattle.mq_calls.specs.declared.state.Connection.{Connection}
use Rattle.mq_calls.specs.declared.state.Handle.{Handle}
use Rattle.mq_calls.specs.State.{Plain}
use Rattle.mq_calls.specs.Reads.{handle_at, stored}
use Rattle.mq_calls.specs.Steps.{Step, Part, do_all, delta_of, note_of}
use Rattle.mq_calls.specs.Steps.Step.{Refuse, Do}
use Rattle.mq_spec_manager.specs.Handles.{connected}
use Rattle.mq_spec_manager.specs.Put.{queue_at}
use Rattle.mq_spec_manager.specs.Get.{got, got_answer, is_too_long, found_part, mqget, get_up, get_handle, get_tests, room_tests, get_found, scanned, expired_parts, removal_part, is_under, is_waiting, is_left, with_row, without_row}
use Rattle.mq_law_seen.specs.from_spec_network.Ledger as ledgers
use Rattle.mq_law_seen.specs.from_spec_network.Ledger.{Ledger, take_all_gone}
use Rattle.mq_law_seen.specs.from_spec_network.Story.{Mem}
use Rattle.mq_law_seen.specs.from_law_rows.World.{ident_of}
use Rattle.mq_law_manager.specs.Facts.{Differ}
use Rattle.mq_law_events.specs.Tied.{IsTold, IsFresh}
use Rattle.mq_law_events.specs.Posting.{StopFollows}
use Rattle.mq_law_events.proofs.Stopping.{freezes}
use Rattle.mq_law_events.proofs.Leaving.{one_stops}
use Rattle.mq_law_events.proofs.Getting.{expired_follow, follow_then, none_behind, expired_each, expired_once}
use Rattle.mq_law_manager.proofs.ShortSteps.{IsShort, StepIsShort, tested_all, live_all, open_all}

pub short_stops : (F : Type 0) {T : Type 0} (m : ℕ) (given : Ident → Bool) (p : Plain) (l : Ledger) (reply : T) (parts : List Part) → IsFresh given p → IsTold m p l → IsShort parts → StopFollows {F = F} m given p l (Do reply parts)
short_stops F m given p l reply [] f t s n left w = absurd w
short_stops F m given p l reply (part ∷ []) f t s n left w = one_stops F m given p l reply part f t n left w
short_stops F m given p l reply (x ∷ y ∷ parts) f t s n left w = absurd s

pub step_stops : {F T : Type 0} (m : ℕ) (given : Ident → Bool) (p : Plain) (l : Ledger) (step : Step F T) → IsFresh given p → IsTold m p l → StepIsShort step → StopFollows m given p l step
step_stops m given p l (Refuse reason) f t s = tt
step_stops {F} m given p l (Do reply parts) f t s = short_stops F m given p l reply parts f t s

-- MQGET, whose expired rows go first

abbrev first_part : List ℕ → Row → List Row → Part
first_part q x xs = removal_part whys.Expired q (x ∷ xs)

behind_stops : (m : ℕ) (given : Ident → Bool) (p : Plain) (l : Ledger) (q : List ℕ) (xs : List Row) (more : List Part) (reply : GetAnswer) → IsFresh given p → IsTold m p l → ((x : Row) → Mem x xs → Mem x (stored q p).rows × (x.by ≡ None)) → Differ ident_of xs
    → IsShort more → StopFollows {F = Reason} m given p l (Do reply (expired_parts q xs ++ more))
behind_stops m given p l q [] more reply f t each once s n left w = short_stops Reason m given p l reply more f t s n left w
behind_stops m given p l q (x ∷ xs) more reply f t each once s zero left w = freezes m given p l (note_of (first_part q x xs) (first_part q x xs).forced) left f t
behind_stops m given p l q (x ∷ xs) [] reply f t each once s (suc n) left w = absurd w
behind_stops m given p l q (x ∷ xs) (part ∷ []) reply f t each once s (suc zero) left w =
    let k : Ledger = take_all_gone m (delta_of (expired_parts q (x ∷ xs))) l in
    let p1 : Plain = do_all (expired_parts q (x ∷ xs)) p in
    let first = expired_follow m given p l q (x ∷ xs) f t each once in
    follow_then m given p p1 _ l k (ledgers.lose m k) first (freezes m first.now p1 k (note_of part part.forced) left first.fresh first.told)
behind_stops m given p l q (x ∷ xs) (part ∷ []) reply f t each once s (suc (suc n)) left w = absurd w
behind_stops m given p l q (x ∷ xs) (y ∷ z ∷ parts) reply f t each once s (suc n) left w = absurd s

pub gets_stop : (m : ℕ) (given : Ident → Bool) (p : Plain) (l : Ledger) (hc : Hconn) (ho : Hobj) (get : Get) (until : Option ℕ) → IsFresh given p → IsTold m p l → ((d : List ℕ) → Differ ident_of (stored d p).rows)
    → StopFollows m given p l (mqget hc ho get until p)
gets_stop m given p l hc ho get until f t once =
    live_all (StopFollows m given p l) (λ r. tt) (connected hc p) (get_up ho get until p) (λ c.
    open_all (StopFollows m given p l) (λ r. tt) (handle_at ho.number c.handles) (get_handle get until p c) (λ h.
    tested_all (StopFollows m given p l) (λ r. tt) (get_tests get p c h) _ (
    tested_all (StopFollows m given p l) (λ r. tt) (room_tests get c (scanned get h p) p) _ (found c h (scanned get h p).found))))
  where
    some_more : (h : Handle) (more : List Part) (reply : GetAnswer) → IsShort more → StopFollows {F = Reason} m given p l (Do reply (expired_parts (queue_at h.leads) (scanned get h p).expired ++ more))
    some_more h more reply s = behind_stops m given p l (queue_at h.leads) (scanned get h p).expired more reply f t (expired_each get h p) (expired_once get h p (once (queue_at h.leads))) s

    no_more : (h : Handle) (reply : GetAnswer) → StopFollows {F = Reason} m given p l (Do reply (expired_parts (queue_at h.leads) (scanned get h p).expired))
    no_more h reply = subst (λ parts. StopFollows {F = Reason} m given p l (Do reply parts)) (none_behind (expired_parts (queue_at h.leads) (scanned get h p).expired)) (some_more h [] reply tt)

    found : (c : Connection) (h : Handle) (o : Option Row) → StopFollows m given p l (get_found get until p c h (expired_parts (queue_at h.leads) (scanned get h p).expired) o)
    found c h None = none (is_under get.take) (is_waiting until p)
      where
        none : (under waiting : Bool) → StopFollows m given p l (without_row under waiting (expired_parts (queue_at h.leads) (scanned get h p).expired))
        none true waiting = no_more h (get_answers.Done (answers.Failed reasons.NoMessageUnderCursor))
        none false true = short_stops Reason m given p l get_answers.NotYet [] f t tt
        none false false = no_more h (get_answers.Done (answers.Failed reasons.NoMessageAvailable))
    found c h (Some row) = one (is_left get row.message)
      where
        one : (left : Bool) → StopFollows m given p l (with_row left get c h (queue_at h.leads) row (expired_parts (queue_at h.leads) (scanned get h p).expired))
        one true = no_more h (get_answers.Done (answers.Warning reasons.TruncatedMessageFailed (got get.room row.message)))
        one false = some_more h (found_part get c h (queue_at h.leads) row ∷ []) (get_answers.Done (got_answer (is_too_long get row.message) (got get.room row.message))) tt
