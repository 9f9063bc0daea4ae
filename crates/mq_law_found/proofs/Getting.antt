-- MQGET, whose write of the expired rows, or of its own row, was stopped and is found; and the rows that a rule discards.
use Rattle.std.proofs.Common.{ℕ, zero, suc, ◌≡◌, Bool, true, false, List, [], ◌∷◌, ◌++◌, refl, ap, ◌∙◌}
use Rattle.std.specs.Prelude.{Option, Some, None, if◌then◌else◌}
use Rattle.mq_codes.specs.declared.reason.Reason.{Reason}
use Rattle.mq_codes.specs.declared.reason.Reason.TheVariants as reasons
use Rattle.mq_queue.specs.declared.row.Row.{Row}
use Rattle.mq_calls.specs.declared.answers.Answer.TheVariants as answers
use Rattle.mq_calls.specs.declared.answers.Get.{Get}
use Rattle.mq_calls.specs.declared.answers.GetAnswer.{GetAnswer}
use Rattle.mq_calls.specs.declared.answers.GetAnswer.TheVariants as get_answers
use Rattle.mq_calls.specs.declared.answers.Hconn.{Hconn}
use Rattle.mq_calls.specs.declared.answers.Hobj.{Hobj}
use Rattle.mq_calls.specs.declared.deltas.Did.TheVariants as did
use Rattle.mq_calls.specs.declared.deltas.Why.{Why}
use Rattle.mq_calls.specs.declared.deltas.Why.TheVariants as whys
use Rattle.mq_calls.specs.declared.state.Connection.{Connection}
use Rattle.mq_calls.specs.declared.state.Handle.{Handle}
use Rattle.mq_disk.specs.declared.cutter.Stop.{Stop}
use Rattle.mq_history.specs.declared.calls.Call.{Call}
use Rattle.mq_history.specs.declared.calls.Call.TheVariants as calls
use Rattle.mq_history.specs.declared.calls.Reply.TheVariants as replies
use Rattle.mq_calls.specs.State.{Plain}
use Rattle.mq_calls.specs.State.Change.{SetCursor}
use Rattle.mq_calls.specs.Reads.{connection_at, handle_at}
use Rattle.mq_calls.specs.Steps.{Step, Part, silent, do_part, do_all}
use Rattle.mq_calls.specs.Steps.Step.{Do}
use Rattle.mq_spec_manager.specs.Handles.{connected}
use Rattle.mq_spec_manager.specs.Put.{queue_at}
use Rattle.mq_spec_manager.specs.Get.{scanned, asked, looked_at, is_destructive, is_left, is_too_long, is_under, is_waiting, got, got_answer, expired_parts, removal_part, removal_parts, taking_part, found_part, with_row, without_row, get_found, get_handle, get_up, get_tests, get_scanned, room_tests, mqget}
use Rattle.mq_spec_network.specs.Ledger as ledgers
use Rattle.mq_spec_network.specs.Ledger.{Ledger, post_call, first_got, get_by, received_on, receive_if, move_all}
use Rattle.mq_law_manager.specs.View.{view}
use Rattle.mq_law_manager.specs.Facts.{IsSound}
use Rattle.mq_law_manager.specs.Kept.{AllKeep, StepKeeps}
use Rattle.mq_law_manager.proofs.Steps.{free_is}
use Rattle.mq_law_manager.proofs.Units.{found_number}
use Rattle.mq_law_manager.proofs.Removals.{scan_found, scan_apart, looked_mem, looked_differ, IsFound, after_removals}
use Rattle.mq_law_events.proofs.Events.{lives}
use Rattle.mq_law_events.proofs.Getting.{expired_each, expired_once}
use Rattle.mq_law_events.proofs.Taking.{removed_all}
use Rattle.mq_law_found.specs.Finds.{PartNotes, StepNotes}
use Rattle.mq_law_found.proofs.Finding.{tested_with, live_with, open_with, none_noted, part_noted}
use Rattle.mq_law_found.proofs.Going.{IsGoing, PostsNone, removal_noted, got_noted}

-- Expired rows post nothing more

none_got : (q : List ℕ) (xs : List Row) → first_got (removed_all whys.Expired q xs) ≡ None
none_got q [] = refl
none_got q (x ∷ xs) = none_got q xs

expired_posts : (m : ℕ) (hc : Hconn) (ho : Hobj) (get : Get) (until : Option ℕ) (q : List ℕ) → PostsNone m (calls.Mqget hc ho get until) whys.Expired q
expired_posts m hc ho get until q ys l by_ = ap (λ o. get_by get m hc o l) (none_got q ys)

-- The row that is found

taking_noted : (m : ℕ) (call : Call) (moment : ℕ) (p : Plain) (sync : Bool) (c : Connection) (q : List ℕ) (x : Row) → IsSound p → IsFound p c q x → IsSound (do_part (taking_part sync c q x) p)
    → (sync ≡ false → (l : Ledger) (by : Stop) → post_call m call (replies.Stopped by) [] (did.Removed q x.message.ident whys.Got ∷ []) l ≡ ledgers.take_got m x.message.ident l)
    → PartNotes m call moment p (taking_part sync c q x)
taking_noted m call moment p true c q x h found sound posts = λ r e chance by_ ds forced. absurd cc
taking_noted m call moment p false c q x h found sound posts = got_noted m call moment p q x h found.there found.free sound (posts refl)

found_noted : (m : ℕ) (moment : ℕ) (p : Plain) (hc : Hconn) (ho : Hobj) (get : Get) (until : Option ℕ) (c : Connection) (h : Handle) (q : List ℕ) (x : Row) → IsSound p → IsFound p c q x → IsSound (do_part (found_part get c h q x) p)
    → PartNotes m (calls.Mqget hc ho get until) moment p (found_part get c h q x)
found_noted m moment p hc ho get until c h q x sound found next = go (is_destructive get.take) refl next
  where
    part : Bool → Part
    part t = if t then taking_part get.sync c q x else silent (SetCursor c.number h.number x.place ∷ [])

    go : (t : Bool) → is_destructive get.take ≡ t → IsSound (do_part (part t) p) → PartNotes m (calls.Mqget hc ho get until) moment p (part t)
    go true e n = taking_noted m (calls.Mqget hc ho get until) moment p get.sync c q x sound found n
        (λ z l by_. (λ i. if e i then ledgers.get_row (z i) m hc x.message.ident l else l))
    go false e n = λ r entry chance by_ ds forced. absurd cc

-- the parts one behind the other
behind_noted : (m : ℕ) (call : Call) (p : Plain) (q : List ℕ) (xs : List Row) (part : Part) (reply : GetAnswer) → IsSound p → IsGoing q xs p → PostsNone m call whys.Expired q
    → (IsSound (do_all (expired_parts q xs) p) → IsSound (do_part part (do_all (expired_parts q xs) p)) → PartNotes m call p.moment (do_all (expired_parts q xs) p) part)
    → AllKeep IsSound (expired_parts q xs ++ part ∷ []) p → StepNotes {F = Reason} m call p (Do reply (expired_parts q xs ++ part ∷ []))
behind_noted m call p q [] part reply h going posts more k zero left e chance by_ ds note w is = part_noted m call p.moment p part left e chance by_ ds note (more h k.0) is
behind_noted m call p q [] part reply h going posts more k (suc n) left e chance by_ ds note w is = absurd w
behind_noted m call p q (x ∷ xs) part reply h going posts more k zero left e chance by_ ds note w is =
    part_noted m call p.moment p (removal_part whys.Expired q (x ∷ xs)) left e chance by_ ds note (removal_noted m call p.moment p whys.Expired q (x ∷ xs) h going k.0 refl posts) is
behind_noted m call p q (x ∷ xs) part reply h going posts more k (suc zero) left e chance by_ ds note w is =
    part_noted m call p.moment (do_all (expired_parts q (x ∷ xs)) p) part left e chance by_ ds note (more k.0 k.1.0) is
behind_noted m call p q (x ∷ xs) part reply h going posts more k (suc (suc n)) left e chance by_ ds note w is = absurd w

pub removals_noted : (F : Type 0) {T : Type 0} (m : ℕ) (call : Call) (p : Plain) (why : Why) (q : List ℕ) (xs : List Row) (reply : T) → IsSound p → IsGoing q xs p → ledgers.is_taken why ≡ true → PostsNone m call why q
    → AllKeep IsSound (removal_parts why q xs) p → StepNotes {F = F} m call p (Do reply (removal_parts why q xs))
removals_noted F m call p why q [] reply h going taken posts k n left e chance by_ ds note w is = absurd w
removals_noted F m call p why q (x ∷ xs) reply h going taken posts k zero left e chance by_ ds note w is =
    part_noted m call p.moment p (removal_part why q (x ∷ xs)) left e chance by_ ds note (removal_noted m call p.moment p why q (x ∷ xs) h going k.0 taken posts) is
removals_noted F m call p why q (x ∷ xs) reply h going taken posts k (suc n) left e chance by_ ds note w is = absurd w

pub gets_noted : (m : ℕ) (p : Plain) (hc : Hconn) (ho : Hobj) (get : Get) (until : Option ℕ) → IsSound p → StepKeeps IsSound (mqget hc ho get until p) p → StepNotes m (calls.Mqget hc ho get until) p (mqget hc ho get until p)
gets_noted m p hc ho get until h =
    live_with P (λ r k. tt) (connected hc p) (get_up ho get until p) (λ c e.
    open_with P (λ r k. tt) (handle_at ho.number c.handles) (get_handle get until p c) (λ x e2.
    tested_with P (λ r k. tt) (get_tests get p c x) (get_scanned get until p c x (scanned get x p)) (λ e3.
    tested_with P (λ r k. tt) (room_tests get c (scanned get x p) p) (get_found get until p c x (expired_parts (queue_at x.leads) (scanned get x p).expired) (scanned get x p).found) (λ e4.
    found c x (lives hc c p e) (scanned get x p).found refl))))
  where
    call : Call
    call = calls.Mqget hc ho get until

    P : Step Reason GetAnswer → Type 0
    P step = StepKeeps IsSound step p → StepNotes m (calls.Mqget hc ho get until) p step

    going : (x : Handle) → IsGoing (queue_at x.leads) (scanned get x p).expired p
    going x = record { each = expired_each get x p; once = expired_once get x p (h.facts.apart.once (queue_at x.leads)) }

    no_more : (x : Handle) (reply : GetAnswer) → P (Do reply (expired_parts (queue_at x.leads) (scanned get x p).expired))
    no_more x reply k = removals_noted Reason m call p whys.Expired (queue_at x.leads) (scanned get x p).expired reply h (going x) refl (expired_posts m hc ho get until (queue_at x.leads)) k

    found : (c : Connection) (x : Handle) → connection_at hc.number p.connections ≡ Some c → (o : Option Row) → (scanned get x p).found ≡ o → P (get_found get until p c x (expired_parts (queue_at x.leads) (scanned get x p).expired) o)
    found c x live None is = none (is_under get.take) (is_waiting until p)
      where
        none : (under waiting : Bool) → P (without_row under waiting (expired_parts (queue_at x.leads) (scanned get x p).expired))
        none true waiting = no_more x (get_answers.Done (answers.Failed reasons.NoMessageUnderCursor))
        none false true = λ k. none_noted Reason m call p get_answers.NotYet
        none false false = no_more x (get_answers.Done (answers.Failed reasons.NoMessageAvailable))
    found c x live (Some row) is = one (is_left get row.message)
      where
        looked : List Row
        looked = looked_at get.take x.cursor ((view p).rows (queue_at x.leads))

        there : IsFound (do_all (expired_parts (queue_at x.leads) (scanned get x p).expired) p) c (queue_at x.leads) row
        there = let z = scan_found (asked get) p looked row is in
            after_removals whys.Expired (queue_at x.leads) (scanned get x p).expired p c row
            (record { there = looked_mem get.take x.cursor ((view p).rows (queue_at x.leads)) row z.0; free = free_is row z.1; live = ap (λ n. connection_at n p.connections) (found_number hc.number c p.connections live) ∙ live })
            (λ y n. scan_apart (asked get) p looked row y (looked_differ get.take x.cursor ((view p).rows (queue_at x.leads)) (h.facts.apart.once (queue_at x.leads))) is n)

        one : (left : Bool) → P (with_row left get c x (queue_at x.leads) row (expired_parts (queue_at x.leads) (scanned get x p).expired))
        one true = no_more x (get_answers.Done (answers.Warning reasons.TruncatedMessageFailed (got get.room row.message)))
        one false = behind_noted m call p (queue_at x.leads) (scanned get x p).expired (found_part get c x (queue_at x.leads) row) (get_answers.Done (got_answer (is_too_long get row.message) (got get.room row.message)))
            h (going x) (expired_posts m hc ho get until (queue_at x.leads)) (λ s n. found_noted m p.moment (do_all (expired_parts (queue_at x.leads) (scanned get x p).expired) p) hc ho get until c x (queue_at x.leads) row s there n)

-- Discards

discard_received : (q : List ℕ) (ys : List Row) → received_on (removed_all whys.Discarded q ys) ≡ None
discard_received q [] = refl
discard_received q (y ∷ ys) = discard_received q ys

discard_moves : (m : ℕ) (q : List ℕ) (ys : List Row) (l : Ledger) → move_all m (removed_all whys.Discarded q ys) l ≡ l
discard_moves m q [] l = refl
discard_moves m q (y ∷ ys) l = discard_moves m q ys l

pub discard_posts : (m : ℕ) (q : List ℕ) → PostsNone m calls.Turn whys.Discarded q
discard_posts m q ys l by_ = (λ i. receive_if m (discard_received q ys i) [] (removed_all whys.Discarded q ys) (discard_moves m q ys l i))
