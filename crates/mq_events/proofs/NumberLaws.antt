-- Each call of a manager has one part at most, but for a get, which tells of the expired rows first; so what was told shows
-- which part's write was stopped.
use Rattle.std.proofs.Common.{ℕ, zero, suc, ◌≡◌, refl, Bool, true, false, List, [], ◌∷◌, ◌++◌}
use Rattle.std.specs.Prelude.{Option, Some, None}
use Rattle.mq_codes.specs.declared.reason.Reason.{Reason}
use Rattle.mq_queue.specs.declared.row.Row.{Row}
use Rattle.mq_calls.specs.declared.answers.Get.{Get}
use Rattle.mq_calls.specs.declared.answers.GetAnswer.{GetAnswer}
use Rattle.mq_calls.specs.declared.answers.GetAnswer.TheVariants as get_answers
use Rattle.mq_calls.specs.declared.answers.Hconn.{Hconn}
use Rattle.mq_calls.specs.declared.answers.Hobj.{Hobj}
use Rattle.mq_calls.specs.declared.state.Connection.{Connection}
use Rattle.mq_calls.specs.declared.state.Handle.{Handle}
use Rattle.mq_calls.specs.State.{Plain}
use Rattle.mq_calls.specs.Reads.{handle_at}
use Rattle.mq_calls.specs.Steps.{Step, Part}
use Rattle.mq_calls.specs.Steps.Step.{Refuse, Do}
use Rattle.mq_spec_manager.specs.Handles.{connected}
use Rattle.mq_spec_manager.specs.Get.{found_part, mqget, get_up, get_handle, get_tests, room_tests, get_found, scanned, expired_parts, is_under, is_waiting, is_left, with_row, without_row}
use Rattle.mq_spec_manager.specs.Put.{queue_at}
use Rattle.mq_events.specs.Outcomes.{IsNumbered, StepIsNumbered}
use Rattle.mq_manager.proofs.from_law_manager.ShortSteps.{IsShort, StepIsShort, tested_all, live_all, open_all}

short_numbered : (parts : List Part) → IsShort parts → IsNumbered parts
short_numbered [] s n w = absurd w
short_numbered (x ∷ []) s zero w = refl
short_numbered (x ∷ []) s (suc n) w = absurd w
short_numbered (x ∷ y ∷ parts) s n w = absurd s

pub numbered : {F T : Type 0} (step : Step F T) → StepIsShort step → StepIsNumbered step
numbered (Refuse reason) s = tt
numbered (Do reply parts) s = short_numbered parts s

-- MQGET, whose expired rows go first.
alone_numbered : (q : List ℕ) (xs : List Row) → IsNumbered (expired_parts q xs)
alone_numbered q [] n w = absurd w
alone_numbered q (x ∷ xs) zero w = refl
alone_numbered q (x ∷ xs) (suc n) w = absurd w

behind_numbered : (q : List ℕ) (xs : List Row) (part : Part) → IsNumbered (expired_parts q xs ++ part ∷ [])
behind_numbered q [] part zero w = refl
behind_numbered q [] part (suc n) w = absurd w
behind_numbered q (x ∷ xs) part zero w = refl
behind_numbered q (x ∷ xs) part (suc zero) w = refl
behind_numbered q (x ∷ xs) part (suc (suc n)) w = absurd w

pub get_numbered : (hc : Hconn) (ho : Hobj) (get : Get) (until : Option ℕ) (p : Plain) → StepIsNumbered (mqget hc ho get until p)
get_numbered hc ho get until p =
    live_all StepIsNumbered (λ r. tt) (connected hc p) (get_up ho get until p) (λ c.
    open_all StepIsNumbered (λ r. tt) (handle_at ho.number c.handles) (get_handle get until p c) (λ h.
    tested_all StepIsNumbered (λ r. tt) (get_tests get p c h) _ (
    tested_all StepIsNumbered (λ r. tt) (room_tests get c (scanned get h p) p) _ (found c h (scanned get h p).found))))
  where
    found : (c : Connection) (h : Handle) (o : Option Row) → StepIsNumbered (get_found get until p c h (expired_parts (queue_at h.leads) (scanned get h p).expired) o)
    found c h None = none (is_under get.take) (is_waiting until p)
      where
        none : (under waiting : Bool) → StepIsNumbered (without_row under waiting (expired_parts (queue_at h.leads) (scanned get h p).expired))
        none true waiting = alone_numbered (queue_at h.leads) (scanned get h p).expired
        none false true = short_numbered [] tt
        none false false = alone_numbered (queue_at h.leads) (scanned get h p).expired
    found c h (Some row) = one (is_left get row.message)
      where
        one : (left : Bool) → StepIsNumbered (with_row left get c h (queue_at h.leads) row (expired_parts (queue_at h.leads) (scanned get h p).expired))
        one true = alone_numbered (queue_at h.leads) (scanned get h p).expired
        one false = behind_numbered (queue_at h.leads) (scanned get h p).expired (found_part get c h (queue_at h.leads) row)

-- one that may wait still does nothing, and is asked to wait
abbrev pub WaitsOnly : Option ℕ → Plain → Step Reason GetAnswer → Type 0
WaitsOnly until p (Refuse reason) = Unit {0}
WaitsOnly until p (Do get_answers.NotYet parts) = (is_waiting until p ≡ true) × (parts ≡ [])
WaitsOnly until p (Do (get_answers.Done answer) parts) = Unit {0}

pub get_waits : (hc : Hconn) (ho : Hobj) (get : Get) (until : Option ℕ) (p : Plain) → WaitsOnly until p (mqget hc ho get until p)
get_waits hc ho get until p =
    live_all (WaitsOnly until p) (λ r. tt) (connected hc p) (get_up ho get until p) (λ c.
    open_all (WaitsOnly until p) (λ r. tt) (handle_at ho.number c.handles) (get_handle get until p c) (λ h.
    tested_all (WaitsOnly until p) (λ r. tt) (get_tests get p c h) _ (
    tested_all (WaitsOnly until p) (λ r. tt) (room_tests get c (scanned get h p) p) _ (found c h (scanned get h p).found))))
  where
    found : (c : Connection) (h : Handle) (o : Option Row) → WaitsOnly until p (get_found get until p c h (expired_parts (queue_at h.leads) (scanned get h p).expired) o)
    found c h None = none (is_under get.take) (is_waiting until p) refl
      where
        none : (under waiting : Bool) → is_waiting until p ≡ waiting → WaitsOnly until p (without_row under waiting (expired_parts (queue_at h.leads) (scanned get h p).expired))
        none true waiting e = tt
        none false true e = (e, refl)
        none false false e = tt
    found c h (Some row) = one (is_left get row.message)
      where
        one : (left : Bool) → WaitsOnly until p (with_row left get c h (queue_at h.leads) row (expired_parts (queue_at h.leads) (scanned get h p).expired))
        one true = tt
        one false = tt
