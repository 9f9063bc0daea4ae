-- What is found of queues in slots by a map from their names, and that the map stays true.
use Rattle.std.proofs.Common.{◌≡◌, ℕ, ◌+◌, ◌<◌, cond, List, [], ◌∷◌, ◌++◌, refl, sym, ap, subst, ◌∙◌, Some, None, Option, is_some, if◌then◌else◌, length, get_or, slice_set, arith}
use Rattle.std.specs.Str.{bytes_eq}
use Rattle.mq_place.specs.States.{QueueState, state_in, change_state, without_state}
use Rattle.mq_place.specs.Slots.{present, IsFiled, slot_at, slot_changed, slots_changed}
use Rattle.mq_place.proofs.SlotLaws.{At, NotIn, Found, found, at_within, state_at, state_at_or, state_there, state_not_in, KeepsName, place-change, distinct-change, count-change, present-change, present-same, place-changes, distinct-changes, count-changes, place-push, distinct-push, count-push, place-clear, present-clear, present-not_in, distinct-clear, count-clear}

module _ (slots : List (Option QueueState)) (find : List ℕ → Option ℕ) (count : ℕ) (filed : IsFiled slots find count) where
  pub at_found : (name : List ℕ) (i : ℕ) → find name ≡ Some i → At name slots i
  at_found name i e = subst (Found name slots) (sym (filed.found name) ∙ e) (found name slots)

  pub none_found : (name : List ℕ) → find name ≡ None → NotIn name slots
  none_found name e = subst (Found name slots) (sym (filed.found name) ∙ e) (found name slots)

  pub found_within : (name : List ℕ) (i : ℕ) → find name ≡ Some i → i < length slots
  found_within name i e = at_within name slots i (at_found name i e)

  pub state_found : (name : List ℕ) (i : ℕ) → find name ≡ Some i → state_in name (present slots) ≡ slot_at slots i
  state_found name i e = state_at name slots i (at_found name i e)

  pub state_found_or : (name : List ℕ) (i : ℕ) (d : Option QueueState) → find name ≡ Some i → state_in name (present slots) ≡ get_or slots i d
  state_found_or name i d e = state_at_or name slots i d (at_found name i e)

  pub state_none : (name : List ℕ) → find name ≡ None → state_in name (present slots) ≡ None
  state_none name e = state_not_in name slots (none_found name e)

  pub none_of_state : (name : List ℕ) → state_in name (present slots) ≡ None → find name ≡ None
  none_of_state name e = by (find name) refl
    where
      by : (r : Option ℕ) → find name ≡ r → r ≡ None
      by None h = refl
      by (Some i) h = absurd (state_there name slots i (at_found name i h) e)

  pub filed_change : (f : QueueState → QueueState) → KeepsName f → (i : ℕ) → IsFiled (slot_changed f slots i) find count
  filed_change f keeps i = record {
    found = λ name. filed.found name ∙ sym (place-change f keeps slots i name);
    distinct = distinct-change f keeps slots i filed.distinct;
    counted = filed.counted ∙ sym (count-change f keeps slots i);
  }

  pub filed_changes : (f : QueueState → QueueState) → KeepsName f → IsFiled (slots_changed f slots) find count
  filed_changes f keeps = record {
    found = λ name. filed.found name ∙ sym (place-changes f keeps slots name);
    distinct = distinct-changes f keeps slots filed.distinct;
    counted = filed.counted ∙ sym (count-changes f keeps slots);
  }

  pub present_change : (f : QueueState → QueueState) → KeepsName f → (name : List ℕ) (i : ℕ) → find name ≡ Some i → present (slot_changed f slots i) ≡ change_state name f (present slots)
  present_change f keeps name i e = present-change f keeps name slots i (at_found name i e)

  pub present_same : (f : QueueState → QueueState) → KeepsName f → (name : List ℕ) → find name ≡ None → present slots ≡ change_state name f (present slots)
  present_same f keeps name e = present-same f keeps name slots (none_found name e)

  pub filed_push : (new : QueueState) (find' : List ℕ → Option ℕ) (count' : ℕ) → find new.queue.name ≡ None
      → ((name : List ℕ) → find' name ≡ cond (bytes_eq new.queue.name name) (Some (length slots)) (find name)) → count' ≡ count + 1 → IsFiled (slots ++ Some new ∷ []) find' count'
  filed_push new find' count' e put more =
      let ne = none_found new.queue.name e in
      record {
        found = λ name. put name ∙ ap (cond (bytes_eq new.queue.name name) (Some (length slots))) (filed.found name) ∙ sym (place-push new slots ne name);
        distinct = distinct-push new slots filed.distinct ne;
        counted = omega (arith, more, filed.counted, count-push new slots);
      }

  pub filed_clear : (gone : List ℕ) (i : ℕ) (find' : List ℕ → Option ℕ) (count' : ℕ) → find gone ≡ Some i
      → ((name : List ℕ) → find' name ≡ cond (bytes_eq gone name) None (find name)) → count' + 1 ≡ count → IsFiled (slice_set slots i None) find' count'
  filed_clear gone i find' count' e taken fewer =
      let at = at_found gone i e in
      record {
        found = λ name. taken name ∙ ap (cond (bytes_eq gone name) None) (filed.found name) ∙ sym (place-clear gone slots i filed.distinct at name);
        distinct = distinct-clear gone slots i filed.distinct at;
        counted = omega (arith, fewer, filed.counted, count-clear gone slots i at);
      }

  -- the same, by what a removal answers
  pub filed_taken : (gone : List ℕ) (i : ℕ) (find' : List ℕ → Option ℕ) (count' : ℕ) (answer : Option ℕ) → answer ≡ find gone → answer ≡ Some i
      → ((name : List ℕ) → find' name ≡ cond (bytes_eq gone name) None (find name)) → count' + (if is_some answer then 1 else 0) ≡ count → IsFiled (slice_set slots i None) find' count'
  filed_taken gone i find' count' answer of there taken fewer =
      let one : count' + 1 ≡ count = ap (λ (r : Option ℕ). count' + (if is_some r then 1 else 0)) (sym there) ∙ fewer in
      filed_clear gone i find' count' (sym of ∙ there) taken one

  pub present_deleted : (name : List ℕ) (i : ℕ) → find name ≡ Some i → present (slice_set slots i None) ≡ without_state name (present slots)
  present_deleted name i e = present-clear name slots i filed.distinct (at_found name i e)

  -- and where it isn't there
  pub present_kept : (name : List ℕ) → find name ≡ None → present slots ≡ without_state name (present slots)
  present_kept name e = present-not_in name slots (none_found name e)
