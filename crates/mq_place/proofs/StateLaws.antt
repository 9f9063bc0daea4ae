-- One queue that is changed, as the changes of a manager mean it: all queues are changed, and those of other names stay.
use Rattle.std.proofs.Common.{◌≡◌, ℕ, Bool, true, false, cond, List, [], ◌∷◌, refl, sym, ap, subst, ◌∙◌}
use Rattle.std.specs.Prelude.{Option, Some, None, map, not, ◌&&◌, ◌||◌}
use Rattle.std.specs.List.{list_any}
use Rattle.std.specs.Str.{bytes_eq}
use Rattle.mq_message.specs.declared.message.Ident.{Ident}
use Rattle.mq_message.specs.declared.place.Holder.{Holder}
use Rattle.mq_queue.specs.declared.row.Row.{Row}
use Rattle.mq_queue.specs.Rows.{keep, retag, same_ident}
use Rattle.mq_queue.specs.Queues.{is_lasting, unit_freed}
use Rattle.mq_calls.specs.State.{Queue}
use Rattle.mq_calls.specs.State.Which.{Among, HeldByUnits, Nonpersistent}
use Rattle.mq_calls.specs.Reads.{queue_in}
use Rattle.mq_calls.specs.Changes.{selects, kept_in, held_in, released_in}
use Rattle.mq_place.specs.States.{QueueState, QueueStates, rows_removed, has_name, state_in, or_fresh, state_or, change_state, on_queue, on_queues, on_rows, queues_of, rows_in, hold_each, release_each, remove_each, IsUnnamed, AreApart}
use Rattle.mq_place.specs.Slots.{present, AreNamed, rows_of_slot}
use Rattle.mq_place.proofs.NameLaws.{name_is, name_swap}
use Rattle.mq_place.proofs.SlotLaws.{NotIn, not_in_of}
use Rattle.mq_place.proofs.RowLaws.{held_among, held_other, released_among, released_other, removed_among, kept_other, lasting_kept, units_freed, keep_twice, keep_same_rows}

unnamed : (name : List ℕ) (slots : List (Option QueueState)) → NotIn name slots → IsUnnamed name (present slots)
unnamed name [] ne = tt
unnamed name (None ∷ slots) ne = unnamed name slots ne.1
unnamed name (Some s ∷ slots) ne = (ne.0, unnamed name slots ne.1)

pub apart : (slots : List (Option QueueState)) → AreNamed slots → AreApart (present slots)
apart [] named = tt
apart (None ∷ slots) named = apart slots named
apart (Some s ∷ slots) named = (unnamed s.queue.name slots (not_in_of s.queue.name slots named.0), apart slots named.1)

-- the change of one queue is that of all
module _ (name : List ℕ) (f : QueueState → QueueState) (g : Queue → Queue) (same : (s : QueueState) → has_name name s ≡ true → f s ≡ on_queue g s) (other : (s : QueueState) → has_name name s ≡ false → s ≡ on_queue g s) where
  none_changed : (states : List QueueState) → IsUnnamed name states → states ≡ on_queues g states
  none_changed [] n = refl
  none_changed (s ∷ ss) n = let first = other s n.0 in let rest = none_changed ss n.1 in λ i. first i ∷ rest i

  change_step : (s : QueueState) (ss : List QueueState) → IsUnnamed s.queue.name ss → change_state name f ss ≡ on_queues g ss → (b : Bool) → has_name name s ≡ b
      → cond b (f s ∷ ss) (s ∷ change_state name f ss) ≡ on_queue g s ∷ on_queues g ss
  change_step s ss n rest true e =
      let first = same s e in
      let others = none_changed ss (subst (λ (x : List ℕ). IsUnnamed x ss) (sym (name_is name s.queue.name e)) n) in
      λ i. first i ∷ others i
  change_step s ss n rest false e = let first = other s e in λ i. first i ∷ rest i

  pub change_all : (states : List QueueState) → AreApart states → change_state name f states ≡ on_queues g states
  change_all [] a = refl
  change_all (s ∷ ss) a = change_step s ss a.0 (change_all ss a.1) (has_name name s) refl

-- with the rows of a queue
abbrev rows_to : List Row → QueueState → QueueState
rows_to rows s = record s { queue = record s.queue { rows = rows } }

pub held_one : (name : List ℕ) (idents : List Ident) (by : Holder) (states : List QueueState) → AreApart states
    → change_state name (on_rows (hold_each idents by)) states ≡ on_queues (held_in (Among name idents) by) states
held_one name idents by = change_all name _ _
    (λ (s : QueueState) e. let is = name_is name s.queue.name e in
    ap (λ (rs : List Row). rows_to rs s) (held_among name idents by s.queue.rows ∙ ap (λ (n : List ℕ). (held_in (Among name idents) by (record s.queue { name = n })).rows) is))
    (λ (s : QueueState) e. ap (λ (rs : List Row). rows_to rs s) (sym (held_other name s.queue.name idents by (name_swap s.queue.name name ∙ e) s.queue.rows)))

pub released_one : (name : List ℕ) (idents : List Ident) (counted : Bool) (states : List QueueState) → AreApart states
    → change_state name (on_rows (release_each idents counted)) states ≡ on_queues (released_in (Among name idents) counted) states
released_one name idents counted = change_all name _ _
    (λ (s : QueueState) e. let is = name_is name s.queue.name e in
    ap (λ (rs : List Row). rows_to rs s) (released_among name idents counted s.queue.rows ∙ ap (λ (n : List ℕ). (released_in (Among name idents) counted (record s.queue { name = n })).rows) is))
    (λ (s : QueueState) e. ap (λ (rs : List Row). rows_to rs s) (sym (released_other name s.queue.name idents counted (name_swap s.queue.name name ∙ e) s.queue.rows)))

pub removed_one : (name : List ℕ) (idents : List Ident) (states : List QueueState) → AreApart states
    → change_state name (on_rows (remove_each idents)) states ≡ on_queues (kept_in (Among name idents)) states
removed_one name idents = change_all name _ _
    (λ (s : QueueState) e. let is = name_is name s.queue.name e in
    ap (λ (rs : List Row). rows_to rs s) (removed_among name idents s.queue.rows ∙ ap (λ (n : List ℕ). (kept_in (Among name idents) (record s.queue { name = n })).rows) is))
    (λ (s : QueueState) e. ap (λ (rs : List Row). rows_to rs s) (sym (kept_other name s.queue.name idents (name_swap s.queue.name name ∙ e) s.queue.rows)))

-- what a stop does
pub all_lasting : (states : List QueueState) → map (on_rows (keep is_lasting)) states ≡ on_queues (kept_in Nonpersistent) states
all_lasting [] = refl
all_lasting (s ∷ ss) = let first = lasting_kept s.queue.name s.queue.rows in let rest = all_lasting ss in λ i. rows_to (first i) s ∷ rest i

pub all_units_freed : (states : List QueueState) → map (on_rows (retag unit_freed)) states ≡ on_queues (released_in HeldByUnits true) states
all_units_freed [] = refl
all_units_freed (s ∷ ss) = let first = units_freed s.queue.name s.queue.rows in let rest = all_units_freed ss in λ i. rows_to (first i) s ∷ rest i

-- the rows of a name are those of the queue that is found
pub rows_found : (name : List ℕ) (states : List QueueState) → rows_in name states ≡ rows_of_slot (state_in name states)
rows_found name [] = refl
rows_found name (s ∷ ss) = at (has_name name s) (rows_found name ss)
  where
    at : (b : Bool) → rows_in name ss ≡ rows_of_slot (state_in name ss) → (cond b s.queue (queue_in name (queues_of ss))).rows ≡ rows_of_slot (cond b (Some s) (state_in name ss))
    at true e = refl
    at false e = e

-- the queue of a name that is there is the one of its state
pub queue_of_state_in : (name : List ℕ) (states : List QueueState) → queue_in name (queues_of states) ≡ (state_or name states).queue
queue_of_state_in name [] = refl
queue_of_state_in name (s ∷ ss) = at (has_name name s) (queue_of_state_in name ss)
  where
    at : (b : Bool) → queue_in name (queues_of ss) ≡ (state_or name ss).queue → cond b s.queue (queue_in name (queues_of ss)) ≡ (or_fresh name (cond b (Some s) (state_in name ss))).queue
    at true e = refl
    at false e = e

-- rows taken out one after another
kept_step : (name : List ℕ) (ident : Ident) (idents : List Ident) (q : Queue) → (kept_in (Among name idents) (kept_in (Among name (ident ∷ [])) q)).rows ≡ (kept_in (Among name (ident ∷ idents)) q).rows
kept_step name ident idents q = keep_twice _ _ _ (λ (row : Row). both (bytes_eq q.name name) (same_ident row.message.ident ident) (list_any (same_ident row.message.ident) idents)) q.rows
  where
    both : (a b c : Bool) → (not (a && (b || false)) && not (a && c)) ≡ not (a && (b || c))
    both true true c = refl
    both true false c = refl
    both false b c = refl

pub kept_next : (name : List ℕ) (ident : Ident) (idents : List Ident) (states : List QueueState)
    → on_queues (kept_in (Among name idents)) (on_queues (kept_in (Among name (ident ∷ []))) states) ≡ on_queues (kept_in (Among name (ident ∷ idents))) states
kept_next name ident idents [] = refl
kept_next name ident idents (s ∷ ss) = let first = kept_step name ident idents s.queue in let rest = kept_next name ident idents ss in λ i. rows_to (first i) s ∷ rest i

pub kept_none : (name : List ℕ) (states : List QueueState) → on_queues (kept_in (Among name [])) states ≡ states
kept_none name [] = refl
kept_none name (s ∷ ss) =
    let first = keep_same_rows (λ (row : Row). not (selects (Among name []) s.queue.name row)) (λ (row : Row). none (bytes_eq s.queue.name name)) s.queue.rows in
    let rest = kept_none name ss in
    λ i. rows_to (first i) s ∷ rest i
  where
    none : (b : Bool) → not (b && false) ≡ true
    none true = refl
    none false = refl

pub removed_all : (name : List ℕ) (idents : List Ident) (v : QueueStates) → rows_removed name idents v ≡ record v { states = on_queues (kept_in (Among name idents)) v.states }
removed_all name [] v = let none = kept_none name v.states in λ i. record { states = sym none i; room = v.room }
removed_all name (ident ∷ idents) v =
    let next = kept_next name ident idents v.states in
    removed_all name idents (record v { states = on_queues (kept_in (Among name (ident ∷ []))) v.states }) ∙ (λ i. record { states = next i; room = v.room })
