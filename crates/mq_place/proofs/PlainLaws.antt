-- What the calls do to the local queues as the plain manager sees them.
use Rattle.std.proofs.Common.{◌≡◌, ℕ, Bool, true, false, cond, List, [], ◌∷◌, ◌++◌, refl, sym, ap, ◌∙◌, arith}
use Rattle.std.specs.Prelude.{Option, Some, None, map, not, filter}
use Rattle.std.specs.Str.{bytes_eq}
use Rattle.mq_message.specs.declared.message.Message.{Message}
use Rattle.mq_queue.specs.Queues.{lane_of}
use Rattle.mq_calls.specs.State.{Queue, fresh_queue}
use Rattle.mq_calls.specs.Reads.{queue_in}
use Rattle.mq_calls.specs.Changes.{set_queue, placed_in}
use Rattle.mq_place.specs.States.{QueueState, has_name, state_in, or_fresh, change_state, on_queue, on_queues, queues_of, fresh_state, without_state, expecting, unpended, arrived}
use Rattle.mq_place.proofs.NameLaws.{name_is}
use Rattle.mq_place.proofs.StateLaws.{queue_of_state_in}

-- all queues are changed
pub queues_on : (g : Queue → Queue) (states : List QueueState) → queues_of (on_queues g states) ≡ map g (queues_of states)
queues_on g [] = refl
queues_on g (s ∷ ss) = ap (λ (qs : List Queue). g s.queue ∷ qs) (queues_on g ss)

-- a change that the plain manager does not see
module _ (name : List ℕ) (f : QueueState → QueueState) (same : (s : QueueState) → (f s).queue ≡ s.queue) where
  unseen_step : (s : QueueState) (ss : List QueueState) → queues_of (change_state name f ss) ≡ queues_of ss → (b : Bool) → queues_of (cond b (f s ∷ ss) (s ∷ change_state name f ss)) ≡ s.queue ∷ queues_of ss
  unseen_step s ss rest true = ap (λ (q : Queue). q ∷ queues_of ss) (same s)
  unseen_step s ss rest false = ap (λ (qs : List Queue). s.queue ∷ qs) rest

  pub unseen : (states : List QueueState) → queues_of (change_state name f states) ≡ queues_of states
  unseen [] = refl
  unseen (s ∷ ss) = unseen_step s ss (unseen ss) (has_name name s)

pub expecting_same : (name : List ℕ) (states : List QueueState) → queues_of (change_state name expecting states) ≡ queues_of states
expecting_same name = unseen name expecting (λ s. refl)

pub unpended_same : (name : List ℕ) (states : List QueueState) → queues_of (change_state name unpended states) ≡ queues_of states
unpended_same name = unseen name unpended (λ s. refl)

-- a queue that is found has the name
pub found_named : (name : List ℕ) (states : List QueueState) (t : QueueState) → state_in name states ≡ Some t → t.queue.name ≡ name
found_named name [] t e = absurd cc
found_named name (s ∷ ss) t e = at (has_name name s) refl e (found_named name ss t)
  where
    at : (b : Bool) → has_name name s ≡ b → cond b (Some s) (state_in name ss) ≡ Some t → (state_in name ss ≡ Some t → t.queue.name ≡ name) → t.queue.name ≡ name
    at true h e rest = let is : s ≡ t = grind (arith, e) in sym (name_is name s.queue.name h ∙ ap (λ (x : QueueState). x.queue.name) is)
    at false h e rest = rest e

-- and is the plain manager's
pub found_queue : (name : List ℕ) (states : List QueueState) (t : QueueState) → state_in name states ≡ Some t → queue_in name (queues_of states) ≡ t.queue
found_queue name states t e = queue_of_state_in name states ∙ ap (λ (o : Option QueueState). (or_fresh name o).queue) e

-- a change of one queue, as a queue that takes the place of the one with its name
module _ (name : List ℕ) (f : QueueState → QueueState) where
  set_step : (s : QueueState) (ss : List QueueState) (t : QueueState) → (f t).queue.name ≡ name → (b : Bool) → has_name name s ≡ b → cond b (Some s) (state_in name ss) ≡ Some t
      → (state_in name ss ≡ Some t → queues_of (change_state name f ss) ≡ set_queue (f t).queue (queues_of ss))
      → queues_of (cond b (f s ∷ ss) (s ∷ change_state name f ss)) ≡ cond (bytes_eq (f t).queue.name s.queue.name) ((f t).queue ∷ queues_of ss) (s.queue ∷ set_queue (f t).queue (queues_of ss))
  set_step s ss t n true h e rest =
      let is : s ≡ t = grind (arith, e) in
      let there = ap (λ (x : List ℕ). bytes_eq x s.queue.name) n ∙ h in
      (λ i. (f (is i)).queue ∷ queues_of ss)
      ∙ sym (λ i. cond (there i) ((f t).queue ∷ queues_of ss) (s.queue ∷ set_queue (f t).queue (queues_of ss)))
  set_step s ss t n false h e rest =
      let there = ap (λ (x : List ℕ). bytes_eq x s.queue.name) n ∙ h in
      ap (λ (qs : List Queue). s.queue ∷ qs) (rest e)
      ∙ sym (λ i. cond (there i) ((f t).queue ∷ queues_of ss) (s.queue ∷ set_queue (f t).queue (queues_of ss)))

  pub set_as : (states : List QueueState) (t : QueueState) → (f t).queue.name ≡ name → state_in name states ≡ Some t → queues_of (change_state name f states) ≡ set_queue (f t).queue (queues_of states)
  set_as [] t n e = absurd cc
  set_as (s ∷ ss) t n e = set_step s ss t n (has_name name s) refl e (set_as ss t n)

-- a put that is placed
pub arrived_as : (name : List ℕ) (message : Message) (states : List QueueState) (t : QueueState) → state_in name states ≡ Some t
    → queues_of (change_state name (arrived message) states) ≡ set_queue (placed_in (lane_of t.by_priority message) message (queue_in name (queues_of states))) (queues_of states)
arrived_as name message states t e =
    set_as name (arrived message) states t (found_named name states t e) e
    ∙ ap (λ (q : Queue). set_queue (placed_in (lane_of t.by_priority message) message q) (queues_of states)) (sym (found_queue name states t e))

-- a queue that is changed, and keeps its name
pub changed_as : (name : List ℕ) (g : Queue → Queue) (states : List QueueState) (t : QueueState) → ((q : Queue) → (g q).name ≡ q.name) → state_in name states ≡ Some t
    → queues_of (change_state name (on_queue g) states) ≡ set_queue (g (queue_in name (queues_of states))) (queues_of states)
changed_as name g states t keeps e =
    set_as name (on_queue g) states t (keeps t.queue ∙ found_named name states t e) e ∙ ap (λ (q : Queue). set_queue (g q) (queues_of states)) (sym (found_queue name states t e))

-- a new queue stands last
pub defined_as : (name : List ℕ) (prioritized : Bool) (states : List QueueState) → state_in name states ≡ None → queues_of (states ++ fresh_state name prioritized ∷ []) ≡ set_queue (fresh_queue name) (queues_of states)
defined_as name prioritized [] e = refl
defined_as name prioritized (s ∷ ss) e = at (has_name name s) e (defined_as name prioritized ss)
  where
    at : (b : Bool) → cond b (Some s) (state_in name ss) ≡ None → (state_in name ss ≡ None → queues_of (ss ++ fresh_state name prioritized ∷ []) ≡ set_queue (fresh_queue name) (queues_of ss))
        → s.queue ∷ queues_of (ss ++ fresh_state name prioritized ∷ []) ≡ cond b (fresh_queue name ∷ queues_of ss) (s.queue ∷ set_queue (fresh_queue name) (queues_of ss))
    at true e rest = absurd cc
    at false e rest = ap (λ (qs : List Queue). s.queue ∷ qs) (rest e)

-- the queue of a name goes
pub deleted_as : (name : List ℕ) (states : List QueueState) → queues_of (without_state name states) ≡ filter (λ (q : Queue). not (bytes_eq name q.name)) (queues_of states)
deleted_as name [] = refl
deleted_as name (s ∷ ss) = at (has_name name s) (deleted_as name ss)
  where
    at : (b : Bool) → queues_of (without_state name ss) ≡ filter (λ (q : Queue). not (bytes_eq name q.name)) (queues_of ss)
        → queues_of (cond (not b) (s ∷ without_state name ss) (without_state name ss)) ≡ cond (not b) (s.queue ∷ filter (λ (q : Queue). not (bytes_eq name q.name)) (queues_of ss)) (filter (λ (q : Queue). not (bytes_eq name q.name)) (queues_of ss))
    at true rest = rest
    at false rest = ap (λ (qs : List Queue). s.queue ∷ qs) rest
