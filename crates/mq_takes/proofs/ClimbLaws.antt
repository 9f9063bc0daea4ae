-- A batch raises each counter by as many as it has messages at most.
use Rattle.std.proofs.Common.{◌≡◌, ℕ, suc, ◌+◌, ◌≤◌, refl, sym, ap, subst, ◌∙◌, List, [], ◌∷◌, ◌++◌, length, Bool, true, false, arith}
use Rattle.std.specs.Prelude.{Result, Ok, Err}
use Rattle.mq_sync.specs.declared.unit.Unit.{Unit as Luw}
use Rattle.mq_calls.specs.State.{Change, Plain, Queue}
use Rattle.mq_calls.specs.State.Change.{SetReceiver}
use Rattle.mq_calls.specs.Changes.{apply_all, lane_of, made_due, depth_type, placed_in, set_queue, try_if, with_queue}
use Rattle.mq_calls.specs.Condition.{condition}
use Rattle.mq_calls.specs.Counts.{starts_of}
use Rattle.mq_calls.specs.Reads.{puts_to, queue_in, stored}
use Rattle.mq_calls.specs.Steps.{Part, logged}
use Rattle.mq_calls.specs.Words.{Ident, Message, Reason, is_persistent, local_of, receiver_data, receiver_or}
use Rattle.mq_spec_manager.specs.Words.{placed}
use Rattle.mq_spec_manager.specs.Agents.{Absent, InDoubtAt, Landed, Landing, Present, Standing, before, drop_changes, drop_row, is_present, land, land_changes, landed, landed_by, landed_unless, received_part, standing_at, undoubted}
use Rattle.mq_law_manager.proofs.Named.{found_name}
use Rattle.mq_law_manager.proofs.Units.{behind}
use Rattle.mq_turn_parts.specs.from_law_counts.Counts.{Climbs, PartsClimb}
use Rattle.mq_turn_parts.proofs.from_law_counts.Climbing.{climb_more, climb_on, grown, one_climbs, stay}
use Rattle.mq_turn_parts.specs.from_law_image.Bounds.{all_growth}
use Rattle.mq_turn_parts.proofs.from_law_image.Growing.{handles_more, le_self, set_rise}

-- Queues whose counters rise.
abbrev ArriveBy : ℕ → List Queue → List Queue → Type 0
ArriveBy k qs rs = (name : List ℕ) → (queue_in name rs).arrivals ≤ (queue_in name qs).arrivals + k

abbrev DueBy : ℕ → List Queue → List Queue → Type 0
DueBy k qs rs = (name : List ℕ) → (queue_in name rs).due ≤ (queue_in name qs).due + k

-- a queue that is stored is found by its own name
stored_again : (name : List ℕ) (new : Queue) (qs : List Queue) → new.name ≡ (queue_in name qs).name → queue_in new.name qs ≡ queue_in name qs
stored_again name new qs n = ap (λ (x : List ℕ). queue_in x qs) (n ∙ found_name name qs)

arrive_set : (name : List ℕ) (k : ℕ) (new : Queue) (qs : List Queue) → new.name ≡ (queue_in name qs).name → new.arrivals ≤ (queue_in name qs).arrivals + k → ArriveBy k qs (set_queue new qs)
arrive_set name k new qs n le = set_rise (λ (q : Queue). q.arrivals) k new qs (subst (λ (q : Queue). new.arrivals ≤ q.arrivals + k) (sym (stored_again name new qs n)) le)

due_set : (name : List ℕ) (k : ℕ) (new : Queue) (qs : List Queue) → new.name ≡ (queue_in name qs).name → new.due ≤ (queue_in name qs).due + k → DueBy k qs (set_queue new qs)
due_set name k new qs n le = set_rise (λ (q : Queue). q.due) k new qs (subst (λ (q : Queue). new.due ≤ q.due + k) (sym (stored_again name new qs n)) le)

queues_climb : (n : ℕ) (p : Plain) (qs : List Queue) → ArriveBy n p.queues qs → DueBy n p.queues qs → Climbs n p (record p { queues = qs })
queues_climb n p qs arrivals due = record {
  incarnation = le_self (p.numbers.incarnation + starts_of p.running) n;
  idents = le_self p.numbers.idents n;
  connections = le_self p.numbers.connections n;
  handles = λ m h. handles_more m (m + n) p.connections (le_self m n) h;
  arrivals = λ name. on (queue_in name qs).arrivals (queue_in name p.queues).arrivals (puts_to name p.connections) n (arrivals name);
  due = λ name. on (queue_in name qs).due (queue_in name p.queues).due (puts_to name p.connections) n (due name);
}
  where
    on : (a b c n : ℕ) → a ≤ b + n → a + c ≤ b + c + n
    on a b c n le = omega (arith, le)

-- A message that is placed arrives, and one trigger may come of it.
module _ (name : List ℕ) (m : Message) (p : Plain) where
  abbrev first : Queue
  first = placed_in (lane_of (local_of name p.definitions) m.md.priority) m (stored name p)

  abbrev mid : Plain
  mid = with_queue first p

  abbrev second : Queue
  second = made_due (depth_type (local_of name mid.definitions)) mid.moment (stored name mid)

  le_same : (a : ℕ) → a ≤ a + 0
  le_same a = omega arith

  le_one : (a : ℕ) → a + 1 ≤ a + 1
  le_one a = omega arith

  arrived : ArriveBy 1 p.queues mid.queues
  arrived = arrive_set name 1 first p.queues refl (le_one (stored name p).arrivals)

  undue : DueBy 0 p.queues mid.queues
  undue = due_set name 0 first p.queues refl (le_same (stored name p).due)

  le_more : (a b c : ℕ) → a ≤ b + 0 → b ≤ c + 1 → a ≤ c + 1
  le_more a b c x y = omega (arith, x, y)

  le_last : (a b c : ℕ) → a ≤ b + 1 → b ≤ c + 0 → a ≤ c + 1
  le_last a b c x y = omega (arith, x, y)

  le_up : (a b : ℕ) → a ≤ b + 0 → a ≤ b + 1
  le_up a b x = omega (arith, x)

  tried : (b : Bool) → Climbs 1 p (try_if b name mid)
  tried true = queues_climb 1 p (set_queue second mid.queues)
      (λ n. le_more (queue_in n (set_queue second mid.queues)).arrivals (queue_in n mid.queues).arrivals (queue_in n p.queues).arrivals (arrive_set name 0 second mid.queues refl (le_same (stored name mid).arrivals) n) (arrived n))
      (λ n. le_last (queue_in n (set_queue second mid.queues)).due (queue_in n mid.queues).due (queue_in n p.queues).due (due_set name 1 second mid.queues refl (le_one (stored name mid).due) n) (undue n))
  tried false = queues_climb 1 p mid.queues arrived (λ n. le_up (queue_in n mid.queues).due (queue_in n p.queues).due (undue n))

  placed_climbs : Climbs 1 p (apply_all (placed name m) p)
  placed_climbs = tried (condition (local_of name mid.definitions) m.md.priority mid)

-- What goes for a message raises nothing.
none_le : 0 ≤ 0
none_le = omega arith

none_two : 0 + 0 ≤ 0
none_two = omega arith

none_three : 0 + (0 + 0) ≤ 0
none_three = omega arith

drop_grows : (ident : Ident) (s : Standing) (lasts : Bool) → all_growth (drop_row ident s ++ undoubted lasts ident) ≤ 0
drop_grows ident Absent true = none_two
drop_grows ident Absent false = none_le
drop_grows ident (InDoubtAt queue) true = none_three
drop_grows ident (InDoubtAt queue) false = none_two
drop_grows ident Present true = none_two
drop_grows ident Present false = none_le

-- a message lands, whatever the state is
lands_climb : (l : Landing) (s : Standing) (p : Plain) → Climbs 1 p (apply_all (land_changes l s) p)
lands_climb l s p =
    let mid : Plain = apply_all (drop_changes l.message s) p in
    subst (λ (q : Plain). Climbs 1 p q) (sym (behind (drop_changes l.message s) (placed l.queue l.message) p))
    (climb_on 0 1 p mid (apply_all (placed l.queue l.message) mid) (grown 0 (drop_changes l.message s) p (drop_grows l.message.ident s (is_persistent l.message))) (placed_climbs l.queue l.message mid))

-- a batch lands
abbrev pub BatchClimbs : ℕ → Result Landed Reason → Type 0
BatchClimbs k (Ok l) = (q : Plain) → Climbs k q (apply_all l.changes q)
BatchClimbs k (Err reason) = Unit {0}

le_next : (n : ℕ) → n ≤ suc n
le_next n = omega arith

one_more : (n : ℕ) → 1 + n ≤ suc n
one_more n = omega arith

skip_climbs : (k : ℕ) (r : Result Landed Reason) → BatchClimbs k r → BatchClimbs (suc k) r
skip_climbs k (Ok l) h = λ q. climb_more k (suc k) q (apply_all l.changes q) (le_next k) (h q)
skip_climbs k (Err reason) h = tt

before_climbs : (m : Message) (l : Landing) (s : Standing) (k : ℕ) (r : Result Landed Reason) → BatchClimbs k r → BatchClimbs (suc k) (before m l s r)
before_climbs m l s k (Err reason) h = tt
before_climbs m l s k (Ok rest) h = λ q.
    let mid : Plain = apply_all (land_changes l s) q in
    subst (λ (x : Plain). Climbs (suc k) q x) (sym (behind (land_changes l s) rest.changes q))
    (climb_more (1 + k) (suc k) q (apply_all rest.changes mid) (one_more k) (climb_on 1 k q mid (apply_all rest.changes mid) (lands_climb l s q) (h mid)))

by_climbs : (o : Result Landing Reason) (m : Message) (s : Standing) (p : Plain) (k : ℕ) (rest : Plain → Result Landed Reason) → ((q : Plain) → BatchClimbs k (rest q)) → BatchClimbs (suc k) (landed_by o m s p rest)
by_climbs (Ok l) m s p k rest h = before_climbs m l s k (rest (apply_all (land_changes l s) p)) (h (apply_all (land_changes l s) p))
by_climbs (Err reason) m s p k rest h = tt

unless_climbs : (b : Bool) (channel : List ℕ) (m : Message) (s : Standing) (p : Plain) (k : ℕ) (rest : Plain → Result Landed Reason) → ((q : Plain) → BatchClimbs k (rest q)) → BatchClimbs (suc k) (landed_unless b channel m s p rest)
unless_climbs true channel m s p k rest h = skip_climbs k (rest p) (h p)
unless_climbs false channel m s p k rest h = by_climbs (land channel m p) m s p k rest h

pub batch_climbs : (channel : List ℕ) (ms : List Message) (p : Plain) → BatchClimbs (length ms) (landed channel ms p)
batch_climbs channel [] p = λ q. stay 0 q
batch_climbs channel (m ∷ ms) p = unless_climbs (is_present (standing_at m p)) channel m (standing_at m p) p (length ms) (λ q. landed channel ms q) (λ q. batch_climbs channel ms q)

-- its commit
plus_none : (k : ℕ) → k + 0 ≤ k
plus_none k = omega arith

pub commit_climbs : (channel : List ℕ) (unit : Luw) (last k : ℕ) (l : Landed) (p : Plain) → ((q : Plain) → Climbs k q (apply_all l.changes q)) → PartsClimb k (received_part channel unit last l p ∷ []) p
commit_climbs channel unit last k l p h =
    let part : Part = received_part channel unit last l p in
    let set : Change = SetReceiver channel (record (receiver_or (receiver_data channel p)) { unit = unit; last = last }) in
    let q : Plain = logged part.forced p in
    let mid : Plain = apply_all l.changes q in
    one_climbs k part p
    (subst (λ (x : Plain). Climbs k q x) (sym (behind l.changes (set ∷ []) q))
    (climb_more (k + 0) k q (apply_all (set ∷ []) mid) (plus_none k) (climb_on k 0 q mid (apply_all (set ∷ []) mid) (h q) (grown 0 (set ∷ []) mid none_two))))
