-- Changes, parts and stops raise counters by a little.
use Rattle.std.proofs.Common.{ℕ, zero, suc, ◌≡◌, ◌+◌, ◌≤◌, Bool, true, false, List, [], ◌∷◌, ◌++◌, refl, arith}
use Rattle.std.specs.Prelude.{Option, Some, None, if◌then◌else◌, ◌==◌, count_by}
use Rattle.std.specs.List.{AllByRecursion}
use Rattle.std.proofs.lemmas.List.Sums.{sum_by_push}
use Rattle.mq_calls.specs.declared.records.LogRecord.{LogRecord}
use Rattle.mq_calls.specs.State.{Plain, Change, Noted}
use Rattle.mq_calls.specs.declared.state.Connection.{Connection}
use Rattle.mq_calls.specs.declared.state.Item.{Item}
use Rattle.mq_calls.specs.State.Change.{Pend}
use Rattle.mq_calls.specs.Reads.{stored, puts_to, is_put_to}
use Rattle.mq_calls.specs.State.Which.{Nonpersistent}
use Rattle.mq_calls.specs.Changes.{apply, apply_all, change_connection, kept_in}
use Rattle.mq_calls.specs.Counts.{starts_of}
use Rattle.mq_calls.specs.Steps.{Part, do_part, do_all, logged, freeze, note_of, stopped_at}
use Rattle.mq_law_image.proofs.from_law_manager.Lists.{bool_case}
use Rattle.mq_law_image.specs.Bounds.{all_growth}
use Rattle.mq_law_image.proofs.Growing.{Rises, all_rise, changed_sum, le_self, handles_more, mapped_rise, still_rises}
use Rattle.mq_law_counts.specs.Counts.{Climbs, AreWithin, PartsClimb}

-- what rises climbs
pub risen : (n : ℕ) (p q : Plain) → Rises n p q → Climbs n p q
risen n p q r = record { incarnation = r.incarnation; idents = r.idents; connections = r.connections; handles = r.handles; arrivals = r.arrivals; due = r.due }

le_on : (a b m n : ℕ) → b ≤ a + n → a ≤ m → b ≤ m + n
le_on a b m n x y = omega (arith, x, y)

le_both : (a b c m n : ℕ) → b ≤ a + m → c ≤ b + n → c ≤ a + (m + n)
le_both a b c m n x y = omega (arith, x, y)

le_less : (a b m n : ℕ) → m ≤ n → b ≤ a + m → b ≤ a + n
le_less a b m n x y = omega (arith, x, y)

pub within : (n most : ℕ) (p q : Plain) → Climbs n p q → AreWithin most p → AreWithin (most + n) q
within n most p q r b = record {
  incarnation = le_on (p.numbers.incarnation + starts_of p.running) (q.numbers.incarnation + starts_of q.running) most n r.incarnation b.incarnation;
  idents = le_on p.numbers.idents q.numbers.idents most n r.idents b.idents;
  connections = le_on p.numbers.connections q.numbers.connections most n r.connections b.connections;
  handles = r.handles most b.handles;
  arrivals = λ name. le_on ((stored name p).arrivals + puts_to name p.connections) ((stored name q).arrivals + puts_to name q.connections) most n (r.arrivals name) (b.arrivals name);
  due = λ name. le_on ((stored name p).due + puts_to name p.connections) ((stored name q).due + puts_to name q.connections) most n (r.due name) (b.due name);
}

pub climb_on : (m n : ℕ) (p q r : Plain) → Climbs m p q → Climbs n q r → Climbs (m + n) p r
climb_on m n p q r a b = record {
  incarnation = le_both (p.numbers.incarnation + starts_of p.running) (q.numbers.incarnation + starts_of q.running) (r.numbers.incarnation + starts_of r.running) m n a.incarnation b.incarnation;
  idents = le_both p.numbers.idents q.numbers.idents r.numbers.idents m n a.idents b.idents;
  connections = le_both p.numbers.connections q.numbers.connections r.numbers.connections m n a.connections b.connections;
  handles = λ k h. handles_more (k + m + n) (k + (m + n)) r.connections (same k m n) (b.handles (k + m) (a.handles k h));
  arrivals = λ name. le_both ((stored name p).arrivals + puts_to name p.connections) ((stored name q).arrivals + puts_to name q.connections) ((stored name r).arrivals + puts_to name r.connections) m n (a.arrivals name) (b.arrivals name);
  due = λ name. le_both ((stored name p).due + puts_to name p.connections) ((stored name q).due + puts_to name q.connections) ((stored name r).due + puts_to name r.connections) m n (a.due name) (b.due name);
}
  where
    same : (k m n : ℕ) → k + m + n ≤ k + (m + n)
    same k m n = omega arith

pub climb_more : (m n : ℕ) (p q : Plain) → m ≤ n → Climbs m p q → Climbs n p q
climb_more m n p q le r = record {
  incarnation = le_less (p.numbers.incarnation + starts_of p.running) (q.numbers.incarnation + starts_of q.running) m n le r.incarnation;
  idents = le_less p.numbers.idents q.numbers.idents m n le r.idents;
  connections = le_less p.numbers.connections q.numbers.connections m n le r.connections;
  handles = λ k h. handles_more (k + m) (k + n) q.connections (plus k) (r.handles k h);
  arrivals = λ name. le_less ((stored name p).arrivals + puts_to name p.connections) ((stored name q).arrivals + puts_to name q.connections) m n le (r.arrivals name);
  due = λ name. le_less ((stored name p).due + puts_to name p.connections) ((stored name q).due + puts_to name q.connections) m n le (r.due name);
}
  where
    plus : (k : ℕ) → k + m ≤ k + n
    plus k = omega (arith, le)

pub stay : (n : ℕ) (p : Plain) → Climbs n p p
stay n p = risen n p p (still_rises n p p refl refl refl refl refl)

-- a record takes of the log alone
pub logged_climbs : (r : Option LogRecord) (p : Plain) → Climbs 0 p (logged r p)
logged_climbs None p = stay 0 p
logged_climbs (Some r) p = record {
  incarnation = le_self (p.numbers.incarnation + starts_of p.running) 0;
  idents = le_self p.numbers.idents 0;
  connections = le_self p.numbers.connections 0;
  handles = λ m h. handles_more m (m + 0) p.connections (le_self m 0) h;
  arrivals = λ name. le_self ((stored name p).arrivals + puts_to name p.connections) 0;
  due = λ name. le_self ((stored name p).due + puts_to name p.connections) 0;
}

-- Parts whose changes climb.
pub part_climbs : (n : ℕ) (part : Part) (p : Plain) → Climbs n (logged part.forced p) (apply_all part.changes (logged part.forced p)) → Climbs n p (do_part part p)
part_climbs n part p c = climb_more (0 + n) n p (do_part part p) (plus n) (climb_on 0 n p (logged part.forced p) (do_part part p) (logged_climbs part.forced p) c)
  where
    plus : (n : ℕ) → 0 + n ≤ n
    plus n = omega arith

pub none_climb : (n : ℕ) (p : Plain) → PartsClimb n [] p
none_climb n p = record { all = stay n p; stopped = λ part left. stay n p }

zero_le : (n : ℕ) → 0 ≤ n
zero_le n = omega arith

pub freeze_climbs : (n : ℕ) (note : Option Noted) (left : ℕ) (p : Plain) → Climbs n p (freeze note left p)
freeze_climbs n note left p =
    let r = mapped_rise (kept_in Nonpersistent) p (λ q. refl) (λ m. refl) (λ q. le_self q.arrivals 0) (λ q. le_self q.due 0) in
    climb_more 0 n p (freeze note left p) (zero_le n) (record {
      incarnation = fewer p.numbers.incarnation (starts_of p.running);
      idents = r.idents;
      connections = r.connections;
      handles = r.handles;
      arrivals = r.arrivals;
      due = r.due;
    })
  where
    fewer : (a b : ℕ) → a + 0 ≤ a + b + 0
    fewer a b = omega arith

pub one_climbs : (n : ℕ) (part : Part) (p : Plain) → Climbs n (logged part.forced p) (apply_all part.changes (logged part.forced p)) → PartsClimb n (part ∷ []) p
one_climbs n part p c = record { all = part_climbs n part p c; stopped = at }
  where
    at : (k left : ℕ) → Climbs n p (stopped_at k (part ∷ []) left p)
    at zero left = freeze_climbs n (note_of part part.forced) left p
    at (suc k) left = part_climbs n part p c

pub two_climb : (m n : ℕ) (part : Part) (parts : List Part) (p : Plain) → Climbs m (logged part.forced p) (apply_all part.changes (logged part.forced p)) → PartsClimb n parts (do_part part p) → PartsClimb (m + n) (part ∷ parts) p
two_climb m n part parts p c d = record { all = climb_on m n p (do_part part p) (do_all parts (do_part part p)) (part_climbs m part p c) d.all; stopped = at }
  where
    at : (k left : ℕ) → Climbs (m + n) p (stopped_at k (part ∷ parts) left p)
    at zero left = freeze_climbs (m + n) (note_of part part.forced) left p
    at (suc k) left = climb_on m n p (do_part part p) (stopped_at k parts left (do_part part p)) (part_climbs m part p c) (d.stopped k left)

-- changes that grow by so much
pub grown : (n : ℕ) (cs : List Change) (p : Plain) → all_growth cs ≤ n → Climbs n p (apply_all cs p)
grown n cs p le = climb_more (all_growth cs) n p (apply_all cs p) le (risen (all_growth cs) p (apply_all cs p) (all_rise cs p))

-- one item more of a unit counts one
units_same : (number : ℕ) (g : Connection → Connection) (m k : ℕ) (cs : List Connection) → ((c : Connection) → (g c).last_handle ≡ c.last_handle) → AllByRecursion (λ (c : Connection). c.last_handle ≤ m) cs
    → AllByRecursion (λ (c : Connection). c.last_handle ≤ m + k) (change_connection number g cs)
units_same number g m k [] same h = tt
units_same number g m k (c ∷ cs) same h = bool_case (c.number == number) (λ b. AllByRecursion (λ (x : Connection). x.last_handle ≤ m + k) (if b then g c ∷ cs else c ∷ change_connection number g cs))
    (λ e. (up (g c).last_handle c.last_handle m k (same c) h.0, handles_more m (m + k) cs (le_self m k) h.1))
    (λ e. (up c.last_handle c.last_handle m k refl h.0, units_same number g m k cs same h.1))
  where
    up : (a b m k : ℕ) → a ≡ b → b ≤ m → a ≤ m + k
    up a b m k e le = omega (arith, e, le)

pend_count : (name : List ℕ) (unit : List Item) (item : Item) → count_by (is_put_to name) (unit ++ item ∷ []) ≤ count_by (is_put_to name) unit + 1
pend_count name unit item = on (count_by (is_put_to name) (unit ++ item ∷ [])) (count_by (is_put_to name) unit) (if is_put_to name item then 1 else 0) (sum_by_push (λ (x : Item). if is_put_to name x then 1 else 0) unit item) (one (is_put_to name item))
  where
    one : (b : Bool) → (if b then 1 else 0) ≤ 1
    one true = omega arith
    one false = omega arith

    on : (x y i : ℕ) → x ≡ y + i → i ≤ 1 → x ≤ y + 1
    on x y i e le = omega (arith, e, le)

pub pend_climbs : (number : ℕ) (item : Item) (p : Plain) → Climbs 1 p (apply (Pend number item) p)
pend_climbs number item p = record {
  incarnation = le_self (p.numbers.incarnation + starts_of p.running) 1;
  idents = le_self p.numbers.idents 1;
  connections = le_self p.numbers.connections 1;
  handles = λ m h. units_same number pended m 1 p.connections (λ c. refl) h;
  arrivals = λ name. add (stored name p).arrivals (puts_to name (change_connection number pended p.connections)) (puts_to name p.connections) (puts name);
  due = λ name. add (stored name p).due (puts_to name (change_connection number pended p.connections)) (puts_to name p.connections) (puts name);
}
  where
    pended : Connection → Connection
    pended c = record c { unit = c.unit ++ item ∷ [] }

    puts : (name : List ℕ) → puts_to name (change_connection number pended p.connections) ≤ puts_to name p.connections + 1
    puts name = changed_sum (λ (c : Connection). count_by (is_put_to name) c.unit) pended 1 number p.connections (λ c. pend_count name c.unit item)

    add : (a x y : ℕ) → x ≤ y + 1 → a + x ≤ a + y + 1
    add a x y le = omega (arith, le)
