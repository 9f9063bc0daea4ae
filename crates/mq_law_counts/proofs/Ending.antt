-- The end of a unit raises no counter: its puts were counted when they were made.
use Rattle.std.proofs.Common.{ℕ, ◌≡◌, ◌+◌, ◌≤◌, Bool, true, false, List, [], ◌∷◌, ◌++◌, refl, ap, sym, subst, ◌∙◌, arith}
use Rattle.std.specs.Prelude.{Some, if◌then◌else◌, ◌==◌, count_by, flat_map}
use Rattle.std.specs.Str.{bytes_eq}
use Rattle.std.specs.List.{AllByRecursion}
use Rattle.std.proofs.lemmas.Bool.Decides.{nat_tests}
use Rattle.std.proofs.lemmas.List.Sums.{sum_by-cons}
use Rattle.mq_message.specs.declared.message.Ident.{Ident}
use Rattle.mq_message.specs.declared.message.Message.{Message}
use Rattle.mq_objects.specs.Names.{local_of}
use Rattle.mq_calls.specs.declared.state.Item.TheVariants.{Put, Take}
use Rattle.mq_calls.specs.State.{Plain, Queue, Change, Numbers, Running}
use Rattle.mq_calls.specs.declared.state.Connection.{Connection}
use Rattle.mq_calls.specs.declared.state.Item.{Item}
use Rattle.mq_calls.specs.State.Change.{Place as Places, Try, Leave, EndUnit}
use Rattle.mq_calls.specs.State.Which.{Among}
use Rattle.mq_calls.specs.Condition.{condition}
use Rattle.mq_calls.specs.Reads.{stored, queue_in, puts_to, is_put_to, connection_at}
use Rattle.mq_calls.specs.Changes.{apply, apply_all, set_queue, placed_in, lane_of, made_due, depth_type, try_if, change_connection}
use Rattle.mq_calls.specs.Counts.{starts_of}
use Rattle.mq_spec_manager.specs.Units.{placed_item, taken_item, commit_changes}
use Rattle.mq_law_image.proofs.from_law_manager.Lists.{bool_case}
use Rattle.mq_law_image.proofs.from_law_manager.Named.{name_is, queue_set, found_name}
use Rattle.mq_law_image.specs.Bounds.{all_growth}
use Rattle.mq_law_image.proofs.Growing.{change_rises, le_self, handles_more}
use Rattle.mq_law_counts.specs.Counts.{Climbs}
use Rattle.mq_law_counts.proofs.Climbing.{climb_on, grown}

-- queues alone have changed, and what arrived at each, and its triggers due, are at most so much more
record Adds (f g : List ℕ → ℕ) (p q : Plain) : Type 0 where
  numbers : q.numbers ≡ p.numbers
  running : q.running ≡ p.running
  connections : q.connections ≡ p.connections
  arrivals : (name : List ℕ) → (stored name q).arrivals ≤ (stored name p).arrivals + f name
  due : (name : List ℕ) → (stored name q).due ≤ (stored name p).due + g name

abbrev none : List ℕ → ℕ
none name = 0

abbrev counts : List Item → List ℕ → ℕ
counts items name = count_by (is_put_to name) items

add_on : (f g h k i j : List ℕ → ℕ) (p q r : Plain) → Adds f g p q → Adds h k q r → ((name : List ℕ) → f name + h name ≤ i name) → ((name : List ℕ) → g name + k name ≤ j name) → Adds i j p r
add_on f g h k i j p q r a b first second = record {
  numbers = b.numbers ∙ a.numbers;
  running = b.running ∙ a.running;
  connections = b.connections ∙ a.connections;
  arrivals = λ name. both (stored name p).arrivals (stored name q).arrivals (stored name r).arrivals (f name) (h name) (i name) (a.arrivals name) (b.arrivals name) (first name);
  due = λ name. both (stored name p).due (stored name q).due (stored name r).due (g name) (k name) (j name) (a.due name) (b.due name) (second name);
}
  where
    both : (a b c m n o : ℕ) → b ≤ a + m → c ≤ b + n → m + n ≤ o → c ≤ a + o
    both a b c m n o x y z = omega (arith, x, y, z)

still_adds : (p : Plain) → Adds none none p p
still_adds p = record { numbers = refl; running = refl; connections = refl; arrivals = λ name. le_self (stored name p).arrivals 0; due = λ name. le_self (stored name p).due 0 }

-- the held rows go
leave_adds : (queue : List ℕ) (idents : List Ident) (p : Plain) → Adds none none p (apply (Leave (Among queue idents)) p)
leave_adds queue idents p =
    let r = change_rises (Leave (Among queue idents)) p in
    record {
      numbers = refl;
      running = refl;
      connections = refl;
      arrivals = λ name. off (stored name (apply (Leave (Among queue idents)) p)).arrivals (stored name p).arrivals (puts_to name p.connections) (r.arrivals name);
      due = λ name. off (stored name (apply (Leave (Among queue idents)) p)).due (stored name p).due (puts_to name p.connections) (r.due name);
    }
  where
    off : (a b x : ℕ) → a + x ≤ b + x + 0 → a ≤ b + 0
    off a b x le = omega (arith, le)

none_more : (name : List ℕ) → none name + none name ≤ none name
none_more name = omega arith

taken_adds : (items : List Item) (p : Plain) → Adds none none p (apply_all (flat_map taken_item items) p)
taken_adds [] p = still_adds p
taken_adds (Put queue message ∷ items) p = taken_adds items p
taken_adds (Take queue ident persistent ∷ items) p =
    let c : Change = Leave (Among queue (ident ∷ [])) in
    add_on none none none none none none p (apply c p) (apply_all (flat_map taken_item items) (apply c p)) (leave_adds queue (ident ∷ []) p) (taken_adds items (apply c p)) none_more none_more

-- A put is placed, and its trigger is tried.
abbrev one_at : List ℕ → List ℕ → ℕ
one_at queue name = if bytes_eq name queue then 1 else 0

-- one queue is set
set_one : (f : Queue → ℕ) (queue : List ℕ) (new : Queue) (qs : List Queue) → new.name ≡ queue → f new ≤ f (queue_in queue qs) + 1 → (name : List ℕ) → f (queue_in name (set_queue new qs)) ≤ f (queue_in name qs) + one_at queue name
set_one f queue new qs named le name = subst (λ (q : Queue). f q ≤ f (queue_in name qs) + one_at queue name) (sym (queue_set name new qs))
    (subst (λ (n : List ℕ). f (if bytes_eq name n then new else queue_in name qs) ≤ f (queue_in name qs) + one_at queue name) (sym named)
    (bool_case (bytes_eq name queue) (λ b. bytes_eq name queue ≡ b → f (if b then new else queue_in name qs) ≤ f (queue_in name qs) + (if b then 1 else 0))
    (λ z e. subst (λ (n : List ℕ). f new ≤ f (queue_in n qs) + 1) (sym (name_is name queue e)) le) (λ z e. le_self (f (queue_in name qs)) 0) refl))

set_same : (f : Queue → ℕ) (queue : List ℕ) (new : Queue) (qs : List Queue) → new.name ≡ queue → f new ≤ f (queue_in queue qs) + 0 → (name : List ℕ) → f (queue_in name (set_queue new qs)) ≤ f (queue_in name qs) + 0
set_same f queue new qs named le name = subst (λ (q : Queue). f q ≤ f (queue_in name qs) + 0) (sym (queue_set name new qs))
    (subst (λ (n : List ℕ). f (if bytes_eq name n then new else queue_in name qs) ≤ f (queue_in name qs) + 0) (sym named)
    (bool_case (bytes_eq name queue) (λ b. bytes_eq name queue ≡ b → f (if b then new else queue_in name qs) ≤ f (queue_in name qs) + 0)
    (λ z e. subst (λ (n : List ℕ). f new ≤ f (queue_in n qs) + 0) (sym (name_is name queue e)) le) (λ z e. le_self (f (queue_in name qs)) 0) refl))

one_more : (n : ℕ) → n + 1 ≤ n + 1
one_more n = omega arith

place_adds : (queue : List ℕ) (m : Message) (p : Plain) → Adds (one_at queue) none p (apply (Places queue m) p)
place_adds queue m p = record {
  numbers = refl;
  running = refl;
  connections = refl;
  arrivals = set_one (λ (q : Queue). q.arrivals) queue new p.queues (found_name queue p.queues) (one_more (stored queue p).arrivals);
  due = set_same (λ (q : Queue). q.due) queue new p.queues (found_name queue p.queues) (le_self (stored queue p).due 0);
}
  where
    new : Queue
    new = placed_in (lane_of (local_of queue p.definitions) m.md.priority) m (stored queue p)

try_adds_if : (b : Bool) (queue : List ℕ) (p : Plain) → Adds none (one_at queue) p (try_if b queue p)
try_adds_if true queue p = record {
  numbers = refl;
  running = refl;
  connections = refl;
  arrivals = set_same (λ (q : Queue). q.arrivals) queue new p.queues (found_name queue p.queues) (le_self (stored queue p).arrivals 0);
  due = set_one (λ (q : Queue). q.due) queue new p.queues (found_name queue p.queues) (one_more (stored queue p).due);
}
  where
    new : Queue
    new = made_due (depth_type (local_of queue p.definitions)) p.moment (stored queue p)
try_adds_if false queue p = record {
  numbers = refl;
  running = refl;
  connections = refl;
  arrivals = λ name. le_self (stored name p).arrivals 0;
  due = λ name. le_self (stored name p).due (one_at queue name);
}

one_and_none : (queue name : List ℕ) → one_at queue name + none name ≤ one_at queue name
one_and_none queue name = omega arith

none_and_one : (queue name : List ℕ) → none name + one_at queue name ≤ one_at queue name
none_and_one queue name = omega arith

placed_adds_one : (queue : List ℕ) (m : Message) (p : Plain) → Adds (one_at queue) (one_at queue) p (apply (Try queue m.md.priority) (apply (Places queue m) p))
placed_adds_one queue m p =
    let q : Plain = apply (Places queue m) p in
    add_on (one_at queue) none none (one_at queue) (one_at queue) (one_at queue) p q (apply (Try queue m.md.priority) q) (place_adds queue m p) (try_adds_if (condition (local_of queue q.definitions) m.md.priority q) queue q)
    (one_and_none queue) (none_and_one queue)

counts_more : (item : Item) (items : List Item) (name : List ℕ) → (if is_put_to name item then 1 else 0) + counts items name ≤ counts (item ∷ items) name
counts_more item items name = on (if is_put_to name item then 1 else 0) (counts items name) (counts (item ∷ items) name) (sum_by-cons (λ (x : Item). if is_put_to name x then 1 else 0) item items)
  where
    on : (a b c : ℕ) → c ≡ a + b → a + b ≤ c
    on a b c e = omega (arith, e)

placed_adds : (items : List Item) (p : Plain) → Adds (counts items) (counts items) p (apply_all (flat_map placed_item items) p)
placed_adds [] p = still_adds p
placed_adds (Put queue m ∷ items) p =
    let q : Plain = apply (Try queue m.md.priority) (apply (Places queue m) p) in
    add_on (one_at queue) (one_at queue) (counts items) (counts items) (counts (Put queue m ∷ items)) (counts (Put queue m ∷ items)) p q (apply_all (flat_map placed_item items) q)
    (placed_adds_one queue m p) (placed_adds items q) (counts_more (Put queue m) items) (counts_more (Put queue m) items)
placed_adds (Take queue ident persistent ∷ items) p =
    add_on none none (counts items) (counts items) (counts (Take queue ident persistent ∷ items)) (counts (Take queue ident persistent ∷ items)) p p (apply_all (flat_map placed_item items) p)
    (still_adds p) (placed_adds items p) (counts_more (Take queue ident persistent) items) (counts_more (Take queue ident persistent) items)

-- The unit ends: its puts are counted no more.
abbrev emptied : Connection → Connection
emptied c = record c { unit = [] }

same_number : (n : ℕ) → (n == n) ≡ true
same_number n = grind (arith, nat_tests)

number_is : (a b : ℕ) → (a == b) ≡ true → a ≡ b
number_is a b e = grind (arith, nat_tests)

some_is : {A : Type 0} (a b : A) → Some a ≡ Some b → a ≡ b
some_is a b e = cc

pub found_number : (number : ℕ) (cs : List Connection) (c : Connection) → connection_at number cs ≡ Some c → c.number ≡ number
found_number number [] c e = absurd cc
found_number number (x ∷ xs) c e = bool_case (x.number == number) (λ b. (x.number == number) ≡ b → (if b then Some x else connection_at number xs) ≡ Some c → c.number ≡ number)
    (λ z t h. ap (λ (y : Connection). y.number) (sym (some_is x c h)) ∙ number_is x.number number t) (λ z t h. found_number number xs c h) refl e

unit_gone : (name : List ℕ) (number : ℕ) (cs : List Connection) (c : Connection) → connection_at number cs ≡ Some c → puts_to name (change_connection number emptied cs) + counts c.unit name ≤ puts_to name cs
unit_gone name number [] c e = absurd cc
unit_gone name number (x ∷ xs) c e = bool_case (x.number == number) (λ b. (if b then Some x else connection_at number xs) ≡ Some c → puts_to name (if b then emptied x ∷ xs else x ∷ change_connection number emptied xs) + counts c.unit name ≤ puts_to name (x ∷ xs))
    (λ t h. here (puts_to name (emptied x ∷ xs)) (puts_to name (x ∷ xs)) (counts c.unit name) (counts x.unit name) (counts [] name) (puts_to name xs)
    (sum_by-cons (λ (y : Connection). counts y.unit name) (emptied x) xs) (sum_by-cons (λ (y : Connection). counts y.unit name) x xs) (ap (λ (y : Connection). counts y.unit name) (sym (some_is x c h))) refl)
    (λ t h. there (puts_to name (x ∷ change_connection number emptied xs)) (puts_to name (x ∷ xs)) (counts c.unit name) (counts x.unit name) (puts_to name (change_connection number emptied xs)) (puts_to name xs)
    (sum_by-cons (λ (y : Connection). counts y.unit name) x (change_connection number emptied xs)) (sum_by-cons (λ (y : Connection). counts y.unit name) x xs) (unit_gone name number xs c h)) e
  where
    here : (a b k u z s : ℕ) → a ≡ z + s → b ≡ u + s → k ≡ u → z ≡ 0 → a + k ≤ b
    here a b k u z s e f g h = omega (arith, e, f, g, h)

    there : (a b k u s t : ℕ) → a ≡ u + s → b ≡ u + t → s + k ≤ t → a + k ≤ b
    there a b k u s t e f le = omega (arith, e, f, le)

handles_same : (number m : ℕ) (cs : List Connection) → AllByRecursion (λ (c : Connection). c.last_handle ≤ m) cs → AllByRecursion (λ (c : Connection). c.last_handle ≤ m) (change_connection number emptied cs)
handles_same number m [] h = tt
handles_same number m (c ∷ cs) h = bool_case (c.number == number) (λ b. AllByRecursion (λ (x : Connection). x.last_handle ≤ m) (if b then emptied c ∷ cs else c ∷ change_connection number emptied cs))
    (λ e. (h.0, h.1)) (λ e. (h.0, handles_same number m cs h.1))

ended_climbs : (number : ℕ) (c : Connection) (p q : Plain) → connection_at number p.connections ≡ Some c → Adds (counts c.unit) (counts c.unit) p q → Climbs 0 p (apply (EndUnit number) q)
ended_climbs number c p q is a =
    let left : (name : List ℕ) → puts_to name (change_connection number emptied q.connections) + counts c.unit name ≤ puts_to name p.connections =
    λ name. subst (λ (cs : List Connection). puts_to name (change_connection number emptied cs) + counts c.unit name ≤ puts_to name p.connections) (sym a.connections) (unit_gone name number p.connections c is) in
    record {
      incarnation = same (q.numbers.incarnation + starts_of q.running) (p.numbers.incarnation + starts_of p.running) (ap (λ (n : Numbers). n.incarnation + starts_of q.running) a.numbers ∙ ap (λ (r : Running). p.numbers.incarnation + starts_of r) a.running);
      idents = same q.numbers.idents p.numbers.idents (ap (λ (n : Numbers). n.idents) a.numbers);
      connections = same q.numbers.connections p.numbers.connections (ap (λ (n : Numbers). n.connections) a.numbers);
      handles = λ m h. handles_more m (m + 0) (change_connection number emptied q.connections) (le_self m 0) (handles_same number m q.connections (subst (λ (cs : List Connection). AllByRecursion (λ (x : Connection). x.last_handle ≤ m) cs) (sym a.connections) h));
      arrivals = λ name. on (stored name p).arrivals (stored name q).arrivals (counts c.unit name) (puts_to name (change_connection number emptied q.connections)) (puts_to name p.connections) (a.arrivals name) (left name);
      due = λ name. on (stored name p).due (stored name q).due (counts c.unit name) (puts_to name (change_connection number emptied q.connections)) (puts_to name p.connections) (a.due name) (left name);
    }
  where
    same : (a b : ℕ) → a ≡ b → a ≤ b + 0
    same a b e = omega (arith, e)

    on : (a b k x y : ℕ) → b ≤ a + k → x + k ≤ y → b + x ≤ a + y + 0
    on a b k x y le less = omega (arith, le, less)

apply_both : (xs ys : List Change) (p : Plain) → apply_all (xs ++ ys) p ≡ apply_all ys (apply_all xs p)
apply_both [] ys p = refl
apply_both (x ∷ xs) ys p = apply_both xs ys (apply x p)

none_and_counts : (items : List Item) (name : List ℕ) → none name + counts items name ≤ counts items name
none_and_counts items name = omega arith

-- the held rows go, the puts are placed, and the unit ends
pub commit_climbs : (c : Connection) (number : ℕ) (p : Plain) → connection_at number p.connections ≡ Some c → Climbs 0 p (apply_all (commit_changes c) p)
commit_climbs c number p is =
    let taken : Plain = apply_all (flat_map taken_item c.unit) p in
    let placed : Plain = apply_all (flat_map placed_item c.unit) taken in
    let all : Adds (counts c.unit) (counts c.unit) p placed =
    add_on none none (counts c.unit) (counts c.unit) (counts c.unit) (counts c.unit) p taken placed (taken_adds c.unit p) (placed_adds c.unit taken) (none_and_counts c.unit) (none_and_counts c.unit) in
    let whole : apply_all (commit_changes c) p ≡ apply (EndUnit c.number) placed =
    apply_both (flat_map taken_item c.unit ++ flat_map placed_item c.unit) (EndUnit c.number ∷ []) p ∙ ap (λ (x : Plain). apply (EndUnit c.number) x) (apply_both (flat_map taken_item c.unit) (flat_map placed_item c.unit) p) in
    subst (λ (x : Plain). Climbs 0 p x) (sym whole) (ended_climbs c.number c p placed (ap (λ (n : ℕ). connection_at n p.connections) (found_number number p.connections c is) ∙ is) all)

-- and more is done behind it, which grows by nothing
pub ended_climbs_more : (c : Connection) (number : ℕ) (more : List Change) (p : Plain) → connection_at number p.connections ≡ Some c → all_growth more ≡ 0 → Climbs 0 p (apply_all (commit_changes c ++ more) p)
ended_climbs_more c number more p is none_grown =
    let done : Plain = apply_all (commit_changes c) p in
    subst (λ (x : Plain). Climbs 0 p x) (sym (apply_both (commit_changes c) more p))
    (climb_on 0 0 p done (apply_all more done) (commit_climbs c number p is) (grown 0 more done (zero (all_growth more) none_grown)))
  where
    zero : (n : ℕ) → n ≡ 0 → n ≤ 0
    zero n e = omega (arith, e)
