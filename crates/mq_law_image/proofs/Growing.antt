-- Each change raises counters by no more than its growth.
use Rattle.std.proofs.Common.{ℕ, suc, ◌≡◌, ◌+◌, ◌-◌, ◌≤◌, Bool, true, false, List, [], ◌∷◌, ◌++◌, length, refl, ap, sym, subst, ◌∙◌, arith, map}
use Rattle.std.specs.Prelude.{Some, if◌then◌else◌, ◌==◌, not, filter, sum_by, count_by}
use Rattle.std.specs.Str.{bytes_eq}
use Rattle.std.specs.List.{AllByRecursion}
use Rattle.std.proofs.lemmas.Bool.Decides.{nat_tests}
use Rattle.std.proofs.lemmas.List.Sums.{sum_by-cons, sum_by_push}
use Rattle.mq_objects.specs.Names.{local_of}
use Rattle.mq_calls.specs.State.{Plain, Queue, Change, fresh_queue}
use Rattle.mq_calls.specs.declared.state.Connection.{Connection}
use Rattle.mq_calls.specs.declared.state.Item.{Item}
use Rattle.mq_calls.specs.State.Change.{Place as Places, Try, Leave, Hold, Release, Connect, Disconnect, OpenHandle, CloseHandle, SetCursor, Pend, EndUnit, MakeStale, CountIdent, Renew, DropQueue, SwitchOn, Serve, SetBound, ForgetAll}
use Rattle.mq_calls.specs.Condition.{condition}
use Rattle.mq_calls.specs.Reads.{stored, queue_in, puts_to, is_put_to, reserved, unit_need, with_head, item_bytes}
use Rattle.mq_calls.specs.Changes.{apply, apply_all, set_queue, placed_in, lane_of, kept_in, held_in, released_in, made_due, depth_type, try_if, forgotten, change_connection, change_handle, made_stale, set_bound}
use Rattle.mq_calls.specs.Counts.{starts_of}
use Rattle.mq_law_log.proofs.from_law_manager.Lists.{bool_case}
use Rattle.mq_law_log.proofs.from_law_manager.Named.{name_is, queue_set, queue_mapped, queue_dropped, found_name}
use Rattle.mq_law_image.specs.Bounds.{IsBounded, growth, all_growth}

-- no counter of the second is more than so much above the first's
pub record Rises (n : ℕ) (p q : Plain) : Type 0 where
  pub incarnation : q.numbers.incarnation + starts_of q.running ≤ p.numbers.incarnation + starts_of p.running + n
  pub idents : q.numbers.idents ≤ p.numbers.idents + n
  pub connections : q.numbers.connections ≤ p.numbers.connections + n
  pub handles : (m : ℕ) → AllByRecursion (λ (c : Connection). c.last_handle ≤ m) p.connections → AllByRecursion (λ (c : Connection). c.last_handle ≤ m + n) q.connections
  pub arrivals : (name : List ℕ) → (stored name q).arrivals + puts_to name q.connections ≤ (stored name p).arrivals + puts_to name p.connections + n
  pub due : (name : List ℕ) → (stored name q).due + puts_to name q.connections ≤ (stored name p).due + puts_to name p.connections + n
  pub log : q.log.length + reserved q ≤ p.log.length + reserved p + n

le_on : (a b m n : ℕ) → b ≤ a + n → a ≤ m → b ≤ m + n
le_on a b m n x y = omega (arith, x, y)

pub bounded_by : (n most : ℕ) (p q : Plain) → Rises n p q → IsBounded most p → IsBounded (most + n) q
bounded_by n most p q r b = record {
  incarnation = le_on (p.numbers.incarnation + starts_of p.running) (q.numbers.incarnation + starts_of q.running) most n r.incarnation b.incarnation;
  idents = le_on p.numbers.idents q.numbers.idents most n r.idents b.idents;
  connections = le_on p.numbers.connections q.numbers.connections most n r.connections b.connections;
  handles = r.handles most b.handles;
  arrivals = λ name. le_on ((stored name p).arrivals + puts_to name p.connections) ((stored name q).arrivals + puts_to name q.connections) most n (r.arrivals name) (b.arrivals name);
  due = λ name. le_on ((stored name p).due + puts_to name p.connections) ((stored name q).due + puts_to name q.connections) most n (r.due name) (b.due name);
  log = le_on (p.log.length + reserved p) (q.log.length + reserved q) most n r.log b.log;
}

le_both : (a b c m n : ℕ) → b ≤ a + m → c ≤ b + n → c ≤ a + (m + n)
le_both a b c m n x y = omega (arith, x, y)

pub handles_more : (a b : ℕ) (cs : List Connection) → a ≤ b → AllByRecursion (λ (c : Connection). c.last_handle ≤ a) cs → AllByRecursion (λ (c : Connection). c.last_handle ≤ b) cs
handles_more a b [] le h = tt
handles_more a b (c ∷ cs) le h = (on c.last_handle a b h.0 le, handles_more a b cs le h.1)
  where
    on : (x y z : ℕ) → x ≤ y → y ≤ z → x ≤ z
    on x y z p q = omega (arith, p, q)

pub rise_on : (m n : ℕ) (p q r : Plain) → Rises m p q → Rises n q r → Rises (m + n) p r
rise_on m n p q r a b = record {
  incarnation = le_both (p.numbers.incarnation + starts_of p.running) (q.numbers.incarnation + starts_of q.running) (r.numbers.incarnation + starts_of r.running) m n a.incarnation b.incarnation;
  idents = le_both p.numbers.idents q.numbers.idents r.numbers.idents m n a.idents b.idents;
  connections = le_both p.numbers.connections q.numbers.connections r.numbers.connections m n a.connections b.connections;
  handles = λ k h. handles_more (k + m + n) (k + (m + n)) r.connections (same k m n) (b.handles (k + m) (a.handles k h));
  arrivals = λ name. le_both ((stored name p).arrivals + puts_to name p.connections) ((stored name q).arrivals + puts_to name q.connections) ((stored name r).arrivals + puts_to name r.connections) m n (a.arrivals name) (b.arrivals name);
  due = λ name. le_both ((stored name p).due + puts_to name p.connections) ((stored name q).due + puts_to name q.connections) ((stored name r).due + puts_to name r.connections) m n (a.due name) (b.due name);
  log = le_both (p.log.length + reserved p) (q.log.length + reserved q) (r.log.length + reserved r) m n a.log b.log;
}
  where
    same : (k m n : ℕ) → k + m + n ≤ k + (m + n)
    same k m n = omega arith

-- ---- sums over connections

pub le_self : (a n : ℕ) → a ≤ a + n
le_self a n = omega arith

pub changed_sum : (f : Connection → ℕ) (g : Connection → Connection) (k number : ℕ) (cs : List Connection) → ((c : Connection) → f (g c) ≤ f c + k) → sum_by f (change_connection number g cs) ≤ sum_by f cs + k
changed_sum f g k number [] h = le_self (sum_by f []) k
changed_sum f g k number (c ∷ cs) h = bool_case (c.number == number) (λ b. sum_by f (if b then g c ∷ cs else c ∷ change_connection number g cs) ≤ sum_by f (c ∷ cs) + k)
    (λ e. here (sum_by f (g c ∷ cs)) (sum_by f (c ∷ cs)) (f (g c)) (f c) (sum_by f cs) k (sum_by-cons f (g c) cs) (sum_by-cons f c cs) (h c))
    (λ e. there (sum_by f (c ∷ change_connection number g cs)) (sum_by f (c ∷ cs)) (f c) (sum_by f (change_connection number g cs)) (sum_by f cs) k (sum_by-cons f c (change_connection number g cs)) (sum_by-cons f c cs) (changed_sum f g k number cs h))
  where
    here : (x y a b s k : ℕ) → x ≡ a + s → y ≡ b + s → a ≤ b + k → x ≤ y + k
    here x y a b s k e f le = omega (arith, e, f, le)

    there : (x y b s t k : ℕ) → x ≡ b + s → y ≡ b + t → s ≤ t + k → x ≤ y + k
    there x y b s t k e f le = omega (arith, e, f, le)

pub filtered_sum : (f : Connection → ℕ) (test : Connection → Bool) (cs : List Connection) → sum_by f (filter test cs) ≤ sum_by f cs
filtered_sum f test [] = zero_le (sum_by f [])
  where
    zero_le : (a : ℕ) → a ≤ a
    zero_le a = omega arith
filtered_sum f test (c ∷ cs) = bool_case (test c) (λ b. sum_by f (if b then c ∷ filter test cs else filter test cs) ≤ sum_by f (c ∷ cs))
    (λ e. here (sum_by f (c ∷ filter test cs)) (sum_by f (c ∷ cs)) (f c) (sum_by f (filter test cs)) (sum_by f cs) (sum_by-cons f c (filter test cs)) (sum_by-cons f c cs) (filtered_sum f test cs))
    (λ e. there (sum_by f (c ∷ cs)) (f c) (sum_by f (filter test cs)) (sum_by f cs) (sum_by-cons f c cs) (filtered_sum f test cs))
  where
    here : (x y b s t : ℕ) → x ≡ b + s → y ≡ b + t → s ≤ t → x ≤ y
    here x y b s t e f le = omega (arith, e, f, le)

    there : (y b s t : ℕ) → y ≡ b + t → s ≤ t → s ≤ y
    there y b s t f le = omega (arith, f, le)

pub mapped_sum : (f : Connection → ℕ) (g : Connection → Connection) (cs : List Connection) → ((c : Connection) → f (g c) ≡ f c) → sum_by f (map g cs) ≡ sum_by f cs
mapped_sum f g [] h = refl
mapped_sum f g (c ∷ cs) h = sum_by-cons f (g c) (map g cs) ∙ ap (λ (n : ℕ). n + sum_by f (map g cs)) (h c) ∙ ap (λ (n : ℕ). f c + n) (mapped_sum f g cs h) ∙ sym (sum_by-cons f c cs)

-- ---- handles

handles_changed : (g : Connection → Connection) (k m number : ℕ) (cs : List Connection) → ((c : Connection) → (g c).last_handle ≤ c.last_handle + k) → AllByRecursion (λ (c : Connection). c.last_handle ≤ m) cs → AllByRecursion (λ (c : Connection). c.last_handle ≤ m + k) (change_connection number g cs)
handles_changed g k m number [] h all = tt
handles_changed g k m number (c ∷ cs) h all = bool_case (c.number == number) (λ b. AllByRecursion (λ (x : Connection). x.last_handle ≤ m + k) (if b then g c ∷ cs else c ∷ change_connection number g cs))
    (λ e. (le_on c.last_handle (g c).last_handle m k (h c) all.0, handles_more m (m + k) cs (le_self m k) all.1))
    (λ e. (on c.last_handle m k all.0, handles_changed g k m number cs h all.1))
  where
    on : (x y k : ℕ) → x ≤ y → x ≤ y + k
    on x y k le = omega (arith, le)

handles_filtered : (test : Connection → Bool) (m : ℕ) (cs : List Connection) → AllByRecursion (λ (c : Connection). c.last_handle ≤ m) cs → AllByRecursion (λ (c : Connection). c.last_handle ≤ m) (filter test cs)
handles_filtered test m [] all = tt
handles_filtered test m (c ∷ cs) all = bool_case (test c) (λ b. AllByRecursion (λ (x : Connection). x.last_handle ≤ m) (if b then c ∷ filter test cs else filter test cs)) (λ e. (all.0, handles_filtered test m cs all.1)) (λ e. handles_filtered test m cs all.1)

handles_stale : (g : Connection → Connection) (m : ℕ) (cs : List Connection) → ((c : Connection) → (g c).last_handle ≡ c.last_handle) → AllByRecursion (λ (c : Connection). c.last_handle ≤ m) cs → AllByRecursion (λ (c : Connection). c.last_handle ≤ m) (map g cs)
handles_stale g m [] h all = tt
handles_stale g m (c ∷ cs) h all = (subst (λ (n : ℕ). n ≤ m) (sym (h c)) all.0, handles_stale g m cs h all.1)

handles_pushed : (c : Connection) (m : ℕ) (cs : List Connection) → c.last_handle ≤ m → AllByRecursion (λ (x : Connection). x.last_handle ≤ m) cs → AllByRecursion (λ (x : Connection). x.last_handle ≤ m) (cs ++ c ∷ [])
handles_pushed c m [] le all = (le, tt)
handles_pushed c m (x ∷ xs) le all = (all.0, handles_pushed c m xs le all.1)

-- ---- units

head_more : (a b : ℕ) → with_head (a + b) ≤ with_head a + (14 + b)
head_more a b = bool_case (a == 0) (λ t. (a == 0) ≡ t → with_head (a + b) ≤ (if t then 0 else 14 + a) + (14 + b)) (λ z e. zero b (is_zero a e)) (λ z e. some (a + b) a b refl) refl
  where
    is_zero : (n : ℕ) → (n == 0) ≡ true → n ≡ 0
    is_zero n e = grind (arith, nat_tests)

    at_most : (n : ℕ) → with_head n ≤ 14 + n
    at_most n = bool_case (n == 0) (λ t. (if t then 0 else 14 + n) ≤ 14 + n) (λ e. omega arith) (λ e. omega arith)

    on : (x a b : ℕ) → x ≤ 14 + (a + b) → a ≡ 0 → x ≤ 0 + (14 + b)
    on x a b le e = omega (arith, le, e)

    zero : (b : ℕ) → a ≡ 0 → with_head (a + b) ≤ 0 + (14 + b)
    zero b e = on (with_head (a + b)) a b (at_most (a + b)) e

    more : (x n a b : ℕ) → x ≤ 14 + n → n ≡ a + b → x ≤ (14 + a) + (14 + b)
    more x n a b le e = omega (arith, le, e)

    some : (n a b : ℕ) → n ≡ a + b → with_head n ≤ (14 + a) + (14 + b)
    some n a b e = more (with_head n) n a b (at_most n) e

pend_need : (unit : List Item) (item : Item) → unit_need (unit ++ item ∷ []) ≤ unit_need unit + (15 + item_bytes item)
pend_need unit item = on (unit_need (unit ++ item ∷ [])) (unit_need unit) (item_bytes item) (subst (λ (n : ℕ). with_head n ≤ unit_need unit + (14 + item_bytes item)) (sym (sum_by_push item_bytes unit item)) (head_more (sum_by item_bytes unit) (item_bytes item)))
  where
    on : (x y k : ℕ) → x ≤ y + (14 + k) → x ≤ y + (15 + k)
    on x y k le = omega (arith, le)

pend_count : (name : List ℕ) (unit : List Item) (item : Item) (k : ℕ) → count_by (is_put_to name) (unit ++ item ∷ []) ≤ count_by (is_put_to name) unit + (15 + k)
pend_count name unit item k = on (count_by (is_put_to name) (unit ++ item ∷ [])) (count_by (is_put_to name) unit) (if is_put_to name item then 1 else 0) k (sum_by_push (λ (x : Item). if is_put_to name x then 1 else 0) unit item) (one (is_put_to name item))
  where
    one : (b : Bool) → (if b then 1 else 0) ≤ 1
    one true = omega arith
    one false = omega arith

    on : (x y i k : ℕ) → x ≡ y + i → i ≤ 1 → x ≤ y + (15 + k)
    on x y i k e le = omega (arith, e, le)

-- ---- queues

pub set_rise : (f : Queue → ℕ) (k : ℕ) (new : Queue) (qs : List Queue) → f new ≤ f (queue_in new.name qs) + k → (name : List ℕ) → f (queue_in name (set_queue new qs)) ≤ f (queue_in name qs) + k
set_rise f k new qs h name = subst (λ (q : Queue). f q ≤ f (queue_in name qs) + k) (sym (queue_set name new qs))
    (bool_case (bytes_eq name new.name) (λ b. bytes_eq name new.name ≡ b → f (if b then new else queue_in name qs) ≤ f (queue_in name qs) + k)
    (λ z e. subst (λ (n : List ℕ). f new ≤ f (queue_in n qs) + k) (sym (name_is name new.name e)) h) (λ z e. le_self (f (queue_in name qs)) k) refl)

-- a queue that was stored is found by its own name
again : (name : List ℕ) (qs : List Queue) → queue_in (queue_in name qs).name qs ≡ queue_in name qs
again name qs = ap (λ (n : List ℕ). queue_in n qs) (found_name name qs)

same_le : (a b k : ℕ) → a ≡ b → a ≤ b + k
same_le a b k e = omega (arith, e)

-- ---- kinds of changes

queues_rise : (n : ℕ) (p : Plain) (qs : List Queue) → ((name : List ℕ) → (queue_in name qs).arrivals ≤ (queue_in name p.queues).arrivals + n) → ((name : List ℕ) → (queue_in name qs).due ≤ (queue_in name p.queues).due + n) → Rises n p (record p { queues = qs })
queues_rise n p qs arrivals due = record {
  incarnation = le_self (p.numbers.incarnation + starts_of p.running) n;
  idents = le_self p.numbers.idents n;
  connections = le_self p.numbers.connections n;
  handles = λ m h. handles_more m (m + n) p.connections (le_self m n) h;
  arrivals = λ name. on (queue_in name qs).arrivals (queue_in name p.queues).arrivals (puts_to name p.connections) n (arrivals name);
  due = λ name. on (queue_in name qs).due (queue_in name p.queues).due (puts_to name p.connections) n (due name);
  log = le_self (p.log.length + reserved p) n;
}
  where
    on : (a b c n : ℕ) → a ≤ b + n → a + c ≤ b + c + n
    on a b c n le = omega (arith, le)

pub mapped_rise : (f : Queue → Queue) (p : Plain) → ((q : Queue) → (f q).name ≡ q.name) → ((name : List ℕ) → f (fresh_queue name) ≡ fresh_queue name) → ((q : Queue) → (f q).arrivals ≤ q.arrivals + 0) → ((q : Queue) → (f q).due ≤ q.due + 0) → Rises 0 p (record p { queues = map f p.queues })
mapped_rise f p same fresh arrivals due = queues_rise 0 p (map f p.queues)
    (λ name. subst (λ (q : Queue). q.arrivals ≤ (queue_in name p.queues).arrivals + 0) (sym (queue_mapped f name p.queues same (fresh name))) (arrivals (queue_in name p.queues)))
    (λ name. subst (λ (q : Queue). q.due ≤ (queue_in name p.queues).due + 0) (sym (queue_mapped f name p.queues same (fresh name))) (due (queue_in name p.queues)))

connections_rise : (n : ℕ) (p : Plain) (cs : List Connection) → ((m : ℕ) → AllByRecursion (λ (c : Connection). c.last_handle ≤ m) p.connections → AllByRecursion (λ (c : Connection). c.last_handle ≤ m + n) cs)
    → ((name : List ℕ) → puts_to name cs ≤ puts_to name p.connections + n) → sum_by (λ (c : Connection). unit_need c.unit) cs ≤ reserved p + n → Rises n p (record p { connections = cs })
connections_rise n p cs handles puts needs = record {
  incarnation = le_self (p.numbers.incarnation + starts_of p.running) n;
  idents = le_self p.numbers.idents n;
  connections = le_self p.numbers.connections n;
  handles = handles;
  arrivals = λ name. on (stored name p).arrivals (puts_to name cs) (puts_to name p.connections) n (puts name);
  due = λ name. on (stored name p).due (puts_to name cs) (puts_to name p.connections) n (puts name);
  log = on p.log.length (sum_by (λ (c : Connection). unit_need c.unit) cs) (reserved p) n needs;
}
  where
    on : (a b c n : ℕ) → b ≤ c + n → a + b ≤ a + c + n
    on a b c n le = omega (arith, le)

-- one connection is changed
one_rise : (n number : ℕ) (g : Connection → Connection) (p : Plain) → ((c : Connection) → (g c).last_handle ≤ c.last_handle + n) → ((name : List ℕ) (c : Connection) → count_by (is_put_to name) (g c).unit ≤ count_by (is_put_to name) c.unit + n)
    → ((c : Connection) → unit_need (g c).unit ≤ unit_need c.unit + n) → Rises n p (record p { connections = change_connection number g p.connections })
one_rise n number g p handles puts needs = connections_rise n p (change_connection number g p.connections) (λ m h. handles_changed g n m number p.connections handles h)
    (λ name. changed_sum (λ (c : Connection). count_by (is_put_to name) c.unit) g n number p.connections (λ c. puts name c)) (changed_sum (λ (c : Connection). unit_need c.unit) g n number p.connections needs)

less_le : (a b n : ℕ) → a ≤ b → a ≤ b + n
less_le a b n le = omega (arith, le)

pub fewer_rise : (p : Plain) (test : Connection → Bool) → Rises 0 p (record p { connections = filter test p.connections })
fewer_rise p test = connections_rise 0 p (filter test p.connections) (λ m h. handles_more m (m + 0) (filter test p.connections) (le_self m 0) (handles_filtered test m p.connections h))
    (λ name. less_le (puts_to name (filter test p.connections)) (puts_to name p.connections) 0 (filtered_sum (λ (c : Connection). count_by (is_put_to name) c.unit) test p.connections))
    (less_le (sum_by (λ (c : Connection). unit_need c.unit) (filter test p.connections)) (reserved p) 0 (filtered_sum (λ (c : Connection). unit_need c.unit) test p.connections))

-- counters stand as they are
pub still_rises : (n : ℕ) (p q : Plain) → q.numbers ≡ p.numbers → q.running ≡ p.running → q.connections ≡ p.connections → q.queues ≡ p.queues → q.log ≡ p.log → Rises n p q
still_rises n p q numbers running connections queues log = record {
  incarnation = same_le (q.numbers.incarnation + starts_of q.running) (p.numbers.incarnation + starts_of p.running) n (ap (λ x. x.incarnation + starts_of q.running) numbers ∙ ap (λ x. p.numbers.incarnation + starts_of x) running);
  idents = same_le q.numbers.idents p.numbers.idents n (ap (λ x. x.idents) numbers);
  connections = same_le q.numbers.connections p.numbers.connections n (ap (λ x. x.connections) numbers);
  handles = λ m h. handles_more m (m + n) q.connections (le_self m n) (subst (λ (cs : List Connection). AllByRecursion (λ (c : Connection). c.last_handle ≤ m) cs) (sym connections) h);
  arrivals = λ name. same_le ((stored name q).arrivals + puts_to name q.connections) ((stored name p).arrivals + puts_to name p.connections) n (ap (λ (qs : List Queue). (queue_in name qs).arrivals + puts_to name q.connections) queues ∙ ap (λ (cs : List Connection). (stored name p).arrivals + puts_to name cs) connections);
  due = λ name. same_le ((stored name q).due + puts_to name q.connections) ((stored name p).due + puts_to name p.connections) n (ap (λ (qs : List Queue). (queue_in name qs).due + puts_to name q.connections) queues ∙ ap (λ (cs : List Connection). (stored name p).due + puts_to name cs) connections);
  log = same_le (q.log.length + reserved q) (p.log.length + reserved p) n (ap (λ x. x.length + reserved q) log ∙ ap (λ (cs : List Connection). p.log.length + sum_by (λ (c : Connection). unit_need c.unit) cs) connections);
}

try_rises : (b : Bool) (name : List ℕ) (p : Plain) → Rises 1 p (try_if b name p)
try_rises true name p =
    let new : Queue = made_due (depth_type (local_of name p.definitions)) p.moment (stored name p) in
    queues_rise 1 p (set_queue new p.queues)
    (set_rise (λ (q : Queue). q.arrivals) 1 new p.queues (same_le new.arrivals (queue_in new.name p.queues).arrivals 1 (sym (ap (λ (q : Queue). q.arrivals) (again name p.queues)))))
    (set_rise (λ (q : Queue). q.due) 1 new p.queues (subst (λ (q : Queue). new.due ≤ q.due + 1) (sym (again name p.queues)) (self (stored name p).due)))
  where
    self : (n : ℕ) → n + 1 ≤ n + 1
    self n = omega arith
try_rises false name p = still_rises 1 p p refl refl refl refl refl

place_rises : (name : List ℕ) (lane : ℕ) (p : Plain) (new : Queue) → new.name ≡ (stored name p).name → new.arrivals ≡ (stored name p).arrivals + 1 → new.due ≡ (stored name p).due → Rises 1 p (record p { queues = set_queue new p.queues })
place_rises name lane p new n a d = queues_rise 1 p (set_queue new p.queues)
    (set_rise (λ (q : Queue). q.arrivals) 1 new p.queues (up new.arrivals (stored name p).arrivals (queue_in new.name p.queues).arrivals a (ap (λ (q : Queue). q.arrivals) here)))
    (set_rise (λ (q : Queue). q.due) 1 new p.queues (same_le new.due (queue_in new.name p.queues).due 1 (d ∙ sym (ap (λ (q : Queue). q.due) here))))
  where
    here : queue_in new.name p.queues ≡ stored name p
    here = ap (λ (x : List ℕ). queue_in x p.queues) n ∙ again name p.queues

    up : (x y z : ℕ) → x ≡ y + 1 → z ≡ y → x ≤ z + 1
    up x y z e f = omega (arith, e, f)

-- a queue whose counters aren't higher takes the place of the one that was stored
set_rises : (name : List ℕ) (p : Plain) (new : Queue) → new.name ≡ name → new.arrivals ≤ (stored name p).arrivals → new.due ≤ (stored name p).due → Rises 0 p (record p { queues = set_queue new p.queues })
set_rises name p new n a d = queues_rise 0 p (set_queue new p.queues)
    (set_rise (λ (q : Queue). q.arrivals) 0 new p.queues (subst (λ (x : List ℕ). new.arrivals ≤ (queue_in x p.queues).arrivals + 0) (sym n) (less_le new.arrivals (stored name p).arrivals 0 a)))
    (set_rise (λ (q : Queue). q.due) 0 new p.queues (subst (λ (x : List ℕ). new.due ≤ (queue_in x p.queues).due + 0) (sym n) (less_le new.due (stored name p).due 0 d)))

pub le_refl : (n : ℕ) → n ≤ n
le_refl n = omega arith

zero_le : (n : ℕ) → 0 ≤ n
zero_le n = omega arith

less_one : (n : ℕ) → n - 1 ≤ n
less_one n = omega arith

bound_rises : (b : Bool) (channel : List ℕ) (p : Plain) → Rises 0 p (record p { channels = set_bound b channel p.channels })
bound_rises b channel p = still_rises 0 p (record p { channels = set_bound b channel p.channels }) refl refl refl refl refl

dropped_rises : (name : List ℕ) (p : Plain) → Rises 0 p (record p { queues = filter (λ (q : Queue). not (bytes_eq name q.name)) p.queues })
dropped_rises name p = queues_rise 0 p (filter (λ (q : Queue). not (bytes_eq name q.name)) p.queues) (λ other. at (λ (q : Queue). q.arrivals) (λ n. refl) other) (λ other. at (λ (q : Queue). q.due) (λ n. refl) other)
  where
    at : (f : Queue → ℕ) → ((n : List ℕ) → f (fresh_queue n) ≡ 0) → (other : List ℕ) → f (queue_in other (filter (λ (q : Queue). not (bytes_eq name q.name)) p.queues)) ≤ f (queue_in other p.queues) + 0
    at f zero other = subst (λ (q : Queue). f q ≤ f (queue_in other p.queues) + 0) (sym (queue_dropped other name p.queues))
        (bool_case (bytes_eq other name) (λ b. f (if b then fresh_queue other else queue_in other p.queues) ≤ f (queue_in other p.queues) + 0) (λ e. none (f (fresh_queue other)) (f (queue_in other p.queues)) (zero other)) (λ e. le_self (f (queue_in other p.queues)) 0))
      where
        none : (a b : ℕ) → a ≡ 0 → a ≤ b + 0
        none a b e = omega (arith, e)

connect_rises : (c : Connection) (p : Plain) → Rises (growth (Connect c)) p (apply (Connect c) p)
connect_rises c p = record {
  incarnation = le_self (p.numbers.incarnation + starts_of p.running) (growth (Connect c));
  idents = le_self p.numbers.idents (growth (Connect c));
  connections = one p.numbers.connections c.last_handle (length c.unit) (unit_need c.unit);
  handles = λ m h. handles_pushed c (m + growth (Connect c)) p.connections (two m c.last_handle (length c.unit) (unit_need c.unit)) (handles_more m (m + growth (Connect c)) p.connections (le_self m (growth (Connect c))) h);
  arrivals = λ name. three (stored name p).arrivals (puts_to name (p.connections ++ c ∷ [])) (puts_to name p.connections) (count_by (is_put_to name) c.unit) c.last_handle (length c.unit) (unit_need c.unit) (sum_by_push (λ (x : Connection). count_by (is_put_to name) x.unit) p.connections c) (counted name c.unit);
  due = λ name. three (stored name p).due (puts_to name (p.connections ++ c ∷ [])) (puts_to name p.connections) (count_by (is_put_to name) c.unit) c.last_handle (length c.unit) (unit_need c.unit) (sum_by_push (λ (x : Connection). count_by (is_put_to name) x.unit) p.connections c) (counted name c.unit);
  log = four p.log.length (reserved (apply (Connect c) p)) (reserved p) c.last_handle (length c.unit) (unit_need c.unit) (sum_by_push (λ (x : Connection). unit_need x.unit) p.connections c);
}
  where
    one : (a h l u : ℕ) → a + 1 ≤ a + (1 + h + l + u)
    one a h l u = omega arith

    two : (m h l u : ℕ) → h ≤ m + (1 + h + l + u)
    two m h l u = omega arith

    three : (a x y k h l u : ℕ) → x ≡ y + k → k ≤ l → a + x ≤ a + y + (1 + h + l + u)
    three a x y k h l u e le = omega (arith, e, le)

    four : (a x y h l u : ℕ) → x ≡ y + u → a + x ≤ a + y + (1 + h + l + u)
    four a x y h l u e = omega (arith, e)

    counted : (name : List ℕ) (items : List Item) → count_by (is_put_to name) items ≤ length items
    counted name [] = le_refl 0
    counted name (i ∷ is) = up (count_by (is_put_to name) (i ∷ is)) (if is_put_to name i then 1 else 0) (count_by (is_put_to name) is) (length is) (sum_by-cons (λ (x : Item). if is_put_to name x then 1 else 0) i is) (most (is_put_to name i)) (counted name is)
      where
        most : (b : Bool) → (if b then 1 else 0) ≤ 1
        most true = omega arith
        most false = omega arith

        up : (x a y n : ℕ) → x ≡ a + y → a ≤ 1 → y ≤ n → x ≤ suc n
        up x a y n e f g = omega (arith, e, f, g)

forget_rises : (p : Plain) → Rises 0 p (apply ForgetAll p)
forget_rises p = record {
  incarnation = le_self (p.numbers.incarnation + starts_of p.running) 0;
  idents = le_self p.numbers.idents 0;
  connections = le_self p.numbers.connections 0;
  handles = λ m h. tt;
  arrivals = λ name. on (queue_in name (map forgotten p.queues)).arrivals (stored name p).arrivals (puts_to name p.connections) (ap (λ (q : Queue). q.arrivals) (queue_mapped forgotten name p.queues (λ q. refl) refl));
  due = λ name. none (queue_in name (map forgotten p.queues)).due (stored name p).due (puts_to name p.connections) (ap (λ (q : Queue). q.due) (queue_mapped forgotten name p.queues (λ q. refl) refl));
  log = less p.log.length (reserved p);
}
  where
    on : (a b k : ℕ) → a ≡ b → a + 0 ≤ b + k + 0
    on a b k e = omega (arith, e)

    none : (a b k : ℕ) → a ≡ 0 → a + 0 ≤ b + k + 0
    none a b k e = omega (arith, e)

    less : (a k : ℕ) → a + 0 ≤ a + k + 0
    less a k = omega arith

count_rises : (p : Plain) → Rises 1 p (apply CountIdent p)
count_rises p = record {
  incarnation = le_self (p.numbers.incarnation + starts_of p.running) 1;
  idents = le_refl (p.numbers.idents + 1);
  connections = le_self p.numbers.connections 1;
  handles = λ m h. handles_more m (m + 1) p.connections (le_self m 1) h;
  arrivals = λ name. le_self ((stored name p).arrivals + puts_to name p.connections) 1;
  due = λ name. le_self ((stored name p).due + puts_to name p.connections) 1;
  log = le_self (p.log.length + reserved p) 1;
}

-- ---- each change

pub change_rises : (c : Change) (p : Plain) → Rises (growth c) p (apply c p)
change_rises (Places name m) p = place_rises name 0 p (placed_in (lane_of (local_of name p.definitions) m.md.priority) m (stored name p)) refl refl refl
change_rises (Try name priority) p = try_rises (condition (local_of name p.definitions) priority p) name p
change_rises (Leave which) p = mapped_rise (kept_in which) p (λ q. refl) (λ n. refl) (λ q. le_self q.arrivals 0) (λ q. le_self q.due 0)
change_rises (Hold which by) p = mapped_rise (held_in which by) p (λ q. refl) (λ n. refl) (λ q. le_self q.arrivals 0) (λ q. le_self q.due 0)
change_rises (Release which counted) p = mapped_rise (released_in which counted) p (λ q. refl) (λ n. refl) (λ q. le_self q.arrivals 0) (λ q. le_self q.due 0)
change_rises (Connect c) p = connect_rises c p
change_rises (Disconnect number) p = fewer_rise p (λ (c : Connection). not (c.number == number))
change_rises (OpenHandle number h) p = one_rise 1 number (λ c. record c { handles = c.handles ++ h ∷ []; last_handle = c.last_handle + 1 }) p (λ c. le_refl (c.last_handle + 1)) (λ name c. le_self (count_by (is_put_to name) c.unit) 1) (λ c. le_self (unit_need c.unit) 1)
change_rises (CloseHandle number handle) p = one_rise 0 number (λ c. record c { handles = filter (λ h. not (h.number == handle)) c.handles }) p (λ c. le_self c.last_handle 0) (λ name c. le_self (count_by (is_put_to name) c.unit) 0) (λ c. le_self (unit_need c.unit) 0)
change_rises (SetCursor number handle place) p = one_rise 0 number (λ c. record c { handles = change_handle handle (λ h. record h { cursor = Some place }) c.handles }) p (λ c. le_self c.last_handle 0) (λ name c. le_self (count_by (is_put_to name) c.unit) 0) (λ c. le_self (unit_need c.unit) 0)
change_rises (Pend number item) p = one_rise (15 + item_bytes item) number (λ c. record c { unit = c.unit ++ item ∷ [] }) p (λ c. le_self c.last_handle (15 + item_bytes item)) (λ name c. pend_count name c.unit item (item_bytes item)) (λ c. pend_need c.unit item)
change_rises (EndUnit number) p = one_rise 0 number (λ c. record c { unit = [] }) p (λ c. le_self c.last_handle 0) (λ name c. zero_le (count_by (is_put_to name) c.unit + 0)) (λ c. zero_le (unit_need c.unit + 0))
change_rises (MakeStale step) p = connections_rise 0 p (map (made_stale step) p.connections) (λ m h. handles_more m (m + 0) (map (made_stale step) p.connections) (le_self m 0) (handles_stale (made_stale step) m p.connections (λ c. refl) h))
    (λ name. same_le (puts_to name (map (made_stale step) p.connections)) (puts_to name p.connections) 0 (mapped_sum (λ (c : Connection). count_by (is_put_to name) c.unit) (made_stale step) p.connections (λ c. refl)))
    (same_le (sum_by (λ (c : Connection). unit_need c.unit) (map (made_stale step) p.connections)) (reserved p) 0 (mapped_sum (λ (c : Connection). unit_need c.unit) (made_stale step) p.connections (λ c. refl)))
change_rises CountIdent p = count_rises p
change_rises (Renew name) p = set_rises name p (fresh_queue name) refl (zero_le (stored name p).arrivals) (zero_le (stored name p).due)
change_rises (DropQueue name) p = dropped_rises name p
change_rises (SwitchOn name) p = set_rises name p (record (stored name p) { switched_off = false }) (found_name name p.queues) (le_refl (stored name p).arrivals) (le_refl (stored name p).due)
change_rises (Serve name) p = set_rises name p (record (stored name p) { due = (stored name p).due - 1 }) (found_name name p.queues) (le_refl (stored name p).arrivals) (less_one (stored name p).due)
change_rises (SetBound channel true) p = bound_rises true channel p
change_rises (SetBound channel false) p = bound_rises false channel p
change_rises ForgetAll p = forget_rises p
change_rises c p = still_rises 0 p (apply c p) refl refl refl refl refl

pub all_rise : (cs : List Change) (p : Plain) → Rises (all_growth cs) p (apply_all cs p)
all_rise [] p = still_rises 0 p p refl refl refl refl refl
all_rise (c ∷ cs) p = rise_on (growth c) (all_growth cs) p (apply c p) (apply_all cs (apply c p)) (change_rises c p) (all_rise cs (apply c p))
