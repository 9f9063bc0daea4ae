-- Each change does to the view what is said of it.
use Rattle.std.proofs.Common.{ℕ, ◌≡◌, ◌+◌, Bool, true, false, List, [], ◌∷◌, ◌++◌, refl, ap, sym, ◌∙◌, arith}
use Rattle.std.specs.Prelude.{Option, Some, None, if◌then◌else◌, filter, not, map, ◌==◌}
use Rattle.std.specs.Str.{bytes_eq}
use Rattle.std.proofs.lemmas.Bool.Decides.{nat_tests}
use Rattle.mq_queue.specs.declared.row.Row.{Row}
use Rattle.mq_queue.specs.Rows.{keep, retag}
use Rattle.mq_objects.specs.Names.{local_of}
use Rattle.mq_calls.specs.declared.records.Add.{Add}
use Rattle.mq_sync.specs.declared.data.SenderData.{SenderData}
use Rattle.mq_calls.specs.State.{Plain, Change, Queue, fresh_queue}
use Rattle.mq_calls.specs.declared.state.Connection.{Connection}
use Rattle.mq_calls.specs.declared.state.Item.{Item}
use Rattle.mq_calls.specs.declared.state.Item.TheVariants.{Put, Take}
use Rattle.mq_calls.specs.State.Change.{Place as Places, Try, Leave, Hold, Release, Connect, Disconnect, OpenHandle, CloseHandle, SetCursor, Pend, EndUnit, MakeStale, CountIdent, ChangeObjects, Renew, DropQueue, SwitchOn, Serve, SetSender, SetReceiver, Undoubt, Seize, Unseize, AddBatch, DropBatch, SetBound, SetMoment, ForgetAll}
use Rattle.mq_calls.specs.Reads.{stored, queue_in, connection_at, sender_in, in_doubt_of}
use Rattle.mq_calls.specs.Condition.{condition}
use Rattle.mq_calls.specs.Changes.{apply, with_queue, placed_in, lane_of, kept_in, held_in, released_in, made_due, depth_type, try_if, forgotten, change_connection, with_connection, made_stale}
use Rattle.mq_law_manager.specs.View.{View, Taken, view, at_name, at_number, puts_in, takes_in, items_of}
use Rattle.mq_law_manager.specs.Seen.{AsksNothing, seen, goes_if, held_if, freed_if}
use Rattle.mq_law_manager.proofs.Lists.{bool_case, eqb_yes}
use Rattle.mq_law_manager.proofs.Named.{name_is, queue_set, found_name, queue_dropped, queue_mapped, batch_set, batch_dropped, sender_set, doubt_less}

-- Rows and arrivals, where a queue is set, or all are mapped

abbrev pub queues_seen : (List ℕ → Queue) → View → View
queues_seen at v = record v { rows = λ name. (at name).rows; arrivals = λ name. (at name).arrivals }

-- a field of the queue that was set
field_set : {A : Type 0} (f : Queue → A) (name other : List ℕ) (new : Queue) (p : Plain) → new.name ≡ other → f (stored name (with_queue new p)) ≡ at_name other (f new) (λ q. f (stored q p)) name
field_set {A} f name other new p is = ap f (queue_set name new p.queues) ∙ ap (λ (x : List ℕ). f (if bytes_eq name x then new else stored name p)) is
    ∙ bool_case (bytes_eq name other) (λ b. f (if b then new else stored name p) ≡ (if b then f new else f (stored name p))) (λ e. refl) (λ e. refl)

-- one that stays as it is
field_same : {A : Type 0} (f : Queue → A) (name other : List ℕ) (new : Queue) (p : Plain) → new.name ≡ other → f new ≡ f (stored other p) → f (stored name (with_queue new p)) ≡ f (stored name p)
field_same {A} f name other new p is same = field_set f name other new p is
    ∙ bool_case (bytes_eq name other) (λ b. bytes_eq name other ≡ b → (if b then f new else f (stored name p)) ≡ f (stored name p))
    (λ e z. same ∙ ap (λ (x : List ℕ). f (stored x p)) (sym (name_is name other z))) (λ e z. refl) refl

pub set_same : (other : List ℕ) (new : Queue) (p : Plain) → new.name ≡ other → new.rows ≡ (stored other p).rows → new.arrivals ≡ (stored other p).arrivals → view (with_queue new p) ≡ view p
set_same other new p is rows arrivals = λ i. record (view p) {
  rows = λ name. field_same (λ q. q.rows) name other new p is rows i;
  arrivals = λ name. field_same (λ q. q.arrivals) name other new p is arrivals i;
}

pub set_other : (other : List ℕ) (new : Queue) (p : Plain) → new.name ≡ other → view (with_queue new p) ≡ record (view p) { rows = at_name other new.rows (view p).rows; arrivals = at_name other new.arrivals (view p).arrivals }
set_other other new p is = λ i. record (view p) {
  rows = λ name. field_set (λ q. q.rows) name other new p is i;
  arrivals = λ name. field_set (λ q. q.arrivals) name other new p is i;
}

abbrev mapped_plain : (Queue → Queue) → Plain → Plain
mapped_plain f p = record p { queues = map f p.queues }

-- all queues mapped, each by its name
pub mapped : (f : Queue → Queue) (g : List ℕ → List Row → List Row) (p : Plain) → ((q : Queue) → (f q).name ≡ q.name) → ((name : List ℕ) → f (fresh_queue name) ≡ fresh_queue name)
    → ((q : Queue) → (f q).rows ≡ g q.name q.rows) → ((q : Queue) → (f q).arrivals ≡ q.arrivals) → view (mapped_plain f p) ≡ record (view p) { rows = λ name. g name ((view p).rows name) }
mapped f g p h k rows arrivals = λ i. record (view p) {
  rows = λ name. (ap (λ (q : Queue). q.rows) (queue_mapped f name p.queues h (k name)) ∙ rows (stored name p) ∙ ap (λ (x : List ℕ). g x (stored name p).rows) (found_name name p.queues)) i;
  arrivals = λ name. (ap (λ (q : Queue). q.arrivals) (queue_mapped f name p.queues h (k name)) ∙ arrivals (stored name p)) i;
}

pub dropped : (name : List ℕ) (p : Plain) → view (apply (DropQueue name) p) ≡ seen (DropQueue name) p (view p)
dropped name p = λ i. record (view p) {
  rows = λ other. (ap (λ (q : Queue). q.rows) (queue_dropped other name p.queues)
      ∙ bool_case (bytes_eq other name) (λ b. (if b then fresh_queue other else queue_in other p.queues).rows ≡ (if b then [] else (stored other p).rows)) (λ e. refl) (λ e. refl)) i;
  arrivals = λ other. (ap (λ (q : Queue). q.arrivals) (queue_dropped other name p.queues)
      ∙ bool_case (bytes_eq other name) (λ b. (if b then fresh_queue other else queue_in other p.queues).arrivals ≡ (if b then 0 else (stored other p).arrivals)) (λ e. refl) (λ e. refl)) i;
}

-- Units, where a connection changes

abbrev pub mapped_one : (Connection → Connection) → Option Connection → Option Connection
mapped_one f None = None
mapped_one f (Some c) = Some (f c)

pub connection_changed : (n k : ℕ) (f : Connection → Connection) (cs : List Connection) → ((c : Connection) → (f c).number ≡ c.number)
    → connection_at k (change_connection n f cs) ≡ (if k == n then mapped_one f (connection_at k cs) else connection_at k cs)
connection_changed n k f [] h = bool_case (k == n) (λ b. connection_at k [] ≡ (if b then mapped_one f None else None)) (λ e. refl) (λ e. refl)
connection_changed n k f (c ∷ cs) h = bool_case (c.number == n)
    (λ b. connection_at k (if b then f c ∷ cs else c ∷ change_connection n f cs) ≡ (if k == n then mapped_one f (if c.number == k then Some c else connection_at k cs) else (if c.number == k then Some c else connection_at k cs)))
    (λ e. ap (λ (x : ℕ). if x == k then Some (f c) else connection_at k cs) (h c)
    ∙ bool_case (k == n) (λ b. (if c.number == k then Some (f c) else connection_at k cs) ≡ (if b then mapped_one f (if c.number == k then Some c else connection_at k cs) else (if c.number == k then Some c else connection_at k cs)))
    (λ w. ap (λ (b : Bool). if b then Some (f c) else connection_at k cs) (all_one c.number n k e w) ∙ ap (λ (b : Bool). mapped_one f (if b then Some c else connection_at k cs)) (sym (all_one c.number n k e w)))
    (λ w. ap (λ (b : Bool). if b then Some (f c) else connection_at k cs) (not_one c.number n k e w) ∙ ap (λ (b : Bool). if b then Some c else connection_at k cs) (sym (not_one c.number n k e w))))
    (λ e. ap (λ (o : Option Connection). if c.number == k then Some c else o) (connection_changed n k f cs h)
    ∙ bool_case (k == n) (λ b. (if c.number == k then Some c else (if b then mapped_one f (connection_at k cs) else connection_at k cs)) ≡ (if b then mapped_one f (if c.number == k then Some c else connection_at k cs) else (if c.number == k then Some c else connection_at k cs)))
    (λ w. ap (λ (b : Bool). if b then Some c else mapped_one f (connection_at k cs)) (other_one c.number n k e w) ∙ ap (λ (b : Bool). mapped_one f (if b then Some c else connection_at k cs)) (sym (other_one c.number n k e w)))
    (λ w. refl))
  where
    all_one : (x n k : ℕ) → (x == n) ≡ true → (k == n) ≡ true → (x == k) ≡ true
    all_one x n k e w = grind (arith, nat_tests)

    not_one : (x n k : ℕ) → (x == n) ≡ true → (k == n) ≡ false → (x == k) ≡ false
    not_one x n k e w = grind (arith, nat_tests)

    other_one : (x n k : ℕ) → (x == n) ≡ false → (k == n) ≡ true → (x == k) ≡ false
    other_one x n k e w = grind (arith, nat_tests)

-- what a unit has, told by a function of the items, where a connection changes
unit_changed : {A : Type 0} (g : List Item → A) (n k : ℕ) (f : Connection → Connection) (p : Plain) → ((c : Connection) → (f c).number ≡ c.number)
    → g (items_of (connection_at k (with_connection n f p).connections)) ≡ at_number n (g (items_of (mapped_one f (connection_at n p.connections)))) (λ l. g (items_of (connection_at l p.connections))) k
unit_changed {A} g n k f p h = ap (λ (o : Option Connection). g (items_of o)) (connection_changed n k f p.connections h)
    ∙ bool_case (k == n) (λ b. (k == n) ≡ b → g (items_of (if b then mapped_one f (connection_at k p.connections) else connection_at k p.connections)) ≡ (if b then g (items_of (mapped_one f (connection_at n p.connections))) else g (items_of (connection_at k p.connections))))
    (λ e z. ap (λ (x : ℕ). g (items_of (mapped_one f (connection_at x p.connections)))) (eqb_yes k n z)) (λ e z. refl) refl

-- nothing changes at a number
at_number_same : {A : Type 0} (n : ℕ) (new : A) (old : ℕ → A) (k : ℕ) → new ≡ old n → at_number n new old k ≡ old k
at_number_same {A} n new old k is = bool_case (k == n) (λ b. (k == n) ≡ b → (if b then new else old k) ≡ old k) (λ e z. is ∙ ap old (sym (eqb_yes k n z))) (λ e z. refl) refl

-- a connection whose unit stays
pub unit_same : (n : ℕ) (f : Connection → Connection) (p : Plain) → ((c : Connection) → (f c).number ≡ c.number) → ((c : Connection) → (f c).unit ≡ c.unit) → view (with_connection n f p) ≡ view p
unit_same n f p h u = λ i. record (view p) {
  puts = λ k. (unit_changed puts_in n k f p h ∙ at_number_same n _ (view p).puts k (ap puts_in (each (connection_at n p.connections)))) i;
  takes = λ k. (unit_changed takes_in n k f p h ∙ at_number_same n _ (view p).takes k (ap takes_in (each (connection_at n p.connections)))) i;
}
  where
    each : (o : Option Connection) → items_of (mapped_one f o) ≡ items_of o
    each None = refl
    each (Some c) = u c

pub unit_ended : (n : ℕ) (p : Plain) → view (apply (EndUnit n) p) ≡ seen (EndUnit n) p (view p)
unit_ended n p = λ i. record (view p) {
  puts = λ k. (unit_changed puts_in n k (λ c. record c { unit = [] }) p (λ c. refl) ∙ ap (λ (a : List Add). at_number n a (view p).puts k) (ap puts_in (each (connection_at n p.connections)))) i;
  takes = λ k. (unit_changed takes_in n k (λ c. record c { unit = [] }) p (λ c. refl) ∙ ap (λ (a : List Taken). at_number n a (view p).takes k) (ap takes_in (each (connection_at n p.connections)))) i;
}
  where
    each : (o : Option Connection) → items_of (mapped_one (λ c. record c { unit = [] }) o) ≡ []
    each None = refl
    each (Some c) = refl

puts_behind : (xs ys : List Item) → puts_in (xs ++ ys) ≡ puts_in xs ++ puts_in ys
puts_behind [] ys = refl
puts_behind (Put q m ∷ xs) ys = ap (λ (r : List Add). record { queue = q; message = m } ∷ r) (puts_behind xs ys)
puts_behind (Take q j b ∷ xs) ys = puts_behind xs ys

takes_behind : (xs ys : List Item) → takes_in (xs ++ ys) ≡ takes_in xs ++ takes_in ys
takes_behind [] ys = refl
takes_behind (Put q m ∷ xs) ys = takes_behind xs ys
takes_behind (Take q j b ∷ xs) ys = ap (λ (r : List Taken). record { queue = q; ident = j; persistent = b } ∷ r) (takes_behind xs ys)

pub pended : (n : ℕ) (item : Item) (p : Plain) (c : Connection) → connection_at n p.connections ≡ Some c → view (apply (Pend n item) p) ≡ seen (Pend n item) p (view p)
pended n item p c live =
    let f : Connection → Connection = λ c. record c { unit = c.unit ++ item ∷ [] } in
    λ i. record (view p) {
      puts = λ k. (unit_changed puts_in n k f p (λ c. refl) ∙ ap (λ (o : Option Connection). at_number n (puts_in (items_of (mapped_one f o))) (view p).puts k) live
          ∙ ap (λ (a : List Add). at_number n a (view p).puts k) (puts_behind c.unit (item ∷ []) ∙ ap (λ (o : Option Connection). puts_in (items_of o) ++ puts_in (item ∷ [])) (sym live))) i;
      takes = λ k. (unit_changed takes_in n k f p (λ c. refl) ∙ ap (λ (o : Option Connection). at_number n (takes_in (items_of (mapped_one f o))) (view p).takes k) live
          ∙ ap (λ (a : List Taken). at_number n a (view p).takes k) (takes_behind c.unit (item ∷ []) ∙ ap (λ (o : Option Connection). takes_in (items_of o) ++ takes_in (item ∷ [])) (sym live))) i;
    }

connection_gone : (n k : ℕ) (cs : List Connection) → connection_at k (filter (λ (c : Connection). not (c.number == n)) cs) ≡ (if k == n then None else connection_at k cs)
connection_gone n k [] = bool_case (k == n) (λ b. connection_at k [] ≡ (if b then None else None)) (λ e. refl) (λ e. refl)
connection_gone n k (c ∷ cs) = bool_case (c.number == n)
    (λ b. connection_at k (if not b then c ∷ filter (λ (c : Connection). not (c.number == n)) cs else filter (λ (c : Connection). not (c.number == n)) cs) ≡ (if k == n then None else (if c.number == k then Some c else connection_at k cs)))
    (λ e. connection_gone n k cs ∙ bool_case (k == n) (λ b. (if b then None else connection_at k cs) ≡ (if b then None else (if c.number == k then Some c else connection_at k cs))) (λ w. refl) (λ w. ap (λ (b : Bool). if b then Some c else connection_at k cs) (sym (not_one c.number n k e w))))
    (λ e. ap (λ (o : Option Connection). if c.number == k then Some c else o) (connection_gone n k cs) ∙ bool_case (k == n) (λ b. (if c.number == k then Some c else (if b then None else connection_at k cs)) ≡ (if b then None else (if c.number == k then Some c else connection_at k cs)))
    (λ w. ap (λ (b : Bool). if b then Some c else None) (other_one c.number n k e w)) (λ w. refl))
  where
    not_one : (x n k : ℕ) → (x == n) ≡ true → (k == n) ≡ false → (x == k) ≡ false
    not_one x n k e w = grind (arith, nat_tests)

    other_one : (x n k : ℕ) → (x == n) ≡ false → (k == n) ≡ true → (x == k) ≡ false
    other_one x n k e w = grind (arith, nat_tests)

pub disconnected : (n : ℕ) (p : Plain) → view (apply (Disconnect n) p) ≡ seen (Disconnect n) p (view p)
disconnected n p = λ i. record (view p) { puts = λ k. (each puts_in k) i; takes = λ k. (each takes_in k) i }
  where
    each : {A : Type 0} (g : List Item → List A) (k : ℕ) → g (items_of (connection_at k (apply (Disconnect n) p).connections)) ≡ (if k == n then g [] else g (items_of (connection_at k p.connections)))
    each {A} g k = ap (λ (o : Option Connection). g (items_of o)) (connection_gone n k p.connections) ∙ bool_case (k == n) (λ b. g (items_of (if b then None else connection_at k p.connections)) ≡ (if b then g [] else g (items_of (connection_at k p.connections)))) (λ e. refl) (λ e. refl)

-- a connection that begins has nothing in its unit
connection_added : (k : ℕ) (c : Connection) (cs : List Connection) → c.unit ≡ [] → items_of (connection_at k (cs ++ c ∷ [])) ≡ items_of (connection_at k cs)
connection_added k c [] u = bool_case (c.number == k) (λ b. items_of (if b then Some c else None) ≡ []) (λ e. u) (λ e. refl)
connection_added k c (d ∷ cs) u = bool_case (d.number == k) (λ b. items_of (if b then Some d else connection_at k (cs ++ c ∷ [])) ≡ items_of (if b then Some d else connection_at k cs)) (λ e. refl) (λ e. connection_added k c cs u)

pub connects : (c : Connection) (p : Plain) → c.unit ≡ [] → view (apply (Connect c) p) ≡ view p
connects c p u = λ i. record (view p) { puts = λ k. puts_in (connection_added k c p.connections u i); takes = λ k. takes_in (connection_added k c p.connections u i) }

units_mapped : (f : Connection → Connection) (k : ℕ) (cs : List Connection) → ((c : Connection) → (f c).number ≡ c.number) → ((c : Connection) → (f c).unit ≡ c.unit) → items_of (connection_at k (map f cs)) ≡ items_of (connection_at k cs)
units_mapped f k [] h u = refl
units_mapped f k (c ∷ cs) h u = ap (λ (x : ℕ). items_of (if x == k then Some (f c) else connection_at k (map f cs))) (h c)
    ∙ bool_case (c.number == k) (λ b. items_of (if b then Some (f c) else connection_at k (map f cs)) ≡ items_of (if b then Some c else connection_at k cs)) (λ e. u c) (λ e. units_mapped f k cs h u)

-- Channels

doubt_set : (channel other : List ℕ) (d : SenderData) (p : Plain) → in_doubt_of (sender_in channel (apply (SetSender other d) p).channels.senders) ≡ at_name other d.in_doubt (view p).doubt channel
doubt_set channel other d p = ap in_doubt_of (sender_set channel other d p.channels.senders)
    ∙ bool_case (bytes_eq channel other) (λ b. in_doubt_of (if b then Some d else sender_in channel p.channels.senders) ≡ (if b then d.in_doubt else in_doubt_of (sender_in channel p.channels.senders))) (λ e. refl) (λ e. refl)

pub applied : (c : Change) (p : Plain) → AsksNothing c → view (apply c p) ≡ seen c p (view p)
applied (Places name m) p a = set_other name (placed_in (lane_of (local_of name p.definitions) m.md.priority) m (stored name p)) p (found_name name p.queues)
applied (Try name priority) p a = bool_case (condition (local_of name p.definitions) priority p) (λ b. view (try_if b name p) ≡ view p)
    (λ e. set_same name (made_due (depth_type (local_of name p.definitions)) p.moment (stored name p)) p (found_name name p.queues) refl refl) (λ e. refl)
applied (Leave which) p a = mapped (kept_in which) (λ name rows. keep (goes_if which name) rows) p (λ q. refl) (λ name. refl) (λ q. refl) (λ q. refl)
applied (Hold which by) p a = mapped (held_in which by) (λ name rows. retag (held_if which by name) rows) p (λ q. refl) (λ name. refl) (λ q. refl) (λ q. refl)
applied (Release which counted) p a = mapped (released_in which counted) (λ name rows. retag (freed_if which counted name) rows) p (λ q. refl) (λ name. refl) (λ q. refl) (λ q. refl)
applied (Disconnect number) p a = disconnected number p
applied (OpenHandle number h) p a = unit_same number (λ c. record c { handles = c.handles ++ h ∷ []; last_handle = c.last_handle + 1 }) p (λ c. refl) (λ c. refl)
applied (CloseHandle number handle) p a = unit_same number _ p (λ c. refl) (λ c. refl)
applied (SetCursor number handle place) p a = unit_same number _ p (λ c. refl) (λ c. refl)
applied (EndUnit number) p a = unit_ended number p
applied (MakeStale step) p a = λ i. record (view p) { puts = λ k. puts_in (units_mapped (made_stale step) k p.connections (λ c. refl) (λ c. refl) i); takes = λ k. takes_in (units_mapped (made_stale step) k p.connections (λ c. refl) (λ c. refl) i) }
applied CountIdent p a = refl
applied (ChangeObjects change) p a = refl
applied (Renew name) p a = set_other name (fresh_queue name) p refl
applied (DropQueue name) p a = dropped name p
applied (SwitchOn name) p a = set_same name (record (stored name p) { switched_off = false }) p (found_name name p.queues) refl refl
applied (Serve name) p a = set_same name _ p (found_name name p.queues) refl refl
applied (SetSender channel d) p a = λ i. record (view p) { doubt = λ c. doubt_set c channel d p i }
applied (SetReceiver channel d) p a = refl
applied (Undoubt ident) p a = λ i. record (view p) { doubt = λ c. doubt_less c ident p.channels.senders i }
applied (Seize s) p a = refl
applied (AddBatch b) p a = λ i. record (view p) { batch = λ c. batch_set c b p.channels.batches i }
applied (Unseize channel) p a = refl
applied (DropBatch channel) p a = λ i. record (view p) { batch = λ c. batch_dropped c channel p.channels.batches i }
applied (SetBound channel true) p a = refl
applied (SetBound channel false) p a = refl
applied (SetMoment moment) p a = refl
applied ForgetAll p a = λ i. record (mapped forgotten (λ name rows. rows) p (λ q. refl) (λ name. refl) (λ q. refl) (λ q. refl) i) { puts = λ n. []; takes = λ n. []; batch = λ c. None }
applied (Connect c) p a = absurd a
applied (Pend number item) p a = absurd a
