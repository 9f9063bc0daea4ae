-- What the ledger tells of connections, and how its lists change.
use Rattle.std.proofs.Common.{ℕ, ◌≡◌, ◌⊎◌, inl, inr, Bool, false, not, List, [], ◌∷◌, ◌++◌, refl, ap, sym, ◌∙◌, map}
use Rattle.std.specs.Prelude.{Option, Some, None, ◌==◌, if◌then◌else◌, slice_get, filter}
use Rattle.mq_calls.specs.declared.state.Connection.{Connection}
use Rattle.mq_calls.specs.declared.state.Handle.{Handle}
use Rattle.mq_calls.specs.declared.state.Item.{Item}
use Rattle.mq_calls.specs.declared.state.Item.TheVariants.{Put, Take}
use Rattle.mq_law_seen.specs.from_history.{ManagerPlaces}
use Rattle.std.specs.Str.{bytes_eq}
use Rattle.mq_message.specs.declared.message.Message.{Message}
use Rattle.mq_queue.specs.declared.row.Row.{Row}
use Rattle.mq_queue.specs.Rows.{keep}
use Rattle.mq_calls.specs.declared.image.Shelf.{Shelf}
use Rattle.mq_law_seen.specs.from_spec_network.Story.{Mem}
use Rattle.mq_calls.specs.Reads.{connection_at, handle_at}
use Rattle.mq_calls.specs.Changes.{change_connection}
use Rattle.mq_law_seen.specs.from_spec_network.Ledger.{Ledger, Users, change_at, with_places, with_users, unit_of, put_in, put_on, leave_queues}
use Rattle.mq_law_seen.specs.from_law_rows.World.{items_told}
use Rattle.mq_law_seen.proofs.from_law_rows.Lists.{bool_case, is_false, true_false, eqb_self, eqb_yes, name_yes, name_self, map_mem}
use Rattle.mq_law_seen.proofs.Bridges.{mapped_if, get_changed}
use Rattle.mq_law_manager.proofs.SeenLaws.{mapped_one, connection_changed}
use Rattle.mq_law_events.specs.Tied.{handle_told, connection_told, connections_told, AreShelved, IsElse}
use Rattle.mq_law_events.proofs.Locals.{with_items}

-- Connections as they are told

pub connection_at_told : (k : ℕ) (cs : List Connection) → connection_at k (connections_told cs) ≡ mapped_one connection_told (connection_at k cs)
connection_at_told k [] = refl
connection_at_told k (c ∷ cs) = bool_case (c.number == k) (λ t. (if t then Some (connection_told c) else connection_at k (connections_told cs)) ≡ mapped_one connection_told (if t then Some c else connection_at k cs)) (λ e. refl) (λ e. connection_at_told k cs)

abbrev pub one_handle : Option Handle → Option Handle
one_handle None = None
one_handle (Some h) = Some (handle_told h)

pub handle_at_told : (k : ℕ) (hs : List Handle) → handle_at k (map handle_told hs) ≡ one_handle (handle_at k hs)
handle_at_told k [] = refl
handle_at_told k (h ∷ hs) = bool_case (h.number == k) (λ t. (if t then Some (handle_told h) else handle_at k (map handle_told hs)) ≡ one_handle (if t then Some h else handle_at k hs)) (λ e. refl) (λ e. handle_at_told k hs)

pub unit_told : (o : Option Connection) → unit_of (mapped_one connection_told o) ≡ items_told (unit_of o)
unit_told None = refl
unit_told (Some c) = refl

-- a connection that changes is told changed
pub changed_told : (k : ℕ) (f g : Connection → Connection) (cs : List Connection) → ((c : Connection) → connection_told (f c) ≡ g (connection_told c)) → connections_told (change_connection k f cs) ≡ change_connection k g (connections_told cs)
changed_told k f g [] same = refl
changed_told k f g (c ∷ cs) same = bool_case (c.number == k) (λ t. connections_told (if t then f c ∷ cs else c ∷ change_connection k f cs) ≡ (if t then g (connection_told c) ∷ connections_told cs else connection_told c ∷ change_connection k g (connections_told cs)))
    (λ e. ap (λ (x : Connection). x ∷ connections_told cs) (same c)) (λ e. ap (λ (xs : List Connection). connection_told c ∷ xs) (changed_told k f g cs same))

pub changed_untold : (k : ℕ) (f : Connection → Connection) (cs : List Connection) → ((c : Connection) → connection_told (f c) ≡ connection_told c) → connections_told (change_connection k f cs) ≡ connections_told cs
changed_untold k f [] same = refl
changed_untold k f (c ∷ cs) same = bool_case (c.number == k) (λ t. connections_told (if t then f c ∷ cs else c ∷ change_connection k f cs) ≡ connection_told c ∷ connections_told cs)
    (λ e. ap (λ (x : Connection). x ∷ connections_told cs) (same c)) (λ e. ap (λ (xs : List Connection). connection_told c ∷ xs) (changed_untold k f cs same))

pub map_untold : (f : Connection → Connection) (cs : List Connection) → ((c : Connection) → connection_told (f c) ≡ connection_told c) → connections_told (map f cs) ≡ connections_told cs
map_untold f [] same = refl
map_untold f (c ∷ cs) same = λ i. same c i ∷ map_untold f cs same i

pub gone_told : (k : ℕ) (cs : List Connection) → connections_told (filter (λ (c : Connection). not (c.number == k)) cs) ≡ filter (λ (c : Connection). not (c.number == k)) (connections_told cs)
gone_told k [] = refl
gone_told k (c ∷ cs) = bool_case (not (c.number == k)) (λ t. connections_told (if t then c ∷ filter (λ (c : Connection). not (c.number == k)) cs else filter (λ (c : Connection). not (c.number == k)) cs)
    ≡ (if t then connection_told c ∷ filter (λ (c : Connection). not (c.number == k)) (connections_told cs) else filter (λ (c : Connection). not (c.number == k)) (connections_told cs)))
    (λ e. ap (λ (xs : List Connection). connection_told c ∷ xs) (gone_told k cs)) (λ e. gone_told k cs)

pub more_told : (cs ds : List Connection) → connections_told (cs ++ ds) ≡ connections_told cs ++ connections_told ds
more_told [] ds = refl
more_told (c ∷ cs) ds = ap (λ (xs : List Connection). connection_told c ∷ xs) (more_told cs ds)

pub handles_gone : (k : ℕ) (hs : List Handle) → map handle_told (filter (λ (h : Handle). not (h.number == k)) hs) ≡ filter (λ (h : Handle). not (h.number == k)) (map handle_told hs)
handles_gone k [] = refl
handles_gone k (h ∷ hs) = bool_case (not (h.number == k)) (λ t. map handle_told (if t then h ∷ filter (λ (h : Handle). not (h.number == k)) hs else filter (λ (h : Handle). not (h.number == k)) hs)
    ≡ (if t then handle_told h ∷ filter (λ (h : Handle). not (h.number == k)) (map handle_told hs) else filter (λ (h : Handle). not (h.number == k)) (map handle_told hs)))
    (λ e. ap (λ (xs : List Handle). handle_told h ∷ xs) (handles_gone k hs)) (λ e. handles_gone k hs)

pub handles_more : (hs is : List Handle) → map handle_told (hs ++ is) ≡ map handle_told hs ++ map handle_told is
handles_more [] is = refl
handles_more (h ∷ hs) is = ap (λ (xs : List Handle). handle_told h ∷ xs) (handles_more hs is)

pub items_more : (xs ys : List Item) → items_told (xs ++ ys) ≡ items_told xs ++ items_told ys
items_more [] ys = refl
items_more (Put q m ∷ xs) ys = ap (λ (is : List Item). Put q m ∷ is) (items_more xs ys)
items_more (Take q i l ∷ xs) ys = ap (λ (is : List Item). Take [] i false ∷ is) (items_more xs ys)

-- Units, where a connection changes

pub unit_changes : (k : ℕ) (f : Connection → Connection) (items : List Item) (cs : List Connection) → ((c : Connection) → (f c).number ≡ c.number) → unit_of (mapped_one f (connection_at k cs)) ≡ items
    → (c : ℕ) → unit_of (connection_at c (change_connection k f cs)) ≡ with_items k items (λ e. unit_of (connection_at e cs)) c
unit_changes k f items cs number is c = ap unit_of (connection_changed k c f cs number)
    ∙ bool_case (c == k) (λ t. (c == k) ≡ t → unit_of (if t then mapped_one f (connection_at c cs) else connection_at c cs) ≡ (if t then items else unit_of (connection_at c cs)))
    (λ e z. ap (λ x. unit_of (mapped_one f (connection_at x cs))) (eqb_yes c k z) ∙ is) (λ e z. refl) refl

pub unit_stays : (k : ℕ) (f : Connection → Connection) (cs : List Connection) → ((c : Connection) → (f c).number ≡ c.number) → ((c : Connection) → (f c).unit ≡ c.unit)
    → (c : ℕ) → unit_of (connection_at c (change_connection k f cs)) ≡ unit_of (connection_at c cs)
unit_stays k f cs number unit c = ap unit_of (connection_changed k c f cs number)
    ∙ bool_case (c == k) (λ t. unit_of (if t then mapped_one f (connection_at c cs) else connection_at c cs) ≡ unit_of (connection_at c cs)) (λ e. each (connection_at c cs)) (λ e. refl)
  where
    each : (o : Option Connection) → unit_of (mapped_one f o) ≡ unit_of o
    each None = refl
    each (Some c) = unit c

pub units_map : (f : Connection → Connection) (k : ℕ) (cs : List Connection) → ((c : Connection) → (f c).number ≡ c.number) → ((c : Connection) → (f c).unit ≡ c.unit) → unit_of (connection_at k (map f cs)) ≡ unit_of (connection_at k cs)
units_map f k [] h u = refl
units_map f k (c ∷ cs) h u = ap (λ (x : ℕ). unit_of (if x == k then Some (f c) else connection_at k (map f cs))) (h c)
    ∙ bool_case (c.number == k) (λ b. unit_of (if b then Some (f c) else connection_at k (map f cs)) ≡ unit_of (if b then Some c else connection_at k cs)) (λ e. u c) (λ e. units_map f k cs h u)

-- The ledger's lists

pub here_changed : {A : Type 0} (m : ℕ) (f : A → A) (xs : List A) (x : A) → slice_get xs m ≡ Some x → slice_get (change_at m f xs) m ≡ Some (f x)
here_changed m f xs x is = get_changed m f xs m ∙ (λ i. mapped_if (eqb_self m i) f (is i))

pub else_changed : {A : Type 0} (m a : ℕ) (f : A → A) (xs : List A) → (a == m) ≡ false → slice_get (change_at m f xs) a ≡ slice_get xs a
else_changed m a f xs e = get_changed m f xs a ∙ ap (λ t. mapped_if t f (slice_get xs a)) e ∙ same f (slice_get xs a)
  where
    same : {A : Type 0} (f : A → A) (o : Option A) → mapped_if false f o ≡ o
    same f None = refl
    same f (Some x) = refl

pub else_places : (m : ℕ) (f : ManagerPlaces → ManagerPlaces) (l : Ledger) → IsElse m l (with_places m f l)
else_places m f l = record { places = λ a e. else_changed m a f l.places e; users = λ a e. refl }

pub else_users : (m : ℕ) (f : Users → Users) (l : Ledger) → IsElse m l (with_users m f l)
else_users m f l = record { places = λ a e. refl; users = λ a e. else_changed m a f l.users e }

pub else_none : (m : ℕ) (l : Ledger) → IsElse m l l
else_none m l = record { places = λ a e. refl; users = λ a e. refl }

pub else_then : (m : ℕ) (l k j : Ledger) → IsElse m l k → IsElse m k j → IsElse m l j
else_then m l k j x y = record { places = λ a e. y.places a e ∙ x.places a e; users = λ a e. y.users a e ∙ x.users a e }

-- No list stands twice

mem_shelf : (name : List ℕ) (lane : ℕ) (m : Message) (qs : List Shelf) (y : Shelf) → Mem y (put_in name lane m qs) → (y.name ≡ name) ⊎ ((s : Shelf) × Mem s qs × (y.name ≡ s.name))
mem_shelf name lane m [] y (inl e) = inl (ap (λ (z : Shelf). z.name) e)
mem_shelf name lane m [] y (inr n) = absurd n
mem_shelf name lane m (q ∷ qs) y n = bool_case (bytes_eq name q.name) (λ t. Mem y (if t then put_on lane m q ∷ qs else q ∷ put_in name lane m qs) → (y.name ≡ name) ⊎ ((s : Shelf) × Mem s (q ∷ qs) × (y.name ≡ s.name)))
    (λ z k. elim k [ inl e ↦ inr (q, inl refl, ap (λ (z : Shelf). z.name) e) | inr k ↦ inr (y, inr k, refl) ])
    (λ z k. elim k [ inl e ↦ inr (q, inl refl, ap (λ (z : Shelf). z.name) e) | inr k ↦ elim (mem_shelf name lane m qs y k) [ inl e ↦ inl e | inr r ↦ inr (r.0, inr r.1, r.2) ] ]) n

names_apart : (a b : List ℕ) → bytes_eq a b ≡ false → bytes_eq b a ≡ false
names_apart a b e = is_false (bytes_eq b a) (λ t. true_false (sym (ap (λ z. bytes_eq z b) (sym (name_yes b a t)) ∙ name_self b) ∙ e))

pub put_shelved : (name : List ℕ) (lane : ℕ) (m : Message) (qs : List Shelf) → AreShelved qs → AreShelved (put_in name lane m qs)
put_shelved name lane m [] s = (λ y n. absurd n, tt)
put_shelved name lane m (q ∷ qs) s = bool_case (bytes_eq name q.name) (λ t. bytes_eq name q.name ≡ t → AreShelved (if t then put_on lane m q ∷ qs else q ∷ put_in name lane m qs))
    (λ z w. (s.0, s.1))
    (λ z w. ((λ y n. elim (mem_shelf name lane m qs y n) [ inl e ↦ ap (bytes_eq q.name) e ∙ names_apart name q.name w | inr r ↦ ap (bytes_eq q.name) r.2 ∙ s.0 r.0 r.1 ]), put_shelved name lane m qs s.1)) refl

pub left_shelved : (stays : Row → Bool) (qs : List Shelf) → AreShelved qs → AreShelved (leave_queues stays qs)
left_shelved stays [] s = tt
left_shelved stays (q ∷ qs) s = ((λ y n. let r = map_mem (λ (q : Shelf). record q { rows = keep stays q.rows }) y qs n in ap (λ (z : Shelf). bytes_eq q.name z.name) r.2 ∙ s.0 r.0 r.1), left_shelved stays qs s.1)
