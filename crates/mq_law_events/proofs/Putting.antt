-- Puts, in a unit and outside one, and trigger messages: the ledger follows.
use Rattle.std.proofs.Common.{ℕ, ◌≡◌, ◌+◌, Bool, true, false, List, [], ◌∷◌, ◌++◌, refl, ap, sym, subst, ◌∙◌, arith}
use Rattle.std.specs.Prelude.{Option, Some, None, ◌==◌, if◌then◌else◌, ◌&&◌, ◌||◌, nat_lt, slice_get}
use Rattle.std.specs.Str.{bytes_eq}
use Rattle.std.proofs.lemmas.Bool.Decides.{nat_tests}
use Rattle.mq_message.specs.declared.message.Ident.{Ident}
use Rattle.mq_message.specs.declared.message.Message.{Message}
use Rattle.mq_queue.specs.declared.row.Row.{Row}
use Rattle.mq_queue.specs.Rows.{same_ident, insert_row}
use Rattle.mq_objects.specs.Names.{local_of}
use Rattle.mq_objects.specs.declared.object.Definitions.{Definitions}
use Rattle.mq_calls.specs.declared.answers.Hconn.{Hconn}
use Rattle.mq_calls.specs.declared.state.Connection.{Connection}
use Rattle.mq_calls.specs.declared.state.Item.{Item}
use Rattle.mq_calls.specs.declared.state.Item.TheVariants.{Put}
use Rattle.mq_law_seen.specs.from_history.{ManagerPlaces}
use Rattle.mq_calls.specs.State.{Plain, Given, Numbers, Change}
use Rattle.mq_calls.specs.State.Change.{CountIdent, Pend, Try}
use Rattle.mq_calls.specs.State.Change.{Place as Places}
use Rattle.mq_calls.specs.Reads.{stored, connection_at}
use Rattle.mq_calls.specs.Changes.{apply, apply_all, lane_of, new_row, try_if, change_connection}
use Rattle.mq_calls.specs.Condition.{condition}
use Rattle.mq_spec_manager.specs.Standing.{is_unborn}
use Rattle.mq_spec_manager.specs.Put.{placed, next_ident}
use Rattle.mq_law_seen.specs.from_spec_network.Ledger as ledgers
use Rattle.mq_law_seen.specs.from_spec_network.Ledger.{Ledger, Users, place_at, ledger_rows, unit_of}
use Rattle.mq_law_seen.specs.from_spec_network.Standing.{row_told}
use Rattle.mq_law_seen.specs.from_law_rows.World.{items_told}
use Rattle.mq_law_seen.proofs.from_law_rows.Lists.{bool_case, is_false, true_false, eqb_self, ident_yes}
use Rattle.mq_law_seen.proofs.Bridges.{places_rows}
use Rattle.mq_law_manager.specs.View.{View, view}
use Rattle.mq_law_manager.specs.Seen.{AsksNothing, seen, row_for}
use Rattle.mq_law_manager.proofs.SeenLaws.{applied, mapped_one}
use Rattle.mq_law_manager.proofs.Puts.{count_more}
use Rattle.mq_law_events.specs.Local.{Side, Sheet, Leads, side_of, sheet_of}
use Rattle.mq_law_events.specs.Tied.{connection_told, connections_told, IsTold, IsFresh, IsSame, IsKept, Follow}
use Rattle.mq_law_events.proofs.Locals.{with_row, with_items, now_given, new_row_leads, new_put_leads}
use Rattle.mq_law_events.proofs.Telling.{put_shelved, changed_told, items_more, unit_changes, here_changed, else_places, else_users}

-- Changes of a manager on its rows

pub rows_after : (c : Change) (p : Plain) (d : List ℕ) → AsksNothing c → (stored d (apply c p)).rows ≡ (seen c p (view p)).rows d
rows_after c p d a = ap (λ (v : View). v.rows d) (applied c p a)

pub placed_rows : (q : List ℕ) (message : Message) (p : Plain) (d : List ℕ) → (stored d (apply_all (placed q message) p)).rows ≡ with_row q (row_for q message p) (λ d. (stored d p).rows) d
placed_rows q message p d = rows_after (Try q message.md.priority) (apply (Places q message) p) d tt ∙ rows_after (Places q message) p d tt

-- nothing is changed beside rows and numbers
pub record IsBeside (p r : Plain) : Type 0 where
  pub given : r.given ≡ p.given
  pub definitions : r.definitions ≡ p.definitions
  pub connections : r.connections ≡ p.connections
  pub channels : r.channels ≡ p.channels
  pub moment : r.moment ≡ p.moment
  pub numbers : r.numbers ≡ p.numbers

try_beside : (t : Bool) (name : List ℕ) (p : Plain) → IsBeside p (try_if t name p)
try_beside true name p = record { given = refl; definitions = refl; connections = refl; channels = refl; moment = refl; numbers = refl }
try_beside false name p = record { given = refl; definitions = refl; connections = refl; channels = refl; moment = refl; numbers = refl }

pub placed_beside : (q : List ℕ) (message : Message) (p : Plain) → IsBeside p (apply_all (placed q message) p)
placed_beside q message p =
    let r : Plain = apply (Places q message) p in
    let t = try_beside (condition (local_of q r.definitions) message.md.priority r) q r in
    record { given = t.given; definitions = t.definitions; connections = t.connections; channels = t.channels; moment = t.moment; numbers = t.numbers }

-- Which idents are new

abbrev pub unborn_by : Given → Numbers → Ident → Bool
unborn_by g n i = (i.manager == g.number) && (nat_lt n.incarnation i.incarnation || ((i.incarnation == n.incarnation) && nat_lt n.idents i.number))

next_born : (m n k : ℕ) → ((m == m) && (nat_lt n n || ((n == n) && nat_lt (k + 1) (k + 1)))) ≡ false
next_born m n k = grind (arith, nat_tests)

next_unborn : (m n k : ℕ) → ((m == m) && (nat_lt n n || ((n == n) && nat_lt k (k + 1)))) ≡ true
next_unborn m n k = grind (arith, nat_tests)

pub next_fresh : (given : Ident → Bool) (p : Plain) (i : Ident) → IsFresh given p → i ≡ next_ident p → given i ≡ false
next_fresh given p i f is = f i (ap (λ j. is_unborn j p) is ∙ next_unborn p.given.number p.numbers.incarnation p.numbers.idents)

unborn_before : (p : Plain) (i : Ident) → is_unborn i (apply CountIdent p) ≡ true → is_unborn i p ≡ true
unborn_before p i e = bool_case (is_unborn i p) (λ t. is_unborn i p ≡ t → t ≡ true) (λ z w. refl) (λ z w. absurd (true_false (sym e ∙ count_more p i w))) refl

pub fresh_now : (given : Ident → Bool) (p r : Plain) (new : Ident) → IsFresh given p → new ≡ next_ident p → r.given ≡ p.given → r.numbers ≡ (apply CountIdent p).numbers → IsFresh (now_given new given) r
fresh_now given p r new f is same numbers i e =
    let u : is_unborn i (apply CountIdent p) ≡ true = sym (λ j. unborn_by (same j) (numbers j) i) ∙ e in
    let ne : same_ident i new ≡ false = is_false (same_ident i new) (λ t. true_false (sym u ∙ ap (λ j. is_unborn j (apply CountIdent p)) (ident_yes i new t ∙ is) ∙ next_born p.given.number p.numbers.incarnation p.numbers.idents)) in
    ap (λ t. t || given i) ne ∙ f i (unborn_before p i u)

pub known_now : (given : Ident → Bool) (p : Plain) (new i : Ident) → new ≡ next_ident p → (i.manager == p.given.number) ≡ false → now_given new given i ≡ given i
known_now given p new i is e = ap (λ j. same_ident i j || given i) is ∙ ap (λ t. (t && ((i.incarnation == p.numbers.incarnation) && (i.number == p.numbers.idents + 1))) || given i) e

-- to the same, told so
pub leads_to : (m : ℕ) (v x a : Side) (t y b : Sheet) → Leads m v t x y → x ≡ a → y ≡ b → Leads m v t a b
leads_to m v x a t y b f e h = subst (λ z. Leads m v t z b) e (subst (λ z. Leads m v t x z) h f)

-- A message is placed

pub place_sheet : (m : ℕ) (q d : List ℕ) (message : Message) (l : Ledger) (places : ManagerPlaces) → slice_get l.places m ≡ Some places
    → ledger_rows m d (ledgers.place m q message l) ≡ with_row q (new_row (lane_of (local_of q places.definitions) message.md.priority) 0 message) (λ d. ledger_rows m d l) d
place_sheet m q d message l places is = places_rows m q message places m d l is
    ∙ ap (λ t. if t && bytes_eq d q then insert_row (new_row (lane_of (local_of q places.definitions) message.md.priority) 0 message) (ledger_rows m q l) else ledger_rows m d l) (eqb_self m)

pub place_told : (m : ℕ) (p r : Plain) (l : Ledger) (q : List ℕ) (message : Message) → IsTold m p l → r.given ≡ p.given → r.definitions ≡ p.definitions → r.connections ≡ p.connections → r.moment ≡ p.moment → IsTold m r (ledgers.place m q message l)
place_told m p r l q message t given definitions connections moment = record {
  places = place_at q message t.places;
  placed = here_changed m (place_at q message) l.places t.places t.placed;
  shelved = put_shelved q (lane_of (local_of q t.places.definitions) message.md.priority) message t.places.queues t.shelved;
  name = t.name ∙ ap (λ (g : Given). g.name) (sym given);
  definitions = t.definitions ∙ sym definitions;
  users = t.users;
  used = t.used;
  connections = t.connections ∙ ap connections_told (sym connections);
}

abbrev some_user : Option Users → Users → Users
some_user None x = x
some_user (Some u) x = u

pub same_users : (m : ℕ) (l k : Ledger) → k.users ≡ l.users → (u x : Users) → slice_get l.users m ≡ Some u → slice_get k.users m ≡ Some x → IsKept u x
same_users m l k e u x a b =
    let is : x ≡ u = ap (λ o. some_user o x) (sym b ∙ ap (λ us. slice_get us m) e ∙ a) in
    record { cut = ap (λ (y : Users). y.cut) is; moment = ap (λ (y : Users). y.moment) is }

pub place_follows : (m : ℕ) (given : Ident → Bool) (p r : Plain) (l : Ledger) (q : List ℕ) (message : Message) → IsFresh given p → IsTold m p l → message.ident ≡ next_ident p
    → ((d : List ℕ) → (stored d r).rows ≡ with_row q (row_for q message p) (λ d. (stored d p).rows) d) → IsBeside (apply CountIdent p) r
    → Follow m given p l r (ledgers.place m q message l)
place_follows m given p r l q message f t is rows b =
    let now : Ident → Bool = now_given message.ident given in
    let told : Row = new_row (lane_of (local_of q t.places.definitions) message.md.priority) 0 message in
    let lane : row_told told ≡ row_told (row_for q message p) = ap (λ (d : Definitions). row_told (new_row (lane_of (local_of q d) message.md.priority) 0 message)) t.definitions in
    let a = new_row_leads m q (row_for q message p) told (side_of p given) (sheet_of m l) (next_fresh given p message.ident f is) refl lane in
    record {
      now = now;
      leads = leads_to m (side_of p given) _ (side_of r now) (sheet_of m l) _ (sheet_of m (ledgers.place m q message l)) a
          (λ i. record { rows = λ d. sym (rows d) i; units = λ k. unit_of (connection_at k (sym b.connections i)); given = now })
          (λ i. record { rows = λ d. sym (place_sheet m q d message l t.places t.placed) i; gone = l.gone; got = l.got });
      fresh = fresh_now given p r message.ident f is b.given b.numbers;
      known = λ i e. known_now given p message.ident i is e;
      told = place_told m p r l q message t b.given b.definitions b.connections b.moment;
      same = record { given = b.given; senders = (λ i. (b.channels i).senders); receivers = (λ i. (b.channels i).receivers); batches = (λ i. (b.channels i).batches) };
      steady = b.moment;
      other = else_places m (place_at q message) l;
      kept = same_users m l (ledgers.place m q message l) refl;
    }

pub put_follows : (m : ℕ) (given : Ident → Bool) (p : Plain) (l : Ledger) (q : List ℕ) (message : Message) → IsFresh given p → IsTold m p l → message.ident ≡ next_ident p
    → Follow m given p l (apply_all (CountIdent ∷ placed q message) p) (ledgers.place m q message l)
put_follows m given p l q message f t is = place_follows m given p (apply_all (CountIdent ∷ placed q message) p) l q message f t is (placed_rows q message (apply CountIdent p)) (placed_beside q message (apply CountIdent p))

-- A put waits in a unit

abbrev pub pended : Item → Connection → Connection
pended item c = record c { unit = c.unit ++ item ∷ [] }

-- the ledger's connection gets the item as it is told
pub pend_told : (m : ℕ) (p r : Plain) (l : Ledger) (hc : Hconn) (item told : Item) → IsTold m p l → items_told (item ∷ []) ≡ told ∷ [] → r.given ≡ p.given → r.definitions ≡ p.definitions
    → r.connections ≡ change_connection hc.number (pended item) p.connections → r.moment ≡ p.moment → IsTold m r (ledgers.pend m hc told l)
pend_told m p r l hc item told t is given definitions connections moment = record {
  places = t.places;
  placed = t.placed;
  shelved = t.shelved;
  name = t.name ∙ ap (λ (g : Given). g.name) (sym given);
  definitions = t.definitions ∙ sym definitions;
  users = record t.users { connections = change_connection hc.number (pended told) t.users.connections };
  used = here_changed m (λ (u : Users). record u { connections = change_connection hc.number (pended told) u.connections }) l.users t.users t.used;
  connections = ap (change_connection hc.number (pended told)) t.connections
      ∙ sym (changed_told hc.number (pended item) (pended told) p.connections (λ c. ap (λ (us : List Item). record (connection_told c) { unit = us }) (items_more c.unit (item ∷ []) ∙ ap (λ (us : List Item). items_told c.unit ++ us) is)))
      ∙ ap connections_told (sym connections);
}

pub users_stay : (m : ℕ) (f : Users → Users) (l : Ledger) → ((u : Users) → IsKept u (f u)) → (u x : Users) → slice_get l.users m ≡ Some u → slice_get (ledgers.with_users m f l).users m ≡ Some x → IsKept u x
users_stay m f l same u x a b =
    let is : x ≡ f u = ap (λ o. some_user o x) (sym b ∙ here_changed m f l.users u a) in
    record { cut = ap (λ (y : Users). y.cut) is ∙ (same u).cut; moment = ap (λ (y : Users). y.moment) is ∙ (same u).moment }

pub pend_follows : (m : ℕ) (given : Ident → Bool) (p : Plain) (l : Ledger) (hc : Hconn) (c : Connection) (q : List ℕ) (message : Message) → IsFresh given p → IsTold m p l → message.ident ≡ next_ident p
    → connection_at hc.number p.connections ≡ Some c
    → Follow m given p l (apply_all (CountIdent ∷ Pend hc.number (Put q message) ∷ []) p) (ledgers.pend m hc (Put q message) l)
pend_follows m given p l hc c q message f t is live =
    let r : Plain = apply_all (CountIdent ∷ Pend hc.number (Put q message) ∷ []) p in
    let now : Ident → Bool = now_given message.ident given in
    let a = new_put_leads m hc.number q message (side_of p given) (sheet_of m l) (next_fresh given p message.ident f is) in
    let units : (k : ℕ) → unit_of (connection_at k r.connections) ≡ with_items hc.number (unit_of (connection_at hc.number p.connections) ++ Put q message ∷ []) (λ e. unit_of (connection_at e p.connections)) k =
    unit_changes hc.number (pended (Put q message)) _ p.connections (λ c. refl) (ap (λ o. unit_of (mapped_one (pended (Put q message)) o)) live ∙ ap (λ o. unit_of o ++ Put q message ∷ []) (sym live)) in
    record {
      now = now;
      leads = leads_to m (side_of p given) _ (side_of r now) (sheet_of m l) _ (sheet_of m (ledgers.pend m hc (Put q message) l)) a
          (λ i. record { rows = λ d. (stored d p).rows; units = λ k. sym (units k) i; given = now }) refl;
      fresh = fresh_now given p r message.ident f is refl refl;
      known = λ i e. known_now given p message.ident i is e;
      told = pend_told m p r l hc (Put q message) (Put q message) t refl refl refl refl refl;
      same = record { given = refl; senders = refl; receivers = refl; batches = refl };
      steady = refl;
      other = else_users m _ l;
      kept = users_stay m _ l (λ u. record { cut = refl; moment = refl });
    }
