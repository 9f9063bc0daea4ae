-- The ends of units, committed and backed out: the ledger follows.
use Rattle.std.proofs.Common.{ℕ, ◌≡◌, ◌⊎◌, Bool, true, false, not, List, [], ◌∷◌, refl, ap, sym, subst, ◌∙◌, inl, inr}
use Rattle.std.specs.Prelude.{Option, Some, None, ◌==◌, if◌then◌else◌, ◌&&◌, ◌||◌, slice_get, flat_map}
use Rattle.std.specs.Str.{bytes_eq}
use Rattle.mq_message.specs.declared.message.Ident.{Ident}
use Rattle.mq_message.specs.declared.place.Holder.{Holder}
use Rattle.mq_message.specs.declared.place.Holder.TheVariants as holders
use Rattle.mq_queue.specs.declared.row.Row.{Row}
use Rattle.mq_queue.specs.Rows.{same_ident, keep, retag, held_by, is_free}
use Rattle.mq_calls.specs.declared.answers.Hconn.{Hconn}
use Rattle.mq_calls.specs.declared.state.Connection.{Connection}
use Rattle.mq_calls.specs.declared.state.Item.{Item}
use Rattle.mq_calls.specs.declared.state.Item.TheVariants.{Put, Take}
use Rattle.mq_calls.specs.State.{Plain}
use Rattle.mq_calls.specs.State.Change.{Leave, Release, EndUnit}
use Rattle.mq_calls.specs.State.Which.{Among}
use Rattle.mq_calls.specs.Reads.{stored, connection_at}
use Rattle.mq_calls.specs.Changes.{apply, apply_all, release_if, change_connection, lane_of, new_row}
use Rattle.mq_spec_manager.specs.Put.{placed}
use Rattle.mq_spec_manager.specs.Units.{taken_item, placed_item, freed_item}
use Rattle.mq_law_seen.specs.from_spec_network.Ledger as ledgers
use Rattle.mq_law_seen.specs.from_spec_network.Ledger.{Ledger, Users, places_at, users_or, is_placed_at, take_got, take_items, place_items, ledger_rows, unit_of}
use Rattle.mq_objects.specs.Names.{local_of}
use Rattle.mq_law_seen.specs.from_spec_network.Standing.{row_told}
use Rattle.mq_law_seen.specs.from_spec_network.Story.{Mem}
use Rattle.mq_law_seen.specs.from_law_rows.World.{World, Book, Ghost, Owner, Unborn, At, HeldBy, InBatch, Forced, InUnit, InHand, Gone, IsHeldBy, IsElsewhere, Inv, claim, items_told, got_idents}
use Rattle.mq_law_seen.specs.from_law_rows.Kinds.{among, puts_of, bury_all}
use Rattle.mq_law_seen.proofs.from_law_rows.Lists.{bool_case, is_false, true_false, eqb_self, eqb_yes, ident_yes, keep_same, keep_all, and_right}
use Rattle.mq_law_seen.proofs.from_law_rows.Owners.{row_where}
use Rattle.mq_law_manager.proofs.SeenLaws.{mapped_one}
use Rattle.mq_law_events.specs.Local.{Side, Sheet, local, page, with_owner, Leads, side_of, sheet_of}
use Rattle.mq_law_events.specs.Tied.{connection_told, IsTold, IsFresh, IsElse, Follow}
use Rattle.mq_law_events.proofs.Locals.{with_items, left_of, unheld, unit_freed, gets_go_leads, put_lands_leads, backs_out_leads, behind, stays_leads}
use Rattle.mq_law_events.proofs.Telling.{changed_told, connection_at_told, here_changed, else_none, else_then, else_users, else_places, unit_changes}
use Rattle.mq_law_events.proofs.Putting.{unborn_by, rows_after, IsBeside, placed_rows, placed_beside, place_sheet, place_told, leads_to, users_stay}
use Rattle.mq_law_events.proofs.Taking.{taken_rows, taken_gone, taken_got, taken_users, take_told, take_else, told_beside, keep_two, retag_same}
use Rattle.mq_law_manager.specs.Seen.{row_for}
use Rattle.mq_law_events.specs.Posting.{any_taken, IsListed}

-- What the facts say of rows that a unit has got

got_one : (items : List Item) (d : List ℕ) (x : Row) → any_taken items d x ≡ true → Mem x.message.ident (got_idents items)
got_one [] d x e = absurd (true_false (sym e))
got_one (Put q message ∷ items) d x e = got_one items d x e
got_one (Take q i lasting ∷ items) d x e =
    bool_case (bytes_eq d q && same_ident x.message.ident i) (λ t. (bytes_eq d q && same_ident x.message.ident i) ≡ t → (t || any_taken items d x) ≡ true → Mem x.message.ident (i ∷ got_idents items))
    (λ z w k. inl (ident_yes x.message.ident i (and_right (bytes_eq d q) _ w))) (λ z w k. inr (got_one items d x k)) refl e

held_claims : (m k : ℕ) (d : List ℕ) (by_ : Option Holder) → IsHeldBy m k (claim m d by_) → held_by (holders.Unit k) by_ ≡ true
held_claims m k d None n = absurd n
held_claims m k d (Some (holders.Unit j)) n = ap (λ z. k == z) n.1 ∙ eqb_self k
held_claims m k d (Some (holders.Batch c)) n = absurd n

held_there : (m k : ℕ) (o : Owner) → IsElsewhere m o → IsHeldBy m k o → ⊥
held_there m k (HeldBy a q c) e n = e n.0
held_there m k Unborn e n = n
held_there m k (At a q) e n = n
held_there m k (InBatch a c) e n = n
held_there m k (Forced a c u) e n = n
held_there m k (InUnit a c) e n = n
held_there m k (InHand a) e n = n
held_there m k Gone e n = n

unit_is : (k : ℕ) (by_ : Option Holder) → held_by (holders.Unit k) by_ ≡ true → by_ ≡ Some (holders.Unit k)
unit_is k None e = absurd (true_false (sym e))
unit_is k (Some (holders.Batch c)) e = absurd (true_false (sym e))
unit_is k (Some (holders.Unit j)) e = ap (λ z. Some (holders.Unit z)) (sym (eqb_yes k j e))

held_is_taken : (m n : ℕ) (v : Side) (t : Sheet) (w : World) (g : Ghost) (b : Book) → Inv (local w m v) g (page b m v t)
    → ((d : List ℕ) (x : Row) → Mem x (v.rows d) → x.by ≡ Some (holders.Unit n) → any_taken (v.units n) d x ≡ true)
    → (d : List ℕ) (x : Row) → Mem x (v.rows d) → held_by (holders.Unit n) x.by ≡ any_taken (v.units n) d x
held_is_taken m n v t w g b h listed d x k = go (any_taken (v.units n) d x) refl
  where
    here : Mem x ((local w m v).rows m d)
    here = subst (λ t. Mem x (if t then v.rows d else w.rows m d)) (sym (eqb_self m)) k

    own : Mem x.message.ident (got_idents (v.units n)) → IsHeldBy m n (g.owner x.message.ident)
    own c = h.gets m n x.message.ident (subst (λ t. Mem x.message.ident (got_idents (if t then v.units n else w.units m n))) (sym (eqb_self m)) c)

    go : (t : Bool) → any_taken (v.units n) d x ≡ t → held_by (holders.Unit n) x.by ≡ t
    go true e = let o = own (got_one (v.units n) d x e) in elim (row_where (local w m v) g (page b m v t) h m d x here) [
      | inl z ↦ held_claims m n d x.by (subst (IsHeldBy m n) z.1 o)
      | inr z ↦ absurd (held_there m n (g.owner x.message.ident) z.1 o)
    ]
    go false e = is_false (held_by (holders.Unit n) x.by) (λ z. true_false (sym (listed d x k (unit_is n x.by z)) ∙ e))

-- The first half of a commit

abbrev pub untaken : List Item → (List ℕ → List Row) → List ℕ → List Row
untaken items rows d = keep (λ x. not (any_taken items d x)) (rows d)

two_nots : (c x y : Bool) → (not (c && (x || false)) && not y) ≡ not ((c && x) || y)
two_nots true true y = refl
two_nots true false y = refl
two_nots false x y = refl

pub taken_items_rows : (items : List Item) (p : Plain) (d : List ℕ) → (stored d (apply_all (flat_map taken_item items) p)).rows ≡ untaken items (λ d. (stored d p).rows) d
taken_items_rows [] p d = sym (keep_all (λ x. true) (stored d p).rows (λ r n. refl))
taken_items_rows (Put q message ∷ items) p d = taken_items_rows items p d
taken_items_rows (Take q i lasting ∷ items) p d =
    taken_items_rows items (apply (Leave (Among q (i ∷ []))) p) d
    ∙ ap (keep (λ x. not (any_taken items d x))) (rows_after (Leave (Among q (i ∷ []))) p d tt)
    ∙ keep_two _ _ (λ x. not ((bytes_eq d q && same_ident x.message.ident i) || any_taken items d x)) (stored d p).rows (λ x. two_nots (bytes_eq d q) (same_ident x.message.ident i) (any_taken items d x))

pub beside_none : (p : Plain) → IsBeside p p
beside_none p = record { given = refl; definitions = refl; connections = refl; channels = refl; moment = refl; numbers = refl }

pub beside_then : (p q r : Plain) → IsBeside p q → IsBeside q r → IsBeside p r
beside_then p q r a b = record { given = b.given ∙ a.given; definitions = b.definitions ∙ a.definitions; connections = b.connections ∙ a.connections; channels = b.channels ∙ a.channels; moment = b.moment ∙ a.moment; numbers = b.numbers ∙ a.numbers }

pub taken_items_beside : (items : List Item) (p : Plain) → IsBeside p (apply_all (flat_map taken_item items) p)
taken_items_beside [] p = beside_none p
taken_items_beside (Put q message ∷ items) p = taken_items_beside items p
taken_items_beside (Take q i lasting ∷ items) p =
    let b = taken_items_beside items (apply (Leave (Among q (i ∷ []))) p) in
    record { given = b.given; definitions = b.definitions; connections = b.connections; channels = b.channels; moment = b.moment; numbers = b.numbers }

-- and of the ledger
pub items_rows : (m : ℕ) (items : List Item) (d : List ℕ) (l : Ledger) → ledger_rows m d (take_items m items l) ≡ left_of (got_idents items) (λ d. ledger_rows m d l) d
items_rows m [] d l = sym (keep_all (λ r. true) (ledger_rows m d l) (λ r n. refl))
items_rows m (Put q message ∷ items) d l = items_rows m items d l
items_rows m (Take q i lasting ∷ items) d l =
    items_rows m items d (take_got m i l)
    ∙ ap (keep (λ r. not (among (got_idents items) r.message.ident))) (taken_rows m i d (record l { got = i ∷ l.got }))
    ∙ keep_two _ _ (λ r. not (same_ident r.message.ident i || among (got_idents items) r.message.ident)) (ledger_rows m d l) (λ r. nots (same_ident r.message.ident i) (among (got_idents items) r.message.ident))
  where
    nots : (x y : Bool) → (not x && not y) ≡ not (x || y)
    nots true y = refl
    nots false y = refl

pub items_got : (m : ℕ) (items : List Item) (l : Ledger) → (take_items m items l).got ≡ bury_all (got_idents items) l.got
items_got m [] l = refl
items_got m (Put q message ∷ items) l = items_got m items l
items_got m (Take q i lasting ∷ items) l = items_got m items (take_got m i l) ∙ ap (bury_all (got_idents items)) (taken_got (is_placed_at i (places_at m (record l { got = i ∷ l.got }))) m i (record l { got = i ∷ l.got }))

pub items_gone : (m : ℕ) (items : List Item) (l : Ledger) (j : Ident) → Mem j (take_items m items l).gone → Mem j (got_idents items) ⊎ Mem j l.gone
items_gone m [] l j n = inr n
items_gone m (Put q message ∷ items) l j n = items_gone m items l j n
items_gone m (Take q i lasting ∷ items) l j n = elim (items_gone m items (take_got m i l) j n) [
  | inl z ↦ inl (inr z)
  | inr z ↦ elim (taken_gone (is_placed_at i (places_at m (record l { got = i ∷ l.got }))) m i j (record l { got = i ∷ l.got }) z) [ inl e ↦ inl (inl e) | inr k ↦ inr k ]
]

pub items_told_on : (m : ℕ) (items : List Item) (p : Plain) (l : Ledger) → IsTold m p l → IsTold m p (take_items m items l) × IsElse m l (take_items m items l) × ((take_items m items l).users ≡ l.users)
items_told_on m [] p l t = (t, else_none m l, refl)
items_told_on m (Put q message ∷ items) p l t = items_told_on m items p l t
items_told_on m (Take q i lasting ∷ items) p l t =
    let j : Ledger = record l { got = i ∷ l.got } in
    let b : Bool = is_placed_at i (places_at m j) in
    let e = take_else b m i j in
    let r = items_told_on m items p (take_got m i l) (take_told b m i p j (record { places = t.places; placed = t.placed; shelved = t.shelved; name = t.name; definitions = t.definitions; users = t.users; used = t.used; connections = t.connections })) in
    (r.0, else_then m l (take_got m i l) _ (record { places = e.places; users = e.users }) r.1, r.2 ∙ taken_users b m i j)

pub gots_told : (xs : List Item) → got_idents (items_told xs) ≡ got_idents xs
gots_told [] = refl
gots_told (Put q m ∷ xs) = gots_told xs
gots_told (Take q i l ∷ xs) = ap (λ (is : List Ident). i ∷ is) (gots_told xs)

gets_leave : (m n : ℕ) (given : Ident → Bool) (p : Plain) (l : Ledger) (items : List Item) → unit_of (connection_at n p.connections) ≡ items → IsListed n p
    → Leads m (side_of p given) (sheet_of m l)
    (record { rows = λ d. (stored d (apply_all (flat_map taken_item items) p)).rows; units = with_items n (puts_of items) (λ k. unit_of (connection_at k p.connections)); given = given })
    (sheet_of m (take_items m (items_told items) l))
gets_leave m n given p l items is listed w g b h =
    let v : Side = side_of p given in
    let t : Sheet = sheet_of m l in
    let k : Ledger = take_items m (items_told items) l in
    let gots : got_idents (items_told items) ≡ got_idents (v.units n) = gots_told items ∙ ap got_idents (sym is) in
    let r = gets_go_leads m n v t k.gone (λ j c. subst (λ z. Mem j z ⊎ Mem j l.gone) gots (items_gone m (items_told items) l j c)) w g b h in
    let side : record { rows = unheld n v.rows; units = with_items n (puts_of (v.units n)) v.units; given = given }
    ≡ record { rows = λ d. (stored d (apply_all (flat_map taken_item items) p)).rows; units = with_items n (puts_of items) v.units; given = given } =
    (λ i. record {
      rows = λ d. keep_same (λ y. not (held_by (holders.Unit n) y.by)) (λ y. not (any_taken (v.units n) d y)) (v.rows d) (λ y c. ap not (held_is_taken m n v t w g b h listed d y c)) i;
      units = with_items n (puts_of (v.units n)) v.units;
      given = given;
    })
    ∙ (λ i. record { rows = λ d. (ap (λ us. untaken us v.rows d) is ∙ sym (taken_items_rows items p d)) i; units = with_items n (puts_of (is i)) v.units; given = given }) in
    let sheet : record { rows = left_of (got_idents (v.units n)) t.rows; gone = k.gone; got = bury_all (got_idents (v.units n)) t.got } ≡ sheet_of m k =
    λ i. record { rows = λ d. (ap (λ is. left_of is t.rows d) (sym gots) ∙ sym (items_rows m (items_told items) d l)) i; gone = k.gone; got = (ap (λ is. bury_all is l.got) (sym gots) ∙ sym (items_got m (items_told items) l)) i } in
    record {
      owner = r.owner;
      inv = subst (λ z. Inv (local w m z) (with_owner g r.owner) (page b m z (sheet_of m k))) side
          (subst (λ z. Inv (local w m (record { rows = unheld n v.rows; units = with_items n (puts_of (v.units n)) v.units; given = given })) (with_owner g r.owner)
          (page b m (record { rows = unheld n v.rows; units = with_items n (puts_of (v.units n)) v.units; given = given }) z)) sheet r.inv);
    }

-- The second half

pub placed_items_beside : (items : List Item) (p : Plain) → IsBeside p (apply_all (flat_map placed_item items) p)
placed_items_beside [] p = beside_none p
placed_items_beside (Put q message ∷ items) p = beside_then p (apply_all (placed q message) p) _ (placed_beside q message p) (placed_items_beside items (apply_all (placed q message) p))
placed_items_beside (Take q i lasting ∷ items) p = placed_items_beside items p

items_twice : (n k : ℕ) (xs ys : List Item) (units : ℕ → List Item) → with_items n xs (with_items n ys units) k ≡ with_items n xs units k
items_twice n k xs ys units = bool_case (k == n) (λ t. (if t then xs else (if t then ys else units k)) ≡ (if t then xs else units k)) (λ e. refl) (λ e. refl)

puts_land : (m n : ℕ) (items : List Item) (units : ℕ → List Item) (given : Ident → Bool) (p : Plain) (l : Ledger) → IsTold m p l
    → Leads m (record { rows = λ d. (stored d p).rows; units = with_items n (puts_of items) units; given = given }) (sheet_of m l)
    (record { rows = λ d. (stored d (apply_all (flat_map placed_item items) p)).rows; units = with_items n [] units; given = given }) (sheet_of m (place_items m items l))
puts_land m n [] units given p l t = stays_leads m _ (sheet_of m l)
puts_land m n (Take q i lasting ∷ items) units given p l t = puts_land m n items units given p l t
puts_land m n (Put q message ∷ items) units given p l t =
    let q1 : Plain = apply_all (placed q message) p in
    let k : Ledger = ledgers.place m q message l in
    let b = placed_beside q message p in
    let v : Side = record { rows = λ d. (stored d p).rows; units = with_items n (Put q message ∷ puts_of items) units; given = given } in
    let first = put_lands_leads m n q message (puts_of items) (row_for q message p) (new_row (lane_of (local_of q t.places.definitions) message.md.priority) 0 message) v (sheet_of m l)
    (ap (λ z. if z then Put q message ∷ puts_of items else units n) (eqb_self n)) refl refl
    (ap (λ d. row_told (new_row (lane_of (local_of q d) message.md.priority) 0 message)) t.definitions) refl in
    let next : Side = record { rows = λ d. (stored d q1).rows; units = with_items n (puts_of items) units; given = given } in
    behind m v next _ (sheet_of m l) (sheet_of m k) _
    (leads_to m v _ next (sheet_of m l) _ (sheet_of m k) first
    (λ i. record { rows = λ d. sym (placed_rows q message p d) i; units = λ c. items_twice n c (puts_of items) (Put q message ∷ puts_of items) units i; given = given })
    (λ i. record { rows = λ d. sym (place_sheet m q d message l t.places t.placed) i; gone = l.gone; got = l.got }))
    (puts_land m n items units given q1 k (place_told m p q1 l q message t b.given b.definitions b.connections b.moment))

pub placed_told_on : (m : ℕ) (items : List Item) (p : Plain) (l : Ledger) → IsTold m p l
    → IsTold m (apply_all (flat_map placed_item items) p) (place_items m items l) × IsElse m l (place_items m items l) × ((place_items m items l).users ≡ l.users)
placed_told_on m [] p l t = (t, else_none m l, refl)
placed_told_on m (Take q i lasting ∷ items) p l t = placed_told_on m items p l t
placed_told_on m (Put q message ∷ items) p l t =
    let b = placed_beside q message p in
    let k : Ledger = ledgers.place m q message l in
    let r = placed_told_on m items (apply_all (placed q message) p) k (place_told m p (apply_all (placed q message) p) l q message t b.given b.definitions b.connections b.moment) in
    (r.0, else_then m l k _ (else_places m (ledgers.place_at q message) l) r.1, r.2)

pub puts_told : (m : ℕ) (items : List Item) (l : Ledger) → place_items m (items_told items) l ≡ place_items m items l
puts_told m [] l = refl
puts_told m (Put q message ∷ items) l = puts_told m items (ledgers.place m q message l)
puts_told m (Take q i lasting ∷ items) l = puts_told m items l

-- The whole

abbrev pub unit_ended : Connection → Connection
unit_ended c = record c { unit = [] }

pub ended_told : (m : ℕ) (p : Plain) (l : Ledger) (hc : Hconn) → IsTold m p l → IsTold m (apply (EndUnit hc.number) p) (ledgers.back_out m hc l)
ended_told m p l hc t = record {
  places = t.places;
  placed = t.placed;
  shelved = t.shelved;
  name = t.name;
  definitions = t.definitions;
  users = record t.users { connections = change_connection hc.number unit_ended t.users.connections };
  used = here_changed m (λ (u : Users). record u { connections = change_connection hc.number unit_ended u.connections }) l.users t.users t.used;
  connections = ap (change_connection hc.number unit_ended) t.connections ∙ sym (changed_told hc.number unit_ended unit_ended p.connections (λ c. refl));
}

abbrev pub committed : Hconn → Connection → Plain → Plain
committed hc c p = apply (EndUnit hc.number) (apply_all (flat_map placed_item c.unit) (apply_all (flat_map taken_item c.unit) p))

-- the unit, as the ledger tells it
pub unit_is_told : (m : ℕ) (p : Plain) (l : Ledger) (hc : Hconn) (c : Connection) → IsTold m p l → connection_at hc.number p.connections ≡ Some c → unit_of (ledgers.connection_of m hc l) ≡ items_told c.unit
unit_is_told m p l hc c t live =
    ap (λ o. unit_of (connection_at hc.number (users_or o).connections)) t.used
    ∙ ap (λ cs. unit_of (connection_at hc.number cs)) t.connections
    ∙ ap unit_of (connection_at_told hc.number p.connections ∙ ap (mapped_one connection_told) live)

ended_units : (n : ℕ) (c : Connection) (p : Plain) → connection_at n p.connections ≡ Some c → (k : ℕ) → unit_of (connection_at k (change_connection n unit_ended p.connections)) ≡ with_items n [] (λ e. unit_of (connection_at e p.connections)) k
ended_units n c p live = unit_changes n unit_ended [] p.connections (λ c. refl) (ap (λ o. unit_of (mapped_one unit_ended o)) live)

pub commit_follows : (m : ℕ) (given : Ident → Bool) (p : Plain) (l : Ledger) (hc : Hconn) (c : Connection) → IsFresh given p → IsTold m p l → connection_at hc.number p.connections ≡ Some c → IsListed hc.number p
    → Follow m given p l (committed hc c p) (ledgers.commit m hc l)
commit_follows m given p l hc c f t live listed =
    let n : ℕ = hc.number in
    let items : List Item = c.unit in
    let us : List Item = items_told items in
    let p1 : Plain = apply_all (flat_map taken_item items) p in
    let p2 : Plain = apply_all (flat_map placed_item items) p1 in
    let l1 : Ledger = take_items m us l in
    let l2 : Ledger = place_items m items l1 in
    let b1 = taken_items_beside items p in
    let b2 = placed_items_beside items p1 in
    let t1 = items_told_on m us p l t in
    let t2 = placed_told_on m items p1 l1 (told_beside m p p1 l1 b1 t1.0) in
    let units : ℕ → List Item = λ k. unit_of (connection_at k p.connections) in
    let a1 = gets_leave m n given p l items (ap unit_of live) listed in
    let a2 = puts_land m n items units given p1 l1 (told_beside m p p1 l1 b1 t1.0) in
    let r : Plain = committed hc c p in
    let b : IsBeside p p2 = beside_then p p1 p2 b1 b2 in
    let whole : ledgers.commit m hc l ≡ ledgers.back_out m hc l2 = ap (λ xs. ledgers.back_out m hc (place_items m xs (take_items m xs l))) (unit_is_told m p l hc c t live) ∙ ap (ledgers.back_out m hc) (puts_told m items l1) in
    let e = else_then m l l1 l2 t1.1 t2.1 in
    let e2 = else_users m (λ (u : Users). record u { connections = change_connection n unit_ended u.connections }) l2 in
    subst (λ k. Follow m given p l r k) (sym whole) (record {
      now = given;
      leads = leads_to m (side_of p given) _ (side_of r given) (sheet_of m l) _ (sheet_of m (ledgers.back_out m hc l2)) (behind m (side_of p given) _ _ (sheet_of m l) (sheet_of m l1) (sheet_of m l2) a1 a2)
          (λ i. record { rows = λ d. (stored d p2).rows; units = λ k. (sym (ended_units n c p live k) ∙ ap (λ cs. unit_of (connection_at k (change_connection n unit_ended cs))) (sym b.connections)) i; given = given }) refl;
      fresh = λ i z. f i (sym (λ j. unborn_by (b.given j) (b.numbers j) i) ∙ z);
      known = λ i z. refl;
      told = ended_told m p2 l2 hc t2.0;
      same = record { given = b.given; senders = (λ i. (b.channels i).senders); receivers = (λ i. (b.channels i).receivers); batches = (λ i. (b.channels i).batches) };
      steady = b.moment;
      other = else_then m l l2 (ledgers.back_out m hc l2) e e2;
      kept = λ u x y z. users_stay m (λ (u : Users). record u { connections = change_connection n unit_ended u.connections }) l2 (λ u. record { cut = refl; moment = refl }) u x (ap (λ us. slice_get us m) (t2.2 ∙ t1.2) ∙ y) z;
    })

-- A backout

release_twice : (s y : Bool) (x : Row) → release_if (y && not (is_free (release_if (s && not (is_free x)) true x))) true (release_if (s && not (is_free x)) true x) ≡ release_if ((s || y) && not (is_free x)) true x
release_twice s y x = go s y x.by refl
  where
    go : (s y : Bool) (by_ : Option Holder) → x.by ≡ by_ → release_if (y && not (is_free (release_if (s && not (is_free x)) true x))) true (release_if (s && not (is_free x)) true x) ≡ release_if ((s || y) && not (is_free x)) true x
    go true true None e = ap (λ z. release_if (true && not (is_free (release_if (true && not z) true x))) true (release_if (true && not z) true x)) (free e) ∙ ap (λ z. release_if (true && not z) true x) (free e) ∙ sym (ap (λ z. release_if (true && not z) true x) (free e))
      where
        free : x.by ≡ None → is_free x ≡ true
        free e = ap (λ o. elim o as (λ h. Bool) [ None ↦ true | Some h ↦ false ]) e
    go true false None e = refl
    go true true (Some h) e = ap (λ z. release_if (true && not (is_free (release_if (true && not z) true x))) true (release_if (true && not z) true x)) (held e) ∙ sym (ap (λ z. release_if (true && not z) true x) (held e))
      where
        held : x.by ≡ Some h → is_free x ≡ false
        held e = ap (λ o. elim o as (λ h. Bool) [ None ↦ true | Some h ↦ false ]) e
    go true false (Some h) e = refl
    go false y by_ e = refl

retag_twice : (f g k : Row → Row) (xs : List Row) → ((x : Row) → g (f x) ≡ k x) → retag g (retag f xs) ≡ retag k xs
retag_twice f g k [] same = refl
retag_twice f g k (x ∷ xs) same = λ i. same x i ∷ retag_twice f g k xs same i

-- whether a row is listed goes by its ident alone
any_released : (items : List Item) (d : List ℕ) (t : Bool) (x : Row) → any_taken items d (release_if t true x) ≡ any_taken items d x
any_released items d false x = refl
any_released [] d true x = refl
any_released (Put q message ∷ items) d true x = any_released items d true x
any_released (Take q i lasting ∷ items) d true x = ap (λ t. (bytes_eq d q && same_ident x.message.ident i) || t) (any_released items d true x)

none_or : (t : Bool) → (t || false) ≡ t
none_or true = refl
none_or false = refl

pub freed_items_rows : (items : List Item) (p : Plain) (d : List ℕ) → (stored d (apply_all (flat_map freed_item items) p)).rows ≡ retag (λ x. release_if (any_taken items d x && not (is_free x)) true x) (stored d p).rows
freed_items_rows [] p d = none (stored d p).rows
  where
    none : (xs : List Row) → xs ≡ retag (λ x. x) xs
    none [] = refl
    none (x ∷ xs) = ap (λ ys. x ∷ ys) (none xs)
freed_items_rows (Put q message ∷ items) p d = freed_items_rows items p d
freed_items_rows (Take q i lasting ∷ items) p d =
    freed_items_rows items (apply (Release (Among q (i ∷ [])) true) p) d
    ∙ ap (retag (λ x. release_if (any_taken items d x && not (is_free x)) true x)) (rows_after (Release (Among q (i ∷ [])) true) p d tt)
    ∙ retag_twice _ _ (λ x. release_if (((bytes_eq d q && same_ident x.message.ident i) || any_taken items d x) && not (is_free x)) true x) (stored d p).rows
    (λ x. let s : Bool = bytes_eq d q && (same_ident x.message.ident i || false) in
    ap (λ z. release_if (z && not (is_free (release_if (s && not (is_free x)) true x))) true (release_if (s && not (is_free x)) true x)) (any_released items d (s && not (is_free x)) x)
    ∙ release_twice s (any_taken items d x) x
    ∙ ap (λ z. release_if (((bytes_eq d q && z) || any_taken items d x) && not (is_free x)) true x) (none_or (same_ident x.message.ident i)))

pub freed_items_beside : (items : List Item) (p : Plain) → IsBeside p (apply_all (flat_map freed_item items) p)
freed_items_beside [] p = beside_none p
freed_items_beside (Put q message ∷ items) p = freed_items_beside items p
freed_items_beside (Take q i lasting ∷ items) p =
    let b = freed_items_beside items (apply (Release (Among q (i ∷ [])) true) p) in
    record { given = b.given; definitions = b.definitions; connections = b.connections; channels = b.channels; moment = b.moment; numbers = b.numbers }

abbrev pub backed : Hconn → Connection → Plain → Plain
backed hc c p = apply (EndUnit hc.number) (apply_all (flat_map freed_item c.unit) p)

held_not_free : (n : ℕ) (x : Row) (t : Bool) → held_by (holders.Unit n) x.by ≡ t → (t && not (is_free x)) ≡ t
held_not_free n x true e = ap (λ o. true && not (elim o as (λ h. Bool) [ None ↦ true | Some h ↦ false ])) (unit_is n x.by e)
held_not_free n x false e = refl

unit_frees : (m n : ℕ) (given : Ident → Bool) (p : Plain) (l : Ledger) (items : List Item) → unit_of (connection_at n p.connections) ≡ items → IsListed n p
    → Leads m (side_of p given) (sheet_of m l) (record { rows = λ d. (stored d (apply_all (flat_map freed_item items) p)).rows; units = with_items n [] (λ k. unit_of (connection_at k p.connections)); given = given }) (sheet_of m l)
unit_frees m n given p l items is listed w g b h =
    let v : Side = side_of p given in
    let r = backs_out_leads m n true v (sheet_of m l) w g b h in
    let side : record { rows = unit_freed n true v.rows; units = with_items n [] v.units; given = given } ≡ record { rows = λ d. (stored d (apply_all (flat_map freed_item items) p)).rows; units = with_items n [] v.units; given = given } =
    λ i. record {
      rows = λ d. (retag_same _ _ (v.rows d) (λ y c. let e = held_is_taken m n v (sheet_of m l) w g b h listed d y c in
          ap (λ z. release_if z true y) (sym (held_not_free n y (held_by (holders.Unit n) y.by) refl) ∙ ap (λ z. z && not (is_free y)) (e ∙ ap (λ us. any_taken us d y) is)))
          ∙ sym (freed_items_rows items p d)) i;
      units = with_items n [] v.units;
      given = given;
    } in
    record { owner = r.owner; inv = subst (λ z. Inv (local w m z) (with_owner g r.owner) (page b m z (sheet_of m l))) side r.inv }

pub backout_follows : (m : ℕ) (given : Ident → Bool) (p : Plain) (l : Ledger) (hc : Hconn) (c : Connection) → IsFresh given p → IsTold m p l → connection_at hc.number p.connections ≡ Some c → IsListed hc.number p
    → Follow m given p l (backed hc c p) (ledgers.back_out m hc l)
backout_follows m given p l hc c f t live listed =
    let n : ℕ = hc.number in
    let p1 : Plain = apply_all (flat_map freed_item c.unit) p in
    let b = freed_items_beside c.unit p in
    let r : Plain = backed hc c p in
    record {
      now = given;
      leads = leads_to m (side_of p given) _ (side_of r given) (sheet_of m l) _ (sheet_of m (ledgers.back_out m hc l)) (unit_frees m n given p l c.unit (ap unit_of live) listed)
          (λ i. record { rows = λ d. (stored d p1).rows; units = λ k. (sym (ended_units n c p live k) ∙ ap (λ cs. unit_of (connection_at k (change_connection n unit_ended cs))) (sym b.connections)) i; given = given }) refl;
      fresh = λ i z. f i (sym (λ j. unborn_by (b.given j) (b.numbers j) i) ∙ z);
      known = λ i z. refl;
      told = ended_told m p1 l hc (told_beside m p p1 l b t);
      same = record { given = b.given; senders = (λ i. (b.channels i).senders); receivers = (λ i. (b.channels i).receivers); batches = (λ i. (b.channels i).batches) };
      steady = b.moment;
      other = else_users m (λ (u : Users). record u { connections = change_connection n unit_ended u.connections }) l;
      kept = users_stay m (λ (u : Users). record u { connections = change_connection n unit_ended u.connections }) l (λ u. record { cut = refl; moment = refl });
    }
