-- Rows that are taken: gets, expiry, discards; and gets in a unit.
use Rattle.std.proofs.Common.{ℕ, ◌≡◌, ◌⊎◌, Bool, true, false, not, List, [], ◌∷◌, ◌++◌, refl, ap, sym, subst, ◌∙◌, inl, inr, map}
use Rattle.std.specs.Prelude.{Some, None, if◌then◌else◌, ◌&&◌, ◌||◌}
use Rattle.std.specs.Str.{bytes_eq}
use Rattle.mq_message.specs.declared.message.Ident.{Ident}
use Rattle.mq_message.specs.declared.place.Holder.TheVariants as holders
use Rattle.mq_queue.specs.declared.row.Row.{Row}
use Rattle.mq_queue.specs.Rows.{same_ident, keep, retag, is_free}
use Rattle.mq_calls.specs.declared.answers.Hconn.{Hconn}
use Rattle.mq_calls.specs.declared.deltas.Did.{Did}
use Rattle.mq_calls.specs.declared.deltas.Did.TheVariants as did
use Rattle.mq_calls.specs.declared.deltas.Why.{Why}
use Rattle.mq_calls.specs.declared.state.Connection.{Connection}
use Rattle.mq_calls.specs.declared.state.Item.{Item}
use Rattle.mq_calls.specs.declared.state.Item.TheVariants.{Take}
use Rattle.mq_law_seen.specs.from_history.{ManagerPlaces}
use Rattle.mq_calls.specs.State.{Plain, Given}
use Rattle.mq_calls.specs.State.Change.{Leave, Hold, Pend}
use Rattle.mq_calls.specs.State.Which.{Among}
use Rattle.mq_calls.specs.Reads.{stored, connection_at}
use Rattle.mq_calls.specs.Changes.{apply, apply_all, retag_if, selects}
use Rattle.mq_spec_manager.specs.Get.{idents_of}
use Rattle.mq_law_seen.specs.from_spec_network.Ledger as ledgers
use Rattle.mq_law_seen.specs.from_spec_network.Ledger.{Ledger, places_at, is_placed_at, take, take_if, take_got, take_all_gone, is_taken, leave_queues, ledger_rows, unit_of}
use Rattle.mq_law_seen.specs.from_spec_network.Story.{Mem}
use Rattle.mq_law_seen.specs.from_law_rows.World.{ident_of}
use Rattle.mq_law_seen.specs.from_law_rows.Kinds.{among}
use Rattle.mq_law_seen.proofs.from_law_rows.Lists.{bool_case, is_false, true_false, eqb_self, ident_yes, name_yes, keep_same, keep_all, mem_kept, and_right}
use Rattle.mq_law_seen.proofs.from_law_rows.Receiving.{mem_any}
use Rattle.mq_law_seen.proofs.Bridges.{takes_from}
use Rattle.mq_law_seen.proofs.Receipts.{rows_placed}
use Rattle.mq_law_manager.specs.Facts.{Differ}
use Rattle.mq_law_manager.proofs.SeenLaws.{mapped_one}
use Rattle.mq_law_events.specs.Local.{Side, Leads, side_of, sheet_of}
use Rattle.mq_law_events.specs.Tied.{connections_told, IsTold, IsFresh, IsElse, Follow}
use Rattle.mq_law_events.proofs.Locals.{with_items, without, left_by, row_goes_leads, row_held_leads, behind, stays_leads}
use Rattle.mq_law_events.proofs.Telling.{left_shelved, here_changed, else_places, else_none, else_then, else_users, unit_changes}
use Rattle.mq_law_events.proofs.Putting.{rows_after, IsBeside, leads_to, pended, pend_told, users_stay, same_users}

-- The ledger's taking

take_sheet : (t : Bool) (m : ℕ) (i : Ident) (d : List ℕ) (l : Ledger) → is_placed_at i (places_at m l) ≡ t → ledger_rows m d (take_if t m i l) ≡ left_by i (λ d. ledger_rows m d l) d
take_sheet true m i d l e = takes_from m i m d l ∙ ap (λ t. keep (λ r. not (t && same_ident r.message.ident i)) (ledger_rows m d l)) (eqb_self m)
take_sheet false m i d l e = sym (keep_all (λ r. not (same_ident r.message.ident i)) (ledger_rows m d l) (λ r n. ap not (is_false (same_ident r.message.ident i) (λ z.
    true_false (sym (mem_any i _ (subst (λ j. Mem j (ledgers.idents_at (places_at m l))) (ident_yes r.message.ident i z) (rows_placed d (places_at m l).queues r n))) ∙ e)))))

pub taken_rows : (m : ℕ) (i : Ident) (d : List ℕ) (l : Ledger) → ledger_rows m d (take m i l) ≡ left_by i (λ d. ledger_rows m d l) d
taken_rows m i d l = take_sheet (is_placed_at i (places_at m l)) m i d l refl

pub taken_gone : (t : Bool) (m : ℕ) (i j : Ident) (l : Ledger) → Mem j (take_if t m i l).gone → (j ≡ i) ⊎ Mem j l.gone
taken_gone true m i j l n = n
taken_gone false m i j l n = inr n

pub taken_got : (t : Bool) (m : ℕ) (i : Ident) (l : Ledger) → (take_if t m i l).got ≡ l.got
taken_got true m i l = refl
taken_got false m i l = refl

pub taken_users : (t : Bool) (m : ℕ) (i : Ident) (l : Ledger) → (take_if t m i l).users ≡ l.users
taken_users true m i l = refl
taken_users false m i l = refl

-- nor does what goes of a delta touch a connection
pub gone_users : (m : ℕ) (ds : List Did) (l : Ledger) → (take_all_gone m ds l).users ≡ l.users
gone_users m [] l = refl
gone_users m (d ∷ ds) l = gone_users m ds (ledgers.take_gone m d l) ∙ one d
  where
    taken : (t : Bool) (i : Ident) → (ledgers.when t (ledgers.take m i) l).users ≡ l.users
    taken true i = taken_users (is_placed_at i (places_at m l)) m i l
    taken false i = refl

    one : (d : Did) → (ledgers.take_gone m d l).users ≡ l.users
    one (did.Removed q i why) = taken (is_taken why) i
    one (did.Placed q i dead) = refl
    one (did.Moved q i to target bare) = refl
    one (did.Held q i by_) = refl
    one (did.Released q i) = refl
    one (did.Hardened c note) = refl
    one (did.Prepared c u) = refl
    one (did.Received c u) = refl

pub take_told : (t : Bool) (m : ℕ) (i : Ident) (p : Plain) (l : Ledger) → IsTold m p l → IsTold m p (take_if t m i l)
take_told false m i p l t = t
take_told true m i p l t =
    let f : ManagerPlaces → ManagerPlaces = λ p. record p { queues = leave_queues (λ (row : Row). not (same_ident row.message.ident i)) p.queues } in
    record { places = f t.places; placed = here_changed m f l.places t.places t.placed; shelved = left_shelved (λ (row : Row). not (same_ident row.message.ident i)) t.places.queues t.shelved; name = t.name; definitions = t.definitions; users = t.users; used = t.used; connections = t.connections }

pub take_else : (t : Bool) (m : ℕ) (i : Ident) (l : Ledger) → IsElse m l (take_if t m i l)
take_else false m i l = else_none m l
take_else true m i l =
    let e = else_places m (λ p. record p { queues = leave_queues (λ (row : Row). not (same_ident row.message.ident i)) p.queues }) l in
    record { places = e.places; users = e.users }

-- A manager that has the same name, definitions and connections is told alike.
pub told_alike : (m : ℕ) (p r : Plain) (l : Ledger) → r.given ≡ p.given → r.definitions ≡ p.definitions → r.connections ≡ p.connections → IsTold m p l → IsTold m r l
told_alike m p r l given definitions connections t = record {
  places = t.places;
  placed = t.placed;
  shelved = t.shelved;
  name = t.name ∙ ap (λ (g : Given). g.name) (sym given);
  definitions = t.definitions ∙ sym definitions;
  users = t.users;
  used = t.used;
  connections = t.connections ∙ ap connections_told (sym connections);
}

pub told_beside : (m : ℕ) (p r : Plain) (l : Ledger) → IsBeside p r → IsTold m p l → IsTold m r l
told_beside m p r l b t = told_alike m p r l b.given b.definitions b.connections t

-- Rows that go one by one

pub keep_two : (p b c : Row → Bool) (xs : List Row) → ((x : Row) → (p x && b x) ≡ c x) → keep b (keep p xs) ≡ keep c xs
keep_two p b c [] same = refl
keep_two p b c (x ∷ xs) same =
    bool_case (p x) (λ t. p x ≡ t → keep b (if t then x ∷ keep p xs else keep p xs) ≡ keep c (x ∷ xs))
    (λ e f. let z : b x ≡ c x = ap (λ t. t && b x) (sym f) ∙ same x in (λ i. if z i then x ∷ keep b (keep p xs) else keep b (keep p xs)) ∙ ap (λ ys. if c x then x ∷ ys else ys) (keep_two p b c xs same))
    (λ e f. let z : false ≡ c x = ap (λ t. t && b x) (sym f) ∙ same x in keep_two p b c xs same ∙ ap (λ t. if t then x ∷ keep c xs else keep c xs) z) refl

abbrev pub without_all : List ℕ → List Ident → (List ℕ → List Row) → List ℕ → List Row
without_all q is rows d = keep (λ h. not (bytes_eq d q && among is h.message.ident)) (rows d)

two_tests : (c x y : Bool) → (not (c && x) && not (c && y)) ≡ not (c && (x || y))
two_tests true true y = refl
two_tests true false true = refl
two_tests true false false = refl
two_tests false true y = refl
two_tests false false y = refl

none_of_none : (c : Bool) → not (c && false) ≡ true
none_of_none true = refl
none_of_none false = refl

-- expired rows, and those that a rule discards
abbrev pub removed_all : Why → List ℕ → List Row → List Did
removed_all why q rows = map (λ (row : Row). did.Removed q row.message.ident why) rows

pub many_go : (m : ℕ) (q : List ℕ) (why : Why) (xs : List Row) (v : Side) (l : Ledger) → is_taken why ≡ true → ((x : Row) → Mem x xs → Mem x (v.rows q) × (x.by ≡ None)) → Differ ident_of xs
    → Leads m v (sheet_of m l) (record { rows = without_all q (idents_of xs) v.rows; units = v.units; given = v.given }) (sheet_of m (take_all_gone m (removed_all why q xs) l))
many_go m q why [] v l taken each once = leads_to m v v _ (sheet_of m l) (sheet_of m l) _ (stays_leads m v (sheet_of m l))
    (λ i. record { rows = λ d. sym (keep_all (λ h. not (bytes_eq d q && false)) (v.rows d) (λ r n. none_of_none (bytes_eq d q))) i; units = v.units; given = v.given }) refl
many_go m q why (x ∷ xs) v l taken each once =
    let i : Ident = x.message.ident in
    let k : Ledger = take m i l in
    let v1 : Side = record { rows = without q i v.rows; units = v.units; given = v.given } in
    let at = each x (inl refl) in
    let first : Leads m v (sheet_of m l) v1 (sheet_of m k) = leads_to m v v1 v1 (sheet_of m l) _ (sheet_of m k)
    (row_goes_leads m q x false v (sheet_of m l) k.gone at.0 at.1 (λ j n. taken_gone (is_placed_at i (places_at m l)) m i j l n)) refl
    (λ z. record { rows = λ d. sym (taken_rows m i d l) z; gone = k.gone; got = sym (taken_got (is_placed_at i (places_at m l)) m i l) z }) in
    let rest = many_go m q why xs v1 k taken
    (λ y n. let a = each y (inr n) in
    (mem_kept (λ h. not (bytes_eq q q && same_ident h.message.ident i)) y (v.rows q) a.0 (ap not (is_false (bytes_eq q q && same_ident y.message.ident i) (λ z. once.0 y n (sym (ident_yes y.message.ident i (and_right (bytes_eq q q) _ z)))))), a.1))
    once.1 in
    let same : ledgers.take_all_gone m (removed_all why q (x ∷ xs)) l ≡ take_all_gone m (removed_all why q xs) k = ap (λ t. take_all_gone m (removed_all why q xs) (ledgers.when t (take m i) l)) taken in
    leads_to m v _ _ (sheet_of m l) _ _ (behind m v v1 _ (sheet_of m l) (sheet_of m k) _ first rest)
    (λ z. record {
      rows = λ d. keep_two (λ h. not (bytes_eq d q && same_ident h.message.ident i)) (λ h. not (bytes_eq d q && among (idents_of xs) h.message.ident)) (λ h. not (bytes_eq d q && among (idents_of (x ∷ xs)) h.message.ident)) (v.rows d)
          (λ h. two_tests (bytes_eq d q) (same_ident h.message.ident i) (among (idents_of xs) h.message.ident)) z;
      units = v.units;
      given = v.given;
    })
    (ap (sheet_of m) (sym same))

-- all of them, told
all_told : (m : ℕ) (p : Plain) (why : Why) (q : List ℕ) (xs : List Row) (l : Ledger) → IsTold m p l → IsTold m p (take_all_gone m (removed_all why q xs) l)
all_told m p why q [] l t = t
all_told m p why q (x ∷ xs) l t = all_told m p why q xs (ledgers.when (is_taken why) (take m x.message.ident) l) (one (is_taken why))
  where
    one : (b : Bool) → IsTold m p (ledgers.when b (take m x.message.ident) l)
    one true = take_told (is_placed_at x.message.ident (places_at m l)) m x.message.ident p l t
    one false = t

all_else : (m : ℕ) (why : Why) (q : List ℕ) (xs : List Row) (l : Ledger) → IsElse m l (take_all_gone m (removed_all why q xs) l) × ((take_all_gone m (removed_all why q xs) l).users ≡ l.users)
all_else m why q [] l = (else_none m l, refl)
all_else m why q (x ∷ xs) l =
    let k : Ledger = ledgers.when (is_taken why) (take m x.message.ident) l in
    let a = one (is_taken why) in
    let c = all_else m why q xs k in
    (else_then m l k _ a.0 c.0, c.1 ∙ a.1)
  where
    one : (b : Bool) → IsElse m l (ledgers.when b (take m x.message.ident) l) × ((ledgers.when b (take m x.message.ident) l).users ≡ l.users)
    one true = (take_else (is_placed_at x.message.ident (places_at m l)) m x.message.ident l, taken_users (is_placed_at x.message.ident (places_at m l)) m x.message.ident l)
    one false = (else_none m l, refl)

pub many_follow : (m : ℕ) (given : Ident → Bool) (p : Plain) (l : Ledger) (q : List ℕ) (why : Why) (xs : List Row) → IsFresh given p → IsTold m p l → is_taken why ≡ true
    → ((x : Row) → Mem x xs → Mem x (stored q p).rows × (x.by ≡ None)) → Differ ident_of xs
    → Follow m given p l (apply (Leave (Among q (idents_of xs))) p) (take_all_gone m (removed_all why q xs) l)
many_follow m given p l q why xs f t taken each once =
    let r : Plain = apply (Leave (Among q (idents_of xs))) p in
    let e = all_else m why q xs l in
    record {
      now = given;
      leads = leads_to m (side_of p given) _ (side_of r given) (sheet_of m l) _ _ (many_go m q why xs (side_of p given) l taken each once)
          (λ i. record { rows = λ d. sym (rows_after (Leave (Among q (idents_of xs))) p d tt) i; units = λ k. unit_of (connection_at k p.connections); given = given }) refl;
      fresh = f;
      known = λ i e. refl;
      told = all_told m r why q xs l (told_beside m p r l (record { given = refl; definitions = refl; connections = refl; channels = refl; moment = refl; numbers = refl }) t);
      same = record { given = refl; senders = refl; receivers = refl; batches = refl };
      steady = refl;
      other = e.0;
      kept = same_users m l (take_all_gone m (removed_all why q xs) l) e.1;
    }

-- A get outside a unit takes its row.
pub got_follows : (m : ℕ) (given : Ident → Bool) (p : Plain) (l : Ledger) (q : List ℕ) (x : Row) → IsFresh given p → IsTold m p l → Mem x (stored q p).rows → x.by ≡ None
    → Follow m given p l (apply (Leave (Among q (x.message.ident ∷ []))) p) (take_got m x.message.ident l)
got_follows m given p l q x f t n free =
    let i : Ident = x.message.ident in
    let r : Plain = apply (Leave (Among q (i ∷ []))) p in
    let j : Ledger = record l { got = i ∷ l.got } in
    let k : Ledger = take_got m i l in
    let b : Bool = is_placed_at i (places_at m j) in
    record {
      now = given;
      leads = leads_to m (side_of p given) _ (side_of r given) (sheet_of m l) _ (sheet_of m k)
          (row_goes_leads m q x true (side_of p given) (sheet_of m l) k.gone n free (λ a c. taken_gone b m i a j c))
          (λ z. record { rows = λ d. (keep_same _ _ (stored d p).rows (λ h c. ap (λ t. not (bytes_eq d q && t)) (sym (or_none (same_ident h.message.ident i)))) ∙ sym (rows_after (Leave (Among q (i ∷ []))) p d tt)) z; units = λ c. unit_of (connection_at c p.connections); given = given })
          (λ z. record { rows = λ d. sym (taken_rows m i d j) z; gone = k.gone; got = sym (taken_got b m i j) z });
      fresh = f;
      known = λ i e. refl;
      told = take_told b m i r j (record { places = t.places; placed = t.placed; shelved = t.shelved; name = t.name; definitions = t.definitions; users = t.users; used = t.used; connections = t.connections });
      same = record { given = refl; senders = refl; receivers = refl; batches = refl };
      steady = refl;
      other = (let e = take_else b m i j in record { places = e.places; users = e.users });
      kept = same_users m l k (taken_users b m i j);
    }
  where
    or_none : (t : Bool) → (t || false) ≡ t
    or_none true = refl
    or_none false = refl

-- A get in a unit holds its row, the only one of its ident there.

pub retag_same : (f g : Row → Row) (xs : List Row) → ((x : Row) → Mem x xs → f x ≡ g x) → retag f xs ≡ retag g xs
retag_same f g [] all = refl
retag_same f g (x ∷ xs) all = λ i. all x (inl refl) i ∷ retag_same f g xs (λ y n. all y (inr n)) i

pub held_follows : (m : ℕ) (given : Ident → Bool) (p : Plain) (l : Ledger) (hc : Hconn) (c : Connection) (q : List ℕ) (x : Row) (lasting : Bool) → IsFresh given p → IsTold m p l → Mem x (stored q p).rows → x.by ≡ None
    → ((y : Row) → Mem y (stored q p).rows → y.message.ident ≡ x.message.ident → is_free y ≡ true) → connection_at hc.number p.connections ≡ Some c
    → Follow m given p l (apply_all (Hold (Among q (x.message.ident ∷ [])) (holders.Unit hc.number) ∷ Pend hc.number (Take q x.message.ident lasting) ∷ []) p) (ledgers.pend m hc (Take [] x.message.ident false) l)
held_follows m given p l hc c q x lasting f t n free alone live =
    let i : Ident = x.message.ident in
    let item : Item = Take q i lasting in
    let h : Plain = apply (Hold (Among q (i ∷ [])) (holders.Unit hc.number)) p in
    let r : Plain = apply (Pend hc.number item) h in
    let units : (k : ℕ) → unit_of (connection_at k r.connections) ≡ with_items hc.number (unit_of (connection_at hc.number p.connections) ++ item ∷ []) (λ e. unit_of (connection_at e p.connections)) k =
    unit_changes hc.number (pended item) _ p.connections (λ c. refl) (ap (λ o. unit_of (mapped_one (pended item) o)) live ∙ ap (λ o. unit_of o ++ item ∷ []) (sym live)) in
    record {
      now = given;
      leads = leads_to m (side_of p given) _ (side_of r given) (sheet_of m l) _ (sheet_of m (ledgers.pend m hc (Take [] i false) l))
          (row_held_leads m q hc.number x lasting (side_of p given) (sheet_of m l) n free)
          (λ z. record {
            rows = λ d. (retag_same _ _ (stored d p).rows (λ y k. ap (λ t. retag_if t (Some (holders.Unit hc.number)) y) (tests d y k)) ∙ sym (rows_after (Hold (Among q (i ∷ [])) (holders.Unit hc.number)) p d tt)) z;
            units = λ k. sym (units k) z;
            given = given;
          }) refl;
      fresh = f;
      known = λ i e. refl;
      told = pend_told m p r l hc item (Take [] i false) t refl refl refl refl refl;
      same = record { given = refl; senders = refl; receivers = refl; batches = refl };
      steady = refl;
      other = else_users m _ l;
      kept = users_stay m _ l (λ u. record { cut = refl; moment = refl });
    }
  where
    three : (a s e : Bool) → (a ≡ true → s ≡ true → e ≡ true) → (a && s) ≡ ((a && (s || false)) && e)
    three true true e h = sym (h refl refl)
    three true false e h = refl
    three false s e h = refl

    tests : (d : List ℕ) (y : Row) → Mem y (stored d p).rows → (bytes_eq d q && same_ident y.message.ident x.message.ident) ≡ (selects (Among q (x.message.ident ∷ [])) d y && is_free y)
    tests d y k = three (bytes_eq d q) (same_ident y.message.ident x.message.ident) (is_free y)
        (λ a s. alone y (subst (λ z. Mem y (stored z p).rows) (name_yes d q a) k) (ident_yes y.message.ident x.message.ident s))
