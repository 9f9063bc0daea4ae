-- Stops, stopped writes and restarts: rows that are told alike keep the facts, and the ledger follows.
use Rattle.std.proofs.Common.{ℕ, ◌≡◌, Bool, true, false, not, List, [], ◌∷◌, ◌++◌, refl, ap, sym, subst, ◌∙◌, map}
use Rattle.std.specs.Prelude.{Option, Some, None, ◌==◌, ◌+◌, if◌then◌else◌, ◌&&◌}
use Rattle.mq_message.specs.declared.message.Ident.{Ident}
use Rattle.mq_message.specs.declared.place.Holder.{Holder}
use Rattle.mq_message.specs.declared.place.Holder.TheVariants as holders
use Rattle.mq_queue.specs.declared.row.Row.{Row}
use Rattle.mq_queue.specs.Rows.{keep, retag, is_free, is_by_unit}
use Rattle.mq_calls.specs.declared.state.Batch.{Batch}
use Rattle.mq_calls.specs.State.{Plain, Given, LogState, Running, Noted}
use Rattle.mq_calls.specs.State.Change.{Leave, Release, ForgetAll}
use Rattle.mq_calls.specs.State.Which.{HeldByUnits, Nonpersistent}
use Rattle.mq_calls.specs.Reads.{stored, connection_at, is_persistent}
use Rattle.mq_calls.specs.Changes.{apply, apply_all, release_if}
use Rattle.mq_calls.specs.Images.{begun, raised, rests_by, lasting, lasting_row, lasting_rows, numbered, uncounted_message}
use Rattle.mq_calls.specs.Steps.{freeze}
use Rattle.mq_spec_manager.specs.Stops.{at_rest, release_batch}
use Rattle.mq_law_seen.specs.from_spec_network.Ledger as ledgers
use Rattle.mq_law_seen.specs.from_spec_network.Ledger.{Ledger, Users, ledger_rows, leave_queues, unit_of}
use Rattle.mq_law_seen.specs.from_history.{ManagerPlaces}
use Rattle.mq_law_seen.specs.from_law_rows.World.{Inv}
use Rattle.mq_law_seen.specs.from_law_rows.Kinds.{with_rows}
use Rattle.mq_law_seen.proofs.from_law_rows.Lists.{bool_case, eqb_self}
use Rattle.mq_law_seen.proofs.Bridges.{loses_rows}
use Rattle.mq_law_manager.proofs.Numbered.{rows_begun}
use Rattle.mq_law_manager.proofs.Restarting.{rows_lasting}
use Rattle.mq_law_seen.proofs.from_law_rows.Telling.{IsAlike, retells, untells}
use Rattle.mq_law_events.specs.Local.{Side, Sheet, local, page, Leads, side_of, sheet_of}
use Rattle.mq_law_events.specs.Tied.{connections_told, IsTold, IsFresh, IsElse, Follow}
use Rattle.mq_law_events.proofs.Locals.{lands, others_told, retag_both, lasting_of, loses_leads, behind}
use Rattle.mq_law_events.proofs.Resting.{backs_out_all}
use Rattle.mq_law_events.proofs.Telling.{left_shelved, here_changed, else_places, else_users, else_then}
use Rattle.mq_law_events.proofs.Putting.{rows_after, leads_to, users_stay, same_users}
use Rattle.mq_law_events.proofs.Taking.{retag_same}

-- A row without its count of arrivals and of backouts.
abbrev pub bare : Row → Row
bare y = record { place = record { lane = y.place.lane; arrival = 0 }; message = uncounted_message y.message; by = y.by }

abbrev bare_if : Bool → Row → Row
bare_if t y = if t then bare y else y

bare_if_alike : (t : Bool) → IsAlike (bare_if t)
bare_if_alike true = record { lane = λ x. refl; by = λ x. refl; tag = λ x. refl; told = λ x. refl }
bare_if_alike false = record { lane = λ x. refl; by = λ x. refl; tag = λ x. refl; told = λ x. refl }

-- rows of one manager that are the same so are as good
pub alike_leads : (m : ℕ) (v x : Side) (t : Sheet) → ((d : List ℕ) → retag bare (v.rows d) ≡ retag bare (x.rows d)) → v.units ≡ x.units → v.given ≡ x.given → Leads m v t x t
alike_leads m v x t same units given w g b h =
    let u : Side = record { rows = v.rows; units = x.units; given = x.given } in
    let k : Inv (local w m u) g (page b m u t) = subst (λ (z : Side). Inv (local w m z) g (page b m z t)) (λ i. record { rows = v.rows; units = units i; given = given i }) h in
    let r = retells (local w m u) g (page b m u t) (λ a. bare_if (a == m)) k (λ a. bare_if_alike (a == m)) in
    let rows : (a : ℕ) (d : List ℕ) → retag (bare_if (a == m)) (if a == m then v.rows d else w.rows a d) ≡ retag (bare_if (a == m)) (if a == m then x.rows d else w.rows a d) =
    λ a d. go (a == m) (v.rows d) (x.rows d) (w.rows a d) (same d) in
    record {
      owner = g.owner;
      inv = untells (local w m x) g (page b m x t) (λ a. bare_if (a == m)) (λ a. bare_if_alike (a == m))
          (subst (λ (z : ℕ → List ℕ → List Row). Inv (with_rows (local w m x) z) g (page b m x t)) (λ i a d. rows a d i) r);
    }
  where
    go : (t : Bool) (xs ys zs : List Row) → retag bare xs ≡ retag bare ys → retag (bare_if t) (if t then xs else zs) ≡ retag (bare_if t) (if t then ys else zs)
    go true xs ys zs e = e
    go false xs ys zs e = refl

-- What a stop leaves

abbrev pub rested_rows : (List ℕ → List Row) → List ℕ → List Row
rested_rows rows d = keep (λ y. not (not (is_persistent y.message))) (retag (λ y. release_if (is_by_unit y.by) true y) (rows d))

if_twice : {A : Type 0} (t : Bool) (x y z : A) → (if t then x else (if t then y else z)) ≡ (if t then x else z)
if_twice true x y z = refl
if_twice false x y z = refl

rests_leads : (m : ℕ) (v : Side) (t : Sheet) → Leads m v t (record { rows = rested_rows v.rows; units = λ k. []; given = v.given }) (record { rows = lasting_of t.rows; gone = t.gone; got = t.got })
rests_leads m v t =
    let x : Side = record { rows = λ d. retag (λ y. release_if (is_by_unit y.by) true y) (v.rows d); units = λ k. []; given = v.given } in
    behind m v x _ t t _ (λ w g b h. record {
      owner = _;
      inv = lands m w _ b x t _ _ _ (backs_out_all (local w m v) g (page b m v t) m true h)
          (λ a d. retag_both (a == m) (λ z y. release_if (z && is_by_unit y.by) true y) (v.rows d) (w.rows a d) (λ r. refl))
          (λ a k. if_twice (a == m) [] (v.units k) (w.units a k)) (λ a d. refl) (λ j n. n) refl (others_told m v t w g b h);
    }) (loses_leads m x t)

-- the ledger loses the same
pub lost_sheet : (m : ℕ) (d : List ℕ) (l : Ledger) → ledger_rows m d (ledgers.lose m l) ≡ lasting_of (λ d. ledger_rows m d l) d
lost_sheet m d l = loses_rows m m d l ∙ ap (λ t. keep (λ y. not (t && not (is_persistent y.message))) (ledger_rows m d l)) (eqb_self m)

pub lost_told : (m : ℕ) (p : Plain) (l : Ledger) → IsTold m p l → IsTold m p (ledgers.lose m l)
lost_told m p l t =
    let f : ManagerPlaces → ManagerPlaces = λ p. record p { queues = leave_queues (λ (row : Row). is_persistent row.message) p.queues } in
    record { places = f t.places; placed = here_changed m f l.places t.places t.placed; shelved = left_shelved (λ (row : Row). is_persistent row.message) t.places.queues t.shelved; name = t.name; definitions = t.definitions; users = t.users; used = t.used; connections = t.connections }

lost_else : (m : ℕ) (l : Ledger) → IsElse m l (ledgers.lose m l)
lost_else m l = else_places m (λ p. record p { queues = leave_queues (λ (row : Row). is_persistent row.message) p.queues }) l

-- A stopped write freezes the manager.
pub freezes : (m : ℕ) (given : Ident → Bool) (p : Plain) (l : Ledger) (note : Option Noted) (left : ℕ) → IsFresh given p → IsTold m p l → Follow m given p l (freeze note left p) (ledgers.lose m l)
freezes m given p l note left f t =
    let r : Plain = freeze note left p in
    let k : Ledger = ledgers.lose m l in
    let t2 = lost_told m p l t in
    record {
      now = given;
      leads = leads_to m (side_of p given) _ (side_of r given) (sheet_of m l) _ (sheet_of m k) (loses_leads m (side_of p given) (sheet_of m l))
          (λ i. record { rows = λ d. sym (rows_after (Leave Nonpersistent) p d tt) i; units = λ c. unit_of (connection_at c p.connections); given = given })
          (λ i. record { rows = λ d. sym (lost_sheet m d l) i; gone = l.gone; got = l.got });
      fresh = f;
      known = λ i e. refl;
      told = record { places = t2.places; placed = t2.placed; shelved = t2.shelved; name = t2.name; definitions = t2.definitions; users = t2.users; used = t2.used; connections = t2.connections };
      same = record { given = refl; senders = refl; receivers = refl; batches = refl };
      steady = refl;
      other = lost_else m l;
      kept = same_users m l k refl;
    }

-- A stop, where no batch is held.

stopped_rows : (p : Plain) (d : List ℕ) → (stored d (apply_all (Release HeldByUnits true ∷ Leave Nonpersistent ∷ ForgetAll ∷ []) p)).rows ≡ rested_rows (λ d. (stored d p).rows) d
stopped_rows p d =
    let p1 : Plain = apply (Release HeldByUnits true) p in
    rows_after ForgetAll (apply (Leave Nonpersistent) p1) d tt
    ∙ rows_after (Leave Nonpersistent) p1 d tt
    ∙ ap (keep (λ y. not (not (is_persistent y.message)))) (rows_after (Release HeldByUnits true) p d tt
    ∙ retag_same _ _ (stored d p).rows (λ y n. ap (λ z. release_if z true y) (by_unit y y.by refl)))
  where
    by_unit : (y : Row) (o : Option Holder) → y.by ≡ o → (is_by_unit y.by && not (is_free y)) ≡ is_by_unit y.by
    by_unit y None e = (λ i. is_by_unit (e i) && not (elim (e i) as (λ h. Bool) [ None ↦ true | Some h ↦ false ])) ∙ ap is_by_unit (sym e)
    by_unit y (Some (holders.Unit k)) e = (λ i. is_by_unit (e i) && not (elim (e i) as (λ h. Bool) [ None ↦ true | Some h ↦ false ])) ∙ ap is_by_unit (sym e)
    by_unit y (Some (holders.Batch c)) e = (λ i. is_by_unit (e i) && not (elim (e i) as (λ h. Bool) [ None ↦ true | Some h ↦ false ])) ∙ ap is_by_unit (sym e)

pub stops_so : (p : Plain) → p.channels.batches ≡ [] → at_rest p ≡ apply_all (Release HeldByUnits true ∷ Leave Nonpersistent ∷ ForgetAll ∷ []) p
stops_so p e = ap (λ bs. apply_all (Release HeldByUnits true ∷ map release_batch bs ++ Leave Nonpersistent ∷ ForgetAll ∷ []) p) e

abbrev no_connections : Users → Users
no_connections u = record u { connections = [] }

stop_told : (m : ℕ) (p r : Plain) (l : Ledger) → IsTold m p l → r.given ≡ p.given → r.definitions ≡ p.definitions → r.connections ≡ [] → r.moment ≡ p.moment → IsTold m r (ledgers.stop m l)
stop_told m p r l t given definitions connections moment =
    let f : ManagerPlaces → ManagerPlaces = λ p. record p { queues = leave_queues (λ (row : Row). is_persistent row.message) p.queues } in
    record {
      places = f t.places;
      placed = here_changed m f l.places t.places t.placed;
      shelved = left_shelved (λ (row : Row). is_persistent row.message) t.places.queues t.shelved;
      name = t.name ∙ ap (λ (g : Given). g.name) (sym given);
      definitions = t.definitions ∙ sym definitions;
      users = no_connections t.users;
      used = here_changed m no_connections l.users t.users t.used;
      connections = ap connections_told (sym connections);
    }

-- to a manager without connections, with these rows
pub rests_to : (m : ℕ) (given : Ident → Bool) (p r : Plain) (l : Ledger) → IsTold m p l → IsFresh given r → r.given ≡ p.given → r.definitions ≡ p.definitions → r.connections ≡ [] → r.moment ≡ p.moment
    → r.channels.senders ≡ p.channels.senders → r.channels.receivers ≡ p.channels.receivers → r.channels.batches ≡ p.channels.batches
    → ((d : List ℕ) → retag bare (rested_rows (λ d. (stored d p).rows) d) ≡ retag bare (stored d r).rows) → Follow m given p l r (ledgers.stop m l)
rests_to m given p r l t fresh g d c mo s re ba rows =
    let k : Ledger = ledgers.stop m l in
    let x : Side = record { rows = rested_rows (λ d. (stored d p).rows); units = λ k. []; given = given } in
    let y : Sheet = record { rows = lasting_of (λ d. ledger_rows m d l); gone = l.gone; got = l.got } in
    let sheet : y ≡ sheet_of m k = λ i. record { rows = λ d. sym (lost_sheet m d (ledgers.with_users m no_connections l)) i; gone = l.gone; got = l.got } in
    record {
      now = given;
      leads = behind m (side_of p given) x (side_of r given) (sheet_of m l) (sheet_of m k) (sheet_of m k)
          (leads_to m (side_of p given) x x (sheet_of m l) y (sheet_of m k) (rests_leads m (side_of p given) (sheet_of m l)) refl sheet)
          (alike_leads m x (side_of r given) (sheet_of m k) rows (λ i k. unit_of (connection_at k (sym c i))) refl);
      fresh = fresh;
      known = λ i e. refl;
      told = stop_told m p r l t g d c mo;
      same = record { given = g; senders = s; receivers = re; batches = ba };
      steady = mo;
      other = else_then m l (ledgers.with_users m no_connections l) k (else_users m no_connections l) (lost_else m (ledgers.with_users m no_connections l));
      kept = users_stay m no_connections l (λ u. record { cut = refl; moment = refl });
    }

pub stop_follows : (m : ℕ) (given : Ident → Bool) (p : Plain) (l : Ledger) (running : Running) → IsFresh given p → IsTold m p l → p.channels.batches ≡ []
    → Follow m given p l (record (apply_all (Release HeldByUnits true ∷ Leave Nonpersistent ∷ ForgetAll ∷ []) p) { running = running }) (ledgers.stop m l)
stop_follows m given p l running f t none =
    rests_to m given p (record (apply_all (Release HeldByUnits true ∷ Leave Nonpersistent ∷ ForgetAll ∷ []) p) { running = running }) l t f refl refl refl refl refl refl (sym none)
    (λ d. ap (retag bare) (sym (stopped_rows p d)))

-- A restart: what lasts, numbered anew.

pub numbered_bare : (n : ℕ) (xs : List Row) → retag bare (numbered n xs) ≡ retag bare xs
numbered_bare n [] = refl
numbered_bare n (x ∷ xs) = ap (λ (ys : List Row). bare x ∷ ys) (numbered_bare (n + 1) xs)

freed_lasts : (t : Bool) (x : Row) → is_persistent (release_if t true x).message ≡ is_persistent x.message
freed_lasts true x = refl
freed_lasts false x = refl

lasting_bare : (x : Row) (o : Option Holder) → x.by ≡ o → bare (release_if (is_by_unit x.by) true x) ≡ bare (lasting_row [] x)
lasting_bare x None e = (λ i. bare (release_if (is_by_unit (e i)) true x)) ∙ (λ i. record { place = record { lane = x.place.lane; arrival = 0 }; message = uncounted_message x.message; by = e i })
    ∙ (λ i. record { place = record { lane = x.place.lane; arrival = 0 }; message = uncounted_message x.message; by = rests_by [] (sym e i) })
lasting_bare x (Some (holders.Unit k)) e = (λ i. bare (release_if (is_by_unit (e i)) true x))
    ∙ (λ i. record { place = record { lane = x.place.lane; arrival = 0 }; message = uncounted_message x.message; by = rests_by [] (sym e i) })
lasting_bare x (Some (holders.Batch c)) e = (λ i. bare (release_if (is_by_unit (e i)) true x)) ∙ (λ i. record { place = record { lane = x.place.lane; arrival = 0 }; message = uncounted_message x.message; by = e i })
    ∙ (λ i. record { place = record { lane = x.place.lane; arrival = 0 }; message = uncounted_message x.message; by = rests_by [] (sym e i) })

pub lasting_alike : (xs : List Row) → retag bare (keep (λ y. not (not (is_persistent y.message))) (retag (λ y. release_if (is_by_unit y.by) true y) xs)) ≡ retag bare (lasting_rows [] xs)
lasting_alike [] = refl
lasting_alike (x ∷ xs) =
    let ys : List Row = retag (λ y. release_if (is_by_unit y.by) true y) xs in
    let k : List Row → List Row = keep (λ y. not (not (is_persistent y.message))) in
    let x1 : Row = release_if (is_by_unit x.by) true x in
    ap (λ t. retag bare (if not (not t) then x1 ∷ k ys else k ys)) (freed_lasts (is_by_unit x.by) x)
    ∙ bool_case (is_persistent x.message) (λ t. retag bare (if not (not t) then x1 ∷ k ys else k ys) ≡ retag bare (if t then lasting_row [] x ∷ lasting_rows [] xs else lasting_rows [] xs))
    (λ e. λ i. lasting_bare x x.by refl i ∷ lasting_alike xs i) (λ e. lasting_alike xs)

pub restart_follows : (m : ℕ) (given : Ident → Bool) (q : Plain) (l : Ledger) (started : ℕ) (log : LogState) → IsTold m q l → q.channels.batches ≡ [] → IsFresh given (begun q.given (raised started (lasting q)) log q.moment)
    → Follow m given q l (begun q.given (raised started (lasting q)) log q.moment) (ledgers.stop m l)
restart_follows m given q l started log t none fresh =
    rests_to m given q (begun q.given (raised started (lasting q)) log q.moment) l t fresh refl refl refl refl refl refl (sym none)
    (λ d. lasting_alike (stored d q).rows
    ∙ sym (numbered_bare 0 (lasting_rows [] (stored d q).rows))
    ∙ ap (retag bare) (ap (λ bs. numbered 0 (lasting_rows bs (stored d q).rows)) (sym none) ∙ ap (numbered 0) (sym (rows_lasting d q.channels.batches q.queues)) ∙ sym (rows_begun d (lasting q).shelves)))
