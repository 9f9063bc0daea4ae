-- A stop and a restart of a manager that holds batches: they are released first.
use Rattle.std.proofs.Common.{ℕ, ◌≡◌, ◌≢◌, Bool, true, false, not, List, [], ◌∷◌, ◌++◌, refl, ap, sym, subst, ◌∙◌, inl, inr, map}
use Rattle.std.specs.Prelude.{Option, Some, None, ◌==◌, if◌then◌else◌, ◌&&◌, ◌||◌, slice_get, filter, nat_lt}
use Rattle.std.specs.Str.{bytes_eq}
use Rattle.mq_message.specs.declared.message.Ident.{Ident}
use Rattle.mq_message.specs.declared.place.Holder.{Holder}
use Rattle.mq_message.specs.declared.place.Holder.TheVariants as holders
use Rattle.mq_queue.specs.declared.row.Row.{Row}
use Rattle.mq_queue.specs.Rows.{held_by, is_by_unit, is_free, is_persistent, keep, retag}
use Rattle.mq_history.specs.declared.scenario.Scenario.{Scenario}
use Rattle.mq_calls.specs.State.{Given, LogState, Numbers, Plain, Running}
use Rattle.mq_calls.specs.declared.state.Batch.{Batch}
use Rattle.mq_calls.specs.State.Which.{HeldBy, HeldByUnits, Nonpersistent}
use Rattle.mq_calls.specs.State.Change.{ForgetAll, Leave, Release}
use Rattle.mq_calls.specs.Reads.{batch_of, in_doubt_of, sender_data, stored}
use Rattle.mq_calls.specs.Changes.{apply, apply_all, release_if}
use Rattle.mq_calls.specs.Images.{begun, has_batch, lasting, lasting_row, lasting_rows, numbered, raised}
use Rattle.mq_spec_manager.specs.Stops.{at_rest, release_batch}
use Rattle.mq_law_events.specs.from_spec_network.Ledger as ledgers
use Rattle.mq_law_events.specs.from_spec_network.Ledger.{Ledger, change_at}
use Rattle.mq_law_events.specs.from_spec_network.Story.{Mem}
use Rattle.mq_law_events.specs.from_law_rows.World.{Book, Ghost, Inv, World}
use Rattle.mq_law_events.specs.from_law_rows.Kinds.{after, freed}
use Rattle.mq_law_events.proofs.from_law_rows.Lists.{bool_case, eqb_yes, name_self, true_false}
use Rattle.mq_law_events.proofs.from_law_seen.Bridges.{name_back}
use Rattle.mq_law_events.specs.from_law_seen.Seen.{book_of, doubt_of, holds_of, last_of, rows_of, units_of, world_of}
use Rattle.mq_law_events.proofs.from_law_manager.Named.{batch_dropped}
use Rattle.mq_law_events.proofs.from_law_manager.Numbered.{rows_begun}
use Rattle.mq_law_events.proofs.from_law_manager.Restarting.{rows_lasting}
use Rattle.mq_law_events.proofs.from_law_manager.Units.{behind}
use Rattle.mq_law_events.specs.Tied.{Follow, IsFresh, IsNext, IsTold}
use Rattle.mq_law_events.proofs.Getting.{none_behind}
use Rattle.mq_law_events.proofs.Putting.{rows_after}
use Rattle.mq_law_events.proofs.Stepping.{follows_on}
use Rattle.mq_law_events.proofs.Stopping.{bare, lasting_alike, numbered_bare, rested_rows, rests_to}
use Rattle.mq_law_events.proofs.Taking.{told_alike}
use Rattle.mq_law_events.proofs.Telling.{else_changed, here_changed}
use Rattle.mq_law_batches.specs.Releases.{AreUnprepared, let_go, release_changes, Rested, Stands}
use Rattle.mq_law_batches.proofs.Releasing.{batch_freed, last_here, lasts, released_rows, releases, retag_alike}

-- All batches one after the other

-- the same managers at each place
same_world : (s : Scenario) (given : Ident → Bool) (m : ℕ) (p : Plain) (ps qs : List Plain) → IsNext m p p ps qs → world_of s given ps ≡ world_of s given qs
same_world s given m p ps qs n = λ i. record {
  rows = λ a d. rows_of d (at a i);
  units = λ a k. units_of k (at a i);
  given = given;
  holds = λ a c. holds_of c (at a i);
  doubt = λ a c. doubt_of c (at a i);
  last = λ a c. sym (lasts s m p p ps qs c a n (record { given = refl; receivers = λ c. refl })) i;
}
  where
    at : (a : ℕ) → slice_get ps a ≡ slice_get qs a
    at a = bool_case (a == m) (λ t. (a == m) ≡ t → slice_get ps a ≡ slice_get qs a) (λ z w. let is : a ≡ m = eqb_yes a m w in (ap (slice_get ps) is ∙ n.at) ∙ sym (ap (slice_get qs) is ∙ n.to)) (λ z w. sym (n.others a w)) refl

kept_batch : (t : Bool) (o : Option Batch) (b : Batch) → (if t then None else o) ≡ Some b → o ≡ Some b
kept_batch true o b e = absurd cc
kept_batch false o b e = e

all_release : (bs : List Batch) (s : Scenario) (given : Ident → Bool) (m : ℕ) (p : Plain) (ps qs : List Plain) (g : Ghost) (k : Book) → IsNext m p (let_go bs p) ps qs → ((b : Batch) → Mem b bs → in_doubt_of (sender_data b.channel p) ≡ None)
    → ((c : List ℕ) (b : Batch) → batch_of c p.channels.batches ≡ Some b → last_of s ps c (Some p) ≢ b.unit) → Inv (world_of s given ps) g k → Stands s given qs g k
all_release [] s given m p ps qs g k n alone apart h = record { ghost = g; sent = refl; source = refl; operated = refl; loose = refl; inv = subst (λ (w : World). Inv w g k) (same_world s given m p ps qs n) h }
all_release (b ∷ bs) s given m p ps qs g k n alone apart h =
    let one : Plain = apply_all (release_changes b.channel) p in
    let mid : List Plain = change_at m (λ x. one) ps in
    let n1 : IsNext m p one ps mid = record { at = n.at; to = here_changed m (λ x. one) ps p n.at; others = λ a e. else_changed m a (λ x. one) ps e } in
    let n2 : IsNext m one (let_go bs one) mid qs = record { at = n1.to; to = n.to; others = λ a e. n.others a e ∙ sym (n1.others a e) } in
    let rest = all_release bs s given m one mid qs (after g (freed g m b.channel)) k n2 (λ x i. alone x (inr i))
    (λ c x e f. apart c x (kept_batch (bytes_eq c b.channel) (batch_of c p.channels.batches) x (sym (batch_dropped c b.channel p.channels.batches) ∙ e)) (sym (last_here s m p one ps mid c n1 (record { given = refl; receivers = λ c. refl })) ∙ f))
    (releases s given m p ps mid b.channel g k n1 (alone b (inl refl)) (λ x e. apart b.channel x e) h) in
    record { ghost = rest.ghost; sent = rest.sent; source = rest.source; operated = rest.operated; loose = rest.loose; inv = rest.inv }

-- What stays of the manager

record IsLet (p r : Plain) : Type 0 where
  given : r.given ≡ p.given
  definitions : r.definitions ≡ p.definitions
  connections : r.connections ≡ p.connections
  senders : r.channels.senders ≡ p.channels.senders
  receivers : r.channels.receivers ≡ p.channels.receivers
  moment : r.moment ≡ p.moment
  numbers : r.numbers ≡ p.numbers

let_stays : (bs : List Batch) (p : Plain) → IsLet p (let_go bs p)
let_stays [] p = record { given = refl; definitions = refl; connections = refl; senders = refl; receivers = refl; moment = refl; numbers = refl }
let_stays (b ∷ bs) p =
    let r = let_stays bs (apply_all (release_changes b.channel) p) in
    record { given = r.given; definitions = r.definitions; connections = r.connections; senders = r.senders; receivers = r.receivers; moment = r.moment; numbers = r.numbers }

filter_mem : (c : List ℕ) (bs : List Batch) (x : Batch) → Mem x (filter (λ (b : Batch). not (bytes_eq c b.channel)) bs) → Mem x bs × (bytes_eq c x.channel ≡ false)
filter_mem c [] x n = absurd n
filter_mem c (b ∷ bs) x n = bool_case (bytes_eq c b.channel)
    (λ t. bytes_eq c b.channel ≡ t → Mem x (if not t then b ∷ filter (λ (b : Batch). not (bytes_eq c b.channel)) bs else filter (λ (b : Batch). not (bytes_eq c b.channel)) bs) → Mem x (b ∷ bs) × (bytes_eq c x.channel ≡ false))
    (λ z w k. let r = filter_mem c bs x k in (inr r.0, r.1))
    (λ z w k. elim k [ inl e ↦ (inl e, ap (λ (y : Batch). bytes_eq c y.channel) e ∙ w) | inr j ↦ let r = filter_mem c bs x j in (inr r.0, r.1) ]) refl n

none_of_all : (xs : List Batch) → ((x : Batch) → Mem x xs → ⊥) → xs ≡ []
none_of_all [] f = refl
none_of_all (x ∷ xs) f = absurd (f x (inl refl))

let_none : (bs : List Batch) (p : Plain) → ((x : Batch) → Mem x p.channels.batches → Mem x bs) → (let_go bs p).channels.batches ≡ []
let_none [] p sub = none_of_all p.channels.batches sub
let_none (b ∷ bs) p sub = let_none bs (apply_all (release_changes b.channel) p) (λ x n. let r = filter_mem b.channel p.channels.batches x n in elim (sub x r.0) [
  | inl e ↦ absurd (true_false (sym (name_self b.channel) ∙ sym (ap (λ (y : Batch). bytes_eq b.channel y.channel) e) ∙ r.1))
  | inr j ↦ j
])

-- Rows

abbrev rel_all : List Batch → List Row → List Row
rel_all [] xs = xs
rel_all (b ∷ bs) xs = rel_all bs (retag (batch_freed b.channel) xs)

let_rows : (bs : List Batch) (p : Plain) (d : List ℕ) → (stored d (let_go bs p)).rows ≡ rel_all bs (stored d p).rows
let_rows [] p d = refl
let_rows (b ∷ bs) p d = let_rows bs (apply_all (release_changes b.channel) p) d ∙ ap (rel_all bs) (released_rows b.channel d p)

bulk_rows : (bs : List Batch) (p : Plain) (d : List ℕ) → (stored d (apply_all (map release_batch bs) p)).rows ≡ rel_all bs (stored d p).rows
bulk_rows [] p d = refl
bulk_rows (b ∷ bs) p d = bulk_rows bs (apply (Release (HeldBy (holders.Batch b.channel)) false) p) d ∙ ap (rel_all bs) (released_rows b.channel d p)

abbrev unit_freed : Row → Row
unit_freed y = release_if (is_by_unit y.by) true y

retag_both : (f g h k : Row → Row) (xs : List Row) → ((x : Row) → f (g x) ≡ h (k x)) → retag f (retag g xs) ≡ retag h (retag k xs)
retag_both f g h k [] same = refl
retag_both f g h k (x ∷ xs) same = λ i. same x i ∷ retag_both f g h k xs same i

free_apart : (c : List ℕ) (x : Row) → unit_freed (batch_freed c x) ≡ batch_freed c (unit_freed x)
free_apart c x = by_holder x.by
  where
    by_holder : (o : Option Holder) → unit_freed (batch_freed c (record x { by = o })) ≡ batch_freed c (unit_freed (record x { by = o }))
    by_holder None = refl
    by_holder (Some (holders.Unit n)) = refl
    by_holder (Some (holders.Batch e)) =
        let y : Row = record x { by = Some (holders.Batch e) } in
        bool_case (held_by (holders.Batch c) (Some (holders.Batch e))) (λ t. unit_freed (release_if t false y) ≡ release_if t false y) (λ z. refl) (λ z. refl)

all_apart : (bs : List Batch) (xs : List Row) → retag unit_freed (rel_all bs xs) ≡ rel_all bs (retag unit_freed xs)
all_apart [] xs = refl
all_apart (b ∷ bs) xs = all_apart bs (retag (batch_freed b.channel) xs) ∙ ap (rel_all bs) (retag_both unit_freed (batch_freed b.channel) (batch_freed b.channel) unit_freed xs (free_apart b.channel))

units_rows : (p : Plain) (d : List ℕ) → (stored d (apply (Release HeldByUnits true) p)).rows ≡ retag unit_freed (stored d p).rows
units_rows p d = rows_after (Release HeldByUnits true) p d tt ∙ retag_alike _ unit_freed (stored d p).rows (λ x. by_holder x x.by)
  where
    by_holder : (x : Row) (o : Option Holder) → release_if (is_by_unit o && not (is_free (record x { by = o }))) true (record x { by = o }) ≡ unit_freed (record x { by = o })
    by_holder x None = refl
    by_holder x (Some (holders.Unit n)) = refl
    by_holder x (Some (holders.Batch c)) = refl

abbrev persists : Row → Bool
persists y = not (not (is_persistent y.message))

rest_rows : (p : Plain) (d : List ℕ) → rested_rows (λ d. (stored d (let_go p.channels.batches p)).rows) d ≡ (stored d (at_rest p)).rows
rest_rows p d =
    let bs : List Batch = p.channels.batches in
    let p0 : Plain = apply (Release HeldByUnits true) p in
    let p1 : Plain = apply_all (map release_batch bs) p0 in
    ap (λ xs. keep persists (retag unit_freed xs)) (let_rows bs p d)
    ∙ ap (keep persists) (all_apart bs (stored d p).rows ∙ ap (rel_all bs) (sym (units_rows p d)) ∙ sym (bulk_rows bs p0 d))
    ∙ sym (rows_after (Leave Nonpersistent) p1 d tt)
    ∙ sym (rows_after ForgetAll (apply (Leave Nonpersistent) p1) d tt)
    ∙ ap (λ (q : Plain). (stored d q).rows) (sym (behind (map release_batch bs) (Leave Nonpersistent ∷ ForgetAll ∷ []) p0))

-- What a stop leaves beside rows

bulk_stays : (bs : List Batch) (p : Plain) → IsLet p (apply_all (map release_batch bs) p)
bulk_stays [] p = record { given = refl; definitions = refl; connections = refl; senders = refl; receivers = refl; moment = refl; numbers = refl }
bulk_stays (b ∷ bs) p =
    let r = bulk_stays bs (apply (Release (HeldBy (holders.Batch b.channel)) false) p) in
    record { given = r.given; definitions = r.definitions; connections = r.connections; senders = r.senders; receivers = r.receivers; moment = r.moment; numbers = r.numbers }

pub record IsRest (p r : Plain) : Type 0 where
  pub given : r.given ≡ p.given
  pub definitions : r.definitions ≡ p.definitions
  pub connections : r.connections ≡ []
  pub senders : r.channels.senders ≡ p.channels.senders
  pub receivers : r.channels.receivers ≡ p.channels.receivers
  pub batches : r.channels.batches ≡ []
  pub moment : r.moment ≡ p.moment
  pub numbers : r.numbers ≡ p.numbers

pub rest_stays : (p : Plain) → IsRest p (at_rest p)
rest_stays p =
    let p0 : Plain = apply (Release HeldByUnits true) p in
    let r = bulk_stays p.channels.batches p0 in
    subst (λ (q : Plain). IsRest p q) (sym (behind (map release_batch p.channels.batches) (Leave Nonpersistent ∷ ForgetAll ∷ []) p0))
    (record { given = r.given; definitions = r.definitions; connections = refl; senders = r.senders; receivers = r.receivers; batches = refl; moment = r.moment; numbers = r.numbers })

-- The whole

told_let : (m : ℕ) (p r : Plain) (l : Ledger) → IsLet p r → IsTold m p l → IsTold m r l
told_let m p r l k t = told_alike m p r l k.given k.definitions k.connections t

-- to a manager without connections or batches, by way of one that has released them
rests : (s : Scenario) (given : Ident → Bool) (m : ℕ) (p q : Plain) (ps qs : List Plain) (l : Ledger) (g : Ghost) → IsNext m p q ps qs → IsTold m p l → IsFresh given q → IsRest p (record q { numbers = p.numbers }) → AreUnprepared s ps p
    → ((d : List ℕ) → retag bare (rested_rows (λ d. (stored d (let_go p.channels.batches p)).rows) d) ≡ retag bare (stored d q).rows) → Inv (world_of s given ps) g (book_of l) → Rested s given m p q qs g l
rests s given m p q ps qs l g n t fresh k apart rows h =
    let bs : List Batch = p.channels.batches in
    let r : Plain = let_go bs p in
    let stay : IsLet p r = let_stays bs p in
    let mid : List Plain = change_at m (λ x. r) ps in
    let n1 : IsNext m p r ps mid = record { at = n.at; to = here_changed m (λ x. r) ps p n.at; others = λ a e. else_changed m a (λ x. r) ps e } in
    let n2 : IsNext m r q mid qs = record { at = n1.to; to = n.to; others = λ a e. n.others a e ∙ sym (n1.others a e) } in
    let a = all_release bs s given m p ps mid g (book_of l) n1 apart.alone apart.apart h in
    let told : IsTold m r l = told_let m p r l stay t in
    let f : Follow m given r l q (ledgers.stop m l) = rests_to m given r q l told fresh (k.given ∙ sym stay.given) (k.definitions ∙ sym stay.definitions) k.connections (k.moment ∙ sym stay.moment) (k.senders ∙ sym stay.senders) (k.receivers ∙ sym stay.receivers)
    (k.batches ∙ sym (let_none bs p (λ x i. i))) rows in
    let moved = follows_on s given m r q mid qs l (ledgers.stop m l) a.ghost n2 told f a.inv in
    record {
      now = f.now;
      known = λ i e. f.known i (ap (λ (x : Given). i.manager == x.number) stay.given ∙ e);
      fresh = f.fresh;
      told = f.told;
      stands = record { ghost = record { sent = a.ghost.sent; source = a.ghost.source; operated = a.ghost.operated; loose = a.ghost.loose; owner = moved.owner }; sent = a.sent; source = a.source; operated = a.operated; loose = a.loose; inv = moved.inv };
    }

pub stops : (s : Scenario) (given : Ident → Bool) (m : ℕ) (p : Plain) (running : Running) (ps qs : List Plain) (l : Ledger) (g : Ghost) → IsNext m p (record (at_rest p) { running = running }) ps qs → IsTold m p l → IsFresh given p → AreUnprepared s ps p
    → Inv (world_of s given ps) g (book_of l) → Rested s given m p (record (at_rest p) { running = running }) qs g l
stops s given m p running ps qs l g n t fresh apart h =
    let k : IsRest p (at_rest p) = rest_stays p in
    rests s given m p (record (at_rest p) { running = running }) ps qs l g n t
    (λ i e. fresh i ((λ j. (i.manager == (sym k.given j).number) && later i (sym k.numbers j)) ∙ e))
    (record { given = k.given; definitions = k.definitions; connections = k.connections; senders = k.senders; receivers = k.receivers; batches = k.batches; moment = k.moment; numbers = refl })
    apart (λ d. ap (retag bare) (rest_rows p d)) h
  where
    later : Ident → Numbers → Bool
    later i n = nat_lt n.incarnation i.incarnation || ((i.incarnation == n.incarnation) && nat_lt n.idents i.number)

-- A restart: what lasts

freed_message : (t : Bool) (x : Row) → is_persistent (release_if t false x).message ≡ is_persistent x.message
freed_message true x = refl
freed_message false x = refl

batch_lasts : (b : Batch) (bs : List Batch) (x : Row) → lasting_row bs (batch_freed b.channel x) ≡ lasting_row (b ∷ bs) x
batch_lasts b bs x = by_holder x.by
  where
    by_holder : (o : Option Holder) → lasting_row bs (batch_freed b.channel (record x { by = o })) ≡ lasting_row (b ∷ bs) (record x { by = o })
    by_holder None = refl
    by_holder (Some (holders.Unit n)) = refl
    by_holder (Some (holders.Batch c)) =
        let y : Row = record x { by = Some (holders.Batch c) } in
        ap (λ t. lasting_row bs (release_if t false y)) (name_back b.channel c)
        ∙ bool_case (bytes_eq c b.channel) (λ t. lasting_row bs (release_if t false y) ≡ record (lasting_row bs y) { by = if (t || has_batch c bs) then None else Some (holders.Batch c) }) (λ z. refl) (λ z. refl)

batch_rows_last : (b : Batch) (bs : List Batch) (xs : List Row) → lasting_rows bs (retag (batch_freed b.channel) xs) ≡ lasting_rows (b ∷ bs) xs
batch_rows_last b bs [] = refl
batch_rows_last b bs (x ∷ xs) =
    ap (λ t. if t then lasting_row bs (batch_freed b.channel x) ∷ lasting_rows bs (retag (batch_freed b.channel) xs) else lasting_rows bs (retag (batch_freed b.channel) xs)) (freed_message (held_by (holders.Batch b.channel) x.by) x)
    ∙ (λ i. if is_persistent x.message then batch_lasts b bs x i ∷ batch_rows_last b bs xs i else batch_rows_last b bs xs i)

all_last : (bs cs : List Batch) (xs : List Row) → lasting_rows cs (rel_all bs xs) ≡ lasting_rows (bs ++ cs) xs
all_last [] cs xs = refl
all_last (b ∷ bs) cs xs = all_last bs cs (retag (batch_freed b.channel) xs) ∙ batch_rows_last b (bs ++ cs) xs

pub restarts : (s : Scenario) (given : Ident → Bool) (m started : ℕ) (p : Plain) (log : LogState) (ps qs : List Plain) (l : Ledger) (g : Ghost) → IsNext m p (begun p.given (raised started (lasting p)) log p.moment) ps qs → IsTold m p l
    → IsFresh given (begun p.given (raised started (lasting p)) log p.moment) → AreUnprepared s ps p → Inv (world_of s given ps) g (book_of l) → Rested s given m p (begun p.given (raised started (lasting p)) log p.moment) qs g l
restarts s given m started p log ps qs l g n t fresh apart h =
    let bs : List Batch = p.channels.batches in
    rests s given m p (begun p.given (raised started (lasting p)) log p.moment) ps qs l g n t fresh
    (record { given = refl; definitions = refl; connections = refl; senders = refl; receivers = refl; batches = refl; moment = refl; numbers = refl }) apart
    (λ d.
    lasting_alike (stored d (let_go bs p)).rows
    ∙ ap (retag bare) (ap (lasting_rows []) (let_rows bs p d) ∙ all_last bs [] (stored d p).rows ∙ ap (λ cs. lasting_rows cs (stored d p).rows) (none_behind bs))
    ∙ sym (numbered_bare 0 (lasting_rows bs (stored d p).rows))
    ∙ ap (retag bare) (ap (numbered 0) (sym (rows_lasting d bs p.queues)) ∙ sym (rows_begun d (lasting p).shelves)))
    h
