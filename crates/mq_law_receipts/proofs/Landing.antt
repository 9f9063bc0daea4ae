-- A batch that lands, message by message: its rows go from where they wait, then each stands where the ledger places it.
use Rattle.std.proofs.Common.{ℕ, ◌≡◌, Bool, true, false, not, List, [], ◌∷◌, ◌++◌, refl, ap, sym, subst, ◌∙◌, length, inl, inr, map}
use Rattle.std.specs.Prelude.{Option, Some, None, Result, Ok, Err, if◌then◌else◌, ◌&&◌, ◌||◌, pos, ℤ}
use Rattle.std.specs.List.{list_any}
use Rattle.std.specs.Str.{bytes_eq}
use Rattle.mq_codes.specs.declared.reason.Reason.{Reason}
use Rattle.mq_message.specs.declared.message.Ident.{Ident}
use Rattle.mq_message.specs.declared.message.Message.{Message}
use Rattle.mq_queue.specs.declared.row.Row.{Row}
use Rattle.mq_queue.specs.Rows.{same_ident, insert_row, keep}
use Rattle.mq_queue.proofs.Edits.{same_turned}
use Rattle.mq_objects.specs.Names.{channel_of, local_of}
use Rattle.mq_objects.specs.declared.object.Definitions.{Definitions}
use Rattle.mq_resolve.specs.declared.route.Route.{Route}
use Rattle.mq_resolve.specs.Resolved.{resolve}
use Rattle.mq_calls.specs.declared.deltas.Did.{Did}
use Rattle.mq_calls.specs.declared.deltas.Did.TheVariants as did
use Rattle.mq_calls.specs.declared.deltas.Why.TheVariants as whys
use Rattle.mq_calls.specs.declared.records.Add.{Add}
use Rattle.mq_sync.specs.declared.unit.Unit.{Unit as Luw}
use Rattle.mq_calls.specs.State.{Given, Plain}
use Rattle.mq_calls.specs.Reads.{is_persistent, stored}
use Rattle.mq_calls.specs.Changes.{apply_all, lane_of, new_row}
use Rattle.mq_calls.specs.Steps.{refusal}
use Rattle.mq_spec_manager.specs.Put.{placed}
use Rattle.mq_spec_manager.specs.Agents.{Standing, Absent, InDoubtAt, Present, standing_at, is_present, drop_changes, drop_did, can_take_dead, dead_or, dead_letter, dead_message, uses_dead, land, land_resolved, land_tested, landing, names_of, route_tests, Landed, nothing_landed, add_of, before, landed_by, landed_unless, landed, land_changes}
use Rattle.mq_spec_manager.specs.Landing.{Landing as Arrival}
use Rattle.mq_spec_network.specs.Ledger as ledgers
use Rattle.mq_spec_network.specs.Ledger.{Ledger, dead_reason, idents_of, is_admitted, move_all, own_row, place_received, places_at, places_or, received_on, take_all_gone, users_at, users_or, when}
use Rattle.mq_spec_network.specs.Promised.{AreDistinct}
use Rattle.mq_spec_network.specs.Story.{Mem}
use Rattle.mq_law_events.specs.from_law_rows.Families.{is_here}
use Rattle.mq_law_events.specs.from_law_rows.World.{LanesRise, mark_of}
use Rattle.mq_law_events.specs.from_law_rows.Kinds.{Landing, among, landing_mark, landing_told, place_all}
use Rattle.mq_law_events.proofs.from_law_rows.Lists.{bool_case, is_false, true_false, same_self, eqb_self, name_yes, keep_all, keep_insert, keep_swap, mem_insert, mem_insert_old, mem_inserted, mem_keep, mem_kept, mem_map, sorted_insert, sorted_keep}
use Rattle.mq_law_events.proofs.from_law_rows.Receiving.{any_mem, mem_any}
use Rattle.mq_law_events.proofs.from_law_seen.Receipts.{landing_at, landing_if, landing_maybe, landings, place_maybe, placing, received_is, routed}
use Rattle.mq_law_manager.specs.Facts.{AreNamed, Sound}
use Rattle.mq_law_manager.specs.Seen.{row_for}
use Rattle.mq_law_manager.proofs.QueueNames.{all_named}
use Rattle.mq_law_manager.proofs.Receiving.{IsLanding, IsStanding, land_is, land_sound, standing_is}
use Rattle.mq_law_manager.proofs.Units.{behind}
use Rattle.mq_law_events.specs.Posting.{IsTimed}
use Rattle.mq_law_events.specs.Tied.{IsTold, connections_told}
use Rattle.mq_law_events.proofs.Putting.{place_told, placed_beside, placed_rows}
use Rattle.mq_law_receipts.specs.Receipts.{Comes, IsShadow}
use Rattle.mq_law_receipts.proofs.Coming.{Goes, IsAside, aside_none, aside_then, beside_aside, comes_on, drop_aside, drop_rows, goes_is, not_present}

-- A message but for its count of backouts

abbrev pub uncounted : Message → Message
uncounted m = record m { md = record m.md { backout_count = pos 0 } }

abbrev pub counted_as : ℤ → Message → Message
counted_as b m = record m { md = record m.md { backout_count = b } }

counted_is : (own m : Message) → uncounted own ≡ uncounted m → own ≡ counted_as own.md.backout_count m
counted_is own m e = ap (counted_as own.md.backout_count) e

-- The ledger places it where the manager does

dead_is_placed : (t : ℕ) (channel : List ℕ) (m : Message) (b : ℤ) (p : Plain) (l : Ledger) (reason : Reason) (x : Arrival) → IsTold t p l → IsTimed t p l → dead_letter channel reason m p ≡ Ok x
    → placing t channel l (counted_as b m) x.dead ≡ Some (record { queue = x.queue; message = counted_as b x.message })
dead_is_placed t channel m b p l reason x told timed e = go (uses_dead (channel_of channel p.definitions) && can_take_dead (local_of p.definitions.manager.dead_letter_queue p.definitions) (length m.body) p) e
  where
    arrival : Arrival
    arrival = record { queue = p.definitions.manager.dead_letter_queue; message = dead_message channel reason m p.moment; dead = Some reason }

    defs : (places_at t l).definitions ≡ p.definitions
    defs = ap (λ o. (places_or o).definitions) told.placed ∙ told.definitions

    moment : (users_at t l).moment ≡ p.moment
    moment = ap (λ o. (users_or o).moment) timed.used ∙ timed.moment

    the : Result Arrival Reason → Arrival
    the (Ok z) = z
    the (Err r) = arrival

    here : placing t channel l (counted_as b m) (Some reason) ≡ Some (record { queue = arrival.queue; message = counted_as b arrival.message })
    here = λ i. Some (record { queue = (defs i).manager.dead_letter_queue; message = dead_message channel reason (counted_as b m) (moment i) })

    go : (z : Bool) → dead_or z channel reason m p ≡ Ok x → placing t channel l (counted_as b m) x.dead ≡ Some (record { queue = x.queue; message = counted_as b x.message })
    go false f = absurd cc
    go true f = let is : arrival ≡ x = ap the f in subst (λ (z : Arrival). placing t channel l (counted_as b m) z.dead ≡ Some (record { queue = z.queue; message = counted_as b z.message })) is here

is_placed : (t : ℕ) (channel : List ℕ) (m : Message) (b : ℤ) (p : Plain) (l : Ledger) (x : Arrival) → IsTold t p l → IsTimed t p l → land channel m p ≡ Ok x
    → placing t channel l (counted_as b m) x.dead ≡ Some (record { queue = x.queue; message = counted_as b x.message })
is_placed t channel m b p l x told timed e = go (resolve p.definitions p.given.name (names_of m.route).queue (names_of m.route).qmgr) refl e
  where
    resolved : ledgers.resolved_at t (names_of m.route).queue (names_of m.route).qmgr l ≡ resolve p.definitions p.given.name (names_of m.route).queue (names_of m.route).qmgr
    resolved = (λ i. resolve (places_or (told.placed i)).definitions (places_or (told.placed i)).name (names_of m.route).queue (names_of m.route).qmgr) ∙ (λ i. resolve (told.definitions i) (told.name i) (names_of m.route).queue (names_of m.route).qmgr)

    the : Arrival → Result Arrival Reason → Arrival
    the y (Ok z) = z
    the y (Err r) = y

    tested : (route : Route) (o : Option Reason) → resolve p.definitions p.given.name (names_of m.route).queue (names_of m.route).qmgr ≡ Ok route → land_tested o route channel m p ≡ Ok x
        → placing t channel l (counted_as b m) x.dead ≡ Some (record { queue = x.queue; message = counted_as b x.message })
    tested route None r f =
        let is : landing route m ≡ x = ap (the (landing route m)) f in
        subst (λ (z : Arrival). placing t channel l (counted_as b m) z.dead ≡ Some (record { queue = z.queue; message = counted_as b z.message })) is (ap (routed (counted_as b m)) (resolved ∙ r))
    tested route (Some reason) r f = dead_is_placed t channel m b p l reason x told timed f

    go : (o : Result Route Reason) → resolve p.definitions p.given.name (names_of m.route).queue (names_of m.route).qmgr ≡ o → land_resolved o channel m p ≡ Ok x
        → placing t channel l (counted_as b m) x.dead ≡ Some (record { queue = x.queue; message = counted_as b x.message })
    go (Err reason) r f = dead_is_placed t channel m b p l reason x told timed f
    go (Ok route) r f = tested route (refusal (route_tests route (length m.body) p)) r f

-- What a delta tells of it

drop_told : (i : Ident) (m : Message) (s : Standing) (ds : List Did) → dead_reason i (drop_did m s ++ ds) ≡ dead_reason i ds
drop_told i m Absent ds = refl
drop_told i m Present ds = refl
drop_told i m (InDoubtAt q) ds = refl

-- what the ledger takes, moves and receives by a delta is by what stands behind a landing
pub record IsStill (ds : List Did) : Type 0 where
  pub takes : (t : ℕ) (rest : List Did) (l : Ledger) → take_all_gone t (ds ++ rest) l ≡ take_all_gone t rest l
  pub moves : (t : ℕ) (rest : List Did) (l : Ledger) → move_all t (ds ++ rest) l ≡ move_all t rest l
  pub receives : (rest : List Did) → received_on (ds ++ rest) ≡ received_on rest

still_one : (m : Message) (s : Standing) (q : List ℕ) (i : Ident) (dead : Option Reason) (ds : List Did) → IsStill ds → IsStill (drop_did m s ++ did.Placed q i dead ∷ ds)
still_one m Absent q i dead ds k = record { takes = k.takes; moves = k.moves; receives = k.receives }
still_one m Present q i dead ds k = record { takes = k.takes; moves = k.moves; receives = k.receives }
still_one m (InDoubtAt from) q i dead ds k = record { takes = k.takes; moves = k.moves; receives = k.receives }

-- and it tells nothing but what came back and what was placed
abbrev pub is_landed : Did → Bool
is_landed (did.Placed queue ident dead) = true
is_landed (did.Removed queue ident whys.CameBack) = true
is_landed _ = false

abbrev pub all_landed : List Did → Bool
all_landed [] = true
all_landed (d ∷ ds) = is_landed d && all_landed ds

pub plain_one : (m : Message) (s : Standing) (q : List ℕ) (i : Ident) (dead : Option Reason) (ds : List Did) → all_landed ds ≡ true → all_landed (drop_did m s ++ did.Placed q i dead ∷ ds) ≡ true
plain_one m Absent q i dead ds e = e
plain_one m Present q i dead ds e = e
plain_one m (InDoubtAt from) q i dead ds e = e

-- a message that lasts is among the rows of the record
abbrev pub has_add : Ident → List Add → Bool
has_add i adds = list_any (λ (a : Add). same_ident i a.message.ident) adds

or_true : (a b : Bool) → b ≡ true → (a || b) ≡ true
or_true true b e = refl
or_true false b e = e

add_first : (i : Ident) (l : Arrival) (adds : List Add) → is_persistent l.message ≡ true → l.message.ident ≡ i → has_add i (add_of l ++ adds) ≡ true
add_first i l adds e is = ap (λ b. has_add i ((if b then record { queue = l.queue; message = l.message } ∷ [] else []) ++ adds)) e ∙ ap (λ b. b || has_add i adds) (ap (same_ident i) is ∙ same_self i)

add_behind : (i : Ident) (l : Arrival) (adds : List Add) → has_add i adds ≡ true → has_add i (add_of l ++ adds) ≡ true
add_behind i l adds e = bool_case (is_persistent l.message) (λ b. has_add i ((if b then record { queue = l.queue; message = l.message } ∷ [] else []) ++ adds) ≡ true) (λ z. or_true (same_ident i l.message.ident) (has_add i adds) e) (λ z. e)

-- a landing's reason is told by its own entry
pub dead_behind : (channel : List ℕ) (u : Luw) (i : Ident) (ds : List Did) → dead_reason i (ds ++ did.Received channel u ∷ []) ≡ dead_reason i ds
dead_behind channel u i [] = refl
dead_behind channel u i (did.Placed queue other dead ∷ ds) = ap (λ o. if same_ident i other then dead else o) (dead_behind channel u i ds)
dead_behind channel u i (did.Removed queue ident why ∷ ds) = dead_behind channel u i ds
dead_behind channel u i (did.Moved from ident to target bare ∷ ds) = dead_behind channel u i ds
dead_behind channel u i (did.Held queue ident by ∷ ds) = dead_behind channel u i ds
dead_behind channel u i (did.Released queue ident ∷ ds) = dead_behind channel u i ds
dead_behind channel u i (did.Hardened c note ∷ ds) = dead_behind channel u i ds
dead_behind channel u i (did.Prepared c unit ∷ ds) = dead_behind channel u i ds
dead_behind channel u i (did.Received c unit ∷ ds) = dead_behind channel u i ds

-- A batch

-- the ledger places it, its own where it has it
pub record IsOwn (first : Ledger) (y : Message) : Type 0 where
  pub admitted : is_admitted first y ≡ true
  pub own : uncounted (own_row first y) ≡ uncounted y

pub record Lands (t : ℕ) (channel : List ℕ) (p : Plain) (ms : List Message) (x : Landed) : Type 0 where
  pub lands : List Landing
  pub rows : (d : List ℕ) → (stored d (apply_all x.changes p)).rows ≡ place_all t lands t d (keep (λ h. not (among (idents_of ms) h.message.ident)) (stored d p).rows)
  pub marks : map landing_mark lands ≡ map mark_of ms
  pub free : (k : Landing) → Mem k lands → k.row.by ≡ None
  pub taken : x.taken ≡ ms
  pub aside : IsAside p (apply_all x.changes p)
  pub still : IsStill x.delta
  pub plain : all_landed x.delta ≡ true
  pub added : (y : Message) → Mem y ms → is_persistent y ≡ true → has_add y.ident x.adds ≡ true
  pub told : (ds : List Did) (first l : Ledger) → ((y : Message) → Mem y ms → dead_reason y.ident ds ≡ dead_reason y.ident x.delta) → IsTold t p l → IsTimed t p l → ((y : Message) → Mem y ms → IsOwn first y)
      → map landing_told (landings t channel ds first l ms) ≡ map landing_told lands

none_lands : (t : ℕ) (channel : List ℕ) (p : Plain) → Lands t channel p [] nothing_landed
none_lands t channel p = record {
  lands = [];
  rows = λ d. sym (keep_all (λ h. true) (stored d p).rows (λ x n. refl));
  marks = refl;
  free = λ k n. absurd n;
  taken = refl;
  aside = aside_none p;
  still = record { takes = λ t rest l. refl; moves = λ t rest l. refl; receives = λ rest. refl };
  plain = refl;
  added = λ y n e. absurd n;
  told = λ ds first l deads told timed own. refl;
}

-- one test behind another
both : (a b : Bool) → (not (a || false) && not b) ≡ (not (a || b) && true)
both true b = refl
both false true = refl
both false false = refl

keep_both : (i : Ident) (is : List Ident) (xs : List Row) → keep (λ h. not (among is h.message.ident)) (keep (λ h. not (among (i ∷ []) h.message.ident)) xs) ≡ keep (λ h. not (among (i ∷ is) h.message.ident)) xs
keep_both i is xs = keep_swap (λ h. not (among (i ∷ is) h.message.ident)) (λ h. not (among is h.message.ident)) (λ h. not (among (i ∷ []) h.message.ident)) (λ h. true) xs (λ x n. both (same_ident x.message.ident i) (among is x.message.ident))
    ∙ keep_all (λ h. true) _ (λ x n. refl)

-- the first of a batch lands
one_row : (t : ℕ) (l : Arrival) (s : Standing) (p : Plain) → Goes s l.message.ident p → (d : List ℕ)
    → (stored d (apply_all (land_changes l s) p)).rows
    ≡ (if is_here t l.queue t d then insert_row (row_for l.queue l.message (apply_all (drop_changes l.message s) p)) (keep (λ h. not (among (l.message.ident ∷ []) h.message.ident)) (stored d p).rows)
    else keep (λ h. not (among (l.message.ident ∷ []) h.message.ident)) (stored d p).rows)
one_row t l s p goes d =
    let q : Plain = apply_all (drop_changes l.message s) p in
    let row : Row = row_for l.queue l.message q in
    let T : Row → Bool = λ h. not (among (l.message.ident ∷ []) h.message.ident) in
    ap (λ (r : Plain). (stored d r).rows) (behind (drop_changes l.message s) (placed l.queue l.message) p)
    ∙ placed_rows l.queue l.message q d
    ∙ (λ i. if bytes_eq d l.queue then insert_row row (drop_rows l.message s p goes l.queue i) else drop_rows l.message s p goes d i)
    ∙ bool_case (bytes_eq d l.queue) (λ z. bytes_eq d l.queue ≡ z → (if z then insert_row row (keep T (stored l.queue p).rows) else keep T (stored d p).rows) ≡ (if z then insert_row row (keep T (stored d p).rows) else keep T (stored d p).rows))
    (λ z w. ap (λ n. insert_row row (keep T (stored n p).rows)) (sym (name_yes d l.queue w))) (λ z w. refl) refl
    ∙ ap (λ z. if z && bytes_eq d l.queue then insert_row row (keep T (stored d p).rows) else keep T (stored d p).rows) (sym (eqb_self t))

pub push_keep : (T : Row → Bool) (z : Bool) (row : Row) (xs : List Row) → LanesRise xs → T row ≡ true → keep T (if z then insert_row row xs else xs) ≡ (if z then insert_row row (keep T xs) else keep T xs)
push_keep T true row xs rise e = keep_insert T row xs rise e
push_keep T false row xs rise e = refl

mem_if : (z : Bool) (row h : Row) (xs : List Row) → Mem h (if z then insert_row row xs else xs) → (h.message.ident ≡ row.message.ident → ⊥) → Mem h xs
mem_if true row h xs n no_ = elim (mem_insert h row xs n) [ inl e ↦ absurd (no_ (ap (λ (x : Row). x.message.ident) e)) | inr k ↦ k ]
mem_if false row h xs n no_ = n

pub rise_if : (z : Bool) (row : Row) (xs : List Row) → LanesRise xs → LanesRise (if z then insert_row row xs else xs)
rise_if true row xs r = sorted_insert row xs r
rise_if false row xs r = r

pub shadow_self : (p : Plain) → IsShadow p p
shadow_self p = record { given = refl; definitions = refl; connections = refl; moment = refl; rows = λ d h n. (h, n, refl) }

shadow_goes : (s : Standing) (i : Ident) (b p : Plain) → IsShadow b p → Goes s i b → Goes s i p
shadow_goes s i b p k goes d h n e = let o = k.rows d h n in goes d o.0 o.1 (o.2 ∙ e)

land_aside : (l : Arrival) (s : Standing) (p : Plain) → IsAside p (apply_all (land_changes l s) p)
land_aside l s p =
    let p1 : Plain = apply_all (drop_changes l.message s) p in
    subst (λ (z : Plain). IsAside p z) (sym (behind (drop_changes l.message s) (placed l.queue l.message) p)) (aside_then p p1 _ (drop_aside l.message s p) (beside_aside p1 _ (placed_beside l.queue l.message p1)))

abbrev ShadowRows : List Row → List Row → Type 0
ShadowRows xs ys = (h : Row) → Mem h ys → (k : Row) × Mem k xs × (k.message.ident ≡ h.message.ident)

shadow_if : (z : Bool) (a c : Row) (xs ys : List Row) → a.message.ident ≡ c.message.ident → ShadowRows xs ys → ShadowRows (if z then insert_row a xs else xs) (if z then insert_row c ys else ys)
shadow_if true a c xs ys same f h n = elim (mem_insert h c ys n) [
  | inl e ↦ (a, mem_inserted a xs, same ∙ sym (ap (λ (r : Row). r.message.ident) e))
  | inr k ↦ let o = f h k in (o.0, mem_insert_old o.0 a xs o.1, o.2)
]
shadow_if false a c xs ys same f h n = f h n

shadow_keep : (i : Ident) (xs ys : List Row) → ShadowRows xs ys → ShadowRows (keep (λ h. not (among (i ∷ []) h.message.ident)) xs) (keep (λ h. not (among (i ∷ []) h.message.ident)) ys)
shadow_keep i xs ys f h n =
    let e = mem_keep (λ (x : Row). not (among (i ∷ []) x.message.ident)) h ys n in
    let o = f h e.0 in
    (o.0, mem_kept (λ (x : Row). not (among (i ∷ []) x.message.ident)) o.0 xs o.1 (ap (λ j. not (among (i ∷ []) j)) o.2 ∙ e.1), o.2)

shadow_on : (t : ℕ) (l : Arrival) (s : Standing) (b p : Plain) → IsShadow b p → Goes s l.message.ident b → IsShadow (apply_all (land_changes l s) b) (apply_all (land_changes l s) p)
shadow_on t l s b p k goes =
    let x = land_aside l s b in
    let y = land_aside l s p in
    let i : Ident = l.message.ident in
    let rb : Row = row_for l.queue l.message (apply_all (drop_changes l.message s) b) in
    let rp : Row = row_for l.queue l.message (apply_all (drop_changes l.message s) p) in
    record {
      given = y.given ∙ k.given ∙ sym x.given;
      definitions = y.definitions ∙ k.definitions ∙ sym x.definitions;
      connections = y.connections ∙ k.connections ∙ sym x.connections;
      moment = y.moment ∙ k.moment ∙ sym x.moment;
      rows = λ d h n.
          let xs : List Row = (stored d b).rows in
          let ys : List Row = (stored d p).rows in
          let o = shadow_if (is_here t l.queue t d) rb rp (keep (λ z. not (among (i ∷ []) z.message.ident)) xs) (keep (λ z. not (among (i ∷ []) z.message.ident)) ys) refl (shadow_keep i xs ys (k.rows d)) h
          (subst (λ zs. Mem h zs) (one_row t l s p (shadow_goes s i b p k goes) d) n) in
          (o.0, subst (λ zs. Mem o.0 zs) (sym (one_row t l s b goes d)) o.1, o.2);
    }

shadow_told : (t : ℕ) (b p : Plain) (l : Ledger) → IsShadow b p → IsTold t p l → IsTold t b l
shadow_told t b p l k told = record {
  places = told.places;
  placed = told.placed;
  name = told.name ∙ ap (λ (g : Given). g.name) k.given;
  definitions = told.definitions ∙ k.definitions;
  shelved = told.shelved;
  users = told.users;
  used = told.used;
  connections = told.connections ∙ ap connections_told k.connections;
}

-- what all that land behind it bring
abbrev pub AllBehind : ℕ → List ℕ → List Message → Type 0
AllBehind t channel ms = (b q : Plain) (r : Landed) → landed channel ms b ≡ Ok r → Sound b → AreNamed b.queues → IsShadow b q → ((d : List ℕ) → LanesRise (stored d q).rows) → ((y : Message) → Mem y ms → Comes b y) → Lands t channel q ms r

mem_ident : (y : Message) (ms : List Message) → Mem y ms → Mem y.ident (idents_of ms)
mem_ident y ms n = mem_map (λ (m : Message). m.ident) y ms n

abbrev pub behind_one : Message → Arrival → Standing → Landed → Landed
behind_one m l s r = record {
  changes = land_changes l s ++ r.changes;
  adds = add_of l ++ r.adds;
  delta = drop_did l.message s ++ did.Placed l.queue l.message.ident l.dead ∷ r.delta;
  taken = m ∷ r.taken;
}

one_lands : (t : ℕ) (channel : List ℕ) (m : Message) (ms : List Message) (b p : Plain) (l : Arrival) (s : Standing) (r : Landed) → land channel m b ≡ Ok l → IsLanding m b (Ok l) → IsStanding s m.ident b → is_present s ≡ false → Sound b → AreNamed b.queues
    → IsShadow b p → ((d : List ℕ) → LanesRise (stored d p).rows) → AreDistinct (idents_of (m ∷ ms)) → ((y : Message) → Mem y (m ∷ ms) → Comes b y) → AllBehind t channel ms → landed channel ms (apply_all (land_changes l s) b) ≡ Ok r
    → Lands t channel p (m ∷ ms) (behind_one m l s r)
one_lands t channel m ms b p l s r lands is st free sound names shadow rise once comes all e =
    let q : Plain = apply_all (land_changes l s) p in
    let qb : Plain = apply_all (land_changes l s) b in
    let p1 : Plain = apply_all (drop_changes l.message s) p in
    let st_l : IsStanding s l.message.ident b = subst (λ (i : Ident). IsStanding s i b) (sym is.0) st in
    let goes_b : Goes s l.message.ident b = goes_is l.message.ident s b sound st_l free in
    let goes_p : Goes s l.message.ident p = shadow_goes s l.message.ident b p shadow goes_b in
    let row : Row = row_for l.queue l.message p1 in
    let row_b : Row = row_for l.queue l.message (apply_all (drop_changes l.message s) b) in
    let ids : List Ident = idents_of ms in
    let S : Row → Bool = λ h. not (among (l.message.ident ∷ []) h.message.ident) in
    let T : Row → Bool = λ h. not (among ids h.message.ident) in
    let rows_q : (d : List ℕ) → (stored d q).rows ≡ (if is_here t l.queue t d then insert_row row (keep S (stored d p).rows) else keep S (stored d p).rows) = one_row t l s p goes_p in
    let rows_b : (d : List ℕ) → (stored d qb).rows ≡ (if is_here t l.queue t d then insert_row row_b (keep S (stored d b).rows) else keep S (stored d b).rows) = one_row t l s b goes_b in
    let first : IsAside p p1 = drop_aside l.message s p in
    let aside_q : IsAside p q = land_aside l s p in
    let aside_b : IsAside b qb = land_aside l s b in
    let sound_q : Sound qb = land_sound l.queue l.message s b sound st_l free in
    let apart : (y : Message) → Mem y ms → same_ident m.ident y.ident ≡ false = λ y n. once.0 y.ident (mem_ident y ms n) in
    let apart_l : (y : Message) → Mem y ms → same_ident y.ident l.message.ident ≡ false = λ y n. ap (same_ident y.ident) is.0 ∙ same_turned y.ident m.ident ∙ apart y n in
    let rise_q : (d : List ℕ) → LanesRise (stored d q).rows = λ d. subst LanesRise (sym (rows_q d)) (rise_if (is_here t l.queue t d) row (keep S (stored d p).rows) (sorted_keep S (stored d p).rows (rise d))) in
    let comes_q : (y : Message) → Mem y ms → Comes qb y = λ y n. comes_on b qb y aside_b (comes y (inr n)) (λ d h k f.
    (mem_keep S h (stored d b).rows (mem_if (is_here t l.queue t d) row_b h (keep S (stored d b).rows) (subst (λ xs. Mem h xs) (rows_b d) k)
    (λ z. true_false (sym (same_self y.ident) ∙ ap (same_ident y.ident) (sym f ∙ z) ∙ apart_l y n)))).0) in
    let rest : Lands t channel q ms r = all qb q r e sound_q (all_named (land_changes l s) b names) (shadow_on t l s b p shadow goes_b) rise_q comes_q in
    let T_row : T row ≡ true = ap not (is_false (among ids l.message.ident) (λ z.
    true_false (sym (mem_any m.ident ids (subst (λ (i : Ident). Mem i ids) is.0 (any_mem l.message.ident ids z))) ∙ not_in m.ident ids once.0))) in
    record {
      lands = record { queue = l.queue; row = row } ∷ rest.lands;
      rows = λ d.
          ap (λ (z : Plain). (stored d z).rows) (behind (land_changes l s) r.changes p) ∙ rest.rows d
          ∙ ap (λ xs. place_all t rest.lands t d (keep T xs)) (rows_q d)
          ∙ ap (place_all t rest.lands t d) (
          push_keep T (is_here t l.queue t d) row (keep S (stored d p).rows) (sorted_keep S (stored d p).rows (rise d)) T_row
          ∙ ap (λ xs. if is_here t l.queue t d then insert_row row xs else xs) (keep_both l.message.ident ids (stored d p).rows ∙ ap (λ i. keep (λ h. not (among (i ∷ ids) h.message.ident)) (stored d p).rows) is.0));
      marks = λ i. record { ident = is.0 i; lasting = is.2 i } ∷ rest.marks i;
      free = λ k n. elim n [ inl z ↦ ap (λ (x : Landing). x.row.by) z | inr z ↦ rest.free k z ];
      taken = ap (λ xs. m ∷ xs) rest.taken;
      aside = subst (λ (z : Plain). IsAside p z) (sym (behind (land_changes l s) r.changes p)) (aside_then p q _ aside_q rest.aside);
      still = still_one l.message s l.queue l.message.ident l.dead r.delta rest.still;
      plain = plain_one l.message s l.queue l.message.ident l.dead r.delta rest.plain;
      added = λ y n f. elim n [
        | inl z ↦ add_first y.ident l r.adds (is.2 ∙ ap is_persistent (sym z) ∙ f) (is.0 ∙ ap (λ (x : Message). x.ident) (sym z))
        | inr z ↦ add_behind y.ident l r.adds (rest.added y z f)
      ];
      told = λ ds before l0 deads told timed own.
          let o = own m (inl refl) in
          let mine : Message = own_row before m in
          let c : ℤ = mine.md.backout_count in
          let D : Option Reason = dead_reason m.ident ds in
          let dead : D ≡ l.dead = deads m (inl refl) ∙ drop_told m.ident l.message s _ ∙ ap (λ z. if z then l.dead else dead_reason m.ident r.delta) (ap (same_ident m.ident) is.0 ∙ same_self m.ident) in
          let as_own : mine ≡ counted_as c m = counted_is mine m o.own in
          let l1 : Ledger = ledgers.place t l.queue (counted_as c l.message) l0 in
          let told_b : IsTold t b l0 = shadow_told t b p l0 shadow told in
          let timed_b : IsTimed t b l0 = record { users = timed.users; used = timed.used; moment = timed.moment ∙ shadow.moment } in
          let told_1 : IsTold t q l1 = place_told t p q l0 l.queue (counted_as c l.message) told aside_q.given aside_q.definitions aside_q.connections aside_q.moment in
          let timed_1 : IsTimed t q l1 = record { users = timed.users; used = timed.used; moment = timed.moment ∙ sym aside_q.moment } in
          let deads_1 : (y : Message) → Mem y ms → dead_reason y.ident ds ≡ dead_reason y.ident r.delta = λ y n.
          deads y (inr n) ∙ drop_told y.ident l.message s _ ∙ ap (λ z. if z then l.dead else dead_reason y.ident r.delta) (apart_l y n) in
          let tail : map landing_told (landings t channel ds before l1 ms) ≡ map landing_told rest.lands = rest.told ds before l1 deads_1 told_1 timed_1 (λ y n. own y (inr n)) in
          let defs : (places_at t l0).definitions ≡ p1.definitions = ap (λ z. (places_or z).definitions) told.placed ∙ told.definitions ∙ sym first.definitions in
          let head : landing_told (landing_at t (record { queue = l.queue; message = counted_as c l.message }) l0) ≡ landing_told (record { queue = l.queue; row = row }) =
          ap (λ (x : Definitions). landing_told (record { queue = l.queue; row = new_row (lane_of (local_of l.queue x) l.message.md.priority) 0 l.message })) defs in
          (λ i. map landing_told (landing_if (o.admitted i) t (placing t channel l0 (as_own i) (dead i)) l0 (landings t channel ds before (when (o.admitted i) (place_received t channel (as_own i) (dead i)) l0) ms)))
          ∙ ap (λ (x : Ledger). map landing_told (landing_maybe t (placing t channel l0 (counted_as c m) l.dead) l0 (landings t channel ds before x ms))) (received_is t channel (counted_as c m) l.dead l0)
          ∙ ap (λ x. map landing_told (landing_maybe t x l0 (landings t channel ds before (place_maybe t x l0) ms))) (is_placed t channel m c b l0 l told_b timed_b lands)
          ∙ (λ i. head i ∷ tail i);
    }
  where
    not_in : (i : Ident) (is : List Ident) → ((j : Ident) → Mem j is → same_ident i j ≡ false) → among is i ≡ false
    not_in i [] no_ = refl
    not_in i (j ∷ is) no_ = (λ k. no_ j (inl refl) k || not_in i is (λ j n. no_ j (inr n)) k)

abbrev landed_or : Landed → Result Landed Reason → Landed
landed_or x (Err reason) = x
landed_or x (Ok y) = y

-- a message that lands, or none: then nothing does
first_lands : (t : ℕ) (channel : List ℕ) (m : Message) (ms : List Message) (b p : Plain) (s : Standing) (x : Landed) (o : Result Arrival Reason) → land channel m b ≡ o → IsLanding m b o → IsStanding s m.ident b → is_present s ≡ false → Sound b → AreNamed b.queues
    → IsShadow b p → ((d : List ℕ) → LanesRise (stored d p).rows) → AreDistinct (idents_of (m ∷ ms)) → ((y : Message) → Mem y (m ∷ ms) → Comes b y) → AllBehind t channel ms → landed_by o m s b (λ q. landed channel ms q) ≡ Ok x
    → Lands t channel p (m ∷ ms) x
first_lands t channel m ms b p s x (Err reason) w is st free sound names shadow rise once comes all e = absurd cc
first_lands t channel m ms b p s x (Ok l) w is st free sound names shadow rise once comes all e = go (landed channel ms (apply_all (land_changes l s) b)) refl e
  where
    go : (o : Result Landed Reason) → landed channel ms (apply_all (land_changes l s) b) ≡ o → before m l s o ≡ Ok x → Lands t channel p (m ∷ ms) x
    go (Err reason) v f = absurd cc
    go (Ok r) v f = subst (λ (z : Landed). Lands t channel p (m ∷ ms) z) (ap (landed_or x) f) (one_lands t channel m ms b p l s r w is st free sound names shadow rise once comes all v)

-- a batch that landed by manager b lands so at one that has lost rows since
pub batch_lands_by : (t : ℕ) (channel : List ℕ) (ms : List Message) (b p : Plain) (x : Landed) → landed channel ms b ≡ Ok x → Sound b → AreNamed b.queues → IsShadow b p → ((d : List ℕ) → LanesRise (stored d p).rows) → AreDistinct (idents_of ms)
    → ((y : Message) → Mem y ms → Comes b y) → Lands t channel p ms x
batch_lands_by t channel [] b p x e sound names shadow rise once comes = subst (λ (z : Landed). Lands t channel p [] z) (ap (landed_or x) e) (none_lands t channel p)
batch_lands_by t channel (m ∷ ms) b p x e sound names shadow rise once comes =
    let free : is_present (standing_at m b) ≡ false = not_present m b sound names (comes m (inl refl)) in
    first_lands t channel m ms b p (standing_at m b) x (land channel m b) refl (land_is channel m b) (standing_is m b names) free sound names shadow rise once comes
    (λ a q r f s n k d c. batch_lands_by t channel ms a q r f s n k d once.1 c)
    (ap (λ z. landed_unless z channel m (standing_at m b) b (λ q. landed channel ms q)) (sym free) ∙ e)

pub batch_lands : (t : ℕ) (channel : List ℕ) (ms : List Message) (p : Plain) (x : Landed) → landed channel ms p ≡ Ok x → Sound p → AreNamed p.queues → ((d : List ℕ) → LanesRise (stored d p).rows) → AreDistinct (idents_of ms) → ((y : Message) → Mem y ms → Comes p y)
    → Lands t channel p ms x
batch_lands t channel ms p x e sound names rise once comes = batch_lands_by t channel ms p p x e sound names (shadow_self p) rise once comes
