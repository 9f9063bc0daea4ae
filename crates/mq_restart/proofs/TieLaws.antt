-- The parts of a manager that was built from an image are tied.
use Rattle.std.proofs.Common.{◌≡◌, ℕ, suc, ◌+◌, ◌<◌, ◌≤◌, ◌^◌, Bool, true, false, cond, List, [], ◌∷◌, length, refl, ap, arith, sym, subst, ◌∙◌, inl, inr}
use Rattle.std.specs.Prelude.{Option, Some, None, is_some, map, sum_by, All, AllPairs, ◌||◌}
use Rattle.std.specs.List.{AllByRecursion, list_any}
use Rattle.std.specs.Str.{bytes_eq}
use Rattle.std.proofs.lemmas.List.Elements.{recursion_from_All}
use Rattle.mq_base.specs.Members.{Mem, Chain}
use Rattle.mq_message.specs.declared.message.Ident.{Ident}
use Rattle.mq_queue.specs.declared.row.Row.{Row}
use Rattle.mq_queue.specs.Rows.{same_ident, has_ident}
use Rattle.mq_queue.specs.Queues.{Lacks}
use Rattle.mq_queue.proofs.Edits.{same_turned}
use Rattle.mq_objects.specs.declared.object.LocalQueue.{LocalQueue}
use Rattle.mq_objects.specs.declared.object.Object.{Object}
use Rattle.mq_objects.specs.declared.object.Object.TheVariants as objects
use Rattle.mq_objects.specs.declared.object.Definitions.{Definitions}
use Rattle.mq_objects.specs.Names.{local_of, object_in, as_local, is_object, space_of, name_of}
use Rattle.mq_objects.specs.Names.Space.{Queues}
use Rattle.mq_calls.specs.Images.{numbered}
use Rattle.mq_calls.specs.declared.image.Image.{Image}
use Rattle.mq_calls.specs.declared.image.Shelf.{Shelf}
use Rattle.mq_calls.specs.declared.state.SenderSide.{SenderSide}
use Rattle.mq_calls.specs.declared.state.ReceiverSide.{ReceiverSide}
use Rattle.mq_calls.specs.Changes.{comes_before}
use Rattle.mq_calls.specs.Recovery.{IsImage, AreApart, AreKnown, IsKnown, listed}
use Rattle.mq_spec_manager.specs.Words.{last_moment}
use Rattle.mq_log.specs.State.{LogState}
use Rattle.mq_rebuild.specs.from_place.States.{QueueState, queues_of, state_in}
use Rattle.mq_law_image.proofs.from_law_manager.Beginning.{pairs_chain}
use Rattle.mq_law_image.proofs.from_law_manager.Lists.{ident_yes}
use Rattle.mq_law_image.proofs.from_law_manager.Named.{name_is}
use Rattle.mq_law_image.proofs.Naming.{shelf_names, local_names, is_local_at, name_listed, local_found}
use Rattle.mq_rebuild.specs.from_sides.Places.{AreByName}
use Rattle.mq_rebuild.specs.from_sides.Bonds.{has_seat}
use Rattle.mq_redo.specs.from_core.Ties.{EndsReady, Tied, ends_need, state_lanes, local_lanes, pending_at, times_in_rows, times_in_queues, one_if}
use Rattle.mq_rebuild.specs.declared.building.Built.{Built}
use Rattle.mq_rebuild.specs.Rebuilt.{is_laned, state_on, IsBuilt}
use Rattle.mq_restart.specs.Begun.{begun_ends, begun_parts, IsFresh}

true_false : true ≡ false → ⊥
true_false e = absurd cc

-- ---- how often an ident stands

times_numbered : (i : Ident) (k : ℕ) (rows : List Row) → times_in_rows i (numbered k rows) ≡ times_in_rows i rows
times_numbered i k [] = refl
times_numbered i k (row ∷ rows) = ap (λ (n : ℕ). one_if (has_ident i row) + n) (times_numbered i (k + 1) rows)

times_none : (i : Ident) (rows : List Row) → Lacks i rows → times_in_rows i rows ≡ 0
times_none i [] h = refl
times_none i (row ∷ rows) h = let e = ap one_if h.0 in let n = times_none i rows h.1 in omega (arith, e, n)

-- no row behind has the ident of this one
abbrev IsOther : Row → Row → Type 0
IsOther x y = same_ident x.message.ident y.message.ident ≡ false

others_lack : (i : Ident) (row : Row) → row.message.ident ≡ i → (rows : List Row) → AllByRecursion (IsOther row) rows → Lacks i rows
others_lack i row own [] h = tt
others_lack i row own (y ∷ ys) h = (same_turned y.message.ident i ∙ ap (λ (x : Ident). same_ident x y.message.ident) (sym own) ∙ h.0, others_lack i row own ys h.1)

abbrev Rows : List Row → Type 0
Rows [] = Unit {0}
Rows (row ∷ rows) = AllByRecursion (IsOther row) rows × Rows rows

rows_of : (rows : List Row) → AllPairs IsOther rows → Rows rows
rows_of [] h = tt
rows_of (row ∷ rows) h = (
  recursion_from_All (IsOther row) rows (λ k d lt. h 0 (suc k) d (omega arith) (omega (arith, lt))),
  rows_of rows (λ i j d lt within. h (suc i) (suc j) d (omega (arith, lt)) (omega (arith, within))),
)

rows_once : (i : Ident) (rows : List Row) → Rows rows → times_in_rows i rows ≤ 1
rows_once i [] h = omega arith
rows_once i (row ∷ rows) h = by (has_ident i row) refl (rows_once i rows h.1)
  where
    by : (b : Bool) → has_ident i row ≡ b → times_in_rows i rows ≤ 1 → one_if b + times_in_rows i rows ≤ 1
    by true e le = let none = times_none i rows (others_lack i row (ident_yes row.message.ident i e) rows h.0) in omega (arith, none)
    by false e le = omega (arith, le)

-- ---- on all shelves

abbrev times_on : Ident → List Shelf → ℕ
times_on i [] = 0
times_on i (s ∷ ss) = times_in_rows i s.rows + times_on i ss

times_built : (i : Ident) (d : Definitions) (ss : List Shelf) → times_in_queues i (queues_of (map (state_on d) ss)) ≡ times_on i ss
times_built i d [] = refl
times_built i d (s ∷ ss) = let one = times_numbered i 0 s.rows in let more = times_built i d ss in omega (arith, one, more)

-- the rows of a shelf beside those of another
abbrev AreBeside : Shelf → Shelf → Type 0
AreBeside s t = AllByRecursion (λ (x : Row). AllByRecursion (IsOther x) t.rows) s.rows

abbrev Shelves : List Shelf → Type 0
Shelves [] = Unit {0}
Shelves (s ∷ ss) = Rows s.rows × AllByRecursion (AreBeside s) ss × Shelves ss

beside : (s t : Shelf) → AreApart s t → AreBeside s t
beside s t h = recursion_from_All (λ (x : Row). AllByRecursion (IsOther x) t.rows) s.rows (λ k d lt. recursion_from_All _ t.rows (h k d lt))

all_beside : (s : Shelf) (ss : List Shelf) → AllByRecursion (AreApart s) ss → AllByRecursion (AreBeside s) ss
all_beside s [] h = tt
all_beside s (t ∷ ts) h = (beside s t h.0, all_beside s ts h.1)

abbrev Distinct : Shelf → Type 0
Distinct s = AllPairs IsOther s.rows

shelves_of : (ss : List Shelf) → AllByRecursion Distinct ss → AllPairs AreApart ss → Shelves ss
shelves_of [] d h = tt
shelves_of (s ∷ ss) d h = (
  rows_of s.rows d.0,
  all_beside s ss (recursion_from_All (AreApart s) ss (λ k e lt. h 0 (suc k) e (omega arith) (omega (arith, lt)))),
  shelves_of ss d.1 (λ i j e lt within. h (suc i) (suc j) e (omega (arith, lt)) (omega (arith, within))),
)

-- where a row has the ident, no shelf beside has it
none_beside : (i : Ident) (s : Shelf) (row : Row) → row.message.ident ≡ i → (rows : List Row) → AllByRecursion (λ (x : Row). AllByRecursion (IsOther x) s.rows) (row ∷ rows) → times_in_rows i s.rows ≡ 0
none_beside i s row own rows h = times_none i s.rows (others_lack i row own s.rows h.0)

here_none : (i : Ident) (t : Shelf) (rows : List Row) → list_any (has_ident i) rows ≡ true → AllByRecursion (λ (x : Row). AllByRecursion (IsOther x) t.rows) rows → times_in_rows i t.rows ≡ 0
here_none i t [] e h = absurd cc
here_none i t (row ∷ rows) e h = by (has_ident i row) refl e (λ f. here_none i t rows f h.1)
  where
    by : (b : Bool) → has_ident i row ≡ b → (b || list_any (has_ident i) rows) ≡ true → (list_any (has_ident i) rows ≡ true → times_in_rows i t.rows ≡ 0) → times_in_rows i t.rows ≡ 0
    by true w f rest = none_beside i t row (ident_yes row.message.ident i w) rows h
    by false w f rest = rest f

others_none : (i : Ident) (s : Shelf) (ss : List Shelf) → list_any (has_ident i) s.rows ≡ true → AllByRecursion (AreBeside s) ss → times_on i ss ≡ 0
others_none i s [] e h = refl
others_none i s (t ∷ ts) e h = let one = here_none i t s.rows e h.0 in let more = others_none i s ts e h.1 in omega (arith, one, more)

not_any : (i : Ident) (rows : List Row) → list_any (has_ident i) rows ≡ false → times_in_rows i rows ≡ 0
not_any i [] e = refl
not_any i (row ∷ rows) e = by (has_ident i row) refl e (not_any i rows)
  where
    by : (b : Bool) → has_ident i row ≡ b → (b || list_any (has_ident i) rows) ≡ false → (list_any (has_ident i) rows ≡ false → times_in_rows i rows ≡ 0) → one_if b + times_in_rows i rows ≡ 0
    by true w f rest = absurd cc
    by false w f rest = let n = rest f in omega (arith, n)

shelves_once : (i : Ident) (ss : List Shelf) → Shelves ss → times_on i ss ≤ 1
shelves_once i [] h = omega arith
shelves_once i (s ∷ ss) h = by (list_any (has_ident i) s.rows) refl (shelves_once i ss h.2)
  where
    by : (b : Bool) → list_any (has_ident i) s.rows ≡ b → times_on i ss ≤ 1 → times_in_rows i s.rows + times_on i ss ≤ 1
    by true e le = let none = others_none i s ss e h.1 in let one = rows_once i s.rows h.0 in omega (arith, none, one)
    by false e le = let none = not_any i s.rows e in omega (arith, none, le)

-- an ident of this manager that is of a later incarnation stands nowhere
rows_known : (number incarnation : ℕ) (i : Ident) → i.manager ≡ number → i.incarnation ≡ incarnation + 1 → (rows : List Row) → AllByRecursion (λ (row : Row). IsKnown number incarnation row.message.ident) rows → times_in_rows i rows ≡ 0
rows_known number incarnation i own new [] h = refl
rows_known number incarnation i own new (row ∷ rows) h = by (has_ident i row) refl (rows_known number incarnation i own new rows h.1)
  where
    by : (b : Bool) → has_ident i row ≡ b → times_in_rows i rows ≡ 0 → one_if b + times_in_rows i rows ≡ 0
    by true e rest =
        let same = ident_yes row.message.ident i e in
        let low = h.0 (ap (λ (x : Ident). x.manager) same ∙ own) in
        let here = ap (λ (x : Ident). x.incarnation) same in
        absurd (omega (arith, low, here, new))
    by false e rest = omega (arith, rest)

shelves_known : (number incarnation : ℕ) (i : Ident) → i.manager ≡ number → i.incarnation ≡ incarnation + 1 → (ss : List Shelf)
    → AllByRecursion (λ (s : Shelf). All (λ (row : Row). IsKnown number incarnation row.message.ident) s.rows) ss → times_on i ss ≡ 0
shelves_known number incarnation i own new [] h = refl
shelves_known number incarnation i own new (s ∷ ss) h =
    let one = rows_known number incarnation i own new s.rows (recursion_from_All (λ (row : Row). IsKnown number incarnation row.message.ident) s.rows h.0) in
    let more = shelves_known number incarnation i own new ss h.1 in omega (arith, one, more)

-- ---- lanes

abbrev lanes_if : Bool → List ℕ → Definitions → Option Bool
lanes_if true name d = Some (is_laned (local_of name d))
lanes_if false name d = None

lanes_listed : (name : List ℕ) (d : Definitions) (ss : List Shelf) → state_lanes (state_in name (map (state_on d) ss)) ≡ lanes_if (list_any (bytes_eq name) (shelf_names ss)) name d
lanes_listed name d [] = refl
lanes_listed name d (s ∷ ss) = by (bytes_eq name s.name) refl (lanes_listed name d ss)
  where
    by : (b : Bool) → bytes_eq name s.name ≡ b → state_lanes (state_in name (map (state_on d) ss)) ≡ lanes_if (list_any (bytes_eq name) (shelf_names ss)) name d
        → state_lanes (cond b (Some (state_on d s)) (state_in name (map (state_on d) ss))) ≡ lanes_if (b || list_any (bytes_eq name) (shelf_names ss)) name d
    by true e rest = ap (λ (n : List ℕ). Some (is_laned (local_of n d))) (sym (name_is name s.name e))
    by false e rest = rest

any_name : (name : List ℕ) (ns : List (List ℕ)) → list_any (bytes_eq name) ns ≡ true → Mem name ns
any_name name [] e = absurd cc
any_name name (n ∷ ns) e = by (bytes_eq name n) refl e (any_name name ns)
  where
    by : (b : Bool) → bytes_eq name n ≡ b → (b || list_any (bytes_eq name) ns) ≡ true → (list_any (bytes_eq name) ns ≡ true → Mem name ns) → Mem name (n ∷ ns)
    by true w f rest = inl (name_is name n w)
    by false w f rest = inr (rest f)

abbrev Chained : List Object → Type 0
Chained os = Chain (λ (a b : Object). is_object (space_of a) (name_of a) b ≡ false) os

chained : (os : List Object) → AllPairs (λ (a b : Object). is_object (space_of a) (name_of a) b ≡ false) os → Chained os
chained [] h = tt
chained (o ∷ os) h = (member os (recursion_from_All (λ (b : Object). is_object (space_of o) (name_of o) b ≡ false) os (λ k d lt. h 0 (suc k) d (omega arith) (omega (arith, lt)))), chained os (λ i j d lt within. h (suc i) (suc j) d (omega (arith, lt)) (omega (arith, within))))
  where
    member : (xs : List Object) → AllByRecursion (λ (b : Object). is_object (space_of o) (name_of o) b ≡ false) xs → (y : Object) → Mem y xs → is_object (space_of o) (name_of o) y ≡ false
    member [] h y m = absurd m
    member (x ∷ xs) h y (inl e) = subst (λ (z : Object). is_object (space_of o) (name_of o) z ≡ false) (sym e) h.0
    member (x ∷ xs) h y (inr m) = member xs h.1 y m

lanes_of : (o : Option Object) (name : List ℕ) (d : Definitions) (b : Bool) → local_of name d ≡ as_local o → (b ≡ true → is_local_at o ≡ true) → (is_some (as_local o) ≡ true → b ≡ true) → lanes_if b name d ≡ local_lanes (as_local o)
lanes_of None name d true e f g = absurd (true_false (sym (f refl)))
lanes_of None name d false e f g = refl
lanes_of (Some (objects.Local q)) name d true e f g = ap (λ (o : Option LocalQueue). Some (is_laned o)) e
lanes_of (Some (objects.Local q)) name d false e f g = absurd (true_false (sym (g refl)))
lanes_of (Some (objects.Alias q)) name d true e f g = absurd (true_false (sym (f refl)))
lanes_of (Some (objects.Alias q)) name d false e f g = refl
lanes_of (Some (objects.Remote q)) name d true e f g = absurd (true_false (sym (f refl)))
lanes_of (Some (objects.Remote q)) name d false e f g = refl
lanes_of (Some (objects.Channel q)) name d true e f g = absurd (true_false (sym (f refl)))
lanes_of (Some (objects.Channel q)) name d false e f g = refl
lanes_of (Some (objects.Process q)) name d true e f g = absurd (true_false (sym (f refl)))
lanes_of (Some (objects.Process q)) name d false e f g = refl

lanes_built : (i : Image) → IsImage i → (name : List ℕ) → state_lanes (state_in name (map (state_on i.definitions) i.shelves)) ≡ local_lanes (local_of name i.definitions)
lanes_built i h name =
    lanes_listed name i.definitions i.shelves
    ∙ ap (λ (ns : List (List ℕ)). lanes_if (list_any (bytes_eq name) ns) name i.definitions) h.shelves
    ∙ lanes_of (object_in Queues name i.definitions.objects) name i.definitions (list_any (bytes_eq name) (local_names i.definitions.objects)) refl
    (λ e. local_found name i.definitions.objects (chained i.definitions.objects h.once) (any_name name (local_names i.definitions.objects) e))
    (name_listed name i.definitions.objects)

none_pending : (name : List ℕ) (d : Definitions) (ss : List Shelf) → pending_at (state_in name (map (state_on d) ss)) ≡ 0
none_pending name d [] = refl
none_pending name d (s ∷ ss) = by (bytes_eq name s.name) (none_pending name d ss)
  where
    by : (b : Bool) → pending_at (state_in name (map (state_on d) ss)) ≡ 0 → pending_at (cond b (Some (state_on d s)) (state_in name (map (state_on d) ss))) ≡ 0
    by true rest = refl
    by false rest = rest

-- ---- what channel ends have

ends_ready : (i : Image) (b : Built) (log : LogState) → IsBuilt i b → IsImage i → ends_need (begun_ends b) ≤ log.spare → EndsReady (begun_ends b) log.spare
ends_ready i b log h image aside = record {
  log = aside;
  rows = let room = h.rows in subst (λ (ss : List SenderSide). sum_by (λ (s : SenderSide). length (listed s.hardened.in_doubt)) ss ≤ b.rows.room + length b.rows.rows) (sym h.senders) (omega (arith, room));
  seats = subst (λ (rs : List ReceiverSide). AllByRecursion (λ (r : ReceiverSide). has_seat r.channel b.bound.seats ≡ true) rs) (sym h.receivers) h.seats;
  senders = subst (λ (ss : List SenderSide). AreByName (λ (s : SenderSide). s.channel) ss) (sym h.senders) (pairs_chain (λ (s t : SenderSide). comes_before s.channel t.channel ≡ true) i.senders image.senders_sorted);
  receivers = subst (λ (rs : List ReceiverSide). AreByName (λ (r : ReceiverSide). r.channel) rs) (sym h.receivers) (pairs_chain (λ (r t : ReceiverSide). comes_before r.channel t.channel ≡ true) i.receivers image.receivers_sorted);
}

-- ---- all that ties them

pub begun_tied : (number : ℕ) (name : List ℕ) (moment max : ℕ) (i : Image) (b : Built) (log : LogState) → IsBuilt i b → IsImage i → AreKnown number i → IsFresh max log → ends_need (begun_ends b) ≤ log.spare → max < 2 ^ 32 → moment ≤ last_moment
    → Tied (begun_parts number name moment b log)
begun_tied number name moment max i b log h image known fresh aside small late = record {
  up = λ u. record { live = fresh.live; settled = fresh.settled; ends = ends_ready i b log h image aside; room = let f = fresh.free in omega (arith, f); body = let f = fresh.free in omega (arith, f) };
  reserved = λ u. fresh.free;
  within = λ u. let f = fresh.free in omega (arith, f);
  queues = record {
    lanes = λ queue.
        ap (λ (ss : List QueueState). state_lanes (state_in queue ss)) h.queues
        ∙ lanes_built i image queue
        ∙ ap (λ (d : Definitions). local_lanes (local_of queue d)) (sym h.defs);
    pending = λ queue. ap (λ (ss : List QueueState). pending_at (state_in queue ss)) h.queues ∙ none_pending queue i.definitions i.shelves;
  };
  idents = record {
    once = λ ident.
        let e = ap (λ (ss : List QueueState). times_in_queues ident (queues_of ss)) h.queues ∙ times_built ident i.definitions i.shelves in
        let le = shelves_once ident i.shelves (shelves_of i.shelves (recursion_from_All Distinct i.shelves (λ k s lt. (image.rows k s lt).distinct)) image.apart) in
        omega (arith, e, le);
    given = λ ident own new later.
        let e = ap (λ (ss : List QueueState). times_in_queues ident (queues_of ss)) h.queues ∙ times_built ident i.definitions i.shelves in
        let next : ident.incarnation ≡ i.incarnation + 1 = let k = h.incarnation in omega (arith, new, k) in
        let none = shelves_known number i.incarnation ident own next i.shelves (recursion_from_All _ i.shelves known.rows) in
        omega (arith, e, none);
  };
  forced = tt;
  max = let m = fresh.most in omega (arith, m, small);
  moment = late;
}
