-- What a restart tells of a commit: rows that do not last are not among it. So such a message is posted where its name leads, and then is lost
-- with its manager's other rows, as it would have been wherever it had landed.
use Rattle.std.proofs.Common.{ℕ, zero, suc, ◌≡◌, Bool, true, false, not, List, [], ◌∷◌, ◌++◌, refl, ap, sym, subst, ◌∙◌, inl, inr, arith}
use Rattle.std.specs.Prelude.{Option, Some, None, Result, Ok, Err, if◌then◌else◌, ◌&&◌, ◌==◌, filter, slice_get}
use Rattle.std.specs.Str.{bytes_eq}
use Rattle.std.proofs.lemmas.Bool.Decides.{nat_tests}
use Rattle.mq_codes.specs.declared.reason.Reason.{Reason}
use Rattle.mq_message.specs.declared.message.Ident.{Ident}
use Rattle.mq_message.specs.declared.message.Message.{Message}
use Rattle.mq_queue.specs.declared.row.Row.{Row}
use Rattle.mq_queue.specs.Rows.{insert_row, keep, same_ident}
use Rattle.mq_objects.specs.Names.{local_of}
use Rattle.mq_objects.specs.declared.object.Definitions.{Definitions}
use Rattle.mq_resolve.specs.declared.route.Route.{Route}
use Rattle.mq_resolve.specs.Resolved.{resolve}
use Rattle.mq_sync.specs.declared.unit.Unit.{Unit as Luw}
use Rattle.mq_calls.specs.declared.deltas.Did.{Did}
use Rattle.mq_calls.specs.declared.deltas.Did.TheVariants as did
use Rattle.mq_calls.specs.declared.deltas.Why.TheVariants as whys
use Rattle.mq_calls.specs.declared.records.LogRecord.{LogRecord}
use Rattle.mq_history.specs.declared.calls.Call.TheVariants as calls
use Rattle.mq_history.specs.declared.scenario.Scenario.{Scenario}
use Rattle.mq_history.specs.declared.story.ManagerPlaces.{ManagerPlaces}
use Rattle.mq_calls.specs.State.{Plain}
use Rattle.mq_calls.specs.Reads.{connection_at, is_persistent}
use Rattle.mq_calls.specs.Changes.{lane_of, new_row}
use Rattle.mq_spec_manager.specs.Stops.{is_added, lasts}
use Rattle.mq_spec_manager.specs.Agents.{Landed, dead_message, landed, names_of, received_record}
use Rattle.mq_spec_network.specs.Ledger as ledgers
use Rattle.mq_spec_network.specs.Ledger.{Ledger, Users, at_moment, change_at, dead_reason, idents_of, is_admitted, ledger_rows, lose, move_all, own_row, place_at, place_received, places_at, places_or, received_on, take_all_gone, take_everywhere, unit_of, up_again, users_at, users_or, when}
use Rattle.mq_spec_network.specs.Story.{Mem}
use Rattle.mq_law_events.specs.from_law_rows.Families.{is_here}
use Rattle.mq_law_events.specs.from_law_rows.World.{Ghost, Inv, LanesRise}
use Rattle.mq_law_events.specs.from_law_rows.Kinds.{Landing, among, is_lost, place_all}
use Rattle.mq_law_events.proofs.from_law_rows.Lists.{and_false, and_left, and_right, bool_case, ident_yes, sorted_keep, true_false}
use Rattle.mq_law_events.specs.from_law_seen.Seen.{book_of, world_of}
use Rattle.mq_law_events.proofs.from_law_seen.Bridges.{loses_rows}
use Rattle.mq_law_events.proofs.from_law_seen.Receipts.{Placing, landing_at, landing_if, landing_maybe, landings, place_maybe, placing, received_is, receipt_rows, routed}
use Rattle.mq_law_manager.specs.Facts.{IsSound}
use Rattle.mq_law_receipts.specs.Receipts.{Comes, IsAwaitedAt, IsShadow}
use Rattle.mq_law_receipts.proofs.Knowing.{own_in}
use Rattle.mq_law_receipts.proofs.Landing.{IsOwn, IsStill, Lands, all_landed, is_landed, push_keep, rise_if}
use Rattle.mq_law_receipts.proofs.Receiving.{lands_then, posts, receipt_keeps}

-- WHAT IS TOLD
filter_behind : (f : Did → Bool) (xs ys : List Did) → filter f (xs ++ ys) ≡ filter f xs ++ filter f ys
filter_behind f [] ys = refl
filter_behind f (x ∷ xs) ys = bool_case (f x) (λ t. (if t then x ∷ filter f (xs ++ ys) else filter f (xs ++ ys)) ≡ (if t then x ∷ filter f xs else filter f xs) ++ filter f ys)
    (λ z. ap (λ ds. x ∷ ds) (filter_behind f xs ys)) (λ z. filter_behind f xs ys)

landed_filter : (f : Did → Bool) (ds : List Did) → all_landed ds ≡ true → all_landed (filter f ds) ≡ true
landed_filter f [] e = refl
landed_filter f (d ∷ ds) e =
    let rest = landed_filter f ds (and_right (is_landed d) (all_landed ds) e) in
    bool_case (f d) (λ t. all_landed (if t then d ∷ filter f ds else filter f ds) ≡ true) (λ z. ap (λ t. t && all_landed (filter f ds)) (and_left (is_landed d) (all_landed ds) e) ∙ rest) (λ z. rest)

landed_still : (ds : List Did) → all_landed ds ≡ true → IsStill ds
landed_still [] e = record { takes = λ t rest l. refl; moves = λ t rest l. refl; receives = λ rest. refl }
landed_still (did.Placed q i dead ∷ ds) e = let k = landed_still ds e in record { takes = k.takes; moves = k.moves; receives = k.receives }
landed_still (did.Removed q i whys.CameBack ∷ ds) e = let k = landed_still ds e in record { takes = k.takes; moves = k.moves; receives = k.receives }
landed_still (did.Removed q i whys.Got ∷ ds) e = absurd cc
landed_still (did.Removed q i whys.Expired ∷ ds) e = absurd cc
landed_still (did.Removed q i whys.Discarded ∷ ds) e = absurd cc
landed_still (did.Removed q i whys.Sent ∷ ds) e = absurd cc
landed_still (did.Moved q i to target bare ∷ ds) e = absurd cc
landed_still (did.Held q i by_ ∷ ds) e = absurd cc
landed_still (did.Released q i ∷ ds) e = absurd cc
landed_still (did.Hardened c note ∷ ds) e = absurd cc
landed_still (did.Prepared c u ∷ ds) e = absurd cc
landed_still (did.Received c u ∷ ds) e = absurd cc

-- of a commit's delta the commit itself is told, whatever else
commit_filter : (f : Did → Bool) (c : List ℕ) (u : Luw) (ds : List Did) → f (did.Received c u) ≡ true → filter f (ds ++ did.Received c u ∷ []) ≡ filter f ds ++ did.Received c u ∷ []
commit_filter f c u ds e = filter_behind f ds (did.Received c u ∷ []) ∙ ap (λ t. filter f ds ++ (if t then did.Received c u ∷ [] else [])) e

pub posts_found : (t : ℕ) (c : List ℕ) (u : Luw) (st : ledgers.Stopped) (ms : List Message) (f : Did → Bool) (ds : List Did) (l : Ledger) → st.entry.call ≡ calls.Turn → st.entry.effect.received ≡ ms → all_landed ds ≡ true → f (did.Received c u) ≡ true
    → ledgers.found t (Some st) (filter f (ds ++ did.Received c u ∷ [])) (take_all_gone t (filter f (ds ++ did.Received c u ∷ [])) l) ≡ at_moment t (users_at t l).moment (ledgers.receive t c ms (filter f (ds ++ did.Received c u ∷ [])) (at_moment t st.moment l))
posts_found t c u st ms f ds l call received plain told =
    let es : List Did = filter f ds in
    let k : IsStill es = landed_still es (landed_filter f ds plain) in
    let at : Ledger = at_moment t st.moment l in
    ap (λ xs. ledgers.found t (Some st) xs (take_all_gone t xs l)) (commit_filter f c u ds told)
    ∙ ap (ledgers.found t (Some st) (es ++ did.Received c u ∷ [])) (k.takes t (did.Received c u ∷ []) l)
    ∙ (λ i. at_moment t (users_at t l).moment (ledgers.post_call t (call i) st.entry.reply (received i) (es ++ did.Received c u ∷ []) (take_all_gone t (es ++ did.Received c u ∷ []) at)))
    ∙ ap (at_moment t (users_at t l).moment) (posts t c u st.entry.reply ms es at k)
    ∙ ap (λ xs. at_moment t (users_at t l).moment (ledgers.receive t c ms xs at)) (sym (commit_filter f c u ds told))

-- a message that lasts is told with its reason
filter_dead : (r : LogRecord) (p : Plain) (i : Ident) (ds : List Did) → is_added i r ≡ true → dead_reason i (filter (lasts r p) ds) ≡ dead_reason i ds
filter_dead r p i [] e = refl
filter_dead r p i (did.Placed q o dead ∷ ds) e =
    let rest = filter_dead r p i ds e in
    bool_case (is_added o r) (λ t. is_added o r ≡ t → dead_reason i (if t then did.Placed q o dead ∷ filter (lasts r p) ds else filter (lasts r p) ds) ≡ (if same_ident i o then dead else dead_reason i ds))
    (λ z w. ap (λ x. if same_ident i o then dead else x) rest)
    (λ z w. rest ∙ sym (bool_case (same_ident i o) (λ t. same_ident i o ≡ t → (if t then dead else dead_reason i ds) ≡ dead_reason i ds) (λ y v. absurd (true_false (sym e ∙ ap (λ j. is_added j r) (ident_yes i o v) ∙ w))) (λ y v. refl) refl)) refl
filter_dead r p i (did.Removed q o why ∷ ds) e = bool_case (lasts r p (did.Removed q o why)) (λ t. dead_reason i (if t then did.Removed q o why ∷ filter (lasts r p) ds else filter (lasts r p) ds) ≡ dead_reason i ds) (λ z. filter_dead r p i ds e) (λ z. filter_dead r p i ds e)
filter_dead r p i (did.Moved q o to target bare ∷ ds) e = filter_dead r p i ds e
filter_dead r p i (did.Held q o by_ ∷ ds) e = bool_case (lasts r p (did.Held q o by_)) (λ t. dead_reason i (if t then did.Held q o by_ ∷ filter (lasts r p) ds else filter (lasts r p) ds) ≡ dead_reason i ds) (λ z. filter_dead r p i ds e) (λ z. filter_dead r p i ds e)
filter_dead r p i (did.Released q o ∷ ds) e = bool_case (lasts r p (did.Released q o)) (λ t. dead_reason i (if t then did.Released q o ∷ filter (lasts r p) ds else filter (lasts r p) ds) ≡ dead_reason i ds) (λ z. filter_dead r p i ds e) (λ z. filter_dead r p i ds e)
filter_dead r p i (did.Hardened c note ∷ ds) e = filter_dead r p i ds e
filter_dead r p i (did.Prepared c u ∷ ds) e = filter_dead r p i ds e
filter_dead r p i (did.Received c u ∷ ds) e = filter_dead r p i ds e

-- WHERE IT LANDS: of what lasts the same, whatever is told of the others
abbrev pub lasting_of : List Landing → List Landing
lasting_of [] = []
lasting_of (x ∷ xs) = if is_persistent x.row.message then x ∷ lasting_of xs else lasting_of xs

record SameAt (t : ℕ) (l k : Ledger) : Type 0 where
  definitions : (places_at t l).definitions ≡ (places_at t k).definitions
  name : (places_at t l).name ≡ (places_at t k).name
  moment : (users_at t l).moment ≡ (users_at t k).moment

placed_there : (t : ℕ) (q : List ℕ) (m : Message) (ps : List ManagerPlaces) → ((places_or (slice_get (change_at t (place_at q m) ps) t)).definitions ≡ (places_or (slice_get ps t)).definitions) × ((places_or (slice_get (change_at t (place_at q m) ps) t)).name ≡ (places_or (slice_get ps t)).name)
placed_there t q m [] = (refl, refl)
placed_there zero q m (x ∷ ps) = (refl, refl)
placed_there (suc t) q m (x ∷ ps) = placed_there t q m ps

maybe_same : (t : ℕ) (o : Option Placing) (l : Ledger) → SameAt t (place_maybe t o l) l
maybe_same t None l = record { definitions = refl; name = refl; moment = refl }
maybe_same t (Some x) l = let k = placed_there t x.queue x.message l.places in record { definitions = k.0; name = k.1; moment = refl }

same_then : (t : ℕ) (a b c : Ledger) → SameAt t a b → SameAt t b c → SameAt t a c
same_then t a b c x y = record { definitions = x.definitions ∙ y.definitions; name = x.name ∙ y.name; moment = x.moment ∙ y.moment }

same_back : (t : ℕ) (a b : Ledger) → SameAt t a b → SameAt t b a
same_back t a b x = record { definitions = sym x.definitions; name = sym x.name; moment = sym x.moment }

same_placing : (t : ℕ) (c : List ℕ) (l k : Ledger) (m : Message) (dead : Option Reason) → SameAt t l k → placing t c l m dead ≡ placing t c k m dead
same_placing t c l k m None s = λ i. routed m (resolve (s.definitions i) (s.name i) (names_of m.route).queue (names_of m.route).qmgr)
same_placing t c l k m (Some reason) s = λ i. Some (record { queue = (s.definitions i).manager.dead_letter_queue; message = dead_message c reason m (s.moment i) })

same_landing : (t : ℕ) (x : Placing) (l k : Ledger) → SameAt t l k → landing_at t x l ≡ landing_at t x k
same_landing t x l k s = ap (λ (d : Definitions). record { queue = x.queue; row = new_row (lane_of (local_of x.queue d) x.message.md.priority) 0 x.message }) s.definitions

-- what is placed lasts as the message does
abbrev EachFlag : Message → Option Placing → Type 0
EachFlag m None = Unit {0}
EachFlag m (Some x) = is_persistent x.message ≡ is_persistent m

routed_flag : (m : Message) (r : Result Route Reason) → EachFlag m (routed m r)
routed_flag m (Ok route) = refl
routed_flag m (Err reason) = tt

placing_flag : (t : ℕ) (c : List ℕ) (l : Ledger) (m : Message) (dead : Option Reason) → EachFlag m (placing t c l m dead)
placing_flag t c l m None = routed_flag m (ledgers.resolved_at t (names_of m.route).queue (names_of m.route).qmgr l)
placing_flag t c l m (Some reason) = refl

lost_first : (t : ℕ) (m : Message) (o : Option Placing) (l : Ledger) (rest : List Landing) → EachFlag m o → is_persistent m ≡ false → lasting_of (landing_maybe t o l rest) ≡ lasting_of rest
lost_first t m None l rest e f = refl
lost_first t m (Some x) l rest e f = ap (λ b. if b then landing_at t x l ∷ lasting_of rest else lasting_of rest) (e ∙ f)

same_first : (t : ℕ) (o : Option Placing) (l k : Ledger) (xs ys : List Landing) → SameAt t l k → lasting_of xs ≡ lasting_of ys → lasting_of (landing_maybe t o l xs) ≡ lasting_of (landing_maybe t o k ys)
same_first t None l k xs ys s e = e
same_first t (Some x) l k xs ys s e = λ i. if is_persistent x.message then same_landing t x l k s i ∷ e i else e i

landings_alike : (t : ℕ) (c : List ℕ) (ds es : List Did) (first l k : Ledger) (ms : List Message) → SameAt t l k
    → ((y : Message) → Mem y ms → is_persistent (own_row first y) ≡ true → dead_reason y.ident ds ≡ dead_reason y.ident es) → lasting_of (landings t c ds first l ms) ≡ lasting_of (landings t c es first k ms)
landings_alike t c ds es first l k [] same deads = refl
landings_alike t c ds es first l k (m ∷ ms) same deads = go (λ a b s. landings_alike t c ds es first a b ms s (λ y n. deads y (inr n))) (is_admitted first m)
  where
    own : Message
    own = own_row first m

    behind : (dead : Option Reason) (a : Ledger) → SameAt t (place_received t c own dead a) a
    behind dead a = subst (λ (z : Ledger). SameAt t z a) (sym (received_is t c own dead a)) (maybe_same t (placing t c a own dead) a)

    both : (a b : Option Reason) → SameAt t (place_received t c own a l) (place_received t c own b k)
    both a b = same_then t _ l _ (behind a l) (same_then t l k _ same (same_back t _ k (behind b k)))

    D : Option Reason
    D = dead_reason m.ident ds

    E : Option Reason
    E = dead_reason m.ident es

    go : ((a b : Ledger) → SameAt t a b → lasting_of (landings t c ds first a ms) ≡ lasting_of (landings t c es first b ms)) → (z : Bool) → lasting_of (landing_if z t (placing t c l own D) l (landings t c ds first (when z (place_received t c own D) l) ms)) ≡ lasting_of (landing_if z t (placing t c k own E) k (landings t c es first (when z (place_received t c own E) k) ms))
    go rest false = rest l k same
    go rest true = bool_case (is_persistent own) (λ b. is_persistent own ≡ b → lasting_of (landing_maybe t (placing t c l own D) l (landings t c ds first (place_received t c own D l) ms)) ≡ lasting_of (landing_maybe t (placing t c k own E) k (landings t c es first (place_received t c own E k) ms)))
        (λ z e. same_first t (placing t c l own D) l k _ (landings t c es first (place_received t c own E k) ms) same (rest _ _ (both D E))
        ∙ ap (λ (o : Option Placing). lasting_of (landing_maybe t o k (landings t c es first (place_received t c own E k) ms))) (same_placing t c l k own D same ∙ ap (placing t c k own) (deads m (inl refl) e)))
        (λ z e. lost_first t own (placing t c l own D) l _ (placing_flag t c l own D) e ∙ rest _ _ (both D E) ∙ sym (lost_first t own (placing t c k own E) k _ (placing_flag t c k own E) e)) refl

-- AND WHAT IS LEFT OF IT
abbrev stays_at : ℕ → ℕ → Row → Bool
stays_at t a row = not (is_lost t a row)

keep_skip : (f : Row → Bool) (r : Row) (xs : List Row) → f r ≡ false → keep f (insert_row r xs) ≡ keep f xs
keep_skip f r [] e = grind arith
keep_skip f r (x ∷ xs) e = grind (arith, nat_tests, keep_skip f r xs e)

place_lost : (t a : ℕ) (d : List ℕ) (l : Landing) (xs : List Row) → is_persistent l.row.message ≡ false → keep (stays_at t a) (if is_here t l.queue a d then insert_row l.row xs else xs) ≡ keep (stays_at t a) xs
place_lost t a d l xs e = bool_case (is_here t l.queue a d) (λ z. is_here t l.queue a d ≡ z → keep (stays_at t a) (if z then insert_row l.row xs else xs) ≡ keep (stays_at t a) xs)
    (λ z w. keep_skip (stays_at t a) l.row xs (λ i. not (and_left (a == t) (bytes_eq d l.queue) w i && not (e i)))) (λ z w. refl) refl

place_kept : (t a : ℕ) (d : List ℕ) (ls : List Landing) (xs : List Row) → LanesRise xs → keep (stays_at t a) (place_all t ls a d xs) ≡ place_all t (lasting_of ls) a d (keep (stays_at t a) xs)
place_kept t a d [] xs rise = refl
place_kept t a d (l ∷ ls) xs rise =
    let ys : List Row = if is_here t l.queue a d then insert_row l.row xs else xs in
    let rest = place_kept t a d ls ys (rise_if (is_here t l.queue a d) l.row xs rise) in
    bool_case (is_persistent l.row.message) (λ b. is_persistent l.row.message ≡ b → keep (stays_at t a) (place_all t ls a d ys) ≡ place_all t (if b then l ∷ lasting_of ls else lasting_of ls) a d (keep (stays_at t a) xs))
    (λ z e. rest ∙ ap (place_all t (lasting_of ls) a d) (push_keep (stays_at t a) (is_here t l.queue a d) l.row xs rise (ap (λ b. not ((a == t) && not b)) e ∙ ap not (and_false (a == t)))))
    (λ z e. rest ∙ ap (place_all t (lasting_of ls) a d) (place_lost t a d l xs e)) refl

lost_rows : (t : ℕ) (c : List ℕ) (ms : List Message) (ds : List Did) (l : Ledger) (places : ManagerPlaces) (a : ℕ) (d : List ℕ) → slice_get l.places t ≡ Some places → LanesRise (ledger_rows a d l)
    → ledger_rows a d (lose t (ledgers.receive t c ms ds l)) ≡ place_all t (lasting_of (landings t c ds l (take_everywhere (idents_of ms) l) ms)) a d (keep (stays_at t a) (keep (λ r. not (among (idents_of ms) r.message.ident)) (ledger_rows a d l)))
lost_rows t c ms ds l places a d is rise =
    loses_rows t a d (ledgers.receive t c ms ds l) ∙ ap (keep (stays_at t a)) (receipt_rows t c ms ds l places a d is)
    ∙ place_kept t a d (landings t c ds l (take_everywhere (idents_of ms) l) ms) _ (sorted_keep (λ r. not (among (idents_of ms) r.message.ident)) (ledger_rows a d l) rise)

-- a ledger whose manager comes up again
abbrev set_moment : ℕ → Users → Users
set_moment t u = record u { moment = t }

abbrev clear : Users → Users
clear u = record u { cut = None }

abbrev alone : Users → Users
alone u = record u { connections = [] }

books_alike : (t now : ℕ) (c : List ℕ) (ms : List Message) (ds es : List Did) (l : Ledger) (places : ManagerPlaces) → slice_get l.places t ≡ Some places → ((a : ℕ) (d : List ℕ) → LanesRise (ledger_rows a d l))
    → ((y : Message) → Mem y ms → is_persistent (own_row l y) ≡ true → dead_reason y.ident ds ≡ dead_reason y.ident es)
    → book_of (up_again t (at_moment t now (ledgers.receive t c ms ds l))) ≡ book_of (up_again t (at_moment t now (ledgers.receive t c ms es l)))
books_alike t now c ms ds es l places is rise deads =
    let x = receipt_keeps t c ms ds l in
    let y = receipt_keeps t c ms es l in
    let users : (ledgers.receive t c ms ds l).users ≡ (ledgers.receive t c ms es l).users = x.users ∙ sym y.users in
    let gone : (ledgers.receive t c ms ds l).gone ≡ (ledgers.receive t c ms es l).gone = x.gone ∙ sym y.gone in
    let got : (ledgers.receive t c ms ds l).got ≡ (ledgers.receive t c ms es l).got = x.got ∙ sym y.got in
    let first : Ledger = take_everywhere (idents_of ms) l in
    let ls = landings_alike t c ds es l first first ms (record { definitions = refl; name = refl; moment = refl }) deads in
    λ i. record {
      rows = λ a d. (lost_rows t c ms ds l places a d is (rise a d)
          ∙ ap (λ (zs : List Landing). place_all t zs a d (keep (stays_at t a) (keep (λ r. not (among (idents_of ms) r.message.ident)) (ledger_rows a d l)))) ls
          ∙ sym (lost_rows t c ms es l places a d is (rise a d))) i;
      units = λ a e. unit_of (connection_at e (users_or (slice_get (change_at t alone (change_at t clear (change_at t (set_moment now) (users i)))) a)).connections);
      gone = gone i;
      got = got i;
    }

-- ALL OF IT: what is told by the commit, and what a restart tells of it, leave the same
pub posts_alike : (s : Scenario) (given : Ident → Bool) (ps : List Plain) (p q : Plain) (l : Ledger) (g : Ghost) (m t now : ℕ) (c : List ℕ) (u : Luw) (last : ℕ) (ms : List Message) (x : Landed) → Lands t c p ms x
    → IsAwaitedAt s given ps p l g m t c u ms → Inv (world_of s given ps) g (book_of l)
    → book_of (up_again t (at_moment t now (ledgers.receive t c ms (x.delta ++ did.Received c u ∷ []) l)))
    ≡ book_of (up_again t (at_moment t now (ledgers.receive t c ms (filter (lasts (received_record c u last x) q) (x.delta ++ did.Received c u ∷ [])) l)))
posts_alike s given ps p q l g m t now c u last ms x y r h =
    books_alike t now c ms (x.delta ++ did.Received c u ∷ []) (filter (lasts (received_record c u last x) q) (x.delta ++ did.Received c u ∷ [])) l r.told.places r.told.placed (λ a d. h.shelved a d) (λ z n e.
    let own : IsOwn l z = own_in s given ps p l g m t c u ms r h z n in
    sym (filter_dead (received_record c u last x) q z.ident (x.delta ++ did.Received c u ∷ []) (y.added z n (sym (ap is_persistent own.own) ∙ e))))

pub found_posts : (s : Scenario) (given : Ident → Bool) (ps : List Plain) (b p q : Plain) (l : Ledger) (g : Ghost) (m t now : ℕ) (c : List ℕ) (u : Luw) (last : ℕ) (ms : List Message) (x : Landed) → landed c ms b ≡ Ok x → IsSound b → IsShadow b p → ((y : Message) → Mem y ms → Comes b y)
    → slice_get ps t ≡ Some p → IsAwaitedAt s given ps p l g m t c u ms → Inv (world_of s given ps) g (book_of l)
    → book_of (up_again t (at_moment t now (ledgers.receive t c ms (x.delta ++ did.Received c u ∷ []) l)))
    ≡ book_of (up_again t (at_moment t now (ledgers.receive t c ms (filter (lasts (received_record c u last x) q) (x.delta ++ did.Received c u ∷ [])) l)))
found_posts s given ps b p q l g m t now c u last ms x e sound shadow comes at r h = posts_alike s given ps p q l g m t now c u last ms x (lands_then s given ps b p l g m t c u ms x e sound shadow comes at r h) r h
