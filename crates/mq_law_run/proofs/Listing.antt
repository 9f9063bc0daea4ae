-- What the promise lists of units that operators have committed before their receivers: each entry keeps it.
use Rattle.std.proofs.Common.{ℕ, ◌≡◌, Bool, true, false, List, [], ◌∷◌, ◌++◌, refl, ap, sym, subst, ◌∙◌, inl, inr, map}
use Rattle.std.specs.Prelude.{Option, Some, None, filter, flat_map, if◌then◌else◌, not, ◌&&◌, ◌||◌}
use Rattle.std.specs.List.{list_any}
use Rattle.std.specs.Str.{bytes_eq}
use Rattle.mq_message.specs.declared.message.Ident.{Ident}
use Rattle.mq_message.specs.declared.place.Holder.{Holder}
use Rattle.mq_message.specs.declared.place.Holder.TheVariants as holders
use Rattle.mq_queue.specs.declared.row.Row.{Row}
use Rattle.mq_queue.specs.Rows.{has_ident, held_by, same_ident}
use Rattle.mq_sync.specs.declared.unit.Unit.{Unit as Luw}
use Rattle.mq_sync.specs.Units.{same_unit}
use Rattle.mq_calls.specs.declared.agents.Note.{Note}
use Rattle.mq_calls.specs.declared.agents.Note.TheVariants as notes
use Rattle.mq_calls.specs.declared.deltas.Did.{Did}
use Rattle.mq_calls.specs.declared.deltas.Did.TheVariants as did
use Rattle.mq_calls.specs.declared.deltas.Why.TheVariants as whys
use Rattle.mq_calls.specs.declared.records.LogRecord.{LogRecord}
use Rattle.mq_calls.specs.declared.records.Remove.{Remove}
use Rattle.mq_calls.specs.State.{Plain, Queue}
use Rattle.mq_calls.specs.Reads.{queue_in, stands, stored}
use Rattle.mq_spec_manager.specs.Stops.{lasts}
use Rattle.mq_spec_manager.specs.Agents.{held_on, held_rows, settle_did}
use Rattle.mq_spec_network.specs.Conflict.{committed_in, deeds_in}
use Rattle.mq_spec_network.specs.Ledger.{Ledger}
use Rattle.mq_spec_network.specs.Order.{Forced, OrderAt, forced_after, forced_by, forced_in, sent_idents, unit_received}
use Rattle.mq_spec_network.specs.Story.{Line, Mem}
use Rattle.mq_law_channel.proofs.Told.{unit_self, unit_yes}
use Rattle.mq_law_manager.proofs.Named.{name_is, name_self}
use Rattle.mq_law_manager.proofs.Lists.{mem_before, mem_behind}
use Rattle.mq_law_rows.specs.Kinds.{among}
use Rattle.mq_law_rows.specs.World.{Book, Ghost, InBatch, Inv, Tag, World, claim, is_forced, tag_idents}
use Rattle.mq_law_rows.proofs.Lists.{bool_case, same_self, map_mem, mem_map, true_false, and_left, and_right}
use Rattle.mq_law_rows.proofs.Owners.{ledger_row, told_ident}
use Rattle.mq_law_rows.proofs.Receiving.{mem_any}
use Rattle.mq_law_stopped.specs.Noted.{IsForcing}
use Rattle.mq_law_run.specs.Ordered.{AreForced, AreListed, HasRow, IsForcedNow, forced_over}

pub listed_more : (fs : List Forced) (p : List Line) (x : Line) → forced_over fs (p ++ x ∷ []) ≡ forced_in x.entry (forced_over fs p)
listed_more fs [] x = refl
listed_more fs (y ∷ p) x = listed_more (forced_in y.entry fs) p x

less_told : (d : Did) (t : Bool) (rest : List Did) (i : Ident) → sent_idents (d ∷ rest) ≡ sent_idents rest → Mem i (sent_idents rest) → Mem i (sent_idents (if t then d ∷ rest else rest))
less_told d true rest i e n = subst (λ is. Mem i is) (sym e) n
less_told d false rest i e n = n

or_true : (t : Bool) → (t || true) ≡ true
or_true true = refl
or_true false = refl

-- an entry that commits nothing at a receiver has no order to keep
pub quiet_order : (fs : List Forced) (x : Line) (l k : Ledger) → unit_received x.entry.effect.delta ≡ None → OrderAt (unit_received x.entry.effect.delta) fs x l k
quiet_order fs x l k e = subst (λ o. OrderAt o fs x l k) (sym e) tt

-- ENTRIES OF THE LIST: one stays until its receiver's commit
stays_if : (f : Forced) (c : List ℕ) (v : Luw) (fs : List Forced) → Mem f fs → (bytes_eq f.channel c && same_unit f.unit v) ≡ false
    → Mem f (filter (λ (e : Forced). not (bytes_eq c e.channel && same_unit v e.unit)) fs)
stays_if f c v [] n e = n
stays_if f c v (g ∷ fs) n e = bool_case (bytes_eq c g.channel && same_unit v g.unit)
    (λ t. (bytes_eq c g.channel && same_unit v g.unit) ≡ t → Mem f (if not t then g ∷ filter (λ (e : Forced). not (bytes_eq c e.channel && same_unit v e.unit)) fs else filter (λ (e : Forced). not (bytes_eq c e.channel && same_unit v e.unit)) fs))
    (λ t hit. elim n [
      | inl s ↦ absurd (true_false (sym (same_both g hit s) ∙ e))
      | inr o ↦ stays_if f c v fs o e
    ])
    (λ t no_. elim n [ inl s ↦ inl s | inr o ↦ inr (stays_if f c v fs o e) ]) refl
  where
    same_both : (g : Forced) → (bytes_eq c g.channel && same_unit v g.unit) ≡ true → f ≡ g → (bytes_eq f.channel c && same_unit f.unit v) ≡ true
    same_both g hit s =
        let name : f.channel ≡ c = ap (λ (o : Forced). o.channel) s ∙ sym (name_is c g.channel (and_left (bytes_eq c g.channel) (same_unit v g.unit) hit)) in
        let unit : f.unit ≡ v = ap (λ (o : Forced). o.unit) s ∙ sym (unit_yes v g.unit (and_right (bytes_eq c g.channel) (same_unit v g.unit) hit)) in
        (λ i. bytes_eq (name i) c && same_unit (unit i) v) ∙ ap (λ t. t && same_unit v v) (name_self c) ∙ unit_self v

or_left : (a b : Bool) → (a || b) ≡ false → a ≡ false
or_left true b e = absurd (true_false e)
or_left false b e = refl

or_right : (a b : Bool) → (a || b) ≡ false → b ≡ false
or_right true b e = absurd (true_false e)
or_right false b e = e

resolved_by : (is : List Ident) (f : Forced) (c : List ℕ) (u : Luw) (commit operator : Bool) (fs : List Forced) → Mem f fs → Mem f (forced_by is (did.Hardened c (notes.Resolved u commit operator)) fs)
resolved_by is f c u true true fs n = inr n
resolved_by is f c u true false fs n = n
resolved_by is f c u false operator fs n = n

stays_in : (is : List Ident) (m : ℕ) (f : Forced) (ds : List Did) (fs : List Forced) → Mem f fs → committed_in f.channel f.unit (deeds_in m ds) ≡ false → Mem f (forced_after is ds fs)
stays_in is m f [] fs n e = n
stays_in is m f (did.Received c v ∷ ds) fs n e =
    stays_in is m f ds _ (stays_if f c v fs n (or_left (bytes_eq f.channel c && same_unit f.unit v) (committed_in f.channel f.unit (deeds_in m ds)) e)) (or_right (bytes_eq f.channel c && same_unit f.unit v) (committed_in f.channel f.unit (deeds_in m ds)) e)
stays_in is m f (did.Hardened c (notes.Resolved u commit operator) ∷ ds) fs n e = stays_in is m f ds _ (resolved_by is f c u commit operator fs n) e
stays_in is m f (did.Hardened c (notes.Session partner session) ∷ ds) fs n e = stays_in is m f ds fs n e
stays_in is m f (did.Hardened c (notes.Bound partner session last) ∷ ds) fs n e = stays_in is m f ds fs n e
stays_in is m f (did.Hardened c (notes.Closed session) ∷ ds) fs n e = stays_in is m f ds fs n e
stays_in is m f (did.Hardened c (notes.SeqSet end last) ∷ ds) fs n e = stays_in is m f ds fs n e
stays_in is m f (did.Placed q i dead ∷ ds) fs n e = stays_in is m f ds fs n e
stays_in is m f (did.Removed q i why ∷ ds) fs n e = stays_in is m f ds fs n e
stays_in is m f (did.Moved q i to target bare ∷ ds) fs n e = stays_in is m f ds fs n e
stays_in is m f (did.Held q i by_ ∷ ds) fs n e = stays_in is m f ds fs n e
stays_in is m f (did.Released q i ∷ ds) fs n e = stays_in is m f ds fs n e
stays_in is m f (did.Prepared c v ∷ ds) fs n e = stays_in is m f ds fs n e

-- and one comes with an operator's commit
comes_in : (is : List Ident) (m : ℕ) (c : List ℕ) (u : Luw) (ds : List Did) (fs : List Forced) → Mem (did.Hardened c (notes.Resolved u true true)) ds → committed_in c u (deeds_in m ds) ≡ false
    → Mem (record { channel = c; unit = u; idents = is }) (forced_after is ds fs)
comes_in is m c u [] fs n e = absurd n
comes_in is m c u (d ∷ ds) fs (inl s) e =
    let rest : committed_in c u (deeds_in m ds) ≡ false = subst (λ (x : Did). committed_in c u (deeds_in m (x ∷ ds)) ≡ false) (sym s) e in
    subst (λ (x : Did). Mem (record { channel = c; unit = u; idents = is }) (forced_after is ds (forced_by is x fs))) s
    (stays_in is m (record { channel = c; unit = u; idents = is }) ds (record { channel = c; unit = u; idents = is } ∷ fs) (inl refl) rest)
comes_in is m c u (d ∷ ds) fs (inr n) e = comes_in is m c u ds (forced_by is d fs) n (behind d e)
  where
    behind : (x : Did) → committed_in c u (deeds_in m (x ∷ ds)) ≡ false → committed_in c u (deeds_in m ds) ≡ false
    behind (did.Received d v) f = or_right (bytes_eq c d && same_unit u v) (committed_in c u (deeds_in m ds)) f
    behind (did.Hardened d w) f = f
    behind (did.Placed q i dead) f = f
    behind (did.Removed q i why) f = f
    behind (did.Moved q i to target bare) f = f
    behind (did.Held q i by_) f = f
    behind (did.Released q i) f = f
    behind (did.Prepared d v) f = f

-- EACH ENTRY keeps that they are listed
pub listed_on : (g h : Ghost) (m : ℕ) (ds : List Did) (old rows : ℕ → List ℕ → List Row) (fs : List Forced) → AreListed g old fs → AreForced g h ds old rows
    → ((a : ℕ) (c : List ℕ) (u : Luw) → h.operated a c u ≡ true → committed_in c u (deeds_in m ds) ≡ false) → AreListed h rows (forced_after (sent_idents ds) ds fs)
listed_on g h m ds old rows fs listed forced calm a c u on = elim (forced a c u on) [
  | inl k ↦
      (let l = listed a c u k.operated in
      record {
        entry = l.entry;
        there = stays_in (sent_idents ds) m l.entry ds fs l.there ((λ i. committed_in (l.channel i) (l.unit i) (deeds_in m ds)) ∙ calm a c u on);
        channel = l.channel;
        unit = l.unit;
        idents = λ i n e. k.rows i n (l.idents i (subst (λ (ts : List Tag). Mem i (tag_idents ts)) k.sent n) e);
      })
  | inr k ↦ record {
    entry = record { channel = c; unit = u; idents = sent_idents ds };
    there = comes_in (sent_idents ds) m c u ds fs k.told (calm a c u on);
    channel = refl;
    unit = refl;
    idents = k.idents;
  }
]

-- fewer rows
pub forced_less : (g h : Ghost) (ds : List Did) (old rows less : ℕ → List ℕ → List Row) → ((i : Ident) → HasRow i less → HasRow i rows) → AreForced g h ds old rows → AreForced g h ds old less
forced_less g h ds old rows less f k a c u on = elim (k a c u on) [
  | inl o ↦ inl (record { operated = o.operated; sent = o.sent; rows = λ i n no_ r. o.rows i n no_ (f i r) })
  | inr o ↦ inr (record { told = o.told; idents = λ i n e r. o.idents i n e (f i r) })
]

-- where nothing comes into the ledger, and no operator commits
pub forced_still : (g h : Ghost) (ds : List Did) (old rows : ℕ → List ℕ → List Row) → ((a : ℕ) (c : List ℕ) (u : Luw) → h.operated a c u ≡ true → (g.operated a c u ≡ true) × (h.sent a c u ≡ g.sent a c u)) → ((i : Ident) → HasRow i rows → HasRow i old)
    → AreForced g h ds old rows
forced_still g h ds old rows f less a c u on = let o = f a c u on in inl (record { operated = o.0; sent = o.1; rows = λ i n no_ r. no_ (less i r) })

-- AN OPERATOR'S COMMIT tells of all rows of its unit that stand in the ledger
pub forcing_told : (w : World) (g h : Ghost) (b : Book) (m : ℕ) (c : List ℕ) (u : Luw) (ds : List Did) → Inv w g b → IsForcing w m c u ds → h.sent m c u ≡ g.sent m c u → IsForcedNow h ds b.rows m c u
forcing_told w g h b m c u ds inv k sent = record {
  told = k.told;
  idents = λ i n e r.
      let t = map_mem (λ (x : Tag). x.ident) i (g.sent m c u) (subst (λ (ts : List Tag). Mem i (tag_idents ts)) sent n) in
      let own : g.owner i ≡ InBatch m c = ap g.owner t.2 ∙ inv.live m c u t.0 k.holds k.new t.1 in
      elim (ledger_row w g b inv r.0 r.1 r.2 r.3) [
        | inl f ↦ true_false (sym f ∙ ap (λ x. is_forced (g.owner x)) r.4 ∙ ap is_forced own)
        | inr o ↦
            (let same : o.0.message.ident ≡ i = sym (told_ident r.2 o.0 o.3) ∙ r.4 in
            held i e r.0 r.1 o.0 o.0.by refl o.1 same (sym (inv.claims r.0 r.1 o.0 o.1 o.2) ∙ ap g.owner same ∙ own))
      ];
}
  where
    held : (i : Ident) → among (sent_idents ds) i ≡ false → (a : ℕ) (q : List ℕ) (x : Row) (o : Option Holder) → x.by ≡ o → Mem x (w.rows a q) → x.message.ident ≡ i → claim a q o ≡ InBatch m c → ⊥
    held i e a q x None is n same own = absurd cc
    held i e a q x (Some (holders.Unit y)) is n same own = absurd cc
    held i e a q x (Some (holders.Batch d)) is n same own =
        let from : a ≡ m = cc in
        let name : d ≡ c = cc in
        true_false (sym (mem_any i (sent_idents ds) (subst (λ j. Mem j (sent_idents ds)) same (k.rows q x (subst (λ y. Mem x (w.rows y q)) from n) (is ∙ ap (λ y. Some (holders.Batch y)) name)))) ∙ e)

-- WHAT IT TELLS, of a manager: each row that the batch holds
held_there : (h : Holder) (qs : List Queue) (q : List ℕ) (r : Row) → Mem r (queue_in q qs).rows → held_by h r.by ≡ true → (x : Remove) × Mem x (flat_map (held_on h) qs) × (x.ident ≡ r.message.ident)
held_there h [] q r n e = absurd n
held_there h (y ∷ qs) q r n e = bool_case (bytes_eq q y.name) (λ t. Mem r (if t then y else queue_in q qs).rows → (x : Remove) × Mem x (held_on h y ++ flat_map (held_on h) qs) × (x.ident ≡ r.message.ident))
    (λ t k. (
      record { queue = y.name; ident = r.message.ident },
      mem_before _ (held_on h y) (flat_map (held_on h) qs)
          (mem_map (λ (row : Row). record { queue = y.name; ident = row.message.ident }) r (filter (λ (row : Row). held_by h row.by) y.rows) (kept_in r y.rows k e)),
      refl,
    ))
    (λ t k. let o = held_there h qs q r k e in (o.0, mem_behind o.0 (held_on h y) (flat_map (held_on h) qs) o.1, o.2)) n
  where
    kept_in : (r : Row) (xs : List Row) → Mem r xs → held_by h r.by ≡ true → Mem r (filter (λ (row : Row). held_by h row.by) xs)
    kept_in r [] n e = n
    kept_in r (x ∷ xs) (inl s) e = subst (λ t. Mem r (if t then x ∷ filter (λ (row : Row). held_by h row.by) xs else filter (λ (row : Row). held_by h row.by) xs)) (sym (ap (λ (z : Row). held_by h z.by) (sym s) ∙ e)) (inl s)
    kept_in r (x ∷ xs) (inr n) e = bool_case (held_by h x.by) (λ t. Mem r (if t then x ∷ filter (λ (row : Row). held_by h row.by) xs else filter (λ (row : Row). held_by h row.by) xs)) (λ t. inr (kept_in r xs n e)) (λ t. kept_in r xs n e)

sent_there : (xs : List Remove) (ds : List Did) (x : Remove) → Mem x xs → Mem x.ident (sent_idents (map (settle_did true) xs ++ ds))
sent_there [] ds x n = absurd n
sent_there (y ∷ xs) ds x (inl s) = inl (ap (λ (r : Remove). r.ident) s)
sent_there (y ∷ xs) ds x (inr n) = inr (sent_there xs ds x n)

pub batch_told : (c : List ℕ) (p : Plain) (ds : List Did) (q : List ℕ) (r : Row) → Mem r (stored q p).rows → r.by ≡ Some (holders.Batch c) → Mem r.message.ident (sent_idents (map (settle_did true) (held_rows (holders.Batch c) p) ++ ds))
batch_told c p ds q r n e =
    let o = held_there (holders.Batch c) p.queues q r n (ap (held_by (holders.Batch c)) e ∙ name_self c) in
    subst (λ i. Mem i (sent_idents (map (settle_did true) (held_rows (holders.Batch c) p) ++ ds))) o.2 (sent_there (held_rows (holders.Batch c) p) ds o.0 o.1)

-- a restart tells of those that stand still
any_of : (i : Ident) (xs : List Row) (x : Row) → Mem x xs → x.message.ident ≡ i → list_any (has_ident i) xs ≡ true
any_of i [] x n e = absurd n
any_of i (y ∷ xs) x (inl s) e = ap (λ t. t || list_any (has_ident i) xs) (ap (λ (z : Row). same_ident z.message.ident i) (sym s) ∙ ap (λ j. same_ident j i) e ∙ same_self i)
any_of i (y ∷ xs) x (inr n) e = ap (λ t. has_ident i y || t) (any_of i xs x n e) ∙ or_true (has_ident i y)

row_stands : (q : List ℕ) (qs : List Queue) (x : Row) → Mem x (queue_in q qs).rows → list_any (λ (y : Queue). list_any (has_ident x.message.ident) y.rows) qs ≡ true
row_stands q [] x n = absurd n
row_stands q (y ∷ qs) x n = bool_case (bytes_eq q y.name) (λ t. Mem x (if t then y else queue_in q qs).rows → (list_any (has_ident x.message.ident) y.rows || list_any (λ (o : Queue). list_any (has_ident x.message.ident) o.rows) qs) ≡ true)
    (λ t k. ap (λ b. b || list_any (λ (o : Queue). list_any (has_ident x.message.ident) o.rows) qs) (any_of x.message.ident y.rows x k refl))
    (λ t k. ap (λ b. list_any (has_ident x.message.ident) y.rows || b) (row_stands q qs x k) ∙ or_true (list_any (has_ident x.message.ident) y.rows)) n

sent_lasts : (r : LogRecord) (p : Plain) (ds : List Did) (i : Ident) → Mem i (sent_idents ds) → stands i p ≡ true → Mem i (sent_idents (filter (lasts r p) ds))
sent_lasts r p [] i n e = n
sent_lasts r p (did.Removed q j whys.Sent ∷ ds) i (inl s) e = subst (λ t. Mem i (sent_idents (if t then did.Removed q j whys.Sent ∷ filter (lasts r p) ds else filter (lasts r p) ds))) (sym (ap (λ x. stands x p) (sym s) ∙ e)) (inl s)
sent_lasts r p (did.Removed q j whys.Sent ∷ ds) i (inr n) e = bool_case (stands j p) (λ t. Mem i (sent_idents (if t then did.Removed q j whys.Sent ∷ filter (lasts r p) ds else filter (lasts r p) ds))) (λ t. inr (sent_lasts r p ds i n e)) (λ t. sent_lasts r p ds i n e)
sent_lasts r p (did.Removed q j whys.Got ∷ ds) i n e = less_told (did.Removed q j whys.Got) (stands j p) (filter (lasts r p) ds) i refl (sent_lasts r p ds i n e)
sent_lasts r p (did.Removed q j whys.Expired ∷ ds) i n e = less_told (did.Removed q j whys.Expired) (stands j p) (filter (lasts r p) ds) i refl (sent_lasts r p ds i n e)
sent_lasts r p (did.Removed q j whys.Discarded ∷ ds) i n e = less_told (did.Removed q j whys.Discarded) (stands j p) (filter (lasts r p) ds) i refl (sent_lasts r p ds i n e)
sent_lasts r p (did.Removed q j whys.CameBack ∷ ds) i n e = less_told (did.Removed q j whys.CameBack) (stands j p) (filter (lasts r p) ds) i refl (sent_lasts r p ds i n e)
sent_lasts r p (did.Placed q j dead ∷ ds) i n e = less_told (did.Placed q j dead) (lasts r p (did.Placed q j dead)) (filter (lasts r p) ds) i refl (sent_lasts r p ds i n e)
sent_lasts r p (did.Moved q j to target bare ∷ ds) i n e = sent_lasts r p ds i n e
sent_lasts r p (did.Held q j by_ ∷ ds) i n e = less_told (did.Held q j by_) (stands j p) (filter (lasts r p) ds) i refl (sent_lasts r p ds i n e)
sent_lasts r p (did.Released q j ∷ ds) i n e = less_told (did.Released q j) (stands j p) (filter (lasts r p) ds) i refl (sent_lasts r p ds i n e)
sent_lasts r p (did.Hardened c note ∷ ds) i n e = sent_lasts r p ds i n e
sent_lasts r p (did.Prepared c u ∷ ds) i n e = sent_lasts r p ds i n e
sent_lasts r p (did.Received c u ∷ ds) i n e = sent_lasts r p ds i n e

pub hardened_lasts : (r : LogRecord) (b : Plain) (c : List ℕ) (w : Note) (ds : List Did) → Mem (did.Hardened c w) ds → Mem (did.Hardened c w) (filter (lasts r b) ds)
hardened_lasts r b c w [] n = absurd n
hardened_lasts r b c w (d ∷ ds) (inl e) = subst (λ (o : Did). Mem (did.Hardened c w) (filter (lasts r b) (o ∷ ds))) e (inl refl)
hardened_lasts r b c w (d ∷ ds) (inr n) = bool_case (lasts r b d) (λ t. Mem (did.Hardened c w) (if t then d ∷ filter (lasts r b) ds else filter (lasts r b) ds)) (λ z. inr (hardened_lasts r b c w ds n)) (λ z. hardened_lasts r b c w ds n)

pub forcing_lasts : (w : World) (m : ℕ) (c : List ℕ) (u : Luw) (r : LogRecord) (p : Plain) (ds : List Did) → ((q : List ℕ) (x : Row) → Mem x (w.rows m q) → Mem x (stored q p).rows) → IsForcing w m c u ds → IsForcing w m c u (filter (lasts r p) ds)
forcing_lasts w m c u r p ds at k = record {
  holds = k.holds;
  new = k.new;
  told = hardened_lasts r p c (notes.Resolved u true true) ds k.told;
  rows = λ q x n e. sent_lasts r p ds x.message.ident (k.rows q x n e) (row_stands q p.queues x (at q x n));
}
