-- A sound manager has what the law of the log needs.
use Rattle.std.proofs.Common.{ℕ, ◌≡◌, ◌≢◌, Bool, true, false, List, [], ◌∷◌, ◌++◌, refl, ap, sym, subst, ◌∙◌, arith, inl, inr}
use Rattle.std.specs.Prelude.{Option, None, Some, is_some, if◌then◌else◌, ◌==◌, ◌&&◌, ◌||◌, nat_lt, nat_le}
use Rattle.std.specs.Str.{bytes_eq}
use Rattle.std.specs.List.{AllByRecursion, list_any}
use Rattle.std.proofs.lemmas.Bool.Decides.{nat_tests}
use Rattle.mq_message.specs.declared.message.Ident.{Ident}
use Rattle.mq_message.specs.declared.place.Place.{Place}
use Rattle.mq_message.specs.declared.place.Holder.TheVariants as holders
use Rattle.mq_queue.specs.declared.row.Row.{Row}
use Rattle.mq_queue.specs.Rows.{same_ident, held_by}
use Rattle.mq_queue.specs.Queues.{Lacks, AreDistinct, AllBehind, AreInOrder}
use Rattle.mq_calls.specs.declared.records.Add.{Add}
use Rattle.mq_calls.specs.declared.state.Item.{Item}
use Rattle.mq_calls.specs.declared.state.Item.TheVariants.{Put, Take}
use Rattle.mq_calls.specs.State.{Plain, Queue}
use Rattle.mq_calls.specs.declared.state.Connection.{Connection}
use Rattle.mq_calls.specs.declared.state.Handle.{Handle}
use Rattle.mq_calls.specs.declared.state.SenderSide.{SenderSide}
use Rattle.mq_calls.specs.declared.state.Batch.{Batch}
use Rattle.mq_calls.specs.State.Which.{Among}
use Rattle.mq_calls.specs.Reads.{queue_in, connection_at, batch_of, is_by_unit}
use Rattle.mq_calls.specs.Changes.{selects}
use Rattle.mq_message.specs.declared.message.Message.{Message}
use Rattle.mq_objects.specs.declared.object.LocalQueue.{LocalQueue}
use Rattle.mq_objects.specs.Names.{local_of, is_transmission}
use Rattle.mq_sync.specs.declared.data.InDoubt.{InDoubt}
use Rattle.mq_spec_manager.specs.Agents.{doubts}
use Rattle.mq_spec_log.specs.Applies.{agrees, fits_local}
use Rattle.mq_spec_manager.specs.Put.{next_ident, queue_at}
use Rattle.mq_law_manager.specs.View.{Taken, view, puts_in, takes_in, items_of}
use Rattle.mq_law_manager.specs.Facts.{Mem, Differ, put_ident, taken_ident, IsOf, Sound, AreNamed, IsFit, IsUnlisted, listed, IsSound}
use Rattle.mq_law_manager.proofs.Lists.{is_false, any_mem, mem_any, ident_no, distinct_of, one_row}
use Rattle.mq_law_manager.proofs.Named.{name_is, name_self, name_turned}
use Rattle.mq_law_manager.proofs.Batches.{by_batch, is_by_batch}
use Rattle.mq_law_manager.proofs.Needed.{next_lacks, put_lacks}
use Rattle.mq_law_manager.proofs.Puts.{next_unborn}
use Rattle.mq_law_manager.proofs.Stocks.{connection_mem}
use Rattle.mq_law_manager.proofs.Objects.{both}
use Rattle.mq_law_log.specs.Keeps.{AreLaned, AreUnlisted, IsNew, HoldsJust}
use Rattle.mq_law_log.specs.Sound.{all_rows, IsItem, item_ident, AreApart, IsUnit, LeadsWell, IsLogSound}

pub all_of : {A : Type 0} (P : A → Type 0) (xs : List A) → ((x : A) → Mem x xs → P x) → AllByRecursion P xs
all_of P [] h = tt
all_of P (x ∷ xs) h = (h x (inl refl), all_of P xs (λ y m. h y (inr m)))

-- a queue of the list is the one of its name
pub entry_found : (qs : List Queue) → AreNamed qs → (q : Queue) → Mem q qs → queue_in q.name qs ≡ q
entry_found [] n q m = absurd m
entry_found (x ∷ xs) n q (inl e) = ap (λ (y : Queue). if bytes_eq q.name y.name then y else queue_in q.name xs) (sym e) ∙ ap (λ (b : Bool). if b then q else queue_in q.name xs) (name_self q.name)
entry_found (x ∷ xs) n q (inr m) = ap (λ (b : Bool). if b then x else queue_in q.name xs) (name_turned q.name x.name ∙ n.0 q m) ∙ entry_found xs n.1 q m

pub rows_of : (p : Plain) → AreNamed p.queues → (q : Queue) → Mem q p.queues → (view p).rows q.name ≡ q.rows
rows_of p n q m = ap (λ (x : Queue). x.rows) (entry_found p.queues n q m)

-- what holds of the rows of each name holds of each queue
pub each_queue : (P : List Row → Type 0) (p : Plain) → AreNamed p.queues → ((name : List ℕ) → P ((view p).rows name)) → AllByRecursion (λ (q : Queue). P q.rows) p.queues
each_queue P p n h = all_of (λ (q : Queue). P q.rows) p.queues (λ q m. subst P (rows_of p n q m) (h q.name))

-- Lanes

lane_le : (l1 l2 a1 a2 : ℕ) → (nat_lt l1 l2 || ((l1 == l2) && nat_lt a1 a2)) ≡ true → nat_le l1 l2 ≡ true
lane_le l1 l2 a1 a2 e = grind (arith, nat_tests)

lanes_behind : (place : Place) (rows : List Row) → AllBehind place rows → AllByRecursion (λ (other : Row). nat_le place.lane other.place.lane ≡ true) rows
lanes_behind place [] h = tt
lanes_behind place (row ∷ rows) h = (lane_le place.lane row.place.lane place.arrival row.place.arrival h.0, lanes_behind place rows h.1)

laned_of : (rows : List Row) → AreInOrder rows → AreLaned rows
laned_of [] h = tt
laned_of (row ∷ rows) h = (lanes_behind row.place rows h.0, laned_of rows h.1)

-- Each ident once, on all queues

lacks_append : (i : Ident) (xs ys : List Row) → Lacks i xs → Lacks i ys → Lacks i (xs ++ ys)
lacks_append i [] ys a b = b
lacks_append i (x ∷ xs) ys a b = (a.0, lacks_append i xs ys a.1 b)

distinct_append : (xs ys : List Row) → AreDistinct xs → AreDistinct ys → ((x : Row) → Mem x xs → Lacks x.message.ident ys) → AreDistinct (xs ++ ys)
distinct_append [] ys a b h = b
distinct_append (x ∷ xs) ys a b h = (lacks_append x.message.ident xs ys a.0 (h x (inl refl)), distinct_append xs ys a.1 b (λ y m. h y (inr m)))

-- no row of the other queues has the ident
lacks_all : (i : Ident) (qs : List Queue) → ((q : Queue) → Mem q qs → Lacks i q.rows) → Lacks i (all_rows qs)
lacks_all i [] h = tt
lacks_all i (q ∷ qs) h = lacks_append i q.rows (all_rows qs) (h q (inl refl)) (lacks_all i qs (λ d m. h d (inr m)))

pub lacks_by : (i : Ident) (rows : List Row) → ((y : Row) → Mem y rows → y.message.ident ≢ i) → Lacks i rows
lacks_by i [] h = tt
lacks_by i (y ∷ ys) h = (ident_no y.message.ident i (h y (inl refl)), lacks_by i ys (λ z m. h z (inr m)))

distinct_all : (p : Plain) → Sound p → AreNamed p.queues → (qs : List Queue) → ((q : Queue) → Mem q qs → Mem q p.queues) → AreNamed qs → AreDistinct (all_rows qs)
distinct_all p h n [] there names = tt
distinct_all p h n (q ∷ qs) there names = distinct_append q.rows (all_rows qs)
    (subst AreDistinct (rows_of p n q (there q (inl refl))) (distinct_of ((view p).rows q.name) (h.apart.once q.name)))
    (distinct_all p h n qs (λ d m. there d (inr m)) names.1)
    (λ x m. lacks_all x.message.ident qs (λ d k. lacks_by x.message.ident d.rows (λ y w e. cc (
      names.0 d k,
      name_self q.name,
      ap (bytes_eq q.name) (h.apart.alone q.name d.name x y
          (subst (λ (rows : List Row). Mem x rows) (sym (rows_of p n q (there q (inl refl)))) m) (subst (λ (rows : List Row). Mem y rows) (sym (rows_of p n d (there d (inr k)))) w) (sym e)),
    ))))

-- Batches

same_bool : (a b : Bool) → (a ≡ true → b ≡ true) → (b ≡ true → a ≡ true) → a ≡ b
same_bool true b f g = sym (f refl)
same_bool false true f g = g refl
same_bool false false f g = refl

holds_just : (p : Plain) → Sound p → AreNamed p.queues → (b : Batch) → batch_of b.channel p.channels.batches ≡ Some b → AllByRecursion (HoldsJust b) p.queues
holds_just p h n b is = all_of (HoldsJust b) p.queues (λ q m. all_of _ q.rows (λ x k. same_bool (held_by (holders.Batch b.channel) x.by) (selects (Among b.queue b.idents) q.name x)
    (λ e.
    let by : x.by ≡ Some (holders.Batch b.channel) = by_batch b.channel x.by e in
    let of = subst (λ (o : Option Batch). IsOf q.name x.message.ident o ((view p).doubt b.channel)) is (h.batched.of q.name x b.channel (on q m x k) by) in
    ap (λ (name : List ℕ). bytes_eq name b.queue && list_any (same_ident x.message.ident) b.idents) of.0 ∙ ap (λ (t : Bool). t && list_any (same_ident x.message.ident) b.idents) (name_self b.queue) ∙ mem_any x.message.ident b.idents of.1)
    (λ e.
    let s = both (bytes_eq q.name b.queue) (list_any (same_ident x.message.ident) b.idents) e in
    let full = h.batched.full b.channel b x.message.ident is (any_mem x.message.ident b.idents s.1) in
    let one : x ≡ full.row = one_row ((view p).rows b.queue) x full.row (h.apart.once b.queue) (subst (λ (name : List ℕ). Mem x ((view p).rows name)) (name_is q.name b.queue s.0) (on q m x k)) full.there (sym full.is) in
    is_by_batch b.channel x.by (ap (λ (r : Row). r.by) one ∙ full.by))))
  where
    on : (q : Queue) → Mem q p.queues → (x : Row) → Mem x q.rows → Mem x ((view p).rows q.name)
    on q m x k = subst (λ (rows : List Row). Mem x rows) (sym (rows_of p n q m)) k

-- Units

doubts_mem : (i : Ident) (o : Option InDoubt) → doubts i o ≡ true → Mem i (listed o)
doubts_mem i None e = absurd cc
doubts_mem i (Some d) e = any_mem i d.idents e

pub unlisted : (i : Ident) (p : Plain) → IsUnlisted i p.channels.senders → AreUnlisted i p
unlisted i p u = all_of (λ (s : SenderSide). doubts i s.hardened.in_doubt ≡ false) p.channels.senders (λ s m. is_false (doubts i s.hardened.in_doubt) (λ e. u s m (doubts_mem i s.hardened.in_doubt e)))

pub new_put : (p : Plain) → IsSound p → (n : ℕ) (a : Add) → Mem a ((view p).puts n) → IsNew a.message.ident p
new_put p h n a m = record { rows = each_queue (Lacks a.message.ident) p h.named (λ name. put_lacks name n a p h.facts m); lists = unlisted a.message.ident p (h.stocked.routed.waiting n a m) }

agrees_self : (b : Bool) → agrees b b ≡ true
agrees_self true = refl
agrees_self false = refl

pub fit_fits : (o : Option LocalQueue) (m : Message) → IsFit o m → fits_local o m ≡ true
fit_fits None m f = absurd (cc f.0)
fit_fits (Some q) m f = ap (agrees (is_transmission q.usage)) f.1 ∙ agrees_self (is_transmission q.usage)

handles_lead : (p : Plain) → IsSound p → (n : ℕ) (c : Connection) → connection_at n p.connections ≡ Some c → AllByRecursion (λ (h : Handle). LeadsWell h p) c.handles
handles_lead p h n c live = all_of (λ (x : Handle). LeadsWell x p) c.handles (λ x m e out message is.
    let l = h.stocked.routed.led c x (connection_mem n p.connections c live) m e in
    fit_fits (local_of (queue_at x.leads) p.definitions) message (l.there, ap is_some is ∙ l.routed out))

items_are : (p : Plain) → IsSound p → (n : ℕ) (items : List Item) → ((a : Add) → Mem a (puts_in items) → Mem a ((view p).puts n)) → ((t : Taken) → Mem t (takes_in items) → Mem t ((view p).takes n)) → AllByRecursion (λ (item : Item). IsItem item p) items
items_are p h n [] puts takes = tt
items_are p h n (Put q m ∷ items) puts takes =
    let a = puts (record { queue = q; message = m }) (inl refl) in
    ((fit_fits (local_of q p.definitions) m (h.stocked.puts n (record { queue = q; message = m }) a, h.stocked.routed.puts n (record { queue = q; message = m }) a), new_put p h n (record { queue = q; message = m }) a), items_are p h n items (λ x k. puts x (inr k)) takes)
items_are p h n (Take q i b ∷ items) puts takes =
    let t = h.facts.taken.there n (record { queue = q; ident = i; persistent = b }) (takes (record { queue = q; ident = i; persistent = b }) (inl refl)) in
    (record { row = t.row; there = t.there; own = t.is; kind = t.lasts; held = ap is_by_unit t.by }, items_are p h n items puts (λ x k. takes x (inr k)))

-- idents of a unit differ: of puts, of gets, and of one and the other
abbrev Cross : List Add → List Taken → Type 0
Cross ps ts = (a : Add) (t : Taken) → Mem a ps → Mem t ts → a.message.ident ≢ t.ident

apart_put : (i : Ident) (items : List Item) → ((a : Add) → Mem a (puts_in items) → i ≢ a.message.ident) → ((t : Taken) → Mem t (takes_in items) → i ≢ t.ident) → AllByRecursion (λ (other : Item). same_ident (item_ident other) i ≡ false) items
apart_put i [] puts takes = tt
apart_put i (Put q m ∷ items) puts takes = (ident_no m.ident i (λ e. puts (record { queue = q; message = m }) (inl refl) (sym e)), apart_put i items (λ a k. puts a (inr k)) takes)
apart_put i (Take q j b ∷ items) puts takes = (ident_no j i (λ e. takes (record { queue = q; ident = j; persistent = b }) (inl refl) (sym e)), apart_put i items puts (λ t k. takes t (inr k)))

items_apart : (items : List Item) → Differ put_ident (puts_in items) → Differ taken_ident (takes_in items) → Cross (puts_in items) (takes_in items) → AreApart items
items_apart [] puts takes cross = tt
items_apart (Put q m ∷ items) puts takes cross =
    (apart_put m.ident items puts.0 (λ t k. cross (record { queue = q; message = m }) t (inl refl) k), items_apart items puts.1 takes (λ a t k l. cross a t (inr k) l))
items_apart (Take q i b ∷ items) puts takes cross =
    (apart_put i items (λ a k e. cross a (record { queue = q; ident = i; persistent = b }) k (inl refl) (sym e)) takes.0, items_apart items puts takes.1 (λ a t k l. cross a t k (inr l)))

unit_is : (p : Plain) → IsSound p → (n : ℕ) (c : Connection) → connection_at n p.connections ≡ Some c → IsUnit c.unit p
unit_is p h n c live =
    let puts : (view p).puts n ≡ puts_in c.unit = ap (λ (o : Option Connection). puts_in (items_of o)) live in
    let takes : (view p).takes n ≡ takes_in c.unit = ap (λ (o : Option Connection). takes_in (items_of o)) live in (
      items_are p h n c.unit (λ a m. subst (λ (xs : List Add). Mem a xs) (sym puts) m) (λ t m. subst (λ (xs : List Taken). Mem t xs) (sym takes) m),
      items_apart c.unit (subst (Differ put_ident) puts (h.facts.apart.put_once n)) (subst (Differ taken_ident) takes (h.facts.taken.take_once n))
          (λ a t k l e.
          let held = h.facts.taken.there n t (subst (λ (xs : List Taken). Mem t xs) (sym takes) l) in
          h.facts.apart.waiting n a t.queue held.row (subst (λ (xs : List Add). Mem a xs) (sym puts) k) held.there (e ∙ sym held.is)),
    )

pub sound_logs : (p : Plain) → IsSound p → IsLogSound p
sound_logs p h = record {
  laned = each_queue AreLaned p h.named (λ name. laned_of ((view p).rows name) (h.facts.ordered.in_order name));
  once = distinct_all p h.facts h.named p.queues (λ q m. m) h.named;
  stocked = h.stocked.placed;
  next = record { rows = each_queue (Lacks (next_ident p)) p h.named (λ name. next_lacks name p h.facts); lists = unlisted (next_ident p) p (h.stocked.routed.given (next_ident p) (next_unborn p)) };
  handles = handles_lead p h;
  units = unit_is p h;
  batches = holds_just p h.facts h.named;
}
