-- Rows stand on queues that are defined where a manager begins: at a first start, and at a restart.
use Rattle.std.proofs.Common.{ℕ, ◌≡◌, ◌+◌, Bool, true, false, List, [], ◌∷◌, refl, ap, sym, subst, ◌∙◌, map, arith, inl, inr}
use Rattle.std.specs.Prelude.{◌==◌, ◌&&◌, nat_lt, Option, None, Some, is_some, if◌then◌else◌, ◌||◌}
use Rattle.std.specs.Str.{bytes_eq}
use Rattle.std.specs.List.{list_any}
use Rattle.std.proofs.lemmas.Bool.Decides.{nat_tests}
use Rattle.mq_message.specs.declared.message.Ident.{Ident}
use Rattle.mq_message.specs.declared.place.Holder.TheVariants as holders
use Rattle.mq_queue.specs.declared.row.Row.{Row}
use Rattle.mq_law_manager.specs.View.{view}
use Rattle.mq_sync.specs.declared.data.InDoubt.{InDoubt}
use Rattle.mq_objects.specs.declared.object.LocalQueue.{LocalQueue}
use Rattle.mq_objects.specs.declared.object.Object.{Object}
use Rattle.mq_objects.specs.declared.object.Object.TheVariants as objects
use Rattle.mq_objects.specs.Names.{Queues, as_local, local_of, locals_in, object_in, is_object, space_of, name_of}
use Rattle.mq_calls.specs.State.{Plain, Given, LogState, Queue}
use Rattle.mq_calls.specs.declared.state.Batch.{Batch}
use Rattle.mq_calls.specs.declared.state.SenderSide.{SenderSide}
use Rattle.mq_calls.specs.Reads.{queue_in, batch_of, in_doubt_of, is_persistent}
use Rattle.mq_calls.specs.Changes.{comes_before}
use Rattle.mq_calls.specs.Images.{has_batch, rests_by, lasting_row, shelf_of, shelves_of, lasting, numbered, queue_on, begun, raised}
use Rattle.mq_calls.specs.declared.image.Image.{Image}
use Rattle.mq_calls.specs.declared.image.Shelf.{Shelf}
use Rattle.mq_calls.specs.Recovery.{IsImage, IsShelf, IsLasting, IsOfDoubt, IsKnown, IsDoubtKnown, AreKnown}
use Rattle.mq_law_manager.specs.Facts.{Mem, Chain, AreOnce, AreNamed, IsStocked, IsFormed, IsUnlisted, AreSorted, listed, has_queue}
use Rattle.mq_law_manager.proofs.Lists.{bool_case, is_false, mem_any}
use Rattle.mq_law_manager.proofs.Routes.{side_found}
use Rattle.mq_law_manager.proofs.Named.{name_is, name_self}
use Rattle.mq_law_manager.proofs.Numbered.{was_given, rows_on, rows_begun}
use Rattle.mq_law_manager.proofs.Restarting.{mem_lasting, rows_lasting}
use Rattle.mq_law_manager.proofs.Beginning.{all_mem, pairs_chain, on_shelf, known}

-- a shelf of that name is there
abbrev pub names_on : List Shelf → List (List ℕ)
names_on ss = map (λ (s : Shelf). s.name) ss

abbrev pub has_shelf : List ℕ → List Shelf → Bool
has_shelf name ss = list_any (bytes_eq name) (names_on ss)

-- What of an image its stock is: shelves are there for local queues, and rows stand on no others.
pub record ImageStocked (number : ℕ) (image : Image) : Type 0 where
  pub once : AreOnce image.definitions.objects
  pub placed : (name : List ℕ) → is_some (local_of name image.definitions) ≡ true → has_shelf name image.shelves ≡ true
  pub rows : (q : List ℕ) (h : Row) → Mem h (rows_on q image.shelves) → is_some (local_of q image.definitions) ≡ true
  pub named : Chain (λ (s t : Shelf). bytes_eq s.name t.name ≡ false) image.shelves
  pub formed : (q : List ℕ) (h : Row) → Mem h (rows_on q image.shelves) → IsFormed (local_of q image.definitions) h
  pub given : (i : Ident) → was_given number image.incarnation i ≡ true → IsUnlisted i image.senders
  pub sorted : AreSorted image.senders
  pub doubted : (q : List ℕ) (h : Row) (s : SenderSide) → Mem h (rows_on q image.shelves) → is_persistent h.message ≡ true → Mem s image.senders → Mem h.message.ident (listed s.hardened.in_doubt) → h.by ≡ Some (holders.Batch s.channel)

has_begun : (name : List ℕ) (ss : List Shelf) → has_queue name (map queue_on ss) ≡ has_shelf name ss
has_begun name [] = refl
has_begun name (s ∷ ss) = ap (λ (b : Bool). bytes_eq name s.name || b) (has_begun name ss)

-- a row that is numbered was there
begun_row : (name : List ℕ) (ss : List Shelf) (h : Row) → Mem h (queue_in name (map queue_on ss)).rows → (x : Row) × Mem x (rows_on name ss)
begun_row name ss h m = first (rows_on name ss) (subst (λ (rows : List Row). Mem h rows) (rows_begun name ss) m)
  where
    first : (rows : List Row) → Mem h (numbered 0 rows) → (x : Row) × Mem x rows
    first [] n = absurd n
    first (row ∷ rows) n = (row, inl refl)

queue_mem : (ss : List Shelf) (q : Queue) → Mem q (map queue_on ss) → (s : Shelf) × Mem s ss × (q ≡ queue_on s)
queue_mem [] q m = absurd m
queue_mem (s ∷ ss) q (inl e) = (s, inl refl, e)
queue_mem (s ∷ ss) q (inr m) = let k = queue_mem ss q m in (k.0, inr k.1, k.2)

begun_named : (ss : List Shelf) → Chain (λ (s t : Shelf). bytes_eq s.name t.name ≡ false) ss → AreNamed (map queue_on ss)
begun_named [] h = tt
begun_named (s ∷ ss) h = (λ q m. let k = queue_mem ss q m in ap (λ (x : Queue). bytes_eq s.name x.name) k.2 ∙ h.0 k.0 k.1, begun_named ss h.1)

-- numbers of rows say nothing of their form
numbered_formed : (o : Option LocalQueue) (n : ℕ) (rows : List Row) → ((h : Row) → Mem h rows → IsFormed o h) → (h : Row) → Mem h (numbered n rows) → IsFormed o h
numbered_formed o n [] f h m = absurd m
numbered_formed o n (row ∷ rows) f h (inl e) = let k = f row (inl refl) in subst (IsFormed o) (sym e) (record { routed = k.routed; lane = k.lane })
numbered_formed o n (row ∷ rows) f h (inr m) = numbered_formed o (n + 1) rows (λ x k. f x (inr k)) h m

-- nor of who holds them
numbered_like : (P : Row → Type 0) (n : ℕ) (rows : List Row) → ((r : Row) (k : ℕ) → P r → P (record r { place = record r.place { arrival = k } })) → ((h : Row) → Mem h rows → P h) → (h : Row) → Mem h (numbered n rows) → P h
numbered_like P n [] f g h m = absurd m
numbered_like P n (row ∷ rows) f g h (inl e) = subst P (sym e) (f row (n + 1) (g row (inl refl)))
numbered_like P n (row ∷ rows) f g h (inr m) = numbered_like P (n + 1) rows f (λ x k. g x (inr k)) h m

abbrev IsDoubtsRow : List SenderSide → Row → Type 0
IsDoubtsRow sides h = (s : SenderSide) → is_persistent h.message ≡ true → Mem s sides → Mem h.message.ident (listed s.hardened.in_doubt) → h.by ≡ Some (holders.Batch s.channel)

pub begun_stocked : (given : Given) (image : Image) (log : LogState) (moment : ℕ) → ImageStocked given.number image → IsStocked (begun given image log moment)
begun_stocked given image log moment h = record {
  once = h.once;
  placed = λ name e. has_begun name image.shelves ∙ h.placed name e;
  rows = λ q x m. let k = begun_row q image.shelves x m in h.rows q k.0 k.1;
  puts = λ n a m. absurd m;
  routed = record {
    rows = λ q x m. numbered_formed (local_of q image.definitions) 0 (rows_on q image.shelves) (h.formed q) x (subst (λ (rows : List Row). Mem x rows) (rows_begun q image.shelves) m);
    puts = λ n a m. absurd m;
    led = λ c x m k e. absurd m;
    given = h.given;
    waiting = λ n a m. absurd m;
    sorted = h.sorted;
    doubted = λ q x s m e k l. numbered_like (IsDoubtsRow image.senders) 0 (rows_on q image.shelves) (λ r n f. f) (λ y n t. h.doubted q y t n) x (subst (λ (rows : List Row). Mem x rows) (rows_begun q image.shelves) m) s e k l;
  };
}

pub begun_names : (given : Given) (image : Image) (log : LogState) (moment : ℕ) → ImageStocked given.number image → AreNamed (begun given image log moment).queues
begun_names given image log moment h = begun_named image.shelves h.named

-- What lasts of a manager

pub has_lasting : (name : List ℕ) (bs : List Batch) (qs : List Queue) → has_shelf name (shelves_of bs qs) ≡ has_queue name qs
has_lasting name bs [] = refl
has_lasting name bs (q ∷ qs) = ap (λ (b : Bool). bytes_eq name q.name || b) (has_lasting name bs qs)

shelf_mem : (bs : List Batch) (qs : List Queue) (s : Shelf) → Mem s (shelves_of bs qs) → (q : Queue) × Mem q qs × (s ≡ shelf_of bs q)
shelf_mem bs [] s m = absurd m
shelf_mem bs (q ∷ qs) s (inl e) = (q, inl refl, e)
shelf_mem bs (q ∷ qs) s (inr m) = let k = shelf_mem bs qs s m in (k.0, inr k.1, k.2)

lasting_named : (bs : List Batch) (qs : List Queue) → AreNamed qs → Chain (λ (s t : Shelf). bytes_eq s.name t.name ≡ false) (shelves_of bs qs)
lasting_named bs [] h = tt
lasting_named bs (q ∷ qs) h = (λ s m. let k = shelf_mem bs qs s m in ap (λ (x : Shelf). bytes_eq q.name x.name) k.2 ∙ h.0 k.0 k.1, lasting_named bs qs h.1)

last_formed : (bs : List Batch) (o : Option LocalQueue) (row : Row) → IsFormed o row → IsFormed o (lasting_row bs row)
last_formed bs o row f = record { routed = f.routed; lane = f.lane }

-- an ident that the next incarnation has still to give was so before
unborn_before : (i : Ident) (m n k s : ℕ) → ((i.manager == m) && (nat_lt (n + s + 1) i.incarnation || ((i.incarnation == n + s + 1) && nat_lt 0 i.number))) ≡ true
    → ((i.manager == m) && (nat_lt n i.incarnation || ((i.incarnation == n) && nat_lt k i.number))) ≡ true
unborn_before i m n k s e = grind (arith, nat_tests)

-- what a unit in doubt holds is held still, since no batch is beside it
doubt_rests : (bs : List Batch) (c : List ℕ) (row : Row) → row.by ≡ Some (holders.Batch c) → has_batch c bs ≡ false → (lasting_row bs row).by ≡ Some (holders.Batch c)
doubt_rests bs c row e none = ap (rests_by bs) e ∙ ap (λ (b : Bool). if b then None else Some (holders.Batch c)) none

batch_found : (c : List ℕ) (bs : List Batch) → has_batch c bs ≡ true → (b : Batch) × (batch_of c bs ≡ Some b)
batch_found c [] e = absurd cc
batch_found c (b ∷ bs) e = bool_case (bytes_eq c b.channel) (λ t. (t || has_batch c bs) ≡ true → (x : Batch) × ((if t then Some b else batch_of c bs) ≡ Some x)) (λ z w. (b, refl)) (λ z w. batch_found c bs w) e

no_batch_beside : (p : Plain) (s : SenderSide) (i : Ident) → ((c : List ℕ) (b : Batch) → (view p).batch c ≡ Some b → (view p).doubt c ≡ None) → AreSorted p.channels.senders → Mem s p.channels.senders → Mem i (listed s.hardened.in_doubt) → has_batch s.channel p.channels.batches ≡ false
no_batch_beside p s i one sorted m l = is_false (has_batch s.channel p.channels.batches) (λ e.
    let b = batch_found s.channel p.channels.batches e in
    absurd (subst (λ (o : Option InDoubt). Mem i (listed o)) (ap in_doubt_of (sym (side_found p.channels.senders s sorted m)) ∙ one s.channel b.0 b.1) l))

pub lasting_stocked : (started : ℕ) (p : Plain) → ((c : List ℕ) (b : Batch) → (view p).batch c ≡ Some b → (view p).doubt c ≡ None) → AreNamed p.queues → IsStocked p → ImageStocked p.given.number (raised started (lasting p))
lasting_stocked started p one n s = record {
  once = s.once;
  placed = λ name e. has_lasting name p.channels.batches p.queues ∙ s.placed name e;
  rows = λ q h m.
      let k = mem_lasting p.channels.batches (queue_in q p.queues).rows h (subst (λ (rows : List Row). Mem h rows) (rows_lasting q p.channels.batches p.queues) m) in
      s.rows q k.row k.there;
  named = lasting_named p.channels.batches p.queues n;
  formed = λ q h m.
      let k = mem_lasting p.channels.batches (queue_in q p.queues).rows h (subst (λ (rows : List Row). Mem h rows) (rows_lasting q p.channels.batches p.queues) m) in
      subst (IsFormed (local_of q p.definitions)) (sym k.is) (last_formed p.channels.batches (local_of q p.definitions) k.row (s.routed.rows q k.row k.there));
  sorted = s.routed.sorted;
  doubted = λ q h x m e k l.
      let r = mem_lasting p.channels.batches (queue_in q p.queues).rows h (subst (λ (rows : List Row). Mem h rows) (rows_lasting q p.channels.batches p.queues) m) in
      let listed_row = subst (λ (y : Row). Mem y.message.ident (listed x.hardened.in_doubt)) r.is l in
      ap (λ (y : Row). y.by) r.is ∙ doubt_rests p.channels.batches x.channel r.row (s.routed.doubted q r.row x r.there r.persistent k listed_row) (no_batch_beside p x r.row.message.ident one s.routed.sorted k listed_row);
  given = λ i e. s.routed.given i (unborn_before i p.given.number p.numbers.incarnation p.numbers.idents started e);
}

-- An image of a log

abbrev local_names : List Object → List (List ℕ)
local_names os = map (λ (q : LocalQueue). q.name) (locals_in os)

name_listed : (name : List ℕ) (os : List Object) → is_some (as_local (object_in Queues name os)) ≡ true → list_any (bytes_eq name) (local_names os) ≡ true
name_listed name [] e = absurd cc
name_listed name (objects.Local q ∷ rest) e = bool_case (bytes_eq name q.name) (λ b. is_some (as_local (if b then Some (objects.Local q) else object_in Queues name rest)) ≡ true → (b || list_any (bytes_eq name) (local_names rest)) ≡ true)
    (λ z f. refl) (λ z f. name_listed name rest f) e
name_listed name (objects.Alias q ∷ rest) e = bool_case (bytes_eq name q.name) (λ b. is_some (as_local (if b then Some (objects.Alias q) else object_in Queues name rest)) ≡ true → list_any (bytes_eq name) (local_names rest) ≡ true)
    (λ z f. absurd cc) (λ z f. name_listed name rest f) e
name_listed name (objects.Remote q ∷ rest) e = bool_case (bytes_eq name q.name) (λ b. is_some (as_local (if b then Some (objects.Remote q) else object_in Queues name rest)) ≡ true → list_any (bytes_eq name) (local_names rest) ≡ true)
    (λ z f. absurd cc) (λ z f. name_listed name rest f) e
name_listed name (objects.Channel q ∷ rest) e = name_listed name rest e
name_listed name (objects.Process q ∷ rest) e = name_listed name rest e

listed_object : (name : List ℕ) (os : List Object) → list_any (bytes_eq name) (local_names os) ≡ true → (q : LocalQueue) × Mem (objects.Local q) os × (name ≡ q.name)
listed_object name [] e = absurd cc
listed_object name (objects.Local q ∷ rest) e = bool_case (bytes_eq name q.name) (λ b. bytes_eq name q.name ≡ b → (b || list_any (bytes_eq name) (local_names rest)) ≡ true → (x : LocalQueue) × Mem (objects.Local x) (objects.Local q ∷ rest) × (name ≡ x.name))
    (λ z w f. (q, inl refl, name_is name q.name w)) (λ z w f. let k = listed_object name rest f in (k.0, inr k.1, k.2)) refl e
listed_object name (objects.Alias q ∷ rest) e = let k = listed_object name rest e in (k.0, inr k.1, k.2)
listed_object name (objects.Remote q ∷ rest) e = let k = listed_object name rest e in (k.0, inr k.1, k.2)
listed_object name (objects.Channel q ∷ rest) e = let k = listed_object name rest e in (k.0, inr k.1, k.2)
listed_object name (objects.Process q ∷ rest) e = let k = listed_object name rest e in (k.0, inr k.1, k.2)

-- (no other queue has the name of a local one)
apart : (name own : List ℕ) (rest : List Object) → list_any (bytes_eq name) (local_names rest) ≡ true → ((q : LocalQueue) → Mem (objects.Local q) rest → bytes_eq own q.name ≡ false) → bytes_eq name own ≡ true → ⊥
apart name own rest e once is =
    let k = listed_object name rest e in
    cc (once k.0 k.1, ap (bytes_eq own) (sym k.2) ∙ ap (bytes_eq own) (name_is name own is) ∙ name_self own)

listed_found : (name : List ℕ) (os : List Object) → AreOnce os → list_any (bytes_eq name) (local_names os) ≡ true → is_some (as_local (object_in Queues name os)) ≡ true
listed_found name [] once e = absurd cc
listed_found name (objects.Local q ∷ rest) once e = bool_case (bytes_eq name q.name) (λ b. (b || list_any (bytes_eq name) (local_names rest)) ≡ true → is_some (as_local (if b then Some (objects.Local q) else object_in Queues name rest)) ≡ true)
    (λ z f. refl) (λ z f. listed_found name rest once.1 f) e
listed_found name (objects.Alias q ∷ rest) once e = bool_case (bytes_eq name q.name) (λ b. bytes_eq name q.name ≡ b → is_some (as_local (if b then Some (objects.Alias q) else object_in Queues name rest)) ≡ true)
    (λ z w. absurd (apart name q.name rest e (λ l m. once.0 (objects.Local l) m) w)) (λ z w. listed_found name rest once.1 e) refl
listed_found name (objects.Remote q ∷ rest) once e = bool_case (bytes_eq name q.name) (λ b. bytes_eq name q.name ≡ b → is_some (as_local (if b then Some (objects.Remote q) else object_in Queues name rest)) ≡ true)
    (λ z w. absurd (apart name q.name rest e (λ l m. once.0 (objects.Local l) m) w)) (λ z w. listed_found name rest once.1 e) refl
listed_found name (objects.Channel q ∷ rest) once e = listed_found name rest once.1 e
listed_found name (objects.Process q ∷ rest) once e = listed_found name rest once.1 e

shelf_listed : (ss : List Shelf) (s : Shelf) → Mem s ss → has_shelf s.name ss ≡ true
shelf_listed [] s m = absurd m
shelf_listed (x ∷ xs) s (inl e) = ap (λ (y : Shelf). bytes_eq s.name y.name || has_shelf s.name xs) (sym e) ∙ ap (λ (b : Bool). b || has_shelf s.name xs) (name_self s.name)
shelf_listed (x ∷ xs) s (inr m) = right (bytes_eq s.name x.name) (has_shelf s.name xs) (shelf_listed xs s m)
  where
    right : (a b : Bool) → b ≡ true → (a || b) ≡ true
    right true b e = refl
    right false b e = e

doubt_known : (number incarnation : ℕ) (i : Ident) (o : Option InDoubt) → IsDoubtKnown number incarnation o → Mem i (listed o) → IsKnown number incarnation i
doubt_known number incarnation i None k m = absurd m
doubt_known number incarnation i (Some d) k m = all_mem (IsKnown number incarnation) d.idents i k m

pub image_stocked : (number : ℕ) (image : Image) → IsImage image → AreKnown number image → ImageStocked number (raised 0 image)
image_stocked number image h known_all = record {
  once = once;
  placed = λ name e. ap (list_any (bytes_eq name)) h.shelves ∙ name_listed name image.definitions.objects e;
  rows = λ q x m.
      let s = on_shelf q image.shelves x m in
      listed_found q image.definitions.objects once (ap (list_any (bytes_eq q)) (sym h.shelves) ∙ ap (λ (n : List ℕ). has_shelf n image.shelves) s.2 ∙ shelf_listed image.shelves s.0 s.1);
  named = pairs_chain (λ (s t : Shelf). bytes_eq s.name t.name ≡ false) image.shelves h.named;
  formed = λ q x m.
      let s = on_shelf q image.shelves x m in
      let l : IsLasting image s.0.name x = all_mem (IsLasting image s.0.name) s.0.rows x (all_mem (IsShelf image) image.shelves s.0 h.rows s.1).rows s.3 in
      subst (λ (n : List ℕ). IsFormed (local_of n image.definitions) x) (sym s.2) (record { routed = l.routed; lane = l.lane });
  sorted = pairs_chain (λ (s t : SenderSide). comes_before s.channel t.channel ≡ true) image.senders h.senders_sorted;
  doubted = λ q x t m e k l.
      let s = on_shelf q image.shelves x m in
      let r : IsLasting image s.0.name x = all_mem (IsLasting image s.0.name) s.0.rows x (all_mem (IsShelf image) image.shelves s.0 h.rows s.1).rows s.3 in
      all_mem (IsOfDoubt x) image.senders t r.doubted k (mem_any x.message.ident (listed t.hardened.in_doubt) l);
  given = λ i e s m n. cc (
    e,
    known i.manager number i.incarnation image.incarnation i.number
        (doubt_known number image.incarnation i s.hardened.in_doubt (all_mem (λ (x : SenderSide). IsDoubtKnown number image.incarnation x.hardened.in_doubt) image.senders s known_all.doubts m) n),
  );
}
  where
    once : AreOnce image.definitions.objects
    once = pairs_chain (λ (a b : Object). is_object (space_of a) (name_of a) b ≡ false) image.definitions.objects h.once
