-- The rows that a channel's batch holds are those that its unit in doubt lists, each once.
use Rattle.std.proofs.Common.{ℕ, zero, suc, ◌<◌, ◌≤◌, ◌≡◌, ◌≢◌, ◌⊎◌, Bool, true, false, List, [], ◌∷◌, ◌++◌, length, refl, ap, sym, subst, ◌∙◌, arith, inl, inr}
use Rattle.std.specs.Prelude.{Option, Some, None, if◌then◌else◌, take, map, filter, not, ◌&&◌, ◌||◌}
use Rattle.std.specs.Str.{bytes_eq}
use Rattle.std.specs.List.{flat_map, list_any}
use Rattle.std.proofs.lemmas.List.{length-append, length-take, take_all}
use Rattle.mq_message.specs.declared.message.Ident.{Ident}
use Rattle.mq_message.specs.declared.place.Holder.{Holder}
use Rattle.mq_message.specs.declared.place.Holder.TheVariants as holders
use Rattle.mq_queue.specs.declared.row.Row.{Row}
use Rattle.mq_queue.specs.Rows.{same_ident, held_by, is_free, keep, retag}
use Rattle.mq_queue.specs.Queues.{freed}
use Rattle.mq_sync.specs.declared.data.InDoubt.{InDoubt}
use Rattle.mq_calls.specs.State.{Plain, Queue}
use Rattle.mq_calls.specs.declared.state.Batch.{Batch}
use Rattle.mq_calls.specs.declared.records.Remove.{Remove}
use Rattle.mq_calls.specs.State.Which.{Among}
use Rattle.mq_calls.specs.Changes.{selects, release_if}
use Rattle.mq_calls.specs.Recovery.{listed}
use Rattle.mq_calls.specs.Reads.{queue_in, stored, batch_of, sender_data, in_doubt_of}
use Rattle.mq_spec_manager.specs.Agents.{held_on, held_rows}
use Rattle.mq_place.specs.States.{QueueState, queues_of, on_queue, on_queues}
use Rattle.mq_core.specs.Views.{PartsValue}
use Rattle.mq_core.specs.Placing.{with_states}
use Rattle.mq_law_manager.specs.View.{view}
use Rattle.mq_law_manager.specs.Facts.{Mem, Chain, Differ, ident_of, IsOf, AreNamed, Sound}
use Rattle.mq_agents.specs.Settling.{AreLone, IsShortOf, none_named, row_in, each_in, settled_in, row_settled, each_settled, rows_settled, with_named}
use Rattle.mq_law_manager.proofs.Lists.{mem_append, mem_before, mem_behind, ident_yes, same_self, name_self, one_row}
use Rattle.mq_law_manager.proofs.Named.{name_turned}
use Rattle.mq_law_manager.proofs.Batches.{by_batch}

-- Fewer than those that they differ among.

abbrev less : {A : Type 0} (x : A) (xs : List A) → Mem x xs → List A
less x [] m = []
less x (y ∷ ys) (inl e) = ys
less x (y ∷ ys) (inr m) = y ∷ less x ys m

less_length : {A : Type 0} (x : A) (xs : List A) (m : Mem x xs) → length xs ≡ suc (length (less x xs m))
less_length x [] m = absurd m
less_length x (y ∷ ys) (inl e) = refl
less_length x (y ∷ ys) (inr m) = ap suc (less_length x ys m)

less_mem : {A : Type 0} (x z : A) (xs : List A) (m : Mem x xs) → Mem z xs → x ≢ z → Mem z (less x xs m)
less_mem x z [] m n ne = absurd m
less_mem x z (y ∷ ys) (inl e) (inl f) ne = absurd (ne (e ∙ sym f))
less_mem x z (y ∷ ys) (inl e) (inr n) ne = n
less_mem x z (y ∷ ys) (inr m) (inl f) ne = inl f
less_mem x z (y ∷ ys) (inr m) (inr n) ne = inr (less_mem x z ys m n ne)

fewer : {A : Type 0} (key : A → Ident) (xs : List A) (is : List Ident) → Chain (λ (x y : A). key x ≢ key y) xs → ((x : A) → Mem x xs → Mem (key x) is) → length xs ≤ length is
fewer key [] is d h = omega arith
fewer {A} key (x ∷ xs) is d h =
    let m = h x (inl refl) in
    let rest = fewer key xs (less (key x) is m) d.1 (λ y n. less_mem (key x) (key y) is m (h y (inr n)) (d.0 y n)) in
    let long = less_length (key x) is m in
    omega (arith, rest, long)

-- What is held on a queue, and on all.

abbrev ident_at : Remove → Ident
ident_at r = r.ident

abbrev held_list : Holder → List ℕ → List Row → List Remove
held_list by name rows = map (λ (row : Row). record { queue = name; ident = row.message.ident }) (filter (λ (row : Row). held_by by row.by) rows)

pub record IsHeldRow (by : Holder) (name : List ℕ) (rows : List Row) (r : Remove) : Type 0 where
  pub row : Row
  pub there : Mem row rows
  pub held : held_by by row.by ≡ true
  pub is : r ≡ record { queue = name; ident = row.message.ident }

pick : Holder → List ℕ → Bool → Row → List Row → List Remove
pick by name b x xs = map (λ (row : Row). record { queue = name; ident = row.message.ident }) (if b then x ∷ filter (λ (row : Row). held_by by row.by) xs else filter (λ (row : Row). held_by by row.by) xs)

row_later : (by : Holder) (name : List ℕ) (x : Row) (xs : List Row) (r : Remove) → IsHeldRow by name xs r → IsHeldRow by name (x ∷ xs) r
row_later by name x xs r h = record { row = h.row; there = inr h.there; held = h.held; is = h.is }

from_step : (by : Holder) (name : List ℕ) (x : Row) (xs : List Row) (r : Remove) → (Mem r (held_list by name xs) → IsHeldRow by name xs r) → (b : Bool) → held_by by x.by ≡ b → Mem r (pick by name b x xs) → IsHeldRow by name (x ∷ xs) r
unfolding pick
from_step by name x xs r rest true e (inl w) = record { row = x; there = inl refl; held = e; is = w }
from_step by name x xs r rest true e (inr w) = row_later by name x xs r (rest w)
from_step by name x xs r rest false e w = row_later by name x xs r (rest w)

list_from : (by : Holder) (name : List ℕ) (rows : List Row) (r : Remove) → Mem r (held_list by name rows) → IsHeldRow by name rows r
unfolding pick
list_from by name [] r m = absurd m
list_from by name (x ∷ xs) r m = from_step by name x xs r (list_from by name xs r) (held_by by x.by) refl m

into_step : (by : Holder) (name : List ℕ) (x : Row) (xs : List Row) (row : Row) → held_by by row.by ≡ true → (Mem row xs → Mem (record { queue = name; ident = row.message.ident }) (held_list by name xs))
    → (b : Bool) → held_by by x.by ≡ b → Mem row (x ∷ xs) → Mem (record { queue = name; ident = row.message.ident }) (pick by name b x xs)
unfolding pick
into_step by name x xs row h rest true e (inl w) = inl (ap (λ (z : Row). record { queue = name; ident = z.message.ident }) w)
into_step by name x xs row h rest true e (inr w) = inr (rest w)
into_step by name x xs row h rest false e (inl w) = absurd (cc (h, e, ap (λ (z : Row). held_by by z.by) w))
into_step by name x xs row h rest false e (inr w) = rest w

list_into : (by : Holder) (name : List ℕ) (rows : List Row) (row : Row) → Mem row rows → held_by by row.by ≡ true → Mem (record { queue = name; ident = row.message.ident }) (held_list by name rows)
unfolding pick
list_into by name [] row m h = absurd m
list_into by name (x ∷ xs) row m h = into_step by name x xs row h (λ w. list_into by name xs row w h) (held_by by x.by) refl m

pub record IsHeldAt (by : Holder) (qs : List Queue) (r : Remove) : Type 0 where
  pub queue : Queue
  pub there : Mem queue qs
  pub on : IsHeldRow by queue.name queue.rows r

all_from : (by : Holder) (qs : List Queue) (r : Remove) → Mem r (flat_map (held_on by) qs) → IsHeldAt by qs r
all_from by [] r m = absurd m
all_from by (q ∷ qs) r m = elim (mem_append r (held_on by q) (flat_map (held_on by) qs) m) [
  | inl w ↦ record { queue = q; there = inl refl; on = list_from by q.name q.rows r w }
  | inr w ↦ let h = all_from by qs r w in record { queue = h.queue; there = inr h.there; on = h.on }
]

all_into : (by : Holder) (qs : List Queue) (q : Queue) (row : Row) → Mem q qs → Mem row q.rows → held_by by row.by ≡ true → Mem (record { queue = q.name; ident = row.message.ident }) (flat_map (held_on by) qs)
all_into by [] q row m there h = absurd m
all_into by (x ∷ xs) q row (inl e) there h = mem_before (record { queue = q.name; ident = row.message.ident }) (held_on by x) (flat_map (held_on by) xs)
    (subst (λ (z : Queue). Mem (record { queue = q.name; ident = row.message.ident }) (held_on by z)) e (list_into by q.name q.rows row there h))
all_into by (x ∷ xs) q row (inr m) there h = mem_behind (record { queue = q.name; ident = row.message.ident }) (held_on by x) (flat_map (held_on by) xs) (all_into by xs q row m there h)

-- Of one queue no two have one ident, nor of two.

differ_step : (by : Holder) (name : List ℕ) (x : Row) (xs : List Row) → ((y : Row) → Mem y xs → x.message.ident ≢ y.message.ident) → Chain (λ (r s : Remove). r.ident ≢ s.ident) (held_list by name xs)
    → (b : Bool) → Chain (λ (r s : Remove). r.ident ≢ s.ident) (pick by name b x xs)
unfolding pick
differ_step by name x xs d rest true = ((λ s m e. let h = list_from by name xs s m in d h.row h.there (e ∙ ap ident_at h.is)), rest)
differ_step by name x xs d rest false = rest

list_differ : (by : Holder) (name : List ℕ) (rows : List Row) → Differ ident_of rows → Chain (λ (r s : Remove). r.ident ≢ s.ident) (held_list by name rows)
unfolding pick
list_differ by name [] d = tt
list_differ by name (x ∷ xs) d = differ_step by name x xs d.0 (list_differ by name xs d.1) (held_by by x.by)

chain_append : (xs ys : List Remove) → Chain (λ (r s : Remove). r.ident ≢ s.ident) xs → Chain (λ (r s : Remove). r.ident ≢ s.ident) ys → ((r s : Remove) → Mem r xs → Mem s ys → r.ident ≢ s.ident) → Chain (λ (r s : Remove). r.ident ≢ s.ident) (xs ++ ys)
chain_append [] ys a b h = b
chain_append (x ∷ xs) ys a b h = ((λ s m. elim (mem_append s xs ys m) [ inl w ↦ a.0 s w | inr w ↦ h x s (inl refl) w ]), chain_append xs ys a.1 b (λ r s m n. h r s (inr m) n))

lone_behind : (q : Queue) (qs : List Queue) → AreLone (q ∷ qs) → AreLone qs
lone_behind q qs l = record { named = l.named.1; once = λ d m. l.once d (inr m); alone = λ d e h k m n. l.alone d e h k (inr m) (inr n) }

all_differ : (by : Holder) (qs : List Queue) → AreLone qs → Chain (λ (r s : Remove). r.ident ≢ s.ident) (flat_map (held_on by) qs)
all_differ by [] l = tt
all_differ by (q ∷ qs) l =
    chain_append (held_on by q) (flat_map (held_on by) qs) (list_differ by q.name q.rows (l.once q (inl refl))) (all_differ by qs (lone_behind q qs l))
    (λ r s m n e.
    let a = list_from by q.name q.rows r m in
    let b = all_from by qs s n in
    let names = l.alone q b.queue a.row b.on.row (inl refl) (inr b.there) a.there b.on.there (sym (ap ident_at a.is) ∙ e ∙ ap ident_at b.on.is) in
    cc (l.named.0 b.queue b.there, name_self q.name, ap (bytes_eq q.name) names))

-- a queue of the list is the one of its name
found_at : (qs : List Queue) → AreNamed qs → (q : Queue) → Mem q qs → queue_in q.name qs ≡ q
found_at [] n q m = absurd m
found_at (x ∷ xs) n q (inl e) = ap (λ (y : Queue). if bytes_eq q.name y.name then y else queue_in q.name xs) (sym e) ∙ ap (λ (b : Bool). if b then q else queue_in q.name xs) (name_self q.name)
found_at (x ∷ xs) n q (inr m) = ap (λ (b : Bool). if b then x else queue_in q.name xs) (name_turned q.name x.name ∙ n.0 q m) ∙ found_at xs n.1 q m

rows_at : (p : Plain) → AreNamed p.queues → (q : Queue) → Mem q p.queues → q.rows ≡ (view p).rows q.name
rows_at p n q m = sym (ap (λ (x : Queue). x.rows) (found_at p.queues n q m))

pub lone : (p : Plain) → Sound p → AreNamed p.queues → AreLone p.queues
lone p s n = record {
  named = n;
  once = λ q m. subst (Differ ident_of) (sym (rows_at p n q m)) (s.apart.once q.name);
  alone = λ q d h k m l a b e. s.apart.alone q.name d.name h k (subst (λ (rows : List Row). Mem h rows) (rows_at p n q m) a) (subst (λ (rows : List Row). Mem k rows) (rows_at p n d l) b) e;
}

-- The unit in doubt lists what is held.

no_batch : (channel : List ℕ) (p : Plain) (d : InDoubt) → Sound p → in_doubt_of (sender_data channel p) ≡ Some d → (o : Option Batch) → batch_of channel p.channels.batches ≡ o → o ≡ None
no_batch channel p d s e None w = refl
no_batch channel p d s e (Some b) w = absurd (cc (s.batched.one channel b w, e))

doubted : (channel : List ℕ) (p : Plain) (d : InDoubt) → Sound p → AreNamed p.queues → in_doubt_of (sender_data channel p) ≡ Some d → (r : Remove) → Mem r (held_rows (holders.Batch channel) p) → Mem r.ident d.idents
doubted channel p d s n e r m =
    let h = all_from (holders.Batch channel) p.queues r m in
    let row = h.on.row in
    let there = subst (λ (rows : List Row). Mem row rows) (rows_at p n h.queue h.there) h.on.there in
    let of = s.batched.of h.queue.name row channel there (by_batch channel row.by h.on.held) in
    let none = no_batch channel p d s e (batch_of channel p.channels.batches) refl in
    let is : Mem row.message.ident d.idents = subst (λ (x : Option InDoubt). IsOf h.queue.name row.message.ident None x) e (subst (λ (x : Option Batch). IsOf h.queue.name row.message.ident x (in_doubt_of (sender_data channel p))) none of) in
    subst (λ (i : Ident). Mem i d.idents) (sym (ap ident_at h.on.is)) is

pub few_held : (channel : List ℕ) (p : Plain) (d : InDoubt) → Sound p → AreNamed p.queues → in_doubt_of (sender_data channel p) ≡ Some d → length (held_rows (holders.Batch channel) p) ≤ length d.idents
few_held channel p d s n e = fewer ident_at (held_rows (holders.Batch channel) p) d.idents (all_differ (holders.Batch channel) p.queues (lone p s n)) (doubted channel p d s n e)

-- Room that is less than what is named is less than what the unit lists.
pub short_all : (channel : List ℕ) (p : Plain) (room less : ℕ) → Sound p → AreNamed p.queues → less ≤ room → room < length (held_rows (holders.Batch channel) p) → IsShortOf less (in_doubt_of (sender_data channel p))
short_all channel p room less s n le short = λ d e. let few = few_held channel p d s n e in omega (arith, few, short, le)

pub short_first : (o : Option InDoubt) (doubt : InDoubt) (held : List Remove) (room most less : ℕ) → Some doubt ≡ o → most ≡ length doubt.idents → less ≤ room → room < length (take most held) → IsShortOf less o
short_first o doubt held room most less is long le short = λ d e.
    let n = ap (λ (x : Option InDoubt). length (listed x)) (is ∙ e) in
    let t = length-take most held in
    omega (arith, n, long, le, short, t)

-- So many on one queue are all.

append_none : {A : Type 0} (ys : List A) → ys ++ [] ≡ ys
append_none [] = refl
append_none {A} (y ∷ ys) = ap (λ (s : List A). y ∷ s) (append_none ys)

whole_from : {A : Type 0} (n : ℕ) (ys zs : List A) → length (take n ys) ≡ n → length (ys ++ zs) ≤ n → ys ++ zs ≡ take n ys
whole_from n ys [] full le = append_none ys ∙ sym (take_all n ys (omega (arith, le, ap length (append_none ys))))
whole_from n ys (z ∷ zs) full le = let long = length-append ys (z ∷ zs) in let short = length-take n ys in absurd (omega (arith, full, le, long, short))

whole : {A : Type 0} (n : ℕ) (xs ys zs : List A) → length (take n ys) ≡ n → length (xs ++ (ys ++ zs)) ≤ n → xs ++ (ys ++ zs) ≡ take n ys
whole n [] ys zs full le = whole_from n ys zs full le
whole n (x ∷ xs) ys zs full le = let long = length-append xs (ys ++ zs) in let more = length-append ys zs in let short = length-take n ys in absurd (omega (arith, full, le, long, more, short))

record IsPart (by : Holder) (q : Queue) (qs : List Queue) : Type 0 where
  before : List Remove
  behind : List Remove
  is : flat_map (held_on by) qs ≡ before ++ (held_on by q ++ behind)

part : (by : Holder) (q : Queue) (qs : List Queue) → Mem q qs → IsPart by q qs
part by q [] m = absurd m
part by q (x ∷ xs) (inl e) = record { before = []; behind = flat_map (held_on by) xs; is = ap (λ (z : Queue). held_on by z ++ flat_map (held_on by) xs) (sym e) }
part by q (x ∷ xs) (inr m) = let w = part by q xs m in record {
  before = held_on by x ++ w.before;
  behind = w.behind;
  is = ap (λ (rs : List Remove). held_on by x ++ rs) w.is ∙ sym (joined (held_on by x) w.before (held_on by q ++ w.behind));
}
  where
    joined : (xs ys zs : List Remove) → (xs ++ ys) ++ zs ≡ xs ++ (ys ++ zs)
    joined [] ys zs = refl
    joined (x ∷ xs) ys zs = ap (λ (rs : List Remove). x ∷ rs) (joined xs ys zs)

there_step : (q : Queue) (qs : List Queue) (r : Queue) → Mem r qs ⊎ (r.rows ≡ []) → (b : Bool) → Mem (if b then q else r) (q ∷ qs) ⊎ ((if b then q else r).rows ≡ [])
there_step q qs r rest true = inl (inl refl)
there_step q qs r (inl m) false = inl (inr m)
there_step q qs r (inr e) false = inr e

stored_there : (name : List ℕ) (qs : List Queue) → Mem (queue_in name qs) qs ⊎ ((queue_in name qs).rows ≡ [])
stored_there name [] = inr refl
stored_there name (q ∷ qs) = there_step q qs (queue_in name qs) (stored_there name qs) (bytes_eq name q.name)

-- as many as the unit in doubt lists stand on one queue: they are all that its channel's batch holds
pub all_listed : (channel name : List ℕ) (p : Plain) (d : InDoubt) → Sound p → AreNamed p.queues → in_doubt_of (sender_data channel p) ≡ Some d
    → length (take (length d.idents) (held_on (holders.Batch channel) (stored name p))) ≡ length d.idents
    → take (length d.idents) (held_on (holders.Batch channel) (stored name p)) ≡ held_rows (holders.Batch channel) p
all_listed channel name p d s n e full =
    let by = holders.Batch channel in
    let few = few_held channel p d s n e in
    elim (stored_there name p.queues) [
      | inl m ↦ let w = part by (queue_in name p.queues) p.queues m in
          let long = ap length w.is in
          sym (w.is ∙ whole (length d.idents) w.before (held_on by (queue_in name p.queues)) w.behind full (omega (arith, few, long)))
      | inr none ↦
          let empty : take (length d.idents) (held_on by (stored name p)) ≡ [] = ap (λ (rows : List Row). take (length d.idents) (held_list by (stored name p).name rows)) none ∙ take_none (length d.idents) in
          let zero_long = ap length empty in
          empty ∙ sym (nothing (held_rows by p) (omega (arith, few, full, zero_long)))
    ]
  where
    take_none : (n : ℕ) → take {A = Remove} n [] ≡ []
    take_none zero = refl
    take_none (suc n) = refl

    nothing : (xs : List Remove) → length xs ≤ 0 → xs ≡ []
    nothing [] le = refl
    nothing (x ∷ xs) le = absurd (omega (arith, le))

-- Rows that go, or are free again, one after another.

abbrev is_marked : List ℕ → Row → Remove → Bool
is_marked name row r = selects (Among r.queue (r.ident ∷ [])) name row

abbrev marks : List Remove → List ℕ → Row → Bool
marks rs name row = list_any (is_marked name row) rs

with_rows : Queue → List Row → Queue
with_rows q rows = record q { rows = rows }

keep_two : (f g : Row → Bool) (xs : List Row) → keep (λ x. not (f x)) (keep (λ x. not (g x)) xs) ≡ keep (λ x. not (g x || f x)) xs
keep_two f g [] = refl
keep_two f g (x ∷ xs) = two_step f g x xs (keep_two f g xs) (g x) refl (f x) refl
  where
    two_step : (f g : Row → Bool) (x : Row) (xs : List Row) → keep (λ x. not (f x)) (keep (λ x. not (g x)) xs) ≡ keep (λ x. not (g x || f x)) xs
        → (a : Bool) → g x ≡ a → (b : Bool) → f x ≡ b
        → keep (λ x. not (f x)) (if not a then x ∷ keep (λ x. not (g x)) xs else keep (λ x. not (g x)) xs) ≡ (if not (a || b) then x ∷ keep (λ x. not (g x || f x)) xs else keep (λ x. not (g x || f x)) xs)
    two_step f g x xs rest true e b h = rest
    two_step f g x xs rest false e true h = ap (λ (t : Bool). if not t then x ∷ keep (λ x. not (f x)) (keep (λ x. not (g x)) xs) else keep (λ x. not (f x)) (keep (λ x. not (g x)) xs)) h ∙ rest
    two_step f g x xs rest false e false h = ap (λ (t : Bool). if not t then x ∷ keep (λ x. not (f x)) (keep (λ x. not (g x)) xs) else keep (λ x. not (f x)) (keep (λ x. not (g x)) xs)) h ∙ ap (λ (rows : List Row). x ∷ rows) rest

keep_all : (xs : List Row) → keep (λ x. true) xs ≡ xs
keep_all [] = refl
keep_all (x ∷ xs) = ap (λ (rows : List Row). x ∷ rows) (keep_all xs)

each_kept : (rs : List Remove) (q : Queue) → each_in true rs q ≡ with_rows q (keep (λ (row : Row). not (marks rs q.name row)) q.rows)
unfolding with_rows
each_kept [] q = ap (with_rows q) (sym (keep_all q.rows))
each_kept (r ∷ rs) q = each_kept rs (row_in true r q) ∙ ap (with_rows q) (keep_two (marks rs q.name) (λ row. is_marked q.name row r) q.rows)

retag_two : (f g : Row → Row) (xs : List Row) → retag f (retag g xs) ≡ retag (λ x. f (g x)) xs
retag_two f g [] = refl
retag_two f g (x ∷ xs) = ap (λ (rows : List Row). f (g x) ∷ rows) (retag_two f g xs)

retag_same : (f g : Row → Row) (xs : List Row) → ((x : Row) → Mem x xs → f x ≡ g x) → retag f xs ≡ retag g xs
retag_same f g [] h = refl
retag_same f g (x ∷ xs) h = let rest = retag_same f g xs (λ y m. h y (inr m)) in let here = h x (inl refl) in λ i. here i ∷ rest i

retag_none : (xs : List Row) → retag (λ x. x) xs ≡ xs
retag_none [] = refl
retag_none (x ∷ xs) = ap (λ (rows : List Row). x ∷ rows) (retag_none xs)

keep_same : (f g : Row → Bool) (xs : List Row) → ((x : Row) → Mem x xs → f x ≡ g x) → keep f xs ≡ keep g xs
keep_same f g [] h = refl
keep_same f g (x ∷ xs) h = let rest = keep_same f g xs (λ y m. h y (inr m)) in let here = h x (inl refl) in λ i. if here i then x ∷ rest i else rest i

free_if : Bool → Row → Row
free_if b row = release_if b false row

and_false : (b : Bool) → (b && false) ≡ false
and_false true = refl
and_false false = refl

freed_twice : (m : Row → Bool) → ((row : Row) → m (freed false row) ≡ m row) → (s : Bool) (row : Row) (f : Bool) → is_free row ≡ f
    → release_if (m (release_if (s && not f) false row) && not (is_free (release_if (s && not f) false row))) false (release_if (s && not f) false row) ≡ release_if ((s || m row) && not f) false row
unfolding free_if
freed_twice m same true row true e = ap (λ (t : Bool). release_if (m row && not t) false row) e ∙ ap (λ (t : Bool). release_if t false row) (and_false (m row))
freed_twice m same true row false e = ap (λ (t : Bool). release_if t false (freed false row)) (and_false (m (freed false row)))
freed_twice m same false row f e = ap (λ (t : Bool). release_if (m row && not t) false row) e

freed_one : (name : List ℕ) (r : Remove) (rs : List Remove) (row : Row)
    → release_if (marks rs name (release_if (is_marked name row r && not (is_free row)) false row) && not (is_free (release_if (is_marked name row r && not (is_free row)) false row))) false (release_if (is_marked name row r && not (is_free row)) false row)
    ≡ release_if (marks (r ∷ rs) name row && not (is_free row)) false row
freed_one name r rs row = freed_twice (marks rs name) (λ x. refl) (is_marked name row r) row (is_free row) refl

each_freed : (rs : List Remove) (q : Queue) → each_in false rs q ≡ with_rows q (retag (λ (row : Row). release_if (marks rs q.name row && not (is_free row)) false row) q.rows)
unfolding with_rows
each_freed [] q = ap (with_rows q) (sym (retag_none q.rows))
each_freed (r ∷ rs) q =
    each_freed rs (row_in false r q)
    ∙ ap (with_rows q) (retag_two (λ (row : Row). release_if (marks rs q.name row && not (is_free row)) false row) (λ (row : Row). release_if (is_marked q.name row r && not (is_free row)) false row) q.rows
    ∙ retag_same (λ (row : Row). release_if (marks rs q.name (release_if (is_marked q.name row r && not (is_free row)) false row) && not (is_free (release_if (is_marked q.name row r && not (is_free row)) false row))) false (release_if (is_marked q.name row r && not (is_free row)) false row)) (λ (row : Row). release_if (marks (r ∷ rs) q.name row && not (is_free row)) false row) q.rows (λ row m. freed_one q.name r rs row))

-- They are just those that are held.

any_step : {A : Type 0} (test : A → Bool) (x : A) (xs : List A) → (list_any test xs ≡ true → (y : A) × Mem y xs × (test y ≡ true)) → (b : Bool) → test x ≡ b → (b || list_any test xs) ≡ true → (y : A) × Mem y (x ∷ xs) × (test y ≡ true)
any_step test x xs rest true e w = (x, inl refl, e)
any_step test x xs rest false e w = let r = rest w in (r.0, inr r.1, r.2)

any_from : {A : Type 0} (test : A → Bool) (xs : List A) → list_any test xs ≡ true → (y : A) × Mem y xs × (test y ≡ true)
any_from test [] e = absurd cc
any_from test (x ∷ xs) e = any_step test x xs (any_from test xs) (test x) refl e

or_true : (a b : Bool) → b ≡ true → (a || b) ≡ true
or_true true b e = refl
or_true false b e = e

any_into : {A : Type 0} (test : A → Bool) (y : A) (xs : List A) → Mem y xs → test y ≡ true → list_any test xs ≡ true
any_into test y [] m e = absurd m
any_into test y (x ∷ xs) (inl w) e = ap (λ (z : _). test z || list_any test xs) (sym w) ∙ ap (λ (b : Bool). b || list_any test xs) e
any_into test y (x ∷ xs) (inr m) e = or_true (test x) (list_any test xs) (any_into test y xs m e)

same_bool : (a b : Bool) → (a ≡ true → b ≡ true) → (b ≡ true → a ≡ true) → a ≡ b
same_bool true b f g = sym (f refl)
same_bool false true f g = g refl
same_bool false false f g = refl

both : (a b : Bool) → (a && b) ≡ true → (a ≡ true) × (b ≡ true)
both true b e = (refl, e)
both false b e = absurd cc

or_none : (a : Bool) → (a || false) ≡ true → a ≡ true
or_none true e = refl
or_none false e = e

mark_self : (name : List ℕ) (row : Row) → is_marked name row (record { queue = name; ident = row.message.ident }) ≡ true
mark_self name row = λ i. name_self name i && (same_self row.message.ident i || false)

held_marked : (by : Holder) (qs : List Queue) → AreLone qs → (q : Queue) → Mem q qs → (row : Row) → Mem row q.rows → marks (flat_map (held_on by) qs) q.name row ≡ true → held_by by row.by ≡ true
held_marked by qs l q m row there e =
    let r = any_from (is_marked q.name row) (flat_map (held_on by) qs) e in
    let h = all_from by qs r.0 r.1 in
    let w = both (bytes_eq q.name r.0.queue) (list_any (same_ident row.message.ident) (r.0.ident ∷ [])) r.2 in
    let same : row.message.ident ≡ h.on.row.message.ident = ident_yes row.message.ident r.0.ident (or_none (same_ident row.message.ident r.0.ident) w.1) ∙ ap ident_at h.on.is in
    let names = l.alone h.queue q h.on.row row h.there m h.on.there there (sym same) in
    let queues : h.queue ≡ q = sym (found_at qs l.named h.queue h.there) ∙ ap (λ (n : List ℕ). queue_in n qs) names ∙ found_at qs l.named q m in
    let is : h.on.row ≡ row = one_row q.rows h.on.row row (l.once q m) (subst (λ (d : Queue). Mem h.on.row d.rows) queues h.on.there) there (sym same) in
    sym (ap (λ (x : Row). held_by by x.by) is) ∙ h.on.held

marked_held : (by : Holder) (qs : List Queue) (q : Queue) → Mem q qs → (row : Row) → Mem row q.rows → held_by by row.by ≡ true → marks (flat_map (held_on by) qs) q.name row ≡ true
marked_held by qs q m row there e = any_into (is_marked q.name row) (record { queue = q.name; ident = row.message.ident }) (flat_map (held_on by) qs) (all_into by qs q row m there e) (mark_self q.name row)

just_held : (by : Holder) (qs : List Queue) → AreLone qs → (q : Queue) → Mem q qs → (row : Row) → Mem row q.rows → marks (flat_map (held_on by) qs) q.name row ≡ held_by by row.by
just_held by qs l q m row there = same_bool (marks (flat_map (held_on by) qs) q.name row) (held_by by row.by) (held_marked by qs l q m row there) (marked_held by qs q m row there)

-- one after another they go, or are free again, as all at once
pub each_is : (commit : Bool) (by : Holder) (qs : List Queue) → AreLone qs → (q : Queue) → Mem q qs → each_in commit (flat_map (held_on by) qs) q ≡ settled_in commit by q
unfolding with_rows
each_is true by qs l q m =
    each_kept (flat_map (held_on by) qs) q
    ∙ ap (with_rows q) (keep_same (λ (row : Row). not (marks (flat_map (held_on by) qs) q.name row)) (λ (row : Row). not (held_by by row.by)) q.rows (λ row there. ap not (just_held by qs l q m row there)))
each_is false by qs l q m =
    each_freed (flat_map (held_on by) qs) q
    ∙ ap (with_rows q) (retag_same (λ (row : Row). release_if (marks (flat_map (held_on by) qs) q.name row && not (is_free row)) false row) (λ (row : Row). release_if (held_by by row.by && not (is_free row)) false row) q.rows (λ row there. ap (λ (b : Bool). release_if (b && not (is_free row)) false row) (just_held by qs l q m row there)))

-- So on all queues.

on_none : (states : List QueueState) → on_queues (λ (q : Queue). q) states ≡ states
on_none [] = refl
on_none (s ∷ ss) = ap (λ (rest : List QueueState). s ∷ rest) (on_none ss)

on_two : (f g : Queue → Queue) (states : List QueueState) → on_queues f (on_queues g states) ≡ on_queues (λ (q : Queue). f (g q)) states
on_two f g [] = refl
on_two f g (s ∷ ss) = ap (λ (rest : List QueueState). on_queue (λ (q : Queue). f (g q)) s ∷ rest) (on_two f g ss)

on_same : (f g : Queue → Queue) (states : List QueueState) → ((q : Queue) → Mem q (queues_of states) → f q ≡ g q) → on_queues f states ≡ on_queues g states
on_same f g [] h = refl
on_same f g (s ∷ ss) h =
    let rest = on_same f g ss (λ q m. h q (inr m)) in
    let here = h s.queue (inl refl) in
    λ i. record s { queue = here i } ∷ rest i

with_them : PartsValue → List QueueState → PartsValue
with_them x states = with_states states x

each_on : (commit : Bool) (rs : List Remove) (x : PartsValue) → each_settled commit rs x ≡ with_them x (on_queues (each_in commit rs) x.queues.states)
unfolding with_them
each_on commit [] x = ap (with_them x) (sym (on_none x.queues.states))
each_on true (r ∷ rs) x = each_on true rs (row_settled true r x) ∙ ap (with_them x) (on_two (each_in true rs) (row_in true r) x.queues.states)
each_on false (r ∷ rs) x = each_on false rs (row_settled false r x) ∙ ap (with_them x) (on_two (each_in false rs) (row_in false r) x.queues.states)

pub each_settles : (commit : Bool) (by : Holder) (x : PartsValue) → AreLone (queues_of x.queues.states) → each_settled commit (flat_map (held_on by) (queues_of x.queues.states)) x ≡ rows_settled commit by x
unfolding with_them
each_settles commit by x l =
    each_on commit (flat_map (held_on by) (queues_of x.queues.states)) x
    ∙ ap (with_them x) (on_same (each_in commit (flat_map (held_on by) (queues_of x.queues.states))) (settled_in commit by) x.queues.states (each_is commit by (queues_of x.queues.states) l))

-- whatever rows are named meanwhile
pub settled_back : (commit : Bool) (by : Holder) (x : PartsValue) → with_named x.ends.rows (rows_settled commit by (with_named none_named x)) ≡ rows_settled commit by x
settled_back commit by x = refl
