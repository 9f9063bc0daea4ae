-- Units item by item: what they add and remove, its bytes in a record, and what their ends tell.
use Rattle.std.proofs.Common.{◌≡◌, ℕ, suc, ◌+◌, ◌-◌, ◌<◌, ◌≤◌, Bool, true, false, cond, List, [], ◌∷◌, ◌++◌, length, get_or, take, drop, Option, Some, None, refl, ap, sym, subst, ◌∙◌, append_assoc, add-one, drop-cons, arith}
use Rattle.std.specs.Prelude.{◌*◌, nat_eq, not, is_some, sum_by, count_by}
use Rattle.std.specs.List.{flat_map, AllByRecursion}
use Rattle.std.proofs.lemmas.List.{length-append}
use Rattle.std.proofs.Math.Seq.{take-append_seam}
use Rattle.std.proofs.lemmas.List.Sums.{sum_by-cons, sum_by_push}
use Rattle.std.proofs.lemmas.List.Recursion.{is_count_by}
use Rattle.mq_record.specs.from_calls.{Add, Did, Item, Remove}
use Rattle.mq_record.specs.from_calls.ItemVariants.{Put, Take}
use Rattle.mq_record.specs.from_calls.Words.{Message, Dest, is_persistent, item_bytes, put_bytes, add_size, route_size, unit_need, with_head}
use Rattle.mq_spec_manager.specs.Units.{adds_of, removes_of, record_of, removed_item, placed_did, released_did}
use Rattle.mq_record.specs.Room.{Buffered, with_piece}
use Rattle.mq_record.specs.Records.{unit_front, record_bytes, add_bytes, remove_bytes, IsAdd, IsRemove}
use Rattle.mq_record.proofs.SizeLaws.{add_whole, remove_whole}
pub use Rattle.mq_record.proofs.RoomLaws.{with_two}
use Rattle.mq_unit.specs.Told.{Telling, told_all}
use Rattle.mq_unit.specs.Forced.{items_bytes, unit_record, is_add, is_remove, adds_size, adds_bytes, removes_bytes, need_of, ItemCanBeForced, CanBeForced, IsKept}

-- ---- sizes

route_same : (r : Option Dest) → cond (is_some r) 96 0 ≡ route_size r
route_same None = refl
route_same (Some d) = refl

put_same : (queue : List ℕ) (m : Message) → add_size (record { queue = queue; message = m }) ≡ put_bytes m
put_same queue m = let r = route_same m.route in omega (arith, r)

-- adds and removes have the bytes of their items
pub sizes : (items : List Item) → adds_size items + 65 * length (removes_of items) ≡ items_bytes items
sizes [] = refl
sizes (Put queue m ∷ items) = by (is_persistent m) (sizes items) ∙ sym (sum_by-cons item_bytes (Put queue m) items)
  where
    by : (b : Bool) → adds_size items + 65 * length (removes_of items) ≡ items_bytes items
        → sum_by add_size (cond b (record { queue = queue; message = m } ∷ adds_of items) (adds_of items)) + 65 * length (removes_of items) ≡ cond b (put_bytes m) 0 + items_bytes items
    by true rest = omega (arith, rest, put_same queue m, sum_by-cons add_size (record { queue = queue; message = m }) (adds_of items))
    by false rest = omega (arith, rest)
sizes (Take queue ident true ∷ items) = omega (arith, sizes items, sum_by-cons item_bytes (Take queue ident true) items)
sizes (Take queue ident false ∷ items) = omega (arith, sizes items, sum_by-cons item_bytes (Take queue ident false) items)

-- a persistent item takes some bytes
some_add : (a : Add) (as_ : List Add) → 0 < sum_by add_size (a ∷ as_)
some_add a as_ = omega (arith, sum_by-cons add_size a as_)

need_by : (as_ : List Add) (rs : List Remove) → need_of (record_of as_ rs) ≡ with_head (sum_by add_size as_ + 65 * length rs)
need_by [] [] = refl
need_by [] (r ∷ rs) = grind (arith)
need_by (a ∷ as_) rs = let some = some_add a as_ in grind (arith, some)

pub unit_needs : (items : List Item) → need_of (record_of (adds_of items) (removes_of items)) ≡ unit_need items
unit_needs items = need_by (adds_of items) (removes_of items) ∙ ap with_head (sizes items)

forced_by : (as_ : List Add) (rs : List Remove) → not (nat_eq (sum_by add_size as_ + 65 * length rs) 0) ≡ is_some (record_of as_ rs)
forced_by [] [] = refl
forced_by [] (r ∷ rs) = grind (arith)
forced_by (a ∷ as_) rs = let some = some_add a as_ in grind (arith, some)

pub is_forced : (items : List Item) → not (nat_eq (items_bytes items) 0) ≡ is_some (record_of (adds_of items) (removes_of items))
is_forced items = ap (λ n. not (nat_eq n 0)) (sym (sizes items)) ∙ forced_by (adds_of items) (removes_of items)

-- ---- how many adds and removes there are

adds_long : (item : Item) (items : List Item) → length (adds_of (item ∷ items)) ≡ cond (is_add item) (1 + length (adds_of items)) (length (adds_of items))
adds_long (Put queue m) items = by (is_persistent m)
  where
    by : (b : Bool) → length (cond b (record { queue = queue; message = m } ∷ adds_of items) (adds_of items)) ≡ cond b (1 + length (adds_of items)) (length (adds_of items))
    by true = omega arith
    by false = refl
adds_long (Take queue ident persistent) items = refl

removes_long : (item : Item) (items : List Item) → length (removes_of (item ∷ items)) ≡ cond (is_remove item) (1 + length (removes_of items)) (length (removes_of items))
removes_long (Put queue m) items = refl
removes_long (Take queue ident true) items = omega arith
removes_long (Take queue ident false) items = refl

pub count_adds : (items : List Item) → length (adds_of items) ≡ count_by is_add items
count_adds items = is_count_by (λ xs. length (adds_of xs)) is_add refl adds_long items

pub count_removes : (items : List Item) → length (removes_of items) ≡ count_by is_remove items
count_removes items = is_count_by (λ xs. length (removes_of xs)) is_remove refl removes_long items

adds_at_least : (as_ : List Add) → length as_ ≤ sum_by add_size as_
adds_at_least [] = omega arith
adds_at_least (a ∷ as_) = omega (arith, adds_at_least as_, sum_by-cons add_size a as_)

-- a record below four gigabytes has fewer parts than four bytes count
pub parts_fit : (items : List Item) (n : ℕ) → 9 + adds_size items + 65 * length (removes_of items) < n → (length (adds_of items) < n) × (length (removes_of items) < n)
parts_fit items n lt = (omega (arith, adds_at_least (adds_of items), lt), omega (arith, lt))

-- ---- pieces that are put one behind the other

adds_cons : (item : Item) (items : List Item) → adds_of (item ∷ items) ≡ adds_of (item ∷ []) ++ adds_of items
adds_cons (Put queue m) items = by (is_persistent m)
  where
    by : (b : Bool) → cond b (record { queue = queue; message = m } ∷ adds_of items) (adds_of items) ≡ cond b (record { queue = queue; message = m } ∷ []) [] ++ adds_of items
    by true = refl
    by false = refl
adds_cons (Take queue ident persistent) items = refl

removes_cons : (item : Item) (items : List Item) → removes_of (item ∷ items) ≡ removes_of (item ∷ []) ++ removes_of items
removes_cons (Put queue m) items = refl
removes_cons (Take queue ident true) items = refl
removes_cons (Take queue ident false) items = refl

flat_two : {X : Type 0} (f : X → List ℕ) (xs ys : List X) → flat_map f (xs ++ ys) ≡ flat_map f xs ++ flat_map f ys
flat_two f [] ys = refl
flat_two f (x ∷ xs) ys = ap (λ (z : List ℕ). f x ++ z) (flat_two f xs ys) ∙ sym (append_assoc (f x) (flat_map f xs) (flat_map f ys))

sum_two : (xs ys : List Add) → sum_by add_size (xs ++ ys) ≡ sum_by add_size xs + sum_by add_size ys
sum_two [] ys = omega arith
sum_two (x ∷ xs) ys = omega (arith, sum_two xs ys, sum_by-cons add_size x (xs ++ ys), sum_by-cons add_size x xs)

all_two : {X : Type 0} (P : X → Type 0) (xs ys : List X) → AllByRecursion P xs → AllByRecursion P ys → AllByRecursion P (xs ++ ys)
all_two P [] ys h k = k
all_two P (x ∷ xs) ys h k = (h.0, all_two P xs ys h.1 k)

pub adds_whole : (as_ : List Add) → AllByRecursion IsAdd as_ → length (flat_map add_bytes as_) ≡ sum_by add_size as_
adds_whole [] h = refl
adds_whole (a ∷ as_) h = omega (arith, length-append (add_bytes a) (flat_map add_bytes as_), add_whole a h.0, adds_whole as_ h.1, sum_by-cons add_size a as_)

pub removes_whole : (rs : List Remove) → AllByRecursion IsRemove rs → length (flat_map remove_bytes rs) ≡ 65 * length rs
removes_whole [] h = refl
removes_whole (r ∷ rs) h = omega (arith, length-append (remove_bytes r) (flat_map remove_bytes rs), remove_whole r h.0, removes_whole rs h.1)

-- what is left of a list begins with the next value
left_at : (items : List Item) (i : ℕ) (item : Item) → i < length items → item ≡ get_or items i item → drop i items ≡ item ∷ drop (i + 1) items
left_at items i item lt is = drop-cons items i item lt ∙ ap (λ (x : Item). x ∷ drop (suc i) items) (sym is) ∙ ap (λ (n : ℕ). item ∷ drop n items) (sym (add-one i))

-- what is written so far, and what is left
pub record AddsLeft (items : List Item) (i : ℕ) (start b : Buffered) : Type 0 where
  pub bytes : with_piece (adds_bytes (drop i items)) b ≡ with_piece (adds_bytes items) start
  pub room : adds_size (drop i items) ≤ b.room
  pub can : CanBeForced (drop i items)
  pub adds : AllByRecursion IsAdd (adds_of (drop i items)) → AllByRecursion IsAdd (adds_of items)

-- of the next item
pub add_fits : (items : List Item) (i : ℕ) (start b : Buffered) (item : Item) → i < length items → item ≡ get_or items i item → AddsLeft items i start b → (adds_size (item ∷ []) ≤ b.room) × ItemCanBeForced item
add_fits items i start b item lt is s =
    let left = left_at items i item lt is in
    let room : adds_size (item ∷ drop (i + 1) items) ≤ b.room = subst (λ (xs : List Item). adds_size xs ≤ b.room) left s.room in
    let rest : List Item = drop (i + 1) items in
    let parts = ap (sum_by add_size) (adds_cons item rest) ∙ sum_two (adds_of (item ∷ [])) (adds_of rest) in
    (omega (arith, room, parts), (subst CanBeForced left s.can).0)

pub add_put : (items : List Item) (i : ℕ) (start b c : Buffered) (item : Item) → i < length items → item ≡ get_or items i item → c ≡ with_piece (adds_bytes (item ∷ [])) b
    → AllByRecursion IsAdd (adds_of (item ∷ [])) → AddsLeft items i start b → AddsLeft items (i + 1) start c
add_put items i start b c item lt is put add s =
    let left = left_at items i item lt is in
    let rest : List Item = drop (i + 1) items in
    let room : adds_size (item ∷ rest) ≤ b.room = subst (λ (xs : List Item). adds_size xs ≤ b.room) left s.room in
    let parts = ap (sum_by add_size) (adds_cons item rest) ∙ sum_two (adds_of (item ∷ [])) (adds_of rest) in
    let whole = adds_whole (adds_of (item ∷ [])) add in
    let less = ap (λ (z : Buffered). z.room) put in
    let bytes = ap (flat_map add_bytes) (adds_cons item rest) ∙ flat_two add_bytes (adds_of (item ∷ [])) (adds_of rest) in
    record {
      bytes = ap (with_piece (adds_bytes rest)) put ∙ with_two (adds_bytes (item ∷ [])) (adds_bytes rest) b ∙ ap (λ (z : List ℕ). with_piece z b) (sym bytes)
          ∙ ap (λ (xs : List Item). with_piece (adds_bytes xs) b) (sym left) ∙ s.bytes;
      room = omega (arith, room, parts, whole, less);
      can = (subst CanBeForced left s.can).1;
      adds = λ more. s.adds (subst (λ (xs : List Item). AllByRecursion IsAdd (adds_of xs)) (sym left)
          (subst (AllByRecursion IsAdd) (sym (adds_cons item rest)) (all_two IsAdd (adds_of (item ∷ [])) (adds_of rest) add more)));
    }

pub record RemovesLeft (items : List Item) (i : ℕ) (start b : Buffered) : Type 0 where
  pub bytes : with_piece (removes_bytes (drop i items)) b ≡ with_piece (removes_bytes items) start
  pub room : 65 * length (removes_of (drop i items)) ≤ b.room
  pub removes : AllByRecursion IsRemove (removes_of (drop i items)) → AllByRecursion IsRemove (removes_of items)

pub remove_fits : (items : List Item) (i : ℕ) (start b : Buffered) (item : Item) → i < length items → item ≡ get_or items i item → RemovesLeft items i start b → 65 * length (removes_of (item ∷ [])) ≤ b.room
remove_fits items i start b item lt is s =
    let left = left_at items i item lt is in
    let rest : List Item = drop (i + 1) items in
    let room : 65 * length (removes_of (item ∷ rest)) ≤ b.room = subst (λ (xs : List Item). 65 * length (removes_of xs) ≤ b.room) left s.room in
    let parts = ap (λ (rs : List Remove). length rs) (removes_cons item rest) ∙ length-append (removes_of (item ∷ [])) (removes_of rest) in
    omega (arith, room, parts)

pub remove_put : (items : List Item) (i : ℕ) (start b c : Buffered) (item : Item) → i < length items → item ≡ get_or items i item → c ≡ with_piece (removes_bytes (item ∷ [])) b
    → AllByRecursion IsRemove (removes_of (item ∷ [])) → RemovesLeft items i start b → RemovesLeft items (i + 1) start c
remove_put items i start b c item lt is put remove s =
    let left = left_at items i item lt is in
    let rest : List Item = drop (i + 1) items in
    let room : 65 * length (removes_of (item ∷ rest)) ≤ b.room = subst (λ (xs : List Item). 65 * length (removes_of xs) ≤ b.room) left s.room in
    let parts = ap (λ (rs : List Remove). length rs) (removes_cons item rest) ∙ length-append (removes_of (item ∷ [])) (removes_of rest) in
    let whole = removes_whole (removes_of (item ∷ [])) remove in
    let less = ap (λ (z : Buffered). z.room) put in
    let bytes = ap (flat_map remove_bytes) (removes_cons item rest) ∙ flat_two remove_bytes (removes_of (item ∷ [])) (removes_of rest) in
    record {
      bytes = ap (with_piece (removes_bytes rest)) put ∙ with_two (removes_bytes (item ∷ [])) (removes_bytes rest) b ∙ ap (λ (z : List ℕ). with_piece z b) (sym bytes)
          ∙ ap (λ (xs : List Item). with_piece (removes_bytes xs) b) (sym left) ∙ s.bytes;
      room = omega (arith, room, parts, whole, less);
      removes = λ more. s.removes (subst (λ (xs : List Item). AllByRecursion IsRemove (removes_of xs)) (sym left)
          (subst (AllByRecursion IsRemove) (sym (removes_cons item rest)) (all_two IsRemove (removes_of (item ∷ [])) (removes_of rest) remove more)));
    }

-- ---- what ends tell

pub told_two : (x y : List Did) (t : Telling) → told_all y (told_all x t) ≡ told_all (x ++ y) t
told_two x y t =
    let dids : (t.dids ++ x) ++ y ≡ t.dids ++ (x ++ y) = append_assoc t.dids x y in
    let room : t.room - length x - length y ≡ t.room - length (x ++ y) = omega (arith, length-append x y) in
    λ i. record { dids = dids i; room = room i }

pub record TellsLeft (f : Item → List Did) (items : List Item) (i : ℕ) (start t : Telling) : Type 0 where
  pub dids : told_all (flat_map f (drop i items)) t ≡ told_all (flat_map f items) start
  pub room : length (flat_map f (drop i items)) ≤ t.room

pub tell_fits : (f : Item → List Did) (items : List Item) (i : ℕ) (start t : Telling) (item : Item) → i < length items → item ≡ get_or items i item → TellsLeft f items i start t → length (f item) ≤ t.room
tell_fits f items i start t item lt is s =
    let left = left_at items i item lt is in
    let rest : List Item = drop (i + 1) items in
    let room : length (flat_map f (item ∷ rest)) ≤ t.room = subst (λ (xs : List Item). length (flat_map f xs) ≤ t.room) left s.room in
    omega (arith, room, length-append (f item) (flat_map f rest))

pub tell_one : (f : Item → List Did) (items : List Item) (i : ℕ) (start t u : Telling) (item : Item) → i < length items → item ≡ get_or items i item → u ≡ told_all (f item) t
    → TellsLeft f items i start t → TellsLeft f items (i + 1) start u
tell_one f items i start t u item lt is told s =
    let left = left_at items i item lt is in
    let rest : List Item = drop (i + 1) items in
    let room : length (flat_map f (item ∷ rest)) ≤ t.room = subst (λ (xs : List Item). length (flat_map f xs) ≤ t.room) left s.room in
    let less = ap (λ (z : Telling). z.room) told in
    record {
      dids = ap (told_all (flat_map f rest)) told ∙ told_two (f item) (flat_map f rest) t ∙ ap (λ (xs : List Item). told_all (flat_map f xs) t) (sym left) ∙ s.dids;
      room = omega (arith, room, less, length-append (f item) (flat_map f rest));
    }

pub tell_both : (x y : List Did) (s t u : Telling) → t ≡ told_all x s → u ≡ told_all y t → u ≡ told_all (x ++ y) s
tell_both x y s t u e g = g ∙ ap (told_all y) e ∙ told_two x y s

-- an item tells one thing at its unit's end
pub commit_fits : (items : List Item) → length (flat_map removed_item items) + length (flat_map placed_did items) ≡ length items
commit_fits [] = refl
commit_fits (Put queue m ∷ items) = omega (arith, commit_fits items)
commit_fits (Take queue ident persistent ∷ items) = omega (arith, commit_fits items)

pub backout_fits : (items : List Item) → length (flat_map released_did items) ≤ length items
backout_fits [] = omega arith
backout_fits (Put queue m ∷ items) = omega (arith, backout_fits items)
backout_fits (Take queue ident persistent ∷ items) = omega (arith, backout_fits items)

-- ---- a whole record

pub record_put : (items : List Item) (b c d e : Buffered) (front : List ℕ) (n m : ℕ) → front ≡ unit_front n m → n ≡ count_by is_add items → m ≡ count_by is_remove items
    → c ≡ with_piece front b → d ≡ with_piece (adds_bytes items) c → e ≡ with_piece (removes_bytes items) d → e ≡ with_piece (record_bytes (unit_record items)) b
record_put items b c d e front n m is adds removes first second third =
    let parts : List ℕ = adds_bytes items ++ removes_bytes items in
    let counted : front ≡ unit_front (length (adds_of items)) (length (removes_of items)) =
    is ∙ ap (λ (k : ℕ). unit_front k m) (adds ∙ sym (count_adds items)) ∙ ap (unit_front (length (adds_of items))) (removes ∙ sym (count_removes items)) in
    third ∙ ap (with_piece (removes_bytes items)) second ∙ with_two (adds_bytes items) (removes_bytes items) c
    ∙ ap (with_piece parts) first ∙ with_two front parts b ∙ ap (λ (f : List ℕ). with_piece (f ++ parts) b) counted

pub removes_fit : (items : List Item) (b c d : Buffered) (front : List ℕ) → length front ≡ 9 → AllByRecursion IsAdd (adds_of items) → 9 + adds_size items + 65 * length (removes_of items) ≤ b.room
    → c ≡ with_piece front b → d ≡ with_piece (adds_bytes items) c → 65 * length (removes_of items) ≤ d.room
removes_fit items b c d front nine all room first second =
    let less = ap (λ (z : Buffered). z.room) first in
    let more = ap (λ (z : Buffered). z.room) second in
    omega (arith, nine, room, less, more, adds_whole (adds_of items) all)

-- the last item is given up
all_front : {X : Type 0} (P : X → Type 0) (xs : List X) (x : X) → AllByRecursion P (xs ++ x ∷ []) → AllByRecursion P xs
all_front P [] x h = tt
all_front P (y ∷ ys) x h = (h.0, all_front P ys x h.1)

pub kept_front : (items : List Item) (item : Item) (bytes : ℕ) (effects : Telling) → IsKept (items ++ item ∷ []) bytes effects → IsKept items (bytes - item_bytes item) effects
kept_front items item bytes effects k = record {
  counted = omega (arith, k.counted, sum_by_push item_bytes items item);
  fits = omega (arith, k.fits);
  untold = k.untold;
  room = omega (arith, k.room, length-append items (item ∷ []));
  forced = all_front ItemCanBeForced items item k.forced;
}

pub take_front : (items : List Item) (item : Item) → items ≡ take (length (items ++ item ∷ []) - 1) (items ++ item ∷ [])
take_front items item = sym (ap (λ (n : ℕ). take n (items ++ item ∷ [])) (let n : length (items ++ item ∷ []) - 1 ≡ length items = omega (arith, length-append items (item ∷ [])) in n) ∙ take-append_seam items (item ∷ []))
