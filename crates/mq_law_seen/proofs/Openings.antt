-- Openings that are images of logs, and belong together, are what a network may begin with.
use Rattle.std.proofs.Common.{ℕ, zero, suc, ◌≡◌, ◌+◌, ◌-◌, ◌≤◌, ◌⊎◌, Bool, true, false, List, [], ◌∷◌, ◌++◌, refl, ap, sym, subst, ◌∙◌, inl, inr, arith, map}
use Rattle.std.specs.Prelude.{Option, Some, None, if◌then◌else◌, ◌==◌, ◌&&◌, ◌||◌, nat_lt, nat_le, slice_get, flat_map, count_by}
use Rattle.std.specs.Str.{bytes_eq}
use Rattle.std.specs.Option.{option_map}
use Rattle.std.proofs.lemmas.Bool.Decides.{nat_tests}
use Rattle.std.proofs.lemmas.List.Recursion.{is_count_by}
use Rattle.mq_message.specs.declared.message.Ident.{Ident}
use Rattle.mq_queue.specs.declared.row.Row.{Row}
use Rattle.mq_message.specs.declared.place.Holder.{Holder}
use Rattle.mq_message.specs.declared.place.Holder.TheVariants as holders
use Rattle.mq_queue.specs.Rows.{same_ident, keep, held_by}
use Rattle.mq_objects.specs.declared.object.LocalQueue.{LocalQueue}
use Rattle.mq_objects.specs.Names.{locals_of}
use Rattle.mq_sync.specs.declared.unit.Unit.{Unit as Luw}
use Rattle.mq_sync.specs.declared.data.InDoubt.{InDoubt}
use Rattle.mq_law_rows.specs.from_history.{Apart, Scenario}
use Rattle.mq_calls.specs.State.{Plain, Queue}
use Rattle.mq_calls.specs.Reads.{stored, queue_in, connection_at, sender_data, in_doubt_of, batch_of}
use Rattle.mq_law_rows.specs.from_spec_network.Story.{Mem}
use Rattle.mq_law_rows.specs.from_spec_network.Promised.{AreDistinct}
use Rattle.mq_law_rows.specs.from_spec_network.Ledger.{Users, places_or, users_or, unit_of, rows_in, ledger_rows}
use Rattle.mq_law_rows.specs.from_spec_network.Standing.{standing_in, standing_of, stored_standing, places_of, opening_ledger_of}
use Rattle.mq_law_rows.specs.from_spec_network.Standing as standings
use Rattle.mq_law_rows.specs.from_spec_network.Apart.{or_else, first_of, case, idents_in, row_idents, standing_idents, known, maker, newer_case, ident_case, idents_apart, cables_apart, apart_of}
use Rattle.mq_law_rows.specs.World.{World, Book, Tag, tag_of, tag_idents, is_last, row_stands, away, standing, StandsIn, LanesRise, Inv}
use Rattle.mq_law_rows.specs.World as worlds
use Rattle.mq_law_seen.specs.Seen.{rows_of, units_of, held_unit, holds_of, world_of, book_of}
use Rattle.mq_law_rows.specs.Beginning.{Spot, Opens, first_owner}
use Rattle.mq_law_seen.specs.Given.{AreOpenings, spots_of, given_by, is_given, doubt_queue, source_by, source_at, sent_at}
use Rattle.mq_law_rows.proofs.Lists.{bool_case, same_self, name_yes, name_self, mem_map, map_mem, mem_keep, mem_kept, distinct_keep}
use Rattle.mq_law_seen.proofs.Bridges.{standing_is}
use Rattle.mq_law_rows.proofs.Opened.{opens}

mem_left : {A : Type 0} (j : A) (xs ys : List A) → Mem j xs → Mem j (xs ++ ys)
mem_left j [] ys n = absurd n
mem_left j (x ∷ xs) ys (inl e) = inl e
mem_left j (x ∷ xs) ys (inr n) = inr (mem_left j xs ys n)

mem_right : {A : Type 0} (j : A) (xs ys : List A) → Mem j ys → Mem j (xs ++ ys)
mem_right j [] ys n = n
mem_right j (x ∷ xs) ys n = inr (mem_right j xs ys n)

mem_flat : {A B : Type 0} (f : A → List B) (x : A) (y : B) (xs : List A) → Mem x xs → Mem y (f x) → Mem y (flat_map f xs)
mem_flat f x y [] n k = absurd n
mem_flat f x y (z ∷ xs) (inl e) k = mem_left y (f z) (flat_map f xs) (subst (λ a. Mem y (f a)) e k)
mem_flat f x y (z ∷ xs) (inr n) k = mem_right y (f z) (flat_map f xs) (mem_flat f x y xs n k)

at_mem : {A : Type 0} (xs : List A) (m : ℕ) (x : A) → slice_get xs m ≡ Some x → Mem x xs
at_mem [] m x e = absurd cc
at_mem (y ∷ xs) zero x e = let same : y ≡ x = cc in inl (sym same)
at_mem (y ∷ xs) (suc m) x e = inr (at_mem xs m x e)

-- Counts

tally : (Ident → Bool) → List Ident → ℕ
tally t [] = 0
tally t (x ∷ xs) = if t x then 1 + tally t xs else tally t xs

tally_is : (t : Ident → Bool) (xs : List Ident) → tally t xs ≡ count_by t xs
unfolding tally
tally_is t xs = is_count_by (tally t) t refl (λ x xs. refl) xs

tally_append : (t : Ident → Bool) (xs ys : List Ident) → tally t (xs ++ ys) ≡ tally t xs + tally t ys
unfolding tally
tally_append t [] ys = zero_plus (tally t ys)
  where
    zero_plus : (a : ℕ) → a ≡ 0 + a
    zero_plus a = omega arith
tally_append t (x ∷ xs) ys = bool_case (t x) (λ z. (if z then 1 + tally t (xs ++ ys) else tally t (xs ++ ys)) ≡ (if z then 1 + tally t xs else tally t xs) + tally t ys)
    (λ e. ap (λ n. 1 + n) (tally_append t xs ys) ∙ one_more (tally t xs) (tally t ys)) (λ e. tally_append t xs ys)
  where
    one_more : (a b : ℕ) → 1 + (a + b) ≡ (1 + a) + b
    one_more a b = omega arith

tally_one : (i : Ident) (xs : List Ident) → Mem i xs → 1 ≤ tally (same_ident i) xs
unfolding tally
tally_one i [] n = absurd n
tally_one i (x ∷ xs) (inl e) = subst (λ z. 1 ≤ (if z then 1 + tally (same_ident i) xs else tally (same_ident i) xs)) (sym (ap (same_ident i) (sym e) ∙ same_self i)) (first (tally (same_ident i) xs))
  where
    first : (a : ℕ) → 1 ≤ 1 + a
    first a = omega arith
tally_one i (x ∷ xs) (inr n) = bool_case (same_ident i x) (λ z. 1 ≤ (if z then 1 + tally (same_ident i) xs else tally (same_ident i) xs)) (λ e. first (tally (same_ident i) xs)) (λ e. tally_one i xs n)
  where
    first : (a : ℕ) → 1 ≤ 1 + a
    first a = omega arith

count_append : (t : Ident → Bool) (xs ys : List Ident) → count_by t (xs ++ ys) ≡ count_by t xs + count_by t ys
count_append t xs ys = sym (tally_is t (xs ++ ys)) ∙ tally_append t xs ys ∙ (λ j. tally_is t xs j + tally_is t ys j)

count_one : (i : Ident) (xs : List Ident) → Mem i xs → 1 ≤ count_by (same_ident i) xs
count_one i xs n = subst (λ z. 1 ≤ z) (tally_is (same_ident i) xs) (tally_one i xs n)

count_part : {A : Type 0} (i : Ident) (f : A → List Ident) (xs : List A) (m : ℕ) (x : A) → slice_get xs m ≡ Some x → Mem i (f x) → 1 ≤ count_by (same_ident i) (flat_map f xs)
count_part i f xs m x e n = count_one i (flat_map f xs) (mem_flat f x i xs (at_mem xs m x e) n)

-- an ident in two parts of a list is there twice
count_two : {A : Type 0} (i : Ident) (f : A → List Ident) (xs : List A) (m a : ℕ) (x y : A) → slice_get xs m ≡ Some x → slice_get xs a ≡ Some y → Mem i (f x) → Mem i (f y) → (m ≡ a → ⊥) → 2 ≤ count_by (same_ident i) (flat_map f xs)
count_two i f [] m a x y e g n k no_ = absurd cc
count_two i f (z ∷ xs) zero zero x y e g n k no_ = absurd (no_ refl)
count_two i f (z ∷ xs) zero (suc a) x y e g n k no_ =
    let same : z ≡ x = cc in
    let one : 1 ≤ count_by (same_ident i) (f z) = count_one i (f z) (subst (λ t. Mem i (f t)) (sym same) n) in
    let two : 1 ≤ count_by (same_ident i) (flat_map f xs) = count_part i f xs a y g k in
    let sum = count_append (same_ident i) (f z) (flat_map f xs) in both (count_by (same_ident i) (f z)) (count_by (same_ident i) (flat_map f xs)) (count_by (same_ident i) (f z ++ flat_map f xs)) one two sum
  where
    both : (a b c : ℕ) → 1 ≤ a → 1 ≤ b → c ≡ a + b → 2 ≤ c
    both a b c p q e = omega arith
count_two i f (z ∷ xs) (suc m) zero x y e g n k no_ =
    let same : z ≡ y = cc in
    let one : 1 ≤ count_by (same_ident i) (f z) = count_one i (f z) (subst (λ t. Mem i (f t)) (sym same) k) in
    let two : 1 ≤ count_by (same_ident i) (flat_map f xs) = count_part i f xs m x e n in
    let sum = count_append (same_ident i) (f z) (flat_map f xs) in both (count_by (same_ident i) (f z)) (count_by (same_ident i) (flat_map f xs)) (count_by (same_ident i) (f z ++ flat_map f xs)) one two sum
  where
    both : (a b c : ℕ) → 1 ≤ a → 1 ≤ b → c ≡ a + b → 2 ≤ c
    both a b c p q e = omega arith
count_two i f (z ∷ xs) (suc m) (suc a) x y e g n k no_ =
    let rest = count_two i f xs m a x y e g n k (λ q. no_ (ap suc q)) in
    let sum = count_append (same_ident i) (f z) (flat_map f xs) in more (count_by (same_ident i) (f z)) (count_by (same_ident i) (flat_map f xs)) (count_by (same_ident i) (f z ++ flat_map f xs)) rest sum
  where
    more : (a b c : ℕ) → 2 ≤ b → c ≡ a + b → 2 ≤ c
    more a b c p e = omega arith

-- The cases that do not hold

none_else : (a rest : Option Apart) → or_else a rest ≡ None → (a ≡ None) × (rest ≡ None)
none_else None rest e = (refl, e)
none_else (Some x) rest e = absurd cc

each_ident : (ps : List Plain) (standing_ idents : List Ident) (i : Ident) → idents_apart ps standing_ idents ≡ None → Mem i idents → ident_case ps standing_ i ≡ None
each_ident ps st [] i e n = absurd n
each_ident ps st (x ∷ idents) i e (inl q) = ap (ident_case ps st) q ∙ (none_else (ident_case ps st x) (idents_apart ps st idents) e).0
each_ident ps st (x ∷ idents) i e (inr n) = each_ident ps st idents i (none_else (ident_case ps st x) (idents_apart ps st idents) e).1 n

no_case : (t : Bool) (a : Apart) → case t a ≡ None → t ≡ false
no_case true a e = absurd cc
no_case false a e = refl

-- at most once, and of an incarnation that its manager's log knew
once_known : (ps : List Plain) (st : List Ident) (i : Ident) → ident_case ps st i ≡ None → (count_by (same_ident i) st ≤ 1) × (newer_case i (known (maker ps i.manager)) ≡ None)
once_known ps st i e =
    let a = none_else (case (nat_lt 1 (count_by (same_ident i) st)) _) (first_of (newer_case i (known (maker ps i.manager)) ∷ [])) e in
    let n = none_else (newer_case i (known (maker ps i.manager))) None a.1 in
    (few (count_by (same_ident i) st) (no_case (nat_lt 1 (count_by (same_ident i) st)) _ a.0), n.0)
  where
    few : (n : ℕ) → nat_lt 1 n ≡ false → n ≤ 1
    few n e = grind (arith, nat_tests)

given_of : (o : Option Plain) (i : Ident) → ((p : Plain) → o ≡ Some p → 1 ≤ p.numbers.incarnation) → newer_case i (known o) ≡ None → given_by o i ≡ true
given_of None i one e = refl
given_of (Some p) i one e = earlier i.incarnation p.numbers.incarnation (i.incarnation == p.numbers.incarnation && nat_le i.number p.numbers.idents) (one p refl) (no_case (nat_lt (p.numbers.incarnation - 1) i.incarnation) _ e)
  where
    lower : (a b : ℕ) → 1 ≤ b → nat_lt (b - 1) a ≡ false → nat_lt a b ≡ true
    lower a b one e = grind (arith, nat_tests)

    earlier : (a b : ℕ) (t : Bool) → 1 ≤ b → nat_lt (b - 1) a ≡ false → (nat_lt a b || t) ≡ true
    earlier a b t one e = ap (λ z. z || t) (lower a b one e)

-- A manager of the list, where something is said of it

some_at : {A : Type 0} (o : Option A) → (o ≡ None) ⊎ ((x : A) × (o ≡ Some x))
some_at None = inl refl
some_at (Some x) = inr (x, refl)

row_at : (ps : List Plain) (m : ℕ) (q : List ℕ) (h : Row) → Mem h (rows_of q (slice_get ps m)) → (p : Plain) × (slice_get ps m ≡ Some p) × Mem h (stored q p).rows
row_at ps m q h n = elim (some_at (slice_get ps m)) [ inl e ↦ absurd (subst (λ o. Mem h (rows_of q o)) e n) | inr k ↦ (k.0, k.1, subst (λ o. Mem h (rows_of q o)) k.1 n) ]

-- the rows that a batch holds
held_yes : (c : List ℕ) (x : Option Holder) → held_by (holders.Batch c) x ≡ true → x ≡ Some (holders.Batch c)
held_yes c None e = absurd cc
held_yes c (Some (holders.Unit k)) e = absurd cc
held_yes c (Some (holders.Batch d)) e = ap (λ (z : List ℕ). Some (holders.Batch z)) (sym (name_yes c d e))

held_tags_idents : (xs : List Row) → tag_idents (map (λ (row : Row). tag_of row.message) xs) ≡ worlds.idents_in xs
held_tags_idents [] = refl
held_tags_idents (x ∷ xs) = ap (λ (is : List Ident). x.message.ident ∷ is) (held_tags_idents xs)

kept_rows : (s : Scenario) (ps : List Plain) (p : Plain) (q : List ℕ) (qs : List Queue) → rows_in q (map (stored_standing s ps p) qs) ≡ standing_in s ps p (queue_in q qs).rows
kept_rows s ps p q [] = refl
kept_rows s ps p q (x ∷ qs) = bool_case (bytes_eq q x.name) (λ t. (if t then standing_in s ps p x.rows else rows_in q (map (stored_standing s ps p) qs)) ≡ standing_in s ps p (if t then x else queue_in q qs).rows) (λ e. refl) (λ e. kept_rows s ps p q qs)

pub mapped_at : {A B : Type 0} (f : A → B) (xs : List A) (m : ℕ) → slice_get (map f xs) m ≡ option_map f (slice_get xs m)
mapped_at f [] m = refl
mapped_at f (x ∷ xs) zero = refl
mapped_at f (x ∷ xs) (suc m) = mapped_at f xs m

ledger_is : (s : Scenario) (ps : List Plain) (m : ℕ) (q : List ℕ) → ledger_rows m q (opening_ledger_of s ps) ≡ standings.standing s ps m q
ledger_is s ps m q = elim (some_at (slice_get ps m)) [
  | inl e ↦ ap (λ o. rows_in q (places_or o).queues) (mapped_at (places_of s ps) ps m ∙ ap (option_map (places_of s ps)) e) ∙ sym (ap (standing_of s ps q) e)
  | inr k ↦ ap (λ o. rows_in q (places_or o).queues) (mapped_at (places_of s ps) ps m ∙ ap (option_map (places_of s ps)) k.1) ∙ kept_rows s ps k.0 q k.0.queues ∙ sym (ap (standing_of s ps q) k.1)
]

abbrev pub user_of : Plain → Users
user_of p = record { moment = p.moment; connections = []; cut = None }

quiet_is : (s : Scenario) (ps : List Plain) (m k : ℕ) → unit_of (connection_at k (users_or (slice_get (opening_ledger_of s ps).users m)).connections) ≡ []
quiet_is s ps m k = elim (some_at (slice_get ps m)) [
  | inl e ↦ ap (λ o. unit_of (connection_at k (users_or o).connections)) (mapped_at user_of ps m ∙ ap (option_map user_of) e)
  | inr z ↦ ap (λ o. unit_of (connection_at k (users_or o).connections)) (mapped_at user_of ps m ∙ ap (option_map user_of) z.1)
]

spot_there : (k : ℕ) (ps : List Plain) (m : ℕ) (p : Plain) (q : List ℕ) → slice_get ps m ≡ Some p → Mem q (map (λ (l : LocalQueue). l.name) (locals_of p.definitions)) → Mem (record { manager = k + m; queue = q }) (spots_of k ps)
spot_there k [] m p q e n = absurd cc
spot_there k (x ∷ ps) zero p q e n =
    let same : x ≡ p = cc in
    let l = map_mem (λ (l : LocalQueue). l.name) q (locals_of p.definitions) n in
    mem_left _ (map (λ (l : LocalQueue). record { manager = k; queue = l.name }) (locals_of x.definitions)) (spots_of (suc k) ps)
    (subst (λ (z : Spot). Mem z (map (λ (l : LocalQueue). record { manager = k; queue = l.name }) (locals_of x.definitions))) (λ j. record { manager = plus_zero k j; queue = sym l.2 j })
    (mem_map (λ (l : LocalQueue). record { manager = k; queue = l.name }) l.0 (locals_of x.definitions) (subst (λ (z : Plain). Mem l.0 (locals_of z.definitions)) (sym same) l.1)))
  where
    plus_zero : (k : ℕ) → k ≡ k + 0
    plus_zero k = omega arith
spot_there k (x ∷ ps) (suc m) p q e n =
    mem_right _ (map (λ (l : LocalQueue). record { manager = k; queue = l.name }) (locals_of x.definitions)) (spots_of (suc k) ps)
    (subst (λ z. Mem (record { manager = z; queue = q }) (spots_of (suc k) ps)) (plus_suc k m) (spot_there (suc k) ps m p q e n))
  where
    plus_suc : (k m : ℕ) → suc k + m ≡ k + suc m
    plus_suc k m = omega arith

pub openings_open : (s : Scenario) (ps : List Plain) → AreOpenings ps → idents_apart ps (standing_idents s ps) (row_idents ps) ≡ None
    → Opens (world_of s (is_given ps) ps) (book_of (opening_ledger_of s ps)) (spots_of 0 ps) (sent_at ps) (source_at ps)
openings_open s ps o together =
    let w : World = world_of s (is_given ps) ps in
    -- an ident of a row is one of those that were tried
    let tried : (m : ℕ) (q : List ℕ) (h : Row) (p : Plain) → slice_get ps m ≡ Some p → Mem h (stored q p).rows → Mem h.message.ident (row_idents ps) = λ m q h p is n.
    let l = map_mem (λ (l : LocalQueue). l.name) q (locals_of p.definitions) ((o.each m p is).defined q h n) in
    mem_flat (idents_in (λ rows. rows)) p h.message.ident ps (at_mem ps m p is)
    (mem_flat (λ (l : LocalQueue). map (λ (row : Row). row.message.ident) (stored l.name p).rows) l.0 h.message.ident (locals_of p.definitions) l.1 (mem_map (λ (row : Row). row.message.ident) h (stored l.0.name p).rows (subst (λ z. Mem h (stored z p).rows) l.2 n))) in
    let case_of : (m : ℕ) (q : List ℕ) (h : Row) (p : Plain) → slice_get ps m ≡ Some p → Mem h (stored q p).rows → (count_by (same_ident h.message.ident) (standing_idents s ps) ≤ 1) × (newer_case h.message.ident (known (maker ps h.message.ident.manager)) ≡ None) = λ m q h p is n.
    once_known ps (standing_idents s ps) h.message.ident (each_ident ps (standing_idents s ps) (row_idents ps) h.message.ident together (tried m q h p is n)) in
    -- where a standing row is counted
    let counted_at : (m : ℕ) (q : List ℕ) (h : Row) (p : Plain) → slice_get ps m ≡ Some p → Mem h (standing w m q) → Mem h (stored q p).rows → Mem h.message.ident (idents_in (standing_in s ps p) p) = λ m q h p is n k.
    let l = map_mem (λ (l : LocalQueue). l.name) q (locals_of p.definitions) ((o.each m p is).defined q h k) in
    let there : Mem h (standing_in s ps p (stored q p).rows) = subst (λ (rs : List Row). Mem h rs) (sym (standing_is s (is_given ps) ps m q) ∙ ap (standing_of s ps q) is) n in
    mem_flat (λ (l : LocalQueue). map (λ (row : Row). row.message.ident) (standing_in s ps p (stored l.name p).rows)) l.0 h.message.ident (locals_of p.definitions) l.1
    (mem_map (λ (row : Row). row.message.ident) h (standing_in s ps p (stored l.0.name p).rows) (subst (λ z. Mem h (standing_in s ps p (stored z p).rows)) l.2 there)) in
    let in_rows : (m : ℕ) (q : List ℕ) (h : Row) → Mem h (standing w m q) → Mem h (w.rows m q) = λ m q h n. (mem_keep (row_stands (away w m)) h (w.rows m q) n).0 in
    let distinct_ : (m : ℕ) (q : List ℕ) → AreDistinct (worlds.idents_in (w.rows m q)) = λ m q. elim (some_at (slice_get ps m)) [ inl e ↦ subst (λ z. AreDistinct (worlds.idents_in (rows_of q z))) (sym e) tt | inr k ↦ subst (λ z. AreDistinct (worlds.idents_in (rows_of q z))) (sym k.1) ((o.each m k.0 k.1).distinct q) ] in
    let alone_ : (m : ℕ) (q d : List ℕ) (h k : Row) → Mem h (w.rows m q) → Mem k (w.rows m d) → h.message.ident ≡ k.message.ident → (q ≡ d) × (h ≡ k) = λ m q d h k n e same.
    let a = row_at ps m q h n in (o.each m a.0 a.1).alone q d h k a.2 (subst (λ z. Mem k (rows_of d z)) a.1 e) same in
    record {
      sorted = λ m q. elim (some_at (slice_get ps m)) [ inl e ↦ subst (λ z. LanesRise (rows_of q z)) (sym e) tt | inr k ↦ subst (λ z. LanesRise (rows_of q z)) (sym k.1) ((o.each m k.0 k.1).sorted q) ];
      distinct = distinct_;
      cover = λ m q h n. let a = row_at ps m q h n in subst (λ z. Mem (record { manager = z; queue = q }) (spots_of 0 ps)) (zero_plus m) (spot_there 0 ps m a.0 q a.1 ((o.each m a.0 a.1).defined q h a.2));
      alone = λ m q d h k n e same. (alone_ m q d h k n e same).1;
      single = λ m a q d h k n e same.
          let x = row_at ps m q h (in_rows m q h n) in
          let y = row_at ps a d k (in_rows a d k e) in
          let one = (case_of m q h x.0 x.1 x.2).0 in
          let managers : m ≡ a = unless_two m a (λ no_. few (count_by (same_ident h.message.ident) (standing_idents s ps)) one
          (count_two h.message.ident (λ (p : Plain). idents_in (standing_in s ps p) p) ps m a x.0 y.0 x.1 y.1 (counted_at m q h x.0 x.1 n x.2)
          (subst (λ i. Mem i (idents_in (standing_in s ps y.0) y.0)) (sym same) (counted_at a d k y.0 y.1 e y.2)) no_)) in
          let rest = alone_ m q d h k (in_rows m q h n) (subst (λ z. Mem k (w.rows z d)) (sym managers) (in_rows a d k e)) same in
          (managers, rest.0, rest.1);
      known = λ m q h n. let a = row_at ps m q h n in given_of (maker ps h.message.ident.manager) h.message.ident (λ p e. first_of_maker h.message.ident.manager p e) (case_of m q h a.0 a.1 a.2).1;
      lasting = λ m q h n. let a = row_at ps m q h n in (o.each m a.0 a.1).lasting q h a.2;
      held = λ m q h k n e. let a = row_at ps m q h n in (o.each m a.0 a.1).held q h k a.2 e;
      batch = λ m q h c n e.
          let a = row_at ps m q h n in
          let f = (o.each m a.0 a.1).batch q h c a.2 e in
          let here : q ≡ source_at ps m c = f.2 ∙ sym (ap (source_by c) a.1 ∙ ap doubt_queue f.1) in (
            here,
            (λ z. some_none f.0.unit (sym (ap (holds_of c) a.1 ∙ ap (λ x. held_unit x (batch_of c a.0.channels.batches)) f.1) ∙ z)),
            (λ u z. mem_map (λ (row : Row). tag_of row.message) h (keep (λ (row : Row). held_by (holders.Batch c) row.by) (w.rows m (source_at ps m c)))
                (mem_kept (λ (row : Row). held_by (holders.Batch c) row.by) h (w.rows m (source_at ps m c)) (subst (λ z. Mem h (w.rows m z)) here n) (ap (held_by (holders.Batch c)) e ∙ name_self c))),
          );
      doubted = λ m c u t z n.
          let i = map_mem (λ (row : Row). tag_of row.message) t (keep (λ (row : Row). held_by (holders.Batch c) row.by) (w.rows m (source_at ps m c))) n in
          let k = mem_keep (λ (row : Row). held_by (holders.Batch c) row.by) i.0 (w.rows m (source_at ps m c)) i.1 in
          record { row = i.0; there = k.0; by = held_yes c i.0.by k.1; tag = sym i.2 };
      once = λ m c u z.
          subst AreDistinct (sym (held_tags_idents (keep (λ (row : Row). held_by (holders.Batch c) row.by) (w.rows m (source_at ps m c)))))
          (distinct_keep (λ (row : Row). held_by (holders.Batch c) row.by) (w.rows m (source_at ps m c)) (distinct_ m (source_at ps m c)));
      idle = λ m k. elim (some_at (slice_get ps m)) [ inl e ↦ ap (units_of k) e | inr p ↦ ap (units_of k) p.1 ∙ ap (λ cs. unit_of (connection_at k cs)) (o.idle m p.0 p.1) ];
      rows = λ m q. ledger_is s ps m q ∙ standing_is s (is_given ps) ps m q;
      quiet = λ m k. quiet_is s ps m k;
      gone = refl;
      got = refl;
    }
  where
    zero_plus : (m : ℕ) → 0 + m ≡ m
    zero_plus m = omega arith

    few : (n : ℕ) → n ≤ 1 → 2 ≤ n → ⊥
    few n a b = omega arith

    unless_two : (m a : ℕ) → ((m ≡ a → ⊥) → ⊥) → m ≡ a
    unless_two m a no_ = grind (arith, no_)

    some_none : (u : Luw) → Some u ≡ None → ⊥
    some_none u e = cc

    first_of_maker : (n : ℕ) (p : Plain) → maker ps n ≡ Some p → 1 ≤ p.numbers.incarnation
    first_of_maker zero p e = absurd cc
    first_of_maker (suc n) p e = (o.each n p e).first

-- where the logs belong together, the network begins with the facts, on the definitions' own lists
pub openings_have_the_facts : (s : Scenario) (ps : List Plain) → AreOpenings ps → apart_of s ps ≡ None
    → Inv (world_of s (is_given ps) ps) (record { sent = sent_at ps; source = source_at ps; operated = λ m c u. false; loose = λ m c u. is_last ((world_of s (is_given ps) ps).holds m c) u; owner = first_owner (world_of s (is_given ps) ps) (spots_of 0 ps) }) (book_of (opening_ledger_of s ps))
openings_have_the_facts s ps o together =
    opens (world_of s (is_given ps) ps) (book_of (opening_ledger_of s ps)) (spots_of 0 ps) (sent_at ps) (source_at ps)
    (openings_open s ps o (none_else (cables_apart s ps 0 s.cables) (idents_apart ps (standing_idents s ps) (row_idents ps)) together).1)

-- where the logs belong together, that of a row's maker knew the incarnation of its ident
pub openings_known : (s : Scenario) (ps : List Plain) → AreOpenings ps → apart_of s ps ≡ None → (m k : ℕ) (p r : Plain) (q : List ℕ) (h : Row) → slice_get ps m ≡ Some p → slice_get ps k ≡ Some r
    → Mem h (stored q p).rows → h.message.ident.manager ≡ suc k → nat_lt (r.numbers.incarnation - 1) h.message.ident.incarnation ≡ false
openings_known s ps o together m k p r q h is made n own =
    let i : Ident = h.message.ident in
    let l = map_mem (λ (l : LocalQueue). l.name) q (locals_of p.definitions) ((o.each m p is).defined q h n) in
    let tried : Mem i (row_idents ps) = mem_flat (idents_in (λ rows. rows)) p i ps (at_mem ps m p is)
    (mem_flat (λ (l : LocalQueue). map (λ (row : Row). row.message.ident) (stored l.name p).rows) l.0 i (locals_of p.definitions) l.1
    (mem_map (λ (row : Row). row.message.ident) h (stored l.0.name p).rows (subst (λ z. Mem h (stored z p).rows) l.2 n))) in
    let apart_none = (none_else (cables_apart s ps 0 s.cables) (idents_apart ps (standing_idents s ps) (row_idents ps)) together).1 in
    let newer = (once_known ps (standing_idents s ps) i (each_ident ps (standing_idents s ps) (row_idents ps) i apart_none tried)).1 in
    no_case (nat_lt (r.numbers.incarnation - 1) i.incarnation) _ (subst (λ z. newer_case i (known z) ≡ None) (ap (maker ps) own ∙ made) newer)
