-- Histories that are merged entry by entry: what is merged is in order, and with what is left it is all of each.
use Rattle.std.proofs.Common.{ℕ, zero, suc, ◌≡◌, ◌+◌, ◌-◌, ◌<◌, ◌≤◌, ◌⊎◌, Bool, true, false, List, [], ◌∷◌, ◌++◌, Option, Some, None, refl, subst, ap, sym, ◌∙◌, arith, inl, inr, length, drop, get_or, set, replicate, length-append, append-nil}
use Rattle.std.specs.Prelude.{◌==◌, nat_le, slice_get, if◌then◌else◌, IsSome}
use Rattle.std.specs.List.{flat_map}
use Rattle.std.proofs.lemmas.Bool.{cases_eq, cases_lt}
use Rattle.std.proofs.lemmas.Bool.Decides.{nat_tests}
use Rattle.std.proofs.lemmas.List.{get_or-set_same, get_or-set_other, drop_more}
use Rattle.std.proofs.lemmas.List.Concat.{flat_map-append}
use Rattle.mq_base.specs.Members.{Mem, Chain}
use Rattle.mq_spec_network.specs.from_history.{Entry, History}
use Rattle.mq_spec_network.specs.Story.{Line, Earlier, Ranked, part, entries_or, entries_at, IsStory}
use Rattle.mq_story.specs.declared.merging.Spot.{Spot}
use Rattle.mq_story.specs.Spots.{entry_in, entry_of, line_if, line_at, lines_of, Sooner, AreRising, stamp_of, earlier_of, head_at, head_of, IsLeast, IsFirstOf, IsFirst, rest_at, IsMerged, left}

bool_case : (t : Bool) (P : Bool → Type 0) → (t ≡ true → P true) → (t ≡ false → P false) → P t
bool_case true P a b = a refl
bool_case false P a b = b refl

eqb_yes : (a b : ℕ) → (a == b) ≡ true → a ≡ b
eqb_yes a b e = grind (arith, nat_tests)

eqb_self : (a : ℕ) → (a == a) ≡ true
eqb_self a = grind (arith, nat_tests)

le_yes : (a b : ℕ) → nat_le a b ≡ true → a ≤ b
le_yes a b e = grind (arith, nat_tests)

le_no : (a b : ℕ) → nat_le a b ≡ false → b < a
le_no a b e = grind (arith, nat_tests)

-- an entry at a place, and what stands from there on
got_none : {A : Type 0} (xs : List A) (n : ℕ) → slice_get xs n ≡ None → drop n xs ≡ []
got_none [] zero e = refl
got_none [] (suc n) e = refl
got_none (x ∷ xs) zero e = cc
got_none (x ∷ xs) (suc n) e = got_none xs n e

some_within : {A : Type 0} (xs : List A) (n : ℕ) (x : A) → slice_get xs n ≡ Some x → n < length xs
some_within [] n x e = cc
some_within (y ∷ xs) zero x e = omega arith
some_within (y ∷ xs) (suc n) x e = let l : n < length xs = some_within xs n x e in omega arith

some_read : {A : Type 0} (xs : List A) (n : ℕ) (x : A) → slice_get xs n ≡ Some x → get_or xs n x ≡ x
some_read [] n x e = refl
some_read (y ∷ xs) zero x e = cc
some_read (y ∷ xs) (suc n) x e = some_read xs n x e

got_some : {A : Type 0} (xs : List A) (n : ℕ) (x : A) → slice_get xs n ≡ Some x → drop n xs ≡ x ∷ drop (n + 1) xs
got_some {A} xs n x e = drop_more xs n x (some_within xs n x e) ∙ ap (λ (z : A). z ∷ drop (n + 1) xs) (some_read xs n x e)

entry_is : (hs : List History) (m at : ℕ) → entry_of hs (record { manager = m; at = at }) ≡ slice_get (entries_at hs m) at
entry_is hs m at = of (slice_get hs m)
  where
    of : (o : Option History) → entry_in o at ≡ slice_get (entries_or o) at
    of None = refl
    of (Some h) = refl

far_none : {A : Type 0} (xs : List A) (n : ℕ) → length xs ≤ n → slice_get xs n ≡ None
far_none [] n l = refl
far_none (x ∷ xs) zero l = absurd (omega arith)
far_none (x ∷ xs) (suc n) l = far_none xs n (omega arith)

-- the spot that the code reads
pub read_head : (heads : List ℕ) (m at : ℕ) → m < length heads → at ≡ get_or heads m at → at ≡ head_at heads m
read_head [] m at l e = absurd (omega arith)
read_head (h ∷ heads) zero at l e = e
read_head (h ∷ heads) (suc m) at l e = read_head heads m at (omega arith) e

-- One head more is looked at.
pub none_more : (hs : List History) (heads : List ℕ) (n : ℕ) (f : Option (ℕ × ℕ)) → head_of hs heads n ≡ None → IsFirstOf hs heads n f → IsFirstOf hs heads (n + 1) f
none_more hs heads n None e h = λ k l. elim (cases_eq k n) [ inl q ↦ ap (head_of hs heads) q ∙ e | inr d ↦ h k (omega arith) ]
none_more hs heads n (Some f) e h = record {
  within = let l : f.0 < n = h.within in omega arith;
  entry = h.entry;
  is = h.is;
  stamped = h.stamped;
  least = λ k x l is d. elim (cases_eq k n) [ inl q ↦ absurd (let z : None ≡ Some x = sym e ∙ sym (ap (head_of hs heads) q) ∙ is in cc) | inr other ↦ h.least k x (omega arith) is d ];
}

pub some_more : (hs : List History) (heads : List ℕ) (n : ℕ) (f : Option (ℕ × ℕ)) (e : Entry) → head_of hs heads n ≡ Some e → IsFirstOf hs heads n f → IsFirstOf hs heads (n + 1) (earlier_of f n e.stamp)
some_more hs heads n None e is h = record {
  within = omega arith;
  entry = e;
  is = is;
  stamped = refl;
  least = λ k x l at d. absurd (let z : None ≡ Some x = sym (h k (omega arith)) ∙ at in cc);
}
some_more hs heads n (Some f) e is h = bool_case (nat_le f.1 e.stamp) (λ t. IsFirstOf hs heads (n + 1) (if t then Some f else Some (n, e.stamp)))
    (λ le. record {
      within = let l : f.0 < n = h.within in omega arith;
      entry = h.entry;
      is = h.is;
      stamped = h.stamped;
      least = λ k x l at d. elim (cases_eq k n) [
        | inl q ↦ (let same : Some e ≡ Some x = sym is ∙ sym (ap (head_of hs heads) q) ∙ at in let s : e.stamp ≡ x.stamp = ap stamp_some same in stays k x q s (le_yes f.1 e.stamp le))
        | inr other ↦ h.least k x (omega arith) at d
      ];
    })
    (λ le. record {
      within = omega arith;
      entry = e;
      is = is;
      stamped = refl;
      least = λ k x l at d. before k x (omega arith) at (le_no f.1 e.stamp le);
    })
  where
    stamp_some : Option Entry → ℕ
    stamp_some None = 0
    stamp_some (Some z) = z.stamp

    stays : (k : ℕ) (x : Entry) → k ≡ n → e.stamp ≡ x.stamp → f.1 ≤ e.stamp → Earlier (record { manager = f.0; entry = h.entry }) (record { manager = k; entry = x })
    stays k x q s le = let l : f.0 < n = h.within in let t : h.entry.stamp ≡ f.1 = h.stamped in grind arith

    before : (k : ℕ) (x : Entry) → k < n → head_of hs heads k ≡ Some x → e.stamp < f.1 → Earlier (record { manager = n; entry = e }) (record { manager = k; entry = x })
    before k x l at lt = elim (cases_eq k f.0) [
      | inl q ↦ (let same : Some h.entry ≡ Some x = sym h.is ∙ sym (ap (head_of hs heads) q) ∙ at in let s : h.entry.stamp ≡ x.stamp = ap stamp_some same in let t : h.entry.stamp ≡ f.1 = h.stamped in inl (omega arith))
      | inr d ↦ (let r : Earlier (record { manager = f.0; entry = h.entry }) (record { manager = k; entry = x }) = h.least k x l at d in let t : h.entry.stamp ≡ f.1 = h.stamped in inl (above x r t lt))
    ]
      where
        above : (x : Entry) → Earlier (record { manager = f.0; entry = h.entry }) (record { manager = k; entry = x }) → h.entry.stamp ≡ f.1 → e.stamp < f.1 → e.stamp < x.stamp
        above x r t lt = grind arith

pub found : (hs : List History) (heads : List ℕ) (f : Option (ℕ × ℕ)) (m stamp : ℕ) → f ≡ Some (m, stamp) → IsFirstOf hs heads (length heads) f → IsFirst hs heads (Some m)
found hs heads f m stamp e h = (stamp, subst (IsFirstOf hs heads (length heads)) e h)

-- the stamp that the code reads is the head's
pub read_some : (o : Option Entry) (stamp : ℕ) → Some stamp ≡ stamp_of o → (e : Entry) × (o ≡ Some e) × (stamp ≡ e.stamp)
read_some None stamp h = cc
read_some (Some e) stamp h = (e, refl, cc)

pub read_none : (o : Option Entry) → None ≡ stamp_of o → o ≡ None
read_none None h = refl
read_none (Some e) h = cc

-- Nothing is merged at first.
zero_head : (n m : ℕ) → head_at (replicate n 0) m ≡ 0
zero_head zero m = refl
zero_head (suc n) zero = refl
zero_head (suc n) (suc m) = zero_head n m

pub merged_nothing : (hs : List History) (n : ℕ) → IsMerged hs (replicate n 0) []
merged_nothing hs n = record {
  ranked = tt;
  parts = λ m. ap (λ (h : ℕ). drop h (entries_at hs m)) (zero_head n m);
  before = λ x y i j. absurd i;
}

-- One entry more is merged.
part_append : (m : ℕ) (p rest : List Line) → part m (p ++ rest) ≡ part m p ++ part m rest
part_append m [] rest = refl
part_append m (x ∷ p) rest = bool_case (m == x.manager) (λ t. (if t then x.entry ∷ part m (p ++ rest) else part m (p ++ rest)) ≡ (if t then x.entry ∷ part m p else part m p) ++ part m rest)
    (λ e. ap (λ (es : List Entry). x.entry ∷ es) (part_append m p rest)) (λ e. part_append m p rest)

snoc_append : {A : Type 0} (a : List A) (x : A) (c : List A) → (a ++ x ∷ []) ++ c ≡ a ++ x ∷ c
snoc_append [] x c = refl
snoc_append {A} (y ∷ a) x c = ap (λ (l : List A). y ∷ l) (snoc_append a x c)

mem_append : {A : Type 0} (z x : A) (xs : List A) → Mem z (xs ++ x ∷ []) → Mem z xs ⊎ (z ≡ x)
mem_append z x [] (inl e) = inr e
mem_append z x [] (inr n) = absurd n
mem_append z x (y ∷ xs) (inl e) = inl (inl e)
mem_append z x (y ∷ xs) (inr n) = elim (mem_append z x xs n) [ inl m ↦ inl (inr m) | inr e ↦ inr e ]

chain_append : {A : Type 0} (R : A → A → Type 0) (xs : List A) (x : A) → Chain R xs → ((y : A) → Mem y xs → R y x) → Chain R (xs ++ x ∷ [])
chain_append R [] x c f = ((λ y n. absurd n), tt)
chain_append R (y ∷ xs) x c f = ((λ z n. elim (mem_append z x xs n) [ inl m ↦ c.0 z m | inr e ↦ subst (R y) (sym e) (f y (inl refl)) ]), chain_append R xs x c.1 (λ z n. f z (inr n)))

chain_drop : {A : Type 0} (R : A → A → Type 0) (n : ℕ) (xs : List A) → Chain R xs → Chain R (drop n xs)
chain_drop R zero xs c = c
chain_drop R (suc n) [] c = tt
chain_drop R (suc n) (x ∷ xs) c = chain_drop R n xs c.1

head_moved : (heads : List ℕ) (m v k : ℕ) → (k ≡ m → ⊥) → head_at (set heads m v) k ≡ head_at heads k
head_moved heads m v k d = get_or-set_other heads m k v 0 d

head_there : (heads : List ℕ) (m v : ℕ) → m < length heads → head_at (set heads m v) m ≡ v
head_there heads m v l = get_or-set_same heads m v 0 l

-- whoever has an entry left has a head
mem_within : (hs : List History) (k : ℕ) (e : Entry) → Mem e (entries_at hs k) → k < length hs
mem_within [] k e n = absurd n
mem_within (h ∷ hs) zero e n = omega arith
mem_within (h ∷ hs) (suc k) e n = let l : k < length hs = mem_within hs k e n in omega arith

mem_drop : {A : Type 0} (n : ℕ) (xs : List A) (x : A) → Mem x (drop n xs) → Mem x xs
mem_drop zero xs x h = h
mem_drop (suc n) [] x h = h
mem_drop (suc n) (y ∷ xs) x h = inr (mem_drop n xs x h)

pub merged_more : (hs : List History) (heads : List ℕ) (lines : List Line) (m stamp : ℕ) → AreRising hs → length heads ≡ length hs → IsMerged hs heads lines → (h : IsLeast hs heads (length heads) m stamp)
    → IsMerged hs (set heads m (head_at heads m + 1)) (lines ++ record { manager = m; entry = h.entry } ∷ [])
merged_more hs heads lines m stamp rises sized g h = record {
  ranked = chain_append Earlier lines x g.ranked (λ y n. g.before y x n (subst (Mem e) (sym split) (inl refl)));
  parts = λ k. elim (cases_eq k m) [ inl q ↦ subst (λ (j : ℕ). part j (lines ++ x ∷ []) ++ rest_at hs heads' j ≡ entries_at hs j) (sym q) here | inr d ↦ there k d ];
  before = λ z y n r. elim (mem_append z x lines n) [ inl i ↦ g.before z y i (left_before y r) | inr q ↦ subst (λ (w : Line). Earlier w y) (sym q) (new_before y r) ];
}
  where
    e : Entry
    e = h.entry

    x : Line
    x = record { manager = m; entry = h.entry }

    heads' : List ℕ
    heads' = set heads m (head_at heads m + 1)

    is : slice_get (entries_at hs m) (head_at heads m) ≡ Some h.entry
    is = sym (entry_is hs m (head_at heads m)) ∙ h.is

    split : rest_at hs heads m ≡ h.entry ∷ drop (head_at heads m + 1) (entries_at hs m)
    split = got_some (entries_at hs m) (head_at heads m) h.entry is

    moved : rest_at hs (set heads m (head_at heads m + 1)) m ≡ drop (head_at heads m + 1) (entries_at hs m)
    moved = ap (λ (n : ℕ). drop n (entries_at hs m)) (head_there heads m (head_at heads m + 1) h.within)

    same : (k : ℕ) → (k ≡ m → ⊥) → rest_at hs (set heads m (head_at heads m + 1)) k ≡ rest_at hs heads k
    same k d = ap (λ (n : ℕ). drop n (entries_at hs k)) (head_moved heads m (head_at heads m + 1) k d)

    one : part m (record { manager = m; entry = h.entry } ∷ []) ≡ h.entry ∷ []
    one = ap (λ t. if t then h.entry ∷ [] else []) (eqb_self m)

    none : (k : ℕ) → (k ≡ m → ⊥) → part k (record { manager = m; entry = h.entry } ∷ []) ≡ []
    none k d = bool_case (k == m) (λ t. (if t then h.entry ∷ [] else []) ≡ []) (λ q. absurd (d (eqb_yes k m q))) (λ q. refl)

    here : part m (lines ++ record { manager = m; entry = h.entry } ∷ []) ++ rest_at hs (set heads m (head_at heads m + 1)) m ≡ entries_at hs m
    here = ap (λ (l : List Entry). l ++ rest_at hs (set heads m (head_at heads m + 1)) m) (part_append m lines (record { manager = m; entry = h.entry } ∷ []) ∙ ap (λ (l : List Entry). part m lines ++ l) one)
        ∙ put_together ∙ g.parts m
      where
        put_together : (part m lines ++ h.entry ∷ []) ++ rest_at hs (set heads m (head_at heads m + 1)) m ≡ part m lines ++ rest_at hs heads m
        put_together = apart ∙ joined
          where
            whole : h.entry ∷ rest_at hs (set heads m (head_at heads m + 1)) m ≡ rest_at hs heads m
            whole = ap (λ (l : List Entry). h.entry ∷ l) moved ∙ sym split

            apart : (part m lines ++ h.entry ∷ []) ++ rest_at hs (set heads m (head_at heads m + 1)) m ≡ part m lines ++ h.entry ∷ rest_at hs (set heads m (head_at heads m + 1)) m
            apart = snoc_append (part m lines) h.entry (rest_at hs (set heads m (head_at heads m + 1)) m)

            joined : part m lines ++ h.entry ∷ rest_at hs (set heads m (head_at heads m + 1)) m ≡ part m lines ++ rest_at hs heads m
            joined = ap (λ (l : List Entry). part m lines ++ l) whole

    there : (k : ℕ) → (k ≡ m → ⊥) → part k (lines ++ record { manager = m; entry = h.entry } ∷ []) ++ rest_at hs (set heads m (head_at heads m + 1)) k ≡ entries_at hs k
    there k d = ap (λ (l : List Entry). l ++ rest_at hs (set heads m (head_at heads m + 1)) k) (part_append k lines (record { manager = m; entry = h.entry } ∷ []) ∙ ap (λ (l : List Entry). part k lines ++ l) (none k d))
        ∙ put_together ∙ g.parts k
      where
        put_together : (part k lines ++ []) ++ rest_at hs (set heads m (head_at heads m + 1)) k ≡ part k lines ++ rest_at hs heads k
        put_together = apart ∙ joined
          where
            apart : (part k lines ++ []) ++ rest_at hs (set heads m (head_at heads m + 1)) k ≡ part k lines ++ rest_at hs (set heads m (head_at heads m + 1)) k
            apart = ap (λ (l : List Entry). l ++ rest_at hs (set heads m (head_at heads m + 1)) k) (append-nil (part k lines))

            joined : part k lines ++ rest_at hs (set heads m (head_at heads m + 1)) k ≡ part k lines ++ rest_at hs heads k
            joined = ap (λ (l : List Entry). part k lines ++ l) (same k d)

    left_before : (y : Line) → Mem y.entry (rest_at hs (set heads m (head_at heads m + 1)) y.manager) → Mem y.entry (rest_at hs heads y.manager)
    left_before y r = elim (cases_eq y.manager m) [
      | inl q ↦ subst (λ (j : ℕ). Mem y.entry (rest_at hs heads j)) (sym q) (subst (Mem y.entry) (sym split) (inr (subst (Mem y.entry) moved (subst (λ (j : ℕ). Mem y.entry (rest_at hs (set heads m (head_at heads m + 1)) j)) q r))))
      | inr d ↦ subst (Mem y.entry) (same y.manager d) r
    ]

    rising : Chain Sooner (h.entry ∷ drop (head_at heads m + 1) (entries_at hs m))
    rising = subst (Chain Sooner) split (chain_drop Sooner (head_at heads m) (entries_at hs m) (rises m))

    later : (f : Entry) (y : Line) → Earlier (record { manager = m; entry = h.entry }) (record { manager = y.manager; entry = f }) → f.stamp < y.entry.stamp → Earlier x y
    later f y a l = grind arith

    other_head : (y : Line) → (y.manager ≡ m → ⊥) → Mem y.entry (rest_at hs heads y.manager) → (o : Option Entry) → head_of hs heads y.manager ≡ o → Earlier x y
    other_head y d r None is' = absurd (subst (Mem y.entry) (got_none (entries_at hs y.manager) (head_at heads y.manager) (sym (entry_is hs y.manager (head_at heads y.manager)) ∙ is')) r)
    other_head y d r (Some f) is' = at_head (subst (Mem y.entry) cut r)
      where
        cut : rest_at hs heads y.manager ≡ f ∷ drop (head_at heads y.manager + 1) (entries_at hs y.manager)
        cut = got_some (entries_at hs y.manager) (head_at heads y.manager) f (sym (entry_is hs y.manager (head_at heads y.manager)) ∙ is')

        within : y.manager < length heads
        within = let l : y.manager < length hs = mem_within hs y.manager y.entry (mem_drop (head_at heads y.manager) (entries_at hs y.manager) y.entry r) in omega arith

        first : Earlier (record { manager = m; entry = h.entry }) (record { manager = y.manager; entry = f })
        first = h.least y.manager f within is' d

        going : Chain Sooner (f ∷ drop (head_at heads y.manager + 1) (entries_at hs y.manager))
        going = subst (Chain Sooner) cut (chain_drop Sooner (head_at heads y.manager) (entries_at hs y.manager) (rises y.manager))

        at_head : Mem y.entry (f ∷ drop (head_at heads y.manager + 1) (entries_at hs y.manager)) → Earlier x y
        at_head (inl q) = subst (λ (z : Entry). Earlier (record { manager = m; entry = h.entry }) (record { manager = y.manager; entry = z })) (sym q) first
        at_head (inr n) = let l : f.stamp < y.entry.stamp = going.0 y.entry n in later f y first l

    new_before : (y : Line) → Mem y.entry (rest_at hs (set heads m (head_at heads m + 1)) y.manager) → Earlier x y
    new_before y r = elim (cases_eq y.manager m) [
      | inl q ↦ inl (rising.0 y.entry (subst (Mem y.entry) moved (subst (λ (j : ℕ). Mem y.entry (rest_at hs (set heads m (head_at heads m + 1)) j)) q r)))
      | inr d ↦ other_head y d (subst (Mem y.entry) (same y.manager d) r) (head_of hs heads y.manager) refl
    ]

-- the spot of that entry is its line
pub lines_more : (hs : List History) (spots : List Spot) (s : Spot) (e : Entry) → entry_of hs s ≡ Some e → lines_of hs (spots ++ s ∷ []) ≡ lines_of hs spots ++ record { manager = s.manager; entry = e } ∷ []
lines_more hs spots s e is = both ∙ ap (λ (l : List Line). lines_of hs spots ++ l) one
  where
    both : lines_of hs (spots ++ s ∷ []) ≡ lines_of hs spots ++ lines_of hs (s ∷ [])
    both = flat_map-append (line_at hs) spots (s ∷ [])

    one : lines_of hs (s ∷ []) ≡ record { manager = s.manager; entry = e } ∷ []
    one = ap (λ (o : Option Entry). line_if s.manager o ++ []) is

-- All is merged.
pub all_merged : (hs : List History) (heads : List ℕ) (lines : List Line) → length heads ≡ length hs → IsMerged hs heads lines → IsFirst hs heads None → IsStory hs lines
all_merged hs heads lines sized g f = record {
  ranked = g.ranked;
  parts = λ m. sym (append-nil (part m lines)) ∙ ap (λ (l : List Entry). part m lines ++ l) (sym (nothing m (cases_lt m (length heads)))) ∙ g.parts m;
}
  where
    drop_nil : (n : ℕ) → drop n (entries_or None) ≡ []
    drop_nil zero = refl
    drop_nil (suc n) = refl

    nothing : (m : ℕ) → (m < length heads) ⊎ (length heads ≤ m) → rest_at hs heads m ≡ []
    nothing m (inl l) = got_none (entries_at hs m) (head_at heads m) (sym (entry_is hs m (head_at heads m)) ∙ f m l)
    nothing m (inr l) = ap (λ (o : Option History). drop (head_at heads m) (entries_or o)) (far_none hs m (omega arith)) ∙ drop_nil (head_at heads m)

-- each entry that is merged leaves one less
pub fewer_left : (hs : List History) (heads : List ℕ) (m : ℕ) (e : Entry) → m < length heads → length heads ≡ length hs → head_of hs heads m ≡ Some e → left hs (set heads m (head_at heads m + 1)) < left hs heads
fewer_left [] heads m e l s is = absurd (omega arith)
fewer_left (h ∷ hs) [] m e l s is = absurd (omega arith)
fewer_left (h ∷ hs) (n ∷ heads) zero e l s is = let i : n < length h.entries = some_within h.entries n e is in omega arith
fewer_left (h ∷ hs) (n ∷ heads) (suc m) e l s is = let r : left hs (set heads m (head_at heads m + 1)) < left hs heads = fewer_left hs heads m e (omega arith) (omega arith) is in omega arith

-- The step of the code's loop.
pub has_entry : (hs : List History) (heads : List ℕ) (m at : ℕ) → IsFirst hs heads (Some m) → at ≡ head_at heads m → IsSome (entry_of hs (record { manager = m; at = at }))
has_entry hs heads m at f e = some_is (entry_of hs (record { manager = m; at = at })) f.1.entry (ap (λ (n : ℕ). entry_of hs (record { manager = m; at = n })) e ∙ f.1.is)
  where
    some_is : (o : Option Entry) (x : Entry) → o ≡ Some x → IsSome o
    some_is None x q = cc
    some_is (Some y) x q = refl

pub step_merged : (hs : List History) (heads : List ℕ) (spots : List Spot) (m at : ℕ) → AreRising hs → length heads ≡ length hs → IsMerged hs heads (lines_of hs spots) → IsFirst hs heads (Some m) → at ≡ head_at heads m
    → IsMerged hs (set heads m (at + 1)) (lines_of hs (spots ++ record { manager = m; at = at } ∷ []))
step_merged hs heads spots m at rises sized g f e =
    subst (λ (n : ℕ). IsMerged hs (set heads m (n + 1)) (lines_of hs (spots ++ record { manager = m; at = n } ∷ []))) (sym e)
    (subst (IsMerged hs (set heads m (head_at heads m + 1))) (sym (lines_more hs spots (record { manager = m; at = head_at heads m }) f.1.entry f.1.is)) (merged_more hs heads (lines_of hs spots) m f.0 rises sized g f.1))

pub step_there : (hs : List History) (heads : List ℕ) (spots : List Spot) (m at : ℕ) → IsFirst hs heads (Some m) → at ≡ head_at heads m → length (lines_of hs spots) ≡ length spots
    → length (lines_of hs (spots ++ record { manager = m; at = at } ∷ [])) ≡ length (spots ++ record { manager = m; at = at } ∷ [])
step_there hs heads spots m at f e t =
    subst (λ (n : ℕ). length (lines_of hs (spots ++ record { manager = m; at = n } ∷ [])) ≡ length (spots ++ record { manager = m; at = n } ∷ [])) (sym e)
    (ap length (lines_more hs spots (record { manager = m; at = head_at heads m }) f.1.entry f.1.is) ∙ one_more (lines_of hs spots) spots (record { manager = m; entry = f.1.entry }) (record { manager = m; at = head_at heads m }) t)
  where
    one_more : {A B : Type 0} (xs : List A) (ys : List B) (x : A) (y : B) → length xs ≡ length ys → length (xs ++ x ∷ []) ≡ length (ys ++ y ∷ [])
    one_more xs ys x y e = length-append xs (x ∷ []) ∙ ap (λ (n : ℕ). n + 1) e ∙ sym (length-append ys (y ∷ []))

pub step_fewer : (hs : List History) (heads : List ℕ) (m at : ℕ) → length heads ≡ length hs → IsFirst hs heads (Some m) → at ≡ head_at heads m → left hs (set heads m (at + 1)) < left hs heads
step_fewer hs heads m at sized f e = subst (λ (n : ℕ). left hs (set heads m (n + 1)) < left hs heads) (sym e) (fewer_left hs heads m f.1.entry f.1.within sized f.1.is)

-- what the code's look at the heads says
pub first_head : (hs : List History) (heads slice : List ℕ) (r o : Option ℕ) → IsFirst hs slice r → slice ≡ heads → r ≡ o → IsFirst hs heads o
first_head hs heads slice r o f e q = subst (λ (l : List ℕ). IsFirst hs l o) e (subst (IsFirst hs slice) q f)
