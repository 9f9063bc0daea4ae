-- The ends of cables at their managers: one more, one less, and their names.
use Rattle.std.proofs.Common.{◌≡◌, ◌≢◌, ◌<◌, ◌≤◌, ◌+◌, ◌*◌, ℕ, zero, suc, Bool, true, false, List, [], ◌∷◌, ◌++◌, length, drop, refl, sym, ap, subst, ◌∙◌, append-nil, ⊎_elim, arith}
use Rattle.std.specs.Prelude.{◌==◌, if◌then◌else◌, not, IfSome, Option, Some, None, map, slice_get, slice_set}
use Rattle.std.proofs.lemmas.Bool.Decides.{nat_tests}
use Rattle.atomic_table.specs.Seated.{TableId}
use Rattle.mq_history.specs.declared.scenario.CableLine.{CableLine}
use Rattle.mq_spec_node.specs.Terms.{Entry}
use Rattle.mq_ways.specs.Ways.{CableState, WayState}
use Rattle.mq_split.specs.declared.opening.Passes.{Passes}
use Rattle.mq_split.specs.declared.opening.Pipes.{Pipes}
use Rattle.mq_split.specs.Facing.{AreJoined, Facing, IsJoined}
use Rattle.mq_split.specs.Ends.{AreFree, EachIs, EndsApart, IsEndAt, Parted, acts_as, end_name, faults_at, manager_at, queue_at}
use Rattle.mq_split.specs.Joining.{ArePair, JoinsAgain}
use Rattle.mq_split.specs.Opening.{IsBare, IsShort, whole, wholes}
use Rattle.mq_split.specs.Parting.{AllFree, AreEnds, AreEndsAt, AreRows, EndRowState, IsAdded, IsAmong, IsBegunOver, IsJoinedAt, IsRow, IsTaken, Passed, back_queue, done_in, ends_by, ends_named, named_at, names_from, none_since, out_queue}
use Rattle.mq_split.specs.Took.{EndKept, EndState, way}
use Rattle.mq_split.proofs.PlaceLaws.{at_end, drop_at, drop_past, get_first, get_last, get_map, get_set, long_snoc, map_snoc, set_long, snoc_first, some_is, there, within}

-- A NAME AT A MANAGER
same_true : (m : ℕ) → (m == m) ≡ true
same_true m = grind (arith, nat_tests)

other_false : (a b : ℕ) → b ≢ a → (a == b) ≡ false
other_false a b apart = grind (arith, nat_tests, apart)

pub named_here : (m k : ℕ) (side : Bool) → named_at m m k side ≡ (k, side) ∷ []
named_here m k side = ap (λ (t : Bool). if t then (k, side) ∷ [] else []) (same_true m)

pub named_not : (at m k : ℕ) (side : Bool) → m ≢ at → named_at at m k side ≡ []
named_not at m k side apart = ap (λ (t : Bool). if t then (k, side) ∷ [] else []) (other_false at m apart)

-- ONE END MORE
pub each_end : (P : EndState → Type 0) (es : List EndState) (e : EndState) → EachIs P es → P e → EachIs P (es ++ e ∷ [])
each_end P es e h p i x f = ⊎_elim (λ (q : slice_get es i ≡ Some x). h i x q) (λ (q : (i ≡ length es) × (e ≡ x)). subst P q.1 p) (at_end es e x i f)

pub row_more : (b : Parted) (names : ℕ → List (ℕ × Bool)) (room m left : ℕ) (r : EndRowState) (e : EndState) → IsRow b names (room + 1) m r → left + 1 ≡ r.room → IsEndAt b m (b.done m) [] e → e.wire.fetched ≡ None
    → IsRow b (λ n. names n ++ named_at m n e.cable e.sends) room m (record { ends = r.ends ++ e ∷ []; room = left })
row_more b names room m left r e h is end free = record {
  ends = record {
    names_are = map_snoc end_name r.ends e ∙ ap (λ (xs : List (ℕ × Bool)). xs ++ end_name e ∷ []) h.ends.names_are ∙ ap (λ (xs : List (ℕ × Bool)). names m ++ xs) (sym (named_here m e.cable e.sends));
    each = each_end (IsEndAt b m (b.done m) []) r.ends e h.ends.each end;
  };
  free = each_end (λ (x : EndState). x.wire.fetched ≡ None) r.ends e h.free free;
  room_is = let l = h.room_is in omega (arith, l, is);
}

pub row_other : (b : Parted) (names : ℕ → List (ℕ × Bool)) (room at m : ℕ) (k : ℕ) (side : Bool) (r : EndRowState) → m ≢ at → IsRow b names (room + 1) m r → IsRow b (λ n. names n ++ named_at at n k side) room m r
row_other b names room at m k side r apart h = record {
  ends = record {
    names_are = h.ends.names_are ∙ sym (append-nil (names m)) ∙ ap (λ (xs : List (ℕ × Bool)). names m ++ xs) (sym (named_not at m k side apart));
    each = h.ends.each;
  };
  free = h.free;
  room_is = let l = h.room_is in omega (arith, l);
}

pub rows_more : (b : Parted) (names : ℕ → List (ℕ × Bool)) (room at : ℕ) (e : EndState) (old new : List EndRowState) → AreRows b names (room + 1) old → IsEndAt b at (b.done at) [] e → e.wire.fetched ≡ None → IsAdded at e old new
    → AreRows b (λ n. names n ++ named_at at n e.cable e.sends) room new
rows_more b names room at e old new h end free a m r f =
    ⊎_elim
    (λ (q : (m ≡ at) × (record { ends = a.row.ends ++ e ∷ []; room = a.room } ≡ r)).
    subst (λ (x : EndRowState). IsRow b (λ n. names n ++ named_at at n e.cable e.sends) room m x) q.1
    (subst (λ (n : ℕ). IsRow b (λ j. names j ++ named_at at j e.cable e.sends) room n (record { ends = a.row.ends ++ e ∷ []; room = a.room })) (sym q.0)
    (row_more b names room at a.room a.row e (h at a.row a.there) a.left end free)))
    (λ (q : (m ≢ at) × (slice_get old m ≡ Some r)). row_other b names room at m e.cable e.sends r q.0 (h m r q.1))
    (get_set old at m (record { ends = a.row.ends ++ e ∷ []; room = a.room }) r (subst (λ (l : List EndRowState). slice_get l m ≡ Some r) a.is f))

pub room_at : (b : Parted) (names : ℕ → List (ℕ × Bool)) (room : ℕ) (rows : List EndRowState) (at : ℕ) → 0 < room → AreRows b names room rows → IfSome (slice_get rows at) (λ (r : EndRowState). 0 < r.room)
room_at b names room rows at some h = by_row (slice_get rows at) refl
  where
    by_row : (o : Option EndRowState) → slice_get rows at ≡ o → IfSome o (λ (r : EndRowState). 0 < r.room)
    by_row None is = tt
    by_row (Some r) is = let l = (h at r is).room_is in omega (arith, l, some)

-- both ends of a cable
module _ (b : Parted) (names : ℕ → List (ℕ × Bool)) (room k r s : ℕ) (far near : EndState) (old mid new : List EndRowState) where
  abbrev after_far : ℕ → List (ℕ × Bool)
  after_far m = names m ++ named_at r m k false

  pub rows_far : AreRows b names (room + 2) old → IsEndAt b r (b.done r) [] far → far.wire.fetched ≡ None → far.cable ≡ k → far.sends ≡ false → IsAdded r far old mid → AreRows b after_far (room + 1) mid
  rows_far h end free cable side a =
      subst (λ (t : Bool). AreRows b (λ m. names m ++ named_at r m k t) (room + 1) mid) side
      (subst (λ (n : ℕ). AreRows b (λ m. names m ++ named_at r m n far.sends) (room + 1) mid) cable
      (rows_more b names (room + 1) r far old mid (subst (λ (n : ℕ). AreRows b names n old) (let e : room + 2 ≡ room + 1 + 1 = omega arith in e) h) end free a))

  pub rows_near : AreRows b after_far (room + 1) mid → IsEndAt b s (b.done s) [] near → near.wire.fetched ≡ None → near.cable ≡ k → near.sends ≡ true → IsAdded s near mid new → AreRows b (λ m. names m ++ named_at r m k false ++ named_at s m k true) room new
  rows_near h end free cable side a =
      subst (λ (t : Bool). AreRows b (λ m. after_far m ++ named_at s m k t) room new) side
      (subst (λ (n : ℕ). AreRows b (λ m. after_far m ++ named_at s m n near.sends) room new) cable (rows_more b after_far room s near mid new h end free a))

-- AN END AS A PHASE BEGINS, the sender's or the receiver's
pub begins : (b : Parted) (k : ℕ) (l : CableLine) (side : Bool) (t u : TableId) (w : WayState) (e : EndState) → slice_get b.lines k ≡ Some l → queue_at b k side ≡ Some t → queue_at b k (not side) ≡ Some u
    → Facing (faults_at l side) (acts_as k side) (acts_as k (not side)) (b.done (manager_at l side)) (b.done (manager_at l (not side))) w
    → e.cable ≡ k → e.sends ≡ side → e.offers ≡ w.offers → e.wire.out ≡ t → e.wire.from ≡ u → e.wire.sent ≡ w.items → e.wire.taken ≡ [] → IsEndAt b (manager_at l side) (b.done (manager_at l side)) [] e
begins b k l side t u w e line outs backs faces cable sends offers out from sent taken = record {
  line = l;
  there = ap (λ (n : ℕ). slice_get b.lines n) cable ∙ line;
  here = ap (λ (s : Bool). manager_at l s) sends;
  out = (λ i. queue_at b (cable i) (sends i)) ∙ outs ∙ ap Some (sym out);
  from = (λ i. queue_at b (cable i) (not (sends i))) ∙ backs ∙ ap Some (sym from);
  kept = subst (λ (s : Bool). EndKept (faults_at l s) (acts_as e.cable s) (acts_as e.cable (not s)) mine (b.done (manager_at l (not s))) [] e) (sym sends)
      (subst (λ (n : ℕ). EndKept (faults_at l side) (acts_as n side) (acts_as n (not side)) mine (b.done (manager_at l (not side))) [] e) (sym cable)
      (record {
        write = subst (λ (es : List Entry). Faces es (way e.wire.sent e.offers)) (sym (append-nil mine))
            (subst (λ (xs : List _). Faces mine (way xs e.offers)) (sym sent)
            (subst (λ (o : _). Faces mine (way w.items o)) (sym offers) faces));
        read = taken;
      }));
}
  where
    mine : List Entry
    mine = b.done (manager_at l side)

    Faces : List Entry → WayState → Type 0
    Faces es x = Facing (faults_at l side) (acts_as k side) (acts_as k (not side)) es (b.done (manager_at l (not side))) x

-- ONE END LESS
pub ends_less : (b : Parted) (since : ℕ → List Entry) (names : ℕ → List (ℕ × Bool)) (at k : ℕ) (side : Bool) (e : EndState) (old new : List (List EndState)) → AreEnds b since (λ n. names n ++ named_at at n k side) old → IsTaken at e old new
    → AreEnds b since names new × IsEndAt b at (b.done at) (since at) e × (e.cable ≡ k) × (e.sends ≡ side)
ends_less b since names at k side e old new h t =
    let mine = h at (t.rest ++ e ∷ []) t.there in
    let named : map end_name t.rest ++ end_name e ∷ [] ≡ names at ++ (k, side) ∷ [] = sym (map_snoc end_name t.rest e) ∙ mine.names_are ∙ ap (λ (xs : List (ℕ × Bool)). names at ++ xs) (named_here at k side) in
    let parts = snoc_first (map end_name t.rest) (names at) (end_name e) (k, side) named in (
      (λ m es f.
          ⊎_elim
          (λ (q : (m ≡ at) × (t.rest ≡ es)).
          subst (λ (x : List EndState). AreEndsAt b since names m x) q.1
          (subst (λ (n : ℕ). AreEndsAt b since names n t.rest) (sym q.0)
          (record { names_are = parts.0; each = λ i x g. mine.each i x (get_first t.rest (e ∷ []) i x g) })))
          (λ (q : (m ≢ at) × (slice_get old m ≡ Some es)).
          let theirs = h m es q.1 in
          record { names_are = theirs.names_are ∙ ap (λ (xs : List (ℕ × Bool)). names m ++ xs) (named_not at m k side q.0) ∙ append-nil (names m); each = theirs.each })
          (get_set old at m t.rest es (subst (λ (l : List (List EndState)). slice_get l m ≡ Some es) t.is f))),
      mine.each (length t.rest) e (get_last t.rest e),
      ap (λ (x : ℕ × Bool). x.0) parts.1,
      ap (λ (x : ℕ × Bool). x.1) parts.1,
    )

pub taken_long : (at : ℕ) (e : EndState) (old new : List (List EndState)) → IsTaken at e old new → length new ≡ length old
taken_long at e old new t = ap (λ (l : List (List EndState)). length l) t.is ∙ set_long old at t.rest

-- there is one
pub some_end : (b : Parted) (since : ℕ → List Entry) (names : ℕ → List (ℕ × Bool)) (at k : ℕ) (side : Bool) (rows : List (List EndState)) → AreEnds b since (λ n. names n ++ named_at at n k side) rows → slice_get rows at ≢ Some []
some_end b since names at k side rows h f =
    never (names at) (k, side) ((h at [] f).names_are ∙ ap (λ (xs : List (ℕ × Bool)). names at ++ xs) (named_here at k side))
  where
    never : {A : Type 0} (xs : List A) (x : A) → [] ≡ xs ++ x ∷ [] → ⊥
    never [] x e = cc e
    never (y ∷ xs) x e = cc e

-- NAMES
-- all names of the cables from a place on are of those
names_past : (k : ℕ) (ls : List CableLine) (m i : ℕ) (x : ℕ × Bool) → slice_get (names_from k ls m) i ≡ Some x → k ≤ x.0
names_past k [] m i x f = absurd (cc f)
names_past k (l ∷ ls) m i x f =
    in_named (names_from (suc k) ls m ++ named_at l.receiver m k false) l.sender true (in_named (names_from (suc k) ls m) l.receiver false (λ j y g. let past = names_past (suc k) ls m j y g in omega (arith, past))) i x f
  where
    in_named : (xs : List (ℕ × Bool)) (at : ℕ) (side : Bool) → ((j : ℕ) (y : ℕ × Bool) → slice_get xs j ≡ Some y → k ≤ y.0) → (j : ℕ) (y : ℕ × Bool) → slice_get (xs ++ named_at at m k side) j ≡ Some y → k ≤ y.0
    in_named xs at side h j y g = by_test (at == m) refl
      where
        by_test : (t : Bool) → (at == m) ≡ t → k ≤ y.0
        by_test true is =
            let g2 : slice_get (xs ++ (k, side) ∷ []) j ≡ Some y = subst (λ (b : Bool). slice_get (xs ++ (if b then (k, side) ∷ [] else [])) j ≡ Some y) is g in
            ⊎_elim (λ (q : slice_get xs j ≡ Some y). h j y q) (λ (q : (j ≡ length xs) × ((k, side) ≡ y)). let e = ap (λ (z : ℕ × Bool). z.0) q.1 in omega (arith, e)) (at_end xs (k, side) y j g2)
        by_test false is =
            let g2 : slice_get (xs ++ []) j ≡ Some y = subst (λ (b : Bool). slice_get (xs ++ (if b then (k, side) ∷ [] else [])) j ≡ Some y) is g in
            h j y (subst (λ (zs : List (ℕ × Bool)). slice_get zs j ≡ Some y) (append-nil xs) g2)

-- no name stands twice
abbrev pub AreApart : List (ℕ × Bool) → Type 0
AreApart xs = (i j : ℕ) (x : ℕ × Bool) → slice_get xs i ≡ Some x → slice_get xs j ≡ Some x → i ≡ j

apart_more : (xs : List (ℕ × Bool)) (k at m : ℕ) (side : Bool) → AreApart xs → ((j : ℕ) → slice_get xs j ≢ Some (k, side)) → AreApart (xs ++ named_at at m k side)
apart_more xs k at m side apart new = by_test (at == m) refl
  where
    by_test : (t : Bool) → (at == m) ≡ t → AreApart (xs ++ named_at at m k side)
    by_test true is =
        subst (λ (b : Bool). AreApart (xs ++ (if b then (k, side) ∷ [] else []))) (sym is)
        (λ i j x f g.
        ⊎_elim
        (λ (p : slice_get xs i ≡ Some x).
        ⊎_elim
        (λ (q : slice_get xs j ≡ Some x). apart i j x p q)
        (λ (q : (j ≡ length xs) × ((k, side) ≡ x)). absurd (new i (subst (λ (y : ℕ × Bool). slice_get xs i ≡ Some y) (sym q.1) p)))
        (at_end xs (k, side) x j g))
        (λ (p : (i ≡ length xs) × ((k, side) ≡ x)).
        ⊎_elim
        (λ (q : slice_get xs j ≡ Some x). absurd (new j (subst (λ (y : ℕ × Bool). slice_get xs j ≡ Some y) (sym p.1) q)))
        (λ (q : (j ≡ length xs) × ((k, side) ≡ x)). p.0 ∙ sym q.0)
        (at_end xs (k, side) x j g))
        (at_end xs (k, side) x i f))
    by_test false is = subst (λ (b : Bool). AreApart (xs ++ (if b then (k, side) ∷ [] else []))) (sym is) (subst AreApart (sym (append-nil xs)) apart)

pub names_apart : (k : ℕ) (ls : List CableLine) (m : ℕ) → AreApart (names_from k ls m)
names_apart k [] m = λ i j x f g. absurd (cc f)
names_apart k (l ∷ ls) m =
    apart_more (names_from (suc k) ls m ++ named_at l.receiver m k false) k l.sender m true
    (apart_more (names_from (suc k) ls m) k l.receiver m false (names_apart (suc k) ls m) (λ j f. let past = names_past (suc k) ls m j (k, false) f in absurd (omega (arith, past))))
    (λ j f. no_near j f)
  where
    no_near : (j : ℕ) → slice_get (names_from (suc k) ls m ++ named_at l.receiver m k false) j ≢ Some (k, true)
    no_near j f = by_test (l.receiver == m) refl
      where
        by_test : (t : Bool) → (l.receiver == m) ≡ t → ⊥
        by_test true is =
            let f2 : slice_get (names_from (suc k) ls m ++ (k, false) ∷ []) j ≡ Some (k, true) = subst (λ (b : Bool). slice_get (names_from (suc k) ls m ++ (if b then (k, false) ∷ [] else [])) j ≡ Some (k, true)) is f in
            ⊎_elim
            (λ (q : slice_get (names_from (suc k) ls m) j ≡ Some (k, true)). let past = names_past (suc k) ls m j (k, true) q in omega (arith, past))
            (λ (q : (j ≡ length (names_from (suc k) ls m)) × ((k, false) ≡ (k, true))). let e : false ≡ true = ap (λ (z : ℕ × Bool). z.1) q.1 in cc e)
            (at_end (names_from (suc k) ls m) (k, false) (k, true) j f2)
        by_test false is =
            let f2 : slice_get (names_from (suc k) ls m ++ []) j ≡ Some (k, true) = subst (λ (b : Bool). slice_get (names_from (suc k) ls m ++ (if b then (k, false) ∷ [] else [])) j ≡ Some (k, true)) is f in
            let past = names_past (suc k) ls m j (k, true) (subst (λ (zs : List (ℕ × Bool)). slice_get zs j ≡ Some (k, true)) (append-nil (names_from (suc k) ls m)) f2) in omega (arith, past)

-- so the ends are apart
pub ends_are_apart : (b : Parted) (since : ℕ → List Entry) (ls : List CableLine) (m : ℕ) (es : List EndState) → AreEndsAt b since (ends_named ls) m es → EndsApart es
ends_are_apart b since ls m es h i j d e f g cable sends =
    let one : slice_get (ends_named ls m) i ≡ Some (end_name d) = ap (λ (xs : List (ℕ × Bool)). slice_get xs i) (sym h.names_are) ∙ get_map end_name es i d f in
    let other : slice_get (ends_named ls m) j ≡ Some (end_name e) = ap (λ (xs : List (ℕ × Bool)). slice_get xs j) (sym h.names_are) ∙ get_map end_name es j e g in
    let same : end_name e ≡ end_name d = ap (λ (n : ℕ). (n, e.sends)) (sym cable) ∙ ap (λ (s : Bool). (d.cable, s)) (sym sends) in
    names_apart 0 ls m i j (end_name d) one (other ∙ ap Some same)

-- the names by manager
pub ends_by_at : (ls : List CableLine) (m n i : ℕ) → i < n → slice_get (ends_by ls m n) i ≡ Some (ends_named ls (m + i))
ends_by_at ls m zero i lt = absurd (omega (arith, lt))
ends_by_at ls m (suc n) zero lt = ap (λ (k : ℕ). Some (ends_named ls k)) (let e : m ≡ m + 0 = omega arith in e)
ends_by_at ls m (suc n) (suc i) lt = ends_by_at ls (suc m) n i (omega (arith, lt)) ∙ ap (λ (k : ℕ). Some (ends_named ls k)) (let e : suc m + i ≡ m + suc i = omega arith in e)

pub ends_by_long : (ls : List CableLine) (m n : ℕ) → length (ends_by ls m n) ≡ n
ends_by_long ls m zero = refl
ends_by_long ls m (suc n) = ap suc (ends_by_long ls (suc m) n)

-- the names of the cables from a place on
pub names_at_line : (b : Parted) (k m : ℕ) (l : CableLine) → slice_get b.lines k ≡ Some l
    → names_from k (drop k b.lines) m ≡ names_from (suc k) (drop (suc k) b.lines) m ++ named_at l.receiver m k false ++ named_at l.sender m k true
names_at_line b k m l is = ap (λ (ls : List CableLine). names_from k ls m) (drop_at b.lines k l is)

-- THE CABLES TAKEN APART, one at a time
wholes_get : (ss : List Passes) (s : Passes) (cs : List CableState) (c : CableState) → slice_get cs (length ss) ≡ Some c → slice_get (wholes (ss ++ s ∷ []) cs) (length ss) ≡ Some (whole s c)
wholes_get [] s [] c e = absurd (cc e)
wholes_get [] s (d ∷ cs) c e = ap (λ (x : CableState). Some (whole s x)) (some_is d c e)
wholes_get (t ∷ ss) s [] c e = absurd (cc e)
wholes_get (t ∷ ss) s (d ∷ cs) c e = wholes_get ss s cs c e

wholes_before : (ss : List Passes) (s : Passes) (cs : List CableState) (c : CableState) (j : ℕ) → j < length ss → slice_get (wholes ss (slice_set cs (length ss) c)) j ≡ slice_get (wholes (ss ++ s ∷ []) cs) j
wholes_before [] s cs c j lt = absurd (omega (arith, lt))
wholes_before (t ∷ ss) s [] c j lt = refl
wholes_before (t ∷ ss) s (d ∷ cs) c zero lt = refl
wholes_before (t ∷ ss) s (d ∷ cs) c (suc j) lt = wholes_before ss s cs c j (omega (arith, lt))

-- the first cables are as the histories say, with the items that lie in their queues
abbrev pub FirstJoined : ℕ → List CableLine → (ℕ → List Entry) → List CableState → Type 0
FirstJoined n ls done ds = (j : ℕ) (l : CableLine) (c : CableState) → j < n → slice_get ls j ≡ Some l → slice_get ds j ≡ Some c → IsJoined j l done c

pub rows_named : (b : Parted) (names names' : ℕ → List (ℕ × Bool)) (room : ℕ) (rows : List EndRowState) → ((m : ℕ) → names m ≡ names' m) → AreRows b names room rows → AreRows b names' room rows
rows_named b names names' room rows same h m r f =
    let x = h m r f in record { ends = record { names_are = x.ends.names_are ∙ same m; each = x.ends.each }; free = x.free; room_is = x.room_is }

module _ (b : Parted) (ps : List Pipes) (ls : List CableLine) (begun : IsBegunOver b ps ls) (passes rest : List Passes) (s : Passes) (k : ℕ) (is : passes ≡ rest ++ s ∷ []) (at : k ≡ length rest) where
  long : length passes ≡ suc k
  long = ap (λ (l : List Passes). length l) is ∙ long_snoc rest s ∙ ap suc (sym at)

  pub part_line : (l : CableLine) → slice_get ls k ≡ Some l → slice_get b.lines k ≡ Some l
  part_line l found = ap (λ (xs : List CableLine). slice_get xs k) begun.lines ∙ found

  pub part_out : (p : Pipes) → slice_get ps k ≡ Some p → slice_get b.outs k ≡ Some (out_queue p)
  part_out p found = ap (λ (ts : List TableId). slice_get ts k) begun.outs ∙ get_map out_queue ps k p found

  pub part_back : (p : Pipes) → slice_get ps k ≡ Some p → slice_get b.backs k ≡ Some (back_queue p)
  part_back p found = ap (λ (ts : List TableId). slice_get ts k) begun.backs ∙ get_map back_queue ps k p found

  pub part_joined : (done : ℕ → List Entry) (cs : List CableState) (l : CableLine) (c : CableState) → FirstJoined (length passes) ls done (wholes passes cs) → slice_get ls k ≡ Some l → slice_get cs k ≡ Some c → IsJoined k l done (whole s c)
  part_joined done cs l c h line found =
      let lt : k < length passes = omega (arith, long) in
      h k l (whole s c) lt line
      (subst (λ (n : ℕ). slice_get (wholes passes cs) n ≡ Some (whole s c)) (sym at)
      (subst (λ (xs : List Passes). slice_get (wholes xs cs) (length rest) ≡ Some (whole s c)) (sym is)
      (wholes_get rest s cs c (subst (λ (n : ℕ). slice_get cs n ≡ Some c) at found))))

  pub part_rows : (rows : List EndRowState) → AreRows b (names_from (length passes) (drop (length passes) b.lines)) (2 * length passes) rows → AreRows b (names_from (suc k) (drop (suc k) b.lines)) (2 * k + 2) rows
  part_rows rows h =
      let more : 2 * suc k ≡ 2 * k + 2 = omega arith in
      subst (λ (n : ℕ). AreRows b (names_from (suc k) (drop (suc k) b.lines)) n rows) more (subst (λ (n : ℕ). AreRows b (names_from n (drop n b.lines)) (2 * n) rows) long h)

  -- behind it
  pub rest_joined : (done : ℕ → List Entry) (cs : List CableState) (c : CableState) → FirstJoined (length passes) ls done (wholes passes cs) → FirstJoined (length rest) ls done (wholes rest (slice_set cs k c))
  rest_joined done cs c h j l x lt line found =
      h j l x (omega (arith, lt, long, at)) line
      (subst (λ (xs : List Passes). slice_get (wholes xs cs) j ≡ Some x) (sym is)
      (sym (wholes_before rest s cs c j lt) ∙ subst (λ (n : ℕ). slice_get (wholes rest (slice_set cs n c)) j ≡ Some x) at found))

  pub rest_rows : (l : CableLine) (rows : List EndRowState) → slice_get ls k ≡ Some l
      → AreRows b (λ m. names_from (suc k) (drop (suc k) b.lines) m ++ named_at l.receiver m k false ++ named_at l.sender m k true) (2 * k) rows
      → AreRows b (names_from (length rest) (drop (length rest) b.lines)) (2 * length rest) rows
  rest_rows l rows line h =
      subst (λ (n : ℕ). AreRows b (names_from n (drop n b.lines)) (2 * n) rows) at
      (rows_named b (λ m. names_from (suc k) (drop (suc k) b.lines) m ++ named_at l.receiver m k false ++ named_at l.sender m k true) (names_from k (drop k b.lines)) (2 * k) rows (λ m. sym (names_at_line b k m l (part_line l line))) h)

-- before the first
pub rows_begin : (b : Parted) (ps : List Pipes) (ls : List CableLine) (n : ℕ) (rows : List EndRowState) → IsBegunOver b ps ls → length ls ≡ n → EachIs (λ (r : EndRowState). (r.ends ≡ []) × (2 * n ≤ r.room)) rows
    → AreRows b (names_from n (drop n b.lines)) (2 * n) rows
rows_begin b ps ls n rows begun long h m r f =
    let x = h m r f in
    let past : drop n b.lines ≡ [] = drop_past b.lines n (let e = ap (λ (l : List CableLine). length l) begun.lines in omega (arith, long, e)) in
    record {
      ends = record {
        names_are = ap (λ (es : List EndState). map end_name es) x.0 ∙ sym (ap (λ (l : List CableLine). names_from n l m) past);
        each = λ i e g. absurd (let bad : None ≡ Some e = ap (λ (es : List EndState). slice_get es i) (sym x.0) ∙ g in cc bad);
      };
      free = λ i e g. absurd (let bad : None ≡ Some e = ap (λ (es : List EndState). slice_get es i) (sym x.0) ∙ g in cc bad);
      room_is = x.1;
    }

-- behind the last
pub rows_end : (b : Parted) (ps : List Pipes) (ls : List CableLine) (n room : ℕ) (rows : List EndRowState) → IsBegunOver b ps ls → n ≡ 0 → AreRows b (names_from n (drop n b.lines)) room rows
    → (m : ℕ) (r : EndRowState) → slice_get rows m ≡ Some r → AreEndsAt b none_since (ends_named ls) m r.ends
rows_end b ps ls n room rows begun none h m r f =
    let x = h m r f in
    record {
      names_are = x.ends.names_are ∙ ap (λ (k : ℕ). names_from k (drop k b.lines) m) none ∙ ap (λ (l : List CableLine). names_from 0 l m) begun.lines;
      each = x.ends.each;
    }

pub among_still : (ls : List CableLine) (m n : ℕ) → n ≡ m → EachIs (IsAmong m) ls → EachIs (IsAmong n) ls
among_still ls m n same h = subst (λ (k : ℕ). EachIs (IsAmong k) ls) (sym same) h

-- A CABLE'S TWO ENDS ARE TAKEN, one at a time
module _ (p : Passed) (names : ℕ → List (ℕ × Bool)) (k : ℕ) (l : CableLine) (near far : EndState) (old mid new : List (List EndState))
    (h : AreEnds p.begun p.since (λ m. names m ++ named_at l.receiver m k false ++ named_at l.sender m k true) old) (t : IsTaken l.sender near old mid) where
  abbrev without_near : ℕ → List (ℕ × Bool)
  without_near m = names m ++ named_at l.receiver m k false

  one : AreEnds p.begun p.since without_near mid × IsEndAt p.begun l.sender (p.begun.done l.sender) (p.since l.sender) near × (near.cable ≡ k) × (near.sends ≡ true)
  one = ends_less p.begun p.since without_near l.sender k true near old mid h t

  pub far_some : slice_get mid l.receiver ≢ Some []
  far_some = some_end p.begun p.since names l.receiver k false mid one.0

  pub near_is : near.cable ≡ k
  near_is = one.2

  two : IsTaken l.receiver far mid new → AreEnds p.begun p.since names new × IsEndAt p.begun l.receiver (p.begun.done l.receiver) (p.since l.receiver) far × (far.cable ≡ k) × (far.sends ≡ false)
  two u = ends_less p.begun p.since names l.receiver k false far mid new one.0 u

  pub are_left : IsTaken l.receiver far mid new → AreEnds p.begun p.since names new
  are_left u = (two u).0

  pub are_pair : IsTaken l.receiver far mid new → slice_get p.begun.lines k ≡ Some l → ArePair p near far
  are_pair u line = record {
    line = l;
    there = ap (λ (n : ℕ). slice_get p.begun.lines n) one.2 ∙ line;
    cable = (two u).2 ∙ sym one.2;
    sides = (one.3, (two u).3);
    near_at = one.1;
    far_at = (two u).1;
  }

  pub joined_here : (c : CableState) (cs : List CableState) → slice_get p.begun.lines k ≡ Some l → JoinsAgain p near c → IsJoinedAt p k l cs (slice_set cs k c)
  joined_here c cs line j = record {
    cable = c;
    is = refl;
    joined = subst (λ (n : ℕ). IsJoined n l (done_in p) c) one.2 (j l (ap (λ (n : ℕ). slice_get p.begun.lines n) one.2 ∙ line));
  }

-- ALL ARE JOINED AGAIN, one at a time
pub ends_first : (b : Parted) (ps : List Pipes) (ls : List CableLine) (since : ℕ → List Entry) (rows : List (List EndState)) → IsBegunOver b ps ls → AreEnds b since (ends_named ls) rows → AreEnds b since (names_from 0 (drop 0 b.lines)) rows
ends_first b ps ls since rows begun h = subst (λ (l : List CableLine). AreEnds b since (names_from 0 l) rows) (sym begun.lines) h

ends_renamed : (b : Parted) (since : ℕ → List Entry) (names names' : ℕ → List (ℕ × Bool)) (rows : List (List EndState)) → ((m : ℕ) → names m ≡ names' m) → AreEnds b since names rows → AreEnds b since names' rows
ends_renamed b since names names' rows same h m es f = let x = h m es f in record { names_are = x.names_are ∙ same m; each = x.each }

pub ends_at_line : (b : Parted) (ps : List Pipes) (ls : List CableLine) (since : ℕ → List Entry) (k : ℕ) (rows : List (List EndState)) → IsBegunOver b ps ls → AreEnds b since (names_from k (drop k b.lines)) rows
    → IfSome (slice_get ls k) (λ (l : CableLine). AreEnds b since (λ m. names_from (suc k) (drop (suc k) b.lines) m ++ named_at l.receiver m k false ++ named_at l.sender m k true) rows)
ends_at_line b ps ls since k rows begun h = by_line (slice_get ls k) refl
  where
    by_line : (o : Option CableLine) → slice_get ls k ≡ o → IfSome o (λ (l : CableLine). AreEnds b since (λ m. names_from (suc k) (drop (suc k) b.lines) m ++ named_at l.receiver m k false ++ named_at l.sender m k true) rows)
    by_line None is = tt
    by_line (Some l) is =
        ends_renamed b since (names_from k (drop k b.lines)) (λ m. names_from (suc k) (drop (suc k) b.lines) m ++ named_at l.receiver m k false ++ named_at l.sender m k true) rows
        (λ m. names_at_line b k m l (ap (λ (xs : List CableLine). slice_get xs k) begun.lines ∙ is)) h

pub ends_next : (b : Parted) (since : ℕ → List Entry) (k : ℕ) (rows : List (List EndState)) → AreEnds b since (names_from (suc k) (drop (suc k) b.lines)) rows → AreEnds b since (names_from (k + 1) (drop (k + 1) b.lines)) rows
ends_next b since k rows h = subst (λ (n : ℕ). AreEnds b since (names_from n (drop n b.lines)) rows) (let e : suc k ≡ k + 1 = omega arith in e) h

pub bare_at : (cs : List CableState) (k : ℕ) → ((j : ℕ) (c : CableState) → k ≤ j → slice_get cs j ≡ Some c → IsBare c) → IfSome (slice_get cs k) IsBare
bare_at cs k h = by_cable (slice_get cs k) refl
  where
    by_cable : (o : Option CableState) → slice_get cs k ≡ o → IfSome o IsBare
    by_cable None is = tt
    by_cable (Some c) is = h k c (omega arith) is

-- one cable more is joined
pub record SoFar (p : Passed) (ls : List CableLine) (n long : ℕ) (cs : List CableState) : Type 0 where
  pub all : length cs ≡ long
  pub joined : (k : ℕ) (x : CableLine) (c : CableState) → k < n → slice_get ls k ≡ Some x → slice_get cs k ≡ Some c → IsJoined k x (done_in p) c
  pub bare_are : (k : ℕ) (c : CableState) → n ≤ k → slice_get cs k ≡ Some c → IsBare c

pub joined_more : (p : Passed) (ls : List CableLine) (k long : ℕ) (cs ds : List CableState) → k < length ls → SoFar p ls k long cs → IfSome (slice_get ls k) (λ (l : CableLine). IsJoinedAt p k l cs ds) → SoFar p ls (k + 1) long ds
joined_more p ls k long cs ds lt h x =
    let at = there ls k lt in
    let j : IsJoinedAt p k at.0 cs ds = subst (λ (o : Option CableLine). IfSome o (λ (l : CableLine). IsJoinedAt p k l cs ds)) at.1 x in
    record {
      all = ap (λ (l : List CableState). length l) j.is ∙ set_long cs k j.cable ∙ h.all;
      joined = λ i y c less line found.
          ⊎_elim
          (λ (q : (i ≡ k) × (j.cable ≡ c)).
          let same : at.0 ≡ y = some_is at.0 y (sym at.1 ∙ ap (λ (n : ℕ). slice_get ls n) (sym q.0) ∙ line) in
          subst (λ (n : ℕ). IsJoined n y (done_in p) c) (sym q.0)
          (subst (λ (d : CableState). IsJoined k y (done_in p) d) q.1 (subst (λ (z : CableLine). IsJoined k z (done_in p) j.cable) same j.joined)))
          (λ (q : (i ≢ k) × (slice_get cs i ≡ Some c)). let apart = q.0 in h.joined i y c (omega (arith, less, apart)) line q.1)
          (get_set cs k i j.cable c (subst (λ (l : List CableState). slice_get l i ≡ Some c) j.is found));
      bare_are = λ i c past found.
          ⊎_elim
          (λ (q : (i ≡ k) × (j.cable ≡ c)). let e = q.0 in absurd (omega (arith, past, e)))
          (λ (q : (i ≢ k) × (slice_get cs i ≡ Some c)). h.bare_are i c (omega (arith, past)) q.1)
          (get_set cs k i j.cable c (subst (λ (l : List CableState). slice_get l i ≡ Some c) j.is found));
    }

pub joined_all : (p : Passed) (ls : List CableLine) (n long : ℕ) (cs : List CableState) → length ls ≤ n → SoFar p ls n long cs → AreJoined ls (done_in p) cs
joined_all p ls n long cs past h k l c line found = let lt = within ls k l line in h.joined k l c (omega (arith, past, lt)) line found

-- WHERE NO END HOLDS AN ITEM THAT IT DID NOT TAKE
-- an end less
pub free_less : (at : ℕ) (e : EndState) (old new : List (List EndState)) → IsTaken at e old new → AllFree old → AllFree new × (e.wire.fetched ≡ None)
free_less at e old new t h = (
  (λ m es f.
      ⊎_elim
      (λ (q : (m ≡ at) × (t.rest ≡ es)). subst AreFree q.1 (λ i x g. h at (t.rest ++ e ∷ []) t.there i x (get_first t.rest (e ∷ []) i x g)))
      (λ (q : (m ≢ at) × (slice_get old m ≡ Some es)). h m es q.1)
      (get_set old at m t.rest es (subst (λ (l : List (List EndState)). slice_get l m ≡ Some es) t.is f))),
  h at (t.rest ++ e ∷ []) t.there (length t.rest) e (get_last t.rest e),
)

-- a cable more on which at most 64 items lie
pub short_more : (p : Passed) (ls : List CableLine) (k : ℕ) (cs ds : List CableState) → k < length ls → IfSome (slice_get ls k) (λ (l : CableLine). IsJoinedAt p k l cs ds) → IfSome (slice_get ds k) IsShort
    → ((j : ℕ) (c : CableState) → j < k → slice_get cs j ≡ Some c → IsShort c) → (j : ℕ) (c : CableState) → j < k + 1 → slice_get ds j ≡ Some c → IsShort c
short_more p ls k cs ds lt x here h i c less found =
    let at = there ls k lt in
    let j : IsJoinedAt p k at.0 cs ds = subst (λ (o : Option CableLine). IfSome o (λ (l : CableLine). IsJoinedAt p k l cs ds)) at.1 x in
    ⊎_elim
    (λ (q : (i ≡ k) × (j.cable ≡ c)). subst (λ (o : Option CableState). IfSome o IsShort) (ap (λ (n : ℕ). slice_get ds n) (sym q.0) ∙ found) here)
    (λ (q : (i ≢ k) × (slice_get cs i ≡ Some c)). let apart = q.0 in h i c (omega (arith, less, apart)) q.1)
    (get_set cs k i j.cable c (subst (λ (l : List CableState). slice_get l i ≡ Some c) j.is found))

-- one row more, with its room
pub rows_room : (room : ℕ) (rows : List EndRowState) (r : EndRowState) → EachIs (λ (x : EndRowState). (x.ends ≡ []) × (room ≤ x.room)) rows → (r.ends ≡ []) × (room ≤ r.room) → EachIs (λ (x : EndRowState). (x.ends ≡ []) × (room ≤ x.room)) (rows ++ r ∷ [])
rows_room room rows r h p i x f =
    ⊎_elim
    (λ (q : slice_get rows i ≡ Some x). h i x q)
    (λ (q : (i ≡ length rows) × (r ≡ x)). subst (λ (y : EndRowState). (y.ends ≡ []) × (room ≤ y.room)) q.1 p)
    (at_end rows r x i f)
