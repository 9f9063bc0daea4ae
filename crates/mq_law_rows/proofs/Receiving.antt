-- A receiver's commit keeps the facts.
use Rattle.std.proofs.Common.{ℕ, ◌≡◌, ◌≢◌, ◌⊎◌, Bool, true, false, not, List, [], ◌∷◌, refl, ap, sym, subst, ◌∙◌, arith, inl, inr}
use Rattle.std.specs.Prelude.{Option, Some, None, ◌==◌, if◌then◌else◌, ◌&&◌, ◌||◌, map}
use Rattle.std.specs.List.{list_any}
use Rattle.std.proofs.lemmas.Bool.Decides.{nat_tests}
use Rattle.mq_message.specs.declared.message.Ident.{Ident}
use Rattle.mq_message.specs.declared.place.Holder.{Holder}
use Rattle.mq_message.specs.declared.place.Holder.TheVariants as holders
use Rattle.mq_queue.specs.declared.row.Row.{Row}
use Rattle.mq_queue.specs.Rows.{same_ident, insert_row, keep}
use Rattle.mq_sync.specs.declared.unit.Unit.{Unit as Luw}
use Rattle.mq_sync.specs.Units.{same_unit}
use Rattle.mq_spec_network.specs.Story.{Mem}
use Rattle.mq_spec_network.specs.Promised.{AreDistinct}
use Rattle.mq_spec_network.specs.Standing.{row_told, rows_told}
use Rattle.mq_calls.specs.Reads.{is_persistent}
use Rattle.mq_law_rows.specs.Families.{is_here, put_at}
use Rattle.mq_law_rows.specs.World.{World, Book, Ghost, Mark, Tag, Owner, Unborn, At, InBatch, Forced, InUnit, Gone, tag_of, tag_mark, tag_idents, ident_of, idents_in, is_last, away, stands, row_stands, standing, is_forced, is_counted, counted, is_young, claim, IsHeldBy, IsElsewhere, LanesRise, Inv}
use Rattle.mq_law_rows.specs.Kinds.{among, Landing, landing_told, landing_mark, place_all, lands_on, unit_at, receive, book_receive, received, ghost_receive, awaits, Commits}
use Rattle.mq_law_rows.proofs.Young.{order_keep, order_all, order_less, order_ghost, young_means, young_so}
use Rattle.mq_law_rows.proofs.Lists.{true_false, and_false, and_right, and_left, and_swap, eqb_self, bool_case, is_false, ident_yes, same_self, here_yes, here_self, mem_insert, mem_insert_old, mem_keep, mem_kept, map_mem, mem_map, sorted_insert, sorted_keep, distinct_insert, distinct_keep, keep_insert, keep_swap, told_insert, told_keep}

-- Idents of a list

pub any_mem : (i : Ident) (is : List Ident) → among is i ≡ true → Mem i is
any_mem i [] e = absurd cc
any_mem i (x ∷ is) e = bool_case (same_ident i x) (λ t. (t || list_any (same_ident i) is) ≡ true → (i ≡ x) ⊎ Mem i is) (λ y z. inl (ident_yes i x y)) (λ y z. inr (any_mem i is z)) e

pub mem_any : (i : Ident) (is : List Ident) → Mem i is → among is i ≡ true
mem_any i [] n = absurd n
mem_any i (x ∷ is) (inl e) = rw (ap (λ y. same_ident i y) (sym e) ∙ same_self i) refl
mem_any i (x ∷ is) (inr n) = bool_case (same_ident i x) (λ t. (t || list_any (same_ident i) is) ≡ true) (λ e. refl) (λ e. mem_any i is n)

-- Rows that land

pub sorted_all : (t : ℕ) (ls : List Landing) (a : ℕ) (d : List ℕ) (xs : List Row) → LanesRise xs → LanesRise (place_all t ls a d xs)
sorted_all t [] a d xs s = s
sorted_all t (l ∷ ls) a d xs s = sorted_all t ls a d _ (bool_case (is_here t l.queue a d) (λ z. LanesRise (if z then insert_row l.row xs else xs)) (λ e. sorted_insert l.row xs s) (λ e. s))

pub mem_all_old : (t : ℕ) (ls : List Landing) (a : ℕ) (d : List ℕ) (xs : List Row) (x : Row) → Mem x xs → Mem x (place_all t ls a d xs)
mem_all_old t [] a d xs x n = n
mem_all_old t (l ∷ ls) a d xs x n = mem_all_old t ls a d _ x (bool_case (is_here t l.queue a d) (λ z. Mem x (if z then insert_row l.row xs else xs)) (λ e. mem_insert_old x l.row xs n) (λ e. n))

pub mem_all : (t : ℕ) (ls : List Landing) (a : ℕ) (d : List ℕ) (xs : List Row) (x : Row) → Mem x (place_all t ls a d xs) → (Mem x xs) ⊎ ((a ≡ t) × ((l : Landing) × Mem l ls × (x ≡ l.row) × (d ≡ l.queue)))
mem_all t [] a d xs x n = inl n
mem_all t (l ∷ ls) a d xs x n =
    elim (mem_all t ls a d _ x n) [
      | inl v ↦ bool_case (is_here t l.queue a d) (λ z. Mem x (if z then insert_row l.row xs else xs) → (Mem x xs) ⊎ ((a ≡ t) × ((k : Landing) × Mem k (l ∷ ls) × (x ≡ k.row) × (d ≡ k.queue))))
          (λ e v. elim (mem_insert x l.row xs v) [ inl q ↦ inr ((here_yes t l.queue a d e).0, (l, inl refl, q, (here_yes t l.queue a d e).1)) | inr v ↦ inl v ])
          (λ e v. inl v) v
      | inr v ↦ inr (v.0, (v.1.0, inr v.1.1, v.1.2, v.1.3))
    ]

pub keep_all_placed : (p : Row → Bool) (t : ℕ) (ls : List Landing) (a : ℕ) (d : List ℕ) (xs : List Row) → LanesRise xs → ((l : Landing) → Mem l ls → p l.row ≡ true) → keep p (place_all t ls a d xs) ≡ place_all t ls a d (keep p xs)
keep_all_placed p t [] a d xs s all = refl
keep_all_placed p t (l ∷ ls) a d xs s all =
    bool_case (is_here t l.queue a d) (λ z. keep p (place_all t ls a d (if z then insert_row l.row xs else xs)) ≡ place_all t ls a d (if z then insert_row l.row (keep p xs) else keep p xs))
    (λ e. keep_all_placed p t ls a d (insert_row l.row xs) (sorted_insert l.row xs s) (λ k n. all k (inr n)) ∙ ap (place_all t ls a d) (keep_insert p l.row xs s (all l (inl refl))))
    (λ e. keep_all_placed p t ls a d xs s (λ k n. all k (inr n)))

pub told_all : (t : ℕ) (ls : List Landing) (a : ℕ) (d : List ℕ) (xs : List Row) → rows_told (place_all t ls a d xs) ≡ place_all t (map landing_told ls) a d (rows_told xs)
told_all t [] a d xs = refl
told_all t (l ∷ ls) a d xs =
    bool_case (is_here t l.queue a d) (λ z. rows_told (place_all t ls a d (if z then insert_row l.row xs else xs)) ≡ place_all t (map landing_told ls) a d (if z then insert_row (row_told l.row) (rows_told xs) else rows_told xs))
    (λ e. told_all t ls a d (insert_row l.row xs) ∙ ap (place_all t (map landing_told ls) a d) (told_insert l.row xs))
    (λ e. told_all t ls a d xs)

abbrev pub landing_idents : List Landing → List Ident
landing_idents ls = map (λ (l : Landing). l.row.message.ident) ls

pub distinct_all : (t : ℕ) (ls : List Landing) (a : ℕ) (d : List ℕ) (xs : List Row) → AreDistinct (landing_idents ls) → AreDistinct (idents_in xs) → ((i : Ident) → a ≡ t → Mem i (landing_idents ls) → Mem i (idents_in xs) → ⊥) → AreDistinct (idents_in (place_all t ls a d xs))
distinct_all t [] a d xs o p no_ = p
distinct_all t (l ∷ ls) a d xs o p no_ =
    bool_case (is_here t l.queue a d) (λ z. AreDistinct (idents_in (place_all t ls a d (if z then insert_row l.row xs else xs))))
    (λ e. distinct_all t ls a d (insert_row l.row xs) o.1 (distinct_insert l.row xs (λ n. no_ l.row.message.ident (here_yes t l.queue a d e).0 (inl refl) n) p)
    (λ i at n v. let k = map_mem ident_of i (insert_row l.row xs) v in
    elim (mem_insert k.0 l.row xs k.1) [
      | inl q ↦ cc (o.0 i n, same_self i, ap (λ x. same_ident x i) (k.2 ∙ ap ident_of q))
      | inr y ↦ no_ i at (inr n) (subst (λ (j : Ident). Mem j (idents_in xs)) (sym k.2) (mem_map ident_of k.0 xs y))
    ]))
    (λ e. distinct_all t ls a d xs o.1 p (λ i at n v. no_ i at (inr n) v))

pub lands_there : (ls : List Landing) (l : Landing) → AreDistinct (landing_idents ls) → Mem l ls → lands_on ls l.row.message.ident ≡ l.queue
lands_there [] l o n = absurd n
lands_there (x ∷ ls) l o (inl e) = rw (e) (rw (same_self x.row.message.ident) refl)
lands_there (x ∷ ls) l o (inr n) =
    bool_case (same_ident l.row.message.ident x.row.message.ident) (λ z. (if z then x.queue else lands_on ls l.row.message.ident) ≡ l.queue)
    (λ e. let same : l.row.message.ident ≡ x.row.message.ident = ident_yes l.row.message.ident x.row.message.ident e in
    absurd (cc (o.0 l.row.message.ident (mem_map (λ (l : Landing). l.row.message.ident) l ls n), same_self x.row.message.ident, ap (λ y. same_ident x.row.message.ident y) same)))
    (λ e. lands_there ls l o.1 n)

abbrev mark_idents : List Mark → List Ident
mark_idents ts = map (λ (t : Mark). t.ident) ts

marks_idents : (ts : List Tag) → mark_idents (map tag_mark ts) ≡ tag_idents ts
marks_idents [] = refl
marks_idents (t ∷ ts) = ap (λ (is : List Ident). t.ident ∷ is) (marks_idents ts)

pub tags_idents : (ls : List Landing) → mark_idents (map landing_mark ls) ≡ landing_idents ls
tags_idents [] = refl
tags_idents (l ∷ ls) = ap (λ (is : List Ident). l.row.message.ident ∷ is) (tags_idents ls)

pub batch_name : (e f : List ℕ) → holders.Batch e ≡ holders.Batch f → e ≡ f
batch_name e f p = cc

-- Which rows stand after it: z says whether the manager is the receiving one, v whether the ident is in the unit
pub received_stands : (A B F : List ℕ → Bool) (z v : Bool) (x : Option Holder)
    → ((e : List ℕ) → F e ≡ false → B e ≡ A e) → ((e : List ℕ) → F e ≡ true → (A e ≡ false) × (B e ≡ true))
    → ((e : List ℕ) → x ≡ Some (holders.Batch e) → F e ≡ true → v ≡ true)
    → (v ≡ true → stands A x ≡ true → (e : List ℕ) × (x ≡ Some (holders.Batch e)) × (F e ≡ true))
    → (not (z && v) && stands B x) ≡ (stands A x && not v)
received_stands A B F z true None same new mine own = let k = own refl refl in absurd (cc (k.1))
received_stands A B F true false None same new mine own = refl
received_stands A B F false false None same new mine own = refl
received_stands A B F z true (Some (holders.Unit k)) same new mine own = let k = own refl refl in absurd (cc (k.1))
received_stands A B F true false (Some (holders.Unit k)) same new mine own = refl
received_stands A B F false false (Some (holders.Unit k)) same new mine own = refl
received_stands A B F z v (Some (holders.Batch e)) same new mine own =
    bool_case (F e) (λ f. F e ≡ f → (not (z && v) && not (B e)) ≡ (not (A e) && not v))
    (λ f _. let n = new e f in rw (n.0, n.1, mine e refl f) (and_false (not (z && true))))
    (λ f _. rw (same e f) (bool_case (A e) (λ y. (not (z && v) && not y) ≡ (not y && not v))
    (λ y. and_false (not (z && v)))
    (λ y. let out : v ≡ false = is_false v (λ t. let k = own t (ap not y) in
    let ee : holders.Batch e ≡ holders.Batch k.0 = cc (k.1) in
    let es : e ≡ k.0 = batch_name e k.0 ee in
    cc (k.2, f, ap F es)) in
    rw out (bool_case z (λ z. (not (z && false) && true) ≡ true) (λ _. refl) (λ _. refl))))) refl

-- Who owned the messages of the commit, and who does now

luw_yes : (u v : Luw) → same_unit u v ≡ true → u ≡ v
luw_yes u v e = grind (arith, nat_tests)

pub luw_self : (u : Luw) → same_unit u u ≡ true
luw_self u = grind (arith, nat_tests)

pub received_other : (t : ℕ) (is : List Ident) (ls : List Landing) (j : Ident) (o p : Owner) → o ≡ p → (among is j ≡ true → o ≡ p → ⊥) → received t is ls j o ≡ p
received_other t is ls j o p e no_ = bool_case (among is j) (λ z. (if z then At t (lands_on ls j) else o) ≡ p) (λ z. absurd (no_ z e)) (λ z. e)

pub received_mine : (t : ℕ) (is : List Ident) (ls : List Landing) (j : Ident) (o : Owner) → among is j ≡ true → received t is ls j o ≡ At t (lands_on ls j)
received_mine t is ls j o e = rw e refl

pub in_batch_or_forced : (f : Bool) (m : ℕ) (c : List ℕ) (u : Luw) (p : Owner) → (InBatch m c ≡ p → ⊥) → (Forced m c u ≡ p → ⊥) → (if f then InBatch m c else Forced m c u) ≡ p → ⊥
in_batch_or_forced true m c u p a b e = a e
in_batch_or_forced false m c u p a b e = b e

in_batch_means : (f : Bool) (m a : ℕ) (c d : List ℕ) (u : Luw) → (if f then InBatch m c else Forced m c u) ≡ InBatch a d → (f ≡ true) × (m ≡ a) × (c ≡ d)
in_batch_means true m a c d u e = (refl, cc, cc)
in_batch_means false m a c d u e = absurd cc

forced_means : (f : Bool) (m a : ℕ) (c d : List ℕ) (u v : Luw) → (if f then InBatch m c else Forced m c u) ≡ Forced a d v → (m ≡ a) × (c ≡ d) × (u ≡ v)
forced_means true m a c d u v e = absurd cc
forced_means false m a c d u v e = (cc, cc, cc)

claim_batch : (m a : ℕ) (d q : List ℕ) (x : Option Holder) → InBatch m d ≡ claim a q x → (a ≡ m) × (x ≡ Some (holders.Batch d))
claim_batch m a d q None e = absurd cc
claim_batch m a d q (Some (holders.Unit k)) e = absurd cc
claim_batch m a d q (Some (holders.Batch c)) e = (cc, ap (λ z. Some (holders.Batch z)) (let z : c ≡ d = cc in z))

claim_forced : (m a : ℕ) (d q : List ℕ) (u : Luw) (x : Option Holder) → Forced m d u ≡ claim a q x → ⊥
claim_forced m a d q u None e = cc
claim_forced m a d q u (Some (holders.Unit k)) e = cc
claim_forced m a d q u (Some (holders.Batch c)) e = cc

-- what was its own batch
pub mine_claim : (f : Bool) (m a : ℕ) (c q : List ℕ) (u : Luw) (x : Option Holder) → (if f then InBatch m c else Forced m c u) ≡ claim a q x → (f ≡ true) × (a ≡ m) × (x ≡ Some (holders.Batch c))
mine_claim true m a c q u x e = let z = claim_batch m a c q x e in (refl, z.0, z.1)
mine_claim false m a c q u x e = absurd (claim_forced m a c q u x e)

pub holds_means : (d : Bool) (o : Option Luw) (u : Luw) → (d && is_last o u) ≡ true → o ≡ Some u
holds_means true (Some v) u e = ap (λ (z : Luw). Some z) (luw_yes v u e)
holds_means true None u e = absurd cc
holds_means false o u e = absurd cc

not_true : (t : Bool) → not t ≡ true → t ≡ false
not_true true e = absurd cc
not_true false e = refl

test_fails : (a t : ℕ) (v : Bool) → a ≡ t → v ≡ true → not ((a == t) && v) ≡ false
test_fails a t v e f = rw (e, f, eqb_self t) refl

and_true_false : (a b : Bool) → (a && true) ≡ false → a ≡ false
and_true_false true b e = absurd cc
and_true_false false b e = refl

unheld : (f : Bool) (m a e : ℕ) (c : List ℕ) (u : Luw) → IsHeldBy a e (if f then InBatch m c else Forced m c u) → ⊥
unheld true m a e c u n = n
unheld false m a e c u n = n

told_landings : (ks : List Landing) → landing_idents (map landing_told ks) ≡ landing_idents ks
told_landings [] = refl
told_landings (l ∷ ks) = ap (λ (is : List Ident). l.row.message.ident ∷ is) (told_landings ks)

at_forced : (t : ℕ) (q : List ℕ) (a : ℕ) (d : List ℕ) (x : Luw) → At t q ≡ Forced a d x → ⊥
at_forced t q a d x e = cc

landed : (t a : ℕ) (d : List ℕ) (x : Row) (l : Landing) (is : List Ident) (ls : List Landing) (o : Owner) → a ≡ t → x ≡ l.row → d ≡ l.queue → among is l.row.message.ident ≡ true
    → lands_on ls l.row.message.ident ≡ l.queue → l.row.by ≡ None → received t is ls x.message.ident o ≡ claim a d x.by
landed t a d x l is ls o at ex ed am on none =
    let i : x.message.ident ≡ l.row.message.ident = ap ident_of ex in
    let y : x.by ≡ None = ap (λ (r : Row). r.by) ex ∙ none in
    rw (i, y, at, ed, am) (ap (At t) on)

-- what is sent is as persistent as its ident is
pub sent_flag : (w : World) (g : Ghost) (b : Book) (m : ℕ) (c : List ℕ) (u : Luw) (t : ℕ) → (h : Inv w g b) → Commits w g m c u t → (s : Tag) → Mem s (g.sent m c u) → s.lasting ≡ h.persistence.flag s.ident
sent_flag w g b m c u t h k s n =
    bool_case (awaits w m c u) (λ z. awaits w m c u ≡ z → s.lasting ≡ h.persistence.flag s.ident)
    (λ z e. let holds = holds_means (w.doubt m c) (w.holds m c) u e in h.persistence.of_unit m c u s holds (k.others u holds) n)
    (λ z e. h.persistence.of_operated m c u s (h.forced m c u s.ident (k.mine s.ident (mem_map (λ (t : Tag). t.ident) s (g.sent m c u) n) ∙ ap (λ y. if y then InBatch m c else Forced m c u) e)).0 n) refl

pub receives : (w : World) (g : Ghost) (b : Book) (m : ℕ) (c : List ℕ) (u : Luw) (t : ℕ) (ls ks : List Landing) → Inv w g b → Commits w g m c u t
    → map landing_mark ls ≡ map tag_mark (g.sent m c u) → map landing_told ks ≡ map landing_told ls → ((l : Landing) → Mem l ls → l.row.by ≡ None)
    → Inv (receive w m c u t (tag_idents (g.sent m c u)) ls) (ghost_receive g m c u t (tag_idents (g.sent m c u)) ls) (book_receive b t (tag_idents (g.sent m c u)) ks)
receives w g b m c u t ls ks h k tags told free_ =
    let ids : List Ident = tag_idents (g.sent m c u) in
    let v : World = receive w m c u t ids ls in
    let flag : Bool = awaits w m c u in
    let F : ℕ → List ℕ → Bool = λ a e. is_here m c a e && flag in
    let f : Ident → Owner → Owner = received t ids ls in
    let test : ℕ → Row → Bool = λ a y. not ((a == t) && among ids y.message.ident) in
    let own : (i : Ident) → among ids i ≡ true → g.owner i ≡ (if flag then InBatch m c else Forced m c u) = λ i n. k.mine i (any_mem i ids n) in
    let land_ids : landing_idents ls ≡ ids = sym (tags_idents ls) ∙ ap mark_idents tags ∙ marks_idents (g.sent m c u) in
    let land_once : AreDistinct (landing_idents ls) = subst AreDistinct (sym land_ids) k.once in
    let land_among : (l : Landing) → Mem l ls → among ids l.row.message.ident ≡ true = λ l n. mem_any _ ids (subst (λ (is : List Ident). Mem l.row.message.ident is) land_ids (mem_map (λ (l : Landing). l.row.message.ident) l ls n)) in
    let holds : flag ≡ true → w.holds m c ≡ Some u = λ e. holds_means (w.doubt m c) (w.holds m c) u e in
    let other : (j : Ident) (p : Owner) → g.owner j ≡ p → (InBatch m c ≡ p → ⊥) → (Forced m c u ≡ p → ⊥) → f j (g.owner j) ≡ p =
    λ j p e x y. received_other t ids ls j (g.owner j) p e (λ n z. in_batch_or_forced flag m c u p x y (sym (own j n) ∙ e)) in
    let old : (a : ℕ) (d : List ℕ) (y : Row) → Mem y (keep (test a) (w.rows a d)) → Mem y (w.rows a d) × (test a y ≡ true) = λ a d y n. mem_keep (test a) y (w.rows a d) n in
    let same_away : (a : ℕ) (e : List ℕ) → F a e ≡ false → away v a e ≡ away w a e = λ a e.
    bool_case (is_here m c a e) (λ z. (z && flag) ≡ false → (w.doubt a e && is_last (w.holds a e) (if z then u else w.last a e)) ≡ (w.doubt a e && is_last (w.holds a e) (w.last a e)))
    (λ z n. let y = here_yes m c a e z in rw (y.0, y.1) (n ∙ sym k.new)) (λ z n. refl) in
    let new_away : (a : ℕ) (e : List ℕ) → F a e ≡ true → (away w a e ≡ false) × (away v a e ≡ true) = λ a e n.
    let z = here_yes m c a e (and_left (is_here m c a e) flag n) in
    (rw (z.0, z.1) k.new, rw (z.0, z.1) (rw (here_self m c) (and_right (is_here m c a e) flag n))) in
    let in_unit : (a : ℕ) (q : List ℕ) (y : Row) (e : List ℕ) → Mem y (w.rows a q) → y.by ≡ Some (holders.Batch e) → F a e ≡ true → among ids y.message.ident ≡ true = λ a q y e n by_ z.
    let p = here_yes m c a e (and_left (is_here m c a e) flag z) in
    let s = h.batch a q y e n by_ in
    let tag : Mem (tag_of y.message) (g.sent a e u) = s.2 u (rw (p.0, p.1) (holds (and_right (is_here m c a e) flag z))) in
    mem_any y.message.ident ids (subst (λ (x : List Tag). Mem y.message.ident (tag_idents x)) (λ i. g.sent (p.0 i) (p.1 i) u) (mem_map (λ (t : Tag). t.ident) (tag_of y.message) (g.sent a e u) tag)) in
    let its_own : (a : ℕ) (q : List ℕ) (y : Row) → Mem y (w.rows a q) → among ids y.message.ident ≡ true → stands (away w a) y.by ≡ true → (e : List ℕ) × (y.by ≡ Some (holders.Batch e)) × (F a e ≡ true) = λ a q y n z s.
    let r = mine_claim flag m a c q u y.by (sym (own y.message.ident z) ∙ h.claims a q y n s) in
    (c, r.2, rw (r.1, r.0) (ap (λ z. z && true) (here_self m c))) in
    let agrees : (a : ℕ) (q : List ℕ) (y : Row) → Mem y (w.rows a q) → (test a y && stands (away v a) y.by) ≡ (stands (away w a) y.by && not (among ids y.message.ident)) = λ a q y n.
    received_stands (away w a) (away v a) (F a) (a == t) (among ids y.message.ident) y.by (same_away a) (new_away a) (λ e by_ z. in_unit a q y e n by_ z) (λ z s. its_own a q y n z s) in
    let stood : (a : ℕ) (q : List ℕ) (y : Row) → Mem y (w.rows a q) → test a y ≡ true → stands (away v a) y.by ≡ true → (stands (away w a) y.by ≡ true) × (among ids y.message.ident ≡ false) = λ a q y n e s.
    let z : (stands (away w a) y.by && not (among ids y.message.ident)) ≡ true = sym (agrees a q y n) ∙ rw (e, s) refl in
    (and_left (stands (away w a) y.by) (not (among ids y.message.ident)) z, not_true (among ids y.message.ident) (and_right (stands (away w a) y.by) (not (among ids y.message.ident)) z)) in
    let counts : (r : Row) → (not (among ids r.message.ident) && is_counted (λ j. f j (g.owner j)) r) ≡ (is_counted g.owner r && not (among ids r.message.ident)) = λ r.
    bool_case (among ids r.message.ident) (λ z. (not z && not (is_forced (if z then At t (lands_on ls r.message.ident) else g.owner r.message.ident))) ≡ (is_counted g.owner r && not z))
    (λ z. sym (and_false (is_counted g.owner r))) (λ z. and_swap true (is_counted g.owner r)) in
    let not_last : (a : ℕ) (d : List ℕ) (x : Luw) → w.holds a d ≡ Some x → v.last a d ≢ x → w.last a d ≢ x = λ a d x z.
    bool_case (is_here m c a d) (λ y. (if y then u else w.last a d) ≢ x → w.last a d ≢ x)
    (λ y no_ e. let p = here_yes m c a d y in k.others x (rw (p.0, p.1) at z) (rw (p.0, p.1) at e)) (λ y no_. no_) in
    let not_among : (a : ℕ) (d : List ℕ) (x : Luw) (s : Tag) → w.holds a d ≡ Some x → v.last a d ≢ x → Mem s (g.sent a d x) → among ids s.ident ≡ false = λ a d x s z no_ n. is_false _ (λ y.
    let e = in_batch_means flag m a c d u (sym (own s.ident y) ∙ h.live a d x s z (not_last a d x z no_) n) in
    let same : Some u ≡ Some x = sym (holds e.0) ∙ (λ i. w.holds (e.1 i) (e.2 i)) ∙ z in
    no_ ((λ i. put_at w.last m c u (sym e.1 i) (sym e.2 i)) ∙ rw (here_self m c) cc)) in
    let kept_there : (a : ℕ) (row : Row) (s : Tag) → tag_of row.message ≡ s → among ids s.ident ≡ false → test a row ≡ true = λ a row s tag n.
    let out : among ids row.message.ident ≡ false = ap (λ (s : Tag). among ids s.ident) tag ∙ n in
    rw out (ap not (and_false (a == t))) in
    let still : (a : ℕ) (d : List ℕ) (x : Luw) → (if unit_at m c u a d x then false else g.operated a d x) ≡ true → (g.operated a d x ≡ true) × (unit_at m c u a d x ≡ false) = λ a d x.
    bool_case (unit_at m c u a d x) (λ y. (if y then false else g.operated a d x) ≡ true → (g.operated a d x ≡ true) × (y ≡ false)) (λ y z. absurd cc) (λ y z. (z, refl)) in
    let out_forced : (a : ℕ) (d : List ℕ) (x : Luw) (s : Tag) → (if unit_at m c u a d x then false else g.operated a d x) ≡ true → Mem s (g.sent a d x) → among ids s.ident ≡ false = λ a d x s z n. is_false _ (λ y.
    let e = forced_means flag m a c d u x (sym (own s.ident y) ∙ h.operated a d x s (still a d x z).0 n) in
    true_false (sym (rw (← e.0, ← e.1, ← e.2, here_self m c) (luw_self u)) ∙ (still a d x z).1)) in
    let back_now : (a : ℕ) (d : List ℕ) (x : Row) → Mem x (w.rows a d) → test a x ≡ true → stands (away v a) x.by ≡ false → IsElsewhere a (f x.message.ident (g.owner x.message.ident)) = λ a d x n e s.
    bool_case (among ids x.message.ident) (λ z. among ids x.message.ident ≡ z → IsElsewhere a (if z then At t (lands_on ls x.message.ident) else g.owner x.message.ident))
    (λ z f at. true_false (sym e ∙ rw (← at, eqb_self t, z) refl))
    (λ z f. h.back a d x n (let q : (test a x && false) ≡ (stands (away w a) x.by && true) = ap (λ y. test a x && y) (sym s) ∙ agrees a d x n ∙ ap (λ y. stands (away w a) x.by && not y) z in
    and_true_false _ true (sym q ∙ and_false (test a x)))) refl in
    let ks_among : (l : Landing) → Mem l ks → among ids l.row.message.ident ≡ true = λ l n.
    let same : landing_idents ks ≡ ids = sym (told_landings ks) ∙ ap landing_idents told ∙ told_landings ls ∙ land_ids in
    mem_any _ ids (subst (λ (is : List Ident). Mem l.row.message.ident is) same (mem_map (λ (l : Landing). l.row.message.ident) l ks n)) in
    let ks_counted : (l : Landing) → Mem l ks → is_counted (λ j. f j (g.owner j)) l.row ≡ true = λ l n.
    ap (λ o. not (is_forced o)) (received_mine t ids ls l.row.message.ident (g.owner l.row.message.ident) (ks_among l n)) in
    record {
      sorted = λ a d. sorted_all t ls a d _ (sorted_keep (test a) _ (h.sorted a d));
      shelved = λ a d. sorted_all t ks a d _ (sorted_keep _ _ (h.shelved a d));
      claims = λ a d x n s. elim (mem_all t ls a d _ x n) [
        | inl z ↦ let y = old a d x z in let p = stood a d x y.0 y.1 s in
            rw (p.1) (h.claims a d x y.0 p.0)
        | inr z ↦ landed t a d x z.1.0 ids ls (g.owner x.message.ident) z.0 z.1.2 z.1.3 (land_among z.1.0 z.1.1) (lands_there ls z.1.0 land_once z.1.1) (free_ z.1.0 z.1.1)
      ];
      taken = λ a d x e n by_. elim (mem_all t ls a d _ x n) [
        | inl z ↦ h.taken a d x e (old a d x z).0 by_
        | inr z ↦ absurd (cc (ap (λ (r : Row). r.by) z.1.2, by_, free_ z.1.0 z.1.1))
      ];
      batch = λ a d x e n by_. elim (mem_all t ls a d _ x n) [
        | inl z ↦ h.batch a d x e (old a d x z).0 by_
        | inr z ↦ absurd (cc (ap (λ (r : Row). r.by) z.1.2, by_, free_ z.1.0 z.1.1))
      ];
      live = λ a d x s z no_ n. rw (not_among a d x s z no_ n) (h.live a d x s z (not_last a d x z no_) n);
      present = λ a d x s z no_ n l.
          let p = h.present a d x s z (not_last a d x z no_) n l in
          record { row = p.row; by = p.by; tag = p.tag; there = mem_all_old t ls a (g.source a d) _ p.row (mem_kept (test a) p.row _ p.there (kept_there a p.row s p.tag (not_among a d x s z no_ n))) };
      sent_once = h.sent_once;
      operated = λ a d x s z n. rw (out_forced a d x s z n) (h.operated a d x s (still a d x z).0 n);
      operated_there = λ a d x s z n l.
          let y = still a d x z in
          let p = h.operated_there a d x s y.0 n l in
          record { queue = p.queue; row = p.row; tag = p.tag; there = mem_all_old t ks a p.queue _ p.row (mem_kept _ p.row _ p.there (ap (λ (s : Tag). not (among ids s.ident)) p.tag ∙ ap not (out_forced a d x s z n))) };
      operated_once = λ a d x z. h.operated_once a d x (still a d x z).0;
      forced = λ a d x j e.
          let out : among ids j ≡ false = is_false _ (λ z. at_forced t (lands_on ls j) a d x (sym (received_mine t ids ls j (g.owner j) z) ∙ e)) in
          let o = h.forced a d x j (sym (ap (λ z. if z then At t (lands_on ls j) else g.owner j) out) ∙ e) in (
            ap (λ z. if z then false else g.operated a d x) (is_false (unit_at m c u a d x) (λ z.
                let p = here_yes m c a d (and_left (is_here m c a d) (same_unit x u) z) in
                let r : x ≡ u = luw_yes x u (and_right (is_here m c a d) (same_unit x u) z) in
                true_false (sym (mem_any j ids (subst (λ (l : List Tag). Mem j (tag_idents l)) (λ i. g.sent (p.0 i) (p.1 i) (r i)) o.1)) ∙ out))) ∙ o.0,
            o.1,
          );
      pending = λ a e j n. other j (InUnit a e) (h.pending a e j n) (λ e. cc) (λ e. cc);
      pending_once = h.pending_once;
      gets = λ a e j n. bool_case (among ids j) (λ z. IsHeldBy a e (if z then At t (lands_on ls j) else g.owner j))
          (λ z. absurd (unheld flag m a e c u (subst (IsHeldBy a e) (own j z) (h.gets a e j n)))) (λ z. h.gets a e j n);
      gets_once = h.gets_once;
      units = h.units;
      unborn = λ j e. other j Unborn (h.unborn j e) (λ e. cc) (λ e. cc);
      gone = λ j n. other j Gone (h.gone j n) (λ e. cc) (λ e. cc);
      got = λ j n. other j Gone (h.got j n) (λ e. cc) (λ e. cc);
      got_once = h.got_once;
      operated_words = λ a d x e q r n z.
          let out : among ids r.message.ident ≡ false = is_false _ (λ y. at_forced t (lands_on ls r.message.ident) a d x (sym (received_mine t ids ls r.message.ident (g.owner r.message.ident) y) ∙ z)) in
          elim (mem_all t ks e q _ r n) [
            | inl y ↦ h.operated_words a d x e q r (mem_keep _ r (b.rows e q) y).0 (sym (ap (λ z. if z then At t (lands_on ls r.message.ident) else g.owner r.message.ident) out) ∙ z)
            | inr y ↦ absurd (true_false (sym (ap (λ (x : Row). among ids x.message.ident) y.1.2 ∙ ks_among y.1.0 y.1.1) ∙ out))
          ];
      persistence =
          let p = h.persistence in
          record {
            flag = p.flag;
            of_row = λ a d x n. elim (mem_all t ls a d _ x n) [
              | inl z ↦ p.of_row a d x (old a d x z).0
              | inr z ↦ let s = map_mem tag_mark (landing_mark z.1.0) (g.sent m c u) (subst (λ (l : List Mark). Mem (landing_mark z.1.0) l) tags (mem_map landing_mark z.1.0 ls z.1.1)) in
                  ap (λ (y : Row). is_persistent y.message) z.1.2 ∙ ap (λ (y : Mark). y.lasting) s.2 ∙ sent_flag w g b m c u t h k s.0 s.1 ∙ ap (λ (y : Mark). p.flag y.ident) (sym s.2) ∙ ap (λ (y : Row). p.flag y.message.ident) (sym z.1.2)
            ];
            of_put = p.of_put;
            of_unit = λ a d x s z no_ n. p.of_unit a d x s z (not_last a d x z no_) n;
            of_operated = λ a d x s z n. p.of_operated a d x s (still a d x z).0 n;
          };
      order = let e : Ghost = ghost_receive g m c u t ids ls in
          let young : ℕ → List ℕ → Luw → Bool = is_young v e in
          let kept : ℕ → List ℕ → List Row = λ a d. keep (λ r. not (among ids r.message.ident)) (b.rows a d) in
          let less : (a : ℕ) (d : List ℕ) (x : Luw) → young a d x ≡ true → is_young w g a d x ≡ true = λ a d x z.
          let y = young_means v e a d x z in young_so w g a d x y.0 (elim y.1 [ inl p ↦ inl (p.0, not_last a d x p.0 p.1) | inr p ↦ inr (still a d x p).0 ]) in
          let out : (a : ℕ) (d : List ℕ) (x : Luw) → young a d x ≡ true → (s : Tag) → Mem s (g.sent a d x) → among ids s.ident ≡ false = λ a d x z s n.
          elim (young_means v e a d x z).1 [ inl p ↦ not_among a d x s p.0 p.1 n | inr p ↦ out_forced a d x s p n ] in
          order_all e young t ks kept
          (order_ghost g e kept young (order_less g kept (is_young w g) young (order_keep g b.rows (is_young w g) (λ a d r. not (among ids r.message.ident)) h.order) less) (λ a d x z. refl)
          (λ a d r n f. let k = mem_keep (λ r. not (among ids r.message.ident)) r (b.rows a d) n in ap (λ z. if z then At t (lands_on ls r.message.ident) else g.owner r.message.ident) (not_true (among ids r.message.ident) k.1)))
          (λ a d. sorted_keep _ _ (h.shelved a d))
          (λ l n a d x z there. let s = map_mem (λ (t : Tag). t.ident) l.row.message.ident (g.sent a d x) there in true_false (sym (ks_among l n) ∙ ap (among ids) s.2 ∙ out a d x z s.0 s.1));
      distinct = λ a d. distinct_all t ls a d _ land_once (distinct_keep (test a) _ (h.distinct a d))
          (λ i at n y. let r = map_mem ident_of i (keep (test a) (w.rows a d)) y in
          let q = mem_keep (test a) r.0 (w.rows a d) r.1 in
          let there : among ids r.0.message.ident ≡ true = mem_any _ ids (subst (λ (j : Ident). Mem j ids) r.2 (subst (λ (is : List Ident). Mem i is) land_ids n)) in
          absurd (true_false (sym q.1 ∙ test_fails a t _ at there)));
      back = λ a d x n s. elim (mem_all t ls a d _ x n) [
        | inl z ↦ let y = old a d x z in back_now a d x y.0 y.1 s
        | inr z ↦ absurd (true_false (sym (ap (stands (away v a)) (ap (λ (r : Row). r.by) z.1.2 ∙ free_ z.1.0 z.1.1)) ∙ s))
      ];
      same = λ a d.
          ap rows_told (keep_all_placed (is_counted (λ j. f j (g.owner j))) t ks a d _ (sorted_keep _ _ (h.shelved a d)) (λ l n. ks_counted l n))
          ∙ told_all t ks a d _
          ∙ (λ i. place_all t (told i) a d (rows_told (keep_swap (is_counted g.owner) (is_counted (λ j. f j (g.owner j))) (λ r. not (among ids r.message.ident)) (λ r. not (among ids r.message.ident)) (b.rows a d) (λ r n. counts r) i)))
          ∙ ap (place_all t (map landing_told ls) a d)
          (told_keep (λ r. not (among ids r.message.ident)) (λ r. refl) (counted g (b.rows a d))
          ∙ ap (keep (λ r. not (among ids r.message.ident))) (h.same a d)
          ∙ sym (told_keep (λ r. not (among ids r.message.ident)) (λ r. refl) (standing w a d))
          ∙ sym (ap rows_told (keep_swap (row_stands (away w a)) (row_stands (away v a)) (test a) (λ r. not (among ids r.message.ident)) (w.rows a d) (λ r n. agrees a d r n))))
          ∙ sym (told_all t ls a d _)
          ∙ sym (ap rows_told (keep_all_placed (row_stands (away v a)) t ls a d _ (sorted_keep (test a) _ (h.sorted a d)) (λ l n. ap (stands (away v a)) (free_ l n))));
    }
