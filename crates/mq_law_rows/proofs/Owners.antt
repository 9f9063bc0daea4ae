-- What the facts say of any row, of the managers' or of the ledger's; owners after a change.
use Rattle.std.proofs.Common.{ℕ, ◌≡◌, ◌⊎◌, true, false, not, List, refl, ap, sym, subst, ◌∙◌, inl, inr}
use Rattle.std.specs.Prelude.{Option, Some, None, if◌then◌else◌}
use Rattle.mq_message.specs.declared.message.Ident.{Ident}
use Rattle.mq_message.specs.declared.place.Holder.{Holder}
use Rattle.mq_message.specs.declared.place.Holder.TheVariants as holders
use Rattle.mq_queue.specs.declared.row.Row.{Row}
use Rattle.mq_queue.specs.Rows.{same_ident, insert_row}
use Rattle.mq_sync.specs.declared.unit.Unit.{Unit as Luw}
use Rattle.mq_spec_network.specs.Story.{Mem}
use Rattle.mq_spec_network.specs.Standing.{row_told}
use Rattle.mq_law_rows.specs.Families.{is_here, put_at}
use Rattle.mq_law_rows.specs.World.{World, Book, Ghost, Owner, Forced, InHand, ident_of, idents_in, away, stands, row_stands, standing, is_forced, is_counted, counted, claim, IsHeldBy, IsElsewhere, Inv}
use Rattle.mq_law_rows.specs.Kinds.{owned}
use Rattle.mq_law_rows.proofs.Lists.{bool_case, ident_yes, same_self, here_yes, mem_insert, mem_insert_old, mem_keep, mem_kept, map_mem, told_mem}

-- Rows of a family with one more row

pub mem_put : (f : ℕ → List ℕ → List Row) (m : ℕ) (q : List ℕ) (y : Row) (a : ℕ) (c : List ℕ) (x : Row) → Mem x (put_at f m q (insert_row y (f m q)) a c) → (Mem x (f a c)) ⊎ ((a ≡ m) × (c ≡ q) × (x ≡ y))
mem_put f m q y a c x n =
    bool_case (is_here m q a c) (λ t. Mem x (if t then insert_row y (f m q) else f a c) → (Mem x (f a c)) ⊎ ((a ≡ m) × (c ≡ q) × (x ≡ y)))
    (λ e n. let w = here_yes m q a c e in rw (w.0, w.1) (elim (mem_insert x y (f m q) n) [ inl z ↦ inr (refl, refl, z) | inr z ↦ inl z ]))
    (λ e n. inl n) n

pub mem_put_old : (f : ℕ → List ℕ → List Row) (m : ℕ) (q : List ℕ) (y : Row) (a : ℕ) (c : List ℕ) (x : Row) → Mem x (f a c) → Mem x (put_at f m q (insert_row y (f m q)) a c)
mem_put_old f m q y a c x n =
    bool_case (is_here m q a c) (λ t. Mem x (if t then insert_row y (f m q) else f a c))
    (λ e. let w = here_yes m q a c e in mem_insert_old x y (f m q) (rw (w.0, w.1) at n))
    (λ e. n)

-- Claims

pub hand_no_claim : (m a : ℕ) (c : List ℕ) (x : Option Holder) → InHand m ≡ claim a c x → ⊥
hand_no_claim m a c None e = cc
hand_no_claim m a c (Some (holders.Unit k)) e = cc
hand_no_claim m a c (Some (holders.Batch d)) e = cc

pub claim_counted : (a : ℕ) (c : List ℕ) (x : Option Holder) → is_forced (claim a c x) ≡ false
claim_counted a c None = refl
claim_counted a c (Some (holders.Unit k)) = refl
claim_counted a c (Some (holders.Batch d)) = refl

-- Each row stands, and belongs where it is; or it counts elsewhere.
pub row_where : (w : World) (g : Ghost) (b : Book) → Inv w g b → (m : ℕ) (q : List ℕ) (h : Row) → Mem h (w.rows m q)
    → ((stands (away w m) h.by ≡ true) × (g.owner h.message.ident ≡ claim m q h.by)) ⊎ ((stands (away w m) h.by ≡ false) × IsElsewhere m (g.owner h.message.ident))
row_where w g b v m q h n =
    bool_case (stands (away w m) h.by) (λ t. stands (away w m) h.by ≡ t → ((t ≡ true) × (g.owner h.message.ident ≡ claim m q h.by)) ⊎ ((t ≡ false) × IsElsewhere m (g.owner h.message.ident)))
    (λ e f. inl (refl, v.claims m q h n e))
    (λ e f. inr (refl, v.back m q h n e)) refl

-- what is in hand is on no queue there
pub absent : (w : World) (g : Ghost) (b : Book) → Inv w g b → (m : ℕ) (q : List ℕ) (i : Ident) → g.owner i ≡ InHand m → Mem i (idents_in (w.rows m q)) → ⊥
absent w g b v m q i own n =
    let k = map_mem ident_of i (w.rows m q) n in
    let same : g.owner k.0.message.ident ≡ InHand m = ap g.owner (sym k.2) ∙ own in
    elim (row_where w g b v m q k.0 k.1) [
      | inl z ↦ hand_no_claim m m q k.0.by (sym same ∙ z.1)
      | inr z ↦ (subst (IsElsewhere m) same z.1) refl
    ]

-- a row of the ledger counts, and stands; or only an operator has settled it
pub ledger_row : (w : World) (g : Ghost) (b : Book) → Inv w g b → (m : ℕ) (q : List ℕ) (r : Row) → Mem r (b.rows m q)
    → (is_forced (g.owner r.message.ident) ≡ true) ⊎ ((h : Row) × Mem h (w.rows m q) × (stands (away w m) h.by ≡ true) × (row_told r ≡ row_told h))
ledger_row w g b v m q r n =
    bool_case (is_forced (g.owner r.message.ident)) (λ t. is_forced (g.owner r.message.ident) ≡ t → (t ≡ true) ⊎ ((h : Row) × Mem h (w.rows m q) × (stands (away w m) h.by ≡ true) × (row_told r ≡ row_told h)))
    (λ e f. inl refl)
    (λ e f. let k = told_mem r (counted g (b.rows m q)) (standing w m q) (v.same m q) (mem_kept (is_counted g.owner) r (b.rows m q) n (ap not e)) in
    let s = mem_keep (row_stands (away w m)) k.0 (w.rows m q) k.1 in
    inr (k.0, s.0, s.1, k.2)) refl

-- a standing row is in the ledger
pub standing_row : (w : World) (g : Ghost) (b : Book) → Inv w g b → (m : ℕ) (q : List ℕ) (h : Row) → Mem h (w.rows m q) → stands (away w m) h.by ≡ true
    → (r : Row) × Mem r (b.rows m q) × (row_told h ≡ row_told r)
standing_row w g b v m q h n s =
    let k = told_mem h (standing w m q) (counted g (b.rows m q)) (sym (v.same m q)) (mem_kept (row_stands (away w m)) h (w.rows m q) n s) in
    (k.0, (mem_keep (is_counted g.owner) k.0 (b.rows m q) k.1).0, k.2)

pub told_ident : (x y : Row) → row_told x ≡ row_told y → x.message.ident ≡ y.message.ident
told_ident x y e = ap ident_of e

-- Owners after a change of one ident

pub owned_other : (f : Ident → Owner) (i j : Ident) (new old p : Owner) → f i ≡ old → f j ≡ p → (old ≡ p → ⊥) → owned i new j (f j) ≡ p
owned_other f i j new old p a b ne =
    bool_case (same_ident j i) (λ t. (if t then new else f j) ≡ p) (λ e. absurd (ne (sym a ∙ ap f (sym (ident_yes j i e)) ∙ b))) (λ e. b)

pub owned_self : (i : Ident) (o new : Owner) → owned i new i o ≡ new
owned_self i o new = rw (same_self i) refl

pub held_owned : (a k : ℕ) (i j : Ident) (new old : Owner) (f : Ident → Owner) → f i ≡ old → (IsHeldBy a k old → ⊥) → IsHeldBy a k (f j) → IsHeldBy a k (owned i new j (f j))
held_owned a k i j new old f e ne n =
    bool_case (same_ident j i) (λ t. IsHeldBy a k (if t then new else f j)) (λ q. absurd (ne (subst (IsHeldBy a k) (ap f (ident_yes j i q) ∙ e) n))) (λ q. n)

pub away_owned : (a : ℕ) (i j : Ident) (new old : Owner) (f : Ident → Owner) → f i ≡ old → (IsElsewhere a old → IsElsewhere a new) → IsElsewhere a (f j) → IsElsewhere a (owned i new j (f j))
away_owned a i j new old f e to n =
    bool_case (same_ident j i) (λ t. IsElsewhere a (if t then new else f j)) (λ q. to (subst (IsElsewhere a) (ap f (ident_yes j i q) ∙ e) n)) (λ q. n)

pub forced_owned : (i j : Ident) (new old : Owner) (f : Ident → Owner) → f i ≡ old → is_forced new ≡ is_forced old → is_forced (owned i new j (f j)) ≡ is_forced (f j)
forced_owned i j new old f e same =
    bool_case (same_ident j i) (λ t. is_forced (if t then new else f j) ≡ is_forced (f j)) (λ q. same ∙ ap is_forced (sym (ap f (ident_yes j i q) ∙ e))) (λ q. refl)

pub owned_forced : (i j : Ident) (new o : Owner) (a : ℕ) (c : List ℕ) (u : Luw) → (new ≡ Forced a c u → ⊥) → owned i new j o ≡ Forced a c u → o ≡ Forced a c u
owned_forced i j new o a c u no_ = bool_case (same_ident j i) (λ t. (if t then new else o) ≡ Forced a c u → o ≡ Forced a c u) (λ e z. absurd (no_ z)) (λ e z. z)
