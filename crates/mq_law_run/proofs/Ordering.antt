-- A commit keeps its queue, less the rows of units that an operator has committed before their receivers.
use Rattle.std.proofs.Common.{ℕ, ◌≡◌, Bool, true, false, List, [], ◌∷◌, refl, ap, sym, subst, ◌∙◌, inl, inr}
use Rattle.std.specs.Prelude.{filter, if◌then◌else◌, not, ◌&&◌, ◌||◌}
use Rattle.std.specs.List.{list_any}
use Rattle.std.specs.Str.{bytes_eq}
use Rattle.mq_queue.specs.declared.row.Row.{Row}
use Rattle.mq_sync.specs.declared.unit.Unit.{Unit as Luw}
use Rattle.mq_sync.specs.Units.{same_unit}
use Rattle.mq_spec_network.specs.Order as order
use Rattle.mq_spec_network.specs.Order.{Before, KeepsQueue, others, unforced}
use Rattle.mq_spec_network.specs.Story.{Mem}
use Rattle.mq_queue.specs.Rows.{same_ident}
use Rattle.mq_law_manager.proofs.Named.{name_is}
use Rattle.mq_law_manager.proofs.Removals.{mem_filter}
use Rattle.mq_law_channel.proofs.Told.{unit_yes}
use Rattle.mq_law_rows.specs.World.{At, Book, Forced, Ghost, Gone, HeldBy, InBatch, InHand, InUnit, Inv, IsOthers, Owner, Unborn, World, is_forced, tag_idents}
use Rattle.mq_law_rows.specs.Kinds.{Commits, among}
use Rattle.mq_law_rows.proofs.Lists.{and_left, and_right, bool_case, true_false}
use Rattle.mq_law_rows.proofs.Ordering.{commit_keeps}
use Rattle.mq_law_run.specs.Ordered.{AreListed, IsListed, IsOnly}

less_before : (p : Row → Bool) (x y : Row) (xs : List Row) → Before x y (filter p xs) → Before x y xs
less_before p x y [] b = absurd b
less_before p x y (z ∷ zs) b = bool_case (p z) (λ t. Before x y (if t then z ∷ filter p zs else filter p zs) → Before x y (z ∷ zs))
    (λ w k. elim k [ inl e ↦ inl (e.0, (mem_filter y p zs e.1).0) | inr n ↦ inr (less_before p x y zs n) ])
    (λ w k. inr (less_before p x y zs k)) b

still_in : (p : order.Forced → Bool) (f : order.Forced) (fs : List order.Forced) → Mem f fs → p f ≡ true → Mem f (filter p fs)
still_in p f [] n e = n
still_in p f (g ∷ gs) (inl s) e = subst (λ t. Mem f (if t then g ∷ filter p gs else filter p gs)) (sym (ap p (sym s) ∙ e)) (inl s)
still_in p f (g ∷ gs) (inr n) e = bool_case (p g) (λ t. Mem f (if t then g ∷ filter p gs else filter p gs)) (λ w. inr (still_in p f gs n e)) (λ w. still_in p f gs n e)

or_left : (a b : Bool) → a ≡ true → (a || b) ≡ true
or_left true b e = refl
or_left false b e = absurd (true_false (sym e))

or_right : (a b : Bool) → b ≡ true → (a || b) ≡ true
or_right true b e = refl
or_right false b e = e

any_at : {A : Type 0} (p : A → Bool) (x : A) (xs : List A) → Mem x xs → p x ≡ true → list_any p xs ≡ true
any_at p x [] n e = absurd n
any_at p x (z ∷ zs) (inl s) e = or_left (p z) (list_any p zs) (ap p (sym s) ∙ e)
any_at p x (z ∷ zs) (inr n) e = or_right (p z) (list_any p zs) (any_at p x zs n e)

-- what stands in the promise's queue is of no other unit that an operator has committed
not_others : (w : World) (g : Ghost) (b : Book) (m : ℕ) (c : List ℕ) (u : Luw) (fs : List order.Forced) → Inv w g b → AreListed g b.rows fs → IsOnly g m c → (e : ℕ) (q : List ℕ) (x : Row) → Mem x (b.rows e q) → not (order.is_forced (others c u fs) x.message.ident) ≡ true → IsOthers g m c u x → ⊥
not_others w g b m c u fs h listed only at queue x stands free o = go (g.owner x.message.ident) refl o.0
  where
    apart : (a : ℕ) (d : List ℕ) (v : Luw) → g.owner x.message.ident ≡ Forced a d v → IsListed g b.rows fs a d v → g.operated a d v ≡ true → Mem x.message.ident (tag_idents (g.sent a d v)) → ⊥
    apart a d v e l on there = bool_case (bytes_eq c l.entry.channel && same_unit u l.entry.unit) (λ t. (bytes_eq c l.entry.channel && same_unit u l.entry.unit) ≡ t → ⊥)
        (λ t yes.
        let name : d ≡ c = sym l.channel ∙ sym (name_is c l.entry.channel (and_left (bytes_eq c l.entry.channel) (same_unit u l.entry.unit) yes)) in
        let unit : v ≡ u = sym l.unit ∙ sym (unit_yes u l.entry.unit (and_right (bytes_eq c l.entry.channel) (same_unit u l.entry.unit) yes)) in
        let from : a ≡ m = only a d v on name in
        o.1 (e ∙ (λ i. Forced (from i) (name i) (unit i))))
        (λ t no_.
        let stays : Mem l.entry (others c u fs) = still_in (λ (f : order.Forced). not (bytes_eq c f.channel && same_unit u f.unit)) l.entry fs l.there (ap not no_) in
        let mine : among l.entry.idents x.message.ident ≡ true = bool_case (among l.entry.idents x.message.ident) (λ o. among l.entry.idents x.message.ident ≡ o → o ≡ true) (λ o k. refl) (λ o k. absurd (l.idents x.message.ident there k (at, queue, x, stands, refl))) refl in
        let forced : order.is_forced (others c u fs) x.message.ident ≡ true = any_at (λ (f : order.Forced). list_any (same_ident x.message.ident) f.idents) l.entry (others c u fs) stays mine in
        true_false (sym free ∙ ap not forced)) refl

    go : (p : Owner) → g.owner x.message.ident ≡ p → is_forced (g.owner x.message.ident) ≡ true → ⊥
    go (Forced a d v) e f = let k = h.forced a d v x.message.ident e in apart a d v e (listed a d v k.0) k.0 k.1
    go Unborn e f = true_false (sym f ∙ ap is_forced e)
    go (At a q) e f = true_false (sym f ∙ ap is_forced e)
    go (HeldBy a q k) e f = true_false (sym f ∙ ap is_forced e)
    go (InBatch a d) e f = true_false (sym f ∙ ap is_forced e)
    go (InUnit a k) e f = true_false (sym f ∙ ap is_forced e)
    go (InHand a) e f = true_false (sym f ∙ ap is_forced e)
    go Gone e f = true_false (sym f ∙ ap is_forced e)

-- THE QUEUE
pub keeps_its_queue : (w : World) (g : Ghost) (b : Book) (m : ℕ) (c : List ℕ) (u : Luw) (t : ℕ) (fs : List order.Forced) → Inv w g b → Commits w g m c u t → g.loose m c u ≡ false → AreListed g b.rows fs → IsOnly g m c
    → (a : ℕ) (q : List ℕ) → KeepsQueue (tag_idents (g.sent m c u)) (unforced (others c u fs) (b.rows a q))
keeps_its_queue w g b m c u t fs h k tight listed only a q = commit_keeps w g b m c u t h k tight a q (unforced (others c u fs) (b.rows a q))
    (λ x y n. less_before (λ (r : Row). not (order.is_forced (others c u fs) r.message.ident)) x y (b.rows a q) n)
    (λ x n o.
    let k = mem_filter x (λ (r : Row). not (order.is_forced (others c u fs) r.message.ident)) (b.rows a q) n in
    not_others w g b m c u fs h listed only a q x k.0 k.1 o)
