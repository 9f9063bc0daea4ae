-- What an end took, over two stretches of entries; and across two locks: what it took is what lay there first.
use Rattle.std.proofs.Common.{◌≡◌, ℕ, ◌+◌, Bool, true, false, List, [], ◌∷◌, ◌++◌, refl, sym, ap, subst, ◌∙◌, append_assoc, append-nil, inl, inr}
use Rattle.std.specs.Prelude.{◌&&◌, max}
use Rattle.std.specs.List.{AllByRecursion}
use Rattle.mq_cable.specs.declared.fault.Fault.{Fault}
use Rattle.mq_cable.specs.declared.item.Item.{Item}
use Rattle.mq_cable.specs.Offers.{Offering}
use Rattle.mq_frame.specs.Sight.{Shows}
use Rattle.mq_history.specs.declared.calls.Actor.{Actor}
use Rattle.mq_spec_node.specs.Terms.{Entry}
use Rattle.mq_spec_node.specs.Words.{stamp_after}
use Rattle.mq_spec_network.specs.Cables.{is_popped, pops_item}
use Rattle.mq_ways.specs.Ways.{IsQuietEntry}
use Rattle.mq_split.specs.Facing.{Facing}
use Rattle.mq_split.specs.Took.{Took, way}
use Rattle.mq_split.proofs.FacingLaws.{facing_popped, facing_unread}
use Rattle.mq_split.proofs.QuietLaws.{no_item}

-- one stretch behind another
pub took_on : (test : Actor → Bool) (last : ℕ) (es fs : List Entry) (xs ys : List Item) → Took test last es xs → Took test (stamp_after last es) fs ys → Took test last (es ++ fs) (xs ++ ys)
took_on test last [] fs xs ys h k = subst (λ (zs : List Item). Took test last fs (zs ++ ys)) (sym h) k
took_on test last (e ∷ es) fs [] [] h k = (h.0, took_on test e.stamp es fs [] [] h.1 k)
took_on test last (e ∷ es) fs [] (y ∷ ys) h k = inl (h.0, took_on test e.stamp es fs [] (y ∷ ys) h.1 k)
took_on test last (e ∷ es) fs (x ∷ xs) ys (inl h) k = inl (h.0, took_on test e.stamp es fs (x ∷ xs) ys h.1 k)
took_on test last (e ∷ es) fs (x ∷ xs) ys (inr h) k = inr (h.0, h.1, h.2, took_on test e.stamp es fs xs ys h.3 k)

pub took_none : (test : Actor → Bool) (last : ℕ) (es : List Entry) → AllByRecursion (IsQuietEntry test) es → Took test last es []
took_none test last [] q = refl
took_none test last (e ∷ es) q = (no_item test e q.0, took_none test e.stamp es q.1)

pub took_quiet : (test : Actor → Bool) (last : ℕ) (es fs : List Entry) (xs : List Item) → AllByRecursion (IsQuietEntry test) fs → Took test last es xs → Took test last (es ++ fs) xs
took_quiet test last es fs xs q h = subst (λ (zs : List Item). Took test last (es ++ fs) zs) (append-nil xs) (took_on test last es fs xs [] h (took_none test (stamp_after last es) fs q))

-- one that popped an item
pub took_one : (test : Actor → Bool) (last : ℕ) (e : Entry) (x : Item) → pops_item test e ≡ true → Shows x.bytes e.effect.popped → e.stamp ≡ max last x.stamp + 1 → Took test last (e ∷ []) (x ∷ [])
took_one test last e x pop shows stamp = inr (pop, shows, stamp, refl)

-- one that popped none
pub took_not : (test : Actor → Bool) (last : ℕ) (e : Entry) → pops_item test e ≡ false → Took test last (e ∷ []) []
took_not test last e none = (none, refl)

-- ACROSS TWO LOCKS: of what lay there, what the reader took comes first, and what is left lies there then.
both : (a b : Bool) → (a && b) ≡ true → (a ≡ true) × (b ≡ true)
both true b h = (refl, h)
both false b h = absurd (let e : false ≡ true = h in cc)

stamp_end : (last : ℕ) (es : List Entry) (e : Entry) → stamp_after last (es ++ e ∷ []) ≡ e.stamp
stamp_end last [] e = refl
stamp_end last (x ∷ es) e = stamp_end x.stamp es e

pub facing_took : (fs : List Fault) (writer reader : Actor → Bool) (written read es : List Entry) (taken left : List Item) (o : Offering) → Took reader (stamp_after 0 read) es taken → Facing fs writer reader written read (way (taken ++ left) o)
    → Facing fs writer reader written (read ++ es) (way left o)
facing_took fs writer reader written read [] taken left o t f =
    subst (λ (rs : List Entry). Facing fs writer reader written rs (way left o)) (sym (append-nil read)) (subst (λ (xs : List Item). Facing fs writer reader written read (way (xs ++ left) o)) t f)
facing_took fs writer reader written read (e ∷ es) [] left o t f =
    subst (λ (rs : List Entry). Facing fs writer reader written rs (way left o)) (append_assoc read (e ∷ []) es)
    (facing_took fs writer reader written (read ++ e ∷ []) es [] left o (subst (λ (n : ℕ). Took reader n es []) (sym (stamp_end 0 read e)) t.1) (facing_unread fs writer reader written read e (way left o) t.0 f))
facing_took fs writer reader written read (e ∷ es) (x ∷ xs) left o (inl t) f =
    subst (λ (rs : List Entry). Facing fs writer reader written rs (way left o)) (append_assoc read (e ∷ []) es)
    (facing_took fs writer reader written (read ++ e ∷ []) es (x ∷ xs) left o (subst (λ (n : ℕ). Took reader n es (x ∷ xs)) (sym (stamp_end 0 read e)) t.1) (facing_unread fs writer reader written read e (way ((x ∷ xs) ++ left) o) t.0 f))
facing_took fs writer reader written read (e ∷ es) (x ∷ xs) left o (inr t) f =
    let b = both (reader e.actor) (is_popped e) t.0 in
    subst (λ (rs : List Entry). Facing fs writer reader written rs (way left o)) (append_assoc read (e ∷ []) es)
    (facing_took fs writer reader written (read ++ e ∷ []) es xs left o (subst (λ (n : ℕ). Took reader n es xs) (sym (stamp_end 0 read e)) t.3)
    (facing_popped fs writer reader written read e x (way ((x ∷ xs) ++ left) o) (way (xs ++ left) o) b.0 b.1 t.1 t.2 f refl refl))
