-- Pushes and pops one after another, in one thread.
use Rattle.std.proofs.Common.{◌≡◌, ◌⊎◌, inl, inr, ℕ, ◌≤◌, List, [], ◌++◌, length, append_assoc, append-nil, sym, ap, ◌∙◌, refl, arith}
use Rattle.mq_cable.specs.declared.item.Item.{Item}
use Rattle.mq_cable.specs.Ends.{Wrote, Took, FoundFull}

pub wrote_none : (a : List Item) (m : ℕ) → Wrote a m [] a m
wrote_none a m = record { whole = sym (append-nil a); room = inl refl; count = omega arith }

pub took_none : (a : List Item) (m : ℕ) → Took a m [] a m
took_none a m = record { whole = refl; count = omega arith }

room_more : (b c xs ys : List Item) → c ≡ b ++ ys → (xs ≡ []) ⊎ (length b ≤ 64) → (ys ≡ []) ⊎ (length c ≤ 64) → (xs ++ ys ≡ []) ⊎ (length c ≤ 64)
room_more b c xs ys e (inl p) (inl q) = inl (ap (λ (l : List Item). l ++ ys) p ∙ q)
room_more b c xs ys e (inr p) (inl q) = inr (let n = ap length (e ∙ ap (λ (l : List Item). b ++ l) q ∙ append-nil b) in omega (arith, n, p))
room_more b c xs ys e p (inr q) = inr q

pub wrote_more : (a : List Item) (m : ℕ) (b : List Item) (n : ℕ) (c : List Item) (o : ℕ) (xs ys : List Item) → Wrote a m xs b n → Wrote b n ys c o → Wrote a m (xs ++ ys) c o
wrote_more a m b n c o xs ys p q = record {
  whole = q.whole ∙ ap (λ (l : List Item). l ++ ys) p.whole ∙ append_assoc a xs ys;
  room = room_more b c xs ys q.whole p.room q.room;
  count = omega (arith, p.count, q.count);
}

pub took_more : (a : List Item) (m : ℕ) (b : List Item) (n : ℕ) (c : List Item) (o : ℕ) (xs ys : List Item) → Took a m xs b n → Took b n ys c o → Took a m (xs ++ ys) c o
took_more a m b n c o xs ys p q = record {
  whole = p.whole ∙ ap (λ (l : List Item). xs ++ l) q.whole ∙ sym (append_assoc xs ys c);
  count = omega (arith, p.count, q.count);
}

pub full_later : (a : List Item) (m : ℕ) (b : List Item) (n : ℕ) (c : List Item) (o : ℕ) (xs : List Item) → Wrote a m xs b n → FoundFull n c o → FoundFull m c o
full_later a m b n c o xs p q = record { most = q.most; rose = omega (arith, p.count, q.rose) }
