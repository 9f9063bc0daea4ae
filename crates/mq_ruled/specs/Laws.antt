-- Pushes and pops one after another, on a wire that threads share.
use Rattle.std.proofs.Common.{List, [], ◌++◌, append_assoc, append-nil, sym, ap, ◌∙◌, refl, arith}
use Rattle.mq_cable.specs.declared.item.Item.{Item}
use Rattle.mq_ruled.specs.Ends.{PipeEnds, PipeWrote, PipeTook, PipeFull}

pub wrote_none : (a : PipeEnds) → PipeWrote a [] a
wrote_none a = record { whole = sym (append-nil a.sent); same = refl; count = omega arith }

pub took_none : (a : PipeEnds) → PipeTook a [] a
took_none a = record { whole = sym (append-nil a.taken); same = refl; count = omega arith }

pub wrote_more : (a b c : PipeEnds) (xs ys : List Item) → PipeWrote a xs b → PipeWrote b ys c → PipeWrote a (xs ++ ys) c
wrote_more a b c xs ys p q = record {
  whole = q.whole ∙ ap (λ (l : List Item). l ++ ys) p.whole ∙ append_assoc a.sent xs ys;
  same = q.same ∙ p.same;
  count = omega (arith, p.count, q.count);
}

pub took_more : (a b c : PipeEnds) (xs ys : List Item) → PipeTook a xs b → PipeTook b ys c → PipeTook a (xs ++ ys) c
took_more a b c xs ys p q = record {
  whole = q.whole ∙ ap (λ (l : List Item). l ++ ys) p.whole ∙ append_assoc a.taken xs ys;
  same = q.same ∙ p.same;
  count = omega (arith, p.count, q.count);
}

pub full_later : (a b c : PipeEnds) (xs : List Item) → PipeWrote a xs b → PipeFull b c → PipeFull a c
full_later a b c xs p q = record { gone = q.gone; held = q.held; among = q.among; most = q.most; rose = omega (arith, p.count, q.rose) }
