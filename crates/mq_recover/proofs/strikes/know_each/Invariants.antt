use Rattle.std.proofs.Common.{◌≡◌, true, drop}
use Rattle.std.specs.Prelude.{◌||◌}
use Rattle.std.specs.List.{list_any}
use Rattle.mq_message.specs.declared.message.Ident.{Ident}
use Rattle.mq_queue.specs.Rows.{same_ident}
use Rattle.mq_recover.specs.Kept.{struck_at, is_known}
use Rattle.mq_recover.proofs.strikes.know_each.Given as goal

abbrev pub invariant-loop-ident : goal.invariant-loop-ident
invariant-loop-ident l = record {
  known : (other : Ident) → (list_any (λ (ident : Ident). same_ident ident other) (drop l.ident-index l.idents) || is_known l.struck other) ≡ (list_any (λ (ident : Ident). same_ident ident other) l.idents || is_known l.fn.struck other);
  kept : (other : Ident) → is_known l.fn.struck other ≡ true → is_known l.struck other ≡ true;
  same : (other : Ident) → struck_at l.struck other ≡ struck_at l.fn.struck other;
}
