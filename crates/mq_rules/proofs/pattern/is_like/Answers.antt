use Rattle.std.proofs.Common.{length, List, sym, subst, replicate, arith, ℕ, true, false, set}
use Rattle.mq_rules.specs.Patterns.{AreLike}
use Rattle.mq_rules.proofs.PatternLemmas.{only_end_like, left_at_end}
use Rattle.mq_rules.proofs.pattern.is_like.Goals as goal

pub reading-init : goal.reading-init
reading-init c = record {
  within = omega arith;
  like = subst (λ (p : List ℕ). AreLike (set (replicate 49 false) (length c.args.text.now) true) p c.args.text.now) (sym (left_at_end c.args.pattern.now)) (only_end_like 49 c.args.text.now (omega arith));
}
