use Rattle.std.proofs.Common.{rules, ap, ◌∙◌}
use Rattle.std.specs.Prelude.{is_some}
use Rattle.std.specs.Map.{lookup}
use Rattle.mq_queue.specs.Rows.{same_ident}
use Rattle.mq_shelves.specs.Spots.{is_met}
use Rattle.mq_shelves.proofs.DistinctLaws.{all_new, not_met, new_step}
use Rattle.mq_shelves.proofs.distinct.are_distinct.Goals as goal

pub loop-ident-init : goal.loop-ident-init
loop-ident-init c = all_new (is_met c.new-met.result) (λ ident. ap (λ es. is_some (lookup (same_ident ident) es)) c.new-met.ensures.empty) c.args.idents.now

pub loop-ident-preserved : goal.loop-ident-preserved
loop-ident-preserved c =
    c.loop-ident.invariant
    ∙ new_step c.args.idents.now c.loop-ident.ident-index _ (is_met c.loop-ident.met) (is_met c.meet.new.met) c.in_ok-meet.ensures.now (not_met _ _ c.in_ok-meet.ensures.first c.if-not-branch.false) c.loop-ident-test.true (search rules)
