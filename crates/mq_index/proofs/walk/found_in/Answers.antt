use Rattle.std.proofs.Common.{subst, sym}
use Rattle.mq_index.specs.declared.keys.Key.{Key}
use Rattle.mq_index.specs.declared.keys.Kind.{Kind}
use Rattle.mq_index.specs.Walks.{AreKeyed, is_taken, key_for}
use Rattle.mq_index.proofs.WalkLaws.{asked_keyed}
use Rattle.mq_index.proofs.walk.found_in.Goals as goal

pub walk-requires-clause-keyed : goal.walk-requires-clause-keyed
walk-requires-clause-keyed c =
    subst (λ (k : Key). AreKeyed (is_taken k.lane c.args.any c.args.want.now c.args.after) c.args.after c.kind_for-kind.result k) (sym c.key_for-key.ensures)
    (subst (λ (kind : Kind). AreKeyed (is_taken c.args.lane c.args.any c.args.want.now c.args.after) c.args.after kind (key_for c.args.lane kind c.args.want.now)) (sym c.kind_for-kind.ensures) (asked_keyed c.args.lane c.args.any c.args.want.now c.args.after))

pub walk-requires-clause-starts : goal.walk-requires-clause-starts
walk-requires-clause-starts c =
    c.start_for-start.ensures (is_taken c.key_for-key.result.lane c.args.any c.args.want.now c.args.after)
    (subst (λ (k : Key). AreKeyed (is_taken k.lane c.args.any c.args.want.now c.args.after) c.args.after c.kind_for-kind.result k) (sym c.key_for-key.ensures)
    (subst (λ (kind : Kind). AreKeyed (is_taken c.args.lane c.args.any c.args.want.now c.args.after) c.args.after kind (key_for c.args.lane kind c.args.want.now)) (sym c.kind_for-kind.ensures) (asked_keyed c.args.lane c.args.any c.args.want.now c.args.after)))
