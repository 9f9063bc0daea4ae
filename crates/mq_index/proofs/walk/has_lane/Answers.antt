use Rattle.std.proofs.Common.{true, None, subst, sym}
use Rattle.mq_index.specs.declared.keys.Key.{Key}
use Rattle.mq_index.specs.declared.keys.Kind.TheVariants.{Lane}
use Rattle.mq_index.specs.Walks.{AreKeyed, is_taken}
use Rattle.mq_index.proofs.WalkLaws.{asked_keyed}
use Rattle.mq_index.proofs.walk.has_lane.Goals as goal

pub returns-in-None : goal.returns-in-None
returns-in-None c = λ bare.
    c.in-None.ensures (is_taken c.args.lane true c.args.want.now None)
    (subst (λ (k : Key). AreKeyed (is_taken c.args.lane true c.args.want.now None) None Lane k) (sym c.key_for-key.ensures) (asked_keyed c.args.lane true c.args.want.now None))
