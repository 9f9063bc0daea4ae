use Rattle.std.proofs.Common.{sym, ◌∙◌}
use Rattle.mq_get.proofs.WayLaws.{hit_left, hit_fits}
use Rattle.mq_get.proofs.getting.get_found.Goals as goal

pub returns-then-is_left : goal.returns-then-is_left
returns-then-is_left g c = hit_left _ c.args.get.now c.args.number c.args.aim.now c.args.hit _ _ _ _ _ (sym c.is_left.ensures ∙ c.if-is_left.true) c.answer_behind.ensures

pub returns : goal.returns
returns g c = hit_fits _ c.args.get.now c.args.number c.args.aim.now c.args.hit _ _ _ _ _ (sym c.is_left.ensures ∙ c.if-is_left.false) c.get_hit.ensures
