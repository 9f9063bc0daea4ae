use Rattle.std.proofs.Common.{sym, ◌∙◌}
use Rattle.mq_get.proofs.WayLaws.{hit_browsed, hit_held, hit_taken}
use Rattle.mq_get.proofs.getting.get_hit.Goals as goal

pub returns-then-not-is_destructive : goal.returns-then-not-is_destructive
returns-then-not-is_destructive g c = hit_browsed c.args.get.now c.args.number c.args.aim.now c.args.hit _ _ _ _ _ c.got_answer.result c.got_answer.ensures (sym c.is_destructive.ensures ∙ c.if-not-is_destructive.true) c.get_browsed.ensures

pub returns-then-get : goal.returns-then-get
returns-then-get g c = hit_held c.args.get.now c.args.number c.args.aim.now c.args.hit _ _ _ _ _ c.got_answer.result c.got_answer.ensures (sym c.is_destructive.ensures ∙ c.if-not-is_destructive.false) c.if-get.true c.get_held.ensures

pub returns : goal.returns
returns g c = hit_taken c.args.get.now c.args.number c.args.aim.now c.args.hit _ _ _ _ _ c.got_answer.result c.got_answer.ensures (sym c.is_destructive.ensures ∙ c.if-not-is_destructive.false) c.if-get.false c.get_taken.ensures
