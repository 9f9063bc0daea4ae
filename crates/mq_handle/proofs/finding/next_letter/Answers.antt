use Rattle.std.proofs.Common.{ℕ, sym, ap, ◌∙◌}
use Rattle.mq_handle.specs.Letters.{takes}
use Rattle.mq_handle.proofs.LetterLaws.{walk_start, walk_here, walk_next, walk_fewer, walk_none}
use Rattle.mq_handle.proofs.finding.next_letter.Goals as goal

pub walking-init : goal.walking-init
walking-init g c = record { same = walk_start c.args.queue.now c.args.handler.now c.args.core.now.plain }

pub returns-then-takes : goal.returns-then-takes
returns-then-takes g c =
    walk_here c.args.queue.now c.args.handler.now c.args.core.now.plain c.walking.after c.in-Some.place c.in-Some.message.now c.in-Some.ensures
    (ap (λ (n : ℕ). takes c.args.queue.now c.args.handler.now n c.in-Some.message.now) (sym c.moment-now.ensures) ∙ sym c.takes.ensures ∙ c.if-takes.true) c.walking.invariant.same

pub walking-smaller : goal.walking-smaller
walking-smaller g c =
    walk_fewer c.args.queue.now c.args.handler.now c.args.core.now.plain c.walking.after c.in-Some.place c.in-Some.message.now ((c.requires.well.up c.requires.up).facts.ordered.in_order c.args.queue.now) c.in-Some.ensures

pub walking-preserved : goal.walking-preserved
walking-preserved g c = record {
  same =
      walk_next c.args.queue.now c.args.handler.now c.args.core.now.plain c.walking.after c.in-Some.place c.in-Some.message.now ((c.requires.well.up c.requires.up).facts.ordered.in_order c.args.queue.now) c.in-Some.ensures
      (ap (λ (n : ℕ). takes c.args.queue.now c.args.handler.now n c.in-Some.message.now) (sym c.moment-now.ensures) ∙ sym c.takes.ensures ∙ c.if-takes.false) c.walking.invariant.same;
}

pub returns : goal.returns
returns g c = walk_none c.args.queue.now c.args.handler.now c.args.core.now.plain c.walking.after c.in_default.ensures c.walking.invariant.same
