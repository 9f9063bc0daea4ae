use Rattle.std.proofs.Common.{◌≡◌, take, true, ap, sym, ◌∙◌, []}
use Rattle.mq_sc_parse.specs.Checks.{is_among, repeated_from, first_repeated}
use Rattle.mq_sc_parse.proofs.CheckLaws.{repeated_here, none_repeated}
use Rattle.mq_sc_parse.proofs.checks.first_repeated.Goals as goal

pub returns-then-is_among : goal.returns-then-is_among
unfolding first_repeated
returns-then-is_among c =
    let among : is_among c.args.verb c.args.kind c.index-items-at.result (take c.loop-at.at c.args.items.now) ≡ true = ap (is_among c.args.verb c.args.kind c.index-items-at.result) (sym c.split_at.ensures.front) ∙ sym c.is_among.ensures ∙ c.if-is_among.true in
    repeated_here c.args.verb c.args.kind c.args.items.now c.loop-at.at c.index-items-at.result (repeated_from c.args.verb c.args.kind [] c.args.items.now) c.loop-at-test.true c.index-items-at.is among c.loop-at.invariant

pub returns : goal.returns
unfolding first_repeated
returns c = none_repeated c.args.verb c.args.kind c.args.items.now c.loop-at.at (repeated_from c.args.verb c.args.kind [] c.args.items.now) c.loop-at-test.false c.loop-at.invariant
