use Rattle.std.specs.Prelude.{Option}
use Rattle.std.proofs.Common.{ap, ◌∙◌}
use Rattle.mq_spec_node.specs.Words.{Node}
use Rattle.mq_law_ran.specs.from_standing.Stands.{sender_standing}
use Rattle.mq_world.specs.Words.{RestState}
use Rattle.mq_run.proofs.RestLaws.{no_node, none_at, one_at, one_node}
use Rattle.mq_run.proofs.standing.sender_at.Goals as goal

pub returns-in_default : goal.returns-in_default
returns-in_default g c =
    ap (λ (n : Option Node). sender_standing c.args.cable c.args.line.now.channel n)
    (no_node c.args.rested.now c.args.line.now.sender
    (none_at c.deref.result.now c.args.rested.now.managers c.args.line.now.sender (c.deref.ensures.value ∙ ap (λ (w : RestState). w.managers) c.rested.view_is) c.in_default.ensures.lookup.3))

pub returns-in-Some-get : goal.returns-in-Some-get
returns-in-Some-get g c =
    c.sender_standing.ensures
    ∙ ap (λ (n : Option Node). sender_standing c.args.cable c.args.line.now.channel n)
    (one_node c.args.rested.now c.args.line.now.sender c.manager.inside.core c.in-Some.manager.now c.in-Some-get.own.now c.manager.view_is
    (one_at c.deref.result.now c.args.rested.now.managers c.args.line.now.sender c.in-Some.manager.now (c.deref.ensures.value ∙ ap (λ (w : RestState). w.managers) c.rested.view_is) c.in-Some.ensures.lookup.3.0 c.in-Some.ensures.lookup.1)
    (one_at c.deref-2.result.now c.args.rested.now.owns c.args.line.now.sender c.in-Some-get.own.now (c.deref-2.ensures.value ∙ ap (λ (w : RestState). w.owns) c.rested.view_is) c.in-Some-get.ensures.lookup.3.0 c.in-Some-get.ensures.lookup.1))
