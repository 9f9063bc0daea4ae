use Rattle.std.proofs.Common.{ℕ, sym, ap, ◌∙◌}
use Rattle.std.specs.Prelude.{option_copied}
use Rattle.mq_heads.specs.Headers.{dlh_read}
use Rattle.mq_spec_node.specs.Terms.{decision}
use Rattle.mq_moves.proofs.LandLaws.{dead_head_is}
use Rattle.mq_handle.proofs.RulingLaws.{ruled}
use Rattle.mq_handle.proofs.choosing.rule_on.Goals as goal

pub returns-in-Ok : goal.returns-in-Ok
returns-in-Ok c =
    c.ruling_in.ensures
    ∙ ruled c.args.table.now c.args.message.now (option_copied c.args.tried) c.in-Ok.head c.decide-number.result (dead_head_is c.args.message.now.body c.in-Ok.head (sym (c.in-Ok.ensures.value ∙ ap dlh_read c.as_slice.ensures)))
    (c.decide-number.ensures ∙ ap (λ (n : ℕ). decision c.args.table.now.rules c.args.message.now.md c.in-Ok.head n) c.from_of.ensures)
