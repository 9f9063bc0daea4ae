use Rattle.std.proofs.Common.{sym, ap, ◌∙◌}
use Rattle.std.specs.Prelude.{Some}
use Rattle.mq_events.proofs.LastLaws.{last_some}
use Rattle.mq_events.proofs.events.last_of.Goals as goal

pub returns-in-Some : goal.returns-in-Some
returns-in-Some c = ap Some c.actor_of.ensures ∙ sym (last_some c.args.entries.now c.in-Some.entry.now (sym c.in-Some.ensures.value))
