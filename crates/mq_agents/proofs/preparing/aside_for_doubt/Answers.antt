use Rattle.std.proofs.Common.{◌≡◌, ℕ, ◌+◌, ◌∙◌, ap, arith, sym, subst}
use Rattle.mq_calls.specs.Words.{set_sender}
use Rattle.mq_place.specs.Rooms.{RowsKept}
use Rattle.mq_core.specs.declared.parts.ChannelEnds.{ChannelEnds}
use Rattle.mq_core.specs.Views.{PartsValue}
use Rattle.mq_core.specs.Ties.{EndsReady}
use Rattle.mq_agents.specs.Written.{with_senders}
use Rattle.mq_agents.proofs.ReadyLaws.{sender_doubts}
use Rattle.mq_agents.proofs.WriteLaws.{more_trans}
use Rattle.mq_agents.proofs.preparing.aside_for_doubt.Goals as goal

pub returns-in-Ok-aside_log-clause-more : goal.returns-in-Ok-aside_log-clause-more
returns-in-Ok-aside_log-clause-more g c = more_trans c.args.parts.now c.aside_rows.new.parts c.aside_log.new.parts c.aside_rows.ensures.more c.aside_log.ensures.more

pub returns-in-Err-aside_log-clause-more : goal.returns-in-Err-aside_log-clause-more
returns-in-Err-aside_log-clause-more g c = more_trans c.args.parts.now c.aside_rows.new.parts c.aside_log.new.parts c.aside_rows.ensures.more c.aside_log.ensures.more

pub returns-in-Ok-aside_log-clause-ready : goal.returns-in-Ok-aside_log-clause-ready
returns-in-Ok-aside_log-clause-ready g c = λ ready side is.
    let x : PartsValue = c.args.parts.now in
    let k : RowsKept = c.aside_rows.new.parts.ends.rows in
    let room = c.in-Ok.ensures.room in
    let ends : c.aside_log.new.parts.ends ≡ record x.ends { rows = k } = c.in-Ok-aside_log.ensures.ends ∙ c.in-Ok.ensures.ends in
    let spare : c.aside_log.new.parts.log.spare ≡ x.log.spare + 44 = c.in-Ok-aside_log.ensures.spare ∙ ap (λ (n : ℕ). n + 44) c.in-Ok.ensures.spare in
    subst (λ (n : ℕ). EndsReady (with_senders (set_sender side c.aside_log.new.parts.ends.senders) c.aside_log.new.parts.ends) n) (sym spare)
    (subst (λ (e : ChannelEnds). EndsReady (with_senders (set_sender side e.senders) e) (x.log.spare + 44)) (sym ends) (sender_doubts side x.ends k x.log.spare c.args.count ready is (omega (arith, room))))
