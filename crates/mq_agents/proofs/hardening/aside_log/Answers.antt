use Rattle.std.proofs.Common.{◌≡◌, ℕ, ◌∙◌, sym, ap, arith}
use Rattle.mq_log.specs.State.{LogState}
use Rattle.mq_core.specs.Views.{PartsValue}
use Rattle.mq_agents.proofs.WriteLaws.{roomed_more}
use Rattle.mq_agents.proofs.hardening.aside_log.Goals as goal

put_log : LogState → PartsValue → PartsValue
put_log l p = record p { log = l }

with_room : LogState → ℕ → ℕ → LogState
with_room l room spare = record l { room = room; spare = spare }

pub returns-clause-more : goal.returns-clause-more
unfolding put_log with_room
returns-clause-more g c =
    let x : PartsValue = c.args.parts.now in
    let seen = c.parts.view_is in
    let new : LogState = c.set_aside.new.self in
    let log = ap (λ (p : PartsValue). p.log) seen in
    let had = ap (λ (l : LogState). l.room) log in
    let kept = ap (λ (l : LogState). l.spare) log in
    let spare = ap (λ (l : LogState). l.spare) c.in-Ok.ensures.ok in
    let same : new ≡ with_room x.log new.room new.spare = c.in-Ok.ensures.ok ∙ (λ i. with_room (log i) new.room (sym spare i)) in
    roomed_more x _ x.ends.rows new.room new.spare x.body ((λ i. put_log new (seen i)) ∙ (λ i. put_log (same i) x)) (omega (arith, had, c.in-Ok.ensures.room)) (omega (arith, kept, spare)) (omega arith) (omega arith)

pub returns-in-Err-clause-more : goal.returns-in-Err-clause-more
unfolding put_log with_room
returns-in-Err-clause-more g c =
    let x : PartsValue = c.args.parts.now in
    let seen = c.parts.view_is in
    let new : LogState = c.set_aside.new.self in
    let log = ap (λ (p : PartsValue). p.log) seen in
    let had = ap (λ (l : LogState). l.room) log in
    let kept = ap (λ (l : LogState). l.spare) log in
    let spare = ap (λ (l : LogState). l.spare) c.in-Err.ensures.err in
    let same : new ≡ with_room x.log new.room new.spare = c.in-Err.ensures.err ∙ (λ i. with_room (log i) new.room (sym spare i)) in
    roomed_more x _ x.ends.rows new.room new.spare x.body ((λ i. put_log new (seen i)) ∙ (λ i. put_log (same i) x)) (omega (arith, had, c.in-Err.ensures.room)) (omega (arith, kept, spare)) (omega arith) (omega arith)

pub returns-clause-ends : goal.returns-clause-ends
returns-clause-ends g c = ap (λ (p : PartsValue). p.ends) c.parts.view_is

pub returns-in-Err-clause-ends : goal.returns-in-Err-clause-ends
returns-in-Err-clause-ends g c = ap (λ (p : PartsValue). p.ends) c.parts.view_is

pub returns-clause-spare : goal.returns-clause-spare
returns-clause-spare g c =
    let kept = ap (λ (p : PartsValue). p.log.spare) c.parts.view_is in
    let spare = ap (λ (l : LogState). l.spare) c.in-Ok.ensures.ok in
    omega (arith, kept, spare)
