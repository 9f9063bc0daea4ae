use Rattle.std.proofs.Common.{◌≡◌, ℕ, List, ap, subst, ◌∙◌, arith}
use Rattle.mq_sides.specs.Bonds.{BondsKept, KeepsSeats}
use Rattle.mq_core.specs.Views.{PartsValue}
use Rattle.mq_agents.proofs.WriteLaws.{seated_more}
use Rattle.mq_agents.proofs.hardening.seat_channel.Goals as goal

-- the parts with a list of bound receivers that has the same bound ones
put_bonds : BondsKept → PartsValue → PartsValue
put_bonds b p = record p { ends = record p.ends { bound = b } }

seated : PartsValue → List (List ℕ) → List (List ℕ) → PartsValue
seated x bound seats = put_bonds (record { bound = bound; seats = seats }) x

pub returns-clause-more : goal.returns-clause-more
unfolding put_bonds seated
returns-clause-more g c =
    let x : PartsValue = c.args.parts.now in
    let seen = c.parts.view_is in
    let new : BondsKept = c.seat.new.self in
    let same : new.bound ≡ x.ends.bound.bound = c.seat.ensures.bound ∙ ap (λ (p : PartsValue). p.ends.bound.bound) seen in
    seated_more x _ x.ends.rows new.seats x.log.room x.log.spare x.body ((λ i. put_bonds new (seen i)) ∙ (λ i. seated x (same i) new.seats)) (omega arith) (omega arith) (omega arith)
    (subst (λ (p : PartsValue). KeepsSeats p.ends.bound.seats new.seats) seen c.seat.ensures.seats) (omega arith)

pub returns-in-Err-clause-more : goal.returns-in-Err-clause-more
unfolding put_bonds seated
returns-in-Err-clause-more g c =
    let x : PartsValue = c.args.parts.now in
    let seen = c.parts.view_is in
    let new : BondsKept = c.seat.new.self in
    let same : new.bound ≡ x.ends.bound.bound = c.seat.ensures.bound ∙ ap (λ (p : PartsValue). p.ends.bound.bound) seen in
    seated_more x _ x.ends.rows new.seats x.log.room x.log.spare x.body ((λ i. put_bonds new (seen i)) ∙ (λ i. seated x (same i) new.seats)) (omega arith) (omega arith) (omega arith)
    (subst (λ (p : PartsValue). KeepsSeats p.ends.bound.seats new.seats) seen c.seat.ensures.seats) (omega arith)
