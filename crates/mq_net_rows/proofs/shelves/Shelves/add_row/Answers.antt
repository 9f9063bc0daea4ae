use Rattle.std.proofs.Common.{List, sym, subst}
use Rattle.mq_net_rows.specs.declared.lanes.Named.{Named}
use Rattle.mq_net_rows.specs.Homes.{home_of}
use Rattle.mq_net_rows.specs.Stored.{IsStore}
use Rattle.mq_net_rows.proofs.QueueLaws.{noted_same, noted_empty, filled, filled_view}
use Rattle.mq_net_rows.proofs.shelves.Shelves.add_row.Goals as goal

pub invariant_of-self-in_err-note_home : goal.invariant_of-self-in_err-note_home
invariant_of-self-in_err-note_home c =
    noted_same c.self.inside.store c.self.inside.queues (home_of c.self.inside.homes) c.self.inside.doubled c.args.self.now c.self.invariant c.self.view_is c.args.row c.either-self-inside.result c.has.result c.either-self-inside.ensures c.has.ensures
    c.push.new.self (home_of c.note_home.new.homes) c.in_ok-push.ensures.ok c.in_err-note_home.ensures.same

pub invariant_of-self-in_err-seat : goal.invariant_of-self-in_err-seat
invariant_of-self-in_err-seat c =
    subst (λ (qs : List Named). IsStore c.push.new.self qs (home_of c.note_home.new.homes) c.either-self-inside.result) (sym c.in_err-seat.ensures.same)
    (noted_empty c.self.inside.store c.self.inside.queues (home_of c.self.inside.homes) c.self.inside.doubled c.args.self.now c.self.invariant c.self.view_is c.args.row c.either-self-inside.result c.has.result c.either-self-inside.ensures c.has.ensures
    c.push.new.self (home_of c.note_home.new.homes) c.len-slot.result c.in_ok-push.ensures.ok c.in_ok-note_home.ensures.home)

pub invariant_of-self-2 : goal.invariant_of-self-2
invariant_of-self-2 c =
    filled c.self.inside.store c.self.inside.queues (home_of c.self.inside.homes) c.self.inside.doubled c.args.self.now c.self.invariant c.self.view_is c.args.row c.either-self-inside.result c.has.result c.either-self-inside.ensures c.has.ensures
    c.push.new.self c.fill.new.self c.seat.new.self (home_of c.note_home.new.homes) c.len-slot.result c.args.at c.in_ok-push.ensures.ok c.len-slot.ensures c.requires c.in_ok-note_home.ensures.home c.in_ok-seat.ensures.seated c.fill.ensures

pub returns : goal.returns
returns c =
    filled_view c.self.inside.store c.self.inside.queues (home_of c.self.inside.homes) c.self.inside.doubled c.args.self.now c.self.invariant c.self.view_is c.args.row c.either-self-inside.result c.has.result c.either-self-inside.ensures c.has.ensures
    c.push.new.self c.fill.new.self c.seat.new.self c.len-slot.result c.args.at c.in_ok-push.ensures.ok c.len-slot.ensures c.in_ok-seat.ensures.seated c.fill.ensures
