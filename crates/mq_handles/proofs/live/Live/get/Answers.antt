use Rattle.std.proofs.Common.{◌∙◌, sym, subst, arith}
use Rattle.mq_handles.specs.Rising.{AreRising, connection_number}
use Rattle.mq_handles.specs.Desks.{Desk}
use Rattle.mq_handles.proofs.DeskLaws.{at_none, at_some}
use Rattle.mq_handles.proofs.live.Live.get.Goals as goal

pub returns-in-None-clause-found : goal.returns-in-None-clause-found
returns-in-None-clause-found c = sym (at_none c.args.number c.args.self.now.live (sym c.place_of.ensures ∙ c.in-None.is))

pub returns-in-Some-clause-found : goal.returns-in-Some-clause-found
returns-in-Some-clause-found c =
    let e = sym c.place_of.ensures ∙ c.in-Some.is in
    grind (arith, at_some c.args.number c.args.self.now.live c.in-Some.at c.index-as_slice-at.result e, c.index-as_slice-at.is, c.as_slice.ensures, c.self.view_is)

pub returns-in-None-clause-rising : goal.returns-in-None-clause-rising
returns-in-None-clause-rising c = subst (λ (d : Desk). AreRising connection_number d.live) c.self.view_is c.self.invariant.rising

pub returns-in-Some-clause-rising : goal.returns-in-Some-clause-rising
returns-in-Some-clause-rising c = subst (λ (d : Desk). AreRising connection_number d.live) c.self.view_is c.self.invariant.rising
