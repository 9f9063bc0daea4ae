use Rattle.std.specs.Prelude.{◌<◌, Bool, ◌∷◌, [], Option, Ok, Err, length, slice_get}
use Rattle.std.proofs.Common.{ap, arith, subst, sym, ◌∙◌}
use Rattle.mq_history.specs.declared.scenario.Scenario.{Scenario}
use Rattle.mq_spec_node.specs.Terms.{Hconn}
use Rattle.mq_spec_network.specs.Steps.{gives_up}
use Rattle.mq_spec_network.specs.Tasks.Task.{Open, Watch}
use Rattle.mq_nodes.specs.Told.{Onward}
use Rattle.mq_world.specs.Worlds.{NetState, course_in}
use Rattle.mq_world.proofs.TurnLaws.{line_at, line_low, lines_there}
use Rattle.mq_world.proofs.WatchLaws.{by_line, connect_breaks, connected, leaves, not_given, open_breaks, opened, opens_of, watching}
use Rattle.mq_world.proofs.parts.NetParts.watch.Goals as goal

pub line_of-line-requires : goal.line_of-line-requires
line_of-line-requires g c =
    let lt = lines_there c.args.self.now c.args.monitor c.requires.kept c.requires.there in
    record { there = omega (arith, lt, ap (λ (w : NetState). length w.monitors) c.self.view_is) }

pub connect-requires-clause-there : goal.connect-requires-clause-there
connect-requires-clause-there g c = line_low c.args.self.now c.args.monitor c.line_of-line.result c.requires.kept (ap (λ (w : NetState). slice_get w.monitors c.args.monitor) (sym c.self.view_is) ∙ c.line_of-line.ensures)

pub open-requires-clause-there : goal.open-requires-clause-there
open-requires-clause-there g c =
    subst (λ (s : Scenario). c.line_of-line.result.manager < length s.managers) (sym c.in-Ok-Some.ensures.same)
    (line_low c.args.self.now c.args.monitor c.line_of-line.result c.requires.kept (ap (λ (w : NetState). slice_get w.monitors c.args.monitor) (sym c.self.view_is) ∙ c.line_of-line.ensures))

pub leave-requires-clause-there : goal.leave-requires-clause-there
leave-requires-clause-there g c =
    subst (λ (s : Scenario). c.line_of-line.result.manager < length s.managers) (sym (c.in-Ok-false.ensures.same ∙ c.in-Ok-Some.ensures.same))
    (line_low c.args.self.now c.args.monitor c.line_of-line.result c.requires.kept (ap (λ (w : NetState). slice_get w.monitors c.args.monitor) (sym c.self.view_is) ∙ c.line_of-line.ensures))

pub returns-then-watches-clause-told : goal.returns-then-watches-clause-told
returns-then-watches-clause-told g c =
    by_line c.args.monitor c.line_of-line.result c.args.self.now.scenario.monitors (Ok tt) (course_in c.args.self.now) (course_in c.args.self.now)
    (line_at c.args.self.now c.args.monitor c.line_of-line.result c.requires.kept (ap (λ (w : NetState). slice_get w.monitors c.args.monitor) (sym c.self.view_is) ∙ c.line_of-line.ensures))
    (watching c.args.monitor c.line_of-line.result (course_in c.args.self.now) c.requires.ready (sym c.watches.ensures ∙ c.if-watches.true))

pub returns-in-Err-clause-told : goal.returns-in-Err-clause-told
returns-in-Err-clause-told g c =
    by_line c.args.monitor c.line_of-line.result c.args.self.now.scenario.monitors (Err c.in-Err.stop) (course_in c.args.self.now) (course_in c.connect.new.self)
    (line_at c.args.self.now c.args.monitor c.line_of-line.result c.requires.kept (ap (λ (w : NetState). slice_get w.monitors c.args.monitor) (sym c.self.view_is) ∙ c.line_of-line.ensures))
    (connect_breaks c.args.monitor c.line_of-line.result c.in-Err.stop (course_in c.args.self.now) (course_in c.connect.new.self) c.requires.ready (sym c.watches.ensures ∙ c.if-watches.false) c.in-Err.ensures.told)

pub returns-in-Ok-None-clause-told : goal.returns-in-Ok-None-clause-told
returns-in-Ok-None-clause-told g c =
    by_line c.args.monitor c.line_of-line.result c.args.self.now.scenario.monitors (Ok tt) (course_in c.args.self.now) (course_in c.connect.new.self)
    (line_at c.args.self.now c.args.monitor c.line_of-line.result c.requires.kept (ap (λ (w : NetState). slice_get w.monitors c.args.monitor) (sym c.self.view_is) ∙ c.line_of-line.ensures))
    (not_given c.args.monitor c.line_of-line.result (course_in c.args.self.now) (course_in c.connect.new.self)
    (subst (λ (o : Option Hconn). Onward (Watch c.args.monitor c.line_of-line.result ∷ []) (opens_of c.args.monitor c.line_of-line.result o) (course_in c.args.self.now) (course_in c.connect.new.self)) c.in-Ok-None.field-0-is
    (connected c.args.monitor c.line_of-line.result c.in-Ok-None.field-0 (course_in c.args.self.now) (course_in c.connect.new.self) c.requires.ready (sym c.watches.ensures ∙ c.if-watches.false) c.in-Ok-None.ensures.told)))

pub returns-in-Err-open-clause-told : goal.returns-in-Err-open-clause-told
returns-in-Err-open-clause-told g c =
    let on : Onward (Watch c.args.monitor c.line_of-line.result ∷ []) (Open c.args.monitor c.line_of-line.result c.in-Ok-Some.connection ∷ []) (course_in c.args.self.now) (course_in c.connect.new.self) =
    (subst (λ (o : Option Hconn). Onward (Watch c.args.monitor c.line_of-line.result ∷ []) (opens_of c.args.monitor c.line_of-line.result o) (course_in c.args.self.now) (course_in c.connect.new.self)) c.in-Ok-Some.field-0-is
    (connected c.args.monitor c.line_of-line.result c.in-Ok-Some.field-0 (course_in c.args.self.now) (course_in c.connect.new.self) c.requires.ready (sym c.watches.ensures ∙ c.if-watches.false) c.in-Ok-Some.ensures.told)) in
    by_line c.args.monitor c.line_of-line.result c.args.self.now.scenario.monitors (Err c.in-Err-open.stop) (course_in c.args.self.now) (course_in c.open.new.self)
    (line_at c.args.self.now c.args.monitor c.line_of-line.result c.requires.kept (ap (λ (w : NetState). slice_get w.monitors c.args.monitor) (sym c.self.view_is) ∙ c.line_of-line.ensures))
    (open_breaks c.args.monitor c.line_of-line.result c.in-Ok-Some.connection c.in-Err-open.stop (course_in c.args.self.now) (course_in c.connect.new.self) (course_in c.open.new.self) on c.in-Err-open.ensures.told)

pub returns-in-Ok-true-clause-told : goal.returns-in-Ok-true-clause-told
returns-in-Ok-true-clause-told g c =
    let on : Onward (Watch c.args.monitor c.line_of-line.result ∷ []) (Open c.args.monitor c.line_of-line.result c.in-Ok-Some.connection ∷ []) (course_in c.args.self.now) (course_in c.connect.new.self) =
    (subst (λ (o : Option Hconn). Onward (Watch c.args.monitor c.line_of-line.result ∷ []) (opens_of c.args.monitor c.line_of-line.result o) (course_in c.args.self.now) (course_in c.connect.new.self)) c.in-Ok-Some.field-0-is
    (connected c.args.monitor c.line_of-line.result c.in-Ok-Some.field-0 (course_in c.args.self.now) (course_in c.connect.new.self) c.requires.ready (sym c.watches.ensures ∙ c.if-watches.false) c.in-Ok-Some.ensures.told)) in
    by_line c.args.monitor c.line_of-line.result c.args.self.now.scenario.monitors (Ok tt) (course_in c.args.self.now) (course_in c.open.new.self)
    (line_at c.args.self.now c.args.monitor c.line_of-line.result c.requires.kept (ap (λ (w : NetState). slice_get w.monitors c.args.monitor) (sym c.self.view_is) ∙ c.line_of-line.ensures))
    (not_given c.args.monitor c.line_of-line.result (course_in c.args.self.now) (course_in c.open.new.self)
    (subst (λ (is : Bool). Onward (Watch c.args.monitor c.line_of-line.result ∷ []) (gives_up c.args.monitor c.line_of-line.result c.in-Ok-Some.connection is) (course_in c.args.self.now) (course_in c.open.new.self)) c.in-Ok-true.field-0-test
    (opened c.args.monitor c.line_of-line.result c.in-Ok-Some.connection c.in-Ok-true.field-0 (course_in c.args.self.now) (course_in c.connect.new.self) (course_in c.open.new.self) on c.in-Ok-true.ensures.told)))

pub returns-in-Ok-false-clause-told : goal.returns-in-Ok-false-clause-told
returns-in-Ok-false-clause-told g c =
    let on : Onward (Watch c.args.monitor c.line_of-line.result ∷ []) (Open c.args.monitor c.line_of-line.result c.in-Ok-Some.connection ∷ []) (course_in c.args.self.now) (course_in c.connect.new.self) =
    (subst (λ (o : Option Hconn). Onward (Watch c.args.monitor c.line_of-line.result ∷ []) (opens_of c.args.monitor c.line_of-line.result o) (course_in c.args.self.now) (course_in c.connect.new.self)) c.in-Ok-Some.field-0-is
    (connected c.args.monitor c.line_of-line.result c.in-Ok-Some.field-0 (course_in c.args.self.now) (course_in c.connect.new.self) c.requires.ready (sym c.watches.ensures ∙ c.if-watches.false) c.in-Ok-Some.ensures.told)) in
    by_line c.args.monitor c.line_of-line.result c.args.self.now.scenario.monitors c.leave.result (course_in c.args.self.now) (course_in c.leave.new.self)
    (line_at c.args.self.now c.args.monitor c.line_of-line.result c.requires.kept (ap (λ (w : NetState). slice_get w.monitors c.args.monitor) (sym c.self.view_is) ∙ c.line_of-line.ensures))
    (leaves c.args.monitor c.line_of-line.result c.in-Ok-Some.connection c.leave.result (course_in c.args.self.now) (course_in c.open.new.self) (course_in c.leave.new.self)
    (subst (λ (is : Bool). Onward (Watch c.args.monitor c.line_of-line.result ∷ []) (gives_up c.args.monitor c.line_of-line.result c.in-Ok-Some.connection is) (course_in c.args.self.now) (course_in c.open.new.self)) c.in-Ok-false.field-0-test
    (opened c.args.monitor c.line_of-line.result c.in-Ok-Some.connection c.in-Ok-false.field-0 (course_in c.args.self.now) (course_in c.connect.new.self) (course_in c.open.new.self) on c.in-Ok-false.ensures.told)) c.leave.ensures.told)

pub returns-in-Ok-false-clause-own : goal.returns-in-Ok-false-clause-own
returns-in-Ok-false-clause-own g c = λ is own. c.leave.ensures.own is (c.in-Ok-false.ensures.own is (c.in-Ok-Some.ensures.own is own))
