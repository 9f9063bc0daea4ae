use Rattle.std.proofs.lemmas.Result.{err_from_is_err_and}
use Rattle.mq_frame.specs.declared.fault.Stop.TheVariants as stops
use Rattle.mq_frame.specs.Reading.{ident_at}
use Rattle.mq_record.specs.Reading.{several_at}
use Rattle.mq_record.proofs.LoopLaws.{goes_on, ends, is_done}
use Rattle.mq_record.proofs.lists.several_idents.Goals as goal

pub returns-in_err-ident : goal.returns-in_err-ident
returns-in_err-ident c =
    let p = err_from_is_err_and c.from_residual.result c.from_residual.ensures.1 in
    rw (p.1, p.2) (ends ident_at (stops.Miss c.in_err-ident.field-0.0) c.idents.idents c.args.count c.idents.counter c.idents.rest.now (several_at ident_at c.args.count c.args.bytes.now) c.idents-test.true c.in_err-ident.ensures c.idents.invariant)

pub idents-preserved : goal.idents-preserved
idents-preserved c =
    rw c.in_ok-push.ensures.ok (goes_on ident_at c.idents.idents c.args.count c.idents.counter c.idents.rest.now c.in_ok-ident.ident c.in_ok-ident.after.now (several_at ident_at c.args.count c.args.bytes.now) c.idents-test.true c.in_ok-ident.ensures c.idents.invariant)

pub returns : goal.returns
returns c = is_done ident_at c.idents.idents c.args.count c.idents.counter c.idents.rest.now (several_at ident_at c.args.count c.args.bytes.now) c.idents-test.false c.idents.invariant
