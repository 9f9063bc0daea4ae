use Rattle.std.proofs.Common.{sym}
use Rattle.mq_queue.specs.Rows.{has_ident}
use Rattle.mq_queue.proofs.Edits.{none_found, none_goes, some_taken, some_left, by_ident}
use Rattle.mq_queue.proofs.rows.take_row.Goals as goal

pub returns-in-None-clause-found : goal.returns-in-None-clause-found
returns-in-None-clause-found c = sym (none_found (has_ident c.args.ident.now) c.args.rows.now.items (sym c.in-None.ensures))

pub returns-in-None-clause-rows : goal.returns-in-None-clause-rows
returns-in-None-clause-rows c = none_goes (has_ident c.args.ident.now) c.args.rows.now.items (sym c.in-None.ensures)

pub returns-in-Some-clause-found : goal.returns-in-Some-clause-found
returns-in-Some-clause-found c =
    some_taken (has_ident c.args.ident.now) c.args.rows.now.items _ c.in-Some.at c.remove.result c.args.rows.now.ok.0 (sym c.in-Some.ensures) c.remove.ensures.variant c.remove.ensures.value

pub returns-in-Some-clause-rows : goal.returns-in-Some-clause-rows
returns-in-Some-clause-rows c =
    some_left (has_ident c.args.ident.now) c.args.rows.now.items _ _ c.in-Some.at c.remove.result c.args.rows.now.ok.0 (sym c.in-Some.ensures) c.remove.ensures.variant c.remove.ensures.items (by_ident c.args.ident.now c.args.rows.now.items c.requires.distinct)
