use Rattle.std.proofs.Common.{List, Option, ap, sym, ◌∙◌}
use Rattle.mq_queue.specs.declared.row.Row.{Row}
use Rattle.mq_spec_network.specs.Ledger.{row_in}
use Rattle.mq_net_rows.specs.Homes.{home_of}
use Rattle.mq_net_rows.specs.Stored.{row_at, its_row, shelves_of}
use Rattle.mq_net_rows.proofs.QueueLaws.{row_none, row_some, queues_found}
use Rattle.mq_net_rows.proofs.shelves.Shelves.row.Goals as goal

pub returns-then-self : goal.returns-then-self
returns-then-self c =
    c.queues_row.ensures ∙ queues_found c.args.ident.now c.as_slice.result.now c.as_slice-then-self.result.now ∙ ap (row_in c.args.ident.now) (ap (λ (st : List (Option Row)). shelves_of st c.as_slice-then-self.result.now) c.as_slice.ensures ∙ ap (shelves_of c.self.inside.store) c.as_slice-then-self.ensures ∙ c.self.view_is)

pub returns-in-None : goal.returns-in-None
returns-in-None c = row_none c.self.inside.store c.self.inside.queues (home_of c.self.inside.homes) c.self.inside.doubled c.args.self.now c.self.invariant c.self.view_is c.args.ident.now c.if-self.false (sym c.home_of.ensures ∙ c.in-None.is)

pub returns-in-Some : goal.returns-in-Some
returns-in-Some c =
    c.of_ident.ensures ∙ ap (its_row c.args.ident.now) (c.row_at.ensures ∙ ap (λ (st : List (Option Row)). row_at st c.in-Some.at) c.as_slice-in-Some.ensures)
    ∙ row_some c.self.inside.store c.self.inside.queues (home_of c.self.inside.homes) c.self.inside.doubled c.args.self.now c.self.invariant c.self.view_is c.args.ident.now c.in-Some.at c.if-self.false (sym c.home_of.ensures ∙ c.in-Some.is)
