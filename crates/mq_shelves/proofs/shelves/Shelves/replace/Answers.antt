use Rattle.std.proofs.Common.{List}
use Rattle.std.specs.Prelude.{not}
use Rattle.mq_queue.specs.Rows.{has_ident}
use Rattle.mq_calls.specs.declared.image.Shelf.{Shelf}
use Rattle.mq_spec_log.specs.Shelves.{shelf_in, set_shelf, shelved_in, on_all, without_ident}
use Rattle.mq_shelves.specs.Holds.{noted_for, AreNoted}
use Rattle.mq_shelves.proofs.NotedLaws.{by_result, noted_kept, noted_put}
use Rattle.mq_shelves.proofs.shelves.Shelves.replace.Goals as goal

pub invariant_of-self : goal.invariant_of-self
invariant_of-self c =
    let noted = noted_for c.self.inside.holds in
    let less : List Shelf = on_all (without_ident c.args.message.ident) c.self.inside.rows in
    let were : AreNoted noted less = noted_kept noted c.self.inside.rows c.self.invariant (λ n row. not (has_ident c.args.message.ident row)) in
    by_result (AreNoted noted) c.replace.result c.replace.new.self (set_shelf (shelved_in c.args.lane c.args.message (shelf_in c.args.queue.now less)) less) less c.replace.ensures.ok c.replace.ensures.err
    (noted_put noted less were c.args.lane c.args.message c.args.queue.now) were
