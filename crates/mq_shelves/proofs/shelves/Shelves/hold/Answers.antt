use Rattle.std.proofs.Common.{ℕ, List, ◌++◌, sym, ap, subst, ◌∙◌}
use Rattle.std.specs.Prelude.{Option}
use Rattle.std.specs.Str.{bytes_eq}
use Rattle.indexmap.specs.IndexMap.{get}
use Rattle.mq_message.specs.declared.message.Ident.{Ident}
use Rattle.mq_message.specs.declared.place.Holder.TheVariants as holders
use Rattle.mq_calls.specs.State.Which.{Among}
use Rattle.mq_spec_log.specs.Shelves.{on_all, held_rows}
use Rattle.mq_shelves.specs.Holds.{or_no_idents, noted_for, AreNoted}
use Rattle.mq_shelves.proofs.EachLaws.{held_all}
use Rattle.mq_shelves.proofs.NotedLaws.{noted_more, or_put}
use Rattle.mq_shelves.proofs.shelves.Shelves.hold.Goals as goal

pub invariant_of-self-2 : goal.invariant_of-self-2
invariant_of-self-2 c =
    let is = c.hold_each.ensures ∙ held_all c.args.queue.now (holders.Batch c.args.channel.now) c.args.idents.now c.self.inside.rows in
    subst (AreNoted (noted_for c.insert.new.self)) (sym is)
    (noted_more (noted_for c.self.inside.holds) (noted_for c.insert.new.self) c.args.channel.now c.in_ok-noted.noted c.args.idents.now
    (λ (other : List ℕ). ap or_no_idents (c.in_ok-insert.ensures.updates.0 other) ∙ or_put (bytes_eq c.args.channel.now other) c.in_ok-noted.noted (get bytes_eq c.self.inside.holds other))
    (c.in_ok-noted.ensures ∙ ap (λ (o : Option (List Ident)). or_no_idents o ++ c.args.idents.now) c.get.ensures.value) c.args.queue.now c.self.inside.rows c.self.invariant)

pub returns : goal.returns
returns c =
    c.hold_each.ensures ∙ held_all c.args.queue.now (holders.Batch c.args.channel.now) c.args.idents.now c.self.inside.rows
    ∙ ap (on_all (held_rows (Among c.args.queue.now c.args.idents.now) (holders.Batch c.args.channel.now))) c.self.view_is
