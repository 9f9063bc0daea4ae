use Rattle.std.proofs.Common.{List, ap, arith, ◌∙◌}
use Rattle.std.specs.List.{list_any}
use Rattle.mq_message.specs.declared.message.Ident.{Ident}
use Rattle.mq_queue.specs.Rows.{same_ident}
use Rattle.mq_sync.specs.Settlement.{data_prepared, sender_or}
use Rattle.mq_calls.specs.declared.state.SenderSide.{SenderSide}
use Rattle.mq_calls.specs.Reads.{sender_in}
use Rattle.mq_calls.specs.Changes.{set_sender}
use Rattle.mq_recover.specs.Kept.{is_known, struck_at}
use Rattle.mq_recover.proofs.StrikeLaws.{on_ok, low_same, each_later, each_listed, sides_same}
use Rattle.mq_recover.proofs.senders.Senders.prepare.Goals as goal

pub invariant_of-self : goal.invariant_of-self
invariant_of-self c = record {
  low = low_same (struck_at c.self.inside.struck) (struck_at c.know_each.new.struck) c.self.inside.clock c.know_each.ensures.same c.self.invariant.low;
  each = each_later (is_known c.self.inside.struck) (is_known c.know_each.new.struck) c.self.inside.clock c.self.inside.clock c.know_each.ensures.kept (omega arith) c.self.inside.sides.entries c.self.invariant.each;
}

pub invariant_of-self-2 : goal.invariant_of-self-2
invariant_of-self-2 c =
    let listed = each_listed (is_known c.know_each.new.struck) c.args.doubt.idents (λ other e. c.in_ok-know_each.ensures.known other (ap (list_any (λ (i : Ident). same_ident i other)) c.as_slice.ensures ∙ e)) in
    let were = each_later (is_known c.self.inside.struck) (is_known c.know_each.new.struck) c.self.inside.clock c.self.inside.clock c.know_each.ensures.kept (omega arith) c.self.inside.sides.entries c.self.invariant.each in
    record {
      low = low_same (struck_at c.self.inside.struck) (struck_at c.know_each.new.struck) c.self.inside.clock c.know_each.ensures.same c.self.invariant.low;
      each = c.prepare.ensures.kept (is_known c.know_each.new.struck) listed were;
    }

pub returns : goal.returns
returns c =
    let low = low_same (struck_at c.self.inside.struck) (struck_at c.know_each.new.struck) c.self.inside.clock c.know_each.ensures.same c.self.invariant.low in
    let seen = sides_same (struck_at c.self.inside.struck) (struck_at c.know_each.new.struck) c.know_each.ensures.same c.self.inside.sides.entries ∙ c.self.view_is in
    on_ok c.prepare.result c.prepare.ensures.ok (λ f. f (struck_at c.know_each.new.struck) low
    ∙ ap (λ (ss : List SenderSide). set_sender (record { channel = c.args.channel; hardened = data_prepared c.args.doubt (sender_or (sender_in c.args.channel ss)) }) ss) seen)
