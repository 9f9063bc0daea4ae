use Rattle.std.proofs.Common.{◌≡◌, ℕ, List, Bool, None, cond, sym, ap, subst, ◌∙◌}
use Rattle.std.specs.Prelude.{Option}
use Rattle.std.specs.Str.{bytes_eq}
use Rattle.indexmap.specs.IndexMap.{get}
use Rattle.mq_message.specs.declared.message.Ident.{Ident}
use Rattle.mq_message.specs.declared.place.Holder.TheVariants as holders
use Rattle.mq_calls.specs.State.Which.{HeldBy}
use Rattle.mq_spec_log.specs.Shelves.{on_all, less_rows}
use Rattle.mq_shelves.specs.Holds.{removed_each, or_no_idents, noted_for, AreNoted}
use Rattle.mq_shelves.proofs.NotedLaws.{batch_gone, noted_left}
use Rattle.mq_shelves.proofs.shelves.Shelves.commit.Goals as goal

pub invariant_of-self : goal.invariant_of-self
invariant_of-self c =
    let noted = noted_for c.self.inside.holds in
    let is : c.remove_each.new.rows ≡ on_all (less_rows (HeldBy (holders.Batch c.args.channel.now))) c.self.inside.rows =
    c.remove_each.ensures ∙ ap (λ (xs : List Ident). removed_each (holders.Batch c.args.channel.now) xs c.self.inside.rows) (c.as_slice.ensures ∙ ap or_no_idents c.in-Some.ensures.value)
    ∙ batch_gone noted c.args.channel.now c.self.inside.rows c.self.invariant in
    subst (AreNoted (noted_for c.swap_remove.new.self)) (sym is)
    (noted_left noted (noted_for c.swap_remove.new.self) c.args.channel.now (λ (other : List ℕ) e. ap or_no_idents (c.swap_remove.ensures.updates.0 other ∙ ap (λ (b : Bool). cond b None (get bytes_eq c.self.inside.holds other)) e)) c.self.inside.rows c.self.invariant)

pub invariant_of-self-in_default : goal.invariant_of-self-in_default
invariant_of-self-in_default c =
    let noted = noted_for c.self.inside.holds in
    let is : c.self.inside.rows ≡ on_all (less_rows (HeldBy (holders.Batch c.args.channel.now))) c.self.inside.rows =
    ap (λ (o : Option (List Ident)). removed_each (holders.Batch c.args.channel.now) (or_no_idents o) c.self.inside.rows) c.in_default.ensures.value
    ∙ batch_gone noted c.args.channel.now c.self.inside.rows c.self.invariant in
    subst (AreNoted (noted_for c.swap_remove.new.self)) (sym is)
    (noted_left noted (noted_for c.swap_remove.new.self) c.args.channel.now (λ (other : List ℕ) e. ap or_no_idents (c.swap_remove.ensures.updates.0 other ∙ ap (λ (b : Bool). cond b None (get bytes_eq c.self.inside.holds other)) e)) c.self.inside.rows c.self.invariant)

pub returns-in-Some : goal.returns-in-Some
returns-in-Some c =
    c.remove_each.ensures ∙ ap (λ (xs : List Ident). removed_each (holders.Batch c.args.channel.now) xs c.self.inside.rows) (c.as_slice.ensures ∙ ap or_no_idents c.in-Some.ensures.value)
    ∙ batch_gone (noted_for c.self.inside.holds) c.args.channel.now c.self.inside.rows c.self.invariant ∙ ap (on_all (less_rows (HeldBy (holders.Batch c.args.channel.now)))) c.self.view_is

pub returns-in_default : goal.returns-in_default
returns-in_default c =
    ap (λ (o : Option (List Ident)). removed_each (holders.Batch c.args.channel.now) (or_no_idents o) c.self.inside.rows) c.in_default.ensures.value
    ∙ batch_gone (noted_for c.self.inside.holds) c.args.channel.now c.self.inside.rows c.self.invariant ∙ ap (on_all (less_rows (HeldBy (holders.Batch c.args.channel.now)))) c.self.view_is
