use Rattle.std.proofs.Common.{◌≡◌, ℕ, ◌+◌, sym, ap, arith, ◌∙◌}
use Rattle.std.specs.Prelude.{if◌then◌else◌}
use Rattle.mq_message.specs.declared.message.Ident.{Ident}
use Rattle.mq_queue.specs.Rows.{same_ident}
use Rattle.mq_calls.specs.Changes.{off_lists}
use Rattle.mq_recover.specs.Kept.{is_known, struck_at}
use Rattle.mq_recover.proofs.StrikeLaws.{unlisted, low_same, each_later, struck_off, still_low, kept_more}
use Rattle.mq_recover.proofs.senders.Senders.strike.Goals as goal

pub returns-then-not-is_known : goal.returns-then-not-is_known
returns-then-not-is_known c =
    let un = sym c.is_known.ensures ∙ c.if-not-is_known.true in
    sym c.self.view_is ∙ unlisted (is_known c.self.inside.struck) c.self.inside.clock (struck_at c.self.inside.struck) c.args.ident.now un c.self.inside.sides.entries c.self.invariant.each
    ∙ ap (off_lists c.args.ident.now) c.self.view_is

pub invariant_of-self : goal.invariant_of-self
invariant_of-self c = record {
  low = low_same (struck_at c.self.inside.struck) (struck_at c.strike.new.struck) c.self.inside.clock c.in_err-strike.ensures.unstruck c.self.invariant.low;
  each = each_later (is_known c.self.inside.struck) (is_known c.strike.new.struck) c.self.inside.clock c.self.inside.clock (λ i e. c.in_err-strike.ensures.unknown i ∙ e) (omega arith) c.self.inside.sides.entries c.self.invariant.each;
}

pub invariant_of-self-2 : goal.invariant_of-self-2
invariant_of-self-2 c =
    let next : c.in-Some.number ≡ c.self.inside.clock + 1 = grind arith in
    let is = λ (i : Ident). c.in_ok-strike.ensures.struck i ∙ ap (λ (n : ℕ). if same_ident c.args.ident.now i then n else struck_at c.self.inside.struck i) next in
    record {
      low = λ i. rw next (still_low (struck_at c.self.inside.struck) (struck_at c.strike.new.struck) c.self.inside.clock c.args.ident.now is c.self.invariant.low i);
      each = each_later (is_known c.self.inside.struck) (is_known c.strike.new.struck) c.self.inside.clock c.in-Some.number
          (kept_more (is_known c.self.inside.struck) (is_known c.strike.new.struck) c.args.ident.now c.in_ok-strike.ensures.known) (omega (arith, next)) c.self.inside.sides.entries c.self.invariant.each;
    }

pub returns : goal.returns
returns c =
    let next : c.in-Some.number ≡ c.self.inside.clock + 1 = grind arith in
    let is = λ (i : Ident). c.in_ok-strike.ensures.struck i ∙ ap (λ (n : ℕ). if same_ident c.args.ident.now i then n else struck_at c.self.inside.struck i) next in
    struck_off (struck_at c.self.inside.struck) (struck_at c.strike.new.struck) c.self.inside.clock c.args.ident.now is (is_known c.self.inside.struck) c.self.inside.sides.entries c.self.invariant.each
    ∙ ap (off_lists c.args.ident.now) c.self.view_is
