use Rattle.std.proofs.Common.{◌≡◌, ℕ, ◌+◌, ◌-◌, List, length, refl, sym, ap, ◌∙◌, arith}
use Rattle.mq_text.specs.Lines.{lines_of}
use Rattle.mq_sc_lex.specs.declared.joining.Joining.{Joining}
use Rattle.mq_sc_lex.specs.Joining.{line_added, joined_of}
use Rattle.mq_sc_lex.proofs.JoinLaws.{goes_on, line_more, fresh_more, next_place}
use Rattle.mq_sc_lex.proofs.joining.join_lines.Goals as goal

pub reading-init : goal.reading-init
unfolding joined_of
reading-init c =
    let none : length c.args.text.now - length c.args.text.now ≡ 0 = omega arith in
    record {
      shorter = omega arith;
      numbers = omega arith;
      fresh = c.new-2.ensures;
      so_far = rw (c.new.ensures, none) refl;
    }

pub reading-preserved : goal.reading-preserved
reading-preserved c =
    let s : Joining = c.reading.joining in
    let at : ℕ = length c.args.text.now - length c.reading.rest.now in
    let bytes : List ℕ = c.in-Some.bytes.now in
    let after : List ℕ = c.in-Some.after.now in
    let next : Joining = line_added c.reading.number at bytes s in
    let whole : goes_on next (c.reading.number + 1) (length c.args.text.now - length after) (lines_of after) ≡ joined_of c.args.text.now =
    next_place next (c.reading.number + 1) (length c.args.text.now) (length bytes) (length after) (length c.reading.rest.now) after c.in-Some.ensures.whole refl c.reading.invariant.shorter
    ∙ line_more s c.reading.number at bytes (lines_of after) c.reading.invariant.fresh
    ∙ ap (goes_on s c.reading.number at) (sym c.in-Some.ensures.line)
    ∙ c.reading.invariant.so_far in
    record {
      shorter = omega (arith, c.in-Some.ensures.shorter);
      numbers = omega (arith, c.in-Some.ensures.shorter);
      fresh = rw c.in_ok-add_line.ensures (fresh_more s c.reading.number at bytes c.reading.invariant.fresh);
      so_far = rw c.in_ok-add_line.ensures whole;
    }
