use Rattle.std.proofs.Common.{rules, refl, ◌∙◌}
use Rattle.mq_recover.specs.Kept.{is_known}
use Rattle.mq_recover.proofs.StrikeLaws.{note_step, note_kept}
use Rattle.mq_recover.proofs.strikes.know_each.Goals as goal

pub loop-ident-init : goal.loop-ident-init
loop-ident-init c = record { known = λ other. refl; kept = λ other e. e; same = λ other. refl }

pub loop-ident-preserved : goal.loop-ident-preserved
loop-ident-preserved c = record {
  known = note_step c.args.idents.now c.loop-ident.ident-index _ (is_known c.args.struck.now) (is_known c.loop-ident.struck) (is_known c.know.new.struck) c.loop-ident-test.true (search rules) c.in_ok-know.ensures.known c.loop-ident.invariant.known;
  kept = λ other e. note_kept _ other (is_known c.loop-ident.struck) (is_known c.know.new.struck) (c.in_ok-know.ensures.known other) (c.loop-ident.invariant.kept other e);
  same = λ other. c.know.ensures.same other ∙ c.loop-ident.invariant.same other;
}
