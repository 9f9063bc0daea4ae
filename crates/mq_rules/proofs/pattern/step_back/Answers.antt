use Rattle.std.proofs.Common.{sym, subst, ℕ, ◌∷◌}
use Rattle.mq_rules.specs.Patterns.{AreLike}
use Rattle.mq_rules.proofs.PatternLemmas.{spread_like, pass_like}
use Rattle.mq_rules.proofs.pattern.step_back.Goals as goal

pub returns-then-byte-eq42 : goal.returns-then-byte-eq42
returns-then-byte-eq42 c = λ pattern h.
    subst (λ (b : ℕ). AreLike c.spread.new.places (b ∷ pattern) c.args.text.now) (sym c.if-byte-eq42.true) (spread_like c.args.places.now c.spread.new.places pattern c.args.text.now h c.spread.ensures.last c.spread.ensures.each)

pub returns-else-byte-eq42 : goal.returns-else-byte-eq42
returns-else-byte-eq42 c = λ pattern h. pass_like c.args.byte c.args.places.now c.pass_one.new.places pattern c.args.text.now c.if-byte-eq42.false h c.pass_one.ensures.last c.pass_one.ensures.each
