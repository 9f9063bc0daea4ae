use Rattle.std.proofs.Common.{◌≡◌, true, false, [], ◌∷◌, sym, subst, arith}
use Rattle.std.specs.Prelude.{not}
use Rattle.mq_calls.specs.State.Which.{Among}
use Rattle.mq_calls.specs.Changes.{selects}
use Rattle.mq_shelves.specs.Holds.{noted_for, AreNoted}
use Rattle.mq_shelves.proofs.NotedLaws.{noted_kept}
use Rattle.mq_shelves.proofs.shelves.Shelves.take.Goals as goal

pub invariant_of-self : goal.invariant_of-self
invariant_of-self c =
    let none : c.take.result ≡ false = grind arith in
    subst (AreNoted (noted_for c.self.inside.holds)) (sym (c.take.ensures.kept none)) c.self.invariant

pub invariant_of-self-2 : goal.invariant_of-self-2
invariant_of-self-2 c =
    let stood : c.take.result ≡ true = grind arith in
    subst (AreNoted (noted_for c.self.inside.holds)) (sym (c.take.ensures.taken stood)) (noted_kept (noted_for c.self.inside.holds) c.self.inside.rows c.self.invariant (λ n row. not (selects (Among c.args.queue.now (c.args.ident.now ∷ [])) n row)))
