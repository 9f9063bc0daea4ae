use Rattle.std.proofs.Common.{◌≡◌, ℕ, ◌+◌, ◌∙◌, ap, arith}
use Rattle.std.specs.Prelude.{length, ◌*◌}
use Rattle.mq_calls.specs.Words.{is_full}
use Rattle.mq_core.specs.Views.{plain_of}
use Rattle.mq_agents.proofs.preparing.is_batch_full.Goals as goal

pub returns-clause-full : goal.returns-clause-full
returns-clause-full g c = λ channel last.
    let n : 98 + 17 * c.len-2.result ≡ 5 + (93 + 17 * length c.args.batch.now.idents) = omega (arith, c.len-2.ensures) in
    c.is_full.ensures ∙ ap (λ (bytes : ℕ). is_full bytes (plain_of c.args.parts.now)) n
