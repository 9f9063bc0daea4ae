use Rattle.std.proofs.Common.{ℕ, List, ap, ◌∙◌}
use Rattle.mq_core.specs.Views.{plain_of}
use Rattle.mq_watch.specs.Looks.{queue_fits}
use Rattle.mq_watch.proofs.LookLaws.{found_fits}
use Rattle.mq_watch.proofs.looking.handle_fits.Goals as goal

pub returns : goal.returns
returns g c =
    c.queue_fits.ensures
    ∙ ap (λ (q : List ℕ). queue_fits q (plain_of c.args.parts.now)) c.queue_at.ensures
    ∙ found_fits c.args.handle.now (plain_of c.args.parts.now)
