use Rattle.std.proofs.Common.{ap, sym, ◌∙◌}
use Rattle.mq_restarts.specs.Comings.{is_foreign}
use Rattle.mq_restarts.proofs.StepLaws.{still_down, still_far, still_own}
use Rattle.mq_restarts.proofs.coming.come_back.Goals as goal

pub returns-in-Err : goal.returns-in-Err
returns-in-Err g c = still_down g.D.Disk.tells c.args.read c.args.least c.args.parts.now c.reread.new.parts c.in-Err.e c.in-Err.ensures

pub returns-in-Err-come_far : goal.returns-in-Err-come_far
returns-in-Err-come_far g c =
    still_far g.D.Disk.tells c.args.read c.args.least c.args.parts.now c.reread.new.parts c.in-Ok.found c.in-Ok.ensures c.come_far.new.parts c.in-Err-come_far.e
    (sym (c.is_foreign.ensures ∙ ap is_foreign c.read_found.ensures) ∙ c.if-is_foreign.true) c.in-Err-come_far.ensures

pub returns-in-Err-come_own : goal.returns-in-Err-come_own
returns-in-Err-come_own g c =
    still_own g.D.Disk.tells c.args.read c.args.least c.args.parts.now c.reread.new.parts c.in-Ok.found c.in-Ok.ensures c.come_own.new.parts c.in-Err-come_own.e
    (sym (c.is_foreign.ensures ∙ ap is_foreign c.read_found.ensures) ∙ c.if-is_foreign.false) c.in-Err-come_own.ensures
