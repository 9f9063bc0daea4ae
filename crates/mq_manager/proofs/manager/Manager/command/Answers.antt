use Rattle.mq_manager.proofs.CallLaws.{kept_command}
use Rattle.mq_manager.proofs.manager.Manager.command.Goals as goal

pub invariant_of-self : goal.invariant_of-self
invariant_of-self g c = let e = c.command_that_fits.ensures in
    kept_command g.D.Disk.tells c.self.inside.read c.self.inside.core c.command_that_fits.new.core c.self.invariant c.args.asked.now c.command_that_fits.result c.requires.text e.unfit e.meets e.told

pub command_that_fits-requires : goal.command_that_fits-requires
command_that_fits-requires g c = record { once = c.self.invariant.well.rest.stocked.once }
