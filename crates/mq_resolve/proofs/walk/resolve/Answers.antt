use Rattle.std.proofs.Common.{sym, subst}
use Rattle.mq_resolve.proofs.Laws.{RouteStands, resolve-stands}
use Rattle.mq_resolve.proofs.walk.resolve.Goals as goal

pub returns-clause-end : goal.returns-clause-end
returns-clause-end c =
    subst (RouteStands c.args.defs.now.definitions) (sym c.walk_from.ensures) (resolve-stands c.args.defs.now.definitions c.args.own.now c.args.name.now c.args.manager.now)
