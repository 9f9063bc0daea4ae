use Rattle.std.proofs.Common.{sym, ◌∙◌}
use Rattle.mq_net_rows.specs.Homes.{home_of}
use Rattle.mq_net_books.proofs.GoneLaws.{ok_of, came}
use Rattle.mq_net_books.proofs.gone.Gone.push.Goals as goal

pub invariant_of-self-else-is_err-2 : goal.invariant_of-self-else-is_err-2
invariant_of-self-else-is_err-2 c =
    came (home_of c.self.inside.known) (home_of c.note_home.new.homes) c.self.inside.idents c.push.new.self c.args.ident.now 0 c.self.invariant
    (ok_of c.note_home.result (sym c.is_err-2.ensures.value ∙ c.if-is_err-2.false) c.note_home.ensures.home)
    (ok_of c.push.result (sym c.is_err.ensures.value ∙ c.if-is_err.false) c.push.ensures.ok)
