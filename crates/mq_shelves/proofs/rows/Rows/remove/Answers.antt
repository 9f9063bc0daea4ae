use Rattle.std.proofs.Common.{sym, ap, ◌∙◌}
use Rattle.std.specs.BTreeMap.{is_at}
use Rattle.mq_spec_log.specs.Shelves.{on_all, without_ident}
use Rattle.mq_shelves.specs.Spots.{spot_of}
use Rattle.mq_shelves.specs.Racks.{stand_cmp, shelves_of}
use Rattle.mq_shelves.proofs.ChangeLaws.{gone}
use Rattle.mq_shelves.proofs.RackLaws.{stood, racks_less}
use Rattle.mq_shelves.proofs.FoundLaws.{nothing_gone}
use Rattle.mq_shelves.proofs.rows.Rows.remove.Goals as goal

pub invariant_of-self : goal.invariant_of-self
invariant_of-self c =
    let sp = c.in-Some.spot in
    let s = stood c.self.inside.racks c.args.ident.now (spot_of c.self.inside.spots c.args.ident.now) sp (sym c.in-Some.ensures) in
    racks_less (spot_of c.self.inside.spots) c.self.inside.next sp.queue s.rows c.self.inside.racks c.take.new.self c.self.invariant s.found c.take.ensures.named (is_at (stand_cmp sp.stand))
    (c.take.ensures.racks s.rows s.found) (c.take.ensures.apart s.rows s.found)

pub returns-in-Some : goal.returns-in-Some
returns-in-Some c =
    let sp = c.in-Some.spot in
    let s = stood c.self.inside.racks c.args.ident.now (spot_of c.self.inside.spots c.args.ident.now) sp (sym c.in-Some.ensures) in
    ap shelves_of (c.take.ensures.racks s.rows s.found)
    ∙ gone (spot_of c.self.inside.spots) c.self.inside.next c.args.ident.now sp s.noted s.row s.has s.rows s.there c.self.inside.racks c.self.invariant.named c.self.invariant.each s.found
    ∙ ap (on_all (without_ident c.args.ident.now)) c.self.view_is

pub returns-in_default : goal.returns-in_default
returns-in_default c =
    sym c.self.view_is ∙ nothing_gone (spot_of c.self.inside.spots) c.self.inside.next c.args.ident.now c.self.inside.racks c.self.invariant (sym c.in_default.ensures)
    ∙ ap (on_all (without_ident c.args.ident.now)) c.self.view_is
