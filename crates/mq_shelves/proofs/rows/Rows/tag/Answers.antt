use Rattle.std.proofs.Common.{sym, ap, ◌∙◌}
use Rattle.std.specs.BTreeMap.{is_at}
use Rattle.mq_spec_log.specs.Shelves.{on_all}
use Rattle.mq_shelves.specs.Spots.{spot_of}
use Rattle.mq_shelves.specs.Racks.{stand_cmp, shelves_of, tagged}
use Rattle.mq_shelves.proofs.ChangeLaws.{held}
use Rattle.mq_shelves.proofs.RackLaws.{stood, racks_held}
use Rattle.mq_shelves.proofs.FoundLaws.{nothing_tagged}
use Rattle.mq_shelves.proofs.rows.Rows.tag.Goals as goal

pub invariant_of-self : goal.invariant_of-self
invariant_of-self c =
    let sp = c.in-Some.spot in
    let s = stood c.self.inside.racks c.args.ident.now (spot_of c.self.inside.spots c.args.ident.now) sp (sym c.in-Some.ensures) in
    racks_held (spot_of c.self.inside.spots) c.self.inside.next sp.queue s.rows c.self.inside.racks c.hold.new.self c.self.invariant s.found c.hold.ensures.named (is_at (stand_cmp sp.stand)) c.args.by s.row s.there
    (c.hold.ensures.racks s.rows s.row s.found s.there)

pub returns-in-Some : goal.returns-in-Some
returns-in-Some c =
    let sp = c.in-Some.spot in
    let s = stood c.self.inside.racks c.args.ident.now (spot_of c.self.inside.spots c.args.ident.now) sp (sym c.in-Some.ensures) in
    ap shelves_of (c.hold.ensures.racks s.rows s.row s.found s.there)
    ∙ held (spot_of c.self.inside.spots) c.self.inside.next c.args.ident.now sp s.noted s.row s.has s.rows s.there c.self.inside.racks c.self.invariant.named c.self.invariant.each s.found c.args.by
    ∙ ap (on_all (tagged c.args.ident.now c.args.by)) c.self.view_is

pub returns-in_default : goal.returns-in_default
returns-in_default c =
    sym c.self.view_is ∙ nothing_tagged (spot_of c.self.inside.spots) c.self.inside.next c.args.ident.now c.self.inside.racks c.self.invariant c.args.by (sym c.in_default.ensures)
    ∙ ap (on_all (tagged c.args.ident.now c.args.by)) c.self.view_is
