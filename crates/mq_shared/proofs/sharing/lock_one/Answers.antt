use Rattle.std.proofs.Common.{List, subst, sym}
use Rattle.mq_split.specs.Ends.{AreFree, EndsApart}
use Rattle.mq_shared.specs.Held.{cables_begun}
use Rattle.mq_split.specs.Parting.{AreEndsAt, ends_named, none_since}
use Rattle.mq_split.specs.Took.{EndState}
use Rattle.mq_shared.proofs.TakeLaws.{lock_kept}
use Rattle.mq_shared.proofs.sharing.lock_one.Goals as goal

pub new-requires-clause-kept : goal.new-requires-clause-kept
new-requires-clause-kept g c =
    let s = c.args.scenario.now in
    let b = g.P.PhaseName.begun in
    let is = c.into_items-ends.ensures in
    lock_kept (record { scenario = s; scripts = c.args.scripts.now }) b c.args.manager c.args.node c.into_items-ends.result c.hold_scripts-held.result c.requires.begins c.requires.there
    (subst (λ (es : List EndState). AreEndsAt (cables_begun b) none_since (ends_named s.cables) c.args.manager es) (sym is) c.requires.ends.0)
    (subst (λ (es : List EndState). EndsApart es) (sym is) c.requires.ends.1)
    (subst (λ (es : List EndState). AreFree es) (sym is) c.requires.ends.2)
    c.hold_scripts-held.ensures.named c.hold_scripts-held.ensures.each
