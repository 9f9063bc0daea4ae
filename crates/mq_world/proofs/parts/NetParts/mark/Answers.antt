use Rattle.std.specs.Prelude.{length, refl, slice_get}
use Rattle.std.proofs.Common.{sym, ap, subst, ◌∙◌}
use Rattle.mq_watch.specs.from_events.States.{marked}
use Rattle.mq_world.specs.Worlds.{IsNetwork, NetState, course_in}
use Rattle.mq_world.proofs.ListLaws.{long_map}
use Rattle.mq_world.proofs.MarkLaws.{has_room, marked_so, marks_keep, marks_lift}
use Rattle.mq_world.proofs.OwnLaws.{marked_own}
use Rattle.mq_world.proofs.RestLaws.{carried_net}
use Rattle.mq_world.proofs.parts.NetParts.mark.Goals as goal

pub mark_all-requires : goal.mark_all-requires
mark_all-requires g c = record { room = λ m n known. has_room c.args.self.now m n c.requires.kept c.requires.room (ap (λ (w : NetState). slice_get w.nodes m) (sym c.self.view_is) ∙ known) }

pub returns-clause-kept : goal.returns-clause-kept
returns-clause-kept g c =
    subst IsNetwork (sym (marked_so c.args.idle c.mark_all.new.nodes c.self.view_is c.mark_all.ensures refl))
    (marks_keep c.args.self.now c.args.idle c.requires.kept c.requires.room)

pub returns-clause-noted : goal.returns-clause-noted
returns-clause-noted g c =
    ap course_in (marked_so c.args.idle c.mark_all.new.nodes c.self.view_is c.mark_all.ensures refl)
    ∙ marks_lift c.args.self.now c.args.idle c.requires.kept

pub returns-clause-carried : goal.returns-clause-carried
returns-clause-carried g c = carried_net c.args.self.now c.requires.kept

pub returns-clause-long : goal.returns-clause-long
returns-clause-long g c =
    ap (λ (w : NetState). length w.nodes) (marked_so c.args.idle c.mark_all.new.nodes c.self.view_is c.mark_all.ensures refl)
    ∙ long_map (marked c.args.idle) c.args.self.now.nodes

pub returns-clause-own : goal.returns-clause-own
returns-clause-own g c = λ is. marked_own c.args.self.now _ c.args.idle (returns-clause-kept g c) (returns-clause-noted g c)
