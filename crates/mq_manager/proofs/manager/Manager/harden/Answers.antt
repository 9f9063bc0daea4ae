use Rattle.std.proofs.Common.{sym, subst}
use Rattle.mq_spec_manager.specs.Agents.{IsUp, CanHarden}
use Rattle.mq_receive.specs.from_core.Values.{CoreValue}
use Rattle.mq_receive.specs.from_agents.Ends.{by_agent}
use Rattle.mq_manager.proofs.CallLaws.{kept_hardened}
use Rattle.mq_manager.proofs.manager.Manager.harden.Goals as goal

pub harden_note-requires-clause-sound : goal.harden_note-requires-clause-sound
harden_note-requires-clause-sound g c = (c.self.invariant.well.up (subst (λ (v : CoreValue). IsUp v.plain) (sym c.self.view_is) c.requires.up)).facts

pub harden_note-requires-clause-named : goal.harden_note-requires-clause-named
harden_note-requires-clause-named g c = (c.self.invariant.well.up (subst (λ (v : CoreValue). IsUp v.plain) (sym c.self.view_is) c.requires.up)).named

pub harden_note-requires-clause-can : goal.harden_note-requires-clause-can
harden_note-requires-clause-can g c = subst (λ (v : CoreValue). CanHarden c.args.channel.now c.args.note.now v.plain) (sym c.self.view_is) c.requires.can

pub invariant_of-self : goal.invariant_of-self
invariant_of-self g c = kept_hardened g.D.Disk.tells c.self.inside.read c.self.inside.core c.harden_note.new.core c.self.invariant (subst (λ (v : CoreValue). IsUp v.plain) (sym c.self.view_is) c.requires.up) c.args.channel.now c.args.note.now (by_agent c.harden_note.result) c.log_is_bytes.ensures (subst (λ (v : CoreValue). CanHarden c.args.channel.now c.args.note.now v.plain) (sym c.self.view_is) c.requires.can) c.harden_note.ensures.unfit c.harden_note.ensures.meets c.harden_note.ensures.told
