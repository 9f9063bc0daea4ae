use Rattle.std.proofs.Common.{refl, sym, ap, ◌∙◌}
use Rattle.std.specs.Prelude.{[], None}
use Rattle.mq_calls.specs.declared.answers.GetAnswer.TheVariants.{NotYet}
use Rattle.mq_core.specs.Views.{PartsValue, plain_of}
use Rattle.mq_get.specs.Does.{seen}
use Rattle.mq_get.proofs.DoesLaws.{say_meets}
use Rattle.mq_get.proofs.WayLaws.{none_under, none_waits, none_there}
use Rattle.mq_get.proofs.getting.get_none.Goals as goal

pub returns-then-is_under : goal.returns-then-is_under
returns-then-is_under g c = none_under _ _ _ _ _ _ _ (sym c.is_under.ensures ∙ c.if-is_under.true) c.answer_behind.ensures

pub returns-then-is_waiting : goal.returns-then-is_waiting
returns-then-is_waiting g c = none_waits _ _ _ _ _ _ _ (sym c.is_under.ensures ∙ c.if-is_under.false) (sym (c.is_waiting.ensures (plain_of c.args.parts.now) (sym (ap (λ (x : PartsValue). x.moment) c.parts.view_is))) ∙ c.if-is_waiting.true) (record { tied = c.requires.tied; meets = say_meets NotYet (seen c.args.parts.now [] None) (seen c.args.parts.now c.args.effects.now.dids None) refl c.requires.told refl refl refl refl })

pub returns : goal.returns
returns g c = none_there _ _ _ _ _ _ _ (sym c.is_under.ensures ∙ c.if-is_under.false) (sym (c.is_waiting.ensures (plain_of c.args.parts.now) (sym (ap (λ (x : PartsValue). x.moment) c.parts.view_is))) ∙ c.if-is_waiting.false) c.answer_behind-2.ensures
