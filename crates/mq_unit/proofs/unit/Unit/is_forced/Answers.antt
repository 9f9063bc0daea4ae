use Rattle.std.proofs.Common.{ap, ◌∙◌, not, nat_eq}
use Rattle.mq_record.specs.from_calls.{Item}
use Rattle.std.specs.Prelude.{List, is_some}
use Rattle.mq_spec_manager.specs.Units.{adds_of, removes_of, record_of}
use Rattle.mq_unit.proofs.UnitLaws.{is_forced}
use Rattle.mq_unit.proofs.unit.Unit.is_forced.Goals as goal

pub returns : goal.returns
returns c = ap (λ n. not (nat_eq n 0)) c.self.invariant.counted ∙ is_forced c.self.inside.items ∙ ap (λ (u : List Item). is_some (record_of (adds_of u) (removes_of u))) c.self.view_is
