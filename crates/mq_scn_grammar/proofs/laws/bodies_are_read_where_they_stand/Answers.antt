use Rattle.mq_scn_script.specs.Bodies.{body_in}
use Rattle.mq_scn_grammar.specs.Bodies.{HasBodyFault}
use Rattle.mq_scn_grammar.proofs.Told.{value_found, value_read, fault_found, fault_read}
use Rattle.mq_scn_grammar.proofs.Bodies.{BodiesOf, body_tells}
use Rattle.mq_scn_grammar.proofs.laws.bodies_are_read_where_they_stand.Goals as goal

pub returns : goal.returns
returns c =
    record {
      found = λ left word body e. value_found (BodiesOf left word) (HasBodyFault left word) (body_in left word) body (body_tells left word) e;
      read = λ left word body h. value_read (BodiesOf left word) (HasBodyFault left word) (body_in left word) body (body_tells left word) h;
      refused = λ left word fault e. fault_found (BodiesOf left word) (HasBodyFault left word) (body_in left word) fault (body_tells left word) e;
      missed = λ left word fault h. fault_read (BodiesOf left word) (HasBodyFault left word) (body_in left word) fault (body_tells left word) h;
    }
