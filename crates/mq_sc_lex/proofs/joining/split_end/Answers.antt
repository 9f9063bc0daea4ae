use Rattle.std.proofs.Common.{◌<◌, get_or, ◌-◌, arith, sym, ap, ◌∙◌}
use Rattle.mq_sc_lex.specs.Joining.{sign, is_sign}
use Rattle.mq_sc_lex.proofs.EndLaws.{blanks_end, blanks_body, trimmed_ending, trimmed_sign, trimmed_other, other_sign}
use Rattle.mq_sc_lex.proofs.joining.split_end.Goals as goal

pub returns-then-len-eq0-clause-ending : goal.returns-then-len-eq0-clause-ending
returns-then-len-eq0-clause-ending c = sym (blanks_end c.args.bytes.now (rw c.if-len-eq0.true at c.trimmed_len-len.ensures.blanks))

pub returns-then-len-eq0-clause-body : goal.returns-then-len-eq0-clause-body
returns-then-len-eq0-clause-body c = sym (blanks_body c.args.bytes.now (rw c.if-len-eq0.true at c.trimmed_len-len.ensures.blanks))

pub returns-in-43-clause-ending : goal.returns-in-43-clause-ending
returns-in-43-clause-ending c =
    let some : 0 < c.trimmed_len-len.result = omega arith in
    sym (trimmed_ending c.args.bytes.now c.trimmed_len-len.result c.trimmed_len-len.ensures some ∙ ap sign c.in-43.is)

pub returns-in-43-clause-body : goal.returns-in-43-clause-body
returns-in-43-clause-body c =
    let some : 0 < c.trimmed_len-len.result = omega arith in
    c.split_at.ensures.front ∙ sym (trimmed_sign c.args.bytes.now c.trimmed_len-len.result c.trimmed_len-len.ensures some (ap is_sign c.in-43.is))

pub returns-in-45-clause-ending : goal.returns-in-45-clause-ending
returns-in-45-clause-ending c =
    let some : 0 < c.trimmed_len-len.result = omega arith in
    sym (trimmed_ending c.args.bytes.now c.trimmed_len-len.result c.trimmed_len-len.ensures some ∙ ap sign c.in-45.is)

pub returns-in-45-clause-body : goal.returns-in-45-clause-body
returns-in-45-clause-body c =
    let some : 0 < c.trimmed_len-len.result = omega arith in
    c.split_at.ensures.front ∙ sym (trimmed_sign c.args.bytes.now c.trimmed_len-len.result c.trimmed_len-len.ensures some (ap is_sign c.in-45.is))

pub returns-in_default-clause-ending : goal.returns-in_default-clause-ending
returns-in_default-clause-ending c =
    let some : 0 < c.trimmed_len-len.result = omega arith in
    let other = other_sign (get_or c.args.bytes.now (c.trimmed_len-len.result - 1) 0) (omega arith) (omega arith) in
    sym (trimmed_ending c.args.bytes.now c.trimmed_len-len.result c.trimmed_len-len.ensures some ∙ other.0)

pub returns-in_default-clause-body : goal.returns-in_default-clause-body
returns-in_default-clause-body c =
    let some : 0 < c.trimmed_len-len.result = omega arith in
    let other = other_sign (get_or c.args.bytes.now (c.trimmed_len-len.result - 1) 0) (omega arith) (omega arith) in
    sym (trimmed_other c.args.bytes.now c.trimmed_len-len.result c.trimmed_len-len.ensures some other.1)
