use Rattle.std.proofs.Common.{◌-◌, ap, sym, ◌∙◌, arith, Ok}
use Rattle.std.proofs.lemmas.Result.{err_from_is_err_and}
use Rattle.std.proofs.lemmas.List.{take-replicate}
use Rattle.mq_frame.specs.Reading.{◌>>=◌, name_front}
use Rattle.mq_frame.proofs.Names.{name_at_from}
use Rattle.mq_frame.proofs.reading.name_at.Goals as goal

pub returns-in_err-rest : goal.returns-in_err-rest
returns-in_err-rest c =
    let blanks = c.split_at-2.ensures.front ∙ take-replicate (48 - c.name_len-len.result) 48 32 (omega arith) in
    let read = name_at_from c.args.bytes.now c.split_at-2.result.0.now c.split_at.result.1.now c.name_len-len.result c.name_len-len.ensures.length c.split_at.ensures.back blanks in
    let p = err_from_is_err_and c.from_residual.result c.from_residual.ensures.1 in
    rw (p.1, p.2) (read ∙ ap (λ r. r >>= λ x. Ok (name_front 48 c.args.bytes.now, x.1)) c.in_err-rest.ensures)

pub returns : goal.returns
returns c =
    let blanks = c.split_at-2.ensures.front ∙ take-replicate (48 - c.name_len-len.result) 48 32 (omega arith) in
    let read = name_at_from c.args.bytes.now c.split_at-2.result.0.now c.split_at.result.1.now c.name_len-len.result c.name_len-len.ensures.length c.split_at.ensures.back blanks in
    let name = c.name_of_text.ensures ∙ c.split_at.ensures.front ∙ c.name_len-len.ensures.front in
    read ∙ ap (λ r. r >>= λ x. Ok (name_front 48 c.args.bytes.now, x.1)) c.in_ok-rest.ensures ∙ ap (λ n. Ok (n, c.in_ok-rest.rest.now)) (sym name)
