use Rattle.std.proofs.Common.{refl, sym}
use Rattle.std.specs.Prelude.{Ok}
use Rattle.mq_message.specs.Layout.{part}
use Rattle.mq_heads.specs.Headers.{xqh_in}
use Rattle.mq_heads.proofs.HeaderLaws.{md_read_ok, md_read_err}
use Rattle.mq_heads.proofs.transmission.xqh_inside.Goals as goal

pub returns-in-Err : goal.returns-in-Err
returns-in-Err c = rw (md_read_err (part 104 324 c.args.bytes.now) c.in-Err.fault (sym c.in-Err.ensures.value)) refl

pub returns-in-Ok : goal.returns-in-Ok
unfolding xqh_in
returns-in-Ok c =
    let inner = md_read_ok (part 104 324 c.args.bytes.now) c.in-Ok.msg_desc (sym c.in-Ok.ensures.value) in
    rw inner.0 (λ i. Ok (record { remote_q_name = c.array_at.ensures i; remote_q_mgr_name = c.array_at-in-Ok.ensures i; msg_desc = sym inner.1 i }))
