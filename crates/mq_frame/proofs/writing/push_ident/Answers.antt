use Rattle.std.proofs.Common.{[], ◌∷◌}
use Rattle.std.proofs.lemmas.Result.{on_ok_weaker}
use Rattle.byteorder.specs.Endian.{big_bytes}
use Rattle.mq_frame.specs.Frames.{ident_bytes}
use Rattle.mq_frame.proofs.Adding.{adds_one, adds_more}
use Rattle.mq_frame.proofs.writing.push_ident.Goals as goal

pub returns-clause-bytes : goal.returns-clause-bytes
unfolding ident_bytes
returns-clause-bytes c =
    let i = c.args.ident.now in
    let e1 = adds_one _ _ (i.manager ∷ []) c.in_ok-push.ensures.ok in
    let e2 = adds_more _ _ _ ((i.manager ∷ []) ∷ []) (big_bytes 8 i.incarnation) e1 c.in_ok-push_u64.ensures in
    on_ok_weaker c.push_u64-2.result (λ e. adds_more _ _ _ ((i.manager ∷ []) ∷ big_bytes 8 i.incarnation ∷ []) (big_bytes 8 i.number) e2 e) c.push_u64-2.ensures
