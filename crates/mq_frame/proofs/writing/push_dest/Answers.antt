use Rattle.std.proofs.Common.{ℕ, List, [], ◌∷◌, ◌++◌, ap, ◌∙◌}
use Rattle.std.proofs.lemmas.Result.{on_ok_weaker}
use Rattle.mq_message.specs.from_base.Name.{padded}
use Rattle.mq_frame.specs.Frames.{dest_bytes}
use Rattle.mq_frame.proofs.Adding.{adds_one, adds_more}
use Rattle.mq_frame.proofs.writing.push_dest.Goals as goal

pub returns-clause-bytes : goal.returns-clause-bytes
unfolding dest_bytes
returns-clause-bytes c =
    let d = c.args.dest.now in
    let e1 = adds_one _ _ (padded 48 d.queue) (c.in_ok-extend_from_slice.ensures.ok ∙ ap (λ (z : List ℕ). c.args.out.now ++ z) c.bytes.ensures.bytes) in
    on_ok_weaker c.extend_from_slice-2.result (λ e. adds_more _ _ _ (padded 48 d.queue ∷ []) (padded 48 d.qmgr) e1 (e ∙ ap (λ (z : List ℕ). c.extend_from_slice.new.self ++ z) c.bytes-2.ensures.bytes)) c.extend_from_slice-2.ensures.ok
