use Rattle.std.proofs.Common.{ℕ, [], ◌∷◌, ◌++◌, sym, ap, ◌∙◌}
use Rattle.std.proofs.lemmas.Result.{on_ok_weaker}
use Rattle.byteorder.specs.Endian.{big_bytes}
use Rattle.mq_frame.specs.declared.frame.FrameKind.{FrameKind}
use Rattle.mq_frame.specs.Frames.{flag, dest_bytes, message_bytes, fields_bytes}
use Rattle.mq_frame.proofs.Adding.{adds_one, adds_more}
use Rattle.mq_frame.proofs.writing.push_fields.Goals as goal

pub returns-in_ok-push_u32-in-Bind-clause-bytes : goal.returns-in_ok-push_u32-in-Bind-clause-bytes
unfolding fields_bytes
returns-in_ok-push_u32-in-Bind-clause-bytes c =
    let k = c.in-Bind in
    let e1 = adds_one _ _ (big_bytes 4 k.last) c.in_ok-push_u32-in-Bind.ensures in
    on_ok_weaker c.push.result (λ e. adds_more _ _ _ (big_bytes 4 k.last ∷ []) (flag k.force ∷ []) e1 (e ∙ ap (λ (n : ℕ). c.push_u32.new.out ++ n ∷ []) c.flag.ensures) ∙ ap (λ (v : FrameKind). c.args.out.now ++ fields_bytes v) (sym k.is)) c.push.ensures.ok

pub returns-in_ok-push_u64-in-Status-2-clause-bytes : goal.returns-in_ok-push_u64-in-Status-2-clause-bytes
unfolding fields_bytes
returns-in_ok-push_u64-in-Status-2-clause-bytes c =
    let k = c.in-Status in
    let e1 = adds_one _ _ (big_bytes 8 k.unit_session) c.in_ok-push_u64-in-Status.ensures in
    let e2 = adds_more _ _ _ (big_bytes 8 k.unit_session ∷ []) (big_bytes 8 k.unit_n) e1 c.in_ok-push_u64-in-Status-2.ensures in
    on_ok_weaker c.push_u32-in-Status.result (λ e. adds_more _ _ _ (big_bytes 8 k.unit_session ∷ big_bytes 8 k.unit_n ∷ []) (big_bytes 4 k.last) e2 e ∙ ap (λ (v : FrameKind). c.args.out.now ++ fields_bytes v) (sym k.is)) c.push_u32-in-Status.ensures

pub returns-in_ok-push_dest-in-Msg-clause-bytes : goal.returns-in_ok-push_dest-in-Msg-clause-bytes
unfolding fields_bytes
returns-in_ok-push_dest-in-Msg-clause-bytes c =
    let k = c.in-Msg in
    let e1 = adds_one _ _ (big_bytes 8 k.n) c.in_ok-push_u64-in-Msg.ensures in
    let e2 = adds_more _ _ _ (big_bytes 8 k.n ∷ []) (big_bytes 4 k.index) e1 c.in_ok-push_u32-in-Msg.ensures in
    let e3 = adds_more _ _ _ (big_bytes 8 k.n ∷ big_bytes 4 k.index ∷ []) (big_bytes 4 k.number) e2 c.in_ok-push_u32-in-Msg-2.ensures in
    let e4 = adds_more _ _ _ (big_bytes 8 k.n ∷ big_bytes 4 k.index ∷ big_bytes 4 k.number ∷ []) (dest_bytes k.dest) e3 c.in_ok-push_dest-in-Msg.ensures.bytes in
    on_ok_weaker c.push_message.result (λ e. adds_more _ _ _ (big_bytes 8 k.n ∷ big_bytes 4 k.index ∷ big_bytes 4 k.number ∷ dest_bytes k.dest ∷ []) (message_bytes k.message) e4 e ∙ ap (λ (v : FrameKind). c.args.out.now ++ fields_bytes v) (sym k.is)) c.push_message.ensures.bytes

pub returns-in_ok-push_u32-in-End-clause-bytes : goal.returns-in_ok-push_u32-in-End-clause-bytes
unfolding fields_bytes
returns-in_ok-push_u32-in-End-clause-bytes c =
    let k = c.in-End in
    let e1 = adds_one _ _ (big_bytes 8 k.n) c.in_ok-push_u64-in-End.ensures in
    let e2 = adds_more _ _ _ (big_bytes 8 k.n ∷ []) (big_bytes 4 k.count) e1 c.in_ok-push_u32-in-End.ensures in
    on_ok_weaker c.push_u32-in-End-2.result (λ e. adds_more _ _ _ (big_bytes 8 k.n ∷ big_bytes 4 k.count ∷ []) (big_bytes 4 k.last) e2 e ∙ ap (λ (v : FrameKind). c.args.out.now ++ fields_bytes v) (sym k.is)) c.push_u32-in-End-2.ensures

pub returns-in-Ack-clause-bytes : goal.returns-in-Ack-clause-bytes
unfolding fields_bytes
returns-in-Ack-clause-bytes c =
    let k = c.in-Ack in
    on_ok_weaker c.push_u64-in-Ack.result (λ e. e ∙ ap (λ (v : FrameKind). c.args.out.now ++ fields_bytes v) (sym k.is)) c.push_u64-in-Ack.ensures

pub returns-in_ok-push_u64-in-Err-clause-bytes : goal.returns-in_ok-push_u64-in-Err-clause-bytes
unfolding fields_bytes
returns-in_ok-push_u64-in-Err-clause-bytes c =
    let k = c.in-Err in
    let e1 = adds_one _ _ (big_bytes 8 k.n) c.in_ok-push_u64-in-Err.ensures in
    on_ok_weaker c.push_u32-in-Err.result (λ e. adds_more _ _ _ (big_bytes 8 k.n ∷ []) (big_bytes 4 k.reason) e1 e ∙ ap (λ (v : FrameKind). c.args.out.now ++ fields_bytes v) (sym k.is)) c.push_u32-in-Err.ensures
