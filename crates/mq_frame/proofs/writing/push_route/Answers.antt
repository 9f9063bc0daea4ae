use Rattle.std.proofs.Common.{ℕ, List, [], ◌∷◌, ◌++◌, sym, ap, ◌∙◌}
use Rattle.std.proofs.lemmas.Result.{on_ok_weaker}
use Rattle.std.proofs.Common.{append_assoc}
use Rattle.mq_message.specs.declared.message.Dest.{Dest}
use Rattle.std.specs.Prelude.{Option}
use Rattle.mq_frame.specs.Frames.{route_bytes, dest_bytes}
use Rattle.mq_frame.proofs.writing.push_route.Goals as goal

pub returns-in-None-clause-bytes : goal.returns-in-None-clause-bytes
unfolding route_bytes
returns-in-None-clause-bytes c = on_ok_weaker c.push.result (λ e. e ∙ ap (λ (r : Option Dest). c.args.out.now ++ route_bytes r) (sym c.in-None.is)) c.push.ensures.ok

pub returns-in_ok-push-in-Some-clause-bytes : goal.returns-in_ok-push-in-Some-clause-bytes
unfolding route_bytes
returns-in_ok-push-in-Some-clause-bytes c =
    let d = c.in-Some.dest in
    on_ok_weaker c.push_dest.result (λ e. e ∙ ap (λ (z : List ℕ). z ++ dest_bytes d) c.in_ok-push-in-Some.ensures.ok ∙ append_assoc c.args.out.now (1 ∷ []) (dest_bytes d) ∙ ap (λ (r : Option Dest). c.args.out.now ++ route_bytes r) (sym c.in-Some.is)) c.push_dest.ensures.bytes
