-- Events that are no turn of a channel's end, no timeout and no operator's command leave all queues open that are: a call's changes do.
use Rattle.std.proofs.Common.{ℕ, ◌≡◌, true, refl}
use Rattle.std.specs.Prelude.{Option, Some, None}
use Rattle.mq_frame.specs.declared.frame.Seen.{Seen}
use Rattle.mq_history.specs.declared.calls.Actor.{Actor}
use Rattle.mq_history.specs.declared.calls.Call.{Call}
use Rattle.mq_calls.specs.State.{Change}
use Rattle.mq_calls.specs.State.Change.{ForgetAll, Unseize}
use Rattle.mq_spec_node.specs.Node.{Node, Own}
use Rattle.mq_spec_node.specs.Deeds.{Deed}
use Rattle.mq_spec_node.specs.Happens.{deed_of}
use Rattle.mq_law_seized.proofs.Each.{parts_weaker}
use Rattle.mq_law_keys.specs.from_law_node.Quiet.{EachCall, is_call, IsOrdinary}
use Rattle.mq_law_keys.proofs.from_law_node.Ordinary.{ordinary_is_call}
use Rattle.mq_law_unshared.specs.Ordinary.{EachHas}
use Rattle.mq_law_unshared.specs.Unshared.{is_still, parts_still}

call_still : (c : Change) → is_call c ≡ true → is_still c ≡ true
call_still (Unseize channel) e = absurd cc
call_still ForgetAll e = absurd cc
call_still c e = refl

each_still : (own : Own) (o : Option Deed) → EachCall own o → EachHas (λ parts. parts_still parts ≡ true) o
each_still own None q = tt
each_still own (Some d) q = parts_weaker is_call is_still call_still d.parts q.parts

pub ordinary_is_still : (stamp : ℕ) (actor : Actor) (call : Call) (seen : Seen) (n : Node) → IsOrdinary actor call → EachHas (λ parts. parts_still parts ≡ true) (deed_of stamp actor call seen n)
ordinary_is_still stamp actor call seen n o = each_still n.own (deed_of stamp actor call seen n) (ordinary_is_call stamp actor call seen n o)
