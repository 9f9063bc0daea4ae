-- Events that are no turn of a channel's end, no timeout and no operator's command are calm: a call's changes are.
use Rattle.std.proofs.Common.{ℕ, ◌≡◌, true, refl}
use Rattle.std.specs.Prelude.{Option, Some, None}
use Rattle.mq_frame.specs.declared.frame.Seen.{Seen}
use Rattle.mq_history.specs.declared.calls.Actor.{Actor}
use Rattle.mq_history.specs.declared.calls.Call.{Call}
use Rattle.mq_calls.specs.State.{Change}
use Rattle.mq_calls.specs.State.Change.{AddBatch, DropBatch, ForgetAll, Seize, Unseize}
use Rattle.mq_spec_node.specs.Node.{Node, Own}
use Rattle.mq_spec_node.specs.Deeds.{Deed}
use Rattle.mq_spec_node.specs.Happens.{deed_of}
use Rattle.mq_law_seized.proofs.Each.{parts_weaker}
use Rattle.mq_law_unshared.specs.from_law_node.Quiet.{EachCall, is_call, IsOrdinary}
use Rattle.mq_law_unshared.proofs.from_law_node.Ordinary.{ordinary_is_call}
use Rattle.mq_law_queued.specs.Queued.{EachCalm, is_calm}

call_calm : (c : Change) → is_call c ≡ true → is_calm c ≡ true
call_calm (Seize s) e = absurd cc
call_calm (Unseize channel) e = absurd cc
call_calm (AddBatch b) e = absurd cc
call_calm (DropBatch channel) e = absurd cc
call_calm ForgetAll e = absurd cc
call_calm c e = refl

each_calm : (own : Own) (o : Option Deed) → EachCall own o → EachCalm own o
each_calm own None q = tt
each_calm own (Some d) q = record { parts = parts_weaker is_call is_calm call_calm d.parts q.parts; ends = q.ends }

pub ordinary_is_calm : (stamp : ℕ) (actor : Actor) (call : Call) (seen : Seen) (n : Node) → IsOrdinary actor call → EachCalm n.own (deed_of stamp actor call seen n)
ordinary_is_calm stamp actor call seen n o = each_calm n.own (deed_of stamp actor call seen n) (ordinary_is_call stamp actor call seen n o)
