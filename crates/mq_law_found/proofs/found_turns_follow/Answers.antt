use Rattle.mq_calls.specs.declared.deltas.Why.TheVariants as whys
use Rattle.mq_history.specs.declared.calls.Call.TheVariants as calls
use Rattle.std.proofs.Common.{refl}
use Rattle.mq_law_found.proofs.Going.{removal_noted}
use Rattle.mq_law_found.proofs.Getting.{discard_posts}
use Rattle.mq_law_found.proofs.Shifting.{move_noted}
use Rattle.mq_law_found.proofs.found_turns_follow.Goals as goal

pub returns : goal.returns
returns c = record {
  discards = λ m moment p q xs h there free once s. removal_noted m calls.Turn moment p whys.Discarded q xs h (record { each = λ x n. (there x n, free x n); once = once }) s refl (discard_posts m q);
  moves = move_noted;
}
