-- What is common or written is bare, and what is bare leaves seized queues their senders' own, and open.
use Rattle.std.proofs.Common.{ℕ, ◌≡◌, true, List, refl}
use Rattle.mq_queue.specs.declared.row.Row.{Row}
use Rattle.mq_calls.specs.declared.deltas.Why.{Why}
use Rattle.mq_calls.specs.State.{Plain, Change}
use Rattle.mq_calls.specs.State.Change.{ChangeObjects, Connect, ForgetAll, Hold, Leave, OpenHandle, Place, Release, Seize, SetReceiver, SetSender, Try, Undoubt, Unseize}
use Rattle.mq_calls.specs.Steps.{Step, Part}
use Rattle.mq_spec_manager.specs.Get.{removal_parts}
use Rattle.mq_law_seized.specs.Each.{IsCommon, is_common, is_written}
use Rattle.mq_law_manager.specs.Kept.{StepKeeps}
use Rattle.mq_law_seized.proofs.CommonCalls.{removal_common}
use Rattle.mq_law_seized.proofs.Each.{parts_weaker, step_weaker}
use Rattle.mq_law_seized.specs.Seized.{AreSeized, is_bare, is_plain, parts_bare, parts_plain, step_bare}
use Rattle.mq_law_seized.proofs.Changing.{step_leaves}

-- what is common or written is bare, and what is bare is plain
pub common_bare : (c : Change) → is_common c ≡ true → is_bare c ≡ true
common_bare (Hold which by) e = absurd cc
common_bare (Connect c) e = e
common_bare (OpenHandle number h) e = absurd cc
common_bare (ChangeObjects change) e = absurd cc
common_bare (Seize s) e = absurd cc
common_bare (Unseize channel) e = absurd cc
common_bare ForgetAll e = absurd cc
common_bare c e = refl

pub written_bare : (c : Change) → is_written c ≡ true → is_bare c ≡ true
written_bare (Place queue message) e = refl
written_bare (Try queue priority) e = refl
written_bare (Leave which) e = refl
written_bare (Release which counted) e = refl
written_bare (SetSender channel d) e = refl
written_bare (SetReceiver channel d) e = refl
written_bare (Undoubt ident) e = refl
written_bare c e = absurd cc

bare_plain : (c : Change) → is_bare c ≡ true → is_plain c ≡ true
bare_plain (Unseize channel) e = absurd cc
bare_plain ForgetAll e = absurd cc
bare_plain c e = e

pub common_plain : (c : Change) → is_common c ≡ true → is_plain c ≡ true
common_plain c e = bare_plain c (common_bare c e)

pub parts_bare_plain : (parts : List Part) → parts_bare parts ≡ true → parts_plain parts ≡ true
parts_bare_plain parts e = parts_weaker is_bare is_plain bare_plain parts e

-- so they leave seized queues their senders' own, and open
pub bare_leaves : {F T : Type 0} (s : Step F T) (p : Plain) → step_bare s ≡ true → AreSeized p → StepKeeps AreSeized s p
bare_leaves s p e h = step_leaves s p (step_weaker is_bare is_plain bare_plain s e) h

pub common_leaves : {F T : Type 0} (s : Step F T) (p : Plain) → IsCommon s → AreSeized p → StepKeeps AreSeized s p
common_leaves s p e h = bare_leaves s p (step_weaker is_common is_bare common_bare s e) h

pub removal_bare : (why : Why) (queue : List ℕ) (rows : List Row) → parts_bare (removal_parts why queue rows) ≡ true
removal_bare why queue rows = parts_weaker is_common is_bare common_bare (removal_parts why queue rows) (removal_common why queue rows)
