-- What a crash may leave of the disk of a manager that has not begun.
use Rattle.std.proofs.Common.{◌≡◌, ℕ, ◌+◌, List, ap, subst, ◌∙◌, inr}
use Rattle.std.specs.Prelude.{Option, Some, None, Err}
use Rattle.mq_disk.specs.declared.cutter.Stop.{Stop}
use Rattle.mq_calls.specs.declared.commands.BeginFault.{BeginFault}
use Rattle.mq_calls.specs.declared.commands.BeginFault.TheVariants as faults
use Rattle.mq_log.specs.State.{LogState, Appended, IsLogOf}
use Rattle.mq_record.specs.Records.{record_bytes}
use Rattle.mq_calls.specs.State.{Given}
use Rattle.mq_spec_manager.specs.Stops.{started_record}
use Rattle.mq_spec_log.specs.Applies.Start.{First}
use Rattle.mq_rebuild.specs.declared.building.Built.{Built}
use Rattle.mq_restart.specs.Begun.{given_by, HasOpened, IsReadFrom, LeavesLog, LeavesAsWas}

-- no write was stopped
pub left_standing : (g : Given) (bodies : List (List ℕ)) (fault : BeginFault) (leaves : List ℕ → Type 0) (l : LogState) → l.bodies ≡ bodies → l.pending ≡ None → ((c : List ℕ) → leaves c → IsLogOf l.bodies l.pending c) → LeavesLog g bodies fault leaves
left_standing g bodies fault leaves l same none left = record {
  pending = None;
  start = tt;
  left = λ c h. subst (λ (bs : List (List ℕ)). IsLogOf bs None c) same (subst (λ (o : Option (List ℕ)). IsLogOf l.bodies o c) none (left c h));
}

-- that of the Started record was
pub left_stopped : (g : Given) (b : Built) (bytes : List ℕ) (stop : Stop) (fault : BeginFault) (leaves : List ℕ → Type 0) (old roomy new : LogState) → IsReadFrom g First old.bodies b → roomy ≡ record old { room = roomy.room; spare = roomy.spare }
    → bytes ≡ record_bytes (started_record g (b.incarnation + 1)) → Appended roomy bytes (Err stop) new → fault ≡ faults.Disk → ((c : List ℕ) → leaves c → IsLogOf new.bodies new.pending c) → LeavesLog g old.bodies fault leaves
left_stopped g b bytes stop fault leaves old roomy new r room is appended disk left = record {
  pending = Some bytes;
  start = (disk, r.told, r.read, is ∙ ap (λ (n : ℕ). record_bytes (started_record g (n + 1))) r.built.incarnation);
  left = λ c h. subst (λ (bs : List (List ℕ)). IsLogOf bs (Some bytes) c) bodies (subst (λ (o : Option (List ℕ)). IsLogOf new.bodies o c) (ap (λ (l : LogState). l.pending) appended) (left c h));
}
  where
    bodies : new.bodies ≡ old.bodies
    bodies = ap (λ (l : LogState). l.bodies) appended ∙ ap (λ (l : LogState). l.bodies) room

-- a log that was opened
pub left_whole : (tells : Type 0) (seen : List ℕ) (count max number : ℕ) (name : List ℕ) (log : LogState) (fault : BeginFault) (before after : List ℕ → Type 0) → HasOpened tells seen count max log → tells
    → LeavesLog (given_by number name log.max) log.bodies fault after → LeavesAsWas before seen (given_by number name max) fault after
left_whole tells seen count max number name log fault before after o t h =
    inr (log.bodies, o.read t, subst (λ (n : ℕ). LeavesLog (given_by number name n) log.bodies fault after) o.opened.fresh.most h)
