-- Notes that ends harden, and batches that they receive: what their forced writes change.
use Rattle.std.proofs.Common.{ℕ, ◌≡◌, Bool, true, false, List, [], ◌∷◌, refl, ap}
use Rattle.std.specs.Prelude.{Result, Ok, Err, ◌&&◌}
use Rattle.mq_codes.specs.declared.reason.Reason.{Reason}
use Rattle.mq_codes.specs.declared.reason.Reason.TheVariants as reasons
use Rattle.mq_message.specs.declared.message.Ident.{Ident}
use Rattle.mq_message.specs.declared.message.Message.{Message}
use Rattle.mq_sync.specs.declared.data.End.TheVariants as ends
use Rattle.mq_sync.specs.declared.unit.Unit.{Unit as Luw}
use Rattle.mq_calls.specs.declared.agents.Note.{Note}
use Rattle.mq_calls.specs.declared.agents.Note.TheVariants as notes
use Rattle.mq_calls.specs.State.{Plain}
use Rattle.mq_calls.specs.Reads.{is_full, is_persistent}
use Rattle.mq_calls.specs.Sizes.{need}
use Rattle.mq_calls.specs.Steps.{when}
use Rattle.mq_spec_manager.specs.Landing.{Landing}
use Rattle.mq_spec_manager.specs.Agents.{Absent, InDoubtAt, Landed, Present, Standing, drop_changes, harden_part, land_changes, landed, receive_landed, received_record, undoubted, receive}
use Rattle.mq_law_seized.specs.Each.{all_written, is_written, step_of_all}
use Rattle.mq_law_seized.proofs.Each.{all_behind}
use Rattle.mq_law_seized.proofs.Landing.{LandedHas, landed_has}
use Rattle.mq_law_manager.proofs.ShortSteps.{tested_all}

pub harden_written : (channel : List ℕ) (note : Note) (p : Plain) → all_written (harden_part channel note p).changes ≡ true
harden_written channel (notes.Session partner session) p = refl
harden_written channel (notes.Resolved unit true operator) p = refl
harden_written channel (notes.Resolved unit false operator) p = refl
harden_written channel (notes.Bound partner session last) p = refl
harden_written channel (notes.Closed session) p = refl
harden_written channel (notes.SeqSet ends.Sender last) p = refl
harden_written channel (notes.SeqSet ends.Receiver last) p = refl

undoubted_written : (b : Bool) (i : Ident) → all_written (undoubted b i) ≡ true
undoubted_written true i = refl
undoubted_written false i = refl

drop_written : (m : Message) (s : Standing) → all_written (drop_changes m s) ≡ true
drop_written m Absent = undoubted_written (is_persistent m) m.ident
drop_written m Present = undoubted_written (is_persistent m) m.ident
drop_written m (InDoubtAt queue) = undoubted_written (is_persistent m) m.ident

land_written : (l : Landing) (s : Standing) → all_written (land_changes l s) ≡ true
land_written l s = all_behind is_written (drop_changes l.message s) _ (drop_written l.message s) refl

abbrev IsWritten : Landed → Type 0
IsWritten l = all_written l.changes ≡ true

abbrev LandsWritten : Result Landed Reason → Type 0
LandsWritten r = LandedHas IsWritten r

landed_written : (channel : List ℕ) (ms : List Message) (p : Plain) → LandsWritten (landed channel ms p)
landed_written channel ms p = landed_has IsWritten refl (λ m l s rest h. all_behind is_written (land_changes l s) rest.changes (land_written l s) h) channel ms p

received_written : (channel : List ℕ) (unit : Luw) (last : ℕ) (o : Result Landed Reason) (p : Plain) → LandsWritten o → step_of_all is_written (receive_landed channel unit last o p) ≡ true
received_written channel unit last (Err reason) p h = refl
received_written channel unit last (Ok l) p h = tested_all (λ s. step_of_all is_written s ≡ true) (λ r. refl) (when (is_full (need (received_record channel unit last l)) p) reasons.ResourceProblem ∷ []) _ (ap (λ (b : Bool). b && true) (all_behind is_written l.changes _ h refl))

pub receive_written : (channel : List ℕ) (unit : Luw) (last : ℕ) (batch : List Message) (p : Plain) → step_of_all is_written (receive channel unit last batch p) ≡ true
receive_written channel unit last batch p = received_written channel unit last (landed channel batch p) p (landed_written channel batch p)
