-- A call of a manager, and what is posted of it.
use Rattle.std.specs.Prelude.{ℕ, Bool, true, false, List, [], ◌∷◌, ◌≡◌, ◌&&◌, ◌||◌, Some, slice_get}
use Rattle.std.specs.Str.{bytes_eq}
use Rattle.mq_message.specs.declared.message.Ident.{Ident}
use Rattle.mq_calls.specs.declared.deltas.Did.{Did}
use Rattle.mq_calls.specs.State.{Plain}
use Rattle.mq_calls.specs.Steps.{Step, do_all, delta_of, delta_before, stopped_at, IsWrite}
use Rattle.mq_calls.specs.Steps.Step.{Refuse, Do}
use Rattle.mq_message.specs.declared.place.Holder.TheVariants as holders
use Rattle.mq_queue.specs.declared.row.Row.{Row}
use Rattle.mq_queue.specs.Rows.{same_ident}
use Rattle.mq_calls.specs.declared.answers.Get.{Get}
use Rattle.mq_calls.specs.declared.answers.GetAnswer.{GetAnswer}
use Rattle.mq_calls.specs.declared.answers.GetAnswer.TheVariants.{NotYet, Done}
use Rattle.mq_calls.specs.declared.answers.Hconn.{Hconn}
use Rattle.mq_calls.specs.declared.state.Item.{Item}
use Rattle.mq_calls.specs.declared.state.Item.TheVariants.{Put, Take}
use Rattle.mq_law_seen.specs.from_history.ReplyVariants as replies
use Rattle.mq_calls.specs.Reads.{stored, connection_at}
use Rattle.mq_law_seen.specs.from_spec_network.Ledger.{Ledger, Users, take_all_gone, lose, got_ident, get_by, unit_of}
use Rattle.mq_law_seen.specs.from_spec_network.Story.{Mem}
use Rattle.mq_law_events.specs.Tied.{Follow}

-- The call runs: the manager does its parts, and the ledger posts it by its reply and its delta.
abbrev pub StepFollows : {F T : Type 0} → ℕ → (Ident → Bool) → Plain → Ledger → (T → List Did → Ledger → Ledger) → Step F T → Type 0
StepFollows m given p l post (Refuse reason) = Unit {0}
StepFollows m given p l post (Do reply parts) = Follow m given p l (do_all parts p) (post reply (delta_of parts) (take_all_gone m (delta_of parts) l))

-- A write of it is stopped: the manager freezes, and what was removed before is gone.
abbrev pub StopFollows : {F T : Type 0} → ℕ → (Ident → Bool) → Plain → Ledger → Step F T → Type 0
StopFollows m given p l (Refuse reason) = Unit {0}
StopFollows m given p l (Do reply parts) = (n left : ℕ) → IsWrite n parts → Follow m given p l (stopped_at n parts left p) (lose m (take_all_gone m (delta_before n parts) l))

-- the ledger has the manager's moment
pub record IsTimed (m : ℕ) (p : Plain) (l : Ledger) : Type 0 where
  pub users : Users
  pub used : slice_get l.users m ≡ Some users
  pub moment : users.moment ≡ p.moment

-- a get of the unit has the row
abbrev pub any_taken : List Item → List ℕ → Row → Bool
any_taken [] d x = false
any_taken (Put q message ∷ items) d x = any_taken items d x
any_taken (Take q i lasting ∷ items) d x = (bytes_eq d q && same_ident x.message.ident i) || any_taken items d x

-- rows that a unit holds are among its gets, with their queue
abbrev pub IsListed : ℕ → Plain → Type 0
IsListed n p = (d : List ℕ) (x : Row) → Mem x (stored d p).rows → x.by ≡ Some (holders.Unit n) → any_taken (unit_of (connection_at n p.connections)) d x ≡ true

-- what a get posts
abbrev pub post_get : ℕ → Hconn → Get → GetAnswer → List Did → Ledger → Ledger
post_get m hc get (Done answer) ds k = get_by get m hc (got_ident (replies.Got answer) ds) k
post_get m hc get NotYet ds k = k
