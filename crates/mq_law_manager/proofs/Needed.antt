-- What follows for the code: what is placed stands nowhere, a unit's gets are rows that it holds, and no others.
use Rattle.std.proofs.Common.{ℕ, ◌≡◌, List}
use Rattle.std.specs.Prelude.{Some}
use Rattle.mq_message.specs.declared.place.Holder.TheVariants as holders
use Rattle.mq_queue.specs.declared.row.Row.{Row}
use Rattle.mq_queue.specs.Queues.{Lacks}
use Rattle.mq_calls.specs.declared.records.Add.{Add}
use Rattle.mq_calls.specs.State.{Plain}
use Rattle.mq_calls.specs.Reads.{stored, is_persistent}
use Rattle.mq_spec_manager.specs.Put.{next_ident}
use Rattle.mq_law_manager.specs.View.{Taken, view}
use Rattle.mq_law_manager.specs.Facts.{Mem, Sound, IsHeld}
use Rattle.mq_law_manager.proofs.Lists.{lacks_of}
use Rattle.mq_law_manager.proofs.Puts.{next_new}

pub next_lacks : (name : List ℕ) (p : Plain) → Sound p → Lacks (next_ident p) (stored name p).rows
next_lacks name p h = lacks_of (next_ident p) (stored name p).rows (λ r m. (next_new p h).no_row name r m)

pub put_lacks : (name : List ℕ) (n : ℕ) (a : Add) (p : Plain) → Sound p → Mem a ((view p).puts n) → Lacks a.message.ident (stored name p).rows
put_lacks name n a p h m = lacks_of a.message.ident (stored name p).rows (λ r k e. h.apart.waiting n a name r m k e)

pub takes_are_held : (n : ℕ) (t : Taken) (p : Plain) → Sound p → Mem t ((view p).takes n) → IsHeld (stored t.queue p).rows n t.ident t.persistent
takes_are_held n t p h m = h.taken.there n t m

pub held_are_taken : (name : List ℕ) (r : Row) (n : ℕ) (p : Plain) → Sound p → Mem r (stored name p).rows → r.by ≡ Some (holders.Unit n) → Mem (record { queue = name; ident = r.message.ident; persistent = is_persistent r.message }) ((view p).takes n)
held_are_taken name r n p h m e = h.taken.held name r n m e
