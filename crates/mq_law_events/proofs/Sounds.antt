-- What a sound manager gives its events; and that a restart gives no ident anew.
use Rattle.std.proofs.Common.{ℕ, ◌≡◌, ◌+◌, Bool, true, false, List, [], ◌∷◌, refl, ap, sym, ◌∙◌, inl, inr, arith}
use Rattle.std.specs.Prelude.{Option, Some, None, ◌==◌, ◌&&◌, ◌||◌, nat_lt}
use Rattle.std.specs.Str.{bytes_eq}
use Rattle.std.proofs.lemmas.Bool.Decides.{nat_tests}
use Rattle.mq_message.specs.declared.message.Ident.{Ident}
use Rattle.mq_queue.specs.declared.row.Row.{Row}
use Rattle.mq_queue.specs.Rows.{same_ident, is_persistent}
use Rattle.mq_calls.specs.declared.state.Connection.{Connection}
use Rattle.mq_calls.specs.declared.state.Item.{Item}
use Rattle.mq_calls.specs.declared.state.Item.TheVariants.{Put, Take}
use Rattle.mq_calls.specs.State.{Plain, LogState}
use Rattle.mq_calls.specs.Reads.{connection_at}
use Rattle.mq_calls.specs.Images.{begun, lasting, raised}
use Rattle.mq_law_seen.specs.from_spec_network.Ledger.{unit_of}
use Rattle.mq_law_seen.specs.from_spec_network.Story.{Mem}
use Rattle.mq_law_seen.proofs.from_law_rows.Lists.{name_self, same_self}
use Rattle.mq_law_manager.specs.View.{Taken, takes_in, items_of}
use Rattle.mq_law_manager.specs.Facts.{IsSound}
use Rattle.mq_law_events.specs.Tied.{IsFresh}
use Rattle.mq_law_events.specs.Posting.{any_taken, IsListed}

or_true : (t : Bool) → (t || true) ≡ true
or_true true = refl
or_true false = refl

takes_any : (items : List Item) (d : List ℕ) (x : Row) (lasting : Bool) → Mem (record { queue = d; ident = x.message.ident; persistent = lasting }) (takes_in items) → any_taken items d x ≡ true
takes_any [] d x lasting n = absurd n
takes_any (Put q message ∷ items) d x lasting n = takes_any items d x lasting n
takes_any (Take q i l ∷ items) d x lasting (inl e) =
    (λ z. (bytes_eq d (ap (λ (t : Taken). t.queue) (sym e) z) && same_ident x.message.ident (ap (λ (t : Taken). t.ident) (sym e) z)) || any_taken items d x)
    ∙ (λ z. (name_self d z && same_self x.message.ident z) || any_taken items d x)
takes_any (Take q i l ∷ items) d x lasting (inr n) = ap (λ t. (bytes_eq d q && same_ident x.message.ident i) || t) (takes_any items d x lasting n) ∙ or_true (bytes_eq d q && same_ident x.message.ident i)

same_items : (o : Option Connection) → items_of o ≡ unit_of o
same_items None = refl
same_items (Some c) = refl

pub listed : (n : ℕ) (p : Plain) → IsSound p → IsListed n p
listed n p h d x k by_ = ap (λ us. any_taken us d x) (sym (same_items (connection_at n p.connections))) ∙ takes_any (items_of (connection_at n p.connections)) d x (is_persistent x.message) (h.facts.taken.held d x n k by_)

older : (i : Ident) (m n k s : ℕ) → ((i.manager == m) && (nat_lt (n + s + 1) i.incarnation || ((i.incarnation == n + s + 1) && nat_lt 0 i.number))) ≡ true
    → ((i.manager == m) && (nat_lt n i.incarnation || ((i.incarnation == n) && nat_lt k i.number))) ≡ true
older i m n k s e = grind (arith, nat_tests)

pub restart_fresh : (given : Ident → Bool) (p : Plain) (started : ℕ) (log : LogState) → IsFresh given p → IsFresh given (begun p.given (raised started (lasting p)) log p.moment)
restart_fresh given p started log f i e = f i (older i p.given.number p.numbers.incarnation p.numbers.idents started e)
