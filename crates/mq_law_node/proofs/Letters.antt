-- What a handler reads: a free row of an ordinary queue, whose body is a dead letter.
use Rattle.std.proofs.Common.{ℕ, ◌≡◌, Bool, true, List, [], ◌∷◌, refl, ap, sym, ◌∙◌, inl, inr}
use Rattle.std.proofs.lemmas.Bool.{and_parts}
use Rattle.std.specs.Prelude.{Option, Some, None, find, if◌then◌else◌, ◌&&◌, not, codes}
use Rattle.std.specs.Str.{bytes_eq}
use Rattle.mq_queue.specs.declared.row.Row.{Row}
use Rattle.mq_queue.specs.Rows.{has_ident, is_free, same_ident}
use Rattle.mq_objects.specs.declared.object.LocalQueue.{LocalQueue}
use Rattle.mq_objects.specs.Names.{is_transmission, local_of}
use Rattle.mq_calls.specs.State.{Plain}
use Rattle.mq_calls.specs.Reads.{stored}
use Rattle.mq_spec_manager.specs.Conditions.{CanMove, HasFreeRow, is_ordinary}
use Rattle.mq_spec_manager.specs.Heads.{is_dead}
use Rattle.mq_spec_node.specs.Node.{Handler}
use Rattle.mq_spec_node.specs.Handlers as handlers
use Rattle.mq_law_seized.specs.from_law_manager.Facts.{Differ, IsSound, Mem, ident_of}
use Rattle.mq_law_seized.proofs.from_law_manager.Lists.{bool_case, same_self, ident_yes}
use Rattle.mq_law_seized.proofs.from_law_manager.Steps.{free_is}

-- a row that is found is there, and passes; one that is there is found by its ident
found_in : (test : Row → Bool) (rows : List Row) (x : Row) → find test rows ≡ Some x → Mem x rows × (test x ≡ true)
found_in test [] x e = absurd cc
found_in test (r ∷ rows) x e = bool_case (test r) (λ t. test r ≡ t → (if t then Some r else find test rows) ≡ Some x → Mem x (r ∷ rows) × (test x ≡ true))
    (λ z w f. let is : r ≡ x = cc in (inl (sym is), ap test (sym is) ∙ w)) (λ z w f. let k = found_in test rows x f in (inr k.0, k.1)) refl e

pub found_one : (rows : List Row) (x : Row) → Differ ident_of rows → Mem x rows → find (has_ident x.message.ident) rows ≡ Some x
found_one [] x d n = absurd n
found_one (r ∷ rows) x d (inl e) = ap (λ t. if t then Some r else find (has_ident x.message.ident) rows) (ap (λ (y : Row). same_ident y.message.ident x.message.ident) (sym e) ∙ same_self x.message.ident) ∙ ap (λ y. Some y) (sym e)
found_one (r ∷ rows) x d (inr n) = bool_case (same_ident r.message.ident x.message.ident) (λ t. same_ident r.message.ident x.message.ident ≡ t → (if t then Some r else find (has_ident x.message.ident) rows) ≡ Some x)
    (λ z w. absurd (d.0 x n (ident_yes r.message.ident x.message.ident w))) (λ z w. found_one rows x d.1 n) refl

ordinary_of : (o : Option LocalQueue) → handlers.is_readable o ≡ true → is_ordinary o ≡ true
ordinary_of None e = absurd cc
ordinary_of (Some q) e = (and_parts q.get_enabled (not (is_transmission q.usage)) e).1

pub record IsLetter (q : List ℕ) (p : Plain) (x : Row) : Type 0 where
  pub there : Mem x (stored q p).rows
  pub free : x.by ≡ None
  pub ordinary : is_ordinary (local_of q p.definitions) ≡ true
  pub dead : is_dead x.message.body ≡ true

pub letter_of : (q : List ℕ) (h : Handler) (p : Plain) (x : Row) → handlers.is_readable (local_of q p.definitions) ≡ true → handlers.next_letter q h p ≡ Some x → IsLetter q p x
letter_of q h p x readable e =
    let k = found_in (handlers.is_handled q h p) (stored q p).rows x e in
    let letter = and_parts (handlers.is_letter x) (handlers.is_due p.moment (handlers.tries_of q x.message.ident h)) k.1 in
    let whole = and_parts (is_free x && bytes_eq x.message.md.format (codes "MQDEAD  ")) (is_dead x.message.body) letter.0 in
    record {
      there = k.0;
      free = free_is x (and_parts (is_free x) (bytes_eq x.message.md.format (codes "MQDEAD  ")) whole.0).0;
      ordinary = ordinary_of (local_of q p.definitions) readable;
      dead = whole.1;
    }

pub free_row : (q : List ℕ) (p : Plain) (x : Row) → IsSound p → IsLetter q p x → HasFreeRow q x.message.ident p
free_row q p x h k = record { row = x; ordinary = k.ordinary; found = found_one (stored q p).rows x (h.facts.apart.once q) k.there; free = k.free }

-- so it may be moved
pub can_move : (q : List ℕ) (p : Plain) (x : Row) (bare : Bool) → IsSound p → IsLetter q p x → CanMove q x.message.ident bare p
unfolding free_row
can_move q p x bare h k = record { free = free_row q p x h k; dead = λ z. k.dead }
