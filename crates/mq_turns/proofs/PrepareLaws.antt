-- A batch that may be prepared: its rows are held by it alone.
use Rattle.std.proofs.Common.{◌≡◌, ℕ, ◌≤◌, refl, sym, ap, subst, ◌∙◌, List, [], ◌∷◌, Bool, true, false, not, ◌||◌, arith}
use Rattle.std.proofs.lemmas.List.Elements.{All-cons, All-nil}
use Rattle.std.proofs.lemmas.List.Kept.{AllPairs-cons}
use Rattle.mq_turn_parts.specs.from_spec_log.Applies.{are_distinct}
use Rattle.std.specs.Prelude.{All, AllPairs, Option, Some, None, ◌&&◌, if◌then◌else◌, is_some}
use Rattle.std.specs.Str.{bytes_eq}
use Rattle.std.specs.List.{AllByRecursion, list_any}
use Rattle.mq_message.specs.declared.message.Ident.{Ident}
use Rattle.mq_message.specs.declared.place.Holder.{Holder}
use Rattle.mq_message.specs.declared.place.Holder.TheVariants as holders
use Rattle.mq_queue.specs.declared.row.Row.{Row}
use Rattle.mq_calls.specs.declared.state.Batch.{Batch}
use Rattle.mq_calls.specs.State.{Plain}
use Rattle.mq_calls.specs.Reads.{batch_of}
use Rattle.mq_calls.specs.Recovery.{IsNumbered}
use Rattle.mq_calls.specs.Words.{has_batch, rests_by, same_ident, sender_data, sender_or}
use Rattle.mq_spec_manager.specs.Agents.{CanPrepare, IsUp, NoneInDoubt, is_row_in_doubt}
use Rattle.mq_law_manager.specs.Facts.{IsBatched, IsSound, Mem}
use Rattle.mq_law_manager.specs.View.{view}
use Rattle.mq_law_manager.proofs.Lists.{any_mem, one_row}
use Rattle.mq_turn_parts.proofs.from_law_log.Bridge.{all_of, each_queue}
use Rattle.mq_turn_parts.specs.from_manager.Facts.{IsWell}
use Rattle.mq_turns.specs.Prepares.{MayPrepare}

has_if : (c : Bool) (channel : List ℕ) (x b : Batch) (xs : List Batch) → bytes_eq channel x.channel ≡ c → (batch_of channel xs ≡ Some b → has_batch channel xs ≡ true) → (if c then Some x else batch_of channel xs) ≡ Some b → (c || has_batch channel xs) ≡ true
has_if true channel x b xs e k h = refl
has_if false channel x b xs e k h = k h

has_own : (channel : List ℕ) (bs : List Batch) (b : Batch) → batch_of channel bs ≡ Some b → has_batch channel bs ≡ true
has_own channel [] b h = absurd cc
has_own channel (x ∷ xs) b h = has_if (bytes_eq channel x.channel) channel x b xs refl (has_own channel xs b) h

rests_none : (channel : List ℕ) (bs : List Batch) → has_batch channel bs ≡ true → rests_by bs (Some (holders.Batch channel)) ≡ None
rests_none channel bs h = ap (λ (c : Bool). if c then None else Some (holders.Batch channel)) h

and_false : (a : Bool) → (a && false) ≡ false
and_false true = refl
and_false false = refl

module _ (channel : List ℕ) (b : Batch) (p : Plain) (s : IsSound p) (own : batch_of channel p.channels.batches ≡ Some b) where
  unrested : (name : List ℕ) (row : Row) → Mem row ((view p).rows name) → (any : Bool) → list_any (same_ident row.message.ident) b.idents ≡ any → is_row_in_doubt p.channels.batches b.idents row ≡ false
  unrested name row m false e = ap (λ (x : Bool). is_some (rests_by p.channels.batches row.by) && x) e ∙ and_false (is_some (rests_by p.channels.batches row.by))
  unrested name row m true e =
      let held : IsBatched ((view p).rows b.queue) channel row.message.ident = s.facts.batched.full channel b row.message.ident own (any_mem row.message.ident b.idents e) in
      let q : name ≡ b.queue = s.facts.apart.alone name b.queue row held.row m held.there (sym held.is) in
      let same : row ≡ held.row = one_row ((view p).rows b.queue) row held.row (s.facts.apart.once b.queue) (subst (λ (x : List ℕ). Mem row ((view p).rows x)) q m) held.there (sym held.is) in
      ap (λ (o : Option Holder). is_some (rests_by p.channels.batches o) && list_any (same_ident row.message.ident) b.idents) (ap (λ (x : Row). x.by) same ∙ held.by)
      ∙ ap (λ (o : Option Holder). is_some o && list_any (same_ident row.message.ident) b.idents) (rests_none channel p.channels.batches (has_own channel p.channels.batches b own))

  none_in_doubt : AllByRecursion (NoneInDoubt p.channels.batches b.idents) p.queues
  none_in_doubt = each_queue (λ rows. AllByRecursion (λ (row : Row). is_row_in_doubt p.channels.batches b.idents row ≡ false) rows) p s.named (λ name.
      all_of (λ (row : Row). is_row_in_doubt p.channels.batches b.idents row ≡ false) ((view p).rows name) (λ row m. unrested name row m (list_any (same_ident row.message.ident) b.idents) refl))

-- idents that are told apart
first_false : (a b : Bool) → (a || b) ≡ false → a ≡ false
first_false true b e = e
first_false false b e = refl

second_false : (a b : Bool) → (a || b) ≡ false → b ≡ false
second_false true b e = absurd cc
second_false false b e = e

abbrev Differs : Ident → Ident → Type 0
Differs x y = same_ident x y ≡ false

differ_all : (x : Ident) (ys : List Ident) → list_any (same_ident x) ys ≡ false → All (Differs x) ys
differ_all x [] e = All-nil (Differs x)
differ_all x (y ∷ ys) e = All-cons (Differs x) y ys (first_false (same_ident x y) (list_any (same_ident x) ys) e) (differ_all x ys (second_false (same_ident x y) (list_any (same_ident x) ys) e))

none_pairs : AllPairs Differs []
none_pairs = λ i j d lt less. absurd (omega (arith, less))

apart_if : (a b : Bool) → (not a && b) ≡ true → (a ≡ false) × (b ≡ true)
apart_if true b e = absurd cc
apart_if false b e = (refl, e)

are_apart : (xs : List Ident) → are_distinct xs ≡ true → AllPairs (λ (x y : Ident). same_ident x y ≡ false) xs
are_apart [] e = none_pairs
are_apart (x ∷ xs) e =
    let h = apart_if (list_any (same_ident x) xs) (are_distinct xs) e in
    AllPairs-cons Differs x xs (differ_all x xs h.0) (are_apart xs h.1)

-- what the code asks, and with the manager's facts all
pub preparable : (channel : List ℕ) (b : Batch) (session : ℕ) (p : Plain) → batch_of channel p.channels.batches ≡ Some b → IsNumbered b.unit × (b.unit.session ≤ session) → session ≡ (sender_or (sender_data channel p)).session → are_distinct b.idents ≡ true → MayPrepare channel p
preparable channel b session p own unit is apart = record { batch = b; own = own; unit = unit.0; session = subst (λ (n : ℕ). b.unit.session ≤ n) is unit.1; apart = are_apart b.idents apart }

pub can_prepare : (channel : List ℕ) (p : Plain) → IsWell p → IsUp p → MayPrepare channel p → CanPrepare channel p
can_prepare channel p w up k = record {
  batch = k.batch;
  own = k.own;
  fits = record { unit = k.unit; session = k.session; doubt = (w.up up).facts.batched.one channel k.batch k.own; apart = k.apart; rows = none_in_doubt channel k.batch p (w.up up) k.own };
}
