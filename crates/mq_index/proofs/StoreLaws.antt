-- A store stays one, as a row comes, goes and changes at its slot.
use Rattle.std.proofs.Common.{◌≡◌, ℕ, zero, suc, ◌<◌, ◌≤◌, Bool, true, false, List, [], ◌∷◌, length, refl, sym, ap, subst, ◌∙◌, arith}
use Rattle.std.specs.Prelude.{Option, None, Some, if◌then◌else◌, not, slice_get, slice_set}
use Rattle.mq_message.specs.declared.place.Holder.{Holder}
use Rattle.mq_queue.specs.declared.row.Row.{Row}
use Rattle.mq_queue.specs.Rows.{is_free}
use Rattle.mq_queue.specs.Queues.{freed}
use Rattle.mq_index.specs.declared.index.Index.{Index}
use Rattle.mq_index.specs.declared.chain.Chain.{Chain}
use Rattle.mq_index.specs.declared.keys.Key.{Key}
use Rattle.mq_index.specs.declared.keys.Kind.{Kind}
use Rattle.mq_index.specs.declared.keys.Kind.TheVariants.{Lane, MsgId, CorrelId}
use Rattle.mq_index.specs.Keys.{keyed}
use Rattle.mq_index.specs.Chains.{HasRoom, IsChainOf}
use Rattle.mq_index.specs.Slots.{IsAlike, freed_so, held_so, row_in}
use Rattle.mq_index.specs.Stores.{HaveRoom, IsIndex}
use Rattle.mq_index.proofs.KeyedLaws.{keyed_same}
use Rattle.mq_index.proofs.ListLaws.{some_is}
use Rattle.mq_index.proofs.SlotLaws.{alike_key}

-- the row of a slot
pub there_so : (o : Option (Option Row)) (row : Row) → Some row ≡ row_in o → o ≡ Some (Some row)
there_so None row e = absurd cc
there_so (Some slot) row e = ap Some (sym e)

pub empty_so : (slots : List (Option Row)) (at : ℕ) → at < length slots → None ≡ row_in (slice_get slots at) → slice_get slots at ≡ Some None
empty_so [] at lt e = absurd (omega (arith, lt))
empty_so (s ∷ slots) zero lt e = ap Some (sym e)
empty_so (s ∷ slots) (suc at) lt e = empty_so slots at (omega (arith, lt)) e

-- an empty slot stays as it is when it is emptied
pub empty_set : (slots : List (Option Row)) (at : ℕ) → slice_get slots at ≡ Some None → slots ≡ slice_set slots at None
empty_set [] zero e = absurd cc
empty_set [] (suc at) e = absurd cc
empty_set (s ∷ slots) zero e = ap (λ (x : Option Row). x ∷ slots) (some_is s None e)
empty_set (s ∷ slots) (suc at) e = ap (λ (xs : List (Option Row)). s ∷ xs) (empty_set slots at e)

-- and so does one whose row stays
pub same_set : (slots : List (Option Row)) (at : ℕ) (row : Row) → slice_get slots at ≡ Some (Some row) → slots ≡ slice_set slots at (Some row)
same_set [] zero row e = absurd cc
same_set [] (suc at) row e = absurd cc
same_set (s ∷ slots) zero row e = ap (λ (x : Option Row). x ∷ slots) (some_is s (Some row) e)
same_set (s ∷ slots) (suc at) row e = ap (λ (xs : List (Option Row)). s ∷ xs) (same_set slots at row e)

-- less memory is there too
chain_less : (m n : ℕ) (c : Chain) → m ≤ n → HasRoom n c → HasRoom m c
chain_less m n c le h = record { nexts = omega (arith, le, h.nexts); prevs = omega (arith, le, h.prevs); ends = omega (arith, le, h.ends) }

pub room_less : (m n : ℕ) (i : Index) → m ≤ n → HaveRoom n i → HaveRoom m i
room_less m n i le h = record { lanes = chain_less m n i.lanes le h.lanes; msgs = chain_less m n i.msgs le h.msgs; correls = chain_less m n i.correls le h.correls }

-- a row that changes at its slot keeps its keys
chain_alike : (kind : Kind) (slots : List (Option Row)) (at : ℕ) (row new : Row) (c : Chain) → slice_get slots at ≡ Some (Some row) → IsAlike row new → IsChainOf (keyed kind slots) c → IsChainOf (keyed kind (slice_set slots at (Some new))) c
chain_alike kind slots at row new c there like h = subst (λ (ks : List (Option Key)). IsChainOf ks c) (sym (keyed_same kind slots at row new there (alike_key slots at row new there like kind))) h

pub index_alike : (slots : List (Option Row)) (at : ℕ) (row new : Row) (i : Index) → slice_get slots at ≡ Some (Some row) → IsAlike row new → IsIndex slots i → IsIndex (slice_set slots at (Some new)) i
index_alike slots at row new i there like h = record {
  lanes = chain_alike Lane slots at row new i.lanes there like h.lanes;
  msgs = chain_alike MsgId slots at row new i.msgs there like h.msgs;
  correls = chain_alike CorrelId slots at row new i.correls there like h.correls;
}

-- A HOLD AND A RELEASE
module _ (slots : List (Option Row)) (at : ℕ) where
  pub not_empty : {P : Type 0} (row : Row) → None ≡ row_in (slice_get slots at) → slice_get slots at ≡ Some (Some row) → P
  not_empty row e there = absurd (let no : None ≡ Some row = e ∙ ap row_in there in cc)

  one_row : (seen row : Row) → slice_get slots at ≡ Some (Some seen) → slice_get slots at ≡ Some (Some row) → row ≡ seen
  one_row seen row e f = some_is row seen (some_is (Some row) (Some seen) (sym f ∙ e))

  pub held_not : (by : Holder) (seen row : Row) → slice_get slots at ≡ Some (Some seen) → slice_get slots at ≡ Some (Some row) → is_free seen ≡ false → (false ≡ is_free row) × (slots ≡ slice_set slots at (Some (held_so by row)))
  held_not by seen row e f held =
      let now : is_free row ≡ false = ap is_free (one_row seen row e f) ∙ held in
      (sym now, same_set slots at row f ∙ ap (λ (b : Bool). slice_set slots at (Some (if b then record row { by = Some by } else row))) (sym now))

  pub held_now : (by : Holder) (seen row : Row) (more : List (Option Row)) → slice_get slots at ≡ Some (Some seen) → slice_get slots at ≡ Some (Some row) → is_free seen ≡ true → more ≡ slice_set slots at (Some (record seen { by = Some by })) → (true ≡ is_free row) × (more ≡ slice_set slots at (Some (held_so by row)))
  held_now by seen row more e f free is =
      let now : is_free row ≡ true = ap is_free (one_row seen row e f) ∙ free in (
        sym now,
        is ∙ ap (λ (r : Row). slice_set slots at (Some (record r { by = Some by }))) (sym (one_row seen row e f)) ∙ ap (λ (b : Bool). slice_set slots at (Some (if b then record row { by = Some by } else row))) (sym now),
      )

  pub freed_not : (backed_out : Bool) (seen row : Row) → slice_get slots at ≡ Some (Some seen) → slice_get slots at ≡ Some (Some row) → is_free seen ≡ true → (false ≡ not (is_free row)) × (slots ≡ slice_set slots at (Some (freed_so backed_out row)))
  freed_not backed_out seen row e f free =
      let now : is_free row ≡ true = ap is_free (one_row seen row e f) ∙ free in
      (sym (ap not now), same_set slots at row f ∙ ap (λ (b : Bool). slice_set slots at (Some (if b then row else freed backed_out row))) (sym now))

  pub freed_now : (backed_out : Bool) (seen row : Row) (more : List (Option Row)) → slice_get slots at ≡ Some (Some seen) → slice_get slots at ≡ Some (Some row) → is_free seen ≡ false → more ≡ slice_set slots at (Some (freed backed_out seen)) → (true ≡ not (is_free row)) × (more ≡ slice_set slots at (Some (freed_so backed_out row)))
  freed_now backed_out seen row more e f held is =
      let now : is_free row ≡ false = ap is_free (one_row seen row e f) ∙ held in (
        sym (ap not now),
        is ∙ ap (λ (r : Row). slice_set slots at (Some (freed backed_out r))) (sym (one_row seen row e f)) ∙ ap (λ (b : Bool). slice_set slots at (Some (if b then row else freed backed_out row))) (sym now),
      )

pub was_false : (b : Bool) → not b ≡ true → b ≡ false
was_false true e = absurd cc
was_false false e = refl

pub was_true : (b : Bool) → not b ≡ false → b ≡ true
was_true true e = refl
was_true false e = absurd cc

-- what is read where a row was set
pub set_read : (slots : List (Option Row)) (at : ℕ) (new : Row) → at < length slots → slice_get (slice_set slots at (Some new)) at ≡ Some (Some new)
set_read [] at new lt = absurd (omega (arith, lt))
set_read (s ∷ slots) zero new lt = refl
set_read (s ∷ slots) (suc at) new lt = set_read slots at new (omega (arith, lt))
