-- The record of a unit in doubt in the body.
use Rattle.std.proofs.Common.{◌≡◌, ℕ, suc, ◌+◌, ◌-◌, ◌<◌, ◌≤◌, ◌^◌, true, List, [], ◌∷◌, ◌++◌, length, get_or, drop, ap, sym, subst, ◌∙◌, append_assoc, add-one, drop-cons, arith}
use Rattle.std.specs.Prelude.{◌*◌}
use Rattle.std.specs.List.{flat_map, AllByRecursion}
use Rattle.std.proofs.lemmas.List.{length-append}
use Rattle.std.proofs.lemmas.Bool.Decides.{nat_tests}
use Rattle.mq_message.specs.declared.message.Ident.{Ident}
use Rattle.mq_frame.specs.Frames.{ident_bytes, IsIdent}
use Rattle.mq_record.specs.Room.{Buffered, with_piece}
use Rattle.mq_record.proofs.SizeLaws.{ident_whole}
use Rattle.mq_calls.specs.Words.{is_full}
use Rattle.mq_core.specs.Views.{PartsValue, plain_of}
use Rattle.mq_agents.specs.Removing.{ident_put}
use Rattle.mq_core.specs.Ties.{Tied}

with_two : (a b : List ℕ) (x : Buffered) → with_piece b (with_piece a x) ≡ with_piece (a ++ b) x
with_two a b x =
    let bytes : (x.bytes ++ a) ++ b ≡ x.bytes ++ (a ++ b) = append_assoc x.bytes a b in
    let room : x.room - length a - length b ≡ x.room - length (a ++ b) = omega (arith, length-append a b) in
    λ i. record { bytes = bytes i; room = room i }

left_at : (ids : List Ident) (i : ℕ) (id : Ident) → i < length ids → id ≡ get_or ids i id → drop i ids ≡ id ∷ drop (i + 1) ids
left_at ids i id lt is = drop-cons ids i id lt ∙ ap (λ (x : Ident). x ∷ drop (suc i) ids) (sym is) ∙ ap (λ (n : ℕ). id ∷ drop n ids) (sym (add-one i))

-- the idents that are left, and room for them
pub record PutsLeft (ids : List Ident) (i : ℕ) (start b : Buffered) : Type 0 where
  pub bytes : with_piece (flat_map ident_bytes (drop i ids)) b ≡ with_piece (flat_map ident_bytes ids) start
  pub room : 17 * length (drop i ids) ≤ b.room
  pub idents : AllByRecursion IsIdent (drop i ids) → AllByRecursion IsIdent ids

pub put_fits : (ids : List Ident) (i : ℕ) (start b : Buffered) (id : Ident) → i < length ids → id ≡ get_or ids i id → PutsLeft ids i start b → 17 ≤ b.room
put_fits ids i start b id lt is s =
    let room : 17 * length (id ∷ drop (i + 1) ids) ≤ b.room = subst (λ (xs : List Ident). 17 * length xs ≤ b.room) (left_at ids i id lt is) s.room in
    omega (arith, room)

pub put_next : (ids : List Ident) (i : ℕ) (start b c : Buffered) (id : Ident) → i < length ids → id ≡ get_or ids i id → c ≡ ident_put id b → IsIdent id → PutsLeft ids i start b → PutsLeft ids (i + 1) start c
unfolding ident_put
put_next ids i start b c id lt is put ident s =
    let left = left_at ids i id lt is in
    let rest : List Ident = drop (i + 1) ids in
    let room : 17 * length (id ∷ rest) ≤ b.room = subst (λ (xs : List Ident). 17 * length xs ≤ b.room) left s.room in
    let whole = ident_whole id in
    let less = ap (λ (z : Buffered). z.room) put in
    record {
      bytes = ap (with_piece (flat_map ident_bytes rest)) put ∙ with_two (ident_bytes id) (flat_map ident_bytes rest) b ∙ ap (λ (xs : List Ident). with_piece (flat_map ident_bytes xs) b) (sym left) ∙ s.bytes;
      room = omega (arith, room, whole, less);
      idents = λ more. s.idents (subst (AllByRecursion IsIdent) (sym left) (ident, more));
    }

pub idents_length : (ids : List Ident) → length (flat_map ident_bytes ids) ≡ 17 * length ids
idents_length [] = omega arith
idents_length (id ∷ ids) = let here = ident_whole id in let rest = idents_length ids in let sum = length-append (ident_bytes id) (flat_map ident_bytes ids) in omega (arith, here, rest, sum)

-- what is longer than any log has no room in it
pub full_long : (x : PartsValue) (n : ℕ) → Tied x → 2 ^ 32 ≤ n → is_full n (plain_of x) ≡ true
full_long x n t le = let most = t.max in grind (arith, nat_tests, most, le)

pub put_step : (ids : List Ident) (i : ℕ) (start b c : Buffered) (id : Ident) → c ≡ ident_put id b → IsIdent id → PutsLeft ids i start b → i < length ids → id ≡ get_or ids i id → PutsLeft ids (i + 1) start c
put_step ids i start b c id put ident s lt is = put_next ids i start b c id lt is put ident s
