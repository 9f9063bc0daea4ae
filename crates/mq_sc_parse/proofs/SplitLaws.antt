-- Keywords one after the other, as the reader meets them.
use Rattle.std.proofs.Common.{◌≡◌, ℕ, zero, suc, ◌+◌, ◌<◌, ◌≤◌, List, [], ◌∷◌, ◌++◌, length, drop, get_or, refl, sym, ap, ◌∙◌, append_assoc, add-one, arith}
use Rattle.std.proofs.Math.Seq.{drop-cons}
use Rattle.std.proofs.Math.ListN.{drop_of_length-le}
use Rattle.std.specs.Prelude.{None, position, not, min}
use Rattle.std.specs.List.{position_or_len}
use Rattle.std.proofs.lemmas.List.{append-nil, drop-drop}
use Rattle.std.proofs.lemmas.Bool.Decides.{nat_tests}
use Rattle.std.proofs.lemmas.List.Sums.{prefix_len-le-length}
use Rattle.mq_sc_lex.specs.declared.token.Token.{Token}
use Rattle.mq_sc_parse.specs.declared.splitting.Item.{Item}
use Rattle.mq_sc_parse.specs.Splitting.{is_bracket, item_at, item_len, items_from}

-- tokens that belong to a value are passed
pub passed : (ts : List Token) (n : ℕ) → items_from ts n ≡ items_from (drop (min n (length ts)) ts) 0
passed [] zero = refl
passed [] (suc n) = let none : min (suc n) 0 ≡ 0 = omega arith in rw none refl
passed (t ∷ ts) zero = let none : min 0 (suc (length ts)) ≡ 0 = omega arith in rw none refl
passed (t ∷ ts) (suc n) = let more : min (suc n) (suc (length ts)) ≡ suc (min n (length ts)) = omega arith in rw more (passed ts n)

pub item_more : (items : List Item) (t : Token) (after : List Token) (total : List Item) → items ++ items_from (t ∷ after) 0 ≡ total
    → (items ++ item_at t after ∷ []) ++ items_from (drop (min (item_len t after) (length after)) after) 0 ≡ total
item_more items t after total h = append_assoc items (item_at t after ∷ []) (items_from (drop (min (item_len t after) (length after)) after) 0) ∙ ap (λ (l : List Item). items ++ item_at t after ∷ l) (sym (passed after (item_len t after))) ∙ h

-- where no bracket is, all is before the first
pub no_bracket : (ts : List Token) → position is_bracket ts ≡ None → length ts ≡ position_or_len is_bracket ts
no_bracket ts e =
    let past : length ts ≤ position_or_len is_bracket ts = grind (arith, nat_tests) in
    let within : position_or_len is_bracket ts ≤ length ts = prefix_len-le-length (λ t. not (is_bracket t)) ts in
    omega arith

at_place : (ts : List Token) (at : ℕ) (t : Token) → at < length ts → t ≡ get_or ts at t → drop at ts ≡ t ∷ drop (at + 1) ts
at_place ts at t lt e = rw (add-one, drop-cons ts at t) (ap (λ (x : Token). x ∷ drop (suc at) ts) (sym e))

pub item_more_at : (items : List Item) (ts : List Token) (at : ℕ) (t : Token) (total : List Item) → at < length ts → t ≡ get_or ts at t → items ++ items_from (drop at ts) 0 ≡ total
    → (items ++ item_at t (drop (at + 1) ts) ∷ []) ++ items_from (drop (at + (1 + min (item_len t (drop (at + 1) ts)) (length (drop (at + 1) ts)))) ts) 0 ≡ total
item_more_at items ts at t total lt e h =
    let after : List Token = drop (at + 1) ts in
    let n : ℕ = min (item_len t after) (length after) in
    let sum : (at + 1) + n ≡ at + (1 + n) = omega arith in
    let same : drop n after ≡ drop (at + (1 + n)) ts = drop-drop n (at + 1) ts ∙ ap (λ (k : ℕ). drop k ts) sum in
    let so_far : items ++ items_from (t ∷ after) 0 ≡ total = ap (λ (l : List Token). items ++ items_from l 0) (sym (at_place ts at t lt e)) ∙ h in
    ap (λ (l : List Token). (items ++ item_at t after ∷ []) ++ items_from l 0) (sym same) ∙ item_more items t after total so_far

pub none_left : (items : List Item) (ts : List Token) (at : ℕ) (total : List Item) → length ts ≤ at → items ++ items_from (drop at ts) 0 ≡ total → items ≡ total
none_left items ts at total le h =
    let none : drop at ts ≡ [] = drop_of_length-le ts le in
    sym (append-nil items) ∙ ap (λ (l : List Token). items ++ items_from l 0) (sym none) ∙ h
