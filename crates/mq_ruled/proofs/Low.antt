-- Lists of items whose stamps are low, and the first item of one.
use Rattle.std.proofs.Common.{◌≡◌, suc, List, [], ◌∷◌, ◌++◌, arith}
use Rattle.std.specs.Prelude.{Some}
use Rattle.std.proofs.lemmas.List.Elements.{All-append, All-nil, All-cons}
use Rattle.mq_cable.specs.declared.item.Item.{Item}
use Rattle.mq_cable.specs.Lists.{AllLow, first_of, after_first}
use Rattle.mq_ruled.specs.Rule.{IsLowItem}

pub none_low : AllLow []
none_low = All-nil IsLowItem

pub all_low-push : (xs : List Item) (x : Item) → AllLow xs → IsLowItem x → AllLow (xs ++ x ∷ [])
all_low-push xs x h l = All-append IsLowItem xs (x ∷ []) h (All-cons IsLowItem x [] l (All-nil IsLowItem))

pub all_low-tail : (xs : List Item) (x : Item) → AllLow (x ∷ xs) → AllLow xs
all_low-tail xs x h k d lt = h (suc k) d (omega (arith, lt))

pub all_low-head : (xs : List Item) (x : Item) → AllLow (x ∷ xs) → IsLowItem x
all_low-head xs x h = h 0 x (omega arith)

-- a list of which the first item is known
pub is_first : (xs rest : List Item) (x : Item) → Some x ≡ first_of xs → rest ≡ after_first xs → xs ≡ x ∷ rest
is_first [] rest x e r = absurd cc
is_first (y ∷ ys) rest x e r = cc
