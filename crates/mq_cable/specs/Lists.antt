-- Words on lists of items.
use Rattle.std.specs.Prelude.{◌^◌, ◌≤◌, List, [], ◌∷◌, Option, None, Some, All}
use Rattle.mq_cable.specs.declared.item.Item.{Item}

-- the item, if there is one
abbrev pub list_of : Option Item → List Item
list_of None = []
list_of (Some x) = x ∷ []

abbrev pub first_of : List Item → Option Item
first_of [] = None
first_of (x ∷ xs) = Some x

-- what is left without the first
abbrev pub after_first : List Item → List Item
after_first [] = []
after_first (x ∷ xs) = xs

-- no stamp is above 2^60
abbrev pub AllLow : List Item → Type 0
AllLow xs = All (λ (x : Item). x.stamp ≤ 2 ^ 60) xs
