-- The rule of a direction that threads share, and what each step tells the pass that makes it.
use Rattle.std.specs.Prelude.{◌≡◌, ℕ, ◌≤◌, ◌^◌, Bool, true, List, [], ◌∷◌, ◌++◌, length}
use mathlib.Core.Option.{some}
use lib.ListN.{get_elem?}
use Rattle.mq_cable.specs.declared.item.Item.{Item}
use Rattle.mq_cable.specs.Lists.{AllLow}
use Rattle.mq_ruled.specs.declared.rule.PassView.{PassView}

-- no stamp above 2^60
abbrev pub IsLowItem : Item → Type 0
IsLowItem x = x.stamp ≤ 2 ^ 60

abbrev pub knows : (pushes pops : Bool) → (sent received : List Item) → PassView
knows pushes pops sent received = record { pushes = pushes; pops = pops; sent = sent; received = received }

abbrev pub no_item : Item
no_item = record { stamp = 0; bytes = [] }

-- only the writer's pass pushes, and it has the list of what was sent; the same of the reader's
abbrev pub PassFits : (writer reader : ℕ) → (sent received : List Item) → (pass : ℕ) → PassView → Type 0
PassFits writer reader sent received pass v =
    (v.pushes ≡ true → (pass ≡ writer) × (v.sent ≡ sent)) × (v.pops ≡ true → (pass ≡ reader) × (v.received ≡ received))

-- what a direction may hold: at most 64 items, with low stamps
abbrev pub Fine : List Item → Type 0
Fine items = AllLow items × (length items ≤ 64)

-- the rule: what was sent is what was received and then what the direction holds
abbrev pub InOrder : (items : List Item) → (views : List PassView) → Type 0
InOrder items views =
    (writer : ℕ) × (reader : ℕ) × (sent : List Item) × (received : List Item) × (sent ≡ received ++ items) × Fine items
    × ((pass : ℕ) (v : PassView) → get_elem? views pass ≡ some v → PassFits writer reader sent received pass v)

-- a pass that pushes knows of what it sent that the last items are those held; one that does both, that the others are received
abbrev pub Known : PassView → (items : List Item) → Type 0
Known v items =
    (v.pushes ≡ true → (gone : List Item) × (v.sent ≡ gone ++ items)) × (v.pushes ≡ true → v.pops ≡ true → v.sent ≡ v.received ++ items) × Fine items

-- after a push
abbrev pub Pushed : PassView → Item → PassView → Type 0
Pushed v x w = w ≡ knows v.pushes v.pops (v.sent ++ x ∷ []) v.received

-- after a pop; a pass that does both knows the rest too
abbrev pub Popped : PassView → Item → PassView → Type 0
Popped v x w = IsLowItem x × (w ≡ knows v.pushes v.pops v.sent (v.received ++ x ∷ []))
    × (v.pushes ≡ true → (rest : List Item) × (v.sent ≡ (v.received ++ x ∷ []) ++ rest) × AllLow rest)
