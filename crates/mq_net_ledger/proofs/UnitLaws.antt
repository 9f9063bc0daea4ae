-- A unit that ends before its items are taken and placed leaves the same ledger as one that ends after.
use Rattle.std.proofs.Common.{ℕ, ◌≡◌, Bool, true, false, List, [], ◌∷◌, refl, ap, ◌∙◌}
use Rattle.mq_message.specs.declared.message.Ident.{Ident}
use Rattle.mq_calls.specs.declared.answers.Hconn.{Hconn}
use Rattle.mq_calls.specs.declared.state.Item.{Item}
use Rattle.mq_calls.specs.declared.state.Item.TheVariants.{Put, Take}
use Rattle.mq_spec_network.specs.Ledger.{Ledger, back_out, take_if, take_got, take_items, place, place_items, commit, unit_of, connection_of, is_placed_at, places_at}
use Rattle.mq_net_ledger.specs.Posts.{take_item, place_item}

taken_out : (m : ℕ) (hc : Hconn) (placed : Bool) (ident : Ident) (l : Ledger) → take_if placed m ident (back_out m hc l) ≡ back_out m hc (take_if placed m ident l)
taken_out m hc true ident l = refl
taken_out m hc false ident l = refl

got_out : (m : ℕ) (hc : Hconn) (ident : Ident) (l : Ledger) → take_got m ident (back_out m hc l) ≡ back_out m hc (take_got m ident l)
got_out m hc ident l = taken_out m hc (is_placed_at ident (places_at m l)) ident (record l { got = ident ∷ l.got })

items_taken_out : (m : ℕ) (hc : Hconn) (items : List Item) (l : Ledger) → take_items m items (back_out m hc l) ≡ back_out m hc (take_items m items l)
items_taken_out m hc [] l = refl
items_taken_out m hc (Put queue message ∷ items) l = items_taken_out m hc items l
items_taken_out m hc (Take queue ident persistent ∷ items) l =
    ap (take_items m items) (got_out m hc ident l) ∙ items_taken_out m hc items (take_got m ident l)

items_placed_out : (m : ℕ) (hc : Hconn) (items : List Item) (l : Ledger) → place_items m items (back_out m hc l) ≡ back_out m hc (place_items m items l)
items_placed_out m hc [] l = refl
items_placed_out m hc (Put queue message ∷ items) l = items_placed_out m hc items (place m queue message l)
items_placed_out m hc (Take queue ident persistent ∷ items) l = items_placed_out m hc items l

pub committed : (m : ℕ) (hc : Hconn) (l : Ledger) → place_items m (unit_of (connection_of m hc l)) (take_items m (unit_of (connection_of m hc l)) (back_out m hc l)) ≡ commit m hc l
committed m hc l =
    ap (place_items m (unit_of (connection_of m hc l))) (items_taken_out m hc (unit_of (connection_of m hc l)) l)
    ∙ items_placed_out m hc (unit_of (connection_of m hc l)) (take_items m (unit_of (connection_of m hc l)) l)

-- one item more
pub take_next : (m : ℕ) (item : Item) (items : List Item) (l : Ledger) → take_items m (item ∷ items) l ≡ take_items m items (take_item m item l)
take_next m (Put queue message) items l = refl
take_next m (Take queue ident persistent) items l = refl

pub place_next : (m : ℕ) (item : Item) (items : List Item) (l : Ledger) → place_items m (item ∷ items) l ≡ place_items m items (place_item m item l)
place_next m (Put queue message) items l = refl
place_next m (Take queue ident persistent) items l = refl
