-- The ledger of a story, spot by spot.
use Rattle.std.proofs.Common.{◌≡◌, List, [], ◌∷◌, ◌++◌, Option, None, Some, refl, ap, sym, ◌∙◌}
use Rattle.mq_history.specs.declared.calls.Entry.{Entry}
use Rattle.mq_history.specs.declared.history.History.{History}
use Rattle.mq_spec_network.specs.Story.{Line}
use Rattle.mq_spec_network.specs.Ledger.{Ledger, posted, ledger}
use Rattle.mq_story.specs.declared.merging.Spot.{Spot}
use Rattle.mq_story.specs.Spots.{entry_of, line_if, line_at, lines_of}
use Rattle.mq_net_ledger.specs.Spots.{ledger_spots}

pub spot_none : (hs : List History) (spot : Spot) (l : Ledger) → entry_of hs spot ≡ None → ledger l (line_at hs spot) ≡ l
spot_none hs spot l none = ap (λ (o : Option Entry). ledger l (line_if spot.manager o)) none

pub spot_entry : (hs : List History) (spot : Spot) (l : Ledger) (e : Entry) → entry_of hs spot ≡ Some e → ledger l (line_at hs spot) ≡ posted spot.manager e e.reply l
spot_entry hs spot l e some = ap (λ (o : Option Entry). ledger l (line_if spot.manager o)) some

one_after_another : (l : Ledger) (xs ys : List Line) → ledger l (xs ++ ys) ≡ ledger (ledger l xs) ys
one_after_another l [] ys = refl
one_after_another l (x ∷ xs) ys = one_after_another (posted x.manager x.entry x.entry.reply l) xs ys

pub whole : (hs : List History) (spots : List Spot) (l : Ledger) → ledger_spots hs spots l ≡ ledger l (lines_of hs spots)
whole hs [] l = refl
whole hs (x ∷ xs) l = whole hs xs (ledger l (line_at hs x)) ∙ sym (one_after_another l (line_at hs x) (lines_of hs xs))
