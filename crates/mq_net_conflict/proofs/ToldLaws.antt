-- What a story's deeds tell, entry by entry.
use Rattle.std.proofs.Common.{ℕ, ◌≡◌, ◌||◌, Bool, false, List, [], ◌∷◌, ◌++◌, Option, None, Some, refl, ap, sym, ◌∙◌, append-nil}
use Rattle.std.specs.List.{list_any}
use Rattle.std.proofs.lemmas.List.Folds.{list_any-append}
use Rattle.std.proofs.lemmas.List.Concat.{flat_map-append}
use Rattle.mq_calls.specs.declared.deltas.Did.{Did}
use Rattle.mq_history.specs.declared.calls.Entry.{Entry}
use Rattle.mq_history.specs.declared.history.History.{History}
use Rattle.mq_sync.specs.declared.unit.Unit.{Unit as Luw}
use Rattle.mq_spec_network.specs.Story.{Line}
use Rattle.mq_spec_network.specs.Conflict.{Told, Deed, deeds_in, deeds, told_by, told_after, commits, committed_in}
use Rattle.mq_story.specs.declared.merging.Spot.{Spot}
use Rattle.mq_story.specs.Spots.{entry_of, line_if, line_at, lines_of}
use Rattle.mq_net_conflict.specs.Told.{told_dids, told_spots, committed_at}

-- deeds of one entry, and of two lists of lines
pub deeds_entry : (m : ℕ) (e : Entry) → deeds (line_if m (Some e)) ≡ deeds_in m e.effect.delta
deeds_entry m e = append-nil (deeds_in m e.effect.delta)

pub deeds_append : (xs ys : List Line) → deeds (xs ++ ys) ≡ deeds xs ++ deeds ys
deeds_append xs ys = flat_map-append (λ (x : Line). deeds_in x.manager x.entry.effect.delta) xs ys

-- A receiver.
told_deeds : (channel : List ℕ) (m : ℕ) (ds : List Did) (t : Told) → told_after channel (deeds_in m ds) t ≡ told_dids channel ds t
told_deeds channel m [] t = refl
told_deeds channel m (d ∷ ds) t = told_deeds channel m ds (told_by channel d t)

pub told_none : (hs : List History) (spot : Spot) (channel : List ℕ) (t : Told) → entry_of hs spot ≡ None → told_after channel (deeds (line_at hs spot)) t ≡ t
told_none hs spot channel t none = ap (λ (o : Option Entry). told_after channel (deeds (line_if spot.manager o)) t) none

pub told_entry : (hs : List History) (spot : Spot) (channel : List ℕ) (t : Told) (e : Entry) → entry_of hs spot ≡ Some e → told_after channel (deeds (line_at hs spot)) t ≡ told_dids channel e.effect.delta t
told_entry hs spot channel t e some =
    ap (λ (o : Option Entry). told_after channel (deeds (line_if spot.manager o)) t) some
    ∙ ap (λ (ds : List Deed). told_after channel ds t) (deeds_entry spot.manager e)
    ∙ told_deeds channel spot.manager e.effect.delta t

told_append : (channel : List ℕ) (xs ys : List Deed) (t : Told) → told_after channel (xs ++ ys) t ≡ told_after channel ys (told_after channel xs t)
told_append channel [] ys t = refl
told_append channel (x ∷ xs) ys t = told_append channel xs ys (told_by channel x.did t)

pub told_lines : (hs : List History) (channel : List ℕ) (spots : List Spot) (t : Told) → told_spots hs channel spots t ≡ told_after channel (deeds (lines_of hs spots)) t
told_lines hs channel [] t = refl
told_lines hs channel (s ∷ ss) t =
    told_lines hs channel ss (told_after channel (deeds (line_at hs s)) t)
    ∙ sym (told_append channel (deeds (line_at hs s)) (deeds (lines_of hs ss)) t)
    ∙ ap (λ (ds : List Deed). told_after channel ds t) (sym (deeds_append (line_at hs s) (lines_of hs ss)))

-- A unit that was committed.
committed_deeds : (channel : List ℕ) (u : Luw) (m : ℕ) (ds : List Did) → committed_in channel u (deeds_in m ds) ≡ list_any (commits channel u) ds
committed_deeds channel u m [] = refl
committed_deeds channel u m (d ∷ ds) = ap (λ (b : Bool). commits channel u d || b) (committed_deeds channel u m ds)

pub committed_none : (hs : List History) (channel : List ℕ) (u : Luw) (spot : Spot) → entry_of hs spot ≡ None → committed_at hs channel u spot ≡ false
committed_none hs channel u spot none = ap (λ (o : Option Entry). committed_in channel u (deeds (line_if spot.manager o))) none

pub committed_entry : (hs : List History) (channel : List ℕ) (u : Luw) (spot : Spot) (e : Entry) → entry_of hs spot ≡ Some e → committed_at hs channel u spot ≡ list_any (commits channel u) e.effect.delta
committed_entry hs channel u spot e some =
    ap (λ (o : Option Entry). committed_in channel u (deeds (line_if spot.manager o))) some
    ∙ ap (committed_in channel u) (deeds_entry spot.manager e)
    ∙ committed_deeds channel u spot.manager e.effect.delta

pub committed_lines : (hs : List History) (channel : List ℕ) (u : Luw) (spots : List Spot) → list_any (committed_at hs channel u) spots ≡ committed_in channel u (deeds (lines_of hs spots))
committed_lines hs channel u [] = refl
committed_lines hs channel u (s ∷ ss) =
    ap (λ (b : Bool). committed_at hs channel u s || b) (committed_lines hs channel u ss)
    ∙ sym (list_any-append (λ (d : Deed). commits channel u d.did) (deeds (line_at hs s)) (deeds (lines_of hs ss)))
    ∙ ap (committed_in channel u) (sym (deeds_append (line_at hs s) (lines_of hs ss)))
