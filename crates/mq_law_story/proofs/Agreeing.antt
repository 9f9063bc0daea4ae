-- Over a prefix without conflict each settlement of an operator is borne out: one that commits, by its receiver's commit;
-- one that backs out, since there is none.
use Rattle.std.proofs.Common.{ℕ, ◌≡◌, Bool, true, false, not, List, [], ◌∷◌, refl, ap, sym, ◌∙◌, inl, inr}
use Rattle.std.specs.Prelude.{Option, Some, None, ◌&&◌}
use Rattle.mq_sync.specs.declared.unit.Unit.{Unit as Luw}
use Rattle.mq_calls.specs.declared.agents.Note.TheVariants as notes
use Rattle.mq_calls.specs.declared.deltas.Did.TheVariants as did
use Rattle.mq_history.specs.declared.history.History.{History}
use Rattle.mq_history.specs.declared.story.Conflict.{Conflict}
use Rattle.mq_history.specs.declared.scenario.Scenario.{Scenario}
use Rattle.mq_calls.specs.State.{Plain}
use Rattle.mq_spec_network.specs.Story.{Line, Mem}
use Rattle.mq_spec_network.specs.Standing.{opening_managers}
use Rattle.mq_spec_network.specs.Conflict.{Deed, deeds, is_committed, agrees, conflict_of, conflict_in, or_else, first_conflict, NoConflict}
use Rattle.mq_law_seen.specs.from_law_rows.World.{Ghost}
use Rattle.mq_law_seen.specs.from_law_rows.Kinds.{AllBorne}
use Rattle.mq_law_story.specs.Told.{IsTold}
use Rattle.mq_law_seen.proofs.from_law_rows.Lists.{true_false, is_false}

rest_none : (a rest : Option Conflict) → or_else a rest ≡ None → (a ≡ None) × (rest ≡ None)
rest_none None rest e = (refl, e)
rest_none (Some c) rest e = absurd cc

each_none : (s : Scenario) (ps : List Plain) (whole ds : List Deed) (d : Deed) → first_conflict s ps whole ds ≡ None → Mem d ds → conflict_in s ps whole d ≡ None
each_none s ps whole [] d e n = absurd n
each_none s ps whole (x ∷ ds) d e (inl q) = ap (conflict_in s ps whole) q ∙ (rest_none (conflict_in s ps whole x) (first_conflict s ps whole ds) e).0
each_none s ps whole (x ∷ ds) d e (inr n) = each_none s ps whole ds d (rest_none (conflict_in s ps whole x) (first_conflict s ps whole ds) e).1 n

agreed : (m : ℕ) (c : List ℕ) (u : Luw) (t : Bool) → conflict_of m c u t ≡ None → t ≡ true
agreed m c u true e = refl
agreed m c u false e = absurd cc

pub commit_borne : (s : Scenario) (hs : List History) (p : List Line) (m : ℕ) (c : List ℕ) (u : Luw) → NoConflict s hs p → Mem (record { manager = m; did = did.Hardened c (notes.Resolved u true true) }) (deeds p)
    → is_committed s (opening_managers s hs) (deeds p) c u ≡ true
commit_borne s hs p m c u no_ n = agreed m c u (agrees s (opening_managers s hs) (deeds p) c u true) (each_none s (opening_managers s hs) (deeds p) (deeds p) _ no_ n)

pub backout_borne : (s : Scenario) (hs : List History) (p : List Line) (m : ℕ) (c : List ℕ) (u : Luw) → NoConflict s hs p → Mem (record { manager = m; did = did.Hardened c (notes.Resolved u false true) }) (deeds p)
    → is_committed s (opening_managers s hs) (deeds p) c u ≡ false
backout_borne s hs p m c u no_ n = unless (is_committed s (opening_managers s hs) (deeds p) c u) _ (agreed m c u (agrees s (opening_managers s hs) (deeds p) c u false) (each_none s (opening_managers s hs) (deeds p) (deeds p) _ no_ n))
  where
    unless : (a b : Bool) → (not a && b) ≡ true → a ≡ false
    unless true b e = absurd cc
    unless false b e = refl

-- so none is open where there is no conflict
pub none_open : (s : Scenario) (hs : List History) (p : List Line) (g : Ghost) → NoConflict s hs p → IsTold s hs p g → AllBorne g
none_open s hs p g no_ told m c u = is_false (g.operated m c u) (λ e. true_false (sym (commit_borne s hs p m c u no_ (told.resolved m c u e)) ∙ told.not_yet m c u e))
