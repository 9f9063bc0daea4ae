-- Over a prefix without conflict, no unit that an entry tells as committed was backed out.
use Rattle.std.proofs.Common.{ℕ, ◌≡◌, true, List, [], ◌∷◌, ◌++◌, refl, inl, inr, arith}
use Rattle.std.specs.Prelude.{◌||◌}
use Rattle.std.specs.Str.{bytes_eq}
use Rattle.std.proofs.lemmas.Bool.Decides.{nat_tests}
use Rattle.mq_sync.specs.declared.unit.Unit.{Unit as Luw}
use Rattle.mq_sync.specs.Units.{same_unit}
use Rattle.mq_calls.specs.declared.deltas.Did.{Did}
use Rattle.mq_calls.specs.declared.deltas.Did.TheVariants as did
use Rattle.mq_history.specs.declared.history.History.{History}
use Rattle.mq_history.specs.declared.scenario.Scenario.{Scenario}
use Rattle.mq_spec_network.specs.Conflict.{Deed, NoConflict, deeds}
use Rattle.mq_spec_network.specs.Standing.{opening_managers}
use Rattle.mq_spec_network.specs.Story.{Line, Mem}
use Rattle.mq_law_channel.specs.Channel.{Channel, Past}
use Rattle.mq_law_manager.proofs.Lists.{bool_case, name_yes}
use Rattle.mq_law_turns.proofs.from_law_rows.Lists.{and_left, and_right}
use Rattle.mq_law_node.specs.Nodes.{FarAgreed, has_received, is_received}
use Rattle.mq_law_turns.specs.Agreed.{IsToldOf}
use Rattle.mq_law_turns.proofs.Agreeing as agreeing
use Rattle.mq_law_deeds.proofs.Telling.{in_prefix}

unit_yes : (u v : Luw) → same_unit u v ≡ true → u ≡ v
unit_yes u v e = grind (arith, nat_tests)

is_told : (c : List ℕ) (u : Luw) (d : Did) → is_received c u d ≡ true → did.Received c u ≡ d
is_told c u (did.Received other v) e =
    let p : c ≡ other = name_yes c other (and_left (bytes_eq c other) (same_unit u v) e) in
    let q : u ≡ v = unit_yes u v (and_right (bytes_eq c other) (same_unit u v) e) in
    λ i. did.Received (p i) (q i)
is_told c u (did.Placed a b x) e = absurd cc
is_told c u d e = absurd cc

told_there : (c : List ℕ) (u : Luw) (ds : List Did) → has_received c u ds ≡ true → Mem (did.Received c u) ds
told_there c u [] e = absurd cc
told_there c u (d ∷ ds) e = bool_case (is_received c u d) (λ t. is_received c u d ≡ t → (t || has_received c u ds) ≡ true → Mem (did.Received c u) (d ∷ ds))
    (λ z f k. inl (is_told c u d f)) (λ z f k. inr (told_there c u ds k)) refl e

pub entries_agree : (s : Scenario) (hs : List History) (p : List Line) (ds es : List Deed) (m : ℕ) (c : List ℕ) (x : Channel) (y : Past) (l : Line) → NoConflict s hs p → deeds p ≡ ds ++ es → IsToldOf s (opening_managers s hs) ds m c x y → Mem l p
    → FarAgreed c l.entry.effect.delta y
entries_agree s hs p ds es m c x y l none parts k n = λ u e.
    agreeing.agreed s hs p ds es m l.manager c x y u none parts k (in_prefix p l (did.Received c u) n (told_there c u l.entry.effect.delta e))
