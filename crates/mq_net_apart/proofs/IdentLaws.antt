-- What a manager's log knew.
use Rattle.std.proofs.Common.{ℕ, zero, suc, ◌≡◌, ◌+◌, ◌-◌, List, [], ◌∷◌, Some, refl, ap, ◌∙◌, arith}
use Rattle.std.specs.Prelude.{slice_get}
use Rattle.std.specs.List.{flat_map}
use Rattle.mq_message.specs.declared.message.Ident.{Ident}
use Rattle.mq_history.specs.declared.history.History.{History}
use Rattle.mq_history.specs.declared.scenario.Scenario.{Scenario}
use Rattle.mq_spec_network.specs.Standing.{managers_from, opening_managers}
use Rattle.mq_spec_network.specs.Apart.{known, maker, idents_apart, standing_idents, row_idents}
use Rattle.mq_net_apart.specs.Opened.{known_in, opened_known, opened_standing, all_of}
use Rattle.mq_net_apart.proofs.RowLaws.{all_opened, standing_opened}

one_less : (n : ℕ) → n + 0 + 1 - 1 ≡ n
one_less n = omega arith

known_from : (s : Scenario) (m k : ℕ) (hs : List History) → known (slice_get (managers_from s m [] hs) k) ≡ known_in (slice_get hs k)
known_from s m zero [] = refl
known_from s m (suc k) [] = refl
known_from s m zero (h ∷ hs) = ap (λ (n : ℕ). Some n) (one_less h.opening.incarnation)
known_from s m (suc k) (h ∷ hs) = known_from s (suc m) k hs

pub known_opened : (s : Scenario) (hs : List History) (number : ℕ) → known (maker (opening_managers s hs) number) ≡ opened_known hs number
known_opened s hs zero = refl
known_opened s hs (suc m) = known_from s 0 m hs

-- the idents of the logs are those of the managers
pub same_rows : (s : Scenario) (hs : List History) → idents_apart (opening_managers s hs) (opened_standing s (opening_managers s hs) 0 hs) (flat_map all_of hs) ≡ idents_apart (opening_managers s hs) (standing_idents s (opening_managers s hs)) (row_idents (opening_managers s hs))
same_rows s hs =
    ap (λ (is : List Ident). idents_apart (opening_managers s hs) is (flat_map all_of hs)) (standing_opened s hs)
    ∙ ap (λ (is : List Ident). idents_apart (opening_managers s hs) (standing_idents s (opening_managers s hs)) is) (all_opened s hs)
