-- What is a node's own begins, and is as the scenario gives it again.
use Rattle.std.proofs.Common.{◌≡◌, ℕ, ◌==◌, Bool, true, false, List, [], ◌∷◌, ◌++◌, refl, ap, ◌∙◌}
use Rattle.std.specs.Prelude.{if◌then◌else◌, map, suc}
use Rattle.std.proofs.lemmas.List.{map-append}
use Rattle.mq_history.specs.declared.scenario.CableLine.{CableLine}
use Rattle.mq_history.specs.declared.scenario.Scenario.{Scenario}
use Rattle.mq_calls.specs.State.{Plain}
use Rattle.mq_spec_node.specs.Words.{ChannelEnd, begun_anew, end_begun}
use Rattle.mq_spec_network.specs.Given.{end_at, ends_from, own_at, receives_at, sends_from}
use Rattle.mq_owned.proofs.OwnLaws.{handlers_untried}
use Rattle.mq_world_begin.specs.Rested.{as_given, end_given}

end_again : (p : Plain) (s : Scenario) (m n : ℕ) (c : CableLine) → map end_given (map (end_begun p) (end_at s m n c)) ≡ end_at s m n c
end_again p s m n c = by_ends (c.sender == m) (c.receiver == m)
  where
    by_ends : (a b : Bool) → map end_given (map (end_begun p) (if a then sends_from s n c else (if b then receives_at s n c else []))) ≡ (if a then sends_from s n c else (if b then receives_at s n c else []))
    by_ends true b = refl
    by_ends false true = refl
    by_ends false false = refl

ends_again : (p : Plain) (s : Scenario) (m n : ℕ) (cs : List CableLine) → map end_given (map (end_begun p) (ends_from s m n cs)) ≡ ends_from s m n cs
ends_again p s m n [] = refl
ends_again p s m n (c ∷ cs) =
    ap (map end_given) (map-append (end_begun p) (end_at s m n c) (ends_from s m (suc n) cs))
    ∙ map-append end_given (map (end_begun p) (end_at s m n c)) (map (end_begun p) (ends_from s m (suc n) cs))
    ∙ ap (λ (es : List ChannelEnd). es ++ map end_given (map (end_begun p) (ends_from s m (suc n) cs))) (end_again p s m n c)
    ∙ ap (λ (es : List ChannelEnd). end_at s m n c ++ es) (ends_again p s m (suc n) cs)

-- all of it
pub given_again : (s : Scenario) (m : ℕ) (p : Plain) → as_given (begun_anew p (own_at s m)).own ≡ own_at s m
given_again s m p = λ i. record { ends = ends_again p s m 0 s.cables i; handlers = handlers_untried m 0 s.rules i; monitors = (own_at s m).monitors; scripts = (own_at s m).scripts }
