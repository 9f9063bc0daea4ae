-- What a scenario gives a manager, as it begins.
use Rattle.std.proofs.Common.{◌≡◌, ℕ, ◌==◌, Bool, true, false, List, [], ◌∷◌, ◌++◌, refl, ap, sym, ◌∙◌}
use Rattle.std.specs.Prelude.{if◌then◌else◌, map, suc}
use Rattle.std.proofs.lemmas.List.{map-append}
use Rattle.mq_history.specs.declared.scenario.CableLine.{CableLine}
use Rattle.mq_history.specs.declared.scenario.RulesPart.{RulesPart}
use Rattle.mq_history.specs.declared.scenario.Scenario.{Scenario}
use Rattle.mq_calls.specs.State.{Plain}
use Rattle.mq_spec_node.specs.Words.{ChannelEnd, Handler, Monitor, Own, Script, begun_anew, end_begun}
use Rattle.mq_spec_network.specs.Given.{end_at, ends_from, handlers_from, monitors_from, own_at, scripts_from}
use Rattle.mq_owned.specs.Owned.{begun_from}

-- the ends that a scenario gives, each begun
pub begun_is : (p : Plain) (s : Scenario) (m n : ℕ) (cs : List CableLine) → begun_from p s m n cs ≡ map (end_begun p) (ends_from s m n cs)
begun_is p s m n [] = refl
begun_is p s m n (c ∷ cs) = ap (λ (es : List ChannelEnd). map (end_begun p) (end_at s m n c) ++ es) (begun_is p s m (suc n) cs) ∙ sym (map-append (end_begun p) (end_at s m n c) (ends_from s m (suc n) cs))

-- no dead letter was tried
pub handlers_untried : (m n : ℕ) (rs : List RulesPart) → map (λ (h : Handler). record h { tried = [] }) (handlers_from m n rs) ≡ handlers_from m n rs
handlers_untried m n [] = refl
handlers_untried m n (r ∷ rs) = by_manager (r.manager == m) (handlers_untried m (suc n) rs)
  where
    by_manager : (b : Bool) → map (λ (h : Handler). record h { tried = [] }) (handlers_from m (suc n) rs) ≡ handlers_from m (suc n) rs
        → map (λ (h : Handler). record h { tried = [] }) (if b then record { number = n; table = r.table; tried = [] } ∷ handlers_from m (suc n) rs else handlers_from m (suc n) rs) ≡ (if b then record { number = n; table = r.table; tried = [] } ∷ handlers_from m (suc n) rs else handlers_from m (suc n) rs)
    by_manager true e = ap (λ (hs : List Handler). record { number = n; table = r.table; tried = [] } ∷ hs) e
    by_manager false e = e

-- all of it
pub own_is : (p : Plain) (s : Scenario) (m : ℕ) (es : List ChannelEnd) (hs : List Handler) (ms : List Monitor) (ss : List Script) → es ≡ begun_from p s m 0 s.cables → hs ≡ handlers_from m 0 s.rules → ms ≡ monitors_from m 0 s.monitors → ss ≡ scripts_from m 0 s.scripts
    → record { ends = es; handlers = hs; monitors = ms; scripts = ss } ≡ (begun_anew p (own_at s m)).own
own_is p s m es hs ms ss ends handlers monitors scripts =
    let es_are : es ≡ map (end_begun p) (ends_from s m 0 s.cables) = ends ∙ begun_is p s m 0 s.cables in
    let hs_are : hs ≡ map (λ (h : Handler). record h { tried = [] }) (handlers_from m 0 s.rules) = handlers ∙ sym (handlers_untried m 0 s.rules) in
    λ i. record { ends = es_are i; handlers = hs_are i; monitors = monitors i; scripts = scripts i }
