-- Loops over entries and histories, one step on.
use Rattle.std.proofs.Common.{ℕ, ◌≡◌, ◌+◌, ◌<◌, Bool, List, [], ◌∷◌, ◌++◌, ap, sym, ◌∙◌, arith, length, take, drop, get_or, append_assoc}
use Rattle.std.specs.Prelude.{if◌then◌else◌, Some, count_by}
use Rattle.std.proofs.lemmas.List.{drop_more, take_more}
use Rattle.mq_history.specs.declared.calls.Entry.{Entry}
use Rattle.mq_history.specs.declared.history.History.{History}
use Rattle.mq_history.specs.declared.scenario.Scenario.{Scenario}
use Rattle.mq_net_report.specs.Steps.{is_start, starts_in, turns_in, is_turn, in_step}

sum_assoc : (a b c : ℕ) → a + b + c ≡ a + (b + c)
sum_assoc a b c = omega arith

-- one entry more
pub starts_step : (s : Scenario) (k m : ℕ) (before es since : List Entry) (at : ℕ) (e : Entry) (flag : Bool) (n sum total : ℕ) → at < length es → e ≡ get_or es at e → since ≡ take at es → flag ≡ is_start s k m (before ++ since) e → sum ≡ n + (if flag then 1 else 0)
    → n + starts_in s k m (before ++ take at es) (drop at es) ≡ total → sum + starts_in s k m (before ++ take (at + 1) es) (drop (at + 1) es) ≡ total
starts_step s k m before es since at e flag n sum total lt is front test more so_far =
    ap (λ (x : ℕ). x + starts_in s k m (before ++ take (at + 1) es) (drop (at + 1) es)) (more ∙ ap (λ (b : Bool). n + (if b then 1 else 0)) (test ∙ ap (λ (l : List Entry). is_start s k m (before ++ l) e) front))
    ∙ sum_assoc n (if is_start s k m (before ++ take at es) e then 1 else 0) (starts_in s k m (before ++ take (at + 1) es) (drop (at + 1) es))
    ∙ ap (λ (l : List Entry). n + ((if is_start s k m (before ++ take at es) e then 1 else 0) + starts_in s k m l (drop (at + 1) es))) longer
    ∙ ap (λ (l : List Entry). n + starts_in s k m (before ++ take at es) l) (sym split)
    ∙ so_far
  where
    split : drop at es ≡ e ∷ drop (at + 1) es
    split = drop_more es at e lt ∙ ap (λ (x : Entry). x ∷ drop (at + 1) es) (sym is)

    longer : before ++ take (at + 1) es ≡ (before ++ take at es) ++ e ∷ []
    longer = ap (λ (l : List Entry). before ++ l) (take_more es at e lt ∙ ap (λ (x : Entry). take at es ++ x ∷ []) (sym is)) ∙ sym (append_assoc before (take at es) (e ∷ []))

-- one history more
abbrev turns_one : ℕ → History → ℕ
turns_one step h = count_by is_turn (in_step step (Some h))

pub turns_step : (step : ℕ) (hs : List History) (at : ℕ) (h : History) (n more sum total : ℕ) → at < length hs → h ≡ get_or hs at h → more ≡ count_by is_turn (in_step step (Some h)) → sum ≡ n + more
    → n + turns_in step (drop at hs) ≡ total → sum + turns_in step (drop (at + 1) hs) ≡ total
turns_step step hs at h n more sum total lt is one two so_far =
    ap (λ (x : ℕ). x + turns_in step (drop (at + 1) hs)) (two ∙ ap (λ (x : ℕ). n + x) one)
    ∙ sum_assoc n (turns_one step h) (turns_in step (drop (at + 1) hs))
    ∙ ap (λ (l : List History). n + turns_in step l) (sym split) ∙ so_far
  where
    split : drop at hs ≡ h ∷ drop (at + 1) hs
    split = drop_more hs at h lt ∙ ap (λ (x : History). x ∷ drop (at + 1) hs) (sym is)
