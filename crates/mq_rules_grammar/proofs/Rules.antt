-- What the pairs of a rule say, and why they say none, both ways.
use Rattle.std.proofs.Common.{◌≡◌, ◌⊎◌, ℕ, ℤ, Bool, true, false, cond, List, [], ◌∷◌, ◌++◌, Result, Ok, Err, refl, sym, ap, subst, ◌∙◌, append_assoc, append-nil, inl, inr}
use Rattle.std.specs.Prelude.{Option, Some, None, codes, ◌&&◌}
use Rattle.std.specs.List.{list_all}
use Rattle.std.specs.Str.{bytes_eq}
use Rattle.std.proofs.lemmas.Slice.Eq.{bytes_eq-Decides}
use Rattle.mq_rules.specs.declared.rule.NumberField.{NumberField}
use Rattle.mq_rules.specs.declared.rule.Condition.{Condition}
use Rattle.mq_rules.specs.declared.rule.Condition.TheVariants as conditions
use Rattle.mq_rules.specs.declared.rule.Target.{Target}
use Rattle.mq_rules.specs.declared.rule.Target.TheVariants as targets
use Rattle.mq_rules.specs.declared.rule.Action.{Action}
use Rattle.mq_rules.specs.declared.rule.Action.TheVariants as actions
use Rattle.mq_rules.specs.declared.rule.Rule.{Rule}
use Rattle.mq_rules_text.specs.declared.fault.Flaw.{Flaw}
use Rattle.mq_rules_text.specs.declared.fault.Flaw.TheVariants as flaws
use Rattle.mq_rules_text.specs.declared.keyword.Keyword.{Keyword}
use Rattle.mq_rules_text.specs.declared.keyword.Keyword.TheVariants as words
use Rattle.mq_rules_text.specs.declared.pairs.Pair.{Pair}
use Rattle.mq_rules_text.specs.declared.values.Verb.{Verb}
use Rattle.mq_rules_text.specs.declared.values.Verb.TheVariants as verbs
use Rattle.mq_rules_text.specs.declared.draft.Draft.{Draft}
use Rattle.mq_rules_text.specs.Faults.{and_then}
use Rattle.mq_rules_text.specs.Keywords.{is_control}
use Rattle.mq_rules_text.specs.Pairs.{allowed, distinct}
use Rattle.mq_rules_text.specs.Entries.{empty_draft, with_condition, with_number, number_test, with_verb, with_queue, with_manager, with_header, with_retries, put, put_word, drafted, forwarding, acting, finished, rule_of}
use Rattle.mq_rules_text.specs.Values.{queue_target, manager_target, number_value, ranged, yes_or_no, verb_of}
use Rattle.mq_rules_grammar.specs.Entries.{Each, IsOf, AreAllowed, AreTaken, Takes, Has, Lacks, IsSaid, IsOnto, AreConditions, IsForward, Acts, IsRule}
use Rattle.mq_rules_grammar.specs.Faults.{HasRuleFlaw}
use Rattle.mq_rules_grammar.proofs.Words.{either_keyword, are_allowed, allowed_is}
use Rattle.mq_rules_grammar.proofs.Values.{number_flaw, queue_flaw, manager_flaw, header_flaw, ranged_flaw, verb_flaw}
use Rattle.mq_rules_grammar.proofs.Said.{one_said, one_given, one_answer, value_of_pair}

abbrev ok_draft : Draft → Result Draft Flaw
ok_draft d = Ok d

abbrev err_draft : Flaw → Result Draft Flaw
err_draft flaw = Err flaw

abbrev some_key : Keyword → Option Keyword
some_key k = Some k

key_same : (j k : Keyword) → some_key j ≡ some_key k → j ≡ k
key_same j k e = cc

draft_same : (d e : Draft) → ok_draft d ≡ ok_draft e → d ≡ e
draft_same d e h = cc

flaw_same : (f g : Flaw) → err_draft f ≡ err_draft g → f ≡ g
flaw_same f g h = cc

-- ---- what one keyword changes

abbrev Changes : Keyword → List ℕ → (before after : Draft) → Type 0
Changes (words.Text f) v d e = e ≡ with_condition d (conditions.Text f v)
Changes (words.Number f) v d e = ((v ≡ codes "*") × (e ≡ d)) ⊎ ((v ≡ codes "*" → ⊥) × ((z : ℤ) × (number_value f v ≡ Ok z) × (e ≡ with_condition d (conditions.Number f z))))
Changes words.Action v d e = (x : Verb) × (verb_of v ≡ Ok x) × (e ≡ record d { action = Some x })
Changes words.ForwardQueue v d e = (x : Target) × (queue_target v ≡ Ok x) × (e ≡ record d { queue = Some x })
Changes words.ForwardManager v d e = (x : Target) × (manager_target v ≡ Ok x) × (e ≡ record d { qmgr = x })
Changes words.Header v d e = (x : Bool) × (yes_or_no v ≡ Ok x) × (e ≡ record d { header = x })
Changes words.Retry v d e = (x : ℕ) × (ranged 1 999999999 v ≡ Ok x) × (e ≡ record d { retries = x })
Changes words.InputQueue v d e = ⊥
Changes words.InputManager v d e = ⊥
Changes words.RetryInterval v d e = ⊥
Changes words.Wait v d e = ⊥

number_by : (f : NumberField) (v : List ℕ) (d e : Draft) (r : Result ℤ Flaw) → number_value f v ≡ r → with_number f d r ≡ ok_draft e → (z : ℤ) × (number_value f v ≡ Ok z) × (e ≡ with_condition d (conditions.Number f z))
number_by f v d e (Ok z) g h = (z, g, cc)
number_by f v d e (Err flaw) g h = absurd cc

star_by : (f : NumberField) (v : List ℕ) (d e : Draft) (b : Bool) → bytes_eq v (codes "*") ≡ b → cond b (ok_draft d) (with_number f d (number_value f v)) ≡ ok_draft e → Changes (words.Number f) v d e
star_by f v d e true g h = inl ((bytes_eq-Decides v (codes "*")).0 g, cc)
star_by f v d e false g h = inr ((λ s. absurd (let t : bytes_eq v (codes "*") ≡ true = (bytes_eq-Decides v (codes "*")).1 s in let x : true ≡ false = sym t ∙ g in cc)), number_by f v d e (number_value f v) refl h)

number_changes : (f : NumberField) (v : List ℕ) (d e : Draft) → number_test f v d ≡ ok_draft e → Changes (words.Number f) v d e
unfolding number_test
number_changes f v d e h = star_by f v d e (bytes_eq v (codes "*")) refl h

action_by : (v : List ℕ) (d e : Draft) (r : Result Verb Flaw) → verb_of v ≡ r → with_verb d r ≡ ok_draft e → Changes words.Action v d e
action_by v d e (Ok x) g h = (x, g, cc)
action_by v d e (Err flaw) g h = absurd cc

queue_by : (v : List ℕ) (d e : Draft) (r : Result Target Flaw) → queue_target v ≡ r → with_queue d r ≡ ok_draft e → Changes words.ForwardQueue v d e
queue_by v d e (Ok x) g h = (x, g, cc)
queue_by v d e (Err flaw) g h = absurd cc

qmgr_by : (v : List ℕ) (d e : Draft) (r : Result Target Flaw) → manager_target v ≡ r → with_manager d r ≡ ok_draft e → Changes words.ForwardManager v d e
qmgr_by v d e (Ok x) g h = (x, g, cc)
qmgr_by v d e (Err flaw) g h = absurd cc

header_by : (v : List ℕ) (d e : Draft) (r : Result Bool Flaw) → yes_or_no v ≡ r → with_header d r ≡ ok_draft e → Changes words.Header v d e
header_by v d e (Ok x) g h = (x, g, cc)
header_by v d e (Err flaw) g h = absurd cc

retries_by : (v : List ℕ) (d e : Draft) (r : Result ℕ Flaw) → ranged 1 999999999 v ≡ r → with_retries d r ≡ ok_draft e → Changes words.Retry v d e
retries_by v d e (Ok x) g h = (x, g, cc)
retries_by v d e (Err flaw) g h = absurd cc

changes : (k : Keyword) (v : List ℕ) (d e : Draft) → put k v d ≡ ok_draft e → Changes k v d e
changes (words.Text f) v d e h = cc
changes (words.Number f) v d e h = number_changes f v d e h
changes words.Action v d e h = action_by v d e (verb_of v) refl h
changes words.ForwardQueue v d e h = queue_by v d e (queue_target v) refl h
changes words.ForwardManager v d e h = qmgr_by v d e (manager_target v) refl h
changes words.Header v d e h = header_by v d e (yes_or_no v) refl h
changes words.Retry v d e h = retries_by v d e (ranged 1 999999999 v) refl h
changes words.InputQueue v d e h = absurd cc
changes words.InputManager v d e h = absurd cc
changes words.RetryInterval v d e h = absurd cc
changes words.Wait v d e h = absurd cc

-- ---- a value that its keyword takes

good : (k : Keyword) (v : List ℕ) (d e : Draft) → Changes k v d e → Takes [] k v
good (words.Text f) v d e h = tt
good (words.Number f) v d e (inl h) = inl h.0
good (words.Number f) v d e (inr h) = inr (h.0, (h.1.0, h.1.1))
good words.Action v d e h = (h.0, h.1)
good words.ForwardQueue v d e h = (h.0, h.1)
good words.ForwardManager v d e h = (h.0, h.1)
good words.Header v d e h = (h.0, h.1)
good words.Retry v d e h = (h.0, h.1)
good words.InputQueue v d e h = absurd h
good words.InputManager v d e h = absurd h
good words.RetryInterval v d e h = absurd h
good words.Wait v d e h = absurd h

-- ---- a field that one keyword gives

step_by : (p : Pair) (ps : List Pair) (d e : Draft) (r : Result Draft Flaw) → r ≡ put_word p.keyword p.value d → and_then r (drafted ps) ≡ ok_draft e → (c : Draft) × (put_word p.keyword p.value d ≡ ok_draft c) × (drafted ps c ≡ ok_draft e)
step_by p ps d e (Ok c) f h = (c, sym f, h)
step_by p ps d e (Err flaw) f h = absurd cc

known_by : (o : Option Keyword) (v : List ℕ) (d e : Draft) → put_word o v d ≡ ok_draft e → (k : Keyword) × (o ≡ Some k) × Changes k v d e
known_by None v d e h = absurd cc
known_by (Some k) v d e h = (k, refl, changes k v d e h)

-- the first pair and the rest
first : (p : Pair) (ps : List Pair) (d e : Draft) → drafted (p ∷ ps) d ≡ ok_draft e → (c : Draft) × (k : Keyword) × (p.keyword ≡ Some k) × Changes k p.value d c × (drafted ps c ≡ ok_draft e)
first p ps d e h =
    let s = step_by p ps d e (put_word p.keyword p.value d) refl h in
    let n = known_by p.keyword p.value d s.0 s.1 in
    (s.0, n.0, n.1, n.2, s.2)

module _ {X : Type 0} (key : Keyword) (get : Draft → X) (Gives : List ℕ → X → Type 0) (sets : (v : List ℕ) (d e : Draft) → Changes key v d e → Gives v (get e)) (keeps : (k : Keyword) (v : List ℕ) (d e : Draft) → (k ≡ key → ⊥) → Changes k v d e → get e ≡ get d) where
  abbrev Kept : List Pair → Draft → Draft → Type 0
  Kept ps d e = ((v : List ℕ) × Has key v ps × Gives v (get e)) ⊎ (Lacks key ps × (get e ≡ get d))

  kept_by : (p : Pair) (ps : List Pair) (d c e : Draft) (k : Keyword) → p.keyword ≡ Some k → Changes k p.value d c → (k ≡ key) ⊎ (k ≡ key → ⊥) → Kept ps c e → Kept (p ∷ ps) d e
  kept_by p ps d c e k is h which (inl (v, has, gives)) = inl (v, inr has, gives)
  kept_by p ps d c e k is h (inl same) (inr (lacks, eq)) =
      inl (p.value, inl (value_of_pair p key (is ∙ ap (λ (j : Keyword). some_key j) same)), subst (Gives p.value) (sym eq) (sets p.value d c (subst (λ (j : Keyword). Changes j p.value d c) same h)))
  kept_by p ps d c e k is h (inr other) (inr (lacks, eq)) =
      inr ((λ v has. none v has), eq ∙ keeps k p.value d c other h)
    where
      none : (v : List ℕ) → Has key v (p ∷ ps) → ⊥
      none v (inl e) = other (sym (key_same key k (ap (λ (q : Pair). q.keyword) e ∙ is)))
      none v (inr m) = lacks v m

  pub kept : (ps : List Pair) (d e : Draft) → drafted ps d ≡ ok_draft e → Kept ps d e
  kept [] d e h = let same : d ≡ e = cc in inr ((λ v m. m), ap get (sym same))
  kept (p ∷ ps) d e h =
      let f = first p ps d e h in
      kept_by p ps d f.0 e f.1 f.2 f.3 (either_keyword f.1 key) (kept ps f.0 e f.4)

action_keeps : (k : Keyword) (v : List ℕ) (d e : Draft) → (k ≡ words.Action → ⊥) → Changes k v d e → e.action ≡ d.action
action_keeps (words.Text f) v d e ne h = ap (λ (x : Draft). x.action) h
action_keeps (words.Number f) v d e ne (inl h) = ap (λ (x : Draft). x.action) h.1
action_keeps (words.Number f) v d e ne (inr h) = ap (λ (x : Draft). x.action) h.1.2
action_keeps words.Action v d e ne h = absurd (ne refl)
action_keeps words.ForwardQueue v d e ne h = ap (λ (x : Draft). x.action) h.2
action_keeps words.ForwardManager v d e ne h = ap (λ (x : Draft). x.action) h.2
action_keeps words.Header v d e ne h = ap (λ (x : Draft). x.action) h.2
action_keeps words.Retry v d e ne h = ap (λ (x : Draft). x.action) h.2
action_keeps words.InputQueue v d e ne h = absurd h
action_keeps words.InputManager v d e ne h = absurd h
action_keeps words.RetryInterval v d e ne h = absurd h
action_keeps words.Wait v d e ne h = absurd h

queue_keeps : (k : Keyword) (v : List ℕ) (d e : Draft) → (k ≡ words.ForwardQueue → ⊥) → Changes k v d e → e.queue ≡ d.queue
queue_keeps (words.Text f) v d e ne h = ap (λ (x : Draft). x.queue) h
queue_keeps (words.Number f) v d e ne (inl h) = ap (λ (x : Draft). x.queue) h.1
queue_keeps (words.Number f) v d e ne (inr h) = ap (λ (x : Draft). x.queue) h.1.2
queue_keeps words.Action v d e ne h = ap (λ (x : Draft). x.queue) h.2
queue_keeps words.ForwardQueue v d e ne h = absurd (ne refl)
queue_keeps words.ForwardManager v d e ne h = ap (λ (x : Draft). x.queue) h.2
queue_keeps words.Header v d e ne h = ap (λ (x : Draft). x.queue) h.2
queue_keeps words.Retry v d e ne h = ap (λ (x : Draft). x.queue) h.2
queue_keeps words.InputQueue v d e ne h = absurd h
queue_keeps words.InputManager v d e ne h = absurd h
queue_keeps words.RetryInterval v d e ne h = absurd h
queue_keeps words.Wait v d e ne h = absurd h

qmgr_keeps : (k : Keyword) (v : List ℕ) (d e : Draft) → (k ≡ words.ForwardManager → ⊥) → Changes k v d e → e.qmgr ≡ d.qmgr
qmgr_keeps (words.Text f) v d e ne h = ap (λ (x : Draft). x.qmgr) h
qmgr_keeps (words.Number f) v d e ne (inl h) = ap (λ (x : Draft). x.qmgr) h.1
qmgr_keeps (words.Number f) v d e ne (inr h) = ap (λ (x : Draft). x.qmgr) h.1.2
qmgr_keeps words.Action v d e ne h = ap (λ (x : Draft). x.qmgr) h.2
qmgr_keeps words.ForwardQueue v d e ne h = ap (λ (x : Draft). x.qmgr) h.2
qmgr_keeps words.ForwardManager v d e ne h = absurd (ne refl)
qmgr_keeps words.Header v d e ne h = ap (λ (x : Draft). x.qmgr) h.2
qmgr_keeps words.Retry v d e ne h = ap (λ (x : Draft). x.qmgr) h.2
qmgr_keeps words.InputQueue v d e ne h = absurd h
qmgr_keeps words.InputManager v d e ne h = absurd h
qmgr_keeps words.RetryInterval v d e ne h = absurd h
qmgr_keeps words.Wait v d e ne h = absurd h

header_keeps : (k : Keyword) (v : List ℕ) (d e : Draft) → (k ≡ words.Header → ⊥) → Changes k v d e → e.header ≡ d.header
header_keeps (words.Text f) v d e ne h = ap (λ (x : Draft). x.header) h
header_keeps (words.Number f) v d e ne (inl h) = ap (λ (x : Draft). x.header) h.1
header_keeps (words.Number f) v d e ne (inr h) = ap (λ (x : Draft). x.header) h.1.2
header_keeps words.Action v d e ne h = ap (λ (x : Draft). x.header) h.2
header_keeps words.ForwardQueue v d e ne h = ap (λ (x : Draft). x.header) h.2
header_keeps words.ForwardManager v d e ne h = ap (λ (x : Draft). x.header) h.2
header_keeps words.Header v d e ne h = absurd (ne refl)
header_keeps words.Retry v d e ne h = ap (λ (x : Draft). x.header) h.2
header_keeps words.InputQueue v d e ne h = absurd h
header_keeps words.InputManager v d e ne h = absurd h
header_keeps words.RetryInterval v d e ne h = absurd h
header_keeps words.Wait v d e ne h = absurd h

retries_keeps : (k : Keyword) (v : List ℕ) (d e : Draft) → (k ≡ words.Retry → ⊥) → Changes k v d e → e.retries ≡ d.retries
retries_keeps (words.Text f) v d e ne h = ap (λ (x : Draft). x.retries) h
retries_keeps (words.Number f) v d e ne (inl h) = ap (λ (x : Draft). x.retries) h.1
retries_keeps (words.Number f) v d e ne (inr h) = ap (λ (x : Draft). x.retries) h.1.2
retries_keeps words.Action v d e ne h = ap (λ (x : Draft). x.retries) h.2
retries_keeps words.ForwardQueue v d e ne h = ap (λ (x : Draft). x.retries) h.2
retries_keeps words.ForwardManager v d e ne h = ap (λ (x : Draft). x.retries) h.2
retries_keeps words.Header v d e ne h = ap (λ (x : Draft). x.retries) h.2
retries_keeps words.Retry v d e ne h = absurd (ne refl)
retries_keeps words.InputQueue v d e ne h = absurd h
retries_keeps words.InputManager v d e ne h = absurd h
retries_keeps words.RetryInterval v d e ne h = absurd h
retries_keeps words.Wait v d e ne h = absurd h

abbrev Gives_action : List ℕ → Option Verb → Type 0
Gives_action v g = (x : Verb) × (verb_of v ≡ Ok x) × (g ≡ Some x)

action_of : (ps : List Pair) (d e : Draft) → drafted ps d ≡ ok_draft e → ((v : List ℕ) × Has words.Action v ps × Gives_action v e.action) ⊎ (Lacks words.Action ps × (e.action ≡ d.action))
action_of ps d e h = kept words.Action (λ (x : Draft). x.action) Gives_action (λ v c f g. (g.0, g.1, ap (λ (x : Draft). x.action) g.2)) action_keeps ps d e h

abbrev Gives_queue : List ℕ → Option Target → Type 0
Gives_queue v g = (x : Target) × (queue_target v ≡ Ok x) × (g ≡ Some x)

queue_of : (ps : List Pair) (d e : Draft) → drafted ps d ≡ ok_draft e → ((v : List ℕ) × Has words.ForwardQueue v ps × Gives_queue v e.queue) ⊎ (Lacks words.ForwardQueue ps × (e.queue ≡ d.queue))
queue_of ps d e h = kept words.ForwardQueue (λ (x : Draft). x.queue) Gives_queue (λ v c f g. (g.0, g.1, ap (λ (x : Draft). x.queue) g.2)) queue_keeps ps d e h

abbrev Gives_qmgr : List ℕ → Target → Type 0
Gives_qmgr v g = (x : Target) × (manager_target v ≡ Ok x) × (g ≡ x)

qmgr_of : (ps : List Pair) (d e : Draft) → drafted ps d ≡ ok_draft e → ((v : List ℕ) × Has words.ForwardManager v ps × Gives_qmgr v e.qmgr) ⊎ (Lacks words.ForwardManager ps × (e.qmgr ≡ d.qmgr))
qmgr_of ps d e h = kept words.ForwardManager (λ (x : Draft). x.qmgr) Gives_qmgr (λ v c f g. (g.0, g.1, ap (λ (x : Draft). x.qmgr) g.2)) qmgr_keeps ps d e h

abbrev Gives_header : List ℕ → Bool → Type 0
Gives_header v g = (x : Bool) × (yes_or_no v ≡ Ok x) × (g ≡ x)

header_of : (ps : List Pair) (d e : Draft) → drafted ps d ≡ ok_draft e → ((v : List ℕ) × Has words.Header v ps × Gives_header v e.header) ⊎ (Lacks words.Header ps × (e.header ≡ d.header))
header_of ps d e h = kept words.Header (λ (x : Draft). x.header) Gives_header (λ v c f g. (g.0, g.1, ap (λ (x : Draft). x.header) g.2)) header_keeps ps d e h

abbrev Gives_retries : List ℕ → ℕ → Type 0
Gives_retries v g = (x : ℕ) × (ranged 1 999999999 v ≡ Ok x) × (g ≡ x)

retries_of : (ps : List Pair) (d e : Draft) → drafted ps d ≡ ok_draft e → ((v : List ℕ) × Has words.Retry v ps × Gives_retries v e.retries) ⊎ (Lacks words.Retry ps × (e.retries ≡ d.retries))
retries_of ps d e h = kept words.Retry (λ (x : Draft). x.retries) Gives_retries (λ v c f g. (g.0, g.1, ap (λ (x : Draft). x.retries) g.2)) retries_keeps ps d e h

-- ---- the patterns, in order

onto : (k : Keyword) (v : List ℕ) (later : List Condition) (d c : Draft) → Changes k v d c → (all : List Condition) × IsOnto (Some k) v later all × (c.conditions ++ later ≡ d.conditions ++ all)
onto (words.Text f) v later d c h = (conditions.Text f v ∷ later, refl, ap (λ (x : Draft). x.conditions ++ later) h ∙ append_assoc d.conditions (conditions.Text f v ∷ []) later)
onto (words.Number f) v later d c (inl h) = (later, inl (h.0, refl), ap (λ (x : Draft). x.conditions ++ later) h.1)
onto (words.Number f) v later d c (inr h) =
    (conditions.Number f h.1.0 ∷ later, inr (h.0, (h.1.0, h.1.1, refl)), ap (λ (x : Draft). x.conditions ++ later) h.1.2 ∙ append_assoc d.conditions (conditions.Number f h.1.0 ∷ []) later)
onto words.Action v later d c h = (later, refl, ap (λ (x : Draft). x.conditions ++ later) h.2)
onto words.ForwardQueue v later d c h = (later, refl, ap (λ (x : Draft). x.conditions ++ later) h.2)
onto words.ForwardManager v later d c h = (later, refl, ap (λ (x : Draft). x.conditions ++ later) h.2)
onto words.Header v later d c h = (later, refl, ap (λ (x : Draft). x.conditions ++ later) h.2)
onto words.Retry v later d c h = (later, refl, ap (λ (x : Draft). x.conditions ++ later) h.2)
onto words.InputQueue v later d c h = absurd h
onto words.InputManager v later d c h = absurd h
onto words.RetryInterval v later d c h = absurd h
onto words.Wait v later d c h = absurd h

conditions_of : (ps : List Pair) (d e : Draft) → drafted ps d ≡ ok_draft e → (all : List Condition) × AreConditions ps all × (e.conditions ≡ d.conditions ++ all)
conditions_of [] d e h = ([], refl, ap (λ (x : Draft). x.conditions) (sym (draft_same d e h)) ∙ sym (append-nil d.conditions))
conditions_of (p ∷ ps) d e h =
    let f = first p ps d e h in
    let more = conditions_of ps f.0 e f.4 in
    let o = onto f.1 p.value more.0 d f.0 f.3 in
    (o.0, (more.0, subst (λ (x : Option Keyword). IsOnto x p.value more.0 o.0) (sym f.2) o.1, more.1), more.2 ∙ o.2)

-- ---- all values are taken, or one is none

taken_of : (ps : List Pair) (d e : Draft) → drafted ps d ≡ ok_draft e → AreTaken [] ps
taken_of [] d e h = tt
taken_of (p ∷ ps) d e h =
    let f = first p ps d e h in
    ((f.1, f.2, good f.1 p.value d f.0 f.3), taken_of ps f.0 e f.4)

abbrev Refused : Keyword → List ℕ → Flaw → Type 0
Refused k v f = (f ≡ flaws.Value) × (Takes [] k v → ⊥)

ok_never : {X : Type 0} (r : Result X Flaw) (x : X) (f : Flaw) → r ≡ Ok x → r ≡ Err f → ⊥
ok_never (Ok y) x f e g = absurd cc
ok_never (Err h) x f e g = absurd cc

number_err : (f : NumberField) (v : List ℕ) (d : Draft) (own : Flaw) (r : Result ℤ Flaw) → number_value f v ≡ r → with_number f d r ≡ err_draft own → number_value f v ≡ Err own
number_err f v d own (Ok z) g h = absurd cc
number_err f v d own (Err flaw) g h = g ∙ ap (λ (x : Flaw). Err x) (flaw_same flaw own h)

star_refused : (f : NumberField) (v : List ℕ) (d : Draft) (own : Flaw) (b : Bool) → bytes_eq v (codes "*") ≡ b → cond b (ok_draft d) (with_number f d (number_value f v)) ≡ err_draft own → Refused (words.Number f) v own
star_refused f v d own true g h = absurd cc
star_refused f v d own false g h =
    let e = number_err f v d own (number_value f v) refl h in
    (number_flaw f v own e, λ t. never t e)
  where
    never : Takes [] (words.Number f) v → number_value f v ≡ Err own → ⊥
    never (inl s) e = absurd (let t : bytes_eq v (codes "*") ≡ true = (bytes_eq-Decides v (codes "*")).1 s in let x : true ≡ false = sym t ∙ g in cc)
    never (inr s) e = ok_never (number_value f v) s.1.0 own s.1.1 e

number_refused : (f : NumberField) (v : List ℕ) (d : Draft) (own : Flaw) → number_test f v d ≡ err_draft own → Refused (words.Number f) v own
unfolding number_test
number_refused f v d own h = star_refused f v d own (bytes_eq v (codes "*")) refl h

with_verb_err : (v : List ℕ) (d : Draft) (own : Flaw) (r : Result Verb Flaw) → verb_of v ≡ r → with_verb d r ≡ err_draft own → Refused words.Action v own
with_verb_err v d own (Ok x) g h = absurd cc
with_verb_err v d own (Err flaw) g h =
    let e : verb_of v ≡ Err own = g ∙ ap (λ (x : Flaw). Err x) (flaw_same flaw own h) in
    (verb_flaw v own e, λ t. ok_never (verb_of v) t.0 own t.1 e)

with_queue_err : (v : List ℕ) (d : Draft) (own : Flaw) (r : Result Target Flaw) → queue_target v ≡ r → with_queue d r ≡ err_draft own → Refused words.ForwardQueue v own
with_queue_err v d own (Ok x) g h = absurd cc
with_queue_err v d own (Err flaw) g h =
    let e : queue_target v ≡ Err own = g ∙ ap (λ (x : Flaw). Err x) (flaw_same flaw own h) in
    (queue_flaw v own e, λ t. ok_never (queue_target v) t.0 own t.1 e)

with_manager_err : (v : List ℕ) (d : Draft) (own : Flaw) (r : Result Target Flaw) → manager_target v ≡ r → with_manager d r ≡ err_draft own → Refused words.ForwardManager v own
with_manager_err v d own (Ok x) g h = absurd cc
with_manager_err v d own (Err flaw) g h =
    let e : manager_target v ≡ Err own = g ∙ ap (λ (x : Flaw). Err x) (flaw_same flaw own h) in
    (manager_flaw v own e, λ t. ok_never (manager_target v) t.0 own t.1 e)

with_header_err : (v : List ℕ) (d : Draft) (own : Flaw) (r : Result Bool Flaw) → yes_or_no v ≡ r → with_header d r ≡ err_draft own → Refused words.Header v own
with_header_err v d own (Ok x) g h = absurd cc
with_header_err v d own (Err flaw) g h =
    let e : yes_or_no v ≡ Err own = g ∙ ap (λ (x : Flaw). Err x) (flaw_same flaw own h) in
    (header_flaw v own e, λ t. ok_never (yes_or_no v) t.0 own t.1 e)

with_retries_err : (v : List ℕ) (d : Draft) (own : Flaw) (r : Result ℕ Flaw) → ranged 1 999999999 v ≡ r → with_retries d r ≡ err_draft own → Refused words.Retry v own
with_retries_err v d own (Ok x) g h = absurd cc
with_retries_err v d own (Err flaw) g h =
    let e : ranged 1 999999999 v ≡ Err own = g ∙ ap (λ (x : Flaw). Err x) (flaw_same flaw own h) in
    (ranged_flaw 1 999999999 v own e, λ t. ok_never (ranged 1 999999999 v) t.0 own t.1 e)

refused : (k : Keyword) (v : List ℕ) (d : Draft) (own : Flaw) → is_control k ≡ false → put k v d ≡ err_draft own → Refused k v own
refused (words.Text f) v d own c h = absurd cc
refused (words.Number f) v d own c h = number_refused f v d own h
refused words.Action v d own c h = with_verb_err v d own (verb_of v) refl h
refused words.ForwardQueue v d own c h = with_queue_err v d own (queue_target v) refl h
refused words.ForwardManager v d own c h = with_manager_err v d own (manager_target v) refl h
refused words.Header v d own c h = with_header_err v d own (yes_or_no v) refl h
refused words.Retry v d own c h = with_retries_err v d own (ranged 1 999999999 v) refl h
refused words.InputQueue v d own c h = absurd cc
refused words.InputManager v d own c h = absurd cc
refused words.RetryInterval v d own c h = absurd cc
refused words.Wait v d own c h = absurd cc

word_refused : (p : Pair) (d : Draft) (own : Flaw) → IsOf false p → put_word p.keyword p.value d ≡ err_draft own → (own ≡ flaws.Value) × ((k : Keyword) → p.keyword ≡ Some k → Takes [] k p.value → ⊥)
word_refused p d own (k, e, c) h =
    let r = refused k p.value d own c (sym (ap (λ (o : Option Keyword). put_word o p.value d) e) ∙ h) in
    (r.0, λ j f t. r.1 (subst (λ (x : Keyword). Takes [] x p.value) (key_same j k (sym f ∙ e)) t))

bad_by : (p : Pair) (ps : List Pair) (d : Draft) (own : Flaw) → Each (IsOf false) (p ∷ ps) → ((c : Draft) → drafted ps c ≡ err_draft own → (own ≡ flaws.Value) × (AreTaken [] ps → ⊥)) → (r : Result Draft Flaw) → put_word p.keyword p.value d ≡ r → and_then r (drafted ps) ≡ err_draft own → (own ≡ flaws.Value) × (AreTaken [] (p ∷ ps) → ⊥)
bad_by p ps d own h more (Ok c) e f = let m = more c f in (m.0, λ t. m.1 t.1)
bad_by p ps d own h more (Err flaw) e f =
    let w = word_refused p d own h.0 (e ∙ f) in
    (w.0, λ t. w.1 t.0.0 t.0.1 t.0.2)

bad_of : (ps : List Pair) (d : Draft) (own : Flaw) → Each (IsOf false) ps → drafted ps d ≡ err_draft own → (own ≡ flaws.Value) × (AreTaken [] ps → ⊥)
bad_of [] d own h e = absurd cc
bad_of (p ∷ ps) d own h e = bad_by p ps d own h (λ c f. bad_of ps c own h.1 f) (put_word p.keyword p.value d) refl e

-- ---- the rule that is said

abbrev ok_rule : Rule → Result Rule Flaw
ok_rule rule = Ok rule

abbrev err_rule : Flaw → Result Rule Flaw
err_rule flaw = Err flaw

rule_same : (r s : Rule) → ok_rule r ≡ ok_rule s → r ≡ s
rule_same r s e = cc

rule_flaw_same : (f g : Flaw) → err_rule f ≡ err_rule g → f ≡ g
rule_flaw_same f g e = cc

abbrev some_of : Target → Option Target
some_of x = Some x

some_target : (x y : Target) → some_of x ≡ some_of y → x ≡ y
some_target x y e = cc

none_is : {X : Type 0} (o : Option X) (x : X) → o ≡ None → o ≡ Some x → ⊥
none_is None x e f = absurd cc
none_is (Some y) x e f = absurd cc

said : {X : Type 0} (k : Keyword) (means : List ℕ → Result X Flaw) (default x : X) (ps : List Pair) → ((v : List ℕ) × Has k v ps × ((y : X) × (means v ≡ Ok y) × (x ≡ y))) ⊎ (Lacks k ps × (x ≡ default)) → IsSaid k means default ps x
said k means default x ps (inl (v, has, (y, e, f))) = inl (v, has, e ∙ ap (λ (z : _). Ok z) (sym f))
said k means default x ps (inr h) = inr h

all_conditions : (ps : List Pair) (e : Draft) → drafted ps empty_draft ≡ ok_draft e → AreConditions ps e.conditions
all_conditions ps e h = let c = conditions_of ps empty_draft e h in subst (AreConditions ps) (sym c.2) c.1

-- a rule whose draft is this
module _ (ps : List Pair) (e : Draft) (allowed_all : AreAllowed false ps) (read : drafted ps empty_draft ≡ ok_draft e) where
  retries_said : IsSaid words.Retry (ranged 1 999999999) 1 ps e.retries
  retries_said = said words.Retry (ranged 1 999999999) 1 e.retries ps (retries_of ps empty_draft e read)

  rule_is : (v : List ℕ) (verb : Verb) (action : Action) → Has words.Action v ps → verb_of v ≡ Ok verb → Acts verb ps action → IsRule ps (record { conditions = e.conditions; action = action; retries = e.retries })
  rule_is v verb action has ok acts = record { v = v; verb = verb; allowed = allowed_all; taken = taken_of ps empty_draft e read; conditions = all_conditions ps e read; has = has; acts = ok; action = acts; retries = retries_said }

  forward_found : (v : List ℕ) (rule : Rule) → Has words.Action v ps → verb_of v ≡ Ok verbs.Forward → (o : Option Target) → e.queue ≡ o → forwarding o e ≡ ok_rule rule → IsRule ps rule
  forward_found v rule has ok None q f = absurd cc
  forward_found v rule has ok (Some queue) q f = subst (IsRule ps) (rule_same (record { conditions = e.conditions; action = actions.Forward (record { queue = queue; qmgr = e.qmgr; header = e.header }); retries = e.retries }) rule f) (by (queue_of ps empty_draft e read))
    where
      by : ((w : List ℕ) × Has words.ForwardQueue w ps × Gives_queue w e.queue) ⊎ (Lacks words.ForwardQueue ps × (e.queue ≡ None)) → IsRule ps (record { conditions = e.conditions; action = actions.Forward (record { queue = queue; qmgr = e.qmgr; header = e.header }); retries = e.retries })
      by (inl (w, there, (x, given, is))) =
          rule_is v verbs.Forward (actions.Forward (record { queue = queue; qmgr = e.qmgr; header = e.header })) has ok
          (record {
            v = w;
            queue = queue;
            qmgr = e.qmgr;
            header = e.header;
            has = there;
            queued = given ∙ ap (λ (z : Target). Ok z) (some_target x queue (sym is ∙ q));
            managed = said words.ForwardManager manager_target (targets.Name []) e.qmgr ps (qmgr_of ps empty_draft e read);
            headed = said words.Header yes_or_no true e.header ps (header_of ps empty_draft e read);
            is = refl;
          })
      by (inr (lacks, is)) = absurd (none_is e.queue queue is q)

  verb_found : (v : List ℕ) (verb : Verb) (rule : Rule) → Has words.Action v ps → verb_of v ≡ Ok verb → acting (Some verb) e ≡ ok_rule rule → IsRule ps rule
  verb_found v verbs.Discard rule has ok f = subst (IsRule ps) (rule_same (record { conditions = e.conditions; action = actions.Discard; retries = e.retries }) rule f) (rule_is v verbs.Discard actions.Discard has ok refl)
  verb_found v verbs.Ignore rule has ok f = subst (IsRule ps) (rule_same (record { conditions = e.conditions; action = actions.Ignore; retries = e.retries }) rule f) (rule_is v verbs.Ignore actions.Ignore has ok refl)
  verb_found v verbs.Retry rule has ok f = subst (IsRule ps) (rule_same (record { conditions = e.conditions; action = actions.Retry; retries = e.retries }) rule f) (rule_is v verbs.Retry actions.Retry has ok refl)
  verb_found v verbs.Forward rule has ok f = forward_found v rule has ok e.queue refl f

  action_found : (rule : Rule) → finished e ≡ ok_rule rule → ((v : List ℕ) × Has words.Action v ps × Gives_action v e.action) ⊎ (Lacks words.Action ps × (e.action ≡ None)) → IsRule ps rule
  action_found rule f (inl (v, has, (verb, ok, is))) = verb_found v verb rule has ok (sym (ap (λ (o : Option Verb). acting o e) is) ∙ f)
  action_found rule f (inr (lacks, is)) = absurd (let g : err_rule flaws.Action ≡ ok_rule rule = sym (ap (λ (o : Option Verb). acting o e) is) ∙ f in cc)

  forward_refused : (v : List ℕ) (flaw : Flaw) → Has words.Action v ps → verb_of v ≡ Ok verbs.Forward → (o : Option Target) → e.queue ≡ o → forwarding o e ≡ err_rule flaw → HasRuleFlaw ps flaw
  forward_refused v flaw has ok (Some queue) q f = absurd cc
  forward_refused v flaw has ok None q f = by (queue_of ps empty_draft e read)
    where
      by : ((w : List ℕ) × Has words.ForwardQueue w ps × Gives_queue w e.queue) ⊎ (Lacks words.ForwardQueue ps × (e.queue ≡ None)) → HasRuleFlaw ps flaw
      by (inl (w, there, (x, given, is))) = absurd (none_is e.queue x q is)
      by (inr (lacks, is)) = subst (HasRuleFlaw ps) (rule_flaw_same flaws.Target flaw f) (allowed_all, taken_of ps empty_draft e read, (v, has, ok), lacks)

  verb_refused : (v : List ℕ) (verb : Verb) (flaw : Flaw) → Has words.Action v ps → verb_of v ≡ Ok verb → acting (Some verb) e ≡ err_rule flaw → HasRuleFlaw ps flaw
  verb_refused v verbs.Discard flaw has ok f = absurd cc
  verb_refused v verbs.Ignore flaw has ok f = absurd cc
  verb_refused v verbs.Retry flaw has ok f = absurd cc
  verb_refused v verbs.Forward flaw has ok f = forward_refused v flaw has ok e.queue refl f

  action_refused : (flaw : Flaw) → finished e ≡ err_rule flaw → ((v : List ℕ) × Has words.Action v ps × Gives_action v e.action) ⊎ (Lacks words.Action ps × (e.action ≡ None)) → HasRuleFlaw ps flaw
  action_refused flaw f (inl (v, has, (verb, ok, is))) = verb_refused v verb flaw has ok (sym (ap (λ (o : Option Verb). acting o e) is) ∙ f)
  action_refused flaw f (inr (lacks, is)) = subst (HasRuleFlaw ps) (rule_flaw_same flaws.Action flaw (sym (ap (λ (o : Option Verb). acting o e) is) ∙ f)) (allowed_all, taken_of ps empty_draft e read, lacks)

found_draft : (ps : List Pair) (rule : Rule) → AreAllowed false ps → (r : Result Draft Flaw) → drafted ps empty_draft ≡ r → and_then r finished ≡ ok_rule rule → IsRule ps rule
found_draft ps rule a (Ok e) read f = action_found ps e a read rule f (action_of ps empty_draft e read)
found_draft ps rule a (Err flaw) read f = absurd cc

found_by : (ps : List Pair) (rule : Rule) (b : Bool) → (list_all (allowed false) ps && distinct ps) ≡ b → cond b (and_then (drafted ps empty_draft) finished) (err_rule flaws.Keyword) ≡ ok_rule rule → IsRule ps rule
found_by ps rule true e f = found_draft ps rule (allowed_is false ps e) (drafted ps empty_draft) refl f
found_by ps rule false e f = absurd cc

pub rule_found : (ps : List Pair) (rule : Rule) → rule_of ps ≡ ok_rule rule → IsRule ps rule
unfolding rule_of
rule_found ps rule f = found_by ps rule (list_all (allowed false) ps && distinct ps) refl f

refused_draft : (ps : List Pair) (flaw : Flaw) → AreAllowed false ps → (r : Result Draft Flaw) → drafted ps empty_draft ≡ r → and_then r finished ≡ err_rule flaw → HasRuleFlaw ps flaw
refused_draft ps flaw a (Ok e) read f = action_refused ps e a read flaw f (action_of ps empty_draft e read)
refused_draft ps flaw a (Err own) read f =
    let b = bad_of ps empty_draft own a.0 read in
    subst (HasRuleFlaw ps) (sym b.0 ∙ rule_flaw_same own flaw f) (a, b.1)

refused_by : (ps : List Pair) (flaw : Flaw) (b : Bool) → (list_all (allowed false) ps && distinct ps) ≡ b → cond b (and_then (drafted ps empty_draft) finished) (err_rule flaws.Keyword) ≡ err_rule flaw → HasRuleFlaw ps flaw
refused_by ps flaw true e f = refused_draft ps flaw (allowed_is false ps e) (drafted ps empty_draft) refl f
refused_by ps flaw false e f = subst (HasRuleFlaw ps) (rule_flaw_same flaws.Keyword flaw f) (λ a. absurd (let x : true ≡ false = sym (are_allowed false ps a) ∙ e in cc))

pub rule_refused : (ps : List Pair) (flaw : Flaw) → rule_of ps ≡ err_rule flaw → HasRuleFlaw ps flaw
unfolding rule_of
rule_refused ps flaw f = refused_by ps flaw (list_all (allowed false) ps && distinct ps) refl f

-- ---- one rule, or one flaw

one_onto : (o : Option Keyword) (v : List ℕ) (later all others : List Condition) → IsOnto o v later all → IsOnto o v later others → all ≡ others
one_onto None v later all others e f = e ∙ sym f
one_onto (Some (words.Text field)) v later all others e f = e ∙ sym f
one_onto (Some (words.Number field)) v later all others (inl e) (inl f) = e.1 ∙ sym f.1
one_onto (Some (words.Number field)) v later all others (inl e) (inr f) = absurd (f.0 e.0)
one_onto (Some (words.Number field)) v later all others (inr e) (inl f) = absurd (e.0 f.0)
one_onto (Some (words.Number field)) v later all others (inr e) (inr f) =
    e.1.2 ∙ ap (λ (z : ℤ). conditions.Number field z ∷ later) (one_answer (number_value field v) e.1.0 f.1.0 e.1.1 f.1.1) ∙ sym f.1.2
one_onto (Some words.Action) v later all others e f = e ∙ sym f
one_onto (Some words.ForwardQueue) v later all others e f = e ∙ sym f
one_onto (Some words.ForwardManager) v later all others e f = e ∙ sym f
one_onto (Some words.Header) v later all others e f = e ∙ sym f
one_onto (Some words.Retry) v later all others e f = e ∙ sym f
one_onto (Some words.InputQueue) v later all others e f = e ∙ sym f
one_onto (Some words.InputManager) v later all others e f = e ∙ sym f
one_onto (Some words.RetryInterval) v later all others e f = e ∙ sym f
one_onto (Some words.Wait) v later all others e f = e ∙ sym f

one_conditions : (ps : List Pair) (all others : List Condition) → AreConditions ps all → AreConditions ps others → all ≡ others
one_conditions [] all others e f = e ∙ sym f
one_conditions (p ∷ ps) all others (later, o, h) (more, q, g) =
    let same = one_conditions ps later more h g in
    one_onto p.keyword p.value more all others (subst (λ (l : List Condition). IsOnto p.keyword p.value l all) same o) q

one_forward : (ps : List Pair) (a b : Action) → AreAllowed false ps → IsForward ps a → IsForward ps b → a ≡ b
one_forward ps a b s h g =
    let v = one_given words.ForwardQueue h.v g.v ps s.1 h.has g.has in
    let queue = one_answer (queue_target g.v) h.queue g.queue (sym (ap queue_target v) ∙ h.queued) g.queued in
    let qmgr = one_said words.ForwardManager manager_target (targets.Name []) h.qmgr g.qmgr ps s.1 h.managed g.managed in
    let header = one_said words.Header yes_or_no true h.header g.header ps s.1 h.headed g.headed in
    h.is
    ∙ ap (λ (x : Target). actions.Forward (record { queue = x; qmgr = h.qmgr; header = h.header })) queue
    ∙ ap (λ (x : Target). actions.Forward (record { queue = g.queue; qmgr = x; header = h.header })) qmgr
    ∙ ap (λ (x : Bool). actions.Forward (record { queue = g.queue; qmgr = g.qmgr; header = x })) header
    ∙ sym g.is

one_action : (ps : List Pair) (verb : Verb) (a b : Action) → AreAllowed false ps → Acts verb ps a → Acts verb ps b → a ≡ b
one_action ps verbs.Discard a b s e f = e ∙ sym f
one_action ps verbs.Ignore a b s e f = e ∙ sym f
one_action ps verbs.Retry a b s e f = e ∙ sym f
one_action ps verbs.Forward a b s e f = one_forward ps a b s e f

pub one_rule : (ps : List Pair) (r s : Rule) → IsRule ps r → IsRule ps s → r ≡ s
one_rule ps r s h g =
    let v = one_given words.Action h.v g.v ps h.allowed.1 h.has g.has in
    let verb = one_answer (verb_of g.v) h.verb g.verb (sym (ap verb_of v) ∙ h.acts) g.acts in
    let action = one_action ps g.verb r.action s.action h.allowed (subst (λ (x : Verb). Acts x ps r.action) verb h.action) g.action in
    let cs = one_conditions ps r.conditions s.conditions h.conditions g.conditions in
    let retries = one_said words.Retry (ranged 1 999999999) 1 r.retries s.retries ps h.allowed.1 h.retries g.retries in
    ap (λ (x : List Condition). record { conditions = x; action = r.action; retries = r.retries }) cs
    ∙ ap (λ (x : Action). record { conditions = s.conditions; action = x; retries = r.retries }) action
    ∙ ap (λ (x : ℕ). record { conditions = s.conditions; action = s.action; retries = x }) retries

pub rule_never : (ps : List Pair) (rule : Rule) (flaw : Flaw) → IsRule ps rule → HasRuleFlaw ps flaw → ⊥
rule_never ps rule flaws.Form h g = absurd g
rule_never ps rule flaws.Keyword h g = g h.allowed
rule_never ps rule flaws.Value h g = g.1 h.taken
rule_never ps rule flaws.Action h g = g.2 h.v h.has
rule_never ps rule flaws.Target h g =
    let v = one_given words.Action h.v g.2.0 ps h.allowed.1 h.has g.2.1 in
    let verb = one_answer (verb_of g.2.0) h.verb verbs.Forward (sym (ap verb_of v) ∙ h.acts) g.2.2 in
    let forward : IsForward ps rule.action = subst (λ (x : Verb). Acts x ps rule.action) verb h.action in
    g.3 forward.v forward.has
rule_never ps rule flaws.Memory h g = absurd g

pub one_rule_flaw : (ps : List Pair) (f g : Flaw) → HasRuleFlaw ps f → HasRuleFlaw ps g → f ≡ g
one_rule_flaw ps flaws.Form g p q = absurd p
one_rule_flaw ps flaws.Keyword flaws.Form p q = absurd q
one_rule_flaw ps flaws.Keyword flaws.Keyword p q = refl
one_rule_flaw ps flaws.Keyword flaws.Value p q = absurd (p q.0)
one_rule_flaw ps flaws.Keyword flaws.Action p q = absurd (p q.0)
one_rule_flaw ps flaws.Keyword flaws.Target p q = absurd (p q.0)
one_rule_flaw ps flaws.Keyword flaws.Memory p q = absurd q
one_rule_flaw ps flaws.Value flaws.Form p q = absurd q
one_rule_flaw ps flaws.Value flaws.Keyword p q = absurd (q p.0)
one_rule_flaw ps flaws.Value flaws.Value p q = refl
one_rule_flaw ps flaws.Value flaws.Action p q = absurd (p.1 q.1)
one_rule_flaw ps flaws.Value flaws.Target p q = absurd (p.1 q.1)
one_rule_flaw ps flaws.Value flaws.Memory p q = absurd q
one_rule_flaw ps flaws.Action flaws.Form p q = absurd q
one_rule_flaw ps flaws.Action flaws.Keyword p q = absurd (q p.0)
one_rule_flaw ps flaws.Action flaws.Value p q = absurd (q.1 p.1)
one_rule_flaw ps flaws.Action flaws.Action p q = refl
one_rule_flaw ps flaws.Action flaws.Target p q = absurd (p.2 q.2.0 q.2.1)
one_rule_flaw ps flaws.Action flaws.Memory p q = absurd q
one_rule_flaw ps flaws.Target flaws.Form p q = absurd q
one_rule_flaw ps flaws.Target flaws.Keyword p q = absurd (q p.0)
one_rule_flaw ps flaws.Target flaws.Value p q = absurd (q.1 p.1)
one_rule_flaw ps flaws.Target flaws.Action p q = absurd (q.2 p.2.0 p.2.1)
one_rule_flaw ps flaws.Target flaws.Target p q = refl
one_rule_flaw ps flaws.Target flaws.Memory p q = absurd q
one_rule_flaw ps flaws.Memory g p q = absurd p

pub rule_read : (ps : List Pair) (rule : Rule) → IsRule ps rule → rule_of ps ≡ ok_rule rule
rule_read ps rule h = by (rule_of ps) refl
  where
    by : (r : Result Rule Flaw) → rule_of ps ≡ r → rule_of ps ≡ ok_rule rule
    by (Ok other) e = e ∙ ap ok_rule (one_rule ps other rule (rule_found ps other e) h)
    by (Err flaw) e = absurd (rule_never ps rule flaw h (rule_refused ps flaw e))

pub rule_flaw_read : (ps : List Pair) (flaw : Flaw) → HasRuleFlaw ps flaw → rule_of ps ≡ err_rule flaw
rule_flaw_read ps flaw h = by (rule_of ps) refl
  where
    by : (r : Result Rule Flaw) → rule_of ps ≡ r → rule_of ps ≡ err_rule flaw
    by (Ok rule) e = absurd (rule_never ps rule flaw (rule_found ps rule e) h)
    by (Err own) e = e ∙ ap err_rule (one_rule_flaw ps own flaw (rule_refused ps own e) h)
