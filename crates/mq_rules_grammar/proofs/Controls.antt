-- What the pairs of a control entry say, and why they say none, both ways.
use Rattle.std.proofs.Common.{◌≡◌, ◌⊎◌, ℕ, Bool, true, false, cond, List, [], ◌∷◌, Result, Ok, Err, refl, sym, ap, subst, ◌∙◌, inl, inr}
use Rattle.std.specs.Prelude.{Option, Some, None, ◌&&◌}
use Rattle.std.specs.List.{list_all}
use Rattle.std.specs.Str.{bytes_eq}
use Rattle.std.proofs.lemmas.Slice.Eq.{bytes_eq-Decides}
use Rattle.mq_rules.specs.declared.rule.Wait.{Wait}
use Rattle.mq_rules.specs.declared.rule.Wait.TheVariants as waits
use Rattle.mq_rules_text.specs.declared.fault.Flaw.{Flaw}
use Rattle.mq_rules_text.specs.declared.fault.Flaw.TheVariants as flaws
use Rattle.mq_rules_text.specs.declared.keyword.Keyword.{Keyword}
use Rattle.mq_rules_text.specs.declared.keyword.Keyword.TheVariants as words
use Rattle.mq_rules_text.specs.declared.pairs.Pair.{Pair}
use Rattle.mq_rules_text.specs.declared.control.Control.{Control}
use Rattle.mq_rules_text.specs.Faults.{and_then}
use Rattle.mq_rules_text.specs.Keywords.{is_control}
use Rattle.mq_rules_text.specs.Pairs.{allowed, distinct}
use Rattle.mq_rules_text.specs.Entries.{default_control, with_input, own_only, with_interval, with_wait, set, set_word, settled, control_of}
use Rattle.mq_rules_text.specs.Values.{name_or_blank, ranged, wait_of}
use Rattle.mq_rules_grammar.specs.Entries.{Each, IsOf, AreTaken, IsOwn, Takes, Has, IsSaid, IsControl}
use Rattle.mq_rules_grammar.specs.Faults.{HasControlFlaw}
use Rattle.mq_rules_grammar.proofs.Words.{either_keyword, are_allowed, allowed_is}
use Rattle.mq_rules_grammar.proofs.Values.{blank_flaw, ranged_flaw, wait_flaw}
use Rattle.mq_rules_grammar.proofs.Said.{one_said, one_answer, value_of_pair}

abbrev ok_control : Control → Result Control Flaw
ok_control c = Ok c

abbrev err_control : Flaw → Result Control Flaw
err_control flaw = Err flaw

abbrev some_key : Keyword → Option Keyword
some_key k = Some k

key_same : (j k : Keyword) → some_key j ≡ some_key k → j ≡ k
key_same j k e = cc

control_same : (d e : Control) → ok_control d ≡ ok_control e → d ≡ e
control_same d e h = cc

flaw_same : (f g : Flaw) → err_control f ≡ err_control g → f ≡ g
flaw_same f g h = cc

abbrev ok_name : List ℕ → Result (List ℕ) Flaw
ok_name name = Ok name

abbrev err_name : Flaw → Result (List ℕ) Flaw
err_name flaw = Err flaw

-- ---- what one keyword changes

abbrev Changes : (own : List ℕ) → Keyword → List ℕ → (before after : Control) → Type 0
Changes own words.InputQueue v d e = (x : List ℕ) × (name_or_blank v ≡ Ok x) × (e ≡ record d { input_q = x })
Changes own words.RetryInterval v d e = (x : ℕ) × (ranged 1 999999999 v ≡ Ok x) × (e ≡ record d { retry_interval = x })
Changes own words.Wait v d e = (x : Wait) × (wait_of v ≡ Ok x) × (e ≡ record d { wait = x })
Changes own words.InputManager v d e = IsOwn own v × (e ≡ d)
Changes own _ v d e = ⊥

input_q_by : (own v : List ℕ) (d e : Control) (r : Result (List ℕ) Flaw) → name_or_blank v ≡ r → with_input d r ≡ ok_control e → Changes own words.InputQueue v d e
input_q_by own v d e (Ok x) g h = (x, g, sym (control_same (record d { input_q = x }) e h))
input_q_by own v d e (Err flaw) g h = absurd cc

retry_interval_by : (own v : List ℕ) (d e : Control) (r : Result ℕ Flaw) → ranged 1 999999999 v ≡ r → with_interval d r ≡ ok_control e → Changes own words.RetryInterval v d e
retry_interval_by own v d e (Ok x) g h = (x, g, sym (control_same (record d { retry_interval = x }) e h))
retry_interval_by own v d e (Err flaw) g h = absurd cc

wait_by : (own v : List ℕ) (d e : Control) (r : Result Wait Flaw) → wait_of v ≡ r → with_wait d r ≡ ok_control e → Changes own words.Wait v d e
wait_by own v d e (Ok x) g h = (x, g, sym (control_same (record d { wait = x }) e h))
wait_by own v d e (Err flaw) g h = absurd cc

own_at : (own v : List ℕ) (d e : Control) (b : ℕ) (bs : List ℕ) (t : Bool) → name_or_blank v ≡ ok_name (b ∷ bs) → bytes_eq (b ∷ bs) own ≡ t → cond t (ok_control d) (err_control flaws.Value) ≡ ok_control e → Changes own words.InputManager v d e
own_at own v d e b bs true g f h = ((b ∷ bs, g, inr ((bytes_eq-Decides (b ∷ bs) own).0 f)), sym (control_same d e h))
own_at own v d e b bs false g f h = absurd cc

own_by : (own v : List ℕ) (d e : Control) (r : Result (List ℕ) Flaw) → name_or_blank v ≡ r → own_only own d r ≡ ok_control e → Changes own words.InputManager v d e
own_by own v d e (Ok []) g h = (([], g, inl refl), sym (control_same d e h))
own_by own v d e (Ok (b ∷ bs)) g h = own_at own v d e b bs (bytes_eq (b ∷ bs) own) g refl h
own_by own v d e (Err flaw) g h = absurd cc

changes : (own : List ℕ) (k : Keyword) (v : List ℕ) (d e : Control) → set own k v d ≡ ok_control e → Changes own k v d e
changes own (words.Text f) v d e h = absurd cc
changes own (words.Number f) v d e h = absurd cc
changes own words.InputQueue v d e h = input_q_by own v d e (name_or_blank v) refl h
changes own words.RetryInterval v d e h = retry_interval_by own v d e (ranged 1 999999999 v) refl h
changes own words.Wait v d e h = wait_by own v d e (wait_of v) refl h
changes own words.InputManager v d e h = own_by own v d e (name_or_blank v) refl h
changes own words.Action v d e h = absurd cc
changes own words.ForwardQueue v d e h = absurd cc
changes own words.ForwardManager v d e h = absurd cc
changes own words.Header v d e h = absurd cc
changes own words.Retry v d e h = absurd cc

good : (own : List ℕ) (k : Keyword) (v : List ℕ) (d e : Control) → Changes own k v d e → Takes own k v
good own (words.Text f) v d e h = absurd h
good own (words.Number f) v d e h = absurd h
good own words.InputQueue v d e h = (h.0, h.1)
good own words.RetryInterval v d e h = (h.0, h.1)
good own words.Wait v d e h = (h.0, h.1)
good own words.InputManager v d e h = h.0
good own words.Action v d e h = absurd h
good own words.ForwardQueue v d e h = absurd h
good own words.ForwardManager v d e h = absurd h
good own words.Header v d e h = absurd h
good own words.Retry v d e h = absurd h

-- ---- a field that one keyword gives

module _ (own : List ℕ) where
  step_by : (p : Pair) (ps : List Pair) (d e : Control) (r : Result Control Flaw) → r ≡ set_word own p.keyword p.value d → and_then r (settled own ps) ≡ ok_control e → (c : Control) × (set_word own p.keyword p.value d ≡ ok_control c) × (settled own ps c ≡ ok_control e)
  step_by p ps d e (Ok c) f h = (c, sym f, h)
  step_by p ps d e (Err flaw) f h = absurd cc

  known_by : (o : Option Keyword) (v : List ℕ) (d e : Control) → set_word own o v d ≡ ok_control e → (k : Keyword) × (o ≡ Some k) × Changes own k v d e
  known_by None v d e h = absurd cc
  known_by (Some k) v d e h = (k, refl, changes own k v d e h)

  first : (p : Pair) (ps : List Pair) (d e : Control) → settled own (p ∷ ps) d ≡ ok_control e → (c : Control) × (k : Keyword) × (p.keyword ≡ Some k) × Changes own k p.value d c × (settled own ps c ≡ ok_control e)
  first p ps d e h =
      let s = step_by p ps d e (set_word own p.keyword p.value d) refl h in
      let n = known_by p.keyword p.value d s.0 s.1 in
      (s.0, n.0, n.1, n.2, s.2)

  taken_of : (ps : List Pair) (d e : Control) → settled own ps d ≡ ok_control e → AreTaken own ps
  taken_of [] d e h = tt
  taken_of (p ∷ ps) d e h =
      let f = first p ps d e h in
      ((f.1, f.2, good own f.1 p.value d f.0 f.3), taken_of ps f.0 e f.4)

module _ {X : Type 0} (own : List ℕ) (key : Keyword) (get : Control → X) (means : List ℕ → Result X Flaw) (sets : (v : List ℕ) (d e : Control) → Changes own key v d e → means v ≡ Ok (get e)) (keeps : (k : Keyword) (v : List ℕ) (d e : Control) → (k ≡ key → ⊥) → Changes own k v d e → get e ≡ get d) where
  kept_by : (p : Pair) (ps : List Pair) (d c e : Control) (k : Keyword) → p.keyword ≡ Some k → Changes own k p.value d c → (k ≡ key) ⊎ (k ≡ key → ⊥) → IsSaid key means (get c) ps (get e) → IsSaid key means (get d) (p ∷ ps) (get e)
  kept_by p ps d c e k is h which (inl (v, has, gives)) = inl (v, inr has, gives)
  kept_by p ps d c e k is h (inl same) (inr (lacks, eq)) =
      inl (p.value, inl (value_of_pair p key (is ∙ ap (λ (j : Keyword). some_key j) same)), sets p.value d c (subst (λ (j : Keyword). Changes own j p.value d c) same h) ∙ ap (λ (x : X). Ok x) (sym eq))
  kept_by p ps d c e k is h (inr other) (inr (lacks, eq)) =
      inr ((λ v has. none v has), eq ∙ keeps k p.value d c other h)
    where
      none : (v : List ℕ) → Has key v (p ∷ ps) → ⊥
      none v (inl e) = other (sym (key_same key k (ap (λ (q : Pair). q.keyword) e ∙ is)))
      none v (inr m) = lacks v m

  pub kept : (ps : List Pair) (d e : Control) → settled own ps d ≡ ok_control e → IsSaid key means (get d) ps (get e)
  kept [] d e h = inr ((λ v m. m), ap get (sym (control_same d e h)))
  kept (p ∷ ps) d e h =
      let f = first own p ps d e h in
      kept_by p ps d f.0 e f.1 f.2 f.3 (either_keyword f.1 key) (kept ps f.0 e f.4)

input_q_keeps : (own : List ℕ) (k : Keyword) (v : List ℕ) (d e : Control) → (k ≡ words.InputQueue → ⊥) → Changes own k v d e → e.input_q ≡ d.input_q
input_q_keeps own (words.Text f) v d e ne h = absurd h
input_q_keeps own (words.Number f) v d e ne h = absurd h
input_q_keeps own words.InputQueue v d e ne h = absurd (ne refl)
input_q_keeps own words.RetryInterval v d e ne h = ap (λ (x : Control). x.input_q) h.2
input_q_keeps own words.Wait v d e ne h = ap (λ (x : Control). x.input_q) h.2
input_q_keeps own words.InputManager v d e ne h = ap (λ (x : Control). x.input_q) h.1
input_q_keeps own words.Action v d e ne h = absurd h
input_q_keeps own words.ForwardQueue v d e ne h = absurd h
input_q_keeps own words.ForwardManager v d e ne h = absurd h
input_q_keeps own words.Header v d e ne h = absurd h
input_q_keeps own words.Retry v d e ne h = absurd h

retry_interval_keeps : (own : List ℕ) (k : Keyword) (v : List ℕ) (d e : Control) → (k ≡ words.RetryInterval → ⊥) → Changes own k v d e → e.retry_interval ≡ d.retry_interval
retry_interval_keeps own (words.Text f) v d e ne h = absurd h
retry_interval_keeps own (words.Number f) v d e ne h = absurd h
retry_interval_keeps own words.InputQueue v d e ne h = ap (λ (x : Control). x.retry_interval) h.2
retry_interval_keeps own words.RetryInterval v d e ne h = absurd (ne refl)
retry_interval_keeps own words.Wait v d e ne h = ap (λ (x : Control). x.retry_interval) h.2
retry_interval_keeps own words.InputManager v d e ne h = ap (λ (x : Control). x.retry_interval) h.1
retry_interval_keeps own words.Action v d e ne h = absurd h
retry_interval_keeps own words.ForwardQueue v d e ne h = absurd h
retry_interval_keeps own words.ForwardManager v d e ne h = absurd h
retry_interval_keeps own words.Header v d e ne h = absurd h
retry_interval_keeps own words.Retry v d e ne h = absurd h

wait_keeps : (own : List ℕ) (k : Keyword) (v : List ℕ) (d e : Control) → (k ≡ words.Wait → ⊥) → Changes own k v d e → e.wait ≡ d.wait
wait_keeps own (words.Text f) v d e ne h = absurd h
wait_keeps own (words.Number f) v d e ne h = absurd h
wait_keeps own words.InputQueue v d e ne h = ap (λ (x : Control). x.wait) h.2
wait_keeps own words.RetryInterval v d e ne h = ap (λ (x : Control). x.wait) h.2
wait_keeps own words.Wait v d e ne h = absurd (ne refl)
wait_keeps own words.InputManager v d e ne h = ap (λ (x : Control). x.wait) h.1
wait_keeps own words.Action v d e ne h = absurd h
wait_keeps own words.ForwardQueue v d e ne h = absurd h
wait_keeps own words.ForwardManager v d e ne h = absurd h
wait_keeps own words.Header v d e ne h = absurd h
wait_keeps own words.Retry v d e ne h = absurd h

-- ---- a value that its keyword doesn't take

abbrev Refused : List ℕ → Keyword → List ℕ → Flaw → Type 0
Refused own k v f = (f ≡ flaws.Value) × (Takes own k v → ⊥)

ok_never : {X : Type 0} (r : Result X Flaw) (x : X) (f : Flaw) → r ≡ Ok x → r ≡ Err f → ⊥
ok_never (Ok y) x f e g = absurd cc
ok_never (Err h) x f e g = absurd cc

with_input_err : (own v : List ℕ) (d : Control) (f : Flaw) (r : Result (List ℕ) Flaw) → name_or_blank v ≡ r → with_input d r ≡ err_control f → Refused own words.InputQueue v f
with_input_err own v d f (Ok x) g h = absurd cc
with_input_err own v d f (Err flaw) g h =
    let e : name_or_blank v ≡ Err f = g ∙ ap (λ (x : Flaw). Err x) (flaw_same flaw f h) in
    (blank_flaw v f e, λ t. ok_never (name_or_blank v) t.0 f t.1 e)

with_interval_err : (own v : List ℕ) (d : Control) (f : Flaw) (r : Result ℕ Flaw) → ranged 1 999999999 v ≡ r → with_interval d r ≡ err_control f → Refused own words.RetryInterval v f
with_interval_err own v d f (Ok x) g h = absurd cc
with_interval_err own v d f (Err flaw) g h =
    let e : ranged 1 999999999 v ≡ Err f = g ∙ ap (λ (x : Flaw). Err x) (flaw_same flaw f h) in
    (ranged_flaw 1 999999999 v f e, λ t. ok_never (ranged 1 999999999 v) t.0 f t.1 e)

with_wait_err : (own v : List ℕ) (d : Control) (f : Flaw) (r : Result Wait Flaw) → wait_of v ≡ r → with_wait d r ≡ err_control f → Refused own words.Wait v f
with_wait_err own v d f (Ok x) g h = absurd cc
with_wait_err own v d f (Err flaw) g h =
    let e : wait_of v ≡ Err f = g ∙ ap (λ (x : Flaw). Err x) (flaw_same flaw f h) in
    (wait_flaw v f e, λ t. ok_never (wait_of v) t.0 f t.1 e)

not_blank : (b : ℕ) (bs : List ℕ) → b ∷ bs ≡ [] → ⊥
not_blank b bs e = absurd cc

own_err_at : (own v : List ℕ) (d : Control) (f : Flaw) (b : ℕ) (bs : List ℕ) (t : Bool) → name_or_blank v ≡ ok_name (b ∷ bs) → bytes_eq (b ∷ bs) own ≡ t → cond t (ok_control d) (err_control flaws.Value) ≡ err_control f → Refused own words.InputManager v f
own_err_at own v d f b bs true g e h = absurd cc
own_err_at own v d f b bs false g e h = (sym (flaw_same flaws.Value f h), λ t. never t.2 (one_answer (name_or_blank v) t.0 (b ∷ bs) t.1 g))
  where
    never : {name : List ℕ} → (name ≡ []) ⊎ (name ≡ own) → name ≡ b ∷ bs → ⊥
    never (inl q) r = not_blank b bs (sym r ∙ q)
    never (inr q) r = absurd (let s : bytes_eq (b ∷ bs) own ≡ true = (bytes_eq-Decides (b ∷ bs) own).1 (sym r ∙ q) in let x : true ≡ false = sym s ∙ e in cc)

own_err : (own v : List ℕ) (d : Control) (f : Flaw) (r : Result (List ℕ) Flaw) → name_or_blank v ≡ r → own_only own d r ≡ err_control f → Refused own words.InputManager v f
own_err own v d f (Ok []) g h = absurd cc
own_err own v d f (Ok (b ∷ bs)) g h = own_err_at own v d f b bs (bytes_eq (b ∷ bs) own) g refl h
own_err own v d f (Err flaw) g h =
    let e : name_or_blank v ≡ Err f = g ∙ ap (λ (x : Flaw). Err x) (flaw_same flaw f h) in
    (blank_flaw v f e, λ t. ok_never (name_or_blank v) t.0 f t.1 e)

refused : (own : List ℕ) (k : Keyword) (v : List ℕ) (d : Control) (f : Flaw) → is_control k ≡ true → set own k v d ≡ err_control f → Refused own k v f
refused own (words.Text g) v d f c h = absurd cc
refused own (words.Number g) v d f c h = absurd cc
refused own words.InputQueue v d f c h = with_input_err own v d f (name_or_blank v) refl h
refused own words.RetryInterval v d f c h = with_interval_err own v d f (ranged 1 999999999 v) refl h
refused own words.Wait v d f c h = with_wait_err own v d f (wait_of v) refl h
refused own words.InputManager v d f c h = own_err own v d f (name_or_blank v) refl h
refused own words.Action v d f c h = absurd cc
refused own words.ForwardQueue v d f c h = absurd cc
refused own words.ForwardManager v d f c h = absurd cc
refused own words.Header v d f c h = absurd cc
refused own words.Retry v d f c h = absurd cc

module _ (own : List ℕ) where
  word_refused : (p : Pair) (d : Control) (f : Flaw) → IsOf true p → set_word own p.keyword p.value d ≡ err_control f → (f ≡ flaws.Value) × ((k : Keyword) → p.keyword ≡ Some k → Takes own k p.value → ⊥)
  word_refused p d f (k, e, c) h =
      let r = refused own k p.value d f c (sym (ap (λ (o : Option Keyword). set_word own o p.value d) e) ∙ h) in
      (r.0, λ j g t. r.1 (subst (λ (x : Keyword). Takes own x p.value) (key_same j k (sym g ∙ e)) t))

  bad_by : (p : Pair) (ps : List Pair) (d : Control) (f : Flaw) → Each (IsOf true) (p ∷ ps) → ((c : Control) → settled own ps c ≡ err_control f → (f ≡ flaws.Value) × (AreTaken own ps → ⊥)) → (r : Result Control Flaw) → set_word own p.keyword p.value d ≡ r
      → and_then r (settled own ps) ≡ err_control f → (f ≡ flaws.Value) × (AreTaken own (p ∷ ps) → ⊥)
  bad_by p ps d f h more (Ok c) e g = let m = more c g in (m.0, λ t. m.1 t.1)
  bad_by p ps d f h more (Err flaw) e g =
      let w = word_refused p d f h.0 (e ∙ g) in
      (w.0, λ t. w.1 t.0.0 t.0.1 t.0.2)

  bad_of : (ps : List Pair) (d : Control) (f : Flaw) → Each (IsOf true) ps → settled own ps d ≡ err_control f → (f ≡ flaws.Value) × (AreTaken own ps → ⊥)
  bad_of [] d f h e = absurd cc
  bad_of (p ∷ ps) d f h e = bad_by p ps d f h (λ c g. bad_of ps c f h.1 g) (set_word own p.keyword p.value d) refl e

-- ---- the control entry that is said

found_by : (own : List ℕ) (ps : List Pair) (c : Control) (b : Bool) → (list_all (allowed true) ps && distinct ps) ≡ b → cond b (settled own ps default_control) (err_control flaws.Keyword) ≡ ok_control c → IsControl own ps c
found_by own ps c true e f = record {
  allowed = allowed_is true ps e;
  taken = taken_of own ps default_control c f;
  queue = kept own words.InputQueue (λ (x : Control). x.input_q) name_or_blank (λ v d g h. h.1 ∙ ap ok_name (sym (ap (λ (x : Control). x.input_q) h.2))) (input_q_keeps own) ps default_control c f;
  interval = kept own words.RetryInterval (λ (x : Control). x.retry_interval) (ranged 1 999999999) (λ v d g h. h.1 ∙ ap (λ (n : ℕ). Ok n) (sym (ap (λ (x : Control). x.retry_interval) h.2))) (retry_interval_keeps own) ps default_control c f;
  wait = kept own words.Wait (λ (x : Control). x.wait) wait_of (λ v d g h. h.1 ∙ ap (λ (w : Wait). Ok w) (sym (ap (λ (x : Control). x.wait) h.2))) (wait_keeps own) ps default_control c f;
}
found_by own ps c false e f = absurd cc

pub control_found : (own : List ℕ) (ps : List Pair) (c : Control) → control_of own ps ≡ ok_control c → IsControl own ps c
unfolding control_of
control_found own ps c f = found_by own ps c (list_all (allowed true) ps && distinct ps) refl f

refused_by : (own : List ℕ) (ps : List Pair) (flaw : Flaw) (b : Bool) → (list_all (allowed true) ps && distinct ps) ≡ b → cond b (settled own ps default_control) (err_control flaws.Keyword) ≡ err_control flaw → HasControlFlaw own ps flaw
refused_by own ps flaw true e f =
    let a = allowed_is true ps e in
    let b = bad_of own ps default_control flaw a.0 f in
    subst (HasControlFlaw own ps) (sym b.0) (a, b.1)
refused_by own ps flaw false e f = subst (HasControlFlaw own ps) (flaw_same flaws.Keyword flaw f) (λ a. absurd (let x : true ≡ false = sym (are_allowed true ps a) ∙ e in cc))

pub control_refused : (own : List ℕ) (ps : List Pair) (flaw : Flaw) → control_of own ps ≡ err_control flaw → HasControlFlaw own ps flaw
unfolding control_of
control_refused own ps flaw f = refused_by own ps flaw (list_all (allowed true) ps && distinct ps) refl f

pub one_control : (own : List ℕ) (ps : List Pair) (c d : Control) → IsControl own ps c → IsControl own ps d → c ≡ d
one_control own ps c d h g =
    let queue = one_said words.InputQueue name_or_blank [] c.input_q d.input_q ps h.allowed.1 h.queue g.queue in
    let interval = one_said words.RetryInterval (ranged 1 999999999) 60 c.retry_interval d.retry_interval ps h.allowed.1 h.interval g.interval in
    let wait = one_said words.Wait wait_of waits.Yes c.wait d.wait ps h.allowed.1 h.wait g.wait in
    ap (λ (x : List ℕ). record { input_q = x; retry_interval = c.retry_interval; wait = c.wait }) queue
    ∙ ap (λ (x : ℕ). record { input_q = d.input_q; retry_interval = x; wait = c.wait }) interval
    ∙ ap (λ (x : Wait). record { input_q = d.input_q; retry_interval = d.retry_interval; wait = x }) wait

pub control_never : (own : List ℕ) (ps : List Pair) (c : Control) (flaw : Flaw) → IsControl own ps c → HasControlFlaw own ps flaw → ⊥
control_never own ps c flaws.Form h g = absurd g
control_never own ps c flaws.Keyword h g = g h.allowed
control_never own ps c flaws.Value h g = g.1 h.taken
control_never own ps c flaws.Action h g = absurd g
control_never own ps c flaws.Target h g = absurd g
control_never own ps c flaws.Memory h g = absurd g

pub one_control_flaw : (own : List ℕ) (ps : List Pair) (f g : Flaw) → HasControlFlaw own ps f → HasControlFlaw own ps g → f ≡ g
one_control_flaw own ps flaws.Form g p q = absurd p
one_control_flaw own ps flaws.Keyword flaws.Form p q = absurd q
one_control_flaw own ps flaws.Keyword flaws.Keyword p q = refl
one_control_flaw own ps flaws.Keyword flaws.Value p q = absurd (p q.0)
one_control_flaw own ps flaws.Keyword flaws.Action p q = absurd q
one_control_flaw own ps flaws.Keyword flaws.Target p q = absurd q
one_control_flaw own ps flaws.Keyword flaws.Memory p q = absurd q
one_control_flaw own ps flaws.Value flaws.Form p q = absurd q
one_control_flaw own ps flaws.Value flaws.Keyword p q = absurd (q p.0)
one_control_flaw own ps flaws.Value flaws.Value p q = refl
one_control_flaw own ps flaws.Value flaws.Action p q = absurd q
one_control_flaw own ps flaws.Value flaws.Target p q = absurd q
one_control_flaw own ps flaws.Value flaws.Memory p q = absurd q
one_control_flaw own ps flaws.Action g p q = absurd p
one_control_flaw own ps flaws.Target g p q = absurd p
one_control_flaw own ps flaws.Memory g p q = absurd p

pub control_read : (own : List ℕ) (ps : List Pair) (c : Control) → IsControl own ps c → control_of own ps ≡ ok_control c
control_read own ps c h = by (control_of own ps) refl
  where
    by : (r : Result Control Flaw) → control_of own ps ≡ r → control_of own ps ≡ ok_control c
    by (Ok other) e = e ∙ ap ok_control (one_control own ps other c (control_found own ps other e) h)
    by (Err flaw) e = absurd (control_never own ps c flaw h (control_refused own ps flaw e))

pub control_flaw_read : (own : List ℕ) (ps : List Pair) (flaw : Flaw) → HasControlFlaw own ps flaw → control_of own ps ≡ err_control flaw
control_flaw_read own ps flaw h = by (control_of own ps) refl
  where
    by : (r : Result Control Flaw) → control_of own ps ≡ r → control_of own ps ≡ err_control flaw
    by (Ok c) e = absurd (control_never own ps c flaw (control_found own ps c e) h)
    by (Err own_flaw) e = e ∙ ap err_control (one_control_flaw own ps own_flaw flaw (control_refused own ps own_flaw e) h)
