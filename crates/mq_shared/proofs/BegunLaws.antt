-- What a phase begins with is kept under its locks.
use Rattle.std.proofs.Common.{◌≡◌, ℕ, false, List, [], ◌∷◌, ◌++◌, refl, sym, ap, subst, ◌∙◌, append-nil, inl, inr}
use Rattle.std.specs.Prelude.{Option, Some, None, map, slice_get}
use Rattle.mq_base.specs.Members.{Mem}
use Rattle.mq_history.specs.declared.scenario.Scenario.{Scenario}
use Rattle.mq_spec_node.specs.Terms.{Entry, ScriptPart}
use Rattle.mq_spec_network.specs.Tasks.{Trying}
use Rattle.mq_acts.specs.from_events.States.{NodeState, IsServed}
use Rattle.mq_split.specs.Took.{EndState}
use Rattle.mq_split.specs.Ends.{AreFree, EachIs, EndsApart, IsEndAt, end_name}
use Rattle.mq_shared.specs.Held.{Begun, IsScriptIn, Kept, ScriptState, ScriptsApart, cables_begun, entries_begun, entries_or, script_name}
use Rattle.mq_shared.specs.Phasing.{moment_or, tries_in, tries_one}
use Rattle.mq_shared.proofs.ShareLists.{mem_right}

pub kept_begun : (b : Begun) (m : ℕ) (n : NodeState) (ends : List EndState) (scripts : List ScriptState) → slice_get b.nodes m ≡ Some n → IsServed n → EachIs (IsEndAt (cables_begun b) m (entries_begun b m) []) ends → EndsApart ends → slice_get b.ends m ≡ Some (map end_name ends)
    → EachIs (IsScriptIn b m (entries_begun b m)) scripts → ScriptsApart scripts → slice_get b.scripts m ≡ Some (map script_name scripts) → AreFree ends → Kept b (record { manager = m; node = n; ends = ends; scripts = scripts; wants = false })
kept_begun b m n ends scripts there served are apart ends_named tried single scripts_named free =
    let begun : entries_begun b m ≡ n.history.entries = ap entries_or there in
    record {
      first = n;
      there = there;
      since = [];
      grows = record { given = refl; history = ap (λ (es : List Entry). record n.history { entries = es }) (sym (append-nil n.history.entries)) };
      marks = refl;
      phased = tt;
      ends = λ i e at. subst (λ (d : List Entry). IsEndAt (cables_begun b) m d [] e) begun (are i e at);
      ends_apart = apart;
      end_names = ends_named;
      scripts = λ i s at. subst (λ (d : List Entry). IsScriptIn b m d s) (begun ∙ sym (append-nil n.history.entries)) (tried i s at);
      scripts_apart = single;
      script_names = scripts_named;
      ready = λ q. inl served;
      free = λ q. free;
    }

-- THE SCRIPTS OF A PHASE
pub tried_in : (s : Scenario) (ns : List NodeState) (ks : List ℕ) (k : ℕ) (p : ScriptPart) → Mem k ks → slice_get s.scripts k ≡ Some p → Mem (record { script = k; part = p; moment = moment_or (slice_get ns p.manager) }) (tries_in s ns ks)
tried_in s ns [] k p h at = absurd h
tried_in s ns (j ∷ js) k p (inl e) at =
    subst (λ (o : Option ScriptPart). Mem (record { script = k; part = p; moment = moment_or (slice_get ns p.manager) }) (tries_one ns j o ++ tries_in s ns js)) (sym (ap (slice_get s.scripts) (sym e) ∙ at))
    (inl (λ i. record { script = e i; part = p; moment = moment_or (slice_get ns p.manager) }))
tried_in s ns (j ∷ js) k p (inr h) at = mem_right (record { script = k; part = p; moment = moment_or (slice_get ns p.manager) }) (tries_one ns j (slice_get s.scripts j)) (tries_in s ns js) (tried_in s ns js k p h at)

-- each is one of those named, with the scenario's lines
pub record IsTried (s : Scenario) (ns : List NodeState) (ks : List ℕ) (t : Trying) : Type 0 where
  pub part : slice_get s.scripts t.script ≡ Some t.part
  pub moment : t.moment ≡ moment_or (slice_get ns t.part.manager)
  pub named : Mem t.script ks

pub tries_are : (s : Scenario) (ns : List NodeState) (ks : List ℕ) (t : Trying) → Mem t (tries_in s ns ks) → IsTried s ns ks t
tries_are s ns [] t h = absurd h
tries_are s ns (j ∷ js) t h = from (slice_get s.scripts j) refl (λ m. tries_are s ns js t m) h
  where
    later : IsTried s ns js t → IsTried s ns (j ∷ js) t
    later x = record { part = x.part; moment = x.moment; named = inr x.named }

    from : (o : Option ScriptPart) → slice_get s.scripts j ≡ o → (Mem t (tries_in s ns js) → IsTried s ns js t) → Mem t (tries_one ns j o ++ tries_in s ns js) → IsTried s ns (j ∷ js) t
    from None at rest m = later (rest m)
    from (Some p) at rest (inl same) = subst (IsTried s ns (j ∷ js)) (sym same) (record { part = at; moment = refl; named = inl refl })
    from (Some p) at rest (inr m) = later (rest m)
