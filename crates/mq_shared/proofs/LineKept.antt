-- A try of a script's line keeps what is kept under a lock.
use Rattle.std.proofs.Common.{◌≡◌, ℕ, Bool, true, false, List, [], ◌∷◌, ◌++◌, refl, sym, ap, subst, ◌∙◌, append-nil, inl, inr, arith}
use Rattle.std.specs.Prelude.{◌==◌, not, Result, Ok, Err, Some, map, slice_get, slice_set}
use Rattle.std.specs.Result.{is_err}
use Rattle.std.specs.List.{AllByRecursion}
use Rattle.std.proofs.lemmas.Bool.Decides.{nat_tests}
use Rattle.mq_base.specs.declared.want.NoMemory.{NoMemory}
use Rattle.mq_history.specs.declared.calls.Actor.TheVariants as actors
use Rattle.mq_spec_node.specs.Terms.{Entry}
use Rattle.mq_spec_node.specs.Words.{is_script}
use Rattle.mq_acts.specs.from_events.States.{NodeState, IsKept, IsServed, value_of}
use Rattle.mq_acts.specs.Serving.{IsDone}
use Rattle.mq_ways.specs.Ways.{IsQuietEntry}
use Rattle.mq_shared.specs.declared.trying.Tried.{Tried}
use Rattle.mq_shared.specs.declared.trying.Tried.TheVariants as tries
use Rattle.mq_split.specs.Took.{EndState}
use Rattle.mq_split.specs.Ends.{IsEndAt, acts_as, faults_at, manager_at}
use Rattle.mq_shared.specs.Held.{Begun, Held, IsScriptIn, Kept, ScriptState, cables_begun, entries_begun, script_name}
use Rattle.mq_shared.specs.Events.{LineMade, LineNot, LineTried, SameScript}
use Rattle.mq_split.proofs.EndLaws.{end_quiet}
use Rattle.mq_shared.proofs.KeptLaws.{each_set, grown_entries, kept_on, made_in, names_set, pairs_set, served_stays, silent_behind, stayed_went}
use Rattle.mq_shared.proofs.QuietLaws.{quiet_behind}
use Rattle.mq_shared.proofs.ScriptLaws.{line_in, script_done, script_others, script_waits}

-- an end of which none of these is a turn
pub end_at_quiet : (b : Begun) (m : ℕ) (first since es : List Entry) (e : EndState) → AllByRecursion (IsQuietEntry (acts_as e.cable e.sends)) es → IsEndAt (cables_begun b) m first since e → IsEndAt (cables_begun b) m first (since ++ es) e
end_at_quiet b m first since es e q h = record {
  line = h.line;
  there = h.there;
  here = h.here;
  out = h.out;
  from = h.from;
  kept = end_quiet (faults_at h.line e.sends) (acts_as e.cable e.sends) (acts_as e.cable (not e.sends)) first (entries_begun b (manager_at h.line (not e.sends))) since es e q h.kept;
}

-- a script is no end, and no other script
pub no_end : (k script : ℕ) (sends : Bool) → acts_as k sends (actors.Script script) ≡ false
no_end k script true = refl
no_end k script false = refl

pub other_script : (j k : ℕ) → (j ≡ k → ⊥) → is_script j (actors.Script k) ≡ false
other_script j k n = apart (k == j) refl
  where
    apart : (t : Bool) → (k == j) ≡ t → t ≡ false
    apart true e = absurd (n (let same : j ≡ k = grind (arith, nat_tests) in same))
    apart false e = refl

module _ (b : Begun) (h : Held) (at : ℕ) (s t : ScriptState) (new : NodeState) (k : Kept b h) (is : slice_get h.scripts at ≡ Some s) (kept : IsKept h.node) (later : IsKept new) (calm : h.wants ≡ false) where
  -- the lock's value behind it
  abbrev behind_it : Bool → Held
  behind_it wants = record { manager = h.manager; node = new; ends = h.ends; scripts = slice_set h.scripts at t; wants = wants }

  entries : h.node.history.entries ≡ k.first.history.entries ++ k.since
  entries = grown_entries (value_of k.first) (value_of h.node) k.since k.grows

  mine : IsScriptIn b h.manager h.node.history.entries s
  mine = subst (λ (d : List Entry). IsScriptIn b h.manager d s) (sym entries) (k.scripts at s is)

  single : (same : SameScript s t) → Rattle.mq_shared.specs.Held.ScriptsApart (slice_set h.scripts at t)
  single same =
      pairs_set (λ (x y : ScriptState). x.script ≡ y.script) h.scripts at s t is (λ y e. sym same.script ∙ e) (λ y e. e ∙ same.script) k.scripts_apart

  named : (same : SameScript s t) → map script_name (slice_set h.scripts at t) ≡ map script_name h.scripts
  named same = names_set script_name h.scripts at s t is same.script

  made_kept : (wants : Bool) → LineMade s t h.node new → (wants ≡ false → IsDone new) → Kept b (behind_it wants)
  made_kept wants x ready =
      kept_on b h k (e ∷ behind) new h.ends (slice_set h.scripts at t) wants x.made.went
      (made_in b.tries h.manager h.node.history.entries e behind (line_in b h.manager h.node.history.entries s x.line e mine x.is x.made.actor x.made.call) x.made.turns)
      (λ i d there. end_at_quiet b h.manager k.first.history.entries k.since (e ∷ behind) d (quiet_behind (acts_as d.cable d.sends) e behind (inl (ap (acts_as d.cable d.sends) x.made.actor ∙ no_end d.cable s.script d.sends)) (silent_behind h.node new e behind later x.made.went x.made.turns)) (k.ends i d there))
      k.ends_apart refl
      (each_set (IsScriptIn b h.manager (h.node.history.entries ++ e ∷ behind)) h.scripts at t
      (script_done b h.manager h.node.history.entries behind e x.line s t x.same x.is x.made.actor x.made.call x.finished x.made.turns mine)
      (λ j u apart there. script_others b h.manager h.node.history.entries behind e u
      (ap (is_script u.script) x.made.actor ∙ other_script u.script s.script (λ same. apart (k.scripts_apart j at u s there is same))) x.made.turns
      (subst (λ (d : List Entry). IsScriptIn b h.manager d u) (sym entries) (k.scripts j u there))))
      (single x.same) (named x.same) ready (λ q. k.free calm)
    where
      e : Entry
      e = x.made.entry

      behind : List Entry
      behind = x.made.behind

  not_kept : (wants : Bool) → LineNot s t h.node new → (wants ≡ false → IsDone new) → Kept b (behind_it wants)
  not_kept wants x ready =
      kept_on b h k [] new h.ends (slice_set h.scripts at t) wants (stayed_went h.node new x.stayed) tt
      (λ i d there. subst (λ (es : List Entry). IsEndAt (cables_begun b) h.manager k.first.history.entries es d) (sym (append-nil k.since)) (k.ends i d there)) k.ends_apart refl
      (each_set (IsScriptIn b h.manager (h.node.history.entries ++ [])) h.scripts at t (none_more t (script_waits b h.manager h.node.history.entries s t x.same x.memory x.done x.until mine))
      (λ j u apart there. none_more u (subst (λ (d : List Entry). IsScriptIn b h.manager d u) (sym entries) (k.scripts j u there))))
      (single x.same) (named x.same) ready (λ q. k.free calm)
    where
      none_more : (u : ScriptState) → IsScriptIn b h.manager h.node.history.entries u → IsScriptIn b h.manager (h.node.history.entries ++ []) u
      none_more u y = subst (λ (d : List Entry). IsScriptIn b h.manager d u) (sym (append-nil h.node.history.entries)) y

  pub line_kept : (r : Result Tried NoMemory) → IsServed h.node → LineTried s h.node r t new → Kept b (behind_it (is_err r))
  line_kept (Ok tries.Done) served (x, done) = made_kept false x (λ q. done)
  line_kept (Ok tries.Waits) served x = not_kept false x (λ q. inl (served_stays h.node new x.stayed served))
  line_kept (Ok tries.Ended) served x = not_kept false x (λ q. inl (served_stays h.node new x.stayed served))
  line_kept (Err e) served (inl x) = not_kept true x (λ q. absurd cc)
  line_kept (Err e) served (inr x) = made_kept true x (λ q. absurd cc)
