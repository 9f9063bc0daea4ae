-- The next line of a script and the next step, both ways.
use Rattle.std.proofs.Common.{◌≡◌, ◌⊎◌, ℕ, suc, ◌≤◌, ◌<◌, Bool, true, false, cond, List, length, Result, Ok, Err, refl, sym, ap, ◌∙◌, arith, inl, inr}
use Rattle.std.specs.Prelude.{◌&&◌, nat_lt}
use Rattle.std.proofs.lemmas.Bool.Decides.{leb_tells}
use Rattle.mq_history.specs.declared.scenario.Scenario.{Scenario}
use Rattle.mq_history.specs.declared.scenario.Step.{Step}
use Rattle.mq_history.specs.declared.scripts.ScriptLine.{ScriptLine}
use Rattle.mq_scn_lines.specs.declared.fault.Limit.{Limit}
use Rattle.mq_scn_lines.specs.declared.fault.Limit.TheVariants as limits
use Rattle.mq_scn_lines.specs.declared.fault.LineFault.{LineFault}
use Rattle.mq_scn_lines.specs.declared.fault.LineFault.TheVariants as faults
use Rattle.mq_scn_lines.specs.Faults.{rank, both}
use Rattle.mq_scn_script.specs.Lines.{script_line}
use Rattle.mq_scn_text.specs.declared.scripts.Script.{Script}
use Rattle.mq_scn_text.specs.Scripts.{connects, room, ordered, script_read}
use Rattle.mq_scn_heading.specs.Steps.{step_line}
use Rattle.mq_scn_text.specs.Reading.{step_room, step_read}
use Rattle.mq_scn_grammar.specs.ScriptLines.{IsScriptLine, HasLineFault}
use Rattle.mq_scn_grammar.proofs.Told.{Reports}
use Rattle.mq_scn_grammar.proofs.Numbers.{le_of}
use Rattle.mq_scn_grammar.proofs.Script.{Answers, answer_found, answer_read, refusal_found, refusal_read, LineOf, FaultOf as LineFaultOf, line_tells}
use Rattle.mq_scn_parts.specs.Steps.{IsStepLine}
use Rattle.mq_scn_parts.proofs.Pairs.{answers_both}
use Rattle.mq_scn_parts.proofs.StepLines.{StepOf, FaultOf, step_tells}
use Rattle.mq_law_scenario.specs.Faults.{HasNextFault, IsNextFault, HasNextStepFault, IsNextStepFault}

-- ---- room for one more

abbrev HasRoom : ℕ → ℕ → Unit {0} → Type 0
HasRoom n most u = n < most

abbrev NoRoom : ℕ → ℕ → Limit → LineFault → Type 0
NoRoom n most limit f = (f ≡ faults.Limit limit) × (most ≤ n)

only_one : (u v : Unit {0}) → u ≡ v
only_one u v = refl

room_by : (n most : ℕ) (limit : Limit) (t : Bool) → nat_lt n most ≡ t → Reports (HasRoom n most) (NoRoom n most limit) (cond t (Ok tt) (Err (faults.Limit limit)))
room_by n most limit true e =
    let lt : n < most = le_of (suc n) most e in
    (lt, (λ u h. only_one u tt), λ f h. absurd (let le = h.1 in omega (arith, lt, le)))
room_by n most limit false e =
    let le : most ≤ n = not_less n most e in
    ((λ u h. absurd (let lt = h in omega (arith, lt, le))), (refl, le), refl, λ g h. inl h.0)
  where
    not_less : (m n : ℕ) → nat_lt m n ≡ false → n ≤ m
    not_less m n e = elim (leb_tells (suc m) n) [
      | inl t ↦ absurd (let g : true ≡ false = sym t.0 ∙ e in cc)
      | inr t ↦ (let lt = t.1 in omega (arith, lt))
    ]

-- ---- the next step

module _ (s : Scenario) (line : List ℕ) where
  abbrev IsNext : Unit {0} × Step → Type 0
  IsNext p = (length s.steps < 3000) × IsStepLine s line p.1

  low_steps : (f : LineFault) → NoRoom (length s.steps) 3000 limits.Steps f → rank f < 20
  low_steps f h = let r : rank f ≡ 8 = ap rank h.0 in omega (arith, r)

  next_step_tells : Answers IsNext (HasNextStepFault s line) (step_read s line)
  unfolding step_read
  next_step_tells =
      answers_both (HasRoom (length s.steps) 3000) (NoRoom (length s.steps) 3000 limits.Steps) (StepOf s line) (FaultOf s line) low_steps (step_room (length s.steps)) (step_line s line)
      (room_by (length s.steps) 3000 limits.Steps (nat_lt (length s.steps) 3000) refl) (step_tells s line)

  pub next_step_found : (step : Step) → step_read s line ≡ Ok (tt, step) → (length s.steps < 3000) × IsStepLine s line step
  next_step_found step e = answer_found IsNext (HasNextStepFault s line) (step_read s line) (tt, step) next_step_tells e

  pub next_step_read : (step : Step) → length s.steps < 3000 → IsStepLine s line step → step_read s line ≡ Ok (tt, step)
  next_step_read step lt h = answer_read IsNext (HasNextStepFault s line) (step_read s line) (tt, step) next_step_tells (lt, h)

  pub step_refused : (f : LineFault) → step_read s line ≡ Err f → IsNextStepFault s line f
  step_refused f e = refusal_found IsNext (HasNextStepFault s line) (step_read s line) f next_step_tells e

  pub step_is_refused : (f : LineFault) → IsNextStepFault s line f → step_read s line ≡ Err f
  step_is_refused f h = refusal_read IsNext (HasNextStepFault s line) (step_read s line) f next_step_tells h

-- ---- the next line of a script

module _ (left : ℕ) (s : Script) (line : List ℕ) where
  abbrev count : ℕ
  count = length s.part.lines

  abbrev Reads : ScriptLine → Type 0
  Reads said = (count < 25000) × IsScriptLine left said line × ((s.connected && connects said) ≡ false)

  abbrev Has : LineFault → Type 0
  Has f = HasNextFault left s line f

  low_lines : (f : LineFault) → NoRoom count 25000 limits.ScriptLines f → rank f < 20
  low_lines f h = let r : rank f ≡ 9 = ap rank h.0 in omega (arith, r)

  abbrev IsRead : Unit {0} × ScriptLine → Type 0
  IsRead p = (count < 25000) × IsScriptLine left p.1 line

  abbrev NotRead : LineFault → Type 0
  NotRead f = NoRoom count 25000 limits.ScriptLines f ⊎ HasLineFault left line f

  read_tells : Answers IsRead NotRead (both (room count) (script_line left line))
  read_tells =
      answers_both (HasRoom count 25000) (NoRoom count 25000 limits.ScriptLines) (LineOf left line) (LineFaultOf left line) low_lines (room count) (script_line left line)
      (room_by count 25000 limits.ScriptLines (nat_lt count 25000) refl) (line_tells left line)

  -- a line has no fault of its own
  said_no_fault : (said : ScriptLine) → IsScriptLine left said line → (f : LineFault) → HasLineFault left line f → ⊥
  said_no_fault said h f k = by (script_line left line) (line_tells left line)
    where
      by : (r : Result ScriptLine LineFault) → Answers (LineOf left line) (LineFaultOf left line) r → ⊥
      by (Ok x) t = t.2 f k
      by (Err g) t = t.0 said h

  one_said : (said other : ScriptLine) → IsScriptLine left said line → IsScriptLine left other line → said ≡ other
  one_said said other h k = by (script_line left line) (line_tells left line)
    where
      by : (r : Result ScriptLine LineFault) → Answers (LineOf left line) (LineFaultOf left line) r → said ≡ other
      by (Ok x) t = t.1 said h ∙ sym (t.1 other k)
      by (Err g) t = absurd (t.0 said h)

  order_by : (u : Unit {0}) (said : ScriptLine) → (count < 25000) → IsScriptLine left said line → (t : Bool) → (s.connected && connects said) ≡ t → Answers Reads Has (cond t (Err faults.Order) (Ok said))
  order_by u said lt is true e = ((λ y h. never y h), inr (inr (refl, (said, is, e))), λ g h. first g h)
    where
      never : (y : ScriptLine) → Reads y → ⊥
      never y h = absurd (let f : (s.connected && connects y) ≡ true = ap (λ (x : ScriptLine). s.connected && connects x) (one_said y said h.1 is) ∙ e in let g : true ≡ false = sym f ∙ h.2 in cc)

      first : (g : LineFault) → Has g → (g ≡ faults.Order) ⊎ (rank faults.Order < rank g)
      first g (inl h) = absurd (let le = h.1 in omega (arith, lt, le))
      first g (inr (inl h)) = absurd (said_no_fault said is g h)
      first g (inr (inr h)) = inl h.0
  order_by u said lt is false e = ((lt, is, e), (λ y h. one_said y said h.1 is), λ g h. never g h)
    where
      never : (g : LineFault) → Has g → ⊥
      never g (inl h) = absurd (let le = h.1 in omega (arith, lt, le))
      never g (inr (inl h)) = said_no_fault said is g h
      never g (inr (inr (k, (other, h, o)))) = absurd (let f : (s.connected && connects other) ≡ false = ap (λ (x : ScriptLine). s.connected && connects x) (one_said other said h is) ∙ e in let g : true ≡ false = sym o ∙ f in cc)

  ordered_by : (r : Result (Unit {0} × ScriptLine) LineFault) → Answers IsRead NotRead r → Answers Reads Has (ordered s.connected r)
  ordered_by (Ok (u, said)) t = order_by u said t.0.0 t.0.1 (s.connected && connects said) refl
  ordered_by (Err f) t = ((λ y h. t.0 (tt, y) (h.0, h.1)), has f t.1, λ g h. first g h)
    where
      has : (f : LineFault) → NotRead f → Has f
      has f (inl h) = inl h
      has f (inr h) = inr (inl h)

      early : (said : ScriptLine) → IsScriptLine left said line → NotRead f → rank f < 19
      early said is (inl h) = let r : rank f ≡ 9 = ap rank h.0 in omega (arith, r)
      early said is (inr h) = absurd (said_no_fault said is f h)

      first : (g : LineFault) → Has g → (g ≡ f) ⊎ (rank f < rank g)
      first g (inl h) = t.2 g (inl h)
      first g (inr (inl h)) = t.2 g (inr h)
      first g (inr (inr h)) = inr (let r : rank g ≡ 19 = ap rank h.0 in let lt = early h.1.0 h.1.1 t.1 in omega (arith, r, lt))

  next_tells : Answers Reads Has (script_read left line s)
  unfolding script_read
  next_tells = ordered_by (both (room count) (script_line left line)) read_tells

  pub next_found : (said : ScriptLine) → script_read left line s ≡ Ok said → Reads said
  next_found said e = answer_found Reads Has (script_read left line s) said next_tells e

  pub next_read : (said : ScriptLine) → Reads said → script_read left line s ≡ Ok said
  next_read said h = answer_read Reads Has (script_read left line s) said next_tells h

  pub line_refused : (f : LineFault) → script_read left line s ≡ Err f → IsNextFault left s line f
  line_refused f e = refusal_found Reads Has (script_read left line s) f next_tells e

  pub line_is_refused : (f : LineFault) → IsNextFault left s line f → script_read left line s ≡ Err f
  line_is_refused f h = refusal_read Reads Has (script_read left line s) f next_tells h
