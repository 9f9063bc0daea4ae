use Rattle.std.proofs.Common.{◌≡◌, ◌≢◌, ◌≤◌, ◌<◌, ◌+◌, ◌-◌, ℕ, List, refl, length, take, get_or, sym, ap, ◌∙◌, arith}
use Rattle.mq_base.specs.Name.{trimmed}
use Rattle.mq_base.proofs.TrimLemmas.{trimmed-take_blank, trimmed-take_other}
use Rattle.mq_base.proofs.text.trimmed.Goals as goal
use Rattle.mq_base.proofs.text.trimmed.Goals.{then-trimming-test+else-field-len-eq32, else-trimming-test}

pub trimming-preserved : goal.trimming-preserved
trimming-preserved c =
    let field : List ℕ = c.args.field.now in
    let n : ℕ = c.trimming.len - 1 in
    let more : n + 1 ≡ c.trimming.len = omega arith in
    let h : trimmed field ≡ trimmed (take (n + 1) field) = c.trimming.invariant.same ∙ ap (λ (k : ℕ). trimmed (take k field)) (sym more) in
    record {
      within = omega arith;
      same = h ∙ trimmed-take_blank field n (omega arith) c.if-field-len-eq32.true;
    }

ends : (field : List ℕ) (len : ℕ) → len ≤ length field → 0 < len → get_or field (len - 1) 0 ≢ 32 → take len field ≡ trimmed (take len field)
ends field len within some ne =
    let more : len - 1 + 1 ≡ len = omega arith in
    ap (λ (k : ℕ). take k field) (sym more) ∙ sym (trimmed-take_other field (len - 1) (omega arith) ne) ∙ ap (λ (k : ℕ). trimmed (take k field)) more

pub returns-clause-text : goal.returns-clause-text
returns-clause-text c =
    let field : List ℕ = c.args.field.now in
    let len : ℕ = c.trimming.len in
    let h : take len field ≡ trimmed (take len field) = elim c.trimming-test.branch as (λ _. take len field ≡ trimmed (take len field)) [
      | then-trimming-test+else-field-len-eq32 w ↦ ends field len c.trimming.invariant.within w.trimming-test.true w.if-field-len-eq32.false
      | else-trimming-test w ↦ let none : len ≡ 0 = omega arith in rw none refl
    ] in
    c.split_at.ensures.front ∙ h ∙ sym c.trimming.invariant.same
