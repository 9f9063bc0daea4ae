-- Which lines say nothing, which end a part, what a section says and what a cut one tells, both ways.
use Rattle.std.proofs.Common.{◌≡◌, ℕ, Bool, true, false, List, [], ◌∷◌, refl, sym, ap, subst, ◌∙◌, eqb, inl, inr}
use Rattle.std.specs.Prelude.{codes, Option, Some, None, ◌||◌, ◌&&◌}
use Rattle.std.specs.Str.{bytes_eq}
use Rattle.std.proofs.lemmas.Bool.{and_parts}
use Rattle.std.proofs.lemmas.Bool.Decides.{eqb_tells}
use Rattle.std.proofs.lemmas.Slice.Eq.{bytes_eq-Decides}
use Rattle.mq_sc_grammar.specs.Texts.{IsComment}
use Rattle.mq_history.specs.declared.scenario.Scenario.{Scenario}
use Rattle.mq_scn_lines.specs.Words.{first_word}
use Rattle.mq_scn_text.specs.declared.fault.ScenarioFault.{ScenarioFault}
use Rattle.mq_scn_text.specs.declared.reading.Inside.{Inside}
use Rattle.mq_scn_text.specs.declared.reading.Inside.TheVariants as insides
use Rattle.mq_scn_heading.specs.Lookup.{own_name}
use Rattle.mq_scn_text.specs.Reading.{no_word, only_word, is_only, is_comment, is_skipped, section_cut}
use Rattle.mq_scn_grammar.specs.Words.{IsWord, IsOnly}
use Rattle.mq_scn_grammar.proofs.Script.{no_front, some_letters}
use Rattle.mq_scn_grammar.proofs.Firsts.{no_word_found, no_word_read, only_read, only_found}
use Rattle.mq_law_scenario.specs.Texts.{IsSkipped}
use Rattle.mq_law_scenario.specs.Faults.{HasOwnCut}
use Rattle.mq_law_scenario.proofs.SectionReads.{err_cut, cut_is, cut_found}
use Rattle.mq_law_scenario.proofs.TableReads.{cut_is as table_cut_is, cut_found as table_cut_found}

not_both : (b : Bool) → b ≡ true → b ≡ false → ⊥
not_both b e f = absurd (let g : true ≡ false = sym e ∙ f in cc)

-- ---- lines that say nothing

comment_read : (line : List ℕ) → IsComment line → is_comment line ≡ true
comment_read [] h = absurd h
comment_read (b ∷ bs) h = ap (λ (c : ℕ). eqb c 42) h

comment_found : (line : List ℕ) → is_comment line ≡ true → IsComment line
comment_found [] e = absurd cc
comment_found (b ∷ bs) e = elim (eqb_tells b 42) [
  | inl p ↦ p.1
  | inr p ↦ absurd (not_both (eqb b 42) e p.0)
]

or_right : (a : Bool) → (a || true) ≡ true
or_right true = refl
or_right false = refl

pub skipped_is : (line : List ℕ) → IsSkipped line → is_skipped line ≡ true
skipped_is line (inl h) = ap (λ (b : Bool). b || no_word (first_word line)) (comment_read line h)
skipped_is line (inr h) = ap (λ (o : Option (List ℕ × List ℕ)). is_comment line || no_word o) (no_word_read line h) ∙ or_right (is_comment line)

none_by : (o : Option (List ℕ × List ℕ)) → no_word o ≡ true → o ≡ no_front
none_by None e = refl
none_by (Some p) e = absurd cc

skipped_by : (line : List ℕ) (b : Bool) → is_comment line ≡ b → (b || no_word (first_word line)) ≡ true → IsSkipped line
skipped_by line true c e = inl (comment_found line c)
skipped_by line false c e = inr (no_word_found line (none_by (first_word line) e))

pub skipped_found : (line : List ℕ) → is_skipped line ≡ true → IsSkipped line
skipped_found line e = skipped_by line (is_comment line) refl e

unless_true : (b : Bool) → (b ≡ true → ⊥) → b ≡ false
unless_true true h = absurd (h refl)
unless_true false h = refl

pub unskipped_is : (line : List ℕ) → (IsSkipped line → ⊥) → is_skipped line ≡ false
unskipped_is line never = unless_true (is_skipped line) (λ e. never (skipped_found line e))

pub unskipped_found : (line : List ℕ) → is_skipped line ≡ false → IsSkipped line → ⊥
unskipped_found line e h = not_both (is_skipped line) (skipped_is line h) e

-- ---- lines that end a part

pub end_is : (word line : List ℕ) → IsWord word → IsOnly word line → is_only word line ≡ true
end_is word line is h =
    let r = only_read word line is h in
    let same : bytes_eq word word ≡ true = (bytes_eq-Decides word word).1 refl in
    ap (only_word word) r.1 ∙ ap (λ (b : Bool). b && no_word (first_word r.0)) same ∙ ap no_word r.2

end_by : (word line : List ℕ) (o : Option (List ℕ × List ℕ)) → first_word line ≡ o → only_word word o ≡ true → IsOnly word line
end_by word line None e f = absurd cc
end_by word line (Some p) e f =
    let parts = and_parts (bytes_eq p.0 word) (no_word (first_word p.1)) f in
    let same : p.0 ≡ word = (bytes_eq-Decides p.0 word).0 parts.0 in
    subst (λ (w : List ℕ). IsOnly w line) same (only_found p.0 line p.1 e (none_by (first_word p.1) parts.1))

pub end_found : (word line : List ℕ) → is_only word line ≡ true → IsOnly word line
end_found word line e = end_by word line (first_word line) refl e

pub no_end_is : (word line : List ℕ) → (IsOnly word line → ⊥) → is_only word line ≡ false
no_end_is word line never = unless_true (is_only word line) (λ e. never (end_found word line e))

pub no_end_found : (word line : List ℕ) → IsWord word → is_only word line ≡ false → IsOnly word line → ⊥
no_end_found word line is e h = not_both (is_only word line) (end_is word line is h) e

pub mqsc_word : IsWord (codes "ENDMQSC")
mqsc_word = some_letters (codes "ENDMQSC") refl (λ q. absurd cc)

pub rules_word : IsWord (codes "ENDRULES")
rules_word = some_letters (codes "ENDRULES") refl (λ q. absurd cc)

pub script_word : IsWord (codes "ENDSCRIPT")
script_word = some_letters (codes "ENDSCRIPT") refl (λ q. absurd cc)

pub steps_word : IsWord (codes "ENDSTEPS")
steps_word = some_letters (codes "ENDSTEPS") refl (λ q. absurd cc)

-- ---- sections that are cut off

pub own_cut_is : (i : Inside) (s : Scenario) (fault : ScenarioFault) → HasOwnCut i s fault → section_cut i s ≡ err_cut fault
unfolding section_cut
own_cut_is insides.Nothing s fault h = absurd h
own_cut_is (insides.Mqsc o) s fault h = cut_is o fault h
own_cut_is (insides.Rules o) s fault h = table_cut_is (own_name s.managers o.manager) o fault h
own_cut_is (insides.Script script) s fault h = absurd h
own_cut_is insides.Steps s fault h = absurd h

pub own_cut_found : (i : Inside) (s : Scenario) (fault : ScenarioFault) → section_cut i s ≡ err_cut fault → HasOwnCut i s fault
unfolding section_cut
own_cut_found insides.Nothing s fault e = absurd cc
own_cut_found (insides.Mqsc o) s fault e = cut_found o fault e
own_cut_found (insides.Rules o) s fault e = table_cut_found (own_name s.managers o.manager) o fault e
own_cut_found (insides.Script script) s fault e = absurd cc
own_cut_found insides.Steps s fault e = absurd cc
