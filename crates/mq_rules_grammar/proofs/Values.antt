-- A value that its keyword doesn't take has the flaw Value, and no other.
use Rattle.std.proofs.Common.{◌≡◌, ℕ, ℤ, Bool, true, false, cond, List, [], Result, Ok, Err, refl, sym, ◌∙◌}
use Rattle.std.specs.Prelude.{Option, Some, None, codes}
use Rattle.std.specs.Str.{bytes_eq}
use Rattle.mq_base.specs.declared.fault.NameFault.{NameFault}
use Rattle.mq_base.specs.Name.{name_of}
use Rattle.mq_text.specs.declared.numbers.NumberFault.{NumberFault}
use Rattle.mq_text.specs.Numbers.{number_in, signed_of}
use Rattle.mq_rules.specs.declared.rule.NumberField.{NumberField}
use Rattle.mq_rules.specs.declared.rule.Target.{Target}
use Rattle.mq_rules.specs.declared.rule.Wait.TheVariants as waits
use Rattle.mq_rules_text.specs.declared.fault.Flaw.{Flaw}
use Rattle.mq_rules_text.specs.declared.fault.Flaw.TheVariants as flaws
use Rattle.mq_rules_text.specs.declared.values.Verb.TheVariants as verbs
use Rattle.mq_rules_text.specs.Values.{as_name, name_value, is_blank, name_or_blank, field_target, or_name, queue_target, manager_target, symbol_of, or_number, number_value, as_number, ranged, yes_or_no, verb_of, as_seconds, wait_of}

abbrev ok_at : {X : Type 0} → X → Result X Flaw
ok_at x = Ok x

abbrev err_at : {X : Type 0} → Flaw → Result X Flaw
err_at flaw = Err flaw

-- past an answer that is none
past : {X : Type 0} (b : Bool) (x : X) (r : Result X Flaw) (f : Flaw) → cond b (ok_at x) r ≡ err_at f → r ≡ err_at f
past true x r f e = absurd cc
past false x r f e = e

is_value : {X : Type 0} (f : Flaw) → err_at {X = X} flaws.Value ≡ err_at f → f ≡ flaws.Value
is_value f e = cc

pub verb_flaw : (v : List ℕ) (f : Flaw) → verb_of v ≡ Err f → f ≡ flaws.Value
unfolding verb_of
verb_flaw v f e =
    is_value f (past (bytes_eq v (codes "FWD")) verbs.Forward (Err flaws.Value) f
    (past (bytes_eq v (codes "RETRY")) verbs.Retry _ f (past (bytes_eq v (codes "IGNORE")) verbs.Ignore _ f (past (bytes_eq v (codes "DISCARD")) verbs.Discard _ f e))))

pub header_flaw : (v : List ℕ) (f : Flaw) → yes_or_no v ≡ Err f → f ≡ flaws.Value
unfolding yes_or_no
header_flaw v f e = is_value f (past (bytes_eq v (codes "NO")) false (Err flaws.Value) f (past (bytes_eq v (codes "YES")) true _ f e))

number_by : (o : Option ℤ) (r : Result ℤ NumberFault) (f : Flaw) → or_number o r ≡ err_at f → f ≡ flaws.Value
number_by None (Ok z) f e = absurd cc
number_by None (Err fault) f e = cc
number_by (Some z) r f e = absurd cc

pub number_flaw : (field : NumberField) (v : List ℕ) (f : Flaw) → number_value field v ≡ Err f → f ≡ flaws.Value
unfolding number_value
number_flaw field v f e = number_by (symbol_of field v) (signed_of v) f e

ranged_by : (r : Result ℕ NumberFault) (f : Flaw) → as_number r ≡ err_at f → f ≡ flaws.Value
ranged_by (Ok n) f e = absurd cc
ranged_by (Err fault) f e = cc

pub ranged_flaw : (low high : ℕ) (v : List ℕ) (f : Flaw) → ranged low high v ≡ Err f → f ≡ flaws.Value
unfolding ranged
ranged_flaw low high v f e = ranged_by (number_in low high v) f e

name_by : (r : Result (List ℕ) NameFault) (f : Flaw) → as_name r ≡ err_at f → f ≡ flaws.Value
name_by (Ok name) f e = absurd cc
name_by (Err fault) f e = cc

name_flaw : (v : List ℕ) (f : Flaw) → name_value v ≡ Err f → f ≡ flaws.Value
unfolding name_value
name_flaw v f e = name_by (name_of 48 v) f e

blank_by : (v : List ℕ) (b : Bool) (f : Flaw) → cond b (ok_at []) (name_value v) ≡ err_at f → f ≡ flaws.Value
blank_by v true f e = absurd cc
blank_by v false f e = name_flaw v f e

pub blank_flaw : (v : List ℕ) (f : Flaw) → name_or_blank v ≡ Err f → f ≡ flaws.Value
unfolding name_or_blank
blank_flaw v f e = blank_by v (is_blank v) f e

target_by : (o : Option Target) (r : Result (List ℕ) Flaw) (f : Flaw) → ((g : Flaw) → r ≡ err_at g → g ≡ flaws.Value) → or_name o r ≡ err_at f → f ≡ flaws.Value
target_by (Some target) r f more e = absurd cc
target_by None (Ok name) f more e = absurd cc
target_by None (Err g) f more e = let same : g ≡ f = cc in sym same ∙ more g refl

pub queue_flaw : (v : List ℕ) (f : Flaw) → queue_target v ≡ Err f → f ≡ flaws.Value
queue_flaw v f e = target_by (field_target v) (name_value v) f (λ g h. name_flaw v g h) e

pub manager_flaw : (v : List ℕ) (f : Flaw) → manager_target v ≡ Err f → f ≡ flaws.Value
manager_flaw v f e = target_by (field_target v) (name_or_blank v) f (λ g h. blank_flaw v g h) e

seconds_by : (r : Result ℕ Flaw) (f : Flaw) → ((g : Flaw) → r ≡ err_at g → g ≡ flaws.Value) → as_seconds r ≡ err_at f → f ≡ flaws.Value
seconds_by (Ok n) f more e = absurd cc
seconds_by (Err g) f more e = let same : g ≡ f = cc in sym same ∙ more g refl

pub wait_flaw : (v : List ℕ) (f : Flaw) → wait_of v ≡ Err f → f ≡ flaws.Value
unfolding wait_of
wait_flaw v f e =
    seconds_by (ranged 0 999999999 v) f (λ g h. ranged_flaw 0 999999999 v g h) (past (bytes_eq v (codes "NO")) waits.No _ f (past (bytes_eq v (codes "YES")) waits.Yes _ f e))
