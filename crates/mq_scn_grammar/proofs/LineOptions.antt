-- What the options of opens, puts and gets say, both ways.
use Rattle.std.proofs.Common.{◌≡◌, ℕ, Bool, true, false, cond, List, [], refl, sym, ap, ◌∙◌, inl, inr}
use Rattle.std.specs.Prelude.{ℤ, Option, Some, None, Ok, Err}
use Rattle.mq_calls.specs.declared.answers.Input.{Input}
use Rattle.mq_calls.specs.declared.answers.Input.TheVariants as inputs
use Rattle.mq_calls.specs.declared.answers.Open.{Open}
use Rattle.mq_scn_lines.specs.declared.fault.Limit.TheVariants as limits
use Rattle.mq_scn_lines.specs.declared.fault.LineFault.{LineFault}
use Rattle.mq_scn_lines.specs.declared.fault.LineFault.TheVariants as faults
use Rattle.mq_scn_lines.specs.declared.options.LineOption.{LineOption}
use Rattle.mq_scn_lines.specs.declared.options.LineOption.TheVariants as options
use Rattle.mq_scn_lines.specs.Numbers.{ranged}
use Rattle.mq_scn_lines.specs.Options.{has_value, group_of, are_options, says, value_of}
use Rattle.mq_scn_lines.specs.Texts.{field_in}
use Rattle.mq_scn_script.specs.Options.{for_open, input_of, open_options, number_or, number_option, name_or_none, name_option, some_field, field_or_none, field_option, field_or, room_in, room_of, some_number, wait_in, wait_of}
use Rattle.mq_sc_grammar.specs.Commands.{Tells}
use Rattle.mq_scn_grammar.specs.Options.{AreOptions, Says, HasValue}
use Rattle.mq_scn_grammar.specs.LineOptions.{IsValueOr, HasValueFault, NameIn, NameFault, SignedIn, SignedFault, FieldIn, FieldFault, NumberIn, NumberFault, SomeOf, IsInput, AreOpenOptions, HasOpenFault}
use Rattle.mq_scn_grammar.proofs.Told.{Reports, told_map, told_or}
use Rattle.mq_scn_grammar.proofs.Operands.{name_or_blank_tells, field_tells}
use Rattle.mq_scn_grammar.proofs.Numbers.{signed_tells, ranged_tells}
use Rattle.mq_scn_grammar.proofs.Options.{are_decides, says_decides, not_said, never_said, one_said, value_found, value_read}

-- ---- what is said

pub says_tells : (option : LineOption) (words : List (List ℕ)) → Tells (says option words) (Says option words)
says_tells option words = by (says option words) refl
  where
    by : (t : Bool) → says option words ≡ t → Tells t (Says option words)
    by true e = (says_decides option words).0 e
    by false e = λ m. never_said option words e m

pub tells_says : (b : Bool) (option : LineOption) (words : List (List ℕ)) → Tells b (Says option words) → says option words ≡ b
tells_says true option words h = (says_decides option words).1 h
tells_says false option words h = not_said option words h

pub one_never : (words : List (List ℕ)) (allowed : List LineOption) (a b : LineOption) → has_value a ≡ false → has_value b ≡ false → group_of a ≡ group_of b → (a ≡ b → ⊥) → AreOptions allowed words → Says b words → says a words ≡ false
one_never words allowed a b e f g ne are h = not_said a words (λ m. ne (one_said allowed words a b e f g are m h))

-- ---- opens

input_found : (words : List (List ℕ)) (a b : Bool) → says options.Shared words ≡ a → says options.Exclusive words ≡ b → IsInput (cond a inputs.Shared (cond b inputs.Exclusive inputs.No)) words
input_found words true b e f = (says_decides options.Shared words).0 e
input_found words false true e f = (says_decides options.Exclusive words).0 f
input_found words false false e f = (never_said options.Shared words e, never_said options.Exclusive words f)

input_both : (words : List (List ℕ)) (a b : Bool) → says options.Shared words ≡ a → says options.Exclusive words ≡ b → input_of words ≡ cond a inputs.Shared (cond b inputs.Exclusive inputs.No)
input_both words a b e f = ap (λ (u : Bool). cond u inputs.Shared (cond (says options.Exclusive words) inputs.Exclusive inputs.No)) e ∙ ap (λ (u : Bool). cond a inputs.Shared (cond u inputs.Exclusive inputs.No)) f

input_read : (words : List (List ℕ)) (i : Input) → AreOptions for_open words → IsInput i words → input_of words ≡ i
input_read words inputs.No are h = input_both words false false (not_said options.Shared words h.0) (not_said options.Exclusive words h.1)
input_read words inputs.Shared are h = ap (λ (u : Bool). cond u inputs.Shared (cond (says options.Exclusive words) inputs.Exclusive inputs.No)) ((says_decides options.Shared words).1 h)
input_read words inputs.Exclusive are h = input_both words false true (one_never words for_open options.Shared options.Exclusive refl refl refl (λ e. absurd cc) are h) ((says_decides options.Exclusive words).1 h)

abbrev opened_with : List (List ℕ) → Open
opened_with words = record { input = input_of words; browse = says options.Browse words; output = says options.Output words }

abbrev no_fault : LineFault → Type 0
no_fault f = ⊥

open_same : (words : List (List ℕ)) (how : Open) → AreOpenOptions words how → how ≡ opened_with words
open_same words how h =
    ap (λ (i : Input). record { input = i; browse = how.browse; output = how.output }) (sym (input_read words how.input h.are h.input))
    ∙ ap (λ (b : Bool). record { input = input_of words; browse = b; output = how.output }) (sym (tells_says how.browse options.Browse words h.browse))
    ∙ ap (λ (b : Bool). record { input = input_of words; browse = says options.Browse words; output = b }) (sym (tells_says how.output options.Output words h.output))

open_by : (words : List (List ℕ)) (t : Bool) → are_options for_open words ≡ t → Reports (AreOpenOptions words) (HasOpenFault words) (cond t (Ok (opened_with words)) (Err faults.Form))
open_by words true e =
    let are = (are_decides for_open words).0 e in (
      record { are = are; input = input_found words (says options.Shared words) (says options.Exclusive words) refl refl; browse = says_tells options.Browse words; output = says_tells options.Output words },
      (λ how h. open_same words how h),
      λ f h. h.1 are,
    )
open_by words false e =
    let none : AreOptions for_open words → ⊥ = λ h. absurd (let f : false ≡ true = sym e ∙ (are_decides for_open words).1 h in cc) in
    ((λ how h. none h.are), (refl, none), refl, λ g h. inl h.0)

pub open_tells : (words : List (List ℕ)) → Reports (AreOpenOptions words) (HasOpenFault words) (open_options words)
open_tells words = open_by words (are_options for_open words) refl

-- ---- values of options

module _ (allowed : List LineOption) (words : List (List ℕ)) (are : AreOptions allowed words) where
  abbrev Gives : LineOption → List ℕ → Type 0
  Gives option value = HasValue option value words

  pub signed_option_tells : (option : LineOption) → has_value option ≡ true → (default : ℤ) → Reports (IsValueOr SignedIn default option words) (HasValueFault SignedFault option words) (number_option option default words)
  signed_option_tells option valued default =
      told_or (Gives option) SignedIn SignedFault default (value_of option words) (number_or default) refl
      (λ value e. value_found option value words e) (λ value h. value_read allowed words option value valued are h) (λ value. signed_tells value)

  pub name_option_tells : (option : LineOption) → has_value option ≡ true → Reports (IsValueOr NameIn [] option words) (HasValueFault NameFault option words) (name_option option words)
  name_option_tells option valued =
      told_or (Gives option) NameIn NameFault [] (value_of option words) name_or_none refl
      (λ value e. value_found option value words e) (λ value h. value_read allowed words option value valued are h) (λ value. name_or_blank_tells value)

  pub field_option_tells : (width : ℕ) (option : LineOption) (pad : ℕ) → has_value option ≡ true → Reports (IsValueOr (SomeOf (FieldIn width pad)) None option words) (HasValueFault (FieldFault width pad) option words) (field_option width option pad words)
  field_option_tells width option pad valued =
      told_or (Gives option) (SomeOf (FieldIn width pad)) (FieldFault width pad) None (value_of option words) (field_or_none width pad) refl
      (λ value e. value_found option value words e) (λ value h. value_read allowed words option value valued are h) (λ value. some_tells value)
    where
      back : (value : List ℕ) (y : Option (List ℕ)) → SomeOf (FieldIn width pad) value y → (x : List ℕ) × FieldIn width pad value x × (y ≡ Some x)
      back value None h = absurd h
      back value (Some x) h = (x, h, refl)

      some_tells : (value : List ℕ) → Reports (SomeOf (FieldIn width pad) value) (FieldFault width pad value) (some_field (field_in width pad value))
      some_tells value = told_map (FieldIn width pad value) (FieldFault width pad value) (λ (x : List ℕ). Some x) some_field (SomeOf (FieldIn width pad) value) (λ x. refl) (λ f. refl) (λ x h. h) (λ y h. back value y h) (field_in width pad value) (field_tells width pad value)

  pub room_tells : Reports (IsValueOr (NumberIn 0 2147483647) 4194304 options.Room words) (HasValueFault (NumberFault faults.Number 0 2147483647) options.Room words) (room_of words)
  room_tells =
      told_or (Gives options.Room) (NumberIn 0 2147483647) (NumberFault faults.Number 0 2147483647) 4194304 (value_of options.Room words) room_in refl
      (λ value e. value_found options.Room value words e) (λ value h. value_read allowed words options.Room value refl are h) (λ value. ranged_tells faults.Number refl 0 2147483647 value)

  pub wait_tells : Reports (IsValueOr (SomeOf (NumberIn 0 999999999)) None options.Wait words) (HasValueFault (NumberFault (faults.Limit limits.Clock) 0 999999999) options.Wait words) (wait_of words)
  wait_tells =
      told_or (Gives options.Wait) (SomeOf (NumberIn 0 999999999)) (NumberFault (faults.Limit limits.Clock) 0 999999999) None (value_of options.Wait words) wait_in refl
      (λ value e. value_found options.Wait value words e) (λ value h. value_read allowed words options.Wait value refl are h) (λ value. some_tells value)
    where
      back : (value : List ℕ) (y : Option ℕ) → SomeOf (NumberIn 0 999999999) value y → (x : ℕ) × NumberIn 0 999999999 value x × (y ≡ Some x)
      back value None h = absurd h
      back value (Some x) h = (x, h, refl)

      some_tells : (value : List ℕ) → Reports (SomeOf (NumberIn 0 999999999) value) (NumberFault (faults.Limit limits.Clock) 0 999999999 value) (wait_in (Some value))
      some_tells value = told_map (NumberIn 0 999999999 value) (NumberFault (faults.Limit limits.Clock) 0 999999999 value) (λ (x : ℕ). Some x) some_number (SomeOf (NumberIn 0 999999999) value) (λ x. refl) (λ f. refl) (λ x h. h) (λ y h. back value y h) (ranged (faults.Limit limits.Clock) 0 999999999 value) (ranged_tells (faults.Limit limits.Clock) refl 0 999999999 value)

-- a field, or a default in its place
pub or_default : (Is : List ℕ → List ℕ → Type 0) (default : List ℕ) (option : LineOption) (words : List (List ℕ)) (x : Option (List ℕ)) → IsValueOr (SomeOf Is) None option words x → IsValueOr Is default option words (field_or x default)
or_default Is default option words None (inl h) = inl (h.0, refl)
or_default Is default option words None (inr h) = absurd h.2
or_default Is default option words (Some x) (inl h) = absurd (let e = h.1 in cc)
or_default Is default option words (Some x) (inr h) = inr h

pub from_default : (Is : List ℕ → List ℕ → Type 0) (default : List ℕ) (option : LineOption) (words : List (List ℕ)) (y : List ℕ) → IsValueOr Is default option words y → (x : Option (List ℕ)) × IsValueOr (SomeOf Is) None option words x × (y ≡ field_or x default)
from_default Is default option words y (inl h) = (None, inl (h.0, refl), h.1)
from_default Is default option words y (inr h) = (Some y, inr h, refl)
