-- A line that is no command, and the fault that a reader answers, both ways.
use Rattle.std.proofs.Common.{◌≡◌, ◌⊎◌, ℕ, suc, ◌-◌, true, List, [], ◌∷◌, ◌++◌, length, refl, sym, ap, subst, ◌∙◌, inl, inr, slice_get, arith}
use Rattle.std.specs.Prelude.{Option, Some, None, Result, Ok, Err}
use Rattle.mq_sc_lex.specs.declared.token.Span.{Span}
use Rattle.mq_sc_lex.specs.declared.token.Token.{Token}
use Rattle.mq_sc_lex.specs.declared.token.TokenKind.{TokenKind}
use Rattle.mq_sc_lex.specs.declared.token.TokenKind.TheVariants as tokens
use Rattle.mq_sc_lex.specs.declared.token.Line.{Line}
use Rattle.mq_sc_keys.specs.declared.verbs.Verb.{Verb}
use Rattle.mq_sc_keys.specs.declared.verbs.Verb.TheVariants as verbs
use Rattle.mq_sc_keys.specs.declared.verbs.Noun.{Noun}
use Rattle.mq_sc_keys.specs.declared.verbs.Noun.TheVariants as nouns
use Rattle.mq_sc_keys.specs.declared.attributes.Kind.{Kind}
use Rattle.mq_sc_keys.specs.Verbs.{takes, verb_of, object_of}
use Rattle.mq_sc_parse.specs.declared.splitting.Item.{Item}
use Rattle.mq_sc_parse.specs.declared.naming.Named.{Named}
use Rattle.mq_sc_parse.specs.declared.command.Command.{Command}
use Rattle.mq_sc_parse.specs.declared.fault.ScFault.{ScFault}
use Rattle.mq_sc_parse.specs.declared.fault.ScFault.TheVariants as faults
use Rattle.mq_sc_parse.specs.Splitting.{items_from, items_of, word_of_kind}
use Rattle.mq_sc_parse.specs.Checks.{kind_of}
use Rattle.mq_sc_parse.specs.Parsing.{first_span, second_span, span_or, last_span, first_word, second_word, behind, has_name, named_at, fault_of, command_of, checked_command, parse_of}
use Rattle.mq_sc_grammar.specs.Spelling.{kinds_of, IsVerbWord, IsObjectWord, IsNamed}
use Rattle.mq_sc_grammar.specs.Commands.{IsCommand}
use Rattle.mq_sc_grammar.specs.Faults.{IsFirst, NoneIs, IsWordThat, HasVerb, HasObject, IsBegun, IsFirstPlace, IsSecondPlace, IsLastPlace, IsUnknown, NoneAlike, IsRepeat, IsBadName, IsBad, IsLacking, Parts, HasParts, IsBadAt, IsFault}
use Rattle.mq_sc_grammar.proofs.Words.{verb_read, verb_found, object_read, object_found, no_verb, no_object}
use Rattle.mq_sc_grammar.proofs.Checked.{AllKnown, known_found}
use Rattle.mq_sc_grammar.proofs.Names.{drop_min, ok_named, missing, name_in, took, name_fault, part_place}
use Rattle.mq_sc_grammar.proofs.Readings.{line_of, command_read, command_found}
use Rattle.mq_sc_grammar.proofs.Items.{are_read, are_found}
use Rattle.mq_sc_grammar.proofs.Firsts.{unknown_read, all_known_read, decide_unknown, none_alike_read, is_repeat_read, decide_repeat, item_kind_found, item_kind_read}
use Rattle.mq_sc_grammar.proofs.BadValues.{bad_at, Answers, command_answers, name_told, lack_told, decide_bad}

-- ---- places

first_place : (number : ℕ) (ts : List Token) → IsFirstPlace number ts (first_span number ts)
first_place number [] = refl
first_place number (t ∷ ts) = refl

first_at : (number : ℕ) (ts : List Token) (span : Span) → IsFirstPlace number ts span → first_span number ts ≡ span
first_at number [] span h = sym h
first_at number (t ∷ ts) span h = sym h

second_place : (number : ℕ) (ts : List Token) → IsSecondPlace number ts (second_span number ts)
second_place number [] = refl
second_place number (t ∷ []) = refl
second_place number (t ∷ u ∷ ts) = refl

second_at : (number : ℕ) (ts : List Token) (span : Span) → IsSecondPlace number ts span → second_span number ts ≡ span
second_at number [] span h = sym h
second_at number (t ∷ []) span h = sym h
second_at number (t ∷ u ∷ ts) span h = sym h

last_of : (front : List Token) (t : Token) → slice_get (front ++ t ∷ []) (length (front ++ t ∷ []) - 1) ≡ Some t
last_of [] t = refl
last_of (a ∷ []) t = refl
last_of (a ∷ b ∷ front) t =
    let more = last_of (b ∷ front) t in
    let k : length (a ∷ b ∷ (front ++ t ∷ [])) - 1 ≡ suc (length (b ∷ (front ++ t ∷ [])) - 1) = omega arith in
    ap (slice_get (a ∷ b ∷ (front ++ t ∷ []))) k ∙ more

last_at : (number : ℕ) (ts : List Token) (span : Span) → IsLastPlace ts span → last_span number ts ≡ span
last_at number ts span (front, t, e, s) =
    ap (last_span number) e ∙ ap (span_or (first_span number (front ++ t ∷ []))) (last_of front t) ∙ sym s

some_last : (t : Token) (ts : List Token) → (front : List Token) × (u : Token) × (t ∷ ts ≡ front ++ u ∷ [])
some_last t [] = ([], t, refl)
some_last t (u ∷ ts) = let more = some_last u ts in (t ∷ more.0, more.1, ap (λ (l : List Token). t ∷ l) more.2)

last_place : (number : ℕ) (t : Token) (ts : List Token) → IsLastPlace (t ∷ ts) (last_span number (t ∷ ts))
last_place number t ts =
    let l = some_last t ts in
    (l.0, l.1, l.2, last_at number (t ∷ ts) l.1.span (l.0, l.1, l.2, refl))

-- ---- verbs and objects

verb_has : (verb : Verb) (k : TokenKind) → IsWordThat (IsVerbWord verb) k → verb_of (word_of_kind k) ≡ Some verb
verb_has verb (tokens.Word w) h = verb_read verb w h
verb_has verb (tokens.Quoted w) h = absurd h
verb_has verb tokens.Open h = absurd h
verb_has verb tokens.Close h = absurd h

has_verb : (verb : Verb) (k : TokenKind) → verb_of (word_of_kind k) ≡ Some verb → IsWordThat (IsVerbWord verb) k
has_verb verb (tokens.Word w) e = verb_found verb w e
has_verb verb (tokens.Quoted w) e = absurd (no_verb verb e)
has_verb verb tokens.Open e = absurd (no_verb verb e)
has_verb verb tokens.Close e = absurd (no_verb verb e)

verb_in : (verb : Verb) (ts : List Token) → HasVerb verb ts → verb_of (first_word ts) ≡ Some verb
verb_in verb [] h = absurd h
verb_in verb (t ∷ ts) h = verb_has verb t.kind h

in_verb : (verb : Verb) (ts : List Token) → verb_of (first_word ts) ≡ Some verb → HasVerb verb ts
in_verb verb [] e = absurd (no_verb verb e)
in_verb verb (t ∷ ts) e = has_verb verb t.kind e

object_has : (verb : Verb) (noun : Noun) (k : TokenKind) → takes verb noun ≡ true → IsWordThat (IsObjectWord noun) k → object_of verb (word_of_kind k) ≡ Some noun
object_has verb noun (tokens.Word w) t h = object_read verb noun w t h
object_has verb noun (tokens.Quoted w) t h = absurd h
object_has verb noun tokens.Open t h = absurd h
object_has verb noun tokens.Close t h = absurd h

has_object : (verb : Verb) (noun : Noun) (k : TokenKind) → object_of verb (word_of_kind k) ≡ Some noun → (takes verb noun ≡ true) × IsWordThat (IsObjectWord noun) k
has_object verb noun (tokens.Word w) e = object_found verb noun w e
has_object verb noun (tokens.Quoted w) e = absurd (no_object verb noun e)
has_object verb noun tokens.Open e = absurd (no_object verb noun e)
has_object verb noun tokens.Close e = absurd (no_object verb noun e)

object_in : (verb : Verb) (noun : Noun) (ts : List Token) → HasObject verb noun ts → object_of verb (second_word ts) ≡ Some noun
object_in verb noun [] h = absurd h
object_in verb noun (t ∷ []) h = absurd h
object_in verb noun (t ∷ u ∷ ts) h = object_has verb noun u.kind h.0 h.1

in_object : (verb : Verb) (noun : Noun) (ts : List Token) → object_of verb (second_word ts) ≡ Some noun → HasObject verb noun ts
in_object verb noun [] e = absurd (no_object verb noun e)
in_object verb noun (t ∷ []) e = absurd (no_object verb noun e)
in_object verb noun (t ∷ u ∷ ts) e = has_object verb noun u.kind e

goes_with : (verb : Verb) (noun : Noun) (ts : List Token) → HasObject verb noun ts → takes verb noun ≡ true
goes_with verb noun [] h = absurd h
goes_with verb noun (t ∷ []) h = absurd h
goes_with verb noun (t ∷ u ∷ ts) h = h.0

-- ---- a line that has no name

abbrev Unnamed : Noun → List Token → Type 0
Unnamed noun ts = (name : List ℕ) (part rest : List Token) → ts ≡ part ++ rest → IsNamed noun name (kinds_of part) → ⊥

-- ---- a line up to its clauses

abbrev err : {A : Type 0} → ScFault → Result A ScFault
err fault = Err fault

-- what a reader does with a line that has these parts
record Reached (number : ℕ) (ts : List Token) (p : Parts) : Type 0 where
  pub named : Named
  pub text : named.text ≡ p.name
  pub place : has_name p.noun ≡ true → named.span ≡ p.name_place
  pub goes : takes p.verb p.noun ≡ true
  pub kind : kind_of p.noun p.items ≡ p.kind
  pub read : parse_of (line_of number ts) ≡ checked_command p.verb p.noun named (last_span number ts) p.items

reached : (number : ℕ) (ts : List Token) (p : Parts) → HasParts ts p → Reached number ts p
unfolding parse_of items_of
reached number ts p h =
    let verb = verb_in p.verb ts h.begun.is_verb in
    let noun = object_in p.verb p.noun ts h.begun.is_object in
    let object : second_span number ts ≡ h.object.span = ap (second_span number) h.begun.whole in
    let two : behind 2 ts ≡ h.name_part ++ h.rest = ap (behind 2) h.begun.whole ∙ drop_min (h.begun.first ∷ h.object ∷ h.behind) 2 ∙ h.whole in
    let n = name_in p.noun h.object.span p.name p.name_place h.name_part h.rest h.named h.name_at in
    record {
      named = n.named;
      text = n.text;
      place = n.place_of;
      goes = goes_with p.verb p.noun ts h.begun.is_object;
      kind = item_kind_read p.noun p.items p.kind h.is_kind;
      read = rw (verb, noun, object, two, n.read, n.behind_it, are_read p.items h.rest h.are_items) refl;
    }

-- ---- the checks

module _ (verb : Verb) (noun : Noun) (named : Named) (last : Span) (items : List Item) where
  all_known : NoneIs (IsUnknown verb (kind_of noun items)) items → AllKnown verb (kind_of noun items) items
  all_known none = known_found verb (kind_of noun items) items (all_known_read verb (kind_of noun items) items none)

  unknown_answer : (i : Item) → IsFirst (IsUnknown verb (kind_of noun items)) i items → checked_command verb noun named last items ≡ err (faults.UnknownKeyword i.span)
  unfolding checked_command fault_of
  unknown_answer i first = rw (unknown_read verb (kind_of noun items) i items first) refl

  repeat_answer : (i : Item) → NoneIs (IsUnknown verb (kind_of noun items)) items → IsRepeat verb (kind_of noun items) i items → checked_command verb noun named last items ≡ err (faults.Repeated i.span)
  unfolding checked_command fault_of
  repeat_answer i none again = rw (all_known_read verb (kind_of noun items) items none, is_repeat_read verb (kind_of noun items) i items (all_known none) again) refl

  passes : NoneIs (IsUnknown verb (kind_of noun items)) items → NoneAlike verb (kind_of noun items) items → checked_command verb noun named last items ≡ command_of verb noun (kind_of noun items) named items last
  unfolding checked_command fault_of
  passes none single = rw (all_known_read verb (kind_of noun items) items none, none_alike_read verb (kind_of noun items) items (all_known none) single) refl

  abbrev So : Type 0
  So = Answers (IsBadName verb noun named.text) (IsBad verb (kind_of noun items)) (IsLacking verb (kind_of noun items) items) items named.span last (command_of verb noun (kind_of noun items) named items last)

  answers : NoneIs (IsUnknown verb (kind_of noun items)) items → NoneAlike verb (kind_of noun items) items → So
  answers none single = command_answers named items last verb noun (all_known none) (none_alike_read verb (kind_of noun items) items (all_known none) single)

-- an object that has a bad name has a name
bad_has_name : (verb : Verb) (noun : Noun) (name : List ℕ) → takes verb noun ≡ true → IsBadName verb noun name → has_name noun ≡ true
bad_has_name verbs.Define nouns.Manager name t h = absurd cc
bad_has_name verbs.Alter nouns.Manager name t h = absurd h
bad_has_name verbs.Delete nouns.Manager name t h = absurd cc
bad_has_name verbs.Display nouns.Manager name t h = absurd h
bad_has_name verbs.Start nouns.Manager name t h = absurd cc
bad_has_name verbs.Stop nouns.Manager name t h = absurd cc
bad_has_name verbs.Reset nouns.Manager name t h = absurd cc
bad_has_name verbs.Resolve nouns.Manager name t h = absurd cc
bad_has_name verb nouns.Local name t h = refl
bad_has_name verb nouns.Alias name t h = refl
bad_has_name verb nouns.Remote name t h = refl
bad_has_name verb nouns.Channel name t h = refl
bad_has_name verb nouns.Process name t h = refl
bad_has_name verb nouns.Queue name t h = refl
bad_has_name verb nouns.Status name t h = refl

-- ---- a fault is answered

module _ (number : ℕ) (ts : List Token) (p : Parts) (h : HasParts ts p) where
  abbrev r : Reached number ts p
  r = reached number ts p h

  unknown_fault : (i : Item) → IsFirst (IsUnknown p.verb p.kind) i p.items → parse_of (line_of number ts) ≡ err (faults.UnknownKeyword i.span)
  unknown_fault i first =
      r.read ∙ unknown_answer p.verb p.noun r.named (last_span number ts) p.items i (subst (λ (k : Kind). IsFirst (IsUnknown p.verb k) i p.items) (sym r.kind) first)

  repeat_fault : (i : Item) → NoneIs (IsUnknown p.verb p.kind) p.items → IsRepeat p.verb p.kind i p.items → parse_of (line_of number ts) ≡ err (faults.Repeated i.span)
  repeat_fault i none again =
      r.read ∙ repeat_answer p.verb p.noun r.named (last_span number ts) p.items i (subst (λ (k : Kind). NoneIs (IsUnknown p.verb k) p.items) (sym r.kind) none) (subst (λ (k : Kind). IsRepeat p.verb k i p.items) (sym r.kind) again)

  module _ (none : NoneIs (IsUnknown p.verb p.kind) p.items) (single : NoneAlike p.verb p.kind p.items) where
    abbrev known : NoneIs (IsUnknown p.verb (kind_of p.noun p.items)) p.items
    known = subst (λ (k : Kind). NoneIs (IsUnknown p.verb k) p.items) (sym r.kind) none

    abbrev once : NoneAlike p.verb (kind_of p.noun p.items) p.items
    once = subst (λ (k : Kind). NoneAlike p.verb k p.items) (sym r.kind) single

    abbrev a : So p.verb p.noun r.named (last_span number ts) p.items
    a = answers p.verb p.noun r.named (last_span number ts) p.items known once

    abbrev read : parse_of (line_of number ts) ≡ command_of p.verb p.noun (kind_of p.noun p.items) r.named p.items (last_span number ts)
    read = r.read ∙ passes p.verb p.noun r.named (last_span number ts) p.items known once

    good_name : (IsBadName p.verb p.noun p.name → ⊥) → IsBadName p.verb p.noun r.named.text → ⊥
    good_name never bad = never (subst (IsBadName p.verb p.noun) r.text bad)

    name_fault_at : IsBadName p.verb p.noun p.name → parse_of (line_of number ts) ≡ bad_at p.name_place
    name_fault_at bad = read ∙ a.named (subst (IsBadName p.verb p.noun) (sym r.text) bad) ∙ ap (λ (s : Span). bad_at s) (r.place (bad_has_name p.verb p.noun p.name r.goes bad))

    value_fault_at : (IsBadName p.verb p.noun p.name → ⊥) → (i : Item) → IsFirst (IsBad p.verb p.kind) i p.items → parse_of (line_of number ts) ≡ bad_at i.span
    value_fault_at never i first = read ∙ a.valued (good_name never) i (subst (λ (k : Kind). IsFirst (IsBad p.verb k) i p.items) (sym r.kind) first)

    lack_fault_at : (IsBadName p.verb p.noun p.name → ⊥) → NoneIs (IsBad p.verb p.kind) p.items → IsLacking p.verb p.kind p.items → parse_of (line_of number ts) ≡ bad_at (last_span number ts)
    lack_fault_at never good lack = read ∙ a.lacked (good_name never) (subst (λ (k : Kind). NoneIs (IsBad p.verb k) p.items) (sym r.kind) good) (subst (λ (k : Kind). IsLacking p.verb k p.items) (sym r.kind) lack)

    well_read : (IsBadName p.verb p.noun p.name → ⊥) → NoneIs (IsBad p.verb p.kind) p.items → (IsLacking p.verb p.kind p.items → ⊥) → (c : Command) × (parse_of (line_of number ts) ≡ Ok c)
    well_read never good whole =
        let w = a.well (good_name never) (subst (λ (k : Kind). NoneIs (IsBad p.verb k) p.items) (sym r.kind) good) (λ l. whole (subst (λ (k : Kind). IsLacking p.verb k p.items) r.kind l)) in
        (w.0, read ∙ w.1)

    bad_fault : (span : Span) → IsBadAt ts p span → parse_of (line_of number ts) ≡ bad_at span
    bad_fault span (inl h) = name_fault_at h.0 ∙ ap (λ (s : Span). bad_at s) (sym h.1)
    bad_fault span (inr (never, inl h)) = value_fault_at never h.0 h.1 ∙ ap (λ (s : Span). bad_at s) (sym h.2)
    bad_fault span (inr (never, inr h)) = lack_fault_at never h.0 h.1 ∙ ap (λ (s : Span). bad_at s) (last_at number ts span h.2)

none_of : {A : Type 0} (o : Option A) → ((x : A) → o ≡ Some x → ⊥) → o ≡ None
none_of None never = refl
none_of (Some x) never = absurd (never x refl)

verb_fault : (number : ℕ) (ts : List Token) (span : Span) → ((verb : Verb) → HasVerb verb ts → ⊥) → IsFirstPlace number ts span → parse_of (line_of number ts) ≡ err (faults.UnknownVerb span)
unfolding parse_of
verb_fault number ts span never place =
    let none = none_of (verb_of (first_word ts)) (λ verb e. never verb (in_verb verb ts e)) in
    rw (none, first_at number ts span place) refl

object_fault : (number : ℕ) (ts : List Token) (verb : Verb) (span : Span) → HasVerb verb ts → ((noun : Noun) → HasObject verb noun ts → ⊥) → IsSecondPlace number ts span → parse_of (line_of number ts) ≡ err (faults.UnknownObject span)
unfolding parse_of
object_fault number ts verb span has never place =
    let is = verb_in verb ts has in
    let none = none_of (object_of verb (second_word ts)) (λ noun e. never noun (in_object verb noun ts e)) in
    rw (is, none, second_at number ts span place) refl

missing_by : (noun : Noun) (object : Span) (ts : List Token) → Unnamed noun ts → (x : Result Named ScFault) → named_at noun object ts ≡ x → x ≡ missing object
missing_by noun object ts never (Ok named) e = let t = took noun object ts named e in absurd (never named.text t.part t.rest t.whole t.is)
missing_by noun object ts never (Err fault) e = ap (λ (f : ScFault). err f) (name_fault noun object ts fault e)

missing_fault : (number : ℕ) (ts : List Token) (verb : Verb) (noun : Noun) (object : Token) (later : List Token) → IsBegun ts verb noun object later → Unnamed noun later → parse_of (line_of number ts) ≡ err (faults.MissingName object.span)
unfolding parse_of
missing_fault number ts verb noun object later begun never =
    let is = verb_in verb ts begun.is_verb in
    let goes = object_in verb noun ts begun.is_object in
    let place : second_span number ts ≡ object.span = ap (second_span number) begun.whole in
    let two : behind 2 ts ≡ later = ap (behind 2) begun.whole ∙ drop_min (begun.first ∷ object ∷ later) 2 in
    rw (is, goes, place, two, missing_by noun object.span later never (named_at noun object.span later) refl) refl

fault_at : (number : ℕ) (ts : List Token) (fault : ScFault) → IsFault (line_of number ts) fault → parse_of (line_of number ts) ≡ err fault
fault_at number ts (faults.UnknownVerb span) h = verb_fault number ts span h.0 h.1
fault_at number ts (faults.UnknownObject span) (verb, has, never, place) = object_fault number ts verb span has never place
fault_at number ts (faults.MissingName span) (verb, noun, object, later, begun, never, place) = missing_fault number ts verb noun object later begun never ∙ ap (λ (s : Span). err (faults.MissingName s)) (sym place)
fault_at number ts (faults.UnknownKeyword span) (p, i, has, first, place) = unknown_fault number ts p has i first ∙ ap (λ (s : Span). err (faults.UnknownKeyword s)) (sym place)
fault_at number ts (faults.Repeated span) (p, i, has, none, again, place) = repeat_fault number ts p has i none again ∙ ap (λ (s : Span). err (faults.Repeated s)) (sym place)
fault_at number ts (faults.BadValue span) (p, has, none, single, bad) = bad_fault number ts p has none single span bad
fault_at number ts faults.NoMemory h = absurd h

pub fault_read : (line : Line) (fault : ScFault) → IsFault line fault → parse_of line ≡ err fault
fault_read line fault h = fault_at line.number line.tokens fault h

-- ---- a line is a command or has a fault

abbrev Faulty : ℕ → List Token → Type 0
Faulty number ts = (fault : ScFault) × IsFault (line_of number ts) fault

abbrev Sound : ℕ → List Token → Type 0
Sound number ts = (c : Command) × (parse_of (line_of number ts) ≡ Ok c)

module _ (number : ℕ) (t : Token) (ts : List Token) (p : Parts) (h : HasParts (t ∷ ts) p) where
  abbrev Either : Type 0
  Either = Faulty number (t ∷ ts) ⊎ Sound number (t ∷ ts)

  module _ (none : NoneIs (IsUnknown p.verb p.kind) p.items) (single : NoneAlike p.verb p.kind p.items) where
    bad : (span : Span) → IsBadAt (t ∷ ts) p span → Either
    bad span at = inl (faults.BadValue span, (p, h, none, single, at))

    by_lack : (IsBadName p.verb p.noun p.name → ⊥) → NoneIs (IsBad p.verb p.kind) p.items → IsLacking p.verb p.kind p.items ⊎ (IsLacking p.verb p.kind p.items → ⊥) → Either
    by_lack never good (inl lack) = bad (last_span number (t ∷ ts)) (inr (never, inr (good, lack, last_place number t ts)))
    by_lack never good (inr whole) = inr (well_read number (t ∷ ts) p h none single never good whole)

    by_value : (IsBadName p.verb p.noun p.name → ⊥) → ((i : Item) × IsFirst (IsBad p.verb p.kind) i p.items) ⊎ NoneIs (IsBad p.verb p.kind) p.items → Either
    by_value never (inl first) = bad first.0.span (inr (never, inl (first.0, first.1, refl)))
    by_value never (inr good) = by_lack never good (lack_told p.verb p.kind p.items)

    by_name : IsBadName p.verb p.noun p.name ⊎ (IsBadName p.verb p.noun p.name → ⊥) → Either
    by_name (inl is) = bad p.name_place (inl (is, refl))
    by_name (inr never) = by_value never (decide_bad p.verb p.kind p.items)

  by_repeat : NoneIs (IsUnknown p.verb p.kind) p.items → ((i : Item) × IsRepeat p.verb p.kind i p.items) ⊎ NoneAlike p.verb p.kind p.items → Either
  by_repeat none (inl again) = inl (faults.Repeated again.0.span, (p, again.0, h, none, again.1, refl))
  by_repeat none (inr single) = by_name none single (name_told (record { text = p.name; span = p.name_place; len = 0 }) p.items (last_span number (t ∷ ts)) p.verb p.noun)

  by_unknown : ((i : Item) × IsFirst (IsUnknown p.verb p.kind) i p.items) ⊎ NoneIs (IsUnknown p.verb p.kind) p.items → Either
  by_unknown (inl first) = inl (faults.UnknownKeyword first.0.span, (p, first.0, h, first.1, refl))
  by_unknown (inr none) = by_repeat none (decide_repeat p.verb p.kind p.items (known_found p.verb p.kind p.items (all_known_read p.verb p.kind p.items none)))

module _ (number : ℕ) (t u : Token) (ts : List Token) (verb : Verb) (noun : Noun) (begun : IsBegun (t ∷ u ∷ ts) verb noun u ts) where
  by_read : (x : Result Named ScFault) → named_at noun u.span ts ≡ x → Faulty number (t ∷ u ∷ ts) ⊎ Sound number (t ∷ u ∷ ts)
  by_read (Err fault) e = inl (faults.MissingName u.span, (verb, noun, u, ts, begun, (λ name part rest whole is. unnamed name part rest whole is), refl))
    where
      unnamed : (name : List ℕ) (part rest : List Token) → ts ≡ part ++ rest → IsNamed noun name (kinds_of part) → ⊥
      unnamed name part rest whole is =
          let place = part_place part in
          let n = name_in noun u.span name place.0 part rest is place.1 in
          absurd (let f : err fault ≡ ok_named n.named = sym e ∙ ap (named_at noun u.span) whole ∙ n.read in cc)
  by_read (Ok named) e =
      let k = took noun u.span ts named e in
      let items : List Item = items_from k.rest 0 in
      let p : Parts = record { verb = verb; noun = noun; kind = kind_of noun items; name = named.text; name_place = named.span; items = items } in
      let h : HasParts (t ∷ u ∷ ts) p =
      record { object = u; behind = ts; name_part = k.part; rest = k.rest; begun = begun; whole = k.whole; named = k.is; name_at = k.place; are_items = are_found k.rest; is_kind = item_kind_found noun items } in
      by_unknown number t (u ∷ ts) p h (decide_unknown verb (kind_of noun items) items)

begun_at : (t u : Token) (ts : List Token) (verb : Verb) (noun : Noun) → HasVerb verb (t ∷ u ∷ ts) → HasObject verb noun (t ∷ u ∷ ts) → IsBegun (t ∷ u ∷ ts) verb noun u ts
begun_at t u ts verb noun v n = record { first = t; whole = refl; is_verb = v; is_object = n }

by_object : (number : ℕ) (ts : List Token) (verb : Verb) → HasVerb verb ts → (o : Option Noun) → object_of verb (second_word ts) ≡ o → Faulty number ts ⊎ Sound number ts
by_object number ts verb has None e =
    inl (faults.UnknownObject (second_span number ts), (verb, has, (λ noun h. absurd (let f : None ≡ Some noun = sym e ∙ object_in verb noun ts h in cc)), second_place number ts))
by_object number [] verb has (Some noun) e = absurd has
by_object number (t ∷ []) verb has (Some noun) e = absurd (no_object verb noun e)
by_object number (t ∷ u ∷ ts) verb has (Some noun) e = by_read number t u ts verb noun (begun_at t u ts verb noun has (in_object verb noun (t ∷ u ∷ ts) e)) (named_at noun u.span ts) refl

by_verb : (number : ℕ) (ts : List Token) (o : Option Verb) → verb_of (first_word ts) ≡ o → Faulty number ts ⊎ Sound number ts
by_verb number ts None e =
    inl (faults.UnknownVerb (first_span number ts), ((λ verb h. absurd (let f : None ≡ Some verb = sym e ∙ verb_in verb ts h in cc)), first_place number ts))
by_verb number ts (Some verb) e = by_object number ts verb (in_verb verb ts e) (object_of verb (second_word ts)) refl

fault_found_by : (number : ℕ) (ts : List Token) (fault : ScFault) → parse_of (line_of number ts) ≡ err fault → Faulty number ts ⊎ Sound number ts → IsFault (line_of number ts) fault
fault_found_by number ts fault e (inl (other, h)) =
    let f : err {A = Command} other ≡ err fault = sym (fault_at number ts other h) ∙ e in
    let same : other ≡ fault = cc in
    subst (λ (x : ScFault). IsFault (line_of number ts) x) same h
fault_found_by number ts fault e (inr (c, well)) = absurd (let f : Ok c ≡ err fault = sym well ∙ e in cc)

pub fault_found : (line : Line) (fault : ScFault) → parse_of line ≡ err fault → IsFault line fault
fault_found line fault e = fault_found_by line.number line.tokens fault e (by_verb line.number line.tokens (verb_of (first_word line.tokens)) refl)

-- ---- one of both

either_by : (number : ℕ) (ts : List Token) → Faulty number ts ⊎ Sound number ts → ((c : Command) × IsCommand (kinds_of ts) c) ⊎ ((fault : ScFault) × IsFault (line_of number ts) fault)
either_by number ts (inl h) = inr h
either_by number ts (inr (c, e)) = inl (c, command_found (line_of number ts) c e)

pub either_line : (line : Line) → ((c : Command) × IsCommand (kinds_of line.tokens) c) ⊎ ((fault : ScFault) × IsFault line fault)
either_line line = either_by line.number line.tokens (by_verb line.number line.tokens (verb_of (first_word line.tokens)) refl)

pub never_both : (line : Line) (c : Command) (fault : ScFault) → IsCommand (kinds_of line.tokens) c → IsFault line fault → ⊥
never_both line c fault p q = absurd (let f : Ok c ≡ err fault = sym (command_read line c p) ∙ fault_read line fault q in cc)

pub one_fault : (line : Line) (fault other : ScFault) → IsFault line fault → IsFault line other → fault ≡ other
one_fault line fault other p q =
    let f : err {A = Command} fault ≡ err other = sym (fault_read line fault p) ∙ fault_read line other q in
    cc
