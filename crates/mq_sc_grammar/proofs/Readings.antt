-- A command and the tokens that spell it, as a reader takes them, both ways.
use Rattle.std.proofs.Common.{◌≡◌, ℕ, ◌≤◌, Bool, true, false, cond, List, [], ◌∷◌, ◌++◌, length, refl, sym, ap, subst, ◌∙◌, arith}
use Rattle.std.specs.Prelude.{Option, Some, None, Result, Ok, Err, codes, map}
use Rattle.std.specs.Str.{bytes_eq}
use Rattle.mq_sync.specs.declared.unit.Settle.{Settle}
use Rattle.mq_sc_lex.specs.declared.token.Span.{Span}
use Rattle.mq_sc_lex.specs.declared.token.Token.{Token}
use Rattle.mq_sc_lex.specs.declared.token.TokenKind.{TokenKind}
use Rattle.mq_sc_lex.specs.declared.token.TokenKind.TheVariants as tokens
use Rattle.mq_sc_lex.specs.declared.token.Line.{Line}
use Rattle.mq_sc_keys.specs.declared.keys.Key.{Key}
use Rattle.mq_sc_keys.specs.declared.keys.Key.TheVariants as keys
use Rattle.mq_sc_keys.specs.declared.verbs.Verb.{Verb}
use Rattle.mq_sc_keys.specs.declared.verbs.Verb.TheVariants as verbs
use Rattle.mq_sc_keys.specs.declared.verbs.Noun.{Noun}
use Rattle.mq_sc_keys.specs.declared.verbs.Noun.TheVariants as nouns
use Rattle.mq_sc_keys.specs.declared.attributes.Kind.{Kind}
use Rattle.mq_sc_keys.specs.declared.attributes.Kind.TheVariants as kinds
use Rattle.mq_sc_keys.specs.declared.value.Value.{Value}
use Rattle.mq_sc_keys.specs.declared.value.Value.TheVariants as values
use Rattle.mq_sc_keys.specs.Attributes.{key_of, named_by, options_of}
use Rattle.mq_sc_keys.specs.Verbs.{verb_of, object_of}
use Rattle.mq_sc_keys.specs.Values.{number_value, choice_value}
use Rattle.mq_sc_parse.specs.declared.splitting.Item.{Item}
use Rattle.mq_sc_parse.specs.declared.naming.Named.{Named}
use Rattle.mq_sc_parse.specs.declared.command.Command.{Command}
use Rattle.mq_sc_parse.specs.declared.fault.ScFault.{ScFault}
use Rattle.mq_sc_parse.specs.declared.fault.ScFault.TheVariants as faults
use Rattle.mq_sc_parse.specs.Splitting.{items_from, items_of, word_of_kind}
use Rattle.mq_sc_parse.specs.Asking.{settings_of, asked_of}
use Rattle.mq_sc_parse.specs.Checks.{first_unknown, first_repeated, item_group, group_text, kind_of}
use Rattle.mq_sc_parse.specs.Parsing.{some_or, first_span, second_span, last_span, first_word, second_word, behind, named_at, channel_name, subject_of, pattern_of, prefix_of, is_prefix, unknown_or, fault_of, unless_fault, define_of, alter_manager_of, alter_object_of, alter_of, show_objects, show_status, status_named, show_named, display_of, number_of, settle_as, settle_of, reset_of, resolve_of, command_of, checked_command, parse_of}
use Rattle.mq_sc_grammar.specs.Spelling.{kinds_of, IsNamed, Clause, AreClauses}
use Rattle.mq_sc_grammar.specs.Commands.{Mem, AreKnown, AreSingle, IsKind, MeansAlter, MeansDisplay, Means, IsCommand}
use Rattle.mq_sc_grammar.proofs.Words.{same_bytes, key_found, verb_read, verb_found, object_read, object_found, no_verb, no_object}
use Rattle.mq_sc_grammar.proofs.Splits.{Spell, word_kind_of, AreWhole, items_read, items_found}
use Rattle.mq_sc_grammar.proofs.Items.{kinds_both}
use Rattle.mq_sc_grammar.proofs.Names.{drop_min, NameAt, name_in, took, part_place, Parted, parted}
use Rattle.mq_sc_grammar.proofs.Checked.{AllKnown, known_read, known_found, single_read, single_found, kind_read, kind_found}
use Rattle.mq_sc_grammar.proofs.Meant.{given_whole, asked_whole, one_of_one}
use Rattle.mq_sc_grammar.proofs.Parsed.{ok_command, then_ok, some_ok, define_read, define_found, alter_read, alter_found, delete_read, delete_found, display_read, display_found, manager_read, manager_found, shown_read, shown_found, status_read, status_found, start_read, start_found, stop_read, stop_found, reset_read, reset_found, resolve_read, resolve_found}

-- ---- what a command means, by its verb

module _ (name : Named) (cs : List Clause) (items : List Item) (s : Spell cs items) (c : Command) where
  alters_read : (noun : Noun) (kind : Kind) → IsKind noun cs kind → AreKnown verbs.Alter kind cs → MeansAlter noun kind name.text cs c → alter_of noun kind name items ≡ ok_command c
  alters_read nouns.Manager kind is known h = manager_read kind name cs items s c (subst (λ (k : Kind). AreKnown verbs.Alter k cs) is known) (subst (λ (k : Kind). MeansAlter nouns.Manager k name.text cs c) is h)
  alters_read nouns.Local kind is known h = alter_read nouns.Local kind name cs items s c known h
  alters_read nouns.Alias kind is known h = alter_read nouns.Alias kind name cs items s c known h
  alters_read nouns.Remote kind is known h = alter_read nouns.Remote kind name cs items s c known h
  alters_read nouns.Channel kind is known h = alter_read nouns.Channel kind name cs items s c known h
  alters_read nouns.Process kind is known h = alter_read nouns.Process kind name cs items s c known h
  alters_read nouns.Queue kind is known h = alter_read nouns.Queue kind name cs items s c known h
  alters_read nouns.Status kind is known h = alter_read nouns.Status kind name cs items s c known h

  alters_found : (noun : Noun) (kind : Kind) → IsKind noun cs kind → AreKnown verbs.Alter kind cs → alter_of noun kind name items ≡ ok_command c → MeansAlter noun kind name.text cs c
  alters_found nouns.Manager kind is known e =
      subst (λ (k : Kind). MeansAlter nouns.Manager k name.text cs c) (sym is) (manager_found kind name cs items s c (subst (λ (k : Kind). AreKnown verbs.Alter k cs) is known) e)
  alters_found nouns.Local kind is known e = alter_found nouns.Local kind name cs items s c known e
  alters_found nouns.Alias kind is known e = alter_found nouns.Alias kind name cs items s c known e
  alters_found nouns.Remote kind is known e = alter_found nouns.Remote kind name cs items s c known e
  alters_found nouns.Channel kind is known e = alter_found nouns.Channel kind name cs items s c known e
  alters_found nouns.Process kind is known e = alter_found nouns.Process kind name cs items s c known e
  alters_found nouns.Queue kind is known e = alter_found nouns.Queue kind name cs items s c known e
  alters_found nouns.Status kind is known e = alter_found nouns.Status kind name cs items s c known e

  displays_read : (noun : Noun) (kind : Kind) → IsKind noun cs kind → AreKnown verbs.Display kind cs → MeansDisplay noun name.text cs c → display_of noun kind name items ≡ ok_command c
  displays_read nouns.Manager kind is known h = shown_read kind name cs items s c known h
  displays_read nouns.Status kind is known h = status_read kind name cs items s c (subst (λ (k : Kind). AreKnown verbs.Display k cs) is known) h
  displays_read nouns.Local kind is known h = display_read nouns.Local kind name cs items s c known h
  displays_read nouns.Alias kind is known h = display_read nouns.Alias kind name cs items s c known h
  displays_read nouns.Remote kind is known h = display_read nouns.Remote kind name cs items s c known h
  displays_read nouns.Channel kind is known h = display_read nouns.Channel kind name cs items s c known h
  displays_read nouns.Process kind is known h = display_read nouns.Process kind name cs items s c known h
  displays_read nouns.Queue kind is known h = display_read nouns.Queue kind name cs items s c known h

  displays_found : (noun : Noun) (kind : Kind) → AreKnown verbs.Display kind cs → display_of noun kind name items ≡ ok_command c → MeansDisplay noun name.text cs c
  displays_found nouns.Manager kind known e = shown_found kind name cs items s c known e
  displays_found nouns.Status kind known e = status_found kind name cs items s c e
  displays_found nouns.Local kind known e = display_found nouns.Local kind name cs items s c known e
  displays_found nouns.Alias kind known e = display_found nouns.Alias kind name cs items s c known e
  displays_found nouns.Remote kind known e = display_found nouns.Remote kind name cs items s c known e
  displays_found nouns.Channel kind known e = display_found nouns.Channel kind name cs items s c known e
  displays_found nouns.Process kind known e = display_found nouns.Process kind name cs items s c known e
  displays_found nouns.Queue kind known e = display_found nouns.Queue kind name cs items s c known e

  pub means_read : (verb : Verb) (noun : Noun) (kind : Kind) (last : Span) → IsKind noun cs kind → AreKnown verb kind cs → AreSingle cs → Means verb noun kind name.text cs c → command_of verb noun kind name items last ≡ ok_command c
  means_read verbs.Define noun kind last is known single h = define_read noun kind name cs items s c last known h
  means_read verbs.Alter noun kind last is known single h = alters_read noun kind is known h
  means_read verbs.Delete noun kind last is known single h = delete_read noun kind name cs items s c h
  means_read verbs.Display noun kind last is known single h = displays_read noun kind is known h
  means_read verbs.Start noun kind last is known single h = start_read noun kind name cs items s c h
  means_read verbs.Stop noun kind last is known single h = stop_read noun kind name cs items s c h
  means_read verbs.Reset noun kind last is known single h = reset_read noun kind name cs items s c known single h
  means_read verbs.Resolve noun kind last is known single h = resolve_read noun kind name cs items s c last known single h

  pub means_found : (verb : Verb) (noun : Noun) (kind : Kind) (last : Span) → IsKind noun cs kind → AreKnown verb kind cs → command_of verb noun kind name items last ≡ ok_command c → Means verb noun kind name.text cs c
  means_found verbs.Define noun kind last is known e = define_found noun kind name cs items s c last known e
  means_found verbs.Alter noun kind last is known e = alters_found noun kind is known e
  means_found verbs.Delete noun kind last is known e = delete_found noun kind name cs items s c e
  means_found verbs.Display noun kind last is known e = displays_found noun kind known e
  means_found verbs.Start noun kind last is known e = start_found noun kind name cs items s c e
  means_found verbs.Stop noun kind last is known e = stop_found noun kind name cs items s c e
  means_found verbs.Reset noun kind last is known e = reset_found noun kind name cs items s c known e
  means_found verbs.Resolve noun kind last is known e = resolve_found noun kind name cs items s c last known e

-- ---- a command that is read has whole clauses

-- a command that has no keywords
none_known : (verb : Verb) (kind : Kind) (items : List Item) → ((key : Key) → Mem key (named_by verb kind ++ options_of verb kind) → ⊥) → AllKnown verb kind items → AreWhole verb kind items
none_known verb kind [] never known = tt
none_known verb kind (i ∷ is) never known = absurd (never known.0.0 (key_found verb kind known.0.0 i.word known.0.1).0)

pub not_two : (verb : Verb) (kind : Kind) (only : Key) (i j : Item) (is : List Item) → key_of verb kind i.word ≡ Some only → key_of verb kind j.word ≡ Some only → first_repeated verb kind (i ∷ j ∷ is) ≡ None → ⊥
unfolding first_repeated
not_two verb kind only i j is p q e =
    let same : bytes_eq (item_group verb kind i) (item_group verb kind j) ≡ true = same_bytes (item_group verb kind i) (item_group verb kind j) (ap group_text p ∙ sym (ap group_text q)) in
    absurd (let f : Some j.span ≡ None = rw same at e in cc)

-- a command that has but one keyword
one_known : (verb : Verb) (kind : Kind) (only : Key) (items : List Item) → ((key : Key) → Mem key (named_by verb kind ++ options_of verb kind) → key ≡ only) → AllKnown verb kind items → first_repeated verb kind items ≡ None
    → ((i : Item) (is : List Item) → items ≡ i ∷ is → i.value ≡ values.Malformed → ⊥) → AreWhole verb kind items
one_known verb kind only [] each known single whole = tt
one_known verb kind only (i ∷ []) each known single whole = ((known.0.0, known.0.1, whole i [] refl), tt)
one_known verb kind only (i ∷ j ∷ is) each known single whole =
    absurd (not_two verb kind only i j is (the i known.0) (the j known.1.0) single)
  where
    the : (k : Item) → (key : Key) × (key_of verb kind k.word ≡ Some key) → key_of verb kind k.word ≡ Some only
    the k (key, e) = e ∙ ap (λ (x : Key). Some x) (each key (key_found verb kind key k.word e).0)

number_whole : (items : List Item) (n : ℕ) → number_of items ≡ Ok n → (i : Item) (is : List Item) → items ≡ i ∷ is → i.value ≡ values.Malformed → ⊥
number_whole items n e i is at v =
    let f : number_of (i ∷ is) ≡ Ok n = sym (ap number_of at) ∙ e in
    let g : some_or (faults.BadValue i.span) (number_value 0 999999999 values.Malformed) ≡ Ok n = ap (λ (x : Value). some_or (faults.BadValue i.span) (number_value 0 999999999 x)) (sym v) ∙ f in
    absurd cc

settle_whole : (items : List Item) (last : Span) (x : Settle) → settle_of items last ≡ Ok x → (i : Item) (is : List Item) → items ≡ i ∷ is → i.value ≡ values.Malformed → ⊥
settle_whole items last x e i is at v =
    let f : settle_of (i ∷ is) last ≡ Ok x = sym (ap (λ (l : List Item). settle_of l last) at) ∙ e in
    let g : some_or (faults.BadValue i.span) (settle_as (choice_value (codes "COMMIT") (codes "BACKOUT") values.Malformed)) ≡ Ok x = ap (λ (y : Value). some_or (faults.BadValue i.span) (settle_as (choice_value (codes "COMMIT") (codes "BACKOUT") y))) (sym v) ∙ f in
    absurd cc

module _ (name : Named) (items : List Item) (c : Command) where
  define_whole : (noun : Noun) (kind : Kind) (last : Span) → AllKnown verbs.Define kind items → define_of noun kind name items last ≡ ok_command c → AreWhole verbs.Define kind items
  unfolding define_of
  define_whole noun kind last known e =
      let a = then_ok (some_or (faults.BadValue name.span) (subject_of noun name.text)) _ c e in
      let b = then_ok (settings_of verbs.Define kind items) _ c a.2 in
      given_whole verbs.Define kind items b.0 known b.1

  object_whole : (noun : Noun) (kind : Kind) → AllKnown verbs.Alter kind items → alter_object_of noun kind name items ≡ ok_command c → AreWhole verbs.Alter kind items
  unfolding alter_object_of
  object_whole noun kind known e =
      let a = then_ok (some_or (faults.BadValue name.span) (subject_of noun name.text)) _ c e in
      let b = then_ok (settings_of verbs.Alter kind items) _ c a.2 in
      given_whole verbs.Alter kind items b.0 known b.1

  manager_whole : AllKnown verbs.Alter kinds.Manager items → alter_manager_of items ≡ ok_command c → AreWhole verbs.Alter kinds.Manager items
  unfolding alter_manager_of
  manager_whole known e =
      let b = then_ok (settings_of verbs.Alter kinds.Manager items) _ c e in
      given_whole verbs.Alter kinds.Manager items b.0 known b.1

  alter_whole : (noun : Noun) → AllKnown verbs.Alter (kind_of noun items) items → alter_of noun (kind_of noun items) name items ≡ ok_command c → AreWhole verbs.Alter (kind_of noun items) items
  alter_whole nouns.Manager known e = manager_whole known e
  alter_whole nouns.Local known e = object_whole nouns.Local kinds.Local known e
  alter_whole nouns.Alias known e = object_whole nouns.Alias kinds.Alias known e
  alter_whole nouns.Remote known e = object_whole nouns.Remote kinds.Remote known e
  alter_whole nouns.Channel known e = object_whole nouns.Channel (kind_of nouns.Channel items) known e
  alter_whole nouns.Process known e = object_whole nouns.Process kinds.Process known e
  alter_whole nouns.Queue known e = object_whole nouns.Queue kinds.Queue known e
  alter_whole nouns.Status known e = object_whole nouns.Status kinds.Status known e

  objects_whole : (noun : Noun) (kind : Kind) (text : List ℕ) (any_end : Bool) → AllKnown verbs.Display kind items → show_objects noun kind text any_end items ≡ ok_command c → AreWhole verbs.Display kind items
  unfolding show_objects
  objects_whole noun kind text any_end known e =
      let a = then_ok (asked_of verbs.Display kind items) _ c e in
      asked_whole kind items a.0 known a.1

  if_begun : (b : Bool) (r : Result Command ScFault) → cond b r (Err (faults.BadValue name.span)) ≡ ok_command c → r ≡ ok_command c
  if_begun true r e = e
  if_begun false r e = absurd cc

  named_whole : (noun : Noun) (kind : Kind) → AllKnown verbs.Display kind items → show_named noun kind name items ≡ ok_command c → AreWhole verbs.Display kind items
  unfolding show_named
  named_whole noun kind known e =
      objects_whole noun kind (pattern_of name.text).text (pattern_of name.text).any_end known
      (if_begun (is_prefix noun (pattern_of name.text).text) (show_objects noun kind (pattern_of name.text).text (pattern_of name.text).any_end items) e)

  status_whole : AllKnown verbs.Display kinds.Status items → status_named name items ≡ ok_command c → AreWhole verbs.Display kinds.Status items
  unfolding status_named show_status
  status_whole known e =
      let a = then_ok (some_or (faults.BadValue name.span) (prefix_of (channel_name (pattern_of name.text).text) (pattern_of name.text).text)) _ c e in
      let b = then_ok (asked_of verbs.Display kinds.Status items) _ c a.2 in
      asked_whole kinds.Status items b.0 known b.1

  display_whole : (noun : Noun) → AllKnown verbs.Display (kind_of noun items) items → display_of noun (kind_of noun items) name items ≡ ok_command c → AreWhole verbs.Display (kind_of noun items) items
  display_whole nouns.Manager known e = objects_whole nouns.Manager kinds.Manager [] false known e
  display_whole nouns.Status known e = status_whole known e
  display_whole nouns.Local known e = named_whole nouns.Local kinds.Local known e
  display_whole nouns.Alias known e = named_whole nouns.Alias kinds.Alias known e
  display_whole nouns.Remote known e = named_whole nouns.Remote kinds.Remote known e
  display_whole nouns.Channel known e = named_whole nouns.Channel (kind_of nouns.Channel items) known e
  display_whole nouns.Process known e = named_whole nouns.Process kinds.Process known e
  display_whole nouns.Queue known e = named_whole nouns.Queue kinds.Queue known e

  reset_whole : (kind : Kind) → AllKnown verbs.Reset kind items → first_repeated verbs.Reset kind items ≡ None → reset_of name items ≡ ok_command c → AreWhole verbs.Reset kind items
  unfolding reset_of
  reset_whole kind known single e =
      let a = then_ok (some_or (faults.BadValue name.span) (channel_name name.text)) _ c e in
      let b = then_ok (number_of items) _ c a.2 in
      one_known verbs.Reset kind keys.SeqNum items (λ key h. one_of_one key keys.SeqNum h) known single (number_whole items b.0 b.1)

  resolve_whole : (kind : Kind) (last : Span) → AllKnown verbs.Resolve kind items → first_repeated verbs.Resolve kind items ≡ None → resolve_of name items last ≡ ok_command c → AreWhole verbs.Resolve kind items
  unfolding resolve_of
  resolve_whole kind last known single e =
      let a = then_ok (some_or (faults.BadValue name.span) (channel_name name.text)) _ c e in
      let b = then_ok (settle_of items last) _ c a.2 in
      one_known verbs.Resolve kind keys.Action items (λ key h. one_of_one key keys.Action h) known single (settle_whole items last b.0 b.1)

  pub all_whole : (verb : Verb) (noun : Noun) (last : Span) → AllKnown verb (kind_of noun items) items → first_repeated verb (kind_of noun items) items ≡ None → command_of verb noun (kind_of noun items) name items last ≡ ok_command c → AreWhole verb (kind_of noun items) items
  all_whole verbs.Define noun last known single e = define_whole noun (kind_of noun items) last known e
  all_whole verbs.Alter noun last known single e = alter_whole noun known e
  all_whole verbs.Delete noun last known single e = none_known verbs.Delete (kind_of noun items) items (λ key h. h) known
  all_whole verbs.Display noun last known single e = display_whole noun known e
  all_whole verbs.Start noun last known single e = none_known verbs.Start (kind_of noun items) items (λ key h. h) known
  all_whole verbs.Stop noun last known single e = none_known verbs.Stop (kind_of noun items) items (λ key h. h) known
  all_whole verbs.Reset noun last known single e = reset_whole (kind_of noun items) known single e
  all_whole verbs.Resolve noun last known single e = resolve_whole (kind_of noun items) last known single e

-- ---- the checks, and a command behind them

checked_read : (verb : Verb) (noun : Noun) (kind : Kind) (named : Named) (last : Span) (cs : List Clause) (items : List Item) (c : Command) → Spell cs items → IsKind noun cs kind → AreKnown verb kind cs → AreSingle cs → Means verb noun kind named.text cs c → checked_command verb noun named last items ≡ ok_command c
unfolding checked_command fault_of
checked_read verb noun kind named last cs items c s is known single h =
    rw (kind_read noun cs items kind s single is, known_read verb kind cs items s known, single_read verb kind cs items s known single) (means_read named cs items s c verb noun kind last is known single h)

record Unfaulted (unknown repeated : Option Span) (r : Result Command ScFault) (c : Command) : Type 0 where
  pub known : unknown ≡ None
  pub single : repeated ≡ None
  pub read : r ≡ ok_command c

unfaulted : (unknown repeated : Option Span) (r : Result Command ScFault) (c : Command) → unless_fault (unknown_or unknown repeated) r ≡ ok_command c → Unfaulted unknown repeated r c
unfaulted None None r c e = record { known = refl; single = refl; read = e }
unfaulted None (Some x) r c e = absurd cc
unfaulted (Some x) repeated r c e = absurd cc

-- what the clauses of a command are that was read
record CheckedSo (verb : Verb) (noun : Noun) (named : Named) (ks : List TokenKind) (c : Command) : Type 0 where
  pub kind : Kind
  pub clauses : List Clause
  pub are : AreClauses clauses ks
  pub is_kind : IsKind noun clauses kind
  pub known : AreKnown verb kind clauses
  pub single : AreSingle clauses
  pub means : Means verb noun kind named.text clauses c

checked_found : (verb : Verb) (noun : Noun) (named : Named) (last : Span) (ts : List Token) (c : Command) → checked_command verb noun named last (items_of ts) ≡ ok_command c → CheckedSo verb noun named (kinds_of ts) c
unfolding checked_command fault_of items_of
checked_found verb noun named last ts c e =
    let items : List Item = items_from ts 0 in
    let kind : Kind = kind_of noun items in
    let u = unfaulted (first_unknown verb kind items) (first_repeated verb kind items) (command_of verb noun kind named items last) c e in
    let whole = all_whole named items c verb noun last (known_found verb kind items u.known) u.single u.read in
    let l = items_found verb kind (length ts) ts (omega arith) whole in
    let single = single_found verb kind l.clauses items l.spell l.known u.single in
    let is = kind_found noun l.clauses items l.spell single in
    record {
      kind = kind;
      clauses = l.clauses;
      are = l.are;
      is_kind = is;
      known = l.known;
      single = single;
      means = means_found named l.clauses items l.spell c verb noun kind last is l.known u.read;
    }

-- ---- a line

abbrev pub line_of : ℕ → List Token → Line
line_of number ts = record { number = number; tokens = ts }

-- behind a verb and an object stand a name and clauses
rest_read : (number : ℕ) (t u : Token) (ts : List Token) (c : Command) (h : IsCommand (kinds_of (t ∷ u ∷ ts)) c) → verb_of (word_of_kind t.kind) ≡ Some h.verb → object_of h.verb (word_of_kind u.kind) ≡ Some h.noun
    → (p : Parted ts h.name_part h.clause_part) (place : Span) → NameAt h.noun u.span h.name place (p.first ++ p.later) p.later → parse_of (line_of number (t ∷ u ∷ ts)) ≡ ok_command c
unfolding parse_of items_of
rest_read number t u ts c h verb noun p place n =
    let two : behind 2 (t ∷ u ∷ ts) ≡ p.first ++ p.later = drop_min (t ∷ u ∷ ts) 2 ∙ p.whole in
    let spell = items_read h.clauses p.later (subst (AreClauses h.clauses) (sym p.is_rest) h.are_clauses) in
    let means : Means h.verb h.noun h.kind n.named.text h.clauses c = subst (λ (x : List ℕ). Means h.verb h.noun h.kind x h.clauses c) (sym n.text) h.means in
    rw (verb, noun, two, n.read, n.behind_it) (checked_read h.verb h.noun h.kind n.named (last_span number (t ∷ u ∷ ts)) h.clauses (items_from p.later 0) c spell h.is_kind h.known h.single means)

part_read : (number : ℕ) (t u : Token) (ts : List Token) (c : Command) (h : IsCommand (kinds_of (t ∷ u ∷ ts)) c) → verb_of (word_of_kind t.kind) ≡ Some h.verb → object_of h.verb (word_of_kind u.kind) ≡ Some h.noun → Parted ts h.name_part h.clause_part → parse_of (line_of number (t ∷ u ∷ ts)) ≡ ok_command c
part_read number t u ts c h verb noun p =
    let place = part_place p.first in
    rest_read number t u ts c h verb noun p place.0 (name_in h.noun u.span h.name place.0 p.first p.later (subst (IsNamed h.noun h.name) (sym p.is_front) h.is_named) place.1)

tokens_read : (number : ℕ) (t u : Token) (ts : List Token) (c : Command) → IsCommand (kinds_of (t ∷ u ∷ ts)) c → parse_of (line_of number (t ∷ u ∷ ts)) ≡ ok_command c
tokens_read number t u ts c h =
    let whole : t.kind ∷ u.kind ∷ kinds_of ts ≡ tokens.Word h.verb_word ∷ tokens.Word h.object_word ∷ (h.name_part ++ h.clause_part) = h.whole in
    let first : t.kind ≡ tokens.Word h.verb_word = cc in
    let second : u.kind ≡ tokens.Word h.object_word = cc in
    let rest : kinds_of ts ≡ h.name_part ++ h.clause_part = cc in
    let verb : verb_of (word_of_kind t.kind) ≡ Some h.verb = ap (λ (k : TokenKind). verb_of (word_of_kind k)) first ∙ verb_read h.verb h.verb_word h.is_verb in
    let noun : object_of h.verb (word_of_kind u.kind) ≡ Some h.noun = ap (λ (k : TokenKind). object_of h.verb (word_of_kind k)) second ∙ object_read h.verb h.noun h.object_word h.goes h.is_object in
    part_read number t u ts c h verb noun (parted ts h.name_part h.clause_part rest)

too_short : (k : List TokenKind) (v w : List ℕ) (more : List TokenKind) → k ≡ tokens.Word v ∷ tokens.Word w ∷ more → length k ≤ 1 → ⊥
too_short k v w more e le = absurd (let n : length k ≡ length (tokens.Word v ∷ tokens.Word w ∷ more) = ap length e in omega (arith, n))

line_read_by : (number : ℕ) (ts : List Token) (c : Command) → IsCommand (kinds_of ts) c → parse_of (line_of number ts) ≡ ok_command c
line_read_by number [] c h = absurd (too_short [] h.verb_word h.object_word (h.name_part ++ h.clause_part) h.whole (omega arith))
line_read_by number (t ∷ []) c h = absurd (too_short (t.kind ∷ []) h.verb_word h.object_word (h.name_part ++ h.clause_part) h.whole (omega arith))
line_read_by number (t ∷ u ∷ ts) c h = tokens_read number t u ts c h

pub command_read : (line : Line) (c : Command) → IsCommand (kinds_of line.tokens) c → parse_of line ≡ ok_command c
command_read line c h = line_read_by line.number line.tokens c h

-- what a reader found of a line, step by step
record Steps (number : ℕ) (ts : List Token) (c : Command) : Type 0 where
  pub verb : Verb
  pub noun : Noun
  pub named : Named
  pub is_verb : verb_of (first_word ts) ≡ Some verb
  pub is_object : object_of verb (second_word ts) ≡ Some noun
  pub is_named : named_at noun (second_span number ts) (behind 2 ts) ≡ Ok named
  pub checked : checked_command verb noun named (last_span number ts) (items_of (behind named.len (behind 2 ts))) ≡ ok_command c

steps_found : (number : ℕ) (ts : List Token) (c : Command) → parse_of (line_of number ts) ≡ ok_command c → Steps number ts c
unfolding parse_of
steps_found number ts c e =
    let a = then_ok (some_or (faults.UnknownVerb (first_span number ts)) (verb_of (first_word ts))) _ c e in
    let b = then_ok (some_or (faults.UnknownObject (second_span number ts)) (object_of a.0 (second_word ts))) _ c a.2 in
    let d = then_ok (named_at b.0 (second_span number ts) (behind 2 ts)) _ c b.2 in
    record {
      verb = a.0;
      noun = b.0;
      named = d.0;
      is_verb = some_ok (faults.UnknownVerb (first_span number ts)) (verb_of (first_word ts)) a.0 a.1;
      is_object = some_ok (faults.UnknownObject (second_span number ts)) (object_of a.0 (second_word ts)) b.0 b.1;
      is_named = d.1;
      checked = d.2;
    }

tokens_found : (number : ℕ) (ts : List Token) (c : Command) → Steps number ts c → IsCommand (kinds_of ts) c
tokens_found number [] c h = absurd (no_verb h.verb h.is_verb)
tokens_found number (t ∷ []) c h = absurd (no_object h.verb h.noun h.is_object)
tokens_found number (t ∷ u ∷ ts) c h =
    let later : behind 2 (t ∷ u ∷ ts) ≡ ts = drop_min (t ∷ u ∷ ts) 2 in
    let named = subst (λ (l : List Token). named_at h.noun u.span l ≡ Ok h.named) later h.is_named in
    let checked = subst (λ (l : List Token). checked_command h.verb h.noun h.named (last_span number (t ∷ u ∷ ts)) (items_of (behind h.named.len l)) ≡ ok_command c) later h.checked in
    let n = took h.noun u.span ts h.named named in
    let rest : kinds_of ts ≡ kinds_of n.part ++ kinds_of (behind h.named.len ts) = ap kinds_of n.whole ∙ kinds_both n.part n.rest ∙ ap (λ (l : List Token). kinds_of n.part ++ kinds_of l) (sym n.behind_it) in
    let k = checked_found h.verb h.noun h.named (last_span number (t ∷ u ∷ ts)) (behind h.named.len ts) c checked in
    let o = object_found h.verb h.noun (word_of_kind u.kind) h.is_object in
    let first : t.kind ≡ tokens.Word (word_of_kind t.kind) = word_kind_of t.kind (λ e. no_verb h.verb (sym (ap verb_of e) ∙ h.is_verb)) in
    let second : u.kind ≡ tokens.Word (word_of_kind u.kind) = word_kind_of u.kind (λ e. no_object h.verb h.noun (sym (ap (object_of h.verb) e) ∙ h.is_object)) in
    record {
      verb = h.verb;
      noun = h.noun;
      kind = k.kind;
      verb_word = word_of_kind t.kind;
      object_word = word_of_kind u.kind;
      name = h.named.text;
      clauses = k.clauses;
      name_part = kinds_of n.part;
      clause_part = kinds_of (behind h.named.len ts);
      is_verb = verb_found h.verb (word_of_kind t.kind) h.is_verb;
      goes = o.0;
      is_object = o.1;
      is_named = n.is;
      are_clauses = k.are;
      whole = ap (λ (x : TokenKind). x ∷ u.kind ∷ kinds_of ts) first ∙ ap (λ (x : TokenKind). tokens.Word (word_of_kind t.kind) ∷ x ∷ kinds_of ts) second ∙ ap (λ (l : List TokenKind). tokens.Word (word_of_kind t.kind) ∷ tokens.Word (word_of_kind u.kind) ∷ l) rest;
      is_kind = k.is_kind;
      known = k.known;
      single = k.single;
      means = k.means;
    }

pub command_found : (line : Line) (c : Command) → parse_of line ≡ ok_command c → IsCommand (kinds_of line.tokens) c
command_found line c e = tokens_found line.number line.tokens c (steps_found line.number line.tokens c e)

-- ---- one command

abbrev placed : TokenKind → Token
placed kind = record { span = record { line = 0; start = 0; end = 0 }; kind = kind }

placed_kinds : (ks : List TokenKind) → kinds_of (map placed ks) ≡ ks
placed_kinds [] = refl
placed_kinds (k ∷ ks) = ap (λ (l : List TokenKind). k ∷ l) (placed_kinds ks)

pub one_command : (ks : List TokenKind) (c d : Command) → IsCommand ks c → IsCommand ks d → c ≡ d
one_command ks c d p q =
    let line : Line = line_of 0 (map placed ks) in
    let there = λ (x : Command) (h : IsCommand ks x). command_read line x (subst (λ (l : List TokenKind). IsCommand l x) (sym (placed_kinds ks)) h) in
    let same : ok_command c ≡ ok_command d = sym (there c p) ∙ there d q in
    cc
