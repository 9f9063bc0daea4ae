-- What a reader answers where a name or a value is bad, where a keyword is missing, and where all is well.
use Rattle.std.proofs.Common.{◌≡◌, ◌⊎◌, ℕ, Bool, true, false, cond, List, [], ◌∷◌, refl, sym, ap, ◌∙◌, inl, inr}
use Rattle.std.specs.Prelude.{Option, Some, None, Result, Ok, Err, is_none, not, codes}
use Rattle.std.specs.Bool.{Decides}
use Rattle.std.specs.Str.{bytes_eq}
use Rattle.std.proofs.lemmas.Bool.Decides.{Decides-or}
use Rattle.std.proofs.lemmas.Slice.Eq.{bytes_eq-Decides}
use Rattle.mq_sync.specs.declared.unit.Settle.{Settle}
use Rattle.mq_sync.specs.declared.unit.Settle.TheVariants as settles
use Rattle.mq_objects.specs.declared.setting.Setting.{Setting}
use Rattle.mq_objects.specs.declared.setting.Keyword.{Keyword}
use Rattle.mq_objects.specs.declared.command.Command.TheVariants as objects
use Rattle.mq_sc_lex.specs.declared.token.Span.{Span}
use Rattle.mq_sc_keys.specs.declared.keys.Key.{Key}
use Rattle.mq_sc_keys.specs.declared.keys.Key.TheVariants as keys
use Rattle.mq_sc_keys.specs.declared.verbs.Verb.{Verb}
use Rattle.mq_sc_keys.specs.declared.verbs.Verb.TheVariants as verbs
use Rattle.mq_sc_keys.specs.declared.verbs.Noun.{Noun}
use Rattle.mq_sc_keys.specs.declared.verbs.Noun.TheVariants as nouns
use Rattle.mq_sc_keys.specs.declared.attributes.Kind.{Kind}
use Rattle.mq_sc_keys.specs.declared.attributes.Kind.TheVariants as kinds
use Rattle.mq_sc_keys.specs.declared.value.Value.{Value}
use Rattle.mq_sc_keys.specs.declared.value.Value.TheVariants as values
use Rattle.mq_sc_keys.specs.declared.giving.Given.{Given}
use Rattle.mq_sc_keys.specs.declared.giving.Given.TheVariants as given
use Rattle.mq_sc_keys.specs.Attributes.{key_of}
use Rattle.mq_sc_keys.specs.Values.{given_of, number_value, choice_value}
use Rattle.mq_sc_parse.specs.declared.splitting.Item.{Item}
use Rattle.mq_sc_parse.specs.declared.asking.Asked.{Asked}
use Rattle.mq_sc_parse.specs.declared.asking.Asked.TheVariants as asked
use Rattle.mq_sc_parse.specs.declared.naming.Named.{Named}
use Rattle.mq_sc_parse.specs.declared.naming.Pattern.{Pattern}
use Rattle.mq_sc_parse.specs.declared.command.Op.TheVariants as ops
use Rattle.mq_sc_parse.specs.declared.command.Command.{Command}
use Rattle.mq_sc_parse.specs.declared.command.Command.TheVariants as commands
use Rattle.mq_sc_parse.specs.declared.fault.ScFault.{ScFault}
use Rattle.mq_sc_parse.specs.declared.fault.ScFault.TheVariants as faults
use Rattle.mq_sc_parse.specs.Asking.{given_by, given_item, put_given, settings_of, asked_key, asked_by, asked_item, put_asked, asked_of}
use Rattle.mq_sc_parse.specs.Checks.{first_repeated, has_word, kind_of, lacks}
use Rattle.mq_sc_parse.specs.Parsing.{◌>>=◌, some_or, channel_name, subject_of, subjects_of, pattern_of, prefix_of, is_prefix, define_of, alter_manager_of, alter_object_of, alter_of, delete_of, asked_or_all, show_objects, show_status, status_named, show_named, display_of, start_of, stop_of, number_of, reset_of, settle_as, settle_of, resolve_of, command_of}
use Rattle.mq_sc_grammar.specs.Commands.{IsPattern}
use Rattle.mq_sc_grammar.specs.Faults.{IsFirst, NoneIs, SomeIs, IsKeyword, IsBadName, IsBad, IsLacking}
use Rattle.mq_sc_grammar.proofs.Words.{key_read, key_found}
use Rattle.mq_sc_grammar.proofs.Checked.{AllKnown}
use Rattle.mq_sc_grammar.proofs.Meant.{one_of_one, pattern_read, pattern_found}
use Rattle.mq_sc_grammar.proofs.Readings.{not_two}
use Rattle.mq_sc_grammar.proofs.Firsts.{decide}

abbrev pub bad_at : {A : Type 0} → Span → Result A ScFault
bad_at span = Err (faults.BadValue span)

-- ---- settings

abbrev GivesBad : Verb → Kind → Item → Type 0
GivesBad verb kind i = (key : Key) × IsKeyword verb kind key i.word × (given_of kind key i.value ≡ given.Bad)

module _ (verb : Verb) (kind : Kind) where
  bad_given : (i : Item) → GivesBad verb kind i → given_item verb kind i ≡ given.Bad
  bad_given i (key, is, bad) = ap (λ (o : Option Key). given_by kind o i.value) (ap (key_of verb kind) is.1 ∙ key_read verb kind key is.0) ∙ bad

  given_bad : (i : Item) → (key : Key) × (key_of verb kind i.word ≡ Some key) → given_item verb kind i ≡ given.Bad → GivesBad verb kind i
  given_bad i (key, e) bad = (key, key_found verb kind key i.word e, sym (ap (λ (o : Option Key). given_by kind o i.value) e) ∙ bad)

  put_fault : (span : Span) (g : Given) (fault : ScFault) → (g ≡ given.Bad → ⊥) → put_given span g (Err fault) ≡ Err fault
  put_fault span given.Bad fault never = absurd (never refl)
  put_fault span given.Nothing fault never = refl
  put_fault span (given.Setting s) fault never = refl

  put_well : (span : Span) (g : Given) (later : List Setting) → (g ≡ given.Bad → ⊥) → (ss : List Setting) × (put_given span g (Ok later) ≡ Ok ss)
  put_well span given.Bad later never = absurd (never refl)
  put_well span given.Nothing later never = (later, refl)
  put_well span (given.Setting s) later never = (s ∷ later, refl)

  settings_bad : (items : List Item) (i : Item) → AllKnown verb kind items → IsFirst (GivesBad verb kind) i items → settings_of verb kind items ≡ bad_at i.span
  settings_bad [] i known h = absurd h
  settings_bad (j ∷ js) i known (inl h) = ap (λ (g : Given). put_given j.span g (settings_of verb kind js)) (bad_given j h.0) ∙ ap (λ (x : Item). bad_at x.span) (sym h.1)
  settings_bad (j ∷ js) i known (inr h) =
      ap (put_given j.span (given_item verb kind j)) (settings_bad js i known.1 h.1) ∙ put_fault j.span (given_item verb kind j) (faults.BadValue i.span) (λ b. h.0 (given_bad j known.0 b))

  settings_good : (items : List Item) → AllKnown verb kind items → NoneIs (GivesBad verb kind) items → (ss : List Setting) × (settings_of verb kind items ≡ Ok ss)
  settings_good [] known h = ([], refl)
  settings_good (j ∷ js) known h =
      let more = settings_good js known.1 h.1 in
      let put = put_well j.span (given_item verb kind j) more.0 (λ b. h.0 (given_bad j known.0 b)) in
      (put.0, ap (put_given j.span (given_item verb kind j)) more.1 ∙ put.1)

-- ---- what DISPLAY asks

abbrev HasValue : Item → Type 0
HasValue i = i.value ≡ values.Absent → ⊥

module _ (kind : Kind) where
  bad_asked : (i : Item) (o : Option Key) (v : Value) → (v ≡ values.Absent → ⊥) → asked_by o v ≡ asked.Bad
  bad_asked i None v never = refl
  bad_asked i (Some key) values.Absent never = absurd (never refl)
  bad_asked i (Some key) (values.Text text) never = refl
  bad_asked i (Some key) values.Malformed never = refl

  no_value : (v : Value) → ((v ≡ values.Absent → ⊥) → ⊥) → v ≡ values.Absent
  no_value values.Absent never = refl
  no_value (values.Text text) never = absurd (never (λ e. cc))
  no_value values.Malformed never = absurd (never (λ e. cc))

  asked_well : (i : Item) → (key : Key) × (key_of verbs.Display kind i.word ≡ Some key) → i.value ≡ values.Absent → (key : Key) × (asked_item verbs.Display kind i ≡ asked_key key)
  asked_well i (key, e) v = (key, ap (λ (o : Option Key). asked_by o i.value) e ∙ ap (asked_by (Some key)) v)

  key_fault : (span : Span) (key : Key) (fault : ScFault) → put_asked span (asked_key key) (Err fault) ≡ Err fault
  key_fault span keys.All fault = refl
  key_fault span _ fault = refl

  key_well : (span : Span) (key : Key) (later : List Keyword) → (ks : List Keyword) × (put_asked span (asked_key key) (Ok later) ≡ Ok ks)
  key_well span key later = by (asked_key key) refl
    where
      by : (a : Asked) → asked_key key ≡ a → (ks : List Keyword) × (put_asked span (asked_key key) (Ok later) ≡ Ok ks)
      by asked.Bad e = absurd (never key e)
        where
          never : (k : Key) → asked_key k ≡ asked.Bad → ⊥
          never keys.All f = absurd cc
          never _ f = absurd cc
      by asked.Nothing e = (later, ap (λ (a : Asked). put_asked span a (Ok later)) e)
      by (asked.Keyword k) e = (k ∷ later, ap (λ (a : Asked). put_asked span a (Ok later)) e)

  asked_bad : (items : List Item) (i : Item) → AllKnown verbs.Display kind items → IsFirst HasValue i items → asked_of verbs.Display kind items ≡ bad_at i.span
  asked_bad [] i known h = absurd h
  asked_bad (j ∷ js) i known (inl h) =
      ap (λ (a : Asked). put_asked j.span a (asked_of verbs.Display kind js)) (bad_asked j (key_of verbs.Display kind j.word) j.value h.0) ∙ ap (λ (x : Item). bad_at x.span) (sym h.1)
  asked_bad (j ∷ js) i known (inr h) =
      let w = asked_well j known.0 (no_value j.value h.0) in
      ap (put_asked j.span (asked_item verbs.Display kind j)) (asked_bad js i known.1 h.1) ∙ ap (λ (a : Asked). put_asked j.span a (bad_at i.span)) w.1 ∙ key_fault j.span w.0 (faults.BadValue i.span)

  asked_good : (items : List Item) → AllKnown verbs.Display kind items → NoneIs HasValue items → (ks : List Keyword) × (asked_of verbs.Display kind items ≡ Ok ks)
  asked_good [] known h = ([], refl)
  asked_good (j ∷ js) known h =
      let w = asked_well j known.0 (no_value j.value h.0) in
      let more = asked_good js known.1 h.1 in
      let put = key_well j.span w.0 more.0 in
      (put.0, ap (put_asked j.span (asked_item verbs.Display kind j)) more.1 ∙ ap (λ (a : Asked). put_asked j.span a (Ok more.0)) w.1 ∙ put.1)

-- ---- SEQNUM and ACTION

not_none : {A : Type 0} (o : Option A) → (o ≡ None → ⊥) → (x : A) × (o ≡ Some x)
not_none None never = absurd (never refl)
not_none (Some x) never = (x, refl)

abbrev BadNumber : Item → Type 0
BadNumber i = number_value 0 999999999 i.value ≡ None

abbrev BadSettle : Item → Type 0
BadSettle i = choice_value (codes "COMMIT") (codes "BACKOUT") i.value ≡ None

module _ (kind : Kind) where
  number_bad : (items : List Item) (i : Item) → AllKnown verbs.Reset kind items → first_repeated verbs.Reset kind items ≡ None → IsFirst BadNumber i items → number_of items ≡ bad_at i.span
  number_bad [] i known single h = absurd h
  number_bad (j ∷ js) i known single (inl h) = ap (some_or (faults.BadValue j.span)) h.0 ∙ ap (λ (x : Item). bad_at x.span) (sym h.1)
  number_bad (j ∷ []) i known single (inr h) = absurd h.1
  number_bad (j ∷ k ∷ ks) i known single (inr h) = absurd (not_two verbs.Reset kind keys.SeqNum j k ks (the j known.0) (the k known.1.0) single)
    where
      the : (x : Item) → (key : Key) × (key_of verbs.Reset kind x.word ≡ Some key) → key_of verbs.Reset kind x.word ≡ Some keys.SeqNum
      the x (key, e) = e ∙ ap (λ (y : Key). Some y) (one_of_one key keys.SeqNum (key_found verbs.Reset kind key x.word e).0)

  number_good : (items : List Item) → NoneIs BadNumber items → (n : ℕ) × (number_of items ≡ Ok n)
  number_good [] h = (1, refl)
  number_good (j ∷ js) h =
      let n = not_none (number_value 0 999999999 j.value) h.0 in
      (n.0, ap (some_or (faults.BadValue j.span)) n.1)

  settle_bad : (items : List Item) (i : Item) (last : Span) → AllKnown verbs.Resolve kind items → first_repeated verbs.Resolve kind items ≡ None → IsFirst BadSettle i items → settle_of items last ≡ bad_at i.span
  settle_bad [] i last known single h = absurd h
  settle_bad (j ∷ js) i last known single (inl h) = ap (λ (o : Option Bool). some_or (faults.BadValue j.span) (settle_as o)) h.0 ∙ ap (λ (x : Item). bad_at x.span) (sym h.1)
  settle_bad (j ∷ []) i last known single (inr h) = absurd h.1
  settle_bad (j ∷ k ∷ ks) i last known single (inr h) = absurd (not_two verbs.Resolve kind keys.Action j k ks (the j known.0) (the k known.1.0) single)
    where
      the : (x : Item) → (key : Key) × (key_of verbs.Resolve kind x.word ≡ Some key) → key_of verbs.Resolve kind x.word ≡ Some keys.Action
      the x (key, e) = e ∙ ap (λ (y : Key). Some y) (one_of_one key keys.Action (key_found verbs.Resolve kind key x.word e).0)

  some_settle : (b : Bool) → (x : Settle) × (settle_as (Some b) ≡ Some x)
  some_settle true = (settles.Commit, refl)
  some_settle false = (settles.Backout, refl)

  settle_good : (items : List Item) (last : Span) → NoneIs BadSettle items → (items ≡ [] → ⊥) → (x : Settle) × (settle_of items last ≡ Ok x)
  settle_good [] last h some = absurd (some refl)
  settle_good (j ∷ js) last h some =
      let b = not_none (choice_value (codes "COMMIT") (codes "BACKOUT") j.value) h.0 in
      let x = some_settle b.0 in
      (x.0, ap (λ (o : Option Bool). some_or (faults.BadValue j.span) (settle_as o)) b.1 ∙ ap (some_or (faults.BadValue j.span)) x.1)

-- ---- what a command answers

-- by a bad name, a first bad value, a keyword that is missing, and where there is none of these
pub record Answers (name : Type 0) (bad : Item → Type 0) (lacking : Type 0) (items : List Item) (at last : Span) (r : Result Command ScFault) : Type 0 where
  pub named : name → r ≡ bad_at at
  pub valued : (name → ⊥) → (i : Item) → IsFirst bad i items → r ≡ bad_at i.span
  pub lacked : (name → ⊥) → NoneIs bad items → lacking → r ≡ bad_at last
  pub well : (name → ⊥) → NoneIs bad items → (lacking → ⊥) → (c : Command) × (r ≡ Ok c)

-- the same, behind a name that is good
record Later (bad : Item → Type 0) (lacking : Type 0) (items : List Item) (last : Span) (r : Result Command ScFault) : Type 0 where
  pub valued : (i : Item) → IsFirst bad i items → r ≡ bad_at i.span
  pub lacked : NoneIs bad items → lacking → r ≡ bad_at last
  pub well : NoneIs bad items → (lacking → ⊥) → (c : Command) × (r ≡ Ok c)

never_first : (items : List Item) (i : Item) → IsFirst (λ (j : Item). ⊥) i items → ⊥
never_first [] i h = h
never_first (j ∷ js) i (inl h) = h.0
never_first (j ∷ js) i (inr h) = never_first js i h.1

module _ (bad : Item → Type 0) (lacking : Type 0) (items : List Item) (at last : Span) where
  behind_name : {A : Type 0} (o : Option A) (k : A → Result Command ScFault) → ((a : A) → Later bad lacking items last (k a)) → Answers (o ≡ None) bad lacking items at last (some_or (faults.BadValue at) o >>= k)
  behind_name None k later = record { named = λ n. refl; valued = λ n i h. absurd (n refl); lacked = λ n h l. absurd (n refl); well = λ n h l. absurd (n refl) }
  behind_name (Some a) k later = record { named = λ n. absurd cc; valued = λ n i h. (later a).valued i h; lacked = λ n h l. (later a).lacked h l; well = λ n h l. (later a).well h l }

  without_name : (r : Result Command ScFault) → Later bad lacking items last r → Answers ⊥ bad lacking items at last r
  without_name r later = record { named = λ n. absurd n; valued = λ n i h. later.valued i h; lacked = λ n h l. later.lacked h l; well = λ n h l. later.well h l }

  renamed : (N M : Type 0) (r : Result Command ScFault) → (N → M) → (M → N) → Answers N bad lacking items at last r → Answers M bad lacking items at last r
  renamed N M r f g a = record { named = λ m. a.named (g m); valued = λ n i h. a.valued (λ m. n (f m)) i h; lacked = λ n h l. a.lacked (λ m. n (f m)) h l; well = λ n h l. a.well (λ m. n (f m)) h l }

  -- values that are read, with no keyword that is needed
  values_then : {B : Type 0} (q : Result B ScFault) (g : B → Command) → ((i : Item) → IsFirst bad i items → q ≡ bad_at i.span) → (NoneIs bad items → (b : B) × (q ≡ Ok b)) → (lacking → ⊥) → Later bad lacking items last (q >>= (λ b. Ok (g b)))
  values_then q g first none whole =
      record {
        valued = λ i h. ap (λ x. x >>= (λ b. Ok (g b))) (first i h);
        lacked = λ h l. absurd (whole l);
        well = λ h l. (g (none h).0, ap (λ x. x >>= (λ b. Ok (g b))) (none h).1);
      }

only_name : (items : List Item) (last : Span) (c : Command) → Later (λ (j : Item). ⊥) ⊥ items last (Ok c)
only_name items last c = record { valued = λ i h. absurd (never_first items i h); lacked = λ h l. absurd l; well = λ h l. (c, refl) }

-- ---- each command

-- XMITQ is there or not
word_decides : (word : List ℕ) (items : List Item) → Decides (has_word word items) (SomeIs (λ (i : Item). i.word ≡ word) items)
word_decides word [] = (λ e. absurd cc, λ h. absurd h)
word_decides word (j ∷ js) = Decides-or (bytes_eq j.word word) (has_word word js) (bytes_eq-Decides j.word word) (word_decides word js)

turned : (b : Bool) (P : Type 0) → Decides b P → Decides (not b) (P → ⊥)
turned true P d = (λ e. absurd cc, λ never. absurd (never (d.0 refl)))
turned false P d = (λ e p. absurd (let f : false ≡ true = d.1 p in cc), λ never. refl)

lacks_decides : (kind : Kind) (items : List Item) → Decides (lacks kind items) (IsLacking verbs.Define kind items)
lacks_decides kinds.Channel items = (λ e. tt, λ h. refl)
lacks_decides kinds.Sender items = turned (has_word (codes "XMITQ") items) (SomeIs (λ (i : Item). i.word ≡ codes "XMITQ") items) (word_decides (codes "XMITQ") items)
lacks_decides _ items = (λ e. absurd cc, λ h. absurd h)

lack_then : (bad : Item → Type 0) (L : Type 0) (items : List Item) (last : Span) (b : Bool) (ss : Result (List Setting) ScFault) (g : List Setting → Command) → Decides b L → ((i : Item) → IsFirst bad i items → ss ≡ bad_at i.span) → (NoneIs bad items → (x : List Setting) × (ss ≡ Ok x))
    → Later bad L items last (ss >>= (λ x. cond b (bad_at last) (Ok (g x))))
lack_then bad L items last true ss g d first none =
    record {
      valued = λ i h. ap (λ r. r >>= (λ x. bad_at last)) (first i h);
      lacked = λ h l. ap (λ r. r >>= (λ x. bad_at last)) (none h).1;
      well = λ h l. absurd (l (d.0 refl));
    }
lack_then bad L items last false ss g d first none =
    record {
      valued = λ i h. ap (λ r. r >>= (λ x. Ok (g x))) (first i h);
      lacked = λ h l. absurd (let f : false ≡ true = d.1 l in cc);
      well = λ h l. (g (none h).0, ap (λ r. r >>= (λ x. Ok (g x))) (none h).1);
    }

module _ (noun : Noun) (kind : Kind) (name : Named) (items : List Item) (last : Span) where
  define_answers : AllKnown verbs.Define kind items → Answers (subject_of noun name.text ≡ None) (GivesBad verbs.Define kind) (IsLacking verbs.Define kind items) items name.span last (define_of noun kind name items last)
  unfolding define_of
  define_answers known =
      behind_name (GivesBad verbs.Define kind) (IsLacking verbs.Define kind items) items name.span last (subject_of noun name.text) _ (λ subject.
      lack_then (GivesBad verbs.Define kind) (IsLacking verbs.Define kind items) items last (lacks kind items) (settings_of verbs.Define kind items)
      (λ settings. commands.Objects (objects.Define (record { subject = subject; replace = has_word (codes "REPLACE") items; settings = settings }))) (lacks_decides kind items)
      (λ i h. settings_bad verbs.Define kind items i known h) (λ h. settings_good verbs.Define kind items known h))

  alter_answers : AllKnown verbs.Alter kind items → Answers (subject_of noun name.text ≡ None) (GivesBad verbs.Alter kind) ⊥ items name.span last (alter_object_of noun kind name items)
  unfolding alter_object_of
  alter_answers known =
      behind_name (GivesBad verbs.Alter kind) ⊥ items name.span last (subject_of noun name.text) _ (λ subject.
      values_then (GivesBad verbs.Alter kind) ⊥ items name.span last (settings_of verbs.Alter kind items) (λ settings. commands.Objects (objects.Alter (record { subject = subject; force = has_word (codes "FORCE") items; settings = settings })))
      (λ i h. settings_bad verbs.Alter kind items i known h) (λ h. settings_good verbs.Alter kind items known h) (λ l. l))

  delete_answers : Answers (subject_of noun name.text ≡ None) (λ (j : Item). ⊥) ⊥ items name.span last (delete_of noun name)
  unfolding delete_of
  delete_answers = behind_name (λ (j : Item). ⊥) ⊥ items name.span last (subject_of noun name.text) _ (λ subject. only_name items last (commands.Objects (objects.Delete (record { subject = subject }))))

  objects_answers : (text : List ℕ) (any_end : Bool) → AllKnown verbs.Display kind items → Later HasValue ⊥ items last (show_objects noun kind text any_end items)
  unfolding show_objects
  objects_answers text any_end known =
      values_then HasValue ⊥ items name.span last (asked_of verbs.Display kind items) (λ ks. commands.Objects (objects.Display (record { subjects = subjects_of noun; name = text; any_end = any_end; asked = asked_or_all items ks })))
      (λ i h. asked_bad kind items i known h) (λ h. asked_good kind items known h) (λ l. l)

  abbrev NoPrefix : Type 0
  NoPrefix = (text : List ℕ) × (any_end : Bool) × IsPattern name.text text any_end × (is_prefix noun text ≡ false)

  no_prefix : NoPrefix → is_prefix noun (pattern_of name.text).text ≡ false
  no_prefix (text, any_end, pattern, e) = ap (λ (p : Pattern). is_prefix noun p.text) (pattern_read name.text text any_end pattern) ∙ e

  begun : (b : Bool) → is_prefix noun (pattern_of name.text).text ≡ b → (r : Result Command ScFault) → Later HasValue ⊥ items last r → Answers NoPrefix HasValue ⊥ items name.span last (cond b r (bad_at name.span))
  begun true e r later =
      let never : NoPrefix → ⊥ = λ n. absurd (let f : false ≡ true = sym (no_prefix n) ∙ e in cc) in
      record { named = λ n. absurd (never n); valued = λ n i h. later.valued i h; lacked = λ n h l. absurd l; well = λ n h l. later.well h l }
  begun false e r later =
      let is : NoPrefix = ((pattern_of name.text).text, (pattern_of name.text).any_end, pattern_found name.text, e) in
      record { named = λ n. refl; valued = λ n i h. absurd (n is); lacked = λ n h l. absurd l; well = λ n h l. absurd (n is) }

  display_answers : AllKnown verbs.Display kind items → Answers NoPrefix HasValue ⊥ items name.span last (show_named noun kind name items)
  unfolding show_named
  display_answers known =
      begun (is_prefix noun (pattern_of name.text).text) refl (show_objects noun kind (pattern_of name.text).text (pattern_of name.text).any_end items) (objects_answers (pattern_of name.text).text (pattern_of name.text).any_end known)

module _ (kind : Kind) (name : Named) (items : List Item) (last : Span) where
  manager_answers : AllKnown verbs.Alter kinds.Manager items → Answers ⊥ (GivesBad verbs.Alter kinds.Manager) ⊥ items name.span last (alter_manager_of items)
  unfolding alter_manager_of
  manager_answers known =
      without_name (GivesBad verbs.Alter kinds.Manager) ⊥ items name.span last _
      (values_then (GivesBad verbs.Alter kinds.Manager) ⊥ items name.span last (settings_of verbs.Alter kinds.Manager items) (λ settings. commands.Objects (objects.AlterManager (record { force = has_word (codes "FORCE") items; settings = settings })))
      (λ i h. settings_bad verbs.Alter kinds.Manager items i known h) (λ h. settings_good verbs.Alter kinds.Manager items known h) (λ l. l))

  shown_answers : AllKnown verbs.Display kinds.Manager items → Answers ⊥ HasValue ⊥ items name.span last (show_objects nouns.Manager kinds.Manager [] false items)
  shown_answers known = without_name HasValue ⊥ items name.span last (show_objects nouns.Manager kinds.Manager [] false items) (objects_answers nouns.Manager kinds.Manager name items last [] false known)

  abbrev NoChannel : Type 0
  NoChannel = (text : List ℕ) × (any_end : Bool) × IsPattern name.text text any_end × (prefix_of (channel_name text) text ≡ None)

  no_channel : NoChannel → prefix_of (channel_name (pattern_of name.text).text) (pattern_of name.text).text ≡ None
  no_channel (text, any_end, pattern, e) = ap (λ (p : Pattern). prefix_of (channel_name p.text) p.text) (pattern_read name.text text any_end pattern) ∙ e

  status_answers : AllKnown verbs.Display kinds.Status items → Answers NoChannel HasValue ⊥ items name.span last (status_named name items)
  unfolding status_named show_status
  status_answers known =
      renamed HasValue ⊥ items name.span last (prefix_of (channel_name (pattern_of name.text).text) (pattern_of name.text).text ≡ None) NoChannel _
      (λ e. ((pattern_of name.text).text, (pattern_of name.text).any_end, pattern_found name.text, e)) (λ n. no_channel n)
      (behind_name HasValue ⊥ items name.span last (prefix_of (channel_name (pattern_of name.text).text) (pattern_of name.text).text) _ (λ channel.
      values_then HasValue ⊥ items name.span last (asked_of verbs.Display kinds.Status items) (λ ks. commands.ShowStatus channel (pattern_of name.text).any_end)
      (λ i h. asked_bad kinds.Status items i known h) (λ h. asked_good kinds.Status items known h) (λ l. l)))

  start_answers : Answers (channel_name name.text ≡ None) (λ (j : Item). ⊥) ⊥ items name.span last (start_of name)
  unfolding start_of
  start_answers = behind_name (λ (j : Item). ⊥) ⊥ items name.span last (channel_name name.text) _ (λ channel. only_name items last (commands.Operate (ops.Start channel)))

  stop_answers : Answers (channel_name name.text ≡ None) (λ (j : Item). ⊥) ⊥ items name.span last (stop_of name)
  unfolding stop_of
  stop_answers = behind_name (λ (j : Item). ⊥) ⊥ items name.span last (channel_name name.text) _ (λ channel. only_name items last (commands.Operate (ops.Stop channel)))

  reset_answers : AllKnown verbs.Reset kind items → first_repeated verbs.Reset kind items ≡ None → Answers (channel_name name.text ≡ None) BadNumber ⊥ items name.span last (reset_of name items)
  unfolding reset_of
  reset_answers known single =
      behind_name BadNumber ⊥ items name.span last (channel_name name.text) _ (λ channel.
      values_then BadNumber ⊥ items name.span last (number_of items) (λ n. commands.Operate (ops.Reset channel n)) (λ i h. number_bad kind items i known single h) (λ h. number_good kind items h) (λ l. l))

  resolve_answers : AllKnown verbs.Resolve kind items → first_repeated verbs.Resolve kind items ≡ None → Answers (channel_name name.text ≡ None) BadSettle (items ≡ []) items name.span last (resolve_of name items last)
  unfolding resolve_of
  resolve_answers known single =
      behind_name BadSettle (items ≡ []) items name.span last (channel_name name.text) _ (λ channel. record {
        valued = λ i h. ap (λ r. r >>= (λ x. Ok (commands.Operate (ops.Resolve channel x)))) (settle_bad kind items i last known single h);
        lacked = λ h l. ap (λ (is : List Item). settle_of is last >>= (λ x. Ok (commands.Operate (ops.Resolve channel x)))) l;
        well = λ h l. (commands.Operate (ops.Resolve channel (settle_good kind items last h l).0), ap (λ r. r >>= (λ x. Ok (commands.Operate (ops.Resolve channel x)))) (settle_good kind items last h l).1);
      })

-- ---- any command

module _ (name : Named) (items : List Item) (last : Span) where
  abbrev So : Verb → Noun → Result Command ScFault → Type 0
  So verb noun r = Answers (IsBadName verb noun name.text) (IsBad verb (kind_of noun items)) (IsLacking verb (kind_of noun items) items) items name.span last r

  alters : (noun : Noun) → AllKnown verbs.Alter (kind_of noun items) items → So verbs.Alter noun (alter_of noun (kind_of noun items) name items)
  alters nouns.Manager known = manager_answers kinds.Manager name items last known
  alters nouns.Local known = alter_answers nouns.Local kinds.Local name items last known
  alters nouns.Alias known = alter_answers nouns.Alias kinds.Alias name items last known
  alters nouns.Remote known = alter_answers nouns.Remote kinds.Remote name items last known
  alters nouns.Channel known = alter_answers nouns.Channel (kind_of nouns.Channel items) name items last known
  alters nouns.Process known = alter_answers nouns.Process kinds.Process name items last known
  alters nouns.Queue known = alter_answers nouns.Queue kinds.Queue name items last known
  alters nouns.Status known = alter_answers nouns.Status kinds.Status name items last known

  displays : (noun : Noun) → AllKnown verbs.Display (kind_of noun items) items → So verbs.Display noun (display_of noun (kind_of noun items) name items)
  displays nouns.Manager known = shown_answers kinds.Manager name items last known
  displays nouns.Status known = status_answers kinds.Status name items last known
  displays nouns.Local known = display_answers nouns.Local kinds.Local name items last known
  displays nouns.Alias known = display_answers nouns.Alias kinds.Alias name items last known
  displays nouns.Remote known = display_answers nouns.Remote kinds.Remote name items last known
  displays nouns.Channel known = display_answers nouns.Channel (kind_of nouns.Channel items) name items last known
  displays nouns.Process known = display_answers nouns.Process kinds.Process name items last known
  displays nouns.Queue known = display_answers nouns.Queue kinds.Queue name items last known

  pub command_answers : (verb : Verb) (noun : Noun) → AllKnown verb (kind_of noun items) items → first_repeated verb (kind_of noun items) items ≡ None → So verb noun (command_of verb noun (kind_of noun items) name items last)
  command_answers verbs.Define noun known single = define_answers noun (kind_of noun items) name items last known
  command_answers verbs.Alter noun known single = alters noun known
  command_answers verbs.Delete noun known single = delete_answers noun (kind_of noun items) name items last
  command_answers verbs.Display noun known single = displays noun known
  command_answers verbs.Start noun known single = start_answers (kind_of noun items) name items last
  command_answers verbs.Stop noun known single = stop_answers (kind_of noun items) name items last
  command_answers verbs.Reset noun known single = reset_answers (kind_of noun items) name items last known single
  command_answers verbs.Resolve noun known single = resolve_answers (kind_of noun items) name items last known single

-- ---- each of these can be told

abbrev Told : Type 0 → Type 0
Told P = P ⊎ (P → ⊥)

told_none : {A : Type 0} (o : Option A) → Told (o ≡ None)
told_none None = inl refl
told_none (Some a) = inr (λ e. absurd cc)

told_by : (b : Bool) (P : Type 0) → Decides b P → Told P
told_by true P d = inl (d.0 refl)
told_by false P d = inr (λ p. absurd (let f : false ≡ true = d.1 p in cc))

told_like : (P Q : Type 0) → (P → Q) → (Q → P) → Told P → Told Q
told_like P Q f g (inl p) = inl (f p)
told_like P Q f g (inr n) = inr (λ q. n (g q))

told_false : (b : Bool) → Told (b ≡ false)
told_false true = inr (λ e. absurd cc)
told_false false = inl refl

told_prefix : (noun : Noun) (kind : Kind) (name : Named) (items : List Item) (last : Span) → Told (NoPrefix noun kind name items last)
told_prefix noun kind name items last =
    told_like (is_prefix noun (pattern_of name.text).text ≡ false) (NoPrefix noun kind name items last) (λ e. ((pattern_of name.text).text, (pattern_of name.text).any_end, pattern_found name.text, e)) (λ n. no_prefix noun kind name items last n)
    (told_false (is_prefix noun (pattern_of name.text).text))

module _ (name : Named) (items : List Item) (last : Span) where
  alter_told : (noun : Noun) → Told (IsBadName verbs.Alter noun name.text)
  alter_told nouns.Manager = inr (λ n. n)
  alter_told nouns.Local = told_none (subject_of nouns.Local name.text)
  alter_told nouns.Alias = told_none (subject_of nouns.Alias name.text)
  alter_told nouns.Remote = told_none (subject_of nouns.Remote name.text)
  alter_told nouns.Channel = told_none (subject_of nouns.Channel name.text)
  alter_told nouns.Process = told_none (subject_of nouns.Process name.text)
  alter_told nouns.Queue = told_none (subject_of nouns.Queue name.text)
  alter_told nouns.Status = told_none (subject_of nouns.Status name.text)

  display_told : (noun : Noun) → Told (IsBadName verbs.Display noun name.text)
  display_told nouns.Manager = inr (λ n. n)
  display_told nouns.Status =
      told_like (prefix_of (channel_name (pattern_of name.text).text) (pattern_of name.text).text ≡ None) (NoChannel kinds.Status name items last)
      (λ e. ((pattern_of name.text).text, (pattern_of name.text).any_end, pattern_found name.text, e)) (λ n. no_channel kinds.Status name items last n) (told_none (prefix_of (channel_name (pattern_of name.text).text) (pattern_of name.text).text))
  display_told nouns.Local = told_prefix nouns.Local kinds.Local name items last
  display_told nouns.Alias = told_prefix nouns.Alias kinds.Alias name items last
  display_told nouns.Remote = told_prefix nouns.Remote kinds.Remote name items last
  display_told nouns.Channel = told_prefix nouns.Channel kinds.Channel name items last
  display_told nouns.Process = told_prefix nouns.Process kinds.Process name items last
  display_told nouns.Queue = told_prefix nouns.Queue kinds.Queue name items last

  pub name_told : (verb : Verb) (noun : Noun) → Told (IsBadName verb noun name.text)
  name_told verbs.Define noun = told_none (subject_of noun name.text)
  name_told verbs.Alter noun = alter_told noun
  name_told verbs.Delete noun = told_none (subject_of noun name.text)
  name_told verbs.Display noun = display_told noun
  name_told verbs.Start noun = told_none (channel_name name.text)
  name_told verbs.Stop noun = told_none (channel_name name.text)
  name_told verbs.Reset noun = told_none (channel_name name.text)
  name_told verbs.Resolve noun = told_none (channel_name name.text)

told_nil : (items : List Item) → Told (items ≡ [])
told_nil [] = inl refl
told_nil (i ∷ is) = inr (λ e. absurd cc)

pub lack_told : (verb : Verb) (kind : Kind) (items : List Item) → Told (IsLacking verb kind items)
lack_told verbs.Define kind items = told_by (lacks kind items) (IsLacking verbs.Define kind items) (lacks_decides kind items)
lack_told verbs.Resolve kind items = told_nil items
lack_told _ kind items = inr (λ l. l)

abbrev is_bad_given : Given → Bool
is_bad_given given.Bad = true
is_bad_given given.Nothing = false
is_bad_given (given.Setting s) = false

abbrev bad_by : Kind → Option Key → Value → Bool
bad_by kind None v = false
bad_by kind (Some key) v = is_bad_given (given_of kind key v)

bad_given_is : (g : Given) → Decides (is_bad_given g) (g ≡ given.Bad)
bad_given_is given.Bad = (λ e. refl, λ e. refl)
bad_given_is given.Nothing = (λ e. absurd cc, λ e. absurd cc)
bad_given_is (given.Setting s) = (λ e. absurd cc, λ e. absurd cc)

gives_by : (verb : Verb) (kind : Kind) (i : Item) (o : Option Key) → key_of verb kind i.word ≡ o → Decides (bad_by kind o i.value) (GivesBad verb kind i)
gives_by verb kind i None e = (λ f. absurd cc, λ h. absurd (let f : None ≡ Some h.0 = sym e ∙ ap (key_of verb kind) h.1.1 ∙ key_read verb kind h.0 h.1.0 in cc))
gives_by verb kind i (Some key) e =
    let d = bad_given_is (given_of kind key i.value) in
    let same = λ (h : GivesBad verb kind i). let f : Some h.0 ≡ Some key = sym (ap (key_of verb kind) h.1.1 ∙ key_read verb kind h.0 h.1.0) ∙ e in let k : h.0 ≡ key = cc in k in
    (λ f. (key, key_found verb kind key i.word e, d.0 f), λ h. d.1 (ap (λ (k : Key). given_of kind k i.value) (sym (same h)) ∙ h.2))

gives_decides : (verb : Verb) (kind : Kind) (i : Item) → Decides (bad_by kind (key_of verb kind i.word) i.value) (GivesBad verb kind i)
gives_decides verb kind i = gives_by verb kind i (key_of verb kind i.word) refl

abbrev has_value : Value → Bool
has_value values.Absent = false
has_value (values.Text text) = true
has_value values.Malformed = true

value_decides : (v : Value) → Decides (has_value v) (v ≡ values.Absent → ⊥)
value_decides values.Absent = (λ e. absurd cc, λ never. absurd (never refl))
value_decides (values.Text text) = (λ e f. absurd cc, λ never. refl)
value_decides values.Malformed = (λ e f. absurd cc, λ never. refl)

none_decides : {A : Type 0} (o : Option A) → Decides (is_none o) (o ≡ None)
none_decides None = (λ e. refl, λ e. refl)
none_decides (Some a) = (λ e. absurd cc, λ e. absurd cc)

no_decides : Decides false ⊥
no_decides = (λ e. absurd cc, λ e. absurd e)

pub decide_bad : (verb : Verb) (kind : Kind) (items : List Item) → ((i : Item) × IsFirst (IsBad verb kind) i items) ⊎ NoneIs (IsBad verb kind) items
decide_bad verbs.Define kind items = decide (λ (i : Item). bad_by kind (key_of verbs.Define kind i.word) i.value) (GivesBad verbs.Define kind) (λ i. gives_decides verbs.Define kind i) items
decide_bad verbs.Alter kind items = decide (λ (i : Item). bad_by kind (key_of verbs.Alter kind i.word) i.value) (GivesBad verbs.Alter kind) (λ i. gives_decides verbs.Alter kind i) items
decide_bad verbs.Display kind items = decide (λ (i : Item). has_value i.value) HasValue (λ i. value_decides i.value) items
decide_bad verbs.Reset kind items = decide (λ (i : Item). is_none (number_value 0 999999999 i.value)) BadNumber (λ i. none_decides (number_value 0 999999999 i.value)) items
decide_bad verbs.Resolve kind items = decide (λ (i : Item). is_none (choice_value (codes "COMMIT") (codes "BACKOUT") i.value)) BadSettle (λ i. none_decides (choice_value (codes "COMMIT") (codes "BACKOUT") i.value)) items
decide_bad verbs.Delete kind items = decide (λ (i : Item). false) (λ (i : Item). ⊥) (λ i. no_decides) items
decide_bad verbs.Start kind items = decide (λ (i : Item). false) (λ (i : Item). ⊥) (λ i. no_decides) items
decide_bad verbs.Stop kind items = decide (λ (i : Item). false) (λ (i : Item). ⊥) (λ i. no_decides) items
