-- What clauses come to, and what a reader makes of them, both ways.
use Rattle.std.proofs.Common.{◌≡◌, ℕ, suc, ◌-◌, Bool, true, false, cond, List, [], ◌∷◌, ◌++◌, length, take, refl, sym, ap, subst, ◌∙◌, inl, inr, slice_get, arith}
use Rattle.std.specs.Prelude.{Option, Some, None, Result, Ok, Err, map, codes}
use Rattle.std.specs.Str.{bytes_eq}
use Rattle.std.proofs.lemmas.Bool.{cond-true, cond-false, eqb-true}
use Rattle.mq_text.specs.declared.numbers.NumberFault.{NumberFault}
use Rattle.mq_text.specs.Numbers.{number_in}
use Rattle.mq_sync.specs.declared.unit.Settle.{Settle}
use Rattle.mq_sync.specs.declared.unit.Settle.TheVariants as settles
use Rattle.mq_objects.specs.declared.setting.Setting.{Setting}
use Rattle.mq_objects.specs.declared.setting.Keyword.{Keyword}
use Rattle.mq_sc_lex.specs.declared.token.Span.{Span}
use Rattle.mq_sc_keys.specs.declared.keys.Key.{Key}
use Rattle.mq_sc_keys.specs.declared.keys.Key.TheVariants as keys
use Rattle.mq_sc_keys.specs.declared.verbs.Verb.{Verb}
use Rattle.mq_sc_keys.specs.declared.verbs.Verb.TheVariants as verbs
use Rattle.mq_sc_keys.specs.declared.attributes.Kind.{Kind}
use Rattle.mq_sc_keys.specs.declared.attributes.Kind.TheVariants as kinds
use Rattle.mq_sc_keys.specs.declared.value.Value.{Value}
use Rattle.mq_sc_keys.specs.declared.value.Value.TheVariants as values
use Rattle.mq_sc_keys.specs.declared.giving.Given.{Given}
use Rattle.mq_sc_keys.specs.declared.giving.Given.TheVariants as given
use Rattle.mq_sc_keys.specs.Keys.{key_text}
use Rattle.mq_sc_keys.specs.Attributes.{key_of}
use Rattle.mq_sc_keys.specs.Values.{given_of, number_or_none, number_value, choice_value}
use Rattle.mq_sc_parse.specs.declared.splitting.Item.{Item}
use Rattle.mq_sc_parse.specs.declared.asking.Asked.{Asked}
use Rattle.mq_sc_parse.specs.declared.asking.Asked.TheVariants as asked
use Rattle.mq_sc_parse.specs.declared.fault.ScFault.{ScFault}
use Rattle.mq_sc_parse.specs.declared.fault.ScFault.TheVariants as faults
use Rattle.mq_sc_parse.specs.declared.naming.Pattern.{Pattern}
use Rattle.mq_sc_parse.specs.Asking.{given_by, given_item, put_given, settings_of, asked_key, asked_by, asked_item, put_asked, asked_of}
use Rattle.mq_sc_keys.specs.Shown.{keyword_of}
use Rattle.mq_sc_parse.specs.Checks.{has_word}
use Rattle.mq_sc_parse.specs.Parsing.{some_or, is_star, pattern_of, asked_or_all, number_of, settle_as, settle_of}
use Rattle.mq_sc_grammar.specs.Spelling.{Clause}
use Rattle.mq_sc_grammar.specs.Commands.{Mem, keys_of, Says, Has, AreKnown, AreSingle, value_of, IsOnto, AreGiven, AreBare, AreAsked, IsPattern, IsNumber, IsSettle}
use Rattle.mq_sc_grammar.proofs.Words.{bytes_same, same_bytes}
use Rattle.mq_sc_grammar.proofs.Splits.{Spell, AreWhole}
use Rattle.mq_sc_grammar.proofs.Checked.{AllKnown, known_at, first_value, once, says_decides}

-- ---- settings

abbrev pub ok_settings : List Setting → Result (List Setting) ScFault
ok_settings ss = Ok ss

given_same : (verb : Verb) (kind : Kind) (c : Clause) (cs : List Clause) (i : Item) → AreKnown verb kind (c ∷ cs) → i.word ≡ key_text c.key → i.value ≡ value_of c.value → given_item verb kind i ≡ given_of kind c.key (value_of c.value)
given_same verb kind c cs i known w v = ap (λ (o : Option Key). given_by kind o i.value) (known_at verb kind c cs i known w) ∙ ap (given_of kind c.key) v

put_read : (span : Span) (g : Given) (later settings : List Setting) → IsOnto g later settings → put_given span g (ok_settings later) ≡ ok_settings settings
put_read span given.Bad later settings h = absurd h
put_read span given.Nothing later settings h = ap ok_settings (sym h)
put_read span (given.Setting s) later settings h = ap ok_settings (sym h)

pub settings_read : (verb : Verb) (kind : Kind) (cs : List Clause) (items : List Item) (settings : List Setting) → Spell cs items → AreKnown verb kind cs → AreGiven kind cs settings → settings_of verb kind items ≡ ok_settings settings
settings_read verb kind [] [] settings s known h = ap ok_settings (sym h)
settings_read verb kind [] (i ∷ is) settings s known h = absurd s
settings_read verb kind (c ∷ cs) [] settings s known h = absurd s
settings_read verb kind (c ∷ cs) (i ∷ is) settings s known (later, onto, more) =
    ap (λ (g : Given). put_given i.span g (settings_of verb kind is)) (given_same verb kind c cs i known s.0 s.1)
    ∙ ap (put_given i.span (given_of kind c.key (value_of c.value))) (settings_read verb kind cs is later s.2 known.1 more)
    ∙ put_read i.span (given_of kind c.key (value_of c.value)) later settings onto

record Put (g : Given) (r : Result (List Setting) ScFault) (settings : List Setting) : Type 0 where
  pub later : List Setting
  pub was : r ≡ ok_settings later
  pub onto : IsOnto g later settings

put_found : (span : Span) (g : Given) (r : Result (List Setting) ScFault) (settings : List Setting) → put_given span g r ≡ ok_settings settings → Put g r settings
put_found span given.Bad r settings e = absurd cc
put_found span given.Nothing (Ok later) settings e = record { later = later; was = refl; onto = cc }
put_found span given.Nothing (Err f) settings e = absurd cc
put_found span (given.Setting s) (Ok later) settings e = record { later = later; was = refl; onto = cc }
put_found span (given.Setting s) (Err f) settings e = absurd cc

pub settings_found : (verb : Verb) (kind : Kind) (cs : List Clause) (items : List Item) (settings : List Setting) → Spell cs items → AreKnown verb kind cs → settings_of verb kind items ≡ ok_settings settings → AreGiven kind cs settings
settings_found verb kind [] [] settings s known e = cc
settings_found verb kind [] (i ∷ is) settings s known e = absurd s
settings_found verb kind (c ∷ cs) [] settings s known e = absurd s
settings_found verb kind (c ∷ cs) (i ∷ is) settings s known e =
    let p = put_found i.span (given_item verb kind i) (settings_of verb kind is) settings e in
    (p.later, subst (λ (g : Given). IsOnto g p.later settings) (given_same verb kind c cs i known s.0 s.1) p.onto, settings_found verb kind cs is p.later s.2 known.1 p.was)

-- ---- values that are one in brackets or none

malformed_bad : (kind : Kind) (key : Key) → given_of kind key values.Malformed ≡ given.Bad
malformed_bad kinds.Local keys.MaxMsgL = refl
malformed_bad _ keys.MaxMsgL = refl
malformed_bad kind keys.DefPrty = refl
malformed_bad kind _ = refl

not_bad : (verb : Verb) (kind : Kind) (i : Item) (key : Key) → key_of verb kind i.word ≡ Some key → (given_item verb kind i ≡ given.Bad → ⊥) → i.value ≡ values.Malformed → ⊥
not_bad verb kind i key e never v = never (ap (λ (o : Option Key). given_by kind o i.value) e ∙ ap (given_of kind key) v ∙ malformed_bad kind key)

put_good : (span : Span) (g : Given) (r : Result (List Setting) ScFault) (settings : List Setting) → put_given span g r ≡ ok_settings settings → g ≡ given.Bad → ⊥
put_good span g r settings e bad = absurd (let f : put_given span given.Bad r ≡ ok_settings settings = ap (λ (x : Given). put_given span x r) (sym bad) ∙ e in cc)

pub given_whole : (verb : Verb) (kind : Kind) (items : List Item) (settings : List Setting) → AllKnown verb kind items → settings_of verb kind items ≡ ok_settings settings → AreWhole verb kind items
given_whole verb kind [] settings known e = tt
given_whole verb kind (i ∷ is) settings known e =
    let p = put_found i.span (given_item verb kind i) (settings_of verb kind is) settings e in
    ((known.0.0, known.0.1, not_bad verb kind i known.0.0 known.0.1 (put_good i.span (given_item verb kind i) (settings_of verb kind is) settings e)), given_whole verb kind is p.later known.1 p.was)

-- ---- what DISPLAY asks

abbrev pub ok_keywords : List Keyword → Result (List Keyword) ScFault
ok_keywords ks = Ok ks

abbrev put_key : Asked → List Keyword → List Keyword
put_key asked.Bad rest = rest
put_key asked.Nothing rest = rest
put_key (asked.Keyword k) rest = k ∷ rest

-- the keywords of clauses in order, but ALL
abbrev pub keywords_of : List Clause → List Keyword
keywords_of [] = []
keywords_of (c ∷ cs) = put_key (asked_key c.key) (keywords_of cs)

asked_other : (key : Key) → (key ≡ keys.All → ⊥) → asked_key key ≡ asked.Keyword (keyword_of key)
asked_other keys.All never = absurd (never refl)
asked_other _ never = refl

asked_well : (span : Span) (key : Key) (rest : List Keyword) → put_asked span (asked_key key) (ok_keywords rest) ≡ ok_keywords (put_key (asked_key key) rest)
asked_well span keys.All rest = refl
asked_well span _ rest = refl

asked_same : (kind : Kind) (c : Clause) (cs : List Clause) (i : Item) → AreKnown verbs.Display kind (c ∷ cs) → i.word ≡ key_text c.key → i.value ≡ values.Absent → asked_item verbs.Display kind i ≡ asked_key c.key
asked_same kind c cs i known w v = ap (λ (o : Option Key). asked_by o i.value) (known_at verbs.Display kind c cs i known w) ∙ ap (asked_by (Some c.key)) v

pub bare_read : (kind : Kind) (cs : List Clause) (items : List Item) → Spell cs items → AreKnown verbs.Display kind cs → AreBare cs → asked_of verbs.Display kind items ≡ ok_keywords (keywords_of cs)
bare_read kind [] [] s known bare = refl
bare_read kind [] (i ∷ is) s known bare = absurd s
bare_read kind (c ∷ cs) [] s known bare = absurd s
bare_read kind (c ∷ cs) (i ∷ is) s known bare =
    ap (λ (a : Asked). put_asked i.span a (asked_of verbs.Display kind is)) (asked_same kind c cs i known s.0 (s.1 ∙ ap value_of bare.0))
    ∙ ap (put_asked i.span (asked_key c.key)) (bare_read kind cs is s.2 known.1 bare.1)
    ∙ asked_well i.span c.key (keywords_of cs)

record PutAsked (a : Asked) (r : Result (List Keyword) ScFault) : Type 0 where
  pub good : a ≡ asked.Bad → ⊥
  pub later : List Keyword
  pub was : r ≡ ok_keywords later

asked_found : (span : Span) (a : Asked) (r : Result (List Keyword) ScFault) (ks : List Keyword) → put_asked span a r ≡ ok_keywords ks → PutAsked a r
asked_found span asked.Bad r ks e = absurd cc
asked_found span asked.Nothing (Ok later) ks e = record { good = λ h. absurd cc; later = later; was = refl }
asked_found span asked.Nothing (Err f) ks e = absurd cc
asked_found span (asked.Keyword k) (Ok later) ks e = record { good = λ h. absurd cc; later = later; was = refl }
asked_found span (asked.Keyword k) (Err f) ks e = absurd cc

-- a keyword that is asked well stands alone
alone_by : (o : Option Key) (v : Value) → (asked_by o v ≡ asked.Bad → ⊥) → v ≡ values.Absent
alone_by None v never = absurd (never refl)
alone_by (Some key) values.Absent never = refl
alone_by (Some key) (values.Text text) never = absurd (never refl)
alone_by (Some key) values.Malformed never = absurd (never refl)

absent_none : (v : Option (List ℕ)) → value_of v ≡ values.Absent → v ≡ None
absent_none None e = refl
absent_none (Some text) e = absurd cc

pub bare_found : (kind : Kind) (cs : List Clause) (items : List Item) (ks : List Keyword) → Spell cs items → asked_of verbs.Display kind items ≡ ok_keywords ks → AreBare cs
bare_found kind [] items ks s e = tt
bare_found kind (c ∷ cs) [] ks s e = absurd s
bare_found kind (c ∷ cs) (i ∷ is) ks s e =
    let p = asked_found i.span (asked_item verbs.Display kind i) (asked_of verbs.Display kind is) ks e in
    (absent_none c.value (sym s.1 ∙ alone_by (key_of verbs.Display kind i.word) i.value p.good), bare_found kind cs is p.later s.2 p.was)

pub asked_whole : (kind : Kind) (items : List Item) (ks : List Keyword) → AllKnown verbs.Display kind items → asked_of verbs.Display kind items ≡ ok_keywords ks → AreWhole verbs.Display kind items
asked_whole kind [] ks known e = tt
asked_whole kind (i ∷ is) ks known e =
    let p = asked_found i.span (asked_item verbs.Display kind i) (asked_of verbs.Display kind is) ks e in
    let absent = alone_by (key_of verbs.Display kind i.word) i.value p.good in
    ((known.0.0, known.0.1, λ v. absurd (let f : values.Absent ≡ values.Malformed = sym absent ∙ v in cc)), asked_whole kind is p.later known.1 p.was)

keywords_all : (cs : List Clause) → (Says keys.All cs → ⊥) → keywords_of cs ≡ map keyword_of (keys_of cs)
keywords_all [] never = refl
keywords_all (c ∷ cs) never = ap (λ (a : Asked). put_key a (keywords_of cs)) (asked_other c.key (λ e. never (inl (sym e)))) ∙ ap (λ (l : List Keyword). keyword_of c.key ∷ l) (keywords_all cs (λ h. never (inr h)))

no_says : (key : Key) (cs : List Clause) (items : List Item) → Spell cs items → (Says key cs → ⊥) → (b : Bool) → has_word (key_text key) items ≡ b → b ≡ false
no_says key cs items s never true e = absurd (never ((says_decides key cs items s).0 e))
no_says key cs items s never false e = refl

pub asks_read : (cs : List Clause) (items : List Item) (ks : List Keyword) → Spell cs items → AreAsked cs ks → asked_or_all items (keywords_of cs) ≡ ks
asks_read cs items ks s (inl h) = cond-true (has_word (codes "ALL") items) [] (keywords_of cs) ((says_decides keys.All cs items s).1 h.0) ∙ sym h.1
asks_read cs items ks s (inr h) = cond-false (has_word (codes "ALL") items) [] (keywords_of cs) (no_says keys.All cs items s h.0 (has_word (codes "ALL") items) refl) ∙ keywords_all cs h.0 ∙ sym h.1

asks_by : (cs : List Clause) (items : List Item) → Spell cs items → (b : Bool) → has_word (codes "ALL") items ≡ b → AreAsked cs (cond b [] (keywords_of cs))
asks_by cs items s true e = inl ((says_decides keys.All cs items s).0 e, refl)
asks_by cs items s false e =
    let never : Says keys.All cs → ⊥ = λ h. absurd (let f : true ≡ false = sym ((says_decides keys.All cs items s).1 h) ∙ e in cc) in
    inr (never, keywords_all cs never)

pub asks_found : (cs : List Clause) (items : List Item) → Spell cs items → AreAsked cs (asked_or_all items (keywords_of cs))
asks_found cs items s = asks_by cs items s (has_word (codes "ALL") items) refl

-- ---- a name or the beginning of one

last_star : (front : List ℕ) → slice_get (front ++ 42 ∷ []) (length (front ++ 42 ∷ []) - 1) ≡ Some 42
last_star [] = refl
last_star (b ∷ []) = refl
last_star (b ∷ d ∷ front) =
    let more = last_star (d ∷ front) in
    let k : length (b ∷ d ∷ (front ++ 42 ∷ [])) - 1 ≡ suc (length (d ∷ (front ++ 42 ∷ [])) - 1) = omega arith in
    ap (slice_get (b ∷ d ∷ (front ++ 42 ∷ []))) k ∙ more

front_star : (front : List ℕ) → take (length (front ++ 42 ∷ []) - 1) (front ++ 42 ∷ []) ≡ front
front_star [] = refl
front_star (b ∷ []) = refl
front_star (b ∷ d ∷ front) =
    let more = front_star (d ∷ front) in
    let k : length (b ∷ d ∷ (front ++ 42 ∷ [])) - 1 ≡ suc (length (d ∷ (front ++ 42 ∷ [])) - 1) = omega arith in
    ap (λ (n : ℕ). take n (b ∷ d ∷ (front ++ 42 ∷ []))) k ∙ ap (λ (l : List ℕ). b ∷ l) more

-- a text whose last byte is a star
star_found : (text : List ℕ) → is_star (slice_get text (length text - 1)) ≡ true → text ≡ take (length text - 1) text ++ 42 ∷ []
star_found [] e = absurd cc
star_found (b ∷ []) e = ap (λ (x : ℕ). x ∷ []) (eqb-true b 42 e)
star_found (b ∷ d ∷ text) e =
    let k : length (b ∷ d ∷ text) - 1 ≡ suc (length (d ∷ text) - 1) = omega arith in
    let last : is_star (slice_get (d ∷ text) (length (d ∷ text) - 1)) ≡ true = ap (λ (n : ℕ). is_star (slice_get (b ∷ d ∷ text) n)) (sym k) ∙ e in
    ap (λ (l : List ℕ). b ∷ l) (star_found (d ∷ text) last) ∙ ap (λ (n : ℕ). take n (b ∷ d ∷ text) ++ 42 ∷ []) (sym k)

abbrev begins_as : List ℕ → Pattern
begins_as text = record { text = text; any_end = true }

abbrev whole_as : List ℕ → Pattern
whole_as text = record { text = text; any_end = false }

abbrev ends_so : List ℕ → Bool
ends_so text = is_star (slice_get text (length text - 1))

starless : (name : List ℕ) → ((front : List ℕ) → name ≡ front ++ 42 ∷ [] → ⊥) → (b : Bool) → ends_so name ≡ b → b ≡ false
starless name never true e = absurd (never (take (length name - 1) name) (star_found name e))
starless name never false e = refl

pub pattern_read : (name text : List ℕ) (any_end : Bool) → IsPattern name text any_end → pattern_of name ≡ record { text = text; any_end = any_end }
pattern_read name text true h =
    ap pattern_of h ∙ cond-true (ends_so (text ++ 42 ∷ [])) (begins_as (take (length (text ++ 42 ∷ []) - 1) (text ++ 42 ∷ []))) (whole_as (text ++ 42 ∷ [])) (ap is_star (last_star text)) ∙ ap begins_as (front_star text)
pattern_read name text false h =
    cond-false (ends_so name) (begins_as (take (length name - 1) name)) (whole_as name) (starless name h.1 (ends_so name) refl) ∙ ap whole_as h.0

pattern_by : (name : List ℕ) (b : Bool) → ends_so name ≡ b → IsPattern name (cond b (begins_as (take (length name - 1) name)) (whole_as name)).text (cond b (begins_as (take (length name - 1) name)) (whole_as name)).any_end
pattern_by name true e = star_found name e
pattern_by name false e = (refl, λ front h. absurd (let f : true ≡ false = sym (ap is_star (last_star front)) ∙ ap ends_so (sym h) ∙ e in cc))

pub pattern_found : (name : List ℕ) → IsPattern name (pattern_of name).text (pattern_of name).any_end
pattern_found name = pattern_by name (ends_so name) refl

-- ---- SEQNUM and ACTION

abbrev ok_number : ℕ → Result ℕ ScFault
ok_number n = Ok n

some_then : {A : Type 0} (fault : ScFault) (o : Option A) (x : A) (y : Result A ScFault) → y ≡ Ok x → some_or fault o ≡ y → o ≡ Some x
some_then fault None x y e h = absurd (let f : some_or fault None ≡ Ok x = h ∙ e in cc)
some_then fault (Some z) x y e h = let f : some_or fault (Some z) ≡ Ok x = h ∙ e in cc

number_some : (r : Result ℕ NumberFault) (n : ℕ) → number_or_none r ≡ Some n → r ≡ Ok n
number_some (Ok m) n e = cc
number_some (Err f) n e = absurd cc

-- the first clause of the command, where each has one keyword
only_first : (key : Key) (text : List ℕ) (c : Clause) (cs : List Clause) → c.key ≡ key → AreSingle (c ∷ cs) → Has key text (c ∷ cs) → c.value ≡ Some text
only_first key text c cs is single h =
    let there : bytes_eq (key_text c.key) (key_text key) ≡ true = same_bytes (key_text c.key) (key_text key) (ap key_text is) in
    let v : Some c.value ≡ Some (Some text) = sym (cond-true (bytes_eq (key_text c.key) (key_text key)) (Some c.value) (first_value (key_text key) cs) there) ∙ once key text (c ∷ cs) single h in
    cc

is_this : (key : Key) (value : Option (List ℕ)) (c : Clause) (text : List ℕ) → c.key ≡ key → c.value ≡ Some text → record { key = key; value = Some text } ≡ c
is_this key value c text k v = ap (λ (x : Key). record { key = x; value = Some text }) (sym k) ∙ ap (λ (x : Option (List ℕ)). record { key = c.key; value = x }) (sym v)

pub one_of_one : (key only : Key) → Mem key (only ∷ []) → key ≡ only
one_of_one key only (inl e) = e
one_of_one key only (inr h) = absurd h

pub number_read : (kind : Kind) (cs : List Clause) (items : List Item) (n : ℕ) → Spell cs items → AreKnown verbs.Reset kind cs → AreSingle cs → IsNumber cs n → number_of items ≡ ok_number n
number_read kind [] [] n s known single (inl h) = ap ok_number (sym h.1)
number_read kind [] [] n s known single (inr h) = absurd h.1
number_read kind [] (i ∷ is) n s known single h = absurd s
number_read kind (c ∷ cs) [] n s known single h = absurd s
number_read kind (c ∷ cs) (i ∷ is) n s known single (inl h) = absurd (h.0 (inl (sym (one_of_one c.key keys.SeqNum known.0))))
number_read kind (c ∷ cs) (i ∷ is) n s known single (inr h) =
    let v = only_first keys.SeqNum h.0 c cs (one_of_one c.key keys.SeqNum known.0) single h.1 in
    let value : i.value ≡ values.Text h.0 = s.1 ∙ ap value_of v in
    ap (λ (x : Value). some_or (faults.BadValue i.span) (number_value 0 999999999 x)) value ∙ ap (λ (r : Result ℕ NumberFault). some_or (faults.BadValue i.span) (number_or_none r)) h.2

number_given : (text : Option (List ℕ)) (n : ℕ) → number_value 0 999999999 (value_of text) ≡ Some n → (t : List ℕ) × (text ≡ Some t) × (number_in 0 999999999 t ≡ Ok n)
number_given None n e = absurd cc
number_given (Some t) n e = (t, refl, number_some (number_in 0 999999999 t) n e)

pub number_found : (kind : Kind) (cs : List Clause) (items : List Item) (n : ℕ) → Spell cs items → AreKnown verbs.Reset kind cs → number_of items ≡ ok_number n → IsNumber cs n
number_found kind [] [] n s known e = inl (λ h. h, cc)
number_found kind [] (i ∷ is) n s known e = absurd s
number_found kind (c ∷ cs) [] n s known e = absurd s
number_found kind (c ∷ cs) (i ∷ is) n s known e =
    let o = some_then (faults.BadValue i.span) (number_value 0 999999999 i.value) n (ok_number n) refl e in
    let g = number_given c.value n (ap (number_value 0 999999999) (sym s.1) ∙ o) in
    inr (g.0, inl (is_this keys.SeqNum c.value c g.0 (one_of_one c.key keys.SeqNum known.0) g.1), g.2)

abbrev ok_settle : Settle → Result Settle ScFault
ok_settle x = Ok x

abbrev settle_text : Settle → List ℕ
settle_text settles.Commit = codes "COMMIT"
settle_text settles.Backout = codes "BACKOUT"

abbrev settle_value : Value → Option Settle
settle_value v = settle_as (choice_value (codes "COMMIT") (codes "BACKOUT") v)

settle_in : (cs : List Clause) (settle : Settle) → IsSettle cs settle → Has keys.Action (settle_text settle) cs
settle_in cs settles.Commit h = h
settle_in cs settles.Backout h = h

in_settle : (cs : List Clause) (settle : Settle) → Has keys.Action (settle_text settle) cs → IsSettle cs settle
in_settle cs settles.Commit h = h
in_settle cs settles.Backout h = h

settle_at : (settle : Settle) → settle_value (values.Text (settle_text settle)) ≡ Some settle
settle_at settles.Commit = refl
settle_at settles.Backout = refl

pub settle_read : (kind : Kind) (cs : List Clause) (items : List Item) (last : Span) (settle : Settle) → Spell cs items → AreKnown verbs.Resolve kind cs → AreSingle cs → IsSettle cs settle → settle_of items last ≡ ok_settle settle
settle_read kind [] [] last settle s known single h = absurd (settle_in [] settle h)
settle_read kind [] (i ∷ is) last settle s known single h = absurd s
settle_read kind (c ∷ cs) [] last settle s known single h = absurd s
settle_read kind (c ∷ cs) (i ∷ is) last settle s known single h =
    let v = only_first keys.Action (settle_text settle) c cs (one_of_one c.key keys.Action known.0) single (settle_in (c ∷ cs) settle h) in
    let value : i.value ≡ values.Text (settle_text settle) = s.1 ∙ ap value_of v in
    ap (λ (x : Value). some_or (faults.BadValue i.span) (settle_value x)) value ∙ ap (some_or (faults.BadValue i.span)) (settle_at settle)

settle_words : (t : List ℕ) (settle : Settle) (b d : Bool) → bytes_eq t (codes "COMMIT") ≡ b → bytes_eq t (codes "BACKOUT") ≡ d → settle_as (cond b (Some true) (cond d (Some false) None)) ≡ Some settle → t ≡ settle_text settle
settle_words t settle true d p q e =
    let same : settles.Commit ≡ settle = cc in
    bytes_same t (codes "COMMIT") p ∙ ap settle_text same
settle_words t settle false true p q e =
    let same : settles.Backout ≡ settle = cc in
    bytes_same t (codes "BACKOUT") q ∙ ap settle_text same
settle_words t settle false false p q e = absurd cc

settle_given : (value : Option (List ℕ)) (settle : Settle) → settle_value (value_of value) ≡ Some settle → value ≡ Some (settle_text settle)
settle_given None settle e = absurd cc
settle_given (Some t) settle e = ap (λ (x : List ℕ). Some x) (settle_words t settle (bytes_eq t (codes "COMMIT")) (bytes_eq t (codes "BACKOUT")) refl refl e)

pub settle_found : (kind : Kind) (cs : List Clause) (items : List Item) (last : Span) (settle : Settle) → Spell cs items → AreKnown verbs.Resolve kind cs → settle_of items last ≡ ok_settle settle → IsSettle cs settle
settle_found kind [] [] last settle s known e = absurd cc
settle_found kind [] (i ∷ is) last settle s known e = absurd s
settle_found kind (c ∷ cs) [] last settle s known e = absurd s
settle_found kind (c ∷ cs) (i ∷ is) last settle s known e =
    let o = some_then (faults.BadValue i.span) (settle_value i.value) settle (ok_settle settle) refl e in
    let v = settle_given c.value settle (ap settle_value (sym s.1) ∙ o) in
    in_settle (c ∷ cs) settle (inl (is_this keys.Action c.value c (settle_text settle) (one_of_one c.key keys.Action known.0) v))
