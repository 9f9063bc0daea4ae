-- The text of a command that gives attributes is read as what it gives.
use Rattle.std.proofs.Common.{ℕ, ◌≡◌, ◌+◌, Bool, true, false, List, [], ◌∷◌, ◌++◌, append_assoc, append-nil, refl, ap, sym, subst, ◌∙◌, arith, inl, inr}
use Rattle.std.specs.Prelude.{Option, Some, None, Ok, if◌then◌else◌, ◌&&◌, ◌||◌, not, codes, drop}
use Rattle.std.specs.List.{list_all}
use Rattle.std.specs.Str.{bytes_eq}
use Rattle.mq_base.specs.Name.{IsName}
use Rattle.mq_text.specs.Quoting.{quoted, doubled}
use Rattle.mq_objects.specs.declared.setting.Setting.{Setting}
use Rattle.mq_objects.specs.declared.command.Subject.{Subject}
use Rattle.mq_objects.specs.declared.command.Command.TheVariants as objects
use Rattle.mq_objects.specs.declared.change.ObjectChange.TheVariants as changes
use Rattle.mq_objects.specs.Attributes.{attributes, manager_attributes}
use Rattle.mq_objects.specs.Defaults.{new_manager}
use Rattle.mq_objects.specs.Settings.{set_all_manager}
use Rattle.mq_law_log.specs.from_sc_apply.Planned.{defined_object}
use Rattle.mq_sc_lex.specs.declared.token.Line.{Line}
use Rattle.mq_sc_lex.specs.declared.token.Token.{Token}
use Rattle.mq_sc_lex.specs.declared.token.TokenKind.{TokenKind}
use Rattle.mq_sc_lex.specs.declared.token.TokenKind.TheVariants as tokens
use Rattle.mq_sc_lex.specs.Commands.{commands_of}
use Rattle.mq_sc_keys.specs.declared.keys.Key.{Key}
use Rattle.mq_sc_keys.specs.declared.keys.Key.TheVariants as words
use Rattle.mq_sc_keys.specs.declared.verbs.Verb.{Verb}
use Rattle.mq_sc_keys.specs.declared.verbs.Verb.TheVariants as verbs
use Rattle.mq_sc_keys.specs.declared.verbs.Noun.{Noun}
use Rattle.mq_sc_keys.specs.declared.verbs.Noun.TheVariants as nouns
use Rattle.mq_sc_keys.specs.declared.attributes.Kind.{Kind}
use Rattle.mq_sc_keys.specs.declared.attributes.Kind.TheVariants as kinds
use Rattle.mq_sc_keys.specs.Keys.{key_text}
use Rattle.mq_sc_keys.specs.Verbs.{object_text, takes}
use Rattle.mq_sc_parse.specs.declared.splitting.Item.{Item}
use Rattle.mq_sc_parse.specs.declared.command.Command.TheVariants as commands
use Rattle.mq_sc_parse.specs.Checks.{has_word}
use Rattle.mq_sc_parse.specs.Splitting.{items_of, items_from, item_at, item_len, value_len, inner_len, is_word_kind, is_open_kind, word_of_kind}
use Rattle.mq_sc_parse.specs.Parsing.{subject_of, parse_of}
use Rattle.mq_sc_grammar.specs.Written.{BeginsApart}
use Rattle.mq_sc_grammar.specs.Spelling.{Clause, AreClauses, kinds_of, IsNamed}
use Rattle.mq_sc_grammar.specs.Commands.{Says, IsKind, AreKnown, AreSingle, AreGiven, IsOnto, HasNeeded, IsCommand, keys_of}
use Rattle.mq_sc_grammar.proofs.Readings.{command_read}
use Rattle.mq_sc_grammar.proofs.Splits.{Spell, Valued, items_read, value_read, three_passed}
use Rattle.mq_law_log.specs.from_spec_log.Texts.{is_plain, gives_all, defined_if, altered_if, meant_in, meant_of, change_in}
use Rattle.mq_law_log.specs.from_record.OperationVariants.{Set as Sets}
use Rattle.mq_law_log.specs.from_law_manager.Facts.{Mem}
use Rattle.mq_law_image.specs.Laid.Bit.{Word, Quote, Open, Close, Gap}
use Rattle.mq_law_image.specs.Laid.{Bit, bit_text, IsValueWell, text_of, kinds_in, AreLaid, IsWell, is_no_end, Written, value_bits, clause_bits, all_bits, clauses_of, settings_of, Ends, AreWritten, CanDefine, alter_bits, define_bits}
use Rattle.mq_law_image.proofs.Laying.{Lined, laid_read, unquoted}
use Rattle.mq_law_image.proofs.Deleting.{whole_append, name_whole, doubled_whole}

-- ---- as it is laid out

pub text_append : (xs ys : List Bit) → text_of (xs ++ ys) ≡ text_of xs ++ text_of ys
text_append [] ys = refl
text_append (b ∷ xs) ys = ap (λ (t : List ℕ). bit_text b ++ t) (text_append xs ys) ∙ sym (append_assoc (bit_text b) (text_of xs) (text_of ys))

apart_all : (ws : List Written) → BeginsApart (text_of (all_bits ws))
apart_all [] = tt
apart_all (w ∷ ws) = refl

laid_clause : (b : Bool) (value : Option (List ℕ)) (key : List ℕ) (rest : List Bit) → IsWell (Word key) → IsValueWell b value → BeginsApart (text_of rest) → AreLaid rest → AreLaid ((Gap ∷ Word key ∷ value_bits b value) ++ rest)
laid_clause b None key rest k v apart laid = (tt, tt, (k, apart, laid))
laid_clause true (Some t) key rest k v apart laid = (tt, tt, (k, refl, (tt, tt, (tt, unquoted, (tt, tt, laid)))))
laid_clause false (Some t) key rest k v apart laid = (tt, tt, (k, refl, (tt, tt, (v, refl, (tt, tt, laid)))))

pub laid_all : (verb : Verb) (kind : Kind) (ws : List Written) → AreWritten verb kind ws → AreLaid (all_bits ws)
laid_all verb kind [] h = tt
laid_all verb kind (w ∷ ws) h = laid_clause w.in_quotes w.clause.value (key_text w.clause.key) (all_bits ws) h.0.key h.0.value (apart_all ws) (laid_all verb kind ws h.1)

pub whole_all : (verb : Verb) (kind : Kind) (ws : List Written) → AreWritten verb kind ws → list_all is_no_end (text_of (all_bits ws)) ≡ true
whole_all verb kind [] h = refl
whole_all verb kind (w ∷ ws) h = ap (list_all is_no_end) (text_append (clause_bits w) (all_bits ws)) ∙ whole_append (text_of (clause_bits w)) (text_of (all_bits ws)) h.0.whole (whole_all verb kind ws h.1)

pub ends_behind : (xs ys : List ℕ) → Ends ys → Ends (xs ++ ys)
ends_behind xs ys e = record { front = xs ++ e.front; last = e.last; is = ap (λ (t : List ℕ). xs ++ t) e.is ∙ sym (append_assoc xs e.front (e.last ∷ [])); unblank = e.unblank; unsigned = e.unsigned }

ends_some : (verb : Verb) (kind : Kind) (w : Written) (ws : List Written) → AreWritten verb kind (w ∷ ws) → Ends (text_of (all_bits (w ∷ ws)))
ends_some verb kind w [] h = subst Ends (sym (text_append (clause_bits w) [] ∙ append-nil (text_of (clause_bits w)))) h.0.ends
ends_some verb kind w (v ∷ vs) h = subst Ends (sym (text_append (clause_bits w) (all_bits (v ∷ vs)))) (ends_behind (text_of (clause_bits w)) (text_of (all_bits (v ∷ vs))) (ends_some verb kind v vs h.1))

pub ends_all : (verb : Verb) (kind : Kind) (head : List ℕ) (ws : List Written) → Ends head → AreWritten verb kind ws → Ends (head ++ text_of (all_bits ws))
ends_all verb kind head [] e h = subst Ends (sym (append-nil head)) e
ends_all verb kind head (w ∷ ws) e h = ends_behind head (text_of (all_bits (w ∷ ws))) (ends_some verb kind w ws h)

-- ---- its clauses

kinds_clause : (b : Bool) (value : Option (List ℕ)) (key : Key) (rest : List Bit) (cs : List Clause) → AreClauses cs (kinds_in rest) → AreClauses (record { key = key; value = value } ∷ cs) (kinds_in ((Gap ∷ Word (key_text key) ∷ value_bits b value) ++ rest))
kinds_clause b None key rest cs h = (tokens.Word (key_text key) ∷ [], kinds_in rest, refl, record { behind = []; value = refl; is = refl }, h)
kinds_clause true (Some t) key rest cs h = (tokens.Word (key_text key) ∷ tokens.Open ∷ tokens.Quoted t ∷ tokens.Close ∷ [], kinds_in rest, refl, record { behind = tokens.Open ∷ tokens.Quoted t ∷ tokens.Close ∷ []; value = (tokens.Quoted t, refl, refl); is = refl }, h)
kinds_clause false (Some t) key rest cs h = (tokens.Word (key_text key) ∷ tokens.Open ∷ tokens.Word t ∷ tokens.Close ∷ [], kinds_in rest, refl, record { behind = tokens.Open ∷ tokens.Word t ∷ tokens.Close ∷ []; value = (tokens.Word t, refl, refl); is = refl }, h)

pub are_clauses : (ws : List Written) → AreClauses (clauses_of ws) (kinds_in (all_bits ws))
are_clauses [] = refl
are_clauses (w ∷ ws) = kinds_clause w.in_quotes w.clause.value w.clause.key (all_bits ws) (clauses_of ws) (are_clauses ws)

pub are_known : (verb : Verb) (kind : Kind) (ws : List Written) → AreWritten verb kind ws → AreKnown verb kind (clauses_of ws)
are_known verb kind [] h = tt
are_known verb kind (w ∷ ws) h = (h.0.known, are_known verb kind ws h.1)

pub are_given : (verb : Verb) (kind : Kind) (ws : List Written) → AreWritten verb kind ws → AreGiven kind (clauses_of ws) (settings_of ws)
are_given verb kind [] h = refl
are_given verb kind (w ∷ ws) h = (settings_of ws, subst (λ g. IsOnto g (settings_of ws) (settings_of (w ∷ ws))) (sym h.0.gives) refl, are_given verb kind ws h.1)

-- ---- ALTER QMGR

alter_means : (ws : List Written) → AreWritten verbs.Alter kinds.Manager ws → AreSingle (clauses_of ws) → (Says words.Force (clauses_of ws) → ⊥)
    → IsCommand (kinds_in (alter_bits ws)) (commands.Objects (objects.AlterManager (record { force = false; settings = settings_of ws })))
alter_means ws h single plain = record {
  verb = verbs.Alter;
  noun = nouns.Manager;
  kind = kinds.Manager;
  verb_word = codes "ALTER";
  object_word = codes "QMGR";
  name = [];
  clauses = clauses_of ws;
  name_part = [];
  clause_part = kinds_in (all_bits ws);
  is_verb = inl refl;
  goes = refl;
  is_object = inl refl;
  is_named = (refl, refl);
  are_clauses = are_clauses ws;
  whole = refl;
  is_kind = refl;
  known = are_known verbs.Alter kinds.Manager ws h;
  single = single;
  means = record { force = false; settings = settings_of ws; gives = are_given verbs.Alter kinds.Manager ws h; forces = plain; is = refl };
}

altered_by : (text : List ℕ) (line : Line) (settings : List Setting) → commands_of text ≡ Ok (line ∷ []) → parse_of line ≡ Ok (commands.Objects (objects.AlterManager (record { force = false; settings = settings })))
    → gives_all settings (manager_attributes new_manager) ≡ true → change_in Sets text ≡ Some (changes.SetManager (set_all_manager settings new_manager))
unfolding change_in
altered_by text line settings e f all = ap (meant_of Sets) e ∙ ap (meant_in Sets (items_of line.tokens)) f ∙ ap (λ (b : Bool). altered_if b (set_all_manager settings new_manager)) all

pub alter_read : (w : Written) (ws : List Written) → AreWritten verbs.Alter kinds.Manager (w ∷ ws) → AreSingle (clauses_of (w ∷ ws)) → (Says words.Force (clauses_of (w ∷ ws)) → ⊥)
    → gives_all (settings_of (w ∷ ws)) (manager_attributes new_manager) ≡ true → change_in Sets (text_of (alter_bits (w ∷ ws))) ≡ Some (changes.SetManager (set_all_manager (settings_of (w ∷ ws)) new_manager))
alter_read w ws h single plain all =
    altered_by (text_of (alter_bits (w ∷ ws))) lined.line (settings_of (w ∷ ws)) lined.is
    (command_read lined.line (commands.Objects (objects.AlterManager (record { force = false; settings = settings_of (w ∷ ws) })))
    (subst (λ (ks : List TokenKind). IsCommand ks (commands.Objects (objects.AlterManager (record { force = false; settings = settings_of (w ∷ ws) })))) (sym lined.kinds) (alter_means (w ∷ ws) h single plain))) all
  where
    ends : Ends (codes "ALTER QMGR" ++ text_of (all_bits (w ∷ ws)))
    ends = ends_behind (codes "ALTER QMGR") (text_of (all_bits (w ∷ ws))) (ends_some verbs.Alter kinds.Manager w ws h)

    lined : Lined (text_of (alter_bits (w ∷ ws))) (kinds_in (alter_bits (w ∷ ws)))
    lined = laid_read (alter_bits (w ∷ ws)) 65 (codes "LTER QMGR" ++ text_of (all_bits (w ∷ ws))) ends.front ends.last (tokens.Word (codes "ALTER")) (tokens.Word (codes "QMGR") ∷ kinds_in (all_bits (w ∷ ws))) refl (λ e. absurd (omega (arith, e))) ends.is ends.unblank ends.unsigned
        (whole_append (codes "ALTER QMGR") (text_of (all_bits (w ∷ ws))) refl (whole_all verbs.Alter kinds.Manager (w ∷ ws) h)) refl
        ((refl, refl), refl, (tt, tt, ((refl, refl), apart_all (w ∷ ws), laid_all verbs.Alter kinds.Manager (w ∷ ws) h)))

-- ---- DEFINE

define_means : (s : Subject) (noun : Noun) (kind : Kind) (name : List ℕ) (ws : List Written) → takes verbs.Define noun ≡ true → IsKind noun (clauses_of ws) kind → subject_of noun name ≡ Some s → IsNamed noun name (tokens.Open ∷ tokens.Quoted name ∷ tokens.Close ∷ [])
    → AreWritten verbs.Define kind ws → AreSingle (clauses_of ws) → HasNeeded kind (clauses_of ws) → (Says words.Replace (clauses_of ws) → ⊥)
    → IsCommand (kinds_in (define_bits (object_text noun) name ws)) (commands.Objects (objects.Define (record { subject = s; replace = false; settings = settings_of ws })))
define_means s noun kind name ws goes is_kind subject named h single needed plain = record {
  verb = verbs.Define;
  noun = noun;
  kind = kind;
  verb_word = codes "DEFINE";
  object_word = object_text noun;
  name = name;
  clauses = clauses_of ws;
  name_part = tokens.Open ∷ tokens.Quoted name ∷ tokens.Close ∷ [];
  clause_part = kinds_in (all_bits ws);
  is_verb = inl refl;
  goes = goes;
  is_object = inl refl;
  is_named = named;
  are_clauses = are_clauses ws;
  whole = refl;
  is_kind = is_kind;
  known = are_known verbs.Define kind ws h;
  single = single;
  means = record { subject = s; replace = false; settings = settings_of ws; named = subject; gives = are_given verbs.Define kind ws h; needed = needed; replaces = plain; is = refl };
}

-- no word of the command is REPLACE or NOREPLACE
none_spelled : (word : List ℕ) (cs : List Clause) (items : List Item) → Spell cs items → ((c : Clause) → Mem c cs → bytes_eq (key_text c.key) word ≡ false) → has_word word items ≡ false
none_spelled word [] [] spell h = refl
none_spelled word [] (i ∷ is) spell h = absurd spell
none_spelled word (c ∷ cs) [] spell h = absurd spell
none_spelled word (c ∷ cs) (i ∷ is) spell h = ap (λ (b : Bool). b || has_word word is) (ap (λ (w : List ℕ). bytes_eq w word) spell.0 ∙ h c (inl refl)) ∙ none_spelled word cs is spell.2 (λ d m. h d (inr m))

item_of_two : (word first second name : List ℕ) (cs : List Clause) (t u : Token) (us : List Token) (ks : List TokenKind) → t.kind ≡ tokens.Word first → u.kind ≡ tokens.Word second → kinds_of us ≡ tokens.Open ∷ tokens.Quoted name ∷ tokens.Close ∷ ks → AreClauses cs ks
    → bytes_eq first word ≡ false → bytes_eq second word ≡ false → ((c : Clause) → Mem c cs → bytes_eq (key_text c.key) word ≡ false) → has_word word (items_of (t ∷ u ∷ us)) ≡ false
unfolding items_of
item_of_two word first second name cs t u us ks is_first is_second is_rest are no_first no_second none =
    ap (λ (is : List Item). has_word word (item_at t (u ∷ us) ∷ is)) (ap (items_from (u ∷ us)) short)
    ∙ ap (λ (b : Bool). b || has_word word (items_from (u ∷ us) 0)) (ap (λ (k : TokenKind). bytes_eq (word_of_kind k) word) is_first ∙ no_first)
    ∙ ap (λ (is : List Item). has_word word (item_at u us ∷ is)) (ap (items_from us) (ap (λ (k : TokenKind). if is_word_kind k then value_len us else 0) is_second ∙ v.long) ∙ three_passed us)
    ∙ ap (λ (b : Bool). b || has_word word (items_from (drop 3 us) 0)) (ap (λ (k : TokenKind). bytes_eq (word_of_kind k) word) is_second ∙ no_second)
    ∙ none_spelled word cs (items_from (drop 3 us) 0) (items_read cs (drop 3 us) (subst (AreClauses cs) (sym v.rest) are)) none
  where
    v : Valued name us ks
    v = value_read name us (tokens.Open ∷ tokens.Quoted name ∷ tokens.Close ∷ []) ks (tokens.Quoted name, refl, refl) is_rest

    short : item_len t (u ∷ us) ≡ 0
    short = ap (λ (k : TokenKind). if is_word_kind k then value_len (u ∷ us) else 0) is_first ∙ ap (λ (k : TokenKind). if is_open_kind k then 1 + inner_len us else 0) is_second

no_word : (word first second name : List ℕ) (cs : List Clause) (ts : List Token) (ks : List TokenKind) → kinds_of ts ≡ tokens.Word first ∷ tokens.Word second ∷ tokens.Open ∷ tokens.Quoted name ∷ tokens.Close ∷ ks → AreClauses cs ks
    → bytes_eq first word ≡ false → bytes_eq second word ≡ false → ((c : Clause) → Mem c cs → bytes_eq (key_text c.key) word ≡ false) → has_word word (items_of ts) ≡ false
no_word word first second name cs [] ks e are a b h = absurd (cc e)
no_word word first second name cs (t ∷ []) ks e are a b h = absurd (let f : t.kind ∷ [] ≡ tokens.Word first ∷ tokens.Word second ∷ tokens.Open ∷ tokens.Quoted name ∷ tokens.Close ∷ ks = e in cc)
no_word word first second name cs (t ∷ u ∷ us) ks e are a b h =
    let f : t.kind ∷ u.kind ∷ kinds_of us ≡ tokens.Word first ∷ tokens.Word second ∷ tokens.Open ∷ tokens.Quoted name ∷ tokens.Close ∷ ks = e in
    let x : t.kind ≡ tokens.Word first = cc in
    let y : u.kind ≡ tokens.Word second = cc in
    let z : kinds_of us ≡ tokens.Open ∷ tokens.Quoted name ∷ tokens.Close ∷ ks = cc in
    item_of_two word first second name cs t u us ks x y z are a b h

key_mem : (key : Key) (cs : List Clause) → Mem key (keys_of cs) → (c : Clause) × Mem c cs × (key ≡ c.key)
key_mem key [] m = absurd m
key_mem key (c ∷ cs) (inl e) = (c, inl refl, e)
key_mem key (c ∷ cs) (inr m) = let k = key_mem key cs m in (k.0, inr k.1, k.2)

defined_by : (text : List ℕ) (line : Line) (s : Subject) (settings : List Setting) → commands_of text ≡ Ok (line ∷ []) → parse_of line ≡ Ok (commands.Objects (objects.Define (record { subject = s; replace = false; settings = settings })))
    → is_plain (items_of line.tokens) ≡ true → gives_all settings (attributes (defined_object s settings)) ≡ true → change_in Sets text ≡ Some (changes.Set (defined_object s settings))
unfolding change_in
defined_by text line s settings e f plain all = ap (meant_of Sets) e ∙ ap (meant_in Sets (items_of line.tokens)) f
    ∙ ap (λ (b : Bool). defined_if (b && gives_all settings (attributes (defined_object s settings))) (defined_object s settings)) plain ∙ ap (λ (b : Bool). defined_if (true && b) (defined_object s settings)) all

pub define_read : (s : Subject) (noun : Noun) (kind : Kind) (width b : ℕ) (bs : List ℕ) (ws : List Written) → IsName width (b ∷ bs) → subject_of noun (b ∷ bs) ≡ Some s → IsNamed noun (b ∷ bs) (tokens.Open ∷ tokens.Quoted (b ∷ bs) ∷ tokens.Close ∷ []) → CanDefine s noun kind ws
    → change_in Sets (text_of (define_bits (object_text noun) (b ∷ bs) ws)) ≡ Some (changes.Set (defined_object s (settings_of ws)))
define_read s noun kind width b bs ws name subject named h =
    defined_by (text_of bits) lined.line s (settings_of ws) lined.is
    (command_read lined.line (commands.Objects (objects.Define (record { subject = s; replace = false; settings = settings_of ws })))
    (subst (λ (ks : List TokenKind). IsCommand ks (commands.Objects (objects.Define (record { subject = s; replace = false; settings = settings_of ws })))) (sym lined.kinds)
    (define_means s noun kind (b ∷ bs) ws h.goes h.is_kind subject named h.written h.single h.needed no_replace)))
    (ap (λ (t : Bool). not t && not (has_word (codes "NOREPLACE") (items_of lined.line.tokens))) (none (codes "REPLACE") h.apart h.replace refl) ∙ ap (λ (t : Bool). true && not t) (none (codes "NOREPLACE") h.noapart h.noreplace refl)) h.all
  where
    bits : List Bit
    bits = define_bits (object_text noun) (b ∷ bs) ws

    head : List ℕ
    head = codes "DEFINE " ++ (object_text noun ++ (40 ∷ (quoted (b ∷ bs) ++ 41 ∷ [])))

    is_head : text_of bits ≡ head ++ text_of (all_bits ws)
    is_head = ap (λ (t : List ℕ). codes "DEFINE " ++ t)
        (ap (λ (t : List ℕ). object_text noun ++ (40 ∷ t)) (sym (append_assoc (quoted (b ∷ bs)) (41 ∷ []) (text_of (all_bits ws)))) ∙ sym (append_assoc (object_text noun) (40 ∷ (quoted (b ∷ bs) ++ 41 ∷ [])) (text_of (all_bits ws))))

    ends_head : Ends head
    ends_head = record {
      front = codes "DEFINE " ++ (object_text noun ++ (40 ∷ quoted (b ∷ bs)));
      last = 41;
      is = ap (λ (t : List ℕ). codes "DEFINE " ++ t) (sym (append_assoc (object_text noun) (40 ∷ quoted (b ∷ bs)) (41 ∷ [])));
      unblank = refl;
      unsigned = refl;
    }

    ends : Ends (text_of bits)
    ends = subst Ends (sym is_head) (ends_all verbs.Define kind head ws ends_head h.written)

    whole_name : list_all is_no_end (quoted (b ∷ bs)) ≡ true
    whole_name = whole_append (doubled (b ∷ bs)) (39 ∷ []) (doubled_whole (b ∷ bs) (name_whole (b ∷ bs) name.bytes)) refl

    whole : list_all is_no_end (text_of bits) ≡ true
    whole = ap (list_all is_no_end) is_head ∙ whole_append head (text_of (all_bits ws))
        (whole_append (codes "DEFINE ") (object_text noun ++ (40 ∷ (quoted (b ∷ bs) ++ 41 ∷ []))) refl (whole_append (object_text noun) (40 ∷ (quoted (b ∷ bs) ++ 41 ∷ [])) h.one_line (whole_append (quoted (b ∷ bs)) (41 ∷ []) whole_name refl)))
        (whole_all verbs.Define kind ws h.written)

    laid : AreLaid bits
    laid = ((refl, refl), refl, (tt, tt, (h.word, refl, (tt, tt, (tt, unquoted, (tt, tt, laid_all verbs.Define kind ws h.written))))))

    lined : Lined (text_of bits) (kinds_in bits)
    lined = laid_read bits 68 (codes "EFINE" ++ (32 ∷ (object_text noun ++ text_of (Open ∷ Quote (b ∷ bs) ∷ Close ∷ all_bits ws)))) ends.front ends.last (tokens.Word (codes "DEFINE")) (tokens.Word (object_text noun) ∷ tokens.Open ∷ tokens.Quoted (b ∷ bs) ∷ tokens.Close ∷ kinds_in (all_bits ws))
        refl (λ e. absurd (omega (arith, e))) ends.is ends.unblank ends.unsigned whole refl laid

    no_replace : Says words.Replace (clauses_of ws) → ⊥
    no_replace m = let k = key_mem words.Replace (clauses_of ws) m in cc (h.replace k.0 k.1, ap (λ (x : Key). bytes_eq (key_text x) (codes "REPLACE")) (sym k.2))

    none : (word : List ℕ) → bytes_eq (object_text noun) word ≡ false → ((c : Clause) → Mem c (clauses_of ws) → bytes_eq (key_text c.key) word ≡ false) → bytes_eq (codes "DEFINE") word ≡ false → has_word word (items_of lined.line.tokens) ≡ false
    none word a c d = no_word word (codes "DEFINE") (object_text noun) (b ∷ bs) (clauses_of ws) lined.line.tokens (kinds_in (all_bits ws)) lined.kinds (are_clauses ws) d a c
