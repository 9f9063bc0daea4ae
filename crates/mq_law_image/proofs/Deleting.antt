-- The text of a DELETE is read as that change.
use Rattle.std.proofs.Common.{ℕ, ◌≡◌, ◌≤◌, Bool, true, false, List, [], ◌∷◌, ◌++◌, length, refl, ap, sym, subst, ◌∙◌, arith, inl}
use Rattle.std.specs.Prelude.{Some, None, Ok, Err, if◌then◌else◌, ◌==◌, ◌&&◌, not, nat_lt, codes, position}
use Rattle.std.specs.List.{list_all, position_or_len}
use Rattle.std.specs.Option.{option_map}
use Rattle.std.proofs.lemmas.Bool.Decides.{nat_tests}
use Rattle.mq_base.specs.declared.fault.NameFault.TheVariants.{TooLong}
use Rattle.mq_base.specs.Name.{IsName, is_name_byte, name_of, name_or_bad}
use Rattle.mq_text.specs.Quoting as quoting
use Rattle.mq_objects.specs.Attributes as attributes
use Rattle.mq_objects.specs.declared.change.ObjectChange.TheVariants as changes
use Rattle.mq_objects.specs.declared.command.Subject.{Subject}
use Rattle.mq_objects.specs.declared.command.Subject.TheVariants as subjects
use Rattle.mq_objects.specs.declared.command.Command.TheVariants as objects
use Rattle.mq_objects.specs.Names.{subject_name}
use Rattle.mq_sc_lex.specs.declared.token.Line.{Line}
use Rattle.mq_sc_lex.specs.declared.token.TokenKind.{TokenKind}
use Rattle.mq_sc_lex.specs.declared.token.TokenKind.TheVariants as tokens
use Rattle.mq_sc_lex.specs.Commands.{commands_of}
use Rattle.mq_sc_keys.specs.declared.verbs.Verb.TheVariants as verbs
use Rattle.mq_sc_keys.specs.declared.verbs.Noun.{Noun}
use Rattle.mq_sc_keys.specs.declared.verbs.Noun.TheVariants as nouns
use Rattle.mq_sc_keys.specs.declared.attributes.Kind.{Kind}
use Rattle.mq_sc_keys.specs.declared.attributes.Kind.TheVariants as kinds
use Rattle.mq_sc_keys.specs.Verbs.{object_text, takes}
use Rattle.mq_sc_keys.specs.Values.{are_blanks, name_or_none}
use Rattle.mq_sc_parse.specs.declared.command.Command.TheVariants as commands
use Rattle.mq_sc_parse.specs.Parsing.{subject_of, parse_of}
use Rattle.mq_sc_parse.specs.Splitting.{items_of}
use Rattle.mq_sc_grammar.specs.Spelling.{IsNamed}
use Rattle.mq_sc_grammar.specs.Commands.{IsKind, IsCommand}
use Rattle.mq_sc_grammar.proofs.Readings.{command_read}
use Rattle.mq_law_log.specs.from_spec_log.Texts.{meant_in, meant_of, change_in}
use Rattle.mq_law_log.specs.from_record.OperationVariants.{Delete as Deletes}
use Rattle.mq_law_log.proofs.from_law_manager.Lists.{bool_case}
use Rattle.mq_law_image.specs.Laid.Bit.{Word, Quote, Open, Close, Gap}
use Rattle.mq_law_image.specs.Laid.{Bit, text_of, kinds_in, AreLaid, IsSubject, is_no_end}
use Rattle.mq_law_image.proofs.Members.{both}
use Rattle.mq_law_image.proofs.Laying.{Lined, laid_read, unquoted}

-- ---- names

pub none_bad : (text : List ℕ) → list_all is_name_byte text ≡ true → position_or_len (λ b. not (is_name_byte b)) text ≡ length text
none_bad [] e = refl
none_bad (b ∷ bs) e = let h = both (is_name_byte b) (list_all is_name_byte bs) e in rw h.0 (omega (arith, none_bad bs h.1))

pub name_read : (width b : ℕ) (bs : List ℕ) → IsName width (b ∷ bs) → name_of width (b ∷ bs) ≡ Ok (b ∷ bs)
name_read width b bs h = ap (λ (t : Bool). if t then Err TooLong else name_or_bad (b ∷ bs) (position (λ c. not (is_name_byte c)) (b ∷ bs))) (short width (length (b ∷ bs)) h.fits) ∙ ap (name_or_bad (b ∷ bs)) none
  where
    short : (w n : ℕ) → n ≤ w → nat_lt w n ≡ false
    short w n le = grind (arith, nat_tests)

    none : position (λ c. not (is_name_byte c)) (b ∷ bs) ≡ None
    none = let past = none_bad (b ∷ bs) h.bytes in grind (arith, nat_tests)

-- no byte of a name is a blank, a quote or a line's end
pub name_byte : (b : ℕ) → is_name_byte b ≡ true → ((b == 39) ≡ false) × ((b == 10) ≡ false) × ((b == 32) ≡ false)
name_byte b e = (quote b e, end b e, blank b e)
  where
    quote : (b : ℕ) → is_name_byte b ≡ true → (b == 39) ≡ false
    quote b e = grind (arith, nat_tests)

    end : (b : ℕ) → is_name_byte b ≡ true → (b == 10) ≡ false
    end b e = grind (arith, nat_tests)

    blank : (b : ℕ) → is_name_byte b ≡ true → (b == 32) ≡ false
    blank b e = grind (arith, nat_tests)

pub name_unblank : (width b : ℕ) (bs : List ℕ) → IsName width (b ∷ bs) → are_blanks (b ∷ bs) ≡ false
name_unblank width b bs h = ap (λ (t : Bool). t && list_all (λ c. c == 32) bs) ((name_byte b (both (is_name_byte b) (list_all is_name_byte bs) h.bytes).0).2)

-- ---- texts in quotes

pub doubled_same : (text : List ℕ) → attributes.doubled text ≡ quoting.doubled text
doubled_same [] = refl
doubled_same (b ∷ bs) = ap (λ (ys : List ℕ). if b == 39 then 39 ∷ 39 ∷ ys else b ∷ ys) (doubled_same bs)

pub doubled_whole : (text : List ℕ) → list_all is_no_end text ≡ true → list_all is_no_end (quoting.doubled text) ≡ true
doubled_whole [] e = refl
doubled_whole (b ∷ bs) e =
    let h = both (is_no_end b) (list_all is_no_end bs) e in
    bool_case (b == 39) (λ t. list_all is_no_end (if t then 39 ∷ 39 ∷ quoting.doubled bs else b ∷ quoting.doubled bs) ≡ true)
    (λ z. doubled_whole bs h.1) (λ z. ap (λ (t : Bool). t && list_all is_no_end (quoting.doubled bs)) h.0 ∙ doubled_whole bs h.1)

pub whole_append : (xs ys : List ℕ) → list_all is_no_end xs ≡ true → list_all is_no_end ys ≡ true → list_all is_no_end (xs ++ ys) ≡ true
whole_append [] ys e f = f
whole_append (x ∷ xs) ys e f = let h = both (is_no_end x) (list_all is_no_end xs) e in ap (λ (t : Bool). t && list_all is_no_end (xs ++ ys)) h.0 ∙ whole_append xs ys h.1 f

pub name_whole : (text : List ℕ) → list_all is_name_byte text ≡ true → list_all is_no_end text ≡ true
name_whole [] e = refl
name_whole (b ∷ bs) e = let h = both (is_name_byte b) (list_all is_name_byte bs) e in ap (λ (t : Bool). not t && list_all is_no_end bs) ((name_byte b h.0).1) ∙ name_whole bs h.1

-- ---- the command

abbrev delete_bits : List ℕ → List ℕ → List Bit
delete_bits word name = Word (codes "DELETE") ∷ Gap ∷ Word word ∷ Open ∷ Quote name ∷ Close ∷ []

record CanDelete (s : Subject) (noun : Noun) (kind : Kind) (word : List ℕ) : Type 0 where
  pub text : attributes.delete_text s (subject_name s) ≡ text_of (delete_bits word (subject_name s))
  pub lined : Lined (text_of (delete_bits word (subject_name s))) (kinds_in (delete_bits word (subject_name s)))
  pub means : IsCommand (kinds_in (delete_bits word (subject_name s))) (commands.Objects (objects.Delete (record { subject = s })))

tail_whole : (name : List ℕ) → list_all is_name_byte name ≡ true → list_all is_no_end ((quoting.doubled name ++ 39 ∷ []) ++ 41 ∷ []) ≡ true
tail_whole name e = whole_append (quoting.doubled name ++ 39 ∷ []) (41 ∷ []) (whole_append (quoting.doubled name) (39 ∷ []) (doubled_whole name (name_whole name e)) refl) refl

deleted_by : (s : Subject) (line : Line) → commands_of (attributes.delete_text s (subject_name s)) ≡ Ok (line ∷ []) → parse_of line ≡ Ok (commands.Objects (objects.Delete (record { subject = s }))) → change_in Deletes (attributes.delete_text s (subject_name s)) ≡ Some (changes.Delete s)
unfolding change_in
deleted_by s line e f = ap (meant_of Deletes) e ∙ ap (meant_in Deletes (items_of line.tokens)) f

deleted : (s : Subject) (noun : Noun) (kind : Kind) (word : List ℕ) → CanDelete s noun kind word → change_in Deletes (attributes.delete_text s (subject_name s)) ≡ Some (changes.Delete s)
deleted s noun kind word can = deleted_by s can.lined.line (ap commands_of can.text ∙ can.lined.is)
    (command_read can.lined.line (commands.Objects (objects.Delete (record { subject = s }))) (subst (λ (ks : List TokenKind). IsCommand ks (commands.Objects (objects.Delete (record { subject = s })))) (sym can.lined.kinds) can.means))

means_of : (s : Subject) (noun : Noun) (kind : Kind) (name : List ℕ) → takes verbs.Delete noun ≡ true → IsKind noun [] kind → are_blanks name ≡ false → subject_of noun name ≡ Some s → (named : IsNamed noun name (tokens.Open ∷ tokens.Quoted name ∷ tokens.Close ∷ []))
    → IsCommand (kinds_in (delete_bits (object_text noun) name)) (commands.Objects (objects.Delete (record { subject = s })))
means_of s noun kind name goes is_kind unblank subject named = record {
  verb = verbs.Delete;
  noun = noun;
  kind = kind;
  verb_word = codes "DELETE";
  object_word = object_text noun;
  name = name;
  clauses = [];
  name_part = tokens.Open ∷ tokens.Quoted name ∷ tokens.Close ∷ [];
  clause_part = [];
  is_verb = inl refl;
  goes = goes;
  is_object = inl refl;
  is_named = named;
  are_clauses = refl;
  whole = refl;
  is_kind = is_kind;
  known = tt;
  single = tt;
  means = record { subject = s; named = subject; is = refl };
}

-- the text of a name, in quotes and brackets, and its end
abbrev name_tail : List ℕ → List ℕ
name_tail d = (d ++ 39 ∷ []) ++ 41 ∷ []

lined_of : (word word_front : List ℕ) (b : ℕ) (bs : List ℕ) → text_of (delete_bits word (b ∷ bs)) ≡ 68 ∷ (word_front ++ name_tail (quoting.doubled (b ∷ bs))) → 68 ∷ (word_front ++ name_tail (quoting.doubled (b ∷ bs))) ≡ (68 ∷ (word_front ++ (quoting.doubled (b ∷ bs) ++ 39 ∷ []))) ++ 41 ∷ []
    → list_all is_no_end (68 ∷ word_front) ≡ true → list_all is_name_byte (b ∷ bs) ≡ true → AreLaid (delete_bits word (b ∷ bs)) → Lined (text_of (delete_bits word (b ∷ bs))) (kinds_in (delete_bits word (b ∷ bs)))
lined_of word word_front b bs is ends whole name laid =
    laid_read (delete_bits word (b ∷ bs)) 68 (word_front ++ name_tail (quoting.doubled (b ∷ bs))) (68 ∷ (word_front ++ (quoting.doubled (b ∷ bs) ++ 39 ∷ []))) 41 (tokens.Word (codes "DELETE"))
    (tokens.Word word ∷ tokens.Open ∷ tokens.Quoted (b ∷ bs) ∷ tokens.Close ∷ []) is (λ e. absurd (omega (arith, e))) (is ∙ ends) refl refl
    (ap (list_all is_no_end) is ∙ whole_append (68 ∷ word_front) (name_tail (quoting.doubled (b ∷ bs))) whole (tail_whole (b ∷ bs) name)) refl laid

pub delete_read : (s : Subject) → IsSubject s → change_in Deletes (attributes.delete_text s (subject_name s)) ≡ Some (changes.Delete s)
delete_read (subjects.Local []) h = absurd (omega (arith, h.1))
delete_read (subjects.Local (b ∷ bs)) h = deleted (subjects.Local (b ∷ bs)) nouns.Local kinds.Local (codes "QLOCAL") (record {
  text = ap (λ (d : List ℕ). codes "DELETE QLOCAL('" ++ name_tail d) (doubled_same (b ∷ bs));
  lined = lined_of (codes "QLOCAL") (codes "ELETE QLOCAL('") b bs refl refl refl h.0.bytes ((refl, refl), refl, (tt, tt, ((refl, refl), refl, (tt, tt, (tt, unquoted, (tt, tt, tt))))));
  means = means_of (subjects.Local (b ∷ bs)) nouns.Local kinds.Local (b ∷ bs) refl refl (name_unblank 48 b bs h.0) (ap (λ r. option_map subjects.Local (name_or_none r)) (name_read 48 b bs h.0)) ((tokens.Quoted (b ∷ bs), refl, refl), name_unblank 48 b bs h.0);
})
delete_read (subjects.Alias []) h = absurd (omega (arith, h.1))
delete_read (subjects.Alias (b ∷ bs)) h = deleted (subjects.Alias (b ∷ bs)) nouns.Alias kinds.Alias (codes "QALIAS") (record {
  text = ap (λ (d : List ℕ). codes "DELETE QALIAS('" ++ name_tail d) (doubled_same (b ∷ bs));
  lined = lined_of (codes "QALIAS") (codes "ELETE QALIAS('") b bs refl refl refl h.0.bytes ((refl, refl), refl, (tt, tt, ((refl, refl), refl, (tt, tt, (tt, unquoted, (tt, tt, tt))))));
  means = means_of (subjects.Alias (b ∷ bs)) nouns.Alias kinds.Alias (b ∷ bs) refl refl (name_unblank 48 b bs h.0) (ap (λ r. option_map subjects.Alias (name_or_none r)) (name_read 48 b bs h.0)) ((tokens.Quoted (b ∷ bs), refl, refl), name_unblank 48 b bs h.0);
})
delete_read (subjects.Remote []) h = absurd (omega (arith, h.1))
delete_read (subjects.Remote (b ∷ bs)) h = deleted (subjects.Remote (b ∷ bs)) nouns.Remote kinds.Remote (codes "QREMOTE") (record {
  text = ap (λ (d : List ℕ). codes "DELETE QREMOTE('" ++ name_tail d) (doubled_same (b ∷ bs));
  lined = lined_of (codes "QREMOTE") (codes "ELETE QREMOTE('") b bs refl refl refl h.0.bytes ((refl, refl), refl, (tt, tt, ((refl, refl), refl, (tt, tt, (tt, unquoted, (tt, tt, tt))))));
  means = means_of (subjects.Remote (b ∷ bs)) nouns.Remote kinds.Remote (b ∷ bs) refl refl (name_unblank 48 b bs h.0) (ap (λ r. option_map subjects.Remote (name_or_none r)) (name_read 48 b bs h.0)) ((tokens.Quoted (b ∷ bs), refl, refl), name_unblank 48 b bs h.0);
})
delete_read (subjects.Channel []) h = absurd (omega (arith, h.1))
delete_read (subjects.Channel (b ∷ bs)) h = deleted (subjects.Channel (b ∷ bs)) nouns.Channel kinds.Channel (codes "CHANNEL") (record {
  text = ap (λ (d : List ℕ). codes "DELETE CHANNEL('" ++ name_tail d) (doubled_same (b ∷ bs));
  lined = lined_of (codes "CHANNEL") (codes "ELETE CHANNEL('") b bs refl refl refl h.0.bytes ((refl, refl), refl, (tt, tt, ((refl, refl), refl, (tt, tt, (tt, unquoted, (tt, tt, tt))))));
  means = means_of (subjects.Channel (b ∷ bs)) nouns.Channel kinds.Channel (b ∷ bs) refl ((λ m. m), (λ m. m)) (name_unblank 20 b bs h.0) (ap (λ r. option_map subjects.Channel (name_or_none r)) (name_read 20 b bs h.0)) ((tokens.Quoted (b ∷ bs), refl, refl), name_unblank 20 b bs h.0);
})
delete_read (subjects.Process []) h = absurd (omega (arith, h.1))
delete_read (subjects.Process (b ∷ bs)) h = deleted (subjects.Process (b ∷ bs)) nouns.Process kinds.Process (codes "PROCESS") (record {
  text = ap (λ (d : List ℕ). codes "DELETE PROCESS('" ++ name_tail d) (doubled_same (b ∷ bs));
  lined = lined_of (codes "PROCESS") (codes "ELETE PROCESS('") b bs refl refl refl h.0.bytes ((refl, refl), refl, (tt, tt, ((refl, refl), refl, (tt, tt, (tt, unquoted, (tt, tt, tt))))));
  means = means_of (subjects.Process (b ∷ bs)) nouns.Process kinds.Process (b ∷ bs) refl refl (name_unblank 48 b bs h.0) (ap (λ r. option_map subjects.Process (name_or_none r)) (name_read 48 b bs h.0)) ((tokens.Quoted (b ∷ bs), refl, refl), name_unblank 48 b bs h.0);
})
