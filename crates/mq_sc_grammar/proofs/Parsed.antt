-- Commands that are meant, and what a reader makes of their tokens, both ways.
use Rattle.std.proofs.Common.{◌≡◌, Bool, true, false, cond, List, [], refl, sym, ap, ◌∙◌}
use Rattle.std.specs.Prelude.{Option, Some, None, Result, Ok, Err, codes}
use Rattle.mq_objects.specs.declared.command.Command.TheVariants as objects
use Rattle.mq_sc_lex.specs.declared.token.Span.{Span}
use Rattle.mq_sc_keys.specs.declared.keys.Key.TheVariants as keys
use Rattle.mq_sc_keys.specs.declared.verbs.Verb.TheVariants as verbs
use Rattle.mq_sc_keys.specs.declared.verbs.Noun.{Noun}
use Rattle.mq_sc_keys.specs.declared.verbs.Noun.TheVariants as nouns
use Rattle.mq_sc_keys.specs.declared.attributes.Kind.{Kind}
use Rattle.mq_sc_keys.specs.declared.attributes.Kind.TheVariants as kinds
use Rattle.mq_sc_parse.specs.declared.splitting.Item.{Item}
use Rattle.mq_sc_parse.specs.declared.naming.Named.{Named}
use Rattle.mq_sc_parse.specs.declared.naming.Pattern.{Pattern}
use Rattle.mq_sc_parse.specs.declared.command.Op.TheVariants as ops
use Rattle.mq_sc_parse.specs.declared.command.Command.{Command}
use Rattle.mq_sc_parse.specs.declared.command.Command.TheVariants as commands
use Rattle.mq_sc_parse.specs.declared.fault.ScFault.{ScFault}
use Rattle.mq_sc_parse.specs.declared.fault.ScFault.TheVariants as faults
use Rattle.mq_sc_parse.specs.Asking.{settings_of, asked_of}
use Rattle.mq_sc_parse.specs.Checks.{has_word, lacks}
use Rattle.mq_sc_parse.specs.Parsing.{◌>>=◌, some_or, channel_name, subject_of, subjects_of, pattern_of, prefix_of, is_prefix, define_of, alter_manager_of, alter_object_of, delete_of, asked_or_all, show_objects, show_status, status_named, show_named, start_of, stop_of, number_of, reset_of, settle_of, resolve_of}
use Rattle.mq_sc_grammar.specs.Spelling.{Clause}
use Rattle.mq_sc_grammar.specs.Commands.{Says, AreKnown, AreSingle, IsDefine, IsAlter, IsAlterManager, IsDelete, IsDisplay, IsDisplayManager, IsDisplayStatus, Means}
use Rattle.mq_sc_grammar.proofs.Splits.{Spell}
use Rattle.mq_sc_grammar.proofs.Checked.{says_decides, tells, told, needed_read, needed_found}
use Rattle.mq_sc_grammar.proofs.Meant.{settings_read, settings_found, keywords_of, bare_read, bare_found, asks_read, asks_found, pattern_read, pattern_found, number_read, number_found, settle_read, settle_found}

abbrev pub ok_command : Command → Result Command ScFault
ok_command c = Ok c

-- ---- steps that went well

pub then_ok : {A B : Type 0} (r : Result A ScFault) (f : A → Result B ScFault) (x : B) → (r >>= f) ≡ Ok x → (y : A) × (r ≡ Ok y) × (f y ≡ Ok x)
then_ok (Ok y) f x e = (y, refl, e)
then_ok (Err fault) f x e = absurd cc

pub some_ok : {A : Type 0} (fault : ScFault) (o : Option A) (x : A) → some_or fault o ≡ Ok x → o ≡ Some x
some_ok fault None x e = absurd cc
some_ok fault (Some y) x e = cc

-- ---- each command

module _ (noun : Noun) (kind : Kind) (name : Named) (cs : List Clause) (items : List Item) (s : Spell cs items) (c : Command) where
  pub define_read : (last : Span) → AreKnown verbs.Define kind cs → IsDefine noun kind name.text cs c → define_of noun kind name items last ≡ ok_command c
  unfolding define_of
  define_read last known h =
      let given = settings_read verbs.Define kind cs items h.settings s known h.gives in
      let needed = needed_read kind cs items s h.needed in
      let word = told (has_word (codes "REPLACE") items) h.replace (Says keys.Replace cs) (says_decides keys.Replace cs items s) h.replaces in
      rw (h.named, given, needed, word) (ap ok_command (sym h.is))

  pub alter_read : AreKnown verbs.Alter kind cs → IsAlter noun kind name.text cs c → alter_object_of noun kind name items ≡ ok_command c
  unfolding alter_object_of
  alter_read known h =
      let given = settings_read verbs.Alter kind cs items h.settings s known h.gives in
      let word = told (has_word (codes "FORCE") items) h.force (Says keys.Force cs) (says_decides keys.Force cs items s) h.forces in
      rw (h.named, given, word) (ap ok_command (sym h.is))

  pub delete_read : IsDelete noun name.text c → delete_of noun name ≡ ok_command c
  unfolding delete_of
  delete_read h = rw h.named (ap ok_command (sym h.is))

  pub display_read : AreKnown verbs.Display kind cs → IsDisplay noun name.text cs c → show_named noun kind name items ≡ ok_command c
  unfolding show_named show_objects
  display_read known h =
      let pattern = pattern_read name.text h.text h.any_end h.pattern in
      let asked = bare_read kind cs items s known h.bare in
      rw (pattern, h.begins, asked, asks_read cs items h.asked s h.asks) (ap ok_command (sym h.is))

  pub define_found : (last : Span) → AreKnown verbs.Define kind cs → define_of noun kind name items last ≡ ok_command c → IsDefine noun kind name.text cs c
  unfolding define_of
  define_found last known e =
      let a = then_ok (some_or (faults.BadValue name.span) (subject_of noun name.text)) _ c e in
      let b = then_ok (settings_of verbs.Define kind items) _ c a.2 in
      let d = not_lacking (lacks kind items) last (commands.Objects (objects.Define (record { subject = a.0; replace = has_word (codes "REPLACE") items; settings = b.0 }))) c b.2 in
      record {
        subject = a.0;
        replace = has_word (codes "REPLACE") items;
        settings = b.0;
        named = some_ok (faults.BadValue name.span) (subject_of noun name.text) a.0 a.1;
        gives = settings_found verbs.Define kind cs items b.0 s known b.1;
        needed = needed_found kind cs items s d.0;
        replaces = tells (has_word (codes "REPLACE") items) (Says keys.Replace cs) (says_decides keys.Replace cs items s);
        is = sym d.1;
      }
    where
      not_lacking : (b : Bool) (last : Span) (d x : Command) → cond b (Err (faults.BadValue last)) (ok_command d) ≡ ok_command x → (b ≡ false) × (d ≡ x)
      not_lacking true last d x f = absurd cc
      not_lacking false last d x f = (refl, cc)

  pub alter_found : AreKnown verbs.Alter kind cs → alter_object_of noun kind name items ≡ ok_command c → IsAlter noun kind name.text cs c
  unfolding alter_object_of
  alter_found known e =
      let a = then_ok (some_or (faults.BadValue name.span) (subject_of noun name.text)) _ c e in
      let b = then_ok (settings_of verbs.Alter kind items) _ c a.2 in
      let same : ok_command (commands.Objects (objects.Alter (record { subject = a.0; force = has_word (codes "FORCE") items; settings = b.0 }))) ≡ ok_command c = b.2 in
      record {
        subject = a.0;
        force = has_word (codes "FORCE") items;
        settings = b.0;
        named = some_ok (faults.BadValue name.span) (subject_of noun name.text) a.0 a.1;
        gives = settings_found verbs.Alter kind cs items b.0 s known b.1;
        forces = tells (has_word (codes "FORCE") items) (Says keys.Force cs) (says_decides keys.Force cs items s);
        is = cc;
      }

  pub delete_found : delete_of noun name ≡ ok_command c → IsDelete noun name.text c
  unfolding delete_of
  delete_found e =
      let a = then_ok (some_or (faults.BadValue name.span) (subject_of noun name.text)) _ c e in
      let same : ok_command (commands.Objects (objects.Delete (record { subject = a.0 }))) ≡ ok_command c = a.2 in
      record { subject = a.0; named = some_ok (faults.BadValue name.span) (subject_of noun name.text) a.0 a.1; is = cc }

  pub display_found : AreKnown verbs.Display kind cs → show_named noun kind name items ≡ ok_command c → IsDisplay noun name.text cs c
  unfolding show_named show_objects
  display_found known e =
      let p : Pattern = pattern_of name.text in
      let d = is_begun (is_prefix noun p.text) (asked_of verbs.Display kind items >>= (λ asked. Ok (commands.Objects (objects.Display (record { subjects = subjects_of noun; name = p.text; any_end = p.any_end; asked = asked_or_all items asked }))))) e in
      let a = then_ok (asked_of verbs.Display kind items) _ c d.1 in
      let bare = bare_found kind cs items a.0 s a.1 in
      let whole : asked_of verbs.Display kind items ≡ Ok (keywords_of cs) = bare_read kind cs items s known bare in
      let same : a.0 ≡ keywords_of cs = let f : Ok a.0 ≡ Ok (keywords_of cs) = sym a.1 ∙ whole in cc in
      let is : ok_command (commands.Objects (objects.Display (record { subjects = subjects_of noun; name = p.text; any_end = p.any_end; asked = asked_or_all items a.0 }))) ≡ ok_command c = a.2 in
      record {
        text = p.text;
        any_end = p.any_end;
        asked = asked_or_all items (keywords_of cs);
        pattern = pattern_found name.text;
        begins = d.0;
        bare = bare;
        asks = asks_found cs items s;
        is = cc;
      }
    where
      is_begun : (b : Bool) (r : Result Command ScFault) → cond b r (Err (faults.BadValue name.span)) ≡ ok_command c → (b ≡ true) × (r ≡ ok_command c)
      is_begun true r f = (refl, f)
      is_begun false r f = absurd cc

-- the commands that are not named by a noun of their own
module _ (kind : Kind) (name : Named) (cs : List Clause) (items : List Item) (s : Spell cs items) (c : Command) where
  pub manager_read : AreKnown verbs.Alter kinds.Manager cs → IsAlterManager kinds.Manager cs c → alter_manager_of items ≡ ok_command c
  unfolding alter_manager_of
  manager_read known h =
      let given = settings_read verbs.Alter kinds.Manager cs items h.settings s known h.gives in
      let word = told (has_word (codes "FORCE") items) h.force (Says keys.Force cs) (says_decides keys.Force cs items s) h.forces in
      rw (given, word) (ap ok_command (sym h.is))

  pub manager_found : AreKnown verbs.Alter kinds.Manager cs → alter_manager_of items ≡ ok_command c → IsAlterManager kinds.Manager cs c
  unfolding alter_manager_of
  manager_found known e =
      let b = then_ok (settings_of verbs.Alter kinds.Manager items) _ c e in
      let same : ok_command (commands.Objects (objects.AlterManager (record { force = has_word (codes "FORCE") items; settings = b.0 }))) ≡ ok_command c = b.2 in
      record {
        force = has_word (codes "FORCE") items;
        settings = b.0;
        gives = settings_found verbs.Alter kinds.Manager cs items b.0 s known b.1;
        forces = tells (has_word (codes "FORCE") items) (Says keys.Force cs) (says_decides keys.Force cs items s);
        is = cc;
      }

  pub shown_read : AreKnown verbs.Display kind cs → IsDisplayManager cs c → show_objects nouns.Manager kind [] false items ≡ ok_command c
  unfolding show_objects
  shown_read known h = rw (bare_read kind cs items s known h.bare, asks_read cs items h.asked s h.asks) (ap ok_command (sym h.is))

  pub shown_found : AreKnown verbs.Display kind cs → show_objects nouns.Manager kind [] false items ≡ ok_command c → IsDisplayManager cs c
  unfolding show_objects
  shown_found known e =
      let a = then_ok (asked_of verbs.Display kind items) _ c e in
      let bare = bare_found kind cs items a.0 s a.1 in
      let whole : asked_of verbs.Display kind items ≡ Ok (keywords_of cs) = bare_read kind cs items s known bare in
      let same : a.0 ≡ keywords_of cs = let f : Ok a.0 ≡ Ok (keywords_of cs) = sym a.1 ∙ whole in cc in
      let is : ok_command (commands.Objects (objects.Display (record { subjects = subjects_of nouns.Manager; name = []; any_end = false; asked = asked_or_all items a.0 }))) ≡ ok_command c = a.2 in
      record { asked = asked_or_all items (keywords_of cs); bare = bare; asks = asks_found cs items s; is = cc }

  pub status_read : AreKnown verbs.Display kinds.Status cs → IsDisplayStatus name.text cs c → status_named name items ≡ ok_command c
  unfolding status_named show_status
  status_read known h =
      let pattern = pattern_read name.text h.text h.any_end h.pattern in
      rw (pattern, h.begins, bare_read kinds.Status cs items s known h.bare) (ap ok_command (sym h.is))

  pub status_found : status_named name items ≡ ok_command c → IsDisplayStatus name.text cs c
  unfolding status_named show_status
  status_found e =
      let p : Pattern = pattern_of name.text in
      let a = then_ok (some_or (faults.BadValue name.span) (prefix_of (channel_name p.text) p.text)) _ c e in
      let b = then_ok (asked_of verbs.Display kinds.Status items) _ c a.2 in
      let is : ok_command (commands.ShowStatus a.0 p.any_end) ≡ ok_command c = b.2 in
      record {
        text = p.text;
        any_end = p.any_end;
        channel = a.0;
        pattern = pattern_found name.text;
        begins = some_ok (faults.BadValue name.span) (prefix_of (channel_name p.text) p.text) a.0 a.1;
        bare = bare_found kinds.Status cs items b.0 s b.1;
        is = cc;
      }

-- ---- commands on the ends of channels

module _ (noun : Noun) (kind : Kind) (name : Named) (cs : List Clause) (items : List Item) (s : Spell cs items) (c : Command) where
  pub start_read : Means verbs.Start noun kind name.text cs c → start_of name ≡ ok_command c
  unfolding start_of
  start_read (channel, named, is) = rw named (ap ok_command (sym is))

  pub start_found : start_of name ≡ ok_command c → Means verbs.Start noun kind name.text cs c
  unfolding start_of
  start_found e =
      let a = then_ok (some_or (faults.BadValue name.span) (channel_name name.text)) _ c e in
      let is : ok_command (commands.Operate (ops.Start a.0)) ≡ ok_command c = a.2 in
      (a.0, some_ok (faults.BadValue name.span) (channel_name name.text) a.0 a.1, cc)

  pub stop_read : Means verbs.Stop noun kind name.text cs c → stop_of name ≡ ok_command c
  unfolding stop_of
  stop_read (channel, named, is) = rw named (ap ok_command (sym is))

  pub stop_found : stop_of name ≡ ok_command c → Means verbs.Stop noun kind name.text cs c
  unfolding stop_of
  stop_found e =
      let a = then_ok (some_or (faults.BadValue name.span) (channel_name name.text)) _ c e in
      let is : ok_command (commands.Operate (ops.Stop a.0)) ≡ ok_command c = a.2 in
      (a.0, some_ok (faults.BadValue name.span) (channel_name name.text) a.0 a.1, cc)

  pub reset_read : AreKnown verbs.Reset kind cs → AreSingle cs → Means verbs.Reset noun kind name.text cs c → reset_of name items ≡ ok_command c
  unfolding reset_of
  reset_read known single (channel, n, named, number, is) = rw (named, number_read kind cs items n s known single number) (ap ok_command (sym is))

  pub reset_found : AreKnown verbs.Reset kind cs → reset_of name items ≡ ok_command c → Means verbs.Reset noun kind name.text cs c
  unfolding reset_of
  reset_found known e =
      let a = then_ok (some_or (faults.BadValue name.span) (channel_name name.text)) _ c e in
      let b = then_ok (number_of items) _ c a.2 in
      let is : ok_command (commands.Operate (ops.Reset a.0 b.0)) ≡ ok_command c = b.2 in
      (a.0, b.0, some_ok (faults.BadValue name.span) (channel_name name.text) a.0 a.1, number_found kind cs items b.0 s known b.1, cc)

  pub resolve_read : (last : Span) → AreKnown verbs.Resolve kind cs → AreSingle cs → Means verbs.Resolve noun kind name.text cs c → resolve_of name items last ≡ ok_command c
  unfolding resolve_of
  resolve_read last known single (channel, settle, named, settles, is) = rw (named, settle_read kind cs items last settle s known single settles) (ap ok_command (sym is))

  pub resolve_found : (last : Span) → AreKnown verbs.Resolve kind cs → resolve_of name items last ≡ ok_command c → Means verbs.Resolve noun kind name.text cs c
  unfolding resolve_of
  resolve_found last known e =
      let a = then_ok (some_or (faults.BadValue name.span) (channel_name name.text)) _ c e in
      let b = then_ok (settle_of items last) _ c a.2 in
      let is : ok_command (commands.Operate (ops.Resolve a.0 b.0)) ≡ ok_command c = b.2 in
      (a.0, b.0, some_ok (faults.BadValue name.span) (channel_name name.text) a.0 a.1, settle_found kind cs items last b.0 s known b.1, cc)
