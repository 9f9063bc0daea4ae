-- What a log says of objects has values such as a command gives, so the definitions of its image have them.
use Rattle.std.proofs.Common.{ℕ, ◌≡◌, ◌+◌, Bool, true, false, List, [], ◌∷◌, length, refl, ap, sym, subst, ◌∙◌}
use Rattle.std.specs.Prelude.{Option, Some, None, Result, Ok, Err, if◌then◌else◌, ◌&&◌}
use Rattle.std.specs.List.{AllByRecursion}
use Rattle.mq_objects.specs.declared.object.Object.{Object}
use Rattle.mq_objects.specs.declared.object.ManagerAttributes.{ManagerAttributes}
use Rattle.mq_objects.specs.declared.change.ObjectChange.{ObjectChange}
use Rattle.mq_objects.specs.declared.change.ObjectChange.TheVariants as changes
use Rattle.mq_objects.specs.declared.command.Command.{Command as ObjectCommand}
use Rattle.mq_objects.specs.declared.command.Command.TheVariants as objects
use Rattle.mq_objects.specs.Attributes.{attributes, manager_attributes}
use Rattle.mq_objects.specs.Defaults.{new_manager}
use Rattle.mq_objects.specs.Settings.{set_all_manager}
use Rattle.mq_law_log.specs.from_sc_apply.Planned.{defined_object}
use Rattle.mq_sc_lex.specs.declared.token.Line.{Line}
use Rattle.mq_sc_lex.specs.declared.fault.LexFault.{LexFault}
use Rattle.mq_sc_lex.specs.Commands.{commands_of}
use Rattle.mq_sc_parse.specs.declared.command.Command.{Command}
use Rattle.mq_sc_parse.specs.declared.command.Command.TheVariants as parsed
use Rattle.mq_sc_parse.specs.declared.fault.ScFault.{ScFault}
use Rattle.mq_sc_parse.specs.declared.splitting.Item.{Item}
use Rattle.mq_sc_parse.specs.Splitting.{items_of}
use Rattle.mq_sc_parse.specs.Parsing.{parse_of}
use Rattle.mq_frame.specs.declared.fault.Miss.{Miss}
use Rattle.mq_frame.specs.Reading.{IsBytes}
use Rattle.mq_sync.specs.declared.data.End.TheVariants as ends
use Rattle.mq_law_log.specs.from_record.{Operation, WrittenRecord}
use Rattle.mq_law_log.specs.from_record.OperationVariants.{Set, Delete}
use Rattle.mq_law_log.specs.from_record.WrittenRecordVariants as written
use Rattle.mq_law_log.specs.from_record.Reading.{record_at}
use Rattle.mq_law_log.specs.from_record.Records.{IsOther, IsWritten}
use Rattle.mq_law_log.proofs.from_record.KindLaws.{record_got}
use Rattle.mq_calls.specs.declared.records.Add.{Add}
use Rattle.mq_calls.specs.declared.records.Remove.{Remove}
use Rattle.mq_calls.specs.declared.records.LogRecord.{LogRecord}
use Rattle.mq_calls.specs.declared.records.LogRecord.TheVariants as records
use Rattle.mq_log.specs.Bodies.{frame}
use Rattle.mq_calls.specs.State.{Given}
use Rattle.mq_calls.specs.declared.image.Image.{Image}
use Rattle.mq_law_log.specs.from_spec_log.Texts.{is_plain, gives_all, defined_if, altered_if, meant_by, meant_in, meant_of, change_in}
use Rattle.mq_law_log.specs.from_spec_log.Applies.{Start, applies}
use Rattle.mq_law_log.specs.from_spec_log.Shelves.{added, added_all, removed, removed_all}
use Rattle.mq_law_log.specs.from_spec_log.Records.{doing}
use Rattle.mq_law_log.specs.from_spec_log.Bodies.{changing, meaning, meaning_of, record_of, behind, or_place, image_from, begins, image, empty_image}
use Rattle.mq_law_log.proofs.from_law_manager.Lists.{bool_case}
use Rattle.mq_law_image.specs.Values.{IsChangeText, IsObjectText, AreObjectTexts, IsCommandText, MakesText}
use Rattle.mq_law_image.proofs.Valued.{defined_text, changed_text, manager_new, all_manager_text}
use Rattle.mq_law_image.proofs.Lexed.{IsWholeCommand, commands_whole, read_text}

-- ---- the change that a text makes

abbrev or_change : ObjectChange → Option ObjectChange → ObjectChange
or_change d None = d
or_change d (Some change) = change

some_text : (x change : ObjectChange) → Some x ≡ Some change → IsChangeText x → IsChangeText change
some_text x change e h = subst IsChangeText (ap (or_change change) e) h

defined_one : (whole : Bool) (o : Object) (change : ObjectChange) → defined_if whole o ≡ Some change → IsObjectText o → IsChangeText change
defined_one true o change e h = some_text (changes.Set o) change e h
defined_one false o change e h = absurd cc

altered_one : (whole : Bool) (m : ManagerAttributes) (change : ObjectChange) → altered_if whole m ≡ Some change → IsChangeText (changes.SetManager m) → IsChangeText change
altered_one true m change e h = some_text (changes.SetManager m) change e h
altered_one false m change e h = absurd cc

meant_text : (operation : Operation) (items : List Item) (c : ObjectCommand) (change : ObjectChange) → meant_by operation items c ≡ Some change → IsCommandText c → IsChangeText change
meant_text Set items (objects.Define d) change e h =
    defined_one (is_plain items && gives_all d.settings (attributes (defined_object d.subject d.settings))) (defined_object d.subject d.settings) change e (defined_text d.subject d.settings h.0 h.1)
meant_text Set items (objects.AlterManager a) change e h = altered_one (gives_all a.settings (manager_attributes new_manager)) (set_all_manager a.settings new_manager) change e (all_manager_text a.settings new_manager h manager_new)
meant_text Set items (objects.Alter a) change e h = absurd cc
meant_text Set items (objects.Delete d) change e h = absurd cc
meant_text Set items (objects.Display d) change e h = absurd cc
meant_text Delete items (objects.Define d) change e h = absurd cc
meant_text Delete items (objects.AlterManager a) change e h = absurd cc
meant_text Delete items (objects.Alter a) change e h = absurd cc
meant_text Delete items (objects.Delete d) change e h = some_text (changes.Delete d.subject) change e h
meant_text Delete items (objects.Display d) change e h = absurd cc

parsed_text : (operation : Operation) (line : Line) (r : Result Command ScFault) (change : ObjectChange) → IsWholeCommand line → parse_of line ≡ r → meant_in operation (items_of line.tokens) r ≡ Some change → IsChangeText change
parsed_text operation line (Ok (parsed.Objects c)) change w p e = meant_text operation (items_of line.tokens) c change e (read_text line c w p)
parsed_text operation line (Ok (parsed.Operate op)) change w p e = absurd cc
parsed_text operation line (Ok (parsed.ShowStatus name any_end)) change w p e = absurd cc
parsed_text operation line (Err fault) change w p e = absurd cc

lines_text : (operation : Operation) (text : List ℕ) (r : Result (List Line) LexFault) (change : ObjectChange) → commands_of text ≡ r → meant_of operation r ≡ Some change → IsChangeText change
lines_text operation text (Ok []) change p e = absurd cc
lines_text operation text (Ok (line ∷ [])) change p e = parsed_text operation line (parse_of line) change (commands_whole text (line ∷ []) p).0 refl e
lines_text operation text (Ok (line ∷ other ∷ lines)) change p e = absurd cc
lines_text operation text (Err fault) change p e = absurd cc

pub change_text_in : (operation : Operation) (text : List ℕ) (change : ObjectChange) → change_in operation text ≡ Some change → IsChangeText change
unfolding change_in
change_text_in operation text change e = lines_text operation text (commands_of text) change refl e

-- ---- the record that a body is

abbrev or_record : LogRecord → Option LogRecord → LogRecord
or_record d None = d
or_record d (Some r) = r

record_text : (x r : LogRecord) → Some x ≡ Some r → MakesText x → MakesText r
record_text x r e h = subst MakesText (ap (or_record r) e) h

changing_text : (o : Option ObjectChange) (r : LogRecord) → changing o ≡ Some r → ((change : ObjectChange) → o ≡ Some change → IsChangeText change) → MakesText r
changing_text None r e h = absurd cc
changing_text (Some change) r e h = record_text (records.Objects change) r e (h change refl)

other_text : (r : LogRecord) → IsOther r → MakesText r
other_text (records.Objects change) h = absurd h
other_text (records.Started manager name incarnation) h = tt
other_text (records.Unit adds removes) h = tt
other_text (records.Session channel partner session) h = tt
other_text (records.Prepared channel unit last queue idents) h = tt
other_text (records.Resolved channel unit commit operator) h = tt
other_text (records.Bound channel partner session last) h = tt
other_text (records.Closed channel session) h = tt
other_text (records.Received channel unit last adds) h = tt
other_text (records.SeqSet channel end last) h = tt
other_text (records.Moved from ident to message) h = tt

written_text : (w : WrittenRecord) (r : LogRecord) → IsWritten w → meaning w ≡ Some r → MakesText r
written_text (written.Objects operation text) r h e = changing_text (change_in operation text) r e (λ change f. change_text_in operation text change f)
written_text (written.Other x) r h e = record_text x r e (other_text x h.0)

read_text_of : (body : List ℕ) (read : Result (WrittenRecord × List ℕ) Miss) (r : LogRecord) → IsBytes body → record_at body ≡ read → meaning_of read ≡ Some r → MakesText r
read_text_of body (Ok (w, [])) r fits is e = written_text w r (record_got body w [] fits is).0 e
read_text_of body (Ok (w, byte ∷ bytes)) r fits is e = absurd cc
read_text_of body (Err miss) r fits is e = absurd cc

body_text : (body : List ℕ) (r : LogRecord) → IsBytes body → record_of body ≡ Some r → MakesText r
unfolding record_of
body_text body r fits e = read_text_of body (record_at body) r fits refl e

-- ---- what a record does to the definitions

added_all_definitions : (adds : List Add) (i : Image) → (added_all adds i).definitions ≡ i.definitions
added_all_definitions [] i = refl
added_all_definitions (a ∷ as_) i = added_all_definitions as_ (added a i)

removed_all_definitions : (removes : List Remove) (i : Image) → (removed_all removes i).definitions ≡ i.definitions
removed_all_definitions [] i = refl
removed_all_definitions (r ∷ rs) i = removed_all_definitions rs (removed r i)

pub done_text : (r : LogRecord) (i : Image) → MakesText r → AreObjectTexts i.definitions → AreObjectTexts (doing r i).definitions
done_text (records.Objects change) i k h = changed_text change i.definitions k h
done_text (records.Started manager name incarnation) i k h = h
done_text (records.Unit adds removes) i k h = subst AreObjectTexts (sym (added_all_definitions adds (removed_all removes i) ∙ removed_all_definitions removes i)) h
done_text (records.Session channel partner session) i k h = h
done_text (records.Prepared channel unit last queue idents) i k h = h
done_text (records.Resolved channel unit true operator) i k h = h
done_text (records.Resolved channel unit false operator) i k h = h
done_text (records.Bound channel partner session last) i k h = h
done_text (records.Closed channel session) i k h = h
done_text (records.Received channel unit last adds) i k h = subst AreObjectTexts (sym (added_all_definitions adds i)) h
done_text (records.SeqSet channel ends.Sender last) i k h = h
done_text (records.SeqSet channel ends.Receiver last) i k h = h
done_text (records.Moved from ident to message) i k h = h

-- ---- the image of a log

abbrev or_image : Image → Result Image ℕ → Image
or_image d (Ok i) = i
or_image d (Err place) = d

one_text : (g : Given) (start : Start) (place : ℕ) (body : List ℕ) (go : Image → Result Image ℕ) (o : Option LogRecord) (i j : Image) → ((k : Image) → go k ≡ Ok j → AreObjectTexts k.definitions → AreObjectTexts j.definitions)
    → IsBytes body → record_of body ≡ o → or_place place go (behind g start i o) ≡ Ok j → AreObjectTexts i.definitions → AreObjectTexts j.definitions
one_text g start place body go None i j rest fits is e h = absurd cc
one_text g start place body go (Some r) i j rest fits is e h = bool_case (applies g start r i) (λ b. or_place place go (if b then Some (doing r i) else None) ≡ Ok j → AreObjectTexts j.definitions)
    (λ z f. rest (doing r i) f (done_text r i (body_text body r fits is) h)) (λ z f. absurd cc) e

from_text : (g : Given) (start : Start) (place : ℕ) (bodies : List (List ℕ)) (i j : Image) → image_from g start place bodies i ≡ Ok j → AllByRecursion IsBytes bodies → AreObjectTexts i.definitions → AreObjectTexts j.definitions
from_text g start place [] i j e fits h = subst (λ (k : Image). AreObjectTexts k.definitions) (ap (or_image i) e) h
from_text g start place (body ∷ bodies) i j e fits h =
    one_text g start place body (image_from g start (place + length (frame body)) bodies) (record_of body) i j
    (λ k f t. from_text g start (place + length (frame body)) bodies k j f fits.1 t) fits.0 refl e h

pub image_text : (g : Given) (start : Start) (bodies : List (List ℕ)) (i : Image) → image g start bodies ≡ Ok i → AllByRecursion IsBytes bodies → AreObjectTexts i.definitions
image_text g start bodies i e fits = bool_case (begins bodies) (λ b. (if b then image_from g start 0 bodies empty_image else Err 0) ≡ Ok i → AreObjectTexts i.definitions)
    (λ z f. from_text g start 0 bodies empty_image i f fits (record { own = manager_new; each = tt })) (λ z f. absurd cc) e
