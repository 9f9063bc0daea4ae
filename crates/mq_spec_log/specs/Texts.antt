-- The change of objects that the text of a command in the log makes.
use Rattle.std.specs.Prelude.{ℕ, Bool, true, false, not, ◌&&◌, ◌==◌, count_by, length, List, [], ◌∷◌, if◌then◌else◌, Option, Some, None, Result, Ok, Err, codes}
use Rattle.mq_objects.specs.declared.object.Object.{Object}
use Rattle.mq_objects.specs.declared.object.ManagerAttributes.{ManagerAttributes}
use Rattle.mq_objects.specs.declared.change.ObjectChange.{ObjectChange}
use Rattle.mq_objects.specs.declared.change.ObjectChange.TheVariants as changes
use Rattle.mq_objects.specs.declared.setting.Setting.{Setting}
use Rattle.mq_objects.specs.declared.setting.Setting.TheVariants as settings
use Rattle.mq_objects.specs.declared.command.Command.{Command as ObjectCommand}
use Rattle.mq_objects.specs.declared.command.Command.TheVariants as commands
use Rattle.mq_objects.specs.Attributes.{Attribute, attributes, manager_attributes}
use Rattle.mq_objects.specs.Defaults.{new_manager}
use Rattle.mq_objects.specs.Settings.{set_all_manager}
use Rattle.mq_sc_apply.specs.Planned.{defined_object}
use Rattle.mq_sc_parse.specs.from_sc_lex.{LexFault, Line}
use Rattle.mq_sc_parse.specs.from_sc_lex.Commands.{commands_of}
use Rattle.mq_sc_parse.specs.declared.command.Command.{Command}
use Rattle.mq_sc_parse.specs.declared.command.Command.TheVariants as parsed
use Rattle.mq_sc_parse.specs.declared.fault.ScFault.{ScFault}
use Rattle.mq_sc_parse.specs.declared.splitting.Item.{Item}
use Rattle.mq_sc_parse.specs.Splitting.{items_of}
use Rattle.mq_sc_parse.specs.Checks.{has_word}
use Rattle.mq_sc_parse.specs.Parsing.{parse_of}
use Rattle.mq_record.specs.declared.record.Operation.{Operation}
use Rattle.mq_record.specs.declared.record.Operation.TheVariants.{Set, Delete}

-- it isn't one that is kept without effect
abbrev pub has_effect : Setting → Bool
has_effect (settings.Kept keyword value) = false
has_effect _ = true

-- As many attributes as the kind has. A command gives none twice and none that its kind lacks, so it gives each.
abbrev pub gives_all : List Setting → List Attribute → Bool
gives_all given wanted = count_by has_effect given == length wanted

-- a DEFINE that says nothing of an object that is there
abbrev pub is_plain : List Item → Bool
is_plain items = not (has_word (codes "REPLACE") items) && not (has_word (codes "NOREPLACE") items)

abbrev pub defined_if : Bool → Object → Option ObjectChange
defined_if whole object = if whole then Some (changes.Set object) else None

abbrev pub altered_if : Bool → ManagerAttributes → Option ObjectChange
altered_if whole m = if whole then Some (changes.SetManager m) else None

-- a set is a DEFINE or an ALTER QMGR that gives every attribute, a delete a DELETE
abbrev pub meant_by : Operation → List Item → ObjectCommand → Option ObjectChange
meant_by Set items (commands.Define d) = defined_if (is_plain items && gives_all d.settings (attributes (defined_object d.subject d.settings))) (defined_object d.subject d.settings)
meant_by Set items (commands.AlterManager a) = altered_if (gives_all a.settings (manager_attributes new_manager)) (set_all_manager a.settings new_manager)
meant_by Set items (commands.Alter a) = None
meant_by Set items (commands.Delete d) = None
meant_by Set items (commands.Display d) = None
meant_by Delete items (commands.Define d) = None
meant_by Delete items (commands.AlterManager a) = None
meant_by Delete items (commands.Alter a) = None
meant_by Delete items (commands.Delete d) = Some (changes.Delete d.subject)
meant_by Delete items (commands.Display d) = None

abbrev pub meant_in : Operation → List Item → Result Command ScFault → Option ObjectChange
meant_in operation items (Ok (parsed.Objects command)) = meant_by operation items command
meant_in operation items (Ok (parsed.Operate op)) = None
meant_in operation items (Ok (parsed.ShowStatus name any_end)) = None
meant_in operation items (Err fault) = None

-- one command
abbrev pub meant_of : Operation → Result (List Line) LexFault → Option ObjectChange
meant_of operation (Ok []) = None
meant_of operation (Ok (line ∷ [])) = meant_in operation (items_of line.tokens) (parse_of line)
meant_of operation (Ok (line ∷ other ∷ lines)) = None
meant_of operation (Err fault) = None

unfoldable pub change_in : Operation → List ℕ → Option ObjectChange
change_in operation text = meant_of operation (commands_of text)
