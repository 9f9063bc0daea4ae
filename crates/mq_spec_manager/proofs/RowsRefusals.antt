-- More refusals, a get that forces twice, and what DISPLAY shows, computed from the definitions.
use Rattle.std.specs.Prelude.{◌≡◌, ℕ, pos, ◌+◌, Bool, true, false, List, [], ◌∷◌, None, codes, refl}
use Rattle.std.specs.Fmt.{digits}
use Rattle.mq_sc_apply.specs.from_calls.Words.{Md, Command, Reason, Plain, Step, After, next, after, Refuse, Do}
use Rattle.mq_sc_apply.specs.from_calls.{GetAnswer, Input, Open}
use Rattle.mq_sc_apply.specs.from_objects.UsageVariants as usages
use Rattle.mq_sc_apply.specs.from_objects.KeywordVariants as keywords
use Rattle.mq_sc_apply.specs.from_objects.{Setting}
use Rattle.mq_sc_apply.specs.from_objects.SettingVariants as settings
use Rattle.mq_sc_apply.specs.from_objects.SubjectVariants as subjects
use Rattle.mq_sc_apply.specs.from_objects.SubjectsVariants as shows
use Rattle.mq_sc_apply.specs.from_objects.CommandVariants as commands
use Rattle.mq_sc_apply.specs.from_calls.InputVariants as inputs
use Rattle.mq_sc_apply.specs.from_calls.TakeVariants as takes
use Rattle.mq_sc_apply.specs.from_disk.StopVariants as stops
use Rattle.mq_sc_apply.specs.from_calls.ScRefusalVariants as refusals
use Rattle.mq_sc_apply.specs.from_calls.DidVariants as did
use Rattle.mq_sc_apply.specs.from_calls.WhyVariants as whys
use Rattle.mq_sc_apply.specs.from_calls.ChoiceVariants.{Stopped}
use Rattle.mq_spec_manager.specs.Handles.{mqopen}
use Rattle.mq_spec_manager.specs.Put.{mqput}
use Rattle.mq_spec_manager.specs.Get.{mqget}
use Rattle.mq_spec_manager.specs.Commands.{command}
use Rattle.mq_spec_manager.specs.Stops.{restart, advance_clock}
use Rattle.mq_sc_apply.specs.from_calls.ReturnVariants.{Comes}
use Rattle.mq_spec_manager.proofs.Script.{london, london_with, local, connect, connection, handle, shared_output, open_at, plain_md, persistent_md, whole_get, put_line, get_line, line, rows_line}

abbrev q1 : List ℕ
q1 = codes "Q1"

abbrev way : Input → Bool → Bool → Open
way input browse output = record { input = input; browse = browse; output = output }

abbrev opened : List Setting → Open → Plain
opened given how = open_at 1 q1 how (connect (london_with 268435456 (local q1 given ∷ [])))

abbrev next_get : Plain → List ℕ
next_get p = get_line (mqget (connection 1) (handle 1) (whole_get takes.Next false) None p)

abbrev first_get : Plain → List ℕ
first_get p = get_line (mqget (connection 1) (handle 1) (whole_get takes.BrowseFirst false) None p)

abbrev one_put : Plain → List ℕ
one_put p = put_line (mqput (connection 1) (handle 1) plain_md (codes "A") false p)

not_for_input : next_get (opened [] (way inputs.No true false)) ≡ 2 ∷ 2037 ∷ []
not_for_input = refl

not_for_browse : first_get (opened [] (way inputs.Shared false false)) ≡ 2 ∷ 2036 ∷ []
not_for_browse = refl

not_for_output : one_put (opened [] (way inputs.Shared false false)) ≡ 2 ∷ 2039 ∷ []
not_for_output = refl

get_inhibited : next_get (opened (settings.GetEnabled false ∷ []) shared_output) ≡ 2 ∷ 2016 ∷ []
get_inhibited = refl

put_inhibited : one_put (opened (settings.PutEnabled false ∷ []) shared_output) ≡ 2 ∷ 2051 ∷ []
put_inhibited = refl

not_of_transmission : line (mqopen (connection 1) q1 [] (way inputs.No false true) (connect (london_with 268435456 (local q1 (settings.Usage usages.Transmission ∷ []) ∷ [])))) ≡ 2 ∷ 2045 ∷ []
not_of_transmission = refl

not_twice : line (mqopen (connection 1) q1 [] (way inputs.Exclusive false false) (opened [] (way inputs.Exclusive false false))) ≡ 2 ∷ 2042 ∷ []
not_twice = refl

-- A get that forces twice: an expired persistent row goes first, then the row that it found.
abbrev put_as : Md → Plain → Plain
put_as md p = next (mqput (connection 1) (handle 1) md (codes "A") false p) p

abbrev two : Plain
two = advance_clock 1000 (put_as persistent_md (put_as (record persistent_md { expiry = pos 10 }) (opened [] shared_output)))

abbrev get_two : Step Reason GetAnswer
get_two = mqget (connection 1) (handle 1) (whole_get takes.Next false) None two

-- cut in its second write: the expired row is gone for good, the other one stands where that write is not found
abbrev cut_second : After Reason GetAnswer
cut_second = after get_two (Stopped stops.Cut 1 0) two

get_two_line : get_line get_two ≡ 0 ∷ 0 ∷ 1 ∷ 1 ∷ 2 ∷ []
get_two_line = refl

get_two_length : (next get_two two).log.length ≡ two.log.length + 79 + 79
get_two_length = refl

get_two_cut : rows_line q1 cut_second.next ≡ (1 ∷ 1 ∷ 2 ∷ []) ∷ []
get_two_cut = refl

get_two_delta : cut_second.delta ≡ did.Removed q1 (record { manager = 1; incarnation = 1; number = 1 }) whys.Expired ∷ []
get_two_delta = refl

get_two_kept : rows_line q1 (restart (Comes true 0) cut_second.next).next ≡ []
get_two_kept = refl

get_two_lost : rows_line q1 (restart (Comes false 0) cut_second.next).next ≡ (1 ∷ 1 ∷ 2 ∷ []) ∷ []
get_two_lost = refl

-- Commands: the second definition exists, what is deleted must be there; what is shown.
abbrev define_q1 : Command
define_q1 = commands.Define (record { subject = subjects.Local q1; replace = false; settings = settings.MaxDepth 10 ∷ [] })

abbrev alter_q1 : Command
alter_q1 = commands.Alter (record { subject = subjects.Local q1; force = false; settings = settings.PutEnabled false ∷ [] })

abbrev show_q1 : Command
show_q1 = commands.Display (record { subjects = shows.Locals; name = q1; any_end = false; asked = keywords.Put ∷ keywords.MaxDepth ∷ [] })

abbrev delete_q1 : Command
delete_q1 = commands.Delete (record { subject = subjects.Alias q1 })

abbrev defined : Plain
defined = next (command define_q1 (london 268435456)) (london 268435456)

abbrev obeyed : Plain
obeyed = next (command alter_q1 defined) defined

define_again : command define_q1 obeyed ≡ Refuse refusals.Exists
define_again = refl

delete_other : command delete_q1 obeyed ≡ Refuse refusals.Missing
delete_other = refl

show_lines : command show_q1 obeyed ≡ Do (record { lines = codes "QLOCAL(Q1) MAXDEPTH(10) PUT(DISABLED)" ∷ [] }) []
unfolding digits
show_lines = refl

-- a persistent put fits a log exactly, and not one byte less: 1 for the first gate, 63 for the start, 417 for the put
exact_fit : put_line (mqput (connection 1) (handle 1) persistent_md (codes "A") false (open_at 1 q1 shared_output (connect (london_with 481 (local q1 [] ∷ []))))) ≡ 0 ∷ 0 ∷ 1 ∷ 1 ∷ 1 ∷ []
exact_fit = refl

one_less : put_line (mqput (connection 1) (handle 1) persistent_md (codes "A") false (open_at 1 q1 shared_output (connect (london_with 480 (local q1 [] ∷ []))))) ≡ 2 ∷ 2102 ∷ []
one_less = refl
