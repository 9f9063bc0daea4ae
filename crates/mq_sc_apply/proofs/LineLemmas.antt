-- The lines of objects, one object on, and of those of one whole name.
use Rattle.std.proofs.Common.{◌≡◌, Bool, true, false, cond, ◌&&◌, List, [], ◌∷◌, ◌++◌, refl, sym, ap, ◌∙◌, Option, map, filter, option_to_list}
use Rattle.std.specs.Cmp.{first_so, second_so}
use Rattle.std.specs.Prelude.{nat_eq}
use Rattle.std.specs.List.{starts_with}
use Rattle.std.specs.Str.{bytes_eq}
use Rattle.mq_calls.specs.from_objects.{Display, Object, Subjects}
use Rattle.mq_calls.specs.from_objects.ObjectVariants as objects
use Rattle.mq_calls.specs.from_objects.SubjectsVariants as shows
use Rattle.mq_calls.specs.from_objects.Names.{space_in, same_space, space_of, name_of, is_object}
use Rattle.mq_sc_apply.specs.Uses.{Uses}
use Rattle.mq_sc_apply.specs.Displayed.{is_meant, searched_space, has_name, is_shown, object_line, lines_of}

pub lines_of-first : (d : Display) (u : Uses) (o : Object) (os : List Object) → lines_of d u (o ∷ os) ≡ lines_of d u (o ∷ []) ++ lines_of d u os
lines_of-first d u o os = by (is_shown d o)
  where
    by : (b : Bool) → map (object_line d.asked u) (cond b (o ∷ filter (is_shown d) os) (filter (is_shown d) os)) ≡ map (object_line d.asked u) (cond b (o ∷ []) []) ++ map (object_line d.asked u) (filter (is_shown d) os)
    by true = refl
    by false = refl

-- an object that is meant stands in the name space that is searched
meant_space : (s : Subjects) (o : Object) → is_meant s o ≡ true → same_space (space_in (searched_space s)) (space_of o) ≡ true
meant_space shows.Locals (objects.Local x) e = refl
meant_space shows.Locals (objects.Alias x) e = refl
meant_space shows.Locals (objects.Remote x) e = refl
meant_space shows.Locals (objects.Channel x) e = absurd (cc e)
meant_space shows.Locals (objects.Process x) e = absurd (cc e)
meant_space shows.Aliases (objects.Local x) e = refl
meant_space shows.Aliases (objects.Alias x) e = refl
meant_space shows.Aliases (objects.Remote x) e = refl
meant_space shows.Aliases (objects.Channel x) e = absurd (cc e)
meant_space shows.Aliases (objects.Process x) e = absurd (cc e)
meant_space shows.Remotes (objects.Local x) e = refl
meant_space shows.Remotes (objects.Alias x) e = refl
meant_space shows.Remotes (objects.Remote x) e = refl
meant_space shows.Remotes (objects.Channel x) e = absurd (cc e)
meant_space shows.Remotes (objects.Process x) e = absurd (cc e)
meant_space shows.Queues (objects.Local x) e = refl
meant_space shows.Queues (objects.Alias x) e = refl
meant_space shows.Queues (objects.Remote x) e = refl
meant_space shows.Queues (objects.Channel x) e = absurd (cc e)
meant_space shows.Queues (objects.Process x) e = absurd (cc e)
meant_space shows.Manager (objects.Local x) e = refl
meant_space shows.Manager (objects.Alias x) e = refl
meant_space shows.Manager (objects.Remote x) e = refl
meant_space shows.Manager (objects.Channel x) e = absurd (cc e)
meant_space shows.Manager (objects.Process x) e = absurd (cc e)
meant_space shows.Channels (objects.Local x) e = absurd (cc e)
meant_space shows.Channels (objects.Alias x) e = absurd (cc e)
meant_space shows.Channels (objects.Remote x) e = absurd (cc e)
meant_space shows.Channels (objects.Channel x) e = refl
meant_space shows.Channels (objects.Process x) e = absurd (cc e)
meant_space shows.Processes (objects.Local x) e = absurd (cc e)
meant_space shows.Processes (objects.Alias x) e = absurd (cc e)
meant_space shows.Processes (objects.Remote x) e = absurd (cc e)
meant_space shows.Processes (objects.Channel x) e = absurd (cc e)
meant_space shows.Processes (objects.Process x) e = refl

-- an object that a whole name shows has that name in the name space that is searched
shown_named : (d : Display) → d.any_end ≡ false → (o : Object) → is_shown d o ≡ true → is_object (space_in (searched_space d.subjects)) d.name o ≡ true
shown_named d whole o e =
    let space = meant_space d.subjects o (first_so (is_meant d.subjects o) (has_name d (name_of o)) e) in
    let has = second_so (is_meant d.subjects o) (has_name d (name_of o)) e in
    let name : bytes_eq d.name (name_of o) ≡ true = sym (λ i. cond (whole i) (starts_with nat_eq (name_of o) d.name) (bytes_eq d.name (name_of o))) ∙ has in
    λ i. space i && name i

-- a test passes the same where a wider one went before it
narrowed : (p q : Object → Bool) → ((o : Object) → p o ≡ true → q o ≡ true) → (os : List Object) → filter p os ≡ filter p (filter q os)
narrowed p q wider [] = refl
narrowed p q wider (o ∷ os) = by (p o) refl (q o) refl (narrowed p q wider os)
  where
    by : (a : Bool) → p o ≡ a → (b : Bool) → q o ≡ b → filter p os ≡ filter p (filter q os) → cond a (o ∷ filter p os) (filter p os) ≡ filter p (cond b (o ∷ filter q os) (filter q os))
    by true e true f rest = ap (λ (l : List Object). o ∷ l) rest ∙ sym (λ i. cond (e i) (o ∷ filter p (filter q os)) (filter p (filter q os)))
    by true e false f rest = absurd (cc (wider o e, f))
    by false e true f rest = rest ∙ sym (λ i. cond (e i) (o ∷ filter p (filter q os)) (filter p (filter q os)))
    by false e false f rest = rest

-- the lines of a whole name are those of the one object with it
pub lines_of-named : (d : Display) (u : Uses) (os : List Object) (r : Option Object) → d.any_end ≡ false
    → filter (is_object (space_in (searched_space d.subjects)) d.name) os ≡ option_to_list r → lines_of d u os ≡ lines_of d u (option_to_list r)
lines_of-named d u os r whole only =
    ap (map (object_line d.asked u)) (narrowed (is_shown d) (is_object (space_in (searched_space d.subjects)) d.name) (shown_named d whole) os ∙ ap (filter (is_shown d)) only)
