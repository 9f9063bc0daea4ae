-- The names of files.
use Rattle.std.specs.Prelude.{ℕ, List, ◌++◌, map, codes, if◌then◌else◌, ◌==◌}
use Rattle.mq_disk.specs.declared.shelf.Side.{Side}
use Rattle.mq_disk.specs.declared.shelf.Side.TheVariants.{A, B}

-- a slash is written as an ampersand, which stands in no name
abbrev pub in_file_name : ℕ → ℕ
in_file_name byte = if byte == 47 then 38 else byte

-- what each side's file ends in
abbrev pub side_suffix : Side → List ℕ
side_suffix A = codes ".a.qlog"
side_suffix B = codes ".b.qlog"

-- the name of a manager's file
abbrev pub file_name_of : List ℕ → Side → List ℕ
file_name_of name side = map in_file_name name ++ side_suffix side
