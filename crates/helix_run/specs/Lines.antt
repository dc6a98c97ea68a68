-- The lines that a run shows on the console.
use Rattle.std.specs.Prelude.{ℕ, List, ◌++◌, codes, decimal}

-- where the words give no order
abbrev pub usage_line : List ℕ
usage_line = codes "usage"

-- where the profile is refused
abbrev pub refused_line : List ℕ
refused_line = codes "refused: rule NotYet at #"

-- where reading failed
abbrev pub read_fault_line : List ℕ
read_fault_line = codes "fault: read"

-- where writing failed
abbrev pub write_fault_line : List ℕ
write_fault_line = codes "fault: write"

-- where memory ran out
abbrev pub memory_line : List ℕ
memory_line = codes "fault: memory"

-- where the rows are written: how many they are
abbrev pub done_line : ℕ → List ℕ
done_line rows = codes "done: " ++ decimal rows ++ codes " rows"
