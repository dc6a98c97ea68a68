use Rattle.std.proofs.Common.{◌≡◌, ◌+◌, ◌≤◌, ◌++◌, length, take}
use Rattle.helix_json.proofs.lexeme.read_letters.Given as goal

abbrev pub invariant-loop-i : goal.invariant-loop-i
invariant-loop-i l = (l.from + l.i ≤ length l.codes)
    × (take (l.from + l.i) l.codes ≡ take l.from l.codes ++ take l.i l.letters)
