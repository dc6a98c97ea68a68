use Rattle.std.proofs.Common.{◌↔◌, drop}
use Rattle.std.specs.List.{AllByRecursion}
use Rattle.helix_token.specs.Broken.{IsRowString}
use Rattle.helix_token.proofs.form.are_marked.Given as goal

abbrev pub invariant-loop-string : goal.invariant-loop-string
invariant-loop-string l =
    AllByRecursion IsRowString (drop l.string-index l.strings) ↔ AllByRecursion IsRowString l.strings
