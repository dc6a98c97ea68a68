use Rattle.std.proofs.Common.{IfOk, subst, sym}
use Rattle.helix_json.specs.declared.value.Json.{Json}
use Rattle.helix_operands.specs.Values.{GivesPattern, Reads}
use Rattle.helix_operands.proofs.patterns.pattern_in.Goals as goal

pub returns-in-Str : goal.returns-in-Str
returns-in-Str c = let P : Json → Type 0 = λ v. IfOk c.parsed.result (Reads (GivesPattern v)) in
    subst P (sym c.in-Str.is) c.parsed.ensures
