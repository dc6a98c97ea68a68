use Rattle.std.proofs.Common.{sym, subst}
use Rattle.helix_json.specs.declared.value.Json.{Json}
use Rattle.helix_references.specs.Inner.Wholes.{SaysWhole}
use Rattle.helix_references.proofs.whole.whole_in.Goals as goal

pub returns-in-Number : goal.returns-in-Number
returns-in-Number c = let P : Json → Type 0 = λ v. SaysWhole v c.whole_of.result in
    subst P (sym c.in-Number.is) c.whole_of.ensures
