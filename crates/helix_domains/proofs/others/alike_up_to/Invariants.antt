use Rattle.std.proofs.Common.{◌≡◌, ◌↔◌, ℕ, ◌≤◌, Some, take, get_or}
use Rattle.std.specs.List.{Contains}
use Rattle.helix_values.specs.declared.cell.Cell.TheVariants as cell
use Rattle.helix_domains.specs.Inner.Spelling.{code_in}
use Rattle.helix_domains.proofs.others.alike_up_to.Given as goal

abbrev pub invariant-loop-number : goal.invariant-loop-number
invariant-loop-number l = record {
  reached : l.code ≤ l.last;
  alike : (other : ℕ) → l.code ≤ other → other ≤ l.last → (number : ℕ)
      → Contains (take l.number-index l.numbers) number
      → (code_in (get_or l.cells number cell.Null) l.place ≡ Some other)
      ↔ (code_in (get_or l.cells number cell.Null) l.place ≡ Some l.code);
}
