-- The moves of a question to texts.
use Rattle.std.proofs.Common.{◌≡◌, ◌+◌, ◌*◌, sym, subst, arith}
use Rattle.helix_automata.specs.Automaton.{most_arcs}
use Rattle.helix_base.specs.Steps.{Tally}
use Rattle.helix_base.specs.declared.steps.Unit.{Unit as Step}
use Rattle.helix_values.specs.Class.{Class}
use Rattle.helix_values.specs.Counts.{characters}
use Rattle.helix_words.specs.Moves.{MovedAtMost}
use Rattle.helix_words.specs.MovesLaws.{moved_wider}
use Rattle.helix_words.specs.Words.{WordSet}
use Rattle.helix_domains.specs.Asking.{most_moves}
use Rattle.helix_domains.specs.declared.values.Values.{Values}
use Rattle.helix_domains.specs.declared.values.Values.TheVariants.{Texts}
use Rattle.helix_domains.specs.Inner.Values.{AreInForm}

pub few_moves : {L : Type 0} (IsNoted : L → Step → L → Type 0) (class : Class) (values : Values) (words : WordSet)
    (old new : Tally L) → values ≡ Texts words → AreInForm class values
    → MovedAtMost IsNoted (1001 + 2002 * (1 + most_arcs words.automaton)) old new
    → MovedAtMost IsNoted (most_moves class) old new
few_moves IsNoted class values words old new is form moved =
    let parts = subst (AreInForm class) is form in
    subst (λ c. MovedAtMost IsNoted (most_moves c) old new) (sym parts.0)
    (moved_wider IsNoted (1001 + 2002 * (1 + most_arcs words.automaton)) (1001 + 2002 * (1 + characters)) old new
    (omega (arith, parts.2)) moved)
