use Rattle.std.proofs.Common.{subst, sym, nat_eq, Contains}
use Rattle.std.proofs.lemmas.Bool.{eqb-true}
use Rattle.indexmap.proofs.CallerLemmas.{Contains-insert_key}
use Rattle.helix_compile.proofs.seen.Seen.note.Goals as goal

pub returns-clause-seen : goal.returns-clause-seen
returns-clause-seen c = subst (λ l. Contains l c.args.number) (sym c.in_ok-insert.ensures.keys)
    (Contains-insert_key nat_eq (λ x y e. eqb-true x y e) c.self.inside.set.keys c.args.number)
