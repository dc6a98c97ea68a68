-- The ranges that an expression is made of.
use Rattle.std.specs.Prelude.{ℕ, List, [], ◌++◌}
use Rattle.helix_expr.specs.declared.expr.Expr.{Expr, Empty, Chars, Seq', Alt', Repeat', Row_of-Expr, end_of-Expr, more_of-Expr}

abbrev mutual
  -- the ranges of an expression, those of a part that is repeated once
  pub expr_ranges : Expr → List (ℕ × ℕ)
  expr_ranges Empty = []
  expr_ranges (Chars ranges) = ranges
  expr_ranges (Seq' shape parts) = expr_ranges_of_parts parts
  expr_ranges (Alt' shape parts) = expr_ranges_of_parts parts
  expr_ranges (Repeat' pointer part least most) = expr_ranges_of_parts part

  -- the ranges of all parts
  pub expr_ranges_of_parts : {m : _} → Row_of-Expr m → List (ℕ × ℕ)
  expr_ranges_of_parts end_of-Expr = []
  expr_ranges_of_parts (more_of-Expr part parts) = expr_ranges part ++ expr_ranges_of_parts parts
