-- The rows of a boolean field: false and true, and after them null where it is allowed.
use Rattle.std.proofs.Common.{◌≡◌, ℕ, zero, suc, ◌<◌, List, [], ◌∷◌, refl, sym, subst, inl, arith, true, false}
use Rattle.std.specs.Prelude.{Some, None, Contains, slice_index_or}
use Rattle.helix_run.specs.Profile.{Field}
use Rattle.helix_run.specs.Rows.{Flag, IsFlagOf, IsFlagRow, IsFlagAnswer}

abbrev row : Flag → List Flag
row cell = cell ∷ []

-- what holds of each member holds of what is listed
of_three : (P : List Flag → Type 0) (a b c x : List Flag) → P a → P b → P c → (k : ℕ) → k < 3
    → slice_index_or (a ∷ b ∷ c ∷ []) k x ≡ x → P x
of_three P a b c x p q r zero within e = subst P e p
of_three P a b c x p q r (suc zero) within e = subst P e q
of_three P a b c x p q r (suc (suc zero)) within e = subst P e r
of_three P a b c x p q r (suc (suc (suc k))) within e = absurd (omega arith)

of_two : (P : List Flag → Type 0) (a b x : List Flag) → P a → P b → (k : ℕ) → k < 2
    → slice_index_or (a ∷ b ∷ []) k x ≡ x → P x
of_two P a b x p q zero within e = subst P e p
of_two P a b x p q (suc zero) within e = subst P e q
of_two P a b x p q (suc (suc k)) within e = absurd (omega arith)

good : (field : Field) (cell : Flag) → IsFlagOf field cell → IsFlagRow field (row cell)
good field cell allowed = record { cell = cell; alone = refl; allowed = allowed }

listed_three : (field : Field) (cell : Flag) → Contains (row (Some false) ∷ row (Some true) ∷ row None ∷ []) (row cell)
listed_three field (Some false) = (0, omega arith, refl)
listed_three field (Some true) = (1, omega arith, refl)
listed_three field None = (2, omega arith, refl)

listed_two : (field : Field) → field.nullable ≡ false → (cell : Flag) → IsFlagOf field cell
    → Contains (row (Some false) ∷ row (Some true) ∷ []) (row cell)
listed_two field never (Some false) allowed = (0, omega arith, refl)
listed_two field never (Some true) allowed = (1, omega arith, refl)
listed_two field never None allowed = absurd (cc)

pub IsFlagAnswer-nullable : (field : Field) → field.nullable ≡ true
    → IsFlagAnswer field (row (Some false) ∷ row (Some true) ∷ row None ∷ [])
IsFlagAnswer-nullable field nullable = record {
  ascending = ((inl tt, (inl tt, tt)), ((inl tt, tt), (tt, tt)));
  members = λ x. (
    λ listed. of_three (IsFlagRow field) (row (Some false)) (row (Some true)) (row None) x (good field (Some false) tt)
        (good field (Some true) tt) (good field None nullable) listed.0 listed.1 listed.2,
    λ is. subst (Contains (row (Some false) ∷ row (Some true) ∷ row None ∷ [])) (sym is.alone)
        (listed_three field is.cell),
  );
}

pub IsFlagAnswer-never_null : (field : Field) → field.nullable ≡ false
    → IsFlagAnswer field (row (Some false) ∷ row (Some true) ∷ [])
IsFlagAnswer-never_null field never = record {
  ascending = ((inl tt, tt), (tt, tt));
  members = λ x. (
    λ listed. of_two (IsFlagRow field) (row (Some false)) (row (Some true)) x (good field (Some false) tt)
        (good field (Some true) tt) listed.0 listed.1 listed.2,
    λ is. subst (Contains (row (Some false) ∷ row (Some true) ∷ [])) (sym is.alone)
        (listed_two field never is.cell is.allowed),
  );
}
