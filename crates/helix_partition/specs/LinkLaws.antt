-- Linked fields: each is linked with itself, links go both ways and on, and the fields of a constraint are linked.
-- Lemmas for this crate and those above.
use Rattle.std.proofs.Common.{◌≡◌, ℕ, zero, suc, ◌⊎◌, inl, inr, ⊎_elim, true, List, [], ◌∷◌, length, refl, sym, ap, ◌∙◌, subst, arith}
use Rattle.helix_profile.specs.Fields.{fields_of}
use Rattle.helix_profile.specs.Width.{is_linked, is_in_group}
use Rattle.helix_profile.specs.declared.constraint.Constraint.{Constraint}
use Rattle.helix_partition.specs.ChainLaws.{Names, IsIn, Chain, Path, field_of, any_field, to_chain, from_chain, onto, path_back, path_on}

-- A chain needs no constraint twice.

without : (cs : List Constraint) (c : Constraint) → IsIn cs c → List Constraint
without [] c none = absurd none
without (d ∷ cs) c (inl here) = cs
without (d ∷ cs) c (inr later) = d ∷ without cs c later

length-without : (cs : List Constraint) (c : Constraint) (listed : IsIn cs c)
    → length cs ≡ suc (length (without cs c listed))
unfolding without
length-without [] c none = absurd none
length-without (d ∷ cs) c (inl here) = refl
length-without (d ∷ cs) c (inr later) = ap suc (length-without cs c later)

it_or_other : (cs : List Constraint) (c : Constraint) (listed : IsIn cs c) (x : Constraint) → IsIn cs x
    → (x ≡ c) ⊎ IsIn (without cs c listed) x
unfolding without
it_or_other [] c none x among = absurd none
it_or_other (d ∷ cs) c (inl here) x (inl same) = inl (sym same ∙ here)
it_or_other (d ∷ cs) c (inl here) x (inr among) = inr among
it_or_other (d ∷ cs) c (inr later) x (inl same) = inr (inl same)
it_or_other (d ∷ cs) c (inr later) x (inr among) = ⊎_elim inl (λ other. inr (inr other))
    (it_or_other cs c later x among)

still_in : (cs : List Constraint) (c : Constraint) (listed : IsIn cs c) (x : Constraint)
    → IsIn (without cs c listed) x → IsIn cs x
unfolding without
still_in [] c none x among = absurd none
still_in (d ∷ cs) c (inl here) x among = inr among
still_in (d ∷ cs) c (inr later) x (inl same) = inl same
still_in (d ∷ cs) c (inr later) x (inr among) = inr (still_in cs c later x among)

-- where a chain begins after its last use of a constraint
abbrev Start : List Constraint → Constraint → ℕ → Type 0
Start others c to = (start : ℕ) × Names c start × Path others start to

module _ (cs : List Constraint) (c : Constraint) (listed : IsIn cs c) where
  after_last : (count from to : ℕ) → Chain cs count from to
      → Path (without cs c listed) from to ⊎ Start (without cs c listed) c to
  after_last zero from to same = inl (zero, same)
  after_last (suc count) from to (inl same) = inl (zero, same)
  after_last (suc count) from to (inr step) = ⊎_elim
      (λ path. ⊎_elim
      (λ it. inr (step.next, subst (λ d. Names d step.next) it step.to, path))
      (λ other. inl (
        suc path.0,
        inr (record {
          constraint = step.constraint;
          listed = other;
          from = step.from;
          next = step.next;
          to = step.to;
          rest = path.1;
        }),
      ))
      (it_or_other cs c listed step.constraint step.listed))
      inr
      (after_last count step.next to step.rest)

  with_it : (count from to : ℕ) → Chain (without cs c listed) count from to → Chain cs count from to
  with_it zero from to same = same
  with_it (suc count) from to (inl same) = inl same
  with_it (suc count) from to (inr step) = inr (record {
    constraint = step.constraint;
    listed = still_in cs c listed step.constraint step.listed;
    from = step.from;
    next = step.next;
    to = step.to;
    rest = with_it count step.next to step.rest;
  })

no_step : (count from to : ℕ) → Chain [] count from to → from ≡ to
no_step zero from to same = same
no_step (suc count) from to (inl same) = same
no_step (suc count) from to (inr step) = absurd step.listed

short_chain : (most : ℕ) (cs : List Constraint) → length cs ≡ most → (count from to : ℕ) → Chain cs count from to
    → Chain cs most from to
short_chain zero [] is count from to chain = no_step count from to chain
short_chain zero (c ∷ cs) is count from to chain = absurd (omega (arith, is))
short_chain (suc most) cs is zero from to same = inl same
short_chain (suc most) cs is (suc count) from to (inl same) = inl same
short_chain (suc most) cs is (suc count) from to (inr step) =
    let c : Constraint = step.constraint in
    let fewer : length (without cs c step.listed) ≡ most = omega (arith, is, length-without cs c step.listed) in
    let begin : (start : ℕ) → Names c start → Path (without cs c step.listed) start to → Chain cs (suc most) from to =
    λ start named path. inr (record {
      constraint = c;
      listed = step.listed;
      from = step.from;
      next = start;
      to = named;
      rest = with_it cs c step.listed most start to
          (short_chain most (without cs c step.listed) fewer path.0 start to path.1);
    }) in
    ⊎_elim (λ path. begin step.next step.to path) (λ found. begin found.0 found.1 found.2)
    (after_last cs c step.listed count step.next to step.rest)

-- What being linked is.

module _ (cs : List Constraint) where
  pub path_linked : (from to : ℕ) → Path cs from to → is_linked cs from to ≡ true
  path_linked from to path =
      from_chain cs (length cs) from to (short_chain (length cs) cs refl path.0 from to path.1)

  pub linked_path : (from to : ℕ) → is_linked cs from to ≡ true → Path cs from to
  linked_path from to linked = (length cs, to_chain cs (length cs) from to linked)

  pub linked_self : (field : ℕ) → is_linked cs field field ≡ true
  linked_self field = path_linked field field (zero, refl)

  pub linked_back : (from to : ℕ) → is_linked cs from to ≡ true → is_linked cs to from ≡ true
  linked_back from to linked = let path = linked_path from to linked in
      path_linked to from (path_back cs path.0 from to path.1)

  pub linked_on : (from at to : ℕ) → is_linked cs from at ≡ true → is_linked cs at to ≡ true
      → is_linked cs from to ≡ true
  linked_on from at to one two = let path = linked_path from at one in
      path_linked from to (path_on cs path.0 from at to path.1 (linked_path at to two))

  pub linked_by : (c : Constraint) (from to : ℕ) → IsIn cs c → Names c from → Names c to
      → is_linked cs from to ≡ true
  linked_by c from to listed names also = path_linked from to (
    suc zero,
    onto cs zero from from to c refl listed names
        also,
  )

  -- a field is linked with the fields of a constraint as with one of them
  pub in_group : (c : Constraint) (field named : ℕ) → Names c named → is_linked cs field named ≡ true
      → is_in_group cs field c ≡ true
  in_group c field named names linked = any_field (λ n. is_linked cs field n) (fields_of c) named names linked

  pub group_in : (c : Constraint) (field : ℕ) → is_in_group cs field c ≡ true
      → (named : ℕ) × Names c named × (is_linked cs field named ≡ true)
  group_in c field found = field_of (λ n. is_linked cs field n) (fields_of c) found
