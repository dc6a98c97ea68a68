-- A part that leads back to the split before it is passed any number of times.
use Rattle.std.proofs.Common.{◌≡◌, ◌≢◌, ℕ, ◌≤◌, ◌<◌, zero, suc, inl, inr, Some, List, [], ◌∷◌, ◌++◌, length, slice_get, set, refl, sym, ap, ◌∙◌, subst, arith, append_assoc}
use Rattle.std.proofs.lemmas.List.{length-append, length-set, get_or-set_other, get_or-set_same}
use Rattle.std.proofs.lemmas.Option.{slice_get-get_or}
use Rattle.helix_expr.specs.Matching.{Joined}
use Rattle.helix_compile.specs.declared.nfa.State.{State}
use Rattle.helix_compile.specs.declared.nfa.State.TheVariants.{Accept, Fail, Split}
use Rattle.helix_compile.specs.Inner.Nfa.{NfaAcceptsIn, NfaAccepts, LeadsThrough, Grows, Builds}
use Rattle.helix_compile.specs.Inner.Repeats.{AnyNumber}
use Rattle.helix_compile.proofs.Leading.{split_reads, split_first, split_second}
use Rattle.helix_compile.proofs.Building.{grows_push}

module _ (nfa : List State) (split next first : ℕ) (L : List ℕ → Type 0)
    (at : slice_get nfa split ≡ Some (Split next first)) (part : LeadsThrough nfa first L split) where
  Splits : ℕ → List ℕ → Type 0
  Splits steps word = (prefix : List ℕ) × (rest : List ℕ) × (fewer : ℕ) × (word ≡ prefix ++ rest) × AnyNumber L prefix
      × (fewer ≤ steps) × NfaAcceptsIn nfa fewer next rest

  splits_below : (bound steps : ℕ) (word : List ℕ) → steps ≤ bound → NfaAcceptsIn nfa steps split word
      → Splits steps word
  unfolding Splits
  splits_below bound zero word low reads = absurd reads
  splits_below zero (suc steps) word low reads = absurd (omega (arith, low))
  splits_below (suc bound) (suc steps) word low reads = elim (split_reads nfa split next first at steps word reads) [
    | inl goes ↦ ([], word, steps, refl, (0, refl), omega arith, goes)
    | inr goes ↦ (
        let (prefix, later, fewer, is, has, few, on) = part.splits steps word goes in
        let (more, rest, least, splits, (count, joined), less, ends) =
        splits_below bound fewer later (omega (arith, low, few)) on in (
          prefix ++ more,
          rest,
          least,
          is ∙ (ap (λ l. prefix ++ l) splits ∙ sym (append_assoc prefix more rest)),
          (suc count, (prefix, more, refl, has, joined)),
          omega (arith, few, less),
          ends,
        ))
  ]

  joins_times : (count : ℕ) (prefix rest : List ℕ) → Joined L count prefix → NfaAccepts nfa next rest
      → NfaAccepts nfa split (prefix ++ rest)
  joins_times zero prefix rest empty reads =
      subst (λ f. NfaAccepts nfa split (f ++ rest)) (sym empty) (split_first nfa split next first at rest reads)
  joins_times (suc count) prefix rest (one, more, is, has, joined) reads =
      subst (λ l. NfaAccepts nfa split l) (sym (ap (λ l. l ++ rest) is ∙ append_assoc one more rest))
      (split_second nfa split next first at (one ++ (more ++ rest))
      (part.joins one (more ++ rest) has (joins_times count more rest joined reads)))

  pub leads_star : LeadsThrough nfa split (AnyNumber L) next
  unfolding Splits
  leads_star = record {
    splits = λ steps word reads. splits_below steps steps word (omega arith) reads;
    joins = λ prefix rest (count, joined) reads. joins_times count prefix rest joined reads;
  }

-- the split is put where a state was kept for it
module _ (a b c : List State) (split first next : ℕ) (L : List ℕ → Type 0) (kept : List State) (is : kept ≡ a
    ++ Fail ∷ []) (at : split ≡ length a) (grows : Grows kept b) (put : c ≡ set b split (Split next first)) where
  kept_length : length kept ≡ suc (length a)
  kept_length = ap length is ∙ (length-append a (Fail ∷ []) ∙ omega arith)

  in_b : split < length b
  in_b = omega (arith, at, kept_length, grows.longer)

  same_behind : (k : ℕ) → k ≢ split → k < length b → slice_get c k ≡ slice_get b k
  same_behind k other within =
      let long : k < length (set b split (Split next first)) =
      omega (arith, within, length-set b split (Split next first)) in
      ap (λ l. slice_get l k) put ∙ (slice_get-get_or (set b split (Split next first)) k Accept long
      ∙ (ap (λ p. Some p) (get_or-set_other b split k (Split next first) Accept other)
      ∙ sym (slice_get-get_or b k Accept within)))

  put_there : slice_get c split ≡ Some (Split next first)
  put_there =
      let long : split < length (set b split (Split next first)) =
      omega (arith, in_b, length-set b split (Split next first)) in
      ap (λ l. slice_get l split) put
      ∙ (slice_get-get_or (set b split (Split next first)) split Accept long
      ∙ ap (λ p. Some p) (get_or-set_same b split (Split next first) Accept in_b))

  c_length : length c ≡ length b
  c_length = ap length put ∙ length-set b split (Split next first)

  pub grows_circle : Grows a c
  grows_circle = record {
    longer = omega (arith, c_length, kept_length, grows.longer);
    keeps = λ k within. same_behind k (λ e. omega (arith, e, at, within))
        (omega (arith, within, kept_length, grows.longer))
        ∙ (grows.keeps k (omega (arith, within, kept_length)) ∙ (grows_push a kept Fail is).keeps k within);
  }

  pub builds_star : Builds kept b first L split → Builds a c split (AnyNumber L) next
  builds_star builds nfa agree = leads_star nfa split next first L
      (agree split (omega (arith, at)) (omega (arith, in_b, c_length)) ∙ put_there)
      (builds nfa (λ k from within. agree k (omega (arith, from, kept_length)) (omega (arith, within, c_length))
      ∙ same_behind k (λ e. omega (arith, e, from, kept_length, at)) within))
