-- What may come next is kept by its nest alone.
use Rattle.std.proofs.Common.{◌≡◌, ℕ, ◌+◌, ◌-◌, Option, Some, None, List, [], ◌∷◌, ◌++◌, length, take, refl, sym, ◌∙◌, ap, subst, arith}
use Rattle.std.proofs.lemmas.List.{same_from_push, take_at, length_push}
use Rattle.helix_json.specs.declared.token.Token.{Token}
use Rattle.helix_json.specs.declared.need.Need.{Need}
use Rattle.helix_json.specs.declared.need.Need.TheVariants as need
use Rattle.helix_json.specs.declared.need.Container.{Container}
use Rattle.helix_json.specs.declared.need.Container.TheVariants as container
use Rattle.helix_json.specs.declared.need.TokenKind.{TokenKind}
use Rattle.helix_json.specs.declared.need.Advance.{Advance}
use Rattle.helix_json.specs.declared.need.Advance.TheVariants as advance
use Rattle.helix_json.specs.declared.nest.Nest.{Nest}
use Rattle.helix_json.specs.Inner.Machine.{Reading, value, first_item, first_key, key, colon, after, Frame, in_list, in_object, step}
use Rattle.helix_json.specs.Inner.Need.{kind_of_token, need_step, need_of, opened, containers, innermost, IsLast}
use Rattle.helix_json.specs.Inner.Progress.{Tracks}
use Rattle.helix_json.proofs.Needs.{Knows, Does, does}

pub no_push : (cs : List Container) (c : Container) → cs ++ c ∷ [] ≡ [] → ⊥
no_push [] c e = cc
no_push (x ∷ cs) c e = cc

last_is : (fs : List Frame) (i : Option Container) → IsLast (opened fs) i → i ≡ innermost fs
last_is [] None e = refl
last_is [] (Some c) (outer, e) = absurd (no_push outer c (sym e))
last_is (in_list xs ∷ fs) None e = absurd (no_push (opened fs) container.List e)
last_is (in_object ms k ∷ fs) None e = absurd (no_push (opened fs) container.Object e)
last_is (in_list xs ∷ fs) (Some c) (outer, e) =
    ap (λ x. Some x) (sym (same_from_push (opened fs) outer container.List c e).1)
last_is (in_object ms k ∷ fs) (Some c) (outer, e) =
    ap (λ x. Some x) (sym (same_from_push (opened fs) outer container.Object c e).1)

knows : (r : Reading) (i : Option Container) → IsLast (containers r) i → Knows r i
knows (value fs) i last = tt
knows (first_item fs) i last = tt
knows (first_key fs) i last = tt
knows (key ms fs) i last = tt
knows (colon ms k fs) i last = tt
knows (after x fs) i last = last_is fs i last

-- what the advance of a tracked reading does
advances : (nest : Nest) (r : Reading) (t : Token) (kind : TokenKind) (i : Option Container) (a : Advance)
    → IsLast nest.containers.items i → a ≡ need_step nest.need i kind
    → Tracks nest r → kind_of_token t ≡ kind → Does a (step r t) r
advances nest r t kind i a last is tracks same =
    let known : Knows r i = knows r i (subst (λ l. IsLast l i) tracks.1 last) in
    subst (λ b. Does b (step r t) r) (sym (is
    ∙ (ap (λ n. need_step n i kind) tracks.0 ∙ ap (λ k. need_step (need_of r) i k) (sym same)))) (does r t i known)

-- a token of that kind may come there, and the nest after it
abbrev pub Goes : Nest → TokenKind → Need → List Container → Type 0
Goes old kind n cs = (r : Reading) (t : Token) → Tracks old r → kind_of_token t ≡ kind
    → (q : Reading) × (step r t ≡ Some q) × ((n ≡ need_of q) × (cs ≡ containers q))

module _ (old : Nest) (kind : TokenKind) (i : Option Container) (last : IsLast old.containers.items i) where
  pub stays : (n : Need) → advance.Stay n ≡ need_step old.need i kind → Goes old kind n old.containers.items
  stays n is r t tracks k = let (q, go, needs, holds) = advances old r t kind i (advance.Stay n) last is tracks k in
      (q, go, (sym needs, tracks.1 ∙ sym holds))

  pub opens : (n : Need) (c : Container) (cs : List Container) → advance.Open n c ≡ need_step old.need i kind
      → cs ≡ old.containers.items ++ c ∷ [] → Goes old kind n cs
  opens n c cs is more r t tracks k = let (
    q,
    go,
    needs,
    holds,
  ) = advances old r t kind i (advance.Open n c) last is tracks k in
      (q, go, (sym needs, more ∙ (ap (λ l. l ++ c ∷ []) tracks.1 ∙ sym holds)))

  pub closes : (cs : List Container) → advance.Close ≡ need_step old.need i kind
      → ((outer : List Container) (c : Container) → old.containers.items ≡ outer ++ c ∷ [] → cs ≡ outer)
      → Goes old kind need.After cs
  closes cs is less r t tracks k = let (
    q,
    c,
    go,
    needs,
    holds,
  ) = advances old r t kind i advance.Close last is tracks k in
      (q, go, (sym needs, less (containers q) c (tracks.1 ∙ holds)))

-- a list without its last
pub without_last : (old outer : List Container) (c : Container) (n : ℕ) → n ≡ length old → old ≡ outer ++ c ∷ []
    → take (n - 1) old ≡ outer
without_last old outer c n len is =
    let size : length (outer ++ c ∷ []) ≡ length outer + 1 = length_push outer c in
    let same : length old ≡ length (outer ++ c ∷ []) = ap length is in
    ap (take (n - 1)) is ∙ take_at outer (c ∷ []) (n - 1) (omega arith)
