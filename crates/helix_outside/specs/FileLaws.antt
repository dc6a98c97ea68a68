-- Laws of files: what an insert and an append leave.
use Rattle.std.specs.Prelude.{◌≡◌, ◌≢◌, Bool, true, false, cond, List, ℕ, [], ◌∷◌, ◌++◌, Some, unwrap_or, refl}
use Rattle.std.specs.Ordering.{nat_cmp, is_eq, eq_by_cmp}
use Rattle.std.specs.Cmp.{tied_itself, Equal-is}
use Rattle.std.specs.Cmp.Lexicographic.{slice_cmp, nat_list_cmp_total}
use Rattle.std.specs.FinMap.{get, insert, get-insert, same_map, IsAntisymmetric}
use Rattle.std.specs.FinMap.{slice_cmp-IsAntisymmetric, nat_cmp-IsAntisymmetric}
use Rattle.std.proofs.Common.{ap, sym, ◌∙◌, append_assoc, append-nil}
use Rattle.helix_outside.specs.Files.{FileMap, content, appended}

twice : {X : Type 0} (b : Bool) (x y z : X) → cond b x (cond b y z) ≡ cond b x z
twice true x y z = refl
twice false x y z = refl

swapped : {X : Type 0} (a b : Bool) (x y z : X) → (a ≡ true → b ≡ true → ⊥)
    → cond a x (cond b y z) ≡ cond b y (cond a x z)
swapped true true x y z apart = absurd (apart refl refl)
swapped true false x y z apart = refl
swapped false b x y z apart = refl

-- only equal names tie
pub one_name : IsAntisymmetric (slice_cmp nat_cmp)
one_name = slice_cmp-IsAntisymmetric nat_cmp-IsAntisymmetric

abbrev same : List ℕ → List ℕ → Bool
same = eq_by_cmp (slice_cmp nat_cmp)

pub same_name : (a b : List ℕ) → eq_by_cmp (slice_cmp nat_cmp) a b ≡ true → a ≡ b
same_name a b e = one_name a b ((Equal-is (slice_cmp nat_cmp a b)).0 e)

-- what is read after a setting
after_insert : (files : FileMap) (name bytes q : List ℕ)
    → get (insert files name bytes) q ≡ cond (same q name) (Some bytes) (get files q)
after_insert = get-insert nat_list_cmp_total

-- a file that was set is read back
pub get_same : (files : FileMap) (name bytes : List ℕ) → get (insert files name bytes) name ≡ Some bytes
get_same files name bytes =
    after_insert files name bytes name
    ∙ ap (λ o. cond (is_eq o) (Some bytes) (get files name)) (tied_itself nat_list_cmp_total name)

-- of two settings of one file the later one counts
pub insert_again : (files : FileMap) (name first second : List ℕ)
    → insert (insert files name first) name second ≡ insert files name second
insert_again files name first second =
    same_map nat_list_cmp_total one_name _ _
    (λ q. after_insert (insert files name first) name second q
    ∙ ap (cond (same q name) (Some second)) (after_insert files name first q)
    ∙ twice (same q name) _ _ _
    ∙ sym (after_insert files name second q))

-- the settings of two files may be swapped
pub insert_swap : (files : FileMap) (a x b y : List ℕ) → a ≢ b
    → insert (insert files a x) b y ≡ insert (insert files b y) a x
insert_swap files a x b y apart =
    same_map nat_list_cmp_total one_name _ _
    (λ q. after_insert (insert files a x) b y q
    ∙ ap (cond (same q b) (Some y)) (after_insert files a x q)
    ∙ swapped (same q b) (same q a) _ _ _ (λ is_b is_a. apart (sym (same_name q a is_a) ∙ same_name q b is_b))
    ∙ ap (cond (same q a) (Some x)) (sym (after_insert files b y q))
    ∙ sym (after_insert (insert files b y) a x q))

-- what a file that was set holds
pub content_same : (files : FileMap) (name bytes : List ℕ) → content (insert files name bytes) name ≡ bytes
content_same files name bytes = ap (λ o. unwrap_or o []) (get_same files name bytes)

-- bytes appended to those of a file that was set
pub appended-insert : (files : FileMap) (name prefix back : List ℕ)
    → appended (insert files name prefix) name back ≡ insert files name (prefix ++ back)
appended-insert files name prefix [] = ap (insert files name) (sym (append-nil prefix))
appended-insert files name prefix (byte ∷ back) =
    insert_again files name prefix (content (insert files name prefix) name ++ byte ∷ back)
    ∙ ap (λ bytes. insert files name (bytes ++ byte ∷ back)) (content_same files name prefix)

-- bytes are appended in pieces
pub appended-appended : (files : FileMap) (name prefix back : List ℕ)
    → appended (appended files name prefix) name back ≡ appended files name (prefix ++ back)
appended-appended files name [] back = refl
appended-appended files name (byte ∷ prefix) back =
    appended-insert files name (content files name ++ byte ∷ prefix) back
    ∙ ap (insert files name) (append_assoc (content files name) (byte ∷ prefix) back)
