-- What a list of entries holds at a name, and what a write of one entry and a new entry make of it.
use Rattle.std.proofs.Common.{◌≡◌, ◌≢◌, ℕ, ◌+◌, ◌<◌, zero, suc, Bool, true, false, cond, List, [], ◌∷◌, ◌++◌, map, length, get_or}
use Rattle.std.proofs.Common.{set, take, Option, Some, None, ap, sym, ◌∙◌, refl, arith, subst, take_all, unwrap_or, eqb, Result, Ok, Err, OnErr}
use Rattle.std.proofs.lemmas.List.{map-set, map_push, set-get_or, take-map, get_or-map, length-map, map_more}
use Rattle.std.proofs.lemmas.Option.{slice_get-get_or, slice_get_past}
use Rattle.std.specs.Ordering.{nat_cmp, is_eq, eq_by_cmp}
use Rattle.std.specs.Cmp.{tied_itself}
use Rattle.std.specs.Cmp.Lexicographic.{slice_cmp, nat_list_cmp_total}
use Rattle.std.specs.FinMap.{find, get, insert, from_entries, get-from_entries, from_entries_push}
use Rattle.helix_outside.specs.Files.{FileMap, content, appended}
use Rattle.helix_outside.specs.FileLaws.{one_name, same_name, insert_again, insert_swap}
use Rattle.helix_outside.specs.Entries.{pair_of, files_of, bytes_of, bytes_at, IsIndex}
use Rattle.helix_outside.specs.declared.entries.Entry.{Entry}

-- a name with its bytes
abbrev pub Pair : Type 0
Pair = List ℕ × List ℕ

abbrev pub same : List ℕ → List ℕ → Bool
same = eq_by_cmp (slice_cmp nat_cmp)

abbrev pub found : List ℕ → List Pair → Option (List ℕ)
found = find (slice_cmp nat_cmp)

abbrev files : List Pair → FileMap
files = from_entries

-- what is missing in a list is not its first entry, and missing in the rest
skipped : {X : Type 0} (b : Bool) (x : X) (o : Option X) → cond b (Some x) o ≡ None → (b ≡ false) × (o ≡ None)
skipped true x o e = cc
skipped false x o e = (refl, e)

tied : (name : List ℕ) → same name name ≡ true
tied name = ap is_eq (tied_itself nat_list_cmp_total name)

untied : (a b : List ℕ) → same a b ≡ false → a ≢ b
untied a b e is = let t : same a b ≡ true = subst (λ (x : List ℕ). same a x ≡ true) is (tied a) in cc

answers_no : (a b : List ℕ) (r : Bool) → same a b ≡ r → b ≢ a → r ≡ false
answers_no a b true e apart = absurd (apart (sym (same_name a b e)))
answers_no a b false e apart = refl

-- one more entry with another name
found_push : (es : List Pair) (e : Pair) (name : List ℕ) → found name es ≡ None → e.0 ≢ name
    → found name (es ++ e ∷ []) ≡ None
found_push [] e name none apart = ap (λ b. cond b (Some e.1) None) (answers_no name e.0 _ refl apart)
found_push (f ∷ es) e name none apart =
    let parts = skipped (same name f.0) f.1 (found name es) none in
    ap (λ b. cond b (Some f.1) (found name (es ++ e ∷ []))) parts.0 ∙ found_push es e name parts.1 apart

-- the first entry with a name has what is found there
found_first : (es : List Pair) (i : ℕ) (name : List ℕ) (d : Pair) → i < length es → (get_or es i d).0 ≡ name
    → found name (take i es) ≡ None → found name es ≡ Some (get_or es i d).1
found_first [] i name d within named first = absurd (omega arith)
found_first (e ∷ es) zero name d within named first =
    let is : same name e.0 ≡ true = subst (λ (x : List ℕ). same name x ≡ true) (sym named) (tied name) in
    ap (λ b. cond b (Some e.1) (found name es)) is
found_first (e ∷ es) (suc i) name d within named first =
    let parts = skipped (same name e.0) e.1 (found name (take i es)) first in
    ap (λ b. cond b (Some e.1) (found name es)) parts.0 ∙ found_first es i name d (omega arith) named parts.1

-- the first entry with a name is written
files-set : (es : List Pair) (i : ℕ) (name bytes : List ℕ) (d : Pair) → i < length es → (get_or es i d).0 ≡ name
    → found name (take i es) ≡ None → files (set es i (name, bytes)) ≡ insert (files es) name bytes
files-set [] i name bytes d within named first = absurd (omega arith)
files-set (e ∷ es) zero name bytes d within named first =
    sym (insert_again (files es) name e.1 bytes) ∙ ap (λ n. insert (insert (files es) n e.1) name bytes) (sym named)
files-set (e ∷ es) (suc i) name bytes d within named first =
    let parts = skipped (same name e.0) e.1 (found name (take i es)) first in
    ap (λ (m : FileMap). insert m e.0 e.1) (files-set es i name bytes d (omega arith) named parts.1)
    ∙ insert_swap (files es) name bytes e.0 e.1 (untied name e.0 parts.0)

module _ (entries : List Entry) (name : List ℕ) where
  pub missing_more : (i : ℕ) (d : Entry) → i < length entries → found name (map pair_of (take i entries)) ≡ None
      → (get_or entries i d).name.items ≢ name → found name (map pair_of (take (i + 1) entries)) ≡ None
  missing_more i d within none apart =
      ap (found name) (map_more pair_of entries i d within)
      ∙ found_push (map pair_of (take i entries)) (pair_of (get_or entries i d)) name none apart

  pub missing_all : (i : ℕ) → length entries ≡ i → found name (map pair_of (take i entries)) ≡ None
      → get (files_of entries) name ≡ None
  missing_all i all none =
      get-from_entries nat_list_cmp_total (map pair_of entries) name
      ∙ ap (λ (es : List Entry). found name (map pair_of es)) (sym (take_all i entries (omega arith)))
      ∙ none

  module _ (index : ℕ) (is : IsIndex entries name index) where
    pair_at : (d : Entry) → get_or (map pair_of entries) index (pair_of d) ≡ pair_of (get_or entries index d)
    pair_at d = get_or-map pair_of entries index d (pair_of d) is.within

    within : index < length (map pair_of entries)
    within = omega (arith, length-map entries pair_of, is.within)

    named : (d : Entry) → (get_or (map pair_of entries) index (pair_of d)).0 ≡ name
    named d = ap (λ (e : Pair). e.0) (pair_at d) ∙ is.named d

    first : found name (take index (map pair_of entries)) ≡ None
    first = ap (found name) (take-map pair_of index entries) ∙ is.first

    pub index_get : (d : Entry) → get (files_of entries) name ≡ Some (get_or entries index d).bytes.items
    index_get d =
        get-from_entries nat_list_cmp_total (map pair_of entries) name
        ∙ found_first (map pair_of entries) index name (pair_of d) within (named d) first
        ∙ ap (λ (e : Pair). Some e.1) (pair_at d)

    pub index_set : (e : Entry) → e.name.items ≡ name
        → files_of (set entries index e) ≡ insert (files_of entries) name e.bytes.items
    index_set e is_named =
        ap files (map-set pair_of entries index e
        ∙ ap (λ n. set (map pair_of entries) index (n, e.bytes.items)) is_named)
        ∙ files-set (map pair_of entries) index name e.bytes.items (pair_of e) within (named e) first

  -- a new entry whose name is missing
  pub files_push : (e : Entry) → get (files_of entries) name ≡ None → e.name.items ≡ name
      → files_of (entries ++ e ∷ []) ≡ insert (files_of entries) name e.bytes.items
  files_push e none is_named =
      ap files (map_push pair_of entries e ∙ ap (λ n. map pair_of entries ++ (n, e.bytes.items) ∷ []) is_named)
      ∙ from_entries_push nat_list_cmp_total one_name (map pair_of entries) name e.bytes.items
      (sym (get-from_entries nat_list_cmp_total (map pair_of entries) name) ∙ none)

-- the same list under another name
pub index_in : (a b : List Entry) (name : List ℕ) (index : ℕ) → a ≡ b → IsIndex a name index → IsIndex b name index
index_in a b name index e is = subst (λ (es : List Entry). IsIndex es name index) e is

-- an entry is written with what it had
pub index_kept : (entries : List Entry) (index : ℕ) (e d : Entry) → index < length entries
    → e.name.items ≡ (get_or entries index d).name.items → e.bytes.items ≡ (get_or entries index d).bytes.items
    → files_of (set entries index e) ≡ files_of entries
index_kept entries index e d within names bytes =
    let pairs : pair_of e ≡ get_or (map pair_of entries) index (pair_of d) =
    (λ i. (names i, bytes i)) ∙ sym (get_or-map pair_of entries index d (pair_of d) within) in
    ap files (map-set pair_of entries index e
    ∙ ap (set (map pair_of entries) index) pairs
    ∙ set-get_or (map pair_of entries) index (pair_of d))

-- bytes appended to those of a file that is there
pub appended_found : (files : FileMap) (name bytes held : List ℕ) → get files name ≡ Some held → 0 < length bytes
    → appended files name bytes ≡ insert files name (held ++ bytes)
appended_found files name [] held is some = absurd (omega arith)
appended_found files name (byte ∷ bytes) held is some =
    ap (λ o. insert files name (unwrap_or o [] ++ byte ∷ bytes)) is

-- an index and the end have what the files hold
pub bytes_at_index : (entries : List Entry) (name : List ℕ) (index : ℕ) → IsIndex entries name index
    → bytes_at entries index ≡ content (files_of entries) name
bytes_at_index [] name index is = absurd (omega (arith, is.within))
bytes_at_index (e ∷ entries) name index is =
    ap bytes_of (slice_get-get_or (e ∷ entries) index e is.within)
    ∙ sym (ap (λ o. unwrap_or o []) (index_get (e ∷ entries) name index is e))

pub bytes_at_end : (entries : List Entry) (name : List ℕ) → get (files_of entries) name ≡ None
    → bytes_at entries (length entries) ≡ content (files_of entries) name
bytes_at_end entries name none =
    ap bytes_of (slice_get_past entries (length entries) (omega arith)) ∙ sym (ap (λ o. unwrap_or o []) none)

-- a fact on how a failure left things
pub on_err : {T E P : Type 0} (r : Result T E) → P → OnErr r P
on_err (Ok x) p = tt
on_err (Err e) p = p

pub not_empty : (n : ℕ) → false ≡ eqb n 0 → 0 < n
not_empty zero e = cc
not_empty (suc n) e = omega arith
