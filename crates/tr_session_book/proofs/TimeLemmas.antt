-- Archives that follow each other in time, and their numbers.
use Rattle.std.proofs.Common.{◌≡◌, ◌∙◌, ◌≤◌, ◌⊎◌, inl, inr, ⊎_elim, ℕ, zero, suc, List, [], ◌∷◌, ◌++◌, length, Option, Some, None, slice_get, refl, sym, ap, subst, append-nil}
use Rattle.tr_session_book.specs.BookSteps.{AreChained, archive_pending, first_begin}
use Rattle.tr_session_book.specs.declared.archive.Archive.{Archive}
use Rattle.tr_session_book.specs.declared.archive.Pending.{Pending}

abbrev archive : ℕ → ℕ → ℕ → Archive
archive id begin end = record { id = id; begin = begin; end = end }

first-same : (archives : List Archive) (chunk end id : ℕ) → first_begin archives chunk ≡ first_begin (archives ++ archive id chunk end ∷ []) end
first-same [] chunk end id = refl
first-same (a ∷ archives) chunk end id = refl

-- the current chunk becomes an archive
one-more : (archives : List Archive) (chunk end id : ℕ) → AreChained archives chunk → chunk ≤ end
    → AreChained (archives ++ archive id chunk end ∷ []) end
one-more [] chunk end id are le = (le, refl, tt)
one-more (a ∷ archives) chunk end id are le = (are.0, are.1 ∙ first-same archives chunk end id, one-more archives chunk end id are.2 le)

-- that of the rotation that begins
pub chained-begun : (archives now : List Archive) (pending : Option Pending) (chunk end id : ℕ) → AreChained (archives ++ archive_pending pending) chunk
    → pending ≡ None → now ≡ archives → chunk ≤ end → AreChained (now ++ archive id chunk end ∷ []) end
chained-begun archives now pending chunk end id are none same le =
    let own = subst (λ (o : Option Pending). AreChained (archives ++ archive_pending o) chunk) none are in
    subst (λ (l : List Archive). AreChained (l ++ archive id chunk end ∷ []) end) (sym same)
    (one-more archives chunk end id (subst (λ (l : List Archive). AreChained l chunk) (append-nil archives) own) le)

-- that of the rotation that ends
pub chained-ended : (archives now : List Archive) (pending : Option Pending) (p : Pending) (chunk : ℕ) → AreChained (archives ++ archive_pending pending) chunk
    → pending ≡ Some p → now ≡ archives ++ p.archive ∷ [] → AreChained (now ++ []) chunk
chained-ended archives now pending p chunk are some more =
    subst (λ (l : List Archive). AreChained l chunk) (sym (append-nil now))
    (subst (λ (l : List Archive). AreChained l chunk) (sym more)
    (subst (λ (o : Option Pending). AreChained (archives ++ archive_pending o) chunk) some are))

-- ---- numbers

found-more : (archives : List Archive) (last found : Archive) (k : ℕ) → slice_get (archives ++ last ∷ []) k ≡ Some found
    → (slice_get archives k ≡ Some found) ⊎ ((k ≡ length archives) × (last ≡ found))
found-more [] last found zero at = inr (refl, cc)
found-more [] last found (suc k) at = absurd cc
found-more (a ∷ archives) last found zero at = inl at
found-more (a ∷ archives) last found (suc k) at =
    ⊎_elim (λ (e : slice_get archives k ≡ Some found). inl e)
    (λ (e : (k ≡ length archives) × (last ≡ found)). inr (ap suc e.0, e.1)) (found-more archives last found k at)

-- each archive's number is its place
pub numbered-more : (archives now : List Archive) (last : Archive)
    → ((k : ℕ) (archive : Archive) → slice_get archives k ≡ Some archive → archive.id ≡ k) → last.id ≡ length archives
    → now ≡ archives ++ last ∷ [] → (k : ℕ) (archive : Archive) → slice_get now k ≡ Some archive → archive.id ≡ k
numbered-more archives now last are next more k found at =
    let here : slice_get (archives ++ last ∷ []) k ≡ Some found = subst (λ (l : List Archive). slice_get l k ≡ Some found) more at in
    ⊎_elim (λ (e : slice_get archives k ≡ Some found). are k found e)
    (λ (e : (k ≡ length archives) × (last ≡ found)). ap (λ (a : Archive). a.id) (sym e.1) ∙ next ∙ sym e.0) (found-more archives last found k here)
