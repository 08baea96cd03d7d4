-- The lines of archives.
use Rattle.std.proofs.Common.{◌≡◌, ◌∙◌, ℕ, ◌+◌, List, [], ◌∷◌, ◌++◌, Some, drop, length, refl, sym, ap, append_assoc, append-nil}
use Rattle.std.specs.Prelude.{slice_get}
use Rattle.tr_replies.specs.Text.{Text}
use Rattle.tr_console.proofs.DropLemmas.{drop-got, drop-all}
use Rattle.tr_console.specs.commands.Archives.{archive_line, archive_lines, lines_or_none}
use Rattle.tr_session.specs.Session.{SessionOf}
use Rattle.tr_session_book.specs.declared.archive.Archive.{Archive}
use Rattle.tr_stream.specs.Rules.{by_state}
use Rattle.tr_stream.specs.State.{StreamState}

module _ (s : SessionOf StreamState) where
  -- the lines that are written, and those that are left
  pub goes_on : (archives : List Archive) (i : ℕ) (a : Archive) (text more whole : Text) → slice_get archives i ≡ Some a
      → text ++ archive_lines by_state s (drop i archives) ≡ whole → more ≡ text ++ (archive_line by_state s a ++ 10 ∷ [])
      → more ++ archive_lines by_state s (drop (i + 1) archives) ≡ whole
  goes_on archives i a text more whole got so pushed =
      let line = archive_line by_state s a in
      let rest = archive_lines by_state s (drop (i + 1) archives) in
      ap (λ (m : Text). m ++ rest) pushed ∙ append_assoc text (line ++ 10 ∷ []) rest ∙ ap (λ (t : Text). text ++ t) (append_assoc line (10 ∷ []) rest)
      ∙ sym (ap (λ (bs : List Archive). text ++ archive_lines by_state s bs) (drop-got archives i a got)) ∙ so

  pub ends : (archives : List Archive) (i : ℕ) (text whole : Text) → i ≡ length archives
      → text ++ archive_lines by_state s (drop i archives) ≡ whole → text ≡ whole
  ends archives i text whole end so =
      sym (append-nil text) ∙ ap (λ (bs : List Archive). text ++ archive_lines by_state s bs)
      (sym (drop-all archives i end)) ∙ so

  -- if there are archives, their lines are the answer
  pub told : (archives : List Archive) → (archives ≡ [] → ⊥) → archive_lines by_state s archives ≡ lines_or_none by_state s archives
  told [] some = absurd (some refl)
  told (a ∷ archives) some = refl
