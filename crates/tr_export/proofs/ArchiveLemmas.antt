-- What the parts of an archive make together.
use Rattle.std.proofs.Common.{◌≡◌, ◌∙◌, ℕ, zero, suc, ◌+◌, ◌-◌, ◌<◌, List, [], ◌∷◌, ◌++◌, length, Option, refl, subst, sym, ap, append_assoc, append-nil, arith}
use Rattle.std.specs.Prelude.{codes}
use Rattle.tr_chunk.specs.ArchiveName.{archive_name_text}
use Rattle.tr_export.proofs.MakingLemmas.{made_after, front_before, front_after}
use Rattle.tr_export.specs.Archives.{stream_file, stream_files, metadata_file, chunk_made, archive_made}
use Rattle.tr_export.specs.Making.{Makings, and_then_made, MadePrefix}
use Rattle.tr_export.specs.Paths.{folder_of, path_of}
use Rattle.tr_export.specs.declared.made.Made.TheVariants.{Folder, File}
use Rattle.tr_metadata.specs.Metadata.{metadata_with}
use Rattle.tr_session.specs.Session.{SessionOf}
use Rattle.tr_session.specs.Sizes.{archive_released}
use Rattle.tr_session_book.specs.declared.archive.Archive.{Archive}
use Rattle.tr_stream.specs.Rules.{by_state}
use Rattle.tr_stream.specs.State.{StreamState}

module _ (folder : List ℕ) (id : ℕ) (s : SessionOf StreamState) where
  -- k more streams
  files_up : (k i : ℕ) → (rest : Makings) × (stream_files folder id s (k + i) ≡ stream_files folder id s i ++ rest)
  files_up zero i = let none : 0 + i ≡ i = omega arith in ([], ap (stream_files folder id s) none ∙ sym (append-nil (stream_files folder id s i)))
  files_up (suc k) i =
      let more = files_up k i in
      let next : suc k + i ≡ suc (k + i) = omega arith in (
        more.0 ++ stream_file folder id s (k + i),
        ap (stream_files folder id s) next ∙ ap (λ (ms : Makings). ms ++ stream_file folder id s (k + i)) more.1
            ∙ append_assoc (stream_files folder id s i) more.0 (stream_file folder id s (k + i)),
      )

  -- the files of the first i streams, and a prefix of the next one's
  pub streams_cut : (start now after : Option Makings) (i n : ℕ) → i < n → n ≡ length s.streams
      → now ≡ and_then_made start (stream_files folder id s i) → MadePrefix now after (stream_file folder id s i)
      → MadePrefix start after (stream_files folder id s (length s.streams))
  streams_cut start now after i n within is first made =
      let up = files_up (n - suc i) (suc i) in
      let all : length s.streams ≡ (n - suc i) + suc i = omega (arith, within, is) in
      let next = front_after start now after (stream_files folder id s i) (stream_file folder id s i)
      (stream_files folder id s (suc i)) refl first made in
      front_before start after (stream_files folder id s (suc i)) up.0 (stream_files folder id s (length s.streams))
      (ap (stream_files folder id s) all ∙ up.1) next

  abbrev files : Makings
  files = stream_files folder id s (length s.streams)

  metadata_is : (path text : List ℕ) → path ≡ path_of folder (codes "metadata") → text ≡ metadata_with s.book.events s.book.uuid
      → File path text ∷ [] ≡ metadata_file folder s
  metadata_is path text at of =
      ap (λ (p : List ℕ). File p text ∷ []) at
      ∙ ap (λ (t : List ℕ). File (path_of folder (codes "metadata")) t ∷ []) of

  -- the folder and all streams
  pub filled : (start one two : Option Makings) → one ≡ and_then_made start (Folder folder ∷ []) → two ≡ and_then_made one files
      → two ≡ and_then_made start (Folder folder ∷ files)
  filled start one two first second = made_after start one two (Folder folder ∷ []) files first second

  -- and the metadata
  pub chunk_whole : (start one two after : Option Makings) (path text : List ℕ) → path ≡ path_of folder (codes "metadata")
      → text ≡ metadata_with s.book.events s.book.uuid → one ≡ and_then_made start (Folder folder ∷ []) → two ≡ and_then_made one files
      → after ≡ and_then_made two (File path text ∷ []) → after ≡ and_then_made start (chunk_made folder id s)
  chunk_whole start one two after path text at of first second third =
      made_after start two after (Folder folder ∷ files) (metadata_file folder s) (filled start one two first second)
      (third ∙ ap (and_then_made two) (metadata_is path text at of))

  -- and a prefix of the metadata
  pub chunk_cut : (start one two after : Option Makings) (path text : List ℕ) → path ≡ path_of folder (codes "metadata")
      → text ≡ metadata_with s.book.events s.book.uuid → one ≡ and_then_made start (Folder folder ∷ []) → two ≡ and_then_made one files
      → MadePrefix two after (File path text ∷ []) → MadePrefix start after (chunk_made folder id s)
  chunk_cut start one two after path text at of first second made =
      front_after start two after (Folder folder ∷ files) (metadata_file folder s) (chunk_made folder id s) refl
      (filled start one two first second) (subst (λ (ms : Makings). MadePrefix two after ms) (metadata_is path text at of) made)

  -- the folder, and a prefix of the streams' files
  pub files_cut : (start one after : Option Makings) → one ≡ and_then_made start (Folder folder ∷ []) → MadePrefix one after files
      → MadePrefix start after (chunk_made folder id s)
  files_cut start one after first made =
      front_after start one after (Folder folder ∷ []) (files ++ metadata_file folder s) (chunk_made folder id s) refl first
      (front_before one after files (metadata_file folder s) (files ++ metadata_file folder s) refl made)

module _ (dir name : List ℕ) (s : SessionOf StreamState) (a : Archive) where
  -- an archive that has all its parts is a chunk in the folder of its name
  held-made : archive_released by_state a.id s ≡ 0
      → chunk_made (folder_of dir name (archive_name_text a.begin a.end s.book.offset a.id)) a.id s ≡ archive_made dir name s a
  held-made held = rw held refl

  pub archive_whole : (start after : Option Makings) (folder : List ℕ) → archive_released by_state a.id s ≡ 0
      → folder ≡ folder_of dir name (archive_name_text a.begin a.end s.book.offset a.id)
      → after ≡ and_then_made start (chunk_made folder a.id s) → after ≡ and_then_made start (archive_made dir name s a)
  archive_whole start after folder held at made =
      made ∙ ap (λ (f : List ℕ). and_then_made start (chunk_made f a.id s)) at ∙ ap (and_then_made start) (held-made held)

  pub archive_cut : (start after : Option Makings) (folder : List ℕ) → archive_released by_state a.id s ≡ 0
      → folder ≡ folder_of dir name (archive_name_text a.begin a.end s.book.offset a.id)
      → MadePrefix start after (chunk_made folder a.id s) → MadePrefix start after (archive_made dir name s a)
  archive_cut start after folder held at made =
      subst (λ (ms : Makings). MadePrefix start after ms) (ap (λ (f : List ℕ). chunk_made f a.id s) at ∙ held-made held) made
