-- What is made of a session's archives, none of them released.
use Rattle.std.proofs.Common.{◌≡◌, ◌∙◌, ℕ, zero, suc, cond, refl, sym, ap, List, [], ◌∷◌, ◌++◌, length, map, Option, Some, None}
use Rattle.std.proofs.lemmas.List.{map-append}
use Rattle.std.specs.List.{AllByRecursion, flat_map}
use Rattle.std.specs.Prelude.{codes, nat_eq}
use Rattle.tr_book.specs.Parts.{PartState}
use Rattle.tr_chunk.specs.Files.{file_name, packets_text}
use Rattle.tr_export.specs.Archives.{archive_made, archives_made, chunk_made, metadata_file, part_file, part_of_stream, stream_files}
use Rattle.tr_export.specs.Making.{Makings}
use Rattle.tr_export.specs.Paths as export
use Rattle.tr_export.specs.declared.made.Made.TheVariants as made
use Rattle.tr_metadata.specs.Metadata.{metadata_with}
use Rattle.tr_recorded.proofs.BoxLemmas.{box_made, boxes_made, leaf_made}
use Rattle.tr_recorded.proofs.LeafLemmas.{box_of, leaf_of, leaves_of, metadata_leaf}
use Rattle.tr_recorded.proofs.PathLemmas.{file_is, folder_is}
use Rattle.tr_recorded.specs.Recorded.{HasItsArchives, archive_named}
use Rattle.tr_session.specs.Session.{SessionOf}
use Rattle.tr_session.specs.Sizes.{archive_released}
use Rattle.tr_session_book.specs.BookSteps.{channel_of}
use Rattle.tr_session_book.specs.declared.archive.Archive.{Archive}
use Rattle.tr_stream.specs.Rules.{by_state}
use Rattle.tr_stream.specs.State.{StreamState}
use Rattle.tr_survey.specs.Paths.{archives_folder}

module _ (dir name : List ℕ) (s : SessionOf StreamState) where
  abbrev folder : List ℕ
  folder = archives_folder dir name

  part-made : (archive : List ℕ) (i : ℕ) (channel : Option (List ℕ)) (part : Option PartState)
      → part_file (export.folder_of dir name archive) i channel part ≡ map (leaf_made folder archive) (leaf_of i channel part)
  part-made archive i None part = refl
  part-made archive i (Some channel) None = refl
  part-made archive i (Some channel) (Some part) =
      ap (λ (path : List ℕ). (made.File path (packets_text part.packets)) ∷ []) (sym (file_is dir name archive (file_name channel i)))

  files-made : (archive : List ℕ) (id i : ℕ)
      → stream_files (export.folder_of dir name archive) id s i ≡ map (leaf_made folder archive) (leaves_of s id i)
  files-made archive id zero = refl
  files-made archive id (suc i) =
      let channel = channel_of i s.book in
      let part = part_of_stream i id s in
      ap (λ (m : Makings). m ++ part_file (export.folder_of dir name archive) i channel part) (files-made archive id i)
      ∙ ap (λ (m : Makings). map (leaf_made folder archive) (leaves_of s id i) ++ m) (part-made archive i channel part)
      ∙ sym (map-append (leaf_made folder archive) (leaves_of s id i) (leaf_of i channel part))

  metadata-made : (archive : List ℕ) → metadata_file (export.folder_of dir name archive) s ≡ map (leaf_made folder archive) (metadata_leaf s)
  metadata-made archive =
      ap (λ (path : List ℕ). (made.File path (metadata_with s.book.events s.book.uuid)) ∷ []) (sym (file_is dir name archive (codes "metadata")))

  chunk-made : (a : Archive) → chunk_made (export.folder_of dir name (archive_named s.book a).name) a.id s ≡ box_made folder (box_of s a)
  chunk-made a =
      let archive = (archive_named s.book a).name in
      let n = length s.streams in
      ap (λ (m : Makings). made.Folder (export.folder_of dir name archive) ∷ (m ++ metadata_file (export.folder_of dir name archive) s)) (files-made archive a.id n)
      ∙ ap (λ (m : Makings). made.Folder (export.folder_of dir name archive) ∷ (map (leaf_made folder archive) (leaves_of s a.id n) ++ m)) (metadata-made archive)
      ∙ ap (λ (m : Makings). made.Folder (export.folder_of dir name archive) ∷ m)
      (sym (map-append (leaf_made folder archive) (leaves_of s a.id n) (metadata_leaf s)))
      ∙ ap (λ (path : List ℕ). made.Folder path ∷ map (leaf_made folder archive) (leaves_of s a.id n ++ metadata_leaf s)) (sym (folder_is dir name archive))

  pub archive-made : (a : Archive) → archive_released by_state a.id s ≡ 0 → archive_made dir name s a ≡ box_made folder (box_of s a)
  archive-made a none =
      ap (λ (n : ℕ). cond (nat_eq n 0) (chunk_made (export.folder_of dir name (archive_named s.book a).name) a.id s) []) none ∙ chunk-made a

  each-made : (archives : List Archive) → AllByRecursion (λ (a : Archive). archive_released by_state a.id s ≡ 0) archives
      → flat_map (archive_made dir name s) archives ≡ boxes_made folder (map (box_of s) archives)
  each-made [] none = refl
  each-made (a ∷ archives) none =
      ap (λ (m : Makings). m ++ flat_map (archive_made dir name s) archives) (archive-made a none.0)
      ∙ ap (λ (m : Makings). box_made folder (box_of s a) ++ m) (each-made archives none.1)

  pub made-is : HasItsArchives s → archives_made dir name s ≡ boxes_made folder (map (box_of s) s.book.archives)
  made-is none = each-made s.book.archives none
